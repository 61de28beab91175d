-- A valid determining system is one for the components themselves.
use Rattle.std.specs.Prelude.{◌≡◌, ℕ, zero, suc, ◌+◌, ◌<◌, ◌≤◌, ltb, List, map}
use Rattle.std.proofs.Common.{refl, sym, ap, subst, ◌∙◌, arith}
use Rattle.std.specs.List.{AllByRecursion as Every, range_with_len}
use Rattle.lie_math.specs.Counts.{Derivative, derived, partials}
use Rattle.lie_math.specs.LinearForm.{LinearForm, apply}
use Rattle.lie_math.specs.LinearSystem.{Unknown, LinearSystem}
use Rattle.lie_math.specs.Polynomial.{WholePolynomial, polynomials, ◌*ᴾ◌}
use Rattle.lie_math.specs.Variables.{IsIn}
use Rattle.lie_math.proofs.EveryElement.{every-weaken, every_contained}
use Rattle.lie_math.proofs.FiniteSum.{sum_of_entries-same}
use Rattle.lie_geometry.specs.CoordinateLaws.{IsSpace}
use Rattle.lie_geometry.specs.Coordinates.{Space}
use Rattle.lie_geometry.specs.DeterminingEquations.{determining_system}
use Rattle.lie_geometry.specs.SolvedEquations.{SolvedEquation}
use Rattle.lie_systems.specs.ValidSystems.{IsValid, IsOwned, IsFormOf}
use Rattle.lie_determining.specs.Laws.{OpeningIsValid}
use Rattle.lie_determining.specs.Openings.{IsOpeningSystem}
use Rattle.lie_spans.specs.Openings.{IsOpening, SpeaksOf}

abbrev IsNumbered : ℕ → Unknown → Type 0
IsNumbered n f = (s : ℕ) × (s < n) × (f.number ≡ suc s)

numbered : (n a m : ℕ) → a + m ≤ n → (vs : List ℕ) → Every (IsNumbered n)
    (map (λ s. record { number = suc s; variables = vs }) (range_with_len a m))
numbered n a zero l vs = tt
numbered n a (suc m) l vs = ((a, omega arith, refl), numbered n (a + 1) m (omega arith) vs)

module _ (n : ℕ) (fs : List Unknown) (h : Every (IsNumbered n) fs) where
  speaks : (E : LinearForm) → IsFormOf n fs E → SpeaksOf n E
  unfolding apply
  speaks E o F G e = sum_of_entries-same polynomials (λ d a. a *ᴾ derived F d) (λ d a. a *ᴾ derived G d) E.list
      (every-weaken (λ (x : Derivative × WholePolynomial). IsOwned fs x.0 × IsIn (λ v. ltb v n) x.1)
      (λ (x : Derivative × WholePolynomial). x.1 *ᴾ derived F x.0 ≡ x.1 *ᴾ derived G x.0)
      (λ x p. ap (λ q. x.1 *ᴾ partials (x.0).counts q) (same x.0 p.0)) E.list o)
    where
      same : (d : Derivative) → IsOwned fs d → F d.unknown ≡ G d.unknown
      same d w =
          let k : IsNumbered n w.unknown = every_contained (IsNumbered n) fs w.unknown h w.listed in
          subst (λ u. F u ≡ G u) (sym k.2 ∙ w.number) (e k.0 k.1)

determining_is_opening : (S : Space) (es : List LinearForm) → IsValid (S.p + S.q) (determining_system S es) → IsOpening (S.p + S.q)
    (determining_system S es)
determining_is_opening S es h = record {
  unknowns = refl;
  general = refl;
  equations = every-weaken (IsFormOf (S.p + S.q) (determining_system S es).unknowns) (SpeaksOf (S.p + S.q))
      (speaks (S.p + S.q) (determining_system S es).unknowns
      (numbered (S.p + S.q) 0 (S.p + S.q) (omega arith) (range_with_len 0 (S.p + S.q)))) es h.equations;
}

pub opening_is_for_components : OpeningIsValid → (S : Space) → IsSpace S → (rs : List SolvedEquation) (T : LinearSystem)
    → IsOpeningSystem S rs T
    → IsOpening (S.p + S.q) T
opening_is_for_components valid S is rs T o =
    let v = valid S is rs T o in
    subst (IsOpening (S.p + S.q)) (sym o.2) (determining_is_opening S o.0 (subst (IsValid (S.p + S.q)) o.2 v))
