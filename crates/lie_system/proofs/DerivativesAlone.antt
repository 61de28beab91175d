-- Polynomials that are a derivative alone.
use Rattle.std.specs.Prelude.{ℕ, ◌≡◌, ◌≤◌, ◌+◌, ◌==◌, nat_lt, Bool, true, false, List, [], ◌∷◌, ℤ, pos, negsuc, Some, None, if◌then◌else◌, refl}
use Rattle.std.proofs.Common.{sym, ap, ◌∙◌, arith}
use Rattle.std.proofs.lemmas.Bool.Decides.{nat_tests}
use Rattle.lie_math.specs.FiniteSum as finite
use Rattle.lie_math.specs.FiniteSumLaws.{list-of, same_list}
use Rattle.lie_math.specs.Monomial.{Monomial, powers, single}
use Rattle.lie_math.specs.Polynomial.{WholePolynomial, terms, variable}
use Rattle.lie_geometry.specs.Coordinates.{Space, Coordinate, coordinate, number}
use Rattle.lie_geometry.proofs.Numbers.{coordinate_is}
use Rattle.lie_jet.specs.Jets.{IsSmall}
use Rattle.lie_system.specs.LeadsAlone.{derivative_alone, is_one, lead_alone}
use Rattle.lie_system.proofs.LeadNumbers.{list-single}

-- ---- a derivative alone
-- the terms are one derivative with the exponent 1 and the number 1
pub record AreDerivative (S : Space) (es : List (Monomial × ℤ)) (c : Coordinate) : Type 0 where
  pub monomial : Monomial
  pub variable : ℕ
  pub terms : es ≡ (monomial, pos 1) ∷ []
  pub powers : monomial.list ≡ (variable, 1) ∷ []
  pub derivative : S.p + S.q ≤ variable
  pub is : coordinate S variable ≡ c

one_is : (z : ℤ) → is_one z ≡ true → z ≡ pos 1
one_is (pos n) h = let e : n ≡ 1 = grind (arith, nat_tests, h) in ap pos e
one_is (negsuc n) h = cc

one_derivative : (S : Space) (ps : List (ℕ × ℕ)) (c : Coordinate) → derivative_alone S ps ≡ Some c → (w : ℕ) × (ps ≡ (w, 1) ∷ []) × (S.p + S.q ≤ w) × (coordinate S w ≡ c)
one_derivative S [] c h = cc
one_derivative S (p ∷ []) c h = go (nat_lt p.0 (S.p + S.q)) (p.1 == 1) refl refl h
  where
    go : (a b : Bool) → nat_lt p.0 (S.p + S.q) ≡ a → (p.1 == 1) ≡ b → (if a then None else (if b then Some (coordinate S p.0) else None)) ≡ Some c → (w : ℕ) × (p ∷ [] ≡ (w, 1) ∷ []) × (S.p + S.q ≤ w) × (coordinate S w ≡ c)
    go true b e f h = cc
    go false true e f h = let one : p.1 ≡ 1 = grind (arith, nat_tests, f) in (p.0, ap (λ (n : ℕ). (p.0, n) ∷ []) one, grind (arith, nat_tests, e), cc)
    go false false e f h = cc
one_derivative S (p ∷ r ∷ ps) c h = cc

pub alone-is : (S : Space) (es : List (Monomial × ℤ)) (c : Coordinate) → lead_alone S es ≡ Some c → AreDerivative S es c
alone-is S [] c h = cc
alone-is S (t ∷ []) c h = go (is_one t.1) refl h
  where
    go : (b : Bool) → is_one t.1 ≡ b → (if b then derivative_alone S (t.0).list else None) ≡ Some c → AreDerivative S (t ∷ []) c
    go true e h =
        let d = one_derivative S (t.0).list c h in
        record { monomial = t.0; variable = d.0; terms = ap (λ (z : ℤ). (t.0, z) ∷ []) (one_is t.1 e); powers = d.1; derivative = d.2; is = d.3 }
    go false e h = cc
alone-is S (t ∷ u ∷ ts) c h = cc

-- such a polynomial is that variable
pub variable_is : (S : Space) → IsSmall S → (diff : WholePolynomial) (c : Coordinate) → AreDerivative S diff.list c → diff ≡ variable (number S c)
unfolding finite.term
variable_is S small diff c h =
    let is : h.variable ≡ number S c = sym ((coordinate_is S small.some_p small.some_q h.variable).1) ∙ ap (number S) h.is in
    let alone : h.monomial ≡ single (number S c) = same_list powers h.monomial (single (number S c)) (h.powers ∙ ap (λ (w : ℕ). (w, 1) ∷ []) is ∙ sym (list-single (number S c))) in
    same_list terms diff (variable (number S c)) (h.terms ∙ ap (λ (m : Monomial). (m, pos 1) ∷ []) alone ∙ sym (list-of terms ((single (number S c), pos 1) ∷ []) tt))
