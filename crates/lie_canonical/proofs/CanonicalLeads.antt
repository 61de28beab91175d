-- The lead of an equation's canonical text: its own, and without one the derivative that the polynomial is.
use Rattle.std.specs.Prelude.{ℕ, zero, suc, ◌+◌, nat_lt, ◌≡◌, ◌≤◌, ◌<◌, false, List, [], ◌∷◌, ◌++◌, length, ℤ, pos, Option, Some, None, if◌then◌else◌, refl}
use Rattle.std.specs.List.{AllByRecursion as Every}
use Rattle.std.proofs.Common.{sym, ap, subst, ◌∙◌, arith}
use Rattle.std.proofs.lemmas.Bool.Decides.{nat_tests}
use Rattle.std.proofs.lemmas.List.{append-nil}
use Rattle.lie_math.specs.Monomial.{Monomial, single}
use Rattle.lie_math.specs.Polynomial.{WholePolynomial}
use Rattle.lie_geometry.specs.Coordinates.{Space, Coordinate, coordinate, coordinates_up_to, number, order_of}
use Rattle.lie_geometry.proofs.NumberOrder.{order_below}
use Rattle.lie_jet.specs.Jets.{IsSmall}
use Rattle.lie_canonical.specs.CanonicalText.{sides_text}
use Rattle.lie_system.specs.LeadsAlone.{derivative_alone, lead_alone}
use Rattle.lie_system.proofs.DerivativesAlone.{AreDerivative, alone-is}
use Rattle.lie_print.specs.Printing.{variable_text, sum_text}
use Rattle.lie_canonical.specs.RightSides.{plain_terms}
use Rattle.lie_scan.specs.SumGrammar.{IsLeadOf, HasLead}
use Rattle.lie_scan.proofs.FileCoordinates.{coordinate_good}
use Rattle.lie_system.proofs.LeadNumbers.{list-single, order_none, high_number}
use Rattle.lie_file.proofs.LeadSides.{lead_left}
use Rattle.lie_file.proofs.DistinctNames.{AreDistinct}
use Rattle.lie_canonical.proofs.PrintedPowers.{IsLowPower, variable_at_text}
use Rattle.lie_canonical.proofs.PrintedSums.{blank_front, IsLowTerm, read_terms}
use Rattle.lie_canonical.proofs.PrintedEquations.{same_terms, unsolved_left}
use Rattle.lie_scan.proofs.TermLaws.{AreSmall}

-- ---- a derivative alone
is-alone : (S : Space) (w : ℕ) → S.p + S.q ≤ w → lead_alone S ((single w, pos 1) ∷ []) ≡ Some (coordinate S w)
is-alone S w high = let test : nat_lt w (S.p + S.q) ≡ false = grind (arith, nat_tests, high) in ap (derivative_alone S) (list-single w) ∙ ap (λ b. if b then None else Some (coordinate S w)) test

-- its text
pub alone_text : (S : Space) (names : List ℕ) (m : Monomial) (w : ℕ) → m.list ≡ (w, 1) ∷ [] → sum_text S names (plain_terms ((m, pos 1) ∷ [])) ≡ variable_text S names w
alone_text S names m w h = rw h (append-nil _ ∙ append-nil _ ∙ append-nil (variable_text S names w))

-- ---- orders
module _ (S : Space) (small : IsSmall S) where
  derived : (w : ℕ) → S.p + S.q ≤ w → 1 ≤ order_of (coordinate S w)
  derived w high = go (order_of (coordinate S w)) refl
    where
      go : (n : ℕ) → order_of (coordinate S w) ≡ n → 1 ≤ n
      go zero e = let low : w < coordinates_up_to S 0 = (order_below S small.some_p small.some_q w 0).0 (omega arith) in let o = order_none S in absurd (omega arith)
      go (suc n) e = omega arith

-- ---- leads
number_first : List (Monomial × ℤ) → ℤ
number_first [] = pos 0
number_first (t ∷ ts) = t.1

-- terms that are read as one with the number 1 are that term
read_one : (es : List (Monomial × ℤ)) (x : Monomial) → read_terms false es ≡ (x, pos 1) ∷ [] → es ≡ (x, pos 1) ∷ []
unfolding number_first
read_one [] x h = let clash : pos 0 ≡ pos 1 = ap number_first h in cc
read_one (e ∷ es) x h = sym (same_terms (e ∷ es)) ∙ h

module _ (S : Space) (small : IsSmall S) (ind dep : List ℕ) (p : S.p ≡ length ind) (q : S.q ≡ length dep) (few : length ind ≤ 4) (distinct : AreDistinct [] ind) (others : AreDistinct [] dep) (all : AreDistinct [] (ind ++ dep))
    (many : length (ind ++ dep) ≡ S.p + S.q) where
  lead_is : (es : List (Monomial × ℤ)) (c : Coordinate) → Every (IsLowTerm S) es → AreDerivative S es c → IsLeadOf S (ind ++ dep) (32 ∷ (sum_text S (ind ++ dep) (plain_terms es) ++ 32 ∷ 61 ∷ 32 ∷ 48 ∷ [])) c
  lead_is es c low h =
      let rest : List ℕ = 32 ∷ 61 ∷ 32 ∷ 48 ∷ [] in
      let terms : Every (IsLowTerm S) ((h.monomial, pos 1) ∷ []) = subst (Every (IsLowTerm S)) h.terms low in
      let powers : Every (IsLowPower S) ((h.variable, 1) ∷ []) = subst (Every (IsLowPower S)) h.powers (terms.0).powers in
      let text : sum_text S (ind ++ dep) (plain_terms es) ≡ variable_text S (ind ++ dep) h.variable = ap (λ l. sum_text S (ind ++ dep) (plain_terms l)) h.terms ∙ alone_text S (ind ++ dep) h.monomial h.variable h.powers in
      let alone = variable_at_text S small ind dep p q few distinct others all h.variable rest (powers.0).variable refl refl in
      subst (IsLeadOf S (ind ++ dep) (32 ∷ (sum_text S (ind ++ dep) (plain_terms es) ++ rest))) h.is
      (subst (λ l. IsLeadOf S (ind ++ dep) (32 ∷ (l ++ rest)) (coordinate S h.variable)) (sym text) (record {
        behind = rest;
        right = 32 ∷ 48 ∷ [];
        alone = record { word = alone.word; front = blank_front (variable_text S (ind ++ dep) h.variable ++ rest) (alone.word ++ rest) alone.front; ended = alone.ended; name = alone.name };
        derivative = derived S small h.variable h.derivative;
        equals = record { blanks = 32 ∷ []; are = (refl, tt); spelled = refl };
      }))

  -- the lead of a polynomial that is 0
  pub unsolved_lead : (diff : WholePolynomial) → Every (IsLowTerm S) diff.list → AreSmall (read_terms false diff.list) → HasLead S (ind ++ dep) (32 ∷ sides_text S (ind ++ dep) None diff) (lead_alone S diff.list)
  unsolved_lead diff low sizes = go (lead_alone S diff.list) refl
    where
      go : (o : Option Coordinate) → lead_alone S diff.list ≡ o → HasLead S (ind ++ dep) (32 ∷ sides_text S (ind ++ dep) None diff) o
      go (Some c) e = lead_is diff.list c low (alone-is S diff.list c e)
      go None e = λ c lead.
          let rest : List ℕ = 32 ∷ 61 ∷ 32 ∷ 48 ∷ [] in
          let left = lead_left S (ind ++ dep) _ c (read_terms false diff.list) rest (32 ∷ 48 ∷ []) lead (unsolved_left S small ind dep p q few distinct others all diff low) (record { blanks = 32 ∷ []; are = (refl, tt); spelled = refl }) sizes in
          let good = coordinate_good S small (ind ++ dep) many _ c lead.behind lead.alone in
          let found = ap (lead_alone S) (read_one diff.list (single (number S c)) left) ∙ is-alone S (number S c) (high_number S small c good.coordinate lead.derivative) in
          let clash : ◌≡◌ {A = Option Coordinate} None (Some (coordinate S (number S c))) = sym e ∙ found in
          cc
