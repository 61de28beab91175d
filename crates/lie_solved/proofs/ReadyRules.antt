-- The rules of a solved form: high leads, positive factors, and right sides of low orders.
use Rattle.std.specs.Prelude.{◌≡◌, ℕ, suc, ◌+◌, ◌<◌, ◌≤◌, ◌⊎◌, Bool, List, [], ◌∷◌, length, pos, negsuc, unsigned_abs}
use Rattle.std.proofs.Common.{sym, ap, subst, ◌∙◌, arith, inl, inr, lt-ltb}
use Rattle.std.proofs.lemmas.List.{length-take-le}
use Rattle.std.specs.List.{AllByRecursion as Every}
use Rattle.std.proofs.lemmas.List.Elements.{All-from_recursion}
use Rattle.lie_math.proofs.Differences.{less_difference}
use Rattle.lie_math.specs.Derivation.{is_below}
use Rattle.lie_math.specs.Polynomial.{WholePolynomial, constant, variable, ◌*ᴾ◌, ◌+ᴾ◌, negᴾ}
use Rattle.lie_math.specs.Variables.{IsIn}
use Rattle.lie_math.proofs.Variables.{in-+ᴾ, in-*ᴾ, in-constant, in-variable}
use Rattle.lie_geometry.specs.Coordinates.{Space, number, coordinates_up_to, order_of}
use Rattle.lie_geometry.specs.SolvedEquations.{SolvedEquation, difference}
use Rattle.lie_geometry.proofs.Numbers.{coordinate-number}
use Rattle.lie_geometry.proofs.NumberOrder.{order_below}
use Rattle.lie_system.specs.Systems.{EquationRead}
use Rattle.lie_jet.specs.Jets.{coordinate_of, IsJet}
use Rattle.lie_solved.specs.declared.solved.LeadRule.{LeadRule}
use Rattle.lie_solved.specs.SolvedForms.{solved_equation, solved_equations, IsSolvedBy, AreSolvedBy}
use Rattle.lie_system.specs.Written.{IsWritten, AreWritten}
use Rattle.lie_solved.specs.Equations.{AreRules, HaveJets}
use Rattle.lie_solved.specs.Refusals.{HasNoLead}
use Rattle.lie_solved.specs.SolvedRules.{AreSolvedRules, IsPositiveNumber}
use Rattle.lie_solved.proofs.RuleSteps.{form_of_rules}

module _ (S : Space) where
  high_leads : (es : List EquationRead) (rs : List SolvedEquation) → AreSolvedBy S es rs → Every (λ (r : SolvedEquation). S.p + S.q ≤ r.lead) rs
  high_leads [] [] h = tt
  high_leads [] (r ∷ rs) h = absurd h
  high_leads (e ∷ es) [] h = absurd h
  high_leads (e ∷ es) (r ∷ rs) h = (h.0.derivative, high_leads es rs h.1)

  positive_factors : (es : List EquationRead) (rules : List LeadRule) → AreSolvedBy S es (solved_equations S rules) → Every (λ (r : LeadRule). IsPositiveNumber r.c) rules
  positive_factors [] [] h = tt
  positive_factors [] (r ∷ rs) h = absurd h
  positive_factors (e ∷ es) [] h = absurd h
  positive_factors (e ∷ es) (r ∷ rs) h = (positive h.0.positive.0 h.0.positive.1, positive_factors es rs h.1)
    where
      positive : (n : ℕ) → r.c ≡ pos (suc n) → IsPositiveNumber r.c
      positive n is = (is ∙ ap (λ z. pos (unsigned_abs z)) (sym is), subst (λ z. 1 ≤ unsigned_abs z) (sym is) (let some : 1 ≤ suc n = omega arith in some))

  -- ---- right sides
  pub jet_low : (r : LeadRule) → IsJet S 6 r.lead → number S (coordinate_of S r.lead) < coordinates_up_to S 6
  jet_low r j =
      let four = j.four in
      let few = j.space.few_p in
      (order_below S j.space.some_p j.space.some_q (number S (coordinate_of S r.lead)) 6).0
      (subst (λ d. order_of d ≤ 6) (sym (coordinate-number S j.space.some_p j.space.some_q (coordinate_of S r.lead) (j.dependent, length-take-le S.p r.lead.counts (omega arith)))) j.low)

  abbrev low : ℕ → Bool
  low = is_below (coordinates_up_to S 6)

  low_negative : (p : WholePolynomial) → IsIn low p → IsIn low (negᴾ p)
  low_negative p h = in-*ᴾ low (constant (negsuc 0)) p (in-constant low (negsuc 0)) h

  low_difference : (e : EquationRead) (r : SolvedEquation) → IsWritten S e → (difference r ≡ e.diff) ⊎ (difference r ≡ negᴾ e.diff) → IsIn low (difference r)
  low_difference e r w (inl is) = subst (IsIn low) (sym is) w.diff
  low_difference e r w (inr is) = subst (IsIn low) (sym is) (low_negative e.diff w.diff)

  low_right : (e : EquationRead) (r : LeadRule) → IsWritten S e → IsJet S 6 r.lead → IsSolvedBy S e (solved_equation S r) → IsIn low r.right
  low_right e r w j s =
      let a : WholePolynomial = constant r.c *ᴾ variable (number S (coordinate_of S r.lead)) in
      subst (IsIn low) (less_difference a r.right)
      (in-+ᴾ low a (negᴾ (a +ᴾ negᴾ r.right))
      (in-*ᴾ low (constant r.c) (variable (number S (coordinate_of S r.lead))) (in-constant low r.c) (in-variable low (number S (coordinate_of S r.lead)) (lt-ltb (number S (coordinate_of S r.lead)) (coordinates_up_to S 6) (jet_low r j))))
      (low_negative (a +ᴾ negᴾ r.right) (low_difference e (solved_equation S r) w s.same)))

  low_rights : (es : List EquationRead) (rules : List LeadRule) → Every (IsWritten S) es → HaveJets S rules → AreSolvedBy S es (solved_equations S rules) → Every (λ (r : LeadRule). IsIn low r.right) rules
  low_rights [] [] w j h = tt
  low_rights [] (r ∷ rs) w j h = absurd h
  low_rights (e ∷ es) [] w j h = absurd h
  low_rights (e ∷ es) (r ∷ rs) w j h = (low_right e r w.0 j.0 h.0, low_rights es rs w.1 j.1 h.1)

pub ready_rules : (S : Space) (es : List EquationRead) (rules all : List LeadRule) → AreWritten S es → length all ≤ 16 → AreRules S es rules → all ≡ rules → Every (HasNoLead (solved_equations S all)) (solved_equations S all) → AreSolvedRules S rules
ready_rules S es rules all w few h e none = record {
  few = subst (λ (rs : List LeadRule). length rs ≤ 16) e few;
  solved = (form_of_rules S es rules all h e none).solved;
  jets = h.jets;
  high = All-from_recursion (λ (r : SolvedEquation). S.p + S.q ≤ r.lead) (solved_equations S rules) (high_leads S es (solved_equations S rules) h.passed.equations);
  positive = positive_factors S es rules h.passed.equations;
  rights = low_rights S es rules w.equations h.jets h.passed.equations;
}
