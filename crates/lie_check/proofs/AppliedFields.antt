-- The prolonged field applied to an equation, as a sum over numbered coefficients.
use Rattle.std.specs.Prelude.{◌≡◌, ℕ, zero, suc, ◌+◌, ◌<◌, Bool, true, false, cond, List, [], ◌∷◌, filter, map, pos, negsuc, unsigned_abs}
use Rattle.std.proofs.Common.{refl, sym, ap, ap₂, subst, ◌∙◌, arith, get_or, length}
use Rattle.std.specs.List.{range_with_len}
use Rattle.std.proofs.lemmas.List.{get_or-map, length-map}
use Rattle.std.proofs.lemmas.List.Elements.{All-from_recursion}
use Rattle.std.proofs.lemmas.List.FromFn.{map-range_with_len_more}
use Rattle.lie_math.specs.Derivation.{sum_of, numbers_below}
use Rattle.lie_math.specs.FiniteSumLaws.{plus_comm, plus_idl}
use Rattle.lie_math.specs.Limits.{absolute}
use Rattle.lie_math.specs.PartialDerivative.{partial}
use Rattle.lie_math.specs.Polynomial.{WholePolynomial, terms, 0ᴾ, ◌+ᴾ◌, ◌*ᴾ◌}
use Rattle.lie_math.specs.Variables.{FreeOf, IsIn}
use Rattle.lie_math.proofs.Variables.{partial-outside}
use Rattle.lie_geometry.specs.Coordinates.{Space, coordinate, coordinates_up_to}
use Rattle.lie_geometry.specs.Invariance.{greatest_order, applied_prolongation}
use Rattle.lie_geometry.specs.Prolongation.{coefficient_at}
use Rattle.lie_geometry.specs.SolvedEquations.{SolvedEquation, difference}
use Rattle.lie_reduce.proofs.Differences.{absolute_sides}
use Rattle.lie_reduce.specs.Applications.{sides, applied_to, absolute_coefficients}
use Rattle.lie_reduce.specs.Occurrences.{AreAmong}
use Rattle.lie_solved.specs.declared.solved.LeadRule.{LeadRule}
use Rattle.lie_solved.specs.SolvedForms.{solved_equation, solved_equations}
use Rattle.lie_check.specs.Actions.{application_bulk}
use Rattle.lie_check.specs.Coefficients.{is_among, coefficients_among}
use Rattle.lie_jet.proofs.BoundedPolynomials.{absolute_in}
use Rattle.lie_reduce.proofs.ApplicationSteps.{applied-append, right_none}
use Rattle.lie_reduce.proofs.Products.{times-none}

-- ---- sums over numbered coefficients
numbered_sum : (C : ℕ → WholePolynomial) (P : WholePolynomial) (n : ℕ) → applied_to (map (λ w. (w, C w)) (range_with_len 0 n)) P ≡ sum_of (numbers_below n) (λ w. C w *ᴾ partial w P)
numbered_sum C P zero = refl
numbered_sum C P (suc n) =
    ap (λ k. applied_to (map (λ (w : ℕ). (w, C w)) (range_with_len 0 k)) P) (more n)
    ∙ ap (λ xs. applied_to xs P) (map-range_with_len_more (λ (w : ℕ). (w, C w)) 0 n n (plain n)) ∙ applied-append (map (λ (w : ℕ). (w, C w)) (range_with_len 0 n)) ((n, C n) ∷ []) P
    ∙ ap₂ ◌+ᴾ◌ (numbered_sum C P n) (right_none (C n *ᴾ partial n P) 0ᴾ refl) ∙ plus_comm terms (sum_of (numbers_below n) (λ w. C w *ᴾ partial w P)) (C n *ᴾ partial n P)
  where
    more : (n : ℕ) → suc n ≡ n + 1
    more n = omega arith

    plain : (n : ℕ) → 0 + n ≡ n
    plain n = omega arith

sizes-map : (C : ℕ → WholePolynomial) (ws : List ℕ) → absolute_coefficients (map (λ w. (w, C w)) ws) ≡ map (λ w. (w, absolute (C w))) ws
sizes-map C [] = refl
sizes-map C (w ∷ ws) = ap (λ xs. (w, absolute (C w)) ∷ xs) (sizes-map C ws)

-- ---- the coefficients at coordinates that don't occur can be left out
module _ (T : ℕ → Bool) (C : ℕ → WholePolynomial) (P : WholePolynomial) (occurs : IsIn T P) where
  applied_where : (ws : List ℕ) → applied_to (map (λ w. (w, C w)) (filter T ws)) P ≡ applied_to (map (λ w. (w, C w)) ws) P
  applied_where [] = refl
  applied_where (w ∷ ws) = by (T w) refl (applied_where ws)
    where
      by : (t : Bool) → T w ≡ t → applied_to (map (λ (w : ℕ). (w, C w)) (filter T ws)) P ≡ applied_to (map (λ (w : ℕ). (w, C w)) ws) P → applied_to (map (λ (w : ℕ). (w, C w)) (cond t (w ∷ filter T ws) (filter T ws))) P ≡ C w *ᴾ partial w P +ᴾ applied_to (map (λ (w : ℕ). (w, C w)) ws) P
      by true e rest = ap (λ q. C w *ᴾ partial w P +ᴾ q) rest
      by false e rest = rest ∙ sym (ap (λ q. C w *ᴾ q +ᴾ applied_to (map (λ (w : ℕ). (w, C w)) ws) P) (partial-outside T w e P occurs) ∙ ap (λ q. q +ᴾ applied_to (map (λ (w : ℕ). (w, C w)) ws) P) (times-none (C w)) ∙ plus_idl terms _)

module _ (S : Space) (rs : List SolvedEquation) (V : ℕ → WholePolynomial) (r : SolvedEquation) (numbers : List ℕ) (occurs : IsIn (is_among numbers) (difference r)) where
  pub application_is : (cs : List (ℕ × WholePolynomial)) → cs ≡ coefficients_among S V numbers (coordinates_up_to S (greatest_order S rs)) → applied_to cs (difference r) ≡ applied_prolongation S rs V r
  unfolding applied_prolongation
  application_is cs e =
      let C : ℕ → WholePolynomial = λ w. coefficient_at S V (coordinate S w) in
      ap (λ xs. applied_to xs (difference r)) e ∙ applied_where (is_among numbers) C (difference r) occurs (range_with_len 0 (coordinates_up_to S (greatest_order S rs))) ∙ numbered_sum C (difference r) (coordinates_up_to S (greatest_order S rs))

  pub application_bulk_is : (cs : List (ℕ × WholePolynomial)) → FreeOf r.lead r.right → cs ≡ coefficients_among S V numbers (coordinates_up_to S (greatest_order S rs)) → applied_to (absolute_coefficients cs) (sides r.lead (pos (unsigned_abs r.factor)) (pos 1) (absolute r.right)) ≡ application_bulk S rs V r
  application_bulk_is cs free e =
      let C : ℕ → WholePolynomial = λ w. coefficient_at S V (coordinate S w) in
      ap₂ applied_to (ap absolute_coefficients e ∙ sizes-map C (filter (is_among numbers) (range_with_len 0 (coordinates_up_to S (greatest_order S rs))))) (sym (absolute_sides r.lead r.factor (negsuc 0) r.right refl free))
      ∙ applied_where (is_among numbers) (λ w. absolute (C w)) (absolute (difference r)) (absolute_in (is_among numbers) (difference r) occurs) (range_with_len 0 (coordinates_up_to S (greatest_order S rs)))
      ∙ numbered_sum (λ w. absolute (C w)) (absolute (difference r)) (coordinates_up_to S (greatest_order S rs))

-- the equation of a rule is one in coordinates that are among the numbers
pub rule_among : (S : Space) (rules : List LeadRule) (ns numbers : List ℕ) (i : ℕ) (r : LeadRule) → AreAmong S rules ns → numbers ≡ ns → i < length rules → r ≡ get_or rules i r → IsIn (is_among numbers) (difference (solved_equation S r))
rule_among S rules ns numbers i r among e lt is =
    subst (λ ws. IsIn (is_among ws) (difference (solved_equation S r))) (sym e)
    (subst (λ (q : SolvedEquation). IsIn (is_among ns) (difference q)) (get_or-map (solved_equation S) rules i r (solved_equation S r) lt ∙ ap (solved_equation S) (sym is))
    (All-from_recursion (λ (q : SolvedEquation). IsIn (is_among ns) (difference q)) (solved_equations S rules) among i (solved_equation S r) (subst (λ n. i < n) (sym (length-map rules (solved_equation S))) lt)))
