-- What stands at a place: in a list, among the equations of rules, among the coordinates.
use Rattle.std.specs.Prelude.{◌≡◌, ℕ, zero, suc, ◌-◌, ◌<◌, List, [], ◌∷◌, length, cond, slice_index_or}
use Rattle.std.specs.List.{Contains}
use Rattle.std.proofs.Common.{refl, sym, ap, subst, ◌∙◌, arith, get_or, lt-ltb}
use Rattle.std.proofs.lemmas.List.{get_or-map, length-map}
use Rattle.lie_geometry.specs.Coordinates.{Space, independent, coordinate, nth_of_order, seek, jets_below}
use Rattle.lie_geometry.specs.SolvedEquations.{SolvedEquation}
use Rattle.lie_solved.specs.declared.solved.LeadRule.{LeadRule}
use Rattle.lie_solved.specs.SolvedForms.{solved_equation, solved_equations}

pub at_place : {X : Type 0} (xs : List X) (k : ℕ) (x d : X) → k < length xs → x ≡ slice_index_or xs k x → x ≡ slice_index_or xs k d
at_place [] k x d h e = absurd (omega arith)
at_place (y ∷ xs) zero x d h e = e
at_place (y ∷ xs) (suc k) x d h e = at_place xs k x d (omega arith) e

pub independent_at : (S : Space) (w : ℕ) → w < S.p → coordinate S w ≡ independent w
unfolding coordinate
independent_at S w h = ap (λ t. cond t (independent w) (nth_of_order S (seek (jets_below S) (w - S.p) (w - S.p)) ((w - S.p) - jets_below S (seek (jets_below S) (w - S.p) (w - S.p))))) (lt-ltb w S.p h)

-- ---- the equations of rules
module _ (S : Space) (rules : List LeadRule) where
  abbrev equations : List SolvedEquation
  equations = solved_equations S rules

  pub contained : (i : ℕ) (d : LeadRule) → i < length rules → Contains equations (solved_equation S (get_or rules i d))
  contained i d h = (i, (let e = length-map rules (solved_equation S) in omega arith), get_or-map (solved_equation S) rules i d (solved_equation S (get_or rules i d)) h)

  -- an equation that is contained is that of a rule
  pub of_contained : (P : SolvedEquation → Type 0) → ((k : ℕ) (d : LeadRule) → k < length rules → P (solved_equation S (get_or rules k d))) → (r : SolvedEquation) → Contains equations r → P r
  of_contained P h r c = by rules refl
    where
      inside : c.0 < length rules
      inside = let e = length-map rules (solved_equation S) in let l : c.0 < length equations = c.1 in omega arith

      by : (xs : List LeadRule) → xs ≡ rules → P r
      by [] q = absurd (let z : 0 ≡ length rules = ap length q in let i = inside in omega (arith, i))
      by (d ∷ xs) q = subst P (sym (get_or-map (solved_equation S) rules c.0 d r inside) ∙ c.2) (h c.0 d inside)
