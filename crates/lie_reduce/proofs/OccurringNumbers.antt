-- The numbers of the coordinates in the equations of rules.
use Rattle.std.specs.Prelude.{◌≡◌, ℕ, ◌+◌, ◌<◌, ◌||◌, Bool, true, eqb, List, [], ◌∷◌, ◌++◌, length, take, negsuc}
use Rattle.std.specs.List.{AllByRecursion as Every, list_any}
use Rattle.std.proofs.Common.{refl, sym, ap, subst, ◌∙◌, eq-eqb, get_or, append-nil}
use Rattle.lie_math.specs.Polynomial.{constant, variable, ◌*ᴾ◌, negᴾ}
use Rattle.lie_math.specs.Variables.{IsIn}
use Rattle.lie_math.proofs.EveryElement.{every-front, every-back, every-weaken}
use Rattle.lie_math.proofs.Variables.{in-+ᴾ, in-*ᴾ, in-constant, in-variable}
use Rattle.lie_geometry.specs.Coordinates.{Space}
use Rattle.lie_geometry.specs.SolvedEquations.{SolvedEquation, difference}
use Rattle.lie_ring.proofs.Fronts.{take_more}
use Rattle.lie_solved.specs.declared.solved.LeadRule.{LeadRule}
use Rattle.lie_solved.specs.Equations.{variables_of}
use Rattle.lie_solved.specs.SolvedForms.{solved_equation, solved_equations}
use Rattle.lie_solved.proofs.Variables.{in_every}
use Rattle.lie_reduce.specs.Applications.{lead_number}
use Rattle.lie_reduce.specs.Occurrences.{numbers_of_rule, AreAmong}

abbrev pub numbers_of_rules : Space → List LeadRule → List ℕ
numbers_of_rules S [] = []
numbers_of_rules S (r ∷ rules) = numbers_of_rule S r ++ numbers_of_rules S rules

-- ---- each number is among all
or_right : (a b : Bool) → b ≡ true → (a || b) ≡ true
or_right Rattle.std.specs.Prelude.true b h = refl
or_right Rattle.std.specs.Prelude.false b h = h

among_themselves : (ws : List ℕ) → Every (λ w. list_any (λ n. eqb n w) ws ≡ true) ws
among_themselves [] = tt
among_themselves (v ∷ ws) = (ap (λ t. t || list_any (λ n. eqb n v) ws) (eq-eqb v v refl), every-weaken (λ w. list_any (λ n. eqb n w) ws ≡ true) (λ w. (eqb v w || list_any (λ n. eqb n w) ws) ≡ true) (λ w h. or_right (eqb v w) _ h) ws (among_themselves ws))

-- ---- an equation is in coordinates that pass a test where its numbers do
in_equation : (S : Space) (f : ℕ → Bool) (r : LeadRule) → Every (λ w. f w ≡ true) (numbers_of_rule S r) → IsIn f (difference (solved_equation S r))
in_equation S f r h =
    in-+ᴾ f (constant r.c *ᴾ variable (lead_number S r)) (negᴾ r.right)
    (in-*ᴾ f (constant r.c) (variable (lead_number S r)) (in-constant f r.c) (in-variable f (lead_number S r) h.0))
    (in-*ᴾ f (constant (negsuc 0)) r.right (in-constant f (negsuc 0)) (in_every f r.right h.1))

in_equations : (S : Space) (f : ℕ → Bool) (rules : List LeadRule) → Every (λ w. f w ≡ true) (numbers_of_rules S rules) → Every (λ q. IsIn f (difference q)) (solved_equations S rules)
in_equations S f [] h = tt
in_equations S f (r ∷ rules) h =
    (in_equation S f r (every-front (λ w. f w ≡ true) (numbers_of_rule S r) (numbers_of_rules S rules) h), in_equations S f rules (every-back (λ w. f w ≡ true) (numbers_of_rule S r) (numbers_of_rules S rules) h))

pub all_among : (S : Space) (rules : List LeadRule) (ws : List ℕ) → ws ≡ numbers_of_rules S rules → AreAmong S rules ws
all_among S rules ws e = in_equations S (λ w. list_any (λ n. eqb n w) ws) rules (subst (Every (λ w. list_any (λ n. eqb n w) ws ≡ true)) e (among_themselves ws))

-- ---- one rule more
numbers-append : (S : Space) (rules others : List LeadRule) → numbers_of_rules S (rules ++ others) ≡ numbers_of_rules S rules ++ numbers_of_rules S others
numbers-append S [] others = refl
numbers-append S (r ∷ rules) others = ap (λ ws. numbers_of_rule S r ++ ws) (numbers-append S rules others) ∙ sym (Rattle.std.proofs.Common.append_assoc (numbers_of_rule S r) (numbers_of_rules S rules) (numbers_of_rules S others))

pub numbers_more : (S : Space) (rules : List LeadRule) (i : ℕ) (r : LeadRule) → i < length rules → r ≡ get_or rules i r → numbers_of_rules S (take (i + 1) rules) ≡ numbers_of_rules S (take i rules) ++ numbers_of_rule S r
numbers_more S rules i r lt is = ap (numbers_of_rules S) (sym (take_more rules i r lt is)) ∙ numbers-append S (take i rules) (r ∷ []) ∙ ap (λ ws. numbers_of_rules S (take i rules) ++ ws) (append-nil (numbers_of_rule S r))
