-- The rules of equations, one after the other.
use Rattle.std.specs.Prelude.{◌≡◌, ℕ, zero, suc, ◌+◌, ◌<◌, ◌≤◌, ◌||◌, Bool, true, false, not, eqb, List, [], ◌∷◌, ◌++◌, length, map, take, drop, get_or, ℤ, pos, negsuc, unsigned_abs}
use Rattle.std.proofs.Common.{refl, sym, ap, subst, ◌∙◌, arith, add-one, true≢false}
use Rattle.std.proofs.Math.Seq.{take-suc}
use Rattle.std.proofs.lemmas.Bool.{eq-eqb, or_left, or_right, or_parts, or_from}
use Rattle.std.proofs.lemmas.List.{length-map, length-take-le, map-append}
use Rattle.std.proofs.lemmas.List.Elements.{All-from_recursion}
use Rattle.std.proofs.lemmas.List.Quantifiers.{all_pairs_push}
use Rattle.std.proofs.lemmas.List.Folds.{list_any-append}
use Rattle.std.specs.List.{AllByRecursion as Every, list_any}
use Rattle.lie_math.specs.Monomial.{Monomial}
use Rattle.lie_math.specs.Polynomial.{WholePolynomial, polynomial_of}
use Rattle.lie_math.specs.Variables.{FreeOf}
use Rattle.lie_geometry.specs.Coordinates.{Space, number}
use Rattle.lie_geometry.specs.SolvedEquations.{SolvedEquation, is_lead}
use Rattle.lie_ring.specs.Rankings.{degree_rank}
use Rattle.lie_jet.specs.Jets.{coordinate_of, IsJet}
use Rattle.lie_jet.specs.declared.jet.Jet.{Jet}
use Rattle.lie_system.specs.Systems.{EquationRead}
use Rattle.lie_solved.specs.declared.solved.LeadRule.{LeadRule}
use Rattle.lie_solved.specs.declared.solved.NotKind.TheVariants.{NoDerivative, LeadNotLinear, LeadRepeated, LeadInside}
use Rattle.lie_solved.specs.declared.rule.RuleFail.{RuleFail}
use Rattle.lie_solved.specs.declared.rule.RuleFail.TheVariants.{Not, NoMemory}
use Rattle.lie_solved.specs.Leads.{JetOrder, IsLinearIn}
use Rattle.lie_solved.specs.SolvedForms.{solved_equation, solved_equations, IsSolvedUnder, AreSolvedUnder, AreSolvedBy, HaveDistinctLeads, IsSolvedFormUnder, IsSolvedForm}
use Rattle.lie_solved.specs.Refusals.{ArePassedUnder, IsReached, HasLeadNotLinear, HasNoLead, IsFirstInside, IsSolveFormCause}
use Rattle.lie_system.specs.Written.{IsWritten}
use Rattle.lie_solved.specs.Equations.{IsRule, AreRules, HasLead, IsLinearWith, turned, rest_of, is_plain, variables_in, variables_of}
use Rattle.lie_solved.specs.Causes.{IsRuleCause, failed_at}
use Rattle.lie_solved.proofs.Variables.{in_every, every_in, variables_in_more, variables_of_more}
use Rattle.lie_solved.proofs.OtherTerms.{free_rest, sides}
use Rattle.lie_math.proofs.EveryElement.{every-append}

-- ---- one equation
-- a number that is not 0 is positive without its sign
pub positive_of : (c : ℤ) → ¬ (c ≡ pos 0) → (n : ℕ) × (pos (unsigned_abs c) ≡ pos (suc n))
positive_of (pos zero) n = absurd (n refl)
positive_of (pos (suc k)) n = (k, refl)
positive_of (negsuc k) n = (k, refl)

pub turned_plain : (c : ℤ) → pos (unsigned_abs c) ≡ turned (not (is_plain c)) c
turned_plain (pos n) = refl
turned_plain (negsuc n) = refl

pub rule_is : (S : Space) (e : EquationRead) (j : Jet) (w : ℕ) (c d : ℤ) (right : WholePolynomial) → HasLead S e j → w ≡ number S (coordinate_of S j) → IsLinearWith w e.diff c → d ≡ pos (unsigned_abs c) → right ≡ polynomial_of (rest_of w (is_plain c) (e.diff).list) → IsRule S e (record { lead = j; c = d; right = right })
rule_is S e j w c d right h n l f is = record {
  solves = record {
    lead = h.lead;
    derivative = h.derivative;
    positive = subst (λ z. (n : ℕ) × (z ≡ pos (suc n))) (sym f) (positive_of c (λ z. l.linear.term (l.coefficient ∙ z)));
    free = subst (λ p. FreeOf (number S (coordinate_of S j)) p) (sym is) (subst (λ v. FreeOf v (polynomial_of (rest_of w (is_plain c) (e.diff).list))) n (free_rest w (is_plain c) e.diff));
    same = sides w e.diff c l (is_plain c) (record { lead = number S (coordinate_of S j); factor = d; right = right }) (sym n) (f ∙ turned_plain c) is;
  };
  jet = h.jet;
}

pub not_linear : (S : Space) (e : EquationRead) (j : Jet) (w : ℕ) → HasLead S e j → w ≡ number S (coordinate_of S j) → ¬ (IsLinearIn w e.diff) → HasLeadNotLinear S e
not_linear S e j w h n bent = record { some = h.some; lead = number S (coordinate_of S j); is = h.lead; bent = subst (λ v. ¬ (IsLinearIn v e.diff)) n bent }

-- the failure of one equation is that of the system
pub cause_at : (S : Space) (e : EquationRead) (fail : RuleFail) (k : ℕ) → IsRuleCause S e fail → (es : List EquationRead) (rs : List SolvedEquation) → IsReached S es k rs e → IsSolveFormCause S es (failed_at k fail)
cause_at S e (Not NoDerivative) k h es rs at = (rs, e, at, h)
cause_at S e (Not LeadNotLinear) k h es rs at = (rs, e, at, h)
cause_at S e (Not LeadRepeated) k h es rs at = absurd h
cause_at S e (Not LeadInside) k h es rs at = absurd h
cause_at S e NoMemory k h es rs at = tt

pub lead_at : (S : Space) (rules : List LeadRule) (i : ℕ) (r : LeadRule) → i < length rules → r ≡ get_or rules i r → is_lead (solved_equations S rules) (number S (coordinate_of S r.lead)) ≡ true
lead_at S [] i r lt is = absurd (omega arith)
lead_at S (x ∷ rules) zero r lt is = or_left _ _ (ap (λ (y : LeadRule). eqb (number S (coordinate_of S r.lead)) (number S (coordinate_of S y.lead))) (sym is) ∙ eq-eqb (number S (coordinate_of S r.lead)) (number S (coordinate_of S r.lead)) refl)
lead_at S (x ∷ rules) (suc i) r lt is = or_right _ _ (lead_at S rules i r (omega arith) is)

pub not_lead_at : (rs : List SolvedEquation) (w k : ℕ) (d : SolvedEquation) → is_lead rs w ≡ false → k < length rs → ¬ ((get_or rs k d).lead ≡ w)
not_lead_at [] w k d h lt e = absurd (omega arith)
not_lead_at (r ∷ rs) w zero d h lt e = true≢false (sym (ap (eqb w) e ∙ eq-eqb w w refl) ∙ (or_parts (eqb w r.lead) (is_lead rs w) h).0)
not_lead_at (r ∷ rs) w (suc k) d h lt e = not_lead_at rs w k d (or_parts (eqb w r.lead) (is_lead rs w) h).1 (omega arith) e

-- ---- lists up to a place
module _ {X Y : Type 0} (f : X → Y) where
  map_more : (xs : List X) (i : ℕ) (x : X) → i < length xs → x ≡ get_or xs i x → map f (take (i + 1) xs) ≡ map f (take i xs) ++ f x ∷ []
  map_more xs i x lt is = ap (λ n. map f (take n xs)) (add-one i) ∙ ap (map f) (take-suc xs i x lt) ∙ ap (λ y. map f (take i xs ++ y ∷ [])) (sym is) ∙ map-append f (take i xs) (x ∷ [])

  split_at : (xs : List X) (i : ℕ) (x : X) → i < length xs → x ≡ get_or xs i x → map f xs ≡ map f (take i xs) ++ f x ∷ map f (drop (suc i) xs)
  split_at [] i x lt is = absurd (omega arith)
  split_at (y ∷ xs) zero x lt is = ap (λ z. f z ∷ map f xs) (sym is)
  split_at (y ∷ xs) (suc i) x lt is = ap (λ ys. f y ∷ ys) (split_at xs i x (omega arith) is)

  length_taken : (xs : List X) (i : ℕ) → i < length xs → i + 1 ≡ suc (length (map f (take i xs)))
  length_taken xs i lt = let a = length-map (take i xs) f in let b = length-take-le i xs (omega arith) in omega arith

module _ (rank : JetOrder) (S : Space) where
  pub solved-append : (es : List EquationRead) (rs : List SolvedEquation) (e : EquationRead) (r : SolvedEquation) → AreSolvedUnder rank S es rs → IsSolvedUnder rank S e r → AreSolvedUnder rank S (es ++ e ∷ []) (rs ++ r ∷ [])
  solved-append [] [] e r h k = (k, tt)
  solved-append [] (s ∷ rs) e r h k = absurd h
  solved-append (d ∷ es) [] e r h k = absurd h
  solved-append (d ∷ es) (s ∷ rs) e r h k = (h.0, solved-append es rs e r h.1 k)

module _ (S : Space) where
  -- ---- the first equations
  pub written_at : {X : Type 0} (f : X → EquationRead) (xs : List X) (i : ℕ) (x : X) → i < length xs → x ≡ get_or xs i x → Every (IsWritten S) (map f xs) → IsWritten S (f x)
  written_at f [] i x lt is h = absurd (omega arith)
  written_at f (y ∷ xs) zero x lt is h = subst (λ z. IsWritten S (f z)) (sym is) h.0
  written_at f (y ∷ xs) (suc i) x lt is h = written_at f xs i x (omega arith) is h.1

  pub reached_at : {X : Type 0} (f : X → EquationRead) (xs : List X) (i : ℕ) (x : X) (rules : List LeadRule) → i < length xs → x ≡ get_or xs i x → AreRules S (map f (take i xs)) rules → IsReached S (map f xs) (i + 1) (solved_equations S rules) (f x)
  reached_at f xs i x rules lt is h = record {
    before = map f (take i xs);
    after = map f (drop (suc i) xs);
    place = split_at f xs i x lt is;
    number = length_taken f xs i lt;
    passed = h.passed;
  }

  pub rules_more : {X : Type 0} (f : X → EquationRead) (xs : List X) (i : ℕ) (x : X) (rules : List LeadRule) (r : LeadRule) → i < length xs → x ≡ get_or xs i x → AreRules S (map f (take i xs)) rules → IsRule S (f x) r → is_lead (solved_equations S rules) (solved_equation S r).lead ≡ false → AreRules S (map f (take (i + 1) xs)) (rules ++ r ∷ [])
  rules_more f xs i x rules r lt is h k n =
      let rs = map-append (solved_equation S) rules (r ∷ []) in
      record {
        passed = record {
          equations = subst (λ es. AreSolvedBy S es (solved_equations S (rules ++ r ∷ []))) (sym (map_more f xs i x lt is)) (subst (AreSolvedBy S (map f (take i xs) ++ f x ∷ [])) (sym rs) (solved-append degree_rank S (map f (take i xs)) (solved_equations S rules) (f x) (solved_equation S r) h.passed.equations k.solves));
          leads = subst HaveDistinctLeads (sym rs) (all_pairs_push (λ r s. ¬ (r.lead ≡ s.lead)) (solved_equations S rules) (solved_equation S r) h.passed.leads (λ j d lt. not_lead_at (solved_equations S rules) (solved_equation S r).lead j d n lt));
        };
        jets = every-append (λ (r : LeadRule). IsJet S 6 r.lead) rules (r ∷ []) h.jets (k.jet, tt);
      }

  pub rules_few : (es : List EquationRead) (rs : List SolvedEquation) → AreSolvedBy S es rs → length es ≡ length rs
  rules_few [] [] h = refl
  rules_few [] (r ∷ rs) h = absurd h
  rules_few (e ∷ es) [] h = absurd h
  rules_few (e ∷ es) (r ∷ rs) h = ap suc (rules_few es rs h.1)

-- ---- leads inside
module _ (f : ℕ → Bool) where
  pub any_in_at : (ps : List (ℕ × ℕ)) (i : ℕ) (d : ℕ × ℕ) → i < length ps → f (get_or ps i d).0 ≡ true → list_any f (variables_in ps) ≡ true
  any_in_at [] i d lt e = absurd (omega arith)
  any_in_at (p ∷ ps) zero d lt e = or_left (f p.0) (list_any f (variables_in ps)) e
  any_in_at (p ∷ ps) (suc i) d lt e = or_right (f p.0) (list_any f (variables_in ps)) (any_in_at ps i d (omega arith) e)

  pub any_of_at : (ts : List (Monomial × ℤ)) (i : ℕ) (t : Monomial × ℤ) → i < length ts → t ≡ get_or ts i t → list_any f (variables_in (t.0).list) ≡ true → list_any f (variables_of ts) ≡ true
  any_of_at [] i t lt is e = absurd (omega arith)
  any_of_at (u ∷ ts) zero t lt is e = list_any-append f (variables_in (u.0).list) (variables_of ts) ∙ or_left _ (list_any f (variables_of ts)) (ap (λ (x : Monomial × ℤ). list_any f (variables_in (x.0).list)) (sym is) ∙ e)
  any_of_at (u ∷ ts) (suc i) t lt is e = list_any-append f (variables_in (u.0).list) (variables_of ts) ∙ or_right (list_any f (variables_in (u.0).list)) _ (any_of_at ts i t (omega arith) is e)

  pub none_in_more : (ps : List (ℕ × ℕ)) (i : ℕ) (d : ℕ × ℕ) → i < length ps → list_any f (variables_in (take i ps)) ≡ false → f (get_or ps i d).0 ≡ false → list_any f (variables_in (take (i + 1) ps)) ≡ false
  none_in_more ps i d lt h e =
      ap (list_any f) (variables_in_more ps i d lt) ∙ list_any-append f (variables_in (take i ps)) ((get_or ps i d).0 ∷ [])
      ∙ or_from (list_any f (variables_in (take i ps))) (list_any f ((get_or ps i d).0 ∷ [])) h (or_from (f (get_or ps i d).0) false e refl)

  pub none_of_more : (ts : List (Monomial × ℤ)) (i : ℕ) (t : Monomial × ℤ) → i < length ts → t ≡ get_or ts i t → list_any f (variables_of (take i ts)) ≡ false → list_any f (variables_in (t.0).list) ≡ false → list_any f (variables_of (take (i + 1) ts)) ≡ false
  none_of_more ts i t lt is h e =
      ap (list_any f) (variables_of_more ts i t lt is) ∙ list_any-append f (variables_of (take i ts)) (variables_in (t.0).list)
      ∙ or_from (list_any f (variables_of (take i ts))) (list_any f (variables_in (t.0).list)) h e

  pub none_every : (ws : List ℕ) → list_any f ws ≡ false → Every (λ w. not (f w) ≡ true) ws
  none_every [] h = tt
  none_every (w ∷ ws) h = (ap not (or_parts (f w) (list_any f ws) h).0, none_every ws (or_parts (f w) (list_any f ws) h).1)

  pub some_not_every : (ws : List ℕ) → list_any f ws ≡ true → Every (λ w. not (f w) ≡ true) ws → ⊥
  some_not_every [] h k = absurd (true≢false (sym h))
  some_not_every (w ∷ ws) h k = go (f w) h k.0 (λ e. some_not_every ws e k.1)
    where
      go : (b : Bool) → (b || list_any f ws) ≡ true → not b ≡ true → (list_any f ws ≡ true → ⊥) → ⊥
      go true h k rest = true≢false (sym k)
      go false h k rest = rest h

module _ (S : Space) (rules : List LeadRule) where
  pub none_more : (i : ℕ) (r : LeadRule) → i < length rules → r ≡ get_or rules i r → list_any (is_lead (solved_equations S rules)) (variables_of (r.right).list) ≡ false → Every (HasNoLead (solved_equations S rules)) (solved_equations S (take i rules)) → Every (HasNoLead (solved_equations S rules)) (solved_equations S (take (i + 1) rules))
  none_more i r lt is e h =
      subst (Every (HasNoLead (solved_equations S rules))) (sym (map_more (solved_equation S) rules i r lt is))
      (every-append (HasNoLead (solved_equations S rules)) (solved_equations S (take i rules)) (solved_equation S r ∷ []) h (in_every (λ w. not (is_lead (solved_equations S rules) w)) r.right (none_every (is_lead (solved_equations S rules)) (variables_of (r.right).list) e), tt))

  pub first_at : (i : ℕ) (r : LeadRule) → i < length rules → r ≡ get_or rules i r → list_any (is_lead (solved_equations S rules)) (variables_of (r.right).list) ≡ true → Every (HasNoLead (solved_equations S rules)) (solved_equations S (take i rules)) → IsFirstInside (solved_equations S rules) (i + 1)
  first_at i r lt is e h = record {
    before = solved_equations S (take i rules);
    rule = solved_equation S r;
    after = solved_equations S (drop (suc i) rules);
    place = split_at (solved_equation S) rules i r lt is;
    number = length_taken (solved_equation S) rules i lt;
    none = h;
    inside = λ k. some_not_every (is_lead (solved_equations S rules)) (variables_of (r.right).list) e (every_in (λ w. not (is_lead (solved_equations S rules) w)) r.right k);
  }

-- ---- all equations
factors_of : (rank : JetOrder) (S : Space) (es : List EquationRead) (rs : List SolvedEquation) → AreSolvedUnder rank S es rs → Every (λ (r : SolvedEquation). ¬ (r.factor ≡ pos 0)) rs
factors_of rank S [] [] h = tt
factors_of rank S [] (r ∷ rs) h = absurd h
factors_of rank S (e ∷ es) [] h = absurd h
factors_of rank S (e ∷ es) (r ∷ rs) h = ((λ z. let f = h.0.positive.1 in go (h.0.positive.0) (sym f ∙ z)), factors_of rank S es rs h.1)
  where
    go : (n : ℕ) → pos (suc n) ≡ pos zero → ⊥
    go n e = absurd (cc)

pub form_is : (rank : JetOrder) (S : Space) (es : List EquationRead) (rs : List SolvedEquation) → ArePassedUnder rank S es rs → Every (HasNoLead rs) rs → IsSolvedFormUnder rank S es rs
form_is rank S es rs h none = record {
  equations = h.equations;
  solved = record {
    factors = All-from_recursion (λ r. ¬ (r.factor ≡ pos 0)) rs (factors_of rank S es rs h.equations);
    leads = h.leads;
    rights = All-from_recursion (HasNoLead rs) rs none;
  };
}

pub form_of_rules : (S : Space) (es : List EquationRead) (rules all : List LeadRule) → AreRules S es rules → all ≡ rules → Every (HasNoLead (solved_equations S all)) (solved_equations S all) → IsSolvedForm S es (solved_equations S rules)
form_of_rules S es rules all h e none = form_is degree_rank S es (solved_equations S rules) h.passed (subst (λ rs. Every (HasNoLead (solved_equations S rs)) (solved_equations S rs)) e none)

pub few_rules : (S : Space) (es : List EquationRead) (rules all : List LeadRule) → length es ≤ 16 → AreRules S es rules → all ≡ rules → length all ≤ 16
few_rules S es rules all few h e = let a = rules_few S es (solved_equations S rules) h.passed.equations in let b = length-map rules (solved_equation S) in let d = ap length e in omega arith
