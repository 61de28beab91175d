-- The greatest number of a variable of an equation.
use Rattle.std.specs.Prelude.{◌≡◌, ℕ, suc, ◌+◌, ◌<◌, ◌≤◌, Bool, true, false, List, [], ◌∷◌, ◌++◌, length, take, get_or, max, ltb, ◌-◌, ◌⊎◌, not, map, cond, ℤ, pos, negsuc}
use Rattle.std.proofs.Common.{refl, sym, ap, ap₂, subst, ◌∙◌, arith, lt-ltb, ltb-true, inl, inr}
use Rattle.std.specs.List.{AllByRecursion as Every}
use Rattle.lie_solved.proofs.ReadyRules.{jet_low}
use Rattle.lie_math.specs.Canonical.{sum_of_entries-append}
use Rattle.lie_math.specs.Derivation.{is_below, bound}
use Rattle.std.proofs.lemmas.List.{get_or-map, length-map}
use Rattle.std.proofs.lemmas.List.{map-append}
use Rattle.lie_math.specs.Counts.{order}
use Rattle.lie_geometry.proofs.Numbers.{count_rises}
use Rattle.lie_geometry.proofs.NumberOrder.{order_below}
use Rattle.lie_math.specs.Monomial.{Monomial, unit}
use Rattle.lie_math.specs.Natural.{maxima}
use Rattle.lie_math.specs.Polynomial.{WholePolynomial, constant, variable, ◌*ᴾ◌, negᴾ}
use Rattle.lie_math.specs.SortedSum.{sum_of_entries}
use Rattle.lie_math.specs.Variables.{FreeOf, IsIn}
use Rattle.lie_math.proofs.Variables.{in-+ᴾ, in-*ᴾ, in-constant, in-variable, in-wider, in-bound, partial-outside}
use Rattle.lie_math.proofs.Limits.{term_apart}
use Rattle.lie_geometry.specs.Coordinates.{Space, number, coordinate, coordinates_up_to, order_of, Coordinate, independent, nth_of_order, seek, jets_below}
use Rattle.lie_geometry.specs.Invariance.{greatest_order}
use Rattle.lie_geometry.specs.SolvedEquations.{SolvedEquation, difference, is_lead}
use Rattle.lie_jet.specs.Jets.{coordinate_of, IsJet, IsSmall}
use Rattle.lie_jet.specs.declared.jet.Jet.{Jet}
use Rattle.lie_solved.specs.declared.solved.LeadRule.{LeadRule}
use Rattle.lie_solved.specs.SolvedForms.{solved_equation, solved_equations}
use Rattle.lie_solved.specs.SolvedRules.{AreSolvedRules, IsPositiveNumber}
use Rattle.lie_reduce.proofs.AbsoluteRules.{positive_apart}
use Rattle.lie_reduce.specs.SolvedRule.{IsSolvedRule}
use Rattle.lie_solved.proofs.RuleSteps.{lead_at}
use Rattle.lie_reduce.proofs.ApplicationSteps.{slope_at_lead}
use Rattle.lie_solved.specs.Equations.{variables_in, variables_of}
use Rattle.lie_math.proofs.EveryElement.{every-front, every-back}
use Rattle.lie_solved.proofs.Variables.{every_in}
use Rattle.lie_reduce.proofs.Factors.{read_same, every_rest}
use Rattle.lie_math.proofs.Differences.{less_difference}
use Rattle.lie_ring.proofs.Fronts.{take_more}

abbrev pub pairs_bound : List (ℕ × ℕ) → ℕ
pairs_bound ps = sum_of_entries maxima (λ w e. suc w) ps

abbrev pub terms_bound : List (Monomial × ℤ) → ℕ
terms_bound ts = sum_of_entries maxima (λ m a. pairs_bound m.list) ts

-- ---- one by one
pub pairs_more : (ps : List (ℕ × ℕ)) (i : ℕ) (d : ℕ × ℕ) (k g r : ℕ) → i < length ps → suc g ≡ max k (pairs_bound (take i ps)) → r ≡ max g (get_or ps i d).0 → suc r ≡ max k (pairs_bound (take (i + 1) ps))
pairs_more ps i d k g r lt h e =
    grown g (get_or ps i d).0 r k (pairs_bound (take i ps)) h e
    ∙ ap (max k) (sym (sum_of_entries-append maxima (λ w e. suc w) (take i ps) (get_or ps i d ∷ [])) ∙ ap pairs_bound (take_more ps i (get_or ps i d) lt (read_same ps i d (get_or ps i d) lt)))
  where
    grown : (g n r k b : ℕ) → suc g ≡ max k b → r ≡ max g n → suc r ≡ max k (max b (max (suc n) 0))
    grown g n r k b h e = omega arith

pub terms_more : (ts : List (Monomial × ℤ)) (i : ℕ) (t : Monomial × ℤ) (k g r : ℕ) (ps : List (ℕ × ℕ)) → i < length ts → t ≡ get_or ts i t → suc g ≡ max k (terms_bound (take i ts)) → ps ≡ (t.0).list → suc r ≡ max (suc g) (pairs_bound ps) → suc r ≡ max k (terms_bound (take (i + 1) ts))
terms_more ts i t k g r ps lt is h l e =
    grown g r k (terms_bound (take i ts)) (pairs_bound (t.0).list) h (e ∙ ap (λ qs. max (suc g) (pairs_bound qs)) l)
    ∙ ap (max k) (sym (sum_of_entries-append maxima (λ m a. pairs_bound m.list) (take i ts) (t ∷ [])) ∙ ap terms_bound (take_more ts i t lt is))
  where
    grown : (g r k b n : ℕ) → suc g ≡ max k b → suc r ≡ max (suc g) n → suc r ≡ max k (max b (max n 0))
    grown g r k b n h e = omega arith

-- ---- the bound of an equation
least_pairs : (n : ℕ) (ps : List (ℕ × ℕ)) → Every (λ w. is_below n w ≡ true) (variables_in ps) → pairs_bound ps ≤ n
least_pairs n [] h = omega arith
least_pairs n (p ∷ ps) h = let a : p.0 < n = ltb-true p.0 n h.0 in let b : pairs_bound ps ≤ n = least_pairs n ps h.1 in omega arith

least_terms : (n : ℕ) (ts : List (Monomial × ℤ)) → Every (λ w. is_below n w ≡ true) (variables_of ts) → terms_bound ts ≤ n
least_terms n [] h = omega arith
least_terms n (t ∷ ts) h =
    let a : pairs_bound (t.0).list ≤ n = least_pairs n (t.0).list (every-front (λ w. is_below n w ≡ true) (variables_in (t.0).list) (variables_of ts) h) in
    let b : terms_bound ts ≤ n = least_terms n ts (every-back (λ w. is_below n w ≡ true) (variables_in (t.0).list) (variables_of ts) h) in
    omega arith

pub least_bound : (n : ℕ) (P : WholePolynomial) → IsIn (is_below n) P → bound P ≤ n
least_bound n P h = least_terms n P.list (every_in (is_below n) P h)

wider_below : (m n : ℕ) → m ≤ n → (P : WholePolynomial) → IsIn (is_below m) P → IsIn (is_below n) P
wider_below m n h P = in-wider (is_below m) (is_below n) (λ w e. lt-ltb w n (let k : w < m = ltb-true w m e in omega arith)) P

pub bound_difference : (r : SolvedEquation) → ¬ (r.factor ≡ pos 0) → FreeOf r.lead r.right → bound (difference r) ≡ max (suc r.lead) (bound r.right)
bound_difference r n free =
    both (bound (difference r)) (suc r.lead) (bound r.right) (least_bound (max (suc r.lead) (bound r.right)) (difference r) inside) (lead_below (ltb r.lead (bound (difference r))) refl) (least_bound (bound (difference r)) r.right right_below)
  where
    both : (b l k : ℕ) → b ≤ max l k → l ≤ b → k ≤ b → b ≡ max l k
    both b l k h g f = omega arith

    inside : IsIn (is_below (max (suc r.lead) (bound r.right))) (difference r)
    inside =
        in-+ᴾ (is_below (max (suc r.lead) (bound r.right))) (constant r.factor *ᴾ variable r.lead) (negᴾ r.right)
        (in-*ᴾ (is_below (max (suc r.lead) (bound r.right))) (constant r.factor) (variable r.lead) (in-constant _ r.factor) (in-variable _ r.lead (lt-ltb r.lead (max (suc r.lead) (bound r.right)) (omega arith))))
        (in-*ᴾ (is_below (max (suc r.lead) (bound r.right))) (constant (negsuc 0)) r.right (in-constant _ (negsuc 0)) (wider_below (bound r.right) (max (suc r.lead) (bound r.right)) (omega arith) r.right (in-bound r.right)))

    lead_below : (t : Bool) → ltb r.lead (bound (difference r)) ≡ t → suc r.lead ≤ bound (difference r)
    lead_below true e = let k : r.lead < bound (difference r) = ltb-true r.lead (bound (difference r)) e in omega arith
    lead_below false e = absurd (term_apart unit r.factor n (slope_at_lead r.lead r.lead r.factor (negsuc 0) r.right refl free ∙ partial-outside (is_below (bound (difference r))) r.lead e (difference r) (in-bound (difference r))))

    right_below : IsIn (is_below (bound (difference r))) r.right
    right_below =
        subst (IsIn (is_below (bound (difference r)))) (less_difference (constant r.factor *ᴾ variable r.lead) r.right)
        (in-+ᴾ (is_below (bound (difference r))) (constant r.factor *ᴾ variable r.lead) (negᴾ (difference r))
        (in-*ᴾ (is_below (bound (difference r))) (constant r.factor) (variable r.lead) (in-constant _ r.factor) (in-variable _ r.lead (lt-ltb r.lead (bound (difference r)) (let k : suc r.lead ≤ bound (difference r) = lead_below (ltb r.lead (bound (difference r))) refl in omega arith))))
        (in-*ᴾ (is_below (bound (difference r))) (constant (negsuc 0)) (difference r) (in-constant _ (negsuc 0)) (in-bound (difference r))))

-- ---- orders
module _ (S : Space) where
  order-append : (rs : List SolvedEquation) (r : SolvedEquation) → greatest_order S (rs ++ r ∷ []) ≡ max (greatest_order S rs) (order_of (coordinate S (bound (difference r) - 1)))
  order-append [] r = swap (order_of (coordinate S (bound (difference r) - 1)))
    where
      swap : (n : ℕ) → max n 0 ≡ max 0 n
      swap n = omega arith
  order-append (s ∷ rs) r = ap (max (order_of (coordinate S (bound (difference s) - 1)))) (order-append rs r) ∙ grouped (order_of (coordinate S (bound (difference s) - 1))) (greatest_order S rs) (order_of (coordinate S (bound (difference r) - 1)))
    where
      grouped : (a b c : ℕ) → max a (max b c) ≡ max (max a b) c
      grouped a b c = omega arith

  pub rule_ready : (rules : List LeadRule) (i : ℕ) (r : LeadRule) → AreSolvedRules S rules → i < length rules → r ≡ get_or rules i r → IsSolvedRule S r
  rule_ready rules i r h lt is = record {
    factor = positive_apart r.c (every_rest (λ (r : LeadRule). IsPositiveNumber r.c) rules i r lt is h.positive).0;
    free = subst (λ (q : SolvedEquation). IsIn (λ v. not (is_lead (solved_equations S rules) v)) q.right) (get_or-map (solved_equation S) rules i r (solved_equation S r) lt ∙ ap (solved_equation S) (sym is)) (h.solved.rights i (solved_equation S r) (subst (λ n. i < n) (sym (length-map rules (solved_equation S))) lt)) (number S (coordinate_of S r.lead)) (ap not (lead_at S rules i r lt is));
    jet = (every_rest (λ (r : LeadRule). IsJet S 6 r.lead) rules i r lt is h.jets).0;
    right = (every_rest (λ (r : LeadRule). IsIn (is_below (coordinates_up_to S 6)) r.right) rules i r lt is h.rights).0;
  }

  pub low_variable : (r : LeadRule) (l w : ℕ) (ts : List (Monomial × ℤ)) → IsSolvedRule S r → l ≡ number S (coordinate_of S r.lead) → ts ≡ (r.right).list → suc w ≡ max (suc l) (terms_bound ts) → w < coordinates_up_to S 6
  low_variable r l w ts h e t is = within w l (terms_bound ts) (coordinates_up_to S 6) is (subst (λ k. k < coordinates_up_to S 6) (sym e) (jet_low S r h.jet)) (subst (λ us. terms_bound us ≤ coordinates_up_to S 6) (sym t) (least_bound (coordinates_up_to S 6) r.right h.right))
    where
      within : (w l b n : ℕ) → suc w ≡ max (suc l) b → l < n → b ≤ n → w < n
      within w l b n e h k = omega arith

  pub order_more : (rules : List LeadRule) (i : ℕ) (r : LeadRule) (l w o g m : ℕ) (ts : List (Monomial × ℤ)) → i < length rules → r ≡ get_or rules i r → IsSolvedRule S r → l ≡ number S (coordinate_of S r.lead) → ts ≡ (r.right).list → suc w ≡ max (suc l) (terms_bound ts) → o ≡ order_of (coordinate S w)
      → g ≡ greatest_order S (solved_equations S (take i rules)) → m ≡ max g o → m ≡ greatest_order S (solved_equations S (take (i + 1) rules))
  order_more rules i r l w o g m ts lt is h e t f k q z =
      z ∙ ap₂ max q (k ∙ ap (λ v. order_of (coordinate S v)) (less w (bound (difference (solved_equation S r))) (f ∙ ap₂ (λ a us. max (suc a) (terms_bound us)) e t ∙ sym (bound_difference (solved_equation S r) h.factor h.free))))
      ∙ sym (order-append (solved_equations S (take i rules)) (solved_equation S r)) ∙ ap (greatest_order S) (sym (ap (map (solved_equation S)) (sym (take_more rules i r lt is)) ∙ map-append (solved_equation S) (take i rules) (r ∷ [])))
    where
      less : (w b : ℕ) → suc w ≡ b → w ≡ b - 1
      less w b e = omega arith

-- ---- the order of a coordinate
pub independent_order : (S : Space) (w : ℕ) → w < S.p → order_of (coordinate S w) ≡ 0
unfolding coordinate
independent_order S w h = ap (λ t. order_of (cond t (independent w) (nth_of_order S (seek (jets_below S) (w - S.p) (w - S.p)) ((w - S.p) - jets_below S (seek (jets_below S) (w - S.p) (w - S.p)))))) (lt-ltb w S.p h)

pub low_order : (S : Space) (w o : ℕ) (j : Jet) → IsSmall S → coordinate S w ≡ coordinate_of S j → o ≡ order (take S.p j.counts) → w < coordinates_up_to S 6 → o ≤ 6
low_order S w o j small e f h = subst (λ n. n ≤ 6) (sym f) (subst (λ (c : Coordinate). order_of c ≤ 6) e ((order_below S small.some_p small.some_q w 6).1 h))

pub no_jet_order : (S : Space) (w : ℕ) → IsSmall S → (w < S.p) ⊎ (coordinates_up_to S 12 ≤ w) → w < coordinates_up_to S 6 → 0 ≡ order_of (coordinate S w)
no_jet_order S w small (inl h) k = sym (independent_order S w h)
no_jet_order S w small (inr h) k = absurd (high _ _ _ h k (count_rises S small.some_p small.some_q 6 12 (omega arith)))
  where
    high : (w a b : ℕ) → b ≤ w → w < a → a ≤ b → ⊥
    high w a b h k g = omega arith
