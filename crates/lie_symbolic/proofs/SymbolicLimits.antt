-- The jets that occur in the symbolic coefficients, and the orders of the derivatives of unknowns: no more than the order of the coefficient.
use Rattle.std.specs.Prelude.{◌≡◌, ℕ, zero, suc, ◌+◌, ◌<◌, ◌≤◌, true, List, [], ◌∷◌, length, take, ltb, replicate, negsuc, pos}
use Rattle.std.specs.List.{AllByRecursion as Every}
use Rattle.std.proofs.Common.{sym, subst, ◌∙◌, arith, ltb-true}
use Rattle.std.proofs.lemmas.List.{length-replicate}
use Rattle.lie_math.specs.Counts.{Derivative, order, raise, raised}
use Rattle.lie_math.specs.Derivation.{numbers_below}
use Rattle.lie_math.specs.FiniteSumLaws as finite_laws
use Rattle.lie_math.specs.LinearForm.{forms, LinearForm, no_form, ◌+ᶠ◌, form_term, form_over, times_form}
use Rattle.lie_math.specs.Polynomial.{WholePolynomial, constant, ◌*ᴾ◌}
use Rattle.lie_math.specs.SortedSum.{sum_of_entries}
use Rattle.lie_math.specs.Variables.{IsIn}
use Rattle.lie_math.proofs.Counts.{order_raise, order_zeros}
use Rattle.lie_math.proofs.Variables.{in-*ᴾ, in-constant}
use Rattle.lie_geometry.specs.Coordinates.{Space}
use Rattle.lie_geometry.specs.Prolongation.{indices, jet_variable, total_derivative, counts_of_indices}
use Rattle.lie_geometry.specs.SymbolicProlongation.{forms_over, unknown, symbolic_total, symbolic_coefficient, symbolic_coefficient_at}
use Rattle.lie_geometry.proofs.Booleans.{and_left, and_right}
use Rattle.lie_geometry.proofs.Indices.{raise_length, all_below, counts_of_indices_length, below_indices}
use Rattle.lie_geometry.proofs.SymbolicProlongation.{total_term}
use Rattle.lie_form.specs.FormLimits.{HasJetsUpTo, HasOrdersUpTo}
use Rattle.lie_jet.specs.Jets.{coordinate_of, IsJet}
use Rattle.lie_jet.specs.declared.jet.Jet.{Jet}
use Rattle.lie_form.proofs.FormBounds.{at}
use Rattle.lie_form.proofs.FormKept.{jets_none, jets_sum, jets_term, orders_none, orders_sum, orders_term}
use Rattle.lie_form.proofs.FormSteps.{low_entries}
use Rattle.lie_jet.proofs.JetLists.{cut}
use Rattle.lie_jet.proofs.LoweredJets.{order_of_jet}
use Rattle.lie_jet.proofs.JetsBelow.{below, below_wider, jet_in, total_in, raised_order}

module _ (S : Space) (some_p : 0 < S.p) (some_q : 0 < S.q) where
  -- jets of order at most m in the coefficients, and derivatives of order at most n
  pub record IsLowForm (m n : ℕ) (E : LinearForm) : Type 0 where
    pub jets : HasJetsUpTo S m E
    pub orders : HasOrdersUpTo n E

  module _ (m n : ℕ) where
    low_none : IsLowForm m n no_form
    low_none = record { jets = jets_none S m; orders = orders_none n }

    low_sum : (E G : LinearForm) → IsLowForm m n E → IsLowForm m n G → IsLowForm m n (E +ᶠ G)
    low_sum E G h k = record { jets = jets_sum S m E G h.jets k.jets; orders = orders_sum n E G h.orders k.orders }

    low_term : (d : Derivative) (p : WholePolynomial) → IsIn (below S some_p some_q m) p → order d.counts ≤ n → IsLowForm m n (form_term d p)
    low_term d p h k = record { jets = jets_term S m d p h; orders = orders_term n d p k }

    low_over : (c : ℕ) (f : ℕ → LinearForm) → ((i : ℕ) → i < c → IsLowForm m n (f i)) → IsLowForm m n (forms_over (numbers_below c) f)
    low_over zero f h = low_none
    low_over (suc c) f h = low_sum (f c) (forms_over (numbers_below c) f) (h c (omega arith)) (low_over c f (λ i k. h i (omega arith)))

    -- a sum of forms, one for each entry
    low_map : (l o : ℕ) (φ : Derivative → WholePolynomial → LinearForm) → ((d : Derivative) (a : WholePolynomial) → IsIn (below S some_p some_q l) a → order d.counts ≤ o → IsLowForm m n (φ d a)) → (E : LinearForm) → IsLowForm l o E → IsLowForm m n (form_over φ E)
    low_map l o φ each E h = go E.list (low_entries S l o E h.jets h.orders)
      where
        go : (es : List (Derivative × WholePolynomial)) → Every (λ (e : Derivative × WholePolynomial). IsIn (below S some_p some_q l) e.1 × (order (e.0).counts ≤ o)) es → IsLowForm m n (sum_of_entries (finite_laws.adder forms) φ es)
        go [] k = low_none
        go (e ∷ es) k = low_sum (φ e.0 e.1) (sum_of_entries (finite_laws.adder forms) φ es) (each e.0 e.1 (k.0).0 (k.0).1) (go es k.1)

    pub low_times : (u : WholePolynomial) → IsIn (below S some_p some_q m) u → (E : LinearForm) → IsLowForm m n E → IsLowForm m n (times_form u E)
    low_times u h E k = low_map m n (λ d a. form_term d (u *ᴾ a)) (λ d a e o. low_term d (u *ᴾ a) (in-*ᴾ (below S some_p some_q m) u a h e) o) E k

    low_unknown : (s : ℕ) → IsLowForm m n (unknown s)
    low_unknown s = low_term _ (constant (pos 1)) (in-constant (below S some_p some_q m) (pos 1)) (omega arith)

  pub low_total : (k n : ℕ) → k < S.p → (E : LinearForm) → IsLowForm n n E → IsLowForm (suc n) (suc n) (symbolic_total S k E)
  unfolding symbolic_total
  low_total k n f E h = low_map (suc n) (suc n) n n (total_term S k) each E h
    where
      once : (b : ℕ) → b < S.q → IsIn (below S some_p some_q (suc n)) (jet_variable S b (raise k (replicate S.p 0)))
      once b g = jet_in S some_p some_q (suc n) b (raise k (replicate S.p 0)) (g, raise_length k (replicate S.p 0) (subst (λ l. k < l) (sym (length-replicate S.p 0)) f) ∙ length-replicate S.p 0) (let e = order_raise k (replicate S.p 0) in let z = order_zeros S.p in omega arith)

      more : (i : ℕ) (d : Derivative) → order d.counts ≤ n → order (raised i d).counts ≤ suc n
      more i d o = let e = order_raise i d.counts in omega arith

      each : (d : Derivative) (a : WholePolynomial) → IsIn (below S some_p some_q n) a → order d.counts ≤ n → IsLowForm (suc n) (suc n) (total_term S k d a)
      each d a e o =
          let wide = below_wider S some_p some_q n (suc n) (omega arith) a e in
          low_sum (suc n) (suc n) _ _
          (low_sum (suc n) (suc n) _ _ (low_term (suc n) (suc n) d (total_derivative S k a) (total_in S some_p some_q k n a f e) (omega arith)) (low_term (suc n) (suc n) (raised k d) a wide (more k d o)))
          (low_over (suc n) (suc n) S.q _ (λ b g. low_term (suc n) (suc n) (raised (S.p + b) d) (a *ᴾ jet_variable S b (raise k (replicate S.p 0))) (in-*ᴾ (below S some_p some_q (suc n)) a _ wide (once b g)) (more (S.p + b) d o)))

  wider : (m n : ℕ) → m ≤ n → (E : LinearForm) → IsLowForm m m E → IsLowForm n n E
  wider m n h E k = record { jets = λ d. below_wider S some_p some_q m n h (at E d) (k.jets d); orders = λ d past. k.orders d (omega arith) }

  pub low_coefficient : (a : ℕ) → a < S.q → (W : List ℕ) → all_below S.p W ≡ true → IsLowForm (length W) (length W) (symbolic_coefficient S a W)
  unfolding symbolic_coefficient
  low_coefficient a is [] h = low_unknown 0 0 (S.p + a)
  low_coefficient a is (k ∷ W) h =
      let f : k < S.p = ltb-true k S.p (and_left (ltb k S.p) (all_below S.p W) h) in
      let g : all_below S.p W ≡ true = and_right (ltb k S.p) (all_below S.p W) h in
      low_sum (suc (length W)) (suc (length W)) _ _ (low_total k (length W) f (symbolic_coefficient S a W) (low_coefficient a is W g))
      (low_times (suc (length W)) (suc (length W)) (constant (negsuc 0)) (in-constant (below S some_p some_q (suc (length W))) (negsuc 0)) _
      (low_over (suc (length W)) (suc (length W)) S.p _ (λ i e. low_times (suc (length W)) (suc (length W)) (jet_variable S a (raise i (counts_of_indices S W)))
      (jet_in S some_p some_q (suc (length W)) a (raise i (counts_of_indices S W)) (is, raise_length i (counts_of_indices S W) (subst (λ m. i < m) (sym (counts_of_indices_length S W g)) e) ∙ counts_of_indices_length S W g) (raised_order S some_p some_q i W))
      (symbolic_total S k (unknown i)) (wider 1 (suc (length W)) (omega arith) (symbolic_total S k (unknown i)) (low_total k 0 f (unknown i) (low_unknown 0 0 i))))))

-- the coefficient of a jet of order at most 11 has jets and derivatives of order at most 11
pub low_symbolic : (S : Space) (l : Jet) (is : IsJet S 11 l) → IsLowForm S is.space.some_p is.space.some_q 11 63 (symbolic_coefficient_at S (coordinate_of S l))
low_symbolic S l is =
    let W = indices (take S.p l.counts) in
    let size : order (take S.p l.counts) ≡ length W = order_of_jet S l is in
    let few : order (take S.p l.counts) ≤ 11 = is.low in
    let low = low_coefficient S is.space.some_p is.space.some_q l.dep is.dependent W (below_indices S.p (take S.p l.counts) (cut S 11 l is)) in
    record { jets = λ d. below_wider S is.space.some_p is.space.some_q (length W) 11 (omega arith) (at (symbolic_coefficient S l.dep W) d) (low.jets d); orders = λ d past. low.orders d (omega arith) }
