-- Prolonged coefficients one after the other by the numbers of their coordinates, where these are among some.
use Rattle.std.specs.Prelude.{◌≡◌, ℕ, ◌+◌, ◌<◌, ◌≤◌, Bool, true, false, cond, List, [], ◌∷◌, ◌++◌, filter, map, length, get_or}
use Rattle.std.proofs.Common.{refl, sym, ap, ap₂, subst, ◌∙◌, arith}
use Rattle.std.specs.List.{range_with_len}
use Rattle.std.proofs.lemmas.List.{get_or-map, length-map, map-append}
use Rattle.std.proofs.lemmas.List.Elements.{filter-append}
use Rattle.std.proofs.lemmas.List.FromFn.{map-range_with_len_more}
use Rattle.lie_math.specs.Polynomial.{WholePolynomial}
use Rattle.lie_geometry.specs.Coordinates.{Space, Coordinate, number, coordinate, coordinates_up_to}
use Rattle.lie_geometry.specs.Prolongation.{coefficient_at}
use Rattle.lie_jet.specs.Jets.{coordinate_of, IsJet}
use Rattle.lie_jet.specs.declared.jet.Jet.{Jet}
use Rattle.lie_ring.specs.Causes.{IsCause}
use Rattle.lie_ring.specs.declared.failures.PolyFail.{PolyFail}
use Rattle.lie_ring.specs.declared.failures.PolyFail.TheVariants.{Past, NoMemory}
use Rattle.lie_prolong.specs.Bulks.{bulk_at}
use Rattle.lie_jet.specs.JetLists.{AreJetsUpTo, AreValuesUpTo, ComesFirst}
use Rattle.lie_jet.proofs.JetLists.{number_at, coordinate_at, jets_count, lower_order}
use Rattle.lie_reduce.proofs.Places.{independent_at}
use Rattle.lie_check.specs.Coefficients.{is_among, numbered_coefficient, coefficients_among, where_among, IsProlongationCause}

-- ---- one coordinate more
module _ (S : Space) (V : ℕ → WholePolynomial) (numbers : List ℕ) where
  more : (n : ℕ) → coefficients_among S V numbers (n + 1) ≡ coefficients_among S V numbers n ++ where_among numbers (numbered_coefficient S V n)
  more n =
      ap (λ ws. map (numbered_coefficient S V) (filter (is_among numbers) ws)) (one_more n)
      ∙ ap (map (numbered_coefficient S V)) (filter-append (is_among numbers) (range_with_len 0 n) (n ∷ []))
      ∙ map-append (numbered_coefficient S V) (filter (is_among numbers) (range_with_len 0 n)) (filter (is_among numbers) (n ∷ []))
      ∙ ap (λ cs. coefficients_among S V numbers n ++ cs) (by (is_among numbers n))
    where
      same : (ws : List ℕ) → map (λ (w : ℕ). w) ws ≡ ws
      same [] = refl
      same (w ∷ ws) = ap (λ xs. w ∷ xs) (same ws)

      one_more : (n : ℕ) → range_with_len 0 (n + 1) ≡ range_with_len 0 n ++ n ∷ []
      one_more n = sym (same (range_with_len 0 (n + 1))) ∙ map-range_with_len_more (λ (w : ℕ). w) 0 n n (let e : 0 + n ≡ n = omega arith in e) ∙ ap (λ ws. ws ++ n ∷ []) (same (range_with_len 0 n))

      by : (t : Bool) → map (numbered_coefficient S V) (cond t (n ∷ []) []) ≡ cond t (numbered_coefficient S V n ∷ []) []
      by true = refl
      by false = refl

  pub among_more : (n m : ℕ) (p : WholePolynomial) (old new : List (ℕ × WholePolynomial)) → old ≡ coefficients_among S V numbers n → new ≡ old ++ where_among numbers (m, p) → m ≡ n → p ≡ coefficient_at S V (coordinate S n) → new ≡ coefficients_among S V numbers (n + 1)
  among_more n m p old new h e f g = e ∙ ap₂ (λ (xs : List (ℕ × WholePolynomial)) (x : ℕ × WholePolynomial). xs ++ where_among numbers x) h (ap₂ (λ (a : ℕ) (q : WholePolynomial). (a, q)) f g) ∙ sym (more n)

  pub first_more : (i m : ℕ) (p : WholePolynomial) (old new : List (ℕ × WholePolynomial)) → i < S.p → old ≡ coefficients_among S V numbers i → new ≡ old ++ where_among numbers (m, p) → m ≡ i → p ≡ V i → new ≡ coefficients_among S V numbers (i + 1)
  first_more i m p old new lt h e f g = among_more i m p old new h e f (g ∙ ap (coefficient_at S V) (sym (independent_at S i lt)))

  -- ---- jet by jet
  module _ (n : ℕ) (js : List Jet) (are : AreJetsUpTo S n js) where
    pub jet_more : (i w : ℕ) (d : Jet) (p : WholePolynomial) (old new : List (ℕ × WholePolynomial)) → i < length js → old ≡ coefficients_among S V numbers (S.p + i) → w ≡ number S (coordinate_of S (get_or js i d)) → p ≡ coefficient_at S V (coordinate_of S (get_or js i d)) → new ≡ old ++ where_among numbers (w, p) → new ≡ coefficients_among S V numbers (S.p + (i + 1))
    jet_more i w d p old new lt h f g e =
        among_more (S.p + i) w p old new h e (f ∙ number_at S n js are i d lt) (g ∙ ap (coefficient_at S V) (sym (coordinate_at S n js are i d lt))) ∙ ap (coefficients_among S V numbers) (moved S.p i)
      where
        moved : (p i : ℕ) → p + i + 1 ≡ p + (i + 1)
        moved p i = omega arith

    pub all_jets : (i : ℕ) (made : List (ℕ × WholePolynomial)) → i ≤ length js → length js ≤ i → made ≡ coefficients_among S V numbers (S.p + i) → made ≡ coefficients_among S V numbers (coordinates_up_to S n)
    all_jets i made a b h = h ∙ ap (λ k. coefficients_among S V numbers (S.p + k)) (same i (length js) a b ∙ jets_count S n js are)
      where
        same : (i n : ℕ) → i ≤ n → n ≤ i → i ≡ n
        same i n h k = omega arith

-- a jet of order at most n
pub listed_jet : (S : Space) (n : ℕ) (js : List Jet) (i : ℕ) (d : Jet) → AreJetsUpTo S n js → n ≤ 6 → i < length js → IsJet S 12 (get_or js i d)
listed_jet S n js i d are low lt = let j : IsJet S n (get_or js i d) = are.jets i d lt in lower_order S j.space 12 n (get_or js i d) j (let l = j.low in omega arith)

-- ---- the values at the jets
module _ (S : Space) (V : ℕ → WholePolynomial) (n : ℕ) (vs : List (Jet × WholePolynomial)) (are : AreValuesUpTo S n (coefficient_at S V) vs) where
  abbrev jets : List Jet
  jets = map (λ v. v.0) vs

  counted : length jets ≡ length vs
  counted = length-map vs (λ (v : Jet × WholePolynomial). v.0)

  jet_read : (i : ℕ) (x : Jet × WholePolynomial) → i < length vs → x ≡ get_or vs i x → x.0 ≡ get_or jets i x.0
  jet_read i x lt is = ap (λ (y : Jet × WholePolynomial). y.0) is ∙ sym (get_or-map (λ (v : Jet × WholePolynomial). v.0) vs i x x.0 lt)

  pub value_more : (numbers : List ℕ) (i w : ℕ) (x : Jet × WholePolynomial) (old new : List (ℕ × WholePolynomial)) → i < length vs → x ≡ get_or vs i x → old ≡ coefficients_among S V numbers (S.p + i) → w ≡ number S (coordinate_of S x.0) → new ≡ old ++ where_among numbers (w, x.1) → new ≡ coefficients_among S V numbers (S.p + (i + 1))
  value_more numbers i w x old new lt is h f e =
      jet_more S V numbers n jets are.jets i w x.0 x.1 old new (subst (λ k. i < k) (sym counted) lt) h (f ∙ ap (λ k. number S (coordinate_of S k)) (jet_read i x lt is))
      (ap (λ (y : Jet × WholePolynomial). y.1) is ∙ are.values i x lt ∙ ap (λ (y : Jet × WholePolynomial). coefficient_at S V (coordinate_of S y.0)) (sym is) ∙ ap (λ k. coefficient_at S V (coordinate_of S k)) (jet_read i x lt is)) e

  pub value_jet : (i : ℕ) (x : Jet × WholePolynomial) → n ≤ 6 → i < length vs → x ≡ get_or vs i x → IsJet S 12 x.0
  value_jet i x low lt is = subst (IsJet S 12) (sym (jet_read i x lt is)) (listed_jet S n jets i x.0 are.jets low (subst (λ k. i < k) (sym counted) lt))

  pub all_values : (numbers : List ℕ) (i : ℕ) (made : List (ℕ × WholePolynomial)) → i ≤ length vs → length vs ≤ i → made ≡ coefficients_among S V numbers (S.p + i) → made ≡ coefficients_among S V numbers (coordinates_up_to S n)
  all_values numbers i made a b h = all_jets S V numbers n jets are.jets i made (subst (λ k. i ≤ k) (sym counted) a) (subst (λ k. k ≤ i) (sym counted) b) h

pub coefficient_cause : (S : Space) (V : ℕ → WholePolynomial) (n : ℕ) (Good : Coordinate → Type 0) (fail : PolyFail) → ComesFirst S n Good (λ c. IsCause fail (bulk_at S V c)) → IsProlongationCause S V n fail
coefficient_cause S V n Good (Past kind) h = (h.place, h.after, h.within, h.here)
coefficient_cause S V n Good NoMemory h = tt
