-- The coordinates of a file are of its space and have orders up to 6.
use Rattle.std.specs.Prelude.{◌≡◌, ℕ, zero, suc, ◌+◌, ◌-◌, ◌<◌, ◌≤◌, ◌⊎◌, ◌==◌, nat_lt, Bool, true, false, List, [], ◌∷◌, length, take, drop, Option, Some, None, IfSome, if◌then◌else◌}
use Rattle.std.proofs.Common.{refl, sym, ap, subst, arith, lit≤, inl, inr}
use Rattle.std.specs.List.{AllByRecursion as Every}
use Rattle.std.proofs.lemmas.Bool.Decides.{nat_tests}
use Rattle.std.proofs.lemmas.List.{length-take-le, length-drop}
use Rattle.lie_math.specs.Counts.{order}
use Rattle.lie_geometry.specs.Coordinates.{Space, Coordinate, independent, jet, IsCoordinate, order_of, number, coordinates_up_to}
use Rattle.lie_geometry.proofs.Numbers.{coordinate-number}
use Rattle.lie_geometry.proofs.NumberOrder.{order_below}
use Rattle.lie_jet.specs.Jets.{IsSmall}
use Rattle.lie_scan.specs.Names.{place_from, place_of, counts_from, letter_counts, one_more, variable_at}
use Rattle.lie_scan.specs.Variables.{AreCounts}
use Rattle.lie_scan.specs.TokenGrammar.{IsVariableName, IsDerivativeName, IsCoordinateAt, IsNot}
use Rattle.lie_scan.proofs.CountSteps.{counts_none, counts_step}

-- ---- places
pub place_bound : (k : ℕ) (names : List ℕ) (c i : ℕ) → place_from k names c ≡ Some i → i < k + length names
place_bound k [] c i e = absurd (cc)
place_bound k (n ∷ ns) c i e = go (n == c) e (place_bound (k + 1) ns c i)
  where
    go : (b : Bool) → (if b then Some k else place_from (k + 1) ns c) ≡ Some i → (place_from (k + 1) ns c ≡ Some i → i < k + 1 + length ns) → i < k + suc (length ns)
    go true e rest = let s : k ≡ i = cc in omega arith
    go false e rest = let h = rest e in omega arith

place_within : (names : List ℕ) (c : ℕ) → IfSome (place_of names c) (λ i. i < length names)
place_within names c = go (place_of names c) refl
  where
    go : (o : Option ℕ) → place_of names c ≡ o → IfSome o (λ i. i < length names)
    go None e = tt
    go (Some i) e = let h = place_bound 0 names c i e in omega arith

-- ---- counts
pub counts_more : (names : List ℕ) → length names ≤ 4 → (n : ℕ) (J by : List ℕ) → AreCounts names n J → AreCounts names (n + length by) (counts_from names J by)
counts_more names few n J [] h = subst (λ m. AreCounts names m J) (plain n) h
  where
    plain : (n : ℕ) → n ≡ n + 0
    plain n = omega arith
counts_more names few n J (c ∷ by) h =
    subst (λ m. AreCounts names m (counts_from names (one_more J (place_of names c)) by)) (moved n (length by))
    (counts_more names few (n + 1) (one_more J (place_of names c)) by (counts_step names n J (place_of names c) few (place_within names c) h))
  where
    moved : (n m : ℕ) → n + 1 + m ≡ n + suc m
    moved n m = omega arith

zeros_order : (p : ℕ) (J : List ℕ) → Every (λ c. c ≡ 0) J → order (take p J) ≡ 0
zeros_order zero J h = refl
zeros_order (suc p) [] h = refl
zeros_order (suc p) (c ∷ J) h = let e = zeros_order p J h.1 in let z = h.0 in omega arith

-- ---- coordinates
pub record IsGood (S : Space) (c : Coordinate) : Type 0 where
  pub coordinate : IsCoordinate S c
  pub low : order_of c ≤ 6

module _ (S : Space) (small : IsSmall S) (names : List ℕ) (many : length names ≡ S.p + S.q) where
  variable_good : (i : ℕ) → i < S.p + S.q → IsGood S (variable_at S i)
  variable_good i lt = go (nat_lt i S.p) refl
    where
      go : (b : Bool) → nat_lt i S.p ≡ b → IsGood S (if b then independent i else jet (i - S.p) (take S.p (0 ∷ 0 ∷ 0 ∷ 0 ∷ [])))
      go true e = record { coordinate = (let h : i < S.p = grind (arith, nat_tests) in h); low = lit≤ tt }
      go false e = record {
        coordinate = ((let h : S.p ≤ i = grind (arith, nat_tests) in let k = small.some_q in omega arith), (let f = small.few_p in length-take-le S.p (0 ∷ 0 ∷ 0 ∷ 0 ∷ []) (omega arith)));
        low = let z = zeros_order S.p (0 ∷ 0 ∷ 0 ∷ 0 ∷ []) (refl, (refl, (refl, (refl, tt)))) in omega arith;
      }

  first_names : length (take S.p names) ≡ S.p
  first_names = length-take-le S.p names (omega arith)

  derivative_good : (word : List ℕ) (c : Coordinate) → IsDerivativeName S names word c → IsGood S c
  derivative_good word c h =
      let few = small.few_p in
      let few_names : length (take S.p names) ≤ 4 = let e = first_names in omega arith in
      let counts = counts_more (take S.p names) few_names 0 (0 ∷ 0 ∷ 0 ∷ 0 ∷ []) h.by (counts_none (take S.p names)) in
      let four = counts.four in
      let place = place_bound 0 (drop S.p names) h.letter h.place h.named in
      let rest = length-drop S.p names in
      let low = counts.low in
      let short = h.few in
      let J : List ℕ = letter_counts (take S.p names) h.by in
      let e : take (length (take S.p names)) J ≡ take S.p J = ap (λ n. take n J) first_names in
      let o = ap order e in
      subst (IsGood S) (sym h.means) (record {
        coordinate = ((omega arith), length-take-le S.p J (omega arith));
        low = omega arith;
      })

  pub coordinate_good : (text : List ℕ) (c : Coordinate) (rest : List ℕ) → IsCoordinateAt S names text c rest → IsGood S c
  coordinate_good text c rest h = go h.name
    where
      go : (IsVariableName S names h.word c × IsNot 95 rest) ⊎ IsDerivativeName S names h.word c → IsGood S c
      go (inl v) = subst (IsGood S) (sym (v.0).means) (variable_good (v.0).place (let b = place_bound 0 names (v.0).letter (v.0).place (v.0).named in omega arith))
      go (inr d) = derivative_good h.word c d

pub good_number : (S : Space) → IsSmall S → (c : Coordinate) → IsGood S c → number S c < coordinates_up_to S 6
good_number S small c h =
    (order_below S small.some_p small.some_q (number S c) 6).0
    (subst (λ d. order_of d ≤ 6) (sym (coordinate-number S small.some_p small.some_q c h.coordinate)) h.low)

-- ---- files
pub small_space : (S : Space) (p q : ℕ) → S ≡ record { p = p; q = q } → 1 ≤ p → p ≤ 4 → 1 ≤ q → q ≤ 4 → IsSmall S
small_space S p q e a b c d =
    let x : S.p ≡ p = ap (λ (s : Space). s.p) e in
    let y : S.q ≡ q = ap (λ (s : Space). s.q) e in
    record { some_p = omega arith; few_p = omega arith; some_q = omega arith; few_q = omega arith }
