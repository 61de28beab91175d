-- Lists of counts and the lists of their indices.
use Rattle.std.specs.Prelude.{◌≡◌, ℕ, zero, suc, ◌+◌, ◌<◌, ◌≤◌, Bool, true, false, cond, ◌&&◌, List, [], ◌∷◌, ◌++◌, length, replicate, ltb}
use Rattle.std.proofs.Common.{refl, sym, ap, ap₂, ◌∙◌, arith, ltb-true, lt-ltb, le-ltb, true≢false}
use Rattle.std.proofs.lemmas.List.{length-replicate}
use Rattle.lie_math.specs.Counts.{raise}
use Rattle.lie_math.proofs.Counts.{raise_comm}
use Rattle.lie_geometry.specs.Coordinates.{Space}
use Rattle.lie_geometry.specs.Prolongation.{indices_from, indices, counts_of_indices}
use Rattle.lie_geometry.proofs.AbstractRecursion.{inserted, Descends}
use Rattle.lie_geometry.proofs.Booleans.{and_left, and_right}

pub raise_length : (i : ℕ) (J : List ℕ) → i < length J → length (raise i J) ≡ length J
raise_length zero [] h = absurd (omega arith)
raise_length (suc i) [] h = absurd (omega arith)
raise_length zero (c ∷ J) h = refl
raise_length (suc i) (c ∷ J) h = ap suc (raise_length i J (less h))
  where
    less : suc i < length (c ∷ J) → i < length J
    less h = omega arith

abbrev pub all_below : ℕ → List ℕ → Bool
all_below p [] = true
all_below p (k ∷ W) = ltb k p && all_below p W

pub all_below-inserted : (p k : ℕ) (W : List ℕ) → all_below p (inserted k W) ≡ ltb k p && all_below p W
all_below-inserted p k [] = refl
all_below-inserted p k (l ∷ W) = elim (ltb k l) as (λ t. all_below p (cond t (l ∷ inserted k W) (k ∷ l ∷ W)) ≡ ltb k p && (ltb l p && all_below p W)) [
  | true ↦ ap (λ z. ltb l p && z) (all_below-inserted p k W) ∙ swapped (ltb l p) (ltb k p) (all_below p W)
  | false ↦ refl
]
  where
    swapped : (a b c : Bool) → a && (b && c) ≡ b && (a && c)
    swapped true true c = refl
    swapped true false c = refl
    swapped false true c = refl
    swapped false false c = refl

module _ (S : Space) where
  pub counts_of_indices-inserted : (k : ℕ) (W : List ℕ) → counts_of_indices S (inserted k W) ≡ raise k (counts_of_indices S W)
  counts_of_indices-inserted k [] = refl
  counts_of_indices-inserted k (l ∷ W) = elim (ltb k l) as (λ t. counts_of_indices S (cond t (l ∷ inserted k W) (k ∷ l ∷ W)) ≡ raise k (raise l (counts_of_indices S W))) [
    | true ↦ ap (raise l) (counts_of_indices-inserted k W) ∙ raise_comm l k (counts_of_indices S W)
    | false ↦ refl
  ]

  pub counts_of_indices_length : (W : List ℕ) → all_below S.p W ≡ true → length (counts_of_indices S W) ≡ S.p
  counts_of_indices_length [] h = length-replicate S.p 0
  counts_of_indices_length (k ∷ W) h = go (and_left (ltb k S.p) (all_below S.p W) h) (counts_of_indices_length W (and_right (ltb k S.p) (all_below S.p W) h))
    where
      go : ltb k S.p ≡ true → length (counts_of_indices S W) ≡ S.p → length (raise k (counts_of_indices S W)) ≡ S.p
      go e ih = raise_length k (counts_of_indices S W) (within (ltb-true k S.p e) ih) ∙ ih
        where
          within : {n : ℕ} → k < S.p → n ≡ S.p → k < n
          within h e = omega arith

-- ---- the word of raised counts
abbrev Above : ℕ → List ℕ → Type 0
Above s [] = Unit {0}
Above s (l ∷ L) = (s < l) × Above s L

above_append : (s : ℕ) (L M : List ℕ) → Above s L → Above s M → Above s (L ++ M)
above_append s [] M h k = k
above_append s (l ∷ L) M h k = (h.0, above_append s L M h.1 k)

above_replicate : (s t n : ℕ) → s < t → Above s (replicate n t)
above_replicate s t zero h = tt
above_replicate s t (suc n) h = (h, above_replicate s t n h)

above_less : (s t : ℕ) (L : List ℕ) → s ≤ t → Above t L → Above s L
above_less s t [] h k = tt
above_less s t (l ∷ L) h k = (le_lt s t l h k.0, above_less s t L h k.1)
  where
    le_lt : (a b c : ℕ) → a ≤ b → b < c → a < c
    le_lt a b c h k = omega arith

above_indices : (s : ℕ) (J : List ℕ) → Above s (indices_from (suc s) J)
above_indices s [] = tt
above_indices s (c ∷ J) = above_append s (indices_from (suc (suc s)) J) (replicate c (suc s)) (above_less s (suc s) _ (omega arith) (above_indices (suc s) J)) (above_replicate s (suc s) c (omega arith))

inserted-front : (s c : ℕ) → inserted s (replicate c s) ≡ replicate (suc c) s
inserted-front s zero = refl
inserted-front s (suc c) = ap (λ t. cond t (s ∷ inserted s (replicate c s)) (s ∷ s ∷ replicate c s)) (le-ltb s s (itself s))
  where
    itself : (n : ℕ) → n ≤ n
    itself n = omega arith

inserted-past : (s : ℕ) (L M : List ℕ) → Above s L → inserted s (L ++ M) ≡ L ++ inserted s M
inserted-past s [] M h = refl
inserted-past s (l ∷ L) M h = ap (λ t. cond t (l ∷ inserted s (L ++ M)) (s ∷ l ∷ (L ++ M))) (lt-ltb s l h.0) ∙ ap (λ z. l ∷ z) (inserted-past s L M h.1)

inserted-before : (t s c : ℕ) (L : List ℕ) → s < t → inserted t (L ++ replicate c s) ≡ inserted t L ++ replicate c s
inserted-before t s zero [] h = refl
inserted-before t s (suc c) [] h = ap (λ b. cond b (s ∷ inserted t (replicate c s)) (t ∷ s ∷ replicate c s)) (le-ltb t s (weaker h))
  where
    weaker : s < t → s ≤ t
    weaker h = omega arith
inserted-before t s c (l ∷ L) h = elim (ltb t l) as (λ b. cond b (l ∷ inserted t (L ++ replicate c s)) (t ∷ l ∷ (L ++ replicate c s)) ≡ cond b (l ∷ inserted t L) (t ∷ l ∷ L) ++ replicate c s) [
  | true ↦ ap (λ z. l ∷ z) (inserted-before t s c L h)
  | false ↦ refl
]

indices_from-raise : (s k : ℕ) (J : List ℕ) → k < length J → indices_from s (raise k J) ≡ inserted (s + k) (indices_from s J)
indices_from-raise s zero [] h = absurd (omega arith)
indices_from-raise s (suc k) [] h = absurd (omega arith)
indices_from-raise s zero (c ∷ J) h =
    sym (ap (λ n. inserted n (indices_from (suc s) J ++ replicate c s)) (plain s) ∙ inserted-past s (indices_from (suc s) J) (replicate c s) (above_indices s J) ∙ ap (λ z. indices_from (suc s) J ++ z) (inserted-front s c))
  where
    plain : (s : ℕ) → s + 0 ≡ s
    plain s = omega arith
indices_from-raise s (suc k) (c ∷ J) h =
    ap (λ z. z ++ replicate c s) (indices_from-raise (suc s) k J (less h)) ∙ sym (inserted-before (suc s + k) s c (indices_from (suc s) J) (more s k)) ∙ ap (λ n. inserted n (indices_from (suc s) J ++ replicate c s)) (moved s k)
  where
    less : suc k < length (c ∷ J) → k < length J
    less h = omega arith

    more : (s k : ℕ) → s < suc s + k
    more s k = omega arith

    moved : (s k : ℕ) → suc s + k ≡ s + suc k
    moved s k = omega arith

pub indices-raise : (k : ℕ) (J : List ℕ) → k < length J → indices (raise k J) ≡ inserted k (indices J)
indices-raise k J h = indices_from-raise 0 k J h ∙ ap (λ n. inserted n (indices J)) (plain k)
  where
    plain : (k : ℕ) → 0 + k ≡ k
    plain k = omega arith

-- ---- the letters descend
descends_replicate : (c s : ℕ) → Descends (replicate c s)
descends_replicate zero s = tt
descends_replicate (suc zero) s = tt
descends_replicate (suc (suc c)) s = (itself s, descends_replicate (suc c) s)
  where
    itself : (n : ℕ) → n ≤ n
    itself n = omega arith

weaker_le : (s k : ℕ) → s < k → s ≤ k
weaker_le s k h = omega arith

descends_append : (s c : ℕ) (L : List ℕ) → Above s L → Descends L → Descends (L ++ replicate c s)
descends_append s c [] a d = descends_replicate c s
descends_append s zero (k ∷ []) a d = tt
descends_append s (suc c) (k ∷ []) a d = (weaker_le s k a.0, descends_replicate (suc c) s)
descends_append s c (k ∷ l ∷ L) a d = (d.0, descends_append s c (l ∷ L) a.1 d.1)

descends_from : (s : ℕ) (J : List ℕ) → Descends (indices_from s J)
descends_from s [] = tt
descends_from s (c ∷ J) = descends_append s c (indices_from (suc s) J) (above_indices s J) (descends_from (suc s) J)

pub descends_indices : (J : List ℕ) → Descends (indices J)
descends_indices J = descends_from 0 J

-- ---- and back
abbrev raise_all : List ℕ → List ℕ → List ℕ
raise_all [] K = K
raise_all (k ∷ W) K = raise k (raise_all W K)

raise_all-append : (W X K : List ℕ) → raise_all (W ++ X) K ≡ raise_all W (raise_all X K)
raise_all-append [] X K = refl
raise_all-append (k ∷ W) X K = ap (raise k) (raise_all-append W X K)

raise_at : (A : List ℕ) (x : ℕ) (B : List ℕ) → raise (length A) (A ++ (x ∷ B)) ≡ A ++ (suc x ∷ B)
raise_at [] x B = refl
raise_at (a ∷ A) x B = ap (λ z. a ∷ z) (raise_at A x B)

raise_times : (A : List ℕ) (c : ℕ) (B : List ℕ) → raise_all (replicate c (length A)) (A ++ (0 ∷ B)) ≡ A ++ (c ∷ B)
raise_times A zero B = refl
raise_times A (suc c) B = ap (raise (length A)) (raise_times A c B) ∙ raise_at A c B

append_one : (A : List ℕ) (c : ℕ) (B : List ℕ) → (A ++ (c ∷ [])) ++ B ≡ A ++ (c ∷ B)
append_one [] c B = refl
append_one (a ∷ A) c B = ap (λ z. a ∷ z) (append_one A c B)

length_one : (A : List ℕ) (c : ℕ) → length (A ++ (c ∷ [])) ≡ suc (length A)
length_one [] c = refl
length_one (a ∷ A) c = ap suc (length_one A c)

raised_from : (J A : List ℕ) → raise_all (indices_from (length A) J) (A ++ replicate (length J) 0) ≡ A ++ J
raised_from [] A = refl
raised_from (c ∷ J) A =
    raise_all-append (indices_from (suc (length A)) J) (replicate c (length A)) (A ++ (0 ∷ replicate (length J) 0))
    ∙ ap (raise_all (indices_from (suc (length A)) J)) (raise_times A c (replicate (length J) 0) ∙ sym (append_one A c (replicate (length J) 0)))
    ∙ ap (λ n. raise_all (indices_from n J) ((A ++ (c ∷ [])) ++ replicate (length J) 0)) (sym (length_one A c))
    ∙ raised_from J (A ++ (c ∷ [])) ∙ append_one A c J

counts_of_indices_all : (S : Space) (W : List ℕ) → counts_of_indices S W ≡ raise_all W (replicate S.p 0)
counts_of_indices_all S [] = refl
counts_of_indices_all S (k ∷ W) = ap (raise k) (counts_of_indices_all S W)

pub counts_of_indices-indices : (S : Space) (J : List ℕ) → length J ≡ S.p → counts_of_indices S (indices J) ≡ J
counts_of_indices-indices S J h = counts_of_indices_all S (indices J) ∙ ap (λ n. raise_all (indices J) (replicate n 0)) (sym h) ∙ raised_from J []

-- ---- the letters are below
all_below_append : (p : ℕ) (L M : List ℕ) → all_below p L ≡ true → all_below p M ≡ true → all_below p (L ++ M) ≡ true
all_below_append p [] M h k = k
all_below_append p (l ∷ L) M h k = split (ltb l p) (all_below p L) (all_below p (L ++ M)) h (λ g. all_below_append p L M g k)
  where
    split : (a b c : Bool) → a && b ≡ true → (b ≡ true → c ≡ true) → a && c ≡ true
    split true b c h f = f h
    split false b c h f = absurd (true≢false (sym h))

all_below_replicate : (p s c : ℕ) → s < p → all_below p (replicate c s) ≡ true
all_below_replicate p s zero h = refl
all_below_replicate p s (suc c) h = ap₂ ◌&&◌ (lt-ltb s p h) (all_below_replicate p s c h)

below_from : (p s : ℕ) (J : List ℕ) → s + length J ≤ p → all_below p (indices_from s J) ≡ true
below_from p s [] h = refl
below_from p s (c ∷ J) h = all_below_append p (indices_from (suc s) J) (replicate c s) (below_from p (suc s) J (moved h)) (all_below_replicate p s c (less h))
  where
    moved : s + length (c ∷ J) ≤ p → suc s + length J ≤ p
    moved h = omega arith

    less : s + length (c ∷ J) ≤ p → s < p
    less h = omega arith

pub below_indices : (p : ℕ) (J : List ℕ) → length J ≡ p → all_below p (indices J) ≡ true
below_indices p J h = below_from p 0 J (omega arith)
