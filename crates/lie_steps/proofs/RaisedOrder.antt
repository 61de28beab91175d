-- The order of derivatives is kept by one more derivative of both, and one more derivative comes before.
use Rattle.std.specs.Prelude.{◌≡◌, ℕ, zero, suc, ◌+◌, ◌-◌, ◌<◌, ◌≤◌, List, [], ◌∷◌, get_or}
use Rattle.std.proofs.Common.{refl, sym, ap, ap₂, ◌∙◌, arith, Ordering, Less, Equal}
use Rattle.std.specs.Fn.{iterate}
use Rattle.std.specs.Cmp.{nat_cmp_is, tied_itself}
use Rattle.std.specs.Cmp.Lexicographic.{slice_cmp}
use Rattle.std.specs.Ordering.{nat_cmp, ordering_then}
use Rattle.lie_math.specs.Counts.{Derivative, derivative_cmp, order, raise, raised, trimmed}
use Rattle.lie_math.specs.DerivativeOrder.{derivative_cmp_total, derivative_same}
use Rattle.lie_math.proofs.Counts.{cmp_before, order_raise, trimmed_raise}
use Rattle.lie_math.proofs.ZeroDivisors.{nat_cmp_shift}
use Rattle.lie_systems.specs.ValidSystems.{count}
use Rattle.lie_steps.specs.Derivatives.{missing}
use Rattle.lie_steps.specs.Equations.{Divides}
use Rattle.lie_steps.proofs.Derived.{count_raised}
use Rattle.lie_steps.proofs.CountLists.{trimmed_same}

-- ---- counts compared as if zeros stood at the end of the shorter list
abbrev pub counts_cmp : List ℕ → List ℕ → Ordering
counts_cmp [] [] = Equal
counts_cmp [] (k ∷ K) = ordering_then (nat_cmp 0 k) (counts_cmp [] K)
counts_cmp (j ∷ J) [] = ordering_then (nat_cmp j 0) (counts_cmp J [])
counts_cmp (j ∷ J) (k ∷ K) = ordering_then (nat_cmp j k) (counts_cmp J K)

pub trimmed_counts : (J K : List ℕ) → slice_cmp nat_cmp (trimmed J) (trimmed K) ≡ counts_cmp J K
trimmed_counts [] [] = refl
trimmed_counts [] (k ∷ K) = cmp_before 0 k [] (trimmed K) ∙ ap (ordering_then (nat_cmp 0 k)) (trimmed_counts [] K)
trimmed_counts (j ∷ J) [] = cmp_before j 0 (trimmed J) [] ∙ ap (ordering_then (nat_cmp j 0)) (trimmed_counts J [])
trimmed_counts (j ∷ J) (k ∷ K) = cmp_before j k (trimmed J) (trimmed K) ∙ ap (ordering_then (nat_cmp j k)) (trimmed_counts J K)

suc_cmp : (a b : ℕ) → nat_cmp (suc a) (suc b) ≡ nat_cmp a b
suc_cmp a b = ap₂ nat_cmp (plain a) (plain b) ∙ nat_cmp_shift a b 1
  where
    plain : (a : ℕ) → suc a ≡ a + 1
    plain a = omega arith

raised_counts : (i : ℕ) (J K : List ℕ) → counts_cmp (raise i J) (raise i K) ≡ counts_cmp J K
raised_counts zero [] [] = refl
raised_counts zero [] (k ∷ K) = ap (λ r. ordering_then r (counts_cmp [] K)) (suc_cmp 0 k)
raised_counts zero (j ∷ J) [] = ap (λ r. ordering_then r (counts_cmp J [])) (suc_cmp j 0)
raised_counts zero (j ∷ J) (k ∷ K) = ap (λ r. ordering_then r (counts_cmp J K)) (suc_cmp j k)
raised_counts (suc i) [] [] = raised_counts i [] []
raised_counts (suc i) [] (k ∷ K) = ap (ordering_then (nat_cmp 0 k)) (raised_counts i [] K)
raised_counts (suc i) (j ∷ J) [] = ap (ordering_then (nat_cmp j 0)) (raised_counts i J [])
raised_counts (suc i) (j ∷ J) (k ∷ K) = ap (ordering_then (nat_cmp j k)) (raised_counts i J K)

lists_raised : (i : ℕ) (J K : List ℕ) → trimmed J ≡ J → trimmed K ≡ K → slice_cmp nat_cmp (raise i J) (raise i K) ≡ slice_cmp nat_cmp J K
lists_raised i J K s t =
    ap₂ (slice_cmp nat_cmp) (sym (trimmed_raise i J ∙ ap (raise i) s)) (sym (trimmed_raise i K ∙ ap (raise i) t))
    ∙ trimmed_counts (raise i J) (raise i K) ∙ raised_counts i J K ∙ sym (trimmed_counts J K) ∙ ap₂ (slice_cmp nat_cmp) s t

abbrev pub IsShort : Derivative → Type 0
IsShort d = trimmed d.counts ≡ d.counts

-- one more derivative of both
pub raised_cmp : (i : ℕ) (d e : Derivative) → IsShort d → IsShort e → derivative_cmp (raised i d) (raised i e) ≡ derivative_cmp d e
raised_cmp i d e s t =
    ap₂ (λ a b. ordering_then a (ordering_then (nat_cmp e.unknown d.unknown) b))
    (ap₂ nat_cmp (order_raise i e.counts) (order_raise i d.counts) ∙ suc_cmp (order e.counts) (order d.counts))
    (lists_raised i e.counts d.counts t s)

-- one more derivative comes before
pub raised_before : (i : ℕ) (d : Derivative) → derivative_cmp (raised i d) d ≡ Less
raised_before i d = ap (λ r. ordering_then r (ordering_then (nat_cmp d.unknown d.unknown) (slice_cmp nat_cmp d.counts (raise i d.counts)))) (ap (nat_cmp (order d.counts)) (order_raise i d.counts) ∙ sym (nat_cmp_is (order d.counts) (suc (order d.counts)) Less (omega arith)))

pub raised_same : (i : ℕ) (d e : Derivative) → IsShort d → IsShort e → raised i d ≡ raised i e → d ≡ e
raised_same i d e s t h = derivative_same d e (sym (raised_cmp i d e s t) ∙ ap (λ x. derivative_cmp x (raised i e)) h ∙ tied_itself derivative_cmp_total (raised i e))

pub short_raised : (i : ℕ) (d : Derivative) → IsShort d → IsShort (raised i d)
short_raised i d s = trimmed_raise i d.counts ∙ ap (raise i) s

-- ---- raised by a list of counts
abbrev pub raised_from : ℕ → List ℕ → Derivative → Derivative
raised_from i [] d = d
raised_from i (c ∷ K) d = raised_from (suc i) K (iterate (raised i) c d)

count_self : (i : ℕ) (J : List ℕ) → get_or (raise i J) i 0 ≡ suc (get_or J i 0)
count_self zero [] = refl
count_self zero (c ∷ J) = refl
count_self (suc i) [] = count_self i [] ∙ nothing i
  where
    nothing : (i : ℕ) → suc (get_or [] i 0) ≡ 1
    nothing i = refl
count_self (suc i) (c ∷ J) = count_self i J

iterate_unknown : (i c : ℕ) (d : Derivative) → (iterate (raised i) c d).unknown ≡ d.unknown
iterate_unknown i zero d = refl
iterate_unknown i (suc c) d = iterate_unknown i c (raised i d)

iterate_short : (i c : ℕ) (d : Derivative) → IsShort d → IsShort (iterate (raised i) c d)
iterate_short i zero d s = s
iterate_short i (suc c) d s = iterate_short i c (raised i d) (short_raised i d s)

iterate_self : (i c : ℕ) (d : Derivative) → count (iterate (raised i) c d) i ≡ count d i + c
iterate_self i zero d = plain (count d i)
  where
    plain : (a : ℕ) → a ≡ a + 0
    plain a = omega arith
iterate_self i (suc c) d = iterate_self i c (raised i d) ∙ ap (λ x. x + c) (count_self i d.counts) ∙ plain (count d i) c
  where
    plain : (a c : ℕ) → suc a + c ≡ a + suc c
    plain a c = omega arith

iterate_other : (i v c : ℕ) (d : Derivative) → ¬ (v ≡ i) → count (iterate (raised i) c d) v ≡ count d v
iterate_other i v zero d n = refl
iterate_other i v (suc c) d n = iterate_other i v c (raised i d) n ∙ count_raised i v d.counts n

pub raised_unknown : (i : ℕ) (K : List ℕ) (d : Derivative) → (raised_from i K d).unknown ≡ d.unknown
raised_unknown i [] d = refl
raised_unknown i (c ∷ K) d = raised_unknown (suc i) K (iterate (raised i) c d) ∙ iterate_unknown i c d

pub raised_short : (i : ℕ) (K : List ℕ) (d : Derivative) → IsShort d → IsShort (raised_from i K d)
raised_short i [] d s = s
raised_short i (c ∷ K) d s = raised_short (suc i) K (iterate (raised i) c d) (iterate_short i c d s)

count_below : (i : ℕ) (K : List ℕ) (d : Derivative) (v : ℕ) → v < i → count (raised_from i K d) v ≡ count d v
count_below i [] d v lt = refl
count_below i (c ∷ K) d v lt = count_below (suc i) K (iterate (raised i) c d) v (omega arith) ∙ iterate_other i v c d (λ e. absurd (omega arith))

count_from : (i : ℕ) (K : List ℕ) (d : Derivative) (v : ℕ) → count (raised_from i K d) (i + v) ≡ count d (i + v) + get_or K v 0
count_from i [] d v = plain (count d (i + v))
  where
    plain : (a : ℕ) → a ≡ a + 0
    plain a = omega arith
count_from i (c ∷ K) d zero =
    ap (count (raised_from (suc i) K (iterate (raised i) c d))) (plain i) ∙ count_below (suc i) K (iterate (raised i) c d) i (omega arith) ∙ iterate_self i c d ∙ ap (λ x. count d x + c) (sym (plain i))
  where
    plain : (i : ℕ) → i + 0 ≡ i
    plain i = omega arith
count_from i (c ∷ K) d (suc v) =
    ap (count (raised_from (suc i) K (iterate (raised i) c d))) (sym (moved i v)) ∙ count_from (suc i) K (iterate (raised i) c d) v
    ∙ ap (λ x. x + get_or K v 0) (iterate_other i (suc i + v) c d (λ e. absurd (omega arith)) ∙ ap (count d) (moved i v))
  where
    moved : (i v : ℕ) → suc i + v ≡ i + suc v
    moved i v = omega arith

count_missing : (J K : List ℕ) (v : ℕ) → get_or (missing J K) v 0 ≡ get_or K v 0 - get_or J v 0
count_missing J [] v = nothing (get_or J v 0)
  where
    nothing : (a : ℕ) → 0 ≡ 0 - a
    nothing a = omega arith
count_missing [] (k ∷ K) v = plain (get_or (k ∷ K) v 0)
  where
    plain : (a : ℕ) → a ≡ a - 0
    plain a = omega arith
count_missing (j ∷ J) (k ∷ K) zero = refl
count_missing (j ∷ J) (k ∷ K) (suc v) = count_missing J K v

-- raised by what is missing
pub raised_missing : (l d : Derivative) → IsShort l → IsShort d → Divides l d → raised_from 0 (missing l.counts d.counts) l ≡ d
raised_missing l d s t h =
    let u = raised_unknown 0 (missing l.counts d.counts) l ∙ h.unknown in
    let c = sym (raised_short 0 (missing l.counts d.counts) l s) ∙ trimmed_same (raised_from 0 (missing l.counts d.counts) l).counts d.counts (λ v. at v) ∙ t in
    λ i. record { unknown = u i; counts = c i }
  where
    whole : (a b : ℕ) → a ≤ b → a + (b - a) ≡ b
    whole a b h = omega arith

    plain : (v : ℕ) → v ≡ 0 + v
    plain v = omega arith

    at : (v : ℕ) → count (raised_from 0 (missing l.counts d.counts) l) v ≡ count d v
    at v = ap (count (raised_from 0 (missing l.counts d.counts) l)) (plain v) ∙ count_from 0 (missing l.counts d.counts) l v
        ∙ ap₂ ◌+◌ (ap (count l) (sym (plain v))) (count_missing l.counts d.counts v) ∙ whole (count l v) (count d v) (h.counts v)

-- a variable by which something is missing
pub missing_counts : (l d : Derivative) (v : ℕ) → ¬ (get_or (missing l.counts d.counts) v 0 ≡ 0) → ¬ (count d v ≡ 0)
missing_counts l d v n z = n (count_missing l.counts d.counts v ∙ nothing (count d v) (count l v) z)
  where
    nothing : (a b : ℕ) → a ≡ 0 → a - b ≡ 0
    nothing a b e = omega arith
