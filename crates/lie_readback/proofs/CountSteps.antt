-- Monomials and counts, as they are read.
use Rattle.std.specs.Prelude.{ℕ, zero, suc, ◌≡◌, ◌+◌, ◌-◌, ◌<◌, ◌≤◌, Bool, true, false, T, List, [], ◌∷◌, ◌++◌, length, map, take, replicate, slice_set, get_or, Some, None, if◌then◌else◌, refl}
use Rattle.std.proofs.Common.{sym, ap, ap₂, ◌∙◌, subst, arith, append_assoc}
use Rattle.std.proofs.Math.Seq.{set-append_seam}
use Rattle.std.proofs.lemmas.List.{append-nil, map-append, take_more, take_all, length-map, length-take-le}
use Rattle.lie_math.specs.Counts.{trimmed, before_counts}
use Rattle.lie_math.specs.FiniteSum.{IsCanonical}
use Rattle.lie_math.specs.FiniteSumLaws.{of_list}
use Rattle.lie_math.specs.Monomial.{Monomial, powers, monomial_of}
use Rattle.lie_math.specs.SortedSum.{is_canonical}
use Rattle.lie_readback.specs.Factors.{read_monomial}

pub monomial_read : (ps : List (ℕ × ℕ)) (m : Monomial) → m.list ≡ ps → read_monomial ps ≡ Some m
monomial_read ps m is = ap read_monomial (sym is) ∙ go (is_canonical powers.order powers.values m.list) m.canonical
  where
    go : (b : Bool) → T b → (if b then Some (monomial_of m.list) else None) ≡ Some m
    go true h = ap Some (of_list powers m)
    go false h = absurd h

pub monomial_none : (ps : List (ℕ × ℕ)) → ¬ (IsCanonical powers ps) → read_monomial ps ≡ None
monomial_none ps n = go (is_canonical powers.order powers.values ps) n
  where
    go : (b : Bool) → ¬ (T b) → (if b then Some (monomial_of ps) else None) ≡ None
    go true h = absurd (h tt)
    go false h = refl

-- ---- counts
zeros_from : (i : ℕ) → i < 8 → replicate {A = ℕ} (8 - i) 0 ≡ 0 ∷ replicate {A = ℕ} (8 - (i + 1)) 0
zeros_from i lt = let e : 8 - i ≡ suc (8 - (i + 1)) = omega arith in ap (λ n. replicate {A = ℕ} n 0) e

pub counts_more : (f : ℕ → ℕ) (names : List ℕ) (i : ℕ) (counts : List ℕ) (x : ℕ) → i < length names → i < 8 → x ≡ f (get_or names i 0)
    → counts ≡ map f (take i names) ++ replicate {A = ℕ} (8 - i) 0 → slice_set counts i x ≡ map f (take (i + 1) names) ++ replicate {A = ℕ} (8 - (i + 1)) 0
counts_more f names i counts x lt few is so_far =
    let seam : length (map f (take i names)) ≡ i = length-map (take i names) f ∙ length-take-le i names (omega arith) in
    let rest : List ℕ = replicate {A = ℕ} (8 - (i + 1)) 0 in
    ap (λ J. slice_set J i x) (so_far ∙ ap (λ l. map f (take i names) ++ l) (zeros_from i few))
    ∙ ap (λ k. slice_set (map f (take i names) ++ 0 ∷ rest) k x) (sym seam) ∙ set-append_seam (map f (take i names)) 0 rest x
    ∙ ap (λ y. map f (take i names) ++ y ∷ rest) is
    ∙ sym (ap (λ l. l ++ rest) (ap (map f) (take_more names i 0 lt) ∙ map-append f (take i names) (get_or names i 0 ∷ [])) ∙ append_assoc (map f (take i names)) (f (get_or names i 0) ∷ []) rest)

trimmed_zeros : (k : ℕ) → trimmed (replicate {A = ℕ} k 0) ≡ []
trimmed_zeros zero = refl
trimmed_zeros (suc k) = ap (before_counts 0) (trimmed_zeros k)

pub trimmed_behind : (J : List ℕ) (k : ℕ) → trimmed (J ++ replicate {A = ℕ} k 0) ≡ trimmed J
trimmed_behind [] k = trimmed_zeros k
trimmed_behind (c ∷ J) k = ap (before_counts c) (trimmed_behind J k)

pub counts_done : (f : ℕ → ℕ) (names : List ℕ) (i : ℕ) (counts : List ℕ) → length names ≤ i → counts ≡ map f (take i names) ++ replicate {A = ℕ} (8 - i) 0 → trimmed counts ≡ trimmed (map f names)
counts_done f names i counts past so_far = ap trimmed so_far ∙ trimmed_behind (map f (take i names)) (8 - i) ∙ ap (λ l. trimmed (map f l)) (take_all i names past)
