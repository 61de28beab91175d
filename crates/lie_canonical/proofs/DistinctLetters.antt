-- Letters, no two of them the same, are each other than those before it, and so are parts of them.
use Rattle.std.specs.Prelude.{ℕ, ◌≡◌, ◌==◌, true, false, List, [], ◌∷◌, ◌++◌, refl}
use Rattle.std.specs.List.{list_any, AllByRecursion as Every, IsDistinct}
use Rattle.std.proofs.Common.{sym, subst, arith, append_assoc}
use Rattle.std.proofs.lemmas.Bool.Decides.{nat_tests}
use Rattle.std.proofs.lemmas.List.{append-nil}
use Rattle.lie_math.proofs.EveryElement.{every-back}
use Rattle.lie_scan.specs.declared.runs.Class.TheVariants.{Letter}
use Rattle.lie_scan.specs.Runs.{is_in}
use Rattle.lie_system.specs.Written.{IsLowercase, AreDistinctLetters}
use Rattle.lie_file.proofs.DistinctNames.{AreDistinct}

is_letter : (n : ℕ) → IsLowercase n → is_in Letter n ≡ true
is_letter n h = let low = h.0 in let high = h.1 in grind (arith, nat_tests, low, high)

none_before : (before : List ℕ) (n : ℕ) (ns : List ℕ) → IsDistinct (λ a b. a == b) (before ++ n ∷ ns)
    → list_any (λ m. m == n) before ≡ false
unfolding IsDistinct
none_before [] n ns h = refl
none_before (b ∷ bs) n ns h = rw ((every-back (λ m. (b == m) ≡ false) bs (n ∷ ns) h.0).0) (none_before bs n ns h.1)

distinct_behind : (before ns : List ℕ) → Every IsLowercase ns → IsDistinct (λ a b. a == b) (before ++ ns) → AreDistinct before ns
distinct_behind before [] l h = tt
distinct_behind before (n ∷ ns) l h = (
  is_letter n l.0,
  none_before before n ns h,
  distinct_behind (before ++ n ∷ []) ns l.1 (subst (IsDistinct (λ a b. a == b)) (sym (append_assoc before (n ∷ []) ns)) h),
)

pub all_distinct : (names : List ℕ) → AreDistinctLetters names → AreDistinct [] names
all_distinct names h = distinct_behind [] names h.letters h.distinct

pub distinct_parts : (before xs ys : List ℕ) → AreDistinct before (xs ++ ys) → AreDistinct before xs × AreDistinct (before ++ xs) ys
distinct_parts before [] ys h = (tt, subst (λ l. AreDistinct l ys) (sym (append-nil before)) h)
distinct_parts before (x ∷ xs) ys h =
    let r = distinct_parts (before ++ x ∷ []) xs ys h.2 in
    ((h.0, h.1, r.0), subst (λ l. AreDistinct l ys) (append_assoc before (x ∷ []) xs) r.1)
