-- The names of a file are letters, each other than those before it.
use Rattle.std.specs.Prelude.{ℕ, ◌≡◌, ◌==◌, Bool, true, false, ◌||◌, List, [], ◌∷◌, ◌++◌, refl}
use Rattle.std.specs.List.{list_any, AllByRecursion as Every, IsDistinct}
use Rattle.std.proofs.Common.{sym, subst, append_assoc, append-nil}
use Rattle.lie_scan.specs.declared.runs.Class.TheVariants.{Letter}
use Rattle.lie_scan.specs.Runs.{is_in}
use Rattle.lie_scan.proofs.Blanks.{letter_range}
use Rattle.lie_system.specs.Systems.{SystemRead}
use Rattle.lie_system.specs.Written.{IsLowercase, AreDistinctLetters}
use Rattle.lie_file.specs.FileGrammar.{AreNames, IsNamesLine, AreSystem}

abbrev pub AreDistinct : List ℕ → List ℕ → Type 0
AreDistinct before [] = Unit {0}
AreDistinct before (n ∷ ns) = (is_in Letter n ≡ true) × (list_any (λ m. m == n) before ≡ false) × AreDistinct (before ++ n ∷ []) ns

names_distinct : (before text names rest : List ℕ) → AreNames before text names rest → AreDistinct before names
names_distinct before text [] rest h = tt
names_distinct before text (n ∷ ns) rest h = (h.2, h.3, names_distinct (before ++ n ∷ []) h.0 ns rest h.4)

-- the names of a line are distinct letters
line_distinct : (keyword before content names : List ℕ) → IsNamesLine keyword before content names → AreDistinct before names
line_distinct keyword before content names h = names_distinct before h.behind names h.rest h.are

-- ---- parts of lists
distinct_joined : (before xs ys : List ℕ) → AreDistinct before xs → AreDistinct (before ++ xs) ys → AreDistinct before (xs ++ ys)
distinct_joined before [] ys h k = subst (λ l. AreDistinct l ys) (append-nil before) k
distinct_joined before (x ∷ xs) ys h k = (
  h.0,
  h.1,
  distinct_joined (before ++ x ∷ []) xs ys h.2 (subst (λ l. AreDistinct l ys) (sym (append_assoc before (x ∷ []) xs)) k),
)

none_behind : (f : ℕ → Bool) (xs ys : List ℕ) → list_any f (xs ++ ys) ≡ false → list_any f ys ≡ false
none_behind f [] ys h = h
none_behind f (x ∷ xs) ys h = go (f x) h (none_behind f xs ys)
  where
    go : (b : Bool) → (b || list_any f (xs ++ ys)) ≡ false → (list_any f (xs ++ ys) ≡ false → list_any f ys ≡ false) → list_any f ys ≡ false
    go true e k = cc
    go false e k = k e

pub distinct_alone : (xs before ns : List ℕ) → AreDistinct (xs ++ before) ns → AreDistinct before ns
distinct_alone xs before [] h = tt
distinct_alone xs before (n ∷ ns) h = (
  h.0,
  none_behind (λ m. m == n) xs before h.1,
  distinct_alone xs (before ++ n ∷ []) ns (subst (λ l. AreDistinct l ns) (append_assoc xs before (n ∷ [])) h.2),
)

-- ---- letters, no two of them the same
distinct_lowercase : (before ns : List ℕ) → AreDistinct before ns → Every IsLowercase ns
distinct_lowercase before [] h = tt
distinct_lowercase before (n ∷ ns) h = (letter_range n h.0, distinct_lowercase (before ++ n ∷ []) ns h.2)

first_none : (a b : Bool) → (a || b) ≡ false → a ≡ false
first_none true b e = cc
first_none false b e = refl

first_alone : (x : ℕ) (before ns : List ℕ) → AreDistinct (x ∷ before) ns → Every (λ n. (x == n) ≡ false) ns
first_alone x before [] h = tt
first_alone x before (n ∷ ns) h = (first_none (x == n) (list_any (λ m. m == n) before) h.1, first_alone x (before ++ n ∷ []) ns h.2)

all_apart : (ns : List ℕ) → AreDistinct [] ns → IsDistinct (λ a b. a == b) ns
unfolding IsDistinct
all_apart [] h = tt
all_apart (n ∷ ns) h = (first_alone n [] ns h.2, all_apart ns (distinct_alone (n ∷ []) [] ns h.2))

-- the names of a system
pub system_letters : (contents : List (List ℕ)) (s : SystemRead) → AreSystem contents s → AreDistinctLetters s.names
system_letters contents s h =
    let independent = line_distinct _ [] h.vars h.independent h.vars_is in
    let dependent = line_distinct _ h.independent h.deps h.dependent h.deps_is in
    let all : AreDistinct [] (h.independent ++ h.dependent) = distinct_joined [] h.independent h.dependent independent dependent in
    subst AreDistinctLetters (sym h.names) (record {
      letters = distinct_lowercase [] (h.independent ++ h.dependent) all;
      distinct = all_apart (h.independent ++ h.dependent) all;
    })
