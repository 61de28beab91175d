-- Texts between separators are found again where they have none of them.
use Rattle.std.specs.Prelude.{ℕ, ◌≡◌, ◌≤◌, ◌<◌, ◌^◌, ◌==◌, true, false, List, [], ◌∷◌, ◌++◌, All, decimal, refl}
use Rattle.std.specs.List.{flat_map, slice_split, AllByRecursion as Every}
use Rattle.std.proofs.Common.{sym, ap, ◌∙◌, arith, append_assoc}
use Rattle.std.proofs.lemmas.Bool.Decides.{nat_tests}
use Rattle.std.proofs.lemmas.Fmt.{decimal_is_IsNumeral_wide}
use Rattle.std.proofs.lemmas.List.{append-nil}
use Rattle.std.proofs.lemmas.List.Elements.{All-from_recursion}
use Rattle.std.proofs.lemmas.List.Splits.{slice_split_none, slice_split_at}
use Rattle.lie_math.proofs.EveryElement.{every-append, every-weaken}
use Rattle.lie_scan.specs.TokenGrammar.{AreIn}
use Rattle.lie_scan.specs.declared.runs.Class.TheVariants.{Digit}
use Rattle.lie_scan.proofs.Blanks.{digit_range}
use Rattle.lie_scan.proofs.NumberLaws.{all_digits}
use Rattle.lie_report.specs.SystemLines.{ended}

-- bytes from k on
abbrev pub AreFrom : ℕ → List ℕ → Type 0
AreFrom k bytes = Every (λ b. k ≤ b) bytes

pub from_append : (k : ℕ) (xs ys : List ℕ) → AreFrom k xs → AreFrom k ys → AreFrom k (xs ++ ys)
from_append k xs ys h j = every-append (λ b. k ≤ b) xs ys h j

pub from_lower : (j k : ℕ) → j ≤ k → (xs : List ℕ) → AreFrom k xs → AreFrom j xs
from_lower j k le xs h = every-weaken (λ b. k ≤ b) (λ b. j ≤ b) (λ b high. omega arith) xs h

other_byte : (b c k : ℕ) → c < k → k ≤ b → (b == c) ≡ false
other_byte b c k lt le = let h : c < b = omega arith in grind (arith, nat_tests, h)

same_byte : (c : ℕ) → (c == c) ≡ true
same_byte c = grind (arith, nat_tests)

module _ (c k : ℕ) (lt : c < k) where
  no_separator : (xs : List ℕ) → AreFrom k xs → All (λ b. (b == c) ≡ false) xs
  no_separator xs h = All-from_recursion (λ b. (b == c) ≡ false) xs (every-weaken (λ b. k ≤ b) (λ b. (b == c) ≡ false) (λ b le. other_byte b c k lt le) xs h)

  pub split_none : (xs : List ℕ) → AreFrom k xs → slice_split (λ b. b == c) xs ≡ xs ∷ []
  split_none xs h = slice_split_none (λ b. b == c) xs (no_separator xs h)

  pub split_first : (xs ys : List ℕ) → AreFrom k xs → slice_split (λ b. b == c) (xs ++ c ∷ ys) ≡ xs ∷ slice_split (λ b. b == c) ys
  split_first xs ys h = slice_split_at (λ b. b == c) xs c ys (no_separator xs h) (same_byte c)

  -- texts with a separator between them
  pub split_between : (x : List ℕ) (xs : List (List ℕ)) → Every (AreFrom k) (x ∷ xs) → slice_split (λ b. b == c) (x ++ flat_map (λ g. c ∷ g) xs) ≡ x ∷ xs
  split_between x [] h = ap (slice_split (λ b. b == c)) (append-nil x) ∙ split_none x h.0
  split_between x (y ∷ ys) h = split_first x (y ++ flat_map (λ g. c ∷ g) ys) h.0 ∙ ap (λ (l : List (List ℕ)). x ∷ l) (split_between y ys h.1)

-- lines
pub split_lines : (ls : List (List ℕ)) → Every (AreFrom 32) ls → slice_split (λ b. b == 10) (flat_map ended ls) ≡ ls ++ [] ∷ []
split_lines [] h = refl
split_lines (l ∷ ls) h =
    ap (slice_split (λ b. b == 10)) (append_assoc l (10 ∷ []) (flat_map ended ls)) ∙ split_first 10 32 (omega arith) l (flat_map ended ls) h.0
    ∙ ap (λ (m : List (List ℕ)). l ∷ m) (split_lines ls h.1)

-- ---- numbers
digits_from : (ds : List ℕ) → AreIn Digit ds → AreFrom 48 ds
digits_from [] h = tt
digits_from (d ∷ ds) h = ((digit_range d h.0).0, digits_from ds h.1)

pub decimal_digits : (n : ℕ) → n < 2 ^ 128 → AreIn Digit (decimal n)
decimal_digits n small = let d = decimal_is_IsNumeral_wide n (omega arith) in all_digits (decimal n) d.0.1

pub decimal_from : (n : ℕ) → n < 2 ^ 128 → AreFrom 48 (decimal n)
decimal_from n small = digits_from (decimal n) (decimal_digits n small)
