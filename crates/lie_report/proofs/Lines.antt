-- Lines, as loops make them.
use Rattle.std.specs.Prelude.{ℕ, suc, ◌≡◌, ◌+◌, ◌<◌, ◌≤◌, List, [], ◌∷◌, ◌++◌, length, map, drop, refl}
use Rattle.std.proofs.Common.{sym, ap, ◌∙◌, get_or, append_assoc, add-one, drop-cons}
use Rattle.std.proofs.lemmas.List.{append-nil}
use Rattle.std.proofs.lemmas.Grind.{flat_map-append}
use Rattle.std.specs.List.{flat_map}
use Rattle.std.proofs.Math.ListN.{drop_of_length-le}
use Rattle.lie_report.specs.SystemLines.{ended, lines_text, numbered_lines}

pub lines_text-append : (ls ms : List (List ℕ)) → lines_text (ls ++ ms) ≡ lines_text ls ++ lines_text ms
lines_text-append ls ms = flat_map-append ended ls ms

module _ {X : Type 0} (line : ℕ → X → List ℕ) where
  numbered-first : (n : ℕ) (x : X) (xs : List X) → lines_text (numbered_lines line n (x ∷ xs)) ≡ ended (line n x) ++ lines_text (numbered_lines line (n + 1) xs)
  numbered-first n x xs = refl

  pub numbered-push : (xs : List X) (n i : ℕ) (e : X) (text more all : List ℕ) → i < length xs → more ≡ text ++ ended (line n (get_or xs i e))
      → text ++ lines_text (numbered_lines line n (drop i xs)) ≡ all → more ++ lines_text (numbered_lines line (n + 1) (drop (i + 1) xs)) ≡ all
  numbered-push xs n i e text more all lt more_is so_far =
      ap (λ l. l ++ lines_text (numbered_lines line (n + 1) (drop (i + 1) xs))) more_is
      ∙ append_assoc text (ended (line n (get_or xs i e))) (lines_text (numbered_lines line (n + 1) (drop (i + 1) xs)))
      ∙ ap (λ l. text ++ l) (sym (step (drop i xs) (drop-cons xs i e lt))) ∙ so_far
    where
      step : (rest : List X) → rest ≡ get_or xs i e ∷ drop (suc i) xs
          → lines_text (numbered_lines line n rest) ≡ ended (line n (get_or xs i e)) ++ lines_text (numbered_lines line (n + 1) (drop (i + 1) xs))
      step rest h = rw (h, add-one i) (numbered-first n (get_or xs i e) (drop (suc i) xs))

  pub numbered-done : (xs : List X) (n i : ℕ) (text all : List ℕ) → length xs ≤ i → text ++ lines_text (numbered_lines line n (drop i xs)) ≡ all → text ≡ all
  numbered-done xs n i text all past so_far =
      sym (append-nil text) ∙ ap (λ l. text ++ l) (sym (ap (λ (rest : List X). lines_text (numbered_lines line n rest)) (drop_of_length-le xs past))) ∙ so_far

-- the lines of what values become are lines of the values
pub numbered-map : {X Y : Type 0} (line : ℕ → Y → List ℕ) (f : X → Y) (n : ℕ) (xs : List X) → numbered_lines line n (map f xs) ≡ numbered_lines (λ i x. line i (f x)) n xs
numbered-map line f n [] = refl
numbered-map line f n (x ∷ xs) = ap (λ ls. line n (f x) ∷ ls) (numbered-map line f (n + 1) xs)

-- ---- several lines
flat_map-map : {X : Type 0} (line : X → List ℕ) (xs : List X) → lines_text (map line xs) ≡ flat_map (λ x. ended (line x)) xs
flat_map-map line [] = refl
flat_map-map line (x ∷ xs) = ap (λ l. ended (line x) ++ l) (flat_map-map line xs)

-- the lines of a system, as they are put one after the other
pub three_parts : {X : Type 0} (ls ms : List (List ℕ)) (l : List ℕ) (line : X → List ℕ) (xs : List X) (text one two three four : List ℕ) → one ≡ text ++ lines_text ls → two ≡ one ++ lines_text ms
    → three ≡ two ++ ended l → four ≡ three ++ flat_map (λ x. ended (line x)) xs → four ≡ text ++ lines_text (ls ++ ms ++ l ∷ map line xs)
three_parts ls ms l line xs text one two three four a b c d =
    d ∙ ap (λ t. t ++ flat_map (λ x. ended (line x)) xs) (c ∙ ap (λ t. t ++ ended l) (b ∙ ap (λ t. t ++ lines_text ms) a))
    ∙ grouped text (lines_text ls) (lines_text ms) (ended l) (flat_map (λ x. ended (line x)) xs)
    ∙ ap (λ t. text ++ t) (sym (lines_text-append (ls ++ ms) (l ∷ map line xs) ∙ ap (λ t. t ++ lines_text (l ∷ map line xs)) (lines_text-append ls ms)
    ∙ ap (λ t. (lines_text ls ++ lines_text ms) ++ (ended l ++ t)) (flat_map-map line xs)))
  where
    grouped : (s t u v w : List ℕ) → (((s ++ t) ++ u) ++ v) ++ w ≡ s ++ ((t ++ u) ++ (v ++ w))
    grouped s t u v w = simp append_assoc refl

-- lines behind others
pub two_parts : (ls ms : List (List ℕ)) (text one two : List ℕ) → one ≡ text ++ lines_text ls → two ≡ one ++ lines_text ms → two ≡ text ++ lines_text (ls ++ ms)
two_parts ls ms text one two a b =
    b ∙ ap (λ t. t ++ lines_text ms) a ∙ append_assoc text (lines_text ls) (lines_text ms) ∙ ap (λ t. text ++ t) (sym (lines_text-append ls ms))

pub line_first : (l : List ℕ) (ms : List (List ℕ)) (text one two : List ℕ) → one ≡ text ++ ended l → two ≡ one ++ lines_text ms → two ≡ text ++ lines_text (l ∷ ms)
line_first l ms text one two a b = b ∙ ap (λ t. t ++ lines_text ms) a ∙ append_assoc text (ended l) (lines_text ms)

-- lines, a line and further lines
pub line_then : (ls : List (List ℕ)) (l : List ℕ) (ms : List (List ℕ)) (text one two three : List ℕ) → one ≡ text ++ lines_text ls → two ≡ one ++ ended l
    → three ≡ two ++ lines_text ms → three ≡ text ++ lines_text (ls ++ l ∷ ms)
line_then ls l ms text one two three a b d = two_parts ls (l ∷ ms) text one three a (line_first l ms one two three b d)
