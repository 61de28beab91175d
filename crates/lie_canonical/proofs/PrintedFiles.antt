-- Lines of bytes, each with its line end, are a text with these lines.
use Rattle.std.specs.Prelude.{ℕ, ◌≡◌, ◌==◌, false, List, [], ◌∷◌, ◌++◌, length, refl}
use Rattle.std.specs.List.{flat_map, slice_split, AllByRecursion as Every}
use Rattle.std.proofs.Common.{ap, ◌∙◌, append_assoc}
use Rattle.lie_scan.specs.declared.runs.Class.TheVariants.{Content}
use Rattle.lie_file.specs.FileGrammar.{contents_of, lines_of}
use Rattle.lie_scan.specs.Runs.{run, after_blanks}
use Rattle.lie_scan.specs.TokenGrammar.{AreIn}

-- a line that is all content, has no line end and is not blank
pub record IsContentLine (l : List ℕ) : Type 0 where
  pub content : AreIn Content l
  pub one : Every (λ b. (b == 10) ≡ false) l
  pub some : (length (after_blanks l) == 0) ≡ false

all_content : (l : List ℕ) → AreIn Content l → run Content l ≡ l
all_content [] h = refl
all_content (b ∷ bs) h = rw h.0 (ap (λ l. b ∷ l) (all_content bs h.1))

contents_are : (ls : List (List ℕ)) → Every IsContentLine ls → contents_of (ls ++ [] ∷ []) ≡ ls
contents_are [] h = refl
contents_are (l ∷ ls) h = rw (all_content l h.0.content, h.0.some) (ap (λ m. l ∷ m) (contents_are ls h.1))

split_line : (l rest : List ℕ) → Every (λ b. (b == 10) ≡ false) l → slice_split (λ b. b == 10) (l ++ 10 ∷ rest) ≡ l ∷ slice_split (λ b. b == 10) rest
split_line [] rest h = refl
split_line (b ∷ bs) rest h = rw (h.0, split_line bs rest h.1) refl

split_lines : (ls : List (List ℕ)) → Every IsContentLine ls → slice_split (λ b. b == 10) (flat_map (λ l. l ++ 10 ∷ []) ls) ≡ ls ++ [] ∷ []
split_lines [] h = refl
split_lines (l ∷ ls) h =
    ap (slice_split (λ b. b == 10)) (append_assoc l (10 ∷ []) (flat_map (λ l. l ++ 10 ∷ []) ls)) ∙ split_line l (flat_map (λ l. l ++ 10 ∷ []) ls) h.0.one ∙ ap (λ m. l ∷ m) (split_lines ls h.1)

-- the contents of the lines of such a text
pub contents_of_lines : (ls : List (List ℕ)) → Every IsContentLine ls → contents_of (lines_of (flat_map (λ l. l ++ 10 ∷ []) ls)) ≡ ls
contents_of_lines ls h = ap contents_of (split_lines ls h) ∙ contents_are ls h
