-- The names of a file are ASCII.
use Rattle.std.specs.Prelude.{ℕ, ◌≡◌, ◌<◌, List, [], ◌∷◌, ◌++◌, Ok}
use Rattle.std.specs.List.{AllByRecursion as Every}
use Rattle.std.proofs.Common.{sym, subst, arith}
use Rattle.lie_file.specs.FileGrammar.{AreNames}
use Rattle.lie_file.specs.FileLines.{names_of}
use Rattle.lie_scan.proofs.Blanks.{letter_range}
use Rattle.lie_file.proofs.LineLaws.{names_of-is}
use Rattle.lie_math.proofs.EveryElement.{every-append}

abbrev pub AreAscii : List ℕ → Type 0
AreAscii bytes = Every (λ b. b < 128) bytes

letters_ascii : (before text names rest : List ℕ) → AreNames before text names rest → AreAscii names
letters_ascii before text [] rest h = tt
letters_ascii before text (n ∷ ns) rest h = (let range = letter_range n h.2 in let high = range.1 in omega arith, letters_ascii (before ++ n ∷ []) h.0 ns rest h.4)

-- the names given before and those of a line
pub names_ascii : (keyword before : List ℕ) (lines : List (List ℕ)) (x : List ℕ × List (List ℕ)) → names_of keyword before lines ≡ Ok x → AreAscii before → AreAscii x.0
names_ascii keyword before lines x h ascii =
    let r = names_of-is keyword before lines x h in
    subst AreAscii (sym r.put) (every-append (λ b. b < 128) before r.names ascii (letters_ascii before r.is.behind r.names r.is.rest r.is.are))
