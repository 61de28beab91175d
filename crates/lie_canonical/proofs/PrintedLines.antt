-- The texts of the header, of the names and of the end are such lines.
use Rattle.std.specs.Prelude.{ℕ, ◌≤◌, List, [], ◌∷◌, ◌++◌, length, codes, refl}
use Rattle.std.specs.List.{flat_map}
use Rattle.lie_file.specs.FileGrammar.{EndsWord, IsHeader, AreNames, IsNamesLine, IsEndLine}
use Rattle.lie_scan.proofs.Blanks.{no_blanks}
use Rattle.lie_file.proofs.DistinctNames.{AreDistinct}

pub header_is : IsHeader (codes "lie 1")
header_is = record {
  behind_name = codes " 1";
  behind = [];
  name = record { front = no_blanks (codes "lie 1"); ends = refl };
  version = record { front = record { blanks = 32 ∷ []; are = (refl, tt); spelled = refl }; ends = tt };
  ends = tt;
}

pub end_is : IsEndLine (codes "end")
end_is = ([], record { front = no_blanks (codes "end"); ends = tt }, tt)

names_end : (names : List ℕ) → EndsWord (flat_map (λ n. 32 ∷ n ∷ []) names)
names_end [] = tt
names_end (n ∷ ns) = refl

names_are : (before names : List ℕ) → AreDistinct before names → AreNames before (flat_map (λ n. 32 ∷ n ∷ []) names) names []
names_are before [] h = refl
names_are before (n ∷ ns) h =
    (flat_map (λ n. 32 ∷ n ∷ []) ns, record { front = record { blanks = 32 ∷ []; are = (refl, tt); spelled = refl }; ends = names_end ns }, h.0, h.1, names_are (before ++ n ∷ []) ns h.2)

pub names_line_is : (keyword before names : List ℕ) → AreDistinct before names → 1 ≤ length names → length names ≤ 4 → IsNamesLine keyword before (keyword ++ flat_map (λ n. 32 ∷ n ∷ []) names) names
names_line_is keyword before names h some few = record {
  behind = flat_map (λ n. 32 ∷ n ∷ []) names;
  rest = [];
  word = record { front = no_blanks (keyword ++ flat_map (λ n. 32 ∷ n ∷ []) names); ends = names_end names };
  are = names_are before names h;
  ends = tt;
  some = some;
  few = few;
}
