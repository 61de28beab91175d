-- The texts that the desk puts.
use Rattle.std.specs.Prelude.{ℕ, List, ◌++◌, codes}
use Rattle.std.specs.List.{flat_map}

-- names, each with a line end
abbrev pub names_text : List (List ℕ) → List ℕ
names_text names = flat_map (λ n. n ++ codes "\n") names

-- that the row of a name went
abbrev pub dropped_text : List ℕ → List ℕ
dropped_text name = codes "dropped " ++ name ++ codes "\n"
