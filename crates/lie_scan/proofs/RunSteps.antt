-- Runs of bytes of one class, as a loop meets them.
use Rattle.std.specs.Prelude.{ℕ, ◌≡◌, List, ◌++◌, take, drop}
use Rattle.lie_scan.specs.declared.runs.Class.{Class}
use Rattle.lie_scan.specs.Runs.{run, behind}

-- the first i bytes are in the class
pub record IsRunSoFar (c : Class) (bytes : List ℕ) (i : ℕ) : Type 0 where
  pub front : run c bytes ≡ take i bytes ++ run c (drop i bytes)
  pub back : behind c bytes ≡ behind c (drop i bytes)
