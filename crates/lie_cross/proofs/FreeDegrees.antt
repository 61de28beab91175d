-- The greatest exponents of a variable, added up from the last term on.
use Rattle.std.specs.Prelude.{◌≡◌, ℕ, ◌≤◌, List, drop}
use Rattle.std.proofs.Common.{ap, ◌∙◌, arith}
use Rattle.lie_math.specs.Natural.{maxima}
use Rattle.lie_math.specs.SortedSum.{sum_of_entries}

pub greatest_all : {K A : Type 0} (f : K → A → ℕ) (es : List (K × A)) (i m : ℕ) → i ≤ 0 → m ≡ sum_of_entries maxima f (drop i es)
    → m ≡ sum_of_entries maxima f es
greatest_all f es i m le e = e ∙ ap (λ k. sum_of_entries maxima f (drop k es)) (let z : i ≡ 0 = omega arith in z)
