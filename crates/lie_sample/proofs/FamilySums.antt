-- The sums of the family, term by term.
use Rattle.std.specs.Prelude.{ℕ, ◌≡◌, ◌+◌, ◌-◌, ◌++◌, codes}
use Rattle.std.proofs.Common.{refl, add-one}
use Rattle.lie_sample.specs.Family.{family_term, family_sum}

pub sum_start : (k : ℕ) → family_sum k 0 ≡ family_term 0 k
unfolding family_sum
sum_start k = refl

pub sum_more : (k j : ℕ) → family_sum k (j + 1) ≡ family_sum k j ++ codes " + " ++ family_term (j + 1) (k - (j + 1))
unfolding family_sum
sum_more k j = rw (add-one j) refl
