-- The sums of the absolute values of like terms, as a map keeps them.
use Rattle.std.specs.Prelude.{ℕ, ◌≡◌, List, ℤ}
use Rattle.std.specs.Global.{Vec}
use Rattle.std.specs.Option.{unwrap_or}
use Rattle.std.specs.BTreeMap.{BTreeMap, get}
use Rattle.std.specs.Ordering.{nat_cmp, ordering_then}
use Rattle.std.specs.Cmp.Lexicographic.{slice_cmp}
use Rattle.std.proofs.Common.{Ordering}
use Rattle.lie_math.specs.Monomial.{Monomial}
use Rattle.lie_scan.specs.Meaning.{size_of}

-- the order of keys
abbrev pub pairs_cmp : List (ℕ × ℕ) → List (ℕ × ℕ) → Ordering
pairs_cmp = slice_cmp (λ x y. ordering_then (nat_cmp x.0 y.0) (nat_cmp x.1 y.1))

abbrev pub key_cmp : Vec (ℕ × ℕ) → Vec (ℕ × ℕ) → Ordering
key_cmp x y = pairs_cmp x.items y.items

-- what the map has at a key, 0 where it has nothing
abbrev pub size_in : BTreeMap (Vec (ℕ × ℕ)) ℕ → Vec (ℕ × ℕ) → ℕ
size_in sizes key = unwrap_or (get key_cmp sizes key) 0

-- at the pairs of each monomial the sum of the absolute values of its like terms
pub record AreSizes (sizes : BTreeMap (Vec (ℕ × ℕ)) ℕ) (ts : List (Monomial × ℤ)) : Type 0 where
  pub size : (key : Vec (ℕ × ℕ)) (m : Monomial) → key.items ≡ m.list → size_in sizes key ≡ size_of m ts
