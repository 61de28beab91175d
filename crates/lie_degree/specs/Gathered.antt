-- Monomials that are gathered in print order.
use Rattle.std.specs.Prelude.{◌↔◌, List}
use Rattle.std.specs.List.{Contains}
use Rattle.std.specs.List.Sorted.{IsStrictlySortedBy}
use Rattle.lie_math.specs.Monomial.{Monomial, monomial_cmp}

-- ms are the monomials of a list, in order, each once
pub record AreGathered (list ms : List Monomial) : Type 0 where
  pub sorted : IsStrictlySortedBy monomial_cmp ms
  pub elements : (m : Monomial) → Contains ms m ↔ Contains list m
