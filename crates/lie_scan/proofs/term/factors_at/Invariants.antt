use Rattle.std.proofs.Common.{◌≡◌, length}
use Rattle.lie_scan.specs.Terms.{factors_at}
use Rattle.lie_system.specs.Exponents.{HasSmallExponents}
use Rattle.lie_scan.proofs.term.factors_at.Given as goal

abbrev pub decreases-factors : goal.decreases-factors
decreases-factors l = length l.rest

abbrev pub invariant-factors : goal.invariant-factors
invariant-factors l = record {
  same : factors_at l.space l.names l.fn.mono l.text ≡ factors_at l.space l.names l.product l.rest;
  small : HasSmallExponents l.product;
}
