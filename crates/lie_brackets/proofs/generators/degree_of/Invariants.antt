use Rattle.std.proofs.Common.{◌≡◌, ◌+◌, ◌*◌, ◌^◌, ◌≤◌, drop}
use Rattle.lie_math.proofs.Monomial.{pairs_degree}
use Rattle.lie_brackets.proofs.generators.degree_of.Given as goal

abbrev pub invariant-loop-exponent : goal.invariant-loop-exponent
invariant-loop-exponent l = record {
  sum : l.total + pairs_degree (drop l.exponent-index l.exponent-items) ≡ pairs_degree l.exponent-items;
  bound : l.total ≤ l.exponent-index * 2 ^ 32;
}
