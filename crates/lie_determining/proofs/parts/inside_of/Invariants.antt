use Rattle.std.proofs.Common.{◌≡◌, ◌<◌, ℕ, false, ltb, get_or, length}
use Rattle.lie_determining.proofs.parts.inside_of.Given as goal

abbrev pub invariant-loop-var : goal.invariant-loop-var
invariant-loop-var l = record {
  places : length l.inside ≡ 8;
  same : (v : ℕ) → v < l.var → get_or l.inside v false ≡ ltb v l.bound;
}
