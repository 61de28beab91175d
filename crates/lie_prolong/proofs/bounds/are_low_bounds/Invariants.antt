use Rattle.std.specs.Prelude.{◌≡◌}
use Rattle.lie_geometry.specs.FieldNorms.{field_norm_bound}
use Rattle.lie_prolong.proofs.bounds.are_low_bounds.Given as goal

abbrev pub invariant-loop : goal.invariant-loop
invariant-loop l = l.bound ≡ field_norm_bound l.fn.space l.norm l.degree l.counter
