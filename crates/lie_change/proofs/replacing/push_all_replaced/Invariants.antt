use Rattle.std.proofs.Common.{◌≡◌, ◌++◌, map, take}
use Rattle.std.specs.Prelude.{unsigned_abs, filter}
use Rattle.std.specs.List.{Contains}
use Rattle.lie_systems.specs.Works.{IsWorkWithin}
use Rattle.lie_lin.specs.Systems.{unknown_of}
use Rattle.lie_steps.specs.Equations.{mentions}
use Rattle.lie_steps.specs.Replacement.{put_in, replaced_made}
use Rattle.lie_change.proofs.replacing.push_all_replaced.Given as goal

abbrev pub invariant-loop-eq : goal.invariant-loop-eq
invariant-loop-eq l = record {
  put : l.out.items ≡ l.initial.out.items
      ++ map (put_in (map unknown_of l.unknowns) l.number l.form (unsigned_abs l.divisor))
      (filter (mentions l.number) (take l.eq-index l.equations));
  fits : IsWorkWithin (Contains (replaced_made (map unknown_of l.unknowns) l.number l.form (unsigned_abs l.divisor)
      (take l.eq-index l.equations)));
}
