use Rattle.std.proofs.Common.{◌≡◌, ◌≤◌, take, map, unsigned_abs}
use Rattle.std.specs.List.{AllByRecursion as Every}
use Rattle.lie_systems.specs.Bulk.{IsFormWithinLimits, triple_count_of_all}
use Rattle.lie_lin.specs.Systems.{unknown_of}
use Rattle.lie_steps.specs.Replacement.{put_in, put_in_bulk}
use Rattle.lie_replace.proofs.replacing.replace_in_all.Given as goal

abbrev pub invariant-loop-eq : goal.invariant-loop-eq
invariant-loop-eq l = record {
  all : l.all.items ≡ map (put_in (map unknown_of l.unknowns) l.number l.form (unsigned_abs l.divisor)) (take l.eq-index l.forms);
  count : l.count ≡ triple_count_of_all (map (put_in_bulk (map unknown_of l.unknowns) l.number l.form (unsigned_abs l.divisor)) (take l.eq-index l.forms));
  few : l.count ≤ 1000000;
  within : Every IsFormWithinLimits (map (put_in_bulk (map unknown_of l.unknowns) l.number l.form (unsigned_abs l.divisor)) (take l.eq-index l.forms));
}
