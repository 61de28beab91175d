use Rattle.std.proofs.Common.{◌≡◌, vec_len}
use Rattle.lie_replace.specs.Cleaning.{taken_back, AreFilled}
use Rattle.lie_tables.specs.Tables.{Follows}
use Rattle.lie_replace.proofs.cleaning.take_back.Given as goal

abbrev pub invariant-loop-place : goal.invariant-loop-place
invariant-loop-place l = record {
  filled : AreFilled l.places.items l.equations.items;
  indexed : Follows l.initial.tables l.tables l.equations.items;
  back : taken_back l.places.items l.equations.items ≡ taken_back l.initial.places.items l.initial.equations.items;
}

abbrev pub decreases-loop-place : goal.decreases-loop-place
decreases-loop-place l = vec_len l.places
