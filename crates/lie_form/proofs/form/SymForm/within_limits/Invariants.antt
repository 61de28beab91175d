use Rattle.std.proofs.Common.{◌≡◌, ◌≤◌, ◌*◌, ◌^◌, take, length}
use Rattle.std.specs.List.{AllByRecursion as Every}
use Rattle.lie_form.proofs.FormCauses.{IsLowEntry}
use Rattle.lie_systems.specs.Triples.{triples_in}
use Rattle.lie_form.specs.DerivativeTerms.{derivative_terms}
use Rattle.lie_form.proofs.form.SymForm.within_limits.Given as goal

abbrev pub invariant-loop-term : goal.invariant-loop-term
invariant-loop-term l = record {
  count : l.count ≡ length (triples_in (take l.term-index (derivative_terms l.term-items)));
  small : l.count ≤ l.term-index * 2 ^ 64;
  within : Every IsLowEntry (take l.term-index (derivative_terms l.term-items));
}
