use Rattle.std.proofs.Common.{◌≡◌, ◌≤◌, ◌*◌, ◌^◌, take, length}
use Rattle.std.specs.List.{AllByRecursion as Every}
use Rattle.lie_lin.proofs.FormLimits.{IsPartWithin}
use Rattle.lie_systems.specs.Triples.{triples_in}
use Rattle.lie_systems.specs.Bulk.{absolute_triples}
use Rattle.lie_lin.specs.Forms.{derivatives_of, coefficients_of, triples_of, gathered, kept}
use Rattle.lie_lin.proofs.sum.coefficients.Given as goal

abbrev pub invariant-loop-der : goal.invariant-loop-der
invariant-loop-der l = record {
  sum : coefficients_of l.terms.items ≡ kept (gathered (derivatives_of (take l.der-index l.ders)) (triples_of l.list));
  count : l.count ≡ length (triples_in (gathered (derivatives_of (take l.der-index l.ders)) (absolute_triples (triples_of l.list))));
  small : l.count ≤ l.der-index * 2 ^ 64;
  within : Every (IsPartWithin (triples_of l.list)) (derivatives_of (take l.der-index l.ders));
}
