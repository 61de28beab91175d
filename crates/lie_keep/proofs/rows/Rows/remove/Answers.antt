-- The rows that are left have names that differ.
use Rattle.std.proofs.Common.{subst, sym, ap, ◌∙◌, remove}
use Rattle.lie_outer.specs.Rows.{AreRows, rows_without}
use Rattle.lie_outer.proofs.DifferingNames.{AreRows-without}
use Rattle.lie_keep.proofs.rows.Rows.remove.Goals as goal

pub invariant_of-self : goal.invariant_of-self
invariant_of-self c =
    let rows = c.deref.ensures.value in
    subst AreRows (ap (λ l. rows_without l c.bytes.result.now) (sym rows) ∙ (c.in-Some.ensures.found.2 ∙ (ap (λ l. remove l c.in-Some.at) rows ∙ sym c.remove.ensures.items))) (AreRows-without _ _ c.self.invariant)

pub returns-in-Some-clause-rows : goal.returns-in-Some-clause-rows
returns-in-Some-clause-rows c =
    let rows = c.deref.ensures.value in
    subst AreRows (ap (λ l. rows_without l c.bytes.result.now) (sym rows) ∙ (c.in-Some.ensures.found.2 ∙ (ap (λ l. remove l c.in-Some.at) rows ∙ sym c.remove.ensures.items))) (AreRows-without _ _ c.self.invariant)
