use Rattle.std.proofs.Common.{arith, sym, subst, subst₂, length, ◌/◌}
use Rattle.std.proofs.lemmas.List.{nil_from_length}
use Rattle.lie_poly.specs.Packed.{IsMerged, IsProduct}
use Rattle.lie_poly.proofs.PackedProducts.{one_item, packed_none, packed_halves}
use Rattle.lie_poly.proofs.Results.{some_weaker}
use Rattle.lie_poly.proofs.packed.+multiply.Goals as goal

pub returns-then-left-eq0 : goal.returns-then-left-eq0
returns-then-left-eq0 g t c =
    subst₂ (λ xs zs. IsProduct g.C.Ring.value xs c.args.right.now zs) (sym (nil_from_length c.args.left.now (omega (arith, c.if-left-eq0.true)))) (sym c.new.ensures.items) (packed_none g.C.Ring.value c.args.right.now)

pub returns-then-left-eq1 : goal.returns-then-left-eq1
returns-then-left-eq1 g t c =
    some_weaker c.times_term.result _ _
    (λ v h. subst (λ xs. IsProduct g.C.Ring.value xs c.args.right.now v.items) (sym (one_item c.args.left.now c.index-left-0.result c.if-left-eq1.true c.index-left-0.is)) h)
    c.times_term.ensures

pub returns : goal.returns
returns g t c =
    some_weaker c.merge.result _ _
    (λ v h. packed_halves g.C.Ring.value c.args.left.now c.args.right.now (length c.args.left.now / 2) c.in_ok-first.first.items c.in_ok-second.second.items v.items c.in_ok-first.ensures c.in_ok-second.ensures
    (subst₂ (λ xs ys. IsMerged g.C.Ring.value xs ys v.items) c.as_slice.ensures.value c.as_slice-2.ensures.value h))
    c.merge.ensures
