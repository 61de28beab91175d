use Rattle.std.specs.Prelude.{◌≡◌, Bool, true, false, Some, None, if◌then◌else◌, unsigned_abs, ◌+◌}
use Rattle.std.proofs.Common.{◌∙◌, ap, subst, sym}
use Rattle.lie_scan.specs.Sizes.{AreSizes}
use Rattle.lie_scan.proofs.SizeSteps.{sizes_step}
use Rattle.lie_scan.proofs.terms.Terms.with_term.Goals as goal
use Rattle.lie_ring.proofs.Ratios.{unsigned_abs-signed}

some_is : {A : Type 0} (b : Bool) (x y : A) → Some x ≡ (if b then Some y else None) → x ≡ y
some_is true x y e = cc
some_is false x y e = cc

pub invariant_of-result : goal.invariant_of-result
invariant_of-result c =
    let total = some_is _ c.in-Some.total _ c.in-Some.ensures in
    record {
      sized = subst (AreSizes c.in_ok-sizes-in-Some.sizes) (sym c.in_ok-list-in-Some.ensures)
          (sizes_step c.args.self.sizes c.in_ok-sizes-in-Some.sizes c.args.self.list.items c.in_ok-key.key c.args.mono c.signed.result c.args.number c.in-Some.total
          c.args.self.sized (c.in_ok-key.ensures.items ∙ c.pairs.ensures) (total ∙ ap (λ s. s + c.args.number) c.size_at-size.ensures)
          (ap unsigned_abs c.signed.ensures ∙ unsigned_abs-signed c.args.negative c.args.number) c.in_ok-sizes-in-Some.ensures);
    }
