use Rattle.std.specs.Prelude.{◌-◌, ◌<◌, length}
use Rattle.std.proofs.Common.{sym, ap, subst, ◌∙◌, arith}
use Rattle.lie_math.specs.FiniteSum as finite
use Rattle.lie_math.specs.FiniteSum.{IsCanonical}
use Rattle.lie_math.specs.LinearForm.{forms}
use Rattle.lie_math.specs.VectorField.{VectorField}
use Rattle.lie_math.proofs.EveryElement.{every_at}
use Rattle.lie_lin.specs.Forms.{coefficients_of}
use Rattle.lie_algebra.proofs.ClosedTerms.{falling_start, falling_more, falling_all, falling_canonical, sum_falling, part_read}
use Rattle.lie_algebra.proofs.closed_form.general_component.Goals as goal

pub loop-left-init : goal.loop-left-init
loop-left-init c = record {
  within = omega arith;
  terms = ap coefficients_of c.new-terms.ensures.items ∙ falling_start c.args.component c.args.basis.now;
}

pub loop-left-preserved : goal.loop-left-preserved
loop-left-preserved c = record {
  within = omega arith;
  terms = falling_more c.args.component c.args.basis.now c.loop-left.left (c.loop-left.left - 1) c.index-basis-left.result c.index-parts-from.result
      (coefficients_of c.loop-left.terms.items) (coefficients_of c.push_unknown.new.terms.items) (omega arith) (omega arith) c.index-basis-left.is
      (part_read c.index-basis-left.result c.parts-parts.result.now c.from.result c.args.component c.index-parts-from.result c.parts-parts.ensures c.from.ensures
      (every_at (λ (V : VectorField). c.args.component < length V.parts) c.args.basis.now (c.loop-left.left - 1) c.index-basis-left.result (omega arith) c.index-basis-left.is c.requires.components)
      c.index-parts-from.is)
      c.in_ok-push_unknown.ensures c.loop-left.invariant.terms;
}

pub of_terms-requires : goal.of_terms-requires
of_terms-requires c =
    subst (IsCanonical forms) (sym (falling_all c.args.component c.args.basis.now c.loop-left.left (coefficients_of c.loop-left.terms.items) (omega arith) c.loop-left.invariant.terms))
    (falling_canonical c.args.component c.args.basis.now 1)

pub returns : goal.returns
returns c =
    c.of_terms.ensures
    ∙ ap (finite.of forms) (falling_all c.args.component c.args.basis.now c.loop-left.left (coefficients_of c.loop-left.terms.items) (omega arith) c.loop-left.invariant.terms)
    ∙ sum_falling c.args.component c.args.basis.now 1
