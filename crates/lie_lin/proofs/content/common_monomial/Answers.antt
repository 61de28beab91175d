use Rattle.std.proofs.Common.{arith, ◌≡◌, ◌-◌, sym, ap, ◌∙◌, suc, drop}
use Rattle.std.specs.Prelude.{ℤ}
use Rattle.lie_math.specs.Monomial.{Monomial}
use Rattle.lie_jet.specs.declared.derivative.Der.{Der}
use Rattle.lie_systems.specs.Normalised.{common_factor, common_monomial}
use Rattle.lie_lin.specs.Forms.{triples_of}
use Rattle.lie_lin.proofs.ContentSteps.{common_step}
use Rattle.lie_lin.proofs.content.common_monomial.Goals as goal

pub loop-i-preserved : goal.loop-i-preserved
loop-i-preserved c =
    let bound = c.loop-i.invariant.bound in
    let next : c.loop-i.i ≡ suc (c.loop-i.i - 1) = omega arith in
    record {
      common = c.in_ok-common-2.ensures ∙ ap (λ (x : Der × Monomial × ℤ). common_factor x.1 c.loop-i.common) (sym c.index-list-i-in-loop-i.is)
          ∙ ap (common_factor c.index-list-i-in-loop-i.result.1) (c.loop-i.invariant.common ∙ ap (λ n. common_monomial (triples_of (drop n c.args.list.now))) next)
          ∙ sym (common_step c.args.list.now (c.loop-i.i - 1) c.index-list-i-in-loop-i.result (omega arith) c.index-list-i-in-loop-i.is);
      bound = omega arith;
    }
