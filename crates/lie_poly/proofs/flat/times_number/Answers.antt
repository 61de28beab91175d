use Rattle.std.proofs.Common.{ap, subst, pos, reverse}
use Rattle.std.specs.Prelude.{unsigned_abs}
use Rattle.std.proofs.lemmas.Result.{IfOk-weaker, IfErr-weaker}
use Rattle.lie_math.specs.Polynomial.{polynomial_of, term, ◌*ᴾ◌}
use Rattle.lie_math.specs.Limits.{absolutes}
use Rattle.lie_ring.specs.Causes.{IsCause}
use Rattle.lie_ring.specs.Entries.{entries}
use Rattle.lie_poly.proofs.SumSteps.{tells_same}
use Rattle.lie_poly.proofs.flat.times_number.Goals as goal

pub returns-clause-product : goal.returns-clause-product
returns-clause-product g c =
    let value = g.C.Ring.value in
    IfOk-weaker c.times_term.result _ _
    (λ v h. tells_same value (reverse v.items) _ _ _ _
    (ap (λ m. term m (value c.args.c.now) *ᴾ polynomial_of (entries value c.args.terms.now)) c.one-one.ensures)
    (ap (λ m. term m (pos (unsigned_abs (value c.args.c.now))) *ᴾ polynomial_of (absolutes (entries value c.args.terms.now))) c.one-one.ensures) h)
    c.times_term.ensures.product

pub returns-clause-past : goal.returns-clause-past
returns-clause-past g c =
    let value = g.C.Ring.value in
    IfErr-weaker c.times_term.result _ _
    (λ fail h. subst (IsCause fail) (ap (λ m. term m (pos (unsigned_abs (value c.args.c.now))) *ᴾ polynomial_of (absolutes (entries value c.args.terms.now))) c.one-one.ensures) h)
    c.times_term.ensures.past
