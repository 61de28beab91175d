use Rattle.std.proofs.Common.{subst, ◌∙◌}
use Rattle.lie_math.specs.Limits.{FitsNumber}
use Rattle.lie_ring.specs.Numbers.{IsExact}
use Rattle.lie_poly.proofs.Repeats.{doubled_even, doubled_odd, wide_double}
use Rattle.lie_poly.proofs.derivative.+repeat.Goals as goal

pub returns-in_err-even : goal.returns-in_err-even
returns-in_err-even g t c = rw c.from_residual-in_err-even.ensures (wide_double (g.C.Ring.value c.args.c.now) (g.C.Ring.value c.in_ok-half.half) c.args.times c.in_ok-half.ensures.0 c.in_err-even.ensures)

pub returns-then-times-eq0-2 : goal.returns-then-times-eq0-2
returns-then-times-eq0-2 g t c =
    let e = doubled_even (g.C.Ring.value c.args.c.now) (g.C.Ring.value c.in_ok-half.half) c.args.times c.in_ok-half.ensures.0 c.if-times-eq0-2.true in
    (c.in_ok-even.ensures.0 ∙ e, subst FitsNumber e c.in_ok-even.ensures.1)

pub returns : goal.returns
returns g t c =
    let value = g.C.Ring.value in
    subst (IsExact value c.add-2.result) (doubled_odd (value c.args.c.now) (value c.in_ok-half.half) (value c.in_ok-even.even) c.args.times c.in_ok-half.ensures.0 c.in_ok-even.ensures.0 c.if-times-eq0-2.false) c.add-2.ensures
