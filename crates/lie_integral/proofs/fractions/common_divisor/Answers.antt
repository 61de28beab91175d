use Rattle.std.proofs.Common.{◌<◌, ◌^◌, ◌∙◌, arith, ap, subst}
use Rattle.std.specs.Int.{w128, IsGcd}
use Rattle.std.specs.Prelude.{pos, unsigned_abs}
use Rattle.std.proofs.lemmas.Int.{fits_signed_from_abs, to_z_pos}
use Rattle.lie_lin.proofs.ContentSteps.{divisor_fits}
use Rattle.lie_integral.proofs.LowestFractions.{whole_divisor}
use Rattle.lie_integral.proofs.fractions.common_divisor.Goals as goal

pub overflow_cast-gcd : goal.overflow_cast-gcd
overflow_cast-gcd c =
    let a = c.size.ensures.size in let b = c.size-2.ensures.size in let fa = c.size.ensures.fits in let fb = c.size-2.ensures.fits in
    fits_signed_from_abs w128 (pos c.gcd.result)
    (divisor_fits c.size.result c.size-2.result c.gcd.result c.gcd.ensures (omega arith) (omega arith))

pub returns : goal.returns
returns c =
    let a = c.size.ensures.size in let b = c.size-2.ensures.size in let fa = c.size.ensures.fits in let fb = c.size-2.ensures.fits in
    let k : c.gcd.result < 2 ^ 127 = divisor_fits c.size.result c.size-2.result c.gcd.result c.gcd.ensures (omega arith) (omega arith) in
    let h : IsGcd (unsigned_abs c.args.number) (unsigned_abs c.args.other) c.gcd.result =
    subst (λ n. IsGcd n (unsigned_abs c.args.other) c.gcd.result) a (subst (λ n. IsGcd c.size.result n c.gcd.result) b c.gcd.ensures) in
    let r = whole_divisor c.in-Some.divisor c.gcd.result (unsigned_abs c.args.number) (unsigned_abs c.args.other)
    (c.in-Some.ensures.0 ∙ to_z_pos w128 c.gcd.result k) h c.requires.1 in
    record { positive = r.0; divisor = r.1 }

pub unreachable-requires : goal.unreachable-requires
unreachable-requires c =
    let a = c.size.ensures.size in let b = c.size-2.ensures.size in let fa = c.size.ensures.fits in let fb = c.size-2.ensures.fits in
    let k : c.gcd.result < 2 ^ 127 = divisor_fits c.size.result c.size-2.result c.gcd.result c.gcd.ensures (omega arith) (omega arith) in
    let h = c.in-None.ensures in
    let e = ap unsigned_abs (to_z_pos w128 c.gcd.result k) in
    absurd (omega arith)
