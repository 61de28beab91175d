use Rattle.std.proofs.Common.{ap, ◌∙◌, arith}
use Rattle.std.specs.Prelude.{◌++◌, ◌-◌, ◌≡◌, suc, map}
use Rattle.std.specs.List.{range_with_len}
use Rattle.lie_math.specs.Monomial.{power_of, ◌·◌, degree}
use Rattle.lie_degree.proofs.Loops.{numbers_more}
use Rattle.lie_degree.proofs.monomials.push_powers.Goals as goal

pub loop-exponent-preserved : goal.loop-exponent-preserved
loop-exponent-preserved c =
    numbers_more (λ e. power_of c.args.var e · c.args.mono.now) c.args.monos.now.items c.loop-exponent.monos.items c.push.new.self.items
    c.loop-exponent.exponent _ c.in_ok-push.ensures.items
    c.in_ok-product_with_power.ensures c.loop-exponent.invariant

pub returns : goal.returns
returns c =
    let n : c.loop-exponent.exponent ≡ suc (c.args.highest - degree c.args.mono.now) = omega (arith, c.degree_of.ensures, c.from.ensures) in
    c.loop-exponent.invariant ∙ ap
    (λ n. c.args.monos.now.items ++ map (λ e. power_of c.args.var e · c.args.mono.now) (range_with_len 0 n)) n
