use Rattle.std.proofs.Common.{arith, sym, Less, get_or, ◌-◌, ◌<◌, ℕ}
use Rattle.std.specs.Ordering.{nat_cmp, on}
use Rattle.std.specs.Cmp.{nat_cmp_total, nat_cmp_is, on_total}
use Rattle.lie_lin.specs.declared.system.Unknown as kept
use Rattle.lie_lin.proofs.DecidingParts.{sorted_first, sorted_next, not_sorted, less_of}
use Rattle.lie_lin.proofs.validity.are_rising.Goals as goal

abbrev none : kept.Unknown
none = record { number = 0; vars = 0 }

pub loop-i-init : goal.loop-i-init
loop-i-init c = record { from = omega arith; rise = sorted_first (on (λ (f : kept.Unknown). f.number) nat_cmp) c.args.unknowns.now }

pub returns-then-unknowns-i : goal.returns-then-unknowns-i
returns-then-unknowns-i c =
    let before : ℕ = (get_or c.args.unknowns.now (c.loop-i.i - 1) none).number in
    let here : ℕ = (get_or c.args.unknowns.now c.loop-i.i none).number in
    not_sorted (on (λ (f : kept.Unknown). f.number) nat_cmp) c.args.unknowns.now c.loop-i.i none none c.loop-i.invariant.from c.loop-i-test.true
    (λ e. let lt : before < here = less_of before here e in let ge = c.if-unknowns-i.true in absurd (omega arith))

pub loop-i-preserved : goal.loop-i-preserved
loop-i-preserved c =
    let before : ℕ = (get_or c.args.unknowns.now (c.loop-i.i - 1) none).number in
    let here : ℕ = (get_or c.args.unknowns.now c.loop-i.i none).number in
    record {
      from = omega arith;
      rise = sorted_next (on (λ (f : kept.Unknown). f.number) nat_cmp) (on_total (λ (f : kept.Unknown). f.number) nat_cmp_total) c.args.unknowns.now c.loop-i.i none none c.loop-i.invariant.from c.loop-i-test.true c.loop-i.invariant.rise
          (let ge = c.if-unknowns-i.false in let lt : before < here = omega arith in sym (nat_cmp_is before here Less lt));
    }
