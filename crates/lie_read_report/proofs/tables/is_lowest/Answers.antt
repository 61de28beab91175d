use Rattle.std.proofs.Common.{arith, subst}
use Rattle.std.specs.Int.{IsGcd}
use Rattle.lie_read_report.proofs.Reported.{lowest_decided}
use Rattle.lie_read_report.proofs.tables.is_lowest.Goals as goal

pub returns : goal.returns
returns c =
    let is = c.numerator_size-size.ensures in
    let narrow = c.if-size-ge-LIMIT.false in
    let low = c.if-ratio-ge-LIMIT.false in
    let some = c.if-ratio-eq0.false in
    lowest_decided c.args.ratio.now c.gcd.result (omega arith) (omega arith) (omega arith) (subst (λ n. IsGcd n (c.args.ratio.now).den c.gcd.result) is c.gcd.ensures)
