use Rattle.std.specs.Prelude.{unsigned_abs, ◌<◌, ◌^◌}
use Rattle.std.proofs.Common.{sym, ap₂, subst, ◌∙◌}
use Rattle.std.specs.Int.{◌∣◌}
use Rattle.lie_math.specs.CommonDivisors.{common_divisor}
use Rattle.lie_spans.proofs.Divisors.{common_divisor_left}
use Rattle.lie_rows.proofs.Quotients.{common_positive, common_small}
use Rattle.lie_rows.proofs.entry.over_common.Goals as goal

pub exact_entry-requires-clause-positive : goal.exact_entry-requires-clause-positive
exact_entry-requires-clause-positive c = subst (λ n. 0 < n) (sym (c.common_divisor_of.ensures ∙ ap₂ common_divisor c.size.ensures.size c.size-2.ensures.size)) (common_positive c.args.a c.args.b c.requires)

pub exact_entry-requires-clause-small : goal.exact_entry-requires-clause-small
exact_entry-requires-clause-small c = subst (λ n. n < 2 ^ 127) (sym (c.common_divisor_of.ensures ∙ ap₂ common_divisor c.size.ensures.size c.size-2.ensures.size)) (common_small c.args.a c.args.b c.requires c.size.ensures.fits)

pub exact_entry-requires-clause-divides : goal.exact_entry-requires-clause-divides
exact_entry-requires-clause-divides c = subst (λ n. n ∣ unsigned_abs c.args.a) (sym (c.common_divisor_of.ensures ∙ ap₂ common_divisor c.size.ensures.size c.size-2.ensures.size)) (common_divisor_left (unsigned_abs c.args.a) (unsigned_abs c.args.b))
