use Rattle.std.proofs.Common.{sym, ap, subst, ◌∙◌}
use Rattle.std.specs.Int.{w128, ◌∣◌}
use Rattle.std.specs.Prelude.{unsigned_abs, ◌*ℤ◌}
use Rattle.std.proofs.lemmas.Int.{to_z_pos}
use Rattle.lie_math.proofs.Integer.{not_zero}
use Rattle.lie_fieldtext.proofs.field_parts.quotient.Goals as goal

pub exact_quotient-requires-clause-apart : goal.exact_quotient-requires-clause-apart
exact_quotient-requires-clause-apart c e = not_zero c.args.divisor c.requires.some (sym (c.in-Some.ensures.0 ∙ to_z_pos w128 c.args.divisor c.requires.small) ∙ e)

pub exact_quotient-requires-clause-divides : goal.exact_quotient-requires-clause-divides
exact_quotient-requires-clause-divides c = subst (λ z. unsigned_abs z ∣ unsigned_abs c.args.number) (sym (c.in-Some.ensures.0 ∙ to_z_pos w128 c.args.divisor c.requires.small)) c.requires.divides

pub returns : goal.returns
returns c = ap (λ z. z *ℤ c.exact_quotient.result) (sym (c.in-Some.ensures.0 ∙ to_z_pos w128 c.args.divisor c.requires.small)) ∙ c.exact_quotient.ensures
