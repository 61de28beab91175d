use Rattle.std.proofs.Common.{subst, sym, ◌∙◌, ap}
use Rattle.std.specs.Prelude.{ℕ, ◌≤◌, ◌≡◌}
use Rattle.lie_math.specs.Monomial.{Monomial, exponent, ◌·◌, power_of}
use Rattle.lie_ring.specs.declared.failures.PastKind.{PastKind}
use Rattle.lie_ring.specs.declared.failures.PolyFail.{PolyFail}
use Rattle.lie_ring.specs.declared.failures.PolyFail.TheVariants.{Past}
use Rattle.lie_ring.specs.Causes.{IsProductCause}
use Rattle.lie_system.specs.Exponents.{HasSmallExponents}
use Rattle.lie_scan.proofs.ExponentSteps.{raised_small, product_not_past}
use Rattle.lie_scan.proofs.term.raised.Goals as goal

product_small : (m f p : Monomial) (v e x : ℕ) → HasSmallExponents m → f ≡ power_of v e → p ≡ m · f → x ≡ exponent p v → x ≤ 32 → HasSmallExponents p
product_small m f p v e x small is_f is_p is_x low =
    let same : p ≡ m · power_of v e = is_p ∙ ap (λ g. m · g) is_f in
    subst HasSmallExponents (sym same) (raised_small m v e small (subst (λ k. k ≤ 32) (is_x ∙ ap (λ q. exponent q v) same) low))

not_past : (m f : Monomial) (v e : ℕ) (fail : PolyFail) (kind : PastKind) → HasSmallExponents m → f ≡ power_of v e → e ≤ 32 → fail ≡ Past kind → IsProductCause fail (m · f) → ⊥
not_past m f v e fail kind small is_f low is h =
    product_not_past m v e kind small low (subst (λ g. IsProductCause (Past kind) (m · g)) is_f (subst (λ k. IsProductCause k (m · f)) is h))

pub returns-in-Ok-clause-small : goal.returns-in-Ok-clause-small
returns-in-Ok-clause-small c = product_small c.args.mono.now c.power-factor.result c.in-Ok.product c.args.power.number c.args.power.exponent c.exponent.result
    c.requires.small c.power-factor.ensures c.in-Ok.ensures.product c.exponent.ensures c.if-exponent-gt-MAX_EXPONENT.false

pub returns-clause-value : goal.returns-clause-value
returns-clause-value c = absurd (not_past c.args.mono.now c.power-factor.result c.args.power.number c.args.power.exponent c.in-Err-Past.field-0 c.in-Err-Past.field-0-0
    c.requires.small c.power-factor.ensures c.requires.high c.in-Err-Past.field-0-is c.in-Err-Past.ensures.high)
