use Rattle.std.proofs.Common.{subst, sym}
use Rattle.lie_math.specs.Derivation.{is_below}
use Rattle.lie_math.specs.Polynomial.{constant}
use Rattle.lie_math.specs.Variables.{IsIn}
use Rattle.lie_math.proofs.Variables.{in-*ᴾ, in-constant}
use Rattle.lie_form.proofs.tests.square.Goals as goal

pub returns : goal.returns
returns c = subst (IsIn (is_below 13)) (sym c.in_ok-scale.ensures.multiple) (in-*ᴾ (is_below 13) (constant c.in_ok-c.c) c.in_ok-product.field-0 (in-constant (is_below 13) c.in_ok-c.c) c.in_ok-product.ensures)
