-- A text without a plus is parsed where it is digits alone, and its number fits.
use Rattle.std.proofs.Common.{◌∙◌, arith}
use Rattle.lie_app.proofs.Numbers.{number_read, no_number}
use Rattle.lie_app.proofs.words.number_in.Goals as goal

pub returns-in_err-number-clause-number : goal.returns-in_err-number-clause-number
returns-in_err-number-clause-number c =
    c.from_residual.ensures
    ∙ no_number c.args.most_digits c.args.least c.args.greatest c.args.text.now c.parse.result (omega arith) (c.if-starts_with.ensures.byte (omega arith) (omega arith) (λ w o m. m)) c.parse.ensures.value.0
    c.in_err-number.ensures.value

pub returns-clause-number : goal.returns-clause-number
returns-clause-number c =
    number_read c.args.most_digits c.args.least c.args.greatest c.args.text.now c.parse.result c.in_ok-number.number c.if-text-most_digits.false
    (c.if-starts_with.ensures.byte (omega arith) (omega arith) (λ w o m. m)) c.parse.ensures.value.0 c.in_ok-number.ensures.value c.if-number-least.false c.if-greatest-number.false
