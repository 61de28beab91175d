use Rattle.std.proofs.Common.{ap, ◌∙◌, arith}
use Rattle.std.specs.Prelude.{◌≡◌, ◌+◌, pos}
use Rattle.lie_math.specs.Counts.{partials}
use Rattle.lie_math.specs.Polynomial.{term}
use Rattle.lie_jet.proofs.TotalParts.{if_ok}
use Rattle.lie_jet.proofs.TotalSteps.{if_err}
use Rattle.lie_degree.proofs.SaidSums.{nothing_said, term_said, term_cause}
use Rattle.lie_degree.proofs.equations.said_by_term.Goals as goal

pub returns-then-term-from-clause-value : goal.returns-then-term-from-clause-value
returns-then-term-from-clause-value c =
    c.zero.ensures ∙ nothing_said c.args.column.now c.requires c.args.term.now.1 c.args.term.now.0
    (λ e. absurd (omega (arith, e, c.component.ensures, c.from.ensures)))

pub returns-clause-value : goal.returns-clause-value
returns-clause-value c =
    let e : c.args.term.now.0.unknown ≡ c.args.column.now.0 + 1 = omega (arith, c.component.ensures, c.from.ensures) in
    let is = c.in_ok-derivative.ensures.derivative ∙ ap (λ m. partials c.args.term.now.0.counts (term m (pos 1))) c.mono.ensures.mono in
    if_ok c.mul.result (λ p h. h
    ∙ term_said c.args.column.now c.requires c.args.term.now.1 c.in_ok-derivative.derivative c.args.term.now.0 e is)
    c.mul.ensures.product

pub returns-clause-past : goal.returns-clause-past
returns-clause-past c =
    let e : c.args.term.now.0.unknown ≡ c.args.column.now.0 + 1 = omega (arith, c.component.ensures, c.from.ensures) in
    let is = c.in_ok-derivative.ensures.derivative ∙ ap (λ m. partials c.args.term.now.0.counts (term m (pos 1))) c.mono.ensures.mono in
    if_err c.mul.result (λ fail. term_cause c.args.column.now c.requires fail c.args.term.now.1 c.in_ok-derivative.derivative
    c.args.term.now.0 e is) c.mul.ensures.past
