use Rattle.std.proofs.Common.{sym, ap, ap₂, subst, ◌∙◌, arith}
use Rattle.std.proofs.Math.ListN.{drop_of_length-le}
use Rattle.lie_math.specs.Counts.{partials_from}
use Rattle.std.specs.Prelude.{◌≤◌, length, pos}
use Rattle.lie_math.specs.Limits.{HasLowExponents}
use Rattle.lie_math.specs.Polynomial.{term}
use Rattle.lie_degree.specs.SmallTerms.{IsSmall}
use Rattle.lie_degree.proofs.SmallTerms.{small_monomial, low_of_degree}
use Rattle.lie_degree.proofs.derivatives.derived_monomial.Goals as goal

pub term_polynomial-requires : goal.term_polynomial-requires
term_polynomial-requires c = subst HasLowExponents (sym c.in_ok-copy.ensures) (low_of_degree c.args.mono.now (omega (arith, c.requires)))

pub loop-var-init : goal.loop-var-init
loop-var-init c =
    let l : length c.args.counts.now ≤ 8 = omega arith in
    let e = c.in_ok-made.ensures ∙ ap₂ (λ m z. term m z) c.in_ok-copy.ensures c.one.ensures in
    record {
      within = omega arith;
      small = subst IsSmall (sym e) (small_monomial c.args.mono.now c.requires);
      derived = e ∙ ap (λ J. partials_from 8 J (term c.args.mono.now (pos 1))) (sym (drop_of_length-le c.args.counts.now l));
    }
