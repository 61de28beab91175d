use Rattle.std.proofs.Common.{◌≡◌, ◌<◌, ◌∙◌, ap, lt-ltb, ltb-true, refl, subst, sym}
use Rattle.lie_steps.specs.Split.{form_degree}
use Rattle.lie_rules.proofs.PowerParts.{occurs_of_degree, degree_of_occurs}
use Rattle.lie_rules.proofs.split.is_split_by.Goals as goal

pub returns : goal.returns
returns c =
    let degree : c.in_ok-degree.degree ≡ form_degree c.args.var c.args.eq.now = c.in_ok-degree.ensures
    ∙ ap (λ v. form_degree v c.args.eq.now) c.from.ensures in (
      λ e. record {
        occurs = occurs_of_degree c.args.var c.args.eq.now
            (subst (λ n. 0 < n) degree (ltb-true 0 c.in_ok-degree.degree e));
        independent = c.if-not-is_independent.ensures.0 refl;
      },
      λ s. lt-ltb 0 c.in_ok-degree.degree (subst (λ n. 0 < n) (sym degree) (degree_of_occurs c.args.var c.args.eq.now s.occurs)),
    )
