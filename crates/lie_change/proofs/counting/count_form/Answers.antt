use Rattle.std.proofs.Common.{length, ◌+◌, ◌<◌, subst}
use Rattle.lie_systems.specs.Triples.{triples}
use Rattle.lie_change.proofs.CountSteps.{past_count}
use Rattle.lie_change.proofs.counting.count_form.Goals as goal

pub returns-then-count-gt-MAX_TRIPLES-clause-past : goal.returns-then-count-gt-MAX_TRIPLES-clause-past
returns-then-count-gt-MAX_TRIPLES-clause-past c =
    past_count (c.args.before + length (triples c.args.form.now))
    (subst (λ n. 1000000 < c.args.before + n) c.form_triple_count.ensures.count c.if-count-gt-MAX_TRIPLES.true)
