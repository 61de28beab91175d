use Rattle.std.proofs.Common.{◌≡◌, ◌++◌, ◌+◌, ◌≤◌, List, subst, sym}
use Rattle.lie_math.specs.LinearForm.{LinearForm}
use Rattle.lie_math.specs.Limits.{greatest_term_count}
use Rattle.lie_systems.specs.Bulk.{triple_count_of_all}
use Rattle.lie_systems.specs.Works.{Triples}
use Rattle.lie_normal.specs.WorkCauses.{IsWorkCause}
use Rattle.lie_steps.specs.Tidying.{IsTidied}
use Rattle.lie_change.specs.Lists.{unmentioned}
use Rattle.lie_change.proofs.SystemEnds.{tidied_within, tidied_cause}
use Rattle.lie_change.proofs.TidiedLists.{tidied_unmentioned}
use Rattle.lie_tables.proofs.Following.{follows_on}
use Rattle.lie_change.proofs.putting.put_for_unknown.Goals as goal

pub returns-in-Ok-clause-tidied : goal.returns-in-Ok-clause-tidied
returns-in-Ok-clause-tidied c =
    subst (IsTidied (unmentioned c.args.number c.args.equations.now.items ++ c.args.forms.now)) (sym c.keep_unmentioned.ensures.kept)
    (tidied_unmentioned c.args.equations.now.items c.args.forms.now c.put_cleaned.new.equations.items c.requires.normalised
    c.in_ok-places.ensures.tidied c.args.number c.requires.free)

pub returns-in-Ok-clause-fits : goal.returns-in-Ok-clause-fits
returns-in-Ok-clause-fits c =
    tidied_within (unmentioned c.args.number c.args.equations.now.items ++ c.args.forms.now) c.args.general.now
    (unmentioned c.args.number c.put_cleaned.new.equations.items)
    (tidied_unmentioned c.args.equations.now.items c.args.forms.now c.put_cleaned.new.equations.items c.requires.normalised
    c.in_ok-places.ensures.tidied c.args.number c.requires.free)
    (subst (λ (es : List LinearForm). triple_count_of_all (unmentioned c.args.number es) + triple_count_of_all c.args.general.now ≤
    greatest_term_count) c.as_slice.ensures.value c.in-Ok.ensures.few)

pub returns-in-Err-clause-past : goal.returns-in-Err-clause-past
returns-in-Err-clause-past c =
    tidied_cause (unmentioned c.args.number c.args.equations.now.items ++ c.args.forms.now) c.args.general.now
    (unmentioned c.args.number c.put_cleaned.new.equations.items) c.in-Err.fail
    (tidied_unmentioned c.args.equations.now.items c.args.forms.now c.put_cleaned.new.equations.items c.requires.normalised
    c.in_ok-places.ensures.tidied c.args.number c.requires.free)
    (subst (λ (es : List LinearForm). IsWorkCause c.in-Err.fail
    (λ b. b ≡ Triples (triple_count_of_all (unmentioned c.args.number es) + triple_count_of_all c.args.general.now)))
    c.as_slice.ensures.value c.in-Err.ensures.past)

pub returns-in-Ok-clause-indexed : goal.returns-in-Ok-clause-indexed
returns-in-Ok-clause-indexed c =
    follows_on c.args.tables.now c.put_cleaned.new.tables c.keep_unmentioned.new.tables c.put_cleaned.new.equations.items
    c.keep_unmentioned.new.equations.items c.put_cleaned.ensures.indexed c.keep_unmentioned.ensures.indexed

pub returns-in-Err-clause-indexed : goal.returns-in-Err-clause-indexed
returns-in-Err-clause-indexed c =
    follows_on c.args.tables.now c.put_cleaned.new.tables c.take_back.new.tables c.put_cleaned.new.equations.items
    c.take_back.new.equations.items c.put_cleaned.ensures.indexed c.take_back.ensures.indexed
