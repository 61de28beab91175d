use Rattle.std.proofs.Common.{◌++◌, ◌+◌, ◌≤◌, List, subst}
use Rattle.lie_math.specs.LinearForm.{LinearForm}
use Rattle.lie_math.specs.Limits.{greatest_term_count}
use Rattle.lie_systems.specs.Bulk.{triple_count_of_all}
use Rattle.lie_change.proofs.SystemEnds.{tidied_within}
use Rattle.lie_tables.proofs.Following.{follows_on}
use Rattle.lie_change.proofs.putting.put_forms.Goals as goal

pub returns-in-Ok-clause-fits : goal.returns-in-Ok-clause-fits
returns-in-Ok-clause-fits c =
    tidied_within (c.args.equations.now.items ++ c.args.forms.now) c.args.general.now c.put_cleaned.new.equations.items
    c.in_ok-places.ensures.tidied
    (subst (λ (es : List LinearForm). triple_count_of_all es + triple_count_of_all c.args.general.now ≤ greatest_term_count)
    c.as_slice.ensures.value c.in-Ok.ensures.few)

pub returns-in-Err-clause-indexed : goal.returns-in-Err-clause-indexed
returns-in-Err-clause-indexed c =
    follows_on c.args.tables.now c.put_cleaned.new.tables c.take_back.new.tables c.put_cleaned.new.equations.items
    c.take_back.new.equations.items c.put_cleaned.ensures.indexed c.take_back.ensures.indexed
