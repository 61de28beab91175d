use Rattle.std.proofs.Common.{◌++◌}
use Rattle.lie_replace.proofs.Tidied.{tidied_by_added, tidied_normalised}
use Rattle.lie_replace.proofs.cleaning.put_cleaned.Goals as goal

pub returns-in-Ok-clause-tidied : goal.returns-in-Ok-clause-tidied
returns-in-Ok-clause-tidied c = tidied_by_added c.args.equations.now.items c.args.forms.now c.put_each.new.equations.items c.requires.normalised c.in-Ok.ensures.added

pub returns-in-Ok-clause-ordered : goal.returns-in-Ok-clause-ordered
returns-in-Ok-clause-ordered c = (c.in-Ok.ensures.added).ordered

pub returns-in-Ok-clause-normalised : goal.returns-in-Ok-clause-normalised
returns-in-Ok-clause-normalised c = tidied_normalised (c.args.equations.now.items ++ c.args.forms.now) c.put_each.new.equations.items (tidied_by_added c.args.equations.now.items c.args.forms.now c.put_each.new.equations.items c.requires.normalised c.in-Ok.ensures.added)
