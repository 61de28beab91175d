use Rattle.lie_brackets.proofs.DerivedTerms.{no_terms, no_terms_bulk, wide_power}
use Rattle.lie_brackets.proofs.derivations.push_power.Goals as goal

pub returns-then-value-eq0-clause-sum : goal.returns-then-value-eq0-clause-sum
returns-then-value-eq0-clause-sum c = no_terms c.args.value.now c.if-value-eq0.true _ _

pub returns-then-value-eq0-clause-bulk : goal.returns-then-value-eq0-clause-bulk
returns-then-value-eq0-clause-bulk c = no_terms_bulk c.args.value.now c.if-value-eq0.true _ _

pub returns-in-None-clause-past : goal.returns-in-None-clause-past
returns-in-None-clause-past c = wide_power c.args.value.now _ c.args.number c.args.exponent c.requires.value c.if-value-eq0.false c.in-None.ensures
