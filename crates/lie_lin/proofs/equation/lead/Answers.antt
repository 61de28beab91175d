use Rattle.std.proofs.Common.{arith}
use Rattle.lie_lin.proofs.Forms.{empty_is_none, first_is_kept_lead}
use Rattle.lie_lin.proofs.equation.lead.Goals as goal

pub returns-then-len-eq0 : goal.returns-then-len-eq0
returns-then-len-eq0 c = empty_is_none c.eq.inside.terms.items c.args.eq.now (omega (arith, c.len.ensures)) c.eq.view_is

pub returns : goal.returns
returns c = first_is_kept_lead c.eq.inside.terms.items c.args.eq.now c.index.result.now c.eq.invariant c.eq.view_is (omega (arith, c.len.ensures)) c.index.ensures
