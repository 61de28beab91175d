use Rattle.std.proofs.Common.{sym, ◌∙◌}
use Rattle.lie_math.proofs.Limits.{term_is}
use Rattle.lie_ring.proofs.OneTerm.{bulk_not_past}
use Rattle.lie_ring.proofs.one_term.term_polynomial.Goals as goal

pub returns-in-Ok : goal.returns-in-Ok
returns-in-Ok g c = c.in-Ok.ensures.sum ∙ sym (term_is c.args.mono c.args.number)

pub unreachable-requires : goal.unreachable-requires
unreachable-requires g c = bulk_not_past c.in-Err-Past.field-0-0 c.args.mono c.args.number c.fits.ensures c.requires (rw c.in-Err-Past.field-0-is at c.in-Err-Past.ensures.past)
