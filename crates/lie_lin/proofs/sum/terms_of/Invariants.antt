use Rattle.std.proofs.Common.{◌≡◌, take}
use Rattle.lie_lin.specs.Forms.{triples_of, terms_at}
use Rattle.lie_jet.specs.Derivatives.{derivative_of}
use Rattle.lie_lin.proofs.sum.terms_of.Given as goal

abbrev pub invariant-loop-triple : goal.invariant-loop-triple
invariant-loop-triple l = l.terms.items ≡ terms_at (derivative_of l.der) (triples_of (take l.triple-index l.list))
