use Rattle.std.proofs.Common.{ℕ, ◌<◌, List, length, take, nat_eq, map}
use Rattle.lie_math.specs.Polynomial.{WholePolynomial}
use Rattle.lie_jet.specs.declared.derivative.Der.{Der}
use Rattle.lie_tables.specs.Places.{IsTable, with_keys}
use Rattle.lie_tables.proofs.tables.note_unknowns.Given as goal

abbrev pub invariant-loop-term : goal.invariant-loop-term
invariant-loop-term l =
    (us : List (List ℕ)) → IsTable nat_eq l.initial.table us → l.place < length us
    → IsTable nat_eq l.table (with_keys us l.place (map (λ (t : Der × WholePolynomial). (t.0).unknown) (take l.term-index l.terms)))
