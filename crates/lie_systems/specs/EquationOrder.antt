-- The order of triples, and the order of equations in a list of them.
use Rattle.std.specs.Prelude.{length}
use Rattle.std.proofs.Common.{Ordering}
use Rattle.std.specs.Ordering.{nat_cmp, int_cmp, then_cmp, on, flip_args}
use Rattle.std.specs.Cmp.Lexicographic.{slice_cmp}
use Rattle.lie_math.specs.Monomial.{monomial_cmp}
use Rattle.lie_math.specs.Counts.{derivative_cmp}
use Rattle.lie_math.specs.LinearForm.{LinearForm}
use Rattle.lie_systems.specs.Triples.{Triple, triples}

-- the lesser derivative first, then the monomial that is printed later, then the lesser number
abbrev pub triple_cmp : Triple → Triple → Ordering
triple_cmp = then_cmp (on (λ t. t.0) (flip_args derivative_cmp)) (then_cmp (on (λ t. t.1) (flip_args monomial_cmp)) (on (λ t. t.2) int_cmp))

-- the one with fewer triples first, then triple by triple
abbrev pub equation_cmp : LinearForm → LinearForm → Ordering
equation_cmp = then_cmp (on (λ E. length (triples E)) nat_cmp) (on triples (slice_cmp triple_cmp))
