-- The printed order of derivatives, and a derivative derived once more, by their counts.
use Rattle.std.specs.Prelude.{◌≡◌, ℕ, zero, suc, ◌+◌, ◌<◌, List, [], ◌∷◌, length, slice_set, slice_index}
use Rattle.std.proofs.Common.{sym, ap, ap₂, ◌∙◌, arith}
use Rattle.std.specs.Ordering.{nat_cmp, ordering_then}
use Rattle.std.specs.Cmp.Lexicographic.{slice_cmp}
use Rattle.lie_math.specs.Counts.{order, raise, trimmed, derivative_cmp, raised}
use Rattle.lie_math.proofs.Counts.{order_trimmed, trimmed_raise, trimmed_cmp}
use Rattle.lie_jet.specs.Derivatives.{derivative_of}
use Rattle.lie_jet.specs.declared.derivative.Der.{Der}

pub compare_is : (x y : Der) → length y.counts ≡ length x.counts →
    ordering_then (nat_cmp (order y.counts) (order x.counts)) (ordering_then (nat_cmp y.unknown x.unknown) (slice_cmp nat_cmp y.counts x.counts)) ≡ derivative_cmp (derivative_of x) (derivative_of y)
compare_is x y l = ap₂ ordering_then (ap₂ nat_cmp (sym (order_trimmed y.counts)) (sym (order_trimmed x.counts))) (ap (ordering_then (nat_cmp y.unknown x.unknown)) (sym (trimmed_cmp y.counts x.counts l)))

set_raised : (xs : List ℕ) (i : ℕ) → i < length xs → slice_set xs i (slice_index xs i + 1) ≡ raise i xs
set_raised [] i h = absurd (omega arith)
set_raised (x ∷ xs) zero h = ap (λ c. c ∷ xs) (omega arith)
set_raised (x ∷ xs) (suc i) h = ap (λ l. x ∷ l) (set_raised xs i (omega arith))

pub raised_is : (n i : ℕ) (xs : List ℕ) → i < length xs → record { unknown = n; counts = trimmed (slice_set xs i (slice_index xs i + 1)) } ≡ raised i (record { unknown = n; counts = trimmed xs })
raised_is n i xs h = ap (λ (J : List ℕ). record { unknown = n; counts = J }) (ap trimmed (set_raised xs i h) ∙ trimmed_raise i xs)
