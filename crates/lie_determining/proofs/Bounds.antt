-- Products and partial derivatives are bounded by those of the absolute values.
use Rattle.std.specs.Prelude.{ℕ}
use Rattle.std.proofs.Common.{subst₂, ap, ◌∙◌}
use Rattle.lie_math.specs.FiniteSumLaws.{of_list}
use Rattle.lie_math.specs.Limits.{absolute, absolutes}
use Rattle.lie_math.specs.PartialDerivative.{partial}
use Rattle.lie_math.specs.Polynomial.{WholePolynomial, terms, polynomial_of, ◌*ᴾ◌}
use Rattle.lie_math.proofs.Limits.{nonneg_absolutes}
use Rattle.lie_math.proofs.TermWise.{derived_list, polynomial_of-derived, absolutes-derived}
use Rattle.lie_poly.proofs.BulkLists.{bulk_covers, bulk_absolutes}
use Rattle.lie_jet.proofs.PolynomialBounds.{IsBound, absolute_bound}
use Rattle.lie_reduce.proofs.Products.{bounded_times}

pub product_bound : (p q : WholePolynomial) → IsBound (p *ᴾ q) (absolute p *ᴾ absolute q)
product_bound p q = (bounded_times p q (absolute p) (absolute q) (absolute_bound p) (absolute_bound q))

pub partial_bound : (w : ℕ) (p : WholePolynomial) → IsBound (partial w p) (partial w (absolute p))
unfolding absolute
partial_bound w p =
    subst₂ IsBound (polynomial_of-derived w p.list ∙ ap (partial w) (of_list terms p)) (ap polynomial_of (absolutes-derived w p.list) ∙ polynomial_of-derived w (absolutes p.list))
    (record { covered = bulk_covers (derived_list w p.list) (absolutes (derived_list w p.list)) (bulk_absolutes (derived_list w p.list)); plain = nonneg_absolutes (derived_list w p.list) })
