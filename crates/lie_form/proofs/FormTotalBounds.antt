-- The parts of the total derivative of a form are bounded by those of its absolute values.
use Rattle.std.specs.Prelude.{ℕ, ◌<◌}
use Rattle.lie_math.specs.Counts.{Derivative, raised}
use Rattle.lie_math.specs.Derivation.{numbers_below}
use Rattle.lie_math.specs.Limits.{absolute}
use Rattle.lie_math.specs.Polynomial.{WholePolynomial}
use Rattle.lie_geometry.specs.Coordinates.{Space}
use Rattle.lie_geometry.specs.Prolongation.{total_derivative}
use Rattle.lie_jet.specs.Jets.{IsSmall}
use Rattle.lie_form.specs.FormTotals.{dependent_term, derived_term, total_of_term}
use Rattle.lie_jet.proofs.PolynomialBounds.{absolute_bound}
use Rattle.lie_form.proofs.FormBounds.{IsFormBound, form_sum, form_one, over_bound}
use Rattle.lie_jet.proofs.TotalBounds.{product_bound, total_bound}

module _ (S : Space) (small : IsSmall S) (i : ℕ) (inside : i < S.p) where
  pub dependent_bound : (d : Derivative) (a : WholePolynomial) (b : ℕ) → IsFormBound (dependent_term S i d a b) (dependent_term S i d (absolute a) b)
  dependent_bound d a b = form_one _ _ _ (product_bound _ a)

  pub derived_bound : (d : Derivative) (a : WholePolynomial) → IsFormBound (derived_term S i d a) (derived_term S i d (absolute a))
  derived_bound d a = form_sum _ _ _ _ (form_one (raised i d) a (absolute a) (absolute_bound a)) (over_bound (dependent_term S i d a) (dependent_term S i d (absolute a)) (numbers_below S.q) (dependent_bound d a))

  pub term_total_bound : (d : Derivative) (a : WholePolynomial) → IsFormBound (total_of_term S i d a) (total_of_term S i d (absolute a))
  term_total_bound d a = form_sum _ _ _ _ (form_one d (total_derivative S i a) (total_derivative S i (absolute a)) (total_bound S small i inside a)) (derived_bound d a)
