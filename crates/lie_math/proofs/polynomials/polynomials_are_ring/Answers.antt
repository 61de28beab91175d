use Rattle.lie_math.specs.PolynomialRing.{polynomial_ring}
use Rattle.lie_math.proofs.polynomials.polynomials_are_ring.Goals as goal

pub returns : goal.returns
returns c = record {
  sums_associate = polynomial_ring.adder.assoc;
  sums_commute = polynomial_ring.adder.comm;
  zero_adds_nothing = polynomial_ring.adder.idl;
  negatives_cancel = polynomial_ring.neg_l;
  products_associate = polynomial_ring.times_assoc;
  products_commute = polynomial_ring.times_comm;
  one_multiplies_nothing = polynomial_ring.times_idl;
  products_distribute = polynomial_ring.dist;
}
