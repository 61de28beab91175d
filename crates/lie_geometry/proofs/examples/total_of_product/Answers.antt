use Rattle.lie_geometry.proofs.WorkedValues.{total_of_product}
use Rattle.lie_geometry.proofs.examples.total_of_product.Goals as goal

pub returns : goal.returns
returns c = total_of_product
