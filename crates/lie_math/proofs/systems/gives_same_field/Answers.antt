use Rattle.lie_math.proofs.RationalPolynomial.{gives-same_field, same_field-swapped}
use Rattle.lie_math.proofs.systems.gives_same_field.Goals as goal

pub returns : goal.returns
returns c = λ S V W v w h. (gives-same_field S V W v h, gives-same_field S W V w (same_field-swapped V W h))
