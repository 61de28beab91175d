use Rattle.lie_systems.proofs.Triples.{sum_of_triples-triples}
use Rattle.lie_systems.proofs.forms.form_is_sum_of_triples.Goals as goal

pub returns : goal.returns
returns c = sum_of_triples-triples
