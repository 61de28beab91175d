use Rattle.std.proofs.Common.{ap, ◌∙◌, ◌∷◌, []}
use Rattle.lie_math.specs.Derivation.{is_below}
use Rattle.lie_math.specs.Polynomial.{polynomial_of}
use Rattle.lie_ring.specs.Entries.{entries}
use Rattle.lie_jet.proofs.TotalParts.{product_in}
use Rattle.lie_form.proofs.tests.product.Goals as goal

pub returns : goal.returns
returns c =
    product_in (is_below 13) c.in_ok-mono.mono c.args.pairs.now c.in_ok-of_terms.field-0 c.requires (rw c.in_ok-mono.ensures.ok_part at c.in_ok-new.ensures)
    (c.in_ok-of_terms.ensures.sum ∙ ap (λ xs. polynomial_of (entries (λ z. z) xs)) (c.as_slice.ensures.value ∙ c.in_ok-terms.ensures.items ∙ ap (λ z. (c.in_ok-mono.mono, z) ∷ []) c.one.ensures))
