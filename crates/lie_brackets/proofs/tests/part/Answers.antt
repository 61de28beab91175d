use Rattle.std.proofs.Common.{ap, subst, sym, ◌∙◌, ◌∷◌, []}
use Rattle.lie_math.specs.Derivation.{is_below}
use Rattle.lie_math.specs.Polynomial.{polynomial_of, constant}
use Rattle.lie_math.specs.Variables.{IsIn}
use Rattle.lie_math.proofs.Variables.{in-*ᴾ, in-constant}
use Rattle.lie_ring.specs.Entries.{entries}
use Rattle.lie_jet.proofs.TotalParts.{product_in}
use Rattle.lie_brackets.proofs.tests.part.Goals as goal

pub returns : goal.returns
returns c =
    let T = is_below 2 in
    let one = product_in T c.in_ok-mono.mono c.args.pairs.now c.in_ok-product.product c.requires (rw c.in_ok-mono.ensures.ok_part at c.in_ok-new.ensures)
    (c.in_ok-product.ensures.sum ∙ ap (λ xs. polynomial_of (entries (λ z. z) xs)) (c.as_slice.ensures.value ∙ c.in_ok-terms.ensures.items ∙ ap (λ z. (c.in_ok-mono.mono, z) ∷ []) c.one.ensures)) in
    subst (IsIn T) (sym c.in_ok-scale.ensures.multiple) (in-*ᴾ T (constant c.in_ok-c.c) c.in_ok-product.product (in-constant T c.in_ok-c.c) one)
