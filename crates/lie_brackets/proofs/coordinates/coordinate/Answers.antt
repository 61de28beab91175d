use Rattle.std.proofs.Common.{ap, sym, subst, ◌≡◌, ◌∙◌, ◌<◌, length, get_or, arith}
use Rattle.std.specs.Prelude.{ℤ, List}
use Rattle.lie_math.specs.Monomial.{Monomial}
use Rattle.lie_math.specs.Polynomial.{coefficient}
use Rattle.lie_geometry.specs.Coordinates.{Space}
use Rattle.lie_jet.specs.Listed.{sum_listed}
use Rattle.lie_ring.specs.Ratios.{IsRatio}
use Rattle.lie_spans.specs.Fields.{field_entry}
use Rattle.lie_brackets.specs.FieldTerms.{Part, field_of_terms, AreTermsOn}
use Rattle.lie_brackets.specs.Generators.{field_of_generator, pivot_column, IsGenerator}
use Rattle.lie_brackets.specs.declared.generators.Generator.{Generator}
use Rattle.lie_brackets.proofs.FieldParts.{part_sum, part_count}
use Rattle.lie_brackets.proofs.PivotColumns.{read_pivot}
use Rattle.lie_brackets.proofs.coordinates.coordinate.Goals as goal

pub ratio_of-requires : goal.ratio_of-requires
ratio_of-requires c =
    (read_pivot c.args.space c.args.generator.now c.requires.generator c.index.result.now c.index.ensures c.index-pivot.result.now c.index-pivot.ensures).2

-- the entry of a field in the pivot column
entry_read : (S : Space) (xs : List Part) (g : Generator) → AreTermsOn S xs → IsGenerator S g → (x : Part) → x ≡ get_or xs g.part x
    → (ts : List (Monomial × ℤ)) → ts ≡ x.items → (m : Monomial) → m ≡ (pivot_column g).1 → (n : ℤ) → n ≡ coefficient (sum_listed ts) m
    → field_entry (field_of_terms xs) (pivot_column g) ≡ n
entry_read S xs g h k x is ts read m at n e =
    let l : g.part < length xs = omega (arith, part_count S xs h, part_count S g.parts.items k.parts, k.pivot.inside) in
    ap (λ p. coefficient p (pivot_column g).1) (sym (ap sum_listed read ∙ part_sum xs g.part x l is)) ∙ ap (coefficient (sum_listed ts)) (sym at) ∙ sym e

pub returns : goal.returns
returns c =
    let p = read_pivot c.args.space c.args.generator.now c.requires.generator c.index.result.now c.index.ensures c.index-pivot.result.now c.index-pivot.ensures in
    subst (λ z. IsRatio z (field_entry (field_of_generator c.args.generator.now) (pivot_column c.args.generator.now)) c.ratio_of.result)
    (sym (entry_read c.args.space c.args.field.now c.args.generator.now c.requires.field c.requires.generator c.index-field-generator.result c.index-field-generator.is
    c.as_slice.result.now c.as_slice.ensures.value c.index-pivot.result.now.0 p.0 c.coefficient_at-number.result c.coefficient_at-number.ensures))
    (subst (λ z. IsRatio c.coefficient_at-number.result z c.ratio_of.result) (sym p.1) c.ratio_of.ensures)
