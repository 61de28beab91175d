use Rattle.std.proofs.Common.{ap, ap₂, sym, subst, ◌∙◌, arith}
use Rattle.lie_geometry.specs.Commutator.{commutator}
use Rattle.lie_geometry.specs.Invariance.{IsFieldOn}
use Rattle.lie_geometry.proofs.Fields.{commutator_is_field}
use Rattle.lie_ring.proofs.Fronts.{all_taken}
use Rattle.lie_ring.specs.Ratios.{IsRatio}
use Rattle.lie_spans.specs.Fields.{field_entry}
use Rattle.lie_systems.specs.Works.{IsWorkWithin}
use Rattle.lie_brackets.specs.Bulks.{BracketMakes}
use Rattle.lie_brackets.specs.FieldTerms.{field_of_terms, AreInOrder}
use Rattle.lie_brackets.specs.Generators.{field_of_generator, pivot_column, AreCoordinates}
use Rattle.lie_brackets.proofs.PivotCoordinates.{coordinates_more, entry_at_pivots}
use Rattle.lie_brackets.proofs.tables.entry.Goals as goal

pub coordinate-requires-clause-field : goal.coordinate-requires-clause-field
coordinate-requires-clause-field c =
    let V = field_of_generator c.args.v.now in
    let W = field_of_generator c.args.w.now in
    let read = c.as_slice-in-loop-generator.ensures.value in
    let value = ap field_of_terms read ∙ c.in_ok-terms.ensures.field ∙ c.in_ok-bracket.ensures.value
    ∙ ap₂ (λ v w. commutator c.args.space (field_of_terms v) (field_of_terms w)) c.as_slice.ensures.value c.as_slice-2.ensures.value in
    record {
      field = subst (IsFieldOn c.args.space) (sym value) (commutator_is_field c.args.space V W c.requires.v.parts.field c.requires.w.parts.field);
      ordered = subst AreInOrder (sym read) c.in_ok-terms.ensures.ordered;
    }

pub loop-generator-preserved : goal.loop-generator-preserved
loop-generator-preserved c =
    coordinates_more (field_of_terms c.in_ok-terms.terms.items) c.args.generators.now c.loop-generator.generator-index c.loop-generator.ratios.items c.push.new.self.items
    c.generator-item.result c.coordinate.result c.loop-generator-test.true c.generator-item.is c.in_ok-push.ensures.items c.loop-generator.invariant
    (subst (λ xs. IsRatio (field_entry (field_of_terms xs) (pivot_column c.generator-item.result))
    (field_entry (field_of_generator c.generator-item.result) (pivot_column c.generator-item.result)) c.coordinate.result)
    c.as_slice-in-loop-generator.ensures.value c.coordinate.ensures)

pub returns-clause-entry : goal.returns-clause-entry
returns-clause-entry c =
    entry_at_pivots c.args.space c.args.generators.now c.requires.each c.requires.reduced c.requires.closed (field_of_generator c.args.v.now, field_of_generator c.args.w.now) c.requires.pair
    (field_of_terms c.in_ok-terms.terms.items)
    (c.in_ok-terms.ensures.field ∙ c.in_ok-bracket.ensures.value
    ∙ ap₂ (λ v w. commutator c.args.space (field_of_terms v) (field_of_terms w)) c.as_slice.ensures.value c.as_slice-2.ensures.value)
    c.loop-generator.ratios.items
    (subst (λ gs. AreCoordinates (field_of_terms c.in_ok-terms.terms.items) gs c.loop-generator.ratios.items)
    (all_taken c.args.generators.now c.loop-generator.generator-index (let h = c.loop-generator-test.false in omega arith)) c.loop-generator.invariant)

pub returns-clause-fits : goal.returns-clause-fits
returns-clause-fits c =
    subst (λ v. IsWorkWithin (BracketMakes c.args.space (field_of_terms v) (field_of_generator c.args.w.now))) c.as_slice.ensures.value
    (subst (λ w. IsWorkWithin (BracketMakes c.args.space (field_of_terms c.as_slice.result.now) (field_of_terms w))) c.as_slice-2.ensures.value
    c.in_ok-bracket.ensures.fits)
