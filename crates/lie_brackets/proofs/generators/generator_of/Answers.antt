use Rattle.std.proofs.Common.{◌≡◌, ◌∙◌, ap, sym, subst}
use Rattle.std.specs.Prelude.{pos}
use Rattle.lie_spans.specs.Fields.{field_entry}
use Rattle.lie_brackets.specs.FieldTerms.{field_of_terms}
use Rattle.lie_brackets.proofs.generators.generator_of.Goals as goal

pub pivot_place-part-requires : goal.pivot_place-part-requires
pivot_place-part-requires c =
    (c.requires.some.0, subst (λ V. ¬ (field_entry V c.requires.some.0 ≡ pos 0)) (sym (ap field_of_terms c.as_slice.ensures.value ∙ c.in_ok-parts.ensures.field)) c.requires.some.1)
