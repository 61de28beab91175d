use Rattle.std.specs.Prelude.{◌+◌, map, length}
use Rattle.std.specs.List.{AllByRecursion as Every, range_with_len}
use Rattle.std.proofs.Common.{refl, sym, ap, subst, ◌∙◌}
use Rattle.lie_geometry.specs.Coordinates.{Space}
use Rattle.lie_systems.specs.ValidSystems.{IsValid}
use Rattle.lie_spans.specs.ClosedSystems.{component_form}
use Rattle.lie_spans.specs.Fields.{IsFieldIn}
use Rattle.lie_algebra.proofs.ClosedForms.{closed_valid}
use Rattle.lie_algebra.proofs.ClosedTerms.{closed_made}
use Rattle.lie_algebra.proofs.closed_form.close_form.Goals as goal

pub general_form-requires-clause-fields : goal.general_form-requires-clause-fields
general_form-requires-clause-fields c =
    subst (λ n. Every (IsFieldIn n) c.args.basis.now) (sym (c.count_components.ensures.count ∙ ap (λ (s : Space). s.p + s.q) c.space-space.ensures.space)) c.requires.fields

pub new-requires-2 : goal.new-requires-2
new-requires-2 c =
    subst (IsValid (c.space-space.result.p + c.space-space.result.q))
    (sym (closed_made (c.space-space.result.p + c.space-space.result.q) c.args.basis.now c.in_ok-unknowns.unknowns.items c.new.result.items c.in_ok-general.general.items
    (length c.args.basis.now + 1) c.in_ok-unknowns.ensures c.new.ensures.items
    (c.in_ok-general.ensures ∙ ap (λ n. map (λ s. component_form s c.args.basis.now 1) (range_with_len 0 n)) c.count_components.ensures.count) refl))
    (closed_valid (c.space-space.result.p + c.space-space.result.q) c.args.basis.now
    (subst (λ n. Every (IsFieldIn n) c.args.basis.now) (sym (ap (λ (s : Space). s.p + s.q) c.space-space.ensures.space)) c.requires.fields))

pub returns-clause-system : goal.returns-clause-system
returns-clause-system c =
    c.new-2.ensures.system
    ∙ closed_made (c.args.system.now.space.p + c.args.system.now.space.q) c.args.basis.now c.in_ok-unknowns.unknowns.items c.new.result.items c.in_ok-general.general.items
    (length c.args.basis.now + 1) c.in_ok-unknowns.ensures c.new.ensures.items
    (c.in_ok-general.ensures ∙ ap (λ n. map (λ s. component_form s c.args.basis.now 1) (range_with_len 0 n))
    (c.count_components.ensures.count ∙ ap (λ (s : Space). s.p + s.q) c.space-space.ensures.space)) refl
