-- The test tells whether the text is the name of a study.
use Rattle.std.specs.Prelude.{◌≡◌, true, false, refl}
use Rattle.std.proofs.Common.{sym, subst, ◌∙◌}
use Rattle.lie_outer.specs.Names.{IsStudyName}
use Rattle.lie_app.proofs.StudyNames.{name_passes, no_name_fails}
use Rattle.lie_app.proofs.words.name_in.Goals as goal

pub returns-then-is_name-clause-name : goal.returns-then-is_name-clause-name
returns-then-is_name-clause-name c =
    let name = subst IsStudyName c.as_bytes.ensures.value (c.is_name.ensures.0 c.if-is_name.true) in
    rw (name_passes c.args.text.now name) refl

pub returns-else-is_name-clause-name : goal.returns-else-is_name-clause-name
returns-else-is_name-clause-name c =
    let none : IsStudyName c.args.text.now → ⊥ = λ name.
    let told : true ≡ false = sym (c.is_name.ensures.1 (subst IsStudyName (sym c.as_bytes.ensures.value) name)) ∙ c.if-is_name.false in absurd (cc) in
    rw (no_name_fails c.args.text.now none) refl
