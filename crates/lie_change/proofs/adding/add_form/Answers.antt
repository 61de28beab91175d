use Rattle.std.proofs.Common.{◌++◌, ◌∷◌, [], ◌+◌, ap, ap₂, ◌∙◌, sym}
use Rattle.lie_math.specs.LinearSystem.{LinearSystem}
use Rattle.lie_lin.specs.Systems.{with_equations}
use Rattle.lie_change.proofs.ChangedSystems.{valid_at, valid_changed, fits_changed, past_changed}
use Rattle.lie_tables.proofs.Following.{follows_same, index_same}
use Rattle.lie_change.proofs.adding.add_form.Goals as goal

pub set_equations-requires : goal.set_equations-requires
set_equations-requires c =
    let S = c.args.system.now.system in
    let Ns = c.put_forms-outcome.new.equations.items in
    valid_at c.take_equations-equations.new.self.space c.args.system.now.space
    (with_equations c.take_equations-equations.new.self.system Ns) (with_equations S Ns)
    c.take_equations-equations.ensures.space (ap (λ (Z : LinearSystem). with_equations Z Ns) c.take_equations-equations.ensures.system)
    (valid_changed S (S.equations ++ c.args.form.now ∷ []) (c.take_equations-equations.result.items
    ++ c.from_ref.result.now) c.general.result.now Ns
    (ap₂ ◌++◌ c.take_equations-equations.ensures.taken c.from_ref.ensures.value)
    (c.general.ensures ∙ ap (λ (Z : LinearSystem). Z.general) c.take_equations-equations.ensures.system)
    c.put_forms-outcome.result (c.args.system.now.space.p + c.args.system.now.space.q) c.take_equations-equations.result.items
    c.take_equations-equations.ensures.taken c.space.ensures.valid c.requires.valid c.put_forms-outcome.ensures.tidied
    c.put_forms-outcome.ensures.kept)

pub returns-clause-fits : goal.returns-clause-fits
returns-clause-fits c =
    let S = c.args.system.now.system in
    fits_changed S (S.equations ++ c.args.form.now ∷ []) (c.take_equations-equations.result.items
    ++ c.from_ref.result.now) c.general.result.now c.put_forms-outcome.new.equations.items
    (ap₂ ◌++◌ c.take_equations-equations.ensures.taken c.from_ref.ensures.value)
    (c.general.ensures ∙ ap (λ (Z : LinearSystem). Z.general) c.take_equations-equations.ensures.system)
    c.put_forms-outcome.result c.put_forms-outcome.ensures.fits

pub returns-clause-past : goal.returns-clause-past
returns-clause-past c =
    let S = c.args.system.now.system in
    past_changed S (S.equations ++ c.args.form.now ∷ []) (c.take_equations-equations.result.items
    ++ c.from_ref.result.now) c.general.result.now c.put_forms-outcome.new.equations.items
    (ap₂ ◌++◌ c.take_equations-equations.ensures.taken c.from_ref.ensures.value)
    (c.general.ensures ∙ ap (λ (Z : LinearSystem). Z.general) c.take_equations-equations.ensures.system)
    c.put_forms-outcome.result c.put_forms-outcome.ensures.past

pub put_forms-outcome-requires-clause-indexed : goal.put_forms-outcome-requires-clause-indexed
put_forms-outcome-requires-clause-indexed c =
    index_same c.args.tables.now _ _ (sym c.take_equations-equations.ensures.taken) c.requires.indexed

pub returns-clause-indexed : goal.returns-clause-indexed
returns-clause-indexed c =
    follows_same c.args.tables.now c.put_forms-outcome.new.tables _ _ (sym (ap (λ (Z : LinearSystem). Z.equations) c.set_equations.ensures.system))
    c.put_forms-outcome.ensures.indexed
