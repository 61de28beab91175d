use Rattle.std.proofs.Common.{◌++◌, ◌+◌, List, remove, ap, ◌∙◌, sym}
use Rattle.lie_math.specs.LinearForm.{LinearForm}
use Rattle.lie_math.specs.LinearSystem.{LinearSystem}
use Rattle.lie_lin.specs.Systems.{with_equations}
use Rattle.lie_change.proofs.ChangedSystems.{valid_at, valid_changed, fits_changed, past_changed}
use Rattle.lie_tables.proofs.Following.{follows_same, index_same}
use Rattle.lie_change.proofs.adding.exchange_forms.Goals as goal

pub set_equations-requires : goal.set_equations-requires
set_equations-requires c =
    let S = c.args.system.now.system in
    let Ns = c.put_in_place-outcome.new.equations.items in
    valid_at c.take_equations-equations.new.self.space c.args.system.now.space
    (with_equations c.take_equations-equations.new.self.system Ns) (with_equations S Ns)
    c.take_equations-equations.ensures.space (ap (λ (Z : LinearSystem). with_equations Z Ns) c.take_equations-equations.ensures.system)
    (valid_changed S (remove S.equations c.args.place ++ c.args.forms.now)
    (remove c.take_equations-equations.result.items c.args.place ++ c.args.forms.now) c.general.result.now Ns
    (ap (λ (es : List LinearForm). remove es c.args.place ++ c.args.forms.now) c.take_equations-equations.ensures.taken)
    (c.general.ensures ∙ ap (λ (Z : LinearSystem). Z.general) c.take_equations-equations.ensures.system)
    c.put_in_place-outcome.result (c.args.system.now.space.p + c.args.system.now.space.q) c.take_equations-equations.result.items
    c.take_equations-equations.ensures.taken c.space.ensures.valid c.requires.valid c.put_in_place-outcome.ensures.tidied
    c.put_in_place-outcome.ensures.kept)

pub returns-clause-fits : goal.returns-clause-fits
returns-clause-fits c =
    let S = c.args.system.now.system in
    fits_changed S (remove S.equations c.args.place ++ c.args.forms.now)
    (remove c.take_equations-equations.result.items c.args.place
    ++ c.args.forms.now) c.general.result.now c.put_in_place-outcome.new.equations.items
    (ap (λ (es : List LinearForm). remove es c.args.place ++ c.args.forms.now) c.take_equations-equations.ensures.taken)
    (c.general.ensures ∙ ap (λ (Z : LinearSystem). Z.general) c.take_equations-equations.ensures.system)
    c.put_in_place-outcome.result c.put_in_place-outcome.ensures.fits

pub returns-clause-past : goal.returns-clause-past
returns-clause-past c =
    let S = c.args.system.now.system in
    past_changed S (remove S.equations c.args.place ++ c.args.forms.now)
    (remove c.take_equations-equations.result.items c.args.place
    ++ c.args.forms.now) c.general.result.now c.put_in_place-outcome.new.equations.items
    (ap (λ (es : List LinearForm). remove es c.args.place ++ c.args.forms.now) c.take_equations-equations.ensures.taken)
    (c.general.ensures ∙ ap (λ (Z : LinearSystem). Z.general) c.take_equations-equations.ensures.system)
    c.put_in_place-outcome.result c.put_in_place-outcome.ensures.past

pub put_in_place-outcome-requires-clause-indexed : goal.put_in_place-outcome-requires-clause-indexed
put_in_place-outcome-requires-clause-indexed c =
    index_same c.args.tables.now _ _ (sym c.take_equations-equations.ensures.taken) c.requires.indexed

pub returns-clause-indexed : goal.returns-clause-indexed
returns-clause-indexed c =
    follows_same c.args.tables.now c.put_in_place-outcome.new.tables _ _
    (sym (ap (λ (Z : LinearSystem). Z.equations) c.set_equations.ensures.system)) c.put_in_place-outcome.ensures.indexed
