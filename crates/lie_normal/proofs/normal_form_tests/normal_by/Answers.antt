use Rattle.std.proofs.Common.{sym, ap, subst₂, map, ◌∷◌}
use Rattle.lie_lin.specs.Systems.{unknown_of}
use Rattle.lie_normal.specs.FormLists.{AreFormsOf}
use Rattle.lie_normal.proofs.WorkedForms.{worked_forms}
use Rattle.lie_normal.proofs.normal_form_tests.normal_by.Goals as goal

pub normal_form-requires : goal.normal_form-requires
normal_form-requires c =
    subst₂ AreFormsOf (sym (ap (map unknown_of) c.as_slice-2.ensures)) (ap (λ l. c.in_ok-eq.eq ∷ l) (sym c.as_slice.ensures))
    (worked_forms c.in_ok-eq.eq c.in_ok-first.first c.in_ok-second.second c.in_ok-eq.ensures c.in_ok-first.ensures c.in_ok-second.ensures)
