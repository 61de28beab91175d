use Rattle.std.proofs.Common.{◌≡◌, drop, map}
use Rattle.std.specs.List.{AllByRecursion as Every}
use Rattle.lie_math.specs.LinearForm.{LinearForm}
use Rattle.lie_math.specs.Polynomial.{0ᴾ}
use Rattle.lie_form.specs.DerivativeTerms.{derivative_terms}
use Rattle.lie_form.proofs.FormBounds.{IsFormBound}
use Rattle.lie_geometry.proofs.AbsoluteForms.{entry_absolutes}
use Rattle.lie_lin.specs.Systems.{unknown_of}
use Rattle.lie_replace.specs.Growing.{FormLasts}
use Rattle.lie_normal.specs.Orders.{Entry}
use Rattle.lie_replace.specs.Replacing.{derivatives_by, form_of}
use Rattle.lie_replace.proofs.iterated.derivatives_by.Given as goal

abbrev pub invariant-loop-var : goal.invariant-loop-var
invariant-loop-var l = record {
  apart : Every (λ (e : Entry). ¬ (e.1 ≡ 0ᴾ)) (derivative_terms l.terms.items);
  derivatives : derivatives_by (map unknown_of l.unknowns) (drop l.var-index l.vars) (form_of (derivative_terms l.terms.items)) ≡ derivatives_by (map unknown_of l.unknowns) l.vars (form_of (derivative_terms l.initial.terms.items));
  bulk : LinearForm;
  bounded : IsFormBound (form_of (entry_absolutes (derivative_terms l.terms.items))) bulk;
  lasts : FormLasts (map unknown_of l.unknowns) (drop l.var-index l.vars) bulk;
  made : derivatives_by (map unknown_of l.unknowns) (drop l.var-index l.vars) bulk ≡ derivatives_by (map unknown_of l.unknowns) l.vars (form_of (entry_absolutes (derivative_terms l.initial.terms.items)));
}
