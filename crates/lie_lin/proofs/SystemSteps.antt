-- Systems whose equations are changed: from what a call of a list says.
use Rattle.std.specs.Prelude.{◌≡◌, ℕ, suc, ◌<◌, List, [], ◌∷◌, length, remove, Ok, Err, OnOk, OnErr}
use Rattle.std.specs.declared.result.Result.{Result}
use Rattle.std.proofs.Common.{refl, sym, ap, subst, ◌∙◌, arith}
use Rattle.std.specs.List.Sorted.{IsStrictlySortedBy}
use Rattle.lie_math.specs.FiniteSum as finite
use Rattle.lie_math.specs.FiniteSumLaws as finite_laws
use Rattle.lie_math.specs.Polynomial.{WholePolynomial}
use Rattle.lie_math.specs.LinearForm.{LinearForm, forms, no_form}
use Rattle.lie_math.specs.LinearSystem.{LinearSystem}
use Rattle.lie_systems.specs.ValidSystems.{IsValid}
use Rattle.lie_systems.specs.EquationOrder.{equation_cmp}
use Rattle.lie_jet.specs.declared.derivative.Der.{Der}
use Rattle.lie_lin.specs.EquationLists.{HasUnlessEmpty, IsEquationFor}
use Rattle.lie_lin.specs.Forms.{coefficients_of}
use Rattle.lie_lin.specs.Systems.{system_of, with_equations}
use Rattle.lie_lin.specs.declared.system.Unknown as kept
use Rattle.lie_lin.proofs.EquationPlaces.{unless_empty, valid_also, valid_removed}
use Rattle.lie_lin.proofs.SortedPlaces.{contained_remove, sorted_remove}

length-coefficients : (es : List (Der × WholePolynomial)) → length (coefficients_of es) ≡ length es
length-coefficients [] = refl
length-coefficients (e ∷ es) = ap suc (length-coefficients es)

-- a form with kept coefficients is empty exactly where there are none
pub empty_form : (E : LinearForm) (es : List (Der × WholePolynomial)) → coefficients_of es ≡ E.list → length es ≡ 0 → E ≡ no_form
unfolding finite.none finite.of
empty_form E [] is n = finite_laws.same_list forms E no_form (sym is)
empty_form E (e ∷ es) is n = absurd (omega arith)

pub not_empty : (E : LinearForm) (es : List (Der × WholePolynomial)) → coefficients_of es ≡ E.list → ¬ (length es ≡ 0) → ¬ (E ≡ no_form)
unfolding finite.none finite.of
not_empty E es is n z = n (sym (length-coefficients es) ∙ ap length is ∙ ap (λ (G : LinearForm). length G.list) z)

module _ (n : ℕ) (S : LinearSystem) (v : IsValid n S) (E : LinearForm) (f : IsEquationFor n S E) where
  -- an equation is put, and after an error the list is as it was
  pub valid_put : {X Y : Type 0} (r : Result X Y) (Ns : List LinearForm) → OnOk r (HasUnlessEmpty E S.equations Ns) → OnErr r (Ns ≡ S.equations) → IsValid n (with_equations S Ns)
  valid_put (Ok x) Ns h k = valid_also n S v E S.equations Ns (λ N c. c) f h
  valid_put (Err x) Ns h k = subst (λ (es : List LinearForm). IsValid n (with_equations S es)) (sym k) v

  -- an equation is replaced
  pub valid_replaced : {X Y : Type 0} (r : Result X Y) (i : ℕ) (Ns : List LinearForm) → OnOk r (HasUnlessEmpty E (remove S.equations i) Ns) → OnErr r (Ns ≡ S.equations) → IsValid n (with_equations S Ns)
  valid_replaced (Ok x) i Ns h k = valid_also n S v E (remove S.equations i) Ns (λ N c. contained_remove S.equations i N c) f h
  valid_replaced (Err x) i Ns h k = subst (λ (es : List LinearForm). IsValid n (with_equations S es)) (sym k) v

-- what is put in place of another, where it is empty
pub removed_empty : (E : LinearForm) (Es : List LinearForm) (i : ℕ) → E ≡ no_form → i < length Es → IsStrictlySortedBy equation_cmp Es → HasUnlessEmpty E (remove Es i) (remove Es i)
removed_empty E Es i z lt s = unless_empty E (remove Es i) z (sorted_remove equation_cmp Es i lt s)

-- the system as the program keeps it, with other equations
pub valid_equations : (n : ℕ) (us : List kept.Unknown) (Es Gs new : List LinearForm) (next i : ℕ) → new ≡ remove Es i → i < length Es
    → IsValid n (system_of us Es Gs next) → IsValid n (system_of us new Gs next)
valid_equations n us Es Gs new next i is lt v =
    subst (λ (xs : List LinearForm). IsValid n (system_of us xs Gs next)) (sym is) (valid_removed n (system_of us Es Gs next) v i lt)
