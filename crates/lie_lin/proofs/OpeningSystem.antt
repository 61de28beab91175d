-- The system of two unknowns of both variables with the equation that the first is 0.
use Rattle.std.specs.Prelude.{◌≡◌, ℕ, [], ◌∷◌, List, map, ℤ, pos}
use Rattle.std.proofs.Common.{refl, sym, subst, ap₂, ◌∙◌, arith, inl}
use Rattle.std.specs.List.Sorted.{IsStrictlySortedBy}
use Rattle.lie_math.specs.FiniteSumLaws.{plus_comm, plus_idl}
use Rattle.lie_math.specs.Monomial.{Monomial, unit}
use Rattle.lie_math.specs.Polynomial.{term}
use Rattle.lie_math.specs.LinearForm.{LinearForm, forms, no_form, form_term, unknown_form}
use Rattle.lie_systems.specs.Triples.{sum_of_triples}
use Rattle.lie_math.specs.LinearSystem.{LinearSystem}
use Rattle.lie_systems.specs.ValidSystems.{IsValid}
use Rattle.lie_systems.proofs.WorkedValues.{line_system_is_valid}
use Rattle.lie_jet.specs.declared.derivative.Der.{Der}
use Rattle.lie_jet.specs.Derivatives.{derivative_of}
use Rattle.lie_lin.specs.declared.system.Unknown as kept
use Rattle.lie_lin.specs.Forms.{triples_of}
use Rattle.lie_lin.specs.EquationLists.{IsEquationFor}
use Rattle.lie_lin.specs.Systems.{SpaceSystem, system_of, unknown_of, with_unknowns}

pub unknown_sum : (n : ℕ) (d : Der) (m : Monomial) (a : ℤ) → derivative_of d ≡ record { unknown = n; counts = [] } → m ≡ unit → a ≡ pos 1 → sum_of_triples (triples_of ((d, m, a) ∷ [])) ≡ unknown_form n
unknown_sum n d m a e f g =
    plus_comm forms (form_term (derivative_of d) (term m a)) no_form ∙ plus_idl forms (form_term (derivative_of d) (term m a)) ∙ ap₂ form_term e (ap₂ term f g)

abbrev pub first : kept.Unknown
first = record { number = 1; vars = 3 }

abbrev pub second : kept.Unknown
second = record { number = 2; vars = 3 }

-- with the equation that the first unknown is 0
abbrev pub worked : LinearSystem
worked = system_of (first ∷ second ∷ []) (unknown_form 1 ∷ []) (unknown_form 1 ∷ unknown_form 2 ∷ []) 3

pub worked_is_valid : IsValid 2 worked
unfolding IsStrictlySortedBy
worked_is_valid = record {
  rising = line_system_is_valid.rising;
  below = line_system_is_valid.below;
  variables = line_system_is_valid.variables;
  equations = (line_system_is_valid.general.0, tt);
  normalised = (inl (record { unknown = 1; counts = [] }, refl), tt);
  ordered = (tt, tt);
  general = line_system_is_valid.general;
  components = line_system_is_valid.components;
}

pub equation_for_worked : IsEquationFor 2 worked (unknown_form 2)
equation_for_worked = (line_system_is_valid.general.1.0, λ n. inl (record { unknown = 2; counts = [] }, refl))

-- with the same unknowns, and another number above theirs
pub worked_with_unknowns : IsValid 2 (with_unknowns worked (map unknown_of (first ∷ second ∷ [])) 4)
unfolding IsStrictlySortedBy
worked_with_unknowns = record {
  rising = line_system_is_valid.rising;
  below = (omega arith, (omega arith, tt));
  variables = line_system_is_valid.variables;
  equations = worked_is_valid.equations;
  normalised = worked_is_valid.normalised;
  ordered = (tt, tt);
  general = line_system_is_valid.general;
  components = line_system_is_valid.components;
}

pub is_worked : (unknowns : List kept.Unknown) (equations general : List LinearForm) → unknowns ≡ first ∷ second ∷ [] → equations ≡ unknown_form 1 ∷ [] → general ≡ unknown_form 1 ∷ unknown_form 2 ∷ [] → system_of unknowns equations general 3 ≡ worked
is_worked unknowns equations general u e g = λ i. system_of (u i) (e i) (g i) 3

pub for_worked : (P : SpaceSystem → Type 0) (s : SpaceSystem) → s.space ≡ record { p = 1; q = 1 } → s.system ≡ worked → P (record { space = record { p = 1; q = 1 }; system = worked }) → P s
for_worked P s e f h = subst P (sym same) h
  where
    same : s ≡ record { space = record { p = 1; q = 1 }; system = worked }
    same = λ i. record { space = e i; system = f i }
