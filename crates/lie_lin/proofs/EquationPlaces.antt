-- Lists of equations to which one is added, from which one is removed, or in which one is replaced; and the systems with these lists.
use Rattle.std.specs.Prelude.{◌≡◌, ℕ, suc, ◌+◌, ◌-◌, ◌<◌, ◌≤◌, ◌⊎◌, List, [], length, get_or, insert, remove}
use Rattle.std.proofs.Common.{sym, ap, subst, ◌∙◌, arith, inl, inr, add-one}
use Rattle.std.specs.List.{Contains}
use Rattle.std.specs.List.Sorted.{IsStrictlySortedBy}
use Rattle.lie_math.specs.LinearForm.{LinearForm, no_form}
use Rattle.lie_math.specs.LinearSystem.{LinearSystem}
use Rattle.lie_math.proofs.EveryElement.{every_contained, every_of_contained, every_picked}
use Rattle.lie_systems.specs.EquationOrder.{equation_cmp}
use Rattle.lie_systems.specs.Normalised.{IsNormalised}
use Rattle.lie_systems.specs.ValidSystems.{IsFormOf, IsValid}
use Rattle.lie_systems.proofs.EquationOrder.{equation_cmp_total}
use Rattle.lie_lin.specs.EquationLists.{IsInsertionPoint, HasAlso, HasUnlessEmpty, IsEquationFor}
use Rattle.lie_lin.specs.Systems.{with_equations}
use Rattle.lie_lin.proofs.AddedEquations.{no_equations_sorted}
use Rattle.lie_lin.proofs.SortedPlaces.{contained_insert, contains_inserted, contains_insert, contained_remove, contains_remove, contains_picked, picked_or_left, remove_behind, remove_before, sorted_insert, sorted_remove}

-- ---- lists
also_present : (Es : List LinearForm) (E : LinearForm) → IsStrictlySortedBy equation_cmp Es → Contains Es E → HasAlso E Es Es
also_present Es E s c = record { ordered = s; elements = λ N. (λ d. inr d, λ h. elim h [ inl e ↦ subst (Contains Es) e c | inr d ↦ d ]) }

-- the equation at a place is replaced by itself
pub also_same : (Es : List LinearForm) (E : LinearForm) (i : ℕ) (d : LinearForm) → IsStrictlySortedBy equation_cmp Es → i < length Es → E ≡ get_or Es i d → HasAlso E (remove Es i) Es
also_same Es E i d s lt is = record {
  ordered = s;
  elements = λ N. (λ c. first N c, λ h. elim h [ inl e ↦ subst (Contains Es) (sym is ∙ e) (contains_picked Es i d lt) | inr k ↦ contained_remove Es i N k ]);
}
  where
    first : (N : LinearForm) → Contains Es N → (E ≡ N) ⊎ Contains (remove Es i) N
    first N c = elim (picked_or_left Es i d N lt c) [ inl e ↦ inl (is ∙ e) | inr k ↦ inr k ]

-- an equation that is there already takes the place of another
pub also_other : (Es : List LinearForm) (E : LinearForm) (i : ℕ) (d : LinearForm) → IsStrictlySortedBy equation_cmp Es → i < length Es → ¬ (get_or Es i d ≡ E) → Contains Es E → HasAlso E (remove Es i) (remove Es i)
also_other Es E i d s lt n c = also_present (remove Es i) E (sorted_remove equation_cmp Es i lt s) (contains_remove Es i d E lt n c)

-- an equation is put in, and another removed
also_moved : (Es Ns : List LinearForm) (E : LinearForm) (g : ℕ) → IsStrictlySortedBy equation_cmp Ns → Ns ≡ insert Es g E → HasAlso E Es Ns
also_moved Es Ns E g s e = record {
  ordered = s;
  elements = λ N. (
    λ c. contained_insert Es g E N (subst (λ (xs : List LinearForm). Contains xs N) e c),
    λ h. subst (λ (xs : List LinearForm). Contains xs N) (sym e) (elim h [ inl q ↦ subst (Contains (insert Es g E)) q (contains_inserted Es g E) | inr c ↦ contains_insert Es g E N c ]),
  );
}

module _ (Es : List LinearForm) (E : LinearForm) (g i : ℕ) (s : IsStrictlySortedBy equation_cmp Es) (p : IsInsertionPoint equation_cmp E Es g) (lt : i < length Es) where
  inserted : IsStrictlySortedBy equation_cmp (insert Es g E)
  inserted = sorted_insert equation_cmp equation_cmp_total Es E g s p.within p.above p.below

  pub also_behind : (within : i + 1 < length (insert Es g E)) → g ≤ i → HasAlso E (remove Es i) (remove (insert Es g E) (i + 1))
  also_behind within le = also_moved (remove Es i) (remove (insert Es g E) (i + 1)) E g (sorted_remove equation_cmp (insert Es g E) (i + 1) within inserted) (ap (remove (insert Es g E)) (add-one i) ∙ remove_behind Es g i E le lt)

  pub also_before : (within : i < length (insert Es g E)) → i < g → HasAlso E (remove Es i) (remove (insert Es g E) i)
  also_before within less =
      also_moved (remove Es i) (remove (insert Es g E) i) E (g - 1) (sorted_remove equation_cmp (insert Es g E) i within inserted)
      (ap (λ n. remove (insert Es n E) i) next ∙ remove_before Es (g - 1) i E (omega arith) lt)
    where
      next : g ≡ suc (g - 1)
      next = omega arith

-- ---- empty equations
pub unless_also : (E : LinearForm) (Es Ns : List LinearForm) → ¬ (E ≡ no_form) → HasAlso E Es Ns → HasUnlessEmpty E Es Ns
unless_also E Es Ns n h = record {
  ordered = h.ordered;
  elements = λ N. (
    λ c. elim ((h.elements N).0 c) [ inl e ↦ inl (e, λ z. n (e ∙ z)) | inr d ↦ inr d ],
    λ k. (h.elements N).1 (elim k [ inl e ↦ inl e.0 | inr d ↦ inr d ]),
  );
}

pub unless_empty : (E : LinearForm) (Es : List LinearForm) → E ≡ no_form → IsStrictlySortedBy equation_cmp Es → HasUnlessEmpty E Es Es
unless_empty E Es z s = record { ordered = s; elements = λ N. (λ c. inr c, λ k. elim k [ inl e ↦ absurd (e.1 (sym e.0 ∙ z)) | inr d ↦ d ]) }

-- ---- systems
module _ (n : ℕ) (S : LinearSystem) (v : IsValid n S) where
  pub valid_also : (E : LinearForm) (Es Ns : List LinearForm) → ((N : LinearForm) → Contains Es N → Contains S.equations N) → IsEquationFor n S E → HasUnlessEmpty E Es Ns → IsValid n (with_equations S Ns)
  valid_also E Es Ns among f h = record {
    rising = v.rising;
    below = v.below;
    variables = v.variables;
    equations = every_of_contained (IsFormOf n S.unknowns) Ns (λ N c. elim ((h.elements N).0 c) [
      | inl e ↦ subst (IsFormOf n S.unknowns) e.0 f.0
      | inr d ↦ every_contained (IsFormOf n S.unknowns) S.equations N v.equations (among N d)
    ]);
    normalised = every_of_contained IsNormalised Ns (λ N c. elim ((h.elements N).0 c) [
      | inl e ↦ subst IsNormalised e.0 (f.1 (λ z. e.1 (sym e.0 ∙ z)))
      | inr d ↦ every_contained IsNormalised S.equations N v.normalised (among N d)
    ]);
    ordered = h.ordered;
    general = v.general;
    components = v.components;
  }

  pub valid_removed : (i : ℕ) → i < length S.equations → IsValid n (with_equations S (remove S.equations i))
  valid_removed i lt = record {
    rising = v.rising;
    below = v.below;
    variables = v.variables;
    equations = (every_picked (IsFormOf n S.unknowns) S.equations i no_form lt v.equations).1;
    normalised = (every_picked IsNormalised S.equations i no_form lt v.normalised).1;
    ordered = sorted_remove equation_cmp S.equations i lt v.ordered;
    general = v.general;
    components = v.components;
  }

  -- the system without equations
  pub valid_taken : IsValid n (with_equations S [])
  valid_taken = record {
    rising = v.rising;
    below = v.below;
    variables = v.variables;
    equations = tt;
    normalised = tt;
    ordered = no_equations_sorted;
    general = v.general;
    components = v.components;
  }
