-- An equation and the one at a place: they tie in the order of equations exactly where they are equal.
use Rattle.std.specs.Prelude.{◌≡◌, ℕ, ◌<◌, List, length, get_or}
use Rattle.std.proofs.Common.{Ordering, Less, Equal, Greater, sym, ap, ◌∙◌, is_lt, true≢false}
use Rattle.std.proofs.lemmas.List.{get_or_default}
use Rattle.std.specs.Cmp.{tied_itself}
use Rattle.std.specs.Ordering.{ordering_reverse}
use Rattle.lie_math.specs.LinearForm.{LinearForm}
use Rattle.lie_math.proofs.SortedLists.{less_equal}
use Rattle.lie_systems.specs.EquationOrder.{equation_cmp}
use Rattle.lie_systems.proofs.EquationOrder.{equation_cmp_total, equation_cmp-IsAntisymmetric}

pub tie_at : (Es : List LinearForm) (i : ℕ) (E d : LinearForm) → i < length Es → d ≡ get_or Es i d → equation_cmp E d ≡ Equal → E ≡ get_or Es i E
tie_at Es i E d lt is e = equation_cmp-IsAntisymmetric E d e ∙ is ∙ get_or_default Es i d E lt

pub less_at : (Es : List LinearForm) (i : ℕ) (E d : LinearForm) → i < length Es → d ≡ get_or Es i d → equation_cmp E d ≡ Less → ¬ (get_or Es i E ≡ E)
less_at Es i E d lt is e h = less_equal e (ap (equation_cmp E) (is ∙ get_or_default Es i d E lt ∙ h) ∙ tied_itself equation_cmp_total E)

pub greater_equal : {r : Ordering} → r ≡ Greater → r ≡ Equal → ⊥
greater_equal h k = true≢false (ap is_lt (ap ordering_reverse (sym h ∙ k)))

pub greater_at : (Es : List LinearForm) (i : ℕ) (E d : LinearForm) → i < length Es → d ≡ get_or Es i d → equation_cmp E d ≡ Greater → ¬ (get_or Es i E ≡ E)
greater_at Es i E d lt is e h = greater_equal e (ap (equation_cmp E) (is ∙ get_or_default Es i d E lt ∙ h) ∙ tied_itself equation_cmp_total E)
