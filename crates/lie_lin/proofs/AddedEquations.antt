-- Equations that are added one after the other.
use Rattle.std.specs.Prelude.{◌≡◌, ℕ, zero, suc, ◌+◌, ◌<◌, ◌≤◌, ◌⊎◌, List, [], ◌∷◌, ◌++◌, length, insert, remove, take, get_or, slice_index_or}
use Rattle.std.proofs.Common.{refl, sym, ap, subst, ◌∙◌, arith, inl, inr}
use Rattle.std.specs.List.{AllByRecursion as Every, Any, Contains}
use Rattle.std.specs.List.Sorted.{IsStrictlySortedBy}
use Rattle.lie_math.proofs.EveryElement.{every_contained, every_of_contained, every-weaken}
use Rattle.lie_math.proofs.SomeElement.{any_head, any_tail, any_left, any_right}
use Rattle.lie_math.specs.FiniteSum as finite
use Rattle.lie_math.specs.FiniteSumLaws.{value-none}
use Rattle.lie_math.specs.Counts.{Derivative}
use Rattle.lie_math.specs.LinearForm.{forms, LinearForm, no_form}
use Rattle.lie_systems.specs.EquationOrder.{equation_cmp}
use Rattle.lie_systems.proofs.EquationOrder.{equation_cmp_total}
use Rattle.lie_systems.specs.Leads.{IsLead}
use Rattle.lie_systems.specs.Normalised.{primitive}
use Rattle.lie_ring.proofs.Fronts.{all_taken, take_more}
use Rattle.lie_lin.specs.EquationLists.{IsInsertionPoint, IsOneMore, Adds, IsEquationOf, HasAlso}
use Rattle.lie_lin.proofs.SortedPlaces.{every_insert, contains_insert, contains_inserted, sorted_insert}

-- ---- one more element
pub remove-insert : {X : Type 0} (xs : List X) (i : ℕ) (x : X) → i ≤ length xs → remove (insert xs i x) i ≡ xs
remove-insert xs zero x h = refl
remove-insert [] (suc i) x h = absurd (omega arith)
remove-insert (y ∷ xs) (suc i) x h = ap (λ ys. y ∷ ys) (remove-insert xs i x (omega arith))

pub length-inserted : {X : Type 0} (xs : List X) (i : ℕ) (x : X) → i ≤ length xs → i < length (insert xs i x)
length-inserted xs zero x h = omega arith
length-inserted [] (suc i) x h = absurd (omega arith)
length-inserted (y ∷ xs) (suc i) x h = let r = length-inserted xs i x (omega arith) in omega arith

pub one_more-insert : {X : Type 0} (xs : List X) (i : ℕ) (x : X) → i ≤ length xs → IsOneMore i xs (insert xs i x)
one_more-insert xs i x h = record { within = length-inserted xs i x h; without = remove-insert xs i x h }

-- ---- equations that are added
pub adds_insert : (es : List LinearForm) (eq : LinearForm) (i : ℕ) → IsStrictlySortedBy equation_cmp es → IsInsertionPoint equation_cmp eq es i → Adds (λ e. e ≡ eq) es (insert es i eq)
adds_insert es eq i s p = record {
  ordered = sorted_insert equation_cmp equation_cmp_total es eq i s p.within p.above p.below;
  kept = every_of_contained (Contains (insert es i eq)) es (λ e c. contains_insert es i eq e c);
  added = λ e q. subst (Contains (insert es i eq)) (sym q) (contains_inserted es i eq);
  alone = every_insert (λ e. Contains es e ⊎ (e ≡ eq)) es i eq (every_of_contained (λ e. Contains es e ⊎ (e ≡ eq)) es (λ e c. inl c)) (inr refl);
}

-- nothing is added that is not there
pub adds_present : (P : LinearForm → Type 0) (es : List LinearForm) → IsStrictlySortedBy equation_cmp es → ((e : LinearForm) → P e → Contains es e) → Adds P es es
adds_present P es s h = record {
  ordered = s;
  kept = every_of_contained (Contains es) es (λ e c. c);
  added = h;
  alone = every_of_contained (λ e. Contains es e ⊎ P e) es (λ e c. inl c);
}

pub adds_same : (P Q : LinearForm → Type 0) (es fs : List LinearForm) → ((e : LinearForm) → P e → Q e) → ((e : LinearForm) → Q e → P e) → Adds P es fs → Adds Q es fs
adds_same P Q es fs f g h = record {
  ordered = h.ordered;
  kept = h.kept;
  added = λ e q. h.added e (g e q);
  alone = every-weaken (λ e. Contains es e ⊎ P e) (λ e. Contains es e ⊎ Q e) (λ e s. elim s [ inl c ↦ inl c | inr p ↦ inr (f e p) ]) fs h.alone;
}

pub adds_both : (P Q : LinearForm → Type 0) (es fs gs : List LinearForm) → Adds P es fs → Adds Q fs gs → Adds (λ e. P e ⊎ Q e) es gs
adds_both P Q es fs gs h k = record {
  ordered = k.ordered;
  kept = every-weaken (Contains fs) (Contains gs) (λ e c. every_contained (Contains gs) fs e k.kept c) es h.kept;
  added = λ e s. elim s [ inl p ↦ every_contained (Contains gs) fs e k.kept (h.added e p) | inr q ↦ k.added e q ];
  alone = every-weaken (λ e. Contains fs e ⊎ Q e) (λ e. Contains es e ⊎ (P e ⊎ Q e)) (λ e s. elim s [
    | inl c ↦ elim (every_contained (λ e. Contains es e ⊎ P e) fs e h.alone c) [ inl d ↦ inl d | inr p ↦ inr (inl p) ]
    | inr q ↦ inr (inr q)
  ]) gs k.alone;
}

pub also_added : (Es Ns : List LinearForm) (E : LinearForm) → Adds (λ e. e ≡ E) Es Ns → HasAlso E Es Ns
also_added Es Ns E h = record {
  ordered = h.ordered;
  elements = λ N. (
    λ c. elim (every_contained (λ e. Contains Es e ⊎ (e ≡ E)) Ns N h.alone c) [ inl d ↦ inr d | inr e ↦ inl (sym e) ],
    λ s. elim s [ inl e ↦ h.added N (sym e) | inr d ↦ every_contained (Contains Ns) Es N h.kept d ],
  );
}

-- ---- some element of a list
module _ {X : Type 0} (P : X → Type 0) where
  pub any_place : (xs : List X) (k : ℕ) (d : X) → k < length xs → P (slice_index_or xs k d) → Any P xs
  any_place [] k d g h = absurd (omega arith)
  any_place (x ∷ xs) zero d g h = (0, x, omega arith, refl, h)
  any_place (x ∷ xs) (suc k) d g h = any_tail P x xs (any_place xs k d (omega arith) h)

  pub any_nothing : Any P [] → ⊥
  any_nothing a = let none : length {A = X} [] ≡ 0 = refl in let g : a.0 < length {A = X} [] = a.2 in omega arith

  any_first : (xs : List X) (y : X) → Any P xs ⊎ P y → Any P (xs ++ y ∷ [])
  any_first xs y s = elim s [ inl a ↦ any_left P xs (y ∷ []) a | inr h ↦ any_right P xs (y ∷ []) (any_head P y [] h) ]

  any_before : (xs ys : List X) (k : ℕ) (z : X) (y : X) → ys ≡ y ∷ [] → k < length (xs ++ ys) → slice_index_or (xs ++ ys) k z ≡ z → P z → Any P xs ⊎ P y
  any_before [] ys zero z y q g e h = inr (subst P (sym (ap (λ zs. slice_index_or zs 0 z) (sym q) ∙ e)) h)
  any_before [] ys (suc k) z y q g e h = absurd (let n : length ys ≡ 1 = ap length q in omega arith)
  any_before (x ∷ xs) ys zero z y q g e h = inl (0, x, omega arith, refl, subst P (sym e) h)
  any_before (x ∷ xs) ys (suc k) z y q g e h = elim (any_before xs ys k z y q (omega arith) e h) [ inl b ↦ inl (any_tail P x xs b) | inr h ↦ inr h ]

  any_cases : (xs : List X) (y : X) → Any P (xs ++ y ∷ []) → Any P xs ⊎ P y
  any_cases xs y a = any_before xs (y ∷ []) a.0 a.1 y refl a.2 a.3 a.4

-- one more of a list of predicates is added
pub adds_more : {X : Type 0} (Q : X → LinearForm → Type 0) (xs : List X) (i : ℕ) (x : X) (es fs gs : List LinearForm) → i < length xs → x ≡ get_or xs i x → Adds (λ e. Any (λ y. Q y e) (take i xs)) es fs → Adds (Q x) fs gs → Adds (λ e. Any (λ y. Q y e) (take (i + 1) xs)) es gs
adds_more Q xs i x es fs gs lt is h k =
    subst (λ ys. Adds (λ e. Any (λ y. Q y e) ys) es gs) (take_more xs i x lt is)
    (adds_same (λ e. Any (λ y. Q y e) (take i xs) ⊎ Q x e) (λ e. Any (λ y. Q y e) (take i xs ++ x ∷ [])) es gs
    (λ e s. any_first (λ y. Q y e) (take i xs) x s) (λ e a. any_cases (λ y. Q y e) (take i xs) x a)
    (adds_both (λ e. Any (λ y. Q y e) (take i xs)) (Q x) es fs gs h k))

pub adds_none : {X : Type 0} (Q : X → LinearForm → Type 0) (es : List LinearForm) → IsStrictlySortedBy equation_cmp es → Adds (λ e. Any (λ y. Q y e) []) es es
adds_none Q es s = adds_present (λ e. Any (λ y. Q y e) []) es s (λ e a. absurd (any_nothing (λ y. Q y e) a))

pub adds_all : {X : Type 0} (Q : X → LinearForm → Type 0) (xs : List X) (i : ℕ) (es fs : List LinearForm) → length xs ≤ i → Adds (λ e. Any (λ y. Q y e) (take i xs)) es fs → Adds (λ e. Any (λ y. Q y e) xs) es fs
adds_all Q xs i es fs le h = subst (λ ys. Adds (λ e. Any (λ y. Q y e) ys) es fs) (all_taken xs i le) h

-- ---- one part
pub lead_apart : (E : LinearForm) (d : Derivative) → IsLead d E → ¬ (E ≡ no_form)
lead_apart E d l e = l.occurs (ap (λ G. finite.value forms G d) e ∙ value-none forms d)

pub adds_part : (E eq : LinearForm) (es fs : List LinearForm) → ¬ (E ≡ no_form) → eq ≡ primitive E → Adds (λ e. e ≡ eq) es fs → Adds (IsEquationOf E) es fs
adds_part E eq es fs n p h = adds_same (λ e. e ≡ eq) (IsEquationOf E) es fs (λ e q. (n, q ∙ p)) (λ e q. q.1 ∙ sym p) h

pub adds_empty : (E : LinearForm) (es : List LinearForm) → IsStrictlySortedBy equation_cmp es → E ≡ no_form → Adds (IsEquationOf E) es es
adds_empty E es s z = adds_present (IsEquationOf E) es s (λ e q. absurd (q.0 z))

pub no_equations_sorted : IsStrictlySortedBy equation_cmp []
unfolding IsStrictlySortedBy
no_equations_sorted = tt
