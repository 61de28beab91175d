-- A number that falls at each reduction: the place of the greatest derivative that can be reduced, among those of bounded order.
use Rattle.std.specs.Prelude.{◌≡◌, ℕ, zero, suc, ◌+◌, ◌*◌, ◌<◌, ◌≤◌, ◌⊎◌, List, [], ◌∷◌, get_or}
use Rattle.std.proofs.Common.{refl, sym, ap, subst, ◌∙◌, arith, inl, inr, Less}
use Rattle.std.specs.Cmp.{ranks}
use Rattle.std.specs.List.{AllByRecursion as Every}
use Rattle.std.specs.Ordering.{nat_cmp}
use Rattle.lie_math.specs.Counts.{Derivative, derivative_cmp, order}
use Rattle.lie_math.specs.LinearForm.{LinearForm, no_form}
use Rattle.lie_math.specs.LinearSystem.{Unknown}
use Rattle.lie_systems.specs.ValidSystems.{count, IsFormOf, HasVariablesBelow}
use Rattle.lie_steps.specs.NormalForm.{IsReducible, IsReduction, reduced_once}
use Rattle.lie_math.proofs.EveryElement.{every_contained}
use Rattle.lie_steps.proofs.Derived.{IsRising}
use Rattle.lie_steps.proofs.Descents.{by_measures, first_less, order_is_measured, places}
use Rattle.lie_steps.proofs.NormalForms.{reduced_form}
use Rattle.lie_steps.proofs.NormalFormExists.{lesser, occurring, owned_within}
use Rattle.lie_steps.proofs.Searching.{search_reduction}
use Rattle.lie_steps.proofs.SolvedForms.{greatest_unique}
use Rattle.std.proofs.Common.{is_lt, true≢false}

-- ---- one number from numbers below bounds
room : (a b s t : ℕ) → a < b → t < s → a * s + t < b * s
room a b s t h g = more (b * s) (a * s) s t (less a b s h) g
  where
    more : (x y s t : ℕ) → y + s ≤ x → t < s → y + t < x
    more x y s t h g = omega arith

    first : (b s : ℕ) → 0 * s + s ≤ suc b * s
    first b s = grind arith

    next : (a b s : ℕ) → a * s + s ≤ b * s → suc a * s + s ≤ suc b * s
    next a b s h = grind arith

    less : (a b s : ℕ) → a < b → a * s + s ≤ b * s
    less a zero s h = absurd (omega arith)
    less zero (suc b) s h = first b s
    less (suc a) (suc b) s h = next a b s (less a b s (omega arith))

module _ {X : Type 0} where
  -- measures, each with a number above it: how many places there are, and the place of x
  abbrev pub size : List ((X → ℕ) × ℕ) → ℕ
  size [] = 1
  size (f ∷ fs) = f.1 * size fs

  abbrev pub place_of : List ((X → ℕ) × ℕ) → X → ℕ
  place_of [] x = 0
  place_of (f ∷ fs) x = f.0 x * size fs + place_of fs x

  abbrev pub IsBounded : List ((X → ℕ) × ℕ) → X → Type 0
  IsBounded fs x = Every (λ (f : (X → ℕ) × ℕ). f.0 x < f.1) fs

  abbrev pub measures_of : List ((X → ℕ) × ℕ) → List (X → ℕ)
  measures_of [] = []
  measures_of (f ∷ fs) = f.0 ∷ measures_of fs

  place_below : (fs : List ((X → ℕ) × ℕ)) (x : X) → IsBounded fs x → place_of fs x < size fs
  place_below [] x h = omega arith
  place_below (f ∷ fs) x h = room (f.0 x) f.1 (size fs) (place_of fs x) h.0 (place_below fs x h.1)

  -- what is less by the measures has the lesser place
  pub place_less : (fs : List ((X → ℕ) × ℕ)) (x y : X) → IsBounded fs x → IsBounded fs y → by_measures (measures_of fs) x y ≡ Less → place_of fs x < place_of fs y
  place_less [] x y h g lt = absurd (true≢false (sym (ap is_lt lt)))
  place_less (f ∷ fs) x y h g lt = first_less (f.0 x) (f.0 y) (by_measures (measures_of fs) x y) (nat_cmp (f.0 x) (f.0 y)) (ranks (f.0 x) (f.0 y)) lt
      (λ k. wide (f.0 y * size fs) (f.0 x * size fs + place_of fs x) (place_of fs y) (room (f.0 x) (f.0 y) (size fs) (place_of fs x) k (place_below fs x h.1)))
      (λ e k. same (f.0 x) (f.0 y) (size fs) (place_of fs x) (place_of fs y) e (place_less fs x y h.1 g.1 k))
    where
      wide : (a b t : ℕ) → b < a → b < a + t
      wide a b t h = omega arith

      same : (a b s t u : ℕ) → a ≡ b → t < u → a * s + t < b * s + u
      same a b s t u e h = subst (λ z. a * s + t < z * s + u) e (plain (a * s) t u h)
        where
          plain : (x t u : ℕ) → t < u → x + t < x + u
          plain x t u h = omega arith

-- ---- derivatives of an order below `orders`, of unknowns below `unknowns`, by n variables
abbrev bounded_places : ℕ → ℕ → ℕ → List ((Derivative → ℕ) × ℕ)
bounded_places i zero orders = []
bounded_places i (suc m) orders = ((λ d. count d i), orders) ∷ bounded_places (suc i) m orders

abbrev pub bounds : ℕ → ℕ → ℕ → List ((Derivative → ℕ) × ℕ)
bounds n orders unknowns = ((λ d. order d.counts), orders) ∷ ((λ d. d.unknown), unknowns) ∷ bounded_places 0 n orders

places_are : (i m orders : ℕ) → measures_of (bounded_places i m orders) ≡ places i m
places_are i zero orders = refl
places_are i (suc m) orders = ap (λ fs. (λ d. count d i) ∷ fs) (places_are (suc i) m orders)

count_order : (J : List ℕ) (v : ℕ) → get_or J v 0 ≤ order J
count_order [] v = omega arith
count_order (c ∷ J) zero = omega arith
count_order (c ∷ J) (suc v) = let h = count_order J v in omega arith

places_bounded : (d : Derivative) (orders : ℕ) → order d.counts < orders → (i m : ℕ) → IsBounded (bounded_places i m orders) d
places_bounded d orders h i zero = tt
places_bounded d orders h i (suc m) = ((let k = count_order d.counts i in omega arith), places_bounded d orders h (suc i) m)

-- the places up to that of the derivative that was found
abbrev left_of : ℕ → ℕ → ℕ → (Ls : List LinearForm) (E : LinearForm) → ((d : Derivative) × (j : ℕ) × (l : Derivative) × IsReduction Ls E d j l) ⊎ ((d : Derivative) → ¬ (IsReducible Ls E d)) → ℕ
left_of n orders unknowns Ls E (inl (d, j, l, r)) = suc (place_of (bounds n orders unknowns) d)
left_of n orders unknowns Ls E (inr none) = 0

-- a bound of the reductions that are left
pub reductions_left : ℕ → ℕ → ℕ → List LinearForm → LinearForm → ℕ
reductions_left n orders unknowns Ls E = left_of n orders unknowns Ls E (search_reduction Ls E)

left_is : (n orders unknowns : ℕ) (Ls : List LinearForm) (E : LinearForm) (d : Derivative) (j : ℕ) (l : Derivative) → IsReduction Ls E d j l → reductions_left n orders unknowns Ls E ≡ suc (place_of (bounds n orders unknowns) d)
unfolding reductions_left
left_is n orders unknowns Ls E d j l r = at (search_reduction Ls E)
  where
    at : (x : ((d : Derivative) × (j : ℕ) × (l : Derivative) × IsReduction Ls E d j l) ⊎ ((d : Derivative) → ¬ (IsReducible Ls E d))) → left_of n orders unknowns Ls E x ≡ suc (place_of (bounds n orders unknowns) d)
    at (inl (e, i, m, t)) = ap (λ x. suc (place_of (bounds n orders unknowns) x)) (greatest_unique (IsReducible Ls E) e d t.greatest r.greatest)
    at (inr none) = absurd (none d (r.greatest).holds)

module _ (n : ℕ) (us : List Unknown) (r : IsRising us) (below : Every (HasVariablesBelow n) us) (next : ℕ) (numbers : Every (λ (u : Unknown). u.number < next) us) (Ls : List LinearForm) (list : Every (IsFormOf n us) Ls) (orders : ℕ) where
  -- a derivative that is less has no greater order
  order_less : (d e : Derivative) → derivative_cmp d e ≡ Less → order e.counts ≤ order d.counts
  order_less d e lt = first_less (order e.counts) (order d.counts) _ (nat_cmp (order e.counts) (order d.counts)) (ranks (order e.counts) (order d.counts)) lt (λ k. omega arith) (λ k m. omega arith)

  -- each reduction leaves fewer
  pub reductions_fall : (E : LinearForm) → IsFormOf n us E → (d : Derivative) (j : ℕ) (l : Derivative) → IsReduction Ls E d j l → order d.counts < orders → reductions_left n orders next Ls (reduced_once us E d (get_or Ls j no_form) l) < reductions_left n orders next Ls E
  unfolding reductions_left
  reductions_fall E h d j l s lt = subst (λ x. reductions_left n orders next Ls (reduced_once us E d (get_or Ls j no_form) l) < x) (sym (left_is n orders next Ls E d j l s)) (at (search_reduction Ls (reduced_once us E d (get_or Ls j no_form) l)))
    where
      more : {a b : ℕ} → a < b → suc a < suc b
      more h = omega arith

      at : (x : ((e : Derivative) × (i : ℕ) × (m : Derivative) × IsReduction Ls (reduced_once us E d (get_or Ls j no_form) l) e i m) ⊎ ((e : Derivative) → ¬ (IsReducible Ls (reduced_once us E d (get_or Ls j no_form) l) e))) → left_of n orders next Ls (reduced_once us E d (get_or Ls j no_form) l) x < suc (place_of (bounds n orders next) d)
      at (inr none) = omega arith
      at (inl (e, i, m, t)) =
          let form = reduced_form n us r Ls list E d j l h in
          let o = occurring n us r below Ls list E h d ((s.greatest).holds).0 in
          let p = occurring n us r below Ls list (reduced_once us E d (get_or Ls j no_form) l) form e ((t.greatest).holds).0 in
          let falls = lesser n us r below Ls list E h d j l s e (t.greatest).holds in
          let less = sym (order_is_measured n e d p.short o.short (owned_within n us r below Ls list e p) (owned_within n us r below Ls list d o)) ∙ falls in
          let low : order e.counts < orders = let k = order_less d e falls in omega arith in
          let ud : d.unknown < next = subst (λ x. x < next) o.number (every_contained (λ (u : Unknown). u.number < next) us o.unknown numbers o.listed) in
          let ue : e.unknown < next = subst (λ x. x < next) p.number (every_contained (λ (u : Unknown). u.number < next) us p.unknown numbers p.listed) in
          more (place_less (bounds n orders next) e d (low, (ue, places_bounded e orders low 0 n)) (lt, (ud, places_bounded d orders lt 0 n))
          (ap (λ fs. by_measures ((λ d. order d.counts) ∷ (λ d. d.unknown) ∷ fs) e d) (places_are 0 n orders) ∙ less))

  -- the order of what can be reduced does not rise
  pub orders_stay : (E : LinearForm) → IsFormOf n us E → (d : Derivative) (j : ℕ) (l : Derivative) → IsReduction Ls E d j l → (e : Derivative) → IsReducible Ls (reduced_once us E d (get_or Ls j no_form) l) e → order e.counts ≤ order d.counts
  orders_stay E h d j l s e k = order_less d e (lesser n us r below Ls list E h d j l s e k)
