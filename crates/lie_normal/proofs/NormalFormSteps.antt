-- The turns of a normal form: what a turn keeps, what it leaves, and why it comes to an end.
use Rattle.std.specs.Prelude.{◌≡◌, ℕ, suc, ◌<◌, ◌≤◌, ◌⊎◌, true, false, ltb, List, [], ◌∷◌, get_or, ◌+◌}
use Rattle.std.proofs.Common.{refl, sym, subst, arith, inl, inr, ltb-true, ltb-false}
use Rattle.std.specs.List.{AllByRecursion as Every, Contains}
use Rattle.lie_math.specs.Counts.{Derivative, order}
use Rattle.lie_math.specs.LinearForm.{LinearForm, no_form}
use Rattle.lie_math.specs.LinearSystem.{Unknown}
use Rattle.lie_math.specs.Polynomial.{WholePolynomial}
use Rattle.lie_math.proofs.EveryElement.{every-weaken}
use Rattle.lie_systems.specs.ValidSystems.{IsFormOf, HasVariablesBelow}
use Rattle.lie_systems.specs.Works.{Made, IsMadeWithin, IsWorkWithin}
use Rattle.lie_steps.specs.NormalForm.{IsReducible, IsReduction, reduced_once, reduction_made, IsNormalForm, done, onward, NormalFormMakes, now, later}
use Rattle.lie_steps.proofs.NormalForms.{reduced_form}
use Rattle.lie_steps.proofs.NormalFormWork.{no_work, work_from}
use Rattle.lie_steps.proofs.ReductionMeasure.{reductions_left, reductions_fall, orders_stay}
use Rattle.lie_steps.proofs.Rests.{coefficient_has}
use Rattle.lie_normal.specs.FormLists.{AreFormsOf}

-- ---- forms in at most 8 variables
wider : (n : ℕ) → n ≤ 8 → (v : ℕ) → ltb v 8 ≡ false → ltb v n ≡ false
wider n h v e = go (ltb v n) refl
  where
    go : (t : _) → ltb v n ≡ t → t ≡ false
    go true f = let a = ltb-true v n f in let b = ltb-false v 8 e in absurd (omega arith)
    go false f = refl

form_wider : (n : ℕ) (us : List Unknown) → n ≤ 8 → (E : LinearForm) → IsFormOf n us E → IsFormOf 8 us E
form_wider n us h E f = every-weaken _ _ (λ (e : Derivative × WholePolynomial) k. (k.0, λ v out. k.1 v (wider n h v out))) E.list f

forms_wider : (n : ℕ) (us : List Unknown) → n ≤ 8 → (Es : List LinearForm) → Every (IsFormOf n us) Es → Every (IsFormOf 8 us) Es
forms_wider n us h Es f = every-weaken (IsFormOf n us) (IsFormOf 8 us) (form_wider n us h) Es f

unknowns_wider : (n : ℕ) (us : List Unknown) → n ≤ 8 → Every (HasVariablesBelow n) us → Every (HasVariablesBelow 8) us
unknowns_wider n us h f = every-weaken (HasVariablesBelow n) (HasVariablesBelow 8) (λ u k. (k.0, every-weaken (λ v. v < n) (λ v. v < 8) (λ v l. less v l) u.variables k.1)) us f
  where
    less : (v : ℕ) → v < n → v < 8
    less v l = omega arith

-- ---- a number above those of the unknowns, and one above the orders of a form
pub above : List Unknown → ℕ
above [] = 0
above (u ∷ us) = suc u.number + above us

pub above_orders : List (Derivative × WholePolynomial) → ℕ
above_orders [] = 0
above_orders (e ∷ es) = suc (order (e.0).counts) + above_orders es

all_below : (us : List Unknown) → Every (λ (u : Unknown). u.number < above us) us
unfolding above
all_below [] = tt
all_below (u ∷ us) = (omega arith, every-weaken (λ (x : Unknown). x.number < above us) _ (λ x h. less x.number h) us (all_below us))
  where
    less : (a : ℕ) → a < above us → a < suc u.number + above us
    less a h = omega arith

orders_below : (es : List (Derivative × WholePolynomial)) → Every (λ (e : Derivative × WholePolynomial). order (e.0).counts < above_orders es) es
unfolding above_orders
orders_below [] = tt
orders_below (e ∷ es) = (omega arith, every-weaken (λ (x : Derivative × WholePolynomial). order (x.0).counts < above_orders es) _ (λ x h. less (order (x.0).counts) h) es (orders_below es))
  where
    less : (a : ℕ) → a < above_orders es → a < suc (order (e.0).counts) + above_orders es
    less a h = omega arith

-- ---- what is kept while a form is reduced
pub record IsReducedFrom (us : List Unknown) (Ls : List LinearForm) (E F : LinearForm) : Type 0 where
  pub form : IsFormOf 8 us F
  pub low : (d : Derivative) → IsReducible Ls F d → order d.counts < above_orders E.list
  pub normal : (N : LinearForm) → IsNormalForm us Ls F N → IsNormalForm us Ls E N
  pub makes : (b : Made) → NormalFormMakes us Ls F b → NormalFormMakes us Ls E b
  pub within : IsWorkWithin (NormalFormMakes us Ls F) → IsWorkWithin (NormalFormMakes us Ls E)

-- a bound of the turns that are left
pub turns_left : List Unknown → List LinearForm → LinearForm → LinearForm → ℕ
turns_left us Ls E F = reductions_left 8 (above_orders E.list) (above us) Ls F

module _ (us : List Unknown) (Ls : List LinearForm) (E : LinearForm) (a : AreFormsOf us (E ∷ Ls)) where
  list : Every (IsFormOf 8 us) Ls
  list = forms_wider a.variable_count us a.few Ls a.forms.1

  variables : Every (HasVariablesBelow 8) us
  variables = unknowns_wider a.variable_count us a.few a.variables

  pub reduced_start : IsReducedFrom us Ls E E
  reduced_start = record {
    form = form_wider a.variable_count us a.few E a.forms.0;
    low = λ d r. coefficient_has (λ (e : Derivative × WholePolynomial). order (e.0).counts < above_orders E.list) E (orders_below E.list) d r.0;
    normal = λ N k. k;
    makes = λ b k. k;
    within = λ w. w;
  }

  module _ (F : LinearForm) (h : IsReducedFrom us Ls E F) where
    pub normal_end : ((d : Derivative) → ¬ (IsReducible Ls F d)) → IsNormalForm us Ls E F
    normal_end none = h.normal F (done none)

    pub within_end : ((d : Derivative) → ¬ (IsReducible Ls F d)) → IsWorkWithin (NormalFormMakes us Ls E)
    within_end none = h.within (λ b k. absurd (no_work none k))

    module _ (d : Derivative) (j : ℕ) (l : Derivative) (r : IsReduction Ls F d j l) where
      pub makes_now : (b : Made) → Contains (reduction_made us F d (get_or Ls j no_form) l) b → NormalFormMakes us Ls E b
      makes_now b c = h.makes b (now d j l r c)

      pub reduced_next : (G : LinearForm) → G ≡ reduced_once us F d (get_or Ls j no_form) l → IsWorkWithin (Contains (reduction_made us F d (get_or Ls j no_form) l)) → IsReducedFrom us Ls E G
      reduced_next G e w = subst (IsReducedFrom us Ls E) (sym e) (record {
        form = reduced_form 8 us a.rising Ls list F d j l h.form;
        low = λ q k. let o = orders_stay 8 us a.rising variables (above us) (all_below us) Ls list (above_orders E.list) F h.form d j l r q k in let p = h.low d (r.greatest).holds in omega arith;
        normal = λ N k. h.normal N (onward d j l r k);
        makes = λ b k. h.makes b (later d j l r k);
        within = λ v. h.within (λ b k. by v b (work_from d j l r b k));
      })
        where
          by : IsWorkWithin (NormalFormMakes us Ls (reduced_once us F d (get_or Ls j no_form) l)) → (b : Made) → Contains (reduction_made us F d (get_or Ls j no_form) l) b ⊎ NormalFormMakes us Ls (reduced_once us F d (get_or Ls j no_form) l) b → IsMadeWithin b
          by v b (inl c) = w b c
          by v b (inr k) = v b k

      pub turns_fall : (G : LinearForm) → G ≡ reduced_once us F d (get_or Ls j no_form) l → turns_left us Ls E G < turns_left us Ls E F
      unfolding turns_left
      turns_fall G e =
          subst (λ X. reductions_left 8 (above_orders E.list) (above us) Ls X < reductions_left 8 (above_orders E.list) (above us) Ls F) (sym e)
          (reductions_fall 8 us a.rising variables (above us) (all_below us) Ls list (above_orders E.list) F h.form d j l r (h.low d (r.greatest).holds))
