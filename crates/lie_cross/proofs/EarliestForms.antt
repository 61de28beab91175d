-- The first of some forms with one derivative, when one form more is looked at.
use Rattle.std.specs.Prelude.{◌≡◌, suc, ◌⊎◌, List, [], ◌∷◌, ◌++◌, length, Option, Some, None}
use Rattle.std.proofs.Common.{Less, Equal, Greater, refl, sym, ap, subst, ◌∙◌, inl, inr}
use Rattle.std.specs.Cmp.{tied_itself}
use Rattle.std.specs.List.{Contains}
use Rattle.std.proofs.lemmas.List.Elements.{Contains-append_left, Contains-append_right, Contains-append_cases}
use Rattle.lie_math.specs.LinearForm.{LinearForm}
use Rattle.lie_math.specs.Polynomial.{WholePolynomial}
use Rattle.lie_jet.specs.declared.derivative.Der.{Der}
use Rattle.lie_lin.specs.Forms.{coefficients_of}
use Rattle.lie_math.proofs.ContainedElements.{contained_cons, contains_first, contains_nothing}
use Rattle.lie_math.proofs.EveryElement.{every-append, every_contained}
use Rattle.lie_systems.specs.EquationOrder.{equation_cmp}
use Rattle.lie_systems.proofs.EquationOrder.{equation_cmp_total}
use Rattle.lie_cross.specs.Isolate.{IsSingle, IsFirstSingle, IsEarliest}

-- how many derivatives a form has
count_of : (ts : List (Der × WholePolynomial)) → length ts ≡ length (coefficients_of ts)
count_of [] = refl
count_of (t ∷ ts) = ap suc (count_of ts)

pub derivative_count : (E : LinearForm) (ts : List (Der × WholePolynomial)) → coefficients_of ts ≡ E.list → length ts ≡ length E.list
derivative_count E ts is = count_of ts ∙ ap length is

pub not_less_equal : (E F : LinearForm) → equation_cmp E F ≡ Equal → ¬ (equation_cmp E F ≡ Less)
not_less_equal E F e l = let d = sym e ∙ l in cc

pub not_less_greater : (E F : LinearForm) → equation_cmp E F ≡ Greater → ¬ (equation_cmp E F ≡ Less)
not_less_greater E F e l = let d = sym e ∙ l in cc

module _ (Ps : List LinearForm) (next : LinearForm) where
  -- one of the forms before, or the next one
  cases : (Q : LinearForm) → Contains (Ps ++ next ∷ []) Q → Contains Ps Q ⊎ (next ≡ Q)
  cases Q c = go (Contains-append_cases Ps (next ∷ []) Q c)
    where
      last : (next ≡ Q) ⊎ Contains [] Q → next ≡ Q
      last (inl e) = e
      last (inr k) = absurd (contains_nothing Q k)

      go : Contains Ps Q ⊎ Contains (next ∷ []) Q → Contains Ps Q ⊎ (next ≡ Q)
      go (inl k) = inl k
      go (inr k) = inr (last (contained_cons next [] Q k))

  -- the next one has more than one derivative, or none
  pub not_counted : (found : Option LinearForm) → ¬ (IsSingle next) → IsEarliest Ps found → IsEarliest (Ps ++ next ∷ []) found
  not_counted None n h = every-append (λ Q. ¬ (IsSingle Q)) Ps (next ∷ []) h (n, tt)
  not_counted (Some P) n h =
      record { listed = Contains-append_left Ps (next ∷ []) P h.listed; single = h.single; first = λ Q c s. go Q s (cases Q c) }
    where
      go : (Q : LinearForm) → IsSingle Q → Contains Ps Q ⊎ (next ≡ Q) → ¬ (equation_cmp Q P ≡ Less)
      go Q s (inl k) = h.first Q k s
      go Q s (inr e) = absurd (n (subst IsSingle (sym e) s))

  module _ (single : IsSingle next) where
    listed : Contains (Ps ++ next ∷ []) next
    listed = Contains-append_right Ps (next ∷ []) next (contains_first next [])

    not_before_itself : (P : LinearForm) → ¬ (equation_cmp P P ≡ Less)
    not_before_itself P e = let t = tied_itself equation_cmp_total P in cc

    pub only_one : IsEarliest Ps None → IsFirstSingle (Ps ++ next ∷ []) next
    only_one h = record { listed = listed; single = single; first = λ Q c s. go Q s (cases Q c) }
      where
        go : (Q : LinearForm) → IsSingle Q → Contains Ps Q ⊎ (next ≡ Q) → ¬ (equation_cmp Q next ≡ Less)
        go Q s (inl k) = absurd (every_contained (λ R. ¬ (IsSingle R)) Ps Q h k s)
        go Q s (inr e) = subst (λ R. ¬ (equation_cmp R next ≡ Less)) e (not_before_itself next)

    module _ (P : LinearForm) (h : IsFirstSingle Ps P) where
      pub comes_before : equation_cmp next P ≡ Less → IsFirstSingle (Ps ++ next ∷ []) next
      comes_before l = record { listed = listed; single = single; first = λ Q c s. go Q s (cases Q c) }
        where
          go : (Q : LinearForm) → IsSingle Q → Contains Ps Q ⊎ (next ≡ Q) → ¬ (equation_cmp Q next ≡ Less)
          go Q s (inl k) = λ e. h.first Q k s (equation_cmp_total.trans Q next P e l)
          go Q s (inr e) = subst (λ R. ¬ (equation_cmp R next ≡ Less)) e (not_before_itself next)

      pub comes_behind : ¬ (equation_cmp next P ≡ Less) → IsFirstSingle (Ps ++ next ∷ []) P
      comes_behind n =
          record { listed = Contains-append_left Ps (next ∷ []) P h.listed; single = h.single; first = λ Q c s. go Q s (cases Q c) }
        where
          go : (Q : LinearForm) → IsSingle Q → Contains Ps Q ⊎ (next ≡ Q) → ¬ (equation_cmp Q P ≡ Less)
          go Q s (inl k) = h.first Q k s
          go Q s (inr e) = subst (λ R. ¬ (equation_cmp R P ≡ Less)) e n
