-- The determining equations as a finite list, in which each may be divided by what is not 0.
use Rattle.std.specs.List.{Any}
use Rattle.std.specs.Prelude.{◌≡◌, ℕ, zero, suc, ◌<◌, Bool, true, false, cond, ◌||◌, List, [], ◌∷◌, ◌++◌, ◌↔◌, length, map, All, slice_index_or, ℤ, pos, ◌⊎◌}
use Rattle.std.proofs.Common.{refl, sym, ap, ap₂, subst, ◌∙◌, arith, true≢false, inl, inr}
use mathlib.Core.Path.{fun_ext}
use Rattle.lie_math.proofs.SomeElement.{any_head, any_tail, any_left, any_right}
use Rattle.lie_math.specs.FiniteSumLaws as finite_laws
use Rattle.lie_math.proofs.FiniteSum as finite_proofs
use Rattle.lie_math.specs.Counts.{Derivative}
use Rattle.lie_math.specs.FiniteSumLaws.{value-none, value-term, plus_idl, term_additive}
use Rattle.lie_math.specs.LinearForm.{forms, LinearForm, no_form, ◌+ᶠ◌, form_term, form_over, each_coefficient, IsMultipleOf, apply}
use Rattle.lie_math.specs.Monomial.{Monomial}
use Rattle.lie_math.specs.Polynomial.{term, terms, constant, WholePolynomial, 0ᴾ, ◌+ᴾ◌, polynomials}
use Rattle.lie_math.specs.PolynomialRing.{one-*ᴾ}
use Rattle.lie_math.specs.SortedSum.{sum_of_entries}
use Rattle.lie_math.proofs.LinearForm.{apply_none}
use Rattle.lie_math.proofs.Limits.{one_apart}
use Rattle.lie_math.proofs.Cancellation.{multiple_says}
use Rattle.lie_geometry.specs.Coordinates.{Space}
use Rattle.lie_geometry.specs.DeterminingEquations.{symbolic_reduced, restrict, part, determining_equation, IsDetermining}
use Rattle.lie_geometry.specs.Prolongation.{is_in_z}
use Rattle.lie_geometry.specs.SolvedEquations.{SolvedEquation}
use Rattle.lie_geometry.specs.SymbolicProlongation.{symbolic_application}
use Rattle.lie_geometry.proofs.Booleans.{or_left, or_right}
use Rattle.lie_geometry.proofs.Parts.{outer, same_monomial}

-- ---- the monomials that occur
abbrev pub outer_monomials : (ℕ → Bool) → List (Monomial × ℤ) → List Monomial
outer_monomials S [] = []
outer_monomials S (e ∷ es) = outer S e.0 ∷ outer_monomials S es

abbrev pub outer_monomials_of_form : (ℕ → Bool) → List (Derivative × WholePolynomial) → List Monomial
outer_monomials_of_form S [] = []
outer_monomials_of_form S (e ∷ es) = outer_monomials S (e.1).list ++ outer_monomials_of_form S es

-- the equations of a rule: one for each monomial in the jets of order 1 or more that occurs
abbrev pub equations : Space → List SolvedEquation → SolvedEquation → List LinearForm
equations S rs r = map (determining_equation S rs r) (outer_monomials_of_form (is_in_z S) (symbolic_reduced rs (symbolic_application S rs r)).list)

abbrev has : Monomial → List Monomial → Bool
has μ [] = false
has μ (ν ∷ νs) = same_monomial μ ν || has μ νs

has-append : (μ : Monomial) (ms ns : List Monomial) → has μ (ms ++ ns) ≡ has μ ms || has μ ns
has-append μ [] ns = refl
has-append μ (m ∷ ms) ns = elim (same_monomial μ m) as (λ t. t || has μ (ms ++ ns) ≡ (t || has μ ms) || has μ ns) [ true ↦ refl | false ↦ has-append μ ms ns ]

module _ (S : ℕ → Bool) (μ : Monomial) where
  no_part : (p : WholePolynomial) → has μ (outer_monomials S p.list) ≡ false → part S μ p ≡ 0ᴾ
  unfolding part
  no_part p h = go p.list h
    where
      go : (es : List (Monomial × ℤ)) → has μ (outer_monomials S es) ≡ false → sum_of_entries polynomials (λ m a. term (restrict S m) (cond (same_monomial μ (outer S m)) a (pos 0))) es ≡ 0ᴾ
      go [] h = refl
      go (e ∷ es) h =
          ap₂ ◌+ᴾ◌ (ap (λ t. term (restrict S e.0) (cond t e.1 (pos 0))) (or_left (same_monomial μ (outer S e.0)) (has μ (outer_monomials S es)) h) ∙ (term_additive terms).on_nil (restrict S e.0)) (go es (or_right (same_monomial μ (outer S e.0)) (has μ (outer_monomials S es)) h))
          ∙ plus_idl terms 0ᴾ

  -- a monomial that occurs in no coefficient has the empty equation
  pub no_equation : (E : LinearForm) → has μ (outer_monomials_of_form S E.list) ≡ false → each_coefficient (part S μ) E ≡ no_form
  no_equation E h = go E.list h
    where
      go : (es : List (Derivative × WholePolynomial)) → has μ (outer_monomials_of_form S es) ≡ false → sum_of_entries (finite_laws.adder forms) (λ d a. form_term d (part S μ a)) es ≡ no_form
      go [] h = refl
      go (e ∷ es) h =
          let g : has μ (outer_monomials S (e.1).list) || has μ (outer_monomials_of_form S es) ≡ false = sym (has-append μ (outer_monomials S (e.1).list) (outer_monomials_of_form S es)) ∙ h in
          ap₂ ◌+ᶠ◌
          (ap (form_term e.0) (no_part e.1 (or_left (has μ (outer_monomials S (e.1).list)) (has μ (outer_monomials_of_form S es)) g)) ∙ (finite_laws.term_additive forms).on_nil e.0)
          (go es (or_right (has μ (outer_monomials S (e.1).list)) (has μ (outer_monomials_of_form S es)) g)) ∙ finite_laws.plus_idl forms no_form

map_all : (P : LinearForm → Type 0) (f : Monomial → LinearForm) (ms : List Monomial) → ((m : Monomial) → P (f m)) → All P (map f ms)
map_all P f [] h k d g = absurd (omega arith)
map_all P f (m ∷ ms) h zero d g = h m
map_all P f (m ∷ ms) h (suc k) d g = map_all P f ms h k d (less g)
  where
    less : suc k < length (map f (m ∷ ms)) → k < length (map f ms)
    less g = omega arith

-- ---- some element of a list
any_map : (P : LinearForm → Type 0) (f : Monomial → LinearForm) (μ : Monomial) (ms : List Monomial) → has μ ms ≡ true → P (f μ) → Any P (map f ms)
any_map P f μ [] e p = absurd (true≢false (sym e))
any_map P f μ (m ∷ ms) e p = by (same_monomial μ m) refl e (λ g. any_map P f μ ms g p)
  where
    by : (t : Bool) → same_monomial μ m ≡ t → t || has μ ms ≡ true → (has μ ms ≡ true → Any P (map f ms)) → Any P (f m ∷ map f ms)
    by true q g ih = any_head P (f m) (map f ms) (subst (λ n. P (f n)) (finite_proofs.key terms μ m q) p)
    by false q g ih = any_tail P (f m) (map f ms) (ih g)

all_append : {X : Type 0} (P : X → Type 0) (xs ys : List X) → All P xs → All P ys → All P (xs ++ ys)
all_append P [] ys h g k d l = g k d l
all_append P (x ∷ xs) ys h g zero d l = h 0 d (omega arith)
all_append P (x ∷ xs) ys h g (suc k) d l = all_append P xs ys (λ j e m. h (suc j) e (next m)) g k d (less l)
  where
    next : {j : ℕ} → j < length xs → suc j < length (x ∷ xs)
    next m = omega arith

    less : suc k < length (x ∷ (xs ++ ys)) → k < length (xs ++ ys)
    less l = omega arith

-- ---- the list of all equations
abbrev pub listing : Space → List SolvedEquation → List SolvedEquation → List LinearForm
listing S rs [] = []
listing S rs (r ∷ ss) = equations S rs r ++ listing S rs ss

-- an equation is itself times 1
itself_times : (E : LinearForm) → IsMultipleOf E E
itself_times E = record {
  factor = constant (pos 1);
  apart = one_apart;
  is = sym (ap (λ f. form_over f E) (fun_ext (λ d. fun_ext (λ a. ap (form_term d) (one-*ᴾ a)))) ∙ finite_laws.sum_of_terms forms E);
}

module _ (S : Space) (rs : List SolvedEquation) where
  abbrev At : SolvedEquation → Monomial → LinearForm → Type 0
  At r μ G = IsMultipleOf (determining_equation S rs r μ) G

  listed : (ss : List SolvedEquation) → All (λ r. (μ : Monomial) → (determining_equation S rs r μ ≡ no_form) ⊎ Any (At r μ) (listing S rs ss)) ss
  listed [] k d g μ = absurd (omega arith)
  listed (r ∷ ss) zero d g μ = by (has μ monomials) refl
    where
      monomials : List Monomial
      monomials = outer_monomials_of_form (is_in_z S) (symbolic_reduced rs (symbolic_application S rs r)).list

      by : (t : Bool) → has μ monomials ≡ t → (determining_equation S rs r μ ≡ no_form) ⊎ Any (At r μ) (listing S rs (r ∷ ss))
      by true e = inr (any_left (At r μ) (equations S rs r) (listing S rs ss) (any_map (At r μ) (determining_equation S rs r) μ monomials e (itself_times (determining_equation S rs r μ))))
      by false e = inl (no_equation (is_in_z S) μ (symbolic_reduced rs (symbolic_application S rs r)) e)
  listed (r ∷ ss) (suc k) d g μ = elim (listed ss k d (less g) μ) [
    | inl e ↦ inl e
    | inr h ↦ inr (any_right (At (slice_index_or ss k d) μ) (equations S rs r) (listing S rs ss) h)
  ]
    where
      less : suc k < length (r ∷ ss) → k < length ss
      less g = omega arith

  abbrev From : List SolvedEquation → LinearForm → Type 0
  From ss G = Any (λ r. (μ : Monomial) × At r μ G) ss

  from_equations : (ss : List SolvedEquation) → All (From ss) (listing S rs ss)
  from_equations [] k d g = absurd (omega arith)
  from_equations (r ∷ ss) k d l =
      all_append (From (r ∷ ss)) (equations S rs r) (listing S rs ss)
      (map_all (From (r ∷ ss)) (determining_equation S rs r) _ (λ μ. any_head (λ r'. (ν : Monomial) × At r' ν (determining_equation S rs r μ)) r ss (μ, itself_times (determining_equation S rs r μ))))
      (λ k d g. any_tail (λ r. (μ : Monomial) × At r μ (slice_index_or (listing S rs ss) k d)) r ss (from_equations ss k d g))
      k d l

  -- there is a list of the determining equations
  pub listing_is : IsDetermining S rs (listing S rs rs)
  listing_is = record { all = listed rs; alone = from_equations rs }

-- functions solve the listed equations exactly if they solve all
pub listed_says : (S : Space) (rs : List SolvedEquation) (es : List LinearForm) (F : ℕ → WholePolynomial) → IsDetermining S rs es → All (λ E. apply F E ≡ 0ᴾ) es ↔ All (λ r. (μ : Monomial) → apply F (determining_equation S rs r μ) ≡ 0ᴾ) rs
listed_says S rs es F is = (
  λ h k d g μ. elim (is.all k d g μ) [
    | inl e ↦ ap (apply F) e ∙ apply_none F
    | inr f ↦ (multiple_says F _ f.1 f.4).1 (subst (λ G. apply F G ≡ 0ᴾ) f.3 (h f.0 f.1 f.2))
  ],
  λ h k d g. let s = is.alone k d g in (multiple_says F _ (slice_index_or es k d) s.4.1).0 (subst (λ r. apply F (determining_equation S rs r s.4.0) ≡ 0ᴾ) s.3 (h s.0 s.1 s.2 s.4.0)),
)
