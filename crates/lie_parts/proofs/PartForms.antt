-- The triples at a monomial sum to the part of the form there.
use Rattle.std.specs.Prelude.{◌≡◌, ℕ, Bool, true, false, cond, not, List, [], ◌∷◌, ◌++◌, pos, ℤ}
use Rattle.std.proofs.Common.{refl, sym, ap, ap₂, ◌∙◌}
use Rattle.std.specs.Ordering.{eq_by_cmp}
use Rattle.lie_math.specs.FiniteSumLaws as finite_laws
use Rattle.lie_math.specs.FiniteSumLaws.{plus_idl, term_additive}
use Rattle.lie_math.specs.SortedSum.{sum_of_entries}
use Rattle.lie_math.specs.Counts.{Derivative}
use Rattle.lie_math.specs.LinearForm.{forms, LinearForm, ◌+ᶠ◌, form_term, each_coefficient}
use Rattle.lie_math.specs.Monomial.{Monomial, monomial_cmp}
use Rattle.lie_math.specs.Polynomial.{WholePolynomial, terms, term, polynomials, ◌+ᴾ◌}
use Rattle.lie_geometry.specs.DeterminingEquations.{restrict, part}
use Rattle.lie_systems.specs.Triples.{Triple, triples, triples_in, triples_with, sum_of_triples}
use Rattle.lie_systems.proofs.Triples.{sum_of_triples-append}
use Rattle.lie_parts.specs.Parts.{triples_at, split_triples}

module _ (A : ℕ → Bool) (μ : Monomial) where
  abbrev at : List Triple → List Triple
  at ts = triples_at μ (split_triples A ts)

  at-append : (ts us : List Triple) → at (ts ++ us) ≡ at ts ++ at us
  at-append [] us = refl
  at-append (t ∷ ts) us = go (eq_by_cmp monomial_cmp μ (restrict (λ v. not (A v)) t.1)) (at-append ts us)
    where
      go : (b : Bool) → at (ts ++ us) ≡ at ts ++ at us
          → cond b ((t.0, restrict A t.1, t.2) ∷ at (ts ++ us)) (at (ts ++ us)) ≡ cond b ((t.0, restrict A t.1, t.2) ∷ at ts) (at ts) ++ at us
      go true i = ap (λ vs. (t.0, restrict A t.1, t.2) ∷ vs) i
      go false i = i

  abbrev sifted : List (Monomial × ℤ) → WholePolynomial
  sifted es = sum_of_entries polynomials (λ m a. term (restrict A m) (cond (eq_by_cmp monomial_cmp μ (restrict (λ v. not (A v)) m)) a (pos 0))) es

  -- the terms of one derivative
  sum_with : (d : Derivative) (es : List (Monomial × ℤ)) → sum_of_triples (at (triples_with d es)) ≡ form_term d (sifted es)
  sum_with d [] = sym ((term_additive forms).on_nil d)
  sum_with d (e ∷ es) = go (eq_by_cmp monomial_cmp μ (restrict (λ v. not (A v)) e.0)) (sum_with d es)
    where
      go : (b : Bool) → sum_of_triples (at (triples_with d es)) ≡ form_term d (sifted es)
          → sum_of_triples (cond b ((d, restrict A e.0, e.1) ∷ at (triples_with d es)) (at (triples_with d es))) ≡ form_term d (term (restrict A e.0) (cond b e.1 (pos 0)) +ᴾ sifted es)
      go true i = ap (λ E. form_term d (term (restrict A e.0) e.1) +ᶠ E) i ∙ sym ((term_additive forms).on_plus d (term (restrict A e.0) e.1) (sifted es))
      go false i = i ∙ ap (form_term d) (sym (ap (λ p. p +ᴾ sifted es) ((term_additive terms).on_nil (restrict A e.0)) ∙ plus_idl terms (sifted es)))

  sum_in : (es : List (Derivative × WholePolynomial)) → sum_of_triples (at (triples_in es)) ≡ sum_of_entries (finite_laws.adder forms) (λ d a. form_term d (part A μ a)) es
  unfolding part
  sum_in [] = refl
  sum_in (e ∷ es) =
      ap sum_of_triples (at-append (triples_with e.0 e.1.list) (triples_in es)) ∙ sum_of_triples-append (at (triples_with e.0 e.1.list)) (at (triples_in es))
      ∙ ap₂ ◌+ᶠ◌ (sum_with e.0 e.1.list) (sum_in es)

  pub sum_at : (E : LinearForm) → sum_of_triples (triples_at μ (split_triples A (triples E))) ≡ each_coefficient (part A μ) E
  sum_at E = sum_in E.list
