-- Forms divided by a number that divides all their numbers.
use Rattle.std.specs.Prelude.{◌≡◌, ℕ, zero, suc, ◌≤◌, List, [], ◌∷◌, map, ℤ, pos, unsigned_abs}
use Rattle.std.proofs.Common.{refl, sym, ap, ap₂, subst, subst₂, ◌∙◌, arith}
use Rattle.std.proofs.lemmas.Nat.Gcd.{dvd_refl}
use Rattle.std.specs.List.{AllByRecursion as Every, flat_map}
use mathlib.Core.Path.{fun_ext}
use Rattle.lie_math.specs.Canonical.{sum_of_entries-nil}
use Rattle.lie_math.specs.FiniteSum as finite
use Rattle.lie_math.specs.FiniteSumLaws as finite_laws
use Rattle.lie_math.specs.FiniteSumLaws.{term_additive, sum_of_terms}
use Rattle.lie_math.specs.Monomial.{Monomial, unit, exponent}
use Rattle.lie_math.specs.Polynomial.{WholePolynomial, constant, term, terms, ◌*ᴾ◌}
use Rattle.lie_math.specs.PolynomialRing.{polynomial_ring, one-*ᴾ}
use Rattle.lie_math.specs.LinearForm.{LinearForm, forms, no_form, form_term, times_form}
use Rattle.lie_math.specs.SortedSum.{sum_of_entries}
use Rattle.lie_math.proofs.EveryElement.{every-front, every-back}
use Rattle.lie_math.proofs.Limits.{term_apart}
use Rattle.lie_math.proofs.Ring.{nil_times}
use Rattle.lie_systems.specs.Laws.{DividesNumbers, DividesMonomials}
use Rattle.lie_systems.specs.Normalised.{content}
use Rattle.lie_systems.specs.Triples.{Triple, triples}
use Rattle.lie_systems.proofs.Divisibility.{all_divided}
use Rattle.lie_systems.proofs.Exponents.{exponent-unit}
use Rattle.lie_systems.proofs.Triples.{each_times, list-times_form}
use Rattle.lie_systems.proofs.Unique.{times_form-cancel}
use Rattle.lie_jet.specs.declared.derivative.Der.{Der}
use Rattle.lie_lin.specs.Forms.{coefficients_of, triples_of}
use Rattle.lie_lin.proofs.DividedForms.{are_coefficients}
use Rattle.lie_steps.specs.Replacement.{divided_by, without_divisor}
use Rattle.lie_steps.proofs.Division.{divided_by-back}

pub unit_divides : (ts : List Triple) → DividesMonomials unit ts
unit_divides [] = tt
unit_divides (t ∷ ts) = ((λ v. subst (λ e. ◌≤◌ e (exponent t.1 v)) (sym (exponent-unit v)) (omega arith)), unit_divides ts)

-- ---- one form
-- the form that is back when it is multiplied is the divided one
pub divided_is : (a : ℤ) (E N : LinearForm) (new : List (Der × WholePolynomial)) → ¬ (a ≡ pos 0) → a ≡ pos (unsigned_abs a)
    → DividesNumbers (unsigned_abs a) (triples E) → N ≡ finite.of forms (coefficients_of new)
    → each_times (term unit a) (coefficients_of new) ≡ E.list → N ≡ divided_by (unsigned_abs a) E
divided_is a E N new apart plain h en back =
    times_form-cancel unit a apart N (divided_by (unsigned_abs a) E)
    (multiplied ∙ sym (ap (λ z. times_form (term unit z) (divided_by (unsigned_abs a) E)) plain ∙ divided_by-back (unsigned_abs a) E h))
  where
    listed : N.list ≡ coefficients_of new
    listed = ap (λ (G : LinearForm). G.list) en ∙ finite_laws.list-of forms (coefficients_of new)
        (are_coefficients (term unit a) new E back)

    multiplied : times_form (term unit a) N ≡ E
    multiplied = finite_laws.same_list forms (times_form (term unit a) N) E
        (list-times_form (term unit a) (term_apart unit a apart) N ∙ ap (each_times (term unit a)) listed ∙ back)

times_none : (E : LinearForm) → times_form (constant (pos 0)) E ≡ no_form
times_none E =
    ap (λ φ. sum_of_entries (finite_laws.adder forms) φ E.list)
    (fun_ext (λ d. fun_ext (λ a. ap (form_term d) (ap (λ c. c *ᴾ a) ((term_additive terms).on_nil unit) ∙ nil_times polynomial_ring a)
    ∙ (term_additive forms).on_nil d)))
    ∙ sum_of_entries-nil (finite_laws.adder forms) E.list

times_one : (E : LinearForm) → times_form (constant (pos 1)) E ≡ E
times_one E = ap (λ φ. sum_of_entries (finite_laws.adder forms) φ E.list) (fun_ext (λ d. fun_ext (λ a. ap (form_term d) (one-*ᴾ a))))
    ∙ sum_of_terms forms E

divided_none : (g : ℕ) → divided_by g no_form ≡ no_form
unfolding divided_by finite.none finite.of
divided_none g = refl

-- by 0 only the empty form is divided
stays : (g : ℕ) → g ≤ 1 → (G : LinearForm) → DividesNumbers g (triples G) → divided_by g G ≡ G
stays zero le G h = let z : no_form ≡ G = sym (times_none (divided_by 0 G)) ∙ divided_by-back 0 G h in ap (divided_by 0) (sym z)
    ∙ divided_none 0 ∙ z
stays (suc zero) le G h = sym (times_one (divided_by 1 G)) ∙ divided_by-back 1 G h
stays (suc (suc g)) le G h = absurd (omega arith)

-- ---- all forms
each_divided : (g : ℕ) (Gs : List LinearForm) → DividesNumbers g (flat_map triples Gs) → Every (λ G. DividesNumbers g (triples G)) Gs
each_divided g [] h = tt
each_divided g (G ∷ Gs) h = (
  every-front _ (triples G) (flat_map triples Gs) h,
  each_divided g Gs
      (every-back _ (triples G) (flat_map triples Gs) h),
)

content_divides : (Gs : List LinearForm) → Every (λ G. DividesNumbers (content (flat_map triples Gs)) (triples G)) Gs
content_divides Gs = each_divided (content (flat_map triples Gs)) Gs
    (all_divided (content (flat_map triples Gs)) (flat_map triples Gs) (dvd_refl (content (flat_map triples Gs))))

all_stay : (g : ℕ) → g ≤ 1 → (Gs : List LinearForm) → Every (λ G. DividesNumbers g (triples G)) Gs → map (divided_by g) Gs ≡ Gs
all_stay g le [] h = refl
all_stay g le (G ∷ Gs) h = ap₂ ◌∷◌ (stays g le G h.0) (all_stay g le Gs h.1)

divisor_stays : (Gs : List LinearForm) → content (flat_map triples Gs) ≤ 1 → Gs ≡ without_divisor Gs
divisor_stays Gs le = sym (all_stay (content (flat_map triples Gs)) le Gs (content_divides Gs))

-- ---- the divisor as it is found
pub content_found : (d : ℤ) (list slice : List (Der × Monomial × ℤ)) (Fs Gs : List LinearForm) → d ≡ pos (content (triples_of slice))
    → slice ≡ list → triples_of list ≡ flat_map triples Fs → Fs ≡ Gs → d ≡ pos (content (flat_map triples Gs))
content_found d list slice Fs Gs h e f g = h ∙ ap (λ l. pos (content (triples_of l))) e
    ∙ ap (λ ts. pos (content ts)) (f ∙ ap (flat_map triples) g)

pub small_stays : (d : ℤ) (size : ℕ) (Gs : List LinearForm) → d ≡ pos (content (flat_map triples Gs)) → size ≡ unsigned_abs d → size ≤ 1
    → Gs ≡ without_divisor Gs
small_stays d size Gs h s le = divisor_stays Gs (small (content (flat_map triples Gs)) size (s ∙ ap unsigned_abs h) le)
  where
    small : (c s : ℕ) → s ≡ c → s ≤ 1 → c ≤ 1
    small c s e le = omega arith

pub found_divides : (d : ℤ) (Fs Gs : List LinearForm) → d ≡ pos (content (flat_map triples Gs)) → Fs ≡ Gs
    → Every (λ E. DividesNumbers (unsigned_abs d) (triples E)) Fs
found_divides d Fs Gs h e = subst₂ (λ g Es. Every (λ E. DividesNumbers g (triples E)) Es) (sym (ap unsigned_abs h)) (sym e)
    (content_divides Gs)
