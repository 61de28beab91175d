-- The general forms divided by the greatest common divisor of their numbers: the system stays sound and gives the same fields.
use Rattle.std.specs.Prelude.{◌≡◌, ℕ, zero, suc, ◌<◌, Bool, true, false, cond, List, [], ◌∷◌, pos, ltb, map, length, get_or, ◌≤◌}
use Rattle.std.proofs.Common.{refl, sym, ap, ap₂, subst, ◌∙◌, arith}
use Rattle.std.specs.List.{AllByRecursion as Every, list_any, flat_map}
use Rattle.std.proofs.lemmas.Nat.Gcd.{dvd_refl}
use Rattle.lie_math.specs.FiniteSum.{none, of}
use Rattle.lie_math.specs.Integer.{*ℤ-idl}
use Rattle.lie_math.specs.Monomial.{unit, exponent}
use Rattle.lie_math.specs.Polynomial.{WholePolynomial, constant, terms, ◌*ᴾ◌}
use Rattle.lie_math.specs.PolynomialRing.{polynomial_ring, one-*ᴾ}
use Rattle.lie_math.specs.FiniteSumLaws.{term_additive}
use Rattle.lie_math.specs.FiniteSumLaws as finite_laws
use Rattle.lie_math.specs.SortedSum.{sum_of_entries}
use Rattle.lie_math.specs.Canonical.{sum_of_entries-nil}
use mathlib.Core.Path.{fun_ext}
use Rattle.lie_math.specs.LinearForm.{LinearForm, forms, no_form, form_term, times_form, apply}
use Rattle.lie_math.specs.LinearSystem.{LinearSystem, IsSolution}
use Rattle.lie_math.proofs.LinearForm.{apply_none, apply_times}
use Rattle.lie_math.proofs.Ring.{times_nil, nil_times}
use Rattle.lie_math.proofs.Variables.{in-*ᴾ, in-constant}
use Rattle.lie_systems.specs.Laws.{DividesNumbers, DividesMonomials}
use Rattle.lie_systems.specs.Triples.{Triple, triples, sum_of_triples}
use Rattle.lie_systems.specs.Normalised.{content, divided}
use Rattle.lie_systems.specs.ValidSystems.{IsOwned, IsFormOf}
use Rattle.lie_systems.proofs.Divisibility.{all_divided, divided_back}
use Rattle.lie_systems.proofs.Exponents.{exponent-unit}
use Rattle.lie_systems.proofs.Triples.{times_triple, times_form-sum, sum_of_triples-triples}
use Rattle.lie_steps.specs.Equations.{mentions}
use Rattle.lie_steps.specs.Replacement.{put_in, divided_by, without_divisor, unknowns_after, eliminated, eliminated_divided}
use Rattle.lie_steps.specs.Laws.{HaveSameFields}
use Rattle.lie_math.specs.LinearSystem.{Unknown, has}
use Rattle.lie_math.proofs.EveryElement.{every-front, every-back, every-map, every-weaken}
use Rattle.lie_steps.proofs.FormTriples.{triples-each, each-triples, divided_has}
use Rattle.lie_steps.proofs.Carry.{same_fields, kept, general_at}
use Rattle.lie_steps.proofs.Tidied.{IsSound, Solves}
use Rattle.lie_steps.proofs.Unknowns.{IsOwn}
use Rattle.lie_steps.proofs.PutIn.{scaled, apply-scaled}
use Rattle.lie_steps.specs.Replacement.{with_replaced}

-- ---- one form
unit_divides : (ts : List Triple) → DividesMonomials unit ts
unit_divides [] = tt
unit_divides (t ∷ ts) = ((λ v. subst (λ e. ◌≤◌ e (exponent t.1 v)) (sym (exponent-unit v)) (omega arith)), unit_divides ts)

-- g times the divided form is the form
pub divided_by-back : (g : ℕ) (G : LinearForm) → DividesNumbers g (triples G) → times_form (constant (pos g)) (divided_by g G) ≡ G
unfolding divided_by
divided_by-back g G h =
    times_form-sum unit (pos g) (map (divided (pos 1) g unit) (triples G))
    ∙ ap sum_of_triples (ap (λ c. map (times_triple unit c) (map (divided (pos 1) g unit) (triples G))) (sym (*ℤ-idl (pos g))) ∙ divided_back (pos 1) g unit (triples G) refl h (unit_divides (triples G)))
    ∙ sum_of_triples-triples G

divided_by-none : (g : ℕ) → divided_by g no_form ≡ no_form
unfolding divided_by none of
divided_by-none g = refl

-- 0 times a form
times_zero : (E : LinearForm) → times_form (constant (pos 0)) E ≡ no_form
times_zero E =
    ap (λ φ. sum_of_entries (finite_laws.adder forms) φ E.list) (fun_ext (λ d. fun_ext (λ a. ap (form_term d) (ap (λ c. c *ᴾ a) ((term_additive terms).on_nil unit) ∙ nil_times polynomial_ring a) ∙ (term_additive forms).on_nil d)))
    ∙ sum_of_entries-nil (finite_laws.adder forms) E.list

-- by 0 only the empty form is divided, and it stays
divided_by-zero : (G : LinearForm) → DividesNumbers 0 (triples G) → divided_by 0 G ≡ G
divided_by-zero G h =
    let z : no_form ≡ G = sym (times_zero (divided_by 0 G)) ∙ divided_by-back 0 G h in
    ap (divided_by 0) (sym z) ∙ divided_by-none 0 ∙ z

-- ---- all forms
all_divide : (g : ℕ) (Gs : List LinearForm) → DividesNumbers g (flat_map triples Gs) → Every (λ G. DividesNumbers g (triples G)) Gs
all_divide g [] h = tt
all_divide g (G ∷ Gs) h = (every-front _ (triples G) (flat_map triples Gs) h, all_divide g Gs (every-back _ (triples G) (flat_map triples Gs) h))

content_divides : (Gs : List LinearForm) → Every (λ G. DividesNumbers (content (flat_map triples Gs)) (triples G)) Gs
content_divides Gs = all_divide (content (flat_map triples Gs)) Gs (all_divided (content (flat_map triples Gs)) (flat_map triples Gs) (dvd_refl (content (flat_map triples Gs))))

divided_at : (F : ℕ → WholePolynomial) (g : ℕ) (Gs : List LinearForm) (s : ℕ) → Every (λ G. DividesNumbers g (triples G)) Gs → apply F (get_or Gs s no_form) ≡ constant (pos g) *ᴾ apply F (get_or (map (divided_by g) Gs) s no_form)
divided_at F g [] s h = apply_none F ∙ sym (ap (λ p. constant (pos g) *ᴾ p) (apply_none F) ∙ times_nil polynomial_ring (constant (pos g)))
divided_at F g (G ∷ Gs) zero h = ap (apply F) (sym (divided_by-back g G h.0)) ∙ apply_times F (constant (pos g)) (divided_by g G)
divided_at F g (G ∷ Gs) (suc s) h = divided_at F g Gs s h.1

zero_stays : (Gs : List LinearForm) → Every (λ G. DividesNumbers 0 (triples G)) Gs → map (divided_by 0) Gs ≡ Gs
zero_stays [] h = refl
zero_stays (G ∷ Gs) h = ap₂ ◌∷◌ (divided_by-zero G h.0) (zero_stays Gs h.1)

-- ---- the system
abbrev pub with_general : LinearSystem → List LinearForm → LinearSystem
with_general S Gs = record S { general = Gs }

scaled_solution : (S : LinearSystem) (c : ℕ) (F : ℕ → WholePolynomial) → IsSolution F S → IsSolution (scaled (pos c) F) S
scaled_solution S c F h = record {
  own = every-weaken (IsOwn F) (IsOwn (scaled (pos c) F)) (λ u k. in-*ᴾ (has u) (constant (pos c)) (F u.number) (in-constant (has u) (pos c)) k) S.unknowns h.own;
  solves = every-weaken (Solves F) (Solves (scaled (pos c) F)) (λ E z. apply-scaled (pos c) F E ∙ ap (λ p. constant (pos c) *ᴾ p) z ∙ times_nil polynomial_ring (constant (pos c))) S.equations h.solves;
}

module _ (S : LinearSystem) (g : ℕ) (h : Every (λ G. DividesNumbers g (triples G)) S.general) where
  by_positive : 0 < g → HaveSameFields S (with_general S (map (divided_by g) S.general))
  by_positive p = same_fields S (with_general S (map (divided_by g) S.general))
      (λ F k. record {
        solution = scaled (pos g) F;
        solves = let r = scaled_solution S g F k in record { own = r.own; solves = r.solves };
        factor = 1;
        positive = omega arith;
        same = λ s. apply-scaled (pos g) F (get_or (map (divided_by g) S.general) s no_form) ∙ sym (divided_at F g S.general s h) ∙ sym (one-*ᴾ (apply F (general_at S s)));
      })
      (λ F k. record {
        solution = F;
        solves = record { own = k.own; solves = k.solves };
        factor = g;
        positive = p;
        same = λ s. divided_at F g S.general s h;
      })

  by_zero : g ≡ 0 → HaveSameFields S (with_general S (map (divided_by g) S.general))
  by_zero e =
      let same : map (divided_by g) S.general ≡ S.general = ap (λ x. map (divided_by x) S.general) e ∙ zero_stays S.general (subst (λ x. Every (λ G. DividesNumbers x (triples G)) S.general) e h) in
      same_fields S (with_general S (map (divided_by g) S.general))
      (λ F k. kept S (with_general S (map (divided_by g) S.general)) F same (record { own = k.own; solves = k.solves }))
      (λ F k. kept (with_general S (map (divided_by g) S.general)) S F (sym same) (record { own = k.own; solves = k.solves }))

  pub divided-same : HaveSameFields S (with_general S (map (divided_by g) S.general))
  divided-same = go g refl
    where
      go : (x : ℕ) → g ≡ x → HaveSameFields S (with_general S (map (divided_by g) S.general))
      go zero e = by_zero e
      go (suc x) e = by_positive (omega arith)

divided_form : (n : ℕ) (us : List Unknown) (g : ℕ) (G : LinearForm) → IsFormOf n us G → IsFormOf n us (divided_by g G)
unfolding divided_by
divided_form n us g G h = each-triples (IsOwned us) (λ v. ltb v n) _ (divided_has (IsOwned us) (λ v. ltb v n) (pos 1) g unit (triples G) (triples-each (IsOwned us) (λ v. ltb v n) G h))

length-divided : (g : ℕ) (Gs : List LinearForm) → length (map (divided_by g) Gs) ≡ length Gs
length-divided g [] = refl
length-divided g (G ∷ Gs) = ap suc (length-divided g Gs)

-- ---- after a replacement
module _ (n : ℕ) (S : LinearSystem) (i f : ℕ) (W : LinearForm) (L : ℕ) (fresh : List Unknown) where
  pub eliminated_divided-same : HaveSameFields (eliminated S i f W L fresh) (eliminated_divided S i f W L fresh)
  eliminated_divided-same = go (list_any (mentions f) S.general)
    where
      Hs : List LinearForm
      Hs = map (put_in (unknowns_after S f fresh) f W L) S.general

      go : (t : Bool) → HaveSameFields (with_replaced S i f W L fresh (cond t Hs S.general)) (with_replaced S i f W L fresh (cond t (without_divisor Hs) S.general))
      go true = divided-same (with_replaced S i f W L fresh Hs) (content (flat_map triples Hs)) (content_divides Hs)
      go false = λ V. (λ x. x, λ x. x)

  pub eliminated_divided-sound : IsSound n (eliminated S i f W L fresh) → IsSound n (eliminated_divided S i f W L fresh)
  eliminated_divided-sound h = record {
    rising = h.rising;
    below = h.below;
    variables = h.variables;
    equations = h.equations;
    general = general (list_any (mentions f) S.general) h.general;
    components = components (list_any (mentions f) S.general) h.components;
  }
    where
      Hs : List LinearForm
      Hs = map (put_in (unknowns_after S f fresh) f W L) S.general

      general : (t : Bool) → Every (IsFormOf n (unknowns_after S f fresh)) (cond t Hs S.general) → Every (IsFormOf n (unknowns_after S f fresh)) (cond t (without_divisor Hs) S.general)
      general true k = every-map (IsFormOf n (unknowns_after S f fresh)) (divided_by (content (flat_map triples Hs))) Hs (every-weaken (IsFormOf n (unknowns_after S f fresh)) _ (λ G x. divided_form n (unknowns_after S f fresh) (content (flat_map triples Hs)) G x) Hs k)
      general false k = k

      components : (t : Bool) → length (cond t Hs S.general) ≡ n → length (cond t (without_divisor Hs) S.general) ≡ n
      components true k = length-divided (content (flat_map triples Hs)) Hs ∙ k
      components false k = k
