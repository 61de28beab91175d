-- The parts of the derivatives of an equation follow from it.
use Rattle.std.specs.Prelude.{◌≡◌, ℕ, suc, Bool, true, false, not, ltb, List, [], ◌∷◌}
use Rattle.std.proofs.Common.{refl, sym, ap, subst, ◌∙◌, true≢false, Less, Equal, Greater, Ordering}
use Rattle.std.specs.Fn.{iterate}
use Rattle.std.specs.List.{AllByRecursion as Every, list_any}
use Rattle.std.specs.Ordering.{ordering_reverse}
use Rattle.lie_math.specs.Canonical.{sum_of_entries-map}
use Rattle.lie_math.specs.Counts.{Derivative, derived}
use Rattle.lie_math.specs.LinearForm.{LinearForm, form_term, no_form, apply}
use Rattle.lie_math.specs.LinearSystem.{LinearSystem, Unknown}
use Rattle.lie_math.specs.Monomial.{Monomial}
use Rattle.lie_math.specs.PartialDerivative.{partial}
use Rattle.lie_math.specs.Polynomial.{WholePolynomial, polynomials, 0ᴾ, ◌*ᴾ◌}
use Rattle.lie_math.specs.Variables.{IsIn}
use Rattle.lie_math.proofs.Dependence.{free_of_partial}
use Rattle.lie_math.proofs.FiniteSum.{sum_of_entries-same}
use Rattle.lie_math.proofs.LinearForm.{apply_over, apply_term}
use Rattle.lie_systems.specs.EquationOrder.{equation_cmp}
use Rattle.lie_systems.specs.Normalised.{primitive}
use Rattle.lie_systems.specs.ValidSystems.{IsOwned, IsFormOf}
use Rattle.lie_systems.proofs.EquationOrder.{equation_cmp_total, equation_cmp-IsAntisymmetric}
use Rattle.lie_systems.proofs.Primitive.{primitive_same_solutions}
use Rattle.lie_steps.specs.Equations.{equation, depends, with_equation}
use Rattle.lie_steps.specs.Isolate.{free_degree, freed, outer, IsIsolatedBy, IsIsolatedAt, AppliesIsolate, AfterIsolate}
use Rattle.lie_steps.specs.Laws.{HaveSameFields, Keeps, IsFunctional, IsTotal}
use Rattle.lie_steps.specs.Parts.{part, polynomial_part}
use Rattle.lie_steps.specs.Tidying.{IsTidySystem}
use Rattle.lie_math.proofs.EveryElement.{every_picked, every_both, every-weaken, every_contained, every_of_contained}
use Rattle.lie_math.proofs.FormEntries.{each-coefficient}
use Rattle.lie_steps.proofs.FormTriples.{each-primitive}
use Rattle.lie_steps.proofs.Carry.{same_fields-trans}
use Rattle.lie_steps.proofs.Tidied.{IsSound, Solves, sound_of_valid, tidy_valid, tidy_same, tidy_unique, tidy_exists}
use Rattle.lie_math.proofs.Tests.{or_false}
use Rattle.lie_steps.proofs.Unknowns.{IsOwn, independent_free}
use Rattle.lie_steps.proofs.Derived.{free_partials, iterated-form, apply_iterated}
use Rattle.lie_steps.proofs.EquationsAt.{added-sound, added-same}
use Rattle.lie_math.proofs.FirstNumbers.{first_unique}
use Rattle.lie_steps.proofs.FreshPowers.{iterate-0ᴾ}
use Rattle.lie_steps.proofs.PartCoefficients.{part-none, part-plus, part-out, in-part}

-- ---- parts at functions
-- no unknown of the form depends on an outer variable
outer_independent : (us : List Unknown) (w : ℕ) (es : List (Derivative × WholePolynomial)) → not (list_any (λ (e : Derivative × WholePolynomial). depends us (e.0).unknown w) es) ≡ true → Every (λ (e : Derivative × WholePolynomial). depends us (e.0).unknown w ≡ false) es
outer_independent us w [] h = tt
outer_independent us w (e ∷ es) h = let p = or_false (depends us (e.0).unknown w) _ (not_false _ h) in (p.0, outer_independent us w es (ap not p.1))
  where
    not_false : (b : Bool) → not b ≡ true → b ≡ false
    not_false true h = absurd (true≢false (sym h))
    not_false false h = refl

module _ (n : ℕ) (us : List Unknown) (F : ℕ → WholePolynomial) (own : Every (IsOwn F) us) (D : LinearForm) (form : IsFormOf n us D) where
  inner_at : (w : ℕ) → outer us D w ≡ true → Every (λ (e : Derivative × WholePolynomial). partial w (derived F e.0) ≡ 0ᴾ) D.list
  inner_at w h = every_both (λ (e : Derivative × WholePolynomial). IsOwned us e.0 × IsIn (λ v. ltb v n) e.1) (λ (e : Derivative × WholePolynomial). depends us (e.0).unknown w ≡ false) _ (λ e o z. free_partials w (e.0).counts (F (e.0).unknown) (ap (λ f. partial w (F f)) (sym (o.0).number) ∙ independent_free us F (o.0).unknown w own (o.0).listed (ap (λ f. depends us f w) (o.0).number ∙ z)))
      D.list form (outer_independent us w D.list h)

  -- the functions are in the inner variables
  inner_entries : Every (λ (e : Derivative × WholePolynomial). IsIn (λ v. not (outer us D v)) (derived F e.0)) D.list
  inner_entries = every_of_contained _ D.list (λ e c w out. free_of_partial w (derived F e.0) (every_contained (λ (e : Derivative × WholePolynomial). partial w (derived F e.0) ≡ 0ᴾ) D.list e (inner_at w (not_true _ out)) c))
    where
      not_true : (b : Bool) → not b ≡ false → b ≡ true
      not_true true h = refl
      not_true false h = absurd (true≢false h)

  pub apply-part : (μ : Monomial) → apply F (part (outer us D) μ D) ≡ polynomial_part (outer us D) μ (apply F D)
  unfolding apply
  apply-part μ =
      apply_over F (λ d a. form_term d (polynomial_part (outer us D) μ a)) D
      ∙ sum_of_entries-same polynomials _ (λ d a. polynomial_part (outer us D) μ (a *ᴾ derived F d)) D.list
      (every-weaken (λ (e : Derivative × WholePolynomial). IsIn (λ v. not (outer us D v)) (derived F e.0)) _ (λ e k. apply_term F e.0 (polynomial_part (outer us D) μ e.1) ∙ sym (part-out (outer us D) μ e.1 (derived F e.0) k)) D.list inner_entries)
      ∙ sym (sum_of_entries-map polynomials polynomials (polynomial_part (outer us D) μ) (part-none (outer us D) μ) (part-plus (outer us D) μ) (λ d a. a *ᴾ derived F d) D.list)

module _ (n : ℕ) (S : LinearSystem) (sound : IsSound n S) (i v : ℕ) (P : LinearForm) (a : IsIsolatedAt S i v P) where
  derived_form : IsFormOf n S.unknowns (freed S.unknowns (equation S i) v)
  derived_form = iterated-form n S.unknowns sound.rising v (suc (free_degree S.unknowns (equation S i) v)) (equation S i) (every_picked (IsFormOf n S.unknowns) S.equations i no_form a.place sound.equations).0

  part_form : IsFormOf n S.unknowns P
  part_form = subst (IsFormOf n S.unknowns) (sym ((a.isolated).part).is)
      (each-coefficient (IsOwned S.unknowns) (λ x. ltb x n) (polynomial_part (outer S.unknowns (freed S.unknowns (equation S i) v)) ((a.isolated).part).monomial)
      (λ p h. in-part (outer S.unknowns (freed S.unknowns (equation S i) v)) ((a.isolated).part).monomial (λ x. ltb x n) p h) (freed S.unknowns (equation S i) v) derived_form)

  pub isolated-sound : IsSound n (with_equation S (primitive P))
  isolated-sound = added-sound n S sound (primitive P) (each-primitive (IsOwned S.unknowns) (λ x. ltb x n) P part_form)

  pub isolated-same : HaveSameFields S (with_equation S (primitive P))
  isolated-same = added-same S (primitive P) (λ F h.
      let k = suc (free_degree S.unknowns (equation S i) v) in
      (primitive_same_solutions F P).0
      (ap (apply F) ((a.isolated).part).is ∙ apply-part n S.unknowns F h.own (freed S.unknowns (equation S i) v) derived_form ((a.isolated).part).monomial
      ∙ ap (polynomial_part (outer S.unknowns (freed S.unknowns (equation S i) v)) ((a.isolated).part).monomial)
      (apply_iterated n S.unknowns sound.rising F h.own v k (equation S i) (every_picked (IsFormOf n S.unknowns) S.equations i no_form a.place sound.equations).0
      ∙ ap (iterate (partial v) k) (every_picked (Solves F) S.equations i no_form a.place h.solves).0 ∙ iterate-0ᴾ v k)
      ∙ part-none (outer S.unknowns (freed S.unknowns (equation S i) v)) ((a.isolated).part).monomial))

pub isolate_keeps : Keeps AfterIsolate
isolate_keeps n S T i x (v, P, a, t) =
    let s = sound_of_valid n S x in (
      tidy_valid n (with_equation S (primitive P)) T t (isolated-sound n S s i v P a),
      same_fields-trans S (with_equation S (primitive P)) T (isolated-same n S s i v P a) (tidy_same (with_equation S (primitive P)) T t),
    )

-- ---- it is one
first_part : (us : List Unknown) (E : LinearForm) (v : ℕ) (P Q : LinearForm) → IsIsolatedBy us E v P → IsIsolatedBy us E v Q → P ≡ Q
first_part us E v P Q a b = go (equation_cmp P Q) refl
  where
    go : (r : Ordering) → equation_cmp P Q ≡ r → P ≡ Q
    go Less k = absurd (b.first P a.part k)
    go Equal k = equation_cmp-IsAntisymmetric P Q k
    go Greater k = absurd (a.first Q b.part (equation_cmp_total.antisymm Q P ∙ ap ordering_reverse k))

pub isolate_functional : IsFunctional AfterIsolate
isolate_functional n S T U i x (v, P, a, t) (w, Q, b, u) =
    let variables : v ≡ w = first_unique (λ y. (R : LinearForm) × IsIsolatedBy S.unknowns (equation S i) y R) v w (P, a.isolated) (Q, b.isolated) (λ y lt k. a.first y k.0 lt k.1) (λ y lt k. b.first y k.0 lt k.1) in
    let parts : P ≡ Q = first_part S.unknowns (equation S i) w P Q (subst (λ y. IsIsolatedBy S.unknowns (equation S i) y P) variables a.isolated) b.isolated in
    tidy_unique (with_equation S (primitive Q)) T U (subst (λ R. IsTidySystem (with_equation S (primitive R)) T) parts t) u

pub isolate_total : IsTotal AppliesIsolate AfterIsolate
isolate_total n S i x (v, P, a) = let t = tidy_exists (with_equation S (primitive P)) in (t.0, (v, P, a, t.1))
