-- The rules that add or put in normal forms: reduce, foreign and cross.
use Rattle.std.specs.Prelude.{◌≡◌, ℕ, ◌<◌, ltb, [], ◌∷◌, remove, length}
use Rattle.std.proofs.Common.{sym, ap, ap₂, subst, ◌∙◌, arith}
use Rattle.std.specs.List.{AllByRecursion as Every}
use Rattle.lie_math.specs.FiniteSumLaws.{plus_idl}
use Rattle.lie_math.specs.Counts.{Derivative, partials}
use Rattle.lie_math.specs.LinearForm.{LinearForm, no_form}
use Rattle.lie_math.specs.LinearSystem.{LinearSystem, IsSolution}
use Rattle.lie_math.specs.PartialDerivative.{partial}
use Rattle.lie_math.specs.Polynomial.{WholePolynomial, terms, 0ᴾ, negᴾ, ◌+ᴾ◌, ◌*ᴾ◌}
use Rattle.lie_math.specs.PolynomialRing.{polynomial_ring}
use Rattle.lie_math.proofs.PartialDerivative.{partial-0ᴾ}
use Rattle.lie_math.proofs.Ring.{times_nil}
use Rattle.lie_systems.specs.ValidSystems.{IsOwned, IsFormOf, IsValid}
use Rattle.lie_steps.specs.Derivatives.{derivative, missing}
use Rattle.lie_steps.specs.Equations.{equation, IsPlace, with_equations_at, with_equation}
use Rattle.lie_steps.specs.NormalForm.{IsNormalForm, combined, reduced_at, coefficient_at}
use Rattle.lie_steps.specs.Reduce.{AppliesReduce, IsReducedAt, AfterReduce}
use Rattle.lie_steps.proofs.NormalFormExists.{normal_form_exists}
use Rattle.lie_steps.specs.Foreign.{IsForeignBy, IsForeignAt, AppliesForeign, AfterForeign}
use Rattle.lie_steps.specs.Cross.{least_multiple, raised_to, IsCrossedAt, AppliesCross, AfterCross}
use Rattle.lie_steps.specs.Laws.{HaveSameFields, Keeps, IsFunctional, IsTotal}
use Rattle.lie_steps.specs.Tidying.{IsTidySystem}
use Rattle.lie_math.proofs.EveryElement.{every_picked}
use Rattle.lie_steps.proofs.Carry.{same_fields-trans}
use Rattle.lie_steps.proofs.Tidied.{IsSound, Solves, sound_of_valid, tidy_valid, tidy_same, tidy_unique, tidy_exists}
use Rattle.lie_steps.proofs.Derived.{derivative-form, derivatives-form, apply_derivative, apply_derivatives, all_listed, partials-zero}
use Rattle.lie_steps.proofs.EquationsAt.{at-sound, at-same, added-sound, added-same}
use Rattle.lie_math.proofs.FirstNumbers.{first_unique}
use Rattle.lie_steps.proofs.Combining.{combined_says, combined-form}
use Rattle.lie_steps.proofs.NormalForms.{normal_form_unique, lead_unique, normal-form, normal_forth, normal_back}

-- ---- reduce
module _ (n : ℕ) (S : LinearSystem) (sound : IsSound n S) (i : ℕ) (N : LinearForm) (a : IsReducedAt S i N) where
  parts : IsFormOf n S.unknowns (equation S i) × Every (IsFormOf n S.unknowns) (remove S.equations i)
  parts = every_picked (IsFormOf n S.unknowns) S.equations i no_form (a.applies).0 sound.equations

  pub reduced-sound : IsSound n (with_equations_at S i (N ∷ []))
  reduced-sound = at-sound n S sound i (a.applies).0 (N ∷ []) (normal-form n S.unknowns sound.rising (remove S.equations i) parts.1 a.normal parts.0, tt)

  pub reduced-same : HaveSameFields S (with_equations_at S i (N ∷ []))
  reduced-same = at-same S i (a.applies).0 (N ∷ [])
      (λ F o r z. (normal_forth n S.unknowns sound.rising (remove S.equations i) parts.1 F o r a.normal z, tt))
      (λ F o r z. normal_back n S.unknowns sound.rising (remove S.equations i) parts.1 F o r a.normal parts.0 z.0)

pub reduce_keeps : Keeps AfterReduce
reduce_keeps n S T i v (N, a, t) =
    let s = sound_of_valid n S v in (
      tidy_valid n (with_equations_at S i (N ∷ [])) T t (reduced-sound n S s i N a),
      same_fields-trans S (with_equations_at S i (N ∷ [])) T (reduced-same n S s i N a) (tidy_same (with_equations_at S i (N ∷ [])) T t),
    )

pub reduce_functional : IsFunctional AfterReduce
reduce_functional n S T U i v (N, a, t) (M, b, u) =
    tidy_unique (with_equations_at S i (M ∷ [])) T U (subst (λ x. IsTidySystem (with_equations_at S i (x ∷ [])) T) (normal_form_unique a.normal M b.normal) t) u

pub reduce_total : IsTotal AppliesReduce AfterReduce
reduce_total n S i v a =
    let p = every_picked (IsFormOf n S.unknowns) S.equations i no_form a.0 v.equations in
    let N = normal_form_exists n S.unknowns v.rising v.variables (remove S.equations i) p.1 (equation S i) p.0 in
    let t = tidy_exists (with_equations_at S i (N.0 ∷ [])) in
    (t.0, (N.0, record { applies = a; normal = N.1 }, t.1))

-- ---- foreign
module _ (n : ℕ) (S : LinearSystem) (sound : IsSound n S) (i v : ℕ) (N : LinearForm) (a : IsForeignAt S i v N) where
  foreign_form : IsFormOf n S.unknowns (equation S i)
  foreign_form = (every_picked (IsFormOf n S.unknowns) S.equations i no_form a.place sound.equations).0

  pub foreign-sound : IsSound n (with_equation S N)
  foreign-sound = added-sound n S sound N (normal-form n S.unknowns sound.rising S.equations sound.equations (a.foreign).normal (derivative-form n S.unknowns sound.rising v (equation S i) foreign_form))

  pub foreign-same : HaveSameFields S (with_equation S N)
  foreign-same = added-same S N (λ F h. normal_forth n S.unknowns sound.rising S.equations sound.equations F h.own h.solves (a.foreign).normal
      (apply_derivative F S.unknowns h.own v (equation S i) (all_listed n S.unknowns sound.rising (equation S i) foreign_form) ∙ ap (partial v) (every_picked (Solves F) S.equations i no_form a.place h.solves).0 ∙ partial-0ᴾ v))

pub foreign_keeps : Keeps AfterForeign
foreign_keeps n S T i x (v, N, a, t) =
    let s = sound_of_valid n S x in (
      tidy_valid n (with_equation S N) T t (foreign-sound n S s i v N a),
      same_fields-trans S (with_equation S N) T (foreign-same n S s i v N a) (tidy_same (with_equation S N) T t),
    )

pub foreign_functional : IsFunctional AfterForeign
foreign_functional n S T U i x (v, N, a, t) (w, M, b, u) =
    let variables : v ≡ w = first_unique (λ y. (R : LinearForm) × IsForeignBy S i y R) v w (N, a.foreign) (M, b.foreign) (λ y lt k. a.first y k.0 lt k.1) (λ y lt k. b.first y k.0 lt k.1) in
    let same : N ≡ M = normal_form_unique (a.foreign).normal M (subst (λ y. IsNormalForm S.unknowns S.equations (derivative S.unknowns y (equation S i)) M) (sym variables) (b.foreign).normal) in
    tidy_unique (with_equation S M) T U (subst (λ R. IsTidySystem (with_equation S R) T) same t) u

pub foreign_total : IsTotal AppliesForeign AfterForeign
foreign_total n S i w (v, N, a) = let t = tidy_exists (with_equation S N) in (t.0, (v, N, a, t.1))

-- ---- cross
module _ (n : ℕ) (S : LinearSystem) (sound : IsSound n S) (i j : ℕ) (N : LinearForm) (a : IsCrossedAt S i j N) where
  before : IsPlace S i
  before = let p : i < j = a.order in let q : j < length S.equations = a.place in omega arith

  form_at_place : (k : ℕ) → IsPlace S k → IsFormOf n S.unknowns (equation S k)
  form_at_place k p = (every_picked (IsFormOf n S.unknowns) S.equations k no_form p sound.equations).0

  abbrev top : Derivative
  top = least_multiple a.lead a.other

  raised_form : (k : ℕ) → IsPlace S k → (l : Derivative) → IsFormOf n S.unknowns (raised_to S k l (least_multiple a.lead a.other))
  raised_form k p l = derivatives-form n S.unknowns sound.rising (missing l.counts (least_multiple a.lead a.other).counts) (equation S k) (form_at_place k p)

  pub crossed-sound : IsSound n (with_equation S N)
  crossed-sound = added-sound n S sound N (normal-form n S.unknowns sound.rising S.equations sound.equations a.normal
      (combined-form top (raised_to S i a.lead top) (raised_to S j a.other top) (IsOwned S.unknowns) (λ v. ltb v n) (raised_form i before a.lead) (raised_form j a.place a.other)))

  raised_solves : (F : ℕ → WholePolynomial) → IsSolution F S → (k : ℕ) → IsPlace S k → (l : Derivative) → Solves F (raised_to S k l (least_multiple a.lead a.other))
  raised_solves F h k p l = apply_derivatives n S.unknowns sound.rising F h.own (missing l.counts (least_multiple a.lead a.other).counts) (equation S k) (form_at_place k p)
      ∙ ap (partials (missing l.counts (least_multiple a.lead a.other).counts)) (every_picked (Solves F) S.equations k no_form p h.solves).0 ∙ partials-zero (missing l.counts (least_multiple a.lead a.other).counts)

  pub crossed-same : HaveSameFields S (with_equation S N)
  crossed-same = added-same S N (λ F h. normal_forth n S.unknowns sound.rising S.equations sound.equations F h.own h.solves a.normal
      (combined_says top (raised_to S i a.lead top) (raised_to S j a.other top) F
      ∙ ap₂ (λ x y. reduced_at top (raised_to S i a.lead top) (raised_to S j a.other top) (coefficient_at (raised_to S j a.other top) top) *ᴾ x +ᴾ negᴾ (reduced_at top (raised_to S i a.lead top) (raised_to S j a.other top) (coefficient_at (raised_to S i a.lead top) top)) *ᴾ y)
      (raised_solves F h i before a.lead) (raised_solves F h j a.place a.other)
      ∙ ap₂ ◌+ᴾ◌ (times_nil polynomial_ring _) (times_nil polynomial_ring _) ∙ plus_idl terms 0ᴾ))

pub cross_keeps : (n : ℕ) (S T : LinearSystem) (i j : ℕ) → IsValid n S → AfterCross S i j T → IsValid n T × HaveSameFields S T
cross_keeps n S T i j x (N, a, t) =
    let s = sound_of_valid n S x in (
      tidy_valid n (with_equation S N) T t (crossed-sound n S s i j N a),
      same_fields-trans S (with_equation S N) T (crossed-same n S s i j N a) (tidy_same (with_equation S N) T t),
    )

pub cross_functional : (n : ℕ) (S T U : LinearSystem) (i j : ℕ) → IsValid n S → AfterCross S i j T → AfterCross S i j U → T ≡ U
cross_functional n S T U i j x (N, a, t) (M, b, u) =
    let leads : a.lead ≡ b.lead = lead_unique (equation S i) a.lead b.lead a.leads b.leads in
    let others : a.other ≡ b.other = lead_unique (equation S j) a.other b.other a.other_leads b.other_leads in
    let forms = ap₂ (λ l m. combined (least_multiple l m) (raised_to S i l (least_multiple l m)) (raised_to S j m (least_multiple l m))) leads others in
    let same : N ≡ M = normal_form_unique a.normal M (subst (λ R. IsNormalForm S.unknowns S.equations R M) (sym forms) b.normal) in
    tidy_unique (with_equation S M) T U (subst (λ R. IsTidySystem (with_equation S R) T) same t) u

pub cross_total : (S : LinearSystem) (i j : ℕ) → AppliesCross S i j → (T : LinearSystem) × AfterCross S i j T
cross_total S i j (N, a) = let t = tidy_exists (with_equation S N) in (t.0, (N, a, t.1))
