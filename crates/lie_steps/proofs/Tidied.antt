-- Tidying: there is one tidied list, it has the same solutions, and a system stays valid by it.
use Rattle.std.specs.Prelude.{◌≡◌, ℕ, ◌<◌, Bool, true, false, ◌⊎◌, List, [], ◌∷◌, map, length, ltb}
use Rattle.std.proofs.Common.{refl, sym, ap, subst, ◌∙◌, inl, inr}
use Rattle.std.specs.List.{AllByRecursion as Every, Contains}
use Rattle.std.specs.List.Sorted.{IsStrictlySortedBy}
use Rattle.std.specs.Ordering.{nat_cmp, on}
use Rattle.lie_math.specs.FiniteSum.{is_none, none, of}
use Rattle.lie_math.specs.FiniteSumLaws.{none_of_is, is_none_none}
use Rattle.lie_math.specs.Polynomial.{WholePolynomial, 0ᴾ}
use Rattle.lie_math.specs.LinearForm.{LinearForm, forms, no_form, apply}
use Rattle.lie_math.specs.LinearSystem.{LinearSystem, Unknown, has}
use Rattle.lie_math.proofs.LinearForm.{apply_none}
use Rattle.lie_systems.specs.EquationOrder.{equation_cmp}
use Rattle.lie_systems.specs.Normalised.{primitive, IsNormalised}
use Rattle.lie_systems.specs.ValidSystems.{IsFormOf, HasVariablesBelow, IsOwned, IsValid}
use Rattle.lie_systems.proofs.EquationOrder.{equation_cmp_total, equation_cmp-IsAntisymmetric}
use Rattle.lie_systems.proofs.Primitive.{primitive_normalised, primitive_same_solutions}
use Rattle.lie_steps.specs.Tidying.{IsTidied, IsTidySystem}
use Rattle.lie_steps.specs.Laws.{HaveSameFields}
use Rattle.lie_math.proofs.EveryElement.{every_contained, every_of_contained}
use Rattle.lie_math.proofs.ContainedElements.{contains-map, contained_map, contained_cons, contains_first, contains_later, contains_nothing}
use Rattle.lie_math.proofs.SortedLists.{sorted_unique, insert}
use Rattle.lie_steps.proofs.FormTriples.{each-primitive}
use Rattle.lie_steps.proofs.Carry.{same_fields, kept}
use Rattle.std.proofs.Common.{true≢false}
use Rattle.lie_math.specs.Variables.{IsIn}

abbrev pub Solves : (ℕ → WholePolynomial) → LinearForm → Type 0
Solves F E = apply F E ≡ 0ᴾ

-- ---- there is one
pub tidied_unique : (Es Ns Ms : List LinearForm) → IsTidied Es Ns → IsTidied Es Ms → Ns ≡ Ms
tidied_unique Es Ns Ms h g = sorted_unique equation_cmp equation_cmp_total equation_cmp-IsAntisymmetric Ns Ms h.ordered g.ordered (λ z. (λ c. (g.made z).1 ((h.made z).0 c), λ c. (h.made z).1 ((g.made z).0 c)))

pub tidy_unique : (S T U : LinearSystem) → IsTidySystem S T → IsTidySystem S U → T ≡ U
tidy_unique S T U h g = λ i. record {
  unknowns = (h.unknowns ∙ sym g.unknowns) i;
  equations = (tidied_unique S.equations T.equations U.equations h.equations g.equations) i;
  general = (h.general ∙ sym g.general) i;
  next = (h.next ∙ sym g.next) i;
}

pub tidied_exists : (Es : List LinearForm) → (Ns : List LinearForm) × IsTidied Es Ns
unfolding IsStrictlySortedBy
tidied_exists [] = ([], record { ordered = tt; made = λ N. (λ c. absurd (contains_nothing N c), λ c. c.0) })
tidied_exists (E ∷ Es) = go (is_none forms (primitive E)) refl (tidied_exists Es)
  where
    go : (t : Bool) → is_none forms (primitive E) ≡ t → (Ns : List LinearForm) × IsTidied Es Ns → (Ns : List LinearForm) × IsTidied (E ∷ Es) Ns
    go true e h = (
      h.0,
      record {
        ordered = (h.1).ordered;
        made = λ N. (λ c. let m = ((h.1).made N).0 c in (contains_later (primitive E) (map primitive Es) N m.0, m.1), λ c. ((h.1).made N).1 (one N c.1 (contained_cons (primitive E) (map primitive Es) N c.0), c.1));
      },
    )
      where
        one : (N : LinearForm) → ¬ (N ≡ no_form) → (primitive E ≡ N) ⊎ Contains (map primitive Es) N → Contains (map primitive Es) N
        one N n (inl f) = absurd (n (sym f ∙ none_of_is forms (primitive E) e))
        one N n (inr k) = k
    go false e h =
        let i = insert equation_cmp equation_cmp_total equation_cmp-IsAntisymmetric (primitive E) h.0 (h.1).ordered in
        (i.0, record { ordered = (i.1).sorted; made = λ N. (λ c. down N (((i.1).elements N).0 c), λ c. ((i.1).elements N).1 (up N c.1 (contained_cons (primitive E) (map primitive Es) N c.0))) })
      where
        some : ¬ (primitive E ≡ no_form)
        some z = true≢false (sym (ap (is_none forms) z ∙ is_none_none forms) ∙ e)

        down : (N : LinearForm) → (primitive E ≡ N) ⊎ Contains h.0 N → Contains (primitive E ∷ map primitive Es) N × ¬ (N ≡ no_form)
        down N (inl f) = (subst (Contains (primitive E ∷ map primitive Es)) f (contains_first (primitive E) (map primitive Es)), λ z. some (f ∙ z))
        down N (inr k) = let m = ((h.1).made N).0 k in (contains_later (primitive E) (map primitive Es) N m.0, m.1)

        up : (N : LinearForm) → ¬ (N ≡ no_form) → (primitive E ≡ N) ⊎ Contains (map primitive Es) N → (primitive E ≡ N) ⊎ Contains h.0 N
        up N n (inl f) = inl f
        up N n (inr k) = inr (((h.1).made N).1 (k, n))

pub tidy_exists : (S : LinearSystem) → (T : LinearSystem) × IsTidySystem S T
tidy_exists S = let e = tidied_exists S.equations in (record S { equations = e.0 }, record { unknowns = refl; equations = e.1; general = refl; next = refl })

-- ---- the same solutions
module _ (F : ℕ → WholePolynomial) (Es Ns : List LinearForm) (h : IsTidied Es Ns) where
  pub tidied_forth : Every (Solves F) Es → Every (Solves F) Ns
  tidied_forth s = every_of_contained (Solves F) Ns (λ N c. let m = contained_map primitive Es N ((h.made N).0 c).0 in subst (Solves F) m.2 ((primitive_same_solutions F m.0).0 (every_contained (Solves F) Es m.0 s m.1)))

  pub tidied_back : Every (Solves F) Ns → Every (Solves F) Es
  tidied_back s = every_of_contained (Solves F) Es (λ E c. (primitive_same_solutions F E).1 (one E c (is_none forms (primitive E)) refl))
    where
      one : (E : LinearForm) → Contains Es E → (t : Bool) → is_none forms (primitive E) ≡ t → Solves F (primitive E)
      one E c true e = ap (apply F) (none_of_is forms (primitive E) e) ∙ apply_none F
      one E c false e = every_contained (Solves F) Ns (primitive E) s ((h.made (primitive E)).1 (contains-map primitive Es E c, λ z. true≢false (sym (ap (is_none forms) z ∙ is_none_none forms) ∙ e)))

abbrev IsOwn : (ℕ → WholePolynomial) → Unknown → Type 0
IsOwn F f = IsIn (has f) (F f.number)

pub tidy_same : (S T : LinearSystem) → IsTidySystem S T → HaveSameFields S T
tidy_same S T h = same_fields S T
    (λ F s. kept S T F h.general (record { own = subst (Every (IsOwn F)) (sym h.unknowns) s.own; solves = tidied_forth F S.equations T.equations h.equations s.solves }))
    (λ F s. kept T S F (sym h.general) (record { own = subst (Every (IsOwn F)) h.unknowns s.own; solves = tidied_back F S.equations T.equations h.equations s.solves }))

-- ---- validity
primitive-none : primitive no_form ≡ no_form
unfolding primitive none of
primitive-none = refl

-- valid but for the order of the equations, and that they are normalised
pub record IsSound (n : ℕ) (S : LinearSystem) : Type 0 where
  pub rising : IsStrictlySortedBy (on (λ (f : Unknown). f.number) nat_cmp) S.unknowns
  pub below : Every (λ (f : Unknown). f.number < S.next) S.unknowns
  pub variables : Every (HasVariablesBelow n) S.unknowns
  pub equations : Every (IsFormOf n S.unknowns) S.equations
  pub general : Every (IsFormOf n S.unknowns) S.general
  pub components : length S.general ≡ n

pub sound_of_valid : (n : ℕ) (S : LinearSystem) → IsValid n S → IsSound n S
sound_of_valid n S h = record { rising = h.rising; below = h.below; variables = h.variables; equations = h.equations; general = h.general; components = h.components }

pub tidy_valid : (n : ℕ) (S T : LinearSystem) → IsTidySystem S T → IsSound n S → IsValid n T
tidy_valid n S T h s = record {
  rising = subst (IsStrictlySortedBy (on (λ (f : Unknown). f.number) nat_cmp)) (sym h.unknowns) s.rising;
  below = subst (λ k. Every (λ (f : Unknown). f.number < k) T.unknowns) (sym h.next) (subst (Every (λ (f : Unknown). f.number < S.next)) (sym h.unknowns) s.below);
  variables = subst (Every (HasVariablesBelow n)) (sym h.unknowns) s.variables;
  equations = subst (λ us. Every (IsFormOf n us) T.equations) (sym h.unknowns) (every_of_contained (IsFormOf n S.unknowns) T.equations (λ N c. form N (contained_map primitive S.equations N (((h.equations).made N).0 c).0)));
  normalised = every_of_contained IsNormalised T.equations (λ N c. let m = ((h.equations).made N).0 c in normal N m.1 (contained_map primitive S.equations N m.0));
  ordered = (h.equations).ordered;
  general = subst (λ us. Every (IsFormOf n us) T.general) (sym h.unknowns) (subst (Every (IsFormOf n S.unknowns)) (sym h.general) s.general);
  components = ap length h.general ∙ s.components;
}
  where
    form : (N : LinearForm) → (E : LinearForm) × Contains S.equations E × (primitive E ≡ N) → IsFormOf n S.unknowns N
    form N m = subst (IsFormOf n S.unknowns) m.2 (each-primitive (IsOwned S.unknowns) (λ v. ltb v n) m.0 (every_contained (IsFormOf n S.unknowns) S.equations m.0 s.equations m.1))

    normal : (N : LinearForm) → ¬ (N ≡ no_form) → (E : LinearForm) × Contains S.equations E × (primitive E ≡ N) → IsNormalised N
    normal N n m = subst IsNormalised m.2 (primitive_normalised m.0 (λ z. n (sym m.2 ∙ ap primitive z ∙ primitive-none)))
