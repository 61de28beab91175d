-- What is added to normalised equations in order tidies them.
use Rattle.std.specs.Prelude.{◌≡◌, ◌<◌, ◌⊎◌, List, ◌++◌, map, length}
use Rattle.std.proofs.Common.{refl, sym, ap, subst, ◌∙◌, inl, inr}
use Rattle.std.specs.List.{AllByRecursion as Every, Any, Contains}
use Rattle.std.proofs.lemmas.List.Elements.{Contains-append_left, Contains-append_right, Contains-append_cases}
use Rattle.lie_math.proofs.EveryElement.{every_contained, every_of_contained}
use Rattle.lie_math.proofs.ContainedElements.{contains-map, contained_map}
use Rattle.std.proofs.Common.{Ordering, is_eq, cond, pos, arith}
use Rattle.std.specs.Cmp.{tied_itself}
use Rattle.lie_math.specs.Counts.{Derivative}
use Rattle.lie_math.specs.DerivativeOrder.{derivative_cmp_total}
use Rattle.lie_math.specs.FiniteSum as finite
use Rattle.lie_math.specs.FiniteSumLaws.{value-term, value-none}
use Rattle.lie_math.specs.LinearForm.{forms, LinearForm, no_form}
use Rattle.lie_math.specs.Polynomial.{constant, 0ᴾ}
use Rattle.lie_math.proofs.Limits.{one_apart}
use Rattle.lie_systems.proofs.Primitive.{primitive_normalised}
use Rattle.lie_systems.proofs.Unique.{primitive-normalised}
use Rattle.lie_systems.specs.Normalised.{derivative_alone, primitive, IsNormalised}
use Rattle.lie_steps.specs.Tidying.{IsTidied}
use Rattle.lie_lin.specs.EquationLists.{Adds, IsEquationOf}

alone_apart : (d : Derivative) → ¬ (derivative_alone d ≡ no_form)
alone_apart d z = one_apart (sym (value-term forms d (constant (pos 1)) d ∙ ap (λ (r : Ordering). cond (is_eq r) (constant (pos 1)) 0ᴾ) (tied_itself derivative_cmp_total d)) ∙ ap (λ G. finite.value forms G d) z ∙ value-none forms d)

none_short : length (no_form).list ≡ 0
unfolding finite.none finite.of
none_short = refl

pub normalised_apart : (E : LinearForm) → IsNormalised E → ¬ (E ≡ no_form)
normalised_apart E (inl p) z = alone_apart p.0 (sym p.1 ∙ z)
normalised_apart E (inr p) z = let e : length E.list ≡ 0 = ap (λ (G : LinearForm). length G.list) z ∙ none_short in let h : 1 < length E.list = p.0 in omega arith

any_contains : (Fs : List LinearForm) (F N : LinearForm) → Contains Fs F → IsEquationOf F N → Any (λ F. IsEquationOf F N) Fs
any_contains Fs F N c h = (c.0, F, c.1, c.2, h)

pub primitive_none : primitive no_form ≡ no_form
unfolding primitive finite.none finite.of
primitive_none = refl

pub tidied_by_added : (Es Fs Ns : List LinearForm) → Every IsNormalised Es → Adds (λ N. Any (λ F. IsEquationOf F N) Fs) Es Ns → IsTidied (Es ++ Fs) Ns
tidied_by_added Es Fs Ns n h = record { ordered = h.ordered; made = λ N. (down N, λ c. up N c.0 c.1) }
  where
    in_old : (N : LinearForm) → Contains Es N → Contains (map primitive (Es ++ Fs)) N × ¬ (N ≡ no_form)
    in_old N c =
        let m : IsNormalised N = every_contained IsNormalised Es N n c in
        (subst (Contains (map primitive (Es ++ Fs))) (primitive-normalised N m) (contains-map primitive (Es ++ Fs) N (Contains-append_left Es Fs N c)), normalised_apart N m)

    in_new : (N : LinearForm) → Any (λ F. IsEquationOf F N) Fs → Contains (map primitive (Es ++ Fs)) N × ¬ (N ≡ no_form)
    in_new N a =
        (subst (Contains (map primitive (Es ++ Fs))) (sym a.4.1) (contains-map primitive (Es ++ Fs) a.1 (Contains-append_right Es Fs a.1 (a.0, a.2, a.3))), λ z. apart a.1 a.4.0 (sym a.4.1 ∙ z))
      where
        apart : (F : LinearForm) → ¬ (F ≡ no_form) → ¬ (primitive F ≡ no_form)
        apart F k = normalised_apart (primitive F) (primitive_normalised F k)

    down : (N : LinearForm) → Contains Ns N → Contains (map primitive (Es ++ Fs)) N × ¬ (N ≡ no_form)
    down N c = elim (every_contained (λ N. Contains Es N ⊎ Any (λ F. IsEquationOf F N) Fs) Ns N h.alone c) [ inl k ↦ in_old N k | inr a ↦ in_new N a ]

    up : (N : LinearForm) → Contains (map primitive (Es ++ Fs)) N → ¬ (N ≡ no_form) → Contains Ns N
    up N c k = let m = contained_map primitive (Es ++ Fs) N c in go m.0 m.2 (Contains-append_cases Es Fs m.0 m.1)
      where
        go : (E : LinearForm) → primitive E ≡ N → Contains Es E ⊎ Contains Fs E → Contains Ns N
        go E is (inl d) = subst (Contains Ns) (sym (primitive-normalised E (every_contained IsNormalised Es E n d)) ∙ is) (every_contained (Contains Ns) Es E h.kept d)
        go E is (inr d) = h.added N (any_contains Fs E N d ((λ z. k (sym is ∙ ap primitive z ∙ primitive_none)), sym is))

pub tidied_normalised : (Es Ns : List LinearForm) → IsTidied Es Ns → Every IsNormalised Ns
tidied_normalised Es Ns h = every_of_contained IsNormalised Ns (λ N c. let m = (h.made N).0 c in one N (contained_map primitive Es N m.0) m.1)
  where
    one : (N : LinearForm) → (E : LinearForm) × Contains Es E × (primitive E ≡ N) → ¬ (N ≡ no_form) → IsNormalised N
    one N e n = subst IsNormalised e.2 (primitive_normalised e.0 (λ z. n (sym e.2 ∙ ap primitive z ∙ primitive_none)))
