-- Tidied lists of equations: told by their elements, and kept where forms are put in and others go.
use Rattle.std.specs.Prelude.{◌≡◌, ℕ, ◌<◌, ◌⊎◌, ◌↔◌, Bool, true, false, not, cond, List, ◌++◌, map, filter, length, get_or, remove}
use Rattle.std.proofs.Common.{refl, sym, ap, subst, ◌∙◌, inl, inr, true≢false}
use Rattle.std.specs.List.{AllByRecursion as Every, Contains}
use Rattle.std.specs.List.Sorted.{IsStrictlySortedBy}
use Rattle.std.proofs.lemmas.List.Elements.{Contains-append_left, Contains-append_right, Contains-append_cases}
use Rattle.std.proofs.lemmas.List.Kept.{IsStrictlySortedBy-filter}
use Rattle.lie_math.proofs.EveryElement.{every_contained}
use Rattle.lie_math.proofs.ContainedElements.{contains-map, contained_map}
use Rattle.lie_math.specs.LinearForm.{LinearForm, no_form}
use Rattle.lie_math.specs.LinearSystem.{Unknown}
use Rattle.lie_systems.specs.EquationOrder.{equation_cmp}
use Rattle.lie_systems.specs.Normalised.{primitive, IsNormalised}
use Rattle.lie_systems.proofs.EquationOrder.{equation_cmp_total}
use Rattle.lie_systems.proofs.Unique.{primitive-normalised}
use Rattle.lie_lin.proofs.SortedPlaces.{contained_remove, contains_remove, picked_or_left, sorted_remove}
use Rattle.lie_steps.specs.Equations.{mentions}
use Rattle.lie_steps.specs.Replacement.{put_in, replaced}
use Rattle.lie_steps.specs.Tidying.{IsTidied}
use Rattle.lie_change.specs.Lists.{unmentioned}
use Rattle.lie_change.proofs.FilteredElements.{contained_filter, contains_filter, not_left}
use Rattle.lie_change.proofs.FreeForms.{primitive_free}

-- ---- tests
not_of : (t : Bool) → t ≡ false → not t ≡ true
not_of t e = ap not e

of_not : (t : Bool) → not t ≡ true → t ≡ false
of_not true e = absurd (true≢false (sym e))
of_not false e = refl

-- ---- lists with the same elements
carried : (Es Fs : List LinearForm) → ((E : LinearForm) → Contains Es E → Contains Fs E) → (N : LinearForm) → Contains (map primitive Es) N
    → Contains (map primitive Fs) N
carried Es Fs f N c = let m = contained_map primitive Es N c in subst (Contains (map primitive Fs)) m.2
    (contains-map primitive Fs m.0 (f m.0 m.1))

pub tidied_same : (Es Fs Ns : List LinearForm) → ((E : LinearForm) → Contains Es E ↔ Contains Fs E) → IsTidied Es Ns → IsTidied Fs Ns
tidied_same Es Fs Ns same h = record {
  ordered = h.ordered;
  made = λ N. (
    λ c. let m = (h.made N).0 c in (carried Es Fs (λ E. (same E).0) N m.0, m.1),
    λ c. (h.made N).1 (carried Fs Es (λ E. (same E).1) N c.0, c.1),
  );
}

-- ---- forms are put in, and equations go
module _ (Es Fs Ns : List LinearForm) (normal : Every IsNormalised Es) (h : IsTidied (Es ++ Fs) Ns) where
  -- an equation that was there is its own normalised one
  itself : (E N : LinearForm) → Contains Es E → primitive E ≡ N → E ≡ N
  itself E N c e = sym (primitive-normalised E (every_contained IsNormalised Es E normal c)) ∙ e

  -- what of them is there
  there : (E N : LinearForm) → Contains (Es ++ Fs) E → primitive E ≡ N → ¬ (N ≡ no_form) → Contains Ns N
  there E N c e n = (h.made N).1 (subst (Contains (map primitive (Es ++ Fs))) e (contains-map primitive (Es ++ Fs) E c), n)

  -- the equation at a place goes, which is none of the forms
  module _ (sorted : IsStrictlySortedBy equation_cmp Es) (i k : ℕ) (lt : i < length Es) (inside : k < length Ns)
      (is : get_or Ns k no_form ≡ get_or Es i no_form) (apart : ¬ (Contains (map primitive Fs) (get_or Es i no_form))) where
    gone : (N : LinearForm) → get_or Es i no_form ≡ N → Contains (remove Ns k) N → ⊥
    gone N e c = not_left equation_cmp equation_cmp_total Ns k no_form h.ordered inside (subst (Contains (remove Ns k)) (sym (is ∙ e)) c)

    stays : (N : LinearForm) → ¬ (get_or Es i no_form ≡ N) → Contains Ns N → Contains (remove Ns k) N
    stays N n c = contains_remove Ns k no_form N inside (λ e. n (sym is ∙ e)) c

    pub tidied_exchanged : IsTidied (remove Es i ++ Fs) (remove Ns k)
    tidied_exchanged = record { ordered = sorted_remove equation_cmp Ns k inside h.ordered; made = λ N. (down N, λ c. up N c.0 c.1) }
      where
        made_of : (E N : LinearForm) → Contains (remove Es i ++ Fs) E → primitive E ≡ N → Contains (map primitive (remove Es i ++ Fs)) N
        made_of E N c e = subst (Contains (map primitive (remove Es i ++ Fs))) e (contains-map primitive (remove Es i ++ Fs) E c)

        down : (N : LinearForm) → Contains (remove Ns k) N → Contains (map primitive (remove Es i ++ Fs)) N × ¬ (N ≡ no_form)
        down N c =
            let m = (h.made N).0 (contained_remove Ns k N c) in
            let p = contained_map primitive (Es ++ Fs) N m.0 in (go p.0 p.2 (Contains-append_cases Es Fs p.0 p.1), m.1)
          where
            left : (E : LinearForm) → primitive E ≡ N → Contains Es E → (get_or Es i no_form ≡ E) ⊎ Contains (remove Es i) E
                → Contains (map primitive (remove Es i ++ Fs)) N
            left E e d (inl f) = absurd (gone N (f ∙ itself E N d e) c)
            left E e d (inr r) = made_of E N (Contains-append_left (remove Es i) Fs E r) e

            go : (E : LinearForm) → primitive E ≡ N → Contains Es E ⊎ Contains Fs E → Contains (map primitive (remove Es i ++ Fs)) N
            go E e (inl d) = left E e d (picked_or_left Es i no_form E lt d)
            go E e (inr d) = made_of E N (Contains-append_right (remove Es i) Fs E d) e

        up : (N : LinearForm) → Contains (map primitive (remove Es i ++ Fs)) N → ¬ (N ≡ no_form) → Contains (remove Ns k) N
        up N c n = let p = contained_map primitive (remove Es i ++ Fs) N c in go p.0 p.2 (Contains-append_cases (remove Es i) Fs p.0 p.1)
          where
            go : (E : LinearForm) → primitive E ≡ N → Contains (remove Es i) E ⊎ Contains Fs E → Contains (remove Ns k) N
            go E e (inl d) =
                let o = contained_remove Es i E d in
                stays N (λ f. not_left equation_cmp equation_cmp_total Es i no_form sorted lt
                (subst (Contains (remove Es i)) (itself E N o e ∙ sym f) d)) (there E N (Contains-append_left Es Fs E o) e n)
            go E e (inr d) =
                stays N (λ f. apart (subst (Contains (map primitive Fs)) (e ∙ sym f) (contains-map primitive Fs E d)))
                (there E N (Contains-append_right Es Fs E d) e n)

  -- the equations with the unknown f go, and none of the forms has it
  pub tidied_unmentioned : (f : ℕ) → Every (λ E. mentions f E ≡ false) Fs → IsTidied (unmentioned f Es ++ Fs) (unmentioned f Ns)
  tidied_unmentioned f free = record {
    ordered = IsStrictlySortedBy-filter equation_cmp (λ E. not (mentions f E)) Ns h.ordered;
    made = λ N.
        (down N, λ c. up N c.0 c.1);
  }
    where
      made_of : (E N : LinearForm) → Contains (unmentioned f Es ++ Fs) E → primitive E ≡ N
          → Contains (map primitive (unmentioned f Es ++ Fs)) N
      made_of E N c e = subst (Contains (map primitive (unmentioned f Es ++ Fs))) e (contains-map primitive (unmentioned f Es ++ Fs) E c)

      down : (N : LinearForm) → Contains (unmentioned f Ns) N → Contains (map primitive (unmentioned f Es ++ Fs)) N × ¬ (N ≡ no_form)
      down N c =
          let k = contained_filter (λ E. not (mentions f E)) Ns N c in
          let m = (h.made N).0 k.0 in
          let p = contained_map primitive (Es ++ Fs) N m.0 in (go k.1 p.0 p.2 (Contains-append_cases Es Fs p.0 p.1), m.1)
        where
          go : not (mentions f N) ≡ true → (E : LinearForm) → primitive E ≡ N → Contains Es E ⊎ Contains Fs E
              → Contains (map primitive (unmentioned f Es ++ Fs)) N
          go t E e (inl d) =
              made_of E N (Contains-append_left (unmentioned f Es) Fs E
              (contains_filter (λ E. not (mentions f E)) Es E d (ap (λ G. not (mentions f G)) (itself E N d e) ∙ t))) e
          go t E e (inr d) = made_of E N (Contains-append_right (unmentioned f Es) Fs E d) e

      up : (N : LinearForm) → Contains (map primitive (unmentioned f Es ++ Fs)) N → ¬ (N ≡ no_form) → Contains (unmentioned f Ns) N
      up N c n = let p = contained_map primitive (unmentioned f Es ++ Fs) N c in go p.0 p.2
          (Contains-append_cases (unmentioned f Es) Fs p.0 p.1)
        where
          go : (E : LinearForm) → primitive E ≡ N → Contains (unmentioned f Es) E ⊎ Contains Fs E → Contains (unmentioned f Ns) N
          go E e (inl d) =
              let k = contained_filter (λ E. not (mentions f E)) Es E d in
              contains_filter (λ E. not (mentions f E)) Ns N (there E N (Contains-append_left Es Fs E k.0) e n)
              (ap (λ G. not (mentions f G)) (sym (itself E N k.0 e)) ∙ k.1)
          go E e (inr d) =
              contains_filter (λ E. not (mentions f E)) Ns N (there E N (Contains-append_right Es Fs E d) e n)
              (not_of (mentions f N) (ap (mentions f) (sym e)
              ∙ primitive_free f E (every_contained (λ E. mentions f E ≡ false) Fs E free d)))

-- ---- the equations without f, and the others with W over L put in for it
module _ (us : List Unknown) (f : ℕ) (W : LinearForm) (L : ℕ) (Es : List LinearForm) (i : ℕ) (lt : i < length Es)
    (own : mentions f (get_or Es i no_form) ≡ true) where
  abbrev replaced_forms : List LinearForm
  replaced_forms = map (put_in us f W L) (filter (mentions f) (remove Es i))

  mapped : (E G : LinearForm) → Contains (remove Es i) E → replaced us f W L E ≡ G → Contains (map (replaced us f W L) (remove Es i)) G
  mapped E G c e = subst (Contains (map (replaced us f W L) (remove Es i))) e (contains-map (replaced us f W L) (remove Es i) E c)

  forth : (E : LinearForm) → Contains (unmentioned f Es ++ replaced_forms) E → Contains (map (replaced us f W L) (remove Es i)) E
  forth E c = go (Contains-append_cases (unmentioned f Es) replaced_forms E c)
    where
      other : mentions f E ≡ false → (get_or Es i no_form ≡ E) ⊎ Contains (remove Es i) E
          → Contains (map (replaced us f W L) (remove Es i)) E
      other t (inl e) = absurd (true≢false (sym own ∙ ap (mentions f) e ∙ t))
      other t (inr r) = mapped E E r (ap (λ b. cond b (put_in us f W L E) E) t)

      go : Contains (unmentioned f Es) E ⊎ Contains replaced_forms E → Contains (map (replaced us f W L) (remove Es i)) E
      go (inl d) = let k = contained_filter (λ E. not (mentions f E)) Es E d in other (of_not (mentions f E) k.1)
          (picked_or_left Es i no_form E lt k.0)
      go (inr d) =
          let p = contained_map (put_in us f W L) (filter (mentions f) (remove Es i)) E d in
          let k = contained_filter (mentions f) (remove Es i) p.0 p.1 in mapped p.0 E k.0
          (ap (λ b. cond b (put_in us f W L p.0) p.0) k.1 ∙ p.2)

  back : (E : LinearForm) → Contains (map (replaced us f W L) (remove Es i)) E → Contains (unmentioned f Es ++ replaced_forms) E
  back E c = let p = contained_map (replaced us f W L) (remove Es i) E c in go p.0 p.1 (mentions f p.0) refl p.2
    where
      go : (G : LinearForm) → Contains (remove Es i) G → (t : Bool) → mentions f G ≡ t → cond t (put_in us f W L G) G ≡ E
          → Contains (unmentioned f Es ++ replaced_forms) E
      go G d true t e =
          Contains-append_right (unmentioned f Es) replaced_forms E
          (subst (Contains replaced_forms) e (contains-map (put_in us f W L) (filter (mentions f) (remove Es i)) G
          (contains_filter (mentions f) (remove Es i) G d t)))
      go G d false t e =
          subst (Contains (unmentioned f Es ++ replaced_forms)) e
          (Contains-append_left (unmentioned f Es) replaced_forms G
          (contains_filter (λ E. not (mentions f E)) Es G (contained_remove Es i G d) (not_of (mentions f G) t)))

  pub replaced_same : (E : LinearForm) → Contains (unmentioned f Es
      ++ map (put_in us f W L) (filter (mentions f) (remove Es i))) E ↔ Contains (map (replaced us f W L) (remove Es i)) E
  replaced_same E = (forth E, back E)
