-- The works of replacing an unknown: of the equations one by one, of the general forms at once, and of both with the end of the step.
use Rattle.std.specs.Prelude.{◌≡◌, IfErr, OnOk, ℕ, suc, ◌+◌, ◌-◌, ◌<◌, ◌↔◌, ◌⊎◌, Bool, true, false, cond, List, [], ◌∷◌, ◌++◌, map, filter}
use Rattle.std.specs.Prelude.{length, take, drop, get_or, remove}
use Rattle.std.proofs.Common.{sym, ap, subst, ◌∙◌, append_assoc, add-one, inl, inr}
use Rattle.std.specs.declared.result.Result.{Result}
use Rattle.std.proofs.lemmas.Result.{MatchResult-weaker, on_ok_weaker}
use Rattle.std.proofs.lemmas.List.{map-append, take_rest}
use Rattle.std.proofs.lemmas.List.Elements.{Contains-append_left, Contains-append_right, Contains-append_cases, filter-append}
use Rattle.std.specs.List.{Contains, list_any}
use Rattle.lie_math.proofs.ContainedElements.{contained_cons, contained_map, contains-map, contains_first, contains_nothing}
use Rattle.lie_math.proofs.EveryElement.{every_contained}
use Rattle.lie_math.specs.LinearForm.{LinearForm, no_form}
use Rattle.lie_math.specs.LinearSystem.{Unknown, LinearSystem}
use Rattle.lie_systems.specs.Bulk.{IsFormWithinLimits, triple_count_of_all}
use Rattle.lie_systems.specs.Works.{Made, AForm, Triples, IsMadeWithin, IsWorkWithin}
use Rattle.lie_ring.specs.declared.failures.PastKind.TheVariants.{Coefficient, Exponent, Terms, Order, Unknowns, Width}
use Rattle.lie_ring.specs.declared.failures.PolyFail.{PolyFail}
use Rattle.lie_ring.specs.declared.failures.PolyFail.TheVariants.{Past, NoMemory}
use Rattle.lie_ring.proofs.Fronts.{take_more}
use Rattle.lie_form.specs.FormLimits.{IsFormCause}
use Rattle.lie_normal.specs.WorkCauses.{IsWorkCause}
use Rattle.lie_normal.proofs.WorkSteps.{form_work, work_weaken, within_more, last_contained}
use Rattle.lie_replace.specs.Replacing.{IsJointCause, AreWithinLimits}
use Rattle.lie_steps.specs.Equations.{mentions}
use Rattle.lie_steps.specs.Tidying.{IsTidySystem}
use Rattle.lie_steps.specs.Replacement.{put_in, put_in_bulk, replaced, without_divisor, unknowns_after, replaced_made, all_replaced_made}
use Rattle.lie_change.specs.Ends.{EndMakes, EliminationMakes}
use Rattle.lie_change.specs.Lists.{unmentioned, general_after, left_by}
use Rattle.lie_change.proofs.FilteredElements.{contained_filter, contains_filter}
use Rattle.lie_change.proofs.SystemEnds.{IsAlike, alike_turned, tidy_alike, end_alike}
use Rattle.lie_change.proofs.TidiedLists.{replaced_same}

-- ---- one work after the other
within_both : (bs cs : List Made) → IsWorkWithin (Contains bs) → IsWorkWithin (Contains cs) → IsWorkWithin (Contains (bs ++ cs))
within_both bs cs h k b c = elim (Contains-append_cases bs cs b c) [ inl d ↦ h b d | inr d ↦ k b d ]

-- ---- the equations
module _ (us : List Unknown) (f : ℕ) (W : LinearForm) (L : ℕ) where
  made-append : (Es Fs : List LinearForm) → replaced_made us f W L (Es ++ Fs) ≡ replaced_made us f W L Es ++ replaced_made us f W L Fs
  made-append Es Fs = ap (map (λ E. AForm (put_in_bulk us f W L E))) (filter-append (mentions f) Es Fs)
      ∙ map-append (λ E. AForm (put_in_bulk us f W L E)) (filter (mentions f) Es) (filter (mentions f) Fs)

  forms-append : (Es Fs : List LinearForm) → map (put_in us f W L) (filter (mentions f) (Es ++ Fs)) ≡ map (put_in us f W L)
      (filter (mentions f) Es) ++ map (put_in us f W L) (filter (mentions f) Fs)
  forms-append Es Fs = ap (map (put_in us f W L)) (filter-append (mentions f) Es Fs)
      ∙ map-append (put_in us f W L) (filter (mentions f) Es) (filter (mentions f) Fs)

  -- what is made of some equations is made of more
  made_of_more : (Es Fs : List LinearForm) → ((E : LinearForm) → Contains Es E → Contains Fs E) → (b : Made)
      → Contains (replaced_made us f W L Es) b → Contains (replaced_made us f W L Fs) b
  made_of_more Es Fs more b c =
      let p = contained_map (λ E. AForm (put_in_bulk us f W L E)) (filter (mentions f) Es) b c in
      let k = contained_filter (mentions f) Es p.0 p.1 in
      subst (Contains (replaced_made us f W L Fs)) p.2 (contains-map (λ E. AForm (put_in_bulk us f W L E)) (filter (mentions f) Fs) p.0
      (contains_filter (mentions f) Fs p.0 (more p.0 k.0) k.1))

  module _ (xs : List LinearForm) (i : ℕ) (x : LinearForm) (lt : i < length xs) (is : x ≡ get_or xs i x) where
    forms_more : map (put_in us f W L) (filter (mentions f) (take (i + 1) xs)) ≡ map (put_in us f W L) (filter (mentions f) (take i xs))
        ++ map (put_in us f W L) (filter (mentions f) (x ∷ []))
    forms_more = ap (λ ys. map (put_in us f W L) (filter (mentions f) ys)) (sym (take_more xs i x lt is))
        ∙ forms-append (take i xs) (x ∷ [])

    -- what is put behind others
    pub put_more : (start old new : List LinearForm) → new ≡ old ++ map (put_in us f W L) (filter (mentions f) (x ∷ [])) → old ≡ start
        ++ map (put_in us f W L) (filter (mentions f) (take i xs)) → new ≡ start
        ++ map (put_in us f W L) (filter (mentions f) (take (i + 1) xs))
    put_more start old new n o =
        n ∙ ap (λ ys. ys ++ map (put_in us f W L) (filter (mentions f) (x ∷ []))) o
        ∙ append_assoc start (map (put_in us f W L) (filter (mentions f) (take i xs)))
        (map (put_in us f W L) (filter (mentions f) (x ∷ [])))
        ∙ ap (λ ys. start ++ ys) (sym forms_more)

    pub made_within_more : IsWorkWithin (Contains (replaced_made us f W L (take i xs)))
        → IsWorkWithin (Contains (replaced_made us f W L (x ∷ []))) → IsWorkWithin (Contains (replaced_made us f W L (take (i + 1) xs)))
    made_within_more h k =
        subst (λ bs. IsWorkWithin (Contains bs)) (sym (made-append (take i xs) (x ∷ []))
        ∙ ap (replaced_made us f W L) (take_more xs i x lt is))
        (within_both (replaced_made us f W L (take i xs)) (replaced_made us f W L (x ∷ [])) h k)

    pub made_cause : (fail : PolyFail) → IsWorkCause fail (Contains (replaced_made us f W L (x ∷ [])))
        → IsWorkCause fail (Contains (replaced_made us f W L xs))
    made_cause fail c = work_weaken fail (made_of_more (x ∷ []) xs (λ E d. one E (contained_cons x [] E d))) c
      where
        one : (E : LinearForm) → (x ≡ E) ⊎ Contains [] E → Contains xs E
        one E (inl e) = (i, lt, ap (λ d. get_or xs i d) (sym e) ∙ sym is ∙ e)
        one E (inr d) = absurd (contains_nothing E d)

  -- one equation with f
  pub replaced_cause : (E : LinearForm) (fail : PolyFail) → mentions f E ≡ true → IsFormCause fail (put_in_bulk us f W L E)
      → IsWorkCause fail (Contains (replaced_made us f W L (E ∷ [])))
  replaced_cause E fail own c =
      subst (λ t. IsWorkCause fail (Contains (map (λ E. AForm (put_in_bulk us f W L E)) (cond t (E ∷ []) [])))) (sym own)
      (form_work (Contains (AForm (put_in_bulk us f W L E) ∷ [])) fail (put_in_bulk us f W L E)
      (contains_first (AForm (put_in_bulk us f W L E)) []) c)

  -- the equations before a place and those behind it
  module _ (Es : List LinearForm) (k : ℕ) where
    made_removed : replaced_made us f W L (remove Es k) ≡ replaced_made us f W L (take k Es) ++ replaced_made us f W L (drop (suc k) Es)
    made_removed = made-append (take k Es) (drop (suc k) Es)

    behind : take (length Es - (k + 1)) (drop (k + 1) Es) ≡ drop (suc k) Es
    behind = take_rest Es (k + 1) ∙ ap (λ i. drop i Es) (add-one k)

    pub removed_within : IsWorkWithin (Contains (replaced_made us f W L (take k Es)))
        → IsWorkWithin (Contains (replaced_made us f W L (take (length Es - (k + 1)) (drop (k + 1) Es))))
        → IsWorkWithin (Contains (replaced_made us f W L (remove Es k)))
    removed_within h g =
        subst (λ bs. IsWorkWithin (Contains bs)) (sym made_removed)
        (within_both (replaced_made us f W L (take k Es)) (replaced_made us f W L (drop (suc k) Es)) h
        (subst (λ Fs. IsWorkWithin (Contains (replaced_made us f W L Fs))) behind g))

    pub behind_cause : (fail : PolyFail) → IsWorkCause fail (Contains
        (replaced_made us f W L (take (length Es - (k + 1)) (drop (k + 1) Es))))
        → IsWorkCause fail (Contains (replaced_made us f W L (remove Es k)))
    behind_cause fail c =
        work_weaken fail (λ b d. subst (λ bs. Contains bs b) (sym made_removed)
        (Contains-append_right (replaced_made us f W L (take k Es)) (replaced_made us f W L (drop (suc k) Es)) b d))
        (subst (λ Fs. IsWorkCause fail (Contains (replaced_made us f W L Fs))) behind c)

  -- ---- the general forms
  some_bulk : (Gs : List LinearForm) (B : LinearForm) → Contains (map (put_in_bulk us f W L) Gs) B
      → Contains (map (λ G. AForm (put_in_bulk us f W L G)) Gs) (AForm B)
  some_bulk Gs B c =
      let p = contained_map (put_in_bulk us f W L) Gs B c in
      subst (Contains (map (λ G. AForm (put_in_bulk us f W L G)) Gs)) (ap (λ E. AForm E) p.2)
      (contains-map (λ G. AForm (put_in_bulk us f W L G)) Gs p.0 p.1)

  module _ (Gs : List LinearForm) where
    abbrev all_made : List Made
    all_made = map (λ G. AForm (put_in_bulk us f W L G)) Gs ++ Triples (triple_count_of_all (map (put_in_bulk us f W L) Gs)) ∷ []

    pub general_within : list_any (mentions f) Gs ≡ true → AreWithinLimits (map (put_in_bulk us f W L) Gs)
        → IsWorkWithin (Contains (all_replaced_made us f W L Gs))
    general_within some w =
        subst (λ t. IsWorkWithin (Contains (cond t all_made []))) (sym some)
        (within_more (map (λ G. AForm (put_in_bulk us f W L G)) Gs)
        (Triples (triple_count_of_all (map (put_in_bulk us f W L) Gs))) each w.few)
      where
        each : IsWorkWithin (Contains (map (λ G. AForm (put_in_bulk us f W L G)) Gs))
        each b c =
            let p = contained_map (λ G. AForm (put_in_bulk us f W L G)) Gs b c in
            subst IsMadeWithin p.2 (every_contained IsFormWithinLimits (map (put_in_bulk us f W L) Gs) (put_in_bulk us f W L p.0) w.each
            (contains-map (put_in_bulk us f W L) Gs p.0 p.1))

    pub none_within : list_any (mentions f) Gs ≡ false → IsWorkWithin (Contains (all_replaced_made us f W L Gs))
    none_within none = subst (λ t. IsWorkWithin (Contains (cond t all_made []))) (sym none) (λ b c. absurd (contains_nothing b c))

    pub general_cause : (fail : PolyFail) → list_any (mentions f) Gs ≡ true → IsJointCause fail (map (put_in_bulk us f W L) Gs)
        → IsWorkCause fail (Contains (all_replaced_made us f W L Gs))
    general_cause fail some c = subst (λ t. IsWorkCause fail (Contains (cond t all_made []))) (sym some) (go fail c)
      where
        one : (B : LinearForm) → Contains (map (put_in_bulk us f W L) Gs) B → Contains all_made (AForm B)
        one B d = Contains-append_left (map (λ G. AForm (put_in_bulk us f W L G)) Gs)
            (Triples (triple_count_of_all (map (put_in_bulk us f W L) Gs)) ∷ []) (AForm B) (some_bulk Gs B d)

        go : (fail : PolyFail) → IsJointCause fail (map (put_in_bulk us f W L) Gs) → IsWorkCause fail (Contains all_made)
        go (Past Coefficient) a = (AForm a.1, one a.1 (a.0, a.2, a.3), a.4)
        go (Past Exponent) a = (AForm a.1, one a.1 (a.0, a.2, a.3), a.4)
        go (Past Terms) a = (
          Triples (triple_count_of_all (map (put_in_bulk us f W L) Gs)),
          last_contained
              (map (λ G. AForm (put_in_bulk us f W L G)) Gs) (Triples (triple_count_of_all (map (put_in_bulk us f W L) Gs))),
          a,
        )
        go (Past Order) a = (AForm a.1, one a.1 (a.0, a.2, a.3), a.4)
        go (Past Unknowns) a = absurd a
        go (Past Width) a = absurd a
        go NoMemory a = tt

-- ---- an elimination
module _ (S : LinearSystem) (i f : ℕ) (W : LinearForm) (L : ℕ) (fresh us : List Unknown) (is : us ≡ unknowns_after S f fresh) where
  module _ (X : LinearSystem) where
    made_first : (b : Made) → Contains (replaced_made us f W L (remove S.equations i)) b → EliminationMakes S i f W L fresh X b
    made_first b c =
        inl (Contains-append_left (replaced_made (unknowns_after S f fresh) f W L (remove S.equations i))
        (all_replaced_made (unknowns_after S f fresh) f W L S.general) b
        (subst (λ vs. Contains (replaced_made vs f W L (remove S.equations i)) b) is c))

    made_second : (b : Made) → Contains (all_replaced_made us f W L S.general) b → EliminationMakes S i f W L fresh X b
    made_second b c =
        inl (Contains-append_right (replaced_made (unknowns_after S f fresh) f W L (remove S.equations i))
        (all_replaced_made (unknowns_after S f fresh) f W L S.general) b
        (subst (λ vs. Contains (all_replaced_made vs f W L S.general) b) is c))

    elimination_within : IsWorkWithin (Contains (replaced_made us f W L (remove S.equations i)))
        → IsWorkWithin (Contains (all_replaced_made us f W L S.general)) → IsWorkWithin (EndMakes X)
        → IsWorkWithin (EliminationMakes S i f W L fresh X)
    elimination_within h k e b (inl c) =
        elim (Contains-append_cases (replaced_made (unknowns_after S f fresh) f W L (remove S.equations i))
        (all_replaced_made (unknowns_after S f fresh) f W L S.general) b c) [
          | inl d ↦ h b (subst (λ vs. Contains (replaced_made vs f W L (remove S.equations i)) b) (sym is) d)
          | inr d ↦ k b (subst (λ vs. Contains (all_replaced_made vs f W L S.general) b) (sym is) d)
        ]
    elimination_within h k e b (inr m) = e b m

    pub equations_cause : (fail : PolyFail) → IsWorkCause fail (Contains (replaced_made us f W L (remove S.equations i)))
        → IsWorkCause fail (EliminationMakes S i f W L fresh X)
    equations_cause fail c = work_weaken fail made_first c

    pub general_forms_cause : (fail : PolyFail) → IsWorkCause fail (Contains (all_replaced_made us f W L S.general))
        → IsWorkCause fail (EliminationMakes S i f W L fresh X)
    general_forms_cause fail c = work_weaken fail made_second c

    left_cause : (fail : PolyFail) → IsWorkCause fail (EndMakes X) → IsWorkCause fail (EliminationMakes S i f W L fresh X)
    left_cause fail c = work_weaken fail (λ b m. inr m) c

  -- general forms without f stay
  pub general_stays : (divided : Bool) → list_any (mentions f) S.general ≡ false → S.general ≡ general_after divided us f W L S.general
  general_stays true e = sym (ap (λ t. cond t (without_divisor (map (put_in us f W L) S.general)) S.general) e)
  general_stays false e = sym (ap (λ t. cond t (map (put_in us f W L) S.general) S.general) e)

  -- what is left
  pub left_alike : (divided : Bool) (forms general : List LinearForm) (next : ℕ) → i < length S.equations
      → mentions f (get_or S.equations i no_form) ≡ true
      → forms ≡ map (put_in us f W L) (filter (mentions f) (remove S.equations i)) → general ≡ general_after divided us f W L S.general
      → next ≡ S.next + length fresh
      → IsAlike (record { unknowns = us; equations = unmentioned f S.equations ++ forms; general = general; next = next })
      (left_by divided S i f W L fresh)
  left_alike divided forms general next lt own e g n = record {
    unknowns = is;
    equations = λ E. subst (λ Fs. Contains (unmentioned f S.equations ++ Fs) E ↔ Contains
        (map (replaced (unknowns_after S f fresh) f W L) (remove S.equations i)) E)
        (sym (e ∙ ap (λ vs. map (put_in vs f W L) (filter (mentions f) (remove S.equations i))) is))
        (replaced_same (unknowns_after S f fresh) f W L S.equations i lt own E);
    general = g ∙ ap (λ vs. general_after divided vs f W L S.general) is;
    next = n;
  }

-- ---- from what is left of a system to what is left of an alike one
pub alike_tidied : {A : Type 0} (r : Result A PolyFail) (X Y T : LinearSystem) → IsAlike X Y → OnOk r (IsTidySystem X T)
    → OnOk r (IsTidySystem Y T)
alike_tidied r X Y T a h = on_ok_weaker r (tidy_alike X Y T a) h

module _ (S : LinearSystem) (i f : ℕ) (W : LinearForm) (L : ℕ) (fresh us : List Unknown) (is : us ≡ unknowns_after S f fresh) {A : Type 0}
    (r : Result A PolyFail) (X Y : LinearSystem) (a : IsAlike X Y) where
  pub alike_fits : IsWorkWithin (Contains (replaced_made us f W L (remove S.equations i)))
      → IsWorkWithin (Contains (all_replaced_made us f W L S.general)) → OnOk r (IsWorkWithin (EndMakes X))
      → OnOk r (IsWorkWithin (EliminationMakes S i f W L fresh Y))
  alike_fits h k e = on_ok_weaker r (λ w. elimination_within S i f W L fresh us is Y h k
      (λ b m. w b (end_alike Y X (alike_turned X Y a) b m))) e

  pub alike_past : IfErr r (λ fail. IsWorkCause fail (EndMakes X)) → IfErr r (λ fail. IsWorkCause fail (EliminationMakes S i f W L fresh Y))
  alike_past h = MatchResult-weaker r h (λ x u. u) (λ fail c. left_cause S i f W L fresh us is Y fail
      (work_weaken fail (end_alike X Y a) c))
