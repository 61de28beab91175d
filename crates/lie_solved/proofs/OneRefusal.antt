-- A system is refused for one cause in one equation at most.
use Rattle.std.specs.Prelude.{◌≡◌, ℕ, zero, suc, ◌+◌, ◌<◌, ◌⊎◌, List, [], ◌∷◌, ◌++◌, length, get_or, drop}
use Rattle.std.proofs.Common.{refl, sym, ap, ap₂, subst, ◌∙◌, arith, inl, inr}
use Rattle.std.specs.List.{AllByRecursion as Every}
use Rattle.lie_math.specs.Monomial.{single}
use Rattle.lie_geometry.specs.Coordinates.{Space}
use Rattle.lie_geometry.specs.CoordinateLaws.{IsSpace}
use Rattle.lie_geometry.specs.SolvedEquations.{SolvedEquation, is_lead}
use Rattle.lie_ring.specs.Rankings.{IsRanking}
use Rattle.lie_system.specs.Systems.{EquationRead}
use Rattle.lie_solved.specs.declared.solved.NotKind.{NotKind}
use Rattle.lie_solved.specs.declared.solved.NotKind.TheVariants.{NoDerivative, LeadNotLinear, LeadRepeated, LeadInside}
use Rattle.lie_solved.specs.Leads.{JetOrder, HasNoDerivative, IsLinearIn}
use Rattle.lie_solved.specs.SolvedForms.{IsSolvedUnder, AreSolvedUnder, HaveDistinctLeads}
use Rattle.lie_solved.specs.Refusals.{ArePassedUnder, IsReachedUnder, HasLeadNotLinearUnder, HasLeadRepeatedUnder, HasNoLead, IsFirstInside, IsRefusedUnder}
use Rattle.lie_solved.specs.Laws.{RefusalIsOne}
use Rattle.lie_solved.proofs.OneForm.{lead_same, apart, solved_linear, has_single, solved_same, all_same, middle_of, no_repeat, every_middle, not_less_test}

-- ---- lists that are parted at two places
head_same : {X : Type 0} (x y : X) (xs ys : List X) → x ∷ xs ≡ y ∷ ys → x ≡ y
head_same x y xs ys e = ap (λ l. get_or l 0 x) e

tail_same : {X : Type 0} (x y : X) (xs ys : List X) → x ∷ xs ≡ y ∷ ys → xs ≡ ys
tail_same x y xs ys e = ap (drop 1) e

-- what the longer front has behind the shorter one
parted_later : {X : Type 0} (b : List X) (e : X) (a c : List X) (f : X) (d : List X) → b ++ e ∷ a ≡ c ++ f ∷ d → length b < length c → (rest : List X) × (c ≡ b ++ e ∷ rest)
parted_later [] e a [] f d same lt = absurd (omega arith)
parted_later [] e a (x ∷ c) f d same lt = (c, ap (λ y. y ∷ c) (sym (head_same e x a (c ++ f ∷ d) same)))
parted_later (x ∷ b) e a [] f d same lt = absurd (omega arith)
parted_later (x ∷ b) e a (y ∷ c) f d same lt =
    let more = parted_later b e a c f d (tail_same x y (b ++ e ∷ a) (c ++ f ∷ d) same) (omega arith) in
    (more.0, ap₂ (λ z l. z ∷ l) (sym (head_same x y (b ++ e ∷ a) (c ++ f ∷ d) same)) more.1)

parted_there : {X : Type 0} (b : List X) (e : X) (a c : List X) (f : X) (d : List X) → b ++ e ∷ a ≡ c ++ f ∷ d → length b ≡ length c → (b ≡ c) × (e ≡ f)
parted_there [] e a [] f d same eq = (refl, head_same e f a d same)
parted_there [] e a (x ∷ c) f d same eq = absurd (omega arith)
parted_there (x ∷ b) e a [] f d same eq = absurd (omega arith)
parted_there (x ∷ b) e a (y ∷ c) f d same eq =
    let more = parted_there b e a c f d (tail_same x y (b ++ e ∷ a) (c ++ f ∷ d) same) (omega arith) in
    (ap₂ (λ z l. z ∷ l) (head_same x y (b ++ e ∷ a) (c ++ f ∷ d) same) more.0, more.1)

three : (m n : ℕ) → (m < n) ⊎ ((m ≡ n) ⊎ (n < m))
three zero zero = inr (inl refl)
three zero (suc n) = inl (omega arith)
three (suc m) zero = inr (inr (omega arith))
three (suc m) (suc n) = elim (three m n) [ inl lt ↦ inl (omega arith) | inr r ↦ (elim r [ inl e ↦ inr (inl (ap suc e)) | inr gt ↦ inr (inr (omega arith)) ]) ]

-- ---- the causes in one equation, behind equations that are passed with the rules rs
data IsCauseAt (rank : JetOrder) (S : Space) (rs : List SolvedEquation) (e : EquationRead) : NotKind → Type 0 where
  no_derivative : HasNoDerivative S e.diff → IsCauseAt rank S rs e NoDerivative
  bent_lead : HasLeadNotLinearUnder rank S e → IsCauseAt rank S rs e LeadNotLinear
  repeated_lead : HasLeadRepeatedUnder rank S e rs → IsCauseAt rank S rs e LeadRepeated

module _ (rank : JetOrder) (ranking : IsRanking rank) (S : Space) (is : IsSpace S) where
  -- an equation that is solved has a derivative, and its lead is alone
  solved_derivative : (e : EquationRead) (r : SolvedEquation) → IsSolvedUnder rank S e r → HasNoDerivative S e.diff → ⊥
  solved_derivative e r h none = has_single r.lead (none r.lead (not_less_test r.lead (S.p + S.q) h.derivative) (single r.lead) (apart rank S e r h))

  solved_straight : (e : EquationRead) (r : SolvedEquation) → IsSolvedUnder rank S e r → HasLeadNotLinearUnder rank S e → ⊥
  solved_straight e r h bent = bent.bent (subst (λ w. IsLinearIn w e.diff) (lead_same rank ranking S is e r.lead bent.lead h.lead bent.is) (solved_linear rank S e r h))

  -- an equation among those that are passed has none of the causes
  passed_is_good : (kind : NotKind) (b : List EquationRead) (e : EquationRead) (a : List EquationRead) (qs rs : List SolvedEquation) → ArePassedUnder rank S (b ++ e ∷ a) qs → ArePassedUnder rank S b rs → IsCauseAt rank S rs e kind → ⊥
  passed_is_good kind b e a qs rs h k (no_derivative none) = let m = middle_of rank S b e a qs h.equations in solved_derivative e m.rule m.solves none
  passed_is_good kind b e a qs rs h k (bent_lead bent) = let m = middle_of rank S b e a qs h.equations in solved_straight e m.rule m.solves bent
  passed_is_good kind b e a qs rs h k (repeated_lead repeated) =
      let m = middle_of rank S b e a qs h.equations in
      let same : rs ≡ m.first = all_same rank ranking S is b rs m.first k.equations m.earlier in
      let rule : repeated.rule ≡ m.rule = solved_same rank ranking S is e repeated.rule m.rule repeated.solves m.solves in
      no_repeat m.first m.rule m.rest (subst HaveDistinctLeads m.place h.leads) (ap₂ (λ xs (x : SolvedEquation). is_lead xs x.lead) (sym same) (sym rule) ∙ repeated.repeated)

  -- an equation has one of the causes at most
  one_cause : (i j : NotKind) (rs : List SolvedEquation) (e : EquationRead) → IsCauseAt rank S rs e i → IsCauseAt rank S rs e j → i ≡ j
  one_cause i j rs e (no_derivative none) (no_derivative n) = refl
  one_cause i j rs e (no_derivative none) (bent_lead bent) = absurd (bent.some none)
  one_cause i j rs e (no_derivative none) (repeated_lead repeated) = absurd (solved_derivative e repeated.rule repeated.solves none)
  one_cause i j rs e (bent_lead bent) (no_derivative none) = absurd (bent.some none)
  one_cause i j rs e (bent_lead bent) (bent_lead b) = refl
  one_cause i j rs e (bent_lead bent) (repeated_lead repeated) = absurd (solved_straight e repeated.rule repeated.solves bent)
  one_cause i j rs e (repeated_lead repeated) (no_derivative none) = absurd (solved_derivative e repeated.rule repeated.solves none)
  one_cause i j rs e (repeated_lead repeated) (bent_lead bent) = absurd (solved_straight e repeated.rule repeated.solves bent)
  one_cause i j rs e (repeated_lead repeated) (repeated_lead r) = refl

  -- ---- two refusals
  both_reached : (es : List EquationRead) (i j : NotKind) (k l : ℕ) (rs ss : List SolvedEquation) (e f : EquationRead)
      → IsReachedUnder rank S es k rs e → IsCauseAt rank S rs e i → IsReachedUnder rank S es l ss f → IsCauseAt rank S ss f j → (i ≡ j) × (k ≡ l)
  both_reached es i j k l rs ss e f h c g d = elim (three (length h.before) (length g.before)) [
    | inl lt ↦ (let more = parted_later h.before e h.after g.before f g.after (sym h.place ∙ g.place) lt in
        absurd (passed_is_good i h.before e more.0 ss rs (subst (λ xs. ArePassedUnder rank S xs ss) more.1 g.passed) h.passed c))
    | inr r ↦ (elim r [
      | inl eq ↦ (let same = parted_there h.before e h.after g.before f g.after (sym h.place ∙ g.place) eq in
          let rules : ss ≡ rs = all_same rank ranking S is h.before ss rs (subst (λ xs. AreSolvedUnder rank S xs ss) (sym same.0) (g.passed).equations) (h.passed).equations in
          (one_cause i j rs e c (subst (λ x. IsCauseAt rank S rs x j) (sym same.1) (subst (λ xs. IsCauseAt rank S xs f j) rules d)), h.number ∙ ap suc eq ∙ sym g.number))
      | inr gt ↦ (let more = parted_later g.before f g.after h.before e h.after (sym g.place ∙ h.place) gt in
          absurd (passed_is_good j g.before f more.0 rs ss (subst (λ xs. ArePassedUnder rank S xs rs) more.1 h.passed) g.passed d))
    ])
  ]

  reached_inside : (es : List EquationRead) (i : NotKind) (k : ℕ) (rs qs : List SolvedEquation) (e : EquationRead) → IsReachedUnder rank S es k rs e → IsCauseAt rank S rs e i → ArePassedUnder rank S es qs → ⊥
  reached_inside es i k rs qs e h c passed = passed_is_good i h.before e h.after qs rs (subst (λ xs. ArePassedUnder rank S xs qs) h.place passed) h.passed c

  first_before : (rs : List SolvedEquation) (k l : ℕ) (h : IsFirstInside rs k) (g : IsFirstInside rs l) → length h.before < length g.before → ⊥
  first_before rs k l h g lt =
      let more = parted_later h.before h.rule h.after g.before g.rule g.after (sym h.place ∙ g.place) lt in
      h.inside (every_middle (HasNoLead rs) h.before h.rule more.0 (subst (Every (HasNoLead rs)) more.1 g.none))

  both_inside : (rs : List SolvedEquation) (k l : ℕ) → IsFirstInside rs k → IsFirstInside rs l → k ≡ l
  both_inside rs k l h g = elim (three (length h.before) (length g.before)) [
    | inl lt ↦ absurd (first_before rs k l h g lt)
    | inr r ↦ (elim r [ inl eq ↦ h.number ∙ ap suc eq ∙ sym g.number | inr gt ↦ absurd (first_before rs l k g h gt) ])
  ]

-- ---- the law
data IsSome (rank : JetOrder) (S : Space) (es : List EquationRead) (k : ℕ) : NotKind → Type 0 where
  at_equation : (i : NotKind) (rs : List SolvedEquation) (e : EquationRead) → IsReachedUnder rank S es k rs e → IsCauseAt rank S rs e i → IsSome rank S es k i
  at_end : (rs : List SolvedEquation) → ArePassedUnder rank S es rs → IsFirstInside rs k → IsSome rank S es k LeadInside

some_cause : (rank : JetOrder) (S : Space) (es : List EquationRead) (i : NotKind) (k : ℕ) → IsRefusedUnder rank S es i k → IsSome rank S es k i
some_cause rank S es NoDerivative k h = at_equation NoDerivative h.0 h.1 h.2 (no_derivative h.3)
some_cause rank S es LeadNotLinear k h = at_equation LeadNotLinear h.0 h.1 h.2 (bent_lead h.3)
some_cause rank S es LeadRepeated k h = at_equation LeadRepeated h.0 h.1 h.2 (repeated_lead h.3)
some_cause rank S es LeadInside k h = at_end h.0 h.1 h.2

same_cause : (rank : JetOrder) → IsRanking rank → (S : Space) → IsSpace S → (es : List EquationRead) (i j : NotKind) (k l : ℕ) → IsSome rank S es k i → IsSome rank S es l j → (i ≡ j) × (k ≡ l)
same_cause rank ranking S is es i j k l (at_equation a rs e h c) (at_equation b ss f g d) = both_reached rank ranking S is es i j k l rs ss e f h c g d
same_cause rank ranking S is es i j k l (at_equation a rs e h c) (at_end ss passed inside) = absurd (reached_inside rank ranking S is es i k rs ss e h c passed)
same_cause rank ranking S is es i j k l (at_end rs passed inside) (at_equation b ss f g d) = absurd (reached_inside rank ranking S is es j l ss rs f g d passed)
same_cause rank ranking S is es i j k l (at_end rs passed inside) (at_end ss p inner) =
    let same : ss ≡ rs = all_same rank ranking S is es ss rs p.equations passed.equations in
    (refl, both_inside rank ranking S is rs k l inside (subst (λ xs. IsFirstInside xs l) same inner))

pub refusal_is_one : RefusalIsOne
refusal_is_one rank ranking S is es i j k l h g = same_cause rank ranking S is es i j k l (some_cause rank S es i k h) (some_cause rank S es j l g)
