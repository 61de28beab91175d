-- A written system has a solved form or is refused.
use Rattle.std.specs.Prelude.{◌≡◌, ℕ, suc, ◌+◌, ◌≤◌, ◌⊎◌, ◌&&◌, Bool, true, false, not, eqb, leb, ltb, T, List, [], ◌∷◌, ◌++◌, length, ℤ, pos, unsigned_abs, Option, Some, None, IfSome}
use Rattle.std.proofs.Common.{refl, sym, ap, subst, ◌∙◌, arith, inl, inr, true≢false, eqb→eq, append_assoc, append-nil}
use Rattle.std.specs.List.{AllByRecursion as Every, list_any}
use Rattle.std.specs.Ordering.{eq_by_cmp, is_gt}
use Rattle.std.proofs.lemmas.Bool.{le-leb}
use Rattle.std.proofs.lemmas.Bool.Decides.{leb_tells}
use Rattle.std.proofs.lemmas.List.Quantifiers.{all_pairs_push}
use Rattle.lie_math.specs.Monomial.{Monomial, monomial_cmp, exponent, single}
use Rattle.lie_math.specs.Polynomial.{WholePolynomial, terms, coefficient, polynomial_of}
use Rattle.lie_math.proofs.FiniteSum.{key}
use Rattle.lie_math.proofs.Integer.{zero_or_not}
use Rattle.lie_math.proofs.Monomial.{same_monomial}
use Rattle.lie_geometry.specs.Coordinates.{Space, Coordinate, coordinate, number}
use Rattle.lie_geometry.specs.SolvedEquations.{SolvedEquation, is_lead}
use Rattle.lie_ring.specs.Rankings.{IsRanking}
use Rattle.lie_math.proofs.EveryElement.{every-append, every-weaken}
use Rattle.lie_jet.specs.Jets.{IsSmall}
use Rattle.lie_system.specs.Systems.{EquationRead}
use Rattle.lie_system.proofs.LeadNumbers.{high_number}
use Rattle.lie_system.proofs.Entries.{at_entry}
use Rattle.lie_solved.proofs.OneForm.{not_less_test}
use Rattle.lie_solved.specs.declared.solved.NotKind.{NotKind}
use Rattle.lie_solved.specs.declared.solved.NotKind.TheVariants.{NoDerivative, LeadNotLinear, LeadRepeated, LeadInside}
use Rattle.lie_solved.specs.Leads.{JetOrder, Occurs, IsDerivative, HasNoDerivative, IsGreatestUnder, IsLeadUnder, IsLeadByUnder, IsLinearIn, ranked}
use Rattle.lie_solved.specs.SolvedForms.{IsSolvedUnder}
use Rattle.lie_solved.specs.Refusals.{ArePassedUnder, IsReachedUnder, HasNoLead, IsFirstInside, IsRefusedUnder}
use Rattle.lie_system.specs.Written.{IsLow, IsWritten}
use Rattle.lie_solved.specs.Equations.{rest_of, is_plain, variables_of}
use Rattle.lie_solved.specs.Laws.{SystemsAreSolvedOrRefused}
use Rattle.lie_solved.proofs.Greatest.{rank_itself, rank_through}
use Rattle.lie_solved.proofs.Leading.{not_less}
use Rattle.lie_solved.proofs.LinearTerms.{IsAlone, entries_have}
use Rattle.lie_solved.proofs.OtherTerms.{free_rest, sides}
use Rattle.lie_solved.proofs.RuleSteps.{positive_of, turned_plain, not_lead_at, solved-append, none_every, some_not_every, form_is}
use Rattle.lie_solved.proofs.Variables.{every_occurs, occurs_in, every_in, in_every}

-- ---- the greatest derivative
-- v is no derivative that is greater than w
abbrev IsNotAbove : JetOrder → Space → ℕ → ℕ → Type 0
IsNotAbove rank S w v = S.p + S.q ≤ v → is_gt (rank (ranked (coordinate S v)) (ranked (coordinate S w))) ≡ false

-- w is a derivative with Q, and none of the coordinates is greater
record IsGreatestAmong (rank : JetOrder) (S : Space) (Q : ℕ → Type 0) (ws : List ℕ) (w : ℕ) : Type 0 where
  derivative : S.p + S.q ≤ w
  has : Q w
  greatest : Every (IsNotAbove rank S w) ws

above : JetOrder → Space → ℕ → ℕ → Bool
above rank S w v = leb (S.p + S.q) v && is_gt (rank (ranked (coordinate S v)) (ranked (coordinate S w)))

not_low : (a b : ℕ) → ltb a b ≡ false → b ≤ a
not_low a b e = grind (arith, leb_tells)

module _ (rank : JetOrder) (ranking : IsRanking rank) (S : Space) where
  low_not_above : (w v : ℕ) → ltb v (S.p + S.q) ≡ true → IsNotAbove rank S w v
  low_not_above w v e = λ d. absurd (not_less v (S.p + S.q) e d)

  greatest_among : (Q : ℕ → Type 0) (ws : List ℕ) → Every Q ws → Every (λ w. ltb w (S.p + S.q) ≡ true) ws ⊎ ((w : ℕ) × IsGreatestAmong rank S Q ws w)
  greatest_among Q [] h = inl tt
  greatest_among Q (v ∷ ws) h = go (ltb v (S.p + S.q)) refl (greatest_among Q ws h.1)
    where
      itself : IsNotAbove rank S v v
      itself = λ d. rank_itself rank ranking (ranked (coordinate S v))

      greater : (w : ℕ) → IsGreatestAmong rank S Q ws w → S.p + S.q ≤ v → (b : Bool) → is_gt (rank (ranked (coordinate S v)) (ranked (coordinate S w))) ≡ b → (w : ℕ) × IsGreatestAmong rank S Q (v ∷ ws) w
      greater w g high true e =
          (v, record { derivative = high; has = h.0; greatest = (itself, every-weaken (IsNotAbove rank S w) (IsNotAbove rank S v) (λ u n d. rank_through rank ranking (ranked (coordinate S u)) (ranked (coordinate S w)) (ranked (coordinate S v)) (n d) e) ws g.greatest) })
      greater w g high false e = (w, record { derivative = g.derivative; has = g.has; greatest = ((λ d. e), g.greatest) })

      go : (b : Bool) → ltb v (S.p + S.q) ≡ b → Every (λ w. ltb w (S.p + S.q) ≡ true) ws ⊎ ((w : ℕ) × IsGreatestAmong rank S Q ws w) → Every (λ w. ltb w (S.p + S.q) ≡ true) (v ∷ ws) ⊎ ((w : ℕ) × IsGreatestAmong rank S Q (v ∷ ws) w)
      go true e (inl low) = inl (e, low)
      go true e (inr x) = inr (x.0, record { derivative = x.1.derivative; has = x.1.has; greatest = (low_not_above x.0 v e, x.1.greatest) })
      go false e (inl low) =
          inr (v, record { derivative = not_low v (S.p + S.q) e; has = h.0; greatest = (itself, every-weaken (λ w. ltb w (S.p + S.q) ≡ true) (IsNotAbove rank S v) (low_not_above v) ws low) })
      go false e (inr x) = inr (greater x.0 x.1 (not_low v (S.p + S.q) e) (is_gt (rank (ranked (coordinate S v)) (ranked (coordinate S x.0)))) refl)

  -- the greatest one among the variables is the greatest one that occurs
  greatest_is : (P : WholePolynomial) (w : ℕ) → IsGreatestAmong rank S (λ v. Occurs v P) (variables_of P.list) w → IsGreatestUnder rank S P w
  unfolding above
  greatest_is P w g = record {
    derivative = g.derivative;
    occurs = g.has;
    greatest = λ v d o e. clash (leb (S.p + S.q) v) (le-leb (S.p + S.q) v d) (is_gt (rank (ranked (coordinate S v)) (ranked (coordinate S w)))) (ap is_gt e) (occurs_in (λ v. not (above rank S w v)) P none v o);
  }
    where
      high : (v : ℕ) → leb (S.p + S.q) v ≡ true → S.p + S.q ≤ v
      high v e = grind (arith, leb_tells)

      test : (a b : Bool) → (a ≡ true → b ≡ false) → not (a && b) ≡ true
      test true b h = ap not (h refl)
      test false b h = refl

      none : (v : ℕ) → not (above rank S w v) ≡ false → (m : Monomial) → ¬ (coefficient P m ≡ pos 0) → exponent m v ≡ 0
      none = in_every (λ v. not (above rank S w v)) P (every-weaken (IsNotAbove rank S w) (λ v. not (above rank S w v) ≡ true) (λ v n. test (leb (S.p + S.q) v) (is_gt (rank (ranked (coordinate S v)) (ranked (coordinate S w)))) (λ e. n (high v e))) (variables_of P.list) g.greatest)

      clash : (a : Bool) → a ≡ true → (b : Bool) → b ≡ true → not (a && b) ≡ true → ⊥
      clash true p true q r = true≢false (sym r)
      clash true p false q r = true≢false (sym q)
      clash false p b q r = true≢false (sym p)

-- ---- the lead
record FoundLead (rank : JetOrder) (S : Space) (e : EquationRead) : Type 0 where
  some : ¬ (HasNoDerivative S e.diff)
  lead : ℕ
  derivative : IsDerivative S lead
  is : IsLeadUnder rank S e lead

module _ (rank : JetOrder) (ranking : IsRanking rank) (S : Space) (small : IsSmall S) where
  found : (e : EquationRead) → IfSome e.lead (IsLow S) → HasNoDerivative S e.diff ⊎ FoundLead rank S e
  found e h = elim (greatest_among rank ranking S (λ v. Occurs v e.diff) (variables_of (e.diff).list) (every_occurs e.diff)) [
    | inl low ↦ inl (in_every (λ w. ltb w (S.p + S.q)) e.diff low)
    | inr x ↦ inr (let l = lead_by x.0 x.1 e.lead h in record { some = λ none. some_is x.0 x.1 none; lead = l.0; derivative = l.1; is = l.2 })
  ]
    where
      some_is : (w : ℕ) → IsGreatestAmong rank S (λ v. Occurs v e.diff) (variables_of (e.diff).list) w → HasNoDerivative S e.diff → ⊥
      some_is w g none = (g.has).2 (none w (not_less_test w (S.p + S.q) g.derivative) (g.has).0 (g.has).1)

      lead_by : (w : ℕ) → IsGreatestAmong rank S (λ v. Occurs v e.diff) (variables_of (e.diff).list) w → (o : Option Coordinate) → IfSome o (IsLow S) → (v : ℕ) × IsDerivative S v × IsLeadByUnder rank S o e.diff v
      lead_by w g None h = (w, g.derivative, greatest_is rank ranking S e.diff w g)
      lead_by w g (Some c) h = (number S c, high_number S small c h.coordinate h.some, refl)

-- ---- a lead that is a term alone
alone_or_not : (w : ℕ) (P : WholePolynomial) (ts : List (Monomial × ℤ)) → Every (λ (t : Monomial × ℤ). (coefficient P t.0 ≡ t.1) × ¬ (t.1 ≡ pos 0)) ts → IsAlone w ts ⊎ ¬ (IsLinearIn w P)
alone_or_not w P [] h = inl tt
alone_or_not w P (t ∷ ts) h = go (eqb (exponent t.0 w) 0) refl (eq_by_cmp monomial_cmp t.0 (single w)) refl (alone_or_not w P ts h.1)
  where
    go : (a : Bool) → eqb (exponent t.0 w) 0 ≡ a → (b : Bool) → eq_by_cmp monomial_cmp t.0 (single w) ≡ b → IsAlone w ts ⊎ ¬ (IsLinearIn w P) → IsAlone w (t ∷ ts) ⊎ ¬ (IsLinearIn w P)
    go a p b q (inr n) = inr n
    go true p b q (inl k) = inl ((λ n. absurd (n (eqb→eq (exponent t.0 w) 0 (subst T (sym p) tt)))), k)
    go false p true q (inl k) = inl ((λ n. key terms t.0 (single w) q), k)
    go false p false q (inl k) =
        inr (λ l. true≢false (sym (ap (λ m. eq_by_cmp monomial_cmp m (single w)) (l.alone t.0 (λ z. h.0.1 (sym h.0.0 ∙ z)) (λ z. true≢false (sym (ap (λ n. eqb n 0) z) ∙ p))) ∙ same_monomial (single w)) ∙ q))

linear_or_not : (w : ℕ) (P : WholePolynomial) → IsLinearIn w P ⊎ ¬ (IsLinearIn w P)
linear_or_not w P = elim (zero_or_not (coefficient P (single w))) [
  | inl z ↦ inr (λ l. l.term z)
  | inr n ↦ (elim (alone_or_not w P P.list (entries_have P)) [ inl k ↦ inl (record { term = n; alone = at_entry (λ m. ¬ (exponent m w ≡ 0) → m ≡ single w) P.list k }) | inr other ↦ inr other ])
]

-- the rule of such an equation
rule_of : (rank : JetOrder) (S : Space) (e : EquationRead) (w : ℕ) → IsDerivative S w → IsLeadUnder rank S e w → IsLinearIn w e.diff → (r : SolvedEquation) × IsSolvedUnder rank S e r
rule_of rank S e w derivative lead linear =
    let c : ℤ = coefficient e.diff (single w) in
    let r : SolvedEquation = record { lead = w; factor = pos (unsigned_abs c); right = polynomial_of (rest_of w (is_plain c) (e.diff).list) } in
    (r, record { lead = lead; derivative = derivative; positive = positive_of c linear.term; free = free_rest w (is_plain c) e.diff; same = sides w e.diff c (record { linear = linear; coefficient = refl }) (is_plain c) r refl (turned_plain c) refl })

-- ---- one equation
IsSomewhereRefused : JetOrder → Space → List EquationRead → Type 0
IsSomewhereRefused rank S es = (kind : NotKind) × (k : ℕ) × IsRefusedUnder rank S es kind k

record NextRule (rank : JetOrder) (S : Space) (rs : List SolvedEquation) (e : EquationRead) : Type 0 where
  rule : SolvedEquation
  solves : IsSolvedUnder rank S e rule
  new : is_lead rs rule.lead ≡ false

module _ (rank : JetOrder) (ranking : IsRanking rank) (S : Space) (small : IsSmall S) (es : List EquationRead) where
  rule_or_refusal : (k : ℕ) (rs : List SolvedEquation) (e : EquationRead) → IsReachedUnder rank S es k rs e → IfSome e.lead (IsLow S) → NextRule rank S rs e ⊎ IsSomewhereRefused rank S es
  unfolding IsSomewhereRefused
  rule_or_refusal k rs e at h = elim (found rank ranking S small e h) [
    | inl none ↦ inr (NoDerivative, k, (rs, e, at, none))
    | inr f ↦ (elim (linear_or_not f.lead e.diff) [
      | inl l ↦ (let r = rule_of rank S e f.lead f.derivative f.is l in fresh r.0 r.1 (is_lead rs (r.0).lead) refl)
      | inr bent ↦ inr (LeadNotLinear, k, (rs, e, at, record { some = f.some; lead = f.lead; is = f.is; bent = bent }))
    ])
  ]
    where
      fresh : (r : SolvedEquation) → IsSolvedUnder rank S e r → (b : Bool) → is_lead rs r.lead ≡ b → NextRule rank S rs e ⊎ IsSomewhereRefused rank S es
      fresh r s true q = inr (LeadRepeated, k, (rs, e, at, record { rule = r; solves = s; repeated = q }))
      fresh r s false q = inl (record { rule = r; solves = s; new = q })

  passed_more : (before : List EquationRead) (rs : List SolvedEquation) (e : EquationRead) → ArePassedUnder rank S before rs → (n : NextRule rank S rs e) → ArePassedUnder rank S (before ++ e ∷ []) (rs ++ n.rule ∷ [])
  passed_more before rs e h n = record {
    equations = solved-append rank S before rs e n.rule h.equations n.solves;
    leads = all_pairs_push (λ r s. ¬ (r.lead ≡ s.lead)) rs n.rule h.leads (λ j d lt. not_lead_at rs (n.rule).lead j d n.new lt);
  }

  -- ---- all equations
  rules_from : (after before : List EquationRead) (rs : List SolvedEquation) → es ≡ before ++ after → ArePassedUnder rank S before rs → Every (λ e. IfSome e.lead (IsLow S)) after → ((ss : List SolvedEquation) × ArePassedUnder rank S es ss) ⊎ IsSomewhereRefused rank S es
  rules_from [] before rs e p h = inl (rs, subst (λ xs. ArePassedUnder rank S xs rs) (sym (e ∙ append-nil before)) p)
  rules_from (x ∷ after) before rs e p h =
      elim (rule_or_refusal (suc (length before)) rs x (record { before = before; after = after; place = e; number = refl; passed = p }) h.0) [
        | inl n ↦ rules_from after (before ++ x ∷ []) (rs ++ n.rule ∷ []) (e ∙ sym (append_assoc before (x ∷ []) after)) (passed_more before rs x p n) h.1
        | inr other ↦ inr other
      ]

-- ---- leads inside
inside_or_not : (rs after before : List SolvedEquation) → rs ≡ before ++ after → Every (HasNoLead rs) before → Every (HasNoLead rs) rs ⊎ ((k : ℕ) × IsFirstInside rs k)
inside_or_not rs [] before e h = inl (subst (Every (HasNoLead rs)) (sym (e ∙ append-nil before)) h)
inside_or_not rs (r ∷ after) before e h =
    go (list_any (is_lead rs) (variables_of (r.right).list)) refl (λ none. inside_or_not rs after (before ++ r ∷ []) (e ∙ sym (append_assoc before (r ∷ []) after)) (every-append (HasNoLead rs) before (r ∷ []) h (none, tt)))
  where
    go : (b : Bool) → list_any (is_lead rs) (variables_of (r.right).list) ≡ b → (HasNoLead rs r → Every (HasNoLead rs) rs ⊎ ((k : ℕ) × IsFirstInside rs k)) → Every (HasNoLead rs) rs ⊎ ((k : ℕ) × IsFirstInside rs k)
    go true q more = inr (suc (length before), record { before = before; rule = r; after = after; place = e; number = refl; none = h; inside = λ k. some_not_every (is_lead rs) (variables_of (r.right).list) q (every_in (λ w. not (is_lead rs w)) r.right k) })
    go false q more = more (in_every (λ w. not (is_lead rs w)) r.right (none_every (is_lead rs) (variables_of (r.right).list) q))

-- ---- the law
none_passed : (rank : JetOrder) (S : Space) → ArePassedUnder rank S [] []
none_passed rank S = record { equations = tt; leads = λ i j d lt len. absurd (omega arith) }

pub systems_are_solved_or_refused : SystemsAreSolvedOrRefused
unfolding IsSomewhereRefused
systems_are_solved_or_refused rank ranking S small es h =
    elim (rules_from rank ranking S small es es [] [] refl (none_passed rank S) (every-weaken (IsWritten S) (λ e. IfSome e.lead (IsLow S)) (λ e w. w.lead) es h.equations)) [
      | inl p ↦ (elim (inside_or_not p.0 p.0 [] refl tt) [ inl none ↦ inl (p.0, form_is rank S es p.0 p.1 none) | inr x ↦ inr (LeadInside, x.0, (p.0, p.1, x.1)) ])
      | inr other ↦ inr other
    ]
