-- A system has one solved form at most, and none where it is refused.
use Rattle.std.specs.Prelude.{◌≡◌, ℕ, suc, ◌+◌, ◌<◌, ◌≤◌, ◌⊎◌, ◌||◌, Bool, true, false, cond, eqb, T, List, [], ◌∷◌, ◌++◌, length, get_or, ℤ, pos, negsuc, ◌+ℤ◌, ◌*ℤ◌, Option, Some, None, AllPairs}
use Rattle.std.proofs.Common.{refl, sym, ap, ap₂, subst, ◌∙◌, arith, inl, inr, ltb, true≢false, eqb→eq, Ordering, Less, Equal, Greater}
use borrow.Author.Differences.{ints}
use Rattle.std.specs.List.{AllByRecursion as Every}
use Rattle.std.specs.Ordering.{eq_by_cmp, ordering_reverse}
use Rattle.std.proofs.lemmas.List.Elements.{recursion_from_All}
use Rattle.lie_math.proofs.Integer.{zero_or_not}
use Rattle.lie_math.specs.FiniteSumLaws.{ext, value-plus, value-term}
use Rattle.lie_math.specs.Monomial.{Monomial, monomial_cmp, exponent, single}
use Rattle.lie_math.specs.Polynomial.{WholePolynomial, terms, coefficient, constant, variable, ◌*ᴾ◌, negᴾ}
use Rattle.lie_math.specs.Variables.{FreeOf}
use Rattle.lie_math.proofs.FiniteSum.{key}
use Rattle.lie_math.proofs.Monomial.{same_monomial}
use Rattle.lie_math.proofs.Weighing.{coefficient-constant_times}
use Rattle.lie_geometry.specs.Coordinates.{Space, Coordinate, independent, jet, IsCoordinate, number, coordinate}
use Rattle.lie_geometry.specs.CoordinateLaws.{IsSpace}
use Rattle.lie_geometry.specs.SolvedEquations.{SolvedEquation, difference, is_lead}
use Rattle.lie_geometry.proofs.Numbers.{coordinate_is}
use Rattle.lie_ring.specs.Rankings.{IsRanking}
use Rattle.lie_system.specs.Systems.{EquationRead}
use Rattle.lie_solved.specs.declared.solved.NotKind.TheVariants.{NoDerivative, LeadNotLinear, LeadRepeated, LeadInside}
use Rattle.lie_solved.specs.Leads.{JetOrder, IsGreatestUnder, IsLeadUnder, IsLeadByUnder, IsLinearIn, ranked}
use Rattle.lie_solved.specs.SolvedForms.{IsSolvedUnder, AreSolvedUnder}
use Rattle.lie_solved.specs.Refusals.{HasNoLead}
use Rattle.lie_solved.specs.Laws.{SolvedFormIsOne, RefusedHasNoForm}
use Rattle.lie_solved.proofs.LinearTerms.{exponent_single}
use Rattle.std.proofs.lemmas.Bool.Decides.{nat_tests}

pub not_less_test : (a b : ℕ) → b ≤ a → ltb a b ≡ false
not_less_test a b h = grind (arith, nat_tests, h)

-- ---- one lead
ranked_same : (S : Space) (c d : Coordinate) → IsCoordinate S c → IsCoordinate S d → S.p ≤ number S c → S.p ≤ number S d → ranked c ≡ ranked d → c ≡ d
unfolding number
ranked_same S (independent i) d h k l m e = absurd (omega arith)
ranked_same S (jet a J) (independent i) h k l m e = absurd (omega arith)
ranked_same S (jet a J) (jet b K) h k l m e = ap₂ jet (ap (λ (r : List ℕ × ℕ). r.1) e) (ap (λ (r : List ℕ × ℕ). r.0) e)

tied : (r s : Ordering) → r ≡ ordering_reverse s → ¬ (r ≡ Greater) → ¬ (s ≡ Greater) → r ≡ Equal
tied Less Less e h k = absurd (k (cc))
tied Less Equal e h k = absurd (h (cc))
tied Less Greater e h k = absurd (k refl)
tied Equal s e h k = refl
tied Greater s e h k = absurd (h refl)

module _ (rank : JetOrder) (ranking : IsRanking rank) (S : Space) (is : IsSpace S) where
  pub greatest_same : (P : WholePolynomial) (v w : ℕ) → IsGreatestUnder rank S P v → IsGreatestUnder rank S P w → v ≡ w
  greatest_same P v w h k =
      let cv = coordinate_is S is.0 is.1 v in
      let cw = coordinate_is S is.0 is.1 w in
      let dv : S.p + S.q ≤ v = h.derivative in
      let dw : S.p + S.q ≤ w = k.derivative in
      let lv : S.p ≤ number S (coordinate S v) = let e = cv.1 in omega arith in
      let lw : S.p ≤ number S (coordinate S w) = let e = cw.1 in omega arith in
      let e = tied (rank (ranked (coordinate S v)) (ranked (coordinate S w))) (rank (ranked (coordinate S w)) (ranked (coordinate S v))) (ranking.total.antisymm (ranked (coordinate S v)) (ranked (coordinate S w)))
      (k.greatest v h.derivative h.occurs) (h.greatest w k.derivative k.occurs) in
      sym cv.1 ∙ ap (number S) (ranked_same S (coordinate S v) (coordinate S w) cv.0 cw.0 lv lw (ranking.same (ranked (coordinate S v)) (ranked (coordinate S w)) e)) ∙ cw.1

  pub lead_same : (e : EquationRead) (v w : ℕ) → IsLeadUnder rank S e v → IsLeadUnder rank S e w → v ≡ w
  lead_same e v w h k = go e.lead h k
    where
      go : (o : Option Coordinate) → IsLeadByUnder rank S o e.diff v → IsLeadByUnder rank S o e.diff w → v ≡ w
      go (Some c) h k = h ∙ sym k
      go None h k = greatest_same e.diff v w h k

-- ---- the coefficients of a difference
at_difference : (r : SolvedEquation) (m : Monomial) → coefficient (difference r) m ≡ r.factor *ℤ cond (eq_by_cmp monomial_cmp m (single r.lead)) (pos 1) (pos 0) +ℤ negsuc 0 *ℤ coefficient r.right m
at_difference r m =
    value-plus terms (constant r.factor *ᴾ variable r.lead) (negᴾ r.right) m
    ∙ ap₂ ◌+ℤ◌ (coefficient-constant_times r.factor (variable r.lead) m ∙ ap (λ z. r.factor *ℤ z) (value-term terms (single r.lead) (pos 1) m)) (coefficient-constant_times (negsuc 0) r.right m)

-- a polynomial has nothing at a monomial with a variable that it is free of
free_none : (w : ℕ) (p : WholePolynomial) → FreeOf w p → (m : Monomial) → ¬ (exponent m w ≡ 0) → coefficient p m ≡ pos 0
free_none w p h m n = go (zero_or_not (coefficient p m))
  where
    go : ((coefficient p m ≡ pos 0) ⊎ ¬ (coefficient p m ≡ pos 0)) → coefficient p m ≡ pos 0
    go (inl e) = e
    go (inr o) = absurd (n (h m o))

pub has_single : (w : ℕ) → ¬ (exponent (single w) w ≡ 0)
has_single w e = let o = exponent_single w in absurd (omega arith)

at_lead : (r : SolvedEquation) → FreeOf r.lead r.right → coefficient (difference r) (single r.lead) ≡ r.factor
at_lead r h =
    at_difference r (single r.lead)
    ∙ ap₂ (λ t z. r.factor *ℤ cond t (pos 1) (pos 0) +ℤ negsuc 0 *ℤ z) (same_monomial (single r.lead)) (free_none r.lead r.right h (single r.lead) (has_single r.lead)) ∙ whole r.factor
  where
    whole : (z : ℤ) → z *ℤ pos 1 +ℤ negsuc 0 *ℤ pos 0 ≡ z
    whole z = omega (arith, ints)

elsewhere : (r : SolvedEquation) → FreeOf r.lead r.right → (m : Monomial) → ¬ (exponent m r.lead ≡ 0) → ¬ (m ≡ single r.lead) → coefficient (difference r) m ≡ pos 0
elsewhere r h m n o =
    at_difference r m ∙ ap₂ (λ t z. r.factor *ℤ cond t (pos 1) (pos 0) +ℤ negsuc 0 *ℤ z) (other (eq_by_cmp monomial_cmp m (single r.lead)) refl) (free_none r.lead r.right h m n) ∙ none r.factor
  where
    other : (b : Bool) → eq_by_cmp monomial_cmp m (single r.lead) ≡ b → eq_by_cmp monomial_cmp m (single r.lead) ≡ false
    other true e = absurd (o (key terms m (single r.lead) e))
    other false e = e

    none : (z : ℤ) → z *ℤ pos 0 +ℤ negsuc 0 *ℤ pos 0 ≡ pos 0
    none z = omega (arith, ints)

-- the coefficients of the equation are those of the difference or their negatives
signed_at : (r : SolvedEquation) (P : WholePolynomial) → (difference r ≡ P) ⊎ (difference r ≡ negᴾ P) → (m : Monomial) → (coefficient (difference r) m ≡ coefficient P m) ⊎ (coefficient (difference r) m ≡ negsuc 0 *ℤ coefficient P m)
signed_at r P (inl e) m = inl (ap (λ p. coefficient p m) e)
signed_at r P (inr e) m = inr (ap (λ p. coefficient p m) e ∙ coefficient-constant_times (negsuc 0) P m)

module _ (rank : JetOrder) (S : Space) (e : EquationRead) (r : SolvedEquation) (h : IsSolvedUnder rank S e r) where
  pub apart : ¬ (coefficient e.diff (single r.lead) ≡ pos 0)
  apart z = go (signed_at r e.diff h.same (single r.lead))
    where
      positive : (x y : ℤ) (n : ℕ) → x ≡ pos (suc n) → y ≡ pos 0 → (x ≡ y) ⊎ (x ≡ negsuc 0 *ℤ y) → ⊥
      positive x y n p q (inl s) = absurd (omega (arith, ints))
      positive x y n p q (inr s) = absurd (omega (arith, ints))

      go : (coefficient (difference r) (single r.lead) ≡ coefficient e.diff (single r.lead)) ⊎ (coefficient (difference r) (single r.lead) ≡ negsuc 0 *ℤ coefficient e.diff (single r.lead)) → ⊥
      go s = positive (coefficient (difference r) (single r.lead)) (coefficient e.diff (single r.lead)) h.positive.0 (at_lead r h.free ∙ h.positive.1) z s

  pub solved_linear : IsLinearIn r.lead e.diff
  solved_linear = record { term = apart; alone = λ m n o. go m n o (eq_by_cmp monomial_cmp m (single r.lead)) refl }
    where
      none : (x y : ℤ) → x ≡ pos 0 → (x ≡ y) ⊎ (x ≡ negsuc 0 *ℤ y) → y ≡ pos 0
      none x y p (inl s) = sym s ∙ p
      none x y p (inr s) = omega (arith, ints)

      go : (m : Monomial) → ¬ (coefficient e.diff m ≡ pos 0) → ¬ (exponent m r.lead ≡ 0) → (b : Bool) → eq_by_cmp monomial_cmp m (single r.lead) ≡ b → m ≡ single r.lead
      go m n o true f = key terms m (single r.lead) f
      go m n o false f = absurd (n (none (coefficient (difference r) m) (coefficient e.diff m) (elsewhere r h.free m o (λ s. true≢false (sym (ap (λ k. eq_by_cmp monomial_cmp k (single r.lead)) s ∙ same_monomial (single r.lead)) ∙ f))) (signed_at r e.diff h.same m)))

-- ---- one rule
rule_same : (r s : SolvedEquation) → r.lead ≡ s.lead → r.factor ≡ s.factor → r.right ≡ s.right → r ≡ s
rule_same r s a b c = λ i. record { lead = a i; factor = b i; right = c i }

rights_same : (r s : SolvedEquation) → r.lead ≡ s.lead → r.factor ≡ s.factor → ((m : Monomial) → coefficient (difference r) m ≡ coefficient (difference s) m) → r.right ≡ s.right
rights_same r s l f h = ext terms r.right s.right (λ m. cancel (r.factor *ℤ cond (eq_by_cmp monomial_cmp m (single r.lead)) (pos 1) (pos 0)) (coefficient r.right m) (coefficient s.right m) (sym (at_difference r m) ∙ h m ∙ at_difference s m ∙ ap₂ (λ c w. c *ℤ cond (eq_by_cmp monomial_cmp m (single w)) (pos 1) (pos 0) +ℤ negsuc 0 *ℤ coefficient s.right m) (sym f) (sym l)))
  where
    cancel : (a x y : ℤ) → a +ℤ negsuc 0 *ℤ x ≡ a +ℤ negsuc 0 *ℤ y → x ≡ y
    cancel a x y e = omega (arith, ints)

module _ (rank : JetOrder) (ranking : IsRanking rank) (S : Space) (is : IsSpace S) where
  pub solved_same : (e : EquationRead) (r s : SolvedEquation) → IsSolvedUnder rank S e r → IsSolvedUnder rank S e s → r ≡ s
  solved_same e r s h k = rule_same r s leads factors (rights_same r s leads factors (λ m. all m (signs h.same k.same)))
    where
      leads : r.lead ≡ s.lead
      leads = lead_same rank ranking S is e r.lead s.lead h.lead k.lead

      Signs : Type 0
      Signs = ((difference r ≡ e.diff) × (difference s ≡ e.diff)) ⊎ ((difference r ≡ negᴾ e.diff) × (difference s ≡ negᴾ e.diff))

      at_s : coefficient (difference s) (single r.lead) ≡ s.factor
      at_s = ap (λ w. coefficient (difference s) (single w)) leads ∙ at_lead s k.free

      clash : (x y z : ℤ) (n m : ℕ) → x ≡ pos (suc n) → y ≡ pos (suc m) → x ≡ z → y ≡ negsuc 0 *ℤ z → ⊥
      clash x y z n m a b c d = absurd (omega (arith, ints))

      signs : (difference r ≡ e.diff) ⊎ (difference r ≡ negᴾ e.diff) → (difference s ≡ e.diff) ⊎ (difference s ≡ negᴾ e.diff) → Signs
      signs (inl a) (inl b) = inl (a, b)
      signs (inr a) (inr b) = inr (a, b)
      signs (inl a) (inr b) = absurd (clash _ _ (coefficient e.diff (single r.lead)) h.positive.0 k.positive.0 (at_lead r h.free ∙ h.positive.1) (at_s ∙ k.positive.1) (ap (λ p. coefficient p (single r.lead)) a) (ap (λ p. coefficient p (single r.lead)) b ∙ coefficient-constant_times (negsuc 0) e.diff (single r.lead)))
      signs (inr a) (inl b) = absurd (clash _ _ (coefficient e.diff (single r.lead)) k.positive.0 h.positive.0 (at_s ∙ k.positive.1) (at_lead r h.free ∙ h.positive.1) (ap (λ p. coefficient p (single r.lead)) b) (ap (λ p. coefficient p (single r.lead)) a ∙ coefficient-constant_times (negsuc 0) e.diff (single r.lead)))

      all : (m : Monomial) → Signs → coefficient (difference r) m ≡ coefficient (difference s) m
      all m (inl p) = ap (λ q. coefficient q m) (p.0 ∙ sym p.1)
      all m (inr p) = ap (λ q. coefficient q m) (p.0 ∙ sym p.1)

      factors : r.factor ≡ s.factor
      factors = sym (at_lead r h.free) ∙ all (single r.lead) (signs h.same k.same) ∙ at_s

  pub all_same : (es : List EquationRead) (rs ss : List SolvedEquation) → AreSolvedUnder rank S es rs → AreSolvedUnder rank S es ss → rs ≡ ss
  all_same [] [] [] h k = refl
  all_same [] [] (s ∷ ss) h k = absurd k
  all_same [] (r ∷ rs) ss h k = absurd h
  all_same (e ∷ es) [] ss h k = absurd h
  all_same (e ∷ es) (r ∷ rs) [] h k = absurd k
  all_same (e ∷ es) (r ∷ rs) (s ∷ ss) h k = ap₂ ◌∷◌ (solved_same e r s h.0 k.0) (all_same es rs ss h.1 k.1)

-- ---- the rule of an equation in the middle
pub record Middle (rank : JetOrder) (S : Space) (before : List EquationRead) (e : EquationRead) (rs : List SolvedEquation) : Type 0 where
  pub first : List SolvedEquation
  pub rule : SolvedEquation
  pub rest : List SolvedEquation
  pub place : rs ≡ first ++ rule ∷ rest
  pub earlier : AreSolvedUnder rank S before first
  pub solves : IsSolvedUnder rank S e rule

pub middle_of : (rank : JetOrder) (S : Space) (before : List EquationRead) (e : EquationRead) (after : List EquationRead) (rs : List SolvedEquation) → AreSolvedUnder rank S (before ++ e ∷ after) rs → Middle rank S before e rs
middle_of rank S [] e after [] h = absurd h
middle_of rank S [] e after (r ∷ rs) h = record { first = []; rule = r; rest = rs; place = refl; earlier = tt; solves = h.0 }
middle_of rank S (d ∷ before) e after [] h = absurd h
middle_of rank S (d ∷ before) e after (r ∷ rs) h =
    let m = middle_of rank S before e after rs h.1 in
    record { first = r ∷ m.first; rule = m.rule; rest = m.rest; place = ap (λ ss. r ∷ ss) m.place; earlier = (h.0, m.earlier); solves = m.solves }

-- ---- leads
at_middle : (rs : List SolvedEquation) (r : SolvedEquation) (ss : List SolvedEquation) (d : SolvedEquation) → get_or (rs ++ r ∷ ss) (length rs) d ≡ r
at_middle [] r ss d = refl
at_middle (x ∷ rs) r ss d = at_middle rs r ss d

middle_inside : (rs : List SolvedEquation) (r : SolvedEquation) (ss : List SolvedEquation) → length rs < length (rs ++ r ∷ ss)
middle_inside [] r ss = omega arith
middle_inside (x ∷ rs) r ss = let h = middle_inside rs r ss in omega arith

pub no_repeat : (rs : List SolvedEquation) (r : SolvedEquation) (ss : List SolvedEquation) → AllPairs (λ x y. ¬ (x.lead ≡ y.lead)) (rs ++ r ∷ ss) → is_lead rs r.lead ≡ true → ⊥
no_repeat [] r ss h e = true≢false (sym e)
no_repeat (x ∷ rs) r ss h e = go (eqb r.lead x.lead) refl e (no_repeat rs r ss (λ i j d lt len. h (suc i) (suc j) d (omega arith) (omega arith)))
  where
    go : (b : Bool) → eqb r.lead x.lead ≡ b → (b || is_lead rs r.lead) ≡ true → (is_lead rs r.lead ≡ true → ⊥) → ⊥
    go true f e rest =
        let in_list = middle_inside rs r ss in
        h 0 (suc (length rs)) x (omega arith) (omega arith) (sym (eqb→eq r.lead x.lead (subst T (sym f) tt)) ∙ ap (λ (y : SolvedEquation). y.lead) (sym (at_middle rs r ss x)))
    go false f e rest = rest e

pub every_middle : (Q : SolvedEquation → Type 0) (rs : List SolvedEquation) (r : SolvedEquation) (ss : List SolvedEquation) → Every Q (rs ++ r ∷ ss) → Q r
every_middle Q [] r ss h = h.0
every_middle Q (x ∷ rs) r ss h = every_middle Q rs r ss h.1

-- ---- the laws
pub solved_form_is_one : SolvedFormIsOne
solved_form_is_one rank ranking S is es rs ss h k = all_same rank ranking S is es rs ss h.equations k.equations

pub refused_has_no_form : RefusedHasNoForm
refused_has_no_form rank ranking S is es rs h NoDerivative k (ss, e, at, none) =
    let m = middle_of rank S at.before e at.after rs (subst (λ xs. AreSolvedUnder rank S xs rs) at.place h.equations) in
    has_single m.rule.lead (none m.rule.lead (not_less_test m.rule.lead (S.p + S.q) m.solves.derivative) (single m.rule.lead) (apart rank S e m.rule m.solves))
refused_has_no_form rank ranking S is es rs h LeadNotLinear k (ss, e, at, bent) =
    let m = middle_of rank S at.before e at.after rs (subst (λ xs. AreSolvedUnder rank S xs rs) at.place h.equations) in
    bent.bent (subst (λ w. IsLinearIn w e.diff) (lead_same rank ranking S is e m.rule.lead bent.lead m.solves.lead bent.is) (solved_linear rank S e m.rule m.solves))
refused_has_no_form rank ranking S is es rs h LeadRepeated k (ss, e, at, repeated) =
    let m = middle_of rank S at.before e at.after rs (subst (λ xs. AreSolvedUnder rank S xs rs) at.place h.equations) in
    let same : ss ≡ m.first = all_same rank ranking S is at.before ss m.first at.passed.equations m.earlier in
    let rule : repeated.rule ≡ m.rule = solved_same rank ranking S is e repeated.rule m.rule repeated.solves m.solves in
    no_repeat m.first m.rule m.rest (subst (λ xs. AllPairs (λ x y. ¬ (x.lead ≡ y.lead)) xs) m.place h.solved.leads) (ap₂ (λ xs (x : SolvedEquation). is_lead xs x.lead) (sym same) (sym rule) ∙ repeated.repeated)
refused_has_no_form rank ranking S is es rs h LeadInside k (ss, passed, inside) =
    let same : rs ≡ ss = all_same rank ranking S is es rs ss h.equations passed.equations in
    let none : Every (HasNoLead rs) rs = recursion_from_All (HasNoLead rs) rs h.solved.rights in
    inside.inside (every_middle (HasNoLead ss) inside.before inside.rule inside.after (subst (Every (HasNoLead ss)) inside.place (subst (λ xs. Every (HasNoLead xs) xs) same none)))
