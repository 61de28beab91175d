-- Equations of the same polynomial and the same lead have the same solved form, and are refused alike. So are those of a system where a derivative alone is given as the lead.
use Rattle.std.specs.Prelude.{◌≡◌, ◌↔◌, ℕ, suc, ◌+◌, ◌≤◌, ◌⊎◌, Bool, true, false, cond, List, [], ◌∷◌, ◌++◌, length, map, pos, Option, Some, None}
use Rattle.std.specs.Ordering.{eq_by_cmp, nat_cmp}
use Rattle.std.proofs.Common.{refl, sym, ap, subst, ◌∙◌, Ordering, Equal, Greater}
use Rattle.std.proofs.lemmas.Cmp.{tied_itself}
use Rattle.lie_math.specs.FiniteSumLaws.{value-term}
use Rattle.lie_math.specs.Monomial.{Monomial, monomial_cmp, powers, exponent, single}
use Rattle.lie_math.specs.Polynomial.{WholePolynomial, terms, negᴾ, variable}
use Rattle.lie_math.proofs.FiniteSum.{key}
use Rattle.lie_math.proofs.Limits.{coefficient-term}
use Rattle.lie_math.proofs.Monomial.{exponent-single}
use Rattle.lie_geometry.specs.Coordinates.{Space, Coordinate, coordinate, number}
use Rattle.lie_geometry.specs.SolvedEquations.{SolvedEquation, difference}
use Rattle.lie_geometry.proofs.Numbers.{coordinate_is}
use Rattle.lie_ring.specs.Rankings.{Ranked, IsRanking}
use Rattle.lie_jet.specs.Jets.{IsSmall}
use Rattle.lie_system.specs.LeadsAlone.{lead_alone, lead_or}
use Rattle.lie_system.specs.Systems.{EquationRead}
use Rattle.lie_system.proofs.DerivativesAlone.{AreDerivative, alone-is, variable_is}
use Rattle.lie_solved.specs.declared.solved.NotKind.{NotKind}
use Rattle.lie_solved.specs.declared.solved.NotKind.TheVariants.{NoDerivative, LeadNotLinear, LeadRepeated, LeadInside}
use Rattle.lie_solved.specs.Leads.{JetOrder, Occurs, ranked, HasNoDerivative, IsGreatestUnder, IsLeadUnder, IsLeadByUnder, IsLinearIn}
use Rattle.lie_solved.specs.SolvedForms.{IsSolvedUnder, AreSolvedUnder, IsSolvedFormUnder}
use Rattle.lie_solved.specs.Refusals.{ArePassedUnder, IsReachedUnder, HasLeadNotLinearUnder, HasLeadRepeatedUnder, IsRefusedUnder}
use Rattle.lie_solved.specs.Laws.{LeadsKeepSolvedForm, LeadsKeepRefusal}
use Rattle.lie_solved.proofs.OneForm.{greatest_same, has_single}

-- ---- alike equations
-- what is the lead of e is that of f
record IsAlike (rank : JetOrder) (S : Space) (e f : EquationRead) : Type 0 where
  diff : e.diff ≡ f.diff
  lead : (w : ℕ) → IsLeadUnder rank S e w → IsLeadUnder rank S f w

abbrev AreAlike : JetOrder → Space → List EquationRead → List EquationRead → Type 0
AreAlike rank S [] [] = Unit {0}
AreAlike rank S [] (f ∷ fs) = ⊥
AreAlike rank S (e ∷ es) [] = ⊥
AreAlike rank S (e ∷ es) (f ∷ fs) = IsAlike rank S e f × AreAlike rank S es fs

record Parted (rank : JetOrder) (S : Space) (before : List EquationRead) (e : EquationRead) (fs : List EquationRead) : Type 0 where
  first : List EquationRead
  other : EquationRead
  rest : List EquationRead
  place : fs ≡ first ++ other ∷ rest
  many : length before ≡ length first
  earlier : AreAlike rank S before first
  alike : IsAlike rank S e other

module _ (rank : JetOrder) (S : Space) where
  parted : (before : List EquationRead) (e : EquationRead) (after fs : List EquationRead) → AreAlike rank S (before ++ e ∷ after) fs → Parted rank S before e fs
  parted [] e after [] h = absurd h
  parted [] e after (f ∷ fs) h = record { first = []; other = f; rest = fs; place = refl; many = refl; earlier = tt; alike = h.0 }
  parted (d ∷ before) e after [] h = absurd h
  parted (d ∷ before) e after (f ∷ fs) h =
      let m = parted before e after fs h.1 in
      record { first = f ∷ m.first; other = m.other; rest = m.rest; place = ap (λ l. f ∷ l) m.place; many = ap suc m.many; earlier = (h.0, m.earlier); alike = m.alike }

  -- ---- what is said of the ones is said of the others
  none_too : (e f : EquationRead) → IsAlike rank S e f → HasNoDerivative S e.diff → HasNoDerivative S f.diff
  none_too e f h none = subst (HasNoDerivative S) h.diff none

  none_back : (e f : EquationRead) → IsAlike rank S e f → HasNoDerivative S f.diff → HasNoDerivative S e.diff
  none_back e f h none = subst (HasNoDerivative S) (sym h.diff) none

  solved_too : (e f : EquationRead) (r : SolvedEquation) → IsAlike rank S e f → IsSolvedUnder rank S e r → IsSolvedUnder rank S f r
  solved_too e f r h s = record {
    lead = h.lead r.lead s.lead;
    derivative = s.derivative;
    positive = s.positive;
    free = s.free;
    same = subst (λ (p : WholePolynomial). (difference r ≡ p) ⊎ (difference r ≡ negᴾ p)) h.diff s.same;
  }

  all_solved_too : (es fs : List EquationRead) (rs : List SolvedEquation) → AreAlike rank S es fs → AreSolvedUnder rank S es rs → AreSolvedUnder rank S fs rs
  all_solved_too [] [] rs h s = s
  all_solved_too [] (f ∷ fs) rs h s = absurd h
  all_solved_too (e ∷ es) [] rs h s = absurd h
  all_solved_too (e ∷ es) (f ∷ fs) [] h s = absurd s
  all_solved_too (e ∷ es) (f ∷ fs) (r ∷ rs) h s = (solved_too e f r h.0 s.0, all_solved_too es fs rs h.1 s.1)

  passed_too : (es fs : List EquationRead) (rs : List SolvedEquation) → AreAlike rank S es fs → ArePassedUnder rank S es rs → ArePassedUnder rank S fs rs
  passed_too es fs rs h p = record { equations = all_solved_too es fs rs h p.equations; leads = p.leads }

  reached_too : (es fs : List EquationRead) (k : ℕ) (rs : List SolvedEquation) (e : EquationRead) → AreAlike rank S es fs → IsReachedUnder rank S es k rs e → (f : EquationRead) × IsAlike rank S e f × IsReachedUnder rank S fs k rs f
  reached_too es fs k rs e h at =
      let m = parted at.before e at.after fs (subst (λ l. AreAlike rank S l fs) at.place h) in
      (m.other, m.alike, record { before = m.first; after = m.rest; place = m.place; number = at.number ∙ ap suc m.many; passed = passed_too at.before m.first rs m.earlier at.passed })

  bent_too : (e f : EquationRead) → IsAlike rank S e f → HasLeadNotLinearUnder rank S e → HasLeadNotLinearUnder rank S f
  bent_too e f h b = record {
    some = λ none. b.some (none_back e f h none);
    lead = b.lead;
    is = h.lead b.lead b.is;
    bent = λ l. b.bent (subst (IsLinearIn b.lead) (sym h.diff) l);
  }

  repeated_too : (e f : EquationRead) (rs : List SolvedEquation) → IsAlike rank S e f → HasLeadRepeatedUnder rank S e rs → HasLeadRepeatedUnder rank S f rs
  repeated_too e f rs h r = record { rule = r.rule; solves = solved_too e f r.rule h r.solves; repeated = r.repeated }

  form_too : (es fs : List EquationRead) (rs : List SolvedEquation) → AreAlike rank S es fs → IsSolvedFormUnder rank S es rs → IsSolvedFormUnder rank S fs rs
  form_too es fs rs h s = record { equations = all_solved_too es fs rs h s.equations; solved = s.solved }

  refused_too : (es fs : List EquationRead) (kind : NotKind) (k : ℕ) → AreAlike rank S es fs → IsRefusedUnder rank S es kind k → IsRefusedUnder rank S fs kind k
  refused_too es fs NoDerivative k h (rs, e, at, none) = let m = reached_too es fs k rs e h at in (rs, m.0, m.2, none_too e m.0 m.1 none)
  refused_too es fs LeadNotLinear k h (rs, e, at, bent) = let m = reached_too es fs k rs e h at in (rs, m.0, m.2, bent_too e m.0 m.1 bent)
  refused_too es fs LeadRepeated k h (rs, e, at, repeated) = let m = reached_too es fs k rs e h at in (rs, m.0, m.2, repeated_too e m.0 rs m.1 repeated)
  refused_too es fs LeadInside k h (rs, passed, inside) = (rs, passed_too es fs rs h passed, inside)

-- ---- a derivative alone
-- a variable has no other one
occurs_only : (n v : ℕ) → Occurs v (variable n) → v ≡ n
occurs_only n v o = go (eq_by_cmp monomial_cmp o.0 (single n)) refl
  where
    same : o.0 ≡ single n → (b : Bool) → eq_by_cmp nat_cmp v n ≡ b → v ≡ n
    same e true q = key powers v n q
    same e false q = absurd (o.2 (ap (λ (m : Monomial). exponent m v) e ∙ exponent-single n v ∙ ap (λ b. cond b 1 0) q))

    go : (b : Bool) → eq_by_cmp monomial_cmp o.0 (single n) ≡ b → v ≡ n
    go true q = same (key terms o.0 (single n) q) (eq_by_cmp nat_cmp v n) refl
    go false q = absurd (o.1 (value-term terms (single n) (pos 1) o.0 ∙ ap (λ b. cond b (pos 1) (pos 0)) q))

-- it is the greatest derivative of itself
greatest_alone : (rank : JetOrder) → IsRanking rank → (S : Space) (n : ℕ) → S.p + S.q ≤ n → IsGreatestUnder rank S (variable n) n
greatest_alone rank ranking S n high = record {
  derivative = high;
  occurs = (single n, (λ z. nothing (sym (coefficient-term (single n) (pos 1)) ∙ z)), has_single n);
  greatest = λ v d o g. not_greater (ranked (coordinate S n)) (ap (λ u. rank (ranked (coordinate S u)) (ranked (coordinate S n))) (sym (occurs_only n v o)) ∙ g);
}
  where
    nothing : pos 1 ≡ pos 0 → ⊥
    nothing e = absurd (cc)

    clash : (r : Ordering) → r ≡ Equal → r ≡ Greater → ⊥
    clash r e g = absurd (let s : Equal ≡ Greater = sym e ∙ g in cc)

    not_greater : (d : Ranked) → rank d d ≡ Greater → ⊥
    not_greater d g = clash (rank d d) (tied_itself ranking.total d) g

-- ---- the equations of a system
abbrev with_lead : Space → EquationRead → EquationRead
with_lead S e = record { lead = lead_or e.lead (lead_alone S (e.diff).list); diff = e.diff }

module _ (rank : JetOrder) (ranking : IsRanking rank) (S : Space) (small : IsSmall S) where
  -- the lead of a derivative alone
  same_alone : (P : WholePolynomial) (c : Coordinate) → AreDerivative S P.list c → (w : ℕ) → IsGreatestUnder rank S P w ↔ (w ≡ number S c)
  same_alone P c h w =
      let is : P ≡ variable (number S c) = variable_is S small P c h in
      let n : number S c ≡ h.variable = ap (number S) (sym h.is) ∙ (coordinate_is S small.some_p small.some_q h.variable).1 in
      let g : IsGreatestUnder rank S P (number S c) = subst (λ p. IsGreatestUnder rank S p (number S c)) (sym is) (greatest_alone rank ranking S (number S c) (subst (λ k. S.p + S.q ≤ k) (sym n) h.derivative)) in
      ((λ k. greatest_same rank ranking S (small.some_p, small.some_q) P w (number S c) k g), (λ e. subst (IsGreatestUnder rank S P) (sym e) g))

  same_lead : (P : WholePolynomial) (o : Option Coordinate) (w : ℕ) → IsLeadByUnder rank S o P w ↔ IsLeadByUnder rank S (lead_or o (lead_alone S P.list)) P w
  same_lead P (Some c) w = ((λ h. h), (λ h. h))
  same_lead P None w = go (lead_alone S P.list) refl
    where
      go : (a : Option Coordinate) → lead_alone S P.list ≡ a → IsGreatestUnder rank S P w ↔ IsLeadByUnder rank S a P w
      go None e = ((λ h. h), (λ h. h))
      go (Some c) e = same_alone P c (alone-is S P.list c e) w

  alike : (es : List EquationRead) → AreAlike rank S es (map (with_lead S) es)
  alike [] = tt
  alike (e ∷ es) = (record { diff = refl; lead = λ w. (same_lead e.diff e.lead w).0 }, alike es)

  alike_back : (es : List EquationRead) → AreAlike rank S (map (with_lead S) es) es
  alike_back [] = tt
  alike_back (e ∷ es) = (record { diff = refl; lead = λ w. (same_lead e.diff e.lead w).1 }, alike_back es)

-- ---- the laws
pub leads_keep_solved_form : LeadsKeepSolvedForm
leads_keep_solved_form rank ranking s small rs =
    (form_too rank s.space (map (with_lead s.space) s.equations) s.equations rs (alike_back rank ranking s.space small s.equations), form_too rank s.space s.equations (map (with_lead s.space) s.equations) rs (alike rank ranking s.space small s.equations))

pub leads_keep_refusal : LeadsKeepRefusal
leads_keep_refusal rank ranking s small kind k =
    (refused_too rank s.space (map (with_lead s.space) s.equations) s.equations kind k (alike_back rank ranking s.space small s.equations), refused_too rank s.space s.equations (map (with_lead s.space) s.equations) kind k (alike rank ranking s.space small s.equations))
