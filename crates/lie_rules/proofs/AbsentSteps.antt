-- The rule for a derivative that is 0: what it makes, and the powers below counts.
use Rattle.std.specs.Prelude.{◌≡◌, ℕ, suc, ◌+◌, ◌<◌, Bool, true, false, cond, eqb, List, [], ◌∷◌, ◌++◌, length, map, take, get_or}
use Rattle.std.proofs.Common.{refl, sym, ap, subst, ◌∙◌, arith, append_assoc, append-nil, length-take-le, le_of_lt}
use Rattle.std.specs.List.{AllByRecursion as Every, Contains}
use Rattle.lie_math.specs.Counts.{Derivative, order, before_counts, trimmed}
use Rattle.lie_math.specs.LinearSystem.{LinearSystem, Unknown}
use Rattle.lie_math.proofs.ContainedElements.{contained_map}
use Rattle.lie_math.proofs.EveryElement.{every_contained}
use Rattle.lie_math.proofs.Tests.{same_number}
use Rattle.lie_systems.specs.Normalised.{derivative_alone}
use Rattle.lie_systems.specs.ValidSystems.{IsValid}
use Rattle.lie_systems.specs.Works.{Made}
use Rattle.lie_lin.specs.Systems.{unknown_of}
use Rattle.lie_lin.specs.declared.system.Unknown as kept
use Rattle.lie_normal.proofs.Falling.{get_same}
use Rattle.lie_ring.proofs.Fronts.{take_more}
use Rattle.lie_steps.specs.Absent.{powers_from, low_powers_from, low_powers, IsAbsentAt, AppliesAbsent, absented, absent_sum}
use Rattle.lie_steps.specs.Absent.{absent_unknowns}
use Rattle.lie_steps.specs.Equations.{equation, mentions}
use Rattle.lie_steps.specs.Replacement.{fresh_made, replacement_made}
use Rattle.lie_steps.specs.Rules.{Absent}
use Rattle.lie_steps.specs.Tidying.{IsTidySystem}
use Rattle.lie_steps.proofs.AbsentRule.{absent_keeps}
use Rattle.lie_steps.proofs.Unknowns.{same_unknown}
use Rattle.lie_steps.proofs.ZeroRule.{same_alone}
use Rattle.lie_change.specs.Ends.{StaysValid}
use Rattle.lie_change.specs.Tried.{at}
use Rattle.lie_rules.proofs.Steps.{IsStep}
use Rattle.lie_rules.proofs.ZeroSteps.{mentions_alone}

-- ---- the powers below counts
powers_without : (v : ℕ) (J : List ℕ) → low_powers_from v (trimmed J) ≡ low_powers_from v J
powers_without v [] = refl
powers_without v (c ∷ J) = go (trimmed J) (powers_without (suc v) J)
  where
    one : (t : Bool) → eqb c 0 ≡ t → low_powers_from v (cond t [] (c ∷ [])) ≡ powers_from v 0 c ++ []
    one true e = ap (λ n. powers_from v 0 n ++ []) (sym (same_number c 0 e))
    one false e = refl

    go : (K : List ℕ) → low_powers_from (suc v) K ≡ low_powers_from (suc v) J
        → low_powers_from v (before_counts c K) ≡ powers_from v 0 c ++ low_powers_from (suc v) J
    go [] h = one (eqb c 0) refl ∙ ap (λ cs. powers_from v 0 c ++ cs) h
    go (k ∷ K) h = ap (λ cs. powers_from v 0 c ++ cs) h

pub powers_of_counts : (J : List ℕ) → low_powers (trimmed J) ≡ low_powers J
powers_of_counts J = powers_without 0 J

powers_push : (v : ℕ) (K : List ℕ) (c : ℕ) → low_powers_from v (K ++ c ∷ []) ≡ low_powers_from v K ++ powers_from (v + length K) 0 c
powers_push v [] c = append-nil (powers_from v 0 c) ∙ ap (λ n. powers_from n 0 c) (plain v)
  where
    plain : (v : ℕ) → v ≡ v + 0
    plain v = omega arith
powers_push v (d ∷ K) c =
    ap (λ cs. powers_from v 0 d ++ cs) (powers_push (suc v) K c
    ∙ ap (λ n. low_powers_from (suc v) K ++ powers_from n 0 c) (shift v (length K)))
    ∙ sym (append_assoc (powers_from v 0 d) (low_powers_from (suc v) K) (powers_from (v + suc (length K)) 0 c))
  where
    shift : (v n : ℕ) → suc v + n ≡ v + suc n
    shift v n = omega arith

get_alike : (xs : List ℕ) (k x : ℕ) → k < length xs → x ≡ get_or xs k 0 → x ≡ get_or xs k x
get_alike xs k x h e = e ∙ get_same xs k 0 h ∙ ap (get_or xs k) (sym e)

-- the powers of one variable more
pub powers_pushed : (K : List ℕ) (v x : ℕ) → v < length K → x ≡ get_or K v 0
    → low_powers (take v K) ++ powers_from v 0 x ≡ low_powers (take (v + 1) K)
powers_pushed K v x h e =
    let l : length (take v K) ≡ v = length-take-le v K (le_of_lt h) in
    sym (ap low_powers (sym (take_more K v x h (get_alike K v x h e))) ∙ powers_push 0 (take v K) x
    ∙ ap (λ n. low_powers (take v K) ++ powers_from n 0 x) (let z : 0 + length (take v K) ≡ v = omega arith in z))

-- ---- the step
module _ (n : ℕ) (S : LinearSystem) (valid : IsValid n S) (i : ℕ) (f : Unknown) (d : Derivative) (a : IsAbsentAt S i f d) where
  same_derivative : (g : Unknown) (e : Derivative) → IsAbsentAt S i g e → e ≡ d
  same_derivative g e b = same_alone e d (sym b.is ∙ a.is)

  same_absent : (g : Unknown) (e : Derivative) → IsAbsentAt S i g e → g ≡ f
  same_absent g e b =
      same_unknown S.unknowns g f valid.rising b.listed a.listed
      (b.number ∙ ap (λ (x : Derivative). x.unknown) (same_derivative g e b) ∙ sym a.number)

  abbrev actions : Unknown → Derivative → List Made
  actions g e = fresh_made (absent_unknowns S g e) ++ replacement_made S i g.number (absent_sum S e) 1 (absent_unknowns S g e)

  pub absent_step : IsStep Absent S (at i) (absented S i f d)
      (fresh_made (absent_unknowns S f d) ++ replacement_made S i f.number (absent_sum S d) 1 (absent_unknowns S f d))
  absent_step = record {
    untested = λ b t. t;
    leaves = λ T t. (f, d, a, t);
    left =
        λ T (g, e, b, t). subst (λ x. IsTidySystem (absented S i x d) T) (same_absent g e b)
        (subst (λ x. IsTidySystem (absented S i g x) T) (same_derivative g e b) t);
    made =
        λ b (g, e, r, m). subst (λ x. Contains (actions x d) b) (same_absent g e r)
        (subst (λ x. Contains (actions g x) b) (same_derivative g e r) m);
    makes = λ b c. (f, d, a, c);
  }

  pub absent_stays : StaysValid n (absented S i f d)
  absent_stays T t = (absent_keeps n S T i valid (f, d, a, t)).0

  pub absent_occurs : mentions f.number (equation S i) ≡ true
  absent_occurs = subst (λ m. mentions m (equation S i) ≡ true) (sym a.number) (mentions_alone (equation S i) d a.is)

  pub absent_below : f.number < S.next
  absent_below = every_contained (λ (u : Unknown). u.number < S.next) S.unknowns f valid.below a.listed

-- where no derivative is taken, and where the unknown is not listed, the rule does not apply
pub absent_underived : (S : LinearSystem) (i : ℕ) (d : Derivative) → equation S i ≡ derivative_alone d → order d.counts ≡ 0
    → ¬ (AppliesAbsent S i)
absent_underived S i d e z (f, g, a) =
    let p : 0 < order d.counts = subst (λ (x : Derivative). 0 < order x.counts) (same_alone g d (sym a.is ∙ e)) a.derived in
    absurd (omega arith)

pub absent_unlisted : (S : LinearSystem) (i : ℕ) (d : Derivative) (us : List kept.Unknown) → map unknown_of us ≡ S.unknowns
    → equation S i ≡ derivative_alone d
    → Every (λ (u : kept.Unknown). ¬ (u.number ≡ d.unknown)) us → ¬ (AppliesAbsent S i)
absent_unlisted S i d us l e none (f, g, a) =
    let m = contained_map unknown_of us f (subst (λ (fs : List Unknown). Contains fs f) (sym l) a.listed) in
    every_contained (λ (u : kept.Unknown). ¬ (u.number ≡ d.unknown)) us m.0 none m.1
    (ap (λ (u : Unknown). u.number) m.2 ∙ a.number ∙ ap (λ (x : Derivative). x.unknown) (same_alone g d (sym a.is ∙ e)))
