-- Rules with the absolute values of all coefficients, and reduction by them.
use Rattle.std.specs.Prelude.{◌≡◌, ℕ, ◌+◌, ◌<◌, ◌≤◌, ℤ, List, [], ◌∷◌, ◌++◌, length, take, get_or, pos, unsigned_abs}
use Rattle.std.proofs.Common.{refl, sym, ap, ap₂, subst, ◌∙◌, arith}
use Rattle.lie_math.proofs.Integer.{unsigned_abs_zero}
use Rattle.lie_math.specs.Limits.{absolute}
use Rattle.lie_math.specs.Polynomial.{WholePolynomial}
use Rattle.lie_geometry.specs.Coordinates.{Space, number}
use Rattle.lie_geometry.specs.SolvedEquations.{SolvedEquation, reduced_by}
use Rattle.lie_jet.specs.Jets.{coordinate_of, IsJet}
use Rattle.lie_solved.specs.declared.solved.LeadRule.{LeadRule}
use Rattle.lie_solved.specs.Equations.{HaveJets}
use Rattle.lie_solved.specs.SolvedForms.{solved_equation, solved_equations}
use Rattle.lie_solved.specs.SolvedRules.{AreSolvedRules, IsPositiveNumber}
use Rattle.std.specs.List.{AllByRecursion as Every}
use Rattle.lie_reduce.specs.Bulks.{absolute_equation, absolute_equations, reduction_bulk_by}
use Rattle.lie_reduce.specs.Reductions.{CanReduce, IsAbsoluteRule}
use Rattle.lie_jet.proofs.Absolutes.{absolute_twice}
use Rattle.lie_ring.proofs.Fronts.{take_more}
use Rattle.lie_math.proofs.EveryElement.{every-weaken}

-- the second rules are the first with absolute values, one by one
abbrev pub AreAbsoluteRules : List LeadRule → List LeadRule → Type 0
AreAbsoluteRules [] [] = Unit {0}
AreAbsoluteRules [] (s ∷ ss) = ⊥
AreAbsoluteRules (r ∷ rs) [] = ⊥
AreAbsoluteRules (r ∷ rs) (s ∷ ss) = IsAbsoluteRule r s × AreAbsoluteRules rs ss

rules-append : (rs ss : List LeadRule) (r s : LeadRule) → AreAbsoluteRules rs ss → IsAbsoluteRule r s → AreAbsoluteRules (rs ++ r ∷ []) (ss ++ s ∷ [])
rules-append [] [] r s h k = (k, tt)
rules-append [] (y ∷ ss) r s h k = absurd h
rules-append (x ∷ rs) [] r s h k = absurd h
rules-append (x ∷ rs) (y ∷ ss) r s h k = (h.0, rules-append rs ss r s h.1 k)

pub rules_more : (rs ss new : List LeadRule) (i : ℕ) (r s : LeadRule) → i < length rs → r ≡ get_or rs i r → AreAbsoluteRules (take i rs) ss → IsAbsoluteRule r s → new ≡ ss ++ s ∷ [] → AreAbsoluteRules (take (i + 1) rs) new
rules_more rs ss new i r s lt is h k e = subst (λ xs. AreAbsoluteRules xs new) (take_more rs i r lt is) (subst (AreAbsoluteRules (take i rs ++ r ∷ [])) (sym e) (rules-append (take i rs) ss r s h k))

same_equation : (S : Space) (r s : LeadRule) → IsAbsoluteRule r s → solved_equation S s ≡ absolute_equation (solved_equation S r)
same_equation S r s h = λ i. record { lead = number S (coordinate_of S (h.lead i)); factor = h.factor i; right = h.right i }

pub absolute_equations_are : (S : Space) (rs ss : List LeadRule) → AreAbsoluteRules rs ss → solved_equations S ss ≡ absolute_equations (solved_equations S rs)
absolute_equations_are S [] [] h = refl
absolute_equations_are S [] (s ∷ ss) h = absurd h
absolute_equations_are S (r ∷ rs) [] h = absurd h
absolute_equations_are S (r ∷ rs) (s ∷ ss) h = ap₂ (λ x xs. x ∷ xs) (same_equation S r s h.0) (absolute_equations_are S rs ss h.1)

jets_are : (S : Space) (rs ss : List LeadRule) → AreAbsoluteRules rs ss → HaveJets S rs → HaveJets S ss
jets_are S [] [] h k = tt
jets_are S [] (s ∷ ss) h k = absurd h
jets_are S (r ∷ rs) [] h k = absurd h
jets_are S (r ∷ rs) (s ∷ ss) h k = (subst (IsJet S 6) (sym h.0.lead) k.0, jets_are S rs ss h.1 k.1)

factors_are : (rs ss : List LeadRule) → AreAbsoluteRules rs ss → Every (λ (r : LeadRule). ¬ (r.c ≡ pos 0)) rs → Every (λ (r : LeadRule). ¬ (r.c ≡ pos 0)) ss
factors_are [] [] h k = tt
factors_are [] (s ∷ ss) h k = absurd h
factors_are (r ∷ rs) [] h k = absurd h
factors_are (r ∷ rs) (s ∷ ss) h k = ((λ z. k.0 (unsigned_abs_zero r.c (ap unsigned_abs (sym h.0.factor ∙ z)))), factors_are rs ss h.1 k.1)

pub absolute_rules_ready : (S : Space) (rs ss : List LeadRule) → AreAbsoluteRules rs ss → CanReduce S rs → CanReduce S ss
absolute_rules_ready S rs ss h k = record { jets = jets_are S rs ss h k.jets; factors = factors_are rs ss h k.factors }

-- ---- absolute values of absolute values
pub absolute-equations : (rs : List SolvedEquation) → absolute_equations (absolute_equations rs) ≡ absolute_equations rs
absolute-equations [] = refl
absolute-equations (r ∷ rs) = ap₂ (λ x xs. record { lead = r.lead; factor = pos (unsigned_abs r.factor); right = x } ∷ xs) (absolute_twice r.right) (absolute-equations rs)

-- the bulk of the absolute values is their reduction
pub bulk_of_sizes : (rs : List SolvedEquation) (e : ℕ → ℕ) (P : WholePolynomial) → reduction_bulk_by (absolute_equations rs) e (absolute P) ≡ reduction_bulk_by rs e P
bulk_of_sizes rs e P = ap₂ (λ xs p. reduced_by xs e p) (absolute-equations rs) (absolute_twice P)

-- ---- the rules of a solved system
pub positive_apart : (c : ℤ) → IsPositiveNumber c → ¬ (c ≡ pos 0)
positive_apart c h z = let none : unsigned_abs c ≡ 0 = ap unsigned_abs z in let some : 1 ≤ unsigned_abs c = h.1 in absurd (omega arith)

pub can_reduce : (S : Space) (rules : List LeadRule) → AreSolvedRules S rules → CanReduce S rules
can_reduce S rules are = record { jets = are.jets; factors = every-weaken (λ (r : LeadRule). IsPositiveNumber r.c) (λ (r : LeadRule). ¬ (r.c ≡ pos 0)) (λ r. positive_apart r.c) rules are.positive }
