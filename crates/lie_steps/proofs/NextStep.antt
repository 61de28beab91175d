-- A valid system is stuck, or it has a next system: whether a rule applies is decided, place by place.
use Rattle.std.specs.Prelude.{◌≡◌, ℕ, suc, ◌<◌, ◌⊎◌, length}
use Rattle.std.proofs.Common.{refl, subst, arith, inl, inr}
use Rattle.lie_math.specs.LinearSystem.{LinearSystem}
use Rattle.lie_systems.specs.ValidSystems.{IsValid}
use Rattle.lie_steps.specs.Zero.{AppliesZero}
use Rattle.lie_steps.specs.Lowest.{AppliesLowest}
use Rattle.lie_steps.specs.Absent.{AppliesAbsent}
use Rattle.lie_steps.specs.Split.{AppliesSplit}
use Rattle.lie_steps.specs.Substitute.{AppliesSubstitute}
use Rattle.lie_steps.specs.Integrate.{AppliesIntegrate}
use Rattle.lie_steps.specs.Isolate.{AppliesIsolate}
use Rattle.lie_steps.specs.Reduce.{AppliesReduce}
use Rattle.lie_steps.specs.Foreign.{AppliesForeign}
use Rattle.lie_steps.specs.Cross.{AppliesCross}
use Rattle.lie_steps.specs.Rules.{Rule, Zero, Lowest, Absent, Split, Substitute, Integrate, Isolate, Reduce, Foreign, Cross, rank, Place, At, After, Applies, IsBefore, IsEarlier, Next, IsStuck}
use Rattle.lie_steps.specs.Laws.{NextOrStuck}
use Rattle.lie_steps.proofs.ZeroRule.{zero_total}
use Rattle.lie_steps.proofs.LowestRule.{lowest_total}
use Rattle.lie_steps.proofs.AbsentRule.{absent_total}
use Rattle.lie_steps.proofs.SplitRule.{split_total}
use Rattle.lie_steps.proofs.SubstituteRule.{substitute_total}
use Rattle.lie_steps.proofs.IntegrateRule.{integrate_total}
use Rattle.lie_steps.proofs.IsolateRule.{isolate_total}
use Rattle.lie_steps.proofs.ReducingRules.{reduce_total, foreign_total, cross_total}
use Rattle.lie_math.proofs.Decisions.{Decided, less_decided, search_below, FirstBelow}
use Rattle.lie_steps.proofs.DecideAlone.{zero_decided, absent_decided, lowest_decided, split_decided}
use Rattle.lie_steps.proofs.DecideSolved.{substitute_decided, integrate_decided}
use Rattle.lie_steps.proofs.DecideLater.{isolate_decided, reduce_decided, foreign_decided, cross_decided}
use Rattle.lie_steps.proofs.Stepping.{trichotomy, same_rank}

-- what the rule makes where it applies
makes : (n : ℕ) (S : LinearSystem) → IsValid n S → (r : Rule) (p : Place) → Applies r S p → (T : LinearSystem) × After r S p T
makes n S v Zero p a = zero_total n S p.first v a.1
makes n S v Lowest p a = lowest_total n S p.first v a.1
makes n S v Absent p a = absent_total n S p.first v a.1
makes n S v Split p a = split_total n S p.first v a.1
makes n S v Substitute p a = substitute_total n S p.first v a.1
makes n S v Integrate p a = integrate_total n S p.first v a.1
makes n S v Isolate p a = isolate_total n S p.first v a.1
makes n S v Reduce p a = reduce_total n S p.first v a.1
makes n S v Foreign p a = foreign_total n S p.first v a.1
makes n S v Cross p a = cross_total S p.first p.second a

-- ---- the first place
-- the first place where A holds, or none
abbrev FirstPlace : (Place → Type 0) → Type 0
FirstPlace A = ((p : Place) × A p × ((q : Place) → IsEarlier q p → ¬ (A q))) ⊎ ((q : Place) → ¬ (A q))

first_single : (A : ℕ → Type 0) (bound : ℕ) → ((i : ℕ) → A i → i < bound) → ((i : ℕ) → i < bound → Decided (A i)) → FirstPlace (λ p. At p A)
first_single A bound inside tell = go (search_below A anywhere bound)
  where
    anywhere : (i : ℕ) → Decided (A i)
    anywhere i = by (less_decided i bound)
      where
        by : Decided (i < bound) → Decided (A i)
        by (inl lt) = tell i lt
        by (inr n) = inr (λ a. n (inside i a))

    go : FirstBelow A anywhere bound ⊎ ((i : ℕ) → i < bound → ¬ (A i)) → FirstPlace (λ p. At p A)
    go (inl (i, lt, a, f)) = inl (record { first = i; second = 0 }, (refl, a), before)
      where
        before : (q : Place) → IsEarlier q (record { first = i; second = 0 }) → ¬ (At q A)
        before q (inl less) h = f q.first less h.1
        before q (inr k) h = absurd (let less = k.1 in omega arith)
    go (inr none) = inr (λ q h. none q.first (inside q.first h.1) h.1)

first_pair : (A : ℕ → ℕ → Type 0) (bound : ℕ) → ((i j : ℕ) → A i j → (i < bound) × (j < bound)) → ((i j : ℕ) → Decided (A i j)) → FirstPlace (λ p. A p.first p.second)
first_pair A bound inside tell = go (search_below (λ i. (j : ℕ) × A i j) row bound)
  where
    row : (i : ℕ) → Decided ((j : ℕ) × A i j)
    row i = by (search_below (A i) (tell i) bound)
      where
        by : FirstBelow (A i) (tell i) bound ⊎ ((j : ℕ) → j < bound → ¬ (A i j)) → Decided ((j : ℕ) × A i j)
        by (inl (j, lt, a, f)) = inl (j, a)
        by (inr none) = inr (λ h. none h.0 (inside i h.0 h.1).1 h.1)

    go : FirstBelow (λ i. (j : ℕ) × A i j) row bound ⊎ ((i : ℕ) → i < bound → ¬ ((j : ℕ) × A i j)) → FirstPlace (λ p. A p.first p.second)
    go (inl (i, lt, h, f)) = at (search_below (A i) (tell i) bound)
      where
        at : FirstBelow (A i) (tell i) bound ⊎ ((j : ℕ) → j < bound → ¬ (A i j)) → FirstPlace (λ p. A p.first p.second)
        at (inr none) = absurd (none h.0 (inside i h.0 h.1).1 h.1)
        at (inl (j, lj, a, g)) = inl (record { first = i; second = j }, a, before)
          where
            before : (q : Place) → IsEarlier q (record { first = i; second = j }) → ¬ (A q.first q.second)
            before q (inl less) k = f q.first less (q.second, k)
            before q (inr e) k = g q.second e.1 (subst (λ x. A x q.second) e.0 k)
    go (inr none) = inr (λ q k. none q.first (inside q.first q.second k).0 (q.second, k))

module _ (n : ℕ) (S : LinearSystem) (v : IsValid n S) where
  first_place : (r : Rule) → FirstPlace (Applies r S)
  first_place Zero = first_single (AppliesZero S) (length S.equations) (λ i a. (a.1).place) (zero_decided n S v)
  first_place Lowest = first_single (AppliesLowest S) (length S.equations) (λ i a. (a.1).place) (lowest_decided n S v)
  first_place Absent = first_single (AppliesAbsent S) (length S.equations) (λ i a. (a.2).place) (absent_decided n S v)
  first_place Split = first_single (AppliesSplit S) (length S.equations) (λ i a. (a.1).place) (split_decided n S v)
  first_place Substitute = first_single (AppliesSubstitute S) (length S.equations) (λ i a. (a.2).place) (substitute_decided n S v)
  first_place Integrate = first_single (AppliesIntegrate S) (length S.equations) (λ i a. a.0) (integrate_decided n S v)
  first_place Isolate = first_single (AppliesIsolate S) (length S.equations) (λ i a. (a.2).place) (isolate_decided n S v)
  first_place Reduce = first_single (AppliesReduce S) (length S.equations) (λ i a. a.0) (reduce_decided n S v)
  first_place Foreign = first_single (AppliesForeign S) (length S.equations) (λ i a. (a.2).place) (foreign_decided n S v)
  first_place Cross = first_pair (AppliesCross S) (length S.equations) (λ i j a. ((let p : i < j = (a.1).order in let q : j < length S.equations = (a.1).place in omega arith), (a.1).place)) (cross_decided n S v)

  -- ---- the rules in turn
  abbrev Answer : Type 0
  Answer = ((T : LinearSystem) × Next S T) ⊎ IsStuck S

  abbrev NoneBelow : ℕ → Type 0
  NoneBelow k = (s : Rule) → rank s < k → (q : Place) → ¬ (Applies s S q)

  next_by : (r : Rule) → NoneBelow (rank r) → (NoneBelow (suc (rank r)) → Answer) → Answer
  next_by r none rest = go (first_place r)
    where
      go : FirstPlace (Applies r S) → Answer
      go (inl (p, a, f)) = let t = makes n S v r p a in inl (t.0, record { rule = r; place = p; applies = a; first = before; after = t.1 })
        where
          before : (s : Rule) (q : Place) → IsBefore s q r p → ¬ (Applies s S q)
          before s q (inl less) k = none s less q k
          before s q (inr (e, earlier)) k = f q earlier (subst (λ x. Applies x S q) e k)
      go (inr nowhere) = rest (λ s less q. at s q (trichotomy (rank s) (rank r)) less)
        where
          at : (s : Rule) (q : Place) → (rank s < rank r) ⊎ (rank r < rank s) ⊎ (rank s ≡ rank r) → rank s < suc (rank r) → ¬ (Applies s S q)
          at s q (inl less) lt k = none s less q k
          at s q (inr (inl more)) lt k = absurd (omega arith)
          at s q (inr (inr e)) lt k = nowhere q (subst (λ x. Applies x S q) (same_rank s r e) k)

  none_first_rank : NoneBelow 1
  none_first_rank Zero h q a = absurd (omega arith)
  none_first_rank Lowest h q a = absurd (omega arith)
  none_first_rank Absent h q a = absurd (omega arith)
  none_first_rank Split h q a = absurd (omega arith)
  none_first_rank Substitute h q a = absurd (omega arith)
  none_first_rank Integrate h q a = absurd (omega arith)
  none_first_rank Isolate h q a = absurd (omega arith)
  none_first_rank Reduce h q a = absurd (omega arith)
  none_first_rank Foreign h q a = absurd (omega arith)
  none_first_rank Cross h q a = absurd (omega arith)

  below_all : (r : Rule) → rank r < 11
  below_all Zero = omega arith
  below_all Lowest = omega arith
  below_all Absent = omega arith
  below_all Split = omega arith
  below_all Substitute = omega arith
  below_all Integrate = omega arith
  below_all Isolate = omega arith
  below_all Reduce = omega arith
  below_all Foreign = omega arith
  below_all Cross = omega arith

  next_found : ((T : LinearSystem) × Next S T) ⊎ IsStuck S
  next_found =
      next_by Zero none_first_rank (λ a. next_by Lowest a (λ b. next_by Absent b (λ c. next_by Split c (λ d. next_by Substitute d (λ e.
      next_by Integrate e (λ f. next_by Isolate f (λ g. next_by Reduce g (λ h. next_by Foreign h (λ i. next_by Cross i (λ j. inr (λ r p. j r (below_all r) p)))))))))))

pub next_or_stuck : NextOrStuck
next_or_stuck n S v = next_found n S v
