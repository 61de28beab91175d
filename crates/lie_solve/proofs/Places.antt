-- The order in which places are tried, and where rules can apply.
use Rattle.std.specs.Prelude.{◌≡◌, ℕ, suc, ◌+◌, ◌<◌, ◌≤◌, ◌⊎◌, length}
use Rattle.std.proofs.Common.{refl, sym, arith, inl, inr}
use Rattle.lie_math.specs.LinearSystem.{LinearSystem}
use Rattle.lie_systems.specs.Works.{Made}
use Rattle.lie_steps.specs.Equations.{IsPlace}
use Rattle.lie_steps.specs.Rules.{Rule, Zero, Lowest, Absent, Split, Substitute, Integrate, Isolate, Reduce, Foreign, Cross, rank, Place}
use Rattle.lie_steps.specs.Rules.{At, Applies, After, Tries, IsBefore, IsEarlier}
use Rattle.lie_steps.proofs.Stepping.{trichotomy, same_rank}
use Rattle.lie_change.specs.Tried.{at}
use Rattle.lie_solve.specs.Places.{IsPlaceOf}

-- ---- the places of a system
pub applies_inside : (r : Rule) (S : LinearSystem) (p : Place) → Applies r S p → IsPlaceOf r S p
applies_inside Zero S p a = (a.0, (a.1.1).place)
applies_inside Lowest S p a = (a.0, (a.1.1).place)
applies_inside Absent S p a = (a.0, (a.1.2).place)
applies_inside Split S p a = (a.0, (a.1.1).place)
applies_inside Substitute S p a = (a.0, (a.1.2).place)
applies_inside Integrate S p a = (a.0, a.1.0)
applies_inside Isolate S p a = (a.0, (a.1.2).place)
applies_inside Reduce S p a = (a.0, a.1.0)
applies_inside Foreign S p a = (a.0, (a.1.2).place)
applies_inside Cross S p a = ((a.1).order, (a.1).place)

pub tries_inside : (r : Rule) (S : LinearSystem) (p : Place) (b : Made) → Tries r S p b → IsPlaceOf r S p
tries_inside Zero S p b t = absurd t
tries_inside Lowest S p b t = absurd t
tries_inside Absent S p b t = absurd t
tries_inside Split S p b t = absurd t
tries_inside Substitute S p b t = absurd t
tries_inside Integrate S p b t = absurd t
tries_inside Isolate S p b t = (t.0, t.1.0)
tries_inside Reduce S p b t = absurd t
tries_inside Foreign S p b t = (t.0, t.1.0)
tries_inside Cross S p b t = (t.0, t.1)

-- a rule that makes a system at a place applies there
pub after_applies : (r : Rule) (S T : LinearSystem) (p : Place) → IsPlaceOf r S p → After r S p T → Applies r S p
after_applies Zero S T p h a = (h.0, (a.0, a.1))
after_applies Lowest S T p h a = (h.0, (a.0, a.1))
after_applies Absent S T p h a = (h.0, (a.0, a.1, a.2))
after_applies Split S T p h a = (h.0, (a.0, a.1))
after_applies Substitute S T p h a = (h.0, (a.0, a.1, a.2))
after_applies Integrate S T p h a = (h.0, ((a.6).place, a.1, (a.6).greatest))
after_applies Isolate S T p h a = (h.0, (a.0, a.1, a.2))
after_applies Reduce S T p h a = (h.0, (a.1).applies)
after_applies Foreign S T p h a = (h.0, (a.0, a.1, a.2))
after_applies Cross S T p h a = (a.0, a.1)

-- ---- the order
same_place : (p q : Place) → p.first ≡ q.first → p.second ≡ q.second → p ≡ q
same_place p q e f = λ i. record { first = e i; second = f i }

pub earlier_or_later : (p q : Place) → IsEarlier p q ⊎ IsEarlier q p ⊎ (p ≡ q)
earlier_or_later p q = by (trichotomy p.first q.first) (trichotomy p.second q.second)
  where
    by : (p.first < q.first) ⊎ (q.first < p.first) ⊎ (p.first ≡ q.first)
        → (p.second < q.second) ⊎ (q.second < p.second) ⊎ (p.second ≡ q.second) → IsEarlier p q ⊎ IsEarlier q p ⊎ (p ≡ q)
    by (inl h) k = inl (inl h)
    by (inr (inl h)) k = inr (inl (inl h))
    by (inr (inr h)) (inl k) = inl (inr (h, k))
    by (inr (inr h)) (inr (inl k)) = inr (inl (inr (sym h, k)))
    by (inr (inr h)) (inr (inr k)) = inr (inr (same_place p q h k))

-- one rule and place is tried before the other, or they are the same
pub before_or_behind : (r : Rule) (p : Place) (s : Rule) (q : Place) → IsBefore r p s q ⊎ IsBefore s q r p ⊎ ((r ≡ s) × (p ≡ q))
before_or_behind r p s q = by (trichotomy (rank r) (rank s)) (earlier_or_later p q)
  where
    by : (rank r < rank s) ⊎ (rank s < rank r) ⊎ (rank r ≡ rank s) → IsEarlier p q ⊎ IsEarlier q p ⊎ (p ≡ q)
        → IsBefore r p s q ⊎ IsBefore s q r p ⊎ ((r ≡ s) × (p ≡ q))
    by (inl h) k = inl (inl h)
    by (inr (inl h)) k = inr (inl (inl h))
    by (inr (inr h)) (inl k) = inl (inr (same_rank r s h, k))
    by (inr (inr h)) (inr (inl k)) = inr (inl (inr (sym (same_rank r s h), k)))
    by (inr (inr h)) (inr (inr k)) = inr (inr (same_rank r s h, k))

-- ---- the place after a place
-- of the places of the rule those before q are before p, or p itself
abbrev pub Follows : Rule → LinearSystem → Place → Place → Type 0
Follows r S p q = (x : Place) → IsPlaceOf r S x → IsEarlier x q → IsEarlier x p ⊎ (x ≡ p)

pub next_number : (a b : ℕ) → a < suc b → (a < b) ⊎ (a ≡ b)
next_number a b h = by (trichotomy a b)
  where
    by : (a < b) ⊎ (b < a) ⊎ (a ≡ b) → (a < b) ⊎ (a ≡ b)
    by (inl k) = inl k
    by (inr (inl k)) = absurd (omega arith)
    by (inr (inr k)) = inr k

single_place : (r : Rule) (S : LinearSystem) (x : Place) → ¬ (r ≡ Cross) → IsPlaceOf r S x → At x (IsPlace S)
single_place Zero S x n h = h
single_place Lowest S x n h = h
single_place Absent S x n h = h
single_place Split S x n h = h
single_place Substitute S x n h = h
single_place Integrate S x n h = h
single_place Isolate S x n h = h
single_place Reduce S x n h = h
single_place Foreign S x n h = h
single_place Cross S x n h = absurd (n refl)

pub equation_place : (r : Rule) (S : LinearSystem) (i : ℕ) → ¬ (r ≡ Cross) → i < length S.equations → IsPlaceOf r S (at i)
equation_place Zero S i n lt = (refl, lt)
equation_place Lowest S i n lt = (refl, lt)
equation_place Absent S i n lt = (refl, lt)
equation_place Split S i n lt = (refl, lt)
equation_place Substitute S i n lt = (refl, lt)
equation_place Integrate S i n lt = (refl, lt)
equation_place Isolate S i n lt = (refl, lt)
equation_place Reduce S i n lt = (refl, lt)
equation_place Foreign S i n lt = (refl, lt)
equation_place Cross S i n lt = absurd (n refl)

pub next_equation : (r : Rule) (S : LinearSystem) (i j : ℕ) → j ≡ i + 1 → ¬ (r ≡ Cross) → Follows r S (at i) (at j)
next_equation r S i j s n x h (inr e) = absurd (let k = e.1 in omega arith)
next_equation r S i j s n x h (inl lt) = by (next_number x.first i (omega arith))
  where
    by : (x.first < i) ⊎ (x.first ≡ i) → IsEarlier x (at i) ⊎ (x ≡ at i)
    by (inl k) = inl (inl k)
    by (inr k) = inr (same_place x (at i) k (single_place r S x n h).0)

pub next_second : (S : LinearSystem) (i j k : ℕ) → k ≡ j + 1
    → Follows Cross S (record { first = i; second = j }) (record { first = i; second = k })
next_second S i j k s x h (inl lt) = inl (inl lt)
next_second S i j k s x h (inr e) = by (next_number x.second j (let l = e.1 in omega arith))
  where
    by : (x.second < j) ⊎ (x.second ≡ j) → IsEarlier x (record { first = i; second = j }) ⊎ (x ≡ record { first = i; second = j })
    by (inl l) = inl (inr (e.0, l))
    by (inr l) = inr (same_place x (record { first = i; second = j }) e.0 l)

-- of the places of the rule those before q are before p
abbrev pub IsNoneBetween : Rule → LinearSystem → Place → Place → Type 0
IsNoneBetween r S p q = (x : Place) → IsPlaceOf r S x → IsEarlier x q → IsEarlier x p

-- before the second equation behind the first there is none
pub first_pair : (S : LinearSystem) (i j : ℕ) → j ≡ i + 1 → IsNoneBetween Cross S (at i) (record { first = i; second = j })
first_pair S i j s x h (inl lt) = inl lt
first_pair S i j s x h (inr e) = absurd (let a = h.0 in let b = e.0 in let c = e.1 in omega arith)

-- behind the last pair with this first equation the next one is the first
pub last_pair : (S : LinearSystem) (i j k : ℕ) → k ≡ i + 1 → length S.equations ≤ j
    → IsNoneBetween Cross S (record { first = i; second = j }) (at k)
last_pair S i j k s n x h (inr e) = absurd (let l = e.1 in omega arith)
last_pair S i j k s n x h (inl lt) = by (next_number x.first i (omega arith))
  where
    by : (x.first < i) ⊎ (x.first ≡ i) → IsEarlier x (record { first = i; second = j })
    by (inl l) = inl l
    by (inr l) = inr (l, (let a : x.second < length S.equations = h.1 in omega arith))

-- all places are before the end
pub all_before : (r : Rule) (S : LinearSystem) (i : ℕ) → length S.equations ≤ i → (x : Place) → IsPlaceOf r S x → IsEarlier x (at i)
all_before Cross S i n x h = inl (let a : x.second < length S.equations = h.1 in let b : x.first < x.second = h.0 in omega arith)
all_before Zero S i n x h = inl (let a : x.first < length S.equations = h.1 in omega arith)
all_before Lowest S i n x h = inl (let a : x.first < length S.equations = h.1 in omega arith)
all_before Absent S i n x h = inl (let a : x.first < length S.equations = h.1 in omega arith)
all_before Split S i n x h = inl (let a : x.first < length S.equations = h.1 in omega arith)
all_before Substitute S i n x h = inl (let a : x.first < length S.equations = h.1 in omega arith)
all_before Integrate S i n x h = inl (let a : x.first < length S.equations = h.1 in omega arith)
all_before Isolate S i n x h = inl (let a : x.first < length S.equations = h.1 in omega arith)
all_before Reduce S i n x h = inl (let a : x.first < length S.equations = h.1 in omega arith)
all_before Foreign S i n x h = inl (let a : x.first < length S.equations = h.1 in omega arith)
