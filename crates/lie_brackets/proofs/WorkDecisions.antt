-- The work of a table is within the limits or past one of them.
use Rattle.std.specs.Prelude.{◌≡◌, ℕ, zero, suc, ◌+◌, ◌<◌, ◌≤◌, ◌⊎◌, List}
use Rattle.std.proofs.Common.{subst, arith, inl, inr}
use Rattle.std.specs.List.{AllByRecursion as Every, Any, Contains}
use Rattle.lie_math.specs.VectorField.{VectorField}
use Rattle.lie_math.proofs.Decisions.{at_most_or_greater, every_or_any, any_with}
use Rattle.lie_math.proofs.EveryElement.{every_contained, every_of_contained}
use Rattle.lie_geometry.specs.Coordinates.{Space}
use Rattle.lie_systems.specs.Works.{Limit, Made, APolynomial, IsMadeWithin, IsMadePast, IsWorkWithin, IsWorkPast}
use Rattle.lie_brackets.specs.Bulks.{bracket_bulk, BracketMakes, part}
use Rattle.lie_brackets.specs.Laws.{TableIsWithinOrPast}
use Rattle.lie_brackets.specs.Tables.{pairs_of, TableMakes, bracket}

-- the work of a table is within the limits where those of its brackets are
pub table_within : (S : Space) (Vs : List VectorField) → Every (λ (pair : VectorField × VectorField). IsWorkWithin (BracketMakes S pair.0 pair.1)) (pairs_of Vs)
    → IsWorkWithin (TableMakes S Vs)
table_within S Vs h b (bracket pair c made makes) =
    every_contained (λ (pair : VectorField × VectorField). IsWorkWithin (BracketMakes S pair.0 pair.1)) (pairs_of Vs) pair h c made makes

abbrev MadeIsWithinOrPast : Type 0
MadeIsWithinOrPast = (b : Made) → IsMadeWithin b ⊎ ((limit : Limit) × IsMadePast limit b)

module _ (tell : MadeIsWithinOrPast) where
  parts_told : (f : ℕ → Made) (n : ℕ) → ((s : ℕ) → s < n → IsMadeWithin (f s)) ⊎ ((limit : Limit) × (s : ℕ) × (s < n) × IsMadePast limit (f s))
  parts_told f zero = inl (λ s l. absurd (omega arith))
  parts_told f (suc n) = go (parts_told f n) (tell (f n))
    where
      go : ((s : ℕ) → s < n → IsMadeWithin (f s)) ⊎ ((limit : Limit) × (s : ℕ) × (s < n) × IsMadePast limit (f s))
          → IsMadeWithin (f n) ⊎ ((limit : Limit) × IsMadePast limit (f n))
          → ((s : ℕ) → s < suc n → IsMadeWithin (f s)) ⊎ ((limit : Limit) × (s : ℕ) × (s < suc n) × IsMadePast limit (f s))
      go (inr (limit, s, l, past)) t = inr (limit, s, (omega arith), past)
      go (inl h) (inr (limit, past)) = inr (limit, n, (omega arith), past)
      go (inl h) (inl here) = inl (λ s l. by s l (at_most_or_greater n s))
        where
          by : (s : ℕ) → s < suc n → (n ≤ s) ⊎ (s < n) → IsMadeWithin (f s)
          by s l (inl c) = subst (λ k. IsMadeWithin (f k)) (let e : n ≡ s = omega arith in e) here
          by s l (inr c) = h s c

  module _ (S : Space) where
    abbrev Within : VectorField × VectorField → Type 0
    Within pair = IsWorkWithin (BracketMakes S pair.0 pair.1)

    abbrev IsSomehowPast : VectorField × VectorField → Type 0
    IsSomehowPast pair = (limit : Limit) × IsWorkPast (BracketMakes S pair.0 pair.1) limit

    within : (V W : VectorField) → ((s : ℕ) → s < S.p + S.q → IsMadeWithin (APolynomial (bracket_bulk V W s))) → IsWorkWithin (BracketMakes S V W)
    within V W h b (part s l) = h s l

    pair_told : (pair : VectorField × VectorField) → Within pair ⊎ IsSomehowPast pair
    pair_told pair = go (parts_told (λ s. APolynomial (bracket_bulk pair.0 pair.1 s)) (S.p + S.q))
      where
        go : ((s : ℕ) → s < S.p + S.q → IsMadeWithin (APolynomial (bracket_bulk pair.0 pair.1 s)))
            ⊎ ((limit : Limit) × (s : ℕ) × (s < S.p + S.q) × IsMadePast limit (APolynomial (bracket_bulk pair.0 pair.1 s)))
            → Within pair ⊎ IsSomehowPast pair
        go (inl h) = inl (within pair.0 pair.1 h)
        go (inr (limit, s, l, past)) = inr (limit, (APolynomial (bracket_bulk pair.0 pair.1 s), part s l, past))

    table_told : (Vs : List VectorField) → IsWorkWithin (TableMakes S Vs) ⊎ ((limit : Limit) × IsWorkPast (TableMakes S Vs) limit)
    table_told Vs = go (every_or_any Within IsSomehowPast pair_told (pairs_of Vs))
      where
        go : Every Within (pairs_of Vs) ⊎ Any IsSomehowPast (pairs_of Vs) → IsWorkWithin (TableMakes S Vs) ⊎ ((limit : Limit) × IsWorkPast (TableMakes S Vs) limit)
        go (inl h) = inl (table_within S Vs h)
        go (inr a) =
            let r = any_with IsSomehowPast (Contains (pairs_of Vs)) (pairs_of Vs) (every_of_contained (Contains (pairs_of Vs)) (pairs_of Vs) (λ pair c. c)) a in
            let past = (r.2).1 in
            inr ((r.2).0, (past.0, bracket r.0 r.1 past.0 past.1, past.2))

pub table_is_within_or_past : MadeIsWithinOrPast → TableIsWithinOrPast
table_is_within_or_past tell S Vs = table_told tell S Vs
