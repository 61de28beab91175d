-- The first row with an entry in a column, and the rows beside it.
use Rattle.std.specs.Prelude.{◌≡◌, ℕ, true, false, cond, List, [], ◌∷◌, pos, Option, Some, None}
use Rattle.std.proofs.Common.{refl, sym, ap, ◌∙◌, true≢false}
use Rattle.std.specs.List.{AllByRecursion as Every}
use Rattle.lie_math.specs.Integer.{is_zero_int, int_nil}
use Rattle.lie_spans.specs.Rows.{Row, entry}
use Rattle.lie_spans.specs.Elimination.{found_after, first_with}

abbrev pub Into : (Row → Type 0) → Option (Row × List Row) → Type 0
Into P None = Unit {0}
Into P (Some q) = P q.0 × Every P q.1

abbrev pub Back : (Row → Type 0) → List Row → Option (Row × List Row) → Type 0
Back P rs None = Unit {0}
Back P rs (Some q) = P q.0 → Every P q.1 → Every P rs

abbrev pub Told : ℕ → List Row → Option (Row × List Row) → Type 0
Told k rs None = Every (λ r. entry r k ≡ pos 0) rs
Told k rs (Some q) = ¬ (entry q.0 k ≡ pos 0)

into_behind : (P : Row → Type 0) (r : Row) (o : Option (Row × List Row)) → P r → Into P o → Into P (found_after r o)
into_behind P r None h i = tt
into_behind P r (Some q) h i = (i.0, (h, i.1))

pub first_with_into : (P : Row → Type 0) (k : ℕ) (rs : List Row) → Every P rs → Into P (first_with k rs)
first_with_into P k [] h = tt
first_with_into P k (r ∷ rs) h = elim (is_zero_int (entry r k)) as (λ b. Into P (cond b (found_after r (first_with k rs)) (Some (r, rs)))) [
  | true ↦ into_behind P r (first_with k rs) h.0 (first_with_into P k rs h.1)
  | false ↦ h
]

back_behind : (P : Row → Type 0) (r : Row) (rs : List Row) (o : Option (Row × List Row)) → Back P rs o → Back P (r ∷ rs) (found_after r o)
back_behind P r rs None b = tt
back_behind P r rs (Some q) b = λ x y. (y.0, b x y.1)

pub first_with_back : (P : Row → Type 0) (k : ℕ) (rs : List Row) → Back P rs (first_with k rs)
first_with_back P k [] = tt
first_with_back P k (r ∷ rs) = elim (is_zero_int (entry r k)) as (λ b. Back P (r ∷ rs) (cond b (found_after r (first_with k rs)) (Some (r, rs)))) [
  | true ↦ back_behind P r rs (first_with k rs) (first_with_back P k rs)
  | false ↦ λ x y. (x, y)
]

told_behind : (k : ℕ) (r : Row) (rs : List Row) (o : Option (Row × List Row)) → entry r k ≡ pos 0 → Told k rs o → Told k (r ∷ rs) (found_after r o)
told_behind k r rs None z t = (z, t)
told_behind k r rs (Some q) z t = t

pub first_with_told : (k : ℕ) (rs : List Row) → Told k rs (first_with k rs)
first_with_told k [] = tt
first_with_told k (r ∷ rs) = elim (is_zero_int (entry r k)) as (λ b. is_zero_int (entry r k) ≡ b → Told k (r ∷ rs) (cond b (found_after r (first_with k rs)) (Some (r, rs)))) [
  | true ↦ λ e. told_behind k r rs (first_with k rs) (int_nil (entry r k) e) (first_with_told k rs)
  | false ↦ λ e z. true≢false (ap is_zero_int (sym z) ∙ e)
] refl
