-- Rows whose names differ: one more, and one less.
use Rattle.std.specs.Prelude.{◌≡◌, ◌≤◌, ◌<◌, ℕ, suc, Bool, true, false, List, [], ◌∷◌, ◌++◌, length, Some, None, if◌then◌else◌, bytes_eq, refl}
use Rattle.std.proofs.Common.{sym, ap, ◌∙◌, arith, length-append}
use Rattle.std.proofs.lemmas.Slice.Eq.{bytes_eq-Decides}
use Rattle.lie_outer.specs.declared.rows.Row.{Row}
use Rattle.lie_outer.specs.Rows.{AreRows, NamesDiffer, row_named, rows_without, greatest_row_count}

-- ---- names
same_both : (a b : List ℕ) → bytes_eq a b ≡ true → bytes_eq b a ≡ true
same_both a b e = (bytes_eq-Decides b a).1 (sym ((bytes_eq-Decides a b).0 e))

differ_both : (a b : List ℕ) → bytes_eq a b ≡ false → bytes_eq b a ≡ false
differ_both a b e = go (bytes_eq b a) refl
  where
    go : (t : Bool) → bytes_eq b a ≡ t → t ≡ false
    go true h = sym (same_both b a h) ∙ e
    go false h = refl

-- ---- the row of a name
-- where the first row hasn't the name
pub not_first : (row : Row) (rows : List Row) (name : List ℕ) → row_named (row ∷ rows) name ≡ None → (bytes_eq row.name name ≡ false) × (row_named rows name ≡ None)
not_first row rows name e = go (bytes_eq row.name name) e
  where
    go : (t : Bool) → (if t then Some row else row_named rows name) ≡ None → (t ≡ false) × (row_named rows name ≡ None)
    go true h = absurd (cc)
    go false h = (refl, h)

pub past_first : (row : Row) (rows : List Row) (name : List ℕ) → bytes_eq row.name name ≡ false → row_named (row ∷ rows) name ≡ row_named rows name
past_first row rows name e = ap (λ (t : Bool). if t then Some row else row_named rows name) e

-- a row behind has another name too
pub absent_behind : (rows : List Row) (row : Row) (name : List ℕ) → row_named rows name ≡ None → bytes_eq row.name name ≡ false → row_named (rows ++ row ∷ []) name ≡ None
absent_behind [] row name e f = past_first row [] name f
absent_behind (r ∷ rows) row name e f =
    let (other, rest) = not_first r rows name e in
    past_first r (rows ++ row ∷ []) name other ∙ absent_behind rows row name rest f

-- no row has a name that none had before one was taken out
pub absent_without : (rows : List Row) (gone name : List ℕ) → row_named rows name ≡ None → row_named (rows_without rows gone) name ≡ None
absent_without [] gone name e = e
absent_without (r ∷ rows) gone name e = go (bytes_eq r.name gone) (absent_without rows gone name (not_first r rows name e).1)
  where
    go : (t : Bool) → row_named (rows_without rows gone) name ≡ None → row_named (if t then rows else r ∷ rows_without rows gone) name ≡ None
    go true h = (not_first r rows name e).1
    go false h = past_first r (rows_without rows gone) name (not_first r rows name e).0 ∙ h

-- ---- names that differ
pub NamesDiffer-push : (rows : List Row) (row : Row) → NamesDiffer rows → row_named rows row.name ≡ None → NamesDiffer (rows ++ row ∷ [])
NamesDiffer-push [] row d e = (refl, tt)
NamesDiffer-push (r ∷ rows) row d e =
    let (other, rest) = not_first r rows row.name e in
    (absent_behind rows row r.name d.0 (differ_both r.name row.name other), NamesDiffer-push rows row d.1 rest)

pub NamesDiffer-without : (rows : List Row) (gone : List ℕ) → NamesDiffer rows → NamesDiffer (rows_without rows gone)
NamesDiffer-without [] gone d = tt
NamesDiffer-without (r ∷ rows) gone d = go (bytes_eq r.name gone) (NamesDiffer-without rows gone d.1)
  where
    go : (t : Bool) → NamesDiffer (rows_without rows gone) → NamesDiffer (if t then rows else r ∷ rows_without rows gone)
    go true h = d.1
    go false h = (absent_without rows gone r.name d.0, h)

length-without : (rows : List Row) (gone : List ℕ) → length (rows_without rows gone) ≤ length rows
length-without [] gone = omega arith
length-without (r ∷ rows) gone = go (bytes_eq r.name gone) (length-without rows gone)
  where
    go : (t : Bool) → length (rows_without rows gone) ≤ length rows → length (if t then rows else r ∷ rows_without rows gone) ≤ suc (length rows)
    go true h = omega arith
    go false h = omega (arith, h)

-- ---- what a keeper may hold
pub AreRows-push : (rows : List Row) (row : Row) → AreRows rows → row_named rows row.name ≡ None → length rows < greatest_row_count → AreRows (rows ++ row ∷ [])
AreRows-push rows row a e lt = (NamesDiffer-push rows row a.0 e, rw length-append (omega (arith, lt)))

pub AreRows-without : (rows : List Row) (gone : List ℕ) → AreRows rows → AreRows (rows_without rows gone)
AreRows-without rows gone a = (NamesDiffer-without rows gone a.0, omega (arith, a.1, length-without rows gone))
