-- What is so of every row is so of the row of a name, and of the rows without one; and the row of a name stays the first of it.
use Rattle.std.specs.Prelude.{◌≡◌, ◌≢◌, ℕ, Bool, true, false, List, [], ◌∷◌, ◌++◌, Option, Some, None, IfSome, if◌then◌else◌, bytes_eq, refl}
use Rattle.std.specs.List.{AllByRecursion as Every}
use Rattle.std.proofs.Common.{sym, ap, subst, ◌∙◌}
use Rattle.std.proofs.lemmas.Slice.Eq.{bytes_eq-Decides}
use Rattle.lie_outer.specs.declared.rows.Row.{Row}
use Rattle.lie_outer.specs.Rows.{row_named, rows_without}

pub some_is : {X : Type 0} (x y : X) → ◌≡◌ {A = Option X} (Some x) (Some y) → x ≡ y
some_is x y e = cc

-- ---- every row
pub found_is : (Q : Row → Type 0) (rows : List Row) (name : List ℕ) (row : Row) → Every Q rows → row_named rows name ≡ Some row → Q row
found_is Q [] name row h e = absurd (cc)
found_is Q (r ∷ rows) name row h e = go (bytes_eq r.name name) e (found_is Q rows name row h.1)
  where
    go : (t : Bool) → (if t then Some r else row_named rows name) ≡ Some row → (row_named rows name ≡ Some row → Q row) → Q row
    go true e k = subst Q (some_is r row e) h.0
    go false e k = k e

pub every-without : (Q : Row → Type 0) (rows : List Row) (gone : List ℕ) → Every Q rows → Every Q (rows_without rows gone)
every-without Q [] gone h = tt
every-without Q (r ∷ rows) gone h = go (bytes_eq r.name gone) (every-without Q rows gone h.1)
  where
    go : (t : Bool) → Every Q (rows_without rows gone) → Every Q (if t then rows else r ∷ rows_without rows gone)
    go true k = h.1
    go false k = (h.0, k)

-- ---- the row of a name
pub one_found : (rows : List Row) (name : List ℕ) (row other : Row) → row_named rows name ≡ Some row → row_named rows name ≡ Some other → row ≡ other
one_found rows name row other e f = some_is row other (sym e ∙ f)

pub found_or_none : (rows : List Row) (name : List ℕ) (row : Row) → row_named rows name ≡ Some row → row_named rows name ≡ None → ⊥
found_or_none rows name row e f = let g : ◌≡◌ {A = Option Row} (Some row) None = sym e ∙ f in absurd (cc)

-- a row behind changes nothing
pub found_before : (rows : List Row) (name : List ℕ) (row last : Row) → row_named rows name ≡ Some row → row_named (rows ++ last ∷ []) name ≡ Some row
found_before [] name row last e = absurd (cc)
found_before (r ∷ rows) name row last e = go (bytes_eq r.name name) e (found_before rows name row last)
  where
    go : (t : Bool) → (if t then Some r else row_named rows name) ≡ Some row → (row_named rows name ≡ Some row → row_named (rows ++ last ∷ []) name ≡ Some row)
        → (if t then Some r else row_named (rows ++ last ∷ []) name) ≡ Some row
    go true e k = e
    go false e k = k e

-- a row that is put is found
pub found_last : (rows : List Row) (row : Row) → row_named rows row.name ≡ None → row_named (rows ++ row ∷ []) row.name ≡ Some row
found_last [] row e = ap (λ (t : Bool). if t then Some row else None) ((bytes_eq-Decides row.name row.name).1 refl)
found_last (r ∷ rows) row e = go (bytes_eq r.name row.name) e (found_last rows row)
  where
    go : (t : Bool) → (if t then Some r else row_named rows row.name) ≡ None → (row_named rows row.name ≡ None → row_named (rows ++ row ∷ []) row.name ≡ Some row)
        → (if t then Some r else row_named (rows ++ row ∷ []) row.name) ≡ Some row
    go true e k = absurd (cc)
    go false e k = k e

-- and stays the one of its name where another goes
pub found_without : (rows : List Row) (other name : List ℕ) (row : Row) → other ≢ name → row_named rows name ≡ Some row
    → row_named (rows_without rows other) name ≡ Some row
found_without [] other name row differ e = absurd (cc)
found_without (r ∷ rows) other name row differ e = go (bytes_eq r.name other) (bytes_eq r.name name) refl refl e (found_without rows other name row differ)
  where
    go : (t u : Bool) → bytes_eq r.name other ≡ t → bytes_eq r.name name ≡ u → (if u then Some r else row_named rows name) ≡ Some row
        → (row_named rows name ≡ Some row → row_named (rows_without rows other) name ≡ Some row)
        → row_named (if t then rows else r ∷ rows_without rows other) name ≡ Some row
    go true true f g e k = absurd (differ (sym ((bytes_eq-Decides r.name other).0 f) ∙ (bytes_eq-Decides r.name name).0 g))
    go true false f g e k = e
    go false true f g e k = ap (λ (v : Bool). if v then Some r else row_named (rows_without rows other) name) g ∙ e
    go false false f g e k = ap (λ (v : Bool). if v then Some r else row_named (rows_without rows other) name) g ∙ k e
