-- The tables of equations, from their two tables of rows.
use Rattle.std.specs.Prelude.{◌≡◌, ℕ, zero, suc, ◌<◌, ◌≤◌, ◌-◌, ◌^◌, Bool, true, false, List, [], ◌∷◌, ◌++◌, length, map, remove, MatchBool, Vec}
use Rattle.std.proofs.Common.{refl, sym, ap, subst, ◌∙◌, arith}
use Rattle.std.specs.List.{insert}
use Rattle.std.specs.declared.alloc.Global.{Global}
use Rattle.std.proofs.lemmas.List.{length-map}
use Rattle.lie_math.specs.LinearForm.{LinearForm}
use Rattle.lie_jet.proofs.ListPlaces.{insert_map, remove_map}
use Rattle.lie_tables.specs.declared.tables.Tables.{Tables}
use Rattle.indexmap.specs.IndexMap.{IndexMap}
use Rattle.lie_tables.specs.Places.{IsTable, with_keys}
use Rattle.lie_tables.specs.Tables.{HasPlaces, IsIndexOf}
use Rattle.lie_tables.proofs.RowLists.{keys_put, keys_dropped, longer, set_length}

module _ {K S : Type 0} (eq : K → K → Bool) (m : IndexMap K (Vec ℕ Global) S) where
  pub table_of : (rows new : List (List K)) → rows ≡ new → IsTable eq m rows → IsTable eq m new
  table_of rows new e t = subst (IsTable eq m) e t

-- the row of an equation that is put in
pub noted_row : {K S : Type 0} (eq : K → K → Bool) (m : IndexMap K (Vec ℕ Global) S) (f : LinearForm → List K) (Es : List LinearForm) (i : ℕ)
    (E : LinearForm) → i ≤ length Es → IsTable eq m (with_keys (insert (map f Es) i []) i (f E)) → IsTable eq m (map f (insert Es i E))
noted_row eq m f Es i E le t = table_of eq m _ _ (keys_put (map f Es) i (f E) (subst (λ n. i ≤ n) (sym (length-map Es f)) le)
    ∙ sym (insert_map f Es i E)) t

pub opened_place : {K : Type 0} (f : LinearForm → List K) (Es : List LinearForm) (i : ℕ) → i ≤ length Es → i < length (insert (map f Es) i [])
opened_place f Es i le = longer (map f Es) i [] (subst (λ n. i ≤ n) (sym (length-map Es f)) le)

pub opened_within : {K : Type 0} (f : LinearForm → List K) (Es : List LinearForm) (i : ℕ) → i ≤ length Es → i ≤ length (map f Es)
opened_within f Es i le = subst (λ n. i ≤ n) (sym (length-map Es f)) le

pub opened_few : {K : Type 0} (f : LinearForm → List K) (Es : List LinearForm) → length Es < 2 ^ 64 - 1 → length (map f Es) < 2 ^ 64 - 1
opened_few f Es lt = subst (λ n. n < 2 ^ 64 - 1) (sym (length-map Es f)) lt

pub row_dropped : {K S : Type 0} (eq : K → K → Bool) (m : IndexMap K (Vec ℕ Global) S) (f : LinearForm → List K) (Es : List LinearForm) (i : ℕ)
    (ks : List K) → i ≤ length Es → IsTable eq m (remove (with_keys (insert (map f Es) i []) i ks) i) → IsTable eq m (map f Es)
row_dropped eq m f Es i ks le t = table_of eq m _ _ (keys_dropped (map f Es) i ks (opened_within f Es i le)) t

pub partly_within : {K : Type 0} (f : LinearForm → List K) (Es : List LinearForm) (i : ℕ) (ks : List K) → i ≤ length Es
    → i < length (with_keys (insert (map f Es) i []) i ks)
partly_within f Es i ks le = subst (λ n. i < n) (sym (set_length (insert (map f Es) i []) i _)) (opened_place f Es i le)

pub row_removed : {K S : Type 0} (eq : K → K → Bool) (m : IndexMap K (Vec ℕ Global) S) (f : LinearForm → List K) (Es : List LinearForm) (i : ℕ)
    → IsTable eq m (remove (map f Es) i) → IsTable eq m (map f (remove Es i))
row_removed eq m f Es i t = table_of eq m _ _ (sym (remove_map f Es i)) t

pub place_mapped : {K : Type 0} (f : LinearForm → List K) (Es : List LinearForm) (i : ℕ) → i < length Es → i < length (map f Es)
place_mapped f Es i lt = subst (λ n. i < n) (sym (length-map Es f)) lt

-- tables that are kept, or not
pub index_of_places : (t : Tables) (Es : List LinearForm) → HasPlaces t Es → IsIndexOf t Es
index_of_places t Es h = go t.kept
  where
    go : (b : Bool) → MatchBool b (HasPlaces t Es) (Unit {0})
    go true = h
    go false = tt

pub insert_end : {X : Type 0} (xs : List X) (i : ℕ) (x : X) → i ≡ length xs → insert xs i x ≡ xs ++ x ∷ []
insert_end [] zero x e = refl
insert_end [] (suc i) x e = absurd (omega arith)
insert_end (y ∷ xs) zero x e = absurd (omega arith)
insert_end (y ∷ xs) (suc i) x e = ap (λ ys. y ∷ ys) (insert_end xs i x (omega arith))

pub kept_places : (t : Tables) (Es : List LinearForm) → t.kept ≡ true → IsIndexOf t Es → HasPlaces t Es
kept_places t Es e h = subst (λ b. MatchBool b (HasPlaces t Es) (Unit {0})) e h
