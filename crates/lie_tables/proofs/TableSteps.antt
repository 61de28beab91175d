-- Tables as the rows of keys change.
use Rattle.std.specs.Prelude.{◌≡◌, ℕ, ◌<◌, Bool, true, false, cond, List, [], ◌∷◌, ◌++◌, ◌||◌, map, filter, length, get_or, Option, None, Some, is_some, unwrap_or, ltb, eqb, Vec}
use Rattle.std.proofs.Common.{refl, sym, ap, subst, ◌∙◌, true≢false}
use Rattle.std.specs.declared.alloc.Global.{Global}
use Rattle.std.specs.Cmp.{IsEquivalence}
use Rattle.std.specs.List.{list_any, IsDistinct}
use Rattle.std.specs.Map.{keys_of, lookup}
use Rattle.std.specs.Map.Calls.{RetainsPairs}
use Rattle.std.specs.Option.{option_map}
use Rattle.std.proofs.lemmas.Map.Entries.{option_filter, lookup-filter-values}
use Rattle.std.proofs.lemmas.List.Folds.{list_any-append}
use Rattle.indexmap.specs.IndexMap.{IndexMap, get, IsUnique}
use Rattle.lie_tables.specs.Places.{places_where, placed, some_places, IsTable, with_key}
use Rattle.lie_tables.proofs.PlaceLists.{placed_set, kept_set}

-- ---- entries with the lists of the values
abbrev seen_entry : {K : Type 0} → K × Vec ℕ Global → K × List ℕ
seen_entry e = (e.0, (e.1).items)

abbrev seen : {K : Type 0} → List (K × Vec ℕ Global) → List (K × List ℕ)
seen es = map seen_entry es

lookup_seen : {K : Type 0} (test : K → Bool) (es : List (K × Vec ℕ Global))
    → option_map (λ (v : Vec ℕ Global). v.items) (lookup test es) ≡ lookup test (seen es)
lookup_seen test [] = refl
lookup_seen {K} test (e ∷ es) = go (test e.0) (lookup_seen test es)
  where
    go : (b : Bool) → option_map (λ (v : Vec ℕ Global). v.items) (lookup test es) ≡ lookup test (seen es)
        → option_map (λ (v : Vec ℕ Global). v.items) (cond b (Some e.1) (lookup test es)) ≡ cond b (Some (e.1).items) (lookup test (seen es))
    go true h = refl
    go false h = h

abbrev changed : {K : Type 0} → (List ℕ → List ℕ) → List (K × List ℕ) → List (K × List ℕ)
changed g ps = map (λ p. (p.0, g p.1)) ps

lookup_changed : {K : Type 0} (test : K → Bool) (g : List ℕ → List ℕ) (ps : List (K × List ℕ))
    → lookup test (changed g ps) ≡ option_map g (lookup test ps)
lookup_changed test g [] = refl
lookup_changed {K} test g (p ∷ ps) = go (test p.0) (lookup_changed test g ps)
  where
    go : (b : Bool) → lookup test (changed g ps) ≡ option_map g (lookup test ps)
        → cond b (Some (g p.1)) (lookup test (changed g ps)) ≡ option_map g (cond b (Some p.1) (lookup test ps))
    go true h = refl
    go false h = h

keys_seen : {K : Type 0} (es : List (K × Vec ℕ Global)) → keys_of (seen es) ≡ keys_of es
keys_seen [] = refl
keys_seen (e ∷ es) = ap (λ ks. e.0 ∷ ks) (keys_seen es)

keys_changed : {K : Type 0} (g : List ℕ → List ℕ) (ps : List (K × List ℕ)) → keys_of (changed g ps) ≡ keys_of ps
keys_changed g [] = refl
keys_changed g (p ∷ ps) = ap (λ ks. p.0 ∷ ks) (keys_changed g ps)

abbrev has_some : List ℕ → Bool
has_some ps = is_some (some_places ps)

-- what retain leaves, where each list becomes its g, and goes where it is empty
module _ {F K : Type 0} (R : F → K → Vec ℕ Global → Bool → Vec ℕ Global → F → Type 0) (g : List ℕ → List ℕ) (f : F)
    (says : (k : K) (v : Vec ℕ Global) (b : Bool) (w : Vec ℕ Global) (f' : F) → R f k v b w f'
    → (b ≡ has_some w.items) × (w.items ≡ g v.items) × (f' ≡ f)) where
  seen_retained : (es kept : List (K × Vec ℕ Global)) → RetainsPairs R f es kept
      → seen kept ≡ filter (λ p. has_some p.1) (changed g (seen es))
  seen_retained [] kept h = ap seen h
  seen_retained (e ∷ es) kept h =
      let s = says e.0 e.1 h.0 h.1 h.2 h.4 in
      ap seen h.6 ∙ go h.0 s.0 s.1 (seen_retained es h.3 (subst (λ x. RetainsPairs R x es h.3) s.2 h.5))
    where
      go : (b : Bool) → b ≡ has_some (h.1).items → (h.1).items ≡ g (e.1).items
          → seen h.3 ≡ filter (λ p. has_some p.1) (changed g (seen es))
          → seen (cond b ((e.0, h.1) ∷ h.3) h.3)
          ≡ cond (has_some (g (e.1).items)) ((e.0, g (e.1).items) ∷ filter (λ p. has_some p.1) (changed g (seen es)))
          (filter (λ p. has_some p.1) (changed g (seen es)))
      go true is w r = (λ j. (e.0, w j) ∷ r j)
          ∙ ap (λ c. cond c ((e.0, g (e.1).items) ∷ filter (λ p. has_some p.1) (changed g (seen es)))
          (filter (λ p. has_some p.1) (changed g (seen es)))) (is ∙ ap has_some w)
      go false is w r = r
          ∙ ap (λ c. cond c ((e.0, g (e.1).items) ∷ filter (λ p. has_some p.1) (changed g (seen es)))
          (filter (λ p. has_some p.1) (changed g (seen es)))) (is ∙ ap has_some w)

-- ---- lists that are not empty
some_filtered : (ps : List ℕ) → option_filter has_some (Some ps) ≡ some_places ps
some_filtered [] = refl
some_filtered (p ∷ ps) = refl

some_changed : (g : List ℕ → List ℕ) → g [] ≡ [] → (ps : List ℕ) → option_filter has_some (option_map g (some_places ps)) ≡ some_places (g ps)
some_changed g e [] = sym (ap some_places e)
some_changed g e (p ∷ ps) = some_filtered (g (p ∷ ps))

-- ---- tables
module _ {K S : Type 0} {eq : K → K → Bool} (laws : IsEquivalence eq) (m n : IndexMap K (Vec ℕ Global) S) where
  module _ {F : Type 0} (R : F → K → Vec ℕ Global → Bool → Vec ℕ Global → F → Type 0) (g : List ℕ → List ℕ) (f : F)
      (says : (k : K) (v : Vec ℕ Global) (b : Bool) (w : Vec ℕ Global) (f' : F) → R f k v b w f'
      → (b ≡ has_some w.items) × (w.items ≡ g v.items) × (f' ≡ f)) where
    pub retained : g [] ≡ [] → IsUnique eq m → RetainsPairs R f m.entries n.entries → (rows new : List (List K)) → IsTable eq m rows
        → ((k : K) → g (places_where (list_any (eq k)) rows) ≡ places_where (list_any (eq k)) new) → IsTable eq n new
    retained none unique h rows new t same = record {
      at = λ k. lookup_seen (eq k) n.entries ∙ ap (lookup (eq k)) (seen_retained R g f says m.entries n.entries h)
          ∙ lookup-filter-values laws has_some k (changed g (seen m.entries))
          (subst (IsDistinct eq) (sym (keys_changed g (seen m.entries) ∙ keys_seen m.entries)) unique)
          ∙ ap (option_filter has_some) (lookup_changed (eq k) g (seen m.entries)
          ∙ ap (option_map g) (sym (lookup_seen (eq k) m.entries) ∙ t.at k))
          ∙ some_changed g none (places_where (list_any (eq k)) rows) ∙ ap some_places (same k);
    }

-- ---- a key more in a row
none_apart : (ps : List ℕ) → ¬ (◌≡◌ {A = Option (List ℕ)} None (Some ps))
none_apart ps e = true≢false (sym (ap is_some e))

some_same : (ps qs : List ℕ) → ◌≡◌ {A = Option (List ℕ)} (Some ps) (Some qs) → ps ≡ qs
some_same ps qs e = ap (λ o. unwrap_or o []) e

or_false : (b c : Bool) → (c || (b || false)) ≡ (c || b)
or_false true c = refl
or_false false c = refl

or_true : (c : Bool) → (c || true) ≡ true
or_true true = refl
or_true false = refl

or_none : (c : Bool) → (c || false) ≡ c
or_none true = refl
or_none false = refl

abbrev pub listed : Option (Vec ℕ Global) → List ℕ
listed None = []
listed (Some v) = v.items

pub is_listed : (o : Option (Vec ℕ Global)) (ps : List ℕ) → option_map (λ (v : Vec ℕ Global). v.items) o ≡ some_places ps → listed o ≡ ps
is_listed None [] e = refl
is_listed None (p ∷ ps) e = absurd (none_apart (p ∷ ps) e)
is_listed (Some v) [] e = absurd (none_apart v.items (sym e))
is_listed (Some v) (p ∷ ps) e = some_same v.items (p ∷ ps) e

some_placed : (i : ℕ) (ps : List ℕ) → some_places (placed i ps) ≡ Some (placed i ps)
some_placed i [] = refl
some_placed i (p ∷ ps) = go (ltb p i) (eqb p i)
  where
    go : (b d : Bool) → some_places (cond b (p ∷ placed i ps) (cond d (p ∷ ps) (i ∷ p ∷ ps)))
        ≡ Some (cond b (p ∷ placed i ps) (cond d (p ∷ ps) (i ∷ p ∷ ps)))
    go true d = refl
    go false true = refl
    go false false = refl

module _ {K S : Type 0} {eq : K → K → Bool} (laws : IsEquivalence eq) (m n : IndexMap K (Vec ℕ Global) S) (k : K) (i : ℕ) (w : Vec ℕ Global)
    (updates : (q : K) → get eq n q ≡ cond (eq k q) (Some w) (get eq m q)) where
  noted_at : (rows : List (List K)) → IsTable eq m rows → i < length rows → w.items ≡ placed i (listed (get eq m k)) → (q : K)
      → option_map (λ (v : Vec ℕ Global). v.items) (get eq n q) ≡ some_places (places_where (list_any (eq q)) (with_key rows i k))
  noted_at rows t lt is q = ap (option_map (λ (v : Vec ℕ Global). v.items)) (updates q) ∙ go (eq k q) refl
    where
      added : (b : Bool) → eq k q ≡ b → list_any (eq q) (get_or rows i [] ++ k ∷ []) ≡ (list_any (eq q) (get_or rows i []) || b)
      added b e = list_any-append (eq q) (get_or rows i []) (k ∷ [])
          ∙ ap (λ c. list_any (eq q) (get_or rows i []) || (c || false)) (laws.symm q k ∙ e) ∙ or_false b (list_any (eq q) (get_or rows i []))

      go : (b : Bool) → eq k q ≡ b → option_map (λ (v : Vec ℕ Global). v.items) (cond b (Some w) (get eq m q))
          ≡ some_places (places_where (list_any (eq q)) (with_key rows i k))
      go true e = ap Some (is ∙ ap (placed i) (is_listed (get eq m k) (places_where (list_any (eq k)) rows) (t.at k)
          ∙ ap (λ (f : K → Bool). places_where (list_any f) rows) (λ j x. laws.congr k q x e j)))
          ∙ sym (some_placed i (places_where (list_any (eq q)) rows))
          ∙ ap some_places (placed_set (list_any (eq q)) (get_or rows i [] ++ k ∷ []) rows i (added true e ∙ or_true (list_any (eq q) (get_or rows i []))) lt)
      go false e = t.at q ∙ sym (ap some_places (kept_set (list_any (eq q)) (get_or rows i [] ++ k ∷ []) [] rows i lt
          (added false e ∙ or_none (list_any (eq q) (get_or rows i [])))))

  pub noted : (rows : List (List K)) → IsTable eq m rows → i < length rows → w.items ≡ placed i (listed (get eq m k)) → IsTable eq n (with_key rows i k)
  noted rows t lt is = record { at = noted_at rows t lt is }
