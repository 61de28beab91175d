-- Texts that grow piece by piece, as loops make them.
use Rattle.std.specs.Prelude.{ℕ, zero, suc, ◌≡◌, ◌+◌, ◌<◌, ◌≤◌, Bool, true, false, cond, ◌==◌, ◌||◌, nat_lt, if◌then◌else◌, not, unsigned_abs, decimal, map, Option, Some, None, List, [], ◌∷◌, ◌++◌, length, drop, refl}
use Rattle.std.proofs.Common.{sym, ap, ap₂, ◌∙◌, arith, get_or, append_assoc, add-one, drop-cons}
use Rattle.std.proofs.lemmas.Bool.Decides.{nat_tests}
use Rattle.std.proofs.lemmas.List.{append-nil}
use Rattle.std.proofs.Math.ListN.{drop_of_length-le}
use Rattle.std.specs.List.{list_any, flat_map}
use Rattle.lie_math.specs.Counts.{before_counts, trimmed}
use Rattle.lie_geometry.specs.Coordinates.{Space}
use Rattle.lie_print.specs.Printing.{LastFactor, last_text, name_at, repeated, letters_from, subscript, derivative_text, power_text, star, behind, number_factor, last_factor, is_shown, is_further, PrintedTerm, term_text}

push-repeated : (n : ℕ) (piece : List ℕ) → repeated n piece ++ piece ≡ piece ++ repeated n piece
unfolding repeated
push-repeated zero piece = sym (append-nil piece)
push-repeated (suc n) piece = append_assoc piece (repeated n piece) piece ∙ ap (λ l. piece ++ l) (push-repeated n piece)

pub repeated-more : (n : ℕ) (piece : List ℕ) → repeated (n + 1) piece ≡ repeated n piece ++ piece
unfolding repeated
repeated-more n piece = rw (add-one n) (sym (push-repeated n piece))

pub letters_from-push : (names counts : List ℕ) (i e : ℕ) (text more all : List ℕ) → i < length counts
    → more ≡ text ++ repeated (get_or counts i e) (name_at names i) → text ++ letters_from names i (drop i counts) ≡ all → more ++ letters_from names (i + 1) (drop (i + 1) counts) ≡ all
unfolding letters_from
letters_from-push names counts i e text more all lt more_is so_far =
    ap (λ l. l ++ letters_from names (i + 1) (drop (i + 1) counts)) more_is
    ∙ append_assoc text (repeated (get_or counts i e) (name_at names i)) (letters_from names (i + 1) (drop (i + 1) counts))
    ∙ ap (λ l. text ++ l) (sym (step (drop i counts) (drop-cons counts i e lt))) ∙ so_far
  where
    step : (rest : List ℕ) → rest ≡ get_or counts i e ∷ drop (suc i) counts → letters_from names i rest ≡ repeated (get_or counts i e) (name_at names i) ++ letters_from names (i + 1) (drop (i + 1) counts)
    step rest h = rw (h, add-one i) refl

pub letters_from-done : (names counts : List ℕ) (i : ℕ) (text all : List ℕ) → length counts ≤ i → text ++ letters_from names i (drop i counts) ≡ all → text ≡ all
unfolding letters_from
letters_from-done names counts i text all past so_far =
    sym (append-nil text) ∙ ap (λ l. text ++ l) (sym (ap (letters_from names i) (drop_of_length-le counts past))) ∙ so_far

letters_from-zero : (names : List ℕ) (i c : ℕ) → (c == 0) ≡ true → letters_from names i (c ∷ []) ≡ []
unfolding letters_from repeated
letters_from-zero names i c h = let none : c ≡ 0 = grind (arith, nat_tests, h) in rw none refl

letters_from-before : (names : List ℕ) (i c : ℕ) (J : List ℕ) → letters_from names i (before_counts c J) ≡ letters_from names i (c ∷ J)
unfolding letters_from
letters_from-before names i c [] = go (c == 0) refl
  where
    go : (b : Bool) → (c == 0) ≡ b → letters_from names i (cond b [] (c ∷ [])) ≡ letters_from names i (c ∷ [])
    go true e = sym (letters_from-zero names i c e)
    go false e = refl
letters_from-before names i c (d ∷ J) = refl

-- the zeros at the end of the counts don't show
pub letters_from-trimmed : (names : List ℕ) (i : ℕ) (J : List ℕ) → letters_from names i (trimmed J) ≡ letters_from names i J
unfolding letters_from
letters_from-trimmed names i [] = refl
letters_from-trimmed names i (c ∷ J) = letters_from-before names i c (trimmed J) ∙ ap (λ l. repeated c (name_at names i) ++ l) (letters_from-trimmed names (i + 1) J)

derived-before : (c : ℕ) (J : List ℕ) → list_any (λ k. nat_lt 0 k) (before_counts c J) ≡ list_any (λ k. nat_lt 0 k) (c ∷ J)
derived-before c [] = go (c == 0) refl
  where
    go : (b : Bool) → (c == 0) ≡ b → list_any (λ k. nat_lt 0 k) (cond b [] (c ∷ [])) ≡ list_any (λ k. nat_lt 0 k) (c ∷ [])
    go true e = let none : nat_lt 0 c ≡ false = grind (arith, nat_tests, e) in rw none refl
    go false e = refl
derived-before c (d ∷ J) = refl

pub derived_trimmed : (J : List ℕ) → list_any (λ k. nat_lt 0 k) (trimmed J) ≡ list_any (λ k. nat_lt 0 k) J
derived_trimmed [] = refl
derived_trimmed (c ∷ J) = derived-before c (trimmed J) ∙ ap (λ b. nat_lt 0 c || b) (derived_trimmed J)

-- a name derived by counts without zeros at the end
pub subscript_trimmed : (names : List ℕ) (J : List ℕ) → subscript names (trimmed J) ≡ subscript names J
subscript_trimmed names J = ap₂ (λ (b : Bool) (l : List ℕ). if b then 95 ∷ l else []) (derived_trimmed J) (letters_from-trimmed names 0 J)

pub derivative_text-parts : (names : List ℕ) (n : ℕ) (J start one two last : List ℕ) → one ≡ start ++ 102 ∷ [] → two ≡ one ++ decimal n → last ≡ two ++ subscript names J
    → last ≡ start ++ derivative_text names (record { unknown = n; counts = trimmed J })
derivative_text-parts names n J start one two last a b c = rw (subscript_trimmed names J, c, b, a) (simp append_assoc)

-- ---- factors
starred-append : (xs ys : List (List ℕ)) → flat_map (λ g. 42 ∷ g) (xs ++ ys) ≡ flat_map (λ g. 42 ∷ g) xs ++ flat_map (λ g. 42 ∷ g) ys
starred-append [] ys = refl
starred-append (x ∷ xs) ys = ap (λ l. (42 ∷ x) ++ l) (starred-append xs ys) ∙ sym (append_assoc (42 ∷ x) (flat_map (λ g. 42 ∷ g) xs) (flat_map (λ g. 42 ∷ g) ys))

behind-true : (xs : List (List ℕ)) → behind true xs ≡ flat_map (λ g. 42 ∷ g) xs
behind-true [] = refl
behind-true (x ∷ xs) = refl

behind-append : (b : Bool) (x : List ℕ) (xs ys : List (List ℕ)) → behind b (x ∷ (xs ++ ys)) ≡ behind b (x ∷ xs) ++ behind true ys
behind-append b x xs ys =
    ap (λ l. star b ++ x ++ l) (starred-append xs ys ∙ ap (λ l. flat_map (λ g. 42 ∷ g) xs ++ l) (sym (behind-true ys)))
    ∙ sym (append_assoc (star b ++ x) (flat_map (λ g. 42 ∷ g) xs) (behind true ys))

-- the number, the powers and the derivative, one behind the other
parts : Space → List ℕ → ℕ → List (ℕ × ℕ) → Option LastFactor → List ℕ
parts S names n ps d =
    (if is_shown n ps d then decimal n else []) ++ (behind (is_shown n ps d) (map (power_text S names) ps) ++ behind (is_further (is_shown n ps d) ps) (last_factor names d))

abbrev whole : Space → List ℕ → ℕ → List (ℕ × ℕ) → Option LastFactor → List ℕ
whole S names n ps d = behind false (number_factor n (map (power_text S names) ps ++ last_factor names d) ++ (map (power_text S names) ps ++ last_factor names d))

parts-whole : (S : Space) (names : List ℕ) (n : ℕ) (ps : List (ℕ × ℕ)) (d : Option LastFactor) → parts S names n ps d ≡ whole S names n ps d
unfolding parts
parts-whole S names n [] None = refl
parts-whole S names n [] (Some d) = go (n == 1)
  where
    go : (b : Bool) → (if not b then decimal n else []) ++ ([] ++ behind (not b) (last_text names d ∷ [])) ≡ behind false ((if b then [] else decimal n ∷ []) ++ last_text names d ∷ [])
    go true = refl
    go false = refl
parts-whole S names n (p ∷ ps) d = go (n == 1)
  where
    qs : List (List ℕ)
    qs = map (power_text S names) ps

    go : (b : Bool) → (if not b then decimal n else []) ++ (behind (not b) (power_text S names p ∷ map (power_text S names) ps) ++ behind true (last_factor names d))
        ≡ behind false ((if b then [] else decimal n ∷ []) ++ (power_text S names p ∷ (map (power_text S names) ps ++ last_factor names d)))
    go true = sym (behind-append false (power_text S names p) (map (power_text S names) ps) (last_factor names d))
    go false =
        ap (λ l. decimal n ++ l) (sym (behind-append true (power_text S names p) (map (power_text S names) ps) (last_factor names d)))

pub term_text-parts : (S : Space) (names : List ℕ) (t : PrintedTerm) (start one two last : List ℕ)
    → one ≡ start ++ (if is_shown (unsigned_abs t.0) t.1.list t.2 then decimal (unsigned_abs t.0) else [])
    → two ≡ one ++ behind (is_shown (unsigned_abs t.0) t.1.list t.2) (map (power_text S names) t.1.list)
    → last ≡ two ++ behind (is_further (is_shown (unsigned_abs t.0) t.1.list t.2) t.1.list) (last_factor names t.2)
    → last ≡ start ++ term_text S names t
unfolding parts
term_text-parts S names t start one two last a b c = rw (c, b, a) (simp append_assoc) ∙ ap (λ l. start ++ l) (parts-whole S names (unsigned_abs t.0) t.1.list t.2)
