-- Names, lines and variables, as loops meet them.
use Rattle.std.specs.Prelude.{ℕ, zero, suc, nat_le, ◌&&◌, Option, Some, None, ◌≡◌, ◌+◌, ◌-◌, ◌*◌, ◌/◌, ◌%◌, ◌^◌, ◌<◌, ◌≤◌, ◌==◌, eqb, cond, not, Bool, true, false, List, [], ◌∷◌, ◌++◌, length, map, filter, take, drop, get_or, if◌then◌else◌, refl}
use Rattle.std.specs.Borrow.{Bor}
use Rattle.std.specs.List.{list_any, range_with_len}
use Rattle.std.proofs.Common.{sym, ap, ap₂, ◌∙◌, subst, arith, append_assoc, add-one, drop-cons}
use Rattle.std.proofs.lemmas.List.{append-nil, length-drop, length-append}
use Rattle.std.proofs.Math.ListN.{drop_of_length-le}
use Rattle.std.proofs.lemmas.Bool.Decides.{nat_tests}
use Rattle.lie_readback.specs.SystemDrafts.{is_free, free_lines, behind_free, stand_in, variables_in, names_in, are_names, is_count, read_named}
use Rattle.lie_report.specs.Reports.{Named}
use Rattle.lie_scan.proofs.Blanks.{and_true}
use Rattle.lie_lin.specs.Systems.{has_bit}
use Rattle.std.proofs.Math.Nat.{div-one, zero-div}
use Rattle.std.proofs.lemmas.Nat.Bits.{bit_at-suc}
use mir.Val.{bool_byte}

-- ---- names
named_first : (x : ℕ) (rest : List ℕ) → filter (λ b. not (b == 32)) (x ∷ rest) ≡ (if x == 32 then [] else x ∷ []) ++ filter (λ b. not (b == 32)) rest
named_first x rest = go (x == 32)
  where
    go : (b : Bool) → cond (not b) (x ∷ filter (λ b. not (b == 32)) rest) (filter (λ b. not (b == 32)) rest) ≡ (if b then [] else x ∷ []) ++ filter (λ b. not (b == 32)) rest
    go true = refl
    go false = refl

pub names_more : (xs : List ℕ) (i : ℕ) (names more all : List ℕ) → i < length xs → more ≡ names ++ (if get_or xs i 0 == 32 then [] else get_or xs i 0 ∷ [])
    → names ++ filter (λ b. not (b == 32)) (drop i xs) ≡ all → more ++ filter (λ b. not (b == 32)) (drop (i + 1) xs) ≡ all
names_more xs i names more all lt is so_far =
    ap (λ k. more ++ filter (λ b. not (b == 32)) (drop k xs)) (add-one i)
    ∙ ap (λ l. l ++ filter (λ b. not (b == 32)) (drop (suc i) xs)) is
    ∙ append_assoc names (if get_or xs i 0 == 32 then [] else get_or xs i 0 ∷ []) (filter (λ b. not (b == 32)) (drop (suc i) xs))
    ∙ ap (λ l. names ++ l) (sym (ap (filter (λ b. not (b == 32))) (drop-cons xs i 0 lt) ∙ named_first (get_or xs i 0) (drop (suc i) xs))) ∙ so_far

pub names_done : (xs : List ℕ) (i : ℕ) (names all : List ℕ) → length xs ≤ i → names ++ filter (λ b. not (b == 32)) (drop i xs) ≡ all → names ≡ all
names_done xs i names all past so_far = sym (append-nil names) ∙ ap (λ l. names ++ l) (sym (ap (filter (λ b. not (b == 32))) (drop_of_length-le xs past))) ∙ so_far

-- ---- lines
pub map_take : (n : ℕ) (xs : List (Bor (List ℕ))) → map (λ x. x.now) (take n xs) ≡ take n (map (λ x. x.now) xs)
map_take zero xs = refl
map_take (suc n) [] = refl
map_take (suc n) (x ∷ xs) = ap (λ l. x.now ∷ l) (map_take n xs)

pub map_drop : (n : ℕ) (xs : List (Bor (List ℕ))) → map (λ x. x.now) (drop n xs) ≡ drop n (map (λ x. x.now) xs)
map_drop zero xs = refl
map_drop (suc n) [] = refl
map_drop (suc n) (x ∷ xs) = map_drop n xs

length_seen : (xs : List (Bor (List ℕ))) → length (map (λ x. x.now) xs) ≡ length xs
length_seen [] = refl
length_seen (x ∷ xs) = ap suc (length_seen xs)

free_few : (ls : List (List ℕ)) → length (free_lines ls) ≤ length ls
free_few [] = omega arith
free_few (l ∷ ls) = go (is_free l) (free_few ls)
  where
    go : (b : Bool) → length (free_lines ls) ≤ length ls → length (if b then l ∷ free_lines ls else []) ≤ suc (length ls)
    go true h = omega arith
    go false h = omega arith

pub free_within : (xs : List (Bor (List ℕ))) (n : ℕ) → n ≡ length (free_lines (map (λ x. x.now) xs)) → n ≤ length xs
free_within xs n e = let a = free_few (map (λ x. x.now) xs) in let b = length_seen xs in omega arith

free_taken : (ls : List (List ℕ)) → take (length (free_lines ls)) ls ≡ free_lines ls
free_taken [] = refl
free_taken (l ∷ ls) = go (is_free l) (free_taken ls)
  where
    go : (b : Bool) → take (length (free_lines ls)) ls ≡ free_lines ls → take (length (if b then l ∷ free_lines ls else [])) (l ∷ ls) ≡ (if b then l ∷ free_lines ls else [])
    go true h = ap (λ (m : List (List ℕ)). l ∷ m) h
    go false h = refl

free_dropped : (ls : List (List ℕ)) → drop (length (free_lines ls)) ls ≡ behind_free ls
free_dropped [] = refl
free_dropped (l ∷ ls) = go (is_free l) (free_dropped ls)
  where
    go : (b : Bool) → drop (length (free_lines ls)) ls ≡ behind_free ls → drop (length (if b then l ∷ free_lines ls else [])) (l ∷ ls) ≡ (if b then behind_free ls else l ∷ ls)
    go true h = h
    go false h = refl

pub front_free : (xs front : List (Bor (List ℕ))) (n : ℕ) → n ≡ length (free_lines (map (λ x. x.now) xs)) → front ≡ take n xs → map (λ x. x.now) front ≡ free_lines (map (λ x. x.now) xs)
front_free xs front n e is = ap (map (λ (x : Bor (List ℕ)). x.now)) is ∙ map_take n xs ∙ ap (λ k. take k (map (λ x. x.now) xs)) e ∙ free_taken (map (λ x. x.now) xs)

pub back_free : (xs back : List (Bor (List ℕ))) (n : ℕ) → n ≡ length (free_lines (map (λ x. x.now) xs)) → back ≡ drop n xs → map (λ x. x.now) back ≡ behind_free (map (λ x. x.now) xs)
back_free xs back n e is = ap (map (λ (x : Bor (List ℕ)). x.now)) is ∙ map_drop n xs ∙ ap (λ k. drop k (map (λ x. x.now) xs)) e ∙ free_dropped (map (λ x. x.now) xs)

pub general_lines : (xs : List (Bor (List ℕ))) (n : ℕ) → map (λ x. x.now) (take n xs) ≡ take n (map (λ x. x.now) xs)
general_lines xs n = map_take n xs

pub equation_lines : (xs : List (Bor (List ℕ))) (n k : ℕ) → k ≡ length xs - 2 - (n + 1) → map (λ x. x.now) (take k (drop (n + 1) xs)) ≡ take (length (map (λ x. x.now) xs) - (n + 3)) (drop (n + 1) (map (λ x. x.now) xs))
equation_lines xs n k e =
    let l = length_seen xs in
    let same : k ≡ length (map (λ x. x.now) xs) - (n + 3) = omega arith in
    map_take k (drop (n + 1) xs) ∙ ap₂ (λ (m : ℕ) (ls : List (List ℕ)). take m ls) same (map_drop (n + 1) xs)

-- ---- bits
-- the number with these binary digits, the lowest first
abbrev pub bits_of : List Bool → ℕ
bits_of [] = 0
bits_of (b ∷ bs) = 2 * bits_of bs + cond b 1 0

two_to : ℕ → ℕ
two_to zero = 1
two_to (suc n) = 2 * two_to n

bits_below : (bs : List Bool) → bits_of bs < two_to (length bs)
unfolding two_to
bits_below [] = omega arith
bits_below (b ∷ bs) = go b (bits_below bs)
  where
    go : (b : Bool) → bits_of bs < two_to (length bs) → 2 * bits_of bs + cond b 1 0 < 2 * two_to (length bs)
    go true h = omega arith
    go false h = omega arith

two_to_rises : (m n : ℕ) → m ≤ n → two_to m ≤ two_to n
unfolding two_to
two_to_rises zero zero h = omega arith
two_to_rises zero (suc n) h = let k = two_to_rises zero n (omega arith) in omega arith
two_to_rises (suc m) zero h = absurd (omega arith)
two_to_rises (suc m) (suc n) h = let k = two_to_rises m n (omega arith) in omega arith

pub bits_small : (bs : List Bool) → length bs ≤ 7 → bits_of bs < 128
unfolding two_to
bits_small bs few = let a = bits_below bs in let b : two_to (length bs) ≤ 128 = two_to_rises (length bs) 7 few in omega arith

length_mapped : (f : ℕ → Bool) (xs : List ℕ) → length (map f xs) ≡ length xs
length_mapped f [] = refl
length_mapped f (x ∷ xs) = ap suc (length_mapped f xs)

pub bits_fit : (f : ℕ → Bool) (names : List ℕ) (i bits : ℕ) → 0 < i → length names ≤ 8 → bits ≡ bits_of (map f (drop i names)) → bits < 128
bits_fit f names i bits some few is =
    let a = length_mapped f (drop i names) in
    let b = length-drop i names in
    let small = bits_small (map f (drop i names)) (omega arith) in
    omega arith

-- a binary digit
lowest : (b : Bool) (m : ℕ) → eqb ((2 * m + cond b 1 0) / 2 ^ 0 % 2) 1 ≡ b
lowest b m = ap (λ n. eqb (n % 2) 1) (div-one (2 * m + cond b 1 0)) ∙ go b
  where
    go : (b : Bool) → eqb ((2 * m + cond b 1 0) % 2) 1 ≡ b
    go true = ap (λ n. eqb n 1) (odd m)
      where
        odd : (m : ℕ) → (2 * m + 1) % 2 ≡ 1
        odd m = omega arith
    go false = ap (λ n. eqb n 1) (even m)
      where
        even : (m : ℕ) → (2 * m + 0) % 2 ≡ 0
        even m = omega arith

half : (b : Bool) (m : ℕ) → (2 * m + cond b 1 0) / 2 ≡ m
half true m = omega arith
half false m = omega arith

pub has_bit_of : (bs : List Bool) (i : ℕ) → has_bit (bits_of bs) i ≡ get_or bs i false
has_bit_of [] i = ap (λ n. eqb (n % 2) 1) (zero-div (2 ^ i))
has_bit_of (b ∷ bs) zero = lowest b (bits_of bs)
has_bit_of (b ∷ bs) (suc i) =
    ap (λ n. eqb n 1) (bit_at-suc (bits_of (b ∷ bs)) i) ∙ ap (λ n. eqb (n / 2 ^ i % 2) 1) (half b (bits_of bs)) ∙ has_bit_of bs i

filter_same : (p q : ℕ → Bool) → ((i : ℕ) → p i ≡ q i) → (xs : List ℕ) → filter p xs ≡ filter q xs
filter_same p q h [] = refl
filter_same p q h (x ∷ xs) = ap₂ (λ (b : Bool) (l : List ℕ). cond b (x ∷ l) l) (h x) (filter_same p q h xs)

pub variables_are : (line names letters : List ℕ) (i bits : ℕ) → i ≤ 0 → letters ≡ drop 6 line → bits ≡ bits_of (map (λ n. list_any (λ b. b == n) letters) (drop i names))
    → filter (has_bit bits) (range_with_len 0 8) ≡ variables_in names line
variables_are line names letters i bits none is so_far =
    let all : drop i names ≡ names = let z : i ≡ 0 = omega arith in ap (λ k. drop k names) z in
    let same : bits ≡ bits_of (stand_in names line) =
    so_far ∙ ap (λ ns. bits_of (map (λ n. list_any (λ b. b == n) letters) ns)) all ∙ ap (λ (l : List ℕ). bits_of (map (λ n. list_any (λ b. b == n) l) names)) is in
    ap (λ n. filter (has_bit n) (range_with_len 0 8)) same
    ∙ filter_same (has_bit (bits_of (stand_in names line))) (λ i. get_or (stand_in names line) i false) (has_bit_of (stand_in names line)) (range_with_len 0 8)

-- ---- names that are read
pub few_letters : (vars deps : List ℕ) (N : Named) → read_named vars deps ≡ Some N → length N.names ≤ 8
unfolding read_named
few_letters vars deps N h = go (is_count (length (names_in vars))) (is_count (length (names_in deps))) (are_names (names_in vars ++ names_in deps)) refl refl h
  where
    counted : (n : ℕ) → is_count n ≡ true → n ≤ 4
    counted n e = let p = and_true (nat_le 1 n) (nat_le n 4) e in grind (arith, nat_tests, p.1)

    go : (a b c : Bool) → is_count (length (names_in vars)) ≡ a → is_count (length (names_in deps)) ≡ b
        → (if a && (b && c) then Some (record { space = record { p = length (names_in vars); q = length (names_in deps) }; names = names_in vars ++ names_in deps }) else None) ≡ Some N → length N.names ≤ 8
    go true true true a b e =
        let x = counted (length (names_in vars)) a in
        let y = counted (length (names_in deps)) b in
        let l = length-append (names_in vars) (names_in deps) in
        let named : names_in vars ++ names_in deps ≡ N.names = ap (λ (o : Option Named). names_or o) e in
        let m = ap length named in
        omega arith
      where
        names_or : Option Named → List ℕ
        names_or (Some M) = M.names
        names_or None = []
    go true true false a b e = cc
    go true false c a b e = cc
    go false b c a d e = cc

pub bit_small : (b : Bool) → bool_byte b ≤ 1
bit_small true = omega arith
bit_small false = omega arith
