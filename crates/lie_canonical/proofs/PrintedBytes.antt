-- The bytes of a canonical text: a space to `~` without `#`, and line ends.
use Rattle.std.specs.Prelude.{ℕ, zero, suc, ◌+◌, ◌^◌, ◌==◌, ◌≡◌, ◌≤◌, ◌<◌, nat_le, nat_lt, ltb, cond, Bool, true, false, not, ◌&&◌, List, [], ◌∷◌, ◌++◌, length, map, take, drop, decimal, ℤ, unsigned_abs, None, if◌then◌else◌, refl}
use Rattle.std.specs.Int.{is_negative}
use Rattle.std.specs.List.{flat_map, list_any, AllByRecursion as Every}
use Rattle.std.proofs.Common.{sym, subst, arith, append_assoc}
use Rattle.std.proofs.lemmas.Bool.Decides.{nat_tests}
use Rattle.std.proofs.lemmas.Fmt.{decimal_is_IsNumeral_wide}
use Rattle.lie_math.specs.Monomial.{Monomial}
use Rattle.lie_geometry.specs.Coordinates.{Space, Coordinate, independent, jet, coordinate, coordinates_up_to}
use Rattle.lie_scan.specs.declared.runs.Class.TheVariants.{Blank, Digit, Content}
use Rattle.lie_file.specs.FileGrammar.{is_allowed, AreAllowed}
use Rattle.lie_print.specs.Printing.{name_at, repeated, letters_from, coordinate_text, variable_text, power_text, number_factor, term_text, sign_text, signed_text, sum_text, behind as joined}
use Rattle.lie_canonical.specs.RightSides.{plain_terms}
use Rattle.lie_scan.specs.Runs.{is_in, after_blanks}
use Rattle.lie_scan.specs.TokenGrammar.{AreIn}
use Rattle.lie_scan.proofs.Blanks.{and_true, letter_range, digit_range}
use Rattle.lie_scan.proofs.NumberLaws.{all_digits}
use Rattle.lie_file.proofs.DistinctNames.{AreDistinct}
use Rattle.lie_canonical.proofs.PrintedFiles.{IsContentLine}
use Rattle.lie_canonical.proofs.PrintedPowers.{IsLowPower}
use Rattle.lie_canonical.proofs.PrintedSums.{IsLowTerm}
use Rattle.lie_math.proofs.EveryElement.{every-append}

-- ---- bytes
-- a space to `~` without `#`
abbrev pub is_plain : ℕ → Bool
is_plain b = nat_le 32 b && (nat_le b 126 && not (b == 35))

abbrev pub ArePlain : List ℕ → Type 0
ArePlain bytes = Every (λ b. is_plain b ≡ true) bytes

record IsPlain (b : ℕ) : Type 0 where
  low : 32 ≤ b
  high : b ≤ 126
  no_comment : (b == 35) ≡ false

plain_is : (b : ℕ) → is_plain b ≡ true → IsPlain b
plain_is b h =
    let p = and_true (nat_le 32 b) (nat_le b 126 && not (b == 35)) h in
    let q = and_true (nat_le b 126) (not (b == 35)) p.1 in
    record { low = grind (arith, nat_tests, p.0); high = grind (arith, nat_tests, q.0); no_comment = off (b == 35) q.1 }
  where
    off : (t : Bool) → not t ≡ true → t ≡ false
    off true e = cc
    off false e = refl

is_plain_above : (b : ℕ) → 36 ≤ b → b ≤ 126 → is_plain b ≡ true
is_plain_above b low high =
    let x : nat_le 32 b ≡ true = grind (arith, nat_tests, low) in
    let y : nat_le b 126 ≡ true = grind (arith, nat_tests, high) in
    let z : (b == 35) ≡ false = grind (arith, nat_tests, low) in
    rw (x, y, z) refl

digits_plain : (ds : List ℕ) → AreIn Digit ds → ArePlain ds
digits_plain [] h = tt
digits_plain (d ∷ ds) h = let r = digit_range d h.0 in let low = r.0 in let high = r.1 in (is_plain_above d (omega arith) (omega arith), digits_plain ds h.1)

pub names_plain : (before names : List ℕ) → AreDistinct before names → ArePlain names
names_plain before [] h = tt
names_plain before (n ∷ ns) h = let r = letter_range n h.0 in let low = r.0 in let high = r.1 in (is_plain_above n (omega arith) (omega arith), names_plain (before ++ n ∷ []) ns h.2)

-- ---- pieces
pub join : (xs ys : List ℕ) → ArePlain xs → ArePlain ys → ArePlain (xs ++ ys)
join xs ys h k = every-append (λ b. is_plain b ≡ true) xs ys h k

plain_take : (n : ℕ) (xs : List ℕ) → ArePlain xs → ArePlain (take n xs)
plain_take zero xs h = tt
plain_take (suc n) [] h = tt
plain_take (suc n) (x ∷ xs) h = (h.0, plain_take n xs h.1)

plain_drop : (n : ℕ) (xs : List ℕ) → ArePlain xs → ArePlain (drop n xs)
plain_drop zero xs h = h
plain_drop (suc n) [] h = tt
plain_drop (suc n) (x ∷ xs) h = plain_drop n xs h.1

plain_repeated : (n : ℕ) (piece : List ℕ) → ArePlain piece → ArePlain (repeated n piece)
unfolding repeated
plain_repeated zero piece h = tt
plain_repeated (suc n) piece h = join piece (repeated n piece) h (plain_repeated n piece h)

pub plain_names : (names : List ℕ) → ArePlain names → ArePlain (flat_map (λ n. 32 ∷ n ∷ []) names)
plain_names [] h = tt
plain_names (n ∷ ns) h = (refl, (h.0, plain_names ns h.1))

plain_decimal : (n : ℕ) → n < 2 ^ 128 → ArePlain (decimal n)
plain_decimal n small = let d = decimal_is_IsNumeral_wide n (omega arith) in digits_plain (decimal n) (all_digits (decimal n) (d.0).1)

module _ (S : Space) (names : List ℕ) (plain : ArePlain names) where
  plain_name : (i : ℕ) → ArePlain (name_at names i)
  plain_name i = plain_take 1 (drop i names) (plain_drop i names plain)

  plain_letters : (i : ℕ) (J : List ℕ) → ArePlain (letters_from names i J)
  unfolding letters_from
  plain_letters i [] = tt
  plain_letters i (c ∷ J) = join (repeated c (name_at names i)) (letters_from names (i + 1) J) (plain_repeated c (name_at names i) (plain_name i)) (plain_letters (i + 1) J)

  pub plain_coordinate : (c : Coordinate) → ArePlain (coordinate_text S names c)
  plain_coordinate (independent i) = plain_name i
  plain_coordinate (jet a J) = go (list_any (λ c. nat_lt 0 c) J)
    where
      go : (b : Bool) → ArePlain (name_at names (S.p + a) ++ (if b then 95 ∷ letters_from names 0 J else []))
      go true = join (name_at names (S.p + a)) (95 ∷ letters_from names 0 J) (plain_name (S.p + a)) (refl, plain_letters 0 J)
      go false = join (name_at names (S.p + a)) [] (plain_name (S.p + a)) tt

  plain_variable : (w : ℕ) → ArePlain (variable_text S names w)
  unfolding variable_text
  plain_variable w = go (ltb w (coordinates_up_to S 12))
    where
      go : (b : Bool) → ArePlain (cond b (coordinate_text S names (coordinate S w)) [])
      go true = plain_coordinate (coordinate S w)
      go false = tt

  plain_power : (t : ℕ × ℕ) → IsLowPower S t → ArePlain (power_text S names t)
  plain_power t h = go (t.1 == 1)
    where
      go : (b : Bool) → ArePlain (variable_text S names t.0 ++ (if b then [] else 94 ∷ decimal t.1))
      go true = join (variable_text S names t.0) [] (plain_variable t.0) tt
      go false = let low = h.low in join (variable_text S names t.0) (94 ∷ decimal t.1) (plain_variable t.0) (refl, plain_decimal t.1 (omega arith))

  -- ---- terms and sums
  plain_factors : (ts : List (ℕ × ℕ)) → Every (IsLowPower S) ts → Every ArePlain (map (power_text S names) ts ++ [])
  plain_factors [] h = tt
  plain_factors (t ∷ ts) h = (plain_power t h.0, plain_factors ts h.1)

  plain_number : (n : ℕ) (fs : List (List ℕ)) → n < 2 ^ 127 → Every ArePlain (number_factor n fs)
  plain_number n [] small = (plain_decimal n (omega arith), tt)
  plain_number n (f ∷ fs) small = go (n == 1)
    where
      go : (b : Bool) → Every ArePlain (if b then [] else decimal n ∷ [])
      go true = tt
      go false = (plain_decimal n (omega arith), tt)

  plain_starred : (fs : List (List ℕ)) → Every ArePlain fs → ArePlain (flat_map (λ g. 42 ∷ g) fs)
  plain_starred [] h = tt
  plain_starred (f ∷ fs) h = (refl, join f (flat_map (λ g. 42 ∷ g) fs) h.0 (plain_starred fs h.1))

  plain_joined : (fs : List (List ℕ)) → Every ArePlain fs → ArePlain (joined false fs)
  plain_joined [] h = tt
  plain_joined (f ∷ fs) h = join f (flat_map (λ g. 42 ∷ g) fs) h.0 (plain_starred fs h.1)

  plain_term : (e : Monomial × ℤ) → IsLowTerm S e → ArePlain (term_text S names (e.1, e.0, None))
  plain_term e h =
      let F : List (List ℕ) = map (power_text S names) (e.0).list ++ [] in
      plain_joined (number_factor (unsigned_abs e.1) F ++ F) (every-append ArePlain (number_factor (unsigned_abs e.1) F) F (plain_number (unsigned_abs e.1) F h.fits) (plain_factors (e.0).list h.powers))

  plain_sign : (further negative : Bool) → ArePlain (sign_text further negative)
  plain_sign false false = tt
  plain_sign false true = (refl, tt)
  plain_sign true false = (refl, (refl, (refl, tt)))
  plain_sign true true = (refl, (refl, (refl, tt)))

  plain_signed : (further : Bool) (e : Monomial × ℤ) → IsLowTerm S e → ArePlain (signed_text S names further (e.1, e.0, None))
  plain_signed further e h = join (sign_text further (is_negative e.1)) (term_text S names (e.1, e.0, None)) (plain_sign further (is_negative e.1)) (plain_term e h)

  plain_further : (es : List (Monomial × ℤ)) → Every (IsLowTerm S) es → ArePlain (flat_map (signed_text S names true) (plain_terms es))
  plain_further [] h = tt
  plain_further (e ∷ es) h = join (signed_text S names true (e.1, e.0, None)) (flat_map (signed_text S names true) (plain_terms es)) (plain_signed true e h.0) (plain_further es h.1)

  pub plain_sum : (es : List (Monomial × ℤ)) → Every (IsLowTerm S) es → ArePlain (sum_text S names (plain_terms es))
  plain_sum [] h = (refl, tt)
  plain_sum (e ∷ es) h = join (signed_text S names false (e.1, e.0, None)) (flat_map (signed_text S names true) (plain_terms es)) (plain_signed false e h.0) (plain_further es h.1)

-- ---- lines
plain_content : (l : List ℕ) → ArePlain l → AreIn Content l
plain_content [] h = tt
plain_content (b ∷ bs) h =
    let p = plain_is b h.0 in
    let low = p.low in
    let x : (b == 13) ≡ false = grind (arith, nat_tests, low) in
    (rw (p.no_comment, x) refl, plain_content bs h.1)

plain_one : (l : List ℕ) → ArePlain l → Every (λ b. (b == 10) ≡ false) l
plain_one [] h = tt
plain_one (b ∷ bs) h = let p = plain_is b h.0 in let low = p.low in (grind (arith, nat_tests, low), plain_one bs h.1)

not_empty : (b : ℕ) (bs : List ℕ) → is_in Blank b ≡ false → (length (after_blanks (b ∷ bs)) == 0) ≡ false
not_empty b bs h = rw h (some (length bs))
  where
    some : (n : ℕ) → (suc n == 0) ≡ false
    some n = grind (arith, nat_tests)

-- a line that begins with no blank
pub content_line : (b : ℕ) (bs : List ℕ) → is_in Blank b ≡ false → ArePlain (b ∷ bs) → IsContentLine (b ∷ bs)
content_line b bs begins h = record { content = plain_content (b ∷ bs) h; one = plain_one (b ∷ bs) h; some = not_empty b bs begins }

plain_allowed : (b : ℕ) (bs : List ℕ) → is_plain b ≡ true → is_allowed b bs ≡ true
plain_allowed b bs h =
    let p = plain_is b h in
    let low = p.low in
    let high = p.high in
    let x : (b == 13) ≡ false = grind (arith, nat_tests, low) in
    let y : (b == 9) ≡ false = grind (arith, nat_tests, low) in
    let z : (b == 10) ≡ false = grind (arith, nat_tests, low) in
    let u : nat_le 32 b ≡ true = grind (arith, nat_tests, low) in
    let v : nat_le b 126 ≡ true = grind (arith, nat_tests, high) in
    rw (x, y, z, u, v) refl

allowed_line : (l rest : List ℕ) → ArePlain l → AreAllowed rest → AreAllowed (l ++ 10 ∷ rest)
allowed_line [] rest h k = (refl, k)
allowed_line (b ∷ bs) rest h k = (plain_allowed b (bs ++ 10 ∷ rest) h.0, allowed_line bs rest h.1 k)

pub allowed_lines : (ls : List (List ℕ)) → Every ArePlain ls → AreAllowed (flat_map (λ l. l ++ 10 ∷ []) ls)
allowed_lines [] h = tt
allowed_lines (l ∷ ls) h =
    subst AreAllowed (sym (append_assoc l (10 ∷ []) (flat_map (λ l. l ++ 10 ∷ []) ls))) (allowed_line l (flat_map (λ l. l ++ 10 ∷ []) ls) h.0 (allowed_lines ls h.1))
