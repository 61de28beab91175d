-- The texts of powers and of derivatives of unknowns are read back.
use Rattle.std.specs.Prelude.{ℕ, zero, suc, ◌≡◌, ◌+◌, ◌<◌, ◌≤◌, ◌^◌, ◌==◌, min, nat_lt, Bool, true, false, ◌||◌, cond, T, List, [], ◌∷◌, ◌++◌, length, map, take, drop, replicate, decimal, Option, Some, None, if◌then◌else◌, refl}
use Rattle.std.specs.List.{list_any, count_by, IsDistinct, AllByRecursion as Every}
use Rattle.std.proofs.Common.{sym, ap, ap₂, ◌∙◌, subst, arith, append_assoc, add-one}
use Rattle.std.proofs.lemmas.Bool.Decides.{nat_tests}
use Rattle.std.proofs.lemmas.List.{append-nil}
use Rattle.std.proofs.lemmas.List.Sums.{sum_by-cons, sum_by-append}
use Rattle.lie_math.specs.Counts.{Derivative, trimmed, before_counts}
use Rattle.lie_math.specs.FiniteSumLaws.{of_list}
use Rattle.lie_math.specs.Monomial.{Monomial, powers, monomial_of}
use Rattle.lie_math.specs.SortedSum.{is_canonical}
use Rattle.lie_geometry.specs.Coordinates.{Space}
use Rattle.lie_jet.specs.Jets.{IsSmall}
use Rattle.lie_system.specs.Written.{IsLowercase, AreDistinctLetters}
use Rattle.lie_print.specs.Printing.{name_at, repeated, letters_from, subscript, power_text, derivative_text, of_unknown}
use Rattle.lie_scan.specs.declared.runs.Class.TheVariants.{Digit}
use Rattle.lie_scan.specs.Names.{place_of}
use Rattle.lie_scan.specs.Runs.{run, behind}
use Rattle.lie_scan.specs.TokenGrammar.{BeginsOutside}
use Rattle.lie_readback.specs.Readings.{◌>>=◌, read_each}
use Rattle.lie_readback.specs.Factors.{read_small, read_exponent, read_power, read_monomial, read_product, count_in, counts_in, read_derivative, read_last}
use Rattle.lie_readback.specs.Sums.{begins_with_digit}
use Rattle.lie_readback.proofs.NameTexts.{IsNameAt, named_at, variable_is_name}
use Rattle.lie_readback.proofs.NumberTexts.{small_back, decimal_front, decimal_back, decimal_some}
use Rattle.lie_readback.proofs.Separators.{AreFrom, from_append, decimal_from}

-- ---- each text
module _ {X : Type 0} (read : List ℕ → Option X) (show : X → List ℕ) (Is : X → Type 0) (law : (x : X) → Is x → read (show x) ≡ Some x) where
  pub each_back : (done xs : List X) → Every Is xs → read_each read done (map show xs) ≡ Some (done ++ xs)
  each_back done [] h = ap Some (sym (append-nil done))
  each_back done (x ∷ xs) h = rw (law x h.0) (each_back (done ++ x ∷ []) xs h.1 ∙ ap Some (append_assoc done (x ∷ []) xs))

-- ---- powers
-- a power of one of n variables, with an exponent that is kept
pub record IsPower (n : ℕ) (p : ℕ × ℕ) : Type 0 where
  pub variable : p.0 < n
  pub low : p.1 < 2 ^ 32

-- the text of a factor that begins with a letter
pub record IsLettered (text : List ℕ) : Type 0 where
  pub letter : ℕ
  pub rest : List ℕ
  pub spelled : text ≡ letter ∷ rest
  pub high : 97 ≤ letter
  pub from : AreFrom 48 text

module _ (S : Space) (small : IsSmall S) (names : List ℕ) (many : length names ≡ S.p + S.q) (letters : AreDistinctLetters names) where
  exponent_text : ℕ → List ℕ
  exponent_text e = if e == 1 then [] else 94 ∷ decimal e

  power_spelled : (p : ℕ × ℕ) (n : IsNameAt 0 names p.0) → p.0 < S.p + S.q → power_text S names p ≡ n.letter ∷ (if p.1 == 1 then [] else 94 ∷ decimal p.1)
  power_spelled p n lt = ap (λ (l : List ℕ). l ++ (if p.1 == 1 then [] else 94 ∷ decimal p.1)) (variable_is_name S small names p.0 lt ∙ n.spelled)

  exponent_back : (e : ℕ) → e < 2 ^ 32 → read_exponent (if e == 1 then [] else 94 ∷ decimal e) ≡ Some e
  exponent_back e low = go (e == 1) refl
    where
      go : (b : Bool) → (e == 1) ≡ b → read_exponent (if b then [] else 94 ∷ decimal e) ≡ Some e
      go true is = let one : 1 ≡ e = grind (arith, nat_tests, is) in ap Some one
      go false is = small_back e low

  pub power_back : (p : ℕ × ℕ) → IsPower (S.p + S.q) p → read_power names (power_text S names p) ≡ Some p
  power_back p h =
      let v = h.variable in
      let n = named_at names letters p.0 (omega arith) in
      ap (read_power names) (power_spelled p n h.variable) ∙ rw (n.place, exponent_back p.1 h.low) (ap (λ (i : ℕ). Some (i, p.1)) (plain p.0))
    where
      plain : (i : ℕ) → 0 + i ≡ i
      plain i = omega arith

  pub power_lettered : (p : ℕ × ℕ) → IsPower (S.p + S.q) p → IsLettered (power_text S names p)
  power_lettered p h =
      let v = h.variable in
      let n = named_at names letters p.0 (omega arith) in
      let high = (n.lower).0 in
      record {
        letter = n.letter;
        rest = if p.1 == 1 then [] else 94 ∷ decimal p.1;
        spelled = power_spelled p n h.variable;
        high = high;
        from = subst (AreFrom 48) (sym (power_spelled p n h.variable)) ((omega arith), exponent_from (p.1 == 1));
      }
    where
      exponent_from : (b : Bool) → AreFrom 48 (if b then [] else 94 ∷ decimal p.1)
      exponent_from true = tt
      exponent_from false = let low = h.low in ((omega arith), decimal_from p.1 (omega arith))

  pub product_back : (m : Monomial) → Every (IsPower (S.p + S.q)) m.list → read_product names (map (power_text S names) m.list) ≡ Some m
  unfolding read_product
  product_back m h =
      rw (each_back (read_power names) (power_text S names) (IsPower (S.p + S.q)) power_back [] m.list h) (go (is_canonical powers.order powers.values m.list) m.canonical)
    where
      go : (b : Bool) → T b → (if b then Some (monomial_of m.list) else None) ≡ Some m
      go true h = ap Some (of_list powers m)
      go false h = absurd h

-- ---- counts
-- each name as often as its count
abbrev letters_in : List ℕ → List ℕ → List ℕ
letters_in [] J = []
letters_in (n ∷ ns) [] = []
letters_in (n ∷ ns) (c ∷ J) = repeated c (n ∷ []) ++ letters_in ns J

drop_one : (k : ℕ) (names ns : List ℕ) (n : ℕ) → drop k names ≡ n ∷ ns → drop (suc k) names ≡ ns
drop_one zero [] ns n h = cc
drop_one zero (m ∷ ms) ns n h = cc
drop_one (suc k) [] ns n h = cc
drop_one (suc k) (m ∷ ms) ns n h = drop_one k ms ns n h

letters_are : (names ns : List ℕ) (k : ℕ) (J : List ℕ) → drop k names ≡ ns → length J ≤ length ns → letters_from names k J ≡ letters_in ns J
unfolding letters_from
letters_are names [] k [] h few = refl
letters_are names (n ∷ ns) k [] h few = refl
letters_are names [] k (c ∷ J) h few = absurd (omega arith)
letters_are names (n ∷ ns) k (c ∷ J) h few =
    ap₂ (λ (x y : List ℕ). repeated c x ++ y) (ap (take 1) h) (letters_are names ns (k + 1) J (ap (λ i. drop i names) (add-one k) ∙ drop_one k names ns n h) (omega arith))

count_joined : (n : ℕ) (xs ys : List ℕ) → count_by (λ b. b == n) (xs ++ ys) ≡ count_by (λ b. b == n) xs + count_by (λ b. b == n) ys
count_joined n xs ys = sum_by-append (λ b. cond (b == n) 1 0) xs ys

count_step : (n x : ℕ) (xs : List ℕ) (b : Bool) → (x == n) ≡ b → count_by (λ b. b == n) (x ∷ xs) ≡ cond b 1 0 + count_by (λ b. b == n) xs
count_step n x xs b e = sum_by-cons (λ b. cond (b == n) 1 0) x xs ∙ ap (λ t. cond t 1 0 + count_by (λ b. b == n) xs) e

count_same : (n c : ℕ) → count_by (λ b. b == n) (repeated c (n ∷ [])) ≡ c
unfolding repeated
count_same n zero = refl
count_same n (suc c) =
    let s : (n == n) ≡ true = grind (arith, nat_tests) in
    let e = count_same n c in
    let f = count_step n n (repeated c (n ∷ [])) true s in
    omega arith

count_other : (n m c : ℕ) → (n == m) ≡ false → count_by (λ b. b == m) (repeated c (n ∷ [])) ≡ 0
unfolding repeated
count_other n m zero h = refl
count_other n m (suc c) h = let e = count_other n m c h in let f = count_step m n (repeated c (n ∷ [])) false h in omega arith

count_none : (n : ℕ) (ns J : List ℕ) → Every (λ m. (n == m) ≡ false) ns → count_by (λ b. b == n) (letters_in ns J) ≡ 0
count_none n [] J h = refl
count_none n (m ∷ ns) [] h = refl
count_none n (m ∷ ns) (c ∷ J) h =
    let away : (m == n) ≡ false = turned n m h.0 in
    let a = count_other m n c away in
    let b = count_none n ns J h.1 in
    let j = count_joined n (repeated c (m ∷ [])) (letters_in ns J) in
    omega arith
  where
    turned : (n m : ℕ) → (n == m) ≡ false → (m == n) ≡ false
    turned n m e = grind (arith, nat_tests, e)

counts_other : (n c : ℕ) (ns ms : List ℕ) (text : List ℕ) → Every (λ m. (n == m) ≡ false) ns → counts_in ns (repeated c (n ∷ []) ++ text) ≡ counts_in ns text
counts_other n c [] ms text h = refl
counts_other n c (m ∷ ns) ms text h =
    ap₂ (λ (x : ℕ) (l : List ℕ). min x 255 ∷ l)
    (let j = count_joined m (repeated c (n ∷ [])) text in let o = count_other n m c h.0 in omega arith) (counts_other n c ns ms text h.1)

-- counts that are kept
abbrev AreCounts : List ℕ → Type 0
AreCounts J = Every (λ c. c < 2 ^ 8) J

counts_none : (ns : List ℕ) → trimmed (counts_in ns []) ≡ []
counts_none [] = refl
counts_none (n ∷ ns) = ap (before_counts 0) (counts_none ns)

counts_letters : (ns J : List ℕ) → IsDistinct (λ a b. a == b) ns → AreCounts J → length J ≤ length ns → trimmed (counts_in ns (letters_in ns J)) ≡ trimmed J
unfolding IsDistinct
counts_letters [] [] distinct low few = refl
counts_letters (n ∷ ns) [] distinct low few = counts_none (n ∷ ns)
counts_letters [] (c ∷ J) distinct low few = absurd (omega arith)
counts_letters (n ∷ ns) (c ∷ J) distinct low few =
    let same : count_by (λ b. b == n) (repeated c (n ∷ []) ++ letters_in ns J) ≡ c =
    count_joined n (repeated c (n ∷ [])) (letters_in ns J) ∙ ap₂ ◌+◌ (count_same n c) (count_none n ns J distinct.0) ∙ plain c in
    let kept : min c 255 ≡ c = let l = low.0 in omega arith in
    ap₂ before_counts (ap (λ k. min k 255) same ∙ kept) (ap trimmed (counts_other n c ns [] (letters_in ns J) distinct.0) ∙ counts_letters ns J distinct.1 low.1 (omega arith))
  where
    plain : (c : ℕ) → c + 0 ≡ c
    plain c = omega arith

counts_behind : (ns text : List ℕ) → Every IsLowercase ns → counts_in ns (95 ∷ text) ≡ counts_in ns text
counts_behind [] text h = refl
counts_behind (n ∷ ns) text h =
    let low = h.0.0 in
    let other : (95 == n) ≡ false = grind (arith, nat_tests, low) in
    ap₂ (λ (x : ℕ) (l : List ℕ). min x 255 ∷ l) (let s = count_step n 95 text false other in omega arith) (counts_behind ns text h.1)

no_counts : (J : List ℕ) → list_any (λ c. nat_lt 0 c) J ≡ false → trimmed J ≡ []
no_counts [] h = refl
no_counts (c ∷ J) h = go (nat_lt 0 c) refl h (no_counts J)
  where
    go : (t : Bool) → nat_lt 0 c ≡ t → (t || list_any (λ c. nat_lt 0 c) J) ≡ false → (list_any (λ c. nat_lt 0 c) J ≡ false → trimmed J ≡ []) → before_counts c (trimmed J) ≡ []
    go true e f k = cc
    go false e f k = let z : c ≡ 0 = grind (arith, nat_tests, e) in rw (k f, z) refl

-- ---- derivatives
-- a derivative by the n variables, with a number and counts that are kept
pub record IsNamedDerivative (n : ℕ) (d : Derivative) : Type 0 where
  pub number : d.unknown < 2 ^ 32
  pub short : trimmed d.counts ≡ d.counts
  pub few : length d.counts ≤ n
  pub low : Every (λ c. c < 2 ^ 8) d.counts

module _ (names : List ℕ) (letters : AreDistinctLetters names) where
  subscript_counts : (J : List ℕ) → trimmed J ≡ J → length J ≤ length names → AreCounts J → trimmed (counts_in names (subscript names J)) ≡ J
  subscript_counts J short few low = go (list_any (λ c. nat_lt 0 c) J) refl
    where
      go : (b : Bool) → list_any (λ c. nat_lt 0 c) J ≡ b → trimmed (counts_in names (if b then 95 ∷ letters_from names 0 J else [])) ≡ J
      go true e =
          ap trimmed (counts_behind names (letters_from names 0 J) letters.letters ∙ ap (counts_in names) (letters_are names names 0 J refl few))
          ∙ counts_letters names J letters.distinct low few ∙ short
      go false e = counts_none names ∙ sym (no_counts J e) ∙ short

  subscript_outside : (J : List ℕ) → BeginsOutside Digit (subscript names J)
  subscript_outside J = go (list_any (λ c. nat_lt 0 c) J)
    where
      go : (b : Bool) → BeginsOutside Digit (if b then 95 ∷ letters_from names 0 J else [])
      go true = refl
      go false = tt

  pub last_back : (d : Derivative) → IsNamedDerivative (length names) d → read_last names (derivative_text names d) ≡ Some (of_unknown d)
  last_back d h =
      let low = h.number in
      rw (
        decimal_front d.unknown (subscript names d.counts) (omega arith) (subscript_outside d.counts),
        decimal_back d.unknown (subscript names d.counts) (omega arith) (subscript_outside d.counts),
        small_back d.unknown h.number,
        subscript_counts d.counts h.short h.few h.low,
      ) refl

  from_take : (i : ℕ) → AreFrom 48 (name_at names i)
  from_take i = taken 1 (drop i names) (dropped i names (lower names letters.letters))
    where
      lower : (ns : List ℕ) → Every IsLowercase ns → AreFrom 48 ns
      lower [] h = tt
      lower (n ∷ ns) h = (let l = h.0.0 in omega arith, lower ns h.1)

      taken : (n : ℕ) (xs : List ℕ) → AreFrom 48 xs → AreFrom 48 (take n xs)
      taken zero xs h = tt
      taken (suc n) [] h = tt
      taken (suc n) (x ∷ xs) h = (h.0, taken n xs h.1)

      dropped : (n : ℕ) (xs : List ℕ) → AreFrom 48 xs → AreFrom 48 (drop n xs)
      dropped zero xs h = h
      dropped (suc n) [] h = tt
      dropped (suc n) (x ∷ xs) h = dropped n xs h.1

  from_repeated : (n : ℕ) (piece : List ℕ) → AreFrom 48 piece → AreFrom 48 (repeated n piece)
  unfolding repeated
  from_repeated zero piece h = tt
  from_repeated (suc n) piece h = from_append 48 piece (repeated n piece) h (from_repeated n piece h)

  from_letters : (i : ℕ) (J : List ℕ) → AreFrom 48 (letters_from names i J)
  unfolding letters_from
  from_letters i [] = tt
  from_letters i (c ∷ J) = from_append 48 (repeated c (name_at names i)) (letters_from names (i + 1) J) (from_repeated c (name_at names i) (from_take i)) (from_letters (i + 1) J)

  from_subscript : (J : List ℕ) → AreFrom 48 (subscript names J)
  from_subscript J = go (list_any (λ c. nat_lt 0 c) J)
    where
      go : (b : Bool) → AreFrom 48 (if b then 95 ∷ letters_from names 0 J else [])
      go true = ((omega arith), from_letters 0 J)
      go false = tt

  pub derivative_from : (d : Derivative) → d.unknown < 2 ^ 32 → AreFrom 48 (derivative_text names d)
  derivative_from d low = from_append 48 (102 ∷ decimal d.unknown) (subscript names d.counts) ((omega arith), decimal_from d.unknown (omega arith)) (from_subscript d.counts)

  pub derivative_long : (d : Derivative) → d.unknown < 2 ^ 32 → 2 ≤ length (derivative_text names d)
  derivative_long d low = go (decimal d.unknown) (decimal_some d.unknown (omega arith))
    where
      go : (ds : List ℕ) → 1 ≤ length ds → 2 ≤ length ((102 ∷ ds) ++ subscript names d.counts)
      go [] some = absurd (omega arith)
      go (c ∷ cs) some = omega arith
