-- The texts of combinations of generators are read back.
use Rattle.std.specs.Prelude.{ℕ, suc, ◌≡◌, ◌+◌, ◌-◌, ◌<◌, ◌≤◌, ◌^◌, ◌==◌, nat_lt, Bool, true, false, ℤ, pos, negsuc, unsigned_abs, List, [], ◌∷◌, ◌++◌, length, replicate, slice_set, decimal, codes, Some, if◌then◌else◌, refl}
use Rattle.std.specs.Int.{is_negative, IsGcd}
use Rattle.std.specs.List.{flat_map, slice_split, AllByRecursion as Every}
use Rattle.std.proofs.Common.{sym, ap, ap₂, ◌∙◌, subst, arith, append_assoc, add-one}
use Rattle.std.proofs.Math.Seq.{set-append_seam}
use Rattle.std.proofs.lemmas.Bool.Decides.{nat_tests}
use Rattle.std.proofs.lemmas.List.{append-nil, length-append, length-replicate}
use Rattle.std.proofs.lemmas.Nat.Gcd.{same_from_IsGcd, IsGcd-swap, IsGcd-from_zero}
use Rattle.lie_ring.specs.Ratios.{signed}
use Rattle.lie_ring.specs.declared.ratio.Ratio.{Ratio}
use Rattle.lie_print.specs.Printing.{sign_text}
use Rattle.lie_report.specs.BasisLines.{generator, ratio_factor, multiple, unless_further, multiples_from, commutator_line}
use Rattle.lie_scan.specs.TokenGrammar.{IsNot}
use Rattle.lie_scan.specs.Tokens.{value_of}
use Rattle.lie_readback.specs.Readings.{◌>>=◌}
use Rattle.lie_readback.proofs.NumberTexts.{decimal_value, decimal_some}
use Rattle.lie_readback.proofs.Separators.{AreFrom, from_append, from_lower, decimal_from, split_between, split_none, split_first}
use Rattle.lie_readback.proofs.SumTexts.{sign_word, signed_is}
use Rattle.lie_read_report.specs.Combinations.{Combination, ratio_in, read_ratio, read_generator, multiple_in, read_multiple, with_ratio, with_multiple, read_word, read_words, no_ratio, combination_in, entry_in, read_entry}
use Rattle.lie_read_report.specs.WellFormed.{IsReportedRatio}

-- ---- multiples
pub generator_from : (i : ℕ) → i < 2 ^ 127 → AreFrom 48 (generator i)
generator_from i low = ((omega arith), decimal_from i (omega arith))

-- a multiple without its sign
abbrev body : ℕ → ℕ → ℕ → List ℕ
body size over i = ratio_factor size over ++ generator i

abbrev both_sides : ℕ → ℕ → List ℕ
both_sides size over = decimal size ++ (47 ∷ decimal over)

module _ (size over i : ℕ) (size_low : size < 2 ^ 127) (over_low : over < 2 ^ 127) (low : i < 2 ^ 127) where
  alone : slice_split (λ b. b == 42) (generator i) ≡ generator i ∷ []
  alone = split_none 42 48 (omega arith) (generator i) (generator_from i low)

  starred : (r : List ℕ) → AreFrom 43 r → slice_split (λ b. b == 42) ((r ++ codes "*") ++ generator i) ≡ r ∷ generator i ∷ []
  starred r from =
      ap (slice_split (λ b. b == 42)) (append_assoc r (codes "*") (generator i)) ∙ split_first 42 43 (omega arith) r (generator i) from
      ∙ ap (λ (l : List (List ℕ)). r ∷ l) alone

  sides_from : AreFrom 43 (both_sides size over)
  sides_from =
      from_append 43 (decimal size) (47 ∷ decimal over) (from_lower 43 48 (omega arith) (decimal size) (decimal_from size (omega arith)))
      ((omega arith), from_lower 43 48 (omega arith) (decimal over) (decimal_from over (omega arith)))

  sides_back : (negative : Bool) → read_ratio negative (both_sides size over) ≡ Some (record { num = signed negative size; den = over })
  sides_back negative =
      ap (ratio_in negative) (split_first 47 48 (omega arith) (decimal size) (decimal over) (decimal_from size (omega arith))
      ∙ ap (λ (l : List (List ℕ)). decimal size ∷ l) (split_none 47 48 (omega arith) (decimal over) (decimal_from over (omega arith))))
      ∙ rw (decimal_value size size_low, decimal_value over over_low) refl

  number_back : (negative : Bool) → read_ratio negative (decimal size) ≡ Some (record { num = signed negative size; den = 1 })
  number_back negative =
      ap (ratio_in negative) (split_none 47 48 (omega arith) (decimal size) (decimal_from size (omega arith))) ∙ rw (decimal_value size size_low) refl

  sides_factor : ((decimal size ++ codes "/") ++ decimal over) ++ codes "*" ≡ both_sides size over ++ codes "*"
  sides_factor = ap (λ l. l ++ codes "*") (append_assoc (decimal size) (codes "/") (decimal over))

  body_back : (negative : Bool) → read_multiple negative (body size over i) ≡ Some (i, record { num = signed negative size; den = over })
  body_back negative = go (over == 1) refl (size == 1) refl
    where
      go : (a : Bool) → (over == 1) ≡ a → (b : Bool) → (size == 1) ≡ b
          → read_multiple negative ((if a then (if b then [] else decimal size ++ codes "*") else decimal size ++ codes "/" ++ decimal over ++ codes "*") ++ generator i)
          ≡ Some (i, record { num = signed negative size; den = over })
      go true e true f =
          let one : 1 ≡ over = grind (arith, nat_tests, e) in
          let single : 1 ≡ size = grind (arith, nat_tests, f) in
          ap (multiple_in negative) alone ∙ rw (decimal_value i low) (ap₂ (λ (x y : ℕ). Some (i, record { num = signed negative x; den = y })) single one)
      go true e false f =
          let one : 1 ≡ over = grind (arith, nat_tests, e) in
          ap (multiple_in negative) (starred (decimal size) (from_lower 43 48 (omega arith) (decimal size) (decimal_from size (omega arith))))
          ∙ rw (number_back negative, decimal_value i low) (ap (λ (y : ℕ). Some (i, record { num = signed negative size; den = y })) one)
      go false e b f =
          ap (λ l. read_multiple negative (l ++ generator i)) sides_factor
          ∙ ap (multiple_in negative) (starred (both_sides size over) sides_from)
          ∙ rw (sides_back negative, decimal_value i low) refl

  factor_from : AreFrom 42 (ratio_factor size over)
  factor_from = go (over == 1) (size == 1)
    where
      go : (a b : Bool) → AreFrom 42 (if a then (if b then [] else decimal size ++ codes "*") else decimal size ++ codes "/" ++ decimal over ++ codes "*")
      go true true = tt
      go true false = from_append 42 (decimal size) (codes "*") (from_lower 42 48 (omega arith) (decimal size) (decimal_from size (omega arith))) ((omega arith), tt)
      go false b =
          subst (AreFrom 42) (sym sides_factor) (from_append 42 (both_sides size over) (codes "*") (from_lower 42 43 (omega arith) (both_sides size over) sides_from) ((omega arith), tt))

  pub body_from : AreFrom 42 (body size over i)
  body_from = from_append 42 (ratio_factor size over) (generator i) factor_from (from_lower 42 48 (omega arith) (generator i) (generator_from i low))

  body_long : 2 ≤ length (body size over i)
  body_long = let l = length-append (ratio_factor size over) (generator i) in let d = decimal_some i low in omega arith

  digits_plain : (xs ys : List ℕ) → AreFrom 48 xs → IsNot 45 ys → IsNot 45 (xs ++ ys)
  digits_plain [] ys h k = k
  digits_plain (x ∷ xs) ys h k = let high = h.0 in grind (arith, nat_tests, high)

  body_plain : IsNot 45 (body size over i)
  body_plain = go (over == 1) (size == 1)
    where
      go : (a b : Bool) → IsNot 45 ((if a then (if b then [] else decimal size ++ codes "*") else decimal size ++ codes "/" ++ decimal over ++ codes "*") ++ generator i)
      go true true = refl
      go true false = subst (IsNot 45) (sym (append_assoc (decimal size) (codes "*") (generator i))) (digits_plain (decimal size) (codes "*" ++ generator i) (decimal_from size (omega arith)) refl)
      go false b =
          subst (λ l. IsNot 45 (l ++ generator i)) (sym sides_factor)
          (subst (IsNot 45) (sym (append_assoc (both_sides size over) (codes "*") (generator i) ∙ append_assoc (decimal size) (47 ∷ decimal over) (codes "*" ++ generator i)))
          (digits_plain (decimal size) ((47 ∷ decimal over) ++ (codes "*" ++ generator i)) (decimal_from size (omega arith)) refl))

-- ---- words
plain_word : (s : Combination) (w : List ℕ) → 2 ≤ length w → IsNot 45 w → read_word s w ≡ with_multiple s.ratios s.negative w
plain_word s [] long h = absurd (omega arith)
plain_word s (c ∷ []) long h = absurd (omega arith)
plain_word s (c ∷ d ∷ cs) long h = rw h refl

minus_word : (s : Combination) (w : List ℕ) → 2 ≤ length w → read_word s (45 ∷ w) ≡ with_multiple s.ratios true w
minus_word s [] long = absurd (omega arith)
minus_word s (c ∷ cs) long = refl

-- ---- ratios
zero_is : (r : Ratio) → IsReportedRatio r → (unsigned_abs r.num == 0) ≡ true → r ≡ no_ratio
zero_is r h e =
    let none : unsigned_abs r.num ≡ 0 = grind (arith, nat_tests, e) in
    let den : r.den ≡ 1 = same_from_IsGcd r.den (unsigned_abs r.num) r.den 1 (IsGcd-from_zero r.den (unsigned_abs r.num) none) (IsGcd-swap (unsigned_abs r.num) r.den 1 h.lowest) in
    ap₂ (λ (x : ℤ) (y : ℕ). record { num = x; den = y }) (num_zero r.num none) den
  where
    num_zero : (z : ℤ) → unsigned_abs z ≡ 0 → z ≡ pos 0
    num_zero (pos n) e = ap pos e
    num_zero (negsuc n) e = absurd (omega arith)

-- the words of a combination behind a sign, and of one from its beginning on
abbrev ratio_body : ℕ → Ratio → List ℕ
ratio_body i r = body (unsigned_abs r.num) r.den i

abbrev further_words : ℕ → List Ratio → List (List ℕ)
further_words i [] = []
further_words i (r ∷ rs) = if unsigned_abs r.num == 0 then further_words (i + 1) rs else sign_word (is_negative r.num) ∷ ratio_body i r ∷ further_words (i + 1) rs

abbrev first_words : ℕ → List Ratio → List (List ℕ)
first_words i [] = codes "0" ∷ []
first_words i (r ∷ rs) = if unsigned_abs r.num == 0 then first_words (i + 1) rs else (sign_text false (is_negative r.num) ++ ratio_body i r) ∷ further_words (i + 1) rs

further_spelled : (i : ℕ) (rs : List Ratio) → multiples_from true i rs ≡ flat_map (λ g. 32 ∷ g) (further_words i rs)
further_spelled i [] = refl
further_spelled i (r ∷ rs) = go (unsigned_abs r.num == 0) (is_negative r.num) (further_spelled (i + 1) rs)
  where
    go : (z n : Bool) → multiples_from true (i + 1) rs ≡ flat_map (λ g. 32 ∷ g) (further_words (i + 1) rs)
        → (if z then multiples_from true (i + 1) rs else ((sign_text true n ++ ratio_factor (unsigned_abs r.num) r.den) ++ generator i) ++ multiples_from true (i + 1) rs)
        ≡ flat_map (λ g. 32 ∷ g) (if z then further_words (i + 1) rs else sign_word n ∷ ratio_body i r ∷ further_words (i + 1) rs)
    go true n h = h
    go false true h = ap (λ l. 32 ∷ 45 ∷ 32 ∷ (ratio_body i r ++ l)) h
    go false false h = ap (λ l. 32 ∷ 43 ∷ 32 ∷ (ratio_body i r ++ l)) h

module _ (r : Ratio) (h : IsReportedRatio r) (i : ℕ) (low : i < 2 ^ 127) where
  ratio_from : AreFrom 42 (ratio_body i r)
  ratio_from = body_from (unsigned_abs r.num) r.den i h.num h.den low

  ratio_long : 2 ≤ length (ratio_body i r)
  ratio_long = body_long (unsigned_abs r.num) r.den i h.num h.den low

  ratio_plain : IsNot 45 (ratio_body i r)
  ratio_plain = body_plain (unsigned_abs r.num) r.den i h.num h.den low

  ratio_back : (negative : Bool) → is_negative r.num ≡ negative → read_multiple negative (ratio_body i r) ≡ Some (i, r)
  ratio_back negative is =
      body_back (unsigned_abs r.num) r.den i h.num h.den low negative
      ∙ ap (λ (z : ℤ). Some (i, record { num = z; den = r.den })) (ap (λ b. signed b (unsigned_abs r.num)) (sym is) ∙ signed_is r.num)

  -- the ratio is put at its place
  module _ (done rest : List Ratio) (place : i ≡ length done + 1) where
    put_back : with_ratio (done ++ no_ratio ∷ rest) (i, r) ≡ Some (done ++ r ∷ rest)
    put_back =
        let l = length-append done (no_ratio ∷ rest) in
        let at : i - 1 ≡ length done = omega arith in
        let lt : length done < length (done ++ no_ratio ∷ rest) = omega arith in
        let t : nat_lt (length done) (length (done ++ no_ratio ∷ rest)) ≡ true = grind (arith, nat_tests, lt) in
        rw (at, t) (ap Some (set-append_seam done no_ratio rest r))

    with_back : (negative : Bool) → is_negative r.num ≡ negative → with_multiple (done ++ no_ratio ∷ rest) negative (ratio_body i r) ≡ Some (record { negative = negative; ratios = done ++ r ∷ rest })
    with_back negative is = rw (ratio_back negative is, put_back) refl

    first_read : read_word (record { negative = false; ratios = done ++ no_ratio ∷ rest }) (sign_text false (is_negative r.num) ++ ratio_body i r)
        ≡ Some (record { negative = is_negative r.num; ratios = done ++ r ∷ rest })
    first_read = go (is_negative r.num) refl
      where
        go : (b : Bool) → is_negative r.num ≡ b → read_word (record { negative = false; ratios = done ++ no_ratio ∷ rest }) (sign_text false b ++ ratio_body i r)
            ≡ Some (record { negative = b; ratios = done ++ r ∷ rest })
        go true e = minus_word (record { negative = false; ratios = done ++ no_ratio ∷ rest }) (ratio_body i r) ratio_long ∙ with_back true e
        go false e = plain_word (record { negative = false; ratios = done ++ no_ratio ∷ rest }) (ratio_body i r) ratio_long ratio_plain ∙ with_back false e

    further_read : (negative : Bool) (words : List (List ℕ)) → read_words (record { negative = negative; ratios = done ++ no_ratio ∷ rest }) (sign_word (is_negative r.num) ∷ ratio_body i r ∷ words)
        ≡ read_words (record { negative = is_negative r.num; ratios = done ++ r ∷ rest }) words
    further_read negative words = go (is_negative r.num) refl
      where
        go : (b : Bool) → is_negative r.num ≡ b → read_words (record { negative = negative; ratios = done ++ no_ratio ∷ rest }) (sign_word b ∷ ratio_body i r ∷ words)
            ≡ read_words (record { negative = b; ratios = done ++ r ∷ rest }) words
        go true e = let w = plain_word (record { negative = true; ratios = done ++ no_ratio ∷ rest }) (ratio_body i r) ratio_long ratio_plain ∙ with_back true e in rw w refl
        go false e = let w = plain_word (record { negative = false; ratios = done ++ no_ratio ∷ rest }) (ratio_body i r) ratio_long ratio_plain ∙ with_back false e in rw w refl

-- ---- combinations
-- the ratios done, and a zero for each that is left
abbrev so_far : List Ratio → List Ratio → List Ratio
so_far done rs = done ++ replicate (length rs) no_ratio

zero_more : (done : List Ratio) (r : Ratio) (rs : List Ratio) → r ≡ no_ratio → so_far done (r ∷ rs) ≡ so_far (done ++ r ∷ []) rs
zero_more done r rs is = ap (λ (x : Ratio). done ++ x ∷ replicate (length rs) no_ratio) (sym is) ∙ sym (append_assoc done (r ∷ []) (replicate (length rs) no_ratio))

pushed_length : (done : List Ratio) (r : Ratio) → length (done ++ r ∷ []) ≡ length done + 1
pushed_length done r = length-append done (r ∷ [])

further_back : (negative : Bool) (done rs : List Ratio) (i : ℕ) → i ≡ length done + 1 → i + length rs < 2 ^ 127 → Every IsReportedRatio rs
    → (read_words (record { negative = negative; ratios = so_far done rs }) (further_words i rs) >>= λ s. Some s.ratios) ≡ Some (done ++ rs)
further_back negative done [] i place few h = refl
further_back negative done (r ∷ rs) i place few h =
    let l = pushed_length done r in
    go (unsigned_abs r.num == 0) refl (λ b. further_back b (done ++ r ∷ []) rs (i + 1) (omega arith) (omega arith) h.1)
  where
    go : (z : Bool) → (unsigned_abs r.num == 0) ≡ z
        → ((b : Bool) → (read_words (record { negative = b; ratios = so_far (done ++ r ∷ []) rs }) (further_words (i + 1) rs) >>= λ s. Some s.ratios) ≡ Some ((done ++ r ∷ []) ++ rs))
        → (read_words (record { negative = negative; ratios = so_far done (r ∷ rs) }) (if z then further_words (i + 1) rs else sign_word (is_negative r.num) ∷ ratio_body i r ∷ further_words (i + 1) rs) >>= λ s. Some s.ratios) ≡ Some (done ++ r ∷ rs)
    go true e next =
        ap (λ (x : List Ratio). read_words (record { negative = negative; ratios = x }) (further_words (i + 1) rs) >>= λ s. Some s.ratios) (zero_more done r rs (zero_is r h.0 e))
        ∙ next negative ∙ ap Some (append_assoc done (r ∷ []) rs)
    go false e next =
        ap (λ o. o >>= λ s. Some s.ratios) (further_read r h.0 i (omega arith) done (replicate (length rs) no_ratio) place negative (further_words (i + 1) rs))
        ∙ ap (λ (x : List Ratio). read_words (record { negative = is_negative r.num; ratios = x }) (further_words (i + 1) rs) >>= λ s. Some s.ratios) (sym (append_assoc done (r ∷ []) (replicate (length rs) no_ratio)))
        ∙ next (is_negative r.num) ∙ ap Some (append_assoc done (r ∷ []) rs)

first_back : (done rs : List Ratio) (i : ℕ) → i ≡ length done + 1 → i + length rs < 2 ^ 127 → Every IsReportedRatio rs
    → (read_words (record { negative = false; ratios = so_far done rs }) (first_words i rs) >>= λ s. Some s.ratios) ≡ Some (done ++ rs)
first_back done [] i place few h = refl
first_back done (r ∷ rs) i place few h =
    let l = pushed_length done r in
    go (unsigned_abs r.num == 0) refl (first_back (done ++ r ∷ []) rs (i + 1) (omega arith) (omega arith) h.1)
    (further_back (is_negative r.num) (done ++ r ∷ []) rs (i + 1) (omega arith) (omega arith) h.1)
  where
    go : (z : Bool) → (unsigned_abs r.num == 0) ≡ z
        → (read_words (record { negative = false; ratios = so_far (done ++ r ∷ []) rs }) (first_words (i + 1) rs) >>= λ s. Some s.ratios) ≡ Some ((done ++ r ∷ []) ++ rs)
        → (read_words (record { negative = is_negative r.num; ratios = so_far (done ++ r ∷ []) rs }) (further_words (i + 1) rs) >>= λ s. Some s.ratios) ≡ Some ((done ++ r ∷ []) ++ rs)
        → (read_words (record { negative = false; ratios = so_far done (r ∷ rs) }) (if z then first_words (i + 1) rs else (sign_text false (is_negative r.num) ++ ratio_body i r) ∷ further_words (i + 1) rs) >>= λ s. Some s.ratios) ≡ Some (done ++ r ∷ rs)
    go true e next further =
        ap (λ (x : List Ratio). read_words (record { negative = false; ratios = x }) (first_words (i + 1) rs) >>= λ s. Some s.ratios) (zero_more done r rs (zero_is r h.0 e))
        ∙ next ∙ ap Some (append_assoc done (r ∷ []) rs)
    go false e next further =
        ap (λ o. (o >>= λ t. read_words t (further_words (i + 1) rs)) >>= λ s. Some s.ratios) (first_read r h.0 i (omega arith) done (replicate (length rs) no_ratio) place)
        ∙ ap (λ (x : List Ratio). read_words (record { negative = is_negative r.num; ratios = x }) (further_words (i + 1) rs) >>= λ s. Some s.ratios) (sym (append_assoc done (r ∷ []) (replicate (length rs) no_ratio)))
        ∙ further ∙ ap Some (append_assoc done (r ∷ []) rs)

-- ---- bytes
sign_from : (b : Bool) → AreFrom 42 (sign_word b)
sign_from true = ((omega arith), tt)
sign_from false = ((omega arith), tt)

further_from : (i : ℕ) (rs : List Ratio) → i + length rs < 2 ^ 127 → Every IsReportedRatio rs → Every (AreFrom 42) (further_words i rs)
further_from i [] few h = tt
further_from i (r ∷ rs) few h = go (unsigned_abs r.num == 0) (further_from (i + 1) rs (omega arith) h.1)
  where
    go : (z : Bool) → Every (AreFrom 42) (further_words (i + 1) rs) → Every (AreFrom 42) (if z then further_words (i + 1) rs else sign_word (is_negative r.num) ∷ ratio_body i r ∷ further_words (i + 1) rs)
    go true k = k
    go false k = (sign_from (is_negative r.num), (ratio_from r h.0 i (omega arith), k))

first_from : (r : Ratio) → IsReportedRatio r → (i : ℕ) → i < 2 ^ 127 → AreFrom 42 (sign_text false (is_negative r.num) ++ ratio_body i r)
first_from r h i low = go (is_negative r.num)
  where
    go : (b : Bool) → AreFrom 42 (sign_text false b ++ ratio_body i r)
    go true = ((omega arith), ratio_from r h i low)
    go false = ratio_from r h i low

spaced_from : (ws : List (List ℕ)) → Every (AreFrom 42) ws → AreFrom 32 (flat_map (λ g. 32 ∷ g) ws)
spaced_from [] h = tt
spaced_from (w ∷ ws) h = from_append 32 (32 ∷ w) (flat_map (λ g. 32 ∷ g) ws) ((omega arith), from_lower 32 42 (omega arith) w h.0) (spaced_from ws h.1)

-- the text of a multiple and of those behind it
opened : (i : ℕ) (r : Ratio) (rs : List Ratio) → multiple false i r ++ multiples_from true (i + 1) rs ≡ (sign_text false (is_negative r.num) ++ ratio_body i r) ++ flat_map (λ g. 32 ∷ g) (further_words (i + 1) rs)
opened i r rs = ap₂ ◌++◌ (append_assoc (sign_text false (is_negative r.num)) (ratio_factor (unsigned_abs r.num) r.den) (generator i)) (further_spelled (i + 1) rs)

first_split : (i : ℕ) (rs : List Ratio) → i + length rs < 2 ^ 127 → Every IsReportedRatio rs → slice_split (λ b. b == 32) (multiples_from false i rs) ≡ first_words i rs
first_split i [] few h = refl
first_split i (r ∷ rs) few h = go (unsigned_abs r.num == 0) (first_split (i + 1) rs (omega arith) h.1)
  where
    go : (z : Bool) → slice_split (λ b. b == 32) (multiples_from false (i + 1) rs) ≡ first_words (i + 1) rs
        → slice_split (λ b. b == 32) (if z then multiples_from false (i + 1) rs else multiple false i r ++ multiples_from true (i + 1) rs)
        ≡ (if z then first_words (i + 1) rs else (sign_text false (is_negative r.num) ++ ratio_body i r) ∷ further_words (i + 1) rs)
    go true next = next
    go false next =
        ap (slice_split (λ b. b == 32)) (opened i r rs)
        ∙ split_between 32 42 (omega arith) (sign_text false (is_negative r.num) ++ ratio_body i r) (further_words (i + 1) rs) (first_from r h.0 i (omega arith), further_from (i + 1) rs (omega arith) h.1)

combination_from : (i : ℕ) (rs : List Ratio) → i + length rs < 2 ^ 127 → Every IsReportedRatio rs → AreFrom 32 (multiples_from false i rs)
combination_from i [] few h = ((omega arith), tt)
combination_from i (r ∷ rs) few h = go (unsigned_abs r.num == 0) (combination_from (i + 1) rs (omega arith) h.1)
  where
    go : (z : Bool) → AreFrom 32 (multiples_from false (i + 1) rs) → AreFrom 32 (if z then multiples_from false (i + 1) rs else multiple false i r ++ multiples_from true (i + 1) rs)
    go true next = next
    go false next =
        subst (AreFrom 32) (sym (opened i r rs))
        (from_append 32 (sign_text false (is_negative r.num) ++ ratio_body i r) (flat_map (λ g. 32 ∷ g) (further_words (i + 1) rs)) (from_lower 32 42 (omega arith) (sign_text false (is_negative r.num) ++ ratio_body i r) (first_from r h.0 i (omega arith))) (spaced_from (further_words (i + 1) rs) (further_from (i + 1) rs (omega arith) h.1)))

-- ---- lines of commutators
abbrev pair_text : ℕ × ℕ → List ℕ
pair_text p = codes "[" ++ generator p.0 ++ codes "," ++ generator p.1

abbrev pair_word : ℕ × ℕ → List ℕ
pair_word p = pair_text p ++ codes "]"

pair_from : (p : ℕ × ℕ) → p.0 < 2 ^ 127 → p.1 < 2 ^ 127 → AreFrom 42 (pair_word p)
pair_from p a b =
    from_append 42 (pair_text p) (codes "]") (from_append 42 ((codes "[" ++ generator p.0) ++ codes ",") (generator p.1) (from_append 42 (codes "[" ++ generator p.0) (codes ",")
    (from_append 42 (codes "[") (generator p.0) ((omega arith), tt) (from_lower 42 48 (omega arith) (generator p.0) (generator_from p.0 a))) ((omega arith), tt))
    (from_lower 42 48 (omega arith) (generator p.1) (generator_from p.1 b))) ((omega arith), tt)

line_spelled : (p : ℕ × ℕ) (rs : List Ratio) → commutator_line p rs ≡ pair_word p ++ (32 ∷ 61 ∷ 32 ∷ multiples_from false 1 rs)
line_spelled p rs = append_assoc (pair_text p) (codes "] = ") (multiples_from false 1 rs) ∙ sym (append_assoc (pair_text p) (codes "]") (32 ∷ 61 ∷ 32 ∷ multiples_from false 1 rs))

module _ (p : ℕ × ℕ) (a : p.0 < 2 ^ 127) (b : p.1 < 2 ^ 127) (rs : List Ratio) (few : 1 + length rs < 2 ^ 127) (h : Every IsReportedRatio rs) where
  line_split : slice_split (λ b. b == 32) (commutator_line p rs) ≡ pair_word p ∷ (61 ∷ []) ∷ first_words 1 rs
  line_split =
      ap (slice_split (λ b. b == 32)) (line_spelled p rs)
      ∙ split_first 32 42 (omega arith) (pair_word p) (61 ∷ 32 ∷ multiples_from false 1 rs) (pair_from p a b)
      ∙ ap (λ (l : List (List ℕ)). pair_word p ∷ l) (split_first 32 42 (omega arith) (61 ∷ []) (multiples_from false 1 rs) ((omega arith), tt)
      ∙ ap (λ (l : List (List ℕ)). (61 ∷ []) ∷ l) (first_split 1 rs few h))

  pub entry_back : read_entry (length rs) (commutator_line p rs) ≡ Some rs
  entry_back = ap (entry_in (length rs)) line_split ∙ first_back [] rs 1 refl few h

  pub commutator_from : AreFrom 32 (commutator_line p rs)
  commutator_from =
      subst (AreFrom 32) (sym (line_spelled p rs))
      (from_append 32 (pair_word p) (32 ∷ 61 ∷ 32 ∷ multiples_from false 1 rs) (from_lower 32 42 (omega arith) (pair_word p) (pair_from p a b))
      ((omega arith), ((omega arith), ((omega arith), combination_from 1 rs few h))))
