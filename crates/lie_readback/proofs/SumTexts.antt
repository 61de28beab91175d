-- The texts of terms and of sums are read back.
use Rattle.std.specs.Prelude.{ℕ, zero, suc, ◌≡◌, ◌+◌, ◌<◌, ◌≤◌, ◌^◌, ◌==◌, nat_lt, Bool, true, false, List, [], ◌∷◌, ◌++◌, length, map, decimal, codes, ℤ, pos, negsuc, unsigned_abs, Option, Some, None, if◌then◌else◌, refl}
use Rattle.std.specs.Borrow.{Bor}
use Rattle.std.specs.Int.{is_negative}
use Rattle.std.specs.List.{flat_map, slice_split, AllByRecursion as Every}
use Rattle.std.proofs.Common.{sym, ap, ap₂, ◌∙◌, subst, arith, append_assoc}
use Rattle.std.proofs.lemmas.Bool.Decides.{nat_tests}
use Rattle.std.proofs.lemmas.Grind.{flat_map-append}
use Rattle.std.proofs.lemmas.List.{append-nil, length-append, map-append}
use Rattle.lie_math.specs.Limits.{FitsNumber}
use Rattle.lie_math.specs.Counts.{Derivative}
use Rattle.lie_math.specs.Monomial.{Monomial}
use Rattle.lie_math.proofs.EveryElement.{every-append, every-map, every-weaken}
use Rattle.lie_geometry.specs.Coordinates.{Space}
use Rattle.lie_jet.specs.Jets.{IsSmall}
use Rattle.lie_system.specs.Written.{AreDistinctLetters}
use Rattle.lie_ring.specs.Ratios.{signed}
use Rattle.lie_print.specs.Printing.{PrintedTerm, LastFactor, power_text, derivative_text, last_text, of_unknown, base_vector, name_at, number_factor, factors, term_text, sign_text, signed_text, subscript, sum_text, behind as joined}
use Rattle.lie_scan.specs.Runs.{is_in}
use Rattle.lie_scan.specs.TokenGrammar.{IsNot}
use Rattle.lie_scan.specs.declared.runs.Class.TheVariants.{Digit}
use Rattle.lie_scan.proofs.Blanks.{no_digit_above}
use Rattle.lie_readback.specs.Readings.{◌>>=◌}
use Rattle.lie_readback.specs.Factors.{read_product, read_last}
use Rattle.lie_readback.specs.Sums.{Sum, begins_with_digit, read_size, parted_by, parted, read_factors, read_term, with_term, read_word, read_words, read_sum}
use Rattle.lie_readback.proofs.FactorTexts.{IsPower, IsLettered, IsNamedDerivative, power_lettered, product_back, last_back, derivative_from, derivative_long}
use Rattle.lie_readback.proofs.NameTexts.{named_at}
use Rattle.lie_readback.proofs.NumberTexts.{decimal_value, decimal_begins}
use Rattle.lie_readback.proofs.Separators.{AreFrom, from_append, from_lower, decimal_from, split_between}

-- a number, a monomial and a last factor
abbrev pub Written : Type 0
Written = ℤ × Monomial × LastFactor

-- as a term
abbrev pub written : Written → PrintedTerm
written t = (t.0, t.1, Some t.2)

-- a last factor whose text is read back
pub record IsReadableLast (names : List ℕ) (f : LastFactor) : Type 0 where
  pub back : read_last names (last_text names f) ≡ Some f
  pub letter : ℕ
  pub rest : List ℕ
  pub spelled : last_text names f ≡ letter ∷ rest
  pub high : 97 ≤ letter
  pub from : AreFrom 48 (last_text names f)
  pub long : 2 ≤ length (last_text names f)

-- a term over n variables that can be read
pub record IsReadable (n : ℕ) (names : List ℕ) (t : Written) : Type 0 where
  pub number : FitsNumber t.0
  pub powers : Every (IsPower n) t.1.list
  pub last : IsReadableLast names t.2

-- ---- last factors
pub derivative_readable : (names : List ℕ) → AreDistinctLetters names → (d : Derivative) → IsNamedDerivative (length names) d → IsReadableLast names (of_unknown d)
derivative_readable names letters d h = record {
  back = last_back names letters d h;
  letter = 102;
  rest = decimal d.unknown ++ subscript names d.counts;
  spelled = refl;
  high = omega arith;
  from = derivative_from names letters d h.number;
  long = derivative_long names letters d h.number;
}

pub vector_readable : (names : List ℕ) → AreDistinctLetters names → (i : ℕ) → i < length names → IsReadableLast names (base_vector i)
vector_readable names letters i lt =
    let n = named_at names letters i lt in
    let low = (n.lower).0 in
    let is : last_text names (base_vector i) ≡ 100 ∷ 95 ∷ n.letter ∷ [] = ap (λ l. 100 ∷ 95 ∷ l) n.spelled in
    record {
      back = ap (read_last names) is ∙ rw n.place (ap (λ (k : ℕ). Some (base_vector k)) (plain i));
      letter = 100;
      rest = 95 ∷ n.letter ∷ [];
      spelled = is;
      high = omega arith;
      from = subst (AreFrom 48) (sym is) ((omega arith), ((omega arith), ((omega arith), tt)));
      long = subst (λ (l : List ℕ). 2 ≤ length l) (sym is) (omega arith);
    }
  where
    plain : (i : ℕ) → 0 + i ≡ i
    plain i = omega arith

-- ---- factors
number_factor_is : (n : ℕ) (fs : List (List ℕ)) (f : List ℕ) → number_factor n (fs ++ f ∷ []) ≡ (if n == 1 then [] else decimal n ∷ [])
number_factor_is n [] f = refl
number_factor_is n (g ∷ gs) f = refl

parted_by_back : (g : List ℕ) (gs : List (List ℕ)) (f : List ℕ) → ◌≡◌ {A = List (List ℕ) × List ℕ} (parted_by g (gs ++ f ∷ [])) (g ∷ gs, f)
parted_by_back g [] f = refl
parted_by_back g (h ∷ hs) f = ap (λ (p : List (List ℕ) × List ℕ). (g ∷ p.0, p.1)) (parted_by_back h hs f)

pub parted_back : (fs : List (List ℕ)) (f : List ℕ) → parted (fs ++ f ∷ []) ≡ Some (fs, f)
parted_back [] f = refl
parted_back (g ∷ gs) f = ap Some (parted_by_back g gs f)

-- the same of lists that are lent
pub parted_mapped : (xs front : List (Bor (List ℕ))) (last : Bor (List ℕ)) → xs ≡ front ++ last ∷ [] → parted (map (λ f. f.now) xs) ≡ Some (map (λ f. f.now) front, last.now)
parted_mapped xs front last is = ap (λ (l : List (Bor (List ℕ))). parted (map (λ f. f.now) l)) is ∙ ap parted (map-append (λ (f : Bor (List ℕ)). f.now) front (last ∷ [])) ∙ parted_back (map (λ f. f.now) front) last.now

-- the first text does not begin with a digit
abbrev BeginsPlain : List (List ℕ) → Type 0
BeginsPlain [] = ⊥
BeginsPlain (f ∷ fs) = begins_with_digit f ≡ false

unnumbered : (n : ℕ) (fs : List (List ℕ)) → 1 ≡ n → BeginsPlain fs → read_size fs ≡ Some (n, fs)
unnumbered n [] e h = absurd h
unnumbered n (f ∷ fs) e h = rw h (ap (λ (k : ℕ). Some (k, f ∷ fs)) e)

size_back : (n : ℕ) (fs : List (List ℕ)) → n < 2 ^ 127 → BeginsPlain fs → read_size ((if n == 1 then [] else decimal n ∷ []) ++ fs) ≡ Some (n, fs)
size_back n fs small h = go (n == 1) refl
  where
    go : (b : Bool) → (n == 1) ≡ b → read_size ((if b then [] else decimal n ∷ []) ++ fs) ≡ Some (n, fs)
    go true e = let one : 1 ≡ n = grind (arith, nat_tests, e) in unnumbered n fs one h
    go false e = rw (decimal_begins n small, decimal_value n small) refl

no_digit : (text rest : List ℕ) (c : ℕ) → text ≡ c ∷ rest → 97 ≤ c → begins_with_digit text ≡ false
no_digit text rest c is high = ap begins_with_digit is ∙ no_digit_above c (omega arith)

-- texts with stars between them
joined_from : (l : List (List ℕ)) → Every (AreFrom 48) l → AreFrom 42 (joined false l)
joined_from [] h = tt
joined_from (x ∷ xs) h = from_append 42 x (flat_map (λ g. 42 ∷ g) xs) (from_lower 42 48 (omega arith) x h.0) (starred xs h.1)
  where
    starred : (xs : List (List ℕ)) → Every (AreFrom 48) xs → AreFrom 42 (flat_map (λ g. 42 ∷ g) xs)
    starred [] h = tt
    starred (x ∷ xs) h = from_append 42 (42 ∷ x) (flat_map (λ g. 42 ∷ g) xs) ((omega arith), from_lower 42 48 (omega arith) x h.0) (starred xs h.1)

starred_long : (xs : List (List ℕ)) (x : List ℕ) → 2 ≤ length x → 2 ≤ length (flat_map (λ g. 42 ∷ g) (xs ++ x ∷ []))
starred_long [] x h = let e = length-append x [] in omega arith
starred_long (y ∷ ys) x h = let k = starred_long ys x h in let e = length-append y (flat_map (λ g. 42 ∷ g) (ys ++ x ∷ [])) in omega arith

joined_long : (xs : List (List ℕ)) (x : List ℕ) → 2 ≤ length x → 2 ≤ length (joined false (xs ++ x ∷ []))
joined_long [] x h = let e = length-append x [] in omega arith
joined_long (y ∷ ys) x h = let k = starred_long ys x h in let e = length-append y (flat_map (λ g. 42 ∷ g) (ys ++ x ∷ [])) in omega arith

joined_not : (l : List (List ℕ)) → Every (AreFrom 48) l → IsNot 45 (joined false l)
joined_not [] h = tt
joined_not ([] ∷ []) h = tt
joined_not ([] ∷ (g ∷ gs)) h = refl
joined_not ((c ∷ cs) ∷ xs) h = let low = h.0.0 in grind (arith, nat_tests, low)

split_joined : (l : List (List ℕ)) (x : List ℕ) → Every (AreFrom 48) (l ++ x ∷ []) → slice_split (λ b. b == 42) (joined false (l ++ x ∷ [])) ≡ l ++ x ∷ []
split_joined [] x h = split_between 42 48 (omega arith) x [] h
split_joined (y ∷ ys) x h = split_between 42 48 (omega arith) y (ys ++ x ∷ []) h

never_below : (n : ℕ) → nat_lt n 0 ≡ false
never_below n = grind (arith, nat_tests)

pub signed_is : (z : ℤ) → signed (is_negative z) (unsigned_abs z) ≡ z
signed_is (pos n) = ap (λ b. signed b n) (never_below n)
signed_is (negsuc n) = refl

-- ---- words
plain_word : (names : List ℕ) (s : Sum) (w : List ℕ) → 2 ≤ length w → IsNot 45 w → read_word names s w ≡ with_term names s.terms s.negative w
plain_word names s [] long h = absurd (omega arith)
plain_word names s (c ∷ []) long h = absurd (omega arith)
plain_word names s (c ∷ d ∷ cs) long h = rw h refl

minus_word : (names : List ℕ) (s : Sum) (w : List ℕ) → 2 ≤ length w → read_word names s (45 ∷ w) ≡ with_term names s.terms true w
minus_word names s [] long = absurd (omega arith)
minus_word names s (c ∷ cs) long = refl

-- a sign as a word
abbrev pub sign_word : Bool → List ℕ
sign_word true = codes "-"
sign_word false = codes "+"

module _ (S : Space) (small : IsSmall S) (names : List ℕ) (many : length names ≡ S.p + S.q) (letters : AreDistinctLetters names) where
  abbrev all_factors : Written → List (List ℕ)
  all_factors t = (if unsigned_abs t.0 == 1 then [] else decimal (unsigned_abs t.0) ∷ []) ++ map (power_text S names) t.1.list

  abbrev end_text : Written → List ℕ
  end_text t = last_text names t.2

  term_spelled : (t : Written) → term_text S names (written t) ≡ joined false (all_factors t ++ end_text t ∷ [])
  term_spelled t =
      ap (λ l. joined false (l ++ (map (power_text S names) t.1.list ++ end_text t ∷ []))) (number_factor_is (unsigned_abs t.0) (map (power_text S names) t.1.list) (end_text t))
      ∙ ap (joined false) (sym (append_assoc (if unsigned_abs t.0 == 1 then [] else decimal (unsigned_abs t.0) ∷ []) (map (power_text S names) t.1.list) (end_text t ∷ [])))

  powers_from : (ps : List (ℕ × ℕ)) → Every (IsPower (S.p + S.q)) ps → Every (AreFrom 48) (map (power_text S names) ps)
  powers_from ps h = every-map (AreFrom 48) (power_text S names) ps (every-weaken (IsPower (S.p + S.q)) (λ p. AreFrom 48 (power_text S names p)) (λ p k. (power_lettered S small names many letters p k).from) ps h)

  factors_from : (t : Written) → IsReadable (S.p + S.q) names t → Every (AreFrom 48) (all_factors t ++ end_text t ∷ [])
  factors_from t h =
      every-append (AreFrom 48) (all_factors t) (end_text t ∷ [])
      (every-append (AreFrom 48) (if unsigned_abs t.0 == 1 then [] else decimal (unsigned_abs t.0) ∷ []) (map (power_text S names) t.1.list) (size_from (unsigned_abs t.0 == 1)) (powers_from t.1.list h.powers))
      ((h.last).from, tt)
    where
      size_from : (b : Bool) → Every (AreFrom 48) (if b then [] else decimal (unsigned_abs t.0) ∷ [])
      size_from true = tt
      size_from false = let k = h.number in (decimal_from (unsigned_abs t.0) (omega arith), tt)

  begins_plain : (ps : List (ℕ × ℕ)) (t : Written) → IsReadableLast names t.2 → Every (IsPower (S.p + S.q)) ps → BeginsPlain (map (power_text S names) ps ++ end_text t ∷ [])
  begins_plain [] t l h = no_digit (end_text t) l.rest l.letter l.spelled l.high
  begins_plain (p ∷ ps) t l h = let k = power_lettered S small names many letters p h.0 in no_digit (power_text S names p) k.rest k.letter k.spelled k.high

  factors_back : (t : Written) → IsReadable (S.p + S.q) names t → read_factors names (is_negative t.0) (all_factors t ++ end_text t ∷ []) ≡ Some (written t)
  unfolding read_factors
  factors_back t h =
      ap (read_factors names (is_negative t.0)) (append_assoc (if unsigned_abs t.0 == 1 then [] else decimal (unsigned_abs t.0) ∷ []) (map (power_text S names) t.1.list) (end_text t ∷ []))
      ∙ rw (
        size_back (unsigned_abs t.0) (map (power_text S names) t.1.list ++ end_text t ∷ []) h.number (begins_plain t.1.list t h.last h.powers),
        parted_back (map (power_text S names) t.1.list) (end_text t),
        product_back S small names many letters t.1 h.powers,
        (h.last).back,
      ) (ap (λ (z : ℤ). Some (z, t.1, Some t.2)) (signed_is t.0))

  pub term_back : (t : Written) → IsReadable (S.p + S.q) names t → read_term names (is_negative t.0) (term_text S names (written t)) ≡ Some (written t)
  term_back t h =
      ap (λ l. read_factors names (is_negative t.0) (slice_split (λ b. b == 42) l)) (term_spelled t)
      ∙ ap (read_factors names (is_negative t.0)) (split_joined (all_factors t) (end_text t) (factors_from t h)) ∙ factors_back t h

  -- ---- words
  pub term_from : (t : Written) → IsReadable (S.p + S.q) names t → AreFrom 42 (term_text S names (written t))
  term_from t h = subst (AreFrom 42) (sym (term_spelled t)) (joined_from (all_factors t ++ end_text t ∷ []) (factors_from t h))

  term_long : (t : Written) → IsReadable (S.p + S.q) names t → 2 ≤ length (term_text S names (written t))
  term_long t h = subst (λ (l : List ℕ). 2 ≤ length l) (sym (term_spelled t)) (joined_long (all_factors t) (end_text t) (h.last).long)

  term_not : (t : Written) → IsReadable (S.p + S.q) names t → IsNot 45 (term_text S names (written t))
  term_not t h = subst (IsNot 45) (sym (term_spelled t)) (joined_not (all_factors t ++ end_text t ∷ []) (factors_from t h))

  with_back : (ts : List PrintedTerm) (negative : Bool) (t : Written) → IsReadable (S.p + S.q) names t → is_negative t.0 ≡ negative
      → with_term names ts negative (term_text S names (written t)) ≡ Some (record { negative = negative; terms = ts ++ written t ∷ [] })
  with_back ts negative t h is = let e = ap (λ b. read_term names b (term_text S names (written t))) (sym is) ∙ term_back t h in rw e refl

  -- the first word of a sum
  abbrev first_word : Written → List ℕ
  first_word t = sign_text false (is_negative t.0) ++ term_text S names (written t)

  first_back : (t : Written) → IsReadable (S.p + S.q) names t
      → read_word names (record { negative = false; terms = [] }) (first_word t) ≡ Some (record { negative = is_negative t.0; terms = written t ∷ [] })
  first_back t h = go (is_negative t.0) refl
    where
      go : (b : Bool) → is_negative t.0 ≡ b → read_word names (record { negative = false; terms = [] }) (sign_text false b ++ term_text S names (written t)) ≡ Some (record { negative = b; terms = written t ∷ [] })
      go true e = minus_word names (record { negative = false; terms = [] }) (term_text S names (written t)) (term_long t h) ∙ with_back [] true t h e
      go false e = plain_word names (record { negative = false; terms = [] }) (term_text S names (written t)) (term_long t h) (term_not t h) ∙ with_back [] false t h e

  -- the words of a further term
  abbrev further_words : Written → List (List ℕ)
  further_words t = sign_word (is_negative t.0) ∷ term_text S names (written t) ∷ []

  further_spelled : (t : Written) → signed_text S names true (written t) ≡ flat_map (λ g. 32 ∷ g) (further_words t)
  further_spelled t = go (is_negative t.0)
    where
      go : (b : Bool) → sign_text true b ++ term_text S names (written t) ≡ flat_map (λ g. 32 ∷ g) (sign_word b ∷ term_text S names (written t) ∷ [])
      go true = ap (λ l. 32 ∷ 45 ∷ 32 ∷ l) (sym (append-nil (term_text S names (written t))))
      go false = ap (λ l. 32 ∷ 43 ∷ 32 ∷ l) (sym (append-nil (term_text S names (written t))))

  abbrev all_further : List Written → List (List ℕ)
  all_further ts = flat_map further_words ts

  all_spelled : (ts : List Written) → flat_map (signed_text S names true) (map written ts) ≡ flat_map (λ g. 32 ∷ g) (all_further ts)
  all_spelled [] = refl
  all_spelled (t ∷ ts) = ap₂ ◌++◌ (further_spelled t) (all_spelled ts) ∙ sym (flat_map-append (λ g. 32 ∷ g) (further_words t) (all_further ts))

  further_back : (t : Written) (s : Sum) (rest : List (List ℕ)) → IsReadable (S.p + S.q) names t
      → read_words names s (further_words t ++ rest) ≡ read_words names (record { negative = is_negative t.0; terms = s.terms ++ written t ∷ [] }) rest
  further_back t s rest h = go (is_negative t.0) refl
    where
      go : (b : Bool) → is_negative t.0 ≡ b → read_words names s (sign_word b ∷ term_text S names (written t) ∷ rest) ≡ read_words names (record { negative = b; terms = s.terms ++ written t ∷ [] }) rest
      go true e =
          let w = plain_word names (record { negative = true; terms = s.terms }) (term_text S names (written t)) (term_long t h) (term_not t h) ∙ with_back s.terms true t h e in
          rw w refl
      go false e =
          let w = plain_word names (record { negative = false; terms = s.terms }) (term_text S names (written t)) (term_long t h) (term_not t h) ∙ with_back s.terms false t h e in
          rw w refl

  -- words after which the terms are as before
  abbrev EndsSum : List (List ℕ) → Type 0
  EndsSum tail = (s : Sum) → read_words names s tail ≡ Some s

  all_back : (ts : List Written) (negative : Bool) (before : List PrintedTerm) (tail : List (List ℕ)) → Every (IsReadable (S.p + S.q) names) ts → EndsSum tail
      → (read_words names (record { negative = negative; terms = before }) (all_further ts ++ tail) >>= λ s. Some s.terms) ≡ Some (before ++ map written ts)
  all_back [] negative before tail h ends = rw (ends (record { negative = negative; terms = before })) (ap Some (sym (append-nil before)))
  all_back (t ∷ ts) negative before tail h ends =
      ap (λ (ws : List (List ℕ)). read_words names (record { negative = negative; terms = before }) ws >>= λ s. Some s.terms) (append_assoc (further_words t) (all_further ts) tail)
      ∙ ap (λ o. o >>= λ s. Some s.terms) (further_back t (record { negative = negative; terms = before }) (all_further ts ++ tail) h.0)
      ∙ all_back ts (is_negative t.0) (before ++ written t ∷ []) tail h.1 ends ∙ ap Some (append_assoc before (written t ∷ []) (map written ts))

  -- ---- sums
  words_from : (ts : List Written) (tail : List (List ℕ)) → Every (IsReadable (S.p + S.q) names) ts → Every (AreFrom 42) tail → Every (AreFrom 42) (all_further ts ++ tail)
  words_from [] tail h k = k
  words_from (t ∷ ts) tail h k = (sign_from (is_negative t.0), (term_from t h.0, words_from ts tail h.1 k))
    where
      sign_from : (b : Bool) → AreFrom 42 (sign_word b)
      sign_from true = ((omega arith), tt)
      sign_from false = ((omega arith), tt)

  first_from : (t : Written) → IsReadable (S.p + S.q) names t → AreFrom 42 (first_word t)
  first_from t h = go (is_negative t.0)
    where
      go : (b : Bool) → AreFrom 42 (sign_text false b ++ term_text S names (written t))
      go true = ((omega arith), term_from t h)
      go false = term_from t h

  -- a sum, and what ends an equation or nothing
  sum_and : (ts : List Written) (tail : List (List ℕ)) → Every (IsReadable (S.p + S.q) names) ts → Every (AreFrom 42) tail → EndsSum tail
      → read_sum names (sum_text S names (map written ts) ++ flat_map (λ g. 32 ∷ g) tail) ≡ Some (map written ts)
  unfolding read_sum
  sum_and [] tail h k ends =
      let parts = split_between 32 42 (omega arith) (48 ∷ []) tail ((omega arith, tt), k) in
      ap (λ (ws : List (List ℕ)). read_words names (record { negative = false; terms = [] }) ws >>= λ s. Some s.terms) parts
      ∙ rw (ends (record { negative = false; terms = [] })) refl
  sum_and (t ∷ ts) tail h k ends =
      let parts = split_between 32 42 (omega arith) (first_word t) (all_further ts ++ tail) (first_from t h.0, words_from ts tail h.1 k) in
      ap (λ l. read_words names (record { negative = false; terms = [] }) (slice_split (λ b. b == 32) l) >>= λ s. Some s.terms)
      (append_assoc (first_word t) (flat_map (signed_text S names true) (map written ts)) (flat_map (λ g. 32 ∷ g) tail)
      ∙ ap (λ l. first_word t ++ l) (ap (λ l. l ++ flat_map (λ g. 32 ∷ g) tail) (all_spelled ts) ∙ sym (flat_map-append (λ g. 32 ∷ g) (all_further ts) tail)))
      ∙ ap (λ (ws : List (List ℕ)). read_words names (record { negative = false; terms = [] }) ws >>= λ s. Some s.terms) parts
      ∙ rw (first_back t h.0) (all_back ts (is_negative t.0) (written t ∷ []) tail h.1 ends)

  pub sum_back : (ts : List Written) → Every (IsReadable (S.p + S.q) names) ts → read_sum names (sum_text S names (map written ts)) ≡ Some (map written ts)
  sum_back ts h = ap (read_sum names) (sym (append-nil (sum_text S names (map written ts)))) ∙ sum_and ts [] h tt (λ s. refl)

  pub equation_back : (ts : List Written) → Every (IsReadable (S.p + S.q) names) ts → read_sum names (sum_text S names (map written ts) ++ codes " = 0") ≡ Some (map written ts)
  equation_back ts h = sum_and ts ((61 ∷ []) ∷ (48 ∷ []) ∷ []) h ((omega arith, tt), ((omega arith, tt), tt)) (λ s. refl)

  -- the bytes of a sum
  spaced_from : (ws : List (List ℕ)) → Every (AreFrom 42) ws → AreFrom 32 (flat_map (λ g. 32 ∷ g) ws)
  spaced_from [] h = tt
  spaced_from (w ∷ ws) h = from_append 32 (32 ∷ w) (flat_map (λ g. 32 ∷ g) ws) ((omega arith), from_lower 32 42 (omega arith) w h.0) (spaced_from ws h.1)

  pub sum_from : (ts : List Written) → Every (IsReadable (S.p + S.q) names) ts → AreFrom 32 (sum_text S names (map written ts))
  sum_from [] h = ((omega arith), tt)
  sum_from (t ∷ ts) h =
      from_append 32 (first_word t) (flat_map (signed_text S names true) (map written ts)) (from_lower 32 42 (omega arith) (first_word t) (first_from t h.0))
      (subst (AreFrom 32) (sym (all_spelled ts)) (spaced_from (all_further ts) (subst (Every (AreFrom 42)) (append-nil (all_further ts)) (words_from ts [] h.1 tt))))
