-- Faults of powers: what stops the reader is a fault of the grammar, and each such fault stops it.
use Rattle.std.specs.Prelude.{ℕ, ◌≡◌, ◌^◌, ◌<◌, ◌≤◌, ◌⊎◌, Bool, true, false, ◌&&◌, ◌==◌, nat_le, nat_lt, List, [], ◌∷◌, length, if◌then◌else◌, Option, Some, None, Ok, Err, refl}
use Rattle.std.proofs.Common.{sym, ap, ◌∙◌, subst, inl, inr, arith}
use Rattle.std.proofs.lemmas.Bool.Decides.{nat_tests}
use Rattle.lie_geometry.specs.Coordinates.{Space, Coordinate, number}
use Rattle.lie_scan.specs.declared.fault.BadKind.TheVariants.{Syntax, Exponent}
use Rattle.lie_scan.specs.declared.runs.Class.TheVariants.{Digit}
use Rattle.lie_scan.specs.declared.stop.Stop.{Stop}
use Rattle.lie_scan.specs.Runs.{run, behind, after_blanks, is_in}
use Rattle.lie_scan.specs.Stops.{stop, ◌>>=◌}
use Rattle.lie_scan.specs.Tokens.{value_of, digits_at, exponent_value, exponent_by, exponent_at, coordinate_at, power_at}
use Rattle.std.specs.Str.Parse.{digits_value}
use Rattle.lie_scan.specs.TokenGrammar.{AreIn, BeginsOutside, IsSign, IsNumber, IsCoordinateAt}
use Rattle.lie_scan.specs.LineFaults.{IsPowerFault, in_coordinate, no_exponent, wrong_exponent}
use Rattle.lie_scan.proofs.Blanks.{blanks_to, mark_next}
use Rattle.lie_scan.proofs.NumberLaws.{number_from-is, is-number_from, digits_all, all_digits, AreDigitsAt, digits_at-is, is-digits_at, number_of_digits, digits_of_number}
use Rattle.lie_scan.proofs.CoordinateLaws.{coordinate_at-is, is-coordinate_at}
use Rattle.lie_scan.proofs.PowerLaws.{hat}
use Rattle.lie_scan.proofs.CoordinateFaults.{err_is, bind_fails, test_fails, other_fails, coordinate_at-fails, is-coordinate_fault}

-- ---- powers
pub digits_at-fails : (text : List ℕ) (s : Stop) → digits_at text ≡ Err s → BeginsOutside Digit (after_blanks text) × (stop Syntax (after_blanks text) ≡ s)
unfolding digits_at
digits_at-fails text s h =
    let t = after_blanks text in
    test_fails (length (run Digit t) == 0) (stop Syntax t) s (Ok (run Digit t, behind Digit t)) h (λ none same. (no_digits t none, same)) (λ some more. cc)
  where
    no_digits : (bs : List ℕ) → (length (run Digit bs) == 0) ≡ true → BeginsOutside Digit bs
    no_digits [] e = tt
    no_digits (b ∷ bs) e = go (is_in Digit b) e
      where
        go : (t : Bool) → (length (if t then b ∷ run Digit bs else []) == 0) ≡ true → t ≡ false
        go false k = refl
        go true k = let none : length (b ∷ run Digit bs) ≡ 0 = grind (arith, nat_tests, k) in absurd (omega arith)

no_run : (bs : List ℕ) → BeginsOutside Digit bs → (length (run Digit bs) == 0) ≡ true
no_run [] h = refl
no_run (b ∷ bs) h = rw h refl

pub is-digits_fault : (text : List ℕ) → BeginsOutside Digit (after_blanks text) → digits_at text ≡ Err (stop Syntax (after_blanks text))
unfolding digits_at
is-digits_fault text h = rw (no_run (after_blanks text) h) refl

-- digits without a value have one past the limit
pub large_digits : (digits : List ℕ) → AreIn Digit digits → value_of digits ≡ None → 2 ^ 127 ≤ digits_value 10 digits
large_digits digits are none = go (nat_lt (digits_value 10 digits) (2 ^ 127)) refl
  where
    go : (t : Bool) → nat_lt (digits_value 10 digits) (2 ^ 127) ≡ t → 2 ^ 127 ≤ digits_value 10 digits
    go false e = grind (arith, nat_tests, e)
    go true e =
        let small : digits_value 10 digits < 2 ^ 127 = grind (arith, nat_tests, e) in
        let clash : ◌≡◌ {A = Option ℕ} None (Some (digits_value 10 digits)) = sym none ∙ is-number_from 0 digits are small in
        cc

pub no_value : (digits : List ℕ) (n : ℕ) → AreIn Digit digits → digits_value 10 digits ≡ n → 2 ^ 127 ≤ n → value_of digits ≡ None
no_value digits n are value high = go (value_of digits) refl
  where
    go : (o : Option ℕ) → value_of digits ≡ o → o ≡ None
    go None e = refl
    go (Some k) e = let read = number_from-is 0 digits k (omega arith) e in let small = read.1 in let same : k ≡ n = sym read.0 ∙ value in absurd (omega arith)

pub digits_make : (text digits rest : List ℕ) → AreDigitsAt text digits rest → IsNumber text (digits_value 10 digits) rest
digits_make text digits rest at = record { digits = digits; front = at.front; ended = at.ended; numeral = (at.some, digits_all digits at.are); value = refl }

pub value_fails : (text digits rest : List ℕ) (t after : List ℕ) (s : Stop) → AreDigitsAt text digits rest → exponent_value (value_of digits) t after ≡ Err s
    → (e : ℕ) × IsNumber text e rest × ((e ≡ 0) ⊎ (33 ≤ e)) × (stop Exponent t ≡ s)
value_fails text digits rest t after s at h = go (value_of digits) refl h
  where
    go : (o : Option ℕ) → value_of digits ≡ o → exponent_value o t after ≡ Err s → (e : ℕ) × IsNumber text e rest × ((e ≡ 0) ⊎ (33 ≤ e)) × (stop Exponent t ≡ s)
    go None none k =
        let large = large_digits digits at.are none in
        (digits_value 10 digits, digits_make text digits rest at, inr (omega arith), err_is (stop Exponent t) s k)
    go (Some n) some k =
        let number = number_of_digits text digits rest n at some in
        other_fails (nat_le 1 n && nat_le n 32) (stop Exponent t) s (Ok (n, after)) k (λ out same. (n, number.0, outside n out, same)) (λ within more. cc)
      where
        outside : (m : ℕ) → (nat_le 1 m && nat_le m 32) ≡ false → (m ≡ 0) ⊎ (33 ≤ m)
        outside m e = by_test (nat_le 1 m) refl e
          where
            by_test : (b : Bool) → nat_le 1 m ≡ b → (b && nat_le m 32) ≡ false → (m ≡ 0) ⊎ (33 ≤ m)
            by_test true low k = inr (grind (arith, nat_tests, k))
            by_test false low k = inl (grind (arith, nat_tests, low))

exponent_fails : (S : Space) (names text : List ℕ) (c : Coordinate) (back : List ℕ) (s : Stop) → IsCoordinateAt S names text c back → exponent_at (after_blanks text) back ≡ Err s → IsPowerFault S names text s
unfolding exponent_at
exponent_fails S names text c back s base h = go (after_blanks back) refl h
  where
    raised : (cs : List ℕ) → after_blanks back ≡ 94 ∷ cs → (digits_at cs >>= λ d. exponent_value (value_of d.0) (after_blanks text) d.1) ≡ Err s → IsPowerFault S names text s
    raised cs at e =
        let sign : IsSign 94 back cs = blanks_to back (94 ∷ cs) at in
        bind_fails (digits_at cs) (λ d. exponent_value (value_of d.0) (after_blanks text) d.1) s e
        (λ none. let f = digits_at-fails cs s none in subst (IsPowerFault S names text) f.1 (no_exponent c back cs base sign f.0))
        (λ d is_d wrong. let f = value_fails cs d.0 d.1 (after_blanks text) d.1 s (digits_at-is cs d is_d) wrong in subst (IsPowerFault S names text) f.3 (wrong_exponent c back cs f.0 d.1 base sign f.1 f.2))

    by_test : (b : ℕ) (cs : List ℕ) (t : Bool) → after_blanks back ≡ b ∷ cs → (b == 94) ≡ t
        → (if t then (digits_at cs >>= λ d. exponent_value (value_of d.0) (after_blanks text) d.1) else Ok (1, back)) ≡ Err s
        → ((cs : List ℕ) → after_blanks back ≡ 94 ∷ cs → (digits_at cs >>= λ d. exponent_value (value_of d.0) (after_blanks text) d.1) ≡ Err s → IsPowerFault S names text s) → IsPowerFault S names text s
    by_test b cs true at test e k = let is : b ≡ 94 = grind (arith, nat_tests, test) in k cs (at ∙ ap (λ x. x ∷ cs) is) e
    by_test b cs false at test e k = cc

    go : (bs : List ℕ) → after_blanks back ≡ bs → exponent_by (after_blanks text) back bs ≡ Err s → IsPowerFault S names text s
    go [] at e = cc
    go (b ∷ cs) at e = by_test b cs (b == 94) at refl e raised

pub power_at-fails : (S : Space) (names text : List ℕ) (s : Stop) → power_at S names (after_blanks text) ≡ Err s → IsPowerFault S names text s
unfolding power_at
power_at-fails S names text s h =
    let t = after_blanks text in
    bind_fails (coordinate_at S names t) _ s h (λ e. in_coordinate s (coordinate_at-fails S names t s e)) (λ v is_v more.
    bind_fails (exponent_at t v.1) _ s more (λ e. exponent_fails S names text v.0 v.1 s (coordinate_at-is S names text v is_v) e) (λ e is_e rest. cc))

pub wrong_value : (digits t after : List ℕ) (e : ℕ) → AreIn Digit digits → digits_value 10 digits ≡ e → ((e ≡ 0) ⊎ (33 ≤ e)) → exponent_value (value_of digits) t after ≡ Err (stop Exponent t)
wrong_value digits t after e are value out = go (value_of digits) refl
  where
    within : (n : ℕ) → (n ≡ 0) ⊎ (33 ≤ n) → (nat_le 1 n && nat_le n 32) ≡ false
    within n h = elim h [
      | inl zero ↦ (let low : nat_le 1 n ≡ false = grind (arith, nat_tests, zero) in rw low refl)
      | inr high ↦ (let past : nat_le n 32 ≡ false = grind (arith, nat_tests, high) in rw past (by_test (nat_le 1 n)))
    ]
      where
        by_test : (b : Bool) → (b && false) ≡ false
        by_test true = refl
        by_test false = refl

    go : (o : Option ℕ) → value_of digits ≡ o → exponent_value o t after ≡ Err (stop Exponent t)
    go None at = refl
    go (Some n) at =
        let read = number_from-is 0 digits n (omega arith) at in
        let same : e ≡ n = sym value ∙ read.0 in
        rw (within n (subst (λ k. (k ≡ 0) ⊎ (33 ≤ k)) same out)) refl

pub is-power_fault : (S : Space) (names text : List ℕ) (s : Stop) → IsPowerFault S names text s → power_at S names (after_blanks text) ≡ Err s
unfolding power_at exponent_at
is-power_fault S names text s (in_coordinate r fault) = rw (is-coordinate_fault S names (after_blanks text) r fault) refl
is-power_fault S names text s (no_exponent c back front base sign none) =
    rw (is-coordinate_at S names text c back base) (rw (mark_next 94 back front hat sign, is-digits_fault front none) refl)
is-power_fault S names text s (wrong_exponent c back front e rest base sign number out) =
    rw (is-coordinate_at S names text c back base) (rw (
      mark_next 94 back front hat sign,
      is-digits_at front number.digits rest (digits_of_number front e rest number),
      wrong_value number.digits (after_blanks text) rest e (all_digits number.digits number.numeral.1) number.value out,
    ) refl)
