-- Numbers: what is read is of the grammar, and what is of the grammar is read.
use Rattle.std.specs.Prelude.{ℕ, ◌≡◌, ◌+◌, ◌-◌, ◌*◌, ◌^◌, ◌<◌, ◌≤◌, Bool, true, false, ◌&&◌, ◌==◌, nat_le, nat_lt, List, [], ◌∷◌, ◌++◌, length, if◌then◌else◌, Option, Some, None, Ok, refl}
use Rattle.std.proofs.Common.{sym, ap, ◌∙◌, subst, arith}
use Rattle.std.proofs.lemmas.Bool.Decides.{nat_tests}
use Rattle.std.proofs.lemmas.Str.{digit_value_digit}
use Rattle.std.proofs.lemmas.Str.Parse.{digit_from_value}
use Rattle.std.specs.Char.{digit_value}
use Rattle.std.specs.Int.{IsInRange}
use Rattle.std.specs.Str.Parse.{AllDigits, digits_value_after}
use Rattle.lie_scan.specs.declared.fault.BadKind.TheVariants.{Syntax}
use Rattle.lie_scan.specs.declared.runs.Class.TheVariants.{Blank, Digit}
use Rattle.lie_scan.specs.Runs.{run, behind, after_blanks, is_in}
use Rattle.lie_scan.specs.Stops.{stop}
use Rattle.lie_scan.specs.Tokens.{appended, number_by, number_from, value_of, digits_at, literal_by, literal_at}
use Rattle.lie_scan.specs.TokenGrammar.{AreIn, IsBehindBlanks, IsNumber, BeginsOutside}
use Rattle.lie_scan.proofs.Blanks.{bind_then, guard_then, ok_is, run_is, run_in, run_front, behind_front, behind_none, behind_outside, blanks_off, after_outside, and_true, digit_range, no_blank_above}

guard_some : {A : Type 0} (b : Bool) (x y : A) → (if b then Some x else None) ≡ Some y → (b ≡ true) × (x ≡ y)
guard_some true x y h = (refl, cc)
guard_some false x y h = cc

number_then : {R : Type 0} (o : Option ℕ) (f : ℕ → Option ℕ) (m : ℕ) → number_by o f ≡ Some m → ((k : ℕ) → o ≡ Some k → f k ≡ Some m → R) → R
number_then None f m h k = cc
number_then (Some n) f m h k = k n refl h

-- ---- the value of digits
appended-is : (n c m : ℕ) → appended n c ≡ Some m → (m ≡ n * 10 + digit_value c) × (m < 2 ^ 127)
appended-is n c m h =
    let found = guard_some (is_in Digit c && nat_lt (n * 10 + (c - 48)) (2 ^ 127)) (n * 10 + (c - 48)) m h in
    let tests = and_true (is_in Digit c) (nat_lt (n * 10 + (c - 48)) (2 ^ 127)) found.0 in
    let range = digit_range c tests.0 in
    let small : n * 10 + (c - 48) < 2 ^ 127 = grind (arith, nat_tests, tests.1) in
    let value : digit_value c + 48 ≡ c = digit_value_digit c range in
    let is : n * 10 + (c - 48) ≡ m = found.1 in
    (omega arith, omega arith)

appended_by : (n c d : ℕ) → c - 48 ≡ d → is_in Digit c ≡ true → n * 10 + d < 2 ^ 127 → appended n c ≡ Some (n * 10 + d)
appended_by n c d same digit small =
    let s : nat_lt (n * 10 + d) (2 ^ 127) ≡ true = grind (arith, nat_tests, small) in
    rw (same, digit, s) refl

is-appended : (n c : ℕ) → is_in Digit c ≡ true → n * 10 + digit_value c < 2 ^ 127 → appended n c ≡ Some (n * 10 + digit_value c)
is-appended n c digit small =
    let range = digit_range c digit in
    let value : digit_value c + 48 ≡ c = digit_value_digit c range in
    let low = range.0 in
    appended_by n c (digit_value c) (omega arith) digit small

pub number_from-is : (n : ℕ) (ds : List ℕ) (m : ℕ) → n < 2 ^ 127 → number_from n ds ≡ Some m → (digits_value_after 10 n ds ≡ m) × (m < 2 ^ 127)
number_from-is n [] m small h = let same : n ≡ m = cc in (same, omega arith)
number_from-is n (c ∷ cs) m small h = number_then (appended n c) (λ k. number_from k cs) m h (λ k is rest.
    let first = appended-is n c k is in
    let others = number_from-is k cs m first.1 rest in
    (ap (λ l. digits_value_after 10 l cs) (sym first.0) ∙ others.0, others.1))

value_grows : (n : ℕ) (ds : List ℕ) → n ≤ digits_value_after 10 n ds
value_grows n [] = omega arith
value_grows n (c ∷ cs) = let more = value_grows (n * 10 + digit_value c) cs in omega arith

pub is-number_from : (n : ℕ) (ds : List ℕ) → AreIn Digit ds → digits_value_after 10 n ds < 2 ^ 127 → number_from n ds ≡ Some (digits_value_after 10 n ds)
is-number_from n [] digits small = refl
is-number_from n (c ∷ cs) digits small =
    let more = value_grows (n * 10 + digit_value c) cs in
    rw (is-appended n c digits.0 (omega arith)) (is-number_from (n * 10 + digit_value c) cs digits.1 small)

-- ---- digits
pub digits_all : (ds : List ℕ) → AreIn Digit ds → AllDigits 10 ds
digits_all [] h = tt
digits_all (c ∷ cs) h =
    let range = digit_range c h.0 in
    let value : digit_value c + 48 ≡ c = digit_value_digit c range in
    let high = range.1 in
    (omega arith, digits_all cs h.1)

digit_in : (c : ℕ) → digit_value c < 10 → is_in Digit c ≡ true
digit_in c h =
    let range : IsInRange 48 57 c = digit_from_value c h in
    let low : nat_le 48 c ≡ true = grind (arith, nat_tests, range.0) in
    let high : nat_le c 57 ≡ true = grind (arith, nat_tests, range.1) in
    rw (low, high) refl

pub all_digits : (ds : List ℕ) → AllDigits 10 ds → AreIn Digit ds
all_digits [] h = tt
all_digits (c ∷ cs) h = (digit_in c h.0, all_digits cs h.1)

-- digits in front, behind blanks, and no digit behind them
pub record AreDigitsAt (text digits rest : List ℕ) : Type 0 where
  pub some : 0 < length digits
  pub are : AreIn Digit digits
  pub front : IsBehindBlanks text (digits ++ rest)
  pub ended : BeginsOutside Digit rest

pub digits_at-is : (text : List ℕ) (d : List ℕ × List ℕ) → digits_at text ≡ Ok d → AreDigitsAt text d.0 d.1
unfolding digits_at
digits_at-is text d h =
    let t = after_blanks text in
    let found : List ℕ × List ℕ = (run Digit t, behind Digit t) in
    let g = guard_then (length (run Digit t) == 0) (stop Syntax t) (Ok found) d h in
    subst (λ (y : List ℕ × List ℕ). AreDigitsAt text y.0 y.1) (ok_is found d g.1) (record {
      some = grind (arith, nat_tests, g.0);
      are = run_in Digit t;
      front = subst (IsBehindBlanks text) (run_is Digit t) (blanks_off text);
      ended = behind_outside Digit t;
    })

digits_front : (digits rest : List ℕ) → 0 < length digits → AreIn Digit digits → BeginsOutside Blank (digits ++ rest)
digits_front [] rest some are = absurd (omega arith)
digits_front (c ∷ cs) rest some are = let range = digit_range c are.0 in let low = range.0 in no_blank_above c (omega arith)

pub is-digits_at : (text digits rest : List ℕ) → AreDigitsAt text digits rest → digits_at text ≡ Ok (digits, rest)
unfolding digits_at
is-digits_at text digits rest h =
    let some = h.some in
    let whole : after_blanks text ≡ digits ++ rest = after_outside text (digits ++ rest) h.front (digits_front digits rest some h.are) in
    let front : run Digit (digits ++ rest) ≡ digits = run_front Digit digits rest h.are h.ended in
    let back : behind Digit (digits ++ rest) ≡ rest = behind_front Digit digits rest h.are ∙ behind_none Digit rest h.ended in
    let none : (length digits == 0) ≡ false = grind (arith, nat_tests, some) in
    rw (whole, front, back, none) refl

-- ---- numbers
pub number_of_digits : (text digits rest : List ℕ) (n : ℕ) → AreDigitsAt text digits rest → value_of digits ≡ Some n → IsNumber text n rest × (n < 2 ^ 127)
number_of_digits text digits rest n at is =
    let value = number_from-is 0 digits n (omega arith) is in
    (record { digits = digits; front = at.front; ended = at.ended; numeral = (at.some, digits_all digits at.are); value = value.0 }, value.1)

pub digits_of_number : (text : List ℕ) (n : ℕ) (rest : List ℕ) → (h : IsNumber text n rest) → AreDigitsAt text h.digits rest
digits_of_number text n rest h = record { some = h.numeral.0; are = all_digits h.digits h.numeral.1; front = h.front; ended = h.ended }

pub value_of_number : (text : List ℕ) (n : ℕ) (rest : List ℕ) → (h : IsNumber text n rest) → n < 2 ^ 127 → value_of h.digits ≡ Some n
value_of_number text n rest h small =
    let value = h.value in
    is-number_from 0 h.digits (all_digits h.digits h.numeral.1) (subst (λ k. k < 2 ^ 127) (sym value) small) ∙ ap Some value

literal_then : (o : Option ℕ) (text rest : List ℕ) (x : ℕ × List ℕ) → literal_by o text rest ≡ Ok x → (n : ℕ) × (o ≡ Some n) × (◌≡◌ {A = ℕ × List ℕ} (n, rest) x)
literal_then (Some n) text rest x h = (n, refl, ok_is (n, rest) x h)
literal_then None text rest x h = cc

pub literal_at-is : (text : List ℕ) (x : ℕ × List ℕ) → literal_at text ≡ Ok x → IsNumber text x.0 x.1 × (x.0 < 2 ^ 127)
unfolding literal_at
literal_at-is text x h = bind_then (digits_at text) _ x h (λ d is_d rest.
    let found = literal_then (value_of d.0) (after_blanks text) d.1 x rest in
    subst (λ (y : ℕ × List ℕ). IsNumber text y.0 y.1 × (y.0 < 2 ^ 127)) found.2 (number_of_digits text d.0 d.1 found.0 (digits_at-is text d is_d) found.1))

pub is-literal_at : (text : List ℕ) (n : ℕ) (rest : List ℕ) → IsNumber text n rest → n < 2 ^ 127 → literal_at text ≡ Ok (n, rest)
unfolding literal_at
is-literal_at text n rest h small =
    rw (is-digits_at text h.digits rest (digits_of_number text n rest h), value_of_number text n rest h small) refl
