-- What parsing a text without a plus makes of it is the number in the range, if there is one.
use Rattle.std.specs.Prelude.{ℕ, Bool, true, false, ◌≡◌, ◌<◌, ◌≤◌, ◌^◌, ◌==◌, ◌&&◌, nat_le, nat_lt, List, [], ◌∷◌, drop, length, slice_index, Result, Ok, Err, Some, None, if◌then◌else◌}
use Rattle.std.proofs.Common.{refl, sym, ap, subst, ◌∙◌, arith}
use Rattle.std.proofs.lemmas.Bool.{ltb-true, leb-true, lt-ltb, le-leb}
use Rattle.std.specs.List.{list_all}
use Rattle.std.specs.Char.{digit_value}
use Rattle.std.specs.Str.Parse.{AllDigits, IsNumeral, ParsesUnsigned, digits_value, without_leading_plus}
use Rattle.std.specs.Result.{OkIff, result_ok}
use Rattle.clap.proofs.WalkLemmas.{both}
use Rattle.lie_app.specs.Words.{is_numeral, number_in}

digits_pass : (ds : List ℕ) → AllDigits 10 ds → list_all (λ d. nat_lt (digit_value d) 10) ds ≡ true
digits_pass [] h = refl
digits_pass (d ∷ ds) h = rw (lt-ltb (digit_value d) 10 h.0) (digits_pass ds h.1)

digits_from : (ds : List ℕ) → list_all (λ d. nat_lt (digit_value d) 10) ds ≡ true → AllDigits 10 ds
digits_from [] e = tt
digits_from (d ∷ ds) e = let parts = both (nat_lt (digit_value d) 10) (list_all (λ c. nat_lt (digit_value c) 10) ds) e in (ltb-true (digit_value d) 10 parts.0, digits_from ds parts.1)

pub record IsInRange (most_digits least greatest : ℕ) (text : List ℕ) : Type 0 where
  pub short : length text ≤ most_digits
  pub numeral : IsNumeral 10 text
  pub above : least ≤ digits_value 10 text
  pub below : digits_value 10 text ≤ greatest

pub in_range : (most_digits least greatest : ℕ) (text : List ℕ) → IsInRange most_digits least greatest text → number_in most_digits least greatest text ≡ Some (digits_value 10 text)
in_range most_digits least greatest text h =
    rw (le-leb (length text) most_digits h.short, lt-ltb 0 (length text) h.numeral.0, digits_pass text h.numeral.1, le-leb least (digits_value 10 text) h.above, le-leb (digits_value 10 text) greatest h.below) refl

pub not_in_range : (most_digits least greatest : ℕ) (text : List ℕ) → (IsInRange most_digits least greatest text → ⊥) → number_in most_digits least greatest text ≡ None
not_in_range most_digits least greatest text none =
    go ((nat_le (length text) most_digits && is_numeral text) && (nat_le least (digits_value 10 text) && nat_le (digits_value 10 text) greatest)) refl
  where
    go : (b : Bool) → ((nat_le (length text) most_digits && is_numeral text) && (nat_le least (digits_value 10 text) && nat_le (digits_value 10 text) greatest)) ≡ b
        → number_in most_digits least greatest text ≡ None
    go false e = rw e refl
    go true e =
        let outer = both (nat_le (length text) most_digits && is_numeral text) (nat_le least (digits_value 10 text) && nat_le (digits_value 10 text) greatest) e in
        let front = both (nat_le (length text) most_digits) (is_numeral text) outer.0 in
        let numeral = both (nat_lt 0 (length text)) (list_all (λ d. nat_lt (digit_value d) 10) text) front.1 in
        let back = both (nat_le least (digits_value 10 text)) (nat_le (digits_value 10 text) greatest) outer.1 in
        absurd (none (record {
          short = leb-true (length text) most_digits front.0;
          numeral = (ltb-true 0 (length text) numeral.0, digits_from text numeral.1);
          above = leb-true least (digits_value 10 text) back.0;
          below = leb-true (digits_value 10 text) greatest back.1;
        }))

-- ---- a parsed text
-- what parsing gives, where no plus is in front
abbrev Parses : {E : Type 0} → List ℕ → Result ℕ E → Type 0
Parses ds r = OkIff r (IsNumeral 10 ds × (digits_value 10 ds < 2 ^ 64)) (digits_value 10 ds)

without_plus : {E : Type 0} (text : List ℕ) (r : Result ℕ E) → false ≡ (slice_index text 0 == 43) → ParsesUnsigned 64 10 text r → Parses text r
without_plus text r no_plus parses = let same : without_leading_plus text ≡ text = ap (λ (b : Bool). drop (if b then 1 else 0) text) (sym no_plus) in subst (λ ds. Parses ds r) same parses

pub number_read : {E : Type 0} (most_digits least greatest : ℕ) (text : List ℕ) (r : Result ℕ E) (n : ℕ) → length text ≤ most_digits → false ≡ (slice_index text 0 == 43)
    → ParsesUnsigned 64 10 text r → Some n ≡ result_ok r → least ≤ n → n ≤ greatest → Some n ≡ number_in most_digits least greatest text
number_read {E = E} most_digits least greatest text r n short no_plus parses is above below = go r is (without_plus text r no_plus parses)
  where
    go : (r : Result ℕ E) → Some n ≡ result_ok r → Parses text r → Some n ≡ number_in most_digits least greatest text
    go (Ok m) same h =
        let value : n ≡ digits_value 10 text = let e : n ≡ m = cc in e ∙ h.1 in
        ap Some value ∙ sym (in_range most_digits least greatest text (record { short = short; numeral = h.0.0; above = omega arith; below = omega arith }))
    go (Err e) same h = absurd (cc)

pub no_number : {E : Type 0} (most_digits least greatest : ℕ) (text : List ℕ) (r : Result ℕ E) → greatest < 2 ^ 64 → false ≡ (slice_index text 0 == 43)
    → ParsesUnsigned 64 10 text r → None ≡ result_ok r → None ≡ number_in most_digits least greatest text
no_number {E = E} most_digits least greatest text r fits no_plus parses is = go r is (without_plus text r no_plus parses)
  where
    go : (r : Result ℕ E) → None ≡ result_ok r → Parses text r → None ≡ number_in most_digits least greatest text
    go (Ok m) same h = absurd (cc)
    go (Err e) same h = sym (not_in_range most_digits least greatest text (λ in_it. h (in_it.numeral, let b = in_it.below in omega arith)))
