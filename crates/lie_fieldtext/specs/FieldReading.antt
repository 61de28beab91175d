-- Reading field texts.
use Rattle.std.specs.Prelude.{
  ℕ,
  ◌+◌,
  ◌-◌,
  ◌/◌,
  ◌^◌,
  Bool,
  true,
  false,
  ◌&&◌,
  ◌==◌,
  nat_lt,
  List,
  [],
  ◌∷◌,
  ◌++◌,
  length,
  drop,
  if◌then◌else◌,
  Some,
  None,
  Ok,
  Err,
}
use Rattle.std.specs.List.{list_all}
use Rattle.std.specs.declared.option.Option.{Option}
use Rattle.std.specs.declared.result.Result.{Result}
use Rattle.lie_math.specs.Monomial.{Monomial, unit}
use Rattle.lie_math.specs.CommonDivisors.{common_divisor}
use Rattle.lie_ring.specs.Ratios.{signed}
use Rattle.lie_scan.specs.declared.fault.BadKind.TheVariants.{TooLong, NotAscii, Syntax, Number, UnknownName}
use Rattle.lie_scan.specs.declared.fault.ReadFail.{ReadFail}
use Rattle.lie_scan.specs.declared.runs.Class.TheVariants.{Letter, Digit}
use Rattle.lie_scan.specs.declared.stop.Stop.{Stop}
use Rattle.lie_fieldtext.specs.declared.field_term.FieldTerm.{FieldTerm}
use Rattle.lie_scan.specs.Runs.{run, behind, after_blanks, is_in}
use Rattle.lie_scan.specs.Stops.{stop, ◌>>=◌}
use Rattle.lie_scan.specs.Bad.{bad}
use Rattle.lie_scan.specs.Tokens.{literal_at, place_of_word, exponent_at}
use Rattle.lie_scan.specs.Turns.{Turn, goes_on, ends, all_turns}
use Rattle.lie_scan.specs.Terms.{raised}
use Rattle.lie_fieldtext.specs.FieldMeaning.{common_denominator, size_over}
use Rattle.lie_fieldtext.specs.FieldGrammar.{begins_base}
use Rattle.lie_fieldtext.specs.FieldFaults.{not_in_line_from}
use Rattle.lie_scan.specs.Limits.{greatest_text_length}

-- ---- coefficients
abbrev pub star_by : List ℕ → Result (List ℕ) Stop
star_by [] = Err (stop Syntax [])
star_by (c ∷ cs) = if c == 42 then Ok cs else Err (stop Syntax (c ∷ cs))

-- what is behind the sign `*`
unfoldable pub star_at : List ℕ → Result (List ℕ) Stop
star_at text = star_by (after_blanks text)

-- the number in front, which is not 0, and what is behind
unfoldable pub denominator_at : List ℕ → Result (ℕ × List ℕ) Stop
denominator_at text = literal_at text >>= λ d. if d.0 == 0 then Err (stop Number (after_blanks text)) else Ok d

abbrev pub under_by : List ℕ → List ℕ → Result (ℕ × List ℕ) Stop
under_by text [] = Ok (1, text)
under_by text (c ∷ cs) = if c == 47 then denominator_at cs else Ok (1, text)

-- the denominator behind a numerator, 1 where there is none, and what is behind
unfoldable pub under_at : List ℕ → Result (ℕ × List ℕ) Stop
under_at text = under_by text (after_blanks text)

-- the fraction in front, and what is behind it and the sign `*`
unfoldable pub fraction_at : List ℕ → Result ((ℕ × ℕ) × List ℕ) Stop
fraction_at text = literal_at text >>= λ n. under_at n.1 >>= λ d. star_at d.1 >>= λ rest. Ok ((n.0, d.0), rest)

abbrev pub coefficient_by : List ℕ → List ℕ → Result ((ℕ × ℕ) × List ℕ) Stop
coefficient_by text [] = Ok ((1, 1), text)
coefficient_by text (c ∷ cs) = if is_in Digit c then fraction_at text else Ok ((1, 1), text)

-- the coefficient in front, 1 where there is none, and what is behind
unfoldable pub coefficient_at : List ℕ → Result ((ℕ × ℕ) × List ℕ) Stop
coefficient_at text = coefficient_by text (after_blanks text)

-- ---- powers and base vectors
abbrev pub place_by : Option ℕ → List ℕ → List ℕ → Result (ℕ × List ℕ) Stop
place_by None whole rest = Err (stop UnknownName whole)
place_by (Some i) whole rest = Ok (i, rest)

-- the place of the name in front, and what is behind; a word that is no name is a fault at `whole`
unfoldable pub name_at : List ℕ → List ℕ → List ℕ → Result (ℕ × List ℕ) Stop
name_at names whole text =
    if length (run Letter text) == 0 then Err (stop Syntax text)
    else place_by (place_of_word names (run Letter text)) whole (behind Letter text)

-- the product of a monomial and of the power in front, and what is behind it and the sign `*`
unfoldable pub variable_power_at : List ℕ → Monomial → List ℕ → Result (Monomial × List ℕ) Stop
variable_power_at names m text =
    name_at names text text >>= λ v. exponent_at text v.1 >>= λ e. raised m (v.0, e.0) text >>= λ k. star_at e.1 >>= λ rest. Ok (k, rest)

-- a power, or the base vector that ends a term
abbrev pub factor_by : List ℕ → Monomial → List ℕ → Result (Turn Monomial ((ℕ × Monomial) × List ℕ)) Stop
factor_by names m text =
    if begins_base text then (name_at names text (drop 2 text) >>= λ v. Ok (ends ((v.0, m), v.1)))
    else variable_power_at names m text >>= λ x. Ok (goes_on x.0 x.1)

abbrev pub factor_turn : List ℕ → Monomial → List ℕ → Result (Turn Monomial ((ℕ × Monomial) × List ℕ)) Stop
factor_turn names m text = factor_by names m (after_blanks text)

-- the place of the base vector, the product of a monomial and of the powers before it, and what is behind
abbrev pub factors_at : List ℕ → Monomial → List ℕ → Result ((ℕ × Monomial) × List ℕ) Stop
factors_at names m text = all_turns (factor_turn names) m text

-- ---- terms
-- the term with a coefficient, which is brought to lowest terms, a base vector and a monomial
abbrev pub term_of : Bool → ℕ × ℕ → ℕ × Monomial → FieldTerm
term_of negative c x = record {
  place = x.0;
  monomial = x.1;
  number = signed negative (c.0 / common_divisor c.0 c.1);
  over = c.1 / common_divisor c.0 c.1;
}

-- the term in front, and what is behind
unfoldable pub field_term_at : List ℕ → Bool → List ℕ → Result (FieldTerm × List ℕ) Stop
field_term_at names negative text = coefficient_at text >>= λ c. factors_at names unit c.1 >>= λ x. Ok (term_of negative c.0 x.0, x.1)

-- the sum of the terms like one is at most 2^127 - 1, over a denominator
abbrev pub is_small : ℕ → List FieldTerm → FieldTerm → Bool
is_small n ts t = nat_lt (size_over n t.place t.monomial ts) (2 ^ 127)

-- the terms are within the limits
abbrev pub are_within : List FieldTerm → Bool
are_within ts = nat_lt (common_denominator ts) (2 ^ 127) && list_all (is_small (common_denominator ts) ts) ts

-- the terms and one more, where they are within the limits
abbrev pub with_field_term : List FieldTerm → FieldTerm → Option (List FieldTerm)
with_field_term ts t = if are_within (ts ++ t ∷ []) then Some (ts ++ t ∷ []) else None

abbrev pub put_by : Option (List FieldTerm) → List ℕ → List ℕ → Result (List FieldTerm × List ℕ) Stop
put_by None text rest = Err (stop Number text)
put_by (Some ts) text rest = Ok (ts, rest)

-- the terms and the one in front, and what is behind
unfoldable pub signed_at : List ℕ → Bool → List FieldTerm → List ℕ → Result (List FieldTerm × List ℕ) Stop
signed_at names negative ts text = field_term_at names negative text >>= λ t. put_by (with_field_term ts t.0) (after_blanks text) t.1

-- ---- sums
-- a further term, or the end of the text
abbrev pub term_by : List ℕ → List FieldTerm → List ℕ → Result (Turn (List FieldTerm) (List FieldTerm)) Stop
term_by names ts [] = Ok (ends ts)
term_by names ts (c ∷ cs) =
    if c == 43 then (signed_at names false ts cs >>= λ x. Ok (goes_on x.0 x.1))
    else if c == 45 then (signed_at names true ts cs >>= λ x. Ok (goes_on x.0 x.1))
    else Err (stop Syntax (c ∷ cs))

abbrev pub term_turn : List ℕ → List FieldTerm → List ℕ → Result (Turn (List FieldTerm) (List FieldTerm)) Stop
term_turn names ts text = term_by names ts (after_blanks text)

abbrev pub sign_by : List ℕ → List ℕ → Bool × List ℕ
sign_by text [] = (false, text)
sign_by text (c ∷ cs) = if c == 45 then (true, cs) else if c == 43 then (false, cs) else (false, text)

-- whether a sum begins with a minus, and what is behind its sign
unfoldable pub first_sign_at : List ℕ → Bool × List ℕ
first_sign_at text = sign_by text (after_blanks text)

-- the terms of a sum
unfoldable pub sum_of : List ℕ → List ℕ → Result (List FieldTerm) Stop
sum_of names text = signed_at names (first_sign_at text).0 [] (first_sign_at text).1 >>= λ x. all_turns (term_turn names) x.0 x.1

-- ---- texts
abbrev pub zero_by : List ℕ → Bool
zero_by [] = false
zero_by (c ∷ cs) = if c == 48 then length (after_blanks cs) == 0 else false

-- the text is the one token `0`
abbrev pub is_zero : List ℕ → Bool
is_zero text = zero_by (after_blanks text)

-- the terms of a text, none for `0`
unfoldable pub terms_of : List ℕ → List ℕ → Result (List FieldTerm) Stop
terms_of names text = if is_zero text then Ok [] else sum_of names text

abbrev pub placed : List ℕ → Result (List FieldTerm) Stop → Result (List FieldTerm) ReadFail
placed bytes (Ok ts) = Ok ts
placed bytes (Err s) = Err (bad 1 (length bytes - s.left + 1) s.kind)

abbrev pub read_by : Option ℕ → List ℕ → List ℕ → Result (List FieldTerm) ReadFail
read_by (Some column) names bytes = Err (bad 1 column NotAscii)
read_by None names bytes = placed bytes (terms_of names bytes)

-- the terms of bytes, or their first fault
unfoldable pub read_terms : List ℕ → List ℕ → Result (List FieldTerm) ReadFail
read_terms names bytes =
    if nat_lt greatest_text_length (length bytes) then Err (bad 1 1 TooLong) else read_by (not_in_line_from 1 bytes) names bytes
