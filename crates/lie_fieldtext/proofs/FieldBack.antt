-- The tokens and terms of field texts: what is of the grammar is read, and each fault of it stops the reader.
use Rattle.std.specs.Prelude.{ℕ, ◌≡◌, ◌^◌, ◌<◌, ◌≤◌, ◌⊎◌, Bool, true, false, ◌==◌, ◌&&◌, nat_lt, List, [], ◌∷◌, ◌++◌, length, Option, Some, None, Ok, Err, refl}
use Rattle.std.proofs.Common.{sym, ap, ◌∙◌, subst, inl, inr, arith, true≢false}
use Rattle.std.proofs.lemmas.Bool.Decides.{nat_tests}
use Rattle.lie_scan.proofs.CoordinateFaults.{run_nothing}
use Rattle.lie_math.specs.Monomial.{Monomial, exponent, power_of, unit, ◌·◌}
use Rattle.lie_scan.specs.declared.fault.BadKind.TheVariants.{Syntax, Number, UnknownName, Exponent}
use Rattle.lie_scan.specs.declared.runs.Class.TheVariants.{Blank, Letter, Digit}
use Rattle.lie_scan.specs.declared.stop.Stop.{Stop}
use Rattle.lie_fieldtext.specs.declared.field_term.FieldTerm.{FieldTerm}
use Rattle.lie_system.specs.Exponents.{HasSmallExponents}
use Rattle.lie_scan.specs.Runs.{run, behind, after_blanks, is_in}
use Rattle.lie_scan.specs.Stops.{stop}
use Rattle.lie_scan.specs.Names.{place_of}
use Rattle.lie_scan.specs.Meaning.{product}
use Rattle.lie_scan.specs.Tokens.{literal_at, place_of_word, exponent_at}
use Rattle.lie_scan.specs.Turns.{goes_on, ends}
use Rattle.lie_scan.specs.TokenGrammar.{BeginsOutside, IsNot, IsBehindBlanks, IsSign, IsNumber}
use Rattle.lie_scan.specs.LineFaults.{IsLetters, IsName}
use Rattle.lie_fieldtext.specs.FieldGrammar.{begins_base, IsBaseVector, IsVariable, IsVariablePower, AreVariablePowers, IsDenominator, IsFraction, IsCoefficient, IsFieldTermFront, IsFieldTerm}
use Rattle.lie_fieldtext.specs.FieldFaults.{IsFactorFault, no_letter, no_name, unknown_base, unknown_variable, no_exponent, wrong_exponent, IsFieldTermFault, large_number, no_denominator, wrong_denominator, no_star, in_factor, high_exponent, no_further}
use Rattle.lie_fieldtext.specs.FieldReading.{star_by, star_at, denominator_at, under_by, under_at, fraction_at, coefficient_by, coefficient_at, name_at, variable_power_at, factor_turn, factors_at, term_of, field_term_at}
use Rattle.lie_scan.proofs.Blanks.{run_front, behind_front, behind_none, after_outside, IsMark, mark_next, letter_range, no_blank_above}
use Rattle.lie_scan.proofs.NumberLaws.{is-literal_at, is-digits_at, digits_of_number, all_digits}
use Rattle.lie_scan.proofs.PowerLaws.{hat, is-exponent_at}
use Rattle.lie_scan.proofs.PowerFaults.{is-digits_fault, wrong_value}
use Rattle.lie_scan.proofs.FactorLaws.{star, small_before}
use Rattle.lie_scan.proofs.TermLaws.{BeginsDigit, number_front}
use Rattle.lie_scan.proofs.TermFaults.{is-large_literal}
use Rattle.lie_scan.proofs.TurnSteps.{turns_on, turns_end, turns_stop}
use Rattle.lie_fieldtext.proofs.FieldShorter.{factor_turn_takes}

-- ---- the sign `*`
star_is : (text rest : List ℕ) → IsSign 42 text rest → star_at text ≡ Ok rest
unfolding star_at
star_is text rest h = rw (mark_next 42 text rest star h) refl

no_star_by : (bs : List ℕ) → IsNot 42 bs → star_by bs ≡ Err (stop Syntax bs)
no_star_by [] h = refl
no_star_by (c ∷ cs) h = rw h refl

star_fails : (text : List ℕ) → IsNot 42 (after_blanks text) → star_at text ≡ Err (stop Syntax (after_blanks text))
unfolding star_at
star_fails text h = no_star_by (after_blanks text) h

-- ---- coefficients
slash : IsMark 47
slash = record { no_blank = refl }

denominator_is : (text : List ℕ) (d : ℕ) (rest : List ℕ) → IsNumber text d rest → 1 ≤ d → d < 2 ^ 127 → denominator_at text ≡ Ok (d, rest)
unfolding denominator_at
denominator_is text d rest number some small =
    let apart : (d == 0) ≡ false = grind (arith, nat_tests, some) in
    rw (is-literal_at text d rest number small, apart) refl

literal_no_digit : (text : List ℕ) → BeginsOutside Digit (after_blanks text) → literal_at text ≡ Err (stop Syntax (after_blanks text))
unfolding literal_at
literal_no_digit text out = rw (is-digits_fault text out) refl

denominator_no_digit : (text : List ℕ) → BeginsOutside Digit (after_blanks text) → denominator_at text ≡ Err (stop Syntax (after_blanks text))
unfolding denominator_at
denominator_no_digit text out = rw (literal_no_digit text out) refl

denominator_wrong : (text : List ℕ) (d : ℕ) (rest : List ℕ) → IsNumber text d rest → ((d ≡ 0) ⊎ (2 ^ 127 ≤ d)) → denominator_at text ≡ Err (stop Number (after_blanks text))
unfolding denominator_at
denominator_wrong text d rest number out = elim out [
  | inl none ↦ (
      let small : d < 2 ^ 127 = omega arith in
      let is : (d == 0) ≡ true = grind (arith, nat_tests, none) in
      rw (is-literal_at text d rest number small, is) refl)
  | inr high ↦ rw (is-large_literal text d rest number high) refl
]

no_slash : (text bs : List ℕ) → IsNot 47 bs → under_by text bs ≡ Ok (1, text)
no_slash text [] h = refl
no_slash text (c ∷ cs) h = rw h refl

under_is : (text : List ℕ) (d : ℕ) (rest : List ℕ) → IsDenominator text d rest → under_at text ≡ Ok (d, rest)
unfolding under_at
under_is text d rest h = elim h [
  | inl bare ↦ rw (bare.0, bare.1) (no_slash rest (after_blanks rest) bare.2)
  | inr under ↦ rw (mark_next 47 text under.0 slash under.1) (denominator_is under.0 d rest under.2 under.3 under.4)
]

under_fails : (text front : List ℕ) (s : Stop) → IsSign 47 text front → denominator_at front ≡ Err s → under_at text ≡ Err s
unfolding under_at
under_fails text front s sign h = rw (mark_next 47 text front slash sign) h

fraction_is : (text : List ℕ) (n d : ℕ) (back rest : List ℕ) → IsFraction text n d back → IsSign 42 back rest → fraction_at text ≡ Ok ((n, d), rest)
unfolding fraction_at
fraction_is text n d back rest h sign = rw (is-literal_at text n h.behind h.number h.small, under_is h.behind d back h.under, star_is back rest sign) refl

coefficient_digit : (text bs : List ℕ) → BeginsDigit bs → coefficient_by text bs ≡ fraction_at text
coefficient_digit text [] h = absurd h
coefficient_digit text (c ∷ cs) h = rw h refl

coefficient_bare : (text bs : List ℕ) → BeginsOutside Digit bs → coefficient_by text bs ≡ Ok ((1, 1), text)
coefficient_bare text [] h = refl
coefficient_bare text (c ∷ cs) h = rw h refl

with_number : (text : List ℕ) (n : ℕ) (rest : List ℕ) → IsNumber text n rest → coefficient_at text ≡ fraction_at text
unfolding coefficient_at
with_number text n rest number = let front = number_front text n rest number in coefficient_digit text (after_blanks text) (subst BeginsDigit (sym front.3) front.2)

coefficient_is : (text : List ℕ) (n d : ℕ) (rest : List ℕ) → IsCoefficient text n d rest → coefficient_at text ≡ Ok ((n, d), rest)
unfolding coefficient_at
coefficient_is text n d rest h = elim h [
  | inl made ↦ (let f = made.1 in let front = number_front text n f.behind f.number in coefficient_digit text (after_blanks text) (subst BeginsDigit (sym front.3) front.2) ∙ fraction_is text n d made.0 rest f made.2)
  | inr bare ↦ (coefficient_bare text (after_blanks text) bare.3 ∙ ap (λ (k : ℕ). Ok ((k, 1), text)) (sym bare.0) ∙ ap (λ (k : ℕ). Ok ((n, k), text)) (sym bare.1) ∙ ap (λ (l : List ℕ). Ok ((n, d), l)) bare.2)
]

-- ---- names
module _ (names whole : List ℕ) where
  name_is : (letter place : ℕ) (rest : List ℕ) → is_in Letter letter ≡ true → BeginsOutside Letter rest → place_of names letter ≡ Some place → name_at names whole (letter ∷ rest) ≡ Ok (place, rest)
  unfolding name_at
  name_is letter place rest is ended named =
      let front : run Letter (letter ∷ rest) ≡ letter ∷ [] = run_front Letter (letter ∷ []) rest (is, tt) ended in
      let back : behind Letter (letter ∷ rest) ≡ rest = behind_front Letter (letter ∷ []) rest (is, tt) ∙ behind_none Letter rest ended in
      rw (front, back, named) refl

  name_nothing : (text : List ℕ) → BeginsOutside Letter text → name_at names whole text ≡ Err (stop Syntax text)
  unfolding name_at
  name_nothing text h = rw (run_nothing text h) refl

  no_place : (word : List ℕ) → (IsName names word → ⊥) → place_of_word names word ≡ None
  no_place [] h = refl
  no_place (c ∷ []) h = go (place_of names c) refl
    where
      go : (o : Option ℕ) → place_of names c ≡ o → o ≡ None
      go None e = refl
      go (Some i) e = absurd (h (c, i, refl, e))
  no_place (c ∷ d ∷ cs) h = refl

  name_unknown : (word rest : List ℕ) → IsLetters word → BeginsOutside Letter rest → (IsName names word → ⊥) → name_at names whole (word ++ rest) ≡ Err (stop UnknownName whole)
  unfolding name_at
  name_unknown word rest letters ended not =
      let front : run Letter (word ++ rest) ≡ word = run_front Letter word rest letters.are ended in
      let back : behind Letter (word ++ rest) ≡ rest = behind_front Letter word rest letters.are ∙ behind_none Letter rest ended in
      let some = letters.some in
      let full : (length word == 0) ≡ false = grind (arith, nat_tests, some) in
      rw (front, back, full, no_place word not) refl

no_blank_letter : (l : ℕ) → is_in Letter l ≡ true → is_in Blank l ≡ false
no_blank_letter l is = let range = letter_range l is in let low = range.0 in no_blank_above l (omega arith)

word_outside : (word rest : List ℕ) → IsLetters word → BeginsOutside Blank (word ++ rest)
word_outside [] rest letters = let some = letters.some in absurd (omega arith)
word_outside (l ∷ ls) rest letters = no_blank_letter l (letters.are).0

letterless : (bs : List ℕ) → BeginsOutside Letter bs → begins_base bs ≡ false
letterless [] h = refl
letterless (b ∷ []) h = refl
letterless (b ∷ c ∷ bs) h = go (b == 100) refl
  where
    go : (t : Bool) → (b == 100) ≡ t → (t && c == 95) ≡ false
    go false e = refl
    go true e = let d : b ≡ 100 = grind (arith, nat_tests, e) in let letter : is_in Letter b ≡ true = ap (is_in Letter) d in absurd (true≢false (sym letter ∙ h))

-- ---- powers and base vectors
module _ (names : List ℕ) (m : Monomial) (text : List ℕ) where
  base_is : (place : ℕ) (rest : List ℕ) → IsBaseVector names text place rest → factor_turn names m text ≡ Ok (ends ((place, m), rest))
  base_is place rest h =
      let at : after_blanks text ≡ 100 ∷ 95 ∷ h.letter ∷ rest = after_outside text (100 ∷ 95 ∷ h.letter ∷ rest) h.front refl in
      rw (at, name_is names (100 ∷ 95 ∷ h.letter ∷ rest) h.letter place rest h.is_letter h.ended h.named) refl

  base_nothing : (rest : List ℕ) → IsBehindBlanks text (100 ∷ 95 ∷ rest) → BeginsOutside Letter rest → factor_turn names m text ≡ Err (stop Syntax rest)
  base_nothing rest front out =
      let at : after_blanks text ≡ 100 ∷ 95 ∷ rest = after_outside text (100 ∷ 95 ∷ rest) front refl in
      rw (at, name_nothing names (100 ∷ 95 ∷ rest) rest out) refl

  base_unknown : (word rest : List ℕ) → IsBehindBlanks text (100 ∷ 95 ∷ (word ++ rest)) → IsLetters word → BeginsOutside Letter rest → (IsName names word → ⊥) → factor_turn names m text ≡ Err (stop UnknownName (after_blanks text))
  base_unknown word rest front letters ended not =
      let at : after_blanks text ≡ 100 ∷ 95 ∷ (word ++ rest) = after_outside text (100 ∷ 95 ∷ (word ++ rest)) front refl in
      rw (at, name_unknown names (100 ∷ 95 ∷ (word ++ rest)) word rest letters ended not) refl

  variable_at : (place : ℕ) (rest : List ℕ) → (h : IsVariable names text place rest) → after_blanks text ≡ h.letter ∷ rest
  variable_at place rest h = after_outside text (h.letter ∷ rest) h.front (no_blank_letter h.letter h.is_letter)

  variable_is : (place : ℕ) (rest : List ℕ) → IsVariable names text place rest → name_at names (after_blanks text) (after_blanks text) ≡ Ok (place, rest)
  variable_is place rest h =
      ap (name_at names (after_blanks text)) (variable_at place rest h) ∙ name_is names (after_blanks text) h.letter place rest h.is_letter h.ended h.named

  not_base : (place : ℕ) (rest : List ℕ) → IsVariable names text place rest → begins_base (after_blanks text) ≡ false
  not_base place rest h = ap begins_base (variable_at place rest h) ∙ h.no_base

  power_is : (p : ℕ × ℕ) (back front : List ℕ) → IsVariablePower names text p back → IsSign 42 back front → exponent (m · power_of p.0 p.1) p.0 ≤ 32 → factor_turn names m text ≡ Ok (goes_on (m · power_of p.0 p.1) front)
  unfolding variable_power_at
  power_is p back front h sign low =
      let fits : nat_lt 32 (exponent (m · power_of p.0 p.1) p.0) ≡ false = grind (arith, nat_tests, low) in
      rw (not_base p.0 h.0 h.1, variable_is p.0 h.0 h.1, is-exponent_at (after_blanks text) h.0 p.1 back h.2, fits, star_is back front sign) refl

  power_high : (p : ℕ × ℕ) (back : List ℕ) → IsVariablePower names text p back → 33 ≤ exponent (m · power_of p.0 p.1) p.0 → factor_turn names m text ≡ Err (stop Exponent (after_blanks text))
  unfolding variable_power_at
  power_high p back h high =
      let past : nat_lt 32 (exponent (m · power_of p.0 p.1) p.0) ≡ true = grind (arith, nat_tests, high) in
      rw (not_base p.0 h.0 h.1, variable_is p.0 h.0 h.1, is-exponent_at (after_blanks text) h.0 p.1 back h.2, past) refl

  power_unstarred : (p : ℕ × ℕ) (back : List ℕ) → IsVariablePower names text p back → exponent (m · power_of p.0 p.1) p.0 ≤ 32 → IsNot 42 (after_blanks back) → factor_turn names m text ≡ Err (stop Syntax (after_blanks back))
  unfolding variable_power_at
  power_unstarred p back h low not =
      let fits : nat_lt 32 (exponent (m · power_of p.0 p.1) p.0) ≡ false = grind (arith, nat_tests, low) in
      rw (not_base p.0 h.0 h.1, variable_is p.0 h.0 h.1, is-exponent_at (after_blanks text) h.0 p.1 back h.2, fits, star_fails back not) refl

  factor_fails : (s : Stop) → IsFactorFault names text s → factor_turn names m text ≡ Err s
  unfolding variable_power_at exponent_at
  factor_fails s (no_letter out) = rw (letterless (after_blanks text) out, name_nothing names (after_blanks text) (after_blanks text) out) refl
  factor_fails s (no_name rest front out) = base_nothing rest front out
  factor_fails s (unknown_base word rest front letters ended not) = base_unknown word rest front letters ended not
  factor_fails s (unknown_variable word rest front bare letters ended not) =
      let at : after_blanks text ≡ word ++ rest = after_outside text (word ++ rest) front (word_outside word rest letters) in
      rw (at, bare, name_unknown names (word ++ rest) word rest letters ended not) refl
  factor_fails s (no_exponent place back front variable sign out) =
      rw (not_base place back variable, variable_is place back variable, mark_next 94 back front hat sign, is-digits_fault front out) refl
  factor_fails s (wrong_exponent place back front e rest variable sign number out) =
      rw (
        not_base place back variable,
        variable_is place back variable,
        mark_next 94 back front hat sign,
        is-digits_at front number.digits rest (digits_of_number front e rest number),
        wrong_value number.digits (after_blanks text) rest e (all_digits number.digits number.numeral.1) number.value out,
      ) refl

-- ---- factors
module _ (names : List ℕ) where
  pub powers_pass : (m : Monomial) (text : List ℕ) (ps : List (ℕ × ℕ)) (back : List ℕ) → AreVariablePowers names text ps back → HasSmallExponents (product m ps) → factors_at names m text ≡ factors_at names (product m ps) back
  powers_pass m text [] back h small = ap (factors_at names m) h
  powers_pass m text (p ∷ ps) back h small =
      let n : Monomial = m · power_of p.0 p.1 in
      let low = small_before n ps small p.0 in
      turns_on (factor_turn names) (factor_turn_takes names) m text n h.1 (power_is names m text p h.0 h.1 h.2 h.3 low) ∙ powers_pass n h.1 ps back h.4 small

  factors_is : (m : Monomial) (text : List ℕ) (place : ℕ) (rest : List ℕ) → IsBaseVector names text place rest → factors_at names m text ≡ Ok ((place, m), rest)
  factors_is m text place rest base = turns_end (factor_turn names) (factor_turn_takes names) m text ((place, m), rest) (base_is names m text place rest base)

  factors_stop : (m : Monomial) (text : List ℕ) (s : Stop) → factor_turn names m text ≡ Err s → factors_at names m text ≡ Err s
  factors_stop m text s h = turns_stop (factor_turn names) (factor_turn_takes names) m text s h

  -- ---- terms
  pub term_is : (negative : Bool) (text : List ℕ) (t : FieldTerm) (rest : List ℕ) → IsFieldTerm names text negative t rest → field_term_at names negative text ≡ Ok (t, rest)
  unfolding field_term_at
  term_is negative text t rest h =
      let begins = h.front in
      let whole : factors_at names unit begins.behind ≡ Ok ((t.place, product unit h.powers), rest) =
      powers_pass unit begins.behind h.powers h.behind begins.are begins.small ∙ factors_is (product unit h.powers) h.behind t.place rest h.base in
      let same : term_of negative (h.numerator, h.denominator) (t.place, product unit h.powers) ≡ t = λ i. record { place = t.place; monomial = sym h.monomial i; number = sym h.number i; over = sym h.over i } in
      rw (coefficient_is text h.numerator h.denominator begins.behind begins.coefficient, whole) (ap (λ (u : FieldTerm). Ok (u, rest)) same)

  front_stops : (negative : Bool) (text : List ℕ) (n d : ℕ) (powers : List (ℕ × ℕ)) (front : List ℕ) (s : Stop) → IsFieldTermFront names text n d powers front → factor_turn names (product unit powers) front ≡ Err s → field_term_at names negative text ≡ Err s
  unfolding field_term_at
  front_stops negative text n d powers front s begins stops =
      let whole : factors_at names unit begins.behind ≡ Err s = powers_pass unit begins.behind powers front begins.are begins.small ∙ factors_stop (product unit powers) front s stops in
      rw (coefficient_is text n d begins.behind begins.coefficient, whole) refl

  pub term_fails : (negative : Bool) (text : List ℕ) (s : Stop) → IsFieldTermFault names text s → field_term_at names negative text ≡ Err s
  unfolding field_term_at fraction_at
  term_fails negative text s (large_number n rest number high) = rw (with_number text n rest number, is-large_literal text n rest number high) refl
  term_fails negative text s (no_denominator n behind front number small sign out) =
      rw (with_number text n behind number, is-literal_at text n behind number small, under_fails behind front (stop Syntax (after_blanks front)) sign (denominator_no_digit front out)) refl
  term_fails negative text s (wrong_denominator n behind front d rest number small sign under out) =
      rw (with_number text n behind number, is-literal_at text n behind number small, under_fails behind front (stop Number (after_blanks front)) sign (denominator_wrong front d rest under out)) refl
  term_fails negative text s (no_star n d rest fraction not) =
      rw (with_number text n fraction.behind fraction.number, is-literal_at text n fraction.behind fraction.number fraction.small, under_is fraction.behind d rest fraction.under, star_fails rest not) refl
  term_fails negative text s (in_factor n d powers front r begins fault) = front_stops negative text n d powers front r begins (factor_fails names (product unit powers) front r fault)
  term_fails negative text s (high_exponent n d powers front p rest begins power high) =
      front_stops negative text n d powers front (stop Exponent (after_blanks front)) begins (power_high names (product unit powers) front p rest power high)
  term_fails negative text s (no_further n d powers front p rest begins power small not) =
      let low = small p.0 in
      front_stops negative text n d powers front (stop Syntax (after_blanks rest)) begins (power_unstarred names (product unit powers) front p rest power low not)
