-- The sums of field texts: what is of the grammar is read, and each fault of it stops the reader.
use Rattle.std.specs.Prelude.{ℕ, ◌≡◌, ◌≤◌, Bool, true, false, List, [], ◌∷◌, ◌++◌, length, Ok, Err, refl}
use Rattle.std.specs.List.{AllByRecursion as Every}
use Rattle.std.proofs.Common.{append_assoc, sym, ap, ◌∙◌, subst, inl, inr, arith}
use Rattle.std.proofs.lemmas.List.{append-nil}
use Rattle.lie_math.specs.CommonDivisors.{common_divisor}
use Rattle.lie_math.proofs.CommonDivisors.{common_divisor_is}
use Rattle.lie_scan.specs.declared.fault.BadKind.TheVariants.{Syntax, Number}
use Rattle.std.specs.declared.result.Result.{Result}
use Rattle.lie_scan.specs.declared.runs.Class.TheVariants.{Digit}
use Rattle.lie_scan.specs.declared.stop.Stop.{Stop}
use Rattle.lie_fieldtext.specs.declared.field_term.FieldTerm.{FieldTerm}
use Rattle.lie_scan.specs.Runs.{after_blanks, is_in}
use Rattle.lie_scan.specs.Stops.{stop}
use Rattle.lie_scan.specs.Turns.{goes_on, ends, all_turns}
use Rattle.lie_scan.specs.TokenGrammar.{BeginsOutside, IsNot, IsSign, IsNumber, AreBlanks}
use Rattle.lie_scan.specs.SumGrammar.{sign_of, IsFirstSign}
use Rattle.lie_fieldtext.specs.FieldMeaning.{HaveSmallSums}
use Rattle.lie_fieldtext.specs.FieldGrammar.{IsFraction, IsCoefficient, IsFieldTerm, AreFieldTerms, IsFieldSum, IsZeroText, HasFieldTerms}
use Rattle.lie_fieldtext.specs.FieldFaults.{IsFieldTermFault, no_star, IsFieldTermNext, first_term, further_term, IsFieldSumFault, in_term, past_limits, further_token}
use Rattle.lie_fieldtext.specs.FieldReading.{signed_at, term_by, term_turn, sign_by, first_sign_at, sum_of, is_zero, terms_of}
use Rattle.lie_fieldtext.specs.FieldAnswers.{HasDenominator}
use Rattle.lie_scan.proofs.Blanks.{only_blanks, blanks_not, mark_next, after_outside, digit_range, no_blank_above}
use Rattle.lie_scan.proofs.NumberLaws.{digits_all}
use Rattle.lie_scan.proofs.SumLaws.{sign_mark}
use Rattle.lie_scan.proofs.TurnSteps.{turns_on, turns_end, turns_stop}
use Rattle.lie_fieldtext.proofs.FieldShorter.{term_turn_takes}
use Rattle.lie_fieldtext.proofs.FieldSteps.{quotient_some}
use Rattle.lie_fieldtext.proofs.FieldSizes.{is-within, not_within, within_front, every_more, nothing_within}
use Rattle.lie_fieldtext.proofs.FieldBack.{term_is, term_fails}
use Rattle.lie_fieldtext.proofs.FieldSums.{zero-is, is-zero, AreTextTerms, IsTextFault}

-- ---- denominators
coefficient_some : (text : List ℕ) (n d : ℕ) (rest : List ℕ) → IsCoefficient text n d rest → 1 ≤ d
coefficient_some text n d rest h = elim h [
  | inl made ↦ elim (made.1.under) [ inl bare ↦ (let e = bare.0 in omega arith) | inr under ↦ under.3 ]
  | inr bare ↦ (let e = bare.1 in omega arith)
]

pub term_some : (names text : List ℕ) (negative : Bool) (t : FieldTerm) (rest : List ℕ) → IsFieldTerm names text negative t rest → HasDenominator t
term_some names text negative t rest h =
    let d = h.denominator in
    subst (λ k. 1 ≤ k) (sym h.over) (quotient_some (common_divisor h.numerator d) d (common_divisor_is h.numerator d).1 (coefficient_some text h.numerator d h.front.behind h.front.coefficient))

pub terms_some : (names text : List ℕ) (ts : List FieldTerm) (rest : List ℕ) → AreFieldTerms names text ts rest → Every HasDenominator ts
terms_some names text [] rest h = tt
terms_some names text (t ∷ ts) rest h = (term_some names h.1 h.0 t h.2 h.4, terms_some names h.2 ts rest h.5)

sum_some : (names text : List ℕ) (ts : List FieldTerm) (rest : List ℕ) → IsFieldSum names text ts rest → Every HasDenominator ts
sum_some names text ts rest h = subst (Every HasDenominator) (sym h.are) (term_some names h.front h.negative h.first h.behind h.begins, terms_some names h.behind h.further rest h.goes_on)

pub text_some : (names text : List ℕ) (ts : List FieldTerm) → HasFieldTerms names text ts → Every HasDenominator ts
text_some names text ts h = elim h [
  | inl zero ↦ subst (Every HasDenominator) (sym zero.1) tt
  | inr sum ↦ sum_some names text ts sum.0 sum.1
]

-- ---- signed terms
module _ (names : List ℕ) where
  signed_is : (negative : Bool) (ts : List FieldTerm) (text : List ℕ) (t : FieldTerm) (rest : List ℕ) → IsFieldTerm names text negative t rest → HaveSmallSums (ts ++ t ∷ []) → signed_at names negative ts text ≡ Ok (ts ++ t ∷ [], rest)
  unfolding signed_at
  signed_is negative ts text t rest h within = rw (term_is names negative text t rest h, is-within (ts ++ t ∷ []) within) refl

  signed_fails : (negative : Bool) (ts : List FieldTerm) (text : List ℕ) (s : Stop) → IsFieldTermFault names text s → signed_at names negative ts text ≡ Err s
  unfolding signed_at
  signed_fails negative ts text s h = rw (term_fails names negative text s h) refl

  signed_past : (negative : Bool) (ts : List FieldTerm) (text : List ℕ) (t : FieldTerm) (rest : List ℕ) → IsFieldTerm names text negative t rest → (HaveSmallSums (ts ++ t ∷ []) → ⊥) → signed_at names negative ts text ≡ Err (stop Number (after_blanks text))
  unfolding signed_at
  signed_past negative ts text t rest h past = rw (term_is names negative text t rest h, not_within (ts ++ t ∷ []) past) refl

  -- ---- further terms
  turn_is : (negative : Bool) (ts : List FieldTerm) (text front : List ℕ) (us : List FieldTerm) (rest : List ℕ) → IsSign (sign_of negative) text front → signed_at names negative ts front ≡ Ok (us, rest) → term_turn names ts text ≡ Ok (goes_on us rest)
  turn_is false ts text front us rest sign is = rw (mark_next 43 text front (sign_mark false) sign, is) refl
  turn_is true ts text front us rest sign is = rw (mark_next 45 text front (sign_mark true) sign, is) refl

  turn_fails : (negative : Bool) (ts : List FieldTerm) (text front : List ℕ) (s : Stop) → IsSign (sign_of negative) text front → signed_at names negative ts front ≡ Err s → term_turn names ts text ≡ Err s
  turn_fails false ts text front s sign is = rw (mark_next 43 text front (sign_mark false) sign, is) refl
  turn_fails true ts text front s sign is = rw (mark_next 45 text front (sign_mark true) sign, is) refl

  turn_ends : (ts : List FieldTerm) (text : List ℕ) → AreBlanks text → term_turn names ts text ≡ Ok (ends ts)
  turn_ends ts text blank = ap (term_by names ts) (only_blanks text blank)

  no_turn : (ts : List FieldTerm) (bs : List ℕ) → IsNot 43 bs → IsNot 45 bs → 1 ≤ length bs → term_by names ts bs ≡ Err (stop Syntax bs)
  no_turn ts [] plus minus some = absurd (omega arith)
  no_turn ts (c ∷ cs) plus minus some = rw (plus, minus) refl

  terms_pass : (ts : List FieldTerm) (text : List ℕ) (us : List FieldTerm) (rest : List ℕ) → Every HasDenominator ts → AreFieldTerms names text us rest → HaveSmallSums (ts ++ us)
      → all_turns (term_turn names) ts text ≡ all_turns (term_turn names) (ts ++ us) rest
  terms_pass ts text [] rest some h within = ap (all_turns (term_turn names) ts) h ∙ ap (λ l. all_turns (term_turn names) l rest) (sym (append-nil ts))
  terms_pass ts text (u ∷ us) rest some h within =
      let all : ts ++ (u ∷ us) ≡ (ts ++ u ∷ []) ++ us = sym (append_assoc ts (u ∷ []) us) in
      let whole : HaveSmallSums ((ts ++ u ∷ []) ++ us) = subst HaveSmallSums all within in
      let more : Every HasDenominator (ts ++ u ∷ []) = every_more HasDenominator ts u some (term_some names h.1 h.0 u h.2 h.4) in
      let front : HaveSmallSums (ts ++ u ∷ []) = within_front (ts ++ u ∷ []) us more (terms_some names h.2 us rest h.5) whole in
      turns_on (term_turn names) (term_turn_takes names) ts text (ts ++ u ∷ []) h.2 (turn_is h.0 ts text h.1 (ts ++ u ∷ []) h.2 h.3 (signed_is h.0 ts h.1 u h.2 h.4 front))
      ∙ terms_pass (ts ++ u ∷ []) h.2 us rest more h.5 whole ∙ ap (λ l. all_turns (term_turn names) l rest) (sym all)

-- ---- sums
blanks_no_digit : (bs : List ℕ) → AreBlanks bs → BeginsOutside Digit bs
blanks_no_digit [] h = tt
blanks_no_digit (b ∷ bs) h = go (is_in Digit b) refl
  where
    go : (t : Bool) → is_in Digit b ≡ t → t ≡ false
    go false e = refl
    go true e = let range = digit_range b e in let low = range.0 in absurd (clash (sym h.0 ∙ no_blank_above b (omega arith)))
      where
        clash : true ≡ false → ⊥
        clash e = cc

no_sign : (text bs : List ℕ) → IsNot 43 bs → IsNot 45 bs → sign_by text bs ≡ (false, text)
no_sign text [] plus minus = refl
no_sign text (c ∷ cs) plus minus = rw (minus, plus) refl

sign_is : (text : List ℕ) (negative : Bool) (front : List ℕ) → IsFirstSign text negative front → ◌≡◌ {A = Bool × List ℕ} (first_sign_at text) (negative, front)
unfolding first_sign_at
sign_is text negative front h = elim h [
  | inl sign ↦ (ap (sign_by text) (mark_next (sign_of negative) text front (sign_mark negative) sign) ∙ computed negative)
  | inr bare ↦ (no_sign text (after_blanks text) bare.2 bare.3 ∙ ap (λ (b : Bool). (b, text)) (sym bare.0) ∙ ap (λ (l : List ℕ). (negative, l)) bare.1)
]
  where
    computed : (b : Bool) → ◌≡◌ {A = Bool × List ℕ} (sign_by text (sign_of b ∷ front)) (b, front)
    computed true = refl
    computed false = refl

module _ (names : List ℕ) where
  sum_pass : (text : List ℕ) (us : List FieldTerm) (rest : List ℕ) → IsFieldSum names text us rest → HaveSmallSums us → sum_of names text ≡ all_turns (term_turn names) us rest
  unfolding sum_of
  sum_pass text us rest h within =
      let t = h.first in
      let some : Every HasDenominator (t ∷ []) = (term_some names h.front h.negative t h.behind h.begins, tt) in
      let whole : HaveSmallSums ((t ∷ []) ++ h.further) = subst HaveSmallSums h.are within in
      let front : HaveSmallSums (t ∷ []) = within_front (t ∷ []) h.further some (terms_some names h.behind h.further rest h.goes_on) whole in
      rw (sign_is text h.negative h.front h.sign, signed_is names h.negative [] h.front t h.behind h.begins front)
      (terms_pass names (t ∷ []) h.behind h.further rest some h.goes_on whole ∙ ap (λ l. all_turns (term_turn names) l rest) (sym h.are))

  sum_is : (text : List ℕ) (us : List FieldTerm) (rest : List ℕ) → IsFieldSum names text us rest → AreBlanks rest → HaveSmallSums us → sum_of names text ≡ Ok us
  sum_is text us rest h blank within = sum_pass text us rest h within ∙ turns_end (term_turn names) (term_turn_takes names) us rest us (turn_ends names us rest blank)

  next_stops : (text : List ℕ) (negative : Bool) (terms : List FieldTerm) (front : List ℕ) (s : Stop) → IsFieldTermNext names text negative terms front → HaveSmallSums terms → signed_at names negative terms front ≡ Err s → sum_of names text ≡ Err s
  unfolding sum_of
  next_stops text negative terms front s (first_term sign begin first) within stops = rw (sign_is text sign begin first, stops) refl
  next_stops text negative terms front s (further_term sign all back begin sum mark) within stops =
      sum_pass text all back sum within ∙ turns_stop (term_turn names) (term_turn_takes names) all back s (turn_fails names sign all back begin s mark stops)

  sum_fails : (text : List ℕ) (s : Stop) → IsFieldSumFault names text s → sum_of names text ≡ Err s
  sum_fails text s (in_term negative terms front r next within fault) = next_stops text negative terms front r next within (signed_fails names negative terms front r fault)
  sum_fails text s (past_limits negative terms front t rest next within term past) =
      next_stops text negative terms front (stop Number (after_blanks front)) next within (signed_past names negative terms front t rest term past)
  sum_fails text s (further_token terms rest sum within plus minus some) =
      sum_pass text terms rest sum within
      ∙ turns_stop (term_turn names) (term_turn_takes names) terms rest (stop Syntax (after_blanks rest)) (no_turn names terms (after_blanks rest) plus minus some)

  -- ---- texts
  -- the token `0` alone lacks its `*`
  zero_fault : (text : List ℕ) → IsZeroText text → (s : Stop) × IsFieldSumFault names text s
  zero_fault text z =
      let rest = z.0 in
      let at : after_blanks text ≡ 48 ∷ rest = after_outside text (48 ∷ rest) z.1 refl in
      let number : IsNumber text 0 rest = record { digits = 48 ∷ []; front = z.1; ended = blanks_no_digit rest z.2; numeral = (omega arith, digits_all (48 ∷ []) (refl, tt)); value = refl } in
      let fraction : IsFraction text 0 1 rest = record { behind = rest; number = number; small = omega arith; under = inl (refl, refl, blanks_not 47 rest z.2) } in
      let sign : IsFirstSign text false text = inr (refl, refl, subst (IsNot 43) (sym at) refl, subst (IsNot 45) (sym at) refl) in
      (stop Syntax (after_blanks rest), in_term false [] text (stop Syntax (after_blanks rest)) (first_term false text sign) nothing_within (no_star 0 1 rest fraction (blanks_not 42 rest z.2)))

  sum_not_zero : (text : List ℕ) (us : List FieldTerm) (rest : List ℕ) → IsFieldSum names text us rest → AreBlanks rest → HaveSmallSums us → IsZeroText text → ⊥
  sum_not_zero text us rest h blank within z = clash (zero_fault text z).0 (sym (sum_is text us rest h blank within) ∙ sum_fails text (zero_fault text z).0 (zero_fault text z).1)
    where
      clash : (s : Stop) → ◌≡◌ {A = Result (List FieldTerm) Stop} (Ok us) (Err s) → ⊥
      clash s e = cc

  not_zero : (text : List ℕ) → (IsZeroText text → ⊥) → is_zero text ≡ false
  not_zero text h = go (is_zero text) refl
    where
      go : (b : Bool) → is_zero text ≡ b → b ≡ false
      go true e = absurd (h (zero-is text e))
      go false e = refl

  pub text_is : (text : List ℕ) (us : List FieldTerm) → AreTextTerms names text us → terms_of names text ≡ Ok us
  unfolding terms_of
  text_is text us h = elim (h.0) [
    | inl zero ↦ rw (is-zero text zero.0) (ap Ok (sym zero.1))
    | inr sum ↦ (rw (not_zero text (sum_not_zero text us sum.0 sum.1 sum.2 h.1)) (sum_is text us sum.0 sum.1 sum.2 h.1))
  ]

  pub text_fails : (text : List ℕ) (s : Stop) → IsTextFault names text s → terms_of names text ≡ Err s
  unfolding terms_of
  text_fails text s h = rw (not_zero text h.0) (sum_fails text s h.1)
