-- The tokens and factors of field texts: what is read is of the grammar, and what stops the reader is a fault of it.
use Rattle.std.specs.Prelude.{ℕ, ◌≡◌, ◌^◌, ◌<◌, ◌≤◌, ◌⊎◌, Bool, true, false, ◌==◌, nat_lt, List, [], ◌∷◌, ◌++◌, length, drop, if◌then◌else◌, Option, Some, None, Ok, Err, refl}
use Rattle.std.specs.declared.result.Result.{Result}
use Rattle.std.specs.Str.Parse.{digits_value}
use Rattle.std.proofs.Common.{sym, ap, ◌∙◌, subst, inl, inr, arith}
use Rattle.std.proofs.lemmas.Bool.Decides.{nat_tests}
use Rattle.lie_scan.proofs.TermFaults.{digit_clash}
use Rattle.lie_math.specs.Monomial.{Monomial, exponent, power_of, ◌·◌}
use Rattle.lie_scan.specs.declared.fault.BadKind.TheVariants.{Syntax, Number, UnknownName, Exponent}
use Rattle.lie_scan.specs.declared.runs.Class.TheVariants.{Letter, Digit}
use Rattle.lie_scan.specs.declared.stop.Stop.{Stop}
use Rattle.lie_scan.specs.Runs.{run, behind, after_blanks, is_in}
use Rattle.lie_scan.specs.Stops.{stop, ◌>>=◌}
use Rattle.lie_scan.specs.Names.{place_of}
use Rattle.lie_scan.specs.Tokens.{value_of, digits_at, literal_by, literal_at, place_of_word, exponent_value, exponent_by, exponent_at}
use Rattle.lie_scan.specs.Turns.{Turn, goes_on, ends}
use Rattle.lie_scan.specs.Terms.{raised}
use Rattle.lie_scan.specs.TokenGrammar.{AreIn, BeginsOutside, IsNot, IsSign, IsNumber, IsExponentAt}
use Rattle.lie_scan.specs.LineFaults.{IsLetters, IsName}
use Rattle.lie_fieldtext.specs.FieldGrammar.{begins_base, IsBaseVector, IsVariable, IsVariablePower, IsDenominator, IsFraction, IsCoefficient}
use Rattle.lie_fieldtext.specs.FieldFaults.{IsFactorFault, no_letter, no_name, unknown_base, unknown_variable, no_exponent, wrong_exponent, IsFieldTermFault, large_number, no_denominator, wrong_denominator, no_star}
use Rattle.lie_fieldtext.specs.FieldReading.{star_by, star_at, denominator_at, under_by, under_at, fraction_at, coefficient_by, coefficient_at, place_by, name_at, variable_power_at, factor_turn}
use Rattle.lie_scan.proofs.Blanks.{run_is, run_in, behind_outside, blanks_to, and_true}
use Rattle.lie_scan.proofs.NumberLaws.{AreDigitsAt, digits_at-is, literal_at-is}
use Rattle.lie_scan.proofs.CoordinateLaws.{place_word-is}
use Rattle.lie_scan.proofs.CoordinateFaults.{err_is, bind_fails, no_run, unnamed-is}
use Rattle.lie_scan.proofs.PowerLaws.{exponent_at-is}
use Rattle.lie_scan.proofs.PowerFaults.{digits_at-fails, large_digits, digits_make, value_fails}
use Rattle.lie_scan.proofs.TermLaws.{BeginsDigit}

-- what a reader gives is P, and what stops it is F
abbrev pub Told : {A : Type 0} → (A → Type 0) → (Stop → Type 0) → Result A Stop → Type 0
Told P F (Ok x) = P x
Told P F (Err s) = F s

pub told_bind : {A B : Type 0} (P : A → Type 0) (F : Stop → Type 0) (Q : B → Type 0) (G : Stop → Type 0) (r : Result A Stop) (f : A → Result B Stop) → Told P F r → ((x : A) → P x → Told Q G (f x)) → ((s : Stop) → F s → G s) → Told Q G (r >>= f)
told_bind P F Q G (Ok x) f h k l = k x h
told_bind P F Q G (Err s) f h k l = l s h

pub told_if : {A : Type 0} (Q : A → Type 0) (G : Stop → Type 0) (b : Bool) (r s : Result A Stop) → (b ≡ true → Told Q G r) → (b ≡ false → Told Q G s) → Told Q G (if b then r else s)
told_if Q G true r s h k = h refl
told_if Q G false r s h k = k refl

pub told_map : {A : Type 0} (P : A → Type 0) (F : Stop → Type 0) (Q : A → Type 0) (G : Stop → Type 0) (r : Result A Stop) → Told P F r → ((x : A) → P x → Q x) → ((s : Stop) → F s → G s) → Told Q G r
told_map P F Q G (Ok x) h k l = k x h
told_map P F Q G (Err s) h k l = l s h

pub told_by : {A : Type 0} (Q : A → Type 0) (G : Stop → Type 0) (r : Result A Stop) → ((x : A) → r ≡ Ok x → Q x) → ((s : Stop) → r ≡ Err s → G s) → Told Q G r
told_by Q G (Ok x) k l = k x refl
told_by Q G (Err s) k l = l s refl

-- ---- numbers
pub data IsLiteralFault (text : List ℕ) : Stop → Type 0 where
  no_digit : BeginsOutside Digit (after_blanks text) → IsLiteralFault text (stop Syntax (after_blanks text))
  past : (n : ℕ) (rest : List ℕ) → IsNumber text n rest → 2 ^ 127 ≤ n → IsLiteralFault text (stop Number (after_blanks text))

abbrev IsLiteral : List ℕ → ℕ × List ℕ → Type 0
IsLiteral text x = IsNumber text x.0 x.1 × (x.0 < 2 ^ 127)

literal_fails : (text : List ℕ) (s : Stop) → literal_at text ≡ Err s → IsLiteralFault text s
unfolding literal_at
literal_fails text s h = bind_fails (digits_at text) _ s h
    (λ e. let f = digits_at-fails text s e in subst (IsLiteralFault text) f.1 (no_digit f.0))
    (λ d is_d more. go d (digits_at-is text d is_d) (value_of d.0) refl more)
  where
    go : (d : List ℕ × List ℕ) → AreDigitsAt text d.0 d.1 → (o : Option ℕ) → value_of d.0 ≡ o → literal_by o (after_blanks text) d.1 ≡ Err s → IsLiteralFault text s
    go d at None none k = subst (IsLiteralFault text) (err_is (stop Number (after_blanks text)) s k) (past (digits_value 10 d.0) d.1 (digits_make text d.0 d.1 at) (large_digits d.0 at.are none))
    go d at (Some n) some k = cc

literal_told : (text : List ℕ) → Told (IsLiteral text) (IsLiteralFault text) (literal_at text)
literal_told text = told_by (IsLiteral text) (IsLiteralFault text) (literal_at text) (literal_at-is text) (literal_fails text)

-- ---- the sign `*`
abbrev pub HasNoStar : List ℕ → Stop → Type 0
HasNoStar text s = IsNot 42 (after_blanks text) × (stop Syntax (after_blanks text) ≡ s)

pub star_told : (text : List ℕ) → Told (IsSign 42 text) (HasNoStar text) (star_at text)
unfolding star_at
star_told text = go (after_blanks text) refl
  where
    go : (bs : List ℕ) → after_blanks text ≡ bs → Told (IsSign 42 text) (HasNoStar text) (star_by bs)
    go [] at = (subst (IsNot 42) (sym at) tt, ap (stop Syntax) at)
    go (c ∷ cs) at = told_if (IsSign 42 text) (HasNoStar text) (c == 42) (Ok cs) (Err (stop Syntax (c ∷ cs)))
        (λ e. (let is : c ≡ 42 = grind (arith, nat_tests, e) in blanks_to text (42 ∷ cs) (at ∙ ap (λ b. b ∷ cs) is)))
        (λ e. (subst (IsNot 42) (sym at) e, ap (stop Syntax) at))

-- ---- coefficients
pub data IsDenominatorFault (text : List ℕ) : Stop → Type 0 where
  no_digits : BeginsOutside Digit (after_blanks text) → IsDenominatorFault text (stop Syntax (after_blanks text))
  wrong : (d : ℕ) (rest : List ℕ) → IsNumber text d rest → ((d ≡ 0) ⊎ (2 ^ 127 ≤ d)) → IsDenominatorFault text (stop Number (after_blanks text))

abbrev IsDivisor : List ℕ → ℕ × List ℕ → Type 0
IsDivisor text d = IsNumber text d.0 d.1 × (1 ≤ d.0) × (d.0 < 2 ^ 127)

denominator_told : (text : List ℕ) → Told (IsDivisor text) (IsDenominatorFault text) (denominator_at text)
unfolding denominator_at
denominator_told text =
    told_bind (IsLiteral text) (IsLiteralFault text) (IsDivisor text) (IsDenominatorFault text) (literal_at text) _ (literal_told text) (λ d h.
    told_if (IsDivisor text) (IsDenominatorFault text) (d.0 == 0) (Err (stop Number (after_blanks text))) (Ok d)
    (λ e. wrong d.0 d.1 h.0 (inl (grind (arith, nat_tests, e)))) (λ e. (h.0, grind (arith, nat_tests, e), h.1))) from_literal
  where
    from_literal : (s : Stop) → IsLiteralFault text s → IsDenominatorFault text s
    from_literal s (no_digit out) = no_digits out
    from_literal s (past n rest number high) = wrong n rest number (inr high)

abbrev IsUnder : List ℕ → ℕ × List ℕ → Type 0
IsUnder text d = IsDenominator text d.0 d.1

abbrev IsUnderFault : List ℕ → Stop → Type 0
IsUnderFault text s = (front : List ℕ) × IsSign 47 text front × IsDenominatorFault front s

under_told : (text : List ℕ) → Told (IsUnder text) (IsUnderFault text) (under_at text)
unfolding under_at
under_told text = go (after_blanks text) refl
  where
    bare : IsNot 47 (after_blanks text) → IsDenominator text 1 text
    bare not = inl (refl, refl, not)

    slashed : (cs : List ℕ) → IsSign 47 text cs → Told (IsUnder text) (IsUnderFault text) (denominator_at cs)
    slashed cs sign = told_map (IsDivisor cs) (IsDenominatorFault cs) (IsUnder text) (IsUnderFault text) (denominator_at cs) (denominator_told cs) (λ d h. inr (cs, sign, h.0, h.1, h.2)) (λ s f. (cs, sign, f))

    by_test : (c : ℕ) (cs : List ℕ) → after_blanks text ≡ c ∷ cs → ((ds : List ℕ) → IsSign 47 text ds → Told (IsUnder text) (IsUnderFault text) (denominator_at ds)) → (IsNot 47 (after_blanks text) → IsDenominator text 1 text)
        → Told (IsUnder text) (IsUnderFault text) (if c == 47 then denominator_at cs else Ok (1, text))
    by_test c cs at k l = told_if (IsUnder text) (IsUnderFault text) (c == 47) (denominator_at cs) (Ok (1, text))
        (λ e. (let is : c ≡ 47 = grind (arith, nat_tests, e) in k cs (blanks_to text (47 ∷ cs) (at ∙ ap (λ b. b ∷ cs) is))))
        (λ e. l (subst (IsNot 47) (sym at) e))

    go : (bs : List ℕ) → after_blanks text ≡ bs → Told (IsUnder text) (IsUnderFault text) (under_by text bs)
    go [] at = bare (subst (IsNot 47) (sym at) tt)
    go (c ∷ cs) at = by_test c cs at slashed bare

abbrev IsFractionStar : List ℕ → (ℕ × ℕ) × List ℕ → Type 0
IsFractionStar text c = (behind : List ℕ) × IsFraction text c.0.0 c.0.1 behind × IsSign 42 behind c.1

fraction_told : (names text : List ℕ) → BeginsDigit (after_blanks text) → Told (IsFractionStar text) (IsFieldTermFault names text) (fraction_at text)
unfolding fraction_at
fraction_told names text digit =
    told_bind (IsLiteral text) (IsLiteralFault text) (IsFractionStar text) (IsFieldTermFault names text) (literal_at text) _ (literal_told text) (λ n h.
    told_bind (IsUnder n.1) (IsUnderFault n.1) (IsFractionStar text) (IsFieldTermFault names text) (under_at n.1) _ (under_told n.1) (λ d k.
    let fraction : IsFraction text n.0 d.0 d.1 = record { behind = n.1; number = h.0; small = h.1; under = k } in
    told_bind (IsSign 42 d.1) (HasNoStar d.1) (IsFractionStar text) (IsFieldTermFault names text) (star_at d.1) _ (star_told d.1) (λ rest l. (d.1, fraction, l))
    (λ s f. subst (IsFieldTermFault names text) f.1 (no_star n.0 d.0 d.1 fraction f.0)))
    (λ s f. from_under n.0 n.1 h.0 h.1 f.0 s f.1 f.2)) from_literal
  where
    from_literal : (s : Stop) → IsLiteralFault text s → IsFieldTermFault names text s
    from_literal s (no_digit out) = absurd (digit_clash (after_blanks text) digit out)
    from_literal s (past n rest number high) = large_number n rest number high

    from_under : (n : ℕ) (behind : List ℕ) → IsNumber text n behind → n < 2 ^ 127 → (front : List ℕ) (s : Stop) → IsSign 47 behind front → IsDenominatorFault front s → IsFieldTermFault names text s
    from_under n behind number small front s sign (no_digits out) = no_denominator n behind front number small sign out
    from_under n behind number small front s sign (wrong d rest under out) = wrong_denominator n behind front d rest number small sign under out

abbrev pub IsCoefficientRead : List ℕ → (ℕ × ℕ) × List ℕ → Type 0
IsCoefficientRead text c = IsCoefficient text c.0.0 c.0.1 c.1

pub coefficient_told : (names text : List ℕ) → Told (IsCoefficientRead text) (IsFieldTermFault names text) (coefficient_at text)
unfolding coefficient_at
coefficient_told names text = go (after_blanks text) refl
  where
    bare : BeginsOutside Digit (after_blanks text) → IsCoefficient text 1 1 text
    bare out = inr (refl, refl, refl, out)

    starred : BeginsDigit (after_blanks text) → Told (IsCoefficientRead text) (IsFieldTermFault names text) (fraction_at text)
    starred digit =
        told_map (IsFractionStar text) (IsFieldTermFault names text) (IsCoefficientRead text) (IsFieldTermFault names text) (fraction_at text) (fraction_told names text digit) (λ c h. inl h) (λ s f. f)

    by_test : (c : ℕ) (cs : List ℕ) → after_blanks text ≡ c ∷ cs → (BeginsDigit (after_blanks text) → Told (IsCoefficientRead text) (IsFieldTermFault names text) (fraction_at text))
        → (BeginsOutside Digit (after_blanks text) → IsCoefficient text 1 1 text) → Told (IsCoefficientRead text) (IsFieldTermFault names text) (if is_in Digit c then fraction_at text else Ok ((1, 1), text))
    by_test c cs at k l = told_if (IsCoefficientRead text) (IsFieldTermFault names text) (is_in Digit c) (fraction_at text) (Ok ((1, 1), text))
        (λ e. k (subst BeginsDigit (sym at) e)) (λ e. l (subst (BeginsOutside Digit) (sym at) e))

    go : (bs : List ℕ) → after_blanks text ≡ bs → Told (IsCoefficientRead text) (IsFieldTermFault names text) (coefficient_by text bs)
    go [] at = bare (subst (BeginsOutside Digit) (sym at) tt)
    go (c ∷ cs) at = by_test c cs at starred bare

-- ---- names
pub record IsNameAt (names text : List ℕ) (v : ℕ × List ℕ) : Type 0 where
  pub letter : ℕ
  pub spelled : text ≡ letter ∷ v.1
  pub is_letter : is_in Letter letter ≡ true
  pub ended : BeginsOutside Letter v.1
  pub named : place_of names letter ≡ Some v.0

pub data IsNameFault (names whole text : List ℕ) : Stop → Type 0 where
  nothing : BeginsOutside Letter text → IsNameFault names whole text (stop Syntax text)
  unknown : (word rest : List ℕ) → text ≡ word ++ rest → IsLetters word → BeginsOutside Letter rest → (IsName names word → ⊥) → IsNameFault names whole text (stop UnknownName whole)

name_told : (names whole text : List ℕ) → Told (IsNameAt names text) (IsNameFault names whole text) (name_at names whole text)
unfolding name_at
name_told names whole text =
    told_if (IsNameAt names text) (IsNameFault names whole text) (length (run Letter text) == 0) (Err (stop Syntax text)) (place_by (place_of_word names (run Letter text)) whole (behind Letter text))
    (λ e. nothing (no_run text e)) (λ e. go (grind (arith, nat_tests, e)) (place_of_word names (run Letter text)) refl)
  where
    go : 1 ≤ length (run Letter text) → (o : Option ℕ) → place_of_word names (run Letter text) ≡ o → Told (IsNameAt names text) (IsNameFault names whole text) (place_by o whole (behind Letter text))
    go some None none = unknown (run Letter text) (behind Letter text) (run_is Letter text) (record { are = run_in Letter text; some = some }) (behind_outside Letter text) (unnamed-is names (run Letter text) none)
    go some (Some i) is =
        let n = place_word-is names (run Letter text) i is in
        let first = subst (AreIn Letter) n.1 (run_in Letter text) in
        record { letter = n.0; spelled = run_is Letter text ∙ ap (λ w. w ++ behind Letter text) n.1; is_letter = first.0; ended = behind_outside Letter text; named = n.2 }

-- ---- exponents
pub data IsExponentFault (text back : List ℕ) : Stop → Type 0 where
  bare_hat : (front : List ℕ) → IsSign 94 back front → BeginsOutside Digit (after_blanks front) → IsExponentFault text back (stop Syntax (after_blanks front))
  out_of_range : (front : List ℕ) (e : ℕ) (rest : List ℕ) → IsSign 94 back front → IsNumber front e rest → ((e ≡ 0) ⊎ (33 ≤ e)) → IsExponentFault text back (stop Exponent text)

abbrev IsExponentRead : List ℕ → ℕ × List ℕ → Type 0
IsExponentRead back e = IsExponentAt back e.0 e.1

exponent_fails : (text back : List ℕ) (s : Stop) → exponent_at text back ≡ Err s → IsExponentFault text back s
unfolding exponent_at
exponent_fails text back s h = go (after_blanks back) refl h
  where
    raised_by : (cs : List ℕ) → after_blanks back ≡ 94 ∷ cs → (digits_at cs >>= λ d. exponent_value (value_of d.0) text d.1) ≡ Err s → IsExponentFault text back s
    raised_by cs at e =
        let sign : IsSign 94 back cs = blanks_to back (94 ∷ cs) at in
        bind_fails (digits_at cs) (λ d. exponent_value (value_of d.0) text d.1) s e
        (λ none. let f = digits_at-fails cs s none in subst (IsExponentFault text back) f.1 (bare_hat cs sign f.0))
        (λ d is_d wrong. let f = value_fails cs d.0 d.1 text d.1 s (digits_at-is cs d is_d) wrong in subst (IsExponentFault text back) f.3 (out_of_range cs f.0 d.1 sign f.1 f.2))

    by_test : (b : ℕ) (cs : List ℕ) (t : Bool) → after_blanks back ≡ b ∷ cs → (b == 94) ≡ t → (if t then (digits_at cs >>= λ d. exponent_value (value_of d.0) text d.1) else Ok (1, back)) ≡ Err s
        → ((cs : List ℕ) → after_blanks back ≡ 94 ∷ cs → (digits_at cs >>= λ d. exponent_value (value_of d.0) text d.1) ≡ Err s → IsExponentFault text back s) → IsExponentFault text back s
    by_test b cs true at test e k = let is : b ≡ 94 = grind (arith, nat_tests, test) in k cs (at ∙ ap (λ x. x ∷ cs) is) e
    by_test b cs false at test e k = cc

    go : (bs : List ℕ) → after_blanks back ≡ bs → exponent_by text back bs ≡ Err s → IsExponentFault text back s
    go [] at e = cc
    go (b ∷ cs) at e = by_test b cs (b == 94) at refl e raised_by

exponent_told : (text back : List ℕ) → Told (IsExponentRead back) (IsExponentFault text back) (exponent_at text back)
exponent_told text back = told_by (IsExponentRead back) (IsExponentFault text back) (exponent_at text back) (exponent_at-is text back) (exponent_fails text back)

-- ---- one factor
pub data IsStep (names : List ℕ) (m : Monomial) (text : List ℕ) : Turn Monomial ((ℕ × Monomial) × List ℕ) → Type 0 where
  by_power : (p : ℕ × ℕ) (behind front : List ℕ) → IsVariablePower names text p behind → IsSign 42 behind front → exponent (m · power_of p.0 p.1) p.0 ≤ 32 → IsStep names m text (goes_on (m · power_of p.0 p.1) front)
  by_base : (place : ℕ) (rest : List ℕ) → IsBaseVector names text place rest → IsStep names m text (ends ((place, m), rest))

pub data IsStepFault (names : List ℕ) (m : Monomial) (text : List ℕ) : Stop → Type 0 where
  at_factor : (s : Stop) → IsFactorFault names text s → IsStepFault names m text s
  too_high : (p : ℕ × ℕ) (rest : List ℕ) → IsVariablePower names text p rest → 33 ≤ exponent (m · power_of p.0 p.1) p.0 → IsStepFault names m text (stop Exponent (after_blanks text))
  unstarred : (p : ℕ × ℕ) (rest : List ℕ) → IsVariablePower names text p rest → exponent (m · power_of p.0 p.1) p.0 ≤ 32 → IsNot 42 (after_blanks rest) → IsStepFault names m text (stop Syntax (after_blanks rest))

begins_says : (bs : List ℕ) → begins_base bs ≡ true → bs ≡ 100 ∷ 95 ∷ drop 2 bs
begins_says [] e = cc
begins_says (b ∷ []) e = cc
begins_says (b ∷ c ∷ bs) e =
    let tests = and_true (b == 100) (c == 95) e in
    let d : b ≡ 100 = grind (arith, nat_tests, tests.0) in
    let line : c ≡ 95 = grind (arith, nat_tests, tests.1) in
    ap (λ x. x ∷ c ∷ bs) d ∙ ap (λ x. 100 ∷ x ∷ bs) line

module _ (names : List ℕ) (m : Monomial) (text : List ℕ) where
  abbrev Stepped : Result (Turn Monomial ((ℕ × Monomial) × List ℕ)) Stop → Type 0
  Stepped r = Told (IsStep names m text) (IsStepFault names m text) r

  base_told : begins_base (after_blanks text) ≡ true → Stepped (name_at names (after_blanks text) (drop 2 (after_blanks text)) >>= λ v. Ok (ends ((v.0, m), v.1)))
  base_told e =
      let t = after_blanks text in
      let spelled = begins_says t e in
      told_bind (IsNameAt names (drop 2 t)) (IsNameFault names t (drop 2 t)) (IsStep names m text) (IsStepFault names m text) (name_at names t (drop 2 t)) _ (name_told names t (drop 2 t)) (λ v n.
      by_base v.0 v.1 (record { letter = n.letter; front = blanks_to text (100 ∷ 95 ∷ n.letter ∷ v.1) (spelled ∙ ap (λ l. 100 ∷ 95 ∷ l) n.spelled); is_letter = n.is_letter; ended = n.ended; named = n.named }))
      (λ s f. at_factor s (from_name spelled s f))
    where
      from_name : after_blanks text ≡ 100 ∷ 95 ∷ drop 2 (after_blanks text) → (s : Stop) → IsNameFault names (after_blanks text) (drop 2 (after_blanks text)) s → IsFactorFault names text s
      from_name spelled s (nothing out) = no_name (drop 2 (after_blanks text)) (blanks_to text (100 ∷ 95 ∷ drop 2 (after_blanks text)) spelled) out
      from_name spelled s (unknown word rest is letters ended not) =
          unknown_base word rest (blanks_to text (100 ∷ 95 ∷ (word ++ rest)) (spelled ∙ ap (λ l. 100 ∷ 95 ∷ l) is)) letters ended not

  abbrev IsRaised : ℕ × ℕ → Monomial → Type 0
  IsRaised p k = (m · power_of p.0 p.1 ≡ k) × (exponent (m · power_of p.0 p.1) p.0 ≤ 32)

  abbrev IsTooHigh : ℕ × ℕ → List ℕ → Stop → Type 0
  IsTooHigh p t s = (33 ≤ exponent (m · power_of p.0 p.1) p.0) × (stop Exponent t ≡ s)

  raised_told : (p : ℕ × ℕ) (t : List ℕ) → Told (IsRaised p) (IsTooHigh p t) (raised m p t)
  raised_told p t = told_if (IsRaised p) (IsTooHigh p t) (nat_lt 32 (exponent (m · power_of p.0 p.1) p.0)) (Err (stop Exponent t)) (Ok (m · power_of p.0 p.1))
      (λ e. (grind (arith, nat_tests, e), refl)) (λ e. (refl, grind (arith, nat_tests, e)))

  abbrev IsPowerStep : Monomial × List ℕ → Type 0
  IsPowerStep x = IsStep names m text (goes_on x.0 x.1)

  power_told : begins_base (after_blanks text) ≡ false → Told IsPowerStep (IsStepFault names m text) (variable_power_at names m (after_blanks text))
  unfolding variable_power_at
  power_told e =
      let t = after_blanks text in
      told_bind (IsNameAt names t) (IsNameFault names t t) IsPowerStep (IsStepFault names m text) (name_at names t t) _ (name_told names t t) (λ v n.
      let variable : IsVariable names text v.0 v.1 = record {
        letter = n.letter;
        front = blanks_to text (n.letter ∷ v.1) n.spelled;
        no_base = subst (λ l. begins_base l ≡ false) n.spelled e;
        is_letter = n.is_letter;
        ended = n.ended;
        named = n.named;
      } in
      told_bind (IsExponentRead v.1) (IsExponentFault t v.1) IsPowerStep (IsStepFault names m text) (exponent_at t v.1) _ (exponent_told t v.1) (λ x k.
      let p : ℕ × ℕ = (v.0, x.0) in
      let power : IsVariablePower names text p x.1 = (v.1, variable, k) in
      told_bind (IsRaised p) (IsTooHigh p t) IsPowerStep (IsStepFault names m text) (raised m p t) _ (raised_told p t) (λ y r.
      told_bind (IsSign 42 x.1) (HasNoStar x.1) IsPowerStep (IsStepFault names m text) (star_at x.1) _ (star_told x.1)
      (λ rest sign. subst (λ z. IsStep names m text (goes_on z rest)) r.0 (by_power p x.1 rest power sign r.1))
      (λ s f. subst (IsStepFault names m text) f.1 (unstarred p x.1 power r.1 f.0)))
      (λ s f. subst (IsStepFault names m text) f.1 (too_high p x.1 power f.0)))
      (λ s f. at_factor s (from_exponent v.0 v.1 variable s f)))
      (λ s f. at_factor s (from_name e s f))
    where
      from_name : begins_base (after_blanks text) ≡ false → (s : Stop) → IsNameFault names (after_blanks text) (after_blanks text) s → IsFactorFault names text s
      from_name e s (nothing out) = no_letter out
      from_name e s (unknown word rest is letters ended not) = unknown_variable word rest (blanks_to text (word ++ rest) is) (subst (λ l. begins_base l ≡ false) is e) letters ended not

      from_exponent : (place : ℕ) (back : List ℕ) → IsVariable names text place back → (s : Stop) → IsExponentFault (after_blanks text) back s → IsFactorFault names text s
      from_exponent place back variable s (bare_hat front sign out) = no_exponent place back front variable sign out
      from_exponent place back variable s (out_of_range front x rest sign number out) = wrong_exponent place back front x rest variable sign number out

  pub factor_told : Stepped (factor_turn names m text)
  factor_told =
      told_if (IsStep names m text) (IsStepFault names m text) (begins_base (after_blanks text)) _ _ base_told (λ e.
      told_bind IsPowerStep (IsStepFault names m text) (IsStep names m text) (IsStepFault names m text) (variable_power_at names m (after_blanks text)) _ (power_told e) (λ x h. h) (λ s f. f))
