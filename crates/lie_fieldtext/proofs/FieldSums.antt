-- The terms and sums of field texts: what is read is of the grammar, and what stops the reader is the first fault.
use Rattle.std.specs.Prelude.{ℕ, zero, suc, ◌≡◌, ◌<◌, ◌≤◌, Bool, true, false, ◌==◌, List, [], ◌∷◌, ◌++◌, length, if◌then◌else◌, Some, None, Ok, Err, refl}
use Rattle.std.specs.declared.result.Result.{Result}
use Rattle.std.proofs.Common.{append_assoc, sym, ap, ◌∙◌, subst, inl, inr, arith}
use Rattle.std.proofs.lemmas.Bool.Decides.{nat_tests}
use Rattle.std.proofs.lemmas.List.{append-nil, nil_from_length}
use Rattle.lie_math.specs.Monomial.{Monomial, power_of, unit, ◌·◌}
use Rattle.lie_scan.specs.declared.fault.BadKind.TheVariants.{Syntax, Number}
use Rattle.lie_scan.specs.declared.stop.Stop.{Stop}
use Rattle.lie_fieldtext.specs.declared.field_term.FieldTerm.{FieldTerm}
use Rattle.lie_system.specs.Exponents.{HasSmallExponents}
use Rattle.lie_scan.specs.Runs.{after_blanks}
use Rattle.lie_scan.specs.Stops.{stop, ◌>>=◌}
use Rattle.lie_scan.specs.Meaning.{product}
use Rattle.lie_scan.specs.Turns.{Turn, goes_on, ends, after, turns, all_turns}
use Rattle.lie_scan.specs.TokenGrammar.{IsNot, IsSign, AreBlanks}
use Rattle.lie_scan.specs.SumGrammar.{sign_of, IsFirstSign}
use Rattle.lie_fieldtext.specs.FieldMeaning.{HaveSmallSums}
use Rattle.lie_fieldtext.specs.FieldGrammar.{IsBaseVector, AreVariablePowers, IsFieldTermFront, IsFieldTerm, AreFieldTerms, IsFieldSum, IsZeroText, HasFieldTerms}
use Rattle.lie_fieldtext.specs.FieldFaults.{IsFieldTermFault, in_factor, high_exponent, no_further, IsFieldTermNext, first_term, further_term, IsFieldSumFault, in_term, past_limits, further_token}
use Rattle.lie_fieldtext.specs.FieldReading.{coefficient_at, factor_turn, factors_at, field_term_at, are_within, put_by, signed_at, term_by, term_turn, sign_by, first_sign_at, sum_of, zero_by, is_zero, terms_of}
use Rattle.lie_scan.proofs.Blanks.{blanks_to, blanks_only, only_blanks, after_outside}
use Rattle.lie_scan.proofs.ExponentSteps.{unit_small, raised_small}
use Rattle.lie_scan.proofs.TurnSteps.{TurnWithin}
use Rattle.lie_fieldtext.proofs.FieldShorter.{factor_turn_takes, term_turn_takes}
use Rattle.lie_fieldtext.proofs.FieldSizes.{within-is, is-within, nothing_within}
use Rattle.lie_fieldtext.proofs.FieldTold.{Told, told_bind, told_if, told_map, IsCoefficientRead, coefficient_told, IsStep, by_power, by_base, IsStepFault, at_factor, too_high, unstarred, factor_told}

-- what a turn gives, with the turn itself
turn_bind : {A B : Type 0} (P : A → Type 0) (F : Stop → Type 0) (Q : B → Type 0) (G : Stop → Type 0) (r : Result A Stop) (f : A → Result B Stop) → Told P F r → ((x : A) → r ≡ Ok x → P x → Told Q G (f x)) → ((s : Stop) → F s → G s) → Told Q G (r >>= f)
turn_bind P F Q G (Ok x) f h k l = k x refl h
turn_bind P F Q G (Err s) f h k l = l s h

-- ---- factors
pub record AreFactorsTold (names : List ℕ) (m : Monomial) (text : List ℕ) (x : (ℕ × Monomial) × List ℕ) : Type 0 where
  pub powers : List (ℕ × ℕ)
  pub back : List ℕ
  pub are : AreVariablePowers names text powers back
  pub base : IsBaseVector names back x.0.0 x.1
  pub means : x.0.1 ≡ product m powers
  pub small : HasSmallExponents (product m powers)

pub record IsFactorsFault (names : List ℕ) (m : Monomial) (text : List ℕ) (s : Stop) : Type 0 where
  pub powers : List (ℕ × ℕ)
  pub front : List ℕ
  pub are : AreVariablePowers names text powers front
  pub small : HasSmallExponents (product m powers)
  pub fault : IsStepFault names (product m powers) front s

module _ (names : List ℕ) where
  factor_step : (n : ℕ) (m : Monomial) (text : List ℕ) → HasSmallExponents m
      → ((k : Monomial) (rest : List ℕ) → length rest < length text → HasSmallExponents k → Told (AreFactorsTold names k rest) (IsFactorsFault names k rest) (turns (factor_turn names) n k rest))
      → (t : Turn Monomial ((ℕ × Monomial) × List ℕ)) → factor_turn names m text ≡ Ok t → IsStep names m text t → Told (AreFactorsTold names m text) (IsFactorsFault names m text) (after (turns (factor_turn names) n) t)
  factor_step n m text small again (goes_on k rest) is (by_power p behind front power sign low) =
      let less : length front < length text = subst (TurnWithin (length text)) is (factor_turn_takes names m text) in
      told_map (AreFactorsTold names (m · power_of p.0 p.1) front) (IsFactorsFault names (m · power_of p.0 p.1) front) (AreFactorsTold names m text) (IsFactorsFault names m text)
      (turns (factor_turn names) n (m · power_of p.0 p.1) front) (again (m · power_of p.0 p.1) front less (raised_small m p.0 p.1 small low))
      (λ x h. record { powers = p ∷ h.powers; back = h.back; are = (behind, front, power, sign, h.are); base = h.base; means = h.means; small = h.small })
      (λ s f. record { powers = p ∷ f.powers; front = f.front; are = (behind, front, power, sign, f.are); small = f.small; fault = f.fault })
  factor_step n m text small again (ends r) is (by_base place rest base) = record { powers = []; back = text; are = refl; base = base; means = refl; small = small }

  factor_turns_told : (n : ℕ) (m : Monomial) (text : List ℕ) → length text < n → HasSmallExponents m → Told (AreFactorsTold names m text) (IsFactorsFault names m text) (turns (factor_turn names) n m text)
  factor_turns_told zero m text less small = absurd (omega arith)
  factor_turns_told (suc n) m text less small =
      turn_bind (IsStep names m text) (IsStepFault names m text) (AreFactorsTold names m text) (IsFactorsFault names m text) (factor_turn names m text) (after (turns (factor_turn names) n)) (factor_told names m text)
      (factor_step n m text small (λ k rest shorter. factor_turns_told n k rest (omega arith)))
      (λ s f. record { powers = []; front = text; are = refl; small = small; fault = f })

  factors_told : (m : Monomial) (text : List ℕ) → HasSmallExponents m → Told (AreFactorsTold names m text) (IsFactorsFault names m text) (factors_at names m text)
  unfolding all_turns
  factors_told m text small = factor_turns_told (suc (length text)) m text (omega arith) small

-- ---- terms
abbrev pub IsTermRead : List ℕ → Bool → List ℕ → FieldTerm × List ℕ → Type 0
IsTermRead names negative text x = IsFieldTerm names text negative x.0 x.1

field_term_told : (names : List ℕ) (negative : Bool) (text : List ℕ) → Told (IsTermRead names negative text) (IsFieldTermFault names text) (field_term_at names negative text)
unfolding field_term_at
field_term_told names negative text =
    told_bind (IsCoefficientRead text) (IsFieldTermFault names text) (IsTermRead names negative text) (IsFieldTermFault names text) (coefficient_at text) _ (coefficient_told names text) (λ c h.
    told_bind (AreFactorsTold names unit c.1) (IsFactorsFault names unit c.1) (IsTermRead names negative text) (IsFieldTermFault names text) (factors_at names unit c.1) _ (factors_told names unit c.1 unit_small) (λ x f. record {
      numerator = c.0.0;
      denominator = c.0.1;
      powers = f.powers;
      behind = f.back;
      front = record { behind = c.1; coefficient = h; are = f.are; small = f.small };
      base = f.base;
      monomial = f.means;
      number = refl;
      over = refl;
    }) (λ s f. by_case c.0.0 c.0.1 f.powers f.front s (record { behind = c.1; coefficient = h; are = f.are; small = f.small }) f.fault)) (λ s f. f)
  where
    by_case : (n d : ℕ) (powers : List (ℕ × ℕ)) (front : List ℕ) (s : Stop) → IsFieldTermFront names text n d powers front → IsStepFault names (product unit powers) front s → IsFieldTermFault names text s
    by_case n d powers front s begins (at_factor r fault) = in_factor n d powers front r begins fault
    by_case n d powers front s begins (too_high p rest power high) = high_exponent n d powers front p rest begins power high
    by_case n d powers front s begins (unstarred p rest power low not) = no_further n d powers front p rest begins power (raised_small (product unit powers) p.0 p.1 begins.small low) not

pub data IsSignedFault (names : List ℕ) (negative : Bool) (ts : List FieldTerm) (text : List ℕ) : Stop → Type 0 where
  faulty : (s : Stop) → IsFieldTermFault names text s → IsSignedFault names negative ts text s
  too_large : (t : FieldTerm) (rest : List ℕ) → IsFieldTerm names text negative t rest → (HaveSmallSums (ts ++ t ∷ []) → ⊥) → IsSignedFault names negative ts text (stop Number (after_blanks text))

pub record IsSignedRead (names : List ℕ) (negative : Bool) (ts : List FieldTerm) (text : List ℕ) (x : List FieldTerm × List ℕ) : Type 0 where
  pub term : FieldTerm
  pub is : IsFieldTerm names text negative term x.1
  pub put : x.0 ≡ ts ++ term ∷ []
  pub within : HaveSmallSums (ts ++ term ∷ [])

pub signed_told : (names : List ℕ) (negative : Bool) (ts : List FieldTerm) (text : List ℕ) → Told (IsSignedRead names negative ts text) (IsSignedFault names negative ts text) (signed_at names negative ts text)
unfolding signed_at
signed_told names negative ts text =
    told_bind (IsTermRead names negative text) (IsFieldTermFault names text) (IsSignedRead names negative ts text) (IsSignedFault names negative ts text) (field_term_at names negative text) _ (field_term_told names negative text)
    (λ t h. go t h (are_within (ts ++ t.0 ∷ [])) refl) (λ s f. faulty s f)
  where
    past : (us : List FieldTerm) → are_within us ≡ false → HaveSmallSums us → ⊥
    past us out within = clash (sym (is-within us within) ∙ out)
      where
        clash : true ≡ false → ⊥
        clash e = cc

    go : (t : FieldTerm × List ℕ) → IsFieldTerm names text negative t.0 t.1 → (b : Bool) → are_within (ts ++ t.0 ∷ []) ≡ b
        → Told (IsSignedRead names negative ts text) (IsSignedFault names negative ts text) (put_by (if b then Some (ts ++ t.0 ∷ []) else None) (after_blanks text) t.1)
    go t h true e = record { term = t.0; is = h; put = refl; within = within-is (ts ++ t.0 ∷ []) e }
    go t h false e = too_large t.0 t.1 h (past (ts ++ t.0 ∷ []) e)

-- ---- further terms
pub record AreTermsTold (names : List ℕ) (ts : List FieldTerm) (text : List ℕ) (us : List FieldTerm) : Type 0 where
  pub terms : List FieldTerm
  pub rest : List ℕ
  pub are : AreFieldTerms names text terms rest
  pub blank : AreBlanks rest
  pub all : us ≡ ts ++ terms
  pub within : HaveSmallSums us

pub data IsTermsFault (names : List ℕ) (ts : List FieldTerm) (text : List ℕ) : Stop → Type 0 where
  in_signed : (terms : List FieldTerm) (negative : Bool) (back front : List ℕ) (s : Stop) → AreFieldTerms names text terms back → IsSign (sign_of negative) back front → HaveSmallSums (ts ++ terms)
      → IsSignedFault names negative (ts ++ terms) front s → IsTermsFault names ts text s
  no_sign : (terms : List FieldTerm) (rest : List ℕ) → AreFieldTerms names text terms rest → HaveSmallSums (ts ++ terms) → IsNot 43 (after_blanks rest) → IsNot 45 (after_blanks rest) → 1 ≤ length (after_blanks rest)
      → IsTermsFault names ts text (stop Syntax (after_blanks rest))

-- one turn: a signed term, or the end
data IsTermStep (names : List ℕ) (ts : List FieldTerm) (text : List ℕ) : Turn (List FieldTerm) (List FieldTerm) → Type 0 where
  by_sign : (negative : Bool) (front : List ℕ) (t : FieldTerm) (rest : List ℕ) → IsSign (sign_of negative) text front → IsFieldTerm names front negative t rest → HaveSmallSums (ts ++ t ∷ []) → IsTermStep names ts text (goes_on (ts ++ t ∷ []) rest)
  by_end : AreBlanks text → IsTermStep names ts text (ends ts)

data IsTermStepFault (names : List ℕ) (ts : List FieldTerm) (text : List ℕ) : Stop → Type 0 where
  signed_fault : (negative : Bool) (front : List ℕ) (s : Stop) → IsSign (sign_of negative) text front → IsSignedFault names negative ts front s → IsTermStepFault names ts text s
  token_fault : IsNot 43 (after_blanks text) → IsNot 45 (after_blanks text) → 1 ≤ length (after_blanks text) → IsTermStepFault names ts text (stop Syntax (after_blanks text))

module _ (names : List ℕ) where
  step_told : (ts : List FieldTerm) (text : List ℕ) → Told (IsTermStep names ts text) (IsTermStepFault names ts text) (term_turn names ts text)
  step_told ts text = go (after_blanks text) refl
    where
      signed : (negative : Bool) (c : ℕ) (cs : List ℕ) → after_blanks text ≡ c ∷ cs → c ≡ sign_of negative
          → Told (IsTermStep names ts text) (IsTermStepFault names ts text) (signed_at names negative ts cs >>= λ x. Ok (goes_on x.0 x.1))
      signed negative c cs at is =
          let sign : IsSign (sign_of negative) text cs = blanks_to text (sign_of negative ∷ cs) (at ∙ ap (λ b. b ∷ cs) is) in
          told_bind (IsSignedRead names negative ts cs) (IsSignedFault names negative ts cs) (IsTermStep names ts text) (IsTermStepFault names ts text) (signed_at names negative ts cs) _ (signed_told names negative ts cs)
          (λ x h. subst (λ us. IsTermStep names ts text (goes_on us x.1)) (sym h.put) (by_sign negative cs h.term x.1 sign h.is h.within)) (λ s f. signed_fault negative cs s sign f)

      by_tests : (c : ℕ) (cs : List ℕ) → after_blanks text ≡ c ∷ cs
          → ((negative : Bool) (c : ℕ) (cs : List ℕ) → after_blanks text ≡ c ∷ cs → c ≡ sign_of negative → Told (IsTermStep names ts text) (IsTermStepFault names ts text) (signed_at names negative ts cs >>= λ x. Ok (goes_on x.0 x.1)))
          → Told (IsTermStep names ts text) (IsTermStepFault names ts text) (term_by names ts (c ∷ cs))
      by_tests c cs at k =
          told_if (IsTermStep names ts text) (IsTermStepFault names ts text) (c == 43) _ _ (λ e. k false c cs at (grind (arith, nat_tests, e))) (λ p.
          told_if (IsTermStep names ts text) (IsTermStepFault names ts text) (c == 45) _ _ (λ e. k true c cs at (grind (arith, nat_tests, e))) (λ q.
          subst (λ bs. IsTermStepFault names ts text (stop Syntax bs)) at
          (token_fault (subst (IsNot 43) (sym at) p) (subst (IsNot 45) (sym at) q) (let one : 1 ≤ length (c ∷ cs) = omega arith in subst (λ bs. 1 ≤ length bs) (sym at) one))))

      go : (bs : List ℕ) → after_blanks text ≡ bs → Told (IsTermStep names ts text) (IsTermStepFault names ts text) (term_by names ts bs)
      go [] at = by_end (blanks_only text at)
      go (c ∷ cs) at = by_tests c cs at signed

  term_step : (n : ℕ) (ts : List FieldTerm) (text : List ℕ) → HaveSmallSums ts
      → ((us : List FieldTerm) (rest : List ℕ) → length rest < length text → HaveSmallSums us → Told (AreTermsTold names us rest) (IsTermsFault names us rest) (turns (term_turn names) n us rest))
      → (t : Turn (List FieldTerm) (List FieldTerm)) → term_turn names ts text ≡ Ok t → IsTermStep names ts text t → Told (AreTermsTold names ts text) (IsTermsFault names ts text) (after (turns (term_turn names) n) t)
  term_step n ts text within again (goes_on us rest) is (by_sign negative front t behind sign term more) =
      let less : length behind < length text = subst (TurnWithin (length text)) is (term_turn_takes names ts text) in
      told_map (AreTermsTold names (ts ++ t ∷ []) behind) (IsTermsFault names (ts ++ t ∷ []) behind) (AreTermsTold names ts text) (IsTermsFault names ts text)
      (turns (term_turn names) n (ts ++ t ∷ []) behind) (again (ts ++ t ∷ []) behind less more)
      (λ us h. record { terms = t ∷ h.terms; rest = h.rest; are = (negative, front, behind, sign, term, h.are); blank = h.blank; all = h.all ∙ append_assoc ts (t ∷ []) h.terms; within = h.within })
      (λ s f. later s f)
    where
      later : (s : Stop) → IsTermsFault names (ts ++ t ∷ []) behind s → IsTermsFault names ts text s
      later s (in_signed terms other back begin r are mark low fault) =
          in_signed (t ∷ terms) other back begin r (negative, front, behind, sign, term, are) mark (subst HaveSmallSums (append_assoc ts (t ∷ []) terms) low)
          (subst (λ us. IsSignedFault names other us begin r) (append_assoc ts (t ∷ []) terms) fault)
      later s (no_sign terms last are low plus minus some) =
          no_sign (t ∷ terms) last (negative, front, behind, sign, term, are) (subst HaveSmallSums (append_assoc ts (t ∷ []) terms) low) plus minus some
  term_step n ts text within again (ends us) is (by_end blank) = record { terms = []; rest = text; are = refl; blank = blank; all = sym (append-nil ts); within = within }

  first_fault : (ts : List FieldTerm) (text : List ℕ) → HaveSmallSums ts → (s : Stop) → IsTermStepFault names ts text s → IsTermsFault names ts text s
  first_fault ts text within s (signed_fault negative front r sign fault) =
      in_signed [] negative text front r refl sign (subst HaveSmallSums (sym (append-nil ts)) within) (subst (λ us. IsSignedFault names negative us front r) (sym (append-nil ts)) fault)
  first_fault ts text within s (token_fault plus minus some) = no_sign [] text refl (subst HaveSmallSums (sym (append-nil ts)) within) plus minus some

  term_turns_told : (n : ℕ) (ts : List FieldTerm) (text : List ℕ) → length text < n → HaveSmallSums ts → Told (AreTermsTold names ts text) (IsTermsFault names ts text) (turns (term_turn names) n ts text)
  term_turns_told zero ts text less within = absurd (omega arith)
  term_turns_told (suc n) ts text less within =
      turn_bind (IsTermStep names ts text) (IsTermStepFault names ts text) (AreTermsTold names ts text) (IsTermsFault names ts text) (term_turn names ts text) (after (turns (term_turn names) n)) (step_told ts text)
      (term_step n ts text within (λ us rest shorter. term_turns_told n us rest (omega arith))) (first_fault ts text within)

  terms_told : (ts : List FieldTerm) (text : List ℕ) → HaveSmallSums ts → Told (AreTermsTold names ts text) (IsTermsFault names ts text) (all_turns (term_turn names) ts text)
  unfolding all_turns
  terms_told ts text within = term_turns_told (suc (length text)) ts text (omega arith) within

-- ---- sums
abbrev SignedAs : List ℕ → Bool × List ℕ → Type 0
SignedAs text x = IsFirstSign text x.0 x.1

pub sign_told : (text : List ℕ) → IsFirstSign text (first_sign_at text).0 (first_sign_at text).1
unfolding first_sign_at
sign_told text = go (after_blanks text) refl
  where
    bare : IsNot 43 (after_blanks text) → IsNot 45 (after_blanks text) → IsFirstSign text false text
    bare plus minus = inr (refl, refl, plus, minus)

    signed : (negative : Bool) (c : ℕ) (cs : List ℕ) → after_blanks text ≡ c ∷ cs → c ≡ sign_of negative → IsFirstSign text negative cs
    signed negative c cs at is = inl (blanks_to text (sign_of negative ∷ cs) (at ∙ ap (λ b. b ∷ cs) is))

    by_tests : (c : ℕ) (cs : List ℕ) (m p : Bool) → after_blanks text ≡ c ∷ cs → (c == 45) ≡ m → (c == 43) ≡ p
        → ((negative : Bool) (c : ℕ) (cs : List ℕ) → after_blanks text ≡ c ∷ cs → c ≡ sign_of negative → IsFirstSign text negative cs) → (IsNot 43 (after_blanks text) → IsNot 45 (after_blanks text) → IsFirstSign text false text)
        → SignedAs text (if m then (true, cs) else if p then (false, cs) else (false, text))
    by_tests c cs true p at is_m is_p k l = k true c cs at (grind (arith, nat_tests, is_m))
    by_tests c cs false true at is_m is_p k l = k false c cs at (grind (arith, nat_tests, is_p))
    by_tests c cs false false at is_m is_p k l = l (subst (IsNot 43) (sym at) is_p) (subst (IsNot 45) (sym at) is_m)

    go : (bs : List ℕ) → after_blanks text ≡ bs → SignedAs text (sign_by text bs)
    go [] at = bare (subst (IsNot 43) (sym at) tt) (subst (IsNot 45) (sym at) tt)
    go (c ∷ cs) at = by_tests c cs (c == 45) (c == 43) at refl refl signed bare

pub record IsSumTold (names text : List ℕ) (us : List FieldTerm) : Type 0 where
  pub rest : List ℕ
  pub is : IsFieldSum names text us rest
  pub blank : AreBlanks rest
  pub within : HaveSmallSums us

from_signed : (names text : List ℕ) (negative : Bool) (terms : List FieldTerm) (front : List ℕ) (s : Stop) → IsFieldTermNext names text negative terms front → HaveSmallSums terms → IsSignedFault names negative terms front s → IsFieldSumFault names text s
from_signed names text negative terms front s next within (faulty r fault) = in_term negative terms front r next within fault
from_signed names text negative terms front s next within (too_large t rest term past) = past_limits negative terms front t rest next within term past

pub sum_told : (names text : List ℕ) → Told (IsSumTold names text) (IsFieldSumFault names text) (sum_of names text)
unfolding sum_of
sum_told names text =
    let negative = (first_sign_at text).0 in
    let front = (first_sign_at text).1 in
    let sign = sign_told text in
    told_bind (IsSignedRead names negative [] front) (IsSignedFault names negative [] front) (IsSumTold names text) (IsFieldSumFault names text) (signed_at names negative [] front) _ (signed_told names negative [] front) (λ x h.
    told_map (AreTermsTold names x.0 x.1) (IsTermsFault names x.0 x.1) (IsSumTold names text) (IsFieldSumFault names text) (all_turns (term_turn names) x.0 x.1) (terms_told names x.0 x.1 (subst HaveSmallSums (sym h.put) h.within))
    (λ us r. record {
      rest = r.rest;
      is = record { negative = negative; front = front; first = h.term; behind = x.1; further = r.terms; sign = sign; begins = h.is; goes_on = r.are; are = r.all ∙ ap (λ l. l ++ r.terms) h.put };
      blank = r.blank;
      within = r.within;
    }) (λ s f. later negative front x.1 h.term x.0 sign h.is h.put s f))
    (λ s f. from_signed names text negative [] front s (first_term negative front sign) nothing_within f)
  where
    later : (negative : Bool) (front behind : List ℕ) (t : FieldTerm) (ts : List FieldTerm) → IsFirstSign text negative front → IsFieldTerm names front negative t behind → ts ≡ t ∷ [] → (s : Stop) → IsTermsFault names ts behind s → IsFieldSumFault names text s
    later negative front behind t ts sign term put s (in_signed terms other back begin r are mark low fault) =
        let all : ts ++ terms ≡ t ∷ terms = ap (λ l. l ++ terms) put in
        from_signed names text other (t ∷ terms) begin r
        (further_term other (t ∷ terms) back begin (record { negative = negative; front = front; first = t; behind = behind; further = terms; sign = sign; begins = term; goes_on = are; are = refl }) mark)
        (subst HaveSmallSums all low) (subst (λ us. IsSignedFault names other us begin r) all fault)
    later negative front behind t ts sign term put s (no_sign terms last are low plus minus some) =
        further_token (t ∷ terms) last (record { negative = negative; front = front; first = t; behind = behind; further = terms; sign = sign; begins = term; goes_on = are; are = refl })
        (subst HaveSmallSums (ap (λ l. l ++ terms) put) low) plus minus some

-- ---- texts
pub zero-is : (text : List ℕ) → is_zero text ≡ true → IsZeroText text
zero-is text h = go (after_blanks text) refl h
  where
    by_test : (c : ℕ) (cs : List ℕ) (b : Bool) → after_blanks text ≡ c ∷ cs → (c == 48) ≡ b → (if b then length (after_blanks cs) == 0 else false) ≡ true → IsZeroText text
    by_test c cs true at is e =
        let zero : c ≡ 48 = grind (arith, nat_tests, is) in
        let none : length (after_blanks cs) ≡ 0 = grind (arith, nat_tests, e) in
        (cs, blanks_to text (48 ∷ cs) (at ∙ ap (λ b. b ∷ cs) zero), blanks_only cs (nil_from_length (after_blanks cs) none))
    by_test c cs false at is e = cc

    go : (bs : List ℕ) → after_blanks text ≡ bs → zero_by bs ≡ true → IsZeroText text
    go [] at e = cc
    go (c ∷ cs) at e = by_test c cs (c == 48) at refl e

pub is-zero : (text : List ℕ) → IsZeroText text → is_zero text ≡ true
is-zero text h =
    let at : after_blanks text ≡ 48 ∷ h.0 = after_outside text (48 ∷ h.0) h.1 refl in
    ap zero_by at ∙ ap (λ (bs : List ℕ). length bs == 0) (only_blanks h.0 h.2)

abbrev pub AreTextTerms : List ℕ → List ℕ → List FieldTerm → Type 0
AreTextTerms names text us = HasFieldTerms names text us × HaveSmallSums us

abbrev pub IsTextFault : List ℕ → List ℕ → Stop → Type 0
IsTextFault names text s = (IsZeroText text → ⊥) × IsFieldSumFault names text s

pub text_told : (names text : List ℕ) → Told (AreTextTerms names text) (IsTextFault names text) (terms_of names text)
unfolding terms_of
text_told names text =
    told_if (AreTextTerms names text) (IsTextFault names text) (is_zero text) (Ok []) (sum_of names text) (λ e. (inl (zero-is text e, refl), nothing_within)) (λ e.
    told_map (IsSumTold names text) (IsFieldSumFault names text) (AreTextTerms names text) (IsTextFault names text) (sum_of names text) (sum_told names text)
    (λ us h. (inr (h.rest, h.is, h.blank), h.within)) (λ s f. (λ z. clash (sym (is-zero text z) ∙ e), f)))
  where
    clash : true ≡ false → ⊥
    clash e = cc
