-- Faults of terms: what stops the reader is a fault of the grammar, and each such fault stops it.
use Rattle.std.specs.Prelude.{ℕ, zero, suc, ◌≡◌, ◌+◌, ◌^◌, ◌<◌, ◌≤◌, Bool, true, false, cond, ◌==◌, nat_lt, List, [], ◌∷◌, length, if◌then◌else◌, Option, Some, None, Ok, Err, refl}
use Rattle.std.specs.declared.result.Result.{Result}
use Rattle.std.specs.Str.Parse.{digits_value}
use Rattle.std.proofs.Common.{sym, ap, ◌∙◌, subst, inl, inr, arith}
use Rattle.std.proofs.lemmas.Bool.Decides.{nat_tests}
use Rattle.lie_math.specs.Monomial.{Monomial, unit, exponent, power_of, ◌·◌}
use Rattle.lie_math.proofs.Monomial.{exponent-·, exponent-power_of, same_variable}
use Rattle.lie_geometry.specs.Coordinates.{Space}
use Rattle.lie_scan.specs.declared.fault.BadKind.TheVariants.{Number, Exponent}
use Rattle.lie_scan.specs.declared.runs.Class.TheVariants.{Blank, Digit}
use Rattle.lie_scan.specs.declared.stop.Stop.{Stop}
use Rattle.lie_scan.specs.Runs.{after_blanks, is_in}
use Rattle.lie_scan.specs.Stops.{stop, ◌>>=◌}
use Rattle.lie_system.specs.Exponents.{HasSmallExponents}
use Rattle.lie_scan.specs.Meaning.{product}
use Rattle.lie_scan.specs.Tokens.{value_of, digits_at, literal_by, literal_at, power_at}
use Rattle.lie_scan.specs.Turns.{Turn, goes_on, ends, after, turns, all_turns}
use Rattle.lie_scan.specs.Terms.{raised, factor_at, factor_by, factor_turn, factors_at, first_by, first_at, term_at}
use Rattle.lie_scan.specs.TokenGrammar.{BeginsOutside, IsSign, IsNumber, IsPower}
use Rattle.lie_scan.specs.SumGrammar.{AreFactors}
use Rattle.lie_scan.specs.LineFaults.{IsPowerFault, IsFactorNext, IsTermFault, large_number, in_first, in_factor, high_exponent}
use Rattle.lie_scan.proofs.Blanks.{bind_then, ok_is, blanks_to, mark_next}
use Rattle.lie_scan.proofs.Shorter.{Within, behind_shorter, factor_within}
use Rattle.lie_scan.proofs.NumberLaws.{AreDigitsAt, digits_at-is, is-digits_at, digits_of_number, all_digits}
use Rattle.lie_scan.proofs.PowerLaws.{power_at-is, is-power_at}
use Rattle.lie_scan.proofs.CoordinateFaults.{err_is, bind_fails, test_fails}
use Rattle.lie_scan.proofs.PowerFaults.{digits_at-fails, large_digits, no_value, digits_make, power_at-fails, is-power_fault}
use Rattle.lie_scan.proofs.TurnSteps.{turns_stop}
use Rattle.lie_scan.proofs.FactorSteps.{factor_turn_takes}
use Rattle.lie_scan.proofs.FactorLaws.{star, small_before, factor_at-is, factor_at-blanks, factors_pass}
use Rattle.lie_scan.proofs.TermLaws.{literal_at-blanks, BeginsDigit, number_front, IsFirstRead, first_at-is, is-first_at, product-append}

-- ---- one factor
pub data IsFactorFault (S : Space) (names : List ℕ) (m : Monomial) (text : List ℕ) : Stop → Type 0 where
  in_power : (s : Stop) → IsPowerFault S names text s → IsFactorFault S names m text s
  past_32 : (p : ℕ × ℕ) (rest : List ℕ) → IsPower S names text p rest → 33 ≤ exponent (m · power_of p.0 p.1) p.0 → IsFactorFault S names m text (stop Exponent (after_blanks text))

factor_at-fails : (S : Space) (names : List ℕ) (m : Monomial) (text : List ℕ) (s : Stop) → factor_at S names m text ≡ Err s → IsFactorFault S names m text s
unfolding factor_at
factor_at-fails S names m text s h =
    let t = after_blanks text in
    bind_fails (power_at S names t) _ s h (λ e. in_power s (power_at-fails S names text s e)) (λ x is_x more.
    let powered : Monomial = m · power_of x.0.0 x.0.1 in
    bind_fails (raised m x.0 t) _ s more (λ e.
    test_fails (nat_lt 32 (exponent powered x.0.0)) (stop Exponent t) s (Ok powered) e
    (λ high same. subst (IsFactorFault S names m text) same (past_32 x.0 x.1 (power_at-is S names text x is_x) (grind (arith, nat_tests, high)))) (λ low k. cc)) (λ k is_k rest. cc))

is-factor_fault : (S : Space) (names : List ℕ) (m : Monomial) (text : List ℕ) (s : Stop) → IsFactorFault S names m text s → factor_at S names m text ≡ Err s
unfolding factor_at
is-factor_fault S names m text s (in_power r fault) = rw (is-power_fault S names text r fault) refl
is-factor_fault S names m text s (past_32 p rest power high) =
    let past : nat_lt 32 (exponent (m · power_of p.0 p.1) p.0) ≡ true = grind (arith, nat_tests, high) in
    rw (is-power_at S names text p rest power, past) refl

-- ---- the further factors
pub record IsFactorsFault (S : Space) (names : List ℕ) (m : Monomial) (text : List ℕ) (s : Stop) : Type 0 where
  pub powers : List (ℕ × ℕ)
  pub back : List ℕ
  pub front : List ℕ
  pub are : AreFactors S names text powers back
  pub sign : IsSign 42 back front
  pub small : HasSmallExponents (product m powers)
  pub fault : IsFactorFault S names (product m powers) front s

module _ (S : Space) (names : List ℕ) (s : Stop) where
  fault_here : (m : Monomial) (text cs : List ℕ) → IsSign 42 text cs → HasSmallExponents m → factor_at S names m cs ≡ Err s → IsFactorsFault S names m text s
  fault_here m text cs sign small h = record { powers = []; back = text; front = cs; are = refl; sign = sign; small = small; fault = factor_at-fails S names m cs s h }

  fault_later : (m : Monomial) (text cs : List ℕ) (y : Monomial × List ℕ) → IsSign 42 text cs → HasSmallExponents m → factor_at S names m cs ≡ Ok y
      → (HasSmallExponents y.0 → IsFactorsFault S names y.0 y.1 s) → IsFactorsFault S names m text s
  fault_later m text cs y sign small is again =
      let factor = factor_at-is S names m cs y is in
      let more = again (factor.small small) in record {
        powers = factor.power ∷ more.powers;
        back = more.back;
        front = more.front;
        are = (cs, y.1, sign, factor.is, more.are);
        sign = more.sign;
        small = subst (λ k. HasSmallExponents (product k more.powers)) factor.means more.small;
        fault = subst (λ k. IsFactorFault S names (product k more.powers) more.front s) factor.means more.fault;
      }

  fault_step : (f : Monomial → List ℕ → Result (Monomial × List ℕ) Stop) (m : Monomial) (text : List ℕ) → HasSmallExponents m
      → ((k : Monomial) (t : List ℕ) → length t < length text → HasSmallExponents k → f k t ≡ Err s → IsFactorsFault S names k t s)
      → (factor_turn S names m text >>= after f) ≡ Err s → IsFactorsFault S names m text s
  fault_step f m text small again h = go (after_blanks text) refl h
    where
      shorter : (cs : List ℕ) (y : Monomial × List ℕ) → after_blanks text ≡ 42 ∷ cs → factor_at S names m cs ≡ Ok y → length y.1 < length text
      shorter cs y at is =
          let within : length y.1 ≤ length cs = subst (Within (length cs)) is (factor_within S names m cs) in
          let less = behind_shorter Blank text in
          let whole : length (after_blanks text) ≡ length (42 ∷ cs) = ap length at in
          omega arith

      starred : (cs : List ℕ) → after_blanks text ≡ 42 ∷ cs → ((factor_at S names m cs >>= λ x. Ok (goes_on x.0 x.1)) >>= after f) ≡ Err s
          → ((y : Monomial × List ℕ) → factor_at S names m cs ≡ Ok y → length y.1 < length text) → IsFactorsFault S names m text s
      starred cs at e shorter_by =
          let sign : IsSign 42 text cs = blanks_to text (42 ∷ cs) at in
          let turn : Monomial × List ℕ → Result (Turn Monomial (Monomial × List ℕ)) Stop = λ y. Ok (goes_on y.0 y.1) in
          bind_fails (factor_at S names m cs >>= turn) (after f) s e
          (λ k. bind_fails (factor_at S names m cs) turn s k (λ l. fault_here m text cs sign small l) (λ y is_y l. cc))
          (λ z is_z next. bind_then (factor_at S names m cs) turn z is_z (λ y is_y made.
          fault_later m text cs y sign small is_y (λ small_y. again y.0 y.1 (shorter_by y is_y) small_y (subst (λ w. after f w ≡ Err s) (sym (ok_is (goes_on y.0 y.1) z made)) next))))

      by_test : (c : ℕ) (cs : List ℕ) (t : Bool) → after_blanks text ≡ c ∷ cs → (c == 42) ≡ t
          → ((if t then (factor_at S names m cs >>= λ x. Ok (goes_on x.0 x.1)) else Ok (ends (m, c ∷ cs))) >>= after f) ≡ Err s
          → ((cs : List ℕ) → after_blanks text ≡ 42 ∷ cs → ((factor_at S names m cs >>= λ x. Ok (goes_on x.0 x.1)) >>= after f) ≡ Err s → IsFactorsFault S names m text s) → IsFactorsFault S names m text s
      by_test c cs false at test e k = cc
      by_test c cs true at test e k = let is : c ≡ 42 = grind (arith, nat_tests, test) in k cs (at ∙ ap (λ b. b ∷ cs) is) e

      go : (bs : List ℕ) → after_blanks text ≡ bs → (factor_by S names m bs >>= after f) ≡ Err s → IsFactorsFault S names m text s
      go [] at e = cc
      go (c ∷ cs) at e = by_test c cs (c == 42) at refl e (λ ds is k. starred ds is k (λ y is_y. shorter ds y is is_y))

  factor_turns-fail : (n : ℕ) (m : Monomial) (text : List ℕ) → length text < n → HasSmallExponents m → turns (factor_turn S names) n m text ≡ Err s → IsFactorsFault S names m text s
  factor_turns-fail zero m text low small h = absurd (omega arith)
  factor_turns-fail (suc n) m text low small h = fault_step (turns (factor_turn S names) n) m text small (λ k t less. factor_turns-fail n k t (omega arith)) h

  factors_at-fails : (m : Monomial) (text : List ℕ) → HasSmallExponents m → factors_at S names m text ≡ Err s → IsFactorsFault S names m text s
  unfolding all_turns
  factors_at-fails m text small h = factor_turns-fail (suc (length text)) m text (omega arith) small h

  is-factors_fault : (m : Monomial) (text : List ℕ) → IsFactorsFault S names m text s → factors_at S names m text ≡ Err s
  is-factors_fault m text h =
      factors_pass S names m text h.powers h.back h.are h.small
      ∙ turns_stop (factor_turn S names) (factor_turn_takes S names) (product m h.powers) h.back s
      (rw (mark_next 42 h.back h.front star h.sign, is-factor_fault S names (product m h.powers) h.front s h.fault) refl)

-- ---- the first factor
abbrev with_one : Result (Monomial × List ℕ) Stop → Result (ℕ × Monomial × List ℕ) Stop
with_one r = r >>= λ x. Ok (1, x.0, x.1)

pub digit_clash : (bs : List ℕ) → BeginsDigit bs → BeginsOutside Digit bs → ⊥
digit_clash [] k l = k
digit_clash (c ∷ cs) k l = differ (sym k ∙ l)
  where
    differ : true ≡ false → ⊥
    differ e = cc

abbrev with_unit : Result (ℕ × List ℕ) Stop → Result (ℕ × Monomial × List ℕ) Stop
with_unit r = r >>= λ n. Ok (n.0, unit, n.1)

literal_at-fails : (text : List ℕ) (s : Stop) → BeginsDigit (after_blanks text) → literal_at text ≡ Err s → (n : ℕ) × (rest : List ℕ) × IsNumber text n rest × (2 ^ 127 ≤ n) × (stop Number (after_blanks text) ≡ s)
unfolding literal_at
literal_at-fails text s digit h =
    bind_fails (digits_at text) _ s h (λ e. absurd (digit_clash (after_blanks text) digit (digits_at-fails text s e).0)) (λ d is_d more.
    let at = digits_at-is text d is_d in go d at (value_of d.0) refl more)
  where
    go : (d : List ℕ × List ℕ) → AreDigitsAt text d.0 d.1 → (o : Option ℕ) → value_of d.0 ≡ o → literal_by o (after_blanks text) d.1 ≡ Err s
        → (n : ℕ) × (rest : List ℕ) × IsNumber text n rest × (2 ^ 127 ≤ n) × (stop Number (after_blanks text) ≡ s)
    go d at None none k = (digits_value 10 d.0, d.1, digits_make text d.0 d.1 at, large_digits d.0 at.are none, err_is (stop Number (after_blanks text)) s k)
    go d at (Some n) some k = cc

pub is-large_literal : (text : List ℕ) (n : ℕ) (rest : List ℕ) → IsNumber text n rest → 2 ^ 127 ≤ n → literal_at text ≡ Err (stop Number (after_blanks text))
unfolding literal_at
is-large_literal text n rest number high =
    rw (is-digits_at text number.digits rest (digits_of_number text n rest number), no_value number.digits n (all_digits number.digits number.numeral.1) number.value high) refl

power_alone : (S : Space) (names text : List ℕ) (p : ℕ × ℕ) (rest : List ℕ) → IsPower S names text p rest → exponent (unit · power_of p.0 p.1) p.0 ≤ 32
power_alone S names text p rest h =
    let sum : exponent (unit · power_of p.0 p.1) p.0 ≡ exponent unit p.0 + exponent (power_of p.0 p.1) p.0 = exponent-· unit (power_of p.0 p.1) p.0 in
    let none : exponent unit p.0 ≡ 0 = Rattle.lie_math.specs.FiniteSumLaws.value-none Rattle.lie_math.specs.Monomial.powers p.0 in
    let alone : exponent (power_of p.0 p.1) p.0 ≡ p.1 = exponent-power_of p.0 p.1 p.0 ∙ ap (λ b. cond b p.1 0) (same_variable p.0) in
    let low : p.1 ≤ 32 = elim (h.exponent) [ inl bare ↦ (let e = bare.0 in omega arith) | inr raised ↦ raised.4 ] in
    omega arith

module _ (S : Space) (names text : List ℕ) (s : Stop) where
  by_factor : BeginsOutside Digit (after_blanks text) → (with_one (factor_at S names unit (after_blanks text))) ≡ Err s → IsTermFault S names text s
  by_factor outside h = bind_fails (factor_at S names unit (after_blanks text)) (λ x. Ok (1, x.0, x.1)) s h
      (λ e. only_power s (factor_at-fails S names unit text s (sym (factor_at-blanks S names unit text) ∙ e)))
      (λ x is_x rest. cc)
    where
      only_power : (r : Stop) → IsFactorFault S names unit text r → IsTermFault S names text r
      only_power r (in_power t fault) = in_first t outside fault
      only_power r (past_32 p rest power high) = let low = power_alone S names text p rest power in absurd (omega arith)

  by_number : BeginsDigit (after_blanks text) → (with_unit (literal_at (after_blanks text))) ≡ Err s → IsTermFault S names text s
  by_number digit h = bind_fails (literal_at (after_blanks text)) (λ n. Ok (n.0, unit, n.1)) s h
      (λ e. let f = literal_at-fails text s digit (sym (literal_at-blanks text) ∙ e) in subst (IsTermFault S names text) f.4 (large_number f.0 f.1 f.2 f.3))
      (λ x is_x rest. cc)

  first_at-fails : first_at S names (after_blanks text) ≡ Err s → IsTermFault S names text s
  unfolding first_at
  first_at-fails h = go (after_blanks text) refl h by_factor by_number
    where
      go : (bs : List ℕ) → after_blanks text ≡ bs → first_by S names bs ≡ Err s
          → (BeginsOutside Digit (after_blanks text) → (with_one (factor_at S names unit (after_blanks text))) ≡ Err s → IsTermFault S names text s)
          → (BeginsDigit (after_blanks text) → (with_unit (literal_at (after_blanks text))) ≡ Err s → IsTermFault S names text s) → IsTermFault S names text s
      go [] at e factor number = factor (subst (BeginsOutside Digit) (sym at) tt) (ap (λ b. with_one (factor_at S names unit b)) at ∙ e)
      go (c ∷ cs) at e factor number = by_test (is_in Digit c) refl e
        where
          by_test : (d : Bool) → is_in Digit c ≡ d → (if d then with_unit (literal_at (c ∷ cs)) else with_one (factor_at S names unit (c ∷ cs))) ≡ Err s → IsTermFault S names text s
          by_test true is k = number (subst BeginsDigit (sym at) is) (ap (λ b. with_unit (literal_at b)) at ∙ k)
          by_test false is k = factor (subst (BeginsOutside Digit) (sym at) is) (ap (λ b. with_one (factor_at S names unit b)) at ∙ k)

-- ---- terms
factor_next : (S : Space) (names text : List ℕ) (f : ℕ × Monomial × List ℕ) (s : Stop) → IsFirstRead S names text f → (r : IsFactorsFault S names f.1 f.2 s) → IsFactorNext S names text (product f.1 r.powers) r.front
factor_next S names text f s first r = record {
  number = f.0;
  first = first.powers;
  behind_first = f.2;
  further = r.powers;
  behind = r.back;
  begins = first.is;
  goes_on = r.are;
  star = r.sign;
  means = ap (λ m. product m r.powers) first.means ∙ sym (product-append unit first.powers r.powers);
  small = r.small;
}

in_further : (S : Space) (names text : List ℕ) (m : Monomial) (front : List ℕ) (s : Stop) → IsFactorNext S names text m front → IsFactorFault S names m front s → IsTermFault S names text s
in_further S names text m front s next (in_power r fault) = in_factor m front r next fault
in_further S names text m front s next (past_32 p rest power high) = high_exponent m front p rest next power high

pub term_at-fails : (S : Space) (names text : List ℕ) (s : Stop) → term_at S names (after_blanks text) ≡ Err s → IsTermFault S names text s
unfolding term_at
term_at-fails S names text s h =
    bind_fails (first_at S names (after_blanks text)) _ s h (λ e. first_at-fails S names text s e) (λ f is_f more.
    let first = first_at-is S names text f is_f in
    bind_fails (factors_at S names f.1 f.2) _ s more (λ e.
    let r = factors_at-fails S names s f.1 f.2 first.small e in
    in_further S names text (product f.1 r.powers) r.front s (factor_next S names text f s first r) r.fault) (λ x is_x rest. cc))

first_number_by : (S : Space) (names bs : List ℕ) → BeginsDigit bs → first_by S names bs ≡ with_unit (literal_at bs)
first_number_by S names [] h = absurd h
first_number_by S names (c ∷ cs) h = rw h refl

first_factor_by : (S : Space) (names bs : List ℕ) → BeginsOutside Digit bs → first_by S names bs ≡ with_one (factor_at S names unit bs)
first_factor_by S names [] h = refl
first_factor_by S names (c ∷ cs) h = rw h refl

factor_stops : (S : Space) (names text : List ℕ) (m : Monomial) (front : List ℕ) (s : Stop) → IsFactorNext S names text m front → IsFactorFault S names m front s → term_at S names (after_blanks text) ≡ Err s
unfolding term_at
factor_stops S names text m front s h fault =
    let whole : m ≡ product (product unit h.first) h.further = h.means ∙ product-append unit h.first h.further in
    let small : HasSmallExponents (product (product unit h.first) h.further) = subst HasSmallExponents whole h.small in
    let first = is-first_at S names text h.number h.first h.behind_first h.begins (small_before (product unit h.first) h.further small) in
    let factors = is-factors_fault S names s (product unit h.first) h.behind_first (record {
      powers = h.further;
      back = h.behind;
      front = front;
      are = h.goes_on;
      sign = h.star;
      small = small;
      fault = subst (λ k. IsFactorFault S names k front s) whole fault;
    }) in
    rw (first, factors) refl

pub is-term_fault : (S : Space) (names text : List ℕ) (s : Stop) → IsTermFault S names text s → term_at S names (after_blanks text) ≡ Err s
unfolding term_at first_at
is-term_fault S names text s (large_number n rest number high) =
    let front = number_front text n rest number in
    let stops : literal_at (after_blanks text) ≡ Err (stop Number (after_blanks text)) = literal_at-blanks text ∙ is-large_literal text n rest number high in
    rw (first_number_by S names (after_blanks text) (subst BeginsDigit (sym front.3) front.2), stops) refl
is-term_fault S names text s (in_first r outside fault) =
    let stops : factor_at S names unit (after_blanks text) ≡ Err r = factor_at-blanks S names unit text ∙ is-factor_fault S names unit text r (in_power r fault) in
    rw (first_factor_by S names (after_blanks text) outside, stops) refl
is-term_fault S names text s (in_factor m front r next fault) = factor_stops S names text m front r next (in_power r fault)
is-term_fault S names text s (high_exponent m front p rest next power high) = factor_stops S names text m front (stop Exponent (after_blanks front)) next (past_32 p rest power high)
