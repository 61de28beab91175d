-- No reader of a field text leaves more bytes than it was given, and a turn that goes on leaves less.
use Rattle.std.specs.Prelude.{ℕ, zero, suc, ◌≡◌, ◌≤◌, ◌<◌, Bool, true, false, ◌==◌, List, [], ◌∷◌, length, drop, Option, Some, None, Ok, Err, refl}
use Rattle.std.specs.declared.result.Result.{Result}
use Rattle.std.proofs.Common.{ap, subst, arith}
use Rattle.lie_math.specs.Monomial.{Monomial, unit}
use Rattle.lie_scan.specs.declared.fault.BadKind.TheVariants.{Syntax}
use Rattle.lie_scan.specs.declared.runs.Class.TheVariants.{Blank, Letter, Digit}
use Rattle.lie_scan.specs.declared.stop.Stop.{Stop}
use Rattle.lie_fieldtext.specs.declared.field_term.FieldTerm.{FieldTerm}
use Rattle.lie_scan.specs.Runs.{run, behind, after_blanks, is_in}
use Rattle.lie_scan.specs.Stops.{stop, ◌>>=◌}
use Rattle.lie_scan.specs.Tokens.{literal_at, place_of_word, exponent_at}
use Rattle.lie_scan.specs.Turns.{Turn, all_turns}
use Rattle.lie_scan.specs.Terms.{raised}
use Rattle.lie_fieldtext.specs.FieldGrammar.{begins_base}
use Rattle.lie_fieldtext.specs.FieldReading.{star_by, star_at, denominator_at, under_by, under_at, fraction_at, coefficient_by, coefficient_at, place_by, name_at, variable_power_at, factor_by, factor_turn, factors_at, field_term_at, with_field_term, put_by, signed_at, term_by, term_turn}
use Rattle.lie_scan.proofs.Blanks.{bind_then, guard_else, ok_is}
use Rattle.lie_scan.proofs.Shorter.{Within, behind_shorter, literal_within, exponent_within, within_if}
use Rattle.lie_scan.proofs.TurnSteps.{TurnWithin, TakesBytes}
use Rattle.lie_scan.proofs.TermSteps.{TurnLeaves, turns_within, leaves_if}
use Rattle.lie_scan.proofs.FactorSteps.{turn_within_if}

-- ---- steps
then_within : {A B : Type 0} (m : ℕ) (r : Result A Stop) (f : A → Result (B × List ℕ) Stop) → ((x : A) → r ≡ Ok x → Within m (f x)) → Within m (r >>= f)
then_within m (Ok x) f k = k x refl
then_within m (Err e) f k = tt

then_turn : {A S R : Type 0} (m : ℕ) (r : Result A Stop) (f : A → Result (Turn S R) Stop) → ((x : A) → r ≡ Ok x → TurnWithin m (f x)) → TurnWithin m (r >>= f)
then_turn m (Ok x) f k = k x refl
then_turn m (Err e) f k = tt

then_leaves : {A B S : Type 0} (m : ℕ) (r : Result A Stop) (f : A → Result (Turn S (B × List ℕ)) Stop) → ((x : A) → r ≡ Ok x → TurnLeaves m (f x)) → TurnLeaves m (r >>= f)
then_leaves m (Ok x) f k = k x refl
then_leaves m (Err e) f k = tt

left : {A : Type 0} (n : ℕ) (r : Result (A × List ℕ) Stop) (x : A × List ℕ) → Within n r → r ≡ Ok x → length x.1 ≤ n
left n r x h is = subst (Within n) is h

-- ---- coefficients
star_by_less : (bs rest : List ℕ) → star_by bs ≡ Ok rest → length rest < length bs
star_by_less [] rest h = cc
star_by_less (c ∷ cs) rest h =
    let g = guard_else (c == 42) (stop Syntax (c ∷ cs)) (Ok cs) rest h in
    let same : length cs ≡ length rest = ap length (ok_is cs rest g.1) in
    omega arith

star_less : (text rest : List ℕ) → star_at text ≡ Ok rest → length rest < length text
unfolding star_at
star_less text rest h = let a = star_by_less (after_blanks text) rest h in let b = behind_shorter Blank text in omega arith

denominator_within : (text : List ℕ) → Within (length text) (denominator_at text)
unfolding denominator_at
denominator_within text = then_within (length text) (literal_at text) _ (λ d is. within_if (length text) (d.0 == 0) _ _ tt (left (length text) (literal_at text) d (literal_within text) is))

under_by_within : (text bs : List ℕ) → length bs ≤ length text → Within (length text) (under_by text bs)
under_by_within text [] h = let k : length text ≤ length text = omega arith in k
under_by_within text (c ∷ cs) h =
    within_if (length text) (c == 47) _ _ (widen (denominator_at cs) (denominator_within cs)) (let k : length text ≤ length text = omega arith in k)
  where
    widen : (r : Result (ℕ × List ℕ) Stop) → Within (length cs) r → Within (length text) r
    widen (Ok x) k = omega arith
    widen (Err e) k = tt

under_within : (text : List ℕ) → Within (length text) (under_at text)
unfolding under_at
under_within text = under_by_within text (after_blanks text) (behind_shorter Blank text)

fraction_within : (text : List ℕ) → Within (length text) (fraction_at text)
unfolding fraction_at
fraction_within text =
    then_within (length text) (literal_at text) _ (λ n is_n.
    then_within (length text) (under_at n.1) _ (λ d is_d.
    then_within (length text) (star_at d.1) _ (λ rest is.
    let a = left (length text) (literal_at text) n (literal_within text) is_n in
    let b = left (length n.1) (under_at n.1) d (under_within n.1) is_d in
    let c = star_less d.1 rest is in
    omega arith)))

coefficient_by_within : (text bs : List ℕ) → Within (length text) (coefficient_by text bs)
coefficient_by_within text [] = let k : length text ≤ length text = omega arith in k
coefficient_by_within text (c ∷ cs) = within_if (length text) (is_in Digit c) _ _ (fraction_within text) (let k : length text ≤ length text = omega arith in k)

coefficient_within : (text : List ℕ) → Within (length text) (coefficient_at text)
unfolding coefficient_at
coefficient_within text = coefficient_by_within text (after_blanks text)

-- ---- factors
place_within : (n : ℕ) (o : Option ℕ) (whole rest : List ℕ) → length rest ≤ n → Within n (place_by o whole rest)
place_within n None whole rest h = tt
place_within n (Some i) whole rest h = h

name_within : (names whole text : List ℕ) → Within (length text) (name_at names whole text)
unfolding name_at
name_within names whole text =
    within_if (length text) (length (run Letter text) == 0) _ _ tt (place_within (length text) (place_of_word names (run Letter text)) whole (behind Letter text) (behind_shorter Letter text))

drop_shorter : (n : ℕ) (bs : List ℕ) → length (drop n bs) ≤ length bs
drop_shorter zero bs = omega arith
drop_shorter (suc n) [] = omega arith
drop_shorter (suc n) (b ∷ bs) = let k = drop_shorter n bs in omega arith

power_less : (names : List ℕ) (m : Monomial) (text : List ℕ) (x : Monomial × List ℕ) → variable_power_at names m text ≡ Ok x → length x.1 < length text
unfolding variable_power_at
power_less names m text x h =
    bind_then (name_at names text text) _ x h (λ v is_v more.
    bind_then (exponent_at text v.1) _ x more (λ e is_e next.
    bind_then (raised m (v.0, e.0) text) _ x next (λ k is_k last.
    bind_then (star_at e.1) _ x last (λ rest is done.
    let a = left (length text) (name_at names text text) v (name_within names text text) is_v in
    let b = left (length v.1) (exponent_at text v.1) e (exponent_within text v.1) is_e in
    let c = star_less e.1 rest is in
    let made : Monomial × List ℕ = (k, rest) in
    let same : length rest ≡ length x.1 = ap (λ (y : Monomial × List ℕ). length y.1) (ok_is made x done) in
    omega arith))))

factor_takes : (names : List ℕ) (m : Monomial) (text : List ℕ) (n : ℕ) → length text ≤ n → TurnWithin n (factor_by names m text)
factor_takes names m text n low =
    turn_within_if n (begins_base text) _ _ (then_turn n (name_at names text (drop 2 text)) _ (λ v is. tt))
    (then_turn n (variable_power_at names m text) _ (λ x is. let k = power_less names m text x is in omega arith))

pub factor_turn_takes : (names : List ℕ) → TakesBytes (factor_turn names)
factor_turn_takes names m text = factor_takes names m (after_blanks text) (length text) (behind_shorter Blank text)

factor_leaves : (names : List ℕ) (m : Monomial) (text : List ℕ) (n : ℕ) → length text ≤ n → TurnLeaves n (factor_by names m text)
factor_leaves names m text n low =
    leaves_if n (begins_base text) _ _
    (then_leaves n (name_at names text (drop 2 text)) _ (λ v is.
    let a = left (length (drop 2 text)) (name_at names text (drop 2 text)) v (name_within names text (drop 2 text)) is in
    let b = drop_shorter 2 text in
    omega arith))
    (then_leaves n (variable_power_at names m text) _ (λ x is. let k = power_less names m text x is in omega arith))

factors_within : (names : List ℕ) (m : Monomial) (text : List ℕ) → Within (length text) (factors_at names m text)
unfolding all_turns
factors_within names m text = turns_within (factor_turn names) (λ k t. factor_leaves names k (after_blanks t) (length t) (behind_shorter Blank t)) (suc (length text)) m text

-- ---- terms
field_term_within : (names : List ℕ) (negative : Bool) (text : List ℕ) → Within (length text) (field_term_at names negative text)
unfolding field_term_at
field_term_within names negative text =
    then_within (length text) (coefficient_at text) _ (λ c is_c.
    then_within (length text) (factors_at names unit c.1) _ (λ x is.
    let a = left (length text) (coefficient_at text) c (coefficient_within text) is_c in
    let b = left (length c.1) (factors_at names unit c.1) x (factors_within names unit c.1) is in
    omega arith))

put_within : (n : ℕ) (o : Option (List FieldTerm)) (text rest : List ℕ) → length rest ≤ n → Within n (put_by o text rest)
put_within n None text rest h = tt
put_within n (Some ts) text rest h = h

pub signed_within : (names : List ℕ) (negative : Bool) (ts : List FieldTerm) (text : List ℕ) → Within (length text) (signed_at names negative ts text)
unfolding signed_at
signed_within names negative ts text =
    then_within (length text) (field_term_at names negative text) _ (λ t is.
    put_within (length text) (with_field_term ts t.0) (after_blanks text) t.1 (left (length text) (field_term_at names negative text) t (field_term_within names negative text) is))

term_by_takes : (names : List ℕ) (ts : List FieldTerm) (bs : List ℕ) (n : ℕ) → length bs ≤ n → TurnWithin n (term_by names ts bs)
term_by_takes names ts [] n low = tt
term_by_takes names ts (c ∷ cs) n low =
    turn_within_if n (c == 43) _ _
    (then_turn n (signed_at names false ts cs) _ (λ x is. let k = left (length cs) (signed_at names false ts cs) x (signed_within names false ts cs) is in omega arith))
    (turn_within_if n (c == 45) _ _
    (then_turn n (signed_at names true ts cs) _ (λ x is. let k = left (length cs) (signed_at names true ts cs) x (signed_within names true ts cs) is in omega arith)) tt)

pub term_turn_takes : (names : List ℕ) → TakesBytes (term_turn names)
term_turn_takes names ts text = term_by_takes names ts (after_blanks text) (length text) (behind_shorter Blank text)
