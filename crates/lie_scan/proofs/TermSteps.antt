-- The further terms of a sum, one by one.
use Rattle.std.specs.Prelude.{ℕ, zero, suc, ◌≤◌, Bool, true, false, ◌==◌, List, [], ◌∷◌, length, Ok, Err, Option, Some, None, if◌then◌else◌, ℤ}
use Rattle.std.specs.declared.result.Result.{Result}
use Rattle.std.proofs.Common.{arith}
use Rattle.lie_math.specs.Monomial.{Monomial, unit}
use Rattle.lie_geometry.specs.Coordinates.{Space}
use Rattle.lie_scan.specs.declared.runs.Class.TheVariants.{Blank, Digit}
use Rattle.lie_scan.specs.declared.stop.Stop.{Stop}
use Rattle.lie_scan.specs.Runs.{after_blanks, is_in}
use Rattle.lie_scan.specs.Stops.{◌>>=◌}
use Rattle.lie_scan.specs.Tokens.{literal_at}
use Rattle.lie_scan.specs.Turns.{Turn, goes_on, ends, all_turns, turns, after}
use Rattle.lie_scan.specs.Terms.{factor_at, factor_by, factor_turn, factors_at, first_by, first_at, term_at, with_term, put_by, signed_term_at, term_by}
use Rattle.lie_scan.proofs.TurnSteps.{TakesBytes}
use Rattle.lie_scan.proofs.Shorter.{Within, behind_shorter, factor_within, literal_within, widened}
use Rattle.lie_scan.proofs.FactorSteps.{turn_within_bind, turn_within_if}

-- a turn leaves at most n bytes, also where it ends
abbrev pub TurnLeaves : {S A : Type 0} → ℕ → Result (Turn S (A × List ℕ)) Stop → Type 0
TurnLeaves n (Ok (goes_on s rest)) = length rest ≤ n
TurnLeaves n (Ok (ends r)) = length r.1 ≤ n
TurnLeaves n (Err e) = Unit {0}

after_within : {S A : Type 0} (f : S → List ℕ → Result (A × List ℕ) Stop) (n : ℕ) (r : Result (Turn S (A × List ℕ)) Stop) → TurnLeaves n r
    → ((s : S) (rest : List ℕ) → length rest ≤ n → Within n (f s rest)) → Within n (r >>= after f)
after_within f n (Ok (goes_on s rest)) h k = k s rest h
after_within f n (Ok (ends r)) h k = h
after_within f n (Err e) h k = tt

pub turns_within : {S A : Type 0} (turn : S → List ℕ → Result (Turn S (A × List ℕ)) Stop) → ((s : S) (text : List ℕ) → TurnLeaves (length text) (turn s text))
    → (n : ℕ) (s : S) (text : List ℕ) → Within (length text) (turns turn n s text)
turns_within turn leaves zero s text = tt
turns_within turn leaves (suc n) s text =
    after_within (turns turn n) (length text) (turn s text) (leaves s text) (λ t rest le. widened (length rest) (length text) (turns turn n t rest) le (turns_within turn leaves n t rest))

leaves_bind : {A B S : Type 0} (n m : ℕ) (r : Result (A × List ℕ) Stop) (f : A × List ℕ → Result (Turn S (B × List ℕ)) Stop) → Within n r → ((x : A × List ℕ) → length x.1 ≤ n → TurnLeaves m (f x)) → TurnLeaves m (r >>= f)
leaves_bind n m (Ok x) f h k = k x h
leaves_bind n m (Err e) f h k = tt

pub leaves_if : {A S : Type 0} (n : ℕ) (b : Bool) (r s : Result (Turn S (A × List ℕ)) Stop) → TurnLeaves n r → TurnLeaves n s → TurnLeaves n (if b then r else s)
leaves_if n true r s h k = h
leaves_if n false r s h k = k

factor_by_leaves : (S : Space) (names : List ℕ) (m : Monomial) (bs : List ℕ) (n : ℕ) → length bs ≤ n → TurnLeaves n (factor_by S names m bs)
factor_by_leaves S names m [] n h = h
factor_by_leaves S names m (c ∷ cs) n h =
    leaves_if n (c == 42) _ _ (leaves_bind (length cs) n (factor_at S names m cs) _ (factor_within S names m cs) (λ x k. omega arith)) h

factors_within : (S : Space) (names : List ℕ) (m : Monomial) (text : List ℕ) → Within (length text) (factors_at S names m text)
unfolding all_turns
factors_within S names m text =
    turns_within (factor_turn S names) (λ k t. factor_by_leaves S names k (after_blanks t) (length t) (behind_shorter Blank t)) (suc (length text)) m text

-- a reader of a term leaves at most n bytes
abbrev TermWithin : ℕ → Result (ℕ × Monomial × List ℕ) Stop → Type 0
TermWithin n (Ok t) = length t.2 ≤ n
TermWithin n (Err e) = Unit {0}

term_bind : {A : Type 0} (n m : ℕ) (r : Result (A × List ℕ) Stop) (f : A × List ℕ → Result (ℕ × Monomial × List ℕ) Stop) → Within n r → ((x : A × List ℕ) → length x.1 ≤ n → TermWithin m (f x)) → TermWithin m (r >>= f)
term_bind n m (Ok x) f h k = k x h
term_bind n m (Err e) f h k = tt

term_then : {B : Type 0} (n m : ℕ) (r : Result (ℕ × Monomial × List ℕ) Stop) (f : ℕ × Monomial × List ℕ → Result (B × List ℕ) Stop) → TermWithin n r → ((t : ℕ × Monomial × List ℕ) → length t.2 ≤ n → Within m (f t)) → Within m (r >>= f)
term_then n m (Ok t) f h k = k t h
term_then n m (Err e) f h k = tt

term_again : (n m : ℕ) (r : Result (ℕ × Monomial × List ℕ) Stop) (f : ℕ × Monomial × List ℕ → Result (ℕ × Monomial × List ℕ) Stop) → TermWithin n r → ((t : ℕ × Monomial × List ℕ) → length t.2 ≤ n → TermWithin m (f t)) → TermWithin m (r >>= f)
term_again n m (Ok t) f h k = k t h
term_again n m (Err e) f h k = tt

term_if : (n : ℕ) (b : Bool) (r s : Result (ℕ × Monomial × List ℕ) Stop) → TermWithin n r → TermWithin n s → TermWithin n (if b then r else s)
term_if n true r s h k = h
term_if n false r s h k = k

first_by_within : (S : Space) (names text : List ℕ) → TermWithin (length text) (first_by S names text)
first_by_within S names [] = term_bind 0 0 (factor_at S names unit []) _ (factor_within S names unit []) (λ x h. h)
first_by_within S names (c ∷ cs) =
    term_if (length (c ∷ cs)) (is_in Digit c) _ _
    (term_bind (length (c ∷ cs)) (length (c ∷ cs)) (literal_at (c ∷ cs)) _ (literal_within (c ∷ cs)) (λ x h. h))
    (term_bind (length (c ∷ cs)) (length (c ∷ cs)) (factor_at S names unit (c ∷ cs)) _ (factor_within S names unit (c ∷ cs)) (λ x h. h))

first_within : (S : Space) (names text : List ℕ) → TermWithin (length text) (first_at S names text)
unfolding first_at
first_within S names text = first_by_within S names text

term_within : (S : Space) (names text : List ℕ) → TermWithin (length text) (term_at S names text)
unfolding term_at
term_within S names text = term_again (length text) (length text) (first_at S names text) _ (first_within S names text) (λ t h.
    term_bind (length text) (length text) (factors_at S names t.1 t.2) _ (widened (length t.2) (length text) (factors_at S names t.1 t.2) h (factors_within S names t.1 t.2)) (λ x k. k))

put_within : (n : ℕ) (o : Option (List (Monomial × ℤ))) (text rest : List ℕ) → length rest ≤ n → Within n (put_by o text rest)
put_within n None text rest h = tt
put_within n (Some ts) text rest h = h

pub signed_term_within : (S : Space) (names : List ℕ) (negative : Bool) (ts : List (Monomial × ℤ)) (text : List ℕ) → Within (length text) (signed_term_at S names negative ts text)
unfolding signed_term_at
signed_term_within S names negative ts text =
    let shorter = behind_shorter Blank text in
    term_then (length (after_blanks text)) (length text) (term_at S names (after_blanks text)) _ (term_within S names (after_blanks text))
    (λ t h. put_within (length text) (with_term negative t.0 t.1 ts) (after_blanks text) t.2 (omega arith))

pub term_turn_takes : (S : Space) (names : List ℕ) (turned : Bool) → TakesBytes (term_by S names turned)
term_turn_takes S names turned ts [] = tt
term_turn_takes S names turned ts (c ∷ cs) =
    let n = length (c ∷ cs) in
    turn_within_if n (c == 43) _ _ (turn_within_bind (length cs) n (signed_term_at S names turned ts cs) _ (signed_term_within S names turned ts cs) (λ x k. omega arith))
    (turn_within_if n (c == 45) _ _ (turn_within_bind (length cs) n (signed_term_at S names (if turned then false else true) ts cs) _ (signed_term_within S names (if turned then false else true) ts cs) (λ x k. omega arith)) tt)
