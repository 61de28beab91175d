-- No reader leaves more bytes than it was given, and a turn that goes on leaves less.
use Rattle.std.specs.Prelude.{ℕ, ◌≤◌, Bool, true, false, ◌==◌, List, [], ◌∷◌, length, Ok, Err, Option, Some, None, if◌then◌else◌, ◌&&◌, nat_le}
use Rattle.std.specs.declared.result.Result.{Result}
use Rattle.std.proofs.Common.{arith}
use Rattle.lie_math.specs.Monomial.{Monomial}
use Rattle.lie_geometry.specs.Coordinates.{Space}
use Rattle.lie_scan.specs.declared.runs.Class.{Class}
use Rattle.lie_scan.specs.declared.runs.Class.TheVariants.{Blank, Letter, Digit}
use Rattle.lie_scan.specs.declared.stop.Stop.{Stop}
use Rattle.lie_scan.specs.Runs.{run, behind, after_blanks, is_in}
use Rattle.lie_scan.specs.Stops.{◌>>=◌}
use Rattle.lie_scan.specs.Tokens.{value_of, digits_at, literal_by, literal_at, plain, derivative, coordinate_by, coordinate_at, exponent_value, exponent_by, exponent_at, power_at}
use Rattle.lie_scan.specs.Terms.{raised, factor_at}

-- what is left is at most n bytes
abbrev pub Within : {A : Type 0} → ℕ → Result (A × List ℕ) Stop → Type 0
Within n (Ok x) = length x.1 ≤ n
Within n (Err e) = Unit {0}

pub within_bind : {A B : Type 0} (n m : ℕ) (r : Result (A × List ℕ) Stop) (f : A × List ℕ → Result (B × List ℕ) Stop) → Within n r → ((x : A × List ℕ) → length x.1 ≤ n → Within m (f x)) → Within m (r >>= f)
within_bind n m (Ok x) f h k = k x h
within_bind n m (Err e) f h k = tt

-- a step that leaves nothing itself
within_any : {A B : Type 0} (m : ℕ) (r : Result A Stop) (f : A → Result (B × List ℕ) Stop) → ((x : A) → Within m (f x)) → Within m (r >>= f)
within_any m (Ok x) f k = k x
within_any m (Err e) f k = tt

pub within_if : {A : Type 0} (n : ℕ) (b : Bool) (r s : Result (A × List ℕ) Stop) → Within n r → Within n s → Within n (if b then r else s)
within_if n true r s h k = h
within_if n false r s h k = k

behind_by : (c : Class) (b : ℕ) (bs : List ℕ) (t : Bool) → length (behind c bs) ≤ length bs → length (if t then behind c bs else b ∷ bs) ≤ length (b ∷ bs)
behind_by c b bs true h = omega arith
behind_by c b bs false h = omega arith

pub behind_shorter : (c : Class) (bs : List ℕ) → length (behind c bs) ≤ length bs
behind_shorter c [] = omega arith
behind_shorter c (b ∷ bs) = behind_by c b bs (is_in c b) (behind_shorter c bs)

digits_within : (text : List ℕ) → Within (length text) (digits_at text)
unfolding digits_at
digits_within text =
    let a = behind_shorter Blank text in
    let b = behind_shorter Digit (after_blanks text) in
    within_if (length text) (length (run Digit (after_blanks text)) == 0) _ _ tt (omega arith)

literal_by_within : (n : ℕ) (o : Option ℕ) (text rest : List ℕ) → length rest ≤ n → Within n (literal_by o text rest)
literal_by_within n (Some k) text rest h = h
literal_by_within n None text rest h = tt

pub literal_within : (text : List ℕ) → Within (length text) (literal_at text)
unfolding literal_at
literal_within text = within_bind (length text) (length text) (digits_at text) _ (digits_within text) (λ d h. literal_by_within (length text) (value_of d.0) (after_blanks text) d.1 h)

coordinate_by_within : (S : Space) (names text word rest : List ℕ) (n : ℕ) → length rest ≤ n → Within n (coordinate_by S names text word rest)
coordinate_by_within S names text word [] n h = within_any n (plain S names word text) _ (λ v. h)
coordinate_by_within S names text word (c ∷ cs) n h =
    let k = behind_shorter Letter cs in
    within_if n (c == 95) _ _
    (within_if n (length (run Letter cs) == 0) _ _ tt (within_any n (derivative S names word (run Letter cs) text) _ (λ v. omega arith)))
    (within_any n (plain S names word text) _ (λ v. h))

coordinate_within : (S : Space) (names text : List ℕ) → Within (length text) (coordinate_at S names text)
unfolding coordinate_at
coordinate_within S names text =
    within_if (length text) (length (run Letter text) == 0) _ _ tt (coordinate_by_within S names text (run Letter text) (behind Letter text) (length text) (behind_shorter Letter text))

exponent_value_within : (n : ℕ) (o : Option ℕ) (text rest : List ℕ) → length rest ≤ n → Within n (exponent_value o text rest)
exponent_value_within n None text rest h = tt
exponent_value_within n (Some k) text rest h = within_if n (nat_le 1 k && nat_le k 32) _ _ h tt

exponent_by_within : (text rest bs : List ℕ) → length bs ≤ length rest → Within (length rest) (exponent_by text rest bs)
exponent_by_within text rest [] h = let e : length rest ≤ length rest = omega arith in e
exponent_by_within text rest (c ∷ cs) h =
    within_if (length rest) (c == 94) _ _
    (within_bind (length cs) (length rest) (digits_at cs) _ (digits_within cs) (λ d k. exponent_value_within (length rest) (value_of d.0) text d.1 (omega arith)))
    (let e : length rest ≤ length rest = omega arith in e)

pub exponent_within : (text rest : List ℕ) → Within (length rest) (exponent_at text rest)
unfolding exponent_at
exponent_within text rest = exponent_by_within text rest (after_blanks rest) (behind_shorter Blank rest)

pub widened : {A : Type 0} (n m : ℕ) (r : Result (A × List ℕ) Stop) → n ≤ m → Within n r → Within m r
widened n m (Ok x) h k = omega arith
widened n m (Err e) h k = tt

pub power_within : (S : Space) (names text : List ℕ) → Within (length text) (power_at S names text)
unfolding power_at
power_within S names text = within_bind (length text) (length text) (coordinate_at S names text) _ (coordinate_within S names text) (λ v h.
    within_bind (length text) (length text) (exponent_at text v.1) _ (widened (length v.1) (length text) (exponent_at text v.1) h (exponent_within text v.1)) (λ e k. k))

pub factor_within : (S : Space) (names : List ℕ) (m : Monomial) (text : List ℕ) → Within (length text) (factor_at S names m text)
unfolding factor_at
factor_within S names m text =
    within_bind (length text) (length text) (power_at S names (after_blanks text)) _ (widened (length (after_blanks text)) (length text) (power_at S names (after_blanks text)) (behind_shorter Blank text) (power_within S names (after_blanks text)))
    (λ x h. within_any (length text) (raised m x.0 (after_blanks text)) _ (λ k. h))
