-- What reading turn by turn gives has at most the size that it begins with.
use Rattle.std.specs.Prelude.{ℕ, zero, suc, ◌≡◌, ◌≤◌, Bool, true, false, List, length, Ok, Err, if◌then◌else◌, refl}
use Rattle.std.specs.declared.result.Result.{Result}
use Rattle.std.proofs.Common.{subst, arith}
use Rattle.lie_scan.specs.declared.stop.Stop.{Stop}
use Rattle.lie_scan.specs.Stops.{◌>>=◌}
use Rattle.lie_scan.specs.Turns.{Turn, goes_on, ends, after, turns, all_turns}

-- ---- what is read has at most a size
abbrev pub AtMost : {A : Type 0} → (A → ℕ) → ℕ → Result A Stop → Type 0
AtMost size n (Ok x) = size x ≤ n
AtMost size n (Err e) = Unit {0}

pub most_bind : {A B : Type 0} (size : B → ℕ) (n : ℕ) (r : Result A Stop) (f : A → Result B Stop) → ((x : A) → r ≡ Ok x → AtMost size n (f x)) → AtMost size n (r >>= f)
most_bind size n (Ok x) f k = k x refl
most_bind size n (Err e) f k = tt

pub most_if : {A : Type 0} (size : A → ℕ) (n : ℕ) (b : Bool) (r s : Result A Stop) → AtMost size n r → AtMost size n s → AtMost size n (if b then r else s)
most_if size n true r s h k = h
most_if size n false r s h k = k

pub most_of : {A : Type 0} (size : A → ℕ) (n : ℕ) (r : Result A Stop) (x : A) → AtMost size n r → r ≡ Ok x → size x ≤ n
most_of size n r x h is = subst (AtMost size n) is h

wider : {A : Type 0} (size : A → ℕ) (n m : ℕ) (r : Result A Stop) → n ≤ m → AtMost size n r → AtMost size m r
wider size n m (Ok x) le h = omega arith
wider size n m (Err e) le h = tt

-- ---- turns that keep a size
module _ {S R : Type 0} (state : S → List ℕ → ℕ) (size : R → ℕ) where
  abbrev pub turn_size : Turn S R → ℕ
  turn_size (goes_on s rest) = state s rest
  turn_size (ends r) = size r

  then_most : (n : ℕ) (f : S → List ℕ → Result R Stop) (r : Result (Turn S R) Stop) → AtMost turn_size n r → ((s : S) (rest : List ℕ) → AtMost size (state s rest) (f s rest)) → AtMost size n (r >>= after f)
  then_most n f (Ok (goes_on s rest)) h k = wider size (state s rest) n (f s rest) h (k s rest)
  then_most n f (Ok (ends r)) h k = h
  then_most n f (Err e) h k = tt

  module _ (turn : S → List ℕ → Result (Turn S R) Stop) (keeps : (s : S) (text : List ℕ) → AtMost turn_size (state s text) (turn s text)) where
    turns_most : (n : ℕ) (s : S) (text : List ℕ) → AtMost size (state s text) (turns turn n s text)
    turns_most zero s text = tt
    turns_most (suc n) s text = then_most (state s text) (turns turn n) (turn s text) (keeps s text) (turns_most n)

    pub all_turns_most : (s : S) (text : List ℕ) → AtMost size (state s text) (all_turns turn s text)
    unfolding all_turns
    all_turns_most s text = turns_most (suc (length text)) s text
