-- What reading gives: a value, or nothing where the text is not one of its kind.
use Rattle.std.specs.Prelude.{◌≡◌, List, [], ◌∷◌, ◌++◌, ℕ, Some, None, Ok, Err}
use Rattle.std.specs.declared.option.Option.{Option}
use Rattle.std.specs.declared.result.Result.{Result}
use Rattle.lie_readback.specs.declared.unread.Unread.{Unread}
use Rattle.lie_readback.specs.declared.unread.Unread.TheVariants.{Other, NoMemory}

infixl 10 ◌>>=◌
abbrev pub ◌>>=◌ : {A B : Type 0} → Option A → (A → Option B) → Option B
(Some x) >>= f = f x
None >>= f = None

-- nothing is read, unless memory ran out
abbrev pub Fails : {Y : Type 0} → Unread → Option Y → Type 0
Fails Other read = read ≡ None
Fails NoMemory read = Unit {0}

-- what a call answered, seen by view, is what reading gives, unless memory ran out
abbrev pub Reads : {X Y : Type 0} → (X → Y) → Result X Unread → Option Y → Type 0
Reads view (Ok x) read = read ≡ Some (view x)
Reads view (Err e) read = Fails e read

-- values read before, and what each text gives
abbrev pub read_each : {X : Type 0} → (List ℕ → Option X) → List X → List (List ℕ) → Option (List X)
read_each read xs [] = Some xs
read_each read xs (t ∷ ts) = read t >>= λ x. read_each read (xs ++ x ∷ []) ts

-- a value with the texts of which it is told is the answer, and there is no answer only where no value has them
abbrev pub Finds : {X Y T : Type 0} → (X → Y) → (Y → Type 0) → (Y → T) → T → Result X Unread → Type 0
Finds view Is text t (Ok x) = (y : _) → Is y → text y ≡ t → view x ≡ y
Finds view Is text t (Err Other) = (y : _) → Is y → ¬ (text y ≡ t)
Finds view Is text t (Err NoMemory) = Unit {0}
