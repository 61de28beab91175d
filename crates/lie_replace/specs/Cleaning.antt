-- Elements that were put into a list, so that all can be undone.
use Rattle.std.specs.Prelude.{ℕ, ◌<◌, List, [], ◌∷◌, length, remove}

-- the list without what was put at these places, one after the other
abbrev pub taken_back : {X : Type 0} → List ℕ → List X → List X
taken_back [] xs = xs
taken_back (i ∷ is) xs = remove (taken_back is xs) i

-- there is an element at each of them
abbrev pub AreFilled : {X : Type 0} → List ℕ → List X → Type 0
AreFilled [] xs = Unit {0}
AreFilled (i ∷ is) xs = AreFilled is xs × (i < length (taken_back is xs))
