-- Elements that are put into a list and taken out of it, step by step.
use Rattle.std.specs.Prelude.{◌≡◌, ℕ, zero, suc, ◌<◌, List, [], ◌∷◌, ◌++◌, length, remove, get_or}
use Rattle.std.proofs.Common.{refl, sym, ap, subst, arith}
use Rattle.std.specs.List.{insert}
use Rattle.lie_replace.specs.Cleaning.{taken_back, AreFilled}

-- ---- places noted one after the other
pub taken_back-push : {X : Type 0} (is : List ℕ) (i : ℕ) (xs : List X) → taken_back (is ++ i ∷ []) xs ≡ taken_back is (remove xs i)
taken_back-push [] i xs = refl
taken_back-push (j ∷ is) i xs = ap (λ ys. remove ys j) (taken_back-push is i xs)

pub filled-push : {X : Type 0} (is : List ℕ) (i : ℕ) (xs : List X) → AreFilled is (remove xs i) → i < length xs → AreFilled (is ++ i ∷ []) xs
filled-push [] i xs h lt = (tt, lt)
filled-push (j ∷ is) i xs h lt = (filled-push is i xs h.0 lt, subst (λ ys. j < length ys) (sym (taken_back-push is i xs)) h.1)

pub filled-pop : {X : Type 0} (is : List ℕ) (i : ℕ) (xs : List X) → AreFilled (is ++ i ∷ []) xs → AreFilled is (remove xs i) × (i < length xs)
filled-pop [] i xs h = (tt, h.1)
filled-pop (j ∷ is) i xs h = let r = filled-pop is i xs h.0 in ((r.0, subst (λ ys. j < length ys) (taken_back-push is i xs) h.1), r.1)

-- ---- an element that is taken out and put back
pub restored : {X : Type 0} (xs : List X) (i : ℕ) (x : X) → i < length xs → x ≡ get_or xs i x → insert (remove xs i) i x ≡ xs
restored [] i x lt is = absurd (omega arith)
restored (y ∷ xs) zero x lt is = ap (λ z. z ∷ xs) is
restored (y ∷ xs) (suc i) x lt is = ap (λ zs. y ∷ zs) (restored xs i x (omega arith) is)
