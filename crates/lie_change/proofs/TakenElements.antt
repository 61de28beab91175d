-- Equations with an unknown taken out of a list, the last one first.
use Rattle.std.specs.Prelude.{◌≡◌, ℕ, zero, suc, ◌+◌, ◌<◌, ◌≤◌, Bool, true, false, cond, not, List, [], ◌∷◌, ◌++◌, length, get_or, remove, take, drop}
use Rattle.std.proofs.Common.{refl, sym, ap, subst, ◌∙◌, arith, append_assoc}
use Rattle.std.proofs.lemmas.List.{take_more, drop_more, length-take-le}
use Rattle.lie_math.specs.LinearForm.{LinearForm, no_form}
use Rattle.lie_steps.specs.Equations.{mentions}
use Rattle.lie_change.specs.Lists.{unmentioned}

-- ---- an element between others
between_at : {X : Type 0} (xs : List X) (x : X) (ys : List X) (p : ℕ) (d : X) → p ≡ length xs → get_or (xs ++ x ∷ ys) p d ≡ x
between_at [] x ys zero d e = refl
between_at [] x ys (suc p) d e = absurd (omega arith)
between_at (z ∷ xs) x ys zero d e = absurd (omega arith)
between_at (z ∷ xs) x ys (suc p) d e = between_at xs x ys p d (omega arith)

between_removed : {X : Type 0} (xs : List X) (x : X) (ys : List X) (p : ℕ) → p ≡ length xs → remove (xs ++ x ∷ ys) p ≡ xs ++ ys
between_removed [] x ys zero e = refl
between_removed [] x ys (suc p) e = absurd (omega arith)
between_removed (z ∷ xs) x ys zero e = absurd (omega arith)
between_removed (z ∷ xs) x ys (suc p) e = ap (λ zs. z ∷ zs) (between_removed xs x ys p (omega arith))

-- ---- one place more
taken_between : (f : ℕ) (xs : List LinearForm) (x : LinearForm) (ys : List LinearForm) (p : ℕ) → p ≡ length xs
    → cond (mentions f (get_or (xs ++ x ∷ unmentioned f ys) p no_form)) (remove (xs ++ x ∷ unmentioned f ys) p) (xs ++ x ∷ unmentioned f ys)
    ≡ xs ++ unmentioned f (x ∷ ys)
taken_between f xs x ys p e =
    ap (λ z. cond (mentions f z) (remove (xs ++ x ∷ unmentioned f ys) p) (xs ++ x ∷ unmentioned f ys))
    (between_at xs x (unmentioned f ys) p no_form e) ∙ go (mentions f x)
  where
    go : (b : Bool) → cond b (remove (xs ++ x ∷ unmentioned f ys) p) (xs ++ x ∷ unmentioned f ys)
        ≡ xs ++ cond (not b) (x ∷ unmentioned f ys) (unmentioned f ys)
    go true = between_removed xs x (unmentioned f ys) p e
    go false = refl

pub taken_more : (f : ℕ) (all now new : List LinearForm) (q p : ℕ) → q ≡ p + 1 → q ≤ length all
    → now ≡ take q all ++ unmentioned f (drop q all) → new ≡ cond (mentions f (get_or now p no_form)) (remove now p) now
    → new ≡ take p all ++ unmentioned f (drop p all)
taken_more f all now new q p e le is h =
    let lt : p < length all = omega arith in
    let x = get_or all p no_form in
    let front : now ≡ take p all ++ x ∷ unmentioned f (drop (p + 1) all) =
    is ∙ ap (λ n. take n all ++ unmentioned f (drop n all)) e
    ∙ ap (λ (ys : List LinearForm). ys ++ unmentioned f (drop (p + 1) all)) (take_more all p no_form lt)
    ∙ append_assoc (take p all) (x ∷ []) (unmentioned f (drop (p + 1) all)) in
    h ∙ ap (λ (ys : List LinearForm). cond (mentions f (get_or ys p no_form)) (remove ys p) ys) front
    ∙ taken_between f (take p all) x (drop (p + 1) all) p (sym (length-take-le p all (omega arith)))
    ∙ ap (λ (ys : List LinearForm). take p all ++ unmentioned f ys) (sym (drop_more all p no_form lt))

pub taken_less : (f : ℕ) (all now : List LinearForm) (p : ℕ) → p ≤ length all → now ≡ take p all ++ unmentioned f (drop p all) → p ≤ length now
taken_less f all now p le e =
    let l = length-take-le p all le in
    subst (λ (ys : List LinearForm). p ≤ length ys) (sym e) (go (take p all) (unmentioned f (drop p all)) p (sym l))
  where
    go : (xs ys : List LinearForm) (n : ℕ) → n ≡ length xs → n ≤ length (xs ++ ys)
    go [] ys n h = omega arith
    go (x ∷ xs) ys zero h = omega arith
    go (x ∷ xs) ys (suc n) h = let r = go xs ys n (omega arith) in omega arith
