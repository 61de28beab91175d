-- What can be decided: pairs, conditions of all or some elements of a list, numbers, and the first number of a kind.
use Rattle.std.specs.Prelude.{◌≡◌, ℕ, zero, suc, ◌<◌, ◌≤◌, ◌⊎◌, Bool, true, false, eqb, ltb, leb, List, [], ◌∷◌}
use Rattle.std.proofs.Common.{refl, sym, ap, subst, ◌∙◌, arith, inl, inr, true≢false, eq-eqb, ltb-true, ltb-false, leb-true, leb-false, Ordering, Less, Equal, Greater}
use Rattle.std.specs.Cmp.{IsTotalOrder, tied_itself}
use Rattle.std.specs.FinMap.{IsAntisymmetric}
use Rattle.std.specs.List.{AllByRecursion as Every, Any, Contains}
use Rattle.std.specs.Ordering.{ordering_reverse}
use Rattle.lie_math.proofs.SomeElement.{any_head, any_tail}
use Rattle.lie_math.proofs.ContainedElements.{contained_cons, contains_first, contains_later, contains_nothing}
use Rattle.lie_math.proofs.SortedLists.{less_equal, not_both_less, less_greater}
use Rattle.lie_math.proofs.Tests.{same_number}

abbrev pub Decided : Type 0 → Type 0
Decided A = A ⊎ ¬ A

pub both_decided : {A B : Type 0} → Decided A → Decided B → Decided (A × B)
both_decided (inl a) (inl b) = inl (a, b)
both_decided (inl a) (inr n) = inr (λ p. n p.1)
both_decided (inr n) b = inr (λ p. n p.0)

pub if_decided : {A B : Type 0} → Decided A → Decided B → Decided (A → B)
if_decided (inl a) (inl b) = inl (λ x. b)
if_decided (inl a) (inr n) = inr (λ f. n (f a))
if_decided (inr n) b = inl (λ a. absurd (n a))

pub not_decided : {A : Type 0} → Decided A → Decided (¬ A)
not_decided (inl a) = inr (λ n. n a)
not_decided (inr n) = inl n

pub same_decided : {A B : Type 0} → (A → B) → (B → A) → Decided A → Decided B
same_decided f g (inl a) = inl (f a)
same_decided f g (inr n) = inr (λ b. n (g b))

-- ---- truth values and numbers
pub bool_decided : (a b : Bool) → Decided (a ≡ b)
bool_decided true true = inl refl
bool_decided true false = inr true≢false
bool_decided false true = inr (λ e. true≢false (sym e))
bool_decided false false = inl refl

pub number_decided : (m n : ℕ) → Decided (m ≡ n)
number_decided m n = go (eqb m n) refl
  where
    go : (t : Bool) → eqb m n ≡ t → Decided (m ≡ n)
    go true e = inl (same_number m n e)
    go false e = inr (λ s. true≢false (sym (eq-eqb m n s) ∙ e))

pub less_decided : (m n : ℕ) → Decided (m < n)
less_decided m n = go (ltb m n) refl
  where
    go : (t : Bool) → ltb m n ≡ t → Decided (m < n)
    go true e = inl (ltb-true m n e)
    go false e = inr (λ h. let k = ltb-false m n e in absurd (omega arith))

pub at_most_or_greater : (m n : ℕ) → (m ≤ n) ⊎ (n < m)
at_most_or_greater m n = go (leb m n) refl
  where
    go : (t : Bool) → leb m n ≡ t → (m ≤ n) ⊎ (n < m)
    go true e = inl (leb-true m n e)
    go false e = inr (let k = leb-false m n e in omega arith)

pub at_most_decided : (m n : ℕ) → Decided (m ≤ n)
at_most_decided m n = go (leb m n) refl
  where
    go : (t : Bool) → leb m n ≡ t → Decided (m ≤ n)
    go true e = inl (leb-true m n e)
    go false e = inr (λ h. let k = leb-false m n e in absurd (omega arith))

-- ---- lists
module _ {X : Type 0} (P : X → Type 0) where
  pub any_cases : (x : X) (xs : List X) → Any P (x ∷ xs) → P x ⊎ Any P xs
  any_cases x xs (zero, y, lt, is, p) = inl (subst P (sym is) p)
  any_cases x xs (suc k, y, lt, is, p) = inr (k, y, omega arith, is, p)

  pub any_with : (Q : X → Type 0) (xs : List X) → Every Q xs → Any P xs → (x : X) × Q x × P x
  any_with Q [] h a = absurd (omega (arith, a.2))
  any_with Q (x ∷ xs) h a = go (any_cases x xs a) (any_with Q xs h.1)
    where
      go : P x ⊎ Any P xs → (Any P xs → (y : X) × Q y × P y) → (y : X) × Q y × P y
      go (inl p) r = (x, h.0, p)
      go (inr b) r = r b

  -- each element has P, or some element has Q
  pub every_or_any : (Q : X → Type 0) → ((x : X) → P x ⊎ Q x) → (xs : List X) → Every P xs ⊎ Any Q xs
  every_or_any Q tell [] = inl tt
  every_or_any Q tell (x ∷ xs) = go (tell x) (every_or_any Q tell xs)
    where
      go : P x ⊎ Q x → Every P xs ⊎ Any Q xs → Every P (x ∷ xs) ⊎ Any Q (x ∷ xs)
      go (inl p) (inl h) = inl (p, h)
      go (inl p) (inr a) = inr (any_tail Q x xs a)
      go (inr q) r = inr (any_head Q x xs q)

  module _ (tell : (x : X) → Decided (P x)) where
    pub every_decided : (xs : List X) → Decided (Every P xs)
    every_decided [] = inl tt
    every_decided (x ∷ xs) = both_decided (tell x) (every_decided xs)

    pub any_decided : (xs : List X) → Decided (Any P xs)
    any_decided [] = inr (λ a. absurd (omega (arith, a.2)))
    any_decided (x ∷ xs) = go (tell x) (any_decided xs)
      where
        neither : ¬ (P x) → ¬ (Any P xs) → P x ⊎ Any P xs → ⊥
        neither n m (inl p) = n p
        neither n m (inr a) = m a

        go : Decided (P x) → Decided (Any P xs) → Decided (Any P (x ∷ xs))
        go (inl p) r = inl (any_head P x xs p)
        go (inr n) (inl a) = inl (any_tail P x xs a)
        go (inr n) (inr m) = inr (λ a. neither n m (any_cases x xs a))

    -- an element with P, or none
    pub some_element : (xs : List X) → ((x : X) × Contains xs x × P x) ⊎ Every (λ x. ¬ (P x)) xs
    some_element [] = inr tt
    some_element (x ∷ xs) = go (tell x) (some_element xs)
      where
        go : Decided (P x) → ((y : X) × Contains xs y × P y) ⊎ Every (λ x. ¬ (P x)) xs → ((y : X) × Contains (x ∷ xs) y × P y) ⊎ Every (λ x. ¬ (P x)) (x ∷ xs)
        go (inl p) r = inl (x, contains_first x xs, p)
        go (inr n) (inl (y, c, p)) = inl (y, contains_later x xs y c, p)
        go (inr n) (inr h) = inr (n, h)

    -- the least one in an order
    module _ (R : X → X → Ordering) (o : IsTotalOrder R) (same : IsAntisymmetric R) where
      abbrev pub LeastOf : List X → Type 0
      LeastOf xs = (x : X) × P x × Contains xs x × ((y : X) → Contains xs y → P y → ¬ (R y x ≡ Less))

      not_itself : (x : X) → ¬ (R x x ≡ Less)
      not_itself x h = less_equal h (tied_itself o x)

      through : (x y z : X) → ¬ (R y x ≡ Less) → ¬ (R z y ≡ Less) → R z x ≡ Less → ⊥
      through x y z n m h = go (R y z) refl
        where
          go : (r : Ordering) → R y z ≡ r → ⊥
          go Less e = n (o.trans y z x e h)
          go Equal e = n (ap (λ w. R w x) (same y z e) ∙ h)
          go Greater e = m (o.antisymm z y ∙ ap ordering_reverse e)

      pub least_element : (xs : List X) → LeastOf xs ⊎ ((y : X) → Contains xs y → ¬ (P y))
      least_element [] = inr (λ y c. absurd (contains_nothing y c))
      least_element (x ∷ xs) = go (tell x) (least_element xs)
        where
          cases : (Q : X → Type 0) → Q x → ((y : X) → Contains xs y → Q y) → (y : X) → Contains (x ∷ xs) y → Q y
          cases Q q f y c = at (contained_cons x xs y c)
            where
              at : (x ≡ y) ⊎ Contains xs y → Q y
              at (inl e) = subst Q e q
              at (inr k) = f y k

          go : Decided (P x) → LeastOf xs ⊎ ((y : X) → Contains xs y → ¬ (P y)) → LeastOf (x ∷ xs) ⊎ ((y : X) → Contains (x ∷ xs) y → ¬ (P y))
          go (inr n) (inr none) = inr (cases (λ y. ¬ (P y)) n none)
          go (inr n) (inl (y, p, c, f)) = inl (y, p, contains_later x xs y c, cases (λ z. P z → ¬ (R z y ≡ Less)) (λ q. absurd (n q)) f)
          go (inl p) (inr none) = inl (x, p, contains_first x xs, cases (λ z. P z → ¬ (R z x ≡ Less)) (λ q. not_itself x) (λ z k q. absurd (none z k q)))
          go (inl p) (inl (y, q, c, f)) = by (R y x) refl
            where
              by : (r : Ordering) → R y x ≡ r → LeastOf (x ∷ xs) ⊎ ((y : X) → Contains (x ∷ xs) y → ¬ (P y))
              by Less e = inl (y, q, contains_later x xs y c, cases (λ z. P z → ¬ (R z y ≡ Less)) (λ w h. not_both_less R o same x y h e) f)
              by Equal e = inl (x, p, contains_first x xs, cases (λ z. P z → ¬ (R z x ≡ Less)) (λ w. not_itself x) (λ z k w h. through x y z (λ l. less_equal l e) (f z k w) h))
              by Greater e = inl (x, p, contains_first x xs, cases (λ z. P z → ¬ (R z x ≡ Less)) (λ w. not_itself x) (λ z k w h. through x y z (λ l. less_greater l e) (f z k w) h))

-- ---- numbers below a bound
module _ (P : ℕ → Type 0) (tell : (v : ℕ) → Decided (P v)) where
  abbrev pub FirstBelow : ℕ → Type 0
  FirstBelow n = (v : ℕ) × (v < n) × P v × ((w : ℕ) → w < v → ¬ (P w))

  pub search_below : (n : ℕ) → FirstBelow n ⊎ ((v : ℕ) → v < n → ¬ (P v))
  search_below zero = inr (λ v lt. absurd (omega arith))
  search_below (suc n) = go (search_below n) (tell n)
    where
      go : FirstBelow n ⊎ ((v : ℕ) → v < n → ¬ (P v)) → Decided (P n) → FirstBelow (suc n) ⊎ ((v : ℕ) → v < suc n → ¬ (P v))
      go (inl (v, lt, p, f)) d = inl (v, omega arith, p, f)
      go (inr none) (inl p) = inl (n, omega arith, p, none)
      go (inr none) (inr m) = inr (λ v lt p. at v lt p (number_decided v n))
        where
          at : (v : ℕ) → v < suc n → P v → Decided (v ≡ n) → ⊥
          at v lt p (inl e) = m (subst P e p)
          at v lt p (inr k) = none v (omega arith) p

  pub all_below_decided : (n : ℕ) → Decided ((v : ℕ) → v < n → P v)
  all_below_decided zero = inl (λ v lt. absurd (omega arith))
  all_below_decided (suc n) = go (all_below_decided n) (tell n)
    where
      go : Decided ((v : ℕ) → v < n → P v) → Decided (P n) → Decided ((v : ℕ) → v < suc n → P v)
      go (inl h) (inl p) = inl (λ v lt. at v lt (number_decided v n))
        where
          at : (v : ℕ) → v < suc n → Decided (v ≡ n) → P v
          at v lt (inl e) = subst P (sym e) p
          at v lt (inr k) = h v (omega arith)
      go (inl h) (inr m) = inr (λ f. m (f n (omega arith)))
      go (inr k) d = inr (λ f. k (λ v lt. f v (omega arith)))
