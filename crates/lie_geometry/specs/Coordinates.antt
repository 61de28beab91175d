-- Jet coordinates and their numbers: the independent variables, the dependent variables, and then the jets of order 1, of order 2 and so
-- on; within an order by dependent variable, and then by counts, the lexicographically greater first.
use Rattle.std.specs.Prelude.{◌≡◌, ℕ, zero, suc, ◌+◌, ◌*◌, ◌-◌, ◌<◌, cond, List, [], ◌∷◌, length, eqb, ltb, leb}
use Rattle.lie_math.specs.Counts.{order}

-- the numbers of independent and of dependent variables
pub record Space : Type 0 where
  pub p : ℕ
  pub q : ℕ

pub data Coordinate : Type 0 where
  -- an independent variable
  independent : ℕ → Coordinate
  -- a dependent variable, and how often it is derived by each independent variable
  jet : ℕ → List ℕ → Coordinate

abbrev pub IsCoordinate : Space → Coordinate → Type 0
IsCoordinate S (independent i) = i < S.p
IsCoordinate S (jet a J) = (a < S.q) × (length J ≡ S.p)

abbrev pub order_of : Coordinate → ℕ
order_of (independent i) = 0
order_of (jet a J) = order J

-- ---- the numbers
abbrev pub sum_below : (ℕ → ℕ) → ℕ → ℕ
sum_below f zero = 0
sum_below f (suc n) = sum_below f n + f n

-- how many lists of p counts have the sum n
abbrev pub ways : ℕ → ℕ → ℕ
ways zero n = cond (eqb n 0) 1 0
ways (suc p) n = sum_below (ways p) (suc n)

-- how many lists of as many counts with the same sum are lexicographically greater
abbrev pub rank : List ℕ → ℕ
rank [] = 0
rank (c ∷ J) = sum_below (ways (length J)) (order J) + rank J

-- how many jets have an order below n
abbrev pub jets_below : Space → ℕ → ℕ
jets_below S n = S.q * sum_below (ways S.p) n

unfoldable pub number : Space → Coordinate → ℕ
number S (independent i) = i
number S (jet a J) = S.p + (jets_below S (order J) + (a * ways S.p (order J) + rank J))

-- how many coordinates have the orders 0 to n
abbrev pub coordinates_up_to : Space → ℕ → ℕ
coordinates_up_to S n = S.p + jets_below S (suc n)

-- ---- and back
-- the greatest s up to n with f s ≤ r
abbrev pub seek : (ℕ → ℕ) → ℕ → ℕ → ℕ
seek f r zero = 0
seek f r (suc n) = cond (leb (f (suc n)) r) (suc n) (seek f r n)

-- the p counts with the sum n and the rank r
abbrev pub unrank : ℕ → ℕ → ℕ → List ℕ
unrank zero n r = []
unrank (suc p) n r =
    (n - seek (sum_below (ways p)) r n) ∷ unrank p (seek (sum_below (ways p)) r n) (r - sum_below (ways p) (seek (sum_below (ways p)) r n))

-- the r-th jet of order n
abbrev pub nth_of_order : Space → ℕ → ℕ → Coordinate
nth_of_order S n r = jet (seek (λ a. a * ways S.p n) r S.q) (unrank S.p n (r - seek (λ a. a * ways S.p n) r S.q * ways S.p n))

unfoldable pub coordinate : Space → ℕ → Coordinate
coordinate S w = cond (ltb w S.p)
    (independent w)
    (let r : ℕ = w - S.p in let n : ℕ = seek (jets_below S) r r in nth_of_order S n (r - jets_below S n))
