-- Identities of commutative rings, by computing. `solve R ρ l r refl` proves what the two expressions say at the values ρ.
use Rattle.std.specs.Prelude.{◌≡◌, ℕ, zero, suc, true, false, cond, List, [], ◌∷◌, ◌++◌}
use Rattle.std.proofs.Common.{refl, sym, ap, ap₂, ◌∙◌, Ordering, is_gt, nat_cmp, ◌++◌}
use Rattle.std.specs.Cmp.Lexicographic.{slice_cmp}
use Rattle.lie_math.specs.Ring.{Ring}
use Rattle.lie_math.specs.Canonical.{left_comm, middle}
use Rattle.lie_math.proofs.Ring.{dist_r, nil_times, plus_cancel, plus_idr, times_idr, times_left_comm, times_nil}

pub data Expr : Type 0 where
  v : ℕ → Expr
  c0 : Expr
  c1 : Expr
  ◌⊕◌ : Expr → Expr → Expr
  ◌⊗◌ : Expr → Expr → Expr
  ⊖ : Expr → Expr

infixl 6 ◌⊕◌
infixl 7 ◌⊗◌
-- a product of variables, in order; a sum of products
abbrev pub Products : Type 0
Products = List (List ℕ)

abbrev put_in : {X : Type 0} → (X → X → Ordering) → X → List X → List X
put_in R x [] = x ∷ []
put_in R x (y ∷ ys) = cond (is_gt (R x y)) (y ∷ put_in R x ys) (x ∷ y ∷ ys)

abbrev sorted : {X : Type 0} → (X → X → Ordering) → List X → List X
sorted R [] = []
sorted R (x ∷ xs) = put_in R x (sorted R xs)

abbrev merged : List ℕ → List ℕ → List ℕ
merged [] n = n
merged (x ∷ m) n = put_in nat_cmp x (merged m n)

abbrev by_one : List ℕ → Products → Products
by_one m [] = []
by_one m (n ∷ ns) = merged m n ∷ by_one m ns

abbrev by_all : Products → Products → Products
by_all [] ns = []
by_all (m ∷ ms) ns = by_one m ns ++ by_all ms ns

-- the products that are added, and those that are taken off
abbrev pub sides : Expr → Products × Products
sides (v i) = ((i ∷ []) ∷ [], [])
sides c0 = ([], [])
sides c1 = ([] ∷ [], [])
sides (a ⊕ b) = let p = sides a in let q = sides b in (p.0 ++ q.0, p.1 ++ q.1)
sides (a ⊗ b) = let p = sides a in let q = sides b in (by_all p.0 q.0 ++ by_all p.1 q.1, by_all p.0 q.1 ++ by_all p.1 q.0)
sides (⊖ a) = let p = sides a in (p.1, p.0)

abbrev pub in_order : Products → Products
in_order = sorted (slice_cmp nat_cmp)

module _ {A : Type 0} (R : Ring A) (at : ℕ → A) where
  abbrev pub means : Expr → A
  means (v i) = at i
  means c0 = R.adder.nil
  means c1 = R.one
  means (a ⊕ b) = R.adder.plus (means a) (means b)
  means (a ⊗ b) = R.times (means a) (means b)
  means (⊖ a) = R.neg (means a)

  abbrev product : List ℕ → A
  product [] = R.one
  product (i ∷ m) = R.times (at i) (product m)

  abbrev sum : Products → A
  sum [] = R.adder.nil
  sum (m ∷ ms) = R.adder.plus (product m) (sum ms)

  product-put_in : (i : ℕ) (m : List ℕ) → product (put_in nat_cmp i m) ≡ R.times (at i) (product m)
  product-put_in i [] = refl
  product-put_in i (j ∷ m) = elim (is_gt (nat_cmp i j)) as (λ t. product (cond t (j ∷ put_in nat_cmp i m) (i ∷ j ∷ m)) ≡ R.times (at i) (product (j ∷ m))) [
    | true ↦ ap (R.times (at j)) (product-put_in i m) ∙ times_left_comm R _ _ _
    | false ↦ refl
  ]

  product-merged : (m n : List ℕ) → product (merged m n) ≡ R.times (product m) (product n)
  product-merged [] n = sym (R.times_idl _)
  product-merged (i ∷ m) n = product-put_in i (merged m n) ∙ ap (R.times (at i)) (product-merged m n) ∙ sym (R.times_assoc _ _ _)

  sum-append : (ms ns : Products) → sum (ms ++ ns) ≡ R.adder.plus (sum ms) (sum ns)
  sum-append [] ns = sym (R.adder.idl _)
  sum-append (m ∷ ms) ns = ap (R.adder.plus (product m)) (sum-append ms ns) ∙ sym (R.adder.assoc _ _ _)

  sum-by_one : (m : List ℕ) (ns : Products) → sum (by_one m ns) ≡ R.times (product m) (sum ns)
  sum-by_one m [] = sym (times_nil R _)
  sum-by_one m (n ∷ ns) = ap₂ R.adder.plus (product-merged m n) (sum-by_one m ns) ∙ sym (R.dist _ _ _)

  sum-by_all : (ms ns : Products) → sum (by_all ms ns) ≡ R.times (sum ms) (sum ns)
  sum-by_all [] ns = sym (nil_times R _)
  sum-by_all (m ∷ ms) ns = sum-append (by_one m ns) (by_all ms ns) ∙ ap₂ R.adder.plus (sum-by_one m ns) (sum-by_all ms ns) ∙ sym (dist_r R _ _ _)

  sum-put_in : (m : List ℕ) (ms : Products) → sum (put_in (slice_cmp nat_cmp) m ms) ≡ R.adder.plus (product m) (sum ms)
  sum-put_in m [] = refl
  sum-put_in m (n ∷ ms) = elim (is_gt (slice_cmp nat_cmp m n)) as (λ t. sum (cond t (n ∷ put_in (slice_cmp nat_cmp) m ms) (m ∷ n ∷ ms)) ≡ R.adder.plus (product m) (sum (n ∷ ms))) [
    | true ↦ ap (R.adder.plus (product n)) (sum-put_in m ms) ∙ left_comm R.adder _ _ _
    | false ↦ refl
  ]

  sum-in_order : (ms : Products) → sum (in_order ms) ≡ sum ms
  sum-in_order [] = refl
  sum-in_order (m ∷ ms) = sum-put_in m (in_order ms) ∙ ap (R.adder.plus (product m)) (sum-in_order ms)

  -- e + what is taken off is what is added
  balance : (e : Expr) → R.adder.plus (means e) (sum (sides e).1) ≡ sum (sides e).0
  balance (v i) = ap (λ x. R.adder.plus x R.adder.nil) (sym (times_idr R (at i)))
  balance c0 = plus_idr R _
  balance c1 = refl
  balance (a ⊕ b) =
      ap (R.adder.plus (means (a ⊕ b))) (sum-append (sides a).1 (sides b).1) ∙ middle R.adder _ _ _ _ ∙ ap₂ R.adder.plus (balance a) (balance b)
      ∙ sym (sum-append (sides a).0 (sides b).0)
  balance (a ⊗ b) =
      ap (R.adder.plus (means (a ⊗ b))) (sum-append (by_all (sides a).0 (sides b).1) (by_all (sides a).1 (sides b).0) ∙ ap₂ R.adder.plus (sum-by_all (sides a).0 (sides b).1 ∙ ap (λ x. R.times x (sum (sides b).1)) (sym (balance a))) (sum-by_all (sides a).1 (sides b).0 ∙ ap (R.times (sum (sides a).1)) (sym (balance b))))
      ∙ rearrange (means a) (means b) (sum (sides a).1) (sum (sides b).1)
      ∙ sym (sum-append (by_all (sides a).0 (sides b).0) (by_all (sides a).1 (sides b).1) ∙ ap₂ R.adder.plus (sum-by_all (sides a).0 (sides b).0 ∙ ap₂ R.times (sym (balance a)) (sym (balance b))) (sum-by_all (sides a).1 (sides b).1))
    where
      -- ab + ((a + x)y + x(b + y)) = (a + x)(b + y) + xy
      rearrange : (a b x y : A) → R.adder.plus (R.times a b) (R.adder.plus (R.times (R.adder.plus a x) y) (R.times x (R.adder.plus b y))) ≡ R.adder.plus (R.times (R.adder.plus a x) (R.adder.plus b y)) (R.times x y)
      rearrange a b x y = simp (R.dist, dist_r R, R.adder.assoc, left_comm R.adder)
  balance (⊖ a) =
      ap (R.adder.plus (R.neg (means a))) (sym (balance a)) ∙ sym (R.adder.assoc _ _ _) ∙ ap (λ x. R.adder.plus x (sum (sides a).1)) (R.neg_l _) ∙ R.adder.idl _

  pub solve : (l r : Expr) → in_order ((sides l).0 ++ (sides r).1) ≡ in_order ((sides r).0 ++ (sides l).1) → means l ≡ means r
  solve l r e =
      plus_cancel R (means l) (means r) (R.adder.plus (sum (sides l).1) (sum (sides r).1)) (
      move (sum (sides l).1) (sum (sides r).1) (means l)
      ∙ ap (λ x. R.adder.plus x (sum (sides r).1)) (balance l) ∙ sym (sum-append (sides l).0 (sides r).1)
      ∙ sym (sum-in_order ((sides l).0 ++ (sides r).1)) ∙ ap sum e ∙ sum-in_order ((sides r).0 ++ (sides l).1)
      ∙ sum-append (sides r).0 (sides l).1 ∙ ap (λ x. R.adder.plus x (sum (sides l).1)) (sym (balance r))
      ∙ sym (move (sum (sides r).1) (sum (sides l).1) (means r)) ∙ ap (λ x. R.adder.plus x (means r)) (R.adder.comm _ _))
    where
      move : (x y z : A) → R.adder.plus (R.adder.plus x y) z ≡ R.adder.plus (R.adder.plus z x) y
      move x y z = simp (R.adder.assoc, R.adder.comm)

abbrev pub listed : {A : Type 0} → A → List A → ℕ → A
listed d [] n = d
listed d (x ∷ xs) zero = x
listed d (x ∷ xs) (suc n) = listed d xs n
