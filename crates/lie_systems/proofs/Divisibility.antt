-- The content and the common monomial of triples: they divide all, each common divisor divides them, and a factor can be taken out of them.
use Rattle.std.specs.Prelude.{◌≡◌, ℕ, ◌*◌, ◌/◌, List, [], ◌∷◌, map, ℤ, pos, negsuc, ◌*ℤ◌, neg_ℤ, unsigned_abs, int_div}
use Rattle.std.proofs.Common.{refl, ap, ap₂, ◌∙◌, arith}
use Prim.Native.Nat.{◌∣◌}
use borrow.Author.Differences.{ints}
use Rattle.std.proofs.lemmas.Int.{unsigned_abs-mul}
use Rattle.std.proofs.lemmas.Nat.Gcd.{dvd_refl, dvd_trans, dvd-zero}
use Rattle.lie_math.specs.Integer.{*ℤ-idl}
use Rattle.lie_math.specs.Monomial.{Monomial, ◌·◌}
use Rattle.lie_systems.specs.Triples.{Triple}
use Rattle.lie_systems.specs.Laws.{DividesMonomial, DividesMonomials, DividesNumbers, ContentIsGreatest, CommonMonomialIsGreatest}
use Rattle.lie_math.specs.CommonDivisors.{common_divisor}
use Rattle.lie_math.proofs.ExactQuotients.{number_back}
use Rattle.lie_systems.specs.Normalised.{content, common_monomial, common_factor, divided, sign}
use Rattle.lie_math.proofs.CommonDivisors.{common_divisor_is, common_divisor-scaled}
use Rattle.lie_systems.proofs.Exponents.{common_first, common_second, common_factor-times, divides_common, factor_back}
use Rattle.lie_systems.proofs.Triples.{times_triple}

-- ---- they divide all
pub all_divided : (g : ℕ) (ts : List Triple) → g ∣ content ts → DividesNumbers g ts
all_divided g [] h = tt
all_divided g (t ∷ ts) h =
    let k = common_divisor_is (unsigned_abs t.2) (content ts) in
    (dvd_trans g h k.0, all_divided g ts (dvd_trans g h k.1))

content_greatest : (g : ℕ) (ts : List Triple) → DividesNumbers g ts → g ∣ content ts
content_greatest g [] h = dvd-zero g
content_greatest g (t ∷ ts) h = (common_divisor_is (unsigned_abs t.2) (content ts)).2 g h.0 (content_greatest g ts h.1)

divides_trans : (k m n : Monomial) → DividesMonomial k m → DividesMonomial m n → DividesMonomial k n
divides_trans k m n h g v = let a = h v in let b = g v in omega arith

pub all_common : (m : Monomial) (ts : List Triple) → DividesMonomial m (common_monomial ts) → DividesMonomials m ts
all_common m [] h = tt
all_common m (t ∷ []) h = (h, tt)
all_common m (t ∷ u ∷ ts) h = (
  divides_trans m (common_factor t.1 (common_monomial (u ∷ ts))) t.1 h (common_first t.1 (common_monomial (u ∷ ts))),
  all_common m (u ∷ ts) (divides_trans m (common_factor t.1 (common_monomial (u ∷ ts))) (common_monomial (u ∷ ts)) h (common_second t.1 (common_monomial (u ∷ ts)))),
)

common_greatest : (m : Monomial) (t : Triple) (ts : List Triple) → DividesMonomials m (t ∷ ts) → DividesMonomial m (common_monomial (t ∷ ts))
common_greatest m t [] h = h.0
common_greatest m t (u ∷ ts) h = divides_common m t.1 (common_monomial (u ∷ ts)) h.0 (common_greatest m u ts h.1)

pub content_is_greatest : ContentIsGreatest
content_is_greatest ts = (all_divided (content ts) ts (dvd_refl (content ts)), λ g h. content_greatest g ts h)

pub common_monomial_is_greatest : CommonMonomialIsGreatest
common_monomial_is_greatest t ts = (all_common (common_monomial (t ∷ ts)) (t ∷ ts) (λ v. omega arith), λ m h. common_greatest m t ts h)

-- ---- a factor of all
pub content-times : (m : Monomial) (a : ℤ) (ts : List Triple) → content (map (times_triple m a) ts) ≡ unsigned_abs a * content ts
content-times m a [] = nothing (unsigned_abs a)
  where
    nothing : (n : ℕ) → 0 ≡ n * 0
    nothing n = omega arith
content-times m a (t ∷ ts) = ap₂ common_divisor (unsigned_abs-mul a t.2) (content-times m a ts) ∙ common_divisor-scaled (unsigned_abs a) (unsigned_abs t.2) (content ts)

pub common_monomial-times : (m : Monomial) (a : ℤ) (t : Triple) (ts : List Triple) → common_monomial (map (times_triple m a) (t ∷ ts)) ≡ m · common_monomial (t ∷ ts)
common_monomial-times m a t [] = refl
common_monomial-times m a t (u ∷ ts) = ap (common_factor (m · t.1)) (common_monomial-times m a u ts) ∙ common_factor-times m t.1 (common_monomial (u ∷ ts))

-- ---- what is divided is back when it is multiplied
pub sign_twice : (z : ℤ) → sign z *ℤ sign z ≡ pos 1
sign_twice (pos n) = refl
sign_twice (negsuc n) = refl

pub size-sign : (z : ℤ) → unsigned_abs (sign z) ≡ 1
size-sign (pos n) = refl
size-sign (negsuc n) = refl

pub sign_divided : (x : ℤ) (g : ℕ) → sign x *ℤ int_div x (pos g) ≡ pos (unsigned_abs x / g)
sign_divided (pos n) g = *ℤ-idl (pos (n / g))
sign_divided (negsuc n) g = turned (n' / g)
  where
    n' : ℕ
    n' = unsigned_abs (negsuc n)

    turned : (k : ℕ) → negsuc 0 *ℤ neg_ℤ (pos k) ≡ pos k
    turned k = omega (arith, ints)

pub divided_back : (s : ℤ) (g : ℕ) (m : Monomial) (ts : List Triple) → s *ℤ s ≡ pos 1 → DividesNumbers g ts → DividesMonomials m ts → map (times_triple m (s *ℤ pos g)) (map (divided s g m) ts) ≡ ts
divided_back s g m [] e h k = refl
divided_back s g m (t ∷ ts) e h k =
    ap₂ ◌∷◌ (ap₂ (λ n x. (t.0, n, x)) (factor_back m t.1 k.0) (number_back s g t.2 e h.0)) (divided_back s g m ts e h.1 k.1)
