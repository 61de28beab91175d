-- Monomials by exponents: each exponent changed, the greatest common factor, and what is left without a factor.
use Rattle.std.specs.Prelude.{◌≡◌, ℕ, ◌+◌, ◌-◌, ◌≤◌, min, Bool, true, false, cond, map, List, [], ◌∷◌}
use Rattle.std.proofs.Common.{refl, sym, ap, ap₂, ◌∙◌, arith}
use Rattle.std.specs.Ordering.{eq_by_cmp, nat_cmp}
use Rattle.std.specs.Cmp.{nat_cmp_total}
use Rattle.std.specs.FinMap.{nat_cmp-IsAntisymmetric}
use Rattle.lie_math.specs.Natural.{exponents}
use Rattle.lie_math.specs.SortedSum.{value_at}
use Rattle.lie_math.specs.Canonical.{value_at-below}
use Rattle.lie_math.specs.FiniteSumLaws.{ext, value-of, value-none}
use Rattle.lie_math.specs.Monomial.{Monomial, exponent, powers, unit, ◌·◌}
use Rattle.lie_math.proofs.FiniteSum.{key}
use Rattle.lie_math.specs.FiniteSum.{IsCanonical}
use Rattle.lie_math.proofs.CanonicalLists.{canonical_below, canonical_tail}
use Rattle.lie_math.proofs.Monomial.{exponent-·}
use Rattle.lie_systems.specs.Laws.{DividesMonomial}
use Rattle.lie_systems.specs.Normalised.{each_exponent, common_factor, without_factor}

module _ (f : ℕ → ℕ → ℕ) (zero_kept : (v : ℕ) → f v 0 ≡ 0) where
  each_value : (v : ℕ) (ps : List (ℕ × ℕ)) → IsCanonical powers ps → value_at nat_cmp exponents v (map (λ p. (p.0, f p.0 p.1)) ps) ≡ f v (value_at nat_cmp exponents v ps)
  each_value v [] h = sym (zero_kept v)
  each_value v (p ∷ ps) h = go (eq_by_cmp nat_cmp v p.0) refl (each_value v ps (canonical_tail powers p ps h))
    where
      left : (a b c : ℕ) → b ≡ c → c ≡ 0 → a + b ≡ a
      left a b c e z = omega arith

      alone : v ≡ p.0 → value_at nat_cmp exponents v ps ≡ 0
      alone e = ap (λ k. value_at nat_cmp exponents k ps) e ∙ value_at-below nat_cmp exponents nat_cmp_total nat_cmp-IsAntisymmetric p.0 ps (canonical_below powers p ps h)

      plain : (b : ℕ) → 0 + b ≡ b
      plain b = omega arith

      go : (t : Bool) → eq_by_cmp nat_cmp v p.0 ≡ t → value_at nat_cmp exponents v (map (λ p. (p.0, f p.0 p.1)) ps) ≡ f v (value_at nat_cmp exponents v ps)
          → cond t (f p.0 p.1) 0 + value_at nat_cmp exponents v (map (λ p. (p.0, f p.0 p.1)) ps) ≡ f v (cond t p.1 0 + value_at nat_cmp exponents v ps)
      go true e i =
          let s : v ≡ p.0 = key powers v p.0 e in
          left (f p.0 p.1) _ _ i (ap (f v) (alone s) ∙ zero_kept v) ∙ ap₂ f (sym s) (sym (left p.1 _ _ (alone s) refl))
      go false e i = plain _ ∙ i ∙ ap (f v) (sym (plain _))

  pub exponent-each : (m : Monomial) (v : ℕ) → exponent (each_exponent f m) v ≡ f v (exponent m v)
  unfolding each_exponent
  exponent-each m v = value-of powers (map (λ p. (p.0, f p.0 p.1)) m.list) v ∙ each_value v m.list m.canonical

pub exponent-common : (m n : Monomial) (v : ℕ) → exponent (common_factor m n) v ≡ min (exponent m v) (exponent n v)
exponent-common m n v = exponent-each (λ v e. min e (exponent n v)) (λ v. nothing (exponent n v)) m v
  where
    nothing : (a : ℕ) → min 0 a ≡ 0
    nothing a = omega arith

pub exponent-without : (n m : Monomial) (v : ℕ) → exponent (without_factor n m) v ≡ exponent m v - exponent n v
exponent-without n m v = exponent-each (λ v e. e - exponent n v) (λ v. nothing (exponent n v)) m v
  where
    nothing : (a : ℕ) → 0 - a ≡ 0
    nothing a = omega arith

pub factor_back : (n m : Monomial) → DividesMonomial n m → n · without_factor n m ≡ m
factor_back n m h = ext powers (n · without_factor n m) m (λ v. let k = h v in exponent-· n (without_factor n m) v ∙ ap (λ e. exponent n v + e) (exponent-without n m v) ∙ back (exponent n v) (exponent m v) k)
  where
    back : (a b : ℕ) → a ≤ b → a + (b - a) ≡ b
    back a b k = omega arith

-- a factor of both is a factor of the greatest
pub common_factor-times : (k m n : Monomial) → common_factor (k · m) (k · n) ≡ k · common_factor m n
common_factor-times k m n = ext powers (common_factor (k · m) (k · n)) (k · common_factor m n) (λ v.
    exponent-common (k · m) (k · n) v ∙ ap₂ min (exponent-· k m v) (exponent-· k n v) ∙ taken (exponent k v) (exponent m v) (exponent n v)
    ∙ ap (λ e. exponent k v + e) (sym (exponent-common m n v)) ∙ sym (exponent-· k (common_factor m n) v))
  where
    taken : (a b c : ℕ) → min (a + b) (a + c) ≡ a + min b c
    taken a b c = omega arith

pub common_first : (m n : Monomial) → DividesMonomial (common_factor m n) m
common_first m n v = let e = exponent-common m n v in omega arith

pub common_second : (m n : Monomial) → DividesMonomial (common_factor m n) n
common_second m n v = let e = exponent-common m n v in omega arith

pub exponent-unit : (v : ℕ) → exponent unit v ≡ 0
exponent-unit v = value-none powers v

pub divides_common : (k m n : Monomial) → DividesMonomial k m → DividesMonomial k n → DividesMonomial k (common_factor m n)
divides_common k m n h g v = let e = exponent-common m n v in let a = h v in let b = g v in omega arith
