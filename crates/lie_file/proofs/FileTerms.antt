-- The monomials of a file's equations have coordinates of orders up to 6 and exponents up to 32.
use Rattle.std.specs.Prelude.{◌≡◌, ℕ, ◌+◌, ◌<◌, Bool, true, false, cond, List, [], ◌∷◌, ◌++◌, length, ℤ, pos}
use Rattle.std.proofs.Common.{refl, sym, ap, subst, ◌∙◌, arith, inl, inr}
use Rattle.std.specs.List.{AllByRecursion as Every}
use Rattle.std.specs.Ordering.{eq_by_cmp, nat_cmp}
use Rattle.lie_math.specs.FiniteSumLaws.{value-of, value-none}
use Rattle.lie_math.specs.Monomial.{Monomial, exponent, unit, power_of, powers, ◌·◌}
use Rattle.lie_math.specs.Polynomial.{WholePolynomial, terms, coefficient}
use Rattle.lie_math.proofs.FiniteSum.{key}
use Rattle.lie_math.proofs.Monomial.{exponent-·, exponent-power_of}
use Rattle.lie_geometry.specs.Coordinates.{Space, coordinates_up_to}
use Rattle.lie_jet.specs.Jets.{IsSmall}
use Rattle.lie_jet.specs.Listed.{HasVariablesBelow}
use Rattle.lie_system.specs.Exponents.{HasSmallExponents}
use Rattle.lie_system.specs.Systems.{EquationRead}
use Rattle.lie_scan.specs.Meaning.{product}
use Rattle.lie_scan.specs.TokenGrammar.{IsPower}
use Rattle.lie_scan.specs.SumGrammar.{AreFactors, IsFirstFactor, IsTerm, AreTerms, IsSum, IsEquation}
use Rattle.lie_system.proofs.Entries.{at_entry}
use Rattle.lie_scan.proofs.FileCoordinates.{coordinate_good, good_number}
use Rattle.lie_math.proofs.EveryElement.{every-append}

-- ---- monomials
-- coordinates of orders up to 6, and exponents up to 32
pub record IsLowMonomial (S : Space) (m : Monomial) : Type 0 where
  pub variables : HasVariablesBelow (coordinates_up_to S 6) m
  pub exponents : HasSmallExponents m

module _ (S : Space) (small : IsSmall S) (names : List ℕ) (many : length names ≡ S.p + S.q) where
  abbrev IsFew : ℕ × ℕ → Type 0
  IsFew p = p.0 < coordinates_up_to S 6

  power_few : (text : List ℕ) (p : ℕ × ℕ) (rest : List ℕ) → IsPower S names text p rest → IsFew p
  power_few text p rest h =
      subst (λ w. w < coordinates_up_to S 6) (sym h.means) (good_number S small h.coordinate (coordinate_good S small names many text h.coordinate h.behind h.base))

  factors_few : (text : List ℕ) (ps : List (ℕ × ℕ)) (rest : List ℕ) → AreFactors S names text ps rest → Every IsFew ps
  factors_few text [] rest h = tt
  factors_few text (p ∷ ps) rest h = (power_few h.0 p h.1 h.3, factors_few h.1 ps rest h.4)

  first_few : (text : List ℕ) (n : ℕ) (ps : List (ℕ × ℕ)) (rest : List ℕ) → IsFirstFactor S names text n ps rest → Every IsFew ps
  first_few text n ps rest (inl h) = subst (Every IsFew) (sym h.2) tt
  first_few text n ps rest (inr h) = subst (Every IsFew) (sym h.1.1) (power_few text h.1.0 rest h.1.2, tt)

  abbrev IsBelow : Monomial → Type 0
  IsBelow m = HasVariablesBelow (coordinates_up_to S 6) m

  unit_below : IsBelow unit
  unit_below v le = value-none powers v

  times_below : (m : Monomial) (p : ℕ × ℕ) → IsBelow m → IsFew p → IsBelow (m · power_of p.0 p.1)
  times_below m p h few v le = exponent-· m (power_of p.0 p.1) v ∙ ap (λ e. exponent m v + e) (exponent-power_of p.0 p.1 v) ∙ go (eq_by_cmp nat_cmp v p.0) refl
    where
      go : (b : Bool) → eq_by_cmp nat_cmp v p.0 ≡ b → exponent m v + cond b p.1 0 ≡ 0
      go true e = let s : v ≡ p.0 = key powers v p.0 e in absurd (omega arith)
      go false e = let z = h v le in omega arith

  product_below : (m : Monomial) (ps : List (ℕ × ℕ)) → IsBelow m → Every IsFew ps → IsBelow (product m ps)
  product_below m [] h k = h
  product_below m (p ∷ ps) h k = product_below (m · power_of p.0 p.1) ps (times_below m p h k.0) k.1

  -- ---- sums
  abbrev AreLow : List (Monomial × ℤ) → Type 0
  AreLow ts = Every (λ (t : Monomial × ℤ). IsLowMonomial S t.0) ts

  term_low : (text : List ℕ) (n : ℕ) (m : Monomial) (rest : List ℕ) → IsTerm S names text n m rest → IsLowMonomial S m
  term_low text n m rest h = record {
    variables =
        subst IsBelow (sym h.means) (product_below unit (h.first ++ h.further) unit_below (every-append IsFew h.first h.further (first_few text n h.first h.behind h.begins) (factors_few h.behind h.further rest h.goes_on)));
    exponents = h.small;
  }

  terms_low : (turned : Bool) (text : List ℕ) (ts : List (Monomial × ℤ)) (rest : List ℕ) → AreTerms S names turned text ts rest → AreLow ts
  terms_low turned text [] rest h = tt
  terms_low turned text (t ∷ ts) rest h = (term_low h.1 h.4.0 t.0 h.2 h.4.1, terms_low turned h.2 ts rest h.5)

  sum_low : (turned : Bool) (text : List ℕ) (ts : List (Monomial × ℤ)) (rest : List ℕ) → IsSum S names turned text ts rest → AreLow ts
  sum_low turned text ts rest h = subst AreLow (sym h.are) (term_low h.front (h.begins).0 (h.first).0 h.behind (h.begins).1, terms_low turned h.behind h.further rest h.goes_on)

  -- ---- equations
  pub equation_low : (text : List ℕ) (e : EquationRead) → IsEquation S names text e → (m : Monomial) → ¬ (coefficient e.diff m ≡ pos 0) → IsLowMonomial S m
  equation_low text e h m n =
      at_entry (IsLowMonomial S) (h.left ++ h.right)
      (every-append (λ (t : Monomial × ℤ). IsLowMonomial S t.0) h.left h.right (sum_low false text h.left h.behind_left h.left_is) (sum_low true h.front h.right h.behind h.right_is)) m
      (λ z. n (ap (λ (p : WholePolynomial). coefficient p m) h.means ∙ value-of terms (h.left ++ h.right) m ∙ z))
