-- The derivative of a term is the sum over its powers: the chain rule, power by power.
use Rattle.std.specs.Prelude.{◌≡◌, ℕ, zero, suc, ◌+◌, ◌<◌, ◌≤◌, Bool, true, false, cond, List, [], ◌∷◌, max, ℤ, pos, ◌*ℤ◌}
use Rattle.std.proofs.Common.{refl, sym, ap, ap₂, subst, ◌∙◌, arith, true≢false, ltb-false}
use Rattle.std.specs.Ordering.{eq_by_cmp, nat_cmp}
use lib.IntN.{*ℤ-zero}
use Rattle.lie_math.specs.Derivation.{sum_of, numbers_below, is_below, IsDerivation}
use Rattle.lie_math.specs.FiniteSumLaws as finite_laws
use Rattle.lie_math.proofs.FiniteSum as finite_proofs
use Rattle.lie_math.specs.Monomial.{Monomial, exponent, monomial_cmp, powers}
use Rattle.lie_math.specs.FiniteSum.{IsCanonical}
use Rattle.lie_math.specs.Natural.{exponents}
use Rattle.lie_math.specs.PartialDerivative.{partial, lower}
use Rattle.lie_math.specs.Polynomial.{WholePolynomial, polynomials, terms, term, 0ᴾ, ◌+ᴾ◌, ◌*ᴾ◌, variable}
use Rattle.lie_math.specs.PolynomialRing.{polynomial_ring}
use Rattle.lie_math.specs.SortedSum.{sum_of_entries, value_at}
use Rattle.lie_math.specs.Variables.{IsIn}
use Rattle.lie_math.proofs.ChainRule.{chain_rule_below}
use Rattle.lie_math.proofs.CanonicalLists.{canonical_below, canonical_tail}
use Rattle.lie_math.proofs.PartialDerivative.{partial-term}
use Rattle.lie_math.proofs.Ring.{plus_idr, times_nil}
use Rattle.lie_math.proofs.SumOf.{sum_of-plus, sum_of-0ᴾ}
use Rattle.lie_math.specs.Canonical.{value_at-below}
use Rattle.lie_geometry.proofs.SymbolicProlongation.{sum_of-same}
use Rattle.lie_math.proofs.PartialDerivation.{same_key}
use Rattle.lie_ring.proofs.PairLists.{apart}

-- what the power of one variable gives
abbrev pub part : (ℕ → WholePolynomial) → Monomial → ℤ → ℕ → ℕ → WholePolynomial
part d m c w e = d w *ᴾ term (lower w m) (c *ℤ pos e)

abbrev pub parts : (ℕ → WholePolynomial) → Monomial → ℤ → List (ℕ × ℕ) → WholePolynomial
parts d m c ps = sum_of_entries polynomials (part d m c) ps

-- ---- a sum over numbers that is not 0 at the variables of a list alone
abbrev at : ℕ → List (ℕ × ℕ) → ℕ
at w ps = value_at nat_cmp exponents w ps

abbrev AllBelow : ℕ → List (ℕ × ℕ) → Type 0
AllBelow n [] = Unit {0}
AllBelow n (p ∷ ps) = (p.0 < n) × AllBelow n ps

same_number : (w v : ℕ) → eq_by_cmp nat_cmp w v ≡ true → w ≡ v
same_number w v e = finite_proofs.key powers w v e

one_alone : (n v : ℕ) (x : WholePolynomial) → v < n → sum_of (numbers_below n) (λ w. cond (eq_by_cmp nat_cmp w v) x 0ᴾ) ≡ x
one_alone zero v x h = absurd (omega arith)
one_alone (suc n) v x h = go (λ k. one_alone n v x k) (eq_by_cmp nat_cmp n v) refl
  where
    less : ¬ (n ≡ v) → v < n
    less k = omega arith

    off : (w : ℕ) → w < n → n ≡ v → cond (eq_by_cmp nat_cmp w v) x 0ᴾ ≡ 0ᴾ
    off w k e = ap (λ b. cond b x 0ᴾ) (apart w v (λ q. differs w k e q))
      where
        differs : (w : ℕ) → w < n → n ≡ v → w ≡ v → ⊥
        differs w k e q = omega arith

    go : (v < n → sum_of (numbers_below n) (λ w. cond (eq_by_cmp nat_cmp w v) x 0ᴾ) ≡ x) → (b : Bool) → eq_by_cmp nat_cmp n v ≡ b → cond b x 0ᴾ +ᴾ sum_of (numbers_below n) (λ w. cond (eq_by_cmp nat_cmp w v) x 0ᴾ) ≡ x
    go ih true e = ap (λ r. x +ᴾ r) (sum_of-same n (λ w. cond (eq_by_cmp nat_cmp w v) x 0ᴾ) (λ w. 0ᴾ) (λ w k. off w k (same_number n v e)) ∙ sum_of-0ᴾ (numbers_below n)) ∙ plus_idr polynomial_ring x
    go ih false e = finite_laws.plus_idl terms _ ∙ ih (less (λ q. true≢false (sym (same_key n v q) ∙ e)))

module _ (g : ℕ → ℕ → WholePolynomial) (none : (w : ℕ) → g w 0 ≡ 0ᴾ) where
  step : (p : ℕ × ℕ) (ps : List (ℕ × ℕ)) → IsCanonical powers (p ∷ ps) → (w : ℕ) → g w (at w (p ∷ ps)) ≡ cond (eq_by_cmp nat_cmp w p.0) (g p.0 p.1) 0ᴾ +ᴾ g w (at w ps)
  step p ps h w = go (eq_by_cmp nat_cmp w p.0) refl
    where
      gone : w ≡ p.0 → at w ps ≡ 0
      gone e = subst (λ v. at v ps ≡ 0) (sym e) (value_at-below nat_cmp exponents powers.total powers.same p.0 ps (canonical_below powers p ps h))

      kept : (n : ℕ) → at w ps ≡ 0 → n + at w ps ≡ n
      kept n e = omega arith

      plain : (n : ℕ) → 0 + n ≡ n
      plain n = omega arith

      go : (b : Bool) → eq_by_cmp nat_cmp w p.0 ≡ b → g w (cond b p.1 0 + at w ps) ≡ cond b (g p.0 p.1) 0ᴾ +ᴾ g w (at w ps)
      go true e = let q = same_number w p.0 e in ap₂ g q (kept p.1 (gone q)) ∙ sym (ap (λ r. g p.0 p.1 +ᴾ r) (ap (g w) (gone q) ∙ none w) ∙ plus_idr polynomial_ring _)
      go false e = ap (g w) (plain (at w ps)) ∙ sym (finite_laws.plus_idl terms _)

  over_powers : (n : ℕ) (ps : List (ℕ × ℕ)) → IsCanonical powers ps → AllBelow n ps → sum_of (numbers_below n) (λ w. g w (at w ps)) ≡ sum_of_entries polynomials g ps
  over_powers n [] h b = sum_of-same n (λ w. g w (at w [])) (λ w. 0ᴾ) (λ w _. none w) ∙ sum_of-0ᴾ (numbers_below n)
  over_powers n (p ∷ ps) h b =
      sum_of-same n (λ w. g w (at w (p ∷ ps))) (λ w. cond (eq_by_cmp nat_cmp w p.0) (g p.0 p.1) 0ᴾ +ᴾ g w (at w ps)) (λ w _. step p ps h w)
      ∙ sum_of-plus (numbers_below n) (λ w. cond (eq_by_cmp nat_cmp w p.0) (g p.0 p.1) 0ᴾ) (λ w. g w (at w ps))
      ∙ ap₂ (λ x y. x +ᴾ y) (one_alone n p.0 (g p.0 p.1) b.0) (over_powers n ps (canonical_tail powers p ps h) b.1)

-- ---- above all variables of a list
abbrev above : List (ℕ × ℕ) → ℕ
above [] = 0
above (p ∷ ps) = max (suc p.0) (above ps)

all_below : (n : ℕ) (ps : List (ℕ × ℕ)) → above ps ≤ n → AllBelow n ps
all_below n [] h = tt
all_below n (p ∷ ps) h = (omega arith, all_below n ps (omega arith))

none_above : (n v : ℕ) (ps : List (ℕ × ℕ)) → AllBelow n ps → n ≤ v → at v ps ≡ 0
none_above n v [] h k = refl
none_above n v (p ∷ ps) h k = ap (λ b. cond b p.1 0 + at v ps) (apart v p.0 (differs p h)) ∙ ap (λ r. 0 + r) (none_above n v ps h.1 k)
  where
    differs : (p : ℕ × ℕ) → (p.0 < n) × AllBelow n ps → v ≡ p.0 → ⊥
    differs p h e = let l : p.0 < n = h.0 in omega arith

term_in : (n : ℕ) (m : Monomial) (c : ℤ) → AllBelow n m.list → IsIn (is_below n) (term m c)
term_in n m c h v e k o = go (eq_by_cmp monomial_cmp k m) refl
  where
    go : (b : Bool) → eq_by_cmp monomial_cmp k m ≡ b → exponent k v ≡ 0
    go true q = subst (λ j. exponent j v ≡ 0) (sym (finite_proofs.key terms k m q)) (none_above n v m.list h (ltb-false v n e))
    go false q = absurd (o (finite_laws.value-term terms m c k ∙ ap (λ b. cond b c (pos 0)) q))

-- ---- the chain rule
pub derived_term : {D : WholePolynomial → WholePolynomial} → IsDerivation D → (m : Monomial) (c : ℤ) → D (term m c) ≡ parts (λ w. D (variable w)) m c m.list
derived_term {D} is m c =
    let n = above m.list in
    let b : AllBelow n m.list = all_below n m.list (omega arith) in
    let g : ℕ → ℕ → WholePolynomial = part (λ w. D (variable w)) m c in
    sym (chain_rule_below n (λ w. D (variable w)) is (λ w. refl) (term m c) (term_in n m c b))
    ∙ sum_of-same n (λ w. D (variable w) *ᴾ partial w (term m c)) (λ w. g w (exponent m w)) (λ w _. ap (λ p. D (variable w) *ᴾ p) (partial-term w m c))
    ∙ over_powers g (λ w. ap (λ z. D (variable w) *ᴾ term (lower w m) z) (*ℤ-zero c) ∙ ap (λ p. D (variable w) *ᴾ p) ((finite_laws.term_additive terms).on_nil (lower w m)) ∙ times_nil polynomial_ring (D (variable w))) n m.list m.canonical b
