-- The terms that last through derivatives: the others come to nothing.
use Rattle.std.specs.Prelude.{◌≡◌, ℕ, zero, suc, ◌-◌, ◌<◌, ◌≤◌, Bool, true, false, cond, eqb, ltb, List, [], ◌∷◌, ℤ, pos, ◌*ℤ◌}
use Rattle.std.proofs.Common.{refl, sym, ap, subst, ◌∙◌, arith, eqb-true, eq-eqb, ltb-true, ltb-false, true≢false, is_eq}
use lib.IntN.{*ℤ-zero}
use Rattle.std.specs.Fn.{iterate}
use Rattle.std.specs.Cmp.{tied_itself}
use Rattle.lie_math.specs.Counts.{Derivative}
use Rattle.lie_math.specs.FiniteSumLaws.{of_list, term_additive, plus_idl}
use Rattle.lie_math.specs.LinearForm.{forms, ◌+ᶠ◌, form_term}
use Rattle.lie_math.specs.LinearSystem.{Unknown}
use Rattle.lie_math.specs.Limits.{HasLowExponents}
use Rattle.lie_math.specs.Monomial.{Monomial, exponent, powers}
use Rattle.lie_math.specs.PartialDerivative.{partial, lower}
use Rattle.lie_math.specs.Polynomial.{WholePolynomial, terms, term, polynomial_of, 0ᴾ, ◌+ᴾ◌}
use Rattle.lie_math.proofs.CanonicalLists.{of-cons}
use Rattle.lie_math.proofs.Limits.{term_is}
use Rattle.lie_math.proofs.Monomial.{exponent-lower}
use Rattle.lie_math.proofs.PartialDerivative.{partial-term, partial-0ᴾ}
use Rattle.lie_steps.specs.Equations.{depends}
use Rattle.lie_replace.specs.Growing.{IsLasting}
use Rattle.lie_replace.specs.Replacing.{derivatives_by, occurrences, needs_in, needs, meets, meeting, lasting_part}
use Rattle.lie_replace.proofs.DerivativesBy.{derivatives_by-plus, dies}

-- ---- a term whose exponent is too low
none_often : (w n : ℕ) → iterate (partial w) n 0ᴾ ≡ 0ᴾ
none_often w zero = refl
none_often w (suc n) = ap (iterate (partial w) n) (partial-0ᴾ w) ∙ none_often w n

exponent_lowered : (w : ℕ) (m : Monomial) → exponent (lower w m) w ≡ exponent m w - 1
exponent_lowered w m = exponent-lower w w m ∙ ap (λ r. cond (is_eq r) (exponent m w - 1) (exponent m w)) (tied_itself powers.total w)

pub term_dies : (w n : ℕ) (m : Monomial) (z : ℤ) → exponent m w < n → iterate (partial w) n (term m z) ≡ 0ᴾ
term_dies w zero m z h = absurd (omega arith)
term_dies w (suc n) m z h = ap (iterate (partial w) n) (partial-term w m z) ∙ by (eqb (exponent m w) 0) refl (term_dies w n (lower w m) (z *ℤ pos (exponent m w)))
  where
    by : (t : Bool) → eqb (exponent m w) 0 ≡ t → (exponent (lower w m) w < n → iterate (partial w) n (term (lower w m) (z *ℤ pos (exponent m w))) ≡ 0ᴾ) → iterate (partial w) n (term (lower w m) (z *ℤ pos (exponent m w))) ≡ 0ᴾ
    by true e rest = ap (λ k. iterate (partial w) n (term (lower w m) (z *ℤ pos k))) (eqb-true (exponent m w) 0 e) ∙ ap (λ y. iterate (partial w) n (term (lower w m) y)) (*ℤ-zero z) ∙ ap (iterate (partial w) n) ((term_additive terms).on_nil (lower w m)) ∙ none_often w n
    by false e rest = rest (let l = exponent_lowered w m in let apart : ¬ (exponent m w ≡ 0) = (λ q. true≢false (sym (eq-eqb (exponent m w) 0 q) ∙ e)) in less apart l)
      where
        less : ¬ (exponent m w ≡ 0) → exponent (lower w m) w ≡ exponent m w - 1 → exponent (lower w m) w < n
        less a l = omega arith

module _ (us : List Unknown) (vs : List ℕ) (f : ℕ) where
  -- ---- what meets the needs lasts
  met : (m : Monomial) (ws : List ℕ) → meets (needs_in us vs f ws) m ≡ true → (w : ℕ) → depends us f w ≡ false → 0 < occurrences w ws → occurrences w vs ≤ exponent m w
  met m [] h w free o = absurd (omega arith)
  met m (v ∷ ws) h w free o = by_dependence (depends us f v) refl h (met m ws)
    where
      by_dependence : (t : Bool) → depends us f v ≡ t → meets (cond t (needs_in us vs f ws) ((v, occurrences v vs) ∷ needs_in us vs f ws)) m ≡ true
          → (meets (needs_in us vs f ws) m ≡ true → (w : ℕ) → depends us f w ≡ false → 0 < occurrences w ws → occurrences w vs ≤ exponent m w) → occurrences w vs ≤ exponent m w
      by_dependence true e k rest = rest k w free (other (eqb v w) refl o)
        where
          other : (t : Bool) → eqb v w ≡ t → 0 < cond t (suc (occurrences w ws)) (occurrences w ws) → 0 < occurrences w ws
          other true q l = absurd (true≢false (sym e ∙ ap (depends us f) (eqb-true v w q) ∙ free))
          other false q l = l
      by_dependence false e k rest = by_test (ltb (exponent m v) (occurrences v vs)) refl k
        where
          by_test : (t : Bool) → ltb (exponent m v) (occurrences v vs) ≡ t → cond t false (meets (needs_in us vs f ws) m) ≡ true → occurrences w vs ≤ exponent m w
          by_test true q k = absurd (true≢false (sym k))
          by_test false q k = by_same (eqb v w) refl o
            where
              by_same : (t : Bool) → eqb v w ≡ t → 0 < cond t (suc (occurrences w ws)) (occurrences w ws) → occurrences w vs ≤ exponent m w
              by_same true s l = subst (λ x. occurrences x vs ≤ exponent m x) (eqb-true v w s) (ltb-false (exponent m v) (occurrences v vs) q)
              by_same false s l = rest k w free l

  pub meets_lasting : (m : Monomial) → meets (needs us vs f) m ≡ true → HasLowExponents m → IsLasting us vs f m
  meets_lasting m h low = record { often = λ w free. by w free (eqb (occurrences w vs) 0) refl; low = low }
    where
      by : (w : ℕ) → depends us f w ≡ false → (t : Bool) → eqb (occurrences w vs) 0 ≡ t → occurrences w vs ≤ exponent m w
      by w free true e = let z = eqb-true (occurrences w vs) 0 e in omega arith
      by w free false e = met m vs h w free (let apart : ¬ (occurrences w vs ≡ 0) = (λ q. true≢false (sym (eq-eqb (occurrences w vs) 0 q) ∙ e)) in positive apart)
        where
          positive : ¬ (occurrences w vs ≡ 0) → 0 < occurrences w vs
          positive a = omega arith

  -- ---- what doesn't comes to nothing
  unmet : (m : Monomial) (ws : List ℕ) → meets (needs_in us vs f ws) m ≡ false → (w : ℕ) × ((depends us f w ≡ false) × (exponent m w < occurrences w vs))
  unmet m [] h = absurd (true≢false h)
  unmet m (v ∷ ws) h = by_dependence (depends us f v) refl h (unmet m ws)
    where
      by_dependence : (t : Bool) → depends us f v ≡ t → meets (cond t (needs_in us vs f ws) ((v, occurrences v vs) ∷ needs_in us vs f ws)) m ≡ false
          → (meets (needs_in us vs f ws) m ≡ false → (w : ℕ) × ((depends us f w ≡ false) × (exponent m w < occurrences w vs))) → (w : ℕ) × ((depends us f w ≡ false) × (exponent m w < occurrences w vs))
      by_dependence true e k rest = rest k
      by_dependence false e k rest = by_test (ltb (exponent m v) (occurrences v vs)) refl k
        where
          by_test : (t : Bool) → ltb (exponent m v) (occurrences v vs) ≡ t → cond t false (meets (needs_in us vs f ws) m) ≡ false → (w : ℕ) × ((depends us f w ≡ false) × (exponent m w < occurrences w vs))
          by_test true q k = (v, (e, ltb-true (exponent m v) (occurrences v vs) q))
          by_test false q k = rest k

  -- the derivatives of a coefficient are those of its lasting part
  part_listed : (d : Derivative) → d.unknown ≡ f → (es : List (Monomial × ℤ)) → derivatives_by us vs (form_term d (polynomial_of (meeting (needs us vs f) es))) ≡ derivatives_by us vs (form_term d (polynomial_of es))
  part_listed d u [] = refl
  part_listed d u (e ∷ es) = by (meets (needs us vs f) e.0) refl (part_listed d u es)
    where
      more : (xs : List (Monomial × ℤ)) → derivatives_by us vs (form_term d (polynomial_of (e ∷ xs))) ≡ derivatives_by us vs (form_term d (term e.0 e.1)) +ᶠ derivatives_by us vs (form_term d (polynomial_of xs))
      more xs =
          ap (λ p. derivatives_by us vs (form_term d p)) (of-cons terms e xs ∙ ap (λ p. p +ᴾ polynomial_of xs) (sym (term_is e.0 e.1)))
          ∙ ap (derivatives_by us vs) ((term_additive forms).on_plus d (term e.0 e.1) (polynomial_of xs)) ∙ derivatives_by-plus us vs (form_term d (term e.0 e.1)) (form_term d (polynomial_of xs))

      by : (t : Bool) → meets (needs us vs f) e.0 ≡ t → derivatives_by us vs (form_term d (polynomial_of (meeting (needs us vs f) es))) ≡ derivatives_by us vs (form_term d (polynomial_of es))
          → derivatives_by us vs (form_term d (polynomial_of (cond t (e ∷ meeting (needs us vs f) es) (meeting (needs us vs f) es)))) ≡ derivatives_by us vs (form_term d (polynomial_of (e ∷ es)))
      by true q rest = more (meeting (needs us vs f) es) ∙ ap (λ G. derivatives_by us vs (form_term d (term e.0 e.1)) +ᶠ G) rest ∙ sym (more es)
      by false q rest =
          let x = unmet e.0 vs q in
          rest ∙ sym (more es ∙ ap (λ G. G +ᶠ derivatives_by us vs (form_term d (polynomial_of es))) (dies us x.0 vs d (term e.0 e.1) (ap (λ g. depends us g x.0) u ∙ x.1.0) (term_dies x.0 (occurrences x.0 vs) e.0 e.1 x.1.1)) ∙ plus_idl forms _)

  pub part_same : (d : Derivative) → d.unknown ≡ f → (p : WholePolynomial) → derivatives_by us vs (form_term d (lasting_part us vs f p)) ≡ derivatives_by us vs (form_term d p)
  part_same d u p = part_listed d u p.list ∙ ap (λ q. derivatives_by us vs (form_term d q)) (of_list terms p)
