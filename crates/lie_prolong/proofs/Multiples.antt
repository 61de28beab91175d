-- What the making of one coefficient meets on the way is covered by its bulk.
use Rattle.std.specs.Prelude.{◌≡◌, ℕ, suc, ◌<◌, List, length, ℤ, pos, unsigned_abs}
use Rattle.std.proofs.Common.{sym, ap, ap₂, subst, subst₂, ◌∙◌, arith, get_or}
use Rattle.std.proofs.lemmas.List.{get_or_read}
use mathlib.Core.Path.{fun_ext}
use Rattle.lie_math.specs.Counts.{raise}
use Rattle.lie_math.specs.Derivation.{sum_of, numbers_below}
use Rattle.lie_math.specs.Limits.{absolute}
use Rattle.lie_math.specs.Polynomial.{WholePolynomial, 0ᴾ, ◌+ᴾ◌, ◌*ᴾ◌, constant, variable}
use Rattle.lie_math.specs.PolynomialRing.{one-*ᴾ}
use Rattle.lie_math.specs.VectorField.{VectorField, component}
use Rattle.lie_math.proofs.Limits.{IsNonNegative}
use Rattle.lie_geometry.specs.Coordinates.{Space, jet, number}
use Rattle.lie_geometry.specs.Prolongation.{jet_variable, total_derivative}
use Rattle.lie_ring.specs.Causes.{IsCause}
use Rattle.lie_ring.specs.declared.failures.PolyFail.{PolyFail}
use Rattle.lie_jet.specs.Jets.{IsSmall}
use Rattle.lie_prolong.specs.Bulks.{absolute_field, multiples}
use Rattle.lie_prolong.proofs.Absolutes.{component-absolute}
use Rattle.lie_prolong.proofs.Coefficients.{first_bound, one_bound}
use Rattle.lie_jet.proofs.Absolutes.{absolute_twice}
use Rattle.lie_jet.proofs.BoundedPolynomials.{bounded_first, bounded_second, bounded_sum_of, bounded_signed, cause_bounded}
use Rattle.lie_jet.proofs.PolynomialBounds.{IsBound, covered_absolute, sum_bound, trans_bound}
use Rattle.lie_jet.proofs.PositiveMaps.{positive_absolute, positive_bounded, total_is_positive, times_is_positive}
use Rattle.lie_jet.proofs.TotalBounds.{absolute_variable}

pub component_read : (V : VectorField) (ps : List WholePolynomial) (i k : ℕ) (r : WholePolynomial) → ps ≡ V.parts → k ≡ i → i < length V.parts → r ≡ get_or ps k r → r ≡ component V i
component_read V ps i k r e f h q = get_or_read V.parts i r h (q ∙ ap₂ (λ (xs : List WholePolynomial) (n : ℕ). get_or xs n r) e f) 0ᴾ

module _ (S : Space) (small : IsSmall S) (k : ℕ) (inside : k < S.p) (a : ℕ) (J : List ℕ) where
  module _ (V : ℕ → WholePolynomial) where
    abbrev one : ℕ → WholePolynomial
    one i = total_derivative S k (V i) *ᴾ jet_variable S a (raise i J)

    abbrev one_bulk : ℕ → WholePolynomial
    one_bulk i = total_derivative S k (absolute (V i)) *ᴾ jet_variable S a (raise i J)

    one_bounded : (i : ℕ) → IsBound (one i) (one_bulk i)
    one_bounded i = positive_bounded (times_is_positive (number S (jet a (raise i J)))) (total_derivative S k (V i)) (total_derivative S k (absolute (V i))) (positive_absolute (total_is_positive S small k inside) (V i))

    one_plain : (i : ℕ) → IsNonNegative (one_bulk i)
    one_plain i = (one_bounded i).plain

    multiples_bounded : IsBound (multiples S V k a J) (multiples S (λ i. absolute (V i)) k a J)
    multiples_bounded = bounded_sum_of (numbers_below S.p) one one_bulk one_bounded

    pub one_cause : (fail : PolyFail) (i n : ℕ) (r : WholePolynomial) → i < S.p → r ≡ V i → n ≡ number S (jet a (raise i J)) → IsCause fail (total_derivative S k (absolute r) *ᴾ variable n) → IsCause fail (multiples S (λ i. absolute (V i)) k a J)
    one_cause fail i n r h e f c = cause_bounded fail (one_bulk i) _ (one_bound i S.p one_bulk one_plain h) (subst₂ (λ p w. IsCause fail (total_derivative S k (absolute p) *ᴾ variable w)) e f c)

    pub sum_cause : (fail : PolyFail) (i : ℕ) (m s : WholePolynomial) → i < S.p → m ≡ one i → s ≡ sum_of (numbers_below i) one → IsCause fail (absolute m +ᴾ absolute s) → IsCause fail (multiples S (λ i. absolute (V i)) k a J)
    sum_cause fail i m s h e f c =
        cause_bounded fail (absolute m +ᴾ absolute s) _
        (trans_bound _ (one_bulk i +ᴾ sum_of (numbers_below i) one_bulk) _
        (sum_bound (absolute m) (absolute s) (one_bulk i) (sum_of (numbers_below i) one_bulk)
        (covered_absolute m (one_bulk i) (subst (λ p. IsBound p (one_bulk i)) (sym e) (one_bounded i)))
        (covered_absolute s (sum_of (numbers_below i) one_bulk) (subst (λ p. IsBound p (sum_of (numbers_below i) one_bulk)) (sym f) (bounded_sum_of (numbers_below i) one one_bulk one_bounded))))
        (first_bound (suc i) S.p one_bulk one_plain (let l : i < S.p = h in omega arith))) c

    -- ---- the whole step
    abbrev whole : WholePolynomial → WholePolynomial
    whole P = total_derivative S k (absolute P) +ᴾ multiples S (λ i. absolute (V i)) k a J

    total_bounded : (P : WholePolynomial) → IsBound (total_derivative S k P) (total_derivative S k (absolute P))
    total_bounded P = positive_absolute (total_is_positive S small k inside) P

    pub total_cause : (fail : PolyFail) (P : WholePolynomial) → IsCause fail (total_derivative S k (absolute P)) → IsCause fail (whole P)
    total_cause fail P = cause_bounded fail _ _ (bounded_first _ _ ((total_bounded P).plain) (multiples_bounded.plain))

    pub multiples_cause : (fail : PolyFail) (P : WholePolynomial) → IsCause fail (multiples S (λ i. absolute (V i)) k a J) → IsCause fail (whole P)
    multiples_cause fail P = cause_bounded fail _ _ (bounded_second _ _ ((total_bounded P).plain) (multiples_bounded.plain))

    pub scale_cause : (fail : PolyFail) (P s : WholePolynomial) (z : ℤ) → unsigned_abs z ≡ 1 → s ≡ multiples S V k a J → IsCause fail (constant (pos (unsigned_abs z)) *ᴾ absolute s) → IsCause fail (whole P)
    scale_cause fail P s z u e c =
        multiples_cause fail P (cause_bounded fail (absolute s) _ (covered_absolute s _ (subst (λ p. IsBound p (multiples S (λ i. absolute (V i)) k a J)) (sym e) multiples_bounded))
        (subst (IsCause fail) (ap (λ n. constant (pos n) *ᴾ absolute s) u ∙ one-*ᴾ (absolute s)) c))

    pub add_cause : (fail : PolyFail) (P d s m : WholePolynomial) (z : ℤ) → unsigned_abs z ≡ 1 → d ≡ total_derivative S k P → m ≡ multiples S V k a J → s ≡ constant z *ᴾ m → IsCause fail (absolute d +ᴾ absolute s) → IsCause fail (whole P)
    add_cause fail P d s m z u e f g =
        cause_bounded fail (absolute d +ᴾ absolute s) _ (sum_bound (absolute d) (absolute s) _ _
        (covered_absolute d _ (subst (λ p. IsBound p (total_derivative S k (absolute P))) (sym e) (total_bounded P)))
        (covered_absolute s _ (subst (λ p. IsBound p (multiples S (λ i. absolute (V i)) k a J)) (sym (g ∙ ap (λ p. constant z *ᴾ p) f)) (bounded_signed z _ _ u multiples_bounded))))

-- ---- the product of a total derivative and a variable
pub product_bounded : (S : Space) (small : IsSmall S) (k : ℕ) (inside : k < S.p) (p d v : WholePolynomial) (w : ℕ) → d ≡ total_derivative S k p → v ≡ variable w → IsBound (absolute d *ᴾ absolute v) (total_derivative S k (absolute p) *ᴾ variable w)
product_bounded S small k inside p d v w e f =
    subst₂ (λ x y. IsBound (absolute x *ᴾ y) (total_derivative S k (absolute p) *ᴾ variable w)) (sym e) (sym (ap absolute f ∙ absolute_variable w))
    (positive_bounded (times_is_positive w) (absolute (total_derivative S k p)) (total_derivative S k (absolute p)) (covered_absolute _ _ (positive_absolute (total_is_positive S small k inside) p)))

-- ---- the step with absolute values
pub components_are : (V W : VectorField) → W ≡ absolute_field V → component W ≡ (λ i. absolute (component V i))
components_are V W e = ap component e ∙ fun_ext (component-absolute V)

pub bulk_is : (S : Space) (V W : VectorField) (k a : ℕ) (J : List ℕ) (P Q : WholePolynomial) → W ≡ absolute_field V → Q ≡ absolute P
    → total_derivative S k (absolute Q) +ᴾ multiples S (λ i. absolute (component W i)) k a J ≡ total_derivative S k (absolute P) +ᴾ multiples S (λ i. absolute (component V i)) k a J
bulk_is S V W k a J P Q e f =
    ap₂ (λ p F. total_derivative S k p +ᴾ multiples S F k a J) (ap absolute f ∙ absolute_twice P)
    (ap (λ F i. absolute (F i)) (components_are V W e) ∙ fun_ext (λ i. absolute_twice (component V i)))

pub bulk_made : (S : Space) (V W : VectorField) (k a : ℕ) (J : List ℕ) (P Q b : WholePolynomial) (z : ℤ) → z ≡ pos 1 → W ≡ absolute_field V → Q ≡ absolute P → b ≡ total_derivative S k Q +ᴾ constant z *ᴾ multiples S (component W) k a J
    → b ≡ total_derivative S k (absolute P) +ᴾ multiples S (λ i. absolute (component V i)) k a J
bulk_made S V W k a J P Q b z u e f g =
    g ∙ ap (λ y. total_derivative S k Q +ᴾ constant y *ᴾ multiples S (component W) k a J) u ∙ ap (λ p. total_derivative S k Q +ᴾ p) (one-*ᴾ _)
    ∙ ap₂ (λ p F. total_derivative S k p +ᴾ multiples S F k a J) f (components_are V W e)
