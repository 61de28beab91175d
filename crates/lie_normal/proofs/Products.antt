-- Products and partial derivatives are bounded by those of the absolute values.
use Rattle.std.specs.Prelude.{◌≡◌, ℕ, List, [], ◌∷◌, ℤ, pos, unsigned_abs}
use Rattle.std.proofs.Common.{sym, ap, subst, subst₂, ◌∙◌}
use Rattle.lie_math.specs.FiniteSumLaws.{of_list}
use Rattle.lie_math.specs.Limits.{absolute, absolutes}
use Rattle.lie_math.specs.Monomial.{Monomial}
use Rattle.lie_math.specs.PartialDerivative.{partial}
use Rattle.lie_math.specs.Polynomial.{WholePolynomial, terms, term, polynomial_of, 0ᴾ, ◌+ᴾ◌, ◌*ᴾ◌}
use Rattle.lie_math.specs.PolynomialRing.{*ᴾ_comm, *ᴾ-dist, 0ᴾ-*ᴾ, polynomial_of-none}
use Rattle.lie_math.proofs.CanonicalLists.{of-cons}
use Rattle.lie_math.proofs.Limits.{term_is, nonneg_absolutes}
use Rattle.lie_math.proofs.TermWise.{times_list, polynomial_of-times, absolutes-times, derived_list, polynomial_of-derived, absolutes-derived}
use Rattle.lie_poly.proofs.BulkLists.{bulk_covers, bulk_absolutes}
use Rattle.lie_jet.proofs.PolynomialBounds.{IsBound, sum_bound, none_bound}

list_bound : (es : List (Monomial × ℤ)) → IsBound (polynomial_of es) (polynomial_of (absolutes es))
list_bound es = record { covered = bulk_covers es (absolutes es) (bulk_absolutes es); plain = nonneg_absolutes es }

-- ---- partial derivatives
pub partial_bound : (v : ℕ) (a : WholePolynomial) → IsBound (partial v a) (partial v (absolute a))
unfolding absolute
partial_bound v a =
    subst₂ IsBound (polynomial_of-derived v a.list ∙ ap (partial v) (of_list terms a)) (ap polynomial_of (absolutes-derived v a.list) ∙ polynomial_of-derived v (absolutes a.list))
    (list_bound (derived_list v a.list))

-- ---- products
times_term : (p : WholePolynomial) (m : Monomial) (z : ℤ) → IsBound (p *ᴾ term m z) (absolute p *ᴾ term m (pos (unsigned_abs z)))
unfolding absolute
times_term p m z =
    subst₂ IsBound (polynomial_of-times m z p.list ∙ ap (λ q. term m z *ᴾ q) (of_list terms p) ∙ *ᴾ_comm (term m z) p)
    (ap polynomial_of (absolutes-times m z p.list) ∙ polynomial_of-times m (pos (unsigned_abs z)) (absolutes p.list) ∙ *ᴾ_comm (term m (pos (unsigned_abs z))) (polynomial_of (absolutes p.list)))
    (list_bound (times_list m z p.list))

times_none : (q : WholePolynomial) → q *ᴾ polynomial_of [] ≡ 0ᴾ
times_none q = ap (λ p. q *ᴾ p) polynomial_of-none ∙ *ᴾ_comm q 0ᴾ ∙ 0ᴾ-*ᴾ q

times_more : (q : WholePolynomial) (e : Monomial × ℤ) (es : List (Monomial × ℤ)) → q *ᴾ polynomial_of (e ∷ es) ≡ q *ᴾ term e.0 e.1 +ᴾ q *ᴾ polynomial_of es
times_more q e es = ap (λ p. q *ᴾ p) (of-cons terms e es ∙ ap (λ p. p +ᴾ polynomial_of es) (sym (term_is e.0 e.1))) ∙ *ᴾ-dist q (term e.0 e.1) (polynomial_of es)

times_listed : (p : WholePolynomial) (es : List (Monomial × ℤ)) → IsBound (p *ᴾ polynomial_of es) (absolute p *ᴾ polynomial_of (absolutes es))
times_listed p [] = subst₂ IsBound (sym (times_none p)) (sym (times_none (absolute p))) none_bound
times_listed p (e ∷ es) = subst₂ IsBound (sym (times_more p e es)) (sym (times_more (absolute p) (e.0, pos (unsigned_abs e.1)) (absolutes es))) (sum_bound _ _ _ _ (times_term p e.0 e.1) (times_listed p es))

pub times_bound : (p a : WholePolynomial) → IsBound (p *ᴾ a) (absolute p *ᴾ absolute a)
unfolding absolute
times_bound p a = subst (λ x. IsBound (p *ᴾ x) (absolute p *ᴾ polynomial_of (absolutes a.list))) (of_list terms a) (times_listed p a.list)
