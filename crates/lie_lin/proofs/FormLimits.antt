-- The limits of a sum of triples, told by the coefficients of its derivatives.
use Rattle.std.specs.Prelude.{◌≡◌, ◌<◌, ◌≤◌, suc, List, [], ◌∷◌, length, ℤ}
use Rattle.std.proofs.Common.{refl, sym, ap, subst, ◌∙◌, arith}
use Rattle.std.specs.List.{AllByRecursion as Every}
use Rattle.lie_math.specs.Monomial.{Monomial}
use Rattle.lie_math.specs.Polynomial.{WholePolynomial, polynomial_of}
use Rattle.lie_math.specs.Counts.{Derivative, order}
use Rattle.lie_math.specs.Limits.{IsWithinLimits, absolutes}
use Rattle.lie_systems.specs.Triples.{Triple, triples, triples_in, triples_with}
use Rattle.lie_systems.specs.Bulk as bulks
use Rattle.lie_ring.specs.Causes.{IsCause}
use Rattle.lie_ring.specs.declared.failures.PolyFail.{PolyFail}
use Rattle.lie_math.proofs.EveryElement.{every-append}
use Rattle.lie_form.specs.FormLimits.{IsFormCause}
use Rattle.lie_jet.specs.declared.derivative.Der.{Der}
use Rattle.lie_lin.specs.Forms.{derivatives_of, terms_at, coefficient_at, gathered, AreDerivatives}
use Rattle.lie_lin.proofs.Gathering.{value-sum, triples_gathered, terms_at-absolute, covers_absolute}
use Rattle.lie_form.proofs.FormCauses.{coefficient_cause, triple_of, none_listed, IsLow, low_part, within_of_low}

-- ---- past a limit: the bulk of one derivative tells of the whole
pub cause_of_part : (d : Derivative) (ts : List Triple) (fail : PolyFail) → IsCause fail (polynomial_of (absolutes (terms_at d ts))) → IsFormCause fail (bulks.bulk ts)
cause_of_part d ts fail h = coefficient_cause fail (bulks.bulk ts) (d, subst (IsCause fail) (sym (value-sum d (bulks.absolute_triples ts) ∙ ap polynomial_of (terms_at-absolute d ts))) h)

-- an order past its limit, of a derivative that occurs
pub high_of_part : (d : Derivative) (ts : List Triple) → ¬ (length (polynomial_of (absolutes (terms_at d ts))).list ≡ 0) → 64 < order d.counts → bulks.HasHighOrder (bulks.bulk ts)
high_of_part d ts n h =
    let same = value-sum d (bulks.absolute_triples ts) ∙ ap polynomial_of (terms_at-absolute d ts) in
    triple_of (bulks.bulk ts) d (λ (t : Triple). 64 < order t.0.counts) (λ z. n (ap (λ (p : WholePolynomial). length p.list) (sym same ∙ z) ∙ ap length none_listed)) (λ m a. h)

-- ---- within the limits
-- the coefficient of the derivative is within the limits, and so is its order where there is one
abbrev pub IsPartWithin : List Triple → Derivative → Type 0
IsPartWithin ts d = IsWithinLimits (polynomial_of (absolutes (terms_at d ts))) × (¬ (length (polynomial_of (absolutes (terms_at d ts))).list ≡ 0) → order d.counts ≤ 64)

module _ (ders : List Der) (ts : List Triple) (all : AreDerivatives (derivatives_of ders) ts) where
  bulk_gathered : triples (bulks.bulk ts) ≡ triples_in (gathered (derivatives_of ders) (bulks.absolute_triples ts))
  bulk_gathered = triples_gathered (derivatives_of ders) (bulks.absolute_triples ts) all.ordered (covers_absolute (derivatives_of ders) ts all.all)

  low_one : (d : Derivative) (p : WholePolynomial) → IsWithinLimits p → (¬ (length p.list ≡ 0) → order d.counts ≤ 64) → Every IsLow (triples_with d p.list)
  low_one d p w o = by p.list refl
    where
      by : (es : List (Monomial × ℤ)) → p.list ≡ es → Every IsLow (triples_with d p.list)
      by [] e = subst (λ l. Every IsLow (triples_with d l)) (sym e) tt
      by (x ∷ es) e = low_part d p (o (λ z. let l : length p.list ≡ suc (length es) = ap length e in absurd (omega arith))) w

  low_all : (ds : List Derivative) → Every (IsPartWithin ts) ds → Every IsLow (triples_in (gathered ds (bulks.absolute_triples ts)))
  low_all [] h = tt
  low_all (d ∷ ds) h =
      every-append IsLow (triples_with d (coefficient_at d (bulks.absolute_triples ts)).list) (triples_in (gathered ds (bulks.absolute_triples ts)))
      (subst (λ es. Every IsLow (triples_with d (polynomial_of es).list)) (sym (terms_at-absolute d ts)) (low_one d (polynomial_of (absolutes (terms_at d ts))) (h.0).0 (h.0).1)) (low_all ds h.1)

  pub within_of_parts : Every (IsPartWithin ts) (derivatives_of ders) → length (triples_in (gathered (derivatives_of ders) (bulks.absolute_triples ts))) ≤ 1000000 → bulks.IsFormWithinLimits (bulks.bulk ts)
  within_of_parts h few = within_of_low (bulks.bulk ts) (subst (Every IsLow) (sym bulk_gathered) (low_all (derivatives_of ders) h)) (subst (λ us. length us ≤ 1000000) (sym bulk_gathered) few)

  pub many_of_parts : 1000000 < length (triples_in (gathered (derivatives_of ders) (bulks.absolute_triples ts))) → bulks.HasManyTriples (bulks.bulk ts)
  many_of_parts many = subst (λ us. 1000000 < length us) (sym bulk_gathered) many

pub same_cause : (fail : PolyFail) (p q : WholePolynomial) → p ≡ q → IsCause fail p → IsCause fail q
same_cause fail p q e h = subst (IsCause fail) e h
