-- What the terms of an equation say of a column, summed one after the other, and its bulk.
use Rattle.std.specs.Prelude.{◌≡◌, ℕ, zero, suc, ◌+◌, ◌<◌, ◌≤◌, Bool, true, false, cond, eqb, List, [], ◌∷◌, ◌++◌, map, length, drop}
use Rattle.std.specs.Prelude.{get_or, ℤ, pos}
use Rattle.std.proofs.Common.{refl, sym, ap, ap₂, subst, ◌∙◌, arith, eq-eqb, ⊎_elim}
use Rattle.std.proofs.Math.ListN.{drop_of_length-le}
use Rattle.std.specs.Fn.{iterate}
use Rattle.lie_math.specs.Counts.{Derivative, derived, partials, partials_from, trimmed}
use Rattle.lie_math.specs.FiniteSumLaws.{plus_idl, plus_comm, plus_assoc}
use Rattle.lie_math.specs.Limits.{absolute}
use Rattle.lie_math.specs.LinearForm.{LinearForm, apply}
use Rattle.lie_math.specs.Monomial.{Monomial, degree}
use Rattle.lie_math.specs.PartialDerivative.{partial}
use Rattle.lie_math.specs.Polynomial.{WholePolynomial, polynomials, terms, term, 0ᴾ, ◌+ᴾ◌, ◌*ᴾ◌}
use Rattle.lie_math.specs.SortedSum.{sum_of_entries}
use Rattle.lie_math.proofs.Decisions.{number_decided}
use Rattle.lie_math.proofs.Limits.{IsNonNegative, nonneg_none, nonneg_sum}
use Rattle.lie_math.proofs.SomeElement.{any_head, any_tail}
use Rattle.lie_math.proofs.Tests.{same_number}
use Rattle.lie_steps.proofs.Derived.{partials-zero}
use Rattle.lie_ring.specs.Causes.{IsPast, IsCause}
use Rattle.lie_ring.specs.declared.failures.PolyFail.{PolyFail}
use Rattle.lie_ring.specs.declared.failures.PolyFail.TheVariants.{Past, NoMemory}
use Rattle.lie_jet.specs.Derivatives.{derivative_of}
use Rattle.lie_jet.specs.declared.derivative.Der.{Der}
use Rattle.lie_jet.proofs.Absolutes.{absolute_twice}
use Rattle.lie_jet.proofs.BoundedPolynomials.{absolute-nonneg, cause_bounded, bounded_first, bounded_second}
use Rattle.lie_jet.proofs.PolynomialBounds.{IsBound, sum_bound, none_bound, absolute_bound, covered_absolute, trans_bound, plain_bound}
use Rattle.lie_lin.specs.Forms.{coefficients_of}
use Rattle.lie_reduce.proofs.Products.{times-none, nonneg_times, bounded_times}
use Rattle.lie_rows.proofs.RowLoops.{drop_at}
use Rattle.lie_spans.specs.Conditions.{column_alone}
use Rattle.lie_spans.specs.Fields.{Column}
use Rattle.lie_degree.specs.Conditions.{said_of, said_bulk}
use Rattle.lie_degree.specs.Said.{terms_say, terms_bulk, IsSaidCause, said_lists}
use Rattle.lie_degree.specs.declared.equations.Said.{Said}
use Rattle.lie_degree.specs.SmallTerms.{IsSmall}
use Rattle.lie_degree.proofs.SmallTerms.{small_plain, small_monomial, small_partial, partials_trimmed}

-- ---- the derivative of a column's monomial
other_unknown : (k : Column) (u : ℕ) → ¬ (u ≡ k.0 + 1) → column_alone k u ≡ 0ᴾ
other_unknown k zero n = refl
other_unknown k (suc s) n = by (eqb k.0 s) refl
  where
    by : (b : Bool) → eqb k.0 s ≡ b → cond b (term k.1 (pos 1)) 0ᴾ ≡ 0ᴾ
    by true e = let q : k.0 ≡ s = same_number k.0 s e in absurd (n (omega arith))
    by false e = refl

own_unknown : (k : Column) (u : ℕ) → u ≡ k.0 + 1 → column_alone k u ≡ term k.1 (pos 1)
own_unknown k u e = ap (column_alone k) (e ∙ next k.0) ∙ ap (λ b. cond b (term k.1 (pos 1)) 0ᴾ) (eq-eqb k.0 k.0 refl)
  where
    next : (n : ℕ) → n + 1 ≡ suc n
    next n = omega arith

pub derived_other : (k : Column) (d : Der) → ¬ (d.unknown ≡ k.0 + 1) → derived (column_alone k) (derivative_of d) ≡ 0ᴾ
derived_other k d n = ap (partials (trimmed d.counts)) (other_unknown k d.unknown n) ∙ partials-zero (trimmed d.counts)

pub derived_own : (k : Column) (d : Der) → d.unknown ≡ k.0 + 1 → derived (column_alone k) (derivative_of d) ≡ partials d.counts
    (term k.1 (pos 1))
derived_own k d e = ap (partials (trimmed d.counts)) (own_unknown k d.unknown e) ∙ partials_trimmed d.counts (term k.1 (pos 1))

small_often : (v c : ℕ) (p : WholePolynomial) → IsSmall p → IsSmall (iterate (partial v) c p)
small_often v zero p s = s
small_often v (suc c) p s = small_often v c (partial v p) (small_partial v p s)

small_partials : (i : ℕ) (J : List ℕ) (p : WholePolynomial) → IsSmall p → IsSmall (partials_from i J p)
small_partials i [] p s = s
small_partials i (c ∷ J) p s = small_often i c (partials_from (suc i) J p) (small_partials (suc i) J p s)

-- the sum of what the first terms say of a column, what bounds it, and what is left
pub record IsSaying (k : Column) (ts : List (Der × WholePolynomial)) (i : ℕ) (sum : WholePolynomial) : Type 0 where
  pub value : sum +ᴾ terms_say (drop i ts) k ≡ terms_say ts k
  pub bulk : WholePolynomial
  pub bound : IsBound sum bulk
  pub rest : bulk +ᴾ terms_bulk (drop i ts) k ≡ terms_bulk ts k

module _ (k : Column) (low : degree k.1 ≤ 8) where
  derived_plain : (d : Derivative) → IsNonNegative (derived (column_alone k) d)
  derived_plain d = ⊎_elim
      (λ e. subst (λ p. IsNonNegative (partials d.counts p)) (sym (own_unknown k d.unknown e))
      (small_plain (partials d.counts (term k.1 (pos 1))) (small_partials 0 d.counts (term k.1 (pos 1)) (small_monomial k.1 low))))
      (λ n. subst IsNonNegative (sym (ap (partials d.counts) (other_unknown k d.unknown n) ∙ partials-zero d.counts)) nonneg_none)
      (number_decided d.unknown (k.0 + 1))

  -- ---- one term
  pub nothing_said : (a : WholePolynomial) (d : Der) → ¬ (d.unknown ≡ k.0 + 1) → 0ᴾ ≡ a *ᴾ derived (column_alone k) (derivative_of d)
  nothing_said a d n = sym (ap (λ p. a *ᴾ p) (derived_other k d n) ∙ times-none a)

  pub term_said : (a p : WholePolynomial) (d : Der) → d.unknown ≡ k.0 + 1 → p ≡ partials d.counts (term k.1 (pos 1))
      → a *ᴾ p ≡ a *ᴾ derived (column_alone k) (derivative_of d)
  term_said a p d e h = ap (λ q. a *ᴾ q) (h ∙ sym (derived_own k d e))

  pub term_cause : (fail : PolyFail) (a p : WholePolynomial) (d : Der) → d.unknown ≡ k.0 + 1 → p ≡ partials d.counts (term k.1 (pos 1))
      → IsCause fail (absolute a *ᴾ absolute p) → IsCause fail (absolute a *ᴾ derived (column_alone k) (derivative_of d))
  term_cause fail a p d e h c =
      let q : p ≡ derived (column_alone k) (derivative_of d) = h ∙ sym (derived_own k d e) in
      subst (λ x. IsCause fail (absolute a *ᴾ x))
      (ap absolute q ∙ absolute-nonneg (derived (column_alone k) (derivative_of d)) (derived_plain (derivative_of d))) c

  -- ---- the terms one after the other
  bulk_plain : (ts : List (Der × WholePolynomial)) → IsNonNegative (terms_bulk ts k)
  bulk_plain [] = nonneg_none
  bulk_plain (t ∷ ts) =
      nonneg_sum (absolute t.1 *ᴾ derived (column_alone k) (derivative_of t.0)) (terms_bulk ts k)
      (nonneg_times (absolute t.1) (derived (column_alone k) (derivative_of t.0)) ((absolute_bound t.1).plain)
      (derived_plain (derivative_of t.0))) (bulk_plain ts)

  term_bound : (t : Der × WholePolynomial) → IsBound (t.1 *ᴾ derived (column_alone k) (derivative_of t.0))
      (absolute t.1 *ᴾ derived (column_alone k) (derivative_of t.0))
  term_bound t =
      bounded_times t.1 (derived (column_alone k) (derivative_of t.0)) (absolute t.1) (derived (column_alone k) (derivative_of t.0))
      (absolute_bound t.1) (plain_bound (derived (column_alone k) (derivative_of t.0)) (derived_plain (derivative_of t.0)))

  pub say_start : (ts : List (Der × WholePolynomial)) (sum : WholePolynomial) → sum ≡ 0ᴾ → IsSaying k ts 0 sum
  say_start ts sum e = record {
    value = ap (λ p. p +ᴾ terms_say ts k) e ∙ plus_idl terms (terms_say ts k);
    bulk = 0ᴾ;
    bound = subst (λ p. IsBound p 0ᴾ) (sym e) none_bound;
    rest = plus_idl terms (terms_bulk ts k);
  }

  module _ (ts : List (Der × WholePolynomial)) (i : ℕ) (sum : WholePolynomial) (h : IsSaying k ts i sum) where
    pub say_end : length ts ≤ i → sum ≡ terms_say ts k
    say_end l =
        sym (plus_comm terms sum 0ᴾ ∙ plus_idl terms sum) ∙ ap (λ xs. sum +ᴾ terms_say xs k) (sym (drop_of_length-le ts l)) ∙ h.value

    module _ (t : Der × WholePolynomial) (l : i < length ts) (e : t ≡ get_or ts i t) where
      value_here : sum +ᴾ (t.1 *ᴾ derived (column_alone k) (derivative_of t.0) +ᴾ terms_say (drop (i + 1) ts) k) ≡ terms_say ts k
      value_here = ap (λ xs. sum +ᴾ terms_say xs k) (sym (drop_at ts i t l e)) ∙ h.value

      rest_here : h.bulk +ᴾ (absolute t.1 *ᴾ derived (column_alone k) (derivative_of t.0) +ᴾ terms_bulk (drop (i + 1) ts) k)
          ≡ terms_bulk ts k
      rest_here = ap (λ xs. h.bulk +ᴾ terms_bulk xs k) (sym (drop_at ts i t l e)) ∙ h.rest

      here_plain : IsNonNegative (absolute t.1 *ᴾ derived (column_alone k) (derivative_of t.0))
      here_plain = (term_bound t).plain

      left_plain : IsNonNegative (absolute t.1 *ᴾ derived (column_alone k) (derivative_of t.0) +ᴾ terms_bulk (drop (i + 1) ts) k)
      left_plain = nonneg_sum (absolute t.1 *ᴾ derived (column_alone k) (derivative_of t.0)) (terms_bulk (drop (i + 1) ts) k) here_plain
          (bulk_plain (drop (i + 1) ts))

      pub part_cause : (fail : PolyFail) → IsCause fail (absolute t.1 *ᴾ derived (column_alone k) (derivative_of t.0)) → IsCause fail
          (terms_bulk ts k)
      part_cause fail c =
          subst (IsCause fail) rest_here
          (cause_bounded fail (absolute t.1 *ᴾ derived (column_alone k) (derivative_of t.0)) _
          (trans_bound _ _ _ (bounded_first (absolute t.1 *ᴾ derived (column_alone k) (derivative_of t.0))
          (terms_bulk (drop (i + 1) ts) k) here_plain (bulk_plain (drop (i + 1) ts)))
          (bounded_second h.bulk _ ((h.bound).plain) left_plain)) c)

      module _ (part : WholePolynomial) (is : part ≡ t.1 *ᴾ derived (column_alone k) (derivative_of t.0)) where
        part_bound : IsBound part (absolute t.1 *ᴾ derived (column_alone k) (derivative_of t.0))
        part_bound = subst (λ p. IsBound p (absolute t.1 *ᴾ derived (column_alone k) (derivative_of t.0))) (sym is) (term_bound t)

        both : h.bulk +ᴾ absolute t.1 *ᴾ derived (column_alone k) (derivative_of t.0) +ᴾ terms_bulk (drop (i + 1) ts) k ≡ terms_bulk ts k
        both = plus_assoc terms h.bulk (absolute t.1 *ᴾ derived (column_alone k) (derivative_of t.0)) (terms_bulk (drop (i + 1) ts) k)
            ∙ rest_here

        pub add_cause : (fail : PolyFail) → IsCause fail (absolute sum +ᴾ absolute part) → IsCause fail (terms_bulk ts k)
        add_cause fail c =
            subst (IsCause fail) both
            (cause_bounded fail (absolute sum +ᴾ absolute part) _
            (trans_bound _ _ _
            (sum_bound (absolute sum) (absolute part) h.bulk (absolute t.1 *ᴾ derived (column_alone k) (derivative_of t.0))
            (covered_absolute sum h.bulk h.bound) (covered_absolute part _ part_bound))
            (bounded_first (h.bulk +ᴾ absolute t.1 *ᴾ derived (column_alone k) (derivative_of t.0)) (terms_bulk (drop (i + 1) ts) k)
            (nonneg_sum h.bulk _ ((h.bound).plain) here_plain) (bulk_plain (drop (i + 1) ts)))) c)

        pub say_next : (new : WholePolynomial) → new ≡ sum +ᴾ part → IsSaying k ts (i + 1) new
        say_next new n = record {
          value = ap (λ p. p +ᴾ terms_say (drop (i + 1) ts) k) (n ∙ ap (λ p. sum +ᴾ p) is)
              ∙ plus_assoc terms sum (t.1 *ᴾ derived (column_alone k) (derivative_of t.0)) (terms_say (drop (i + 1) ts) k) ∙ value_here;
          bulk = h.bulk +ᴾ absolute t.1 *ᴾ derived (column_alone k) (derivative_of t.0);
          bound = subst (λ p. IsBound p (h.bulk +ᴾ absolute t.1 *ᴾ derived (column_alone k) (derivative_of t.0))) (sym n)
              (sum_bound sum part h.bulk _ h.bound part_bound);
          rest = both;
        }

-- ---- the terms of a form
sizes_say : (ts : List (Der × WholePolynomial)) (k : Column) → terms_say (map (λ t. (t.0, absolute t.1)) ts) k ≡ terms_bulk ts k
sizes_say [] k = refl
sizes_say (t ∷ ts) k = ap (λ p. absolute t.1 *ᴾ derived (column_alone k) (derivative_of t.0) +ᴾ p) (sizes_say ts k)

sizes_bulk : (ts : List (Der × WholePolynomial)) (k : Column) → terms_bulk (map (λ t. (t.0, absolute t.1)) ts) k ≡ terms_bulk ts k
sizes_bulk [] k = refl
sizes_bulk (t ∷ ts) k = ap₂ (λ a p. a *ᴾ derived (column_alone k) (derivative_of t.0) +ᴾ p) (absolute_twice t.1) (sizes_bulk ts k)

module _ (E : LinearForm) (ts : List (Der × WholePolynomial)) (e : coefficients_of ts ≡ E.list) (k : Column) where
  pub form_bulk : terms_bulk ts k ≡ said_bulk E k
  form_bulk = ap (sum_of_entries polynomials (λ d a. absolute a *ᴾ derived (column_alone k) d)) e

  pub form_says : terms_say ts k ≡ said_of E k
  unfolding apply
  form_says = ap (sum_of_entries polynomials (λ d a. a *ᴾ derived (column_alone k) d)) e

  pub form_sizes : (ss : List (Der × WholePolynomial)) → ss ≡ map (λ t. (t.0, absolute t.1)) ts → terms_say ss k ≡ said_bulk E k
  form_sizes ss s = ap (λ xs. terms_say xs k) s ∙ sizes_say ts k ∙ form_bulk

  pub form_bulks : (ss : List (Der × WholePolynomial)) → ss ≡ map (λ t. (t.0, absolute t.1)) ts → terms_bulk ss k ≡ said_bulk E k
  form_bulks ss s = ap (λ xs. terms_bulk xs k) s ∙ sizes_bulk ts k ∙ form_bulk

-- one more is said
pub said_lists_append : (ss new : List Said) (s : Said) (l : List (Monomial × ℤ)) → new ≡ ss ++ s ∷ [] → s.terms.items ≡ l
    → said_lists new ≡ said_lists ss ++ l ∷ []
said_lists_append ss new s l n e = ap said_lists n ∙ go ss ∙ ap (λ x. said_lists ss ++ x ∷ []) e
  where
    go : (ss : List Said) → said_lists (ss ++ s ∷ []) ≡ said_lists ss ++ s.terms.items ∷ []
    go [] = refl
    go (t ∷ ss) = ap (λ xs. t.terms.items ∷ xs) (go ss)

-- a cause at one column is one of all
pub cause_at : (fail : PolyFail) (E : LinearForm) (ks : List Column) (i : ℕ) (k : Column) → i < length ks → k ≡ get_or ks i k
    → IsCause fail (said_bulk E k) → IsSaidCause fail E ks
cause_at (Past kind) E [] i k l e c = absurd (omega arith)
cause_at (Past kind) E (j ∷ ks) zero k l e c = any_head (λ k. IsPast kind (said_bulk E k)) j ks
    (subst (λ x. IsPast kind (said_bulk E x)) e c)
cause_at (Past kind) E (j ∷ ks) (suc i) k l e c = any_tail (λ k. IsPast kind (said_bulk E k)) j ks
    (cause_at (Past kind) E ks i k (omega arith) e c)
cause_at NoMemory E ks i k l e c = tt
