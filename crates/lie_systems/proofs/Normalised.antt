-- Normalising: the result is normalised, and the form is a multiple of it.
use Rattle.std.specs.Prelude.{◌≡◌, ℕ, zero, suc, ◌*◌, ◌/◌, ◌<◌, List, [], ◌∷◌, ◌++◌, map, ℤ, pos, ◌*ℤ◌, unsigned_abs, int_div, not, T}
use Rattle.std.proofs.Common.{refl, sym, ap, subst, ◌∙◌, arith}
use Rattle.std.specs.List.{AllByRecursion as Every}
use Prim.Native.Nat.{◌∣◌}
use Rattle.std.proofs.lemmas.Int.{unsigned_abs-mul}
use Rattle.std.proofs.lemmas.Nat.Gcd.{dvd_refl}
use Rattle.std.proofs.Math.Nat.{eq_of_mul-eq-mul_left, eq-zero_of_zero-dvd, mul-div_cancel'}
use Rattle.lie_math.specs.SortedSum.{is_canonical}
use Rattle.lie_math.specs.FiniteSum as finite
use Rattle.lie_math.specs.Monomial.{Monomial, unit}
use Rattle.lie_math.specs.Polynomial.{WholePolynomial, terms, term}
use Rattle.lie_math.specs.Counts.{Derivative}
use Rattle.lie_math.specs.LinearForm.{forms, LinearForm, times_form}
use Rattle.lie_math.proofs.Integer.{cancel_ℤ, unsigned_abs_zero}
use Rattle.lie_math.proofs.CanonicalLists.{canonical_value}
use Rattle.lie_math.proofs.TermWise.{test_not_zero}
use Rattle.lie_math.proofs.ZeroDivisors.{cancel_mono}
use Rattle.lie_systems.specs.Triples.{Triple, triples, triples_in, triples_with, sum_of_triples}
use Rattle.lie_systems.specs.Normalised.{content, common_monomial, IsFirstPositive, IsPrimitive, sign, first_sign, primitive_triples}
use Rattle.lie_systems.proofs.Divisibility.{all_divided, all_common, content-times, common_monomial-times, sign_twice, size-sign, sign_divided, divided_back}
use Rattle.lie_math.proofs.ExactQuotients.{number_back}
use Rattle.lie_systems.proofs.Triples.{times_triple, times_form-sum, triples-times, sum_of_triples-triples}
use Rattle.lie_math.proofs.Monomial.{·_idr}

-- ---- the first triple of a form that is not nothing
pub record First (ts : List Triple) : Type 0 where
  pub head : Triple
  pub rest : List Triple
  pub is : ts ≡ head ∷ rest
  pub apart : ¬ (head.2 ≡ pos 0)

pub first_of : (E : LinearForm) (e : Derivative × WholePolynomial) (es : List (Derivative × WholePolynomial)) → E.list ≡ e ∷ es → First (triples E)
first_of E e es is = subst (λ xs. First (triples_in xs)) (sym is) (go e.1.list refl e.1.canonical)
  where
    some : T (not (finite.is_none terms e.1))
    some = canonical_value forms e es (subst (λ xs. T (is_canonical forms.order forms.values xs)) is E.canonical)

    go : (xs : List (Monomial × ℤ)) → e.1.list ≡ xs → T (is_canonical terms.order terms.values xs) → First (triples_in (e ∷ es))
    go [] l c = absurd (subst (λ ys. T (not (finite.list_is_empty ys))) l some)
    go (x ∷ xs) l c = record {
      head = (e.0, x.0, x.1);
      rest = triples_with e.0 xs ++ triples_in es;
      is = ap (λ ys. triples_with e.0 ys ++ triples_in es) l;
      apart = test_not_zero x.1 (canonical_value terms x xs c);
    }

-- ---- what divides all triples
first_sign_twice : (ts : List Triple) → first_sign ts *ℤ first_sign ts ≡ pos 1
first_sign_twice [] = refl
first_sign_twice (t ∷ ts) = sign_twice t.2

pub size-first_sign : (ts : List Triple) → unsigned_abs (first_sign ts) ≡ 1
size-first_sign [] = refl
size-first_sign (t ∷ ts) = size-sign t.2

-- the number that is divided out, with its sign
abbrev pub signed_content : List Triple → ℤ
signed_content ts = first_sign ts *ℤ pos (content ts)

pub size-signed_content : (ts : List Triple) → unsigned_abs (signed_content ts) ≡ content ts
size-signed_content ts = unsigned_abs-mul (first_sign ts) (pos (content ts)) ∙ ap (λ n. n * content ts) (size-first_sign ts) ∙ plain (content ts)
  where
    plain : (n : ℕ) → 1 * n ≡ n
    plain n = omega arith

content_divides_head : (ts : List Triple) (f : First ts) → content ts ∣ unsigned_abs f.head.2
content_divides_head ts f = (subst (Every (λ (t : Triple). content ts ∣ unsigned_abs t.2)) f.is (all_divided (content ts) ts (dvd_refl (content ts)))).0

content_positive : (ts : List Triple) → First ts → 0 < content ts
content_positive ts f = go (content ts) (content_divides_head ts f)
  where
    go : (g : ℕ) → g ∣ unsigned_abs f.head.2 → 0 < g
    go zero h = absurd (f.apart (unsigned_abs_zero f.head.2 (eq-zero_of_zero-dvd h)))
    go (suc g) h = omega arith

pub signed_content_apart : (ts : List Triple) → First ts → ¬ (signed_content ts ≡ pos 0)
signed_content_apart ts f e = let p = content_positive ts f in let z : content ts ≡ 0 = sym (size-signed_content ts) ∙ ap unsigned_abs e in omega arith

-- ---- what is left when it is divided out
abbrev pub primitive_part : List Triple → LinearForm
primitive_part ts = sum_of_triples (primitive_triples ts)

pub times-primitive_part : (ts : List Triple) → times_form (term (common_monomial ts) (signed_content ts)) (primitive_part ts) ≡ sum_of_triples ts
times-primitive_part ts =
    times_form-sum (common_monomial ts) (signed_content ts) (primitive_triples ts)
    ∙ ap sum_of_triples (divided_back (first_sign ts) (content ts) (common_monomial ts) ts (first_sign_twice ts) (all_divided (content ts) ts (dvd_refl (content ts))) (all_common (common_monomial ts) ts (λ v. omega arith)))

module _ (ts us : List Triple) (f : First ts) (same : ts ≡ map (times_triple (common_monomial ts) (signed_content ts)) us) where
  content_of_part : content us ≡ 1
  content_of_part =
      eq_of_mul-eq-mul_left (content ts) (content_positive ts f) (content us) 1
      (ap (λ n. n * content us) (sym (size-signed_content ts)) ∙ sym (content-times (common_monomial ts) (signed_content ts) us) ∙ ap content (sym same) ∙ plain (content ts))
    where
      plain : (n : ℕ) → n ≡ n * 1
      plain n = omega arith

  common_of_part : common_monomial us ≡ unit
  common_of_part = go us same
    where
      go : (vs : List Triple) → ts ≡ map (times_triple (common_monomial ts) (signed_content ts)) vs → common_monomial vs ≡ unit
      go [] e = refl
      go (v ∷ vs) e = cancel_mono (common_monomial ts) (common_monomial (v ∷ vs)) unit (sym (common_monomial-times (common_monomial ts) (signed_content ts) v vs) ∙ ap common_monomial (sym e) ∙ sym (·_idr (common_monomial ts)))

  first_of_part : IsFirstPositive us
  first_of_part = go us (sym f.is ∙ same)
    where
      positive : (n : ℕ) → 0 < n → content ts ∣ n → (k : ℕ) × (n / content ts ≡ suc k)
      positive n p h = some (n / content ts) (mul-div_cancel' (content ts) h)
        where
          some : (q : ℕ) → content ts * q ≡ n → (k : ℕ) × (q ≡ suc k)
          some zero e = absurd (let z : content ts * 0 ≡ 0 = omega arith in omega arith)
          some (suc k) e = (k, refl)

      size_positive : 0 < unsigned_abs f.head.2
      size_positive = go_size (unsigned_abs f.head.2) refl
        where
          go_size : (n : ℕ) → unsigned_abs f.head.2 ≡ n → 0 < n
          go_size zero e = absurd (f.apart (unsigned_abs_zero f.head.2 e))
          go_size (suc n) e = omega arith

      go : (vs : List Triple) → f.head ∷ f.rest ≡ map (times_triple (common_monomial ts) (signed_content ts)) vs → IsFirstPositive vs
      go [] e = absurd (cc)
      go (v ∷ vs) e =
          let q = positive (unsigned_abs f.head.2) size_positive (content_divides_head ts f) in
          let numbers : f.head.2 ≡ signed_content ts *ℤ v.2 = ap (λ (ws : List Triple). number_of ws) e in
          let s : first_sign ts ≡ sign f.head.2 = ap first_sign f.is in
          let back : signed_content ts *ℤ (first_sign ts *ℤ int_div f.head.2 (pos (content ts))) ≡ f.head.2 = number_back (first_sign ts) (content ts) f.head.2 (first_sign_twice ts) (content_divides_head ts f) in (
            q.0,
            cancel_ℤ (signed_content ts) v.2 (first_sign ts *ℤ int_div f.head.2 (pos (content ts))) (signed_content_apart ts f) (sym numbers ∙ sym back)
                ∙ ap (λ z. z *ℤ int_div f.head.2 (pos (content ts))) s ∙ sign_divided f.head.2 (content ts) ∙ ap pos q.1,
          )
        where
          number_of : List Triple → ℤ
          number_of [] = pos 0
          number_of (w ∷ ws) = w.2

pub primitive_part_is_primitive : (E : LinearForm) → First (triples E) → IsPrimitive (primitive_part (triples E))
primitive_part_is_primitive E f = record { number = content_of_part ts us f same; monomial = common_of_part ts us f same; positive = first_of_part ts us f same }
  where
    ts : List Triple
    ts = triples E

    us : List Triple
    us = triples (primitive_part (triples E))

    same : triples E ≡ map (times_triple (common_monomial (triples E)) (signed_content (triples E))) (triples (primitive_part (triples E)))
    same = ap triples (sym (sum_of_triples-triples E) ∙ sym (times-primitive_part (triples E))) ∙ triples-times (common_monomial (triples E)) (signed_content (triples E)) (signed_content_apart (triples E) f) (primitive_part (triples E))
