-- Of the multiples of a form by terms one alone is normalised.
use Rattle.std.specs.Prelude.{◌≡◌, ℕ, zero, suc, ◌*◌, ◌<◌, List, [], ◌∷◌, map, length, ℤ, pos, ◌*ℤ◌, unsigned_abs, not, T}
use Rattle.std.proofs.Common.{refl, sym, ap, ap₂, subst, ◌∙◌, arith, inl, inr}
use lib.IntN.{*ℤ_comm}
use Rattle.std.proofs.lemmas.Int.{unsigned_abs-mul}
use Rattle.std.proofs.Math.Nat.{eq_of_mul-eq-mul_left}
use Rattle.lie_math.specs.FiniteSum as finite
use Rattle.lie_math.specs.FiniteSumLaws.{list-of, is_none_none}
use Rattle.lie_math.specs.Integer.{*ℤ-idl, *ℤ_assoc}
use Rattle.lie_math.specs.Monomial.{Monomial, ◌·◌, unit}
use Rattle.lie_math.specs.MonomialOrder.{·_assoc, ·_idl}
use Rattle.lie_math.specs.Polynomial.{WholePolynomial, terms, term, constant, ◌*ᴾ◌}
use Rattle.lie_math.specs.Counts.{Derivative}
use Rattle.lie_math.specs.LinearForm.{forms, LinearForm, no_form, times_form}
use Rattle.lie_math.proofs.Integer.{cancel_ℤ, product_not_zero, unsigned_abs_zero, one_not_zero}
use Rattle.lie_math.proofs.Limits.{by_test, term_apart, one_apart}
use Rattle.lie_math.proofs.ZeroDivisors.{cancel_mono}
use Rattle.lie_systems.specs.Triples.{Triple, triples, sum_of_triples}
use Rattle.lie_systems.specs.Normalised.{content, common_monomial, IsFirstPositive, IsPrimitive, derivative_alone, IsNormalised, primitive, primitive_of}
use Rattle.lie_systems.proofs.Divisibility.{content-times, common_monomial-times}
use Rattle.lie_systems.proofs.Normalised.{first_of, signed_content, signed_content_apart, primitive_part, times-primitive_part}
use Rattle.lie_systems.proofs.Primitive.{length-each, primitive_normalised}
use Rattle.lie_systems.proofs.Triples.{times_triple, each_times, list-times_form, triples-times, triples_tell, times_form-sum, sum_of_triples-triples}
use Rattle.lie_math.proofs.Monomial.{·_idr}

-- ---- lists
no_cons : {X : Type 0} {x : X} {xs : List X} → x ∷ xs ≡ [] → ⊥
no_cons h = subst (λ ys. T (not (finite.list_is_empty ys))) h tt

map_injective : {X Y : Type 0} (f : X → Y) → ((x y : X) → f x ≡ f y → x ≡ y) → (xs ys : List X) → map f xs ≡ map f ys → xs ≡ ys
map_injective f h [] [] e = refl
map_injective f h [] (y ∷ ys) e = absurd (no_cons (sym e))
map_injective f h (x ∷ xs) [] e = absurd (no_cons e)
map_injective {X} {Y} f h (x ∷ xs) (y ∷ ys) e = ap₂ ◌∷◌ (h x y (ap (λ zs. head_or (f x) zs) e)) (map_injective f h xs ys (ap tail e))
  where
    head_or : Y → List Y → Y
    head_or d [] = d
    head_or d (z ∷ zs) = z

    tail : List Y → List Y
    tail [] = []
    tail (z ∷ zs) = zs

times_triple_injective : (m : Monomial) (a : ℤ) → ¬ (a ≡ pos 0) → (t u : Triple) → times_triple m a t ≡ times_triple m a u → t ≡ u
times_triple_injective m a n t u e =
    let monomials : t.1 ≡ u.1 = cancel_mono m t.1 u.1 (ap (λ (x : Triple). x.1) e) in
    let numbers : t.2 ≡ u.2 = cancel_ℤ a t.2 u.2 n (ap (λ (x : Triple). x.2) e) in
    λ i. ((e i).0, monomials i, numbers i)

-- a term that is not 0 can be taken off
pub times_form-cancel : (m : Monomial) (a : ℤ) → ¬ (a ≡ pos 0) → (N P : LinearForm) → times_form (term m a) N ≡ times_form (term m a) P → N ≡ P
times_form-cancel m a n N P e =
    triples_tell N P (map_injective (times_triple m a) (times_triple_injective m a n) (triples N) (triples P) (sym (triples-times m a n N) ∙ ap triples e ∙ triples-times m a n P))

pub times_form-twice : (m n : Monomial) (a b : ℤ) (E : LinearForm) → times_form (term m a) (times_form (term n b) E) ≡ times_form (term (m · n) (a *ℤ b)) E
times_form-twice m n a b E =
    ap (λ G. times_form (term m a) (times_form (term n b) G)) (sym (sum_of_triples-triples E))
    ∙ ap (times_form (term m a)) (times_form-sum n b (triples E)) ∙ times_form-sum m a (map (times_triple n b) (triples E)) ∙ ap sum_of_triples (both (triples E))
    ∙ sym (times_form-sum (m · n) (a *ℤ b) (triples E)) ∙ ap (times_form (term (m · n) (a *ℤ b))) (sum_of_triples-triples E)
  where
    both : (ts : List Triple) → map (times_triple m a) (map (times_triple n b) ts) ≡ map (times_triple (m · n) (a *ℤ b)) ts
    both [] = refl
    both (t ∷ ts) =
        ap₂ ◌∷◌ (ap₂ (λ x y. (t.0, x, y)) (sym (·_assoc m n t.1)) (sym (*ℤ_assoc a b t.2))) (both ts)

-- ---- two primitive forms
module _ (m n : Monomial) (a b : ℤ) (ts us : List Triple) (same : map (times_triple m a) ts ≡ map (times_triple n b) us) where
  same_size : content ts ≡ 1 → content us ≡ 1 → unsigned_abs a ≡ unsigned_abs b
  same_size h k =
      sym (one_times (unsigned_abs a)) ∙ ap (λ c. unsigned_abs a * c) (sym h) ∙ sym (content-times m a ts) ∙ ap content same
      ∙ content-times n b us ∙ ap (λ c. unsigned_abs b * c) k ∙ one_times (unsigned_abs b)
    where
      one_times : (c : ℕ) → c * 1 ≡ c
      one_times c = omega arith

  same_monomial : IsFirstPositive ts → IsFirstPositive us → common_monomial ts ≡ unit → common_monomial us ≡ unit → m ≡ n
  same_monomial f g h k = go ts us f g h k same
    where
      go : (vs ws : List Triple) → IsFirstPositive vs → IsFirstPositive ws → common_monomial vs ≡ unit → common_monomial ws ≡ unit → map (times_triple m a) vs ≡ map (times_triple n b) ws → m ≡ n
      go [] ws f g h k e = absurd f
      go (v ∷ vs) [] f g h k e = absurd g
      go (v ∷ vs) (w ∷ ws) f g h k e =
          sym (·_idr m) ∙ ap (λ x. m · x) (sym h) ∙ sym (common_monomial-times m a v vs) ∙ ap common_monomial e
          ∙ common_monomial-times n b w ws ∙ ap (λ x. n · x) k ∙ ·_idr n

  same_number : ¬ (a ≡ pos 0) → IsFirstPositive ts → IsFirstPositive us → unsigned_abs a ≡ unsigned_abs b → a ≡ b
  same_number apart f g sizes = go ts us f g same
    where
      first_number : List Triple → ℤ
      first_number [] = pos 0
      first_number (t ∷ ts) = t.2

      positive : 0 < unsigned_abs a
      positive = by_size (unsigned_abs a) refl
        where
          by_size : (k : ℕ) → unsigned_abs a ≡ k → 0 < k
          by_size zero e = absurd (apart (unsigned_abs_zero a e))
          by_size (suc k) e = omega arith

      by_numbers : (x y : ℕ) → a *ℤ pos (suc x) ≡ b *ℤ pos (suc y) → a ≡ b
      by_numbers x y e =
          let sizes_too : unsigned_abs a * suc x ≡ unsigned_abs a * suc y =
          sym (unsigned_abs-mul a (pos (suc x))) ∙ ap unsigned_abs e ∙ unsigned_abs-mul b (pos (suc y)) ∙ ap (λ k. k * suc y) (sym sizes) in
          let xy : suc x ≡ suc y = eq_of_mul-eq-mul_left (unsigned_abs a) positive (suc x) (suc y) sizes_too in
          cancel_ℤ (pos (suc x)) a b (λ z. let k : suc x ≡ 0 = ap unsigned_abs z in omega arith)
          (*ℤ_comm (pos (suc x)) a ∙ e ∙ ap (λ k. b *ℤ pos k) (sym xy) ∙ *ℤ_comm b (pos (suc x)))

      go : (vs ws : List Triple) → IsFirstPositive vs → IsFirstPositive ws → map (times_triple m a) vs ≡ map (times_triple n b) ws → a ≡ b
      go [] ws f g e = absurd f
      go (v ∷ vs) [] f g e = absurd g
      go (v ∷ vs) (w ∷ ws) f g e = by_numbers f.0 g.0 (ap (λ z. a *ℤ z) (sym f.1) ∙ ap first_number e ∙ ap (λ z. b *ℤ z) g.1)

primitive_unique : (m n : Monomial) (a b : ℤ) → ¬ (a ≡ pos 0) → ¬ (b ≡ pos 0) → (N P : LinearForm) → IsPrimitive N → IsPrimitive P → times_form (term m a) N ≡ times_form (term n b) P → N ≡ P
primitive_unique m n a b na nb N P p q e =
    let same : map (times_triple m a) (triples N) ≡ map (times_triple n b) (triples P) = sym (triples-times m a na N) ∙ ap triples e ∙ triples-times n b nb P in
    let monomials : m ≡ n = same_monomial m n a b (triples N) (triples P) same p.positive q.positive p.monomial q.monomial in
    let numbers : a ≡ b = same_number m n a b (triples N) (triples P) same na p.positive q.positive (same_size m n a b (triples N) (triples P) same p.number q.number) in
    times_form-cancel m a na N P (e ∙ sym (ap₂ (λ x y. times_form (term x y) P) monomials numbers))

-- ---- a derivative alone
list-derivative_alone : (d : Derivative) → (derivative_alone d).list ≡ (d, constant (pos 1)) ∷ []
unfolding finite.term
list-derivative_alone d = list-of forms ((d, constant (pos 1)) ∷ []) (Rattle.lie_math.specs.Canonical.both (not (finite.is_none terms (constant (pos 1)))) _ (by_test (finite.is_none terms (constant (pos 1))) (λ e. one_apart (Rattle.lie_math.specs.FiniteSumLaws.none_of_is terms (constant (pos 1)) e))) tt)

list-times_alone : (m : Monomial) (a : ℤ) → ¬ (a ≡ pos 0) → (d : Derivative) → (times_form (term m a) (derivative_alone d)).list ≡ (d, term m a *ᴾ constant (pos 1)) ∷ []
list-times_alone m a n d = list-times_form (term m a) (term_apart m a n) (derivative_alone d) ∙ ap (each_times (term m a)) (list-derivative_alone d)

length_times : (m : Monomial) (a : ℤ) → ¬ (a ≡ pos 0) → (N : LinearForm) → length (times_form (term m a) N).list ≡ length N.list
length_times m a n N = ap length (list-times_form (term m a) (term_apart m a n) N) ∙ length-each (term m a) N.list

not_alone : (m n : Monomial) (a b : ℤ) → ¬ (a ≡ pos 0) → ¬ (b ≡ pos 0) → (d : Derivative) (P : LinearForm) → 1 < length P.list → times_form (term m a) (derivative_alone d) ≡ times_form (term n b) P → ⊥
not_alone m n a b na nb d P more e =
    let one : length (times_form (term m a) (derivative_alone d)).list ≡ 1 = ap length (list-times_alone m a na d) in
    let same : length (times_form (term m a) (derivative_alone d)).list ≡ length P.list = ap (λ (G : LinearForm). length G.list) e ∙ length_times n b nb P in
    omega arith

-- THE LAW
pub normalised_unique : (m n : Monomial) (a b : ℤ) → ¬ (a ≡ pos 0) → ¬ (b ≡ pos 0) → (N P : LinearForm) → IsNormalised N → IsNormalised P → times_form (term m a) N ≡ times_form (term n b) P → N ≡ P
normalised_unique m n a b na nb N P (inl p) (inl q) e =
    p.1 ∙ ap derivative_alone (ap (λ xs. first_derivative xs) (sym (list-times_alone m a na p.0) ∙ ap (λ (G : LinearForm). G.list) (ap (times_form (term m a)) (sym p.1) ∙ e ∙ ap (times_form (term n b)) q.1) ∙ list-times_alone n b nb q.0)) ∙ sym q.1
  where
    first_derivative : List (Derivative × WholePolynomial) → Derivative
    first_derivative [] = p.0
    first_derivative (x ∷ xs) = x.0
normalised_unique m n a b na nb N P (inl p) (inr q) e = absurd (not_alone m n a b na nb p.0 P q.0 (ap (times_form (term m a)) (sym p.1) ∙ e))
normalised_unique m n a b na nb N P (inr p) (inl q) e = absurd (not_alone n m b a nb na q.0 N p.0 (ap (times_form (term n b)) (sym q.1) ∙ sym e))
normalised_unique m n a b na nb N P (inr p) (inr q) e = primitive_unique m n a b na nb N P p.1 q.1 e

-- ---- the normalised equation of a multiple, and of a normalised equation
two_derivatives : (E : LinearForm) (e f : Derivative × WholePolynomial) (es : List (Derivative × WholePolynomial)) → E.list ≡ e ∷ f ∷ es → primitive E ≡ primitive_part (triples E)
unfolding primitive
two_derivatives E e f es is = ap (λ xs. primitive_of xs (triples E)) is

one_alone : (E : LinearForm) (e : Derivative × WholePolynomial) → E.list ≡ e ∷ [] → primitive E ≡ derivative_alone e.0
unfolding primitive
one_alone E e is = ap (λ xs. primitive_of xs (triples E)) is

none_alone : (E : LinearForm) → E.list ≡ [] → primitive E ≡ no_form
unfolding primitive
none_alone E is = ap (λ xs. primitive_of xs (triples E)) is

-- a form in two derivatives or more is a term times its normalised equation
term_times_primitive : (E : LinearForm) (e f : Derivative × WholePolynomial) (es : List (Derivative × WholePolynomial)) → E.list ≡ e ∷ f ∷ es → times_form (term (common_monomial (triples E)) (signed_content (triples E))) (primitive E) ≡ E
term_times_primitive E e f es is = ap (times_form (term (common_monomial (triples E)) (signed_content (triples E)))) (two_derivatives E e f es is) ∙ times-primitive_part (triples E) ∙ sum_of_triples-triples E

something : (E : LinearForm) (e : Derivative × WholePolynomial) (es : List (Derivative × WholePolynomial)) → E.list ≡ e ∷ es → ¬ (E ≡ no_form)
unfolding finite.none finite.of
something E e es is z = no_cons (sym is ∙ ap (λ (G : LinearForm). G.list) z)

pub primitive-times : (m : Monomial) (a : ℤ) → ¬ (a ≡ pos 0) → (E : LinearForm) → primitive (times_form (term m a) E) ≡ primitive E
primitive-times m a n E = go E.list refl
  where
    G : LinearForm
    G = times_form (term m a) E

    list : (es : List (Derivative × WholePolynomial)) → E.list ≡ es → (times_form (term m a) E).list ≡ each_times (term m a) es
    list es is = list-times_form (term m a) (term_apart m a n) E ∙ ap (each_times (term m a)) is

    go : (es : List (Derivative × WholePolynomial)) → E.list ≡ es → primitive (times_form (term m a) E) ≡ primitive E
    go [] is = none_alone (times_form (term m a) E) (list [] is) ∙ sym (none_alone E is)
    go (e ∷ []) is = one_alone (times_form (term m a) E) (e.0, term m a *ᴾ e.1) (list (e ∷ []) is) ∙ sym (one_alone E e is)
    go (e ∷ f ∷ es) is =
        let G = times_form (term m a) E in
        let multiple = list (e ∷ f ∷ es) is in
        let c = signed_content_apart (triples E) (first_of E e (f ∷ es) is) in
        let d = signed_content_apart (triples G) (first_of G (e.0, term m a *ᴾ e.1) (each_times (term m a) (f ∷ es)) multiple) in
        normalised_unique (common_monomial (triples G)) (m · common_monomial (triples E)) (signed_content (triples G)) (a *ℤ signed_content (triples E))
        d (product_not_zero a (signed_content (triples E)) n c) (primitive G) (primitive E)
        (primitive_normalised G (something G _ _ multiple)) (primitive_normalised E (something E _ _ is))
        (term_times_primitive G (e.0, term m a *ᴾ e.1) (f.0, term m a *ᴾ f.1) (each_times (term m a) es) multiple
        ∙ ap (times_form (term m a)) (sym (term_times_primitive E e f es is)) ∙ times_form-twice m (common_monomial (triples E)) a (signed_content (triples E)) (primitive E))

times_form-one : (E : LinearForm) → times_form (term unit (pos 1)) E ≡ E
times_form-one E = ap (times_form (term unit (pos 1))) (sym (sum_of_triples-triples E)) ∙ times_form-sum unit (pos 1) (triples E) ∙ ap sum_of_triples (same (triples E)) ∙ sum_of_triples-triples E
  where
    same : (ts : List Triple) → map (times_triple unit (pos 1)) ts ≡ ts
    same [] = refl
    same (t ∷ ts) = ap₂ ◌∷◌ (ap₂ (λ x y. (t.0, x, y)) (·_idl t.1) (*ℤ-idl t.2)) (same ts)

pub primitive-normalised : (N : LinearForm) → IsNormalised N → primitive N ≡ N
primitive-normalised N (inl p) = one_alone N (p.0, constant (pos 1)) (ap (λ (G : LinearForm). G.list) p.1 ∙ list-derivative_alone p.0) ∙ sym p.1
primitive-normalised N (inr p) = go N.list refl
  where
    go : (es : List (Derivative × WholePolynomial)) → N.list ≡ es → primitive N ≡ N
    go [] is = absurd (let k : length N.list ≡ 0 = ap length is in let h : 1 < length N.list = p.0 in omega arith)
    go (e ∷ []) is = absurd (let k : length N.list ≡ 1 = ap length is in let h : 1 < length N.list = p.0 in omega arith)
    go (e ∷ f ∷ es) is =
        normalised_unique (common_monomial (triples N)) unit (signed_content (triples N)) (pos 1) (signed_content_apart (triples N) (first_of N e (f ∷ es) is)) one_not_zero (primitive N) N
        (primitive_normalised N (something N e (f ∷ es) is)) (inr p) (term_times_primitive N e f es is ∙ sym (times_form-one N))
