-- Terms: what is read is of the grammar, and what is of the grammar is read.
use Rattle.std.specs.Prelude.{ℕ, ◌≡◌, ◌+◌, ◌^◌, ◌<◌, Bool, true, false, nat_lt, List, [], ◌∷◌, ◌++◌, length, ℤ, unsigned_abs, cond, if◌then◌else◌, Some, None, Ok, refl}
use Rattle.std.specs.Ordering.{eq_by_cmp}
use Rattle.std.proofs.Common.{sym, ap, ◌∙◌, subst, inl, inr, arith}
use Rattle.std.proofs.lemmas.Bool.Decides.{nat_tests}
use Rattle.lie_math.specs.Monomial.{Monomial, monomial_cmp, unit, power_of, ◌·◌}
use Rattle.lie_math.specs.Polynomial.{terms}
use Rattle.lie_math.proofs.FiniteSum.{key as same_key}
use Rattle.lie_math.proofs.Monomial.{same_monomial}
use Rattle.lie_geometry.specs.Coordinates.{Space}
use Rattle.lie_ring.specs.Ratios.{signed}
use Rattle.lie_scan.specs.declared.runs.Class.TheVariants.{Digit}
use Rattle.lie_scan.specs.Runs.{after_blanks, is_in}
use Rattle.lie_scan.specs.Stops.{◌>>=◌}
use Rattle.lie_system.specs.Exponents.{HasSmallExponents}
use Rattle.lie_scan.specs.Meaning.{product, size_of}
use Rattle.lie_scan.specs.Tokens.{literal_at}
use Rattle.lie_scan.specs.Terms.{factor_at, factors_at, first_by, first_at, term_at, with_term, put_by, signed_term_at}
use Rattle.lie_scan.specs.TokenGrammar.{IsNumber, AreIn, IsBehindBlanks, IsNot, BeginsOutside}
use Rattle.lie_scan.specs.SumGrammar.{IsFirstFactor, IsTerm, IsSigned}
use Rattle.lie_scan.proofs.Blanks.{bind_then, ok_is, after_twice, after_outside, no_digit_above, no_blank_above, letter_range, digit_range}
use Rattle.lie_scan.proofs.NumberLaws.{literal_at-is, is-literal_at, all_digits}
use Rattle.lie_scan.proofs.CoordinateLaws.{coordinate_front}
use Rattle.lie_scan.proofs.ExponentSteps.{unit_small}
use Rattle.lie_scan.proofs.SizeSteps.{size_of-push}
use Rattle.lie_scan.proofs.FactorLaws.{small_before, factor_at-is, is-factor_at, factor_at-blanks, factors_at-is, is-factors_at}
use Rattle.lie_ring.proofs.Ratios.{unsigned_abs-signed}

-- ---- the first factor
pub literal_at-blanks : (text : List ℕ) → literal_at (after_blanks text) ≡ literal_at text
unfolding literal_at Rattle.lie_scan.specs.Tokens.digits_at
literal_at-blanks text = rw (after_twice text) refl

pub record IsFirstRead (S : Space) (names text : List ℕ) (t : ℕ × Monomial × List ℕ) : Type 0 where
  pub powers : List (ℕ × ℕ)
  pub is : IsFirstFactor S names text t.0 powers t.2
  pub means : t.1 ≡ product unit powers
  pub small : HasSmallExponents t.1

module _ (S : Space) (names text : List ℕ) where
  by_factor : (t : ℕ × Monomial × List ℕ) → (factor_at S names unit (after_blanks text) >>= λ x. Ok (1, x.0, x.1)) ≡ Ok t → IsFirstRead S names text t
  by_factor t h = bind_then (factor_at S names unit (after_blanks text)) _ t h (λ x is_x rest.
      let made : ℕ × Monomial × List ℕ = (1, x.0, x.1) in
      let factor = factor_at-is S names unit text x (sym (factor_at-blanks S names unit text) ∙ is_x) in
      subst (IsFirstRead S names text) (ok_is made t rest) (record { powers = factor.power ∷ []; is = inr (refl, (factor.power, refl, factor.is)); means = factor.means; small = factor.small unit_small }))

  by_number : (t : ℕ × Monomial × List ℕ) → (literal_at (after_blanks text) >>= λ n. Ok (n.0, unit, n.1)) ≡ Ok t → IsFirstRead S names text t
  by_number t h = bind_then (literal_at (after_blanks text)) _ t h (λ x is_x rest.
      let made : ℕ × Monomial × List ℕ = (x.0, unit, x.1) in
      let number = literal_at-is text x (sym (literal_at-blanks text) ∙ is_x) in
      subst (IsFirstRead S names text) (ok_is made t rest) (record { powers = []; is = inl (number.0, number.1, refl); means = refl; small = unit_small }))

  pub first_at-is : (t : ℕ × Monomial × List ℕ) → first_at S names (after_blanks text) ≡ Ok t → IsFirstRead S names text t
  unfolding first_at
  first_at-is t h = go (after_blanks text) refl h (by_factor t) (by_number t)
    where
      go : (bs : List ℕ) → after_blanks text ≡ bs → first_by S names bs ≡ Ok t
          → ((factor_at S names unit (after_blanks text) >>= λ x. Ok (1, x.0, x.1)) ≡ Ok t → IsFirstRead S names text t)
          → ((literal_at (after_blanks text) >>= λ n. Ok (n.0, unit, n.1)) ≡ Ok t → IsFirstRead S names text t) → IsFirstRead S names text t
      go [] at e factor number = factor (ap (λ b. factor_at S names unit b >>= λ x. Ok (1, x.0, x.1)) at ∙ e)
      go (c ∷ cs) at e factor number = by_test (is_in Digit c) e
        where
          by_test : (d : Bool) → (if d then (literal_at (c ∷ cs) >>= λ n. Ok (n.0, unit, n.1)) else factor_at S names unit (c ∷ cs) >>= λ x. Ok (1, x.0, x.1)) ≡ Ok t → IsFirstRead S names text t
          by_test true k = number (ap (λ b. literal_at b >>= λ n. Ok (n.0, unit, n.1)) at ∙ k)
          by_test false k = factor (ap (λ b. factor_at S names unit b >>= λ x. Ok (1, x.0, x.1)) at ∙ k)

abbrev pub BeginsDigit : List ℕ → Type 0
BeginsDigit [] = ⊥
BeginsDigit (c ∷ cs) = is_in Digit c ≡ true

pub number_front : (text : List ℕ) (n : ℕ) (rest : List ℕ) → IsNumber text n rest → (c : ℕ) × (cs : List ℕ) × (is_in Digit c ≡ true) × (after_blanks text ≡ c ∷ cs)
number_front text n rest h = go h.digits h.numeral.0 (all_digits h.digits h.numeral.1) h.front
  where
    go : (ds : List ℕ) → 0 < length ds → AreIn Digit ds → IsBehindBlanks text (ds ++ rest) → (c : ℕ) × (cs : List ℕ) × (is_in Digit c ≡ true) × (after_blanks text ≡ c ∷ cs)
    go [] some are front = absurd (omega arith)
    go (c ∷ cs) some are front = let range = digit_range c are.0 in let low = range.0 in (c, cs ++ rest, are.0, after_outside text (c ∷ (cs ++ rest)) front (no_blank_above c (omega arith)))

with_number : (S : Space) (names bs : List ℕ) (n : ℕ) (rest : List ℕ) → BeginsDigit bs → literal_at bs ≡ Ok (n, rest) → first_by S names bs ≡ Ok (n, unit, rest)
with_number S names [] n rest d h = absurd d
with_number S names (c ∷ cs) n rest d h = rw (d, h) refl

with_factor : (S : Space) (names bs : List ℕ) (m : Monomial) (rest : List ℕ) → BeginsOutside Digit bs → factor_at S names unit bs ≡ Ok (m, rest) → first_by S names bs ≡ Ok (1, m, rest)
with_factor S names [] m rest d h = rw h refl
with_factor S names (c ∷ cs) m rest d h = rw (d, h) refl

pub is-first_at : (S : Space) (names text : List ℕ) (n : ℕ) (ps : List (ℕ × ℕ)) (rest : List ℕ) → IsFirstFactor S names text n ps rest → HasSmallExponents (product unit ps) → first_at S names (after_blanks text) ≡ Ok (n, product unit ps, rest)
unfolding first_at
is-first_at S names text n ps rest h small = elim h [
  | inl number ↦ (
      let front = number_front text n rest number.0 in
      let read : literal_at (after_blanks text) ≡ Ok (n, rest) = literal_at-blanks text ∙ is-literal_at text n rest number.0 number.1 in
      with_number S names (after_blanks text) n rest (subst BeginsDigit (sym front.3) front.2) read ∙ ap (λ qs. Ok (n, product unit qs, rest)) (sym number.2))
  | inr power ↦ (
      let p = power.1.0 in
      let front = coordinate_front S names text power.1.2.coordinate power.1.2.behind power.1.2.base in
      let range = letter_range front.0 front.2 in
      let low = range.0 in
      let no_digit : BeginsOutside Digit (after_blanks text) = subst (BeginsOutside Digit) (sym front.3) (no_digit_above front.0 (omega arith)) in
      let fits : HasSmallExponents (product unit (p ∷ [])) = subst (λ qs. HasSmallExponents (product unit qs)) power.1.1 small in
      let read = factor_at-blanks S names unit text ∙ is-factor_at S names unit text p rest power.1.2 fits in
      with_factor S names (after_blanks text) (product unit (p ∷ [])) rest no_digit read ∙ ap (λ qs. Ok (1, product unit qs, rest)) (sym power.1.1) ∙ ap (λ k. Ok (k, product unit ps, rest)) (sym power.0))
]

-- ---- terms
pub product-append : (m : Monomial) (ps qs : List (ℕ × ℕ)) → product m (ps ++ qs) ≡ product (product m ps) qs
product-append m [] qs = refl
product-append m (p ∷ ps) qs = product-append (m · power_of p.0 p.1) ps qs

pub record IsTermRead (S : Space) (names text : List ℕ) (t : ℕ × Monomial × List ℕ) : Type 0 where
  pub rest : List ℕ
  pub is : IsTerm S names text t.0 t.1 rest
  pub left : t.2 ≡ after_blanks rest
  pub no_star : IsNot 42 (after_blanks rest)

pub term_at-is : (S : Space) (names text : List ℕ) (t : ℕ × Monomial × List ℕ) → term_at S names (after_blanks text) ≡ Ok t → IsTermRead S names text t
unfolding term_at
term_at-is S names text t h =
    bind_then (first_at S names (after_blanks text)) _ t h (λ f is_f more.
    bind_then (factors_at S names f.1 f.2) _ t more (λ x is_x rest.
    let made : ℕ × Monomial × List ℕ = (f.0, x.0, x.1) in
    let first = first_at-is S names text f is_f in
    let factors = factors_at-is S names f.1 f.2 x is_x in
    subst (IsTermRead S names text) (ok_is made t rest) (record {
      rest = factors.rest;
      is = record {
        first = first.powers;
        behind = f.2;
        further = factors.powers;
        begins = first.is;
        goes_on = factors.are;
        means = factors.means ∙ ap (λ m. product m factors.powers) first.means ∙ sym (product-append unit first.powers factors.powers);
        small = factors.small first.small;
      };
      left = factors.left;
      no_star = factors.no_star;
    })))

pub is-term_at : (S : Space) (names text : List ℕ) (n : ℕ) (m : Monomial) (rest : List ℕ) → IsTerm S names text n m rest → IsNot 42 (after_blanks rest) → term_at S names (after_blanks text) ≡ Ok (n, m, after_blanks rest)
unfolding term_at
is-term_at S names text n m rest h no_star =
    let whole : m ≡ product (product unit h.first) h.further = h.means ∙ product-append unit h.first h.further in
    let small : HasSmallExponents (product (product unit h.first) h.further) = subst HasSmallExponents whole h.small in
    let first = is-first_at S names text n h.first h.behind h.begins (small_before (product unit h.first) h.further small) in
    let factors = is-factors_at S names (product unit h.first) h.behind h.further rest h.goes_on no_star small in
    rw (first, factors) (ap (λ k. Ok (n, k, after_blanks rest)) (sym whole))

-- ---- terms with a sign
abbrev pub AreSmall : List (Monomial × ℤ) → Type 0
AreSmall ts = (m : Monomial) → size_of m ts < 2 ^ 127

pub size_here : (negative : Bool) (n : ℕ) (m : Monomial) (ts : List (Monomial × ℤ)) → size_of m (ts ++ (m, signed negative n) ∷ []) ≡ size_of m ts + n
size_here negative n m ts =
    size_of-push m m (signed negative n) ts ∙ ap (λ b. size_of m ts + cond b (unsigned_abs (signed negative n)) 0) (same_monomial m) ∙ ap (λ k. size_of m ts + k) (unsigned_abs-signed negative n)

small_push : (negative : Bool) (n : ℕ) (m : Monomial) (ts : List (Monomial × ℤ)) → AreSmall ts → size_of m ts + n < 2 ^ 127 → AreSmall (ts ++ (m, signed negative n) ∷ [])
small_push negative n m ts small low k = go (eq_by_cmp monomial_cmp k m) refl
  where
    go : (t : Bool) → eq_by_cmp monomial_cmp k m ≡ t → size_of k (ts ++ (m, signed negative n) ∷ []) < 2 ^ 127
    go true e =
        let same : k ≡ m = same_key terms k m e in
        let here : size_of m (ts ++ (m, signed negative n) ∷ []) ≡ size_of m ts + n = size_here negative n m ts in
        subst (λ q. size_of q (ts ++ (m, signed negative n) ∷ []) < 2 ^ 127) (sym same) (omega arith)
    go false e =
        let there : size_of k (ts ++ (m, signed negative n) ∷ []) ≡ size_of k ts + cond false (unsigned_abs (signed negative n)) 0 =
        size_of-push k m (signed negative n) ts ∙ ap (λ b. size_of k ts + cond b (unsigned_abs (signed negative n)) 0) e in
        let s = small k in omega arith

pub record IsSignedRead (S : Space) (names : List ℕ) (negative : Bool) (ts : List (Monomial × ℤ)) (text : List ℕ) (x : List (Monomial × ℤ) × List ℕ) : Type 0 where
  pub term : Monomial × ℤ
  pub rest : List ℕ
  pub is : IsSigned S names negative text term rest
  pub put : x.0 ≡ ts ++ term ∷ []
  pub left : x.1 ≡ after_blanks rest
  pub no_star : IsNot 42 (after_blanks rest)
  pub small : AreSmall ts → AreSmall x.0

put_then : (S : Space) (names : List ℕ) (negative : Bool) (ts : List (Monomial × ℤ)) (text : List ℕ) (x : List (Monomial × ℤ) × List ℕ) (t : ℕ × Monomial × List ℕ) → IsTermRead S names text t
    → put_by (with_term negative t.0 t.1 ts) (after_blanks text) t.2 ≡ Ok x → IsSignedRead S names negative ts text x
put_then S names negative ts text x t term h = go (nat_lt (size_of t.1 ts + t.0) (2 ^ 127)) (λ e. grind (arith, nat_tests, e)) h
  where
    go : (b : Bool) → (b ≡ true → size_of t.1 ts + t.0 < 2 ^ 127) → put_by (if b then Some (ts ++ (t.1, signed negative t.0) ∷ []) else None) (after_blanks text) t.2 ≡ Ok x → IsSignedRead S names negative ts text x
    go false low e = cc
    go true low e =
        let made : List (Monomial × ℤ) × List ℕ = (ts ++ (t.1, signed negative t.0) ∷ [], t.2) in
        subst (IsSignedRead S names negative ts text) (ok_is made x e) (record {
          term = (t.1, signed negative t.0);
          rest = term.rest;
          is = (t.0, term.is, refl);
          put = refl;
          left = term.left;
          no_star = term.no_star;
          small = λ small. small_push negative t.0 t.1 ts small (low refl);
        })

pub signed_term_at-is : (S : Space) (names : List ℕ) (negative : Bool) (ts : List (Monomial × ℤ)) (text : List ℕ) (x : List (Monomial × ℤ) × List ℕ) → signed_term_at S names negative ts text ≡ Ok x → IsSignedRead S names negative ts text x
unfolding signed_term_at
signed_term_at-is S names negative ts text x h =
    bind_then (term_at S names (after_blanks text)) _ x h (λ t is_t rest. put_then S names negative ts text x t (term_at-is S names text t is_t) rest)

pub is-signed_term_at : (S : Space) (names : List ℕ) (negative : Bool) (ts : List (Monomial × ℤ)) (text : List ℕ) (t : Monomial × ℤ) (rest : List ℕ) → IsSigned S names negative text t rest
    → IsNot 42 (after_blanks rest) → AreSmall (ts ++ t ∷ []) → signed_term_at S names negative ts text ≡ Ok (ts ++ t ∷ [], after_blanks rest)
unfolding signed_term_at
is-signed_term_at S names negative ts text t rest h no_star small =
    let n = h.0 in
    let pair : ◌≡◌ {A = Monomial × ℤ} t (t.0, signed negative n) = ap (λ (z : ℤ). (t.0, z)) h.2 in
    let here : size_of t.0 (ts ++ (t.0, signed negative n) ∷ []) < 2 ^ 127 = subst (λ (u : Monomial × ℤ). size_of t.0 (ts ++ u ∷ []) < 2 ^ 127) pair (small t.0) in
    let sum : size_of t.0 (ts ++ (t.0, signed negative n) ∷ []) ≡ size_of t.0 ts + n = size_here negative n t.0 ts in
    let fits : nat_lt (size_of t.0 ts + n) (2 ^ 127) ≡ true = grind (arith, nat_tests, here, sum) in
    rw (is-term_at S names text n t.0 rest h.1 no_star, fits) (ap (λ (u : Monomial × ℤ). Ok (ts ++ u ∷ [], after_blanks rest)) (sym pair))

pub signed_term_at-blanks : (S : Space) (names : List ℕ) (negative : Bool) (ts : List (Monomial × ℤ)) (text : List ℕ) → signed_term_at S names negative ts (after_blanks text) ≡ signed_term_at S names negative ts text
unfolding signed_term_at
signed_term_at-blanks S names negative ts text = rw (after_twice text) refl
