-- The sums of the absolute values of like terms over a denominator, one term more at a time, and whether they are within the limits.
use Rattle.std.specs.Prelude.{ℕ, zero, suc, length, take, drop, get_or, ◌+◌, ◌*◌, ◌/◌, ◌^◌, ◌≡◌, ◌≤◌, ◌<◌, ◌⊎◌, ◌==◌, nat_lt, Bool, true, false, cond, List, [], ◌∷◌, ◌++◌, Option, Some, None, if◌then◌else◌, unsigned_abs, refl}
use Rattle.std.specs.List.{list_all, AllByRecursion as Every}
use Rattle.std.specs.Global.{Vec}
use Rattle.std.specs.BTreeMap.{BTreeMap}
use Rattle.std.specs.Ordering.{eq_by_cmp, is_eq}
use Rattle.std.proofs.Common.{sym, ap, ◌∙◌, subst, inl, inr, arith}
use Rattle.std.proofs.lemmas.Bool.Decides.{nat_tests}
use Rattle.lie_math.specs.Monomial.{Monomial, powers, monomial_cmp}
use Rattle.lie_math.specs.FiniteSumLaws.{same_list}
use Rattle.lie_math.proofs.FiniteSum.{key as same_key}
use Rattle.lie_math.proofs.Monomial.{same_monomial}
use Rattle.lie_math.specs.Polynomial.{terms}
use Rattle.lie_fieldtext.specs.declared.field_term.FieldTerm.{FieldTerm}
use Rattle.lie_scan.specs.Sizes.{pairs_cmp, key_cmp, size_in}
use Rattle.lie_fieldtext.specs.FieldMeaning.{common_multiple, denominator_from, common_denominator, amount_over, is_at, size_over, HaveSmallSums}
use Rattle.lie_fieldtext.specs.FieldReading.{is_small, are_within, with_field_term}
use Rattle.lie_fieldtext.specs.FieldAnswers.{AreSizesOver, AreSmallOver, IsSized, IsPut, HasDenominator, IsTermOver, AreGathered}
use Rattle.std.proofs.Math.ListN.{take-append-drop}
use Rattle.std.proofs.Math.Nat.{div-mul-le_self, mul-le-mul_left}
use Rattle.std.proofs.lemmas.Nat.{le-div}
use Rattle.lie_scan.proofs.Blanks.{and_true}
use Rattle.lie_math.specs.CommonDivisors.{common_divisor}
use Rattle.lie_math.proofs.CommonDivisors.{common_divisor_is}
use Rattle.lie_fieldtext.proofs.FieldSteps.{quotient_some}
use Rattle.lie_scan.proofs.SizeSteps.{equal_from_is_eq, pairs_same, pairs_itself}
use Rattle.lie_ring.proofs.Fronts.{take_more}

-- ---- like terms
at_says : (s : ℕ) (m : Monomial) (t : FieldTerm) → is_at s m t ≡ true → (t.place ≡ s) × (m ≡ t.monomial)
at_says s m t h = let p = and_true (t.place == s) (eq_by_cmp monomial_cmp m t.monomial) h in (grind (arith, nat_tests, p.0), same_key terms m t.monomial p.1)

at_itself : (t : FieldTerm) → is_at t.place t.monomial t ≡ true
at_itself t = let p : (t.place == t.place) ≡ true = grind (arith, nat_tests) in rw (p, same_monomial t.monomial) refl

says_at : (s : ℕ) (m : Monomial) (t : FieldTerm) → t.place ≡ s → m ≡ t.monomial → is_at s m t ≡ true
says_at s m t p q = ap (λ n. is_at n m t) (sym p) ∙ ap (λ k. is_at t.place k t) q ∙ at_itself t

size_over-push : (n s : ℕ) (m : Monomial) (ts : List FieldTerm) (t : FieldTerm) → size_over n s m (ts ++ t ∷ []) ≡ size_over n s m ts + cond (is_at s m t) (amount_over n t) 0
size_over-push n s m [] t = omega arith
size_over-push n s m (u ∷ ts) t = let e = size_over-push n s m ts t in omega arith

size_here : (n : ℕ) (ts : List FieldTerm) (t : FieldTerm) → size_over n t.place t.monomial (ts ++ t ∷ []) ≡ size_over n t.place t.monomial ts + amount_over n t
size_here n ts t = size_over-push n t.place t.monomial ts t ∙ ap (λ b. size_over n t.place t.monomial ts + cond b (amount_over n t) 0) (at_itself t)

-- the key of a term ties with the key of a place and a monomial exactly where the term has these
ties_at : (key other : Vec (ℕ × ℕ)) (s : ℕ) (m : Monomial) (t : FieldTerm) → key.items ≡ (t.place, 0) ∷ t.monomial.list → other.items ≡ (s, 0) ∷ m.list → is_eq (key_cmp key other) ≡ is_at s m t
ties_at key other s m t at_key at_other = by_case (is_eq (key_cmp key other)) (is_at s m t) refl refl
  where
    heads : (a b : ℕ × ℕ) (k l : List (ℕ × ℕ)) → a ∷ k ≡ b ∷ l → a ≡ b
    heads a b k l e = cc

    tails : (a b : ℕ × ℕ) (k l : List (ℕ × ℕ)) → a ∷ k ≡ b ∷ l → k ≡ l
    tails a b k l e = cc

    by_case : (a b : Bool) → is_eq (key_cmp key other) ≡ a → is_at s m t ≡ b → a ≡ b
    by_case true true p q = refl
    by_case false false p q = refl
    by_case true false p q =
        let lists : (t.place, 0) ∷ t.monomial.list ≡ (s, 0) ∷ m.list = sym at_key ∙ pairs_same key.items other.items (equal_from_is_eq (key_cmp key other) p) ∙ at_other in
        let place : t.place ≡ s = ap (λ (z : ℕ × ℕ). z.0) (heads (t.place, 0) (s, 0) t.monomial.list m.list lists) in
        let same : t.monomial ≡ m = same_list powers t.monomial m (tails (t.place, 0) (s, 0) t.monomial.list m.list lists) in
        sym (says_at s m t place (sym same)) ∙ q
    by_case false true p q =
        let says = at_says s m t q in
        let items : key.items ≡ other.items = at_key ∙ ap (λ (n : ℕ). (n, 0) ∷ t.monomial.list) says.0 ∙ ap (λ (k : Monomial). (s, 0) ∷ k.list) (sym says.1) ∙ sym at_other in
        sym p ∙ ap (λ l. is_eq (pairs_cmp key.items l)) (sym items) ∙ ap is_eq (pairs_itself key.items)

-- ---- one term more
module _ (n : ℕ) (ts : List FieldTerm) (t : FieldTerm) where
  sizes_step : (old new : BTreeMap (Vec (ℕ × ℕ)) ℕ) (key : Vec (ℕ × ℕ)) (total : ℕ) → AreSizesOver n old ts → key.items ≡ (t.place, 0) ∷ t.monomial.list → total ≡ size_in old key + amount_over n t
      → ((other : Vec (ℕ × ℕ)) → size_in new other ≡ (if is_eq (key_cmp key other) then total else size_in old other)) → AreSizesOver n new (ts ++ t ∷ [])
  sizes_step old new key total sizes at_key is_total updates = record { size = λ other s m at_other. updates other ∙ by_case other s m (is_at s m t) refl at_other ∙ sym (size_over-push n s m ts t) }
    where
      by_case : (other : Vec (ℕ × ℕ)) (s : ℕ) (m : Monomial) (b : Bool) → is_at s m t ≡ b → other.items ≡ (s, 0) ∷ m.list
          → (if is_eq (key_cmp key other) then total else size_in old other) ≡ size_over n s m ts + cond (is_at s m t) (amount_over n t) 0
      by_case other s m true e at_other =
          let says = at_says s m t e in
          let here : size_in old key ≡ size_over n s m ts = sizes.size key t.place t.monomial at_key ∙ ap (λ k. size_over n k t.monomial ts) says.0 ∙ ap (λ k. size_over n s k ts) (sym says.1) in
          rw (ties_at key other s m t at_key at_other, e, is_total, here) refl
      by_case other s m false e at_other = rw (ties_at key other s m t at_key at_other, e, sizes.size other s m at_other) (omega arith)

  small_step : AreSmallOver n ts → size_over n t.place t.monomial ts + amount_over n t < 2 ^ 127 → AreSmallOver n (ts ++ t ∷ [])
  small_step small low s m = go (is_at s m t) refl
    where
      go : (b : Bool) → is_at s m t ≡ b → size_over n s m (ts ++ t ∷ []) < 2 ^ 127
      go true e =
          let says = at_says s m t e in
          let here : size_over n s m (ts ++ t ∷ []) ≡ size_over n t.place t.monomial ts + amount_over n t =
          ap (λ k. size_over n k m (ts ++ t ∷ [])) (sym says.0) ∙ ap (λ k. size_over n t.place k (ts ++ t ∷ [])) says.1 ∙ size_here n ts t in
          omega arith
      go false e =
          let there : size_over n s m (ts ++ t ∷ []) ≡ size_over n s m ts + cond false (amount_over n t) 0 = size_over-push n s m ts t ∙ ap (λ b. size_over n s m ts + cond b (amount_over n t) 0) e in
          let low = small s m in omega arith

  large_step : 2 ^ 127 ≤ size_over n t.place t.monomial ts + amount_over n t → AreSmallOver n (ts ++ t ∷ []) → ⊥
  large_step high small = let here = size_here n ts t in let low = small t.place t.monomial in omega arith

  small_before : AreSmallOver n (ts ++ t ∷ []) → AreSmallOver n ts
  small_before small s m = let here = size_over-push n s m ts t in let low = small s m in omega arith

  pub sized_step : (old : BTreeMap (Vec (ℕ × ℕ)) ℕ) (new : Option (BTreeMap (Vec (ℕ × ℕ)) ℕ)) (o : Option ℕ) (key : Vec (ℕ × ℕ)) → key.items ≡ (t.place, 0) ∷ t.monomial.list → IsSized n ts (Some old)
      → o ≡ (if nat_lt (size_in old key + amount_over n t) (2 ^ 127) then Some (size_in old key + amount_over n t) else None) → IsPut old key o new → IsSized n (ts ++ t ∷ []) new
  sized_step old new o key at_key sized is put = go (nat_lt (size_in old key + amount_over n t) (2 ^ 127)) refl is
    where
      here : size_in old key ≡ size_over n t.place t.monomial ts
      here = sized.0.size key t.place t.monomial at_key

      made : (p : Option ℕ) (q : Option (BTreeMap (Vec (ℕ × ℕ)) ℕ)) → size_in old key + amount_over n t < 2 ^ 127 → p ≡ Some (size_in old key + amount_over n t) → IsPut old key p q → IsSized n (ts ++ t ∷ []) q
      made None q low e put = cc
      made (Some total) None low e put = absurd put
      made (Some total) (Some more) low e put =
          let is_total : total ≡ size_in old key + amount_over n t = cc in
          let at = here in
          (sizes_step old more key total sized.0 at_key is_total put, small_step sized.1 (omega arith))

      none : (p : Option ℕ) (q : Option (BTreeMap (Vec (ℕ × ℕ)) ℕ)) → 2 ^ 127 ≤ size_in old key + amount_over n t → p ≡ None → IsPut old key p q → IsSized n (ts ++ t ∷ []) q
      none (Some total) q high e put = cc
      none None (Some more) high e put = absurd put
      none None None high e put = let at = here in large_step (omega arith)

      go : (b : Bool) → nat_lt (size_in old key + amount_over n t) (2 ^ 127) ≡ b → o ≡ (if b then Some (size_in old key + amount_over n t) else None) → IsSized n (ts ++ t ∷ []) new
      go true low e = made o new (grind (arith, nat_tests, low)) e put
      go false high e = none o new (grind (arith, nat_tests, high)) e put

size_over-append : (n s : ℕ) (m : Monomial) (ts us : List FieldTerm) → size_over n s m ts ≤ size_over n s m (ts ++ us)
size_over-append n s m [] us = omega arith
size_over-append n s m (t ∷ ts) us = let e = size_over-append n s m ts us in omega arith

-- sums past the limit stay past it
pub past_front : (n : ℕ) (ts : List FieldTerm) (i : ℕ) (t : FieldTerm) → i < length ts → t ≡ get_or ts i t → (AreSmallOver n (take i ts ++ t ∷ []) → ⊥) → AreSmallOver n ts → ⊥
past_front n ts i t lt is past small =
    past (λ s m. (
    let whole : (take i ts ++ t ∷ []) ++ drop (i + 1) ts ≡ ts = ap (λ l. l ++ drop (i + 1) ts) (take_more ts i t lt is) ∙ take-append-drop (i + 1) ts in
    let a = size_over-append n s m (take i ts ++ t ∷ []) (drop (i + 1) ts) in
    let b = small s m in
    let c : size_over n s m ((take i ts ++ t ∷ []) ++ drop (i + 1) ts) ≡ size_over n s m ts = ap (size_over n s m) whole in
    omega arith))

pub past_before : (n : ℕ) (ts : List FieldTerm) (t : FieldTerm) → (AreSmallOver n ts → ⊥) → AreSmallOver n (ts ++ t ∷ []) → ⊥
past_before n ts t past small = past (small_before n ts t small)

-- ---- the limits
pub denominator_from-append : (n : ℕ) (ts : List FieldTerm) (t : FieldTerm) → denominator_from n (ts ++ t ∷ []) ≡ common_multiple (denominator_from n ts) t.over
denominator_from-append n [] t = refl
denominator_from-append n (u ∷ ts) t = denominator_from-append (common_multiple n u.over) ts t

all_small : (n : ℕ) (ts us : List FieldTerm) → list_all (is_small n ts) us ≡ true → (s : ℕ) (m : Monomial) → (size_over n s m us ≡ 0) ⊎ (size_over n s m ts < 2 ^ 127)
all_small n ts [] h s m = inl refl
all_small n ts (u ∷ us) h s m =
    let tests = and_true (is_small n ts u) (list_all (is_small n ts) us) h in
    go (is_at s m u) refl (grind (arith, nat_tests, tests.0)) (all_small n ts us tests.1 s m)
  where
    go : (b : Bool) → is_at s m u ≡ b → size_over n u.place u.monomial ts < 2 ^ 127 → (size_over n s m us ≡ 0) ⊎ (size_over n s m ts < 2 ^ 127)
        → (cond b (amount_over n u) 0 + size_over n s m us ≡ 0) ⊎ (size_over n s m ts < 2 ^ 127)
    go true e low rest =
        let says = at_says s m u e in
        inr (subst (λ k. size_over n s k ts < 2 ^ 127) (sym says.1) (subst (λ k. size_over n k u.monomial ts < 2 ^ 127) says.0 low))
    go false e low rest = elim rest [ inl none ↦ inl (omega arith) | inr small ↦ inr small ]

small_all : (n : ℕ) (ts us : List FieldTerm) → AreSmallOver n ts → list_all (is_small n ts) us ≡ true
small_all n ts [] small = refl
small_all n ts (u ∷ us) small = let low = small u.place u.monomial in let e : is_small n ts u ≡ true = grind (arith, nat_tests, low) in rw e (small_all n ts us small)

pub within-is : (ts : List FieldTerm) → are_within ts ≡ true → HaveSmallSums ts
within-is ts h =
    let n = common_denominator ts in
    let tests = and_true (nat_lt n (2 ^ 127)) (list_all (is_small n ts) ts) h in
    record {
      denominator = grind (arith, nat_tests, tests.0);
      sizes = λ s m. elim (all_small n ts ts tests.1 s m) [ inl none ↦ (omega arith) | inr low ↦ low ];
    }

pub is-within : (ts : List FieldTerm) → HaveSmallSums ts → are_within ts ≡ true
is-within ts h =
    let low = h.denominator in
    let e : nat_lt (common_denominator ts) (2 ^ 127) ≡ true = grind (arith, nat_tests, low) in
    rw e (small_all (common_denominator ts) ts ts h.sizes)

pub not_within : (ts : List FieldTerm) → (HaveSmallSums ts → ⊥) → are_within ts ≡ false
not_within ts past = go (are_within ts) refl
  where
    go : (b : Bool) → are_within ts ≡ b → b ≡ false
    go true e = absurd (past (within-is ts e))
    go false e = refl

-- ---- one term more within the limits
some_if : (b : Bool) (x y : ℕ) → Some x ≡ (if b then Some y else None) → (b ≡ true) × (x ≡ y)
some_if true x y h = (refl, cc)
some_if false x y h = cc

none_if : (b : Bool) (y : ℕ) → None ≡ (if b then Some y else None) → b ≡ false
none_if true y h = cc
none_if false y h = refl

multiple_some : (n d : ℕ) → 1 ≤ n → 1 ≤ d → 1 ≤ common_multiple n d
multiple_some n d some some_d = go n (d / common_divisor n d) some (quotient_some (common_divisor n d) d (common_divisor_is n d).1 some_d)
  where
    go : (a b : ℕ) → 1 ≤ a → 1 ≤ b → 1 ≤ a * b
    go zero b p q = absurd (omega arith)
    go (suc a) zero p q = absurd (omega arith)
    go (suc a) (suc b) p q = omega arith

pub common_some : (n : ℕ) (ts : List FieldTerm) → 1 ≤ n → Every HasDenominator ts → 1 ≤ denominator_from n ts
common_some n [] some h = some
common_some n (t ∷ ts) some h = common_some (common_multiple n t.over) ts (multiple_some n t.over some h.0) h.1

-- ---- fewer terms
multiple_grows : (n d : ℕ) → 1 ≤ d → n ≤ common_multiple n d
multiple_grows n d some = go n (d / common_divisor n d) (quotient_some (common_divisor n d) d (common_divisor_is n d).1 some)
  where
    go : (a b : ℕ) → 1 ≤ b → a ≤ a * b
    go a zero p = absurd (omega arith)
    go a (suc b) p = let e : a * suc b ≡ a + a * b = omega arith in omega arith

denominator_grows : (n : ℕ) (us : List FieldTerm) → Every HasDenominator us → n ≤ denominator_from n us
denominator_grows n [] h = omega arith
denominator_grows n (u ∷ us) h = let a = multiple_grows n u.over h.0 in let b = denominator_grows (common_multiple n u.over) us h.1 in omega arith

denominator_from-join : (n : ℕ) (ts us : List FieldTerm) → denominator_from n (ts ++ us) ≡ denominator_from (denominator_from n ts) us
denominator_from-join n [] us = refl
denominator_from-join n (t ∷ ts) us = denominator_from-join (common_multiple n t.over) ts us

quotient_grows : (a b d : ℕ) → a ≤ b → 1 ≤ d → a / d ≤ b / d
quotient_grows a b d le some = let k = div-mul-le_self a d in le-div (a / d) b d some (omega arith)

amount_grows : (n k : ℕ) (t : FieldTerm) → n ≤ k → 1 ≤ t.over → amount_over n t ≤ amount_over k t
amount_grows n k t le some = mul-le-mul_left (unsigned_abs t.number) (quotient_grows n k t.over le some)

size_grows : (n k s : ℕ) (m : Monomial) (ts : List FieldTerm) → n ≤ k → Every HasDenominator ts → size_over n s m ts ≤ size_over k s m ts
size_grows n k s m [] le h = omega arith
size_grows n k s m (t ∷ ts) le h = go (is_at s m t) (amount_grows n k t le h.0) (size_grows n k s m ts le h.1)
  where
    go : (b : Bool) → amount_over n t ≤ amount_over k t → size_over n s m ts ≤ size_over k s m ts → cond b (amount_over n t) 0 + size_over n s m ts ≤ cond b (amount_over k t) 0 + size_over k s m ts
    go true p q = omega arith
    go false p q = omega arith

pub within_front : (ts us : List FieldTerm) → Every HasDenominator ts → Every HasDenominator us → HaveSmallSums (ts ++ us) → HaveSmallSums ts
within_front ts us some_ts some_us h =
    let whole = denominator_from-join 1 ts us in
    let grows : common_denominator ts ≤ common_denominator (ts ++ us) = (let g = denominator_grows (common_denominator ts) us some_us in omega arith) in
    let low = h.denominator in
    record {
      denominator = omega arith;
      sizes = λ s m. (
          let a = size_grows (common_denominator ts) (common_denominator (ts ++ us)) s m ts grows some_ts in
          let b = size_over-append (common_denominator (ts ++ us)) s m ts us in
          let c = h.sizes s m in
          omega arith);
    }

pub every_more : {X : Type 0} (Q : X → Type 0) (xs : List X) (x : X) → Every Q xs → Q x → Every Q (xs ++ x ∷ [])
every_more Q [] x h k = (k, tt)
every_more Q (y ∷ xs) x h k = (h.0, every_more Q xs x h.1 k)

pub nothing_within : HaveSmallSums []
nothing_within = record { denominator = omega arith; sizes = λ s m. (let e : 0 < 2 ^ 127 = omega arith in e) }

-- each term is over a denominator over which the sums are small
amount_low : (n : ℕ) (ts us : List FieldTerm) → ((s : ℕ) (m : Monomial) → size_over n s m us < 2 ^ 127) → Every HasDenominator us → Every (IsTermOver n) us
amount_low n ts [] small some = tt
amount_low n ts (u ∷ us) small some =
    let here : size_over n u.place u.monomial (u ∷ us) ≡ amount_over n u + size_over n u.place u.monomial us = ap (λ b. cond b (amount_over n u) 0 + size_over n u.place u.monomial us) (at_itself u) in
    let low = small u.place u.monomial in
    (record { some = some.0; small = omega arith }, amount_low n ts us (λ s m. (let k = small s m in omega arith)) some.1)

pub gathered_over : (ts : List FieldTerm) (n : ℕ) (sizes : BTreeMap (Vec (ℕ × ℕ)) ℕ) → AreGathered ts n sizes → Every (IsTermOver n) ts
gathered_over ts n sizes h = amount_low n ts ts (subst (λ k. AreSmallOver k ts) (sym h.common) h.within.sizes) h.denominators

module _ (ts : List FieldTerm) (t : FieldTerm) (n : ℕ) (sizes : BTreeMap (Vec (ℕ × ℕ)) ℕ) (before : AreGathered ts n sizes) where
  with_common : common_denominator (ts ++ t ∷ []) ≡ common_multiple n t.over
  with_common = denominator_from-append 1 ts t ∙ ap (λ k. common_multiple k t.over) (sym before.common)

  pub put_none_denominator : (o : Option ℕ) → o ≡ (if nat_lt (common_multiple n t.over) (2 ^ 127) then Some (common_multiple n t.over) else None) → o ≡ None → ◌≡◌ {A = Option (List FieldTerm)} None (with_field_term ts t)
  put_none_denominator o is none =
      let e = with_common in
      let test = none_if (nat_lt (common_multiple n t.over) (2 ^ 127)) (common_multiple n t.over) (sym none ∙ is) in
      let k : 2 ^ 127 ≤ common_multiple n t.over = grind (arith, nat_tests, test) in
      rw (not_within (ts ++ t ∷ []) (λ within. let low = within.denominator in absurd (omega arith))) refl

  module _ (c : ℕ) (is : Some c ≡ (if nat_lt (common_multiple n t.over) (2 ^ 127) then Some (common_multiple n t.over) else None)) where
    same : c ≡ common_multiple n t.over
    same = (some_if (nat_lt (common_multiple n t.over) (2 ^ 127)) c (common_multiple n t.over) is).1

    common : common_denominator (ts ++ t ∷ []) ≡ c
    common = with_common ∙ sym same

    pub put_none : IsSized c (ts ++ t ∷ []) None → ◌≡◌ {A = Option (List FieldTerm)} None (with_field_term ts t)
    put_none past = rw (not_within (ts ++ t ∷ []) (λ within. past (subst (λ k. AreSmallOver k (ts ++ t ∷ [])) common within.sizes))) refl

    module _ (new : BTreeMap (Vec (ℕ × ℕ)) ℕ) (sized : IsSized c (ts ++ t ∷ []) (Some new)) where
      within : HaveSmallSums (ts ++ t ∷ [])
      within =
          let test = (some_if (nat_lt (common_multiple n t.over) (2 ^ 127)) c (common_multiple n t.over) is).0 in
          let low : common_multiple n t.over < 2 ^ 127 = grind (arith, nat_tests, test) in
          record { denominator = subst (λ k. k < 2 ^ 127) (sym with_common) low; sizes = subst (λ k. AreSmallOver k (ts ++ t ∷ [])) (sym common) sized.1 }

      pub put_some : (l : List FieldTerm) → l ≡ ts ++ t ∷ [] → Some l ≡ with_field_term ts t
      put_some l at = rw (is-within (ts ++ t ∷ []) within) (ap Some at)

      pub gathered_more : (l : List FieldTerm) → l ≡ ts ++ t ∷ [] → HasDenominator t → AreGathered l c new
      gathered_more l at some = subst (λ us. AreGathered us c new) (sym at) (record {
        denominators = every_more HasDenominator ts t before.denominators some;
        common = sym common;
        some = subst (λ k. 1 ≤ k) (sym same) (multiple_some n t.over before.some some);
        sized = sized.0;
        within = within;
      })
