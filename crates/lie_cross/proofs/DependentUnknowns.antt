-- On which variables the unknowns of a form depend: told term by term, and for all variables.
use Rattle.std.specs.Prelude.{◌≡◌, ℕ, zero, suc, ◌+◌, ◌<◌, ◌≤◌, ◌⊎◌, Bool, true, false, cond, not, ◌&&◌, ◌||◌, eqb, MatchBool, List, []}
use Rattle.std.specs.Prelude.{◌∷◌, map, filter, length, get_or, take}
use Rattle.std.proofs.Common.{refl, sym, ap, ap₂, subst, ◌∙◌, arith, inl, inr, true≢false, eqb-true}
use Rattle.std.proofs.Math.Bool.{beq}
use Rattle.std.proofs.lemmas.List.{get_or_past}
use Rattle.std.proofs.lemmas.List.Elements.{All-from_recursion}
use Rattle.std.proofs.lemmas.List.Folds.{list_any-from_Any, list_any_none}
use Rattle.std.specs.List.{AllByRecursion as Every, Any, list_any, range_with_len}
use Rattle.lie_math.specs.Counts.{Derivative}
use Rattle.lie_math.specs.LinearForm.{LinearForm}
use Rattle.lie_math.specs.LinearSystem.{Unknown}
use Rattle.lie_math.specs.Polynomial.{WholePolynomial}
use Rattle.lie_math.proofs.SomeElement.{any_head, any_tail}
use Rattle.lie_math.proofs.Decisions.{at_most_or_greater}
use Rattle.lie_math.proofs.Tests.{or_false}
use Rattle.lie_ring.proofs.Fronts.{all_taken}
use Rattle.lie_jet.specs.Derivatives.{derivative_of}
use Rattle.lie_jet.specs.declared.derivative.Der.{Der}
use Rattle.lie_lin.specs.Forms.{coefficients_of}
use Rattle.lie_lin.specs.Systems.{has_bit, unknown_of}
use Rattle.lie_lin.specs.declared.system.Unknown as kept
use Rattle.lie_normal.proofs.DerivedForms.{any_every}
use Rattle.lie_steps.specs.Equations.{depends}
use Rattle.lie_steps.specs.Isolate.{SomeDepends, SomeIsFree}

abbrev Term : Type 0
Term = Der × WholePolynomial

-- ---- tests
same_test : (a b : Bool) → beq a b ≡ true → a ≡ b
same_test true true e = refl
same_test true false e = absurd (true≢false (sym e))
same_test false true e = absurd (true≢false (sym e))
same_test false false e = refl

other_test : (a b : Bool) → beq a b ≡ false → a ≡ not b
other_test true true e = absurd (true≢false e)
other_test true false e = refl
other_test false true e = refl
other_test false false e = absurd (true≢false e)

-- ---- the terms of a form
module _ (us : List Unknown) (v : ℕ) (yes : Bool) where
  -- the unknown depends on v, or, for yes false, does not
  abbrev pub Is : Derivative → Type 0
  Is d = depends us d.unknown v ≡ yes

  abbrev pub IsNot : Term → Type 0
  IsNot t = depends us t.0.unknown v ≡ not yes

  any_term : (ts : List Term) (k : ℕ) (x : Term) → k < length ts → x ≡ get_or ts k x → Is (derivative_of x.0)
      → Any (λ (e : Derivative × WholePolynomial). Is e.0) (coefficients_of ts)
  any_term [] k x lt is h = absurd (omega arith)
  any_term (t ∷ ts) zero x lt is h =
      any_head (λ (e : Derivative × WholePolynomial). Is e.0) (derivative_of t.0, t.1) (coefficients_of ts)
      (subst (λ (s : Term). Is (derivative_of s.0)) is h)
  any_term (t ∷ ts) (suc k) x lt is h =
      any_tail (λ (e : Derivative × WholePolynomial). Is e.0) (derivative_of t.0, t.1) (coefficients_of ts)
      (any_term ts k x (omega arith) is h)

  every_term : (ts : List Term) → Every IsNot ts → Every (λ (e : Derivative × WholePolynomial). depends us (e.0).unknown v ≡ not yes)
      (coefficients_of ts)
  every_term [] h = tt
  every_term (t ∷ ts) h = (h.0, every_term ts h.1)

  module _ (E : LinearForm) (ts : List Term) (is : coefficients_of ts ≡ E.list) where
    pub some_term : (k : ℕ) (x : Term) (r : Bool) → k < length ts → x ≡ get_or ts k x → r ≡ depends us x.0.unknown v → beq r yes ≡ true
        → Any (λ (e : Derivative × WholePolynomial). depends us (e.0).unknown v ≡ yes) E.list
    some_term k x r lt at e t = subst (Any (λ (e : Derivative × WholePolynomial). Is e.0)) is
        (any_term ts k x lt at (sym e ∙ same_test r yes t))

    pub no_term : (k : ℕ) → length ts ≤ k → Every IsNot (take k ts)
        → Every (λ (e : Derivative × WholePolynomial). depends us (e.0).unknown v ≡ not yes) E.list
    no_term k le h =
        subst (Every (λ (e : Derivative × WholePolynomial). depends us (e.0).unknown v ≡ not yes)) is
        (every_term ts (subst (Every IsNot) (all_taken ts k le) h))

  pub is_not : (x : Term) (r : Bool) → r ≡ depends us x.0.unknown v → beq r yes ≡ false → IsNot x
  is_not x r e t = sym e ∙ other_test r yes t

-- ---- both kinds of unknowns
module _ (us : List Unknown) (E : LinearForm) (v : ℕ) where
  pub both_kinds : (r : Bool) → SomeDepends us E v
      → MatchBool r (SomeIsFree us E v) (Every (λ (e : Derivative × WholePolynomial). depends us (e.0).unknown v ≡ true) E.list)
      → MatchBool r (SomeDepends us E v × SomeIsFree us E v) (¬ (SomeDepends us E v × SomeIsFree us E v))
  both_kinds true a h = (a, h)
  both_kinds false a h = λ p. any_every (λ (e : Derivative × WholePolynomial). depends us (e.0).unknown v ≡ false) ⊥ E.list p.1
      (no E.list h)
    where
      no : (es : List (Derivative × WholePolynomial)) → Every (λ (e : Derivative × WholePolynomial). depends us (e.0).unknown v ≡ true) es
          → Every (λ (e : Derivative × WholePolynomial). depends us (e.0).unknown v ≡ false → ⊥) es
      no [] k = tt
      no (e ∷ es) k = ((λ f. true≢false (sym k.0 ∙ f)), no es k.1)

  pub one_kind : Every (λ (e : Derivative × WholePolynomial). depends us (e.0).unknown v ≡ false) E.list
      → ¬ (SomeDepends us E v × SomeIsFree us E v)
  one_kind h p = any_every (λ (e : Derivative × WholePolynomial). depends us (e.0).unknown v ≡ true) ⊥ E.list p.0 (no E.list h)
    where
      no : (es : List (Derivative × WholePolynomial)) → Every (λ (e : Derivative × WholePolynomial). depends us (e.0).unknown v ≡ false) es
          → Every (λ (e : Derivative × WholePolynomial). depends us (e.0).unknown v ≡ true → ⊥) es
      no [] k = tt
      no (e ∷ es) k = ((λ f. true≢false (sym f ∙ k.0)), no es k.1)

-- ---- a test that is passed by some element or by none
pub any_says : {X : Type 0} (t : X → Bool) (xs : List X) (r : Bool) → MatchBool r (Any (λ x. t x ≡ true) xs) (Every (λ x. t x ≡ false) xs)
    → r ≡ list_any t xs
any_says t xs true h = sym (list_any-from_Any t xs h)
any_says t xs false h = sym (list_any_none t xs (All-from_recursion (λ x. t x ≡ false) xs h))

-- ---- variables past the last
not_equal : (v k : ℕ) → ¬ (v ≡ k) → eqb v k ≡ false
not_equal v k n = go (eqb v k) refl
  where
    go : (t : Bool) → eqb v k ≡ t → t ≡ false
    go true e = absurd (n (eqb-true v k e))
    go false e = refl

beyond : (v k n : ℕ) → k + n ≤ v → list_any (eqb v) (range_with_len k n) ≡ false
beyond v k zero h = refl
beyond v k (suc n) h = ap₂ ◌||◌ (not_equal v k (λ e. absurd (omega arith))) (beyond v (k + 1) n (omega arith))

filtered : (h : ℕ → Bool) (v : ℕ) (xs : List ℕ) → list_any (eqb v) xs ≡ false → list_any (eqb v) (filter h xs) ≡ false
filtered h v [] e = refl
filtered h v (x ∷ xs) e = go (h x) (filtered h v xs (or_false (eqb v x) (list_any (eqb v) xs) e).1)
  where
    go : (t : Bool) → list_any (eqb v) (filter h xs) ≡ false → list_any (eqb v) (cond t (x ∷ filter h xs) (filter h xs)) ≡ false
    go true r = ap₂ ◌||◌ (or_false (eqb v x) (list_any (eqb v) xs) e).0 r
    go false r = r

and_false : (b : Bool) → (b && false) ≡ false
and_false true = refl
and_false false = refl

no_dependence : (us : List kept.Unknown) (f v : ℕ) → 8 ≤ v → depends (map unknown_of us) f v ≡ false
no_dependence [] f v h = refl
no_dependence (u ∷ us) f v h =
    ap₂ ◌||◌
    (ap (λ b. eqb u.number f && b) (filtered (has_bit u.vars) v (range_with_len 0 8) (beyond v 0 8 (omega arith)))
    ∙ and_false (eqb u.number f)) (no_dependence us f v h)

pub none_depends : (us : List kept.Unknown) (es : List (Derivative × WholePolynomial)) (v : ℕ) → 8 ≤ v
    → list_any (λ (e : Derivative × WholePolynomial). depends (map unknown_of us) (e.0).unknown v) es ≡ false
none_depends us [] v h = refl
none_depends us (e ∷ es) v h = ap₂ ◌||◌ (no_dependence us (e.0).unknown v h) (none_depends us es v h)

-- ---- an array of them
pub inside_of : (us : List kept.Unknown) (es : List (Derivative × WholePolynomial)) (inside : List Bool) (k : ℕ) → length inside ≡ 8 → 8 ≤ k
    → ((v : ℕ) → v < k
    → get_or inside v false ≡ list_any (λ (e : Derivative × WholePolynomial). depends (map unknown_of us) (e.0).unknown v) es)
    → (v : ℕ) → get_or inside v false ≡ list_any (λ (e : Derivative × WholePolynomial). depends (map unknown_of us) (e.0).unknown v) es
inside_of us es inside k eight le h v = go (at_most_or_greater 8 v)
  where
    go : (8 ≤ v) ⊎ (v < 8)
        → get_or inside v false ≡ list_any (λ (e : Derivative × WholePolynomial). depends (map unknown_of us) (e.0).unknown v) es
    go (inl g) = get_or_past inside v false (omega arith) ∙ sym (none_depends us es v g)
    go (inr g) = h v (omega arith)
