-- Steps of the readers of field texts, over plain numbers and lists.
use Rattle.std.specs.Prelude.{ℕ, zero, suc, ◌*◌, ◌/◌, ◌≡◌, ◌≤◌, ◌==◌, Bool, true, false, List, [], ◌∷◌, ◌++◌, length, take, drop, ℤ, pos, ◌*ℤ◌, if◌then◌else◌, refl}
use Rattle.std.specs.Int.{◌∣◌}
use Rattle.std.proofs.Common.{sym, ap, ap₂, ◌∙◌, arith}
use Rattle.std.proofs.Math.Nat.{eq-zero_of_zero-dvd, mul-div_cancel'}
use Rattle.lie_math.specs.Monomial.{Monomial, powers, unit}
use Rattle.lie_math.specs.FiniteSumLaws.{plus_idl, of_list}
use Rattle.lie_math.specs.Polynomial.{WholePolynomial, terms, polynomial_of, constant, ◌*ᴾ◌}
use Rattle.lie_math.proofs.TermWise.{times_list, polynomial_of-times}
use Rattle.lie_ring.specs.Entries.{entries}
use Rattle.lie_fieldtext.specs.declared.field_term.FieldTerm.{FieldTerm}
use Rattle.lie_fieldtext.specs.FieldMeaning.{terms_over}
use Rattle.lie_fieldtext.specs.FieldAnswers.{content_from, times_entries}
use Rattle.lie_jet.proofs.TotalParts.{entries_same}
use Rattle.std.proofs.lemmas.List.{drop_all}
use Rattle.lie_ring.proofs.Fronts.{all_taken}

pub divisor_some : (g n : ℕ) → g ∣ n → 1 ≤ n → 1 ≤ g
divisor_some zero n h some = let k : n ≡ 0 = eq-zero_of_zero-dvd h in absurd (omega arith)
divisor_some (suc g) n h some = omega arith

pub quotient_some : (g n : ℕ) → g ∣ n → 1 ≤ n → 1 ≤ n / g
quotient_some g n h some = go (n / g) (mul-div_cancel' g h)
  where
    go : (k : ℕ) → g * k ≡ n → 1 ≤ k
    go zero e = let z : g * 0 ≡ 0 = times_zero g in absurd (omega arith)
      where
        times_zero : (g : ℕ) → g * 0 ≡ 0
        times_zero g = omega arith
    go (suc k) e = omega arith

-- ---- divisors of lists
pub content_done : (number divisor i : ℕ) (items es : List (Monomial × ℤ)) → content_from number items ≡ content_from divisor (drop i items) → length items ≤ i → items ≡ es → divisor ≡ content_from number es
content_done number divisor i items es same le is = sym (ap (content_from number) (sym is) ∙ same ∙ ap (content_from divisor) (drop_all i items le))

pub times_entries_list : (g : ℕ) (es : List (Monomial × ℤ)) → times_list unit (pos g) es ≡ times_entries g es
times_entries_list g [] = refl
times_entries_list g (e ∷ es) = ap₂ (λ (m : Monomial) (l : List (Monomial × ℤ)). (m, pos g *ℤ e.1) ∷ l) (plus_idl powers e.0) (times_entries_list g es)

pub divided_all : (g i : ℕ) (out items fs : List (Monomial × ℤ)) (p : WholePolynomial) → times_entries g out ≡ take i items → length items ≤ i → items ≡ fs → entries (λ z. z) fs ≡ p.list → times_entries g out ≡ p.list
divided_all g i out items fs p h le same is = h ∙ all_taken items i le ∙ same ∙ sym (entries_same fs) ∙ is

pub divided_made : (g : ℕ) (out slice : List (Monomial × ℤ)) (p q : WholePolynomial) → times_entries g out ≡ p.list → slice ≡ out → q ≡ polynomial_of slice → constant (pos g) *ᴾ q ≡ p
divided_made g out slice p q e s is =
    ap (λ r. constant (pos g) *ᴾ r) (is ∙ ap polynomial_of s) ∙ sym (polynomial_of-times unit (pos g) out) ∙ ap polynomial_of (times_entries_list g out ∙ e) ∙ of_list terms p

-- ---- lists
pub terms_over-append : (n s : ℕ) (ts us : List FieldTerm) → terms_over n s (ts ++ us) ≡ terms_over n s ts ++ terms_over n s us
terms_over-append n s [] us = refl
terms_over-append n s (t ∷ ts) us = go (t.place == s) (terms_over-append n s ts us)
  where
    go : (b : Bool) → terms_over n s (ts ++ us) ≡ terms_over n s ts ++ terms_over n s us
        → (if b then (t.monomial, t.number *ℤ pos (n / t.over)) ∷ terms_over n s (ts ++ us) else terms_over n s (ts ++ us))
        ≡ (if b then (t.monomial, t.number *ℤ pos (n / t.over)) ∷ terms_over n s ts else terms_over n s ts) ++ terms_over n s us
    go true h = ap (λ l. (t.monomial, t.number *ℤ pos (n / t.over)) ∷ l) h
    go false h = h
