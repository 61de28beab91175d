-- Powers: what is read is of the grammar, and what is of the grammar is read.
use Rattle.std.specs.Prelude.{ℕ, ◌≡◌, ◌^◌, ◌<◌, ◌≤◌, Bool, true, false, ◌&&◌, ◌==◌, nat_le, List, [], ◌∷◌, if◌then◌else◌, Option, Some, None, Ok, refl}
use Rattle.std.proofs.Common.{sym, ap, ◌∙◌, subst, inl, inr, arith}
use Rattle.std.proofs.lemmas.Bool.Decides.{nat_tests}
use Rattle.lie_geometry.specs.Coordinates.{Space, number}
use Rattle.lie_scan.specs.declared.fault.BadKind.TheVariants.{Exponent}
use Rattle.lie_scan.specs.Runs.{after_blanks}
use Rattle.lie_scan.specs.Stops.{stop, ◌>>=◌}
use Rattle.lie_scan.specs.Tokens.{value_of, digits_at, exponent_value, exponent_by, exponent_at, coordinate_at, power_at}
use Rattle.lie_scan.specs.TokenGrammar.{IsSign, IsExponentAt, IsPower, IsNot}
use Rattle.lie_scan.proofs.Blanks.{bind_then, guard_else, ok_is, and_true, blanks_to, IsMark, mark_next}
use Rattle.lie_scan.proofs.NumberLaws.{digits_at-is, is-digits_at, number_of_digits, digits_of_number, value_of_number}
use Rattle.lie_scan.proofs.CoordinateLaws.{coordinate_at-is, is-coordinate_at}

pub hat : IsMark 94
hat = record { no_blank = refl }

value_then : (o : Option ℕ) (text rest : List ℕ) (x : ℕ × List ℕ) → exponent_value o text rest ≡ Ok x → (n : ℕ) × (o ≡ Some n) × (1 ≤ n) × (n ≤ 32) × (◌≡◌ {A = ℕ × List ℕ} (n, rest) x)
value_then None text rest x h = cc
value_then (Some n) text rest x h =
    let g = guard_else (nat_le 1 n && nat_le n 32) (stop Exponent text) (Ok (n, rest)) x h in
    let tests = and_true (nat_le 1 n) (nat_le n 32) g.0 in
    (n, refl, grind (arith, nat_tests, tests.0), grind (arith, nat_tests, tests.1), ok_is (n, rest) x g.1)

pub exponent_at-is : (text behind : List ℕ) (x : ℕ × List ℕ) → exponent_at text behind ≡ Ok x → IsExponentAt behind x.0 x.1
unfolding exponent_at
exponent_at-is text behind x h = go (after_blanks behind) refl h
  where
    bare : IsNot 94 (after_blanks behind) → ◌≡◌ {A = ℕ × List ℕ} (1, behind) x → IsExponentAt behind x.0 x.1
    bare not same = subst (λ (y : ℕ × List ℕ). IsExponentAt behind y.0 y.1) same (inl (refl, refl, not))

    raised : (c : ℕ) (cs : List ℕ) → after_blanks behind ≡ c ∷ cs → c ≡ 94 → (digits_at cs >>= λ d. exponent_value (value_of d.0) text d.1) ≡ Ok x → IsExponentAt behind x.0 x.1
    raised c cs at is e = bind_then (digits_at cs) (λ d. exponent_value (value_of d.0) text d.1) x e (λ d is_d rest.
        let found = value_then (value_of d.0) text d.1 x rest in
        let sign : IsSign 94 behind cs = blanks_to behind (94 ∷ cs) (at ∙ ap (λ b. b ∷ cs) is) in
        subst (λ (y : ℕ × List ℕ). IsExponentAt behind y.0 y.1) found.4
        (inr (cs, sign, (number_of_digits cs d.0 d.1 found.0 (digits_at-is cs d is_d) found.1).0, found.2, found.3)))

    by_test : (c : ℕ) (cs : List ℕ) (t : Bool) → after_blanks behind ≡ c ∷ cs → (c == 94) ≡ t → (if t then (digits_at cs >>= λ d. exponent_value (value_of d.0) text d.1) else Ok (1, behind)) ≡ Ok x
        → ((c : ℕ) (cs : List ℕ) → after_blanks behind ≡ c ∷ cs → c ≡ 94 → (digits_at cs >>= λ d. exponent_value (value_of d.0) text d.1) ≡ Ok x → IsExponentAt behind x.0 x.1)
        → (IsNot 94 (after_blanks behind) → ◌≡◌ {A = ℕ × List ℕ} (1, behind) x → IsExponentAt behind x.0 x.1) → IsExponentAt behind x.0 x.1
    by_test c cs true at test e k l = k c cs at (grind (arith, nat_tests, test)) e
    by_test c cs false at test e k l = l (subst (IsNot 94) (sym at) test) (ok_is (1, behind) x e)

    go : (bs : List ℕ) → after_blanks behind ≡ bs → exponent_by text behind bs ≡ Ok x → IsExponentAt behind x.0 x.1
    go [] at e = bare (subst (IsNot 94) (sym at) tt) (ok_is (1, behind) x e)
    go (c ∷ cs) at e = by_test c cs (c == 94) at refl e raised bare

no_hat : (text rest bs : List ℕ) → IsNot 94 bs → exponent_by text rest bs ≡ Ok (1, rest)
no_hat text rest [] h = refl
no_hat text rest (c ∷ cs) h = rw h refl

pub is-exponent_at : (text behind : List ℕ) (e : ℕ) (rest : List ℕ) → IsExponentAt behind e rest → exponent_at text behind ≡ Ok (e, rest)
unfolding exponent_at
is-exponent_at text behind e rest h = elim h [
  | inl bare ↦ rw (bare.0, bare.1) (no_hat text rest (after_blanks rest) bare.2)
  | inr raised ↦ (
      let digits = raised.0 in
      let number = raised.2 in
      let low = raised.3 in
      let high = raised.4 in
      let small : e < 2 ^ 127 = omega arith in
      let a : nat_le 1 e ≡ true = grind (arith, nat_tests, low) in
      let b : nat_le e 32 ≡ true = grind (arith, nat_tests, high) in
      rw (mark_next 94 behind digits hat raised.1, is-digits_at digits number.digits rest (digits_of_number digits e rest number), value_of_number digits e rest number small, a, b) refl)
]

pub power_at-is : (S : Space) (names text : List ℕ) (x : (ℕ × ℕ) × List ℕ) → power_at S names (after_blanks text) ≡ Ok x → IsPower S names text x.0 x.1
unfolding power_at
power_at-is S names text x h =
    let t = after_blanks text in
    bind_then (coordinate_at S names t) _ x h (λ v is_v more.
    bind_then (exponent_at t v.1) _ x more (λ e is_e rest.
    let made : (ℕ × ℕ) × List ℕ = ((number S v.0, e.0), e.1) in
    subst (λ (y : (ℕ × ℕ) × List ℕ). IsPower S names text y.0 y.1) (ok_is made x rest)
    (record { coordinate = v.0; behind = v.1; base = coordinate_at-is S names text v is_v; exponent = exponent_at-is t v.1 e is_e; means = refl })))

pub is-power_at : (S : Space) (names text : List ℕ) (p : ℕ × ℕ) (rest : List ℕ) → IsPower S names text p rest → power_at S names (after_blanks text) ≡ Ok (p, rest)
unfolding power_at
is-power_at S names text p rest h =
    let base = is-coordinate_at S names text h.coordinate h.behind h.base in
    let power = is-exponent_at (after_blanks text) h.behind p.1 rest h.exponent in
    rw (base, power) (ap (λ (n : ℕ). Ok ((n, p.1), rest)) (sym h.means))
