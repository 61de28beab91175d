-- One digit more.
use Rattle.std.proofs.Common.{◌≡◌, ℕ, true, ◌+◌, ◌-◌, ◌*◌, ◌^◌, ◌<◌, ◌&&◌, List, ◌∷◌, drop, length, get_or, sym, ap, ◌∙◌, arith, add-one}
use Rattle.std.specs.List.{list_all}
use Rattle.std.specs.Char.{is_ascii_digit, digit_value}
use Rattle.std.specs.Str.Parse.{digits_value_after}
use Rattle.std.proofs.Math.Seq.{drop-cons}
use Rattle.std.proofs.lemmas.Nat.{pow-add}
use Rattle.std.proofs.lemmas.Bool.Decides.{nat_tests}
use Rattle.lie_http.proofs.framing.length_of.Goals as goal

value_of_digit : (d : ℕ) → is_ascii_digit d ≡ true → (digit_value d ≡ d - 48) × (d < 58)
value_of_digit d h = grind (arith, nat_tests)

next_value : (xs rest : List ℕ) (n d v : ℕ) → xs ≡ d ∷ rest → is_ascii_digit d ≡ true → digits_value_after 10 n xs ≡ v
    → digits_value_after 10 (n * 10 + (d - 48)) rest ≡ v
next_value xs rest n d v e h is = ap (λ k. digits_value_after 10 (n * 10 + k) rest) (sym (value_of_digit d h).0)
    ∙ ap (digits_value_after 10 n) (sym e) ∙ is

next_digits : (xs rest : List ℕ) (d : ℕ) → xs ≡ d ∷ rest → is_ascii_digit d ≡ true
    → list_all is_ascii_digit rest ≡ list_all is_ascii_digit xs
next_digits xs rest d e h = sym (ap (λ b. b && list_all is_ascii_digit rest) h) ∙ ap (list_all is_ascii_digit) (sym e)

next_bound : (n i d : ℕ) → is_ascii_digit d ≡ true → n < 2 ^ (4 * i) → n * 10 + (d - 48) < 2 ^ (4 * (i + 1))
next_bound n i d h lt =
    let within : d < 58 = (value_of_digit d h).1 in
    let wider : 2 ^ (4 * i + 4) ≡ 2 ^ (4 * i) * 16 = pow-add 2 (4 * i) 4 in
    let same : 4 * (i + 1) ≡ 4 * i + 4 = omega arith in
    rw (same, wider) (omega arith)

pub loop-digit-preserved : goal.loop-digit-preserved
loop-digit-preserved c =
    let xs = c.args.value.now in
    let i = c.loop-digit.digit-index in
    let d = get_or xs i 0 in
    let here : i < length xs = omega arith in
    let parted : drop i xs ≡ d ∷ drop (i + 1) xs = rw add-one (drop-cons xs i 0 here) in
    let digit : is_ascii_digit d ≡ true = cc in
    record {
      bound = next_bound c.loop-digit.length i d digit c.loop-digit.invariant.bound;
      value = next_value (drop i xs) (drop (i + 1) xs) c.loop-digit.length d _ parted digit c.loop-digit.invariant.value;
      digits = next_digits (drop i xs) (drop (i + 1) xs) d parted digit ∙ c.loop-digit.invariant.digits;
    }
