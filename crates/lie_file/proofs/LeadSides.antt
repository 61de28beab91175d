-- Where an equation has a lead, its left side is the lead alone, and what the lead equals leaves room for it.
use Rattle.std.specs.Prelude.{
  ℕ,
  ◌+◌,
  ◌^◌,
  ◌≡◌,
  ◌≤◌,
  ◌<◌,
  ◌==◌,
  Bool,
  true,
  false,
  cond,
  List,
  [],
  ◌∷◌,
  ◌++◌,
  ℤ,
  pos,
  ◌+ℤ◌,
  neg_ℤ,
  unsigned_abs,
  refl,
}
use Rattle.std.specs.Ordering.{eq_by_cmp}
use Rattle.std.proofs.Common.{sym, ap, subst, ◌∙◌, arith, inl, inr}
use Rattle.std.proofs.lemmas.Bool.Decides.{nat_tests}
use borrow.Author.Differences.{ints}
use Rattle.lie_math.specs.FiniteSumLaws.{plus_idl, value-of}
use Rattle.lie_math.specs.Integer.{coefficients}
use Rattle.lie_math.specs.Monomial.{Monomial, monomial_cmp, powers, single}
use Rattle.lie_math.specs.Polynomial.{WholePolynomial, terms, polynomial_of, coefficient}
use Rattle.lie_math.specs.SortedSum.{value_at}
use Rattle.lie_math.proofs.Monomial.{exponent-single, same_monomial}
use Rattle.lie_geometry.specs.Coordinates.{Space, Coordinate, number}
use Rattle.lie_scan.specs.declared.runs.Class.TheVariants.{Letter}
use Rattle.lie_scan.specs.declared.stop.Stop.{Stop}
use Rattle.lie_scan.specs.Meaning.{size_of}
use Rattle.lie_scan.specs.Runs.{is_in, after_blanks}
use Rattle.lie_scan.specs.TokenGrammar.{IsNot, IsSign, IsCoordinateAt}
use Rattle.lie_scan.specs.SumGrammar.{IsSum, IsLeadOf, IsEquation}
use Rattle.lie_scan.proofs.Blanks.{letter_range, mark_not, ok_is}
use Rattle.lie_scan.proofs.CoordinateLaws.{coordinate_front}
use Rattle.lie_scan.proofs.SumLaws.{is-sum_at, small_front}
use Rattle.lie_scan.proofs.TermLaws.{AreSmall}
use Rattle.lie_scan.proofs.TermLimits.{value_bound}
use Rattle.lie_system.specs.Exponents.{HasSmallExponents}
use Rattle.lie_system.specs.Systems.{EquationRead}
use Rattle.lie_system.specs.Written.{HasRoomBeside}
use Rattle.lie_file.proofs.EquationLaws.{before_equals}
use Rattle.lie_file.proofs.LeadLaws.{equals_mark}

pub letter_not : (d l : ℕ) → d < 97 → is_in Letter l ≡ true → (l == d) ≡ false
letter_not d l low h = let r = letter_range l h in grind (arith, nat_tests)

letters_not : (d : ℕ) (text ls : List ℕ) (l : ℕ) → d < 97 → is_in Letter l ≡ true → after_blanks text ≡ l ∷ ls → IsNot d (after_blanks text)
letters_not d text ls l low h at = subst (IsNot d) (sym at) (letter_not d l low h)

pub small_single : (w : ℕ) → HasSmallExponents (single w)
small_single w v = rw (exponent-single w v) (go (eq_by_cmp powers.order v w))
  where
    go : (b : Bool) → cond b 1 0 ≤ 32
    go true = omega arith
    go false = omega arith

-- a coordinate alone is a sum
pub alone_is_sum : (S : Space) (names text : List ℕ) (c : Coordinate) (rest : List ℕ) → IsCoordinateAt S names text c rest
    → IsNot 94 (after_blanks rest) → IsSum S names false text ((single (number S c), pos 1) ∷ []) rest
alone_is_sum S names text c rest h no_hat =
    let f = coordinate_front S names text c rest h in
    record {
      negative = false;
      front = text;
      first = (single (number S c), pos 1);
      behind = rest;
      further = [];
      sign = inr (refl, refl, letters_not 43 text f.1 f.0 (omega arith) f.2 f.3, letters_not 45 text f.1 f.0 (omega arith) f.2 f.3);
      begins = (
        1,
        record {
          first = (number S c, 1) ∷ [];
          behind = rest;
          further = [];
          begins = inr (
            refl,
            (
              (number S c, 1),
              refl,
              record { coordinate = c; behind = rest; base = h; exponent = inl (refl, refl, no_hat); means = refl },
            ),
          );
          goes_on = refl;
          means = sym (plus_idl powers (single (number S c)));
          small = small_single (number S c);
        },
        refl,
      );
      goes_on = refl;
      are = refl;
    }

one_small : (x : Monomial) → AreSmall ((x, pos 1) ∷ [])
one_small x m = go (eq_by_cmp monomial_cmp m x)
  where
    go : (b : Bool) → cond b 1 0 + 0 < 2 ^ 127
    go true = omega arith
    go false = omega arith

-- the left side is the lead
pub lead_left : (S : Space) (names text : List ℕ) (c : Coordinate) (left : List (Monomial × ℤ)) (rest front : List ℕ)
    → IsLeadOf S names text c
    → IsSum S names false text left rest → IsSign 61 rest front → AreSmall left
    → left ≡ (single (number S c), pos 1) ∷ []
lead_left S names text c left rest front h sum equals small =
    let x : List (Monomial × ℤ) = (single (number S c), pos 1) ∷ [] in
    let alone = alone_is_sum S names text c h.behind h.alone (mark_not 61 94 h.behind h.right equals_mark refl h.equals) in
    let read = is-sum_at S names false [] text left rest sum (before_equals rest front equals) small in
    let other =
    is-sum_at S names false [] text x h.behind alone (before_equals h.behind h.right h.equals) (one_small (single (number S c))) in
    ap (λ (p : List (Monomial × ℤ) × List ℕ). p.0)
    (ok_is {E = Stop} (left, after_blanks rest) (x, after_blanks h.behind) (sym read ∙ other))

-- ---- sizes
room_beside : (r : ℤ) (n : ℕ) → unsigned_abs r ≤ n → 1 + n < 2 ^ 127 → 1 + unsigned_abs (pos 1 +ℤ neg_ℤ (pos 1 +ℤ r)) < 2 ^ 127
room_beside r n le lt = let k : unsigned_abs (pos 1 +ℤ neg_ℤ (pos 1 +ℤ r)) ≡ unsigned_abs r = omega (arith, ints) in omega arith

-- the lead minus the polynomial
pub lead_room : (S : Space) (names text : List ℕ) (e : EquationRead) (c : Coordinate) → IsEquation S names text e → IsLeadOf S names text c
    → HasRoomBeside S e.diff c
lead_room S names text e c h lead =
    let x : Monomial = single (number S c) in
    let left = lead_left S names text c h.left h.behind_left h.front lead h.left_is h.equals (small_front h.left h.right h.small) in
    let at : coefficient e.diff x ≡ value_at monomial_cmp coefficients x ((x, pos 1) ∷ h.right) =
    ap (λ (p : WholePolynomial). coefficient p x) (h.means ∙ ap (λ l. polynomial_of (l ++ h.right)) left)
    ∙ value-of terms ((x, pos 1) ∷ h.right) x in
    let here : coefficient e.diff x ≡ pos 1 +ℤ value_at monomial_cmp coefficients x h.right =
    at ∙ ap (λ b. cond b (pos 1) (pos 0) +ℤ value_at monomial_cmp coefficients x h.right) (same_monomial x) in
    let size : size_of x ((x, pos 1) ∷ h.right) < 2 ^ 127 = subst (λ l. size_of x (l ++ h.right) < 2 ^ 127) left (h.small x) in
    let sized : 1 + size_of x h.right < 2 ^ 127 = subst (λ b. cond b 1 0 + size_of x h.right < 2 ^ 127) (same_monomial x) size in
    subst (λ z. 1 + unsigned_abs (pos 1 +ℤ neg_ℤ z) < 2 ^ 127) (sym here)
    (room_beside (value_at monomial_cmp coefficients x h.right) (size_of x h.right) (value_bound x h.right) sized)
