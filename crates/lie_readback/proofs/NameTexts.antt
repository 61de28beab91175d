-- The names of variables are found again, and the texts of variables below p + q are their names.
use Rattle.std.specs.Prelude.{ℕ, zero, suc, ◌≡◌, ◌+◌, ◌-◌, ◌*◌, ◌<◌, ◌≤◌, ◌==◌, ltb, nat_lt, Bool, true, false, List, [], ◌∷◌, ◌++◌, length, replicate, take, drop, Some, refl}
use Rattle.std.specs.List.{list_any, IsDistinct, AllByRecursion as Every}
use Rattle.std.proofs.Common.{sym, ap, ◌∙◌, subst, arith}
use Rattle.std.proofs.lemmas.Bool.Decides.{nat_tests}
use Rattle.std.proofs.lemmas.List.{append-nil, length-replicate}
use Rattle.lie_math.specs.Counts.{order}
use Rattle.lie_geometry.specs.Coordinates.{Space, jet, order_of, number, coordinate, coordinates_up_to, rank, ways, jets_below}
use Rattle.lie_geometry.proofs.Numbers as numbers
use Rattle.lie_geometry.proofs.NumberOrder.{order_below}
use Rattle.lie_jet.specs.Jets.{IsSmall}
use Rattle.lie_system.specs.Written.{IsLowercase, AreDistinctLetters}
use Rattle.lie_print.specs.Printing.{name_at, subscript, variable_text}
use Rattle.lie_print.proofs.PrintedVariables.{independent_text, text_of}
use Rattle.lie_scan.specs.Names.{place_from, place_of}

-- ---- names
-- the i-th name, where the first one has the place k
pub record IsNameAt (k : ℕ) (names : List ℕ) (i : ℕ) : Type 0 where
  pub letter : ℕ
  pub spelled : name_at names i ≡ letter ∷ []
  pub lower : IsLowercase letter
  pub place : place_from k names letter ≡ Some (k + i)
  pub apart : (c : ℕ) → Every (λ m. (c == m) ≡ false) names → (c == letter) ≡ false

same_letter : (n : ℕ) → (n == n) ≡ true
same_letter n = grind (arith, nat_tests)

none_more : (k : ℕ) → k ≡ k + 0
none_more k = omega arith

one_further : (k i : ℕ) → k + 1 + i ≡ k + suc i
one_further k i = omega arith

pub named_from : (k : ℕ) (names : List ℕ) → Every IsLowercase names → IsDistinct (λ a b. a == b) names → (i : ℕ) → i < length names → IsNameAt k names i
unfolding IsDistinct
named_from k [] lower distinct i lt = absurd (omega arith)
named_from k (n ∷ ns) lower distinct zero lt = record {
  letter = n;
  spelled = refl;
  lower = lower.0;
  place = rw (same_letter n) (ap Some (none_more k));
  apart = λ c h. h.0;
}
named_from k (n ∷ ns) lower distinct (suc i) lt =
    let r = named_from (k + 1) ns lower.1 distinct.1 i (omega arith) in
    let other : (n == r.letter) ≡ false = r.apart n distinct.0 in
    record {
      letter = r.letter;
      spelled = r.spelled;
      lower = r.lower;
      place = rw other (r.place ∙ ap Some (one_further k i));
      apart = λ c h. r.apart c h.1;
    }

pub named_at : (names : List ℕ) → AreDistinctLetters names → (i : ℕ) → i < length names → IsNameAt 0 names i
named_at names h i lt = named_from 0 names h.letters h.distinct i lt

-- ---- dependent variables
order_zeros : (n : ℕ) → order (replicate n 0) ≡ 0
order_zeros zero = refl
order_zeros (suc n) = let e = order_zeros n in omega arith

rank_zeros : (n : ℕ) → rank (replicate n 0) ≡ 0
rank_zeros zero = refl
rank_zeros (suc n) = let e = order_zeros n in let f = rank_zeros n in rw (e, f) refl

none_counted : (n : ℕ) → list_any (λ c. nat_lt 0 c) (replicate n 0) ≡ false
none_counted zero = refl
none_counted (suc n) = none_counted n

module _ (S : Space) (small : IsSmall S) where
  dependent_number : (a : ℕ) → number S (jet a (replicate S.p 0)) ≡ S.p + a
  unfolding number
  dependent_number a =
      let o = order_zeros S.p in
      let r = rank_zeros S.p in
      let w = numbers.ways_none S.p in
      rw (o, r, w) (sums S.p S.q a)
    where
      sums : (p q a : ℕ) → p + (q * 0 + (a * 1 + 0)) ≡ p + a
      sums p q a = omega arith

  dependent_coordinate : (a : ℕ) → a < S.q → coordinate S (S.p + a) ≡ jet a (replicate S.p 0)
  dependent_coordinate a lt =
      ap (coordinate S) (sym (dependent_number a)) ∙ numbers.coordinate-number S small.some_p small.some_q (jet a (replicate S.p 0)) (lt, length-replicate S.p 0)

  dependent_text : (names : List ℕ) (a : ℕ) → a < S.q → variable_text S names (S.p + a) ≡ name_at names (S.p + a)
  dependent_text names a lt =
      let is = dependent_coordinate a lt in
      let o = order_zeros S.p in
      let low : S.p + a < coordinates_up_to S 12 = (order_below S small.some_p small.some_q (S.p + a) 12).0 (subst (λ c. order_of c ≤ 12) (sym is) (omega arith)) in
      text_of S names (S.p + a) (jet a (replicate S.p 0)) low is ∙ rw (none_counted S.p) (append-nil (name_at names (S.p + a)))

  -- a variable that is not derived
  pub variable_is_name : (names : List ℕ) (w : ℕ) → w < S.p + S.q → variable_text S names w ≡ name_at names w
  variable_is_name names w lt = go (ltb w S.p) refl
    where
      parted : (w p : ℕ) → p ≤ w → p + (w - p) ≡ w
      parted w p le = omega arith

      go : (b : Bool) → ltb w S.p ≡ b → variable_text S names w ≡ name_at names w
      go true e = let h : w < S.p = grind (arith, nat_tests, e) in independent_text S names w h
      go false e =
          let h : S.p ≤ w = grind (arith, nat_tests, e) in
          subst (λ v. variable_text S names v ≡ name_at names v) (parted w S.p h) (dependent_text names (w - S.p) (omega arith))
