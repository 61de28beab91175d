-- The text of the two sides of an equation is the equation.
use Rattle.std.specs.Prelude.{ℕ, ◌^◌, ◌≡◌, ◌≤◌, ◌<◌, ◌⊎◌, Bool, true, false, List, [], ◌∷◌, ◌++◌, length, codes, ℤ, pos, negsuc, Option, Some, None, refl}
use Rattle.std.specs.List.{AllByRecursion as Every}
use Rattle.std.proofs.Common.{sym, ap, ap₂, subst, ◌∙◌, append_assoc, inl, inr}
use Rattle.std.proofs.lemmas.List.{append-nil}
use Rattle.lie_math.proofs.Differences.{less_difference}
use Rattle.lie_math.specs.FiniteSum as finite
use Rattle.lie_math.specs.FiniteSumLaws.{of_list, same_list, plus_comm, plus_idl}
use Rattle.lie_math.specs.Monomial.{Monomial, unit, single}
use Rattle.lie_math.specs.Polynomial.{WholePolynomial, terms, term, polynomial_of, negᴾ, 0ᴾ, ◌+ᴾ◌}
use Rattle.lie_math.proofs.CanonicalLists.{of-append, of-cons}
use Rattle.lie_math.proofs.Limits as limits
use Rattle.lie_math.proofs.TermWise.{polynomial_of-times}
use Rattle.lie_geometry.specs.Coordinates.{Space, Coordinate, order_of, number}
use Rattle.lie_jet.specs.Jets.{IsSmall}
use Rattle.lie_canonical.specs.CanonicalText.{polynomial_text, right_side, sides_text}
use Rattle.lie_scan.specs.Meaning.{size_of}
use Rattle.lie_print.specs.Printing.{coordinate_text}
use Rattle.lie_scan.specs.TokenGrammar.{IsSign, IsCoordinateAt}
use Rattle.lie_scan.specs.SumGrammar.{IsSigned, IsFirstSign, IsSum, HasLead, IsEquation}
use Rattle.lie_scan.proofs.FileCoordinates.{IsGood}
use Rattle.lie_file.proofs.LeadSides.{alone_is_sum}
use Rattle.lie_file.proofs.DistinctNames.{AreDistinct}
use Rattle.lie_canonical.proofs.PrintedCoordinates.{coordinate_is}
use Rattle.lie_canonical.proofs.PrintedPowers.{EndsPower}
use Rattle.lie_canonical.proofs.PrintedSums.{blank_front, blank_term, IsLowTerm, turned_terms, read_terms, sum_is}
use Rattle.lie_canonical.proofs.RightSideLists.{times_negated}

-- ---- a blank in front
blank_sign : (text : List ℕ) (negative : Bool) (rest : List ℕ) → IsFirstSign text negative rest → (front : List ℕ) × IsFirstSign (32 ∷ text) negative front × ((front ≡ rest) ⊎ (front ≡ 32 ∷ rest))
blank_sign text negative rest (inl h) = (rest, inl (blank_front text _ h), inl refl)
blank_sign text negative rest (inr h) = (32 ∷ rest, inr (h.0, ap (λ l. 32 ∷ l) h.1, h.2, h.3), inr refl)

blank_signed : (S : Space) (names : List ℕ) (negative : Bool) (text : List ℕ) (t : Monomial × ℤ) (rest front : List ℕ) → (front ≡ text) ⊎ (front ≡ 32 ∷ text) → IsSigned S names negative text t rest → IsSigned S names negative front t rest
blank_signed S names negative text t rest front (inl e) h = subst (λ l. IsSigned S names negative l t rest) (sym e) h
blank_signed S names negative text t rest front (inr e) h = subst (λ l. IsSigned S names negative l t rest) (sym e) (h.0, blank_term S names text h.0 t.0 rest h.1, h.2)

pub blank_sum : (S : Space) (names : List ℕ) (turned : Bool) (text : List ℕ) (ts : List (Monomial × ℤ)) (rest : List ℕ) → IsSum S names turned text ts rest → IsSum S names turned (32 ∷ text) ts rest
blank_sum S names turned text ts rest h =
    let s = blank_sign text h.negative h.front h.sign in
    record {
      negative = h.negative;
      front = s.0;
      first = h.first;
      behind = h.behind;
      further = h.further;
      sign = s.1;
      begins = blank_signed S names _ h.front h.first h.behind s.0 s.2 h.begins;
      goes_on = h.goes_on;
      are = h.are;
    }

-- ---- the meaning
nothing : polynomial_of ((unit, pos 0) ∷ []) ≡ polynomial_of []
unfolding finite.of
nothing = same_list terms _ _ refl

read_negated : (es : List (Monomial × ℤ)) → polynomial_of (read_terms true es) ≡ negᴾ (polynomial_of es)
read_negated [] = nothing ∙ polynomial_of-times unit (negsuc 0) []
read_negated (e ∷ es) = ap polynomial_of (sym (times_negated (e ∷ es))) ∙ polynomial_of-times unit (negsuc 0) (e ∷ es)

-- the lead minus the right side is the polynomial again
pub solved_means : (S : Space) (c : Coordinate) (diff : WholePolynomial) → diff ≡ polynomial_of ((single (number S c), pos 1) ∷ read_terms true (right_side S c diff).list)
solved_means S c diff =
    let x : WholePolynomial = term (single (number S c)) (pos 1) in
    let R : WholePolynomial = right_side S c diff in
    sym (of-cons terms (single (number S c), pos 1) (read_terms true R.list)
    ∙ ap₂ ◌+ᴾ◌ (sym (limits.term_is (single (number S c)) (pos 1))) (read_negated R.list ∙ ap negᴾ (of_list terms R))
    ∙ less_difference x diff)

pub same_terms : (es : List (Monomial × ℤ)) → turned_terms false es ≡ es
same_terms [] = refl
same_terms (e ∷ es) = ap (λ (l : List (Monomial × ℤ)). e ∷ l) (same_terms es)

read_same : (es : List (Monomial × ℤ)) → polynomial_of (read_terms false es) ≡ polynomial_of es
read_same [] = nothing
read_same (e ∷ es) = ap polynomial_of (same_terms (e ∷ es))

none_more : (p : WholePolynomial) → p +ᴾ polynomial_of [] ≡ p
unfolding finite.none
none_more p = none_right p
  where
    none_right : (p : WholePolynomial) → p +ᴾ 0ᴾ ≡ p
    none_right p = plus_comm terms p 0ᴾ ∙ plus_idl terms p

-- the polynomial minus 0 is the polynomial
pub unsolved_means : (diff : WholePolynomial) → diff ≡ polynomial_of (read_terms false diff.list ++ (unit, pos 0) ∷ [])
unsolved_means diff =
    sym (of-append terms (read_terms false diff.list) ((unit, pos 0) ∷ []) ∙ ap₂ ◌+ᴾ◌ (read_same diff.list ∙ of_list terms diff) nothing ∙ none_more diff)

-- ---- equations
abbrev IsSmallSum : List (Monomial × ℤ) → Type 0
IsSmallSum ts = (m : Monomial) → size_of m ts < 2 ^ 127

module _ (S : Space) (small : IsSmall S) (ind dep : List ℕ) (p : S.p ≡ length ind) (q : S.q ≡ length dep) (few : length ind ≤ 4) (distinct : AreDistinct [] ind) (others : AreDistinct [] dep) (all : AreDistinct [] (ind ++ dep)) where
  nothing_behind : EndsPower []
  nothing_behind = record { digit = tt; letter = tt; no_line = tt; no_hat = tt }

  equals_behind : (rest : List ℕ) → EndsPower (32 ∷ 61 ∷ 32 ∷ rest)
  equals_behind rest = record { digit = refl; letter = refl; no_line = refl; no_hat = refl }

  equals_sign : (rest : List ℕ) → IsSign 61 (32 ∷ 61 ∷ rest) rest
  equals_sign rest = record { blanks = 32 ∷ []; are = (refl, tt); spelled = refl }

  sum_alone : (turned : Bool) (P : WholePolynomial) → Every (IsLowTerm S) P.list → IsSum S (ind ++ dep) turned (32 ∷ polynomial_text S (ind ++ dep) P) (read_terms turned P.list) []
  sum_alone turned P low =
      blank_sum S (ind ++ dep) turned (polynomial_text S (ind ++ dep) P) (read_terms turned P.list) []
      (subst (λ l. IsSum S (ind ++ dep) turned l (read_terms turned P.list) []) (append-nil (polynomial_text S (ind ++ dep) P)) (sum_is S small ind dep p q few distinct others all turned P.list [] low nothing_behind))

  -- a lead and what it equals
  pub solved_is : (c : Coordinate) (diff : WholePolynomial) → IsGood S c → 1 ≤ order_of c → Every (IsLowTerm S) (right_side S c diff).list
      → IsSmallSum ((single (number S c), pos 1) ∷ read_terms true (right_side S c diff).list) → IsEquation S (ind ++ dep) (32 ∷ sides_text S (ind ++ dep) (Some c) diff) (record { lead = Some c; diff = diff })
  solved_is c diff good derivative low sizes =
      let right : List ℕ = polynomial_text S (ind ++ dep) (right_side S c diff) in
      let text : List ℕ = coordinate_text S (ind ++ dep) c ++ 32 ∷ 61 ∷ 32 ∷ right in
      let rest : List ℕ = 32 ∷ 61 ∷ 32 ∷ right in
      let alone : IsCoordinateAt S (ind ++ dep) text c rest = coordinate_is S ind dep p q few distinct others all c rest good refl refl in
      subst (λ l. IsEquation S (ind ++ dep) (32 ∷ l) (record { lead = Some c; diff = diff })) (sym (append_assoc (coordinate_text S (ind ++ dep) c) (codes " = ") right)) (record {
        left = (single (number S c), pos 1) ∷ [];
        behind_left = rest;
        front = 32 ∷ right;
        right = read_terms true (right_side S c diff).list;
        behind = [];
        left_is = blank_sum S (ind ++ dep) false text ((single (number S c), pos 1) ∷ []) rest (alone_is_sum S (ind ++ dep) text c rest alone refl);
        equals = equals_sign (32 ∷ right);
        right_is = sum_alone true (right_side S c diff) low;
        ends = tt;
        small = sizes;
        means = solved_means S c diff;
        lead = record {
          behind = rest;
          right = 32 ∷ right;
          alone = record { word = alone.word; front = blank_front text (alone.word ++ rest) alone.front; ended = alone.ended; name = alone.name };
          derivative = derivative;
          equals = equals_sign (32 ∷ right);
        };
      })

  -- the left side of a polynomial that is 0
  pub unsolved_left : (diff : WholePolynomial) → Every (IsLowTerm S) diff.list → IsSum S (ind ++ dep) false (32 ∷ sides_text S (ind ++ dep) None diff) (read_terms false diff.list) (32 ∷ 61 ∷ 32 ∷ 48 ∷ [])
  unsolved_left diff low =
      let rest : List ℕ = 32 ∷ 61 ∷ 32 ∷ 48 ∷ [] in
      blank_sum S (ind ++ dep) false (polynomial_text S (ind ++ dep) diff ++ rest) (read_terms false diff.list) rest
      (sum_is S small ind dep p q few distinct others all false diff.list rest low (equals_behind (48 ∷ [])))

  -- a polynomial that is 0
  pub unsolved_is : (lead : Option Coordinate) (diff : WholePolynomial) → Every (IsLowTerm S) diff.list → IsSmallSum (read_terms false diff.list ++ (unit, pos 0) ∷ [])
      → HasLead S (ind ++ dep) (32 ∷ sides_text S (ind ++ dep) None diff) lead → IsEquation S (ind ++ dep) (32 ∷ sides_text S (ind ++ dep) None diff) (record { lead = lead; diff = diff })
  unsolved_is lead diff low sizes has =
      record {
        left = read_terms false diff.list;
        behind_left = 32 ∷ 61 ∷ 32 ∷ 48 ∷ [];
        front = 32 ∷ 48 ∷ [];
        right = (unit, pos 0) ∷ [];
        behind = [];
        left_is = unsolved_left diff low;
        equals = equals_sign (32 ∷ 48 ∷ []);
        right_is = blank_sum S (ind ++ dep) true (48 ∷ []) ((unit, pos 0) ∷ []) [] (sum_is S small ind dep p q few distinct others all true [] [] tt nothing_behind);
        ends = tt;
        small = sizes;
        means = unsolved_means diff;
        lead = has;
      }
