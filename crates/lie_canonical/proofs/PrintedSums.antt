-- The text of a sum is a sum of its terms.
use Rattle.std.specs.Prelude.{ℕ, ◌^◌, ◌==◌, ◌≡◌, ◌≤◌, ◌<◌, Bool, true, false, List, [], ◌∷◌, ◌++◌, length, map, ℤ, pos, negsuc, neg_ℤ, unsigned_abs, None, if◌then◌else◌, refl}
use Rattle.std.specs.Int.{is_negative}
use Rattle.std.specs.List.{flat_map, AllByRecursion as Every}
use Rattle.std.proofs.Common.{sym, ap, subst, arith, append_assoc, inl, inr}
use Rattle.std.proofs.lemmas.Bool.Decides.{nat_tests}
use Rattle.lie_math.specs.FiniteSumLaws.{value-none}
use Rattle.lie_math.specs.Monomial.{Monomial, powers, unit}
use Rattle.lie_geometry.specs.Coordinates.{Space}
use Rattle.lie_jet.specs.Jets.{IsSmall}
use Rattle.lie_ring.specs.Ratios.{signed}
use Rattle.lie_system.specs.Exponents.{HasSmallExponents}
use Rattle.lie_scan.specs.Meaning.{turned_sign}
use Rattle.lie_print.specs.Printing.{term_text, sign_text, signed_text, sum_text}
use Rattle.lie_canonical.specs.RightSides.{plain_terms}
use Rattle.lie_scan.specs.Runs.{is_in, after_blanks}
use Rattle.lie_scan.specs.TokenGrammar.{BeginsOutside, IsBehindBlanks, IsNot, IsNumber}
use Rattle.lie_scan.specs.SumGrammar.{IsFirstFactor, IsTerm, sign_of, IsSigned, AreTerms, IsFirstSign, IsSum}
use Rattle.lie_scan.specs.declared.runs.Class.TheVariants.{Digit}
use Rattle.lie_scan.proofs.Blanks.{no_blanks, digit_range}
use Rattle.lie_scan.proofs.CoordinateLaws.{coordinate_front}
use Rattle.lie_scan.proofs.NumberLaws.{digits_all}
use Rattle.lie_scan.proofs.TermLaws.{number_front}
use Rattle.lie_file.proofs.LeadSides.{letter_not}
use Rattle.lie_file.proofs.DistinctNames.{AreDistinct}
use Rattle.lie_canonical.proofs.PrintedPowers.{EndsPower, IsLowPower, term_is}

-- ---- a blank in front
pub blank_front : (text rest : List ℕ) → IsBehindBlanks text rest → IsBehindBlanks (32 ∷ text) rest
blank_front text rest h = record { blanks = 32 ∷ h.blanks; are = (refl, h.are); spelled = ap (λ l. 32 ∷ l) h.spelled }

blank_first : (S : Space) (names text : List ℕ) (n : ℕ) (ps : List (ℕ × ℕ)) (rest : List ℕ) → IsFirstFactor S names text n ps rest → IsFirstFactor S names (32 ∷ text) n ps rest
blank_first S names text n ps rest (inl h) =
    let k = h.0 in inl (record { digits = k.digits; front = blank_front text (k.digits ++ rest) k.front; ended = k.ended; numeral = k.numeral; value = k.value }, h.1, h.2)
blank_first S names text n ps rest (inr h) =
    let w = h.1.2 in
    let c = w.base in
    inr (
      h.0,
      (
        h.1.0,
        h.1.1,
        record {
          coordinate = w.coordinate;
          behind = w.behind;
          base = record { word = c.word; front = blank_front text (c.word ++ w.behind) c.front; ended = c.ended; name = c.name };
          exponent = w.exponent;
          means = w.means;
        },
      ),
    )

pub blank_term : (S : Space) (names text : List ℕ) (n : ℕ) (m : Monomial) (rest : List ℕ) → IsTerm S names text n m rest → IsTerm S names (32 ∷ text) n m rest
blank_term S names text n m rest h =
    record { first = h.first; behind = h.behind; further = h.further; begins = blank_first S names text n h.first h.behind h.begins; goes_on = h.goes_on; means = h.means; small = h.small }

-- ---- signs
abbrev pub turned_number : Bool → ℤ → ℤ
turned_number turned z = if turned then neg_ℤ z else z

plain_positive : (n : ℕ) → is_negative (pos n) ≡ false
plain_positive n = grind (arith, nat_tests)

signed_size : (turned : Bool) (z : ℤ) → turned_number turned z ≡ signed (turned_sign (is_negative z) turned) (unsigned_abs z)
signed_size true (pos n) = let e = plain_positive n in rw e refl
signed_size true (negsuc n) = refl
signed_size false (pos n) = let e = plain_positive n in rw e refl
signed_size false (negsuc n) = refl

-- a term begins with no sign
digit_not : (d c : ℕ) → d < 48 → is_in Digit c ≡ true → (c == d) ≡ false
digit_not d c low h = let r = digit_range c h in let l = r.0 in grind (arith, nat_tests)

first_not : (S : Space) (names text : List ℕ) (d n : ℕ) (ps : List (ℕ × ℕ)) (rest : List ℕ) → d < 48 → IsFirstFactor S names text n ps rest → IsNot d (after_blanks text)
first_not S names text d n ps rest low (inl h) = let f = number_front text n rest h.0 in subst (IsNot d) (sym f.3) (digit_not d f.0 low f.2)
first_not S names text d n ps rest low (inr h) = let w = h.1.2 in let f = coordinate_front S names text w.coordinate w.behind w.base in subst (IsNot d) (sym f.3) (letter_not d f.0 (omega arith) f.2)

zero_number : (rest : List ℕ) → BeginsOutside Digit rest → IsNumber (48 ∷ rest) 0 rest
zero_number rest ended = record { digits = 48 ∷ []; front = no_blanks (48 ∷ rest); ended = ended; numeral = ((omega arith), digits_all (48 ∷ []) (refl, tt)); value = refl }

-- ---- sums
pub record IsLowTerm (S : Space) (t : Monomial × ℤ) : Type 0 where
  pub powers : Every (IsLowPower S) (t.0).list
  pub exponents : HasSmallExponents t.0
  pub fits : unsigned_abs t.1 < 2 ^ 127

-- the terms of a sum as they are read, with the other sign where it is turned
abbrev pub turned_terms : Bool → List (Monomial × ℤ) → List (Monomial × ℤ)
turned_terms turned es = map (λ e. (e.0, turned_number turned e.1)) es

-- the empty sum is read as one term, 0
abbrev pub read_terms : Bool → List (Monomial × ℤ) → List (Monomial × ℤ)
read_terms turned [] = (unit, pos 0) ∷ []
read_terms turned (e ∷ es) = turned_terms turned (e ∷ es)

abbrev further_text : Space → List ℕ → List (Monomial × ℤ) → List ℕ
further_text S names es = flat_map (signed_text S names true) (plain_terms es)

further_ends : (S : Space) (names : List ℕ) (es : List (Monomial × ℤ)) (rest : List ℕ) → EndsPower rest → EndsPower (further_text S names es ++ rest)
further_ends S names [] rest h = h
further_ends S names (e ∷ es) rest h = go (is_negative e.1)
  where
    go : (b : Bool) → EndsPower (((sign_text true b ++ term_text S names (e.1, e.0, None)) ++ further_text S names es) ++ rest)
    go true = record { digit = refl; letter = refl; no_line = refl; no_hat = refl }
    go false = record { digit = refl; letter = refl; no_line = refl; no_hat = refl }

module _ (S : Space) (small : IsSmall S) (ind dep : List ℕ) (p : S.p ≡ length ind) (q : S.q ≡ length dep) (few : length ind ≤ 4) (distinct : AreDistinct [] ind) (others : AreDistinct [] dep) (all : AreDistinct [] (ind ++ dep)) where
  signed_is : (turned : Bool) (e : Monomial × ℤ) (rest : List ℕ) → IsLowTerm S e → EndsPower rest
      → IsSigned S (ind ++ dep) (turned_sign (is_negative e.1) turned) (term_text S (ind ++ dep) (e.1, e.0, None) ++ rest) (e.0, turned_number turned e.1) rest
  signed_is turned e rest low ends = (unsigned_abs e.1, term_is S small ind dep p q few distinct others all e.1 e.0 rest low.powers low.exponents low.fits ends, signed_size turned e.1)

  signed_behind : (turned : Bool) (e : Monomial × ℤ) (rest : List ℕ) → IsLowTerm S e → EndsPower rest
      → IsSigned S (ind ++ dep) (turned_sign (is_negative e.1) turned) (32 ∷ (term_text S (ind ++ dep) (e.1, e.0, None) ++ rest)) (e.0, turned_number turned e.1) rest
  signed_behind turned e rest low ends =
      let h = signed_is turned e rest low ends in (h.0, blank_term S (ind ++ dep) (term_text S (ind ++ dep) (e.1, e.0, None) ++ rest) h.0 e.0 rest h.1, h.2)

  further_are : (turned : Bool) (es : List (Monomial × ℤ)) (rest : List ℕ) → Every (IsLowTerm S) es → EndsPower rest → AreTerms S (ind ++ dep) turned (further_text S (ind ++ dep) es ++ rest) (turned_terms turned es) rest
  further_are turned [] rest low ends = refl
  further_are turned (e ∷ es) rest low ends =
      let more : List ℕ = further_text S (ind ++ dep) es ++ rest in
      let front : List ℕ = 32 ∷ (term_text S (ind ++ dep) (e.1, e.0, None) ++ more) in
      (is_negative e.1, front, more, spelled (is_negative e.1), signed_behind turned e more low.0 (further_ends S (ind ++ dep) es rest ends), further_are turned es rest low.1 ends)
    where
      spelled : (b : Bool) → IsBehindBlanks (((sign_text true b ++ term_text S (ind ++ dep) (e.1, e.0, None)) ++ further_text S (ind ++ dep) es) ++ rest) (sign_of b ∷ 32 ∷ (term_text S (ind ++ dep) (e.1, e.0, None) ++ (further_text S (ind ++ dep) es ++ rest)))
      spelled true = record { blanks = 32 ∷ []; are = (refl, tt); spelled = ap (λ l. 32 ∷ 45 ∷ 32 ∷ l) (append_assoc (term_text S (ind ++ dep) (e.1, e.0, None)) (further_text S (ind ++ dep) es) rest) }
      spelled false = record { blanks = 32 ∷ []; are = (refl, tt); spelled = ap (λ l. 32 ∷ 43 ∷ 32 ∷ l) (append_assoc (term_text S (ind ++ dep) (e.1, e.0, None)) (further_text S (ind ++ dep) es) rest) }

  zero_is : (turned : Bool) (rest : List ℕ) → EndsPower rest → IsSigned S (ind ++ dep) (turned_sign false turned) (48 ∷ rest) (unit, pos 0) rest
  zero_is turned rest ends =
      (0, record { first = []; behind = rest; further = []; begins = inl (zero_number rest ends.digit, (omega arith), refl); goes_on = refl; means = refl; small = none_small }, nothing turned)
    where
      none_small : HasSmallExponents unit
      none_small v = rw (value-none powers v) (omega arith)

      nothing : (turned : Bool) → pos 0 ≡ signed (turned_sign false turned) 0
      nothing true = refl
      nothing false = refl

  -- the text of a sum, as it is read
  pub sum_is : (turned : Bool) (es : List (Monomial × ℤ)) (rest : List ℕ) → Every (IsLowTerm S) es → EndsPower rest → IsSum S (ind ++ dep) turned (sum_text S (ind ++ dep) (plain_terms es) ++ rest) (read_terms turned es) rest
  unfolding signed_is
  sum_is turned [] rest low ends = record {
    negative = false;
    front = 48 ∷ rest;
    first = (unit, pos 0);
    behind = rest;
    further = [];
    sign = inr (refl, refl, refl, refl);
    begins = zero_is turned rest ends;
    goes_on = refl;
    are = refl;
  }
  sum_is turned (e ∷ es) rest low ends =
      let more : List ℕ = further_text S (ind ++ dep) es ++ rest in
      let begins = signed_is turned e more low.0 (further_ends S (ind ++ dep) es rest ends) in
      record {
        negative = is_negative e.1;
        front = term_text S (ind ++ dep) (e.1, e.0, None) ++ more;
        first = (e.0, turned_number turned e.1);
        behind = more;
        further = turned_terms turned es;
        sign = sign (is_negative e.1) begins.1;
        begins = begins;
        goes_on = further_are turned es rest low.1 ends;
        are = refl;
      }
    where
      sign : (b : Bool) → IsTerm S (ind ++ dep) (term_text S (ind ++ dep) (e.1, e.0, None) ++ (further_text S (ind ++ dep) es ++ rest)) (unsigned_abs e.1) e.0 (further_text S (ind ++ dep) es ++ rest)
          → IsFirstSign (((sign_text false b ++ term_text S (ind ++ dep) (e.1, e.0, None)) ++ further_text S (ind ++ dep) es) ++ rest) b (term_text S (ind ++ dep) (e.1, e.0, None) ++ (further_text S (ind ++ dep) es ++ rest))
      sign true h =
          inl (subst (λ l. IsBehindBlanks (45 ∷ l) (45 ∷ (term_text S (ind ++ dep) (e.1, e.0, None) ++ (further_text S (ind ++ dep) es ++ rest)))) (sym (append_assoc (term_text S (ind ++ dep) (e.1, e.0, None)) (further_text S (ind ++ dep) es) rest)) (no_blanks _))
      sign false h =
          let same = append_assoc (term_text S (ind ++ dep) (e.1, e.0, None)) (further_text S (ind ++ dep) es) rest in
          inr (refl, same, subst (λ l. IsNot 43 (after_blanks l)) (sym same) (first_not S (ind ++ dep) _ 43 _ h.first h.behind (omega arith) h.begins), subst (λ l. IsNot 45 (after_blanks l)) (sym same) (first_not S (ind ++ dep) _ 45 _ h.first h.behind (omega arith) h.begins))
