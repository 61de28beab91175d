-- The text of a power is the power, and that of a term without its sign is the term.
use Rattle.std.specs.Prelude.{ℕ, ◌^◌, ◌==◌, ◌≡◌, ◌≤◌, ◌<◌, Bool, true, false, cond, ltb, List, [], ◌∷◌, ◌++◌, length, map, decimal, ℤ, unsigned_abs, None, if◌then◌else◌, refl}
use Rattle.std.specs.List.{flat_map, AllByRecursion as Every}
use Rattle.std.proofs.Common.{sym, ap, subst, ◌∙◌, arith, append_assoc, inl, inr}
use Rattle.std.proofs.lemmas.Bool.Decides.{nat_tests}
use Rattle.std.proofs.lemmas.List.{append-nil}
use Rattle.lie_math.proofs.Monomial.{·_idr}
use Rattle.lie_math.specs.FiniteSum as finite
use Rattle.lie_math.specs.FiniteSumLaws.{plus_idl, plus_assoc, of_list}
use Rattle.lie_math.specs.Monomial.{Monomial, powers, unit, power_of, monomial_of, ◌·◌}
use Rattle.lie_math.proofs.CanonicalLists.{of-cons}
use Rattle.lie_geometry.specs.Coordinates.{Space, coordinate, coordinates_up_to}
use Rattle.lie_geometry.proofs.Numbers as numbers
use Rattle.lie_geometry.proofs.NumberOrder.{order_below}
use Rattle.lie_jet.specs.Jets.{IsSmall}
use Rattle.lie_scan.specs.declared.runs.Class.TheVariants.{Letter, Digit}
use Rattle.lie_system.specs.Exponents.{HasSmallExponents}
use Rattle.lie_scan.specs.Meaning.{product}
use Rattle.lie_print.specs.Printing.{coordinate_text, variable_text, power_text, number_factor, term_text, behind as joined}
use Rattle.lie_scan.specs.Runs.{after_blanks}
use Rattle.lie_scan.specs.TokenGrammar.{BeginsOutside, IsNot, IsSign, IsCoordinateAt, IsExponentAt, IsPower}
use Rattle.lie_scan.specs.SumGrammar.{AreFactors, IsTerm}
use Rattle.lie_scan.proofs.Blanks.{no_blanks}
use Rattle.lie_scan.proofs.FileCoordinates.{IsGood}
use Rattle.lie_file.proofs.DistinctNames.{AreDistinct}
use Rattle.lie_canonical.proofs.PrintedCoordinates.{decimal_number, coordinate_is}

-- ---- products
product_none : (m : Monomial) → m · monomial_of [] ≡ m
unfolding finite.none
product_none m = ·_idr m

product_list : (m : Monomial) (ps : List (ℕ × ℕ)) → product m ps ≡ m · monomial_of ps
unfolding finite.term
product_list m [] = sym (product_none m)
product_list m (p ∷ ps) =
    product_list (m · power_of p.0 p.1) ps ∙ plus_assoc powers m (power_of p.0 p.1) (monomial_of ps) ∙ ap (λ n. m · n) (sym (of-cons powers p ps))

-- a monomial is the product of its powers
pub product_of_powers : (m : Monomial) → product unit m.list ≡ m
product_of_powers m = product_list unit m.list ∙ plus_idl powers (monomial_of m.list) ∙ of_list powers m

-- ---- what comes behind a power
pub record EndsPower (rest : List ℕ) : Type 0 where
  pub digit : BeginsOutside Digit rest
  pub letter : BeginsOutside Letter rest
  pub no_line : IsNot 95 rest
  pub no_hat : IsNot 94 (after_blanks rest)

-- ---- powers and terms
pub record IsLowPower (S : Space) (p : ℕ × ℕ) : Type 0 where
  pub variable : p.0 < coordinates_up_to S 6
  pub some : 1 ≤ p.1
  pub low : p.1 ≤ 32

-- powers, each behind a star
abbrev pub starred : Space → List ℕ → List (ℕ × ℕ) → List ℕ
starred S names ps = flat_map (λ g. 42 ∷ g) (map (power_text S names) ps)

pub starred_ends : (S : Space) (names : List ℕ) (ps : List (ℕ × ℕ)) (rest : List ℕ) → EndsPower rest → EndsPower (starred S names ps ++ rest)
starred_ends S names [] rest h = h
starred_ends S names (p ∷ ps) rest h = record { digit = refl; letter = refl; no_line = refl; no_hat = refl }

module _ (S : Space) (small : IsSmall S) (ind dep : List ℕ) (p : S.p ≡ length ind) (q : S.q ≡ length dep) (few : length ind ≤ 4) (distinct : AreDistinct [] ind) (others : AreDistinct [] dep) (all : AreDistinct [] (ind ++ dep)) where
  variable_good : (w : ℕ) → w < coordinates_up_to S 6 → IsGood S (coordinate S w)
  variable_good w low = record { coordinate = (numbers.coordinate_is S small.some_p small.some_q w).0; low = (order_below S small.some_p small.some_q w 6).1 low }

  variable_is_text : (w : ℕ) → w < coordinates_up_to S 6 → variable_text S (ind ++ dep) w ≡ coordinate_text S (ind ++ dep) (coordinate S w)
  unfolding variable_text
  variable_is_text w low =
      let o = (order_below S small.some_p small.some_q w 6).1 low in
      let h : w < coordinates_up_to S 12 = (order_below S small.some_p small.some_q w 12).0 (omega arith) in
      let test : ltb w (coordinates_up_to S 12) ≡ true = grind (arith, nat_tests, h) in
      ap (λ b. cond b (coordinate_text S (ind ++ dep) (coordinate S w)) []) test

  pub variable_at_text : (w : ℕ) (rest : List ℕ) → w < coordinates_up_to S 6 → BeginsOutside Letter rest → IsNot 95 rest → IsCoordinateAt S (ind ++ dep) (variable_text S (ind ++ dep) w ++ rest) (coordinate S w) rest
  variable_at_text w rest low ended no_line =
      subst (λ t. IsCoordinateAt S (ind ++ dep) (t ++ rest) (coordinate S w) rest) (sym (variable_is_text w low))
      (coordinate_is S ind dep p q few distinct others all (coordinate S w) rest (variable_good w low) ended no_line)

  power_with : (t : ℕ × ℕ) (behind rest : List ℕ) → IsLowPower S t → BeginsOutside Letter behind → IsNot 95 behind → IsExponentAt behind t.1 rest → IsPower S (ind ++ dep) (variable_text S (ind ++ dep) t.0 ++ behind) t rest
  power_with t behind rest h ended no_line exponent = record {
    coordinate = coordinate S t.0;
    behind = behind;
    base = variable_at_text t.0 behind h.variable ended no_line;
    exponent = exponent;
    means = sym (numbers.coordinate_is S small.some_p small.some_q t.0).1;
  }

  pub power_is : (t : ℕ × ℕ) (rest : List ℕ) → IsLowPower S t → EndsPower rest → IsPower S (ind ++ dep) (power_text S (ind ++ dep) t ++ rest) t rest
  power_is t rest h ends = go (t.1 == 1) refl
    where
      go : (b : Bool) → (t.1 == 1) ≡ b → IsPower S (ind ++ dep) ((variable_text S (ind ++ dep) t.0 ++ (if b then [] else 94 ∷ decimal t.1)) ++ rest) t rest
      go true e =
          let one : t.1 ≡ 1 = grind (arith, nat_tests, e) in
          subst (λ l. IsPower S (ind ++ dep) l t rest) (sym (append_assoc (variable_text S (ind ++ dep) t.0) [] rest)) (power_with t rest rest h ends.letter ends.no_line (inl (one, refl, ends.no_hat)))
      go false e =
          let low = h.low in
          subst (λ l. IsPower S (ind ++ dep) l t rest) (sym (append_assoc (variable_text S (ind ++ dep) t.0) (94 ∷ decimal t.1) rest))
          (power_with t (94 ∷ (decimal t.1 ++ rest)) rest h refl refl (inr (decimal t.1 ++ rest, no_blanks (94 ∷ (decimal t.1 ++ rest)), decimal_number t.1 rest (omega arith) ends.digit, h.some, h.low)))

  pub factors_are : (ps : List (ℕ × ℕ)) (rest : List ℕ) → Every (IsLowPower S) ps → EndsPower rest → AreFactors S (ind ++ dep) (starred S (ind ++ dep) ps ++ rest) ps rest
  factors_are [] rest h ends = refl
  factors_are (t ∷ ts) rest h ends =
      let more : List ℕ = starred S (ind ++ dep) ts in (
        power_text S (ind ++ dep) t ++ (more ++ rest),
        more ++ rest,
        subst (λ l. IsSign 42 l (power_text S (ind ++ dep) t ++ (more ++ rest))) (sym (append_assoc (42 ∷ power_text S (ind ++ dep) t) more rest)) (no_blanks (42 ∷ (power_text S (ind ++ dep) t ++ (more ++ rest)))),
        power_is t (more ++ rest) h.0 (starred_ends S (ind ++ dep) ts rest ends),
        factors_are ts rest h.1 ends,
      )

  -- a term without its sign, by the powers of its monomial
  term_of : (n : ℕ) (m : Monomial) (ts : List (ℕ × ℕ)) (rest : List ℕ) → m ≡ product unit ts → Every (IsLowPower S) ts → HasSmallExponents m → n < 2 ^ 127 → EndsPower rest
      → IsTerm S (ind ++ dep) (joined false (number_factor n (map (power_text S (ind ++ dep)) ts ++ []) ++ (map (power_text S (ind ++ dep)) ts ++ [])) ++ rest) n m rest
  term_of n m [] rest means low exponents small ends =
      subst (λ l. IsTerm S (ind ++ dep) (l ++ rest) n m rest) (sym (append-nil (decimal n)))
      (record { first = []; behind = rest; further = []; begins = inl (decimal_number n rest (omega arith) ends.digit, small, refl); goes_on = refl; means = means; small = exponents })
  term_of n m (t ∷ ts) rest means low exponents small ends = go (n == 1) refl
    where
      go : (b : Bool) → (n == 1) ≡ b → IsTerm S (ind ++ dep) (joined false ((if b then [] else decimal n ∷ []) ++ (power_text S (ind ++ dep) t ∷ (map (power_text S (ind ++ dep)) ts ++ []))) ++ rest) n m rest
      go true e =
          let one : n ≡ 1 = grind (arith, nat_tests, e) in
          subst (λ (l : List (List ℕ)). IsTerm S (ind ++ dep) ((power_text S (ind ++ dep) t ++ flat_map (λ g. 42 ∷ g) l) ++ rest) n m rest) (sym (append-nil (map (power_text S (ind ++ dep)) ts)))
          (subst (λ l. IsTerm S (ind ++ dep) l n m rest) (sym (append_assoc (power_text S (ind ++ dep) t) (starred S (ind ++ dep) ts) rest)) (record {
            first = t ∷ [];
            behind = starred S (ind ++ dep) ts ++ rest;
            further = ts;
            begins = inr (one, (t, refl, power_is t (starred S (ind ++ dep) ts ++ rest) low.0 (starred_ends S (ind ++ dep) ts rest ends)));
            goes_on = factors_are ts rest low.1 ends;
            means = means;
            small = exponents;
          }))
      go false e =
          subst (λ (l : List (List ℕ)). IsTerm S (ind ++ dep) ((decimal n ++ flat_map (λ g. 42 ∷ g) (power_text S (ind ++ dep) t ∷ l)) ++ rest) n m rest) (sym (append-nil (map (power_text S (ind ++ dep)) ts)))
          (subst (λ l. IsTerm S (ind ++ dep) l n m rest) (sym (append_assoc (decimal n) (starred S (ind ++ dep) (t ∷ ts)) rest)) (record {
            first = [];
            behind = starred S (ind ++ dep) (t ∷ ts) ++ rest;
            further = t ∷ ts;
            begins = inl (decimal_number n (starred S (ind ++ dep) (t ∷ ts) ++ rest) (omega arith) refl, small, refl);
            goes_on = factors_are (t ∷ ts) rest low ends;
            means = means;
            small = exponents;
          }))

  pub term_is : (z : ℤ) (m : Monomial) (rest : List ℕ) → Every (IsLowPower S) m.list → HasSmallExponents m → unsigned_abs z < 2 ^ 127 → EndsPower rest → IsTerm S (ind ++ dep) (term_text S (ind ++ dep) (z, m, None) ++ rest) (unsigned_abs z) m rest
  term_is z m rest low exponents small ends = term_of (unsigned_abs z) m m.list rest (sym (product_of_powers m)) low exponents small ends
