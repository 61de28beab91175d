-- Field texts: each text has a field or a first fault, and one at most, by which the reader answers.
use Rattle.std.specs.Prelude.{ℕ, ◌+◌, ◌≡◌, ◌≤◌, ◌<◌, nat_lt, Bool, true, false, cond, List, [], ◌∷◌, length, if◌then◌else◌, Option, Some, None, Ok, Err, refl}
use Rattle.std.specs.declared.result.Result.{Result}
use Rattle.std.specs.List.{AllByRecursion as Every}
use Rattle.std.specs.Ordering.{eq_by_cmp, nat_cmp}
use Rattle.std.proofs.Common.{sym, ap, ◌∙◌, subst, inl, inr, arith}
use Rattle.std.proofs.lemmas.Bool.Decides.{nat_tests}
use Rattle.lie_math.specs.Monomial.{Monomial, exponent, power_of, unit, powers, ◌·◌}
use Rattle.lie_math.specs.FiniteSumLaws.{value-none}
use Rattle.lie_math.proofs.FiniteSum.{key}
use Rattle.lie_math.proofs.Monomial.{exponent-·, exponent-power_of}
use Rattle.lie_math.specs.VectorField.{VectorField}
use Rattle.lie_geometry.specs.Coordinates.{Space}
use Rattle.lie_scan.specs.declared.fault.BadKind.TheVariants.{TooLong}
use Rattle.lie_scan.specs.declared.fault.ReadFail.{ReadFail}
use Rattle.lie_scan.specs.declared.fault.ReadFail.TheVariants as reads
use Rattle.lie_scan.specs.declared.stop.Stop.{Stop}
use Rattle.lie_fieldtext.specs.declared.field_term.FieldTerm.{FieldTerm}
use Rattle.lie_scan.specs.Bad.{bad}
use Rattle.lie_scan.specs.Names.{place_of}
use Rattle.lie_scan.specs.Meaning.{product}
use Rattle.lie_scan.specs.ReadFails.{ReadFails, Answers}
use Rattle.lie_fieldtext.specs.FieldMeaning.{HaveSmallSums, IsSumOfTerms}
use Rattle.lie_fieldtext.specs.FieldGrammar.{AreVariablePowers, IsFieldTerm, AreFieldTerms, HasFieldTerms, is_in_line, IsFieldText}
use Rattle.lie_fieldtext.specs.FieldFaults.{not_in_line_from, IsFieldFault, too_long, not_allowed, in_sum, IsFieldFaultToldOf}
use Rattle.lie_fieldtext.specs.FieldReading.{terms_of, placed, read_by, read_terms}
use Rattle.lie_fieldtext.specs.FieldAnswers.{HasDenominator, IsTermIn}
use Rattle.lie_fieldtext.proofs.FieldSizes.{common_some}
use Rattle.lie_fieldtext.proofs.FieldParts.{one_sum}
use Rattle.lie_fieldtext.proofs.FieldTold.{Told}
use Rattle.lie_fieldtext.proofs.FieldSums.{AreTextTerms, IsTextFault, text_told}
use Rattle.lie_fieldtext.proofs.FieldSumsBack.{text_some, text_is, text_fails}
use Rattle.lie_scan.proofs.FileCoordinates.{place_bound}

-- ---- bytes
abbrev AreInLine : List ℕ → Type 0
AreInLine bytes = Every (λ b. is_in_line b ≡ true) bytes

allowed-is : (column : ℕ) (bytes : List ℕ) → not_in_line_from column bytes ≡ None → AreInLine bytes
allowed-is column [] h = tt
allowed-is column (b ∷ bs) h = go (is_in_line b) refl h (allowed-is (column + 1) bs)
  where
    go : (t : Bool) → is_in_line b ≡ t → (if t then not_in_line_from (column + 1) bs else Some column) ≡ None → (not_in_line_from (column + 1) bs ≡ None → AreInLine bs) → (is_in_line b ≡ true) × AreInLine bs
    go true e k again = (e, again k)
    go false e k again = cc

is-allowed : (column : ℕ) (bytes : List ℕ) → AreInLine bytes → not_in_line_from column bytes ≡ None
is-allowed column [] h = refl
is-allowed column (b ∷ bs) h = rw (h.0) (is-allowed (column + 1) bs h.1)

-- ---- the terms of a text
pub record AreTermsOf (names bytes : List ℕ) (ts : List FieldTerm) : Type 0 where
  pub short : length bytes ≤ 65536
  pub allowed : Every (λ b. is_in_line b ≡ true) bytes
  pub has : HasFieldTerms names bytes ts
  pub within : HaveSmallSums ts

-- what is read is the text's terms, and what is told is its first fault
abbrev pub ReadTold : List ℕ → List ℕ → Result (List FieldTerm) ReadFail → Type 0
ReadTold names bytes (Ok ts) = AreTermsOf names bytes ts
ReadTold names bytes (Err f) = IsFieldFault names bytes f

placed_told : (names bytes : List ℕ) → length bytes ≤ 65536 → AreInLine bytes → (r : Result (List FieldTerm) Stop) → Told (AreTextTerms names bytes) (IsTextFault names bytes) r → ReadTold names bytes (placed bytes r)
placed_told names bytes short allowed (Ok ts) h = record { short = short; allowed = allowed; has = h.0; within = h.1 }
placed_told names bytes short allowed (Err s) h = in_sum s short allowed h.0 h.1

pub read_told : (names bytes : List ℕ) → ReadTold names bytes (read_terms names bytes)
unfolding read_terms
read_told names bytes = go (nat_lt 65536 (length bytes)) refl
  where
    by_column : length bytes ≤ 65536 → (o : Option ℕ) → not_in_line_from 1 bytes ≡ o → ReadTold names bytes (read_by o names bytes)
    by_column short (Some column) e = not_allowed column short e
    by_column short None e = placed_told names bytes short (allowed-is 1 bytes e) (terms_of names bytes) (text_told names bytes)

    long : (t : Bool) → nat_lt 65536 (length bytes) ≡ t → (length bytes ≤ 65536 → ReadTold names bytes (read_by (not_in_line_from 1 bytes) names bytes)) → ReadTold names bytes (if t then Err (bad 1 1 TooLong) else read_by (not_in_line_from 1 bytes) names bytes)
    long true e k = too_long (grind (arith, nat_tests, e))
    long false e k = k (grind (arith, nat_tests, e))

    go : (t : Bool) → nat_lt 65536 (length bytes) ≡ t → ReadTold names bytes (if nat_lt 65536 (length bytes) then Err (bad 1 1 TooLong) else read_by (not_in_line_from 1 bytes) names bytes)
    go t e = long (nat_lt 65536 (length bytes)) refl (λ short. by_column short (not_in_line_from 1 bytes) refl)

pub terms_read : (names bytes : List ℕ) (ts : List FieldTerm) → AreTermsOf names bytes ts → read_terms names bytes ≡ Ok ts
unfolding read_terms
terms_read names bytes ts h =
    let short = h.short in
    let low : nat_lt 65536 (length bytes) ≡ false = grind (arith, nat_tests, short) in
    rw (low, is-allowed 1 bytes h.allowed, text_is names bytes ts (h.has, h.within)) refl

pub fault_read : (names bytes : List ℕ) (f : ReadFail) → IsFieldFault names bytes f → read_terms names bytes ≡ Err f
unfolding read_terms
fault_read names bytes f (too_long long) = let high : nat_lt 65536 (length bytes) ≡ true = grind (arith, nat_tests, long) in rw high refl
fault_read names bytes f (not_allowed column short at) = let low : nat_lt 65536 (length bytes) ≡ false = grind (arith, nat_tests, short) in rw (low, at) refl
fault_read names bytes f (in_sum s short allowed apart fault) =
    let low : nat_lt 65536 (length bytes) ≡ false = grind (arith, nat_tests, short) in
    rw (low, is-allowed 1 bytes allowed, text_fails names bytes s (apart, fault)) refl

place_low : (names : List ℕ) (c i : ℕ) → place_of names c ≡ Some i → i < length names
place_low names c i h = let low = place_bound 0 names c i h in omega arith

product_free : (n v : ℕ) → n ≤ v → (m : Monomial) (ps : List (ℕ × ℕ)) → exponent m v ≡ 0 → Every (λ (p : ℕ × ℕ). p.0 < n) ps → exponent (product m ps) v ≡ 0
product_free n v le m [] none h = none
product_free n v le m (p ∷ ps) none h = product_free n v le (m · power_of p.0 p.1) ps (go (eq_by_cmp nat_cmp v p.0) refl) h.1
  where
    whole : exponent (m · power_of p.0 p.1) v ≡ exponent m v + cond (eq_by_cmp nat_cmp v p.0) p.1 0
    whole = exponent-· m (power_of p.0 p.1) v ∙ ap (λ k. exponent m v + k) (exponent-power_of p.0 p.1 v)

    go : (t : Bool) → eq_by_cmp nat_cmp v p.0 ≡ t → exponent (m · power_of p.0 p.1) v ≡ 0
    go true e = let same : v ≡ p.0 = key powers v p.0 e in let low = h.0 in absurd (omega arith)
    go false e = let w : exponent (m · power_of p.0 p.1) v ≡ exponent m v + cond false p.1 0 = whole ∙ ap (λ t. exponent m v + cond t p.1 0) e in omega arith

powers_low : (names text : List ℕ) (ps : List (ℕ × ℕ)) (rest : List ℕ) → AreVariablePowers names text ps rest → Every (λ (p : ℕ × ℕ). p.0 < length names) ps
powers_low names text [] rest h = tt
powers_low names text (p ∷ ps) rest h = (place_low names (h.2.1).letter p.0 (h.2.1).named, powers_low names h.1 ps rest h.4)

term_in : (names text : List ℕ) (negative : Bool) (t : FieldTerm) (rest : List ℕ) → IsFieldTerm names text negative t rest → IsTermIn (length names) t
term_in names text negative t rest h = record {
  place = place_low names h.base.letter t.place h.base.named;
  monomial = λ v le. ap (λ m. exponent m v) h.monomial ∙ product_free (length names) v le unit h.powers (value-none powers v) (powers_low names h.front.behind h.powers h.behind h.front.are);
}

terms_in : (names text : List ℕ) (ts : List FieldTerm) (rest : List ℕ) → AreFieldTerms names text ts rest → Every (IsTermIn (length names)) ts
terms_in names text [] rest h = tt
terms_in names text (t ∷ ts) rest h = (term_in names h.1 h.0 t h.2 h.4, terms_in names h.2 ts rest h.5)

text_in : (names text : List ℕ) (ts : List FieldTerm) → HasFieldTerms names text ts → Every (IsTermIn (length names)) ts
text_in names text ts h = elim h [
  | inl none ↦ subst (Every (IsTermIn (length names))) (sym none.1) tt
  | inr sum ↦ (let s = sum.1 in subst (Every (IsTermIn (length names))) (sym s.are) (term_in names s.front s.negative s.first s.behind s.begins, terms_in names s.behind s.further sum.0 s.goes_on))
]

-- ---- what the calls answer
-- the terms that a call read
pub terms_of_read : (names bytes : List ℕ) (ts : List FieldTerm) → read_terms names bytes ≡ Ok ts → AreTermsOf names bytes ts
terms_of_read names bytes ts e = subst (ReadTold names bytes) e (read_told names bytes)

pub read_in : (names bytes : List ℕ) (ts : List FieldTerm) (k : ℕ) → length names ≡ k → read_terms names bytes ≡ Ok ts → Every (IsTermIn k) ts
read_in names bytes ts k is e = subst (λ n. Every (IsTermIn n) ts) is (text_in names bytes ts (terms_of_read names bytes ts e).has)

pub same_terms : (names bytes : List ℕ) (ts us : List FieldTerm) → read_terms names bytes ≡ Ok ts → AreTermsOf names bytes us → ts ≡ us
same_terms names bytes ts us e h = same (sym e ∙ terms_read names bytes us h)
  where
    same : ◌≡◌ {A = Result (List FieldTerm) ReadFail} (Ok ts) (Ok us) → ts ≡ us
    same e = cc

terms_of_text : (S : Space) (names bytes : List ℕ) (V : VectorField) → (h : IsFieldText S names bytes V) → length bytes ≤ 65536 → AreTermsOf names bytes h.terms
terms_of_text S names bytes V h short = record { short = short; allowed = h.allowed; has = h.has; within = h.within }

pub found_field : (S : Space) (names bytes : List ℕ) (ts : List FieldTerm) (V : VectorField) → read_terms names bytes ≡ Ok ts → IsSumOfTerms S ts V → IsFieldText S names bytes V × (length bytes ≤ 65536)
found_field S names bytes ts V e sum =
    let h = terms_of_read names bytes ts e in
    (record { terms = ts; allowed = h.allowed; has = h.has; within = h.within; means = sum }, h.short)

pub only_field : (S : Space) (names bytes : List ℕ) (ts : List FieldTerm) (V W : VectorField) → read_terms names bytes ≡ Ok ts → IsSumOfTerms S ts V → IsFieldText S names bytes W → length bytes ≤ 65536 → W ≡ V
only_field S names bytes ts V W e sum h short =
    let same : ts ≡ h.terms = same_terms names bytes ts h.terms e (terms_of_text S names bytes W h short) in
    one_sum S ts W V (common_some 1 ts (omega arith) (subst (Every HasDenominator) (sym same) (text_some names bytes h.terms h.has))) (subst (λ us. IsSumOfTerms S us W) (sym same) h.means) sum

pub no_fault : {A : Type 0} (names bytes : List ℕ) (ts : List FieldTerm) (f : ReadFail) → read_terms names bytes ≡ Ok ts → IsFieldFault names bytes f → A
no_fault names bytes ts f e h = absurd (clash (sym e ∙ fault_read names bytes f h))
  where
    clash : ◌≡◌ {A = Result (List FieldTerm) ReadFail} (Ok ts) (Err f) → ⊥
    clash e = cc

module _ {X : Type 0} (view : X → VectorField) (S : Space) (names bytes : List ℕ) where
  pub fails_only : (e : ReadFail) → ReadFails e (read_terms names bytes) → (V : VectorField) → IsFieldText S names bytes V → length bytes ≤ 65536 → Answers {X = X} view (Err e) (Ok V)
  fails_only reads.NoMemory h V text short = tt
  fails_only (reads.Bad b) h V text short = absurd (clash (sym (terms_read names bytes text.terms (terms_of_text S names bytes V text short)) ∙ h))
    where
      clash : ◌≡◌ {A = Result (List FieldTerm) ReadFail} (Ok text.terms) (Err (reads.Bad b)) → ⊥
      clash e = cc

  pub fails_told : (e : ReadFail) → ReadFails e (read_terms names bytes) → IsFieldFaultToldOf {X = X} names bytes (Err e)
  fails_told reads.NoMemory h = tt
  fails_told (reads.Bad b) h = subst (ReadTold names bytes) h (read_told names bytes)

  pub fails_stops : (e : ReadFail) → ReadFails e (read_terms names bytes) → (f : ReadFail) → IsFieldFault names bytes f → Answers {X = X} view (Err e) (Err f)
  fails_stops reads.NoMemory h f fault = tt
  fails_stops (reads.Bad b) h f fault = ap (λ (g : ReadFail). Err g) (same (sym (fault_read names bytes f fault) ∙ h))
    where
      same : ◌≡◌ {A = Result (List FieldTerm) ReadFail} (Err f) (Err (reads.Bad b)) → f ≡ reads.Bad b
      same e = cc
