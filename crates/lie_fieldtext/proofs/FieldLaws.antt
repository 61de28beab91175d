-- A text is that of one field at most, and has one fault at most; it is that of a field, or it has a fault.
use Rattle.std.specs.Prelude.{ℕ, zero, suc, ◌+◌, ◌/◌, ◌≡◌, ◌≤◌, ◌<◌, ◌⊎◌, List, [], ◌∷◌, length, get_or, map, ℤ, pos, unsigned_abs, int_div, Ok, Err, refl}
use Rattle.std.specs.declared.result.Result.{Result}
use Rattle.std.specs.Int.{◌∣◌}
use Rattle.std.specs.List.{AllByRecursion as Every}
use Rattle.std.proofs.Common.{sym, ap, ap₂, ◌∙◌, subst, inl, inr, arith}
use Rattle.lie_math.specs.FiniteSumLaws.{of_list}
use Rattle.lie_math.specs.Monomial.{Monomial, unit}
use Rattle.lie_math.specs.Polynomial.{WholePolynomial, terms, polynomial_of, constant, 0ᴾ, ◌*ᴾ◌}
use Rattle.lie_math.specs.VectorField.{VectorField}
use Rattle.lie_math.proofs.Integer.{int_div_exact}
use Rattle.lie_math.proofs.TermWise.{polynomial_of-times}
use Rattle.lie_geometry.specs.Coordinates.{Space}
use Rattle.lie_jet.specs.ValidFields.{DividesTerms}
use Rattle.lie_scan.specs.declared.fault.ReadFail.{ReadFail}
use Rattle.lie_scan.specs.declared.stop.Stop.{Stop}
use Rattle.lie_fieldtext.specs.declared.field_term.FieldTerm.{FieldTerm}
use Rattle.lie_fieldtext.specs.FieldMeaning.{common_denominator, terms_over, IsSumOfTerms}
use Rattle.lie_fieldtext.specs.FieldGrammar.{IsFieldText}
use Rattle.lie_fieldtext.specs.FieldFaults.{IsFieldFault}
use Rattle.lie_fieldtext.specs.FieldReading.{read_terms}
use Rattle.lie_fieldtext.specs.FieldAnswers.{IsTermIn, ArePartsOver, contents_from, times_entries}
use Rattle.lie_fieldtext.proofs.FieldSteps.{divisor_some, times_entries_list}
use Rattle.lie_fieldtext.proofs.FieldSizes.{common_some}
use Rattle.lie_fieldtext.proofs.FieldParts.{contents_divides, contents_parts, made_is_sum, one_sum}
use Rattle.lie_fieldtext.proofs.FieldSumsBack.{text_some, text_is}
use Rattle.lie_fieldtext.proofs.FieldTexts.{ReadTold, read_told, fault_read, read_in, no_fault}

-- ---- one at most
pub one_field : (S : Space) (names bytes : List ℕ) (V W : VectorField) → IsFieldText S names bytes V → IsFieldText S names bytes W → V ≡ W
one_field S names bytes V W v w =
    let same : v.terms ≡ w.terms = same_ok v.terms w.terms (sym (text_is names bytes v.terms (v.has, v.within)) ∙ text_is names bytes w.terms (w.has, w.within)) in
    one_sum S v.terms V W (common_some 1 v.terms (omega arith) (text_some names bytes v.terms v.has)) v.means (subst (λ ts. IsSumOfTerms S ts W) (sym same) w.means)
  where
    same_ok : (ts us : List FieldTerm) → ◌≡◌ {A = Result (List FieldTerm) Stop} (Ok ts) (Ok us) → ts ≡ us
    same_ok ts us e = cc

pub one_field_fault : (names bytes : List ℕ) (f g : ReadFail) → IsFieldFault names bytes f → IsFieldFault names bytes g → f ≡ g
one_field_fault names bytes f g h k = same (sym (fault_read names bytes f h) ∙ fault_read names bytes g k)
  where
    same : ◌≡◌ {A = Result (List FieldTerm) ReadFail} (Err f) (Err g) → f ≡ g
    same e = cc

-- ---- one at least
abbrev divided_entries : ℕ → List (Monomial × ℤ) → List (Monomial × ℤ)
divided_entries g es = map (λ (e : Monomial × ℤ). (e.0, int_div e.1 (pos g))) es

divided_back : (g : ℕ) (es : List (Monomial × ℤ)) → Every (λ (e : Monomial × ℤ). g ∣ unsigned_abs e.1) es → times_entries g (divided_entries g es) ≡ es
divided_back g [] h = refl
divided_back g (e ∷ es) h = ap₂ (λ (z : ℤ) (l : List (Monomial × ℤ)). (e.0, z) ∷ l) (int_div_exact e.1 g h.0) (divided_back g es h.1)

abbrev divided_part : ℕ → WholePolynomial → WholePolynomial
divided_part g p = polynomial_of (divided_entries g p.list)

part_back : (g : ℕ) (p : WholePolynomial) → DividesTerms g p → constant (pos g) *ᴾ divided_part g p ≡ p
part_back g p h =
    sym (polynomial_of-times unit (pos g) (divided_entries g p.list)) ∙ ap polynomial_of (times_entries_list g (divided_entries g p.list) ∙ divided_back g p.list h) ∙ of_list terms p

parts_back : (g : ℕ) (ps : List WholePolynomial) → Every (DividesTerms g) ps → map (λ q. constant (pos g) *ᴾ q) (map (divided_part g) ps) ≡ ps
parts_back g [] h = refl
parts_back g (p ∷ ps) h = ap₂ (λ (q : WholePolynomial) (l : List WholePolynomial). q ∷ l) (part_back g p h.0) (parts_back g ps h.1)

-- the sums at the places from s on
abbrev parts_from : ℕ → List FieldTerm → ℕ → ℕ → List WholePolynomial
parts_from n ts s zero = []
parts_from n ts s (suc k) = polynomial_of (terms_over n s ts) ∷ parts_from n ts (suc s) k

parts_count : (n : ℕ) (ts : List FieldTerm) (s k : ℕ) → length (parts_from n ts s k) ≡ k
parts_count n ts s zero = refl
parts_count n ts s (suc k) = ap suc (parts_count n ts (suc s) k)

parts_each : (n : ℕ) (ts : List FieldTerm) (s k i : ℕ) → i < k → get_or (parts_from n ts s k) i 0ᴾ ≡ polynomial_of (terms_over n (s + i) ts)
parts_each n ts s zero i lt = absurd (omega arith)
parts_each n ts s (suc k) zero lt = ap (λ j. polynomial_of (terms_over n j ts)) (plus_zero s)
  where
    plus_zero : (m : ℕ) → m ≡ m + 0
    plus_zero m = omega arith
parts_each n ts s (suc k) (suc i) lt = parts_each n ts (suc s) k i (omega arith) ∙ ap (λ j. polynomial_of (terms_over n j ts)) (shifted s i)
  where
    shifted : (a b : ℕ) → suc a + b ≡ a + suc b
    shifted a b = omega arith

a_sum : (S : Space) (ts : List FieldTerm) → 1 ≤ common_denominator ts → Every (IsTermIn (S.p + S.q)) ts → (V : VectorField) × IsSumOfTerms S ts V
a_sum S ts some in_z =
    let n = common_denominator ts in
    let parts = parts_from n ts 0 (S.p + S.q) in
    let g = contents_from n parts in
    let V : VectorField = record { denominator = n / g; parts = map (divided_part g) parts } in
    let are : ArePartsOver n ts (S.p + S.q) parts = record { count = parts_count n ts 0 (S.p + S.q); each = λ s lt. parts_each n ts 0 (S.p + S.q) s lt ∙ ap (λ j. polynomial_of (terms_over n j ts)) (zero_plus s) } in (
      V,
      made_is_sum S ts n g parts (map (divided_part g) parts) V (record {
        some = some;
        common = refl;
        terms_in_z = in_z;
        are = are;
        divisor = refl;
        positive = divisor_some g n (contents_divides n parts) some;
        divided = parts_back g parts (contents_parts n parts);
        denominator = refl;
        components = refl;
      }),
    )
  where
    zero_plus : (m : ℕ) → 0 + m ≡ m
    zero_plus m = omega arith

pub field_or_fault : (S : Space) (names bytes : List ℕ) → length names ≡ S.p + S.q
    → ((V : VectorField) × IsFieldText S names bytes V × ((f : ReadFail) → IsFieldFault names bytes f → ⊥)) ⊎ ((f : ReadFail) × IsFieldFault names bytes f)
field_or_fault S names bytes named = go (read_terms names bytes) refl (read_told names bytes)
  where
    go : (r : Result (List FieldTerm) ReadFail) → read_terms names bytes ≡ r → ReadTold names bytes r
        → ((V : VectorField) × IsFieldText S names bytes V × ((f : ReadFail) → IsFieldFault names bytes f → ⊥)) ⊎ ((f : ReadFail) × IsFieldFault names bytes f)
    go (Ok ts) e h =
        let sum = a_sum S ts (common_some 1 ts (omega arith) (text_some names bytes ts h.has)) (read_in names bytes ts (S.p + S.q) named e) in
        inl (sum.0, record { terms = ts; allowed = h.allowed; has = h.has; within = h.within; means = sum.1 }, λ f fault. no_fault names bytes ts f e fault)
    go (Err f) e h = inr (f, h)
