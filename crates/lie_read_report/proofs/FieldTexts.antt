-- The texts of fields are read back.
use Rattle.std.specs.Prelude.{ℕ, zero, suc, ◌≡◌, ◌+◌, ◌<◌, ◌≤◌, ◌^◌, ◌==◌, ltb, Bool, true, false, ℤ, List, [], ◌∷◌, ◌++◌, length, map, decimal, codes, Some, if◌then◌else◌, refl}
use Rattle.std.specs.List.{slice_split, AllByRecursion as Every}
use Rattle.std.proofs.Common.{sym, ap, ap₂, ◌∙◌, subst, arith, append_assoc}
use Rattle.std.proofs.lemmas.Bool.Decides.{nat_tests}
use Rattle.std.proofs.lemmas.List.{append-nil, map-append}
use Rattle.lie_math.specs.Limits.{FitsNumber, HasLowExponents}
use Rattle.lie_math.specs.Monomial.{Monomial}
use Rattle.lie_math.specs.Polynomial.{WholePolynomial}
use Rattle.lie_math.specs.VectorField.{VectorField}
use Rattle.lie_math.proofs.EveryElement.{every-append}
use Rattle.lie_print.specs.Printing.{PrintedTerm, base_vector, sum_text}
use Rattle.lie_report.specs.Reports.{Named}
use Rattle.lie_report.specs.Terms.{field_terms}
use Rattle.lie_report.specs.BasisLines.{generator, generator_line}
use Rattle.lie_report.specs.SystemLines.{numbered_lines}
use Rattle.lie_readback.specs.Readings.{◌>>=◌, read_each}
use Rattle.lie_readback.specs.Sums.{sum_of_words, read_sum}
use Rattle.lie_readback.specs.WellFormed.{AreNamed, size}
use Rattle.lie_readback.proofs.Grouping.{within_entries}
use Rattle.lie_readback.proofs.Readable.{HasLowVariables, low_entries, readable_powers}
use Rattle.lie_readback.proofs.Separators.{AreFrom, from_append, from_lower, split_first}
use Rattle.lie_readback.proofs.SumTexts.{Written, written, IsReadable, vector_readable, sum_back, sum_from}
use Rattle.lie_read_report.specs.FieldTerms.{is_at, term_at, terms_at, parts_from, written_field}
use Rattle.lie_read_report.specs.ReportDrafts.{field_in, read_field}
use Rattle.lie_read_report.specs.WellFormed.{IsReportedPart, IsReportedField}
use Rattle.lie_read_report.proofs.CombinationTexts.{generator_from}

-- ---- the terms of fields
abbrev part_terms : ℕ → List (Monomial × ℤ) → List Written
part_terms i L = map (λ t. (t.1, t.0, base_vector i)) L

abbrev parts_terms : ℕ → List WholePolynomial → List Written
parts_terms i [] = []
parts_terms i (P ∷ Ps) = part_terms i P.list ++ parts_terms (i + 1) Ps

part_printed : (i : ℕ) (L : List (Monomial × ℤ)) → map (λ t. (t.1, t.0, Some (base_vector i))) L ≡ map written (part_terms i L)
part_printed i [] = refl
part_printed i (t ∷ L) = ap (λ (l : List PrintedTerm). (t.1, t.0, Some (base_vector i)) ∷ l) (part_printed i L)

parts_printed : (i : ℕ) (Ps : List WholePolynomial) → field_terms i Ps ≡ map written (parts_terms i Ps)
parts_printed i [] = refl
parts_printed i (P ∷ Ps) = ap₂ (λ (x y : List PrintedTerm). x ++ y) (part_printed i P.list) (parts_printed (i + 1) Ps) ∙ sym (map-append written (part_terms i P.list) (parts_terms (i + 1) Ps))

module _ (N : Named) (h : AreNamed N) where
  part_readable : (i : ℕ) → i < size N → (L : List (Monomial × ℤ)) → Every (λ (e : Monomial × ℤ). FitsNumber e.1 × HasLowExponents e.0) L → Every (λ (e : Monomial × ℤ). HasLowVariables (size N) e.0) L
      → Every (IsReadable (size N) N.names) (part_terms i L)
  part_readable i lt [] within low = tt
  part_readable i lt (e ∷ L) within low =
      let many = h.each in (
        record { number = within.0.0; powers = readable_powers (size N) e.0 low.0 within.0.1; last = vector_readable N.names h.letters i (omega arith) },
        part_readable i lt L within.1 low.1,
      )

  parts_readable : (i : ℕ) (Ps : List WholePolynomial) → i + length Ps ≤ size N → Every (IsReportedPart (size N)) Ps → Every (IsReadable (size N) N.names) (parts_terms i Ps)
  parts_readable i [] few k = tt
  parts_readable i (P ∷ Ps) few k =
      every-append (IsReadable (size N) N.names) (part_terms i P.list) (parts_terms (i + 1) Ps)
      (part_readable i (omega arith) P.list (within_entries P (k.0).within) (low_entries (size N) P (k.0).below)) (parts_readable (i + 1) Ps (omega arith) k.1)

  module _ (V : VectorField) (k : IsReportedField (size N) V) where
    abbrev field_text : List ℕ
    field_text = sum_text N.space N.names (written_field V)

    all_readable : Every (IsReadable (size N) N.names) (parts_terms 0 V.parts)
    all_readable = let e = k.size in parts_readable 0 V.parts (omega arith) k.parts

    words_back : sum_of_words N.names (slice_split (λ b. b == 32) field_text) ≡ Some (written_field V)
    unfolding read_sum
    words_back =
        subst (λ ts. read_sum N.names (sum_text N.space N.names ts) ≡ Some ts) (sym (parts_printed 0 V.parts))
        (sum_back N.space h.small N.names h.each h.letters (parts_terms 0 V.parts) all_readable)

    field_from : AreFrom 32 field_text
    field_from = subst (λ ts. AreFrom 32 (sum_text N.space N.names ts)) (sym (parts_printed 0 V.parts)) (sum_from N.space h.small N.names h.each h.letters (parts_terms 0 V.parts) all_readable)

    module _ (i : ℕ) (low : i < 2 ^ 127) where
      line_spelled : generator_line N i V ≡ generator i ++ (32 ∷ 61 ∷ 32 ∷ field_text)
      line_spelled = append_assoc (generator i) (codes " = ") field_text

      line_split : slice_split (λ b. b == 32) (generator_line N i V) ≡ generator i ∷ (61 ∷ []) ∷ slice_split (λ b. b == 32) field_text
      line_split =
          ap (slice_split (λ b. b == 32)) line_spelled
          ∙ split_first 32 48 (omega arith) (generator i) (61 ∷ 32 ∷ field_text) (generator_from i low)
          ∙ ap (λ (l : List (List ℕ)). generator i ∷ l) (split_first 32 42 (omega arith) (61 ∷ []) field_text ((omega arith), tt))

      line_back : read_field N.names (generator_line N i V) ≡ Some (written_field V)
      line_back = ap (field_in N.names) line_split ∙ words_back

      line_from : AreFrom 32 (generator_line N i V)
      line_from =
          subst (AreFrom 32) (sym line_spelled)
          (from_append 32 (generator i) (32 ∷ 61 ∷ 32 ∷ field_text) (from_lower 32 48 (omega arith) (generator i) (generator_from i low)) ((omega arith), ((omega arith), ((omega arith), field_from))))

  -- ---- the lines of fields
  pub fields_back : (done : List (List PrintedTerm)) (i : ℕ) (Vs : List VectorField) → i + length Vs < 2 ^ 127 → Every (IsReportedField (size N)) Vs
      → read_each (read_field N.names) done (numbered_lines (generator_line N) i Vs) ≡ Some (done ++ map written_field Vs)
  fields_back done i [] few k = ap Some (sym (append-nil done))
  fields_back done i (V ∷ Vs) few k =
      rw (line_back V k.0 i (omega arith))
      (fields_back (done ++ written_field V ∷ []) (i + 1) Vs (omega arith) k.1 ∙ ap Some (append_assoc done (written_field V ∷ []) (map written_field Vs)))

  pub fields_from : (i : ℕ) (Vs : List VectorField) → i + length Vs < 2 ^ 127 → Every (IsReportedField (size N)) Vs → Every (AreFrom 32) (numbered_lines (generator_line N) i Vs)
  fields_from i [] few k = tt
  fields_from i (V ∷ Vs) few k = (line_from V k.0 i (omega arith), fields_from (i + 1) Vs (omega arith) k.1)

-- ---- the parts of a field by its terms
at_same : (i : ℕ) (L : List (Monomial × ℤ)) → terms_at i (map (λ t. (t.1, t.0, Some (base_vector i))) L) ≡ L
at_same i [] = refl
at_same i (e ∷ L) = let s : (i == i) ≡ true = grind (arith, nat_tests) in rw s (ap (λ (l : List (Monomial × ℤ)). e ∷ l) (at_same i L))

at_other : (i j : ℕ) (L : List (Monomial × ℤ)) → (j == i) ≡ false → terms_at i (map (λ t. (t.1, t.0, Some (base_vector j))) L) ≡ []
at_other i j [] h = refl
at_other i j (e ∷ L) h = rw h (at_other i j L h)

pub at_joined : (i : ℕ) (ts us : List PrintedTerm) → terms_at i (ts ++ us) ≡ terms_at i ts ++ terms_at i us
at_joined i [] us = refl
at_joined i (t ∷ ts) us = ap (λ l. term_at i t ++ l) (at_joined i ts us) ∙ sym (append_assoc (term_at i t) (terms_at i ts) (terms_at i us))

at_behind : (i j : ℕ) (Ps : List WholePolynomial) → i < j → terms_at i (field_terms j Ps) ≡ []
at_behind i j [] lt = refl
at_behind i j (P ∷ Ps) lt =
    let other : (j == i) ≡ false = grind (arith, nat_tests, lt) in
    at_joined i (map (λ t. (t.1, t.0, Some (base_vector j))) P.list) (field_terms (j + 1) Ps) ∙ ap₂ (λ (x y : List (Monomial × ℤ)). x ++ y) (at_other i j P.list other) (at_behind i (j + 1) Ps (omega arith))

-- terms before the k-th part have none of the parts from the k-th on
abbrev AreBefore : ℕ → List PrintedTerm → Type 0
AreBefore k ts = (i : ℕ) → k ≤ i → terms_at i ts ≡ []

parts_behind : (k : ℕ) (ts : List PrintedTerm) (Ps : List WholePolynomial) → AreBefore k ts → parts_from (length Ps) k (ts ++ field_terms k Ps) ≡ map (λ P. P.list) Ps
parts_behind k ts [] before = refl
parts_behind k ts (P ∷ Ps) before =
    let M : List PrintedTerm = map (λ t. (t.1, t.0, Some (base_vector k))) P.list in
    let here : terms_at k (ts ++ (M ++ field_terms (k + 1) Ps)) ≡ P.list =
    at_joined k ts (M ++ field_terms (k + 1) Ps)
    ∙ ap₂ (λ (x y : List (Monomial × ℤ)). x ++ y) (before k (omega arith)) (at_joined k M (field_terms (k + 1) Ps) ∙ ap₂ (λ (x y : List (Monomial × ℤ)). x ++ y) (at_same k P.list) (at_behind k (k + 1) Ps (omega arith)) ∙ append-nil P.list) in
    let more : AreBefore (k + 1) (ts ++ M) =
    λ i le. (let lt : k < i = omega arith in let other : (k == i) ≡ false = grind (arith, nat_tests, lt) in at_joined i ts M ∙ ap₂ (λ (x y : List (Monomial × ℤ)). x ++ y) (before i (omega arith)) (at_other i k P.list other)) in
    ap₂ (λ (x : List (Monomial × ℤ)) (l : List (List (Monomial × ℤ))). x ∷ l) here
    (ap (parts_from (length Ps) (k + 1)) (sym (append_assoc ts M (field_terms (k + 1) Ps))) ∙ parts_behind (k + 1) (ts ++ M) Ps more)

-- a field is told by what is written of it
pub field_parts : (V : VectorField) → parts_from (length V.parts) 0 (written_field V) ≡ map (λ P. P.list) V.parts
field_parts V = parts_behind 0 [] V.parts (λ i le. refl)
