-- The texts of reports are read back.
use Rattle.std.specs.Prelude.{ℕ, zero, suc, ◌≡◌, ◌+◌, ◌-◌, ◌*◌, ◌<◌, ◌≤◌, ◌^◌, ◌==◌, ltb, nat_lt, Bool, true, false, List, [], ◌∷◌, ◌++◌, length, map, take, drop, decimal, codes, Option, Some, None, option_map, if◌then◌else◌, refl}
use Rattle.std.specs.List.{slice_split, AllByRecursion as Every}
use Rattle.std.proofs.Common.{sym, ap, ap₂, ◌∙◌, subst, arith, append_assoc, add-one}
use Rattle.std.proofs.lemmas.Bool.Decides.{nat_tests}
use Rattle.std.proofs.lemmas.List.{append-nil, length-append}
use Rattle.lie_math.specs.LinearSystem.{LinearSystem}
use Rattle.lie_math.specs.VectorField.{VectorField}
use Rattle.lie_math.proofs.EveryElement.{every-append}
use Rattle.lie_ring.specs.declared.ratio.Ratio.{Ratio}
use Rattle.lie_report.specs.Reports.{Named, Found, Report, determining, symmetries, degree}
use Rattle.lie_report.specs.Report.{report_text}
use Rattle.lie_report.specs.BasisLines.{generator_line, generators_line, commutator_line, commutator_lines_from, commutators_line, next_pair, basis_lines}
use Rattle.lie_report.specs.SystemLines.{head_lines, names_words, numbered_lines, system_lines}
use Rattle.lie_scan.specs.Tokens.{value_of}
use Rattle.lie_readback.specs.Readings.{◌>>=◌, read_each}
use Rattle.lie_readback.specs.Groups.{drafted}
use Rattle.lie_readback.specs.SystemDrafts.{Draft, read_named, read_lines}
use Rattle.lie_readback.specs.WellFormed.{AreNamed, size, IsWellFormed as IsWellFormedSystem}
use Rattle.lie_readback.proofs.NumberTexts.{decimal_value, decimal_some}
use Rattle.lie_readback.proofs.Separators.{AreFrom, from_append, from_lower, decimal_from, split_lines}
use Rattle.lie_readback.proofs.SystemTexts.{from_test, take_front, drop_front, length_numbered, head_from, named_back, system_from, lines_back}
use Rattle.lie_read_report.specs.Combinations.{read_entry}
use Rattle.lie_read_report.specs.ReportDrafts as written
use Rattle.lie_read_report.specs.ReportDrafts.{begins_with, after_first, last_place, read_field, read_found, is_dash, has_none, read_basis, read_symmetries, read_most, guarded, read_fields, read_degree, read_determining, read_kind, read_from, read_text}
use Rattle.lie_read_report.specs.WellFormed.{AreReportedFields, IsReportedEntry, IsReportedTable, IsReportedBasis, IsReportedFound, IsWellFormed, basis_written, report_written}
use Rattle.lie_read_report.specs.FieldTerms.{written_field}
use Rattle.lie_read_report.proofs.CombinationTexts.{entry_back, commutator_from}
use Rattle.lie_read_report.proofs.FieldTexts.{fields_back, fields_from}

-- ---- places
-- no line begins with the letter
abbrev NoneBegins : ℕ → List (List ℕ) → Type 0
NoneBegins letter ls = Every (λ l. begins_with letter l ≡ false) ls

none_there : (letter : ℕ) (ls : List (List ℕ)) → NoneBegins letter ls → last_place letter ls ≡ None
none_there letter [] h = refl
none_there letter (l ∷ ls) h = rw (none_there letter ls h.1, h.0) refl

place_back : (letter : ℕ) (front : List (List ℕ)) (l : List ℕ) (back : List (List ℕ)) → begins_with letter l ≡ true → NoneBegins letter back → last_place letter (front ++ l ∷ back) ≡ Some (length front)
place_back letter [] l back here h = rw (none_there letter back h, here) refl
place_back letter (f ∷ front) l back here h = rw (place_back letter front l back here h) (ap Some (add-one (length front)))

fields_begin : (letter : ℕ) → (118 == letter) ≡ false → (N : Named) (i : ℕ) (Vs : List VectorField) → NoneBegins letter (numbered_lines (generator_line N) i Vs)
fields_begin letter h N i [] = tt
fields_begin letter h N i (V ∷ Vs) = (h, fields_begin letter h N (i + 1) Vs)

commutators_begin : (letter : ℕ) → (91 == letter) ≡ false → (n : ℕ) (p : ℕ × ℕ) (table : List (List Ratio)) → NoneBegins letter (commutator_lines_from n p table)
commutators_begin letter h n p [] = tt
commutators_begin letter h n p (rs ∷ table) = (h, commutators_begin letter h n (next_pair n p) table)

-- ---- lists
drop_exact : {X : Type 0} (xs ys : List X) (n : ℕ) → n ≡ length xs → drop n (xs ++ ys) ≡ ys
drop_exact [] ys zero e = refl
drop_exact [] ys (suc n) e = absurd (omega arith)
drop_exact (x ∷ xs) ys zero e = absurd (omega arith)
drop_exact (x ∷ xs) ys (suc n) e = drop_exact xs ys n (omega arith)

-- a list up to the second behind its front
two_behind : {X : Type 0} (xs : List X) (y z : X) (rest : List X) → take (length xs + 2) (xs ++ y ∷ z ∷ rest) ≡ xs ++ y ∷ z ∷ []
two_behind xs y z rest =
    let l = length-append xs (y ∷ z ∷ []) in
    ap (take (length xs + 2)) (sym (append_assoc xs (y ∷ z ∷ []) rest)) ∙ take_front (xs ++ y ∷ z ∷ []) rest (length xs + 2) (omega arith)

-- ---- commutators
length_commutators : (n : ℕ) (p : ℕ × ℕ) (table : List (List Ratio)) → length (commutator_lines_from n p table) ≡ length table
length_commutators n p [] = refl
length_commutators n p (rs ∷ table) = ap suc (length_commutators n (next_pair n p) table)

-- numbers up to a bound for so many further pairs
abbrev IsRoom : ℕ → ℕ × ℕ → ℕ → Type 0
IsRoom most p k = (p.0 + 1 + k ≤ most) × (p.1 + k ≤ most)

next_room : (most n : ℕ) (p : ℕ × ℕ) (k : ℕ) → IsRoom most p (suc k) → IsRoom most (next_pair n p) k
next_room most n p k h = let a = h.0 in let b = h.1 in go (ltb p.1 n)
  where
    go : (t : Bool) → IsRoom most (if t then (p.0, p.1 + 1) else (p.0 + 1, p.0 + 2)) k
    go true = let a = h.0 in let b = h.1 in (omega arith, omega arith)
    go false = let a = h.0 in let b = h.1 in (omega arith, omega arith)

module _ (n most : ℕ) (few : 1 + n < 2 ^ 127) (low : most < 2 ^ 127) where
  pub entries_back : (done : List (List Ratio)) (p : ℕ × ℕ) (table : List (List Ratio)) → IsRoom most p (length table) → Every (IsReportedEntry n) table
      → read_each (read_entry n) done (commutator_lines_from n p table) ≡ Some (done ++ table)
  entries_back done p [] room h = ap Some (sym (append-nil done))
  entries_back done p (rs ∷ table) room h =
      let a = room.0 in
      let b = room.1 in
      let s = (h.0).size in
      let here : read_entry n (commutator_line p rs) ≡ Some rs = subst (λ k. read_entry k (commutator_line p rs) ≡ Some rs) s (entry_back p (omega arith) (omega arith) rs (omega arith) (h.0).each) in
      rw here (entries_back (done ++ rs ∷ []) (next_pair n p) table (next_room most n p (length table) room) h.1 ∙ ap Some (append_assoc done (rs ∷ []) table))

  pub entries_from : (p : ℕ × ℕ) (table : List (List Ratio)) → IsRoom most p (length table) → Every (IsReportedEntry n) table → Every (AreFrom 32) (commutator_lines_from n p table)
  entries_from p [] room h = tt
  entries_from p (rs ∷ table) room h =
      let a = room.0 in
      let b = room.1 in
      let s = (h.0).size in
      (commutator_from p (omega arith) (omega arith) rs (omega arith) (h.0).each, entries_from (next_pair n p) table (next_room most n p (length table) room) h.1)

-- ---- bases
counted_from : (word : List ℕ) (n : ℕ) → AreFrom 32 word → n < 2 ^ 127 → AreFrom 32 (word ++ decimal n)
counted_from word n h low = from_append 32 word (decimal n) h (from_lower 32 48 (omega arith) (decimal n) (decimal_from n (omega arith)))

no_dash : (ds : List ℕ) → AreFrom 48 ds → is_dash ds ≡ false
no_dash [] h = refl
no_dash (d ∷ ds) h = let high = h.0 in grind (arith, nat_tests, high)

module _ (N : Named) (h : AreNamed N) (B : Found) (k : IsReportedBasis (size N) B) where
  abbrev count : ℕ
  count = length B.fields

  abbrev field_lines : List (List ℕ)
  field_lines = numbered_lines (generator_line N) 1 B.fields

  abbrev entry_lines : List (List ℕ)
  entry_lines = commutator_lines_from count (1, 2) B.table

  few_fields : 1 + count < 2 ^ 127
  few_fields = let f = (k.fields).few in omega arith

  room : IsRoom (2 ^ 66) (1, 2) (length B.table)
  room = let f = (k.table).few in (omega arith, omega arith)

  -- the lines behind that of the number of generators, and two behind them
  abbrev found_lines : List ℕ → List ℕ → List (List ℕ)
  found_lines e n = field_lines ++ commutators_line (length B.table) ∷ (entry_lines ++ e ∷ n ∷ [])

  found_back : (e n : List ℕ) → read_found N.names count (found_lines e n) ≡ Some (basis_written B)
  unfolding read_found
  found_back e n =
      let a = length-append field_lines (commutators_line (length B.table) ∷ (entry_lines ++ e ∷ n ∷ [])) in
      let b = length-append entry_lines (e ∷ n ∷ []) in
      let c : length field_lines ≡ count = length_numbered (generator_line N) 1 B.fields in
      let long : count + 3 ≤ length (found_lines e n) = omega arith in
      let t : nat_lt (length (found_lines e n)) (count + 3) ≡ false = grind (arith, nat_tests, long) in
      let many : length (found_lines e n) - (count + 3) ≡ length entry_lines = omega arith in
      rw (
        t,
        take_front field_lines (commutators_line (length B.table) ∷ (entry_lines ++ e ∷ n ∷ [])) count (sym c),
        fields_back N h [] 1 B.fields few_fields (k.fields).each,
        drop_front field_lines (commutators_line (length B.table)) (entry_lines ++ e ∷ n ∷ []) count (sym c),
        take_front entry_lines (e ∷ n ∷ []) _ many,
        entries_back count (2 ^ 66) few_fields (omega arith) [] (1, 2) B.table room (k.table).each,
      ) refl

  is_some : has_none (generators_line count) ≡ false
  is_some = no_dash (decimal count) (let f = few_fields in decimal_from count (omega arith))

  found_place : (e n : List ℕ) → begins_with 99 e ≡ false → begins_with 99 n ≡ false → last_place 99 (found_lines e n) ≡ Some count
  found_place e n p q =
      place_back 99 field_lines (commutators_line (length B.table)) (entry_lines ++ e ∷ n ∷ []) refl
      (every-append (λ l. begins_with 99 l ≡ false) entry_lines (e ∷ n ∷ []) (commutators_begin 99 refl count (1, 2) B.table) (p, (q, tt)))
      ∙ ap Some (length_numbered (generator_line N) 1 B.fields)

  some_back : (e n : List ℕ) → begins_with 99 e ≡ false → begins_with 99 n ≡ false → read_basis N.names (generators_line count ∷ found_lines e n) ≡ Some (Some (basis_written B))
  unfolding read_basis
  some_back e n p q = rw (is_some, found_place e n p q, found_back e n) refl

  basis_from : Every (AreFrom 32) (basis_lines N (Some B))
  basis_from =
      let f = few_fields in
      let t = (k.table).few in
      every-append (AreFrom 32) (generators_line count ∷ field_lines) (commutators_line (length B.table) ∷ entry_lines)
      (counted_from (codes "generators ") count (from_test (codes "generators ") refl) (omega arith), fields_from N h 1 B.fields few_fields (k.fields).each)
      (counted_from (codes "commutators ") (length B.table) (from_test (codes "commutators ") refl) (omega arith), entries_from count (2 ^ 66) few_fields (omega arith) (1, 2) B.table room (k.table).each)

-- ---- reports of symmetries
module _ (N : Named) (T : LinearSystem) (w : IsWellFormedSystem (N, T)) where
  abbrev front_lines : List (List ℕ)
  front_lines = head_lines (codes "lie symmetries 1, polynomial components only") N ++ system_lines N T

  -- the lines of the system, and those of a basis behind them
  abbrev with_draft : List (List ℕ) → Draft → Option written.ReportDraft
  with_draft ls D = read_basis ((D.named).names) ls >>= λ B. Some (written.symmetries D B)

  with_basis : (g c : List ℕ) (rest : List (List ℕ)) (found : Option written.BasisDraft) → begins_with 103 g ≡ true → NoneBegins 103 (c ∷ rest) → read_basis N.names (g ∷ c ∷ rest) ≡ Some found
      → read_symmetries (front_lines ++ g ∷ c ∷ rest) ≡ Some (written.symmetries (drafted (N, T)) found)
  unfolding read_symmetries
  with_basis g c rest found here others is =
      let ls : List (List ℕ) = front_lines ++ g ∷ c ∷ rest in
      ap (λ o. o >>= λ k. read_lines (take (k + 2) ls) >>= λ D. with_draft (drop k ls) D) (place_back 103 front_lines g (c ∷ rest) here others)
      ∙ ap (λ (m : List (List ℕ)). read_lines m >>= λ D. with_draft (drop (length front_lines) ls) D) (two_behind front_lines g c rest)
      ∙ ap (λ o. o >>= λ D. with_draft (drop (length front_lines) ls) D) (lines_back N T w (codes "lie symmetries 1, polynomial components only") g c)
      ∙ ap (λ (m : List (List ℕ)). with_draft m (drafted (N, T))) (drop_exact front_lines (g ∷ c ∷ rest) (length front_lines) refl)
      ∙ ap (λ o. o >>= λ B. Some (written.symmetries (drafted (N, T)) B)) is

  with_some : (B : Found) (k : IsReportedBasis (size N) B) (ls : List (List ℕ)) → 1 ≤ length ls → NoneBegins 103 ls → read_basis N.names (generators_line (length B.fields) ∷ ls) ≡ Some (Some (basis_written B))
      → read_symmetries (front_lines ++ generators_line (length B.fields) ∷ ls) ≡ Some (written.symmetries (drafted (N, T)) (Some (basis_written B)))
  with_some B k [] some none is = absurd (omega arith)
  with_some B k (c ∷ rest) some none is = with_basis (generators_line (length B.fields)) c rest (Some (basis_written B)) refl none is

  none_back : (ls : List (List ℕ)) → read_basis N.names (codes "generators -" ∷ ls) ≡ Some None
  unfolding read_basis
  none_back ls = refl

  pub symmetries_back : (found : Option Found) → IsReportedFound (size N) found
      → read_symmetries (front_lines ++ (basis_lines N found ++ codes "end" ∷ [] ∷ [])) ≡ Some (report_written (symmetries N T found))
  symmetries_back None k = with_basis (codes "generators -") (codes "commutators -") (codes "end" ∷ [] ∷ []) None refl (refl, (refl, (refl, tt))) (none_back (codes "commutators -" ∷ codes "end" ∷ [] ∷ []))
  symmetries_back (Some B) k =
      let a = length-append (field_lines N w.0 B k) (commutators_line (length B.table) ∷ (entry_lines N w.0 B k ++ codes "end" ∷ [] ∷ [])) in
      ap (λ ls. read_symmetries (front_lines ++ generators_line (length B.fields) ∷ ls)) (append_assoc (field_lines N w.0 B k) (commutators_line (length B.table) ∷ entry_lines N w.0 B k) (codes "end" ∷ [] ∷ []))
      ∙ with_some B k (found_lines N w.0 B k (codes "end") []) (omega arith)
      (every-append (λ l. begins_with 103 l ≡ false) (field_lines N w.0 B k) (commutators_line (length B.table) ∷ (entry_lines N w.0 B k ++ codes "end" ∷ [] ∷ [])) (fields_begin 103 refl N 1 B.fields)
      (refl, every-append (λ l. begins_with 103 l ≡ false) (entry_lines N w.0 B k) (codes "end" ∷ [] ∷ []) (commutators_begin 103 refl (length B.fields) (1, 2) B.table) (refl, (refl, tt))))
      (some_back N w.0 B k (codes "end") [] refl refl)

  pub found_from : (found : Option Found) → IsReportedFound (size N) found → Every (AreFrom 32) (basis_lines N found)
  found_from None k = (from_test (codes "generators -") refl, (from_test (codes "commutators -") refl, tt))
  found_from (Some B) k = basis_from N w.0 B k

-- ---- reports of degrees
module _ (N : Named) (h : AreNamed N) (most : ℕ) (low : most < 2 ^ 8) (Vs : List VectorField) (k : AreReportedFields (size N) Vs) where
  most_back : read_most (codes "degree " ++ decimal most) ≡ Some most
  most_back = let t : nat_lt most (2 ^ 8) ≡ true = grind (arith, nat_tests, low) in ap (λ o. o >>= guarded) (decimal_value most (omega arith)) ∙ rw t refl

  few : 1 + length Vs < 2 ^ 127
  few = let f = k.few in omega arith

  degree_fields : (e n : List ℕ) → read_fields N.names (numbered_lines (generator_line N) 1 Vs ++ e ∷ n ∷ []) ≡ Some (map written_field Vs)
  degree_fields e n =
      let a = length-append (numbered_lines (generator_line N) 1 Vs) (e ∷ n ∷ []) in
      ap (read_each (read_field N.names) []) (take_front (numbered_lines (generator_line N) 1 Vs) (e ∷ n ∷ []) _ (omega arith)) ∙ fields_back N h [] 1 Vs few k.each

  pub degree_back : (first counted e n : List ℕ) → read_degree (head_lines first N ++ (codes "degree " ++ decimal most) ∷ counted ∷ (numbered_lines (generator_line N) 1 Vs ++ e ∷ n ∷ []))
      ≡ Some (report_written (degree N most Vs))
  unfolding read_degree
  degree_back first counted e n =
      let ls : List (List ℕ) = numbered_lines (generator_line N) 1 Vs ++ e ∷ n ∷ [] in
      ap (λ o. o >>= λ M. read_most (codes "degree " ++ decimal most) >>= λ m. read_fields M.names ls >>= λ Fs. Some (written.degree M m Fs)) (named_back N h)
      ∙ ap (λ o. o >>= λ m. read_fields N.names ls >>= λ Fs. Some (written.degree N m Fs)) most_back
      ∙ ap (λ o. o >>= λ Fs. Some (written.degree N most Fs)) (degree_fields e n)

  pub degree_from : Every (AreFrom 32) ((codes "degree " ++ decimal most) ∷ generators_line (length Vs) ∷ numbered_lines (generator_line N) 1 Vs)
  degree_from =
      let f = few in (
        counted_from (codes "degree ") most (from_test (codes "degree ") refl) (omega arith),
        (counted_from (codes "generators ") (length Vs) (from_test (codes "generators ") refl) (omega arith), fields_from N h 1 Vs few k.each),
      )

-- ---- texts
split_ended : (ls : List (List ℕ)) → Every (AreFrom 32) ls → (lines : List (List ℕ)) → lines ≡ ls ++ codes "end" ∷ [] → Every (AreFrom 32) lines
split_ended ls h lines is = subst (Every (AreFrom 32)) (sym is) (every-append (AreFrom 32) ls (codes "end" ∷ []) h (from_test (codes "end") refl, tt))

pub report_back : (R : Report) → IsWellFormed R → read_text (report_text R) ≡ Some (report_written R)
unfolding read_text report_text
report_back (determining N T) w =
    let ls = head_lines (codes "lie determining 1") N ++ system_lines N T in
    let from = every-append (AreFrom 32) (head_lines (codes "lie determining 1") N) (system_lines N T) (head_from N w.0 (codes "lie determining 1") (from_test (codes "lie determining 1") refl)) (system_from N T w) in
    ap read_determining (split_lines (ls ++ codes "end" ∷ []) (split_ended ls from (ls ++ codes "end" ∷ []) refl) ∙ append_assoc ls (codes "end" ∷ []) ([] ∷ []))
    ∙ ap (λ o. o >>= λ D. Some (written.determining D)) (lines_back N T w (codes "lie determining 1") (codes "end") [])
report_back (symmetries N T found) w =
    let first = codes "lie symmetries 1, polynomial components only" in
    let front = head_lines first N ++ system_lines N T in
    let ls = front ++ basis_lines N found in
    let from = every-append (AreFrom 32) front (basis_lines N found) (every-append (AreFrom 32) (head_lines first N) (system_lines N T) (head_from N (w.0).0 first (from_test first refl)) (system_from N T w.0)) (found_from N T w.0 found w.1) in
    ap read_symmetries (split_lines (ls ++ codes "end" ∷ []) (split_ended ls from (ls ++ codes "end" ∷ []) refl) ∙ append_assoc ls (codes "end" ∷ []) ([] ∷ [])
    ∙ append_assoc front (basis_lines N found) (codes "end" ∷ [] ∷ [])) ∙ symmetries_back N T w.0 found w.1
report_back (degree N most Vs) w =
    let first = codes "lie degree 1" in
    let body = (codes "degree " ++ decimal most) ∷ generators_line (length Vs) ∷ numbered_lines (generator_line N) 1 Vs in
    let ls = head_lines first N ++ body in
    let from = every-append (AreFrom 32) (head_lines first N) body (head_from N w.0 first (from_test first refl)) (degree_from N w.0 most w.1.0 Vs w.1.1) in
    ap read_degree (split_lines (ls ++ codes "end" ∷ []) (split_ended ls from (ls ++ codes "end" ∷ []) refl) ∙ append_assoc ls (codes "end" ∷ []) ([] ∷ []))
    ∙ degree_back N w.0 most w.1.0 Vs w.1.1 first (generators_line (length Vs)) (codes "end") []
