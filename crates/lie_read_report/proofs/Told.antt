-- One text has one report, and what is read of a text.
use Rattle.std.specs.Prelude.{ℕ, ◌≡◌, ◌+◌, ◌<◌, ◌^◌, ◌==◌, nat_lt, Bool, true, false, ℤ, List, [], ◌∷◌, length, map, take, drop, Option, Some, None, Ok, Err, MatchOption, option_map, if◌then◌else◌, refl}
use Rattle.std.specs.declared.result.Result.{Result}
use Rattle.std.specs.List.{slice_split, AllByRecursion as Every}
use Rattle.std.proofs.Common.{sym, ap, ap₂, ◌∙◌, subst, arith}
use Rattle.std.proofs.lemmas.Bool.Decides.{nat_tests}
use Rattle.lie_math.specs.FiniteSumLaws.{of_list}
use Rattle.lie_math.specs.LinearSystem.{LinearSystem}
use Rattle.lie_math.specs.Monomial.{Monomial}
use Rattle.lie_math.specs.Polynomial.{WholePolynomial, terms, polynomial_of}
use Rattle.lie_math.specs.VectorField.{VectorField}
use Rattle.lie_ring.specs.declared.ratio.Ratio.{Ratio}
use Rattle.lie_print.specs.Printing.{PrintedTerm}
use Rattle.lie_report.specs.Reports.{Named, Found, Report, report_of, determining, symmetries, degree}
use Rattle.lie_report.specs.Report.{report_text}
use Rattle.lie_report.specs.declared.reports.Report as kept
use Rattle.lie_scan.specs.Tokens.{value_of}
use Rattle.lie_readback.specs.Readings.{◌>>=◌, Fails, Finds}
use Rattle.lie_readback.specs.declared.unread.Unread.{Unread}
use Rattle.lie_readback.specs.declared.unread.Unread.TheVariants.{Other, NoMemory}
use Rattle.lie_readback.specs.Groups.{drafted}
use Rattle.lie_readback.specs.SystemDrafts.{Draft, read_named, read_lines}
use Rattle.lie_readback.specs.WellFormed.{AreNamed, size, IsWellFormed as IsWellFormedSystem}
use Rattle.lie_readback.proofs.Drafted.{bind_some, some_is, guard_some, named_good, lines_good}
use Rattle.lie_readback.proofs.ToldSystems.{system_told}
use Rattle.lie_read_report.specs.FieldTerms.{parts_from, written_field}
use Rattle.lie_read_report.specs.ReadReports.{IsTextOfNone, IsReportOf, HaveOneReport}
use Rattle.lie_read_report.specs.ReportDrafts as written
use Rattle.lie_read_report.specs.ReportDrafts.{BasisDraft, ReportDraft, last_place, read_basis, read_symmetries, read_most, guarded, read_fields, read_degree, read_determining, read_kind, read_from, read_text}
use Rattle.lie_read_report.specs.WellFormed.{IsReportedField, IsReportedBasis, IsReportedFound, IsWellFormed, IsWellWritten, basis_written, report_written}
use Rattle.lie_read_report.proofs.FieldTexts.{field_parts}
use Rattle.lie_read_report.proofs.ReportTexts.{report_back}

-- ---- reports are told by what is written of them
pub polynomial_told : (P Q : WholePolynomial) → P.list ≡ Q.list → P ≡ Q
polynomial_told P Q h = sym (of_list terms P) ∙ ap polynomial_of h ∙ of_list terms Q

pub polynomials_told : (Ps Qs : List WholePolynomial) → map (λ P. P.list) Ps ≡ map (λ P. P.list) Qs → Ps ≡ Qs
polynomials_told [] [] h = refl
polynomials_told [] (Q ∷ Qs) h = cc
polynomials_told (P ∷ Ps) [] h = cc
polynomials_told (P ∷ Ps) (Q ∷ Qs) h =
    let first : P.list ≡ Q.list = cc in
    let rest : map (λ (P : WholePolynomial). P.list) Ps ≡ map (λ (P : WholePolynomial). P.list) Qs = cc in
    ap₂ (λ (x : WholePolynomial) (l : List WholePolynomial). x ∷ l) (polynomial_told P Q first) (polynomials_told Ps Qs rest)

pub field_is : (V W : VectorField) → V.denominator ≡ W.denominator → V.parts ≡ W.parts → V ≡ W
field_is V W d p = λ i. record { denominator = d i; parts = p i }

-- the lists of the parts of a field
pub parts_told : (n : ℕ) (V : VectorField) → IsReportedField n V → (ts : List PrintedTerm) → written_field V ≡ ts → map (λ P. P.list) V.parts ≡ parts_from n 0 ts
parts_told n V h ts is = sym (field_parts V) ∙ ap₂ (λ (k : ℕ) (l : List PrintedTerm). parts_from k 0 l) h.size is

field_told : (n : ℕ) (V W : VectorField) → IsReportedField n V → IsReportedField n W → written_field V ≡ written_field W → V ≡ W
field_told n V W h k e =
    field_is V W (h.over_one ∙ sym k.over_one) (polynomials_told V.parts W.parts (parts_told n V h (written_field W) e ∙ sym (parts_told n W k (written_field W) refl)))

fields_told : (n : ℕ) (Vs Ws : List VectorField) → Every (IsReportedField n) Vs → Every (IsReportedField n) Ws → map written_field Vs ≡ map written_field Ws → Vs ≡ Ws
fields_told n [] [] h k e = refl
fields_told n [] (W ∷ Ws) h k e = cc
fields_told n (V ∷ Vs) [] h k e = cc
fields_told n (V ∷ Vs) (W ∷ Ws) h k e =
    let first : written_field V ≡ written_field W = cc in
    let rest : map written_field Vs ≡ map written_field Ws = cc in
    ap₂ (λ (x : VectorField) (l : List VectorField). x ∷ l) (field_told n V W h.0 k.0 first) (fields_told n Vs Ws h.1 k.1 rest)

pub found_is : (B C : Found) → B.fields ≡ C.fields → B.table ≡ C.table → B ≡ C
found_is B C f t = λ i. record { fields = f i; table = t i }

basis_told : (n : ℕ) (B C : Found) → IsReportedBasis n B → IsReportedBasis n C → basis_written B ≡ basis_written C → B ≡ C
basis_told n B C h k e =
    found_is B C (fields_told n B.fields C.fields (h.fields).each (k.fields).each (ap (λ (D : BasisDraft). D.fields) e)) (ap (λ (D : BasisDraft). D.table) e)

found_told : (n : ℕ) (B C : Option Found) → IsReportedFound n B → IsReportedFound n C → option_map basis_written B ≡ option_map basis_written C → B ≡ C
found_told n None None h k e = refl
found_told n None (Some C) h k e = cc
found_told n (Some B) None h k e = cc
found_told n (Some B) (Some C) h k e = let is : basis_written B ≡ basis_written C = cc in ap (λ (x : Found). Some x) (basis_told n B C h k is)

symmetries_told : (N M : Named) (T S : LinearSystem) (B C : Option Found) → IsWellFormedSystem (N, T) → IsWellFormedSystem (M, S) → IsReportedFound (size N) B → IsReportedFound (size M) C
    → drafted (N, T) ≡ drafted (M, S) → option_map basis_written B ≡ option_map basis_written C → symmetries N T B ≡ symmetries M S C
symmetries_told N M T S B C h k f g d b =
    let s = system_told (N, T) (M, S) h k d in
    let n : N ≡ M = ap (λ (x : Named × LinearSystem). x.0) s in
    let c = found_told (size N) B C f (subst (λ (x : Named). IsReportedFound (size x) C) (sym n) g) b in
    ap₂ (λ (x : Named × LinearSystem) (y : Option Found). symmetries x.0 x.1 y) s c

degree_told : (N M : Named) (most least : ℕ) (Vs Ws : List VectorField) → Every (IsReportedField (size N)) Vs → Every (IsReportedField (size M)) Ws
    → N ≡ M → most ≡ least → map written_field Vs ≡ map written_field Ws → degree N most Vs ≡ degree M least Ws
degree_told N M most least Vs Ws h k n d e =
    let f = fields_told (size N) Vs Ws h (subst (λ (x : Named). Every (IsReportedField (size x)) Ws) (sym n) k) e in
    ap₂ (λ (x : Named) (g : Named → Report). g x) n (ap₂ {C = Named → Report} (λ (m : ℕ) (Us : List VectorField) (x : Named). degree x m Us) d f)

report_told : (R Q : Report) → IsWellFormed R → IsWellFormed Q → report_written R ≡ report_written Q → R ≡ Q
report_told (determining N T) (determining M S) h k e =
    let d : drafted (N, T) ≡ drafted (M, S) = cc in
    ap (λ (x : Named × LinearSystem). determining x.0 x.1) (system_told (N, T) (M, S) h k d)
report_told (determining N T) (symmetries M S C) h k e = cc
report_told (determining N T) (degree M least Ws) h k e = cc
report_told (symmetries N T B) (determining M S) h k e = cc
report_told (symmetries N T B) (symmetries M S C) h k e =
    let d : drafted (N, T) ≡ drafted (M, S) = cc in
    let b : option_map basis_written B ≡ option_map basis_written C = cc in
    symmetries_told N M T S B C h.0 k.0 h.1 k.1 d b
report_told (symmetries N T B) (degree M least Ws) h k e = cc
report_told (degree N most Vs) (determining M S) h k e = cc
report_told (degree N most Vs) (symmetries M S C) h k e = cc
report_told (degree N most Vs) (degree M least Ws) h k e =
    let n : N ≡ M = cc in
    let d : most ≡ least = cc in
    let f : map written_field Vs ≡ map written_field Ws = cc in
    degree_told N M most least Vs Ws (h.1.1).each (k.1.1).each n d f

-- ---- texts
pub text_told : (R : Report) → IsWellFormed R → (bytes : List ℕ) → report_text R ≡ bytes → read_text bytes ≡ Some (report_written R)
text_told R h bytes e = ap read_text (sym e) ∙ report_back R h

pub one_report : HaveOneReport
one_report R Q h k e = report_told R Q h k (some_is (report_written R) (report_written Q) (sym (report_back R h) ∙ text_told Q k (report_text R) (sym e)))

pub text_fails : {X : Type 0} (view : X → Report) (bytes : List ℕ) (e : Unread) → Fails e (read_text bytes) → Finds view IsWellFormed report_text bytes (Err e)
text_fails view bytes Other h = λ R w told. no_some (report_written R) (sym (text_told R w bytes told) ∙ h)
  where
    no_some : (D : ReportDraft) → ◌≡◌ {A = Option ReportDraft} (Some D) None → ⊥
    no_some D e = cc
text_fails view bytes NoMemory h = tt

pub text_finds : {X : Type 0} (view : X → Report) (bytes : List ℕ) (D : ReportDraft) (r : Result X Unread) → read_text bytes ≡ Some D → Finds view IsWellFormed report_written D r
    → Finds view IsWellFormed report_text bytes r
text_finds view bytes D (Ok x) is h = λ R w told. h R w (some_is (report_written R) D (sym (text_told R w bytes told) ∙ is))
text_finds view bytes D (Err Other) is h = λ R w told. h R w (some_is (report_written R) D (sym (text_told R w bytes told) ∙ is))
text_finds view bytes D (Err NoMemory) is h = tt

pub answer_more : (bytes : List ℕ) (R : Report) → IsWellFormed R → ((Q : Report) → IsWellFormed Q → report_text Q ≡ bytes → R ≡ Q) → (o : Option kept.Report)
    → MatchOption o (¬ (report_text R ≡ bytes)) (λ r. (report_of r ≡ R) × (report_text (report_of r) ≡ bytes)) → MatchOption o (IsTextOfNone bytes) (λ r. IsReportOf r bytes)
answer_more bytes R well found None h = λ Q w told. h (ap report_text (found Q w told) ∙ told)
answer_more bytes R well found (Some r) h = record { well_formed = subst IsWellFormed (sym h.0) well; text = h.1 }

-- ---- what is read has names and numbered unknowns
determining_good : (ls : List (List ℕ)) (D : ReportDraft) → read_determining ls ≡ Some D → IsWellWritten D
determining_good ls D h = bind_some (read_lines ls) (λ x. Some (written.determining x)) D h (λ x is more. subst IsWellWritten (some_is (written.determining x) D more) (lines_good ls x is))

symmetries_good : (ls : List (List ℕ)) (D : ReportDraft) → read_symmetries ls ≡ Some D → IsWellWritten D
unfolding read_symmetries
symmetries_good ls D h =
    bind_some (last_place 103 ls) _ D h (λ k a more. bind_some (read_lines (take (k + 2) ls)) _ D more (λ x is last. bind_some (read_basis ((x.named).names) (drop k ls)) _ D last (λ B b end.
    subst IsWellWritten (some_is (written.symmetries x B) D end) (lines_good (take (k + 2) ls) x is))))

most_good : (line : List ℕ) (n : ℕ) → read_most line ≡ Some n → n < 2 ^ 8
most_good line n h =
    bind_some (value_of (drop 7 line)) guarded n h (λ k is more.
    let g = guard_some (nat_lt k (2 ^ 8)) (Some k) n more in
    let t = g.0 in
    let low : k < 2 ^ 8 = grind (arith, nat_tests, t) in
    let same = some_is k n g.1 in
    omega arith)

degree_good : (ls : List (List ℕ)) (D : ReportDraft) → read_degree ls ≡ Some D → IsWellWritten D
unfolding read_degree
degree_good [] D h = cc
degree_good (a ∷ []) D h = cc
degree_good (a ∷ b ∷ []) D h = cc
degree_good (a ∷ b ∷ c ∷ []) D h = cc
degree_good (a ∷ b ∷ c ∷ d ∷ []) D h = cc
degree_good (a ∷ vars ∷ deps ∷ most ∷ count ∷ ls) D h =
    bind_some (read_named vars deps) _ D h (λ N a more. bind_some (read_most most) _ D more (λ n b rest. bind_some (read_fields N.names ls) _ D rest (λ Vs c last.
    subst IsWellWritten (some_is (written.degree N n Vs) D last) (named_good vars deps N a, most_good most n b))))

kind_good : (c : ℕ) (ls : List (List ℕ)) (D : ReportDraft) → read_kind c ls ≡ Some D → IsWellWritten D
kind_good c ls D h = first (c == 116) h
  where
    third : (b : Bool) → (if b then read_degree ls else None) ≡ Some D → IsWellWritten D
    third true h = degree_good ls D h
    third false h = cc

    second : (b : Bool) → (if b then read_symmetries ls else if c == 103 then read_degree ls else None) ≡ Some D → IsWellWritten D
    second true h = symmetries_good ls D h
    second false h = third (c == 103) h

    first : (b : Bool) → (if b then read_determining ls else if c == 109 then read_symmetries ls else if c == 103 then read_degree ls else None) ≡ Some D → IsWellWritten D
    first true h = determining_good ls D h
    first false h = second (c == 109) h

from_good : (kind : List ℕ) (ls : List (List ℕ)) (D : ReportDraft) → read_from kind ls ≡ Some D → IsWellWritten D
from_good [] ls D h = cc
from_good (c ∷ cs) ls D h = kind_good c ls D h

pub well_written : (text : List ℕ) (D : ReportDraft) → read_text text ≡ Some D → IsWellWritten D
unfolding read_text
well_written text D h = from_good (drop 6 text) (slice_split (λ b. b == 10) text) D h
