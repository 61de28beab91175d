-- What the work of `check` answers is what is due.
use Rattle.std.specs.Prelude.{ℕ, pos, ◌≡◌, ◌↔◌, ◌≤◌, List, length, get_or, codes, Result, Ok, Err}
use Rattle.std.proofs.Common.{refl, sym, ap, subst, ◌∙◌, arith, inl, inr}
use Rattle.lie_math.specs.Polynomial.{WholePolynomial, 0ᴾ}
use Rattle.lie_math.specs.VectorField.{VectorField, component}
use Rattle.lie_geometry.specs.Coordinates.{Space}
use Rattle.lie_geometry.specs.Invariance.{AreInvariant}
use Rattle.lie_geometry.specs.SolvedEquations.{SolvedEquation}
use Rattle.lie_ring.specs.declared.failures.PolyFail.{PolyFail}
use Rattle.lie_ring.specs.declared.failures.PolyFail.TheVariants as poly
use Rattle.lie_system.specs.Systems.{SystemRead}
use Rattle.lie_scan.specs.ReadFails.{ReadFails}
use Rattle.lie_fieldtext.specs.FieldGrammar.{IsFieldText}
use Rattle.lie_fieldtext.specs.FieldFaults.{IsFieldFault, IsFieldFaultToldOf}
use Rattle.lie_scan.specs.declared.fault.BadFile.{BadFile}
use Rattle.lie_scan.specs.declared.fault.ReadFail.{ReadFail}
use Rattle.lie_scan.specs.declared.fault.ReadFail.TheVariants as reads
use Rattle.lie_check.specs.Actions.{AreActionsWithin, IsActionCause}
use Rattle.lie_check.specs.Verdicts.{IsVerdict}
use Rattle.lie_check.specs.declared.verdict.Verdict.{Verdict}
use Rattle.lie_check.specs.declared.verdict.Verdict.TheVariants.{Yes, No}
use Rattle.lie_work.specs.declared.outcome.Outcome.{Outcome}
use Rattle.lie_work.specs.declared.outcome.Outcome.TheVariants.{Done, Refused}
use Rattle.lie_work.specs.declared.outcome.Refusal.{Refusal}
use Rattle.lie_work.specs.declared.outcome.Refusal.TheVariants.{Bad, Past}
use Rattle.lie_work.specs.declared.source.Source.TheVariants.{Field}
use Rattle.lie_work.specs.Causes.{not_read, not_done}
use Rattle.lie_work.specs.Checking.{IsField, HasOneField, verdict_line, IsActionPast, IsCheckRefusal, no_field, past, IsCheckDue, due_file, due_field, due_past, due_line}
use Rattle.lie_work.specs.Outcomes.{IsRefusalOr, untold}
use Rattle.lie_work.specs.SolvedFile.{IsSolvedFile, IsFileRefusal}
use Rattle.lie_work.specs.Work.{IsAnswer, IsAnswered}
use Rattle.lie_work.proofs.SolvedFiles.{solved_not_refused, file_answer, moved}

-- a refusal of the file is answered
pub file_of_check : (bytes field : List ℕ) (found : Refusal) (due : Outcome) → IsFileRefusal bytes found → IsCheckDue bytes field due → IsAnswer due (Refused found)
file_of_check bytes field found due h (due_file refusal g) = file_answer bytes found refusal h g
file_of_check bytes field found due h (due_field bad d) = absurd (solved_not_refused bytes d.system d.rules found d.solved h)
file_of_check bytes field found due h (due_past step what w) = absurd (solved_not_refused bytes w.system w.rules found w.solved h)
file_of_check bytes field found due h (due_line d) = absurd (solved_not_refused bytes d.system d.rules found d.solved h)

-- ---- a field that is read
pub check_refusal : (fail : PolyFail) (s : SystemRead) (rs : List SolvedEquation) (V : VectorField) → IsActionCause s.space rs (component V) fail
    → (bytes field : List ℕ) → IsSolvedFile bytes s rs → IsField s field V → IsRefusalOr (IsCheckRefusal bytes field) (not_done 0 fail)
check_refusal (poly.Past what) s rs V cause bytes field h is = past 0 what (record { system = s; rules = rs; read = V; solved = h; is_field = is; first = refl; past = cause })
check_refusal poly.NoMemory s rs V cause bytes field h is = tt

-- the field of another system of the file is the same one
same_field : (bytes field : List ℕ) (s t : SystemRead) (rs qs : List SolvedEquation) (V W : VectorField) → IsSolvedFile bytes s rs → IsSolvedFile bytes t qs → HasOneField s field → IsField s field V → IsField t field W → V ≡ W
same_field bytes field s t rs qs V W h g one is other = one.field V W is (moved bytes t s qs rs (λ v _. IsField v field W) g h other)

-- a text with a field has no fault
no_fault : (bytes field : List ℕ) (s t : SystemRead) (rs qs : List SolvedEquation) (V : VectorField) (bad : BadFile)
    → IsSolvedFile bytes s rs → IsField s field V → HasOneField s field → IsSolvedFile bytes t qs → IsFieldFault t.names field (reads.Bad bad) → ⊥
no_fault bytes field s t rs qs V bad h is one g fault = one.either V (reads.Bad bad) is (moved bytes t s qs rs (λ v _. IsFieldFault v.names field (reads.Bad bad)) g h fault)

pub check_done : (bytes field : List ℕ) (s : SystemRead) (rs : List SolvedEquation) (V : VectorField) (due : Outcome)
    → IsSolvedFile bytes s rs → IsField s field V → HasOneField s field → AreActionsWithin s.space rs (component V) → IsCheckDue bytes field due → due ≡ Done
check_done bytes field s rs V due h is one within (due_file refusal g) = absurd (solved_not_refused bytes s rs refusal h g)
check_done bytes field s rs V due h is one within (due_field bad d) = absurd (no_fault bytes field s d.system rs d.rules V bad h is one d.solved d.fault)
check_done bytes field s rs V due h is one within (due_past step what w) =
    absurd (w.wide (subst (λ W. AreActionsWithin w.system.space w.rules (component W)) (same_field bytes field s w.system rs w.rules V w.read h w.solved one is w.is_field)
    (moved bytes s w.system rs w.rules (λ v qs. AreActionsWithin v.space qs (component V)) h w.solved within)))
check_done bytes field s rs V due h is one within (due_line d) = refl

pub check_failed : (bytes field : List ℕ) (s : SystemRead) (rs : List SolvedEquation) (V : VectorField) (fail : PolyFail) (due : Outcome)
    → IsSolvedFile bytes s rs → IsField s field V → HasOneField s field → IsActionCause s.space rs (component V) fail → IsCheckDue bytes field due → IsAnswered due (untold (not_done 0 fail))
check_failed bytes field s rs V poly.NoMemory due h is one cause d = inr refl
check_failed bytes field s rs V (poly.Past kind) due h is one cause (due_file refusal g) = absurd (solved_not_refused bytes s rs refusal h g)
check_failed bytes field s rs V (poly.Past kind) due h is one cause (due_field bad d) = absurd (no_fault bytes field s d.system rs d.rules V bad h is one d.solved d.fault)
check_failed bytes field s rs V (poly.Past kind) due h is one cause (due_past step what w) = inl (kind, ap (λ n. Refused (Past n kind)) (sym w.first))
check_failed bytes field s rs V (poly.Past kind) due h is one cause (due_line d) =
    absurd (d.none kind (subst (λ W. IsActionPast d.system.space d.rules W kind) (same_field bytes field s d.system rs d.rules V d.read h d.solved one is d.is_field)
    (moved bytes s d.system rs d.rules (λ v qs. IsActionPast v.space qs V kind) h d.solved cause)))

-- a text that begins otherwise is not the line `yes`
pub yes_means_invariant : (S : Space) (names : List ℕ) (rs : List SolvedEquation) (V : ℕ → WholePolynomial) (verdict : Verdict) → IsVerdict S rs V verdict
    → (verdict_line S names verdict ≡ codes "yes\n") ↔ AreInvariant S rs V
yes_means_invariant S names rs V Yes is = (λ e. is, λ h. refl)
yes_means_invariant S names rs V (No k P) is = (
  λ e. absurd (let first : 110 ≡ 121 = ap (λ l. get_or l 0 0) e in omega arith),
  λ h. let d : SolvedEquation = record { lead = 0; factor = pos 0; right = 0ᴾ } in absurd (is.not_zero (sym (is.here d) ∙ h is.place d is.within)),
)

-- ---- a text that is read, or not
same_value : {X E : Type 0} {x y : X} → ◌≡◌ {A = Result X E} (Ok x) (Ok y) → x ≡ y
same_value e = cc

same_error : {X E : Type 0} {x y : E} → ◌≡◌ {A = Result X E} (Err x) (Err y) → x ≡ y
same_error e = cc

not_both : {X E : Type 0} {x : X} {y : E} → ◌≡◌ {A = Result X E} (Ok x) (Err y) → ⊥
not_both e = absurd cc

-- reading answers any field and any fault of the text
IsReading : SystemRead → List ℕ → Result VectorField ReadFail → Type 0
IsReading s text read =
    ((V : VectorField) → IsFieldText s.space s.names text V → length text ≤ 65536 → Ok V ≡ read) × ((f : ReadFail) → IsFieldFault s.names text f → Err f ≡ read)

one_when_read : (s : SystemRead) (text : List ℕ) (read : Result VectorField ReadFail) → IsReading s text read → HasOneField s text
unfolding IsReading
one_when_read s text read h = record {
  field = λ V W is other. same_value (h.0 V is.spelled is.short ∙ sym (h.0 W other.spelled other.short));
  either = λ V f is fault. not_both (h.0 V is.spelled is.short ∙ sym (h.1 f fault));
  fault = λ f g is other. same_error (h.1 f is ∙ sym (h.1 g other));
}

pub one_when_ok : (s : SystemRead) (text : List ℕ) (V : VectorField)
    → ((W : VectorField) → IsFieldText s.space s.names text W → length text ≤ 65536 → ◌≡◌ {A = Result VectorField ReadFail} (Ok W) (Ok V))
    → ((f : ReadFail) → IsFieldFault s.names text f → ◌≡◌ {A = Result VectorField ReadFail} (Err f) (Ok V)) → HasOneField s text
unfolding IsReading
one_when_ok s text V only stops = one_when_read s text (Ok V) (only, stops)

bad_of : ReadFail → Outcome → Outcome
bad_of (reads.Bad bad) other = Refused (Bad Field bad)
bad_of reads.NoMemory other = other

field_refused : (bytes field : List ℕ) (s : SystemRead) (rs : List SolvedEquation) (bad : BadFile) (due : Outcome)
    → IsSolvedFile bytes s rs → IsFieldFault s.names field (reads.Bad bad) → HasOneField s field → IsCheckDue bytes field due → IsAnswered due (Refused (Bad Field bad))
unfolding bad_of
field_refused bytes field s rs bad due h fault one (due_file refusal g) = absurd (solved_not_refused bytes s rs refusal h g)
field_refused bytes field s rs bad due h fault one (due_field b d) =
    inl (ap (λ f. bad_of f Done) (one.fault (reads.Bad bad) (reads.Bad b) fault (moved bytes d.system s d.rules rs (λ v _. IsFieldFault v.names field (reads.Bad b)) d.solved h d.fault)))
field_refused bytes field s rs bad due h fault one (due_past step what w) = absurd (one.either w.read (reads.Bad bad) (moved bytes w.system s w.rules rs (λ v _. IsField v field w.read) w.solved h w.is_field) fault)
field_refused bytes field s rs bad due h fault one (due_line d) = absurd (one.either d.read (reads.Bad bad) (moved bytes d.system s d.rules rs (λ v _. IsField v field d.read) d.solved h d.is_field) fault)

pub field_failed : (bytes field : List ℕ) (s : SystemRead) (rs : List SolvedEquation) (fail : ReadFail) (due : Outcome)
    → ((W : VectorField) → IsFieldText s.space s.names field W → length field ≤ 65536 → ReadFails fail (Ok W))
    → ((f : ReadFail) → IsFieldFault s.names field f → ReadFails {Y = VectorField} fail (Err f))
    → IsFieldFaultToldOf {X = VectorField} s.names field (Err fail) → IsSolvedFile bytes s rs → IsCheckDue bytes field due → IsAnswered due (untold (not_read Field fail))
unfolding IsReading
field_failed bytes field s rs reads.NoMemory due only stops told h d = inr refl
field_failed bytes field s rs (reads.Bad bad) due only stops told h d =
    field_refused bytes field s rs bad due h told (one_when_read s field (Err (reads.Bad bad)) (only, stops)) d

pub field_refusal : (fail : ReadFail) (s : SystemRead) (rs : List SolvedEquation) (field : List ℕ) → IsFieldFaultToldOf {X = VectorField} s.names field (Err fail)
    → (bytes : List ℕ) → IsSolvedFile bytes s rs → IsRefusalOr (IsCheckRefusal bytes field) (not_read Field fail)
field_refusal reads.NoMemory s rs field told bytes h = tt
field_refusal (reads.Bad bad) s rs field told bytes h = no_field bad (record { system = s; rules = rs; solved = h; fault = told })
