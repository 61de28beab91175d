-- For any bytes some outcome of any command on a file is due.
use Rattle.std.specs.Prelude.{ℕ, ◌≡◌, ◌≤◌, Bool, true, false, nat_lt, List, length, Some, None}
use Rattle.std.proofs.Common.{refl, arith, inl, inr}
use Rattle.std.proofs.lemmas.Bool.Decides.{nat_tests}
use Rattle.std.specs.declared.option.Option.{Option}
use Rattle.lie_math.specs.VectorField.{VectorField, component}
use Rattle.lie_geometry.specs.Coordinates.{Space}
use Rattle.lie_geometry.specs.SolvedEquations.{SolvedEquation}
use Rattle.lie_ring.specs.declared.failures.PastKind.TheVariants.{Terms}
use Rattle.lie_system.specs.Systems.{SystemRead, EquationRead}
use Rattle.lie_scan.specs.Bad.{bad}
use Rattle.lie_scan.specs.declared.fault.BadKind.TheVariants.{TooLong}
use Rattle.lie_scan.specs.declared.fault.ReadFail.{ReadFail}
use Rattle.lie_scan.specs.declared.fault.ReadFail.TheVariants as reads
use Rattle.lie_file.specs.FileGrammar.{lines_of, IsFile}
use Rattle.lie_file.specs.FileFaults as files
use Rattle.lie_file.specs.FileFaults.{IsNamesLineFault, no_line, other_keyword, in_names, IsLineFault, no_end, other_word, seventeenth, in_equation, early_end, further_word, behind_end, IsLinesFault, no_header, other_header, in_vars, in_deps, in_equations, IsFault}
use Rattle.lie_file.specs.Places.{file_fault}
use Rattle.lie_file.specs.declared.lines.FileFail.{FileFail}
use Rattle.lie_file.specs.declared.lines.FileFail.TheVariants as fails
use Rattle.lie_file.proofs.FileEquations.{file_is_written}
use Rattle.lie_file.proofs.FileFaults.{system_or_fault}
use Rattle.lie_file.proofs.WellNamed.{well_named}
use Rattle.lie_fieldtext.specs.FieldGrammar.{IsFieldText}
use Rattle.lie_fieldtext.specs.FieldFaults as texts
use Rattle.lie_fieldtext.specs.FieldFaults.{IsFieldFault}
use Rattle.lie_fieldtext.proofs.FieldLaws.{field_or_fault}
use Rattle.lie_ring.specs.Rankings.{degree_rank}
use Rattle.lie_ring.specs.DegreeRanking.{degree_rank_is_ranking}
use Rattle.lie_solved.proofs.SolvedOrRefused.{systems_are_solved_or_refused}
use Rattle.lie_check.specs.Laws.{ActionsAreNotWithinAndPast}
use Rattle.lie_determining.specs.Laws.{OpeningIsNotWithinAndPast}
use Rattle.lie_work.specs.declared.source.Source.TheVariants.{File, Field}
use Rattle.lie_work.specs.declared.outcome.Outcome.{Outcome}
use Rattle.lie_work.specs.declared.outcome.Outcome.TheVariants.{Done, Refused}
use Rattle.lie_work.specs.declared.outcome.Refusal.{Refusal}
use Rattle.lie_work.specs.declared.outcome.Refusal.TheVariants.{Bad, Not, Past, Spent, Missing}
use Rattle.lie_work.specs.declared.command.FileCommand.TheVariants.{Determine, Check, Analyse, Degree}
use Rattle.lie_analysis.specs.Laws.{SomeAnswerIsDue}
use Rattle.lie_degree.specs.Laws as degree_laws
use Rattle.lie_work.specs.Analyse as analyses
use Rattle.lie_work.specs.Analyse.{IsAnalyseDue}
use Rattle.lie_work.specs.Checking as checks
use Rattle.lie_work.specs.Checking.{IsField, IsCheckDue}
use Rattle.lie_work.specs.Degree as degrees
use Rattle.lie_work.specs.Degree.{IsDegreeDue}
use Rattle.lie_work.specs.Determine as reports
use Rattle.lie_work.specs.Determine.{IsDetermineDue}
use Rattle.lie_work.specs.SolvedFile.{IsSolvedFile, IsFileRefusal, bad_file, unsolved}
use Rattle.lie_work.specs.Commands.{AnyFileCommand}
use Rattle.lie_work.specs.Work.{IsWorkDue}

-- ---- a fault is no want of memory
abbrev IsTold : FileFail → Type 0
IsTold (fails.Fault s) = Unit {0}
IsTold fails.Ended = Unit {0}
IsTold fails.NoMemory = ⊥

names_told : (keyword before : List ℕ) (lines : List (List ℕ)) (f : FileFail) → IsNamesLineFault keyword before lines f → IsTold f
names_told keyword before lines f (no_line e) = tt
names_told keyword before lines f (other_keyword content behind next other) = tt
names_told keyword before lines f (in_names content text behind s next word fault) = tt

line_told : (S : Space) (names : List ℕ) (before : List EquationRead) (lines : List (List ℕ)) (f : FileFail) → IsLineFault S names before lines f → IsTold f
line_told S names before lines f (no_end e) = tt
line_told S names before lines f (other_word content behind next a b) = tt
line_told S names before lines f (seventeenth content text behind next word many) = tt
line_told S names before lines f (in_equation content text behind s next word few fault) = tt
line_told S names before lines f (early_end content text behind next word none) = tt
line_told S names before lines f (further_word content text behind next word some more) = tt
line_told S names before lines f (behind_end content text behind further rest next word some blanks second) = tt

lines_told : (lines : List (List ℕ)) (f : FileFail) → IsLinesFault lines f → IsTold f
lines_told lines f (no_header e) = tt
lines_told lines f (other_header content behind next other) = tt
lines_told lines f (in_vars header behind g next is fault) = names_told _ _ _ f fault
lines_told lines f (in_deps header vars independent behind rest g next is next_vars vars_is fault) = names_told _ _ _ f fault
lines_told lines f (in_equations header vars deps independent dependent behind rest body left before g next is next_vars vars_is next_deps deps_is are few fault) = line_told _ _ _ _ f fault

abbrev IsToldFault : ReadFail → Type 0
IsToldFault (reads.Bad b) = Unit {0}
IsToldFault reads.NoMemory = ⊥

fault_told : (bytes : List ℕ) (r : ReadFail) → IsFault bytes r → IsToldFault r
fault_told bytes r (files.too_long long) = tt
fault_told bytes r (files.not_allowed line column short e) = tt
fault_told bytes r (files.in_lines f short allowed fault) = placed f (lines_told _ f fault)
  where
    placed : (f : FileFail) → IsTold f → IsToldFault (file_fault (lines_of bytes) f)
    placed (fails.Fault s) h = tt
    placed fails.Ended h = tt
    placed fails.NoMemory h = h

field_fault_told : (names text : List ℕ) (r : ReadFail) → IsFieldFault names text r → IsToldFault r
field_fault_told names text r (texts.too_long long) = tt
field_fault_told names text r (texts.not_allowed column short e) = tt
field_fault_told names text r (texts.in_sum s short allowed other fault) = tt

-- ---- files
-- nothing is due for none of these reasons: neither for a refusal of the file, nor for its solved form
module _ (bytes : List ℕ) (refused : (r : Refusal) → IsFileRefusal bytes r → ⊥)
    (solved : (s : SystemRead) (rs : List SolvedEquation) → IsSolvedFile bytes s rs → ⊥) where
  never_short : (s : SystemRead) → IsFile bytes s → length bytes ≤ 65536 → ⊥
  never_short s file short = elim (systems_are_solved_or_refused degree_rank degree_rank_is_ranking s.space (well_named _ s file.system).small s.equations (file_is_written bytes s file).written) [
    | inl p ↦ solved s p.0 (record { file = file; short = short; form = p.1 })
    | inr r ↦ refused (Not r.0 r.1) (unsolved r.0 r.1 (record { system = s; file = file; short = short; refused = r.2 }))
  ]

  never_file : (s : SystemRead) → IsFile bytes s → ((f : ReadFail) → IsFault bytes f → ⊥) → ⊥
  never_file s file clean = go (nat_lt 65536 (length bytes)) refl
    where
      go : (b : Bool) → nat_lt 65536 (length bytes) ≡ b → ⊥
      go true e = clean (bad 1 1 TooLong) (files.too_long (grind (arith, nat_tests, e)))
      go false e = never_short s file (grind (arith, nat_tests, e))

  never_fault : (f : ReadFail) → IsFault bytes f → ⊥
  never_fault (reads.Bad b) h = refused (Bad File b) (bad_file b h)
  never_fault reads.NoMemory h = fault_told bytes reads.NoMemory h

  never : ⊥
  never = elim (system_or_fault bytes) [ inl h ↦ never_file h.0 h.1 h.2 | inr h ↦ never_fault h.0 h.1 ]

some_file : (bytes : List ℕ) → ((r : Refusal) → IsFileRefusal bytes r → ⊥) → ((s : SystemRead) (rs : List SolvedEquation) → IsSolvedFile bytes s rs → ⊥) → ⊥
some_file bytes refused solved = never bytes refused solved

-- ---- determine
some_report : OpeningIsNotWithinAndPast → (bytes : List ℕ) → ((due : Outcome) → ¬ (IsDetermineDue bytes due)) → ⊥
some_report opening bytes none = some_file bytes (λ r h. none (Refused r) (reports.due_file r h)) (λ s rs is.
    none (Refused (Past 0 Terms)) (reports.due_past 0 Terms (record {
      system = s;
      rules = rs;
      solved = is;
      first = refl;
      wide = λ within. none Done (reports.due_report (record { system = s; rules = rs; solved = is; none = λ what past. opening s.space rs what within past }));
    })))

-- ---- check
module _ (actions : ActionsAreNotWithinAndPast) (bytes text : List ℕ) (none : (due : Outcome) → ¬ (IsCheckDue bytes text due)) (s : SystemRead) (rs : List SolvedEquation) (is : IsSolvedFile bytes s rs) where
  never_field : (V : VectorField) → IsField s text V → ⊥
  never_field V field = none (Refused (Past 0 Terms)) (checks.due_past 0 Terms (record {
    system = s;
    rules = rs;
    read = V;
    solved = is;
    is_field = field;
    first = refl;
    wide = λ within. none Done (checks.due_line (record {
      system = s;
      rules = rs;
      read = V;
      solved = is;
      is_field = field;
      none = λ what past. actions s.space rs (component V) what within past;
    }));
  }))

  never_text : (V : VectorField) → IsFieldText s.space s.names text V → ((f : ReadFail) → IsFieldFault s.names text f → ⊥) → ⊥
  never_text V spelled clean = go (nat_lt 65536 (length text)) refl
    where
      go : (b : Bool) → nat_lt 65536 (length text) ≡ b → ⊥
      go true e = clean (bad 1 1 TooLong) (texts.too_long (grind (arith, nat_tests, e)))
      go false e = never_field V (record { spelled = spelled; short = grind (arith, nat_tests, e) })

  never_field_fault : (f : ReadFail) → IsFieldFault s.names text f → ⊥
  never_field_fault (reads.Bad b) h = none (Refused (Bad Field b)) (checks.due_field b (record { system = s; rules = rs; solved = is; fault = h }))
  never_field_fault reads.NoMemory h = field_fault_told s.names text reads.NoMemory h

  never_solved : ⊥
  never_solved = elim (field_or_fault s.space s.names text (well_named _ s (is.file).system).many) [ inl h ↦ never_text h.0 h.1 h.2 | inr h ↦ never_field_fault h.0 h.1 ]

some_line : ActionsAreNotWithinAndPast → (bytes text : List ℕ) → ((due : Outcome) → ¬ (IsCheckDue bytes text due)) → ⊥
some_line actions bytes text none = some_file bytes (λ r h. none (Refused r) (checks.due_file r h)) (λ s rs is. never_solved actions bytes text none s rs is)

-- ---- analyse
some_symmetries : SomeAnswerIsDue → (bytes : List ℕ) (budget : ℕ) → ((due : Outcome) → ¬ (IsAnalyseDue bytes budget due)) → ⊥
some_symmetries answer bytes budget none = some_file bytes (λ r h. none (Refused r) (analyses.due_file r h)) (λ s rs is.
    answer s.space rs budget
    (λ due. none Done (analyses.due_report (record { system = s; rules = rs; solved = is; due = due })))
    (λ spent. none (Refused (Spent budget)) (analyses.due_spent (record { system = s; rules = rs; solved = is; spent = spent })))
    (λ step first. none (Refused (Past step Terms)) (analyses.due_past step Terms (record { system = s; rules = rs; solved = is; first = first }))))

-- ---- degree
some_basis : degree_laws.SomeAnswerIsDue → (bytes : List ℕ) (d : ℕ) → ((due : Outcome) → ¬ (IsDegreeDue bytes d due)) → ⊥
some_basis answer bytes d none = some_file bytes (λ r h. none (Refused r) (degrees.due_file r h)) (λ s rs is.
    answer s.space rs d
    (λ within. none Done (degrees.due_report (record { system = s; rules = rs; solved = is; within = within })))
    (λ step first. none (Refused (Past step Terms)) (degrees.due_past step Terms (record { system = s; rules = rs; solved = is; first = first }))))

-- ---- commands
pub some_work_is_due : ActionsAreNotWithinAndPast → OpeningIsNotWithinAndPast → SomeAnswerIsDue → degree_laws.SomeAnswerIsDue → (c : AnyFileCommand) (bytes : List ℕ) → ((due : Outcome) → ¬ (IsWorkDue c bytes due)) → ⊥
some_work_is_due actions opening answer basis Determine bytes none = some_report opening bytes none
some_work_is_due actions opening answer basis (Check text) bytes none = some_line actions bytes text none
some_work_is_due actions opening answer basis (Analyse budget) bytes none = some_symmetries answer bytes budget none
some_work_is_due actions opening answer basis (Degree d) bytes none = some_basis basis bytes d none
