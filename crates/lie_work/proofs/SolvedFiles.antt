-- A file has one system and one solved form at most, and one with a solved form is not refused.
use Rattle.std.specs.Prelude.{ℕ, ◌≡◌, ◌≤◌, List, length, Result, Ok, Err}
use Rattle.std.proofs.Common.{sym, ap, ap₂, subst, ◌∙◌, arith}
use Rattle.lie_geometry.specs.Coordinates.{Space}
use Rattle.lie_geometry.specs.CoordinateLaws.{IsSpace}
use Rattle.lie_geometry.specs.SolvedEquations.{SolvedEquation}
use Rattle.lie_system.specs.Systems.{SystemRead}
use Rattle.lie_file.specs.FileGrammar.{IsFile}
use Rattle.lie_file.specs.FileFaults.{IsFault}
use Rattle.lie_scan.specs.declared.fault.ReadFail.{ReadFail}
use Rattle.lie_file.proofs.FileLaws.{one_system, is-read}
use Rattle.lie_file.proofs.FileFaults.{is-fault}
use Rattle.lie_solved.specs.SolvedForms.{IsSolvedForm}
use Rattle.lie_solved.specs.Refusals.{IsRefused}
use Rattle.lie_solved.specs.declared.solved.NotKind.{NotKind}
use Rattle.lie_ring.specs.Rankings.{degree_rank}
use Rattle.lie_ring.specs.DegreeRanking.{degree_rank_is_ranking}
use Rattle.lie_solved.proofs.OneForm.{solved_form_is_one, refused_has_no_form}
use Rattle.lie_solved.proofs.OneRefusal.{refusal_is_one}
use Rattle.lie_scan.specs.declared.fault.ReadFail.TheVariants as reads
use Rattle.lie_file.proofs.FileFaults.{one_fault}
use Rattle.lie_work.specs.declared.outcome.Outcome.TheVariants.{Refused}
use Rattle.lie_work.specs.declared.outcome.Refusal.{Refusal}
use Rattle.lie_work.specs.declared.outcome.Refusal.TheVariants.{Bad, Not}
use Rattle.lie_work.specs.declared.source.Source.TheVariants.{File}
use Rattle.lie_work.specs.SolvedFile.{IsSolvedFile, IsUnsolvedFile, IsFileRefusal, bad_file, unsolved}
use Rattle.lie_work.specs.Work.{IsAnswer}

-- the variables of a file are of both kinds
pub file_has_space : (bytes : List ℕ) (s : SystemRead) → IsFile bytes s → IsSpace s.space
file_has_space bytes s h =
    let f = h.system in
    let p : (s.space).p ≡ length f.independent = ap (λ (t : Space). t.p) f.space in
    let q : (s.space).q ≡ length f.dependent = ap (λ (t : Space). t.q) f.space in
    (let a = (f.vars_is).some in omega arith, let a = (f.deps_is).some in omega arith)

pub file_has_no_fault : (bytes : List ℕ) (s : SystemRead) (f : ReadFail) → IsFile bytes s → length bytes ≤ 65536 → IsFault bytes f → ⊥
file_has_no_fault bytes s f is short fault = let e : ◌≡◌ {A = Result SystemRead ReadFail} (Ok s) (Err f) = sym (is-read bytes s is short) ∙ is-fault bytes f fault in absurd cc

-- a file with a solved form is not refused
solved_not_unsolved : (bytes : List ℕ) (s : SystemRead) (rs : List SolvedEquation) (kind : NotKind) (k : ℕ) → IsSolvedFile bytes s rs → IsUnsolvedFile bytes kind k → ⊥
solved_not_unsolved bytes s rs kind k h u =
    let same : s ≡ u.system = one_system bytes s u.system h.file u.file in
    refused_has_no_form degree_rank degree_rank_is_ranking u.system.space (file_has_space bytes u.system u.file) u.system.equations rs (subst (λ (v : SystemRead). IsSolvedForm v.space v.equations rs) same h.form) kind k u.refused

pub solved_not_refused : (bytes : List ℕ) (s : SystemRead) (rs : List SolvedEquation) (refusal : Refusal) → IsSolvedFile bytes s rs → IsFileRefusal bytes refusal → ⊥
solved_not_refused bytes s rs refusal h (bad_file b fault) = file_has_no_fault bytes s (reads.Bad b) h.file h.short fault
solved_not_refused bytes s rs refusal h (unsolved j l u) = solved_not_unsolved bytes s rs j l h u

one_unsolved : (bytes : List ℕ) (i j : NotKind) (k l : ℕ) → IsUnsolvedFile bytes i k → IsUnsolvedFile bytes j l → Not i k ≡ Not j l
one_unsolved bytes i j k l h g =
    let same : g.system ≡ h.system = one_system bytes g.system h.system g.file h.file in
    let one = refusal_is_one degree_rank degree_rank_is_ranking h.system.space (file_has_space bytes h.system h.file) h.system.equations i j k l h.refused (subst (λ (v : SystemRead). IsRefused v.space v.equations j l) same g.refused) in
    ap₂ Not one.0 one.1

bad_of : ReadFail → Refusal → Refusal
bad_of (reads.Bad bad) other = Bad File bad
bad_of reads.NoMemory other = other

-- a file is refused for one cause at most
one_refusal : (bytes : List ℕ) (r q : Refusal) → IsFileRefusal bytes r → IsFileRefusal bytes q → r ≡ q
unfolding bad_of
one_refusal bytes r q (bad_file a h) (bad_file b g) = ap (λ f. bad_of f (Bad File a)) (one_fault bytes (reads.Bad a) (reads.Bad b) h g)
one_refusal bytes r q (bad_file a h) (unsolved j l g) = absurd (file_has_no_fault bytes g.system (reads.Bad a) g.file g.short h)
one_refusal bytes r q (unsolved i k h) (bad_file b g) = absurd (file_has_no_fault bytes h.system (reads.Bad b) h.file h.short g)
one_refusal bytes r q (unsolved i k h) (unsolved j l g) = one_unsolved bytes i j k l h g

is_answer : (bytes : List ℕ) (r q : Refusal) → IsFileRefusal bytes q → r ≡ q → IsAnswer (Refused q) (Refused r)
is_answer bytes r q (bad_file b g) e = ap Refused e
is_answer bytes r q (unsolved j l g) e = ap Refused e

-- where a refusal of the file is due, the one that is found is the answer
pub file_answer : (bytes : List ℕ) (found due : Refusal) → IsFileRefusal bytes found → IsFileRefusal bytes due → IsAnswer (Refused due) (Refused found)
file_answer bytes found due h g = is_answer bytes found due g (one_refusal bytes found due h g)

-- ---- one system and one solved form
pub same_system : (bytes : List ℕ) (s t : SystemRead) (rs qs : List SolvedEquation) → IsSolvedFile bytes s rs → IsSolvedFile bytes t qs → s ≡ t
same_system bytes s t rs qs h g = one_system bytes s t h.file g.file

pub same_rules : (bytes : List ℕ) (s t : SystemRead) (rs qs : List SolvedEquation) → IsSolvedFile bytes s rs → IsSolvedFile bytes t qs → rs ≡ qs
same_rules bytes s t rs qs h g =
    solved_form_is_one degree_rank degree_rank_is_ranking t.space (file_has_space bytes t g.file) t.equations rs qs (subst (λ (v : SystemRead). IsSolvedForm v.space v.equations rs) (same_system bytes s t rs qs h g) h.form) g.form

-- what is so of them is so of any that the file has
pub moved : (bytes : List ℕ) (s t : SystemRead) (rs qs : List SolvedEquation) (P : SystemRead → List SolvedEquation → Type 0) → IsSolvedFile bytes s rs → IsSolvedFile bytes t qs → P s rs → P t qs
moved bytes s t rs qs P h g p = subst (P t) (same_rules bytes s t rs qs h g) (subst (λ v. P v rs) (same_system bytes s t rs qs h g) p)
