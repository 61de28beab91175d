-- What an analysis tells are the symmetries.
use Rattle.std.specs.Prelude.{ℕ, ◌+◌, ◌↔◌, List, Option, Some, None}
use Rattle.std.proofs.Common.{sym, subst}
use Rattle.lie_math.specs.LinearSystem.{LinearSystem, Gives}
use Rattle.lie_math.specs.VectorField.{VectorField}
use Rattle.lie_geometry.specs.CoordinateLaws.{IsSpace}
use Rattle.lie_geometry.specs.Coordinates.{Space}
use Rattle.lie_geometry.specs.Invariance.{IsFieldOn, IsInvariant}
use Rattle.lie_geometry.specs.SolvedEquations.{SolvedEquation, IsSolved}
use Rattle.lie_spans.specs.ClosedSystems.{closed_system}
use Rattle.lie_spans.specs.Fields.{IsFieldIn, IsFieldBasis}
use Rattle.lie_spans.proofs.FieldBasis.{field_basis_of_same}
use Rattle.lie_steps.specs.Laws.{HaveSameFields, RunKeeps, FiniteIsStuck}
use Rattle.lie_steps.specs.Rules.{IsStuck}
use Rattle.lie_steps.specs.Runs.{IsFinite}
use Rattle.lie_determining.specs.Laws.{OpeningIsValid, OpeningGivesInvariant}
use Rattle.lie_algebra.specs.Laws.{ClosedFormGivesSameFields}
use Rattle.lie_brackets.specs.Laws.{FieldInIsFieldOn, InvariantBasisIsClosed}
use Rattle.lie_brackets.specs.Tables.{IsClosed}
use Rattle.lie_report.specs.Reports.{Found}
use Rattle.lie_analysis.specs.Analyses.{OpeningEnds, IsToldOf}
use Rattle.lie_analysis.specs.Laws.{AnalysisIsSymmetries, EndBasisIsClosed}
use Rattle.lie_analysis.specs.Symmetries.{IsAlgebra, IsSymmetries}

-- ---- where the opening system gives the invariant fields, and the last one the same
module _ (S : Space) (rs : List SolvedEquation) (opening last : LinearSystem)
    (meaning : (V : VectorField) → IsFieldOn S V → IsInvariant S rs V ↔ Gives opening V) (kept : HaveSameFields opening last)
    (on_space : FieldInIsFieldOn) where
  says : (V : VectorField) → IsFieldOn S V → IsInvariant S rs V ↔ Gives last V
  says V on = let a = meaning V on in let b = kept V in (λ x. b.0 (a.0 x), λ x. a.1 (b.1 x))

  given_is_invariant : (V : VectorField) → IsFieldIn (S.p + S.q) V → Gives last V ↔ IsInvariant S rs V
  given_is_invariant V h = let a = says V ((on_space S V).0 h) in (a.1, a.0)

  invariant_basis : (Vs : List VectorField) → IsFieldBasis (S.p + S.q) (Gives last) Vs → IsFieldBasis (S.p + S.q) (IsInvariant S rs) Vs
  invariant_basis Vs h = field_basis_of_same (S.p + S.q) (Gives last) (IsInvariant S rs) Vs given_is_invariant h

  -- the reduced basis of the fields that it gives is closed under the bracket
  basis_is_closed : InvariantBasisIsClosed → IsSpace S → IsSolved rs → (Vs : List VectorField)
      → IsFieldBasis (S.p + S.q) (Gives last) Vs → IsClosed S Vs
  basis_is_closed closed space solved Vs h = closed S space rs solved Vs (invariant_basis Vs h)

  module _ (stuck : IsStuck last) (same : ClosedFormGivesSameFields) (finite : (n : ℕ) (Vs : List VectorField) → IsFinite (closed_system n Vs))
      (is_stuck : FiniteIsStuck) where
    closed_symmetries : (B : Found) → IsAlgebra S (Gives last) B → IsSymmetries S rs (closed_system (S.p + S.q) B.fields) (Some B)
    closed_symmetries B h = record {
      fields = λ V on.
          (let a = says V on in
          let b = same (S.p + S.q) last B.fields h.basis V ((on_space S V).1 on) in
          (λ x. b.1 (a.0 x), λ x. a.1 (b.0 x)));
      stuck = is_stuck (closed_system (S.p + S.q) B.fields) (finite (S.p + S.q) B.fields);
      algebra = (finite (S.p + S.q) B.fields, record { basis = invariant_basis B.fields h.basis; table = h.table });
    }

    told_symmetries : (T : LinearSystem) (found : Option Found) → IsToldOf S last T found → IsSymmetries S rs T found
    told_symmetries T None h =
        subst (λ U. IsSymmetries S rs U None) (sym h.1) (record { fields = says; stuck = stuck; algebra = h.0 })
    told_symmetries T (Some B) h = subst (λ U. IsSymmetries S rs U (Some B)) (sym h.1) (closed_symmetries B h.2)

-- ---- the laws
-- an opening system and the end of its run give the same fields
kept : OpeningIsValid → RunKeeps → (S : Space) → IsSpace S → (rs : List SolvedEquation) (n : ℕ) (U : LinearSystem)
    → (e : OpeningEnds S rs n U) → HaveSameFields e.opening U
kept valid keeps S space rs n U e = (keeps (S.p + S.q) n e.opening U (valid S space rs e.opening e.opened) (e.ends).run).1

module _ (valid : OpeningIsValid) (gives : OpeningGivesInvariant) (keeps : RunKeeps) (on_space : FieldInIsFieldOn) where
  pub end_basis_is_closed : InvariantBasisIsClosed → EndBasisIsClosed
  end_basis_is_closed closed S space rs solved high n U e Vs h =
      basis_is_closed S rs e.opening U (gives S space rs solved high e.opening e.opened) (kept valid keeps S space rs n U e) on_space
      closed space solved Vs h

  pub analysis_is_symmetries : ClosedFormGivesSameFields → ((n : ℕ) (Vs : List VectorField) → IsFinite (closed_system n Vs)) → FiniteIsStuck
      → AnalysisIsSymmetries
  analysis_is_symmetries same finite is_stuck S space rs solved high n T found h =
      let e = h.ends in
      told_symmetries S rs e.opening h.last (gives S space rs solved high e.opening e.opened) (kept valid keeps S space rs n h.last e)
      on_space (e.ends).stuck same finite is_stuck T found h.told
