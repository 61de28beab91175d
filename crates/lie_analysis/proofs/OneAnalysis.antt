-- Equations have one analysis at most.
use Rattle.std.specs.Prelude.{◌≡◌, ◌+◌, Option, Some, None}
use Rattle.std.proofs.Common.{refl, sym, ap, subst, ◌∙◌}
use Rattle.lie_math.specs.LinearSystem.{LinearSystem}
use Rattle.lie_geometry.specs.Coordinates.{Space}
use Rattle.lie_spans.specs.ClosedSystems.{closed_system}
use Rattle.lie_steps.specs.Laws.{RunEndsOnce}
use Rattle.lie_determining.specs.Laws.{OpeningIsUnique, OpeningIsValid}
use Rattle.lie_algebra.specs.Laws.{SystemBasisIsUnique}
use Rattle.lie_brackets.specs.Laws.{TableIsUnique}
use Rattle.lie_brackets.specs.Tables.{IsTable}
use Rattle.lie_report.specs.Reports.{Found}
use Rattle.lie_analysis.specs.Analyses.{IsToldOf}
use Rattle.lie_analysis.specs.Laws.{AnalysisIsUnique}
use Rattle.lie_analysis.proofs.WorkSteps.{ends_at}

-- of one system one thing is told
module _ (basis : SystemBasisIsUnique) (table : TableIsUnique) (S : Space) (last : LinearSystem) where
  one_algebra : (B C : Found) (T U : LinearSystem) → IsToldOf S last T (Some B) → IsToldOf S last U (Some C) → B ≡ C
  one_algebra B C T U h g =
      let fields : B.fields ≡ C.fields = basis (S.p + S.q) last B.fields C.fields h.2.basis g.2.basis in
      let entries : B.table ≡ C.table =
      table S B.fields h.2.basis.reduced B.table C.table h.2.table (subst (λ Vs. IsTable S Vs C.table) (sym fields) g.2.table) in
      λ i. record { fields = fields i; table = entries i }

  one_told : (T U : LinearSystem) (found other : Option Found) → IsToldOf S last T found → IsToldOf S last U other
      → (T ≡ U) × (found ≡ other)
  one_told T U None None h g = (h.1 ∙ sym g.1, refl)
  one_told T U None (Some C) h g = absurd (h.0 g.0)
  one_told T U (Some B) None h g = absurd (g.0 h.0)
  one_told T U (Some B) (Some C) h g =
      let same = one_algebra B C T U h g in
      (h.1 ∙ ap (λ (A : Found). closed_system (S.p + S.q) A.fields) same ∙ sym g.1, ap Some same)

pub analysis_is_unique : OpeningIsUnique → OpeningIsValid → RunEndsOnce → SystemBasisIsUnique → TableIsUnique → AnalysisIsUnique
analysis_is_unique unique valid once basis table S space rs n k T U found other h g =
    let e = h.ends in
    let ends = ends_at S rs unique once e.opening e.opened (valid S space rs e.opening e.opened) n k h.last g.last e.ends g.ends in
    let same = one_told basis table S h.last T U found other h.told (subst (λ X. IsToldOf S X U other) (sym ends.1) g.told) in
    (ends.0, same.0, same.1)
