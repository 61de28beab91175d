-- The work that makes the reduced basis of a system, and where it is past a limit.
use Rattle.std.specs.Prelude.{◌≡◌, ◌⊎◌, List, length}
use Rattle.lie_math.specs.LinearSystem.{LinearSystem}
use Rattle.lie_systems.specs.Works.{Made, ABasis, OnCoefficients, OnWidth, IsWorkWithin, IsWorkPast}
use Rattle.lie_ring.specs.declared.failures.PastKind.{PastKind}
use Rattle.lie_ring.specs.declared.failures.PastKind.TheVariants.{Coefficient, Width}
use Rattle.lie_ring.specs.declared.failures.PolyFail.{PolyFail}
use Rattle.lie_ring.specs.declared.failures.PolyFail.TheVariants.{Past, NoMemory}
use Rattle.lie_spans.specs.Bulks.{BasisMakes}
use Rattle.lie_spans.specs.Fields.{Column}
use Rattle.lie_algebra.specs.GeneralColumns.{AreGeneralColumns, unknown_rows}

-- the first action: a basis of so many unknowns and columns
abbrev pub WidthMakes : LinearSystem → Made → Type 0
WidthMakes S b = (ks : List Column) × AreGeneralColumns S ks × (b ≡ ABasis (length S.unknowns) (length ks))

-- then the eliminations of the rows of the unknowns
abbrev pub EliminationMakes : LinearSystem → Made → Type 0
EliminationMakes S b = (ks : List Column) × AreGeneralColumns S ks × BasisMakes (length ks) (unknown_rows ks S) b

-- no action is past a limit
pub record IsBasisWithin (S : LinearSystem) : Type 0 where
  pub width : IsWorkWithin (WidthMakes S)
  pub numbers : IsWorkWithin (EliminationMakes S)

-- the basis is past this limit; the width goes before the numbers, and no other limit is passed
abbrev pub IsBasisPast : LinearSystem → PastKind → Type 0
IsBasisPast S Width = IsWorkPast (WidthMakes S) OnWidth
IsBasisPast S Coefficient = IsWorkWithin (WidthMakes S) × IsWorkPast (EliminationMakes S) OnCoefficients
IsBasisPast S kind = ⊥

-- the answer is for want of memory, or tells the limit that the basis is past
abbrev pub IsBasisCause : PolyFail → LinearSystem → Type 0
IsBasisCause (Past kind) S = IsBasisPast S kind
IsBasisCause NoMemory S = Unit {0}

-- one outcome holds, and no two: the basis is within the limits, or past one of them
pub record BasisOutcome : Type 0 where
  pub one : (S : LinearSystem) → IsBasisWithin S ⊎ ((kind : PastKind) × IsBasisPast S kind)
  pub not_both : (S : LinearSystem) (kind : PastKind) → IsBasisWithin S → ¬ (IsBasisPast S kind)
  pub one_limit : (S : LinearSystem) (j k : PastKind) → IsBasisPast S j → IsBasisPast S k → j ≡ k
