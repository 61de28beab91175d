-- A fault with its place.
use Rattle.std.specs.Prelude.{ℕ, min}
use Rattle.lie_scan.specs.declared.fault.BadKind.{BadKind}
use Rattle.lie_scan.specs.declared.fault.ReadFail.{ReadFail}
use Rattle.lie_scan.specs.declared.fault.ReadFail.TheVariants as reads

-- a fault at a line and a column, as 32 bits hold them
abbrev pub bad : ℕ → ℕ → BadKind → ReadFail
bad line column kind = reads.Bad (record { line = min line 4294967295; column = min column 4294967295; kind = kind })
