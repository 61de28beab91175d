use Rattle.std.specs.Prelude.{List, map, length, ◌≤◌, ℕ}
use Rattle.std.specs.List.{AllByRecursion as Every}
use Rattle.std.proofs.Common.{sym, subst}
use Rattle.lie_system.specs.Equations.{equation_read}
use Rattle.lie_system.specs.KeptSystems.{system_read}
use Rattle.lie_canonical.specs.RightSides.{IsPrintable}
use Rattle.lie_system.specs.declared.equation.Equation.{Equation}
use Rattle.lie_system.proofs.KeptEquations.{system_written}
use Rattle.lie_canonical.proofs.PrintableEquations.{system_printable}
use Rattle.lie_canonical.proofs.canonical_text.canonical_bytes.Goals as goal

pub push_header-requires : goal.push_header-requires
push_header-requires c = subst (λ (l : List ℕ). c.args.system.now.space.p ≤ length l) (sym c.bytes-names.ensures) (system_printable (system_read c.args.system.now) (system_written c.args.system.now)).0

pub push_equations-requires : goal.push_equations-requires
push_equations-requires c =
    subst (λ (l : List Equation). Every (IsPrintable c.args.system.now.space) (map (equation_read c.args.system.now.space) l)) (sym c.as_slice.ensures.value) (system_printable (system_read c.args.system.now) (system_written c.args.system.now)).1
