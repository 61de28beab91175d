-- Systems as they are kept.
use Rattle.std.specs.Prelude.{map}
use Rattle.lie_system.specs.declared.system.System.{System}
use Rattle.lie_system.specs.Equations.{equation_read}
use Rattle.lie_system.specs.Systems.{SystemRead}

abbrev pub system_read : System → SystemRead
system_read s = record { space = s.space; names = s.names; equations = map (equation_read s.space) s.equations.items }
