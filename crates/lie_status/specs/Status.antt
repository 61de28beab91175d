-- The exit codes of statuses, and their lines on the error stream.
use Rattle.std.specs.Prelude.{ℕ, List, [], ◌++◌, codes, decimal}
use Rattle.lie_ring.specs.declared.failures.PastKind.{PastKind}
use Rattle.lie_ring.specs.declared.failures.PastKind.TheVariants as pasts
use Rattle.lie_scan.specs.declared.fault.BadKind.{BadKind}
use Rattle.lie_scan.specs.declared.fault.BadKind.TheVariants.{TooLong, NotAscii, Header, UnknownWord, NameBad, NameTwice}
use Rattle.lie_scan.specs.declared.fault.BadKind.TheVariants.{UnknownName, Number, Exponent, Order, TooManyNames}
use Rattle.lie_scan.specs.declared.fault.BadKind.TheVariants.{TooManyEquations, Syntax, EndMissing}
use Rattle.lie_scan.specs.declared.fault.BadFile.{BadFile}
use Rattle.lie_solved.specs.declared.solved.NotKind.{NotKind}
use Rattle.lie_solved.specs.declared.solved.NotKind.TheVariants.{NoDerivative, LeadNotLinear, LeadRepeated, LeadInside}
use Rattle.lie_work.specs.declared.source.Source.{Source}
use Rattle.lie_work.specs.declared.source.Source.TheVariants.{File, Field}
use Rattle.lie_status.specs.declared.status.Status.{Status}
use Rattle.lie_status.specs.declared.status.Status.TheVariants.{Done, Usage, Bad, Not, Past, Spent, NoMemory, ReadFault, WriteFault}
use Rattle.lie_status.specs.declared.status.Status.TheVariants.{KeeperFault, LinkFault, Missing, Taken, Full}

abbrev pub code_of : Status → ℕ
code_of Done = 0
code_of Usage = 2
code_of (Bad source bad) = 3
code_of (Not kind k) = 4
code_of (Past step what) = 5
code_of (Spent steps) = 6
code_of NoMemory = 7
code_of ReadFault = 8
code_of WriteFault = 9
code_of KeeperFault = 10
code_of LinkFault = 11
code_of Missing = 12
code_of (Taken text) = 13
code_of Full = 14

-- ---- names
abbrev pub bad_text : BadKind → List ℕ
bad_text TooLong = codes "TooLong"
bad_text NotAscii = codes "NotAscii"
bad_text Header = codes "Header"
bad_text UnknownWord = codes "UnknownWord"
bad_text NameBad = codes "NameBad"
bad_text NameTwice = codes "NameTwice"
bad_text UnknownName = codes "UnknownName"
bad_text Number = codes "Number"
bad_text Exponent = codes "Exponent"
bad_text Order = codes "Order"
bad_text TooManyNames = codes "TooManyNames"
bad_text TooManyEquations = codes "TooManyEquations"
bad_text Syntax = codes "Syntax"
bad_text EndMissing = codes "EndMissing"

abbrev pub not_text : NotKind → List ℕ
not_text NoDerivative = codes "NoDerivative"
not_text LeadNotLinear = codes "LeadNotLinear"
not_text LeadRepeated = codes "LeadRepeated"
not_text LeadInside = codes "LeadInside"

abbrev pub past_text : PastKind → List ℕ
past_text pasts.Coefficient = codes "Coefficient"
past_text pasts.Exponent = codes "Exponent"
past_text pasts.Terms = codes "Terms"
past_text pasts.Order = codes "Order"
past_text pasts.Unknowns = codes "Unknowns"
past_text pasts.Width = codes "Width"

-- ---- lines
abbrev pub start_of : Source → List ℕ
start_of File = codes "lie: file: "
start_of Field = codes "lie: field: "

-- the first fault of a text, with its place
abbrev pub fault_line : Source → BadFile → List ℕ
fault_line source bad =
    start_of source ++ bad_text bad.kind ++ codes " at " ++ decimal bad.line ++ codes ":" ++ decimal bad.column ++ codes "\n"

abbrev pub not_line : NotKind → ℕ → List ℕ
not_line kind k = codes "lie: not solved: " ++ not_text kind ++ codes " in equation " ++ decimal k ++ codes "\n"

abbrev pub past_line : PastKind → ℕ → List ℕ
past_line kind step = codes "lie: past " ++ past_text kind ++ codes " at step " ++ decimal step ++ codes "\n"

abbrev pub spent_line : ℕ → List ℕ
spent_line steps = codes "lie: spent " ++ decimal steps ++ codes " steps\n"

-- the line on the error stream
abbrev pub line_of : Status → List ℕ
line_of Done = []
line_of Usage = codes "lie: usage\n"
line_of (Bad source bad) = fault_line source bad
line_of (Not kind k) = not_line kind k
line_of (Past step what) = past_line what step
line_of (Spent steps) = spent_line steps
line_of NoMemory = codes "lie: no memory\n"
line_of ReadFault = codes "lie: read fault\n"
line_of WriteFault = codes "lie: write fault\n"
line_of KeeperFault = codes "lie: keeper fault\n"
line_of LinkFault = codes "lie: link fault\n"
line_of Missing = codes "lie: missing\n"
line_of (Taken text) = codes "lie: taken\n"
line_of Full = codes "lie: full\n"
