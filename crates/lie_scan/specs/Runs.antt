-- Runs of bytes of one class.
use Rattle.std.specs.Prelude.{ℕ, Bool, true, false, ◌&&◌, ◌||◌, ◌==◌, nat_le, List, [], ◌∷◌, if◌then◌else◌}
use Rattle.lie_scan.specs.declared.runs.Class.{Class}
use Rattle.lie_scan.specs.declared.runs.Class.TheVariants.{Blank, Letter, Digit, Word, Content}

-- the byte is in the class: blanks are the space and the tab; the content of a line ends before `#` and its end
abbrev pub is_in : Class → ℕ → Bool
is_in Blank b = b == 32 || b == 9
is_in Letter b = nat_le 97 b && nat_le b 122
is_in Digit b = nat_le 48 b && nat_le b 57
is_in Word b = if b == 32 || b == 9 then false else true
is_in Content b = if b == 35 || b == 13 then false else true

-- the bytes in front that are in the class
abbrev pub run : Class → List ℕ → List ℕ
run c [] = []
run c (b ∷ bs) = if is_in c b then b ∷ run c bs else []

-- the bytes behind those
abbrev pub behind : Class → List ℕ → List ℕ
behind c [] = []
behind c (b ∷ bs) = if is_in c b then behind c bs else b ∷ bs

-- the bytes behind the blanks in front
abbrev pub after_blanks : List ℕ → List ℕ
after_blanks bytes = behind Blank bytes
