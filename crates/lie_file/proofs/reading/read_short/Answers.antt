use Rattle.std.specs.Prelude.{List, ℕ, map}
use Rattle.std.proofs.Common.{Bor, sym, subst}
use Rattle.lie_file.specs.FileLines.{AreShort}
use Rattle.lie_file.proofs.ShortLines.{text_short}
use Rattle.lie_file.proofs.reading.read_short.Goals as goal

pub read_lines-requires-clause-short : goal.read_lines-requires-clause-short
read_lines-requires-clause-short c =
    subst (λ (ls : List (Bor (List ℕ))). AreShort (map (λ l. l.now) ls)) (sym c.as_slice.ensures.value)
    (subst AreShort (sym c.in_ok-lines-in-None.ensures.lines) (text_short c.args.bytes.now c.requires))
