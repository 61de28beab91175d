use Rattle.std.specs.Prelude.{List, ℕ, length, ◌≤◌}
use Rattle.std.proofs.Common.{sym, subst}
use Rattle.lie_file.proofs.ShortLines.{behind_word_short}
use Rattle.lie_file.proofs.equations.line_of.Goals as goal

pub equation_at-requires-clause-short : goal.equation_at-requires-clause-short
equation_at-requires-clause-short c = subst (λ (l : List ℕ). length l ≤ 65536) (sym c.behind_word.ensures) (behind_word_short c.args.content.now c.requires.short)
