use Rattle.std.proofs.Common.{◌≡◌, take, map}
use Rattle.std.specs.List.{AllByRecursion as Every}
use Rattle.lie_math.specs.Limits.{IsWithinLimits}
use Rattle.lie_form.specs.DerivativeTerms.{derivative_terms}
use Rattle.lie_lin.specs.Systems.{unknown_of}
use Rattle.lie_normal.specs.Orders.{Entry}
use Rattle.lie_replace.specs.Replacing.{lasting_part, lasting_entries}
use Rattle.lie_replace.proofs.lasting.lasting_terms.Given as goal

abbrev pub invariant-loop-term : goal.invariant-loop-term
invariant-loop-term l = record {
  kept : derivative_terms l.kept.items ≡ lasting_entries (map unknown_of l.unknowns) l.vars (take l.term-index (derivative_terms l.terms));
  within : Every (λ (e : Entry). IsWithinLimits (lasting_part (map unknown_of l.unknowns) l.vars (e.0).unknown e.1)) (take l.term-index (derivative_terms l.terms));
}
