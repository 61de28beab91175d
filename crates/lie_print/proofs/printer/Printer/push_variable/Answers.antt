-- A variable is an independent one, a jet, or past those that have a text.
use Rattle.std.proofs.Common.{◌≤◌, arith, sym, inl, inr}
use Rattle.std.proofs.lemmas.List.{append-nil}
use Rattle.lie_geometry.specs.Coordinates.{coordinates_up_to}
use Rattle.lie_print.proofs.PrintedVariables.{independent_text, jet_text, no_text}
use Rattle.lie_print.proofs.printer.Printer.push_variable.Goals as goal

pub returns-then-variable-from : goal.returns-then-variable-from
returns-then-variable-from c = rw (independent_text c.args.self.now.space c.args.self.now.names.now c.args.variable (let p = c.self.view_is in let f = c.from.ensures in let t = c.if-variable-from.true in grind arith)) c.push_name.ensures

pub returns-in-Some : goal.returns-in-Some
returns-in-Some c = rw (jet_text c.args.self.now.space c.args.self.now.names.now c.args.variable c.in-Some.jet c.in-Some.ensures.small c.in-Some.ensures.jet.0 c.in-Some.ensures.jet.1) c.push_jet.ensures

pub returns-in-None : goal.returns-in-None
returns-in-None c =
    let high : coordinates_up_to c.args.self.now.space 12 ≤ c.args.variable = elim c.in-None.ensures.jet [ inl low ↦ (let p = c.self.view_is in let f = c.from.ensures in let t = c.if-variable-from.false in absurd (grind arith)) | inr high ↦ high ] in
    rw (no_text c.args.self.now.space c.args.self.now.names.now c.args.variable high) (sym (append-nil c.args.text.now.items))
