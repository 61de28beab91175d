use Rattle.std.proofs.Common.{◌≡◌, ◌+◌, ◌∙◌, sym, ap, subst, arith, length, List}
use Rattle.std.specs.Prelude.{insert, remove}
use Rattle.lie_math.specs.LinearForm.{LinearForm}
use Rattle.lie_lin.specs.EquationLists.{HasAlso}
use Rattle.lie_lin.proofs.EquationPlaces.{also_behind, also_before}
use Rattle.lie_lin.proofs.equations.exchange.Goals as goal

pub returns-then-goal-place-clause-put : goal.returns-then-goal-place-clause-put
returns-then-goal-place-clause-put c =
    let is : c.insert.new.self.items ≡ insert c.args.equations.now.items c.args.goal c.args.eq = c.in_ok-insert.ensures.items in
    subst (HasAlso c.args.eq (remove c.args.equations.now.items c.args.place)) (sym (c.remove.ensures.items ∙ ap (λ (xs : List LinearForm). remove xs (c.args.place + 1)) is))
    (also_behind c.args.equations.now.items c.args.eq c.args.goal c.args.place c.requires.ordered c.requires.goal c.requires.place (let n = ap length is in let k = c.in_ok-insert.ensures.len in omega arith) (omega arith))

pub returns-else-goal-place-clause-put : goal.returns-else-goal-place-clause-put
returns-else-goal-place-clause-put c =
    let is : c.insert.new.self.items ≡ insert c.args.equations.now.items c.args.goal c.args.eq = c.in_ok-insert.ensures.items in
    subst (HasAlso c.args.eq (remove c.args.equations.now.items c.args.place)) (sym (c.remove-else-goal-place.ensures.items ∙ ap (λ (xs : List LinearForm). remove xs c.args.place) is))
    (also_before c.args.equations.now.items c.args.eq c.args.goal c.args.place c.requires.ordered c.requires.goal c.requires.place (let n = ap length is in let k = c.in_ok-insert.ensures.len in omega arith) (omega arith))
