use Rattle.std.proofs.Common.{◌≤◌, ◌<◌, ◌-◌, ◌^◌, sym, length, remove, arith}
use Rattle.std.proofs.lemmas.List.Edits.{length-remove}
use Rattle.lie_tables.proofs.Following.{follows_same}
use Rattle.lie_replace.proofs.CleaningSteps.{restored}
use Rattle.lie_replace.proofs.cleaning.follow.Goals as goal

pub returns-in-Ok-clause-indexed : goal.returns-in-Ok-clause-indexed
returns-in-Ok-clause-indexed c =
    let es = c.args.equations.now.items in
    let i = c.args.place in
    let l = length-remove es i c.requires.place in
    let within : i ≤ length (remove es i) = omega (arith, l, c.requires.place) in
    let few : length (remove es i) < 2 ^ 64 - 1 =
    omega (arith, l, c.args.equations.now.ok.0, c.args.equations.now.ok.1, c.args.equations.now.small) in
    follows_same c.args.tables.now c.insert.new.self _ _ (restored es i c.index.result.now c.requires.place c.index.ensures)
    (c.in-Ok.ensures.put (remove es i) c.requires.indexed within few)

pub returns-in-Err-clause-indexed : goal.returns-in-Err-clause-indexed
returns-in-Err-clause-indexed c =
    let es = c.args.equations.now.items in
    let i = c.args.place in
    let l = length-remove es i c.requires.place in
    let within : i ≤ length (remove es i) = omega (arith, l, c.requires.place) in
    let few : length (remove es i) < 2 ^ 64 - 1 =
    omega (arith, l, c.args.equations.now.ok.0, c.args.equations.now.ok.1, c.args.equations.now.small) in
    follows_same c.args.tables.now c.insert.new.self _ _ (sym c.remove.ensures.items)
    (c.in-Err.ensures.kept (remove es i) c.requires.indexed within few)
