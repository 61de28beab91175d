use Rattle.std.proofs.Common.{◌≤◌, ◌+◌, ap, map, subst, sym, arith}
use Rattle.lie_geometry.specs.Coordinates.{Space}
use Rattle.lie_lin.specs.Systems.{unknown_of}
use Rattle.lie_jet.proofs.TotalParts.{if_ok}
use Rattle.lie_rules.specs.Solutions.{IsFormIn}
use Rattle.lie_integral.proofs.ExactAnswers.{option_weaker}
use Rattle.lie_rules.proofs.SolvedSteps.{equation_in}
use Rattle.lie_rules.proofs.SubstituteSteps.{no_substitution, is_substitution}
use Rattle.lie_rules.proofs.substitute.solved_at.Goals as goal

pub solved_for_greatest-requires : goal.solved_for_greatest-requires
solved_for_greatest-requires c =
    let p = ap (λ (s : Space). s.p) c.space.ensures.space in
    let q = ap (λ (s : Space). s.q) c.space.ensures.space in
    let few_p = c.space_is_small.ensures.few_p in
    let few_q = c.space_is_small.ensures.few_q in
    let le : c.args.system.now.space.p + c.args.system.now.space.q ≤ 8 = omega arith in
    subst (λ us. IsFormIn us c.equation_at.result.now) (sym c.unknowns.ensures)
    (equation_in (c.args.system.now.space.p + c.args.system.now.space.q) c.args.system.now.system c.equation_at.result.now
    c.system_is_valid.ensures.valid le c.equation_at.ensures.form)

pub returns : goal.returns
returns c =
    if_ok c.solved_for_greatest.result
    (λ found h. option_weaker found
    (no_substitution c.args.system.now.system c.args.place
    (map unknown_of c.unknowns.result.now) c.equation_at.result.now c.unknowns.ensures c.equation_at.ensures.equation)
    (is_substitution c.args.system.now.system c.args.place
    (map unknown_of c.unknowns.result.now) c.equation_at.result.now c.unknowns.ensures c.equation_at.ensures.equation c.requires) h)
    c.solved_for_greatest.ensures
