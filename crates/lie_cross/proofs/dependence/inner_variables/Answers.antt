use Rattle.std.proofs.Common.{◌≡◌, ◌<◌, ◌+◌, ◌∙◌, ℕ, false, sym, subst, map, length, get_or, set, arith}
use Rattle.std.proofs.lemmas.List.{length-set}
use Rattle.std.specs.List.{list_any}
use Rattle.lie_math.specs.Counts.{Derivative}
use Rattle.lie_math.specs.Polynomial.{WholePolynomial}
use Rattle.lie_lin.specs.Systems.{unknown_of}
use Rattle.lie_steps.specs.Equations.{depends}
use Rattle.lie_cross.proofs.DependentUnknowns.{any_says, inside_of}
use Rattle.lie_parts.proofs.FilledPlaces.{set_more}
use Rattle.lie_cross.proofs.dependence.inner_variables.Goals as goal

pub loop-var-preserved : goal.loop-var-preserved
loop-var-preserved c =
    let us = map unknown_of c.args.unknowns.now in
    let eight : length c.loop-var.inside ≡ 8 = c.loop-var.invariant.places in
    let lt : c.loop-var.var < length c.loop-var.inside = omega (arith, eight, c.loop-var-test.true) in
    let same = subst (λ (k : ℕ). (v : ℕ) → v < c.loop-var.var + 1
    → get_or (set c.loop-var.inside k c.some_is.result) v false
    ≡ list_any (λ (e : Derivative × WholePolynomial). depends us (e.0).unknown v) c.args.form.now.list)
    (sym c.from.ensures)
    (set_more
    (λ v. list_any
    (λ (e : Derivative × WholePolynomial). depends us
    (e.0).unknown v) c.args.form.now.list) false c.loop-var.inside c.loop-var.var c.some_is.result
    lt c.loop-var.invariant.same
    (any_says
    (λ (e : Derivative × WholePolynomial). depends us
    (e.0).unknown c.loop-var.var) c.args.form.now.list c.some_is.result c.some_is.ensures)) in
    record { places = length-set c.loop-var.inside c.from.result c.some_is.result ∙ eight; same = same }

pub returns : goal.returns
returns c =
    let eight : length c.loop-var.inside ≡ 8 = c.loop-var.invariant.places in
    inside_of c.args.unknowns.now c.args.form.now.list c.loop-var.inside c.loop-var.var eight c.loop-var-test.false
    c.loop-var.invariant.same
