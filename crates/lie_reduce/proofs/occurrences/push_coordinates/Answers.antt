use Rattle.std.proofs.Common.{List, ℕ, ◌++◌, ◌∷◌, [], arith, ap, ap₂, ◌∙◌, append_assoc}
use Rattle.lie_math.specs.Monomial.{Monomial}
use Rattle.lie_jet.proofs.TotalParts.{listed_terms}
use Rattle.lie_jet.proofs.TotalSteps.{on_ok}
use Rattle.lie_solved.specs.Equations.{variables_of}
use Rattle.lie_reduce.specs.Applications.{lead_number}
use Rattle.lie_reduce.proofs.occurrences.push_coordinates.Goals as goal
use Rattle.std.specs.Prelude.{ℤ}

pub jet_number-requires : goal.jet_number-requires
jet_number-requires c =
    let j = c.requires in
    record { space = j.space; dependent = j.dependent; four = j.four; rest = j.rest; low = (let l = j.low in omega arith) }

pub returns : goal.returns
returns c =
    let S = c.args.space in
    let r = c.args.rule.now in
    on_ok c.push_variables.result (λ h. h ∙ ap₂ (λ (ns : List ℕ) (ts : List (Monomial × ℤ)). ns ++ variables_of ts) (c.in_ok-push.ensures.items ∙ ap (λ n. c.args.numbers.now.items ++ n ∷ []) c.jet_number.ensures.number)
    (listed_terms r.right c.as_slice.result.now c.in_ok-terms.terms.items c.as_slice.ensures.value c.in_ok-terms.ensures)
    ∙ append_assoc c.args.numbers.now.items (lead_number S r ∷ []) (variables_of (r.right).list)) c.push_variables.ensures
