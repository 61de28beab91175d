-- The sum grows by a term in each turn.
use Rattle.std.specs.Prelude.{◌+◌, ◌-◌, ◌++◌, codes}
use Rattle.std.proofs.Common.{sym, ap, ◌∙◌, append_assoc}
use Rattle.lie_sample.specs.Family.{family_sum, family_term}
use Rattle.lie_sample.proofs.FamilySums.{sum_start, sum_more}
use Rattle.lie_sample.proofs.family.push_sum.Goals as goal

pub loop-j-init : goal.loop-j-init
loop-j-init c = rw (sum_start c.args.k) c.in_ok-push_term.ensures

pub loop-j-preserved : goal.loop-j-preserved
loop-j-preserved c =
    let plus = codes " + " in
    let term = family_term (c.loop-j.j + 1) (c.args.k - (c.loop-j.j + 1)) in
    c.in_ok-push_term-2.ensures ∙ ap (λ l. l ++ term) c.in_ok-push_text.ensures ∙ ap (λ l. l ++ plus ++ term) c.loop-j.invariant
    ∙ ap (λ l. l ++ term) (append_assoc c.args.text.now.items (family_sum c.args.k c.loop-j.j) plus)
    ∙ append_assoc c.args.text.now.items (family_sum c.args.k c.loop-j.j ++ plus) term
    ∙ ap (λ l. c.args.text.now.items ++ l) (sym (sum_more c.args.k c.loop-j.j))
