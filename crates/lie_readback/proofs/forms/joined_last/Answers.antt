use Rattle.std.proofs.Common.{sym, ap, ◌∙◌, ◌++◌, ◌∷◌, [], map}
use Rattle.lie_jet.specs.Derivatives.{derivative_of}
use Rattle.lie_readback.specs.Groups.{group_seen}
use Rattle.lie_readback.proofs.Found.{ok_more}
use Rattle.lie_readback.proofs.Grouping.{joined_same, joined_other, seen_behind}
use Rattle.lie_readback.proofs.forms.joined_last.Goals as goal

pub returns-in-Equal : goal.returns-in-Equal
returns-in-Equal c =
    ok_more _ _ c.grown.result
    (λ gs is. joined_same (map group_seen c.args.groups.items) (group_seen c.args.last) (derivative_of c.args.der) c.args.term (map group_seen gs.items) (sym c.compare_derivatives.ensures ∙ c.in-Equal.is) is)
    c.grown.ensures

pub returns-in_ok-push-in_default : goal.returns-in_ok-push-in_default
returns-in_ok-push-in_default c =
    ok_more _ _ c.begun.result
    (λ gs is. joined_other (map group_seen c.args.groups.items) (group_seen c.args.last) (derivative_of c.args.der) c.args.term (map group_seen gs.items) (λ e. c.in_default.not-Equal (c.compare_derivatives.ensures ∙ e))
    (is ∙ ap (λ l. l ++ (derivative_of c.args.der, c.args.term ∷ []) ∷ []) (seen_behind c.args.groups.items c.args.last _ c.in_ok-push-in_default.ensures.items)))
    c.begun.ensures
