use Rattle.std.specs.Prelude.{[], ◌∷◌, ◌++◌, unsigned_abs}
use Rattle.std.proofs.Common.{sym, ap, subst, ◌∙◌, append-nil}
use Rattle.lie_math.specs.Limits.{HasLowExponents}
use Rattle.lie_algebra.proofs.RowFields.{no_term, zero_term, this_term, low_more, size_zero}
use Rattle.lie_algebra.proofs.fields.push_number.Goals as goal

pub returns-then-component-clause-terms : goal.returns-then-component-clause-terms
returns-then-component-clause-terms c =
    sym (ap (λ es. c.args.list.now.items ++ es) (no_term c.args.component c.args.column.now c.args.number (λ e. c.if-component.true (c.component.ensures ∙ e)))
    ∙ append-nil c.args.list.now.items)

pub returns-then-size-eq0-clause-terms : goal.returns-then-size-eq0-clause-terms
returns-then-size-eq0-clause-terms c =
    sym (ap (λ es. c.args.list.now.items ++ es) (zero_term c.args.component c.args.column.now c.args.number (size_zero c.args.number (sym c.size.ensures.size ∙ c.if-size-eq0.true)))
    ∙ append-nil c.args.list.now.items)

pub returns-clause-terms : goal.returns-clause-terms
returns-clause-terms c =
    c.in_ok-push.ensures.items
    ∙ ap (λ es. c.args.list.now.items ++ es) (ap (λ m. (m, c.args.number) ∷ []) (c.in_ok-mono.ensures ∙ c.mono.ensures.mono)
    ∙ sym (this_term c.args.component c.args.column.now c.args.number (sym c.component.ensures ∙ c.if-component.false)
    (λ z. c.if-size-eq0.false (c.size.ensures.size ∙ ap unsigned_abs z))))

pub returns-clause-fits : goal.returns-clause-fits
returns-clause-fits c =
    low_more c.args.list.now.items c.push.new.self.items (c.in_ok-mono.mono, c.args.number) c.in_ok-push.ensures.items
    (subst HasLowExponents (sym (c.in_ok-mono.ensures ∙ c.mono.ensures.mono)) c.mono.ensures.low) c.size.ensures.fits
