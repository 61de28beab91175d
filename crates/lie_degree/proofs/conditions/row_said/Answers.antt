use Rattle.std.proofs.Common.{refl, sym, ap, subst, ◌∙◌, arith}
use Rattle.std.specs.Prelude.{◌++◌, ◌∷◌, [], List, ℤ}
use Rattle.lie_math.specs.FiniteSum.{IsCanonical}
use Rattle.lie_math.specs.Monomial.{Monomial}
use Rattle.lie_math.specs.Polynomial.{coefficient, polynomial_of, terms}
use Rattle.lie_math.proofs.EveryElement.{every_at}
use Rattle.lie_degree.specs.Said.{row_said}
use Rattle.lie_degree.specs.declared.equations.Said.{Said}
use Rattle.lie_degree.proofs.Loops.{piece_more, piece_end}
use Rattle.lie_degree.proofs.conditions.row_said.Goals as goal

pub number_at-requires : goal.number_at-requires
number_at-requires c =
    subst (IsCanonical terms) (sym c.as_slice.ensures.value)
    (every_at (λ (s : Said). IsCanonical terms s.terms.items) c.args.said.now c.loop-one.one-index c.one-item.result
    (omega arith) c.one-item.is c.requires)

pub loop-one-preserved : goal.loop-one-preserved
loop-one-preserved c =
    piece_more (λ ss. row_said ss c.args.mono.now) (λ (s : Said). coefficient (polynomial_of s.terms.items) c.args.mono.now ∷ [])
    (λ x xs. refl) c.args.said.now c.loop-one.one-index c.one-item.result
    c.loop-one.row.items c.push.new.self.items (row_said c.args.said.now c.args.mono.now) (omega arith) c.one-item.is
    (c.in_ok-push.ensures.items ∙ ap (λ z. c.loop-one.row.items ++ z ∷ [])
    (c.number_at.ensures ∙ ap
    (λ (es : List (Monomial × ℤ)). coefficient (polynomial_of es) c.args.mono.now) c.as_slice.ensures.value)) c.loop-one.invariant

pub returns : goal.returns
returns c =
    piece_end (λ ss. row_said ss c.args.mono.now) refl c.args.said.now c.loop-one.one-index c.loop-one.row.items
    (row_said c.args.said.now c.args.mono.now) (omega arith) c.loop-one.invariant
