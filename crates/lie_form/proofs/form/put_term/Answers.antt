use Rattle.std.proofs.Common.{List, drop, refl, subst, sym, ◌≡◌, ◌≤◌, length, true≢false}
use Rattle.lie_math.specs.FiniteSum as finite
use Rattle.lie_math.specs.LinearForm.{forms}
use Rattle.lie_math.specs.Limits.{absolute, IsWithinLimits}
use Rattle.lie_math.specs.Polynomial.{WholePolynomial, 0ᴾ, ◌+ᴾ◌}
use Rattle.lie_ring.specs.Causes.{IsCause}
use Rattle.lie_jet.specs.Derivatives.{derivative_of}
use Rattle.lie_form.specs.DerivativeTerms.{derivative_terms, GoesTo, GoesNoFurther, IsFirst}
use Rattle.lie_jet.specs.declared.derivative.Der.{Der}
use Rattle.lie_form.proofs.AbsentDerivatives.{no_coefficient, within_beside_none}
use Rattle.lie_jet.proofs.TotalSteps.{on_ok, if_err}
use Rattle.std.proofs.lemmas.List.{length-map}
use Rattle.lie_form.proofs.DerivativeLists.{added_at_first, coefficient_at_first}
use Rattle.lie_form.proofs.form.put_term.Goals as goal
use Rattle.lie_form.proofs.form.put_term.Goals.{After-add_at_place, After-insert_term}

first : (c : After-add_at_place) → IsFirst (derivative_of c.args.der) (drop c.place_of-place.result (derivative_terms c.args.terms.now.items))
first c = subst (λ (xs : List (Der × WholePolynomial)). IsFirst (derivative_of c.args.der) (drop c.place_of-place.result (derivative_terms xs))) c.as_slice-2.ensures.value (c.if-is_at.ensures.0 refl)

pub returns-then-is_at-clause-items : goal.returns-then-is_at-clause-items
returns-then-is_at-clause-items c =
    let k = (goal.at.returns-then-is_at-clause-items c).After-add_at_place in
    let to = subst (λ (xs : List (Der × WholePolynomial)). GoesTo (derivative_of c.args.der) c.args.poly (derivative_terms xs) c.place_of-place.result) c.as_slice.ensures.value (c.place_of-place.ensures.before c.args.poly) in
    on_ok c.add_at_place.result (λ r. added_at_first (derivative_of c.args.der) c.args.poly (derivative_terms c.args.terms.now.items) (derivative_terms c.add_at_place.new.terms.items) c.place_of-place.result to (first k) r) c.add_at_place.ensures.items

pub returns-then-is_at-clause-past : goal.returns-then-is_at-clause-past
returns-then-is_at-clause-past c =
    let k = (goal.at.returns-then-is_at-clause-past c).After-add_at_place in
    if_err c.add_at_place.result (λ fail h. coefficient_at_first (derivative_of c.args.der) (derivative_terms c.args.terms.now.items) c.place_of-place.result (λ a. IsCause fail (absolute a +ᴾ absolute c.args.poly)) c.requires (first k) h) c.add_at_place.ensures.past

pub returns-then-is_at-clause-fits : goal.returns-then-is_at-clause-fits
returns-then-is_at-clause-fits c =
    let k = (goal.at.returns-then-is_at-clause-fits c).After-add_at_place in
    on_ok c.add_at_place.result (λ h. coefficient_at_first (derivative_of c.args.der) (derivative_terms c.args.terms.now.items) c.place_of-place.result (λ a. IsWithinLimits (absolute a +ᴾ absolute c.args.poly)) c.requires (first k) h) c.add_at_place.ensures.fits

-- a derivative that is not there has the coefficient 0
none : (c : After-insert_term) → finite.value forms (finite.of forms (derivative_terms c.args.terms.now.items)) (derivative_of c.args.der) ≡ 0ᴾ
none c =
    let d = derivative_of c.args.der in
    let i = c.place_of-place.result in
    let within : i ≤ length c.args.terms.now.items = subst (λ (xs : List (Der × WholePolynomial)). i ≤ length xs) c.as_slice.ensures.value c.place_of-place.ensures.inside in
    no_coefficient d (derivative_terms c.args.terms.now.items) i c.requires
    (subst (λ n. i ≤ n) (sym (length-map c.args.terms.now.items (λ (t : Der × WholePolynomial). (derivative_of t.0, t.1)))) within)
    (λ a. subst (λ (xs : List (Der × WholePolynomial)). GoesTo d a (derivative_terms xs) i) c.as_slice.ensures.value (c.place_of-place.ensures.before a))
    (subst (λ (xs : List (Der × WholePolynomial)). GoesNoFurther d (drop i (derivative_terms xs))) c.as_slice.ensures.value c.place_of-place.ensures.stop)
    (λ h. true≢false (sym (c.if-is_at.ensures.1 (subst (λ (xs : List (Der × WholePolynomial)). IsFirst d (drop i (derivative_terms xs))) (sym c.as_slice-2.ensures.value) h))))

pub returns-clause-fits : goal.returns-clause-fits
returns-clause-fits c =
    let k = (goal.at.returns-clause-fits c).After-insert_term in
    on_ok c.insert_term.result (λ _. within_beside_none _ c.args.poly (none k) c.insert_term.ensures.fits) c.insert_term.ensures.items
