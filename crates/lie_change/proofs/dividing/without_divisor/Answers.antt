use Rattle.lie_change.proofs.CommonNumbers.{content_found, small_stays, found_divides}
use Rattle.lie_change.proofs.dividing.without_divisor.Goals as goal

pub returns-then-size-le1 : goal.returns-then-size-le1
returns-then-size-le1 c =
    small_stays c.content_of-divisor.result c.size.result c.args.forms.items
    (content_found c.content_of-divisor.result c.in_ok-list.list.items c.as_slice-2.result.now c.as_slice.result.now c.args.forms.items
    c.content_of-divisor.ensures c.as_slice-2.ensures.value c.in_ok-list.ensures c.as_slice.ensures.value)
    c.size.ensures.size c.if-size-le1.true

pub divided_forms-requires-clause-divides : goal.divided_forms-requires-clause-divides
divided_forms-requires-clause-divides c =
    found_divides c.content_of-divisor.result c.as_slice-3.result.now c.args.forms.items
    (content_found c.content_of-divisor.result c.in_ok-list.list.items c.as_slice-2.result.now c.as_slice.result.now c.args.forms.items
    c.content_of-divisor.ensures c.as_slice-2.ensures.value c.in_ok-list.ensures c.as_slice.ensures.value)
    c.as_slice-3.ensures.value
