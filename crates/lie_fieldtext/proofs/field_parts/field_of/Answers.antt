use Rattle.std.proofs.Common.{arith, subst, sym, ap, ◌∙◌, ◌+◌, ◌≤◌}
use Rattle.std.specs.Int.{◌∣◌}
use Rattle.std.specs.List.{AllByRecursion as Every}
use Rattle.std.proofs.lemmas.Nat.Gcd.{le_of_dvd}
use Rattle.lie_geometry.specs.Coordinates.{Space}
use Rattle.lie_jet.specs.ValidFields.{DividesTerms}
use Rattle.lie_fieldtext.specs.FieldAnswers.{IsTermOver, ArePartsWithin, contents_from, ArePartsOver}
use Rattle.lie_fieldtext.proofs.FieldLimits.{parts_within}
use Rattle.lie_fieldtext.proofs.FieldSizes.{gathered_over}
use Rattle.lie_fieldtext.proofs.FieldSteps.{quotient_some}
use Rattle.lie_fieldtext.proofs.FieldParts.{contents_divides, contents_parts, made_is_sum}
use Rattle.lie_fieldtext.proofs.field_parts.field_of.Goals as goal

pub parts_of-requires-clause-terms : goal.parts_of-requires-clause-terms
parts_of-requires-clause-terms c =
    subst (Every (IsTermOver c.args.terms.now.denominator)) (sym c.as_slice.ensures.value) (gathered_over c.args.terms.now.list.items c.args.terms.now.denominator c.args.terms.now.sizes c.args.terms.now.gathered)

pub parts_of-requires-clause-within : goal.parts_of-requires-clause-within
parts_of-requires-clause-within c =
    subst (ArePartsWithin c.args.terms.now.denominator) (sym c.as_slice.ensures.value)
    (parts_within c.args.terms.now.list.items c.args.terms.now.denominator c.args.terms.now.sizes c.args.terms.now.gathered c.requires.small c.requires.few)

pub all_divided-requires-clause-small : goal.all_divided-requires-clause-small
all_divided-requires-clause-small c =
    let n = c.args.terms.now.denominator in
    let some = c.args.terms.now.gathered.some in
    let common = c.args.terms.now.gathered.common in
    let low = c.args.terms.now.gathered.within.denominator in
    let divides : c.in_ok-divisor.divisor ∣ n = subst (λ k. k ∣ n) (sym c.in_ok-divisor.ensures.value) (contents_divides n c.as_slice-2.result.now) in
    let least : c.in_ok-divisor.divisor ≤ n = le_of_dvd (omega arith) divides in
    omega arith

pub all_divided-requires-clause-divides : goal.all_divided-requires-clause-divides
all_divided-requires-clause-divides c =
    subst (Every (DividesTerms c.in_ok-divisor.divisor)) (c.as_slice-2.ensures.value ∙ sym c.as_slice-3.ensures.value)
    (subst (λ k. Every (DividesTerms k) c.as_slice-2.result.now) (sym c.in_ok-divisor.ensures.value) (contents_parts c.args.terms.now.denominator c.as_slice-2.result.now))

pub new-requires : goal.new-requires
new-requires c =
    let n = c.args.terms.now.denominator in
    let divides : c.in_ok-divisor.divisor ∣ n = subst (λ k. k ∣ n) (sym c.in_ok-divisor.ensures.value) (contents_divides n c.as_slice-2.result.now) in
    quotient_some c.in_ok-divisor.divisor n divides c.args.terms.now.gathered.some

pub returns : goal.returns
returns c =
    let n = c.args.terms.now.denominator in
    made_is_sum c.args.space c.args.terms.now.list.items n c.in_ok-divisor.divisor c.in_ok-parts.parts.items c.in_ok-quotients.quotients.items c.new.result (record {
      some = c.args.terms.now.gathered.some;
      common = c.args.terms.now.gathered.common;
      terms_in_z = c.requires.terms;
      are = subst (λ (S : Space). ArePartsOver n c.args.terms.now.list.items (S.p + S.q) c.in_ok-parts.parts.items) c.space.view_is
          (subst (λ ts. ArePartsOver n ts (c.space.inside.p + c.space.inside.q) c.in_ok-parts.parts.items) c.as_slice.ensures.value c.in_ok-parts.ensures);
      divisor = c.in_ok-divisor.ensures.value ∙ ap (contents_from n) c.as_slice-2.ensures.value;
      positive = c.in_ok-divisor.ensures.some;
      divided = c.in_ok-quotients.ensures ∙ c.as_slice-3.ensures.value;
      denominator = c.new.ensures.den;
      components = c.new.ensures.parts;
    })
