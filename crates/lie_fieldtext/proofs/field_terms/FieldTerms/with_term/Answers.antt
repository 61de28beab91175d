use Rattle.std.proofs.Common.{subst, ◌++◌, ◌∷◌, [], Some, None}
use Rattle.lie_fieldtext.specs.FieldAnswers.{IsSized}
use Rattle.lie_fieldtext.proofs.FieldSizes.{put_none, put_none_denominator, put_some, gathered_more}
use Rattle.lie_fieldtext.proofs.field_terms.FieldTerms.with_term.Goals as goal

pub returns-in_default : goal.returns-in_default
returns-in_default c = put_none_denominator c.args.self.list.items c.args.term c.args.self.denominator c.args.self.sizes c.args.self.gathered c.common_multiple.result c.common_multiple.ensures c.in_default.is

pub invariant_of-result : goal.invariant_of-result
invariant_of-result c = record {
  gathered = gathered_more c.args.self.list.items c.args.term c.args.self.denominator c.args.self.sizes c.args.self.gathered c.in-Some.common c.in-Some.ensures c.in-Some-2.sizes
      (subst (λ l. IsSized c.in-Some.common (l ++ c.args.term ∷ []) (Some c.in-Some-2.sizes)) c.as_slice.ensures.value (subst (IsSized c.in-Some.common (c.as_slice.result.now ++ c.args.term ∷ [])) c.in-Some-2.is c.in_ok-sizes.ensures))
      c.in_ok-list-in-Some-2.list.items c.in_ok-list-in-Some-2.ensures c.requires;
}

pub returns-in_ok-list-in-Some-2 : goal.returns-in_ok-list-in-Some-2
returns-in_ok-list-in-Some-2 c =
    put_some c.args.self.list.items c.args.term c.args.self.denominator c.args.self.sizes c.args.self.gathered c.in-Some.common c.in-Some.ensures c.in-Some-2.sizes
    (subst (λ l. IsSized c.in-Some.common (l ++ c.args.term ∷ []) (Some c.in-Some-2.sizes)) c.as_slice.ensures.value (subst (IsSized c.in-Some.common (c.as_slice.result.now ++ c.args.term ∷ [])) c.in-Some-2.is c.in_ok-sizes.ensures))
    c.in_ok-list-in-Some-2.list.items c.in_ok-list-in-Some-2.ensures

pub returns-in-None : goal.returns-in-None
returns-in-None c =
    put_none c.args.self.list.items c.args.term c.args.self.denominator c.args.self.sizes c.args.self.gathered c.in-Some.common c.in-Some.ensures
    (subst (λ l. IsSized c.in-Some.common (l ++ c.args.term ∷ []) None) c.as_slice.ensures.value (subst (IsSized c.in-Some.common (c.as_slice.result.now ++ c.args.term ∷ [])) c.in-None.is c.in_ok-sizes.ensures))
