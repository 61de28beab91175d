use Rattle.std.proofs.Common.{subst, List}
use Rattle.lie_math.specs.Monomial.{monomial_cmp}
use Rattle.lie_parts.specs.declared.buckets.Bucket.{Bucket}
use Rattle.lie_parts.specs.Parts.{IsFound, monomials_of}
use Rattle.std.proofs.lemmas.Result.{on_ok_weaker}
use Rattle.lie_parts.proofs.buckets.put_triple.Goals as goal

pub returns-in-Ok : goal.returns-in-Ok
returns-in-Ok c = on_ok_weaker c.push_at.result (λ h. h c.args.mono (subst (λ (bs : List Bucket). IsFound monomial_cmp c.args.mono (monomials_of bs) c.in-Ok.place) c.as_slice.ensures.value c.in-Ok.ensures)) c.push_at.ensures
