use Rattle.std.specs.Prelude.{ℕ, Option, Some, None, IfOk, Ok, Err, ◌+◌, ◌^◌, nat_lt, if◌then◌else◌}
use Rattle.std.specs.declared.result.Result.{Result}
use Rattle.std.specs.Global.{Vec}
use Rattle.std.specs.BTreeMap.{BTreeMap}
use Rattle.std.proofs.Common.{◌∙◌, ap}
use Rattle.lie_fieldtext.specs.FieldMeaning.{amount_over}
use Rattle.lie_fieldtext.proofs.FieldSizes.{sized_step}
use Rattle.lie_fieldtext.proofs.field_terms.with_term_size.Goals as goal

put_ok : {E : Type 0} (r : Result (Option (BTreeMap (Vec (ℕ × ℕ)) ℕ)) E) (P Q : Option (BTreeMap (Vec (ℕ × ℕ)) ℕ) → Type 0) → ((o : Option (BTreeMap (Vec (ℕ × ℕ)) ℕ)) → P o → Q o) → IfOk r P → IfOk r Q
put_ok (Ok o) P Q f h = f o h
put_ok (Err e) P Q f h = tt

pub returns : goal.returns
returns c = put_ok c.put_total.result _ _ (λ o put ts sized.
    sized_step c.args.denominator ts c.args.term.now c.args.sizes o c.grown_by-total.result c.in_ok-key.key c.in_ok-key.ensures sized
    (c.grown_by-total.ensures ∙ ap (λ k. if nat_lt (k + amount_over c.args.denominator c.args.term.now) (2 ^ 127) then Some (k + amount_over c.args.denominator c.args.term.now) else None) c.size_at.ensures)
    put) c.put_total.ensures
