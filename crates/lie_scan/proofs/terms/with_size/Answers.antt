use Rattle.std.specs.Prelude.{ℕ, ◌≡◌, Bool, true, false, cond, Option, Some, if◌then◌else◌, refl}
use Rattle.std.specs.Option.{unwrap_or}
use Rattle.std.proofs.Common.{ap, ◌∙◌}
use Rattle.std.specs.BTreeMap.{get}
use Rattle.std.specs.Ordering.{is_eq}
use Rattle.lie_scan.specs.Sizes.{key_cmp}
use Rattle.lie_scan.proofs.terms.with_size.Goals as goal

unwrap_cond : (b : Bool) (s : ℕ) (o : Option ℕ) → unwrap_or (cond b (Some s) o) 0 ≡ (if b then s else unwrap_or o 0)
unwrap_cond true s o = refl
unwrap_cond false s o = refl

pub returns : goal.returns
returns c other = ap (λ o. unwrap_or o 0) (c.in_ok-insert.ensures.updates.0 other) ∙ unwrap_cond (is_eq (key_cmp c.args.key other)) c.args.size (get key_cmp c.args.sizes other)
