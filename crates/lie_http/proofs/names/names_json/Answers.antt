-- The text without blanks is that of the value, which has no float.
use Rattle.std.proofs.Common.{ap, ◌∙◌}
use Rattle.serde_json.specs.Written.{has_float, compact_text}
use Rattle.lie_http.proofs.NamesJson.{names_have_no_float}
use Rattle.lie_http.proofs.names.names_json.Goals as goal

pub returns : goal.returns
returns c =
    let is = c.in_ok-value.ensures in
    c.from_vec.ensures ∙ c.in_ok-to_vec.ensures.text (ap has_float is ∙ names_have_no_float c.args.names.now) ∙ ap compact_text is
