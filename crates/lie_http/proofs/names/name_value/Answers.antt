-- A name is ASCII, so it is a text.
use Rattle.std.specs.Str.{IsUtf8}
use Rattle.std.proofs.Common.{sym, subst}
use Rattle.std.proofs.lemmas.Str.{IsUtf8-from_ascii}
use Rattle.lie_http.proofs.Paths.{name_is_ascii}
use Rattle.lie_http.proofs.names.name_value.Goals as goal

pub unreachable-requires : goal.unreachable-requires
unreachable-requires c =
    c.in_default.ensures.cases.0 (subst IsUtf8 (sym c.bytes.ensures.value) (IsUtf8-from_ascii c.args.name.now
    (name_is_ascii c.args.name.now c.bytes.ensures.name)))
