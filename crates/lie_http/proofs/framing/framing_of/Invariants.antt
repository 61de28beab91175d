-- The fields that are left say, behind what is known so far, what all say.
use Rattle.std.proofs.Common.{◌≡◌, map, drop}
use Rattle.httparse.specs.Spans.{header_bytes}
use Rattle.lie_http.specs.Requests.{framing_of}
use Rattle.lie_http.proofs.Fields.{framing_after}
use Rattle.lie_http.proofs.framing.framing_of.Given as goal

abbrev pub invariant-loop-field : goal.invariant-loop-field
invariant-loop-field l = framing_after l.framing (map (header_bytes l.bytes) (drop l.field-index l.fields))
    ≡ framing_of (map (header_bytes l.bytes) l.fields)
