-- Whole heads, heads that may still come, and bytes that begin none.
use Rattle.std.proofs.Common.{◌≡◌, ℕ, true, ◌*◌, ◌<◌, ◌≤◌, List, [], ◌∷◌, ◌++◌, length, take, drop, sym, ap, ◌∙◌, arith}
use Rattle.std.proofs.Common.{append_assoc, length-append, Result, flat_map, All, map}
use Rattle.std.proofs.lemmas.Bool.Decides.{nat_tests}
use Rattle.std.proofs.lemmas.List.Elements.{All-weaker, All-head, All-tail}
use Rattle.httparse.specs.Grammar.{is_token_byte, AllPass, LineEnd, crlf, lf, print_end, Field, print_field, IsField, RequestHead}
use Rattle.httparse.specs.Grammar.{print_request, IsRequestHead, NeverHasRequest}
use Rattle.httparse.specs.declared.spans.HeaderSpan.{HeaderSpan}
use Rattle.httparse.specs.declared.spans.RequestSpans.{RequestSpans}
use Rattle.httparse.specs.Spans.{RequestExceeds, IsRequestWithin, IsRequestAt, span_bytes, header_bytes, name_and_value}
use Rattle.httparse.proofs.GrammarLemmas.{ReadsRequest-append}
use Rattle.lie_http.specs.declared.request.HttpFault.{HttpFault}
use Rattle.lie_http.specs.Requests.{HasHead, demand_of}

token_is_ascii : (b : ℕ) → is_token_byte b ≡ true → b < 128
unfolding is_token_byte
token_is_ascii b token = grind (arith, nat_tests)

pub method_is_ascii : (method : List ℕ) → AllPass is_token_byte method → All (λ b. b < 128) method
method_is_ascii method token = All-weaker (λ b. is_token_byte b ≡ true) (λ b. b < 128) token_is_ascii method token

-- what begins no head begins none with more behind it
pub never_more : (bytes more : List ℕ) → NeverHasRequest bytes → NeverHasRequest (bytes ++ more)
never_more bytes more never further head rest reads = never (more ++ further) head rest (rw append_assoc at reads)

-- a head at the front stays one with more behind it
abbrev pub head_more : (bytes more : List ℕ) (asks : Result ℕ HttpFault) → HasHead bytes asks → HasHead (bytes ++ more) asks
head_more bytes more asks h = record {
  head = h.head;
  rest = h.rest ++ more;
  reads = ReadsRequest-append bytes h.head h.rest more h.reads;
  short = h.short;
  asked = h.asked;
}

-- the fields are a part of their head
head_is_long : (head : RequestHead) → length (flat_map print_field head.fields) ≤ length (print_request head)
unfolding print_request
head_is_long head = simp length-append (omega arith)

-- a head has bytes
pub head_is_some : (head : RequestHead) → IsRequestHead head → 0 < length (print_request head)
unfolding print_request
head_is_some head h = let some = h.method.0 in simp length-append (omega arith)

end_is_some : (end : LineEnd) → 0 < length (print_end end)
end_is_some crlf = omega arith
end_is_some lf = omega arith

field_is_long : (f : Field) → IsField f → 3 ≤ length (print_field f)
field_is_long f h =
    let name = h.name.0 in
    let end = end_is_some f.end in
    simp length-append (omega arith)

-- a field has a byte of its name, the colon and a line end
fields_are_long : (fields : List Field) → All IsField fields → 3 * length fields ≤ length (flat_map print_field fields)
fields_are_long [] h = omega arith
fields_are_long (f ∷ fields) h =
    let one = field_is_long f (All-head IsField f fields h) in
    let more = fields_are_long fields (All-tail IsField f fields h) in
    omega (arith, length-append (print_field f) (flat_map print_field fields))

-- so few bytes have no head with so many fields
pub fields_have_room : (bytes : List ℕ) → length bytes ≤ 16384 → RequestExceeds 8192 bytes → ⊥
fields_have_room bytes short (front, rest, parted, head, reads, many) =
    let long = fields_are_long head.fields reads.0.fields in
    let whole = head_is_long head in
    omega (
      arith,
      ap length parted,
      length-append front rest,
      ap length reads.1,
      length-append front (10 ∷ []),
      length-append
          (print_request head) [],
    )

-- the spans of a whole head in so few bytes show what it asks for
abbrev pub shown_head : (bytes : List ℕ) (fields : List HeaderSpan) (found : RequestSpans) (asks : Result ℕ HttpFault)
    → length bytes ≤ 16384
    → IsRequestWithin bytes fields found → (h : RequestHead) → IsRequestAt bytes fields found h
    → demand_of (span_bytes bytes found.method) (map (header_bytes bytes) (take found.headers fields)) ≡ asks → HasHead bytes asks
shown_head bytes fields found asks short within h at asked = record {
  head = h;
  rest = drop found.len bytes;
  reads = at.reads;
  short = (let fits = within.section.len_fits in let len = at.len in omega arith);
  asked = ap (λ m. demand_of m (map name_and_value h.fields)) (sym at.method)
      ∙ ap (demand_of (span_bytes bytes found.method)) (sym at.fields) ∙ asked;
}
