-- Which request the bytes of a connection are, or why they are none. The head is a request head by the grammar of `httparse`;
-- nothing here says how it is read.
use Rattle.std.specs.Prelude.{ℕ, ◌≡◌, ◌<◌, ◌≤◌, ◌⊎◌, Bool, true, false, ◌&&◌, if◌then◌else◌, nat_lt, nat_le, bytes_eq, List, []}
use Rattle.std.specs.Prelude.{◌∷◌, length, take, map, codes, Result, Ok, Err}
use Rattle.std.specs.List.{list_all}
use Rattle.std.specs.Char.{is_ascii_digit}
use Rattle.std.specs.Str.{str_eq_ignore_ascii_case}
use Rattle.std.specs.Str.Parse.{digits_value}
use Rattle.httparse.specs.Grammar.{RequestHead, print_request, ReadsRequest, HasNoRequest, NeverHasRequest, MayBecomeRequest}
use Rattle.httparse.specs.Spans.{name_and_value}
use Rattle.lie_http.specs.declared.framing.Framing.{Framing}
use Rattle.lie_http.specs.declared.framing.Framing.TheVariants.{Unstated, Stated, Bad}
use Rattle.lie_http.specs.declared.request.Ask.{Ask}
use Rattle.lie_http.specs.declared.request.HttpFault.{HttpFault}
use Rattle.lie_http.specs.declared.request.HttpFault.TheVariants.{BadHead, HeadTooLong, BodyTooLong, LengthMissing, Ended, Failed, NoMemory}

-- ---- limits

-- a head has no more bytes
abbrev pub greatest_head : ℕ
greatest_head = 16384

-- a head has no more fields
abbrev pub greatest_field_count : ℕ
greatest_field_count = 64

-- a body has no more bytes
abbrev pub greatest_body : ℕ
greatest_body = 65536

-- a length has no more digits
abbrev pub greatest_digit_count : ℕ
greatest_digit_count = 8

-- ---- how long the body is

-- the values of the fields of a name, which is compared without regard to case
abbrev pub values_of : List ℕ → List (List ℕ × List ℕ) → List (List ℕ)
values_of name [] = []
values_of name (field ∷ fields) =
    if str_eq_ignore_ascii_case field.0 name then field.1 ∷ values_of name fields else values_of name fields

-- a length is written by some digits, but not too many
abbrev pub is_length : List ℕ → Bool
is_length value = nat_lt 0 (length value) && nat_le (length value) greatest_digit_count && list_all is_ascii_digit value

-- what one value of the field Content-Length states
abbrev pub length_of : List ℕ → Framing
length_of value = if is_length value then Stated (digits_value 10 value) else Bad

-- what all values of the field Content-Length state
abbrev pub stated : List (List ℕ) → Framing
stated [] = Unstated
stated (value ∷ []) = length_of value
stated (value ∷ (other ∷ more)) = Bad

-- with a field Transfer-Encoding the body has no length
abbrev pub unless_coded : List (List ℕ) → Framing → Framing
unless_coded [] framing = framing
unless_coded (coding ∷ more) framing = Bad

-- what the fields of a head, each with its name and its value, say of the length of the body
abbrev pub framing_of : List (List ℕ × List ℕ) → Framing
framing_of fields = unless_coded (values_of (codes "transfer-encoding") fields) (stated (values_of (codes "content-length") fields))

-- ---- what a whole head asks for

-- the length of the body, or why the head is refused
abbrev pub demand : Framing → Bool → Bool → Result ℕ HttpFault
demand Bad has_many_fields is_post = Err BadHead
demand Unstated true is_post = Err HeadTooLong
demand (Stated n) true is_post = Err HeadTooLong
demand Unstated false true = Err LengthMissing
demand Unstated false false = Ok 0
demand (Stated n) false is_post = if nat_lt greatest_body n then Err BodyTooLong else Ok n

-- the same of a method and of fields
abbrev pub demand_of : List ℕ → List (List ℕ × List ℕ) → Result ℕ HttpFault
demand_of method fields = demand (framing_of fields) (nat_lt greatest_field_count (length fields)) (bytes_eq method (codes "POST"))

-- the bytes begin with a whole head that is not too long, which asks for this
pub record HasHead (bytes : List ℕ) (asks : Result ℕ HttpFault) : Type 0 where
  pub head : RequestHead
  pub rest : List ℕ
  pub reads : ReadsRequest bytes head rest
  pub short : length (print_request head) ≤ greatest_head
  pub asked : demand_of head.method (map name_and_value head.fields) ≡ asks

-- ---- answers

-- what is read before a head is there
abbrev pub front : List ℕ → List ℕ
front bytes = take greatest_head bytes

-- no whole head is there, and one may still come
abbrev pub IsUnfinished : List ℕ → Type 0
IsUnfinished bytes = HasNoRequest bytes × MayBecomeRequest bytes

-- the method and the target are those of the head, and the body is the stated number of bytes after it
pub record IsAsked (ask : Ask) (bytes : List ℕ) (n : ℕ) (h : HasHead bytes (Ok n)) : Type 0 where
  pub method : ask.method ≡ h.head.method
  pub path : ask.path ≡ h.head.target
  pub whole : n ≤ length h.rest
  pub body : ask.body ≡ take n h.rest

-- the input ends before its first byte, or behind it within the head or the body
abbrev pub EndsEarly : Bool → List ℕ → Type 0
EndsEarly false bytes = bytes ≡ []
EndsEarly true bytes = (0 < length bytes)
    × ((IsUnfinished bytes × (length bytes < greatest_head)) ⊎ ((n : ℕ) × (h : HasHead bytes (Ok n)) × (length h.rest < n)))

-- what an answer says of the bytes of a connection
abbrev pub Answers : List ℕ → Result Ask HttpFault → Type 0
Answers bytes (Ok ask) = (n : ℕ) × (h : HasHead bytes (Ok n)) × IsAsked ask bytes n h
Answers bytes (Err BadHead) = NeverHasRequest (front bytes) ⊎ HasHead bytes (Err BadHead)
Answers bytes (Err HeadTooLong) = (IsUnfinished (front bytes) × (greatest_head ≤ length bytes)) ⊎ HasHead bytes (Err HeadTooLong)
Answers bytes (Err LengthMissing) = HasHead bytes (Err LengthMissing)
Answers bytes (Err BodyTooLong) = HasHead bytes (Err BodyTooLong)
Answers bytes (Err (Ended any)) = EndsEarly any bytes
Answers bytes (Err Failed) = Unit {0}
Answers bytes (Err NoMemory) = Unit {0}
