-- What the fields of a head say, read field by field, is what they say all together.
use Rattle.std.specs.Prelude.{◌≡◌, ℕ, Bool, true, false, if◌then◌else◌, List, [], ◌∷◌, codes}
use Rattle.std.specs.Str.{str_eq_ignore_ascii_case}
use Rattle.std.proofs.Common.{refl, ap}
use Rattle.lie_http.specs.declared.framing.Framing.{Framing}
use Rattle.lie_http.specs.declared.framing.Framing.TheVariants.{Unstated, Stated, Bad}
use Rattle.lie_http.specs.Requests.{values_of, is_length, stated, unless_coded}
use Rattle.lie_http.specs.Framing.{stated_too, with_field}

-- the values that are left, behind what is stated already
abbrev pub stated_after : Framing → List (List ℕ) → Framing
stated_after Unstated values = stated values
stated_after (Stated n) [] = Stated n
stated_after (Stated n) (value ∷ values) = Bad
stated_after Bad values = Bad

-- the fields that are left, behind what the earlier ones say
abbrev pub framing_after : Framing → List (List ℕ × List ℕ) → Framing
framing_after framing fields =
    unless_coded (values_of (codes "transfer-encoding") fields) (stated_after framing (values_of (codes "content-length") fields))

stated_after-nil : (framing : Framing) → stated_after framing [] ≡ framing
stated_after-nil Unstated = refl
stated_after-nil (Stated n) = refl
stated_after-nil Bad = refl

unless_coded-bad : (codings : List (List ℕ)) → unless_coded codings Bad ≡ Bad
unless_coded-bad [] = refl
unless_coded-bad (coding ∷ more) = refl

stated_after-length : (b : Bool) (n : ℕ) (values : List (List ℕ))
    → stated_after (if b then Stated n else Bad) values ≡ elim values as
    (λ _. Framing) [ [] ↦ if b then Stated n else Bad | value ∷ more ↦ Bad ]
stated_after-length true n [] = refl
stated_after-length true n (value ∷ more) = refl
stated_after-length false n [] = refl
stated_after-length false n (value ∷ more) = refl

-- one value more
stated_after-cons : (framing : Framing) (value : List ℕ) (values : List (List ℕ))
    → stated_after (stated_too framing value) values ≡ stated_after framing (value ∷ values)
stated_after-cons Unstated value [] = stated_after-length (is_length value) _ []
stated_after-cons Unstated value (other ∷ more) = stated_after-length (is_length value) _ (other ∷ more)
stated_after-cons (Stated n) value values = refl
stated_after-cons Bad value values = refl

-- what a field does, by whether it is one of the two
by_name : (is_coding is_stated : Bool) (framing : Framing) (value : List ℕ) (codings values : List (List ℕ))
    → unless_coded codings (stated_after (if is_coding then Bad else (if is_stated then stated_too framing value else framing)) values)
    ≡ unless_coded (if is_coding then value ∷ codings else codings) (stated_after framing (if is_stated then value ∷ values else values))
by_name true is_stated framing value codings values = unless_coded-bad codings
by_name false true framing value codings values = ap (unless_coded codings) (stated_after-cons framing value values)
by_name false false framing value codings values = refl

-- one field more
pub framing_after-cons : (framing : Framing) (field : List ℕ × List ℕ) (fields : List (List ℕ × List ℕ))
    → framing_after (with_field framing field) fields ≡ framing_after framing (field ∷ fields)
framing_after-cons framing field fields =
    by_name (str_eq_ignore_ascii_case field.0 (codes "transfer-encoding")) (str_eq_ignore_ascii_case field.0 (codes "content-length"))
    framing field.1 (values_of (codes "transfer-encoding") fields) (values_of (codes "content-length") fields)

pub framing_after-nil : (framing : Framing) → framing_after framing [] ≡ framing
framing_after-nil = stated_after-nil
