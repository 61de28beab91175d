-- The test of a study's name tells what a name is.
use Rattle.std.specs.Prelude.{ℕ, ◌≡◌, ◌≤◌, ◌==◌, ◌&&◌, ◌||◌, nat_le, Bool, true, false, List, [], ◌∷◌, length, All}
use Rattle.std.specs.List.{list_all}
use Rattle.std.proofs.Common.{refl, arith, inl, inr}
use Rattle.std.proofs.lemmas.Bool.{leb-true, le-leb}
use Rattle.std.proofs.lemmas.Bool.Decides.{nat_tests}
use Rattle.std.proofs.lemmas.List.Elements.{All-cons, All-head, All-nil, All-tail}
use Rattle.clap.proofs.WalkLemmas.{both}
use Rattle.lie_outer.specs.Names.{IsStudyName, IsStudyNameByte}
use Rattle.lie_app.specs.Words.{is_study_name, is_study_name_byte}

-- ---- bytes
first_or : (a b : Bool) → a ≡ true → (a || b) ≡ true
first_or true b e = refl
first_or false b e = absurd (cc)

second_or : (a b : Bool) → b ≡ true → (a || b) ≡ true
second_or true b e = refl
second_or false b e = e

one_of : {P : Type 0} (a b : Bool) → (a || b) ≡ true → (a ≡ true → P) → (b ≡ true → P) → P
one_of true b e f g = f refl
one_of false b e f g = g e

within : (low high b : ℕ) → low ≤ b → b ≤ high → (nat_le low b && nat_le b high) ≡ true
within low high b x y = rw (le-leb low b x, le-leb b high y) refl

byte_passes : (b : ℕ) → IsStudyNameByte b → is_study_name_byte b ≡ true
byte_passes b (inl letter) = first_or (nat_le 97 b && nat_le b 122) _ (within 97 122 b letter.0 letter.1)
byte_passes b (inr (inl digit)) =
    second_or (nat_le 97 b && nat_le b 122) _ (first_or (nat_le 48 b && nat_le b 57) (b == 45) (within 48 57 b digit.0 digit.1))
byte_passes b (inr (inr dash)) =
    second_or (nat_le 97 b && nat_le b 122) _ (second_or (nat_le 48 b && nat_le b 57) (b == 45) (grind (arith, nat_tests, dash)))

byte_is : (b : ℕ) → is_study_name_byte b ≡ true → IsStudyNameByte b
byte_is b e =
    one_of (nat_le 97 b && nat_le b 122) ((nat_le 48 b && nat_le b 57) || b == 45) e
    (λ letter. let p = both (nat_le 97 b) (nat_le b 122) letter in inl (leb-true 97 b p.0, leb-true b 122 p.1))
    (λ other. one_of (nat_le 48 b && nat_le b 57) (b == 45) other
    (λ digit. let p = both (nat_le 48 b) (nat_le b 57) digit in inr (inl (leb-true 48 b p.0, leb-true b 57 p.1)))
    (λ dash. inr (inr (grind (arith, nat_tests, dash)))))

-- ---- texts
bytes_pass : (text : List ℕ) → All IsStudyNameByte text → list_all is_study_name_byte text ≡ true
bytes_pass [] h = refl
bytes_pass (b ∷ bs) h = rw (byte_passes b (All-head IsStudyNameByte b bs h)) (bytes_pass bs (All-tail IsStudyNameByte b bs h))

bytes_are : (text : List ℕ) → list_all is_study_name_byte text ≡ true → All IsStudyNameByte text
bytes_are [] e = All-nil IsStudyNameByte
bytes_are (b ∷ bs) e =
    let p = both (is_study_name_byte b) (list_all is_study_name_byte bs) e in
    All-cons IsStudyNameByte b bs (byte_is b p.0) (bytes_are bs p.1)

pub name_passes : (text : List ℕ) → IsStudyName text → is_study_name text ≡ true
name_passes text h = rw (le-leb 1 (length text) h.0, le-leb (length text) 32 h.1, bytes_pass text h.2) refl

name_is : (text : List ℕ) → is_study_name text ≡ true → IsStudyName text
name_is text e =
    let outer = both (nat_le 1 (length text) && nat_le (length text) 32) (list_all is_study_name_byte text) e in
    let size = both (nat_le 1 (length text)) (nat_le (length text) 32) outer.0 in
    (leb-true 1 (length text) size.0, leb-true (length text) 32 size.1, bytes_are text outer.1)

pub no_name_fails : (text : List ℕ) → (IsStudyName text → ⊥) → is_study_name text ≡ false
no_name_fails text none = go (is_study_name text) refl
  where
    go : (t : Bool) → is_study_name text ≡ t → t ≡ false
    go true e = absurd (none (name_is text e))
    go false e = refl
