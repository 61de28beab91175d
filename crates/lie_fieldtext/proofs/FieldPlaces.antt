-- The place of a fault is one in the text: its column is counted from what stands before it, and what is wrong begins there.
use Rattle.std.specs.Prelude.{
  ℕ,
  ◌+◌,
  ◌-◌,
  ◌≡◌,
  ◌≤◌,
  Bool,
  true,
  false,
  List,
  [],
  ◌∷◌,
  ◌++◌,
  length,
  take,
  drop,
  min,
  Some,
  if◌then◌else◌,
  refl,
}
use Rattle.std.specs.List.{AllByRecursion as Every}
use Rattle.std.proofs.Common.{sym, ap, subst, ◌∙◌, inl, inr, arith, length-append}
use Rattle.std.proofs.lemmas.List.{take-append-drop, length-drop, length-take-le}
use Rattle.lie_scan.specs.declared.fault.BadFile.{BadFile}
use Rattle.lie_scan.specs.declared.fault.BadKind.TheVariants.{TooLong}
use Rattle.lie_scan.specs.declared.fault.ReadFail.{ReadFail}
use Rattle.lie_scan.specs.declared.fault.ReadFail.TheVariants as reads
use Rattle.lie_scan.specs.declared.runs.Class.TheVariants.{Blank}
use Rattle.lie_scan.specs.declared.stop.Stop.{Stop}
use Rattle.lie_scan.specs.TokenGrammar.{IsBehindBlanks, IsSign, IsNumber, IsExponentAt}
use Rattle.lie_scan.specs.SumGrammar.{sign_of, IsFirstSign}
use Rattle.lie_scan.proofs.Shorter.{behind_shorter}
use Rattle.lie_fieldtext.specs.declared.field_term.FieldTerm.{FieldTerm}
use Rattle.lie_fieldtext.specs.FieldGrammar.{
  IsBaseVector,
  IsVariable,
  IsVariablePower,
  AreVariablePowers,
  IsDenominator,
  IsFraction,
  IsCoefficient,
  IsFieldTermFront,
  IsFieldTerm,
  AreFieldTerms,
  IsFieldSum,
  is_in_line,
}
use Rattle.lie_fieldtext.specs.FieldFaults.{
  IsFactorFault,
  no_letter,
  no_name,
  unknown_base,
  unknown_variable,
  no_exponent,
  wrong_exponent,
  IsFieldTermFault,
  large_number,
  no_denominator,
  wrong_denominator,
  no_star,
  in_factor,
  high_exponent,
  no_further,
  IsFieldTermNext,
  first_term,
  further_term,
  IsFieldSumFault,
  in_term,
  past_limits,
  further_token,
  not_in_line_from,
  IsFieldFault,
  too_long,
  not_allowed,
  in_sum,
  BeginsNotAllowed,
  IsFieldPlaceIn,
}

-- ---- what is behind a production is no longer than the text
nothing_shorter : (text rest : List ℕ) → text ≡ rest → length rest ≤ length text
nothing_shorter text rest e = let same = ap length e in omega arith

blanks_shorter : (text rest : List ℕ) → IsBehindBlanks text rest → length rest ≤ length text
blanks_shorter text rest h = let whole = ap length h.spelled in let parts = length-append h.blanks rest in omega arith

sign_shorter : (c : ℕ) (text rest : List ℕ) → IsSign c text rest → length rest ≤ length text
sign_shorter c text rest h = let k = blanks_shorter text (c ∷ rest) h in omega arith

number_shorter : (text : List ℕ) (n : ℕ) (rest : List ℕ) → IsNumber text n rest → length rest ≤ length text
number_shorter text n rest h =
    let k = blanks_shorter text (h.digits ++ rest) h.front in let parts = length-append h.digits rest in omega arith

base_shorter : (names text : List ℕ) (place : ℕ) (rest : List ℕ) → IsBaseVector names text place rest → length rest ≤ length text
base_shorter names text place rest h = let k = blanks_shorter text (100 ∷ 95 ∷ h.letter ∷ rest) h.front in omega arith

variable_shorter : (names text : List ℕ) (place : ℕ) (rest : List ℕ) → IsVariable names text place rest → length rest ≤ length text
variable_shorter names text place rest h = let k = blanks_shorter text (h.letter ∷ rest) h.front in omega arith

exponent_shorter : (text : List ℕ) (e : ℕ) (rest : List ℕ) → IsExponentAt text e rest → length rest ≤ length text
exponent_shorter text e rest h = elim h [
  | inl none ↦ nothing_shorter text rest none.1
  | inr some ↦ (let a = sign_shorter 94 text some.0 some.1 in let b = number_shorter some.0 e rest some.2 in omega arith)
]

power_shorter : (names text : List ℕ) (p : ℕ × ℕ) (rest : List ℕ) → IsVariablePower names text p rest → length rest ≤ length text
power_shorter names text p rest h =
    let a = variable_shorter names text p.0 h.0 h.1 in let b = exponent_shorter h.0 p.1 rest h.2 in omega arith

powers_shorter : (names text : List ℕ) (ps : List (ℕ × ℕ)) (rest : List ℕ) → AreVariablePowers names text ps rest
    → length rest ≤ length text
powers_shorter names text [] rest h = nothing_shorter text rest h
powers_shorter names text (p ∷ ps) rest h =
    let a = power_shorter names text p h.0 h.2 in
    let b = sign_shorter 42 h.0 h.1 h.3 in
    let c = powers_shorter names h.1 ps rest h.4 in
    omega arith

denominator_shorter : (text : List ℕ) (d : ℕ) (rest : List ℕ) → IsDenominator text d rest → length rest ≤ length text
denominator_shorter text d rest h = elim h [
  | inl none ↦ nothing_shorter text rest none.1
  | inr some ↦ (let a = sign_shorter 47 text some.0 some.1 in let b = number_shorter some.0 d rest some.2 in omega arith)
]

fraction_shorter : (text : List ℕ) (n d : ℕ) (rest : List ℕ) → IsFraction text n d rest → length rest ≤ length text
fraction_shorter text n d rest h =
    let a = number_shorter text n h.behind h.number in let b = denominator_shorter h.behind d rest h.under in omega arith

coefficient_shorter : (text : List ℕ) (n d : ℕ) (rest : List ℕ) → IsCoefficient text n d rest → length rest ≤ length text
coefficient_shorter text n d rest h = elim h [
  | inl some ↦ (let a = fraction_shorter text n d some.0 some.1 in let b = sign_shorter 42 some.0 rest some.2 in omega arith)
  | inr none ↦ nothing_shorter text rest none.2
]

front_shorter : (names text : List ℕ) (n d : ℕ) (powers : List (ℕ × ℕ)) (rest : List ℕ) → IsFieldTermFront names text n d powers rest
    → length rest ≤ length text
front_shorter names text n d powers rest h =
    let a = coefficient_shorter text n d h.behind h.coefficient in let b = powers_shorter names h.behind powers rest h.are in omega arith

term_shorter : (names text : List ℕ) (negative : Bool) (t : FieldTerm) (rest : List ℕ) → IsFieldTerm names text negative t rest
    → length rest ≤ length text
term_shorter names text negative t rest h =
    let a = front_shorter names text h.numerator h.denominator h.powers h.behind h.front in
    let b = base_shorter names h.behind t.place rest h.base in
    omega arith

terms_shorter : (names text : List ℕ) (ts : List FieldTerm) (rest : List ℕ) → AreFieldTerms names text ts rest → length rest ≤ length text
terms_shorter names text [] rest h = nothing_shorter text rest h
terms_shorter names text (t ∷ ts) rest h =
    let a = sign_shorter (sign_of h.0) text h.1 h.3 in
    let b = term_shorter names h.1 h.0 t h.2 h.4 in
    let c = terms_shorter names h.2 ts rest h.5 in
    omega arith

first_sign_shorter : (text : List ℕ) (negative : Bool) (rest : List ℕ) → IsFirstSign text negative rest → length rest ≤ length text
first_sign_shorter text negative rest h = elim h [
  | inl some ↦ sign_shorter (sign_of negative) text rest some
  | inr none ↦ nothing_shorter text rest none.1
]

sum_shorter : (names text : List ℕ) (ts : List FieldTerm) (rest : List ℕ) → IsFieldSum names text ts rest → length rest ≤ length text
sum_shorter names text ts rest h =
    let a = first_sign_shorter text h.negative h.front h.sign in
    let b = term_shorter names h.front h.negative h.first h.behind h.begins in
    let c = terms_shorter names h.behind h.further rest h.goes_on in
    omega arith

next_shorter : (names text : List ℕ) (negative : Bool) (ts : List FieldTerm) (front : List ℕ) → IsFieldTermNext names text negative ts front
    → length front ≤ length text
next_shorter names text negative ts front (first_term minus begin sign) = first_sign_shorter text negative front sign
next_shorter names text negative ts front (further_term minus terms behind begin sum sign) =
    let a = sum_shorter names text ts behind sum in let b = sign_shorter (sign_of negative) behind front sign in omega arith

-- ---- what is left at a fault is no longer than the text
factor_left : (names text : List ℕ) (s : Stop) → IsFactorFault names text s → s.left ≤ length text
factor_left names text s (no_letter out) = behind_shorter Blank text
factor_left names text s (no_name rest front out) = let k = blanks_shorter text (100 ∷ 95 ∷ rest) front in omega arith
factor_left names text s (unknown_base word rest front letters out none) = behind_shorter Blank text
factor_left names text s (unknown_variable word rest front no_base letters out none) = behind_shorter Blank text
factor_left names text s (no_exponent place behind front variable sign out) =
    let a = variable_shorter names text place behind variable in
    let b = sign_shorter 94 behind front sign in
    let c = behind_shorter Blank front in
    omega arith
factor_left names text s (wrong_exponent place behind front e rest variable sign number wrong) = behind_shorter Blank text

term_left : (names text : List ℕ) (s : Stop) → IsFieldTermFault names text s → s.left ≤ length text
term_left names text s (large_number n rest number large) = behind_shorter Blank text
term_left names text s (no_denominator n behind front number small sign out) =
    let a = number_shorter text n behind number in
    let b = sign_shorter 47 behind front sign in
    let c = behind_shorter Blank front in
    omega arith
term_left names text s (wrong_denominator n behind front d rest number small sign under wrong) =
    let a = number_shorter text n behind number in
    let b = sign_shorter 47 behind front sign in
    let c = behind_shorter Blank front in
    omega arith
term_left names text s (no_star n d rest fraction other) =
    let a = fraction_shorter text n d rest fraction in let b = behind_shorter Blank rest in omega arith
term_left names text s (in_factor n d powers front stopped begins fault) =
    let a = front_shorter names text n d powers front begins in let b = factor_left names front s fault in omega arith
term_left names text s (high_exponent n d powers front p rest begins power high) =
    let a = front_shorter names text n d powers front begins in let b = behind_shorter Blank front in omega arith
term_left names text s (no_further n d powers front p rest begins power small other) =
    let a = front_shorter names text n d powers front begins in
    let b = power_shorter names front p rest power in
    let c = behind_shorter Blank rest in
    omega arith

sum_left : (names text : List ℕ) (s : Stop) → IsFieldSumFault names text s → s.left ≤ length text
sum_left names text s (in_term negative terms front stopped next within fault) =
    let a = next_shorter names text negative terms front next in let b = term_left names front s fault in omega arith
sum_left names text s (past_limits negative terms front t rest next within term past) =
    let a = next_shorter names text negative terms front next in let b = behind_shorter Blank front in omega arith
sum_left names text s (further_token terms rest sum within no_plus no_minus some) =
    let a = sum_shorter names text terms rest sum in let b = behind_shorter Blank rest in omega arith

-- ---- the first byte that is not allowed
record Parted (bytes : List ℕ) (column c : ℕ) : Type 0 where
  before : List ℕ
  rest : List ℕ
  parted : bytes ≡ before ++ rest
  allowed : Every (λ b. is_in_line b ≡ true) before
  begins : BeginsNotAllowed rest
  counted : c ≡ column + length before

parted_at : (column : ℕ) (bytes : List ℕ) (c : ℕ) → not_in_line_from column bytes ≡ Some c → Parted bytes column c
parted_at column [] c e = cc
parted_at column (b ∷ bs) c e = go (is_in_line b) refl e (parted_at (column + 1) bs c)
  where
    go : (t : Bool) → is_in_line b ≡ t → (if t then not_in_line_from (column + 1) bs else Some column) ≡ Some c
        → (not_in_line_from (column + 1) bs ≡ Some c → Parted bs (column + 1) c) → Parted (b ∷ bs) column c
    go true q e more =
        let p = more e in
        let at = p.counted in
        record {
          before = b ∷ p.before;
          rest = p.rest;
          parted = ap (λ l. b ∷ l) p.parted;
          allowed = (q, p.allowed);
          begins = p.begins;
          counted = omega arith;
        }
    go false q e more =
        let same : column ≡ c = cc in
        record { before = []; rest = b ∷ bs; parted = refl; allowed = tt; begins = q; counted = omega arith }

-- ---- places of faults
min_is : (n : ℕ) → n ≤ 65537 → min n 4294967295 ≡ n
min_is n h = omega arith

abbrev HasPlace : List ℕ → List ℕ → ReadFail → Type 0
HasPlace names bytes (reads.Bad b) = ¬ (b.kind ≡ TooLong) → IsFieldPlaceIn names bytes b
HasPlace names bytes reads.NoMemory = ⊥

fault_place : (names bytes : List ℕ) (r : ReadFail) → IsFieldFault names bytes r → HasPlace names bytes r
fault_place names bytes r (too_long long) = λ n. absurd (n refl)
fault_place names bytes r (not_allowed column short e) =
    λ n.
    let p = parted_at 1 bytes column e in
    let at = p.counted in
    let whole : length bytes ≡ length p.before + length p.rest = ap length p.parted ∙ length-append p.before p.rest in
    record {
      before = p.before;
      rest = p.rest;
      parted = p.parted;
      line = refl;
      column = min_is column (omega arith) ∙ (omega arith);
      wrong = inl (refl, p.allowed, p.begins);
    }
fault_place names bytes r (in_sum s short allowed apart fault) =
    λ n.
    let low = sum_left names bytes s fault in
    let k : ℕ = length bytes - s.left in
    let left : length (drop k bytes) ≡ s.left = length-drop k bytes ∙ (omega arith) in
    let front : length (take k bytes) ≡ k = length-take-le k bytes (omega arith) in
    record {
      before = take k bytes;
      rest = drop k bytes;
      parted = sym (take-append-drop k bytes);
      line = refl;
      column = min_is (k + 1) (omega arith) ∙ (omega arith);
      wrong = inr (subst (λ m. IsFieldSumFault names bytes (record { kind = s.kind; left = m })) (sym left) fault);
    }

pub faults_have_places : (names bytes : List ℕ) (b : BadFile) → IsFieldFault names bytes (reads.Bad b) → ¬ (b.kind ≡ TooLong)
    → IsFieldPlaceIn names bytes b
faults_have_places names bytes b h = fault_place names bytes (reads.Bad b) h
