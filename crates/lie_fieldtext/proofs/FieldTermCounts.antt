-- The terms of a field text are few, and their exponents small.
use Rattle.std.specs.Prelude.{ℕ, ◌+◌, ◌≡◌, ◌≤◌, Bool, true, false, ◌==◌, List, [], ◌∷◌, length, Ok, if◌then◌else◌}
use Rattle.std.specs.List.{AllByRecursion as Every}
use Rattle.std.proofs.Common.{length-append, sym, ap, subst, inl, inr, arith}
use Rattle.lie_scan.specs.declared.runs.Class.TheVariants.{Blank}
use Rattle.lie_fieldtext.specs.declared.field_term.FieldTerm.{FieldTerm}
use Rattle.lie_system.specs.Exponents.{HasSmallExponents}
use Rattle.lie_scan.specs.Runs.{after_blanks}
use Rattle.lie_scan.specs.Turns.{all_turns}
use Rattle.lie_fieldtext.specs.FieldGrammar.{IsFieldTerm, AreFieldTerms, HasFieldTerms}
use Rattle.lie_fieldtext.specs.FieldReading.{signed_at, term_by, term_turn, sign_by, first_sign_at, sum_of, is_zero, terms_of, read_terms}
use Rattle.lie_scan.proofs.Blanks.{bind_then, ok_is}
use Rattle.lie_scan.proofs.Shorter.{Within, behind_shorter}
use Rattle.lie_fieldtext.proofs.FieldShorter.{signed_within}
use Rattle.lie_fieldtext.proofs.FieldSums.{IsSignedRead, IsSignedFault, signed_told}
use Rattle.lie_fieldtext.proofs.FieldSumsBack.{text_is}
use Rattle.lie_fieldtext.proofs.FieldTexts.{terms_of_read}
use Rattle.lie_fieldtext.proofs.FieldTold.{Told}
use Rattle.lie_scan.proofs.TurnCounts.{AtMost, most_bind, most_if, most_of, turn_size, all_turns_most}

-- ---- few terms
-- terms and the bytes behind them
abbrev together : List FieldTerm → List ℕ → ℕ
together ts rest = length ts + length rest

module _ (names : List ℕ) where
  signed_count : (negative : Bool) (ts : List FieldTerm) (text : List ℕ) (x : List FieldTerm × List ℕ) → signed_at names negative ts text ≡ Ok x → together x.0 x.1 ≤ together ts text + 1
  signed_count negative ts text x h =
      let r : IsSignedRead names negative ts text x = subst (Told (IsSignedRead names negative ts text) (IsSignedFault names negative ts text)) h (signed_told names negative ts text) in
      let more = ap length r.put in
      let one = length-append ts (r.term ∷ []) in
      let left : length x.1 ≤ length text = subst (Within (length text)) h (signed_within names negative ts text) in
      omega arith

  by_count : (ts : List FieldTerm) (bs : List ℕ) (n : ℕ) → together ts bs ≤ n → AtMost (turn_size together length) n (term_by names ts bs)
  by_count ts [] n le = omega arith
  by_count ts (c ∷ cs) n le =
      most_if (turn_size together length) n (c == 43) _ _
      (most_bind (turn_size together length) n (signed_at names false ts cs) _ (λ x is. let k = signed_count false ts cs x is in omega arith))
      (most_if (turn_size together length) n (c == 45) _ _
      (most_bind (turn_size together length) n (signed_at names true ts cs) _ (λ x is. let k = signed_count true ts cs x is in omega arith)) tt)

  turn_count : (ts : List FieldTerm) (text : List ℕ) → AtMost (turn_size together length) (together ts text) (term_turn names ts text)
  turn_count ts text = by_count ts (after_blanks text) (together ts text) (let k = behind_shorter Blank text in omega arith)

  sign_shorter : (text : List ℕ) → length (first_sign_at text).1 ≤ length text
  unfolding first_sign_at
  sign_shorter text = go (after_blanks text) (behind_shorter Blank text)
    where
      by_tests : (c : ℕ) (cs : List ℕ) (m p : Bool) → length (c ∷ cs) ≤ length text → let s : Bool × List ℕ = if m then (true, cs) else if p then (false, cs) else (false, text) in length s.1 ≤ length text
      by_tests c cs true p le = omega arith
      by_tests c cs false true le = omega arith
      by_tests c cs false false le = omega arith

      go : (bs : List ℕ) → length bs ≤ length text → length (sign_by text bs).1 ≤ length text
      go [] le = omega arith
      go (c ∷ cs) le = by_tests c cs (c == 45) (c == 43) le

  sum_count : (text : List ℕ) (ts : List FieldTerm) → sum_of names text ≡ Ok ts → length ts ≤ length text + 1
  unfolding sum_of
  sum_count text ts h =
      bind_then (signed_at names (first_sign_at text).0 [] (first_sign_at text).1) _ ts h (λ x is_x more.
      let first = signed_count (first_sign_at text).0 [] (first_sign_at text).1 x is_x in
      let others = most_of length (together x.0 x.1) (all_turns (term_turn names) x.0 x.1) ts (all_turns_most together length (term_turn names) turn_count x.0 x.1) more in
      let sign = sign_shorter text in
      omega arith)

  terms_count : (text : List ℕ) (ts : List FieldTerm) → terms_of names text ≡ Ok ts → length ts ≤ length text + 1
  unfolding terms_of
  terms_count text ts h = go (is_zero text) h
    where
      go : (b : Bool) → (if b then Ok [] else sum_of names text) ≡ Ok ts → length ts ≤ length text + 1
      go true e = let same = ap length (ok_is [] ts e) in omega arith
      go false e = sum_count text ts e

-- ---- small exponents
abbrev HasSmallTerm : FieldTerm → Type 0
HasSmallTerm t = HasSmallExponents t.monomial

term_small : (names text : List ℕ) (negative : Bool) (t : FieldTerm) (rest : List ℕ) → IsFieldTerm names text negative t rest → HasSmallTerm t
term_small names text negative t rest h = subst HasSmallExponents (sym h.monomial) h.front.small

further_small : (names text : List ℕ) (ts : List FieldTerm) (rest : List ℕ) → AreFieldTerms names text ts rest → Every HasSmallTerm ts
further_small names text [] rest h = tt
further_small names text (t ∷ ts) rest h = (term_small names h.1 h.0 t h.2 h.4, further_small names h.2 ts rest h.5)

text_small : (names text : List ℕ) (ts : List FieldTerm) → HasFieldTerms names text ts → Every HasSmallTerm ts
text_small names text ts h = elim h [
  | inl none ↦ subst (Every HasSmallTerm) (sym none.1) tt
  | inr sum ↦ (let s = sum.1 in subst (Every HasSmallTerm) (sym s.are) (term_small names s.front s.negative s.first s.behind s.begins, further_small names s.behind s.further sum.0 s.goes_on))
]

-- ---- the terms that a call read
pub read_small : (names bytes : List ℕ) (ts : List FieldTerm) → read_terms names bytes ≡ Ok ts → Every (λ (t : FieldTerm). HasSmallExponents t.monomial) ts
read_small names bytes ts e = text_small names bytes ts (terms_of_read names bytes ts e).has

pub read_few : (names bytes : List ℕ) (ts : List FieldTerm) → read_terms names bytes ≡ Ok ts → length ts ≤ 1000000
read_few names bytes ts e =
    let h = terms_of_read names bytes ts e in
    let count = terms_count names bytes ts (text_is names bytes ts (h.has, h.within)) in
    let short = h.short in
    omega arith
