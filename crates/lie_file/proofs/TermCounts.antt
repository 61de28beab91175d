-- Each term of a sum but the first takes a byte of the text, so that there are few terms.
use Rattle.std.specs.Prelude.{ℕ, ◌+◌, ◌≡◌, ◌≤◌, Bool, true, false, ◌==◌, List, [], ◌∷◌, length, ℤ, Ok, if◌then◌else◌}
use Rattle.std.proofs.Common.{length-append, ap, subst, arith}
use Rattle.lie_math.specs.Monomial.{Monomial}
use Rattle.lie_geometry.specs.Coordinates.{Space}
use Rattle.lie_scan.specs.declared.fault.BadKind.TheVariants.{Syntax}
use Rattle.lie_scan.specs.declared.runs.Class.TheVariants.{Blank}
use Rattle.lie_scan.specs.Meaning.{turned_sign}
use Rattle.lie_scan.specs.Runs.{after_blanks}
use Rattle.lie_scan.specs.Stops.{stop, ◌>>=◌}
use Rattle.lie_scan.specs.Turns.{all_turns}
use Rattle.lie_scan.specs.Terms.{signed_term_at, term_by, first_sign_of, sum_at, equation_end, right_by, equation_of}
use Rattle.lie_scan.proofs.Blanks.{bind_then, guard_else}
use Rattle.lie_file.proofs.EquationLaws.{end_then}
use Rattle.lie_scan.proofs.Shorter.{Within, behind_shorter}
use Rattle.lie_scan.proofs.TermLaws.{signed_term_at-is}
use Rattle.lie_scan.proofs.TurnCounts.{AtMost, most_bind, most_if, most_of, turn_size, all_turns_most}
use Rattle.lie_scan.proofs.TermSteps.{signed_term_within}

-- ---- the terms of equations
-- terms and the bytes behind them
abbrev together : List (Monomial × ℤ) → List ℕ → ℕ
together ts rest = length ts + length rest

abbrev both : List (Monomial × ℤ) × List ℕ → ℕ
both x = together x.0 x.1

module _ (S : Space) (names : List ℕ) where
  signed_count : (negative : Bool) (ts : List (Monomial × ℤ)) (text : List ℕ) (x : List (Monomial × ℤ) × List ℕ) → signed_term_at S names negative ts text ≡ Ok x → both x ≤ together ts text + 1
  signed_count negative ts text x h =
      let r = signed_term_at-is S names negative ts text x h in
      let more = ap length r.put in
      let one = length-append ts (r.term ∷ []) in
      let left : length x.1 ≤ length text = subst (Within (length text)) h (signed_term_within S names negative ts text) in
      omega arith

  turn_count : (turned : Bool) (ts : List (Monomial × ℤ)) (text : List ℕ) → AtMost (turn_size together both) (together ts text) (term_by S names turned ts text)
  turn_count turned ts [] = omega arith
  turn_count turned ts (c ∷ cs) =
      let n = together ts (c ∷ cs) in
      most_if (turn_size together both) n (c == 43) _ _
      (most_bind (turn_size together both) n (signed_term_at S names turned ts cs) _ (λ x is. let k = signed_count turned ts cs x is in omega arith))
      (most_if (turn_size together both) n (c == 45) _ _
      (most_bind (turn_size together both) n (signed_term_at S names (if turned then false else true) ts cs) _ (λ x is. let k = signed_count (if turned then false else true) ts cs x is in omega arith))
      (let k : n ≤ n = omega arith in k))

  first_sign_shorter : (bs : List ℕ) → length (first_sign_of bs).1 ≤ length bs
  first_sign_shorter [] = omega arith
  first_sign_shorter (c ∷ cs) = go (c == 45) (c == 43)
    where
      go : (m p : Bool) → let s : Bool × List ℕ = if m then (true, cs) else if p then (false, cs) else (false, c ∷ cs) in length s.1 ≤ length (c ∷ cs)
      go true p = omega arith
      go false true = omega arith
      go false false = omega arith

  sum_count : (turned : Bool) (ts : List (Monomial × ℤ)) (text : List ℕ) (x : List (Monomial × ℤ) × List ℕ) → sum_at S names turned ts text ≡ Ok x → both x ≤ together ts text + 1
  unfolding sum_at
  sum_count turned ts text x h =
      let s = first_sign_of (after_blanks text) in
      bind_then (signed_term_at S names (turned_sign s.0 turned) ts s.1) _ x h (λ y is_y more.
      let first = signed_count (turned_sign s.0 turned) ts s.1 y is_y in
      let others = most_of both (together y.0 y.1) (all_turns (term_by S names turned) y.0 y.1) x (all_turns_most together both (term_by S names turned) (turn_count turned) y.0 y.1) more in
      let sign = first_sign_shorter (after_blanks text) in
      let blanks = behind_shorter Blank text in
      omega arith)

  right_count : (ts : List (Monomial × ℤ)) (text : List ℕ) (us : List (Monomial × ℤ)) → right_by S names ts text ≡ Ok us → length us ≤ together ts text
  right_count ts [] us h = cc
  right_count ts (c ∷ cs) us h =
      let g = guard_else (c == 61) (stop Syntax (c ∷ cs)) (sum_at S names true ts cs >>= equation_end) us h in
      bind_then (sum_at S names true ts cs) equation_end us g.1 (λ y is_y rest.
      let sum = sum_count true ts cs y is_y in
      let same = ap length (end_then y us rest).0 in
      omega arith)

  pub equation_count : (text : List ℕ) (ts : List (Monomial × ℤ)) → equation_of S names text ≡ Ok ts → length ts ≤ length text + 1
  unfolding equation_of
  equation_count text ts h = bind_then (sum_at S names false [] text) _ ts h (λ x is_x rest.
      let left = sum_count false [] text x is_x in
      let right = right_count x.0 x.1 ts rest in
      omega arith)
