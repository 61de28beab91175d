-- The derivative alone before `=`: it is found exactly where it stands there.
use Rattle.std.specs.Prelude.{ℕ, ◌≡◌, ◌+◌, ◌≤◌, Bool, true, false, ◌==◌, List, [], ◌∷◌, if◌then◌else◌, Option, Some, None, Ok, Err, refl}
use Rattle.std.specs.declared.result.Result.{Result}
use Rattle.std.proofs.Common.{sym, ap, ◌∙◌, subst, arith}
use Rattle.std.proofs.lemmas.Bool.Decides.{nat_tests}
use Rattle.lie_math.specs.Counts.{order}
use Rattle.lie_geometry.specs.Coordinates.{Space, Coordinate, independent, jet, order_of}
use Rattle.lie_scan.specs.declared.stop.Stop.{Stop}
use Rattle.lie_scan.specs.Runs.{after_blanks}
use Rattle.lie_scan.specs.Tokens.{coordinate_at}
use Rattle.lie_file.specs.Leads.{not_zeros, derivative_in, before_equal, lead_by, lead_of}
use Rattle.lie_scan.specs.SumGrammar.{IsLeadOf, HasLead}
use Rattle.lie_scan.proofs.Blanks.{blanks_to, IsMark, mark_next}
use Rattle.lie_scan.proofs.CoordinateLaws.{coordinate_at-is, is-coordinate_at}

pub equals_mark : IsMark 61
equals_mark = record { no_blank = refl }

not_zeros-is : (J : List ℕ) → not_zeros J ≡ true → 1 ≤ order J
not_zeros-is [] h = cc
not_zeros-is (c ∷ J) h = go (c == 0) refl (not_zeros-is J) h
  where
    go : (t : Bool) → (c == 0) ≡ t → (not_zeros J ≡ true → 1 ≤ order J) → (if t then not_zeros J else true) ≡ true → 1 ≤ c + order J
    go true test k e = let more = k e in omega arith
    go false test k e = let some : 1 ≤ c = grind (arith, nat_tests, test) in omega arith

is-not_zeros : (J : List ℕ) → 1 ≤ order J → not_zeros J ≡ true
is-not_zeros [] h = absurd (omega arith)
is-not_zeros (c ∷ J) h = go (c == 0) refl (is-not_zeros J)
  where
    go : (t : Bool) → (c == 0) ≡ t → (1 ≤ order J → not_zeros J ≡ true) → (if t then not_zeros J else true) ≡ true
    go true test k = let none : c ≡ 0 = grind (arith, nat_tests, test) in k (omega arith)
    go false test k = refl

derivative_then : (d c : Coordinate) → derivative_in d ≡ Some c → (d ≡ c) × (1 ≤ order_of d)
derivative_then (independent i) c h = cc
derivative_then (jet a J) c h = go (not_zeros J) refl h
  where
    go : (t : Bool) → not_zeros J ≡ t → (if t then Some (jet a J) else None) ≡ Some c → (jet a J ≡ c) × (1 ≤ order J)
    go true test e = (cc, not_zeros-is J test)
    go false test e = cc

is-derivative_in : (c : Coordinate) → 1 ≤ order_of c → derivative_in c ≡ Some c
is-derivative_in (independent i) h = absurd (omega arith)
is-derivative_in (jet a J) h = rw (is-not_zeros J h) refl

before_then : (o : Option Coordinate) (bs : List ℕ) (c : Coordinate) → before_equal o bs ≡ Some c → (cs : List ℕ) × (bs ≡ 61 ∷ cs) × (o ≡ Some c)
before_then o [] c h = cc
before_then o (b ∷ bs) c h = go (b == 61) (λ e. grind (arith, nat_tests, e)) h
  where
    go : (t : Bool) → (t ≡ true → b ≡ 61) → (if t then o else None) ≡ Some c → (cs : List ℕ) × (b ∷ bs ≡ 61 ∷ cs) × (o ≡ Some c)
    go true is e = (bs, ap (λ x. x ∷ bs) (is refl), e)
    go false is e = cc

lead_of-is : (S : Space) (names text : List ℕ) (c : Coordinate) → lead_of S names text ≡ Some c → IsLeadOf S names text c
unfolding lead_of
lead_of-is S names text c h = go (coordinate_at S names (after_blanks text)) refl h
  where
    go : (r : Result (Coordinate × List ℕ) Stop) → coordinate_at S names (after_blanks text) ≡ r → lead_by r ≡ Some c → IsLeadOf S names text c
    go (Err e) at k = cc
    go (Ok x) at k =
        let equal = before_then (derivative_in x.0) (after_blanks x.1) c k in
        let derivative = derivative_then x.0 c equal.2 in
        subst (IsLeadOf S names text) derivative.0 (record {
          behind = x.1;
          right = equal.0;
          alone = coordinate_at-is S names text x at;
          derivative = derivative.1;
          equals = blanks_to x.1 (61 ∷ equal.0) equal.1;
        })

is-lead_of : (S : Space) (names text : List ℕ) (c : Coordinate) → IsLeadOf S names text c → lead_of S names text ≡ Some c
unfolding lead_of
is-lead_of S names text c h =
    let alone = is-coordinate_at S names text c h.behind h.alone in
    rw (alone, mark_next 61 h.behind h.right equals_mark h.equals) (is-derivative_in c h.derivative)

pub lead-is : (S : Space) (names text : List ℕ) → HasLead S names text (lead_of S names text)
lead-is S names text = go (lead_of S names text) refl
  where
    go : (o : Option Coordinate) → lead_of S names text ≡ o → HasLead S names text o
    go (Some c) h = lead_of-is S names text c h
    go None h = λ c is. let clash : ◌≡◌ {A = Option Coordinate} None (Some c) = sym h ∙ is-lead_of S names text c is in cc

pub is-lead : (S : Space) (names text : List ℕ) (o : Option Coordinate) → HasLead S names text o → lead_of S names text ≡ o
is-lead S names text (Some c) h = is-lead_of S names text c h
is-lead S names text None h = go (lead_of S names text) refl
  where
    go : (o : Option Coordinate) → lead_of S names text ≡ o → o ≡ None
    go None e = refl
    go (Some c) e = absurd (h c (lead_of-is S names text c e))
