-- Faults of sums: what stops the reader is a fault of the grammar, and each such fault stops it.
use Rattle.std.specs.Prelude.{ℕ, zero, suc, ◌≡◌, ◌+◌, ◌^◌, ◌<◌, ◌≤◌, Bool, true, false, ◌==◌, nat_lt, List, [], ◌∷◌, ◌++◌, length, ℤ, if◌then◌else◌, Some, None, Ok, Err, refl}
use Rattle.std.specs.declared.result.Result.{Result}
use Rattle.std.proofs.Common.{append_assoc, sym, ap, ◌∙◌, subst, arith}
use Rattle.std.proofs.lemmas.Bool.Decides.{nat_tests}
use Rattle.std.proofs.lemmas.List.{append-nil}
use Rattle.lie_math.specs.Monomial.{Monomial}
use Rattle.lie_geometry.specs.Coordinates.{Space}
use Rattle.lie_ring.specs.Ratios.{signed}
use Rattle.lie_scan.specs.declared.fault.BadKind.TheVariants.{Number}
use Rattle.lie_scan.specs.declared.stop.Stop.{Stop}
use Rattle.lie_scan.specs.Runs.{after_blanks}
use Rattle.lie_scan.specs.Stops.{stop, ◌>>=◌}
use Rattle.lie_scan.specs.Meaning.{size_of, turned_sign}
use Rattle.lie_scan.specs.Turns.{Turn, goes_on, ends, after, turns, all_turns}
use Rattle.lie_scan.specs.Terms.{term_at, with_term, put_by, signed_term_at, term_by, first_sign_of, sum_at}
use Rattle.lie_scan.specs.TokenGrammar.{IsNot, IsSign}
use Rattle.lie_scan.specs.SumGrammar.{IsTerm, sign_of, AreTerms, IsSum}
use Rattle.lie_scan.specs.LineFaults.{IsTermFault, IsTermNext, first_term, further_term, AreWithin, IsSumFault, in_term, large_sum}
use Rattle.lie_scan.proofs.Blanks.{bind_then, ok_is, blanks_to, mark_next, mark_not}
use Rattle.lie_scan.proofs.Shorter.{Within}
use Rattle.lie_scan.proofs.TurnSteps.{turns_stop}
use Rattle.lie_scan.proofs.TermSteps.{term_turn_takes, signed_term_within}
use Rattle.lie_scan.proofs.TermLaws.{AreSmall, IsTermRead, term_at-is, is-term_at, signed_term_at-is}
use Rattle.lie_scan.proofs.SumLaws.{sign_mark, turned_minus, IsSignRead, first_sign-is, is-first_sign, sum_pass}
use Rattle.lie_scan.proofs.CoordinateFaults.{err_is, bind_fails}
use Rattle.lie_scan.proofs.TermFaults.{term_at-fails, is-term_fault}

-- ---- a term with a sign
pub data IsSignedFault (S : Space) (names : List ℕ) (ts : List (Monomial × ℤ)) (text : List ℕ) : Stop → Type 0 where
  faulty : (s : Stop) → IsTermFault S names text s → IsSignedFault S names ts text s
  past_limit : (n : ℕ) (m : Monomial) (rest : List ℕ) → IsTerm S names text n m rest → IsNot 42 (after_blanks rest) → 2 ^ 127 ≤ size_of m ts + n → IsSignedFault S names ts text (stop Number (after_blanks text))

put_fails : (S : Space) (names : List ℕ) (negative : Bool) (ts : List (Monomial × ℤ)) (text : List ℕ) (s : Stop) (t : ℕ × Monomial × List ℕ) → IsTermRead S names text t
    → put_by (with_term negative t.0 t.1 ts) (after_blanks text) t.2 ≡ Err s → IsSignedFault S names ts text s
put_fails S names negative ts text s t term h = go (nat_lt (size_of t.1 ts + t.0) (2 ^ 127)) (λ e. grind (arith, nat_tests, e)) h
  where
    go : (b : Bool) → (b ≡ false → 2 ^ 127 ≤ size_of t.1 ts + t.0) → put_by (if b then Some (ts ++ (t.1, signed negative t.0) ∷ []) else None) (after_blanks text) t.2 ≡ Err s → IsSignedFault S names ts text s
    go true high e = cc
    go false high e = subst (IsSignedFault S names ts text) (err_is (stop Number (after_blanks text)) s e) (past_limit t.0 t.1 term.rest term.is term.no_star (high refl))

signed_term_at-fails : (S : Space) (names : List ℕ) (negative : Bool) (ts : List (Monomial × ℤ)) (text : List ℕ) (s : Stop) → signed_term_at S names negative ts text ≡ Err s → IsSignedFault S names ts text s
unfolding signed_term_at
signed_term_at-fails S names negative ts text s h =
    bind_fails (term_at S names (after_blanks text)) _ s h (λ e. faulty s (term_at-fails S names text s e)) (λ t is_t rest. put_fails S names negative ts text s t (term_at-is S names text t is_t) rest)

is-signed_fault : (S : Space) (names : List ℕ) (negative : Bool) (ts : List (Monomial × ℤ)) (text : List ℕ) (s : Stop) → IsSignedFault S names ts text s → signed_term_at S names negative ts text ≡ Err s
unfolding signed_term_at
is-signed_fault S names negative ts text s (faulty r fault) = rw (is-term_fault S names text r fault) refl
is-signed_fault S names negative ts text s (past_limit n m rest term no_star high) =
    let past : nat_lt (size_of m ts + n) (2 ^ 127) ≡ false = grind (arith, nat_tests, high) in
    rw (is-term_at S names text n m rest term no_star, past) refl

-- ---- the further terms
pub record IsTermsFault (S : Space) (names : List ℕ) (turned : Bool) (ts : List (Monomial × ℤ)) (text : List ℕ) (s : Stop) : Type 0 where
  pub terms : List (Monomial × ℤ)
  pub negative : Bool
  pub back : List ℕ
  pub front : List ℕ
  pub are : AreTerms S names turned text terms back
  pub sign : IsSign (sign_of negative) back front
  pub small : AreSmall (ts ++ terms)
  pub fault : IsSignedFault S names (ts ++ terms) front s

module _ (S : Space) (names : List ℕ) (turned : Bool) (s : Stop) where
  fault_here : (negative : Bool) (ts : List (Monomial × ℤ)) (text cs : List ℕ) → IsSign (sign_of negative) text cs → AreSmall ts → signed_term_at S names (turned_sign negative turned) ts cs ≡ Err s
      → IsTermsFault S names turned ts text s
  fault_here negative ts text cs sign small h = record {
    terms = [];
    negative = negative;
    back = text;
    front = cs;
    are = refl;
    sign = sign;
    small = subst AreSmall (sym (append-nil ts)) small;
    fault = subst (λ us. IsSignedFault S names us cs s) (sym (append-nil ts)) (signed_term_at-fails S names (turned_sign negative turned) ts cs s h);
  }

  fault_later : (negative : Bool) (ts : List (Monomial × ℤ)) (text cs : List ℕ) (y : List (Monomial × ℤ) × List ℕ) → IsSign (sign_of negative) text cs → AreSmall ts
      → signed_term_at S names (turned_sign negative turned) ts cs ≡ Ok y → ((t : List ℕ) → y.1 ≡ after_blanks t → AreSmall y.0 → IsTermsFault S names turned y.0 t s) → IsTermsFault S names turned ts text s
  fault_later negative ts text cs y sign small is again =
      let first = signed_term_at-is S names (turned_sign negative turned) ts cs y is in
      let more = again first.rest first.left (first.small small) in
      let all : y.0 ++ more.terms ≡ ts ++ (first.term ∷ more.terms) = ap (λ l. l ++ more.terms) first.put ∙ append_assoc ts (first.term ∷ []) more.terms in
      record {
        terms = first.term ∷ more.terms;
        negative = more.negative;
        back = more.back;
        front = more.front;
        are = (negative, cs, first.rest, sign, first.is, more.are);
        sign = more.sign;
        small = subst AreSmall all more.small;
        fault = subst (λ us. IsSignedFault S names us more.front s) all more.fault;
      }

  fault_step : (f : List (Monomial × ℤ) → List ℕ → Result (List (Monomial × ℤ) × List ℕ) Stop) (ts : List (Monomial × ℤ)) (text : List ℕ) → AreSmall ts
      → ((us : List (Monomial × ℤ)) (t : List ℕ) → length (after_blanks t) < length (after_blanks text) → AreSmall us → f us (after_blanks t) ≡ Err s → IsTermsFault S names turned us t s)
      → (term_by S names turned ts (after_blanks text) >>= after f) ≡ Err s → IsTermsFault S names turned ts text s
  fault_step f ts text small again h = go (after_blanks text) refl h
    where
      shorter : (b : Bool) (c : ℕ) (cs : List ℕ) (y : List (Monomial × ℤ) × List ℕ) → after_blanks text ≡ c ∷ cs → signed_term_at S names b ts cs ≡ Ok y → length y.1 < length (after_blanks text)
      shorter b c cs y at is =
          let within : length y.1 ≤ length cs = subst (Within (length cs)) is (signed_term_within S names b ts cs) in
          let whole : length (after_blanks text) ≡ length (c ∷ cs) = ap length at in
          omega arith

      signed_one : (negative : Bool) (c : ℕ) (cs : List ℕ) → after_blanks text ≡ c ∷ cs → c ≡ sign_of negative
          → ((signed_term_at S names (turned_sign negative turned) ts cs >>= λ x. Ok (goes_on x.0 x.1)) >>= after f) ≡ Err s
          → ((y : List (Monomial × ℤ) × List ℕ) → signed_term_at S names (turned_sign negative turned) ts cs ≡ Ok y → length y.1 < length (after_blanks text)) → IsTermsFault S names turned ts text s
      signed_one negative c cs at is e shorter_by =
          let sign : IsSign (sign_of negative) text cs = blanks_to text (sign_of negative ∷ cs) (at ∙ ap (λ b. b ∷ cs) is) in
          let turn : List (Monomial × ℤ) × List ℕ → Result (Turn (List (Monomial × ℤ)) (List (Monomial × ℤ) × List ℕ)) Stop = λ y. Ok (goes_on y.0 y.1) in
          bind_fails (signed_term_at S names (turned_sign negative turned) ts cs >>= turn) (after f) s e
          (λ k. bind_fails (signed_term_at S names (turned_sign negative turned) ts cs) turn s k (λ l. fault_here negative ts text cs sign small l) (λ y is_y l. cc))
          (λ z is_z next. bind_then (signed_term_at S names (turned_sign negative turned) ts cs) turn z is_z (λ y is_y made.
          fault_later negative ts text cs y sign small is_y (λ t left small_y.
          again y.0 t (subst (λ (l : List ℕ). length l < length (after_blanks text)) left (shorter_by y is_y)) small_y
          (ap (f y.0) (sym left) ∙ subst (λ w. after f w ≡ Err s) (sym (ok_is (goes_on y.0 y.1) z made)) next))))

      by_tests : (c : ℕ) (cs : List ℕ) (p m : Bool) → after_blanks text ≡ c ∷ cs → (c == 43) ≡ p → (c == 45) ≡ m
          → ((if p then (signed_term_at S names turned ts cs >>= λ x. Ok (goes_on x.0 x.1))
          else if m then (signed_term_at S names (if turned then false else true) ts cs >>= λ x. Ok (goes_on x.0 x.1))
          else Ok (ends (ts, c ∷ cs))) >>= after f) ≡ Err s
          → ((negative : Bool) (c : ℕ) (cs : List ℕ) → after_blanks text ≡ c ∷ cs → c ≡ sign_of negative
          → ((signed_term_at S names (turned_sign negative turned) ts cs >>= λ x. Ok (goes_on x.0 x.1)) >>= after f) ≡ Err s → IsTermsFault S names turned ts text s) → IsTermsFault S names turned ts text s
      by_tests c cs true m at is_p is_m e k = k false c cs at (grind (arith, nat_tests, is_p)) e
      by_tests c cs false true at is_p is_m e k =
          k true c cs at (grind (arith, nat_tests, is_m)) (ap (λ b. (signed_term_at S names b ts cs >>= λ x. Ok (goes_on x.0 x.1)) >>= after f) (turned_minus S names turned turned) ∙ e)
      by_tests c cs false false at is_p is_m e k = cc

      go : (bs : List ℕ) → after_blanks text ≡ bs → (term_by S names turned ts bs >>= after f) ≡ Err s → IsTermsFault S names turned ts text s
      go [] at e = cc
      go (c ∷ cs) at e = by_tests c cs (c == 43) (c == 45) at refl refl e (λ negative d ds is_at is k. signed_one negative d ds is_at is k (λ y is_y. shorter (turned_sign negative turned) d ds y is_at is_y))

  term_turns-fail : (n : ℕ) (ts : List (Monomial × ℤ)) (text : List ℕ) → length (after_blanks text) < n → AreSmall ts → turns (term_by S names turned) n ts (after_blanks text) ≡ Err s → IsTermsFault S names turned ts text s
  term_turns-fail zero ts text low small h = absurd (omega arith)
  term_turns-fail (suc n) ts text low small h = fault_step (turns (term_by S names turned) n) ts text small (λ us t less. term_turns-fail n us t (omega arith)) h

  terms_at-fails : (ts : List (Monomial × ℤ)) (text : List ℕ) → AreSmall ts → all_turns (term_by S names turned) ts (after_blanks text) ≡ Err s → IsTermsFault S names turned ts text s
  unfolding all_turns
  terms_at-fails ts text small h = term_turns-fail (suc (length (after_blanks text))) ts text (omega arith) small h

  a_sign_fails : (negative : Bool) (ts : List (Monomial × ℤ)) (cs : List ℕ) → signed_term_at S names (turned_sign negative turned) ts cs ≡ Err s → term_by S names turned ts (sign_of negative ∷ cs) ≡ Err s
  a_sign_fails false ts cs h = rw h refl
  a_sign_fails true ts cs h = rw (ap (λ b. signed_term_at S names b ts cs) (sym (turned_minus S names turned turned)) ∙ h) refl

-- ---- sums
in_signed : (S : Space) (names : List ℕ) (turned negative : Bool) (before terms : List (Monomial × ℤ)) (text front : List ℕ) (s : Stop) → IsTermNext S names turned text negative terms front → AreWithin (before ++ terms)
    → IsSignedFault S names (before ++ terms) front s → IsSumFault S names turned before text s
in_signed S names turned negative before terms text front s next small (faulty r fault) = in_term negative terms front r next small fault
in_signed S names turned negative before terms text front s next small (past_limit n m rest term no_star high) = large_sum negative terms front n m rest next small term no_star high

pub sum_at-fails : (S : Space) (names : List ℕ) (turned : Bool) (ts : List (Monomial × ℤ)) (text : List ℕ) (s : Stop) → AreWithin ts → sum_at S names turned ts text ≡ Err s → IsSumFault S names turned ts text s
unfolding sum_at
sum_at-fails S names turned ts text s small h =
    let found = first_sign_of (after_blanks text) in
    let sign : IsSignRead text found = first_sign-is text in
    let negative = turned_sign found.0 turned in
    let none : ts ++ [] ≡ ts = append-nil ts in
    bind_fails (signed_term_at S names negative ts found.1) _ s h (λ e.
    let fault = signed_term_at-fails S names negative ts sign.front s (sym (sign.same S names negative ts) ∙ e) in
    in_signed S names turned negative ts [] text sign.front s (first_term found.0 sign.front sign.is) (subst AreWithin (sym none) small) (subst (λ us. IsSignedFault S names us sign.front s) (sym none) fault)) (λ y is_y more.
    let first = signed_term_at-is S names negative ts sign.front y (sym (sign.same S names negative ts) ∙ is_y) in
    let r = terms_at-fails S names turned s y.0 first.rest (first.small small) (ap (all_turns (term_by S names turned) y.0) (sym first.left) ∙ more) in
    let all : y.0 ++ r.terms ≡ ts ++ (first.term ∷ r.terms) = ap (λ l. l ++ r.terms) first.put ∙ append_assoc ts (first.term ∷ []) r.terms in
    let sum : IsSum S names turned text (first.term ∷ r.terms) r.back = record {
      negative = found.0;
      front = sign.front;
      first = first.term;
      behind = first.rest;
      further = r.terms;
      sign = sign.is;
      begins = first.is;
      goes_on = r.are;
      are = refl;
    } in
    in_signed S names turned (turned_sign r.negative turned) ts (first.term ∷ r.terms) text r.front s (further_term r.negative (first.term ∷ r.terms) r.back r.front sum r.sign) (subst AreWithin all r.small)
    (subst (λ us. IsSignedFault S names us r.front s) all r.fault))

next_stops : (S : Space) (names : List ℕ) (turned negative : Bool) (ts terms : List (Monomial × ℤ)) (text front : List ℕ) (s : Stop) → IsTermNext S names turned text negative terms front → AreWithin (ts ++ terms)
    → IsSignedFault S names (ts ++ terms) front s → sum_at S names turned ts text ≡ Err s
unfolding sum_at
next_stops S names turned negative ts terms text front s (first_term sign begin first) small fault =
    let none : ts ++ [] ≡ ts = append-nil ts in
    let stops = is-first_sign S names text sign turned begin ts first ∙ is-signed_fault S names (turned_sign sign turned) ts begin s (subst (λ us. IsSignedFault S names us begin s) none fault) in
    rw stops refl
next_stops S names turned negative ts terms text front s (further_term sign all behind begin sum mark) small fault =
    sum_pass S names turned ts text all behind sum (mark_not (sign_of sign) 42 behind begin (sign_mark sign) (no_star sign) mark) small
    ∙ turns_stop (term_by S names turned) (term_turn_takes S names turned) (ts ++ all) (after_blanks behind) s
    (ap (term_by S names turned (ts ++ all)) (mark_next (sign_of sign) behind begin (sign_mark sign) mark)
    ∙ a_sign_fails S names turned s sign (ts ++ all) begin (is-signed_fault S names (turned_sign sign turned) (ts ++ all) begin s fault))
  where
    no_star : (b : Bool) → (sign_of b == 42) ≡ false
    no_star true = refl
    no_star false = refl

pub is-sum_fault : (S : Space) (names : List ℕ) (turned : Bool) (ts : List (Monomial × ℤ)) (text : List ℕ) (s : Stop) → IsSumFault S names turned ts text s → sum_at S names turned ts text ≡ Err s
is-sum_fault S names turned ts text s (in_term negative terms front r next small fault) = next_stops S names turned negative ts terms text front r next small (faulty r fault)
is-sum_fault S names turned ts text s (large_sum negative terms front n m rest next small term no_star high) =
    next_stops S names turned negative ts terms text front (stop Number (after_blanks front)) next small (past_limit n m rest term no_star high)
