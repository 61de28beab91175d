-- Sums: what is read is of the grammar, and what is of the grammar is read.
use Rattle.std.specs.Prelude.{ℕ, zero, suc, ◌≡◌, ◌≤◌, Bool, true, false, ◌==◌, List, [], ◌∷◌, ◌++◌, length, ℤ, if◌then◌else◌, Ok, refl}
use Rattle.std.specs.declared.result.Result.{Result}
use Rattle.std.proofs.Common.{append_assoc, sym, ap, ◌∙◌, subst, inl, inr, arith}
use Rattle.std.proofs.lemmas.Bool.Decides.{nat_tests}
use Rattle.std.proofs.lemmas.List.{append-nil}
use Rattle.lie_math.specs.Monomial.{Monomial}
use Rattle.lie_geometry.specs.Coordinates.{Space}
use Rattle.lie_scan.specs.declared.stop.Stop.{Stop}
use Rattle.lie_scan.specs.Runs.{after_blanks}
use Rattle.lie_scan.specs.Stops.{◌>>=◌}
use Rattle.lie_scan.specs.Meaning.{size_of, turned_sign}
use Rattle.lie_scan.specs.Turns.{Turn, goes_on, ends, after, turns, all_turns}
use Rattle.lie_scan.specs.Terms.{signed_term_at, term_by, first_sign_of, sum_at}
use Rattle.lie_scan.specs.TokenGrammar.{IsSign, IsNot}
use Rattle.lie_scan.specs.LineFaults.{IsEndOfSum}
use Rattle.lie_scan.specs.SumGrammar.{sign_of, AreTerms, IsFirstSign, IsSum}
use Rattle.lie_scan.proofs.Blanks.{bind_then, ok_is, blanks_to, IsMark, mark_next, mark_not}
use Rattle.lie_scan.proofs.TurnSteps.{turns_on, turns_end}
use Rattle.lie_scan.proofs.TermSteps.{term_turn_takes}
use Rattle.lie_scan.proofs.TermLaws.{AreSmall, signed_term_at-is, is-signed_term_at, signed_term_at-blanks}

pub sign_mark : (negative : Bool) → IsMark (sign_of negative)
sign_mark true = record { no_blank = refl }
sign_mark false = record { no_blank = refl }

-- ---- sizes
size_of-append : (m : Monomial) (ts us : List (Monomial × ℤ)) → size_of m ts ≤ size_of m (ts ++ us)
size_of-append m [] us = omega arith
size_of-append m (t ∷ ts) us = let e = size_of-append m ts us in omega arith

pub small_front : (ts us : List (Monomial × ℤ)) → AreSmall (ts ++ us) → AreSmall ts
small_front ts us h m = let a = size_of-append m ts us in let b = h m in omega arith

-- ---- the further terms
pub record AreTermsRead (S : Space) (names : List ℕ) (turned : Bool) (ts : List (Monomial × ℤ)) (text : List ℕ) (x : List (Monomial × ℤ) × List ℕ) : Type 0 where
  pub terms : List (Monomial × ℤ)
  pub rest : List ℕ
  pub are : AreTerms S names turned text terms rest
  pub put : x.0 ≡ ts ++ terms
  pub left : x.1 ≡ after_blanks rest
  pub at_end : IsEndOfSum rest
  pub small : AreSmall ts → AreSmall x.0

module _ (S : Space) (names : List ℕ) (turned : Bool) where
  no_more : (ts : List (Monomial × ℤ)) (text : List ℕ) (x : List (Monomial × ℤ) × List ℕ) → IsEndOfSum text → ◌≡◌ {A = List (Monomial × ℤ) × List ℕ} (ts, after_blanks text) x → AreTermsRead S names turned ts text x
  no_more ts text x at_end same = subst (AreTermsRead S names turned ts text) same (record { terms = []; rest = text; are = refl; put = sym (append-nil ts); left = refl; at_end = at_end; small = λ small. small })

  one_more : (negative : Bool) (ts : List (Monomial × ℤ)) (text cs : List ℕ) (x y : List (Monomial × ℤ) × List ℕ) → IsSign (sign_of negative) text cs
      → signed_term_at S names (turned_sign negative turned) ts cs ≡ Ok y → ((t : List ℕ) → IsNot 42 (after_blanks t) → y.1 ≡ after_blanks t → AreTermsRead S names turned y.0 t x) → AreTermsRead S names turned ts text x
  one_more negative ts text cs x y sign is again =
      let first = signed_term_at-is S names (turned_sign negative turned) ts cs y is in
      let more = again first.rest first.no_star first.left in record {
        terms = first.term ∷ more.terms;
        rest = more.rest;
        are = (negative, cs, first.rest, sign, first.is, more.are);
        put = more.put ∙ ap (λ l. l ++ more.terms) first.put ∙ append_assoc ts (first.term ∷ []) more.terms;
        left = more.left;
        at_end = more.at_end;
        small = λ small. more.small (first.small small);
      }

  pub turned_minus : (b : Bool) → turned_sign true b ≡ (if b then false else true)
  turned_minus true = refl
  turned_minus false = refl

  step : (f : List (Monomial × ℤ) → List ℕ → Result (List (Monomial × ℤ) × List ℕ) Stop) (ts : List (Monomial × ℤ)) (text : List ℕ) (x : List (Monomial × ℤ) × List ℕ)
      → IsNot 42 (after_blanks text) → ((us : List (Monomial × ℤ)) (t : List ℕ) → IsNot 42 (after_blanks t) → f us (after_blanks t) ≡ Ok x → AreTermsRead S names turned us t x) → (term_by S names turned ts (after_blanks text) >>= after f) ≡ Ok x
      → AreTermsRead S names turned ts text x
  step f ts text x no_star again h = go (after_blanks text) refl h
    where
      further : (negative : Bool) (c : ℕ) (cs : List ℕ) → after_blanks text ≡ c ∷ cs → c ≡ sign_of negative
          → ((signed_term_at S names (turned_sign negative turned) ts cs >>= λ x. Ok (goes_on x.0 x.1)) >>= after f) ≡ Ok x → AreTermsRead S names turned ts text x
      further negative c cs at is e =
          let turn : List (Monomial × ℤ) × List ℕ → Result (Turn (List (Monomial × ℤ)) (List (Monomial × ℤ) × List ℕ)) Stop = λ y. Ok (goes_on y.0 y.1) in
          bind_then (signed_term_at S names (turned_sign negative turned) ts cs >>= turn) (after f) x e (λ z is_z next.
          bind_then (signed_term_at S names (turned_sign negative turned) ts cs) turn z is_z (λ y is_y made.
          one_more negative ts text cs x y (blanks_to text (sign_of negative ∷ cs) (at ∙ ap (λ b. b ∷ cs) is)) is_y (λ t not left.
          again y.0 t not (ap (f y.0) (sym left) ∙ subst (λ w. after f w ≡ Ok x) (sym (ok_is (goes_on y.0 y.1) z made)) next))))

      ended : (bs : List ℕ) → after_blanks text ≡ bs → IsNot 43 bs → IsNot 45 bs → ◌≡◌ {A = List (Monomial × ℤ) × List ℕ} (ts, bs) x → AreTermsRead S names turned ts text x
      ended bs at plus minus same =
          no_more ts text x (record { no_star = no_star; no_plus = subst (IsNot 43) (sym at) plus; no_minus = subst (IsNot 45) (sym at) minus }) (ap (λ b. (ts, b)) at ∙ same)

      by_tests : (c : ℕ) (cs : List ℕ) (p m : Bool) → after_blanks text ≡ c ∷ cs → (c == 43) ≡ p → (c == 45) ≡ m
          → ((if p then (signed_term_at S names turned ts cs >>= λ x. Ok (goes_on x.0 x.1))
          else if m then (signed_term_at S names (if turned then false else true) ts cs >>= λ x. Ok (goes_on x.0 x.1))
          else Ok (ends (ts, c ∷ cs))) >>= after f) ≡ Ok x
          → ((negative : Bool) (c : ℕ) (cs : List ℕ) → after_blanks text ≡ c ∷ cs → c ≡ sign_of negative
          → ((signed_term_at S names (turned_sign negative turned) ts cs >>= λ x. Ok (goes_on x.0 x.1)) >>= after f) ≡ Ok x → AreTermsRead S names turned ts text x)
          → ((bs : List ℕ) → after_blanks text ≡ bs → IsNot 43 bs → IsNot 45 bs → ◌≡◌ {A = List (Monomial × ℤ) × List ℕ} (ts, bs) x → AreTermsRead S names turned ts text x) → AreTermsRead S names turned ts text x
      by_tests c cs true m at is_p is_m e k l = k false c cs at (grind (arith, nat_tests, is_p)) e
      by_tests c cs false true at is_p is_m e k l =
          k true c cs at (grind (arith, nat_tests, is_m)) (ap (λ b. (signed_term_at S names b ts cs >>= λ x. Ok (goes_on x.0 x.1)) >>= after f) (turned_minus turned) ∙ e)
      by_tests c cs false false at is_p is_m e k l = l (c ∷ cs) at is_p is_m (ok_is (ts, c ∷ cs) x e)

      go : (bs : List ℕ) → after_blanks text ≡ bs → (term_by S names turned ts bs >>= after f) ≡ Ok x → AreTermsRead S names turned ts text x
      go [] at e = ended [] at tt tt (ok_is (ts, []) x e)
      go (c ∷ cs) at e = by_tests c cs (c == 43) (c == 45) at refl refl e further ended

  term_turns-is : (n : ℕ) (ts : List (Monomial × ℤ)) (text : List ℕ) (x : List (Monomial × ℤ) × List ℕ) → IsNot 42 (after_blanks text) → turns (term_by S names turned) n ts (after_blanks text) ≡ Ok x → AreTermsRead S names turned ts text x
  term_turns-is zero ts text x not h = cc
  term_turns-is (suc n) ts text x not h = step (turns (term_by S names turned) n) ts text x not (λ us t. term_turns-is n us t x) h

  pub terms_at-is : (ts : List (Monomial × ℤ)) (text : List ℕ) (x : List (Monomial × ℤ) × List ℕ) → IsNot 42 (after_blanks text) → all_turns (term_by S names turned) ts (after_blanks text) ≡ Ok x → AreTermsRead S names turned ts text x
  unfolding all_turns
  terms_at-is ts text x not h = term_turns-is (suc (length (after_blanks text))) ts text x not h

  pub terms_not : (d : ℕ) (text : List ℕ) (ts : List (Monomial × ℤ)) (rest : List ℕ) → (45 == d) ≡ false → (43 == d) ≡ false → AreTerms S names turned text ts rest → IsNot d (after_blanks rest) → IsNot d (after_blanks text)
  terms_not d text [] rest minus plus h not = subst (λ t. IsNot d (after_blanks t)) (sym h) not
  terms_not d text (t ∷ ts) rest minus plus h not = mark_not (sign_of h.0) d text h.1 (sign_mark h.0) (other h.0) h.3
    where
      other : (b : Bool) → (sign_of b == d) ≡ false
      other true = minus
      other false = plus

  no_sign : (ts : List (Monomial × ℤ)) (bs : List ℕ) → IsNot 43 bs → IsNot 45 bs → term_by S names turned ts bs ≡ Ok (ends (ts, bs))
  no_sign ts [] p m = refl
  no_sign ts (c ∷ cs) p m = rw (p, m) refl

  a_sign : (negative : Bool) (ts : List (Monomial × ℤ)) (cs : List ℕ) (y : List (Monomial × ℤ) × List ℕ) → signed_term_at S names (turned_sign negative turned) ts cs ≡ Ok y
      → term_by S names turned ts (sign_of negative ∷ cs) ≡ Ok (goes_on y.0 y.1)
  a_sign false ts cs y h = rw h refl
  a_sign true ts cs y h = rw (ap (λ b. signed_term_at S names b ts cs) (sym (turned_minus turned)) ∙ h) refl

module _ (S : Space) (names : List ℕ) (turned : Bool) (rest : List ℕ) (no_star : IsNot 42 (after_blanks rest)) where
  -- the terms in front are read, and then what is behind
  pub terms_pass : (ts : List (Monomial × ℤ)) (text : List ℕ) (us : List (Monomial × ℤ)) → AreTerms S names turned text us rest → AreSmall (ts ++ us)
      → all_turns (term_by S names turned) ts (after_blanks text) ≡ all_turns (term_by S names turned) (ts ++ us) (after_blanks rest)
  terms_pass ts text [] h small = ap (λ t. all_turns (term_by S names turned) ts (after_blanks t)) h ∙ ap (λ l. all_turns (term_by S names turned) l (after_blanks rest)) (sym (append-nil ts))
  terms_pass ts text (u ∷ us) h small =
      let behind = h.2 in
      let all : ts ++ (u ∷ us) ≡ (ts ++ u ∷ []) ++ us = sym (append_assoc ts (u ∷ []) us) in
      let whole : AreSmall ((ts ++ u ∷ []) ++ us) = subst AreSmall all small in
      let term = is-signed_term_at S names (turned_sign h.0 turned) ts h.1 u behind h.4 (terms_not S names turned 42 behind us rest refl refl h.5 no_star) (small_front (ts ++ u ∷ []) us whole) in
      turns_on (term_by S names turned) (term_turn_takes S names turned) ts (after_blanks text) (ts ++ u ∷ []) (after_blanks behind)
      (ap (term_by S names turned ts) (mark_next (sign_of h.0) text h.1 (sign_mark h.0) h.3) ∙ a_sign S names turned h.0 ts h.1 (ts ++ u ∷ [], after_blanks behind) term)
      ∙ terms_pass (ts ++ u ∷ []) behind us h.5 whole ∙ ap (λ l. all_turns (term_by S names turned) l (after_blanks rest)) (sym all)

pub no_more_terms : (S : Space) (names : List ℕ) (turned : Bool) (ts : List (Monomial × ℤ)) (rest : List ℕ) → IsEndOfSum rest → all_turns (term_by S names turned) ts (after_blanks rest) ≡ Ok (ts, after_blanks rest)
no_more_terms S names turned ts rest at_end =
    turns_end (term_by S names turned) (term_turn_takes S names turned) ts (after_blanks rest) (ts, after_blanks rest) (no_sign S names turned ts (after_blanks rest) at_end.no_plus at_end.no_minus)

-- ---- sums
pub record IsSumRead (S : Space) (names : List ℕ) (turned : Bool) (ts : List (Monomial × ℤ)) (text : List ℕ) (x : List (Monomial × ℤ) × List ℕ) : Type 0 where
  pub terms : List (Monomial × ℤ)
  pub rest : List ℕ
  pub is : IsSum S names turned text terms rest
  pub put : x.0 ≡ ts ++ terms
  pub left : x.1 ≡ after_blanks rest
  pub at_end : IsEndOfSum rest
  pub small : AreSmall ts → AreSmall x.0

-- the sign in front of a sum, and what is behind it up to blanks
pub record IsSignRead (text : List ℕ) (s : Bool × List ℕ) : Type 0 where
  pub front : List ℕ
  pub is : IsFirstSign text s.0 front
  pub same : (S : Space) (names : List ℕ) (negative : Bool) (ts : List (Monomial × ℤ)) → signed_term_at S names negative ts s.1 ≡ signed_term_at S names negative ts front

pub first_sign-is : (text : List ℕ) → IsSignRead text (first_sign_of (after_blanks text))
first_sign-is text = go (after_blanks text) refl
  where
    bare : (bs : List ℕ) → after_blanks text ≡ bs → IsNot 43 bs → IsNot 45 bs → IsSignRead text (false, bs)
    bare bs at plus minus = subst (λ (b : List ℕ). IsSignRead text (false, b)) at (record {
      front = text;
      is = inr (refl, refl, subst (IsNot 43) (sym at) plus, subst (IsNot 45) (sym at) minus);
      same = λ S names negative ts. signed_term_at-blanks S names negative ts text;
    })

    signed : (negative : Bool) (c : ℕ) (cs : List ℕ) → after_blanks text ≡ c ∷ cs → c ≡ sign_of negative → IsSignRead text (negative, cs)
    signed negative c cs at is = record { front = cs; is = inl (blanks_to text (sign_of negative ∷ cs) (at ∙ ap (λ b. b ∷ cs) is)); same = λ S names negative ts. refl }

    by_tests : (c : ℕ) (cs : List ℕ) (m p : Bool) → after_blanks text ≡ c ∷ cs → (c == 45) ≡ m → (c == 43) ≡ p
        → ((negative : Bool) (c : ℕ) (cs : List ℕ) → after_blanks text ≡ c ∷ cs → c ≡ sign_of negative → IsSignRead text (negative, cs))
        → ((bs : List ℕ) → after_blanks text ≡ bs → IsNot 43 bs → IsNot 45 bs → IsSignRead text (false, bs))
        → IsSignRead text (if m then (true, cs) else if p then (false, cs) else (false, c ∷ cs))
    by_tests c cs true p at is_m is_p k l = k true c cs at (grind (arith, nat_tests, is_m))
    by_tests c cs false true at is_m is_p k l = k false c cs at (grind (arith, nat_tests, is_p))
    by_tests c cs false false at is_m is_p k l = l (c ∷ cs) at is_p is_m

    go : (bs : List ℕ) → after_blanks text ≡ bs → IsSignRead text (first_sign_of bs)
    go [] at = bare [] at tt tt
    go (c ∷ cs) at = by_tests c cs (c == 45) (c == 43) at refl refl signed bare

pub sum_at-is : (S : Space) (names : List ℕ) (turned : Bool) (ts : List (Monomial × ℤ)) (text : List ℕ) (x : List (Monomial × ℤ) × List ℕ) → sum_at S names turned ts text ≡ Ok x → IsSumRead S names turned ts text x
unfolding sum_at
sum_at-is S names turned ts text x h =
    let s = first_sign_of (after_blanks text) in
    let sign : IsSignRead text s = first_sign-is text in
    bind_then (signed_term_at S names (turned_sign s.0 turned) ts s.1) _ x h (λ y is_y more.
    let first = signed_term_at-is S names (turned_sign s.0 turned) ts sign.front y (sym (sign.same S names (turned_sign s.0 turned) ts) ∙ is_y) in
    let others = terms_at-is S names turned y.0 first.rest x first.no_star (ap (all_turns (term_by S names turned) y.0) (sym first.left) ∙ more) in
    record {
      terms = first.term ∷ others.terms;
      rest = others.rest;
      is = record {
        negative = s.0;
        front = sign.front;
        first = first.term;
        behind = first.rest;
        further = others.terms;
        sign = sign.is;
        begins = first.is;
        goes_on = others.are;
        are = refl;
      };
      put = others.put ∙ ap (λ l. l ++ others.terms) first.put ∙ append_assoc ts (first.term ∷ []) others.terms;
      left = others.left;
      at_end = others.at_end;
      small = λ small. others.small (first.small small);
    })

no_first_sign : (bs : List ℕ) → IsNot 43 bs → IsNot 45 bs → first_sign_of bs ≡ (false, bs)
no_first_sign [] plus minus = refl
no_first_sign (c ∷ cs) plus minus = rw (minus, plus) refl

pub is-first_sign : (S : Space) (names text : List ℕ) (negative turned : Bool) (front : List ℕ) (ts : List (Monomial × ℤ)) → IsFirstSign text negative front
    → signed_term_at S names (turned_sign (first_sign_of (after_blanks text)).0 turned) ts (first_sign_of (after_blanks text)).1 ≡ signed_term_at S names (turned_sign negative turned) ts front
is-first_sign S names text negative turned front ts h = elim h [
  | inl sign ↦ (
      ap (λ (s : Bool × List ℕ). signed_term_at S names (turned_sign s.0 turned) ts s.1) (ap first_sign_of (mark_next (sign_of negative) text front (sign_mark negative) sign) ∙ computed negative))
  | inr bare ↦ (
      ap (λ (s : Bool × List ℕ). signed_term_at S names (turned_sign s.0 turned) ts s.1) (no_first_sign (after_blanks text) bare.2 bare.3)
      ∙ signed_term_at-blanks S names (turned_sign false turned) ts text ∙ ap (λ b. signed_term_at S names (turned_sign b turned) ts text) (sym bare.0) ∙ ap (signed_term_at S names (turned_sign negative turned) ts) bare.1)
]
  where
    computed : (b : Bool) → ◌≡◌ {A = Bool × List ℕ} (first_sign_of (sign_of b ∷ front)) (b, front)
    computed true = refl
    computed false = refl

-- the terms of a sum in front are read, and then what is behind
pub sum_pass : (S : Space) (names : List ℕ) (turned : Bool) (ts : List (Monomial × ℤ)) (text : List ℕ) (us : List (Monomial × ℤ)) (rest : List ℕ) → IsSum S names turned text us rest
    → IsNot 42 (after_blanks rest) → AreSmall (ts ++ us) → sum_at S names turned ts text ≡ all_turns (term_by S names turned) (ts ++ us) (after_blanks rest)
unfolding sum_at
sum_pass S names turned ts text us rest h no_star small =
    let t = h.first in
    let all : ts ++ us ≡ (ts ++ t ∷ []) ++ h.further = ap (λ l. ts ++ l) h.are ∙ sym (append_assoc ts (t ∷ []) h.further) in
    let whole : AreSmall ((ts ++ t ∷ []) ++ h.further) = subst AreSmall all small in
    let first = is-first_sign S names text h.negative turned h.front ts h.sign
    ∙ is-signed_term_at S names (turned_sign h.negative turned) ts h.front t h.behind h.begins (terms_not S names turned 42 h.behind h.further rest refl refl h.goes_on no_star)
    (small_front (ts ++ t ∷ []) h.further whole) in
    rw first (terms_pass S names turned rest no_star (ts ++ t ∷ []) h.behind h.further h.goes_on whole ∙ ap (λ l. all_turns (term_by S names turned) l (after_blanks rest)) (sym all))

pub is-sum_at : (S : Space) (names : List ℕ) (turned : Bool) (ts : List (Monomial × ℤ)) (text : List ℕ) (us : List (Monomial × ℤ)) (rest : List ℕ) → IsSum S names turned text us rest
    → IsEndOfSum rest → AreSmall (ts ++ us) → sum_at S names turned ts text ≡ Ok (ts ++ us, after_blanks rest)
is-sum_at S names turned ts text us rest h at_end small = sum_pass S names turned ts text us rest h at_end.no_star small ∙ no_more_terms S names turned (ts ++ us) rest at_end
