-- The same bytes have one answer.
use Rattle.std.specs.Prelude.{not, ◌==◌, nat_le, codes, if◌then◌else◌}
use Rattle.std.proofs.Common.{◌≡◌, ℕ, ◌-◌, ◌<◌, ◌≤◌, ◌⊎◌, Bool, true, false, List, [], ◌++◌, length, take, refl, sym, ap, subst}
use Rattle.std.proofs.Common.{◌∙◌, arith, append-nil, length-append, Result, Ok, Err, inl, inr, map}
use Rattle.std.proofs.lemmas.Bool.Decides.{nat_tests}
use Rattle.std.proofs.lemmas.List.{take_all}
use Rattle.std.proofs.lemmas.List.Elements.{All-cons, All-nil}
use Rattle.httparse.specs.Grammar.{lf, is_token_byte, is_uri_byte, IsField, RequestHead, print_request, ReadsRequest, NeverHasRequest}
use Rattle.httparse.specs.Spans.{name_and_value}
use Rattle.httparse.proofs.GrammarLemmas.{request_unique}
use Rattle.lie_http.specs.declared.request.Ask.{Ask}
use Rattle.lie_http.specs.declared.request.HttpFault.{HttpFault}
use Rattle.lie_http.specs.declared.request.HttpFault.TheVariants.{BadHead, HeadTooLong, BodyTooLong, LengthMissing, Ended, Failed, NoMemory}
use Rattle.lie_http.specs.Requests.{HasHead, demand_of, front, IsUnfinished, IsAsked, Answers}
use Rattle.lie_http.specs.Agreement.{IsOfBytes, IsLeftOpen, Agree}
use Rattle.lie_http.proofs.Heads.{head_is_some}
use Rattle.lie_http.proofs.Steps.{front-parted}

-- ---- what bytes show

-- the answer to a whole head, and to what follows
answer_to : RequestHead → List ℕ → Result ℕ HttpFault → Result Ask HttpFault
answer_to head rest (Err fault) = Err fault
answer_to head rest (Ok n) =
    if nat_le n (length rest) then Ok (record { method = head.method; path = head.target; body = take n rest }) else Err (Ended true)

-- the answer where no head is there, and one may still come
answer_without : List ℕ → Result Ask HttpFault
answer_without bytes = if nat_le 16384 (length bytes) then Err HeadTooLong else Err (Ended (not (length bytes == 0)))

-- why an answer is given
data Because (bytes : List ℕ) (a : Result Ask HttpFault) : Type 0 where
  by_head : (asks : Result ℕ HttpFault) (h : HasHead bytes asks) → a ≡ answer_to h.head h.rest asks → Because bytes a
  by_never : NeverHasRequest (front bytes) → a ≡ Err BadHead → Because bytes a
  by_end : IsUnfinished (front bytes) → a ≡ answer_without bytes → Because bytes a

-- ---- each answer has its reason

shortest : RequestHead
shortest = record { blank = []; method = codes "G"; target = codes "/"; minor = 1; line_end = lf; fields = []; last = lf }

shortest_reads : ReadsRequest ([] ++ print_request shortest) shortest []
unfolding shortest is_token_byte lib.Utf8.encode
shortest_reads = (
  record {
    method = (omega arith, All-cons (λ b. is_token_byte b ≡ true) 71 [] refl (All-nil (λ b. is_token_byte b ≡ true)));
    target = (omega arith, All-cons (λ b. is_uri_byte b ≡ true) 47 [] refl (All-nil (λ b. is_uri_byte b ≡ true)));
    target_text = (codes "/", (refl, refl));
    minor = omega arith;
    fields = All-nil IsField;
  },
  sym (append-nil (print_request shortest)),
)

le_test : (n m : ℕ) → n ≤ m → nat_le n m ≡ true
le_test n m le = grind (arith, nat_tests)

gt_test : (n m : ℕ) → m < n → nat_le n m ≡ false
gt_test n m lt = grind (arith, nat_tests)

some_test : (n : ℕ) → 0 < n → (n == 0) ≡ false
some_test n lt = grind (arith, nat_tests)

-- no bytes yet
nothing_unfinished : IsUnfinished []
nothing_unfinished = (
  λ head rest reads. omega (
    arith,
    head_is_some head reads.0,
    ap length reads.1,
    length-append
        (print_request head) rest,
  ),
  inl (print_request shortest, shortest, shortest_reads),
)

is_asked : (bytes : List ℕ) (n : ℕ) (h : HasHead bytes (Ok n)) (ask : Ask) → IsAsked ask bytes n h → Ok ask ≡ answer_to h.head h.rest (Ok n)
unfolding answer_to
is_asked bytes n h ask is =
    let whole : Ask = record { method = h.head.method; path = h.head.target; body = take n h.rest } in
    let same : ask ≡ whole = λ i. record { method = is.method i; path = is.path i; body = is.body i } in
    ap (λ (a : Ask). answer_ok a) same ∙ sym (ap (λ b. if b then answer_ok whole else Err (Ended true)) (le_test n
    (length h.rest) is.whole))
  where
    answer_ok : Ask → Result Ask HttpFault
    answer_ok a = Ok a

reason : (bytes : List ℕ) (a : Result Ask HttpFault) → IsOfBytes a → Answers bytes a → Because bytes a
unfolding answer_to answer_without
reason bytes (Ok ask) of_bytes (n, h, is) = by_head (Ok n) h (is_asked bytes n h ask is)
reason bytes (Err BadHead) of_bytes (inl never) = by_never never refl
reason bytes (Err BadHead) of_bytes (inr h) = by_head (Err BadHead) h refl
reason bytes (Err HeadTooLong) of_bytes (inl (unfinished, long)) = by_end unfinished (sym (ap (λ b. if b then Err HeadTooLong else Err
    (Ended (not (length bytes == 0)))) (le_test 16384 (length bytes) long)))
reason bytes (Err HeadTooLong) of_bytes (inr h) = by_head (Err HeadTooLong) h refl
reason bytes (Err LengthMissing) of_bytes h = by_head (Err LengthMissing) h refl
reason bytes (Err BodyTooLong) of_bytes h = by_head (Err BodyTooLong) h refl
reason bytes (Err (Ended false)) of_bytes none = subst (λ l. Because l (Err (Ended false))) (sym none) (by_end nothing_unfinished refl)
reason bytes (Err (Ended true)) of_bytes (some, inl (unfinished, short)) =
    by_end (subst IsUnfinished (sym (take_all 16384 bytes (omega arith))) unfinished)
    (ap ended (sym (some_test (length bytes) some)) ∙ sym (ap (λ b. if b then Err HeadTooLong else Err (Ended (not
    (length bytes == 0)))) (gt_test 16384 (length bytes) short)))
  where
    ended : Bool → Result Ask HttpFault
    ended none = Err (Ended (not none))
reason bytes (Err (Ended true)) of_bytes (some, inr (n, h, short)) =
    by_head (Ok n) h (sym (ap (λ b. if b then Ok
    (record { method = h.head.method; path = h.head.target; body = take n h.rest }) else Err (Ended true)) (gt_test n
    (length h.rest) short)))
reason bytes (Err Failed) of_bytes h = absurd of_bytes
reason bytes (Err NoMemory) of_bytes h = absurd of_bytes

-- ---- the reasons exclude each other

-- a whole head is at the front
front_reads : (bytes : List ℕ) (asks : Result ℕ HttpFault) (h : HasHead bytes asks) → (rest : List ℕ)
    × ReadsRequest (front bytes) h.head rest
front_reads bytes asks h = (
  take (16384 - length (print_request h.head)) h.rest,
  (
    h.reads.0,
    ap (take 16384) h.reads.1
        ∙ front-parted (print_request h.head) h.rest h.short,
  ),
)

never_without_head : (bytes : List ℕ) (asks : Result ℕ HttpFault) → HasHead bytes asks → NeverHasRequest (front bytes) → ⊥
never_without_head bytes asks h never =
    let (rest, reads) = front_reads bytes asks h in
    never [] h.head rest (rw append-nil reads)

unfinished_without_head : (bytes : List ℕ) (asks : Result ℕ HttpFault) → HasHead bytes asks → IsUnfinished (front bytes) → ⊥
unfinished_without_head bytes asks h unfinished =
    let (rest, reads) = front_reads bytes asks h in
    unfinished.0 h.head rest reads

never_unfinished : (bytes : List ℕ) → NeverHasRequest (front bytes) → IsUnfinished (front bytes) → IsLeftOpen bytes
never_unfinished bytes never (has_no, inl (more, head, reads)) = absurd (never more head [] reads)
never_unfinished bytes never (has_no, inr inside) = (inside, never)

same_head : (bytes : List ℕ) (a b : Result ℕ HttpFault) (h : HasHead bytes a) (k : HasHead bytes b)
    → answer_to h.head h.rest a ≡ answer_to k.head k.rest b
same_head bytes a b h k =
    let (head, rest) = request_unique bytes h.head k.head h.rest k.rest h.reads k.reads in
    let asks : a ≡ b = sym h.asked ∙ ap (λ (r : RequestHead). demand_of r.method (map name_and_value r.fields)) head ∙ k.asked in
    cc

agree : (bytes : List ℕ) (a b : Result Ask HttpFault) → Because bytes a → Because bytes b → (a ≡ b) ⊎ IsLeftOpen bytes
agree bytes a b (by_head asks h p) (by_head asks' k q) = inl (p ∙ same_head bytes asks asks' h k ∙ sym q)
agree bytes a b (by_head asks h p) (by_never never q) = absurd (never_without_head bytes asks h never)
agree bytes a b (by_head asks h p) (by_end unfinished q) = absurd (unfinished_without_head bytes asks h unfinished)
agree bytes a b (by_never never p) (by_head asks k q) = absurd (never_without_head bytes asks k never)
agree bytes a b (by_never never p) (by_never never' q) = inl (p ∙ sym q)
agree bytes a b (by_never never p) (by_end unfinished q) = inr (never_unfinished bytes never unfinished)
agree bytes a b (by_end unfinished p) (by_head asks k q) = absurd (unfinished_without_head bytes asks k unfinished)
agree bytes a b (by_end unfinished p) (by_never never q) = inr (never_unfinished bytes never unfinished)
agree bytes a b (by_end unfinished p) (by_end unfinished' q) = inl (p ∙ sym q)

pub answers_agree : Agree
answers_agree bytes a b of_a of_b answers_a answers_b = agree bytes a b (reason bytes a of_a answers_a) (reason bytes b of_b answers_b)
