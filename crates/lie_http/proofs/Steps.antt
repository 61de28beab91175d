-- One call after the other: what they leave of the link, and what the bytes read so far say of all bytes.
use Rattle.std.specs.Prelude.{IfSome, None, Some, not, ◌==◌}
use Rattle.std.proofs.Common.{◌≡◌, ℕ, suc, ◌+◌, ◌-◌, ◌<◌, ◌≤◌, Bool, true, false, List, [], ◌∷◌, ◌++◌, length, take, drop, refl}
use Rattle.std.proofs.Common.{sym, ap, subst, ◌∙◌, arith, append_assoc, append-nil, length-append, length-drop, Result}
use Rattle.std.proofs.Common.{MatchResult, Ok, Err, inl, inr}
use Rattle.std.specs.declared.option.Option.{Option}
use Rattle.std.specs.Io.KnownBytes.{Consumes, IsAtEnd}
use Rattle.std.proofs.lemmas.Bool.Decides.{nat_tests}
use Rattle.std.proofs.KnownBytes.{Consumes-trans, Consumes-nil}
use lib.Seq.{take-append_seam}
use Rattle.std.proofs.lemmas.List.{take-append-le, drop-append-le}
use Rattle.std.proofs.Math.Seq.{take-append-add}
use Rattle.httparse.specs.Grammar.{print_request, NeverHasRequest}
use Rattle.lie_outer.specs.Link.{Line, faulted, Reads}
use Rattle.lie_http.specs.declared.head.Head.{Head}
use Rattle.lie_http.specs.declared.request.Ask.{Ask}
use Rattle.lie_http.specs.declared.request.HttpFault.{HttpFault}
use Rattle.lie_http.specs.declared.request.HttpFault.TheVariants.{BadHead, HeadTooLong, BodyTooLong, LengthMissing, Ended, Failed, NoMemory}
use Rattle.lie_http.specs.Requests.{front, IsUnfinished, EndsEarly, Answers}
use Rattle.lie_http.specs.Reading.{Takes, Spends, Gathers, IsAll, ReadsMore, ReadsUpTo, Tells, Refuses, Looks, ReadsHead}
use Rattle.lie_http.specs.Reading.{IsHeadOf, IsAskOf, Responds}
use Rattle.lie_http.proofs.Heads.{never_more, head_more, head_is_some}

-- ---- the link

pub takes-nil : (line : Line) → Takes line line []
takes-nil line = record { taken = Consumes-nil line.unread; others = refl }

pub takes-trans : (old mid new : Line) (before after : List ℕ) → Takes old mid before → Takes mid new after
    → Takes old new (before ++ after)
takes-trans old mid new before after first second = record {
  taken = Consumes-trans old.unread mid.unread new.unread before after first.taken second.taken;
  others = second.others ∙ ap (λ (line : Line). record line { unread = new.unread }) first.others;
}

faults-trans : (old mid new : Line) (before after : List ℕ) → Takes old mid before → Takes (faulted mid) new after
    → Takes (faulted old) new (before ++ after)
faults-trans old mid new before after first second = record {
  taken = Consumes-trans old.unread mid.unread new.unread before after first.taken second.taken;
  others = second.others ∙ ap (λ (line : Line). record (faulted line) { unread = new.unread }) first.others;
}

pub gathers-nil : (line : Line) (bytes : List ℕ) → Gathers line line bytes bytes
gathers-nil line bytes = record { more = []; gathered = sym (append-nil bytes); takes = takes-nil line }

pub gathers-trans : (old mid new : Line) (before between after : List ℕ) → Gathers old mid before between
    → Gathers mid new between after → Gathers old new before after
gathers-trans old mid new before between after first second = record {
  more = first.more ++ second.more;
  gathered = second.gathered ∙ ap (λ l. l ++ second.more) first.gathered ∙ append_assoc before first.more second.more;
  takes = takes-trans old mid new first.more second.more first.takes second.takes;
}

-- what an error leaves, after some bytes were read
pub fails-trans : (T U : Type 0) (old mid new : Line) (before : List ℕ) (fault : HttpFault) → Takes old mid before
    → Spends {T = T} mid new (Err fault) → Spends {T = U} old new (Err fault)
fails-trans T U old mid new before BadHead first (bytes, second) = (before ++ bytes, takes-trans old mid new before bytes first second)
fails-trans T U old mid new before HeadTooLong first (bytes, second) = (before ++ bytes, takes-trans old mid new before bytes first second)
fails-trans T U old mid new before BodyTooLong first (bytes, second) = (before ++ bytes, takes-trans old mid new before bytes first second)
fails-trans T U old mid new before LengthMissing first (bytes, second) =
    (before ++ bytes, takes-trans old mid new before bytes first second)
fails-trans T U old mid new before (Ended any) first (bytes, second) = (before ++ bytes, takes-trans old mid new before bytes first second)
fails-trans T U old mid new before Failed first (bytes, second) = (before ++ bytes, faults-trans old mid new before bytes first second)
fails-trans T U old mid new before NoMemory first (bytes, second) = (before ++ bytes, takes-trans old mid new before bytes first second)

pub spends-trans : (T : Type 0) (old mid new : Line) (before : List ℕ) (result : Result T HttpFault) → Takes old mid before
    → Spends mid new result → Spends old new result
spends-trans T old mid new before (Ok done) first (bytes, second) = (before ++ bytes, takes-trans old mid new before bytes first second)
spends-trans T old mid new before (Err fault) first second = fails-trans T T old mid new before fault first second

pub takes-open : (old new : Line) (bytes : List ℕ) → Takes old new bytes → old.is_open ≡ true → new.is_open ≡ true
takes-open old new bytes takes opened = ap (λ (line : Line). line.is_open) takes.others ∙ opened

-- a look at the bytes changes nothing
tells_spends : (line : Line) (bytes : List ℕ) (fault : HttpFault) → Tells bytes (Err fault) → Spends {T = Head} line line (Err fault)
tells_spends line bytes BadHead h = ([], takes-nil line)
tells_spends line bytes HeadTooLong h = ([], takes-nil line)
tells_spends line bytes BodyTooLong h = ([], takes-nil line)
tells_spends line bytes LengthMissing h = ([], takes-nil line)
tells_spends line bytes (Ended any) h = absurd h
tells_spends line bytes Failed h = absurd h
tells_spends line bytes NoMemory h = ([], takes-nil line)

-- a read of nothing
pub reads_nothing : (old new : Line) (before into : List ℕ) (count : ℕ) → count ≡ 0 → Reads old new into (Ok count)
    → Gathers old new before before × (before ≡ before) × IsAll old before before
reads_nothing old new before into count none (fits, consumed, end, others) = (
  record {
    more = [];
    gathered = sym (append-nil before);
    takes = record {
      taken = subst (λ n. Consumes old.unread new.unread
          (take n into)) none consumed;
      others = others;
    };
  },
  refl,
  all_at_end old.unread (end none),
)
  where
    all_at_end : (known : Option (List ℕ)) → IsAtEnd known → IfSome known (λ rest. before ≡ before ++ rest)
    all_at_end None h = tt
    all_at_end (Some rest) h = sym (ap (λ l. before ++ l) h ∙ append-nil before)

pub all-trans : (old mid : Line) (before between after : List ℕ) → Gathers old mid before between → IsAll mid between after
    → IsAll old before after
all-trans old mid before between after first all = joined old.unread mid.unread first.more first.gathered first.takes.taken all
  where
    joined : (known known' : Option (List ℕ)) (more : List ℕ) → between ≡ before ++ more → Consumes known known' more
        → IfSome known' (λ rest. after ≡ between ++ rest) → IfSome known (λ rest. after ≡ before ++ rest)
    joined None known' more e taken h = tt
    joined (Some rest) None more e taken h = absurd taken
    joined (Some rest) (Some rest') more e taken h = h ∙ ap (λ l. l ++ rest') e ∙ append_assoc before more rest'
        ∙ ap (λ l. before ++ l) (sym taken)

-- ---- the bytes

-- what is true of any bytes is true of the told ones
pub told : (known : Option (List ℕ)) (P : List ℕ → Type 0) → ((bytes : List ℕ) → P bytes) → IfSome known P
told None P h = tt
told (Some bytes) P h = h bytes

pub front-parted : (bytes rest : List ℕ) → length bytes ≤ 16384 → front (bytes ++ rest) ≡ bytes ++ take (16384 - length bytes) rest
front-parted bytes rest short =
    let split : 16384 ≡ length bytes + (16384 - length bytes) = omega arith in
    ap (λ n. take n (bytes ++ rest)) split ∙ take-append-add bytes rest (16384 - length bytes)

-- what is refused by the bytes read so far is refused by all
pub tells_fault : (bytes rest : List ℕ) (fault : HttpFault) → length bytes ≤ 16384 → Tells bytes (Err fault)
    → Answers (bytes ++ rest) (Err fault)
tells_fault bytes rest BadHead short (inl never) = inl (subst NeverHasRequest (sym (front-parted bytes rest short))
    (never_more bytes _ never))
tells_fault bytes rest BadHead short (inr h) = inr (head_more bytes rest _ h)
tells_fault bytes rest HeadTooLong short h = inr (head_more bytes rest _ h)
tells_fault bytes rest BodyTooLong short h = head_more bytes rest _ h
tells_fault bytes rest LengthMissing short h = head_more bytes rest _ h
tells_fault bytes rest (Ended any) short h = absurd h
tells_fault bytes rest Failed short h = absurd h
tells_fault bytes rest NoMemory short h = tt

full : (n : ℕ) → n ≤ 16384 → 16384 ≤ n → 16384 ≡ n
full n short long = omega arith

-- so many bytes without a head are too many
pub head_too_long : (bytes rest : List ℕ) → length bytes ≤ 16384 → 16384 ≤ length bytes → IsUnfinished bytes
    → Answers (bytes ++ rest) (Err HeadTooLong)
head_too_long bytes rest short long unfinished =
    let whole : front (bytes ++ rest) ≡ bytes = ap (λ n. take n (bytes ++ rest)) (full (length bytes) short long)
    ∙ take-append_seam bytes rest in
    inl (subst IsUnfinished (sym whole) unfinished, omega (arith, length-append bytes rest))

some_bytes : (n : ℕ) → (suc n == 0) ≡ false
some_bytes n = grind (arith, nat_tests)

-- the input ends within the head
pub ends_in_head : (bytes : List ℕ) → length bytes < 16384 → IsUnfinished bytes → Answers bytes (Err (Ended (not (length bytes == 0))))
ends_in_head [] short unfinished = refl
ends_in_head (b ∷ bytes) short unfinished =
    let some : 0 < length (b ∷ bytes) = omega arith in
    subst (λ any. EndsEarly any (b ∷ bytes)) (sym (ap not (some_bytes (length bytes)))) (some, inl (unfinished, short))

-- ---- the bytes of a link

pub head_refused : (line : Line) (bytes : List ℕ) (fault : HttpFault) → length bytes ≤ 16384 → Tells bytes (Err fault)
    → Spends {T = Head} line line (Err fault) × Refuses line bytes fault
head_refused line bytes fault short h = (
  tells_spends line bytes fault h,
  told line.unread (λ rest. Answers (bytes ++ rest) (Err fault))
      (λ rest. tells_fault bytes rest fault short h),
)

pub long_head_refused : (line : Line) (bytes : List ℕ) → length bytes ≤ 16384 → 16384 ≤ length bytes → IsUnfinished bytes
    → Spends {T = Head} line line (Err HeadTooLong) × Refuses line bytes HeadTooLong
long_head_refused line bytes short long unfinished = (
  ([], takes-nil line),
  told line.unread (λ rest. Answers (bytes ++ rest) (Err HeadTooLong))
      (λ rest. head_too_long bytes rest short long unfinished),
)

-- the input ends within the head
pub ended_head_refused : (old new : Line) (before after : List ℕ) (any : Bool) → IsUnfinished before → length before < 16384
    → Gathers old new before after → after ≡ before → IsAll old before after → any ≡ not (length after == 0)
    → Spends {T = Head} old new (Err (Ended any)) × Refuses old before (Ended any)
ended_head_refused old new before after any unfinished short gathers none all is = ((gathers.more, gathers.takes), ends old.unread all)
  where
    ends : (known : Option (List ℕ)) → IfSome known (λ rest. after ≡ before ++ rest)
        → IfSome known (λ rest. Answers (before ++ rest) (Err (Ended any)))
    ends None h = tt
    ends (Some rest) h =
        let same : before ≡ before ++ rest = sym none ∙ h in
        let test : not (length before == 0) ≡ any = ap (λ l. not (length l == 0)) (sym none) ∙ sym is in
        subst (λ l. Answers l (Err (Ended any))) same (subst (λ b. Answers before (Err (Ended b))) test
        (ends_in_head before short unfinished))

-- what is said of the bytes read before and those to be read is said of all
pub answers-trans : (old mid : Line) (before : List ℕ) (result : Result Ask HttpFault) → Takes old mid before
    → IfSome mid.unread (λ rest. Answers (before ++ rest) result) → IfSome old.unread (λ all. Answers all result)
answers-trans old mid before result takes h = joined old.unread mid.unread takes.taken h
  where
    joined : (known known' : Option (List ℕ)) → Consumes known known' before
        → IfSome known' (λ rest. Answers (before ++ rest) result) → IfSome known (λ all. Answers all result)
    joined None known' taken h = tt
    joined (Some all) None taken h = absurd taken
    joined (Some all) (Some rest) taken h = subst (λ l. Answers l result) (sym taken) h

-- ---- one step after the other

-- a read that fails, after some bytes were read
pub more_fails : (old mid new : Line) (before between after : List ℕ) (most : ℕ) (fault : HttpFault) → Gathers old mid before between
    → ReadsMore mid new between after most (Err fault) → ReadsUpTo old new before after most (Err fault)
more_fails old mid new before between after most Failed first (bytes, second) =
    (first.more ++ bytes, faults-trans old mid new first.more bytes first.takes second)
more_fails old mid new before between after most NoMemory first (bytes, second) =
    (first.more ++ bytes, takes-trans old mid new first.more bytes first.takes second)
more_fails old mid new before between after most BadHead first h = absurd h
more_fails old mid new before between after most HeadTooLong first h = absurd h
more_fails old mid new before between after most BodyTooLong first h = absurd h
more_fails old mid new before between after most LengthMissing first h = absurd h
more_fails old mid new before between after most (Ended any) first h = absurd h

-- the input ended, after some bytes were read
pub more_ends : (old mid new : Line) (before between after : List ℕ) (most : ℕ) → Gathers old mid before between → length between < most
    → ReadsMore mid new between after most (Ok false) → ReadsUpTo old new before after most (Ok false)
more_ends old mid new before between after most first short (second, same, all) = (
  gathers-trans old mid new before between after first second,
  subst (λ (l : List ℕ). length l < most)
      (sym same) short,
  all-trans old mid before between after first all,
)

-- a read that fails while the head isn't there
pub look_fails : (old new : Line) (before after : List ℕ) (most : ℕ) (fault : HttpFault) → ReadsMore old new before after most (Err fault)
    → Looks old new before after (Err fault)
look_fails old new before after most Failed h = (h, told old.unread (λ rest. Answers (before ++ rest) (Err Failed)) (λ rest. tt))
look_fails old new before after most NoMemory h = (h, told old.unread (λ rest. Answers (before ++ rest) (Err NoMemory)) (λ rest. tt))
look_fails old new before after most BadHead h = absurd h
look_fails old new before after most HeadTooLong h = absurd h
look_fails old new before after most BodyTooLong h = absurd h
look_fails old new before after most LengthMissing h = absurd h
look_fails old new before after most (Ended any) h = absurd h

-- a look that ends the reading of the head
pub head_fails : (old mid new : Line) (before after : List ℕ) (fault : HttpFault) → Takes old mid before
    → Looks mid new before after (Err fault)
    → ReadsHead old new after (Err fault)
head_fails old mid new before after fault takes (spends, refuses) =
    (fails-trans Head Head old mid new before fault takes spends, answers-trans old mid before (Err fault) takes refuses)

pub takes-gathers : (old mid new : Line) (before after : List ℕ) → Takes old mid before → Gathers mid new before after → Takes old new after
takes-gathers old mid new before after takes gathers =
    subst (Takes old new) (sym gathers.gathered) (takes-trans old mid new before gathers.more takes gathers.takes)

-- ---- the body

-- the bytes behind the head, where all of the body was read
body_there : (before more rest : List ℕ) (len n : ℕ) → len ≤ length before → len + n ≤ length (before ++ more)
    → (n ≤ length (drop len before ++ (more ++ rest))) × (take n (drop len (before ++ more)) ≡ take n (drop len before ++ (more ++ rest)))
body_there before more rest len n within enough =
    let behind : n ≤ length (drop len before ++ more) = simp (length-append, length-drop) (omega (arith, length-append before more)) in
    let parted : drop len (before ++ more) ≡ drop len before ++ more = drop-append-le len before more within in (
      simp (length-append, length-drop) (omega (arith, length-append before more)),
      ap (take n) parted ∙ sym (take-append-le n (drop len before ++ more) rest behind)
          ∙ ap (take n) (append_assoc (drop len before) more rest),
    )

-- the bytes behind the head, where the input ended before all of the body came
body_short : (before rest : List ℕ) (len n : ℕ) → len ≤ length before → length (before ++ rest) < len + n
    → length (drop len before ++ rest) < n
body_short before rest len n within short = simp (length-append, length-drop) (omega (arith, length-append before rest))

-- the body is there
pub body_asked : (old new : Line) (before after : List ℕ) (found : Head) (result : Result Ask HttpFault) → IsHeadOf found before
    → Gathers old new before after → found.len + found.body ≤ length after
    → MatchResult result (λ ask. IsAskOf ask after found) (λ fault. fault ≡ NoMemory) → Responds old new before result
body_asked old new before after found (Err fault) h gathers enough is =
    subst (λ fault. Responds old new before (Err fault)) (sym is)
    (record {
      spent = (gathers.more, gathers.takes);
      answer = told old.unread (λ rest. Answers (before ++ rest) (Err NoMemory))
          (λ rest. tt);
    })
body_asked old new before after found (Ok ask) h gathers enough is = record {
  spent = (gathers.more, gathers.takes);
  answer = asked old.unread new.unread gathers.takes.taken;
}
  where
    asked : (known known' : Option (List ℕ)) → Consumes known known' gathers.more → IfSome known (λ rest. Answers (before ++ rest) (Ok ask))
    asked None known' taken = tt
    asked (Some rest) None taken = absurd taken
    asked (Some rest) (Some rest') taken =
        let long : found.len + found.body ≤ length (before ++ gathers.more) = subst (λ
        (l : List ℕ). found.len + found.body ≤ length l) gathers.gathered enough in
        let there = body_there before gathers.more rest' found.len found.body h.within long in
        let whole = head_more before rest (Ok found.body) h.head in
        let behind : drop found.len before ++ (gathers.more ++ rest') ≡ whole.rest = ap (λ l. drop found.len before ++ l) (sym taken)
        ∙ ap (λ l. l ++ rest) (sym h.rest) in (
          found.body,
          whole,
          record {
            method = is.method ∙ h.method;
            path = is.path ∙ h.path;
            whole = subst (λ (l : List ℕ). found.body ≤ length l) behind there.0;
            body = is.body ∙ ap (λ l. take found.body (drop found.len l)) gathers.gathered ∙ there.1 ∙ ap (take found.body) behind;
          },
        )

-- the input ends within the body
pub body_ends : (old new : Line) (before after : List ℕ) (found : Head) → IsHeadOf found before → Gathers old new before after
    → length after < found.len + found.body → IsAll old before after → Responds old new before (Err (Ended true))
body_ends old new before after found h gathers short all = record {
  spent = (gathers.more, gathers.takes);
  answer = ends old.unread all;
}
  where
    ends : (known : Option (List ℕ)) → IfSome known (λ rest. after ≡ before ++ rest)
        → IfSome known (λ rest. Answers (before ++ rest) (Err (Ended true)))
    ends None all = tt
    ends (Some rest) all =
        let few : length (before ++ rest) < found.len + found.body = subst (λ (l : List ℕ). length l < found.len + found.body) all short in
        let whole = head_more before rest (Ok found.body) h.head in
        let behind : drop found.len before ++ rest ≡ whole.rest = ap (λ l. l ++ rest) (sym h.rest) in
        let some = head_is_some h.head.head h.head.reads.0 in
        let bytes : 0 < length before = omega (arith, ap length h.head.reads.1, length-append (print_request h.head.head) h.head.rest) in (
          omega (arith, length-append before rest),
          inr (
            found.body,
            whole,
            subst (λ (l : List ℕ). length l < found.body) behind
                (body_short before rest found.len found.body h.within few),
          ),
        )

-- a read fails within the body
pub body_fails : (old new : Line) (before after : List ℕ) (end : ℕ) (fault : HttpFault)
    → ReadsUpTo old new before after end (Err fault) → Responds old new before (Err fault)
body_fails old new before after end Failed h = record {
  spent = h;
  answer = told old.unread (λ rest. Answers (before ++ rest)
      (Err Failed)) (λ rest. tt);
}
body_fails old new before after end NoMemory h = record {
  spent = h;
  answer = told old.unread (λ rest. Answers (before ++ rest)
      (Err NoMemory)) (λ rest. tt);
}
body_fails old new before after end BadHead h = absurd h
body_fails old new before after end HeadTooLong h = absurd h
body_fails old new before after end BodyTooLong h = absurd h
body_fails old new before after end LengthMissing h = absurd h
body_fails old new before after end (Ended any) h = absurd h
