-- What each connection leaves among the closed ones, and the counts.
use Rattle.std.specs.Prelude.{IfSome, suc}
use Rattle.std.proofs.Common.{◌≡◌, ℕ, ◌+◌, ◌-◌, ◌^◌, ◌<◌, ◌≤◌, min, true, false, Bool, if◌then◌else◌, nat_eq, List, [], ◌∷◌, ◌++◌, length}
use Rattle.std.proofs.Common.{Option, None, Some, refl, sym, ap, subst, ◌∙◌, arith, Result, Ok, Err, inl, inr, append_assoc, append-nil}
use Rattle.std.proofs.lemmas.Bool.{eqb-true}
use Rattle.std.specs.Io.KnownBytes.{Appends}
use Rattle.lie_outer.specs.Causes.{RoseByOne, next_count}
use Rattle.lie_outer.specs.Link.{Line, Counts, IsFirst, IsFiled, unopened}
use Rattle.lie_outer.specs.declared.link.LinkFail.{LinkFail}
use Rattle.lie_outer.specs.declared.link.LinkFail.TheVariants as links
use Rattle.lie_http.specs.Requests.{Answers}
use Rattle.lie_http.specs.declared.request.Ask.{Ask}
use Rattle.lie_http.specs.declared.request.HttpFault.{HttpFault}
use Rattle.lie_http.specs.declared.request.HttpFault.TheVariants as faults
use Rattle.lie_serve.specs.Replies.{Kept, CountsReply, RepliesCounted}
use Rattle.lie_serve.specs.Serving.{IsDueText, IsRead, Sends}
use Rattle.lie_serve.specs.declared.desk.Reply.{Reply}
use Rattle.lie_serve.specs.declared.desk.Reply.TheVariants as replied
use Rattle.lie_serve.specs.declared.serving.Served.{Served}
use Rattle.lie_serve.specs.declared.serving.Served.TheVariants.{Answered, Ended, LinkFailed, LinkNoMemory}
use Rattle.lie_service.specs.Orders.{RepliesTo}
use Rattle.lie_service.specs.Serving.{ServesOpen, ServesNext, ServesMany, ServesAll, none, one_more}
use Rattle.lie_service.specs.Entries.{IsEntry, first_of, rest_of, one_if_keeper_fault, one_if_broken}
use Rattle.lie_service.specs.Entries.{count_of, IsClosedLog, LeavesEntries, none as no_entry, one_more as one_entry_more}
use Rattle.lie_service.proofs.Leaves.{serves_leaves}

-- ---- lists

one_longer : (a b : ℕ) → a ≡ b + 1 → suc a ≡ suc b + 1
one_longer a b e = omega arith

length_snoc : (xs : List (List ℕ)) (x : List ℕ) → length (xs ++ x ∷ []) ≡ length xs + 1
length_snoc [] x = refl
length_snoc (y ∷ ys) x = one_longer (length (ys ++ x ∷ [])) (length ys) (length_snoc ys x)

sum_step : (a b c d : ℕ) → b ≡ c + d → a + b ≡ a + c + d
sum_step a b c d e = omega arith

add_zero : (a : ℕ) → a + 0 ≡ 0 + a
add_zero a = omega arith

count_snoc : (one : Served → ℕ) (results : List Served) (result : Served)
    → count_of one (results ++ result ∷ []) ≡ count_of one results + one result
count_snoc one [] result = add_zero (one result)
count_snoc one (r ∷ results) result =
    sum_step (one r) (count_of one (results ++ result ∷ [])) (count_of one results) (one result) (count_snoc one results result)

-- ---- what was written

appended_some : (w : Option (List ℕ)) (text : List ℕ) → Appends (Some []) w text → w ≡ Some text
appended_some None text a = absurd a
appended_some (Some ys) text a = ap (λ (l : List ℕ). Some l) a

appended : (old new : Option (List ℕ)) (text : List ℕ) → old ≡ Some [] → Appends old new text → new ≡ Some text
appended old new text e a = appended_some new text (subst (λ (w : Option (List ℕ)). Appends w new text) e a)

says_of : (known : Option (List ℕ)) (bytes : List ℕ) (read : Result Ask HttpFault) → known ≡ Some bytes
    → IfSome known (λ all. Answers all read) → Answers bytes read
says_of known bytes read e says = subst (λ (k : Option (List ℕ)). IfSome k (λ all. Answers all read)) e says

-- what the link shows besides what was read and written stays, but for a count
frame : Line → Counts → Option (List ℕ) → Option (List ℕ) → Line
frame line counts unread written = record line { unread = unread; written = written; counts = counts }

cost : Served → Counts → Counts
cost (Answered status) counts = counts
cost Ended counts = counts
cost LinkFailed counts = record counts { faults = next_count counts.faults }
cost LinkNoMemory counts = record counts { starved = next_count counts.starved }

-- what a connection leaves, from the moment it is open
record Leaves (budget : ℕ) (old new : Kept) (line line' : Line) (result : Served) (bytes : List ℕ) : Type 0 where
  entry : List ℕ
  written : line'.written ≡ Some entry
  is_entry : IsEntry budget old new bytes entry result
  closed : line'.closed ≡ line.closed
  coming : line'.coming ≡ line.coming
  counts : line'.counts ≡ cost result line.counts

module _ (budget : ℕ) (old new : Kept) (line line' : Line) (bytes : List ℕ) (unread : line.unread ≡ Some bytes)
    (fresh : line.written ≡ Some []) where
  module _ (read : Result Ask HttpFault) (between : Line) (is : IsRead line between read) where
    between_written : between.written ≡ Some []
    between_written = ap (λ (l : Line). l.written) is.takes.others ∙ fresh

    answers : Answers bytes read
    answers = says_of line.unread bytes read unread is.says

    wrote : (status : ℕ) → Sends between line' (IsDueText (RepliesCounted (RepliesTo budget)) old new read) (Answered status)
        → Leaves budget old new line line' (Answered status) bytes
    unfolding cost
    wrote status (text, due, (appends, others)) = record {
      entry = text;
      written = appended between.written line'.written text between_written appends;
      is_entry = (read, answers, due);
      closed = ap (λ (l : Line). l.closed) others ∙ ap (λ (l : Line). l.closed) is.takes.others;
      coming = ap (λ (l : Line). l.coming) others ∙ ap (λ (l : Line). l.coming) is.takes.others;
      counts = ap (λ (l : Line). l.counts) others ∙ ap (λ (l : Line). l.counts) is.takes.others;
    }

    failed : Sends between line' (IsDueText (RepliesCounted (RepliesTo budget)) old new read) LinkFailed
        → Leaves budget old new line line' LinkFailed bytes
    unfolding cost
    failed (status, text, due, ((front, back, e, appends), others)) = record {
      entry = front;
      written = appended between.written line'.written front between_written appends;
      is_entry = inr (status, text, (read, answers, due), back, e);
      closed = ap (λ (l : Line). l.closed) others ∙ ap (λ (l : Line). l.closed) is.takes.others;
      coming = ap (λ (l : Line). l.coming) others ∙ ap (λ (l : Line). l.coming) is.takes.others;
      counts = ap (λ (l : Line). l.counts) others ∙ ap (λ (l : Line). cost LinkFailed l.counts) is.takes.others;
    }

    starved : Sends between line' (IsDueText (RepliesCounted (RepliesTo budget)) old new read) LinkNoMemory
        → Leaves budget old new line line' LinkNoMemory bytes
    unfolding cost
    starved (status, text, due, ((front, back, e, appends), others)) = record {
      entry = front;
      written = appended between.written line'.written front between_written appends;
      is_entry = inr (status, text, (read, answers, due), back, e);
      closed = ap (λ (l : Line). l.closed) others ∙ ap (λ (l : Line). l.closed) is.takes.others;
      coming = ap (λ (l : Line). l.coming) others ∙ ap (λ (l : Line). l.coming) is.takes.others;
      counts = ap (λ (l : Line). l.counts) others ∙ ap (λ (l : Line). cost LinkNoMemory l.counts) is.takes.others;
    }

  leaves : (result : Served) → ServesOpen budget old new line line' result → Leaves budget old new line line' result bytes
  unfolding cost
  leaves (Answered status) (read, between, is, sends) = wrote read between is status sends
  leaves Ended (same, is) = record {
    entry = [];
    written = ap (λ (l : Line). l.written) is.takes.others ∙ fresh;
    is_entry = (says_of line.unread bytes (Err (faults.Ended false)) unread is.says, refl, same);
    closed = ap (λ (l : Line). l.closed) is.takes.others;
    coming = ap (λ (l : Line). l.coming) is.takes.others;
    counts = ap (λ (l : Line). l.counts) is.takes.others;
  }
  leaves LinkFailed (inl (same, (taken, takes))) = record {
    entry = [];
    written = ap (λ (l : Line). l.written) takes.others ∙ fresh;
    is_entry = inl (refl, same);
    closed = ap (λ (l : Line). l.closed) takes.others;
    coming = ap (λ (l : Line). l.coming) takes.others;
    counts = ap (λ (l : Line). l.counts) takes.others;
  }
  leaves LinkFailed (inr (read, between, is, sends)) = failed read between is sends
  leaves LinkNoMemory (read, between, is, sends) = starved read between is sends

-- ---- opening and closing

opened : (left : List (List ℕ)) (new : Line) → IsFirst (Some left) new
    → (new.unread ≡ Some (first_of left)) × (new.written ≡ Some []) × (new.coming ≡ Some (rest_of left))
opened [] new h = h
opened (bytes ∷ more) new h = h

filed_as : (closed : Option (List (List ℕ))) (written : Option (List ℕ)) (new : Option (List (List ℕ)))
    (old : List (List ℕ)) (entry : List ℕ) → closed ≡ Some old → written ≡ Some entry → IsFiled closed written new → new ≡ Some (old ++ entry ∷ [])
filed_as closed written new old entry c w f =
    subst (λ (x : Option (List ℕ)). IsFiled (Some old) x new) w (subst (λ (x : Option (List (List ℕ))). IsFiled x written new) c f)

-- ---- the keeper's count

counted : (before now : ℕ) (reply : Reply) → CountsReply before now reply → before ≤ now
counted before now (replied.Analysis report) e = omega arith
counted before now (replied.Report text) e = omega arith
counted before now (replied.NewReport text) e = omega arith
counted before now (replied.Names names) e = omega arith
counted before now (replied.Dropped name) e = omega arith
counted before now replied.Missing e = omega arith
counted before now replied.Taken e = omega arith
counted before now (replied.Refused line) e = omega arith
counted before now replied.Full e = omega arith
counted before now replied.KeeperFault ((le, rose), by_one) = le

never_falls : (budget : ℕ) (old new : Kept) (line line' : Line) (result : Served) → ServesOpen budget old new line line' result
    → old.faults ≤ new.faults
never_falls budget old new line line' result h =
    serves_leaves old new (RepliesCounted (RepliesTo budget)) (λ (k : Kept). old.faults ≤ k.faults) (omega arith)
    (λ order body reply r. counted old.faults new.faults reply r.1) line line' result h

keeper_step : (first before now k : ℕ) → before ≤ now → (before < 2 ^ 64 - 1 → first + k ≤ before) → now < 2 ^ 64 - 1
    → first + (k + 0) ≤ now
keeper_step first before now k le bound below =
    let known = bound (omega arith) in omega arith

keeper_fault_step : (first before now k : ℕ) → RoseByOne before now → (before < 2 ^ 64 - 1 → first + k ≤ before) → now < 2 ^ 64 - 1
    → first + (k + 1) ≤ now
keeper_fault_step first before now k ((le, rose), by_one) bound below =
    let known = bound (omega arith) in omega arith

status_step : (first before now k status : ℕ) (is_fault : Bool) → nat_eq status 503 ≡ is_fault → before ≤ now
    → (status ≡ 503 → RoseByOne before now) → (before < 2 ^ 64 - 1 → first + k ≤ before) → now < 2 ^ 64 - 1
    → first + (k + (if is_fault then 1 else 0)) ≤ now
status_step first before now k status true e le rose bound below =
    keeper_fault_step first before now k (rose (eqb-true status 503 e)) bound below
status_step first before now k status false e le rose bound below = keeper_step first before now k le bound below

result_step : (first before now k : ℕ) (result : Served) → before ≤ now → (result ≡ Answered 503 → RoseByOne before now)
    → (before < 2 ^ 64 - 1 → first + k ≤ before) → now < 2 ^ 64 - 1 → first + (k + one_if_keeper_fault result) ≤ now
result_step first before now k (Answered status) le rose bound below =
    status_step first before now k status (nat_eq status 503) refl le (λ e. rose (ap (λ (s : ℕ). Answered s) e)) bound below
result_step first before now k Ended le rose bound below = keeper_step first before now k le bound below
result_step first before now k LinkFailed le rose bound below = keeper_step first before now k le bound below
result_step first before now k LinkNoMemory le rose bound below = keeper_step first before now k le bound below

-- ---- the link's counts

same_counts : (first f s f' s' k : ℕ) → f' ≡ f → s' ≡ s → (f < 2 ^ 64 - 1 → s < 2 ^ 64 - 1 → first + k ≤ f + s) → f' < 2 ^ 64 - 1
    → s' < 2 ^ 64 - 1 → first + (k + 0) ≤ f' + s'
same_counts first f s f' s' k ef es bound bf bs =
    let known = bound (omega arith) (omega arith) in omega arith

more_faults : (first f s f' s' k : ℕ) → f' ≡ min (f + 1) (2 ^ 64 - 1) → s' ≡ s → (f < 2 ^ 64 - 1 → s < 2 ^ 64 - 1 → first + k ≤ f + s)
    → f' < 2 ^ 64 - 1 → s' < 2 ^ 64 - 1 → first + (k + 1) ≤ f' + s'
more_faults first f s f' s' k ef es bound bf bs =
    let known = bound (omega arith) (omega arith) in omega arith

more_starved : (first f s f' s' k : ℕ) → f' ≡ f → s' ≡ min (s + 1) (2 ^ 64 - 1) → (f < 2 ^ 64 - 1 → s < 2 ^ 64 - 1 → first + k ≤ f + s)
    → f' < 2 ^ 64 - 1 → s' < 2 ^ 64 - 1 → first + (k + 1) ≤ f' + s'
more_starved first f s f' s' k ef es bound bf bs =
    let known = bound (omega arith) (omega arith) in omega arith

broken_step : (first k : ℕ) (before now : Counts) (result : Served) → now ≡ cost result before
    → (before.faults < 2 ^ 64 - 1 → before.starved < 2 ^ 64 - 1 → first + k ≤ before.faults + before.starved) → now.faults < 2 ^ 64 - 1
    → now.starved < 2 ^ 64 - 1 → first + (k + one_if_broken result) ≤ now.faults + now.starved
unfolding cost
broken_step first k before now (Answered status) e bound bf bs = same_counts first before.faults before.starved now.faults now.starved k
    (ap (λ (c : Counts). c.faults) e) (ap (λ (c : Counts). c.starved) e) bound bf bs
broken_step first k before now Ended e bound bf bs = same_counts first before.faults before.starved now.faults now.starved k
    (ap (λ (c : Counts). c.faults) e) (ap (λ (c : Counts). c.starved) e) bound bf bs
broken_step first k before now LinkFailed e bound bf bs = more_faults first before.faults before.starved now.faults now.starved k
    (ap (λ (c : Counts). c.faults) e) (ap (λ (c : Counts). c.starved) e) bound bf bs
broken_step first k before now LinkNoMemory e bound bf bs = more_starved first before.faults before.starved now.faults now.starved k
    (ap (λ (c : Counts). c.faults) e) (ap (λ (c : Counts). c.starved) e) bound bf bs

-- ---- connection by connection

first_bound : (n m : ℕ) → n + m + 0 ≤ n + m
first_bound n m = omega arith

no_bound : (n : ℕ) → n + 0 ≤ n
no_bound n = omega arith

module _ (budget : ℕ) (old : Kept) (line : Line) (coming closed : List (List ℕ)) where
  empty_log : line.coming ≡ Some coming → line.closed ≡ Some closed → IsClosedLog budget 0 old old line line coming closed
  empty_log c k = record {
    entries = [];
    left = coming;
    results = [];
    filed = k ∙ ap (λ (l : List (List ℕ)). Some l) (sym (append-nil closed));
    still = c;
    many = refl;
    each = no_entry;
    keeper_faults = λ below. no_bound old.faults;
    broken = λ bf bs. first_bound line.counts.faults line.counts.starved;
  }

  longer_log : (n : ℕ) (between new : Kept) (line' line'' : Line) (result : Served)
      → IsClosedLog budget n old between line line' coming closed → ServesNext budget between new line' line'' result
      → IsClosedLog budget (n + 1) old new line line'' coming closed
  longer_log n between new line' line'' result log next =
      let first = opened log.left next.opened (subst (λ (c : Option (List (List ℕ))). IsFirst c next.opened) log.still next.opens.0) in
      let told = leaves budget between new next.opened next.served (first_of log.left) first.0 first.1 result next.serves in
      let before = ap (λ (l : Line). l.closed) next.opens.1 ∙ log.filed in
      record {
        entries = log.entries ++ told.entry ∷ [];
        left = rest_of log.left;
        results = log.results ++ result ∷ [];
        filed = filed_as next.served.closed next.served.written line''.closed (closed ++ log.entries) told.entry
            (told.closed ∙ before) told.written next.closes.0
            ∙ ap (λ (l : List (List ℕ)). Some l) (append_assoc closed log.entries (told.entry ∷ []));
        still = ap (λ (l : Line). l.coming) next.closes.1 ∙ told.coming ∙ first.2;
        many = length_snoc log.entries told.entry ∙ ap (λ (m : ℕ). m + 1) log.many;
        each = one_entry_more between new log.left log.entries log.results told.entry result log.each told.is_entry;
        keeper_faults = λ below. subst (λ (k : ℕ). old.faults + k ≤ new.faults) (sym (count_snoc one_if_keeper_fault log.results result))
            (result_step old.faults between.faults new.faults (count_of one_if_keeper_fault log.results) result
            (never_falls budget between new next.opened next.served result next.serves) next.fault log.keeper_faults below);
        broken = λ bf bs. subst (λ (k : ℕ). line.counts.faults + line.counts.starved + k ≤ line''.counts.faults + line''.counts.starved)
            (sym (count_snoc one_if_broken log.results result))
            (broken_step (line.counts.faults + line.counts.starved) (count_of one_if_broken log.results) line'.counts line''.counts result
            (ap (λ (l : Line). l.counts) next.closes.1 ∙ told.counts ∙ ap (λ (l : Line). cost result l.counts) next.opens.1)
            log.broken bf bs);
      }

  connections : line.coming ≡ Some coming → line.closed ≡ Some closed → (n : ℕ) (new : Kept) (line' : Line)
      → ServesMany budget old line n new line' → IsClosedLog budget n old new line line' coming closed
  connections c k n new line' none = empty_log c k
  connections c k n new line'' (one_more m between new' line' l result before next) =
      longer_log m between new line' line'' result (connections c k m between line' before) next

pub closed_log : (budget n : ℕ) (old new : Kept) (line line' : Line) (coming closed : List (List ℕ))
    → ServesMany budget old line n new line' → line.coming ≡ Some coming → line.closed ≡ Some closed
    → IsClosedLog budget n old new line line' coming closed
closed_log budget n old new line line' coming closed many c k = connections budget old line coming closed c k n new line' many

-- where opening the next connection failed, what is closed stays
same_log : (budget n : ℕ) (old new : Kept) (line last : Line) (coming closed : List (List ℕ))
    → IsClosedLog budget n old new line last coming closed → IsClosedLog budget n old new line (unopened last) coming closed
same_log budget n old new line last coming closed log = record {
  entries = log.entries;
  left = log.left;
  results = log.results;
  filed = log.filed;
  still = log.still;
  many = log.many;
  each = log.each;
  keeper_faults = log.keeper_faults;
  broken = log.broken;
}

pub leaves_entries : {T : Type 0} (budget count : ℕ) (old new : Kept) (line line' : Line) (result : Result T LinkFail)
    → ServesAll budget count old new line line' result → LeavesEntries budget count old new line line' result
leaves_entries budget count old new line line' (Ok done) many = λ coming closed c k.
    closed_log budget count old new line line' coming closed many c k
leaves_entries budget count old new line line' (Err links.Failed) (n, le, last, many, is) = λ coming closed c k. (
  n,
  le,
  subst (λ (l : Line). IsClosedLog budget n old new line l coming closed) (sym is)
      (same_log budget n old new line last coming closed (closed_log budget n old new line last coming closed many c k)),
)
leaves_entries budget count old new line line' (Err links.NoMemory) (n, le, many) = λ coming closed c k.
    (n, le, closed_log budget n old new line line' coming closed many c k)

-- listening leaves the link
pub entries_from : {T : Type 0} (budget count : ℕ) (old new : Kept) (line listened line' : Line) (result : Result T LinkFail)
    → listened ≡ line → ServesAll budget count old new listened line' result → LeavesEntries budget count old new line line' result
entries_from budget count old new line listened line' result same all = leaves_entries budget count old new line line' result
    (subst (λ (l : Line). ServesAll budget count old new l line' result) same all)
