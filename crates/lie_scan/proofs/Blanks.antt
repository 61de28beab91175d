-- Runs of bytes and blanks: what stands in front and what is behind.
use Rattle.std.specs.Prelude.{ℕ, ◌≡◌, ◌≤◌, ◌<◌, Bool, true, false, ◌==◌, ◌&&◌, nat_le, List, [], ◌∷◌, ◌++◌, if◌then◌else◌, Ok, Err, refl}
use Rattle.std.specs.declared.result.Result.{Result}
use Rattle.std.proofs.Common.{sym, ap, ◌∙◌, subst, arith}
use Rattle.std.proofs.lemmas.Bool.Decides.{nat_tests}
use Rattle.lie_scan.specs.declared.runs.Class.{Class}
use Rattle.lie_scan.specs.declared.runs.Class.TheVariants.{Blank, Letter, Digit}
use Rattle.lie_scan.specs.Runs.{run, behind, after_blanks, is_in}
use Rattle.lie_scan.specs.Stops.{◌>>=◌}
use Rattle.lie_scan.specs.TokenGrammar.{AreIn, BeginsOutside, IsNot, AreBlanks, IsBehindBlanks, IsSign}

pub bind_then : {A B E : Type 0} {R : Type 0} (r : Result A E) (f : A → Result B E) (y : B) → (r >>= f) ≡ Ok y → ((x : A) → r ≡ Ok x → f x ≡ Ok y → R) → R
bind_then (Ok x) f y h k = k x refl h
bind_then (Err e) f y h k = cc

pub guard_then : {A E : Type 0} (b : Bool) (e : E) (r : Result A E) (y : A) → (if b then Err e else r) ≡ Ok y → (b ≡ false) × (r ≡ Ok y)
guard_then true e r y h = cc
guard_then false e r y h = (refl, h)

pub guard_else : {A E : Type 0} (b : Bool) (e : E) (r : Result A E) (y : A) → (if b then r else Err e) ≡ Ok y → (b ≡ true) × (r ≡ Ok y)
guard_else true e r y h = (refl, h)
guard_else false e r y h = cc

pub ok_is : {A E : Type 0} (x y : A) → ◌≡◌ {A = Result A E} (Ok x) (Ok y) → x ≡ y
ok_is x y h = cc

-- ---- runs
pub run_is : (c : Class) (bytes : List ℕ) → bytes ≡ run c bytes ++ behind c bytes
run_is c [] = refl
run_is c (b ∷ bs) = go (is_in c b) (run_is c bs)
  where
    go : (t : Bool) → bs ≡ run c bs ++ behind c bs → b ∷ bs ≡ (if t then b ∷ run c bs else []) ++ (if t then behind c bs else b ∷ bs)
    go true h = ap (λ l. b ∷ l) h
    go false h = refl

pub run_in : (c : Class) (bytes : List ℕ) → AreIn c (run c bytes)
run_in c [] = tt
run_in c (b ∷ bs) = go (is_in c b) refl (run_in c bs)
  where
    go : (t : Bool) → is_in c b ≡ t → AreIn c (run c bs) → AreIn c (if t then b ∷ run c bs else [])
    go true h k = (h, k)
    go false h k = tt

pub behind_outside : (c : Class) (bytes : List ℕ) → BeginsOutside c (behind c bytes)
behind_outside c [] = tt
behind_outside c (b ∷ bs) = go (is_in c b) refl (behind_outside c bs)
  where
    go : (t : Bool) → is_in c b ≡ t → BeginsOutside c (behind c bs) → BeginsOutside c (if t then behind c bs else b ∷ bs)
    go true h k = k
    go false h k = h

run_none : (c : Class) (rest : List ℕ) → BeginsOutside c rest → run c rest ≡ []
run_none c [] h = refl
run_none c (b ∷ bs) h = rw h refl

pub behind_none : (c : Class) (rest : List ℕ) → BeginsOutside c rest → behind c rest ≡ rest
behind_none c [] h = refl
behind_none c (b ∷ bs) h = rw h refl

pub run_front : (c : Class) (front rest : List ℕ) → AreIn c front → BeginsOutside c rest → run c (front ++ rest) ≡ front
run_front c [] rest are h = run_none c rest h
run_front c (b ∷ bs) rest are h = rw (are.0) (ap (λ l. b ∷ l) (run_front c bs rest are.1 h))

pub behind_front : (c : Class) (front rest : List ℕ) → AreIn c front → behind c (front ++ rest) ≡ behind c rest
behind_front c [] rest are = refl
behind_front c (b ∷ bs) rest are = rw (are.0) (behind_front c bs rest are.1)

-- ---- blanks
pub no_blanks : (text : List ℕ) → IsBehindBlanks text text
no_blanks text = record { blanks = []; are = tt; spelled = refl }

pub blanks_off : (text : List ℕ) → IsBehindBlanks text (after_blanks text)
blanks_off text = record { blanks = run Blank text; are = run_in Blank text; spelled = run_is Blank text }

pub blanks_to : (text rest : List ℕ) → after_blanks text ≡ rest → IsBehindBlanks text rest
blanks_to text rest h = subst (IsBehindBlanks text) h (blanks_off text)

pub after_behind : (text rest : List ℕ) → IsBehindBlanks text rest → after_blanks text ≡ after_blanks rest
after_behind text rest h = ap after_blanks h.spelled ∙ behind_front Blank h.blanks rest h.are

pub after_outside : (text rest : List ℕ) → IsBehindBlanks text rest → BeginsOutside Blank rest → after_blanks text ≡ rest
after_outside text rest h out = after_behind text rest h ∙ behind_none Blank rest out

pub after_twice : (text : List ℕ) → after_blanks (after_blanks text) ≡ after_blanks text
after_twice text = behind_none Blank (after_blanks text) (behind_outside Blank text)

-- blanks alone
pub blanks_only : (text : List ℕ) → after_blanks text ≡ [] → AreBlanks text
blanks_only text h = subst AreBlanks (sym (run_is Blank text ∙ ap (λ l. run Blank text ++ l) h ∙ append_nil (run Blank text))) (run_in Blank text)
  where
    append_nil : (l : List ℕ) → l ++ [] ≡ l
    append_nil [] = refl
    append_nil (b ∷ bs) = ap (λ l. b ∷ l) (append_nil bs)

pub only_blanks : (text : List ℕ) → AreBlanks text → after_blanks text ≡ []
only_blanks [] h = refl
only_blanks (b ∷ bs) h = rw (h.0) (only_blanks bs h.1)

-- ---- signs
-- a byte that is a sign
pub record IsMark (c : ℕ) : Type 0 where
  pub no_blank : is_in Blank c ≡ false

pub and_true : (a b : Bool) → (a && b) ≡ true → (a ≡ true) × (b ≡ true)
and_true true b h = (refl, h)
and_true false b h = cc

pub letter_range : (c : ℕ) → is_in Letter c ≡ true → (97 ≤ c) × (c ≤ 122)
letter_range c h = let p = and_true (nat_le 97 c) (nat_le c 122) h in (grind (arith, nat_tests, p.0), grind (arith, nat_tests, p.1))

pub digit_range : (c : ℕ) → is_in Digit c ≡ true → (48 ≤ c) × (c ≤ 57)
digit_range c h = let p = and_true (nat_le 48 c) (nat_le c 57) h in (grind (arith, nat_tests, p.0), grind (arith, nat_tests, p.1))

pub no_blank_above : (c : ℕ) → 33 ≤ c → is_in Blank c ≡ false
no_blank_above c h =
    let space : (c == 32) ≡ false = grind (arith, nat_tests, h) in
    let tab : (c == 9) ≡ false = grind (arith, nat_tests, h) in
    rw (space, tab) refl

pub no_digit_above : (c : ℕ) → 57 < c → is_in Digit c ≡ false
no_digit_above c h = let high : nat_le c 57 ≡ false = grind (arith, nat_tests, h) in rw high (go (nat_le 48 c))
  where
    go : (t : Bool) → (t && false) ≡ false
    go true = refl
    go false = refl

pub mark_next : (c : ℕ) (text rest : List ℕ) → IsMark c → IsSign c text rest → after_blanks text ≡ c ∷ rest
mark_next c text rest mark h = after_outside text (c ∷ rest) h mark.no_blank

pub mark_not : (c d : ℕ) (text rest : List ℕ) → IsMark c → (c == d) ≡ false → IsSign c text rest → IsNot d (after_blanks text)
mark_not c d text rest mark ne h = subst (IsNot d) (sym (mark_next c text rest mark h)) ne

pub blanks_not : (d : ℕ) (text : List ℕ) → AreBlanks text → IsNot d (after_blanks text)
blanks_not d text h = subst (IsNot d) (sym (only_blanks text h)) tt
