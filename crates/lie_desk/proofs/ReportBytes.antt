-- A report is ASCII where the names are.
use Rattle.std.specs.Prelude.{ℕ, zero, suc, ◌+◌, ◌≤◌, ◌<◌, ◌==◌, All, ◌&&◌, ◌≡◌, ◌/◌, ◌%◌, ltb, cond, nat_lt, Bool, true, false, List, [], ◌∷◌, ◌++◌, length, map, take, drop, decimal, codes, ℤ, unsigned_abs, Option, Some, None, if◌then◌else◌, refl}
use Rattle.std.specs.Fmt.{digits, digits_onto, digit_glyph}
use Rattle.std.specs.Int.{is_negative}
use Rattle.std.specs.List.{flat_map, list_any, AllByRecursion as Every}
use Rattle.std.proofs.Common.{arith, sym, subst}
use Rattle.std.proofs.lemmas.List.Elements.{All-from_recursion}
use Rattle.std.proofs.lemmas.Bool.Decides.{nat_tests}
use Rattle.lie_scan.proofs.Blanks.{and_true}
use Rattle.lie_math.proofs.EveryElement.{every-append}
use Rattle.lie_math.specs.Counts.{Derivative}
use Rattle.lie_math.specs.LinearForm.{LinearForm}
use Rattle.lie_math.specs.LinearSystem.{LinearSystem, Unknown}
use Rattle.lie_math.specs.VectorField.{VectorField}
use Rattle.lie_geometry.specs.Coordinates.{Space, Coordinate, independent, jet, coordinate, coordinates_up_to}
use Rattle.lie_ring.specs.declared.ratio.Ratio.{Ratio}
use Rattle.lie_print.specs.Printing.{name_at, repeated, letters_from, subscript, coordinate_text, variable_text, derivative_text, power_text, number_factor, LastFactor, of_unknown, base_vector, last_text, last_factor, PrintedTerm, factors, behind, term_text, sign_text, signed_text, sum_text}
use Rattle.lie_file.proofs.FileEquations.{file_is_written}
use Rattle.lie_system.specs.Written.{IsLowercase}
use Rattle.lie_work.specs.Analyse.{IsSymmetriesReport}
use Rattle.lie_report.specs.BasisLines.{generator, generator_line, generators_line, generator_lines, ratio_factor, multiple, multiples_from, commutator_line, commutator_lines_from, commutators_line, commutator_lines, basis_lines, next_pair}
use Rattle.lie_report.specs.Report.{report_text, report_body}
use Rattle.lie_report.specs.Reports.{Named, Found, symmetries}
use Rattle.lie_report.specs.SystemLines.{ended, lines_text, numbered_lines, names_words, head_lines, listed, free_line, component_line, equation_line, remaining_line, system_lines}
use Rattle.lie_report.specs.Terms.{form_terms, field_terms}

abbrev pub AreAscii : List ℕ → Type 0
AreAscii bytes = Every (λ b. b < 128) bytes

-- ---- pieces
join : (xs ys : List ℕ) → AreAscii xs → AreAscii ys → AreAscii (xs ++ ys)
join xs ys h k = every-append (λ b. b < 128) xs ys h k

three : (xs ys zs : List ℕ) → AreAscii xs → AreAscii ys → AreAscii zs → AreAscii (xs ++ ys ++ zs)
three xs ys zs h k l = join (xs ++ ys) zs (join xs ys h k) l

taken : (n : ℕ) (xs : List ℕ) → AreAscii xs → AreAscii (take n xs)
taken zero xs h = tt
taken (suc n) [] h = tt
taken (suc n) (x ∷ xs) h = (h.0, taken n xs h.1)

dropped : (n : ℕ) (xs : List ℕ) → AreAscii xs → AreAscii (drop n xs)
dropped zero xs h = h
dropped (suc n) [] h = tt
dropped (suc n) (x ∷ xs) h = dropped n xs h.1

joined : {X : Type 0} (f : X → List ℕ) → ((x : X) → AreAscii (f x)) → (xs : List X) → AreAscii (flat_map f xs)
joined f h [] = tt
joined f h (x ∷ xs) = join (f x) (flat_map f xs) (h x) (joined f h xs)

repeats : (n : ℕ) (piece : List ℕ) → AreAscii piece → AreAscii (repeated n piece)
unfolding repeated
repeats zero piece h = tt
repeats (suc n) piece h = join piece (repeated n piece) h (repeats n piece h)

spaced : (names : List ℕ) → AreAscii names → AreAscii (flat_map (λ n. 32 ∷ n ∷ []) names)
spaced [] h = tt
spaced (n ∷ ns) h = (omega arith, (h.0, spaced ns h.1))

digit_is : (n : ℕ) → digit_glyph false (n % 10) < 128
digit_is n = go (nat_lt (n % 10) 10) refl
  where
    go : (t : Bool) → nat_lt (n % 10) 10 ≡ t → (if t then 48 + n % 10 else 87 + n % 10) < 128
    go true e = grind (arith, nat_tests, e)
    go false e = grind (arith, nat_tests, e)

either : (t : Bool) (shorter longer : List ℕ) → AreAscii shorter → AreAscii longer → AreAscii (if t then shorter else longer)
either true shorter longer h k = h
either false shorter longer h k = k

onto : (k n : ℕ) (bytes : List ℕ) → AreAscii bytes → AreAscii (digits_onto k 10 false n bytes)
onto zero n bytes h = h
onto (suc k) n bytes h =
    let more : AreAscii (digit_glyph false (n % 10) ∷ bytes) = (digit_is n, h) in
    either (n / 10 == 0) (digit_glyph false (n % 10) ∷ bytes) (digits_onto k 10 false (n / 10) (digit_glyph false (n % 10) ∷ bytes)) more
    (onto k (n / 10) (digit_glyph false (n % 10) ∷ bytes) more)

number : (n : ℕ) → AreAscii (decimal n)
unfolding digits
number n = onto 64 n [] tt

sign : (further negative : Bool) → AreAscii (sign_text further negative)
sign false false = tt
sign false true = (omega arith, tt)
sign true false = (omega arith, (omega arith, (omega arith, tt)))
sign true true = (omega arith, (omega arith, (omega arith, tt)))

starred : (fs : List (List ℕ)) → Every AreAscii fs → AreAscii (flat_map (λ g. 42 ∷ g) fs)
starred [] h = tt
starred (f ∷ fs) h = (omega arith, join f (flat_map (λ g. 42 ∷ g) fs) h.0 (starred fs h.1))

first_behind : (fs : List (List ℕ)) → Every AreAscii fs → AreAscii (behind false fs)
first_behind [] h = tt
first_behind (f ∷ fs) h = join f (flat_map (λ g. 42 ∷ g) fs) h.0 (starred fs h.1)

commas : (fs : List (List ℕ)) → Every AreAscii fs → AreAscii (flat_map (λ g. 44 ∷ g) fs)
commas [] h = tt
commas (f ∷ fs) h = (omega arith, join f (flat_map (λ g. 44 ∷ g) fs) h.0 (commas fs h.1))

with_commas : (fs : List (List ℕ)) → Every AreAscii fs → AreAscii (listed fs)
with_commas [] h = tt
with_commas (f ∷ fs) h = join f (flat_map (λ g. 44 ∷ g) fs) h.0 (commas fs h.1)

mapped : {X : Type 0} (f : X → List ℕ) → ((x : X) → AreAscii (f x)) → (xs : List X) → Every AreAscii (map f xs)
mapped f h [] = tt
mapped f h (x ∷ xs) = (h x, mapped f h xs)

numbered : {X : Type 0} (line : ℕ → X → List ℕ) → ((n : ℕ) (x : X) → AreAscii (line n x)) → (n : ℕ) (xs : List X) → Every AreAscii (numbered_lines line n xs)
numbered line h n [] = tt
numbered line h n (x ∷ xs) = (h n x, numbered line h (n + 1) xs)

both : (xs ys : List (List ℕ)) → Every AreAscii xs → Every AreAscii ys → Every AreAscii (xs ++ ys)
both xs ys h k = every-append AreAscii xs ys h k

number_factors : (n : ℕ) (fs : List (List ℕ)) → Every AreAscii (number_factor n fs)
number_factors n [] = (number n, tt)
number_factors n (f ∷ fs) = go (n == 1)
  where
    go : (b : Bool) → Every AreAscii (if b then [] else decimal n ∷ [])
    go true = tt
    go false = (number n, tt)

-- the bytes of a fixed text, each below 128
abbrev all_low : List ℕ → Bool
all_low [] = true
all_low (b ∷ bs) = nat_lt b 128 && all_low bs

fixed : (text : List ℕ) → all_low text ≡ true → AreAscii text
fixed [] e = tt
fixed (b ∷ bs) e = let p = and_true (nat_lt b 128) (all_low bs) e in (grind (arith, nat_tests, p.0), fixed bs p.1)

-- ---- terms and sums
module _ (S : Space) (names : List ℕ) (ascii : AreAscii names) where
  name : (i : ℕ) → AreAscii (name_at names i)
  name i = taken 1 (drop i names) (dropped i names ascii)

  letters : (i : ℕ) (J : List ℕ) → AreAscii (letters_from names i J)
  unfolding letters_from
  letters i [] = tt
  letters i (c ∷ J) = join (repeated c (name_at names i)) (letters_from names (i + 1) J) (repeats c (name_at names i) (name i)) (letters (i + 1) J)

  below : (J : List ℕ) → AreAscii (subscript names J)
  below J = go (list_any (λ c. nat_lt 0 c) J)
    where
      go : (b : Bool) → AreAscii (if b then 95 ∷ letters_from names 0 J else [])
      go true = (omega arith, letters 0 J)
      go false = tt

  coordinates : (c : Coordinate) → AreAscii (coordinate_text S names c)
  coordinates (independent i) = name i
  coordinates (jet a J) = join (name_at names (S.p + a)) (subscript names J) (name (S.p + a)) (below J)

  variable : (w : ℕ) → AreAscii (variable_text S names w)
  unfolding variable_text
  variable w = go (ltb w (coordinates_up_to S 12))
    where
      go : (b : Bool) → AreAscii (cond b (coordinate_text S names (coordinate S w)) [])
      go true = coordinates (coordinate S w)
      go false = tt

  power : (t : ℕ × ℕ) → AreAscii (power_text S names t)
  power t = go (t.1 == 1)
    where
      go : (b : Bool) → AreAscii (variable_text S names t.0 ++ (if b then [] else 94 ∷ decimal t.1))
      go true = join (variable_text S names t.0) [] (variable t.0) tt
      go false = join (variable_text S names t.0) (94 ∷ decimal t.1) (variable t.0) (omega arith, number t.1)

  last : (f : LastFactor) → AreAscii (last_text names f)
  last (of_unknown d) = (omega arith, join (decimal d.unknown) (subscript names d.counts) (number d.unknown) (below d.counts))
  last (base_vector i) = (omega arith, (omega arith, name i))

  last_one : (f : Option LastFactor) → Every AreAscii (last_factor names f)
  last_one None = tt
  last_one (Some f) = (last f, tt)

  all_factors : (t : PrintedTerm) → Every AreAscii (factors S names t)
  all_factors t = both (map (power_text S names) t.1.list) (last_factor names t.2) (mapped (power_text S names) power t.1.list) (last_one t.2)

  term : (t : PrintedTerm) → AreAscii (term_text S names t)
  term t =
      let F : List (List ℕ) = factors S names t in
      first_behind (number_factor (unsigned_abs t.0) F ++ F) (both (number_factor (unsigned_abs t.0) F) F (number_factors (unsigned_abs t.0) F) (all_factors t))

  signed : (further : Bool) (t : PrintedTerm) → AreAscii (signed_text S names further t)
  signed further t = join (sign_text further (is_negative t.0)) (term_text S names t) (sign further (is_negative t.0)) (term t)

  sum : (ts : List PrintedTerm) → AreAscii (sum_text S names ts)
  sum [] = (omega arith, tt)
  sum (t ∷ ts) = join (signed_text S names false t) (flat_map (signed_text S names true) ts) (signed false t) (joined (signed_text S names true) (signed true) ts)

-- ---- lines
generators_word : (i : ℕ) → AreAscii (generator i)
generators_word i = (omega arith, number i)

fraction : (size over : ℕ) → AreAscii (decimal size ++ codes "/" ++ decimal over ++ codes "*")
fraction size over =
    join (decimal size ++ codes "/" ++ decimal over) (codes "*") (three (decimal size) (codes "/") (decimal over) (number size) (omega arith, tt) (number over)) (omega arith, tt)

ratio : (size over : ℕ) → AreAscii (ratio_factor size over)
ratio size over = go (over == 1) (size == 1)
  where
    go : (t u : Bool) → AreAscii (if t then (if u then [] else decimal size ++ codes "*") else decimal size ++ codes "/" ++ decimal over ++ codes "*")
    go true true = tt
    go true false = join (decimal size) (codes "*") (number size) (omega arith, tt)
    go false true = fraction size over
    go false false = fraction size over

one_multiple : (further : Bool) (i : ℕ) (r : Ratio) → AreAscii (multiple further i r)
one_multiple further i r =
    three (sign_text further (is_negative r.num)) (ratio_factor (unsigned_abs r.num) r.den) (generator i) (sign further (is_negative r.num))
    (ratio (unsigned_abs r.num) r.den) (generators_word i)

multiples : (further : Bool) (i : ℕ) (rs : List Ratio) → AreAscii (multiples_from further i rs)
multiples true i [] = tt
multiples false i [] = (omega arith, tt)
multiples further i (r ∷ rs) =
    either (unsigned_abs r.num == 0) (multiples_from further (i + 1) rs) (multiple further i r ++ multiples_from true (i + 1) rs) (multiples further (i + 1) rs)
    (join (multiple further i r) (multiples_from true (i + 1) rs) (one_multiple further i r) (multiples true (i + 1) rs))

commutator : (p : ℕ × ℕ) (rs : List Ratio) → AreAscii (commutator_line p rs)
commutator p rs =
    three (codes "[" ++ generator p.0 ++ codes "," ++ generator p.1) (codes "] = ") (multiples_from false 1 rs)
    (three (codes "[" ++ generator p.0) (codes ",") (generator p.1) (join (codes "[") (generator p.0) (fixed (codes "[") refl) (generators_word p.0))
    (fixed (codes ",") refl) (generators_word p.1))
    (fixed (codes "] = ") refl) (multiples false 1 rs)

commutators : (n : ℕ) (p : ℕ × ℕ) (table : List (List Ratio)) → Every AreAscii (commutator_lines_from n p table)
commutators n p [] = tt
commutators n p (rs ∷ table) = (commutator p rs, commutators n (next_pair n p) table)

ends : (ls : List (List ℕ)) → Every AreAscii ls → AreAscii (lines_text ls)
ends [] h = tt
ends (l ∷ ls) h = join (ended l) (lines_text ls) (join l (codes "\n") h.0 (omega arith, tt)) (ends ls h.1)

words : (keyword names : List ℕ) → AreAscii keyword → AreAscii names → AreAscii (names_words keyword names)
words keyword names h k = join keyword (flat_map (λ n. 32 ∷ n ∷ []) names) h (spaced names k)

module _ (N : Named) (ascii : AreAscii N.names) where
  heads : (first : List ℕ) → AreAscii first → Every AreAscii (head_lines first N)
  heads first h = (
    h,
    (
      words (codes "vars") (take (N.space).p N.names) (fixed (codes "vars") refl) (taken (N.space).p N.names ascii),
      (words (codes "deps") (drop (N.space).p N.names) (fixed (codes "deps") refl) (dropped (N.space).p N.names ascii), tt),
    ),
  )

  free : (i : ℕ) (f : Unknown) → AreAscii (free_line N.names i f)
  free i f =
      let variables : List ℕ = listed (map (name_at N.names) f.variables) in
      three (codes "free f" ++ decimal i ++ codes "(") variables (codes ")")
      (three (codes "free f") (decimal i) (codes "(") (fixed (codes "free f") refl) (number i) (fixed (codes "(") refl))
      (with_commas (map (name_at N.names) f.variables) (mapped (name_at N.names) (name N.space N.names ascii) f.variables)) (fixed (codes ")") refl)

  component : (us : List Unknown) (i : ℕ) (E : LinearForm) → AreAscii (component_line N us i E)
  component us i E =
      three (codes "general " ++ name_at N.names i) (codes " = ") (sum_text N.space N.names (form_terms us E))
      (join (codes "general ") (name_at N.names i) (fixed (codes "general ") refl) (name N.space N.names ascii i)) (fixed (codes " = ") refl)
      (sum N.space N.names ascii (form_terms us E))

  remaining : (us : List Unknown) (E : LinearForm) → AreAscii (equation_line N us E)
  remaining us E = join (sum_text N.space N.names (form_terms us E)) (codes " = 0") (sum N.space N.names ascii (form_terms us E)) (fixed (codes " = 0") refl)

  system : (T : LinearSystem) → Every AreAscii (system_lines N T)
  system T =
      let free_lines = numbered_lines (free_line N.names) 1 T.unknowns in
      let components = numbered_lines (component_line N T.unknowns) 0 T.general in
      both (free_lines ++ components) (remaining_line (length T.equations) ∷ map (equation_line N T.unknowns) T.equations)
      (both free_lines components (numbered (free_line N.names) free 1 T.unknowns) (numbered (component_line N T.unknowns) (component T.unknowns) 0 T.general)) (
        join (codes "remaining ") (decimal (length T.equations)) (fixed (codes "remaining ") refl) (number (length T.equations)),
        mapped (equation_line N T.unknowns) (remaining T.unknowns) T.equations,
      )

  one_generator : (i : ℕ) (V : VectorField) → AreAscii (generator_line N i V)
  one_generator i V =
      three (generator i) (codes " = ") (sum_text N.space N.names (field_terms 0 V.parts)) (generators_word i) (fixed (codes " = ") refl)
      (sum N.space N.names ascii (field_terms 0 V.parts))

  basis : (found : Option Found) → Every AreAscii (basis_lines N found)
  basis None = (fixed (codes "generators -") refl, (fixed (codes "commutators -") refl, tt))
  basis (Some B) =
      both (generator_lines N B.fields) (commutator_lines (length B.fields) B.table) (
        join (codes "generators ") (decimal (length B.fields)) (fixed (codes "generators ") refl) (number (length B.fields)),
        numbered (generator_line N) one_generator 1 B.fields,
      ) (
        join (codes "commutators ") (decimal (length B.table)) (fixed (codes "commutators ") refl) (number (length B.table)),
        commutators (length B.fields) (1, 2) B.table,
      )

  pub symmetries_are_ascii : (T : LinearSystem) (found : Option Found) → AreAscii (report_text (symmetries N T found))
  unfolding report_text
  symmetries_are_ascii T found =
      let first : List ℕ = codes "lie symmetries 1, polynomial components only" in
      ends (report_body (symmetries N T found) ++ codes "end" ∷ [])
      (both (report_body (symmetries N T found)) (codes "end" ∷ [])
      (both (head_lines first N ++ system_lines N T) (basis_lines N found)
      (both (head_lines first N) (system_lines N T) (heads first (fixed first refl)) (system T)) (basis found))
      (fixed (codes "end") refl, tt))

-- ---- the report of a file
letters_low : (names : List ℕ) → Every IsLowercase names → AreAscii names
letters_low [] h = tt
letters_low (n ∷ ns) h = let high = (h.0).1 in (omega arith, letters_low ns h.1)

pub report_is_ascii : (file : List ℕ) (budget : ℕ) (report : List ℕ) → IsSymmetriesReport file budget report → All (λ b. b < 128) report
report_is_ascii file budget report h =
    let s = h.system in
    let names = letters_low s.names (file_is_written file s h.solved.file).letters.letters in
    let named : Named = record { space = s.space; names = s.names } in
    All-from_recursion (λ b. b < 128) report (subst AreAscii (sym h.printed) (symmetries_are_ascii named names h.told h.found))
