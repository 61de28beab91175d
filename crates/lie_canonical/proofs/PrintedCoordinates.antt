-- The text of a number is a number, and that of a coordinate is the coordinate.
use Rattle.std.specs.Prelude.{ℕ, zero, suc, ◌+◌, ◌-◌, ◌^◌, ◌==◌, ◌≡◌, ◌≤◌, ◌<◌, nat_lt, Bool, true, false, ◌||◌, List, [], ◌∷◌, ◌++◌, length, take, drop, replicate, decimal, Some, IsSome, if◌then◌else◌, refl}
use Rattle.std.specs.List.{list_any, AllByRecursion}
use Rattle.std.proofs.Common.{sym, ap, ap₂, subst, ◌∙◌, arith, append_assoc, inl, inr}
use Rattle.std.proofs.Math.Seq.{set-append_seam, get_or-append_seam, take-append_seam, drop-append_seam, drop-append-add}
use Rattle.std.proofs.lemmas.Bool.Decides.{nat_tests}
use Rattle.std.proofs.lemmas.Fmt.{decimal_is_IsNumeral_wide}
use Rattle.std.proofs.lemmas.List.{append-nil, length-append}
use Rattle.lie_math.specs.Counts.{order}
use Rattle.lie_geometry.specs.Coordinates.{Space, Coordinate, independent, jet}
use Rattle.lie_scan.specs.declared.runs.Class.TheVariants.{Letter, Digit}
use Rattle.lie_scan.specs.Names.{place_from, place_of, counts_from, letter_counts, one_more, variable_at}
use Rattle.lie_print.specs.Printing.{name_at, repeated, letters_from, coordinate_text}
use Rattle.lie_scan.specs.Runs.{is_in}
use Rattle.lie_scan.specs.TokenGrammar.{BeginsOutside, IsNot, IsNumber, IsCoordinateAt}
use Rattle.lie_scan.proofs.Blanks.{no_blanks}
use Rattle.lie_scan.proofs.FileCoordinates.{IsGood}
use Rattle.lie_file.proofs.DistinctNames.{AreDistinct}
use Rattle.lie_math.specs.Natural.{nat_idl}

-- ---- numbers
pub decimal_number : (n : ℕ) (rest : List ℕ) → n < 2 ^ 128 → BeginsOutside Digit rest → IsNumber (decimal n ++ rest) n rest
decimal_number n rest small ended =
    let d = decimal_is_IsNumeral_wide n (omega arith) in
    record { digits = decimal n; front = no_blanks (decimal n ++ rest); ended = ended; numeral = d.0; value = d.1 }

-- ---- names
place_after : (k : ℕ) (before after : List ℕ) (n : ℕ) → list_any (λ m. m == n) before ≡ false → place_from k (before ++ n ∷ after) n ≡ Some (k + length before)
place_after k [] after n h = let same : (n == n) ≡ true = grind (arith, nat_tests) in let e : k ≡ k + 0 = omega arith in rw same (ap Some e)
place_after k (b ∷ bs) after n h = go (b == n) refl h (place_after (k + 1) bs after n)
  where
    next : (k n : ℕ) → k + 1 + n ≡ k + suc n
    next k n = omega arith

    go : (t : Bool) → (b == n) ≡ t → (t || list_any (λ m. m == n) bs) ≡ false → (list_any (λ m. m == n) bs ≡ false → place_from (k + 1) (bs ++ n ∷ after) n ≡ Some (k + 1 + length bs))
        → (if t then Some k else place_from (k + 1) (bs ++ n ∷ after) n) ≡ Some (k + suc (length bs))
    go true e f more = cc
    go false e f more = more f ∙ ap Some (next k (length bs))

-- the i-th name
pub record IsNamed (before ns : List ℕ) (i : ℕ) : Type 0 where
  pub letter : ℕ
  pub spelled : name_at ns i ≡ letter ∷ []
  pub is_letter : is_in Letter letter ≡ true
  pub named : place_of (before ++ ns) letter ≡ Some (length before + i)

pub named_at : (before ns : List ℕ) → AreDistinct before ns → (i : ℕ) → i < length ns → IsNamed before ns i
named_at before [] h i lt = absurd (omega arith)
named_at before (n ∷ ns) h zero lt = record { letter = n; spelled = refl; is_letter = h.0; named = place_after 0 before ns n h.1 ∙ ap Some (plain (length before)) }
  where
    plain : (k : ℕ) → 0 + k ≡ k + 0
    plain k = omega arith
named_at before (n ∷ ns) h (suc i) lt =
    let r = named_at (before ++ n ∷ []) ns h.2 i (omega arith) in
    let l = length-append before (n ∷ []) in
    let e : length (before ++ n ∷ []) + i ≡ length before + suc i = omega arith in
    record {
      letter = r.letter;
      spelled = r.spelled;
      is_letter = r.is_letter;
      named = ap (λ l. place_of l r.letter) (sym (append_assoc before (n ∷ []) ns)) ∙ r.named ∙ ap Some e;
    }

pub name_in_front : (xs ys : List ℕ) (i : ℕ) → i < length xs → name_at (xs ++ ys) i ≡ name_at xs i
name_in_front [] ys i lt = absurd (omega arith)
name_in_front (x ∷ xs) ys zero lt = refl
name_in_front (x ∷ xs) ys (suc i) lt = name_in_front xs ys i (omega arith)

-- ---- counts
one_more_seam : (xs ys : List ℕ) (k : ℕ) → one_more (xs ++ k ∷ ys) (Some (length xs)) ≡ xs ++ (k + 1) ∷ ys
one_more_seam xs ys k = set-append_seam xs k ys _ ∙ ap (λ n. xs ++ (n + 1) ∷ ys) (get_or-append_seam xs k ys 0)

counts_repeated : (ns xs ys more : List ℕ) (l k c : ℕ) → place_of ns l ≡ Some (length xs) → counts_from ns (xs ++ k ∷ ys) (repeated c (l ∷ []) ++ more) ≡ counts_from ns (xs ++ (k + c) ∷ ys) more
unfolding repeated
counts_repeated ns xs ys more l k zero h = ap (λ n. counts_from ns (xs ++ n ∷ ys) more) (plain k)
  where
    plain : (k : ℕ) → k ≡ k + 0
    plain k = omega arith
counts_repeated ns xs ys more l k (suc c) h =
    ap (λ o. counts_from ns (one_more (xs ++ k ∷ ys) o) (repeated c (l ∷ []) ++ more)) h ∙ ap (λ J. counts_from ns J (repeated c (l ∷ []) ++ more)) (one_more_seam xs ys k)
    ∙ counts_repeated ns xs ys more l (k + 1) c h ∙ ap (λ n. counts_from ns (xs ++ n ∷ ys) more) (next k c)
  where
    next : (k c : ℕ) → k + 1 + c ≡ k + suc c
    next k c = omega arith

take_zeros : (n m : ℕ) → n ≤ m → take {A = ℕ} n (replicate m 0) ≡ replicate n 0
take_zeros zero m le = refl
take_zeros (suc n) zero le = absurd (omega arith)
take_zeros (suc n) (suc m) le = ap (λ l. 0 ∷ l) (take_zeros n m (omega arith))

parted_zeros : (n m : ℕ) → replicate {A = ℕ} (n + m) 0 ≡ replicate n 0 ++ replicate m 0
parted_zeros zero m = ap (λ k. replicate {A = ℕ} k 0) (plain m)
  where
    plain : (m : ℕ) → 0 + m ≡ m
    plain m = omega arith
parted_zeros (suc n) m = ap (λ k. replicate {A = ℕ} k 0) (next n m) ∙ ap (λ (l : List ℕ). 0 ∷ l) (parted_zeros n m)
  where
    next : (n m : ℕ) → suc n + m ≡ suc (n + m)
    next n m = omega arith

no_counts : (J : List ℕ) → list_any (λ c. nat_lt 0 c) J ≡ false → J ≡ replicate (length J) 0
no_counts [] h = refl
no_counts (c ∷ J) h = go (nat_lt 0 c) refl h (no_counts J)
  where
    go : (t : Bool) → nat_lt 0 c ≡ t → (t || list_any (λ c. nat_lt 0 c) J) ≡ false → (list_any (λ c. nat_lt 0 c) J ≡ false → J ≡ replicate (length J) 0) → c ∷ J ≡ 0 ∷ replicate (length J) 0
    go true e f k = cc
    go false e f k = let z : c ≡ 0 = grind (arith, nat_tests, e) in ap₂ (λ (x : ℕ) (l : List ℕ). x ∷ l) z (k f)

some_counts : (J : List ℕ) → list_any (λ c. nat_lt 0 c) J ≡ true → 1 ≤ order J
some_counts [] h = cc
some_counts (c ∷ J) h = go (nat_lt 0 c) refl h (some_counts J)
  where
    go : (t : Bool) → nat_lt 0 c ≡ t → (t || list_any (λ c. nat_lt 0 c) J) ≡ true → (list_any (λ c. nat_lt 0 c) J ≡ true → 1 ≤ order J) → 1 ≤ c + order J
    go true e f k = let z : 1 ≤ c = grind (arith, nat_tests, e) in omega arith
    go false e f k = let z = k f in omega arith

length_repeated : (c l : ℕ) → length (repeated c (l ∷ [])) ≡ c
unfolding repeated
length_repeated zero l = refl
length_repeated (suc c) l = ap suc (length_repeated c l)

all_repeated : (Q : ℕ → Type 0) (c l : ℕ) (more : List ℕ) → Q l → AllByRecursion Q more → AllByRecursion Q (repeated c (l ∷ []) ++ more)
unfolding repeated
all_repeated Q zero l more q h = h
all_repeated Q (suc c) l more q h = (q, all_repeated Q c l more q h)

module _ (ind dep : List ℕ) (distinct : AreDistinct [] ind) where
  front_named : (i : ℕ) → i < length ind → (l : ℕ) × (name_at (ind ++ dep) i ≡ l ∷ []) × (is_in Letter l ≡ true) × (place_of ind l ≡ Some i)
  front_named i lt = let n = named_at [] ind distinct i lt in (n.letter, name_in_front ind dep i lt ∙ n.spelled, n.is_letter, n.named ∙ ap Some (nat_idl i))

  letters_all : (Q : ℕ → Type 0) → ((l i : ℕ) → is_in Letter l ≡ true → place_of ind l ≡ Some i → Q l) → (i : ℕ) (J : List ℕ) → i + length J ≤ length ind → AllByRecursion Q (letters_from (ind ++ dep) i J)
  unfolding letters_from
  letters_all Q q i [] le = tt
  letters_all Q q i (c ∷ J) le =
      let n = front_named i (omega arith) in
      subst (λ t. AllByRecursion Q (repeated c t ++ letters_from (ind ++ dep) (i + 1) J)) (sym n.1) (all_repeated Q c n.0 (letters_from (ind ++ dep) (i + 1) J) (q n.0 i n.2 n.3) (letters_all Q q (i + 1) J (omega arith)))

  letters_length : (i : ℕ) (J : List ℕ) → i + length J ≤ length ind → length (letters_from (ind ++ dep) i J) ≡ order J
  unfolding letters_from
  letters_length i [] le = refl
  letters_length i (c ∷ J) le =
      let n = front_named i (omega arith) in
      let a = length-append (repeated c (n.0 ∷ [])) (letters_from (ind ++ dep) (i + 1) J) in
      let b = length_repeated c n.0 in
      let d = letters_length (i + 1) J (omega arith) in
      ap (λ t. length (repeated c t ++ letters_from (ind ++ dep) (i + 1) J)) n.1 ∙ (let e : length (repeated c (n.0 ∷ []) ++ letters_from (ind ++ dep) (i + 1) J) ≡ c + order J = omega arith in e)

  letters_counts : (i : ℕ) (J xs ys : List ℕ) → length xs ≡ i → i + length J ≤ length ind → counts_from ind (xs ++ (replicate (length J) 0 ++ ys)) (letters_from (ind ++ dep) i J) ≡ xs ++ (J ++ ys)
  unfolding letters_from
  letters_counts i [] xs ys at le = refl
  letters_counts i (c ∷ J) xs ys at le =
      let n = front_named i (omega arith) in
      let more : List ℕ = letters_from (ind ++ dep) (i + 1) J in
      let zs : List ℕ = replicate (length J) 0 ++ ys in
      let l = length-append xs (c ∷ []) in
      ap (λ t. counts_from ind (xs ++ 0 ∷ zs) (repeated c t ++ more)) n.1
      ∙ counts_repeated ind xs zs more n.0 0 c (n.3 ∙ ap Some (sym at))
      ∙ ap (λ k. counts_from ind (xs ++ k ∷ zs) more) (nat_idl c)
      ∙ ap (λ k. counts_from ind k more) (sym (append_assoc xs (c ∷ []) zs))
      ∙ letters_counts (i + 1) J (xs ++ c ∷ []) ys (omega arith) (omega arith) ∙ append_assoc xs (c ∷ []) (J ++ ys)

  letters_read : (J : List ℕ) → length J ≡ length ind → length ind ≤ 4 → take (length ind) (letter_counts ind (letters_from (ind ++ dep) 0 J)) ≡ J
  letters_read J at few =
      let zeros : 0 ∷ 0 ∷ 0 ∷ 0 ∷ [] ≡ replicate (length J) 0 ++ replicate (4 - length J) 0 = ap (λ n. replicate n 0) (four (length J) (omega arith)) ∙ parted_zeros (length J) (4 - length J) in
      ap (λ K. take (length ind) (counts_from ind K (letters_from (ind ++ dep) 0 J))) zeros
      ∙ ap (take (length ind)) (letters_counts 0 J [] (replicate (4 - length J) 0) refl (omega arith))
      ∙ ap (λ n. take n (J ++ replicate (4 - length J) 0)) (sym at) ∙ take-append_seam J (replicate (4 - length J) 0)
    where
      four : (n : ℕ) → n ≤ 4 → 4 ≡ n + (4 - n)
      four n le = omega arith

-- ---- coordinates
module _ (S : Space) (ind dep : List ℕ) (p : S.p ≡ length ind) (q : S.q ≡ length dep) (few : length ind ≤ 4) (distinct : AreDistinct [] ind) (others : AreDistinct [] dep) (all : AreDistinct [] (ind ++ dep)) where
  take_names : take S.p (ind ++ dep) ≡ ind
  take_names = ap (λ n. take n (ind ++ dep)) p ∙ take-append_seam ind dep

  drop_names : drop S.p (ind ++ dep) ≡ dep
  drop_names = ap (λ n. drop n (ind ++ dep)) p ∙ drop-append_seam ind dep

  variable_is : (i : ℕ) (rest : List ℕ) → i < length (ind ++ dep) → BeginsOutside Letter rest → IsNot 95 rest → IsCoordinateAt S (ind ++ dep) (name_at (ind ++ dep) i ++ rest) (variable_at S i) rest
  variable_is i rest lt ended no_line =
      let n = named_at [] (ind ++ dep) all i lt in
      record {
        word = name_at (ind ++ dep) i;
        front = no_blanks (name_at (ind ++ dep) i ++ rest);
        ended = ended;
        name = inl (record { letter = n.letter; place = i; spelled = n.spelled; is_letter = n.is_letter; named = n.named ∙ ap Some (nat_idl i); means = refl }, no_line);
      }

  derivative_is : (a : ℕ) (J rest : List ℕ) → a < length dep → length J ≡ length ind → 1 ≤ order J → order J ≤ 6 → BeginsOutside Letter rest
      → IsCoordinateAt S (ind ++ dep) ((name_at (ind ++ dep) (S.p + a) ++ 95 ∷ letters_from (ind ++ dep) 0 J) ++ rest) (jet a J) rest
  derivative_is a J rest lt long some low ended =
      let n = named_at [] dep others a lt in
      let by : List ℕ = letters_from (ind ++ dep) 0 J in
      let size = letters_length ind dep distinct 0 J (omega arith) in
      record {
        word = name_at (ind ++ dep) (S.p + a) ++ 95 ∷ by;
        front = no_blanks ((name_at (ind ++ dep) (S.p + a) ++ 95 ∷ by) ++ rest);
        ended = ended;
        name = inr (record {
          letter = n.letter;
          place = a;
          by = by;
          spelled = ap (λ t. t ++ 95 ∷ by) (ap (λ k. name_at (ind ++ dep) (k + a)) p ∙ ap (take 1) (drop-append-add ind dep a) ∙ n.spelled);
          is_letter = n.is_letter;
          named = ap (λ l. place_of l n.letter) drop_names ∙ n.named ∙ ap Some (nat_idl a);
          are_letters = letters_all ind dep distinct (λ l. is_in Letter l ≡ true) (λ l i h k. h) 0 J (omega arith);
          independent = subst (λ ns. AllByRecursion (λ x. IsSome (place_of ns x)) by) (sym take_names) (letters_all ind dep distinct (λ l. IsSome (place_of ind l)) (λ l i h k. subst IsSome (sym k) refl) 0 J (omega arith));
          some = omega arith;
          few = omega arith;
          means = ap (jet a) (sym (ap₂ (λ (k : ℕ) (ns : List ℕ). take k (letter_counts ns by)) p take_names ∙ letters_read ind dep distinct J long few));
        });
      }

  dependent_at : (a : ℕ) (J : List ℕ) → length J ≡ length ind → list_any (λ c. nat_lt 0 c) J ≡ false → variable_at S (S.p + a) ≡ jet a J
  dependent_at a J long none =
      let test : nat_lt (S.p + a) S.p ≡ false = grind (arith, nat_tests) in
      let back : S.p + a - S.p ≡ a = omega arith in
      let zeros : take S.p (0 ∷ 0 ∷ 0 ∷ 0 ∷ []) ≡ J = ap (λ k. take k (0 ∷ 0 ∷ 0 ∷ 0 ∷ [])) p ∙ take_zeros (length ind) 4 few ∙ ap (λ k. replicate k 0) (sym long) ∙ sym (no_counts J none) in
      ap (λ b. if b then independent (S.p + a) else jet (S.p + a - S.p) (take S.p (0 ∷ 0 ∷ 0 ∷ 0 ∷ []))) test ∙ ap₂ jet back zeros

  -- the text of a coordinate, before what is no letter and no `_`
  pub coordinate_is : (c : Coordinate) (rest : List ℕ) → IsGood S c → BeginsOutside Letter rest → IsNot 95 rest → IsCoordinateAt S (ind ++ dep) (coordinate_text S (ind ++ dep) c ++ rest) c rest
  coordinate_is (independent i) rest good ended no_line =
      let low = good.coordinate in
      let test : nat_lt i S.p ≡ true = grind (arith, nat_tests) in
      let l = length-append ind dep in
      subst (λ d. IsCoordinateAt S (ind ++ dep) (name_at (ind ++ dep) i ++ rest) d rest) (ap (λ b. if b then independent i else jet (i - S.p) (take S.p (0 ∷ 0 ∷ 0 ∷ 0 ∷ []))) test) (variable_is i rest (omega arith) ended no_line)
  coordinate_is (jet a J) rest good ended no_line = go (list_any (λ c. nat_lt 0 c) J) refl
    where
      go : (b : Bool) → list_any (λ c. nat_lt 0 c) J ≡ b → IsCoordinateAt S (ind ++ dep) ((name_at (ind ++ dep) (S.p + a) ++ (if b then 95 ∷ letters_from (ind ++ dep) 0 J else [])) ++ rest) (jet a J) rest
      go true e =
          let low = good.low in
          let within = good.coordinate.0 in
          let long = good.coordinate.1 in
          derivative_is a J rest (omega arith) (long ∙ p) (some_counts J e) low ended
      go false e =
          let within = good.coordinate.0 in
          let long = good.coordinate.1 in
          let l = length-append ind dep in
          let text : name_at (ind ++ dep) (S.p + a) ≡ name_at (ind ++ dep) (S.p + a) ++ [] = sym (append-nil (name_at (ind ++ dep) (S.p + a))) in
          subst (λ t. IsCoordinateAt S (ind ++ dep) (t ++ rest) (jet a J) rest) text
          (subst (λ d. IsCoordinateAt S (ind ++ dep) (name_at (ind ++ dep) (S.p + a) ++ rest) d rest) (dependent_at a J (long ∙ p) e) (variable_is (S.p + a) rest (omega arith) ended no_line))
