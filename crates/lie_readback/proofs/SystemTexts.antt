-- The text of a report of determining equations is read back.
use Rattle.std.specs.Prelude.{ℕ, zero, suc, ◌≡◌, ◌+◌, ◌-◌, ◌<◌, ◌≤◌, ◌^◌, ◌==◌, nat_le, nat_lt, ◌&&◌, Bool, true, false, List, [], ◌∷◌, ◌++◌, length, map, take, drop, codes, decimal, Option, Some, refl}
use Rattle.std.specs.List.{list_all, flat_map, slice_split, AllByRecursion as Every}
use Rattle.std.proofs.Common.{sym, ap, ap₂, ◌∙◌, subst, arith, append_assoc, add-one}
use Rattle.std.proofs.lemmas.Bool.Decides.{nat_tests}
use Rattle.std.proofs.lemmas.List.{append-nil, length-append, length-map, length-take-le, length-drop, take-append-drop}
use Rattle.lie_math.specs.LinearForm.{LinearForm}
use Rattle.lie_math.specs.LinearSystem.{Unknown, LinearSystem}
use Rattle.lie_math.proofs.EveryElement.{every-append, every-front, every-back}
use Rattle.lie_systems.specs.Triples.{triples}
use Rattle.lie_systems.specs.ValidSystems.{IsValid, IsFormOf, HasVariablesBelow}
use Rattle.lie_jet.specs.Jets.{IsSmall}
use Rattle.lie_system.specs.Written.{IsLowercase, AreDistinctLetters}
use Rattle.lie_print.specs.Printing.{PrintedTerm, name_at, sum_text}
use Rattle.lie_report.specs.Reports.{Named, determining}
use Rattle.lie_report.specs.Report.{report_text}
use Rattle.lie_report.specs.SystemLines.{names_words, head_lines, listed, free_line, numbered_lines, component_line, equation_line, remaining_line, system_lines}
use Rattle.lie_report.specs.Terms.{form_terms}
use Rattle.lie_readback.specs.Readings.{◌>>=◌, read_each}
use Rattle.lie_readback.specs.Sums.{read_sum}
use Rattle.lie_readback.specs.Groups.{written_term, written_terms, drafted}
use Rattle.lie_readback.specs.SystemDrafts.{Draft, names_in, are_names, is_count, read_named, is_free, free_lines, behind_free, unknowns_in, read_component, read_forms, read_system, read_lines}
use Rattle.lie_readback.specs.WellFormed.{AreNamed, size, IsReportedForm, AreNumberedFrom, IsReportedSystem, IsWellFormed}
use Rattle.lie_scan.proofs.Blanks.{and_true}
use Rattle.lie_readback.proofs.LineTexts.{vars_back, deps_back, letters_are_names, unknowns_back, free_front, free_back}
use Rattle.lie_readback.proofs.NameTexts.{IsNameAt, named_at}
use Rattle.lie_readback.proofs.Readable.{triple_written, terms_written, form_readable, form_terms_are}
use Rattle.lie_readback.proofs.Separators.{AreFrom, from_append, from_lower, decimal_from, split_lines}
use Rattle.lie_readback.proofs.SumTexts.{Written, IsReadable, sum_back, equation_back, sum_from}

-- ---- lists
pub take_front : {X : Type 0} (xs ys : List X) (n : ℕ) → n ≡ length xs → take n (xs ++ ys) ≡ xs
take_front [] ys zero e = refl
take_front [] ys (suc n) e = absurd (omega arith)
take_front (x ∷ xs) ys zero e = absurd (omega arith)
take_front (x ∷ xs) ys (suc n) e = ap (λ l. x ∷ l) (take_front xs ys n (omega arith))

drop_suc : {X : Type 0} (xs : List X) (y : X) (ys : List X) (n : ℕ) → n ≡ length xs → drop (suc n) (xs ++ y ∷ ys) ≡ ys
drop_suc [] y ys zero e = refl
drop_suc [] y ys (suc n) e = absurd (omega arith)
drop_suc (x ∷ xs) y ys zero e = absurd (omega arith)
drop_suc (x ∷ xs) y ys (suc n) e = drop_suc xs y ys n (omega arith)

pub drop_front : {X : Type 0} (xs : List X) (y : X) (ys : List X) (n : ℕ) → n ≡ length xs → drop (n + 1) (xs ++ y ∷ ys) ≡ ys
drop_front xs y ys n e = ap (λ i. drop i (xs ++ y ∷ ys)) (add-one n) ∙ drop_suc xs y ys n e

pub length_numbered : {X : Type 0} (line : ℕ → X → List ℕ) (n : ℕ) (xs : List X) → length (numbered_lines line n xs) ≡ length xs
length_numbered line n [] = refl
length_numbered line n (x ∷ xs) = ap suc (length_numbered line (n + 1) xs)

-- ---- bytes
pub from_test : (l : List ℕ) → list_all (λ b. nat_le 32 b) l ≡ true → AreFrom 32 l
from_test [] h = tt
from_test (b ∷ bs) h = let p = and_true (nat_le 32 b) (list_all (λ b. nat_le 32 b) bs) h in ((grind (arith, nat_tests, p.0)), from_test bs p.1)

names_from : (ns : List ℕ) → Every IsLowercase ns → AreFrom 32 (flat_map (λ n. 32 ∷ n ∷ []) ns)
names_from [] h = tt
names_from (n ∷ ns) h = let low = h.0.0 in ((omega arith), ((omega arith), names_from ns h.1))

-- ---- names
module _ (N : Named) (h : AreNamed N) where
  counts_good : (n : ℕ) → 1 ≤ n → n ≤ 4 → is_count n ≡ true
  counts_good n low high = grind (arith, nat_tests, low, high)

  front_length : length (take (N.space).p N.names) ≡ (N.space).p
  front_length = let e = h.each in length-take-le (N.space).p N.names (omega arith)

  back_length : length (drop (N.space).p N.names) ≡ (N.space).q
  back_length = let e = h.each in let d = length-drop (N.space).p N.names in omega arith

  pub named_back : read_named (names_words (codes "vars") (take (N.space).p N.names)) (names_words (codes "deps") (drop (N.space).p N.names)) ≡ Some N
  unfolding read_named
  named_back =
      let s = h.small in
      let all : take (N.space).p N.names ++ drop (N.space).p N.names ≡ N.names = take-append-drop (N.space).p N.names in
      let lower = subst (Every IsLowercase) (sym all) (h.letters).letters in
      let front = vars_back (take (N.space).p N.names) (every-front IsLowercase (take (N.space).p N.names) (drop (N.space).p N.names) lower) in
      let back = deps_back (drop (N.space).p N.names) (every-back IsLowercase (take (N.space).p N.names) (drop (N.space).p N.names) lower) in
      rw (
        front,
        back,
        all,
        front_length,
        back_length,
        counts_good (N.space).p s.some_p s.few_p,
        counts_good (N.space).q s.some_q s.few_q,
        letters_are_names N.names h.letters,
      ) refl

  pub head_from : (first : List ℕ) → AreFrom 32 first → Every (AreFrom 32) (head_lines first N)
  head_from first from =
      let all : take (N.space).p N.names ++ drop (N.space).p N.names ≡ N.names = take-append-drop (N.space).p N.names in
      let lower = subst (Every IsLowercase) (sym all) (h.letters).letters in (
        from,
        (
          from_append 32 (codes "vars") (flat_map (λ n. 32 ∷ n ∷ []) (take (N.space).p N.names)) (from_test (codes "vars") refl) (names_from (take (N.space).p N.names) (every-front IsLowercase (take (N.space).p N.names) (drop (N.space).p N.names) lower)),
          (
            from_append 32 (codes "deps") (flat_map (λ n. 32 ∷ n ∷ []) (drop (N.space).p N.names)) (from_test (codes "deps") refl) (names_from (drop (N.space).p N.names) (every-back IsLowercase (take (N.space).p N.names) (drop (N.space).p N.names) lower)),
            tt,
          ),
        ),
      )

-- ---- forms
module _ (N : Named) (h : AreNamed N) (us : List Unknown) (variables : Every (HasVariablesBelow (size N)) us) (numbered : AreNumberedFrom 1 us) where
  abbrev IsGoodForm : LinearForm → Type 0
  IsGoodForm E = IsFormOf (size N) us E × IsReportedForm E

  abbrev form_written : LinearForm → List Written
  form_written E = map triple_written (triples E)

  readable : (E : LinearForm) → IsGoodForm E → Every (IsReadable (size N) N.names) (form_written E)
  readable E g = form_readable N.names h.letters (size N) h.each us variables E g.0 g.1

  component_spelled : (i : ℕ) (E : LinearForm) → i < size N → IsGoodForm E → drop 12 (component_line N us i E) ≡ sum_text N.space N.names (written_terms E)
  component_spelled i E lt g =
      let e = h.each in
      let n = named_at N.names h.letters i (omega arith) in
      ap (λ (l : List ℕ). drop 12 ((codes "general " ++ l ++ codes " = ") ++ sum_text N.space N.names (form_terms us E))) n.spelled
      ∙ ap (sum_text N.space N.names) (form_terms_are (size N) us numbered E g.0)

  component_back : (i : ℕ) (E : LinearForm) → i < size N → IsGoodForm E → read_component N.names (component_line N us i E) ≡ Some (written_terms E)
  component_back i E lt g =
      ap (read_sum N.names) (component_spelled i E lt g)
      ∙ subst (λ ts. read_sum N.names (sum_text N.space N.names ts) ≡ Some ts) (sym (terms_written (triples E)))
      (sum_back N.space h.small N.names h.each h.letters (form_written E) (readable E g))

  pub components_back : (done : List (List PrintedTerm)) (i : ℕ) (Es : List LinearForm) → i + length Es ≤ size N → Every IsGoodForm Es
      → read_each (read_component N.names) done (numbered_lines (component_line N us) i Es) ≡ Some (done ++ map written_terms Es)
  components_back done i [] few g = ap Some (sym (append-nil done))
  components_back done i (E ∷ Es) few g =
      rw (component_back i E (omega arith) g.0)
      (components_back (done ++ written_terms E ∷ []) (i + 1) Es (omega arith) g.1 ∙ ap Some (append_assoc done (written_terms E ∷ []) (map written_terms Es)))

  equation_is_back : (E : LinearForm) → IsGoodForm E → read_sum N.names (equation_line N us E) ≡ Some (written_terms E)
  equation_is_back E g =
      ap (λ ts. read_sum N.names (sum_text N.space N.names ts ++ codes " = 0")) (form_terms_are (size N) us numbered E g.0)
      ∙ subst (λ ts. read_sum N.names (sum_text N.space N.names ts ++ codes " = 0") ≡ Some ts) (sym (terms_written (triples E)))
      (equation_back N.space h.small N.names h.each h.letters (form_written E) (readable E g))

  pub equations_back : (done : List (List PrintedTerm)) (Es : List LinearForm) → Every IsGoodForm Es
      → read_each (read_sum N.names) done (map (equation_line N us) Es) ≡ Some (done ++ map written_terms Es)
  equations_back done [] g = ap Some (sym (append-nil done))
  equations_back done (E ∷ Es) g =
      rw (equation_is_back E g.0) (equations_back (done ++ written_terms E ∷ []) Es g.1 ∙ ap Some (append_assoc done (written_terms E ∷ []) (map written_terms Es)))

  -- ---- bytes
  text_from : (E : LinearForm) → IsGoodForm E → AreFrom 32 (sum_text N.space N.names (form_terms us E))
  text_from E g = subst (λ ts. AreFrom 32 (sum_text N.space N.names ts)) (sym (form_terms_are (size N) us numbered E g.0 ∙ terms_written (triples E))) (sum_from N.space h.small N.names h.each h.letters (form_written E) (readable E g))

  components_from : (i : ℕ) (Es : List LinearForm) → i + length Es ≤ size N → Every IsGoodForm Es → Every (AreFrom 32) (numbered_lines (component_line N us) i Es)
  components_from i [] few g = tt
  components_from i (E ∷ Es) few g =
      let e = h.each in
      let n = named_at N.names h.letters i (omega arith) in
      let low = (n.lower).0 in
      let name = subst (AreFrom 32) (sym n.spelled) ((omega arith), tt) in (
        from_append 32 ((codes "general " ++ name_at N.names i) ++ codes " = ") (sum_text N.space N.names (form_terms us E))
            (from_append 32 (codes "general " ++ name_at N.names i) (codes " = ") (from_append 32 (codes "general ") (name_at N.names i) (from_test (codes "general ") refl) name) (from_test (codes " = ") refl)) (text_from E g.0),
        components_from (i + 1) Es (omega arith) g.1,
      )

  equations_from : (Es : List LinearForm) → Every IsGoodForm Es → Every (AreFrom 32) (map (equation_line N us) Es)
  equations_from [] g = tt
  equations_from (E ∷ Es) g = (from_append 32 (sum_text N.space N.names (form_terms us E)) (codes " = 0") (text_from E g.0) (from_test (codes " = 0") refl), equations_from Es g.1)

  -- ---- the lines of a system
  module _ (gs Es : List LinearForm) (each : length gs ≡ size N) (goods : Every IsGoodForm gs) (equations : Every IsGoodForm Es) where
    abbrev general_lines : List (List ℕ)
    general_lines = numbered_lines (component_line N us) 0 gs

    abbrev equation_lines : List (List ℕ)
    equation_lines = map (equation_line N us) Es

    forms_back : (r e n : List ℕ) → read_forms N us (general_lines ++ r ∷ (equation_lines ++ e ∷ n ∷ []))
        ≡ Some (record { named = N; unknowns = us; general = map written_terms gs; equations = map written_terms Es })
    unfolding read_forms
    forms_back r e n =
        let a = length-append general_lines (r ∷ (equation_lines ++ e ∷ n ∷ [])) in
        let b = length-append equation_lines (e ∷ n ∷ []) in
        let c = length_numbered (component_line N us) 0 gs in
        let d : length equation_lines ≡ length Es = length-map Es (equation_line N us) in
        let long : size N + 3 ≤ length (general_lines ++ r ∷ (equation_lines ++ e ∷ n ∷ [])) = omega arith in
        let t : nat_lt (length (general_lines ++ r ∷ (equation_lines ++ e ∷ n ∷ []))) (size N + 3) ≡ false = grind (arith, nat_tests, long) in
        let many : length (general_lines ++ r ∷ (equation_lines ++ e ∷ n ∷ [])) - (size N + 3) ≡ length equation_lines = omega arith in
        rw (
          t,
          take_front general_lines (r ∷ (equation_lines ++ e ∷ n ∷ [])) (size N) (omega arith),
          components_back [] 0 gs (omega arith) goods,
          drop_front general_lines r (equation_lines ++ e ∷ n ∷ []) (size N) (omega arith),
          take_front equation_lines (e ∷ n ∷ []) _ many,
          equations_back [] Es equations,
        ) refl

grouped : {X : Type 0} (F G E : List X) (r e n : X) → ((F ++ G) ++ r ∷ E) ++ e ∷ n ∷ [] ≡ F ++ (G ++ r ∷ (E ++ e ∷ n ∷ []))
grouped F G E r e n = simp append_assoc refl

both_forms : (P Q : LinearForm → Type 0) (Es : List LinearForm) → Every P Es → Every Q Es → Every (λ E. P E × Q E) Es
both_forms P Q [] h k = tt
both_forms P Q (E ∷ Es) h k = ((h.0, k.0), both_forms P Q Es h.1 k.1)

listed_from : (names : List ℕ) → ((i : ℕ) → AreFrom 32 (name_at names i)) → (vs : List ℕ) → AreFrom 32 (listed (map (name_at names) vs))
listed_from names each [] = tt
listed_from names each (v ∷ vs) = from_append 32 (name_at names v) (flat_map (λ g. 44 ∷ g) (map (name_at names) vs)) (each v) (further vs)
  where
    further : (vs : List ℕ) → AreFrom 32 (flat_map (λ g. 44 ∷ g) (map (name_at names) vs))
    further [] = tt
    further (v ∷ vs) = from_append 32 (44 ∷ name_at names v) (flat_map (λ g. 44 ∷ g) (map (name_at names) vs)) ((omega arith), each v) (further vs)

free_from : (names : List ℕ) → ((i : ℕ) → AreFrom 32 (name_at names i)) → (n : ℕ) (us : List Unknown) → n + length us < 2 ^ 32 → Every (AreFrom 32) (numbered_lines (free_line names) n us)
free_from names each n [] small = tt
free_from names each n (f ∷ us) small = (
  from_append 32 (((codes "free f" ++ decimal n) ++ codes "(") ++ listed (map (name_at names) f.variables)) (codes ")")
      (from_append 32 ((codes "free f" ++ decimal n) ++ codes "(") (listed (map (name_at names) f.variables))
      (from_append 32 (codes "free f" ++ decimal n) (codes "(") (from_append 32 (codes "free f") (decimal n) (from_test (codes "free f") refl) (from_lower 32 48 (omega arith) (decimal n) (decimal_from n (omega arith)))) (from_test (codes "(") refl))
      (listed_from names each f.variables)) (from_test (codes ")") refl),
  free_from names each (n + 1) us (omega arith),
)

-- ---- the whole report
module _ (N : Named) (T : LinearSystem) (h : IsWellFormed (N, T)) where
  abbrev IsGood : LinearForm → Type 0
  IsGood E = IsFormOf (size N) T.unknowns E × IsReportedForm E

  goods : Every IsGood T.general
  goods = both_forms (IsFormOf (size N) T.unknowns) IsReportedForm T.general ((h.1).valid).general (h.1).general

  good_equations : Every IsGood T.equations
  good_equations = both_forms (IsFormOf (size N) T.unknowns) IsReportedForm T.equations ((h.1).valid).equations (h.1).equations

  few_names : length (N.names) ≤ 8
  few_names = let e = (h.0).each in let s = (h.0).small in let a = s.few_p in let b = s.few_q in omega arith

  few_unknowns : 1 + length T.unknowns < 2 ^ 32
  few_unknowns = let e = (h.1).next in let k = (h.1).kept in omega arith

  unknowns_here : unknowns_in N.names 1 (numbered_lines (free_line N.names) 1 T.unknowns) ≡ T.unknowns
  unknowns_here =
      unknowns_back N.names (h.0).letters 1 T.unknowns few_unknowns few_names (h.1).numbered
      (subst (λ n. Every (HasVariablesBelow n) T.unknowns) (sym (h.0).each) ((h.1).valid).variables)

  -- a system with general forms, which there are
  system_with : (gs : List LinearForm) (r e n : List ℕ) → length gs ≡ size N → Every IsGood gs
      → read_system N (numbered_lines (free_line N.names) 1 T.unknowns ++ (numbered_lines (component_line N T.unknowns) 0 gs ++ r ∷ (map (equation_line N T.unknowns) T.equations ++ e ∷ n ∷ [])))
      ≡ Some (record { named = N; unknowns = T.unknowns; general = map written_terms gs; equations = map written_terms T.equations })
  unfolding read_system
  system_with [] r e n each g = let s = ((h.0).small).some_p in absurd (omega arith)
  system_with (E ∷ Es) r e n each g =
      let first : List ℕ = component_line N T.unknowns 0 E in
      let rest : List (List ℕ) = numbered_lines (component_line N T.unknowns) 1 Es ++ r ∷ (map (equation_line N T.unknowns) T.equations ++ e ∷ n ∷ []) in
      let few = few_unknowns in
      let l = length_numbered (free_line N.names) 1 T.unknowns in
      let small : length (numbered_lines (free_line N.names) 1 T.unknowns) + 1 < 2 ^ 32 = omega arith in
      let t : nat_lt (length (numbered_lines (free_line N.names) 1 T.unknowns) + 1) (2 ^ 32) ≡ true = grind (arith, nat_tests, small) in
      rw (free_front N.names 1 T.unknowns first rest refl, free_back N.names 1 T.unknowns first rest refl, t, unknowns_here)
      (forms_back N h.0 T.unknowns ((h.1).valid).variables (h.1).numbered (E ∷ Es) T.equations each g good_equations r e n)

  name_from : (i : ℕ) → AreFrom 32 (name_at N.names i)
  name_from i = go (nat_lt i (length N.names)) refl
    where
      outside : (xs : List ℕ) (i : ℕ) → length xs ≤ i → AreFrom 32 (name_at xs i)
      outside [] zero le = tt
      outside [] (suc i) le = tt
      outside (x ∷ xs) zero le = absurd (omega arith)
      outside (x ∷ xs) (suc i) le = outside xs i (omega arith)

      go : (b : Bool) → nat_lt i (length N.names) ≡ b → AreFrom 32 (name_at N.names i)
      go true e =
          let lt : i < length N.names = grind (arith, nat_tests, e) in
          let n = named_at N.names (h.0).letters i lt in
          let low = (n.lower).0 in subst (AreFrom 32) (sym n.spelled) ((omega arith), tt)
      go false e = let le : length N.names ≤ i = grind (arith, nat_tests, e) in outside N.names i le

  abbrev vars_line : List ℕ
  vars_line = names_words (codes "vars") (take (N.space).p N.names)

  abbrev deps_line : List ℕ
  deps_line = names_words (codes "deps") (drop (N.space).p N.names)

  pub system_from : Every (AreFrom 32) (system_lines N T)
  system_from =
      let few = (h.1).many in
      let each : 0 + length T.general ≤ size N = let e = ((h.1).valid).components in omega arith in
      every-append (AreFrom 32) (numbered_lines (free_line N.names) 1 T.unknowns ++ numbered_lines (component_line N T.unknowns) 0 T.general) (remaining_line (length T.equations) ∷ map (equation_line N T.unknowns) T.equations)
      (every-append (AreFrom 32) (numbered_lines (free_line N.names) 1 T.unknowns) (numbered_lines (component_line N T.unknowns) 0 T.general) (free_from N.names name_from 1 T.unknowns few_unknowns)
      (components_from N h.0 T.unknowns ((h.1).valid).variables (h.1).numbered 0 T.general each goods)) (
        from_append 32 (codes "remaining ") (decimal (length T.equations)) (from_test (codes "remaining ") refl) (from_lower 32 48 (omega arith) (decimal (length T.equations)) (decimal_from (length T.equations) (omega arith))),
        equations_from N h.0 T.unknowns ((h.1).valid).variables (h.1).numbered T.equations good_equations,
      )

  -- the lines of the system in a report, with any two behind them
  pub lines_back : (first e n : List ℕ) → read_lines (first ∷ vars_line ∷ deps_line ∷ (system_lines N T ++ e ∷ n ∷ [])) ≡ Some (drafted (N, T))
  lines_back first e n =
      let F : List (List ℕ) = numbered_lines (free_line N.names) 1 T.unknowns in
      let G : List (List ℕ) = numbered_lines (component_line N T.unknowns) 0 T.general in
      let E : List (List ℕ) = map (equation_line N T.unknowns) T.equations in
      let r : List ℕ = remaining_line (length T.equations) in
      ap (λ o. o >>= λ M. read_system M (system_lines N T ++ e ∷ n ∷ [])) (named_back N h.0)
      ∙ ap (read_system N) (grouped F G E r e n) ∙ system_with T.general r e n ((h.1).valid).components goods
