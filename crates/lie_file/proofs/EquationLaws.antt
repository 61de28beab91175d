-- Equations: what is read is of the grammar, and what is of the grammar is read.
use Rattle.std.specs.Prelude.{ℕ, ◌≡◌, Bool, true, false, ◌==◌, List, [], ◌∷◌, ◌++◌, length, ℤ, if◌then◌else◌, Ok, Err, refl}
use Rattle.std.proofs.Common.{sym, ap, ◌∙◌, subst, arith}
use Rattle.std.proofs.lemmas.Bool.Decides.{nat_tests}
use Rattle.std.proofs.lemmas.List.{nil_from_length}
use Rattle.lie_math.specs.Monomial.{Monomial}
use Rattle.lie_math.specs.Polynomial.{polynomial_of}
use Rattle.lie_geometry.specs.Coordinates.{Space}
use Rattle.lie_scan.specs.declared.fault.BadKind.TheVariants.{Syntax}
use Rattle.lie_scan.specs.Stops.{stop, ◌>>=◌}
use Rattle.lie_system.specs.Systems.{EquationRead}
use Rattle.lie_scan.specs.Terms.{sum_at, equation_end, right_by, equation_of}
use Rattle.lie_file.specs.Leads.{lead_of}
use Rattle.lie_file.specs.Files.{equation_at}
use Rattle.lie_scan.specs.TokenGrammar.{AreBlanks, IsSign}
use Rattle.lie_scan.specs.LineFaults.{IsEndOfSum}
use Rattle.lie_scan.specs.SumGrammar.{IsSum, IsEquation}
use Rattle.lie_scan.proofs.Blanks.{bind_then, guard_else, ok_is, blanks_to, blanks_only, only_blanks, mark_next, mark_not, blanks_not}
use Rattle.lie_scan.proofs.TermLaws.{AreSmall}
use Rattle.lie_scan.proofs.SumLaws.{small_front, IsSumRead, sum_at-is, is-sum_at}
use Rattle.lie_file.proofs.LeadLaws.{equals_mark, lead-is, is-lead}

pub record IsEquationRead (S : Space) (names text : List ℕ) (ts : List (Monomial × ℤ)) : Type 0 where
  pub left : List (Monomial × ℤ)
  pub behind_left : List ℕ
  pub front : List ℕ
  pub right : List (Monomial × ℤ)
  pub behind : List ℕ
  pub left_is : IsSum S names false text left behind_left
  pub equals : IsSign 61 behind_left front
  pub right_is : IsSum S names true front right behind
  pub ends : AreBlanks behind
  pub put : ts ≡ left ++ right
  pub small : AreSmall ts

pub none_small : AreSmall []
none_small m = omega arith

pub end_then : (x : List (Monomial × ℤ) × List ℕ) (ts : List (Monomial × ℤ)) → equation_end x ≡ Ok ts → (x.0 ≡ ts) × (x.1 ≡ [])
end_then x ts h =
    let g = guard_else (length x.1 == 0) (stop Syntax x.1) (Ok x.0) ts h in
    (ok_is x.0 ts g.1, nil_from_length x.1 (grind (arith, nat_tests, g.0)))

right_is : (S : Space) (names text : List ℕ) (x : List (Monomial × ℤ) × List ℕ) (ts : List (Monomial × ℤ)) → IsSumRead S names false [] text x → right_by S names x.0 x.1 ≡ Ok ts → IsEquationRead S names text ts
right_is S names text x ts left h = go x.1 refl h
  where
    sides : (cs : List ℕ) → x.1 ≡ 61 ∷ cs → (sum_at S names true x.0 cs >>= equation_end) ≡ Ok ts → IsEquationRead S names text ts
    sides cs at e = bind_then (sum_at S names true x.0 cs) equation_end ts e (λ y is_y rest.
        let right = sum_at-is S names true x.0 cs y is_y in
        let ended = end_then y ts rest in
        record {
          left = left.terms;
          behind_left = left.rest;
          front = cs;
          right = right.terms;
          behind = right.rest;
          left_is = left.is;
          equals = blanks_to left.rest (61 ∷ cs) (sym left.left ∙ at);
          right_is = right.is;
          ends = blanks_only right.rest (sym right.left ∙ ended.1);
          put = sym ended.0 ∙ right.put ∙ ap (λ l. l ++ right.terms) left.put;
          small = subst AreSmall ended.0 (right.small (left.small none_small));
        })

    by_test : (c : ℕ) (cs : List ℕ) (t : Bool) → x.1 ≡ c ∷ cs → (c == 61) ≡ t → (if t then (sum_at S names true x.0 cs >>= equation_end) else Err (stop Syntax (c ∷ cs))) ≡ Ok ts
        → ((cs : List ℕ) → x.1 ≡ 61 ∷ cs → (sum_at S names true x.0 cs >>= equation_end) ≡ Ok ts → IsEquationRead S names text ts) → IsEquationRead S names text ts
    by_test c cs true at test e k = let is : c ≡ 61 = grind (arith, nat_tests, test) in k cs (at ∙ ap (λ b. b ∷ cs) is) e
    by_test c cs false at test e k = cc

    go : (bs : List ℕ) → x.1 ≡ bs → right_by S names x.0 bs ≡ Ok ts → IsEquationRead S names text ts
    go [] at e = cc
    go (c ∷ cs) at e = by_test c cs (c == 61) at refl e sides

pub equation_of-is : (S : Space) (names text : List ℕ) (ts : List (Monomial × ℤ)) → equation_of S names text ≡ Ok ts → IsEquationRead S names text ts
unfolding equation_of
equation_of-is S names text ts h = bind_then (sum_at S names false [] text) _ ts h (λ x is_x rest. right_is S names text x ts (sum_at-is S names false [] text x is_x) rest)

pub equation_at-is : (S : Space) (names text : List ℕ) (e : EquationRead) → equation_at S names text ≡ Ok e → IsEquation S names text e
unfolding equation_at
equation_at-is S names text e h = bind_then (equation_of S names text) _ e h (λ ts is_ts rest.
    let read = equation_of-is S names text ts is_ts in
    let made : EquationRead = record { lead = lead_of S names text; diff = polynomial_of ts } in
    subst (IsEquation S names text) (ok_is made e rest) (record {
      left = read.left;
      behind_left = read.behind_left;
      front = read.front;
      right = read.right;
      behind = read.behind;
      left_is = read.left_is;
      equals = read.equals;
      right_is = read.right_is;
      ends = read.ends;
      small = subst AreSmall read.put read.small;
      means = ap polynomial_of read.put;
      lead = lead-is S names text;
    }))

pub before_equals : (rest right : List ℕ) → IsSign 61 rest right → IsEndOfSum rest
before_equals rest right h = record {
  no_star = mark_not 61 42 rest right equals_mark refl h;
  no_plus = mark_not 61 43 rest right equals_mark refl h;
  no_minus = mark_not 61 45 rest right equals_mark refl h;
}

before_end : (rest : List ℕ) → AreBlanks rest → IsEndOfSum rest
before_end rest h = record { no_star = blanks_not 42 rest h; no_plus = blanks_not 43 rest h; no_minus = blanks_not 45 rest h }

is-equation_of : (S : Space) (names text : List ℕ) (e : EquationRead) → (h : IsEquation S names text e) → equation_of S names text ≡ Ok (h.left ++ h.right)
unfolding equation_of
is-equation_of S names text e h =
    let left = is-sum_at S names false [] text h.left h.behind_left h.left_is (before_equals h.behind_left h.front h.equals) (small_front h.left h.right h.small) in
    let right = is-sum_at S names true h.left h.front h.right h.behind h.right_is (before_end h.behind h.ends) h.small in
    rw (left, mark_next 61 h.behind_left h.front equals_mark h.equals, right, only_blanks h.behind h.ends) refl

pub is-equation_at : (S : Space) (names text : List ℕ) (e : EquationRead) → IsEquation S names text e → equation_at S names text ≡ Ok e
unfolding equation_at
is-equation_at S names text e h =
    let made : EquationRead = record { lead = lead_of S names text; diff = polynomial_of (h.left ++ h.right) } in
    let same : made ≡ e = same_parts made e (is-lead S names text e.lead h.lead) (sym h.means) in
    rw (is-equation_of S names text e h) (ap Ok same)
  where
    same_parts : (a b : EquationRead) → a.lead ≡ b.lead → a.diff ≡ b.diff → a ≡ b
    same_parts a b p q = λ i. record { lead = p i; diff = q i }
