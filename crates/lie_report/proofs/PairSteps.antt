-- Combinations and commutators, as loops make them.
use Rattle.std.specs.Prelude.{ℕ, suc, ◌≡◌, ◌+◌, ◌<◌, ◌≤◌, ◌==◌, ltb, Bool, true, false, unsigned_abs, if◌then◌else◌, List, ◌∷◌, ◌++◌, length, map, drop, refl}
use Rattle.std.proofs.Common.{sym, ap, ◌∙◌, subst, arith, get_or, append_assoc, add-one, drop-cons}
use Rattle.std.proofs.lemmas.List.{append-nil}
use Rattle.std.proofs.Math.ListN.{drop_of_length-le}
use Rattle.lie_ring.specs.declared.ratio.Ratio.{Ratio}
use Rattle.lie_report.specs.SystemLines.{ended, lines_text}
use Rattle.lie_report.specs.BasisLines.{multiple, unless_further, multiples_from, next_pair, commutator_line, commutator_lines_from}

-- ---- combinations
-- a multiple by 0 is left out, another is put
pub left_out : (further : Bool) (n : ℕ) (r : Ratio) (rest : List Ratio) → (unsigned_abs r.num == 0) ≡ true → multiples_from further n (r ∷ rest) ≡ multiples_from further (n + 1) rest
left_out further n r rest none = rw none refl

pub put_first : (further : Bool) (n : ℕ) (r : Ratio) (rest : List Ratio) (text more : List ℕ) → (unsigned_abs r.num == 0) ≡ false → more ≡ text ++ multiple further n r
    → more ++ multiples_from true (n + 1) rest ≡ text ++ multiples_from further n (r ∷ rest)
put_first further n r rest text more some more_is =
    ap (λ l. l ++ multiples_from true (n + 1) rest) more_is ∙ append_assoc text (multiple further n r) (multiples_from true (n + 1) rest) ∙ ap (λ l. text ++ l) (sym (shown some))
  where
    shown : (unsigned_abs r.num == 0) ≡ false → multiples_from further n (r ∷ rest) ≡ multiple further n r ++ multiples_from true (n + 1) rest
    shown h = rw h refl

pub multiples-step : (rs : List Ratio) (n i : ℕ) (e : Ratio) (further later : Bool) (text more all : List ℕ) → i < length rs
    → ((rest : List Ratio) → more ++ multiples_from later (n + 1) rest ≡ text ++ multiples_from further n (get_or rs i e ∷ rest))
    → text ++ multiples_from further n (drop i rs) ≡ all → more ++ multiples_from later (n + 1) (drop (i + 1) rs) ≡ all
multiples-step rs n i e further later text more all lt one so_far =
    ap (λ k. more ++ multiples_from later (n + 1) (drop k rs)) (add-one i) ∙ one (drop (suc i) rs)
    ∙ ap (λ l. text ++ multiples_from further n l) (sym (drop-cons rs i e lt)) ∙ so_far

pub multiples-done : (further : Bool) (rs : List Ratio) (n i : ℕ) (text last all : List ℕ) → length rs ≤ i → last ≡ text ++ unless_further further
    → text ++ multiples_from further n (drop i rs) ≡ all → last ≡ all
multiples-done further rs n i text last all past last_is so_far = last_is ∙ ap (λ l. text ++ l) (sym (ap (multiples_from further n) (drop_of_length-le rs past))) ∙ so_far

-- ---- commutators
pub next_first : (n : ℕ) (p q : ℕ × ℕ) → q ≡ next_pair n p → q.0 ≤ p.0 + 1
next_first n p q is = subst (λ (r : ℕ × ℕ). r.0 ≤ p.0 + 1) (sym is) (go (ltb p.1 n))
  where
    go : (b : Bool) → (if◌then◌else◌ {A = ℕ × ℕ} b (p.0, p.1 + 1) (p.0 + 1, p.0 + 2)).0 ≤ p.0 + 1
    go true = omega arith
    go false = omega arith

module _ {X : Type 0} (n : ℕ) (p : ℕ × ℕ) where
  pub commutators-put : (q : ℕ × ℕ) (entry : X → List Ratio) (xs : List X) (i : ℕ) (e : X) (text more all : List ℕ) → i < length xs → q ≡ next_pair n p
      → more ≡ text ++ ended (commutator_line p (entry (get_or xs i e))) → text ++ lines_text (commutator_lines_from n p (map entry (drop i xs))) ≡ all
      → more ++ lines_text (commutator_lines_from n q (map entry (drop (i + 1) xs))) ≡ all
  commutators-put q entry xs i e text more all lt next more_is so_far =
      ap (λ l. more ++ lines_text (commutator_lines_from n l (map entry (drop (i + 1) xs)))) next
      ∙ ap (λ l. l ++ lines_text (commutator_lines_from n (next_pair n p) (map entry (drop (i + 1) xs)))) more_is
      ∙ append_assoc text (ended (commutator_line p (entry (get_or xs i e)))) (lines_text (commutator_lines_from n (next_pair n p) (map entry (drop (i + 1) xs))))
      ∙ ap (λ l. text ++ l) (sym (step (drop i xs) (drop-cons xs i e lt))) ∙ so_far
    where
      first : (x : X) (rest : List X) → lines_text (commutator_lines_from n p (map entry (x ∷ rest))) ≡ ended (commutator_line p (entry x)) ++ lines_text (commutator_lines_from n (next_pair n p) (map entry rest))
      first x rest = refl

      step : (rest : List X) → rest ≡ get_or xs i e ∷ drop (suc i) xs
          → lines_text (commutator_lines_from n p (map entry rest)) ≡ ended (commutator_line p (entry (get_or xs i e))) ++ lines_text (commutator_lines_from n (next_pair n p) (map entry (drop (i + 1) xs)))
      step rest h = rw (h, add-one i) (first (get_or xs i e) (drop (suc i) xs))

  pub commutators-done : (entry : X → List Ratio) (xs : List X) (i : ℕ) (text all : List ℕ) → length xs ≤ i
      → text ++ lines_text (commutator_lines_from n p (map entry (drop i xs))) ≡ all → text ≡ all
  commutators-done entry xs i text all past so_far =
      sym (append-nil text) ∙ ap (λ l. text ++ l) (sym (ap (λ (rest : List X). lines_text (commutator_lines_from n p (map entry rest))) (drop_of_length-le xs past))) ∙ so_far
