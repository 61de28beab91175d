-- Clearing a column of rows by a pivot row: each new row is an old one up to a multiple of the pivot row, and the span stays.
use Rattle.std.specs.Prelude.{◌≡◌, ℕ, zero, suc, ◌<◌, ◌≤◌, ◌==◌, true, false, cond, List, [], ◌∷◌, map, ℤ, pos, ◌+ℤ◌, ◌*ℤ◌, neg_ℤ, unsigned_abs, length}
use Rattle.std.proofs.Common.{refl, sym, ap, ap₂, ◌∙◌, arith}
use Rattle.std.specs.List.{AllByRecursion as Every}
use Rattle.std.proofs.Math.Nat.{zero-div}
use Rattle.lie_math.specs.Integer.{is_zero_int, int_nil, integer_ring}
use Rattle.lie_math.proofs.Integer.{not_zero, no_zero_divisors_ℤ, int_div_exact}
use Rattle.lie_math.proofs.RingSolver.{v, c0, c1, ◌⊕◌, ◌⊗◌, ⊖, solve, listed}
use Rattle.lie_spans.specs.Spans.{EveryTwo, IsSpanned}
use Rattle.lie_spans.specs.Reduced.{HasNoCommonDivisor}
use Rattle.lie_spans.specs.Rows.{Row, entry}
use Rattle.lie_math.specs.CommonDivisors.{common_divisor}
use Rattle.lie_spans.specs.Content.{row_content, divided_row, primitive_part}
use Rattle.lie_spans.specs.Elimination.{row_difference, over_common, eliminated_row, cleared_row, cleared_rows}
use Rattle.lie_spans.proofs.Divisors.{common_divisor_left, common_divisor_comm}
use Rattle.lie_math.proofs.EveryElement.{every_both, every-append, every-front, every-back}
use Rattle.lie_spans.proofs.Lists.{every_two-append}
use Rattle.lie_spans.proofs.Spans.{spanned_same, spanned-zero, spanned-plus, spanned_over}
use Rattle.lie_spans.proofs.Reduced.{abs_positive}
use Rattle.lie_spans.proofs.Content.{positive_of_test, zero_of_test, content_divides, divided_is, length-divided, primitive_divided, content_primitive, content_vanishes}

pub entry_past_end : (r : Row) (k : ℕ) → length r ≤ k → entry r k ≡ pos 0
entry_past_end [] k h = refl
entry_past_end (x ∷ xs) zero h = absurd (omega arith)
entry_past_end (x ∷ xs) (suc k) h = entry_past_end xs k (omega arith)

pub length-difference : (a b : ℤ) (xs ys : Row) → length (row_difference a b xs ys) ≡ length xs
length-difference a b [] ys = refl
length-difference a b (x ∷ xs) [] = ap suc (length-difference a b xs [])
length-difference a b (x ∷ xs) (y ∷ ys) = ap suc (length-difference a b xs ys)

pub entry-difference : (a b : ℤ) (xs ys : Row) → length ys ≤ length xs → (k : ℕ) → entry (row_difference a b xs ys) k ≡ a *ℤ entry xs k +ℤ neg_ℤ (b *ℤ entry ys k)
entry-difference a b [] [] h k = solve integer_ring (listed a (a ∷ b ∷ [])) c0 (v 0 ⊗ c0 ⊕ ⊖ (v 1 ⊗ c0)) refl
entry-difference a b [] (y ∷ ys) h k = absurd (omega arith)
entry-difference a b (x ∷ xs) [] h zero = solve integer_ring (listed a (a ∷ b ∷ x ∷ [])) (v 0 ⊗ v 2) (v 0 ⊗ v 2 ⊕ ⊖ (v 1 ⊗ c0)) refl
entry-difference a b (x ∷ xs) [] h (suc k) = entry-difference a b xs [] (omega arith) k
entry-difference a b (x ∷ xs) (y ∷ ys) h zero = refl
entry-difference a b (x ∷ xs) (y ∷ ys) h (suc k) = entry-difference a b xs ys (omega arith) k

-- ---- a over its greatest common divisor with b

over_common_back : (a b : ℤ) → pos (common_divisor (unsigned_abs a) (unsigned_abs b)) *ℤ over_common a b ≡ a
over_common_back a b = int_div_exact a (common_divisor (unsigned_abs a) (unsigned_abs b)) (common_divisor_left (unsigned_abs a) (unsigned_abs b))

over_common_not_zero : (a b : ℤ) → ¬ (a ≡ pos 0) → ¬ (over_common a b ≡ pos 0)
over_common_not_zero a b h e =
    h (sym (over_common_back a b) ∙ ap (λ x. pos (common_divisor (unsigned_abs a) (unsigned_abs b)) *ℤ x) e ∙ solve integer_ring (listed a (pos (common_divisor (unsigned_abs a) (unsigned_abs b)) ∷ [])) (v 0 ⊗ c0) c0 refl)

over_common-zero : (b : ℤ) → over_common (pos 0) b ≡ pos 0
over_common-zero b = ap pos (zero-div (common_divisor 0 (unsigned_abs b)))

-- ---- one action

-- d is r with 0 in column k: a multiple of d is a combination of r and p
pub record IsCleared (p : Row) (k : ℕ) (r d : Row) : Type 0 where
  pub up : ℤ
  pub down : ℤ
  pub scale : ℤ
  pub up_counts : 0 < unsigned_abs up
  pub scale_counts : 0 < unsigned_abs scale
  pub same : (j : ℕ) → scale *ℤ entry d j ≡ up *ℤ entry r j +ℤ neg_ℤ (down *ℤ entry p j)
  pub idle : entry r k ≡ pos 0 → down ≡ pos 0
  pub gone : entry d k ≡ pos 0
  pub primitive : HasNoCommonDivisor entry r → HasNoCommonDivisor entry d
  pub some : 0 < row_content r → 0 < row_content d
  pub length : length d ≡ length r

module _ (p : Row) (k : ℕ) (h : ¬ (entry p k ≡ pos 0)) where
  entry-eliminated : (r : Row) → length p ≡ length r → (j : ℕ) → entry (eliminated_row p k r) j ≡ over_common (entry p k) (entry r k) *ℤ entry r j +ℤ neg_ℤ (over_common (entry r k) (entry p k) *ℤ entry p j)
  entry-eliminated r l j = entry-difference (over_common (entry p k) (entry r k)) (over_common (entry r k) (entry p k)) r p (omega arith) j

  eliminated_gone : (r : Row) → length p ≡ length r → entry (eliminated_row p k r) k ≡ pos 0
  eliminated_gone r l =
      entry-eliminated r l k
      ∙ crossed (common_divisor (unsigned_abs (entry p k)) (unsigned_abs (entry r k))) (over_common (entry p k) (entry r k)) (over_common (entry r k) (entry p k)) (entry p k) (entry r k)
      (over_common_back (entry p k) (entry r k)) (ap (λ g. pos g *ℤ over_common (entry r k) (entry p k)) (common_divisor_comm (unsigned_abs (entry p k)) (unsigned_abs (entry r k))) ∙ over_common_back (entry r k) (entry p k))
    where
      crossed : (g : ℕ) (a b x y : ℤ) → pos g *ℤ a ≡ x → pos g *ℤ b ≡ y → a *ℤ y +ℤ neg_ℤ (b *ℤ x) ≡ pos 0
      crossed g a b x y e f =
          ap₂ (λ s t. a *ℤ s +ℤ neg_ℤ (b *ℤ t)) (sym f) (sym e)
          ∙ solve integer_ring (listed a (a ∷ b ∷ pos g ∷ [])) (v 0 ⊗ (v 2 ⊗ v 1) ⊕ ⊖ (v 1 ⊗ (v 2 ⊗ v 0))) c0 refl

  eliminated_is : (r : Row) → length p ≡ length r → 0 < row_content (eliminated_row p k r) → IsCleared p k r (divided_row (row_content (eliminated_row p k r)) (eliminated_row p k r))
  eliminated_is r l c =
      let back : (j : ℕ) → pos (row_content (eliminated_row p k r)) *ℤ entry (divided_row (row_content (eliminated_row p k r)) (eliminated_row p k r)) j ≡ entry (eliminated_row p k r) j = divided_is (row_content (eliminated_row p k r)) (eliminated_row p k r) (content_divides (eliminated_row p k r)) in
      record {
        up = over_common (entry p k) (entry r k);
        down = over_common (entry r k) (entry p k);
        scale = pos (row_content (eliminated_row p k r));
        up_counts = abs_positive (over_common (entry p k) (entry r k)) (over_common_not_zero (entry p k) (entry r k) h);
        scale_counts = c;
        same = λ j. back j ∙ entry-eliminated r l j;
        idle = λ z. ap (λ x. over_common x (entry p k)) z ∙ over_common-zero (entry p k);
        gone = no_zero_divisors_ℤ (pos (row_content (eliminated_row p k r))) _ (not_zero (row_content (eliminated_row p k r)) c) (back k ∙ eliminated_gone r l);
        primitive = λ _. primitive_divided (eliminated_row p k r) c;
        some = λ _. positive_one (content_primitive (divided_row (row_content (eliminated_row p k r)) (eliminated_row p k r)) (primitive_divided (eliminated_row p k r) c));
        length = length-divided (row_content (eliminated_row p k r)) (eliminated_row p k r) ∙ length-difference (over_common (entry p k) (entry r k)) (over_common (entry r k) (entry p k)) r p;
      }
    where
      positive_one : {n : ℕ} → n ≡ 1 → 0 < n
      positive_one e = omega arith

  -- a row with 0 there already
  uncleared_is : (r : Row) → entry r k ≡ pos 0 → IsCleared p k r r
  uncleared_is r z = record {
    up = pos 1;
    down = pos 0;
    scale = pos 1;
    up_counts = omega arith;
    scale_counts = omega arith;
    same = λ j. solve integer_ring (listed (pos 0) (entry r j ∷ entry p j ∷ [])) (c1 ⊗ v 0) (c1 ⊗ v 0 ⊕ ⊖ (c0 ⊗ v 1)) refl;
    idle = λ _. refl;
    gone = z;
    primitive = λ q. q;
    some = λ q. q;
    length = refl;
  }

  -- a fact of what is left of one row
  cleared_row_each : (Q : Row → Type 0) (r : Row) → length p ≡ length r → ((d : Row) → IsCleared p k r d → Q d) → Every Q (cleared_row p k r)
  cleared_row_each Q r l f =
      elim (is_zero_int (entry r k)) as (λ t. is_zero_int (entry r k) ≡ t → Every Q (cond t (r ∷ []) (primitive_part (eliminated_row p k r)))) [
        | true ↦ λ e. (f r (uncleared_is r (int_nil (entry r k) e)), tt)
        | false ↦ λ e. elim (row_content (eliminated_row p k r) == 0) as (λ b. (row_content (eliminated_row p k r) == 0) ≡ b → Every Q (cond b [] (divided_row (row_content (eliminated_row p k r)) (eliminated_row p k r) ∷ []))) [
          | true ↦ λ g. tt
          | false ↦ λ g. (f (divided_row (row_content (eliminated_row p k r)) (eliminated_row p k r)) (eliminated_is r l (positive_of_test (row_content (eliminated_row p k r)) g)), tt)
        ] refl
      ] refl

  -- one row is left at most
  cleared_row_alone : (R : Row → Row → Type 0) (r : Row) → EveryTwo R (cleared_row p k r)
  cleared_row_alone R r =
      elim (is_zero_int (entry r k)) as (λ t. EveryTwo R (cond t (r ∷ []) (primitive_part (eliminated_row p k r)))) [
        | true ↦ (tt, tt)
        | false ↦ elim (row_content (eliminated_row p k r) == 0) as (λ b. EveryTwo R (cond b [] (divided_row (row_content (eliminated_row p k r)) (eliminated_row p k r) ∷ []))) [ true ↦ tt | false ↦ (tt, tt) ]
      ]

  -- a row that is not 0 in a column where p is stays one row
  pub cleared_row_one : {Y : Type 0} (f : Row → Y) (r : Row) → length p ≡ length r → (j : ℕ) → entry p j ≡ pos 0 → ¬ (entry r j ≡ pos 0) → ((d : Row) → IsCleared p k r d → f d ≡ f r) → map f (cleared_row p k r) ≡ f r ∷ []
  cleared_row_one f r l j z n e =
      elim (is_zero_int (entry r k)) as (λ t. map f (cond t (r ∷ []) (primitive_part (eliminated_row p k r))) ≡ f r ∷ []) [
        | true ↦ refl
        | false ↦ elim (row_content (eliminated_row p k r) == 0) as (λ b. (row_content (eliminated_row p k r) == 0) ≡ b → map f (cond b [] (divided_row (row_content (eliminated_row p k r)) (eliminated_row p k r) ∷ [])) ≡ f r ∷ []) [
          | true ↦ λ g. absurd (n (no_zero_divisors_ℤ (over_common (entry p k) (entry r k)) (entry r j) (over_common_not_zero (entry p k) (entry r k) h) (vanishes (zero_of_test (row_content (eliminated_row p k r)) g))))
          | false ↦ λ g. ap (λ y. y ∷ []) (e (divided_row (row_content (eliminated_row p k r)) (eliminated_row p k r)) (eliminated_is r l (positive_of_test (row_content (eliminated_row p k r)) g)))
        ] refl
      ]
    where
      vanishes : row_content (eliminated_row p k r) ≡ 0 → over_common (entry p k) (entry r k) *ℤ entry r j ≡ pos 0
      vanishes g =
          solve integer_ring (listed (pos 0) (over_common (entry p k) (entry r k) ∷ entry r j ∷ over_common (entry r k) (entry p k) ∷ [])) (v 0 ⊗ v 1) (v 0 ⊗ v 1 ⊕ ⊖ (v 2 ⊗ c0)) refl
          ∙ ap (λ x. over_common (entry p k) (entry r k) *ℤ entry r j +ℤ neg_ℤ (over_common (entry r k) (entry p k) *ℤ x)) (sym z)
          ∙ sym (entry-eliminated r l j) ∙ content_vanishes (eliminated_row p k r) g j

  module _ (m : ℕ) (lp : length p ≡ m) where
    -- a fact of all rows, from one of the rows before
    pub cleared_each : (P Q : Row → Type 0) → ((r d : Row) → P r → IsCleared p k r d → Q d) → (rs : List Row) → Every (λ r. length r ≡ m) rs → Every P rs → Every Q (cleared_rows p k rs)
    cleared_each P Q f [] l a = tt
    cleared_each P Q f (r ∷ rs) l a = every-append Q (cleared_row p k r) (cleared_rows p k rs) (cleared_row_each Q r (lp ∙ sym l.0) (λ d c. f r d a.0 c)) (cleared_each P Q f rs l.1 a.1)

    pub cleared_two : (P : Row → Type 0) (R S : Row → Row → Type 0) → ((x y d e : Row) → P x → P y → R x y → IsCleared p k x d → IsCleared p k y e → S d e) → (rs : List Row) → Every (λ r. length r ≡ m) rs → Every P rs → EveryTwo R rs → EveryTwo S (cleared_rows p k rs)
    cleared_two P R S f [] l a t = tt
    cleared_two P R S f (r ∷ rs) l a t =
        every_two-append S (cleared_row p k r) (cleared_rows p k rs) (cleared_row_alone S r) (cleared_two P R S f rs l.1 a.1 t.1)
        (cleared_row_each (λ d. Every (S d) (cleared_rows p k rs)) r (lp ∙ sym l.0) (λ d c.
        cleared_each (λ y. P y × R r y) (S d) (λ y e q g. f r y d e a.0 q.0 q.1 c g) rs l.1 (every_both P (R r) (λ y. P y × R r y) (λ y q s. (q, s)) rs a.1 t.0)))

    -- what spans p and the new rows spans the old ones
    module _ (xs : List Row) (sp : IsSpanned entry xs (entry p)) where
      from_pivot : (u w : ℤ) (r : Row) (z : ℕ → ℤ) → 0 < unsigned_abs u → IsSpanned entry xs z → ((j : ℕ) → z j ≡ u *ℤ entry r j +ℤ neg_ℤ (w *ℤ entry p j)) → IsSpanned entry xs (entry r)
      from_pivot u w r z hu s e =
          spanned_over entry xs u (entry r) hu
          (spanned_same entry xs (λ j. pos 1 *ℤ z j +ℤ w *ℤ entry p j) (λ j. u *ℤ entry r j)
          (λ j. ap (λ x. pos 1 *ℤ x +ℤ w *ℤ entry p j) (e j) ∙ solve integer_ring (listed u (u ∷ w ∷ entry r j ∷ entry p j ∷ [])) (c1 ⊗ (v 0 ⊗ v 2 ⊕ ⊖ (v 1 ⊗ v 3)) ⊕ v 1 ⊗ v 3) (v 0 ⊗ v 2) refl)
          (spanned-plus entry xs (pos 1) w z (entry p) s sp))

      from_cleared : (r d : Row) → IsCleared p k r d → IsSpanned entry xs (entry d) → IsSpanned entry xs (entry r)
      from_cleared r d c s =
          from_pivot c.up c.down r (λ j. c.scale *ℤ entry d j +ℤ pos 0 *ℤ entry d j) c.up_counts (spanned-plus entry xs c.scale (pos 0) (entry d) (entry d) s s)
          (λ j. solve integer_ring (listed c.scale (c.scale ∷ entry d j ∷ [])) (v 0 ⊗ v 1 ⊕ c0 ⊗ v 1) (v 0 ⊗ v 1) refl ∙ c.same j)

      cleared_row_spans : (r : Row) → length p ≡ length r → Every (λ d. IsSpanned entry xs (entry d)) (cleared_row p k r) → IsSpanned entry xs (entry r)
      cleared_row_spans r l =
          elim (is_zero_int (entry r k)) as (λ t. Every (λ d. IsSpanned entry xs (entry d)) (cond t (r ∷ []) (primitive_part (eliminated_row p k r))) → IsSpanned entry xs (entry r)) [
            | true ↦ λ s. s.0
            | false ↦ elim (row_content (eliminated_row p k r) == 0) as (λ b. (row_content (eliminated_row p k r) == 0) ≡ b → Every (λ d. IsSpanned entry xs (entry d)) (cond b [] (divided_row (row_content (eliminated_row p k r)) (eliminated_row p k r) ∷ [])) → IsSpanned entry xs (entry r)) [
              | true ↦ λ g s. from_pivot (over_common (entry p k) (entry r k)) (over_common (entry r k) (entry p k)) r (λ j. pos 0) (abs_positive _ (over_common_not_zero (entry p k) (entry r k) h)) (spanned-zero entry xs)
                  (λ j. sym (content_vanishes (eliminated_row p k r) (zero_of_test (row_content (eliminated_row p k r)) g) j) ∙ entry-eliminated r l j)
              | false ↦ λ g s. from_cleared r (divided_row (row_content (eliminated_row p k r)) (eliminated_row p k r)) (eliminated_is r l (positive_of_test (row_content (eliminated_row p k r)) g)) s.0
            ] refl
          ]

      pub cleared_spans : (rs : List Row) → Every (λ r. length r ≡ m) rs → Every (λ d. IsSpanned entry xs (entry d)) (cleared_rows p k rs) → Every (λ r. IsSpanned entry xs (entry r)) rs
      cleared_spans [] l a = tt
      cleared_spans (r ∷ rs) l a = (
        cleared_row_spans r (lp ∙ sym l.0) (every-front (λ d. IsSpanned entry xs (entry d)) (cleared_row p k r) (cleared_rows p k rs) a),
        cleared_spans rs l.1 (every-back (λ d. IsSpanned entry xs (entry d)) (cleared_row p k r) (cleared_rows p k rs) a),
      )

      -- and the other way round
      pub cleared_spanned : (r d : Row) → IsSpanned entry xs (entry r) → IsCleared p k r d → IsSpanned entry xs (entry d)
      cleared_spanned r d s c =
          spanned_over entry xs c.scale (entry d) c.scale_counts
          (spanned_same entry xs (λ j. c.up *ℤ entry r j +ℤ neg_ℤ c.down *ℤ entry p j) (λ j. c.scale *ℤ entry d j)
          (λ j. solve integer_ring (listed c.up (c.up ∷ c.down ∷ entry r j ∷ entry p j ∷ [])) (v 0 ⊗ v 2 ⊕ ⊖ (v 1) ⊗ v 3) (v 0 ⊗ v 2 ⊕ ⊖ (v 1 ⊗ v 3)) refl ∙ sym (c.same j))
          (spanned-plus entry xs c.up (neg_ℤ c.down) (entry r) (entry p) s sp))

-- where p has 0, d has 0 exactly where r has
module _ (p : Row) (k : ℕ) (r d : Row) (c : IsCleared p k r d) (j : ℕ) (z : entry p j ≡ pos 0) where
  multiples : c.scale *ℤ entry d j ≡ c.up *ℤ entry r j
  multiples = c.same j ∙ ap (λ x. c.up *ℤ entry r j +ℤ neg_ℤ (c.down *ℤ x)) z ∙ solve integer_ring (listed c.up (c.up ∷ c.down ∷ entry r j ∷ [])) (v 0 ⊗ v 2 ⊕ ⊖ (v 1 ⊗ c0)) (v 0 ⊗ v 2) refl

  counts : (x : ℤ) → 0 < unsigned_abs x → ¬ (x ≡ pos 0)
  counts x h e = let q : unsigned_abs x ≡ 0 = ap unsigned_abs e in omega arith

  pub zero_on : entry r j ≡ pos 0 → entry d j ≡ pos 0
  zero_on e = no_zero_divisors_ℤ c.scale (entry d j) (counts c.scale c.scale_counts) (multiples ∙ ap (λ x. c.up *ℤ x) e ∙ solve integer_ring (listed c.up (c.up ∷ [])) (v 0 ⊗ c0) c0 refl)

  pub zero_back : entry d j ≡ pos 0 → entry r j ≡ pos 0
  zero_back e = no_zero_divisors_ℤ c.up (entry r j) (counts c.up c.up_counts) (sym multiples ∙ ap (λ x. c.scale *ℤ x) e ∙ solve integer_ring (listed c.up (c.scale ∷ [])) (v 0 ⊗ c0) c0 refl)
