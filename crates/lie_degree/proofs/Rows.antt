-- The rows of all conditions, equation by equation.
use Rattle.std.specs.Prelude.{◌≡◌, ℕ, zero, suc, ◌+◌, ◌<◌, ◌≤◌, List, [], ◌∷◌, ◌++◌, map, length, take, drop, get_or, pos}
use Rattle.std.proofs.Common.{refl, sym, ap, ap₂, subst, ◌∙◌, append_assoc, append-nil, arith, ⊎_elim}
use Rattle.std.proofs.lemmas.List.{length-map}
use Rattle.std.specs.List.{AllByRecursion as Every, Any}
use Rattle.lie_math.specs.Limits.{IsWithinLimits}
use Rattle.lie_math.specs.LinearForm.{LinearForm}
use Rattle.lie_math.specs.Monomial.{Monomial, monomial_cmp}
use Rattle.lie_math.specs.MonomialOrder.{monomial_cmp_total, monomial_cmp-IsAntisymmetric}
use Rattle.lie_math.specs.Polynomial.{coefficient}
use Rattle.lie_math.proofs.EveryElement.{every-append, every-weaken, every_contained}
use Rattle.lie_math.proofs.Integer.{zero_or_not}
use Rattle.lie_math.proofs.SomeElement.{any_head, any_tail}
use Rattle.lie_math.proofs.SortedLists.{sorted_unique}
use Rattle.lie_ring.specs.declared.failures.PolyFail.{PolyFail}
use Rattle.lie_ring.specs.declared.failures.PolyFail.TheVariants.{Past, NoMemory}
use Rattle.lie_ring.proofs.Fronts.{take_more, all_taken}
use Rattle.lie_spans.specs.Conditions.{condition_row, condition_rows, HasAllMonomials}
use Rattle.lie_spans.specs.Fields.{Column}
use Rattle.lie_spans.specs.Rows.{Row, HaveLength}
use Rattle.lie_degree.specs.Conditions.{said_of, said_bulk, AreConditionMonomials, AreConditions}
use Rattle.lie_degree.specs.Said.{IsRowsCause, AreRowsWithin, IsSaidCause}

rows-append : (ks : List Column) (cs ds : List (LinearForm × List Monomial)) → condition_rows ks (cs ++ ds) ≡ condition_rows ks cs
    ++ condition_rows ks ds
rows-append ks [] ds = refl
rows-append ks (c ∷ cs) ds =
    ap (λ rs. map (condition_row ks c.0) c.1 ++ rs) (rows-append ks cs ds) ∙ sym
    (append_assoc (map (condition_row ks c.0) c.1) (condition_rows ks cs) (condition_rows ks ds))

map-append : {X Y : Type 0} (f : X → Y) (xs ys : List X) → map f (xs ++ ys) ≡ map f xs ++ map f ys
map-append f [] ys = refl
map-append f (x ∷ xs) ys = ap (λ zs. f x ∷ zs) (map-append f xs ys)

module _ (ks : List Column) (Es : List LinearForm) where
  -- the conditions of the first equations, and their rows
  pub record IsFront (i : ℕ) (rows : List Row) : Type 0 where
    pub conditions : List (LinearForm × List Monomial)
    pub are : AreConditions ks (take i Es) conditions
    pub rows_are : rows ≡ condition_rows ks conditions
    pub within : AreRowsWithin ks (take i Es)

  pub front_start : (rows : List Row) → rows ≡ [] → IsFront 0 rows
  front_start rows e = record { conditions = []; are = record { equations = refl; monomials = tt }; rows_are = e; within = tt }

  pub front_next : (i : ℕ) (rows new : List Row) (E : LinearForm) → i < length Es → E ≡ get_or Es i E → IsFront i rows
      → (ms : List Monomial) → AreConditionMonomials ks E ms → new ≡ rows ++ map (condition_row ks E) ms → AreRowsWithin ks (E ∷ [])
      → IsFront (i + 1) new
  front_next i rows new E l e h ms m n w = record {
    conditions = h.conditions ++ (E, ms) ∷ [];
    are = record {
      equations = map-append (λ c. c.0) h.conditions ((E, ms) ∷ []) ∙ ap (λ xs. xs ++ E ∷ []) (h.are).equations ∙ take_more Es i E l e;
      monomials = every-append (λ (c : LinearForm × List Monomial). AreConditionMonomials ks c.0 c.1) h.conditions ((E, ms) ∷ [])
          (h.are).monomials (m, tt);
    };
    rows_are = n ∙ ap₂ ◌++◌ h.rows_are (sym (append-nil (map (condition_row ks E) ms))) ∙ sym (rows-append ks h.conditions ((E, ms) ∷ []));
    within = subst (AreRowsWithin ks) (take_more Es i E l e)
        (every-append (λ E. Every (λ k. IsWithinLimits (said_bulk E k)) ks) (take i Es) (E ∷ []) h.within w);
  }

  pub front_end : (i : ℕ) (rows : List Row) → length Es ≤ i → IsFront i rows
      → (cs : List (LinearForm × List Monomial)) × AreConditions ks Es cs × (rows ≡ condition_rows ks cs)
  front_end i rows l h = (h.conditions, subst (λ xs. AreConditions ks xs h.conditions) (all_taken Es i l) h.are, h.rows_are)

  pub front_within : (i : ℕ) (rows : List Row) → length Es ≤ i → IsFront i rows → AreRowsWithin ks Es
  front_within i rows l h = subst (AreRowsWithin ks) (all_taken Es i l) h.within

  pub rows_cause : (fail : PolyFail) (i : ℕ) (E : LinearForm) → i < length Es → E ≡ get_or Es i E → IsSaidCause fail E ks
      → IsRowsCause fail ks Es
  rows_cause fail i E l e h = go fail Es i l e h
    where
      go : (fail : PolyFail) (Es : List LinearForm) (i : ℕ) → i < length Es → E ≡ get_or Es i E → IsSaidCause fail E ks
          → IsRowsCause fail ks Es
      go (Past kind) [] i l e h = absurd (omega arith)
      go (Past kind) (F ∷ Es) zero l e h = any_head (λ E. IsSaidCause (Past kind) E ks) F Es (subst (λ G. IsSaidCause (Past kind) G ks) e h)
      go (Past kind) (F ∷ Es) (suc i) l e h = any_tail (λ E. IsSaidCause (Past kind) E ks) F Es (go (Past kind) Es i (omega arith) e h)
      go NoMemory Es i l e h = tt

-- ---- what conditions have
pub rows_have_length : (ks : List Column) (cs : List (LinearForm × List Monomial)) → HaveLength (length ks) (condition_rows ks cs)
rows_have_length ks [] = tt
rows_have_length ks (c ∷ cs) = every-append (λ r. length r ≡ length ks) (map (condition_row ks c.0) c.1) (condition_rows ks cs)
    (each c.1) (rows_have_length ks cs)
  where
    each : (ms : List Monomial) → Every (λ r. length r ≡ length ks) (map (condition_row ks c.0) ms)
    each [] = tt
    each (m ∷ ms) = (length-map ks (λ k. coefficient (said_of c.0 k) m), each ms)

all_monomials : (ks : List Column) (c : LinearForm × List Monomial) → AreConditionMonomials ks c.0 c.1 → HasAllMonomials ks c
all_monomials ks c h m none = every ks (λ a. every_contained (λ x. ¬ (x ≡ m)) c.1 m none ((h.elements m).1 a) refl)
  where
    every : (js : List Column) → ¬ (Any (λ k. ¬ (coefficient (said_of c.0 k) m ≡ pos 0)) js) → Every
        (λ k. coefficient (said_of c.0 k) m ≡ pos 0) js
    every [] n = tt
    every (k ∷ js) n = (
      ⊎_elim (λ z. z) (λ a. absurd (n (any_head (λ k. ¬ (coefficient (said_of c.0 k) m ≡ pos 0)) k js a)))
          (zero_or_not (coefficient (said_of c.0 k) m)),
      every js (λ a. n (any_tail (λ k. ¬ (coefficient (said_of c.0 k) m ≡ pos 0)) k js a)),
    )

pub conditions_have_all : (ks : List Column) (Es : List LinearForm) (cs : List (LinearForm × List Monomial)) → AreConditions ks Es cs
    → Every (HasAllMonomials ks) cs
conditions_have_all ks Es cs h = every-weaken (λ (c : LinearForm × List Monomial). AreConditionMonomials ks c.0 c.1) (HasAllMonomials ks)
    (all_monomials ks) cs h.monomials

-- there is one list of conditions
pub same_conditions : (ks : List Column) (Es : List LinearForm) (cs ds : List (LinearForm × List Monomial)) → AreConditions ks Es cs
    → AreConditions ks Es ds → cs ≡ ds
same_conditions ks Es cs ds h g = go cs ds (h.equations ∙ sym g.equations) h.monomials g.monomials
  where
    same : (E F : LinearForm) (ms ns : List Monomial) → E ≡ F → AreConditionMonomials ks E ms → AreConditionMonomials ks F ns → ms ≡ ns
    same E F ms ns e a b =
        let c : AreConditionMonomials ks E ns = subst (λ G. AreConditionMonomials ks G ns) (sym e) b in
        sorted_unique monomial_cmp monomial_cmp_total monomial_cmp-IsAntisymmetric ms ns a.sorted c.sorted
        (λ m. (λ x. (c.elements m).1 ((a.elements m).0 x), λ x. (a.elements m).1 ((c.elements m).0 x)))

    go : (cs ds : List (LinearForm × List Monomial)) → map (λ c. c.0) cs ≡ map (λ c. c.0) ds
        → Every (λ (c : LinearForm × List Monomial). AreConditionMonomials ks c.0 c.1) cs → Every
        (λ (c : LinearForm × List Monomial). AreConditionMonomials ks c.0 c.1) ds → cs ≡ ds
    go [] [] e h g = refl
    go [] (d ∷ ds) e h g = let l : 0 ≡ suc (length (map (λ c. c.0) ds)) = ap length e in absurd (omega arith)
    go (c ∷ cs) [] e h g = let l : suc (length (map (λ c. c.0) cs)) ≡ 0 = ap length e in absurd (omega arith)
    go (c ∷ cs) (d ∷ ds) e h g =
        let first : c.0 ≡ d.0 = ap (λ xs. get_or xs 0 c.0) e in
        let rest : map (λ c. c.0) cs ≡ map (λ c. c.0) ds = ap (drop 1) e in
        ap₂ (λ x xs. x ∷ xs) (ap₂ (λ E ms. (E, ms)) first (same c.0 d.0 c.1 d.1 first h.0 g.0)) (go cs ds rest h.1 g.1)
