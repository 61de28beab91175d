-- Orders by measures in turn, none of which goes down for ever; the order of derivatives in finitely many variables is one.
use Rattle.std.specs.Prelude.{◌≡◌, ℕ, zero, suc, ◌+◌, ◌<◌, ◌≤◌, Bool, true, false, List, [], ◌∷◌, eqb, get_or, drop}
use Rattle.std.proofs.Common.{refl, sym, ap, ap₂, subst, ◌∙◌, arith, true≢false, Ordering, Less, Equal, Greater, is_eq, is_gt, eq-eqb}
use Rattle.std.specs.Cmp.{ranks}
use Rattle.std.specs.Cmp.Lexicographic.{slice_cmp}
use Rattle.std.specs.Ordering.{nat_cmp, ordering_then, MatchOrdering}
use Rattle.lie_math.specs.Counts.{Derivative, derivative_cmp, order}
use Rattle.lie_systems.specs.ValidSystems.{count}
use Rattle.lie_math.proofs.Tests.{same_number}
use Rattle.lie_steps.proofs.RaisedOrder.{IsShort, counts_cmp, trimmed_counts}

-- the first measure that differs decides
abbrev pub by_measures : {X : Type 0} → List (X → ℕ) → X → X → Ordering
by_measures [] x y = Equal
by_measures (f ∷ fs) x y = ordering_then (nat_cmp (f x) (f y)) (by_measures fs x y)

abbrev pub IsLess : {X : Type 0} → List (X → ℕ) → X → X → Type 0
IsLess fs x y = by_measures fs x y ≡ Less

-- from x on, R goes down only finitely often
pub data Descends {X : Type 0} (R : X → X → Type 0) : X → Type 0 where
  descends : (x : X) → ((y : X) → R y x → Descends R y) → Descends R x

not_less : {r : Ordering} → r ≡ Equal → r ≡ Less → ⊥
not_less e f = true≢false (sym (ap is_eq e) ∙ ap is_eq f)

greater_not : {r : Ordering} → r ≡ Greater → r ≡ Less → ⊥
greater_not e f = true≢false (sym (ap is_gt e) ∙ ap is_gt f)

pub first_less : {Q : Type 0} (a b : ℕ) (s r : Ordering) → MatchOrdering r (a < b) (a ≡ b) (b < a) → ordering_then r s ≡ Less → (a < b → Q) → (a ≡ b → s ≡ Less → Q) → Q
first_less a b s Less m e f g = f m
first_less a b s Equal m e f g = g m e
first_less a b s Greater m e f g = absurd (greater_not refl e)

module _ {X : Type 0} where
  descends_step : (f : X → ℕ) (fs : List (X → ℕ)) (n : ℕ) → ((y : X) → f y < n → Descends (IsLess (f ∷ fs)) y) → (x : X) → f x ≡ n → Descends (IsLess fs) x → Descends (IsLess (f ∷ fs)) x
  descends_step f fs n smaller x e (descends x' h) =
      descends x' (λ y lt. first_less (f y) (f x') (by_measures fs y x') (nat_cmp (f y) (f x')) (ranks (f y) (f x')) lt (λ k. smaller y (subst (λ m. f y < m) e k)) (λ k l. descends_step f fs n smaller y (k ∙ e) (h y l)))

  descends_below : (f : X → ℕ) (fs : List (X → ℕ)) → ((x : X) → Descends (IsLess fs) x) → (n : ℕ) (x : X) → f x < n → Descends (IsLess (f ∷ fs)) x
  descends_below f fs all zero x lt = absurd (omega arith)
  descends_below f fs all (suc n) x lt = go (eqb (f x) n) refl (descends_below f fs all n)
    where
      go : (t : Bool) → eqb (f x) n ≡ t → ((y : X) → f y < n → Descends (IsLess (f ∷ fs)) y) → Descends (IsLess (f ∷ fs)) x
      go true e r = descends_step f fs n r x (same_number (f x) n e) (all x)
      go false e r = let ne : ¬ (f x ≡ n) = λ s. true≢false (sym (eq-eqb (f x) n s) ∙ e) in r x (omega arith)

  pub all_descend : (fs : List (X → ℕ)) (x : X) → Descends (IsLess fs) x
  all_descend [] x = descends x (λ y lt. absurd (not_less refl lt))
  all_descend (f ∷ fs) x = descends_below f fs (all_descend fs) (suc (f x)) x (omega arith)

-- ---- derivatives
-- the counts of the variables from i on, m of them
abbrev pub places : ℕ → ℕ → List (Derivative → ℕ)
places i zero = []
places i (suc m) = (λ d. count d i) ∷ places (suc i) m

-- the order, the unknown's number, and the counts of n variables
abbrev pub measures : ℕ → List (Derivative → ℕ)
measures n = (λ d. order d.counts) ∷ (λ d. d.unknown) ∷ places 0 n

counts_step : (J K : List ℕ) → counts_cmp J K ≡ ordering_then (nat_cmp (get_or J 0 0) (get_or K 0 0)) (counts_cmp (drop 1 J) (drop 1 K))
counts_step [] [] = refl
counts_step [] (k ∷ K) = refl
counts_step (j ∷ J) [] = refl
counts_step (j ∷ J) (k ∷ K) = refl

get_or-drop : (J : List ℕ) (v : ℕ) → get_or (drop 1 J) v 0 ≡ get_or J (suc v) 0
get_or-drop [] v = refl
get_or-drop (j ∷ J) v = refl

all_zero : (J K : List ℕ) → ((v : ℕ) → get_or J v 0 ≡ 0) → ((v : ℕ) → get_or K v 0 ≡ 0) → counts_cmp J K ≡ Equal
all_zero [] [] h g = refl
all_zero [] (k ∷ K) h g = ap₂ (λ a b. ordering_then (nat_cmp 0 a) b) (g 0) (all_zero [] K h (λ v. g (suc v)))
all_zero (j ∷ J) [] h g = ap₂ (λ a b. ordering_then (nat_cmp a 0) b) (h 0) (all_zero J [] (λ v. h (suc v)) g)
all_zero (j ∷ J) (k ∷ K) h g = ap₂ (λ a b. ordering_then a b) (ap₂ nat_cmp (h 0) (g 0)) (all_zero J K (λ v. h (suc v)) (λ v. g (suc v)))

by_places : (d e : Derivative) (m i : ℕ) (J K : List ℕ) → ((v : ℕ) → get_or J v 0 ≡ count d (i + v)) → ((v : ℕ) → get_or K v 0 ≡ count e (i + v)) → ((v : ℕ) → m ≤ v → get_or J v 0 ≡ 0) → ((v : ℕ) → m ≤ v → get_or K v 0 ≡ 0) → counts_cmp J K ≡ by_measures (places i m) d e
by_places d e zero i J K h g s t = all_zero J K (λ v. s v (omega arith)) (λ v. t v (omega arith))
by_places d e (suc m) i J K h g s t =
    counts_step J K ∙ ap₂ ordering_then (ap₂ nat_cmp (h 0 ∙ ap (count d) (here i)) (g 0 ∙ ap (count e) (here i)))
    (by_places d e m (suc i) (drop 1 J) (drop 1 K) (λ v. get_or-drop J v ∙ h (suc v) ∙ ap (count d) (moved i v)) (λ v. get_or-drop K v ∙ g (suc v) ∙ ap (count e) (moved i v))
    (λ v le. get_or-drop J v ∙ s (suc v) (omega arith)) (λ v le. get_or-drop K v ∙ t (suc v) (omega arith)))
  where
    here : (i : ℕ) → i + 0 ≡ i
    here i = omega arith

    moved : (i v : ℕ) → i + suc v ≡ suc i + v
    moved i v = omega arith

-- derived by the first n variables alone
abbrev pub IsWithin : ℕ → Derivative → Type 0
IsWithin n d = (v : ℕ) → n ≤ v → count d v ≡ 0

pub order_is_measured : (n : ℕ) (d e : Derivative) → IsShort d → IsShort e → IsWithin n d → IsWithin n e → derivative_cmp e d ≡ by_measures (measures n) d e
order_is_measured n d e s t h g =
    ap (λ r. ordering_then (nat_cmp (order d.counts) (order e.counts)) (ordering_then (nat_cmp d.unknown e.unknown) r))
    (ap₂ (slice_cmp nat_cmp) (sym s) (sym t) ∙ trimmed_counts d.counts e.counts ∙ by_places d e n 0 d.counts e.counts (λ v. ap (count d) (plain v)) (λ v. ap (count e) (plain v)) h g)
  where
    plain : (v : ℕ) → v ≡ 0 + v
    plain v = omega arith
