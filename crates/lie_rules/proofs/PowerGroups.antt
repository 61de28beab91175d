-- Triples put into groups by their exponents of a variable, and the coefficients of the powers that the groups are.
use Rattle.std.specs.Prelude.{◌≡◌, ℕ, zero, suc, ◌+◌, ◌<◌, ◌≤◌, cond, List, [], ◌∷◌, ◌++◌, length, replicate}
use Rattle.std.specs.Prelude.{get_or, map, take, ℤ, Vec}
use Rattle.std.specs.declared.alloc.Global.{Global}
use Rattle.std.proofs.Common.{refl, sym, ap, ap₂, subst, ◌∙◌, arith, eq-eqb, add-one, append_assoc, length-append}
use Rattle.std.proofs.Math.ListN.{set}
use Rattle.std.specs.List.{AllByRecursion as Every, Contains}
use Rattle.lie_math.specs.LinearForm.{LinearForm}
use Rattle.lie_math.specs.Monomial.{Monomial, exponent}
use Rattle.lie_math.proofs.ContainedElements.{contains_first}
use Rattle.lie_math.proofs.Monomial.{bare}
use Rattle.lie_math.proofs.Tests.{other_number}
use Rattle.lie_systems.specs.Triples.{Triple, triples, sum_of_triples}
use Rattle.lie_systems.specs.Bulk.{bulk, IsFormWithinLimits}
use Rattle.lie_systems.specs.Works.{Made, AForm}
use Rattle.lie_systems.proofs.Triples.{sum_of_triples-triples}
use Rattle.lie_jet.specs.Derivatives.{derivative_of}
use Rattle.lie_jet.specs.declared.derivative.Der.{Der}
use Rattle.lie_ring.specs.declared.failures.PolyFail.{PolyFail}
use Rattle.lie_ring.proofs.Fronts.{take_more}
use Rattle.lie_form.specs.FormLimits.{IsFormCause}
use Rattle.lie_lin.specs.Forms.{triples_of}
use Rattle.lie_lin.proofs.Forms.{triples_of-append}
use Rattle.lie_normal.specs.WorkCauses.{IsWorkCause}
use Rattle.lie_normal.proofs.WorkSteps.{IsLeft, left_all, left_same, left_next, left_contains, form_work}
use Rattle.lie_steps.specs.Bulks.{absolute_form}
use Rattle.lie_steps.specs.Split.{coefficient_of_power, form_degree, powers_below, all_powers}
use Rattle.lie_rules.specs.Powers.{with_power, by_exponents, groups_of}
use Rattle.lie_rules.proofs.PowerParts.{with_power-append, coefficient_of_triples, bulk_of_power, degree_of_absolutes, degree_bounds}

abbrev Group : Type 0
Group = Vec (Der × Monomial × ℤ) Global

-- ---- one triple more
module _ (v : ℕ) (ts : List Triple) (t : Triple) where
  abbrev without : Triple
  without = (t.0, bare v t.1, t.2)

  -- groups of other exponents stay
  one_other : (e : ℕ) → ¬ (exponent t.1 v ≡ e) → with_power v e (ts ++ t ∷ []) ≡ with_power v e ts
  one_other e n =
      with_power-append v e ts (t ∷ []) ∙ ap (λ b. with_power v e ts ++ cond b (without ∷ []) []) (other_number (exponent t.1 v) e n)
      ∙ nothing (with_power v e ts)
    where
      nothing : (xs : List Triple) → xs ++ [] ≡ xs
      nothing [] = refl
      nothing (x ∷ xs) = ap (λ ys. x ∷ ys) (nothing xs)

  all_other : (e k : ℕ) → exponent t.1 v < e → by_exponents v e k (ts ++ t ∷ []) ≡ by_exponents v e k ts
  all_other e zero lt = refl
  all_other e (suc k) lt = ap₂ (λ x xs. x ∷ xs) (one_other e (λ s. absurd (omega arith))) (all_other (suc e) k (omega arith))

  one_here : (e : ℕ) → exponent t.1 v ≡ e → with_power v e (ts ++ t ∷ []) ≡ with_power v e ts ++ without ∷ []
  one_here e is = with_power-append v e ts (t ∷ []) ∙ ap (λ b. with_power v e ts ++ cond b (without ∷ []) []) (eq-eqb (exponent t.1 v) e is)

  -- the triple is put into the group of its exponent
  group_put : (e k x : ℕ) (xss : List (List Triple)) (xs : List Triple) → exponent t.1 v ≡ e + x → x < k → xss ≡ by_exponents v e k ts
      → xs ≡ get_or xss x xs → set xss x (xs ++ without ∷ []) ≡ by_exponents v e k (ts ++ t ∷ [])
  group_put e zero x xss xs is lt all g = absurd (omega arith)
  group_put e (suc k) zero xss xs is lt all g =
      ap (λ yss. set yss zero (xs ++ without ∷ [])) all
      ∙ ap₂ (λ y ys. y ∷ ys) (ap (λ ys. ys ++ without ∷ []) (g ∙ ap (λ yss. get_or yss zero xs) all)
      ∙ sym (one_here e (let s : exponent t.1 v ≡ e = omega arith in s))) (sym (all_other (suc e) k (omega arith)))
  group_put e (suc k) (suc x) xss xs is lt all g =
      ap (λ yss. set yss (suc x) (xs ++ without ∷ [])) all
      ∙ ap₂ (λ y ys. y ∷ ys) (sym (one_other e (λ s. absurd (omega arith))))
      (group_put (suc e) k x (by_exponents v (suc e) k ts) xs (omega arith) (omega arith) refl
      (g ∙ ap (λ yss. get_or yss (suc x) xs) all))

-- ---- groups as they are kept
pub length-groups : (gs : List Group) → length (groups_of gs) ≡ length gs
length-groups [] = refl
length-groups (g ∷ gs) = ap suc (length-groups gs)

pub length-by : (v e k : ℕ) (ts : List Triple) → length (by_exponents v e k ts) ≡ k
length-by v e zero ts = refl
length-by v e (suc k) ts = ap suc (length-by v (suc e) k ts)

pub groups-append : (gs hs : List Group) → groups_of (gs ++ hs) ≡ groups_of gs ++ groups_of hs
groups-append [] hs = refl
groups-append (g ∷ gs) hs = ap (λ xss. triples_of g.items ∷ xss) (groups-append gs hs)

pub groups-set : (gs : List Group) (x : ℕ) (g : Group) → groups_of (set gs x g) ≡ set (groups_of gs) x (triples_of g.items)
groups-set [] x g = refl
groups-set (h ∷ gs) zero g = refl
groups-set (h ∷ gs) (suc x) g = ap (λ xss. triples_of h.items ∷ xss) (groups-set gs x g)

pub group_at : (gs : List Group) (x : ℕ) (g : Group) → g ≡ get_or gs x g → triples_of g.items ≡ get_or (groups_of gs) x (triples_of g.items)
group_at [] x g e = refl
group_at (h ∷ gs) zero g e = ap (λ (y : Group). triples_of y.items) e
group_at (h ∷ gs) (suc x) g e = group_at gs x g e

pub no_triples : (v e k : ℕ) → by_exponents v e k [] ≡ replicate k []
no_triples v e zero = refl
no_triples v e (suc k) = ap (λ xss. [] ∷ xss) (no_triples v (suc e) k)

-- ---- the last group
by_more : (v e k : ℕ) (ts : List Triple) → by_exponents v e (suc k) ts ≡ by_exponents v e k ts ++ with_power v (e + k) ts ∷ []
by_more v e zero ts = ap (λ n. with_power v n ts ∷ []) (plain e)
  where
    plain : (e : ℕ) → e ≡ e + 0
    plain e = omega arith
by_more v e (suc k) ts =
    ap (λ xss. with_power v e ts ∷ xss) (by_more v (suc e) k ts
    ∙ ap (λ n. by_exponents v (suc e) k ts ++ with_power v n ts ∷ []) (shift e k))
  where
    shift : (e k : ℕ) → suc e + k ≡ e + suc k
    shift e k = omega arith

last_parts : {X : Type 0} (xs ys : List X) (x y : X) → xs ++ x ∷ [] ≡ ys ++ y ∷ [] → (xs ≡ ys) × (x ≡ y)
last_parts [] [] x y e = (refl, cc)
last_parts [] (z ∷ []) x y e = cc
last_parts [] (z ∷ w ∷ ys) x y e = cc
last_parts (z ∷ []) [] x y e = cc
last_parts (z ∷ w ∷ xs) [] x y e = cc
last_parts (z ∷ xs) (w ∷ ys) x y e = let r = last_parts xs ys x y cc in let h : z ≡ w = cc in (ap₂ (λ a b. a ∷ b) h r.0, r.1)

pub last_group : (v k : ℕ) (ts : List Triple) (gs hs : List Group) (g : Group) → gs ≡ hs ++ g ∷ []
    → groups_of gs ≡ by_exponents v 0 (suc k) ts → (groups_of hs ≡ by_exponents v 0 k ts) × (triples_of g.items ≡ with_power v k ts)
last_group v k ts gs hs g is all =
    let r = last_parts (groups_of hs) (by_exponents v 0 k ts) (triples_of g.items) (with_power v (0 + k) ts)
    (sym (groups-append hs (g ∷ [])) ∙ ap groups_of (sym is) ∙ all ∙ by_more v 0 k ts) in
    (r.0, r.1 ∙ ap (λ n. with_power v n ts) (plain k))
  where
    plain : (k : ℕ) → 0 + k ≡ k
    plain k = omega arith

-- ---- the coefficients that they are
module _ (v k : ℕ) (E : LinearForm) (us : List Triple) (is : us ≡ with_power v k (triples E)) where
  pub part_is : sum_of_triples us ≡ coefficient_of_power v k E
  part_is = ap sum_of_triples is ∙ sym (coefficient_of_triples v k (triples E)) ∙ ap (coefficient_of_power v k) (sum_of_triples-triples E)

  pub bulk_is : bulk us ≡ coefficient_of_power v k (absolute_form E)
  bulk_is = ap bulk is ∙ sym (bulk_of_power v k (triples E))

-- ---- step by step
empty_groups-more : (n : ℕ) → replicate {A = List Triple} n [] ++ [] ∷ [] ≡ replicate (suc n) []
empty_groups-more zero = refl
empty_groups-more (suc n) = ap (λ xss. [] ∷ xss) (empty_groups-more n)

pub empty_more : (gs hs : List Group) (g : Group) → hs ≡ gs ++ g ∷ [] → g.items ≡ [] → groups_of gs ≡ replicate (length gs) []
    → groups_of hs ≡ replicate (length hs) []
empty_more gs hs g is none h =
    ap groups_of is ∙ groups-append gs (g ∷ []) ∙ ap₂ (λ xss us. xss ++ triples_of us ∷ []) h none ∙ empty_groups-more (length gs)
    ∙ ap (λ n. replicate n []) (sym (ap length is ∙ length-append gs (g ∷ []) ∙ add-one (length gs)))

pub triple_at : (P : Triple → Type 0) (xs : List (Der × Monomial × ℤ)) (k : ℕ) (x : Der × Monomial × ℤ) → k < length xs → x ≡ get_or xs k x
    → Every P (triples_of xs) → P (derivative_of x.0, x.1, x.2)
triple_at P [] k x lt e h = absurd (omega arith)
triple_at P (y ∷ xs) zero x lt e h = subst (λ (z : Der × Monomial × ℤ). P (derivative_of z.0, z.1, z.2)) (sym e) h.0
triple_at P (y ∷ xs) (suc k) x lt e h = triple_at P xs k x (omega arith) e h.1

pub triples_more : (xs : List (Der × Monomial × ℤ)) (k : ℕ) (x : Der × Monomial × ℤ) → k < length xs → x ≡ get_or xs k x
    → triples_of (take k xs) ++ (derivative_of x.0, x.1, x.2) ∷ [] ≡ triples_of (take (k + 1) xs)
triples_more xs k x lt e = sym (triples_of-append (take k xs) (x ∷ [])) ∙ ap triples_of (take_more xs k x lt e)

pub put_group : (v : ℕ) (ts : List Triple) (n : ℕ) (gs : List Group) (x : ℕ) (g new : Group) (t : Der × Monomial × ℤ) (rest : Monomial)
    → x ≡ exponent t.1 v → x < length gs → g ≡ get_or gs x g
    → new.items ≡ g.items ++ (t.0, rest, t.2) ∷ [] → rest ≡ bare v t.1 → groups_of gs ≡ by_exponents v 0 n ts
    → groups_of (set gs x new) ≡ by_exponents v 0 n (ts ++ (derivative_of t.0, t.1, t.2) ∷ [])
put_group v ts n gs x g new t rest at lt is pushed bared all =
    let count : n ≡ length gs = sym (length-by v 0 n ts) ∙ ap length (sym all) ∙ length-groups gs in
    let here : exponent t.1 v ≡ 0 + x = omega arith in
    groups-set gs x new
    ∙ ap (set (groups_of gs) x) (ap triples_of pushed ∙ triples_of-append g.items ((t.0, rest, t.2) ∷ [])
    ∙ ap (λ (m : Monomial). triples_of g.items ++ (derivative_of t.0, m, t.2) ∷ []) bared)
    ∙ group_put v ts (derivative_of t.0, t.1, t.2) 0 n x (groups_of gs) (triples_of g.items) here (omega arith) all (group_at gs x g is)

pub exponent_fits : (v : ℕ) (E : LinearForm) (xs : List (Der × Monomial × ℤ)) (k : ℕ) (x : Der × Monomial × ℤ) (n m : ℕ)
    → triples_of xs ≡ triples E → k < length xs → x ≡ get_or xs k x → n ≡ form_degree v E → m ≡ suc n → exponent x.1 v < m
exponent_fits v E xs k x n m is lt e d l =
    let low : exponent x.1 v ≤ form_degree v E = triple_at (λ (t : Triple). exponent t.1 v ≤ form_degree v E) xs k x lt e
    (subst (Every (λ (t : Triple). exponent t.1 v ≤ form_degree v E)) (sym is) (degree_bounds v E)) in
    omega arith

-- the last group is taken
module _ (v : ℕ) (E : LinearForm) (gs hs : List Group) (g : Group) (popped : gs ≡ hs ++ g ∷ [])
    (all : groups_of gs ≡ by_exponents v 0 (length gs) (triples E)) where
  one_less : length gs ≡ suc (length hs)
  one_less = ap length popped ∙ length-append hs (g ∷ []) ∙ add-one (length hs)

  pub rest_groups : groups_of hs ≡ by_exponents v 0 (length hs) (triples E)
  rest_groups = (last_group v (length hs) (triples E) gs hs g popped (all ∙ ap (λ n. by_exponents v 0 n (triples E)) one_less)).0

  this_group : (us : List (Der × Monomial × ℤ)) → us ≡ g.items → triples_of us ≡ with_power v (length hs) (triples E)
  this_group us is =
      ap triples_of is ∙ (last_group v (length hs) (triples E) gs hs g popped (all ∙ ap (λ n. by_exponents v 0 n (triples E)) one_less)).1

  pub parts_on : (ps qs T : List LinearForm) (part : LinearForm) (us : List (Der × Monomial × ℤ)) → us ≡ g.items
      → part ≡ sum_of_triples (triples_of us) → qs ≡ ps ++ part ∷ [] → ps ++ powers_below v E (length gs) ≡ T
      → qs ++ powers_below v E (length hs) ≡ T
  parts_on ps qs T part us is made put h =
      ap (λ xs. xs ++ powers_below v E (length hs))
      (put ∙ ap (λ x. ps ++ x ∷ []) (made ∙ part_is v (length hs) E (triples_of us) (this_group us is)))
      ∙ append_assoc ps (coefficient_of_power v (length hs) E ∷ []) (powers_below v E (length hs))
      ∙ ap (λ n. ps ++ powers_below v E n) (sym one_less) ∙ h

  left_parts : (bs : List Made) → IsLeft bs (map (λ P. AForm P) (powers_below v (absolute_form E) (length gs)))
      → IsLeft bs (AForm (coefficient_of_power v (length hs) (absolute_form E)) ∷ map (λ P. AForm P)
      (powers_below v (absolute_form E) (length hs)))
  left_parts bs h = left_same bs _ _ h (ap (λ n. map (λ P. AForm P) (powers_below v (absolute_form E) n)) one_less)

  pub left_on : (bs : List Made) (us : List (Der × Monomial × ℤ)) → us ≡ g.items → IsFormWithinLimits (bulk (triples_of us))
      → IsLeft bs (map (λ P. AForm P) (powers_below v (absolute_form E) (length gs)))
      → IsLeft bs (map (λ P. AForm P) (powers_below v (absolute_form E) (length hs)))
  left_on bs us is within h =
      left_next bs _ _ (left_parts bs h) (subst IsFormWithinLimits (bulk_is v (length hs) E (triples_of us) (this_group us is)) within)

  pub cause_on : (bs : List Made) (fail : PolyFail) (us : List (Der × Monomial × ℤ)) → us ≡ g.items
      → IsFormCause fail (bulk (triples_of us)) → IsLeft bs (map (λ P. AForm P) (powers_below v (absolute_form E) (length gs)))
      → IsWorkCause fail (Contains bs)
  cause_on bs fail us is cause h =
      form_work (Contains bs) fail (coefficient_of_power v (length hs) (absolute_form E))
      (left_contains bs _ (left_parts bs h) _ (contains_first _ _))
      (subst (IsFormCause fail) (bulk_is v (length hs) E (triples_of us) (this_group us is)) cause)

pub all_left : (v : ℕ) (E : LinearForm) (k : ℕ) → k ≡ suc (form_degree v E)
    → IsLeft (map (λ P. AForm P) (all_powers v (absolute_form E))) (map (λ P. AForm P) (powers_below v (absolute_form E) k))
all_left v E k e =
    left_same (map (λ P. AForm P) (all_powers v (absolute_form E))) _ _ (left_all (map (λ P. AForm P) (all_powers v (absolute_form E))))
    (ap (λ n. map (λ P. AForm P) (powers_below v (absolute_form E) n)) (ap suc (degree_of_absolutes v E) ∙ sym e))
