-- The keys of equations: counts, unknowns and leads.
use Rattle.std.specs.Prelude.{◌≡◌, ℕ, zero, suc, ◌+◌, ◌<◌, ◌≤◌, Bool, true, false, cond, eqb, ◌||◌, nat_eq, List, [], ◌∷◌, ◌++◌, length, map, take, get_or}
use Rattle.std.proofs.Common.{refl, sym, ap, ap₂, ◌∙◌, arith}
use Rattle.std.specs.List.{list_any}
use Rattle.std.proofs.lemmas.Bool.Decides.{nat_tests}
use Rattle.std.proofs.lemmas.List.{take_more, map-append}
use Rattle.lie_math.specs.Counts.{Derivative, trimmed, before_counts}
use Rattle.lie_math.specs.LinearForm.{LinearForm}
use Rattle.lie_math.specs.Polynomial.{WholePolynomial}
use Rattle.lie_jet.specs.declared.derivative.Der.{Der}
use Rattle.lie_jet.specs.Derivatives.{derivative_of}
use Rattle.lie_lin.specs.Forms.{coefficients_of}
use Rattle.lie_steps.specs.Equations.{mentions}
use Rattle.lie_tables.specs.declared.lead.Lead.{Lead}
use Rattle.lie_tables.specs.Places.{places_from, places_where}
use Rattle.lie_tables.specs.Tables.{filled, lead_of, leads_of, leads_in, unknowns_in, leads, lead_eq}

-- ---- counts
filled_before : (n c : ℕ) (cs : List ℕ) → filled (suc n) (before_counts c cs) ≡ c ∷ filled n cs
filled_before n c [] = go (eqb c 0) refl
  where
    go : (b : Bool) → eqb c 0 ≡ b → filled (suc n) (cond b [] (c ∷ [])) ≡ c ∷ filled n []
    go true e = let z : c ≡ 0 = grind (arith, nat_tests) in ap (λ d. d ∷ filled n []) (sym z)
    go false e = refl
filled_before n c (d ∷ cs) = refl

filled_trimmed : (n : ℕ) (cs : List ℕ) → length cs ≡ n → filled n (trimmed cs) ≡ cs
filled_trimmed zero [] e = refl
filled_trimmed zero (c ∷ cs) e = absurd (omega arith)
filled_trimmed (suc n) [] e = absurd (omega arith)
filled_trimmed (suc n) (c ∷ cs) e = filled_before n c (trimmed cs) ∙ ap (λ ds. c ∷ ds) (filled_trimmed n cs (omega arith))

pub key_is : (d : Der) → length d.counts ≡ 8 → record { unknown = d.unknown; counts = d.counts } ≡ lead_of (derivative_of d)
key_is d e = ap (λ cs. record { unknown = d.unknown; counts = cs }) (sym (filled_trimmed 8 d.counts e))

-- ---- the terms of a form
pub unknowns_kept : (ts : List (Der × WholePolynomial)) (E : LinearForm) → coefficients_of ts ≡ E.list
    → map (λ (t : Der × WholePolynomial). (t.0).unknown) ts ≡ unknowns_in E
unknowns_kept ts E e = go ts ∙ ap (map (λ (d : Derivative × WholePolynomial). (d.0).unknown)) e
  where
    go : (us : List (Der × WholePolynomial)) → map (λ (t : Der × WholePolynomial). (t.0).unknown) us
        ≡ map (λ (d : Derivative × WholePolynomial). (d.0).unknown) (coefficients_of us)
    go [] = refl
    go (t ∷ us) = ap (λ ns. (t.0).unknown ∷ ns) (go us)

pub unknowns_more : (ts : List (Der × WholePolynomial)) (i : ℕ) (x : Der × WholePolynomial) → i < length ts → x ≡ get_or ts i x
    → map (λ (t : Der × WholePolynomial). (t.0).unknown) (take i ts) ++ (x.0).unknown ∷ []
    ≡ map (λ (t : Der × WholePolynomial). (t.0).unknown) (take (i + 1) ts)
unknowns_more ts i x lt e =
    ap (λ (y : Der × WholePolynomial). map (λ (t : Der × WholePolynomial). (t.0).unknown) (take i ts) ++ (y.0).unknown ∷ []) e
    ∙ sym (ap (map (λ (t : Der × WholePolynomial). (t.0).unknown)) (take_more ts i x lt)
    ∙ map-append (λ (t : Der × WholePolynomial). (t.0).unknown) (take i ts) (get_or ts i x ∷ []))

pub lead_first : (ts : List (Der × WholePolynomial)) (E : LinearForm) (t : Der × WholePolynomial) (k : Lead) → coefficients_of ts ≡ E.list
    → 1 ≤ length ts → t ≡ get_or ts 0 t → k ≡ lead_of (derivative_of t.0) → k ∷ [] ≡ leads_in E
lead_first [] E t k e lt is f = absurd (omega arith)
lead_first (u ∷ ts) E t k e lt is f =
    ap (λ x. x ∷ []) (f ∙ ap (λ (y : Der × WholePolynomial). lead_of (derivative_of y.0)) is) ∙ ap leads_of e

-- ---- tests of equations
any_unknown : (f : ℕ) (es : List (Derivative × WholePolynomial)) → list_any (nat_eq f) (map (λ (e : Derivative × WholePolynomial). (e.0).unknown) es)
    ≡ list_any (λ (e : Derivative × WholePolynomial). eqb (e.0).unknown f) es
any_unknown f [] = refl
any_unknown f (e ∷ es) = ap₂ ◌||◌ (turned f (e.0).unknown) (any_unknown f es)
  where
    turned : (a b : ℕ) → nat_eq a b ≡ eqb b a
    turned a b = grind (arith, nat_tests)

same_places : {X K : Type 0} (t : K → Bool) (u : X → Bool) (f : X → K) → ((x : X) → t (f x) ≡ u x) → (xs : List X) (i : ℕ)
    → places_from t i (map f xs) ≡ places_from u i xs
same_places t u f same [] i = refl
same_places t u f same (x ∷ xs) i =
    let rest = same_places t u f same xs (i + 1) in λ j. cond (same x j) (i ∷ rest j) (rest j)

pub unknown_places : (f : ℕ) (Es : List LinearForm) → places_where (list_any (nat_eq f)) (map unknowns_in Es) ≡ places_where (mentions f) Es
unknown_places f Es = same_places (list_any (nat_eq f)) (mentions f) unknowns_in (λ E. any_unknown f E.list) Es 0

pub lead_places : (d : Derivative) (Es : List LinearForm)
    → places_where (list_any (lead_eq (lead_of d))) (map leads_in Es) ≡ places_where (leads d) Es
lead_places d Es = same_places (list_any (lead_eq (lead_of d))) (leads d) leads_in (λ E. refl) Es 0
