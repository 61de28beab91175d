-- The variables of the terms of a polynomial: those that occur in it.
use Rattle.std.specs.Prelude.{◌≡◌, ℕ, zero, suc, ◌+◌, ◌<◌, ◌||◌, Bool, true, false, eqb, List, [], ◌∷◌, ◌++◌, length, take, get_or, ℤ, pos, T}
use Rattle.std.proofs.Common.{refl, sym, ap, subst, ◌∙◌, arith, eqb→eq, true≢false, add-one, append_assoc, append-nil}
use Rattle.std.proofs.Math.Seq.{take-suc}
use Rattle.std.specs.List.{AllByRecursion as Every, list_any}
use Rattle.lie_math.specs.Canonical.{both}
use Rattle.lie_math.specs.Monomial.{Monomial, powers}
use Rattle.lie_math.specs.Polynomial.{WholePolynomial, terms, coefficient}
use Rattle.lie_math.specs.Variables.{IsIn}
use Rattle.lie_math.proofs.FiniteSum.{entries_of}
use Rattle.lie_math.proofs.Kept.{kept-terms, pairs_in, terms_in}
use Rattle.lie_math.proofs.Variables.{kept_in, T_of_true}
use Rattle.lie_solved.specs.Leads.{Occurs}
use Rattle.lie_solved.specs.Equations.{variables_in, variables_of}
use Rattle.lie_math.proofs.EveryElement.{every-append, every-front, every-back, every-weaken}

-- ---- lists
pub every_found : (Q : ℕ → Type 0) (ws : List ℕ) (w : ℕ) → Every Q ws → list_any (λ v. eqb v w) ws ≡ true → Q w
every_found Q [] w h k = absurd (true≢false (sym k))
every_found Q (v ∷ ws) w h k = go (eqb v w) refl k (every_found Q ws w h.1)
  where
    go : (b : Bool) → eqb v w ≡ b → (b || list_any (λ v. eqb v w) ws) ≡ true → (list_any (λ v. eqb v w) ws ≡ true → Q w) → Q w
    go true e k rest = subst Q (eqb→eq v w (subst T (sym e) tt)) h.0
    go false e k rest = rest k

-- ---- occurrence
pub every_occurs : (P : WholePolynomial) → Every (λ w. Occurs w P) (variables_of P.list)
every_occurs P = go P.list (entries_of terms P (λ e. Every (λ w. Occurs w P) (variables_in (e.0).list)) (λ e is apart. factors e.0 (λ z. apart (sym is ∙ z))))
  where
    listed : (ps : List (ℕ × ℕ)) → Every (λ (p : ℕ × ℕ). Occurs p.0 P) ps → Every (λ w. Occurs w P) (variables_in ps)
    listed [] h = tt
    listed (p ∷ ps) h = (h.0, listed ps h.1)

    factors : (m : Monomial) → ¬ (coefficient P m ≡ pos 0) → Every (λ w. Occurs w P) (variables_in m.list)
    factors m n = listed m.list (entries_of powers m (λ p. Occurs p.0 P) (λ p is apart. (m, n, λ z. apart (sym is ∙ z))))

    go : (ts : List (Monomial × ℤ)) → Every (λ (t : Monomial × ℤ). Every (λ w. Occurs w P) (variables_in (t.0).list)) ts → Every (λ w. Occurs w P) (variables_of ts)
    go [] h = tt
    go (t ∷ ts) h = every-append (λ w. Occurs w P) (variables_in (t.0).list) (variables_of ts) h.0 (go ts h.1)

-- a test that passes whatever occurs
pub occurs_in : (f : ℕ → Bool) (P : WholePolynomial) → IsIn f P → (w : ℕ) → Occurs w P → f w ≡ true
occurs_in f P h w o = go (f w) refl
  where
    go : (b : Bool) → f w ≡ b → b ≡ true
    go true e = refl
    go false e = absurd (o.2 (h w e o.0 o.1))

pub every_in : (f : ℕ → Bool) (P : WholePolynomial) → IsIn f P → Every (λ w. f w ≡ true) (variables_of P.list)
every_in f P h = every-weaken (λ w. Occurs w P) (λ w. f w ≡ true) (occurs_in f P h) (variables_of P.list) (every_occurs P)

pub in_every : (f : ℕ → Bool) (P : WholePolynomial) → Every (λ w. f w ≡ true) (variables_of P.list) → IsIn f P
in_every f P h = kept_in f P (kept-terms f P (listed P.list h))
  where
    factors : (ps : List (ℕ × ℕ)) → Every (λ w. f w ≡ true) (variables_in ps) → T (pairs_in f ps)
    factors [] h = tt
    factors (p ∷ ps) h = both (f p.0) (pairs_in f ps) (T_of_true (f p.0) h.0) (factors ps h.1)

    listed : (ts : List (Monomial × ℤ)) → Every (λ w. f w ≡ true) (variables_of ts) → T (terms_in f ts)
    listed [] h = tt
    listed (t ∷ ts) h =
        both (pairs_in f (t.0).list) (terms_in f ts)
        (factors (t.0).list (every-front (λ w. f w ≡ true) (variables_in (t.0).list) (variables_of ts) h))
        (listed ts (every-back (λ w. f w ≡ true) (variables_in (t.0).list) (variables_of ts) h))

-- ---- one more
variables_in-append : (ps qs : List (ℕ × ℕ)) → variables_in (ps ++ qs) ≡ variables_in ps ++ variables_in qs
variables_in-append [] qs = refl
variables_in-append (p ∷ ps) qs = ap (λ ws. p.0 ∷ ws) (variables_in-append ps qs)

variables_of-append : (ts us : List (Monomial × ℤ)) → variables_of (ts ++ us) ≡ variables_of ts ++ variables_of us
variables_of-append [] us = refl
variables_of-append (t ∷ ts) us = ap (λ ws. variables_in (t.0).list ++ ws) (variables_of-append ts us) ∙ sym (append_assoc (variables_in (t.0).list) (variables_of ts) (variables_of us))

pub variables_in_more : (ps : List (ℕ × ℕ)) (i : ℕ) (d : ℕ × ℕ) → i < length ps → variables_in (take (i + 1) ps) ≡ variables_in (take i ps) ++ (get_or ps i d).0 ∷ []
variables_in_more ps i d lt = ap (λ n. variables_in (take n ps)) (add-one i) ∙ ap variables_in (take-suc ps i d lt) ∙ variables_in-append (take i ps) (get_or ps i d ∷ [])

pub variables_of_more : (ts : List (Monomial × ℤ)) (i : ℕ) (t : Monomial × ℤ) → i < length ts → t ≡ get_or ts i t → variables_of (take (i + 1) ts) ≡ variables_of (take i ts) ++ variables_in (t.0).list
variables_of_more ts i t lt is =
    ap (λ n. variables_of (take n ts)) (add-one i) ∙ ap variables_of (take-suc ts i t lt) ∙ ap (λ q. variables_of (take i ts ++ q ∷ [])) (sym is)
    ∙ variables_of-append (take i ts) (t ∷ []) ∙ ap (λ ws. variables_of (take i ts) ++ ws) (append-nil (variables_in (t.0).list))

pub variable_at : (Q : ℕ → Type 0) (ps : List (ℕ × ℕ)) (i : ℕ) (d : ℕ × ℕ) → i < length ps → Every Q (variables_in ps) → Q (get_or ps i d).0
variable_at Q [] i d lt h = absurd (omega arith)
variable_at Q (q ∷ ps) zero d lt h = h.0
variable_at Q (q ∷ ps) (suc i) d lt h = variable_at Q ps i d (omega arith) h.1

pub variables_at : (Q : ℕ → Type 0) (ts : List (Monomial × ℤ)) (i : ℕ) (t : Monomial × ℤ) → i < length ts → t ≡ get_or ts i t → Every Q (variables_of ts) → Every Q (variables_in (t.0).list)
variables_at Q [] i t lt is h = absurd (omega arith)
variables_at Q (u ∷ ts) zero t lt is h = subst (λ (x : Monomial × ℤ). Every Q (variables_in (x.0).list)) (sym is) (every-front Q (variables_in (u.0).list) (variables_of ts) h)
variables_at Q (u ∷ ts) (suc i) t lt is h = variables_at Q ts i t (omega arith) is (every-back Q (variables_in (u.0).list) (variables_of ts) h)
