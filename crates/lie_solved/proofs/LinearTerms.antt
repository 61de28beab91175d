-- Polynomials that are a number times a variable and terms without it, by their terms.
use Rattle.std.specs.Prelude.{◌≡◌, ℕ, ◌+◌, ◌<◌, cond, List, [], ◌∷◌, length, take, get_or, ℤ, pos, Option, Some, None, MatchOption}
use Rattle.std.proofs.Common.{sym, ap, subst, ◌∙◌, arith}
use Rattle.std.specs.List.{AllByRecursion as Every}
use Rattle.lie_math.specs.FiniteSumLaws as finite_laws
use Rattle.lie_math.specs.Monomial.{Monomial, exponent, powers, single}
use Rattle.lie_math.specs.Polynomial.{WholePolynomial, terms, coefficient}
use Rattle.lie_math.proofs.FiniteSum.{entries_of}
use Rattle.lie_math.proofs.Monomial.{exponent-single, same_variable}
use Rattle.lie_system.proofs.Entries.{at_entry}
use Rattle.lie_system.proofs.LeadNumbers.{list-single}
use Rattle.lie_solved.specs.Leads.{IsLinearIn}
use Rattle.lie_solved.specs.Equations.{IsLinearWith}
use Rattle.lie_math.proofs.EveryElement.{every-append, every_at}
use Rattle.lie_ring.proofs.Fronts.{take_more}

pub single_by_list : (m : Monomial) (w : ℕ) (ps : List (ℕ × ℕ)) → ps ≡ m.list → length ps ≡ 1 → (get_or ps 0 (0, 0)).0 ≡ w → (get_or ps 0 (0, 0)).1 ≡ 1 → m ≡ single w
single_by_list m w [] e l v o = absurd (omega arith)
single_by_list m w (p ∷ []) e l v o = finite_laws.same_list powers m (single w) (sym e ∙ ap (λ (q : ℕ × ℕ). q ∷ []) (λ i. (v i, o i)) ∙ sym (list-single w))
single_by_list m w (p ∷ q ∷ ps) e l v o = absurd (omega arith)

pub list_of_single : (m : Monomial) (w : ℕ) (ps : List (ℕ × ℕ)) → ps ≡ m.list → m ≡ single w → ps ≡ (w, 1) ∷ []
list_of_single m w ps e s = e ∙ ap (λ (n : Monomial). n.list) s ∙ list-single w

pub exponent_single : (w : ℕ) → exponent (single w) w ≡ 1
exponent_single w = exponent-single w w ∙ ap (λ b. cond b 1 0) (same_variable w)

pub entries_have : (P : WholePolynomial) → Every (λ (e : Monomial × ℤ). (coefficient P e.0 ≡ e.1) × ¬ (e.1 ≡ pos 0)) P.list
entries_have P = entries_of terms P (λ e. (coefficient P e.0 ≡ e.1) × ¬ (e.1 ≡ pos 0)) (λ e is apart. (is, apart))

pub entry_at : (P : WholePolynomial) (ts : List (Monomial × ℤ)) → P.list ≡ ts → (i : ℕ) (t : Monomial × ℤ) → i < length ts → t ≡ get_or ts i t → (coefficient P t.0 ≡ t.1) × ¬ (t.1 ≡ pos 0)
entry_at P ts e i t lt is =
    let H : Monomial × ℤ → Type 0 = λ x. (coefficient P x.0 ≡ x.1) × ¬ (x.1 ≡ pos 0) in
    every_at H ts i t lt is (subst (Every H) e (entries_have P))

-- ---- the terms up to a place
-- the number found is that of the variable
abbrev pub IsFound : ℕ → List (Monomial × ℤ) → List (Monomial × ℤ) → Option ℤ → Type 0
IsFound w all ts None = Every (λ (t : Monomial × ℤ). exponent t.0 w ≡ 0) ts
IsFound w all ts (Some c) = (P : WholePolynomial) → P.list ≡ all → (coefficient P (single w) ≡ c) × ¬ (c ≡ pos 0)

-- no term but the variable alone has it
abbrev pub IsAlone : ℕ → List (Monomial × ℤ) → Type 0
IsAlone w ts = Every (λ (t : Monomial × ℤ). ¬ (exponent t.0 w ≡ 0) → t.0 ≡ single w) ts

one_more : (Q : Monomial × ℤ → Type 0) (ts : List (Monomial × ℤ)) (i : ℕ) (t : Monomial × ℤ) → i < length ts → t ≡ get_or ts i t → Every Q (take i ts) → Q t → Every Q (take (i + 1) ts)
one_more Q ts i t lt is h q =
    subst (Every Q) (take_more ts i t lt is) (every-append Q (take i ts) (t ∷ []) h (q, tt))

pub found_without : (w : ℕ) (ts : List (Monomial × ℤ)) (i : ℕ) (t : Monomial × ℤ) (found : Option ℤ) → i < length ts → t ≡ get_or ts i t → exponent t.0 w ≡ 0 → IsFound w ts (take i ts) found → IsFound w ts (take (i + 1) ts) found
found_without w ts i t None lt is e h = one_more (λ t. exponent t.0 w ≡ 0) ts i t lt is h e
found_without w ts i t (Some c) lt is e h = h

pub found_here : (w : ℕ) (ts : List (Monomial × ℤ)) (i : ℕ) (t : Monomial × ℤ) → i < length ts → t ≡ get_or ts i t → t.0 ≡ single w → IsFound w ts (take (i + 1) ts) (Some t.1)
found_here w ts i t lt is s = λ P e. let h = entry_at P ts e i t lt is in (ap (coefficient P) (sym s) ∙ h.0, h.1)

pub alone_without : (w : ℕ) (ts : List (Monomial × ℤ)) (i : ℕ) (t : Monomial × ℤ) → i < length ts → t ≡ get_or ts i t → exponent t.0 w ≡ 0 → IsAlone w (take i ts) → IsAlone w (take (i + 1) ts)
alone_without w ts i t lt is e h = one_more (λ t. ¬ (exponent t.0 w ≡ 0) → t.0 ≡ single w) ts i t lt is h (λ n. absurd (n e))

pub alone_here : (w : ℕ) (ts : List (Monomial × ℤ)) (i : ℕ) (t : Monomial × ℤ) → i < length ts → t ≡ get_or ts i t → t.0 ≡ single w → IsAlone w (take i ts) → IsAlone w (take (i + 1) ts)
alone_here w ts i t lt is s h = one_more (λ t. ¬ (exponent t.0 w ≡ 0) → t.0 ≡ single w) ts i t lt is h (λ n. s)

-- ---- all terms
module _ (w : ℕ) (P : WholePolynomial) (ts : List (Monomial × ℤ)) (e : P.list ≡ ts) where
  not_found : IsFound w ts ts None → ¬ (IsLinearIn w P)
  not_found h l =
      let z : exponent (single w) w ≡ 0 = at_entry (λ m. exponent m w ≡ 0) P.list (subst (Every (λ (t : Monomial × ℤ). exponent t.0 w ≡ 0)) (sym e) h) (single w) l.term in
      absurd (omega (arith, exponent_single w))

  pub not_alone : (i : ℕ) (t : Monomial × ℤ) → i < length ts → t ≡ get_or ts i t → ¬ (exponent t.0 w ≡ 0) → ¬ (t.0 ≡ single w) → ¬ (IsLinearIn w P)
  not_alone i t lt is n s l = let h = entry_at P ts e i t lt is in s (l.alone t.0 (λ z. h.1 (sym h.0 ∙ z)) n)

  is_found : (c : ℤ) → IsFound w ts ts (Some c) → IsAlone w ts → IsLinearWith w P c
  is_found c h a = record {
    linear = record {
      term = λ z. (h P e).1 (sym (h P e).0 ∙ z);
      alone = at_entry (λ m. ¬ (exponent m w ≡ 0) → m ≡ single w) P.list (subst (IsAlone w) (sym e) a);
    };
    coefficient = (h P e).0;
  }

  pub all_found : (us : List (Monomial × ℤ)) → us ≡ ts → (found : Option ℤ) → IsFound w ts us found → IsAlone w us → MatchOption found (¬ (IsLinearIn w P)) (IsLinearWith w P)
  all_found us s None h a = not_found (subst (λ xs. IsFound w ts xs None) s h)
  all_found us s (Some c) h a = is_found c (subst (λ xs. IsFound w ts xs (Some c)) s h) (subst (IsAlone w) s a)
