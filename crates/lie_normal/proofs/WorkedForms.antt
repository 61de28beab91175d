-- Forms of worked values are forms in their functions.
use Rattle.std.specs.Prelude.{◌≡◌, ℕ, zero, suc, ◌++◌, Bool, true, false, eqb, ltb, cond, List, [], ◌∷◌, ℤ, get_or}
use Rattle.std.proofs.Common.{refl, sym, ap, subst, ◌∙◌, arith, true≢false}
use Rattle.std.specs.List.{AllByRecursion as Every, Contains, list_any}
use Rattle.std.specs.List.Sorted.{IsStrictlySortedBy}
use Rattle.std.specs.Ordering.{eq_by_cmp, nat_cmp, on}
use Rattle.lie_math.specs.Counts.{Derivative, trimmed}
use Rattle.lie_math.specs.FiniteSumLaws.{value-term}
use Rattle.lie_math.specs.LinearForm.{LinearForm}
use Rattle.lie_math.specs.LinearSystem.{Unknown, has}
use Rattle.lie_math.specs.Monomial.{Monomial, powers, power_of, exponent}
use Rattle.lie_math.proofs.ContainedElements.{contains_first, contains_later}
use Rattle.lie_math.proofs.EveryElement.{every-append}
use Rattle.lie_math.proofs.FiniteSum.{key}
use Rattle.lie_systems.specs.Triples.{Triple, sum_of_triples}
use Rattle.lie_systems.specs.ValidSystems.{IsOwned, IsFormOf}
use Rattle.lie_steps.proofs.CountLists.{trimmed_same}
use Rattle.lie_steps.proofs.FormTriples.{each-triples}
use Rattle.lie_jet.specs.Derivatives.{derivative_of}
use Rattle.lie_jet.specs.declared.derivative.Der.{Der}
use Rattle.lie_lin.specs.Forms.{triples_of}
use Rattle.lie_lin.proofs.Forms.{triples_of-append}
use Rattle.lie_normal.specs.FormLists.{AreFormsOf}
use Rattle.lie_normal.specs.WorkedValues.{functions, IsTripleOf}
use Rattle.lie_normal.proofs.CountDifferences.{count-trimmed}

abbrev counts_of : ℕ → ℕ → List ℕ
counts_of a b = a ∷ b ∷ 0 ∷ 0 ∷ 0 ∷ 0 ∷ 0 ∷ 0 ∷ []

zeros : (v : ℕ) → ◌≡◌ {A = ℕ} (get_or (0 ∷ 0 ∷ 0 ∷ 0 ∷ 0 ∷ 0 ∷ []) v 0) 0
zeros zero = refl
zeros (suc zero) = refl
zeros (suc (suc zero)) = refl
zeros (suc (suc (suc zero))) = refl
zeros (suc (suc (suc (suc zero)))) = refl
zeros (suc (suc (suc (suc (suc v))))) = last v
  where
    last : (v : ℕ) → ◌≡◌ {A = ℕ} (get_or (0 ∷ []) v 0) 0
    last zero = refl
    last (suc v) = refl

module _ (u a b : ℕ) (f : Unknown) (listed : Contains functions f) (number : f.number ≡ u) (both : f.variables ≡ 0 ∷ 1 ∷ []) where
  owned : IsOwned functions (record { unknown = u; counts = trimmed (counts_of a b) })
  owned = record {
    unknown = f;
    listed = listed;
    number = number;
    own = own;
    short = trimmed_same (trimmed (counts_of a b)) (counts_of a b) (count-trimmed (counts_of a b));
  }
    where
      own : (v : ℕ) → ¬ (get_or (trimmed (counts_of a b)) v 0 ≡ 0) → has f v ≡ true
      own zero n = ap (λ vs. list_any (eqb 0) vs) both
      own (suc zero) n = ap (λ vs. list_any (eqb 1) vs) both
      own (suc (suc v)) n = absurd (n (count-trimmed (counts_of a b) (suc (suc v)) ∙ zeros v))

abbrev first : Unknown
first = record { number = 1; variables = 0 ∷ 1 ∷ [] }

abbrev second : Unknown
second = record { number = 2; variables = 0 ∷ 1 ∷ [] }

pub first_owned : (a b : ℕ) → IsOwned functions (record { unknown = 1; counts = trimmed (counts_of a b) })
first_owned a b = owned 1 a b first (contains_first first (second ∷ [])) refl refl

pub second_owned : (a b : ℕ) → IsOwned functions (record { unknown = 2; counts = trimmed (counts_of a b) })
second_owned a b = owned 2 a b second (contains_later first (second ∷ []) second (contains_first second [])) refl refl

pub power_in : (e v : ℕ) → ltb v 2 ≡ false → exponent (power_of 0 e) v ≡ 0
power_in e v out = value-term powers 0 e v ∙ go (eq_by_cmp nat_cmp v 0) refl
  where
    go : (t : Bool) → eq_by_cmp nat_cmp v 0 ≡ t → cond t e 0 ≡ 0
    go true h = absurd (true≢false (ap (λ x. ltb x 2) (sym (key powers v 0 h)) ∙ out))
    go false h = refl

pub triples_more : (xs ys : List (Der × Monomial × ℤ)) (x : Der × Monomial × ℤ) → ys ≡ xs ++ x ∷ [] → Every IsTripleOf (triples_of xs) → IsTripleOf (derivative_of x.0, x.1, x.2) → Every IsTripleOf (triples_of ys)
triples_more xs ys x e h k = subst (λ zs. Every IsTripleOf zs) (sym (ap triples_of e ∙ triples_of-append xs (x ∷ []))) (every-append IsTripleOf (triples_of xs) (triples_of (x ∷ [])) h (k, tt))

pub form_of_triples : (ts : List Triple) → Every IsTripleOf ts → IsFormOf 2 functions (sum_of_triples ts)
form_of_triples ts h = each-triples (IsOwned functions) (λ v. ltb v 2) ts h

functions_rise : IsStrictlySortedBy (on (λ (f : Unknown). f.number) nat_cmp) functions
unfolding IsStrictlySortedBy
functions_rise = ((refl, tt), (tt, tt))

two_variables_rise : IsStrictlySortedBy nat_cmp (0 ∷ 1 ∷ [])
unfolding IsStrictlySortedBy
two_variables_rise = ((refl, tt), (tt, tt))

pub worked_forms : (E F G : LinearForm) → IsFormOf 2 functions E → IsFormOf 2 functions F → IsFormOf 2 functions G
    → AreFormsOf functions (E ∷ F ∷ G ∷ [])
worked_forms E F G e f g = record {
  variable_count = 2;
  few = omega arith;
  rising = functions_rise;
  variables = ((two_variables_rise, (omega arith, (omega arith, tt))), ((two_variables_rise, (omega arith, (omega arith, tt))), tt));
  forms = (e, (f, (g, tt)));
}
