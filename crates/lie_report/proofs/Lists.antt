-- Lists that grow element by element, as loops make them.
use Rattle.std.specs.Prelude.{ℕ, suc, ℤ, ◌≡◌, ◌+◌, ◌<◌, ◌≤◌, ◌∷◌, ◌++◌, [], List, Bool, true, false, cond, map, filter, drop, length, Some}
use Rattle.std.proofs.Common.{refl, sym, ap, ◌∙◌, arith, get_or, append_assoc, add-one, drop-cons}
use Rattle.std.proofs.lemmas.List.{append-nil, map-id, map-append}
use Rattle.std.proofs.lemmas.List.FromFn.{filter_of_map_range_with_len_more}
use Rattle.std.proofs.Math.ListN.{drop_of_length-le}
use Rattle.std.specs.List.{range_with_len}
use Rattle.lie_math.specs.LinearSystem.{Unknown}
use Rattle.lie_math.specs.Monomial.{Monomial}
use Rattle.lie_math.specs.Polynomial.{WholePolynomial}
use Rattle.lie_jet.specs.declared.derivative.Der.{Der}
use Rattle.lie_jet.specs.Derivatives.{derivative_of}
use Rattle.lie_lin.specs.Forms.{triples_of}
use Rattle.lie_ring.specs.Entries.{entries}
use Rattle.lie_print.specs.declared.printed_term.Term.{Term}
use Rattle.lie_print.specs.Printing.{PrintedTerm, base_vector}
use Rattle.lie_print.specs.PrintedTerms.{printed}
use Rattle.lie_print.proofs.PrintedLists.{entries-push, terms-push}
use Rattle.lie_report.specs.Terms.{shown_term, field_terms}

triples_of-push : (ts : List (Der × Monomial × ℤ)) (d : Der) (m : Monomial) (z : ℤ) → triples_of (ts ++ (d, m, z) ∷ []) ≡ triples_of ts ++ (derivative_of d, m, z) ∷ []
triples_of-push [] d m z = refl
triples_of-push (t ∷ ts) d m z = ap (λ l. (derivative_of t.0, t.1, t.2) ∷ l) (triples_of-push ts d m z)

pub form_terms-push : (us : List Unknown) (old new : List Term) (t : Term) (ts : List (Der × Monomial × ℤ)) (d : Der) (m : Monomial) (z : ℤ)
    → printed t ≡ shown_term us (derivative_of d, m, z) → new ≡ old ++ t ∷ []
    → map printed old ≡ map (shown_term us) (triples_of ts) → map printed new ≡ map (shown_term us) (triples_of (ts ++ (d, m, z) ∷ []))
form_terms-push us old new t ts d m z is pushed so_far =
    terms-push (shown_term us) old new t (triples_of ts) (derivative_of d, m, z) is pushed so_far ∙ sym (ap (map (shown_term us)) (triples_of-push ts d m z))

-- ---- terms of fields
abbrev pub with_base : ℕ → Monomial × ℤ → PrintedTerm
with_base i t = (t.1, t.0, Some (base_vector i))

-- terms of one component behind those of others
pub component_terms-push : (i : ℕ) (start : List PrintedTerm) (old new : List Term) (t : Term) (es : List (Monomial × ℤ)) (m : Monomial) (z : ℤ)
    → printed t ≡ (z, m, Some (base_vector i)) → new ≡ old ++ t ∷ [] → map printed old ≡ start ++ map (with_base i) (entries (λ z. z) es)
    → map printed new ≡ start ++ map (with_base i) (entries (λ z. z) (es ++ (m, z) ∷ []))
component_terms-push i start old new t es m z is pushed so_far =
    ap (map printed) pushed ∙ map-append printed old (t ∷ []) ∙ ap (λ (s : PrintedTerm). map printed old ++ s ∷ []) is ∙ ap (λ (l : List PrintedTerm). l ++ (z, m, Some (base_vector i)) ∷ []) so_far
    ∙ append_assoc start (map (with_base i) (entries (λ z. z) es)) ((z, m, Some (base_vector i)) ∷ [])
    ∙ ap (λ l. start ++ l) (sym (ap (map (with_base i)) (entries-push es m z) ∙ map-append (with_base i) (entries (λ z. z) es) ((m, z) ∷ [])))

pub field_terms-push : (Ps : List WholePolynomial) (i : ℕ) (e : WholePolynomial) (terms more all : List PrintedTerm) → i < length Ps
    → more ≡ terms ++ map (with_base i) (get_or Ps i e).list → terms ++ field_terms i (drop i Ps) ≡ all → more ++ field_terms (i + 1) (drop (i + 1) Ps) ≡ all
field_terms-push Ps i e terms more all lt more_is so_far =
    ap (λ l. l ++ field_terms (i + 1) (drop (i + 1) Ps)) more_is
    ∙ append_assoc terms (map (with_base i) (get_or Ps i e).list) (field_terms (i + 1) (drop (i + 1) Ps))
    ∙ ap (λ l. terms ++ l) (sym (step (drop i Ps) (drop-cons Ps i e lt))) ∙ so_far
  where
    step : (rest : List WholePolynomial) → rest ≡ get_or Ps i e ∷ drop (suc i) Ps → field_terms i rest ≡ map (with_base i) (get_or Ps i e).list ++ field_terms (i + 1) (drop (i + 1) Ps)
    step rest h = rw (h, add-one i) refl

pub field_terms-done : (Ps : List WholePolynomial) (i : ℕ) (terms all : List PrintedTerm) → length Ps ≤ i → terms ++ field_terms i (drop i Ps) ≡ all → terms ≡ all
field_terms-done Ps i terms all past so_far =
    sym (append-nil terms) ∙ ap (λ l. terms ++ l) (sym (ap (field_terms i) (drop_of_length-le Ps past))) ∙ so_far

-- ---- variables
pub filter-push : (p : ℕ → Bool) (n : ℕ) → filter p (range_with_len 0 (n + 1)) ≡ filter p (range_with_len 0 n) ++ cond (p n) (n ∷ []) []
filter-push p n =
    sym (ap (filter p) (map-id (range_with_len 0 (n + 1)))) ∙ filter_of_map_range_with_len_more p (λ i. i) 0 n n (omega arith)
    ∙ ap (λ l. filter p l ++ cond (p n) (n ∷ []) []) (map-id (range_with_len 0 n))

pub filter-taken : (p : ℕ → Bool) (n : ℕ) (old new : List ℕ) → p n ≡ true → new ≡ old ++ n ∷ [] → old ≡ filter p (range_with_len 0 n) → new ≡ filter p (range_with_len 0 (n + 1))
filter-taken p n old new taken pushed so_far = pushed ∙ ap (λ l. l ++ n ∷ []) so_far ∙ sym (filter-push p n ∙ ap (λ b. filter p (range_with_len 0 n) ++ cond b (n ∷ []) []) taken)

pub filter-left : (p : ℕ → Bool) (n : ℕ) (old new : List ℕ) → p n ≡ false → new ≡ old → old ≡ filter p (range_with_len 0 n) → new ≡ filter p (range_with_len 0 (n + 1))
filter-left p n old new left same so_far =
    same ∙ so_far ∙ sym (filter-push p n ∙ ap (λ b. filter p (range_with_len 0 n) ++ cond b (n ∷ []) []) left ∙ append-nil (filter p (range_with_len 0 n)))
