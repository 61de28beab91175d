-- A form's list of coefficients, as code keeps it: with absolute values, and counted.
use Rattle.std.specs.Prelude.{◌≡◌, ℕ, ◌+◌, ◌<◌, ◌≤◌, List, [], ◌∷◌, ◌++◌, length, take, map}
use Rattle.std.specs.List.{AllByRecursion as Every, Any}
use Rattle.std.proofs.Common.{refl, sym, ap, subst, ◌∙◌, arith, get_or, length-append, append_assoc}
use Rattle.lie_math.specs.Counts.{Derivative, order}
use Rattle.lie_math.specs.FiniteSum as finite
use Rattle.lie_math.specs.FiniteSumLaws.{list-of}
use Rattle.lie_math.specs.Limits.{IsWithinLimits, absolute}
use Rattle.lie_math.specs.LinearForm.{forms, LinearForm, each_coefficient}
use Rattle.lie_math.specs.Polynomial.{WholePolynomial}
use Rattle.lie_math.specs.FiniteSum.{IsCanonical}
use Rattle.lie_systems.specs.Bulk as bulks
use Rattle.lie_systems.specs.Triples.{Triple, triples_in, triples_with}
use Rattle.lie_jet.specs.Derivatives.{derivative_of}
use Rattle.lie_form.specs.DerivativeTerms.{derivative_terms}
use Rattle.lie_jet.specs.declared.derivative.Der.{Der}
use Rattle.lie_jet.proofs.ListPlaces.{take_map}
use Rattle.lie_geometry.proofs.AbsoluteForms.{entry_absolutes}
use Rattle.lie_form.proofs.FormBounds.{canonical_entries, absolutes_form}
use Rattle.lie_math.proofs.EveryElement.{every-append}
use Rattle.lie_form.proofs.FormCauses.{length-with, IsLowEntry, triple_at_place, within_limits}

-- ---- absolute values
abbrev pub kept_absolutes : List (Der × WholePolynomial) → List (Der × WholePolynomial)
kept_absolutes ts = map (λ (t : Der × WholePolynomial). (t.0, absolute t.1)) ts

kept_are : (ts : List (Der × WholePolynomial)) → derivative_terms (kept_absolutes ts) ≡ entry_absolutes (derivative_terms ts)
kept_are [] = refl
kept_are (t ∷ ts) = ap (λ es. (derivative_of t.0, absolute t.1) ∷ es) (kept_are ts)

pub absolutes_canonical : (ts us : List (Der × WholePolynomial)) → us ≡ kept_absolutes ts → IsCanonical forms (derivative_terms ts) → IsCanonical forms (derivative_terms us)
absolutes_canonical ts us e h = subst (IsCanonical forms) (sym (ap derivative_terms e ∙ kept_are ts)) (canonical_entries (derivative_terms ts) h)

pub absolutes_are : (ts us : List (Der × WholePolynomial)) → us ≡ kept_absolutes ts → IsCanonical forms (derivative_terms ts) → finite.of forms (derivative_terms us) ≡ each_coefficient absolute (finite.of forms (derivative_terms ts))
absolutes_are ts us e h = ap (finite.of forms) (ap derivative_terms e ∙ kept_are ts) ∙ absolutes_form (derivative_terms ts) h

-- ---- counting
pub triples_in-append : (es fs : List (Derivative × WholePolynomial)) → triples_in (es ++ fs) ≡ triples_in es ++ triples_in fs
triples_in-append [] fs = refl
triples_in-append (e ∷ es) fs = ap (λ l. triples_with e.0 e.1.list ++ l) (triples_in-append es fs) ∙ sym (append_assoc (triples_with e.0 e.1.list) (triples_in es) (triples_in fs))

module _ (ts : List (Der × WholePolynomial)) (k : ℕ) (x : Der × WholePolynomial) (h : k < length ts) (e : x ≡ get_or ts k x) where
  one_more : take (k + 1) (derivative_terms ts) ≡ take k (derivative_terms ts) ++ (derivative_of x.0, x.1) ∷ []
  one_more = take_map (λ (t : Der × WholePolynomial). (derivative_of t.0, t.1)) ts k x h e

  pub count_step : (n l : ℕ) → n ≡ length (triples_in (take k (derivative_terms ts))) → l ≡ length x.1.list → n + l ≡ length (triples_in (take (k + 1) (derivative_terms ts)))
  count_step n l q r =
      let a = ap length (ap triples_in one_more ∙ triples_in-append (take k (derivative_terms ts)) ((derivative_of x.0, x.1) ∷ [])) in
      let b = length-append (triples_in (take k (derivative_terms ts))) (triples_in ((derivative_of x.0, x.1) ∷ [])) in
      let c = length-append (triples_with (derivative_of x.0) x.1.list) [] in
      let d = length-with (derivative_of x.0) x.1.list in omega arith

  pub within_step : Every IsLowEntry (take k (derivative_terms ts)) → IsWithinLimits x.1 → order (derivative_of x.0).counts ≤ 64 → Every IsLowEntry (take (k + 1) (derivative_terms ts))
  within_step rest w o = subst (Every IsLowEntry) (sym one_more) (every-append IsLowEntry (take k (derivative_terms ts)) ((derivative_of x.0, x.1) ∷ []) rest ((w, o), tt))

module _ (E : LinearForm) (es : List (Derivative × WholePolynomial)) (canonical : IsCanonical forms es) (is : finite.of forms es ≡ E) where
  listed : E.list ≡ es
  listed = sym (ap (λ (G : LinearForm). G.list) is) ∙ list-of forms es canonical

  pub few_are : Every IsLowEntry es → length (triples_in es) ≤ 1000000 → bulks.IsFormWithinLimits E
  few_are w h = within_limits E (subst (Every IsLowEntry) (sym listed) w) (subst (λ l. length (triples_in l) ≤ 1000000) (sym listed) h)

  pub high_are : (i : ℕ) (e : Derivative × WholePolynomial) → i < length es → e ≡ get_or es i e → 64 < order e.0.counts → bulks.HasHighOrder E
  high_are i e h q o = subst (λ l. Any (λ (t : Triple). 64 < order t.0.counts) (triples_in l)) (sym listed) (triple_at_place (λ (t : Triple). 64 < order t.0.counts) es i e canonical h q (λ m a. o))

  pub many_are : 1000000 < length (triples_in es) → bulks.HasManyTriples E
  many_are h = subst (λ l. 1000000 < length (triples_in l)) (sym listed) h
