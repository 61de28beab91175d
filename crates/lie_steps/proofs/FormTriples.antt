-- What all triples of a form have: kept by sums of triples and by normalising.
use Rattle.std.specs.Prelude.{◌≡◌, ℕ, ◌-◌, Bool, true, false, cond, List, [], ◌∷◌, map, ℤ, pos}
use Rattle.std.proofs.Common.{refl, sym, ap, ◌∙◌, arith}
use Rattle.std.specs.List.{AllByRecursion as Every}
use Rattle.std.specs.Ordering.{eq_by_cmp}
use Rattle.lie_math.specs.FiniteSumLaws.{value-term}
use Rattle.lie_math.specs.Monomial.{Monomial, exponent, monomial_cmp}
use Rattle.lie_math.specs.Polynomial.{WholePolynomial, terms, term, constant}
use Rattle.lie_math.specs.Variables.{IsIn}
use Rattle.lie_math.specs.Counts.{Derivative}
use Rattle.lie_math.specs.LinearForm.{LinearForm}
use Rattle.lie_math.proofs.FiniteSum.{key, entries_of}
use Rattle.lie_math.proofs.Variables.{in-constant}
use Rattle.lie_systems.specs.Triples.{Triple, triples, triples_in, triples_with, form_of_triple, sum_of_triples}
use Rattle.lie_systems.specs.Normalised.{primitive, primitive_of, primitive_triples, divided, first_sign, content, common_monomial}
use Rattle.lie_systems.proofs.Exponents.{exponent-without}
use Rattle.lie_math.proofs.EveryElement.{every-append, every-map, every-weaken}
use Rattle.lie_math.proofs.FormEntries.{EachHas, each-none, each-term, each-plus}

-- no variable outside V divides m
abbrev pub IsMonomialIn : (ℕ → Bool) → Monomial → Type 0
IsMonomialIn V m = (v : ℕ) → V v ≡ false → exponent m v ≡ 0

pub in-term : (V : ℕ → Bool) (m : Monomial) (a : ℤ) → IsMonomialIn V m → IsIn V (term m a)
in-term V m a h v out k n = go (eq_by_cmp monomial_cmp k m) refl
  where
    go : (t : Bool) → eq_by_cmp monomial_cmp k m ≡ t → exponent k v ≡ 0
    go true e = ap (λ x. exponent x v) (key terms k m e) ∙ h v out
    go false e = absurd (n (value-term terms m a k ∙ ap (λ t. cond t a (pos 0)) e))

pub entries_in : (V : ℕ → Bool) (p : WholePolynomial) → IsIn V p → Every (λ (e : Monomial × ℤ). IsMonomialIn V e.0) p.list
entries_in V p h = entries_of terms p (λ (e : Monomial × ℤ). IsMonomialIn V e.0) (λ e is apart v out. h v out e.0 (λ z. apart (sym is ∙ z)))

module _ (P : Derivative → Type 0) (V : ℕ → Bool) where
  -- the derivative has P, and the monomial is in the variables of V
  abbrev pub TripleHas : Triple → Type 0
  TripleHas t = P t.0 × IsMonomialIn V t.1

  with_each : (d : Derivative) (es : List (Monomial × ℤ)) → P d → Every (λ (e : Monomial × ℤ). IsMonomialIn V e.0) es → Every TripleHas (triples_with d es)
  with_each d [] p h = tt
  with_each d (e ∷ es) p h = ((p, h.0), with_each d es p h.1)

  in_each : (es : List (Derivative × WholePolynomial)) → Every (λ (e : Derivative × WholePolynomial). P e.0 × IsIn V e.1) es → Every TripleHas (triples_in es)
  in_each [] h = tt
  in_each (e ∷ es) h = every-append TripleHas (triples_with e.0 e.1.list) (triples_in es) (with_each e.0 e.1.list (h.0).0 (entries_in V e.1 (h.0).1)) (in_each es h.1)

  pub triples-each : (E : LinearForm) → EachHas P V E → Every TripleHas (triples E)
  triples-each E h = in_each E.list h

  pub each-triples : (ts : List Triple) → Every TripleHas ts → EachHas P V (sum_of_triples ts)
  each-triples [] h = each-none P V
  each-triples (t ∷ ts) h = each-plus P V (form_of_triple t) (sum_of_triples ts) (each-term P V t.0 (term t.1 t.2) (h.0).0 (in-term V t.1 t.2 (h.0).1)) (each-triples ts h.1)

  -- divided by a number and a monomial
  pub divided_has : (s : ℤ) (g : ℕ) (m : Monomial) (ts : List Triple) → Every TripleHas ts → Every TripleHas (map (divided s g m) ts)
  divided_has s g m ts h = every-map TripleHas (divided s g m) ts (every-weaken TripleHas (λ t. TripleHas (divided s g m t)) (λ t k. (k.0, λ v out. exponent-without m t.1 v ∙ nothing (exponent t.1 v) (exponent m v) (k.1 v out))) ts h)
    where
      nothing : (a b : ℕ) → a ≡ 0 → a - b ≡ 0
      nothing a b e = omega arith

  pub each-primitive : (E : LinearForm) → EachHas P V E → EachHas P V (primitive E)
  unfolding primitive
  each-primitive E h = go E.list h
    where
      go : (es : List (Derivative × WholePolynomial)) → Every (λ (e : Derivative × WholePolynomial). P e.0 × IsIn V e.1) es → EachHas P V (primitive_of es (triples E))
      go [] k = each-none P V
      go (e ∷ []) k = each-term P V e.0 (constant (pos 1)) (k.0).0 (in-constant V (pos 1))
      go (e ∷ f ∷ es) k = each-triples (primitive_triples (triples E)) (divided_has (first_sign (triples E)) (content (triples E)) (common_monomial (triples E)) (triples E) (triples-each E h))
