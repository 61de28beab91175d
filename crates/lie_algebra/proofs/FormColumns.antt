-- The columns of a form, term by term.
use Rattle.std.specs.Prelude.{◌≡◌, ℕ, suc, ◌+◌, ◌<◌, ◌≤◌, List, [], ◌∷◌, ◌++◌, map, drop, length, get_or, ℤ}
use Rattle.std.proofs.Common.{refl, ap, ◌∙◌, arith}
use Rattle.std.proofs.Math.ListN.{drop_of_length-le}
use Rattle.lie_math.specs.LinearForm.{LinearForm}
use Rattle.lie_math.specs.Monomial.{Monomial}
use Rattle.lie_math.specs.Polynomial.{WholePolynomial}
use Rattle.lie_systems.specs.Triples.{Triple, triples_in, triples_with}
use Rattle.lie_jet.specs.Derivatives.{derivative_of}
use Rattle.lie_jet.specs.declared.derivative.Der.{Der}
use Rattle.lie_lin.specs.Forms.{coefficients_of}
use Rattle.lie_rows.proofs.RowLoops.{drop_at}
use Rattle.lie_spans.specs.Fields.{Column}
use Rattle.lie_algebra.specs.ColumnLists.{term_columns, form_columns, listed_columns}

-- those of some terms, for the component s
abbrev pub listed_in : ℕ → List (Der × WholePolynomial) → List Column
listed_in s es = map (λ (t : Triple). (s, t.1)) (triples_in (coefficients_of es))

pub listed_more : (s : ℕ) (es : List (Der × WholePolynomial)) (i : ℕ) (e : Der × WholePolynomial) → i < length es → e ≡ get_or es i e
    → listed_in s (drop i es) ≡ term_columns s e.1.list ++ listed_in s (drop (i + 1) es)
listed_more s es i e l q = ap (listed_in s) (drop_at es i e l q) ∙ split e.1.list
  where
    split : (ts : List (Monomial × ℤ)) → map (λ (t : Triple). (s, t.1)) (triples_with (derivative_of e.0) ts ++ triples_in (coefficients_of (drop (i + 1) es)))
        ≡ term_columns s ts ++ listed_in s (drop (i + 1) es)
    split [] = refl
    split (t ∷ ts) = ap (λ ks. (s, t.0) ∷ ks) (split ts)

pub listed_none : (s : ℕ) (es : List (Der × WholePolynomial)) (i : ℕ) → length es ≤ i → listed_in s (drop i es) ≡ []
listed_none s es i l = ap (listed_in s) (drop_of_length-le es l)

pub listed_all : (s : ℕ) (E : LinearForm) (es : List (Der × WholePolynomial)) → coefficients_of es ≡ E.list → listed_in s es ≡ form_columns s E
listed_all s E es e = ap (λ xs. map (λ (t : Triple). (s, t.1)) (triples_in xs)) e

pub forms_more : (Es : List LinearForm) (i : ℕ) (E : LinearForm) → i < length Es → E ≡ get_or Es i E
    → listed_columns i (drop i Es) ≡ form_columns i E ++ listed_columns (i + 1) (drop (i + 1) Es)
forms_more Es i E l q =
    ap (listed_columns i) (drop_at Es i E l q)
    ∙ ap (λ k. form_columns i E ++ listed_columns k (drop (i + 1) Es)) (let e : suc i ≡ i + 1 = omega arith in e)

pub forms_none : (Es : List LinearForm) (i j : ℕ) → length Es ≤ i → listed_columns j (drop i Es) ≡ []
forms_none Es i j l = ap (listed_columns j) (drop_of_length-le Es l)
