-- Triples by the exponents of a variable.
use Rattle.std.specs.Prelude.{ℕ, zero, suc, cond, eqb, List, [], ◌∷◌, ℤ, Vec}
use Rattle.std.specs.declared.alloc.Global.{Global}
use Rattle.lie_math.specs.FiniteSum as finite
use Rattle.lie_math.specs.Monomial.{Monomial, exponent, powers}
use Rattle.lie_systems.specs.Triples.{Triple}
use Rattle.lie_jet.specs.declared.derivative.Der.{Der}
use Rattle.lie_lin.specs.Forms.{triples_of}

-- those in which v has the exponent e, without v
abbrev pub with_power : ℕ → ℕ → List Triple → List Triple
with_power v e [] = []
with_power v e (t ∷ ts) = cond (eqb (exponent t.1 v) e) ((t.0, finite.put powers v 0 t.1, t.2) ∷ with_power v e ts) (with_power v e ts)

-- those with the exponents from e on, k of them
abbrev pub by_exponents : ℕ → ℕ → ℕ → List Triple → List (List Triple)
by_exponents v e zero ts = []
by_exponents v e (suc k) ts = with_power v e ts ∷ by_exponents v (suc e) k ts

-- groups of triples as they are kept
abbrev pub groups_of : List (Vec (Der × Monomial × ℤ) Global) → List (List Triple)
groups_of [] = []
groups_of (g ∷ gs) = triples_of g.items ∷ groups_of gs
