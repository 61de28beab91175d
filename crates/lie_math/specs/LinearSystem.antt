-- Systems of linear equations for unknown polynomials, their solutions, and the vector fields that they give.
use Rattle.std.specs.Prelude.{◌≡◌, ℕ, ◌<◌, Bool, List, get_or, eqb, pos}
use Rattle.std.specs.List.{AllByRecursion as Every, list_any}
use Rattle.lie_math.specs.Polynomial.{WholePolynomial, 0ᴾ, constant, ◌*ᴾ◌}
use Rattle.lie_math.specs.Variables.{IsIn}
use Rattle.lie_math.specs.LinearForm.{LinearForm, no_form, apply}
use Rattle.lie_math.specs.VectorField.{VectorField, component}

-- an unknown polynomial, and the variables on which it depends
pub record Unknown : Type 0 where
  pub number : ℕ
  pub variables : List ℕ

abbrev pub has : Unknown → ℕ → Bool
has f v = list_any (eqb v) f.variables

-- the equations say that a form is 0; `general` has a form for each component of the fields; no unknown has the number `next` or one
-- above it
pub record LinearSystem : Type 0 where
  pub unknowns : List Unknown
  pub equations : List LinearForm
  pub general : List LinearForm
  pub next : ℕ

-- each unknown is given a polynomial in its own variables, and each equation holds
pub record IsSolution (F : ℕ → WholePolynomial) (S : LinearSystem) : Type 0 where
  pub own : Every (λ (f : Unknown). IsIn (has f) (F f.number)) S.unknowns
  pub solves : Every (λ E. apply F E ≡ 0ᴾ) S.equations

-- some multiple of the field is what `general` says of a solution
pub record Gives (S : LinearSystem) (V : VectorField) : Type 0 where
  pub solution : ℕ → WholePolynomial
  pub solves : IsSolution solution S
  pub multiple : ℕ
  pub positive : 0 < multiple
  pub same : (s : ℕ) → constant (pos multiple) *ᴾ component V s ≡ constant (pos V.denominator) *ᴾ apply solution
      (get_or S.general s no_form)
