-- Systems without equations whose unknowns are constants: the fields that they give are the combinations of some fields.
use Rattle.std.specs.Prelude.{◌≡◌, List, [], map}
use Rattle.std.specs.List.{AllByRecursion as Every}
use Rattle.lie_math.specs.Counts.{Derivative}
use Rattle.lie_math.specs.FiniteSum as finite
use Rattle.lie_math.specs.LinearForm.{forms}
use Rattle.lie_math.specs.LinearSystem.{Unknown, LinearSystem}
use Rattle.lie_math.specs.Polynomial.{WholePolynomial}
use Rattle.lie_math.specs.VectorField.{VectorField}
use Rattle.lie_spans.specs.Spans.{EveryTwo}

-- the unknown itself, without a derivative
abbrev pub unknown_itself : Unknown → Derivative
unknown_itself f = record { unknown = f.number; counts = [] }

-- a listed unknown without a derivative
abbrev pub IsListedUnknown : List Unknown → Derivative → Type 0
IsListedUnknown fs d = (d.counts ≡ []) × ¬ (Every (λ (f : Unknown). ¬ (f.number ≡ d.unknown)) fs)

-- no equation, and unknowns of no variable, which alone occur
pub record IsConstantSystem (S : LinearSystem) : Type 0 where
  pub nothing : S.equations ≡ []
  pub constants : Every (λ (f : Unknown). f.variables ≡ []) S.unknowns
  pub distinct : EveryTwo (λ (f g : Unknown). ¬ (f.number ≡ g.number)) S.unknowns
  pub listed : Every (λ E. Every (λ (e : Derivative × WholePolynomial). IsListedUnknown S.unknowns e.0) E.list) S.general

-- the field that the system gives for 1 in the place of this unknown and 0 in the place of all others
abbrev pub unknown_field : LinearSystem → Unknown → VectorField
unknown_field S f = record { denominator = 1; parts = map (λ E. finite.value forms E (unknown_itself f)) S.general }

abbrev pub unknown_fields : LinearSystem → List VectorField
unknown_fields S = map (unknown_field S) S.unknowns
