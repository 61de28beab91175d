-- Well-formedness of rational polynomials, vector fields, linear forms and systems: they can be stored.
use Rattle.std.specs.Prelude.{◌≡◌, ℕ, List}
use Rattle.std.specs.Coded.{Coded, coded×, coded_ℕ, coded_list}
use base.Stored.{coded_via}
use Rattle.lie_math.specs.Polynomial.{WholePolynomial}
use Rattle.lie_math.specs.PolynomialRing.{polynomial_code}
use Rattle.lie_math.specs.DerivativeOrder.{derivative_code}
use Rattle.lie_math.specs.FiniteSumLaws as finite_laws
use Rattle.lie_math.specs.LinearForm.{LinearForm, forms}
use Rattle.lie_math.specs.VectorField.{VectorField}
use Rattle.lie_math.specs.LinearSystem.{Unknown, LinearSystem}

pub same_vector_field : (x y : VectorField) → ◌≡◌ {A = ℕ × List WholePolynomial} (x.denominator, x.parts) (y.denominator, y.parts) → x ≡ y
same_vector_field x y e = λ i. record { denominator = (e i).0; parts = (e i).1 }

abbrev pub vector_field_code : Coded VectorField
vector_field_code = coded_via (coded× coded_ℕ (coded_list polynomial_code)) (λ x. (x.denominator, x.parts)) same_vector_field

pub same_unknown : (x y : Unknown) → ◌≡◌ {A = ℕ × List ℕ} (x.number, x.variables) (y.number, y.variables) → x ≡ y
same_unknown x y e = λ i. record { number = (e i).0; variables = (e i).1 }

abbrev pub unknown_code : Coded Unknown
unknown_code = coded_via (coded× coded_ℕ (coded_list coded_ℕ)) (λ x. (x.number, x.variables)) same_unknown

abbrev pub form_code : Coded LinearForm
form_code = finite_laws.code forms derivative_code polynomial_code

abbrev pub Parts : Type 0
Parts = ((List Unknown × List LinearForm) × List LinearForm) × ℕ

abbrev pub parts : LinearSystem → Parts
parts x = (((x.unknowns, x.equations), x.general), x.next)

pub same_linear_system : (x y : LinearSystem) → parts x ≡ parts y → x ≡ y
same_linear_system x y e = λ i. record { unknowns = (((e i).0).0).0; equations = (((e i).0).0).1; general = ((e i).0).1; next = (e i).1 }

abbrev pub linear_system_code : Coded LinearSystem
linear_system_code = coded_via (coded× (coded× (coded× (coded_list unknown_code) (coded_list form_code)) (coded_list form_code)) coded_ℕ)
    parts same_linear_system
