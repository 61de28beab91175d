-- The equation that the terms of a line make.
use Rattle.std.specs.Prelude.{ℕ, ◌≡◌, List, ℤ, Ok, Option, refl}
use Rattle.lie_math.specs.Monomial.{Monomial}
use Rattle.lie_math.specs.Polynomial.{WholePolynomial, polynomial_of}
use Rattle.lie_geometry.specs.Coordinates.{Space, Coordinate}
use Rattle.lie_scan.specs.Terms.{equation_of}
use Rattle.lie_file.specs.Leads.{lead_of}
use Rattle.lie_file.specs.Files.{equation_at}

pub equation_is : (S : Space) (names text : List ℕ) (ts : List (Monomial × ℤ)) (lead : Option Coordinate) (diff : WholePolynomial)
    → equation_of S names text ≡ Ok ts → lead ≡ lead_of S names text → diff ≡ polynomial_of ts → equation_at S names text ≡ Ok (record { lead = lead; diff = diff })
unfolding equation_at
equation_is S names text ts lead diff is_terms is_lead is_diff = rw (is_terms, is_lead, is_diff) refl
