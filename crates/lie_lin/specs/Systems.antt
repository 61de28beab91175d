-- Unknowns and systems as the program keeps them.
use Rattle.std.specs.Prelude.{◌≡◌, ℕ, ◌/◌, ◌%◌, ◌^◌, Bool, eqb, List, filter, map}
use Rattle.std.specs.List.{range_with_len}
use Rattle.std.specs.Coded.{Coded, coded×, coded_ℕ}
use base.Stored.{coded_via}
use Rattle.lie_math.specs.LinearForm.{LinearForm}
use Rattle.lie_math.specs.LinearSystem.{Unknown, LinearSystem}
use Rattle.lie_math.specs.Codes.{linear_system_code}
use Rattle.lie_geometry.specs.Coordinates.{Space}
use Rattle.lie_lin.specs.declared.system.Unknown as kept

-- whether the bit i is set
abbrev pub has_bit : ℕ → ℕ → Bool
has_bit bits i = eqb (bits / 2 ^ i % 2) 1

-- the unknown with this number, and with the variables whose bits are set
abbrev pub unknown_of : kept.Unknown → Unknown
unknown_of f = record { number = f.number; variables = filter (has_bit f.vars) (range_with_len 0 8) }

abbrev pub system_of : List kept.Unknown → List LinearForm → List LinearForm → ℕ → LinearSystem
system_of unknowns equations general next = record {
  unknowns = map unknown_of unknowns;
  equations = equations;
  general = general;
  next = next;
}

-- ---- changes of a system
abbrev pub with_equations : LinearSystem → List LinearForm → LinearSystem
with_equations S Es = record S { equations = Es }

-- with other unknowns, and another number above theirs
abbrev pub with_unknowns : LinearSystem → List Unknown → ℕ → LinearSystem
with_unknowns S us n = record S { unknowns = us; next = n }

-- ---- a system over a space can be stored
pub record SpaceSystem : Type 0 where
  pub space : Space
  pub system : LinearSystem

pub same_space : (S T : Space) → ◌≡◌ {A = ℕ × ℕ} (S.p, S.q) (T.p, T.q) → S ≡ T
same_space S T e = λ i. record { p = (e i).0; q = (e i).1 }

abbrev pub space_code : Coded Space
space_code = coded_via (coded× coded_ℕ coded_ℕ) (λ S. (S.p, S.q)) same_space

pub same_space_system : (s t : SpaceSystem) → ◌≡◌ {A = Space × LinearSystem} (s.space, s.system) (t.space, t.system) → s ≡ t
same_space_system s t e = λ i. record { space = (e i).0; system = (e i).1 }

abbrev pub space_system_code : Coded SpaceSystem
space_system_code = coded_via (coded× space_code linear_system_code) (λ s. (s.space, s.system)) same_space_system
