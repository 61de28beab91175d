-- The leads of a list of equations, and what they tell of a form: the greatest derivative that one of them divides, and the first that
-- divides it.
use Rattle.std.specs.Prelude.{◌≡◌, ℕ, ◌<◌, ◌≤◌, ◌⊎◌, List, [], ◌∷◌, ◌++◌, length, get_or, take, drop}
use Rattle.std.specs.List.{Any, AllByRecursion as Every}
use Rattle.lie_math.specs.Counts.{Derivative}
use Rattle.lie_math.specs.LinearForm.{LinearForm, no_form}
use Rattle.lie_math.specs.Polynomial.{WholePolynomial}
use Rattle.lie_systems.specs.Leads.{IsLead}
use Rattle.lie_jet.specs.Derivatives.{derivative_of}
use Rattle.lie_steps.specs.Equations.{Divides}
use Rattle.lie_normal.specs.declared.leads.PlacedLead.{PlacedLead}

-- ---- the leads in order
-- the lesser unknown first, and for one unknown the earlier place
abbrev pub GoesBefore : PlacedLead → PlacedLead → Type 0
GoesBefore x y = (x.lead.unknown < y.lead.unknown) ⊎ ((x.lead.unknown ≡ y.lead.unknown) × (x.place < y.place))

abbrev pub AreOrdered : List PlacedLead → Type 0
AreOrdered [] = Unit {0}
AreOrdered (x ∷ xs) = Every (GoesBefore x) xs × AreOrdered xs

-- x is put behind those of its unknown
pub record IsPutBehind (x : PlacedLead) (xs ys : List PlacedLead) : Type 0 where
  pub index : ℕ
  pub is : ys ≡ take index xs ++ x ∷ drop index xs
  pub before : Every (λ (y : PlacedLead). y.lead.unknown ≤ x.lead.unknown) (take index xs)
  pub behind : Every (λ (y : PlacedLead). x.lead.unknown < y.lead.unknown) (drop index xs)

-- the lead of one of the first n equations
abbrev pub IsLeadBelow : List LinearForm → ℕ → PlacedLead → Type 0
IsLeadBelow Ls n x = (x.place < n) × IsLead (derivative_of x.lead) (get_or Ls x.place no_form)

-- the leads of the first n equations
pub record AreLeads (Ls : List LinearForm) (n : ℕ) (xs : List PlacedLead) : Type 0 where
  pub ordered : AreOrdered xs
  pub each : Every (IsLeadBelow Ls n) xs
  pub all : (j : ℕ) → j < n → ¬ (get_or Ls j no_form ≡ no_form) → Any (λ (x : PlacedLead). x.place ≡ j) xs

-- ---- what they divide
abbrev pub IsNoDivisor : Derivative → PlacedLead → Type 0
IsNoDivisor d x = ¬ (Divides (derivative_of x.lead) d)

abbrev pub NoneDivides : List PlacedLead → Derivative → Type 0
NoneDivides xs d = Every (IsNoDivisor d) xs

-- the first of the list that divides d
pub record IsFirstDivisor (xs : List PlacedLead) (d : Derivative) (x : PlacedLead) : Type 0 where
  pub index : ℕ
  pub inside : index < length xs
  pub is : x ≡ get_or xs index x
  pub divides : Divides (derivative_of x.lead) d
  pub before : NoneDivides (take index xs) d

-- d is the first derivative of E that some lead divides, and x the first that divides it
pub record IsGreatestDivided (E : LinearForm) (xs : List PlacedLead) (d : Derivative) (x : PlacedLead) : Type 0 where
  pub index : ℕ
  pub inside : index < length E.list
  pub entry : Derivative × WholePolynomial
  pub is : entry ≡ get_or E.list index entry
  pub derivative : entry.0 ≡ d
  pub before : Every (λ (e : Derivative × WholePolynomial). NoneDivides xs e.0) (take index E.list)
  pub first : IsFirstDivisor xs d x
