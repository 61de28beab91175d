-- Why a system has no solved form: the first condition that holds, equation by equation.
use Rattle.std.specs.Prelude.{◌≡◌, ℕ, suc, not, true, List, ◌∷◌, ◌++◌, length}
use Rattle.std.specs.List.{AllByRecursion as Every}
use Rattle.lie_math.specs.Variables.{IsIn}
use Rattle.lie_geometry.specs.Coordinates.{Space}
use Rattle.lie_geometry.specs.SolvedEquations.{SolvedEquation, is_lead}
use Rattle.lie_ring.specs.Rankings.{degree_rank}
use Rattle.lie_system.specs.Systems.{EquationRead}
use Rattle.lie_solved.specs.declared.solved.NotKind.{NotKind}
use Rattle.lie_solved.specs.declared.solved.NotKind.TheVariants.{NoDerivative, LeadNotLinear, LeadRepeated, LeadInside}
use Rattle.lie_solved.specs.declared.solved.SolveFormFail.{SolveFormFail}
use Rattle.lie_solved.specs.declared.solved.SolveFormFail.TheVariants.{Not, NoMemory}
use Rattle.lie_solved.specs.Leads.{JetOrder, HasNoDerivative, IsLeadUnder, IsLinearIn}
use Rattle.lie_solved.specs.SolvedForms.{IsSolvedUnder, AreSolvedUnder, HaveDistinctLeads}

-- ---- under any order of derivatives
-- equations that are solved one by one, with distinct leads
pub record ArePassedUnder (rank : JetOrder) (S : Space) (es : List EquationRead) (rs : List SolvedEquation) : Type 0 where
  pub equations : AreSolvedUnder rank S es rs
  pub leads : HaveDistinctLeads rs

-- e is the k-th equation, and those before it are passed
pub record IsReachedUnder (rank : JetOrder) (S : Space) (es : List EquationRead) (k : ℕ) (rs : List SolvedEquation)
    (e : EquationRead) : Type 0 where
  pub before : List EquationRead
  pub after : List EquationRead
  pub place : es ≡ before ++ e ∷ after
  pub number : k ≡ suc (length before)
  pub passed : ArePassedUnder rank S before rs

-- the lead of e is no term alone, or is in another one
pub record HasLeadNotLinearUnder (rank : JetOrder) (S : Space) (e : EquationRead) : Type 0 where
  pub some : ¬ (HasNoDerivative S e.diff)
  pub lead : ℕ
  pub is : IsLeadUnder rank S e lead
  pub bent : ¬ (IsLinearIn lead e.diff)

-- the lead of e is that of an equation of rs
pub record HasLeadRepeatedUnder (rank : JetOrder) (S : Space) (e : EquationRead) (rs : List SolvedEquation) : Type 0 where
  pub rule : SolvedEquation
  pub solves : IsSolvedUnder rank S e rule
  pub repeated : is_lead rs rule.lead ≡ true

-- the right side has none of the leads
abbrev pub HasNoLead : List SolvedEquation → SolvedEquation → Type 0
HasNoLead rs r = IsIn (λ w. not (is_lead rs w)) r.right

-- the k-th right side is the first with a lead
pub record IsFirstInside (rs : List SolvedEquation) (k : ℕ) : Type 0 where
  pub before : List SolvedEquation
  pub rule : SolvedEquation
  pub after : List SolvedEquation
  pub place : rs ≡ before ++ rule ∷ after
  pub number : k ≡ suc (length before)
  pub none : Every (HasNoLead rs) before
  pub inside : ¬ (HasNoLead rs rule)

-- the k-th equation is the first at which a condition holds, and it is the first condition that holds there
abbrev pub IsRefusedUnder : JetOrder → Space → List EquationRead → NotKind → ℕ → Type 0
IsRefusedUnder rank S es NoDerivative k = (rs : List SolvedEquation) × (e : EquationRead) × IsReachedUnder rank S es k rs e
    × HasNoDerivative S e.diff
IsRefusedUnder rank S es LeadNotLinear k = (rs : List SolvedEquation) × (e : EquationRead) × IsReachedUnder rank S es k rs e
    × HasLeadNotLinearUnder rank S e
IsRefusedUnder rank S es LeadRepeated k = (rs : List SolvedEquation) × (e : EquationRead) × IsReachedUnder rank S es k rs e
    × HasLeadRepeatedUnder rank S e rs
IsRefusedUnder rank S es LeadInside k = (rs : List SolvedEquation) × ArePassedUnder rank S es rs × IsFirstInside rs k

-- ---- by the order of derivatives, then the dependent variable, then the counts
abbrev pub ArePassed : Space → List EquationRead → List SolvedEquation → Type 0
ArePassed S es rs = ArePassedUnder degree_rank S es rs

abbrev pub IsReached : Space → List EquationRead → ℕ → List SolvedEquation → EquationRead → Type 0
IsReached S es k rs e = IsReachedUnder degree_rank S es k rs e

abbrev pub HasLeadNotLinear : Space → EquationRead → Type 0
HasLeadNotLinear S e = HasLeadNotLinearUnder degree_rank S e

abbrev pub HasLeadRepeated : Space → EquationRead → List SolvedEquation → Type 0
HasLeadRepeated S e rs = HasLeadRepeatedUnder degree_rank S e rs

abbrev pub IsRefused : Space → List EquationRead → NotKind → ℕ → Type 0
IsRefused S es kind k = IsRefusedUnder degree_rank S es kind k

-- there is no solved form, for the cause that is told, or memory ran out
abbrev pub IsSolveFormCause : Space → List EquationRead → SolveFormFail → Type 0
IsSolveFormCause S es (Not kind k) = IsRefused S es kind k
IsSolveFormCause S es NoMemory = Unit {0}
