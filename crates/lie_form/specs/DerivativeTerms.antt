-- Lists of derivatives of unknown functions with coefficients.
use Rattle.std.specs.Prelude.{◌≡◌, ℕ, List, [], ◌∷◌, map, ◌++◌, take, drop}
use Rattle.std.proofs.Common.{Equal, Greater}
use Rattle.lie_math.specs.Counts.{Derivative, derivative_cmp}
use Rattle.lie_math.specs.LinearForm.{forms}
use Rattle.lie_math.specs.SortedSum.{add_at, put_new}
use Rattle.lie_math.specs.Polynomial.{WholePolynomial}
use Rattle.lie_jet.specs.declared.derivative.Der.{Der}
use Rattle.lie_jet.specs.Derivatives.{derivative_of}

abbrev pub derivative_terms : List (Der × WholePolynomial) → List (Derivative × WholePolynomial)
derivative_terms ts = map (λ t. (derivative_of t.0, t.1)) ts

-- a times d goes to the i-th place or behind it
abbrev pub GoesTo : Derivative → WholePolynomial → List (Derivative × WholePolynomial) → ℕ → Type 0
GoesTo d a es i = add_at derivative_cmp forms.values d a es ≡ take i es ++ add_at derivative_cmp forms.values d a (drop i es)

-- d does not come after the first of the list
abbrev pub GoesNoFurther : Derivative → List (Derivative × WholePolynomial) → Type 0
GoesNoFurther d [] = Unit {0}
GoesNoFurther d (e ∷ es) = ¬ (derivative_cmp d e.0 ≡ Greater)

-- d is the first of the list
abbrev pub IsFirst : Derivative → List (Derivative × WholePolynomial) → Type 0
IsFirst d [] = ⊥
IsFirst d (e ∷ es) = derivative_cmp d e.0 ≡ Equal

-- at the i-th place there is F of the coefficient, or nothing where that is 0
abbrev pub IsReplaced : List (Derivative × WholePolynomial) → ℕ → (WholePolynomial → WholePolynomial)
    → List (Derivative × WholePolynomial) → Type 0
IsReplaced es i F new = (e : Derivative × WholePolynomial) (fs : List (Derivative × WholePolynomial)) → drop i es ≡ e ∷ fs
    → new ≡ take i es ++ put_new derivative_cmp forms.values e.0 (F e.1) fs

-- the coefficient at the i-th place is in P
abbrev pub HoldsAt : List (Derivative × WholePolynomial) → ℕ → (WholePolynomial → Type 0) → Type 0
HoldsAt es i P = (e : Derivative × WholePolynomial) (fs : List (Derivative × WholePolynomial)) → drop i es ≡ e ∷ fs → P e.1
