-- Derivatives by counts, where zeros at the end of the counts make no difference.
use Rattle.std.specs.Prelude.{◌≡◌, ℕ, zero, suc, ◌-◌, Bool, true, false, cond, eqb, List, [], ◌∷◌, ◌++◌, get_or}
use Rattle.std.proofs.Common.{refl, sym, ap, ap₂, ◌∙◌, arith, eqb-true}
use Rattle.std.specs.Fn.{iterate}
use Rattle.lie_math.specs.Counts.{before_counts, trimmed}
use Rattle.lie_math.specs.LinearForm.{LinearForm}
use Rattle.lie_math.specs.LinearSystem.{Unknown}
use Rattle.lie_steps.specs.Bulks.{derivatives_made_by, derivatives_made_from}
use Rattle.lie_steps.specs.Derivatives.{derivative, derivatives_from, missing}
use Rattle.lie_steps.proofs.CountLists.{trimmed_same}

before_one : (c : ℕ) → before_counts (suc c) [] ≡ suc c ∷ []
before_one c = go (eqb (suc c) 0) refl
  where
    go : (t : Bool) → eqb (suc c) 0 ≡ t → cond t [] (suc c ∷ []) ≡ suc c ∷ []
    go true e = absurd (let z : suc c ≡ 0 = eqb-true (suc c) 0 e in omega arith)
    go false e = refl

module _ (us : List Unknown) where
  derivatives-before : (i c : ℕ) (J : List ℕ) (E : LinearForm) → derivatives_from us i (before_counts c J) E ≡ derivatives_from us i (c ∷ J) E
  derivatives-before i zero [] E = refl
  derivatives-before i zero (j ∷ J) E = refl
  derivatives-before i (suc c) [] E = ap (λ M. derivatives_from us i M E) (before_one c)
  derivatives-before i (suc c) (j ∷ J) E = refl

  made-before : (i c : ℕ) (J : List ℕ) (E : LinearForm) → derivatives_made_from us i (before_counts c J) E ≡ derivatives_made_from us i (c ∷ J) E
  made-before i zero [] E = refl
  made-before i zero (j ∷ J) E = refl
  made-before i (suc c) [] E = ap (λ M. derivatives_made_from us i M E) (before_one c)
  made-before i (suc c) (j ∷ J) E = refl

  derivatives-trimmed : (i : ℕ) (J : List ℕ) (E : LinearForm) → derivatives_from us i (trimmed J) E ≡ derivatives_from us i J E
  derivatives-trimmed i [] E = refl
  derivatives-trimmed i (c ∷ J) E = derivatives-before i c (trimmed J) E ∙ derivatives-trimmed (suc i) J (iterate (derivative us i) c E)

  made-trimmed : (i : ℕ) (J : List ℕ) (E : LinearForm) → derivatives_made_from us i (trimmed J) E ≡ derivatives_made_from us i J E
  made-trimmed i [] E = refl
  made-trimmed i (c ∷ J) E = made-before i c (trimmed J) E ∙ ap (λ bs. derivatives_made_by us i c E ++ bs) (made-trimmed (suc i) J (iterate (derivative us i) c E))

count-before : (c : ℕ) (J : List ℕ) (v : ℕ) → get_or (before_counts c J) v 0 ≡ get_or (c ∷ J) v 0
count-before zero [] zero = refl
count-before zero [] (suc v) = refl
count-before zero (j ∷ J) v = refl
count-before (suc c) [] v = ap (λ K. get_or K v 0) (before_one c)
count-before (suc c) (j ∷ J) v = refl

pub count-trimmed : (J : List ℕ) (v : ℕ) → get_or (trimmed J) v 0 ≡ get_or J v 0
count-trimmed [] v = refl
count-trimmed (c ∷ J) zero = count-before c (trimmed J) zero
count-trimmed (c ∷ J) (suc v) = count-before c (trimmed J) (suc v) ∙ count-trimmed J v

pub count-missing : (J K : List ℕ) (v : ℕ) → get_or (missing J K) v 0 ≡ get_or K v 0 - get_or J v 0
count-missing J [] v = nothing (get_or J v 0)
  where
    nothing : (a : ℕ) → 0 ≡ 0 - a
    nothing a = omega arith
count-missing [] (k ∷ K) v = whole (get_or (k ∷ K) v 0)
  where
    whole : (a : ℕ) → a ≡ a - 0
    whole a = omega arith
count-missing (j ∷ J) (k ∷ K) zero = refl
count-missing (j ∷ J) (k ∷ K) (suc v) = count-missing J K v

-- what is missing between counts is that between the counts without zeros at their end, but for such zeros
missing-trimmed : (J K : List ℕ) → trimmed (missing (trimmed J) (trimmed K)) ≡ trimmed (missing J K)
missing-trimmed J K = trimmed_same _ _ (λ v. count-missing (trimmed J) (trimmed K) v ∙ ap₂ ◌-◌ (count-trimmed K v) (count-trimmed J v) ∙ sym (count-missing J K v))

module _ (us : List Unknown) (J K : List ℕ) (E : LinearForm) where
  pub derivatives-missing : derivatives_from us 0 (missing J K) E ≡ derivatives_from us 0 (missing (trimmed J) (trimmed K)) E
  derivatives-missing =
      sym (derivatives-trimmed us 0 (missing J K) E) ∙ ap (λ M. derivatives_from us 0 M E) (sym (missing-trimmed J K)) ∙ derivatives-trimmed us 0 (missing (trimmed J) (trimmed K)) E

  pub made-missing : derivatives_made_from us 0 (missing J K) E ≡ derivatives_made_from us 0 (missing (trimmed J) (trimmed K)) E
  made-missing =
      sym (made-trimmed us 0 (missing J K) E) ∙ ap (λ M. derivatives_made_from us 0 M E) (sym (missing-trimmed J K)) ∙ made-trimmed us 0 (missing (trimmed J) (trimmed K)) E
