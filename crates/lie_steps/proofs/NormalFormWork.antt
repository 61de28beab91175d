-- The work of a normal form: turn by turn, and as a list of actions; it is within the limits or past one of them.
use Rattle.std.specs.Prelude.{ℕ, ◌⊎◌, ◌↔◌, List, [], ◌++◌, get_or}
use Rattle.std.proofs.Common.{sym, subst, inl, inr}
use Rattle.std.specs.List.{Contains}
use Rattle.std.proofs.lemmas.List.Elements.{Contains-append_left, Contains-append_right, Contains-append_cases}
use Rattle.lie_math.specs.Counts.{Derivative}
use Rattle.lie_math.specs.LinearForm.{LinearForm, no_form}
use Rattle.lie_math.specs.LinearSystem.{Unknown}
use Rattle.lie_math.proofs.ContainedElements.{contains_nothing}
use Rattle.lie_systems.specs.Works.{Limit, Made, IsWorkWithin, IsWorkPast}
use Rattle.lie_systems.proofs.WorkLimits.{work_within_or_past}
use Rattle.lie_steps.specs.NormalForm.{IsReducible, IsReduction, reduced_once, reduction_made, IsNormalForm, done, onward, NormalFormMakes, now, later}
use Rattle.lie_steps.proofs.NormalForms.{reduction_unique}

module _ {us : List Unknown} {Ls : List LinearForm} where
  pub no_work : {E : LinearForm} {b : Made} → ((d : Derivative) → ¬ (IsReducible Ls E d)) → NormalFormMakes us Ls E b → ⊥
  no_work f (now d j l r c) = f d (r.greatest).holds
  no_work f (later d j l r k) = f d (r.greatest).holds

  pub work_from : {E : LinearForm} (d : Derivative) (j : ℕ) (l : Derivative) → IsReduction Ls E d j l → (b : Made) → NormalFormMakes us Ls E b → Contains (reduction_made us E d (get_or Ls j no_form) l) b ⊎ NormalFormMakes us Ls (reduced_once us E d (get_or Ls j no_form) l) b
  work_from {E} d j l r b (now e i m s c) = inl (subst (λ (x : Derivative × ℕ × Derivative). Contains (reduction_made us E x.0 (get_or Ls x.1 no_form) x.2) b) (sym (reduction_unique r s)) c)
  work_from {E} d j l r b (later e i m s k) = inr (subst (λ (x : Derivative × ℕ × Derivative). NormalFormMakes us Ls (reduced_once us E x.0 (get_or Ls x.1 no_form) x.2) b) (sym (reduction_unique r s)) k)

  pub work_by_turns : {E : LinearForm} (d : Derivative) (j : ℕ) (l : Derivative) → IsReduction Ls E d j l → (b : Made) → NormalFormMakes us Ls E b ↔ (Contains (reduction_made us E d (get_or Ls j no_form) l) b ⊎ NormalFormMakes us Ls (reduced_once us E d (get_or Ls j no_form) l) b)
  work_by_turns {E} d j l r b = (work_from d j l r b, back)
    where
      back : Contains (reduction_made us E d (get_or Ls j no_form) l) b ⊎ NormalFormMakes us Ls (reduced_once us E d (get_or Ls j no_form) l) b → NormalFormMakes us Ls E b
      back (inl c) = now d j l r c
      back (inr k) = later d j l r k

  -- the actions of all turns
  listed : {E N : LinearForm} → IsNormalForm us Ls E N → (bs : List Made) × ((b : Made) → NormalFormMakes us Ls E b ↔ Contains bs b)
  listed (done f) = ([], λ b. (λ h. absurd (no_work f h), λ c. absurd (contains_nothing b c)))
  listed {E} {N} (onward d j l r k) = go (listed k)
    where
      go : (bs : List Made) × ((b : Made) → NormalFormMakes us Ls (reduced_once us E d (get_or Ls j no_form) l) b ↔ Contains bs b) → (bs : List Made) × ((b : Made) → NormalFormMakes us Ls E b ↔ Contains bs b)
      go (bs, same) = (reduction_made us E d (get_or Ls j no_form) l ++ bs, λ b. (λ h. forth b (work_from d j l r b h), λ c. back b (Contains-append_cases (reduction_made us E d (get_or Ls j no_form) l) bs b c)))
        where
          forth : (b : Made) → Contains (reduction_made us E d (get_or Ls j no_form) l) b ⊎ NormalFormMakes us Ls (reduced_once us E d (get_or Ls j no_form) l) b → Contains (reduction_made us E d (get_or Ls j no_form) l ++ bs) b
          forth b (inl c) = Contains-append_left _ bs b c
          forth b (inr h) = Contains-append_right _ bs b ((same b).0 h)

          back : (b : Made) → Contains (reduction_made us E d (get_or Ls j no_form) l) b ⊎ Contains bs b → NormalFormMakes us Ls E b
          back b (inl c) = now d j l r c
          back b (inr c) = later d j l r ((same b).1 c)

  pub normal_form_within_or_past : {E N : LinearForm} → IsNormalForm us Ls E N → IsWorkWithin (NormalFormMakes us Ls E) ⊎ ((limit : Limit) × IsWorkPast (NormalFormMakes us Ls E) limit)
  normal_form_within_or_past {E} k = at (listed k)
    where
      at : (bs : List Made) × ((b : Made) → NormalFormMakes us Ls E b ↔ Contains bs b) → IsWorkWithin (NormalFormMakes us Ls E) ⊎ ((limit : Limit) × IsWorkPast (NormalFormMakes us Ls E) limit)
      at (bs, same) = by (work_within_or_past bs)
        where
          by : IsWorkWithin (Contains bs) ⊎ ((limit : Limit) × IsWorkPast (Contains bs) limit) → IsWorkWithin (NormalFormMakes us Ls E) ⊎ ((limit : Limit) × IsWorkPast (NormalFormMakes us Ls E) limit)
          by (inl w) = inl (λ b h. w b ((same b).0 h))
          by (inr p) = inr (p.0, (p.1.0, (same p.1.0).1 p.1.1, p.1.2))
