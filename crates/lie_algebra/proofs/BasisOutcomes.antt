-- The basis of a system is within the limits or past one of them, and no two of these hold.
use Rattle.std.specs.Prelude.{◌≡◌, ℕ, ◌⊎◌, List, [], ◌∷◌, map, length}
use Rattle.std.proofs.Common.{refl, sym, ap, subst, ◌∙◌, inl, inr}
use Rattle.std.specs.List.{Contains}
use Rattle.lie_math.specs.LinearSystem.{LinearSystem}
use Rattle.lie_math.proofs.ContainedElements.{contained_cons, contained_map, contains_first, contains_nothing}
use Rattle.lie_systems.specs.Works.{Limit, OnCoefficients, OnExponents, OnTerms, OnOrders, OnUnknowns, OnWidth, Made, ANumber, ABasis}
use Rattle.lie_systems.specs.Works.{IsMadePast, IsWorkWithin, IsWorkPast}
use Rattle.lie_systems.proofs.WorkLimits.{work_not_within_and_past, work_within_or_past}
use Rattle.lie_ring.specs.declared.failures.PastKind.{PastKind}
use Rattle.lie_ring.specs.declared.failures.PastKind.TheVariants.{Coefficient, Exponent, Terms, Order, Unknowns, Width}
use Rattle.lie_spans.specs.Bulks.{basis_bulks}
use Rattle.lie_spans.specs.Fields.{Column}
use Rattle.lie_algebra.specs.GeneralColumns.{AreGeneralColumns, unknown_rows}
use Rattle.lie_algebra.specs.BasisWork.{WidthMakes, EliminationMakes, IsBasisWithin, IsBasisPast, BasisOutcome}
use Rattle.lie_algebra.proofs.GeneralColumns.{general_columns, same_columns}

module _ (S : LinearSystem) (ks : List Column) (h : AreGeneralColumns S ks) where
  abbrev bulks : List ℕ
  bulks = basis_bulks (length ks) (unknown_rows ks S)

  abbrev width : List Made
  width = ABasis (length S.unknowns) (length ks) ∷ []

  -- what the two works make, by the one list of columns
  listed_width : (b : Made) → WidthMakes S b → Contains width b
  listed_width b (js, g, e) =
      subst (Contains width) (sym (e ∙ ap (λ ls. ABasis (length S.unknowns) (length ls)) (same_columns S js ks g h))) (contains_first _ [])

  made_width : (b : Made) → Contains width b → WidthMakes S b
  made_width b c = at (contained_cons _ [] b c)
    where
      at : (ABasis (length S.unknowns) (length ks) ≡ b) ⊎ Contains [] b → WidthMakes S b
      at (inl e) = (ks, h, sym e)
      at (inr k) = absurd (contains_nothing b k)

  listed_numbers : (b : Made) → EliminationMakes S b → Contains (map ANumber bulks) b
  listed_numbers b (js, g, c) =
      subst (λ ls. Contains (map ANumber (basis_bulks (length ls) (unknown_rows ls S))) b) (same_columns S js ks g h) c

  -- each is within the limits or past one
  pub width_told : IsWorkWithin (WidthMakes S) ⊎ IsWorkPast (WidthMakes S) OnWidth
  width_told = go (work_within_or_past width)
    where
      on_width : (limit : Limit) (b : Made) → Contains width b → IsMadePast limit b → IsWorkPast (WidthMakes S) OnWidth
      on_width limit b c p = by limit (at (contained_cons _ [] b c)) p
        where
          at : (ABasis (length S.unknowns) (length ks) ≡ b) ⊎ Contains [] b → ABasis (length S.unknowns) (length ks) ≡ b
          at (inl e) = e
          at (inr k) = absurd (contains_nothing b k)

          by : (limit : Limit) → ABasis (length S.unknowns) (length ks) ≡ b → IsMadePast limit b → IsWorkPast (WidthMakes S) OnWidth
          by OnWidth e q = (b, made_width b c, q)
          by OnCoefficients e q = absurd (subst (IsMadePast OnCoefficients) (sym e) q)
          by OnExponents e q = absurd (subst (IsMadePast OnExponents) (sym e) q)
          by OnTerms e q = absurd (subst (IsMadePast OnTerms) (sym e) q)
          by OnOrders e q = absurd (subst (IsMadePast OnOrders) (sym e) q)
          by OnUnknowns e q = absurd (subst (IsMadePast OnUnknowns) (sym e) q)

      go : IsWorkWithin (Contains width) ⊎ ((limit : Limit) × IsWorkPast (Contains width) limit)
          → IsWorkWithin (WidthMakes S) ⊎ IsWorkPast (WidthMakes S) OnWidth
      go (inl w) = inl (λ b m. w b (listed_width b m))
      go (inr p) = inr (on_width p.0 (p.1).0 (p.1).1 (p.1).2)

  pub numbers_told : IsWorkWithin (EliminationMakes S) ⊎ IsWorkPast (EliminationMakes S) OnCoefficients
  numbers_told = go (work_within_or_past (map ANumber bulks))
    where
      on_numbers : (limit : Limit) (b : Made) → Contains (map ANumber bulks) b → IsMadePast limit b → IsWorkPast (EliminationMakes S) OnCoefficients
      on_numbers limit b c p = let r = contained_map ANumber bulks b c in by limit r.0 r.2 p
        where
          by : (limit : Limit) (n : ℕ) → ANumber n ≡ b → IsMadePast limit b → IsWorkPast (EliminationMakes S) OnCoefficients
          by OnCoefficients n e q = (b, (ks, h, c), q)
          by OnWidth n e q = absurd (subst (IsMadePast OnWidth) (sym e) q)
          by OnExponents n e q = absurd (subst (IsMadePast OnExponents) (sym e) q)
          by OnTerms n e q = absurd (subst (IsMadePast OnTerms) (sym e) q)
          by OnOrders n e q = absurd (subst (IsMadePast OnOrders) (sym e) q)
          by OnUnknowns n e q = absurd (subst (IsMadePast OnUnknowns) (sym e) q)

      go : IsWorkWithin (Contains (map ANumber bulks)) ⊎ ((limit : Limit) × IsWorkPast (Contains (map ANumber bulks)) limit)
          → IsWorkWithin (EliminationMakes S) ⊎ IsWorkPast (EliminationMakes S) OnCoefficients
      go (inl w) = inl (λ b m. w b (listed_numbers b m))
      go (inr p) = inr (on_numbers p.0 (p.1).0 (p.1).1 (p.1).2)

-- ---- one outcome
abbrev Told : LinearSystem → Type 0
Told S = IsBasisWithin S ⊎ ((kind : PastKind) × IsBasisPast S kind)

one : (S : LinearSystem) → Told S
one S = let r = general_columns S in go (width_told S r.0 r.1) (numbers_told S r.0 r.1)
  where
    go : IsWorkWithin (WidthMakes S) ⊎ IsWorkPast (WidthMakes S) OnWidth
        → IsWorkWithin (EliminationMakes S) ⊎ IsWorkPast (EliminationMakes S) OnCoefficients → Told S
    go (inl w) (inl n) = inl (record { width = w; numbers = n })
    go (inl w) (inr p) = inr (Coefficient, (w, p))
    go (inr p) n = inr (Width, p)

not_both : (S : LinearSystem) (kind : PastKind) → IsBasisWithin S → ¬ (IsBasisPast S kind)
not_both S Width w p = work_not_within_and_past (WidthMakes S) OnWidth w.width p
not_both S Coefficient w p = work_not_within_and_past (EliminationMakes S) OnCoefficients w.numbers p.1
not_both S Exponent w p = p
not_both S Terms w p = p
not_both S Order w p = p
not_both S Unknowns w p = p

one_limit : (S : LinearSystem) (j k : PastKind) → IsBasisPast S j → IsBasisPast S k → j ≡ k
one_limit S Width Width p q = refl
one_limit S Coefficient Coefficient p q = refl
one_limit S Width Coefficient p q = absurd (work_not_within_and_past (WidthMakes S) OnWidth q.0 p)
one_limit S Coefficient Width p q = absurd (work_not_within_and_past (WidthMakes S) OnWidth p.0 q)
one_limit S Width Exponent p q = absurd q
one_limit S Width Terms p q = absurd q
one_limit S Width Order p q = absurd q
one_limit S Width Unknowns p q = absurd q
one_limit S Coefficient Exponent p q = absurd q
one_limit S Coefficient Terms p q = absurd q
one_limit S Coefficient Order p q = absurd q
one_limit S Coefficient Unknowns p q = absurd q
one_limit S Exponent k p q = absurd p
one_limit S Terms k p q = absurd p
one_limit S Order k p q = absurd p
one_limit S Unknowns k p q = absurd p

pub one_outcome : BasisOutcome
one_outcome = record { one = one; not_both = not_both; one_limit = one_limit }
