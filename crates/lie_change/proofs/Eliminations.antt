-- The elimination of an unknown: from the parts as they are made to the system that is left and its work.
use Rattle.std.specs.Prelude.{◌≡◌, ℕ, ◌+◌, ◌<◌, Bool, true, false, List, ◌++◌, map, filter, length, get_or, remove}
use Rattle.std.proofs.Common.{sym, ap, ap₂, subst, ◌∙◌}
use Rattle.std.specs.List.{AllByRecursion as Every, Contains, list_any}
use Rattle.std.proofs.lemmas.List.{length-map}
use Rattle.lie_math.specs.LinearForm.{LinearForm, no_form}
use Rattle.lie_math.specs.LinearSystem.{LinearSystem}
use Rattle.lie_systems.specs.Works.{IsWorkWithin}
use Rattle.lie_ring.specs.declared.failures.PolyFail.{PolyFail}
use Rattle.lie_lin.specs.Systems.{system_of, unknown_of}
use Rattle.lie_lin.specs.declared.system.Unknown as kept
use Rattle.lie_normal.specs.WorkCauses.{IsWorkCause}
use Rattle.lie_steps.specs.Equations.{mentions}
use Rattle.lie_steps.specs.Replacement.{put_in, without, unknowns_after, replaced_made, all_replaced_made}
use Rattle.lie_change.specs.Ends.{EliminationMakes}
use Rattle.lie_change.specs.Lists.{unmentioned, general_after, left_by}
use Rattle.lie_change.proofs.FreeForms.{forms_free}
use Rattle.lie_change.proofs.ReplacedWorks.{equations_cause, general_forms_cause, general_stays, none_within, left_alike}
use Rattle.lie_change.proofs.SystemEnds.{IsAlike}

-- the unknowns after it as they are made of those before it, and as they are handed on
module _ (S : LinearSystem) (i f : ℕ) (W : LinearForm) (L : ℕ) (fresh us listed before : List kept.Unknown)
    (made : map unknown_of us ≡ without f (map unknown_of before) ++ map unknown_of fresh) (are : map unknown_of before ≡ S.unknowns)
    (handed : listed ≡ us) where
  after : map unknown_of us ≡ unknowns_after S f (map unknown_of fresh)
  after = made ∙ ap (λ vs. without f vs ++ map unknown_of fresh) are

  pub listed_after : map unknown_of listed ≡ unknowns_after S f (map unknown_of fresh)
  listed_after = ap (map unknown_of) handed ∙ after

  -- ---- the equations
  module _ (es : List LinearForm) (all : es ≡ S.equations) where
    pub equations_past : (X : LinearSystem) (fail : PolyFail)
        → IsWorkCause fail (Contains (replaced_made (map unknown_of listed) f W L (remove es i)))
        → IsWorkCause fail (EliminationMakes S i f W L (map unknown_of fresh) X)
    equations_past X fail c =
        equations_cause S i f W L (map unknown_of fresh) (map unknown_of listed) listed_after X fail
        (subst (λ xs. IsWorkCause fail (Contains (replaced_made (map unknown_of listed) f W L (remove xs i)))) all c)

    pub equations_fit : IsWorkWithin (Contains (replaced_made (map unknown_of listed) f W L (remove es i)))
        → IsWorkWithin (Contains (replaced_made (map unknown_of listed) f W L (remove S.equations i)))
    equations_fit h = subst (λ xs. IsWorkWithin (Contains (replaced_made (map unknown_of listed) f W L (remove xs i)))) all h

    module _ (forms items : List LinearForm) (slice : forms ≡ items)
        (put : items ≡ map (put_in (map unknown_of listed) f W L) (filter (mentions f) (remove es i))) where
      pub forms_are_free : mentions f W ≡ false → Every (λ E. mentions f E ≡ false) forms
      forms_are_free free = subst (Every (λ E. mentions f E ≡ false)) (sym (slice ∙ put))
          (forms_free f (map unknown_of listed) W free L (filter (mentions f) (remove es i)))

      forms_are : forms ≡ map (put_in (map unknown_of us) f W L) (filter (mentions f) (remove S.equations i))
      forms_are = slice ∙ put ∙ ap₂ (λ vs xs. map (put_in vs f W L) (filter (mentions f) (remove xs i))) (ap (map unknown_of) handed) all

      module _ (divided : Bool) (lt : i < length S.equations) (own : mentions f (get_or S.equations i no_form) ≡ true) (next : ℕ)
          (n : next ≡ S.next) (gs : List LinearForm) (general_all : gs ≡ S.general) where
        later : next + length fresh ≡ S.next + length (map unknown_of fresh)
        later = ap₂ ◌+◌ n (sym (length-map fresh unknown_of))

        -- where one of the general forms has the unknown
        pub some_alike : (general : List LinearForm) → general ≡ general_after divided (map unknown_of listed) f W L gs
            → IsAlike (system_of us (unmentioned f S.equations ++ forms) general (next + length fresh))
            (left_by divided S i f W L (map unknown_of fresh))
        some_alike general g =
            left_alike S i f W L (map unknown_of fresh) (map unknown_of us) after divided forms general
            (next + length fresh) lt own forms_are
            (g ∙ ap₂ (λ vs xs. general_after divided vs f W L xs) (ap (map unknown_of) handed) general_all) later

        -- where none of them has it
        pub none_alike : list_any (mentions f) gs ≡ false
            → IsAlike (system_of us (unmentioned f S.equations ++ forms) S.general (next + length fresh))
            (left_by divided S i f W L (map unknown_of fresh))
        none_alike e =
            left_alike S i f W L (map unknown_of fresh) (map unknown_of us) after divided forms S.general
            (next + length fresh) lt own forms_are
            (general_stays S i f W L (map unknown_of fresh) (map unknown_of us) after divided
            (ap (list_any (mentions f)) (sym general_all) ∙ e)) later

  -- ---- the general forms
  module _ (gs : List LinearForm) (general_all : gs ≡ S.general) where
    pub general_past : (X : LinearSystem) (fail : PolyFail) → IsWorkCause fail
        (Contains (all_replaced_made (map unknown_of listed) f W L gs))
        → IsWorkCause fail (EliminationMakes S i f W L (map unknown_of fresh) X)
    general_past X fail c =
        general_forms_cause S i f W L (map unknown_of fresh) (map unknown_of listed) listed_after X fail
        (subst (λ xs. IsWorkCause fail (Contains (all_replaced_made (map unknown_of listed) f W L xs))) general_all c)

    pub general_fit : IsWorkWithin (Contains (all_replaced_made (map unknown_of listed) f W L gs))
        → IsWorkWithin (Contains (all_replaced_made (map unknown_of listed) f W L S.general))
    general_fit h = subst (λ xs. IsWorkWithin (Contains (all_replaced_made (map unknown_of listed) f W L xs))) general_all h

    pub general_none : list_any (mentions f) gs ≡ false → IsWorkWithin
        (Contains (all_replaced_made (map unknown_of listed) f W L S.general))
    general_none e = none_within (map unknown_of listed) f W L S.general (ap (list_any (mentions f)) (sym general_all) ∙ e)
