-- What steps leave, tidied: told by the elements of its equations, and the triples of it.
use Rattle.std.specs.Prelude.{◌≡◌, ℕ, ◌+◌, ◌≤◌, ◌↔◌, List, OnOk, OnErr, Ok, Err}
use Rattle.std.specs.declared.result.Result.{Result}
use Rattle.std.proofs.Common.{refl, sym, ap, subst, ◌∙◌}
use Rattle.std.specs.List.{Contains}
use Rattle.lie_math.specs.LinearForm.{LinearForm}
use Rattle.lie_math.specs.LinearSystem.{LinearSystem}
use Rattle.lie_math.specs.Limits.{greatest_term_count}
use Rattle.lie_systems.specs.Bulk.{triple_count_of_all}
use Rattle.lie_systems.specs.ValidSystems.{IsValid}
use Rattle.lie_systems.specs.Works.{Made, Triples, IsMadeWithin, IsWorkWithin}
use Rattle.lie_ring.specs.declared.failures.PolyFail.{PolyFail}
use Rattle.lie_lin.specs.Systems.{with_equations}
use Rattle.lie_normal.specs.WorkCauses.{IsWorkCause}
use Rattle.lie_normal.proofs.WorkSteps.{work_weaken}
use Rattle.lie_steps.specs.Tidying.{IsTidied, IsTidySystem}
use Rattle.lie_steps.proofs.Tidied.{tidied_unique}
use Rattle.lie_change.specs.Ends.{EndMakes, StaysValid}
use Rattle.lie_change.specs.Lists.{TidiedMakes}
use Rattle.lie_change.proofs.TidiedLists.{tidied_same}

-- ---- the triples of what is left
pub tidied_within : (Es Gs Ns : List LinearForm) → IsTidied Es Ns → triple_count_of_all Ns + triple_count_of_all Gs ≤ greatest_term_count
    → IsWorkWithin (TidiedMakes Es Gs)
tidied_within Es Gs Ns h le b m =
    subst IsMadeWithin (sym m.2) (subst (λ Ms. triple_count_of_all Ms + triple_count_of_all Gs ≤ greatest_term_count)
    (tidied_unique Es Ns m.0 h m.1) le)

pub tidied_cause : (Es Gs Ns : List LinearForm) (fail : PolyFail) → IsTidied Es Ns
    → IsWorkCause fail (λ b. b ≡ Triples (triple_count_of_all Ns + triple_count_of_all Gs)) → IsWorkCause fail (TidiedMakes Es Gs)
tidied_cause Es Gs Ns fail h c = work_weaken fail (λ b e. (Ns, h, e)) c

-- ---- of a system
tidied_of : (X : LinearSystem) (b : Made) → TidiedMakes X.equations X.general b → EndMakes X b
tidied_of X b m = (with_equations X m.0, record { unknowns = refl; equations = m.1; general = refl; next = refl }, m.2)

of_tidied : (X : LinearSystem) (b : Made) → EndMakes X b → TidiedMakes X.equations X.general b
of_tidied X b m = (
  (m.0).equations,
  (m.1).equations,
  m.2 ∙ ap (λ Gs. Triples (triple_count_of_all (m.0).equations + triple_count_of_all Gs))
      (m.1).general,
)

pub end_within : (X : LinearSystem) → IsWorkWithin (TidiedMakes X.equations X.general) → IsWorkWithin (EndMakes X)
end_within X h b m = h b (of_tidied X b m)

pub end_cause : (X : LinearSystem) (fail : PolyFail) → IsWorkCause fail (TidiedMakes X.equations X.general) → IsWorkCause fail (EndMakes X)
end_cause X fail c = work_weaken fail (tidied_of X) c

-- ---- systems that differ in the order of their equations, or in doubles
pub record IsAlike (X Y : LinearSystem) : Type 0 where
  pub unknowns : X.unknowns ≡ Y.unknowns
  pub equations : (E : LinearForm) → Contains X.equations E ↔ Contains Y.equations E
  pub general : X.general ≡ Y.general
  pub next : X.next ≡ Y.next

pub alike_turned : (X Y : LinearSystem) → IsAlike X Y → IsAlike Y X
alike_turned X Y a = record {
  unknowns = sym a.unknowns;
  equations = λ E.
      ((a.equations E).1, (a.equations E).0);
  general = sym a.general;
  next = sym a.next;
}

pub tidy_alike : (X Y T : LinearSystem) → IsAlike X Y → IsTidySystem X T → IsTidySystem Y T
tidy_alike X Y T a h = record {
  unknowns = h.unknowns ∙ a.unknowns;
  equations = tidied_same X.equations Y.equations T.equations a.equations h.equations;
  general = h.general ∙ a.general;
  next = h.next ∙ a.next;
}

pub valid_alike : (n : ℕ) (X Y : LinearSystem) → IsAlike X Y → StaysValid n Y → StaysValid n X
valid_alike n X Y a s T h = s T (tidy_alike X Y T a h)

pub end_alike : (X Y : LinearSystem) → IsAlike X Y → (b : Made) → EndMakes X b → EndMakes Y b
end_alike X Y a b m = (m.0, tidy_alike X Y m.0 a m.1, m.2)

-- ---- what is valid
-- equations that were tidied, or that are as they were
pub valid_either : {A B : Type 0} (n : ℕ) (S : LinearSystem) (Es Ns : List LinearForm) (r : Result A B) → IsValid n S
    → StaysValid n (with_equations S Es) → OnOk r (IsTidied Es Ns) → OnErr r (Ns ≡ S.equations) → IsValid n (with_equations S Ns)
valid_either n S Es Ns (Ok x) v s h k = s (with_equations S Ns) (record { unknowns = refl; equations = h; general = refl; next = refl })
valid_either n S Es Ns (Err x) v s h k = subst (λ Ms. IsValid n (with_equations S Ms)) (sym k) v
