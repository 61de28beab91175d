-- Actions that are done one after the other: those that are left, and the cause of a failure.
use Rattle.std.specs.Prelude.{◌≡◌, List, [], ◌∷◌, ◌++◌}
use Rattle.std.proofs.Common.{refl, sym, subst, ◌∙◌, append_assoc, append-nil}
use Rattle.std.specs.List.{AllByRecursion as Every, Contains}
use Rattle.std.proofs.lemmas.List.Elements.{Contains-append_right}
use Rattle.lie_math.proofs.ContainedElements.{contains_first}
use Rattle.lie_math.proofs.EveryElement.{every-append, every_contained}
use Rattle.lie_systems.specs.Works.{Made, AForm, IsMadeWithin, IsWorkWithin}
use Rattle.lie_math.specs.LinearForm.{LinearForm}
use Rattle.lie_ring.specs.declared.failures.PolyFail.{PolyFail}
use Rattle.lie_ring.specs.declared.failures.PolyFail.TheVariants.{Past, NoMemory}
use Rattle.lie_ring.specs.declared.failures.PastKind.TheVariants.{Coefficient, Exponent, Terms, Order, Unknowns, Width}
use Rattle.lie_poly.specs.Failures.{IsStarved}
use Rattle.lie_form.specs.FormLimits.{IsFormCause}
use Rattle.lie_normal.specs.WorkCauses.{IsWorkCause}

-- of the actions some are within the limits, and the rest is left
pub record IsLeft (all rest : List Made) : Type 0 where
  pub done : List Made
  pub within : Every IsMadeWithin done
  pub parts : all ≡ done ++ rest

pub left_all : (all : List Made) → IsLeft all all
left_all all = record { done = []; within = tt; parts = refl }

pub left_same : (all rest more : List Made) → IsLeft all rest → rest ≡ more → IsLeft all more
left_same all rest more h e = subst (IsLeft all) e h

pub left_later : (all some rest : List Made) → IsLeft all (some ++ rest) → Every IsMadeWithin some → IsLeft all rest
left_later all some rest h w = record {
  done = h.done ++ some;
  within = every-append IsMadeWithin h.done some h.within w;
  parts = h.parts ∙ sym (append_assoc h.done some rest);
}

pub left_next : (all rest : List Made) (b : Made) → IsLeft all (b ∷ rest) → IsMadeWithin b → IsLeft all rest
left_next all rest b h w = left_later all (b ∷ []) rest h (w, tt)

pub left_none : (all : List Made) → IsLeft all [] → Every IsMadeWithin all
left_none all h = subst (Every IsMadeWithin) (sym (h.parts ∙ append-nil h.done)) h.within

-- ---- causes
pub work_weaken : {P Q : Made → Type 0} (fail : PolyFail) → ((b : Made) → P b → Q b) → IsWorkCause fail P → IsWorkCause fail Q
work_weaken (Past kind) f h = (h.0, f h.0 h.1, h.2)
work_weaken NoMemory f h = tt

pub starved_work : (P : Made → Type 0) (fail : PolyFail) → IsStarved fail → IsWorkCause fail P
starved_work P (Past kind) h = absurd h
starved_work P NoMemory h = tt

pub form_work : (P : Made → Type 0) (fail : PolyFail) (E : LinearForm) → P (AForm E) → IsFormCause fail E → IsWorkCause fail P
form_work P (Past Coefficient) E p h = (AForm E, p, h)
form_work P (Past Exponent) E p h = (AForm E, p, h)
form_work P (Past Terms) E p h = (AForm E, p, h)
form_work P (Past Order) E p h = (AForm E, p, h)
form_work P (Past Unknowns) E p h = absurd h
form_work P (Past Width) E p h = absurd h
form_work P NoMemory E p h = tt

pub left_contains : (all rest : List Made) → IsLeft all rest → (b : Made) → Contains rest b → Contains all b
left_contains all rest h b c = subst (λ bs. Contains bs b) (sym h.parts) (Contains-append_right h.done rest b c)

pub all_within : (all : List Made) → Every IsMadeWithin all → IsWorkWithin (Contains all)
all_within all h b c = every_contained IsMadeWithin all b h c

pub every_within : (all : List Made) → IsWorkWithin (Contains all) → Every IsMadeWithin all
every_within [] h = tt
every_within (b ∷ bs) h = (h b (contains_first b bs), every_within bs (λ c k. h c (later c k)))
  where
    later : (c : Made) → Contains bs c → Contains (b ∷ bs) c
    later c k = Contains-append_right (b ∷ []) bs c k

-- ---- actions and then one more
pub within_more : (bs : List Made) (b : Made) → IsWorkWithin (Contains bs) → IsMadeWithin b → IsWorkWithin (Contains (bs ++ b ∷ []))
within_more bs b h w = all_within (bs ++ b ∷ []) (every-append IsMadeWithin bs (b ∷ []) (every_within bs h) (w, tt))

pub last_contained : (bs : List Made) (b : Made) → Contains (bs ++ b ∷ []) b
last_contained bs b = Contains-append_right bs (b ∷ []) b (contains_first b [])
