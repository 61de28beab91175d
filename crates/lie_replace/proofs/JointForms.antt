-- Forms of one action: the limits of each, and the triples of all.
use Rattle.std.specs.Prelude.{◌≡◌, ℕ, zero, suc, ◌+◌, ◌<◌, ◌≤◌, List, [], ◌∷◌, ◌++◌, map, length, take, get_or}
use Rattle.std.proofs.Common.{sym, ap, subst, ◌∙◌, arith}
use Rattle.std.proofs.lemmas.List.{map-append}
use Rattle.std.specs.List.{AllByRecursion as Every, Any}
use Rattle.lie_math.specs.LinearForm.{LinearForm}
use Rattle.lie_math.proofs.EveryElement.{every-append}
use Rattle.lie_math.proofs.SomeElement.{any_head, any_tail}
use Rattle.lie_systems.specs.Bulk.{HasWideNumber, HasHighExponent, HasHighOrder, IsFormWithinLimits, triple_count_of_all}
use Rattle.lie_systems.specs.Triples.{triples}
use Rattle.lie_ring.specs.declared.failures.PastKind.TheVariants.{Coefficient, Exponent, Terms, Order, Unknowns, Width}
use Rattle.lie_ring.specs.declared.failures.PolyFail.{PolyFail}
use Rattle.lie_ring.specs.declared.failures.PolyFail.TheVariants.{Past, NoMemory}
use Rattle.lie_ring.proofs.Fronts.{take_more}
use Rattle.lie_form.specs.FormLimits.{IsFormCause}
use Rattle.lie_replace.specs.Replacing.{IsJointCause}

pub triples-append : (xs ys : List LinearForm) → triple_count_of_all (xs ++ ys) ≡ triple_count_of_all xs + triple_count_of_all ys
triples-append [] ys = nothing (triple_count_of_all ys)
  where
    nothing : (n : ℕ) → n ≡ 0 + n
    nothing n = omega arith
triples-append (x ∷ xs) ys = ap (λ n. length (triples x) + n) (triples-append xs ys) ∙ regroup (length (triples x)) (triple_count_of_all xs) (triple_count_of_all ys)
  where
    regroup : (a b c : ℕ) → a + (b + c) ≡ a + b + c
    regroup a b c = omega arith

module _ (m b : LinearForm → LinearForm) (forms : List LinearForm) (k : ℕ) (x : LinearForm) (lt : k < length forms) (is : x ≡ get_or forms k x) where
  mapped : (f : LinearForm → LinearForm) → map f (take (k + 1) forms) ≡ map f (take k forms) ++ f x ∷ []
  mapped f = ap (map f) (sym (take_more forms k x lt is)) ∙ map-append f (take k forms) (x ∷ [])

  pub all_more : (xs ys : List LinearForm) (y : LinearForm) → ys ≡ xs ++ y ∷ [] → y ≡ m x → xs ≡ map m (take k forms) → ys ≡ map m (take (k + 1) forms)
  all_more xs ys y e h all = e ∙ ap (λ z. xs ++ z ∷ []) h ∙ ap (λ zs. zs ++ m x ∷ []) all ∙ sym (mapped m)

  pub count_more : (count size : ℕ) → size ≡ length (triples (b x)) → count ≡ triple_count_of_all (map b (take k forms)) → count + size ≡ triple_count_of_all (map b (take (k + 1) forms))
  count_more count size s c =
      let e = ap triple_count_of_all (mapped b) ∙ triples-append (map b (take k forms)) (b x ∷ []) in
      let o : triple_count_of_all (b x ∷ []) ≡ length (triples (b x)) = one (length (triples (b x))) in omega arith
    where
      one : (n : ℕ) → n + 0 ≡ n
      one n = omega arith

  pub within_more : IsFormWithinLimits (b x) → Every IsFormWithinLimits (map b (take k forms)) → Every IsFormWithinLimits (map b (take (k + 1) forms))
  within_more w h = subst (Every IsFormWithinLimits) (sym (mapped b)) (every-append IsFormWithinLimits (map b (take k forms)) (b x ∷ []) h (w, tt))

pub taken_few : (b : LinearForm → LinearForm) (forms : List LinearForm) (k : ℕ) → triple_count_of_all (map b (take k forms)) ≤ triple_count_of_all (map b forms)
taken_few b [] zero = omega arith
taken_few b [] (suc k) = omega arith
taken_few b (x ∷ forms) zero = omega arith
taken_few b (x ∷ forms) (suc k) = let h = taken_few b forms k in omega arith

one_few : (b : LinearForm → LinearForm) (forms : List LinearForm) (k : ℕ) (x : LinearForm) → k < length forms → x ≡ get_or forms k x → length (triples (b x)) ≤ triple_count_of_all (map b forms)
one_few b [] k x h e = absurd (omega arith)
one_few b (y ∷ forms) zero x h e = let s : length (triples (b x)) ≡ length (triples (b y)) = ap (λ z. length (triples (b z))) e in omega arith
one_few b (y ∷ forms) (suc k) x h e = let r = one_few b forms k x (omega arith) e in omega arith

some_form : (P : LinearForm → Type 0) (b : LinearForm → LinearForm) (forms : List LinearForm) (k : ℕ) (x : LinearForm) → k < length forms → x ≡ get_or forms k x → P (b x) → Any P (map b forms)
some_form P b [] k x h e p = absurd (omega arith)
some_form P b (y ∷ forms) zero x h e p = any_head P (b y) (map b forms) (subst (λ z. P (b z)) e p)
some_form P b (y ∷ forms) (suc k) x h e p = any_tail P (b y) (map b forms) (some_form P b forms k x (omega arith) e p)

-- a cause of one bulk is one of all
pub joint_cause : (fail : PolyFail) (b : LinearForm → LinearForm) (forms : List LinearForm) (k : ℕ) (x : LinearForm) → k < length forms → x ≡ get_or forms k x → IsFormCause fail (b x) → IsJointCause fail (map b forms)
joint_cause (Past Coefficient) b forms k x h e c = some_form HasWideNumber b forms k x h e c
joint_cause (Past Exponent) b forms k x h e c = some_form HasHighExponent b forms k x h e c
joint_cause (Past Terms) b forms k x h e c = let l = one_few b forms k x h e in omega arith
joint_cause (Past Order) b forms k x h e c = some_form HasHighOrder b forms k x h e c
joint_cause (Past Unknowns) b forms k x h e c = absurd c
joint_cause (Past Width) b forms k x h e c = absurd c
joint_cause NoMemory b forms k x h e c = tt
