-- The triples of forms, counted one form after the other.
use Rattle.std.specs.Prelude.{◌≡◌, ℕ, suc, ◌+◌, ◌-◌, ◌<◌, ◌≤◌, IfOk, IfErr, OnOk, Ok, Err, not, List, [], ◌∷◌, ◌++◌}
use Rattle.std.specs.Prelude.{length, take, drop, get_or, remove}
use Rattle.std.specs.declared.result.Result.{Result}
use Rattle.std.proofs.Common.{refl, sym, ap, subst, ◌∙◌, arith, add-one}
use Rattle.std.proofs.lemmas.List.{take_rest, take-append-drop}
use Rattle.std.proofs.lemmas.List.Elements.{filter-append}
use Rattle.lie_math.specs.LinearForm.{LinearForm}
use Rattle.lie_math.specs.Limits.{greatest_term_count}
use Rattle.lie_systems.specs.Bulk.{triple_count_of_all}
use Rattle.lie_systems.specs.Triples.{triples}
use Rattle.lie_systems.specs.Works.{Limit, OnCoefficients, OnExponents, OnTerms, OnOrders, OnUnknowns, OnWidth, Triples, IsMadePast}
use Rattle.lie_ring.specs.declared.failures.PastKind.TheVariants.{Terms}
use Rattle.lie_ring.specs.declared.failures.PolyFail.{PolyFail}
use Rattle.lie_ring.specs.declared.failures.PolyFail.TheVariants.{Past, NoMemory}
use Rattle.lie_ring.proofs.Fronts.{take_more}
use Rattle.lie_normal.specs.WorkCauses.{limit_of, IsWorkCause}
use Rattle.lie_replace.proofs.JointForms.{triples-append}
use Rattle.lie_change.specs.Lists.{unmentioned}
use Rattle.lie_steps.specs.Equations.{mentions}

-- ---- causes
more_past : (limit : Limit) (m n : ℕ) → m ≤ n → IsMadePast limit (Triples m) → IsMadePast limit (Triples n)
more_past OnCoefficients m n le h = h
more_past OnExponents m n le h = h
more_past OnTerms m n le h = more le h
  where
    more : {a b : ℕ} → a ≤ b → greatest_term_count < a → greatest_term_count < b
    more h k = omega arith
more_past OnOrders m n le h = h
more_past OnUnknowns m n le h = h
more_past OnWidth m n le h = h

pub count_cause : (fail : PolyFail) (m n : ℕ) → m ≤ n → IsWorkCause fail (λ b. b ≡ Triples m) → IsWorkCause fail (λ b. b ≡ Triples n)
count_cause (Past kind) m n le c = (Triples n, refl, more_past (limit_of kind) m n le (subst (IsMadePast (limit_of kind)) c.1 c.2))
count_cause NoMemory m n le c = tt

-- ---- counts
one_count : (E : LinearForm) → triple_count_of_all (E ∷ []) ≡ length (triples E)
one_count E = one (length (triples E))
  where
    one : (n : ℕ) → n + 0 ≡ n
    one n = omega arith

counted_more : (xs : List LinearForm) (i : ℕ) (x : LinearForm) → i < length xs → x ≡ get_or xs i x
    → triple_count_of_all (take (i + 1) xs) ≡ triple_count_of_all (take i xs) + length (triples x)
counted_more xs i x lt is = ap triple_count_of_all (sym (take_more xs i x lt is)) ∙ triples-append (take i xs) (x ∷ [])
    ∙ ap (λ n. triple_count_of_all (take i xs) + n) (one_count x)

pub count_more : (before now next : ℕ) (xs : List LinearForm) (i : ℕ) (x : LinearForm) → i < length xs → x ≡ get_or xs i x
    → now ≡ before + triple_count_of_all (take i xs) → next ≡ now + length (triples x)
    → next ≡ before + triple_count_of_all (take (i + 1) xs)
count_more before now next xs i x lt is e f = let c = counted_more xs i x lt is in omega arith

-- a front is counted before the whole
front_few : (xs : List LinearForm) (i : ℕ) → triple_count_of_all (take i xs) ≤ triple_count_of_all xs
front_few xs i = few (triple_count_of_all (take i xs)) (triple_count_of_all (drop i xs)) (triple_count_of_all xs)
    (ap triple_count_of_all (sym (take-append-drop i xs)) ∙ triples-append (take i xs) (drop i xs))
  where
    few : (a b c : ℕ) → c ≡ a + b → a ≤ c
    few a b c e = omega arith

pub turn_few : (before now : ℕ) (xs : List LinearForm) (i : ℕ) (x : LinearForm) → i < length xs → x ≡ get_or xs i x
    → now ≡ before + triple_count_of_all (take i xs) → now + length (triples x) ≤ before + triple_count_of_all xs
turn_few before now xs i x lt is e = let c = counted_more xs i x lt is in let f = front_few xs (i + 1) in omega arith

-- ---- without an unknown
unmentioned_more : (f : ℕ) (xs : List LinearForm) (i : ℕ) (x : LinearForm) → i < length xs → x ≡ get_or xs i x
    → unmentioned f (take (i + 1) xs) ≡ unmentioned f (take i xs) ++ unmentioned f (x ∷ [])
unmentioned_more f xs i x lt is = ap (unmentioned f) (sym (take_more xs i x lt is))
    ∙ filter-append (λ E. not (mentions f E)) (take i xs) (x ∷ [])

others_counted : (f : ℕ) (xs : List LinearForm) (i : ℕ) (x : LinearForm) → i < length xs → x ≡ get_or xs i x
    → triple_count_of_all (unmentioned f (take (i + 1) xs)) ≡ triple_count_of_all (unmentioned f (take i xs)) + triple_count_of_all
    (unmentioned f (x ∷ []))
others_counted f xs i x lt is = ap triple_count_of_all (unmentioned_more f xs i x lt is)
    ∙ triples-append (unmentioned f (take i xs)) (unmentioned f (x ∷ []))

pub others_more : (f now next : ℕ) (xs : List LinearForm) (i : ℕ) (x : LinearForm) → i < length xs → x ≡ get_or xs i x
    → now ≡ triple_count_of_all (unmentioned f (take i xs)) → next ≡ now + triple_count_of_all (unmentioned f (x ∷ []))
    → next ≡ triple_count_of_all (unmentioned f (take (i + 1) xs))
others_more f now next xs i x lt is e g = let c = others_counted f xs i x lt is in omega arith

others_few : (f : ℕ) (xs : List LinearForm) (i : ℕ) → triple_count_of_all (unmentioned f (take i xs)) ≤ triple_count_of_all
    (unmentioned f xs)
others_few f xs i =
    few (triple_count_of_all (unmentioned f (take i xs))) (triple_count_of_all (unmentioned f (drop i xs)))
    (triple_count_of_all (unmentioned f xs))
    (ap (λ ys. triple_count_of_all (unmentioned f ys)) (sym (take-append-drop i xs))
    ∙ ap triple_count_of_all (filter-append (λ E. not (mentions f E)) (take i xs) (drop i xs))
    ∙ triples-append (unmentioned f (take i xs)) (unmentioned f (drop i xs)))
  where
    few : (a b c : ℕ) → c ≡ a + b → a ≤ c
    few a b c e = omega arith

pub others_turn_few : (f now rest : ℕ) (xs : List LinearForm) (i : ℕ) (x : LinearForm) → i < length xs → x ≡ get_or xs i x
    → now ≡ triple_count_of_all (unmentioned f (take i xs)) → now + triple_count_of_all (unmentioned f (x ∷ [])) ≤ triple_count_of_all
    (unmentioned f xs) + rest
others_turn_few f now rest xs i x lt is e = let c = others_counted f xs i x lt is in let g = others_few f xs (i + 1) in omega arith

-- ---- without a place
removed_count : (xs : List LinearForm) (k : ℕ) → triple_count_of_all (remove xs k) ≡ triple_count_of_all (take k xs) + triple_count_of_all
    (drop (suc k) xs)
removed_count xs k = triples-append (take k xs) (drop (suc k) xs)

-- what stands before the place, what stands behind it, and other forms
pub parts_counted : (xs : List LinearForm) (k before : ℕ) → before ≡ 0 + triple_count_of_all (take k xs)
    → before + triple_count_of_all (take (length xs - (k + 1)) (drop (k + 1) xs)) ≡ triple_count_of_all (remove xs k)
parts_counted xs k before e = sum before (triple_count_of_all (take k xs)) _ _ (triple_count_of_all (remove xs k)) e
    (ap triple_count_of_all (take_rest xs (k + 1) ∙ ap (λ i. drop i xs) (add-one k))) (removed_count xs k)
  where
    sum : (b t r d w : ℕ) → b ≡ 0 + t → r ≡ d → w ≡ t + d → b + r ≡ w
    sum b t r d w e f g = omega arith

pub before_few : (xs : List LinearForm) (k rest : ℕ) → 0 + triple_count_of_all (take k xs) ≤ triple_count_of_all (remove xs k) + rest
before_few xs k rest = few (triple_count_of_all (take k xs)) (triple_count_of_all (drop (suc k) xs))
    (triple_count_of_all (remove xs k)) rest (removed_count xs k)
  where
    few : (t d w r : ℕ) → w ≡ t + d → 0 + t ≤ w + r
    few t d w r e = omega arith

pub parts_few : (m n rest : ℕ) → m ≡ n → m ≤ n + rest
parts_few m n rest e = omega arith

-- ---- a count that is the answer
pub few_counted : (r : Result ℕ PolyFail) (m n : ℕ) → m ≡ n → IfOk r (λ count. count ≡ m) → IfOk r (λ count. count ≤ greatest_term_count)
    → OnOk r (n ≤ greatest_term_count)
few_counted (Ok count) m n e h k = omega arith
few_counted (Err fail) m n e h k = tt

pub past_counted : (r : Result ℕ PolyFail) (m n : ℕ) → m ≡ n → IfErr r (λ fail. IsWorkCause fail (λ b. b ≡ Triples m))
    → IfErr r (λ fail. IsWorkCause fail (λ b. b ≡ Triples n))
past_counted r m n e h = subst (λ k. IfErr r (λ fail. IsWorkCause fail (λ b. b ≡ Triples k))) e h

-- ---- a limit that is passed
pub past_count : (n : ℕ) → greatest_term_count < n → IsWorkCause (Past Terms) (λ b. b ≡ Triples n)
past_count n h = (Triples n, refl, h)
