-- Leads in order: halving, one lead more, and which of them divides a derivative first.
use Rattle.std.specs.Prelude.{◌≡◌, ℕ, zero, suc, ◌+◌, ◌<◌, ◌≤◌, ◌⊎◌, List, [], ◌∷◌, ◌++◌, length, get_or, take, drop}
use Rattle.std.proofs.Common.{sym, ap, subst, ◌∙◌, arith, inl, inr, add-one, ltb, ltb-true, lt-ltb}
use Rattle.std.specs.List.Sorted.{IsPartitionedBy}
use Rattle.std.specs.List.{Any, AllByRecursion as Every}
use Rattle.lie_math.specs.Counts.{Derivative}
use Rattle.lie_math.specs.LinearForm.{LinearForm, no_form}
use Rattle.lie_math.proofs.Decisions.{any_with, any_cases, at_most_or_greater}
use Rattle.lie_math.proofs.EveryElement.{every-weaken, every_both}
use Rattle.lie_math.proofs.SomeElement.{any_head, any_tail, any_right}
use Rattle.lie_systems.specs.Leads.{IsLead}
use Rattle.lie_jet.specs.Derivatives.{derivative_of}
use Rattle.lie_steps.proofs.NormalForms.{lead_unique}
use Rattle.lie_normal.specs.Leads.{GoesBefore, AreOrdered, IsPutBehind, IsLeadBelow, AreLeads, IsNoDivisor, NoneDivides}
use Rattle.lie_normal.specs.declared.leads.PlacedLead.{PlacedLead}

-- ---- lists
module _ {X : Type 0} (P : X → Type 0) where
  one_more_taken : (xs : List X) (i : ℕ) (x : X) → i < length xs → x ≡ get_or xs i x → Every P (take i xs) → P x → Every P (take (suc i) xs)
  one_more_taken [] i x h e t p = absurd (omega arith)
  one_more_taken (y ∷ xs) zero x h e t p = (subst P e p, tt)
  one_more_taken (y ∷ xs) (suc i) x h e t p = (t.0, one_more_taken xs i x (omega arith) e t.1 p)

  pub every_taken : (xs : List X) (i : ℕ) (x : X) → i < length xs → x ≡ get_or xs i x → Every P (take i xs) → P x → Every P (take (i + 1) xs)
  every_taken xs i x h e t p = subst (λ n. Every P (take n xs)) (sym (add-one i)) (one_more_taken xs i x h e t p)

  pub every_cover : (xs : List X) (i k : ℕ) → k ≤ i → Every P (take i xs) → Every P (drop k xs) → Every P xs
  every_cover [] i k h t d = tt
  every_cover (x ∷ xs) i zero h t d = d
  every_cover (x ∷ xs) zero (suc k) h t d = absurd (omega arith)
  every_cover (x ∷ xs) (suc i) (suc k) h t d = (t.0, every_cover xs i k (omega arith) t.1 d)

  pub every_parts : (xs : List X) (i : ℕ) → Every P (take i xs) → Every P (drop i xs) → Every P xs
  every_parts xs i t d = every_cover xs i i (omega arith) t d

-- an element in the list, told by another stand-in for those past it
pub got : {X : Type 0} (xs : List X) (i : ℕ) (x y : X) → i < length xs → x ≡ get_or xs i x → get_or xs i y ≡ x
got [] i x y h e = absurd (omega arith)
got (z ∷ xs) zero x y h e = sym e
got (z ∷ xs) (suc i) x y h e = got xs i x y (omega arith) e

-- ---- halving
goes_below : (n : ℕ) (x y : PlacedLead) → GoesBefore x y → y.lead.unknown < n → x.lead.unknown < n
goes_below n x y (inl h) b = omega arith
goes_below n x y (inr h) b = let e = h.0 in omega arith

goes_at : (x y : PlacedLead) (xs : List PlacedLead) (i : ℕ) → Every (GoesBefore y) xs → i < length xs → GoesBefore y (get_or xs i x)
goes_at x y [] i a h = absurd (omega arith)
goes_at x y (z ∷ xs) zero a h = a.0
goes_at x y (z ∷ xs) (suc i) a h = goes_at x y xs i a.1 (omega arith)

-- the leads of unknowns with lesser numbers stand first
pub lesser_stand_first : (n : ℕ) (xs : List PlacedLead) → AreOrdered xs → IsPartitionedBy (λ (x : PlacedLead). ltb x.lead.unknown n) xs
lesser_stand_first n [] o i j d le lt h = absurd (omega arith)
lesser_stand_first n (y ∷ xs) o zero zero d le lt h = h
lesser_stand_first n (y ∷ xs) o zero (suc j) d le lt h =
    lt-ltb y.lead.unknown n (goes_below n y (get_or xs j d) (goes_at d y xs j o.0 (omega arith)) (ltb-true (get_or xs j d).lead.unknown n h))
lesser_stand_first n (y ∷ xs) o (suc i) zero d le lt h = absurd (omega arith)
lesser_stand_first n (y ∷ xs) o (suc i) (suc j) d le lt h = lesser_stand_first n xs o.1 i j d (omega arith) (omega arith) h

-- what holds before a place, and from there on
module _ {X : Type 0} (P : X → Type 0) where
  pub every_before : (xs : List X) (i : ℕ) → i ≤ length xs → ((k : ℕ) (d : X) → k < i → P (get_or xs k d)) → Every P (take i xs)
  every_before [] zero le h = tt
  every_before [] (suc i) le h = absurd (omega arith)
  every_before (x ∷ xs) zero le h = tt
  every_before (x ∷ xs) (suc i) le h = (h 0 x (omega arith), every_before xs i (omega arith) (λ k d g. h (suc k) d (next k g)))
    where
      next : (k : ℕ) → k < i → suc k < suc i
      next k g = omega arith

  pub every_from : (xs : List X) (i : ℕ) → ((k : ℕ) (d : X) → i ≤ k → k < length xs → P (get_or xs k d)) → Every P (drop i xs)
  every_from [] zero h = tt
  every_from [] (suc i) h = tt
  every_from (x ∷ xs) zero h = (h 0 x (omega arith) (omega arith), every_all xs (λ k d g. h (suc k) d (omega arith) (less k g)))
    where
      less : (k : ℕ) → k < length xs → suc k < length (x ∷ xs)
      less k g = omega arith

      every_all : (ys : List X) → ((k : ℕ) (d : X) → k < length ys → P (get_or ys k d)) → Every P ys
      every_all [] f = tt
      every_all (y ∷ ys) f = (f 0 y (omega arith), every_all ys (λ k d g. f (suc k) d (more k g)))
        where
          more : (k : ℕ) → k < length ys → suc k < length (y ∷ ys)
          more k g = omega arith
  every_from (x ∷ xs) (suc i) h = every_from xs i (λ k d l g. h (suc k) d (later k l) (less k g))
    where
      later : (k : ℕ) → i ≤ k → suc i ≤ suc k
      later k l = omega arith

      less : (k : ℕ) → k < length xs → suc k < length (x ∷ xs)
      less k g = omega arith

-- ---- one lead more
module _ (x : PlacedLead) where
  put_ordered : (xs : List PlacedLead) (i : ℕ) → AreOrdered xs → Every (λ (y : PlacedLead). GoesBefore y x) (take i xs) → Every (GoesBefore x) (drop i xs) → AreOrdered (take i xs ++ x ∷ drop i xs)
  put_ordered [] zero o t d = (tt, tt)
  put_ordered [] (suc i) o t d = (tt, tt)
  put_ordered (y ∷ xs) zero o t d = (d, o)
  put_ordered (y ∷ xs) (suc i) o t d = (within xs i o.0 t.0, put_ordered xs i o.1 t.1 d)
    where
      within : (zs : List PlacedLead) (k : ℕ) → Every (GoesBefore y) zs → GoesBefore y x → Every (GoesBefore y) (take k zs ++ x ∷ drop k zs)
      within [] zero a g = (g, tt)
      within [] (suc k) a g = (g, tt)
      within (z ∷ zs) zero a g = (g, a)
      within (z ∷ zs) (suc k) a g = (a.0, within zs k a.1 g)

  put_every : (P : PlacedLead → Type 0) (xs : List PlacedLead) (i : ℕ) → Every P xs → P x → Every P (take i xs ++ x ∷ drop i xs)
  put_every P [] zero a p = (p, tt)
  put_every P [] (suc i) a p = (p, tt)
  put_every P (y ∷ xs) zero a p = (p, a)
  put_every P (y ∷ xs) (suc i) a p = (a.0, put_every P xs i a.1 p)

  put_kept : (P : PlacedLead → Type 0) (xs : List PlacedLead) (i : ℕ) → Any P xs → Any P (take i xs ++ x ∷ drop i xs)
  put_kept P [] zero a = any_tail P x [] a
  put_kept P [] (suc i) a = any_tail P x [] a
  put_kept P (y ∷ xs) zero a = any_tail P x (y ∷ xs) a
  put_kept P (y ∷ xs) (suc i) a = go (any_cases P y xs a) (put_kept P xs i)
    where
      go : P y ⊎ Any P xs → (Any P xs → Any P (take i xs ++ x ∷ drop i xs)) → Any P (y ∷ (take i xs ++ x ∷ drop i xs))
      go (inl p) rest = any_head P y (take i xs ++ x ∷ drop i xs) p
      go (inr c) rest = any_tail P y (take i xs ++ x ∷ drop i xs) (rest c)

  put_there : (P : PlacedLead → Type 0) (xs : List PlacedLead) (i : ℕ) → P x → Any P (take i xs ++ x ∷ drop i xs)
  put_there P xs i p = any_right P (take i xs) (x ∷ drop i xs) (any_head P x (drop i xs) p)

module _ (Ls : List LinearForm) where
  pub no_leads : AreLeads Ls 0 []
  no_leads = record { ordered = tt; each = tt; all = λ j h n. absurd (omega arith) }

  abbrev HasPlace : ℕ → PlacedLead → Type 0
  HasPlace j x = x.place ≡ j

  each_later : (n : ℕ) (xs : List PlacedLead) → Every (IsLeadBelow Ls n) xs → Every (IsLeadBelow Ls (n + 1)) xs
  each_later n xs a = every-weaken (IsLeadBelow Ls n) (IsLeadBelow Ls (n + 1)) (λ x k. (less x.place k.0, k.1)) xs a
    where
      less : (p : ℕ) → p < n → p < n + 1
      less p h = omega arith

  last_or_before : (n j : ℕ) → j < n + 1 → (j ≡ n) ⊎ (j < n)
  last_or_before n j h = go (at_most_or_greater n j)
    where
      go : (n ≤ j) ⊎ (j < n) → (j ≡ n) ⊎ (j < n)
      go (inl k) = inl (omega arith)
      go (inr k) = inr k

  pub leads_without : (n : ℕ) (xs : List PlacedLead) → AreLeads Ls n xs → get_or Ls n no_form ≡ no_form → AreLeads Ls (n + 1) xs
  leads_without n xs a e = record { ordered = a.ordered; each = each_later n xs a.each; all = λ j h k. go j k (last_or_before n j h) }
    where
      go : (j : ℕ) → ¬ (get_or Ls j no_form ≡ no_form) → (j ≡ n) ⊎ (j < n) → Any (HasPlace j) xs
      go j k (inl q) = absurd (k (ap (λ i. get_or Ls i no_form) q ∙ e))
      go j k (inr q) = a.all j q k

  pub leads_with : (n : ℕ) (xs ys : List PlacedLead) (x : PlacedLead) → AreLeads Ls n xs → x.place ≡ n → IsLead (derivative_of x.lead) (get_or Ls n no_form) → IsPutBehind x xs ys → AreLeads Ls (n + 1) ys
  leads_with n xs ys x a p l b = subst (AreLeads Ls (n + 1)) (sym b.is) (record {
    ordered = put_ordered x xs b.index a.ordered
        (every_both (λ (y : PlacedLead). y.lead.unknown ≤ x.lead.unknown) (IsLeadBelow Ls n) (λ (y : PlacedLead). GoesBefore y x) goes (take b.index xs) b.before (taken b.index xs a.each))
        (every-weaken (λ (y : PlacedLead). x.lead.unknown < y.lead.unknown) (GoesBefore x) (λ y h. inl h) (drop b.index xs) b.behind);
    each = put_every x (IsLeadBelow Ls (n + 1)) xs b.index (each_later n xs a.each) (omega (arith, p), subst (λ i. IsLead (derivative_of x.lead) (get_or Ls i no_form)) (sym p) l);
    all = λ j h k. go j k (last_or_before n j h);
  })
    where
      taken : (i : ℕ) (zs : List PlacedLead) → Every (IsLeadBelow Ls n) zs → Every (IsLeadBelow Ls n) (take i zs)
      taken zero [] h = tt
      taken (suc i) [] h = tt
      taken zero (z ∷ zs) h = tt
      taken (suc i) (z ∷ zs) h = (h.0, taken i zs h.1)

      goes : (y : PlacedLead) → y.lead.unknown ≤ x.lead.unknown → IsLeadBelow Ls n y → GoesBefore y x
      goes y le k = at (at_most_or_greater x.lead.unknown y.lead.unknown)
        where
          at : (x.lead.unknown ≤ y.lead.unknown) ⊎ (y.lead.unknown < x.lead.unknown) → GoesBefore y x
          at (inl g) = inr (omega arith, (let m : y.place < n = k.0 in omega (arith, p)))
          at (inr g) = inl g

      go : (j : ℕ) → ¬ (get_or Ls j no_form ≡ no_form) → (j ≡ n) ⊎ (j < n) → Any (HasPlace j) (take b.index xs ++ x ∷ drop b.index xs)
      go j k (inl q) = put_there x (HasPlace j) xs b.index (p ∙ sym q)
      go j k (inr q) = put_kept x (HasPlace j) xs b.index (a.all j q k)

-- ---- division
pub other_unknown : (d : Derivative) (x : PlacedLead) → ¬ (x.lead.unknown ≡ d.unknown) → IsNoDivisor d x
other_unknown d x n h = n h.unknown

-- those of lesser and of greater unknowns do not divide
pub below_divides : (d : Derivative) (xs : List PlacedLead) → Every (λ (x : PlacedLead). x.lead.unknown < d.unknown) xs → NoneDivides xs d
below_divides d xs a = every-weaken _ (IsNoDivisor d) (λ x h. other_unknown d x (λ e. absurd (omega arith))) xs a

pub beyond_divides : (d : Derivative) (xs : List PlacedLead) → Every (λ (x : PlacedLead). d.unknown + 1 ≤ x.lead.unknown) xs → NoneDivides xs d
beyond_divides d xs a = every-weaken _ (IsNoDivisor d) (λ x h. other_unknown d x (λ e. absurd (omega arith))) xs a

module _ (Ls : List LinearForm) (n : ℕ) (xs : List PlacedLead) (a : AreLeads Ls n xs) (d : Derivative) where
  -- the lead of an equation is listed
  pub listed : (P : PlacedLead → Type 0) → Every P xs → (j : ℕ) → j < n → (l : Derivative) → IsLead l (get_or Ls j no_form) → ¬ (get_or Ls j no_form ≡ no_form)
      → (x : PlacedLead) × P x × (x.place ≡ j) × (derivative_of x.lead ≡ l)
  listed P all j h l is apart =
      let r = any_with (λ (x : PlacedLead). x.place ≡ j) (λ x. P x × IsLeadBelow Ls n x) xs (every_both P (IsLeadBelow Ls n) _ (λ x p q. (p, q)) xs all a.each) (a.all j h apart) in
      (r.0, (r.1).0, r.2, lead_unique (get_or Ls j no_form) (derivative_of (r.0).lead) l (subst (λ i. IsLead (derivative_of (r.0).lead) (get_or Ls i no_form)) r.2 ((r.1).1).1) is)
