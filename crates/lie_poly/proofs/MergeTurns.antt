-- The turns of the merge's loop, over lists that have the first tally last.
use Rattle.std.proofs.Common.{◌≡◌, ◌+◌, ◌<◌, ◌≤◌, ◌^◌, List, [], ◌∷◌, ◌++◌, length, reverse, sym, ap, ap₂, ◌∙◌, subst, subst₂, ℤ, ◌+ℤ◌, Ordering, Less, Equal, Greater}
use Rattle.std.proofs.lemmas.List.{reverse-append, reverse-reverse}
use Rattle.lie_math.specs.Polynomial.{◌+ᴾ◌}
use Rattle.lie_math.specs.Limits.{HasWideCoefficient, HasManyTerms}
use Rattle.lie_poly.specs.declared.tally.Tally.{Tally}
use Rattle.lie_poly.specs.Tallies.{sum_of, bulk_of, Tells, firsts}
use Rattle.lie_poly.proofs.MergeSteps.{State, state_less, full_less, state_greater, full_greater, wide_equal, state_equal, full_equal, state_end}

pub reverse_snoc : {A : Type 0} (xs : List A) (x : A) → reverse (xs ++ x ∷ []) ≡ x ∷ reverse xs
reverse_snoc xs x = reverse-append xs (x ∷ [])

pub same_firsts : {C : Type 0} (o : Ordering) (xs ls ys rs : List (Tally C)) → xs ≡ ls → ys ≡ rs → o ≡ firsts (reverse xs) (reverse ys) → o ≡ firsts (reverse ls) (reverse rs)
same_firsts o xs ls ys rs p q e = e ∙ ap₂ (λ a b. firsts (reverse a) (reverse b)) p q

module _ {C : Type 0} (value : C → ℤ) (out ls rs us vs : List (Tally C)) (s : State value out (reverse ls) (reverse rs) us vs) where
  module _ (rest : List (Tally C)) (x : Tally C) (cut : ls ≡ rest ++ x ∷ []) (e : Less ≡ firsts (reverse ls) (reverse rs)) where
    opened : State value out (x ∷ reverse rest) (reverse rs) us vs
    opened = subst (λ l. State value out l (reverse rs) us vs) (ap reverse cut ∙ reverse_snoc rest x) s

    order : Less ≡ firsts (x ∷ reverse rest) (reverse rs)
    order = e ∙ ap (λ l. firsts l (reverse rs)) (ap reverse cut ∙ reverse_snoc rest x)

    pub turn_less : (new : List (Tally C)) → new ≡ out ++ x ∷ [] → length out < 1000000 → State value new (reverse rest) (reverse rs) us vs
    turn_less new p n = subst (λ o. State value o (reverse rest) (reverse rs) us vs) (sym p) (state_less value out (reverse rest) (reverse rs) us vs x opened order n)

    pub stop_less : 1000000 ≤ length out → HasManyTerms (bulk_of us +ᴾ bulk_of vs)
    stop_less = full_less value out (reverse rest) (reverse rs) us vs x opened order

  module _ (rest : List (Tally C)) (y : Tally C) (cut : rs ≡ rest ++ y ∷ []) (e : Greater ≡ firsts (reverse ls) (reverse rs)) where
    opened_right : State value out (reverse ls) (y ∷ reverse rest) us vs
    opened_right = subst (λ r. State value out (reverse ls) r us vs) (ap reverse cut ∙ reverse_snoc rest y) s

    order_right : Greater ≡ firsts (reverse ls) (y ∷ reverse rest)
    order_right = e ∙ ap (λ r. firsts (reverse ls) r) (ap reverse cut ∙ reverse_snoc rest y)

    pub turn_greater : (new : List (Tally C)) → new ≡ out ++ y ∷ [] → length out < 1000000 → State value new (reverse ls) (reverse rest) us vs
    turn_greater new p n = subst (λ o. State value o (reverse ls) (reverse rest) us vs) (sym p) (state_greater value out (reverse ls) (reverse rest) us vs y opened_right order_right n)

    pub stop_greater : 1000000 ≤ length out → HasManyTerms (bulk_of us +ᴾ bulk_of vs)
    stop_greater = full_greater value out (reverse ls) (reverse rest) us vs y opened_right order_right

  module _ (lrest rrest : List (Tally C)) (x y : Tally C) (lcut : ls ≡ lrest ++ x ∷ []) (rcut : rs ≡ rrest ++ y ∷ []) (e : Equal ≡ firsts (reverse ls) (reverse rs)) where
    opened_both : State value out (x ∷ reverse lrest) (y ∷ reverse rrest) us vs
    opened_both = subst (λ l. State value out l (y ∷ reverse rrest) us vs) (ap reverse lcut ∙ reverse_snoc lrest x) (subst (λ r. State value out (reverse ls) r us vs) (ap reverse rcut ∙ reverse_snoc rrest y) s)

    order_both : Equal ≡ firsts (x ∷ reverse lrest) (y ∷ reverse rrest)
    order_both = e ∙ ap₂ firsts (ap reverse lcut ∙ reverse_snoc lrest x) (ap reverse rcut ∙ reverse_snoc rrest y)

    pub stop_wide : 2 ^ 127 ≤ x.bulk + y.bulk → HasWideCoefficient (bulk_of us +ᴾ bulk_of vs)
    stop_wide = wide_equal value out (reverse lrest) (reverse rrest) us vs x y opened_both order_both

    module _ (z : Tally C) (em : z.mono ≡ x.mono) (ev : value z.sum ≡ value x.sum +ℤ value y.sum) (es : z.bulk ≡ x.bulk + y.bulk) (fits : x.bulk + y.bulk < 2 ^ 127) where
      pub turn_equal : (new : List (Tally C)) → new ≡ out ++ z ∷ [] → length out < 1000000 → State value new (reverse lrest) (reverse rrest) us vs
      turn_equal new p n = subst (λ o. State value o (reverse lrest) (reverse rrest) us vs) (sym p) (state_equal value out (reverse lrest) (reverse rrest) us vs x y opened_both order_both z em ev es fits n)

      pub stop_equal : 1000000 ≤ length out → HasManyTerms (bulk_of us +ᴾ bulk_of vs)
      stop_equal = full_equal value out (reverse lrest) (reverse rrest) us vs x y opened_both order_both z em ev es fits

  pub turns_end : (made : List (Tally C)) → ls ≡ [] → rs ≡ [] → made ≡ reverse out → Tells value (reverse made) (sum_of value us +ᴾ sum_of value vs) (bulk_of us +ᴾ bulk_of vs)
  turns_end made p q e =
      subst (λ o. Tells value o (sum_of value us +ᴾ sum_of value vs) (bulk_of us +ᴾ bulk_of vs)) (sym (ap reverse e ∙ reverse-reverse out))
      (state_end value out us vs (subst₂ (λ l r. State value out l r us vs) (ap reverse p) (ap reverse q) s))
