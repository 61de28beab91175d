-- One more term in the map of sizes.
use Rattle.std.specs.Prelude.{ℕ, ◌+◌, ◌≡◌, Bool, true, false, cond, List, [], ◌∷◌, ◌++◌, ℤ, unsigned_abs, if◌then◌else◌, refl}
use Rattle.std.specs.Global.{Vec}
use Rattle.std.specs.BTreeMap.{BTreeMap}
use Rattle.std.specs.Ordering.{nat_cmp, eq_by_cmp, is_eq}
use Rattle.std.specs.Cmp.{nat_cmp_total}
use Rattle.std.specs.FinMap.{nat_cmp-IsAntisymmetric, slice_cmp-IsAntisymmetric, IsAntisymmetric}
use Rattle.std.proofs.Common.{Ordering, Less, Equal, Greater, sym, ap, ◌∙◌, arith}
use Rattle.lie_math.specs.Monomial.{Monomial, powers, monomial_cmp}
use Rattle.lie_math.specs.MonomialOrder.{then_equal}
use Rattle.lie_math.specs.FiniteSumLaws.{same_list}
use Rattle.std.proofs.lemmas.Cmp.{tied_itself}
use Rattle.lie_math.proofs.FiniteSum.{key as same_key}
use Rattle.lie_math.proofs.Monomial.{same_monomial}
use Rattle.lie_math.specs.Polynomial.{terms}
use Rattle.lie_scan.specs.Meaning.{size_of}
use Rattle.lie_scan.specs.Sizes.{pairs_cmp, key_cmp, size_in, AreSizes}

pub size_of-push : (m k : Monomial) (z : ℤ) (ts : List (Monomial × ℤ)) → size_of m (ts ++ (k, z) ∷ []) ≡ size_of m ts + cond (eq_by_cmp monomial_cmp m k) (unsigned_abs z) 0
size_of-push m k z [] = omega arith
size_of-push m k z (t ∷ ts) = let e = size_of-push m k z ts in omega arith

pub equal_from_is_eq : (o : Ordering) → is_eq o ≡ true → o ≡ Equal
equal_from_is_eq Less e = cc
equal_from_is_eq Equal e = refl
equal_from_is_eq Greater e = cc

pub pairs_same : IsAntisymmetric pairs_cmp
pairs_same = slice_cmp-IsAntisymmetric (λ x y e.
    let p = then_equal (nat_cmp x.0 y.0) (nat_cmp x.1 y.1) e in
    let l : x.0 ≡ y.0 = nat_cmp-IsAntisymmetric x.0 y.0 p.0 in
    let r : x.1 ≡ y.1 = nat_cmp-IsAntisymmetric x.1 y.1 p.1 in
    λ i. (l i, r i))

pub pairs_itself : (ps : List (ℕ × ℕ)) → pairs_cmp ps ps ≡ Equal
pairs_itself [] = refl
pairs_itself (p ∷ ps) = rw (tied_itself nat_cmp_total p.0, tied_itself nat_cmp_total p.1) (pairs_itself ps)

-- the key of a monomial ties with the key of another exactly where the monomials are like
ties_like : (key other : Vec (ℕ × ℕ)) (m k : Monomial) → key.items ≡ k.list → other.items ≡ m.list → is_eq (key_cmp key other) ≡ eq_by_cmp monomial_cmp m k
ties_like key other m k at_key at_other = by_case (is_eq (key_cmp key other)) (eq_by_cmp monomial_cmp m k) refl refl
  where
    by_case : (a b : Bool) → is_eq (key_cmp key other) ≡ a → eq_by_cmp monomial_cmp m k ≡ b → a ≡ b
    by_case true true p q = refl
    by_case false false p q = refl
    by_case true false p q =
        let same : k ≡ m = same_list powers k m (sym at_key ∙ pairs_same key.items other.items (equal_from_is_eq (key_cmp key other) p) ∙ at_other) in
        sym (same_monomial m) ∙ ap (eq_by_cmp monomial_cmp m) (sym same) ∙ q
    by_case false true p q =
        let same : m ≡ k = same_key terms m k q in
        let items : key.items ≡ other.items = at_key ∙ ap (λ n. n.list) (sym same) ∙ sym at_other in
        sym p ∙ ap (λ l. is_eq (pairs_cmp key.items l)) (sym items) ∙ ap is_eq (pairs_itself key.items)

pub sizes_step : (old new : BTreeMap (Vec (ℕ × ℕ)) ℕ) (ts : List (Monomial × ℤ)) (key : Vec (ℕ × ℕ)) (m : Monomial) (z : ℤ) (n total : ℕ) → AreSizes old ts → key.items ≡ m.list
    → total ≡ size_in old key + n → unsigned_abs z ≡ n → ((other : Vec (ℕ × ℕ)) → size_in new other ≡ (if is_eq (key_cmp key other) then total else size_in old other)) → AreSizes new (ts ++ (m, z) ∷ [])
sizes_step old new ts key m z n total sizes at_key is_total is_n updates = record {
  size = λ other k at_other.
      updates other ∙ by_case other k (eq_by_cmp monomial_cmp k m) refl at_other ∙ sym (size_of-push k m z ts);
}
  where
    by_case : (other : Vec (ℕ × ℕ)) (k : Monomial) (t : Bool) → eq_by_cmp monomial_cmp k m ≡ t → other.items ≡ k.list
        → (if is_eq (key_cmp key other) then total else size_in old other) ≡ size_of k ts + cond (eq_by_cmp monomial_cmp k m) (unsigned_abs z) 0
    by_case other k true e at_other =
        let same : k ≡ m = same_key terms k m e in
        rw (ties_like key other k m at_key at_other, e, is_total, is_n, sizes.size key m at_key, same) refl
    by_case other k false e at_other =
        rw (ties_like key other k m at_key at_other, e, sizes.size other k at_other) (omega arith)
