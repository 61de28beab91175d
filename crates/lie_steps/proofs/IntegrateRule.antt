-- An equation solved for a derivative by one variable: the unknown is the integral of the rest and low powers times fresh unknowns, over a number.
use Rattle.std.specs.Prelude.{◌≡◌, ℕ, zero, suc, ◌+◌, ◌<◌, ◌≤◌, true, false, cond, List, [], ◌∷◌, map, drop, get_or, ℤ, pos, negsuc, ltb}
use Rattle.std.proofs.Common.{refl, sym, ap, ap₂, subst, ◌∙◌, arith, true≢false, lt-ltb}
use Rattle.std.proofs.lemmas.List.{append-nil}
use Rattle.std.specs.Fn.{iterate}
use Rattle.std.specs.List.{AllByRecursion as Every}
use Rattle.lie_math.specs.FiniteSumLaws.{plus_idl, plus_comm}
use Rattle.lie_math.specs.Counts.{Derivative, partials, partials_from, derived}
use Rattle.lie_math.specs.LinearForm.{LinearForm, no_form, ◌+ᶠ◌, apply}
use Rattle.lie_math.specs.LinearSystem.{LinearSystem, Unknown, has, IsSolution}
use Rattle.lie_math.specs.Monomial.{Monomial, ◌·◌, exponent, power_of}
use Rattle.lie_math.specs.PartialDerivative.{partial}
use Rattle.lie_math.specs.Polynomial.{WholePolynomial, terms, constant, 0ᴾ, negᴾ, ◌+ᴾ◌, ◌*ᴾ◌}
use Rattle.lie_math.specs.PolynomialRing.{polynomial_ring}
use Rattle.lie_math.specs.Variables.{IsIn}
use Rattle.lie_math.proofs.Dependence.{free_of_partial, partial_of_free}
use Rattle.lie_math.proofs.LinearForm.{apply_plus}
use Rattle.lie_math.proofs.Monomial.{exponent-·}
use Rattle.lie_math.proofs.Ring.{times_nil}
use Rattle.lie_math.proofs.Variables.{in-*ᴾ, in-constant}
use Rattle.lie_math.proofs.Weighing.{torsion}
use Rattle.lie_systems.specs.Triples.{Triple, triples}
use Rattle.lie_systems.specs.ValidSystems.{IsOwned, IsFormOf, HasVariablesBelow}
use Rattle.lie_systems.proofs.Triples.{sum_of_triples-triples}
use Rattle.lie_steps.specs.Absent.{Power, powers_from, fresh_sum, fresh_unknowns}
use Rattle.lie_steps.specs.Equations.{equation, rest_of, depends}
use Rattle.lie_steps.specs.Integrate.{counts_of, IsIntegrable, integrated_triple, integral, IsLeastDenominator, IsIntegratedAt, integrated, AppliesIntegrate, AfterIntegrate}
use Rattle.lie_steps.specs.Laws.{HaveSameFields, Keeps, IsFunctional, IsTotal}
use Rattle.lie_steps.specs.Replacement.{without, unknowns_after, eliminated}
use Rattle.lie_steps.specs.Tidying.{IsTidySystem}
use Rattle.lie_math.proofs.EveryElement.{every-map, every-filter, every_picked, every-front, every-back, every-weaken, every_contained, every_of_contained}
use Rattle.lie_math.proofs.FormEntries.{each-plus}
use Rattle.lie_steps.proofs.FormTriples.{IsMonomialIn, TripleHas, triples-each, each-triples}
use Rattle.lie_steps.proofs.Carry.{same_fields-trans}
use Rattle.lie_steps.proofs.Tidied.{IsSound, Solves, sound_of_valid, tidy_valid, tidy_same, tidy_unique, tidy_exists}
use Rattle.lie_math.proofs.Tests.{eqb_self}
use Rattle.lie_steps.proofs.Unknowns.{IsOwn, same_unknown}
use Rattle.lie_steps.proofs.PutIn.{recovered, recovered-avoiding, partial-constant, iterate-constant, apply-same, Avoids}
use Rattle.lie_steps.proofs.Replaced.{IsReplacement, IsCovered, IsServed, eliminated-sound, eliminated-same}
use Rattle.lie_steps.proofs.Division.{eliminated_divided-same, eliminated_divided-sound}
use Rattle.lie_steps.proofs.Rests.{at_derivative, apply_apart}
use Rattle.lie_steps.proofs.RingIdentities.{left_over, back_together}
use Rattle.lie_steps.proofs.SolvedForms.{greatest_unique, same_constant, rest_owned, rest_avoids, rest_form, rest_at, rest_triples, free_of_triples, FreeTriple, d_owned, no_dependence, triples_both}
use Rattle.lie_steps.proofs.FreshPowers.{ArePowersOf, AreValues, combination, given, given_below, given_holds, apply-fresh_sum, values_own, fresh_sum_free, has_below, exponent_other, free_sum}
use Rattle.lie_steps.proofs.LowParts.{iterate-plus, parts_from, block_values, absent_parts, powers_killed, block_of}
use Rattle.lie_steps.proofs.AbsentRule.{powers_replacement, sum_form}
use Rattle.lie_steps.proofs.Integrals.{integral_is}
use Rattle.lie_steps.proofs.Denominators.{denominator_exists}

-- ---- the counts of a derivative by one variable
pub count_there : (v k : ℕ) → get_or (counts_of v k) v 0 ≡ k
count_there zero k = refl
count_there (suc v) k = count_there v k

counts_derive : (i v k : ℕ) (p : WholePolynomial) → partials_from i (counts_of v k) p ≡ iterate (partial (i + v)) k p
counts_derive i zero k p = ap (λ w. iterate (partial w) k p) (plain i)
  where
    plain : (i : ℕ) → i ≡ i + 0
    plain i = omega arith
counts_derive i (suc v) k p = counts_derive (suc i) v k p ∙ ap (λ w. iterate (partial w) k p) (moved i v)
  where
    moved : (i v : ℕ) → suc i + v ≡ i + suc v
    moved i v = omega arith

derives_by : (v k : ℕ) (p : WholePolynomial) → partials (counts_of v k) p ≡ iterate (partial v) k p
derives_by v k p = counts_derive 0 v k p ∙ ap (λ w. iterate (partial w) k p) (plain v)
  where
    plain : (v : ℕ) → 0 + v ≡ v
    plain v = omega arith

pub counts_same : (v w k l : ℕ) → 0 < k → 0 < l → counts_of v k ≡ counts_of w l → (v ≡ w) × (k ≡ l)
counts_same zero zero k l p q e = (refl, ap (λ xs. get_or xs 0 0) e)
counts_same zero (suc w) k l p q e = absurd (let z : k ≡ 0 = ap (λ xs. get_or xs 0 0) e in omega arith)
counts_same (suc v) zero k l p q e = absurd (let z : 0 ≡ l = ap (λ xs. get_or xs 0 0) e in omega arith)
counts_same (suc v) (suc w) k l p q e = let r = counts_same v w k l p q (ap (λ xs. drop 1 xs) e) in (ap suc r.0, r.1)

-- ---- powers of one variable
one_block : (v k : ℕ) (p : WholePolynomial) → iterate (partial v) k p ≡ 0ᴾ → combination (powers_from v 0 k) (parts_from v 0 k p) ≡ p
one_block v k p z = ap₂ combination (sym (append-nil (powers_from v 0 k))) (sym (append-nil (parts_from v 0 k p))) ∙ absent_parts v (k ∷ []) p z

block_killed_by : (f : Unknown) (v k n : ℕ) (G : ℕ → WholePolynomial) → Every (IsOwn G) (fresh_unknowns n f (powers_from v 0 k)) → partials (counts_of v k) (apply G (fresh_sum n (powers_from v 0 k))) ≡ 0ᴾ
block_killed_by f v k n G o =
    subst (λ cs. Every (IsOwn G) (fresh_unknowns n f cs) → partials (counts_of v k) (apply G (fresh_sum n cs)) ≡ 0ᴾ) (append-nil (powers_from v 0 k))
    (λ o. powers_killed (counts_of v k) f v (k ∷ []) ((λ q z. derives_by v k q ∙ z), tt) n G o) o

module _ (n : ℕ) (S : LinearSystem) (sound : IsSound n S) (i : ℕ) (f : Unknown) (d : Derivative) (c : ℤ) (v k L : ℕ) (a : IsIntegratedAt S i f d c v k L) where
  abbrev R : LinearForm
  R = rest_of d (equation S i)

  abbrev I : LinearForm
  I = integral c v k L (rest_of d (equation S i))

  abbrev cs : List Power
  cs = powers_from v 0 k

  abbrev W : LinearForm
  W = integral c v k L (rest_of d (equation S i)) +ᶠ fresh_sum S.next (powers_from v 0 k)

  abbrev fresh : List Unknown
  fresh = fresh_unknowns S.next f (powers_from v 0 k)

  form : IsFormOf n S.unknowns (equation S i)
  form = (every_picked (IsFormOf n S.unknowns) S.equations i no_form a.place sound.equations).0

  owned : IsOwned S.unknowns d
  owned = d_owned n S (equation S i) form d c (a.integrable).solved

  f_has : has f v ≡ true
  f_has = ap (λ u. has u v) (sym (same_unknown S.unknowns owned.unknown f sound.rising owned.listed a.listed (owned.number ∙ sym a.number)))
      ∙ owned.own v (λ z. absurd (let p : 0 < k = (a.integrable).several in let e : k ≡ 0 = sym (count_there v k) ∙ ap (λ J. get_or J v 0) (sym (a.integrable).derived) ∙ z in omega arith))

  powers : ArePowersOf f (powers_from v 0 k)
  powers = block_of f v 0 k f_has

  v_below : v < n
  v_below = has_below n v f.variables f_has (every_contained (HasVariablesBelow n) S.unknowns f sound.variables a.listed).1

  -- a variable on which f does not depend
  foreign : (w : ℕ) → has f w ≡ false → depends S.unknowns d.unknown w ≡ false
  foreign w out = ap (λ g. depends S.unknowns g w) (sym a.number) ∙ no_dependence S.unknowns sound.rising f w a.listed out

  not_v : (w : ℕ) → has f w ≡ false → ¬ (w ≡ v)
  not_v w out e = true≢false (sym f_has ∙ ap (has f) (sym e) ∙ out)

  -- ---- the integral is a form in the unknowns without f
  rest_after : IsFormOf n (unknowns_after S f.number (fresh_unknowns S.next f (powers_from v 0 k))) (rest_of d (equation S i))
  rest_after = subst (λ g. IsFormOf n (unknowns_after S g (fresh_unknowns S.next f (powers_from v 0 k))) (rest_of d (equation S i))) (sym a.number) (rest_form n S (equation S i) form d c (a.integrable).solved (fresh_unknowns S.next f (powers_from v 0 k)))

  raised_in : (t : Triple) → IsMonomialIn (λ x. ltb x n) t.1 → IsMonomialIn (λ x. ltb x n) (power_of v k · t.1)
  raised_in t h w out = exponent-· (power_of v k) t.1 w ∙ both (exponent (power_of v k) w) (exponent t.1 w) (exponent_other v k w (λ e. true≢false (sym (lt-ltb v n v_below) ∙ ap (λ x. ltb x n) (sym e) ∙ out))) (h w out)
    where
      both : (a b : ℕ) → a ≡ 0 → b ≡ 0 → a + b ≡ 0
      both a b e f = omega arith

  integral_form : IsFormOf n (unknowns_after S f.number (fresh_unknowns S.next f (powers_from v 0 k))) I
  integral_form =
      let us = unknowns_after S f.number (fresh_unknowns S.next f (powers_from v 0 k)) in
      each-triples (IsOwned us) (λ x. ltb x n) _ (every-map (TripleHas (IsOwned us) (λ x. ltb x n)) (integrated_triple c v k L) (triples R)
      (every-weaken (TripleHas (IsOwned us) (λ x. ltb x n)) _ (λ t h. (h.0, raised_in t h.1)) (triples R) (triples-each (IsOwned us) (λ x. ltb x n) R rest_after)))

  replacement : IsReplacement n S f.number W L (fresh_unknowns S.next f (powers_from v 0 k))
  replacement = powers_replacement n S sound f a.listed (powers_from v 0 k) powers W L (a.denominator).positive
      (each-plus (IsOwned (unknowns_after S f.number (fresh_unknowns S.next f (powers_from v 0 k)))) (λ x. ltb x n) I (fresh_sum S.next (powers_from v 0 k)) integral_form (sum_form n S sound f a.listed (powers_from v 0 k) powers))

  -- ---- what the integral says
  module _ (G : ℕ → WholePolynomial) (own : Every (IsOwn G) (without d.unknown S.unknowns)) where
    integral_says : constant c *ᴾ iterate (partial v) k (apply G I) +ᴾ constant (pos L) *ᴾ apply G R ≡ 0ᴾ
    integral_says =
        ap (λ x. constant c *ᴾ iterate (partial v) k (apply G I) +ᴾ constant (pos L) *ᴾ apply G x) (sym (sum_of_triples-triples R))
        ∙ integral_is G c v k L (triples R) (a.denominator).clears
        (every-weaken (λ (t : Triple). (partial v (G (t.0).unknown) ≡ 0ᴾ) × Unit {0}) _ (λ t h. h.0) (triples R) (triples_both (λ e. partial v (G e.unknown) ≡ 0ᴾ) (λ m. Unit {0}) R.list
        (every-weaken (λ (e : Derivative × WholePolynomial). partial v (G (e.0).unknown) ≡ 0ᴾ) _ (λ e z. (z, units e.1.list)) R.list (rest_at n S (equation S i) form d c (a.integrable).solved G own v (a.integrable).independent))))
      where
        units : (es : List (Monomial × ℤ)) → Every (λ (x : Monomial × ℤ). Unit {0}) es
        units [] = tt
        units (e ∷ es) = (tt, units es)

    integral_free : (w : ℕ) → has f w ≡ false → partial w (apply G I) ≡ 0ᴾ
    integral_free w out = free_of_triples w G (map (integrated_triple c v k L) (triples R)) (every-map (FreeTriple w G) (integrated_triple c v k L) (triples R)
        (every-weaken (FreeTriple w G) _ (λ t h. (h.0, exponent-· (power_of v k) t.1 w ∙ both (exponent (power_of v k) w) (exponent t.1 w) (exponent_other v k w (not_v w out)) h.1)) (triples R) (rest_triples n S (equation S i) form d c (a.integrable).solved G own w (foreign w out))))
      where
        both : (a b : ℕ) → a ≡ 0 → b ≡ 0 → a + b ≡ 0
        both a b e f = omega arith

  apart : (F : ℕ → WholePolynomial) → apply F (equation S i) ≡ constant c *ᴾ derived F d +ᴾ apply F R
  apart F = apply_apart F d (equation S i) ∙ ap (λ x. x *ᴾ derived F d +ᴾ apply F R) ((a.integrable).solved).leads

  derived_is : (F : ℕ → WholePolynomial) → derived F d ≡ iterate (partial v) k (F f.number)
  derived_is F = ap₂ (λ J g. partials J (F g)) (a.integrable).derived (sym a.number) ∙ derives_by v k (F f.number)

  -- ---- what the integral leaves of a value of f
  old_own : (F : ℕ → WholePolynomial) → IsSolution F S → Every (IsOwn F) (without d.unknown S.unknowns)
  old_own F h = every-filter (IsOwn F) _ S.unknowns h.own

  left_killed : (F : ℕ → WholePolynomial) → IsSolution F S → iterate (partial v) k (constant (pos L) *ᴾ F f.number +ᴾ negᴾ (apply F I)) ≡ 0ᴾ
  left_killed F h =
      iterate-plus v k _ _ ∙ ap₂ ◌+ᴾ◌ (iterate-constant v k (pos L) (F f.number)) (iterate-constant v k (negsuc 0) (apply F I))
      ∙ torsion c ((a.integrable).solved).apart _ (left_over (constant c) (iterate (partial v) k (F f.number)) (apply F R) (constant (pos L)) (iterate (partial v) k (apply F I))
      (ap (λ x. constant c *ᴾ x +ᴾ apply F R) (sym (derived_is F)) ∙ sym (apart F) ∙ (every_picked (Solves F) S.equations i no_form a.place h.solves).0)
      (integral_says F (old_own F h)))

  left_in : (F : ℕ → WholePolynomial) → IsSolution F S → IsIn (has f) (constant (pos L) *ᴾ F f.number +ᴾ negᴾ (apply F I))
  left_in F h w out = free_of_partial w _ (free_sum w _ _
      (partial_of_free w _ (in-*ᴾ (has f) (constant (pos L)) (F f.number) (in-constant (has f) (pos L)) (every_contained (IsOwn F) S.unknowns f h.own a.listed) w out))
      (partial-constant w (negsuc 0) (apply F I) ∙ ap (λ x. constant (negsuc 0) *ᴾ x) (integral_free F (old_own F h) w out) ∙ times_nil polynomial_ring _))

  -- its unknowns are old
  integral_known : (F : ℕ → WholePolynomial) (ps : List WholePolynomial) → apply F I ≡ apply (given S.next ps F) I
  integral_known F ps = apply-same F (given S.next ps F) I (every-weaken (λ (e : Derivative × WholePolynomial). ((e.0).unknown < S.next) × IsIn (λ x. ltb x n) e.1) _ (λ e h. given_below S.next ps F (e.0).unknown h.0) I.list known)
    where
      known : Every (λ (e : Derivative × WholePolynomial). ((e.0).unknown < S.next) × IsIn (λ x. ltb x n) e.1) I.list
      known = each-triples (λ e. e.unknown < S.next) (λ x. ltb x n) _ (every-map (TripleHas (λ e. e.unknown < S.next) (λ x. ltb x n)) (integrated_triple c v k L) (triples R)
          (every-weaken (TripleHas (λ e. e.unknown < S.next) (λ x. ltb x n)) _ (λ t h. (h.0, raised_in t h.1)) (triples R) (triples-each (λ e. e.unknown < S.next) (λ x. ltb x n) R
          (every-weaken (λ (e : Derivative × WholePolynomial). IsOwned S.unknowns e.0 × IsIn (λ x. ltb x n) e.1) _ (λ e h. (subst (λ m. m < S.next) (h.0).number (every_contained (λ (u : Unknown). u.number < S.next) S.unknowns (h.0).unknown sound.below (h.0).listed), h.1)) R.list (rest_owned n S (equation S i) form d c (a.integrable).solved)))))

  forth : (F : ℕ → WholePolynomial) → IsSolution F S → IsCovered S f.number W L (fresh_unknowns S.next f (powers_from v 0 k)) F
  forth F h =
      let p = constant (pos L) *ᴾ F f.number +ᴾ negᴾ (apply F I) in
      let vs : AreValues f (powers_from v 0 k) (parts_from v 0 k p) = block_values f v 0 k p (left_in F h) in
      record {
        values = given S.next (parts_from v 0 k p) F;
        same = λ g lt. given_below S.next (parts_from v 0 k p) F g lt;
        fresh_own = values_own f S.next (powers_from v 0 k) (parts_from v 0 k p) _ vs (given_holds S.next _ F);
        is = back_together (constant (pos L) *ᴾ F f.number) (apply F I)
            ∙ ap₂ ◌+ᴾ◌ (integral_known F (parts_from v 0 k p)) (sym (one_block v k p (left_killed F h)) ∙ sym (apply-fresh_sum f S.next (powers_from v 0 k) (parts_from v 0 k p) _ vs (given_holds S.next _ F)))
            ∙ sym (apply_plus _ I (fresh_sum S.next (powers_from v 0 k)));
      }

  back : (G : ℕ → WholePolynomial) → Every (IsOwn G) (unknowns_after S f.number (fresh_unknowns S.next f (powers_from v 0 k))) → IsServed S i f.number W L G
  back G o =
      let old : Every (IsOwn G) (without d.unknown S.unknowns) = subst (λ g. Every (IsOwn G) (without g S.unknowns)) a.number (every-front (IsOwn G) (without f.number S.unknowns) (fresh_unknowns S.next f (powers_from v 0 k)) o) in
      let new : Every (IsOwn G) (fresh_unknowns S.next f (powers_from v 0 k)) = every-back (IsOwn G) (without f.number S.unknowns) (fresh_unknowns S.next f (powers_from v 0 k)) o in
      let says : apply G W ≡ apply G I +ᴾ apply G (fresh_sum S.next (powers_from v 0 k)) = apply_plus G I (fresh_sum S.next (powers_from v 0 k)) in
      record {
        own = every_of_contained _ S.unknowns (λ u x e. subst (λ (y : Unknown). IsIn (has y) (apply G W)) (sym (same_unknown S.unknowns u f sound.rising x a.listed e))
            (λ w out. free_of_partial w _ (ap (partial w) says ∙ free_sum w _ _ (integral_free G old w out) (fresh_sum_free f w out S.next (powers_from v 0 k) G powers new))));
        solves = apart (recovered f.number W L G)
            ∙ ap₂ (λ x y. constant c *ᴾ x +ᴾ y)
            (derived_is (recovered f.number W L G) ∙ ap (λ t. iterate (partial v) k (cond t (apply G W) (constant (pos L) *ᴾ G f.number))) (eqb_self f.number) ∙ ap (iterate (partial v) k) says ∙ iterate-plus v k _ _
            ∙ ap (λ x. iterate (partial v) k (apply G I) +ᴾ x) (sym (derives_by v k _) ∙ block_killed_by f v k S.next G new) ∙ plus_comm terms _ 0ᴾ ∙ plus_idl terms _)
            (recovered-avoiding f.number W L G R (subst (λ g. Avoids g R) (sym a.number) (rest_avoids n S (equation S i) form d c (a.integrable).solved)))
            ∙ integral_says G old;
      }

  same : HaveSameFields S (eliminated S i f.number W L (fresh_unknowns S.next f (powers_from v 0 k)))
  same = eliminated-same n S sound i a.place f.number W L (fresh_unknowns S.next f (powers_from v 0 k)) replacement forth back

  pub integrated-sound : IsSound n (integrated S i f d c v k L)
  integrated-sound = eliminated_divided-sound n S i f.number W L (fresh_unknowns S.next f (powers_from v 0 k)) (eliminated-sound n S sound i a.place f.number W L (fresh_unknowns S.next f (powers_from v 0 k)) replacement)

  pub integrated-same : HaveSameFields S (integrated S i f d c v k L)
  integrated-same = same_fields-trans S (eliminated S i f.number W L (fresh_unknowns S.next f (powers_from v 0 k))) (integrated S i f d c v k L) same (eliminated_divided-same n S i f.number W L (fresh_unknowns S.next f (powers_from v 0 k)))

pub integrate_keeps : Keeps AfterIntegrate
integrate_keeps n S T i x (f, d, c, v, k, L, a, t) =
    let s = sound_of_valid n S x in (
      tidy_valid n (integrated S i f d c v k L) T t (integrated-sound n S s i f d c v k L a),
      same_fields-trans S (integrated S i f d c v k L) T (integrated-same n S s i f d c v k L a) (tidy_same (integrated S i f d c v k L) T t),
    )

pub integrate_functional : IsFunctional AfterIntegrate
integrate_functional n S T U i x (f, d, c, v, k, L, a, t) (g, e, b, w, l, M, y, u) =
    let s = sound_of_valid n S x in
    let derivatives : d ≡ e = greatest_unique (IsIntegrable S.unknowns (equation S i)) d e a.greatest y.greatest in
    let numbers : c ≡ b = same_constant c b (sym ((a.integrable).solved).leads ∙ ap (at_derivative (equation S i)) derivatives ∙ ((y.integrable).solved).leads) in
    let counts = counts_same v w k l (a.integrable).several (y.integrable).several (sym (a.integrable).derived ∙ ap (λ (z : Derivative). z.counts) derivatives ∙ (y.integrable).derived) in
    let unknowns : f ≡ g = same_unknown S.unknowns f g s.rising a.listed y.listed (a.number ∙ ap (λ (z : Derivative). z.unknown) derivatives ∙ sym y.number) in
    let least : IsLeastDenominator b w l (triples (rest_of e (equation S i))) L =
    subst (λ z. IsLeastDenominator z w l (triples (rest_of e (equation S i))) L) numbers
    (subst (λ z. IsLeastDenominator c z l (triples (rest_of e (equation S i))) L) counts.0
    (subst (λ z. IsLeastDenominator c v z (triples (rest_of e (equation S i))) L) counts.1
    (subst (λ z. IsLeastDenominator c v k (triples (rest_of z (equation S i))) L) derivatives a.denominator))) in
    let denominators : L ≡ M = same_least L M (least.least M (y.denominator).positive (y.denominator).clears) ((y.denominator).least L least.positive least.clears) in
    tidy_unique (integrated S i g e b w l M) T U
    (subst (λ z. IsTidySystem (integrated S i g e b w l z) T) denominators
    (subst (λ z. IsTidySystem (integrated S i g e b w z L) T) counts.1
    (subst (λ z. IsTidySystem (integrated S i g e b z k L) T) counts.0
    (subst (λ z. IsTidySystem (integrated S i g e z v k L) T) numbers
    (subst (λ z. IsTidySystem (integrated S i g z c v k L) T) derivatives (subst (λ z. IsTidySystem (integrated S i z d c v k L) T) unknowns t)))))) u
  where
    same_least : (a b : ℕ) → a ≤ b → b ≤ a → a ≡ b
    same_least a b h g = omega arith

pub integrate_total : IsTotal AppliesIntegrate AfterIntegrate
integrate_total n S i x (p, d, g) =
    let h = g.holds in
    let form = (every_picked (IsFormOf n S.unknowns) S.equations i no_form p x.equations).0 in
    let o = d_owned n S (equation S i) form d h.0 (h.3).solved in
    let L = denominator_exists h.0 ((h.3).solved).apart h.1 h.2 (triples (rest_of d (equation S i))) in
    let t = tidy_exists (integrated S i o.unknown d h.0 h.1 h.2 L.0) in
    (t.0, (o.unknown, d, h.0, h.1, h.2, L.0, record { place = p; listed = o.listed; number = o.number; integrable = h.3; greatest = g; denominator = L.1 }, t.1))
