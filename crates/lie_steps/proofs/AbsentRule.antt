-- A derivative of an unknown is 0: the unknown is a sum of low powers times fresh unknowns.
use Rattle.std.specs.Prelude.{◌≡◌, ℕ, ◌+◌, ◌<◌, cond, List, pos, eqb}
use Rattle.std.proofs.Common.{sym, ap, subst, ◌∙◌, arith}
use Rattle.std.specs.List.{AllByRecursion as Every, Contains}
use Rattle.std.proofs.lemmas.List.Elements.{Contains-append_right}
use Rattle.lie_math.specs.FiniteSum.{term, of}
use Rattle.lie_math.specs.Counts.{Derivative, partials, derived}
use Rattle.lie_math.specs.LinearForm.{LinearForm, no_form, apply}
use Rattle.lie_math.specs.LinearSystem.{LinearSystem, Unknown, has}
use Rattle.lie_math.specs.Polynomial.{constant, 0ᴾ, ◌*ᴾ◌}
use Rattle.lie_math.specs.PolynomialRing.{one-*ᴾ}
use Rattle.lie_math.specs.Variables.{IsIn}
use Rattle.lie_math.proofs.Dependence.{free_of_partial}
use Rattle.lie_math.proofs.LinearForm.{apply_term}
use Rattle.lie_systems.specs.ValidSystems.{IsOwned, IsFormOf, HasVariablesBelow}
use Rattle.lie_steps.specs.Absent.{Power, low_powers, fresh_sum, fresh_unknowns, IsAbsentAt, absented, AppliesAbsent, AfterAbsent}
use Rattle.lie_steps.specs.Laws.{HaveSameFields, Keeps, IsFunctional, IsTotal}
use Rattle.lie_steps.specs.Replacement.{without, unknowns_after}
use Rattle.lie_steps.specs.Tidying.{IsTidySystem}
use Rattle.lie_math.proofs.EveryElement.{every_contained, every_of_contained, every_picked, every-back}
use Rattle.lie_steps.proofs.Carry.{same_fields-trans}
use Rattle.lie_steps.proofs.Tidied.{IsSound, Solves, sound_of_valid, tidy_valid, tidy_same, tidy_unique, tidy_exists}
use Rattle.lie_math.proofs.Tests.{eqb_self}
use Rattle.lie_steps.proofs.Unknowns.{IsOwn, same_unknown}
use Rattle.lie_steps.proofs.FreshUnknowns.{rising-after}
use Rattle.lie_steps.proofs.FreshPowers.{ArePowersOf, AreValues, given, given_below, given_holds, apply-fresh_sum, values_own, fresh_sum_free, fresh_above, fresh_rising, fresh_below, fresh_variables, fresh_form}
use Rattle.lie_steps.proofs.LowParts.{parts_of, parts_values, absent_parts, counts_kill, powers_killed, powers_of}
use Rattle.lie_steps.proofs.PutIn.{recovered}
use Rattle.lie_steps.proofs.Replaced.{IsReplacement, eliminated-sound, eliminated-same}
use Rattle.lie_steps.proofs.ZeroRule.{same_alone}
use Rattle.lie_math.specs.FiniteSum.{term}
use Rattle.lie_steps.proofs.Derived.{IsRising}

-- the fresh unknowns are listed after the replacement
pub fresh_listed : (S : LinearSystem) (f : ℕ) (fresh : List Unknown) → Every (Contains (unknowns_after S f fresh)) fresh
fresh_listed S f fresh = every_of_contained (Contains (unknowns_after S f fresh)) fresh (λ u c. Contains-append_right (without f S.unknowns) fresh u c)

-- the replacement by powers times fresh unknowns, and maybe more
module _ (n : ℕ) (S : LinearSystem) (sound : IsSound n S) (f : Unknown) (listed : Contains S.unknowns f) (cs : List Power) (mine : ArePowersOf f cs) where
  pub f_below : HasVariablesBelow n f
  f_below = every_contained (HasVariablesBelow n) S.unknowns f sound.variables listed

  pub after_rising : IsRising (unknowns_after S f.number (fresh_unknowns S.next f cs))
  after_rising = rising-after S f.number (fresh_unknowns S.next f cs) sound.rising sound.below (fresh_rising S.next f cs) (fresh_above S.next S.next f cs (omega arith))

  pub sum_form : IsFormOf n (unknowns_after S f.number (fresh_unknowns S.next f cs)) (fresh_sum S.next cs)
  sum_form = fresh_form n S.next f cs (unknowns_after S f.number (fresh_unknowns S.next f cs)) f_below mine (fresh_listed S f.number (fresh_unknowns S.next f cs))

  pub powers_replacement : (W : LinearForm) (L : ℕ) → 0 < L → IsFormOf n (unknowns_after S f.number (fresh_unknowns S.next f cs)) W → IsReplacement n S f.number W L (fresh_unknowns S.next f cs)
  powers_replacement W L positive form = record {
    positive = positive;
    rising = after_rising;
    below = fresh_below S.next f cs;
    variables = fresh_variables n S.next f cs f_below;
    form = form;
  }

module _ (n : ℕ) (S : LinearSystem) (sound : IsSound n S) (i : ℕ) (f : Unknown) (d : Derivative) (a : IsAbsentAt S i f d) where
  owned : IsOwned S.unknowns d
  unfolding term of
  owned = (subst (IsFormOf n S.unknowns) a.is (every_picked (IsFormOf n S.unknowns) S.equations i no_form a.place sound.equations).0).0.0

  powers : ArePowersOf f (low_powers d.counts)
  powers = powers_of f 0 d.counts (λ k z. ap (λ u. has u (0 + k)) (sym (same_unknown S.unknowns owned.unknown f sound.rising owned.listed a.listed (owned.number ∙ sym a.number))) ∙ ap (has owned.unknown) (plain k) ∙ owned.own k z)
    where
      plain : (k : ℕ) → 0 + k ≡ k
      plain k = omega arith

  replacement : IsReplacement n S f.number (fresh_sum S.next (low_powers d.counts)) 1 (fresh_unknowns S.next f (low_powers d.counts))
  replacement = powers_replacement n S sound f a.listed (low_powers d.counts) powers (fresh_sum S.next (low_powers d.counts)) 1 (omega arith) (sum_form n S sound f a.listed (low_powers d.counts) powers)

  pub absented-sound : IsSound n (absented S i f d)
  absented-sound = eliminated-sound n S sound i a.place f.number (fresh_sum S.next (low_powers d.counts)) 1 (fresh_unknowns S.next f (low_powers d.counts)) replacement

  pub absented-same : HaveSameFields S (absented S i f d)
  absented-same = eliminated-same n S sound i a.place f.number (fresh_sum S.next (low_powers d.counts)) 1 (fresh_unknowns S.next f (low_powers d.counts)) replacement
      (λ F h.
      let own : IsIn (has f) (F f.number) = every_contained (IsOwn F) S.unknowns f h.own a.listed in
      let killed : partials d.counts (F f.number) ≡ 0ᴾ = ap (λ g. partials d.counts (F g)) a.number ∙ sym (apply_term F d (constant (pos 1)) ∙ one-*ᴾ (derived F d)) ∙ ap (apply F) (sym a.is) ∙ (every_picked (Solves F) S.equations i no_form a.place h.solves).0 in
      let vs : AreValues f (low_powers d.counts) (parts_of 0 d.counts (F f.number)) = parts_values f 0 d.counts (F f.number) own in
      record {
        values = given S.next (parts_of 0 d.counts (F f.number)) F;
        same = λ g lt. given_below S.next (parts_of 0 d.counts (F f.number)) F g lt;
        fresh_own = values_own f S.next (low_powers d.counts) (parts_of 0 d.counts (F f.number)) _ vs (given_holds S.next _ F);
        is = one-*ᴾ (F f.number) ∙ sym (absent_parts 0 d.counts (F f.number) killed) ∙ sym (apply-fresh_sum f S.next (low_powers d.counts) (parts_of 0 d.counts (F f.number)) _ vs (given_holds S.next _ F));
      })
      (λ G o.
      let fresh : Every (IsOwn G) (fresh_unknowns S.next f (low_powers d.counts)) = every-back (IsOwn G) (without f.number S.unknowns) (fresh_unknowns S.next f (low_powers d.counts)) o in
      record {
        own = every_of_contained _ S.unknowns (λ u c e. subst (λ (x : Unknown). IsIn (has x) (apply G (fresh_sum S.next (low_powers d.counts)))) (sym (same_unknown S.unknowns u f sound.rising c a.listed e)) (λ w out. free_of_partial w _ (fresh_sum_free f w out S.next (low_powers d.counts) G powers fresh)));
        solves = ap (apply (recovered f.number (fresh_sum S.next (low_powers d.counts)) 1 G)) a.is ∙ apply_term (recovered f.number (fresh_sum S.next (low_powers d.counts)) 1 G) d (constant (pos 1)) ∙ one-*ᴾ _
            ∙ ap (λ g. partials d.counts (cond (eqb g f.number) (apply G (fresh_sum S.next (low_powers d.counts))) (constant (pos 1) *ᴾ G g))) (sym a.number)
            ∙ ap (λ t. partials d.counts (cond t (apply G (fresh_sum S.next (low_powers d.counts))) (constant (pos 1) *ᴾ G f.number))) (eqb_self f.number)
            ∙ powers_killed d.counts f 0 d.counts (counts_kill 0 d.counts) S.next G fresh;
      })

pub absent_keeps : Keeps AfterAbsent
absent_keeps n S T i v (f, d, a, t) =
    let s = sound_of_valid n S v in (
      tidy_valid n (absented S i f d) T t (absented-sound n S s i f d a),
      same_fields-trans S (absented S i f d) T (absented-same n S s i f d a) (tidy_same (absented S i f d) T t),
    )

pub absent_functional : IsFunctional AfterAbsent
absent_functional n S T U i v (f, d, a, t) (g, e, b, u) =
    let s = sound_of_valid n S v in
    let derivatives : d ≡ e = same_alone d e (sym a.is ∙ b.is) in
    let unknowns : f ≡ g = same_unknown S.unknowns f g s.rising a.listed b.listed (a.number ∙ ap (λ (x : Derivative). x.unknown) derivatives ∙ sym b.number) in
    tidy_unique (absented S i g e) T U (subst (λ x. IsTidySystem (absented S i x e) T) unknowns (subst (λ x. IsTidySystem (absented S i f x) T) derivatives t)) u

pub absent_total : IsTotal AppliesAbsent AfterAbsent
absent_total n S i w (f, d, a) = let t = tidy_exists (absented S i f d) in (t.0, (f, d, a, t.1))
