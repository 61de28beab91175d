-- The law behind the rules that replace an unknown: where f is W over L at the solutions, the new system is sound and gives the same fields.
use Rattle.std.specs.Prelude.{◌≡◌, ℕ, zero, suc, ◌+◌, ◌<◌, Bool, true, false, cond, not, ◌⊎◌, eqb, List, [], ◌∷◌, pos, ltb, map, filter, length, get_or, remove}
use Rattle.std.proofs.Common.{refl, sym, ap, subst, ◌∙◌, arith, inl, inr, true≢false}
use Rattle.std.specs.List.{AllByRecursion as Every, Contains, list_any}
use Rattle.std.proofs.lemmas.List.Elements.{Contains-append_left}
use Rattle.lie_math.specs.FiniteSum.{none, of}
use Rattle.lie_math.specs.Polynomial.{WholePolynomial, constant, ◌*ᴾ◌}
use Rattle.lie_math.specs.PolynomialRing.{polynomial_ring, one-*ᴾ}
use Rattle.lie_math.specs.Counts.{Derivative}
use Rattle.lie_math.specs.LinearForm.{LinearForm, no_form, apply}
use Rattle.lie_math.specs.LinearSystem.{LinearSystem, Unknown, has, IsSolution}
use Rattle.lie_math.specs.Variables.{IsIn}
use Rattle.lie_math.proofs.LinearForm.{apply_none}
use Rattle.lie_math.proofs.Ring.{times_nil}
use Rattle.lie_math.proofs.Variables.{in-*ᴾ, in-constant}
use Rattle.lie_systems.specs.ValidSystems.{IsOwned, IsFormOf, HasVariablesBelow}
use Rattle.lie_steps.specs.Equations.{equation, IsPlace, mentions}
use Rattle.lie_steps.specs.Replacement.{put_in, replaced, without, unknowns_after, with_replaced, eliminated}
use Rattle.lie_steps.specs.Laws.{HaveSameFields}
use Rattle.lie_math.proofs.EveryElement.{every-append, every-front, every-filter, every_picked, every_put_back, every-map, every_mapped, every-weaken, every_both, every_contained}
use Rattle.lie_math.proofs.ContainedElements.{contained_cons, contains_first, contains_later, contains_nothing}
use Rattle.lie_steps.proofs.Carry.{Image, same_fields, general_at}
use Rattle.lie_steps.proofs.Tidied.{IsSound, Solves}
use Rattle.lie_math.proofs.Tests.{same_number, or_false}
use Rattle.lie_steps.proofs.Unknowns.{IsOwn}
use Rattle.lie_steps.proofs.Derived.{IsRising}
use Rattle.lie_steps.proofs.PutIn.{recovered, scaled, apply-scaled, apply-same, Avoids, avoids_of, recovered-avoiding, apply-put_in, replaced-solves, put_in-form, avoiding-form, replaced-form}
use Rattle.lie_math.proofs.FormEntries.{each-none}

-- ---- lists of forms
pub form_at : (P : LinearForm → Type 0) (Gs : List LinearForm) (s : ℕ) → P no_form → Every P Gs → P (get_or Gs s no_form)
form_at P [] s p h = p
form_at P (G ∷ Gs) zero p h = h.0
form_at P (G ∷ Gs) (suc s) p h = form_at P Gs s p h.1

pub mapped_at : (F R : ℕ → WholePolynomial) (m : LinearForm → LinearForm) → ((E : LinearForm) → apply F (m E) ≡ apply R E) → (Gs : List LinearForm) (s : ℕ) → apply F (get_or (map m Gs) s no_form) ≡ apply R (get_or Gs s no_form)
mapped_at F R m is [] s = apply_none F ∙ sym (apply_none R)
mapped_at F R m is (G ∷ Gs) zero = is G
mapped_at F R m is (G ∷ Gs) (suc s) = mapped_at F R m is Gs s

none_mention : (f : ℕ) (Gs : List LinearForm) → list_any (mentions f) Gs ≡ false → Every (Avoids f) Gs
none_mention f [] e = tt
none_mention f (G ∷ Gs) e = let p = or_false (mentions f G) (list_any (mentions f) Gs) e in (avoids_of f G p.0, none_mention f Gs p.1)

avoids_nothing : (f : ℕ) → Avoids f no_form
unfolding none of
avoids_nothing f = tt

length-map : (m : LinearForm → LinearForm) (Gs : List LinearForm) → length (map m Gs) ≡ length Gs
length-map m [] = refl
length-map m (G ∷ Gs) = ap suc (length-map m Gs)

-- ---- unknowns other than f stay
contains-filter : {X : Type 0} (t : X → Bool) (xs : List X) (x : X) → Contains xs x → t x ≡ true → Contains (filter t xs) x
contains-filter {X} t [] x c e = absurd (contains_nothing x c)
contains-filter {X} t (y ∷ xs) x c e = go (contained_cons y xs x c) (λ k. contains-filter t xs x k e)
  where
    first : (b : Bool) → b ≡ true → Contains (cond b (y ∷ filter t xs) (filter t xs)) y
    first true e = contains_first y (filter t xs)
    first false e = absurd (true≢false (sym e))

    later : (b : Bool) → Contains (filter t xs) x → Contains (cond b (y ∷ filter t xs) (filter t xs)) x
    later true c = contains_later y (filter t xs) x c
    later false c = c

    go : (y ≡ x) ⊎ Contains xs x → (Contains xs x → Contains (filter t xs) x) → Contains (cond (t y) (y ∷ filter t xs) (filter t xs)) x
    go (inl f) r = subst (Contains (cond (t y) (y ∷ filter t xs) (filter t xs))) f (first (t y) (ap t f ∙ e))
    go (inr k) r = later (t y) (r k)

not_true : (b : Bool) → b ≡ false → not b ≡ true
not_true true e = absurd (true≢false e)
not_true false e = refl

pub stays_listed : (f : ℕ) (us : List Unknown) (u : Unknown) → Contains us u → eqb u.number f ≡ false → Contains (without f us) u
stays_listed f us u c e = contains-filter (λ (u : Unknown). not (eqb u.number f)) us u c (not_true (eqb u.number f) e)

pub stays_owned : (S : LinearSystem) (f : ℕ) (fresh : List Unknown) (d : Derivative) → IsOwned S.unknowns d → eqb d.unknown f ≡ false → IsOwned (unknowns_after S f fresh) d
stays_owned S f fresh d o e = record {
  unknown = o.unknown;
  listed = Contains-append_left (without f S.unknowns) fresh o.unknown (stays_listed f S.unknowns o.unknown o.listed (ap (λ m. eqb m f) o.number ∙ e));
  number = o.number;
  own = o.own;
  short = o.short;
}

-- ---- what a rule has to show
-- the new unknowns are those of a valid system, and W is a form in them
pub record IsReplacement (n : ℕ) (S : LinearSystem) (f : ℕ) (W : LinearForm) (L : ℕ) (fresh : List Unknown) : Type 0 where
  pub positive : 0 < L
  pub rising : IsRising (unknowns_after S f fresh)
  pub below : Every (λ (u : Unknown). u.number < S.next + length fresh) fresh
  pub variables : Every (HasVariablesBelow n) fresh
  pub form : IsFormOf n (unknowns_after S f fresh) W

-- a solution has values for the fresh unknowns at which f is W over L
pub record IsCovered (S : LinearSystem) (f : ℕ) (W : LinearForm) (L : ℕ) (fresh : List Unknown) (F : ℕ → WholePolynomial) : Type 0 where
  pub values : ℕ → WholePolynomial
  pub same : (g : ℕ) → g < S.next → F g ≡ values g
  pub fresh_own : Every (IsOwn values) fresh
  pub is : constant (pos L) *ᴾ F f ≡ apply values W

-- what W says may be given to f, and then the equation holds
pub record IsServed (S : LinearSystem) (i f : ℕ) (W : LinearForm) (L : ℕ) (G : ℕ → WholePolynomial) : Type 0 where
  pub own : Every (λ (u : Unknown). u.number ≡ f → IsIn (has u) (apply G W)) S.unknowns
  pub solves : Solves (recovered f W L G) (equation S i)

module _ (n : ℕ) (S : LinearSystem) (sound : IsSound n S) (i : ℕ) (place : IsPlace S i) (f : ℕ) (W : LinearForm) (L : ℕ) (fresh : List Unknown) (r : IsReplacement n S f W L fresh) where
  -- ---- the new system is sound
  more : (a b c : ℕ) → a < b → a < b + c
  more a b c h = omega arith

  pub eliminated-sound : IsSound n (eliminated S i f W L fresh)
  eliminated-sound = record {
    rising = r.rising;
    below = every-append (λ (u : Unknown). u.number < S.next + length fresh) (without f S.unknowns) fresh (every-filter _ _ S.unknowns (every-weaken (λ (u : Unknown). u.number < S.next) _ (λ u h. more u.number S.next (length fresh) h) S.unknowns sound.below)) r.below;
    variables = every-append (HasVariablesBelow n) (without f S.unknowns) fresh (every-filter _ _ S.unknowns sound.variables) r.variables;
    equations = every-map (IsFormOf n (unknowns_after S f fresh)) (replaced (unknowns_after S f fresh) f W L) (remove S.equations i) (every-weaken (IsFormOf n S.unknowns) _ (λ E h. replaced-form n (unknowns_after S f fresh) r.rising f W r.form L S.unknowns (stays_owned S f fresh) E h) (remove S.equations i) (every_picked (IsFormOf n S.unknowns) S.equations i no_form place sound.equations).1);
    general = general (list_any (mentions f) S.general) refl;
    components = components (list_any (mentions f) S.general);
  }
    where
      general : (t : Bool) → list_any (mentions f) S.general ≡ t → Every (IsFormOf n (unknowns_after S f fresh)) (cond t (map (put_in (unknowns_after S f fresh) f W L) S.general) S.general)
      general true e = every-map (IsFormOf n (unknowns_after S f fresh)) (put_in (unknowns_after S f fresh) f W L) S.general (every-weaken (IsFormOf n S.unknowns) _ (λ E h. put_in-form n (unknowns_after S f fresh) r.rising f W r.form L S.unknowns (stays_owned S f fresh) E h) S.general sound.general)
      general false e = every_both (IsFormOf n S.unknowns) (Avoids f) _ (λ E h a. avoiding-form n (unknowns_after S f fresh) r.rising f W r.form L S.unknowns (stays_owned S f fresh) E h a) S.general sound.general (none_mention f S.general e)

      components : (t : Bool) → length (cond t (map (put_in (unknowns_after S f fresh) f W L) S.general) S.general) ≡ n
      components true = length-map (put_in (unknowns_after S f fresh) f W L) S.general ∙ sound.components
      components false = sound.components

  -- ---- and gives the same fields
  known : (E : LinearForm) → IsFormOf n S.unknowns E → Every (λ (e : Derivative × WholePolynomial). (e.0).unknown < S.next) E.list
  known E h = every-weaken (λ (e : Derivative × WholePolynomial). IsOwned S.unknowns e.0 × IsIn (λ v. ltb v n) e.1) _ (λ e k. subst (λ m. m < S.next) (k.0).number (every_contained (λ (u : Unknown). u.number < S.next) S.unknowns (k.0).unknown sound.below (k.0).listed)) E.list h

  forth : (F : ℕ → WholePolynomial) → IsSolution F S → IsCovered S f W L fresh F → Image S (eliminated S i f W L fresh) F
  forth F h c = go (list_any (mentions f) S.general) refl
    where
      own : Every (IsOwn c.values) S.unknowns
      own = every_both (λ (u : Unknown). u.number < S.next) (IsOwn F) (IsOwn c.values) (λ u lt k. subst (IsIn (has u)) (c.same u.number lt) k) S.unknowns sound.below h.own

      new_own : Every (IsOwn c.values) (unknowns_after S f fresh)
      new_own = every-append (IsOwn c.values) (without f S.unknowns) fresh (every-filter (IsOwn c.values) _ S.unknowns own) c.fresh_own

      by_case : (g : ℕ) → F g ≡ c.values g → (t : Bool) → eqb g f ≡ t → cond t (apply c.values W) (constant (pos L) *ᴾ c.values g) ≡ constant (pos L) *ᴾ F g
      by_case g e true k = sym (ap (λ x. constant (pos L) *ᴾ F x) (same_number g f k) ∙ c.is)
      by_case g e false k = ap (λ p. constant (pos L) *ᴾ p) (sym e)

      says : (E : LinearForm) → IsFormOf n S.unknowns E → apply (recovered f W L c.values) E ≡ constant (pos L) *ᴾ apply F E
      says E o =
          apply-same (recovered f W L c.values) (scaled (pos L) F) E (every-weaken (λ (e : Derivative × WholePolynomial). (e.0).unknown < S.next) _ (λ e lt. by_case (e.0).unknown (c.same (e.0).unknown lt) (eqb (e.0).unknown f) refl) E.list (known E o))
          ∙ apply-scaled (pos L) F E

      plain : (E : LinearForm) → IsFormOf n S.unknowns E → apply c.values E ≡ apply F E
      plain E o = apply-same c.values F E (every-weaken (λ (e : Derivative × WholePolynomial). (e.0).unknown < S.next) _ (λ e lt. sym (c.same (e.0).unknown lt)) E.list (known E o))

      solution : Every (Solves c.values) (map (replaced (unknowns_after S f fresh) f W L) (remove S.equations i))
      solution = every-map (Solves c.values) (replaced (unknowns_after S f fresh) f W L) (remove S.equations i)
          (every_both (IsFormOf n S.unknowns) (Solves F) _ (λ E o z. (replaced-solves n (unknowns_after S f fresh) r.rising f W r.form L c.values new_own r.positive E).1 (says E o ∙ ap (λ p. constant (pos L) *ᴾ p) z ∙ times_nil polynomial_ring (constant (pos L)))) (remove S.equations i)
          (every_picked (IsFormOf n S.unknowns) S.equations i no_form place sound.equations).1 (every_picked (Solves F) S.equations i no_form place h.solves).1)

      none_form : IsFormOf n S.unknowns no_form
      none_form = each-none (IsOwned S.unknowns) (λ v. ltb v n)

      go : (t : Bool) → list_any (mentions f) S.general ≡ t → Image S (with_replaced S i f W L fresh (cond t (map (put_in (unknowns_after S f fresh) f W L) S.general) S.general)) F
      go true e = record {
        solution = c.values;
        solves = record { own = new_own; solves = solution };
        factor = L;
        positive = r.positive;
        same = λ s. mapped_at c.values (recovered f W L c.values) (put_in (unknowns_after S f fresh) f W L) (apply-put_in n (unknowns_after S f fresh) r.rising f W r.form L c.values new_own) S.general s ∙ says (general_at S s) (form_at (IsFormOf n S.unknowns) S.general s none_form sound.general);
      }
      go false e = record {
        solution = c.values;
        solves = record { own = new_own; solves = solution };
        factor = 1;
        positive = omega arith;
        same = λ s. plain (general_at S s) (form_at (IsFormOf n S.unknowns) S.general s none_form sound.general) ∙ sym (one-*ᴾ (apply F (general_at S s)));
      }

  back : (G : ℕ → WholePolynomial) → IsSolution G (eliminated S i f W L fresh) → IsServed S i f W L G → Image (eliminated S i f W L fresh) S G
  back G h s = go (list_any (mentions f) S.general) refl
    where
      each_own : (us : List Unknown) → Every (λ (u : Unknown). u.number ≡ f → IsIn (has u) (apply G W)) us → Every (IsOwn G) (without f us) → Every (IsOwn (recovered f W L G)) us
      each_own [] k o = tt
      each_own (u ∷ us) k o = elim (eqb u.number f) as (λ t. eqb u.number f ≡ t → Every (IsOwn G) (cond (not t) (u ∷ without f us) (without f us)) → IsIn (has u) (cond t (apply G W) (constant (pos L) *ᴾ G u.number)) × Every (IsOwn (recovered f W L G)) us) [
        | true ↦ λ e o. (k.0 (same_number u.number f e), each_own us k.1 o)
        | false ↦ λ e o. (in-*ᴾ (has u) (constant (pos L)) (G u.number) (in-constant (has u) (pos L)) o.0, each_own us k.1 o.1)
      ] refl o

      solves : IsSolution (recovered f W L G) S
      solves = record {
        own = each_own S.unknowns s.own (every-front (IsOwn G) (without f S.unknowns) fresh h.own);
        solves = every_put_back (Solves (recovered f W L G)) S.equations i no_form place s.solves
            (every-weaken (λ E. Solves G (replaced (unknowns_after S f fresh) f W L E)) (Solves (recovered f W L G)) (λ E z. (replaced-solves n (unknowns_after S f fresh) r.rising f W r.form L G h.own r.positive E).0 z) (remove S.equations i) (every_mapped (Solves G) (replaced (unknowns_after S f fresh) f W L) (remove S.equations i) h.solves));
      }

      go : (t : Bool) → list_any (mentions f) S.general ≡ t → Image (with_replaced S i f W L fresh (cond t (map (put_in (unknowns_after S f fresh) f W L) S.general) S.general)) S G
      go true e = record {
        solution = recovered f W L G;
        solves = solves;
        factor = 1;
        positive = omega arith;
        same = λ x. sym (mapped_at G (recovered f W L G) (put_in (unknowns_after S f fresh) f W L) (apply-put_in n (unknowns_after S f fresh) r.rising f W r.form L G h.own) S.general x) ∙ sym (one-*ᴾ (apply G (get_or (map (put_in (unknowns_after S f fresh) f W L) S.general) x no_form)));
      }
      go false e = record {
        solution = recovered f W L G;
        solves = solves;
        factor = L;
        positive = r.positive;
        same = λ x. recovered-avoiding f W L G (general_at S x) (form_at (Avoids f) S.general x (avoids_nothing f) (none_mention f S.general e));
      }

  pub eliminated-same : ((F : ℕ → WholePolynomial) → IsSolution F S → IsCovered S f W L fresh F) → ((G : ℕ → WholePolynomial) → Every (IsOwn G) (unknowns_after S f fresh) → IsServed S i f W L G) → HaveSameFields S (eliminated S i f W L fresh)
  eliminated-same c s = same_fields S (eliminated S i f W L fresh) (λ F h. forth F h (c F h)) (λ G h. back G h (s G h.own))
