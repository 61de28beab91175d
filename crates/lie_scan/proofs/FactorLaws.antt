-- The factors of a term: what is read is of the grammar, and what is of the grammar is read.
use Rattle.std.specs.Prelude.{ℕ, zero, suc, ◌≡◌, ◌≤◌, Bool, true, false, ◌==◌, nat_lt, List, [], ◌∷◌, length, if◌then◌else◌, Ok, refl}
use Rattle.std.specs.declared.result.Result.{Result}
use Rattle.std.proofs.Common.{sym, ap, ◌∙◌, subst, arith}
use Rattle.std.proofs.lemmas.Bool.Decides.{nat_tests}
use Rattle.lie_math.specs.Monomial.{Monomial, exponent, power_of, ◌·◌}
use Rattle.lie_math.proofs.Monomial.{exponent-·}
use Rattle.lie_geometry.specs.Coordinates.{Space}
use Rattle.lie_scan.specs.declared.fault.BadKind.TheVariants.{Exponent}
use Rattle.lie_scan.specs.declared.stop.Stop.{Stop}
use Rattle.lie_scan.specs.Runs.{after_blanks}
use Rattle.lie_scan.specs.Stops.{stop, ◌>>=◌}
use Rattle.lie_system.specs.Exponents.{HasSmallExponents}
use Rattle.lie_scan.specs.Meaning.{product}
use Rattle.lie_scan.specs.Tokens.{power_at}
use Rattle.lie_scan.specs.Turns.{Turn, goes_on, ends, after, turns, all_turns}
use Rattle.lie_scan.specs.Terms.{raised, factor_at, factor_by, factor_turn, factors_at}
use Rattle.lie_scan.specs.TokenGrammar.{IsSign, IsPower, IsNot}
use Rattle.lie_scan.specs.SumGrammar.{AreFactors}
use Rattle.lie_scan.proofs.Blanks.{bind_then, guard_then, ok_is, blanks_to, after_twice, IsMark, mark_next}
use Rattle.lie_scan.proofs.PowerLaws.{power_at-is, is-power_at}
use Rattle.lie_scan.proofs.ExponentSteps.{raised_small}
use Rattle.lie_scan.proofs.TurnSteps.{turns_on, turns_end}
use Rattle.lie_scan.proofs.FactorSteps.{factor_turn_takes}

pub star : IsMark 42
star = record { no_blank = refl }

-- ---- exponents
small_part : (m n : Monomial) → HasSmallExponents (m · n) → HasSmallExponents m
small_part m n h q = let e = exponent-· m n q in let s = h q in omega arith

pub small_before : (m : Monomial) (ps : List (ℕ × ℕ)) → HasSmallExponents (product m ps) → HasSmallExponents m
small_before m [] h = h
small_before m (p ∷ ps) h = small_part m (power_of p.0 p.1) (small_before (m · power_of p.0 p.1) ps h)

-- ---- one factor
pub record IsFactorRead (S : Space) (names : List ℕ) (m : Monomial) (text : List ℕ) (x : Monomial × List ℕ) : Type 0 where
  pub power : ℕ × ℕ
  pub is : IsPower S names text power x.1
  pub means : x.0 ≡ m · power_of power.0 power.1
  pub small : HasSmallExponents m → HasSmallExponents x.0

pub factor_at-is : (S : Space) (names : List ℕ) (m : Monomial) (text : List ℕ) (x : Monomial × List ℕ) → factor_at S names m text ≡ Ok x → IsFactorRead S names m text x
unfolding factor_at
factor_at-is S names m text x h =
    let t = after_blanks text in
    bind_then (power_at S names t) _ x h (λ p is_p more.
    bind_then (raised m p.0 t) _ x more (λ k is_k rest.
    let powered : Monomial = m · power_of p.0.0 p.0.1 in
    let g = guard_then (nat_lt 32 (exponent powered p.0.0)) (stop Exponent t) (Ok powered) k is_k in
    let low : exponent powered p.0.0 ≤ 32 = grind (arith, nat_tests, g.0) in
    let made : Monomial × List ℕ = (k, p.1) in
    let is : powered ≡ k = ok_is powered k g.1 in
    subst (IsFactorRead S names m text) (ok_is made x rest) (record {
      power = p.0;
      is = power_at-is S names text p is_p;
      means = sym is;
      small = λ small. subst HasSmallExponents is (raised_small m p.0.0 p.0.1 small low);
    })))

pub is-factor_at : (S : Space) (names : List ℕ) (m : Monomial) (text : List ℕ) (p : ℕ × ℕ) (rest : List ℕ) → IsPower S names text p rest → HasSmallExponents (m · power_of p.0 p.1) → factor_at S names m text ≡ Ok (m · power_of p.0 p.1, rest)
unfolding factor_at
is-factor_at S names m text p rest h small =
    let low = small p.0 in
    let fits : nat_lt 32 (exponent (m · power_of p.0 p.1) p.0) ≡ false = grind (arith, nat_tests, low) in
    rw (is-power_at S names text p rest h, fits) refl

-- blanks before a factor do not matter
pub factor_at-blanks : (S : Space) (names : List ℕ) (m : Monomial) (text : List ℕ) → factor_at S names m (after_blanks text) ≡ factor_at S names m text
unfolding factor_at
factor_at-blanks S names m text = rw (after_twice text) refl

-- ---- the further factors
pub record AreFactorsRead (S : Space) (names : List ℕ) (m : Monomial) (text : List ℕ) (x : Monomial × List ℕ) : Type 0 where
  pub powers : List (ℕ × ℕ)
  pub rest : List ℕ
  pub are : AreFactors S names text powers rest
  pub means : x.0 ≡ product m powers
  pub left : x.1 ≡ after_blanks rest
  pub no_star : IsNot 42 (after_blanks rest)
  pub small : HasSmallExponents m → HasSmallExponents x.0

module _ (S : Space) (names : List ℕ) where
  no_more : (m : Monomial) (text : List ℕ) (x : Monomial × List ℕ) → IsNot 42 (after_blanks text) → ◌≡◌ {A = Monomial × List ℕ} (m, after_blanks text) x → AreFactorsRead S names m text x
  no_more m text x not same = subst (AreFactorsRead S names m text) same (record { powers = []; rest = text; are = refl; means = refl; left = refl; no_star = not; small = λ small. small })

  one_more : (m : Monomial) (text cs : List ℕ) (x y : Monomial × List ℕ) → IsSign 42 text cs → factor_at S names m cs ≡ Ok y → AreFactorsRead S names y.0 y.1 x → AreFactorsRead S names m text x
  one_more m text cs x y sign is more =
      let factor = factor_at-is S names m cs y is in record {
        powers = factor.power ∷ more.powers;
        rest = more.rest;
        are = (cs, y.1, sign, factor.is, more.are);
        means = more.means ∙ ap (λ k. product k more.powers) factor.means;
        left = more.left;
        no_star = more.no_star;
        small = λ small. more.small (factor.small small);
      }

  step : (f : Monomial → List ℕ → Result (Monomial × List ℕ) Stop) (m : Monomial) (text : List ℕ) (x : Monomial × List ℕ)
      → ((k : Monomial) (t : List ℕ) → f k t ≡ Ok x → AreFactorsRead S names k t x) → (factor_turn S names m text >>= after f) ≡ Ok x → AreFactorsRead S names m text x
  step f m text x again h = go (after_blanks text) refl h
    where
      ended : (bs : List ℕ) → after_blanks text ≡ bs → IsNot 42 bs → ◌≡◌ {A = Monomial × List ℕ} (m, bs) x → AreFactorsRead S names m text x
      ended bs at not same = no_more m text x (subst (IsNot 42) (sym at) not) (ap (λ b. (m, b)) at ∙ same)

      by_test : (c : ℕ) (cs : List ℕ) (t : Bool) → after_blanks text ≡ c ∷ cs → (c == 42) ≡ t
          → ((if t then (factor_at S names m cs >>= λ x. Ok (goes_on x.0 x.1)) else Ok (ends (m, c ∷ cs))) >>= after f) ≡ Ok x
          → ((bs : List ℕ) → after_blanks text ≡ bs → IsNot 42 bs → ◌≡◌ {A = Monomial × List ℕ} (m, bs) x → AreFactorsRead S names m text x) → AreFactorsRead S names m text x
      by_test c cs false at test e k = k (c ∷ cs) at test (ok_is (m, c ∷ cs) x e)
      by_test c cs true at test e k =
          let is_star : c ≡ 42 = grind (arith, nat_tests, test) in
          let turn : Monomial × List ℕ → Result (Turn Monomial (Monomial × List ℕ)) Stop = λ y. Ok (goes_on y.0 y.1) in
          bind_then (factor_at S names m cs >>= turn) (after f) x e (λ z is_z next.
          bind_then (factor_at S names m cs) turn z is_z (λ y is_y made.
          one_more m text cs x y (blanks_to text (42 ∷ cs) (at ∙ ap (λ b. b ∷ cs) is_star)) is_y (again y.0 y.1 (subst (λ w. after f w ≡ Ok x) (sym (ok_is (goes_on y.0 y.1) z made)) next))))

      go : (bs : List ℕ) → after_blanks text ≡ bs → (factor_by S names m bs >>= after f) ≡ Ok x → AreFactorsRead S names m text x
      go [] at e = ended [] at tt (ok_is (m, []) x e)
      go (c ∷ cs) at e = by_test c cs (c == 42) at refl e ended

  factor_turns-is : (n : ℕ) (m : Monomial) (text : List ℕ) (x : Monomial × List ℕ) → turns (factor_turn S names) n m text ≡ Ok x → AreFactorsRead S names m text x
  factor_turns-is zero m text x h = cc
  factor_turns-is (suc n) m text x h = step (turns (factor_turn S names) n) m text x (λ k t. factor_turns-is n k t x) h

  pub factors_at-is : (m : Monomial) (text : List ℕ) (x : Monomial × List ℕ) → factors_at S names m text ≡ Ok x → AreFactorsRead S names m text x
  unfolding all_turns
  factors_at-is m text x h = factor_turns-is (suc (length text)) m text x h

  no_star : (m : Monomial) (bs : List ℕ) → IsNot 42 bs → factor_by S names m bs ≡ Ok (ends (m, bs))
  no_star m [] h = refl
  no_star m (c ∷ cs) h = rw h refl

  -- the factors in front are read, and then what is behind
  pub factors_pass : (m : Monomial) (text : List ℕ) (ps : List (ℕ × ℕ)) (rest : List ℕ) → AreFactors S names text ps rest → HasSmallExponents (product m ps)
      → factors_at S names m text ≡ factors_at S names (product m ps) rest
  factors_pass m text [] rest h small = ap (factors_at S names m) h
  factors_pass m text (p ∷ ps) rest h small =
      let n : Monomial = m · power_of p.0 p.1 in
      let factor : factor_at S names m h.0 ≡ Ok (n, h.1) = is-factor_at S names m h.0 p h.1 h.3 (small_before n ps small) in
      turns_on (factor_turn S names) (factor_turn_takes S names) m text n h.1 (rw (mark_next 42 text h.0 star h.2, factor) refl) ∙ factors_pass n h.1 ps rest h.4 small

  pub is-factors_at : (m : Monomial) (text : List ℕ) (ps : List (ℕ × ℕ)) (rest : List ℕ) → AreFactors S names text ps rest → IsNot 42 (after_blanks rest)
      → HasSmallExponents (product m ps) → factors_at S names m text ≡ Ok (product m ps, after_blanks rest)
  is-factors_at m text ps rest h no_more small =
      factors_pass m text ps rest h small ∙ turns_end (factor_turn S names) (factor_turn_takes S names) (product m ps) rest (product m ps, after_blanks rest) (no_star (product m ps) (after_blanks rest) no_more)
