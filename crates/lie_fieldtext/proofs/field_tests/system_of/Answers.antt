use Rattle.std.specs.Prelude.{ℕ, ◌≡◌, ◌≤◌, ◌<◌, ◌^◌, ℤ, unsigned_abs, List, [], ◌∷◌, ◌++◌, length, map, None}
use Rattle.std.specs.List.{AllByRecursion as Every, IsDistinct}
use Rattle.std.proofs.Common.{refl, sym, ap, subst, ◌∙◌, arith}
use Rattle.std.proofs.lemmas.Bool.Decides.{nat_tests}
use Rattle.lie_math.specs.FiniteSumLaws.{value-none}
use Rattle.lie_math.specs.Polynomial.{WholePolynomial, terms, 0ᴾ}
use Rattle.lie_geometry.specs.Coordinates.{Space}
use Rattle.lie_jet.specs.Jets.{IsSmall}
use Rattle.lie_system.specs.declared.equation.Equation.{Equation}
use Rattle.lie_system.specs.Equations.{equation_read, AreKept}
use Rattle.lie_system.specs.Written.{AreDistinctLetters, HasWrittenSides}
use Rattle.lie_fieldtext.proofs.field_tests.system_of.Goals as goal

letters_apart : (n : ℕ) → 97 ≤ n → n < 117 → AreDistinctLetters (120 ∷ n ∷ 117 ∷ [])
unfolding IsDistinct
letters_apart n low high = record {
  letters = ((omega arith, omega arith), ((omega arith, omega arith), ((omega arith, omega arith), tt)));
  distinct = ((grind (arith, nat_tests, high), (refl, tt)), ((grind (arith, nat_tests, high), tt), (tt, tt)));
}

abbrev plane : Space
plane = record { p = 2; q = 1 }

plane_small : IsSmall plane
plane_small = record { some_p = omega arith; few_p = omega arith; some_q = omega arith; few_q = omega arith }

abbrev nothing : Equation
nothing = record { lead = None; diff = 0ᴾ }

nothing_kept : AreKept plane (nothing ∷ [])
nothing_kept = record { few = omega arith; equations = (record { lead = tt; diff = λ v out m n. absurd (n (value-none terms m)) }, tt) }

nothing_sides : Every (HasWrittenSides plane) (map (equation_read plane) (nothing ∷ []))
nothing_sides = (
  record {
    exponents = λ m n. absurd (n (value-none terms m));
    numbers = λ m. subst (λ (z : ℤ). unsigned_abs z < 2 ^ 127) (sym (value-none terms m)) (omega arith);
    lead = tt;
  },
  tt,
)

pub invariant_of-result-in-Some : goal.invariant_of-result-in-Some
invariant_of-result-in-Some c =
    let names : c.in-Some.names ≡ 120 ∷ c.args.second ∷ 117 ∷ [] = (rw c.in-Some.is at c.in_ok-names.ensures).0 ∙ c.as_slice.ensures in
    let zero : ◌≡◌ {A = Equation} (record { lead = None; diff = c.zero.result }) nothing =
    ap (λ (P : WholePolynomial). record { lead = None; diff = P }) c.zero.ensures in
    let equations : c.push.new.self.items ≡ nothing ∷ [] =
    c.in_ok-push.ensures.items
    ∙ ap (λ (l : List Equation). l ++ record { lead = None; diff = c.zero.result } ∷ []) c.new-equations.ensures.items
    ∙ ap (λ (e : Equation). e ∷ []) zero in
    record {
      small = plane_small;
      named = ap length names;
      letters = subst AreDistinctLetters (sym names) (letters_apart c.args.second c.requires.letter c.requires.before);
      some = subst (λ (es : List Equation). 1 ≤ length es) (sym equations) (omega arith);
      kept = subst (AreKept plane) (sym equations) nothing_kept;
      sides = subst (λ (es : List Equation). Every (HasWrittenSides plane) (map (equation_read plane) es)) (sym equations) nothing_sides;
    }
