-- The canonical text of a written system stays the same where an equation that is a derivative alone has it as its lead.
use Rattle.std.specs.Prelude.{ℕ, ◌≡◌, ◌<◌, List, [], ◌∷◌, ◌++◌, map, codes, take, drop, pos, Option, Some, None, refl}
use Rattle.std.specs.List.{flat_map, AllByRecursion as Every}
use Rattle.std.proofs.Common.{sym, ap, ap₂, ◌∙◌, subst, arith, append_assoc}
use Rattle.lie_math.specs.FiniteSum as finite
use Rattle.lie_math.specs.FiniteSumLaws.{same_list, plus_comm}
use Rattle.lie_math.specs.Monomial.{Monomial, powers, single}
use Rattle.lie_math.specs.Polynomial.{WholePolynomial, terms, variable, 0ᴾ, negᴾ, ◌+ᴾ◌}
use Rattle.lie_math.specs.PolynomialRing.{negᴾ_l}
use Rattle.lie_geometry.specs.Coordinates.{Space, Coordinate, coordinate, coordinates_up_to, number}
use Rattle.lie_geometry.proofs.NumberOrder.{order_below}
use Rattle.lie_geometry.proofs.Numbers.{coordinate_is}
use Rattle.lie_jet.specs.Jets.{IsSmall}
use Rattle.lie_canonical.specs.CanonicalText.{polynomial_text, right_side, sides_text, equation_text, canonical_text}
use Rattle.lie_system.specs.LeadsAlone.{lead_alone, lead_or, with_lead, with_leads}
use Rattle.lie_system.specs.Systems.{EquationRead, SystemRead}
use Rattle.lie_system.specs.Written.{IsWritten, HasWrittenSides, IsWrittenSystem}
use Rattle.lie_print.specs.Printing.{names_line, coordinate_text, variable_text, sum_text}
use Rattle.lie_canonical.specs.RightSides.{plain_terms}
use Rattle.lie_system.proofs.DerivativesAlone.{AreDerivative, alone-is}
use Rattle.lie_canonical.proofs.CanonicalLeads.{alone_text}
use Rattle.lie_system.proofs.LeadNumbers.{list-single}
use Rattle.lie_canonical.proofs.CanonicalTerms.{diff_low}
use Rattle.lie_canonical.proofs.PrintedPowers.{IsLowPower}
use Rattle.lie_canonical.proofs.PrintedSums.{IsLowTerm}
use Rattle.lie_print.proofs.PrintedVariables.{text_of}
use Rattle.lie_canonical.proofs.RightSideLists.{list-term}

-- ---- a derivative alone
-- such a polynomial is that variable
pub variable_is : (S : Space) → IsSmall S → (diff : WholePolynomial) (c : Coordinate) → AreDerivative S diff.list c → diff ≡ variable (number S c)
variable_is S small diff c h =
    let is : h.variable ≡ number S c = sym ((coordinate_is S small.some_p small.some_q h.variable).1) ∙ ap (number S) h.is in
    let alone : h.monomial ≡ single (number S c) = same_list powers h.monomial (single (number S c)) (h.powers ∙ ap (λ (w : ℕ). (w, 1) ∷ []) is ∙ sym (list-single (number S c))) in
    same_list terms diff (variable (number S c)) (h.terms ∙ ap (λ (m : Monomial). (m, pos 1) ∷ []) alone ∙ sym (list-term (single (number S c))))

-- the lead minus itself
nothing_left : (S : Space) → IsSmall S → (diff : WholePolynomial) (c : Coordinate) → AreDerivative S diff.list c → right_side S c diff ≡ 0ᴾ
nothing_left S small diff c h =
    let x : WholePolynomial = variable (number S c) in
    ap (λ p. x +ᴾ negᴾ p) (variable_is S small diff c h) ∙ plus_comm terms x (negᴾ x) ∙ negᴾ_l x

zero_text : (S : Space) (names : List ℕ) → polynomial_text S names 0ᴾ ≡ codes "0"
unfolding finite.none finite.of
zero_text S names = refl

low_text : (S : Space) → IsSmall S → (names : List ℕ) (w : ℕ) → w < coordinates_up_to S 6 → variable_text S names w ≡ coordinate_text S names (coordinate S w)
low_text S small names w low =
    let o = (order_below S small.some_p small.some_q w 6).1 low in
    text_of S names w (coordinate S w) ((order_below S small.some_p small.some_q w 12).0 (omega arith)) refl

-- the text of such a polynomial
derivative_text : (S : Space) → IsSmall S → (names : List ℕ) (diff : WholePolynomial) (c : Coordinate) → Every (IsLowTerm S) diff.list → AreDerivative S diff.list c → polynomial_text S names diff ≡ coordinate_text S names c
derivative_text S small names diff c low h =
    let all : Every (IsLowTerm S) ((h.monomial, pos 1) ∷ []) = subst (Every (IsLowTerm S)) h.terms low in
    let one : Every (IsLowPower S) ((h.variable, 1) ∷ []) = subst (Every (IsLowPower S)) h.powers (all.0).powers in
    ap (λ l. sum_text S names (plain_terms l)) h.terms ∙ alone_text S names h.monomial h.variable h.powers ∙ low_text S small names h.variable (one.0).variable ∙ ap (coordinate_text S names) h.is

-- ---- texts
module _ (S : Space) (small : IsSmall S) (names : List ℕ) where
  sides_stay : (diff : WholePolynomial) → Every (IsLowTerm S) diff.list → sides_text S names (lead_alone S diff.list) diff ≡ sides_text S names None diff
  sides_stay diff low = go (lead_alone S diff.list) refl
    where
      go : (o : Option Coordinate) → lead_alone S diff.list ≡ o → sides_text S names o diff ≡ sides_text S names None diff
      go None e = refl
      go (Some c) e =
          let h = alone-is S diff.list c e in
          ap (λ p. coordinate_text S names c ++ codes " = " ++ polynomial_text S names p) (nothing_left S small diff c h) ∙ ap (λ l. coordinate_text S names c ++ codes " = " ++ l) (zero_text S names)
          ∙ append_assoc (coordinate_text S names c) (codes " = ") (codes "0") ∙ ap (λ l. l ++ codes " = 0") (sym (derivative_text S small names diff c low h))

  equation_stays : (e : EquationRead) → Every (IsLowTerm S) (e.diff).list → equation_text S names (with_lead S e) ≡ equation_text S names e
  equation_stays e low = go e.lead
    where
      go : (o : Option Coordinate) → codes "eq " ++ sides_text S names (lead_or o (lead_alone S (e.diff).list)) e.diff ++ codes "\n" ≡ codes "eq " ++ sides_text S names o e.diff ++ codes "\n"
      go (Some c) = refl
      go None = ap (λ l. codes "eq " ++ l ++ codes "\n") (sides_stay e.diff low)

  equations_stay : (es : List EquationRead) → Every (IsWritten S) es → Every (HasWrittenSides S) es
      → flat_map (equation_text S names) (map (with_lead S) es) ≡ flat_map (equation_text S names) es
  equations_stay [] w h = refl
  equations_stay (e ∷ es) w h = ap₂ ◌++◌ (equation_stays e (diff_low S small e w.0 h.0)) (equations_stay es w.1 h.1)

pub canonical_stays : (s : SystemRead) → IsWrittenSystem s → canonical_text (with_leads s) ≡ canonical_text s
unfolding canonical_text
canonical_stays s h =
    ap (λ l. codes "lie 1\n" ++ names_line (codes "vars") (take (s.space).p s.names) ++ names_line (codes "deps") (drop (s.space).p s.names)
    ++ l ++ codes "end\n")
    (equations_stay s.space h.small s.names s.equations (h.written).equations h.sides)
