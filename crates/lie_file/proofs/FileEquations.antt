-- The system of a file can be written: its equations are in coordinates of orders up to 6, and its names are letters that differ.
use Rattle.std.specs.Prelude.{
  ◌≡◌,
  ℕ,
  ◌+◌,
  ◌-◌,
  ◌≤◌,
  ◌<◌,
  ◌^◌,
  unsigned_abs,
  List,
  [],
  ◌∷◌,
  ◌++◌,
  length,
  map,
  Option,
  Some,
  None,
  Ok,
  IfSome,
  codes,
}
use Rattle.std.proofs.Common.{sym, ap, subst, ◌∙◌, arith}
use Rattle.std.specs.List.{AllByRecursion as Every}
use Rattle.std.proofs.lemmas.Bool.Decides.{leb_tells}
use Rattle.std.proofs.lemmas.List.{length-map}
use Rattle.lie_math.specs.FiniteSumLaws.{value-of}
use Rattle.lie_math.specs.Integer.{coefficients}
use Rattle.lie_math.specs.Monomial.{monomial_cmp}
use Rattle.lie_math.specs.Polynomial.{WholePolynomial, terms, coefficient}
use Rattle.lie_math.specs.SortedSum.{value_at}
use Rattle.lie_geometry.specs.Coordinates.{Space, Coordinate, coordinates_up_to}
use Rattle.lie_jet.specs.Jets.{IsSmall}
use Rattle.lie_system.specs.Systems.{EquationRead, SystemRead}
use Rattle.lie_scan.specs.SumGrammar.{HasLead, IsEquation}
use Rattle.lie_file.specs.FileGrammar.{AreEquations, AreSystem, IsFile}
use Rattle.lie_scan.proofs.FileCoordinates.{coordinate_good}
use Rattle.lie_scan.proofs.TermLimits.{value_bound}
use Rattle.lie_file.proofs.DistinctNames.{system_letters}
use Rattle.lie_file.proofs.FileTerms.{equation_low}
use Rattle.lie_file.proofs.LeadSides.{lead_room}
use Rattle.lie_file.proofs.WellNamed.{well_named}
use Rattle.lie_system.specs.Written.{AreDistinctLetters, IsLow, IsWritten, AreWritten, HasRoomBeside, HasWrittenSides, IsWrittenSystem}
use Rattle.lie_system.specs.declared.equation.Equation.{Equation}
use Rattle.lie_system.specs.Equations.{equation_read, HasJet, AreKept}
use Rattle.lie_system.proofs.KeptEquations.{written_kept}
use Rattle.lie_file.specs.FileLines.{after_header, names_of}
use Rattle.lie_file.specs.Files.{equations_from, space_of, system_of}
use Rattle.lie_file.proofs.FileLaws.{system_of-is}

module _ (S : Space) (small : IsSmall S) (names : List ℕ) (many : length names ≡ S.p + S.q) where
  lead_low : (text : List ℕ) (lead : Option Coordinate) → HasLead S names text lead → IfSome lead (IsLow S)
  lead_low text None h = tt
  lead_low text (Some c) h = let g = coordinate_good S small names many text c h.behind h.alone in record { coordinate = g.coordinate; some = h.derivative; low = g.low }

  equation_written : (text : List ℕ) (e : EquationRead) → IsEquation S names text e → IsWritten S e
  equation_written text e h = record {
    lead = lead_low text e.lead h.lead;
    diff = λ v out m n. (equation_low S small names many text e h m n).variables v (let k : coordinates_up_to S 6 ≤ v = grind (arith, leb_tells) in k);
  }

  lead_sides : (text : List ℕ) (e : EquationRead) → IsEquation S names text e → (lead : Option Coordinate) → HasLead S names text lead
      → IfSome lead (HasRoomBeside S e.diff)
  lead_sides text e h None k = tt
  lead_sides text e h (Some c) k = lead_room S names text e c h k

  equation_sides : (text : List ℕ) (e : EquationRead) → IsEquation S names text e → HasWrittenSides S e
  equation_sides text e h = record {
    exponents = λ m n. (equation_low S small names many text e h m n).exponents;
    numbers = λ m.
        let at : coefficient e.diff m ≡ value_at monomial_cmp coefficients m (h.left ++ h.right) =
        ap (λ (p : WholePolynomial). coefficient p m) h.means ∙ value-of terms (h.left ++ h.right) m in
        let same = ap unsigned_abs at in
        let bound = value_bound m (h.left ++ h.right) in
        let low = h.small m in
        let fits : unsigned_abs (coefficient e.diff m) < 2 ^ 127 = omega arith in
        fits;
    lead = lead_sides text e h e.lead h.lead;
  }

  equations_sides : (lines : List (List ℕ)) (es : List EquationRead) → AreEquations S names lines es → Every (HasWrittenSides S) es
  equations_sides [] es h = absurd h
  equations_sides (l ∷ ls) [] h = tt
  equations_sides (l ∷ ls) (e ∷ es) h = (equation_sides h.0.0 e h.0.2, equations_sides ls es h.1)

  equations_written : (lines : List (List ℕ)) (es : List EquationRead) → AreEquations S names lines es → Every (IsWritten S) es
  equations_written [] es h = absurd h
  equations_written (l ∷ ls) [] h = tt
  equations_written (l ∷ ls) (e ∷ es) h = (equation_written h.0.0 e h.0.2, equations_written ls es h.1)

system_written : (contents : List (List ℕ)) (s : SystemRead) → AreSystem contents s → AreWritten s.space s.equations
system_written contents s h =
    let n = well_named contents s h in
    record { few = h.few; equations = equations_written s.space n.small s.names n.many h.body s.equations h.body_is }

all_written : (contents : List (List ℕ)) (s : SystemRead) → AreSystem contents s → IsWrittenSystem s
all_written contents s h =
    let n = well_named contents s h in
    record {
      small = n.small;
      named = n.many;
      letters = system_letters contents s h;
      some = h.some;
      written = system_written contents s h;
      sides = equations_sides s.space n.small s.names n.many h.body s.equations h.body_is;
    }

-- the system of a file
pub file_is_written : (bytes : List ℕ) (s : SystemRead) → IsFile bytes s → IsWrittenSystem s
file_is_written bytes s h = all_written _ s h.system

-- the equations that are read with jets as leads are kept, and there is a letter for each variable
pub record IsKeptSystem (S : Space) (names : List ℕ) (es : List Equation) : Type 0 where
  pub small : IsSmall S
  pub named : length names ≡ S.p + S.q
  pub letters : AreDistinctLetters names
  pub some : 1 ≤ length es
  pub kept : AreKept S es
  pub sides : Every (HasWrittenSides S) (map (equation_read S) es)

read_is_kept : (lines : List (List ℕ)) (S : Space) (names : List ℕ) (es : List Equation) → system_of lines ≡ Ok (record { space = S; names = names; equations = map (equation_read S) es }) → Every (HasJet S) es → IsKeptSystem S names es
read_is_kept lines S names es read jets =
    let h = system_of-is lines _ read in
    let w = all_written _ _ h in
    let count = length-map es (equation_read S) in
    let some = w.some in
    record {
      small = w.small;
      named = w.named;
      letters = w.letters;
      some = omega arith;
      kept = written_kept S es jets w.written;
      sides = w.sides;
    }

same_space : (S : Space) (p q : ℕ) → S.p ≡ p → S.q ≡ q → S ≡ record { p = p; q = q }
same_space S p q e f = λ i. record { p = e i; q = f i }

steps_are_kept : (lines ls more rest : List (List ℕ)) (ind names : List ℕ) (S : Space) (es : List Equation) → after_header lines ≡ Ok ls → names_of (codes "vars") [] ls ≡ Ok (ind, more) → names_of (codes "deps") ind more ≡ Ok (names, rest)
    → equations_from S names [] rest ≡ Ok (map (equation_read S) es) → S ≡ space_of ind names → Every (HasJet S) es → IsKeptSystem S names es
unfolding system_of
steps_are_kept lines ls more rest ind names S es header vars deps body space jets =
    let there : equations_from (space_of ind names) names [] rest ≡ Ok (map (equation_read S) es) = subst (λ T. equations_from T names [] rest ≡ Ok (map (equation_read S) es)) space body in
    let made : ◌≡◌ {A = SystemRead} (record { space = space_of ind names; names = names; equations = map (equation_read S) es }) (record { space = S; names = names; equations = map (equation_read S) es }) =
    ap (λ (T : Space). record { space = T; names = names; equations = map (equation_read S) es }) (sym space) in
    read_is_kept lines S names es (rw (header, vars, deps, there) (ap Ok made)) jets

-- the same of texts that are seen as slices
pub parts_are_kept : (lines ls more rest : List (List ℕ)) (k b d c n text ind names : List ℕ) (S : Space) (es : List Equation) → k ≡ codes "vars" → b ≡ [] → d ≡ codes "deps" → c ≡ ind → n ≡ names → text ≡ names
    → after_header lines ≡ Ok ls → names_of k b ls ≡ Ok (ind, more) → names_of d c more ≡ Ok (names, rest) → equations_from S n [] rest ≡ Ok (map (equation_read S) es)
    → S.p ≡ length ind → S.q ≡ length names - length ind → Every (HasJet S) es → IsKeptSystem S text es
parts_are_kept lines ls more rest k b d c n text ind names S es ke be de ce ne te header vars deps body p q jets =
    subst (λ t. IsKeptSystem S t es) (sym te)
    (steps_are_kept lines ls more rest ind names S es header
    (subst (λ x. names_of x [] ls ≡ Ok (ind, more)) ke (subst (λ y. names_of k y ls ≡ Ok (ind, more)) be vars))
    (subst (λ x. names_of x ind more ≡ Ok (names, rest)) de (subst (λ y. names_of d y more ≡ Ok (names, rest)) ce deps))
    (subst (λ y. equations_from S y [] rest ≡ Ok (map (equation_read S) es)) ne body) (same_space S (length ind) (length names - length ind) p q) jets)
