-- Faults of equations: what stops the reader is a fault of the grammar, and each such fault stops it.
use Rattle.std.specs.Prelude.{ℕ, ◌≡◌, ◌≤◌, Bool, true, false, ◌==◌, List, [], ◌∷◌, ◌++◌, length, ℤ, if◌then◌else◌, Ok, Err, refl}
use Rattle.std.proofs.Common.{sym, ap, ◌∙◌, subst, arith}
use Rattle.std.proofs.lemmas.Bool.Decides.{nat_tests}
use Rattle.lie_math.specs.Monomial.{Monomial}
use Rattle.lie_geometry.specs.Coordinates.{Space}
use Rattle.lie_scan.specs.declared.fault.BadKind.TheVariants.{Syntax}
use Rattle.lie_scan.specs.declared.stop.Stop.{Stop}
use Rattle.lie_scan.specs.Runs.{after_blanks}
use Rattle.lie_scan.specs.Stops.{stop, ◌>>=◌}
use Rattle.lie_scan.specs.Terms.{sum_at, equation_end, right_by, equation_of}
use Rattle.lie_file.specs.Files.{equation_at}
use Rattle.lie_scan.specs.TokenGrammar.{IsNot, IsSign}
use Rattle.lie_scan.specs.LineFaults.{AreWithin, IsEquationFault, in_left, no_equals, in_right, further_token}
use Rattle.lie_scan.proofs.Blanks.{blanks_to, mark_next}
use Rattle.lie_scan.proofs.SumLaws.{small_front, IsSumRead, sum_at-is, is-sum_at}
use Rattle.lie_file.proofs.LeadLaws.{equals_mark}
use Rattle.lie_file.proofs.EquationLaws.{none_small, before_equals}
use Rattle.lie_scan.proofs.CoordinateFaults.{err_is, bind_fails, other_fails}
use Rattle.lie_file.proofs.SumFaults.{sum_at-fails, is-sum_fault}

right_fails : (S : Space) (names text : List ℕ) (x : List (Monomial × ℤ) × List ℕ) (s : Stop) → IsSumRead S names false [] text x → right_by S names x.0 x.1 ≡ Err s → IsEquationFault S names text s
right_fails S names text x s left h = go x.1 refl h
  where
    within : AreWithin left.terms
    within = subst AreWithin left.put (left.small none_small)

    missing : (bs : List ℕ) → x.1 ≡ bs → IsNot 61 bs → stop Syntax bs ≡ s → AreWithin left.terms → IsEquationFault S names text s
    missing bs at not same small =
        let rest : after_blanks left.rest ≡ bs = sym left.left ∙ at in
        subst (IsEquationFault S names text) (ap (stop Syntax) rest ∙ same) (no_equals left.terms left.rest left.is small left.at_end (subst (IsNot 61) (sym rest) not))

    sides : (cs : List ℕ) → x.1 ≡ 61 ∷ cs → (sum_at S names true x.0 cs >>= equation_end) ≡ Err s → AreWithin left.terms → IsEquationFault S names text s
    sides cs at e small =
        let sign : IsSign 61 left.rest cs = blanks_to left.rest (61 ∷ cs) (sym left.left ∙ at) in
        let same : x.0 ≡ left.terms = left.put in
        let small_x : AreWithin x.0 = subst AreWithin (sym same) small in
        bind_fails (sum_at S names true x.0 cs) equation_end s e
        (λ k. in_right left.terms left.rest cs s left.is small sign (sum_at-fails S names true left.terms cs s small (ap (λ l. sum_at S names true l cs) (sym same) ∙ k)))
        (λ y is_y k.
        let right = sum_at-is S names true x.0 cs y is_y in
        let all : y.0 ≡ left.terms ++ right.terms = right.put ∙ ap (λ l. l ++ right.terms) same in
        other_fails (length y.1 == 0) (stop Syntax y.1) s (Ok y.0) k
        (λ more place. subst (IsEquationFault S names text) (ap (stop Syntax) (sym right.left) ∙ place)
        (further_token left.terms right.terms left.rest cs right.rest left.is sign right.is (subst AreWithin all (right.small small_x)) right.at_end
        (subst (λ (l : List ℕ). 1 ≤ length l) right.left (grind (arith, nat_tests, more)))))
        (λ none k. cc))

    by_test : (c : ℕ) (cs : List ℕ) (t : Bool) → x.1 ≡ c ∷ cs → (c == 61) ≡ t → (if t then (sum_at S names true x.0 cs >>= equation_end) else Err (stop Syntax (c ∷ cs))) ≡ Err s
        → ((cs : List ℕ) → x.1 ≡ 61 ∷ cs → (sum_at S names true x.0 cs >>= equation_end) ≡ Err s → IsEquationFault S names text s)
        → ((bs : List ℕ) → x.1 ≡ bs → IsNot 61 bs → stop Syntax bs ≡ s → IsEquationFault S names text s) → IsEquationFault S names text s
    by_test c cs true at test e k l = let is : c ≡ 61 = grind (arith, nat_tests, test) in k cs (at ∙ ap (λ b. b ∷ cs) is) e
    by_test c cs false at test e k l = l (c ∷ cs) at test (err_is (stop Syntax (c ∷ cs)) s e)

    go : (bs : List ℕ) → x.1 ≡ bs → right_by S names x.0 bs ≡ Err s → IsEquationFault S names text s
    go [] at e = missing [] at tt (err_is (stop Syntax []) s e) within
    go (c ∷ cs) at e = by_test c cs (c == 61) at refl e (λ ds is k. sides ds is k within) (λ bs is not same. missing bs is not same within)

pub equation_at-fails : (S : Space) (names text : List ℕ) (s : Stop) → equation_at S names text ≡ Err s → IsEquationFault S names text s
unfolding equation_at equation_of
equation_at-fails S names text s h = bind_fails (equation_of S names text) _ s h (λ e.
    bind_fails (sum_at S names false [] text) _ s e (λ k. in_left s (sum_at-fails S names false [] text s none_small k))
    (λ x is_x more. right_fails S names text x s (sum_at-is S names false [] text x is_x) more)) (λ ts is_ts rest. cc)

no_equals_by : (S : Space) (names : List ℕ) (ts : List (Monomial × ℤ)) (bs : List ℕ) → IsNot 61 bs → right_by S names ts bs ≡ Err (stop Syntax bs)
no_equals_by S names ts [] h = refl
no_equals_by S names ts (c ∷ cs) h = rw h refl

of-fault : (S : Space) (names text : List ℕ) (s : Stop) → IsEquationFault S names text s → equation_of S names text ≡ Err s
unfolding equation_of
of-fault S names text s (in_left r fault) = rw (is-sum_fault S names false [] text r fault) refl
of-fault S names text s (no_equals left rest sum small at_end not) = rw (is-sum_at S names false [] text left rest sum at_end small) (no_equals_by S names left (after_blanks rest) not)
of-fault S names text s (in_right left behind front r sum small sign fault) =
    rw (is-sum_at S names false [] text left behind sum (before_equals behind front sign) small, mark_next 61 behind front equals_mark sign, is-sum_fault S names true left front r fault) refl
of-fault S names text s (further_token left right behind front rest sum sign other small at_end more) =
    let some : (length (after_blanks rest) == 0) ≡ false = grind (arith, nat_tests, more) in
    rw (
      is-sum_at S names false [] text left behind sum (before_equals behind front sign) (small_front left right small),
      mark_next 61 behind front equals_mark sign,
      is-sum_at S names true left front right rest other at_end small,
      some,
    ) refl

pub is-equation_fault : (S : Space) (names text : List ℕ) (s : Stop) → IsEquationFault S names text s → equation_at S names text ≡ Err s
unfolding equation_at
is-equation_fault S names text s h = rw (of-fault S names text s h) refl
