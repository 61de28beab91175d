-- The terms of a written equation's canonical text can be printed and read again.
use Rattle.std.specs.Prelude.{ℕ, ◌+◌, ◌^◌, ◌≡◌, ◌≤◌, ◌<◌, ltb, Bool, true, false, cond, [], ◌∷◌, ℤ, pos, ◌+ℤ◌, neg_ℤ, unsigned_abs, refl}
use Rattle.std.specs.List.{AllByRecursion as Every}
use Rattle.std.specs.Ordering.{eq_by_cmp, nat_cmp}
use Rattle.std.proofs.Common.{sym, ap, subst, ◌∙◌, arith}
use Rattle.std.proofs.lemmas.Bool.Decides.{nat_tests}
use Rattle.lie_math.specs.Monomial.{Monomial, monomial_cmp, powers, unit, single}
use Rattle.lie_math.specs.Polynomial.{WholePolynomial, terms, coefficient}
use Rattle.lie_math.proofs.FiniteSum.{key, entries_of}
use Rattle.lie_math.proofs.Monomial.{exponent-single}
use Rattle.lie_geometry.specs.Coordinates.{Space, Coordinate, number, coordinates_up_to}
use Rattle.lie_jet.specs.Jets.{IsSmall}
use Rattle.lie_canonical.specs.CanonicalText.{right_side}
use Rattle.lie_system.specs.Systems.{EquationRead}
use Rattle.lie_system.specs.Written.{IsLow, IsWritten, HasRoomBeside, HasWrittenSides}
use Rattle.lie_scan.specs.Meaning.{size_of}
use Rattle.lie_scan.proofs.FileCoordinates.{good_number}
use Rattle.lie_file.proofs.FileTerms.{IsLowMonomial}
use Rattle.lie_file.proofs.LeadSides.{small_single}
use Rattle.lie_canonical.proofs.PrintedMonomials.{low_powers}
use Rattle.lie_canonical.proofs.PrintedSizes.{read_size, right_value, solved_small, unsolved_small}
use Rattle.lie_canonical.proofs.PrintedSums.{IsLowTerm, read_terms}
use Rattle.lie_scan.proofs.SumLaws.{small_front}
use Rattle.lie_scan.proofs.TermLaws.{AreSmall}

-- the terms of a polynomial by its monomials and numbers
low_terms : (S : Space) (P : WholePolynomial) → ((m : Monomial) → ¬ (coefficient P m ≡ pos 0) → IsLowMonomial S m) → ((m : Monomial) → unsigned_abs (coefficient P m) < 2 ^ 127) → Every (IsLowTerm S) P.list
low_terms S P low fits = entries_of terms P (IsLowTerm S) (λ e is apart.
    let m : IsLowMonomial S e.0 = low e.0 (λ z. apart (sym is ∙ z)) in
    record { powers = low_powers S e.0 m.variables m.exponents; exponents = m.exponents; fits = subst (λ (z : ℤ). unsigned_abs z < 2 ^ 127) is (fits e.0) })

single_low : (S : Space) (w : ℕ) → w < coordinates_up_to S 6 → IsLowMonomial S (single w)
single_low S w low = record { variables = λ v le. exponent-single w v ∙ go v le (eq_by_cmp nat_cmp v w) refl; exponents = small_single w }
  where
    go : (v : ℕ) → coordinates_up_to S 6 ≤ v → (b : Bool) → eq_by_cmp nat_cmp v w ≡ b → ◌≡◌ {A = ℕ} (cond b 1 0) 0
    go v le true e = let s : v ≡ w = key powers v w e in absurd (omega arith)
    go v le false e = refl

module _ (S : Space) (small : IsSmall S) (e : EquationRead) (w : IsWritten S e) (h : HasWrittenSides S e) where
  -- without a lead
  pub read_small : AreSmall (read_terms false (e.diff).list)
  read_small = small_front (read_terms false (e.diff).list) ((unit, pos 0) ∷ []) (unsolved_small e.diff h.numbers)

  diff_monomial : (m : Monomial) → ¬ (coefficient e.diff m ≡ pos 0) → IsLowMonomial S m
  diff_monomial m n = record {
    variables = λ v le. w.diff v (let out : ltb v (coordinates_up_to S 6) ≡ false = grind (arith, nat_tests, le) in out) m n;
    exponents = h.exponents m n;
  }

  pub diff_low : Every (IsLowTerm S) (e.diff).list
  diff_low = low_terms S e.diff diff_monomial h.numbers

  module _ (c : Coordinate) (lead : IsLow S c) (room : HasRoomBeside S e.diff c) where
    right_monomial : (m : Monomial) → ¬ (coefficient (right_side S c e.diff) m ≡ pos 0) → IsLowMonomial S m
    right_monomial m n = go (eq_by_cmp monomial_cmp m (single (number S c))) refl (right_value S c e.diff m)
      where
        go : (b : Bool) → eq_by_cmp monomial_cmp m (single (number S c)) ≡ b
            → coefficient (right_side S c e.diff) m ≡ cond b (pos 1) (pos 0) +ℤ neg_ℤ (coefficient e.diff m) → IsLowMonomial S m
        go true f is =
            subst (IsLowMonomial S) (sym (key terms m (single (number S c)) f))
            (single_low S (number S c) (good_number S small c (record { coordinate = lead.coordinate; low = lead.low })))
        go false f is = diff_monomial m (λ z. n (is ∙ ap (λ (x : ℤ). pos 0 +ℤ neg_ℤ x) z))

    -- with a lead
    pub right_low : Every (IsLowTerm S) (right_side S c e.diff).list
    right_low = low_terms S (right_side S c e.diff) right_monomial (λ m.
        let size = read_size true (right_side S c e.diff) m in
        bounded (eq_by_cmp monomial_cmp m (single (number S c))) (size_of m (read_terms true (right_side S c e.diff).list))
        (unsigned_abs (coefficient (right_side S c e.diff) m)) size (solved_small S e.diff c h.numbers room m))
      where
        bounded : (b : Bool) (n k : ℕ) → n ≡ k → cond b 1 0 + n < 2 ^ 127 → k < 2 ^ 127
        bounded true n k is lt = omega arith
        bounded false n k is lt = omega arith
