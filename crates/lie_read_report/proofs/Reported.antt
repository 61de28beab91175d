-- Values that are found by what is written of them.
use Rattle.std.specs.Prelude.{ℕ, suc, ◌≡◌, ◌+◌, ◌-◌, ◌*◌, ◌<◌, ◌≤◌, ◌^◌, ltb, unsigned_abs, ℤ, List, [], ◌∷◌, ◌++◌, length, map, drop, take, get_or, Option, Some, None, Ok, Err, option_map, Bool, true, false, nat_eq, MatchBool, refl}
use Rattle.std.specs.declared.result.Result.{Result}
use Rattle.std.specs.Global.{Vec}
use Rattle.std.specs.Int.{IsGcd}
use Rattle.std.specs.List.{AllByRecursion as Every}
use Rattle.std.proofs.Common.{sym, ap, ap₂, ◌∙◌, subst, arith, append_assoc, add-one, drop-cons}
use Rattle.std.proofs.lemmas.Bool.Decides.{nat_tests}
use Rattle.std.proofs.lemmas.List.{append-nil}
use Rattle.std.proofs.lemmas.Nat.Gcd.{same_from_IsGcd}
use Rattle.std.proofs.Math.ListN.{drop_of_length-le}
use Rattle.lie_math.specs.Limits.{IsWithinLimits}
use Rattle.lie_math.specs.LinearSystem.{LinearSystem}
use Rattle.lie_math.specs.Monomial.{Monomial}
use Rattle.lie_math.specs.Polynomial.{WholePolynomial}
use Rattle.lie_math.specs.Variables.{IsIn}
use Rattle.lie_math.specs.VectorField.{VectorField}
use Rattle.lie_ring.specs.declared.ratio.Ratio.{Ratio}
use Rattle.lie_print.specs.Printing.{PrintedTerm}
use Rattle.lie_print.specs.PrintedTerms.{printed}
use Rattle.lie_print.specs.declared.printed_term.Term.{Term}
use Rattle.lie_report.specs.Reports.{Named, Found, Report, determining, symmetries, degree, entry_of}
use Rattle.lie_readback.specs.Readings.{Finds}
use Rattle.lie_readback.specs.declared.unread.Unread.{Unread}
use Rattle.lie_readback.specs.declared.unread.Unread.TheVariants.{Other, NoMemory}
use Rattle.lie_readback.specs.Groups.{drafted}
use Rattle.lie_readback.specs.SystemDrafts.{Draft}
use Rattle.lie_readback.specs.WellFormed.{AreNamed, size, IsWellFormed as IsWellFormedSystem}
use Rattle.lie_read_report.specs.FieldTerms.{term_at, terms_at, parts_from, written_field}
use Rattle.lie_read_report.specs.ReportDrafts as written
use Rattle.lie_read_report.specs.ReportDrafts.{BasisDraft}
use Rattle.lie_read_report.specs.WellFormed.{IsReportedPart, IsReportedField, IsReportedRatio, IsReportedEntry, IsReportedTable, IsReportedBasis, IsReportedFound, IsWellFormed, basis_written, report_written}
use Rattle.lie_read_report.proofs.Told.{field_is, parts_told, found_is}

-- ---- terms
pub at_more : (place : ℕ) (xs : List Term) (i : ℕ) (x : Term) (list more all : List (Monomial × ℤ)) → i < length xs → x ≡ get_or xs i x → more ≡ list ++ term_at place (printed x)
    → list ++ terms_at place (map printed (drop i xs)) ≡ all → more ++ terms_at place (map printed (drop (i + 1) xs)) ≡ all
at_more place xs i x list more all lt is put so_far =
    ap₂ (λ (l : List (Monomial × ℤ)) (k : ℕ). l ++ terms_at place (map printed (drop k xs))) put (add-one i)
    ∙ append_assoc list (term_at place (printed x)) (terms_at place (map printed (drop (suc i) xs)))
    ∙ ap (λ l. list ++ l) (sym (ap (λ ts. terms_at place (map printed ts)) (drop-cons xs i x lt ∙ ap (λ (y : Term). y ∷ drop (suc i) xs) (sym is)))) ∙ so_far

pub at_done : (place : ℕ) (xs : List Term) (i : ℕ) (list all : List (Monomial × ℤ)) → length xs ≤ i → list ++ terms_at place (map printed (drop i xs)) ≡ all → list ≡ all
at_done place xs i list all past so_far = sym (append-nil list) ∙ ap (λ ts. list ++ terms_at place (map printed ts)) (sym (drop_of_length-le xs past)) ∙ so_far

-- ---- parts
module _ (n : ℕ) (ts : List (Monomial × ℤ)) where
  pub part_err : (us : List (Monomial × ℤ)) → us ≡ ts → (e : Unread) → Finds {X = WholePolynomial} (λ P. P) IsWithinLimits (λ P. P.list) us (Err e)
      → Finds {X = WholePolynomial} (λ P. P) (IsReportedPart n) (λ P. P.list) ts (Err e)
  part_err us same Other h = λ P k is. h P k.within (is ∙ sym same)
  part_err us same NoMemory h = tt

  pub part_none : (us : List (Monomial × ℤ)) → us ≡ ts → (P : WholePolynomial) → ((Q : WholePolynomial) → IsWithinLimits Q → Q.list ≡ us → P ≡ Q) → ¬ (IsIn (λ v. ltb v n) P)
      → (Q : WholePolynomial) → IsReportedPart n Q → ¬ (Q.list ≡ ts)
  part_none us same P found high Q k is = high (subst (IsIn (λ v. ltb v n)) (sym (found Q k.within (is ∙ sym same))) k.below)

pub parts_next : (n i : ℕ) (ts : List PrintedTerm) → i < n → parts_from (n - i) i ts ≡ terms_at i ts ∷ parts_from (n - (i + 1)) (i + 1) ts
parts_next n i ts lt = let e : n - i ≡ suc (n - (i + 1)) = omega arith in ap (λ k. parts_from k i ts) e

pub parts_end : (n i : ℕ) (ts : List PrintedTerm) → n ≤ i → parts_from (n - i) i ts ≡ []
parts_end n i ts le = let e : n - i ≡ 0 = omega arith in ap (λ k. parts_from k i ts) e

-- ---- fields
module _ (n : ℕ) (us ts : List Term) (same : us ≡ ts) where
  told_here : (V : VectorField) → IsReportedField n V → written_field V ≡ map printed ts → map (λ P. P.list) V.parts ≡ parts_from n 0 (map printed us)
  told_here V k is = parts_told n V k (map printed us) (is ∙ ap (map printed) (sym same))

  pub field_err : (e : Unread) → Finds {X = Vec WholePolynomial} (λ Ps. Ps.items) (Every (IsReportedPart n)) (map (λ P. P.list)) (parts_from n 0 (map printed us)) (Err e)
      → Finds {X = VectorField} (λ V. V) (IsReportedField n) written_field (map printed ts) (Err e)
  field_err Other h = λ V k is. h V.parts k.parts (told_here V k is)
  field_err NoMemory h = tt

  pub field_found : (V : VectorField) (Ps : List WholePolynomial) → V.denominator ≡ 1 → V.parts ≡ Ps
      → ((Qs : List WholePolynomial) → Every (IsReportedPart n) Qs → map (λ P. P.list) Qs ≡ parts_from n 0 (map printed us) → Ps ≡ Qs)
      → (W : VectorField) → IsReportedField n W → written_field W ≡ map printed ts → V ≡ W
  field_found V Ps one are found W k is = field_is V W (one ∙ sym k.over_one) (are ∙ found W.parts k.parts (told_here W k is))

-- ---- ratios
pub lowest_decided : (r : Ratio) (g : ℕ) → unsigned_abs r.num < 2 ^ 127 → r.den < 2 ^ 127 → 1 ≤ r.den → IsGcd (unsigned_abs r.num) r.den g
    → MatchBool (nat_eq g 1) (IsReportedRatio r) (¬ (IsReportedRatio r))
lowest_decided r g num den some h = go (nat_eq g 1) refl
  where
    go : (b : Bool) → nat_eq g 1 ≡ b → MatchBool b (IsReportedRatio r) (¬ (IsReportedRatio r))
    go true e =
        let one : g ≡ 1 = grind (arith, nat_tests, e) in
        record { num = num; den = den; positive = some; lowest = subst (IsGcd (unsigned_abs r.num) r.den) one h }
    go false e = λ k.
        let one = same_from_IsGcd (unsigned_abs r.num) r.den g 1 h k.lowest in
        let other : ¬ (g ≡ 1) = grind (arith, nat_tests, e) in
        other one

-- ---- entries
pub every_unmapped : {X Y : Type 0} (P : Y → Type 0) (g : X → Y) (xs : List X) → Every P (map g xs) → Every (λ x. P (g x)) xs
every_unmapped P g [] h = tt
every_unmapped P g (x ∷ xs) h = (h.0, every_unmapped P g xs h.1)

-- ---- bases
module _ {X : Type 0} (view : X → Found) (n : ℕ) (D : BasisDraft) where
  pub basis_err : (e : Unread) → Finds {X = Vec VectorField} (λ Vs. Vs.items) (Every (IsReportedField n)) (map written_field) D.fields (Err e) → Finds view (IsReportedBasis n) basis_written D (Err e)
  basis_err Other h = λ B k is. h B.fields (k.fields).each (ap (λ (x : BasisDraft). x.fields) is)
  basis_err NoMemory h = tt

  module _ (Vs : List VectorField) (found : (Ws : List VectorField) → Every (IsReportedField n) Ws → map written_field Ws ≡ D.fields → Vs ≡ Ws) where
    pub basis_none : ¬ (IsReportedTable (length Vs) D.table) → (B : Found) → IsReportedBasis n B → ¬ (basis_written B ≡ D)
    basis_none other B k is =
        let same = found B.fields (k.fields).each (ap (λ (x : BasisDraft). x.fields) is) in
        other (subst (λ Ws. IsReportedTable (length Ws) D.table) (sym same) (subst (IsReportedTable (length B.fields)) (ap (λ (x : BasisDraft). x.table) is) k.table))

    pub basis_found : (B : Found) → IsReportedBasis n B → basis_written B ≡ D → record { fields = Vs; table = D.table } ≡ B
    basis_found B k is =
        found_is (record { fields = Vs; table = D.table }) B (found B.fields (k.fields).each (ap (λ (x : BasisDraft). x.fields) is)) (sym (ap (λ (x : BasisDraft). x.table) is))

pub some_found : (n : ℕ) (D : BasisDraft) (B : Found) → ((C : Found) → IsReportedBasis n C → basis_written C ≡ D → B ≡ C)
    → (C : Option Found) → IsReportedFound n C → option_map basis_written C ≡ Some D → Some B ≡ C
some_found n D B found None k is = cc
some_found n D B found (Some C) k is = let e : basis_written C ≡ D = cc in ap (λ (x : Found). Some x) (found C k e)

pub some_err : {X Y : Type 0} (view : X → Found) (more : Y → Option Found) (n : ℕ) (D : BasisDraft) (e : Unread) → Finds view (IsReportedBasis n) basis_written D (Err e)
    → Finds more (IsReportedFound n) (option_map basis_written) (Some D) (Err e)
some_err view more n D Other h = λ C k is. go C k is
  where
    go : (C : Option Found) → IsReportedFound n C → ¬ (option_map basis_written C ≡ Some D)
    go None k is = cc
    go (Some C) k is = let e : basis_written C ≡ D = cc in h C k e
some_err view more n D NoMemory h = tt

pub none_found : (n : ℕ) (C : Option Found) → IsReportedFound n C → option_map basis_written C ≡ None → None ≡ C
none_found n None k is = refl
none_found n (Some C) k is = cc

-- ---- reports
module _ {X Y : Type 0} (view : X → Report) (seen : Y → Named × LinearSystem) (D : Draft) where
  pub determining_err : (e : Unread) → Finds seen IsWellFormedSystem drafted D (Err e) → Finds view IsWellFormed report_written (written.determining D) (Err e)
  determining_err Other h = go
    where
      go : (R : Report) → IsWellFormed R → ¬ (report_written R ≡ written.determining D)
      go (determining N T) w is = let d : drafted (N, T) ≡ D = cc in h (N, T) w d
      go (symmetries N T C) w is = cc
      go (degree N most Vs) w is = cc
  determining_err NoMemory h = tt

  pub symmetries_err : (B : Option BasisDraft) (e : Unread) → Finds seen IsWellFormedSystem drafted D (Err e) → Finds view IsWellFormed report_written (written.symmetries D B) (Err e)
  symmetries_err B Other h = go
    where
      go : (R : Report) → IsWellFormed R → ¬ (report_written R ≡ written.symmetries D B)
      go (determining N T) w is = cc
      go (symmetries N T C) w is = let d : drafted (N, T) ≡ D = cc in h (N, T) w.0 d
      go (degree N most Vs) w is = cc
  symmetries_err B NoMemory h = tt

module _ (D : Draft) (t : Named × LinearSystem) (found : (s : Named × LinearSystem) → IsWellFormedSystem s → drafted s ≡ D → t ≡ s) where
  pub determining_found : (R : Report) → IsWellFormed R → report_written R ≡ written.determining D → determining t.0 t.1 ≡ R
  determining_found (determining N T) w is = let d : drafted (N, T) ≡ D = cc in ap (λ (s : Named × LinearSystem). determining s.0 s.1) (found (N, T) w d)
  determining_found (symmetries N T C) w is = cc
  determining_found (degree N most Vs) w is = cc

  -- a basis in a report with this system
  same_size : (N : Named) (T : LinearSystem) (C : Option Found) → t ≡ (N, T) → IsReportedFound (size N) C → IsReportedFound (size t.0) C
  same_size N T C same k = subst (λ (s : Named × LinearSystem). IsReportedFound (size s.0) C) (sym same) k

  pub symmetries_found : (B : Option BasisDraft) (n : ℕ) (f : Option Found) → n ≡ size t.0 → ((C : Option Found) → IsReportedFound n C → option_map basis_written C ≡ B → f ≡ C)
      → (R : Report) → IsWellFormed R → report_written R ≡ written.symmetries D B → symmetries t.0 t.1 f ≡ R
  symmetries_found B n f many basis (determining N T) w is = cc
  symmetries_found B n f many basis (symmetries N T C) w is =
      let d : drafted (N, T) ≡ D = cc in
      let b : option_map basis_written C ≡ B = cc in
      let same = found (N, T) w.0 d in
      ap₂ (λ (s : Named × LinearSystem) (g : Option Found). symmetries s.0 s.1 g) same (basis C (subst (λ k. IsReportedFound k C) (sym many) (same_size N T C same w.1)) b)
  symmetries_found B n f many basis (degree N most Vs) w is = cc

  pub found_err : {X Y : Type 0} (view : X → Report) (more : Y → Option Found) (B : Option BasisDraft) (n : ℕ) → n ≡ size t.0 → (e : Unread) → Finds more (IsReportedFound n) (option_map basis_written) B (Err e)
      → Finds view IsWellFormed report_written (written.symmetries D B) (Err e)
  found_err view more B n many Other h = go
    where
      go : (R : Report) → IsWellFormed R → ¬ (report_written R ≡ written.symmetries D B)
      go (determining N T) w is = cc
      go (symmetries N T C) w is =
          let d : drafted (N, T) ≡ D = cc in
          let b : option_map basis_written C ≡ B = cc in
          h C (subst (λ k. IsReportedFound k C) (sym many) (same_size N T C (found (N, T) w.0 d) w.1)) b
      go (degree N most Vs) w is = cc
  found_err view more B n many NoMemory h = tt

module _ (N : Named) (most : ℕ) (drafts : List (List PrintedTerm)) where
  same_fields : (n : ℕ) (M : Named) (Ws : List VectorField) → n ≡ size N → N ≡ M → Every (IsReportedField (size M)) Ws → Every (IsReportedField n) Ws
  same_fields n M Ws many same h = subst (λ k. Every (IsReportedField k) Ws) (ap size (sym same) ∙ sym many) h

  pub degree_err : {X : Type 0} (view : X → Report) (n : ℕ) → n ≡ size N → (e : Unread) → Finds {X = Vec VectorField} (λ Vs. Vs.items) (Every (IsReportedField n)) (map written_field) drafts (Err e)
      → Finds view IsWellFormed report_written (written.degree N most drafts) (Err e)
  degree_err view n many Other h = go
    where
      go : (R : Report) → IsWellFormed R → ¬ (report_written R ≡ written.degree N most drafts)
      go (determining M T) w is = cc
      go (symmetries M T C) w is = cc
      go (degree M least Ws) w is =
          let m : N ≡ M = cc in
          let e : map written_field Ws ≡ drafts = cc in
          h Ws (same_fields n M Ws many m (w.1.1).each) e
  degree_err view n many NoMemory h = tt

  pub degree_found : (n : ℕ) (Vs : List VectorField) → n ≡ size N → ((Ws : List VectorField) → Every (IsReportedField n) Ws → map written_field Ws ≡ drafts → Vs ≡ Ws)
      → (R : Report) → IsWellFormed R → report_written R ≡ written.degree N most drafts → degree N most Vs ≡ R
  degree_found n Vs many found (determining M T) w is = cc
  degree_found n Vs many found (symmetries M T C) w is = cc
  degree_found n Vs many found (degree M least Ws) w is =
      let m : N ≡ M = cc in
      let l : most ≡ least = cc in
      let e : map written_field Ws ≡ drafts = cc in
      let f = found Ws (same_fields n M Ws many m (w.1.1).each) e in
      ap₂ (λ (x : Named) (g : Named → Report). g x) m (ap₂ {C = Named → Report} (λ (k : ℕ) (Us : List VectorField) (x : Named). degree x k Us) l f)
