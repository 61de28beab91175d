-- A system is told by its draft.
use Rattle.std.specs.Prelude.{ℕ, ◌≡◌, ◌+◌, List, [], ◌∷◌, length, map, Option, Some, refl}
use Rattle.std.proofs.Common.{sym, ap, ap₂, ◌∙◌, subst, arith}
use Rattle.lie_math.specs.LinearForm.{LinearForm}
use Rattle.lie_math.specs.LinearSystem.{Unknown, LinearSystem}
use Rattle.lie_math.specs.Monomial.{Monomial}
use Rattle.lie_math.specs.Counts.{Derivative}
use Rattle.lie_systems.specs.Triples.{Triple, triples}
use Rattle.lie_systems.proofs.Triples.{triples_tell}
use Rattle.lie_print.specs.Printing.{PrintedTerm, LastFactor, of_unknown, base_vector}
use Rattle.lie_report.specs.Reports.{Named}
use Rattle.lie_readback.specs.Groups.{written_term, written_terms, drafted}
use Rattle.lie_readback.specs.SystemDrafts.{Draft}
use Rattle.lie_readback.specs.WellFormed.{IsWellFormed}

derivative_told : (d e : Derivative) → ◌≡◌ {A = Option LastFactor} (Some (of_unknown d)) (Some (of_unknown e)) → d ≡ e
derivative_told d e h = ap told h
  where
    told : Option LastFactor → Derivative
    told (Some (of_unknown x)) = x
    told _ = d

triple_told : (t u : Triple) → written_term t ≡ written_term u → t ≡ u
triple_told t u h =
    let d = derivative_told t.0 u.0 (ap (λ (w : PrintedTerm). w.2) h) in
    ap₂ (λ (x : Derivative) (w : PrintedTerm). (x, w.1, w.0)) d h

triples_told : (ts us : List Triple) → map written_term ts ≡ map written_term us → ts ≡ us
triples_told [] [] h = refl
triples_told [] (u ∷ us) h = cc
triples_told (t ∷ ts) [] h = cc
triples_told (t ∷ ts) (u ∷ us) h =
    let first : written_term t ≡ written_term u = cc in
    let rest : map written_term ts ≡ map written_term us = cc in
    ap₂ (λ (x : Triple) (l : List Triple). x ∷ l) (triple_told t u first) (triples_told ts us rest)

-- a form is told by what is written of it
pub form_told : (E F : LinearForm) → written_terms E ≡ written_terms F → E ≡ F
form_told E F h = triples_tell E F (triples_told (triples E) (triples F) h)

forms_told : (Es Fs : List LinearForm) → map written_terms Es ≡ map written_terms Fs → Es ≡ Fs
forms_told [] [] h = refl
forms_told [] (F ∷ Fs) h = cc
forms_told (E ∷ Es) [] h = cc
forms_told (E ∷ Es) (F ∷ Fs) h =
    let first : written_terms E ≡ written_terms F = cc in
    let rest : map written_terms Es ≡ map written_terms Fs = cc in
    ap₂ (λ (G : LinearForm) (l : List LinearForm). G ∷ l) (form_told E F first) (forms_told Es Fs rest)

pub system_is : (S T : LinearSystem) → S.unknowns ≡ T.unknowns → S.equations ≡ T.equations → S.general ≡ T.general → S.next ≡ T.next → S ≡ T
system_is S T u e g n = λ i. record { unknowns = u i; equations = e i; general = g i; next = n i }

-- a well formed system is told by what is written of it
pub system_told : (s t : Named × LinearSystem) → IsWellFormed s → IsWellFormed t → drafted s ≡ drafted t → s ≡ t
system_told s t h k e =
    let u : s.1.unknowns ≡ t.1.unknowns = ap (λ (D : Draft). D.unknowns) e in
    let n : s.1.next ≡ t.1.next = (h.1).next ∙ ap (λ (us : List Unknown). length us + 1) u ∙ sym (k.1).next in
    let same = system_is s.1 t.1 u (forms_told s.1.equations t.1.equations (ap (λ (D : Draft). D.equations) e)) (forms_told s.1.general t.1.general (ap (λ (D : Draft). D.general) e)) n in
    ap₂ (λ (N : Named) (T : LinearSystem). (N, T)) (ap (λ (D : Draft). D.named) e) same
