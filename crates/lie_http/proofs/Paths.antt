-- Where paths lead, by the route that the router finds.
use Rattle.std.specs.Prelude.{IsUtf8, if◌then◌else◌, cond, ◌==◌, nat_lt, bytes_eq, not, codes}
use Rattle.std.specs.List.{list_all}
use Rattle.std.specs.Str.{IsAscii}
use Rattle.std.proofs.Common.{◌≡◌, ℕ, ◌<◌, ◌≤◌, Bool, true, false, ◌&&◌, List, [], ◌∷◌, ◌++◌, length}
use Rattle.std.proofs.Common.{Some, None, All, refl, sym, ap, subst, ◌∙◌, arith, inl, inr}
use Rattle.std.proofs.lemmas.Bool.Decides.{nat_tests}
use Rattle.std.proofs.lemmas.List.Elements.{All-weaker, All-nil, All-cons, All-head, All-tail}
use Rattle.std.proofs.lemmas.Slice.Eq.{bytes_eq-Decides}
use Rattle.std.proofs.lemmas.Str.{IsUtf8-from_ascii, IsAscii-append}
use Rattle.std.proofs.lemmas.Str.Ascii.{IsAscii-from_all}
use Rattle.matchit.specs.Seek.{has_slash}
use Rattle.lie_outer.specs.Names.{IsStudyNameByte, IsStudyName}
use Rattle.lie_http.specs.declared.routes.Route.TheVariants as routes
use Rattle.lie_http.specs.declared.places.Place.TheVariants.{Analyse, Studies, Nowhere}
use Rattle.lie_http.specs.Routes.{is_segment, route_of}
use Rattle.lie_http.specs.Places.{IsStudyPath, LeadsTo}

-- ---- names

name_byte_is_ascii : (b : ℕ) → IsStudyNameByte b → b < 128
name_byte_is_ascii b (inl letter) = omega arith
name_byte_is_ascii b (inr (inl digit)) = omega arith
name_byte_is_ascii b (inr (inr dash)) = omega arith

name_byte_is_no_slash : (b : ℕ) → IsStudyNameByte b → (b == 47) ≡ false
name_byte_is_no_slash b (inl letter) = grind (arith, nat_tests)
name_byte_is_no_slash b (inr (inl digit)) = grind (arith, nat_tests)
name_byte_is_no_slash b (inr (inr dash)) = grind (arith, nat_tests)

pub name_is_ascii : (name : List ℕ) → IsStudyName name → IsAscii name
name_is_ascii name is = IsAscii-from_all name (All-weaker IsStudyNameByte (λ b. b < 128) name_byte_is_ascii name is.2)

no_slash : (name : List ℕ) → All IsStudyNameByte name → has_slash name ≡ false
no_slash [] all = refl
no_slash (b ∷ name) all =
    ap (λ v. cond {A = Bool} v true (has_slash name)) (name_byte_is_no_slash b (All-head IsStudyNameByte b name all))
    ∙ no_slash name (All-tail IsStudyNameByte b name all)

some_bytes : (n : ℕ) → 1 ≤ n → nat_lt 0 n ≡ true
some_bytes n some = grind (arith, nat_tests)

name_is_segment : (name : List ℕ) → IsStudyName name → is_segment name ≡ true
name_is_segment name is = ap (λ v. v && not (has_slash name)) (some_bytes (length name) is.0) ∙ ap not (no_slash name is.2)

-- ---- routes

routed_name : (name : List ℕ) → route_of (codes "/study/" ++ name) ≡ (if is_segment name then Some routes.Study else None)
routed_name name = refl

routed_study : (path name : List ℕ) → IsStudyPath path name → route_of path ≡ Some routes.Study
routed_study path name (is, at) = ap route_of at ∙ routed_name name
    ∙ ap (λ v. if v then Some routes.Study else None) (name_is_segment name is)

analyse_if : (a b c : Bool) → (if a then Some routes.Analyse else (if b then Some routes.Studies else
    (if c then Some routes.Study else None))) ≡ Some routes.Analyse → a ≡ true
analyse_if true b c e = refl
analyse_if false true c e = absurd (cc)
analyse_if false false true e = absurd (cc)
analyse_if false false false e = absurd (cc)

studies_if : (a b c : Bool) → (if a then Some routes.Analyse else (if b then Some routes.Studies else
    (if c then Some routes.Study else None))) ≡ Some routes.Studies → b ≡ true
studies_if true b c e = absurd (cc)
studies_if false true c e = refl
studies_if false false true e = absurd (cc)
studies_if false false false e = absurd (cc)

-- ---- places

pub analyse_routed : (path : List ℕ) → route_of path ≡ Some routes.Analyse → LeadsTo path Analyse
analyse_routed path e = (bytes_eq-Decides path (codes "/analyse")).0 (analyse_if _ _ _ e)

pub studies_routed : (path : List ℕ) → route_of path ≡ Some routes.Studies → LeadsTo path Studies
studies_routed path e = (bytes_eq-Decides path (codes "/study")).0 (studies_if (bytes_eq path (codes "/analyse")) _ _ e)

analyse_is_routed : route_of (codes "/analyse") ≡ Some routes.Analyse
analyse_is_routed = refl

studies_is_routed : route_of (codes "/study") ≡ Some routes.Studies
studies_is_routed = refl

-- a path without a route
pub nowhere_routed : (path : List ℕ) → route_of path ≡ None → LeadsTo path Nowhere
nowhere_routed path none = (λ e. absurd (analyse e), λ e. absurd (studies e), λ name at. absurd (study name at))
  where
    analyse : path ≡ codes "/analyse" → ⊥
    analyse e = let is = sym none ∙ ap route_of e ∙ analyse_is_routed in cc

    studies : path ≡ codes "/study" → ⊥
    studies e = let is = sym none ∙ ap route_of e ∙ studies_is_routed in cc

    study : (name : List ℕ) → IsStudyPath path name → ⊥
    study name at = let is = sym none ∙ routed_study path name at in cc

-- the path of a study whose rest is no name
pub nowhere_named : (path : List ℕ) → route_of path ≡ Some routes.Study → ((name : List ℕ) → IsStudyPath path name → ⊥)
    → LeadsTo path Nowhere
nowhere_named path routed none = (λ e. absurd (analyse e), λ e. absurd (studies e), none)
  where
    analyse : path ≡ codes "/analyse" → ⊥
    analyse e = let is = sym routed ∙ ap route_of e ∙ analyse_is_routed in cc

    studies : path ≡ codes "/study" → ⊥
    studies e = let is = sym routed ∙ ap route_of e ∙ studies_is_routed in cc

-- a text in the source
literal_is_ascii : (text : List ℕ) → list_all (λ b. nat_lt b 128) text ≡ true → IsAscii text
literal_is_ascii text all = IsAscii-from_all text (each text all)
  where
    first : (b : ℕ) (v : Bool) → (nat_lt b 128 && v) ≡ true → b < 128
    first b v e = grind (arith, nat_tests)

    others : (u v : Bool) → (u && v) ≡ true → v ≡ true
    others true v e = e
    others false v e = absurd (cc)

    each : (w : List ℕ) → list_all (λ b. nat_lt b 128) w ≡ true → All (λ b. b < 128) w
    each [] e = All-nil (λ b. b < 128)
    each (b ∷ w) e = All-cons (λ b. b < 128) b w (first b (list_all (λ b. nat_lt b 128) w) e) (each w (others (nat_lt b 128) (list_all
        (λ b. nat_lt b 128) w) e))

-- a path that is no text
pub nowhere_untold : (path : List ℕ) → (IsUtf8 path → ⊥) → LeadsTo path Nowhere
nowhere_untold path bad = (
  λ e. bad (subst IsUtf8 (sym e) (IsUtf8-from_ascii (codes "/analyse") (literal_is_ascii (codes "/analyse") refl))),
  λ e. bad (subst IsUtf8 (sym e) (IsUtf8-from_ascii (codes "/study") (literal_is_ascii (codes "/study") refl))),
  λ name at. bad (subst IsUtf8 (sym at.1) (study_is_utf8 name at.0)),
)
  where
    study_is_utf8 : (name : List ℕ) → IsStudyName name → IsUtf8 (codes "/study/" ++ name)
    study_is_utf8 name is = IsUtf8-from_ascii (codes "/study/" ++ name) (IsAscii-append (codes "/study/") name (literal_is_ascii
        (codes "/study/") refl) (name_is_ascii name is))
