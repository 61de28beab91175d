-- Values found one by one by the texts of which they are told.
use Rattle.std.specs.Prelude.{◌≡◌, List, [], ◌∷◌, ◌++◌, map, Ok, Err, IfOk, refl}
use Rattle.std.specs.declared.result.Result.{Result}
use Rattle.lie_readback.specs.Readings.{Finds}
use Rattle.lie_readback.specs.declared.unread.Unread.{Unread}
use Rattle.lie_readback.specs.declared.unread.Unread.TheVariants.{Other, NoMemory}
use Rattle.std.specs.List.{AllByRecursion as Every}
use Rattle.std.proofs.Common.{sym, ap, ap₂, ◌∙◌, append_assoc}
use Rattle.std.proofs.lemmas.List.{append-nil}

module _ {Y T : Type 0} (Is : Y → Type 0) (text : Y → T) where
  -- values with all the texts are those found so far, and others that have the texts that are left
  pub record IsFront (xs : List Y) (rest : List T) (ys : List Y) : Type 0 where
    pub others : List Y
    pub parted : ys ≡ xs ++ others
    pub are : Every Is others
    pub told : map text others ≡ rest

  abbrev pub FoundSoFar : List T → List Y → List T → Type 0
  FoundSoFar all xs rest = (ys : List Y) → Every Is ys → map text ys ≡ all → IsFront xs rest ys

  pub found_none : (all : List T) → FoundSoFar all [] all
  found_none all ys are told = record { others = ys; parted = refl; are = are; told = told }

  front_more : (xs : List Y) (x : Y) (t : T) (rest : List T) (ys others : List Y) → ((y : Y) → Is y → text y ≡ t → x ≡ y) → ys ≡ xs ++ others → Every Is others → map text others ≡ t ∷ rest → IsFront (xs ++ x ∷ []) rest ys
  front_more xs x t rest ys [] found parted are told = absurd (no_cons told)
    where
      no_cons : ◌≡◌ {A = List T} [] (t ∷ rest) → ⊥
      no_cons e = cc
  front_more xs x t rest ys (y ∷ others) found parted are told =
      let first : text y ≡ t = cc in
      let others_told : map text others ≡ rest = cc in
      let same : x ≡ y = found y are.0 first in
      record {
        others = others;
        parted = parted ∙ ap (λ z. xs ++ z ∷ others) (sym same) ∙ sym (append_assoc xs (x ∷ []) others);
        are = are.1;
        told = others_told;
      }

  pub found_more : (all : List T) (xs : List Y) (x : Y) (t : T) (left rest : List T) → FoundSoFar all xs left → left ≡ t ∷ rest → ((y : Y) → Is y → text y ≡ t → x ≡ y) → FoundSoFar all (xs ++ x ∷ []) rest
  found_more all xs x t left rest so_far is found ys are told = let f = so_far ys are told in front_more xs x t rest ys f.others found f.parted f.are (f.told ∙ is)

  none_here : (t : T) (rest : List T) (others : List Y) → ((y : Y) → Is y → ¬ (text y ≡ t)) → Every Is others → map text others ≡ t ∷ rest → ⊥
  none_here t rest [] none are told = no_cons told
    where
      no_cons : ◌≡◌ {A = List T} [] (t ∷ rest) → ⊥
      no_cons e = cc
  none_here t rest (y ∷ others) none are told = let first : text y ≡ t = cc in none y are.0 first

  pub found_fails : (all : List T) (xs : List Y) (t : T) (left rest : List T) → FoundSoFar all xs left → left ≡ t ∷ rest → ((y : Y) → Is y → ¬ (text y ≡ t)) → (ys : List Y) → Every Is ys → ¬ (map text ys ≡ all)
  found_fails all xs t left rest so_far is none ys are told = let f = so_far ys are told in none_here t rest f.others none f.are (f.told ∙ is)

  front_all : (xs ys others : List Y) → ys ≡ xs ++ others → map text others ≡ [] → xs ≡ ys
  front_all xs ys [] parted told = sym (parted ∙ append-nil xs)
  front_all xs ys (y ∷ others) parted told = absurd (no_cons told)
    where
      no_cons : ◌≡◌ {A = List T} (text y ∷ map text others) [] → ⊥
      no_cons e = cc

  pub found_all : (all : List T) (xs : List Y) (left : List T) → FoundSoFar all xs left → left ≡ [] → (ys : List Y) → Every Is ys → map text ys ≡ all → xs ≡ ys
  found_all all xs left so_far is ys are told = let f = so_far ys are told in front_all xs ys f.others f.parted (f.told ∙ is)

-- where no value has the next text, no values have all
pub fails_here : {X U Y T : Type 0} (Is : Y → Type 0) (text : Y → T) (view : X → List Y) (one : U → Y) (all : List T) (xs : List Y) (t : T) (left rest : List T) (e : Unread)
    → FoundSoFar Is text all xs left → left ≡ t ∷ rest → Finds one Is text t (Err e) → Finds view (Every Is) (map text) all (Err e)
fails_here Is text view one all xs t left rest Other so_far is none = found_fails Is text all xs t left rest so_far is none
fails_here Is text view one all xs t left rest NoMemory so_far is none = tt

pub ok_more : {X E : Type 0} (P Q : X → Type 0) (r : Result X E) → ((x : X) → P x → Q x) → IfOk r P → IfOk r Q
ok_more P Q (Ok x) f h = f x h
ok_more P Q (Err e) f h = tt
