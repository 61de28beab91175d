-- Parts of lines, and the names of what is read of them.
use Rattle.std.specs.Prelude.{ℕ, suc, ◌≡◌, ◌+◌, ◌-◌, ◌<◌, ◌≤◌, Bool, true, false, List, [], ◌∷◌, length, map, take, drop, Option, Some, None, if◌then◌else◌, refl}
use Rattle.std.specs.Borrow.{Bor}
use Rattle.std.proofs.Common.{sym, ap, ◌∙◌, arith}
use Rattle.std.proofs.lemmas.List.{length-map, length-drop, take_all}
use Rattle.lie_readback.specs.SystemDrafts.{Draft, read_lines}
use Rattle.lie_readback.proofs.Drafted.{lines_good, some_is}
use Rattle.lie_readback.proofs.DraftSteps.{map_take, map_drop}
use Rattle.lie_read_report.specs.ReportDrafts.{begins_with, after_first, last_place}

pub rest_lines : (xs : List (Bor (List ℕ))) (k : ℕ) → map (λ l. l.now) (take (length xs - k) (drop k xs)) ≡ drop k (map (λ l. l.now) xs)
rest_lines xs k =
    let l = length-drop k xs in
    ap (map (λ (l : Bor (List ℕ)). l.now)) (take_all (length xs - k) (drop k xs) (omega arith)) ∙ map_drop k xs

pub front_lines : (xs : List (Bor (List ℕ))) (n k : ℕ) → n ≡ length xs - k → map (λ l. l.now) (take n xs) ≡ take (length (map (λ (l : Bor (List ℕ)). l.now) xs) - k) (map (λ l. l.now) xs)
front_lines xs n k is =
    let l : length (map (λ (l : Bor (List ℕ)). l.now) xs) ≡ length xs = length-map xs (λ (l : Bor (List ℕ)). l.now) in
    let same : n ≡ length (map (λ (l : Bor (List ℕ)). l.now) xs) - k = omega arith in
    map_take n xs ∙ ap (λ m. take m (map (λ (l : Bor (List ℕ)). l.now) xs)) same

pub drafted_few : (ls : List (List ℕ)) (D : Draft) → read_lines ls ≡ Some D → length ((D.named).names) ≤ 8
drafted_few ls D h =
    let w = (lines_good ls D h).named in
    let e = w.each in
    let p = (w.small).few_p in
    let q = (w.small).few_q in
    omega arith

place_below : (letter : ℕ) (ls : List (List ℕ)) (i : ℕ) → last_place letter ls ≡ Some i → i < length ls
place_below letter [] i h = cc
place_below letter (l ∷ ls) i h = go (last_place letter ls) (begins_with letter l) (place_below letter ls) refl h
  where
    first : (b : Bool) → (if b then Some 0 else None) ≡ Some i → i < suc (length ls)
    first true h = let z = some_is 0 i h in omega arith
    first false h = cc

    go : (o : Option ℕ) (b : Bool) → ((j : ℕ) → last_place letter ls ≡ Some j → j < length ls) → last_place letter ls ≡ o → after_first o b ≡ Some i → i < suc (length ls)
    go (Some j) b below is h = let more = some_is (j + 1) i h in let lt = below j is in omega arith
    go None b below is h = first b h

pub place_within : (letter : ℕ) (xs : List (Bor (List ℕ))) (i : ℕ) → last_place letter (map (λ l. l.now) xs) ≡ Some i → i < length xs
place_within letter xs i h =
    let lt = place_below letter (map (λ (l : Bor (List ℕ)). l.now) xs) i h in
    let l : length (map (λ (l : Bor (List ℕ)). l.now) xs) ≡ length xs = length-map xs (λ (l : Bor (List ℕ)). l.now) in
    omega arith
