use Rattle.std.proofs.Common.{rules, tests, ◌≡◌, ◌≤◌, ◌+◌, ℕ, List, map, length, Bor, ap, arith, Vec, Global}
use Rattle.std.proofs.lemmas.List.{length-map}
use Rattle.std.specs.Prelude.{Result, Ok, Err, IfOk}
use Rattle.std.specs.List.{slice_split}
use Rattle.std.proofs.lemmas.List.Splits.{length-slice_split}
use Rattle.std.proofs.lemmas.List.Sums.{count_by-le-length}
use Rattle.std.specs.Prelude.{◌==◌}
use Rattle.std.proofs.lemmas.Iterator.Consumers.{map_from_collect}
use Rattle.std.proofs.lemmas.Iterator.Splits.{YieldsList-from_slice_split}
use Rattle.lie_file.proofs.lines.lines_of.Goals as goal

few_parts : (parts : List (Bor (List ℕ))) (text : List ℕ) → map (λ (p : Bor (List ℕ)). p.now) parts ≡ slice_split (λ b. b == 10) text → length parts ≤ length text + 1
few_parts parts text e =
    let a = length-map parts (λ (p : Bor (List ℕ)). p.now) in
    let b = ap length e in
    let c = length-slice_split (λ b. b == 10) text in
    let d = count_by-le-length (λ b. b == 10) text in
    omega arith

fewest : {E : Type 0} (r : Result (Vec (Bor (List ℕ)) Global) E) (text : List ℕ) → IfOk r (λ parts. map (λ (p : Bor (List ℕ)). p.now) parts.items ≡ slice_split (λ b. b == 10) text) → IfOk r (λ parts. length parts.items ≤ length text + 1)
fewest (Ok parts) text e = few_parts parts.items text e
fewest (Err f) text e = tt

pub returns : goal.returns
returns c =
    let e = map_from_collect _ c.collect.ensures.ran (YieldsList-from_slice_split _ (λ b. b == 10) c.args.text.now c.split.ensures.rest c.split.ensures.done c.split.ensures.closure (λ x b q called. search (rules, tests))) in
    record { lines = e; few = fewest c.collect.result c.args.text.now e }
