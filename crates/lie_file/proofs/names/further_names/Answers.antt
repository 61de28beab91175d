use Rattle.std.proofs.Common.{◌≡◌, ◌∙◌, ap, sym, subst, Bor, arith, length-append}
use Rattle.std.specs.Prelude.{List, ℕ, Ok, Option, Some, None, ◌++◌, ◌∷◌, [], ◌≤◌, ◌<◌, ◌+◌, length}
use Rattle.std.proofs.lemmas.Result.{err_from_is_err_and}
use Rattle.lie_scan.specs.declared.stop.LineFail.{LineFail}
use Rattle.lie_scan.specs.Stops.{Fails}
use Rattle.lie_scan.specs.Turns.{all_turns}
use Rattle.lie_file.specs.FileLines.{name_turn_of, name_turn}
use Rattle.lie_scan.proofs.TurnSteps.{turns_on, turns_end, turns_fail, turn_less}
use Rattle.lie_file.proofs.NameSteps.{name_turn_takes}
use Rattle.lie_file.proofs.names.further_names.Goals as goal

longer_push : (before n : ℕ) (given more : List ℕ) → before ≤ length given → more ≡ given ++ n ∷ [] → before ≤ length more
longer_push before n given more h e = rw e (let k = length-append given (n ∷ []) in omega arith)

few_push : (before n : ℕ) (given more : List ℕ) → length given < before + 4 → more ≡ given ++ n ∷ [] → length more ≤ before + 4
few_push before n given more h e = rw e (let k = length-append given (n ∷ []) in omega arith)

turn_is : (before : ℕ) (slice given rest : List ℕ) (o r : Option (ℕ × Bor (List ℕ))) → slice ≡ given → name_turn before slice rest ≡ Ok (name_turn_of slice rest o) → o ≡ r → name_turn before given rest ≡ Ok (name_turn_of given rest r)
turn_is before slice given rest o r same is chosen = subst (λ g. name_turn before g rest ≡ Ok (name_turn_of g rest r)) same (is ∙ ap (λ x. Ok (name_turn_of slice rest x)) chosen)

turn_fails : (before : ℕ) (slice given rest : List ℕ) (f : LineFail) → slice ≡ given → Fails f (name_turn before slice rest) → Fails f (name_turn before given rest)
turn_fails before slice given rest f same is = subst (λ g. Fails f (name_turn before g rest)) same is

pub names-preserved : goal.names-preserved
names-preserved c =
    let is = turn_is c.args.before c.as_slice.result.now c.names.given.items c.names.rest.now c.in_ok-name.field-0 (Some (c.in-Some.name, c.in-Some.behind)) c.as_slice.ensures.value c.in_ok-name.ensures.value c.in-Some.is in
    let pushed = c.in_ok-push-in-Some.ensures.items in
    record {
      same = c.names.invariant.same ∙ turns_on (name_turn c.args.before) (name_turn_takes c.args.before) c.names.given.items c.names.rest.now (c.names.given.items ++ c.in-Some.name ∷ []) c.in-Some.behind.now is
          ∙ ap (λ g. all_turns (name_turn c.args.before) g c.in-Some.behind.now) (sym pushed);
      longer = longer_push c.args.before c.in-Some.name c.names.given.items c.push.new.self.items c.names.invariant.longer pushed;
      few = few_push c.args.before c.in-Some.name c.names.given.items c.push.new.self.items (rw c.as_slice.ensures.value at rw c.in-Some.is at c.in_ok-name.ensures.few) pushed;
    }

pub names-smaller : goal.names-smaller
names-smaller c =
    let is = turn_is c.args.before c.as_slice.result.now c.names.given.items c.names.rest.now c.in_ok-name.field-0 (Some (c.in-Some.name, c.in-Some.behind)) c.as_slice.ensures.value c.in_ok-name.ensures.value c.in-Some.is in
    turn_less (name_turn c.args.before) (name_turn_takes c.args.before) c.names.given.items c.names.rest.now (c.names.given.items ++ c.in-Some.name ∷ []) c.in-Some.behind.now is

pub returns-in_err-name-clause-value : goal.returns-in_err-name-clause-value
returns-in_err-name-clause-value c =
    let p = err_from_is_err_and c.from_residual.result c.from_residual.ensures.1 in
    rw (p.1, p.2, c.names.invariant.same) (turns_fail (name_turn c.args.before) (name_turn_takes c.args.before) c.names.given.items c.names.rest.now c.in_err-name.field-0.0
    (turn_fails c.args.before c.as_slice.result.now c.names.given.items c.names.rest.now c.in_err-name.field-0.0 c.as_slice.ensures.value c.in_err-name.ensures.value))

pub returns-in-None-clause-value : goal.returns-in-None-clause-value
returns-in-None-clause-value c =
    let is = turn_is c.args.before c.as_slice.result.now c.names.given.items c.names.rest.now c.in_ok-name.field-0 None c.as_slice.ensures.value c.in_ok-name.ensures.value c.in-None.is in
    c.names.invariant.same ∙ turns_end (name_turn c.args.before) (name_turn_takes c.args.before) c.names.given.items c.names.rest.now _ is ∙ ap (λ r. Ok (c.names.given.items, r)) (sym c.after_blanks.ensures)
