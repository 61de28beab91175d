use Rattle.std.proofs.Common.{◌≡◌, ◌∙◌, ◌<◌, ◌≤◌, ◌-◌, ◌^◌, sym, ap, subst, length, take, arith, ◌++◌, ◌∷◌, []}
use Rattle.std.proofs.lemmas.List.{take_more, length-take-le}
use Rattle.lie_math.specs.LinearForm.{LinearForm}
use Rattle.lie_tables.specs.Tables.{IsIndexOf}
use Rattle.lie_tables.proofs.EquationRows.{insert_end}
use Rattle.lie_tables.proofs.tables.Tables.of.Goals as goal

pub loop-place-preserved : goal.loop-place-preserved
loop-place-preserved c =
    let es = c.args.equations.now in
    let i = c.loop-place.place in
    let long : length (take i es) ≡ i = length-take-le i es (omega arith) in
    let within : i ≤ length (take i es) = omega arith in
    let few : length (take i es) < 2 ^ 64 - 1 = omega arith in
    let f = c.in_ok-insert.ensures.put (take i es) c.loop-place.invariant.index within few in
    record {
      kept = f.0 ∙ c.loop-place.invariant.kept;
      index = subst (IsIndexOf c.insert.new.self) (insert_end (take i es) i c.index-equations-place.result (sym long)
          ∙ ap (λ (E : LinearForm). take i es ++ E ∷ []) c.index-equations-place.is
          ∙ sym (take_more es i c.index-equations-place.result (omega arith))) f.1;
    }
