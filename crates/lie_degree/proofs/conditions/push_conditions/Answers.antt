use Rattle.std.proofs.Common.{sym, ap, subst, ◌∙◌}
use Rattle.std.specs.Prelude.{◌++◌, map}
use Rattle.std.specs.List.{AllByRecursion as Every}
use Rattle.lie_math.specs.FiniteSum.{IsCanonical}
use Rattle.lie_math.specs.Polynomial.{terms}
use Rattle.lie_rows.specs.Rows.{rows_of}
use Rattle.lie_degree.specs.Gathered.{AreGathered}
use Rattle.lie_degree.specs.Said.{said_monomials, row_said}
use Rattle.lie_degree.specs.declared.equations.Said.{Said}
use Rattle.lie_degree.proofs.Gathered.{condition_monomials, said_rows, said_canonical}
use Rattle.lie_degree.proofs.conditions.push_conditions.Goals as goal

pub push_rows-requires : goal.push_rows-requires
push_rows-requires c =
    subst (Every (λ (s : Said). IsCanonical terms s.terms.items)) (sym c.as_slice-2.ensures.value)
    (said_canonical c.args.form.now c.args.columns.now c.in_ok-said.said.items c.in_ok-said.ensures.value)

pub returns-clause-rows : goal.returns-clause-rows
returns-clause-rows c =
    let ss = c.in_ok-said.said.items in
    let ms = c.in_ok-monos.monos.items in (
      ms,
      condition_monomials c.args.form.now c.args.columns.now ss c.in_ok-said.ensures.value ms
          (subst (λ (xs : _). AreGathered (said_monomials xs) ms) c.as_slice.ensures.value c.in_ok-monos.ensures),
      c.in_ok-push_rows.ensures
          ∙ ap (λ rs. rows_of c.args.rows.now.items ++ rs)
          (ap (λ xs. map (row_said xs) c.as_slice-3.result.now) c.as_slice-2.ensures.value ∙ ap
          (map (row_said ss)) c.as_slice-3.ensures.value
          ∙ said_rows c.args.form.now c.args.columns.now ss c.in_ok-said.ensures.value ms),
    )

pub returns-clause-fits : goal.returns-clause-fits
returns-clause-fits c = (c.in_ok-said.ensures.fits, tt)
