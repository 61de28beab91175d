-- The name is the value of its argument, where that is a name.
use Rattle.std.proofs.Common.{sym, ap, codes, ◌∙◌}
use Rattle.clap.specs.Words.{found_of}
use Rattle.clap.proofs.WalkLemmas.{first_value-rows}
use Rattle.lie_app.specs.Words.{name_in, ◌>>=◌}
use Rattle.lie_app.proofs.words.study_name.Goals as goal

pub returns-in_err-get_str-clause-name : goal.returns-in_err-get_str-clause-name
returns-in_err-get_str-clause-name c =
    let found = found_of c.args.arguments.now in
    rw c.from_residual.ensures (sym (ap (λ o. o >>= name_in) (sym (first_value-rows found (codes "name")) ∙ sym c.in_err-get_str.ensures)))

pub returns-clause-name : goal.returns-clause-name
returns-clause-name c =
    let found = found_of c.args.arguments.now in
    c.name_in.ensures.name ∙ sym (ap (λ o. o >>= name_in) (sym (first_value-rows found (codes "name")) ∙ sym c.in_ok-get_str.ensures))
