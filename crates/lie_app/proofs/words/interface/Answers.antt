-- The commands are added one by one, as the definition does.
use Rattle.std.proofs.Common.{ap, ap₂, codes, ◌≡◌, ◌∙◌, true}
use Rattle.std.proofs.lemmas.Result.{IfOk-weaker}
use Rattle.clap.specs.Simple.{App, app_of, app_of_fields, new_app, on_top, with_subcommand}
use Rattle.lie_app.specs.Interface.{bare}
use Rattle.lie_app.proofs.words.interface.Goals as goal

pub returns : goal.returns
returns c =
    let lie : app_of c.subcommand_required.result ≡ on_top bare (new_app (codes "lie")) =
    ap app_of_fields c.subcommand_required.ensures ∙ ap (on_top (λ s. record s { subcommand_required = true }))
    (ap app_of_fields c.disable_help_subcommand.ensures ∙ ap (on_top (λ s. record s { disable_help_subcommand = true }))
    (ap app_of_fields c.disable_help_flag.ensures ∙ ap (on_top (λ s. record s { disable_help_flag = true }))
    (ap app_of_fields c.no_binary_name.ensures ∙ ap (on_top (λ s. record s { no_binary_name = true })) c.new.ensures.app))) in
    let top = λ (a : App). a.top in
    let one = c.in_ok-subcommand-2.ensures.shape c.in_ok-subcommand.ensures.local ∙ ap₂ with_subcommand lie (ap top c.in_ok-subcommand.ensures.shape) in
    let two = c.in_ok-subcommand-4.ensures.shape c.in_ok-subcommand-3.ensures.local ∙ ap₂ with_subcommand one (ap top c.in_ok-subcommand-3.ensures.shape) in
    let three = c.in_ok-subcommand-6.ensures.shape c.in_ok-subcommand-5.ensures.local ∙ ap₂ with_subcommand two (ap top c.in_ok-subcommand-5.ensures.shape) in
    let four = c.in_ok-subcommand-8.ensures.shape c.in_ok-subcommand-7.ensures.local ∙ ap₂ with_subcommand three (ap top c.in_ok-subcommand-7.ensures.shape) in
    let five = c.in_ok-subcommand-10.ensures.shape c.in_ok-subcommand-9.ensures.local ∙ ap₂ with_subcommand four (ap top c.in_ok-subcommand-9.ensures.shape) in
    let six = c.in_ok-subcommand-12.ensures.shape c.in_ok-subcommand-11.ensures.local ∙ ap₂ with_subcommand five (ap top c.in_ok-subcommand-11.ensures.shape) in
    let seven = c.in_ok-subcommand-14.ensures.shape c.in_ok-subcommand-13.ensures.local ∙ ap₂ with_subcommand six (ap top c.in_ok-subcommand-13.ensures.shape) in
    let eight = c.in_ok-subcommand-16.ensures.shape c.in_ok-subcommand-15.ensures.local ∙ ap₂ with_subcommand seven (ap top c.in_ok-subcommand-15.ensures.shape) in
    let nine = c.in_ok-subcommand-18.ensures.shape c.in_ok-subcommand-17.ensures.local ∙ ap₂ with_subcommand eight (ap top c.in_ok-subcommand-17.ensures.shape) in
    IfOk-weaker c.subcommand-20.result _ _ (λ r added. added.shape c.in_ok-subcommand-19.ensures.local
    ∙ ap₂ with_subcommand nine (ap top c.in_ok-subcommand-19.ensures.shape)) c.subcommand-20.ensures
