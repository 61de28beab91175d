-- Each argument and each option is put behind those that were added before.
use Rattle.std.specs.Prelude.{ℕ, Bool, ◌||◌, ◌≡◌, ◌+◌, ◌<◌, List, [], ◌∷◌, ◌++◌, length, map, take, get_or}
use Rattle.std.specs.Borrow.{Bor}
use Rattle.std.proofs.Common.{sym, ap, ap₂, ◌∙◌, append_assoc}
use Rattle.std.proofs.lemmas.List.{append-nil, map-append, map_more, take_all}
use Rattle.clap.specs.Walk.{Rule, Text}
use Rattle.clap.specs.Simple.{App, new_shape, with_rule}
use Rattle.lie_app.specs.Interface.{argument, option}
use Rattle.lie_app.proofs.words.subcommand.Goals as goal

abbrev with_rules : Text → List Rule → App
with_rules name rules = record { top = record (new_shape name) { rules = rules }; subs = [] }

abbrev first_names : ℕ → List (Bor Text) → List Text
first_names i names = map (λ (n : Bor Text). n.now) (take i names)

one_more : (name : Text) (before : List Rule) (f : Text → Rule) (names : List (Bor Text)) (i : ℕ) (d : Bor Text) (old new : App) (rule : Rule) → i < length names
    → old ≡ with_rules name (before ++ map f (first_names i names)) → new ≡ with_rule old rule → rule ≡ f (get_or names i d).now → new ≡ with_rules name (before ++ map f (first_names (i + 1) names))
one_more name before f names i d old new rule within is added made =
    added ∙ (ap₂ with_rule is made ∙ ap (with_rules name) (append_assoc before (map f (first_names i names)) (f (get_or names i d).now ∷ [])
    ∙ ap (λ (rs : List Rule). before ++ rs) (sym (ap (map f) (map_more (λ (n : Bor Text). n.now) names i d within) ∙ map-append f (first_names i names) ((get_or names i d).now ∷ [])))))

pub loop-id-init : goal.loop-id-init
loop-id-init c = record { shape = c.new-command.ensures.app; local = c.new-command.ensures.local }

pub loop-id-preserved : goal.loop-id-preserved
loop-id-preserved c = record {
  shape = one_more c.args.name.now [] argument c.args.arguments.now c.loop-id.id-index (record { ref_ptr = (0, 0); now = [] }) _ _ _ c.loop-id-test.true c.loop-id.invariant.shape
      (c.in_ok-command.ensures.shape c.argument.ensures.local) c.argument.ensures.rule;
  local = c.in_ok-command.ensures.globals ∙ ap₂ (λ (a b : Bool). a || b) c.loop-id.invariant.local c.argument.ensures.local;
}

pub loop-id-2-init : goal.loop-id-2-init
loop-id-2-init c = record {
  shape = c.loop-id.invariant.shape
      ∙ ap (with_rules c.args.name.now) (ap (λ (ns : List (Bor Text)). map argument (map (λ (n : Bor Text). n.now) ns)) (take_all c.loop-id.id-index c.args.arguments.now c.loop-id-test.false)
      ∙ sym (append-nil (map argument (map (λ (n : Bor Text). n.now) c.args.arguments.now))));
  local = c.loop-id.invariant.local;
}

pub loop-id-2-preserved : goal.loop-id-2-preserved
loop-id-2-preserved c = record {
  shape = one_more c.args.name.now (map argument (map (λ (n : Bor Text). n.now) c.args.arguments.now)) option c.args.options.now c.loop-id-2.id-index (record { ref_ptr = (0, 0); now = [] }) _ _ _
      c.loop-id-2-test.true c.loop-id-2.invariant.shape (c.in_ok-command-2.ensures.shape c.option.ensures.local) c.option.ensures.rule;
  local = c.in_ok-command-2.ensures.globals ∙ ap₂ (λ (a b : Bool). a || b) c.loop-id-2.invariant.local c.option.ensures.local;
}

pub returns-clause-shape : goal.returns-clause-shape
returns-clause-shape c =
    c.loop-id-2.invariant.shape ∙ ap (λ (ns : List (Bor Text)). with_rules c.args.name.now (map argument (map (λ (n : Bor Text). n.now) c.args.arguments.now) ++ map option (map (λ (n : Bor Text). n.now) ns)))
    (take_all c.loop-id-2.id-index c.args.options.now c.loop-id-2-test.false)

pub returns-clause-local : goal.returns-clause-local
returns-clause-local c = c.loop-id-2.invariant.local
