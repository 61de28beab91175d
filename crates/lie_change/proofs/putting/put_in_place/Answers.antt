use Rattle.std.proofs.Common.{arith, ◌≡◌, ◌<◌, ◌++◌, ◌+◌, ◌≤◌, List, length, remove, subst, sym}
use Rattle.lie_math.specs.LinearForm.{LinearForm, no_form}
use Rattle.lie_math.specs.Limits.{greatest_term_count}
use Rattle.lie_systems.specs.Bulk.{triple_count_of_all}
use Rattle.lie_systems.specs.Works.{Triples}
use Rattle.lie_normal.specs.WorkCauses.{IsWorkCause}
use Rattle.lie_steps.specs.Tidying.{IsTidied}
use Rattle.lie_change.proofs.MovedPlaces.{found_again}
use Rattle.lie_change.proofs.SystemEnds.{tidied_within, tidied_cause}
use Rattle.lie_change.proofs.TidiedLists.{tidied_exchanged}
use Rattle.lie_tables.proofs.Following.{follows_on, follows_same}
use Rattle.lie_change.proofs.putting.put_in_place.Goals as goal

pub count_without_place-requires : goal.count_without_place-requires
count_without_place-requires c =
    let m = found_again c.in_ok-places.places.items c.as_slice.result.now c.put_cleaned.new.equations.items c.args.equations.now.items
    c.args.place c.moved_place-place.result no_form
    c.in_ok-places.ensures.filled c.in_ok-places.ensures.back c.requires.place c.as_slice.ensures.value c.moved_place-place.ensures in
    subst (λ (es : List LinearForm). c.moved_place-place.result < length es) (sym c.as_slice-2.ensures.value) m.0

pub remove-requires : goal.remove-requires
remove-requires c =
    let m = (found_again c.in_ok-places.places.items c.as_slice.result.now c.put_cleaned.new.equations.items c.args.equations.now.items
    c.args.place c.moved_place-place.result no_form
    c.in_ok-places.ensures.filled c.in_ok-places.ensures.back c.requires.place c.as_slice.ensures.value c.moved_place-place.ensures).0 in
    omega (arith, c.put_cleaned.new.equations.ok.0)

pub returns-in-Ok-clause-tidied : goal.returns-in-Ok-clause-tidied
returns-in-Ok-clause-tidied c =
    let m = found_again c.in_ok-places.places.items c.as_slice.result.now c.put_cleaned.new.equations.items c.args.equations.now.items
    c.args.place c.moved_place-place.result no_form
    c.in_ok-places.ensures.filled c.in_ok-places.ensures.back c.requires.place c.as_slice.ensures.value c.moved_place-place.ensures in
    subst (IsTidied (remove c.args.equations.now.items c.args.place ++ c.args.forms.now)) (sym c.remove.ensures.items)
    (tidied_exchanged c.args.equations.now.items c.args.forms.now c.put_cleaned.new.equations.items c.requires.normalised
    c.in_ok-places.ensures.tidied
    c.requires.ordered c.args.place c.moved_place-place.result c.requires.place m.0 m.1 c.requires.apart)

pub returns-in-Ok-clause-fits : goal.returns-in-Ok-clause-fits
returns-in-Ok-clause-fits c =
    let m = found_again c.in_ok-places.places.items c.as_slice.result.now c.put_cleaned.new.equations.items c.args.equations.now.items
    c.args.place c.moved_place-place.result no_form
    c.in_ok-places.ensures.filled c.in_ok-places.ensures.back c.requires.place c.as_slice.ensures.value c.moved_place-place.ensures in
    tidied_within (remove c.args.equations.now.items c.args.place ++ c.args.forms.now) c.args.general.now
    (remove c.put_cleaned.new.equations.items c.moved_place-place.result)
    (tidied_exchanged c.args.equations.now.items c.args.forms.now c.put_cleaned.new.equations.items c.requires.normalised
    c.in_ok-places.ensures.tidied
    c.requires.ordered c.args.place c.moved_place-place.result c.requires.place m.0 m.1 c.requires.apart)
    (subst (λ (es : List LinearForm). triple_count_of_all (remove es c.moved_place-place.result) + triple_count_of_all c.args.general.now ≤
    greatest_term_count) c.as_slice-2.ensures.value c.in-Ok.ensures.few)

pub returns-in-Err-clause-past : goal.returns-in-Err-clause-past
returns-in-Err-clause-past c =
    let m = found_again c.in_ok-places.places.items c.as_slice.result.now c.put_cleaned.new.equations.items c.args.equations.now.items
    c.args.place c.moved_place-place.result no_form
    c.in_ok-places.ensures.filled c.in_ok-places.ensures.back c.requires.place c.as_slice.ensures.value c.moved_place-place.ensures in
    tidied_cause (remove c.args.equations.now.items c.args.place ++ c.args.forms.now) c.args.general.now
    (remove c.put_cleaned.new.equations.items c.moved_place-place.result) c.in-Err.fail
    (tidied_exchanged c.args.equations.now.items c.args.forms.now c.put_cleaned.new.equations.items c.requires.normalised
    c.in_ok-places.ensures.tidied
    c.requires.ordered c.args.place c.moved_place-place.result c.requires.place m.0 m.1 c.requires.apart)
    (subst (λ (es : List LinearForm). IsWorkCause c.in-Err.fail
    (λ b. b ≡ Triples (triple_count_of_all (remove es c.moved_place-place.result) + triple_count_of_all c.args.general.now)))
    c.as_slice-2.ensures.value c.in-Err.ensures.past)

pub returns-in-Ok-clause-indexed : goal.returns-in-Ok-clause-indexed
returns-in-Ok-clause-indexed c =
    let m = (found_again c.in_ok-places.places.items c.as_slice.result.now c.put_cleaned.new.equations.items c.args.equations.now.items
    c.args.place c.moved_place-place.result no_form
    c.in_ok-places.ensures.filled c.in_ok-places.ensures.back c.requires.place c.as_slice.ensures.value c.moved_place-place.ensures).0 in
    follows_on c.args.tables.now c.put_cleaned.new.tables c.remove-in-Ok.new.self c.put_cleaned.new.equations.items c.remove.new.self.items
    c.put_cleaned.ensures.indexed (follows_same c.put_cleaned.new.tables c.remove-in-Ok.new.self _ _ (sym c.remove.ensures.items)
    (c.remove-in-Ok.ensures c.put_cleaned.new.equations.items (c.put_cleaned.ensures.indexed).1 m))

pub returns-in-Err-clause-indexed : goal.returns-in-Err-clause-indexed
returns-in-Err-clause-indexed c =
    follows_on c.args.tables.now c.put_cleaned.new.tables c.take_back.new.tables c.put_cleaned.new.equations.items
    c.take_back.new.equations.items c.put_cleaned.ensures.indexed c.take_back.ensures.indexed
