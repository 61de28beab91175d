use Rattle.std.proofs.Common.{arith, refl, ap, sym, ◌∙◌, ◌≡◌, ◌+◌, drop, get_or}
use Rattle.std.proofs.lemmas.List.{at_drop_more}
use Rattle.lie_scan.specs.Names.{counts_from, one_more, place_of}
use Rattle.lie_scan.proofs.CountSteps.{counts_none, counts_step, step_within, step_fits}
use Rattle.lie_scan.proofs.coordinate.letter_counts.Goals as goal

pub loop-letter-init : goal.loop-letter-init
loop-letter-init c = record { same = refl; counts = counts_none c.args.independent.now }

pub put_one_more-requires : goal.put_one_more-requires
put_one_more-requires c =
    let short = c.requires.short in
    let within = c.place_of-place.ensures.within in
    let low = c.loop-letter-test.true in
    record {
      within = step_within c.args.independent.now c.place_of-place.result c.requires.few within;
      low = step_fits c.args.independent.now c.loop-letter.letter-index c.loop-letter.counts c.place_of-place.result (omega arith) within c.loop-letter.invariant.counts;
    }

pub loop-letter-preserved : goal.loop-letter-preserved
loop-letter-preserved c =
    let made : c.put_one_more.new.counts ≡ one_more c.loop-letter.counts (place_of c.args.independent.now (get_or c.args.word.now c.loop-letter.letter-index 0)) =
    c.put_one_more.ensures ∙ ap (one_more c.loop-letter.counts) c.place_of-place.ensures.value in
    record {
      same = c.loop-letter.invariant.same ∙ at_drop_more (counts_from c.args.independent.now c.loop-letter.counts) c.args.word.now c.loop-letter.letter-index 0 c.loop-letter-test.true
          ∙ ap (λ J. counts_from c.args.independent.now J (drop (c.loop-letter.letter-index + 1) c.args.word.now)) (sym made);
      counts = rw c.put_one_more.ensures (counts_step c.args.independent.now c.loop-letter.letter-index c.loop-letter.counts c.place_of-place.result c.requires.few c.place_of-place.ensures.within c.loop-letter.invariant.counts);
    }
