use Rattle.std.proofs.Common.{◌≡◌, ◌<◌, ◌+◌, ◌++◌, ◌∷◌, [], length, arith}
use Rattle.std.specs.List.{Contains}
use Rattle.std.specs.Prelude.{ℕ, List, get_or}
use Rattle.std.proofs.lemmas.List.{length-map}
use Rattle.std.proofs.lemmas.Result.{err_from_is_err_and}
use Rattle.lie_brackets.specs.Generators.{field_of_generator, fields_of, pairs_before, pairs_from}
use Rattle.lie_brackets.specs.Tables.{pairs_of}
use Rattle.lie_brackets.specs.declared.generators.Generator.{Generator}
use Rattle.lie_brackets.proofs.PairLists.{one_pair_more, pair_contained, mapped_element}
use Rattle.lie_brackets.proofs.TableEntries.{entries_more, table_cause}
use Rattle.lie_brackets.proofs.tables.push_entries.Goals as goal

module _ (gs : List Generator) (i j : ℕ) (g h : Generator) (before : i < j) (inside : j < length gs) (is_g : g ≡ get_or gs i g) (is_h : h ≡ get_or gs j h) where
  count : length (fields_of gs) ≡ length gs
  count = length-map gs field_of_generator

  first_field : field_of_generator g ≡ get_or (fields_of gs) i (field_of_generator g)
  first_field = mapped_element field_of_generator gs i g (omega arith) is_g

  second_field : field_of_generator h ≡ get_or (fields_of gs) j (field_of_generator h)
  second_field = mapped_element field_of_generator gs j h inside is_h

  is_pair : Contains (pairs_of (fields_of gs)) (field_of_generator g, field_of_generator h)
  is_pair = pair_contained (fields_of gs) i j (field_of_generator g) (field_of_generator h) before (omega (arith, count)) first_field second_field

  one_more : pairs_from i (j + 1) (fields_of gs) ≡ pairs_from i j (fields_of gs) ++ (field_of_generator g, field_of_generator h) ∷ []
  one_more = one_pair_more (fields_of gs) i j (field_of_generator g) (field_of_generator h) before (omega (arith, count)) first_field second_field

pub entry-requires-clause-pair : goal.entry-requires-clause-pair
entry-requires-clause-pair c =
    is_pair c.args.generators.now c.args.first c.loop-second.second c.index-generators-first.result c.index-generators-second.result c.loop-second.invariant.after (let t = c.loop-second-test.true in omega arith) c.index-generators-first.is c.index-generators-second.is

pub returns-in_err-ratios-clause-past : goal.returns-in_err-ratios-clause-past
returns-in_err-ratios-clause-past c =
    let pair =
    is_pair c.args.generators.now c.args.first c.loop-second.second c.index-generators-first.result c.index-generators-second.result c.loop-second.invariant.after (let t = c.loop-second-test.true in omega arith) c.index-generators-first.is c.index-generators-second.is in
    let p = err_from_is_err_and c.from_residual.result c.from_residual.ensures.1 in
    rw (p.1, p.2) (table_cause c.in_err-ratios.field-0.0 c.args.space (fields_of c.args.generators.now) (field_of_generator c.index-generators-first.result, field_of_generator c.index-generators-second.result) pair c.in_err-ratios.ensures.past)

pub loop-second-preserved : goal.loop-second-preserved
loop-second-preserved c =
    let fs = fields_of c.args.generators.now in
    let more =
    one_more c.args.generators.now c.args.first c.loop-second.second c.index-generators-first.result c.index-generators-second.result c.loop-second.invariant.after (let t = c.loop-second-test.true in omega arith) c.index-generators-first.is c.index-generators-second.is in
    record {
      after = let h = c.loop-second.invariant.after in omega arith;
      made = entries_more c.args.space fs (pairs_before c.args.first fs) (pairs_from c.args.first c.loop-second.second fs) (pairs_from c.args.first (c.loop-second.second + 1) fs)
          (field_of_generator c.index-generators-first.result, field_of_generator c.index-generators-second.result) more
          c.loop-second.entries.items c.push.new.self.items c.in_ok-ratios.ratios c.in_ok-push.ensures.items c.in_ok-ratios.ensures.entry c.in_ok-ratios.ensures.fits c.loop-second.invariant.made;
    }
