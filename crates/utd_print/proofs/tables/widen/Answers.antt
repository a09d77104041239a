use Rattle.std.proofs.Common.{max, get_or, sym, ◌∙◌, ap, arith}
use Rattle.utd_print.specs.Tables.{character_count}
use Rattle.utd_print.proofs.TableLemmas.{kind-at, text-at, widened-turn}
use Rattle.utd_print.proofs.tables.widen.Goals as goal

pub text_of-requires : goal.text_of-requires
text_of-requires c = kind-at c.args.values.now c.loop-at.at c.index-values-at.result c.requires.kinds c.loop-at-test.true c.index-values-at.is

pub loop-at-preserved : goal.loop-at-preserved
loop-at-preserved c =
    let text = text-at c.args.types.now c.args.values.now c.loop-at.at c.index-values-at.result c.loop-at-test.true c.index-values-at.is in
    let count = c.character_count.ensures.count ∙ ap character_count (c.as_slice.ensures.value ∙ c.in_ok-text.ensures ∙ sym text) in
    widened-turn _ _ _ c.loop-at.at c.max.result c.loop-at.invariant (omega (arith, c.loop-at-test.true, c.requires.length, c.loop-at.auto.widths))
    (c.max.ensures ∙ ap (max (get_or c.loop-at.widths c.loop-at.at 0)) count)
