use Rattle.std.proofs.Common.{map, sym, ◌∙◌, arith}
use Rattle.std.proofs.lemmas.List.{length-map}
use Rattle.value_core.specs.Plain.{plain}
use Rattle.utd_print.specs.Tables.{row_texts, value_text}
use Rattle.utd_print.proofs.TableLemmas.{kind-at, text-at, line-turn}
use Rattle.utd_print.proofs.tables.put_row.Goals as goal

pub text_of-requires : goal.text_of-requires
text_of-requires c = kind-at c.args.values.now c.loop-at.at c.index-values-at.result c.requires.kinds c.loop-at-test.true c.index-values-at.is

pub loop-at-preserved : goal.loop-at-preserved
loop-at-preserved c =
    let values = c.args.values.now in
    let types = c.args.types.now in
    let text = text-at types values c.loop-at.at c.index-values-at.result c.loop-at-test.true c.index-values-at.is in
    line-turn c.args.out.now.items c.loop-at.out.items c.put_cell.new.out.items c.args.widths.now (row_texts types (map plain values)) c.loop-at.at c.as_slice.result.now
    (omega (arith, c.requires.length)) (omega (arith, length-map values plain, length-map (map plain values) (value_text types)))
    c.loop-at.invariant c.in_ok-put_cell.ensures (c.as_slice.ensures.value ∙ c.in_ok-text.ensures ∙ sym text)
