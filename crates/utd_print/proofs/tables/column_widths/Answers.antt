use Rattle.utd_print.specs.Tables.{names_of}
use Rattle.utd_print.proofs.TableLemmas.{are-widths-end}
use Rattle.utd_print.proofs.tables.column_widths.Goals as goal

pub returns : goal.returns
returns c = are-widths-end c.args.types.now (names_of c.args.attributes.now) c.args.rows.now c.loop-row.row-index _ _ c.loop-row-test.false c.loop-row.invariant
