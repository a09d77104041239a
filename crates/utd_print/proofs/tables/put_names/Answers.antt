use Rattle.std.proofs.Common.{◌∙◌, arith}
use Rattle.std.proofs.lemmas.List.{length-map}
use Rattle.value_core.specs.declared.kind.Kind.{Kind}
use Rattle.value_core.specs.Values.{Name}
use Rattle.utd_print.specs.Tables.{names_of}
use Rattle.utd_print.proofs.TableLemmas.{name-at, line-turn}
use Rattle.utd_print.proofs.tables.put_names.Goals as goal

pub loop-at-preserved : goal.loop-at-preserved
loop-at-preserved c =
    let attributes = c.args.attributes.now in
    let name = name-at attributes c.loop-at.at c.index-attributes-at.result c.loop-at-test.true c.index-attributes-at.is in
    line-turn c.args.out.now.items c.loop-at.out.items c.put_cell.new.out.items c.args.widths.now (names_of attributes) c.loop-at.at c.as_bytes.result.now
    (omega (arith, c.requires)) (omega (arith, length-map attributes (λ (a : Name × Kind). a.0)))
    c.loop-at.invariant c.in_ok-put_cell.ensures (c.as_bytes.ensures.value ∙ c.as_str.ensures.text ∙ name)
