use Rattle.std.proofs.Common.{◌≡◌, ◌<◌, length, map, arith, subst}
use Rattle.std.specs.Option.{IfSome}
use Rattle.relation_core.proofs.FilterLemmas.{take_all}
use Rattle.tree_core.specs.Trees.{read_aggregate, read_aggregate_form}
use Rattle.row_making.proofs.SummaryLemmas.{summed_at}
use Rattle.eval_using.specs.Columns.{IsColumn, AreColumns}
use Rattle.eval_using.proofs.ColumnLemmas.{columns_more}
use Rattle.eval_using.proofs.columns.columns.Goals as goal

pub column-requires : goal.column-requires
column-requires c = summed_at c.args.rows.now c.args.aggregates.now c.loop-i.i c.index-aggregates-i.result c.requires c.loop-i-test.true c.index-aggregates-i.is

pub loop-i-preserved : goal.loop-i-preserved
loop-i-preserved c =
    let rows = c.args.rows.now in
    let l : c.loop-i.i < length c.args.aggregates.now = c.loop-i-test.true in
    record {
      within = omega (arith, l);
      columns = columns_more rows c.args.aggregates.now c.loop-i.i c.index-aggregates-i.result c.loop-i.list.items c.push.new.self.items _ l c.index-aggregates-i.is c.loop-i.invariant.columns
          (subst (λ o. IfSome o (λ k. (length k.2 ≡ length rows) × IsColumn rows (read_aggregate_form c.index-aggregates-i.result.form) k)) c.in-Some.is c.in_ok-own.ensures) c.in_ok-push-in-Some.ensures.items;
    }

pub returns : goal.returns
returns c =
    let w = c.loop-i.invariant.within in
    let t = c.loop-i-test.false in
    subst (λ gs. AreColumns c.args.rows.now (map read_aggregate gs) c.loop-i.list.items) (take_all c.loop-i.i c.args.aggregates.now (omega (arith, t))) c.loop-i.invariant.columns
