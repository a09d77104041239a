use Rattle.std.proofs.Common.{◌≡◌, ◌+◌, List, [], ◌∷◌, ◌++◌, take, arith, sym, ap, subst, ◌∙◌}
use Rattle.std.proofs.lemmas.List.{take_more, take_all}
use Rattle.cell_boxes.specs.Rows.{IsRow}
use Rattle.u_join.specs.declared.standing.Standing.{Standing}
use Rattle.u_join.specs.RowPairs.{seen}
use Rattle.u_join.specs.Rests.{AreUpTo, AreRuns}
use Rattle.u_join.proofs.RunLemmas.{runs_none, runs_more}
use Rattle.u_join.proofs.runs.runs_of.Goals as goal

pub loop-row-init : goal.loop-row-init
loop-row-init c =
    let none = sym c.new-runs.ensures.items in
    record {
      runs = subst (AreRuns seen []) none (runs_none seen);
      up = λ j y a l. subst (λ ys. AreUpTo seen ys (seen y)) none (λ z m. absurd m);
    }

pub add-requires-clause-order : goal.add-requires-clause-order
add-requires-clause-order c = c.loop-row.invariant.runs.order

pub add-requires-clause-intervals : goal.add-requires-clause-intervals
add-requires-clause-intervals c = c.loop-row.invariant.runs.intervals

pub add-requires-clause-up : goal.add-requires-clause-up
add-requires-clause-up c =
    let i = c.loop-row.row-index in
    let a : IsRow c.args.rows.now i c.row-item.result = (c.loop-row-test.true, sym c.row-item.is) in
    c.loop-row.invariant.up i c.row-item.result a (omega arith)

pub loop-row-preserved : goal.loop-row-preserved
loop-row-preserved c =
    let rows = c.args.rows.now in
    let i = c.loop-row.row-index in
    let x = c.row-item.result in
    let a : IsRow rows i x = (c.loop-row-test.true, sym c.row-item.is) in
    let more : take (i + 1) rows ≡ take i rows ++ x ∷ [] = take_more rows i x c.loop-row-test.true ∙ ap (λ y. take i rows ++ y ∷ []) (sym c.row-item.is) in
    let added = c.in_ok-add.ensures in
    record {
      runs = runs_more seen (take i rows) x c.loop-row.runs.items c.add.new.runs.items (take (i + 1) rows) more c.loop-row.invariant.runs added;
      up = λ j y b l. added.up (seen y) (c.loop-row.invariant.up j y b (omega arith)) (c.requires.order i j x y (omega arith) a b);
    }

pub returns : goal.returns
returns c =
    let rows = c.args.rows.now in
    let all : take c.loop-row.row-index rows ≡ rows = take_all c.loop-row.row-index rows (omega arith) in
    subst (λ (ys : List Standing). AreRuns seen ys c.loop-row.runs.items) all c.loop-row.invariant.runs
