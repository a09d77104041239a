use Rattle.std.proofs.Common.{◌≡◌, ◌+◌, ℕ, List, [], ◌∷◌, ◌++◌, length, rules, arith, sym, ap, ◌∙◌, subst}
use Rattle.std.proofs.lemmas.Iterator.Adapters.{YieldsList-from_vec}
use Rattle.std.proofs.lemmas.Iterator.Consumers.{YieldsList-turn, YieldsList-end}
use Rattle.std.proofs.lemmas.List.{length_push, get_or_default, map_push}
use Rattle.value_core.specs.Values.{Row}
use Rattle.relation_core.specs.Agreement.{part_of}
use Rattle.cell_boxes.specs.Answers.{PlainKeyedCellBox}
use Rattle.cell_boxes.specs.Rows.{PlainCellBox}
use Rattle.u_summarize.specs.Entries.{Listed, bare_row, part_row}
use Rattle.u_summarize.proofs.EntryLemmas.{listed_more, bare_is}
use Rattle.u_summarize.proofs.entries.parted.Goals as goal

pub loop-row-preserved : goal.loop-row-preserved
loop-row-preserved c =
    let rows = c.args.rows.items in
    let by = c.args.by.now in
    let x = c.in-Some.row in
    let done = c.loop-row.yielded in
    let t = YieldsList-turn (YieldsList-from_vec {s = c.into_iter-row-iterator.result} rows (search rules) (search rules)) done c.loop-row.row-iterator c.loop-row.yielded_by c.next.result c.next.new.self x c.in-Some.is c.next.ensures.steps in
    let n = length_push done x in
    let m : length done + 1 ≡ length (done ++ x ∷ []) = omega (arith, n) in
    let number : c.len-number.result ≡ length done = omega (arith, c.len-number.ensures, c.loop-row.invariant.count) in
    let made : PlainKeyedCellBox Row ℕ = (c.row.inside.label, c.len-number.result, c.new.result.items) in
    let key : c.in_ok-key.key ≡ part_of by x.0 = c.in_ok-key.ensures ∙ ap (λ (w : PlainCellBox Row). part_of by w.0) c.row.view_is in
    let part : PlainCellBox Row = (part_of by x.0, x.1) in
    let moved : c.push.new.self.items ≡ c.loop-row.parts.items ++ part ∷ [] = c.in_ok-push.ensures.items ∙ ap (λ (y : PlainCellBox Row). c.loop-row.parts.items ++ y ∷ []) (λ i. (key i, (c.row.view_is i).1)) in
    record {
      can = tt;
      ends = tt;
      count = ap length c.in_ok-push-2.ensures.items ∙ length_push c.loop-row.labels.items _ ∙ (let i = c.loop-row.invariant.count in omega (arith, i, n));
      parts = moved ∙ ap (λ (ys : List (PlainCellBox Row)). ys ++ part ∷ []) c.loop-row.invariant.parts ∙ sym (map_push (part_row by) done x);
      members = subst (λ k. Listed (bare_row rows) k c.push-in-loop-row.new.self.items) m
          (listed_more (bare_row rows) c.loop-row.labels.items c.push-in-loop-row.new.self.items (length done) made
          (bare_is rows (length done) c.len-number.result x made (get_or_default rows (length done) ([], []) x t.0 ∙ sym t.1) number (λ i. ((c.row.view_is i).0, c.len-number.result, c.new.ensures.items i)))
          c.in_ok-push-2.ensures.items c.loop-row.invariant.members);
    }

pub returns-clause-labels : goal.returns-clause-labels
returns-clause-labels c =
    let rows = c.args.rows.items in
    let t = YieldsList-end (YieldsList-from_vec {s = c.into_iter-row-iterator.result} rows (search rules) (search rules)) c.loop-row.yielded c.loop-row.row-iterator c.loop-row.yielded_by c.next.result c.next.new.self c.in-None.is c.next.ensures.steps in
    subst (λ k. Listed (bare_row rows) k c.loop-row.labels.items) t.1 c.loop-row.invariant.members
