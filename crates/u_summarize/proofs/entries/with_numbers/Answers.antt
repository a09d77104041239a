use Rattle.std.proofs.Common.{◌≡◌, ◌+◌, ℕ, [], ◌∷◌, ◌++◌, length, get_or, rules, arith, sym, ap, ◌∙◌, subst}
use Rattle.std.proofs.lemmas.Iterator.Adapters.{YieldsList-from_vec}
use Rattle.std.proofs.lemmas.Iterator.Consumers.{YieldsList-turn, YieldsList-end}
use Rattle.std.proofs.lemmas.List.{length_push, get_or_default}
use Rattle.value_core.specs.Values.{Row}
use Rattle.cell_boxes.specs.Answers.{PlainKeyedCellBox}
use Rattle.u_summarize.specs.Entries.{Listed, numbered_row}
use Rattle.u_summarize.proofs.EntryLemmas.{listed_more, numbered_is}
use Rattle.u_summarize.proofs.entries.with_numbers.Goals as goal

pub loop-row-preserved : goal.loop-row-preserved
loop-row-preserved c =
    let rows = c.args.rows.items in
    let numbers = c.args.numbers.now in
    let x = c.in-Some.row in
    let done = c.loop-row.yielded in
    let t = YieldsList-turn (YieldsList-from_vec {s = c.into_iter-row-iterator.result} rows (search rules) (search rules)) done c.loop-row.row-iterator c.loop-row.yielded_by c.next.result c.next.new.self x c.in-Some.is c.next.ensures.steps in
    let n = length_push done x in
    let m : length done + 1 ≡ length (done ++ x ∷ []) = omega (arith, n) in
    let place : c.len-in-loop-row.result ≡ length done = omega (arith, c.len-in-loop-row.ensures, c.loop-row.invariant.count) in
    let number : get_or numbers c.len-in-loop-row.result 0 ≡ get_or numbers (length done) 0 = ap (λ k. get_or numbers k 0) place in
    let made : PlainKeyedCellBox Row ℕ = (c.row.inside.label, get_or numbers c.len-in-loop-row.result 0, c.row.inside.sides.items) in
    record {
      can = tt;
      ends = tt;
      count = ap length c.in_ok-push.ensures.items ∙ length_push c.loop-row.out.items _ ∙ (let i = c.loop-row.invariant.count in omega (arith, i, n));
      members = subst (λ k. Listed (numbered_row rows numbers) k c.push.new.self.items) m
          (listed_more (numbered_row rows numbers) c.loop-row.out.items c.push.new.self.items (length done) made
          (numbered_is rows numbers (length done) (get_or numbers c.len-in-loop-row.result 0) x made (get_or_default rows (length done) ([], []) x t.0 ∙ sym t.1) number (λ i. ((c.row.view_is i).0, get_or numbers c.len-in-loop-row.result 0, (c.row.view_is i).1)))
          c.in_ok-push.ensures.items c.loop-row.invariant.members);
    }

pub returns : goal.returns
returns c =
    let rows = c.args.rows.items in
    let t = YieldsList-end (YieldsList-from_vec {s = c.into_iter-row-iterator.result} rows (search rules) (search rules)) c.loop-row.yielded c.loop-row.row-iterator c.loop-row.yielded_by c.next.result c.next.new.self c.in-None.is c.next.ensures.steps in
    subst (λ k. Listed (numbered_row rows c.args.numbers.now) k c.loop-row.out.items) t.1 c.loop-row.invariant.members
