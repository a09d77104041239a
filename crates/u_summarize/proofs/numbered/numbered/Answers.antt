use Rattle.std.proofs.Common.{◌<◌, [], length, arith, sym, ◌∙◌}
use Rattle.std.proofs.lemmas.List.{get_or_default}
use Rattle.u_summarize.proofs.NumberedLemmas.{numbered_none, numbered_more, numbered_all}
use Rattle.u_summarize.proofs.numbered.numbered.Goals as goal

pub loop-r-init : goal.loop-r-init
loop-r-init c = record {
  within = omega arith;
  members = numbered_none c.args.by.now c.args.rows.now c.new-out.result.items c.new-out.ensures.items;
}

pub loop-r-preserved : goal.loop-r-preserved
loop-r-preserved c =
    let rows = c.args.rows.now in
    let lt : c.loop-r.r < length rows = c.loop-r-test.true in
    record {
      within = omega (arith, lt);
      members = numbered_more c.args.by.now rows c.loop-r.out.items c.push.new.self.items c.loop-r.r c.index-rows-r.result c.in_ok-entry.entry (get_or_default rows c.loop-r.r ([], []) c.index-rows-r.result lt ∙ sym c.index-rows-r.is) c.in_ok-entry.ensures c.in_ok-push.ensures.items c.loop-r.invariant.members;
    }

pub returns : goal.returns
returns c = numbered_all c.args.by.now c.args.rows.now c.loop-r.out.items c.loop-r.r c.loop-r.invariant.within c.loop-r-test.false c.loop-r.invariant.members
