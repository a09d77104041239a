use Rattle.std.proofs.Common.{arith, sym, subst}
use Rattle.u_summarize.proofs.CountLemmas.{leave_room, total_some, left, leave_more, leave_last, still_in, in_image_length}
use Rattle.u_summarize.proofs.counting.CountingTally.leave.Goals as goal
use Rattle.u_summarize.specs.Counts.{image}

pub overflow_sub-before : goal.overflow_sub-before
overflow_sub-before g c = let r = c.requires in let p = leave_room c.args.self.now.rows c.args.self.now.numbers.items c.args.state.total c.args.state.counts.items r.0 r.1.0 r.1.2 c.args.row c.index-number.result.now c.index-before.result.now r.2 c.index-number.ensures c.index-before.ensures r.3 in omega (arith, p)

pub overflow_sub-result : goal.overflow_sub-result
overflow_sub-result g c = let r = c.requires in let p = total_some c.args.self.now.rows c.args.self.now.numbers.items c.args.state.total c.args.state.counts.items r.0 r.1.0 r.1.2 c.args.row c.index-number.result.now c.index-before.result.now r.2 c.index-number.ensures c.index-before.ensures r.3 in omega (arith, p)

pub leave-requires : goal.leave-requires
leave-requires g c =
    let r = c.requires in
    (image c.args.self.now.rows c.args.self.now.numbers.items r.0, r.1.1, in_image_length c.args.self.now.rows c.args.self.now.numbers.items c.args.state.total c.args.state.counts.items r.0 r.1.0 r.1.2 c.args.row c.index-number.result.now c.index-before.result.now r.2 c.index-number.ensures c.index-before.ensures, still_in c.args.self.now.rows c.args.self.now.numbers.items c.args.state.total c.args.state.counts.items r.0 r.1.0 r.1.2 c.args.row c.index-number.result.now c.index-before.result.now r.2 c.index-number.ensures c.index-before.ensures r.3)

pub returns-then-before-gt1 : goal.returns-then-before-gt1
returns-then-before-gt1 g c = λ f is l h.
    let some = leave_room c.args.self.now.rows c.args.self.now.numbers.items c.args.state.total c.args.state.counts.items f is.0 is.2 c.args.row c.index-number.result.now c.index-before.result.now l c.index-number.ensures c.index-before.ensures h in
    let rows = total_some c.args.self.now.rows c.args.self.now.numbers.items c.args.state.total c.args.state.counts.items f is.0 is.2 c.args.row c.index-number.result.now c.index-before.result.now l c.index-number.ensures c.index-before.ensures h in (
      left c.args.self.now.rows c.args.self.now.numbers.items c.args.state.total c.args.state.counts.items f is.0 is.2 c.args.row c.index-number.result.now c.index-before.result.now l c.index-number.ensures c.index-before.ensures h _ _ (omega (arith, rows)) (omega (arith, some)),
      subst (g.G.GroupTally.IsOf c.args.self.now.rule.now c.args.state.state) (sym (leave_more c.args.self.now.rows c.args.self.now.numbers.items c.args.state.total c.args.state.counts.items f is.0 is.2 c.args.row c.index-number.result.now c.index-before.result.now l c.index-number.ensures c.index-before.ensures h c.if-before-gt1.true)) is.1,
      is.2,
    )

pub overflow_sub-result-2 : goal.overflow_sub-result-2
overflow_sub-result-2 g c = let r = c.requires in let p = total_some c.args.self.now.rows c.args.self.now.numbers.items c.args.state.total c.args.state.counts.items r.0 r.1.0 r.1.2 c.args.row c.index-number.result.now c.index-before.result.now r.2 c.index-number.ensures c.index-before.ensures r.3 in omega (arith, p)

pub returns : goal.returns
returns g c = λ f is l h.
    let last = c.if-before-gt1.false in
    let some = leave_room c.args.self.now.rows c.args.self.now.numbers.items c.args.state.total c.args.state.counts.items f is.0 is.2 c.args.row c.index-number.result.now c.index-before.result.now l c.index-number.ensures c.index-before.ensures h in
    let rows = total_some c.args.self.now.rows c.args.self.now.numbers.items c.args.state.total c.args.state.counts.items f is.0 is.2 c.args.row c.index-number.result.now c.index-before.result.now l c.index-number.ensures c.index-before.ensures h in (
      left c.args.self.now.rows c.args.self.now.numbers.items c.args.state.total c.args.state.counts.items f is.0 is.2 c.args.row c.index-number.result.now c.index-before.result.now l c.index-number.ensures c.index-before.ensures h _ _ (omega (arith, rows)) (omega (arith, some)),
      subst (g.G.GroupTally.IsOf c.args.self.now.rule.now c.in_ok-next.next) (sym (leave_last c.args.self.now.rows c.args.self.now.numbers.items c.args.state.total c.args.state.counts.items f is.0 is.2 c.args.row c.index-number.result.now c.index-before.result.now l c.index-number.ensures c.index-before.ensures h (omega (arith, last))))
          (c.in_ok-next.ensures (image c.args.self.now.rows c.args.self.now.numbers.items f) is.1 (in_image_length c.args.self.now.rows c.args.self.now.numbers.items c.args.state.total c.args.state.counts.items f is.0 is.2 c.args.row c.index-number.result.now c.index-before.result.now l c.index-number.ensures c.index-before.ensures) (still_in c.args.self.now.rows c.args.self.now.numbers.items c.args.state.total c.args.state.counts.items f is.0 is.2 c.args.row c.index-number.result.now c.index-before.result.now l c.index-number.ensures c.index-before.ensures h)),
      is.2,
    )
