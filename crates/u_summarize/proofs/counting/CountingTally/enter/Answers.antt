use Rattle.std.proofs.Common.{arith, sym, subst}
use Rattle.u_summarize.proofs.CountLemmas.{enter_room, total_room, entered, enter_old, enter_new, not_yet, in_image_length}
use Rattle.u_summarize.proofs.counting.CountingTally.enter.Goals as goal
use Rattle.u_summarize.specs.Counts.{image}

pub overflow_add-before : goal.overflow_add-before
overflow_add-before g c = let r = c.requires in let p = enter_room c.args.self.now.rows c.args.self.now.numbers.items c.args.state.total c.args.state.counts.items r.0 r.1.0 r.1.2 c.args.row c.index-number.result.now c.index-before.result.now r.2 c.index-number.ensures c.index-before.ensures r.3 in omega (arith, p)

pub overflow_add-result : goal.overflow_add-result
overflow_add-result g c = let r = c.requires in let p = total_room c.args.self.now.rows c.args.self.now.numbers.items c.args.state.total c.args.state.counts.items r.0 r.1.0 r.1.2 c.args.row c.index-number.result.now c.index-before.result.now r.2 c.index-number.ensures c.index-before.ensures r.3 in omega (arith, p)

pub enter-requires : goal.enter-requires
enter-requires g c =
    let r = c.requires in
    let none = c.if-before-gt0.false in
    (image c.args.self.now.rows c.args.self.now.numbers.items r.0, r.1.1, in_image_length c.args.self.now.rows c.args.self.now.numbers.items c.args.state.total c.args.state.counts.items r.0 r.1.0 r.1.2 c.args.row c.index-number.result.now c.index-before.result.now r.2 c.index-number.ensures c.index-before.ensures, not_yet c.args.self.now.rows c.args.self.now.numbers.items c.args.state.total c.args.state.counts.items r.0 r.1.0 r.1.2 c.args.row c.index-number.result.now c.index-before.result.now r.2 c.index-number.ensures c.index-before.ensures (omega (arith, none)))

pub returns-then-before-gt0 : goal.returns-then-before-gt0
returns-then-before-gt0 g c = λ f is l h. (
  entered c.args.self.now.rows c.args.self.now.numbers.items c.args.state.total c.args.state.counts.items f is.0 is.2 c.args.row c.index-number.result.now c.index-before.result.now l c.index-number.ensures c.index-before.ensures h,
  subst (g.G.GroupTally.IsOf c.args.self.now.rule.now c.args.state.state) (sym (enter_old c.args.self.now.rows c.args.self.now.numbers.items c.args.state.total c.args.state.counts.items f is.0 is.2 c.args.row c.index-number.result.now c.index-before.result.now l c.index-number.ensures c.index-before.ensures h c.if-before-gt0.true)) is.1,
  is.2,
)

pub overflow_add-result-2 : goal.overflow_add-result-2
overflow_add-result-2 g c = let r = c.requires in let p = total_room c.args.self.now.rows c.args.self.now.numbers.items c.args.state.total c.args.state.counts.items r.0 r.1.0 r.1.2 c.args.row c.index-number.result.now c.index-before.result.now r.2 c.index-number.ensures c.index-before.ensures r.3 in omega (arith, p)

pub returns : goal.returns
returns g c = λ f is l h.
    let none = c.if-before-gt0.false in (
      entered c.args.self.now.rows c.args.self.now.numbers.items c.args.state.total c.args.state.counts.items f is.0 is.2 c.args.row c.index-number.result.now c.index-before.result.now l c.index-number.ensures c.index-before.ensures h,
      subst (g.G.GroupTally.IsOf c.args.self.now.rule.now c.in_ok-next.next) (sym (enter_new c.args.self.now.rows c.args.self.now.numbers.items c.args.state.total c.args.state.counts.items f is.0 is.2 c.args.row c.index-number.result.now c.index-before.result.now l c.index-number.ensures c.index-before.ensures h (omega (arith, none))))
          (c.in_ok-next.ensures (image c.args.self.now.rows c.args.self.now.numbers.items f) is.1 (in_image_length c.args.self.now.rows c.args.self.now.numbers.items c.args.state.total c.args.state.counts.items f is.0 is.2 c.args.row c.index-number.result.now c.index-before.result.now l c.index-number.ensures c.index-before.ensures) (not_yet c.args.self.now.rows c.args.self.now.numbers.items c.args.state.total c.args.state.counts.items f is.0 is.2 c.args.row c.index-number.result.now c.index-before.result.now l c.index-number.ensures c.index-before.ensures (omega (arith, none)))),
      is.2,
    )
