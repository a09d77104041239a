use Rattle.std.proofs.Common.{◌++◌, refl, le_refl, ap, arith, length, length-append}
use Rattle.utd_session.specs.Statements.{cut}
use Rattle.utd_session.proofs.SessionLemmas.{fed-nothing, fed-more, fed-stop, fed-cut-off, fed-end, fed-stop-at-end}
use Rattle.utd_session.proofs.PaidLemmas.{fed-within, fed-within-at-end}
use Rattle.utd_session.proofs.feeding.Session.feed.Goals as goal

pub loop-prefix-init : goal.loop-prefix-init
loop-prefix-init g c = record {
  fed = λ bytes rs h. fed-nothing c.args.self c.args.self.cutter c.args.piece.now bytes rs (g.K.Sink.written c.args.out.now) c.args.steps.now refl h;
  room = refl;
  count = le_refl (g.K.Sink.faults c.args.out.now);
}

pub loop-prefix-preserved : goal.loop-prefix-preserved
loop-prefix-preserved g c = record {
  fed = λ bytes rs h.
      let i = c.loop-prefix.invariant.fed bytes rs h in
      let done = bytes ++ i.done in
      let ends = c.in-Some.ensures.end (cut done).place (cut done).rest i.since in
      fed-more c.loop-prefix.session c.end.new.self c.loop-prefix.cutter c.next_end.new.cutter c.args.piece.now c.loop-prefix.rest.now c.in-Some.prefix.now c.in-Some.behind.now bytes rs _ _ _ _ _ _ i
      c.in-Some.ensures.parts ends (c.in-Ok.ensures.performed done (rs ++ i.more) i.stands ends) (c.in-Ok.ensures.cost done (rs ++ i.more) i.stands) (c.in-Some.ensures.since (cut done).rest i.since);
  room = omega (arith, c.in-Ok.ensures.fed, c.loop-prefix.invariant.room, ap length c.in-Some.ensures.parts, length-append c.in-Some.prefix.now c.in-Some.behind.now);
  count = omega (arith, c.loop-prefix.invariant.count, c.end.ensures.count);
}

pub returns-in-Err-clause-memory : goal.returns-in-Err-clause-memory
returns-in-Err-clause-memory g c bytes rs h e =
    fed-stop c.loop-prefix.session c.loop-prefix.cutter c.args.piece.now c.loop-prefix.rest.now bytes rs _ _ _ _ _ c.end.new.self.database (c.in-Err.ensures.memory e).1 (c.loop-prefix.invariant.fed bytes rs h) (c.in-Err.ensures.memory e).0

pub returns-in-Err-clause-write : goal.returns-in-Err-clause-write
returns-in-Err-clause-write g c bytes rs h e =
    let i = c.loop-prefix.invariant.fed bytes rs h in
    let done = bytes ++ i.done in
    let ends = c.in-Some.ensures.end (cut done).place (cut done).rest i.since in
    fed-cut-off c.loop-prefix.session c.loop-prefix.cutter c.args.piece.now c.loop-prefix.rest.now c.in-Some.prefix.now c.in-Some.behind.now bytes rs _ _ _ _ _ c.end.new.self.database i
    c.in-Some.ensures.parts ends (c.in-Err.ensures.write done (rs ++ i.more) i.stands e)

pub returns-clause-stands : goal.returns-clause-stands
returns-clause-stands g c bytes rs h =
    let i = c.loop-prefix.invariant.fed bytes rs h in
    let done = bytes ++ i.done in
    fed-end c.loop-prefix.session c.loop-prefix.cutter c.args.piece.now c.loop-prefix.rest.now bytes rs _ _ _ _ c.keep.result i
    (c.keep.ensures.kept done (rs ++ i.more) i.stands (c.in_default.ensures.end (cut done).place (cut done).rest i.since) (c.in_default.ensures.since (cut done).rest i.since))

pub returns-clause-memory : goal.returns-clause-memory
returns-clause-memory g c bytes rs h =
    fed-stop-at-end c.loop-prefix.session c.loop-prefix.cutter c.args.piece.now c.loop-prefix.rest.now bytes rs _ _ _ _ c.keep.result (c.loop-prefix.invariant.fed bytes rs h) c.keep.ensures.left

pub returns-in-Err-clause-cost : goal.returns-in-Err-clause-cost
returns-in-Err-clause-cost g c bytes rs h =
    let i = c.loop-prefix.invariant.fed bytes rs h in
    let done = bytes ++ i.done in
    let ends = c.in-Some.ensures.end (cut done).place (cut done).rest i.since in
    fed-within c.loop-prefix.session c.loop-prefix.cutter c.args.piece.now c.loop-prefix.rest.now c.in-Some.prefix.now c.in-Some.behind.now bytes rs _ _ _ _ _ c.end.new.self.database c.in-Err.why i
    c.in-Some.ensures.parts ends (c.in-Err.ensures.cost done (rs ++ i.more) i.stands) (λ w. (c.in-Err.ensures.memory w).1) (λ w. let k = c.in-Err.ensures.write done (rs ++ i.more) i.stands w in (k.0, k.1, k.2.1))

pub returns-clause-cost : goal.returns-clause-cost
returns-clause-cost g c bytes rs h =
    let i = c.loop-prefix.invariant.fed bytes rs h in
    let done = bytes ++ i.done in
    fed-within-at-end c.loop-prefix.session c.loop-prefix.cutter c.args.piece.now c.loop-prefix.rest.now bytes rs _ _ _ _ c.keep.result i
    (c.keep.ensures.kept done (rs ++ i.more) i.stands (c.in_default.ensures.end (cut done).place (cut done).rest i.since) (c.in_default.ensures.since (cut done).rest i.since)) c.keep.ensures.left
