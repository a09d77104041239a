use Rattle.std.proofs.Common.{refl, le_refl, arith, take, sym, subst, IfSome}
use Rattle.utd_session.specs.Costs.{IsPaid}
use Rattle.utd_session.proofs.RunLemmas.{may_start, may_go_on, may_stop, may_finish, may_fail}
use Rattle.utd_session.proofs.EndLemmas.{not_at_end, early_end, early_texts, no_texts, may_have_texts}
use Rattle.utd_session.proofs.PaidLemmas.{may_have_paid, may_have_paid_all, may_have_paid_in_piece}
use Rattle.utd_session.proofs.script.run_script.Goals as goal

pub script-init : goal.script-init
script-init g c = record {
  fed = may_start (g.S.Source.left c.args.input.now) (g.K.Sink.written c.args.out.now) c.new-session.result c.args.steps.now c.new-session.ensures.fed c.new-session.ensures.nothing;
  full = refl;
  reads = le_refl (g.S.Source.faults c.args.input.now);
  writes = le_refl (g.K.Sink.faults c.args.out.now);
}

pub returns-then-n-eq0-clause-run : goal.returns-then-n-eq0-clause-run
returns-then-n-eq0-clause-run g c =
    may_finish (g.S.Source.left c.args.input.now) (g.S.Source.left c.script.input) (g.S.Source.left c.read.new.self) (g.K.Sink.written c.args.out.now) (g.K.Sink.written c.script.out) (g.K.Sink.written c.finished.new.out)
    c.script.session c.read.new.buf c.in-Ok.n _ _ c.finished.result c.script.invariant.fed c.in-Ok.ensures.bytes c.if-n-eq0.true c.finished.ensures.run

pub script-preserved : goal.script-preserved
script-preserved g c = record {
  fed = may_go_on (g.S.Source.left c.args.input.now) (g.S.Source.left c.script.input) (g.S.Source.left c.read.new.self) (g.K.Sink.written c.args.out.now) (g.K.Sink.written c.script.out) (g.K.Sink.written c.fed_within.new.out)
      c.script.session c.in-Ok-fed_within.next c.read.new.buf (take c.in-Ok.n c.read.new.buf) c.in-Ok.n _ _ _ c.script.invariant.fed c.in-Ok.ensures.bytes refl c.in-Ok-fed_within.ensures.goes_on;
  full = omega (arith, c.script.invariant.full, c.read.auto.buf);
  reads = omega (arith, c.script.invariant.reads, c.read.ensures.count);
  writes = omega (arith, c.script.invariant.writes, c.fed_within.ensures.count);
}

pub returns-in-Err-clause-run : goal.returns-in-Err-clause-run
returns-in-Err-clause-run g c =
    may_stop (g.S.Source.left c.args.input.now) (g.S.Source.left c.script.input) (g.S.Source.left c.read.new.self) (g.K.Sink.written c.args.out.now) (g.K.Sink.written c.script.out) (g.K.Sink.written c.fed_within.new.out)
    c.script.session c.read.new.buf (take c.in-Ok.n c.read.new.buf) c.in-Ok.n _ _ c.in-Err.ran c.script.invariant.fed c.in-Ok.ensures.bytes refl c.in-Err.ensures.run

pub returns-clause-run : goal.returns-clause-run
returns-clause-run g c =
    may_fail (g.S.Source.left c.args.input.now) (g.S.Source.left c.script.input) (g.S.Source.left c.read.new.self) (g.K.Sink.written c.args.out.now) (g.K.Sink.written c.script.out) c.script.session c.stop.result _ _
    c.stop.ensures c.script.invariant.fed c.in_default.ensures.failed c.script.session.few

pub returns-then-n-eq0-clause-cost : goal.returns-then-n-eq0-clause-cost
returns-then-n-eq0-clause-cost g c =
    let o = g.S.Source.left c.args.input.now in
    let after = g.S.Source.left c.read.new.self in
    subst (λ steps. IfSome o (λ all. IsPaid all after c.args.steps.now steps)) (sym c.finished.ensures.cost)
    (may_have_paid_all o (g.S.Source.left c.script.input) after (g.K.Sink.written c.args.out.now) (g.K.Sink.written c.script.out) c.script.session c.args.steps.now c.script.steps c.in-Ok.n c.read.new.buf
    c.script.invariant.fed c.in-Ok.ensures.bytes c.if-n-eq0.true c.script.session.few)

pub returns-in-Err-clause-cost : goal.returns-in-Err-clause-cost
returns-in-Err-clause-cost g c =
    may_have_paid_in_piece (g.S.Source.left c.args.input.now) (g.S.Source.left c.script.input) (g.S.Source.left c.read.new.self) (g.K.Sink.written c.args.out.now) (g.K.Sink.written c.script.out) c.script.session _ _ _ c.in-Ok.n c.read.new.buf (take c.in-Ok.n c.read.new.buf)
    c.script.invariant.fed c.in-Ok.ensures.bytes refl c.in-Err.ensures.cost

pub returns-clause-cost : goal.returns-clause-cost
returns-clause-cost g c =
    may_have_paid (g.S.Source.left c.args.input.now) (g.S.Source.left c.script.input) (g.S.Source.left c.read.new.self) (g.K.Sink.written c.args.out.now) (g.K.Sink.written c.script.out) c.script.session _ _
    c.script.invariant.fed c.in_default.ensures.failed c.script.session.few

pub returns-then-n-eq0-clause-texts : goal.returns-then-n-eq0-clause-texts
returns-then-n-eq0-clause-texts g c =
    may_have_texts (g.S.Source.left c.args.input.now) (g.S.Source.left c.script.input) (g.S.Source.left c.read.new.self) (g.K.Sink.written c.args.out.now) (g.K.Sink.written c.script.out)
    c.script.session c.read.new.buf c.in-Ok.n _ _ c.finished.result.texts c.script.invariant.fed c.in-Ok.ensures.bytes c.if-n-eq0.true c.finished.ensures.texts

pub returns-then-n-eq0-clause-end : goal.returns-then-n-eq0-clause-end
returns-then-n-eq0-clause-end g c = c.finished.ensures.end

pub returns-in-Err-clause-texts : goal.returns-in-Err-clause-texts
returns-in-Err-clause-texts g c = early_texts (g.S.Source.left c.args.input.now) c.in-Err.ran c.in-Err.ensures.early

pub returns-in-Err-clause-end : goal.returns-in-Err-clause-end
returns-in-Err-clause-end g c = early_end c.in-Err.ran c.in-Err.ensures.early

pub returns-clause-texts : goal.returns-clause-texts
returns-clause-texts g c = no_texts (g.S.Source.left c.args.input.now)

pub returns-clause-end : goal.returns-clause-end
returns-clause-end g c = not_at_end 3 (omega arith)
