use Rattle.std.proofs.Common.{◌≡◌, ◌-◌, ◌≤◌, length}
use Rattle.value_core.specs.Limits.{most_script_bytes}
use Rattle.utd_session.specs.Run.{most_at_once}
use Rattle.utd_session.specs.Sessions.{fed_of}
use Rattle.utd_session.specs.Progress.{MayHaveFed}
use Rattle.utd_session.proofs.script.run_script.Given as goal

abbrev pub invariant-script : goal.invariant-script
invariant-script g l = record {
  fed : MayHaveFed (g.S.Source.left l.initial.input) (g.S.Source.left l.input) l.session (g.K.Sink.written l.initial.out) (g.K.Sink.written l.out) l.initial.steps l.steps;
  full : length l.buffer ≡ most_at_once;
  reads : g.S.Source.faults l.initial.input ≤ g.S.Source.faults l.input;
  writes : g.K.Sink.faults l.initial.out ≤ g.K.Sink.faults l.out;
}

abbrev pub decreases-script : goal.decreases-script
decreases-script g l = most_script_bytes - fed_of l.session
