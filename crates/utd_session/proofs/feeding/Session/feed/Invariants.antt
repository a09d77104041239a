use Rattle.std.proofs.Common.{◌≡◌, ℕ, ◌+◌, ◌≤◌, List, length}
use Rattle.utd_statement.specs.Readings.{Reading}
use Rattle.utd_session.specs.Sessions.{StandsFor, fed_of}
use Rattle.utd_session.proofs.SessionLemmas.{IsFed}
use Rattle.utd_session.proofs.feeding.Session.feed.Given as goal

abbrev pub invariant-loop-prefix : goal.invariant-loop-prefix
invariant-loop-prefix g l = record {
  fed : (bytes : List ℕ) (rs : List Reading) → StandsFor l.fn.self bytes rs → IsFed l.session l.cutter l.piece l.rest bytes rs (g.K.Sink.written l.initial.out) (g.K.Sink.written l.out) l.initial.steps l.steps;
  room : fed_of l.session + length l.rest ≡ fed_of l.fn.self + length l.piece;
  count : g.K.Sink.faults l.initial.out ≤ g.K.Sink.faults l.out;
}

abbrev pub decreases-loop-prefix : goal.decreases-loop-prefix
decreases-loop-prefix g l = length l.rest
