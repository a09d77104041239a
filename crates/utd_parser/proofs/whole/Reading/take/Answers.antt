use Rattle.std.proofs.Common.{◌∙◌, ap}
use Rattle.utd_syntax.specs.Verdict.{taken, verdict}
use Rattle.utd_ranges.specs.Limits.{limits}
use Rattle.utd_parser.specs.Forms.{taking_of}
use Rattle.utd_parser.specs.Frames.{load_of, symbols_of, reach_of}
use Rattle.utd_parser.specs.Tokens.{seen}
use Rattle.utd_parser.proofs.Verdicts.{verdict-excess, verdict-fits, verdict-same}
use Rattle.utd_parser.proofs.whole.Reading.take.Goals as goal

pub returns-in-Some : goal.returns-in-Some
returns-in-Some c ts = c.refusal.ensures _ (ap (λ r. taken limits (reach_of r (symbols_of c.args.self.now.stack)) (seen c.args.terminal c.args.place c.args.bytes.now) (verdict limits ts)) c.in-Reaches.is ∙ verdict-excess c.args.terminal c.args.place c.args.bytes.now ts (taking_of c.in-Reaches.how) (symbols_of c.args.self.now.stack) (load_of c.in-Reaches.load) _ _ c.excess.ensures c.in-Some.is)

pub returns-in_ok-self-in-Reaches : goal.returns-in_ok-self-in-Reaches
returns-in_ok-self-in-Reaches c ts = ap (λ r. taken limits (reach_of r (symbols_of c.args.self.now.stack)) (seen c.args.terminal c.args.place c.args.bytes.now) (verdict limits ts)) c.in-Reaches.is ∙ verdict-fits c.args.terminal c.args.place c.args.bytes.now ts (taking_of c.in-Reaches.how) (symbols_of c.args.self.now.stack) (load_of c.in-Reaches.load) _ c.excess.ensures c.in_default.is ∙ verdict-same ts _ _ _ _ c.in_ok-self-in-Reaches.ensures.forms c.in_ok-self-in-Reaches.ensures.load

pub returns-in-Over : goal.returns-in-Over
returns-in-Over c ts = c.refusal-in-Over.ensures _ (ap (λ r. taken limits (reach_of r (symbols_of c.args.self.now.stack)) (seen c.args.terminal c.args.place c.args.bytes.now) (verdict limits ts)) c.in-Over.is)

pub returns-in-Stuck : goal.returns-in-Stuck
returns-in-Stuck c ts = c.refusal-in-Stuck.ensures _ (ap (λ r. taken limits (reach_of r (symbols_of c.args.self.now.stack)) (seen c.args.terminal c.args.place c.args.bytes.now) (verdict limits ts)) c.in-Stuck.is)
