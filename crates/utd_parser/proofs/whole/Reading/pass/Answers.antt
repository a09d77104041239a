use Rattle.std.proofs.Common.{ap}
use Rattle.utd_builder.specs.Building as building
use Rattle.utd_parser.specs.Frames.{load_of, symbols_of, reach_of}
use Rattle.utd_parser.proofs.Verdicts.{comes-end, comes-token}
use Rattle.utd_parser.proofs.Trees.{no-pieces}
use Rattle.utd_parser.proofs.whole.Reading.pass.Goals as goal

pub returns-in-None : goal.returns-in-None
returns-in-None c = comes-end c.end.result (building.pieces c.args.tokens.now) (symbols_of c.args.self.now.stack) (symbols_of c.advance.new.stack) (load_of c.args.self.now.load) (load_of c.args.self.now.load) _ _ _ (reach_of c.in_ok-reach.reach (symbols_of c.advance.new.stack)) (no-pieces c.args.tokens.now c.in-None.ensures.cases) c.first_of.ensures c.first_bytes.ensures c.second_of.ensures c.in_ok-reach.ensures (c.end.ensures (symbols_of c.advance.new.stack))

pub returns-in-Some : goal.returns-in-Some
returns-in-Some c = comes-token c.take.result (building.pieces c.args.tokens.now) (building.piece c.in-Some.token.now) (building.pieces c.in-Some.field-0-1.now) (symbols_of c.args.self.now.stack) (symbols_of c.take.new.self.stack) (load_of c.args.self.now.load) (load_of c.take.new.self.load) _ _ _ (reach_of c.in_ok-reach.reach (symbols_of c.advance.new.stack)) (ap building.pieces c.in-Some.ensures.cases.0) c.first_of.ensures c.first_bytes.ensures c.second_of.ensures c.in_ok-reach.ensures (c.take.ensures (building.pieces c.in-Some.field-0-1.now))
