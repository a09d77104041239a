use Rattle.std.proofs.Common.{◌≡◌, take}
use Rattle.utd_builder.specs.Building as building
use Rattle.utd_parser.specs.Tokens.{pieces}
use Rattle.utd_parser.proofs.whole.lexemes.Given as goal

-- the first tokens are seen
abbrev pub invariant-loop-token : goal.invariant-loop-token
invariant-loop-token l = building.pieces l.list.items ≡ pieces (take l.token-index l.tokens)
