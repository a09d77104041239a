-- Tokens that close what stands before them.
use Rattle.std.specs.Prelude.{Bool, true, false}
use Rattle.utd_syntax.specs.declared.terminal.Terminal.{Terminal}
use Rattle.utd_syntax.specs.declared.terminal.Terminal.TheVariants as t

-- the token closes, or parts from the next, whatever stands before it
abbrev pub closes : Terminal → Bool
closes t.Close = true
closes t.CloseBracket = true
closes t.CloseBrace = true
closes t.Comma = true
closes t.Semicolon = true
closes t.Colon = true
closes _ = false
