use Rattle.std.proofs.Common.{◌-◌, ◌≤◌, length, drop}
use Rattle.utd_lexer.proofs.TextLemmas.{TextTaken, NoText}
use Rattle.utd_lexer.proofs.prefix.text_behind.Given as goal

abbrev pub invariant-body : goal.invariant-body
invariant-body l = record {
  within : l.n ≤ length l.body;
  taken : TextTaken l.list.items l.n l.body;
  on : NoText (drop l.n l.body) → NoText l.body;
}

abbrev pub decreases-body : goal.decreases-body
decreases-body l = length l.body - l.n
