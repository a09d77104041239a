use Rattle.std.proofs.Common.{sym, ◌∙◌}
use Rattle.unicode_ident.proofs.IdentLemmas.{is_xid_continue-ascii}
use Rattle.utd_lexer.proofs.prefix.is_continuing.Goals as goal

pub returns-then-c-lt128 : goal.returns-then-c-lt128
returns-then-c-lt128 c = c.is_ascii_continuing.ensures ∙ sym (is_xid_continue-ascii c.args.c c.if-c-lt128.true)
