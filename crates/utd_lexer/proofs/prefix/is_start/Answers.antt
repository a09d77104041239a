use Rattle.std.proofs.Common.{◌==◌, ◌||◌, sym, ◌∙◌, ap}
use Rattle.unicode_ident.proofs.IdentLemmas.{is_xid_start-ascii}
use Rattle.utd_lexer.proofs.prefix.is_start.Goals as goal

pub returns-then-c-lt128 : goal.returns-then-c-lt128
returns-then-c-lt128 c = c.is_ascii_start.ensures ∙ ap (λ b. b || (c.args.c == 95)) (sym (is_xid_start-ascii c.args.c c.if-c-lt128.true))
