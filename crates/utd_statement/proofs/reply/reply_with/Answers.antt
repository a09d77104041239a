use Rattle.std.proofs.Common.{Ok, sym, subst}
use Rattle.utd_statement.specs.Replies.{IsPerformed}
use Rattle.utd_statement.proofs.reply.reply_with.Goals as goal

pub returns-in-Ok : goal.returns-in-Ok
returns-in-Ok c old new a h =
    let done : IsPerformed (Ok c.in-Ok.text) old new a = subst (λ w. IsPerformed w old new a) c.in-Ok.is h in
    ((done.0.0 c.args.number, sym done.0.1), done.1)
