use Rattle.std.proofs.Common.{subst}
use Rattle.tree_core.specs.Relvars.{read_relvars}
use Rattle.utd_statement.specs.Replies.{IsMade}
use Rattle.utd_statement.proofs.CountedLemmas.{made-performed}
use Rattle.utd_statement.proofs.performing.counted.Goals as goal

pub returns-in-Ok : goal.returns-in-Ok
returns-in-Ok c old a h =
    let mid = read_relvars c.args.database.now in
    made-performed c.in-Ok.text old mid (read_relvars c.accept.new.self) a (subst (λ w. IsMade w old mid a) c.in-Ok.is h) c.accept.ensures

pub returns-in-Err : goal.returns-in-Err
returns-in-Err c old a h = subst (λ w. IsMade w old (read_relvars c.args.database.now) a) c.in-Err.is h
