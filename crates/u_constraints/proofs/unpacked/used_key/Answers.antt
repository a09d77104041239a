use Rattle.std.proofs.Common.{sym, ◌∙◌}
use Rattle.u_constraints.proofs.PlainKeyLemmas.{no_line_fails, plain_key}
use Rattle.u_constraints.proofs.unpacked.used_key.Goals as goal

pub returns-clause-answer : goal.returns-clause-answer
returns-clause-answer g c =
    no_line_fails _ _ _ (sym c.in_ok-is_packed.ensures.answer ∙ c.if-not-branch.false) (sym c.in_ok-is_unpacked_key.ensures.answer ∙ c.if-not-branch-2.false)
    (plain_key c.args.r.now c.rows-rows.ensures.relation c.args.commalist.now c.requires.list c.args.key.now c.requires.lies)
