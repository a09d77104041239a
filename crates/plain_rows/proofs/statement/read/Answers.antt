use Rattle.std.proofs.Common.{subst}
use Rattle.plain_rows.specs.Brought.{bringing_of}
use Rattle.plain_rows.specs.Heads.{head_of, IsWayOf}
use Rattle.plain_rows.proofs.ReadLemmas.{brings}
use Rattle.plain_rows.proofs.statement.read.Goals as goal

pub returns : goal.returns
returns c =
    brings _ _ _ _ (head_of c.in_ok-head.head) (bringing_of c.in_ok-way.way) _ _ c.past_space-here.ensures c.in_ok-head.ensures.begins c.past_space-body_at.ensures c.in_ok-head.ensures.listed c.in_ok-head.ensures.named c.in_ok-rows.ensures
    (subst (λ h. IsWayOf (head_of c.in_ok-head.head) h (bringing_of c.in_ok-way.way)) c.heading.ensures.heading c.in_ok-way.ensures)
