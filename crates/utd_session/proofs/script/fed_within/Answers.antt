use Rattle.std.proofs.Common.{arith, refl}
use Rattle.utd_session.proofs.RunLemmas.{fed_piece, fed_too_long, ended_in_piece}
use Rattle.utd_session.proofs.PaidLemmas.{paid_in_piece}
use Rattle.utd_session.proofs.EndLemmas.{not_at_end}
use Rattle.utd_session.proofs.script.fed_within.Goals as goal

pub returns-then-is_whole-clause-goes_on : goal.returns-then-is_whole-clause-goes_on
returns-then-is_whole-clause-goes_on g c all left before now paid h comes =
    fed_piece all left now before _ _ c.args.session c.in-Ok.session c.args.piece.now c.split_at.result.0.now c.least-count.result paid _ _ h comes c.split_at.ensures.front (omega arith) c.in-Ok.ensures.fed c.in-Ok.ensures.stands c.in-Ok.ensures.cost

pub returns-else-is_whole-clause-run : goal.returns-else-is_whole-clause-run
returns-else-is_whole-clause-run g c all left before now paid h comes =
    fed_too_long all left now before _ _ c.args.session c.in-Ok.session c.args.piece.now c.split_at.result.0.now c.least-count.result c.stop.result 6 paid _ h comes c.requires c.split_at.ensures.front (omega arith) (λ e. omega arith) (omega arith) c.in-Ok.ensures.stands c.stop.ensures refl

pub returns-else-is_whole-clause-cost : goal.returns-else-is_whole-clause-cost
returns-else-is_whole-clause-cost g c all left before now paid h comes =
    paid_in_piece all left now before _ c.args.session c.args.piece.now c.split_at.result.0.now c.least-count.result paid _ _ _ h comes c.split_at.ensures.front (omega arith) (omega arith) c.in-Ok.ensures.cost

pub returns-in-Err-clause-run : goal.returns-in-Err-clause-run
returns-in-Err-clause-run g c all left before now paid h comes =
    ended_in_piece all left now before _ _ c.args.session c.args.piece.now c.split_at.result.0.now c.least-count.result c.in-Err.ended.why c.in-Err.ended.database c.stopped.result.database c.stopped.result.status paid _ c.stopped.ensures.database h comes
    c.requires c.split_at.ensures.front (omega arith) (omega arith) c.in-Err.ensures.memory c.in-Err.ensures.write c.stopped.ensures.write c.stopped.ensures.memory

pub returns-in-Err-clause-cost : goal.returns-in-Err-clause-cost
returns-in-Err-clause-cost g c all left before now paid h comes =
    paid_in_piece all left now before _ c.args.session c.args.piece.now c.split_at.result.0.now c.least-count.result paid _ _ _ h comes c.split_at.ensures.front (omega arith) (omega arith) c.in-Err.ensures.cost

pub returns-else-is_whole-clause-early : goal.returns-else-is_whole-clause-early
returns-else-is_whole-clause-early g c = (refl, not_at_end 6 (omega arith))

pub returns-in-Err-clause-early : goal.returns-in-Err-clause-early
returns-in-Err-clause-early g c = c.stopped.ensures.early
