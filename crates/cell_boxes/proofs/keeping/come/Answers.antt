use Rattle.cell_boxes.proofs.TallyLemmas.{kept_at}
use Rattle.cell_boxes.proofs.keeping.come.Goals as goal

pub returns-clause-kept : goal.returns-clause-kept
returns-clause-kept g c = λ rows n a b up k.
    kept_at c.args.spans.now rows c.args.starts.now c.args.ends.now a b n c.args.at.0 c.args.at.1 c.args.flags.now.items k c.args.cell up c.in_ok-s.s c.in_ok-e.e
    c.enter_all.new.flags.items c.leave_all.new.flags.items c.in_ok-s.ensures.flags c.in_ok-e.ensures.flags
