use Rattle.cell_core.proofs.Numbers.{ends_step}
use Rattle.cell_core.proofs.number.put_ends.Goals as goal

pub returns-clause-ends : goal.returns-clause-ends
returns-clause-ends g c = λ spans l q ends.
    ends_step g.T.PointType.number_of (g.T.PointType.IsPoint c.args.t.now) (g.T.PointType.last_number c.args.t.now) spans c.args.r c.args.span c.args.list.now.items c.push.new.self.items c.put_after.new.list.items l q c.in_ok-push.ensures.items c.in_ok-put_after.ensures.put c.requires.begin ends
