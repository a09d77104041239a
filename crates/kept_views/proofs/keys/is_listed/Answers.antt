use Rattle.std.proofs.Common.{sym, ◌∙◌}
use Rattle.kept_views.proofs.NameLemmas.{listed_at}
use Rattle.kept_views.proofs.keys.is_listed.Goals as goal

pub returns-then-eq : goal.returns-then-eq
returns-then-eq c =
    listed_at c.args.name.now c.args.list.now c.args.positions.now c.loop-i.i-index c.index-list-i.result c.loop-i-test.true (c.requires c.loop-i.i-index 0 c.loop-i-test.true)
    (sym c.eq.ensures ∙ c.if-eq.true)
