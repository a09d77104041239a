use Rattle.std.proofs.Common.{ap, sym, subst, option_map, ◌∙◌}
use Rattle.value_core.specs.Values.{Heading, Relation}
use Rattle.meaning_core.specs.Typing.{IsListIf}
use Rattle.assign_core.proofs.new_rows.pending_join.Goals as goal

pub pending_addition-requires-clause-addition : goal.pending_addition-requires-clause-addition
pending_addition-requires-clause-addition g c =
    let t = c.args.target in
    record {
      target = c.requires.target;
      headed = sym c.requires.headed;
      relation = c.requires.relation;
      listed = subst (λ (h : Heading). IsListIf h (option_map (λ l. l.now) c.args.commalist)) c.requires.headed c.requires.listed;
    }

pub coming-requires-clause-heading : goal.coming-requires-clause-heading
coming-requires-clause-heading g c =
    ap (λ (r : Relation). r.heading) c.remove.ensures ∙ c.requires.headed

pub coming-requires-clause-new : goal.coming-requires-clause-new
coming-requires-clause-new g c =
    (c.args.rows.rows, ap (λ (r : Relation). r.rows) c.remove.ensures)
