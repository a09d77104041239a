use Rattle.std.proofs.Common.{◌∙◌}
use Rattle.change_rows.proofs.ReplacementLemmas.{replacement_rows, replacement_counted}
use Rattle.change_rows.proofs.replacement.replaced.Goals as goal

pub returns-clause-exchange : goal.returns-clause-exchange
returns-clause-exchange c =
    record {
      come = c.in_ok-come.ensures.rows.0 ∙ c.requires.heading.1;
      gone = c.in_ok-gone.ensures.rows.0 ∙ c.requires.heading.0;
      counted = replacement_counted c.args.value.now c.args.part.now c.args.left.now c.without.ensures.relations.1 c.without-2.ensures.relations.0 c.without.ensures.relations.0
          c.requires.within c.in_ok-come.come.rows c.in_ok-gone.gone.rows c.in_ok-come.ensures.rows.1 c.in_ok-gone.ensures.rows.1;
    }

pub returns-clause-rows : goal.returns-clause-rows
returns-clause-rows c =
    replacement_rows c.args.value.now c.args.part.now c.args.left.now c.without.ensures.relations.1 c.without-2.ensures.relations.0 c.without.ensures.relations.0
    c.requires.within c.in_ok-come.come.rows c.in_ok-gone.gone.rows c.in_ok-come.ensures.rows.1 c.in_ok-gone.ensures.rows.1
