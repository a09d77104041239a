use Rattle.std.proofs.Common.{sym, ap, ◌∙◌}
use Rattle.std.specs.Result.{is_ok}
use Rattle.std.proofs.lemmas.Bool.{true≢false}
use Rattle.u_summarize.proofs.RankLemmas.{number_found, never_missed}
use Rattle.u_summarize.proofs.ranks.number_in.Goals as goal

pub unreachable-requires : goal.unreachable-requires
unreachable-requires c =
    let found = never_missed c.args.labels.now c.args.label.now c.binary_search.result c.requires.sorted c.requires.there c.binary_search.ensures.bound c.binary_search.ensures.position in
    true≢false (sym found ∙ ap is_ok c.in-Err.is)

pub returns : goal.returns
returns c = number_found c.args.labels.now c.args.label.now c.in-Ok.number c.requires.sorted c.in-Ok.ensures.bound c.in-Ok.ensures.position
