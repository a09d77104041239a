use Rattle.std.proofs.Common.{rules}
use Rattle.std.proofs.lemmas.Fn.{dedup_same}
use Rattle.u_summarize.specs.Asked.{have_one_rank}
use Rattle.u_summarize.proofs.firsts.first_of_each.Goals as goal

pub returns : goal.returns
returns c = dedup_same _ have_one_rank _ (λ x y b f' x' y' k. search rules) c.args.pairs.items c.dedup_by.new.self.items c.dedup_by.ensures.filtered
