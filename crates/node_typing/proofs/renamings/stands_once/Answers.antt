use Rattle.std.proofs.Common.{ap, sym, ◌∙◌}
use Rattle.std.specs.Prelude.{nat_le}
use Rattle.std.specs.Str.{bytes_eq}
use Rattle.std.proofs.lemmas.List.Sums.{length-filter}
use Rattle.node_typing.proofs.renamings.stands_once.Goals as goal

pub returns : goal.returns
returns c = ap (λ n. nat_le n 1) (c.times.ensures ∙ sym (length-filter (bytes_eq c.args.name.now) c.args.names.now))
