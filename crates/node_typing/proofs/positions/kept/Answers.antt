use Rattle.std.proofs.Common.{ℕ, List, ◌<◌, length, sym, subst, IsTrue}
use Rattle.std.specs.List.{All}
use Rattle.std.specs.Ordering.{nat_cmp}
use Rattle.base_core.specs.Sets.{is_set}
use Rattle.node_typing.proofs.KeptLemmas.{kept-ascending, kept-within}
use Rattle.node_typing.proofs.positions.kept.Goals as goal

pub returns-clause-ascending : goal.returns-clause-ascending
returns-clause-ascending c =
    subst (λ (v : List ℕ). IsTrue (is_set nat_cmp v)) (sym c.in_ok-positions.ensures) (kept-ascending c.args.wanted c.args.named.now c.args.list.now)

pub returns-clause-within : goal.returns-clause-within
returns-clause-within c =
    subst (λ (v : List ℕ). All (λ (i : ℕ). i < length c.args.list.now) v) (sym c.in_ok-positions.ensures) (kept-within c.args.wanted c.args.named.now c.args.list.now)
