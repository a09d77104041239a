use Rattle.std.proofs.Common.{List, ℕ, map, ap, ◌∙◌}
use Rattle.std.specs.List.{dedup}
use Rattle.std.specs.Ordering.{nat_cmp}
use Rattle.base_core.specs.Sets.{in_order}
use Rattle.cell_sweep.specs.Rows.{pair_cmp}
use Rattle.u_summarize.specs.Asked.{have_one_rank}
use Rattle.u_summarize.proofs.FirstLemmas.{first_numbers}
use Rattle.u_summarize.proofs.firsts.firsts_at.Goals as goal

pub returns : goal.returns
returns c =
    let numbers : List (ℕ × ℕ) → List ℕ = map (λ (x : ℕ × ℕ). x.1) in
    c.in_ok-set.ensures
    ∙ ap (in_order nat_cmp) (c.in_ok-list.ensures ∙ ap numbers (c.as_slice.ensures.value ∙ c.first_of_each-firsts.ensures ∙ ap (dedup have_one_rank) (c.in_ok-pairs.ensures ∙ ap (in_order pair_cmp) c.in_ok-all.ensures)))
    ∙ first_numbers c.args.ranks.now c.args.numbers.now c.args.places.now
