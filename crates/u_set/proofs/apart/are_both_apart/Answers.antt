use Rattle.std.proofs.Common.{◌++◌, inl, inr, refl, map, ◌∙◌}
use Rattle.base_core.proofs.MemberLemmas.{In-append}
use Rattle.u_set.specs.Apart.{HasInterval}
use Rattle.u_set.proofs.ApartLemmas.{held_all, rows_have_spans}
use Rattle.u_set.proofs.apart.are_both_apart.Goals as goal

pub sorted_apart-requires : goal.sorted_apart-requires
sorted_apart-requires c =
    let left = c.args.left.now in
    let right = c.args.right.now in
    let more = c.rows-more.result.now in
    let items = c.in_ok-push_rows-2.ensures ∙ (λ t. c.in_ok-push_rows.ensures t ++ more)
    ∙ (λ t. (map (λ r. r.row.now) (c.new-list.ensures.items t) ++ c.rows-few.ensures.rows t) ++ c.rows-more.ensures.rows t) in
    held_all (λ r. r.row.now) (HasInterval c.args.at) c.push_rows-2.new.list.items (left.rows ++ right.rows) items
    (λ x i. elim ((In-append x left.rows right.rows).0 i) [
      | inl j ↦ rows_have_spans left c.rows-few.ensures.relation left.heading refl c.args.at c.requires.interval x j
      | inr j ↦ rows_have_spans right c.rows-more.ensures.relation left.heading c.requires.heading c.args.at c.requires.interval x j
    ])
