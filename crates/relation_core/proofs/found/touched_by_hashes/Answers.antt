use Rattle.std.proofs.Common.{◌≡◌, ℕ, List, map, ap, ◌∙◌}
use Rattle.std.specs.Ordering.{nat_cmp}
use Rattle.base_core.specs.Sets.{in_order}
use Rattle.value_core.specs.Values.{Row}
use Rattle.relation_core.specs.Parts.{projected}
use Rattle.relation_core.specs.Hashes.{hash_of}
use Rattle.relation_core.proofs.HashLemmas.{sought_all}
use Rattle.relation_core.proofs.found.touched_by_hashes.Goals as goal

pub hashed_rows-requires-clause-sought : goal.hashed_rows-requires-clause-sought
hashed_rows-requires-clause-sought c =
    let few = c.args.few.now.rows in
    let positions = c.args.hashes.now.positions in
    let parts : c.as_slice.result.now ≡ projected positions few = c.as_slice.ensures.value ∙ (c.in_ok-keys.ensures.parts ∙ ap (λ (ps : List ℕ). projected ps few) c.positions-positions.ensures) in
    let hashes : c.as_slice-2.result.now ≡ in_order nat_cmp (map (hash_of positions) few) =
    c.as_slice-2.ensures.value ∙ (c.in_ok-sought.ensures.hashes ∙ ap (λ (ps : List ℕ). in_order nat_cmp (map (hash_of ps) few)) c.positions-positions.ensures) in
    sought_all positions few c.as_slice.result.now c.as_slice-2.result.now parts hashes
