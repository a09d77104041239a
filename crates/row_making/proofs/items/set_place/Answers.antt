use Rattle.std.proofs.Common.{length, ◌∙◌}
use Rattle.relation_core.specs.Agreement.{names_of}
use Rattle.tree_core.specs.Trees.{read_set, read_sets}
use Rattle.meaning_core.specs.Rows.{set_names}
use Rattle.row_making.proofs.PlaceLemmas.{place-behind, many-mapped}
use Rattle.row_making.proofs.items.set_place.Goals as goal

pub returns : goal.returns
returns c =
    let sets = c.args.sets.now in
    place-behind (set_names (read_sets sets)) (names_of c.args.from.now) c.args.name.now c.place_behind.result c.place_made.result (length sets)
    c.place_made.ensures (many-mapped read_set sets ∙ many-mapped (λ s. s.0) (read_sets sets)) c.place_behind.ensures
