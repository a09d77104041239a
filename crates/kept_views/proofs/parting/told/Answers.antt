use Rattle.std.proofs.Common.{◌<◌, ℕ, List, ◌++◌, option_map, length, sym, ap, ap₂, ◌∙◌, subst}
use Rattle.std.specs.List.{All}
use Rattle.value_core.specs.Values.{Row, rows_of}
use Rattle.value_core.proofs.RelationLemmas.{rows_from_sort}
use Rattle.kept_views.specs.Parting.{keys_told}
use Rattle.kept_views.specs.Touched.{left_of}
use Rattle.kept_views.proofs.parting.told.Goals as goal

pub keys_told-requires-clause-within : goal.keys_told-requires-clause-within
keys_told-requires-clause-within c =
    subst (λ (ps : List ℕ). All (λ (i : ℕ). i < length (left_of c.args.before).heading) ps) (sym c.as_slice.ensures.value) c.in_ok-places.ensures.within

pub returns-clause-keys : goal.returns-clause-keys
returns-clause-keys c =
    let rows = rows_from_sort c.append.new.self.items c.sort.new.self.items c.dedup.new.self.items c.sort.ensures.permutation c.in_ok-sort.ensures.sorted c.dedup.ensures.filtered in
    let first = c.in_ok-keys.ensures ∙ ap (λ (ps : List ℕ). keys_told ps (option_map (λ m. m.now) c.args.differences.left)) (c.as_slice.ensures.value ∙ c.in_ok-places.ensures.places) in
    rows.0 ∙ ap (λ (r : List Row). rows_of r) (c.in_ok-append.ensures.items ∙ ap₂ (λ (xs ys : List Row). xs ++ ys) first c.in_ok-more.ensures)

pub returns-clause-sorted : goal.returns-clause-sorted
returns-clause-sorted c =
    let rows = rows_from_sort c.append.new.self.items c.sort.new.self.items c.dedup.new.self.items c.sort.ensures.permutation c.in_ok-sort.ensures.sorted c.dedup.ensures.filtered in
    rows.1
