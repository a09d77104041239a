use Rattle.std.proofs.Common.{◌≡◌, ◌<◌, ◌≤◌, ◌++◌, [], ℕ, List, length, get_or, map, arith, sym, ap, ◌∙◌, subst, IsTrue}
use Rattle.std.specs.List.{All, filter}
use Rattle.std.proofs.lemmas.List.{length-map, length-append}
use Rattle.value_core.specs.Values.{Row, most_rows}
use Rattle.value_core.specs.Relations.{all_fit}
use Rattle.relation_core.specs.Agreement.{part_of}
use Rattle.relation_core.specs.Groups.{has_part, group}
use Rattle.relation_core.specs.Joins.{paired}
use Rattle.relation_core.specs.Keys.{has_key}
use Rattle.relation_core.proofs.GroupLemmas.{found_numbers, where_within}
use Rattle.relation_core.proofs.PairLemmas.{paired_more, too_many, fit_length}
use Rattle.relation_core.proofs.pairs.pairs.Goals as goal

-- the row that is looked at has a value for each attribute
pub part-requires : goal.part-requires
part-requires c k d within =
    let lt : c.loop-x.x-index < length c.rows-given.result.now = omega arith in
    let fit : IsTrue (all_fit c.args.left.now.heading c.rows-given.result.now) = subst (λ (r : List Row). IsTrue (all_fit c.args.left.now.heading r)) (sym c.rows-given.ensures.rows) c.rows-given.ensures.relation.fitting in
    let long = fit_length c.args.left.now.heading c.rows-given.result.now c.loop-x.x-index c.x-item.result fit lt in
    let same = ap (λ (r : Row). length r) c.x-item.is in
    let below = c.requires.here k d within in
    omega (arith, long, same, below)

-- the numbers that are found are those of the rows with the key
are_numbers : (there : List ℕ) (given others : List Row) (index slice : List (Row × ℕ)) (key : Row) (numbers : List ℕ) → given ≡ others → slice ≡ index
    → numbers ≡ map (λ (e : Row × ℕ). e.1) (filter (has_key key) slice) → map (λ (e : Row × ℕ). e.1) (filter (has_key key) index) ≡ group there given key → numbers ≡ group there others key
are_numbers there given others index slice key numbers same is e f =
    e ∙ (ap (λ (zs : List (Row × ℕ)). map (λ (e : Row × ℕ). e.1) (filter (has_key key) zs)) is ∙ (f ∙ ap (λ (rs : List Row). group there rs key) same))

pub returns-then-len-clause-pairs : goal.returns-then-len-clause-pairs
returns-then-len-clause-pairs c =
    let lt : c.loop-x.x-index < length c.rows-given.result.now = omega arith in
    let numbers = are_numbers c.args.there.now c.args.right.now.rows c.rows-others.result.now c.in_ok-index.index.items c.as_slice.result.now c.in_ok-key.key c.in_ok-numbers.numbers.items
    (sym c.rows-others.ensures.rows) c.as_slice.ensures.value c.in_ok-numbers.ensures (found_numbers c.args.there.now c.args.right.now.rows c.in_ok-index.index.items c.in_ok-key.key c.in_ok-index.ensures.index) in
    let many = too_many c.args.here.now c.args.there.now c.args.places.now c.rows-given.result.now c.rows-others.result.now c.loop-x.x-index c.x-item.result c.in_ok-key.key c.in_ok-numbers.numbers.items
    c.loop-x.rows.items most_rows lt c.x-item.is c.in_ok-key.ensures numbers c.loop-x.invariant.pairs c.loop-x.invariant.few (omega arith) in
    subst (λ (r : List Row). most_rows < length (paired c.args.here.now c.args.there.now c.args.places.now r c.args.right.now.rows)) c.rows-given.ensures.rows
    (subst (λ (s : List Row). most_rows < length (paired c.args.here.now c.args.there.now c.args.places.now c.rows-given.result.now s)) c.rows-others.ensures.rows many)

pub add_pairs-requires-clause-numbers : goal.add_pairs-requires-clause-numbers
add_pairs-requires-clause-numbers c =
    let numbers = are_numbers c.args.there.now c.args.right.now.rows c.rows-others.result.now c.in_ok-index.index.items c.as_slice.result.now c.in_ok-key.key c.in_ok-numbers.numbers.items
    (sym c.rows-others.ensures.rows) c.as_slice.ensures.value c.in_ok-numbers.ensures (found_numbers c.args.there.now c.args.right.now.rows c.in_ok-index.index.items c.in_ok-key.key c.in_ok-index.ensures.index) in
    subst (λ (ns : List ℕ). All (λ (i : ℕ). i < length c.rows-others.result.now) ns) (sym (c.as_slice-in-loop-x.ensures.value ∙ numbers)) (where_within (has_part c.args.there.now c.in_ok-key.key) c.rows-others.result.now)

pub add_pairs-requires-clause-places : goal.add_pairs-requires-clause-places
add_pairs-requires-clause-places c k d l m e within =
    let lt : c.loop-x.x-index < length c.rows-given.result.now = omega arith in
    let fit : IsTrue (all_fit c.args.left.now.heading c.rows-given.result.now) = subst (λ (r : List Row). IsTrue (all_fit c.args.left.now.heading r)) (sym c.rows-given.ensures.rows) c.rows-given.ensures.relation.fitting in
    let long = fit_length c.args.left.now.heading c.rows-given.result.now c.loop-x.x-index c.x-item.result fit lt in
    let same = ap (λ (r : Row). length r) c.x-item.is in
    let others : IsTrue (all_fit c.args.right.now.heading c.rows-others.result.now) = subst (λ (r : List Row). IsTrue (all_fit c.args.right.now.heading r)) (sym c.rows-others.ensures.rows) c.rows-others.ensures.relation.fitting in
    let wide = fit_length c.args.right.now.heading c.rows-others.result.now k d others l in
    let below = c.requires.places m e within in
    omega (arith, long, same, wide, below)

pub loop-x-preserved : goal.loop-x-preserved
loop-x-preserved c =
    let lt : c.loop-x.x-index < length c.rows-given.result.now = omega arith in
    let numbers = are_numbers c.args.there.now c.args.right.now.rows c.rows-others.result.now c.in_ok-index.index.items c.as_slice.result.now c.in_ok-key.key c.in_ok-numbers.numbers.items
    (sym c.rows-others.ensures.rows) c.as_slice.ensures.value c.in_ok-numbers.ensures (found_numbers c.args.there.now c.args.right.now.rows c.in_ok-index.index.items c.in_ok-key.key c.in_ok-index.ensures.index) in
    let size = ap (λ (z : List Row). length z) c.in_ok-add_pairs.ensures in
    let both = length-append c.loop-x.rows.items (map (λ i. part_of c.args.places.now (c.x-item.result ++ get_or c.rows-others.result.now i [])) c.as_slice-in-loop-x.result.now) in
    let count = length-map c.as_slice-in-loop-x.result.now (λ i. part_of c.args.places.now (c.x-item.result ++ get_or c.rows-others.result.now i [])) in
    let same = ap (λ (z : List ℕ). length z) c.as_slice-in-loop-x.ensures.value in
    let few : length c.add_pairs.new.rows.items ≤ most_rows = omega (arith, size, both, count, same) in
    record {
      pairs = paired_more c.args.here.now c.args.there.now c.args.places.now c.rows-given.result.now c.rows-others.result.now c.loop-x.x-index c.x-item.result c.in_ok-key.key c.as_slice-in-loop-x.result.now
          c.loop-x.rows.items _ lt c.x-item.is c.in_ok-key.ensures (c.as_slice-in-loop-x.ensures.value ∙ numbers) c.loop-x.invariant.pairs c.in_ok-add_pairs.ensures;
      few = few;
    }
