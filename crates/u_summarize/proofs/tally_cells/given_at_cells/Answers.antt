use Rattle.std.proofs.Common.{◌≡◌, ◌↔◌, ◌⊎◌, ◌<◌, ℕ, List, [], ◌∷◌, Some, None, length, arith, sym, ap, ◌∙◌, subst}
use Rattle.std.specs.List.{All}
use Rattle.value_core.specs.Values.{Row, row_cmp}
use Rattle.cell_packing.specs.Covering.{Among}
use Rattle.cell_sweep.specs.PackedRows.{HasRow}
use Rattle.cell_boxes.specs.Rows.{Ascend, PlainCellBox}
use Rattle.cell_boxes.specs.Tallies.{IsTallied, IsTallyFault}
use Rattle.point_core.specs.LeastFault.{IsLeast}
use Rattle.u_summarize.specs.Asked.{InCellGroup}
use Rattle.u_summarize.specs.Groups.{labels_in}
use Rattle.u_summarize.specs.Counts.{counted_means}
use Rattle.u_summarize.proofs.CellTallies.{numbers_low, places_on, tallied_least, tallied_ends, keys_sides}
use Rattle.u_summarize.proofs.tally_cells.given_at_cells.Goals as goal

pub tallied-requires-clause-sides : goal.tallied-requires-clause-sides
tallied-requires-clause-sides g c =
    subst (All (λ (x : PlainCellBox Row). length x.1 ≡ 1)) (sym c.as_slice.ensures.value)
    (keys_sides c.args.by.now c.args.rows.items c.in_ok-keys.ensures.rows.entries c.in_ok-keys.ensures.rows.keyed c.in_ok-keys.keys.items c.in_ok-keys.numbers.items c.in_ok-keys.ensures.rows.paired 1 (subst (λ k. All (λ (x : PlainCellBox Row). length x.1 ≡ k) c.args.rows.items) c.requires.one c.requires.sides))

pub tallied-requires-clause-order : goal.tallied-requires-clause-order
tallied-requires-clause-order g c = subst (Ascend row_cmp) (sym c.as_slice.ensures.value) c.in_ok-keys.ensures.order

pub tallied-requires-clause-takes : goal.tallied-requires-clause-takes
tallied-requires-clause-takes g c =
    let low = numbers_low c.args.by.now c.args.rows.items c.in_ok-keys.ensures.rows.entries c.in_ok-keys.ensures.rows.keyed c.in_ok-keys.keys.items c.in_ok-keys.numbers.items c.in_ok-keys.ensures.rows.paired in
    let count : c.len-count.result ≡ length c.args.rows.items = omega (arith, c.len-count.ensures) in
    (ap length c.as_slice.ensures.value ∙ sym c.in_ok-keys.ensures.rows.paired.count, subst (λ n. g.G.GroupTally.Takes c.args.rule.now n) (sym count) c.requires.takes, subst (λ n. All (λ (m : ℕ). m < n) c.in_ok-keys.numbers.items) (sym count) low)

pub returns-clause-places : goal.returns-clause-places
returns-clause-places g c =
    let G = g.G.GroupTally in
    let rule = c.args.rule.now in
    let by = c.args.by.now in
    let rows = c.args.rows.items in
    let numbers = c.in_ok-keys.numbers.items in
    let count : c.len-count.result ≡ length c.args.rows.items = omega (arith, c.len-count.ensures) in
    subst (λ k. (l : Row) (place : List ℕ) → length place ≡ k → HasRow c.in_ok-out.out.items l place ↔ InCellGroup (G.means rule) by rows l place) (sym c.requires.one)
    (places_on by rows c.in_ok-keys.ensures.rows.entries c.in_ok-keys.ensures.rows.keyed c.in_ok-keys.keys.items numbers c.in_ok-keys.ensures.rows.paired (G.means rule) (G.given rule)
    (λ key a f n p. g.met.G.GroupTally.agrees rule by (labels_in rows) key a f c.requires.fits n p) (λ l p. HasRow c.in_ok-out.out.items l p)
    (subst (λ (w : ℕ × List (PlainCellBox Row)). (l : Row) (j : ℕ) → HasRow c.in_ok-out.out.items l (j ∷ []) ↔ IsTallied (λ k f. counted_means (G.given rule k) w.0 numbers f) w.1 l (j ∷ []))
    (λ t. (count t, c.as_slice.ensures.value t)) c.in_ok-out.ensures.grid_points))

pub returns-clause-ends : goal.returns-clause-ends
returns-clause-ends g c = λ z m.
    let w = c.in_ok-out.ensures.ends z m in
    tallied_ends c.args.by.now c.args.rows.items c.in_ok-keys.ensures.rows.entries c.in_ok-keys.ensures.rows.keyed c.in_ok-keys.keys.items c.in_ok-keys.numbers.items c.in_ok-keys.ensures.rows.paired w.0 z (subst (Among w.0) c.as_slice.ensures.value w.1) w.2

pub returns-clause-least : goal.returns-clause-least
returns-clause-least g c =
    let G = g.G.GroupTally in
    let rule = c.args.rule.now in
    let by = c.args.by.now in
    let rows = c.args.rows.items in
    let numbers = c.in_ok-keys.numbers.items in
    let count : c.len-count.result ≡ length c.args.rows.items = omega (arith, c.len-count.ensures) in
    tallied_least by rows c.in_ok-keys.ensures.rows.entries c.in_ok-keys.ensures.rows.keyed c.in_ok-keys.keys.items c.in_ok-keys.numbers.items c.in_ok-keys.ensures.rows.paired (G.means rule) (G.given rule)
    (λ key a f n p. g.met.G.GroupTally.agrees rule by (labels_in rows) key a f c.requires.fits n p) c.args.sides c.requires.one c.as_slice.result.now c.as_slice.ensures.value c.tallied.new.least
    (subst (λ n. IsLeast (λ e. (None ≡ Some e) ⊎ IsTallyFault (λ key f. counted_means (G.given rule key) n numbers f) c.as_slice.result.now e) c.tallied.new.least) count c.in_ok-out.ensures.least)

pub returns-clause-lengths : goal.returns-clause-lengths
returns-clause-lengths g c = subst (λ k. All (λ (x : PlainCellBox Row). length x.1 ≡ k) c.in_ok-out.out.items) (sym c.requires.one) c.in_ok-out.ensures.lengths
