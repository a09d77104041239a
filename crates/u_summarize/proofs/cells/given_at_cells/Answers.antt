use Rattle.std.proofs.Common.{◌≡◌, ◌≢◌, ◌↔◌, ◌<◌, ℕ, List, [], length, sym, subst}
use Rattle.std.specs.List.{All}
use Rattle.value_core.specs.Values.{Row, row_cmp}
use Rattle.cell_packing.specs.Covering.{Among}
use Rattle.point_core.specs.LeastFault.{IsLeast}
use Rattle.cell_sweep.specs.PackedRows.{HasRow}
use Rattle.cell_sweep.specs.Rows.{AreRows}
use Rattle.cell_sweep.proofs.Turns.{least_iff}
use Rattle.cell_boxes.specs.Groups.{IsGrouped, IsGroupFault}
use Rattle.cell_boxes.specs.Rows.{Ascend, PlainCellBox}
use Rattle.u_summarize.specs.Asked.{asked, first_ones, numbers_at, HasCellFault}
use Rattle.u_summarize.proofs.CellGroups.{cell_places, cell_faults, cell_ends, can_ask}
use Rattle.u_summarize.proofs.NumberedLemmas.{numbered_sides}
use Rattle.u_summarize.proofs.cells.given_at_cells.Goals as goal

pub given_of_keys-requires-clause-sides : goal.given_of_keys-requires-clause-sides
given_of_keys-requires-clause-sides g c =
    subst (All (λ (x : PlainCellBox Row). length x.1 ≡ c.args.sides)) (sym c.as_slice-2.ensures.value)
    (c.in_ok-keys.ensures.sides c.args.sides (numbered_sides c.args.by.now c.args.rows.now c.args.sides c.requires.sides c.in_ok-entries.entries.items c.in_ok-entries.ensures))

pub given_of_keys-requires-clause-order : goal.given_of_keys-requires-clause-order
given_of_keys-requires-clause-order g c = subst (Ascend row_cmp) (sym c.as_slice-2.ensures.value) c.in_ok-keys.ensures.order

pub given_of_keys-requires-clause-can : goal.given_of_keys-requires-clause-can
given_of_keys-requires-clause-can g c =
    let rows = c.args.rows.now in
    let ranks = c.in_ok-ranks.ranks.items in
    let C : List ℕ → Type 0 = g.G.GroupRule.CanApply c.args.rule.now in
    let own : (a : List ℕ) → AreRows 0 (length c.in_ok-keys.keys.items) a → (a ≢ [] → C (first_ones ranks (numbers_at c.in_ok-keys.numbers.items a))) × All (λ (i : ℕ). i < length c.in_ok-keys.numbers.items) a × All (λ (i : ℕ). i < length ranks) c.in_ok-keys.numbers.items =
    can_ask c.args.by.now rows c.in_ok-entries.entries.items c.in_ok-entries.ensures c.in_ok-keys.keys.items c.in_ok-keys.numbers.items c.in_ok-keys.ensures.paired ranks c.in_ok-ranks.ensures C c.requires.can in
    let er = sym c.as_slice.ensures.value in
    let ek = sym c.as_slice-2.ensures.value in
    let en = sym c.as_slice-3.ensures.value in
    subst (λ T. T) (λ t. (a : List ℕ) → AreRows 0 (length (ek t)) a → (a ≢ [] → C (first_ones (er t) (numbers_at (en t) a))) × All (λ (i : ℕ). i < length (en t)) a × All (λ (i : ℕ). i < length (er t)) (en t)) own

pub returns-clause-places : goal.returns-clause-places
returns-clause-places g c = λ l place e.
    let rows = c.args.rows.now in
    let f = g.G.GroupRule.means c.args.rule.now in
    let ranks = c.in_ok-ranks.ranks.items in
    let er = c.as_slice.ensures.value in
    let ek = c.as_slice-2.ensures.value in
    let en = c.as_slice-3.ensures.value in
    let a : HasRow c.in_ok-given.given.0.items l place ↔ IsGrouped (λ a b. asked f ranks c.in_ok-keys.numbers.items a) c.in_ok-keys.keys.items l place =
    subst (λ T. T) (λ t. HasRow c.in_ok-given.given.0.items l place ↔ IsGrouped (λ a b. asked f (er t) (en t) a) (ek t) l place) (c.in_ok-given.ensures.places l place e) in
    let b = cell_places c.args.by.now rows c.in_ok-entries.entries.items c.in_ok-entries.ensures c.in_ok-keys.keys.items c.in_ok-keys.numbers.items c.in_ok-keys.ensures.paired c.in_ok-ranks.ranks.items c.in_ok-ranks.ensures f l place in
    (λ h. b.0 (a.0 h), λ h. a.1 (b.1 h))

pub returns-clause-ends : goal.returns-clause-ends
returns-clause-ends g c = λ z m.
    let w = c.in_ok-given.ensures.ends z m in
    cell_ends c.args.by.now c.args.rows.now c.in_ok-entries.entries.items c.in_ok-entries.ensures c.in_ok-keys.keys.items c.in_ok-keys.numbers.items c.in_ok-keys.ensures.paired c.in_ok-ranks.ranks.items c.in_ok-ranks.ensures w.0 z (subst (Among w.0) c.as_slice-2.ensures.value w.1) w.2

pub returns-clause-least : goal.returns-clause-least
returns-clause-least g c =
    let rows = c.args.rows.now in
    let f = g.G.GroupRule.means c.args.rule.now in
    let k : ℕ = c.args.sides in
    let ranks = c.in_ok-ranks.ranks.items in
    let er = c.as_slice.ensures.value in
    let ek = c.as_slice-2.ensures.value in
    let en = c.as_slice-3.ensures.value in
    let own : IsLeast (IsGroupFault k (λ a b. asked f ranks c.in_ok-keys.numbers.items a) c.in_ok-keys.keys.items) c.in_ok-given.given.1 =
    subst (λ T. T) (λ t. IsLeast (IsGroupFault k (λ a b. asked f (er t) (en t) a) (ek t)) c.in_ok-given.given.1) c.in_ok-given.ensures.least in
    least_iff (IsGroupFault k (λ a b. asked f ranks c.in_ok-keys.numbers.items a) c.in_ok-keys.keys.items) (HasCellFault k f c.args.by.now rows) c.in_ok-given.given.1
    (cell_faults c.args.by.now rows c.in_ok-entries.entries.items c.in_ok-entries.ensures c.in_ok-keys.keys.items c.in_ok-keys.numbers.items c.in_ok-keys.ensures.paired c.in_ok-ranks.ranks.items c.in_ok-ranks.ensures k f) own
