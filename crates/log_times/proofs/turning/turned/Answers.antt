use Rattle.std.proofs.Common.{◌≡◌, ◌≤◌, ◌++◌, ℤ, pos, ◌-ℤ◌, List, length, ap, sym, subst, ◌∙◌, IsTrue, w64, to_z, of_z}
use Rattle.std.specs.List.{All}
use Rattle.std.proofs.lemmas.Int.{to_z-of_z}
use Rattle.value_core.specs.Relations.{all_fit}
use Rattle.value_core.specs.Values.{Row, Heading, Relation, rows_of}
use Rattle.log_times.specs.Logs.{closed, IsStoredRow}
use Rattle.log_times.specs.Turns.{begun, lost}
use Rattle.log_times.proofs.AnswerLemmas.{turn_long, turn_fit, turn_is, gained_same}
use Rattle.log_times.proofs.GainLemmas.{lost_stored}
use Rattle.log_times.proofs.turning.turned.Goals as goal

pub gained_rows-requires-clause-stored : goal.gained_rows-requires-clause-stored
gained_rows-requires-clause-stored c =
    let n : to_z w64 (of_z w64 c.args.number) ≡ c.args.number = to_z-of_z w64 c.args.number c.ranges.number in
    let slice : c.as_slice.result.now ≡ lost c.args.side c.args.gone.now.rows c.args.log.now.rows =
    c.as_slice.ensures.value ∙ (c.in_ok-lost.ensures ∙ (λ t. lost c.args.side (c.rows-going.ensures.rows t) (c.rows-rows.ensures.rows t))) in
    subst (λ (l : List Row). All (IsStoredRow c.args.side (to_z w64 (of_z w64 c.args.number) -ℤ pos 1)) l) (sym slice)
    (subst (λ (m : ℤ). All (IsStoredRow c.args.side (m -ℤ pos 1)) (lost c.args.side c.args.gone.now.rows c.args.log.now.rows)) (sym n)
    (lost_stored c.args.side (c.args.number -ℤ pos 1) c.args.gone.now.rows c.args.log.now.rows c.requires.stored.rows))

pub gained_rows-requires-clause-long : goal.gained_rows-requires-clause-long
gained_rows-requires-clause-long c =
    subst (λ (l : List Row). All (λ (x : Row). c.args.side ≤ length x) l) (sym c.rows-coming.ensures.rows)
    (turn_long c.args.log.now c.args.come.now c.args.gone.now c.args.side c.args.number c.rows-rows.ensures.relation c.rows-coming.ensures.relation c.requires.heading c.requires.come c.requires.stored c.requires.first c.requires.last)

pub relation-requires : goal.relation-requires
relation-requires c =
    let n : to_z w64 (of_z w64 c.args.number) ≡ c.args.number = to_z-of_z w64 c.args.number c.ranges.number in
    let slice : c.as_slice.result.now ≡ lost c.args.side c.args.gone.now.rows c.args.log.now.rows =
    c.as_slice.ensures.value ∙ (c.in_ok-lost.ensures ∙ (λ t. lost c.args.side (c.rows-going.ensures.rows t) (c.rows-rows.ensures.rows t))) in
    let items : c.in_ok-list.list.items ≡ closed c.args.side (c.args.number -ℤ pos 1) (lost c.args.side c.args.gone.now.rows c.args.log.now.rows) ++ begun c.args.side c.args.number c.args.come.now.rows =
    gained_same c.in_ok-list.list.items c.as_slice.result.now (lost c.args.side c.args.gone.now.rows c.args.log.now.rows) c.rows-coming.result.now c.args.come.now.rows c.args.side (to_z w64 (of_z w64 c.args.number)) c.args.number
    c.in_ok-list.ensures slice c.rows-coming.ensures.rows n in
    subst (λ (h : Heading). IsTrue (all_fit h c.in_ok-list.list.items)) (sym c.heading.ensures.heading)
    (subst (λ (l : List Row). IsTrue (all_fit c.args.log.now.heading l)) (sym items)
    (turn_fit c.args.log.now c.args.come.now c.args.gone.now c.args.side c.args.number c.rows-rows.ensures.relation c.rows-coming.ensures.relation c.requires.heading c.requires.come c.requires.stored c.requires.first c.requires.last))

pub returns : goal.returns
returns c =
    let n : to_z w64 (of_z w64 c.args.number) ≡ c.args.number = to_z-of_z w64 c.args.number c.ranges.number in
    let left : c.in_ok-lost.lost.items ≡ lost c.args.side c.args.gone.now.rows c.args.log.now.rows =
    c.in_ok-lost.ensures ∙ (λ t. lost c.args.side (c.rows-going.ensures.rows t) (c.rows-rows.ensures.rows t)) in
    let slice : c.as_slice.result.now ≡ lost c.args.side c.args.gone.now.rows c.args.log.now.rows = c.as_slice.ensures.value ∙ left in
    let items : c.in_ok-list.list.items ≡ closed c.args.side (c.args.number -ℤ pos 1) (lost c.args.side c.args.gone.now.rows c.args.log.now.rows) ++ begun c.args.side c.args.number c.args.come.now.rows =
    gained_same c.in_ok-list.list.items c.as_slice.result.now (lost c.args.side c.args.gone.now.rows c.args.log.now.rows) c.rows-coming.result.now c.args.come.now.rows c.args.side (to_z w64 (of_z w64 c.args.number)) c.args.number
    c.in_ok-list.ensures slice c.rows-coming.ensures.rows n in
    record {
      come = ap (λ (r : Relation). r.heading) c.in_ok-more.ensures.is ∙ c.heading.ensures.heading;
      gone = c.in_ok-less.ensures.0;
      rows = turn_is c.args.log.now c.args.come.now c.args.gone.now c.args.side c.args.number c.rows-rows.ensures.relation c.rows-coming.ensures.relation c.requires.heading c.requires.come c.requires.stored c.requires.first c.requires.last
          c.requires.exact c.in_ok-more.more.rows c.in_ok-less.less.rows (ap (λ (r : Relation). r.rows) c.in_ok-more.ensures.is ∙ ap (λ (l : List Row). rows_of l) items) (c.in_ok-less.ensures.1 ∙ left);
    }
