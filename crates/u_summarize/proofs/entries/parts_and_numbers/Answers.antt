use Rattle.std.proofs.Common.{◌≡◌, ◌<◌, ℕ, List, length, arith, sym, ◌∙◌, subst}
use Rattle.std.specs.List.{All}
use Rattle.value_core.specs.Values.{Row}
use Rattle.cell_boxes.specs.Answers.{PlainKeyedCellBox}
use Rattle.u_summarize.specs.Entries.{AreDealt}
use Rattle.u_summarize.proofs.EntryLemmas.{numbers_within, stands_all}
use Rattle.u_summarize.proofs.entries.parts_and_numbers.Goals as goal

pub numbers_standing-requires : goal.numbers_standing-requires
numbers_standing-requires c =
    let count : c.len-count.result ≡ length c.args.rows.items = omega (arith, c.len-count.ensures) in
    subst (λ (w : ℕ × List (PlainKeyedCellBox Row ℕ)). All (λ (z : PlainKeyedCellBox Row ℕ). z.1 < w.0) w.1) (λ t. (sym count t, sym c.as_slice.ensures.value t))
    (numbers_within c.args.rows.items c.in_ok-parts.labels.items c.in_ok-parts.ensures.labels c.in_ok-names.names.items c.in_ok-names.ensures.moved c.in_ok-names.ensures.order)

pub returns-clause-numbers : goal.returns-clause-numbers
returns-clause-numbers c =
    let rows = c.args.rows.items in
    let names = c.in_ok-names.names.items in
    let numbers = c.in_ok-numbers.numbers.items in
    let count : c.len-count.result ≡ length rows = omega (arith, c.len-count.ensures) in
    let dealt : AreDealt names (length names) numbers =
    subst (λ (w : List (PlainKeyedCellBox Row ℕ)). AreDealt w (length w) numbers) c.as_slice.ensures.value c.in_ok-numbers.ensures.each in
    stands_all rows c.in_ok-parts.labels.items c.in_ok-parts.ensures.labels names c.in_ok-names.ensures.moved c.in_ok-names.ensures.order numbers dealt (c.in_ok-numbers.ensures.count ∙ count)
