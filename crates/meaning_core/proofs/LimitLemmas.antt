-- Operators that make no more rows than they are given stay within the limit. And the heading of a list of attributes is one.
use Rattle.std.proofs.Common.{◌≡◌, ◌≤◌, ℕ, List, ◌++◌, length, map, refl, sym, ap, ap₂, ◌∙◌, arith, Ok, Err}
use Rattle.std.proofs.lemmas.Bool.Decides.{nat_tests}
use Rattle.std.proofs.lemmas.List.{length-map}
use Rattle.std.proofs.lemmas.List.Sorted.{IsPermutation-sym, IsPermutation-trans}
use Rattle.base_core.specs.Outcomes.{then_give, least_of_all}
use Rattle.base_core.proofs.OutcomeLemmas.{least_of_all-Ok, length-first_of_all}
use Rattle.base_core.proofs.SetOperatorLemmas.{length-in_order}
use Rattle.point_core.specs.Faults.{OrFault}
use Rattle.point_core.specs.declared.fault.Place.{Place}
use Rattle.point_core.specs.contracts.fault.FaultOrd.TheImpl.Laws.{total-law}
use Rattle.value_core.specs.Headings.{IsHeadingOf}
use Rattle.value_core.specs.Values.{Name, Row, Heading, Relation, most_rows, rows_of, row_cmp}
use Rattle.relation_core.proofs.HeadingLemmas.{heading_ascends, heading_in_order, projected_few}
use Rattle.relation_core.specs.Operators.{extended}
use Rattle.point_core.specs.Orders.{fault_order}
use Rattle.relation_core.specs.Answers.{under}
use Rattle.relation_core.specs.Parts.{projected, renamed, positions_in, IsRenamed}
use Rattle.meaning_core.specs.Meanings.{limited, renamed_rows}
use Rattle.relation_core.specs.Agreement.{names_of}
use Rattle.tree_core.specs.Trees.{PlainSets}
use Rattle.meaning_core.specs.Places.{places}
use Rattle.meaning_core.specs.Rows.{set_names, extended_at, extended_row}
use Rattle.meaning_core.specs.Typing.{IsRenaming}

pub limited_few : (place : Place) (rows : List Row) → length rows ≤ most_rows → limited place rows ≡ Ok rows
limited_few place rows h = grind (arith, nat_tests)

pub unlimited : {X : Type 0} (r : OrFault X) (f : X → List Row) (place : Place) → ((x : X) → r ≡ Ok x → length (f x) ≤ most_rows)
    → then_give (then_give r (λ x. Ok (f x))) (limited place) ≡ then_give r (λ x. Ok (f x))
unlimited (Ok x) f place h = limited_few place (f x) (h x refl)
unlimited (Err e) f place h = refl

pub extended_few : (f : Row → OrFault Row) (rows : List Row) (place : Place) → length rows ≤ most_rows
    → then_give (extended f rows) (limited place) ≡ extended f rows
extended_few f rows place h =
    unlimited (least_of_all fault_order (map f rows)) rows_of place
    (λ given e. few given (length-first_of_all (map f rows) given ((least_of_all-Ok fault_order total-law (map f rows) given).0 e)))
  where
    few : (given : List Row) → length given ≡ length (map f rows) → length (rows_of given) ≤ most_rows
    few given e = omega (arith, length-in_order row_cmp given, length-map rows f)

pub one_heading : (list a b : Heading) → IsHeadingOf list a → IsHeadingOf list b → a ≡ b
one_heading list a b p q =
    sym (heading_in_order a b (heading_ascends a p.ordered) (IsPermutation-trans a list b (IsPermutation-sym list a p.same) q.same) q.ordered)

abbrev pub with_rows : Heading → List Row → Relation
with_rows h rows = record { heading = h; rows = rows }

-- what a renaming gives is the meaning of one
pub renamed_answer : (names : List Name) (old new : Relation) (place : Place) (heading : Heading) → length old.rows ≤ most_rows
    → IsRenamed names old new → IsRenaming old.heading heading names
    → under heading (limited place (renamed_rows old.heading heading names old.rows)) ≡ Ok new
renamed_answer names old new place heading few is to =
    let same : heading ≡ new.heading = one_heading (renamed names old.heading) heading new.heading to.headed is.heading in
    let at : Heading → List Row = λ h. projected (positions_in (renamed names old.heading) h) old.rows in
    let all : at heading ≡ new.rows = ap at same ∙ sym is.rows in
    ap (under heading) (limited_few place (at heading) (projected_few (positions_in (renamed names old.heading) heading) old.rows few))
    ∙ ap₂ (λ (h : Heading) (rows : List Row). Ok (with_rows h rows)) same all

-- rows by places mean what rows by names mean
pub extension_meant : (from to : Heading) (sets : PlainSets) (at : List ℕ) (rows : List Row) (place : Place) → at ≡ places (set_names sets ++ names_of from) to
    → length rows ≤ most_rows → under to (then_give (extended (extended_row from to sets) rows) (limited place)) ≡ under to (extended (extended_at at sets) rows)
extension_meant from to sets at rows place is few =
    ap (under to) (extended_few (extended_row from to sets) rows place few ∙ ap (λ (ps : List ℕ). extended (extended_at ps sets) rows) (sym is))
