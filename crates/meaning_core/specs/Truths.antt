-- Whether a test holds, or its fault.
--     truth_of      where names mean that
--     truth_in      in a state
--     holds_in      whether a database constraint holds
use Rattle.std.specs.Prelude.{ℕ, Bool, true, false, not, ◌&&◌, List, [], ◌∷◌, Option, Some, None, Ok, Err}
use Rattle.base_core.specs.Outcomes.{then_give, both}
use Rattle.base_core.specs.Sets.{is_within}
use Rattle.point_core.specs.Faults.{OrFault}
use Rattle.value_core.specs.RowPacking.{unpacked}
use Rattle.value_core.specs.Values.{Row, row_cmp, same_rows}
use Rattle.tree_core.specs.Relvars.{Entries}
use Rattle.tree_core.specs.Trees.{Test, relate, is_empty, is_not_empty}
use Rattle.tree_core.specs.declared.test.RelateWord.{RelateWord}
use Rattle.tree_core.specs.declared.test.RelateWord.TheVariants.{Equal, NotEqual, Less, LessEqual, Greater, GreaterEqual}
use Rattle.meaning_core.specs.Meanings.{Known, meaning, plainly, known_in}

-- each row of r is in s
abbrev pub within : List Row → List Row → Bool
within = is_within row_cmp

abbrev pub related_rows : RelateWord → List Row → List Row → Bool
related_rows Equal r s = same_rows r s
related_rows NotEqual r s = not (same_rows r s)
related_rows Less r s = within r s && not (same_rows r s)
related_rows LessEqual r s = within r s
related_rows Greater r s = within s r && not (same_rows r s)
related_rows GreaterEqual r s = within s r

abbrev pub no_rows : List Row → Bool
no_rows [] = true
no_rows (x ∷ xs) = false

-- the rows that are compared: unpacked under USING
abbrev pub compared_rows : Option (List ℕ) → List Row → List Row
compared_rows None rows = rows
compared_rows (Some commalist) rows = unpacked commalist rows

-- the truth of a test, both operands left to right, the first fault counting
abbrev pub truth_of : Known → Test → OrFault Bool
truth_of known (relate place word commalist l r) =
    both (meaning known plainly l) (meaning known plainly r) (λ a b. Ok (related_rows word (compared_rows commalist a) (compared_rows commalist b)))
truth_of known (is_empty place t) = then_give (meaning known plainly t) (λ a. Ok (no_rows a))
truth_of known (is_not_empty place t) = then_give (meaning known plainly t) (λ a. Ok (not (no_rows a)))

abbrev pub truth_in : Entries → Test → OrFault Bool
truth_in entries t = truth_of (known_in entries) t

-- TRUE; a fault is not
abbrev pub is_held : OrFault Bool → Bool
is_held (Ok b) = b
is_held (Err e) = false

-- whether a database constraint with this test holds: FALSE and a fault both break it
abbrev pub holds_in : Entries → Test → Bool
holds_in entries t = is_held (truth_in entries t)
