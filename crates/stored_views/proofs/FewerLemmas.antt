-- Rows of stored views where entries are dropped.
--     rows-without      there are no more
--     few-without      none of those that stay has too many
use Rattle.std.proofs.Common.{◌≡◌, ◌+◌, ◌≤◌, Bool, true, false, not, cond, List, [], ◌∷◌, refl, sym, ◌∙◌, arith}
use Rattle.std.specs.Prelude.{◌&&◌}
use Rattle.std.proofs.lemmas.Bool.{and_parts}
use Rattle.value_core.specs.Values.{Name}
use Rattle.tree_core.specs.Relvars.{Entries, State}
use Rattle.tree_core.specs.Uses.{is_one_of}
use Rattle.meaning_core.specs.Declarations.{without_all}
use Rattle.meaning_core.specs.WellMade.{IsWellMade}
use Rattle.meaning_core.proofs.ElsewhereLemmas.{left}
use Rattle.stored_views.specs.Stored.{stored_rows, stored_tree, is_meant_if, rows_among, are_meant_among, rows_of_stored, are_stored_few}
use Rattle.stored_views.proofs.AlikeLemmas.{meant_alike_among, rows_alike}
use Rattle.stored_views.proofs.WithoutLemmas.{alike-left}

module _ (names : List Name) (all : Entries) where
  rows-left : (es : Entries) → rows_among all (left (is_one_of names) es) ≤ rows_among all es
  rows-left [] = omega arith
  rows-left (e ∷ es) = by (is_one_of names e.0) (rows-left es)
    where
      by : (b : Bool) → rows_among all (left (is_one_of names) es) ≤ rows_among all es
          → rows_among all (cond (not b) (e ∷ left (is_one_of names) es) (left (is_one_of names) es)) ≤ stored_rows all e.1 + rows_among all es
      by true more = omega (arith, more)
      by false more = omega (arith, more)

  meant-left : (es : Entries) → are_meant_among all es ≡ true → are_meant_among all (left (is_one_of names) es) ≡ true
  meant-left [] h = refl
  meant-left (e ∷ es) h =
      let parts = and_parts (is_meant_if all (stored_tree e.1)) (are_meant_among all es) h in
      by (is_one_of names e.0) parts.0 (meant-left es parts.1)
    where
      by : (b : Bool) → is_meant_if all (stored_tree e.1) ≡ true → are_meant_among all (left (is_one_of names) es) ≡ true
          → are_meant_among all (cond (not b) (e ∷ left (is_one_of names) es) (left (is_one_of names) es)) ≡ true
      by true one more = more
      by false one more = λ i. one i && more i

pub rows-without : (names : List Name) (s : State) → IsWellMade (without_all names s) → rows_of_stored (without_all names s).relvars ≤ rows_of_stored s.relvars
rows-without names s made =
    let rest = (without_all names s).relvars in
    let same = rows_alike s.relvars rest rest (alike-left names s made) in
    let fewer = rows-left names s.relvars s.relvars in
    omega (arith, same, fewer)

pub few-without : (names : List Name) (s : State) → IsWellMade (without_all names s) → are_stored_few s.relvars ≡ true → are_stored_few (without_all names s).relvars ≡ true
few-without names s made few =
    let rest = (without_all names s).relvars in
    sym (meant_alike_among s.relvars rest rest (alike-left names s made)) ∙ meant-left names s.relvars s.relvars few
