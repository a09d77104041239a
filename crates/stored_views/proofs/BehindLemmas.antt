-- More entries behind those of a well made state.
--     stored-behind      stored views have their rows, where no stored view comes behind
--     stored-one_more      and where one does with its rows
--     rows-behind, few-behind, rows-one_more, few-one_more      how many they are, and whether they are few
use Rattle.std.proofs.Common.{◌≡◌, ℕ, zero, suc, ◌+◌, ◌-◌, ◌≤◌, Bool, true, false, not, List, [], ◌∷◌, ◌++◌, length, replicate, sym, ap, ◌∙◌, arith, Option, Some, None}
use Rattle.std.specs.Prelude.{◌&&◌}
use Rattle.value_core.specs.Values.{Name, Relation}
use Rattle.tree_core.specs.Relvars.{view, stored, Entries, State}
use Rattle.tree_core.specs.Trees.{Tree}
use Rattle.meaning_core.specs.Meanings.{meaning_in}
use Rattle.meaning_core.specs.StoredRows.{IsValueOf, HaveTheirRows, AreStored}
use Rattle.meaning_core.specs.WellMade.{is_base_in, sizes_of, IsWellMade}
use Rattle.relvar_logs.proofs.NextLemmas.{base_before}
use Rattle.stored_views.specs.Operands.{value_if, IsStoredFor}
use Rattle.stored_views.specs.Stored.{has_stored, count_meant, is_meant, is_meant_if, stored_tree, rows_among, rows_of_stored, are_meant_among, are_stored_few}
use Rattle.stored_views.proofs.AlikeLemmas.{HaveSameValues, AreAlike, value_of_base, meant_alike, alike_from, stored_alike, rows_alike, meant_alike_among}
use Rattle.stored_views.proofs.OperandLemmas.{base_from}
use Rattle.stored_views.proofs.UnstoredLemmas.{unstored_among, no_rows_among, no_faults_among}

-- base relvars have the same values with more entries behind
same-behind : (es more : Entries) → HaveSameValues es es (es ++ more)
same-behind es more name is = value_of_base _ _ is (ap value_if (base_before es more name is))

alike-behind : (s : State) (more : Entries) → IsWellMade s → AreAlike s.relvars (s.relvars ++ more) s.relvars
alike-behind s more made = alike_from (sizes_of s.ordinals) s.relvars (s.relvars ++ more) s.relvars (same-behind s.relvars more) made.relvars

-- the same of the expression of a stored view
meant-behind : (s : State) (more : Entries) (t : Tree) → IsStoredFor s t → meaning_in s.relvars t ≡ meaning_in (s.relvars ++ more) t
meant-behind s more t is =
    meant_alike s.relvars (s.relvars ++ more) (λ name. not (is_base_in s.relvars name)) (λ name e. same-behind s.relvars more name (base_from _ e)) t is.1.1

-- ---- no stored view behind

there-behind : (all es more : Entries) (rows : List (Option Relation)) → has_stored more ≡ false → HaveTheirRows all es rows → HaveTheirRows all (es ++ more) rows
there-behind all [] more rows none h = unstored_among all more rows none
there-behind all (e ∷ es) more [] none h = (h.0, there-behind all es more [] none h.1)
there-behind all (e ∷ es) more (o ∷ rows) none h = (h.0, there-behind all es more rows none h.1)

pub stored-behind : (s : State) (more : Entries) (rows : List (Option Relation)) → IsWellMade s → AreStored s.relvars rows → has_stored more ≡ false → AreStored (s.relvars ++ more) rows
stored-behind s more rows made h none =
    there-behind (s.relvars ++ more) s.relvars more rows none (stored_alike s.relvars (s.relvars ++ more) s.relvars rows (alike-behind s more made) h)

rows-append : (all es more : Entries) → rows_among all (es ++ more) ≡ rows_among all es + rows_among all more
rows-append all [] more = omega arith
rows-append all (e ∷ es) more = let h = rows-append all es more in omega (arith, h)

few-append : (all es more : Entries) → are_meant_among all more ≡ true → are_meant_among all (es ++ more) ≡ are_meant_among all es
few-append all [] more h = h
few-append all (e ∷ es) more h = ap (λ (b : Bool). is_meant_if all (stored_tree e.1) && b) (few-append all es more h)

pub rows-behind : (s : State) (more : Entries) → IsWellMade s → has_stored more ≡ false → rows_of_stored (s.relvars ++ more) ≡ rows_of_stored s.relvars
rows-behind s more made none =
    let all = s.relvars ++ more in
    let a = rows-append all s.relvars more in
    let b = no_rows_among all more none in
    let c = rows_alike s.relvars all s.relvars (alike-behind s more made) in
    omega (arith, a, b, c)

pub few-behind : (s : State) (more : Entries) → IsWellMade s → has_stored more ≡ false → are_stored_few (s.relvars ++ more) ≡ are_stored_few s.relvars
few-behind s more made none =
    let all = s.relvars ++ more in
    few-append all s.relvars more (no_faults_among all more none) ∙ sym (meant_alike_among s.relvars all s.relvars (alike-behind s more made))

-- ---- one stored view behind

there-one_more : (all es : Entries) (rows : List (Option Relation)) (pad : ℕ) (name : Name) (t : Tree) (value : Relation) → length rows + pad ≡ length es → HaveTheirRows all es rows → IsValueOf all t value
    → HaveTheirRows all (es ++ (name, view t stored) ∷ []) (rows ++ (replicate pad None ++ Some value ∷ []))
there-one_more all [] [] zero name t value e h is = (is, tt)
there-one_more all [] [] (suc pad) name t value e h is = absurd (omega (arith, e))
there-one_more all [] (o ∷ rows) pad name t value e h is = absurd (omega (arith, e))
there-one_more all (r ∷ es) [] zero name t value e h is = absurd (omega (arith, e))
there-one_more all (r ∷ es) [] (suc pad) name t value e h is = (h.0, there-one_more all es [] pad name t value (omega (arith, e)) h.1 is)
there-one_more all (r ∷ es) (o ∷ rows) pad name t value e h is = (h.0, there-one_more all es rows pad name t value (omega (arith, e)) h.1 is)

value-behind : (s : State) (more : Entries) (t : Tree) (value : Relation) → IsStoredFor s t → IsValueOf s.relvars t value → IsValueOf (s.relvars ++ more) t value
value-behind s more t value is h = record { means = sym (meant-behind s more t is) ∙ h.means; headed = h.headed }

module _ (s : State) (name : Name) (t : Tree) (value : Relation) (made : IsWellMade s) (is : IsStoredFor s t) (h : IsValueOf s.relvars t value) where
  abbrev more : Entries
  more = (name, view t stored) ∷ []

  abbrev all : Entries
  all = s.relvars ++ more

  pub stored-one_more : (rows : List (Option Relation)) → AreStored s.relvars rows → length rows ≤ length s.relvars
      → AreStored (s.relvars ++ (name, view t stored) ∷ []) (rows ++ (replicate (length s.relvars - length rows) None ++ Some value ∷ []))
  stored-one_more rows have few =
      there-one_more all s.relvars rows (length s.relvars - length rows) name t value (omega (arith, few))
      (stored_alike s.relvars all s.relvars rows (alike-behind s more made) have) (value-behind s more t value is h)

  pub rows-one_more : rows_of_stored (s.relvars ++ (name, view t stored) ∷ []) ≡ rows_of_stored s.relvars + length value.rows
  rows-one_more =
      let a = rows-append all s.relvars more in
      let b : rows_among all more ≡ length value.rows + 0 = ap (λ m. count_meant m + 0) (value-behind s more t value is h).means in
      let c = rows_alike s.relvars all s.relvars (alike-behind s more made) in
      omega (arith, a, b, c)

  pub few-one_more : are_stored_few (s.relvars ++ (name, view t stored) ∷ []) ≡ are_stored_few s.relvars
  few-one_more =
      few-append all s.relvars more (ap (λ m. is_meant m && true) (value-behind s more t value is h).means) ∙ sym (meant_alike_among s.relvars all s.relvars (alike-behind s more made))
