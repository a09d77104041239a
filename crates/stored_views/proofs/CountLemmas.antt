-- Rows of stored views, counted entry by entry, as they are with those that stand ready.
--     too_many, next_room, room_left      the room that is left behind an entry
--     rows_there      the rows of the entry at a place
--     view_there, view_put, none_put      those of a stored view
--     view_counted, none_counted      how many they are
use Rattle.std.proofs.Common.{◌≡◌, ℕ, zero, suc, ◌+◌, ◌-◌, ◌<◌, ◌≤◌, Bool, true, false, cond, nat_le, List, [], ◌∷◌, drop, get_or, length, refl, sym, ap, ◌∙◌, subst, arith, Option, Some, None}
use Rattle.std.proofs.lemmas.Bool.Decides.{nat_tests}
use Rattle.value_core.specs.Values.{Relation}
use Rattle.tree_core.specs.Relvars.{PlainRelvar, base, view, log, derived, of_history, stored, Entries}
use Rattle.tree_core.specs.Trees.{Tree}
use Rattle.meaning_core.specs.StoredRows.{IsValueThere, HasItsRows, HaveTheirRows}
use Rattle.relvar_logs.specs.Changes.{IsSoAt}
use Rattle.relvar_logs.specs.Room.{left_of}
use Rattle.stored_views.specs.NextRows.{newer, renewed}
use Rattle.stored_views.specs.Stored.{stored_tree, count_meant, count_if, rows_among, IsCounted}

-- ---- what is left

left-less : (room count n : ℕ) (b d : Bool) → count ≤ room → nat_le (count + n) room ≡ b → nat_le n (room - count) ≡ d → cond b (Some (room - (count + n))) None ≡ cond d (Some ((room - count) - n)) None
left-less room count n true true l e f = ap Some (omega (arith, l))
left-less room count n false false l e f = refl
left-less room count n true false l e f =
    let m : (count + n) ≤ room = grind (arith, nat_tests) in
    let k : (room - count) < n = grind (arith, nat_tests) in
    absurd (omega (arith, l, m, k))
left-less room count n false true l e f =
    let m : room < (count + n) = grind (arith, nat_tests) in
    let k : n ≤ (room - count) = grind (arith, nat_tests) in
    absurd (omega (arith, l, m, k))

left-none : (room count n : ℕ) (b : Bool) → room < count → nat_le (count + n) room ≡ b → cond b (Some (room - (count + n))) None ≡ None
left-none room count n false l e = refl
left-none room count n true l e = let m : (count + n) ≤ room = grind (arith, nat_tests) in absurd (omega (arith, l, m))

left-all : (room : ℕ) (b : Bool) → nat_le 0 room ≡ b → cond b (Some (room - 0)) None ≡ Some room
left-all room true e = ap Some (omega arith)
left-all room false e = let m : room < 0 = grind (arith, nat_tests) in absurd (omega (arith, m))

-- ---- the rows of the entries from a place on

module _ (all : Entries) where
  rows-there : (es : Entries) (i count : ℕ) → IsSoAt i (IsCounted all count) es → rows_among all (drop i es) ≡ count + rows_among all (drop (suc i) es)
  rows-there [] i count h = absurd h
  rows-there (e ∷ es) zero count h = ap (λ n. n + rows_among all es) (sym h.is)
  rows-there (e ∷ es) (suc i) count h = rows-there es i count h

  none-there : (es : Entries) (i : ℕ) → length es ≤ i → rows_among all (drop i es) ≡ 0
  none-there [] zero l = refl
  none-there [] (suc i) l = refl
  none-there (e ∷ es) zero l = absurd (omega (arith, l))
  none-there (e ∷ es) (suc i) l = none-there es i (omega (arith, l))

  module _ (es : Entries) (most : ℕ) where
    pub too_many : (i room count : ℕ) → left_of most (rows_among all es) ≡ left_of room (rows_among all (drop i es)) → IsSoAt i (IsCounted all count) es → room < count
        → None ≡ left_of most (rows_among all es)
    too_many i room count e h l =
        let n = rows_among all (drop (suc i) es) in
        sym (e ∙ (ap (left_of room) (rows-there es i count h) ∙ left-none room count n (nat_le (count + n) room) l refl))

    pub next_room : (i room count : ℕ) → left_of most (rows_among all es) ≡ left_of room (rows_among all (drop i es)) → IsSoAt i (IsCounted all count) es → count ≤ room
        → left_of most (rows_among all es) ≡ left_of (room - count) (rows_among all (drop (suc i) es))
    next_room i room count e h l =
        let n = rows_among all (drop (suc i) es) in
        e ∙ (ap (left_of room) (rows-there es i count h) ∙ left-less room count n (nat_le (count + n) room) (nat_le n (room - count)) l refl refl)

    pub room_left : (i room : ℕ) → left_of most (rows_among all es) ≡ left_of room (rows_among all (drop i es)) → length es ≤ i → Some room ≡ left_of most (rows_among all es)
    room_left i room e l = sym (e ∙ (ap (left_of room) (none-there es i l) ∙ left-all room (nat_le 0 room) refl))

-- ---- the rows of one entry

-- what needs no rows may have any
any_instead : (all : Entries) (r : PlainRelvar) (o : Option Relation) → HasItsRows all r None → HasItsRows all r o
any_instead all (base value constraints) o h = tt
any_instead all (view t derived) o h = tt
any_instead all (view t (of_history names)) o h = tt
any_instead all (view t stored) o h = absurd h
any_instead all (log of side last value) o h = tt

pub bare_there : (all es : Entries) (i : ℕ) (o : Option Relation) → HaveTheirRows all es [] → i < length es → IsSoAt i (λ r. HasItsRows all r o) es
bare_there all [] i o h l = absurd (omega (arith, l))
bare_there all (e ∷ es) zero o h l = any_instead all e.1 o h.0
bare_there all (e ∷ es) (suc i) o h l = bare_there all es i o h.1 (omega (arith, l))

pub rows_there : (all es : Entries) (next rows : List (Option Relation)) (i : ℕ) → HaveTheirRows all es (renewed next rows) → i < length es
    → IsSoAt i (λ r. HasItsRows all r (newer (get_or next i None) (get_or rows i None))) es
rows_there all [] next rows i h l = absurd (omega (arith, l))
rows_there all (e ∷ es) [] [] i h l = bare_there all (e ∷ es) i None h l
rows_there all (e ∷ es) [] (o ∷ rows) zero h l = h.0
rows_there all (e ∷ es) [] (o ∷ rows) (suc i) h l = rows_there all es [] rows i h.1 (omega (arith, l))
rows_there all (e ∷ es) (n ∷ next) [] i h l = bare_there all (e ∷ es) i (newer (get_or (n ∷ next) i None) None) h l
rows_there all (e ∷ es) (n ∷ next) (o ∷ rows) zero h l = h.0
rows_there all (e ∷ es) (n ∷ next) (o ∷ rows) (suc i) h l = rows_there all es next rows i h.1 (omega (arith, l))

-- of a stored view they are those that its expression means
pub view_there : (all : Entries) (r : PlainRelvar) (t : Tree) (o : Option Relation) → Some t ≡ stored_tree r → HasItsRows all r o → IsValueThere all t o
view_there all (base value constraints) t o e h = absurd (cc)
view_there all (view u derived) t o e h = absurd (cc)
view_there all (view u (of_history names)) t o e h = absurd (cc)
view_there all (view u stored) t o e h = let same : u ≡ t = cc in subst (λ (k : Tree). IsValueThere all k o) same h
view_there all (log of side last value) t o e h = absurd (cc)

pub view_put : (all : Entries) (r : PlainRelvar) (t : Tree) (o : Option Relation) → Some t ≡ stored_tree r → IsValueThere all t o → HasItsRows all r o
view_put all (base value constraints) t o e h = tt
view_put all (view u derived) t o e h = tt
view_put all (view u (of_history names)) t o e h = tt
view_put all (view u stored) t o e h = let same : t ≡ u = cc in subst (λ (k : Tree). IsValueThere all k o) same h
view_put all (log of side last value) t o e h = tt

pub none_put : (all : Entries) (r : PlainRelvar) (o : Option Relation) → None ≡ stored_tree r → HasItsRows all r o
none_put all (base value constraints) o e = tt
none_put all (view t derived) o e = tt
none_put all (view t (of_history names)) o e = tt
none_put all (view t stored) o e = absurd (cc)
none_put all (log of side last value) o e = tt

-- how many they are
pub view_counted : (all : Entries) (r : PlainRelvar) (t : Tree) (value : Relation) (count : ℕ) → Some t ≡ stored_tree r → IsValueThere all t (Some value) → count ≡ length value.rows → IsCounted all count r
view_counted all r t value count e is l = record { is = l ∙ (sym (ap count_meant is.means) ∙ ap (count_if all) e) }

pub none_counted : (all : Entries) (r : PlainRelvar) → None ≡ stored_tree r → IsCounted all 0 r
none_counted all r e = record { is = ap (count_if all) e }
