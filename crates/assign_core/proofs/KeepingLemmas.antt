-- Stored views that are declared.
--     room_fits, room_not      whether the rows of one more have room
--     stored_done, stored_full, stored_fault      what is meant of its declaration
--     one_more_kept, one_more_stored      the state with it
use Rattle.std.proofs.Common.{◌≡◌, ℕ, ◌+◌, ◌-◌, ◌≤◌, pos, ◌+ℤ◌, Bool, true, false, cond, nat_le, List, [], ◌∷◌, ◌++◌, map, length, replicate, refl, sym, ap, ◌∙◌, subst, arith, Option, Some, None, Result, Ok, Err}
use Rattle.std.specs.Prelude.{◌&&◌}
use Rattle.std.specs.List.{All}
use Rattle.std.proofs.lemmas.List.Elements.{All-head, All-tail}
use Rattle.std.proofs.lemmas.List.{length-append, length-replicate}
use Rattle.point_core.specs.declared.fault.Code.TheVariants.{E35, E46}
use Rattle.point_core.specs.declared.fault.Place.{Place}
use Rattle.point_core.specs.Faults.{fault}
use Rattle.value_core.specs.Limits.{most_rows_in_all}
use Rattle.value_core.specs.declared.refuse.Refuse.{Refuse}
use Rattle.value_core.specs.declared.refuse.Refuse.TheVariants.{At, Plain}
use Rattle.value_core.specs.Values.{Name, Heading, Relation, most_rows}
use Rattle.log_times.specs.Logs.{moved}
use Rattle.tree_core.specs.Relvars.{PlainRelvar, base, view, log, stored, Entries, State}
use Rattle.tree_core.specs.declared.tree.RelForm.{RelForm, Named, Literal, Infix', Project', Rename', Restrict', Extend', Summarize', Pack', Unpack', Using'}
use Rattle.tree_core.specs.declared.tree.RelTree.{RelTree}
use Rattle.tree_core.specs.Trees.{Tree, read_form, read_tree}
use Rattle.meaning_core.specs.Logs.{base_rows, turned_logs, turned_relvar}
use Rattle.meaning_core.specs.Meanings.{meaning_in}
use Rattle.meaning_core.specs.StoredRows.{AreStored, IsValueOf}
use Rattle.meaning_core.specs.WellMade.{IsWellMade, sizes_of}
use Rattle.relvar_logs.specs.Room.{are_each_few, left_of, log_count, rows_of_logs}
use Rattle.relvar_logs.specs.Turning.{IsOfBase}
use Rattle.relvar_logs.proofs.NextLemmas.{base_before, of_base_there}
use Rattle.relvar_logs.proofs.TurningLemmas.{all_there}
use Rattle.stored_views.specs.Operands.{IsStoredFor}
use Rattle.stored_views.specs.Rules.{place_for}
use Rattle.stored_views.specs.Stored.{are_stored_few, rows_of_stored}
use Rattle.stored_views.proofs.BehindLemmas.{few-one_more, rows-one_more, stored-one_more}
use Rattle.assign_core.specs.Breaches.{rows_of_all}
use Rattle.assign_core.specs.Databases.{IsKept}
use Rattle.assign_core.specs.Keeping.{has_room_beside, placed_behind, AreStoredIn}
use Rattle.assign_core.specs.Room.{have_room, if_room, stored_if, stored_in, with_stored, HasStoredRoom}
use Rattle.assign_core.proofs.DeclaredLemmas.{kept_more, rows_of_both, rules_stay}
use Rattle.assign_core.proofs.LogLemmas.{fits, fits_not, turned}
use Rattle.assign_core.proofs.StoredLemmas.{room_stored}

-- ---- what is left

and-true : (b : Bool) → (b && true) ≡ b
and-true true = refl
and-true false = refl

pub room_fits : (A L S more room most : ℕ) (few : Bool) → Some room ≡ left_of most L → few ≡ true → nat_le (A + S + more) room ≡ (nat_le (A + L + (S + more)) most && few)
room_fits A L S more room most few e f =
    let order : (A + S + more) + L ≡ A + L + (S + more) = omega arith in
    fits (A + S + more) L room most e
    ∙ (ap (λ (n : ℕ). nat_le n most) order ∙ (sym (and-true (nat_le (A + L + (S + more)) most)) ∙ ap (λ (b : Bool). nat_le (A + L + (S + more)) most && b) (sym f)))

pub room_not : (A L S more most : ℕ) (few : Bool) → None ≡ left_of most L → (nat_le (A + L + (S + more)) most && few) ≡ false
room_not A L S more most few e =
    let order : (A + S + more) + L ≡ A + L + (S + more) = omega arith in
    ap (λ (b : Bool). b && few) (ap (λ (n : ℕ). nat_le n most) (sym order) ∙ fits_not (A + S + more) L most e)

-- ---- the state with one more

turned-append : (all es : Entries) (name : Name) (t : Tree) → turned all (es ++ (name, view t stored) ∷ []) ≡ turned all es ++ (name, view t stored) ∷ []
turned-append all [] name t = refl
turned-append all (e ∷ es) name t = ap (λ (z : Entries). (e.0, turned_relvar all e.1) ∷ z) (turned-append all es name t)

logs-append : (es : Entries) (name : Name) (t : Tree) → rows_of_logs (es ++ (name, view t stored) ∷ []) ≡ rows_of_logs es
logs-append [] name t = refl
logs-append (e ∷ es) name t = ap (λ (n : ℕ). log_count e.1 + n) (logs-append es name t)

few-append : (es : Entries) (name : Name) (t : Tree) → are_each_few (es ++ (name, view t stored) ∷ []) ≡ are_each_few es
few-append [] name t = refl
few-append (e ∷ es) name t = ap (λ (b : Bool). nat_le (log_count e.1) most_rows && b) (few-append es name t)

turned-one : (es more : Entries) (r : PlainRelvar) → IsOfBase es r → turned_relvar (es ++ more) r ≡ turned_relvar es r
turned-one es more (base value constraints) h = refl
turned-one es more (view t kind) h = refl
turned-one es more (log of side last value) h =
    ap (λ (o : Option PlainRelvar). log of side (last +ℤ pos 1) (record value { rows = moved side (last +ℤ pos 1) (base_rows o) value.rows })) (base_before es more of h.0)

-- a view more changes no log
turned-same : (es more zs : Entries) → All (λ r. IsOfBase es r.1) zs → turned (es ++ more) zs ≡ turned es zs
turned-same es more [] h = refl
turned-same es more (z ∷ zs) h =
    let one = turned-one es more z.1 (All-head (λ r. IsOfBase es r.1) z zs h) in
    let rest = turned-same es more zs (All-tail (λ r. IsOfBase es r.1) z zs h) in
    λ i. (z.0, one i) ∷ rest i

module _ (s : State) (name : Name) (t : Tree) (value : Relation) (made : IsWellMade s) (is : IsStoredFor s t) (h : IsValueOf s.relvars t value) (beside : HasStoredRoom s) where
  abbrev more : Entries
  more = (name, view t stored) ∷ []

  abbrev all : Entries
  all = s.relvars ++ more

  abbrev logs : Entries
  logs = turned_logs s.relvars

  turned-so : turned_logs all ≡ logs ++ more
  turned-so =
      turned-append all s.relvars name t
      ∙ ap (λ (zs : Entries). zs ++ more)
      (turned-same s.relvars more s.relvars (all_there (IsOfBase s.relvars) s.relvars (λ i l. of_base_there (sizes_of s.ordinals) s.relvars i made.relvars l)))

  -- whether there is room then
  pub room_then : have_room (with_stored s name t).relvars ≡ has_room_beside (length value.rows) s.relvars
  room_then =
      let both = rows_of_both s.relvars more in
      let counted : rows_of_logs (turned_logs all) ≡ rows_of_logs logs = ap rows_of_logs turned-so ∙ logs-append logs name t in
      let few : are_each_few (turned_logs all) ≡ are_each_few logs = ap are_each_few turned-so ∙ few-append logs name t in
      let views = rows-one_more s name t value made is h in
      let sum : rows_of_all all + rows_of_logs (turned_logs all) + rows_of_stored all ≡ rows_of_all s.relvars + rows_of_logs logs + (rows_of_stored s.relvars + length value.rows) =
      omega (arith, both, counted, views) in
      let each : are_stored_few all ≡ true = few-one_more s name t value made is h ∙ beside.each in
      (λ i. nat_le (sum i) most_rows_in_all && (few i && each i))
      ∙ ap (λ (b : Bool). nat_le (rows_of_all s.relvars + rows_of_logs logs + (rows_of_stored s.relvars + length value.rows)) most_rows_in_all && b) (and-true (are_each_few logs))

  -- where it is declared
  pub stored_done : have_room (with_stored s name t).relvars ≡ true → stored_in s name t ≡ Ok (with_stored s name t)
  stored_done room = ap (λ m. stored_if m s name t) h.means ∙ ap (λ (b : Bool). cond b (Ok (with_stored s name t)) (Err (Plain E46))) room

  pub stored_full : have_room (with_stored s name t).relvars ≡ false → stored_in s name t ≡ Err (Plain E46)
  stored_full room = ap (λ m. stored_if m s name t) h.means ∙ ap (λ (b : Bool). cond b (Ok (with_stored s name t)) (Err (Plain E46))) room

  pub one_more_stored : (rows : List (Option Relation)) → AreStoredIn s rows → have_room (with_stored s name t).relvars ≡ true → AreStoredIn (with_stored s name t) (placed_behind (length s.relvars) value rows)
  one_more_stored rows are room = record {
    rows = stored-one_more s name t value made is h rows are.rows are.places;
    room = room_stored (with_stored s name t) room;
    places =
        let l = are.places in
        let long = length-append rows (replicate (length s.relvars - length rows) None ++ Some value ∷ []) in
        let pad = length-append (replicate (length s.relvars - length rows) None) (Some value ∷ []) in
        let count = length-replicate {A = Option Relation} (length s.relvars - length rows) None in
        let many = length-append s.relvars more in
        omega (arith, l, long, pad, count, many);
  }

-- the expression means too many rows
form-place : (p : Place) (h : Heading) (f : RelForm) → place_for (read_form p h f) ≡ p
form-place p h (Named name) = refl
form-place p h (Literal tuples) = refl
form-place p h (Infix' word a place heading form b other_place other_heading other_form) = refl
form-place p h (Project' kept a place heading form) = refl
form-place p h (Rename' names a place heading form) = refl
form-place p h (Restrict' c a place heading form) = refl
form-place p h (Extend' sets a place heading form) = refl
form-place p h (Summarize' by aggregates a place heading form) = refl
form-place p h (Pack' commalist a place heading form) = refl
form-place p h (Unpack' commalist a place heading form) = refl
form-place p h (Using' commalist a place heading form) = refl

pub stored_fault : (s : State) (name : Name) (t : RelTree) → meaning_in s.relvars (read_tree t) ≡ Err (fault (place_for (read_tree t)) E35) → stored_in s name (read_tree t) ≡ Err (At (fault t.place E35))
stored_fault s name t e =
    ap (λ m. stored_if m s name (read_tree t)) (e ∙ ap (λ (p : Place). Err (fault p E35)) (form-place t.place t.heading t.form))

pub one_more_kept : (s : State) (name : Name) (t : Tree) → IsKept s → IsWellMade (with_stored s name t) → IsKept (with_stored s name t)
one_more_kept s name t kept made =
    let more : Entries = (name, view t stored) ∷ [] in
    record {
      well_made = made;
      holds = kept_more s.relvars more (refl, tt) kept.holds;
      few = let both = rows_of_both s.relvars more in let few = kept.few in omega (arith, both, few);
      rules = rules_stay (sizes_of s.ordinals) s.relvars more s.rules kept.well_made.rules kept.rules;
    }
