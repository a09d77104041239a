-- What a database keeps of stored views.
--     room_stored      where there is room for all rows, there is for theirs
--     stored_counted      where a statement is counted
--     stored_more      where entries without stored views come behind
--     stored_same      where entries stay
--     opened_stored, declared_stored, removed_stored      where a log, relvars and views are declared, and where some are removed
use Rattle.std.proofs.Common.{◌≡◌, ℕ, suc, ◌+◌, ◌≤◌, Bool, true, false, nat_le, List, [], ◌∷◌, ◌++◌, map, length, refl, sym, ap, ◌∙◌, subst, arith, Option, Result, Ok, Err}
use Rattle.std.specs.Prelude.{◌&&◌}
use Rattle.std.proofs.lemmas.Bool.{and_parts}
use Rattle.std.proofs.lemmas.Bool.Decides.{nat_tests}
use Rattle.std.proofs.lemmas.List.{length-append}
use Rattle.value_core.specs.Limits.{most_rows_in_all}
use Rattle.value_core.specs.Values.{Name, Relation}
use Rattle.value_core.specs.declared.refuse.Refuse.{Refuse}
use Rattle.value_core.specs.declared.refuse.Refuse.TheVariants.{Plain, At, Broken, Memory}
use Rattle.tree_core.specs.declared.declaration.Declaration.{Declaration}
use Rattle.tree_core.specs.declared.declaration.Declaration.TheVariants as variants
use Rattle.tree_core.specs.declared.declaration.LogData.{LogData}
use Rattle.tree_core.specs.Relvars.{Entries, State, heading_if, relvar_named}
use Rattle.meaning_core.specs.Declarations.{PlainDeclaration, ordinal_type, base_relvar, view_relvar, counted, group, read_declaration, with_log, without_group}
use Rattle.meaning_core.specs.Logs.{new_log, turned_logs}
use Rattle.meaning_core.specs.StoredRows.{AreStored}
use Rattle.meaning_core.specs.WellMade.{IsWellMade}
use Rattle.relvar_logs.specs.Room.{are_each_few, rows_of_logs}
use Rattle.relvar_logs.specs.Opening.{IsOpenedIn}
use Rattle.stored_views.specs.Stored.{are_stored_few, has_stored, rows_of_stored}
use Rattle.stored_views.specs.Without.{rows_without}
use Rattle.stored_views.proofs.BehindLemmas.{few-behind, rows-behind, stored-behind}
use Rattle.stored_views.proofs.TurnedLemmas.{few-turned, rows-turned, stored-turned}
use Rattle.stored_views.proofs.FewerLemmas.{few-without, rows-without}
use Rattle.stored_views.proofs.WithoutLemmas.{stored-without, without-few}
use Rattle.assign_core.specs.Breaches.{rows_of_all}
use Rattle.assign_core.specs.Databases.{declared}
use Rattle.assign_core.specs.Keeping.{AreStoredIn}
use Rattle.assign_core.specs.Room.{have_room, HasStoredRoom}
use Rattle.assign_core.proofs.DeclaredLemmas.{all_added, declared_added, rows_of_both}
use Rattle.assign_core.proofs.LogLemmas.{rows_turned, turned}
use Rattle.assign_core.proofs.RemovedLemmas.{fewer_rows}

-- ---- room

pub room_stored : (s : State) → have_room s.relvars ≡ true → HasStoredRoom s
room_stored s e =
    let sum : ℕ = rows_of_all s.relvars + rows_of_logs (turned_logs s.relvars) + rows_of_stored s.relvars in
    let parts = and_parts (nat_le sum most_rows_in_all) (are_each_few (turned_logs s.relvars) && are_stored_few s.relvars) e in
    let fit : sum ≤ most_rows_in_all = let f = parts.0 in grind (arith, nat_tests) in
    record { few = omega (arith, fit); each = (and_parts (are_each_few (turned_logs s.relvars)) (are_stored_few s.relvars) parts.1).1 }

-- ---- one statement more

turned-many : (all es : Entries) → length (turned all es) ≡ length es
turned-many all [] = refl
turned-many all (e ∷ es) = ap suc (turned-many all es)

pub stored_counted : (s : State) (stored : List (Option Relation)) → IsWellMade s → AreStoredIn s stored → AreStoredIn (counted s) stored
stored_counted s stored made are = record {
  rows = stored-turned s stored made are.rows;
  room = record {
    few = let all = rows_turned s.relvars in let views = rows-turned s made in let few = are.room.few in omega (arith, all, views, few);
    each = few-turned s made ∙ are.room.each;
  };
  places = let many = turned-many s.relvars s.relvars in let l = are.places in omega (arith, many, l);
}

-- ---- more entries without stored views

pub stored_more : (s : State) (more : Entries) (stored : List (Option Relation)) → IsWellMade s → has_stored more ≡ false → rows_of_all more ≡ 0 → AreStoredIn s stored
    → AreStoredIn (record s { relvars = s.relvars ++ more }) stored
stored_more s more stored made none empty are = record {
  rows = stored-behind s more stored made are.rows none;
  room = record {
    few =
        let both = rows_of_both s.relvars more in
        let views = rows-behind s more made none in
        let few = are.room.few in
        omega (arith, both, views, few, empty);
    each = few-behind s more made none ∙ are.room.each;
  };
  places = let many = length-append s.relvars more in let l = are.places in omega (arith, many, l);
}

-- ---- the same entries

pub stored_same : (s t : State) (stored : List (Option Relation)) → t.relvars ≡ s.relvars → AreStoredIn s stored → AreStoredIn t stored
stored_same s t stored e are = record {
  rows = subst (λ (es : Entries). AreStored es stored) (sym e) are.rows;
  room = record {
    few = subst (λ (es : Entries). rows_of_all es + rows_of_stored es ≤ most_rows_in_all) (sym e) are.room.few;
    each = ap are_stored_few e ∙ are.room.each;
  };
  places = subst (λ (es : Entries). length stored ≤ length es) (sym e) are.places;
}

-- ---- a log more

pub opened_stored : (rows : ℕ) (result : Result (Unit {0}) Refuse) (s new : State) (d : LogData) (stored : List (Option Relation)) → IsWellMade s → IsWellMade (with_log s d) → IsOpenedIn rows result s new d
    → AreStoredIn s stored → AreStoredIn new stored
opened_stored rows (Ok done) s new d stored made then h are =
    let more : Entries = (d.name, new_log (heading_if (relvar_named s.relvars d.of)) s.accepted d) ∷ [] in
    subst (λ (t : State). AreStoredIn t stored) (sym h.1) (stored_counted (with_log s d) stored then (stored_more s more stored made refl refl are))
opened_stored rows (Err (Plain code)) s new d stored made then h are = subst (λ (t : State). AreStoredIn t stored) (sym h.2) are
opened_stored rows (Err (At fault)) s new d stored made then h are = absurd h
opened_stored rows (Err (Broken code relvar number)) s new d stored made then h are = absurd h
opened_stored rows (Err Memory) s new d stored made then h are = subst (λ (t : State). AreStoredIn t stored) (sym h) are

-- ---- relvars and views more

no-views : (ds : List Declaration) → has_stored (all_added (map read_declaration ds)) ≡ false
no-views [] = refl
no-views (variants.Ordinal name values ∷ ds) = no-views ds
no-views (variants.Base name heading constraints ∷ ds) = no-views ds
no-views (variants.View name tree ∷ ds) = no-views ds
no-views (variants.HistoryView name tree since during ∷ ds) = no-views ds

no-rows : (ds : List PlainDeclaration) → rows_of_all (all_added ds) ≡ 0
no-rows [] = refl
no-rows (ordinal_type name values ∷ ds) = no-rows ds
no-rows (base_relvar name heading constraints ∷ ds) = ap (λ (n : ℕ). 0 + n) (no-rows ds)
no-rows (view_relvar name t kind ∷ ds) = ap (λ (n : ℕ). 0 + n) (no-rows ds)

pub declared_stored : (s new : State) (ds : List Declaration) (stored : List (Option Relation)) → IsWellMade s → new ≡ declared s (map read_declaration ds) → AreStoredIn s stored → AreStoredIn new stored
declared_stored s new ds stored made e are =
    let plain = map read_declaration ds in
    let more = all_added plain in
    stored_same (record s { relvars = s.relvars ++ more }) new stored (ap (λ (t : State). t.relvars) e ∙ declared_added s plain) (stored_more s more stored made (no-views ds) (no-rows plain) are)

-- ---- fewer entries

pub removed_stored : (name : Name) (s new : State) (stored left : List (Option Relation)) → IsWellMade (without_group name s) → new ≡ without_group name s
    → left ≡ rows_without (group s.relvars name) s.relvars stored → AreStoredIn s stored → AreStoredIn new left
removed_stored name s new stored left made e same are =
    let rest = without_group name s in
    subst (λ (t : State). AreStoredIn t left) (sym e) (subst (AreStoredIn rest) (sym same) (record {
      rows = stored-without name s stored made are.rows;
      room = record {
        few =
            let bases = fewer_rows (group s.relvars name) s.relvars in
            let views = rows-without (group s.relvars name) s made in
            let few = are.room.few in
            omega (arith, bases, views, few);
        each = few-without (group s.relvars name) s made are.room.each;
      };
      places = without-few (group s.relvars name) s.relvars stored are.places;
    }))
