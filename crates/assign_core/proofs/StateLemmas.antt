-- States as relvars are read after a change.
--     changed_state      where the relvars are others and all else stays
--     state_back      where an exchange of values is taken back
--     counted_kept      with one accepted statement more
--     rule_removed, alone_removed, all_removed      with one database constraint less, and without relvars
use Rattle.std.proofs.Common.{◌≡◌, ℤ, List, [], ◌∷◌, map, not, filter, sym, ap, subst, ◌∙◌, Option, Some, None}
use Rattle.std.specs.Prelude.{option_map}
use Rattle.std.specs.List.{IsDistinct}
use Rattle.std.specs.Map.{keys_of, lookup}
use Rattle.std.specs.Str.{bytes_eq}
use Rattle.indexmap.specs.IndexMap.{shift_remove_entry}
use Rattle.value_core.specs.Values.{Name}
use Rattle.tree_core.specs.declared.relvar.Relvar.{Relvar}
use Rattle.tree_core.specs.declared.relvar.Relvars.{Relvars}
use Rattle.tree_core.specs.declared.test.RelTest.{RelTest}
use Rattle.tree_core.specs.Relvars.{State, Entries, read_entry, read_relvar, read_relvars, read_rule, relvar_named, history_if}
use Rattle.tree_core.specs.Trees.{read_test}
use Rattle.tree_core.specs.Uses.{is_one_of}
use Rattle.tree_core.proofs.NameLemmas.{looked-up}
use Rattle.meaning_core.specs.Declarations.{with_history}
use Rattle.meaning_core.proofs.AcceptedLemmas.{made-counted}
use Rattle.assign_core.specs.Databases.{IsKept}
use Rattle.assign_core.specs.Exchanges.{exchanged_by, replaced, ArePrepared, AreValues}
use Rattle.assign_core.specs.declared.exchange.Change.{Change}
use Rattle.assign_core.proofs.ExchangeLemmas.{prepared_back, taken_back, values_back}
use Rattle.assign_core.proofs.NameLemmas.{apart_from, distinct_apart, filter_read, one_removed, shift_apart, three_removed}

pub changed_state : (old new : Relvars) (es : Entries) → map read_entry new.list.entries ≡ es → new.ordinals ≡ old.ordinals → new.rules ≡ old.rules
    → new.accepted ≡ old.accepted → read_relvars new ≡ record (read_relvars old) { relvars = es }
changed_state old new es list ordinals rules accepted = λ i. record { ordinals = ordinals i; relvars = list i; rules = map read_rule (rules i).entries; accepted = accepted i }

-- a statement that is counted changes nothing else
pub counted_kept : (s : State) (n : ℤ) → IsKept s → IsKept (record s { accepted = n })
counted_kept s n kept = record { well_made = made-counted s n kept.well_made; holds = kept.holds; few = kept.few; rules = kept.rules }

pub rule_removed : (rs left : List (Name × RelTest)) (name : Name) → IsDistinct bytes_eq (keys_of rs) → left ≡ shift_remove_entry (bytes_eq name) rs
    → map read_rule left ≡ filter (λ r. not (bytes_eq r.0 name)) (map read_rule rs)
rule_removed rs left name different e =
    ap (map read_rule) (e ∙ shift_apart rs name different) ∙ filter_read read_test (λ n. not (bytes_eq n name)) rs

-- ---- groups

-- the entry alone
pub alone_removed : (es left : List (Name × Relvar)) (name : Name) (o : Option (Name × Name)) → IsDistinct bytes_eq (keys_of es) → left ≡ shift_remove_entry (bytes_eq name) es
    → o ≡ None → map read_entry left ≡ filter (λ r. not (is_one_of (with_history name o) r.0)) (map read_entry es)
alone_removed es left name o different e none =
    ap (map read_entry) (e ∙ (shift_apart es name different ∙ one_removed es name))
    ∙ (filter_read read_relvar (λ n. not (is_one_of (name ∷ []) n)) es
    ∙ ap (λ (p : Option (Name × Name)). filter (λ r. not (is_one_of (with_history name p) r.0)) (map read_entry es)) (sym none))

-- the view of a history, its during relvar, its since relvar
pub all_removed : (es first second third : List (Name × Relvar)) (name since during : Name) (o : Option (Name × Name)) → IsDistinct bytes_eq (keys_of es)
    → first ≡ shift_remove_entry (bytes_eq name) es → second ≡ shift_remove_entry (bytes_eq during) first → third ≡ shift_remove_entry (bytes_eq since) second
    → o ≡ Some (since, during) → map read_entry third ≡ filter (λ r. not (is_one_of (with_history name o) r.0)) (map read_entry es)
all_removed es first second third name since during o different e f g some =
    let one : first ≡ apart_from name es = e ∙ shift_apart es name different in
    let two : second ≡ apart_from during (apart_from name es) =
    f ∙ (ap (shift_remove_entry (bytes_eq during)) one ∙ shift_apart (apart_from name es) during (distinct_apart es name different)) in
    let three : third ≡ apart_from since (apart_from during (apart_from name es)) =
    g ∙ (ap (shift_remove_entry (bytes_eq since)) two
    ∙ shift_apart (apart_from during (apart_from name es)) since (distinct_apart (apart_from name es) during (distinct_apart es name different))) in
    ap (map read_entry) (three ∙ three_removed es name during since)
    ∙ (filter_read read_relvar (λ n. not (is_one_of (name ∷ during ∷ since ∷ []) n)) es
    ∙ ap (λ (p : Option (Name × Name)). filter (λ r. not (is_one_of (with_history name p) r.0)) (map read_entry es)) (sym some))

pub history_found : (es : List (Name × Relvar)) (name : Name) (out : Option Relvar) → out ≡ lookup (bytes_eq name) es
    → history_if (option_map read_relvar out) ≡ history_if (relvar_named (map read_entry es) name)
history_found es name out e = ap history_if (ap (option_map read_relvar) e ∙ looked-up es name)

-- ---- taken back

-- a second exchange of values takes the first one back
pub state_back : (old mid new : Relvars) (cs ds : List Change) → ArePrepared cs (map read_entry old.list.entries) → AreValues cs
    → map read_entry mid.list.entries ≡ exchanged_by cs (map read_entry old.list.entries) → ds ≡ map (replaced (map read_entry old.list.entries)) cs
    → map read_entry new.list.entries ≡ exchanged_by ds (map read_entry mid.list.entries)
    → mid.ordinals ≡ old.ordinals → mid.rules ≡ old.rules → mid.accepted ≡ old.accepted → new.ordinals ≡ mid.ordinals → new.rules ≡ mid.rules → new.accepted ≡ mid.accepted
    → read_relvars new ≡ read_relvars old
state_back old mid new cs ds prepared are first back second ordinals rules accepted ordinals_too rules_too accepted_too =
    let es = map read_entry old.list.entries in
    let list = second ∙ ((λ i. exchanged_by (back i) (first i)) ∙ taken_back cs es prepared are) in
    changed_state old new es list (ordinals_too ∙ ordinals) (rules_too ∙ rules) (accepted_too ∙ accepted)

-- what is left by the first one
pub values_left : (es fs : Entries) (cs ds : List Change) → ArePrepared cs es → AreValues cs → fs ≡ exchanged_by cs es → ds ≡ map (replaced es) cs → AreValues ds × ArePrepared ds fs
values_left es fs cs ds prepared are first back = (
  subst AreValues (sym back) (values_back cs es are),
  subst (λ (z : Entries). ArePrepared ds z) (sym first) (subst (λ (z : List Change). ArePrepared z (exchanged_by cs es)) (sym back) (prepared_back cs es prepared are)),
)
