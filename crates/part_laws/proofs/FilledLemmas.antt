-- A database that is declared anew, and gets the rows of the first one.
--     loadable-state      a database keeps what is asked
--     loadable-kept      and so do some of its relvars and views, all base relvars among them
--     filled-none, filled-names, filled-bases, filled-begins, loadable-filled      the second database with the rows of the first
use Rattle.std.proofs.Common.{◌≡◌, Bool, true, false, List, [], ◌∷◌, map, filter, refl, sym, ap, ◌∙◌, subst, cond}
use Rattle.std.proofs.lemmas.Bool.{true≢false}
use Rattle.std.specs.List.{IsDistinct}
use Rattle.std.specs.Str.{bytes_eq}
use Rattle.value_core.specs.declared.constraint.Constraint.{Constraint}
use Rattle.value_core.specs.Values.{Name, Relation}
use Rattle.tree_core.specs.Relvars.{PlainRelvar, base, view, Entries, State, log}
use Rattle.meaning_core.specs.WellMade.{sizes_of}
use Rattle.dump_core.specs.Inserts.{HaveRelations}
use Rattle.assign_core.specs.Databases.{IsKept}
use Rattle.assign_core.specs.Parts.{names_in}
use Rattle.assign_core.proofs.NameLemmas.{relvars_differ}
use Rattle.part_laws.specs.Parts.{emptied, loaded, is_base, IsLoadable, AreEmptied, filled}
use Rattle.part_laws.proofs.BaseLemmas.{distinct-kept, bases-kept, loadable-made, loadable-bases}
use Rattle.part_laws.proofs.LoadedLemmas.{loaded-none}

-- ---- databases

pub loadable-state : (s : State) → IsKept s → HaveRelations s.relvars → IsLoadable s.relvars
loadable-state s kept relations = loadable-made (sizes_of s.ordinals) s.relvars kept.well_made.relvars (relvars_differ s kept.well_made) relations kept.holds kept.few

pub loadable-kept : (p : Name × PlainRelvar → Bool) (es : Entries) → ((name : Name) (v : Relation) (c : List Constraint) → p (name, base v c) ≡ true) → IsLoadable es → IsLoadable (filter p es)
loadable-kept p es all is = loadable-bases es (filter p es) (sym (bases-kept p es all)) (distinct-kept p es is.different) is

-- ---- the second database

emptied-view : (d : Name × PlainRelvar) → is_base d ≡ false → emptied d ≡ d
emptied-view (name, base v c) e = absurd (true≢false e)
emptied-view (name, view t kind) e = refl
emptied-view (name, log o k last w) e = refl

-- without rows it is as it was declared
pub filled-none : (es ds : Entries) → AreEmptied es ds → map emptied (filled es ds) ≡ ds
filled-none [] [] h = refl
filled-none [] (d ∷ ds) h = absurd h
filled-none (e ∷ es) [] h = absurd h
filled-none ((name, base v c) ∷ es) (d ∷ ds) h = λ t. sym h.0 t ∷ filled-none es ds h.1 t
filled-none ((name, view t kind) ∷ es) (d ∷ ds) h = λ i. emptied-view d h.0.1 i ∷ filled-none es ds h.1 i
filled-none ((name, log o k last w) ∷ es) (d ∷ ds) h = λ i. emptied-view d h.0.1 i ∷ filled-none es ds h.1 i

pub filled-names : (es ds : Entries) → AreEmptied es ds → names_in (filled es ds) ≡ names_in es
filled-names [] ds h = refl
filled-names (e ∷ es) [] h = absurd h
filled-names ((name, base v c) ∷ es) (d ∷ ds) h = ap (λ (l : List Name). name ∷ l) (filled-names es ds h.1)
filled-names ((name, view t kind) ∷ es) (d ∷ ds) h = λ i. h.0.0 i ∷ filled-names es ds h.1 i
filled-names ((name, log o k last w) ∷ es) (d ∷ ds) h = λ i. h.0.0 i ∷ filled-names es ds h.1 i

pub filled-bases : (es ds : Entries) → AreEmptied es ds → filter is_base (filled es ds) ≡ filter is_base es
filled-bases [] ds h = refl
filled-bases (e ∷ es) [] h = absurd h
filled-bases ((name, base v c) ∷ es) (d ∷ ds) h = ap (λ (l : Entries). (name, base v c) ∷ l) (filled-bases es ds h.1)
filled-bases ((name, view t kind) ∷ es) (d ∷ ds) h =
    ap (λ (b : Bool). cond b (d ∷ filter is_base (filled es ds)) (filter is_base (filled es ds))) h.0.1 ∙ filled-bases es ds h.1
filled-bases ((name, log o k last w) ∷ es) (d ∷ ds) h =
    ap (λ (b : Bool). cond b (d ∷ filter is_base (filled es ds)) (filter is_base (filled es ds))) h.0.1 ∙ filled-bases es ds h.1

pub loadable-filled : (es ds : Entries) → AreEmptied es ds → IsLoadable es → IsLoadable (filled es ds)
loadable-filled es ds h is =
    loadable-bases es (filled es ds) (sym (filled-bases es ds h)) (subst (IsDistinct bytes_eq) (sym (filled-names es ds h)) is.different) is

-- it begins as it is declared
pub filled-begins : (es ds : Entries) → AreEmptied es ds → loaded 0 0 (filled es ds) ≡ ds
filled-begins es ds h = loaded-none (filled es ds) ∙ filled-none es ds h
