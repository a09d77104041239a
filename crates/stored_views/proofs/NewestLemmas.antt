-- The newest value of a base relvar.
--     change_there      it stands where the relvar does
--     none_named      no relvar has the name
--     base_there, headed_there      what is known of the relvar
use Rattle.std.proofs.Common.{◌≡◌, ℕ, zero, suc, ◌<◌, Bool, cond, List, [], ◌∷◌, map, length, get_or, refl, sym, ap, ◌∙◌, subst, arith, false, Some, None}
use Rattle.std.specs.Str.{bytes_eq}
use Rattle.value_core.specs.Values.{Name, Heading}
use Rattle.tree_core.specs.declared.relvar.Relvar.{Relvar}
use Rattle.tree_core.specs.Relvars.{PlainRelvar, Entries, relvar_named, relvar_heading, heading_if, read_entry, read_relvar}
use Rattle.meaning_core.specs.Names.{IsFirstAt}
use Rattle.meaning_core.specs.WellMade.{IsBase}
use Rattle.meaning_core.proofs.EntryLemmas.{named_first}
use Rattle.relvar_logs.specs.Changes.{Changes, IsChange, changed, changed_relvar}
use Rattle.relvar_logs.proofs.NextLemmas.{turned-name}
use Rattle.stored_views.specs.Moves.{AreFirstChanges}

-- the change at the relvar's place is its own, and it is changed so
pub change_there : (es : Entries) (cs : Changes) (name : Name) (i : ℕ) (r : PlainRelvar) → AreFirstChanges cs es → IsFirstAt es name i r
    → IsChange (get_or cs i None) r × (relvar_named (changed cs es) name ≡ Some (changed_relvar (get_or cs i None) r))
change_there [] cs name i r are first = absurd first
change_there (e ∷ es) [] name i r are first = (tt, named_first (e ∷ es) name i r first)
change_there (e ∷ es) (c ∷ cs) name zero r are first = (
  subst (IsChange c) first.1 are.0,
  ap (λ (b : Bool). cond b (Some (changed_relvar c e.1)) (relvar_named (changed cs es) name)) first.0 ∙ ap (λ (q : PlainRelvar). Some (changed_relvar c q)) first.1,
)
change_there (e ∷ es) (c ∷ cs) name (suc i) r are first =
    let more = change_there es cs name i r are.1 first.1 in
    (more.0, ap (λ (b : Bool). cond b (Some (changed_relvar c e.1)) (relvar_named (changed cs es) name)) first.0 ∙ more.1)

pub none_named : (es : List (Name × Relvar)) (name : Name)
    → ((k : ℕ) → k < length (map (λ (e : Name × Relvar). e.0) es) → bytes_eq name (get_or (map (λ (e : Name × Relvar). e.0) es) k []) ≡ false) → relvar_named (map read_entry es) name ≡ None
none_named [] name none = refl
none_named (e ∷ es) name none =
    ap (λ (b : Bool). cond b (Some (read_relvar e.1)) (relvar_named (map read_entry es) name)) (turned-name name e.0 (none 0 (omega arith))) ∙ none_named es name (λ k l. none (suc k) (omega (arith, l)))

pub base_there : (es : Entries) (name : Name) (i : ℕ) (r : PlainRelvar) → IsFirstAt es name i r → IsBase (relvar_named es name) → IsBase (Some r)
base_there es name i r first h = subst IsBase (named_first es name i r first) h

pub headed_there : (es : Entries) (name : Name) (i : ℕ) (r : PlainRelvar) (h : Heading) → IsFirstAt es name i r → heading_if (relvar_named es name) ≡ h → relvar_heading r ≡ h
headed_there es name i r h first e = sym (ap heading_if (named_first es name i r first)) ∙ e
