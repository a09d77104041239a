-- Assignments that are performed change values of base relvars alone.
--     all-typed      what typed items stand for is typed
--     assigned-values      the relvars after assignments are what is meant of their values
--     assigned-rows      after typed ones they differ in their rows alone
use Rattle.std.proofs.Common.{◌≡◌, Bool, true, false, cond, List, [], ◌∷◌, ◌++◌, map, refl, sym, ap, ap₂, ◌∙◌, subst, Some, Ok, Err}
use Rattle.std.specs.List.{All, AllByRecursion, IsDistinct}
use Rattle.std.specs.Str.{bytes_eq}
use Rattle.std.proofs.lemmas.List.Elements.{All-head, All-tail}
use Rattle.base_core.proofs.ListLemmas.{All-In, bytes_eq-sym}
use Rattle.base_core.proofs.MemberLemmas.{In-flat_map}
use Rattle.point_core.specs.Faults.{OrFault}
use Rattle.value_core.specs.declared.refuse.Refuse.TheVariants.{Plain, At}
use Rattle.point_core.specs.declared.fault.Code.TheVariants.{E46}
use Rattle.value_core.specs.Values.{Name, Relation}
use Rattle.tree_core.specs.Items.{PlainItemForm, set_to, insert, delete, delete_rows, update, terminate, PlainItem, PlainAssignment}
use Rattle.tree_core.specs.Relvars.{State, PlainRelvar, Entries, relvar_named, heading_if}
use Rattle.tree_core.specs.Trees.{heading_of}
use Rattle.meaning_core.specs.Meanings.{meaning_in}
use Rattle.meaning_core.specs.Names.{given, with_value}
use Rattle.meaning_core.specs.Updates.{IsTypedItem, IsTypedAssignment}
use Rattle.meaning_core.specs.WellMade.{IsWellMade}
use Rattle.meaning_core.proofs.LookupLemmas.{under_ok}
use Rattle.meaning_core.proofs.MadeLemmas.{same_name}
use Rattle.meaning_core.proofs.RowlessLemmas.{bare, bare_all, bare-with_value, heading-keeps, names-bare}
use Rattle.update_core.specs.Endings.{meant_by}
use Rattle.update_core.specs.Updates.{IsExpandable}
use Rattle.update_core.proofs.EndingLemmas.{expanded-meant}
use Rattle.update_core.proofs.TypedLemmas.{expanded-typed}
use Rattle.since_during.specs.Joinable.{IsEndingForm}
use Rattle.since_during.proofs.EndedLemmas.{ended-typed}
use Rattle.assign_core.specs.Assignments.{seen_by, source_value, with_target, evaluated, kept_or_refused, of_values, unless_rule_broken, assigned_in}
use Rattle.assign_core.specs.Items.{assignments_of}
use Rattle.assign_core.specs.Room.{have_room, unless_full}
use Rattle.assign_core.proofs.GainedLemmas.{entries_are}
use Rattle.row_typing_laws.proofs.Parts.{parts-of}
use Rattle.dump_laws.proofs.ListLaws.{distinct-later}
use Rattle.dump_laws.proofs.NamingLaws.{all-member}
use Rattle.dump_laws.proofs.OutcomeLaws.{given-same, never-given}

-- ---- typed items

-- by the form of the item
form-typed : (s : State) (item : PlainItem) (form : PlainItemForm) → item.form ≡ form → IsWellMade s → IsTypedItem s item → All (IsTypedAssignment s) (meant_by s.relvars item)
form-typed s item form e made is = by form e
  where
    expands : IsExpandable item.form → All (IsTypedAssignment s) (meant_by s.relvars item)
    expands other = subst (All (IsTypedAssignment s)) (sym (expanded-meant s.relvars item other)) (expanded-typed s item made other is)

    by : (form : PlainItemForm) → item.form ≡ form → All (IsTypedAssignment s) (meant_by s.relvars item)
    by (set_to t) e = expands (subst IsExpandable (sym e) tt)
    by (insert commalist t) e = expands (subst IsExpandable (sym e) tt)
    by (delete commalist t) e = expands (subst IsExpandable (sym e) tt)
    by (delete_rows change) e = expands (subst IsExpandable (sym e) tt)
    by (update change sets) e = expands (subst IsExpandable (sym e) tt)
    by (terminate at place condition) e = ended-typed s item made (subst IsEndingForm (sym e) tt) is

pub all-typed : (s : State) (items : List PlainItem) → IsWellMade s → All (IsTypedItem s) items → All (IsTypedAssignment s) (assignments_of s.relvars items)
all-typed s items made are =
    All-In (IsTypedAssignment s) (assignments_of s.relvars items) (λ a i.
    let of = (In-flat_map (meant_by s.relvars) a items).0 i in
    all-member (IsTypedAssignment s) (meant_by s.relvars of.0) a (form-typed s of.0 of.0.form refl made (all-member (IsTypedItem s) items of.0 are of.1)) of.2)

-- ---- one value

abbrev pub names_in : Entries → List Name
names_in es = map (λ e. e.0) es

-- where no entry has the name
bare-others : (name : Name) (value : Relation) (es : Entries) → AllByRecursion (λ (n : Name). bytes_eq name n ≡ false) (names_in es) → ((n : Name) → bytes_eq name n ≡ false → bytes_eq n name ≡ false)
    → bare_all (given (Some name) (Some value) es) ≡ bare_all es
bare-others name value [] others turn = refl
bare-others name value (e ∷ es) others turn =
    ap₂ (λ (r : PlainRelvar) (l : Entries). (e.0, bare r) ∷ l) (ap (λ (b : Bool). cond b (with_value value e.1) e.1) (turn e.0 others.0)) (bare-others name value es others.1 turn)

-- the value has the heading of the relvar that has the name
pub bare-given : (name : Name) (value : Relation) (es : Entries) → IsDistinct bytes_eq (names_in es) → value.heading ≡ heading_if (relvar_named es name)
    → bare_all (given (Some name) (Some value) es) ≡ bare_all es
unfolding IsDistinct
bare-given name value [] differ headed = refl
bare-given name value (e ∷ es) differ headed = by (bytes_eq e.0 name) refl (bare-given name value es differ.1) headed
  where
    by : (b : Bool) → bytes_eq e.0 name ≡ b → (value.heading ≡ heading_if (relvar_named es name) → bare_all (given (Some name) (Some value) es) ≡ bare_all es)
        → value.heading ≡ heading_if (cond b (Some e.1) (relvar_named es name)) → bare_all (given (Some name) (Some value) (e ∷ es)) ≡ bare_all (e ∷ es)
    by true q more h =
        let same : e.0 ≡ name = same_name e.0 name q in
        let others : AllByRecursion (λ (n : Name). bytes_eq name n ≡ false) (names_in es) =
        subst (λ (m : Name). AllByRecursion (λ (n : Name). bytes_eq m n ≡ false) (names_in es)) same differ.0 in
        ap₂ (λ (r : PlainRelvar) (l : Entries). (e.0, r) ∷ l)
        (ap (λ (b : Bool). bare (cond b (with_value value e.1) e.1)) q ∙ bare-with_value value e.1 h)
        (bare-others name value es others (λ n q. bytes_eq-sym n name ∙ q))
    by false q more h = ap₂ (λ (r : PlainRelvar) (l : Entries). (e.0, bare r) ∷ l) (ap (λ (b : Bool). cond b (with_value value e.1) e.1) q) (more h)

-- ---- all values

module _ (s : State) (made : IsWellMade s) where
  pub names-differ : IsDistinct bytes_eq (names_in s.relvars)
  names-differ = distinct-later bytes_eq (map (λ r. r.0) s.rules ++ map (λ o. o.name) s.ordinals) (names_in s.relvars) made.different

  evaluated-rows : (list : List PlainAssignment) (new last : Entries) → All (IsTypedAssignment s) list → bare_all new ≡ bare_all s.relvars → evaluated s.relvars new list ≡ Ok last
      → bare_all last ≡ bare_all s.relvars
  evaluated-rows [] new last are same e = subst (λ (l : Entries). bare_all l ≡ bare_all s.relvars) (given-same new last (Ok new) refl e) same
  evaluated-rows (a ∷ rest) new last are same e =
      let typed = All-head (IsTypedAssignment s) a rest are in
      let parts = parts-of (source_value s.relvars new a) (λ value. evaluated s.relvars (with_target new a.target value) rest) last e in
      let headed : parts.0.heading ≡ heading_if (relvar_named new a.target) =
      sym ((under_ok (heading_of a.tree) (meaning_in (seen_by s.relvars new a.target) a.tree) parts.0 parts.1).1) ∙ (typed.headed ∙ sym (heading-keeps new s.relvars same a.target)) in
      let differ : IsDistinct bytes_eq (names_in new) =
      subst (IsDistinct bytes_eq) (sym (names-bare s.relvars) ∙ (ap names_in (sym same) ∙ names-bare new)) names-differ in
      evaluated-rows rest (with_target new a.target parts.0) last (All-tail (IsTypedAssignment s) a rest are) (bare-given a.target parts.0 new differ headed ∙ same) parts.2

  -- ---- what is accepted

  -- where there is room, and no constraint is broken
  accepted-as : (v : OrFault Entries) (last : Entries) → unless_full v (unless_rule_broken s.rules (of_values v)) ≡ Ok last → v ≡ Ok last
  accepted-as (Err fault) last e = absurd (never-given last (At fault) (Err (At fault)) refl e)
  accepted-as (Ok new) last e = ap Ok (by (have_room new) e)
    where
      by : (b : Bool) → cond b (unless_rule_broken s.rules (kept_or_refused new)) (Err (Plain E46)) ≡ Ok last → new ≡ last
      by true f = entries_are s.rules new last f
      by false f = absurd (never-given last (Plain E46) (Err (Plain E46)) refl f)

  -- the relvars after assignments are those with the values of their sources
  pub assigned-values : (list : List PlainAssignment) (last : Entries) → assigned_in s list ≡ Ok last → evaluated s.relvars s.relvars list ≡ Ok last
  assigned-values list last e = accepted-as (evaluated s.relvars s.relvars list) last e

  pub assigned-rows : (list : List PlainAssignment) (last : Entries) → All (IsTypedAssignment s) list → assigned_in s list ≡ Ok last → bare_all last ≡ bare_all s.relvars
  assigned-rows list last are e = evaluated-rows list s.relvars last are refl (assigned-values list last e)
