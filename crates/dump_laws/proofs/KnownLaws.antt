-- What is said names only what was declared before it.
--     base-known      the constraints of a base relvar, where the base relvars before it were
--     view-known      a view, where all before it were
--     rule-known      a database constraint, where all were
use Rattle.std.proofs.Common.{◌≡◌, inl, inr, Bool, true, false, not, List, [], ◌∷◌, ◌++◌, refl, sym, ◌∙◌, subst, Option, Some, None}
use Rattle.std.specs.Prelude.{option_map, ◌&&◌}
use Rattle.std.specs.List.{AllByRecursion, list_any}
use Rattle.std.specs.Str.{bytes_eq}
use Rattle.std.proofs.lemmas.Bool.{true≢false, or_from}
use Rattle.std.proofs.lemmas.List.Elements.{recursion_from_All}
use Rattle.base_core.proofs.SetLemmas.{In}
use Rattle.value_core.specs.declared.constraint.Constraint.{Constraint}
use Rattle.value_core.specs.declared.constraint.Constraint.TheVariants.{Key, Packed, WhenUnpacked, UKey, Foreign, History}
use Rattle.value_core.specs.Values.{Name, Relation}
use Rattle.tree_core.specs.Relvars.{State, PlainRelvar, base, view, Entries, relvar_named, relvar_heading, PlainKind}
use Rattle.tree_core.specs.Trees.{Tree, Test}
use Rattle.tree_core.specs.Uses.{names_any, test_names_any}
use Rattle.meaning_core.specs.Typing.{heading_named}
use Rattle.meaning_core.specs.WellMade.{sizes_of, headings_of, IsBase, IsConstraint, IsRelvar, AreRelvars, IsWellMade, IsTypedTestFor}
use Rattle.meaning_core.proofs.ElsewhereLemmas.{typed-names, typed-test-names}
use Rattle.meaning_core.proofs.RelvarLemmas.{heading_of_named}
use Rattle.meaning_laws.proofs.EntriesFound.{relvar-at}
use Rattle.typing_laws.specs.Saying.{references_other, names_other}
use Rattle.part_laws.proofs.EntryLemmas.{base-of, named-next}
use Rattle.dump_laws.specs.Kept.{is_early}
use Rattle.dump_laws.proofs.MadeLaws.{named-in}
use Rattle.dump_laws.specs.Replays.{lacks}

module _ (w r : State) (well : IsWellMade w) where
  -- a base relvar among these is known
  module _ (before : Entries) (known : (x : Name × PlainRelvar) → In x before → is_early x ≡ true → lacks r x.0 ≡ false) where
    base-there : (other : Name) → IsBase (relvar_named before other) → lacks r other ≡ false
    base-there other is = let b = base-of (relvar_named before other) is in known (other, base b.0 b.1) (named-in before other (base b.0 b.1) b.2) refl

    or-own : (own other : Name) (x : PlainRelvar) → IsBase (relvar_named (before ++ (own, x) ∷ []) other) → names_other (lacks r) own other ≡ false
    or-own own other x is = by (bytes_eq own other) refl
      where
        by : (b : Bool) → bytes_eq own other ≡ b → (not b && lacks r other) ≡ false
        by true q = refl
        by false q =
            let b = base-of (relvar_named (before ++ (own, x) ∷ []) other) is in
            elim (named-next before own other x (base b.0 b.1) b.2) [
              | inl e ↦ known (other, base b.0 b.1) (named-in before other (base b.0 b.1) e) refl
              | inr e ↦ absurd (true≢false (sym e ∙ q))
            ]

    and-known : (b : Bool) (other : Name) → lacks r other ≡ false → (b && lacks r other) ≡ false
    and-known true other e = e
    and-known false other e = refl

    constraint-known : (own : Name) (x : PlainRelvar) (c : Constraint) → IsConstraint before own x c → references_other (lacks r) own c ≡ false
    constraint-known own x (Key k) is = refl
    constraint-known own x (Packed commalist) is = refl
    constraint-known own x (WhenUnpacked commalist k) is = refl
    constraint-known own x (UKey commalist k) is = refl
    constraint-known own x (Foreign commalist k other there) is = or-own own other x is.0
    constraint-known own x (History rule) is = and-known (not (bytes_eq own rule.since)) rule.since (base-there rule.since is.0)

    constraints-known : (own : Name) (x : PlainRelvar) (cs : List Constraint) → AllByRecursion (IsConstraint before own x) cs → list_any (references_other (lacks r) own) cs ≡ false
    constraints-known own x [] all = refl
    constraints-known own x (c ∷ cs) all =
        or_from (references_other (lacks r) own c) (list_any (references_other (lacks r) own) cs) (constraint-known own x c all.0) (constraints-known own x cs all.1)

  pub base-known : (before behind : Entries) (name : Name) (v : Relation) (c : List Constraint) → w.relvars ≡ before ++ (name, base v c) ∷ behind
      → ((x : Name × PlainRelvar) → In x before → is_early x ≡ true → lacks r x.0 ≡ false) → list_any (references_other (lacks r) name) c ≡ false
  base-known before behind name v c whole known =
      let is : IsRelvar (sizes_of w.ordinals) before name (base v c) =
      relvar-at (sizes_of w.ordinals) [] before behind (name, base v c) (subst (AreRelvars (sizes_of w.ordinals) []) whole well.relvars) in
      constraints-known before known name (base v c) c (recursion_from_All (IsConstraint before name (base v c)) c is.1)

  -- no name without an entry has a heading
  clear : (before : Entries) → ((x : Name × PlainRelvar) → In x before → lacks r x.0 ≡ false) → (name : Name) → lacks r name ≡ true → heading_named (headings_of before) name ≡ None
  clear before known name none = heading_of_named before name ∙ by (relvar_named before name) refl
    where
      by : (o : Option PlainRelvar) → relvar_named before name ≡ o → option_map relvar_heading o ≡ None
      by None e = refl
      by (Some x) e = absurd (true≢false (sym none ∙ known (name, x) (named-in before name x e)))

  pub view-known : (before behind : Entries) (name : Name) (t : Tree) (kind : PlainKind) → w.relvars ≡ before ++ (name, view t kind) ∷ behind
      → ((x : Name × PlainRelvar) → In x before → lacks r x.0 ≡ false) → names_any (lacks r) t ≡ false
  view-known before behind name t kind whole known =
      let is : IsRelvar (sizes_of w.ordinals) before name (view t kind) =
      relvar-at (sizes_of w.ordinals) [] before behind (name, view t kind) (subst (AreRelvars (sizes_of w.ordinals) []) whole well.relvars) in
      typed-names (lacks r) (sizes_of w.ordinals) (headings_of before) (clear before known) t is.0

  pub rule-known : (t : Test) → IsTypedTestFor w t → ((x : Name × PlainRelvar) → In x w.relvars → lacks r x.0 ≡ false) → test_names_any (lacks r) t ≡ false
  rule-known t is known = typed-test-names (lacks r) (sizes_of w.ordinals) (headings_of w.relvars) (clear w.relvars known) t is
