-- What is said names only what stands in the state.
--     unnamed-new      it names none of some names that stand for no relvar and no view
--     unnamed-left      it names none of some that nothing else uses
use Rattle.std.proofs.Common.{◌≡◌, inl, inr, Bool, true, false, not, cond, List, [], ◌∷◌, ◌++◌, refl, sym, ap, ◌∙◌, subst, append_assoc, Option, Some, None}
use Rattle.std.specs.Prelude.{◌||◌, ◌&&◌, option_map}
use Rattle.std.specs.List.{All, list_any}
use Rattle.std.specs.Str.{bytes_eq}
use Rattle.std.proofs.lemmas.Bool.{or_parts, or_from}
use Rattle.std.proofs.lemmas.List.Elements.{All-head, All-tail}
use Rattle.base_core.proofs.SetLemmas.{In}
use Rattle.value_core.specs.declared.constraint.Constraint.{Constraint}
use Rattle.value_core.specs.declared.constraint.Constraint.TheVariants.{Key, Packed, WhenUnpacked, UKey, Foreign, History}
use Rattle.value_core.specs.Values.{Name, Heading}
use Rattle.tree_core.specs.Relvars.{State, PlainKind, PlainRelvar, base, view, Entries, relvar_named, relvar_heading, log, derived, stored}
use Rattle.tree_core.specs.Trees.{Tree, Test}
use Rattle.tree_core.specs.Uses.{names_any, test_names_any, references_any, relvar_names_any}
use Rattle.meaning_core.specs.WellMade.{sizes_of, headings_of, IsBase, IsConstraint, IsRelvar, AreRelvars, IsWellMade, IsTypedTestFor}
use Rattle.meaning_core.proofs.ElsewhereLemmas.{IsClear, typed-names, typed-test-names}
use Rattle.meaning_core.proofs.RelvarLemmas.{heading_of_named, named_before}
use Rattle.declaration_typing.specs.Drops.{relvars_use, rules_use, is_used}
use Rattle.typing_laws.specs.Saying.{Said, said_ordinal, said_base, said_view, said_stored, said_history, said_rule, names_said, entries_said, names_other, references_other, said_names_any}
use Rattle.typing_laws.proofs.SaidNames.{said-unused}
use Rattle.dump_laws.specs.Kept.{IsListedAs}
use Rattle.part_laws.specs.Parts.{emptied}
use Rattle.dump_laws.proofs.MadeLaws.{entry-in, rule-in}

-- ---- lists

pub any-member : {X : Type 0} (p : X → Bool) (xs : List X) (x : X) → list_any p xs ≡ false → In x xs → p x ≡ false
any-member p [] x e i = absurd i
any-member p (y ∷ ys) x e i =
    let parts = or_parts (p y) (list_any p ys) e in
    elim i [ inl k ↦ ap p k ∙ parts.0 | inr j ↦ any-member p ys x parts.1 j ]

pub all-member : {X : Type 0} (P : X → Type 0) (xs : List X) (x : X) → All P xs → In x xs → P x
all-member P [] x h i = absurd i
all-member P (y ∷ ys) x h i = elim i [ inl k ↦ subst P (sym k) (All-head P y ys h) | inr j ↦ all-member P ys x (All-tail P y ys h) j ]

-- ---- entries behind those before them

-- an entry is well made behind those before it
pub placed-in : (sizes : _) (before es : Entries) (x : Name × PlainRelvar) → AreRelvars sizes before es → In x es
    → (front : Entries) × (back : Entries) × (before ++ es ≡ front ++ back) × IsRelvar sizes front x.0 x.1
placed-in sizes before [] x h i = absurd i
placed-in sizes before (r ∷ rest) x h i = elim i [
  | inl k ↦ (before, r ∷ rest, refl, subst (λ (y : Name × PlainRelvar). IsRelvar sizes before y.0 y.1) (sym k) h.0)
  | inr j ↦
      let more = placed-in sizes (before ++ r ∷ []) rest x h.1 j in
      (more.0, more.1, sym (append_assoc before (r ∷ []) rest) ∙ more.2, more.3)
]

-- what stands for nothing does not in front either
pub named-front : (front back : Entries) (name : Name) → relvar_named (front ++ back) name ≡ None → relvar_named front name ≡ None
named-front front back name e = by (relvar_named front name) refl
  where
    by : (o : Option PlainRelvar) → relvar_named front name ≡ o → relvar_named front name ≡ None
    by None q = q
    by (Some r) q = let there = named_before front back name r q in absurd (cc)

-- ---- parts of relvars

abbrev pub IsView : PlainRelvar → Type 0
IsView (base value constraints) = ⊥
IsView (view t kind) = Unit {0}
IsView (log o k last w) = ⊥

abbrev pub IsBaseRelvar : PlainRelvar → Type 0
IsBaseRelvar (base value constraints) = Unit {0}
IsBaseRelvar (view t kind) = ⊥
IsBaseRelvar (log o k last w) = ⊥

abbrev pub constraints_in : PlainRelvar → List Constraint
constraints_in (base value constraints) = constraints
constraints_in (view t kind) = []
constraints_in (log o k last w) = []

-- the expression of a view, and another of a base relvar
abbrev pub tree_in : Tree → PlainRelvar → Tree
tree_in other (base value constraints) = other
tree_in other (view t kind) = t
tree_in other (log o k last w) = other

module _ (some : Name → Bool) where
  -- none of some stands for a relvar or view
  abbrev pub AreNew : Entries → Type 0
  AreNew es = (name : Name) → some name ≡ true → relvar_named es name ≡ None

  pub new-clear : (es : Entries) → AreNew es → IsClear some (headings_of es)
  new-clear es new name one = heading_of_named es name ∙ ap (option_map relvar_heading) (new name one)

  -- ---- constraints

  -- where the name stands for a base relvar, it is none of some
  not-new : (es : Entries) (name : Name) → AreNew es → IsBase (relvar_named es name) → some name ≡ false
  not-new es name new is = by (some name) refl
    where
      by : (b : Bool) → some name ≡ b → some name ≡ false
      by true q = absurd (subst IsBase (new name q) is)
      by false q = q

  -- its own name aside
  not-other : (es : Entries) (own name : Name) (r : PlainRelvar) → AreNew es → IsBase (relvar_named (es ++ (own, r) ∷ []) name) → names_other some own name ≡ false
  not-other es own name r new is = by (bytes_eq own name) refl
    where
      behind : (ks : Entries) → bytes_eq own name ≡ false → relvar_named (ks ++ (own, r) ∷ []) name ≡ relvar_named ks name
      behind [] q = ap (λ (b : Bool). cond b (Some r) None) q
      behind (k ∷ ks) q = ap (λ (o : Option PlainRelvar). cond (bytes_eq k.0 name) (Some k.1) o) (behind ks q)

      by : (b : Bool) → bytes_eq own name ≡ b → names_other some own name ≡ false
      by true q = ap (λ (b : Bool). not b && some name) q
      by false q = ap (λ (b : Bool). not b && some name) q ∙ not-new es name new (subst IsBase (behind es q) is)

  constraint-new : (es : Entries) (own : Name) (r : PlainRelvar) (c : Constraint) → AreNew es → IsConstraint es own r c → references_other some own c ≡ false
  constraint-new es own r (Key k) new is = refl
  constraint-new es own r (Packed commalist) new is = refl
  constraint-new es own r (WhenUnpacked commalist k) new is = refl
  constraint-new es own r (UKey commalist k) new is = refl
  constraint-new es own r (Foreign commalist k name there) new is = not-other es own name r new is.0
  constraint-new es own r (History rule) new is =
      ap (λ (b : Bool). not (bytes_eq own rule.since) && b) (not-new es rule.since new is.0) ∙ and-none (not (bytes_eq own rule.since))
    where
      and-none : (b : Bool) → (b && false) ≡ false
      and-none true = refl
      and-none false = refl

  pub constraints-new : (es : Entries) (own : Name) (r : PlainRelvar) (cs : List Constraint) → AreNew es → All (IsConstraint es own r) cs → list_any (references_other some own) cs ≡ false
  constraints-new es own r [] new all = refl
  constraints-new es own r (c ∷ cs) new all =
      ap (λ (b : Bool). b || list_any (references_other some own) cs) (constraint-new es own r c new (All-head (IsConstraint es own r) c cs all))
      ∙ constraints-new es own r cs new (All-tail (IsConstraint es own r) c cs all)

  -- ---- entries

  base-new : (sizes : _) (es : Entries) (x : Name × PlainRelvar) (name : Name) (heading : Heading) (typed : List Constraint) → AreNew es → IsRelvar sizes es x.0 x.1
      → (name, base (record { heading = heading; rows = [] }) typed) ≡ emptied x → list_any (references_other some name) typed ≡ false
  base-new sizes es (own, base value cs) name heading typed new is e =
      let same : own ≡ name = ap (λ (y : Name × PlainRelvar). y.0) (sym e) in
      let all : cs ≡ typed = ap (λ (y : Name × PlainRelvar). constraints_in y.1) (sym e) in
      subst (λ (n : Name). list_any (references_other some n) typed ≡ false) same
      (subst (λ (l : List Constraint). list_any (references_other some own) l ≡ false) all (constraints-new es own (base value cs) cs new is.1))
  base-new sizes es (own, view t kind) name heading typed new is e = absurd (subst (λ (y : Name × PlainRelvar). IsView y.1) (sym e) tt)
  base-new sizes es (own, log o k last w) name heading typed new is e = absurd (subst (λ (y : Name × PlainRelvar). IsBaseRelvar y.1) e tt)

  view-new : (sizes : _) (es : Entries) (x : Name × PlainRelvar) (name : Name) (t : Tree) (kind : PlainKind) → AreNew es → IsRelvar sizes es x.0 x.1 → (name, view t kind) ≡ emptied x
      → names_any some t ≡ false
  view-new sizes es (own, base value cs) name t kind new is e = absurd (subst (λ (y : Name × PlainRelvar). IsView y.1) e tt)
  view-new sizes es (own, log o k last w) name t kind new is e = absurd (subst (λ (y : Name × PlainRelvar). IsView y.1) e tt)
  view-new sizes es (own, view u other) name t kind new is e =
      let same : u ≡ t = ap (λ (y : Name × PlainRelvar). tree_in t y.1) (sym e) in
      subst (λ (v : Tree). names_any some v ≡ false) same (typed-names some sizes (headings_of es) (new-clear es new) u is.0)

  base-left : (x : Name × PlainRelvar) (name : Name) (heading : Heading) (typed : List Constraint) → relvar_names_any some x.1 ≡ false
      → (name, base (record { heading = heading; rows = [] }) typed) ≡ emptied x → list_any (references_other some name) typed ≡ false
  base-left (own, base value cs) name heading typed none e =
      let all : cs ≡ typed = ap (λ (y : Name × PlainRelvar). constraints_in y.1) (sym e) in
      let unused : list_any (references_any some) typed ≡ false = subst (λ (l : List Constraint). list_any (references_any some) l ≡ false) all none in
      said-unused some (said_base name heading typed) (or_from (list_any (references_any some) typed) false unused refl) refl
  base-left (own, view t kind) name heading typed none e = absurd (subst (λ (y : Name × PlainRelvar). IsView y.1) (sym e) tt)
  base-left (own, log o k last w) name heading typed none e = absurd (subst (λ (y : Name × PlainRelvar). IsBaseRelvar y.1) e tt)

  view-left : (x : Name × PlainRelvar) (name : Name) (t : Tree) (kind : PlainKind) → relvar_names_any some x.1 ≡ false → (name, view t kind) ≡ emptied x → names_any some t ≡ false
  view-left (own, base value cs) name t kind none e = absurd (subst (λ (y : Name × PlainRelvar). IsView y.1) e tt)
  view-left (own, log o k last w) name t kind none e = absurd (subst (λ (y : Name × PlainRelvar). IsView y.1) e tt)
  view-left (own, view u other) name t kind none e =
      let same : u ≡ t = ap (λ (y : Name × PlainRelvar). tree_in t y.1) (sym e) in
      subst (λ (v : Tree). names_any some v ≡ false) same none

  module _ (w : State) (ds : List Said) (made : IsListedAs w ds) where
    -- ---- some names are new

    at-place : (e : Name × PlainRelvar) (d : Said) → IsWellMade w → AreNew w.relvars → In d ds → In e (entries_said d)
        → (x : Name × PlainRelvar) × (front : Entries) × (e ≡ emptied x) × AreNew front × IsRelvar (sizes_of w.ordinals) front x.0 x.1
    at-place e d well new i j =
        let here = entry-in w ds made e d i j in
        let place = placed-in (sizes_of w.ordinals) [] w.relvars here.0 well.relvars here.1 in
        (here.0, place.0, here.2, λ name one. named-front place.0 place.1 name (sym (ap (λ (l : Entries). relvar_named l name) place.2) ∙ new name one), place.3)

    pub unnamed-new : (d : Said) → IsWellMade w → AreNew w.relvars → In d ds → said_names_any some d ≡ false
    unnamed-new (said_ordinal name names) well new i = refl
    unnamed-new (said_base name heading typed) well new i =
        let at = at-place _ (said_base name heading typed) well new i (inl refl) in
        base-new (sizes_of w.ordinals) at.1 at.0 name heading typed at.3 at.4 at.2
    unnamed-new (said_view name t) well new i =
        let at = at-place _ (said_view name t) well new i (inl refl) in
        view-new (sizes_of w.ordinals) at.1 at.0 name t derived at.3 at.4 at.2
    unnamed-new (said_stored name t) well new i =
        let at = at-place _ (said_stored name t) well new i (inl refl) in
        view-new (sizes_of w.ordinals) at.1 at.0 name t stored at.3 at.4 at.2
    unnamed-new (said_history h) well new i = refl
    unnamed-new (said_rule name t) well new i =
        typed-test-names some (sizes_of w.ordinals) (headings_of w.relvars) (new-clear w.relvars new) t
        (all-member (λ (r : Name × Test). IsTypedTestFor w r.1) w.rules (name, t) well.rules (rule-in w ds made (name, t) (said_rule name t) i (inl refl)))

    -- ---- some names are used by nothing else

    not-used : (e : Name × PlainRelvar) (d : Said) → relvars_use w.relvars some ≡ false → some e.0 ≡ false → In d ds → In e (entries_said d)
        → (x : Name × PlainRelvar) × (e ≡ emptied x) × (relvar_names_any some x.1 ≡ false)
    not-used e d unused other i j =
        let here = entry-in w ds made e d i j in
        let own : some here.0.0 ≡ false = sym (ap (λ (y : Name × PlainRelvar). some y.0) here.2) ∙ other in
        let none : (not (some here.0.0) && relvar_names_any some here.0.1) ≡ false =
        any-member (λ (k : Name × PlainRelvar). not (some k.0) && relvar_names_any some k.1) w.relvars here.0 unused here.1 in
        (here.0, here.2, sym (ap (λ (b : Bool). not b && relvar_names_any some here.0.1) own) ∙ none)

    pub unnamed-left : (d : Said) → is_used w some ≡ false → ((name : Name) → In name (names_said d) → some name ≡ false) → In d ds → said_names_any some d ≡ false
    unnamed-left (said_ordinal name names) unused other i = refl
    unnamed-left (said_base name heading typed) unused other i =
        let parts = or_parts (relvars_use w.relvars some) (rules_use w.rules some) unused in
        let is = not-used _ (said_base name heading typed) parts.0 (other name (inl refl)) i (inl refl) in
        base-left is.0 name heading typed is.2 is.1
    unnamed-left (said_view name t) unused other i =
        let parts = or_parts (relvars_use w.relvars some) (rules_use w.rules some) unused in
        let is = not-used _ (said_view name t) parts.0 (other name (inl refl)) i (inl refl) in
        view-left is.0 name t derived is.2 is.1
    unnamed-left (said_stored name t) unused other i =
        let parts = or_parts (relvars_use w.relvars some) (rules_use w.rules some) unused in
        let is = not-used _ (said_stored name t) parts.0 (other name (inl refl)) i (inl refl) in
        view-left is.0 name t stored is.2 is.1
    unnamed-left (said_history h) unused other i = refl
    unnamed-left (said_rule name t) unused other i =
        let parts = or_parts (relvars_use w.relvars some) (rules_use w.rules some) unused in
        any-member (λ (r : Name × Test). test_names_any some r.1) w.rules (name, t) parts.1 (rule-in w ds made (name, t) (said_rule name t) i (inl refl))
