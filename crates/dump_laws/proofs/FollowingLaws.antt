-- A state that follows another, in which names that are none of some stand for the like.
--     IsFollowed      so it is of two well made states
--     said-stays, small-stays      what is said that names none of some is said there, and is as small
--     follows-new, follows-left, follows-rows      the state with what is said, without a relvar or view, and with other rows
use Rattle.std.proofs.Common.{◌≡◌, inl, inr, ℕ, ◌≤◌, Bool, true, false, not, List, [], ◌∷◌, ◌++◌, refl, sym, ap, ◌∙◌, subst, append-nil}
use Rattle.std.specs.Prelude.{◌&&◌}
use Rattle.std.proofs.lemmas.Bool.{true≢false}
use Rattle.base_core.proofs.SetLemmas.{In}
use Rattle.value_core.specs.Limits.{most_nodes}
use Rattle.value_core.specs.Values.{Name}
use Rattle.tree_core.specs.Relvars.{State, PlainKind, PlainRelvar, base, view, Entries, relvar_named, log, derived, stored}
use Rattle.tree_core.specs.Trees.{Tree, Test}
use Rattle.tree_core.specs.Uses.{names_any, relvar_names_any}
use Rattle.meaning_core.specs.Typing.{IsTypedTree}
use Rattle.meaning_core.specs.WellMade.{sizes_of, headings_of, IsRelvar, IsWellMade, IsTypedFor, IsTypedTestFor}
use Rattle.meaning_core.proofs.ElsewhereLemmas.{view_names, IsApart, left, left-append, left-gone, named-left, typed-names}
use Rattle.meaning_core.proofs.RowlessLemmas.{bare_all}
use Rattle.meaning_core.proofs.StaysTyped.{tree-behind}
use Rattle.meaning_laws.specs.Likeness.{Alike}
use Rattle.meaning_laws.proofs.SameMoved.{tree-same, test-same}
use Rattle.declaration_typing.specs.Drops.{relvars_use}
use Rattle.declaration_typing.specs.Nodes.{nodes_of, test_nodes}
use Rattle.typing_laws.specs.Saying.{Said, said_ordinal, said_base, said_view, said_stored, said_history, said_rule, said_names_any, entries_said}
use Rattle.typing_laws.proofs.LogsAlike.{logs-alike}
use Rattle.typing_laws.proofs.NodesAlike.{nodes-alike, test-nodes-alike}
use Rattle.typing_laws.proofs.SaysElsewhere.{says-stays}
use Rattle.dump_laws.specs.Kept.{IsSmall, IsListedAs}
use Rattle.part_laws.specs.Parts.{emptied}
use Rattle.dump_laws.proofs.MadeLaws.{entry-in, rule-in}
use Rattle.dump_laws.proofs.NamingLaws.{IsView, tree_in, AreNew, new-clear, any-member, all-member, placed-in, named-front}
use Rattle.dump_laws.proofs.EmptiedLaws.{like-equal, alike-rows}
use Rattle.dump_laws.proofs.TextLaws.{StaysSaid}

-- names that are none of some stand in r for the like
pub record IsFollowed (some : Name → Bool) (w r : State) : Type 0 where
  pub made : IsWellMade w
  pub then : IsWellMade r
  pub alike : Alike some w.relvars r.relvars
  pub apart : IsApart some w.relvars

-- ---- what is said

-- the expression of what is said is typed
abbrev pub IsTypedSaid : State → Said → Type 0
IsTypedSaid w (said_ordinal name names) = Unit {0}
IsTypedSaid w (said_base name heading typed) = Unit {0}
IsTypedSaid w (said_view name t) = IsTypedFor w t
IsTypedSaid w (said_stored name t) = IsTypedFor w t
IsTypedSaid w (said_history made) = Unit {0}
IsTypedSaid w (said_rule name t) = IsTypedTestFor w t

view-typed : (sizes : List ℕ) (front back : Entries) (x : Name × PlainRelvar) (name : Name) (t : Tree) (kind : PlainKind) → IsRelvar sizes front x.0 x.1 → (name, view t kind) ≡ emptied x
    → (es : Entries) → es ≡ front ++ back → IsTypedTree sizes (headings_of es) t
view-typed sizes front back (own, base value cs) name t kind is e es whole = absurd (subst (λ (y : Name × PlainRelvar). IsView y.1) e tt)
view-typed sizes front back (own, log o k last w) name t kind is e es whole = absurd (subst (λ (y : Name × PlainRelvar). IsView y.1) e tt)
view-typed sizes front back (own, view u other) name t kind is e es whole =
    let same : u ≡ t = ap (λ (y : Name × PlainRelvar). tree_in t y.1) (sym e) in
    subst (λ (l : Entries). IsTypedTree sizes (headings_of l) t) (sym whole)
    (subst (λ (v : Tree). IsTypedTree sizes (headings_of (front ++ back)) v) same (tree-behind sizes front back u is.0))

-- that of a view which is said
typed-in : (w : State) (ds : List Said) → IsListedAs w ds → IsWellMade w → (d : Said) (name : Name) (t : Tree) (kind : PlainKind) → In d ds → In (name, view t kind) (entries_said d) → IsTypedFor w t
typed-in w ds listed made d name t kind i j =
    let here = entry-in w ds listed (name, view t kind) d i j in
    let place = placed-in (sizes_of w.ordinals) [] w.relvars here.0 made.relvars here.1 in
    view-typed (sizes_of w.ordinals) place.0 place.1 here.0 name t kind place.3 here.2 w.relvars place.2

pub said-typed : (w : State) (ds : List Said) → IsListedAs w ds → IsWellMade w → (d : Said) → In d ds → IsTypedSaid w d
said-typed w ds listed made (said_ordinal name names) i = tt
said-typed w ds listed made (said_base name heading typed) i = tt
said-typed w ds listed made (said_view name t) i = typed-in w ds listed made (said_view name t) name t derived i (inl refl)
said-typed w ds listed made (said_stored name t) i = typed-in w ds listed made (said_stored name t) name t stored i (inl refl)
said-typed w ds listed made (said_history h) i = tt
said-typed w ds listed made (said_rule name t) i =
    all-member (λ (r : Name × Test). IsTypedTestFor w r.1) w.rules (name, t) made.rules (rule-in w ds listed (name, t) (said_rule name t) i (inl refl))

module _ (some : Name → Bool) (w r : State) (follows : IsFollowed some w r) where
  pub said-stays : (d : Said) → said_names_any some d ≡ false → StaysSaid w r d
  said-stays d none types tree says =
      says-stays some (record w { ordinals = types }) (record r { ordinals = types }) [] follows.alike (sym (append-nil types))
      (logs-alike some (sizes_of w.ordinals) (sizes_of r.ordinals) w.relvars r.relvars follows.made.relvars follows.then.relvars follows.alike follows.apart) tree d none says

  tree-stays : (t : Tree) → names_any some t ≡ false → IsTypedFor w t → nodes_of w.relvars t ≤ most_nodes → nodes_of r.relvars t ≤ most_nodes
  tree-stays t none typed small =
      subst (λ (n : ℕ). n ≤ most_nodes)
      (nodes-alike some (sizes_of w.ordinals) (sizes_of r.ordinals) w.relvars r.relvars follows.made.relvars follows.then.relvars follows.alike follows.apart (λ p. p)
      (sizes_of w.ordinals) t none typed
      ∙ ap (nodes_of r.relvars) (tree-same t)) small

  pub small-stays : (d : Said) → said_names_any some d ≡ false → IsTypedSaid w d → IsSmall w d → IsSmall r d
  small-stays (said_ordinal name names) none typed small = tt
  small-stays (said_base name heading cs) none typed small = tt
  small-stays (said_view name t) none typed small = tree-stays t none typed small
  small-stays (said_stored name t) none typed small = tree-stays t none typed small
  small-stays (said_history h) none typed small = tt
  small-stays (said_rule name t) none typed small =
      subst (λ (n : ℕ). n ≤ most_nodes)
      (test-nodes-alike some (sizes_of w.ordinals) (sizes_of r.ordinals) w.relvars r.relvars follows.made.relvars follows.then.relvars follows.alike follows.apart (λ p. p)
      (sizes_of w.ordinals) t none typed
      ∙ ap (test_nodes r.relvars) (test-same t)) small

-- ---- views that name none of some

apart-from : (some : Name → Bool) (es : Entries) → ((e : Name × PlainRelvar) → In e es → some e.0 ≡ false → view_names some e.1 ≡ false) → IsApart some es
apart-from some [] h = tt
apart-from some (e ∷ es) h = (h e (inl refl), apart-from some es (λ x i. h x (inr i)))

relvar-names : (some : Name → Bool) (sizes : List ℕ) (front : Entries) (own : Name) (r : PlainRelvar) → AreNew some front → IsRelvar sizes front own r → view_names some r ≡ false
relvar-names some sizes front own (base value cs) new is = refl
relvar-names some sizes front own (view t kind) new is = typed-names some sizes (headings_of front) (new-clear some front new) t is.0
relvar-names some sizes front own (log o k last w) new is = refl

apart-new : (some : Name → Bool) (w : State) → IsWellMade w → AreNew some w.relvars → IsApart some w.relvars
apart-new some w made new =
    apart-from some w.relvars (λ e i out.
    let place = placed-in (sizes_of w.ordinals) [] w.relvars e made.relvars i in
    relvar-names some (sizes_of w.ordinals) place.0 e.0 e.1
    (λ name one. named-front place.0 place.1 name (sym (ap (λ (l : Entries). relvar_named l name) place.2) ∙ new name one)) place.3)

view-unnamed : (some : Name → Bool) (r : PlainRelvar) → relvar_names_any some r ≡ false → view_names some r ≡ false
view-unnamed some (base value cs) e = refl
view-unnamed some (view t kind) e = e
view-unnamed some (log o k last w) e = refl

apart-left : (some : Name → Bool) (es : Entries) → relvars_use es some ≡ false → IsApart some es
apart-left some es unused =
    apart-from some es (λ e i out.
    view-unnamed some e.1
    (sym (ap (λ (b : Bool). not b && relvar_names_any some e.1) out)
    ∙ any-member (λ (k : Name × PlainRelvar). not (some k.0) && relvar_names_any some k.1) es e unused i))

-- ---- states that follow

-- entries of some behind the others
named-appended : (some : Name → Bool) (es more : Entries) → ((e : Name × PlainRelvar) → In e more → some e.0 ≡ true) → (name : Name) → some name ≡ false
    → relvar_named es name ≡ relvar_named (es ++ more) name
named-appended some es more own name out =
    let gone : left some more ≡ [] = all-gone more own in
    sym (named-left some es name out)
    ∙ (ap (λ (l : Entries). relvar_named l name) (sym (left-append some es more ∙ (ap (λ (l : Entries). left some es ++ l) gone ∙ append-nil (left some es))))
    ∙ named-left some (es ++ more) name out)
  where
    all-gone : (ks : Entries) → ((e : Name × PlainRelvar) → In e ks → some e.0 ≡ true) → left some ks ≡ []
    all-gone [] h = refl
    all-gone (k ∷ ks) h = left-gone some k ks (h k (inl refl)) ∙ all-gone ks (λ e i. h e (inr i))

pub follows-new : (some : Name → Bool) (w r : State) (more : Entries) → IsWellMade w → IsWellMade r → r.relvars ≡ w.relvars ++ more → AreNew some w.relvars
    → ((e : Name × PlainRelvar) → In e more → some e.0 ≡ true) → IsFollowed some w r
follows-new some w r more made then whole new own = record {
  made = made;
  then = then;
  alike = λ name out.
      like-equal (relvar_named w.relvars name) (relvar_named r.relvars name)
      (named-appended some w.relvars more own name out ∙ ap (λ (l : Entries). relvar_named l name) (sym whole));
  apart = apart-new some w made new;
}

pub follows-left : (some : Name → Bool) (w r : State) → IsWellMade w → IsWellMade r → r.relvars ≡ left some w.relvars → relvars_use w.relvars some ≡ false → IsFollowed some w r
follows-left some w r made then whole unused = record {
  made = made;
  then = then;
  alike = λ name out.
      like-equal (relvar_named w.relvars name) (relvar_named r.relvars name)
      (sym (named-left some w.relvars name out) ∙ ap (λ (l : Entries). relvar_named l name) (sym whole));
  apart = apart-left some w.relvars unused;
}

abbrev pub none_of_them : Name → Bool
none_of_them name = false

pub none-new : (es : Entries) → AreNew none_of_them es
none-new es name one = absurd (true≢false (sym one))

pub follows-rows : (w r : State) → IsWellMade w → IsWellMade r → bare_all r.relvars ≡ bare_all w.relvars → IsFollowed none_of_them w r
follows-rows w r made then same = record {
  made = made;
  then = then;
  alike = alike-rows none_of_them w.relvars r.relvars same;
  apart = apart-new none_of_them w made (none-new w.relvars);
}
