-- Type checking of declarations, told by what their texts say, free names and room.
--     checked-says      what is checked says something, whose names are free and for which there is room
--     says-checked      and what so says something is checked
use Rattle.std.proofs.Common.{◌≡◌, false, List, [], ◌∷◌, length, Ok, refl, sym, ap, ◌∙◌, subst}
use Rattle.std.specs.Prelude.{◌<◌, ◌≤◌, ◌-◌, not, ◌||◌, nat_le, nat_lt}
use Rattle.std.specs.List.{IsDistinct}
use Rattle.std.specs.Str.{bytes_eq}
use Rattle.std.proofs.lemmas.Bool.{or_parts, or_from, not-true, leb-true, ltb-true, lt-ltb, le-leb}
use Rattle.base_core.specs.Outcomes.{then_give}
use Rattle.base_core.proofs.ListLemmas.{bytes_eq-sym}
use Rattle.point_core.specs.declared.fault.Code.TheVariants.{E11, E22}
use Rattle.point_core.specs.declared.fault.Place.{Place}
use Rattle.point_core.specs.Faults.{OrFault}
use Rattle.utd_syntax.specs.Plain as syntax
use Rattle.utd_syntax.specs.Plain.{Word, PointP, SomeNamesP, HeadingP, KeyP, ConstraintP, RelP, KeptP, TestP, VarFormP, StatementP}
use Rattle.value_core.specs.Limits.{most_ordinal_types, most_relvars, most_nodes, most_rules}
use Rattle.value_core.specs.Values.{Name, Heading}
use Rattle.scalar_typing.specs.Names.{point_type}
use Rattle.relation_typing.specs.Attributes.{name_typed}
use Rattle.relation_typing.specs.Headings.{heading_typed}
use Rattle.tree_core.specs.declared.declaration.HistoryData.{HistoryData}
use Rattle.tree_core.specs.Relvars.{State, derived}
use Rattle.tree_core.specs.Trees.{Tree, Test}
use Rattle.meaning_core.specs.Declarations.{ordinal_type, base_relvar, view_relvar}
use Rattle.node_typing.specs.Positions.{check}
use Rattle.tree_typing.specs.Kept.{kept_rel}
use Rattle.tree_typing.specs.Trees.{tree_typed, test_typed_in}
use Rattle.declaration_typing.specs.Constraints.{constraints_typed, few_constraints}
use Rattle.declaration_typing.specs.Histories.{relvars_named, facts_typed, attributes_named, room_for_three, history_declared}
use Rattle.declaration_typing.specs.KeptViews.{bases_named, kept_declared}
use Rattle.declaration_typing.specs.Names.{is_taken, new_name, room_for}
use Rattle.declaration_typing.specs.Nodes.{nodes_of, test_nodes}
use Rattle.declaration_typing.specs.Ordinals.{few_values, ordinal_declared}
use Rattle.declaration_typing.specs.Relvars.{relvar_declared}
use Rattle.declaration_typing.specs.Rules.{rule_scope, room_for_rule, rule_declared}
use Rattle.declaration_typing.specs.Views.{room_for_view, view_declared}
use Rattle.type_check.specs.Checks.{Plain, declare_ordinal, declare_base, declare_view, declare_kept, declare_history, declare_rule, giving, checked}
use Rattle.row_typing_laws.proofs.Parts.{parts-of, joined-of, check-holds, check-given}
use Rattle.typing_laws.specs.Saying.{Said, said_ordinal, said_base, said_view, said_stored, said_history, said_rule, Says, IsSaidHistory, IsSaidStored, IsDeclaration, names_said, plain_of, IsFree, HasRoom}
use Rattle.typing_laws.proofs.SameGiven.{ok-same}

-- what was given on the way
through : {A B P : Type 0} → (m : OrFault A) (g : A → OrFault B) (b : B) → then_give m g ≡ Ok b → ((a : A) → m ≡ Ok a → g a ≡ Ok b → P) → P
through m g b h k = let part = parts-of m g b h in k part.0 part.1 part.2

-- ---- names

free-one : (s : State) (name : Name) → is_taken s name ≡ false → IsFree s (name ∷ [])
unfolding IsDistinct
free-one s name free = ((free, tt), (tt, tt))

record AreNew (s : State) (v b d : Word) (view since during : Name) : Type 0 where
  pub view_typed : name_typed v ≡ Ok view
  pub since_typed : name_typed b ≡ Ok since
  pub during_typed : name_typed d ≡ Ok during
  pub free : IsFree s (since ∷ during ∷ view ∷ [])

module _ (s : State) where
  new-parts : (w : Word) (name : Name) → new_name s w ≡ Ok name → (name_typed w ≡ Ok name) × (is_taken s name ≡ false)
  new-parts w name h =
      let typed = parts-of (name_typed w) _ name h in
      let free = parts-of (check w.place E11 (not (is_taken s typed.0))) _ name typed.2 in
      let same : name ≡ typed.0 = ok-same name typed.0 (Ok typed.0) free.2 refl in
      (typed.1 ∙ free.2, ap (is_taken s) same ∙ not-true (is_taken s typed.0) (check-holds w.place E11 (not (is_taken s typed.0)) tt free.0 free.1))

  new-joined : (w : Word) (name : Name) → name_typed w ≡ Ok name → is_taken s name ≡ false → new_name s w ≡ Ok name
  new-joined w name typed free =
      joined-of (name_typed w) _ name name typed
      (joined-of (check w.place E11 (not (is_taken s name))) _ tt name (check-given w.place E11 (not (is_taken s name)) tt (ap not free)) refl)

  -- the names of a history
  three-free : (view since during : Name) → is_taken s view ≡ false → is_taken s since ≡ false → is_taken s during ≡ false
      → bytes_eq view since ≡ false → (bytes_eq view during || bytes_eq since during) ≡ false → IsFree s (since ∷ during ∷ view ∷ [])
  unfolding IsDistinct
  three-free view since during one two three second third =
      let parts = or_parts (bytes_eq view during) (bytes_eq since during) third in
      ((two, (three, (one, tt))), ((parts.1, (bytes_eq-sym since view ∙ second, tt)), ((bytes_eq-sym during view ∙ parts.0, tt), (tt, tt))))

  are-new : (v b d : Word) (view since during : Name) → (name_typed v ≡ Ok view) × (is_taken s view ≡ false) → (name_typed b ≡ Ok since) × (is_taken s since ≡ false)
      → (name_typed d ≡ Ok during) × (is_taken s during ≡ false) → bytes_eq view since ≡ false → (bytes_eq view during || bytes_eq since during) ≡ false
      → AreNew s v b d view since during
  are-new v b d view since during one two three second third = record {
    view_typed = one.0;
    since_typed = two.0;
    during_typed = three.0;
    free = three-free view since during one.1 two.1 three.1 second third;
  }

  named-parts : (v b d : Word) (names : Name × Name × Name) → relvars_named s v b d ≡ Ok names → AreNew s v b d names.0 names.1 names.2
  named-parts v b d names h =
      through (new_name s v) _ names h (λ view one h1.
      through (new_name s b) _ names h1 (λ since two h2.
      through (check b.place E11 (not (bytes_eq view since))) _ names h2 (λ _ second h3.
      through (new_name s d) _ names h3 (λ during three h4.
      through (check d.place E11 (not (bytes_eq view during || bytes_eq since during))) _ names h4 (λ _ third last.
      subst (λ (n : Name × Name × Name). AreNew s v b d n.0 n.1 n.2) (ok-same (view, since, during) names (Ok (view, since, during)) refl last)
      (are-new v b d view since during (new-parts v view one) (new-parts b since two) (new-parts d during three)
      (not-true (bytes_eq view since) (check-holds b.place E11 (not (bytes_eq view since)) tt _ second))
      (not-true (bytes_eq view during || bytes_eq since during) (check-holds d.place E11 (not (bytes_eq view during || bytes_eq since during)) tt _ third))))))))

  named-joined : (v b d : Word) (view since during : Name) → name_typed v ≡ Ok view → name_typed b ≡ Ok since → name_typed d ≡ Ok during → IsFree s (since ∷ during ∷ view ∷ [])
      → relvars_named s v b d ≡ Ok (view, since, during)
  unfolding IsDistinct
  named-joined v b d view since during one two three free =
      let second : bytes_eq view since ≡ false = bytes_eq-sym view since ∙ free.1.0.1.0 in
      let third : (bytes_eq view during || bytes_eq since during) ≡ false =
      or_from (bytes_eq view during) (bytes_eq since during) (bytes_eq-sym view during ∙ free.1.1.0.0) free.1.0.0 in
      joined-of (new_name s v) _ view (view, since, during) (new-joined v view one free.0.1.1.0)
      (joined-of (new_name s b) _ since (view, since, during) (new-joined b since two free.0.0)
      (joined-of (check b.place E11 (not (bytes_eq view since))) _ tt (view, since, during) (check-given b.place E11 (not (bytes_eq view since)) tt (ap not second))
      (joined-of (new_name s d) _ during (view, since, during) (new-joined d during three free.0.1.0)
      (joined-of (check d.place E11 (not (bytes_eq view during || bytes_eq since during))) _ tt (view, since, during)
      (check-given d.place E11 (not (bytes_eq view during || bytes_eq since during)) tt (ap not third)) refl))))

-- ---- what is given

given-by : {A : Type 0} → (k : A → Plain) (typed : OrFault A) (x : A) (p : Plain) → giving k typed ≡ Ok p → typed ≡ Ok x → p ≡ k x
given-by k typed x p h e = ok-same p (k x) (giving k typed) h (ap (giving k) e)

-- what a checked declaration says
abbrev pub IsSaid : State → StatementP → Plain → Type 0
IsSaid s tree p = (d : Said) × Says s tree d × IsFree s (names_said d) × HasRoom s d × (p ≡ plain_of d)

module _ (s : State) where
  ordinal-says : (at : Place) (w : Word) (values : SomeNamesP) (p : Plain) → checked s (syntax.DeclareOrdinal at w values) ≡ Ok p → IsSaid s (syntax.DeclareOrdinal at w values) p
  unfolding ordinal_declared
  ordinal-says at w values p h =
      let d = parts-of (ordinal_declared s w values) _ p h in
      let name = parts-of (new_name s w) _ d.0 d.1 in
      let names = parts-of (few_values values) _ d.0 name.2 in
      let room = parts-of (check w.place E22 (nat_lt (length s.ordinals) most_ordinal_types)) _ d.0 names.2 in
      let is = new-parts s w name.0 name.1 in (
        said_ordinal name.0 names.0,
        (is.0, names.1),
        free-one s name.0 is.1,
        ltb-true (length s.ordinals) most_ordinal_types (check-holds w.place E22 (nat_lt (length s.ordinals) most_ordinal_types) tt room.0 room.1),
        given-by declare_ordinal (ordinal_declared s w values) (ordinal_type name.0 names.0) p h (d.1 ∙ sym room.2),
      )

  base-says : (at : Place) (w : Word) (there : Place) (g : HeadingP) (cs : List ConstraintP) (p : Plain) → checked s (syntax.DeclareRelvar at w (syntax.BaseRelvar there g cs)) ≡ Ok p
      → IsSaid s (syntax.DeclareRelvar at w (syntax.BaseRelvar there g cs)) p
  unfolding relvar_declared
  base-says at w there g cs p h =
      let d = parts-of (relvar_declared s w g cs) _ p h in
      let name = parts-of (new_name s w) _ d.0 d.1 in
      let heading = parts-of (heading_typed s.ordinals g) _ d.0 name.2 in
      let typed = parts-of (constraints_typed s name.0 heading.0 [] cs) _ d.0 heading.2 in
      let few = parts-of (few_constraints cs) _ d.0 typed.2 in
      let room = parts-of (room_for s w.place) _ d.0 few.2 in
      let is = new-parts s w name.0 name.1 in (
        said_base name.0 heading.0 typed.0,
        (is.0, heading.1, typed.1, few.1),
        free-one s name.0 is.1,
        ltb-true (length s.relvars) most_relvars (check-holds w.place E22 (nat_lt (length s.relvars) most_relvars) tt room.0 room.1),
        given-by declare_base (relvar_declared s w g cs) (base_relvar name.0 heading.0 typed.0) p h (d.1 ∙ sym room.2),
      )

  view-says : (at : Place) (w : Word) (there : Place) (rel : RelP) (p : Plain) → checked s (syntax.DeclareRelvar at w (syntax.View there rel)) ≡ Ok p
      → IsSaid s (syntax.DeclareRelvar at w (syntax.View there rel)) p
  unfolding view_declared
  view-says at w there rel p h =
      let d = parts-of (view_declared s w rel) _ p h in
      let name = parts-of (new_name s w) _ d.0 d.1 in
      let t = parts-of (tree_typed s rel) _ d.0 name.2 in
      let rooms = parts-of (room_for_view s w.place t.0) _ d.0 t.2 in
      let few = parts-of (check w.place E22 (nat_le (nodes_of s.relvars t.0) most_nodes)) _ rooms.0 rooms.1 in
      let is = new-parts s w name.0 name.1 in (
        said_view name.0 t.0,
        (is.0, t.1),
        free-one s name.0 is.1,
        (
          ltb-true (length s.relvars) most_relvars (check-holds w.place E22 (nat_lt (length s.relvars) most_relvars) tt rooms.0 few.2),
          leb-true (nodes_of s.relvars t.0) most_nodes (check-holds w.place E22 (nat_le (nodes_of s.relvars t.0) most_nodes) tt few.0 few.1),
        ),
        given-by declare_view (view_declared s w rel) (view_relvar name.0 t.0 derived) p h (d.1 ∙ sym rooms.2),
      )

  stored-says : (at : Place) (w : Word) (there : Place) (kept : KeptP) (p : Plain) → checked s (syntax.DeclareRelvar at w (syntax.Kept there kept)) ≡ Ok p
      → IsSaid s (syntax.DeclareRelvar at w (syntax.Kept there kept)) p
  unfolding kept_declared
  stored-says at w there kept p h =
      let d = parts-of (kept_declared s w kept) _ p h in
      let name = parts-of (new_name s w) _ d.0 d.1 in
      let bases = parts-of (bases_named s kept) _ d.0 name.2 in
      let t = parts-of (tree_typed s (kept_rel kept)) _ d.0 bases.2 in
      let rooms = parts-of (room_for_view s w.place t.0) _ d.0 t.2 in
      let few = parts-of (check w.place E22 (nat_le (nodes_of s.relvars t.0) most_nodes)) _ rooms.0 rooms.1 in
      let is = new-parts s w name.0 name.1 in (
        said_stored name.0 t.0,
        record { view = is.0; last = bases.0; bases = bases.1; tree = t.1 },
        free-one s name.0 is.1,
        (
          ltb-true (length s.relvars) most_relvars (check-holds w.place E22 (nat_lt (length s.relvars) most_relvars) tt rooms.0 few.2),
          leb-true (nodes_of s.relvars t.0) most_nodes (check-holds w.place E22 (nat_le (nodes_of s.relvars t.0) most_nodes) tt few.0 few.1),
        ),
        given-by (λ (v : Name × Tree). declare_kept v.0 v.1) (kept_declared s w kept) (name.0, t.0) p h (d.1 ∙ sym rooms.2),
      )

  rule-says : (at : Place) (w : Word) (test : TestP) (p : Plain) → checked s (syntax.DeclareRule at w test) ≡ Ok p → IsSaid s (syntax.DeclareRule at w test) p
  unfolding rule_declared
  rule-says at w test p h =
      let d = parts-of (rule_declared s w test) _ p h in
      let name = parts-of (new_name s w) _ d.0 d.1 in
      let t = parts-of (test_typed_in (rule_scope s) test) _ d.0 name.2 in
      let rooms = parts-of (room_for_rule s w.place t.0) _ d.0 t.2 in
      let few = parts-of (check w.place E22 (nat_le (test_nodes s.relvars t.0) most_nodes)) _ rooms.0 rooms.1 in
      let is = new-parts s w name.0 name.1 in (
        said_rule name.0 t.0,
        (is.0, t.1),
        free-one s name.0 is.1,
        (
          leb-true (test_nodes s.relvars t.0) most_nodes (check-holds w.place E22 (nat_le (test_nodes s.relvars t.0) most_nodes) tt few.0 few.1),
          ltb-true (length s.rules) most_rules (check-holds w.place E22 (nat_lt (length s.rules) most_rules) tt rooms.0 few.2),
        ),
        given-by (λ (r : Name × Test). declare_rule r.0 r.1) (rule_declared s w test) (name.0, t.0) p h (d.1 ∙ sym rooms.2),
      )

  history-says : (at : Place) (v : Word) (g : HeadingP) (key : KeyP) (b w d i : Word) (t : PointP) (p : Plain) → checked s (syntax.DeclareHistory at v g key b w d i t) ≡ Ok p
      → IsSaid s (syntax.DeclareHistory at v g key b w d i t) p
  unfolding history_declared
  history-says at v g key b w d i t p h =
      through (history_declared s at v g key b w d i t) _ p h (λ made given _.
      through (relvars_named s v b d) _ made given (λ names one h1.
      through (facts_typed s.ordinals g key) _ made h1 (λ facts two h2.
      through (point_type s.ordinals t) _ made h2 (λ over three h3.
      through (attributes_named facts.0 w i) _ made h3 (λ ends four h4.
      through (room_for_three s v.place) _ made h4 (λ _ room last.
      let all : HistoryData = record {
        view = names.0;
        since = names.1;
        point = ends.0;
        during = names.2;
        span = ends.1;
        heading = facts.0;
        key = facts.1;
        over = over;
        place = at;
      } in
      let is : AreNew s v b d names.0 names.1 names.2 = named-parts s v b d names one in (
        said_history all,
        record { view = is.view_typed; since = is.since_typed; during = is.during_typed; facts = two; over = three; ends = four; place = refl },
        is.free,
        leb-true (length s.relvars) (most_relvars - 3) (check-holds v.place E22 (nat_le (length s.relvars) (most_relvars - 3)) tt _ room),
        given-by declare_history (history_declared s at v g key b w d i t) all p h (given ∙ sym last),
      )))))))

  pub checked-says : (tree : StatementP) (p : Plain) → checked s tree ≡ Ok p → IsDeclaration tree → IsSaid s tree p
  checked-says syntax.Nothing p h is = absurd is
  checked-says (syntax.DeclareOrdinal at w values) p h is = ordinal-says at w values p h
  checked-says (syntax.DeclareRelvar at w (syntax.BaseRelvar there g cs)) p h is = base-says at w there g cs p h
  checked-says (syntax.DeclareRelvar at w (syntax.View there rel)) p h is = view-says at w there rel p h
  checked-says (syntax.DeclareRelvar at w (syntax.Kept there kept)) p h is = stored-says at w there kept p h
  checked-says (syntax.DeclareLog at log source attribute) p h is = absurd is
  checked-says (syntax.DeclareHistory at v g key b w d i t) p h is = history-says at v g key b w d i t p h
  checked-says (syntax.DeclareRule at w test) p h is = rule-says at w test p h
  checked-says (syntax.Drop at w) p h is = absurd is
  checked-says (syntax.DropRule at con w) p h is = absurd is
  checked-says (syntax.Print at rel) p h is = absurd is
  checked-says (syntax.Ask at test) p h is = absurd is
  checked-says (syntax.Assignment assignment) p h is = absurd is

  -- ---- and back

  says-ordinal : (w : Word) (values : SomeNamesP) (name : Name) (names : List Name) → name_typed w ≡ Ok name → few_values values ≡ Ok names → is_taken s name ≡ false
      → length s.ordinals < most_ordinal_types → ordinal_declared s w values ≡ Ok (ordinal_type name names)
  unfolding ordinal_declared
  says-ordinal w values name names typed few free room =
      joined-of (new_name s w) _ name (ordinal_type name names) (new-joined s w name typed free)
      (joined-of (few_values values) _ names (ordinal_type name names) few
      (joined-of (check w.place E22 (nat_lt (length s.ordinals) most_ordinal_types)) _ tt (ordinal_type name names)
      (check-given w.place E22 (nat_lt (length s.ordinals) most_ordinal_types) tt (lt-ltb (length s.ordinals) most_ordinal_types room)) refl))

  room-holds : (place : Place) → length s.relvars < most_relvars → room_for s place ≡ Ok tt
  room-holds place room = check-given place E22 (nat_lt (length s.relvars) most_relvars) tt (lt-ltb (length s.relvars) most_relvars room)

  says-base : (w : Word) (g : HeadingP) (cs : List ConstraintP) (name : Name) (heading : Heading) (typed : List _) → name_typed w ≡ Ok name → heading_typed s.ordinals g ≡ Ok heading
      → constraints_typed s name heading [] cs ≡ Ok typed → few_constraints cs ≡ Ok tt → is_taken s name ≡ false → length s.relvars < most_relvars
      → relvar_declared s w g cs ≡ Ok (base_relvar name heading typed)
  unfolding relvar_declared
  says-base w g cs name heading typed one two three few free room =
      joined-of (new_name s w) _ name (base_relvar name heading typed) (new-joined s w name one free)
      (joined-of (heading_typed s.ordinals g) _ heading (base_relvar name heading typed) two
      (joined-of (constraints_typed s name heading [] cs) _ typed (base_relvar name heading typed) three
      (joined-of (few_constraints cs) _ tt (base_relvar name heading typed) few
      (joined-of (room_for s w.place) _ tt (base_relvar name heading typed) (room-holds w.place room) refl))))

  says-view : (w : Word) (rel : RelP) (name : Name) (t : Tree) → name_typed w ≡ Ok name → tree_typed s rel ≡ Ok t → is_taken s name ≡ false → length s.relvars < most_relvars
      → nodes_of s.relvars t ≤ most_nodes → view_declared s w rel ≡ Ok (view_relvar name t derived)
  unfolding view_declared
  says-view w rel name t one two free room few =
      joined-of (new_name s w) _ name (view_relvar name t derived) (new-joined s w name one free)
      (joined-of (tree_typed s rel) _ t (view_relvar name t derived) two
      (joined-of (room_for_view s w.place t) _ tt (view_relvar name t derived)
      (joined-of (check w.place E22 (nat_le (nodes_of s.relvars t) most_nodes)) _ tt tt
      (check-given w.place E22 (nat_le (nodes_of s.relvars t) most_nodes) tt (le-leb (nodes_of s.relvars t) most_nodes few)) (room-holds w.place room)) refl))

  says-stored : (w : Word) (kept : KeptP) (name : Name) (t : Tree) → IsSaidStored s w kept name t → is_taken s name ≡ false → length s.relvars < most_relvars
      → nodes_of s.relvars t ≤ most_nodes → kept_declared s w kept ≡ Ok (name, t)
  unfolding kept_declared
  says-stored w kept name t is free room few =
      joined-of (new_name s w) _ name (name, t) (new-joined s w name is.view free)
      (joined-of (bases_named s kept) _ is.last (name, t) is.bases
      (joined-of (tree_typed s (kept_rel kept)) _ t (name, t) is.tree
      (joined-of (room_for_view s w.place t) _ tt (name, t)
      (joined-of (check w.place E22 (nat_le (nodes_of s.relvars t) most_nodes)) _ tt tt
      (check-given w.place E22 (nat_le (nodes_of s.relvars t) most_nodes) tt (le-leb (nodes_of s.relvars t) most_nodes few)) (room-holds w.place room)) refl)))

  says-rule : (w : Word) (test : TestP) (name : Name) (t : Test) → name_typed w ≡ Ok name → test_typed_in (rule_scope s) test ≡ Ok t → is_taken s name ≡ false
      → test_nodes s.relvars t ≤ most_nodes → length s.rules < most_rules → rule_declared s w test ≡ Ok (name, t)
  unfolding rule_declared
  says-rule w test name t one two free few room =
      joined-of (new_name s w) _ name (name, t) (new-joined s w name one free)
      (joined-of (test_typed_in (rule_scope s) test) _ t (name, t) two
      (joined-of (room_for_rule s w.place t) _ tt (name, t)
      (joined-of (check w.place E22 (nat_le (test_nodes s.relvars t) most_nodes)) _ tt tt
      (check-given w.place E22 (nat_le (test_nodes s.relvars t) most_nodes) tt (le-leb (test_nodes s.relvars t) most_nodes few))
      (check-given w.place E22 (nat_lt (length s.rules) most_rules) tt (lt-ltb (length s.rules) most_rules room))) refl))

  says-history : (at : Place) (v : Word) (g : HeadingP) (key : KeyP) (b p d i : Word) (t : PointP) (made : HistoryData) → IsSaidHistory s at v g key b p d i t made
      → IsFree s (made.since ∷ made.during ∷ made.view ∷ []) → length s.relvars ≤ most_relvars - 3 → history_declared s at v g key b p d i t ≡ Ok made
  unfolding history_declared
  says-history at v g key b p d i t made is free room =
      joined-of (relvars_named s v b d) _ (made.view, made.since, made.during) made (named-joined s v b d made.view made.since made.during is.view is.since is.during free)
      (joined-of (facts_typed s.ordinals g key) _ (made.heading, made.key) made is.facts
      (joined-of (point_type s.ordinals t) _ made.over made is.over
      (joined-of (attributes_named made.heading p i) _ (made.point, made.span) made is.ends
      (joined-of (room_for_three s v.place) _ tt made
      (check-given v.place E22 (nat_le (length s.relvars) (most_relvars - 3)) tt (le-leb (length s.relvars) (most_relvars - 3) room))
      (ap (λ (place : Place). Ok (record made { place = place })) (sym is.place))))))

  gives-by : {A : Type 0} → (k : A → Plain) (typed : OrFault A) (x : A) → typed ≡ Ok x → giving k typed ≡ Ok (k x)
  gives-by k typed x e = ap (giving k) e

  pub says-checked : (tree : StatementP) (d : Said) → Says s tree d → IsFree s (names_said d) → HasRoom s d → checked s tree ≡ Ok (plain_of d)
  says-checked (syntax.DeclareOrdinal at w values) (said_ordinal name names) says free room =
      gives-by declare_ordinal (ordinal_declared s w values) (ordinal_type name names) (says-ordinal w values name names says.0 says.1 free.0.0 room)
  says-checked (syntax.DeclareRelvar at w (syntax.BaseRelvar there g cs)) (said_base name heading typed) says free room =
      gives-by declare_base (relvar_declared s w g cs) (base_relvar name heading typed) (says-base w g cs name heading typed says.0 says.1 says.2 says.3 free.0.0 room)
  says-checked (syntax.DeclareRelvar at w (syntax.View there rel)) (said_view name t) says free room =
      gives-by declare_view (view_declared s w rel) (view_relvar name t derived) (says-view w rel name t says.0 says.1 free.0.0 room.0 room.1)
  says-checked (syntax.DeclareRelvar at w (syntax.Kept there kept)) (said_stored name t) says free room =
      gives-by (λ (v : Name × Tree). declare_kept v.0 v.1) (kept_declared s w kept) (name, t) (says-stored w kept name t says free.0.0 room.0 room.1)
  says-checked (syntax.DeclareHistory at v g key b p d i t) (said_history made) says free room =
      gives-by declare_history (history_declared s at v g key b p d i t) made (says-history at v g key b p d i t made says free room)
  says-checked (syntax.DeclareRule at w test) (said_rule name t) says free room =
      gives-by (λ (r : Name × Test). declare_rule r.0 r.1) (rule_declared s w test) (name, t) (says-rule w test name t says.0 says.1 free.0.0 room.0 room.1)
  says-checked _ _ says free room = absurd says
