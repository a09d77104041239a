-- What changes by a condition without USING make of their targets: what those of the list of no attribute do.
--     plain_deletion_told, plain_revision_told      such changes
--     any_deletion_told, any_revision_told      changes under USING and without it
use Rattle.std.proofs.Common.{◌≡◌, inl, inr, ℕ, ◌+◌, List, [], length, refl, sym, ap, ap₂, subst, ◌∙◌, arith, Ok, Err}
use Rattle.base_core.specs.Outcomes.{then_give}
use Rattle.point_core.specs.declared.fault.Place.{Place}
use Rattle.value_core.specs.RowPacking.{packed, unpacked}
use Rattle.value_core.specs.declared.constraint.Constraint.{Constraint}
use Rattle.value_core.specs.declared.kind.Kind.TheVariants.{Truth}
use Rattle.value_core.specs.Values.{Name, Heading, Row, Relation, IsRelation}
use Rattle.scalar_core.specs.Expressions.{Expr, read}
use Rattle.relation_core.specs.Answers.{under}
use Rattle.relation_core.specs.Operators.{restricted, extended, united}
use Rattle.tree_core.specs.declared.tree.InfixWord.TheVariants.{Union}
use Rattle.tree_core.specs.Items.{PlainAssignment, read_assignment}
use Rattle.tree_core.specs.Relvars.{State, base, Entries}
use Rattle.tree_core.specs.Trees.{PlainSets, Tree, named, infix_of, restrict, read_sets, heading_of}
use Rattle.meaning_core.specs.Meanings.{RowsMeant, Known, condition, limited, meaning, meaning_in, plainly, known_in}
use Rattle.meaning_core.specs.Names.{IsFirstAt}
use Rattle.meaning_core.specs.Rows.{extended_row}
use Rattle.meaning_core.specs.Typing.{IsExtension, IsList, IsScalar}
use Rattle.meaning_core.specs.Updates.{IsTypedAssignment}
use Rattle.meaning_core.specs.WellMade.{IsTypedFor, sizes_of}
use Rattle.meaning_core.proofs.PositionLemmas.{no_list}
use Rattle.eval_using.specs.Using.{HasList, IsSweptBy, AreSweptBy}
use Rattle.algebra_core.specs.Costs.{paid}
use Rattle.assign_core.specs.declared.portion.Deletion.{Deletion}
use Rattle.assign_core.specs.declared.portion.Portion.{Portion}
use Rattle.assign_core.specs.declared.revision.Changed.{Changed}
use Rattle.assign_core.specs.declared.revision.Revision.{Revision}
use Rattle.assign_core.specs.Assignments.{seen_by, source_value}
use Rattle.assign_core.specs.PlainChanges.{RowNodes, NewNodes, rows_where, rows_with, plain_revision_of, IsAnyDeletion, IsAnyRevision, IsPlainDeletion, IsPlainRevision}
use Rattle.assign_core.specs.Portions.{point_cost, portion_rows, portion_cost, IsDeletionOf, IsPortionFor}
use Rattle.assign_core.specs.Revisions.{changed_rows, changed_cost, revision_cost, IsChangedFor, IsRevisionOf}
use Rattle.assign_core.proofs.PointLemmas.{plain_swept, plain_listed, plain_items}
use Rattle.assign_core.proofs.PortionLemmas.{name_stands, headed_as, deletion_told}
use Rattle.assign_core.proofs.RevisionLemmas.{one_given, revision_told}

-- ---- nodes whose operands have the heading of the target

-- the nodes have the heading of the target
pub record AreRowNodes (h : Heading) (n : RowNodes) : Type 0 where
  pub headed : n.headed ≡ h
  pub given : n.given ≡ h

module _ (h : Heading) (target : Name) (rows : List Row) (known : Known) (stands : (at : Place) → meaning known plainly (named at h target) ≡ Ok rows) where
  pub where_meant : (place : Place) (n : RowNodes) (c : Expr) → AreRowNodes h n → meaning known plainly (rows_where place n c target) ≡ portion_rows place [] c rows
  where_meant place n c fit =
      ap₂ (λ (a b : Heading). meaning known plainly (restrict place a c (named n.from b target))) fit.headed fit.given
      ∙ ap (λ (m : RowsMeant). then_give m (λ a. then_give (restricted (condition c) a) (limited place))) (stands n.from)

pub with_meant : (h : Heading) (place : Place) (n : NewNodes) (sets : PlainSets) (t : Tree) (mine : RowsMeant) (known : Known) → n.headed ≡ h → heading_of t ≡ h → meaning known plainly t ≡ mine
    → meaning known plainly (rows_with place n sets t) ≡ then_give mine (changed_rows h place [] sets)
with_meant h place n sets t mine known p q is = λ i. then_give (is i) (λ r. then_give (extended (extended_row (q i) (p i) sets) r) (limited place))

pub both_meant : (place : Place) (heading : Heading) (l r : Tree) (mine yours : RowsMeant) (known : Known) → meaning known plainly l ≡ mine → meaning known plainly r ≡ yours
    → meaning known plainly (infix_of place heading Union l r) ≡ then_give mine (λ a. then_give yours (λ b. limited place (united a b)))
both_meant place heading l r mine yours known is has = λ i. then_give (is i) (λ a. then_give (has i) (λ b. limited place (united a b)))

-- ---- what is typed

module _ (s : State) (h : Heading) (target : Name) where
  where_nodes : (place : Place) (n : RowNodes) (c : Expr) → IsTypedFor s (rows_where place n c target) → n.headed ≡ h → AreRowNodes h n
  where_nodes place n c typed is = record { headed = is; given = sym typed.1.headed ∙ is }

  -- the name stands for rows of one heading
  where_alike : (place other : Place) (n m : RowNodes) (c e : Expr) → IsTypedFor s (rows_where place n c target) → AreRowNodes h n → IsTypedFor s (rows_where other m e target) → AreRowNodes h m
  where_alike place other n m c e typed fit too =
      let given : m.given ≡ h = one_given _ m.given n.given too.0 typed.0 ∙ fit.given in
      record { headed = too.1.headed ∙ given; given = given }

  where_for : (p : Portion) (n : RowNodes) → p.commalist.now ≡ [] → IsTypedFor s (rows_where p.place n (read p.condition.now) target) → AreRowNodes h n → IsPortionFor h p
  where_for p n none typed fit = record {
    sizes = sizes_of s.ordinals;
    condition = subst (λ (g : Heading). IsScalar (sizes_of s.ordinals) g (read p.condition.now) Truth) fit.given typed.1.condition;
    list = subst (λ (l : List ℕ). IsList h l) (sym none) (no_list h);
    swept = subst (λ (l : List ℕ). IsSweptBy h l h (read p.condition.now)) (sym none) (plain_swept h h (read p.condition.now));
  }

  with_for : (x : Changed) (n : NewNodes) (t : Tree) → x.commalist.now ≡ [] → IsTypedFor s (rows_with x.place n (read_sets x.sets.now) t) → n.headed ≡ h → heading_of t ≡ h → IsPortionFor h x.portion
      → IsChangedFor h x
  with_for x n t none typed is of portion =
      let sets = read_sets x.sets.now in
      let sizes = sizes_of s.ordinals in
      record {
        sizes = sizes;
        extension = subst (λ (g : Heading). IsExtension sizes h g sets) is (subst (λ (g : Heading). IsExtension sizes g n.headed sets) of typed.1);
        list = subst (λ (l : List ℕ). IsList h l) (sym none) (no_list h);
        listed = subst (λ (l : List ℕ). HasList h l h) (sym none) (plain_listed h h);
        swept = subst (λ (l : List ℕ). AreSweptBy h l h sets) (sym none) (plain_items h h sets);
        portion = portion;
      }

-- ---- a deletion

pub plain_deletion_told : (s : State) (d : Deletion) (at : ℕ) (value : Relation) (constraints : List Constraint) → IsTypedAssignment s (read_assignment d.assignment.now) → IsPlainDeletion d
    → IsFirstAt s.relvars d.assignment.now.target at (base value constraints) → IsRelation value → IsDeletionOf s.relvars d at value
plain_deletion_told s d at value constraints typed is first relation =
    let es = s.relvars in
    let target = d.assignment.now.target in
    let place = d.kept.place in
    let c = read d.kept.condition.now in
    let n = is.kept.nodes in
    let a = read_assignment d.assignment.now in
    let tree : IsTypedFor s (rows_where place n c target) = subst (λ (t : Tree). IsTypedFor s t) is.kept.is typed.typed in
    let headed : n.headed ≡ value.heading = ap heading_of (sym is.kept.is) ∙ headed_as s es a at value constraints first typed.headed in
    let fit = where_nodes s value.heading target place n c tree headed in
    let meant = where_meant value.heading target value.rows (known_in (seen_by es es target)) (name_stands es target at value constraints first relation.few) place n c fit in
    let free : portion_cost d.kept.commalist.now c value.rows ≡ 0 = ap (λ (l : List ℕ). portion_cost l c value.rows) is.kept.listed in
    record {
      constraints = constraints;
      first = first;
      relation = relation;
      kept = where_for s value.heading target d.kept n is.kept.listed tree fit;
      negates = is.negates;
      meant =
          ap (λ (t : Tree). under (heading_of t) (meaning_in (seen_by es es target) t)) is.kept.is
          ∙ (ap (under n.headed) meant
          ∙ (ap (λ (g : Heading). under g (portion_rows place [] c value.rows)) headed
          ∙ ap (λ (l : List ℕ). under value.heading (portion_rows place l c value.rows)) (sym is.kept.listed)));
      paid = omega (arith, free);
    }

pub any_deletion_told : (s : State) (d : Deletion) (at : ℕ) (value : Relation) (constraints : List Constraint) → IsTypedAssignment s (read_assignment d.assignment.now) → IsAnyDeletion d
    → IsFirstAt s.relvars d.assignment.now.target at (base value constraints) → IsRelation value → IsDeletionOf s.relvars d at value
any_deletion_told s d at value constraints typed (inl is) first relation = deletion_told s d at value constraints typed is first relation
any_deletion_told s d at value constraints typed (inr is) first relation = plain_deletion_told s d at value constraints typed is first relation

-- ---- a revision

paid_none : (m : RowsMeant) (f : List Row → ℕ) → ((rows : List Row) → f rows ≡ 0) → paid m f ≡ 0
paid_none (Ok rows) f h = h rows
paid_none (Err e) f h = refl

module _ (s : State) (r : Revision) (at : ℕ) (value : Relation) (constraints : List Constraint) (typed : IsTypedAssignment s (read_assignment r.assignment.now)) (is : IsPlainRevision r)
    (first : IsFirstAt s.relvars r.assignment.now.target at (base value constraints)) (relation : IsRelation value) where
  abbrev es : Entries
  es = s.relvars

  abbrev h : Heading
  h = value.heading

  abbrev target : Name
  target = r.assignment.now.target

  abbrev place : Place
  place = r.assignment.now.tree.place

  abbrev top : Heading
  top = r.assignment.now.tree.heading

  abbrev kept : RowNodes
  kept = is.kept.nodes

  abbrev changed : NewNodes
  changed = is.changed.nodes

  abbrev not_c : Expr
  not_c = read r.kept.condition.now

  abbrev d : Expr
  d = read r.changed.portion.condition.now

  abbrev sets : PlainSets
  sets = read_sets r.changed.sets.now

  abbrev left : Tree
  left = rows_where r.kept.place kept not_c target

  abbrev some : Tree
  some = rows_where r.changed.portion.place changed.portion d target

  abbrev more : Tree
  more = rows_with r.changed.place changed sets some

  same : read_assignment r.assignment.now ≡ plain_revision_of place top left more target
  same = is.is ∙ ap₂ (λ (a b : Tree). plain_revision_of place top a b target) is.kept.is is.changed.is

  tree : IsTypedFor s (plain_revision_of place top left more target).tree
  tree = subst (λ (b : PlainAssignment). IsTypedFor s b.tree) same typed.typed

  whole : top ≡ h
  whole = ap (λ (b : PlainAssignment). heading_of b.tree) (sym same) ∙ headed_as s es (read_assignment r.assignment.now) at value constraints first typed.headed

  left_headed : kept.headed ≡ h
  left_headed = sym tree.2.1 ∙ whole

  more_headed : changed.headed ≡ h
  more_headed = sym tree.2.0 ∙ left_headed

  left_fit : AreRowNodes h kept
  left_fit = where_nodes s h target r.kept.place kept not_c tree.0 left_headed

  some_fit : AreRowNodes h changed.portion
  some_fit = where_alike s h target r.kept.place r.changed.portion.place kept changed.portion not_c d tree.0 left_fit tree.1.0

  -- ---- its meaning

  -- the rows that are left and added, at the points of a list
  abbrev left_at : List ℕ → RowsMeant
  left_at l = portion_rows r.kept.place l not_c value.rows

  abbrev taken_at : List ℕ → RowsMeant
  taken_at l = portion_rows r.changed.portion.place l d value.rows

  abbrev added_at : List ℕ → RowsMeant
  added_at l = then_give (taken_at l) (changed_rows h r.changed.place l sets)

  abbrev all_at : List ℕ → RowsMeant
  all_at l = then_give (left_at l) (λ a. then_give (added_at l) (λ b. limited place (packed l (united (unpacked l a) (unpacked l b)))))

  abbrev known : Known
  known = known_in (seen_by es es target)

  stands : (from : Place) → meaning known plainly (named from h target) ≡ Ok value.rows
  stands = name_stands es target at value constraints first relation.few

  left_is : meaning known plainly left ≡ left_at []
  left_is = where_meant h target value.rows known stands r.kept.place kept not_c left_fit

  some_is : meaning known plainly some ≡ taken_at []
  some_is = where_meant h target value.rows known stands r.changed.portion.place changed.portion d some_fit

  more_is : meaning known plainly more ≡ added_at []
  more_is = with_meant h r.changed.place changed sets some (taken_at []) known more_headed some_fit.headed some_is

  whole_is : meaning known plainly (infix_of place top Union left more) ≡ all_at []
  whole_is = both_meant place top left more (left_at []) (added_at []) known left_is more_is

  -- ---- its steps

  abbrev after : List ℕ → List Row → ℕ
  after l a = (portion_cost l d value.rows + paid (taken_at l) (changed_cost l sets)) + paid (added_at l) (λ b. point_cost l (length a + length b))

  abbrev cost_at : List ℕ → ℕ
  cost_at l = portion_cost l not_c value.rows + paid (left_at l) (after l)

  free : cost_at [] ≡ 0
  free =
      let changing : paid (taken_at []) (changed_cost [] sets) ≡ 0 = paid_none (taken_at []) (changed_cost [] sets) (λ rows. refl) in
      let last : (a : List Row) → paid (added_at []) (λ b. point_cost [] (length a + length b)) ≡ 0 = λ a. paid_none (added_at []) (λ b. point_cost [] (length a + length b)) (λ rows. refl) in
      let first : paid (left_at []) (after []) ≡ 0 = paid_none (left_at []) (after []) (λ a. let more = last a in omega (arith, changing, more)) in
      ap (λ (k : ℕ). portion_cost [] not_c value.rows + k) first

  pub plain_revision_told : IsRevisionOf es r at value
  plain_revision_told =
      let cost : revision_cost h r value.rows ≡ 0 = ap cost_at is.listed ∙ free in
      record {
        constraints = constraints;
        first = first;
        relation = relation;
        alike = record {
          kept = is.kept.listed ∙ sym is.listed;
          changed = is.changed.listed ∙ sym is.listed;
          portion = is.changed.portion ∙ sym is.changed.listed;
        };
        negates = is.negates;
        kept = where_for s h target r.kept kept is.kept.listed tree.0 left_fit;
        changed = with_for s h target r.changed changed some is.changed.listed tree.1 more_headed some_fit.headed (where_for s h target r.changed.portion changed.portion is.changed.portion tree.1.0 some_fit);
        meant = ap (source_value es es) same ∙ (ap (under top) whole_is ∙ (ap (λ (g : Heading). under g (all_at [])) whole ∙ ap (λ (l : List ℕ). under h (all_at l)) (sym is.listed)));
        steps = omega (arith, cost);
      }

pub any_revision_told : (s : State) (r : Revision) (at : ℕ) (value : Relation) (constraints : List Constraint) → IsTypedAssignment s (read_assignment r.assignment.now) → IsAnyRevision r
    → IsFirstAt s.relvars r.assignment.now.target at (base value constraints) → IsRelation value → IsRevisionOf s.relvars r at value
any_revision_told s r at value constraints typed (inl is) first relation = revision_told s r at value constraints typed is first relation
any_revision_told s r at value constraints typed (inr is) first relation = plain_revision_told s r at value constraints typed is first relation
