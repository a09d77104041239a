-- What an assignment means that leaves its target's rows where a condition fails and adds changed ones, and what it takes.
--     changed_meant, changed_paid      rows with new values
--     union_meant, union_paid      two expressions united under USING
--     revision_told      an assignment that is a revision
use Rattle.std.proofs.Common.{◌≡◌, ℕ, ◌+◌, ◌≤◌, List, length, sym, ap, subst, ◌∙◌, arith, Option, Some, Ok, Err}
use Rattle.std.specs.Prelude.{slice_index_or}
use Rattle.std.specs.Bool.{IsTrue}
use Rattle.std.specs.List.{list_all}
use Rattle.std.proofs.lemmas.List.{length-map}
use Rattle.std.proofs.lemmas.Bool.{and_parts}
use Rattle.base_core.specs.Outcomes.{then_give}
use Rattle.point_core.specs.declared.fault.Place.{Place}
use Rattle.value_core.specs.RowPacking.{packed, unpacked}
use Rattle.value_core.specs.declared.constraint.Constraint.{Constraint}
use Rattle.value_core.specs.Values.{Name, Heading, Row, Relation, IsRelation, is_heading}
use Rattle.scalar_core.specs.Expressions.{Expr, read}
use Rattle.relation_core.specs.Answers.{under}
use Rattle.relation_core.specs.Operators.{extended, united}
use Rattle.relation_core.specs.Parts.{no_attribute}
use Rattle.cell_core.specs.Costs.{bound}
use Rattle.tree_core.specs.declared.tree.InfixWord.TheVariants.{Union}
use Rattle.tree_core.specs.Items.{PlainAssignment, read_assignment}
use Rattle.tree_core.specs.Relvars.{State, base, Entries}
use Rattle.tree_core.specs.Trees.{PlainSets, Tree, named, infix_of, extend, using, read_sets, heading_of}
use Rattle.meaning_core.specs.Meanings.{RowsMeant, Known, limited, positions_of, names_at, meaning, plainly, known_in}
use Rattle.meaning_core.specs.Names.{IsFirstAt}
use Rattle.meaning_core.specs.Rows.{extended_row}
use Rattle.meaning_core.specs.Typing.{IsExtension, IsList, are_in, is_part, is_swept}
use Rattle.meaning_core.specs.Updates.{IsTypedAssignment}
use Rattle.meaning_core.specs.WellMade.{IsTypedFor, sizes_of}
use Rattle.eval_using.specs.Cells.{cells_of_all, scalars_of}
use Rattle.eval_using.proofs.ListLemmas.{positions_back}
use Rattle.algebra_core.specs.Costs.{Prices, tree_cost, prices_in, paid, known_of}
use Rattle.assign_core.specs.declared.revision.Changed.{Changed}
use Rattle.assign_core.specs.declared.revision.Revision.{Revision}
use Rattle.assign_core.specs.Assignments.{seen_by, source_value}
use Rattle.assign_core.specs.Costs.{source_cost}
use Rattle.assign_core.specs.Portions.{PortionNodes, portion_of, point_cost, portion_cost, IsPortionFor}
use Rattle.assign_core.specs.Revisions.{ChangedNodes, RevisionNodes, changed_of, changed_rows, changed_cost, revision_of, changed_tree, left_of, taken_of, added_of, revised_rows, revision_cost, IsChangedFor, IsRevision, IsRevisionOf}
use Rattle.assign_core.proofs.PointLemmas.{point_least}
use Rattle.assign_core.proofs.PortionLemmas.{AreNodesOf, portion_meant, portion_paid, portion_nodes, portion_for, name_stands, name_priced, headed_as}

-- ---- steps

paid_more : (m : RowsMeant) (f g : List Row → ℕ) → ((rows : List Row) → f rows ≤ g rows) → paid m f ≤ paid m g
paid_more (Ok rows) f g h = h rows
paid_more (Err e) f g h = omega arith

-- ---- nodes whose operands have the heading of the target

module _ (h : Heading) (commalist : List ℕ) (one : IsTrue (is_heading h)) (list : IsList h commalist) where
  places_at : (a b : Heading) → a ≡ h → b ≡ h → positions_of b (names_at a commalist) ≡ commalist
  places_at a b p q = (λ t. positions_of (q t) (names_at (p t) commalist)) ∙ positions_back h commalist one list

  names_count : (a : Heading) → length (names_at a commalist) ≡ length commalist
  names_count a = length-map commalist (λ i. (slice_index_or a i no_attribute).0)

  module _ (place : Place) (n : ChangedNodes) (sets : PlainSets) (t : Tree) (mine : RowsMeant) (p : n.headed ≡ h) (q : heading_of t ≡ h) where
    pub changed_meant : (known : Known) → meaning known plainly t ≡ mine → meaning known plainly (changed_of place commalist n sets t) ≡ then_give mine (changed_rows h place commalist sets)
    changed_meant known is =
        λ i. then_give (is i) (λ r. then_give (extended (extended_row (q i) (p i) sets) (unpacked (places_at n.headed (heading_of t) p q i) r)) (λ points. limited place (packed (places_at n.headed n.headed p p i) points)))

    pub changed_paid : (prices : Prices) → meaning (known_of prices) plainly t ≡ mine → tree_cost prices plainly t + paid mine (changed_cost commalist sets) ≤ tree_cost prices plainly (changed_of place commalist n sets t)
    changed_paid prices is =
        let whole : List Row → ℕ = λ rows. bound (cells_of_all commalist (scalars_of sets) rows) (length commalist) in
        let e : tree_cost prices plainly (changed_of place commalist n sets t) ≡ tree_cost prices plainly t + paid mine whole =
        λ i. tree_cost prices plainly t + paid (is i) (λ rows. bound (cells_of_all (places_at n.headed (heading_of t) p q i) (scalars_of sets) rows) (names_count n.headed i)) in
        let less = paid_more mine (changed_cost commalist sets) whole (λ rows. point_least commalist (cells_of_all commalist (scalars_of sets) rows)) in
        omega (arith, e, less)

  module _ (place at : Place) (heading headed : Heading) (l r : Tree) (mine yours : RowsMeant) (p : headed ≡ h) (q : heading_of l ≡ h) (s : heading_of r ≡ h) where
    pub union_meant : (known : Known) → meaning known plainly l ≡ mine → meaning known plainly r ≡ yours
        → meaning known plainly (using place heading commalist (infix_of at headed Union l r)) ≡ then_give mine (λ a. then_give yours (λ b. limited place (packed commalist (united (unpacked commalist a) (unpacked commalist b)))))
    union_meant known is has =
        λ i. then_give (is i) (λ a. then_give (has i) (λ b.
        limited place (packed (places_at headed headed p p i) (united (unpacked (places_at headed (heading_of l) p q i) a) (unpacked (places_at headed (heading_of r) p s i) b)))))

    pub union_paid : (prices : Prices) → meaning (known_of prices) plainly l ≡ mine → meaning (known_of prices) plainly r ≡ yours
        → tree_cost prices plainly l + paid mine (λ a. tree_cost prices plainly r + paid yours (λ b. point_cost commalist (length a + length b)))
        ≤ tree_cost prices plainly (using place heading commalist (infix_of at headed Union l r))
    union_paid prices is has =
        let some : List Row → ℕ = λ a. tree_cost prices plainly r + paid yours (λ b. point_cost commalist (length a + length b)) in
        let whole : List Row → ℕ = λ a. tree_cost prices plainly r + paid yours (λ b. bound (length a + length b) (length commalist)) in
        let e : tree_cost prices plainly (using place heading commalist (infix_of at headed Union l r)) ≡ tree_cost prices plainly l + paid mine whole =
        λ i. tree_cost prices plainly l + paid (is i) (λ a. tree_cost prices plainly r + paid (has i) (λ b. bound (length a + length b) (names_count headed i))) in
        let less = paid_more mine some whole (λ a.
        let last = paid_more yours (λ b. point_cost commalist (length a + length b)) (λ b. bound (length a + length b) (length commalist)) (λ b. point_least commalist (length a + length b)) in
        omega (arith, last)) in
        omega (arith, e, less)

-- ---- what is typed

pub one_given : (o : Option Heading) (a b : Heading) → o ≡ Some a → o ≡ Some b → a ≡ b
one_given o a b e f = cc

module _ (s : State) (h : Heading) (target : Name) where
  -- the name stands for rows of one heading
  nodes_alike : (place other : Place) (commalist own : List ℕ) (n m : PortionNodes) (c e : Expr) → IsTypedFor s (portion_of place commalist n c target) → AreNodesOf h n → IsTypedFor s (portion_of other own m e target) → AreNodesOf h m
  nodes_alike place other commalist own n m c e typed fit too =
      let given : m.given ≡ h = one_given _ m.given n.given too.0.0 typed.0.0 ∙ fit.given in
      let headed : m.headed ≡ h = too.0.1.headed ∙ given in
      record { heading = too.2 ∙ headed; headed = headed; given = given }

  changed_for : (x : Changed) (n : ChangedNodes) (t : Tree) → IsTypedFor s (changed_of x.place x.commalist.now n (read_sets x.sets.now) t) → n.heading ≡ h → heading_of t ≡ h → IsPortionFor h x.portion → IsChangedFor h x
  changed_for x n t typed is of portion =
      let commalist = x.commalist.now in
      let sets = read_sets x.sets.now in
      let sizes = sizes_of s.ordinals in
      let headed : n.headed ≡ h = sym typed.2 ∙ is in
      let part = subst (λ (g : Heading). IsTrue (is_part (names_at g commalist) (extend n.at n.headed sets t))) is typed.3 in
      let first = and_parts _ _ part in
      let more = and_parts _ _ first.1 in
      record {
        sizes = sizes;
        extension = subst (λ (g : Heading). IsExtension sizes h g sets) headed (subst (λ (g : Heading). IsExtension sizes g n.headed sets) of typed.0.1);
        list = subst (λ (g : Heading). IsList g commalist) is typed.1;
        listed = subst (λ (g : Heading). IsTrue (are_in g (names_at h commalist) h)) headed (subst (λ (g : Heading). IsTrue (are_in n.headed (names_at h commalist) g)) of first.0);
        swept = record {
          swept = subst (λ (g : Heading). IsTrue (list_all (λ s. is_swept (positions_of g (names_at h commalist)) s.1) sets)) of more.0;
          kept = more.1;
        };
        portion = portion;
      }

-- ---- a revision

module _ (s : State) (r : Revision) (at : ℕ) (value : Relation) (constraints : List Constraint) (typed : IsTypedAssignment s (read_assignment r.assignment.now)) (is : IsRevision r)
    (first : IsFirstAt s.relvars r.assignment.now.target at (base value constraints)) (relation : IsRelation value) where
  abbrev es : Entries
  es = s.relvars

  abbrev h : Heading
  h = value.heading

  abbrev commalist : List ℕ
  commalist = r.commalist.now

  abbrev target : Name
  target = r.assignment.now.target

  abbrev place : Place
  place = r.assignment.now.tree.place

  abbrev top : Heading
  top = r.assignment.now.tree.heading

  abbrev n : RevisionNodes
  n = is.nodes

  abbrev not_c : Expr
  not_c = read r.kept.condition.now

  abbrev d : Expr
  d = read r.changed.portion.condition.now

  abbrev sets : PlainSets
  sets = read_sets r.changed.sets.now

  -- the expressions, by the list of the whole
  abbrev left : Tree
  left = portion_of r.kept.place commalist n.kept not_c target

  abbrev some : Tree
  some = portion_of r.changed.portion.place commalist n.changed.portion d target

  abbrev more : Tree
  more = changed_of r.changed.place commalist n.changed sets some

  same : read_assignment r.assignment.now ≡ revision_of place top commalist n left more target
  same =
      is.is
      ∙ (ap (λ (l : List ℕ). revision_of place top commalist n (portion_of r.kept.place l n.kept not_c target) (changed_tree r n.changed) target) is.alike.kept
      ∙ (ap (λ (l : List ℕ). revision_of place top commalist n left (changed_of r.changed.place r.changed.commalist.now n.changed sets (portion_of r.changed.portion.place l n.changed.portion d target)) target) is.alike.portion
      ∙ ap (λ (l : List ℕ). revision_of place top commalist n left (changed_of r.changed.place l n.changed sets (portion_of r.changed.portion.place l n.changed.portion d target)) target) is.alike.changed))

  tree : IsTypedFor s (revision_of place top commalist n left more target).tree
  tree = subst (λ (b : PlainAssignment). IsTypedFor s b.tree) same typed.typed

  whole : top ≡ h
  whole = ap (λ (b : PlainAssignment). heading_of b.tree) (sym same) ∙ headed_as s es (read_assignment r.assignment.now) at value constraints first typed.headed

  headed : n.headed ≡ h
  headed = sym tree.2 ∙ whole

  left_headed : n.kept.heading ≡ h
  left_headed = sym tree.0.2.1 ∙ headed

  more_headed : n.changed.heading ≡ h
  more_headed = sym tree.0.2.0 ∙ left_headed

  left_fit : AreNodesOf h n.kept
  left_fit = portion_nodes s h r.kept.place target n.kept commalist not_c tree.0.0 left_headed

  some_fit : AreNodesOf h n.changed.portion
  some_fit = nodes_alike s h target r.kept.place r.changed.portion.place commalist commalist n.kept n.changed.portion not_c d tree.0.0 left_fit tree.0.1.0.0

  more_inner : n.changed.headed ≡ h
  more_inner = sym tree.0.1.2 ∙ more_headed

  kept_for : IsPortionFor h r.kept
  kept_for =
      portion_for s h r.kept.place target n.kept r.kept
      (subst (λ (l : List ℕ). IsTypedFor s (portion_of r.kept.place l n.kept not_c target)) (sym is.alike.kept) tree.0.0) left_fit

  some_for : IsPortionFor h r.changed.portion
  some_for =
      portion_for s h r.changed.portion.place target n.changed.portion r.changed.portion
      (subst (λ (l : List ℕ). IsTypedFor s (portion_of r.changed.portion.place l n.changed.portion d target)) (sym (is.alike.portion ∙ is.alike.changed)) tree.0.1.0.0) some_fit

  more_for : IsChangedFor h r.changed
  more_for =
      changed_for s h target r.changed n.changed some
      (subst (λ (l : List ℕ). IsTypedFor s (changed_of r.changed.place l n.changed sets some)) (sym is.alike.changed) tree.0.1) more_headed some_fit.heading some_for

  listed : IsList h commalist
  listed = subst (λ (l : List ℕ). IsList h l) is.alike.kept kept_for.list

  -- ---- its meaning

  module _ (known : Known) (stands : (from : Place) → meaning known plainly (named from h target) ≡ Ok value.rows) where
    left_is : meaning known plainly left ≡ left_of r value.rows
    left_is = portion_meant h commalist relation.headed listed target value.rows r.kept.place n.kept not_c left_fit known stands

    some_is : meaning known plainly some ≡ taken_of r value.rows
    some_is = portion_meant h commalist relation.headed listed target value.rows r.changed.portion.place n.changed.portion d some_fit known stands

    more_is : meaning known plainly more ≡ then_give (taken_of r value.rows) (added_of h r)
    more_is = changed_meant h commalist relation.headed listed r.changed.place n.changed sets some (taken_of r value.rows) more_inner some_fit.heading known some_is

    whole_is : meaning known plainly (using place top commalist (infix_of n.at n.headed Union left more)) ≡ revised_rows h r value.rows
    whole_is = union_meant h commalist relation.headed listed place n.at top n.headed left more (left_of r value.rows) (then_give (taken_of r value.rows) (added_of h r)) headed left_headed more_headed known left_is more_is

  -- ---- its steps

  module _ (prices : Prices) (stands : (from : Place) → meaning (known_of prices) plainly (named from h target) ≡ Ok value.rows) where
    left_paid : portion_cost commalist not_c value.rows ≤ tree_cost prices plainly left
    left_paid = let e = portion_paid h commalist relation.headed listed target value.rows r.kept.place n.kept not_c left_fit prices stands in omega (arith, e)

    more_paid : portion_cost commalist d value.rows + paid (taken_of r value.rows) (changed_cost commalist sets) ≤ tree_cost prices plainly more
    more_paid =
        let e = portion_paid h commalist relation.headed listed target value.rows r.changed.portion.place n.changed.portion d some_fit prices stands in
        let f = changed_paid h commalist relation.headed listed r.changed.place n.changed sets some (taken_of r value.rows) more_inner some_fit.heading prices (some_is (known_of prices) stands) in
        omega (arith, e, f)

    -- what follows the rows that are left, by what is known of the others
    abbrev follows : List Row → ℕ
    follows a = (portion_cost commalist d value.rows + paid (taken_of r value.rows) (changed_cost commalist sets)) + paid (then_give (taken_of r value.rows) (added_of h r)) (λ b. point_cost commalist (length a + length b))

    abbrev own : List Row → ℕ
    own a = tree_cost prices plainly more + paid (then_give (taken_of r value.rows) (added_of h r)) (λ b. point_cost commalist (length a + length b))

    whole_paid : revision_cost h r value.rows ≤ tree_cost prices plainly (using place top commalist (infix_of n.at n.headed Union left more))
    whole_paid =
        let e = union_paid h commalist relation.headed listed place n.at top n.headed left more (left_of r value.rows) (then_give (taken_of r value.rows) (added_of h r)) headed left_headed more_headed prices
        (left_is (known_of prices) stands) (more_is (known_of prices) stands) in
        let less : paid (left_of r value.rows) follows ≤ paid (left_of r value.rows) own = paid_more (left_of r value.rows) follows own (λ a. let m = more_paid in omega (arith, m)) in
        let first = left_paid in
        omega (arith, e, less, first)

  pub revision_told : IsRevisionOf es r at value
  revision_told =
      let seen = seen_by es es target in
      let meant = whole_is (known_in seen) (name_stands es target at value constraints first relation.few) in
      let taken = whole_paid (prices_in seen) (name_priced es target at value constraints first relation.few) in
      let cost : source_cost es es (read_assignment r.assignment.now) ≡ source_cost es es (revision_of place top commalist n left more target) = ap (source_cost es es) same in
      record {
        constraints = constraints;
        first = first;
        relation = relation;
        alike = is.alike;
        negates = is.negates;
        kept = kept_for;
        changed = more_for;
        meant = ap (source_value es es) same ∙ (ap (under top) meant ∙ ap (λ (g : Heading). under g (revised_rows h r value.rows)) whole);
        steps = omega (arith, taken, cost);
      }
