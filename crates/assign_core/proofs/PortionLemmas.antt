-- What the rows of a target at the points of a condition mean, and what they take.
--     rule_rows      an operator under USING whose operand has the heading of the node
--     AreNodesOf, portion_meant, portion_paid      a portion
--     portion_nodes, portion_for      its headings, and what a typed one keeps
--     name_stands      the name of the target
--     deletion_told, deletion_paid, deletion_headed      an assignment that is a deletion
use Rattle.std.proofs.Common.{◌≡◌, ℕ, ◌+◌, ◌≤◌, List, [], ◌∷◌, length, sym, ap, ap₂, subst, ◌∙◌, arith, None, Ok}
use Rattle.std.specs.Prelude.{slice_index_or}
use Rattle.std.specs.Bool.{IsTrue}
use Rattle.std.proofs.lemmas.List.{length-map}
use Rattle.base_core.specs.Outcomes.{then_give}
use Rattle.point_core.specs.Faults.{OrFault}
use Rattle.point_core.specs.declared.fault.Place.{Place}
use Rattle.value_core.specs.RowPacking.{packed, unpacked}
use Rattle.value_core.specs.declared.constraint.Constraint.{Constraint}
use Rattle.value_core.specs.declared.kind.Kind.{Kind}
use Rattle.value_core.specs.declared.kind.Kind.TheVariants.{Truth}
use Rattle.value_core.specs.Values.{Name, Heading, Row, Relation, IsRelation, most_rows, is_heading}
use Rattle.scalar_core.specs.Expressions.{Expr, read}
use Rattle.scalar_core.specs.Kinds.{IsTyped}
use Rattle.relation_core.specs.Answers.{under}
use Rattle.relation_core.specs.Operators.{restricted}
use Rattle.relation_core.specs.Parts.{no_attribute}
use Rattle.cell_core.specs.Costs.{bound}
use Rattle.tree_core.specs.Items.{PlainAssignment, read_assignment}
use Rattle.tree_core.specs.Relvars.{State, base, Entries, relvar_named, heading_if}
use Rattle.tree_core.specs.Trees.{named, restrict, using, heading_of}
use Rattle.meaning_core.specs.Meanings.{RowsMeant, Known, at_name, condition, limited, opened, closed, positions_of, names_at, meaning, plainly, known_in}
use Rattle.meaning_core.specs.Names.{IsFirstAt}
use Rattle.meaning_core.specs.Typing.{IsList, IsScalar, is_swept}
use Rattle.meaning_core.specs.Updates.{IsTypedAssignment}
use Rattle.meaning_core.specs.WellMade.{IsTypedFor, sizes_of}
use Rattle.meaning_core.proofs.EntryLemmas.{named_first}
use Rattle.meaning_core.proofs.LimitLemmas.{limited_few}
use Rattle.eval_using.specs.Cells.{cells_of_all}
use Rattle.eval_using.specs.Using.{around}
use Rattle.eval_using.proofs.ListLemmas.{positions_back}
use Rattle.algebra_core.specs.Costs.{Prices, tree_cost, price_of, prices_in, paid, rule_cost, known_of}
use Rattle.algebra_core.proofs.CostLemmas.{known_each}
use Rattle.assign_core.specs.declared.portion.Portion.{Portion}
use Rattle.assign_core.specs.declared.portion.Deletion.{Deletion}
use Rattle.assign_core.specs.Assignments.{seen_by, source_value}
use Rattle.assign_core.specs.Costs.{source_cost}
use Rattle.assign_core.specs.Portions.{PortionNodes, portion_of, portion_rows, portion_cost, deletion_of, IsNegation, IsPortionFor, IsDeletion, IsDeletionOf}
use Rattle.assign_core.proofs.InsertionLemmas.{target_meant}
use Rattle.assign_core.proofs.PointLemmas.{point_least}

-- the nodes have the heading of the target
pub record AreNodesOf (h : Heading) (n : PortionNodes) : Type 0 where
  pub heading : n.heading ≡ h
  pub headed : n.headed ≡ h
  pub given : n.given ≡ h

module _ (h : Heading) (commalist : List ℕ) (one : IsTrue (is_heading h)) (list : IsList h commalist) where
  -- what an operator that may have a fault gives of unpacked rows
  pub rule_rows : (place : Place) (op : List Row → OrFault (List Row)) (rows : List Row)
      → then_give (op (opened (around place h commalist) h rows)) (closed (around place h commalist) place h) ≡ then_give (op (unpacked commalist rows)) (λ points. limited place (packed commalist points))
  rule_rows place op rows = ap (λ (l : List ℕ). then_give (op (unpacked l rows)) (λ points. limited place (packed l points))) (positions_back h commalist one list)

  -- and what it takes
  pub rule_paid : (place : Place) (scalars : List Expr) (rows : List Row) → rule_cost (around place h commalist) h scalars rows ≡ bound (cells_of_all commalist scalars rows) (length commalist)
  rule_paid place scalars rows =
      ap₂ (λ (l : List ℕ) (k : ℕ). bound (cells_of_all l scalars rows) k) (positions_back h commalist one list) (length-map commalist (λ i. (slice_index_or h i no_attribute).0))

  module _ (target : Name) (rows : List Row) (place : Place) (n : PortionNodes) (c : Expr) (fit : AreNodesOf h n) where
    pub portion_meant : (known : Known) → ((at : Place) → meaning known plainly (named at h target) ≡ Ok rows)
        → meaning known plainly (portion_of place commalist n c target) ≡ portion_rows place commalist c rows
    portion_meant known stands =
        ap₂ (λ (a b : Heading). meaning known plainly (using place n.heading commalist (restrict n.at a c (named n.from b target)))) fit.headed fit.given
        ∙ (ap (λ (m : RowsMeant). then_give m (λ a. then_give (restricted (condition c) (opened (around place h commalist) h a)) (closed (around place h commalist) place h))) (stands n.from)
        ∙ rule_rows place (restricted (condition c)) rows)

    pub portion_paid : (prices : Prices) → ((at : Place) → meaning (known_of prices) plainly (named at h target) ≡ Ok rows)
        → portion_cost commalist c rows ≤ tree_cost prices plainly (portion_of place commalist n c target)
    portion_paid prices stands =
        let e : tree_cost prices plainly (portion_of place commalist n c target) ≡ price_of prices target + bound (cells_of_all commalist (c ∷ []) rows) (length commalist) =
        ap₂ (λ (a b : Heading). tree_cost prices plainly (using place n.heading commalist (restrict n.at a c (named n.from b target)))) fit.headed fit.given
        ∙ (ap (λ (m : RowsMeant). price_of prices target + paid m (rule_cost (around place h commalist) h (c ∷ []))) (stands n.from)
        ∙ ap (λ (k : ℕ). price_of prices target + k) (rule_paid place (c ∷ []) rows)) in
        let least = point_least commalist (cells_of_all commalist (c ∷ []) rows) in
        omega (arith, e, least)

-- ---- what is typed

module _ (s : State) (h : Heading) (place : Place) (target : Name) (n : PortionNodes) where
  pub portion_nodes : (commalist : List ℕ) (c : Expr) → IsTypedFor s (portion_of place commalist n c target) → n.heading ≡ h → AreNodesOf h n
  portion_nodes commalist c typed is =
      let headed : n.headed ≡ h = sym typed.2 ∙ is in
      record { heading = is; headed = headed; given = sym typed.0.1.headed ∙ headed }

  pub portion_for : (p : Portion) → IsTypedFor s (portion_of place p.commalist.now n (read p.condition.now) target) → AreNodesOf h n → IsPortionFor h p
  portion_for p typed fit =
      let e = read p.condition.now in
      let commalist = p.commalist.now in
      record {
        sizes = sizes_of s.ordinals;
        condition = subst (λ (g : Heading). IsScalar (sizes_of s.ordinals) g e Truth) fit.given typed.0.1.condition;
        list = subst (λ (g : Heading). IsList g commalist) fit.heading typed.1;
        swept =
            subst (λ (g : Heading). IsTrue (is_swept (positions_of g (names_at h commalist)) e)) fit.given
            (subst (λ (g : Heading). IsTrue (is_swept (positions_of n.given (names_at g commalist)) e)) fit.heading typed.3);
      }

-- what a typed condition negates is typed
pub negated_typed : (h : Heading) (e c : Expr) → IsNegation e c → IsTyped h e Truth → IsTyped h c Truth
negated_typed h e c negates typed =
    let whole = subst (λ (x : Expr). IsTyped h x Truth) negates.1 typed in
    subst (λ (k : Kind). IsTyped h c k) whole.2.0 whole.1

-- ---- the target

module _ (es : Entries) (target : Name) (at : ℕ) (value : Relation) (constraints : List Constraint) (first : IsFirstAt es target at (base value constraints)) (few : length value.rows ≤ most_rows) where
  abbrev seen : Entries
  seen = seen_by es es target

  pub name_stands : (place : Place) → meaning (known_in seen) plainly (named place value.heading target) ≡ Ok value.rows
  name_stands place =
      ap (λ (m : RowsMeant). then_give (at_name place m) (limited place)) (target_meant es target at value constraints first) ∙ limited_few place value.rows few

  pub name_priced : (place : Place) → meaning (known_of (prices_in seen)) plainly (named place value.heading target) ≡ Ok value.rows
  name_priced place = ap (λ (k : Known). meaning k plainly (named place value.heading target)) (known_each None [] seen) ∙ name_stands place

-- the heading of the expression that a target gets
pub headed_as : (s : State) (es : Entries) (b : PlainAssignment) (at : ℕ) (value : Relation) (constraints : List Constraint) → IsFirstAt es b.target at (base value constraints)
    → heading_of b.tree ≡ heading_if (relvar_named es b.target) → heading_of b.tree ≡ value.heading
headed_as s es b at value constraints first is = is ∙ ap heading_if (named_first es b.target at (base value constraints) first)

-- ---- a deletion

pub deletion_told : (s : State) (d : Deletion) (at : ℕ) (value : Relation) (constraints : List Constraint) → IsTypedAssignment s (read_assignment d.assignment.now) → IsDeletion d
    → IsFirstAt s.relvars d.assignment.now.target at (base value constraints) → IsRelation value → IsDeletionOf s.relvars d at value
deletion_told s d at value constraints typed is first relation =
    let es = s.relvars in
    let target = d.assignment.now.target in
    let place = d.kept.place in
    let commalist = d.kept.commalist.now in
    let c = read d.kept.condition.now in
    let n = is.nodes in
    let tree : IsTypedFor s (portion_of place commalist n c target) = subst (λ (b : PlainAssignment). IsTypedFor s b.tree) is.is typed.typed in
    let headed : n.heading ≡ value.heading = ap (λ (b : PlainAssignment). heading_of b.tree) (sym is.is) ∙ headed_as s es (read_assignment d.assignment.now) at value constraints first typed.headed in
    let fit = portion_nodes s value.heading place target n commalist c tree headed in
    let kept = portion_for s value.heading place target n d.kept tree fit in
    let meant = portion_meant value.heading commalist relation.headed kept.list target value.rows place n c fit (known_in (seen_by es es target)) (name_stands es target at value constraints first relation.few) in
    let taken = portion_paid value.heading commalist relation.headed kept.list target value.rows place n c fit (prices_in (seen_by es es target)) (name_priced es target at value constraints first relation.few) in
    let whole : source_cost es es (read_assignment d.assignment.now) ≡ source_cost es es (deletion_of place commalist n c target) = ap (source_cost es es) is.is in
    record {
      constraints = constraints;
      first = first;
      relation = relation;
      kept = kept;
      negates = is.negates;
      meant =
          ap (source_value es es) is.is
          ∙ (ap (under n.heading) meant ∙ ap (λ (g : Heading). under g (portion_rows place commalist c value.rows)) headed);
      paid = omega (arith, taken, whole);
    }
