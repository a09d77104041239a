-- A statement that brings rows of constants is typed, and its only assignment makes of the relvars what the rows make.
--     plain-done      the law: where the name is that of a base relvar with this heading
use Rattle.std.proofs.Common.{◌≡◌, ◌≤◌, ◌+◌, ℕ, true, List, [], ◌∷◌, length, Option, Some, None, Ok, Err, refl, sym, ap, ◌∙◌, subst, arith}
use Rattle.std.specs.Prelude.{flat_map}
use Rattle.std.specs.Bool.{IsTrue}
use Rattle.point_core.specs.declared.fault.Place.{Place}
use Rattle.utd_syntax.specs.Plain.{Word, LiteralP, NameListP, StatementP}
use Rattle.value_core.specs.declared.constraint.Constraint.{Constraint}
use Rattle.value_core.specs.Values.{Name, Row, Heading, Relation, IsRelation, is_heading, most_rows, rows_of}
use Rattle.relation_core.specs.Answers.{under}
use Rattle.tree_core.specs.declared.tree.InfixWord.TheVariants.{Union}
use Rattle.tree_core.specs.Items.{PlainItem, PlainAssignment, set_to, insert}
use Rattle.tree_core.specs.Relvars.{PlainRelvar, base, Entries, State, relvar_named}
use Rattle.tree_core.specs.Trees.{PlainSets, Tree, literal}
use Rattle.relation_typing.specs.Attributes.{is_name}
use Rattle.meaning_core.specs.Meanings.{RowsMeant, limited, literal_rows, meaning_in}
use Rattle.meaning_core.specs.Names.{given}
use Rattle.update_core.specs.Endings.{meant_by}
use Rattle.type_check.specs.Checks.{assign, checked}
use Rattle.algebra_core.specs.Costs.{paid}
use Rattle.assign_core.specs.Assignments.{seen_by, source_value}
use Rattle.assign_core.specs.Breaches.{value_if}
use Rattle.assign_core.specs.Costs.{source_cost}
use Rattle.assign_core.specs.Insertions.{Nodes, insertion_of}
use Rattle.assign_core.specs.NewRows.{replacing, joining, arriving_cost, joined_cost, value_brought}
use Rattle.assign_core.proofs.InsertionLemmas.{both_cost}
use Rattle.constant_effects.specs.Ways.{arriving_of}
use Rattle.constant_laws.specs.Insertions.{WritesLiteral, insertion, insertion_under, setting, Bringing, Setting, Adding, AddingUnder, IsListed, IsStatementOf, IsPlainInsertion}
use Rattle.constant_laws.proofs.ListedPositions.{listed-is_list}
use Rattle.constant_laws.proofs.TypedTuples.{literal_place}
use Rattle.constant_laws.proofs.TypedInsertions.{IsBaseNamed}
use Rattle.constant_laws.proofs.CheckedInsertions.{insertion-checked, insertion-under-checked, setting-checked}
use Rattle.constant_laws.proofs.MeantInsertions.{first-found, insertion-means, insertion-under-means, literal-means, setting-means}

-- the tree is typed as one item, which stands for one assignment; its source has this value, and takes at least the steps of the rows
pub record IsPlainDone (state : State) (bringing : Bringing) (relvar : Name) (old : Relation) (rows : List Row) (tree : StatementP) : Type 0 where
  pub at : Place
  pub there : Place
  pub items : List PlainItem
  pub assignment : PlainAssignment
  pub typed : checked state tree ≡ Ok (assign items)
  pub meant : flat_map (meant_by state.relvars) items ≡ assignment ∷ []
  pub target : assignment.target ≡ relvar
  pub source : source_value state.relvars state.relvars assignment ≡ value_brought (arriving_of bringing) at there old rows
  pub cost : arriving_cost (arriving_of bringing) there old rows ≤ source_cost state.relvars state.relvars assignment

-- ---- assignments

module _ (entries : Entries) (at there : Place) (name : Name) (tuples : List PlainSets) (rows : List Row) (old : Relation) (constraints : List Constraint) (found : relvar_named entries name ≡ Some (base old constraints))
    (is : IsRelation old) (means : literal_rows old.heading tuples ≡ Ok (rows_of rows)) where
  -- the assignment of an insertion
  abbrev inserting : Option (List ℕ) → PlainAssignment
  inserting list = insertion_of at old.heading list (record { place = at; heading = old.heading; at = at; headed = old.heading }) name (literal there old.heading tuples)

  inserting-cost : (list : Option (List ℕ)) → arriving_cost (joining list) there old rows ≤ source_cost entries entries (inserting list)
  inserting-cost list = by (limited there (rows_of rows)) refl
    where
      by : (m : RowsMeant) → limited there (rows_of rows) ≡ m → paid m (joined_cost (joining list) old.rows) ≤ source_cost entries entries (inserting list)
      by (Err fault) e = omega arith
      by (Ok new) e =
          let first = first-found entries name (base old constraints) found in
          let n : Nodes = record { place = at; heading = old.heading; at = at; headed = old.heading } in
          let more = both_cost entries name first.at old constraints first.first at old.heading n (literal there old.heading tuples) is.few list (record { heading = old.heading; rows = new })
          (ap (under old.heading) (literal-means (seen_by entries entries name) there old.heading tuples rows means ∙ e)) in
          omega (arith, more)

  insertion-source : source_value entries entries (inserting None) ≡ value_brought (joining None) at there old rows
  insertion-source =
      ap (λ (o : Option PlainRelvar). under old.heading (meaning_in (given (Some name) (value_if o) entries) (inserting None).tree)) found
      ∙ insertion-means entries at there name tuples rows old constraints found is.few means

  insertion-under-source : (commalist : List ℕ) (list : NameListP) → IsListed old.heading commalist list → source_value entries entries (inserting (Some commalist)) ≡ value_brought (joining (Some commalist)) at there old rows
  insertion-under-source commalist list listed =
      ap (λ (o : Option PlainRelvar). under old.heading (meaning_in (given (Some name) (value_if o) entries) (inserting (Some commalist)).tree)) found
      ∙ insertion-under-means entries at there name tuples rows old constraints commalist found is.few is.headed (listed-is_list old.heading commalist list listed) means

setting-cost : (there : Place) (old : Relation) (rows : List Row) (n : ℕ) → arriving_cost replacing there old rows ≤ n
setting-cost there old rows n = by (limited there (rows_of rows))
  where
    by : (m : RowsMeant) → paid m (joined_cost replacing old.rows) ≤ n
    by (Ok new) = omega arith
    by (Err fault) = omega arith

-- ---- statements

module _ (state : State) (w : Word) (l : LiteralP) (old : Relation) (constraints : List Constraint) (rows : List Row) (found : IsBaseNamed state w old constraints) (is : IsRelation old)
    (writes : WritesLiteral state.ordinals old.heading rows l) where
  setting-plain : IsPlainDone state Setting w.bytes old rows (setting w l)
  setting-plain =
      let c = setting-checked state w l old constraints rows found writes in
      record {
        at = w.place;
        there = literal_place l;
        items = record { place = w.place; target = w.bytes; heading = old.heading; form = set_to (literal (literal_place l) old.heading c.tuples) } ∷ [];
        assignment = record { target = w.bytes; tree = literal (literal_place l) old.heading c.tuples };
        typed = c.is;
        meant = refl;
        target = refl;
        source = setting-means (given (Some w.bytes) (value_if (relvar_named state.relvars w.bytes)) state.relvars) (literal_place l) old.heading c.tuples rows c.means;
        cost = setting-cost (literal_place l) old rows _;
      }

  insertion-plain : (at : Place) → IsPlainDone state Adding w.bytes old rows (insertion at w l)
  insertion-plain at =
      let c = insertion-checked state at w l old constraints rows found writes in
      record {
        at = at;
        there = literal_place l;
        items = record { place = at; target = w.bytes; heading = old.heading; form = insert None (literal (literal_place l) old.heading c.tuples) } ∷ [];
        assignment = inserting state.relvars at (literal_place l) w.bytes c.tuples rows old constraints found.there is c.means None;
        typed = c.is;
        meant = refl;
        target = refl;
        source = insertion-source state.relvars at (literal_place l) w.bytes c.tuples rows old constraints found.there is c.means;
        cost = inserting-cost state.relvars at (literal_place l) w.bytes c.tuples rows old constraints found.there is c.means None;
      }

  insertion-under-plain : (at : Place) (list : NameListP) (there : Place) (commalist : List ℕ) → IsListed old.heading commalist list
      → IsPlainDone state (AddingUnder commalist) w.bytes old rows (insertion_under at list there w l)
  insertion-under-plain at list there commalist listed =
      let c = insertion-under-checked state at list there w l old constraints commalist rows found listed writes in
      record {
        at = at;
        there = literal_place l;
        items = record { place = at; target = w.bytes; heading = old.heading; form = insert (Some commalist) (literal (literal_place l) old.heading c.tuples) } ∷ [];
        assignment = inserting state.relvars at (literal_place l) w.bytes c.tuples rows old constraints found.there is c.means (Some commalist);
        typed = c.is;
        meant = refl;
        target = refl;
        source = insertion-under-source state.relvars at (literal_place l) w.bytes c.tuples rows old constraints found.there is c.means commalist list listed;
        cost = inserting-cost state.relvars at (literal_place l) w.bytes c.tuples rows old constraints found.there is c.means (Some commalist);
      }

  statement-plain : (bringing : Bringing) (tree : StatementP) → IsStatementOf bringing old.heading tree w l → IsPlainDone state bringing w.bytes old rows tree
  statement-plain Setting tree e = subst (IsPlainDone state Setting w.bytes old rows) (sym e) setting-plain
  statement-plain Adding tree e = subst (IsPlainDone state Adding w.bytes old rows) (sym e.1) (insertion-plain e.0)
  statement-plain (AddingUnder commalist) tree e = subst (IsPlainDone state (AddingUnder commalist) w.bytes old rows) (sym e.4) (insertion-under-plain e.0 e.1 e.2 commalist e.3)

-- where the name is that of a base relvar with this heading
pub plain-done : (state : State) (bringing : Bringing) (relvar : Name) (heading : Heading) (rows : List Row) (tree : StatementP) (old : Relation) (constraints : List Constraint)
    → IsPlainInsertion state.ordinals bringing relvar heading rows tree → is_name relvar ≡ true → relvar_named state.relvars relvar ≡ Some (base old constraints) → old.heading ≡ heading → IsRelation old
    → IsPlainDone state bringing relvar old rows tree
plain-done state bringing relvar heading rows tree old constraints plain is_one there headed is =
    subst (λ (n : Name). IsPlainDone state bringing n old rows tree) plain.named
    (statement-plain state plain.w plain.l old constraints rows (record { is_one = ap is_name plain.named ∙ is_one; there = ap (relvar_named state.relvars) plain.named ∙ there }) is
    (subst (λ (h : Heading). WritesLiteral state.ordinals h rows plain.l) (sym headed) plain.writes) bringing tree (subst (λ (h : Heading). IsStatementOf bringing h tree plain.w plain.l) (sym headed) plain.is))
