-- The insertion of a base relvar's next rows, at the head of a script or behind a byte 10.
--     insert-first-step, insert-later-step      the law
--     loads-accepted, loads-text      what is told of such a statement
use Rattle.std.proofs.Common.{◌≡◌, ℕ, ◌+◌, true, false, List, [], ◌∷◌, take, drop, Some, None, Ok, ap, ◌∙◌, refl, arith, IsTrue}
use Rattle.std.specs.List.{All, list_all}
use Rattle.std.proofs.lemmas.Bool.{and_parts}
use Rattle.std.proofs.lemmas.List.{length-take}
use Rattle.std.proofs.lemmas.List.Elements.{All-nil, All-cons}
use Rattle.point_core.specs.declared.fault.Place.{Place}
use Rattle.value_core.specs.declared.constraint.Constraint.{Constraint}
use Rattle.value_core.specs.declared.list.OrdinalNames.{OrdinalNames}
use Rattle.value_core.specs.Values.{Name, Row, Heading, Relation, IsRelation, fits_heading}
use Rattle.value_core.proofs.RelationLemmas.{sorted_from_ascending}
use Rattle.relation_core.proofs.FilterLemmas.{rows_ascend}
use Rattle.tree_core.specs.Relvars.{base, Entries, State, relvar_named}
use Rattle.meaning_core.specs.Logs.{has_log}
use Rattle.stored_views.specs.Stored.{has_stored}
use Rattle.dump_core.specs.Inserts.{insert_script}
use Rattle.dump_core.specs.Texts.{SourceText}
use Rattle.relation_typing.specs.Attributes.{is_name}
use Rattle.assign_core.specs.Assignments.{assigned_in}
use Rattle.assign_core.specs.Items.{assignments_of}
use Rattle.assign_core.specs.NewRows.{joining, brought_in}
use Rattle.assign_core.proofs.BroughtLemmas.{brought_assigned}
use Rattle.utd_lexer.specs.Gaps.{without_gaps}
use Rattle.utd_lexer.specs.Tokens.{next_place}
use Rattle.utd_syntax.specs.Plain.{StatementP}
use Rattle.constant_laws.specs.Insertions.{Adding, IsPlainInsertion}
use Rattle.constant_effects.proofs.EffectLemmas.{plain-done}
use Rattle.utd_statement.specs.Answers.{Changed, answer, of_checked, of_tree, unless_fault, unless_refused, is_accepted}
use Rattle.utd_statement.specs.Keeping.{Keeping, Leaves, keeping_of, settled, texts_after}
use Rattle.utd_statement.specs.Readings.{Tree as TreeOf}
use Rattle.text_laws.specs.Statements.{IsOneStatement}
use Rattle.text_laws.specs.Written.{IsWritten}
use Rattle.text_laws.proofs.OneStatements.{one-behind}
use Rattle.text_laws.proofs.TextLaws.{text-behind}
use Rattle.constant_texts.specs.Sayable.{FitsRow}
use Rattle.constant_texts.proofs.InsertLaws.{insert-read, insert-one}
use Rattle.constant_texts.proofs.NameLemmas.{word-name, name-is}
use Rattle.part_laws.specs.Parts.{first_of_value, loaded}
use Rattle.part_laws.proofs.LoadedLemmas.{named-loaded, relation-at}
use Rattle.part_laws.proofs.RowLemmas.{Ascends-take}
use Rattle.part_laws.proofs.StepLemmas.{brought-next}
use Rattle.part_laws.proofs.ThroughLemmas.{next-all, next-some}
use Rattle.dump_laws.specs.Loads.{IsLoadFor, Loads}
use Rattle.dump_laws.proofs.LoadedLaws.{loaded-logless, loaded-unstored}

-- ---- one insertion

-- from this place on the bytes are read as an insertion of just these rows
abbrev IsReadAs : Place → List ℕ → List OrdinalNames → Name → Heading → List Row → Type 0
IsReadAs q bytes types name heading rows = (tree : StatementP) × IsWritten q bytes tree × IsPlainInsertion types Adding name heading rows tree

read-behind : (q : Place) (bytes : List ℕ) (types : List OrdinalNames) (name : Name) (heading : Heading) (rows : List Row) → IsReadAs (next_place q 10) bytes types name heading rows
    → IsReadAs q (10 ∷ bytes) types name heading rows
read-behind q bytes types name heading rows (tree, written, plain) = (tree, text-behind q bytes tree written, plain)

insertion-leaves : (types : List OrdinalNames) (name : Name) (heading : Heading) (rows : List Row) (tree : StatementP) → IsPlainInsertion types Adding name heading rows tree
    → keeping_of tree ≡ Leaves
insertion-leaves types name heading rows tree plain = ap keeping_of plain.is.1

-- the relvars that the rows make are those of the next state
insertion-answered : (r : State) (name : Name) (heading : Heading) (rows : List Row) (tree : StatementP) (old : Relation) (c : List Constraint) (new : Entries)
    → IsPlainInsertion r.ordinals Adding name heading rows tree → is_name name ≡ true → relvar_named r.relvars name ≡ Some (base old c) → old.heading ≡ heading → IsRelation old
    → has_log r.relvars ≡ false → has_stored r.relvars ≡ false → ((at there : Place) → brought_in r (joining None) at there name old rows ≡ Ok new)
    → of_tree r tree ≡ Changed (record r { relvars = new })
insertion-answered r name heading rows tree old c new plain named found headed relation logless unstored comes =
    let done = plain-done r Adding name heading rows tree old c plain named found headed relation in
    let assigned : assigned_in r (assignments_of r.relvars done.items) ≡ Ok new =
    ap (assigned_in r) done.meant
    ∙ (brought_assigned r done.assignment (joining None) done.at done.there old rows done.source logless unstored
    ∙ (ap (λ (target : Name). brought_in r (joining None) done.at done.there target old rows) done.target ∙ comes done.at done.there)) in
    ap (unless_fault (of_checked r)) done.typed ∙ ap (unless_refused r) assigned

-- ---- the rows

-- the first rows of a relation are one
first-relation : (n : ℕ) (v : Relation) → IsRelation v → IsRelation (first_of_value n v)
first-relation n v is = record {
  headed = is.headed;
  ascending = sorted_from_ascending (take n v.rows) (Ascends-take n v.rows (rows_ascend v is));
  fitting = next-all 0 n (fits_heading v.heading) v.rows is.fitting;
  few = let less = is.few in omega (arith, length-take n v.rows, less);
}

fitting-rows : (heading : Heading) (rows : List Row) → IsTrue (list_all (fits_heading heading) rows) → All (FitsRow heading) rows
fitting-rows heading [] h = All-nil (FitsRow heading)
fitting-rows heading (row ∷ rows) h =
    let parts = and_parts (fits_heading heading row) (list_all (fits_heading heading) rows) h in
    All-cons (FitsRow heading) row rows parts.0 (fitting-rows heading rows parts.1)

module _ (es : Entries) (i n size : ℕ) (name : Name) (v : Relation) (c : List Constraint) (r : State) (is : IsLoadFor es i n size name v c r) where
  -- the rows that come, and the statement's text
  abbrev next : List Row
  next = take size (drop n v.rows)

  abbrev script : List ℕ
  script = insert_script r.ordinals name v.heading next

  whole : IsRelation v
  whole = relation-at es i name v c is.loadable.relations is.stands

  fit : All (FitsRow v.heading) next
  fit = fitting-rows v.heading next (next-all n size (fits_heading v.heading) v.rows whole.fitting)

  found : relvar_named r.relvars name ≡ Some (base (first_of_value n v) c)
  found = ap (λ (l : Entries). relvar_named l name) is.now ∙ named-loaded es i n name v c is.loadable.different is.stands

  logless : has_log r.relvars ≡ false
  logless = ap has_log is.now ∙ loaded-logless i n es is.logless

  unstored : has_stored r.relvars ≡ false
  unstored = ap has_stored is.now ∙ loaded-unstored i n es is.unstored

  named : is_name name ≡ true
  named = name-is name (word-name name is.sayable.named)

  comes : (at there : Place) → brought_in r (joining None) at there name (first_of_value n v) next ≡ Ok (loaded i (n + size) es)
  comes = brought-next es i n size name v c is.loadable is.stands is.may r is.now is.none

  loads : (q : Place) (bytes : List ℕ) → IsReadAs q bytes r.ordinals name v.heading next → IsOneStatement bytes → Loads q bytes es i (n + size) r
  loads q bytes read one = record {
    tree = read.0;
    text = read.1;
    keeping = insertion-leaves r.ordinals name v.heading next read.0 read.2;
    answered = insertion-answered r name v.heading next read.0 (first_of_value n v) c (loaded i (n + size) es) read.2 named found refl (first-relation n v whole) logless unstored comes;
    one = one;
  }

  -- ---- the law

  is-one : IsOneStatement script
  is-one = insert-one r.ordinals name v.heading next is.sayable fit

  is-read : (q : Place) → IsReadAs q script r.ordinals name v.heading next
  is-read q = insert-read r.ordinals name v.heading next is.sayable fit (next-some n size v.rows is.less is.some) q

  pub insert-first-step : (q : Place) → Loads q script es i (n + size) r
  insert-first-step q = loads q script (is-read q) is-one

  pub insert-later-step : (q : Place) → Loads q (10 ∷ script) es i (n + size) r
  insert-later-step q = loads q (10 ∷ script) (read-behind q script r.ordinals name v.heading next (is-read (next_place q 10))) (one-behind script is-one)

-- ---- what is told of such a statement

module _ (q : Place) (bytes : List ℕ) (es : Entries) (i n : ℕ) (r : State) (is : Loads q bytes es i n r) where
  pub loads-accepted : is_accepted (answer r (TreeOf is.tree)) ≡ true
  loads-accepted = ap is_accepted is.answered

  pub loads-text : (texts : List SourceText) → texts_after bytes (TreeOf is.tree) true texts ≡ texts
  loads-text texts = ap (λ (k : Keeping). settled k (without_gaps bytes) true texts) is.keeping
