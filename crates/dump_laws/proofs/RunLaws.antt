-- The law of a run: its kept texts say what the state that it leaves is made of.
--     tree-kept      a statement that is read as a tree keeps it
--     steps-kept      statements one after the other do
--     run-kept      the law
use Rattle.std.proofs.Common.{◌≡◌, ◌⊎◌, inl, inr, ℕ, ◌+◌, ◌≤◌, Bool, true, false, not, cond, nat_le, List, [], ◌∷◌, ◌++◌, length, refl, sym, ap, subst, arith, Ok, Err, IfOk, Result}
use Rattle.std.specs.Prelude.{is_some}
use Rattle.std.specs.List.{All, AllByRecursion, IsDistinct}
use Rattle.std.proofs.lemmas.Bool.{not-true, leb-true}
use Rattle.std.proofs.lemmas.List.Elements.{All-nil}
use Rattle.base_core.proofs.ListLemmas.{All-In}
use Rattle.point_core.specs.declared.fault.Code.TheVariants.{E10, E21, E45, E46}
use Rattle.point_core.specs.declared.fault.Place.{Place}
use Rattle.point_core.specs.Faults.{OrFault}
use Rattle.value_core.specs.declared.refuse.Refuse.{Refuse}
use Rattle.value_core.specs.declared.refuse.Refuse.TheVariants.{At, Broken, Plain as PlainRefusal}
use Rattle.value_core.specs.Limits.{most_statement_bytes}
use Rattle.value_core.specs.Values.{Name, Relation}
use Rattle.utd_syntax.specs.Plain as syntax
use Rattle.utd_syntax.specs.Plain.{Word, StatementP}
use Rattle.utd_lexer.specs.Gaps.{without_gaps}
use Rattle.relation_typing.specs.Attributes.{name_typed}
use Rattle.tree_core.specs.declared.declaration.LogData.{LogData}
use Rattle.tree_core.specs.Items.{PlainItem}
use Rattle.tree_core.specs.Relvars.{State, Entries, relvar_named}
use Rattle.tree_core.specs.Trees.{Tree, Test}
use Rattle.tree_core.specs.Uses.{is_one_of}
use Rattle.dump_core.specs.declared.texts.TextKind.{TextKind}
use Rattle.dump_core.specs.declared.texts.TextKind.TheVariants.{Early, Rule}
use Rattle.dump_core.specs.Texts.{SourceText, forgotten}
use Rattle.meaning_core.specs.Declarations.{group, without_group, without_rule, with_rule, with_log}
use Rattle.meaning_core.specs.Meanings.{RowsMeant, meaning_in}
use Rattle.meaning_core.specs.Truths.{holds_in, truth_in}
use Rattle.meaning_core.specs.Updates.{IsTypedItem}
use Rattle.meaning_core.specs.WellMade.{IsWellMade}
use Rattle.meaning_core.proofs.RowlessLemmas.{bare-keeps}
use Rattle.since_during.proofs.HistoryMade.{history-made}
use Rattle.node_typing.specs.Positions.{check}
use Rattle.row_typing_laws.proofs.HeadingNames.{name-written}
use Rattle.row_typing_laws.proofs.Parts.{parts-of, check-holds}
use Rattle.tree_typing.specs.Trees.{tree_typed, test_typed}
use Rattle.declaration_typing.specs.Drops.{is_of_history, is_used, dropped}
use Rattle.declaration_typing.specs.Logs.{log_declared}
use Rattle.declaration_typing.specs.Names.{is_rule}
use Rattle.declaration_typing.specs.Rules.{rule_dropped}
use Rattle.item_typing.specs.Items.{assignment_typed}
use Rattle.type_check.specs.Checks.{Plain, declare_log, remove, remove_rule, assign, print, ask, giving, checked, IsTypedPlain}
use Rattle.type_check.proofs.CheckLemmas.{checked-typed}
use Rattle.typing_laws.specs.Saying.{Said, said_ordinal, said_base, said_view, said_stored, said_history, said_rule, IsDeclaration, plain_of, with_said}
use Rattle.typing_laws.proofs.SaidLaws.{with-ordinal, with-base, with-view, with-stored, with-history, with-said-rule}
use Rattle.typing_laws.proofs.SayingLaws.{checked-says}
use Rattle.assign_core.specs.Assignments.{assigned_in}
use Rattle.assign_core.specs.Databases.{no_relvars}
use Rattle.assign_core.specs.Items.{assignments_of}
use Rattle.assign_core.specs.Room.{have_room, with_stored, stored_if}
use Rattle.utd_statement.specs.Answers.{Answer, Done, Changed, made_by, Table, Truth, Refusal, unless_fault, relation_in, unless_refused, if_allowed, of_checked, of_tree, answer, is_accepted, state_after}
use Rattle.utd_statement.specs.Keeping.{Keeping, Keeps, Forgets, Leaves, kind_of, keeping_of, settled}
use Rattle.utd_statement.specs.Readings.{Reading, Refused, IsText}
use Rattle.utd_statement.specs.Readings as readings
use Rattle.utd_session.specs.Machine.{all_steps, performed}
use Rattle.utd_session.specs.Readings.{IsShort, IsReading, AreReadings, most_in_statement}
use Rattle.utd_session.specs.Statements.{Statement, Complete, Incomplete, statements}
use Rattle.utd_session.specs.Texts.{kept_after, all_kept, texts_of}
use Rattle.text_laws.specs.Statements.{IsOneStatement}
use Rattle.dump_laws.specs.Kept.{IsTextOf, AreTexts, IsMadeOf, IsSmall}
use Rattle.dump_laws.proofs.AssignedLaws.{all-typed, assigned-rows}
use Rattle.dump_laws.proofs.Cuts.{IsOneText, cut-ones}
use Rattle.dump_laws.proofs.DeclaredLogs.{log-free}
use Rattle.dump_laws.proofs.DeclaredLaws.{IsStanding, run-counted, run-more, run-with-log, run-without-group, run-without-rule, run-with-rows}
use Rattle.dump_laws.proofs.OutcomeLaws.{given-same}

-- ---- one statement

abbrev IsTree : Reading → Type 0
IsTree (readings.Tree tree) = Unit {0}
IsTree (Refused refuse) = ⊥

-- what stands after an answer, before the statement is counted
abbrev IsKeptBy : State → List SourceText → Keeping → List ℕ → Answer → Type 0
IsKeptBy w texts keeping bytes a = (us : List Said) × IsStanding (made_by w a) (settled keeping bytes (is_accepted a) texts) us

module _ (w : State) (texts : List SourceText) (ds : List Said) (is : IsStanding w texts ds) where
  -- what is refused leaves all as it is
  refused-kept : (keeping : Keeping) (bytes : List ℕ) (refuse : Refuse) → IsKeptBy w texts keeping bytes (Refusal refuse)
  refused-kept (Keeps kind name) bytes refuse = (ds, is)
  refused-kept (Forgets name) bytes refuse = (ds, is)
  refused-kept Leaves bytes refuse = (ds, is)

  -- and so does what only writes
  table-kept : (bytes : List ℕ) (r : OrFault Relation) → IsKeptBy w texts Leaves bytes (unless_fault (Table w.ordinals) r)
  table-kept bytes (Ok relation) = (ds, is)
  table-kept bytes (Err fault) = (ds, is)

  truth-kept : (bytes : List ℕ) (r : OrFault Bool) → IsKeptBy w texts Leaves bytes (unless_fault Truth r)
  truth-kept bytes (Ok b) = (ds, is)
  truth-kept bytes (Err fault) = (ds, is)

  print-kept : (bytes : List ℕ) (r : OrFault Tree) → IsKeptBy w texts Leaves bytes (unless_fault (of_checked w) (giving print r))
  print-kept bytes (Ok t) = table-kept bytes (relation_in w t)
  print-kept bytes (Err fault) = (ds, is)

  ask-kept : (bytes : List ℕ) (r : OrFault Test) → IsKeptBy w texts Leaves bytes (unless_fault (of_checked w) (giving ask r))
  ask-kept bytes (Ok t) = truth-kept bytes (truth_in w.relvars t)
  ask-kept bytes (Err fault) = (ds, is)

  -- ---- assignments

  assigned-kept : (bytes : List ℕ) (items : List PlainItem) → All (IsTypedItem w) items → (r : Result Entries Refuse) → assigned_in w (assignments_of w.relvars items) ≡ r
      → IsKeptBy w texts Leaves bytes (unless_refused w r)
  assigned-kept bytes items typed (Ok fs) e =
      let same = assigned-rows w is.made (assignments_of w.relvars items) fs (all-typed w items is.made typed) e in
      (ds, run-with-rows w texts ds fs is same (bare-keeps w fs same is.made))
  assigned-kept bytes items typed (Err refuse) e = (ds, is)

  items-kept : (bytes : List ℕ) (r : OrFault (List PlainItem)) → IfOk (giving assign r) (IsTypedPlain w) → IsKeptBy w texts Leaves bytes (unless_fault (of_checked w) (giving assign r))
  items-kept bytes (Ok items) typed = assigned-kept bytes items typed (assigned_in w (assignments_of w.relvars items)) refl
  items-kept bytes (Err fault) typed = (ds, is)

  -- ---- DROP VAR and DROP CONSTRAINT

  drop-kept : (bytes : List ℕ) (word : Word) (r : OrFault Name) → dropped w word ≡ r → IfOk (giving remove r) (IsTypedPlain w)
      → IsKeptBy w texts (Forgets word.bytes) bytes (unless_fault (of_checked w) (giving remove r))
  unfolding dropped
  drop-kept bytes word (Err fault) e then = (ds, is)
  drop-kept bytes word (Ok name) e then =
      let one = parts-of (name_typed word) _ name e in
      let two = parts-of (check word.place E10 (is_some (relvar_named w.relvars one.0))) _ name one.2 in
      let three = parts-of (check word.place E21 (not (is_of_history w.relvars one.0))) _ name two.2 in
      let four = parts-of (check word.place E21 (not (is_used w (is_one_of (group w.relvars one.0))))) _ name three.2 in
      let same : one.0 ≡ name = given-same one.0 name (Ok one.0) refl four.2 in
      let there : is_some (relvar_named w.relvars one.0) ≡ true = check-holds word.place E10 (is_some (relvar_named w.relvars one.0)) tt two.0 two.1 in
      let alone : is_of_history w.relvars one.0 ≡ false = not-true (is_of_history w.relvars one.0) (check-holds word.place E21 (not (is_of_history w.relvars one.0)) tt three.0 three.1) in
      let unused : is_used w (is_one_of (group w.relvars one.0)) ≡ false =
      not-true (is_used w (is_one_of (group w.relvars one.0))) (check-holds word.place E21 (not (is_used w (is_one_of (group w.relvars one.0)))) tt four.0 four.1) in
      let left = run-without-group w texts ds one.0 is there alone unused (subst (λ (n : Name). IsWellMade (without_group n w)) (sym same) then) in
      let word_is : word.bytes ≡ one.0 = sym (name-written word one.0 one.1) in (
        left.0,
        subst (λ (n : Name). IsStanding (without_group n w) (forgotten word.bytes texts) left.0) same
            (subst (λ (n : Name). IsStanding (without_group one.0 w) (forgotten n texts) left.0) (sym word_is) left.1),
      )

  rule-kept : (bytes : List ℕ) (word : Word) (r : OrFault Name) → rule_dropped w word ≡ r → IfOk (giving remove_rule r) (IsTypedPlain w)
      → IsKeptBy w texts (Forgets word.bytes) bytes (unless_fault (of_checked w) (giving remove_rule r))
  unfolding rule_dropped
  rule-kept bytes word (Err fault) e then = (ds, is)
  rule-kept bytes word (Ok name) e then =
      let one = parts-of (name_typed word) _ name e in
      let two = parts-of (check word.place E10 (is_rule w one.0)) _ name one.2 in
      let same : one.0 ≡ name = given-same one.0 name (Ok one.0) refl two.2 in
      let there : is_rule w one.0 ≡ true = check-holds word.place E10 (is_rule w one.0) tt two.0 two.1 in
      let left = run-without-rule w texts ds one.0 is there (subst (λ (n : Name). IsWellMade (without_rule n w)) (sym same) then) in
      let word_is : word.bytes ≡ one.0 = sym (name-written word one.0 one.1) in (
        left.0,
        subst (λ (n : Name). IsStanding (without_rule n w) (forgotten word.bytes texts) left.0) same
            (subst (λ (n : Name). IsStanding (without_rule one.0 w) (forgotten n texts) left.0) (sym word_is) left.1),
      )

  -- ---- LOG

  -- a log is declared whose name is free, and for which there is room; its text is not kept
  log-kept : (bytes : List ℕ) (l source t : Word) (d : LogData) → log_declared w l source t ≡ Ok d → IsWellMade (with_log w d) → IsKeptBy w texts Leaves bytes (Changed (with_log w d))
  log-kept bytes l source t d e then = let is_new = log-free w l source t d e in (ds, run-with-log w texts ds d is is_new.0 is_new.1 then)

  -- or it is refused
  opened-kept : (bytes : List ℕ) (l source t : Word) (d : LogData) → log_declared w l source t ≡ Ok d → IsWellMade (with_log w d) → (b : Bool) (refuse : Refuse)
      → IsKeptBy w texts Leaves bytes (if_allowed (cond b (Ok (with_log w d)) (Err refuse)))
  opened-kept bytes l source t d e then true refuse = log-kept bytes l source t d e then
  opened-kept bytes l source t d e then false refuse = (ds, is)

  logged-kept : (bytes : List ℕ) (l source t : Word) (r : OrFault LogData) → log_declared w l source t ≡ r → IfOk (giving declare_log r) (IsTypedPlain w)
      → IsKeptBy w texts Leaves bytes (unless_fault (of_checked w) (giving declare_log r))
  logged-kept bytes l source t (Ok d) e typed = opened-kept bytes l source t d e typed.made (have_room (with_log w d).relvars) (PlainRefusal E46)
  logged-kept bytes l source t (Err fault) e typed = (ds, is)

  -- ---- declarations

  -- the machine makes what is said, or refuses it
  abbrev IsDoneBy : Said → Answer → Type 0
  IsDoneBy d a = (a ≡ Changed (with_said w d)) ⊎ ((refuse : Refuse) × (a ≡ Refusal refuse))

  rule-done : (name : Name) (t : Test) (b : Bool) → IsDoneBy (said_rule name t) (if_allowed (cond b (Ok (with_rule name t w)) (Err (Broken E45 name 0))))
  rule-done name t true = inl (ap Changed (with-said-rule w name t))
  rule-done name t false = inr (_, refl)

  room-done : (name : Name) (t : Tree) (b : Bool) (refuse : Refuse) → IsDoneBy (said_stored name t) (if_allowed (cond b (Ok (with_stored w name t)) (Err refuse)))
  room-done name t true refuse = inl (ap Changed (with-stored w name t))
  room-done name t false refuse = inr (refuse, refl)

  stored-done : (name : Name) (t : Tree) (meant : RowsMeant) → IsDoneBy (said_stored name t) (if_allowed (stored_if meant w name t))
  stored-done name t (Ok rows) = room-done name t (have_room (with_stored w name t).relvars) (PlainRefusal E46)
  stored-done name t (Err fault) = inr (At fault, refl)

  said-done : (d : Said) → IsDoneBy d (of_checked w (plain_of d))
  said-done (said_ordinal name names) = inl (ap Changed (with-ordinal w name names))
  said-done (said_base name heading typed) = inl (ap Changed (with-base w name heading typed))
  said-done (said_view name t) = inl (ap Changed (with-view w name t))
  said-done (said_stored name t) = stored-done name t (meaning_in w.relvars t)
  said-done (said_history h) = inl (ap Changed (with-history w h))
  said-done (said_rule name t) = rule-done name t (holds_in w.relvars t)

  -- which is well made
  said-made : (d : Said) → IsTypedPlain w (plain_of d) → IsWellMade (with_said w d)
  said-made (said_ordinal name names) typed = subst IsWellMade (with-ordinal w name names) typed
  said-made (said_base name heading cs) typed = subst IsWellMade (with-base w name heading cs) typed
  said-made (said_view name t) typed = subst IsWellMade (with-view w name t) typed
  said-made (said_stored name t) typed = subst IsWellMade (with-stored w name t) typed.0
  said-made (said_history h) typed = subst IsWellMade (with-history w h) (history-made w h is.made typed)
  said-made (said_rule name t) typed = subst IsWellMade (with-said-rule w name t) typed.0

  declared-kept : (place : Place) (bytes : List ℕ) (tree : StatementP) (kind : TextKind) (name : Name) → IsText place bytes (readings.Tree tree) → IsOneStatement bytes
      → length bytes ≤ most_statement_bytes → IsDeclaration tree → keeping_of tree ≡ Keeps kind name
      → (r : OrFault Plain) → checked w tree ≡ r → IsKeptBy w texts (Keeps kind name) (without_gaps bytes) (unless_fault (of_checked w) r)
  declared-kept place bytes tree kind name text one short is_one keeping (Err fault) e = (ds, is)
  declared-kept place bytes tree kind name text one short is_one keeping (Ok p) e =
      let (d, says, free, room, plain) = checked-says w tree p e is_one in
      let then : IsWellMade (with_said w d) =
      said-made d (subst (IsTypedPlain w) plain (subst (λ (r : OrFault Plain). IfOk r (IsTypedPlain w)) e (checked-typed w is.made tree))) in
      let t : SourceText = record { kind = kind; name = name; bytes = without_gaps bytes } in
      let is_text : IsTextOf w t d = record {
        place = place;
        bytes = bytes;
        tree = tree;
        text = text;
        begun = refl;
        one = one;
        short = short;
        keeping = keeping;
        says = says;
      } in
      subst (λ (q : Plain). IsKeptBy w texts (Keeps kind name) (without_gaps bytes) (of_checked w q)) (sym plain)
      (elim (said-done d) [
        | inl made ↦ subst (IsKeptBy w texts (Keeps kind name) (without_gaps bytes)) (sym made) (ds ++ d ∷ [], run-more w texts ds t d is free room then is_text)
        | inr refusal ↦ subst (IsKeptBy w texts (Keeps kind name) (without_gaps bytes)) (sym refusal.1) (ds, is)
      ])

  -- ---- trees

  pub tree-kept : (place : Place) (bytes : List ℕ) (tree : StatementP) → IsText place bytes (readings.Tree tree) → IsOneStatement bytes → length bytes ≤ most_statement_bytes
      → IsKeptBy w texts (keeping_of tree) (without_gaps bytes) (of_tree w tree)
  tree-kept place bytes syntax.Nothing text one short = (ds, is)
  tree-kept place bytes (syntax.DeclareOrdinal at v values) text one short =
      declared-kept place bytes (syntax.DeclareOrdinal at v values) Early v.bytes text one short tt refl (checked w (syntax.DeclareOrdinal at v values)) refl
  tree-kept place bytes (syntax.DeclareRelvar at v form) text one short =
      declared-kept place bytes (syntax.DeclareRelvar at v form) (kind_of form) v.bytes text one short tt refl (checked w (syntax.DeclareRelvar at v form)) refl
  tree-kept place bytes (syntax.DeclareHistory at v h key b p d i t) text one short =
      declared-kept place bytes (syntax.DeclareHistory at v h key b p d i t) Early v.bytes text one short tt refl (checked w (syntax.DeclareHistory at v h key b p d i t)) refl
  tree-kept place bytes (syntax.DeclareLog at l source attribute) text one short =
      logged-kept (without_gaps bytes) l source attribute (log_declared w l source attribute) refl (checked-typed w is.made (syntax.DeclareLog at l source attribute))
  tree-kept place bytes (syntax.DeclareRule at v test) text one short =
      declared-kept place bytes (syntax.DeclareRule at v test) Rule v.bytes text one short tt refl (checked w (syntax.DeclareRule at v test)) refl
  tree-kept place bytes (syntax.Drop at v) text one short = drop-kept (without_gaps bytes) v (dropped w v) refl (checked-typed w is.made (syntax.Drop at v))
  tree-kept place bytes (syntax.DropRule at con v) text one short = rule-kept (without_gaps bytes) v (rule_dropped w v) refl (checked-typed w is.made (syntax.DropRule at con v))
  tree-kept place bytes (syntax.Print at rel) text one short = print-kept (without_gaps bytes) (tree_typed w rel)
  tree-kept place bytes (syntax.Ask at test) text one short = ask-kept (without_gaps bytes) (test_typed w test)
  tree-kept place bytes (syntax.Assignment a) text one short = items-kept (without_gaps bytes) (assignment_typed w a) (checked-typed w is.made (syntax.Assignment a))

  -- ---- what is read

  -- and so it stands with the statement counted
  counted-kept : (keeping : Keeping) (bytes : List ℕ) (a : Answer) → IsKeptBy w texts keeping bytes a → (us : List Said) × IsStanding (state_after w a) (settled keeping bytes (is_accepted a) texts) us
  counted-kept keeping bytes (Changed new) h = (h.0, run-counted new (settled keeping bytes true texts) h.0 h.1)
  counted-kept keeping bytes Done h = (h.0, run-counted w (settled keeping bytes true texts) h.0 h.1)
  counted-kept keeping bytes (Table types relation) h = (h.0, run-counted w (settled keeping bytes true texts) h.0 h.1)
  counted-kept keeping bytes (Truth b) h = (h.0, run-counted w (settled keeping bytes true texts) h.0 h.1)
  counted-kept keeping bytes (Refusal refuse) h = h

  short-kept : (place : Place) (bytes : List ℕ) (r : Reading) (b : Bool) → nat_le (length bytes) most_in_statement ≡ b → IsShort b place bytes r → IsOneStatement bytes
      → (us : List Said) × IsStanding (state_after w (answer w r)) (kept_after w texts (Complete place bytes) r) us
  short-kept place bytes (readings.Tree tree) true q h one =
      counted-kept (keeping_of tree) (without_gaps bytes) (of_tree w tree) (tree-kept place bytes tree h one (leb-true (length bytes) most_in_statement q))
  short-kept place bytes (readings.Tree tree) false q h one = absurd (subst IsTree h tt)
  short-kept place bytes (Refused refuse) b q h one = (ds, is)

  pub reading-kept : (s : Statement) (r : Reading) → IsReading s r → IsOneText s → (us : List Said) × IsStanding (state_after w (answer w r)) (kept_after w texts s r) us
  reading-kept (Complete place bytes) r h one = short-kept place bytes r (nat_le (length bytes) most_in_statement) refl h one
  reading-kept Incomplete (readings.Tree tree) h one = absurd (subst IsTree h tt)
  reading-kept Incomplete (Refused refuse) h one = (ds, is)

-- ---- statements one after the other

pub steps-kept : (w : State) (texts : List SourceText) (ds : List Said) (n : ℕ) (ss : List Statement) (rs : List Reading) → IsStanding w texts ds → AreReadings ss rs → AllByRecursion IsOneText ss
    → (us : List Said) × IsStanding (all_steps w n rs).state (all_kept w texts ss rs) us
steps-kept w texts ds n [] [] is h ones = (ds, is)
steps-kept w texts ds n [] (r ∷ rs) is h ones = absurd h
steps-kept w texts ds n (s ∷ ss) [] is h ones = absurd h
steps-kept w texts ds n (s ∷ ss) (r ∷ rs) is h ones =
    let next = reading-kept w texts ds is s r h.0 ones.0 in
    steps-kept (state_after w (answer w r)) (kept_after w texts s r) next.0 (n + 1) ss rs next.1 h.1 ones.1

-- the state from which a run begins
pub none-made : IsWellMade no_relvars
unfolding IsDistinct
none-made = record {
  few = omega arith;
  ordinals = All-nil _;
  different = tt;
  relvars = tt;
  few_rules = omega arith;
  rules = All-nil _;
  apart = All-nil _;
}

none-run : IsStanding no_relvars [] []
unfolding IsDistinct
none-run = record {
  texts = tt;
  listed = record { ordinals = refl; early = refl; views = refl; rules = refl; different = tt };
  made = none-made;
  few = omega arith;
  small = λ d i. absurd i;
}

pub made-of : (w : State) (texts : List SourceText) (ds : List Said) → IsStanding w texts ds → IsMadeOf w ds
made-of w texts ds is = record {
  ordinals = is.listed.ordinals;
  early = is.listed.early;
  views = is.listed.views;
  rules = is.listed.rules;
  different = is.listed.different;
  few = is.few;
  few_ordinals = is.made.few;
  few_rules = is.made.few_rules;
  small = All-In (IsSmall w) ds is.small;
}

-- the kept texts say what the state is made of, and it is well made
pub run-made : (bytes : List ℕ) (rs : List Reading) → AreReadings (statements bytes) rs → (ds : List Said) × IsStanding (performed rs).state (texts_of (statements bytes) rs) ds
run-made bytes rs h = steps-kept no_relvars [] [] 1 (statements bytes) rs none-run h (cut-ones bytes)

pub run-kept : (bytes : List ℕ) (rs : List Reading) → AreReadings (statements bytes) rs
    → (ds : List Said) × AreTexts (performed rs).state (texts_of (statements bytes) rs) ds × IsMadeOf (performed rs).state ds
run-kept bytes rs h =
    let run = run-made bytes rs h in
    (run.0, run.1.texts, made-of (performed rs).state (texts_of (statements bytes) rs) run.0 run.1)
