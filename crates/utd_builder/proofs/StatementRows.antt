-- Written by tools/grammar; change it there.
-- What statements say of the next token, where a statement goes on.
use Rattle.std.proofs.Common.{◌≡◌, ℕ, List, [], ◌∷◌, ◌++◌, Bool, true, false, cond, Option, Some, None, refl, sym, ◌∙◌, ap, subst}
use Rattle.utd_syntax.specs.declared.terminal.Terminal.{Terminal}
use Rattle.utd_syntax.specs.declared.terminal.Terminal.TheVariants as t
use Rattle.point_core.specs.declared.fault.Place.{Place}
use Rattle.utd_syntax.specs.declared.words.InfixWord.{InfixWord}
use Rattle.utd_syntax.specs.declared.words.InfixWord.TheVariants as infixes
use Rattle.utd_syntax.specs.declared.words.RelationComparison.{RelationComparison}
use Rattle.utd_syntax.specs.declared.words.EmptinessWord.{EmptinessWord}
use Rattle.utd_syntax.specs.declared.words.EmptinessWord.TheVariants as emptinesses
use Rattle.utd_syntax.specs.Pieces.{Piece, first, second, place_of, bytes_of}
use Rattle.utd_builder.specs.Building.{behind}
use Rattle.utd_syntax.specs.Plain.{StatementP, word, ConstraintP, ItemP, Assign, Assignment, Comparison, DeleteRows, Emptiness, Kept, KeptInfix, OfComparison, SetRelvar, UsedDeleteRows, UsedKey}
use Rattle.utd_syntax.specs.Table.{Symbol, Just, same, same_bytes, Plain, Takes, Never, TheName, TheOperand, TheRel, TheKey, TheForeign, TheUsedConstraint, TheConstraint, MoreConstraints, InRel, TheKept, AfterKept, InKept, TheVarForm, TheComparison, AfterLeft, TheTest, TheUsedDeletion, TheUsedItem, TheDeletion, TheItem, MoreItems, TheAssign, TheStatement, AfterDrop, AfterLog}
use Rattle.utd_syntax.specs.Written.{infix_word, emptiness, log_word, kept_word}
use Rattle.utd_syntax.proofs.Reader.{Go, on_turn, pick, read, read_at}
use Rattle.utd_syntax.proofs.FormEnds.{Halts, Starts_constraint, Starts_item, Starts_key, Starts_operand, Starts_rel, MoreConstraints-end, MoreItems-end}
use Rattle.utd_syntax.proofs.FirstTokens.{assign-as-item, comparison-as-operand, deletion-as-rel, statement-as-assign, test-as-comparison, used_constraint-as-key, used_deletion-as-rel}
use Rattle.utd_builder.specs.Choices.{infix_word_at, is_constraint, relation_comparison_of}
use Rattle.utd_syntax.specs.Read.{read_constraint, read_constraint_list, read_item, read_item_list}
use Rattle.utd_syntax.specs.declared.statement.Constraint.{Constraint as ConstraintTree}
use Rattle.utd_syntax.specs.declared.statement.Item.{Item as ItemTree}
use Rattle.utd_builder.proofs.Steps.{at, differs, differs-back}

yes : true ≡ false → ⊥
yes e = cc

halts-MoreConstraints : (x : Terminal) → is_constraint x ≡ false → Halts MoreConstraints x
halts-MoreConstraints t.Key e = absurd (yes e)
halts-MoreConstraints t.Foreign e = absurd (yes e)
halts-MoreConstraints t.Packed e = absurd (yes e)
halts-MoreConstraints t.When e = absurd (yes e)
halts-MoreConstraints t.Using e = absurd (yes e)
halts-MoreConstraints _ e = refl

pub done-MoreConstraints : (ts : List Piece) (stack : List Symbol) (k : Go (MoreConstraints ∷ stack)) (s : StatementP) → is_constraint (first ts) ≡ false → read ts (MoreConstraints ∷ stack) k ≡ Some s → read ts stack (λ v. k ([], v)) ≡ Some s
done-MoreConstraints ts stack k s e h = sym (MoreConstraints-end ts stack k (halts-MoreConstraints (first ts) e)) ∙ h

halts-MoreItems : (x : Terminal) → (x ≡ t.Comma → ⊥) → Halts MoreItems x
halts-MoreItems t.Comma n0 = absurd (n0 refl)
halts-MoreItems _ n0 = refl

pub done-MoreItems : (ts : List Piece) (stack : List Symbol) (k : Go (MoreItems ∷ stack)) (s : StatementP) → ((first ts) ≡ t.Comma → ⊥) → read ts (MoreItems ∷ stack) k ≡ Some s → read ts stack (λ v. k ([], v)) ≡ Some s
done-MoreItems ts stack k s n0 h = sym (MoreItems-end ts stack k (halts-MoreItems (first ts) n0)) ∙ h

pub starts-constraint : (x : Terminal) → is_constraint x ≡ true → Starts_constraint x
starts-constraint t.Key e = tt
starts-constraint t.Foreign e = tt
starts-constraint t.Packed e = tt
starts-constraint t.When e = tt
starts-constraint t.Using e = tt
starts-constraint _ e = absurd (yes (sym e))

pub not-constraint : (x : Terminal) → is_constraint x ≡ true → (x ≡ t.Key → ⊥) → (x ≡ t.Foreign → ⊥) → (x ≡ t.Packed → ⊥) → (x ≡ t.When → ⊥) → x ≡ t.Using
not-constraint t.Key e n0 n1 n2 n3 = absurd (n0 refl)
not-constraint t.Foreign e n0 n1 n2 n3 = absurd (n1 refl)
not-constraint t.Packed e n0 n1 n2 n3 = absurd (n2 refl)
not-constraint t.When e n0 n1 n2 n3 = absurd (n3 refl)
not-constraint t.Using e n0 n1 n2 n3 = refl
not-constraint _ e n0 n1 n2 n3 = absurd (yes (sym e))

starts-used_constraint-key : (x n : Terminal) (p : Place) (b : List ℕ) (next : (st : List Symbol) → Go st → Option StatementP) (stack : List Symbol) (k : Go (TheUsedConstraint ∷ stack)) (s : StatementP) → (x ≡ t.Foreign → ⊥) → read_at x n p b next (TheUsedConstraint ∷ stack) k ≡ Some s → Starts_key x
starts-used_constraint-key t.Key n p b next stack k s n0 h = tt
starts-used_constraint-key t.Foreign n p b next stack k s n0 h = absurd (n0 refl)
starts-used_constraint-key _ n p b next stack k s n0 h = differs h

pub used_constraint-to-key : (ts : List Piece) (stack : List Symbol) (k : Go (TheUsedConstraint ∷ stack)) (s : StatementP) → ((first ts) ≡ t.Foreign → ⊥) → read ts (TheUsedConstraint ∷ stack) k ≡ Some s → read ts (TheKey ∷ stack) (λ v. k (UsedKey v.0, v.1)) ≡ Some s
used_constraint-to-key [] stack k s n0 h = differs h
used_constraint-to-key (x ∷ ts) stack k s n0 h = sym (used_constraint-as-key (x ∷ ts) stack k (starts-used_constraint-key x.terminal (first ts) x.place x.bytes (read ts) stack k s n0 h)) ∙ h

starts-comparison-operand : (x n : Terminal) (p : Place) (b : List ℕ) (next : (st : List Symbol) → Go st → Option StatementP) (stack : List Symbol) (k : Go (TheComparison ∷ stack)) (s : StatementP) → read_at x n p b next (TheComparison ∷ stack) k ≡ Some s → Starts_operand x
starts-comparison-operand t.Name n p b next stack k s h = tt
starts-comparison-operand t.Relation n p b next stack k s h = tt
starts-comparison-operand t.Open n p b next stack k s h = tt
starts-comparison-operand t.Pack n p b next stack k s h = tt
starts-comparison-operand t.Unpack n p b next stack k s h = tt
starts-comparison-operand _ n p b next stack k s h = differs h

pub comparison-to-operand : (ts : List Piece) (stack : List Symbol) (k : Go (TheComparison ∷ stack)) (s : StatementP) → read ts (TheComparison ∷ stack) k ≡ Some s → read ts (TheOperand ∷ AfterLeft ∷ stack) (λ v. k (v.1.0 v.0, v.1.1)) ≡ Some s
comparison-to-operand [] stack k s h = differs h
comparison-to-operand (x ∷ ts) stack k s h = sym (comparison-as-operand (x ∷ ts) stack k (starts-comparison-operand x.terminal (first ts) x.place x.bytes (read ts) stack k s h)) ∙ h

starts-test-comparison : (x n : Terminal) (p : Place) (b : List ℕ) (next : (st : List Symbol) → Go st → Option StatementP) (stack : List Symbol) (k : Go (TheTest ∷ stack)) (s : StatementP) → (x ≡ t.Using → ⊥) → (x ≡ t.IsEmpty → ⊥) → (x ≡ t.IsNotEmpty → ⊥) → read_at x n p b next (TheTest ∷ stack) k ≡ Some s → Starts_operand x
starts-test-comparison t.Using n p b next stack k s n0 n1 n2 h = absurd (n0 refl)
starts-test-comparison t.IsEmpty n p b next stack k s n0 n1 n2 h = absurd (n1 refl)
starts-test-comparison t.IsNotEmpty n p b next stack k s n0 n1 n2 h = absurd (n2 refl)
starts-test-comparison t.Name n p b next stack k s n0 n1 n2 h = tt
starts-test-comparison t.Relation n p b next stack k s n0 n1 n2 h = tt
starts-test-comparison t.Open n p b next stack k s n0 n1 n2 h = tt
starts-test-comparison t.Pack n p b next stack k s n0 n1 n2 h = tt
starts-test-comparison t.Unpack n p b next stack k s n0 n1 n2 h = tt
starts-test-comparison _ n p b next stack k s n0 n1 n2 h = differs h

pub test-to-comparison : (ts : List Piece) (stack : List Symbol) (k : Go (TheTest ∷ stack)) (s : StatementP) → ((first ts) ≡ t.Using → ⊥) → ((first ts) ≡ t.IsEmpty → ⊥) → ((first ts) ≡ t.IsNotEmpty → ⊥) → read ts (TheTest ∷ stack) k ≡ Some s → read ts (TheComparison ∷ stack) (λ v. k (OfComparison v.0, v.1)) ≡ Some s
test-to-comparison [] stack k s n0 n1 n2 h = differs h
test-to-comparison (x ∷ ts) stack k s n0 n1 n2 h = sym (test-as-comparison (x ∷ ts) stack k (starts-test-comparison x.terminal (first ts) x.place x.bytes (read ts) stack k s n0 n1 n2 h)) ∙ h

starts-used_deletion-rel : (x n : Terminal) (p : Place) (b : List ℕ) (next : (st : List Symbol) → Go st → Option StatementP) (stack : List Symbol) (k : Go (TheUsedDeletion ∷ stack)) (s : StatementP) → (x ≡ t.Where → ⊥) → read_at x n p b next (TheUsedDeletion ∷ stack) k ≡ Some s → Starts_rel x
starts-used_deletion-rel t.Where n p b next stack k s n0 h = absurd (n0 refl)
starts-used_deletion-rel t.Using n p b next stack k s n0 h = tt
starts-used_deletion-rel t.Extend n p b next stack k s n0 h = tt
starts-used_deletion-rel t.Summarize n p b next stack k s n0 h = tt
starts-used_deletion-rel t.Name n p b next stack k s n0 h = tt
starts-used_deletion-rel t.Relation n p b next stack k s n0 h = tt
starts-used_deletion-rel t.Open n p b next stack k s n0 h = tt
starts-used_deletion-rel t.Pack n p b next stack k s n0 h = tt
starts-used_deletion-rel t.Unpack n p b next stack k s n0 h = tt
starts-used_deletion-rel _ n p b next stack k s n0 h = differs h

pub used_deletion-to-rel : (ts : List Piece) (stack : List Symbol) (k : Go (TheUsedDeletion ∷ stack)) (s : StatementP) → ((first ts) ≡ t.Where → ⊥) → read ts (TheUsedDeletion ∷ stack) k ≡ Some s → read ts (TheRel ∷ stack) (λ v. k (UsedDeleteRows v.0, v.1)) ≡ Some s
used_deletion-to-rel [] stack k s n0 h = differs h
used_deletion-to-rel (x ∷ ts) stack k s n0 h = sym (used_deletion-as-rel (x ∷ ts) stack k (starts-used_deletion-rel x.terminal (first ts) x.place x.bytes (read ts) stack k s n0 h)) ∙ h

starts-deletion-rel : (x n : Terminal) (p : Place) (b : List ℕ) (next : (st : List Symbol) → Go st → Option StatementP) (stack : List Symbol) (k : Go (TheDeletion ∷ stack)) (s : StatementP) → (x ≡ t.Where → ⊥) → (x ≡ t.Portion → ⊥) → read_at x n p b next (TheDeletion ∷ stack) k ≡ Some s → Starts_rel x
starts-deletion-rel t.Where n p b next stack k s n0 n1 h = absurd (n0 refl)
starts-deletion-rel t.Portion n p b next stack k s n0 n1 h = absurd (n1 refl)
starts-deletion-rel t.Using n p b next stack k s n0 n1 h = tt
starts-deletion-rel t.Extend n p b next stack k s n0 n1 h = tt
starts-deletion-rel t.Summarize n p b next stack k s n0 n1 h = tt
starts-deletion-rel t.Name n p b next stack k s n0 n1 h = tt
starts-deletion-rel t.Relation n p b next stack k s n0 n1 h = tt
starts-deletion-rel t.Open n p b next stack k s n0 n1 h = tt
starts-deletion-rel t.Pack n p b next stack k s n0 n1 h = tt
starts-deletion-rel t.Unpack n p b next stack k s n0 n1 h = tt
starts-deletion-rel _ n p b next stack k s n0 n1 h = differs h

pub deletion-to-rel : (ts : List Piece) (stack : List Symbol) (k : Go (TheDeletion ∷ stack)) (s : StatementP) → ((first ts) ≡ t.Where → ⊥) → ((first ts) ≡ t.Portion → ⊥) → read ts (TheDeletion ∷ stack) k ≡ Some s → read ts (TheRel ∷ stack) (λ v. k (DeleteRows v.0, v.1)) ≡ Some s
deletion-to-rel [] stack k s n0 n1 h = differs h
deletion-to-rel (x ∷ ts) stack k s n0 n1 h = sym (deletion-as-rel (x ∷ ts) stack k (starts-deletion-rel x.terminal (first ts) x.place x.bytes (read ts) stack k s n0 n1 h)) ∙ h

starts-assign-item : (x n : Terminal) (p : Place) (b : List ℕ) (next : (st : List Symbol) → Go st → Option StatementP) (stack : List Symbol) (k : Go (TheAssign ∷ stack)) (s : StatementP) → read_at x n p b next (TheAssign ∷ stack) k ≡ Some s → Starts_item x
starts-assign-item t.Name n p b next stack k s h = tt
starts-assign-item t.Insert n p b next stack k s h = tt
starts-assign-item t.Delete n p b next stack k s h = tt
starts-assign-item t.Update n p b next stack k s h = tt
starts-assign-item t.Terminate n p b next stack k s h = tt
starts-assign-item t.Using n p b next stack k s h = tt
starts-assign-item _ n p b next stack k s h = differs h

pub assign-to-item : (ts : List Piece) (stack : List Symbol) (k : Go (TheAssign ∷ stack)) (s : StatementP) → read ts (TheAssign ∷ stack) k ≡ Some s → read ts (TheItem ∷ MoreItems ∷ stack) (λ v. k (Assign v.0 v.1.0, v.1.1)) ≡ Some s
assign-to-item [] stack k s h = differs h
assign-to-item (x ∷ ts) stack k s h = sym (assign-as-item (x ∷ ts) stack k (starts-assign-item x.terminal (first ts) x.place x.bytes (read ts) stack k s h)) ∙ h

starts-statement-assign : (x n : Terminal) (p : Place) (b : List ℕ) (next : (st : List Symbol) → Go st → Option StatementP) (stack : List Symbol) (k : Go (TheStatement ∷ stack)) (s : StatementP) → (x ≡ t.Semicolon → ⊥) → (x ≡ t.TypeWord → ⊥) → (x ≡ t.Var → ⊥) → (x ≡ t.History → ⊥) → (x ≡ t.Constraint → ⊥) → (x ≡ t.Drop → ⊥) → (x ≡ t.Print → ⊥) → (x ≡ t.Ask → ⊥) → (x ≡ t.Name → ⊥) → read_at x n p b next (TheStatement ∷ stack) k ≡ Some s → Starts_item x
starts-statement-assign t.Semicolon n p b next stack k s n0 n1 n2 n3 n4 n5 n6 n7 n8 h = absurd (n0 refl)
starts-statement-assign t.TypeWord n p b next stack k s n0 n1 n2 n3 n4 n5 n6 n7 n8 h = absurd (n1 refl)
starts-statement-assign t.Var n p b next stack k s n0 n1 n2 n3 n4 n5 n6 n7 n8 h = absurd (n2 refl)
starts-statement-assign t.History n p b next stack k s n0 n1 n2 n3 n4 n5 n6 n7 n8 h = absurd (n3 refl)
starts-statement-assign t.Constraint n p b next stack k s n0 n1 n2 n3 n4 n5 n6 n7 n8 h = absurd (n4 refl)
starts-statement-assign t.Drop n p b next stack k s n0 n1 n2 n3 n4 n5 n6 n7 n8 h = absurd (n5 refl)
starts-statement-assign t.Print n p b next stack k s n0 n1 n2 n3 n4 n5 n6 n7 n8 h = absurd (n6 refl)
starts-statement-assign t.Ask n p b next stack k s n0 n1 n2 n3 n4 n5 n6 n7 n8 h = absurd (n7 refl)
starts-statement-assign t.Name n p b next stack k s n0 n1 n2 n3 n4 n5 n6 n7 n8 h = tt
starts-statement-assign t.Insert n p b next stack k s n0 n1 n2 n3 n4 n5 n6 n7 n8 h = tt
starts-statement-assign t.Delete n p b next stack k s n0 n1 n2 n3 n4 n5 n6 n7 n8 h = tt
starts-statement-assign t.Update n p b next stack k s n0 n1 n2 n3 n4 n5 n6 n7 n8 h = tt
starts-statement-assign t.Terminate n p b next stack k s n0 n1 n2 n3 n4 n5 n6 n7 n8 h = tt
starts-statement-assign t.Using n p b next stack k s n0 n1 n2 n3 n4 n5 n6 n7 n8 h = tt
starts-statement-assign _ n p b next stack k s n0 n1 n2 n3 n4 n5 n6 n7 n8 h = differs h

pub statement-to-assign : (ts : List Piece) (stack : List Symbol) (k : Go (TheStatement ∷ stack)) (s : StatementP) → ((first ts) ≡ t.Semicolon → ⊥) → ((first ts) ≡ t.TypeWord → ⊥) → ((first ts) ≡ t.Var → ⊥) → ((first ts) ≡ t.History → ⊥) → ((first ts) ≡ t.Constraint → ⊥) → ((first ts) ≡ t.Drop → ⊥) → ((first ts) ≡ t.Print → ⊥) → ((first ts) ≡ t.Ask → ⊥) → ((first ts) ≡ t.Name → ⊥) → read ts (TheStatement ∷ stack) k ≡ Some s → read ts (TheAssign ∷ Just t.Semicolon ∷ stack) (λ v. k (Assignment v.0, v.1.1)) ≡ Some s
statement-to-assign [] stack k s n0 n1 n2 n3 n4 n5 n6 n7 n8 h = differs h
statement-to-assign (x ∷ ts) stack k s n0 n1 n2 n3 n4 n5 n6 n7 n8 h = sym (statement-as-assign (x ∷ ts) stack k (starts-statement-assign x.terminal (first ts) x.place x.bytes (read ts) stack k s n0 n1 n2 n3 n4 n5 n6 n7 n8 h) (λ e. absurd (n8 e))) ∙ h

is-TheKey : (x n : Terminal) (p : Place) (b : List ℕ) (next : (st : List Symbol) → Go st → Option StatementP) (stack : List Symbol) (k : Go (TheKey ∷ stack)) (s : StatementP) → read_at x n p b next (TheKey ∷ stack) k ≡ Some s → x ≡ t.Key
is-TheKey t.Key n p b next stack k s h = refl
is-TheKey _ n p b next stack k s h = differs h

must-TheKey : (ts : List Piece) (stack : List Symbol) (k : Go (TheKey ∷ stack)) (s : StatementP) → read ts (TheKey ∷ stack) k ≡ Some s → first ts ≡ t.Key
must-TheKey [] stack k s h = differs h
must-TheKey (x ∷ ts) stack k s h = is-TheKey x.terminal (first ts) x.place x.bytes (read ts) stack k s h

pub step-TheKey : (p : Place) (b : List ℕ) (old new : List Piece) (stack : List Symbol) (k : Go (TheKey ∷ stack)) (s : StatementP) → p ≡ place_of old → b ≡ bytes_of old → new ≡ behind old → read old (TheKey ∷ stack) k ≡ Some s → read_at t.Key (first new) p b (read new) (TheKey ∷ stack) k ≡ Some s
step-TheKey p b old new stack k s hp hb hn h = at t.Key p b old new (TheKey ∷ stack) k s (must-TheKey old stack k s h) refl hp hb hn h

is-TheForeign : (x n : Terminal) (p : Place) (b : List ℕ) (next : (st : List Symbol) → Go st → Option StatementP) (stack : List Symbol) (k : Go (TheForeign ∷ stack)) (s : StatementP) → read_at x n p b next (TheForeign ∷ stack) k ≡ Some s → x ≡ t.Foreign
is-TheForeign t.Foreign n p b next stack k s h = refl
is-TheForeign _ n p b next stack k s h = differs h

must-TheForeign : (ts : List Piece) (stack : List Symbol) (k : Go (TheForeign ∷ stack)) (s : StatementP) → read ts (TheForeign ∷ stack) k ≡ Some s → first ts ≡ t.Foreign
must-TheForeign [] stack k s h = differs h
must-TheForeign (x ∷ ts) stack k s h = is-TheForeign x.terminal (first ts) x.place x.bytes (read ts) stack k s h

pub step-TheForeign : (p : Place) (b : List ℕ) (old new : List Piece) (stack : List Symbol) (k : Go (TheForeign ∷ stack)) (s : StatementP) → p ≡ place_of old → b ≡ bytes_of old → new ≡ behind old → read old (TheForeign ∷ stack) k ≡ Some s → read_at t.Foreign (first new) p b (read new) (TheForeign ∷ stack) k ≡ Some s
step-TheForeign p b old new stack k s hp hb hn h = at t.Foreign p b old new (TheForeign ∷ stack) k s (must-TheForeign old stack k s h) refl hp hb hn h

is-TheConstraint : (x n : Terminal) (p : Place) (b : List ℕ) (next : (st : List Symbol) → Go st → Option StatementP) (stack : List Symbol) (k : Go (TheConstraint ∷ stack)) (s : StatementP) → (x ≡ t.Key → ⊥) → (x ≡ t.Foreign → ⊥) → (x ≡ t.Packed → ⊥) → (x ≡ t.When → ⊥) → read_at x n p b next (TheConstraint ∷ stack) k ≡ Some s → x ≡ t.Using
is-TheConstraint t.Key n p b next stack k s n0 n1 n2 n3 h = absurd (n0 refl)
is-TheConstraint t.Foreign n p b next stack k s n0 n1 n2 n3 h = absurd (n1 refl)
is-TheConstraint t.Packed n p b next stack k s n0 n1 n2 n3 h = absurd (n2 refl)
is-TheConstraint t.When n p b next stack k s n0 n1 n2 n3 h = absurd (n3 refl)
is-TheConstraint t.Using n p b next stack k s n0 n1 n2 n3 h = refl
is-TheConstraint _ n p b next stack k s n0 n1 n2 n3 h = differs h

must-TheConstraint : (ts : List Piece) (stack : List Symbol) (k : Go (TheConstraint ∷ stack)) (s : StatementP) → ((first ts) ≡ t.Key → ⊥) → ((first ts) ≡ t.Foreign → ⊥) → ((first ts) ≡ t.Packed → ⊥) → ((first ts) ≡ t.When → ⊥) → read ts (TheConstraint ∷ stack) k ≡ Some s → first ts ≡ t.Using
must-TheConstraint [] stack k s n0 n1 n2 n3 h = differs h
must-TheConstraint (x ∷ ts) stack k s n0 n1 n2 n3 h = is-TheConstraint x.terminal (first ts) x.place x.bytes (read ts) stack k s n0 n1 n2 n3 h

pub step-TheConstraint : (p : Place) (b : List ℕ) (old new : List Piece) (stack : List Symbol) (k : Go (TheConstraint ∷ stack)) (s : StatementP) → ((first old) ≡ t.Key → ⊥) → ((first old) ≡ t.Foreign → ⊥) → ((first old) ≡ t.Packed → ⊥) → ((first old) ≡ t.When → ⊥) → p ≡ place_of old → b ≡ bytes_of old → new ≡ behind old → read old (TheConstraint ∷ stack) k ≡ Some s → read_at t.Using (first new) p b (read new) (TheConstraint ∷ stack) k ≡ Some s
step-TheConstraint p b old new stack k s n0 n1 n2 n3 hp hb hn h = at t.Using p b old new (TheConstraint ∷ stack) k s (must-TheConstraint old stack k s n0 n1 n2 n3 h) refl hp hb hn h

is-InRel : (x n : Terminal) (p : Place) (b : List ℕ) (next : (st : List Symbol) → Go st → Option StatementP) (stack : List Symbol) (k : Go (InRel ∷ stack)) (s : StatementP) → read_at x n p b next (InRel ∷ stack) k ≡ Some s → x ≡ t.Open
is-InRel t.Open n p b next stack k s h = refl
is-InRel _ n p b next stack k s h = differs h

must-InRel : (ts : List Piece) (stack : List Symbol) (k : Go (InRel ∷ stack)) (s : StatementP) → read ts (InRel ∷ stack) k ≡ Some s → first ts ≡ t.Open
must-InRel [] stack k s h = differs h
must-InRel (x ∷ ts) stack k s h = is-InRel x.terminal (first ts) x.place x.bytes (read ts) stack k s h

pub step-InRel : (p : Place) (b : List ℕ) (old new : List Piece) (stack : List Symbol) (k : Go (InRel ∷ stack)) (s : StatementP) → p ≡ place_of old → b ≡ bytes_of old → new ≡ behind old → read old (InRel ∷ stack) k ≡ Some s → read_at t.Open (first new) p b (read new) (InRel ∷ stack) k ≡ Some s
step-InRel p b old new stack k s hp hb hn h = at t.Open p b old new (InRel ∷ stack) k s (must-InRel old stack k s h) refl hp hb hn h

is-TheVarForm : (x n : Terminal) (p : Place) (b : List ℕ) (next : (st : List Symbol) → Go st → Option StatementP) (stack : List Symbol) (k : Go (TheVarForm ∷ stack)) (s : StatementP) → (x ≡ t.Virtual → ⊥) → (x ≡ t.Name → ⊥) → read_at x n p b next (TheVarForm ∷ stack) k ≡ Some s → x ≡ t.Relation
is-TheVarForm t.Relation n p b next stack k s n0 n1 h = refl
is-TheVarForm t.Virtual n p b next stack k s n0 n1 h = absurd (n0 refl)
is-TheVarForm t.Name n p b next stack k s n0 n1 h = absurd (n1 refl)
is-TheVarForm _ n p b next stack k s n0 n1 h = differs h

must-TheVarForm : (ts : List Piece) (stack : List Symbol) (k : Go (TheVarForm ∷ stack)) (s : StatementP) → ((first ts) ≡ t.Virtual → ⊥) → ((first ts) ≡ t.Name → ⊥) → read ts (TheVarForm ∷ stack) k ≡ Some s → first ts ≡ t.Relation
must-TheVarForm [] stack k s n0 n1 h = differs h
must-TheVarForm (x ∷ ts) stack k s n0 n1 h = is-TheVarForm x.terminal (first ts) x.place x.bytes (read ts) stack k s n0 n1 h

pub step-TheVarForm : (p : Place) (b : List ℕ) (old new : List Piece) (stack : List Symbol) (k : Go (TheVarForm ∷ stack)) (s : StatementP) → ((first old) ≡ t.Virtual → ⊥) → ((first old) ≡ t.Name → ⊥) → p ≡ place_of old → b ≡ bytes_of old → new ≡ behind old → read old (TheVarForm ∷ stack) k ≡ Some s → read_at t.Relation (first new) p b (read new) (TheVarForm ∷ stack) k ≡ Some s
step-TheVarForm p b old new stack k s n0 n1 hp hb hn h = at t.Relation p b old new (TheVarForm ∷ stack) k s (must-TheVarForm old stack k s n0 n1 h) refl hp hb hn h

is-InKept : (x n : Terminal) (p : Place) (b : List ℕ) (next : (st : List Symbol) → Go st → Option StatementP) (stack : List Symbol) (k : Go (InKept ∷ stack)) (s : StatementP) → read_at x n p b next (InKept ∷ stack) k ≡ Some s → x ≡ t.Open
is-InKept t.Open n p b next stack k s h = refl
is-InKept _ n p b next stack k s h = differs h

must-InKept : (ts : List Piece) (stack : List Symbol) (k : Go (InKept ∷ stack)) (s : StatementP) → read ts (InKept ∷ stack) k ≡ Some s → first ts ≡ t.Open
must-InKept [] stack k s h = differs h
must-InKept (x ∷ ts) stack k s h = is-InKept x.terminal (first ts) x.place x.bytes (read ts) stack k s h

pub step-InKept : (p : Place) (b : List ℕ) (old new : List Piece) (stack : List Symbol) (k : Go (InKept ∷ stack)) (s : StatementP) → p ≡ place_of old → b ≡ bytes_of old → new ≡ behind old → read old (InKept ∷ stack) k ≡ Some s → read_at t.Open (first new) p b (read new) (InKept ∷ stack) k ≡ Some s
step-InKept p b old new stack k s hp hb hn h = at t.Open p b old new (InKept ∷ stack) k s (must-InKept old stack k s h) refl hp hb hn h

is-TheKept : (x n : Terminal) (p : Place) (b : List ℕ) (next : (st : List Symbol) → Go st → Option StatementP) (stack : List Symbol) (k : Go (TheKept ∷ stack)) (s : StatementP) → (x ≡ t.Using → ⊥) → read_at x n p b next (TheKept ∷ stack) k ≡ Some s → x ≡ t.Pack
is-TheKept t.Using n p b next stack k s n0 h = absurd (n0 refl)
is-TheKept t.Pack n p b next stack k s n0 h = refl
is-TheKept _ n p b next stack k s n0 h = differs h

must-TheKept : (ts : List Piece) (stack : List Symbol) (k : Go (TheKept ∷ stack)) (s : StatementP) → ((first ts) ≡ t.Using → ⊥) → read ts (TheKept ∷ stack) k ≡ Some s → first ts ≡ t.Pack
must-TheKept [] stack k s n0 h = differs h
must-TheKept (x ∷ ts) stack k s n0 h = is-TheKept x.terminal (first ts) x.place x.bytes (read ts) stack k s n0 h

pub step-TheKept : (p : Place) (b : List ℕ) (old new : List Piece) (stack : List Symbol) (k : Go (TheKept ∷ stack)) (s : StatementP) → ((first old) ≡ t.Using → ⊥) → p ≡ place_of old → b ≡ bytes_of old → new ≡ behind old → read old (TheKept ∷ stack) k ≡ Some s → read_at t.Pack (first new) p b (read new) (TheKept ∷ stack) k ≡ Some s
step-TheKept p b old new stack k s n0 hp hb hn h = at t.Pack p b old new (TheKept ∷ stack) k s (must-TheKept old stack k s n0 h) refl hp hb hn h

is-TheUsedItem : (x n : Terminal) (p : Place) (b : List ℕ) (next : (st : List Symbol) → Go st → Option StatementP) (stack : List Symbol) (k : Go (TheUsedItem ∷ stack)) (s : StatementP) → (x ≡ t.Insert → ⊥) → (x ≡ t.Delete → ⊥) → read_at x n p b next (TheUsedItem ∷ stack) k ≡ Some s → x ≡ t.Update
is-TheUsedItem t.Insert n p b next stack k s n0 n1 h = absurd (n0 refl)
is-TheUsedItem t.Delete n p b next stack k s n0 n1 h = absurd (n1 refl)
is-TheUsedItem t.Update n p b next stack k s n0 n1 h = refl
is-TheUsedItem _ n p b next stack k s n0 n1 h = differs h

must-TheUsedItem : (ts : List Piece) (stack : List Symbol) (k : Go (TheUsedItem ∷ stack)) (s : StatementP) → ((first ts) ≡ t.Insert → ⊥) → ((first ts) ≡ t.Delete → ⊥) → read ts (TheUsedItem ∷ stack) k ≡ Some s → first ts ≡ t.Update
must-TheUsedItem [] stack k s n0 n1 h = differs h
must-TheUsedItem (x ∷ ts) stack k s n0 n1 h = is-TheUsedItem x.terminal (first ts) x.place x.bytes (read ts) stack k s n0 n1 h

pub step-TheUsedItem : (p : Place) (b : List ℕ) (old new : List Piece) (stack : List Symbol) (k : Go (TheUsedItem ∷ stack)) (s : StatementP) → ((first old) ≡ t.Insert → ⊥) → ((first old) ≡ t.Delete → ⊥) → p ≡ place_of old → b ≡ bytes_of old → new ≡ behind old → read old (TheUsedItem ∷ stack) k ≡ Some s → read_at t.Update (first new) p b (read new) (TheUsedItem ∷ stack) k ≡ Some s
step-TheUsedItem p b old new stack k s n0 n1 hp hb hn h = at t.Update p b old new (TheUsedItem ∷ stack) k s (must-TheUsedItem old stack k s n0 n1 h) refl hp hb hn h

is-TheItem : (x n : Terminal) (p : Place) (b : List ℕ) (next : (st : List Symbol) → Go st → Option StatementP) (stack : List Symbol) (k : Go (TheItem ∷ stack)) (s : StatementP) → (x ≡ t.Insert → ⊥) → (x ≡ t.Delete → ⊥) → (x ≡ t.Update → ⊥) → (x ≡ t.Terminate → ⊥) → (x ≡ t.Using → ⊥) → read_at x n p b next (TheItem ∷ stack) k ≡ Some s → x ≡ t.Name
is-TheItem t.Name n p b next stack k s n0 n1 n2 n3 n4 h = refl
is-TheItem t.Insert n p b next stack k s n0 n1 n2 n3 n4 h = absurd (n0 refl)
is-TheItem t.Delete n p b next stack k s n0 n1 n2 n3 n4 h = absurd (n1 refl)
is-TheItem t.Update n p b next stack k s n0 n1 n2 n3 n4 h = absurd (n2 refl)
is-TheItem t.Terminate n p b next stack k s n0 n1 n2 n3 n4 h = absurd (n3 refl)
is-TheItem t.Using n p b next stack k s n0 n1 n2 n3 n4 h = absurd (n4 refl)
is-TheItem _ n p b next stack k s n0 n1 n2 n3 n4 h = differs h

must-TheItem : (ts : List Piece) (stack : List Symbol) (k : Go (TheItem ∷ stack)) (s : StatementP) → ((first ts) ≡ t.Insert → ⊥) → ((first ts) ≡ t.Delete → ⊥) → ((first ts) ≡ t.Update → ⊥) → ((first ts) ≡ t.Terminate → ⊥) → ((first ts) ≡ t.Using → ⊥) → read ts (TheItem ∷ stack) k ≡ Some s → first ts ≡ t.Name
must-TheItem [] stack k s n0 n1 n2 n3 n4 h = differs h
must-TheItem (x ∷ ts) stack k s n0 n1 n2 n3 n4 h = is-TheItem x.terminal (first ts) x.place x.bytes (read ts) stack k s n0 n1 n2 n3 n4 h

pub step-TheItem : (p : Place) (b : List ℕ) (old new : List Piece) (stack : List Symbol) (k : Go (TheItem ∷ stack)) (s : StatementP) → ((first old) ≡ t.Insert → ⊥) → ((first old) ≡ t.Delete → ⊥) → ((first old) ≡ t.Update → ⊥) → ((first old) ≡ t.Terminate → ⊥) → ((first old) ≡ t.Using → ⊥) → p ≡ place_of old → b ≡ bytes_of old → new ≡ behind old → read old (TheItem ∷ stack) k ≡ Some s → read_at t.Name (first new) p b (read new) (TheItem ∷ stack) k ≡ Some s
step-TheItem p b old new stack k s n0 n1 n2 n3 n4 hp hb hn h = at t.Name p b old new (TheItem ∷ stack) k s (must-TheItem old stack k s n0 n1 n2 n3 n4 h) refl hp hb hn h

is-AfterDrop : (x n : Terminal) (p : Place) (b : List ℕ) (next : (st : List Symbol) → Go st → Option StatementP) (stack : List Symbol) (k : Go (AfterDrop ∷ stack)) (s : StatementP) → (x ≡ t.Constraint → ⊥) → read_at x n p b next (AfterDrop ∷ stack) k ≡ Some s → x ≡ t.Var
is-AfterDrop t.Var n p b next stack k s n0 h = refl
is-AfterDrop t.Constraint n p b next stack k s n0 h = absurd (n0 refl)
is-AfterDrop _ n p b next stack k s n0 h = differs h

must-AfterDrop : (ts : List Piece) (stack : List Symbol) (k : Go (AfterDrop ∷ stack)) (s : StatementP) → ((first ts) ≡ t.Constraint → ⊥) → read ts (AfterDrop ∷ stack) k ≡ Some s → first ts ≡ t.Var
must-AfterDrop [] stack k s n0 h = differs h
must-AfterDrop (x ∷ ts) stack k s n0 h = is-AfterDrop x.terminal (first ts) x.place x.bytes (read ts) stack k s n0 h

pub step-AfterDrop : (p : Place) (b : List ℕ) (old new : List Piece) (stack : List Symbol) (k : Go (AfterDrop ∷ stack)) (s : StatementP) → ((first old) ≡ t.Constraint → ⊥) → p ≡ place_of old → b ≡ bytes_of old → new ≡ behind old → read old (AfterDrop ∷ stack) k ≡ Some s → read_at t.Var (first new) p b (read new) (AfterDrop ∷ stack) k ≡ Some s
step-AfterDrop p b old new stack k s n0 hp hb hn h = at t.Var p b old new (AfterDrop ∷ stack) k s (must-AfterDrop old stack k s n0 h) refl hp hb hn h

is-AfterLog : (x n : Terminal) (p : Place) (b : List ℕ) (next : (st : List Symbol) → Go st → Option StatementP) (stack : List Symbol) (k : Go (AfterLog ∷ stack)) (s : StatementP) → (x ≡ t.Name → ⊥) → read_at x n p b next (AfterLog ∷ stack) k ≡ Some s → x ≡ t.Assign
is-AfterLog t.Name n p b next stack k s n0 h = absurd (n0 refl)
is-AfterLog t.Assign n p b next stack k s n0 h = refl
is-AfterLog _ n p b next stack k s n0 h = differs h

must-AfterLog : (ts : List Piece) (stack : List Symbol) (k : Go (AfterLog ∷ stack)) (s : StatementP) → ((first ts) ≡ t.Name → ⊥) → read ts (AfterLog ∷ stack) k ≡ Some s → first ts ≡ t.Assign
must-AfterLog [] stack k s n0 h = differs h
must-AfterLog (x ∷ ts) stack k s n0 h = is-AfterLog x.terminal (first ts) x.place x.bytes (read ts) stack k s n0 h

pub step-AfterLog : (p : Place) (b : List ℕ) (old new : List Piece) (stack : List Symbol) (k : Go (AfterLog ∷ stack)) (s : StatementP) → ((first old) ≡ t.Name → ⊥) → p ≡ place_of old → b ≡ bytes_of old → new ≡ behind old → read old (AfterLog ∷ stack) k ≡ Some s → read_at t.Assign (first new) p b (read new) (AfterLog ∷ stack) k ≡ Some s
step-AfterLog p b old new stack k s n0 hp hb hn h = at t.Assign p b old new (AfterLog ∷ stack) k s (must-AfterLog old stack k s n0 h) refl hp hb hn h

is-AfterKept : (x n : Terminal) (p : Place) (b : List ℕ) (next : (st : List Symbol) → Go st → Option StatementP) (stack : List Symbol) (k : Go (AfterKept ∷ stack)) (s : StatementP) → infix_word_at x ≡ None → (x ≡ t.Not → ⊥) → read_at x n p b next (AfterKept ∷ stack) k ≡ Some s → x ≡ t.OpenBrace
is-AfterKept t.Union n p b next stack k s f0 n0 h = differs-back (f0)
is-AfterKept t.Intersect n p b next stack k s f0 n0 h = differs-back (f0)
is-AfterKept t.Minus n p b next stack k s f0 n0 h = differs-back (f0)
is-AfterKept t.Join n p b next stack k s f0 n0 h = differs-back (f0)
is-AfterKept t.Matching n p b next stack k s f0 n0 h = differs-back (f0)
is-AfterKept t.Not n p b next stack k s f0 n0 h = absurd (n0 refl)
is-AfterKept t.OpenBrace n p b next stack k s f0 n0 h = refl
is-AfterKept _ n p b next stack k s f0 n0 h = differs h

must-AfterKept : (ts : List Piece) (stack : List Symbol) (k : Go (AfterKept ∷ stack)) (s : StatementP) → infix_word_at (first ts) ≡ None → ((first ts) ≡ t.Not → ⊥) → read ts (AfterKept ∷ stack) k ≡ Some s → first ts ≡ t.OpenBrace
must-AfterKept [] stack k s f0 n0 h = differs h
must-AfterKept (x ∷ ts) stack k s f0 n0 h = is-AfterKept x.terminal (first ts) x.place x.bytes (read ts) stack k s f0 n0 h

pub step-AfterKept : (p : Place) (b : List ℕ) (old new : List Piece) (stack : List Symbol) (k : Go (AfterKept ∷ stack)) (s : StatementP) → infix_word_at (first old) ≡ None → ((first old) ≡ t.Not → ⊥) → p ≡ place_of old → b ≡ bytes_of old → new ≡ behind old → read old (AfterKept ∷ stack) k ≡ Some s → read_at t.OpenBrace (first new) p b (read new) (AfterKept ∷ stack) k ≡ Some s
step-AfterKept p b old new stack k s f0 n0 hp hb hn h = at t.OpenBrace p b old new (AfterKept ∷ stack) k s (must-AfterKept old stack k s f0 n0 h) refl hp hb hn h

pub row-AfterKept-infix_word : (w : InfixWord) (n : Terminal) (p : Place) (b : List ℕ) (next : (st : List Symbol) → Go st → Option StatementP) (stack : List Symbol) (k : Go (AfterKept ∷ stack)) (s : StatementP) → read_at (infix_word w) n p b next (AfterKept ∷ stack) k ≡ Some s → next (TheName ∷ stack) (λ v. k ((λ q a l. KeptInfix q a l p w v.0), v.1)) ≡ Some s
row-AfterKept-infix_word infixes.Union n p b next stack k s h = h
row-AfterKept-infix_word infixes.Intersect n p b next stack k s h = h
row-AfterKept-infix_word infixes.Minus n p b next stack k s h = h
row-AfterKept-infix_word infixes.Join n p b next stack k s h = h
row-AfterKept-infix_word infixes.Matching n p b next stack k s h = h

is-sign : (x n : Terminal) (p : Place) (b : List ℕ) (next : (st : List Symbol) → Go st → Option StatementP) (stack : List Symbol) (k : Go (Just t.Assign ∷ stack)) (s : StatementP) → read_at x n p b next (Just t.Assign ∷ stack) k ≡ Some s → x ≡ t.Assign
is-sign t.Assign n p b next stack k s h = refl
is-sign _ n p b next stack k s h = differs h

must-sign : (ts : List Piece) (stack : List Symbol) (k : Go (Just t.Assign ∷ stack)) (s : StatementP) → read ts (Just t.Assign ∷ stack) k ≡ Some s → first ts ≡ t.Assign
must-sign [] stack k s h = differs h
must-sign (x ∷ ts) stack k s h = is-sign x.terminal (first ts) x.place x.bytes (read ts) stack k s h

name-sign : t.Name ≡ t.Assign → ⊥
name-sign e = cc

named-sign : (c : Bool) (p : Place) (b : List ℕ) (ts : List Piece) (stack : List Symbol) (beyond : Go stack → Option StatementP) (k : Go (TheStatement ∷ stack)) (s : StatementP) → (first ts ≡ t.Name → ⊥) → on_turn TheStatement (cond c (Takes Plain (AfterLog ∷ [])) (Takes Plain (Just t.Assign ∷ TheRel ∷ MoreItems ∷ Just t.Semicolon ∷ []))) (pick TheStatement c (Takes Plain (AfterLog ∷ [])) (Takes Plain (Just t.Assign ∷ TheRel ∷ MoreItems ∷ Just t.Semicolon ∷ [])) (λ v. v.0 p) (λ v. Assignment (Assign (SetRelvar (word p b) v.1.0) v.1.1.0))) stack (read ts) beyond k ≡ Some s → first ts ≡ t.Assign
named-sign true p b ts stack beyond k s n0 h = must-AfterLog ts stack _ s n0 h
named-sign false p b ts stack beyond k s n0 h = must-sign ts _ _ s h

named-log : (c : Bool) (p : Place) (b : List ℕ) (ts : List Piece) (stack : List Symbol) (beyond : Go stack → Option StatementP) (k : Go (TheStatement ∷ stack)) (s : StatementP) → first ts ≡ t.Name → on_turn TheStatement (cond c (Takes Plain (AfterLog ∷ [])) (Takes Plain (Just t.Assign ∷ TheRel ∷ MoreItems ∷ Just t.Semicolon ∷ []))) (pick TheStatement c (Takes Plain (AfterLog ∷ [])) (Takes Plain (Just t.Assign ∷ TheRel ∷ MoreItems ∷ Just t.Semicolon ∷ [])) (λ v. v.0 p) (λ v. Assignment (Assign (SetRelvar (word p b) v.1.0) v.1.1.0))) stack (read ts) beyond k ≡ Some s → read ts (AfterLog ∷ stack) (λ v. k (v.0 p, v.1)) ≡ Some s
named-log true p b ts stack beyond k s is h = h
named-log false p b ts stack beyond k s is h = absurd (name-sign (sym is ∙ must-sign ts _ _ s h))

sign-behind : (ts : List Piece) (stack : List Symbol) (k : Go (TheStatement ∷ stack)) (s : StatementP) → first ts ≡ t.Name → (second ts ≡ t.Name → ⊥) → read ts (TheStatement ∷ stack) k ≡ Some s → second ts ≡ t.Assign
sign-behind [] stack k s is n0 h = differs h
sign-behind (x ∷ ts) stack k s is n0 h = named-sign (same_bytes log_word x.bytes) x.place x.bytes ts stack (read_at t.Name (first ts) x.place x.bytes (read ts) stack) k s n0 (sym (ap (λ z. read_at z (first ts) x.place x.bytes (read ts) (TheStatement ∷ stack) k) is) ∙ h)

pub name-to-assign : (ts : List Piece) (stack : List Symbol) (k : Go (TheStatement ∷ stack)) (s : StatementP) → first ts ≡ t.Name → (second ts ≡ t.Name → ⊥) → read ts (TheStatement ∷ stack) k ≡ Some s → read ts (TheAssign ∷ Just t.Semicolon ∷ stack) (λ v. k (Assignment v.0, v.1.1)) ≡ Some s
name-to-assign ts stack k s is n0 h = sym (statement-as-assign ts stack k (subst Starts_item (sym is) tt) (λ e. sign-behind ts stack k s is n0 h)) ∙ h

pub log-begins : (p : Place) (old new : List Piece) (stack : List Symbol) (k : Go (TheStatement ∷ stack)) (s : StatementP) → first old ≡ t.Name → first new ≡ t.Name → p ≡ place_of old → new ≡ behind old → read old (TheStatement ∷ stack) k ≡ Some s → read new (AfterLog ∷ stack) (λ v. k (v.0 p, v.1)) ≡ Some s
log-begins p old new stack k s is name hp hn h = named-log (same_bytes log_word (bytes_of old)) p (bytes_of old) new stack (read_at t.Name (first new) p (bytes_of old) (read new) stack) k s name (at t.Name p (bytes_of old) old new (TheStatement ∷ stack) k s is refl hp refl hn h)

kept-taken : (c : Bool) (p : Place) (stack : List Symbol) (next : (st : List Symbol) → Go st → Option StatementP) (beyond : Go stack → Option StatementP) (k : Go (TheVarForm ∷ stack)) (s : StatementP) → on_turn TheVarForm (cond c (Takes Plain (InKept ∷ [])) Never) (pick TheVarForm c (Takes Plain (InKept ∷ [])) Never (λ v. Kept p v.0) tt) stack next beyond k ≡ Some s → next (InKept ∷ stack) (λ v. k (Kept p v.0, v.1)) ≡ Some s
kept-taken true p stack next beyond k s h = h
kept-taken false p stack next beyond k s h = differs h

pub kept-begins : (p : Place) (old new : List Piece) (stack : List Symbol) (k : Go (TheVarForm ∷ stack)) (s : StatementP) → first old ≡ t.Name → p ≡ place_of old → new ≡ behind old → read old (TheVarForm ∷ stack) k ≡ Some s → read new (InKept ∷ stack) (λ v. k (Kept p v.0, v.1)) ≡ Some s
kept-begins p old new stack k s is hp hn h = kept-taken (same_bytes kept_word (bytes_of old)) p stack (read new) (read_at t.Name (first new) p (bytes_of old) (read new) stack) k s (at t.Name p (bytes_of old) old new (TheVarForm ∷ stack) k s is refl hp refl hn h)

pub more-emptiness : (w : EmptinessWord) → same (emptiness w) t.Finish ≡ false
more-emptiness emptinesses.IsEmpty = refl
more-emptiness emptinesses.IsNotEmpty = refl

pub row-TheTest-emptiness : (w : EmptinessWord) (n : Terminal) (p : Place) (b : List ℕ) (next : (st : List Symbol) → Go st → Option StatementP) (stack : List Symbol) (k : Go (TheTest ∷ stack)) (s : StatementP) → read_at (emptiness w) n p b next (TheTest ∷ stack) k ≡ Some s → next (InRel ∷ stack) (λ v. k (Emptiness p w v.0, v.1)) ≡ Some s
row-TheTest-emptiness emptinesses.IsEmpty n p b next stack k s h = h
row-TheTest-emptiness emptinesses.IsNotEmpty n p b next stack k s h = h

pub push-constraints : (xs : List ConstraintTree) (x : ConstraintTree) (v : List ConstraintP) → read_constraint_list xs ++ (read_constraint x ∷ v) ≡ read_constraint_list (xs ++ x ∷ []) ++ v
push-constraints [] x v = refl
push-constraints (y ∷ xs) x v = ap (λ z. read_constraint y ∷ z) (push-constraints xs x v)

pub push-items : (xs : List ItemTree) (x : ItemTree) (v : List ItemP) → read_item_list xs ++ (read_item x ∷ v) ≡ read_item_list (xs ++ x ∷ []) ++ v
push-items [] x v = refl
push-items (y ∷ xs) x v = ap (λ z. read_item y ∷ z) (push-items xs x v)

is-after_left : (x n : Terminal) (p : Place) (b : List ℕ) (next : (st : List Symbol) → Go st → Option StatementP) (stack : List Symbol) (k : Go (AfterLeft ∷ stack)) (s : StatementP) → read_at x n p b next (AfterLeft ∷ stack) k ≡ Some s → next (TheOperand ∷ stack) (λ v. k ((λ z. Comparison z p (relation_comparison_of x) v.0), v.1)) ≡ Some s
is-after_left t.Equal n p b next stack k s h = h
is-after_left t.NotEqual n p b next stack k s h = h
is-after_left t.Less n p b next stack k s h = h
is-after_left t.LessEqual n p b next stack k s h = h
is-after_left t.Greater n p b next stack k s h = h
is-after_left t.GreaterEqual n p b next stack k s h = h
is-after_left _ n p b next stack k s h = differs h

pub after-left : (w : RelationComparison) (p : Place) (old new : List Piece) (stack : List Symbol) (k : Go (AfterLeft ∷ stack)) (s : StatementP) → w ≡ relation_comparison_of (first old) → p ≡ place_of old → new ≡ behind old → read old (AfterLeft ∷ stack) k ≡ Some s → read new (TheOperand ∷ stack) (λ v. k ((λ x. Comparison x p w v.0), v.1)) ≡ Some s
after-left w p [] new stack k s e hp hn h = differs h
after-left w p (o ∷ ts) new stack k s e hp hn h = ap (λ z. read new (TheOperand ∷ stack) (λ v. k ((λ x. Comparison x p z v.0), v.1))) e ∙ ap (λ z. read new (TheOperand ∷ stack) (λ v. k ((λ x. Comparison x z (relation_comparison_of o.terminal) v.0), v.1))) hp ∙ ap (λ z. read z (TheOperand ∷ stack) (λ v. k ((λ x. Comparison x o.place (relation_comparison_of o.terminal) v.0), v.1))) hn ∙ is-after_left o.terminal (first ts) o.place o.bytes (read ts) stack k s h
