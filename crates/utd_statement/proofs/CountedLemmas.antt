-- What a statement makes of a state has the count of accepted statements as it was: the statement is counted behind it.
--     after-counted      the state after an accepted statement
--     made-performed, made-count      what is made is counted, and has the count as it was
--     replied-count, answered-count      how far it rises
use Rattle.std.proofs.Common.{◌≡◌, ℕ, ℤ, pos, ◌+ℤ◌, ◌≤ℤ◌, Bool, true, false, List, [], ◌∷◌, Result, Ok, Err, Vec, Global, IfOk, if◌then◌else◌, refl, sym, ap, ◌∙◌, subst, arith}
use Rattle.std.proofs.lemmas.Int.{ints}
use Rattle.std.specs.Prelude.{OnErr}
use Rattle.std.proofs.lemmas.Bool.{true≢false}
use Rattle.point_core.specs.declared.fault.Place.{Place}
use Rattle.point_core.specs.declared.memory.Memory.{Memory as NoMemory}
use Rattle.point_core.specs.declared.fault.Code.TheVariants.{E45, E46}
use Rattle.point_core.specs.Faults.{OrFault}
use Rattle.value_core.specs.declared.refuse.Refuse.{Refuse}
use Rattle.value_core.specs.declared.refuse.Refuse.TheVariants.{Broken, Plain as PlainRefusal}
use Rattle.value_core.specs.Values.{Name}
use Rattle.tree_core.specs.Relvars.{Entries, State}
use Rattle.tree_core.specs.Trees.{Test, Tree}
use Rattle.meaning_core.specs.Declarations.{PlainDeclaration, ordinal_type, base_relvar, view_relvar, counted, with_declaration, with_log, with_rule}
use Rattle.meaning_core.specs.Meanings.{RowsMeant, meaning_in}
use Rattle.meaning_core.specs.Truths.{holds_in, truth_in}
use Rattle.assign_core.specs.Assignments.{assigned_in, constrained}
use Rattle.assign_core.specs.Items.{assignments_of}
use Rattle.assign_core.specs.Room.{have_room, if_room, stored_if, with_stored}
use Rattle.since_during.specs.Histories.{declared_history, declared_in}
use Rattle.utd_syntax.specs.Plain.{StatementP}
use Rattle.type_check.specs.Checks.{Plain, nothing, declare_ordinal, declare_base, declare_view, declare_kept, declare_history, declare_log, remove, declare_rule, remove_rule, assign, print, ask, checked}
use Rattle.dump_core.specs.Texts.{SourceText}
use Rattle.utd_statement.specs.declared.reply.Reply.{Reply}
use Rattle.utd_statement.specs.Answers.{Answer, Done, Changed, Table, Truth, Refusal, answer, if_allowed, is_accepted, made_by, of_checked, of_tree, relation_in, state_after, unless_fault, unless_refused}
use Rattle.utd_statement.specs.Readings.{Reading, Tree as TreeOf, Refused}
use Rattle.utd_statement.specs.Replies.{IsAnswered, IsAnswerTo, IsMade, IsPerformed}

-- ---- the state after an accepted statement

pub after-counted : (s : State) (a : Answer) → is_accepted a ≡ true → counted (made_by s a) ≡ state_after s a
after-counted s (Changed new) e = refl
after-counted s Done e = refl
after-counted s (Table types relation) e = refl
after-counted s (Truth b) e = refl
after-counted s (Refusal refuse) e = absurd (true≢false (sym e))

-- ---- the count before that

declared-count : (s : State) (d : PlainDeclaration) → (with_declaration s d).accepted ≡ s.accepted
declared-count s (ordinal_type name values) = refl
declared-count s (base_relvar name heading constraints) = refl
declared-count s (view_relvar name t kind) = refl

list-count : (ds : List PlainDeclaration) (s : State) → (declared_in s ds).accepted ≡ s.accepted
list-count [] s = refl
list-count (d ∷ ds) s = list-count ds (with_declaration s d) ∙ declared-count s d

module _ (s : State) where
  allowed-count : (name : Name) (t : Test) → (made_by s (if_allowed (constrained s name t))).accepted ≡ s.accepted
  allowed-count name t = by (holds_in s.relvars t)
    where
      by : (b : Bool) → (made_by s (if_allowed (if b then Ok (with_rule name t s) else Err (Broken E45 name 0)))).accepted ≡ s.accepted
      by true = refl
      by false = refl

  room-count : (new : State) → new.accepted ≡ s.accepted → (made_by s (if_allowed (if_room new))).accepted ≡ s.accepted
  room-count new same = by (have_room new.relvars)
    where
      by : (b : Bool) → (made_by s (if_allowed (if b then Ok new else Err (PlainRefusal E46)))).accepted ≡ s.accepted
      by true = same
      by false = refl

  stored-count : (name : Name) (t : Tree) (meant : RowsMeant) → (made_by s (if_allowed (stored_if meant s name t))).accepted ≡ s.accepted
  stored-count name t (Ok rows) = room-count (with_stored s name t) refl
  stored-count name t (Err fault) = refl

  refused-count : (r : Result Entries Refuse) → (made_by s (unless_refused s r)).accepted ≡ s.accepted
  refused-count (Ok entries) = refl
  refused-count (Err refuse) = refl

  fault-count : {A : Type 0} (f : A → Answer) → ((v : A) → (made_by s (f v)).accepted ≡ s.accepted) → (r : OrFault A) → (made_by s (unless_fault f r)).accepted ≡ s.accepted
  fault-count f same (Ok v) = same v
  fault-count f same (Err e) = refl

  pub checked-count : (p : Plain) → (made_by s (of_checked s p)).accepted ≡ s.accepted
  checked-count nothing = refl
  checked-count (declare_ordinal d) = declared-count s d
  checked-count (declare_base d) = declared-count s d
  checked-count (declare_view d) = declared-count s d
  checked-count (declare_kept name t) = stored-count name t (meaning_in s.relvars t)
  checked-count (declare_history h) = list-count (declared_history h) s
  checked-count (declare_log d) = room-count (with_log s d) refl
  checked-count (remove name) = refl
  checked-count (declare_rule name t) = allowed-count name t
  checked-count (remove_rule name) = refl
  checked-count (assign items) = refused-count (assigned_in s (assignments_of s.relvars items))
  checked-count (print t) = fault-count (Table s.ordinals) (λ r. refl) (relation_in s t)
  checked-count (ask t) = fault-count Truth (λ b. refl) (truth_in s.relvars t)

  tree-count : (tree : StatementP) → (made_by s (of_tree s tree)).accepted ≡ s.accepted
  tree-count tree = fault-count (of_checked s) checked-count (checked s tree)

-- and so it is counted
pub made-performed : (text : Vec ℕ Global) (old mid new : State) (a : Answer) → IsMade (Ok text) old mid a → new ≡ counted mid → IsPerformed (Ok text) old new a
made-performed text old mid new a h e = (h.0, e ∙ (ap counted h.1 ∙ after-counted old a h.0.1))

-- the count of what is made, of a typed statement
pub made-count : (made : Result (Vec ℕ Global) Refuse) (old mid : State) (p : Plain) → IsMade made old mid (of_checked old p) → mid.accepted ≡ old.accepted
made-count (Ok text) old mid p h = ap (λ (s : State). s.accepted) h.1 ∙ checked-count old p
made-count (Err refuse) old mid p h = ap (λ (s : State). s.accepted) h.1

-- ---- how far it rises

abbrev RisesByOne : State → State → Type 0
RisesByOne old new = new.accepted ≤ℤ (old.accepted +ℤ pos 1)

after-rises : (s : State) (a : Answer) → (made_by s a).accepted ≡ s.accepted → RisesByOne s (state_after s a)
after-rises s (Changed new) e = omega (arith, ints, e)
after-rises s Done e = omega (arith, ints)
after-rises s (Table types relation) e = omega (arith, ints)
after-rises s (Truth b) e = omega (arith, ints)
after-rises s (Refusal refuse) e = omega (arith, ints)

reading-rises : (s : State) (r : Reading) → RisesByOne s (state_after s (answer s r))
reading-rises s (TreeOf tree) = after-rises s (of_tree s tree) (tree-count s tree)
reading-rises s (Refused refuse) = omega (arith, ints)

pub replied-count : (result : Result Reply NoMemory) (n : ℕ) (old new : State) (tree : StatementP) → IsAnswered result n old new (of_tree old tree) → RisesByOne old new
replied-count (Ok reply) n old new tree h = subst (RisesByOne old) (sym h.1) (after-rises old (of_tree old tree) (tree-count old tree))
replied-count (Err memory) n old new tree h = subst (RisesByOne old) (sym h) (omega (arith, ints))

pub answered-count : (result : Result Reply NoMemory) (start : Place) (bytes : List ℕ) (n : ℕ) (old new : State) (texts texts_now : List SourceText)
    → IfOk result (λ reply. IsAnswerTo start bytes n old new texts texts_now reply) → OnErr result (new ≡ old) → RisesByOne old new
answered-count (Ok reply) start bytes n old new texts texts_now h stays = subst (RisesByOne old) (sym h.3) (reading-rises old h.0)
answered-count (Err memory) start bytes n old new texts texts_now h stays = subst (RisesByOne old) (sym stays) (omega (arith, ints))
