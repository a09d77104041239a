-- What a statement makes of a state: one that is well made, whose rows have a value for each attribute, and whose logs are those that there
-- were and new ones.
--     IsMadeSo      that
--     made-so      what any statement that is read makes
use Rattle.std.proofs.Common.{◌≡◌, inl, inr, ℕ, Bool, true, false, cond, List, [], ◌∷◌, ◌++◌, length, refl, sym, ap, ◌∙◌, subst, Option, Some, None, Ok, Err, IfOk, Result}
use Rattle.std.specs.Prelude.{ℤ}
use Rattle.std.specs.List.{All, IsDistinct}
use Rattle.std.specs.Str.{bytes_eq}
use Rattle.std.proofs.lemmas.List.Elements.{All-head, All-tail}
use Rattle.point_core.specs.declared.fault.Code.TheVariants.{E45, E46}
use Rattle.point_core.specs.Faults.{OrFault}
use Rattle.value_core.specs.declared.refuse.Refuse.{Refuse}
use Rattle.value_core.specs.declared.refuse.Refuse.TheVariants.{Broken, Plain as PlainRefusal}
use Rattle.value_core.specs.Values.{Name, Heading, Relation}
use Rattle.tree_core.specs.declared.declaration.LogData.{LogData}
use Rattle.tree_core.specs.Items.{PlainItem, PlainAssignment}
use Rattle.tree_core.specs.Relvars.{State, PlainRelvar, base, view, log, Entries, relvar_named, heading_if, of_history, stored}
use Rattle.tree_core.specs.Trees.{Tree, Test, heading_of}
use Rattle.tree_core.specs.Uses.{is_one_of}
use Rattle.meaning_core.specs.Declarations.{PlainDeclaration, ordinal_type, base_relvar, view_relvar, with_declaration, group, without_group, with_rule, without_rule, with_log}
use Rattle.log_times.specs.Turns.{log_heading}
use Rattle.meaning_core.specs.Logs.{new_log}
use Rattle.meaning_core.specs.Meanings.{RowsMeant, meaning_in}
use Rattle.meaning_core.specs.Names.{given}
use Rattle.meaning_core.specs.Truths.{holds_in, truth_in}
use Rattle.meaning_core.specs.Typing.{Headings, IsTypedTree}
use Rattle.meaning_core.specs.Updates.{IsTypedItem, IsTypedAssignment}
use Rattle.meaning_core.specs.WellMade.{sizes_of, headings_of, AreRelvars, IsWellMade}
use Rattle.meaning_core.proofs.LookupLemmas.{under_ok}
use Rattle.meaning_core.proofs.RowlessLemmas.{bare_all, bare-keeps, heading-keeps, headings-bare, names-bare}
use Rattle.tree_core.specs.declared.declaration.HistoryData.{HistoryData}
use Rattle.since_during.specs.Histories.{since_heading, during_heading, since_constraints, during_constraints, view_of, declared_history, declared_in}
use Rattle.since_during.proofs.HistoryMade.{history-made}
use Rattle.row_typing_laws.proofs.Parts.{parts-of}
use Rattle.type_check.specs.Checks.{Plain, nothing, declare_ordinal, declare_base, declare_view, declare_kept, declare_history, declare_log, remove, declare_rule, remove_rule, assign, print, ask, checked, IsTypedPlain}
use Rattle.type_check.proofs.CheckLemmas.{checked-typed}
use Rattle.assign_core.specs.Assignments.{seen_by, source_value, with_target, evaluated, assigned_in}
use Rattle.assign_core.specs.Breaches.{value_if}
use Rattle.assign_core.specs.Items.{assignments_of}
use Rattle.assign_core.specs.Room.{have_room, with_stored, stored_if}
use Rattle.utd_statement.specs.Answers.{Answer, Table, Truth, unless_fault, relation_in, unless_refused, if_allowed, of_checked, answer, made_by}
use Rattle.utd_statement.specs.Readings.{Reading, Refused}
use Rattle.utd_statement.specs.Readings as readings
use Rattle.dump_laws.proofs.AssignedLaws.{names_in, all-typed, bare-given, assigned-values, names-differ}
use Rattle.log_laws.proofs.RowLengths.{HaveLength}
use Rattle.log_laws.proofs.EntryLengths.{AreLong, IsLongIf, long-named, long-given, long-more, long-some, meant-long}
use Rattle.log_laws.proofs.KeptLogs.{named-more, logs-more, logs-left, logs-given}
use Rattle.log_laws.proofs.PastLaws.{IsNewLog, AreLogsKept}

pub record IsMadeSo (w v : State) : Type 0 where
  pub made : IsWellMade v
  pub long : AreLong v.relvars
  pub count : v.accepted ≡ w.accepted
  pub logs : AreLogsKept w v

-- ---- assignments

-- no other value is given
given-nothing : (name : Name) (es : Entries) → given (Some name) None es ≡ es
given-nothing name [] = refl
given-nothing name (e ∷ es) = ap (λ (l : Entries). e ∷ l) (given-nothing name es)

module _ (s : State) (made : IsWellMade s) (longs : AreLong s.relvars) where
  -- entries that differ from those of the state in their rows alone, and are long
  record IsLikewise (es : Entries) : Type 0 where
    pub same : bare_all es ≡ bare_all s.relvars
    pub long : AreLong es

  likewise-differ : (es : Entries) → bare_all es ≡ bare_all s.relvars → IsDistinct bytes_eq (names_in es)
  likewise-differ es same = subst (IsDistinct bytes_eq) (sym (names-bare s.relvars) ∙ (ap names_in (sym same) ∙ names-bare es)) (names-differ s made)

  -- with another value of a relvar
  with-given : (es : Entries) (name : Name) (value : Relation) → IsLikewise es → value.heading ≡ heading_if (relvar_named es name) → HaveLength (length value.heading) value.rows
      → IsLikewise (given (Some name) (Some value) es)
  with-given es name value is headed long = record {
    same = bare-given name value es (likewise-differ es is.same) headed ∙ is.same;
    long = long-given name value es long is.long;
  }

  own : IsLikewise s.relvars
  own = record { same = refl; long = longs }

  -- what a source sees
  seen-so : (new : Entries) (name : Name) → IsLikewise new → IsLikewise (seen_by s.relvars new name)
  seen-so new name is = by (relvar_named new name) (heading-keeps new s.relvars is.same name) (long-named new name is.long)
    where
      by : (o : Option PlainRelvar) → heading_if o ≡ heading_if (relvar_named s.relvars name) → IsLongIf o → IsLikewise (given (Some name) (value_if o) s.relvars)
      by None headed long = subst IsLikewise (sym (given-nothing name s.relvars)) own
      by (Some (base value constraints)) headed long = with-given s.relvars name value own headed long
      by (Some (view t kind)) headed long = subst IsLikewise (sym (given-nothing name s.relvars)) own
      by (Some (log of side last value)) headed long = subst IsLikewise (sym (given-nothing name s.relvars)) own

  -- the value of a source has the heading of its tree, and a value for each attribute
  source-long : (new : Entries) (a : PlainAssignment) (value : Relation) → IsLikewise new → IsTypedAssignment s a → source_value s.relvars new a ≡ Ok value
      → (heading_of a.tree ≡ value.heading) × HaveLength (length value.heading) value.rows
  source-long new a value is typed e =
      let seen = seen-so new a.target is in
      let rows = under_ok (heading_of a.tree) (meaning_in (seen_by s.relvars new a.target) a.tree) value e in
      let all : AreRelvars (sizes_of s.ordinals) [] (seen_by s.relvars new a.target) = (bare-keeps s (seen_by s.relvars new a.target) seen.same made).relvars in
      let heads : headings_of s.relvars ≡ headings_of (seen_by s.relvars new a.target) = sym (headings-bare s.relvars) ∙ (ap headings_of (sym seen.same) ∙ headings-bare (seen_by s.relvars new a.target)) in
      let long = meant-long (sizes_of s.ordinals) (seen_by s.relvars new a.target) all seen.long a.tree (subst (λ (hs : Headings). IsTypedTree (sizes_of s.ordinals) hs a.tree) heads typed.typed) value.rows rows.0 in
      (rows.1, subst (λ (h : Heading). HaveLength (length h) value.rows) rows.1 long)

  AreLogsOf : Entries → Entries → Type 0
  AreLogsOf old new =
      (name of : Name) (side : ℕ) (last : ℤ) (value : Relation) → relvar_named new name ≡ Some (log of side last value) → relvar_named old name ≡ Some (log of side last value)

  evaluated-so : (list : List PlainAssignment) (new last : Entries) → All (IsTypedAssignment s) list → IsLikewise new → evaluated s.relvars new list ≡ Ok last → IsLikewise last × AreLogsOf new last
  unfolding AreLogsOf
  evaluated-so [] new last are is e =
      let same : new ≡ last = cc in
      (subst IsLikewise same is, λ name of side n value f. ap (λ (l : Entries). relvar_named l name) same ∙ f)
  evaluated-so (a ∷ rest) new last are is e =
      let typed = All-head (IsTypedAssignment s) a rest are in
      let parts = parts-of (source_value s.relvars new a) (λ value. evaluated s.relvars (with_target new a.target value) rest) last e in
      let source = source-long new a parts.0 is typed parts.1 in
      let headed : parts.0.heading ≡ heading_if (relvar_named new a.target) = sym source.0 ∙ (typed.headed ∙ sym (heading-keeps new s.relvars is.same a.target)) in
      let more = evaluated-so rest (with_target new a.target parts.0) last (All-tail (IsTypedAssignment s) a rest are) (with-given new a.target parts.0 is headed source.1) parts.2 in
      (more.0, λ name of side n value f. logs-given a.target parts.0 new name of side n value (more.1 name of side n value f))

  assigned-so : (items : List PlainItem) → All (IsTypedItem s) items → (last : Entries) → assigned_in s (assignments_of s.relvars items) ≡ Ok last → IsMadeSo s (record s { relvars = last })
  unfolding AreLogsOf
  assigned-so items typed last e =
      let list : List PlainAssignment = assignments_of s.relvars items in
      let done = evaluated-so list s.relvars last (all-typed s items made typed) own (assigned-values s made list last e) in
      record {
        made = bare-keeps s last done.0.same made;
        long = done.0.long;
        count = refl;
        logs = λ name of side n value f. inl (done.1 name of side n value f);
      }

-- ---- statements

module _ (w : State) (made : IsWellMade w) (longs : AreLong w.relvars) where
  stays-so : IsMadeSo w w
  stays-so = record { made = made; long = longs; count = refl; logs = λ name of side last value e. inl e }

  declared-so : (d : PlainDeclaration) → IsWellMade (with_declaration w d) → IsMadeSo w (with_declaration w d)
  declared-so (ordinal_type name values) then = record { made = then; long = longs; count = refl; logs = λ n of side last value e. inl e }
  declared-so (base_relvar name heading constraints) then = record {
    made = then;
    long = long-more w.relvars _ longs (λ x i. absurd i, tt);
    count = refl;
    logs = λ n of side last value e. inl (logs-more w.relvars _ refl n of side last value e);
  }
  declared-so (view_relvar name t kind) then = record {
    made = then;
    long = long-more w.relvars _ longs (tt, tt);
    count = refl;
    logs = λ n of side last value e. inl (logs-more w.relvars _ refl n of side last value e);
  }

  -- a stored view is declared, or refused
  room-so : (name : Name) (t : Tree) → IsWellMade (with_stored w name t) → (b : Bool) → IsMadeSo w (made_by w (if_allowed (cond b (Ok (with_stored w name t)) (Err (PlainRefusal E46)))))
  room-so name t then true = declared-so (view_relvar name t stored) then
  room-so name t then false = stays-so

  stored-so : (name : Name) (t : Tree) → IsWellMade (with_stored w name t) → (meant : RowsMeant) → IsMadeSo w (made_by w (if_allowed (stored_if meant w name t)))
  stored-so name t then (Ok rows) = room-so name t then (have_room (with_stored w name t).relvars)
  stored-so name t then (Err fault) = stays-so

  -- a log is declared
  log-so : (d : LogData) → IsWellMade (with_log w d) → IsMadeSo w (with_log w d)
  log-so d then = record {
    made = then;
    long = long-more w.relvars _ longs (λ x i. absurd i, tt);
    count = refl;
    logs = λ name of side last value e.
        elim (named-more w.relvars _ name (log of side last value) e) [
          | inl old ↦ inl old
          | inr new ↦ inr (begins name of side last value (bytes_eq d.name name) new.0 new.1)
        ];
  }
    where
      begins : (name of : Name) (side : ℕ) (last : ℤ) (value : Relation) (b : Bool) → relvar_named w.relvars name ≡ None
          → cond b (Some (new_log (heading_if (relvar_named w.relvars d.of)) w.accepted d)) None ≡ Some (log of side last value) → IsNewLog w name last value
      begins name of side last value false none e = absurd (cc)
      begins name of side last value true none e =
          let number : w.accepted ≡ last = cc in
          let own : record { heading = log_heading (heading_if (relvar_named w.relvars d.of)) d.attribute; rows = [] } ≡ value = cc in
          record { free = none; begins = sym number; none = ap (λ (r : Relation). r.rows) (sym own) }

  opened-so : (d : LogData) → IsWellMade (with_log w d) → (b : Bool) (refuse : Refuse) → IsMadeSo w (made_by w (if_allowed (cond b (Ok (with_log w d)) (Err refuse))))
  opened-so d then true refuse = log-so d then
  opened-so d then false refuse = stays-so

  -- a relvar, view, history or log is dropped
  dropped-so : (name : Name) → IsWellMade (without_group name w) → IsMadeSo w (without_group name w)
  dropped-so name then = record {
    made = then;
    long = long-some _ w.relvars longs;
    count = refl;
    logs = λ n of side last value e. inl (logs-left (is_one_of (group w.relvars name)) w.relvars n (log of side last value) e);
  }

  -- database constraints come and go
  rules-so : (v : State) → IsWellMade v → v.relvars ≡ w.relvars → v.accepted ≡ w.accepted → IsMadeSo w v
  rules-so v then same count = record {
    made = then;
    long = subst AreLong (sym same) longs;
    count = count;
    logs = λ name of side last value e. inl (ap (λ (l : Entries). relvar_named l name) (sym same) ∙ e);
  }

  rule-so : (name : Name) (t : Test) → IsWellMade (with_rule name t w) → (b : Bool) → IsMadeSo w (made_by w (if_allowed (cond b (Ok (with_rule name t w)) (Err (Broken E45 name 0)))))
  rule-so name t then true = rules-so (with_rule name t w) then refl refl
  rule-so name t then false = stays-so

  items-so : (items : List PlainItem) → All (IsTypedItem w) items → (r : Result Entries Refuse) → assigned_in w (assignments_of w.relvars items) ≡ r → IsMadeSo w (made_by w (unless_refused w r))
  items-so items typed (Ok last) e = assigned-so w made longs items typed last e
  items-so items typed (Err refuse) e = stays-so

  shown-so : {A : Type 0} (f : A → Answer) → ((a : A) → made_by w (f a) ≡ w) → (r : OrFault A) → IsMadeSo w (made_by w (unless_fault f r))
  shown-so f stays (Ok a) = subst (IsMadeSo w) (sym (stays a)) stays-so
  shown-so f stays (Err fault) = stays-so

  -- a history is declared: its two relvars, and its view
  history-so : (h : HistoryData) → IsWellMade (declared_in w (declared_history h)) → IsMadeSo w (declared_in w (declared_history h))
  history-so h then =
      let since : Entries = (h.since, base (record { heading = since_heading h; rows = [] }) (since_constraints h)) ∷ [] in
      let during : Entries = (h.during, base (record { heading = during_heading h; rows = [] }) (during_constraints h)) ∷ [] in
      let joined : Entries = (h.view, view (view_of h) (of_history (h.since, h.during))) ∷ [] in
      record {
        made = then;
        long =
            long-more ((w.relvars ++ since) ++ during) joined
            (long-more (w.relvars ++ since) during (long-more w.relvars since longs (λ x i. absurd i, tt)) (λ x i. absurd i, tt)) (tt, tt);
        count = refl;
        logs = λ n of side last value e.
            inl (logs-more w.relvars since refl n of side last value
            (logs-more (w.relvars ++ since) during refl n of side last value (logs-more ((w.relvars ++ since) ++ during) joined refl n of side last value e)));
      }

  -- what is typed
  plain-so : (p : Plain) → IsTypedPlain w p → IsMadeSo w (made_by w (of_checked w p))
  plain-so nothing typed = stays-so
  plain-so (declare_ordinal d) typed = declared-so d typed
  plain-so (declare_base d) typed = declared-so d typed
  plain-so (declare_view d) typed = declared-so d typed
  plain-so (declare_kept name t) typed = stored-so name t typed.0 (meaning_in w.relvars t)
  plain-so (declare_history h) typed = history-so h (history-made w h made typed)
  plain-so (declare_log d) typed = opened-so d typed.made (have_room (with_log w d).relvars) (PlainRefusal E46)
  plain-so (remove name) typed = dropped-so name typed
  plain-so (declare_rule name t) typed = rule-so name t typed.0 (holds_in w.relvars t)
  plain-so (remove_rule name) typed = rules-so (without_rule name w) typed refl refl
  plain-so (assign items) typed = items-so items typed (assigned_in w (assignments_of w.relvars items)) refl
  plain-so (print t) typed = shown-so (Table w.ordinals) (λ a. refl) (relation_in w t)
  plain-so (ask t) typed = shown-so Truth (λ a. refl) (truth_in w.relvars t)

  tree-so : (r : OrFault Plain) → IfOk r (IsTypedPlain w) → IsMadeSo w (made_by w (unless_fault (of_checked w) r))
  tree-so (Ok p) typed = plain-so p typed
  tree-so (Err fault) typed = stays-so

  pub made-so : (r : Reading) → IsMadeSo w (made_by w (answer w r))
  made-so (readings.Tree tree) = tree-so (checked w tree) (checked-typed w made tree)
  made-so (Refused refuse) = stays-so
