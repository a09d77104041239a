-- Assignments to relvars without a log, beside logs.
--     meaning-few      an expression gives no more rows than a relation may have
--     given_rows      how many rows there are where a base relvar has another value
--     IsAfter      entries after assignments that leave the logs
--     beside_room      there is room for what they come to
--     beside_next      each log is idle
use Rattle.std.proofs.Common.{◌≡◌, ℕ, suc, ◌+◌, ◌*◌, ◌≤◌, ℤ, Bool, true, false, cond, nat_le, List, [], ◌∷◌, map, length, refl, sym, ap, ap₂, subst, ◌∙◌, arith, true≢false, pos, ◌+ℤ◌, Some, Result, Ok, Err}
use Rattle.std.specs.Prelude.{◌&&◌}
use Rattle.std.specs.List.{All, IsDistinct}
use Rattle.std.specs.Str.{bytes_eq}
use Rattle.std.proofs.lemmas.Bool.{or_parts, or_left, or_right}
use Rattle.std.proofs.lemmas.Bool.Decides.{nat_tests}
use Rattle.std.proofs.lemmas.List.Elements.{All-nil, All-cons, All-head, All-tail}
use Rattle.base_core.specs.Outcomes.{then_give}
use Rattle.point_core.specs.declared.fault.Code.TheVariants.{E35, E46}
use Rattle.point_core.specs.declared.fault.Place.{Place}
use Rattle.point_core.specs.Faults.{OrFault, fault}
use Rattle.value_core.specs.declared.refuse.Refuse.{Refuse}
use Rattle.value_core.specs.declared.refuse.Refuse.TheVariants.{Plain}
use Rattle.value_core.specs.Limits.{most_rows_in_all}
use Rattle.value_core.specs.Values.{Name, Row, Heading, Relation, most_rows}
use Rattle.value_core.specs.RowPacking.{packed, unpacked}
use Rattle.relation_core.specs.Groups.{rows_at, summarized}
use Rattle.relation_core.specs.Operators.{restricted, extended}
use Rattle.relation_core.specs.Parts.{projected}
use Rattle.log_times.specs.Logs.{moved}
use Rattle.tree_core.specs.Items.{PlainAssignment}
use Rattle.tree_core.specs.Relvars.{PlainRelvar, base, view, log, Entries, State, relvar_named}
use Rattle.tree_core.specs.Trees.{Tree, named, literal, infix_of, project, rename, restrict, extend, summarize, pack, unpack, using, heading_of}
use Rattle.meaning_core.specs.Logs.{base_rows, turned_relvar, turned_logs, IsInStep, AreInStep}
use Rattle.meaning_core.specs.Meanings.{Known, Around, plainly, in_using, RowsMeant, at_name, closed, condition, infix_rows, known_in, limited, list_of, literal_rows, meaning, meaning_in, names_at, opened, positions_of, renamed_rows, told_at}
use Rattle.meaning_core.specs.Names.{found, given, given_relvar, with_value}
use Rattle.meaning_core.specs.Rows.{extended_row, group_row}
use Rattle.meaning_core.proofs.LookupLemmas.{under_ok}
use Rattle.meaning_core.proofs.MadeLemmas.{same_name, own_name}
use Rattle.relvar_logs.specs.LoggedChanges.{is_log_of}
use Rattle.relvar_logs.specs.Room.{are_each_few, log_count, rows_of_logs}
use Rattle.relvar_logs.specs.Turning.{AreNext}
use Rattle.assign_core.specs.Assignments.{seen_by, source_value, with_target, evaluated, of_values, after_assignments, unless_rule_broken}
use Rattle.assign_core.specs.Breaches.{count_of, rows_of_all}
use Rattle.assign_core.specs.Databases.{IsKept}
use Rattle.assign_core.specs.Beside.{has_log_of, is_one_logged, IsBeside}
use Rattle.assign_core.specs.Logs.{have_log_room, unless_logs_full, IsLogRoomFor}
use Rattle.assign_core.specs.Parts.{names_in}
use Rattle.assign_core.proofs.GainLemmas.{apart_stays, named_other}
use Rattle.assign_core.proofs.GainedLemmas.{entries_are}
use Rattle.assign_core.proofs.LogLemmas.{none_ready, rows_turned}
use Rattle.assign_core.proofs.NameLemmas.{relvars_differ}

-- ---- how many rows an expression gives

-- rows that a relation may have, if there are any
abbrev AreFew : RowsMeant → Type 0
AreFew (Ok rows) = length rows ≤ most_rows
AreFew (Err g) = Unit {0}

few-limited : (place : Place) (rows : List Row) → AreFew (limited place rows)
few-limited place rows = by (nat_le (length rows) most_rows) refl
  where
    by : (b : Bool) → nat_le (length rows) most_rows ≡ b → AreFew (cond b (Ok rows) (Err (fault place E35)))
    by true q = grind (arith, nat_tests)
    by false q = tt

few-closed : (around : Around) (place : Place) (heading : Heading) (rows : List Row) → AreFew (closed around place heading rows)
few-closed around place heading rows = few-limited (told_at around place) (packed (positions_of heading (list_of around)) rows)

few-then : {X : Type 0} (r : OrFault X) (f : X → RowsMeant) → ((x : X) → AreFew (f x)) → AreFew (then_give r f)
few-then (Ok x) f h = h x
few-then (Err g) f h = tt

meaning-few : (known : Known) (around : Around) (t : Tree) → AreFew (meaning known around t)
meaning-few known around (named place heading name) = few-then (at_name place (found (Ok []) known name)) (limited place) (few-limited place)
meaning-few known around (literal place heading tuples) = few-then (literal_rows heading tuples) (limited place) (few-limited place)
meaning-few known around (infix_of place heading word l r) =
    let rows : List Row → List Row → List Row = λ a b. infix_rows word (heading_of l) (heading_of r) (opened around (heading_of l) a) (opened around (heading_of r) b) in
    few-then (meaning known plainly l) (λ a. then_give (meaning known plainly r) (λ b. closed around place heading (rows a b)))
    (λ a. few-then (meaning known plainly r) (λ b. closed around place heading (rows a b)) (λ b. few-closed around place heading (rows a b)))
meaning-few known around (project place heading kept t) =
    let rows : List Row → List Row = λ a. projected kept (opened around (heading_of t) a) in
    few-then (meaning known plainly t) (λ a. closed around place heading (rows a)) (λ a. few-closed around place heading (rows a))
meaning-few known around (rename place heading names t) =
    let rows : List Row → List Row = λ a. renamed_rows (heading_of t) heading names a in
    few-then (meaning known plainly t) (λ a. limited place (rows a)) (λ a. few-limited place (rows a))
meaning-few known around (restrict place heading c t) =
    let rows : List Row → RowsMeant = λ a. restricted (condition c) (opened around (heading_of t) a) in
    few-then (meaning known plainly t) (λ a. then_give (rows a) (closed around place heading)) (λ a. few-then (rows a) (closed around place heading) (few-closed around place heading))
meaning-few known around (extend place heading sets t) =
    let rows : List Row → RowsMeant = λ a. extended (extended_row (heading_of t) heading sets) (opened around (heading_of t) a) in
    few-then (meaning known plainly t) (λ a. then_give (rows a) (closed around place heading)) (λ a. few-then (rows a) (closed around place heading) (few-closed around place heading))
meaning-few known around (summarize place heading by aggregates t) =
    let rows : List Row → RowsMeant = λ a.
    summarized by (λ numbers. group_row (heading_of t) heading aggregates (rows_at (opened around (heading_of t) a) numbers)) (opened around (heading_of t) a) in
    few-then (meaning known plainly t) (λ a. then_give (rows a) (closed around place heading)) (λ a. few-then (rows a) (closed around place heading) (few-closed around place heading))
meaning-few known around (pack place heading commalist t) = few-then (meaning known plainly t) (λ a. limited place (packed commalist a)) (λ a. few-limited place (packed commalist a))
meaning-few known around (unpack place heading commalist t) = few-then (meaning known plainly t) (λ a. limited place (unpacked commalist a)) (λ a. few-limited place (unpacked commalist a))
meaning-few known around (using place heading commalist t) = meaning-few known (in_using place (names_at (heading_of t) commalist)) t

source-few : (old new : Entries) (a : PlainAssignment) (value : Relation) → source_value old new a ≡ Ok value → length value.rows ≤ most_rows
source-few old new a value e =
    let seen = seen_by old new a.target in
    subst AreFew (under_ok (heading_of a.tree) (meaning_in seen a.tree) value e).0 (meaning-few (known_in seen) plainly a.tree)

-- ---- a base relvar with another value

-- logs after one statement more, behind which these are all relvars
abbrev turned_by : Entries → Entries → Entries
turned_by all es = map (λ r. (r.0, turned_relvar all r.1)) es

module _ (name : Name) (w : Relation) where
  abbrev given-one : Name × PlainRelvar → PlainRelvar
  given-one e = given_relvar (Some name) (Some w) e.0 e.1

  count-value : (own : Name) (r : PlainRelvar) → count_of (own, with_value w r) ≤ count_of (own, r) + length w.rows
  count-value own (base value constraints) = omega arith
  count-value own (view t kind) = omega arith
  count-value own (log of side last value) = omega arith

  given_rows : (es : Entries) → IsDistinct bytes_eq (names_in es) → rows_of_all (given (Some name) (Some w) es) ≤ rows_of_all es + length w.rows
  unfolding IsDistinct
  given_rows [] d = omega arith
  given_rows (e ∷ es) d = by (bytes_eq e.0 name) refl (given_rows es d.1)
    where
      by : (b : Bool) → bytes_eq e.0 name ≡ b → rows_of_all (given (Some name) (Some w) es) ≤ rows_of_all es + length w.rows
          → count_of (e.0, cond b (with_value w e.1) e.1) + rows_of_all (given (Some name) (Some w) es) ≤ (count_of e + rows_of_all es) + length w.rows
      by true q more =
          let rest = ap rows_of_all (apart_stays es e.0 name w q d.0) in
          let one = count-value e.0 e.1 in
          omega (arith, rest, one)
      by false q more = omega (arith, more)

  module _ (all : Entries) where
    count-one : (e : Name × PlainRelvar) → log_count (turned_relvar all (given-one e)) ≡ log_count (turned_relvar all e.1)
    count-one e = by (bytes_eq e.0 name) e.1
      where
        by : (b : Bool) (r : PlainRelvar) → log_count (turned_relvar all (cond b (with_value w r) r)) ≡ log_count (turned_relvar all r)
        by true (base value constraints) = refl
        by true (view t kind) = refl
        by true (log of side last value) = refl
        by false r = refl

    counts-given : (es : Entries) → rows_of_logs (turned_by all (given (Some name) (Some w) es)) ≡ rows_of_logs (turned_by all es)
    counts-given [] = refl
    counts-given (e ∷ es) = λ i. count-one e i + counts-given es i

    each-given : (es : Entries) → are_each_few (turned_by all (given (Some name) (Some w) es)) ≡ are_each_few (turned_by all es)
    each-given [] = refl
    each-given (e ∷ es) = λ i. nat_le (count-one e i) most_rows && each-given es i

    step-given : (n : ℤ) (es : Entries) → All (λ r. IsInStep n all r.1) es → All (λ r. IsInStep n all r.1) (given (Some name) (Some w) es)
    step-given n [] h = All-nil (λ r. IsInStep n all r.1)
    step-given n (e ∷ es) h =
        All-cons (λ r. IsInStep n all r.1) (e.0, given-one e) (given (Some name) (Some w) es) (by (bytes_eq e.0 name) e.1 (All-head (λ r. IsInStep n all r.1) e es h))
        (step-given n es (All-tail (λ r. IsInStep n all r.1) e es h))
      where
        by : (b : Bool) (r : PlainRelvar) → IsInStep n all r → IsInStep n all (cond b (with_value w r) r)
        by true (base value constraints) k = tt
        by true (view t kind) k = tt
        by true (log of side last value) k = k
        by false r k = k

  names-given : (es : Entries) → names_in (given (Some name) (Some w) es) ≡ names_in es
  names-given [] = refl
  names-given (e ∷ es) = ap (λ (ns : List Name). e.0 ∷ ns) (names-given es)

-- ---- logs whose relvars keep their rows

-- the relvars of the logs among some entries have the same rows in both
abbrev HaveSame : Entries → Entries → Entries → Type 0
HaveSame old new es = (of : Name) → has_log_of es of ≡ true → base_rows (relvar_named new of) ≡ base_rows (relvar_named old of)

module _ (old new : Entries) where
  same-rest : (e : Name × PlainRelvar) (es : Entries) → HaveSame old new (e ∷ es) → HaveSame old new es
  same-rest e es h = λ of q. h of (or_right (is_log_of of e.1) (has_log_of es of) q)

  same-first : (own of : Name) (side : ℕ) (last : ℤ) (value : Relation) (es : Entries) → HaveSame old new ((own, log of side last value) ∷ es)
      → base_rows (relvar_named new of) ≡ base_rows (relvar_named old of)
  same-first own of side last value es h = h of (or_left (bytes_eq of of) (has_log_of es of) (own_name of))

  turned-one : (own : Name) (r : PlainRelvar) (es : Entries) → HaveSame old new ((own, r) ∷ es) → turned_relvar new r ≡ turned_relvar old r
  turned-one own (base value constraints) es h = refl
  turned-one own (view t kind) es h = refl
  turned-one own (log of side last value) es h =
      ap (λ (rows : List Row). log of side (last +ℤ pos 1) (record { heading = value.heading; rows = moved side (last +ℤ pos 1) rows value.rows })) (same-first own of side last value es h)

  turned-same : (es : Entries) → HaveSame old new es → turned_by new es ≡ turned_by old es
  turned-same [] h = refl
  turned-same (e ∷ es) h = ap₂ (λ (r : PlainRelvar) (z : Entries). (e.0, r) ∷ z) (turned-one e.0 e.1 es h) (turned-same es (same-rest e es h))

  step-one : (n : ℤ) (own : Name) (r : PlainRelvar) (es : Entries) → HaveSame old new ((own, r) ∷ es) → IsInStep n old r → IsInStep n new r
  step-one n own (base value constraints) es h k = tt
  step-one n own (view t kind) es h k = tt
  step-one n own (log of side last value) es h k = (k.0, k.1 ∙ sym (same-first own of side last value es h))

  step-same : (n : ℤ) (es : Entries) → HaveSame old new es → All (λ r. IsInStep n old r.1) es → All (λ r. IsInStep n new r.1) es
  step-same n [] h k = All-nil (λ r. IsInStep n new r.1)
  step-same n (e ∷ es) h k =
      All-cons (λ r. IsInStep n new r.1) e es (step-one n e.0 e.1 es h (All-head (λ r. IsInStep n old r.1) e es k))
      (step-same n es (same-rest e es h) (All-tail (λ r. IsInStep n old r.1) e es k))

-- ---- assignments that leave the logs

-- entries after some assignments whose targets have no log
pub record IsAfter (old new : Entries) (more : ℕ) : Type 0 where
  pub rows : rows_of_all new ≤ rows_of_all old + more
  pub names : names_in new ≡ names_in old
  pub same : HaveSame old new old
  pub counts : (all : Entries) → rows_of_logs (turned_by all new) ≡ rows_of_logs (turned_by all old)
  pub each : (all : Entries) → are_each_few (turned_by all new) ≡ are_each_few (turned_by all old)
  pub step : (all : Entries) (n : ℤ) → All (λ r. IsInStep n all r.1) old → All (λ r. IsInStep n all r.1) new

module _ (old : Entries) (differ : IsDistinct bytes_eq (names_in old)) where
  none-after : IsAfter old old 0
  none-after = record {
    rows = omega arith;
    names = refl;
    same = λ of q. refl;
    counts = λ all. refl;
    each = λ all. refl;
    step = λ all n h. h;
  }

  -- the relvar of a log is none of the name
  other-name : (of name : Name) → has_log_of old of ≡ true → has_log_of old name ≡ false → bytes_eq of name ≡ false
  other-name of name q none = by (bytes_eq of name) refl
    where
      by : (b : Bool) → bytes_eq of name ≡ b → b ≡ false
      by false e = refl
      by true e = absurd (true≢false (sym q ∙ (ap (has_log_of old) (same_name of name e) ∙ none)))

  one-after : (new : Entries) (more : ℕ) (name : Name) (w : Relation) → has_log_of old name ≡ false → length w.rows ≤ most_rows → IsAfter old new more → IsAfter old (with_target new name w) (more + most_rows)
  one-after new more name w none few is = record {
    rows =
        let given = given_rows name w new (subst (IsDistinct bytes_eq) (sym is.names) differ) in
        let before = is.rows in
        omega (arith, given, before, few);
    names = names-given name w new ∙ is.names;
    same = λ of q. ap base_rows (named_other new name of w (other-name of name q none)) ∙ is.same of q;
    counts = λ all. counts-given name w all new ∙ is.counts all;
    each = λ all. each-given name w all new ∙ is.each all;
    step = λ all n h. step-given name w all n new (is.step all n h);
  }

  -- where a source gives a value
  then-after : (v : OrFault Relation) (next : Relation → OrFault Entries) (last : Entries) (k : ℕ) → ((value : Relation) → v ≡ Ok value → next value ≡ Ok last → IsAfter old last k) → then_give v next ≡ Ok last
      → IsAfter old last k
  then-after (Ok value) next last k h e = h value refl e
  then-after (Err g) next last k h e = absurd (cc)

  evaluated-after : (list : List PlainAssignment) (new last : Entries) (more : ℕ) → is_one_logged old list ≡ false → IsAfter old new more → evaluated old new list ≡ Ok last
      → IsAfter old last (more + length list * most_rows)
  evaluated-after [] new last more none is e =
      let same : new ≡ last = cc in
      let k : more ≡ more + 0 * most_rows = omega arith in
      subst (IsAfter old last) k (subst (λ (es : Entries). IsAfter old es more) same is)
  evaluated-after (a ∷ list) new last more none is e =
      let parts = or_parts (has_log_of old a.target) (is_one_logged old list) none in
      then-after (source_value old new a) (λ value. evaluated old (with_target new a.target value) list) last (more + suc (length list) * most_rows)
      (λ value v f.
      let k : (more + most_rows) + length list * most_rows ≡ more + suc (length list) * most_rows = omega arith in
      subst (IsAfter old last) k (evaluated-after list (with_target new a.target value) last (more + most_rows) parts.1
      (one-after new more a.target value parts.0 (source-few old new a value v) is) f)) e

sum-fits : (k most : ℕ) (few : Bool) → k ≤ most → few ≡ true → (nat_le k most && few) ≡ true
sum-fits k most few l e = let fits : nat_le k most ≡ true = grind (arith, nat_tests) in λ i. fits i && e i

module _ (s : State) (list : List PlainAssignment) (kept : IsKept s) (beside : IsBeside s list) where
  after : (last : Entries) → evaluated s.relvars s.relvars list ≡ Ok last → IsAfter s.relvars last (0 + length list * most_rows)
  after last e =
      let differ = relvars_differ s kept.well_made in
      evaluated-after s.relvars differ list s.relvars last 0 beside.others (none-after s.relvars differ) e

  room-after : (last : Entries) → evaluated s.relvars s.relvars list ≡ Ok last → have_log_room (turned_logs last) ≡ true
  room-after last e =
      let is = after last e in
      let same = turned-same s.relvars last s.relvars is.same in
      let turn = rows_turned last in
      let bases = is.rows in
      let logs : rows_of_logs (turned_logs last) ≡ rows_of_logs (turned_logs s.relvars) = is.counts last ∙ ap rows_of_logs same in
      let few = beside.few in
      sum-fits (rows_of_all (turned_logs last) + rows_of_logs (turned_logs last)) most_rows_in_all (are_each_few (turned_logs last))
      (omega (arith, turn, bases, logs, few)) (is.each last ∙ (ap are_each_few same ∙ beside.each))

  -- there is room for what the assignments come to
  pub beside_room : IsLogRoomFor (evaluated s.relvars s.relvars list)
  beside_room = λ meant. by meant (evaluated s.relvars s.relvars list) refl
    where
      by : (meant : Result Entries Refuse) (v : OrFault Entries) → evaluated s.relvars s.relvars list ≡ v → unless_logs_full v meant ≡ meant
      by meant (Err g) e = refl
      by meant (Ok last) e = ap (λ (b : Bool). cond b meant (Err (Plain E46))) (room-after last e)

  given-values : (v : OrFault Entries) (new : Entries) → unless_rule_broken s.rules (of_values v) ≡ Ok new → v ≡ Ok new
  given-values (Ok last) new e = ap Ok (entries_are s.rules last new e)
  given-values (Err g) new e = absurd (cc)

  -- each log is idle then
  pub beside_next : (new : Entries) → AreInStep s.accepted s.relvars → unless_rule_broken s.rules (after_assignments s.relvars list) ≡ Ok new → AreNext s.accepted new [] new
  beside_next new step e =
      let is = after new (given-values (evaluated s.relvars s.relvars list) new e) in
      none_ready s.accepted new new (is.step new s.accepted (step-same s.relvars new s.accepted s.relvars is.same step))
