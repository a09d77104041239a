-- Logs that stand ready for the next statement.
--     base_before      a base relvar among more entries
--     of_base_there      a log is that of a base relvar
--     change_found, change_absent      the rows of a relvar with its new value, and without one
--     ready_log, idle_log, too_long      a log with the next statement, one whose relvar stays, and one that would have too many rows
--     first_ready      a log that begins
--     next_more      one more in the list
--     full_there      why none stands ready
use Rattle.std.proofs.Common.{◌≡◌, ℕ, zero, suc, ◌+◌, ◌<◌, ◌≤◌, ℤ, pos, ◌+ℤ◌, Bool, true, false, cond, nat_le, List, [], ◌∷◌, ◌++◌, map, take, length, refl, sym, ap, subst, ◌∙◌, arith, true≢false, get_or, Option, Some, None, Result, Ok, Err}
use Rattle.std.specs.Prelude.{◌&&◌, slice_get, slice_index_or, IfOk, IfErr}
use Rattle.std.specs.List.{All}
use Rattle.std.specs.Str.{bytes_eq}
use Rattle.std.proofs.lemmas.Bool.{false_from_ne_true}
use Rattle.std.proofs.lemmas.Bool.Decides.{nat_tests}
use Rattle.std.proofs.lemmas.List.{append_assoc}
use Rattle.std.proofs.lemmas.List.Elements.{All-head, All-tail}
use Rattle.point_core.specs.declared.fault.Code.TheVariants.{E46}
use Rattle.value_core.specs.declared.refuse.Refuse.{Refuse}
use Rattle.value_core.specs.declared.refuse.Refuse.TheVariants.{Plain, At, Broken, Memory}
use Rattle.value_core.specs.declared.constraint.Constraint.{Constraint}
use Rattle.value_core.specs.Values.{Name, Row, Heading, Relation, most_rows}
use Rattle.log_times.specs.Kept.{PlainLog, log_relation, IsLog}
use Rattle.log_times.specs.Logs.{moved, standing}
use Rattle.log_times.specs.Turns.{log_heading, side_of}
use Rattle.log_turns.specs.Turned.{IsAfter, IsBegun}
use Rattle.log_turns.proofs.ValueLemmas.{value-standing}
use Rattle.tree_core.specs.declared.relvar.Relvar.{Relvar}
use Rattle.tree_core.specs.Relvars.{PlainRelvar, base, view, log, Entries, State, relvar_named, heading_if, read_entry, read_relvar}
use Rattle.tree_core.specs.declared.declaration.LogData.{LogData}
use Rattle.meaning_core.specs.Declarations.{with_log}
use Rattle.meaning_core.specs.Logs.{base_rows, new_log, turned_relvar, IsInStep}
use Rattle.meaning_core.specs.Names.{IsFirstAt}
use Rattle.meaning_core.specs.WellMade.{IsBase, IsRelvar, AreRelvars}
use Rattle.meaning_core.proofs.MadeLemmas.{same_name, own_name}
use Rattle.meaning_core.proofs.RelvarLemmas.{named_before}
use Rattle.relvar_logs.specs.Changes.{Changes, IsChange, AreChanges, changed_relvar, changed, change_named, IsSoAt}
use Rattle.relvar_logs.specs.Room.{are_each_few, log_count}
use Rattle.relvar_logs.specs.Turning.{IsReadyLog, IsNext, AreNext, IsOfBase, IsFullAlone, IsFull}
use Rattle.relvar_logs.proofs.EntryLemmas.{so_put}

-- ---- logs of base relvars

pub base_before : (before more : Entries) (name : Name) → IsBase (relvar_named before name) → relvar_named (before ++ more) name ≡ relvar_named before name
base_before before more name h = by (relvar_named before name) refl h
  where
    by : (o : Option PlainRelvar) → relvar_named before name ≡ o → IsBase o → relvar_named (before ++ more) name ≡ relvar_named before name
    by None e b = absurd b
    by (Some x) e b = named_before before more name x e ∙ sym e

of-base : (sizes : List ℕ) (before more : Entries) (own : Name) (r : PlainRelvar) → IsRelvar sizes before own r → IsOfBase (before ++ more) r
of-base sizes before more own (base value constraints) is = tt
of-base sizes before more own (view t kind) is = tt
of-base sizes before more own (log of side last value) is =
    let same = base_before before more of is.1.0 in
    (subst IsBase (sym same) is.1.0, is.1.2 ∙ ap heading_if (sym same))

of-base-from : (sizes : List ℕ) (before es : Entries) (i : ℕ) → AreRelvars sizes before es → i < length es → IsSoAt i (IsOfBase (before ++ es)) es
of-base-from sizes before [] i all l = absurd (omega (arith, l))
of-base-from sizes before (e ∷ es) zero all l = of-base sizes before (e ∷ es) e.0 e.1 all.0
of-base-from sizes before (e ∷ es) (suc i) all l =
    subst (λ (z : Entries). IsSoAt i (IsOfBase z) es) (append_assoc before (e ∷ []) es) (of-base-from sizes (before ++ e ∷ []) es i all.1 (omega (arith, l)))

pub of_base_there : (sizes : List ℕ) (es : Entries) (i : ℕ) → AreRelvars sizes [] es → i < length es → IsSoAt i (IsOfBase es) es
of_base_there sizes es i all l = of-base-from sizes [] es i all l

pub all_so : (P : PlainRelvar → Type 0) (es : Entries) (i : ℕ) → All (λ r. P r.1) es → i < length es → IsSoAt i P es
all_so P [] i all l = absurd (omega (arith, l))
all_so P (e ∷ es) zero all l = All-head (λ r. P r.1) e es all
all_so P (e ∷ es) (suc i) all l = all_so P es i (All-tail (λ r. P r.1) e es all) (omega (arith, l))

-- ---- new values

-- a base relvar with a new value
pub record IsNew (old new : Option PlainRelvar) (value : Relation) : Type 0 where
  pub rows : base_rows new ≡ value.rows
  pub heading : value.heading ≡ heading_if old

new-one : (c : Option Relation) (r : PlainRelvar) (value : Relation) → c ≡ Some value → IsChange c r → IsNew (Some r) (Some (changed_relvar c r)) value
new-one None r value e h = absurd (cc)
new-one (Some v) (base old constraints) value e h =
    let same : v ≡ value = cc in
    record { rows = ap (λ (z : Relation). z.rows) same; heading = sym (ap (λ (z : Relation). z.heading) same) ∙ h }
new-one (Some v) (view t kind) value e h = absurd h
new-one (Some v) (log of side last w) value e h = absurd h

pub change_found : (cs : Changes) (es : Entries) (name : Name) (value : Relation) → AreChanges cs es → change_named cs es name ≡ Some value → IsNew (relvar_named es name) (relvar_named (changed cs es) name) value
change_found [] es name value are e = absurd (cc)
change_found (c ∷ cs) [] name value are e = absurd are
change_found (c ∷ cs) (r ∷ es) name value are e = by (bytes_eq r.0 name) (change_found cs es name value are.1) e
  where
    by : (b : Bool) → (change_named cs es name ≡ Some value → IsNew (relvar_named es name) (relvar_named (changed cs es) name) value) → cond b c (change_named cs es name) ≡ Some value
        → IsNew (cond b (Some r.1) (relvar_named es name)) (cond b (Some (changed_relvar c r.1)) (relvar_named (changed cs es) name)) value
    by true more f = new-one c r.1 value f are.0
    by false more f = more f

pub change_absent : (cs : Changes) (es : Entries) (name : Name) → AreChanges cs es → change_named cs es name ≡ None → base_rows (relvar_named (changed cs es) name) ≡ base_rows (relvar_named es name)
change_absent [] es name are e = refl
change_absent (c ∷ cs) [] name are e = absurd are
change_absent (c ∷ cs) (r ∷ es) name are e = by (bytes_eq r.0 name) (change_absent cs es name are.1) e
  where
    by : (b : Bool) → (change_named cs es name ≡ None → base_rows (relvar_named (changed cs es) name) ≡ base_rows (relvar_named es name)) → cond b c (change_named cs es name) ≡ None
        → base_rows (cond b (Some (changed_relvar c r.1)) (relvar_named (changed cs es) name)) ≡ base_rows (cond b (Some r.1) (relvar_named es name))
    by true more f = ap (λ (o : Option Relation). base_rows (Some (changed_relvar o r.1))) f
    by false more f = more f

-- where the value of a name stands
pub change_first : (es : Entries) (cs : Changes) (name : Name) (i : ℕ) (r : PlainRelvar) (d : Option Relation) → length cs ≡ length es → IsFirstAt es name i r → change_named cs es name ≡ slice_index_or cs i d
change_first [] cs name i r d l first = absurd first
change_first (e ∷ es) [] name i r d l first = absurd (omega (arith, l))
change_first (e ∷ es) (c ∷ cs) name zero r d l first = ap (λ (b : Bool). cond b c (change_named cs es name)) first.0
change_first (e ∷ es) (c ∷ cs) name (suc i) r d l first =
    ap (λ (b : Bool). cond b c (change_named cs es name)) first.0 ∙ change_first es cs name i r d (omega (arith, l)) first.1

pub turned-name : (a b : Name) → bytes_eq a b ≡ false → bytes_eq b a ≡ false
turned-name a b e = false_from_ne_true (bytes_eq b a) (λ s. true≢false (sym (own_name a) ∙ (ap (λ (n : Name). bytes_eq a n) (sym (same_name b a s)) ∙ e)))

pub change_none : (es : List (Name × Relvar)) (cs : Changes) (name : Name)
    → ((k : ℕ) → k < length (map (λ (e : Name × Relvar). e.0) es) → bytes_eq name (get_or (map (λ (e : Name × Relvar). e.0) es) k []) ≡ false) → change_named cs (map read_entry es) name ≡ None
change_none es [] name none = refl
change_none [] (c ∷ cs) name none = refl
change_none (e ∷ es) (c ∷ cs) name none =
    ap (λ (b : Bool). cond b c (change_named cs (map read_entry es) name)) (turned-name name e.0 (none 0 (omega arith))) ∙ change_none es cs name (λ k l. none (suc k) (omega arith))

-- ---- one log

module _ (n : ℤ) (all : Entries) (of : Name) (l : PlainLog) (at : l.last ≡ n) where
  abbrev told : PlainRelvar
  told = log of l.side l.last (log_relation l)

  moved-is : (now : List Row) → now ≡ base_rows (relvar_named all of) → moved l.side (n +ℤ pos 1) now (log_relation l).rows ≡ moved l.side (l.last +ℤ pos 1) (base_rows (relvar_named all of)) (log_relation l).rows
  moved-is now e = λ i. moved l.side (sym at i +ℤ pos 1) (e i) (log_relation l).rows

  pub ready_log : (now : Relation) (t : PlainLog) → base_rows (relvar_named all of) ≡ now.rows → IsAfter l now (n +ℤ pos 1) t → IsLog t → IsReadyLog n all told (log of t.side t.last (log_relation t))
  ready_log now t e after is =
      let rows = after.reads ∙ moved-is now.rows (sym e) in
      let last = after.last ∙ ap (λ (k : ℤ). k +ℤ pos 1) (sym at) in
      record {
        is = λ i. log of (after.side i) (last i) (record { heading = after.heading i; rows = rows i });
        step = (after.last, value-standing t is ∙ (ap (λ (k : ℕ). standing k t.stored.rows) after.side ∙ (after.stands ∙ sym e)));
      }

  pub idle_log : (old : Entries) → base_rows (relvar_named all of) ≡ base_rows (relvar_named old of) → IsInStep n old told → IsInStep n all told
  idle_log old e h = (h.0, h.1 ∙ sym e)

  pub too_long : (now : List Row) → base_rows (relvar_named all of) ≡ now → most_rows < length (moved l.side (n +ℤ pos 1) now (log_relation l).rows) → nat_le (log_count (turned_relvar all told)) most_rows ≡ false
  too_long now e more =
      let same = ap (λ (z : List Row). length z) (moved-is now (sym e)) in
      by (nat_le (log_count (turned_relvar all told)) most_rows) refl (omega (arith, same, more))
    where
      by : (b : Bool) → nat_le (log_count (turned_relvar all told)) most_rows ≡ b → most_rows < log_count (turned_relvar all told) → nat_le (log_count (turned_relvar all told)) most_rows ≡ false
      by false q l = q
      by true q l = let m : log_count (turned_relvar all told) ≤ most_rows = grind (arith, nat_tests) in absurd (omega (arith, l, m))

-- ---- a log that begins

pub first_ready : (s : State) (d : LogData) (value : Relation) (cs : List Constraint) (t : PlainLog) → relvar_named s.relvars d.of ≡ Some (base value cs) → IsBegun d.attribute (s.accepted +ℤ pos 1) value t → IsLog t
    → IsReadyLog s.accepted (with_log s d).relvars (new_log (heading_if (relvar_named s.relvars d.of)) s.accepted d) (log d.of t.side t.last (log_relation t))
first_ready s d value cs t e begun is =
    let all : Entries = (with_log s d).relvars in
    let headed : value.heading ≡ heading_if (relvar_named s.relvars d.of) = sym (ap heading_if e) in
    let named : base_rows (relvar_named all d.of) ≡ value.rows =
    ap base_rows (named_before s.relvars ((d.name, new_log (heading_if (relvar_named s.relvars d.of)) s.accepted d) ∷ []) d.of (base value cs) e) in
    let side : t.side ≡ side_of (heading_if (relvar_named s.relvars d.of)) d.attribute = begun.side ∙ ap (λ (h : Heading). side_of h d.attribute) headed in
    let heading : t.stored.heading ≡ log_heading (heading_if (relvar_named s.relvars d.of)) d.attribute = begun.heading ∙ ap (λ (h : Heading). log_heading h d.attribute) headed in
    let rows : (log_relation t).rows ≡ moved (side_of (heading_if (relvar_named s.relvars d.of)) d.attribute) (s.accepted +ℤ pos 1) (base_rows (relvar_named all d.of)) [] =
    begun.reads ∙ (λ i. moved (side i) (s.accepted +ℤ pos 1) (sym named i) []) in
    record {
      is = λ i. log d.of (side i) (begun.last i) (record { heading = heading i; rows = rows i });
      step = (begun.last, value-standing t is ∙ (begun.stands ∙ sym named));
    }

-- ---- the list

pub next_more : (n : ℤ) (all : Entries) (ts : List (Option PlainLog)) (es : Entries) (i : ℕ) (t : Option PlainLog) → length ts ≡ i → AreNext n all ts (take i es) → IsSoAt i (IsNext n all t) es
    → AreNext n all (ts ++ t ∷ []) (take (suc i) es)
next_more n all [] [] i t l are h = absurd h
next_more n all [] (e ∷ es) zero t l are h = (h, tt)
next_more n all [] (e ∷ es) (suc i) t l are h = absurd (omega (arith, l))
next_more n all (u ∷ ts) [] i t l are h = absurd h
next_more n all (u ∷ ts) (e ∷ es) zero t l are h = absurd (omega (arith, l))
next_more n all (u ∷ ts) (e ∷ es) (suc i) t l are h = (are.0, next_more n all ts es i t (omega (arith, l)) are.1 h)

pub one_longer : (ts : List (Option PlainLog)) (t : Option PlainLog) → length (ts ++ t ∷ []) ≡ length ts + 1
one_longer [] t = refl
one_longer (u ∷ ts) t = let h = one_longer ts t in omega (arith, h)

-- ---- why none stands ready

few-there : (all es : Entries) (i : ℕ) → IsSoAt i (λ r. nat_le (log_count (turned_relvar all r)) most_rows ≡ false) es → are_each_few (map (λ r. (r.0, turned_relvar all r.1)) es) ≡ false
few-there all [] i h = absurd h
few-there all (e ∷ es) zero h = ap (λ (b : Bool). b && are_each_few (map (λ r. (r.0, turned_relvar all r.1)) es)) h
few-there all (e ∷ es) (suc i) h =
    ap (λ (b : Bool). nat_le (log_count (turned_relvar all e.1)) most_rows && b) (few-there all es i h) ∙ none (nat_le (log_count (turned_relvar all e.1)) most_rows)
  where
    none : (b : Bool) → (b && false) ≡ false
    none true = refl
    none false = refl

pub full_there : (all es : Entries) (i : ℕ) (refuse : Refuse) → IsSoAt i (λ r. IsFullAlone all r refuse) es → IsFull all es refuse
full_there all es i (Plain code) h = (code-of es i h, few-there all es i (count-of es i h))
  where
    code-of : (fs : Entries) (k : ℕ) → IsSoAt k (λ r. IsFullAlone all r (Plain code)) fs → code ≡ E46
    code-of [] k h = absurd h
    code-of (f ∷ fs) zero h = h.0
    code-of (f ∷ fs) (suc k) h = code-of fs k h

    count-of : (fs : Entries) (k : ℕ) → IsSoAt k (λ r. IsFullAlone all r (Plain code)) fs → IsSoAt k (λ r. nat_le (log_count (turned_relvar all r)) most_rows ≡ false) fs
    count-of [] k h = absurd h
    count-of (f ∷ fs) zero h = h.1
    count-of (f ∷ fs) (suc k) h = count-of fs k h
full_there all es i (At fault) h = never es i h
  where
    never : (fs : Entries) (k : ℕ) → IsSoAt k (λ r. IsFullAlone all r (At fault)) fs → ⊥
    never [] k h = h
    never (f ∷ fs) zero h = h
    never (f ∷ fs) (suc k) h = never fs k h
full_there all es i (Broken code relvar number) h = never es i h
  where
    never : (fs : Entries) (k : ℕ) → IsSoAt k (λ r. IsFullAlone all r (Broken code relvar number)) fs → ⊥
    never [] k h = h
    never (f ∷ fs) zero h = h
    never (f ∷ fs) (suc k) h = never fs k h
full_there all es i Memory h = tt

-- ---- at a place

pub next_put : (n : ℤ) (all : Entries) (es : List (Name × Relvar)) (i : ℕ) (k : Name) (r : Relvar) (result : Result (Option PlainLog) Refuse) → slice_get es i ≡ Some (k, r)
    → IfOk result (λ t. IsNext n all t (read_relvar r)) → IfOk result (λ t. IsSoAt i (IsNext n all t) (map read_entry es))
next_put n all es i k r (Ok t) is h = so_put es i (IsNext n all t) k r is h
next_put n all es i k r (Err refuse) is h = h

pub full_put : (all : Entries) (es : List (Name × Relvar)) (i : ℕ) (k : Name) (r : Relvar) (result : Result (Option PlainLog) Refuse) → slice_get es i ≡ Some (k, r)
    → IfErr result (IsFullAlone all (read_relvar r)) → IfErr result (IsFull all (map read_entry es))
full_put all es i k r (Ok t) is h = h
full_put all es i k r (Err refuse) is h = full_there all (map read_entry es) i refuse (so_put es i (λ q. IsFullAlone all q refuse) k r is h)
