-- Logs that begin.
--     insert_new, new_name      a new name goes last
--     stays      where no relvar gets a new value, none stands ready
--     opened_state, opened_ready      the state in which a log is declared, and what stands ready for it
--     first_counted      how many rows it has at its first statement
--     no_room, little_room, some_room      whether it has room
use Rattle.std.proofs.Common.{◌≡◌, ℕ, zero, suc, ◌+◌, ◌-◌, ◌<◌, ◌≤◌, ℤ, Bool, true, false, cond, nat_le, List, [], ◌∷◌, ◌++◌, map, replicate, length, refl, sym, ap, subst, ◌∙◌, arith, Option, Some, None}
use Rattle.std.specs.Prelude.{◌&&◌}
use Rattle.std.specs.List.{All, AllByRecursion, IsDistinct}
use Rattle.std.specs.Map.{keys_of}
use Rattle.std.specs.Str.{bytes_eq}
use Rattle.std.proofs.lemmas.Bool.{and_from, and_left, and_parts}
use Rattle.std.proofs.lemmas.Bool.Decides.{nat_tests}
use Rattle.std.proofs.lemmas.List.{map-append}
use Rattle.indexmap.specs.IndexMap.{insert_entry}
use Rattle.value_core.specs.Limits.{most_rows_in_all}
use Rattle.value_core.specs.Values.{Name, Row, Relation, IsRelation, most_rows}
use Rattle.log_times.specs.Kept.{PlainLog, log_relation}
use Rattle.tree_core.specs.declared.declaration.LogData.{LogData}
use Rattle.tree_core.specs.declared.relvar.Relvar.{Relvar}
use Rattle.tree_core.specs.declared.relvar.Relvar.TheVariants.{Log}
use Rattle.tree_core.specs.declared.relvar.Relvars.{Relvars}
use Rattle.tree_core.specs.Relvars.{PlainRelvar, base, view, log, Entries, State, heading_if, read_entry, read_relvar, read_relvars, read_rule, relvar_heading, relvar_named}
use Rattle.meaning_core.specs.Declarations.{with_log}
use Rattle.meaning_core.specs.Logs.{base_rows, new_log, turned_relvar, IsInStep}
use Rattle.meaning_core.specs.WellMade.{AreRelvars, IsWellMade}
use Rattle.relvar_logs.specs.Changes.{IsSoAt}
use Rattle.relvar_logs.specs.Opening.{logs_fit}
use Rattle.relvar_logs.specs.Room.{are_each_few, left_of, log_count, rows_of_logs, IsCountedAs}
use Rattle.relvar_logs.specs.Turning.{AreNext, IsNext, IsOfBase, IsReadyLog}
use Rattle.relvar_logs.proofs.CountLemmas.{ready_counted}
use Rattle.relvar_logs.proofs.EntryLemmas.{entries_length}
use Rattle.relvar_logs.proofs.NextLemmas.{all_so, base_before, of_base_there, turned-name}

-- ---- a new name

all-last : (P : Name → Type 0) (xs : List Name) (y : Name) → AllByRecursion P (xs ++ y ∷ []) → P y
all-last P [] y h = h.0
all-last P (x ∷ xs) y h = all-last P xs y h.1

distinct-later : (xs ys : List Name) → IsDistinct bytes_eq (xs ++ ys) → IsDistinct bytes_eq ys
unfolding IsDistinct
distinct-later [] ys h = h
distinct-later (x ∷ xs) ys h = distinct-later xs ys h.1

pub insert_new : (es : List (Name × Relvar)) (k : Name) (v : Relvar) → IsDistinct bytes_eq (keys_of es ++ k ∷ []) → insert_entry bytes_eq es k v ≡ es ++ (k, v) ∷ []
unfolding IsDistinct
insert_new [] k v h = refl
insert_new (e ∷ es) k v h =
    let other : bytes_eq k e.0 ≡ false = turned-name e.0 k (all-last (λ y. bytes_eq e.0 y ≡ false) (keys_of es) k h.0) in
    ap (λ (b : Bool). cond b ((e.0, v) ∷ es) (e ∷ insert_entry bytes_eq es k v)) other ∙ ap (λ (z : List (Name × Relvar)). e ∷ z) (insert_new es k v h.1)

names-one : (es : List (Name × Relvar)) (n : Name) (r : PlainRelvar) → map (λ e. e.0) (map read_entry es ++ (n, r) ∷ []) ≡ keys_of es ++ n ∷ []
names-one [] n r = refl
names-one (e ∷ es) n r = ap (λ (z : List Name). e.0 ∷ z) (names-one es n r)

pub new_name : (s : State) (es : List (Name × Relvar)) (n : Name) (r : PlainRelvar) → IsWellMade (record s { relvars = map read_entry es ++ (n, r) ∷ [] }) → IsDistinct bytes_eq (keys_of es ++ n ∷ [])
new_name s es n r made =
    subst (IsDistinct bytes_eq) (names-one es n r)
    (distinct-later (map (λ k. k.0) s.rules ++ map (λ o. o.name) s.ordinals) (map (λ e. e.0) (map read_entry es ++ (n, r) ∷ [])) made.different)

-- ---- the logs that there are

stays-one : (n : ℤ) (es more : Entries) (r : PlainRelvar) → IsOfBase es r → IsInStep n es r → IsNext n (es ++ more) None r
stays-one n es more (base value constraints) b h = tt
stays-one n es more (view t kind) b h = tt
stays-one n es more (log of side last value) b h = (h.0, h.1 ∙ ap base_rows (sym (base_before es more of b.0)))

both-there : (P Q R : PlainRelvar → Type 0) → ((r : PlainRelvar) → P r → Q r → R r) → (es : Entries) (i : ℕ) → IsSoAt i P es → IsSoAt i Q es → IsSoAt i R es
both-there P Q R f [] i p q = absurd p
both-there P Q R f (e ∷ es) zero p q = f e.1 p q
both-there P Q R f (e ∷ es) (suc i) p q = both-there P Q R f es i p q

next-all : (n : ℤ) (all es : Entries) → ((i : ℕ) → i < length es → IsSoAt i (IsNext n all None) es) → AreNext n all [] es
next-all n all [] h = tt
next-all n all (e ∷ es) h = (h 0 (omega arith), next-all n all es (λ i l. h (suc i) (omega (arith, l))))

pub stays : (sizes : List ℕ) (n : ℤ) (es more : Entries) → AreRelvars sizes [] es → All (λ r. IsInStep n es r.1) es → AreNext n (es ++ more) [] es
stays sizes n es more made step =
    next-all n (es ++ more) es
    (λ i l. both-there (IsOfBase es) (IsInStep n es) (IsNext n (es ++ more) None) (stays-one n es more) es i (of_base_there sizes es i made l) (all_so (IsInStep n es) es i step l))

-- ---- the log that begins

next-last : (n : ℤ) (all es : Entries) (count : ℕ) (t : PlainLog) (y : Name × PlainRelvar) → count ≡ length es → AreNext n all [] es → IsNext n all (Some t) y.1
    → AreNext n all (replicate count None ++ Some t ∷ []) (es ++ y ∷ [])
next-last n all [] zero t y l are h = (h, tt)
next-last n all [] (suc count) t y l are h = absurd (omega (arith, l))
next-last n all (e ∷ es) zero t y l are h = absurd (omega (arith, l))
next-last n all (e ∷ es) (suc count) t y l are h = (are.0, next-last n all es count t y (omega (arith, l)) are.1 h)

abbrev side-in : PlainRelvar → ℕ
side-in (base value constraints) = 0
side-in (view t kind) = 0
side-in (log of side last value) = side

begun-as : (n : ℤ) (all : Entries) (from : Option PlainRelvar) (d : LogData) (t : PlainLog) → IsReadyLog n all (new_log (heading_if from) n d) (log d.of t.side t.last (log_relation t))
    → log d.of t.side n (record { heading = t.stored.heading; rows = [] }) ≡ new_log (heading_if from) n d
begun-as n all from d t ready = λ i. log d.of (side-in (ready.is i)) n (record { heading = relvar_heading (ready.is i); rows = [] })

-- the state in which it is declared
module _ (old mid : Relvars) (d : LogData) (t l : PlainLog)
    (ready : IsReadyLog old.accepted (with_log (read_relvars old) d).relvars (new_log (heading_if (relvar_named (read_relvars old).relvars d.of)) old.accepted d) (log d.of t.side t.last (log_relation t)))
    (before : l ≡ record { side = t.side; last = old.accepted; stored = record { heading = t.stored.heading; rows = [] } })
    (entries : mid.list.entries ≡ old.list.entries ++ (d.name, Log d.of l) ∷ []) (ordinals : mid.ordinals ≡ old.ordinals) (rules : mid.rules ≡ old.rules) (accepted : mid.accepted ≡ old.accepted) where
  abbrev s : State
  s = read_relvars old

  abbrev from : Option PlainRelvar
  from = relvar_named s.relvars d.of

  new-is : read_relvar (Log d.of l) ≡ new_log (heading_if from) s.accepted d
  new-is = ap (λ (k : PlainLog). read_relvar (Log d.of k)) before ∙ begun-as s.accepted (with_log s d).relvars from d t ready

  pub opened_state : read_relvars mid ≡ with_log s d
  opened_state =
      let list : map read_entry mid.list.entries ≡ s.relvars ++ (d.name, read_relvar (Log d.of l)) ∷ [] =
      ap (λ (z : List (Name × Relvar)). map read_entry z) entries ∙ map-append read_entry old.list.entries ((d.name, Log d.of l) ∷ []) in
      let relvars = list ∙ ap (λ (r : PlainRelvar). s.relvars ++ (d.name, r) ∷ []) new-is in
      λ i. record { ordinals = ordinals i; relvars = relvars i; rules = map read_rule (rules i).entries; accepted = accepted i }

  pub opened_ready : (count : ℕ) (ts : List (Option PlainLog)) → count ≡ length old.list.entries → AreNext s.accepted (with_log s d).relvars [] s.relvars → ts ≡ replicate count None ++ Some t ∷ []
      → AreNext (read_relvars mid).accepted (read_relvars mid).relvars ts (read_relvars mid).relvars
  opened_ready count ts len stay is =
      let last = next-last s.accepted (with_log s d).relvars s.relvars count t (d.name, new_log (heading_if from) s.accepted d) (len ∙ sym (entries_length old.list.entries)) stay ready in
      subst (λ (us : List (Option PlainLog)). AreNext (read_relvars mid).accepted (read_relvars mid).relvars us (read_relvars mid).relvars) (sym is)
      (subst (λ (z : State). AreNext z.accepted z.relvars (replicate count None ++ Some t ∷ []) z.relvars) (sym opened_state) last)

-- ---- its room

pub first_counted : (n : ℤ) (all : Entries) (r : PlainRelvar) (of : Name) (t : PlainLog) (stored : Relation) (rows : List Row) → IsReadyLog n all r (log of t.side t.last (log_relation t))
    → stored ≡ t.stored → rows ≡ stored.rows → IsRelation stored → IsCountedAs all (length rows) r
first_counted n all r of t stored rows ready same e relation =
    ready_counted n all r of t (length rows) ready (subst IsRelation same relation) (ap length e ∙ ap (λ (k : Relation). length k.rows) same)

rows-last : (xs : Entries) (y : Name × PlainRelvar) → rows_of_logs (xs ++ y ∷ []) ≡ rows_of_logs xs + log_count y.1
rows-last [] y = omega arith
rows-last (x ∷ xs) y = let h = rows-last xs y in omega (arith, h)

few-last : (xs : Entries) (y : Name × PlainRelvar) → are_each_few xs ≡ true → nat_le (log_count y.1) most_rows ≡ true → are_each_few (xs ++ y ∷ []) ≡ true
few-last [] y h k = and_from (nat_le (log_count y.1) most_rows) true k refl
few-last (x ∷ xs) y h k =
    let parts = and_parts (nat_le (log_count x.1) most_rows) (are_each_few xs) h in
    and_from (nat_le (log_count x.1) most_rows) (are_each_few (xs ++ y ∷ [])) parts.0 (few-last xs y parts.1 k)

le-true : (m n : ℕ) (b : Bool) → nat_le m n ≡ b → m ≤ n → nat_le m n ≡ true
le-true m n true q l = q
le-true m n false q l = let k : n < m = grind (arith, nat_tests) in absurd (omega (arith, l, k))

le-false : (m n : ℕ) (b : Bool) → nat_le m n ≡ b → n < m → nat_le m n ≡ false
le-false m n false q l = q
le-false m n true q l = let k : m ≤ n = grind (arith, nat_tests) in absurd (omega (arith, l, k))

-- what is left of the number is none where it is too small
less-none : (most total : ℕ) (b : Bool) → nat_le total most ≡ b → None ≡ cond b (Some (most - total)) None → most < total
less-none most total true q e = absurd (cc)
less-none most total false q e = grind (arith, nat_tests)

less-some : (most total room : ℕ) (b : Bool) → nat_le total most ≡ b → Some room ≡ cond b (Some (most - total)) None → (total ≤ most) × (room ≡ most - total)
less-some most total room true q e = let same : room ≡ most - total = cc in (grind (arith, nat_tests), same)
less-some most total room false q e = absurd (cc)

same-le : (a b c d : ℕ) (x y : Bool) → nat_le a b ≡ x → nat_le c d ≡ y → (a ≤ b → c ≤ d) → (c ≤ d → a ≤ b) → nat_le a b ≡ nat_le c d
same-le a b c d true true p q f g = p ∙ sym q
same-le a b c d false false p q f g = p ∙ sym q
same-le a b c d true false p q f g =
    let l : a ≤ b = grind (arith, nat_tests) in
    let k : d < c = grind (arith, nat_tests) in
    let m = f l in
    absurd (omega (arith, k, m))
same-le a b c d false true p q f g =
    let l : c ≤ d = grind (arith, nat_tests) in
    let k : b < a = grind (arith, nat_tests) in
    let m = g l in
    absurd (omega (arith, k, m))

module _ (rows count : ℕ) (all es : Entries) (y : Name × PlainRelvar) (is : IsCountedAs all count y.1) where
  abbrev others : Entries
  others = map (λ r. (r.0, turned_relvar all r.1)) es

  abbrev told : Name × PlainRelvar
  told = (y.0, turned_relvar all y.1)

  abbrev each : Entries
  each = map (λ r. (r.0, turned_relvar all r.1)) (es ++ y ∷ [])

  each-is : each ≡ others ++ told ∷ []
  each-is = map-append (λ (r : Name × PlainRelvar). (r.0, turned_relvar all r.1)) es (y ∷ [])

  total : rows_of_logs each ≡ rows_of_logs others + count
  total =
      let e = ap rows_of_logs each-is ∙ rows-last others told in
      let c = is.is in
      omega (arith, e, c)

  over : most_rows_in_all < rows_of_logs others + count → false ≡ logs_fit rows each
  over l =
      let t = total in
      sym (and_left (nat_le (rows + rows_of_logs each) most_rows_in_all) (are_each_few each)
      (le-false (rows + rows_of_logs each) most_rows_in_all (nat_le (rows + rows_of_logs each) most_rows_in_all) refl (omega (arith, l, t))))

  pub no_room : None ≡ left_of most_rows_in_all (rows_of_logs others) → false ≡ logs_fit rows each
  no_room e = let m = less-none most_rows_in_all (rows_of_logs others) (nat_le (rows_of_logs others) most_rows_in_all) refl e in over (omega (arith, m))

  pub little_room : (room : ℕ) → Some room ≡ left_of most_rows_in_all (rows_of_logs others) → room < count → false ≡ logs_fit rows each
  little_room room e l =
      let m = less-some most_rows_in_all (rows_of_logs others) room (nat_le (rows_of_logs others) most_rows_in_all) refl e in
      let some = m.0 in
      let left = m.1 in
      over (omega (arith, some, left, l))

  pub some_room : (room : ℕ) → Some room ≡ left_of most_rows_in_all (rows_of_logs others) → are_each_few others ≡ true → count ≤ room → nat_le rows (room - count) ≡ logs_fit rows each
  some_room room e few l =
      let m = less-some most_rows_in_all (rows_of_logs others) room (nat_le (rows_of_logs others) most_rows_in_all) refl e in
      let some = m.0 in
      let left = m.1 in
      let t = total in
      let c = is.is in
      let small = is.few in
      let one = le-true (log_count told.1) most_rows (nat_le (log_count told.1) most_rows) refl (omega (arith, c, small)) in
      let all-few = ap are_each_few each-is ∙ few-last others told few one in
      same-le rows (room - count) (rows + rows_of_logs each) most_rows_in_all (nat_le rows (room - count)) (nat_le (rows + rows_of_logs each) most_rows_in_all) refl refl
      (λ p. omega (arith, some, left, t, l, p)) (λ p. omega (arith, some, left, t, l, p))
      ∙ sym (both (nat_le (rows + rows_of_logs each) most_rows_in_all) (are_each_few each) all-few)
    where
      both : (a b : Bool) → b ≡ true → (a && b) ≡ a
      both true b h = h
      both false b h = refl
