-- Logs that are turned one after the other.
--     next_there, later_there, earlier_there      what stands ready for an entry, and what is so of one, while logs before it are turned
--     first_more, first_all      one log more, and all
--     idle_turned      a log whose relvar stays
--     all_there      what is so at each place is so of all
--     all_in_step      each log tells its relvar's rows when all are turned
use Rattle.std.proofs.Common.{◌≡◌, inl, inr, true, false, cond, ℕ, zero, suc, ◌+◌, ◌<◌, ◌≤◌, ℤ, pos, ◌+ℤ◌, ◌-ℤ◌, ◌<ℤ◌, List, [], ◌∷◌, map, drop, get_or, length, refl, sym, ap, subst, ◌∙◌, arith, Option, Some, None}
use Rattle.std.specs.Prelude.{option_map}
use Rattle.std.specs.Str.{bytes_eq}
use Rattle.std.specs.List.{All}
use Rattle.std.proofs.lemmas.Bool.{cases_lt}
use Rattle.std.proofs.lemmas.Int.{ints}
use Rattle.std.proofs.lemmas.List.Elements.{All-nil, All-cons}
use Rattle.base_core.proofs.SetLemmas.{Ascends-from_sorted}
use Rattle.value_core.specs.Values.{Name, Row, IsRelation, row_cmp}
use Rattle.log_times.specs.Kept.{PlainLog, log_relation, IsLog}
use Rattle.log_times.specs.Logs.{closed, moved, standing, open_end, IsStored}
use Rattle.log_times.proofs.TurnLemmas.{idle}
use Rattle.log_turns.proofs.ValueLemmas.{value-standing}
use Rattle.tree_core.specs.declared.relvar.Relvar.{Relvar}
use Rattle.tree_core.specs.declared.relvar.Relvar.TheVariants.{Log}
use Rattle.tree_core.specs.Relvars.{PlainRelvar, base, view, log, Entries, relvar_named, read_entry, read_relvar}
use Rattle.meaning_core.specs.Logs.{base_rows, turned_relvar, turned_logs, IsInStep, AreInStep}
use Rattle.relvar_logs.specs.Changes.{turned_at, IsSoAt}
use Rattle.relvar_logs.specs.Turning.{IsNext, AreNext, turned_first}
use Rattle.relvar_logs.proofs.EntryLemmas.{entries_length, so_weaker}

-- ---- what stands ready for it

pub next_there : (n : ℤ) (all : Entries) (ts : List (Option PlainLog)) (es : Entries) (i : ℕ) → AreNext n all ts es → i < length es → IsSoAt i (IsNext n all (get_or ts i None)) es
next_there n all ts [] i are l = absurd (omega (arith, l))
next_there n all [] (e ∷ es) zero are l = are.0
next_there n all [] (e ∷ es) (suc i) are l = next_there n all [] es i are.1 (omega (arith, l))
next_there n all (t ∷ ts) (e ∷ es) zero are l = are.0
next_there n all (t ∷ ts) (e ∷ es) (suc i) are l = next_there n all ts es i are.1 (omega (arith, l))

-- of an entry behind those that are turned, and of one before that which is turned next
pub later_there : (P : PlainRelvar → Type 0) (all : Entries) (es : Entries) (n i : ℕ) → n ≤ i → IsSoAt i P es → IsSoAt i P (turned_first all n es)
later_there P all es zero i l h = h
later_there P all [] (suc n) i l h = absurd h
later_there P all (e ∷ es) (suc n) zero l h = absurd (omega (arith, l))
later_there P all (e ∷ es) (suc n) (suc i) l h = later_there P all es n i (omega (arith, l)) h

pub earlier_there : (P : PlainRelvar → Type 0) (all : Entries) (es : Entries) (n i : ℕ) → i < n → IsSoAt i P es → IsSoAt i P (turned_at n (turned_relvar all) es)
earlier_there P all [] n i l h = absurd h
earlier_there P all (e ∷ es) zero i l h = absurd (omega (arith, l))
earlier_there P all (e ∷ es) (suc n) zero l h = h
earlier_there P all (e ∷ es) (suc n) (suc i) l h = earlier_there P all es n i (omega (arith, l)) h

-- ---- one more, and all

pub first_more : (all es : Entries) (i : ℕ) → turned_at i (turned_relvar all) (turned_first all i es) ≡ turned_first all (suc i) es
first_more all [] zero = refl
first_more all [] (suc i) = refl
first_more all (e ∷ es) zero = refl
first_more all (e ∷ es) (suc i) = ap (λ (z : Entries). (e.0, turned_relvar all e.1) ∷ z) (first_more all es i)

pub first_length : (all es : Entries) (i : ℕ) → length (turned_first all i es) ≡ length es
first_length all es zero = refl
first_length all [] (suc i) = refl
first_length all (e ∷ es) (suc i) = ap suc (first_length all es i)

pub first_all : (all es : Entries) → turned_first all (length es) es ≡ map (λ r. (r.0, turned_relvar all r.1)) es
first_all all [] = refl
first_all all (e ∷ es) = ap (λ (z : Entries). (e.0, turned_relvar all e.1) ∷ z) (first_all all es)

-- behind a place the list of what stands ready is as it was
pub ready_later : (ts us : List (Option PlainLog)) (i : ℕ) → drop i ts ≡ drop i us → get_or ts i None ≡ get_or us i None
ready_later ts us i e = head_of ts i ∙ (ap (λ (l : List (Option PlainLog)). get_or l 0 None) e ∙ sym (head_of us i))
  where
    head_of : (l : List (Option PlainLog)) (k : ℕ) → get_or l k None ≡ get_or (drop k l) 0 None
    head_of l zero = refl
    head_of [] (suc k) = refl
    head_of (x ∷ l) (suc k) = head_of l k

pub drop_later : (new mid old : List (Option PlainLog)) (i : ℕ) → drop (suc i) new ≡ drop (suc i) mid → drop i mid ≡ drop i old → drop (i + 1) new ≡ drop (i + 1) old
drop_later new mid old i e d =
    let one : i + 1 ≡ suc i = omega arith in
    ap (λ (k : ℕ). drop k new) one ∙ (e ∙ (behind mid i ∙ (ap (drop 1) d ∙ (sym (behind old i) ∙ ap (λ (k : ℕ). drop k old) (sym one)))))
  where
    behind : (l : List (Option PlainLog)) (k : ℕ) → drop (suc k) l ≡ drop 1 (drop k l)
    behind l zero = refl
    behind [] (suc k) = refl
    behind (x ∷ l) (suc k) = behind l k

-- the logs before the place are in step, and then that at the place
pub more_in_step : (n : ℤ) (all es fs : Entries) (at : ℕ) → fs ≡ turned_at at (turned_relvar all) es → ((i : ℕ) → i < at → IsSoAt i (IsInStep n all) es) → IsSoAt at (IsInStep n all) fs
    → (i : ℕ) → i < at + 1 → IsSoAt i (IsInStep n all) fs
more_in_step n all es fs at e h here i l =
    elim (cases_lt i at) [
      | inl lt ↦ subst (λ (z : Entries). IsSoAt i (IsInStep n all) z) (sym e) (earlier_there (IsInStep n all) all es at i lt (h i lt))
      | inr le ↦ let same : at ≡ i = omega (arith, l, le) in subst (λ (k : ℕ). IsSoAt k (IsInStep n all) fs) same here
    ]

pub all_before : (n : ℤ) (all es : Entries) (count at : ℕ) → count ≤ at → ((i : ℕ) → i < at → IsSoAt i (IsInStep n all) es) → (i : ℕ) → i < count → IsSoAt i (IsInStep n all) es
all_before n all es count at l h i k = h i (omega (arith, l, k))

-- ---- a log whose relvar stays

pub idle_next : (all : Entries) (n : ℤ) (next : Option PlainLog) (r : Relvar) (of : Name) (l : PlainLog) → next ≡ None → r ≡ Log of l → IsNext (n -ℤ pos 1) all next (read_relvar r)
    → IsInStep (n -ℤ pos 1) all (log of l.side l.last (log_relation l))
idle_next all n next r of l none is h =
    subst (λ (o : Option PlainLog). IsNext (n -ℤ pos 1) all o (log of l.side l.last (log_relation l))) none (subst (λ (k : Relvar). IsNext (n -ℤ pos 1) all next (read_relvar k)) is h)

module _ (all : Entries) (of : Name) (l : PlainLog) (n : ℤ) (is : IsLog l) (relation : IsRelation l.stored) (below : n <ℤ open_end)
    (step : IsInStep (n -ℤ pos 1) all (log of l.side l.last (log_relation l))) where
  abbrev stayed : PlainLog
  stayed = record { side = l.side; last = n; stored = l.stored }

  number : (l.last +ℤ pos 1) ≡ n
  number = let h : l.last ≡ (n -ℤ pos 1) = step.0 in omega (arith, ints, h)

  stands : standing l.side l.stored.rows ≡ base_rows (relvar_named all of)
  stands = sym (value-standing l is) ∙ step.1

  once : IsStored l.side (l.last +ℤ pos 1) l.stored.rows
      × (closed l.side (l.last +ℤ pos 1) l.stored.rows ≡ moved l.side (l.last +ℤ pos 1) (standing l.side l.stored.rows) (closed l.side l.last l.stored.rows))
  once = idle l.side l.last l.stored.rows (Ascends-from_sorted row_cmp l.stored.rows relation.ascending) is.rows (subst (λ (k : ℤ). k <ℤ open_end) (sym number) below)

  pub idle_turned : log of l.side n (log_relation stayed) ≡ turned_relvar all (log of l.side l.last (log_relation l))
  idle_turned =
      let rows : closed l.side n l.stored.rows ≡ moved l.side (l.last +ℤ pos 1) (base_rows (relvar_named all of)) (closed l.side l.last l.stored.rows) =
      ap (λ (k : ℤ). closed l.side k l.stored.rows) (sym number) ∙ (once.1 ∙ ap (λ (z : List Row). moved l.side (l.last +ℤ pos 1) z (closed l.side l.last l.stored.rows)) stands) in
      λ i. log of l.side (sym number i) (record { heading = l.stored.heading; rows = rows i })

  pub idle_step : IsInStep n all (log of l.side n (log_relation stayed))
  idle_step = (refl, value-standing stayed (record { heading = is.heading; rows = subst (λ (k : ℤ). IsStored l.side k l.stored.rows) number once.0 }) ∙ stands)

-- ---- all in step

base-same : (all : Entries) (o : Option PlainRelvar) → base_rows (option_map (turned_relvar all) o) ≡ base_rows o
base-same all None = refl
base-same all (Some (base value constraints)) = refl
base-same all (Some (view t kind)) = refl
base-same all (Some (log of side last value)) = refl

named-turned : (all es : Entries) (name : Name) → relvar_named (map (λ r. (r.0, turned_relvar all r.1)) es) name ≡ option_map (turned_relvar all) (relvar_named es name)
named-turned all [] name = refl
named-turned all (e ∷ es) name =
    ap (λ (o : Option PlainRelvar). cond (bytes_eq e.0 name) (Some (turned_relvar all e.1)) o) (named-turned all es name)
    ∙ (elim (bytes_eq e.0 name) as (λ b. cond b (Some (turned_relvar all e.1)) (option_map (turned_relvar all) (relvar_named es name)) ≡ option_map (turned_relvar all) (cond b (Some e.1) (relvar_named es name))) [
      | true ↦ refl
      | false ↦ refl
    ])

-- base relvars have the rows that they had
pub rows-turned : (all : Entries) (name : Name) → base_rows (relvar_named (turned_logs all) name) ≡ base_rows (relvar_named all name)
rows-turned all name = ap base_rows (named-turned all all name) ∙ base-same all (relvar_named all name)

step-turned : (n : ℤ) (all : Entries) (r : PlainRelvar) → IsInStep n all r → IsInStep n (turned_logs all) r
step-turned n all (base value constraints) h = tt
step-turned n all (view t kind) h = tt
step-turned n all (log of side last value) h = (h.0, h.1 ∙ sym (rows-turned all of))

pub all_there : (P : PlainRelvar → Type 0) (es : Entries) → ((i : ℕ) → i < length es → IsSoAt i P es) → All (λ r. P r.1) es
all_there P [] h = All-nil (λ r. P r.1)
all_there P (e ∷ es) h = All-cons (λ r. P r.1) e es (h 0 (omega arith)) (all_there P es (λ i l. h (suc i) (omega (arith, l))))

pub all_in_step : (n : ℤ) (all es : Entries) → es ≡ turned_logs all → ((i : ℕ) → i < length es → IsSoAt i (IsInStep n all) es) → AreInStep n es
all_in_step n all es e h =
    subst (λ (z : Entries). All (λ r. IsInStep n z r.1) es) (sym e)
    (all_there (IsInStep n (turned_logs all)) es (λ i l. so_weaker es i (IsInStep n all) (IsInStep n (turned_logs all)) (step-turned n all) (h i l)))

-- the list of entries after all have been turned
pub all_turned : (es fs : List (Name × Relvar)) (count : ℕ) → count ≡ length es → map read_entry fs ≡ turned_first (map read_entry es) count (map read_entry es)
    → map read_entry fs ≡ turned_logs (map read_entry es)
all_turned es fs count n e =
    e ∙ (ap (λ (k : ℕ). turned_first (map read_entry es) k (map read_entry es)) (n ∙ sym (entries_length es)) ∙ first_all (map read_entry es) (map read_entry es))
