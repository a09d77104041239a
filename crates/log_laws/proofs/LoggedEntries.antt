-- Logs among the entries of a well made state, and what they are with one statement more.
--     log-of      what stands for a name as a log is that of a base relvar
--     long-turned      with the logs turned each row has a value for each attribute
--     turned-from      a log among turned ones was one before
use Rattle.std.proofs.Common.{◌≡◌, ℕ, suc, Bool, true, false, cond, List, [], ◌∷◌, ◌++◌, map, length, refl, sym, ap, ◌∙◌, subst, append_assoc, Option, Some, None, option_map}
use Rattle.std.specs.Prelude.{ℤ, pos, ◌+ℤ◌}
use Rattle.std.specs.List.{AllByRecursion}
use Rattle.std.specs.Str.{bytes_eq}
use Rattle.value_core.specs.Values.{Name, Heading, Relation}
use Rattle.log_times.specs.Logs.{moved}
use Rattle.log_times.specs.Turns.{without}
use Rattle.tree_core.specs.Relvars.{PlainRelvar, base, view, log, Entries, relvar_named, heading_if}
use Rattle.meaning_core.specs.Logs.{base_rows, turned_relvar, turned_logs}
use Rattle.meaning_core.specs.WellMade.{IsBase, IsLogOf, IsRelvar, AreRelvars}
use Rattle.meaning_core.proofs.RelvarLemmas.{named_before}
use Rattle.log_laws.proofs.RowLengths.{HaveLength}
use Rattle.log_laws.proofs.EntryLengths.{IsLong, AreLong, long-named, long-base, long-without, long-moved}

-- ---- a log's relvar

-- of a log: it is that of a base relvar
abbrev IsLogIn : Entries → PlainRelvar → Type 0
IsLogIn all (base value constraints) = Unit {0}
IsLogIn all (view t kind) = Unit {0}
IsLogIn all (log of side last value) = IsLogOf all of side value.heading

base-behind : (before more : Entries) (of : Name) (o : Option PlainRelvar) → relvar_named before of ≡ o → IsBase o → relvar_named (before ++ more) of ≡ o
base-behind before more of None e is = absurd is
base-behind before more of (Some r) e is = named_before before more of r e

log-behind : (before more : Entries) (of : Name) (side : ℕ) (heading : Heading) → IsLogOf before of side heading → IsLogOf (before ++ more) of side heading
log-behind before more of side heading is =
    let same : relvar_named before of ≡ relvar_named (before ++ more) of = sym (base-behind before more of (relvar_named before of) refl is.0) in
    (subst IsBase same is.0, is.1, is.2 ∙ ap heading_if same)

entry-behind : (sizes : List ℕ) (before more : Entries) (own : Name) (r : PlainRelvar) → IsRelvar sizes before own r → IsLogIn (before ++ more) r
entry-behind sizes before more own (base value constraints) is = tt
entry-behind sizes before more own (view t kind) is = tt
entry-behind sizes before more own (log of side last value) is = log-behind before more of side value.heading is.1

logs-behind : (sizes : List ℕ) (before es : Entries) → AreRelvars sizes before es → AllByRecursion (λ (e : Name × PlainRelvar). IsLogIn (before ++ es) e.1) es
logs-behind sizes before [] all = tt
logs-behind sizes before (e ∷ es) all = (
  entry-behind sizes before (e ∷ es) e.0 e.1 all.0,
  subst (λ (l : Entries). AllByRecursion (λ (x : Name × PlainRelvar). IsLogIn l x.1) es) (append_assoc before (e ∷ []) es) (logs-behind sizes (before ++ e ∷ []) es all.1),
)

logs-in : (sizes : List ℕ) (es : Entries) → AreRelvars sizes [] es → AllByRecursion (λ (e : Name × PlainRelvar). IsLogIn es e.1) es
logs-in sizes es all = logs-behind sizes [] es all

-- what stands for a name has what all entries have
abbrev IsSoIf : (PlainRelvar → Type 0) → Option PlainRelvar → Type 0
IsSoIf P None = Unit {0}
IsSoIf P (Some r) = P r

so-named : (P : PlainRelvar → Type 0) (es : Entries) (name : Name) → AllByRecursion (λ (e : Name × PlainRelvar). P e.1) es → IsSoIf P (relvar_named es name)
so-named P [] name h = tt
so-named P (e ∷ es) name h = by (bytes_eq e.0 name) (so-named P es name h.1)
  where
    by : (b : Bool) → IsSoIf P (relvar_named es name) → IsSoIf P (cond b (Some e.1) (relvar_named es name))
    by true more = h.0
    by false more = more

pub log-of : (sizes : List ℕ) (es : Entries) → AreRelvars sizes [] es → (name of : Name) (side : ℕ) (last : ℤ) (value : Relation) → relvar_named es name ≡ Some (log of side last value)
    → IsLogOf es of side value.heading
log-of sizes es all name of side last value e = subst (IsSoIf (IsLogIn es)) e (so-named (IsLogIn es) es name (logs-in sizes es all))

-- ---- logs that are turned

one-turned : (all : Entries) → AreLong all → (r : PlainRelvar) → IsLogIn all r → IsLong r → IsLong (turned_relvar all r)
one-turned all longs (base value constraints) is long = long
one-turned all longs (view t kind) is long = tt
one-turned all longs (log of side last value) is long =
    let size : length value.heading ≡ suc (length (without side value.heading)) = long-without side value.heading is.1.within in
    let now : HaveLength (length (heading_if (relvar_named all of))) (base_rows (relvar_named all of)) = long-base (relvar_named all of) (long-named all of longs) in
    let short : HaveLength (length (without side value.heading)) (base_rows (relvar_named all of)) = subst (λ (h : Heading). HaveLength (length h) (base_rows (relvar_named all of))) (sym is.2) now in
    subst (λ (n : ℕ). HaveLength n (moved side (last +ℤ pos 1) (base_rows (relvar_named all of)) value.rows)) (sym size)
    (long-moved (length (without side value.heading)) side (last +ℤ pos 1) (base_rows (relvar_named all of)) value.rows short (subst (λ (n : ℕ). HaveLength n value.rows) size long))

pub long-turned : (sizes : List ℕ) (es : Entries) → AreRelvars sizes [] es → AreLong es → AreLong (turned_logs es)
long-turned sizes es all long = from es (logs-in sizes es all) long
  where
    from : (fs : Entries) → AllByRecursion (λ (e : Name × PlainRelvar). IsLogIn es e.1) fs → AreLong fs → AreLong (map (λ r. (r.0, turned_relvar es r.1)) fs)
    from [] is h = tt
    from (f ∷ fs) is h = (one-turned es long f.1 is.0 h.0, from fs is.1 h.1)

pub named-turned : (all : Entries) (name : Name) → relvar_named (turned_logs all) name ≡ option_map (turned_relvar all) (relvar_named all name)
named-turned all name = from all
  where
    by : (b : Bool) (r : PlainRelvar) (o p : Option PlainRelvar) → o ≡ option_map (turned_relvar all) p → cond b (Some (turned_relvar all r)) o ≡ option_map (turned_relvar all) (cond b (Some r) p)
    by true r o p e = refl
    by false r o p e = e

    from : (es : Entries) → relvar_named (map (λ r. (r.0, turned_relvar all r.1)) es) name ≡ option_map (turned_relvar all) (relvar_named es name)
    from [] = refl
    from (e ∷ es) = by (bytes_eq e.0 name) e.1 (relvar_named (map (λ r. (r.0, turned_relvar all r.1)) es) name) (relvar_named es name) (from es)

-- a log among turned ones, and what it was before
pub record WasLog (all : Entries) (name of : Name) (side : ℕ) (last : ℤ) (value : Relation) : Type 0 where
  pub before : ℤ
  pub old : Relation
  pub named : relvar_named all name ≡ Some (log of side before old)
  pub next : last ≡ before +ℤ pos 1
  pub headed : value.heading ≡ old.heading
  pub rows : value.rows ≡ moved side (before +ℤ pos 1) (base_rows (relvar_named all of)) old.rows

pub turned-from : (all : Entries) (name of : Name) (side : ℕ) (last : ℤ) (value : Relation) → relvar_named (turned_logs all) name ≡ Some (log of side last value) → WasLog all name of side last value
turned-from all name of side last value e = by (relvar_named all name) refl (sym (named-turned all name) ∙ e)
  where
    by : (o : Option PlainRelvar) → relvar_named all name ≡ o → option_map (turned_relvar all) o ≡ Some (log of side last value) → WasLog all name of side last value
    by None q f = absurd (cc)
    by (Some (base own constraints)) q f = absurd (cc)
    by (Some (view t kind)) q f = absurd (cc)
    by (Some (log source place number own)) q f =
        let made : Relation = record own { rows = moved place (number +ℤ pos 1) (base_rows (relvar_named all source)) own.rows } in
        let one : log source place (number +ℤ pos 1) made ≡ log of side last value = cc in
        let a : source ≡ of = cc in
        let b : place ≡ side = cc in
        let c : (number +ℤ pos 1) ≡ last = cc in
        let d : made ≡ value = cc in
        record {
          before = number;
          old = own;
          named = q ∙ (λ i. Some (log (a i) (b i) number own));
          next = sym c;
          headed = ap (λ (r : Relation). r.heading) (sym d);
          rows = ap (λ (r : Relation). r.rows) (sym d) ∙ (λ i. moved (b i) (number +ℤ pos 1) (base_rows (relvar_named all (a i))) own.rows);
        }
