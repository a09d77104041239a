-- What the name of a base relvar means: the rows of its value.
--     value_headed, value_meant      of an operand
--     value_counted      how many they are
use Rattle.std.proofs.Common.{◌≡◌, ℕ, suc, ◌<◌, ◌≤◌, Bool, true, false, cond, List, [], ◌∷◌, length, take, refl, sym, ap, ◌∙◌, arith, Option, Some, None, Ok}
use Rattle.std.specs.Str.{bytes_eq}
use Rattle.base_core.specs.Outcomes.{then_give}
use Rattle.value_core.specs.Values.{Name, Row, Relation, most_rows}
use Rattle.relation_core.proofs.FilterLemmas.{take_all}
use Rattle.tree_core.specs.Relvars.{PlainRelvar, base, view, log, Entries, relvar_named}
use Rattle.tree_core.specs.Trees.{Tree, named, literal, infix_of, project, rename, restrict, extend, summarize, pack, unpack, using, heading_of}
use Rattle.meaning_core.specs.Logs.{base_rows}
use Rattle.meaning_core.specs.Meanings.{Known, RowsMeant, plainly, meaning, relvar_meaning, known_in, at_name, limited}
use Rattle.meaning_core.specs.Names.{found, each_in, IsFirstAt}
use Rattle.meaning_core.proofs.EntryLemmas.{found_first}
use Rattle.meaning_core.proofs.LimitLemmas.{limited_few}
use Rattle.stored_views.specs.Operands.{value_if, IsValue}
use Rattle.stored_views.specs.Stored.{named_rows}

-- the first entry of the name, a base relvar with this value
abbrev IsThere : Entries → Name → Relation → Type 0
IsThere es name x = (i : ℕ) × (r : PlainRelvar) × IsFirstAt es name i r × (value_if (Some r) ≡ Some x) × (i < length es)

value_there : (es : Entries) (name : Name) (x : Relation) → value_if (relvar_named es name) ≡ Some x → IsThere es name x
value_there [] name x e = absurd (cc)
value_there (r ∷ rest) name x e = by (bytes_eq r.0 name) refl (value_there rest name x) e
  where
    by : (b : Bool) → bytes_eq r.0 name ≡ b → (value_if (relvar_named rest name) ≡ Some x → IsThere rest name x) → value_if (cond b (Some r.1) (relvar_named rest name)) ≡ Some x → IsThere (r ∷ rest) name x
    by true q more f = (0, r.1, (q, refl), f, omega arith)
    by false q more f = let w = more f in (suc w.0, w.1, (q, w.2), w.3, let l = w.4 in omega (arith, l))

value_of_relvar : (known : Known) (r : PlainRelvar) (x : Relation) → value_if (Some r) ≡ Some x → relvar_meaning known r ≡ Ok x.rows
value_of_relvar known (base value constraints) x e = let same : value ≡ x = cc in ap (λ (v : Relation). Ok v.rows) same
value_of_relvar known (view t kind) x e = absurd (cc)
value_of_relvar known (log of side last value) x e = absurd (cc)

pub found_value : (all : Entries) (name : Name) (x : Relation) → value_if (relvar_named all name) ≡ Some x → found (Ok []) (known_in all) name ≡ Ok x.rows
found_value all name x e =
    let w = value_there all name x e in
    ap (λ (es : Entries). found (Ok []) (each_in relvar_meaning es) name) (sym (take_all (length all) all (omega arith)))
    ∙ (found_first relvar_meaning (Ok []) all name w.0 (length all) w.1 w.2 w.4 ∙ value_of_relvar (each_in relvar_meaning (take w.0 all)) w.1 x w.3)

pub value_headed : (all : Entries) (t : Tree) (x : Relation) → IsValue all t x → x.heading ≡ heading_of t
value_headed all (named place h name) x is = is.1
value_headed all (literal place h tuples) x is = absurd is
value_headed all (infix_of place h word l r) x is = absurd is
value_headed all (project place h kept t) x is = absurd is
value_headed all (rename place h names t) x is = absurd is
value_headed all (restrict place h c t) x is = absurd is
value_headed all (extend place h sets t) x is = absurd is
value_headed all (summarize place h by aggregates t) x is = absurd is
value_headed all (pack place h commalist t) x is = absurd is
value_headed all (unpack place h commalist t) x is = absurd is
value_headed all (using place h commalist t) x is = absurd is

pub value_meant : (all : Entries) (t : Tree) (x : Relation) → length x.rows ≤ most_rows → IsValue all t x → meaning (known_in all) plainly t ≡ Ok x.rows
value_meant all (named place h name) x few is =
    ap (λ (m : RowsMeant). then_give (at_name place m) (limited place)) (found_value all name x is.0) ∙ limited_few place x.rows few
value_meant all (literal place h tuples) x few is = absurd is
value_meant all (infix_of place h word l r) x few is = absurd is
value_meant all (project place h kept t) x few is = absurd is
value_meant all (rename place h names t) x few is = absurd is
value_meant all (restrict place h c t) x few is = absurd is
value_meant all (extend place h sets t) x few is = absurd is
value_meant all (summarize place h by aggregates t) x few is = absurd is
value_meant all (pack place h commalist t) x few is = absurd is
value_meant all (unpack place h commalist t) x few is = absurd is
value_meant all (using place h commalist t) x few is = absurd is

rows_of_value : (o : Option PlainRelvar) (x : Relation) → value_if o ≡ Some x → base_rows o ≡ x.rows
rows_of_value None x e = absurd (cc)
rows_of_value (Some (base value constraints)) x e = let same : value ≡ x = cc in ap (λ (v : Relation). v.rows) same
rows_of_value (Some (view t kind)) x e = absurd (cc)
rows_of_value (Some (log of side last value)) x e = absurd (cc)

pub value_counted : (all : Entries) (t : Tree) (x : Relation) → IsValue all t x → named_rows all t ≡ length x.rows
value_counted all (named place h name) x is = ap (λ (rows : List Row). length rows) (rows_of_value (relvar_named all name) x is.0)
value_counted all (literal place h tuples) x is = absurd is
value_counted all (infix_of place h word l r) x is = absurd is
value_counted all (project place h kept t) x is = absurd is
value_counted all (rename place h names t) x is = absurd is
value_counted all (restrict place h c t) x is = absurd is
value_counted all (extend place h sets t) x is = absurd is
value_counted all (summarize place h by aggregates t) x is = absurd is
value_counted all (pack place h commalist t) x is = absurd is
value_counted all (unpack place h commalist t) x is = absurd is
value_counted all (using place h commalist t) x is = absurd is
