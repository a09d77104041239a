-- Each row of a relvar and of a log has a value for each attribute, and so has each row of what expressions mean in their state.
--     IsLong, AreLong      of a relvar, and of all
--     known-long, meant-long      what names and expressions mean
--     long-more, long-given, long-some, long-turned      with more entries, with another value, without some, and with the logs turned
--     long-named      what stands for a name
use Rattle.std.proofs.Common.{◌≡◌, inl, inr, ℕ, suc, ◌<◌, Bool, true, false, cond, List, [], ◌∷◌, ◌++◌, map, filter, take, drop, length, refl, sym, ap, ◌∙◌, subst, arith, append-nil, append_assoc, length-append, length-take, length-drop, Option, Some, None, Ok}
use Rattle.std.specs.Prelude.{ℤ, pos, ◌-ℤ◌, not}
use Rattle.std.specs.List.{AllByRecursion}
use Rattle.std.specs.Str.{bytes_eq}
use Rattle.base_core.proofs.MemberLemmas.{In-append, In-filter, In-map}
use Rattle.interval_core.specs.Members.{at_point}
use Rattle.value_core.specs.Attributes.{put_span}
use Rattle.value_core.specs.Values.{Name, Row, Heading, Relation}
use Rattle.std.proofs.lemmas.List.{map-append}
use Rattle.log_times.specs.Logs.{stamped, statements, goes_on, prolonged, stood_at, moved}
use Rattle.log_times.proofs.RowLemmas.{length-stamped}
use Rattle.log_times.specs.Turns.{without}
use Rattle.tree_core.specs.Relvars.{PlainRelvar, base, view, log, Entries, relvar_named, relvar_heading, heading_if}
use Rattle.tree_core.specs.Trees.{Tree, heading_of}
use Rattle.meaning_core.specs.Logs.{base_rows}
use Rattle.meaning_core.specs.Meanings.{RowsMeant, Known, plainly, relvar_meaning, known_in, meaning_in}
use Rattle.meaning_core.specs.Names.{found, each_after, with_value, given}
use Rattle.meaning_core.specs.Typing.{Headings, heading_named, IsTypedTree}
use Rattle.meaning_core.specs.WellMade.{headings_of, IsRelvar, AreRelvars}
use Rattle.log_laws.proofs.RowLengths.{HaveLength, long-set, long-put, AreKnownLong, meaning-long}

abbrev pub IsLong : PlainRelvar → Type 0
IsLong (base value constraints) = HaveLength (length value.heading) value.rows
IsLong (view t kind) = Unit {0}
IsLong (log of side last value) = HaveLength (length value.heading) value.rows

abbrev pub AreLong : Entries → Type 0
AreLong entries = AllByRecursion (λ e. IsLong e.1) entries

-- ---- what names mean

-- a name with its heading and its meaning
abbrev Both : Type 0
Both = Name × (Heading × RowsMeant)

abbrev headed : Both → Name × Heading
headed q = (q.0, q.1.0)

abbrev meant : Both → Name × RowsMeant
meant q = (q.0, q.1.1)

abbrev IsLongBoth : Both → Type 0
IsLongBoth q = (rows : List Row) → q.1.1 ≡ Ok rows → HaveLength (length q.1.0) rows

both-push : (qs : List Both) (q : Both) → AllByRecursion IsLongBoth qs → IsLongBoth q → AllByRecursion IsLongBoth (qs ++ q ∷ [])
both-push [] q h one = (one, tt)
both-push (p ∷ qs) q h one = (h.0, both-push qs q h.1 one)

both-found : (qs : List Both) → AllByRecursion IsLongBoth qs → AreKnownLong (map headed qs) (map meant qs)
both-found [] h name g e rows f = absurd (cc)
both-found (q ∷ qs) h name g e rows f = by (bytes_eq q.0 name) (λ e f. both-found qs h.1 name g e rows f) e f
  where
    by : (b : Bool) → (heading_named (map headed qs) name ≡ Some g → found (Ok []) (map meant qs) name ≡ Ok rows → HaveLength (length g) rows)
        → cond b (Some q.1.0) (heading_named (map headed qs) name) ≡ Some g → cond b q.1.1 (found (Ok []) (map meant qs) name) ≡ Ok rows → HaveLength (length g) rows
    by true more e f = let same : q.1.0 ≡ g = cc in subst (λ (k : Heading). HaveLength (length k) rows) same (h.0 rows f)
    by false more e f = more e f

module _ (sizes : List ℕ) where
  one-long : (headings : Headings) (known : Known) → AreKnownLong headings known → (before : Entries) → headings ≡ headings_of before → (own : Name) (r : PlainRelvar) → IsRelvar sizes before own r → IsLong r
      → (rows : List Row) → relvar_meaning known r ≡ Ok rows → HaveLength (length (relvar_heading r)) rows
  one-long headings known knows before same own (base value constraints) is long rows e = let are : value.rows ≡ rows = cc in subst (HaveLength (length value.heading)) are long
  one-long headings known knows before same own (view t kind) is long rows e =
      meaning-long sizes headings known knows plainly t (subst (λ (hs : Headings). IsTypedTree sizes hs t) (sym same) is.0) rows e
  one-long headings known knows before same own (log of side last value) is long rows e = let are : value.rows ≡ rows = cc in subst (HaveLength (length value.heading)) are long

  through : (qs : List Both) (before es : Entries) → AllByRecursion IsLongBoth qs → map headed qs ≡ headings_of before → AreRelvars sizes before es → AreLong es
      → (rs : List Both) × AllByRecursion IsLongBoth rs × (each_after relvar_meaning (map meant qs) es ≡ map meant rs) × (map headed rs ≡ headings_of (before ++ es))
  through qs before [] h same all long = (qs, h, refl, same ∙ ap headings_of (sym (append-nil before)))
  through qs before (e ∷ es) h same all long =
      let q : Both = (e.0, (relvar_heading e.1, relvar_meaning (map meant qs) e.1)) in
      let one : IsLongBoth q = one-long (map headed qs) (map meant qs) (both-found qs h) before same e.0 e.1 all.0 long.0 in
      let heads : map headed (qs ++ q ∷ []) ≡ headings_of (before ++ e ∷ []) =
      map-append headed qs (q ∷ []) ∙ (ap (λ (hs : Headings). hs ++ headed q ∷ []) same ∙ sym (map-append (λ (r : Name × PlainRelvar). (r.0, relvar_heading r.1)) before (e ∷ []))) in
      let next = through (qs ++ q ∷ []) (before ++ e ∷ []) es (both-push qs q h one) heads all.1 long.1 in (
        next.0,
        next.1,
        ap (λ (k : Known). each_after relvar_meaning k es) (sym (map-append meant qs (q ∷ []))) ∙ next.2,
        next.3 ∙ ap headings_of (append_assoc before (e ∷ []) es),
      )

  pub known-long : (es : Entries) → AreRelvars sizes [] es → AreLong es → AreKnownLong (headings_of es) (known_in es)
  known-long es all long =
      let done = through [] [] es tt refl all long in
      subst (λ (k : Known). AreKnownLong (headings_of es) k) (sym done.2) (subst (λ (hs : Headings). AreKnownLong hs (map meant done.0)) done.3 (both-found done.0 done.1))

  pub meant-long : (es : Entries) → AreRelvars sizes [] es → AreLong es → (t : Tree) → IsTypedTree sizes (headings_of es) t → (rows : List Row) → meaning_in es t ≡ Ok rows → HaveLength (length (heading_of t)) rows
  meant-long es all long t typed rows e = meaning-long sizes (headings_of es) (known_in es) (known-long es all long) plainly t typed rows e

-- ---- other entries

pub long-more : (es more : Entries) → AreLong es → AreLong more → AreLong (es ++ more)
long-more [] more h g = g
long-more (e ∷ es) more h g = (h.0, long-more es more h.1 g)

pub long-some : (p : Name × PlainRelvar → Bool) (es : Entries) → AreLong es → AreLong (filter p es)
long-some p [] h = tt
long-some p (e ∷ es) h = by (p e) (long-some p es h.1)
  where
    by : (b : Bool) → AreLong (filter p es) → AreLong (cond b (e ∷ filter p es) (filter p es))
    by true more = (h.0, more)
    by false more = more

long-with : (value : Relation) (r : PlainRelvar) → HaveLength (length value.heading) value.rows → IsLong r → IsLong (with_value value r)
long-with value (base old constraints) long h = long
long-with value (view t kind) long h = tt
long-with value (log of side last old) long h = h

pub long-given : (name : Name) (value : Relation) (es : Entries) → HaveLength (length value.heading) value.rows → AreLong es → AreLong (given (Some name) (Some value) es)
long-given name value [] long h = tt
long-given name value (e ∷ es) long h = (by (bytes_eq e.0 name), long-given name value es long h.1)
  where
    by : (b : Bool) → IsLong (cond b (with_value value e.1) e.1)
    by true = long-with value e.1 long h.0
    by false = h.0

-- what stands for a name
abbrev pub IsLongIf : Option PlainRelvar → Type 0
IsLongIf None = Unit {0}
IsLongIf (Some r) = IsLong r

pub long-named : (es : Entries) (name : Name) → AreLong es → IsLongIf (relvar_named es name)
long-named [] name h = tt
long-named (e ∷ es) name h = by (bytes_eq e.0 name) (long-named es name h.1)
  where
    by : (b : Bool) → IsLongIf (relvar_named es name) → IsLongIf (cond b (Some e.1) (relvar_named es name))
    by true more = h.0
    by false more = more

-- ---- logs that are turned

pub long-base : (o : Option PlainRelvar) → IsLongIf o → HaveLength (length (heading_if o)) (base_rows o)
long-base None h x i = absurd i
long-base (Some (base value constraints)) h x i = h x i
long-base (Some (view t kind)) h x i = absurd i
long-base (Some (log of side last value)) h x i = absurd i

pub long-without : (side : ℕ) (heading : Heading) → side < length heading → length heading ≡ suc (length (without side heading))
long-without side heading l =
    let whole = length-append (take side heading) (drop (suc side) heading) in
    let front = length-take side heading in
    let rest = length-drop (suc side) heading in
    omega (arith, whole, front, rest, l)

long-prolonged : (side : ℕ) (n : ℤ) (now : List Row) (row : Row) → length (prolonged side n now row) ≡ length row
long-prolonged side n now row = by (goes_on side (n -ℤ pos 1) now row)
  where
    by : (b : Bool) → length (cond b (put_span row side ((statements side row).0, n)) row) ≡ length row
    by true = long-put row side ((statements side row).0, n)
    by false = refl

pub long-moved : (size side : ℕ) (n : ℤ) (now rows : List Row) → HaveLength size now → HaveLength (suc size) rows → HaveLength (suc size) (moved side n now rows)
long-moved size side n now rows short long =
    let new : List Row = filter (λ x. not (stood_at side (n -ℤ pos 1) rows x)) now in
    long-set (suc size) (map (prolonged side n now) rows ++ map (stamped side (at_point n)) new) (λ x i.
    elim ((In-append x (map (prolonged side n now) rows) (map (stamped side (at_point n)) new)).0 i) [
      | inl j ↦ (let w = (In-map (prolonged side n now) x rows).0 j in ap length w.2 ∙ (long-prolonged side n now w.0 ∙ long w.0 w.1))
      | inr j ↦ (let w = (In-map (stamped side (at_point n)) x new).0 j in
          ap length w.2 ∙ (length-stamped side (at_point n) w.0 ∙ ap suc (short w.0 ((In-filter (λ x. not (stood_at side (n -ℤ pos 1) rows x)) w.0 now).0 w.1).0)))
    ])
