-- The names of a state that a run leaves can be said again, since they stand in texts.
--     said-sayable      what a text says has such names
--     bytes-are-names      the law
use Rattle.std.proofs.Common.{◌≡◌, ◌⊎◌, Bool, true, false, inl, inr, List, [], ◌∷◌, ◌++◌, refl, sym, ap, ◌∙◌, subst, Ok}
use Rattle.std.specs.Prelude.{not, length, nat_le, ◌&&◌}
use Rattle.std.specs.Str.{bytes_eq}
use Rattle.std.proofs.lemmas.Bool.{not-false, leb-true, true≢false}
use Rattle.base_core.proofs.ListLemmas.{All-In}
use Rattle.base_core.proofs.MemberLemmas.{In-append, In-flat_map}
use Rattle.base_core.proofs.SetLemmas.{In}
use Rattle.relation_core.proofs.ApartLemmas.{from_in_order}
use Rattle.point_core.specs.declared.fault.Code.TheVariants.{E15, E17, E22, E06}
use Rattle.point_core.specs.declared.fault.Place.{Place}
use Rattle.std.specs.BTreeMap.{insert_entry}
use Rattle.std.specs.Ordering.{match_ordering}
use Rattle.std.specs.declared.cmp.Ordering.{Ordering}
use Rattle.std.specs.declared.cmp.Ordering.TheVariants.{Less, Equal, Greater}
use Rattle.base_core.proofs.BoolLemmas.{and_left, and_right}
use Rattle.scalar_typing.specs.Typings.{◌>>=◌}
use Rattle.value_core.specs.Lengths.{IsNameLength, is_utf8}
use Rattle.value_core.specs.Limits.{most_ordinal_values, most_name_bytes, most_attributes}
use Rattle.value_core.specs.declared.kind.Kind.{Kind}
use Rattle.value_core.specs.declared.list.OrdinalNames.{OrdinalNames}
use Rattle.value_core.specs.Values.{Name, Heading, attribute_cmp, name_cmp}
use Rattle.utd_syntax.specs.Plain as syntax
use Rattle.utd_syntax.specs.Plain.{Word, PointP, SomeNamesP, HeadingP, KeyP, ConstraintP, RelP, TestP, VarFormP, StatementP, AttributeP}
use Rattle.utd_ranges.specs.Ranges.{NameIn, SomeNamesIn, HeadingIn, StatementIn, Each, AttributeIn}
use Rattle.place_laws.specs.Held.{unheld}
use Rattle.relation_typing.specs.Attributes.{name_typed, is_name}
use Rattle.relation_typing.specs.Attributes as attributes
use Rattle.relation_typing.specs.Headings.{heading_typed, kind_typed, attributes_typed}
use Rattle.tree_core.specs.Relvars.{State, PlainRelvar, base, view, log}
use Rattle.tree_core.specs.declared.declaration.HistoryData.{HistoryData}
use Rattle.dump_core.specs.Texts.{SourceText}
use Rattle.meaning_core.specs.Logs.{is_log}
use Rattle.meaning_core.specs.Histories.{with_attribute}
use Rattle.node_typing.specs.Lists.{named_in}
use Rattle.node_typing.specs.Positions.{check}
use Rattle.declaration_typing.specs.Constraints.{names_typed}
use Rattle.declaration_typing.specs.Histories.{brace_of, key_names, facts_typed, attributes_named}
use Rattle.declaration_typing.specs.Ordinals.{with_value, values_typed, few_values}
use Rattle.text_laws.specs.Sayable.{is_sayable}
use Rattle.text_laws.proofs.TextLaws.{written-names}
use Rattle.row_typing_laws.proofs.HeadingNames.{name-written, new-name-written}
use Rattle.row_typing_laws.proofs.Parts.{parts-of, check-holds, check-gives}
use Rattle.typing_laws.specs.Saying.{Said, said_ordinal, said_base, said_view, said_stored, said_history, said_rule, Says, IsSaidHistory, entries_said, ordinals_said}
use Rattle.dump_laws.specs.Kept.{IsTextOf, AreTexts, AreTextsFrom, IsListedAs, IsMadeOf}
use Rattle.part_laws.specs.Parts.{emptied}
use Rattle.dump_laws.specs.SayableNames.{IsSayable, AreSayableIn, AreSayableSaid, IsSayableType, IsSayableRelvar, HasSayableNames}
use Rattle.dump_laws.proofs.MadeLaws.{said-of}
use Rattle.dump_laws.proofs.OutcomeLaws.{given-same}

-- ---- names that are typed

-- a name that is typed has the length of one
typed-length : (w : Word) (name : Name) → name_typed w ≡ Ok name → IsNameLength name
typed-length w name typed =
    let is : is_name w.bytes ≡ true = check-holds w.place E06 (is_name w.bytes) w.bytes name typed in
    let lengths = and_right (is_utf8 w.bytes) (nat_le 1 (length w.bytes) && nat_le (length w.bytes) most_name_bytes) is in
    let least = and_left (nat_le 1 (length w.bytes)) (nat_le (length w.bytes) most_name_bytes) lengths in
    let most = and_right (nat_le 1 (length w.bytes)) (nat_le (length w.bytes) most_name_bytes) lengths in
    subst IsNameLength (sym (name-written w name typed)) (leb-true 1 (length w.bytes) least, leb-true (length w.bytes) most_name_bytes most)

word-sayable : (w : Word) (name : Name) → name_typed w ≡ Ok name → NameIn (unheld is_sayable) w → IsSayable name
word-sayable w name typed in' = (ap is_sayable (name-written w name typed) ∙ not-false (is_sayable w.bytes) in', typed-length w name typed)

new-sayable : (g : Heading) (w : Word) (name : Name) → attributes.new_name g w ≡ Ok name → NameIn (unheld is_sayable) w → IsSayable name
new-sayable g w name typed in' =
    let one = parts-of (name_typed w) _ name typed in
    let same : one.0 ≡ name = name-written w one.0 one.1 ∙ sym (new-name-written g w name typed) in
    subst IsSayable same (word-sayable w one.0 one.1 in')

-- one attribute more
put-name : (g : Heading) (name : Name) (kind : Kind) (a : Name × Kind) → In a (attributes.with_attribute g name kind) → (a.0 ≡ name) ⊎ ((b : Name × Kind) × In b g × (a.0 ≡ b.0))
put-name [] name kind a i = elim i [ inl k ↦ inl (ap (λ (b : Name × Kind). b.0) k) | inr k ↦ absurd k ]
put-name (b ∷ g) name kind a i = by (name_cmp name b.0) (put-name g name kind a) i
  where
    by : (o : Ordering) → (In a (attributes.with_attribute g name kind) → (a.0 ≡ name) ⊎ ((c : Name × Kind) × In c g × (a.0 ≡ c.0)))
        → In a (match_ordering o ((name, kind) ∷ b ∷ g) ((b.0, kind) ∷ g) (b ∷ insert_entry name_cmp g name kind))
        → (a.0 ≡ name) ⊎ ((c : Name × Kind) × In c (b ∷ g) × (a.0 ≡ c.0))
    by Less more j = elim j [ inl k ↦ inl (ap (λ (c : Name × Kind). c.0) k) | inr k ↦ inr (a, k, refl) ]
    by Equal more j = elim j [ inl k ↦ inr (b, inl refl, ap (λ (c : Name × Kind). c.0) k) | inr k ↦ inr (a, inr k, refl) ]
    by Greater more j = elim j [
      | inl k ↦ inr (b, inl refl, ap (λ (c : Name × Kind). c.0) k)
      | inr k ↦ elim (more k) [ inl l ↦ inl l | inr l ↦ inr (l.0, inr l.1, l.2) ]
    ]

attributes-sayable : (types : List OrdinalNames) (before : Heading) (list : List AttributeP) (g : Heading) → attributes_typed types before list ≡ Ok g → Each (AttributeIn (unheld is_sayable)) list
    → ((a : Name × Kind) → In a before → IsSayable a.0) → (a : Name × Kind) → In a g → IsSayable a.0
attributes-sayable types before [] g e in' held a i = held a (subst (In a) (sym (given-same before g (Ok before) refl e)) i)
attributes-sayable types before (syntax.Attribute w k ∷ rest) g e in' held a i =
    let kind = parts-of (kind_typed types k) (λ kind. attributes.new_name before w >>= (λ name. attributes_typed types (attributes.with_attribute before name kind) rest)) g e in
    let name = parts-of (attributes.new_name before w) (λ name. attributes_typed types (attributes.with_attribute before name kind.0) rest) g kind.2 in
    attributes-sayable types (attributes.with_attribute before name.0 kind.0) rest g name.2 in'.1 (λ b j. elim (put-name before name.0 kind.0 b j) [
      | inl l ↦ subst IsSayable (sym l) (new-sayable before w name.0 name.1 in'.0.0)
      | inr l ↦ subst IsSayable (sym l.2) (held l.0 l.1)
    ]) a i

heading-sayable : (types : List OrdinalNames) (h : HeadingP) (g : Heading) → heading_typed types h ≡ Ok g → HeadingIn (unheld is_sayable) h → (a : Name × Kind) → In a g → IsSayable a.0
heading-sayable types (syntax.Heading at list) g typed in' =
    let all = parts-of (attributes_typed types [] list) (attributes.few_attributes at) g typed in
    let same : g ≡ all.0 = check-gives at E17 (nat_le (length all.0) most_attributes) all.0 g all.2 in
    subst (λ (l : Heading). (a : Name × Kind) → In a l → IsSayable a.0) (sym same) (attributes-sayable types [] list all.0 all.1 in' (λ a i. absurd i))

-- the names of an ordinal type's values
values-sayable : (before : List Name) (words : List Word) (names : List Name) → values_typed before words ≡ Ok names → Each (NameIn (unheld is_sayable)) words
    → ((n : Name) → In n before → IsSayable n) → (n : Name) → In n names → IsSayable n
values-sayable before [] names e in' held n i = held n (subst (In n) (sym (given-same before names (Ok before) refl e)) i)
values-sayable before (w ∷ words) names e in' held n i =
    let next = parts-of (with_value before w) (λ l. values_typed l words) names e in
    let name = parts-of (name_typed w) _ next.0 next.1 in
    let new = parts-of (check w.place E15 (not (named_in before name.0))) _ next.0 name.2 in
    let same : before ++ name.0 ∷ [] ≡ next.0 = given-same (before ++ name.0 ∷ []) next.0 (Ok (before ++ name.0 ∷ [])) refl new.2 in
    values-sayable next.0 words names next.2 in'.1 (λ m j. elim ((In-append m before (name.0 ∷ [])).0 (subst (In m) (sym same) j)) [
      | inl k ↦ held m k
      | inr k ↦ elim k [ inl l ↦ subst IsSayable (sym l) (word-sayable w name.0 name.1 in'.0) | inr l ↦ absurd l ]
    ]) n i

few-sayable : (values : SomeNamesP) (names : List Name) → few_values values ≡ Ok names → SomeNamesIn (unheld is_sayable) values → (n : Name) → In n names → IsSayable n
few-sayable (syntax.SomeNames at first more) names e in' =
    let all = parts-of (values_typed [] (first ∷ more)) _ names e in
    let few = parts-of (check at E22 (nat_le (length all.0) most_ordinal_values)) _ names all.2 in
    let same : all.0 ≡ names = given-same all.0 names (Ok all.0) refl few.2 in
    subst (λ (l : List Name). (n : Name) → In n l → IsSayable n) same
    (values-sayable [] (first ∷ more) all.0 all.1 (in'.0, in'.1) (λ n i. absurd i))

-- ---- histories

facts-heading : (types : List OrdinalNames) (h : HeadingP) (key : KeyP) (heading : Heading) (positions : List _) → facts_typed types h key ≡ Ok (heading, positions)
    → heading_typed types h ≡ Ok heading
facts-heading types h key heading positions e =
    let one = parts-of (heading_typed types h) _ (heading, positions) e in
    let two = parts-of (check (brace_of h) E17 (nat_le (length one.0) _)) _ (heading, positions) one.2 in
    let three = parts-of (names_typed one.0 (key_names key)) _ (heading, positions) two.2 in
    let same : (one.0, three.0) ≡ (heading, positions) = given-same (one.0, three.0) (heading, positions) (Ok (one.0, three.0)) refl three.2 in
    one.1 ∙ ap (λ (g : Heading × List _). Ok g.0) same

ends-sayable : (heading : Heading) (p i : Word) (ends : Name × Name) → attributes_named heading p i ≡ Ok ends → NameIn (unheld is_sayable) p → NameIn (unheld is_sayable) i
    → IsSayable ends.0 × IsSayable ends.1
ends-sayable heading p i ends e first second =
    let one = parts-of (attributes.new_name heading p) _ ends e in
    let two = parts-of (attributes.new_name heading i) _ ends one.2 in
    let three = parts-of (check i.place E15 (not (bytes_eq one.0 two.0))) _ ends two.2 in
    let same : (one.0, two.0) ≡ ends = given-same (one.0, two.0) ends (Ok (one.0, two.0)) refl three.2 in
    subst (λ (n : Name × Name). IsSayable n.0 × IsSayable n.1) same (
      new-sayable heading p one.0 one.1 first,
      new-sayable heading i two.0 two.1 second,
    )

with-sayable : (heading : Heading) (name : Name) (kind : Kind) → ((a : Name × Kind) → In a heading → IsSayable a.0) → IsSayable name → AreSayableIn (with_attribute heading name kind)
with-sayable heading name kind held one =
    All-In (λ (a : Name × Kind). IsSayable a.0) (with_attribute heading name kind) (λ a i. elim (from_in_order attribute_cmp a ((name, kind) ∷ heading) i) [
      | inl k ↦ subst (λ (b : Name × Kind). IsSayable b.0) (sym k) one
      | inr j ↦ held a j
    ])

history-sayable : (s : State) (at : Place) (v : Word) (h : HeadingP) (key : KeyP) (b p d i : Word) (t : PointP) (made : HistoryData) → IsSaidHistory s at v h key b p d i t made
    → StatementIn (unheld is_sayable) (syntax.DeclareHistory at v h key b p d i t) → AreSayableSaid (said_history made)
history-sayable s at v h key b p d i t made is (view_in, heading_in, key_in, since_in, point_in, during_in, span_in, over_in) =
    let held = heading-sayable s.ordinals h made.heading (facts-heading s.ordinals h key made.heading made.key is.facts) heading_in in
    let ends = ends-sayable made.heading p i (made.point, made.span) is.ends point_in span_in in (
      word-sayable b made.since is.since since_in,
      word-sayable d made.during is.during during_in,
      word-sayable v made.view is.view view_in,
      with-sayable made.heading made.point _ held ends.0,
      with-sayable made.heading made.span _ held ends.1,
    )

-- ---- what is said

pub says-sayable : (s : State) (tree : StatementP) (d : Said) → Says s tree d → StatementIn (unheld is_sayable) tree → AreSayableSaid d
says-sayable s (syntax.DeclareOrdinal at w values) (said_ordinal name names) says in' =
    (word-sayable w name says.0 in'.0, All-In IsSayable names (few-sayable values names says.1 in'.1))
says-sayable s (syntax.DeclareRelvar at w (syntax.BaseRelvar there h cs)) (said_base name heading typed) says in' =
    (word-sayable w name says.0 in'.0, All-In (λ (a : Name × Kind). IsSayable a.0) heading (heading-sayable s.ordinals h heading says.1 in'.1.0))
says-sayable s (syntax.DeclareRelvar at w (syntax.View there rel)) (said_view name t) says in' = word-sayable w name says.0 in'.0
says-sayable s (syntax.DeclareRelvar at w (syntax.Kept there kept)) (said_stored name t) says in' = word-sayable w name says.view in'.0
says-sayable s (syntax.DeclareHistory at v h key b p d i t) (said_history made) says in' = history-sayable s at v h key b p d i t made says in'
says-sayable s (syntax.DeclareRule at w test) (said_rule name t) says in' = word-sayable w name says.0 in'.0
says-sayable s _ _ says in' = absurd says

pub said-sayable : (w : State) (t : SourceText) (d : Said) → IsTextOf w t d → AreSayableSaid d
said-sayable w t d is = says-sayable w is.tree d is.says (written-names is.place is.bytes is.tree is.text)

pub all-sayable : (w : State) (types : List OrdinalNames) (texts : List SourceText) (ds : List Said) → AreTextsFrom w types texts ds → (d : Said) → In d ds → AreSayableSaid d
all-sayable w types [] [] are d i = absurd i
all-sayable w types [] (z ∷ ds) are d i = absurd are
all-sayable w types (t ∷ texts) [] are d i = absurd i
all-sayable w types (t ∷ texts) (z ∷ ds) are d i = elim i [
  | inl k ↦ subst AreSayableSaid (sym k) (said-sayable (record w { ordinals = types }) t z are.0)
  | inr j ↦ all-sayable w (types ++ ordinals_said z) texts ds are.1 d j
]

-- ---- the state

ordinal-sayable : (o : OrdinalNames) (d : Said) → AreSayableSaid d → In o (ordinals_said d) → IsSayableType o
ordinal-sayable o (said_ordinal name names) held i = elim i [ inl k ↦ subst IsSayableType (sym k) held | inr k ↦ absurd k ]
ordinal-sayable o (said_base name heading typed) held i = absurd i
ordinal-sayable o (said_view name t) held i = absurd i
ordinal-sayable o (said_stored name t) held i = absurd i
ordinal-sayable o (said_history made) held i = absurd i
ordinal-sayable o (said_rule name t) held i = absurd i

abbrev Sayable : Name × PlainRelvar → Type 0
Sayable e = IsSayableRelvar e.0 e.1

entry-sayable : (e : Name × PlainRelvar) (d : Said) → AreSayableSaid d → In e (entries_said d) → Sayable e
entry-sayable e (said_ordinal name names) held i = absurd i
entry-sayable e (said_base name heading typed) held i = elim i [ inl k ↦ subst Sayable (sym k) held | inr k ↦ absurd k ]
entry-sayable e (said_view name t) held i = elim i [ inl k ↦ subst Sayable (sym k) held | inr k ↦ absurd k ]
entry-sayable e (said_stored name t) held i = elim i [ inl k ↦ subst Sayable (sym k) held | inr k ↦ absurd k ]
entry-sayable e (said_history made) held i = elim i [
  | inl k ↦ subst Sayable (sym k) (held.0, held.3)
  | inr j ↦ elim j [
    | inl k ↦ subst Sayable (sym k) (held.1, held.4)
    | inr l ↦ elim l [ inl k ↦ subst Sayable (sym k) held.2 | inr k ↦ absurd k ]
  ]
]
entry-sayable e (said_rule name t) held i = absurd i

-- rows do not count
with-rows : (e : Name × PlainRelvar) → Sayable (emptied e) → Sayable e
with-rows (name, base value constraints) held = held
with-rows (name, view t kind) held = held
with-rows (name, log o k last w) held = tt

log-sayable : (e : Name × PlainRelvar) → is_log e.1 ≡ true → Sayable e
log-sayable (name, base value constraints) is = absurd (true≢false (sym is))
log-sayable (name, view t kind) is = absurd (true≢false (sym is))
log-sayable (name, log o k last w) is = tt

-- what a state is made of, its limits aside
pub listed-of : (w : State) (ds : List Said) → IsMadeOf w ds → IsListedAs w ds
listed-of w ds made = record { ordinals = made.ordinals; early = made.early; views = made.views; rules = made.rules; different = made.different }

-- every name of the state is one that can be said again
pub bytes-are-names : (w : State) (texts : List SourceText) (ds : List Said) → AreTexts w texts ds → IsMadeOf w ds → HasSayableNames w
bytes-are-names w texts ds are made = record {
  ordinals =
      All-In IsSayableType w.ordinals (λ o i.
      let of = (In-flat_map ordinals_said o ds).0 (subst (In o) made.ordinals i) in
      ordinal-sayable o of.0 (all-sayable w [] texts ds are of.0 of.1) of.2);
  relvars = All-In Sayable w.relvars (λ e i. by e i (is_log e.1) refl);
}
  where
    by : (e : Name × PlainRelvar) → In e w.relvars → (b : Bool) → is_log e.1 ≡ b → Sayable e
    by e i true q = log-sayable e q
    by e i false q =
        let of = said-of w ds (listed-of w ds made) e i q in
        with-rows e (entry-sayable (emptied e) of.0 (all-sayable w [] texts ds are of.0 of.1) of.2)
