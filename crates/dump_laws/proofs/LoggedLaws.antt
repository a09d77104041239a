-- Logs in a state that a run leaves: no text says them.
--     said-logless      what is said is no log
--     log-emptied      without rows, an entry is a log as before
--     logged-apart, log-alone      no name that is said is a log's, and a log goes alone
--     listed-without-log, listed-with-log      without a log, and with one more, the same is said of the state
use Rattle.std.proofs.Common.{◌≡◌, inl, inr, Bool, true, false, not, List, [], ◌∷◌, ◌++◌, map, refl, sym, ap, ◌∙◌, subst, append-nil, Option, Some, None}
use Rattle.std.specs.List.{filter, flat_map}
use Rattle.std.specs.Str.{bytes_eq}
use Rattle.std.proofs.lemmas.Bool.{true≢false, or_from}
use Rattle.std.proofs.lemmas.List.Elements.{filter-append}
use Rattle.std.proofs.lemmas.List.Folds.{list_any-append}
use Rattle.base_core.proofs.MemberLemmas.{In-append, In-filter, In-map}
use Rattle.base_core.proofs.SetLemmas.{In}
use Rattle.relation_core.proofs.FilterLemmas.{filter_all}
use Rattle.value_core.specs.declared.list.OrdinalNames.{OrdinalNames}
use Rattle.value_core.specs.Values.{Name}
use Rattle.tree_core.specs.Relvars.{State, PlainRelvar, base, view, log, relvar_named, history_if}
use Rattle.tree_core.specs.Trees.{Test}
use Rattle.tree_core.specs.Uses.{is_one_of}
use Rattle.tree_core.specs.declared.declaration.LogData.{LogData}
use Rattle.meaning_core.specs.Declarations.{with_history, group, without_group, with_log}
use Rattle.meaning_core.specs.Logs.{is_log, has_log}
use Rattle.meaning_core.specs.WellMade.{IsWellMade}
use Rattle.meaning_core.proofs.MadeLemmas.{same_name}
use Rattle.assign_core.specs.Parts.{names_in}
use Rattle.assign_core.proofs.NameLemmas.{relvars_differ}
use Rattle.typing_laws.specs.Saying.{Said, said_ordinal, said_base, said_view, said_stored, said_history, said_rule, names_said, entries_said}
use Rattle.part_laws.specs.Parts.{emptied, without_rows}
use Rattle.dump_laws.specs.Kept.{is_early, is_late, IsListedAs}
use Rattle.dump_laws.proofs.ListLaws.{filter-swap, distinct-apart}
use Rattle.dump_laws.proofs.MadeLaws.{named-in, entry-in, ordinal-in, rule-in}
use Rattle.dump_laws.proofs.PlaceLemmas.{named-once}

-- ---- what is no log

pub log-emptied : (r : PlainRelvar) → is_log (without_rows r) ≡ is_log r
log-emptied (base value constraints) = refl
log-emptied (view t kind) = refl
log-emptied (log of side last value) = refl

entry-no-log : (e : Name × PlainRelvar) (d : Said) → In e (entries_said d) → is_log e.1 ≡ false
entry-no-log e (said_ordinal name names) i = absurd i
entry-no-log e (said_base name heading typed) i = elim i [ inl k ↦ ap (λ (x : Name × PlainRelvar). is_log x.1) k | inr k ↦ absurd k ]
entry-no-log e (said_view name t) i = elim i [ inl k ↦ ap (λ (x : Name × PlainRelvar). is_log x.1) k | inr k ↦ absurd k ]
entry-no-log e (said_stored name t) i = elim i [ inl k ↦ ap (λ (x : Name × PlainRelvar). is_log x.1) k | inr k ↦ absurd k ]
entry-no-log e (said_history made) i = elim i [
  | inl k ↦ ap (λ (x : Name × PlainRelvar). is_log x.1) k
  | inr j ↦ elim j [
    | inl k ↦ ap (λ (x : Name × PlainRelvar). is_log x.1) k
    | inr l ↦ elim l [ inl k ↦ ap (λ (x : Name × PlainRelvar). is_log x.1) k | inr k ↦ absurd k ]
  ]
]
entry-no-log e (said_rule name t) i = absurd i

said-one-logless : (d : Said) → has_log (entries_said d) ≡ false
said-one-logless (said_ordinal name names) = refl
said-one-logless (said_base name heading typed) = refl
said-one-logless (said_view name t) = refl
said-one-logless (said_stored name t) = refl
said-one-logless (said_history made) = refl
said-one-logless (said_rule name t) = refl

pub said-logless : (ds : List Said) → has_log (flat_map entries_said ds) ≡ false
said-logless [] = refl
said-logless (d ∷ ds) =
    list_any-append (λ (r : Name × PlainRelvar). is_log r.1) (entries_said d) (flat_map entries_said ds)
    ∙ or_from (has_log (entries_said d)) (has_log (flat_map entries_said ds)) (said-one-logless d) (said-logless ds)

-- what stands before all rows is no log, and no view is
early-no-log : (x : Name × PlainRelvar) → is_early x ≡ true → is_log x.1 ≡ false
early-no-log (name, base value constraints) e = refl
early-no-log (name, view t kind) e = refl
early-no-log (name, log of side last value) e = absurd (true≢false (sym e))

late-no-log : (x : Name × PlainRelvar) → is_late x ≡ true → is_log x.1 ≡ false
late-no-log (name, base value constraints) e = refl
late-no-log (name, view t kind) e = refl
late-no-log (name, log of side last value) e = absurd (true≢false (sym e))

-- ---- a log's name

no-history : (r : PlainRelvar) → is_log r ≡ true → history_if (Some r) ≡ None
no-history (base value constraints) is = absurd (true≢false (sym is))
no-history (view t kind) is = absurd (true≢false (sym is))
no-history (log of side last value) is = refl

module _ (w : State) (ds : List Said) (listed : IsListedAs w ds) (well : IsWellMade w) (name : Name) (r : PlainRelvar) (found : relvar_named w.relvars name ≡ Some r) (is : is_log r ≡ true) where
  -- what is no log has another name
  other-name : (x : Name × PlainRelvar) → In x w.relvars → is_log x.1 ≡ false → bytes_eq x.0 name ≡ false
  other-name x i none = by (bytes_eq x.0 name) refl
    where
      by : (b : Bool) → bytes_eq x.0 name ≡ b → bytes_eq x.0 name ≡ false
      by false q = q
      by true q =
          let there : Some x.1 ≡ Some r = sym (named-once w.relvars x i (relvars_differ w well)) ∙ (ap (relvar_named w.relvars) (same_name x.0 name q) ∙ found) in
          let same : x.1 ≡ r = cc in
          absurd (true≢false (sym is ∙ (sym (ap is_log same) ∙ none)))

  entry-apart : (e : Name × PlainRelvar) (z : Said) → In z ds → In e (entries_said z) → bytes_eq e.0 name ≡ false
  entry-apart e z i j =
      let here = entry-in w ds listed e z i j in
      let none : is_log here.0.1 ≡ false = sym (log-emptied here.0.1) ∙ (ap (λ (x : Name × PlainRelvar). is_log x.1) (sym here.2) ∙ entry-no-log e z j) in
      ap (λ (x : Name × PlainRelvar). bytes_eq x.0 name) here.2 ∙ other-name here.0 here.1 none

  -- ordinal types and database constraints have other names too
  before-apart : (n : Name) → In n (map (λ (k : Name × Test). k.0) w.rules ++ map (λ (o : OrdinalNames). o.name) w.ordinals) → bytes_eq n name ≡ false
  before-apart n i =
      distinct-apart bytes_eq (map (λ (k : Name × Test). k.0) w.rules ++ map (λ (o : OrdinalNames). o.name) w.ordinals) (names_in w.relvars) well.different n name i
      ((In-map (λ (e : Name × PlainRelvar). e.0) name w.relvars).1 ((name, r), named-in w.relvars name r found, refl))

  pub logged-apart : (z : Said) → In z ds → (n : Name) → In n (names_said z) → bytes_eq n name ≡ false
  logged-apart (said_ordinal own names) i n j = elim j [
    | inl k ↦ subst (λ (m : Name). bytes_eq m name ≡ false) (sym k)
        (before-apart own ((In-append own (map (λ (x : Name × Test). x.0) w.rules) (map (λ (o : OrdinalNames). o.name) w.ordinals)).1
        (inr ((In-map (λ (o : OrdinalNames). o.name) own w.ordinals).1 (record { name = own; values = names }, ordinal-in w ds listed _ (said_ordinal own names) i (inl refl), refl)))))
    | inr k ↦ absurd k
  ]
  logged-apart (said_base own heading typed) i n j = elim j [
    | inl k ↦ subst (λ (m : Name). bytes_eq m name ≡ false) (sym k) (entry-apart _ (said_base own heading typed) i (inl refl))
    | inr k ↦ absurd k
  ]
  logged-apart (said_view own t) i n j = elim j [
    | inl k ↦ subst (λ (m : Name). bytes_eq m name ≡ false) (sym k) (entry-apart _ (said_view own t) i (inl refl))
    | inr k ↦ absurd k
  ]
  logged-apart (said_stored own t) i n j = elim j [
    | inl k ↦ subst (λ (m : Name). bytes_eq m name ≡ false) (sym k) (entry-apart _ (said_stored own t) i (inl refl))
    | inr k ↦ absurd k
  ]
  logged-apart (said_history h) i n j = elim j [
    | inl k ↦ subst (λ (m : Name). bytes_eq m name ≡ false) (sym k) (entry-apart _ (said_history h) i (inl refl))
    | inr l ↦ elim l [
      | inl k ↦ subst (λ (m : Name). bytes_eq m name ≡ false) (sym k) (entry-apart _ (said_history h) i (inr (inl refl)))
      | inr m ↦ elim m [
        | inl k ↦ subst (λ (m : Name). bytes_eq m name ≡ false) (sym k) (entry-apart _ (said_history h) i (inr (inr (inl refl))))
        | inr k ↦ absurd k
      ]
    ]
  ]
  logged-apart (said_rule own t) i n j = elim j [
    | inl k ↦ subst (λ (m : Name). bytes_eq m name ≡ false) (sym k)
        (before-apart own ((In-append own (map (λ (x : Name × Test). x.0) w.rules) (map (λ (o : OrdinalNames). o.name) w.ordinals)).1
        (inl ((In-map (λ (x : Name × Test). x.0) own w.rules).1 ((own, t), rule-in w ds listed (own, t) (said_rule own t) i (inl refl), refl)))))
    | inr k ↦ absurd k
  ]

  -- ---- without a log

  -- only its own name goes with it
  pub log-alone : (n : Name) → bytes_eq n name ≡ false → is_one_of (group w.relvars name) n ≡ false
  log-alone n other =
      ap (λ (o : Option PlainRelvar). is_one_of (with_history name (history_if o)) n) found
      ∙ (ap (λ (o : Option (Name × Name)). is_one_of (with_history name o) n) (no-history r is) ∙ or_from (bytes_eq n name) false other refl)

  abbrev passes : Name × PlainRelvar → Bool
  passes e = not (is_one_of (group w.relvars name) e.0)

  -- what is no log stays, whatever is asked
  stays-so : (p : Name × PlainRelvar → Bool) → ((x : Name × PlainRelvar) → p x ≡ true → is_log x.1 ≡ false) → filter p (filter passes w.relvars) ≡ filter p w.relvars
  stays-so p none =
      filter-swap p passes w.relvars
      ∙ filter_all passes (filter p w.relvars) (λ x i.
      let here = (In-filter p x w.relvars).0 i in
      ap not (log-alone x.0 (other-name x here.0 (none x here.1))))

  pub listed-without-log : IsListedAs (without_group name w) ds
  listed-without-log = record {
    ordinals = listed.ordinals;
    early = ap (map emptied) (stays-so is_early early-no-log) ∙ listed.early;
    views = stays-so is_late late-no-log ∙ listed.views;
    rules = listed.rules;
    different = listed.different;
  }

-- ---- one log more

pub listed-with-log : (w : State) (ds : List Said) (d : LogData) → IsListedAs w ds → IsListedAs (with_log w d) ds
listed-with-log w ds d listed = record {
  ordinals = listed.ordinals;
  early = ap (map emptied) (filter-append is_early w.relvars _ ∙ append-nil (filter is_early w.relvars)) ∙ listed.early;
  views = (filter-append is_late w.relvars _ ∙ append-nil (filter is_late w.relvars)) ∙ listed.views;
  rules = listed.rules;
  different = listed.different;
}
