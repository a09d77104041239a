-- The state without what goes is made of the others.
--     stays, goes-along      a name of the others stays, and one of what goes does not
--     made-without-group      without a relvar, a view or a history
--     made-without-rule      without a database constraint
use Rattle.std.proofs.Common.{◌≡◌, inl, inr, Bool, true, false, not, cond, List, [], ◌∷◌, ◌++◌, map, refl, sym, ap, ◌∙◌, subst}
use Rattle.std.specs.List.{filter, flat_map, IsDistinct}
use Rattle.std.specs.Str.{bytes_eq}
use Rattle.base_core.proofs.SetLemmas.{In}
use Rattle.value_core.specs.Values.{Name}
use Rattle.tree_core.specs.Relvars.{State, PlainRelvar, Entries}
use Rattle.tree_core.specs.Trees.{Test}
use Rattle.tree_core.specs.Uses.{is_one_of}
use Rattle.meaning_core.specs.Declarations.{group, without_group, without_rule}
use Rattle.typing_laws.specs.Saying.{Said, said_ordinal, said_base, said_view, said_stored, said_history, said_rule, names_said, entries_said, ordinals_said, rules_said}
use Rattle.dump_laws.specs.Kept.{is_early, is_late, is_early_said, is_view_said, IsListedAs}
use Rattle.part_laws.specs.Parts.{emptied}
use Rattle.dump_laws.proofs.ListLaws.{filter-map, filter-swap, gathered, cut-from, none-given}
use Rattle.dump_laws.proofs.MadeLaws.{early_of, views_of, in-early, in-views, entry-name}
use Rattle.dump_laws.proofs.GoneLaws.{IsGone, any-own, others-apart, others-differ}

-- the name of a database constraint is said
pub rule-name : (r : Name × Test) (d : Said) → In r (rules_said d) → In r.0 (names_said d)
rule-name r (said_ordinal name names) i = absurd i
rule-name r (said_base name heading typed) i = absurd i
rule-name r (said_view name t) i = absurd i
rule-name r (said_stored name t) i = absurd i
rule-name r (said_history h) i = absurd i
rule-name r (said_rule name t) i = elim i [ inl k ↦ inl (ap (λ (x : Name × Test). x.0) k) | inr k ↦ absurd k ]

cond-none : {X : Type 0} (b : Bool) (xs : List X) → xs ≡ [] → cond b xs [] ≡ []
cond-none true xs e = e
cond-none false xs e = refl

module _ (w : State) (ds : List Said) (made : IsListedAs w ds) (name : Name) (gone : Name → Bool) (goes : IsGone ds name gone) where
  abbrev pub others : List Said
  others = goes.front ++ goes.back

  pub all-differ : IsDistinct bytes_eq (flat_map names_said (goes.front ++ goes.d ∷ goes.back))
  all-differ = subst (λ (l : List Said). IsDistinct bytes_eq (flat_map names_said l)) goes.parts made.different

  -- a name of the others stays
  pub stays : (z : Said) (n : Name) → In z others → In n (names_said z) → gone n ≡ false
  stays z n i j = goes.names n ∙ others-apart goes.front goes.back goes.d all-differ z i n j

  pub goes-along : (n : Name) → In n (names_said goes.d) → gone n ≡ true
  goes-along n i = goes.names n ∙ any-own n (names_said goes.d) i

  -- ---- entries and database constraints that are left

  abbrev passes : Name × PlainRelvar → Bool
  passes e = not (gone e.0)

  abbrev rule_passes : Name × Test → Bool
  rule_passes r = not (gone r.0)

  cut-entries : (F : Said → Entries) → ((e : Name × PlainRelvar) (d : Said) → In e (F d) → In e (entries_said d)) → filter passes (flat_map F ds) ≡ flat_map F others
  cut-entries F within =
      ap (λ (l : List Said). filter passes (flat_map F l)) goes.parts
      ∙ cut-from F passes goes.front goes.back goes.d
      (λ z y i j. ap not (stays z y.0 i (entry-name y z (within y z j)))) (λ y j. ap not (goes-along y.0 (entry-name y goes.d (within y goes.d j))))

  left-early : map emptied (filter is_early (filter passes w.relvars)) ≡ flat_map entries_said (filter is_early_said others)
  left-early =
      ap (map emptied) (filter-swap is_early passes w.relvars)
      ∙ (sym (filter-map passes passes emptied (filter is_early w.relvars) (λ x. refl))
      ∙ (ap (filter passes) (made.early ∙ gathered entries_said is_early_said ds)
      ∙ (cut-entries early_of in-early ∙ sym (gathered entries_said is_early_said others))))

  left-views : filter is_late (filter passes w.relvars) ≡ flat_map entries_said (filter is_view_said others)
  left-views =
      filter-swap is_late passes w.relvars
      ∙ (ap (filter passes) (made.views ∙ gathered entries_said is_view_said ds)
      ∙ (cut-entries views_of in-views ∙ sym (gathered entries_said is_view_said others)))

  left-rules : filter rule_passes w.rules ≡ flat_map rules_said others
  left-rules =
      ap (filter rule_passes) made.rules
      ∙ (ap (λ (l : List Said). filter rule_passes (flat_map rules_said l)) goes.parts
      ∙ cut-from rules_said rule_passes goes.front goes.back goes.d
      (λ z y i j. ap not (stays z y.0 i (rule-name y z j))) (λ y j. ap not (goes-along y.0 (rule-name y goes.d j))))

  -- ---- what gives nothing may go

  same-given : {Y : Type 0} (F : Said → List Y) → F goes.d ≡ [] → flat_map F ds ≡ flat_map F others
  same-given F none = ap (flat_map F) goes.parts ∙ none-given F goes.front goes.back goes.d none

  same-some : (q : Said → Bool) → entries_said goes.d ≡ [] → flat_map entries_said (filter q ds) ≡ flat_map entries_said (filter q others)
  same-some q none =
      gathered entries_said q ds
      ∙ (same-given (λ d. cond (q d) (entries_said d) []) (cond-none (q goes.d) (entries_said goes.d) none) ∙ sym (gathered entries_said q others))

  pub made-left : rules_said goes.d ≡ [] → IsListedAs (record w { relvars = filter passes w.relvars }) others
  made-left none = record {
    ordinals = made.ordinals ∙ same-given ordinals_said goes.stays;
    early = left-early;
    views = left-views;
    rules = made.rules ∙ same-given rules_said none;
    different = others-differ goes.front goes.back goes.d all-differ;
  }

  pub made-left-rules : entries_said goes.d ≡ [] → IsListedAs (record w { rules = filter rule_passes w.rules }) others
  made-left-rules none = record {
    ordinals = made.ordinals ∙ same-given ordinals_said goes.stays;
    early = made.early ∙ same-some is_early_said none;
    views = made.views ∙ same-some is_view_said none;
    rules = left-rules;
    different = others-differ goes.front goes.back goes.d all-differ;
  }

pub made-without-group : (w : State) (ds : List Said) (name : Name) (goes : IsGone ds name (is_one_of (group w.relvars name))) → IsListedAs w ds → rules_said goes.d ≡ []
    → IsListedAs (without_group name w) (goes.front ++ goes.back)
made-without-group w ds name goes made none = made-left w ds made name (is_one_of (group w.relvars name)) goes none

pub made-without-rule : (w : State) (ds : List Said) (name : Name) (goes : IsGone ds name (λ k. bytes_eq k name)) → IsListedAs w ds → entries_said goes.d ≡ []
    → IsListedAs (without_rule name w) (goes.front ++ goes.back)
made-without-rule w ds name goes made none = made-left-rules w ds made name (λ k. bytes_eq k name) goes none
