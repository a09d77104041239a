-- What stands after a run of statements, and after a declaration, DROP VAR, DROP CONSTRAINT and an assignment.
--     IsStanding      the texts say what they say in the state, which is made of that and well made
--     run-more      with what a declaration says
--     run-with-log      with a log
--     run-without-group, run-without-rule, run-with-rows      without a relvar, view or log, without a database constraint, and with other rows
--     run-counted      with one accepted statement more
use Rattle.std.proofs.Common.{◌≡◌, inl, inr, ℕ, ◌<◌, ◌≤◌, Bool, true, false, not, List, [], ◌∷◌, ◌++◌, length, arith, refl, sym, ap, ◌∙◌, subst, append_assoc, append-nil, length-append}
use Rattle.std.proofs.Common.{Option, Some, None}
use Rattle.std.specs.Prelude.{◌||◌, is_some}
use Rattle.std.specs.List.{list_any}
use Rattle.std.specs.Str.{bytes_eq}
use Rattle.std.proofs.lemmas.Bool.{or_parts, true≢false}
use Rattle.std.proofs.lemmas.List.{length-map}
use Rattle.base_core.proofs.MemberLemmas.{In-append, list_any-In}
use Rattle.base_core.proofs.SetLemmas.{In}
use Rattle.relation_core.proofs.FilterLemmas.{length-filter_at_most}
use Rattle.value_core.specs.declared.list.OrdinalNames.{OrdinalNames}
use Rattle.value_core.specs.Limits.{most_relvars}
use Rattle.value_core.specs.Values.{Name}
use Rattle.tree_core.specs.declared.declaration.LogData.{LogData}
use Rattle.tree_core.specs.Relvars.{State, PlainKind, PlainRelvar, base, view, Entries, relvar_named, heading_if, derived, stored}
use Rattle.tree_core.specs.Trees.{Tree, Test}
use Rattle.tree_core.specs.Uses.{is_one_of}
use Rattle.dump_core.specs.Texts.{SourceText, forgotten}
use Rattle.meaning_core.specs.Declarations.{counted, group, without_group, without_rule, with_log}
use Rattle.meaning_core.specs.Logs.{is_log, new_log, turned_logs}
use Rattle.meaning_core.specs.Typing.{IsTypedTree, IsTypedTest}
use Rattle.meaning_core.specs.WellMade.{sizes_of, headings_of, AreRelvars, IsWellMade, IsTypedFor}
use Rattle.meaning_core.proofs.AcceptedLemmas.{bare-turned, made-turned}
use Rattle.meaning_core.proofs.MadeLemmas.{same_name}
use Rattle.meaning_core.proofs.RowlessLemmas.{bare_all, bare_entry}
use Rattle.declaration_typing.specs.Drops.{relvars_use, rules_use, is_used, is_of_history}
use Rattle.declaration_typing.specs.Names.{is_rule, is_taken}
use Rattle.typing_laws.specs.Saying.{Said, said_ordinal, said_base, said_view, said_stored, said_history, said_rule, names_said, entries_said, said_names_any, IsFree, HasRoom, with_said}
use Rattle.dump_laws.specs.Kept.{key_said, IsTextOf, AreTexts, IsSmall, IsListedAs}
use Rattle.dump_laws.proofs.FollowingLaws.{IsFollowed, IsTypedSaid, said-typed, said-stays, small-stays, follows-new, follows-left, follows-rows, none_of_them, none-new}
use Rattle.dump_laws.proofs.GoneLaws.{IsGone, any-own, relvar-gone, rule-gone}
use Rattle.dump_laws.proofs.LeftLaws.{stays, goes-along, made-without-group, made-without-rule}
use Rattle.dump_laws.proofs.ListLaws.{each-in, in-both}
use Rattle.dump_laws.proofs.MadeLaws.{entry-name, made-more}
use Rattle.dump_laws.proofs.NamingLaws.{AreNew, all-member, constraints-new, unnamed-new, unnamed-left}
use Rattle.dump_laws.proofs.EmptiedLaws.{listed-with}
use Rattle.dump_laws.proofs.LoggedLaws.{logged-apart, log-alone, listed-without-log, listed-with-log}
use Rattle.dump_laws.proofs.TextLaws.{StaysSaid, key-name, text-stays, texts-stay, texts-more, texts-left, all-left}
use Rattle.meaning_core.proofs.ElsewhereLemmas.{typed-names, typed-test-names}
use Rattle.dump_laws.proofs.NamingLaws.{new-clear}

pub record IsStanding (w : State) (list : List SourceText) (ds : List Said) : Type 0 where
  pub texts : AreTexts w list ds
  pub listed : IsListedAs w ds
  pub made : IsWellMade w
  pub few : length w.relvars ≤ most_relvars
  pub small : (d : Said) → In d ds → IsSmall w d

-- ---- a declaration

-- a name that is not taken stands for no relvar and no view
free-relvar : (w : State) (name : Name) → is_taken w name ≡ false → relvar_named w.relvars name ≡ None
free-relvar w name e =
    let most = or_parts (list_any (λ (o : OrdinalNames). bytes_eq name o.name) w.ordinals || is_some (relvar_named w.relvars name)) (is_rule w name) e in
    none (relvar_named w.relvars name) (or_parts (list_any (λ (o : OrdinalNames). bytes_eq name o.name) w.ordinals) (is_some (relvar_named w.relvars name)) most.0).1
  where
    none : (o : Option PlainRelvar) → is_some o ≡ false → o ≡ None
    none None q = refl
    none (Some r) q = absurd (true≢false q)

free-names : (w : State) (names : List Name) → ((n : Name) → In n names → is_taken w n ≡ false) → AreNew (is_one_of names) w.relvars
free-names w names free name one =
    let m = (list_any-In (bytes_eq name) names).0 one in
    free-relvar w name (ap (is_taken w) (same_name name m.0 m.2) ∙ free m.0 m.1)

-- the entries behind others
behind : (sizes : List ℕ) (before es more : Entries) → AreRelvars sizes before (es ++ more) → AreRelvars sizes (before ++ es) more
behind sizes before [] more h = subst (λ (l : Entries). AreRelvars sizes l more) (sym (append-nil before)) h
behind sizes before (e ∷ es) more h = subst (λ (l : Entries). AreRelvars sizes l more) (append_assoc before (e ∷ []) es) (behind sizes (before ++ e ∷ []) es more h.1)

-- the expression of a view behind the others is typed
view-own : (w : State) (name : Name) (t : Tree) (kind : PlainKind) → AreRelvars (sizes_of (w.ordinals ++ [])) [] (w.relvars ++ (name, view t kind) ∷ []) → IsTypedFor w t
view-own w name t kind are =
    subst (λ (l : List OrdinalNames). IsTypedTree (sizes_of l) (headings_of w.relvars) t) (append-nil w.ordinals)
    (behind (sizes_of (w.ordinals ++ [])) [] w.relvars ((name, view t kind) ∷ []) are).0.0

-- and that of what is newly said
typed-own : (w : State) (d : Said) → IsWellMade (with_said w d) → IsTypedSaid w d
typed-own w (said_ordinal name names) then = tt
typed-own w (said_base name heading typed) then = tt
typed-own w (said_view name t) then = view-own w name t derived then.relvars
typed-own w (said_stored name t) then = view-own w name t stored then.relvars
typed-own w (said_history h) then = tt
typed-own w (said_rule name t) then =
    let sizes : List ℕ = sizes_of (w.ordinals ++ []) in
    let typed : IsTypedTest sizes (headings_of (w.relvars ++ [])) t =
    all-member (λ (k : Name × Test). IsTypedTest sizes (headings_of (w.relvars ++ [])) k.1) (w.rules ++ (name, t) ∷ []) (name, t) then.rules
    ((In-append (name, t) w.rules ((name, t) ∷ [])).1 (inr (inl refl))) in
    subst (λ (l : List OrdinalNames). IsTypedTest (sizes_of l) (headings_of w.relvars) t) (append-nil w.ordinals)
    (subst (λ (l : Entries). IsTypedTest sizes (headings_of l) t) (append-nil w.relvars) typed)

-- it names nothing new, its own name aside
unnamed-own : (some : Name → Bool) (w : State) (d : Said) → AreNew some w.relvars → IsWellMade (with_said w d) → said_names_any some d ≡ false
unnamed-own some w (said_ordinal name names) new then = refl
unnamed-own some w (said_base name heading typed) new then =
    let r : PlainRelvar = base (record { heading = heading; rows = [] }) typed in
    constraints-new some w.relvars name r typed new (behind (sizes_of (w.ordinals ++ [])) [] w.relvars ((name, r) ∷ []) then.relvars).0.1
unnamed-own some w (said_view name t) new then =
    typed-names some (sizes_of w.ordinals) (headings_of w.relvars) (new-clear some w.relvars new) t (typed-own w (said_view name t) then)
unnamed-own some w (said_stored name t) new then =
    typed-names some (sizes_of w.ordinals) (headings_of w.relvars) (new-clear some w.relvars new) t (typed-own w (said_stored name t) then)
unnamed-own some w (said_history h) new then = refl
unnamed-own some w (said_rule name t) new then =
    typed-test-names some (sizes_of w.ordinals) (headings_of w.relvars) (new-clear some w.relvars new) t (typed-own w (said_rule name t) then)

small-own : (w : State) (d : Said) → HasRoom w d → IsSmall w d
small-own w (said_ordinal name names) room = tt
small-own w (said_base name heading typed) room = tt
small-own w (said_view name t) room = room.1
small-own w (said_stored name t) room = room.1
small-own w (said_history h) room = tt
small-own w (said_rule name t) room = room.0

few-more : (w : State) (d : Said) → length w.relvars ≤ most_relvars → HasRoom w d → length (w.relvars ++ entries_said d) ≤ most_relvars
few-more w (said_ordinal name names) few room = subst (λ (l : Entries). length l ≤ most_relvars) (sym (append-nil w.relvars)) few
few-more w (said_base name heading typed) few room = let e = length-append w.relvars (entries_said (said_base name heading typed)) in omega (arith, e, room)
few-more w (said_view name t) few room = let e = length-append w.relvars (entries_said (said_view name t)) in let less = room.0 in omega (arith, e, less)
few-more w (said_stored name t) few room = let e = length-append w.relvars (entries_said (said_stored name t)) in let less = room.0 in omega (arith, e, less)
few-more w (said_history h) few room = let e = length-append w.relvars (entries_said (said_history h)) in omega (arith, e, room)
few-more w (said_rule name t) few room = subst (λ (l : Entries). length l ≤ most_relvars) (sym (append-nil w.relvars)) few

-- the state with what is said, and these ordinal types
abbrev with_said_types : State → Said → List OrdinalNames → State
with_said_types s x types = record (with_said s x) { ordinals = types }

-- with the text of a declaration and what it says
pub run-more : (w : State) (texts : List SourceText) (ds : List Said) (t : SourceText) (d : Said) → IsStanding w texts ds → IsFree w (names_said d) → HasRoom w d → IsWellMade (with_said w d)
    → IsTextOf w t d → IsStanding (with_said w d) (texts ++ t ∷ []) (ds ++ d ∷ [])
run-more w texts ds t d is free room then text =
    let some : Name → Bool = is_one_of (names_said d) in
    let each : (n : Name) → In n (names_said d) → is_taken w n ≡ false = each-in (λ (n : Name). is_taken w n ≡ false) (names_said d) free.0 in
    let new : AreNew some w.relvars = free-names w (names_said d) each in
    let follows : IsFollowed some w (with_said w d) =
    follows-new some w (with_said w d) (entries_said d) is.made then refl new (λ e i. any-own e.0 (names_said d) (entry-name e d i)) in
    let old : (z : Said) → In z ds → said_names_any some z ≡ false = λ z i. unnamed-new some w ds is.listed z is.made new i in
    let own : said_names_any some d ≡ false = unnamed-own some w d new then in
    let here : IsTextOf (with_said_types w d w.ordinals) t d = text-stays w (with_said w d) w.ordinals t d (said-stays some w (with_said w d) follows d own) text in
    record {
      texts =
          texts-more (with_said w d) [] texts ds t d
          (texts-stay w (with_said w d) [] texts ds (λ z i. said-stays some w (with_said w d) follows z (old z i)) is.texts)
          (subst (λ (l : List OrdinalNames). IsTextOf (with_said_types w d l) t d) is.listed.ordinals here);
      listed = made-more w ds is.listed d each free.1;
      made = then;
      few = few-more w d is.few room;
      small = λ z i. elim ((In-append z ds (d ∷ [])).0 i) [
        | inl j ↦ small-stays some w (with_said w d) follows z (old z j) (said-typed w ds is.listed is.made z j) (is.small z j)
        | inr j ↦ elim j [
          | inl k ↦ subst (IsSmall (with_said w d)) (sym k) (small-stays some w (with_said w d) follows d own (typed-own w d then) (small-own w d room))
          | inr k ↦ absurd k
        ]
      ];
    }

-- ---- DROP VAR

-- the keys of the others are not the name that goes
other-keys : (w : State) (ds : List Said) (listed : IsListedAs w ds) (name : Name) (gone : Name → Bool) (goes : IsGone ds name gone) (z : Said)
    → In z (goes.front ++ goes.back) → bytes_eq (key_said z) name ≡ false
other-keys w ds listed name gone goes z i = by (bytes_eq (key_said z) name) refl
  where
    by : (b : Bool) → bytes_eq (key_said z) name ≡ b → bytes_eq (key_said z) name ≡ false
    by false q = q
    by true q =
        let out : gone (key_said z) ≡ false = stays w ds listed name gone goes z (key_said z) i (key-name z) in
        let same : key_said z ≡ key_said goes.d = same_name (key_said z) name q ∙ sym goes.key in
        absurd (true≢false (sym (goes-along w ds listed name gone goes (key_said goes.d) (key-name goes.d)) ∙ (ap gone (sym same) ∙ out)))

left-of : (ds : List Said) (name : Name) (gone : Name → Bool) (goes : IsGone ds name gone) (z : Said) → In z (goes.front ++ goes.back) → In z ds
left-of ds name gone goes z i = subst (In z) (sym goes.parts) (in-both z goes.d goes.front goes.back i)

texts-gone : (w : State) (texts : List SourceText) (ds : List Said) (listed : IsListedAs w ds) (name : Name) (gone : Name → Bool) (goes : IsGone ds name gone) → AreTexts w texts ds
    → AreTexts w (forgotten name texts) (goes.front ++ goes.back)
texts-gone w texts ds listed name gone goes are =
    texts-left w [] texts goes.front goes.back goes.d name goes.stays goes.key (other-keys w ds listed name gone goes) (subst (AreTexts w texts) goes.parts are)

few-left : (w : State) (name : Name) → length w.relvars ≤ most_relvars → length (without_group name w).relvars ≤ most_relvars
few-left w name few =
    let some : Name → Bool = is_one_of (group w.relvars name) in
    let less = length-filter_at_most (λ (e : Name × PlainRelvar). not (some e.0)) w.relvars in
    omega (arith, less, few)

-- without a relvar, a view or a history that nothing else uses
run-without-said : (w : State) (texts : List SourceText) (ds : List Said) (name : Name) (r : PlainRelvar) → IsStanding w texts ds → relvar_named w.relvars name ≡ Some r → is_log r ≡ false
    → is_of_history w.relvars name ≡ false → is_used w (is_one_of (group w.relvars name)) ≡ false → IsWellMade (without_group name w)
    → (us : List Said) × IsStanding (without_group name w) (forgotten name texts) us
run-without-said w texts ds name r is there no_log alone unused then =
    let some : Name → Bool = is_one_of (group w.relvars name) in
    let found = relvar-gone w ds is.listed name r there no_log alone in
    let goes : IsGone ds name some = found.0 in
    let us : List Said = goes.front ++ goes.back in
    let parts = or_parts (relvars_use w.relvars some) (rules_use w.rules some) unused in
    let follows : IsFollowed some w (without_group name w) = follows-left some w (without_group name w) is.made then refl parts.0 in
    let none : (z : Said) → In z us → said_names_any some z ≡ false = λ z i.
    unnamed-left some w ds is.listed z unused (λ n j. stays w ds is.listed name some goes z n i j) (left-of ds name some goes z i) in (
      us,
      record {
        texts =
            texts-stay w (without_group name w) [] (forgotten name texts) us (λ z i. said-stays some w (without_group name w) follows z (none z i))
            (texts-gone w texts ds is.listed name some goes is.texts);
        listed = made-without-group w ds name goes is.listed found.1;
        made = then;
        few = few-left w name is.few;
        small = λ z i.
            let old = left-of ds name some goes z i in
            small-stays some w (without_group name w) follows z (none z i) (said-typed w ds is.listed is.made z old) (is.small z old);
      },
    )

-- without a log that nothing else uses: no text said it
run-without-log : (w : State) (texts : List SourceText) (ds : List Said) (name : Name) (r : PlainRelvar) → IsStanding w texts ds → relvar_named w.relvars name ≡ Some r → is_log r ≡ true
    → is_used w (is_one_of (group w.relvars name)) ≡ false → IsWellMade (without_group name w) → IsStanding (without_group name w) (forgotten name texts) ds
run-without-log w texts ds name r is there is_one unused then =
    let some : Name → Bool = is_one_of (group w.relvars name) in
    let apart : (z : Said) → In z ds → (n : Name) → In n (names_said z) → bytes_eq n name ≡ false = logged-apart w ds is.listed is.made name r there is_one in
    let parts = or_parts (relvars_use w.relvars some) (rules_use w.rules some) unused in
    let follows : IsFollowed some w (without_group name w) = follows-left some w (without_group name w) is.made then refl parts.0 in
    let none : (z : Said) → In z ds → said_names_any some z ≡ false = λ z i.
    unnamed-left some w ds is.listed z unused (λ n j. log-alone w ds is.listed is.made name r there is_one n (apart z i n j)) i in
    record {
      texts =
          texts-stay w (without_group name w) [] (forgotten name texts) ds (λ z i. said-stays some w (without_group name w) follows z (none z i))
          (all-left w [] texts ds name (λ z i. apart z i (key_said z) (key-name z)) is.texts);
      listed = listed-without-log w ds is.listed is.made name r there is_one;
      made = then;
      few = few-left w name is.few;
      small = λ z i. small-stays some w (without_group name w) follows z (none z i) (said-typed w ds is.listed is.made z i) (is.small z i);
    }

-- without any of them
pub run-without-group : (w : State) (texts : List SourceText) (ds : List Said) (name : Name) → IsStanding w texts ds → is_some (relvar_named w.relvars name) ≡ true
    → is_of_history w.relvars name ≡ false → is_used w (is_one_of (group w.relvars name)) ≡ false → IsWellMade (without_group name w)
    → (us : List Said) × IsStanding (without_group name w) (forgotten name texts) us
run-without-group w texts ds name is there alone unused then = by (relvar_named w.relvars name) refl there
  where
    by-log : (r : PlainRelvar) (b : Bool) → relvar_named w.relvars name ≡ Some r → is_log r ≡ b → (us : List Said) × IsStanding (without_group name w) (forgotten name texts) us
    by-log r true e q = (ds, run-without-log w texts ds name r is e q unused then)
    by-log r false e q = run-without-said w texts ds name r is e q alone unused then

    by : (o : Option PlainRelvar) → relvar_named w.relvars name ≡ o → is_some o ≡ true → (us : List Said) × IsStanding (without_group name w) (forgotten name texts) us
    by None e q = absurd (true≢false (sym q))
    by (Some r) e q = by-log r (is_log r) e refl

-- ---- LOG

-- with a log, whose name is free
pub run-with-log : (w : State) (texts : List SourceText) (ds : List Said) (d : LogData) → IsStanding w texts ds → is_taken w d.name ≡ false → length w.relvars < most_relvars → IsWellMade (with_log w d)
    → IsStanding (with_log w d) texts ds
run-with-log w texts ds d is free room then =
    let r : State = with_log w d in
    let some : Name → Bool = is_one_of (d.name ∷ []) in
    let more : Entries = (d.name, new_log (heading_if (relvar_named w.relvars d.of)) w.accepted d) ∷ [] in
    let new : AreNew some w.relvars =
    free-names w (d.name ∷ []) (λ n i. elim i [ inl k ↦ subst (λ (m : Name). is_taken w m ≡ false) (sym k) free | inr k ↦ absurd k ]) in
    let follows : IsFollowed some w r =
    follows-new some w r more is.made then refl new (λ e i. any-own e.0 (d.name ∷ []) (elim i [ inl k ↦ inl (ap (λ (x : Name × PlainRelvar). x.0) k) | inr k ↦ absurd k ])) in
    let old : (z : Said) → In z ds → said_names_any some z ≡ false = λ z i. unnamed-new some w ds is.listed z is.made new i in
    record {
      texts = texts-stay w r [] texts ds (λ z i. said-stays some w r follows z (old z i)) is.texts;
      listed = listed-with-log w ds d is.listed;
      made = then;
      few = let e = length-append w.relvars more in omega (arith, e, room);
      small = λ z i. small-stays some w r follows z (old z i) (said-typed w ds is.listed is.made z i) (is.small z i);
    }

-- ---- DROP CONSTRAINT and assignments

-- what is said stays in a state of the same relvars, their rows aside
module _ (w r : State) (texts : List SourceText) (ds : List Said) (is : IsStanding w texts ds) (follows : IsFollowed none_of_them w r) where
  unnamed : (z : Said) → In z ds → said_names_any none_of_them z ≡ false
  unnamed z i = unnamed-new none_of_them w ds is.listed z is.made (none-new w.relvars) i

  stays-said : (z : Said) → In z ds → StaysSaid w r z
  stays-said z i = said-stays none_of_them w r follows z (unnamed z i)

  stays-small : (z : Said) → In z ds → IsSmall r z
  stays-small z i = small-stays none_of_them w r follows z (unnamed z i) (said-typed w ds is.listed is.made z i) (is.small z i)

pub run-without-rule : (w : State) (texts : List SourceText) (ds : List Said) (name : Name) → IsStanding w texts ds → is_rule w name ≡ true → IsWellMade (without_rule name w)
    → (us : List Said) × IsStanding (without_rule name w) (forgotten name texts) us
run-without-rule w texts ds name is there then =
    let r : State = without_rule name w in
    let gone : Name → Bool = λ k. bytes_eq k name in
    let found = rule-gone w ds is.listed name there in
    let goes : IsGone ds name gone = found.0 in
    let us : List Said = goes.front ++ goes.back in
    let follows : IsFollowed none_of_them w r = follows-rows w r is.made then refl in (
      us,
      record {
        texts = texts-stay w r [] (forgotten name texts) us (λ z i. stays-said w r texts ds is follows z (left-of ds name gone goes z i)) (texts-gone w texts ds is.listed name gone goes is.texts);
        listed = made-without-rule w ds name goes is.listed found.1;
        made = then;
        few = is.few;
        small = λ z i. stays-small w r texts ds is follows z (left-of ds name gone goes z i);
      },
    )

few-rows : (w : State) (fs : Entries) → bare_all fs ≡ bare_all w.relvars → length w.relvars ≤ most_relvars → length fs ≤ most_relvars
few-rows w fs same few = let l = sym (length-map fs bare_entry) ∙ (ap length same ∙ length-map w.relvars bare_entry) in omega (arith, l, few)

pub run-with-rows : (w : State) (texts : List SourceText) (ds : List Said) (fs : Entries) → IsStanding w texts ds → bare_all fs ≡ bare_all w.relvars → IsWellMade (record w { relvars = fs })
    → IsStanding (record w { relvars = fs }) texts ds
run-with-rows w texts ds fs is same then =
    let r : State = record w { relvars = fs } in
    let follows : IsFollowed none_of_them w r = follows-rows w r is.made then same in
    record {
      texts = texts-stay w r [] texts ds (stays-said w r texts ds is follows) is.texts;
      listed = listed-with w ds fs same is.listed;
      made = then;
      few = few-rows w fs same is.few;
      small = stays-small w r texts ds is follows;
    }

-- with one accepted statement more, which the logs tell
pub run-counted : (w : State) (texts : List SourceText) (ds : List Said) → IsStanding w texts ds → IsStanding (counted w) texts ds
run-counted w texts ds is =
    let r : State = counted w in
    let same : bare_all (turned_logs w.relvars) ≡ bare_all w.relvars = bare-turned w.relvars in
    let then : IsWellMade r = made-turned w is.made in
    let follows : IsFollowed none_of_them w r = follows-rows w r is.made then same in
    let listed : IsListedAs (record w { relvars = turned_logs w.relvars }) ds = listed-with w ds (turned_logs w.relvars) same is.listed in
    record {
      texts = texts-stay w r [] texts ds (stays-said w r texts ds is follows) is.texts;
      listed = record { ordinals = listed.ordinals; early = listed.early; views = listed.views; rules = listed.rules; different = listed.different };
      made = then;
      few = few-rows w (turned_logs w.relvars) same is.few;
      small = stays-small w r texts ds is follows;
    }
