-- What is asked of a state before a text is declared anew.
--     entries-number      how many relvars and views are said at most
--     has-room      what is said stays below the limits, by numbers
--     entry-typed      an entry of the final state is well made behind those before it
--     tree-typed, rule-typed      a view of the final state, and a database constraint that is said, are typed for it
--     step-for      a text can be declared, where what it names is known and it holds
--     alike-here      each name that it has stands for the like
use Rattle.std.proofs.Common.{◌≡◌, inl, ℕ, ◌+◌, ◌≤◌, false, List, [], ◌∷◌, ◌++◌, map, length, refl, sym, ap, ◌∙◌, subst, arith, length-append}
use Rattle.std.specs.List.{filter, flat_map, IsDistinct}
use Rattle.std.specs.Str.{bytes_eq}
use Rattle.std.proofs.lemmas.List.{length-map}
use Rattle.std.proofs.lemmas.List.Elements.{recursion_from_All}
use Rattle.base_core.proofs.ListLemmas.{bytes_eq-sym}
use Rattle.base_core.proofs.MemberLemmas.{In-append, In-flat_map}
use Rattle.base_core.proofs.SetLemmas.{In}
use Rattle.point_core.specs.declared.fault.Place.{Place}
use Rattle.value_core.specs.declared.list.OrdinalNames.{OrdinalNames}
use Rattle.value_core.specs.Limits.{most_ordinal_types, most_relvars, most_nodes, most_rules}
use Rattle.value_core.specs.Values.{Name}
use Rattle.tree_core.specs.Relvars.{State, PlainKind, PlainRelvar, base, view, Entries, log, derived, stored}
use Rattle.tree_core.specs.Trees.{Tree, Test}
use Rattle.tree_core.specs.Uses.{names_any}
use Rattle.meaning_core.specs.Typing.{IsTypedTree}
use Rattle.meaning_core.specs.WellMade.{sizes_of, headings_of, IsRelvar, AreRelvars, IsWellMade, IsTypedFor, IsTypedTestFor}
use Rattle.meaning_core.proofs.StaysTyped.{tree-behind}
use Rattle.meaning_laws.specs.Likeness.{Alike}
use Rattle.meaning_laws.specs.Moved.{moved_tree}
use Rattle.meaning_laws.proofs.EntriesFound.{relvar-at}
use Rattle.declaration_typing.specs.Nodes.{nodes_of}
use Rattle.dump_core.specs.Texts.{SourceText}
use Rattle.assign_core.proofs.NameLemmas.{relvars_differ}
use Rattle.typing_laws.specs.Saying.{Said, said_ordinal, said_base, said_view, said_stored, said_history, said_rule, names_said, moved_said, said_names_any, entries_said, ordinals_said, rules_said, IsFree, HasRoom}
use Rattle.typing_laws.proofs.LogsAlike.{logs-alike}
use Rattle.typing_laws.proofs.NodesAlike.{nodes-alike, test-nodes-alike}
use Rattle.dump_laws.specs.Kept.{is_early, is_late, IsTextOf, IsSmall, IsMadeOf}
use Rattle.part_laws.specs.Parts.{emptied}
use Rattle.dump_laws.proofs.ListLaws.{split-at, in-front, in-middle, given-middle, each-in, distinct-apart, distinct-later}
use Rattle.dump_laws.proofs.MadeLaws.{entry-in, rule-in}
use Rattle.dump_laws.proofs.SayableLaws.{listed-of}
use Rattle.dump_laws.specs.Replays.{lacks, IsHeld, IsStepFor}
use Rattle.dump_laws.specs.Standing.{in_script_order, Stands}
use Rattle.dump_laws.proofs.LikeEntries.{like-length, rules-length}
use Rattle.dump_laws.proofs.OrderLaws.{distinct-front, order-distinct, order-member, order-entries, order-ordinals, order-rules, parts-length}
use Rattle.dump_laws.proofs.PlaceLemmas.{all-lengths}
use Rattle.dump_laws.proofs.StandingLaws.{free-so-far, alike-so-far, apart-so-far}

-- ---- room

-- what is said stays below the limits, by how much there is with it
has-room : (r : State) (d : Said) → length r.ordinals + length (ordinals_said d) ≤ most_ordinal_types → length r.relvars + length (entries_said d) ≤ most_relvars
    → length r.rules + length (rules_said d) ≤ most_rules → (f : Place → Place) → IsSmall r (moved_said f d) → HasRoom r (moved_said f d)
has-room r (said_ordinal name names) a b c f small = omega (arith, a)
has-room r (said_base name heading typed) a b c f small = omega (arith, b)
has-room r (said_view name t) a b c f small = (omega (arith, b), small)
has-room r (said_stored name t) a b c f small = (omega (arith, b), small)
has-room r (said_history made) a b c f small = omega (arith, b)
has-room r (said_rule name t) a b c f small = (small, omega (arith, c))

module _ (w : State) (ds : List Said) (made : IsMadeOf w ds) (well : IsWellMade w) where
  abbrev all_said : List Said
  all_said = in_script_order ds

  pub entries-number : length (flat_map entries_said all_said) ≤ length w.relvars
  entries-number =
      let whole = ap length (order-entries w ds made) in
      let both = length-append (map emptied (filter is_early w.relvars)) (filter is_late w.relvars) in
      let first = length-map (filter is_early w.relvars) emptied in
      let parts = parts-length w.relvars in
      omega (arith, whole, both, first, parts)

  -- ---- what is said is typed

  pub entry-typed : (x : Name × PlainRelvar) → In x w.relvars → (front : Entries) × (back : Entries) × (w.relvars ≡ front ++ x ∷ back) × IsRelvar (sizes_of w.ordinals) front x.0 x.1
  entry-typed x i =
      let s = split-at x w.relvars i in
      (s.0, s.1, s.2, relvar-at (sizes_of w.ordinals) [] s.0 s.1 x (subst (AreRelvars (sizes_of w.ordinals) []) s.2 well.relvars))

  pub tree-typed : (n : Name) (t : Tree) (kind : PlainKind) → In (n, view t kind) w.relvars → IsTypedFor w t
  tree-typed n t kind i =
      let here = entry-typed (n, view t kind) i in
      let typed = tree-behind (sizes_of w.ordinals) here.0 ((n, view t kind) ∷ here.1) t here.3.0 in
      subst (λ (es : Entries). IsTypedTree (sizes_of w.ordinals) (headings_of es) t) (sym here.2) typed

  -- a view that is said stands there
  pub view-there : (name : Name) (t : Tree) (kind : PlainKind) (d : Said) → In d ds → In (name, view t kind) (entries_said d) → In (name, view t kind) w.relvars
  view-there name t kind d i j =
      let z = entry-in w ds (listed-of w ds made) (name, view t kind) d i j in
      from z.0 z.1 z.2 (ap (λ (x : Name × PlainRelvar). x.1) z.2)
    where
      from : (x : Name × PlainRelvar) → In x w.relvars → (name, view t kind) ≡ emptied x → view t kind ≡ (emptied x).1 → In (name, view t kind) w.relvars
      from (n, base v c) k e q = absurd (cc)
      from (n, log o side last v) k e q = absurd (cc)
      from (n, view u other) k e q = subst (λ (x : Name × PlainRelvar). In x w.relvars) (sym e) k

  view-typed : (name : Name) (t : Tree) (kind : PlainKind) (d : Said) → In d ds → In (name, view t kind) (entries_said d) → IsTypedFor w t
  view-typed name t kind d i j = tree-typed name t kind (view-there name t kind d i j)

  pub rule-typed : (name : Name) (t : Test) → In (said_rule name t) ds → IsTypedTestFor w t
  rule-typed name t i =
      each-in (λ (x : Name × Test). IsTypedTestFor w x.1) w.rules (recursion_from_All (λ (x : Name × Test). IsTypedTestFor w x.1) w.rules well.rules) (name, t)
      (rule-in w ds (listed-of w ds made) (name, t) (said_rule name t) i (inl refl))

  -- ---- where so much stands

  module _ (done rest : List Said) (d : Said) (whole : all_said ≡ done ++ d ∷ rest) (r : State) (stands : Stands done r) (fits : IsWellMade r) where
    in-order : (z : Said) → In z (done ++ d ∷ rest) → In z ds
    in-order z i = order-member z ds (subst (In z) (sym whole) i)

    here-said : In d ds
    here-said = in-order d (in-middle d done rest)

    among : (z : Said) → In z done → In z ds
    among z i = in-order z (in-front z d done rest i)

    differ : IsDistinct bytes_eq (flat_map names_said done ++ (names_said d ++ flat_map names_said rest))
    differ = subst (IsDistinct bytes_eq) (ap (flat_map names_said) whole ∙ given-middle names_said done rest d) (order-distinct ds made.different)

    free : IsFree r (names_said d)
    free =
        free-so-far done r stands d
        (λ z i a b j k.
        bytes_eq-sym a b
        ∙ distinct-apart bytes_eq (flat_map names_said done) (names_said d ++ flat_map names_said rest) differ b a ((In-flat_map names_said b done).1 (z, i, k))
        ((In-append a (names_said d) (flat_map names_said rest)).1 (inl j)))
        (distinct-front bytes_eq (names_said d) (flat_map names_said rest) (distinct-later bytes_eq (flat_map names_said done) (names_said d ++ flat_map names_said rest) differ))

    pub alike-here : Alike (lacks r) w.relvars r.relvars
    alike-here = alike-so-far done r stands w ds (listed-of w ds made) (relvars_differ w well) among

    few-ordinals : length r.ordinals + length (ordinals_said d) ≤ most_ordinal_types
    few-ordinals =
        let most = all-lengths ordinals_said all_said done rest d whole in
        let all = ap length (order-ordinals w ds made) in
        let now = ap length stands.ordinals in
        let limit = made.few_ordinals in
        omega (arith, most, all, now, limit)

    few-relvars : length r.relvars + length (entries_said d) ≤ most_relvars
    few-relvars =
        let most = all-lengths entries_said all_said done rest d whole in
        let all = entries-number in
        let now = like-length (flat_map entries_said done) r.relvars stands.relvars in
        let limit = made.few in
        omega (arith, most, all, now, limit)

    few-rules : length r.rules + length (rules_said d) ≤ most_rules
    few-rules =
        let most = all-lengths rules_said all_said done rest d whole in
        let all = ap length (order-rules w ds made) in
        let now = rules-length (flat_map rules_said done) r.rules stands.rules in
        let limit = made.few_rules in
        omega (arith, most, all, now, limit)

    tree-small : (t : Tree) → IsTypedFor w t → names_any (lacks r) t ≡ false → nodes_of w.relvars t ≤ most_nodes → (f : Place → Place) → nodes_of r.relvars (moved_tree f t) ≤ most_nodes
    tree-small t typed known le f =
        subst (λ (n : ℕ). n ≤ most_nodes)
        (nodes-alike (lacks r) (sizes_of w.ordinals) (sizes_of r.ordinals) w.relvars r.relvars well.relvars fits.relvars alike-here
        (apart-so-far w r fits (relvars_differ w well) alike-here) f (sizes_of w.ordinals) t known typed)
        le

    small : (e : Said) → In e ds → said_names_any (lacks r) e ≡ false → IsSmall w e → (f : Place → Place) → IsSmall r (moved_said f e)
    small (said_ordinal name names) i known le f = tt
    small (said_base name heading typed) i known le f = tt
    small (said_view name t) i known le f = tree-small t (view-typed name t derived (said_view name t) i (inl refl)) known le f
    small (said_stored name t) i known le f = tree-small t (view-typed name t stored (said_stored name t) i (inl refl)) known le f
    small (said_history made) i known le f = tt
    small (said_rule name t) i known le f =
        subst (λ (n : ℕ). n ≤ most_nodes)
        (test-nodes-alike (lacks r) (sizes_of w.ordinals) (sizes_of r.ordinals) w.relvars r.relvars well.relvars fits.relvars alike-here
        (apart-so-far w r fits (relvars_differ w well) alike-here) f (sizes_of w.ordinals) t known
        (rule-typed name t i))
        le

    pub step-for : (t : SourceText) (types more : List OrdinalNames) → flat_map ordinals_said done ≡ types ++ more → IsTextOf (record w { ordinals = types }) t d → said_names_any (lacks r) d ≡ false
        → ((f : Place → Place) → IsHeld r (moved_said f d))
        → IsStepFor w r types more t d
    step-for t types more same text known held = record {
      text = text;
      fits = fits;
      ordinals = stands.ordinals ∙ same;
      alike = alike-here;
      logs = logs-alike (lacks r) (sizes_of w.ordinals) (sizes_of r.ordinals) w.relvars r.relvars well.relvars fits.relvars alike-here
          (apart-so-far w r fits (relvars_differ w well) alike-here);
      known = known;
      free = free;
      room = λ f. has-room r d few-ordinals few-relvars few-rules f (small d here-said known (each-in (IsSmall w) ds (recursion_from_All (IsSmall w) ds made.small) d here-said) f);
      held = held;
    }
