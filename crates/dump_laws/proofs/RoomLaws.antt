-- A stored view that is declared anew is not refused: it means the rows that it meant, and there is room for them.
--     room-here      so there is in each state on the way, behind the rows of the base relvars
--     stored-here      the law
use Rattle.std.proofs.Common.{◌≡◌, ◌+◌, ◌≤◌, Bool, true, false, nat_le, cond, List, [], ◌∷◌, ◌++◌, map, inl, inr, refl, sym, ap, ◌∙◌, subst, append_assoc, append-nil, Ok, Err, arith}
use Rattle.std.specs.Prelude.{◌&&◌}
use Rattle.std.specs.List.{filter, flat_map}
use Rattle.std.proofs.lemmas.Bool.{true≢false, le-leb}
use Rattle.std.proofs.lemmas.List.Concat.{flat_map-append}
use Rattle.std.proofs.lemmas.List.Elements.{filter-append}
use Rattle.base_core.proofs.MemberLemmas.{In-append, In-flat_map, list_all-In}
use Rattle.base_core.proofs.SetLemmas.{In}
use Rattle.point_core.specs.declared.fault.Code.TheVariants.{E46}
use Rattle.point_core.specs.declared.fault.Place.{Place}
use Rattle.value_core.specs.declared.refuse.Refuse.TheVariants.{Plain}
use Rattle.value_core.specs.Limits.{most_rows_in_all}
use Rattle.value_core.specs.Values.{Name, Row}
use Rattle.tree_core.specs.Relvars.{State, PlainKind, derived, of_history, stored, PlainRelvar, base, view, log, Entries}
use Rattle.tree_core.specs.Trees.{Tree}
use Rattle.tree_core.specs.Uses.{names_any}
use Rattle.meaning_core.specs.Logs.{has_log, turned_logs}
use Rattle.meaning_core.specs.Meanings.{RowsMeant, meaning_in}
use Rattle.meaning_core.specs.WellMade.{sizes_of, IsWellMade}
use Rattle.meaning_laws.specs.Likeness.{IsLike, Alike}
use Rattle.meaning_laws.specs.Moved.{moved_tree}
use Rattle.meaning_laws.proofs.MeaningAlike.{meaning-alike}
use Rattle.relvar_logs.specs.Room.{rows_of_logs, are_each_few}
use Rattle.stored_views.specs.Stored.{is_stored, stored_tree, count_meant, is_meant, is_meant_if, stored_rows, rows_among, rows_of_stored, are_meant_among, are_stored_few}
use Rattle.assign_core.specs.Breaches.{rows_of_all}
use Rattle.assign_core.specs.Room.{have_room, with_stored, stored_if, stored_in, HasStoredRoom}
use Rattle.assign_core.proofs.LogLemmas.{no-rows}
use Rattle.assign_core.proofs.NameLemmas.{relvars_differ}
use Rattle.typing_laws.specs.Saying.{Said, said_stored, moved_said, entries_said, with_said}
use Rattle.typing_laws.proofs.SaidLaws.{with-stored}
use Rattle.part_laws.specs.Parts.{is_base, emptied}
use Rattle.dump_laws.specs.Kept.{is_early, is_late, IsMadeOf}
use Rattle.dump_laws.specs.Phases.{StandsLate}
use Rattle.dump_laws.specs.Replays.{lacks}
use Rattle.dump_laws.specs.Standing.{in_script_order, AreLikeEntries}
use Rattle.dump_laws.proofs.ListLaws.{in-middle}
use Rattle.dump_laws.proofs.MadeLaws.{entry-in}
use Rattle.dump_laws.proofs.OrderLaws.{order-member, order-entries}
use Rattle.dump_laws.proofs.ReachedLaws.{values-here}
use Rattle.dump_laws.proofs.SayableLaws.{listed-of}
use Rattle.dump_laws.proofs.StandingLaws.{stands-more, stands-logless, stands-unturned, alike-so-far, stands-for, apart-one, apart-so-far}
use Rattle.dump_laws.proofs.StepLaws.{tree-typed, view-there}

-- ---- how many rows entries have

-- the base relvars have all rows that count
bases-rows : (es : Entries) → rows_of_all (filter is_base es) ≡ rows_of_all es
bases-rows [] = refl
bases-rows ((name, base value constraints) ∷ es) = let more = bases-rows es in omega (arith, more)
bases-rows ((name, view t kind) ∷ es) = let more = bases-rows es in omega (arith, more)
bases-rows ((name, log of side last value) ∷ es) = let more = bases-rows es in omega (arith, more)

-- stored views stand among the views that no history has
late-rows : (all es : Entries) → rows_among all (filter is_late es) ≡ rows_among all es
late-rows all [] = refl
late-rows all ((name, base value constraints) ∷ es) = let more = late-rows all es in omega (arith, more)
late-rows all ((name, view t derived) ∷ es) = let more = late-rows all es in omega (arith, more)
late-rows all ((name, view t stored) ∷ es) = let more = late-rows all es in omega (arith, more)
late-rows all ((name, view t (of_history names)) ∷ es) = let more = late-rows all es in omega (arith, more)
late-rows all ((name, log of side last value) ∷ es) = let more = late-rows all es in omega (arith, more)

-- and none before the rows
early-rows : (all es more : Entries) → rows_among all (map emptied (filter is_early es) ++ more) ≡ rows_among all more
early-rows all [] more = refl
early-rows all ((name, base value constraints) ∷ es) more = let rest = early-rows all es more in omega (arith, rest)
early-rows all ((name, view t derived) ∷ es) more = early-rows all es more
early-rows all ((name, view t stored) ∷ es) more = early-rows all es more
early-rows all ((name, view t (of_history names)) ∷ es) more = let rest = early-rows all es more in omega (arith, rest)
early-rows all ((name, log of side last value) ∷ es) more = early-rows all es more

front-rows : (all xs ys : Entries) → rows_among all xs ≤ rows_among all (xs ++ ys)
front-rows all [] ys = omega arith
front-rows all (x ∷ xs) ys = let more = front-rows all xs ys in omega (arith, more)

-- ---- a stored view

meant-rows : (meant : RowsMeant) → is_meant meant ≡ true → (rows : List Row) × (meant ≡ Ok rows)
meant-rows (Ok rows) e = (rows, refl)
meant-rows (Err fault) e = absurd (true≢false (sym e))

emptied-stored : (x : Name × PlainRelvar) → is_stored (emptied x).1 ≡ true → emptied x ≡ x
emptied-stored (name, base value constraints) e = absurd (true≢false (sym e))
emptied-stored (name, view t kind) e = refl
emptied-stored (name, log of side last value) e = refl

module _ (w : State) (ds : List Said) (made : IsMadeOf w ds) (well : IsWellMade w) (none : has_log w.relvars ≡ false) (room : HasStoredRoom w) where
  -- ---- a state on the way

  module _ (done rest : List Said) (whole : in_script_order ds ≡ done ++ rest) (s : State) (h : StandsLate w done s) where
    among : (z : Said) → In z done → In z ds
    among z i = order-member z ds (subst (In z) (sym whole) ((In-append z done rest).1 (inl i)))

    alike : Alike (lacks s) w.relvars s.relvars
    alike = alike-so-far done s h.stands w ds (listed-of w ds made) (relvars_differ w well) among

    -- the expression of a stored view means the rows that it meant
    means-there : (name : Name) (t : Tree) → In (name, view t stored) w.relvars → names_any (lacks s) t ≡ false → (f : Place → Place)
        → (rows : List Row) × (meaning_in w.relvars t ≡ Ok rows) × (meaning_in s.relvars (moved_tree f t) ≡ Ok rows)
    means-there name t i known f =
        let few : is_meant (meaning_in w.relvars t) ≡ true =
        (list_all-In (λ (r : Name × PlainRelvar). is_meant_if w.relvars (stored_tree r.1)) w.relvars).0 room.each (name, view t stored) i in
        let meant = meant-rows (meaning_in w.relvars t) few in (
          meant.0,
          meant.1,
          meaning-alike (lacks s) (sizes_of w.ordinals) (sizes_of s.ordinals) w.relvars s.relvars well.relvars h.fits.relvars alike
              (values-here w ds made well none s h.fits alike h.bases)
              (apart-so-far w s h.fits (relvars_differ w well) alike) f (sizes_of w.ordinals) t meant.0 known (tree-typed w ds made well name t stored i) meant.1,
        )

    -- as a stored view, an entry has as many rows as the other, and no fault of too many
    abbrev AsMany : PlainRelvar → PlainRelvar → Type 0
    AsMany x y = (is_meant_if s.relvars (stored_tree y) ≡ true) × (stored_rows s.relvars y ≡ stored_rows w.relvars x)

    -- where it is a stored view, it stands in the first state, and has been declared
    abbrev IsThere : Name → PlainRelvar → Type 0
    IsThere name x = is_stored x ≡ true → In (name, x) w.relvars × (lacks s name ≡ false)

    view-many : (name : Name) (t : Tree) (kind : PlainKind) (f : Place → Place) → IsThere name (view t kind) → AsMany (view t kind) (view (moved_tree f t) kind)
    view-many name t derived f there = (refl, refl)
    view-many name t (of_history names) f there = (refl, refl)
    view-many name t stored f there =
        let here = there refl in
        let means = means-there name t here.0 (apart-one w s h.fits (relvars_differ w well) alike (name, view t stored) here.0 here.1) f in
        (ap is_meant means.2, ap count_meant (means.2 ∙ sym means.1))

    one-many : (name : Name) (x y : PlainRelvar) → IsLike x y → IsThere name x → AsMany x y
    one-many name (base v c) (base u d) like there = (refl, refl)
    one-many name (base v c) (view u g) like there = absurd like
    one-many name (base v c) (log o i last z) like there = absurd like
    one-many name (view t k) (base u d) like there = absurd like
    one-many name (view t k) (view u g) like there =
        subst (λ (kind : PlainKind). AsMany (view t k) (view u kind)) (sym like.1)
        (subst (λ (z : Tree). AsMany (view t k) (view z k)) (sym like.0.1) (view-many name t k like.0.0 there))
    one-many name (view t k) (log o i last z) like there = absurd like
    one-many name (log o i last z) (base u d) like there = absurd like
    one-many name (log o i last z) (view u g) like there = absurd like
    one-many name (log o i last z) (log p j n v) like there = (refl, refl)

    all-many : (xs ys : Entries) → AreLikeEntries xs ys → ((x : Name × PlainRelvar) → In x xs → IsThere x.0 x.1)
        → (are_meant_among s.relvars ys ≡ true) × (rows_among s.relvars ys ≡ rows_among w.relvars xs)
    all-many [] [] like there = (refl, refl)
    all-many [] (y ∷ ys) like there = absurd like
    all-many (x ∷ xs) [] like there = absurd like
    all-many (x ∷ xs) (y ∷ ys) like there =
        let one = one-many x.0 x.1 y.1 like.0.1 (there x (inl refl)) in
        let more = all-many xs ys like.1 (λ z i. there z (inr i)) in
        (λ i. one.0 i && more.0 i, λ i. one.1 i + more.1 i)

    is-there : (x : Name × PlainRelvar) → In x (flat_map entries_said done) → IsThere x.0 x.1
    is-there x i q =
        let z = (In-flat_map entries_said x done).0 i in
        let at = entry-in w ds (listed-of w ds made) x z.0 (among z.0 z.1) z.2 in
        let same : x ≡ at.0 = at.2 ∙ emptied-stored at.0 (subst (λ (y : Name × PlainRelvar). is_stored y.1 ≡ true) at.2 q) in
        (subst (λ (y : Name × PlainRelvar). In y w.relvars) (sym same) at.1, stands-for done s h.stands x i)

    -- ---- room

    many : (are_stored_few s.relvars ≡ true) × (rows_among s.relvars s.relvars ≡ rows_among w.relvars (flat_map entries_said done))
    many = all-many (flat_map entries_said done) s.relvars h.stands.relvars is-there

    -- its stored views are the first of the final state
    no-more : rows_of_stored s.relvars ≤ rows_of_stored w.relvars
    no-more =
        let split : flat_map entries_said done ++ flat_map entries_said rest ≡ map emptied (filter is_early w.relvars) ++ filter is_late w.relvars =
        sym (flat_map-append entries_said done rest) ∙ (ap (flat_map entries_said) (sym whole) ∙ order-entries w ds made) in
        let front = front-rows w.relvars (flat_map entries_said done) (flat_map entries_said rest) in
        let parts : rows_among w.relvars (flat_map entries_said done ++ flat_map entries_said rest) ≡ rows_of_stored w.relvars =
        ap (rows_among w.relvars) split ∙ (early-rows w.relvars w.relvars (filter is_late w.relvars) ∙ late-rows w.relvars w.relvars) in
        let same = many.1 in
        omega (arith, front, parts, same)

    pub room-here : have_room s.relvars ≡ true
    room-here =
        let logs = no-rows s.relvars (stands-logless done s h.stands) in
        let turned : turned_logs s.relvars ≡ s.relvars = stands-unturned done s h.stands in
        let none_of_logs : rows_of_logs (turned_logs s.relvars) ≡ 0 = ap rows_of_logs turned ∙ logs.0 in
        let bases : rows_of_all s.relvars ≡ rows_of_all w.relvars = sym (bases-rows s.relvars) ∙ (ap rows_of_all h.bases ∙ bases-rows w.relvars) in
        let views = no-more in
        let limit = room.few in
        let few : rows_of_all s.relvars + rows_of_logs (turned_logs s.relvars) + rows_of_stored s.relvars ≤ most_rows_in_all = omega (arith, none_of_logs, bases, views, limit) in
        let fits : nat_le (rows_of_all s.relvars + rows_of_logs (turned_logs s.relvars) + rows_of_stored s.relvars) most_rows_in_all ≡ true =
        le-leb (rows_of_all s.relvars + rows_of_logs (turned_logs s.relvars) + rows_of_stored s.relvars) most_rows_in_all few in
        let each : are_each_few (turned_logs s.relvars) ≡ true = ap are_each_few turned ∙ logs.1 in
        λ i. fits i && (each i && many.0 i)

  -- ---- the law

  pub stored-here : (done rest : List Said) (name : Name) (t : Tree) → in_script_order ds ≡ done ++ said_stored name t ∷ rest → (r : State) → StandsLate w done r → names_any (lacks r) t ≡ false
      → (f : Place → Place) → IsWellMade (with_stored r name (moved_tree f t)) → stored_in r name (moved_tree f t) ≡ Ok (with_stored r name (moved_tree f t))
  stored-here done rest name t whole r h known f then =
      let d : Said = said_stored name t in
      let u : Tree = moved_tree f t in
      let s : State = with_said r (moved_said f d) in
      let late : StandsLate w (done ++ d ∷ []) s = record {
        stands = stands-more done r f d h.stands;
        fits = subst IsWellMade (with-stored r name u) then;
        bases = filter-append is_base r.relvars (entries_said (moved_said f d)) ∙ (append-nil (filter is_base r.relvars) ∙ h.bases);
      } in
      let enough : have_room (with_stored r name u).relvars ≡ true = room-here (done ++ d ∷ []) rest (whole ∙ sym (append_assoc done (d ∷ []) rest)) s late in
      let said : In d ds = order-member d ds (subst (In d) (sym whole) (in-middle d done rest)) in
      let means = means-there done (d ∷ rest) whole r h name t (view-there w ds made well name t stored d said (inl refl)) known f in
      ap (λ (meant : RowsMeant). stored_if meant r name u) means.2 ∙ ap (λ (b : Bool). cond b (Ok (with_stored r name u)) (Err (Plain E46))) enough
