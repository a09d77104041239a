-- Rows beside a hull, that of rows that come.
--     hull_more      the hull of one row more
--     kept_more, left_out      one row more, with or without the row
--     found_beside, touched_beside      the rows that are found, by a pass
use Rattle.std.proofs.Common.{◌≡◌, ℕ, ℤ, ◌≤ℤ◌, ◌+◌, ◌<◌, Bool, true, false, ◌&&◌, List, [], ◌∷◌, ◌++◌, append-nil, map, length, get_or, take, refl, sym, ap, ◌∙◌, subst, arith, if◌then◌else◌}
use Rattle.std.specs.Bool.{IsTrue}
use Rattle.std.specs.Cmp.{nat_cmp_total}
use Rattle.std.specs.FinMap.{nat_cmp-IsAntisymmetric}
use Rattle.std.specs.Int.{int_min, int_max}
use Rattle.std.specs.List.{All, filter}
use Rattle.std.specs.Ordering.{nat_cmp}
use Rattle.std.proofs.lemmas.Bool.{true≢false, and_from, and_parts}
use Rattle.std.proofs.lemmas.Int.{ints, clamps}
use Rattle.std.proofs.lemmas.List.{get_or-map}
use Rattle.std.proofs.lemmas.List.Elements.{filter_more}
use Rattle.base_core.specs.Sets.{has}
use Rattle.base_core.proofs.ListLemmas.{All-In}
use Rattle.base_core.proofs.MemberLemmas.{In-filter, In-map, has-In}
use Rattle.base_core.proofs.SetLemmas.{In}
use Rattle.cell_packing.proofs.PackedBoxes.{among_in}
use Rattle.interval_core.specs.Members.{Span}
use Rattle.value_core.specs.Order.{row_total, row_separates}
use Rattle.value_core.specs.Values.{Row, row_cmp}
use Rattle.relation_core.specs.Agreement.{part_of}
use Rattle.relation_core.specs.Growth.{touched}
use Rattle.relation_core.specs.Hashes.{hash_of, row_hash}
use Rattle.relation_core.specs.Parts.{projected}
use Rattle.u_row.proofs.BeneathLemmas.{in_all}
use Rattle.u_set.specs.Apart.{span_in}
use Rattle.u_constraints.specs.Beside.{are_beside, beside_with_keys, AreBeside, LiesWithin}
use Rattle.u_constraints.proofs.BesideLemmas.{beside_from, beside_parts}
use Rattle.u_constraints.proofs.CoverLemmas.{all_more}
use Rattle.u_constraints.proofs.GrowthLemmas.{In-projected}

-- ---- the hull

pub hull_more : (at : ℕ) (rows : List Row) (i : ℕ) (x : Row) (hull ends : Span) (low high : ℤ) → x ≡ get_or rows i x → i < length rows → All (LiesWithin at hull) (take i rows) → ends ≡ span_in at x
    → low ≡ int_min hull.0 ends.0 → high ≡ int_max hull.1 ends.1 → All (LiesWithin at (low, high)) (take (i + 1) rows)
hull_more at rows i x hull ends low high is l all own least greatest =
    let wider : All (LiesWithin at (low, high)) (take i rows) = All-In (LiesWithin at (low, high)) (take i rows) (λ y m.
    let w = in_all (LiesWithin at hull) (take i rows) all y m in
    let a = w.0 in
    let b = w.1 in
    (omega (arith, ints, clamps), omega (arith, ints, clamps))) in
    let here : LiesWithin at (low, high) x = subst (λ (s : Span). (low ≤ℤ s.0) × (s.1 ≤ℤ high)) own (omega (arith, ints, clamps), omega (arith, ints, clamps)) in
    all_more (LiesWithin at (low, high)) rows i x is l wider here

-- ---- one row more

module _ (positions : List ℕ) (at : ℕ) (hull : Span) (keys : List Row) where
  abbrev keeps : Row → Bool
  keeps x = are_beside (span_in at x) hull && has row_cmp keys (part_of positions x)

  module _ (rows : List Row) (i : ℕ) (l : i < length rows) (before now : List Row) (so_far : before ≡ beside_with_keys positions at hull keys (take i rows)) where
    pub kept_more : (x : Row) → x ≡ get_or rows i x → now ≡ before ++ (if are_beside (span_in at x) hull && has row_cmp keys (part_of positions x) then x ∷ [] else []) → now ≡ beside_with_keys positions at hull keys (take (i + 1) rows)
    kept_more x is more =
        more
        ∙ (ap (λ (b : List Row). b ++ (if keeps x then x ∷ [] else [])) so_far
        ∙ (ap (λ z. filter keeps (take i rows) ++ (if keeps z then z ∷ [] else [])) is ∙ sym (filter_more keeps rows i x l)))

    -- a row whose hash is not sought has none of the keys
    pub left_out : (hashes sought : List ℕ) (b : Bool) → hashes ≡ map (hash_of positions) rows → sought ≡ map row_hash keys → (has nat_cmp sought (get_or hashes i 0) ≡ true → b ≡ true) → b ≡ false → now ≡ before
        → now ≡ beside_with_keys positions at hull keys (take (i + 1) rows)
    left_out hashes sought b are keyed told missing stays =
        let x : Row = get_or rows i [] in
        let hash : get_or hashes i 0 ≡ hash_of positions x = ap (λ (ms : List ℕ). get_or ms i 0) are ∙ get_or-map (hash_of positions) rows i [] 0 l in
        let never : has row_cmp keys (part_of positions x) ≡ true → ⊥ = λ e.
        let key : In (part_of positions x) keys = (has-In row_cmp row_total row_separates keys (part_of positions x)).0 e in
        let one : In (hash_of positions x) (map row_hash keys) = (In-map row_hash (hash_of positions x) keys).1 (part_of positions x, key, refl) in
        let here : In (get_or hashes i 0) sought = subst (λ (h : ℕ). In h sought) (sym hash) (subst (λ (ms : List ℕ). In (hash_of positions x) ms) (sym keyed) one) in
        true≢false (sym (told ((has-In nat_cmp nat_cmp_total nat_cmp-IsAntisymmetric sought (get_or hashes i 0)).1 here)) ∙ missing) in
        let out : keeps x ≡ false = elim (keeps x) as (λ k. keeps x ≡ k → k ≡ false) [
          | true ↦ λ e. absurd (never (and_parts (are_beside (span_in at x) hull) (has row_cmp keys (part_of positions x)) e).1)
          | false ↦ λ e. refl
        ] refl in
        let none : filter keeps (take (i + 1) rows) ≡ filter keeps (take i rows) ++ [] =
        filter_more keeps rows i [] l ∙ ap (λ k. filter keeps (take i rows) ++ (if k then x ∷ [] else [])) out in
        stays ∙ (so_far ∙ sym (none ∙ append-nil (filter keeps (take i rows))))

-- ---- what is found

pub within_hull : (i j hull : Span) → IsTrue (are_beside i j) → hull.0 ≤ℤ j.0 → j.1 ≤ℤ hull.1 → IsTrue (are_beside i hull)
within_hull i j hull t low high =
    let w = beside_parts i j t in
    let a = w.0 in
    let b = w.1 in
    beside_from i hull (omega (arith, ints)) (omega (arith, ints))

pub found_beside : (positions : List ℕ) (at : ℕ) (hull : Span) (few given many keys found : List Row) → given ≡ few → keys ≡ projected positions few → All (LiesWithin at hull) given → found ≡ beside_with_keys positions at hull keys many
    → AreBeside positions at few many found
found_beside positions at hull few given many keys found same parts within is =
    let keep : Row → Bool = λ x. are_beside (span_in at x) hull && has row_cmp keys (part_of positions x) in
    let lies : All (LiesWithin at hull) few = subst (λ (rs : List Row). All (LiesWithin at hull) rs) same within in
    subst (λ (rs : List Row). AreBeside positions at few many rs) (sym is) (record {
      within = λ x m. (among_in x many).1 ((In-filter keep x many).0 ((among_in x (filter keep many)).0 m)).0;
      each = λ x y m n e near.
          let w = in_all (LiesWithin at hull) few lies y ((among_in y few).0 n) in
          let part : In (part_of positions x) keys = subst (λ (ks : List Row). In (part_of positions x) ks) (sym parts) ((In-projected positions few (part_of positions x)).1 (y, (among_in y few).0 n, e)) in
          (among_in x (filter keep many)).1 ((In-filter keep x many).1 (
            (among_in x many).0 m,
            and_from (are_beside (span_in at x) hull) (has row_cmp keys (part_of positions x)) (within_hull (span_in at x) (span_in at y) hull near w.0 w.1)
                ((has-In row_cmp row_total row_separates keys (part_of positions x)).1 part),
          ));
    })

-- all that are touched are found, whether they are beside or not
pub touched_beside : (positions : List ℕ) (at : ℕ) (few many found : List Row) → found ≡ touched positions few many → AreBeside positions at few many found
touched_beside positions at few many found is =
    let keep : Row → Bool = λ x. has row_cmp (projected positions few) (part_of positions x) in
    subst (λ (rs : List Row). AreBeside positions at few many rs) (sym is) (record {
      within = λ x m. (among_in x many).1 ((In-filter keep x many).0 ((among_in x (filter keep many)).0 m)).0;
      each = λ x y m n e near.
          (among_in x (filter keep many)).1 ((In-filter keep x many).1 (
            (among_in x many).0 m,
            (has-In row_cmp row_total row_separates (projected positions few) (part_of positions x)).1 ((In-projected positions few (part_of positions x)).1 (y, (among_in y few).0 n, e)),
          ));
    })
