-- The rows near others: those with their values at positions.
--     sought_too      a row with one of the keys has one of their hashes
--     near_enough      of the rows that are referred to, those with values of some row that refers
--     asked_enough      of the rows that refer, those that may have lost what they refer to
use Rattle.std.proofs.Common.{◌≡◌, ◌↔◌, ◌⊎◌, inl, inr, ℕ, suc, ◌<◌, nat_eq, true, false, not, List, [], ◌∷◌, length, map, if◌then◌else◌, refl, sym, ap, ◌∙◌, subst, ◌≤◌, arith}
use Rattle.std.specs.Bool.{IsTrue}
use Rattle.std.specs.Cmp.{nat_cmp_total}
use Rattle.std.specs.FinMap.{nat_cmp-IsAntisymmetric}
use Rattle.std.specs.List.{All, IsDistinct}
use Rattle.std.specs.Ordering.{nat_cmp}
use Rattle.std.proofs.lemmas.Bool.{true≢false, not-true}
use Rattle.base_core.specs.Sets.{has, in_order, is_within}
use Rattle.base_core.proofs.ListLemmas.{All-In}
use Rattle.base_core.proofs.MemberLemmas.{In-map, In-filter, has-In}
use Rattle.base_core.proofs.SetLemmas.{In, In-in_order}
use Rattle.base_core.proofs.SetOperatorLemmas.{same_tests, is_within-In}
use Rattle.value_core.specs.Attributes.{among}
use Rattle.value_core.specs.Order.{row_total, row_separates}
use Rattle.value_core.specs.RowPacking.{attribute, unpacked}
use Rattle.value_core.specs.Values.{Row, Heading, row_cmp}
use Rattle.relation_core.specs.Agreement.{part_of}
use Rattle.relation_core.specs.Hashes.{hash_of, row_hash}
use Rattle.relation_core.specs.Parts.{kind_at, projected}
use Rattle.relation_core.proofs.FilterLemmas.{length-filter_at_most}
use Rattle.meaning_core.specs.WellMade.{AreAlike, AreAmong}
use Rattle.u_row.specs.Kept.{unlisted}
use Rattle.u_row.proofs.BeneathLemmas.{in_all, in_among}
use Rattle.u_constraints.specs.Constraints.{counterpart, is_referenced}
use Rattle.u_constraints.specs.Near.{with_keys}
use Rattle.u_constraints.proofs.AgreementLemmas.{rest_agrees}
use Rattle.u_constraints.proofs.CounterpartLemmas.{Beside, beside_kinds, beside_more, are_listed}
use Rattle.u_constraints.proofs.GrownKeyLemmas.{rows_keep}
use Rattle.u_constraints.proofs.OpenedLemmas.{Opens, in_unpack, opens_keeps}
use Rattle.u_constraints.proofs.SearchLemmas.{part_length}

-- ---- hashes of the keys

pub sought_too : (positions : List ℕ) (keys : List Row) (sought : List ℕ) → sought ≡ in_order nat_cmp (map row_hash keys) → (x : Row)
    → IsTrue (has row_cmp keys (part_of positions x)) → IsTrue (has nat_cmp sought (hash_of positions x))
sought_too positions keys sought hashes x h =
    let key : In (part_of positions x) keys = (has-In row_cmp row_total row_separates keys (part_of positions x)).0 h in
    let one : In (hash_of positions x) (map row_hash keys) = (In-map row_hash (hash_of positions x) keys).1 (part_of positions x, key, refl) in
    let found : In (hash_of positions x) sought =
    subst (λ (ms : List ℕ). In (hash_of positions x) ms) (sym hashes) ((In-in_order nat_cmp nat_cmp_total nat_cmp-IsAntisymmetric (hash_of positions x) (map row_hash keys)).1 one) in
    (has-In nat_cmp nat_cmp_total nat_cmp-IsAntisymmetric sought (hash_of positions x)).1 found

-- ---- parts

pub in_parts : (positions : List ℕ) (rows : List Row) (z : Row) → In z (projected positions rows) ↔ ((x : Row) × In x rows × (z ≡ part_of positions x))
in_parts positions rows z =
    let set = In-in_order row_cmp row_total row_separates z (map (part_of positions) rows) in
    let all = In-map (part_of positions) z rows in
    (λ i. all.0 (set.0 i), λ w. set.1 (all.1 w))

unlisted_apart : (commalist positions : List ℕ) (i : ℕ) → In i (unlisted commalist positions) → In i commalist → ⊥
unlisted_apart commalist positions i m n =
    true≢false (sym (in_among commalist i n) ∙ not-true (among commalist i) ((In-filter (λ j. not (among commalist j)) i positions).0 m).1)

pub unlisted_within : (many : ℕ) (commalist positions : List ℕ) → All (λ (i : ℕ). i < many) positions → All (λ (i : ℕ). i < many) (unlisted commalist positions)
unlisted_within many commalist positions within =
    All-In (λ (i : ℕ). i < many) (unlisted commalist positions) (λ i m. in_all (λ (i : ℕ). i < many) positions within i ((In-filter (λ j. not (among commalist j)) i positions).0 m).0)

-- as many are not unpacked here as there
same_many : (a b is ts : List ℕ) → Beside (λ i t. among a i ≡ among b t) is ts → length (unlisted a is) ≡ length (unlisted b ts)
same_many a b [] [] h = refl
same_many a b [] (t ∷ ts) h = absurd h
same_many a b (i ∷ is) [] h = absurd h
same_many a b (i ∷ is) (t ∷ ts) h =
    let more = same_many a b is ts h.1 in
    ap (λ c. length (if not c then i ∷ unlisted a is else unlisted a is)) h.0
    ∙ (elim (among b t) as (λ c. length (if not c then i ∷ unlisted a is else unlisted a is) ≡ length (if not c then t ∷ unlisted b ts else unlisted b ts)) [
      | true ↦ more
      | false ↦ ap suc more
    ])

-- parts have a value for each of as many positions
pub long_keys : (positions others : List ℕ) (rows keys : List Row) → length positions ≡ length others → keys ≡ projected positions rows → All (λ (k : Row). length k ≡ length others) keys
long_keys positions others rows keys many are =
    All-In (λ (k : Row). length k ≡ length others) keys (λ k i. part_length positions k rows (subst (λ (zs : List Row). In k zs) are i) ∙ many)

-- an unpacked row has the values of its row at what is not unpacked
opened : (commalist positions : List ℕ) (x y : Row) → Opens (map attribute commalist) x y → part_of (unlisted commalist positions) y ≡ part_of (unlisted commalist positions) x
opened commalist positions x y w =
    opens_keeps (part_of (unlisted commalist positions)) (map attribute commalist) (rows_keep commalist (unlisted commalist positions) (unlisted_apart commalist positions)) x y w

from_rows : (commalist : List ℕ) (rows : List Row) (y : Row) → In y (unpacked commalist rows) ↔ ((x : Row) × In x rows × Opens (map attribute commalist) x y)
from_rows commalist rows y = in_unpack row_cmp row_total row_separates (map attribute commalist) rows y

module _ (h g : Heading) (here there commalist : List ℕ) (alike : AreAlike h here g there) (lies : AreAmong here commalist) (d : IsDistinct nat_eq here) (d' : IsDistinct nat_eq there) where
  abbrev pub back : List ℕ
  back = map (counterpart here there) commalist

  -- the positions that are not unpacked
  abbrev own : List ℕ
  own = unlisted commalist here

  abbrev theirs : List ℕ
  theirs = unlisted back there

  pub own_many : length own ≡ length theirs
  own_many =
      same_many commalist back here there (are_listed here there commalist lies d d' (beside_more (λ i t. kind_at h i ≡ kind_at g t) (λ i t. Unit {0}) (λ i t e. tt) here there (beside_kinds h g here there alike)))

  -- each unpacked row agrees with one of the others
  abbrev pub Refer : List Row → List Row → Type 0
  Refer rows others = (x : Row) → In x (unpacked commalist rows) → (y : Row) × In y (unpacked back others) × (part_of here x ≡ part_of there y)

  pub refers : (rows others : List Row) → IsTrue (is_referenced commalist here there rows others) ↔ Refer rows others
  refers rows others =
      let within = is_within-In row_cmp row_total row_separates (projected here (unpacked commalist rows)) (projected there (unpacked back others)) in (
        λ t x i. (in_parts there (unpacked back others) (part_of here x)).0 (within.0 t (part_of here x) ((in_parts here (unpacked commalist rows) (part_of here x)).1 (x, i, refl))),
        λ r. within.1 (λ z i.
            let w = (in_parts here (unpacked commalist rows) z).0 i in
            let v = r w.0 w.1 in
            (in_parts there (unpacked back others) z).1 (v.0, v.1, w.2 ∙ v.2)),
      )

  -- rows of which unpacked ones agree have the same values at what is not unpacked
  rest_of : (r x s y : Row) → Opens (map attribute commalist) r x → Opens (map attribute back) s y → part_of here x ≡ part_of there y → part_of own r ≡ part_of theirs s
  rest_of r x s y a b e = sym (opened commalist here r x a) ∙ (rest_agrees h g here there commalist alike lies d d' x y e ∙ opened back there s y b)

  more_others : (rows few all : List Row) → ((s : Row) → In s few → In s all) → Refer rows few → Refer rows all
  more_others rows few all within r x i =
      let w = r x i in
      let s = (from_rows back few w.0).0 w.1 in
      (w.0, (from_rows back all w.0).1 (s.0, within s.0 s.1, s.2), w.2)

  -- of the rows that are referred to those tell that have the values of a row that refers
  pub near_enough : (rows few all : List Row) → ((s : Row) → In s few → In s all) → ((r s : Row) → In r rows → In s all → part_of own r ≡ part_of theirs s → In s few)
      → is_referenced commalist here there rows few ≡ is_referenced commalist here there rows all
  near_enough rows few all within each =
      same_tests _ _ (
        λ t. (refers rows all).1 (more_others rows few all within ((refers rows few).0 t)),
        λ t. (refers rows few).1 (λ x i.
            let r = (from_rows commalist rows x).0 i in
            let w = (refers rows all).0 t x i in
            let s = (from_rows back all w.0).0 w.1 in
            let near : In s.0 few = each r.0 s.0 r.1 s.1 (rest_of r.0 x s.0 w.0 r.2 s.2 w.2) in
            (w.0, (from_rows back few w.0).1 (s.0, near, s.2), w.2)),
      )

  -- and of the rows that refer those whose rows may be gone
  pub asked_enough : (of asked old all : List Row) → ((r : Row) → In r asked → In r of) → ((r s : Row) → In r of → In s old → part_of own r ≡ part_of theirs s → In r asked ⊎ In s all)
      → is_referenced commalist here there of old ≡ true → is_referenced commalist here there asked all ≡ is_referenced commalist here there of all
  asked_enough of asked old all within each held =
      same_tests _ _ (
        λ t. (refers of all).1 (λ x i.
            let r = (from_rows commalist of x).0 i in
            let w = (refers of old).0 held x i in
            let s = (from_rows back old w.0).0 w.1 in
            elim (each r.0 s.0 r.1 s.1 (rest_of r.0 x s.0 w.0 r.2 s.2 w.2)) [
              | inl a ↦ (refers asked all).0 t x ((from_rows commalist asked x).1 (r.0, a, r.2))
              | inr b ↦ (w.0, (from_rows back all w.0).1 (s.0, b, s.2), w.2)
            ]),
        λ t. (refers asked all).1 (λ x i.
            let r = (from_rows commalist asked x).0 i in
            (refers of all).0 t x ((from_rows commalist of x).1 (r.0, within r.0 r.1, r.2))),
      )

-- of the rows with one of the keys of the rows that refer
module _ (h g : Heading) (here there commalist : List ℕ) (alike : AreAlike h here g there) (lies : AreAmong here commalist) (d : IsDistinct nat_eq here) (d' : IsDistinct nat_eq there) where
  abbrev near : List Row → List Row → List Row
  near rows others = with_keys (unlisted (map (counterpart here there) commalist) there) (projected (unlisted commalist here) rows) others

  pub near_referred : (rows others : List Row) → is_referenced commalist here there rows (near rows others) ≡ is_referenced commalist here there rows others
  near_referred rows others =
      let positions = unlisted commalist here in
      let positions' = unlisted (map (counterpart here there) commalist) there in
      let kept : (s : Row) → In s (near rows others) ↔ (In s others × IsTrue (has row_cmp (projected positions rows) (part_of positions' s))) = λ s.
      In-filter (λ x. has row_cmp (projected positions rows) (part_of positions' x)) s others in
      near_enough h g here there commalist alike lies d d' rows (near rows others) others (λ s i. ((kept s).0 i).0) (λ r s i j e.
      (kept s).1 (j, (has-In row_cmp row_total row_separates (projected positions rows) (part_of positions' s)).1 ((in_parts positions rows (part_of positions' s)).1 (r, i, sym e))))

-- and of parts as they are
pub near_parts : (here there : List ℕ) (rows others : List Row)
    → is_within row_cmp (projected here rows) (projected there (with_keys there (projected here rows) others)) ≡ is_within row_cmp (projected here rows) (projected there others)
near_parts here there rows others =
    let kept = λ (s : Row). In-filter (λ x. has row_cmp (projected here rows) (part_of there x)) s others in
    let few = is_within-In row_cmp row_total row_separates (projected here rows) (projected there (with_keys there (projected here rows) others)) in
    let all = is_within-In row_cmp row_total row_separates (projected here rows) (projected there others) in
    same_tests _ _ (
      λ t. all.1 (λ z i.
          let w = (in_parts there (with_keys there (projected here rows) others) z).0 (few.0 t z i) in
          (in_parts there others z).1 (w.0, ((kept w.0).0 w.1).0, w.2)),
      λ t. few.1 (λ z i.
          let w = (in_parts there others z).0 (all.0 t z i) in
          let told = (has-In row_cmp row_total row_separates (projected here rows) (part_of there w.0)).1 (subst (λ (k : Row). In k (projected here rows)) w.2 i) in
          (in_parts there (with_keys there (projected here rows) others) z).1 (w.0, (kept w.0).1 (w.1, told), w.2)),
    )

pub near_fewer : (positions : List ℕ) (keys others near : List Row) → near ≡ with_keys positions keys others → length near ≤ length others
near_fewer positions keys others near is =
    let size = ap (λ (zs : List Row). length zs) is in
    let less = length-filter_at_most (λ x. has row_cmp keys (part_of positions x)) others in
    omega (arith, size, less)
