-- The orders of boxes, of keys and of labels at places: each is total and tells its values apart; and maps that keep an order.
use Rattle.std.proofs.Common.{◌≡◌, List, [], ◌∷◌, map, refl, sym, ap, ◌∙◌, Ordering}
use Rattle.std.specs.declared.cmp.Ordering.TheVariants.{Less, Equal, Greater}
use Rattle.std.specs.List.{AllByRecursion}
use Rattle.std.specs.Ordering.{int_cmp, nat_cmp, ordering_then}
use Rattle.std.specs.Cmp.{IsTotalOrder}
use Rattle.std.specs.Cmp.Lexicographic.{slice_cmp}
use Rattle.std.proofs.lemmas.Cmp.{then_total, on_total, lists_total, int_cmp_total, int_ranked, ranked, tied_itself}
use Rattle.base_core.specs.Sets.{placed, put, in_order}
use Rattle.base_core.proofs.SetLemmas.{Separates}
use Rattle.point_core.proofs.OrderLemmas.{then_same}
use Rattle.interval_core.specs.Members.{Span}
use Rattle.cell_packing.specs.Boxed.{Boxed, boxed_cmp, span_cmp}
use Rattle.cell_sweep.specs.Rows.{key_cmp, pair_cmp}
use Rattle.cell_core.specs.GridPoints.{Placed, placed_cmp}

-- pairs and lists that tie are equal, where their parts are
then_separates : {X Y : Type 0} {one : X → X → Ordering} {two : Y → Y → Ordering} → Separates one → Separates two → (x y : X × Y) → ordering_then (one x.0 y.0) (two x.1 y.1) ≡ Equal → x ≡ y
then_separates {one = one} {two = two} f g x y e =
    let h = then_same (one x.0 y.0) (two x.1 y.1) e in
    let p = f x.0 y.0 h.0 in
    let q = g x.1 y.1 h.1 in
    λ i. (p i, q i)

pub list_separates : {X : Type 0} {cmp : X → X → Ordering} → Separates cmp → Separates (slice_cmp cmp)
list_separates same [] [] e = refl
list_separates same [] (y ∷ b) e = cc
list_separates same (x ∷ a) [] e = cc
list_separates {cmp = cmp} same (x ∷ a) (y ∷ b) e =
    let h = then_same (cmp x y) (slice_cmp cmp a b) e in
    let p = same x y h.0 in
    let q = list_separates same a b h.1 in
    λ i. p i ∷ q i

int_separates : Separates int_cmp
int_separates a b e = int_ranked a b Equal (sym e)

pub nat_separates : Separates nat_cmp
nat_separates a b e = ranked a b Equal (sym e)

span_separates : Separates span_cmp
span_separates a b e = then_separates int_separates int_separates a b e

pub pair_separates : Separates pair_cmp
pair_separates a b e = then_separates nat_separates nat_separates a b e

module _ {P : Type 0} {order : P → P → Ordering} where
  pub boxed_total : IsTotalOrder order → IsTotalOrder (boxed_cmp order)
  boxed_total o =
      let spans : IsTotalOrder span_cmp = then_total (on_total (λ (s : Span). s.0) int_cmp_total) (on_total (λ (s : Span). s.1) int_cmp_total) in
      then_total (on_total (λ (x : Boxed P). x.0) o) (on_total (λ (x : Boxed P). x.1) (lists_total spans))

  pub boxed_separates : Separates order → Separates (boxed_cmp order)
  boxed_separates same x y e = then_separates same (list_separates span_separates) x y e

  pub key_separates : Separates order → Separates (key_cmp order)
  key_separates same x y e = then_separates same (list_separates pair_separates) x y e

  pub placed_total : IsTotalOrder order → IsTotalOrder (placed_cmp order)
  placed_total o = then_total (on_total (λ (x : Placed P). x.0) o) (on_total (λ (x : Placed P). x.1) (lists_total int_cmp_total))

  pub placed_separates : Separates order → Separates (placed_cmp order)
  placed_separates same x y e = then_separates same (list_separates int_separates) x y e

-- ---- a map that keeps the order

module _ {X Y : Type 0} (cmp : X → X → Ordering) (cmp' : Y → Y → Ordering) (f : X → Y) (Q : X → Type 0) (keeps : (x y : X) → Q x → Q y → cmp' (f x) (f y) ≡ cmp x y) where
  map_placed : (r : Ordering) (x y : X) (ys more : List X) → map f (placed r x y ys more) ≡ placed r (f x) (f y) (map f ys) (map f more)
  map_placed Less x y ys more = refl
  map_placed Equal x y ys more = refl
  map_placed Greater x y ys more = refl

  all_placed : (r : Ordering) (x y : X) (ys more : List X) → Q x → Q y → AllByRecursion Q ys → AllByRecursion Q more → AllByRecursion Q (placed r x y ys more)
  all_placed Less x y ys more a b h g = (a, (b, h))
  all_placed Equal x y ys more a b h g = (b, h)
  all_placed Greater x y ys more a b h g = (b, g)

  all_put : (x : X) (ys : List X) → Q x → AllByRecursion Q ys → AllByRecursion Q (put cmp x ys)
  all_put x [] q h = (q, tt)
  all_put x (y ∷ ys) q h = all_placed (cmp x y) x y ys (put cmp x ys) q h.0 h.1 (all_put x ys q h.1)

  map_put : (x : X) (ys : List X) → Q x → AllByRecursion Q ys → map f (put cmp x ys) ≡ put cmp' (f x) (map f ys)
  map_put x [] q h = refl
  map_put x (y ∷ ys) q h =
      let e = sym (keeps x y q h.0) in
      let ih = map_put x ys q h.1 in
      map_placed (cmp x y) x y ys (put cmp x ys) ∙ (λ i. placed (e i) (f x) (f y) (map f ys) (ih i))

  pub all_in_order : (xs : List X) → AllByRecursion Q xs → AllByRecursion Q (in_order cmp xs)
  all_in_order [] h = tt
  all_in_order (x ∷ xs) h = all_put x (in_order cmp xs) h.0 (all_in_order xs h.1)

  pub map_in_order : (xs : List X) → AllByRecursion Q xs → map f (in_order cmp xs) ≡ in_order cmp' (map f xs)
  map_in_order [] h = refl
  map_in_order (x ∷ xs) h = map_put x (in_order cmp xs) h.0 (all_in_order xs h.1) ∙ ap (put cmp' (f x)) (map_in_order xs h.1)

  pub one_from : IsTotalOrder cmp' → Separates cmp → (xs ys : List X) → AllByRecursion Q xs → AllByRecursion Q ys → map f xs ≡ map f ys → xs ≡ ys
  one_from o same [] [] h g e = refl
  one_from o same [] (y ∷ ys) h g e = cc
  one_from o same (x ∷ xs) [] h g e = cc
  one_from o same (x ∷ xs) (y ∷ ys) h g e =
      let a : f x ≡ f y = cc in
      let b : map f xs ≡ map f ys = cc in
      let p : x ≡ y = same x y (sym (keeps x y h.0 g.0) ∙ ap (cmp' (f x)) (sym a) ∙ tied_itself o (f x)) in
      let q = one_from o same xs ys h.1 g.1 b in
      λ i. p i ∷ q i
