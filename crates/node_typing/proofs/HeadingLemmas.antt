-- The heading of a list of attributes is what their map comes to when each is put in turn.
use Rattle.std.specs.Prelude.{◌≡◌, Bool, true, false, not, ◌||◌, cond, [], ◌∷◌, ◌++◌, Option, Some, None, refl}
use Rattle.std.proofs.Common.{sym, ◌∙◌, ap, ap₂, subst, Less, Equal, Greater}
use Rattle.std.specs.BTreeMap.{insert_entry}
use Rattle.std.specs.Cmp.Lexicographic.{texts_ties, nat_list_cmp_total}
use Rattle.std.specs.List.{list_any}
use Rattle.std.specs.Ordering.{is_eq, match_ordering, ordering_reverse}
use Rattle.std.specs.Str.{bytes_eq}
use Rattle.std.proofs.lemmas.Cmp.{tied_itself}
use Rattle.base_core.specs.Sets.{placed, put, in_order}
use Rattle.base_core.proofs.SetLemmas.{AllAfter, Ascends}
use Rattle.base_core.proofs.OrderingLemmas.{is_eq-Equal}
use Rattle.value_core.proofs.HeadingLemmas.{attribute_total}
use Rattle.value_core.specs.declared.kind.Kind.{Kind}
use Rattle.value_core.specs.Values.{Name, Heading, attribute_cmp, name_cmp}
use Rattle.relation_core.specs.Agreement.{names_of}
use Rattle.relation_core.proofs.ApartLemmas.{ascends_in_order}
use Rattle.relation_core.proofs.AttributeLemmas.{name_is}
use Rattle.relation_core.proofs.HeadingLemmas.{put_first}
use Rattle.meaning_core.specs.Typing.{not_named}
use Rattle.relation_typing.specs.Attributes.{with_attribute}
use Rattle.node_typing.specs.Headings.{heading_of_list, made_beside, with_all}

-- ---- names that are one

abbrev is_at : Name → Name → Bool
is_at n m = is_eq (name_cmp n m)

one-name : (n m : Name) → is_at n m ≡ true → n ≡ m
one-name n m e = name_is n m (texts_ties n m ∙ e)

at-itself : (n : Name) → is_at n n ≡ true
at-itself n = ap is_eq (tied_itself nat_list_cmp_total n)

-- ---- what a list says of a name: first and last

abbrev kind_in : Name → Heading → Option Kind
kind_in n [] = None
kind_in n (a ∷ rest) = cond (is_at n a.0) (Some a.1) (kind_in n rest)

abbrev or_kind : Option Kind → Option Kind → Option Kind
or_kind None k = k
or_kind (Some j) k = Some j

abbrev last_in : Name → Heading → Option Kind
last_in n [] = None
last_in n (a ∷ rest) = or_kind (last_in n rest) (cond (is_at n a.0) (Some a.1) None)

or-none : (k : Option Kind) → or_kind k None ≡ k
or-none None = refl
or-none (Some k) = refl

or-or : (a b c : Option Kind) → or_kind (or_kind a b) c ≡ or_kind a (or_kind b c)
or-or None b c = refl
or-or (Some a) b c = refl

cond-or : (b : Bool) (k : Option Kind) (a : Kind) → or_kind (cond b (Some a) None) k ≡ cond b (Some a) k
cond-or true k a = refl
cond-or false k a = refl

-- a name before all others is none of them
not-after : (n m : Name) → name_cmp n m ≡ Less → is_at n m ≡ false
not-after n m e = rw e refl

none-after : (n : Name) (k : Kind) (h : Heading) → AllAfter attribute_cmp (n, k) h → kind_in n h ≡ None
none-after n k [] a = refl
none-after n k (b ∷ rest) a = rw (not-after n b.0 a.0) (none-after n k rest a.1)

-- ---- an attribute put into a set

module _ (n : Name) (x : Name × Kind) where
  in-less : (h : Heading) (b : Bool) → is_at n x.0 ≡ b → AllAfter attribute_cmp x h → cond b (Some x.1) (kind_in n h) ≡ or_kind (kind_in n h) (cond b (Some x.1) None)
  in-less h true e a =
      let same : n ≡ x.0 = one-name n x.0 e in
      let none : kind_in n h ≡ None = subst (λ m. kind_in m h ≡ None) (sym same) (none-after x.0 x.1 h a) in
      rw none refl
  in-less h false e a = sym (or-none (kind_in n h))

  in-equal : (y : Name × Kind) (h : Heading) (b : Bool) → is_at n x.0 ≡ b → name_cmp x.0 y.0 ≡ Equal → kind_in n (y ∷ h) ≡ or_kind (kind_in n (y ∷ h)) (cond b (Some x.1) None)
  in-equal y h true e f =
      let same : n ≡ x.0 = one-name n x.0 e in
      let there : is_at n y.0 ≡ true = subst (λ m. is_at m y.0 ≡ true) (sym same) (ap is_eq f) in
      rw there refl
  in-equal y h false e f = sym (or-none (kind_in n (y ∷ h)))

  in-greater : (y : Name × Kind) (k : Option Kind) (b : Bool) → cond b (Some y.1) (or_kind k (cond (is_at n x.0) (Some x.1) None)) ≡ or_kind (cond b (Some y.1) k) (cond (is_at n x.0) (Some x.1) None)
  in-greater y k true = refl
  in-greater y k false = refl

  kind_in-put : (h : Heading) → Ascends attribute_cmp h → kind_in n (put attribute_cmp x h) ≡ or_kind (kind_in n h) (cond (is_at n x.0) (Some x.1) None)
  kind_in-put [] up = refl
  kind_in-put (y ∷ h) up =
      (elim (attribute_cmp x y) as (λ r. attribute_cmp x y ≡ r → kind_in n (placed r x y h (put attribute_cmp x h)) ≡ or_kind (kind_in n (y ∷ h)) (cond (is_at n x.0) (Some x.1) None)) [
        | Less ↦ λ e. in-less (y ∷ h) (is_at n x.0) refl (e, before-all h y e up.0)
        | Equal ↦ λ e. in-equal y h (is_at n x.0) refl e
        | Greater ↦ λ e. ap (λ k. cond (is_at n y.0) (Some y.1) k) (kind_in-put h up.1) ∙ in-greater y (kind_in n h) (is_at n y.0)
      ]) refl
    where
      before-all : (h : Heading) (y : Name × Kind) → attribute_cmp x y ≡ Less → AllAfter attribute_cmp y h → AllAfter attribute_cmp x h
      before-all [] y e a = tt
      before-all (z ∷ h) y e a = (nat_list_cmp_total.trans x.0 y.0 z.0 e a.0, before-all h y e a.1)

kind_in-in_order : (n : Name) (list : Heading) → kind_in n (in_order attribute_cmp list) ≡ last_in n list
kind_in-in_order n [] = refl
kind_in-in_order n (x ∷ rest) =
    kind_in-put n x (in_order attribute_cmp rest) (ascends_in_order attribute_cmp attribute_total rest) ∙ ap (λ k. or_kind k (cond (is_at n x.0) (Some x.1) None)) (kind_in-in_order n rest)

-- ---- an attribute put into a map

same-order : (x y : Name × Kind) (h : Heading) → x.0 ≡ y.0 → AllAfter attribute_cmp x h → AllAfter attribute_cmp y h
same-order x y [] e a = tt
same-order x y (z ∷ h) e a = (subst (λ m. name_cmp m z.0 ≡ Less) e a.0, same-order x y h e a.1)

module _ (n k : Name) (v : Kind) where
  insert-equal : (e : Name × Kind) (h : Heading) (b c : Bool) → is_at n e.0 ≡ b → is_at n k ≡ c → name_cmp k e.0 ≡ Equal
      → cond b (Some v) (kind_in n h) ≡ cond c (Some v) (cond b (Some e.1) (kind_in n h))
  insert-equal e h true true f g r = refl
  insert-equal e h false false f g r = refl
  insert-equal e h true false f g r =
      let same : k ≡ e.0 = one-name k e.0 (ap is_eq r) in
      let there : is_at n k ≡ true = subst (λ m. is_at n m ≡ true) (sym same) f in
      absurd (cc)
  insert-equal e h false true f g r =
      let same : k ≡ e.0 = one-name k e.0 (ap is_eq r) in
      let there : is_at n e.0 ≡ true = subst (λ m. is_at n m ≡ true) same g in
      absurd (cc)

  insert-greater : (e : Name × Kind) (o : Option Kind) (b c : Bool) → is_at n e.0 ≡ b → is_at n k ≡ c → name_cmp k e.0 ≡ Greater
      → cond b (Some e.1) (cond c (Some v) o) ≡ cond c (Some v) (cond b (Some e.1) o)
  insert-greater e o true true f g r =
      let one : n ≡ e.0 = one-name n e.0 f in
      let two : n ≡ k = one-name n k g in
      let tied : name_cmp k e.0 ≡ Equal = subst (λ m. name_cmp m e.0 ≡ Equal) two (is_eq-Equal (name_cmp n e.0) f) in
      absurd (cc)
  insert-greater e o true false f g r = refl
  insert-greater e o false true f g r = refl
  insert-greater e o false false f g r = refl

  kind_in-insert : (h : Heading) → kind_in n (insert_entry name_cmp h k v) ≡ cond (is_at n k) (Some v) (kind_in n h)
  kind_in-insert [] = refl
  kind_in-insert (e ∷ h) =
      (elim (name_cmp k e.0) as (λ r. name_cmp k e.0 ≡ r →
      kind_in n (match_ordering r ((k, v) ∷ e ∷ h) ((e.0, v) ∷ h) (e ∷ insert_entry name_cmp h k v)) ≡ cond (is_at n k) (Some v) (kind_in n (e ∷ h))) [
        | Less ↦ λ r. refl
        | Equal ↦ λ r. insert-equal e h (is_at n e.0) (is_at n k) refl refl r
        | Greater ↦ λ r. ap (λ o. cond (is_at n e.0) (Some e.1) o) (kind_in-insert h) ∙ insert-greater e (kind_in n h) (is_at n e.0) (is_at n k) refl refl r
      ]) refl

-- ---- maps stay in order

behind-all : (x y : Name × Kind) (h : Heading) → attribute_cmp x y ≡ Less → AllAfter attribute_cmp y h → AllAfter attribute_cmp x h
behind-all x y [] e a = tt
behind-all x y (z ∷ h) e a = (attribute_total.trans x y z e a.0, behind-all x y h e a.1)

behind-insert : (x : Name × Kind) (k : Name) (v : Kind) (h : Heading) → name_cmp x.0 k ≡ Less → AllAfter attribute_cmp x h → AllAfter attribute_cmp x (insert_entry name_cmp h k v)
behind-insert x k v [] l a = (l, tt)
behind-insert x k v (e ∷ h) l a =
    elim (name_cmp k e.0) as (λ r. AllAfter attribute_cmp x (match_ordering r ((k, v) ∷ e ∷ h) ((e.0, v) ∷ h) (e ∷ insert_entry name_cmp h k v))) [
      | Less ↦ (l, a)
      | Equal ↦ (a.0, a.1)
      | Greater ↦ (a.0, behind-insert x k v h l a.1)
    ]

pub ascends-insert : (k : Name) (v : Kind) (h : Heading) → Ascends attribute_cmp h → Ascends attribute_cmp (insert_entry name_cmp h k v)
ascends-insert k v [] up = (tt, tt)
ascends-insert k v (e ∷ h) up =
    (elim (name_cmp k e.0) as (λ r. name_cmp k e.0 ≡ r → Ascends attribute_cmp (match_ordering r ((k, v) ∷ e ∷ h) ((e.0, v) ∷ h) (e ∷ insert_entry name_cmp h k v))) [
      | Less ↦ λ r. ((r, behind-all (k, v) e h r up.0), up)
      | Equal ↦ λ r. (same-order e (e.0, v) h refl up.0, up.1)
      | Greater ↦ λ r. (behind-insert e k v h (nat_list_cmp_total.antisymm e.0 k ∙ ap ordering_reverse r) up.0, ascends-insert k v h up.1)
    ]) refl

ascends-with_all : (before list : Heading) → Ascends attribute_cmp before → Ascends attribute_cmp (with_all before list)
ascends-with_all before [] up = up
ascends-with_all before (a ∷ rest) up = ascends-with_all (with_attribute before a.0 a.1) rest (ascends-insert a.0 a.1 before up)

or-cond : (b : Bool) (l k : Option Kind) (a : Kind) → or_kind l (cond b (Some a) k) ≡ or_kind (or_kind l (cond b (Some a) None)) k
or-cond b l k a = ap (or_kind l) (sym (cond-or b k a)) ∙ sym (or-or l (cond b (Some a) None) k)

kind_in-with_all : (n : Name) (before list : Heading) → kind_in n (with_all before list) ≡ or_kind (last_in n list) (kind_in n before)
kind_in-with_all n before [] = refl
kind_in-with_all n before (a ∷ rest) =
    kind_in-with_all n (with_attribute before a.0 a.1) rest ∙ (ap (or_kind (last_in n rest)) (kind_in-insert n a.0 a.1 before)
    ∙ or-cond (is_at n a.0) (last_in n rest) (kind_in n before) a.1)

-- ---- lists in order that say the same are one

some-kind : (j k : Kind) → Some j ≡ Some k → j ≡ k
some-kind j k e = cc

same-tail : (n : Name) (a : Name × Kind) (xs ys : Heading) (b : Bool) → is_at n a.0 ≡ b → AllAfter attribute_cmp a xs → AllAfter attribute_cmp a ys
    → cond b (Some a.1) (kind_in n xs) ≡ cond b (Some a.1) (kind_in n ys) → kind_in n xs ≡ kind_in n ys
same-tail n a xs ys true e up down h =
    let same : n ≡ a.0 = one-name n a.0 e in
    subst (λ m. kind_in m xs ≡ kind_in m ys) (sym same) (none-after a.0 a.1 xs up ∙ sym (none-after a.0 a.1 ys down))
same-tail n a xs ys false e up down h = h

-- the first of the one is not before the first of the other
not-before : (x y : Name × Kind) (xs ys : Heading) → AllAfter attribute_cmp y ys → kind_in x.0 (x ∷ xs) ≡ kind_in x.0 (y ∷ ys) → name_cmp x.0 y.0 ≡ Less → ⊥
not-before x y xs ys down h l =
    let here : kind_in x.0 (x ∷ xs) ≡ Some x.1 = ap (λ b. cond b (Some x.1) (kind_in x.0 xs)) (at-itself x.0) in
    let there : kind_in x.0 (y ∷ ys) ≡ None = none-after x.0 x.1 (y ∷ ys) (l, behind-all x y ys l down) in
    cc

kind-of-first : (x y : Name × Kind) (xs ys : Heading) → x.0 ≡ y.0 → kind_in x.0 (x ∷ xs) ≡ kind_in x.0 (y ∷ ys) → x ≡ y
kind-of-first x y xs ys e h =
    let here : kind_in x.0 (x ∷ xs) ≡ Some x.1 = ap (λ b. cond b (Some x.1) (kind_in x.0 xs)) (at-itself x.0) in
    let at : is_at x.0 y.0 ≡ true = subst (λ m. is_at x.0 m ≡ true) e (at-itself x.0) in
    let there : kind_in x.0 (y ∷ ys) ≡ Some y.1 = ap (λ b. cond b (Some y.1) (kind_in x.0 ys)) at in
    let kinds : x.1 ≡ y.1 = some-kind x.1 y.1 (sym here ∙ (h ∙ there)) in
    ap₂ (λ (m : Name) (k : Kind). (m, k)) e kinds

-- neither begins before the other
one-first : (x y : Name × Kind) (xs ys : Heading) → AllAfter attribute_cmp x xs → AllAfter attribute_cmp y ys → ((n : Name) → kind_in n (x ∷ xs) ≡ kind_in n (y ∷ ys)) → x ≡ y
one-first x y xs ys up down h =
    (elim (name_cmp x.0 y.0) as (λ r. name_cmp x.0 y.0 ≡ r → x ≡ y) [
      | Less ↦ λ r. absurd (not-before x y xs ys down (h x.0) r)
      | Equal ↦ λ r. kind-of-first x y xs ys (one-name x.0 y.0 (ap is_eq r)) (h x.0)
      | Greater ↦ λ r. absurd (not-before y x ys xs up (sym (h y.0)) (nat_list_cmp_total.antisymm y.0 x.0 ∙ ap ordering_reverse r))
    ]) refl

same-kinds : (xs ys : Heading) → Ascends attribute_cmp xs → Ascends attribute_cmp ys → ((n : Name) → kind_in n xs ≡ kind_in n ys) → xs ≡ ys
same-kinds [] [] up down h = refl
same-kinds [] (y ∷ ys) up down h = let e : None ≡ Some y.1 = h y.0 ∙ ap (λ b. cond b (Some y.1) (kind_in y.0 ys)) (at-itself y.0) in absurd (cc)
same-kinds (x ∷ xs) [] up down h = let e : None ≡ Some x.1 = sym (h x.0) ∙ ap (λ b. cond b (Some x.1) (kind_in x.0 xs)) (at-itself x.0) in absurd (cc)
same-kinds (x ∷ xs) (y ∷ ys) up down h =
    let first : x ≡ y = one-first x y xs ys up.0 down.0 h in
    let behind : AllAfter attribute_cmp x ys = subst (λ z. AllAfter attribute_cmp z ys) (sym first) down.0 in
    let rest = same-kinds xs ys up.1 down.1 (λ n. same-tail n x xs ys (is_at n x.0) refl up.0 behind (h n ∙ ap (λ (z : Name × Kind). cond (is_at n z.0) (Some z.1) (kind_in n ys)) (sym first))) in
    ap₂ (λ (z : Name × Kind) (zs : Heading). z ∷ zs) first rest

-- ---- two lists put in turn

last_in-append : (n : Name) (xs ys : Heading) → last_in n (xs ++ ys) ≡ or_kind (last_in n ys) (last_in n xs)
last_in-append n [] ys = sym (or-none (last_in n ys))
last_in-append n (x ∷ xs) ys =
    ap (λ k. or_kind k (cond (is_at n x.0) (Some x.1) None)) (last_in-append n xs ys) ∙ or-or (last_in n ys) (last_in n xs) (cond (is_at n x.0) (Some x.1) None)

pub with_both : (first second : Heading) → with_all (with_all [] first) second ≡ heading_of_list (first ++ second)
with_both first second =
    same-kinds (with_all (with_all [] first) second) (heading_of_list (first ++ second)) (ascends-with_all (with_all [] first) second (ascends-with_all [] first tt))
    (ascends_in_order attribute_cmp attribute_total (first ++ second)) (λ n.
    kind_in-with_all n (with_all [] first) second ∙ (ap (or_kind (last_in n second)) (kind_in-with_all n [] first ∙ or-none (last_in n first))
    ∙ (sym (last_in-append n first second) ∙ sym (kind_in-in_order n (first ++ second)))))

-- ---- made attributes beside old ones

abbrev is_named : Name → Heading → Bool
is_named n made = list_any (bytes_eq n) (names_of made)

abbrev there_is : Option Kind → Bool
there_is None = false
there_is (Some k) = true

there-or : (k : Option Kind) (b c : Bool) (a : Kind) → there_is k ≡ c → there_is (or_kind k (cond b (Some a) None)) ≡ (b || c)
there-or None true c a e = refl
there-or None false c a e = e
there-or (Some j) true c a e = refl
there-or (Some j) false c a e = e

named-last : (n : Name) (made : Heading) → there_is (last_in n made) ≡ is_named n made
named-last n [] = refl
named-last n (a ∷ rest) =
    there-or (last_in n rest) (is_at n a.0) (is_named n rest) a.1 (named-last n rest) ∙ ap (λ b. b || is_named n rest) (sym (texts_ties n a.0))

no-kind : (b : Bool) (k : Option Kind) → k ≡ None → k ≡ cond b None k
no-kind true k e = e
no-kind false k e = refl

module _ (n : Name) (made : Heading) where
  dropped : (a : Name × Kind) (k : Option Kind) (b c : Bool) → is_at n a.0 ≡ b → is_named n made ≡ c → is_named a.0 made ≡ true
      → cond c None k ≡ cond c None (or_kind k (cond b (Some a.1) None))
  dropped a k b true e f g = refl
  dropped a k false false e f g = sym (or-none k)
  dropped a k true false e f g =
      let same : n ≡ a.0 = one-name n a.0 e in
      let named : is_named n made ≡ true = subst (λ m. is_named m made ≡ true) (sym same) g in
      absurd (cc)

  left : (a : Name × Kind) (k : Option Kind) (b c : Bool) → is_at n a.0 ≡ b → is_named n made ≡ c → is_named a.0 made ≡ false
      → or_kind (cond c None k) (cond b (Some a.1) None) ≡ cond c None (or_kind k (cond b (Some a.1) None))
  left a k b false e f g = refl
  left a k false true e f g = refl
  left a k true true e f g =
      let same : n ≡ a.0 = one-name n a.0 e in
      let named : is_named n made ≡ false = subst (λ m. is_named m made ≡ false) (sym same) g in
      absurd (cc)

  last-others : (from : Heading) → last_in n (not_named (names_of made) from) ≡ cond (is_named n made) None (last_in n from)
  last-others [] = no-kind (is_named n made) None refl
  last-others (a ∷ rest) =
      (elim (is_named a.0 made) as (λ b. is_named a.0 made ≡ b →
      last_in n (cond (not b) (a ∷ not_named (names_of made) rest) (not_named (names_of made) rest)) ≡ cond (is_named n made) None (last_in n (a ∷ rest))) [
        | true ↦ λ e. last-others rest ∙ dropped a (last_in n rest) (is_at n a.0) (is_named n made) refl refl e
        | false ↦ λ e. ap (λ k. or_kind k (cond (is_at n a.0) (Some a.1) None)) (last-others rest) ∙ left a (last_in n rest) (is_at n a.0) (is_named n made) refl refl e
      ]) refl

  turned : (k old : Option Kind) (c : Bool) → there_is k ≡ c → or_kind k old ≡ or_kind (cond c None old) k
  turned None old c e = sym (ap (λ b. or_kind (cond b None old) None) (sym e) ∙ or-none old)
  turned (Some j) old c e = ap (λ b. or_kind (cond b None old) (Some j)) e

pub beside : (made from : Heading) → heading_of_list (from ++ made) ≡ made_beside made from
beside made from =
    same-kinds (heading_of_list (from ++ made)) (made_beside made from) (ascends_in_order attribute_cmp attribute_total (from ++ made))
    (ascends_in_order attribute_cmp attribute_total (made ++ not_named (names_of made) from)) (λ n.
    kind_in-in_order n (from ++ made) ∙ (last_in-append n from made
    ∙ (turned n made (last_in n made) (last_in n from) (is_named n made) (named-last n made)
    ∙ (ap (λ k. or_kind k (last_in n made)) (sym (last-others n made from))
    ∙ (sym (last_in-append n made (not_named (names_of made) from)) ∙ sym (kind_in-in_order n (made ++ not_named (names_of made) from)))))))

pub in-order-already : (h : Heading) → Ascends attribute_cmp h → heading_of_list h ≡ h
in-order-already [] up = refl
in-order-already (x ∷ h) up = ap (put attribute_cmp x) (in-order-already h up.1) ∙ put_first x h up.0
