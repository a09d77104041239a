-- What items ask for.
use Rattle.std.specs.Prelude.{◌≡◌, ◌⊎◌, List, [], ◌∷◌, map, Result, Ok, Err, Vec, IfOk}
use Rattle.std.specs.Global.{Global}
use Rattle.std.specs.List.{All}
use Rattle.std.proofs.Common.{inl, inr, sym, subst}
use Rattle.std.proofs.lemmas.List.Elements.{All-nil, All-head, All-tail, All-cons}
use Rattle.point_core.specs.declared.memory.Memory.{Memory}
use Rattle.tree_core.specs.Items.{PlainItemForm, set_to, insert, delete, delete_rows, update, terminate, PlainItem, read_item, read_assignment}
use Rattle.tree_core.specs.Relvars.{State}
use Rattle.tree_core.specs.declared.declaration.Assignment.{Assignment}
use Rattle.tree_core.specs.declared.item.Item.{Item}
use Rattle.meaning_core.specs.Updates.{IsTypedItem, IsTypedAssignment}
use Rattle.meaning_core.specs.WellMade.{IsWellMade}
use Rattle.update_core.specs.Endings.{meant_by}
use Rattle.update_core.specs.Updates.{IsExpandable}
use Rattle.update_core.proofs.EndingLemmas.{expanded-meant}
use Rattle.update_core.proofs.TypedLemmas.{expanded-typed}
use Rattle.since_during.specs.Joinable.{IsEndingForm}
use Rattle.since_during.proofs.EndedLemmas.{ended-typed}

-- ---- one item

-- what ends facts, and what does not
ends-or-not : (form : PlainItemForm) → IsExpandable form ⊎ IsEndingForm form
ends-or-not (set_to t) = inl tt
ends-or-not (insert commalist t) = inl tt
ends-or-not (delete commalist t) = inl tt
ends-or-not (delete_rows change) = inl tt
ends-or-not (update change sets) = inl tt
ends-or-not (terminate at place condition) = inr tt

meant-typed : (s : State) (item : PlainItem) → IsWellMade s → IsTypedItem s item → All (IsTypedAssignment s) (meant_by s.relvars item)
meant-typed s item made is = elim (ends-or-not item.form) [
  | inl other ↦ subst (All (IsTypedAssignment s)) (sym (expanded-meant s.relvars item other)) (expanded-typed s item made other is)
  | inr ending ↦ ended-typed s item made ending is
]

pub item-typed : (s : State) (item : Item) (answer : Result (Vec Assignment Global) Memory) → IsWellMade s → IsTypedItem s (read_item item)
    → IfOk answer (λ v. map read_assignment v.items ≡ meant_by s.relvars (read_item item)) → IfOk answer (λ v. All (IsTypedAssignment s) (map read_assignment v.items))
item-typed s item (Ok v) made is e = subst (All (IsTypedAssignment s)) (sym e) (meant-typed s (read_item item) made is)
item-typed s item (Err memory) made is e = tt

-- ---- all items

pub each-typed : (s : State) (items : List Item) → All (IsTypedItem s) (map read_item items) → All (λ (i : Item). IsTypedItem s (read_item i)) items
each-typed s [] h = All-nil (λ (i : Item). IsTypedItem s (read_item i))
each-typed s (i ∷ items) h =
    All-cons (λ (i : Item). IsTypedItem s (read_item i)) i items (All-head (IsTypedItem s) (read_item i) (map read_item items) h)
    (each-typed s items (All-tail (IsTypedItem s) (read_item i) (map read_item items) h))
