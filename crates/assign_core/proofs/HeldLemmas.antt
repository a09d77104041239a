-- Rows that are held, among which others are put.
--     held_relation      there is a relation again afterwards
--     few_in, many_in      the rows are those after the exchange
use Rattle.std.proofs.Common.{◌≡◌, List, sym, subst, ◌∙◌, drop}
use Rattle.value_core.specs.Values.{Row, Relation, IsRelation}
use Rattle.value_core.proofs.PlacingLemmas.{grown_relation}
use Rattle.relation_core.specs.Operators.{subtracted, united}
use Rattle.u_constraints.specs.Growth.{exchanged}
use Rattle.change_rows.specs.declared.exchange.Exchange.{Exchange}
use Rattle.assign_core.specs.declared.room.Held.{Held}
use Rattle.assign_core.specs.Exchanges.{refilled, IsHeld}
use Rattle.assign_core.proofs.InTurnLemmas.{exchanged_apart}
use Rattle.row_removal.proofs.RemovalLemmas.{fewer_relation}

pub held_relation : (value : Relation) (h : Held) (x : Exchange) (rows : List Row) → IsHeld value h x → IsRelation x.come → rows ≡ exchanged (drop h.empty h.rows.items) x.gone.rows x.come.rows
    → IsRelation (record { heading = value.heading; rows = rows })
held_relation value h x rows k come is =
    subst (λ (rs : List Row). IsRelation (record { heading = value.heading; rows = rs })) (sym is)
    (fewer_relation (record { heading = value.heading; rows = united (drop h.empty h.rows.items) x.come.rows }) x.gone.rows (grown_relation (refilled h value) x.come k.relation come k.headed k.few))

pub few_in : (h : Held) (x : Exchange) (come gone left new : List Row) → drop h.empty h.rows.items ≡ h.rows.items → left ≡ subtracted come gone → come ≡ x.come.rows → gone ≡ x.gone.rows
    → new ≡ exchanged h.rows.items gone left → new ≡ exchanged (drop h.empty h.rows.items) x.gone.rows x.come.rows
few_in h x come gone left new whole apart into out is =
    is
    ∙ ((λ i. exchanged (sym whole i) gone (apart i))
    ∙ (exchanged_apart (drop h.empty h.rows.items) come gone
    ∙ (λ i. exchanged (drop h.empty h.rows.items) (out i) (into i))))

pub many_in : (h : Held) (x : Exchange) (come gone mid new : List Row) → mid ≡ united (drop h.empty h.rows.items) come → come ≡ x.come.rows → gone ≡ x.gone.rows → new ≡ subtracted mid gone
    → new ≡ exchanged (drop h.empty h.rows.items) x.gone.rows x.come.rows
many_in h x come gone mid new put into out is = is ∙ ((λ i. subtracted (put i) gone) ∙ (λ i. exchanged (drop h.empty h.rows.items) (out i) (into i)))
