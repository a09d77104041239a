use Rattle.std.proofs.Common.{◌≡◌, ◌<◌, ℕ, true, None, List, length, Option, Bor, option_map, sym, ap, ◌∙◌, subst, nat_eq}
use Rattle.std.specs.Cmp.Lexicographic.{pointwise}
use Rattle.value_core.specs.Attributes.{among}
use Rattle.value_core.specs.RowPacking.{packed}
use Rattle.value_core.specs.declared.constraint.Constraint.{Constraint}
use Rattle.value_core.specs.Values.{Row, Heading, Relation}
use Rattle.meaning_core.proofs.IntervalLemmas.{intervals_of_list}
use Rattle.meaning_core.specs.WellMade.{FitsHeadings}
use Rattle.u_constraints.specs.Constraints.{broken, names_relvar}
use Rattle.u_constraints.specs.Growth.{exchanged}
use Rattle.assign_core.specs.Checks.{heading_at}
use Rattle.assign_core.specs.Turnovers.{before_turnover, ArePackedIf}
use Rattle.assign_core.proofs.ToldLemmas.{packed_told, key_told}
use Rattle.assign_core.proofs.turnover.is_told.Goals as goal

pub returns-in-Some-Packed : goal.returns-in-Some-Packed
returns-in-Some-Packed c told others =
    let t = c.args.turnover in
    let value = c.args.of.now in
    let come = t.rows.now.come in
    let gone : List Row = t.rows.now.gone.rows in
    let commalist : List ℕ = c.in-Some-Packed.commalist.now in
    let there : packed commalist (exchanged t.value.now.rows gone come.rows) ≡ exchanged t.value.now.rows gone come.rows =
    subst (λ (o : Option (Bor (List ℕ))). ArePackedIf (option_map (λ l. l.now) o) (exchanged t.value.now.rows gone come.rows)) c.in-Some-Packed.is-0 c.requires.known.packed in
    let are = subst (λ (r : Relation). packed commalist (exchanged r.rows gone come.rows) ≡ exchanged r.rows gone come.rows) (sym c.requires.own) there in
    let heading : come.heading ≡ value.heading = c.requires.turnover.come ∙ ap (λ (r : Relation). r.heading) (sym c.requires.own) in
    let same : pointwise nat_eq c.in-Some-Packed.own commalist ≡ true = sym c.are_same.ensures ∙ told in
    subst (λ (k : Constraint). broken k (exchanged value.rows gone come.rows) others ≡ None) (sym c.in-Some-Packed.is-1)
    (packed_told value come gone c.heading.ensures.relation c.rows-come.ensures.relation heading c.in-Some-Packed.own commalist others same are)

pub returns-then-are_same : goal.returns-then-are_same
returns-then-are_same c told others =
    let t = c.args.turnover in
    let value = c.args.of.now in
    let come = t.rows.now.come in
    let gone : List Row = t.rows.now.gone.rows in
    let commalist : List ℕ = c.in-Some-UKey.commalist.now in
    let own = c.in-Some-UKey.own in
    let key = c.in-Some-UKey.key in
    let there : packed commalist (exchanged t.value.now.rows gone come.rows) ≡ exchanged t.value.now.rows gone come.rows =
    subst (λ (o : Option (Bor (List ℕ))). ArePackedIf (option_map (λ l. l.now) o) (exchanged t.value.now.rows gone come.rows)) c.in-Some-UKey.is-0 c.requires.known.packed in
    let are = subst (λ (r : Relation). packed commalist (exchanged r.rows gone come.rows) ≡ exchanged r.rows gone come.rows) (sym c.requires.own) there in
    let heading : come.heading ≡ value.heading = c.requires.turnover.come ∙ ap (λ (r : Relation). r.heading) (sym c.requires.own) in
    let same : pointwise nat_eq own commalist ≡ true = sym c.are_same-in-Some-UKey.ensures ∙ c.if-are_same.true in
    let fits = subst (λ (k : Constraint). FitsHeadings value.heading (heading_at (before_turnover t) (names_relvar c.args.constraint.now)) k) c.in-Some-UKey.is-1 c.requires.checked.fits in
    let all : (i : ℕ) → i < length value.heading → among key i ≡ true = λ i below.
    subst (λ (l : List ℕ). among l i ≡ true) (c.as_slice.ensures.value ∙ c.key.view_is)
    (c.are_all.ensures told i (subst (λ (h : Heading). i < length h) (sym (c.attributes-many.ensures.list ∙ c.heading.ensures.heading)) below)) in
    subst (λ (k : Constraint). broken k (exchanged value.rows gone come.rows) others ≡ None) (sym c.in-Some-UKey.is-1)
    (key_told value come gone c.heading.ensures.relation c.rows-come.ensures.relation heading own commalist key others (intervals_of_list value.heading own fits.0) same are all)
