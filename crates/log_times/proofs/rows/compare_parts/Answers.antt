use Rattle.std.proofs.Common.{rules, ◌≡◌, true, false, drop, ap, ◌∙◌}
use Rattle.std.specs.Ordering.{is_eq}
use Rattle.log_times.proofs.RowLemmas.{front_decides, back_decides, drop_one}
use Rattle.log_times.proofs.rows.compare_parts.Goals as goal

pub returns-then-not-is_eq : goal.returns-then-not-is_eq
returns-then-not-is_eq c =
    let other : is_eq c.cmp-order.result ≡ false = search rules in
    front_decides c.args.side c.args.key.now c.args.row.now _ _ c.cmp-order.result c.requires.within c.split_at.ensures.front c.split_at-2.ensures.front c.cmp-order.ensures other

pub returns : goal.returns
returns c =
    let same : is_eq c.cmp-order.result ≡ true = search rules in
    back_decides c.args.side c.args.key.now c.args.row.now _ _ _ _ c.cmp-order.result c.cmp.result c.requires.within c.split_at.ensures.front c.split_at-2.ensures.front c.cmp-order.ensures same c.split_at.ensures.back
    (c.split_at-3.ensures.back ∙ (ap (drop 1) c.split_at-2.ensures.back ∙ drop_one c.args.side c.args.row.now)) c.cmp.ensures
