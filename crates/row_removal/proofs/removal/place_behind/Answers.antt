use Rattle.row_removal.proofs.CutLemmas.{place_found, place_missing}
use Rattle.row_removal.proofs.removal.place_behind.Goals as goal

pub returns-in-Ok : goal.returns-in-Ok
returns-in-Ok c =
    place_found c.args.rows.now c.split_at.result.1.now c.split_at-2.result.0.now c.args.row.now c.args.seen c.near_end.result c.split_at.ensures.back c.split_at-2.ensures.front c.requires.seen c.requires.rest
    c.near_end.ensures.behind c.in-Ok.at c.in-Ok.ensures.bound c.in-Ok.ensures.position

pub returns-in-Err : goal.returns-in-Err
returns-in-Err c =
    place_missing c.args.rows.now c.split_at.result.1.now c.split_at-2.result.0.now c.args.row.now c.args.seen c.near_end.result c.split_at.ensures.back c.split_at-2.ensures.front c.requires.seen c.requires.rest
    c.near_end.ensures.behind c.in-Err.at c.in-Err.ensures.bound c.in-Err.ensures.position
