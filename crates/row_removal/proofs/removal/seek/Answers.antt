use Rattle.row_removal.proofs.LeavingLemmas.{seek_found, seek_missing}
use Rattle.row_removal.proofs.removal.seek.Goals as goal

pub returns-in-Ok-clause-found : goal.returns-in-Ok-clause-found
returns-in-Ok-clause-found c =
    (seek_found c.args.rows.now c.split_at.result.0.now c.split_at-in-Ok.result.1.now c.args.row.now c.near_end.result c.in-Ok.at c.requires c.near_end.ensures.behind c.split_at.ensures.front c.split_at-in-Ok.ensures.back c.in-Ok.ensures.bound c.in-Ok.ensures.position).0

pub returns-in-Ok-clause-rest : goal.returns-in-Ok-clause-rest
returns-in-Ok-clause-rest c =
    (seek_found c.args.rows.now c.split_at.result.0.now c.split_at-in-Ok.result.1.now c.args.row.now c.near_end.result c.in-Ok.at c.requires c.near_end.ensures.behind c.split_at.ensures.front c.split_at-in-Ok.ensures.back c.in-Ok.ensures.bound c.in-Ok.ensures.position).1

pub returns-in-Ok-clause-sorted : goal.returns-in-Ok-clause-sorted
returns-in-Ok-clause-sorted c =
    (seek_found c.args.rows.now c.split_at.result.0.now c.split_at-in-Ok.result.1.now c.args.row.now c.near_end.result c.in-Ok.at c.requires c.near_end.ensures.behind c.split_at.ensures.front c.split_at-in-Ok.ensures.back c.in-Ok.ensures.bound c.in-Ok.ensures.position).2

pub returns-in-Err-clause-found : goal.returns-in-Err-clause-found
returns-in-Err-clause-found c =
    (seek_missing c.args.rows.now c.split_at.result.0.now c.split_at-in-Err.result.1.now c.args.row.now c.near_end.result c.in-Err.at c.requires c.near_end.ensures.behind c.split_at.ensures.front c.split_at-in-Err.ensures.back c.in-Err.ensures.bound c.in-Err.ensures.position).0

pub returns-in-Err-clause-rest : goal.returns-in-Err-clause-rest
returns-in-Err-clause-rest c =
    (seek_missing c.args.rows.now c.split_at.result.0.now c.split_at-in-Err.result.1.now c.args.row.now c.near_end.result c.in-Err.at c.requires c.near_end.ensures.behind c.split_at.ensures.front c.split_at-in-Err.ensures.back c.in-Err.ensures.bound c.in-Err.ensures.position).1

pub returns-in-Err-clause-sorted : goal.returns-in-Err-clause-sorted
returns-in-Err-clause-sorted c =
    (seek_missing c.args.rows.now c.split_at.result.0.now c.split_at-in-Err.result.1.now c.args.row.now c.near_end.result c.in-Err.at c.requires c.near_end.ensures.behind c.split_at.ensures.front c.split_at-in-Err.ensures.back c.in-Err.ensures.bound c.in-Err.ensures.position).2
