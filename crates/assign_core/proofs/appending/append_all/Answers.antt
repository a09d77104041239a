use Rattle.std.proofs.Common.{rules, ◌++◌, ◌∷◌, suc, drop, length, sym, ap, ◌∙◌}
use Rattle.std.proofs.lemmas.Iterator.Adapters.{YieldsList-from_vec}
use Rattle.std.proofs.lemmas.Iterator.Consumers.{YieldsList-turn, YieldsList-so_far}
use Rattle.std.proofs.lemmas.List.{map-id}
use Rattle.tree_core.specs.Relvars.{read_relvars}
use Rattle.assign_core.proofs.DeclaredLemmas.{next_different}
use Rattle.assign_core.proofs.NameLemmas.{split_at}
use Rattle.assign_core.proofs.appending.append_all.Goals as goal

pub append-requires : goal.append-requires
append-requires c =
    let xs = c.args.declarations.items in
    let ys = c.loop-declaration.yielded in
    let made = YieldsList-from_vec {s = c.into_iter-declaration-iterator.result} xs (search rules) (search rules) in
    let t = YieldsList-turn made ys c.loop-declaration.declaration-iterator c.loop-declaration.yielded_by c.next.result c.next.new.self c.in-Some.declaration c.in-Some.is c.next.ensures.steps in
    let so_far = YieldsList-so_far made ys c.loop-declaration.declaration-iterator c.loop-declaration.yielded_by in
    let split = split_at xs (length ys) c.in-Some.declaration t.0 t.1 in
    next_different (read_relvars c.args.relvars.now) (read_relvars c.loop-declaration.relvars) xs ys (drop (suc (length ys)) xs) c.in-Some.declaration
    (split ∙ ap (λ z. z ++ c.in-Some.declaration ∷ drop (suc (length ys)) xs) (sym so_far ∙ map-id ys)) c.loop-declaration.invariant.state c.requires
