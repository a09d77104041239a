use Rattle.std.proofs.Common.{◌≡◌, Bool, true, false, cond, List, [], ◌∷◌, ◌++◌, map, sym, ap, ◌∙◌}
use Rattle.value_core.specs.Values.{Name}
use Rattle.tree_core.specs.Relvars.{PlainRelvar, read_relvar}
use Rattle.assign_core.specs.Leanings.{is_affected, with_affected}
use Rattle.assign_core.proofs.LeaningLemmas.{pushed_names, names_of_slice}
use Rattle.assign_core.proofs.TurnoverLemmas.{entry_left}
use Rattle.assign_core.proofs.rules.add_affected.Goals as goal

pub returns-in_ok-push-in-Some : goal.returns-in_ok-push-in-Some
returns-in_ok-push-in-Some c d =
    let ready = c.args.ready.now in
    let at = c.args.at in
    let olds : List Name = map (λ n. n.now) c.args.names.now.items in
    let r = read_relvar c.in-Some.relvar.now in
    let here = entry_left c.args.relvars.now.list.entries at c.in-Some.name.now c.in-Some.relvar.now d (sym c.in-Some.ensures.entry) in
    let same = ap (λ (ns : List Name). is_affected ready at ns r) (names_of_slice c.as_slice.result.now c.args.names.now.items c.as_slice.ensures.value) in
    let told : is_affected ready at olds r ≡ true = sym same ∙ (sym c.is_affected.ensures ∙ c.if-is_affected.true) in
    pushed_names c.args.names.now.items c.push.new.self.items c.in-Some.name c.in_ok-push-in-Some.ensures.items
    ∙ (sym (ap (λ (b : Bool). cond b (olds ++ c.in-Some.name.now ∷ []) olds) told) ∙ ap (λ (z : Name × PlainRelvar). with_affected ready at olds z.0 z.1) here)

pub returns-else-is_affected : goal.returns-else-is_affected
returns-else-is_affected c d =
    let ready = c.args.ready.now in
    let at = c.args.at in
    let olds : List Name = map (λ n. n.now) c.args.names.now.items in
    let r = read_relvar c.in-Some.relvar.now in
    let here = entry_left c.args.relvars.now.list.entries at c.in-Some.name.now c.in-Some.relvar.now d (sym c.in-Some.ensures.entry) in
    let same = ap (λ (ns : List Name). is_affected ready at ns r) (names_of_slice c.as_slice.result.now c.args.names.now.items c.as_slice.ensures.value) in
    let told : is_affected ready at olds r ≡ false = sym same ∙ (sym c.is_affected.ensures ∙ c.if-is_affected.false) in
    sym (ap (λ (b : Bool). cond b (olds ++ c.in-Some.name.now ∷ []) olds) told) ∙ ap (λ (z : Name × PlainRelvar). with_affected ready at olds z.0 z.1) here
