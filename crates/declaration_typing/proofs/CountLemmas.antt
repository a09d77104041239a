-- Numbers of nodes are counted up to one more than there may be.
use Rattle.std.specs.Prelude.{nat_le}
use Rattle.std.proofs.Common.{◌≡◌, ℕ, ◌+◌, Bool, true, false, List, [], ◌∷◌, ◌++◌, map, refl, sym, ap, ◌∙◌, arith, if◌then◌else◌}
use Rattle.std.proofs.lemmas.Int.{clamps}
use Rattle.std.proofs.lemmas.Bool.{le-leb, leb-true, true≢false, false_from_ne_true}
use Rattle.std.specs.Str.{bytes_eq}
use Rattle.std.proofs.lemmas.List.{map-append}
use Rattle.value_core.specs.Limits.{most_nodes}
use Rattle.value_core.specs.Values.{Name}
use Rattle.tree_core.specs.Relvars.{PlainRelvar, base, view, Entries, log}
use Rattle.tree_core.specs.Trees.{Tree, named, literal, infix_of, project, rename, restrict, extend, summarize, pack, unpack, using, Test, relate, is_empty, is_not_empty}
use Rattle.meaning_core.specs.Names.{found, each_after, each_in}
use Rattle.declaration_typing.specs.Nodes.{capped, count, relvar_count, nodes_of, test_count, test_nodes, capped_count}

abbrev Known : Type 0
Known = List (Name × ℕ)

abbrev cap : Name × ℕ → Name × ℕ
cap k = (k.0, capped k.1)

twice : (n : ℕ) → capped (capped n) ≡ capped n
twice n = omega (arith, clamps)

sum-capped : (a b c d : ℕ) → capped a ≡ capped c → capped b ≡ capped d → capped (a + b + 1) ≡ capped (c + d + 1)
sum-capped a b c d e f = omega (arith, clamps, e, f)

both-capped : (a b c d : ℕ) → capped a ≡ capped c → capped b ≡ capped d → capped (a + b) ≡ capped (c + d)
both-capped a b c d e f = omega (arith, clamps, e, f)

more-capped : (a c : ℕ) → capped a ≡ capped c → capped (a + 1) ≡ capped (c + 1)
more-capped a c e = omega (arith, clamps, e)

found-capped : (known : Known) (name : Name) → capped (found 1 (map cap known) name) ≡ capped (found 1 known name)
found-capped [] name = refl
found-capped (k ∷ ks) name =
    elim (bytes_eq k.0 name) as (λ (b : Bool). capped (if b then capped k.1 else found 1 (map cap ks) name) ≡ capped (if b then k.1 else found 1 ks name)) [
      | true ↦ twice k.1
      | false ↦ found-capped ks name
    ]

count-capped : (known : Known) (t : Tree) → capped (count (map cap known) t) ≡ capped (count known t)
count-capped known (named place h name) = found-capped known name
count-capped known (literal place h tuples) = refl
count-capped known (infix_of place h word l r) =
    sum-capped (count (map cap known) l) (count (map cap known) r) (count known l) (count known r) (count-capped known l) (count-capped known r)
count-capped known (project place h kept t) = more-capped (count (map cap known) t) (count known t) (count-capped known t)
count-capped known (rename place h names t) = more-capped (count (map cap known) t) (count known t) (count-capped known t)
count-capped known (restrict place h c t) = more-capped (count (map cap known) t) (count known t) (count-capped known t)
count-capped known (extend place h sets t) = more-capped (count (map cap known) t) (count known t) (count-capped known t)
count-capped known (summarize place h by aggregates t) = more-capped (count (map cap known) t) (count known t) (count-capped known t)
count-capped known (pack place h commalist t) = more-capped (count (map cap known) t) (count known t) (count-capped known t)
count-capped known (unpack place h commalist t) = more-capped (count (map cap known) t) (count known t) (count-capped known t)
count-capped known (using place h commalist t) = more-capped (count (map cap known) t) (count known t) (count-capped known t)

relvar-capped : (known : Known) (r : PlainRelvar) → capped_count (map cap known) r ≡ capped (relvar_count known r)
relvar-capped known (base value constraints) = refl
relvar-capped known (view t kind) = count-capped known t
relvar-capped known (log of side last value) = refl

each-capped : (known : Known) (entries : Entries) → each_after capped_count (map cap known) entries ≡ map cap (each_after relvar_count known entries)
each-capped known [] = refl
each-capped known (r ∷ rest) =
    let next : map cap known ++ (r.0, capped_count (map cap known) r.1) ∷ [] ≡ map cap (known ++ (r.0, relvar_count known r.1) ∷ []) =
    ap (λ (n : ℕ). map cap known ++ (r.0, n) ∷ []) (relvar-capped known r.1) ∙ sym (map-append cap known ((r.0, relvar_count known r.1) ∷ [])) in
    ap (λ (k : Known). each_after capped_count k rest) next ∙ each-capped (known ++ (r.0, relvar_count known r.1) ∷ []) rest

-- what is counted is the number, as far as it is counted
pub nodes-capped : (entries : Entries) (t : Tree) → capped (count (each_in capped_count entries) t) ≡ capped (nodes_of entries t)
nodes-capped entries t =
    ap (λ (k : Known). capped (count k t)) (each-capped [] entries) ∙ count-capped (each_in relvar_count entries) t

pub test-capped : (entries : Entries) (t : Test) → capped (test_count (each_in capped_count entries) t) ≡ capped (test_nodes entries t)
test-capped entries (relate place word commalist l r) =
    both-capped (count (each_in capped_count entries) l) (count (each_in capped_count entries) r) (nodes_of entries l) (nodes_of entries r) (nodes-capped entries l) (nodes-capped entries r)
test-capped entries (is_empty place t) = nodes-capped entries t
test-capped entries (is_not_empty place t) = nodes-capped entries t

-- the most there may be are counted
pub few-capped : (r n : ℕ) → r ≡ capped n → nat_le r most_nodes ≡ nat_le n most_nodes
few-capped r n e =
    (elim (nat_le r most_nodes) as (λ (b : Bool). nat_le r most_nodes ≡ b → b ≡ nat_le n most_nodes) [
      | true ↦ λ f. let l = leb-true r most_nodes f in sym (le-leb n most_nodes (omega (arith, clamps, e, l)))
      | false ↦ λ f. sym (false_from_ne_true (nat_le n most_nodes) (λ g.
          let l = leb-true n most_nodes g in
          let k = le-leb r most_nodes (omega (arith, clamps, e, l)) in
          true≢false (sym k ∙ f)))
    ]) refl
