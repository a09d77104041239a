use Rattle.std.proofs.Common.{◌≡◌, ◌≤◌, List, ℕ, ◌++◌, ◌∷◌, length, map, sym, ◌∙◌, ap, arith}
use Rattle.std.proofs.lemmas.List.{length-map}
use Rattle.value_core.specs.declared.kind.Kind.{Kind}
use Rattle.value_core.specs.Values.{Name}
use Rattle.value_core.specs.Plain.{plain}
use Rattle.utd_print.proofs.TableLemmas.{kind-at}
use Rattle.dump_core.specs.Inserts.{attribute_scripts}
use Rattle.dump_core.specs.Values.{value_script}
use Rattle.dump_core.proofs.ListedLemmas.{length-attributes, attribute-at, attribute-behind, listed-more, listed-all}
use Rattle.dump_core.proofs.tuples.put_attributes.Goals as goal

pub put_attribute-requires : goal.put_attribute-requires
put_attribute-requires c = kind-at c.args.values.now c.loop-at.at c.index-values-at.result c.requires.kinds c.loop-at-test.true c.index-values-at.is

pub loop-at-preserved : goal.loop-at-preserved
loop-at-preserved c =
    let types = c.args.types.now in
    let attributes = c.args.attributes.now in
    let values = c.args.values.now in
    let a = c.index-attributes-at.result in
    let v = c.index-values-at.result in
    let at = c.loop-at.at in
    let texts : List (List ℕ) = attribute_scripts types attributes (map plain values) in
    let many : length (map plain values) ≡ length values = length-map values plain in
    let long : length texts ≡ length (map plain values) = length-attributes types attributes (map plain values) (c.requires.length ∙ sym many) in
    listed-more c.args.out.now.items c.loop-at.out.items c.put_attribute.new.out.items (a.0 ++ 32 ∷ value_script types (plain v)) texts at
    (omega (arith, c.loop-at-test.true, many, long))
    (attribute-at types attributes values at a v (omega (arith, c.loop-at-test.true, c.requires.length)) c.loop-at-test.true c.index-attributes-at.is c.index-values-at.is)
    c.loop-at.invariant
    (attribute-behind c.loop-at.out.items c.put_attribute.new.out.items c.as_bytes.result.now a.0 (value_script types (plain v)) at
    (c.as_bytes.ensures.value ∙ c.as_str.ensures.text ∙ ap (λ (b : Name × Kind). b.0) (sym c.index-attributes-at.is)) c.in_ok-put_attribute.ensures)

pub returns : goal.returns
returns c =
    let types = c.args.types.now in
    let attributes = c.args.attributes.now in
    let values = c.args.values.now in
    let texts : List (List ℕ) = attribute_scripts types attributes (map plain values) in
    let many : length (map plain values) ≡ length values = length-map values plain in
    let long : length texts ≡ length (map plain values) = length-attributes types attributes (map plain values) (c.requires.length ∙ sym many) in
    listed-all c.args.out.now.items c.loop-at.out.items texts c.loop-at.at (omega (arith, c.loop-at-test.false, many, long)) c.loop-at.invariant
