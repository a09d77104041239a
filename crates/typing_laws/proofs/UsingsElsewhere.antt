-- The rules of USING at other places, beside more ordinal types: over moved operands they give the moved node.
--     using-infix-follows, using-projection-follows, using-restriction-follows, using-extension-follows, using-summary-follows
use Rattle.std.proofs.Common.{ℕ, List, ◌∷◌, ◌++◌, map, Ok}
use Rattle.point_core.specs.declared.fault.Place.{Place}
use Rattle.point_core.specs.Faults.{OrFault}
use Rattle.utd_syntax.specs.Plain as syntax
use Rattle.utd_syntax.specs.Plain.{NameListP, ProjectionP, ScalarP, SetsP, NamesP, AggregatesP}
use Rattle.value_core.specs.declared.list.OrdinalNames.{OrdinalNames}
use Rattle.value_core.specs.Values.{Name, Heading}
use Rattle.relation_core.specs.Parts.{attributes_at}
use Rattle.scalar_typing.specs.Typings.{◌>>=◌}
use Rattle.tree_core.specs.declared.tree.InfixWord.{InfixWord}
use Rattle.tree_core.specs.Trees.{Tree, project, restrict, extend, summarize, using, heading_of}
use Rattle.meaning_core.specs.Meanings.{positions_of}
use Rattle.node_typing.specs.Lists.{words_of, list_checked}
use Rattle.node_typing.specs.Nodes.{infix_rule}
use Rattle.node_typing.specs.Projections.{projection_place, projection_kept}
use Rattle.node_typing.specs.Rows.{item_list, condition_typed, extension_made}
use Rattle.node_typing.specs.Summaries.{groups_typed, aggregates_made}
use Rattle.node_typing.specs.Sweeps.{all_kept, none_assigned, swept, sets_swept, aggregates_name_no}
use Rattle.node_typing.specs.Usings.{used, using_infix_rule, using_projection_rule, using_restriction_rule, using_extension_rule, using_summary_rule}
use Rattle.place_laws.specs.Moved as written
use Rattle.place_laws.specs.Moved.{moved_word, moved_scalar, moved_set_item, moved_projection, moved_names, moved_name_list, moved_aggregates}
use Rattle.meaning_laws.specs.Moved.{moved_expr, moved_sets, moved_aggregate, moved_tree}
use Rattle.row_typing_laws.specs.Followings.{Follows, moved_made}
use Rattle.row_typing_laws.proofs.Parts.{given-follows, then-follows}
use Rattle.typing_laws.proofs.NodesElsewhere.{over, infix-follows}
use Rattle.typing_laws.proofs.PositionsElsewhere.{list-follows}
use Rattle.typing_laws.proofs.RowsElsewhere.{kept-follows, groups-follow, moved_summed, condition-follows, extension-follows, aggregates-follow}
use Rattle.typing_laws.proofs.SweepsElsewhere.{all-kept-follows, none-assigned-follows, swept-follows, sets-swept-follow, aggregates-name-no-follow}

-- ---- the rules over given headings

abbrev pub infix_over : Place → NameListP → Place → InfixWord → Tree → Tree → Heading → Heading → OrFault Tree
infix_over p list at word l r a b = list_checked a b list >>= (λ names. infix_rule at word l r >>= (λ part. Ok (used p names part)))

abbrev pub projection_over : Place → NameListP → ProjectionP → Tree → Heading → OrFault Tree
projection_over p list x t h =
    list_checked h h list >>= (λ names. projection_kept x h >>= (λ kept. all_kept (attributes_at kept h) (words_of list) >>= (λ _.
    Ok (used p names (project (projection_place x) (attributes_at kept h) kept t)))))

abbrev pub restriction_over : List OrdinalNames → Place → NameListP → Place → ScalarP → Tree → Heading → OrFault Tree
restriction_over types p list at s t h =
    list_checked h h list >>= (λ names. condition_typed types at h s >>= (λ c. swept (positions_of h names) c >>= (λ _. Ok (used p names (restrict at h c t)))))

abbrev pub extension_over : List OrdinalNames → Place → NameListP → Place → SetsP → Tree → Heading → OrFault Tree
extension_over types p list at sets t h =
    list_checked h h list >>= (λ names. extension_made types at h sets >>= (λ made. none_assigned names (item_list sets) >>= (λ _.
    sets_swept (positions_of h names) made.0 >>= (λ _. Ok (used p names (extend at made.1 made.0 t))))))

abbrev pub summary_over : List OrdinalNames → Place → NameListP → Place → NamesP → AggregatesP → Tree → Heading → OrFault Tree
summary_over types p list at by_names aggregates t h =
    list_checked h h list >>= (λ names. groups_typed h by_names >>= (λ by. aggregates_made types at h by aggregates >>= (λ made.
    all_kept (attributes_at by h) (words_of list) >>= (λ _. aggregates_name_no (positions_of h names) made.0 >>= (λ _. Ok (used p names (summarize at made.1 by made.0 t)))))))

module _ (f : Place → Place) where
  used-given : (p : Place) (names : List Name) (part : Tree) → Follows (moved_tree f) (Ok (used p names part)) (Ok (used (f p) names (moved_tree f part)))
  used-given p names part =
      over f (moved_tree f) (Ok (used p names part)) (λ h. Ok (using (f p) h (positions_of h names) (moved_tree f part))) part (given-follows (moved_tree f) (used p names part))

  pub using-infix-follows : (p : Place) (list : NameListP) (at : Place) (word : InfixWord) (l r : Tree)
      → Follows (moved_tree f) (using_infix_rule p list at word l r) (using_infix_rule (f p) (moved_name_list f list) (f at) word (moved_tree f l) (moved_tree f r))
  using-infix-follows p list at word l r =
      over f (moved_tree f) (using_infix_rule p list at word l r) (λ a. infix_over (f p) (moved_name_list f list) (f at) word (moved_tree f l) (moved_tree f r) a (heading_of (moved_tree f r))) l
      (over f (moved_tree f) (using_infix_rule p list at word l r) (λ b. infix_over (f p) (moved_name_list f list) (f at) word (moved_tree f l) (moved_tree f r) (heading_of l) b) r
      (then-follows (λ n. n) (moved_tree f) (list_checked (heading_of l) (heading_of r) list) (list_checked (heading_of l) (heading_of r) (moved_name_list f list)) _ _
      (list-follows f (heading_of l) (heading_of r) list) (λ names.
      then-follows (moved_tree f) (moved_tree f) (infix_rule at word l r) (infix_rule (f at) word (moved_tree f l) (moved_tree f r)) _ (λ part. Ok (used (f p) names part))
      (infix-follows f at word l r)
      (λ part. used-given p names part))))

  projected : (p : Place) (names : List Name) (x : ProjectionP) (kept : List ℕ) (h : Heading) (t : Tree)
      → Follows (moved_tree f) (Ok (used p names (project (projection_place x) h kept t))) (Ok (used (f p) names (project (projection_place (moved_projection f x)) h kept (moved_tree f t))))
  projected p names (syntax.Onto at words) kept h t = given-follows (moved_tree f) (used p names (project at h kept t))
  projected p names (syntax.AllBut at first more) kept h t = given-follows (moved_tree f) (used p names (project at h kept t))

  pub using-projection-follows : (p : Place) (list : NameListP) (x : ProjectionP) (t : Tree)
      → Follows (moved_tree f) (using_projection_rule p list x t) (using_projection_rule (f p) (moved_name_list f list) (moved_projection f x) (moved_tree f t))
  using-projection-follows p (syntax.NameList there words) x t =
      let list = syntax.NameList there words in
      let h = heading_of t in
      over f (moved_tree f) (using_projection_rule p list x t) (projection_over (f p) (moved_name_list f list) (moved_projection f x) (moved_tree f t)) t
      (then-follows (λ n. n) (moved_tree f) (list_checked h h list) (list_checked h h (moved_name_list f list)) _ _ (list-follows f h h list) (λ names.
      then-follows (λ k. k) (moved_tree f) (projection_kept x h) (projection_kept (moved_projection f x) h) _ _ (kept-follows f x h) (λ kept.
      then-follows (λ u. u) (moved_tree f) (all_kept (attributes_at kept h) words) (all_kept (attributes_at kept h) (map (moved_word f) words)) _ _ (all-kept-follows f (attributes_at kept h) words)
      (λ _. projected p names x kept (attributes_at kept h) t))))

module _ (f : Place → Place) (types more : List OrdinalNames) where
  pub using-restriction-follows : (p : Place) (list : NameListP) (at : Place) (s : ScalarP) (t : Tree)
      → Follows (moved_tree f) (using_restriction_rule types p list at s t) (using_restriction_rule (types ++ more) (f p) (moved_name_list f list) (f at) (moved_scalar f s) (moved_tree f t))
  using-restriction-follows p list at s t =
      let h = heading_of t in
      over f (moved_tree f) (using_restriction_rule types p list at s t) (restriction_over (types ++ more) (f p) (moved_name_list f list) (f at) (moved_scalar f s) (moved_tree f t)) t
      (then-follows (λ n. n) (moved_tree f) (list_checked h h list) (list_checked h h (moved_name_list f list)) _ _ (list-follows f h h list) (λ names.
      then-follows (moved_expr f) (moved_tree f) (condition_typed types at h s) (condition_typed (types ++ more) (f at) h (moved_scalar f s)) _
      (λ c. swept (positions_of h names) c >>= (λ _. Ok (used (f p) names (restrict (f at) h c (moved_tree f t))))) (condition-follows f types more at h s) (λ c.
      then-follows (λ u. u) (moved_tree f) (swept (positions_of h names) c) (swept (positions_of h names) (moved_expr f c)) _ _ (swept-follows f (positions_of h names) c)
      (λ _. given-follows (moved_tree f) (used p names (restrict at h c t))))))

  pub using-extension-follows : (p : Place) (list : NameListP) (at : Place) (sets : SetsP) (t : Tree)
      → Follows (moved_tree f) (using_extension_rule types p list at sets t) (using_extension_rule (types ++ more) (f p) (moved_name_list f list) (f at) (written.moved_sets f sets) (moved_tree f t))
  using-extension-follows p list at (syntax.Sets there first rest) t =
      let h = heading_of t in
      let sets = syntax.Sets there first rest in
      over f (moved_tree f) (using_extension_rule types p list at sets t) (extension_over (types ++ more) (f p) (moved_name_list f list) (f at) (written.moved_sets f sets) (moved_tree f t)) t
      (then-follows (λ n. n) (moved_tree f) (list_checked h h list) (list_checked h h (moved_name_list f list)) _ _ (list-follows f h h list) (λ names.
      then-follows (moved_made f) (moved_tree f) (extension_made types at h sets) (extension_made (types ++ more) (f at) h (written.moved_sets f sets)) _
      (λ made. none_assigned names (item_list (written.moved_sets f sets)) >>= (λ _. sets_swept (positions_of h names) made.0 >>=
      (λ _. Ok (used (f p) names (extend (f at) made.1 made.0 (moved_tree f t))))))
      (extension-follows f types more at h sets) (λ made.
      then-follows (λ u. u) (moved_tree f) (none_assigned names (first ∷ rest)) (none_assigned names (moved_set_item f first ∷ map (moved_set_item f) rest)) _ _
      (none-assigned-follows f names (first ∷ rest)) (λ _.
      then-follows (λ u. u) (moved_tree f) (sets_swept (positions_of h names) made.0) (sets_swept (positions_of h names) (moved_sets f made.0)) _ _ (sets-swept-follow f (positions_of h names) made.0)
      (λ _. given-follows (moved_tree f) (used p names (extend at made.1 made.0 t)))))))

  pub using-summary-follows : (p : Place) (list : NameListP) (at : Place) (by_names : NamesP) (aggregates : AggregatesP) (t : Tree)
      → Follows (moved_tree f) (using_summary_rule types p list at by_names aggregates t)
      (using_summary_rule (types ++ more) (f p) (moved_name_list f list) (f at) (moved_names f by_names) (moved_aggregates f aggregates) (moved_tree f t))
  using-summary-follows p (syntax.NameList there words) at by_names aggregates t =
      let h = heading_of t in
      let list = syntax.NameList there words in
      over f (moved_tree f) (using_summary_rule types p list at by_names aggregates t)
      (summary_over (types ++ more) (f p) (moved_name_list f list) (f at) (moved_names f by_names) (moved_aggregates f aggregates) (moved_tree f t)) t
      (then-follows (λ n. n) (moved_tree f) (list_checked h h list) (list_checked h h (moved_name_list f list)) _ _ (list-follows f h h list) (λ names.
      then-follows (λ n. n) (moved_tree f) (groups_typed h by_names) (groups_typed h (moved_names f by_names)) _ _ (groups-follow f h by_names) (λ by.
      then-follows (moved_summed f) (moved_tree f) (aggregates_made types at h by aggregates) (aggregates_made (types ++ more) (f at) h by (moved_aggregates f aggregates)) _
      (λ made. all_kept (attributes_at by h) (map (moved_word f) words) >>= (λ _. aggregates_name_no (positions_of h names) made.0 >>=
      (λ _. Ok (used (f p) names (summarize (f at) made.1 by made.0 (moved_tree f t))))))
      (aggregates-follow f types more at h by aggregates) (λ made.
      then-follows (λ u. u) (moved_tree f) (all_kept (attributes_at by h) words) (all_kept (attributes_at by h) (map (moved_word f) words)) _ _ (all-kept-follows f (attributes_at by h) words) (λ _.
      then-follows (λ u. u) (moved_tree f) (aggregates_name_no (positions_of h names) made.0) (aggregates_name_no (positions_of h names) (map (moved_aggregate f) made.0)) _ _
      (aggregates-name-no-follow f (positions_of h names) made.0) (λ _. given-follows (moved_tree f) (used p names (summarize at made.1 by made.0 t))))))))
