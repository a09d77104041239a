-- The rules of relational nodes at other places, beside more ordinal types: over moved operands they give the moved node.
--     infix-follows, projection-follows, renaming-rule-follows, restriction-follows, extension-rule-follows, summary-follows, packing-follows
--     comparison-follows, using-comparison-follows, emptiness-moved      of tests
use Rattle.std.proofs.Common.{ℕ, List, ◌++◌, Option, Some, None, Ok, sym, subst}
use Rattle.point_core.specs.declared.fault.Code.TheVariants.{E13}
use Rattle.point_core.specs.declared.fault.Place.{Place}
use Rattle.point_core.specs.Faults.{OrFault}
use Rattle.utd_syntax.specs.declared.words.EmptinessWord.{EmptinessWord}
use Rattle.utd_syntax.specs.declared.words.EmptinessWord.TheVariants.{IsEmpty, IsNotEmpty}
use Rattle.utd_syntax.specs.declared.words.PackWord.{PackWord}
use Rattle.utd_syntax.specs.declared.words.PackWord.TheVariants.{Pack, Unpack}
use Rattle.utd_syntax.specs.Plain as syntax
use Rattle.utd_syntax.specs.Plain.{NameListP, ProjectionP, RenamingsP, ScalarP, SetsP, NamesP, AggregatesP}
use Rattle.value_core.specs.declared.list.OrdinalNames.{OrdinalNames}
use Rattle.value_core.specs.Values.{Heading}
use Rattle.relation_core.specs.Parts.{attributes_at, renamed}
use Rattle.scalar_typing.specs.Typings.{◌>>=◌}
use Rattle.tree_core.specs.declared.test.RelateWord.{RelateWord}
use Rattle.tree_core.specs.declared.tree.InfixWord.{InfixWord}
use Rattle.tree_core.specs.Trees.{Tree, infix_of, project, rename, restrict, extend, summarize, heading_of, Test, relate}
use Rattle.meaning_core.specs.Meanings.{positions_of}
use Rattle.relation_typing.specs.Headings.{same_heading}
use Rattle.node_typing.specs.Headings.{heading_of_list}
use Rattle.node_typing.specs.Infixes.{infix_heading}
use Rattle.node_typing.specs.Lists.{list_checked}
use Rattle.node_typing.specs.Nodes.{infix_rule, projection_rule, renaming_rule, restriction_rule, extension_rule, summary_rule, packed_by, packing_rule, compared, comparison_rule, using_comparison_rule, emptiness_test}
use Rattle.node_typing.specs.Positions.{check}
use Rattle.node_typing.specs.Projections.{projection_place, projection_kept, renaming_names}
use Rattle.node_typing.specs.Rows.{condition_typed, extension_made}
use Rattle.node_typing.specs.Summaries.{groups_typed, aggregates_made}
use Rattle.place_laws.specs.Moved as written
use Rattle.place_laws.specs.Moved.{moved_scalar, moved_projection, moved_renamings, moved_names, moved_name_list, moved_aggregates}
use Rattle.meaning_laws.specs.Moved.{moved_expr, moved_tree, moved_test}
use Rattle.meaning_laws.proofs.SameMoved.{heading-moved}
use Rattle.row_typing_laws.specs.Followings.{Follows, moved_made}
use Rattle.row_typing_laws.proofs.Parts.{given-follows, then-follows}
use Rattle.typing_laws.proofs.PositionsElsewhere.{check-follows, list-follows}
use Rattle.typing_laws.proofs.RowsElsewhere.{infix-heading-follows, kept-follows, renaming-follows, groups-follow, moved_summed, condition-follows, extension-follows, aggregates-follow}

-- ---- the rules over given headings

abbrev pub infix_over : Place → InfixWord → Tree → Tree → Heading → Heading → OrFault Tree
infix_over p word l r a b = infix_heading p word a b >>= (λ h. Ok (infix_of p h word l r))

abbrev pub projection_over : ProjectionP → Tree → Heading → OrFault Tree
projection_over p t h = projection_kept p h >>= (λ kept. Ok (project (projection_place p) (attributes_at kept h) kept t))

abbrev pub renaming_over : Place → RenamingsP → Tree → Heading → OrFault Tree
renaming_over p r t h = renaming_names r h >>= (λ names. Ok (rename p (heading_of_list (renamed names h)) names t))

abbrev pub restriction_over : List OrdinalNames → Place → ScalarP → Tree → Heading → OrFault Tree
restriction_over types p s t h = condition_typed types p h s >>= (λ c. Ok (restrict p h c t))

abbrev pub extension_over : List OrdinalNames → Place → SetsP → Tree → Heading → OrFault Tree
extension_over types p sets t h = extension_made types p h sets >>= (λ made. Ok (extend p made.1 made.0 t))

abbrev pub summary_over : List OrdinalNames → Place → NamesP → AggregatesP → Tree → Heading → OrFault Tree
summary_over types p names aggregates t h = groups_typed h names >>= (λ by. aggregates_made types p h by aggregates >>= (λ made. Ok (summarize p made.1 by made.0 t)))

abbrev pub packing_over : Place → PackWord → NameListP → Tree → Heading → OrFault Tree
packing_over p word list t h = list_checked h h list >>= (λ names. Ok (packed_by word p h (positions_of h names) t))

module _ (f : Place → Place) where
  -- the heading of a moved operand
  pub over : {A B : Type 0} (move : A → B) (m : OrFault A) (n : Heading → OrFault B) (t : Tree) → Follows move m (n (heading_of t)) → Follows move m (n (heading_of (moved_tree f t)))
  over move m n t h = subst (λ (g : Heading). Follows move m (n g)) (sym (heading-moved f t)) h

  pub infix-follows : (p : Place) (word : InfixWord) (l r : Tree) → Follows (moved_tree f) (infix_rule p word l r) (infix_rule (f p) word (moved_tree f l) (moved_tree f r))
  infix-follows p word l r =
      over (moved_tree f) (infix_rule p word l r) (λ a. infix_over (f p) word (moved_tree f l) (moved_tree f r) a (heading_of (moved_tree f r))) l
      (over (moved_tree f) (infix_rule p word l r) (λ b. infix_over (f p) word (moved_tree f l) (moved_tree f r) (heading_of l) b) r
      (then-follows (λ h. h) (moved_tree f) (infix_heading p word (heading_of l) (heading_of r)) (infix_heading (f p) word (heading_of l) (heading_of r)) _ _
      (infix-heading-follows f p word (heading_of l) (heading_of r))
      (λ h. given-follows (moved_tree f) (infix_of p h word l r))))

  projected : (p : ProjectionP) (kept : List ℕ) (h : Heading) (t : Tree)
      → Follows (moved_tree f) (Ok (project (projection_place p) h kept t)) (Ok (project (projection_place (moved_projection f p)) h kept (moved_tree f t)))
  projected (syntax.Onto at words) kept h t = given-follows (moved_tree f) (project at h kept t)
  projected (syntax.AllBut at first more) kept h t = given-follows (moved_tree f) (project at h kept t)

  pub projection-follows : (p : ProjectionP) (t : Tree) → Follows (moved_tree f) (projection_rule p t) (projection_rule (moved_projection f p) (moved_tree f t))
  projection-follows p t =
      over (moved_tree f) (projection_rule p t) (projection_over (moved_projection f p) (moved_tree f t)) t
      (then-follows (λ k. k) (moved_tree f) (projection_kept p (heading_of t)) (projection_kept (moved_projection f p) (heading_of t)) _ _ (kept-follows f p (heading_of t))
      (λ kept. projected p kept (attributes_at kept (heading_of t)) t))

  pub renaming-rule-follows : (p : Place) (r : RenamingsP) (t : Tree) → Follows (moved_tree f) (renaming_rule p r t) (renaming_rule (f p) (moved_renamings f r) (moved_tree f t))
  renaming-rule-follows p r t =
      over (moved_tree f) (renaming_rule p r t) (renaming_over (f p) (moved_renamings f r) (moved_tree f t)) t
      (then-follows (λ n. n) (moved_tree f) (renaming_names r (heading_of t)) (renaming_names (moved_renamings f r) (heading_of t)) _ _ (renaming-follows f r (heading_of t))
      (λ names. given-follows (moved_tree f) (rename p (heading_of_list (renamed names (heading_of t))) names t)))

  packed : (p : Place) (word : PackWord) (h : Heading) (list : List ℕ) (t : Tree) → Follows (moved_tree f) (Ok (packed_by word p h list t)) (Ok (packed_by word (f p) h list (moved_tree f t)))
  packed p Pack h list t = given-follows (moved_tree f) (packed_by Pack p h list t)
  packed p Unpack h list t = given-follows (moved_tree f) (packed_by Unpack p h list t)

  pub packing-follows : (p : Place) (word : PackWord) (list : NameListP) (t : Tree)
      → Follows (moved_tree f) (packing_rule p word list t) (packing_rule (f p) word (moved_name_list f list) (moved_tree f t))
  packing-follows p word list t =
      over (moved_tree f) (packing_rule p word list t) (packing_over (f p) word (moved_name_list f list) (moved_tree f t)) t
      (then-follows (λ n. n) (moved_tree f) (list_checked (heading_of t) (heading_of t) list) (list_checked (heading_of t) (heading_of t) (moved_name_list f list)) _ _
      (list-follows f (heading_of t) (heading_of t) list)
      (λ names. packed p word (heading_of t) (positions_of (heading_of t) names) t))

  -- ---- tests

  compared-over : Place → RelateWord → Option (List ℕ) → Tree → Tree → Heading → Heading → OrFault Test
  compared-over p word commalist l r a b = check p E13 (same_heading a b) >>= (λ _. Ok (relate p word commalist l r))

  compared-follows : (p : Place) (word : RelateWord) (commalist : Option (List ℕ)) (l r : Tree)
      → Follows (moved_test f) (compared p word commalist l r) (compared (f p) word commalist (moved_tree f l) (moved_tree f r))
  unfolding compared-over
  compared-follows p word commalist l r =
      over (moved_test f) (compared p word commalist l r) (λ a. compared-over (f p) word commalist (moved_tree f l) (moved_tree f r) a (heading_of (moved_tree f r))) l
      (over (moved_test f) (compared p word commalist l r) (λ b. compared-over (f p) word commalist (moved_tree f l) (moved_tree f r) (heading_of l) b) r
      (then-follows (λ u. u) (moved_test f) (check p E13 (same_heading (heading_of l) (heading_of r))) (check (f p) E13 (same_heading (heading_of l) (heading_of r))) _ _
      (check-follows f p E13 (same_heading (heading_of l) (heading_of r))) (λ _. given-follows (moved_test f) (relate p word commalist l r))))

  pub comparison-follows : (p : Place) (word : RelateWord) (l r : Tree) → Follows (moved_test f) (comparison_rule p word l r) (comparison_rule (f p) word (moved_tree f l) (moved_tree f r))
  comparison-follows p word l r = compared-follows p word None l r

  listed-over : NameListP → Place → RelateWord → Tree → Tree → Heading → Heading → OrFault Test
  listed-over list p word l r a b = list_checked a b list >>= (λ names. compared p word (Some (positions_of a names)) l r)

  pub using-comparison-follows : (list : NameListP) (p : Place) (word : RelateWord) (l r : Tree)
      → Follows (moved_test f) (using_comparison_rule list p word l r) (using_comparison_rule (moved_name_list f list) (f p) word (moved_tree f l) (moved_tree f r))
  unfolding listed-over
  using-comparison-follows list p word l r =
      over (moved_test f) (using_comparison_rule list p word l r) (λ a. listed-over (moved_name_list f list) (f p) word (moved_tree f l) (moved_tree f r) a (heading_of (moved_tree f r))) l
      (over (moved_test f) (using_comparison_rule list p word l r) (λ b. listed-over (moved_name_list f list) (f p) word (moved_tree f l) (moved_tree f r) (heading_of l) b) r
      (then-follows (λ n. n) (moved_test f) (list_checked (heading_of l) (heading_of r) list) (list_checked (heading_of l) (heading_of r) (moved_name_list f list)) _ _
      (list-follows f (heading_of l) (heading_of r) list) (λ names. compared-follows p word (Some (positions_of (heading_of l) names)) l r)))

  pub emptiness-moved : (p : Place) (word : EmptinessWord) (t : Tree) → Follows (moved_test f) (Ok (emptiness_test p word t)) (Ok (emptiness_test (f p) word (moved_tree f t)))
  emptiness-moved p IsEmpty t = given-follows (moved_test f) (emptiness_test p IsEmpty t)
  emptiness-moved p IsNotEmpty t = given-follows (moved_test f) (emptiness_test p IsNotEmpty t)

module _ (f : Place → Place) (types more : List OrdinalNames) where
  pub restriction-follows : (p : Place) (s : ScalarP) (t : Tree) → Follows (moved_tree f) (restriction_rule types p s t) (restriction_rule (types ++ more) (f p) (moved_scalar f s) (moved_tree f t))
  restriction-follows p s t =
      over f (moved_tree f) (restriction_rule types p s t) (restriction_over (types ++ more) (f p) (moved_scalar f s) (moved_tree f t)) t
      (then-follows (moved_expr f) (moved_tree f) (condition_typed types p (heading_of t) s) (condition_typed (types ++ more) (f p) (heading_of t) (moved_scalar f s)) _
      (λ c. Ok (restrict (f p) (heading_of t) c (moved_tree f t))) (condition-follows f types more p (heading_of t) s) (λ c. given-follows (moved_tree f) (restrict p (heading_of t) c t)))

  pub extension-rule-follows : (p : Place) (sets : SetsP) (t : Tree)
      → Follows (moved_tree f) (extension_rule types p sets t) (extension_rule (types ++ more) (f p) (written.moved_sets f sets) (moved_tree f t))
  extension-rule-follows p sets t =
      over f (moved_tree f) (extension_rule types p sets t) (extension_over (types ++ more) (f p) (written.moved_sets f sets) (moved_tree f t)) t
      (then-follows (moved_made f) (moved_tree f) (extension_made types p (heading_of t) sets) (extension_made (types ++ more) (f p) (heading_of t) (written.moved_sets f sets)) _
      (λ made. Ok (extend (f p) made.1 made.0 (moved_tree f t))) (extension-follows f types more p (heading_of t) sets) (λ made. given-follows (moved_tree f) (extend p made.1 made.0 t)))

  pub summary-follows : (p : Place) (names : NamesP) (aggregates : AggregatesP) (t : Tree)
      → Follows (moved_tree f) (summary_rule types p names aggregates t) (summary_rule (types ++ more) (f p) (moved_names f names) (moved_aggregates f aggregates) (moved_tree f t))
  summary-follows p names aggregates t =
      over f (moved_tree f) (summary_rule types p names aggregates t) (summary_over (types ++ more) (f p) (moved_names f names) (moved_aggregates f aggregates) (moved_tree f t)) t
      (then-follows (λ n. n) (moved_tree f) (groups_typed (heading_of t) names) (groups_typed (heading_of t) (moved_names f names)) _ _ (groups-follow f (heading_of t) names) (λ by.
      then-follows (moved_summed f) (moved_tree f) (aggregates_made types p (heading_of t) by aggregates) (aggregates_made (types ++ more) (f p) (heading_of t) by (moved_aggregates f aggregates)) _
      (λ made. Ok (summarize (f p) made.1 by made.0 (moved_tree f t))) (aggregates-follow f types more p (heading_of t) by aggregates)
      (λ made. given-follows (moved_tree f) (summarize p made.1 by made.0 t))))
