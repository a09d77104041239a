-- Written by tools/grammar; change it there.
-- What the table reads writes the tokens.
use Rattle.std.proofs.Common.{◌≡◌, ℕ, List, [], ◌∷◌, ◌++◌, Bool, true, false, cond, get_or, rules, ◌==◌, ◌&&◌, Option, Some, None, refl, sym, ◌∙◌, ap, subst}
use Rattle.utd_syntax.specs.declared.terminal.Terminal.{Terminal}
use Rattle.utd_syntax.specs.declared.terminal.Terminal.TheVariants as t
use Rattle.point_core.specs.declared.fault.Place.{Place}
use Rattle.utd_syntax.specs.declared.words.InfixWord.TheVariants as infixes
use Rattle.utd_syntax.specs.declared.words.PackWord.TheVariants as pack_words
use Rattle.utd_syntax.specs.declared.words.EmptinessWord.TheVariants as emptinesses
use Rattle.utd_syntax.specs.Pieces.{Piece, first, place_of}
use Rattle.utd_syntax.specs.Plain.{word, StatementP, OfUsing, OfTerms, OneTerm, Infix, NotMatching, OneRelPrimary, Project, Filter, Rename, OfExtend, OfSummarize, OfOperand, Relvar, OfLiteral, ParenRel, PackOn, UsingExtend, UsingSummarize, UsedKey, UsedForeign, KeyOf, ForeignOf, PackedOn, WhenUnpacked, UsingConstraint, UsingTest, Emptiness, OfComparison, UsedDeleteWhere, UsedDeleteRows, DeleteWhere, DeletePortion, DeleteRows, Assign, Nothing, DeclareOrdinal, DeclareRelvar, DeclareHistory, DeclareRule, Print, Ask, Assignment}
use Rattle.utd_syntax.specs.Written.{fixed, at, spelled, Spells, ordinal_word, since_word, during_word, over_word, log_word, kept_word, of_statement}
use Rattle.utd_syntax.specs.Table.{Load, Symbol, TheName, Comma, DateText, MomentText, NegativeDigits, ThePrimary, AfterName, AfterScalar, EndOfSelector, InParens, InPair, InPoint, TheSign, TheProd, MoreProd, TheSum, MoreSum, TheCmp, MoreCmp, TheNeg, TheConj, MoreAnd, TheScalar, MoreOr, ThePoint, TheKind, TheAttribute, MoreAttributes, InHeading, TheHeading, MoreNames, InNames, InList, TheNames, TheList, TheSomeNames, TheParenName, TheElement, MoreElements, InElements, TheElements, TheSomeElements, TheTuple, MoreTuples, InTuples, TheTuples, TheLiteral, AfterRelation, TheSetItem, MoreSetItems, TheSets, EmptyParens, TheAggregateForm, TheAggregate, MoreAggregates, TheAggregates, TheRenaming, MoreRenamings, TheRenamings, ThePortion, MaybePortion, MaybeWhere, InProjection, TheOperand, TheExtend, TheSummarize, TheRelPrimary, TheTerm, MorePostfix, TheTerms, MoreInfix, TheUsing, TheRel, TheUsingPart, AfterOperand, TheKey, TheForeign, TheUsedConstraint, TheConstraint, MoreConstraints, InRel, TheKept, AfterKept, InKept, TheVarForm, TheComparison, AfterLeft, TheTest, TheUsedDeletion, TheUsedItem, TheDeletion, TheItem, MoreItems, TheAssign, TheStatement, AfterDrop, AfterLog, Just, Worded, Shut, Taking, Plain, Opens, Turn, Never, Ends, Takes, Row, on, spelt, before, ◌▹◌, rows, may_end, number, same, same_bytes, fits, chosen, find, turn, literal_rows, after_relation_rows, set_item_rows, more_set_items_rows, sets_rows, empty_parens_rows, aggregate_form_rows, aggregate_rows, more_aggregates_rows, aggregates_rows, renaming_rows, more_renamings_rows, renamings_rows, portion_rows, maybe_portion_rows, maybe_where_rows, in_projection_rows, operand_rows, extend_rows, summarize_rows, rel_primary_rows, term_rows, more_postfix_rows, terms_rows, more_infix_rows, using_rows, rel_rows, using_part_rows, after_operand_rows, key_rows, foreign_rows, used_constraint_rows, constraint_rows, more_constraints_rows, in_rel_rows, kept_rows, after_kept_rows, in_kept_rows, var_form_rows, comparison_rows, after_left_rows, test_rows, used_deletion_rows, used_item_rows, deletion_rows, item_rows, more_items_rows, assign_rows, statement_rows, after_drop_rows, after_log_rows}
use Rattle.utd_syntax.proofs.FormValues.{Val, Vals, Case, Make, Makes, inner, over_makes, then_makes, append_makes}
use Rattle.utd_syntax.proofs.Reader.{Ended, Built, Go, makes, end_value, by_case, made, pick, found_end, found, build, split, on_turn, read_at, on_end, read_end, read, make_literal, make_after_relation, make_set_item, make_more_set_items, make_sets, make_empty_parens, make_aggregate_form, make_aggregate, make_more_aggregates, make_aggregates, make_renaming, make_more_renamings, make_renamings, make_portion, make_maybe_portion, make_maybe_where, make_in_projection, make_operand, make_extend, make_summarize, make_rel_primary, make_term, make_more_postfix, make_terms, make_more_infix, make_using, make_rel, make_using_part, make_after_operand, make_key, make_foreign, make_used_constraint, make_constraint, make_more_constraints, make_in_rel, make_kept, make_after_kept, make_in_kept, make_var_form, make_comparison, make_after_left, make_test, make_used_deletion, make_used_item, make_deletion, make_item, make_more_items, make_assign, make_statement, make_after_drop, make_after_log}
use Rattle.utd_syntax.specs.Verdict.{Whole, no_limits, verdict}
use Rattle.utd_syntax.proofs.Accepted.{Agree, agrees}
use Rattle.utd_syntax.proofs.FormEnds.{both-left, both-right, bytes-same}
use Rattle.std.proofs.lemmas.Bool.{eqb-true}
use Rattle.utd_syntax.proofs.SoundForms.{nil, cons, join, loose_word, Writes, WritesAll, Chain, chain, piece_at, SoundCase, SoundRow, SoundRows, over-sounds, then-sounds, append-sounds, name-sound, comma-sound, date_text-sound, moment_text-sound, negative_digits-sound, primary-sound, after_name-sound, after_scalar-sound, end_of_selector-sound, in_parens-sound, in_pair-sound, in_point-sound, sign-sound, prod-sound, more_prod-sound, sum-sound, more_sum-sound, cmp-sound, more_cmp-sound, neg-sound, conj-sound, more_and-sound, scalar-sound, more_or-sound, point-sound, kind-sound, attribute-sound, more_attributes-sound, in_heading-sound, heading-sound, more_names-sound, in_names-sound, in_list-sound, names-sound, list-sound, some_names-sound, paren_name-sound, element-sound, more_elements-sound, in_elements-sound, elements-sound, some_elements-sound, tuple-sound, more_tuples-sound, in_tuples-sound, tuples-sound}

pub literal-sound : SoundRows TheLiteral literal_rows make_literal
literal-sound = ((λ p b ts vs rest h. (h p (piece_at t.Relation p b ∷ ts) (cons (at t.Relation p) [] (piece_at t.Relation p b) ts _ (refl, refl) (nil refl)))), tt)

pub after_relation-sound : SoundRows AfterRelation after_relation_rows make_after_relation
after_relation-sound = (((λ p b ts e vs rest h q from g. (join _ _ _ _ _ (join _ _ _ _ _ (join _ _ _ _ _ (join _ _ _ _ _ g (cons (fixed t.OpenBrace) [] (piece_at t.OpenBrace p b) ts _ refl (nil refl))) h.1) h.2.1) h.2.2)), (λ p b ts e vs rest h q from g. (join _ _ _ _ _ (join _ _ _ _ _ (join _ _ _ _ _ g (cons (at t.OpenBrace p) [] (piece_at t.OpenBrace p b) ts _ (refl, refl) (nil refl))) h.1) h.2))), tt)

pub set_item-sound : SoundRows TheSetItem set_item_rows make_set_item
set_item-sound = ((λ p b ts vs rest h. (join _ _ _ _ _ (join _ _ _ _ _ (cons (spelled t.Name p b) [] (piece_at t.Name p b) ts _ (refl, refl, refl) (nil refl)) h.1) h.2)), tt)

pub more_set_items-sound : SoundRows MoreSetItems more_set_items_rows make_more_set_items
more_set_items-sound = ((λ p b ts vs rest h. (join _ _ _ _ _ (join _ _ _ _ _ (cons (fixed t.Comma) [] (piece_at t.Comma p b) ts _ refl (nil refl)) h.1) h.2)), tt)

pub sets-sound : SoundRows TheSets sets_rows make_sets
sets-sound = ((λ p b ts vs rest h. (join _ _ _ _ _ (join _ _ _ _ _ (join _ _ _ _ _ (cons (at t.OpenBrace p) [] (piece_at t.OpenBrace p b) ts _ (refl, refl) (nil refl)) h.1) h.2.1) h.2.2)), tt)

pub empty_parens-sound : SoundRows EmptyParens empty_parens_rows make_empty_parens
empty_parens-sound = ((λ p b ts vs rest h. (join _ _ _ _ _ (cons (fixed t.Open) [] (piece_at t.Open p b) ts _ refl (nil refl)) h)), tt)

pub aggregate_form-sound : SoundRows TheAggregateForm aggregate_form_rows make_aggregate_form
aggregate_form-sound = (
  (λ p b ts vs rest h. (join _ _ _ _ _ (cons (at t.Count p) [] (piece_at t.Count p b) ts _ (refl, refl) (nil refl)) h)),
  (
    (λ p b ts vs rest h. (join _ _ _ _ _ (cons (at t.Sum p) [] (piece_at t.Sum p b) ts _ (refl, refl) (nil refl)) h)),
    (
      (λ p b ts vs rest h. (join _ _ _ _ _ (cons (at t.Min p) [] (piece_at t.Min p b) ts _ (refl, refl) (nil refl)) h)),
      (
        (λ p b ts vs rest h. (join _ _ _ _ _ (cons (at t.Max p) [] (piece_at t.Max p b) ts _ (refl, refl) (nil refl)) h)),
        tt,
      ),
    ),
  ),
)

pub aggregate-sound : SoundRows TheAggregate aggregate_rows make_aggregate
aggregate-sound = ((λ p b ts vs rest h. (join _ _ _ _ _ (join _ _ _ _ _ (cons (spelled t.Name p b) [] (piece_at t.Name p b) ts _ (refl, refl, refl) (nil refl)) h.1) h.2)), tt)

pub more_aggregates-sound : SoundRows MoreAggregates more_aggregates_rows make_more_aggregates
more_aggregates-sound = ((λ p b ts vs rest h. (join _ _ _ _ _ (join _ _ _ _ _ (cons (fixed t.Comma) [] (piece_at t.Comma p b) ts _ refl (nil refl)) h.1) h.2)), tt)

pub aggregates-sound : SoundRows TheAggregates aggregates_rows make_aggregates
aggregates-sound = ((λ p b ts vs rest h. (join _ _ _ _ _ (join _ _ _ _ _ (join _ _ _ _ _ (cons (at t.OpenBrace p) [] (piece_at t.OpenBrace p b) ts _ (refl, refl) (nil refl)) h.1) h.2.1) h.2.2)), tt)

pub renaming-sound : SoundRows TheRenaming renaming_rows make_renaming
renaming-sound = ((λ p b ts vs rest h. (join _ _ _ _ _ (join _ _ _ _ _ (cons (spelled t.Name p b) [] (piece_at t.Name p b) ts _ (refl, refl, refl) (nil refl)) h.1) h.2)), tt)

pub more_renamings-sound : SoundRows MoreRenamings more_renamings_rows make_more_renamings
more_renamings-sound = ((λ p b ts vs rest h. (join _ _ _ _ _ (join _ _ _ _ _ (cons (fixed t.Comma) [] (piece_at t.Comma p b) ts _ refl (nil refl)) h.1) h.2)), tt)

pub renamings-sound : SoundRows TheRenamings renamings_rows make_renamings
renamings-sound = ((λ p b ts vs rest h. (join _ _ _ _ _ (join _ _ _ _ _ (join _ _ _ _ _ (cons (at t.OpenBrace p) [] (piece_at t.OpenBrace p b) ts _ (refl, refl) (nil refl)) h.1) h.2.1) h.2.2)), tt)

pub portion-sound : SoundRows ThePortion portion_rows make_portion
portion-sound = ((λ p b ts vs rest h. (join _ _ _ _ _ (cons (at t.Portion p) [] (piece_at t.Portion p b) ts _ (refl, refl) (nil refl)) h)), tt)

pub maybe_portion-sound : SoundRows MaybePortion maybe_portion_rows make_maybe_portion
maybe_portion-sound = ((λ p b ts vs rest h. (join _ _ _ _ _ (cons (at t.Portion p) [] (piece_at t.Portion p b) ts _ (refl, refl) (nil refl)) h)), tt)

pub maybe_where-sound : SoundRows MaybeWhere maybe_where_rows make_maybe_where
maybe_where-sound = ((λ p b ts vs rest h. (join _ _ _ _ _ (cons (at t.Where p) [] (piece_at t.Where p b) ts _ (refl, refl) (nil refl)) h)), tt)

pub in_projection-sound : SoundRows InProjection in_projection_rows make_in_projection
in_projection-sound = (
  (λ p b ts vs rest h q from g. (join _ _ _ _ _ g (cons (fixed t.CloseBrace) [] (piece_at t.CloseBrace p b) ts _ refl (nil h)))),
  (
    (λ p b ts vs rest h q from g. (join _ _ _ _ _ (join _ _ _ _ _ (join _ _ _ _ _ g (cons (spelled t.Name p b) [] (piece_at t.Name p b) ts _ (refl, refl, refl) (nil refl))) h.1) h.2)),
    (
      (λ p b ts vs rest h q from g. (join _ _ _ _ _ (join _ _ _ _ _ (join _ _ _ _ _ (join _ _ _ _ _ (join _ _ _ _ _ g (cons (fixed t.All) [] (piece_at t.All p b) ts _ refl (nil refl))) h.1) h.2.1) h.2.2.1) h.2.2.2)),
      tt,
    ),
  ),
)

pub operand-sound : SoundRows TheOperand operand_rows make_operand
operand-sound = (append-sounds TheOperand (on t.Name Plain [] ∷ []) (literal_rows ++ (on t.Open (Opens (TheRel ∷ Just t.Close ∷ [])) [] ∷ on t.Pack (Opens (TheRel ∷ Just t.On ∷ TheList ∷ [])) [] ∷ on t.Unpack (Opens (TheRel ∷ Just t.On ∷ TheList ∷ [])) [] ∷ [])) ((λ p b v. Relvar (word p b)), tt) (append_makes TheOperand literal_rows (on t.Open (Opens (TheRel ∷ Just t.Close ∷ [])) [] ∷ on t.Pack (Opens (TheRel ∷ Just t.On ∷ TheList ∷ [])) [] ∷ on t.Unpack (Opens (TheRel ∷ Just t.On ∷ TheList ∷ [])) [] ∷ []) (over_makes TheLiteral TheOperand (λ u. OfLiteral u) literal_rows make_literal) ((λ p b v. ParenRel p v.0), ((λ p b v. PackOn p pack_words.Pack v.0 v.1.1.0), ((λ p b v. PackOn p pack_words.Unpack v.0 v.1.1.0), tt)))) ((λ p b ts vs rest h. (cons (spelled t.Name p b) [] (piece_at t.Name p b) ts _ (refl, refl, refl) (nil h))), tt) (append-sounds TheOperand literal_rows (on t.Open (Opens (TheRel ∷ Just t.Close ∷ [])) [] ∷ on t.Pack (Opens (TheRel ∷ Just t.On ∷ TheList ∷ [])) [] ∷ on t.Unpack (Opens (TheRel ∷ Just t.On ∷ TheList ∷ [])) [] ∷ []) (over_makes TheLiteral TheOperand (λ u. OfLiteral u) literal_rows make_literal) ((λ p b v. ParenRel p v.0), ((λ p b v. PackOn p pack_words.Pack v.0 v.1.1.0), ((λ p b v. PackOn p pack_words.Unpack v.0 v.1.1.0), tt))) (over-sounds TheLiteral TheOperand (λ u. OfLiteral u) (λ u from rest h. h) literal_rows make_literal literal-sound) ((λ p b ts vs rest h. (join _ _ _ _ _ (join _ _ _ _ _ (cons (at t.Open p) [] (piece_at t.Open p b) ts _ (refl, refl) (nil refl)) h.1) h.2)), ((λ p b ts vs rest h. (join _ _ _ _ _ (join _ _ _ _ _ (join _ _ _ _ _ (cons (at t.Pack p) [] (piece_at t.Pack p b) ts _ (refl, refl) (nil refl)) h.1) h.2.1) h.2.2)), ((λ p b ts vs rest h. (join _ _ _ _ _ (join _ _ _ _ _ (join _ _ _ _ _ (cons (at t.Unpack p) [] (piece_at t.Unpack p b) ts _ (refl, refl) (nil refl)) h.1) h.2.1) h.2.2)), tt)))))

pub extend-sound : SoundRows TheExtend extend_rows make_extend
extend-sound = ((λ p b ts vs rest h. (join _ _ _ _ _ (join _ _ _ _ _ (join _ _ _ _ _ (cons (at t.Extend p) [] (piece_at t.Extend p b) ts _ (refl, refl) (nil refl)) h.1) h.2.1) h.2.2)), tt)

pub summarize-sound : SoundRows TheSummarize summarize_rows make_summarize
summarize-sound = ((λ p b ts vs rest h. (join _ _ _ _ _ (join _ _ _ _ _ (join _ _ _ _ _ (join _ _ _ _ _ (join _ _ _ _ _ (cons (at t.Summarize p) [] (piece_at t.Summarize p b) ts _ (refl, refl) (nil refl)) h.1) h.2.1) h.2.2.1) h.2.2.2.1) h.2.2.2.2)), tt)

pub rel_primary-sound : SoundRows TheRelPrimary rel_primary_rows make_rel_primary
rel_primary-sound = (append-sounds TheRelPrimary extend_rows (summarize_rows ++ operand_rows) (over_makes TheExtend TheRelPrimary (λ u. OfExtend u) extend_rows make_extend) (append_makes TheRelPrimary summarize_rows operand_rows (over_makes TheSummarize TheRelPrimary (λ u. OfSummarize u) summarize_rows make_summarize) (over_makes TheOperand TheRelPrimary (λ u. OfOperand u) operand_rows make_operand)) (over-sounds TheExtend TheRelPrimary (λ u. OfExtend u) (λ u from rest h. h) extend_rows make_extend extend-sound) (append-sounds TheRelPrimary summarize_rows operand_rows (over_makes TheSummarize TheRelPrimary (λ u. OfSummarize u) summarize_rows make_summarize) (over_makes TheOperand TheRelPrimary (λ u. OfOperand u) operand_rows make_operand) (over-sounds TheSummarize TheRelPrimary (λ u. OfSummarize u) (λ u from rest h. h) summarize_rows make_summarize summarize-sound) (over-sounds TheOperand TheRelPrimary (λ u. OfOperand u) (λ u from rest h. h) operand_rows make_operand operand-sound)))

pub term-sound : SoundRows TheTerm term_rows make_term
term-sound = then-sounds TheRelPrimary TheTerm MorePostfix (λ u w. w (OneRelPrimary u)) (λ u w from mid rest h g. g (OneRelPrimary u) from h) rel_primary_rows make_rel_primary rel_primary-sound

pub more_postfix-sound : SoundRows MorePostfix more_postfix_rows make_more_postfix
more_postfix-sound = (
  (λ p b ts vs rest h x from g. (h.2 (Project x (vs.0 p)) from (join _ _ _ _ _ g (h.1 p (piece_at t.OpenBrace p b ∷ ts) (cons (at t.OpenBrace p) [] (piece_at t.OpenBrace p b) ts _ (refl, refl) (nil refl)))))),
  (
    (λ p b ts vs rest h x from g. (h.2 (Filter x p vs.0) from (join _ _ _ _ _ (join _ _ _ _ _ g (cons (at t.Where p) [] (piece_at t.Where p b) ts _ (refl, refl) (nil refl))) h.1))),
    (
      (λ p b ts vs rest h x from g. (h.2 (Rename x p vs.0) from (join _ _ _ _ _ (join _ _ _ _ _ g (cons (at t.Rename p) [] (piece_at t.Rename p b) ts _ (refl, refl) (nil refl))) h.1))),
      tt,
    ),
  ),
)

pub terms-sound : SoundRows TheTerms terms_rows make_terms
terms-sound = then-sounds TheTerm TheTerms MoreInfix (λ u w. w (OneTerm u)) (λ u w from mid rest h g. g (OneTerm u) from h) term_rows make_term term-sound

pub more_infix-sound : SoundRows MoreInfix more_infix_rows make_more_infix
more_infix-sound = (
  (λ p b ts vs rest h x from g. (h.2 (Infix x p infixes.Union vs.0) from (join _ _ _ _ _ (join _ _ _ _ _ g (cons (at t.Union p) [] (piece_at t.Union p b) ts _ (refl, refl) (nil refl))) h.1))),
  (
    (λ p b ts vs rest h x from g. (h.2 (Infix x p infixes.Intersect vs.0) from (join _ _ _ _ _ (join _ _ _ _ _ g (cons (at t.Intersect p) [] (piece_at t.Intersect p b) ts _ (refl, refl) (nil refl))) h.1))),
    (
      (λ p b ts vs rest h x from g. (h.2 (Infix x p infixes.Minus vs.0) from (join _ _ _ _ _ (join _ _ _ _ _ g (cons (at t.Minus p) [] (piece_at t.Minus p b) ts _ (refl, refl) (nil refl))) h.1))),
      (
        (λ p b ts vs rest h x from g. (h.2 (Infix x p infixes.Join vs.0) from (join _ _ _ _ _ (join _ _ _ _ _ g (cons (at t.Join p) [] (piece_at t.Join p b) ts _ (refl, refl) (nil refl))) h.1))),
        (
          (λ p b ts vs rest h x from g. (h.2 (Infix x p infixes.Matching vs.0) from (join _ _ _ _ _ (join _ _ _ _ _ g (cons (at t.Matching p) [] (piece_at t.Matching p b) ts _ (refl, refl) (nil refl))) h.1))),
          (
            (λ p b ts vs rest h x from g. (h.2.2 (NotMatching x p vs.1.0) from (join _ _ _ _ _ (join _ _ _ _ _ (join _ _ _ _ _ g (cons (at t.Not p) [] (piece_at t.Not p b) ts _ (refl, refl) (nil refl))) h.1) h.2.1))),
            tt,
          ),
        ),
      ),
    ),
  ),
)

pub using-sound : SoundRows TheUsing using_rows make_using
using-sound = ((λ p b ts vs rest h. (join _ _ _ _ _ (join _ _ _ _ _ (join _ _ _ _ _ (cons (at t.Using p) [] (piece_at t.Using p b) ts _ (refl, refl) (nil refl)) h.1) h.2.1) h.2.2)), tt)

pub rel-sound : SoundRows TheRel rel_rows make_rel
rel-sound = (append-sounds TheRel using_rows terms_rows (over_makes TheUsing TheRel (λ u. OfUsing u) using_rows make_using) (over_makes TheTerms TheRel (λ u. OfTerms u) terms_rows make_terms) (over-sounds TheUsing TheRel (λ u. OfUsing u) (λ u from rest h. h) using_rows make_using using-sound) (over-sounds TheTerms TheRel (λ u. OfTerms u) (λ u from rest h. h) terms_rows make_terms terms-sound))

pub using_part-sound : SoundRows TheUsingPart using_part_rows make_using_part
using_part-sound = (append-sounds TheUsingPart extend_rows (summarize_rows ++ (operand_rows ▹ (AfterOperand ∷ []))) (over_makes TheExtend TheUsingPart (λ u. UsingExtend u) extend_rows make_extend) (append_makes TheUsingPart summarize_rows (operand_rows ▹ (AfterOperand ∷ [])) (over_makes TheSummarize TheUsingPart (λ u. UsingSummarize u) summarize_rows make_summarize) (then_makes TheOperand TheUsingPart AfterOperand (λ u w. w u) operand_rows make_operand)) (over-sounds TheExtend TheUsingPart (λ u. UsingExtend u) (λ u from rest h. h) extend_rows make_extend extend-sound) (append-sounds TheUsingPart summarize_rows (operand_rows ▹ (AfterOperand ∷ [])) (over_makes TheSummarize TheUsingPart (λ u. UsingSummarize u) summarize_rows make_summarize) (then_makes TheOperand TheUsingPart AfterOperand (λ u w. w u) operand_rows make_operand) (over-sounds TheSummarize TheUsingPart (λ u. UsingSummarize u) (λ u from rest h. h) summarize_rows make_summarize summarize-sound) (then-sounds TheOperand TheUsingPart AfterOperand (λ u w. w u) (λ u w from mid rest h g. g u from h) operand_rows make_operand operand-sound)))

pub after_operand-sound : SoundRows AfterOperand after_operand_rows make_after_operand
after_operand-sound = (
  (λ p b ts vs rest h x from g. (join _ _ _ _ _ (join _ _ _ _ _ g (cons (at t.Union p) [] (piece_at t.Union p b) ts _ (refl, refl) (nil refl))) h)),
  (
    (λ p b ts vs rest h x from g. (join _ _ _ _ _ (join _ _ _ _ _ g (cons (at t.Intersect p) [] (piece_at t.Intersect p b) ts _ (refl, refl) (nil refl))) h)),
    (
      (λ p b ts vs rest h x from g. (join _ _ _ _ _ (join _ _ _ _ _ g (cons (at t.Minus p) [] (piece_at t.Minus p b) ts _ (refl, refl) (nil refl))) h)),
      (
        (λ p b ts vs rest h x from g. (join _ _ _ _ _ (join _ _ _ _ _ g (cons (at t.Join p) [] (piece_at t.Join p b) ts _ (refl, refl) (nil refl))) h)),
        (
          (λ p b ts vs rest h x from g. (join _ _ _ _ _ (join _ _ _ _ _ g (cons (at t.Matching p) [] (piece_at t.Matching p b) ts _ (refl, refl) (nil refl))) h)),
          (
            (λ p b ts vs rest h x from g. (join _ _ _ _ _ (join _ _ _ _ _ (join _ _ _ _ _ g (cons (at t.Not p) [] (piece_at t.Not p b) ts _ (refl, refl) (nil refl))) h.1) h.2)),
            (
              (λ p b ts vs rest h x from g. (join _ _ _ _ _ g (h p (piece_at t.OpenBrace p b ∷ ts) (cons (at t.OpenBrace p) [] (piece_at t.OpenBrace p b) ts _ (refl, refl) (nil refl))))),
              (
                (λ p b ts vs rest h x from g. (join _ _ _ _ _ (join _ _ _ _ _ g (cons (at t.Where p) [] (piece_at t.Where p b) ts _ (refl, refl) (nil refl))) h)),
                tt,
              ),
            ),
          ),
        ),
      ),
    ),
  ),
)

pub key-sound : SoundRows TheKey key_rows make_key
key-sound = ((λ p b ts vs rest h. (join _ _ _ _ _ (cons (at t.Key p) [] (piece_at t.Key p b) ts _ (refl, refl) (nil refl)) h)), tt)

pub foreign-sound : SoundRows TheForeign foreign_rows make_foreign
foreign-sound = ((λ p b ts vs rest h. (join _ _ _ _ _ (join _ _ _ _ _ (join _ _ _ _ _ (join _ _ _ _ _ (cons (at t.Foreign p) [] (piece_at t.Foreign p b) ts _ (refl, refl) (nil refl)) h.1) h.2.1) h.2.2.1) h.2.2.2)), tt)

pub used_constraint-sound : SoundRows TheUsedConstraint used_constraint_rows make_used_constraint
used_constraint-sound = (append-sounds TheUsedConstraint key_rows foreign_rows (over_makes TheKey TheUsedConstraint (λ u. UsedKey u) key_rows make_key) (over_makes TheForeign TheUsedConstraint (λ u. UsedForeign u) foreign_rows make_foreign) (over-sounds TheKey TheUsedConstraint (λ u. UsedKey u) (λ u from rest h. h) key_rows make_key key-sound) (over-sounds TheForeign TheUsedConstraint (λ u. UsedForeign u) (λ u from rest h. h) foreign_rows make_foreign foreign-sound))

pub constraint-sound : SoundRows TheConstraint constraint_rows make_constraint
constraint-sound = (append-sounds TheConstraint key_rows (foreign_rows ++ (on t.Packed Plain (Just t.On ∷ TheList ∷ []) ∷ on t.When Plain (Just t.Unpacked ∷ Just t.On ∷ TheList ∷ Just t.Then ∷ TheKey ∷ []) ∷ on t.Using (Opens (TheList ∷ Just t.Colon ∷ TheUsedConstraint ∷ [])) [] ∷ [])) (over_makes TheKey TheConstraint (λ u. KeyOf u) key_rows make_key) (append_makes TheConstraint foreign_rows (on t.Packed Plain (Just t.On ∷ TheList ∷ []) ∷ on t.When Plain (Just t.Unpacked ∷ Just t.On ∷ TheList ∷ Just t.Then ∷ TheKey ∷ []) ∷ on t.Using (Opens (TheList ∷ Just t.Colon ∷ TheUsedConstraint ∷ [])) [] ∷ []) (over_makes TheForeign TheConstraint (λ u. ForeignOf u) foreign_rows make_foreign) ((λ p b v. PackedOn p v.1.0), ((λ p b v. WhenUnpacked p v.1.1.0 v.1.1.1.1.0), ((λ p b v. UsingConstraint p v.0 v.1.1.0), tt)))) (over-sounds TheKey TheConstraint (λ u. KeyOf u) (λ u from rest h. h) key_rows make_key key-sound) (append-sounds TheConstraint foreign_rows (on t.Packed Plain (Just t.On ∷ TheList ∷ []) ∷ on t.When Plain (Just t.Unpacked ∷ Just t.On ∷ TheList ∷ Just t.Then ∷ TheKey ∷ []) ∷ on t.Using (Opens (TheList ∷ Just t.Colon ∷ TheUsedConstraint ∷ [])) [] ∷ []) (over_makes TheForeign TheConstraint (λ u. ForeignOf u) foreign_rows make_foreign) ((λ p b v. PackedOn p v.1.0), ((λ p b v. WhenUnpacked p v.1.1.0 v.1.1.1.1.0), ((λ p b v. UsingConstraint p v.0 v.1.1.0), tt))) (over-sounds TheForeign TheConstraint (λ u. ForeignOf u) (λ u from rest h. h) foreign_rows make_foreign foreign-sound) ((λ p b ts vs rest h. (join _ _ _ _ _ (join _ _ _ _ _ (cons (at t.Packed p) [] (piece_at t.Packed p b) ts _ (refl, refl) (nil refl)) h.1) h.2)), ((λ p b ts vs rest h. (join _ _ _ _ _ (join _ _ _ _ _ (join _ _ _ _ _ (join _ _ _ _ _ (join _ _ _ _ _ (cons (at t.When p) [] (piece_at t.When p b) ts _ (refl, refl) (nil refl)) h.1) h.2.1) h.2.2.1) h.2.2.2.1) h.2.2.2.2)), ((λ p b ts vs rest h. (join _ _ _ _ _ (join _ _ _ _ _ (join _ _ _ _ _ (cons (at t.Using p) [] (piece_at t.Using p b) ts _ (refl, refl) (nil refl)) h.1) h.2.1) h.2.2)), tt)))))

pub more_constraints-sound : SoundRows MoreConstraints more_constraints_rows make_more_constraints
more_constraints-sound = then-sounds TheConstraint MoreConstraints MoreConstraints (λ u w. u ∷ w) (λ u w from mid rest h g. join _ _ _ _ _ h g) constraint_rows make_constraint constraint-sound

pub in_rel-sound : SoundRows InRel in_rel_rows make_in_rel
in_rel-sound = ((λ p b ts vs rest h. (join _ _ _ _ _ (join _ _ _ _ _ (cons (fixed t.Open) [] (piece_at t.Open p b) ts _ refl (nil refl)) h.1) h.2)), tt)

pub kept-sound : SoundRows TheKept kept_rows make_kept
kept-sound = (
  (λ p b ts vs rest h. (h.2.2.2 p vs.0 vs.1.1.0 (piece_at t.Using p b ∷ ts) (join _ _ _ _ _ (join _ _ _ _ _ (join _ _ _ _ _ (cons (at t.Using p) [] (piece_at t.Using p b) ts _ (refl, refl) (nil refl)) h.1) h.2.1) h.2.2.1))),
  (
    (λ p b ts vs rest h. (join _ _ _ _ _ (join _ _ _ _ _ (join _ _ _ _ _ (cons (at t.Pack p) [] (piece_at t.Pack p b) ts _ (refl, refl) (nil refl)) h.1) h.2.1) h.2.2)),
    tt,
  ),
)

pub after_kept-sound : SoundRows AfterKept after_kept_rows make_after_kept
after_kept-sound = (
  (λ p b ts vs rest h p0 a l from g. (join _ _ _ _ _ (join _ _ _ _ _ g (cons (at t.Union p) [] (piece_at t.Union p b) ts _ (refl, refl) (nil refl))) h)),
  (
    (λ p b ts vs rest h p0 a l from g. (join _ _ _ _ _ (join _ _ _ _ _ g (cons (at t.Intersect p) [] (piece_at t.Intersect p b) ts _ (refl, refl) (nil refl))) h)),
    (
      (λ p b ts vs rest h p0 a l from g. (join _ _ _ _ _ (join _ _ _ _ _ g (cons (at t.Minus p) [] (piece_at t.Minus p b) ts _ (refl, refl) (nil refl))) h)),
      (
        (λ p b ts vs rest h p0 a l from g. (join _ _ _ _ _ (join _ _ _ _ _ g (cons (at t.Join p) [] (piece_at t.Join p b) ts _ (refl, refl) (nil refl))) h)),
        (
          (λ p b ts vs rest h p0 a l from g. (join _ _ _ _ _ (join _ _ _ _ _ g (cons (at t.Matching p) [] (piece_at t.Matching p b) ts _ (refl, refl) (nil refl))) h)),
          (
            (λ p b ts vs rest h p0 a l from g. (join _ _ _ _ _ (join _ _ _ _ _ (join _ _ _ _ _ g (cons (at t.Not p) [] (piece_at t.Not p b) ts _ (refl, refl) (nil refl))) h.1) h.2)),
            (
              (λ p b ts vs rest h p0 a l from g. (join _ _ _ _ _ g (h p (piece_at t.OpenBrace p b ∷ ts) (cons (at t.OpenBrace p) [] (piece_at t.OpenBrace p b) ts _ (refl, refl) (nil refl))))),
              tt,
            ),
          ),
        ),
      ),
    ),
  ),
)

pub in_kept-sound : SoundRows InKept in_kept_rows make_in_kept
in_kept-sound = ((λ p b ts vs rest h. (join _ _ _ _ _ (join _ _ _ _ _ (cons (fixed t.Open) [] (piece_at t.Open p b) ts _ refl (nil refl)) h.1) h.2)), tt)

pub var_form-sound : SoundRows TheVarForm var_form_rows make_var_form
var_form-sound = (
  (λ p b ts vs rest h. (join _ _ _ _ _ (join _ _ _ _ _ (cons (at t.Relation p) [] (piece_at t.Relation p b) ts _ (refl, refl) (nil refl)) h.1) h.2)),
  (
    (λ p b ts vs rest h. (join _ _ _ _ _ (cons (at t.Virtual p) [] (piece_at t.Virtual p b) ts _ (refl, refl) (nil refl)) h)),
    (
      (λ p ts vs rest h. (join _ _ _ _ _ (cons (spelled t.Name p kept_word) [] (piece_at t.Name p kept_word) ts _ (refl, refl, refl) (nil refl)) h)),
      tt,
    ),
  ),
)

pub comparison-sound : SoundRows TheComparison comparison_rows make_comparison
comparison-sound = then-sounds TheOperand TheComparison AfterLeft (λ u w. w u) (λ u w from mid rest h g. g u from h) operand_rows make_operand operand-sound

pub after_left-sound : SoundRows AfterLeft after_left_rows make_after_left
after_left-sound = (
  (λ p b ts vs rest h x from g. (join _ _ _ _ _ (join _ _ _ _ _ g (cons (at t.Equal p) [] (piece_at t.Equal p b) ts _ (refl, refl) (nil refl))) h)),
  (
    (λ p b ts vs rest h x from g. (join _ _ _ _ _ (join _ _ _ _ _ g (cons (at t.NotEqual p) [] (piece_at t.NotEqual p b) ts _ (refl, refl) (nil refl))) h)),
    (
      (λ p b ts vs rest h x from g. (join _ _ _ _ _ (join _ _ _ _ _ g (cons (at t.Less p) [] (piece_at t.Less p b) ts _ (refl, refl) (nil refl))) h)),
      (
        (λ p b ts vs rest h x from g. (join _ _ _ _ _ (join _ _ _ _ _ g (cons (at t.LessEqual p) [] (piece_at t.LessEqual p b) ts _ (refl, refl) (nil refl))) h)),
        (
          (λ p b ts vs rest h x from g. (join _ _ _ _ _ (join _ _ _ _ _ g (cons (at t.Greater p) [] (piece_at t.Greater p b) ts _ (refl, refl) (nil refl))) h)),
          (
            (λ p b ts vs rest h x from g. (join _ _ _ _ _ (join _ _ _ _ _ g (cons (at t.GreaterEqual p) [] (piece_at t.GreaterEqual p b) ts _ (refl, refl) (nil refl))) h)),
            tt,
          ),
        ),
      ),
    ),
  ),
)

pub test-sound : SoundRows TheTest test_rows make_test
test-sound = (append-sounds TheTest (on t.Using (Opens (TheList ∷ Just t.Colon ∷ TheComparison ∷ [])) [] ∷ on t.IsEmpty Plain (InRel ∷ []) ∷ on t.IsNotEmpty Plain (InRel ∷ []) ∷ []) comparison_rows ((λ p b v. UsingTest p v.0 v.1.1.0), ((λ p b v. Emptiness p emptinesses.IsEmpty v.0), ((λ p b v. Emptiness p emptinesses.IsNotEmpty v.0), tt))) (over_makes TheComparison TheTest (λ u. OfComparison u) comparison_rows make_comparison) ((λ p b ts vs rest h. (join _ _ _ _ _ (join _ _ _ _ _ (join _ _ _ _ _ (cons (at t.Using p) [] (piece_at t.Using p b) ts _ (refl, refl) (nil refl)) h.1) h.2.1) h.2.2)), ((λ p b ts vs rest h. (join _ _ _ _ _ (cons (at t.IsEmpty p) [] (piece_at t.IsEmpty p b) ts _ (refl, refl) (nil refl)) h)), ((λ p b ts vs rest h. (join _ _ _ _ _ (cons (at t.IsNotEmpty p) [] (piece_at t.IsNotEmpty p b) ts _ (refl, refl) (nil refl)) h)), tt))) (over-sounds TheComparison TheTest (λ u. OfComparison u) (λ u from rest h. h) comparison_rows make_comparison comparison-sound))

pub used_deletion-sound : SoundRows TheUsedDeletion used_deletion_rows make_used_deletion
used_deletion-sound = (append-sounds TheUsedDeletion (on t.Where Plain (TheScalar ∷ []) ∷ []) rel_rows ((λ p b v. UsedDeleteWhere p v.0), tt) (over_makes TheRel TheUsedDeletion (λ u. UsedDeleteRows u) rel_rows make_rel) ((λ p b ts vs rest h. (join _ _ _ _ _ (cons (at t.Where p) [] (piece_at t.Where p b) ts _ (refl, refl) (nil refl)) h)), tt) (over-sounds TheRel TheUsedDeletion (λ u. UsedDeleteRows u) (λ u from rest h. h) rel_rows make_rel rel-sound))

pub used_item-sound : SoundRows TheUsedItem used_item_rows make_used_item
used_item-sound = (
  (λ p b ts vs rest h. (join _ _ _ _ _ (join _ _ _ _ _ (cons (at t.Insert p) [] (piece_at t.Insert p b) ts _ (refl, refl) (nil refl)) h.1) h.2)),
  (
    (λ p b ts vs rest h. (join _ _ _ _ _ (join _ _ _ _ _ (cons (at t.Delete p) [] (piece_at t.Delete p b) ts _ (refl, refl) (nil refl)) h.1) h.2)),
    (
      (λ p b ts vs rest h. (join _ _ _ _ _ (join _ _ _ _ _ (join _ _ _ _ _ (join _ _ _ _ _ (cons (at t.Update p) [] (piece_at t.Update p b) ts _ (refl, refl) (nil refl)) h.1) h.2.1) h.2.2.1) h.2.2.2)),
      tt,
    ),
  ),
)

pub deletion-sound : SoundRows TheDeletion deletion_rows make_deletion
deletion-sound = (append-sounds TheDeletion (on t.Where Plain (TheScalar ∷ []) ∷ []) ((portion_rows ▹ (MaybeWhere ∷ [])) ++ rel_rows) ((λ p b v. DeleteWhere p v.0), tt) (append_makes TheDeletion (portion_rows ▹ (MaybeWhere ∷ [])) rel_rows (then_makes ThePortion TheDeletion MaybeWhere (λ u w. DeletePortion u w) portion_rows make_portion) (over_makes TheRel TheDeletion (λ u. DeleteRows u) rel_rows make_rel)) ((λ p b ts vs rest h. (join _ _ _ _ _ (cons (at t.Where p) [] (piece_at t.Where p b) ts _ (refl, refl) (nil refl)) h)), tt) (append-sounds TheDeletion (portion_rows ▹ (MaybeWhere ∷ [])) rel_rows (then_makes ThePortion TheDeletion MaybeWhere (λ u w. DeletePortion u w) portion_rows make_portion) (over_makes TheRel TheDeletion (λ u. DeleteRows u) rel_rows make_rel) (then-sounds ThePortion TheDeletion MaybeWhere (λ u w. DeletePortion u w) (λ u w from mid rest h g. join _ _ _ _ _ h g) portion_rows make_portion portion-sound) (over-sounds TheRel TheDeletion (λ u. DeleteRows u) (λ u from rest h. h) rel_rows make_rel rel-sound)))

pub item-sound : SoundRows TheItem item_rows make_item
item-sound = (
  (λ p b ts vs rest h. (join _ _ _ _ _ (join _ _ _ _ _ (cons (spelled t.Name p b) [] (piece_at t.Name p b) ts _ (refl, refl, refl) (nil refl)) h.1) h.2)),
  (
    (λ p b ts vs rest h. (join _ _ _ _ _ (join _ _ _ _ _ (cons (at t.Insert p) [] (piece_at t.Insert p b) ts _ (refl, refl) (nil refl)) h.1) h.2)),
    (
      (λ p b ts vs rest h. (join _ _ _ _ _ (join _ _ _ _ _ (cons (at t.Delete p) [] (piece_at t.Delete p b) ts _ (refl, refl) (nil refl)) h.1) h.2)),
      (
        (λ p b ts vs rest h. (join _ _ _ _ _ (join _ _ _ _ _ (join _ _ _ _ _ (join _ _ _ _ _ (join _ _ _ _ _ (cons (at t.Update p) [] (piece_at t.Update p b) ts _ (refl, refl) (nil refl)) h.1) h.2.1) h.2.2.1) h.2.2.2.1) h.2.2.2.2)),
        (
          (λ p b ts vs rest h. (join _ _ _ _ _ (join _ _ _ _ _ (join _ _ _ _ _ (join _ _ _ _ _ (cons (at t.Terminate p) [] (piece_at t.Terminate p b) ts _ (refl, refl) (nil refl)) h.1) h.2.1) h.2.2.1) h.2.2.2)),
          (
            (λ p b ts vs rest h. (join _ _ _ _ _ (join _ _ _ _ _ (join _ _ _ _ _ (cons (at t.Using p) [] (piece_at t.Using p b) ts _ (refl, refl) (nil refl)) h.1) h.2.1) h.2.2)),
            tt,
          ),
        ),
      ),
    ),
  ),
)

pub more_items-sound : SoundRows MoreItems more_items_rows make_more_items
more_items-sound = ((λ p b ts vs rest h. (join _ _ _ _ _ (join _ _ _ _ _ (cons (fixed t.Comma) [] (piece_at t.Comma p b) ts _ refl (nil refl)) h.1) h.2)), tt)

pub assign-sound : SoundRows TheAssign assign_rows make_assign
assign-sound = then-sounds TheItem TheAssign MoreItems (λ u w. Assign u w) (λ u w from mid rest h g. join _ _ _ _ _ h g) item_rows make_item item-sound

pub statement-sound : SoundRows TheStatement statement_rows make_statement
statement-sound = (append-sounds TheStatement (on t.Semicolon Plain [] ∷ on t.TypeWord Plain (TheName ∷ Worded ordinal_word ∷ TheSomeNames ∷ Just t.Semicolon ∷ []) ∷ on t.Var Plain (TheName ∷ TheVarForm ∷ Just t.Semicolon ∷ []) ∷ on t.History Plain (TheName ∷ TheHeading ∷ TheKey ∷ Worded since_word ∷ TheName ∷ TheParenName ∷ Worded during_word ∷ TheName ∷ TheParenName ∷ Worded over_word ∷ ThePoint ∷ Just t.Semicolon ∷ []) ∷ on t.Constraint Plain (TheName ∷ TheTest ∷ Just t.Semicolon ∷ []) ∷ on t.Drop Plain (AfterDrop ∷ []) ∷ on t.Print Plain (TheRel ∷ Just t.Semicolon ∷ []) ∷ on t.Ask Plain (TheTest ∷ Just t.Semicolon ∷ []) ∷ spelt log_word (AfterLog ∷ []) ∷ []) (assign_rows ▹ (Just t.Semicolon ∷ [])) ((λ p b v. Nothing), ((λ p b v. DeclareOrdinal p v.0 v.1.1.0), ((λ p b v. DeclareRelvar p v.0 v.1.0), ((λ p b v. DeclareHistory p v.0 v.1.0 v.1.1.0 v.1.1.1.1.0 v.1.1.1.1.1.0 v.1.1.1.1.1.1.1.0 v.1.1.1.1.1.1.1.1.0 v.1.1.1.1.1.1.1.1.1.1.0), ((λ p b v. DeclareRule p v.0 v.1.0), ((λ p b v. v.0 p), ((λ p b v. Print p v.0), ((λ p b v. Ask p v.0), ((λ p b v. v.0 p), tt))))))))) (then_makes TheAssign TheStatement (Just t.Semicolon) (λ u w. Assignment u) assign_rows make_assign) ((λ p b ts vs rest h. (cons (fixed t.Semicolon) [] (piece_at t.Semicolon p b) ts _ refl (nil h))), ((λ p b ts vs rest h. (join _ _ _ _ _ (join _ _ _ _ _ (join _ _ _ _ _ (join _ _ _ _ _ (cons (at t.TypeWord p) [] (piece_at t.TypeWord p b) ts _ (refl, refl) (nil refl)) h.1) (loose_word _ _ _ _ h.2.1)) h.2.2.1) h.2.2.2)), ((λ p b ts vs rest h. (join _ _ _ _ _ (join _ _ _ _ _ (join _ _ _ _ _ (cons (at t.Var p) [] (piece_at t.Var p b) ts _ (refl, refl) (nil refl)) h.1) h.2.1) h.2.2)), ((λ p b ts vs rest h. (join _ _ _ _ _ (join _ _ _ _ _ (join _ _ _ _ _ (join _ _ _ _ _ (join _ _ _ _ _ (join _ _ _ _ _ (join _ _ _ _ _ (join _ _ _ _ _ (join _ _ _ _ _ (join _ _ _ _ _ (join _ _ _ _ _ (join _ _ _ _ _ (cons (at t.History p) [] (piece_at t.History p b) ts _ (refl, refl) (nil refl)) h.1) h.2.1) h.2.2.1) (loose_word _ _ _ _ h.2.2.2.1)) h.2.2.2.2.1) h.2.2.2.2.2.1) (loose_word _ _ _ _ h.2.2.2.2.2.2.1)) h.2.2.2.2.2.2.2.1) h.2.2.2.2.2.2.2.2.1) (loose_word _ _ _ _ h.2.2.2.2.2.2.2.2.2.1)) h.2.2.2.2.2.2.2.2.2.2.1) h.2.2.2.2.2.2.2.2.2.2.2)), ((λ p b ts vs rest h. (join _ _ _ _ _ (join _ _ _ _ _ (join _ _ _ _ _ (cons (at t.Constraint p) [] (piece_at t.Constraint p b) ts _ (refl, refl) (nil refl)) h.1) h.2.1) h.2.2)), ((λ p b ts vs rest h. (h p (piece_at t.Drop p b ∷ ts) (cons (at t.Drop p) [] (piece_at t.Drop p b) ts _ (refl, refl) (nil refl)))), ((λ p b ts vs rest h. (join _ _ _ _ _ (join _ _ _ _ _ (cons (at t.Print p) [] (piece_at t.Print p b) ts _ (refl, refl) (nil refl)) h.1) h.2)), ((λ p b ts vs rest h. (join _ _ _ _ _ (join _ _ _ _ _ (cons (at t.Ask p) [] (piece_at t.Ask p b) ts _ (refl, refl) (nil refl)) h.1) h.2)), ((λ p ts vs rest h. (h p (piece_at t.Name p log_word ∷ ts) (cons (spelled t.Name p log_word) [] (piece_at t.Name p log_word) ts _ (refl, refl, refl) (nil refl)))), tt))))))))) (then-sounds TheAssign TheStatement (Just t.Semicolon) (λ u w. Assignment u) (λ u w from mid rest h g. join _ _ _ _ _ h g) assign_rows make_assign assign-sound))

pub after_drop-sound : SoundRows AfterDrop after_drop_rows make_after_drop
after_drop-sound = (
  (λ p b ts vs rest h q from g. (join _ _ _ _ _ (join _ _ _ _ _ (join _ _ _ _ _ g (cons (fixed t.Var) [] (piece_at t.Var p b) ts _ refl (nil refl))) h.1) h.2)),
  (
    (λ p b ts vs rest h q from g. (join _ _ _ _ _ (join _ _ _ _ _ (join _ _ _ _ _ g (cons (at t.Constraint p) [] (piece_at t.Constraint p b) ts _ (refl, refl) (nil refl))) h.1) h.2)),
    tt,
  ),
)

pub after_log-sound : SoundRows AfterLog after_log_rows make_after_log
after_log-sound = (
  (λ p b ts vs rest h q from g. (join _ _ _ _ _ (join _ _ _ _ _ (join _ _ _ _ _ (join _ _ _ _ _ (join _ _ _ _ _ g (cons (spelled t.Name p b) [] (piece_at t.Name p b) ts _ (refl, refl, refl) (nil refl))) (loose_word _ _ _ _ h.1)) h.2.1) h.2.2.1) h.2.2.2)),
  (
    (λ p b ts vs rest h q from g. (join _ _ _ _ _ (join _ _ _ _ _ (join _ _ _ _ _ (join _ _ _ _ _ g (cons (fixed t.Assign) [] (piece_at t.Assign p b) ts _ refl (nil refl))) h.1) h.2.1) h.2.2)),
    tt,
  ),
)

pub sounds : (s : Symbol) → SoundRows s (rows s) (makes s)
sounds TheName = name-sound
sounds Comma = comma-sound
sounds DateText = date_text-sound
sounds MomentText = moment_text-sound
sounds NegativeDigits = negative_digits-sound
sounds ThePrimary = primary-sound
sounds AfterName = after_name-sound
sounds AfterScalar = after_scalar-sound
sounds EndOfSelector = end_of_selector-sound
sounds InParens = in_parens-sound
sounds InPair = in_pair-sound
sounds InPoint = in_point-sound
sounds TheSign = sign-sound
sounds TheProd = prod-sound
sounds MoreProd = more_prod-sound
sounds TheSum = sum-sound
sounds MoreSum = more_sum-sound
sounds TheCmp = cmp-sound
sounds MoreCmp = more_cmp-sound
sounds TheNeg = neg-sound
sounds TheConj = conj-sound
sounds MoreAnd = more_and-sound
sounds TheScalar = scalar-sound
sounds MoreOr = more_or-sound
sounds ThePoint = point-sound
sounds TheKind = kind-sound
sounds TheAttribute = attribute-sound
sounds MoreAttributes = more_attributes-sound
sounds InHeading = in_heading-sound
sounds TheHeading = heading-sound
sounds MoreNames = more_names-sound
sounds InNames = in_names-sound
sounds InList = in_list-sound
sounds TheNames = names-sound
sounds TheList = list-sound
sounds TheSomeNames = some_names-sound
sounds TheParenName = paren_name-sound
sounds TheElement = element-sound
sounds MoreElements = more_elements-sound
sounds InElements = in_elements-sound
sounds TheElements = elements-sound
sounds TheSomeElements = some_elements-sound
sounds TheTuple = tuple-sound
sounds MoreTuples = more_tuples-sound
sounds InTuples = in_tuples-sound
sounds TheTuples = tuples-sound
sounds TheLiteral = literal-sound
sounds AfterRelation = after_relation-sound
sounds TheSetItem = set_item-sound
sounds MoreSetItems = more_set_items-sound
sounds TheSets = sets-sound
sounds EmptyParens = empty_parens-sound
sounds TheAggregateForm = aggregate_form-sound
sounds TheAggregate = aggregate-sound
sounds MoreAggregates = more_aggregates-sound
sounds TheAggregates = aggregates-sound
sounds TheRenaming = renaming-sound
sounds MoreRenamings = more_renamings-sound
sounds TheRenamings = renamings-sound
sounds ThePortion = portion-sound
sounds MaybePortion = maybe_portion-sound
sounds MaybeWhere = maybe_where-sound
sounds InProjection = in_projection-sound
sounds TheOperand = operand-sound
sounds TheExtend = extend-sound
sounds TheSummarize = summarize-sound
sounds TheRelPrimary = rel_primary-sound
sounds TheTerm = term-sound
sounds MorePostfix = more_postfix-sound
sounds TheTerms = terms-sound
sounds MoreInfix = more_infix-sound
sounds TheUsing = using-sound
sounds TheRel = rel-sound
sounds TheUsingPart = using_part-sound
sounds AfterOperand = after_operand-sound
sounds TheKey = key-sound
sounds TheForeign = foreign-sound
sounds TheUsedConstraint = used_constraint-sound
sounds TheConstraint = constraint-sound
sounds MoreConstraints = more_constraints-sound
sounds InRel = in_rel-sound
sounds TheKept = kept-sound
sounds AfterKept = after_kept-sound
sounds InKept = in_kept-sound
sounds TheVarForm = var_form-sound
sounds TheComparison = comparison-sound
sounds AfterLeft = after_left-sound
sounds TheTest = test-sound
sounds TheUsedDeletion = used_deletion-sound
sounds TheUsedItem = used_item-sound
sounds TheDeletion = deletion-sound
sounds TheItem = item-sound
sounds MoreItems = more_items-sound
sounds TheAssign = assign-sound
sounds TheStatement = statement-sound
sounds AfterDrop = after_drop-sound
sounds AfterLog = after_log-sound
sounds (Just x) = ((λ p b ts vs rest h. cons (fixed x) [] (piece_at x p b) ts _ refl (nil h)), tt)
sounds (Worded w) = ((λ p ts vs rest h. cons (spelled t.Name p w) [] (piece_at t.Name p w) ts _ (refl, refl, refl) (nil h)), tt)
sounds (Shut outer) = tt

-- a form that ends before its first token writes nothing
abbrev pub EndSound : (s : Symbol) (e : Bool) → Ended s e → Type 0
EndSound s true v = (rest : List Piece) → Writes s v rest rest
EndSound s false v = Unit {0}

pub end-sounds : (s : Symbol) → EndSound s (may_end s) (end_value s)
end-sounds AfterName = λ rest w from g. g
end-sounds MoreProd = λ rest x from g. g
end-sounds MoreSum = λ rest x from g. g
end-sounds MoreCmp = λ rest x from g. g
end-sounds MoreAnd = λ rest x from g. g
end-sounds MoreOr = λ rest x from g. g
end-sounds MoreAttributes = λ rest. nil refl
end-sounds MoreNames = λ rest. nil refl
end-sounds MoreElements = λ rest. nil refl
end-sounds MoreTuples = λ rest. nil refl
end-sounds MoreSetItems = λ rest. nil refl
end-sounds MoreAggregates = λ rest. nil refl
end-sounds MoreRenamings = λ rest. nil refl
end-sounds MaybePortion = λ rest. nil refl
end-sounds MaybeWhere = λ rest. nil refl
end-sounds MorePostfix = λ rest x from g. g
end-sounds MoreInfix = λ rest x from g. g
end-sounds MoreConstraints = λ rest. nil refl
end-sounds MoreItems = λ rest. nil refl
end-sounds (Shut outer) = λ rest. refl
end-sounds _ = tt

pub all : List Terminal
all = t.All ∷ t.After ∷ t.And ∷ t.As ∷ t.Ask ∷ t.Before ∷ t.Begin ∷ t.Begins ∷ t.Boolean ∷ t.But ∷ t.By ∷ t.Char ∷ t.Constraint ∷ t.Count ∷ t.Date ∷ t.Delete ∷ t.Drop ∷ t.End ∷ t.Ends ∷ t.Extend ∷ t.False ∷ t.First ∷ t.Foreign ∷ t.History ∷ t.In ∷ t.IncludedIn ∷ t.Includes ∷ t.Insert ∷ t.Integer ∷ t.Intersect ∷ t.Interval ∷ t.IsEmpty ∷ t.IsNotEmpty ∷ t.Join ∷ t.Key ∷ t.Last ∷ t.Matching ∷ t.Max ∷ t.Meets ∷ t.Merges ∷ t.Min ∷ t.Minus ∷ t.Moment ∷ t.Next ∷ t.Not ∷ t.On ∷ t.Or ∷ t.Overlaps ∷ t.Pack ∷ t.Packed ∷ t.Portion ∷ t.Post ∷ t.Pre ∷ t.Print ∷ t.Prior ∷ t.References ∷ t.Relation ∷ t.Rename ∷ t.Sum ∷ t.Summarize ∷ t.Terminate ∷ t.Then ∷ t.True ∷ t.Tuple ∷ t.TypeWord ∷ t.Union ∷ t.Unpack ∷ t.Unpacked ∷ t.Update ∷ t.Using ∷ t.Var ∷ t.Virtual ∷ t.When ∷ t.Where ∷ t.Open ∷ t.Close ∷ t.OpenBracket ∷ t.CloseBracket ∷ t.OpenBrace ∷ t.CloseBrace ∷ t.Comma ∷ t.Semicolon ∷ t.Colon ∷ t.Assign ∷ t.Equal ∷ t.NotEqual ∷ t.Less ∷ t.LessEqual ∷ t.Greater ∷ t.GreaterEqual ∷ t.Plus ∷ t.Dash ∷ t.Star ∷ t.Slash ∷ t.Bars ∷ t.Dot ∷ t.Name ∷ t.Digits ∷ t.Quoted ∷ t.Finish ∷ []

pub of_number : ℕ → Terminal
of_number n = get_or all n t.Finish

pub numbered : (x : Terminal) → of_number (number x) ≡ x
unfolding of_number all
numbered t.All = refl
numbered _ = refl

pub number-same : (a b : Terminal) → same a b ≡ true → a ≡ b
number-same a b e = sym (numbered a) ∙ ap of_number (eqb-true _ _ e) ∙ numbered b

pub same-self : (a : Terminal) → same a a ≡ true
same-self t.All = refl
same-self _ = refl

pub number-eq : (n : ℕ) → (n == n) ≡ true
number-eq n = search rules

pub bytes-self : (b : List ℕ) → same_bytes b b ≡ true
bytes-self [] = refl
bytes-self (x ∷ xs) = both (x == x) (same_bytes xs xs) (number-eq x) (bytes-self xs)
  where
    both : (a b : Bool) → a ≡ true → b ≡ true → (a && b) ≡ true
    both true b h g = g
    both false b h g = h

pub true-false : (c : Bool) → c ≡ true → c ≡ false → ⊥
true-false c a b = cc

-- what a turn makes
abbrev pub SoundTurn : (s : Symbol) (r : Turn) → Built s r → Piece → List Piece → Type 0
SoundTurn s Never v x ts = Unit {0}
SoundTurn s Ends v x ts = (rest : List Piece) → Writes s v rest rest
SoundTurn s (Takes how more) v x ts = (vs : Vals (inner how ++ more)) (rest : List Piece) → Chain (inner how ++ more) vs ts rest → Writes s (v vs) (x ∷ ts) rest

pub by_case-sound : (s : Symbol) (how : Taking) (more : List Symbol) (how' : Taking) (more' : List Symbol) (c : Bool) (f : Case s how more) (g : Case s how' more') (x : Piece) (ts : List Piece) → (c ≡ true → SoundCase s how more f x ts) → (c ≡ false → SoundCase s how' more' g x ts) → SoundTurn s (cond c (Takes how more) (Takes how' more')) (by_case s how more how' more' c f g x.place x.bytes) x ts
by_case-sound s how more how' more' true f g x ts h k = h refl
by_case-sound s how more how' more' false f g x ts h k = k refl

pub made-sound : (s : Symbol) (r : Row) (m : Make s r) → SoundRow s r m → (x : Terminal) (p : Place) (b : List ℕ) (ts : List Piece) → fits r x b ≡ true → SoundTurn s (chosen r (first ts)) (made s r m (first ts) p b) (piece_at x p b) ts
made-sound s (on y how more) m h x p b ts e = subst (λ z. SoundCase s how more m (piece_at z p b) ts) (number-same y x e) (h p b ts)
made-sound s (spelt c more) m h x p b ts e =
    let a : t.Name ≡ x = number-same t.Name x (both-left (same t.Name x) (same_bytes c b) e) in
    let d : c ≡ b = bytes-same c b (both-right (same t.Name x) (same_bytes c b) e) in
    subst (λ z. SoundCase s Plain more m (piece_at z p b) ts) a (subst (λ z. SoundCase s Plain more m (piece_at t.Name p z) ts) d (h p ts))
made-sound s (before y z how more how' more') m h x p b ts e =
    by_case-sound s how more how' more' (same z (first ts)) m.0 m.1 (piece_at x p b) ts
    (λ c. subst (λ w. SoundCase s how more m.0 (piece_at w p b) ts) (number-same y x e) (h.0 p b ts (sym (number-same z (first ts) c))))
    (λ c. subst (λ w. SoundCase s how' more' m.1 (piece_at w p b) ts) (number-same y x e) (h.1 p b ts (λ q. true-false (same z (first ts)) (ap (same z) q ∙ same-self z) c)))

pub pick-sound : (s : Symbol) (c : Bool) (r r' : Turn) (v : Built s r) (w : Built s r') (x : Piece) (ts : List Piece) → (c ≡ true → SoundTurn s r v x ts) → SoundTurn s r' w x ts → SoundTurn s (cond c r r') (pick s c r r' v w) x ts
pick-sound s true r r' v w x ts h k = h refl
pick-sound s false r r' v w x ts h k = k

pub found_end-sound : (s : Symbol) (e : Bool) (v : Ended s e) (x : Piece) (ts : List Piece) → EndSound s e v → SoundTurn s (cond e Ends Never) (found_end s e v) x ts
found_end-sound s true v x ts h = h
found_end-sound s false v x ts h = tt

pub found-sound : (s : Symbol) (rs : List Row) (ms : Makes s rs) → SoundRows s rs ms → (e : Bool) (v : Ended s e) → EndSound s e v → (x : Terminal) (p : Place) (b : List ℕ) (ts : List Piece) → SoundTurn s (find rs e x b (first ts)) (found s rs ms e v x b (first ts) p) (piece_at x p b) ts
found-sound s [] ms h e v k x p b ts = found_end-sound s e v (piece_at x p b) ts k
found-sound s (r ∷ rs) ms h e v k x p b ts = pick-sound s (fits r x b) (chosen r (first ts)) (find rs e x b (first ts)) (made s r ms.0 (first ts) p b) (found s rs ms.1 e v x b (first ts) p) (piece_at x p b) ts (made-sound s r ms.0 h.0 x p b ts) (found-sound s rs ms.1 h.1 e v k x p b ts)

pub sound-row : (s : Symbol) (x : Terminal) (p : Place) (b : List ℕ) (ts : List Piece) → SoundTurn s (turn s x b (first ts)) (build s x b (first ts) p) (piece_at x p b) ts
sound-row s x p b ts = found-sound s (rows s) (makes s) (sounds s) (may_end s) (end_value s) (end-sounds s) x p b ts

-- what is read has values that write the tokens
abbrev pub SoundAt : (stack : List Symbol) → Go stack → List Piece → Option StatementP → Type 0
SoundAt stack k ts None = Unit {0}
SoundAt stack k ts (Some x) = (vs : Vals stack) × (k vs ≡ x) × WritesAll stack vs ts []

pub ends-lift : (s : Symbol) (stack : List Symbol) (v : Val s) (k : Go (s ∷ stack)) (ts : List Piece) (o : Option StatementP) → Writes s v ts ts → SoundAt stack (λ vs. k (v, vs)) ts o → SoundAt (s ∷ stack) k ts o
ends-lift s stack v k ts None w h = tt
ends-lift s stack v k ts (Some x) w h = ((v, h.0), h.1, (ts, w, h.2))

pub unsplit : (xs ys : List Symbol) (vs : Vals (xs ++ ys)) (ts rest : List Piece) → WritesAll (xs ++ ys) vs ts rest → (mid : List Piece) × WritesAll xs (split xs ys vs).0 ts mid × WritesAll ys (split xs ys vs).1 mid rest
unsplit [] ys vs ts rest h = (ts, refl, h)
unsplit (x ∷ xs) ys vs ts rest h = let r = unsplit xs ys vs.1 h.0 rest h.2 in (r.0, (h.0, h.1, r.1), r.2)

pub takes-lift : (s : Symbol) (row stack : List Symbol) (f : Vals row → Val s) (k : Go (s ∷ stack)) (x : Piece) (ts : List Piece) (o : Option StatementP) → ((vs : Vals row) (rest : List Piece) → Chain row vs ts rest → Writes s (f vs) (x ∷ ts) rest) → SoundAt (row ++ stack) (λ vs. k (f (split row stack vs).0, (split row stack vs).1)) ts o → SoundAt (s ∷ stack) k (x ∷ ts) o
takes-lift s row stack f k x ts None g h = tt
takes-lift s row stack f k x ts (Some y) g h =
    let r = unsplit row stack h.0 ts [] h.2 in
    let vs = split row stack h.0 in
    ((f vs.0, vs.1), h.1, (r.0, g vs.0 r.0 (chain row vs.0 ts r.0 r.1), r.2))

pub turn-sound : (s : Symbol) (r : Turn) (v : Built s r) (x : Piece) (ts : List Piece) (stack : List Symbol) (k : Go (s ∷ stack)) → SoundTurn s r v x ts → ((st : List Symbol) (g : Go st) → SoundAt st g ts (read ts st g)) → (beyond : Go stack → Option StatementP) → ((g : Go stack) → SoundAt stack g (x ∷ ts) (beyond g)) → SoundAt (s ∷ stack) k (x ∷ ts) (on_turn s r v stack (read ts) beyond k)
turn-sound s Never v x ts stack k row next beyond h = tt
turn-sound s Ends v x ts stack k row next beyond h = ends-lift s stack v k (x ∷ ts) _ (row (x ∷ ts)) (h _)
turn-sound s (Takes how more) v x ts stack k row next beyond h = takes-lift s (inner how ++ more) stack v k x ts _ row (next _ _)

pub at-sound : (x : Piece) (ts : List Piece) → ((st : List Symbol) (g : Go st) → SoundAt st g ts (read ts st g)) → (stack : List Symbol) (k : Go stack) → SoundAt stack k (x ∷ ts) (read_at x.terminal (first ts) x.place x.bytes (read ts) stack k)
at-sound x ts next [] k = tt
at-sound x ts next (s ∷ stack) k = turn-sound s (turn s x.terminal x.bytes (first ts)) (build s x.terminal x.bytes (first ts) x.place) x ts stack k (sound-row s x.terminal x.place x.bytes ts) next _ (at-sound x ts next stack)

pub end-turn-sound : (s : Symbol) (r : Turn) (v : Built s r) (x : Piece) (stack : List Symbol) (k : Go (s ∷ stack)) → SoundTurn s r v x [] → ((g : Go stack) → SoundAt stack g [] (read_end stack g)) → SoundAt (s ∷ stack) k [] (on_end s r v stack (read_end stack) k)
end-turn-sound s Never v x stack k row h = tt
end-turn-sound s Ends v x stack k row h = ends-lift s stack v k [] _ (row []) (h _)
end-turn-sound s (Takes how more) v x stack k row h = tt

pub end-sound : (stack : List Symbol) (k : Go stack) → SoundAt stack k [] (read_end stack k)
end-sound [] k = (tt, refl, refl)
end-sound (s ∷ stack) k = end-turn-sound s (turn s t.Finish [] t.Finish) (build s t.Finish [] t.Finish (place_of [])) (piece_at t.Finish (place_of []) []) stack k (sound-row s t.Finish (place_of []) [] []) (end-sound stack)

pub sound : (ts : List Piece) (stack : List Symbol) (k : Go stack) → SoundAt stack k ts (read ts stack k)
sound [] stack k = end-sound stack k
sound (x ∷ ts) stack k = at-sound x ts (sound ts) stack k

-- what the table accepts, a tree writes
pub from_read : (ts : List Piece) (load : Load) (o : Option StatementP) → SoundAt (TheStatement ∷ []) (λ v. v.0) ts o → Agree o (verdict no_limits ts (TheStatement ∷ []) load) → verdict no_limits ts (TheStatement ∷ []) load ≡ Whole → (x : StatementP) × Spells (of_statement x) ts []
from_read ts load None h a e = absurd (a e)
from_read ts load (Some x) h a e = (h.0.0, subst (λ r. Spells (of_statement h.0.0) ts r) h.2.2 h.2.1)

pub accepted-written : (ts : List Piece) (load : Load) → verdict no_limits ts (TheStatement ∷ []) load ≡ Whole → (x : StatementP) × Spells (of_statement x) ts []
accepted-written ts load e = from_read ts load _ (sound ts (TheStatement ∷ []) (λ v. v.0)) (agrees ts (TheStatement ∷ []) load (λ v. v.0)) e
