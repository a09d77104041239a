-- The values of the option and of the flag, in what a parse found.
use Rattle.std.proofs.Common.{◌≡◌, ◌⊎◌, ◌∙◌, ◌<◌, ap, ℕ, zero, suc, Bool, true, false, List, [], ◌∷◌, length, map, Option, Some, None, refl, sym, subst, inl, inr, arith, codes, slice_index}
use Rattle.std.specs.List.{All, slice_index_or}
use Rattle.std.specs.Str.{bytes_eq}
use Rattle.std.specs.Str.Parse.{ParsesBool}
use Rattle.std.specs.Prelude.{option_map, slice_get, unwrap_or}
use Rattle.std.specs.Borrow.{Bor}
use Rattle.std.proofs.lemmas.Bool.Decides.{nat_tests}
use Rattle.std.proofs.lemmas.List.{nil_from_length}
use Rattle.std.proofs.lemmas.Slice.Eq.{bytes_eq-Decides}
use Rattle.std.proofs.lemmas.List.Elements.{All-get_or, All-nil, All-push}
use Rattle.clap.specs.Facts.{args_of, groups_of, Entry, EntryPasses, PassesArg, HasReading, parser_of, parser_of_value}
use Rattle.clap.specs.Built.{IsPlain, IsPlainArg, IsParsedFrom}
use Rattle.clap.specs.Matches.{matched_of, one_text, found_of, ReadsOne}
use Rattle.clap.specs.Values.{Accepts, IsUnsignedIn, read_as, reading_of, kind_of}
use Rattle.clap.specs.declared.error.Error.{Error}
use Rattle.clap.specs.declared.error.kind.ErrorKind.TheVariants.{OutOfMemory}
use Rattle.clap.specs.Walk.{Rule, rule_of, is_empty, one_of}
use Rattle.clap.specs.Simple.{App, app_of, is_simple, matches_of, HasMatchesOf}
use Rattle.clap.specs.Faults.{fault_of, is_simple_and_free}
use Rattle.clap.specs.Kinds.{Kinds, HasKind}
use Rattle.clap.proofs.OnLiterals.{clap_on_literals}
use Rattle.clap.proofs.WalkLemmas.{one_text-rows}
use Rattle.clap.proofs.CallerLemmas.{entry_by_id, same_rules_by_id}
use Rattle.clap.specs.declared.builder.arg.Arg.{Arg}
use Rattle.clap.specs.declared.builder.command.Command.{Command}
use Rattle.clap.specs.declared.builder.command.Command.TheViews.{out-Command}
use Rattle.clap.specs.declared.builder.value_parser.ValueParser.{ValueParser}
use Rattle.clap.specs.declared.builder.value_parser.ValueParser.TheVariants.{Unsigned}
use Rattle.clap.specs.declared.builder.value_parser.Reading.{Reading}
use Rattle.clap.specs.declared.builder.value_parser.Reading.TheVariants.{AsWritten}
use Rattle.clap.specs.declared.parser.matches.ArgMatches.{ArgMatches}
use Rattle.clap.specs.declared.parser.matches.MatchedArg.{MatchedArg}
use Rattle.utd_gen.specs.Script.{most_tuples}
use Rattle.std.proofs.lemmas.Bool.{and_parts, false_from_ne_true, not-true}
use Rattle.utd_words.specs.declared.words.Script.{Script}
use Rattle.utd_words.specs.declared.words.Script.TheVariants.{OfInput, Generated}
use Rattle.utd_words.specs.declared.words.Asked.TheVariants.{Answers, Dump}
use Rattle.utd_words.specs.Words.{generate, dump, generate_option, dump_flag, utd_command, number_in, script_by, generate_value, dump_value, is_true, asked_by, unless_fault, asked, IsScript, IsInRange}

-- ---- the arguments of the command

nothing : {X : Type 0} (xs : List X) → is_empty xs ≡ true → xs ≡ []
nothing xs e =
    let none : length xs ≡ 0 = grind (arith, nat_tests) in
    nil_from_length xs none

-- a list that a function makes two of has two
only_two : {X Y : Type 0} (f : X → Y) (xs : List X) (y z : Y) → map f xs ≡ y ∷ z ∷ []
    → (a : X) × (b : X) × (xs ≡ a ∷ b ∷ []) × (f a ≡ y) × (f b ≡ z)
only_two f [] y z e = cc
only_two f (a ∷ []) y z e =
    let count : length (map f (a ∷ [])) ≡ 2 = ap length e in
    absurd (omega arith)
only_two f (a ∷ b ∷ []) y z e = (a, b, refl, ap (λ ws. slice_index_or ws 0 y) e, ap (λ ws. slice_index_or ws 1 z) e)
only_two f (a ∷ b ∷ x ∷ xs) y z e =
    let count : length (map f (a ∷ b ∷ x ∷ xs)) ≡ 2 = ap length e in
    absurd (omega arith)

-- an argument with the rules of the option and one with those of the flag, and no other
record HasArguments (c : Command) : Type 0 where
  option : Arg
  flag : Arg
  args : args_of c ≡ option ∷ flag ∷ []
  option_rule : rule_of option ≡ generate_option
  flag_rule : rule_of flag ≡ dump_flag

arguments_of : (c : Command) → app_of c ≡ utd_command → HasArguments c
arguments_of c is =
    let two = only_two rule_of (args_of c) generate_option dump_flag (ap (λ (a : App). a.top.rules) is) in
    record { option = two.0; flag = two.1; args = two.2; option_rule = two.3; flag_rule = two.4 }

plain_arg : (a : Arg) (r : Rule) → rule_of a ≡ r → r.is_simple ≡ true → r.is_free ≡ true → IsPlainArg a
plain_arg a r is s f =
    let simple = ap (λ (q : Rule). q.is_simple) is ∙ s in
    let s0 = and_parts _ _ simple in
    let s1 = and_parts _ _ s0.1 in
    let s2 = and_parts _ _ s1.1 in
    let free = ap (λ (q : Rule). q.is_free) is ∙ f in
    let f0 = and_parts _ _ free in
    let f1 = and_parts _ _ f0.1 in
    (not-true a.exclusive f0.0, nothing a.conflicts.items f1.0, nothing a.overrides.items s0.0, nothing a.groups.items s2.0)

record IsBare (c : Command) : Type 0 where
  plain : IsPlain c
  globals : (out-Command c).has_globals ≡ false

bare : (c : Command) → app_of c ≡ utd_command → IsBare c
bare c is =
    let o = arguments_of c is in
    let f0 = and_parts _ _ (ap (λ (a : App). a.top.is_plain) is) in
    let f1 = and_parts _ _ f0.1 in
    let f2 = and_parts _ _ f1.1 in
    let one : All IsPlainArg (o.option ∷ []) = All-push IsPlainArg [] o.option (All-nil IsPlainArg) (plain_arg o.option generate_option o.option_rule refl refl) in
    let both : All IsPlainArg (o.option ∷ o.flag ∷ []) = All-push IsPlainArg (o.option ∷ []) o.flag one (plain_arg o.flag dump_flag o.flag_rule refl refl) in
    record {
      plain = (subst (All IsPlainArg) (sym o.args) both, nothing (groups_of c) f0.0);
      globals = not-true (out-Command c).has_globals f2.0;
    }

-- ---- the option of the command as it was built

not_auto : (t : List ℕ) → t ≡ generate → (t ≡ codes "help") ⊎ (t ≡ codes "version") → ⊥
not_auto t is (inl e) =
    let bad : ◌≡◌ {A = ℕ} 103 104 = ap (λ (w : List ℕ). slice_index w 0) (sym is ∙ e) in
    absurd (omega arith)
not_auto t is (inr e) =
    let bad : ◌≡◌ {A = ℕ} 103 118 = ap (λ (w : List ℕ). slice_index w 0) (sym is ∙ e) in
    absurd (omega arith)

-- no other argument has the id of the option
alone : (xs : List Arg) (a b y : Arg) → xs ≡ a ∷ b ∷ [] → a.id.now ≡ generate → b.id.now ≡ dump
    → (i : ℕ) (e : Arg) → i < length xs → bytes_eq (slice_index_or xs i e).id.now (slice_index_or xs 0 y).id.now ≡ true → i ≡ 0
alone xs a b y is option flag zero e low same = refl
alone xs a b y is option flag (suc zero) e low same =
    let second : slice_index_or xs 1 e ≡ b = ap (λ (ys : List Arg). slice_index_or ys 1 e) is in
    let first : slice_index_or xs 0 y ≡ a = ap (λ (ys : List Arg). slice_index_or ys 0 y) is in
    let ids : (slice_index_or xs 1 e).id.now ≡ (slice_index_or xs 0 y).id.now = (bytes_eq-Decides _ _).0 same in
    let both : dump ≡ generate = sym (ap (λ (x : Arg). x.id.now) second ∙ flag) ∙ ids ∙ ap (λ (x : Arg). x.id.now) first ∙ option in
    let bad : ◌≡◌ {A = ℕ} 100 103 = ap (λ (w : List ℕ). slice_index w 0) both in
    absurd (omega arith)
alone xs a b y is option flag (suc (suc n)) e low same =
    let count : length xs ≡ 2 = ap length is in
    absurd (omega arith)

-- an argument of that id has the parser of the option
parser_is : (c : Command) (m : ArgMatches) (p : IsParsedFrom c m) → app_of c ≡ utd_command
    → (j : ℕ) (y : Arg) → j < length (args_of p.built) → slice_index_or (args_of p.built) j y ≡ y → bytes_eq y.id.now generate ≡ true
    → parser_of y ≡ Unsigned 1 most_tuples
parser_is c m p is j y within at same =
    let o = arguments_of c is in
    let first : slice_index_or (args_of c) 0 y ≡ o.option = ap (λ (xs : List Arg). slice_index_or xs 0 y) o.args in
    let option : o.option.id.now ≡ generate = ap (λ (r : Rule). r.id) o.option_rule in
    let flag : o.flag.id.now ≡ dump = ap (λ (r : Rule). r.id) o.flag_rule in
    let id : (slice_index_or (args_of c) 0 y).id.now ≡ generate = ap (λ (a : Arg). a.id.now) first ∙ option in
    let parser : (slice_index_or (args_of c) 0 y).value_parser ≡ Some (Unsigned 1 most_tuples) = ap (λ (a : Arg). a.value_parser) first ∙ ap (λ (r : Rule). r.parser) o.option_rule in
    let count : length (args_of c) ≡ 2 = ap length o.args in
    let rules = same_rules_by_id c m p 0 y (omega arith) (alone (args_of c) o.option o.flag y o.args option flag) (not_auto _ id) j y within at
    (subst (λ (w : List ℕ). bytes_eq y.id.now w ≡ true) (sym id) same) in
    ap parser_of_value (rules.parser (Unsigned 1 most_tuples) parser)

-- ---- its value

-- the text that is read of the option is a number that the command takes
pub value_in_range : (c : Command) (m : ArgMatches) (t : List ℕ) → app_of c ≡ utd_command → IsParsedFrom c m
    → one_text (found_of m) generate ≡ Some t → IsUnsignedIn 1 most_tuples t
value_in_range c m t is p text = go (matched_of (found_of m) generate) refl
  where
    built : Command
    built = p.built

    passes : (v : List ℕ) → PassesArg built generate v → IsUnsignedIn 1 most_tuples v
    passes v h = subst (λ (q : ValueParser). Accepts h.1.ignore_case q v) (parser_is c m p is h.0 h.1 h.2 h.3 h.4.0) h.4.1

    reads : (how : Reading) → HasReading built generate how → how ≡ AsWritten
    reads how h = sym h.4.1 ∙ ap reading_of (parser_is c m p is h.0 h.1 h.2 h.3 h.4.0)

    first : (how : Reading) (vs : List (Bor (List ℕ))) → how ≡ AsWritten → All (λ v. PassesArg built generate v.now) vs
        → option_map (λ s. read_as how s.now) (slice_get vs 0) ≡ Some t → IsUnsignedIn 1 most_tuples t
    first how [] written all e = cc
    first how (v ∷ vs) written all e =
        let same : Some v.now ≡ Some t = subst (λ (w : Reading). Some (read_as w v.now) ≡ Some t) written e in
        let one : v.now ≡ t = ap (λ (x : Option (List ℕ)). unwrap_or x t) same in
        subst (IsUnsignedIn 1 most_tuples) one (passes v.now (All-get_or (λ w. PassesArg built generate w.now) (v ∷ vs) 0 v (omega arith) all))

    at_entry : (x : MatchedArg) (e : Entry) → e.1 ≡ x → e.0.now ≡ generate → EntryPasses built e
        → option_map (λ s. read_as x.reading s.now) (slice_get x.vals.items 0) ≡ Some t → IsUnsignedIn 1 most_tuples t
    at_entry x e same key pass text =
        let no_groups : groups_of built ≡ [] = (p.from.plain (bare c is).plain).1 in
        let no_group : e.1.is_group ≡ true → ⊥ = λ g. elim (pass.3 g) [
          | inl empty ↦
              let bad : ◌≡◌ {A = ℕ} 0 103 = ap (λ (w : List ℕ). slice_index w 0) (sym empty ∙ key) in
              absurd (omega arith)
          | inr lots ↦
              let bad : 0 < 0 = rw no_groups at lots in
              absurd (omega arith)
        ] in
        let all : All (λ v. PassesArg built generate v.now) x.vals.items = elim pass.0 [
          | inl g ↦ absurd (no_group g)
          | inr vals ↦ subst (λ (w : List ℕ). All (λ v. PassesArg built w v.now) x.vals.items) key (rw same at vals)
        ] in
        let how : e.1.reading ≡ AsWritten = elim pass.4 [
          | inl g ↦ absurd (no_group g)
          | inr h ↦ reads e.1.reading (subst (λ (w : List ℕ). HasReading built w e.1.reading) key h)
        ] in
        first x.reading x.vals.items (ap (λ (y : MatchedArg). y.reading) (sym same) ∙ how) all text

    go : (o : Option MatchedArg) → matched_of (found_of m) generate ≡ o → IsUnsignedIn 1 most_tuples t
    go None found =
        let none : None ≡ Some t = rw found at text in
        cc
    go (Some x) found =
        let parsed = p.parsed (p.from.globals ∙ (bare c is).globals) in
        let got = entry_by_id (EntryPasses built) (found_of m).entries.items generate x parsed.values found in
        at_entry x got.0 got.1 ((bytes_eq-Decides got.0.0.now generate).0 got.2) got.3 (rw found at text)

-- ---- what the words ask for

simple : is_simple utd_command ≡ true
simple = refl

free : is_simple_and_free utd_command ≡ true
free = refl

-- the script by the value that is read
pub script_is : (value : Option (List ℕ)) (script : Script) → (value ≡ None → script ≡ OfInput)
    → ((text : List ℕ) → value ≡ Some text → IsUnsignedIn 1 most_tuples text → script ≡ Generated (number_in text))
    → ((text : List ℕ) → value ≡ Some text → IsUnsignedIn 1 most_tuples text)
    → (script ≡ script_by value) × IsScript script
script_is None script none some range =
    let is : script ≡ OfInput = none refl in
    (is, subst IsScript (sym is) tt)
script_is (Some text) script none some range =
    let is : script ≡ Generated (number_in text) = some text refl (range text refl) in
    (is, subst IsScript (sym is) ((range text refl).2, (range text refl).3))

-- the flag by the value that is read
pub flag_is : (E : Type 0) (value : Option (List ℕ)) (flag : Option Bool) → (value ≡ None → flag ≡ None)
    → ((text : List ℕ) → value ≡ Some text → ReadsOne {T = Bool} {E = E} ParsesBool text flag)
    → unwrap_or flag false ≡ is_true value
flag_is E None flag none some =
    let is : flag ≡ None = none refl in
    ap (λ (o : Option Bool). unwrap_or o false) is
flag_is E (Some text) None none some =
    let not_true = (some text refl).1.0 in
    sym (false_from_ne_true (bytes_eq text (codes "true")) (λ e. not_true ((bytes_eq-Decides text (codes "true")).0 e)))
flag_is E (Some text) (Some true) none some =
    let is : text ≡ codes "true" = some text refl in
    sym ((bytes_eq-Decides text (codes "true")).1 is)
flag_is E (Some text) (Some false) none some =
    let is : text ≡ codes "false" = some text refl in
    let other : bytes_eq (codes "false") (codes "true") ≡ false = refl in
    sym (ap (λ (t : List ℕ). bytes_eq t (codes "true")) is ∙ other)

pub in_range : (flag : Bool) (script : Script) → IsScript script → IsInRange (Some (asked_by flag script))
in_range true script h = h
in_range false script h = h

pub taken : (c : Command) (m : ArgMatches) (words : List (List ℕ)) (flag : Bool) (script : Script) → app_of c ≡ utd_command
    → (is_simple_and_free (app_of c) ≡ true → fault_of (app_of c) words ≡ []) → HasMatchesOf (app_of c) words m
    → flag ≡ is_true (one_text (found_of m) dump) → script ≡ script_by (one_text (found_of m) generate) → Some (asked_by flag script) ≡ asked words
unfolding asked
taken c m words flag script is kinds matches by_flag by =
    let fine : fault_of utd_command words ≡ [] = sym (ap (λ a. fault_of a words) is) ∙ kinds (ap is_simple_and_free is ∙ free) in
    let rows = (matches (ap is_simple is ∙ simple)).0 ∙ ap (λ a. matches_of a words) is in
    let script_same : script ≡ script_by (generate_value words) = by ∙ ap script_by (one_text-rows (found_of m) generate ∙ ap (one_of generate) rows) in
    let flag_same : flag ≡ is_true (dump_value words) = by_flag ∙ ap is_true (one_text-rows (found_of m) dump ∙ ap (one_of dump) rows) in
    (λ i. Some (asked_by (flag_same i) (script_same i)))
    ∙ ap (λ kinds. unless_fault kinds (asked_by (is_true (dump_value words)) (script_by (generate_value words)))) (sym fine)

pub not_taken : (c : Command) (e : Error) (words : List (List ℕ)) → app_of c ≡ utd_command
    → (is_simple_and_free (app_of c) ≡ true → HasKind (fault_of (app_of c) words) e) → (kind_of e ≡ OutOfMemory → ⊥)
    → None ≡ asked words
unfolding asked
not_taken c e words is kinds other =
    go (fault_of utd_command words) (subst (λ a. HasKind (fault_of a words) e) is (kinds (ap is_simple_and_free is ∙ free)))
  where
    go : (ks : Kinds) → HasKind ks e → None ≡ unless_fault ks (asked_by (is_true (dump_value words)) (script_by (generate_value words)))
    go [] h = elim h [ inl is_other ↦ absurd (other is_other) | inr bad ↦ absurd bad ]
    go (k ∷ ks) h = refl

-- ---- words that are written out

-- what is asked by words without a fault
by_words : (words : List (List ℕ)) (flag value : Option (List ℕ)) → fault_of utd_command words ≡ [] → dump_value words ≡ flag → generate_value words ≡ value
    → asked words ≡ Some (asked_by (is_true flag) (script_by value))
unfolding asked
by_words words flag value fine f v =
    ap (λ kinds. unless_fault kinds (asked_by (is_true (dump_value words)) (script_by (generate_value words)))) fine
    ∙ (λ i. Some (asked_by (is_true (f i)) (script_by (v i))))

no_fault : fault_of utd_command [] ≡ []
unfolding clap_on_literals
no_fault = refl

no_value : generate_value [] ≡ None
unfolding clap_on_literals
no_value = refl

no_flag : dump_value [] ≡ Some (codes "false")
unfolding clap_on_literals
no_flag = refl

-- no word asks for the answers to the script of the input
pub asked_by_none : asked [] ≡ Some (Answers OfInput)
asked_by_none = by_words [] (Some (codes "false")) None no_fault no_flag no_value

flag_fault : fault_of utd_command (codes "--dump" ∷ []) ≡ []
unfolding clap_on_literals
flag_fault = refl

flag_no_value : generate_value (codes "--dump" ∷ []) ≡ None
unfolding clap_on_literals
flag_no_value = refl

flag_given : dump_value (codes "--dump" ∷ []) ≡ Some (codes "true")
unfolding clap_on_literals
flag_given = refl

-- the flag asks for the dump
pub asked_by_dump : asked (codes "--dump" ∷ []) ≡ Some (Dump OfInput)
asked_by_dump = by_words (codes "--dump" ∷ []) (Some (codes "true")) None flag_fault flag_given flag_no_value
