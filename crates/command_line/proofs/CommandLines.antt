-- What the proofs of the command line cite.
use Rattle.std.proofs.Common.{◌≡◌, ◌≤◌, ◌<◌, ◌+◌, ◌^◌, ◌∙◌, ◌⊎◌, ◌↔◌, ◌==◌, IsSome, subst, sym, ap, refl, inl, inr, arith, append_assoc, false, true, Box, ℕ, Bool, List, [], ◌∷◌, ◌++◌, Option, Some, None, Result, Ok, Err, option_map, codes, slice_index}
use Rattle.std.proofs.lemmas.Bool.{false≢true}
use Rattle.std.proofs.lemmas.Slice.Eq.{bytes_eq-Decides}
use Rattle.std.specs.Prelude.{IfOk, ◌||◌, is_some}
use Rattle.std.specs.Option.{unwrap_or}
use Rattle.std.specs.Str.{bytes_eq}
use Rattle.std.specs.Str.Parse.{ParsesUnsigned}
use Rattle.std.specs.Box.{box_value}
use Rattle.clap.specs.Kinds.{Kinds, HasKind, IsAmong, or_else}
use Rattle.clap.specs.Words.{AddsArg, AddsSubcommand, App, Rule, Row, Shape, Text, TriesOne, app_of, first_of, fault_of, is_simple, is_simple_and_free, kind_of, rule_of, shape_of, subcommand_of, subcommand_name_of, subcommand_rows, subcommand_rows_of, with_rule, with_subcommand}
use Rattle.clap.specs.declared.builder.arg.Arg.{Arg}
use Rattle.clap.specs.declared.builder.command.Command.{Command}
use Rattle.clap.specs.declared.error.Error.{Error}
use Rattle.clap.specs.declared.error.kind.ErrorKind.{ErrorKind}
use Rattle.clap.specs.declared.error.kind.ErrorKind.TheVariants as kind
use Rattle.clap.specs.declared.parser.matches.ArgMatches.{ArgMatches}
use Rattle.clap.specs.declared.parser.matches.SubCommand.{SubCommand}
use Rattle.clap.specs.declared.parser.matches.ArgMatches.TheViews.{out-ArgMatches, out-SubCommand}
use Rattle.command_line.specs.declared.forms.Invocation.{Invocation}
use Rattle.command_line.specs.declared.forms.Invocation.TheVariants as invocation
use Rattle.limits.specs.declared.Configuration.{Configuration}
use Rattle.limits.specs.declared.Limits.{Limits}
use Rattle.command_line.specs.CommandLine.{AreForms, IsArgument, IsForm, all_forms, alone, flag, form_of, needed, number, option, program, program_of, some_schedule, wide_number, AreLimits, GivesBudget, GivesConfiguration, GivesFormat, GivesLaunch, GivesLimits, GivesNumbers, GivesOrders, GivesSeconds, GivesSeed, GivesSteps, GivesWiden, GivesWorkers, IsCount, IsFormat, IsNumber, IsSecond, IsSeed, AsksBy, IsRefused, Reads, Holds, says_yes}

-- what holds of the value that was made
pub of_made : {T E : Type 0} (P : T → Type 0) (made : Result T E) (x : T) → made ≡ Ok x → IfOk made P → P x
of_made {T} {E} P made x is holds = subst (λ (m : Result T E). IfOk m P) is holds

-- a form with one more argument
pub has_argument : {E : Type 0} (name : Text) (arguments : List Rule) (rule : Rule) (old : Command) (argument : Arg) (made : Result Command E)
    → IsForm name arguments old → IsArgument rule argument → IfOk made (AddsArg old argument) → IfOk made (IsForm name (arguments ++ rule ∷ []))
unfolding form_of
has_argument name arguments rule old argument (Err e) form fits adds = tt
has_argument name arguments rule old argument (Ok new) form fits adds = record {
  is = adds.shape fits.local ∙ (ap (λ (a : App). with_rule a (rule_of argument)) form.is ∙ ap (λ (r : Rule). with_rule (alone (form_of name arguments)) r) fits.is);
  local = adds.globals ∙ (ap (λ (b : Bool). b || argument.global) form.local ∙ fits.local);
}

-- a form with one group of arguments, and then with another
pub has_both : {E : Type 0} (name : Text) (arguments first second : List Rule) (made : Result Command E)
    → IfOk made (IsForm name ((arguments ++ first) ++ second)) → IfOk made (IsForm name (arguments ++ (first ++ second)))
has_both {E} name arguments first second made holds = subst (λ (all : List Rule). IfOk made (IsForm name all)) (append_assoc arguments first second) holds

more_forms : (so_far : List Shape) (form : Shape) → with_subcommand (program_of so_far) form ≡ program_of (so_far ++ form ∷ [])
unfolding program_of
more_forms [] form = refl
more_forms (first ∷ more) form = refl

-- forms with one more
pub has_form : {E : Type 0} (so_far : List Shape) (name : Text) (arguments : List Rule) (old form : Command) (made : Result Command E)
    → AreForms so_far old → IsForm name arguments form → IfOk made (AddsSubcommand old form) → IfOk made (AreForms (so_far ++ form_of name arguments ∷ []))
has_form so_far name arguments old form (Err e) are is adds = tt
has_form so_far name arguments old form (Ok new) are is adds = record {
  are = adds.shape is.local ∙ (ap (λ (a : App). with_subcommand a (shape_of form)) are.are
      ∙ (ap (λ (a : App). with_subcommand (program_of so_far) a.top) is.is ∙ more_forms so_far (form_of name arguments)));
}

-- all the forms are the program
pub are_program : (forms : Command) → AreForms all_forms forms → app_of forms ≡ program
unfolding program
are_program forms are = are.are

-- the matches of the program are known
pub simple_program : is_simple program ≡ true
unfolding program program_of form_of needed option number wide_number some_schedule flag
simple_program = refl

-- so are the faults of its words
pub free_program : is_simple_and_free program ≡ true
unfolding program program_of form_of needed option number wide_number some_schedule flag
free_program = refl

-- no option was read where it isn't there
pub no_option : {E : Type 0} (absent most : ℕ) (G : List ℕ → Result ℕ E → Type 0) (o : Option Text) (read : Option ℕ) → read ≡ None
    → ((t : Text) → o ≡ Some t → TriesOne G t (Ok read)) → IsNumber absent most o absent
no_option absent most G None read is reads = refl
no_option absent most G (Some t) None is reads = absurd (reads t refl)
no_option absent most G (Some t) (Some n) is reads = cc

-- the number that was read is the option's
pub the_option : {E : Type 0} (absent most : ℕ) (G : List ℕ → Result ℕ E → Type 0) (o : Option Text) (n : ℕ) (read : Option ℕ) → read ≡ Some n
    → (o ≡ None → ◌≡◌ {A = Result (Option ℕ) E} (Ok read) (Ok None)) → ((t : Text) → o ≡ Some t → TriesOne G t (Ok read))
    → ((t : Text) (r : Result ℕ E) → G t r → ParsesUnsigned 32 10 t r) → 1 ≤ n → n ≤ most → IsNumber absent most o n
the_option absent most G o n None is none reads only least greatest = cc
the_option absent most G None n (Some k) is none reads only least greatest =
    let bad = none refl in
    cc
the_option absent most G (Some t) n (Some k) is none reads only least greatest =
    let same : n ≡ k = cc in
    let parsed = only t (Ok k) (reads t refl) in
    (parsed.0.0, same ∙ parsed.1, least, greatest)

-- the name and the matches of a subcommand are those of its rows
rows_named : (m : ArgMatches) (name : Text) (rows : List Row) → subcommand_name_of m ≡ Some name → option_map (λ p. p.1) (subcommand_rows_of m) ≡ Some rows
    → subcommand_rows_of m ≡ Some (name, rows)
rows_named m name rows = go (out-ArgMatches m).subcommand
  where
    go : {Z : Type 0} (o : Option (Box SubCommand Z)) → option_map (λ b. (out-SubCommand (box_value b)).name.now) o ≡ Some name
        → option_map (λ p. p.1) (subcommand_rows o) ≡ Some rows → subcommand_rows o ≡ Some (name, rows)
    go None named held = cc
    go (Some b) named held = cc

-- ---- numbers

-- a text that isn't read as a number is none that is wanted
pub not_read : {E : Type 0} (absent most : ℕ) (G : List ℕ → Result ℕ E → Type 0) (o : Option Text) (e : E) → most < 2 ^ 32
    → (o ≡ None → ◌≡◌ {A = Result (Option ℕ) E} (Err e) (Ok None)) → ((t : Text) → o ≡ Some t → TriesOne G t (Err e))
    → ((t : Text) (r : Result ℕ E) → G t r → ParsesUnsigned 32 10 t r) → (n : ℕ) → ¬ IsNumber absent most o n
not_read absent most G None e few none reads only n is =
    let bad = none refl in
    cc
not_read absent most G (Some t) e few none reads only n is = only t (Err e) (reads t refl) (is.0, omega (arith, is.1, is.3, few))

-- no count was read where the option isn't there
pub no_count : (most : ℕ) (o : Option Text) → IsNumber 0 most o 0 → IsCount most o None
no_count most None is = refl
no_count most (Some text) is = absurd (omega (arith, is.2))

-- a number that was read is the option's count
pub counted : (most : ℕ) (o : Option Text) (n : ℕ) → 1 ≤ n → IsNumber 0 most o n → IsCount most o (Some n)
counted most None n least is = absurd (omega (arith, least, is))
counted most (Some text) n least is = is

-- where the option's number is none, it has no count
pub not_counted : (most : ℕ) (o : Option Text) → ((n : ℕ) → ¬ IsNumber 0 most o n) → (count : Option ℕ) → ¬ IsCount most o count
not_counted most None nothing None is = nothing 0 refl
not_counted most None nothing (Some n) is = cc
not_counted most (Some text) nothing None is = is
not_counted most (Some text) nothing (Some n) is = nothing n is

-- the number of an option with a default is its count, or the default
pub number_or : (absent most : ℕ) (o : Option Text) (count : Option ℕ) → IsCount most o count → IsNumber absent most o (unwrap_or count absent)
number_or absent most None None is = refl
number_or absent most None (Some n) is = cc
number_or absent most (Some text) None is = absurd is
number_or absent most (Some text) (Some n) is = is

-- where it has no count, it has no number either
pub no_number : (absent most : ℕ) (o : Option Text) → ((count : Option ℕ) → ¬ IsCount most o count) → (n : ℕ) → ¬ IsNumber absent most o n
no_number absent most None nothing n is = nothing None refl
no_number absent most (Some text) nothing n is = nothing (Some n) is

-- ---- seeds

-- the seed where the option isn't there
pub no_seed : {E : Type 0} (G : List ℕ → Result ℕ E → Type 0) (o : Option Text) (read : Option ℕ) → read ≡ None
    → ((t : Text) → o ≡ Some t → TriesOne G t (Ok read)) → IsSeed o 1
no_seed G None read is reads = refl
no_seed G (Some t) None is reads = absurd (reads t refl)
no_seed G (Some t) (Some n) is reads = cc

-- the number that was read is the seed
pub the_seed : {E : Type 0} (G : List ℕ → Result ℕ E → Type 0) (o : Option Text) (n : ℕ) (read : Option ℕ) → read ≡ Some n
    → (o ≡ None → ◌≡◌ {A = Result (Option ℕ) E} (Ok read) (Ok None)) → ((t : Text) → o ≡ Some t → TriesOne G t (Ok read))
    → ((t : Text) (r : Result ℕ E) → G t r → ParsesUnsigned 64 10 t r) → IsSeed o n
the_seed G o n None is none reads only = cc
the_seed G None n (Some k) is none reads only =
    let bad = none refl in
    cc
the_seed G (Some t) n (Some k) is none reads only =
    let same : n ≡ k = cc in
    let parsed = only t (Ok k) (reads t refl) in
    (parsed.0.0, same ∙ parsed.1, subst (λ (x : ℕ). x < 2 ^ 64) (sym (same ∙ parsed.1)) parsed.0.1)

-- a text that isn't read as a number is no seed
pub not_a_seed : {E : Type 0} (G : List ℕ → Result ℕ E → Type 0) (o : Option Text) (e : E)
    → (o ≡ None → ◌≡◌ {A = Result (Option ℕ) E} (Err e) (Ok None)) → ((t : Text) → o ≡ Some t → TriesOne G t (Err e))
    → ((t : Text) (r : Result ℕ E) → G t r → ParsesUnsigned 64 10 t r) → (n : ℕ) → ¬ IsSeed o n
not_a_seed G None e none reads only n is =
    let bad = none refl in
    cc
not_a_seed G (Some t) e none reads only n is = only t (Err e) (reads t refl) (is.0, subst (λ (x : ℕ). x < 2 ^ 64) is.1 is.2)

-- the ticks that limits allow have 32 bits
pub few_ticks : (ticks : ℕ) → ticks ≤ 1000000000 → ticks < 2 ^ 32
few_ticks ticks few = omega (arith, few)

-- nor is a number that was read and is out of range
pub out_of_range : {E : Type 0} (absent most : ℕ) (G : List ℕ → Result ℕ E → Type 0) (o : Option Text) (k : ℕ) (read : Option ℕ) → read ≡ Some k → (k < 1) ⊎ (most < k)
    → (o ≡ None → ◌≡◌ {A = Result (Option ℕ) E} (Ok read) (Ok None)) → ((t : Text) → o ≡ Some t → TriesOne G t (Ok read))
    → ((t : Text) (r : Result ℕ E) → G t r → ParsesUnsigned 32 10 t r) → (n : ℕ) → ¬ IsNumber absent most o n
out_of_range absent most G o k None same out none reads only n is = cc
out_of_range absent most G None k (Some x) same out none reads only n is =
    let bad = none refl in
    cc
out_of_range absent most G (Some t) k (Some x) same (inl less) none reads only n is =
    let parsed = only t (Ok x) (reads t refl) in
    let number : x ≡ k = cc in
    absurd (omega (arith, less, is.1, is.2, parsed.1, number))
out_of_range absent most G (Some t) k (Some x) same (inr more) none reads only n is =
    let parsed = only t (Ok x) (reads t refl) in
    let number : x ≡ k = cc in
    absurd (omega (arith, more, is.1, is.3, parsed.1, number))

-- a text that is neither of two words
pub no_word : (first second text : Text) → bytes_eq text first ≡ false → bytes_eq text second ≡ false → (is : Bool) → ¬ IsSecond first second (Some text) is
no_word first second text apart other is (inl h) = false≢true (sym apart ∙ (bytes_eq-Decides text first).1 h.0)
no_word first second text apart other is (inr h) = false≢true (sym other ∙ (bytes_eq-Decides text second).1 h.0)

-- a text that names neither of the two limits
pub no_limits : (name : Text) → bytes_eq name (codes "profile") ≡ false → bytes_eq name (codes "large") ≡ false → (limits : Limits) → ¬ AreLimits (Some name) limits
no_limits name profile large limits (inl h) = false≢true (sym (subst (λ (f : Text). bytes_eq f (codes "profile") ≡ false) h.0 profile))
no_limits name profile large limits (inr h) = false≢true (sym (subst (λ (f : Text). bytes_eq f (codes "large") ≡ false) h.0 large))

-- ---- forms

-- a number by which the names of the forms are told apart
abbrev key : Text → ℕ
key name = slice_index name 0 + slice_index name 1 + slice_index name 4

differ : {P : Type 0} {a b : Text} → a ≡ b → (key a == key b) ≡ false → P
differ {P} {a} {b} same apart =
    let eq : key a ≡ key b = ap key same in
    absurd (grind (arith, eq, apart))

-- what the form of a name reads is what the matches hold
pub reads_form : (m : ArgMatches) (name : Text) (rows : List Row) (read : Option Invocation) → subcommand_name_of m ≡ Some name
    → option_map (λ p. p.1) (subcommand_rows_of m) ≡ Some rows → Reads (AsksBy name rows) read → Reads (Holds (subcommand_rows_of m)) read
reads_form m name rows None named held none = λ asked h. none asked (subst (λ (o : Option (Text × List Row)). Holds o asked) (rows_named m name rows named held) h)
reads_form m name rows (Some asked) named held is = subst (λ (o : Option (Text × List Row)). Holds o asked) (sym (rows_named m name rows named held)) is

-- the limits that are named by a text are one
pub same_limits : (named : Option Text) (limits other : Limits) → AreLimits named limits → AreLimits named other → limits ≡ other
same_limits None limits other is named = is ∙ sym named
same_limits (Some text) limits other (inl is) (inl named) = is.1 ∙ sym named.1
same_limits (Some text) limits other (inl is) (inr named) = differ (sym is.0 ∙ named.0) refl
same_limits (Some text) limits other (inr is) (inl named) = differ (sym is.0 ∙ named.0) refl
same_limits (Some text) limits other (inr is) (inr named) = is.1 ∙ sym named.1

-- a budget that none of the limits named gives is none of any configuration
pub no_budget : (rows : List Row) (limits : Limits) → GivesLimits rows limits → ((n : ℕ) → ¬ GivesBudget rows limits n)
    → (configuration : Configuration) → ¬ GivesConfiguration rows configuration
no_budget rows limits named none configuration is =
    none configuration.budget (subst (λ (l : Limits). GivesBudget rows l configuration.budget) (same_limits (first_of (codes "limits") rows) configuration.limits limits is.0 named) is.1)

-- what a command has from its matches
pub run_parts : (rows : List Row) (asked : Invocation) → AsksBy (codes "run") rows asked
    → (path : Text) × (w : ℕ) × (configuration : Configuration) × (first_of (codes "FILE") rows ≡ Some path) × GivesWorkers rows w × GivesConfiguration rows configuration
    × (numbers : Bool) × GivesNumbers rows numbers
run_parts rows (invocation.Run path options numbered numbers silent) is = (path.now, options.workers, options.configuration, is.1.0, is.1.1, is.1.2, numbers, is.1.4)
run_parts rows (invocation.Check path limits) is = differ is.0 refl
run_parts rows (invocation.Dump path name limits) is = differ is.0 refl
run_parts rows (invocation.Replay script schedule configuration) is = differ is.0 refl
run_parts rows (invocation.Serve options) is = differ is.0 refl
run_parts rows (invocation.Explain script schedule wish) is = differ is.0 refl
run_parts rows (invocation.Version json) is = differ is.0 refl
run_parts rows (invocation.Widen script json limits) is = differ is.0 refl
run_parts rows (invocation.Plain script) is = differ is.0 refl
run_parts rows (invocation.Explore script wish) is = differ is.0 refl

pub check_parts : (rows : List Row) (asked : Invocation) → AsksBy (codes "check") rows asked
    → (path : Text) × (limits : Limits) × (first_of (codes "FILE") rows ≡ Some path) × GivesLimits rows limits
check_parts rows (invocation.Run path options numbered numbers silent) is = differ is.0 refl
check_parts rows (invocation.Check path limits) is = (path.now, limits, is.1.0, is.1.1)
check_parts rows (invocation.Dump path name limits) is = differ is.0 refl
check_parts rows (invocation.Replay script schedule configuration) is = differ is.0 refl
check_parts rows (invocation.Serve options) is = differ is.0 refl
check_parts rows (invocation.Explain script schedule wish) is = differ is.0 refl
check_parts rows (invocation.Version json) is = differ is.0 refl
check_parts rows (invocation.Widen script json limits) is = differ is.0 refl
check_parts rows (invocation.Plain script) is = differ is.0 refl
check_parts rows (invocation.Explore script wish) is = differ is.0 refl

pub dump_parts : (rows : List Row) (asked : Invocation) → AsksBy (codes "dump") rows asked
    → (path name : Text) × (limits : Limits) × (first_of (codes "FILE") rows ≡ Some path) × (first_of (codes "KERNEL") rows ≡ Some name) × GivesLimits rows limits
dump_parts rows (invocation.Run path options numbered numbers silent) is = differ is.0 refl
dump_parts rows (invocation.Check path limits) is = differ is.0 refl
dump_parts rows (invocation.Dump path name limits) is = (path.now, name.now, limits, is.1.0, is.1.1, is.1.2)
dump_parts rows (invocation.Replay script schedule configuration) is = differ is.0 refl
dump_parts rows (invocation.Serve options) is = differ is.0 refl
dump_parts rows (invocation.Explain script schedule wish) is = differ is.0 refl
dump_parts rows (invocation.Version json) is = differ is.0 refl
dump_parts rows (invocation.Widen script json limits) is = differ is.0 refl
dump_parts rows (invocation.Plain script) is = differ is.0 refl
dump_parts rows (invocation.Explore script wish) is = differ is.0 refl

pub replay_parts : (rows : List Row) (asked : Invocation) → AsksBy (codes "replay") rows asked
    → (script schedule : Text) × (limits : Limits) × (first_of (codes "SCRIPT") rows ≡ Some script) × (first_of (codes "SCHEDULE") rows ≡ Some schedule) × GivesLimits rows limits
replay_parts rows (invocation.Run path options numbered numbers silent) is = differ is.0 refl
replay_parts rows (invocation.Check path limits) is = differ is.0 refl
replay_parts rows (invocation.Dump path name limits) is = differ is.0 refl
replay_parts rows (invocation.Replay script schedule configuration) is = (script.now, schedule.now, configuration.limits, is.1.0, is.1.1, is.1.2.0)
replay_parts rows (invocation.Serve options) is = differ is.0 refl
replay_parts rows (invocation.Explain script schedule wish) is = differ is.0 refl
replay_parts rows (invocation.Version json) is = differ is.0 refl
replay_parts rows (invocation.Widen script json limits) is = differ is.0 refl
replay_parts rows (invocation.Plain script) is = differ is.0 refl
replay_parts rows (invocation.Explore script wish) is = differ is.0 refl

pub serve_parts : (rows : List Row) (asked : Invocation) → AsksBy (codes "serve") rows asked
    → (w : ℕ) × (configuration : Configuration) × GivesWorkers rows w × GivesConfiguration rows configuration
serve_parts rows (invocation.Run path options numbered numbers silent) is = differ is.0 refl
serve_parts rows (invocation.Check path limits) is = differ is.0 refl
serve_parts rows (invocation.Dump path name limits) is = differ is.0 refl
serve_parts rows (invocation.Replay script schedule configuration) is = differ is.0 refl
serve_parts rows (invocation.Serve options) is = (options.workers, options.configuration, is.1.0, is.1.1)
serve_parts rows (invocation.Explain script schedule wish) is = differ is.0 refl
serve_parts rows (invocation.Version json) is = differ is.0 refl
serve_parts rows (invocation.Widen script json limits) is = differ is.0 refl
serve_parts rows (invocation.Plain script) is = differ is.0 refl
serve_parts rows (invocation.Explore script wish) is = differ is.0 refl

pub explain_parts : (rows : List Row) (asked : Invocation) → AsksBy (codes "explain") rows asked
    → (script : Text) × (configuration : Configuration) × (json : Bool) × (first_of (codes "SCRIPT") rows ≡ Some script) × GivesConfiguration rows configuration × GivesFormat rows json
    × (count : Option ℕ) × GivesSteps rows count × (widen : Bool) × GivesWiden rows widen
explain_parts rows (invocation.Run path options numbered numbers silent) is = differ is.0 refl
explain_parts rows (invocation.Check path limits) is = differ is.0 refl
explain_parts rows (invocation.Dump path name limits) is = differ is.0 refl
explain_parts rows (invocation.Replay script schedule configuration) is = differ is.0 refl
explain_parts rows (invocation.Serve options) is = differ is.0 refl
explain_parts rows (invocation.Explain script schedule wish) is = (script.now, wish.configuration, wish.json, is.1.0, is.1.2, is.1.3, wish.steps, is.1.6, wish.widen, is.1.7)
explain_parts rows (invocation.Version json) is = differ is.0 refl
explain_parts rows (invocation.Widen script json limits) is = differ is.0 refl
explain_parts rows (invocation.Plain script) is = differ is.0 refl
explain_parts rows (invocation.Explore script wish) is = differ is.0 refl

pub version_parts : (rows : List Row) (asked : Invocation) → AsksBy (codes "version") rows asked
    → (json : Bool) × GivesFormat rows json
version_parts rows (invocation.Run path options numbered numbers silent) is = differ is.0 refl
version_parts rows (invocation.Check path limits) is = differ is.0 refl
version_parts rows (invocation.Dump path name limits) is = differ is.0 refl
version_parts rows (invocation.Replay script schedule configuration) is = differ is.0 refl
version_parts rows (invocation.Serve options) is = differ is.0 refl
version_parts rows (invocation.Explain script schedule wish) is = differ is.0 refl
version_parts rows (invocation.Version json) is = (json, is.1)
version_parts rows (invocation.Widen script json limits) is = differ is.0 refl
version_parts rows (invocation.Plain script) is = differ is.0 refl
version_parts rows (invocation.Explore script wish) is = differ is.0 refl

pub widen_parts : (rows : List Row) (asked : Invocation) → AsksBy (codes "widen") rows asked
    → (script : Text) × (json : Bool) × (limits : Limits) × (first_of (codes "SCRIPT") rows ≡ Some script) × GivesFormat rows json × GivesLimits rows limits
widen_parts rows (invocation.Run path options numbered numbers silent) is = differ is.0 refl
widen_parts rows (invocation.Check path limits) is = differ is.0 refl
widen_parts rows (invocation.Dump path name limits) is = differ is.0 refl
widen_parts rows (invocation.Replay script schedule configuration) is = differ is.0 refl
widen_parts rows (invocation.Serve options) is = differ is.0 refl
widen_parts rows (invocation.Explain script schedule wish) is = differ is.0 refl
widen_parts rows (invocation.Version json) is = differ is.0 refl
widen_parts rows (invocation.Widen script json limits) is = (script.now, json, limits, is.1.0, is.1.1, is.1.2)
widen_parts rows (invocation.Plain script) is = differ is.0 refl
widen_parts rows (invocation.Explore script wish) is = differ is.0 refl

pub plain_parts : (rows : List Row) (asked : Invocation) → AsksBy (codes "plain") rows asked
    → (script : Text) × (first_of (codes "SCRIPT") rows ≡ Some script)
plain_parts rows (invocation.Run path options numbered numbers silent) is = differ is.0 refl
plain_parts rows (invocation.Check path limits) is = differ is.0 refl
plain_parts rows (invocation.Dump path name limits) is = differ is.0 refl
plain_parts rows (invocation.Replay script schedule configuration) is = differ is.0 refl
plain_parts rows (invocation.Serve options) is = differ is.0 refl
plain_parts rows (invocation.Explain script schedule wish) is = differ is.0 refl
plain_parts rows (invocation.Version json) is = differ is.0 refl
plain_parts rows (invocation.Widen script json limits) is = differ is.0 refl
plain_parts rows (invocation.Plain script) is = (script.now, is.1)
plain_parts rows (invocation.Explore script wish) is = differ is.0 refl

pub explore_parts : (rows : List Row) (asked : Invocation) → AsksBy (codes "explore") rows asked
    → (script : Text) × (launch : Option ℕ) × (orders : ℕ) × (seconds : Option ℕ) × (seed : ℕ) × (configuration : Configuration)
    × (first_of (codes "SCRIPT") rows ≡ Some script) × GivesLaunch rows launch × GivesOrders rows orders × GivesSeconds rows seconds × GivesSeed rows seed
    × GivesConfiguration rows configuration
explore_parts rows (invocation.Run path options numbered numbers silent) is = differ is.0 refl
explore_parts rows (invocation.Check path limits) is = differ is.0 refl
explore_parts rows (invocation.Dump path name limits) is = differ is.0 refl
explore_parts rows (invocation.Replay script schedule configuration) is = differ is.0 refl
explore_parts rows (invocation.Serve options) is = differ is.0 refl
explore_parts rows (invocation.Explain script schedule wish) is = differ is.0 refl
explore_parts rows (invocation.Version json) is = differ is.0 refl
explore_parts rows (invocation.Widen script json limits) is = differ is.0 refl
explore_parts rows (invocation.Plain script) is = differ is.0 refl
explore_parts rows (invocation.Explore script wish) is =
    (script.now, wish.launch, wish.orders, wish.seconds, wish.seed, wish.configuration, is.1.0, is.1.1, is.1.2, is.1.3, is.1.4, is.1.5)

pub not_there : {A : Type 0} (o : Option A) (x : A) → o ≡ None → ¬ (o ≡ Some x)
not_there o x none some = let bad : None ≡ Some x = sym none ∙ some in cc

-- what was found is made of something, and nothing of nothing
pub of_some : {A B : Type 0} (f : A → B) (o : Option A) → is_some o ≡ true → ¬ (option_map f o ≡ None)
of_some f None some none = false≢true some
of_some f (Some a) some none = cc

pub of_none : {A B : Type 0} (f : A → B) (o : Option A) → is_some o ≡ false → option_map f o ≡ None
of_none f None none = refl
of_none f (Some a) none = absurd (false≢true (sym none))

-- where something was read, there is something to read, and else there isn't
pub some_read : {A : Type 0} (P : A → Type 0) (read : Option A) → Reads P read → is_some read ≡ true → ¬ ((x : A) → ¬ P x)
some_read P None reads found none = false≢true found
some_read P (Some x) reads found none = none x reads

pub none_read : {A : Type 0} (P : A → Type 0) (read : Option A) → Reads P read → is_some read ≡ false → (x : A) → ¬ P x
none_read P None reads missing x = reads x
none_read P (Some y) reads missing x = λ is. false≢true (sym missing)

-- ---- widening

-- without the flag nothing is asked of the other options
pub not_widened : (rows : List Row) → says_yes (first_of (codes "widen") rows) ≡ false → GivesWiden rows false
not_widened rows off = record { there = sym off; text = λ bad. absurd (false≢true bad); alone = λ bad. absurd (false≢true bad) }

-- with it the format is text, and there is no schedule file
pub widened : (rows : List Row) → says_yes (first_of (codes "widen") rows) ≡ true → GivesFormat rows false → first_of (codes "SCHEDULE") rows ≡ None → GivesWiden rows true
widened rows on format single = record { there = sym on; text = λ _. format; alone = λ _. single }

pub not_with_schedule : (rows : List Row) → says_yes (first_of (codes "widen") rows) ≡ true → ¬ (first_of (codes "SCHEDULE") rows ≡ None)
    → (widen : Bool) → ¬ GivesWiden rows widen
not_with_schedule rows on named widen is = named (is.alone (is.there ∙ on))

pub not_with_format : (rows : List Row) → says_yes (first_of (codes "widen") rows) ≡ true → ¬ GivesFormat rows false → (widen : Bool) → ¬ GivesWiden rows widen
not_with_format rows on other widen is = other (is.text (is.there ∙ on))

-- what is JSON isn't text
pub not_text : (format : Option Text) → IsFormat format true → ¬ IsFormat format false
not_text None json text = false≢true (sym json)
not_text (Some name) (inl json) text = false≢true (sym json.1)
not_text (Some name) (inr json) (inl text) = differ (sym text.0 ∙ json.0) refl
not_text (Some name) (inr json) (inr text) = false≢true text.1

-- matches in which no form of this name was found
pub not_found : {A : Type 0} (o : Option A) (name : Text) (m : ArgMatches) → ((a : A) → o ≡ Some a → ⊥) → (IsSome o ↔ (subcommand_name_of m ≡ Some name))
    → ¬ (subcommand_name_of m ≡ Some name)
not_found None name m missing found named = false≢true (found.1 named)
not_found (Some a) name m missing found named = missing a refl

-- matches of no form hold nothing
pub holds_nothing : (m : ArgMatches) → ¬ (subcommand_name_of m ≡ Some (codes "run")) → ¬ (subcommand_name_of m ≡ Some (codes "check")) → ¬ (subcommand_name_of m ≡ Some (codes "dump"))
    → ¬ (subcommand_name_of m ≡ Some (codes "replay")) → ¬ (subcommand_name_of m ≡ Some (codes "serve")) → ¬ (subcommand_name_of m ≡ Some (codes "explain"))
    → ¬ (subcommand_name_of m ≡ Some (codes "version")) → ¬ (subcommand_name_of m ≡ Some (codes "widen")) → ¬ (subcommand_name_of m ≡ Some (codes "plain"))
    → ¬ (subcommand_name_of m ≡ Some (codes "explore"))
    → (asked : Invocation) → ¬ Holds (subcommand_rows_of m) asked
holds_nothing m = go (out-ArgMatches m).subcommand
  where
    named : {Z : Type 0} → Option (Box SubCommand Z) → Option Text
    named o = option_map (λ b. (out-SubCommand (box_value b)).name.now) o

    go : {Z : Type 0} (o : Option (Box SubCommand Z)) → ¬ (named o ≡ Some (codes "run")) → ¬ (named o ≡ Some (codes "check")) → ¬ (named o ≡ Some (codes "dump"))
        → ¬ (named o ≡ Some (codes "replay")) → ¬ (named o ≡ Some (codes "serve")) → ¬ (named o ≡ Some (codes "explain")) → ¬ (named o ≡ Some (codes "version"))
        → ¬ (named o ≡ Some (codes "widen")) → ¬ (named o ≡ Some (codes "plain")) → ¬ (named o ≡ Some (codes "explore")) → (asked : Invocation) → ¬ Holds (subcommand_rows o) asked
    go None run check dump replay serve explain version widen plain explore asked h = h
    go (Some b) run check dump replay serve explain version widen plain explore (invocation.Run path options numbered numbers silent) h = run (ap Some h.0)
    go (Some b) run check dump replay serve explain version widen plain explore (invocation.Check path limits) h = check (ap Some h.0)
    go (Some b) run check dump replay serve explain version widen plain explore (invocation.Dump path name limits) h = dump (ap Some h.0)
    go (Some b) run check dump replay serve explain version widen plain explore (invocation.Replay script schedule configuration) h = replay (ap Some h.0)
    go (Some b) run check dump replay serve explain version widen plain explore (invocation.Serve options) h = serve (ap Some h.0)
    go (Some b) run check dump replay serve explain version widen plain explore (invocation.Explain script schedule wish) h = explain (ap Some h.0)
    go (Some b) run check dump replay serve explain version widen plain explore (invocation.Version json) h = version (ap Some h.0)
    go (Some b) run check dump replay serve explain version widen plain explore (invocation.Widen script json limits) h = widen (ap Some h.0)
    go (Some b) run check dump replay serve explain version widen plain explore (invocation.Plain script) h = plain (ap Some h.0)
    go (Some b) run check dump replay serve explain version widen plain explore (invocation.Explore script wish) h = explore (ap Some h.0)

-- ---- refusals

among : (k : ErrorKind) (kinds : Kinds) → IsAmong k kinds → ¬ (kinds ≡ []) × IsAmong k (or_else kinds (kind.InvalidValue ∷ []))
among k [] h = absurd h
among k (x ∷ xs) h = (λ none. cc, h)

-- the forms don't take the words
pub refused_by_fault : (words : List Text) (e : Error) → HasKind (fault_of program words) e → IsRefused words e
refused_by_fault words e (inl memory) = inl memory
refused_by_fault words e (inr h) = let found = among (kind_of e) (fault_of program words) h in inr (λ asked is. found.0 is.0, found.1)

-- they take them, and no command was read of what they found
pub refused_by_format : (words : List Text) (e : Error) → kind_of e ≡ kind.InvalidValue → fault_of program words ≡ []
    → ((asked : Invocation) → ¬ Holds (subcommand_of program words) asked) → IsRefused words e
refused_by_format words e of taken none =
    inr (λ asked is. none asked is.1, subst (λ kinds. IsAmong (kind_of e) (or_else kinds (kind.InvalidValue ∷ []))) (sym taken) (inl of))
