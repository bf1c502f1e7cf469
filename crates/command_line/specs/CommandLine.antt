-- The forms of the command line, and what a command line asks for.
use Rattle.std.specs.Prelude.{◌≡◌, ◌⊎◌, ◌≤◌, ◌<◌, ◌^◌, ℕ, Bool, true, false, Option, Some, None, option_map, List, [], ◌∷◌, codes}
use Rattle.std.specs.Option.{MatchOption}
use Rattle.std.specs.Str.{bytes_eq}
use Rattle.std.specs.Str.Parse.{IsNumeral, digits_value, without_leading_plus}
use Rattle.clap.specs.Kinds.{or_else}
use Rattle.clap.specs.Simple.{new_shape, on_top}
use Rattle.clap.specs.Words.{App, Rule, Row, Shape, Text, IsAmong, app_of, new_app, new_rule, rule_of, subcommand_of, first_of, one_of, kind_of, fault_of}
use Rattle.clap.specs.declared.builder.action.ArgAction.TheVariants as action
use Rattle.clap.specs.declared.builder.arg.Arg.{Arg}
use Rattle.clap.specs.declared.builder.value_parser.ValueParser.TheVariants as parser
use Rattle.clap.specs.declared.builder.command.Command.{Command}
use Rattle.clap.specs.declared.builder.command.Command.TheViews.{out-Command}
use Rattle.clap.specs.declared.error.Error.{Error}
use Rattle.clap.specs.declared.error.kind.ErrorKind.TheVariants as kind
use Rattle.command_line.specs.declared.forms.Invocation.{Invocation}
use Rattle.command_line.specs.declared.forms.Invocation.TheVariants as invocation
use Rattle.limits.specs.Limits.{profile, large}
use Rattle.limits.specs.declared.Configuration.{Configuration}
use Rattle.limits.specs.declared.Limits.{Limits}

-- a form of this name with these arguments
unfoldable pub form_of : Text → List Rule → Shape
form_of name arguments = record (new_shape name) { rules = arguments }

-- a form by itself, without forms below it
abbrev pub alone : Shape → App
alone form = record { top = form; subs = [] }

-- a form of this name with these arguments, none of which is global
pub record IsForm (name : Text) (arguments : List Rule) (form : Command) : Type 0 where
  pub is : app_of form ≡ alone (form_of name arguments)
  pub local : (out-Command form).has_globals ≡ false

-- an argument of this rule, which is not global
pub record IsArgument (rule : Rule) (argument : Arg) : Type 0 where
  pub is : rule_of argument ≡ rule
  pub local : argument.global ≡ false

-- an argument that must be given
unfoldable pub needed : Text → Rule
needed name = record (new_rule name) { required = true }

-- an option with a value
unfoldable pub option : Text → Rule
option name = record (new_rule name) { long = Some name; value_names = 1 }

-- an option whose value is a number from 1 to the most
unfoldable pub number : Text → ℕ → Rule
number name most = record (new_rule name) { long = Some name; value_names = 1; parser = Some (parser.Unsigned 1 most) }

-- an option whose value is a number of 64 bits
unfoldable pub wide_number : Text → Rule
wide_number name = record (new_rule name) { long = Some name; value_names = 1; parser = Some (parser.Unsigned 0 18446744073709551615) }

-- `FILE`
abbrev pub file : Rule
file = needed (codes "FILE")

-- `KERNEL`
abbrev pub kernel : Rule
kernel = needed (codes "KERNEL")

-- `SCRIPT`
abbrev pub script : Rule
script = needed (codes "SCRIPT")

-- `SCHEDULE`
abbrev pub schedule : Rule
schedule = needed (codes "SCHEDULE")

-- `SCHEDULE`, which may be left out
unfoldable pub some_schedule : Rule
some_schedule = new_rule (codes "SCHEDULE")

-- `--workers N`, a number from 1 to 16
abbrev pub workers : Rule
workers = number (codes "workers") 16

-- `--budget N`, a number from 1 to 1,000,000,000; which of them are a budget, the limits say
abbrev pub budget : Rule
budget = number (codes "budget") 1000000000

-- `--limits LIMITS`
abbrev pub limits : Rule
limits = option (codes "limits")

-- `--format FORMAT`
abbrev pub format : Rule
format = option (codes "format")

-- an option without a value
unfoldable pub flag : Text → Rule
flag name = record (new_rule name) { long = Some name; action = Some action.SetTrue }

-- `--as-given`
abbrev pub as_given : Rule
as_given = flag (codes "as-given")

-- `--all`
abbrev pub all : Rule
all = flag (codes "all")

-- `--steps N`, a number from 1 to 1,000,000
abbrev pub steps : Rule
steps = number (codes "steps") 1000000

-- `--widen`
abbrev pub widen : Rule
widen = flag (codes "widen")

-- `--launch N`, a number from 1 to 1,000,000
abbrev pub launch : Rule
launch = number (codes "launch") 1000000

-- `--orders N`, a number from 1 to 1,000,000
abbrev pub orders : Rule
orders = number (codes "orders") 1000000

-- `--seconds N`, a number from 1 to 86,400
abbrev pub seconds : Rule
seconds = number (codes "seconds") 86400

-- `--seed N`, a number of 64 bits
abbrev pub seed : Rule
seed = wide_number (codes "seed")

-- what a device is made with: `--budget N` and `--limits LIMITS`
abbrev pub configured : List Rule
configured = budget ∷ limits ∷ []

-- the options of a run: `--workers N`, `--budget N` and `--limits LIMITS`
abbrev pub working : List Rule
working = workers ∷ configured

-- `--lines`
abbrev pub lines : Rule
lines = flag (codes "lines")

-- `--quiet`
abbrev pub quiet : Rule
quiet = flag (codes "quiet")

-- `run FILE [--workers N] [--budget N] [--limits LIMITS] [--lines] [--format bytes|numbers] [--quiet]`
abbrev pub run_arguments : List Rule
run_arguments = file ∷ workers ∷ budget ∷ limits ∷ lines ∷ format ∷ quiet ∷ []

-- `check FILE [--limits LIMITS]`
abbrev pub check_arguments : List Rule
check_arguments = file ∷ limits ∷ []

-- `dump FILE KERNEL [--limits LIMITS]`
abbrev pub dump_arguments : List Rule
dump_arguments = file ∷ kernel ∷ limits ∷ []

-- `replay SCRIPT SCHEDULE [--limits LIMITS]`
abbrev pub replay_arguments : List Rule
replay_arguments = script ∷ schedule ∷ limits ∷ []

-- `serve [--workers N] [--budget N] [--limits LIMITS]`
abbrev pub serve_arguments : List Rule
serve_arguments = working

-- what `explain` explains, and how: `SCRIPT [SCHEDULE] [--format text|json]`
abbrev pub explained : List Rule
explained = script ∷ some_schedule ∷ format ∷ []

-- `explain SCRIPT [SCHEDULE] [--format text|json] [--budget N] [--limits LIMITS] [--as-given] [--all] [--steps N]
-- [--widen]`
abbrev pub explain_arguments : List Rule
explain_arguments = script ∷ some_schedule ∷ format ∷ budget ∷ limits ∷ as_given ∷ all ∷ steps ∷ widen ∷ []

-- `version [--format text|json]`
abbrev pub version_arguments : List Rule
version_arguments = format ∷ []

-- `widen SCRIPT [--format text|json] [--limits LIMITS]`
abbrev pub widen_arguments : List Rule
widen_arguments = script ∷ format ∷ limits ∷ []

-- `plain SCRIPT`
abbrev pub plain_arguments : List Rule
plain_arguments = script ∷ []

-- which orders `explore` tries: `SCRIPT [--launch N] [--orders N] [--seconds N] [--seed N]`
abbrev pub searched : List Rule
searched = script ∷ launch ∷ orders ∷ seconds ∷ seed ∷ []

-- `explore SCRIPT [--launch N] [--orders N] [--seconds N] [--seed N] [--budget N] [--limits LIMITS]`
abbrev pub explore_arguments : List Rule
explore_arguments = script ∷ launch ∷ orders ∷ seconds ∷ seed ∷ budget ∷ limits ∷ []

-- the program without a form; one must be named, but for `--version`
abbrev pub no_form : App
no_form = on_top (λ top. record top { subcommand_required = true; has_version = true }) (new_app (codes "clsim"))

-- the program with these forms
unfoldable pub program_of : List Shape → App
program_of [] = no_form
program_of (form ∷ more) = record { top = record no_form.top { is_leaf = false }; subs = form ∷ more }

-- these are the program's forms
pub record AreForms (forms : List Shape) (command : Command) : Type 0 where
  pub are : app_of command ≡ program_of forms

-- the forms of the program
abbrev pub all_forms : List Shape
all_forms = form_of (codes "run") run_arguments ∷ form_of (codes "check") check_arguments ∷ form_of (codes "dump") dump_arguments
    ∷ form_of (codes "replay") replay_arguments ∷ form_of (codes "serve") serve_arguments ∷ form_of (codes "explain") explain_arguments
    ∷ form_of (codes "version") version_arguments ∷ form_of (codes "widen") widen_arguments ∷ form_of (codes "plain") plain_arguments
    ∷ form_of (codes "explore") explore_arguments ∷ []

unfoldable pub program : App
program = program_of all_forms

-- what is read is asked for, and nothing is read only where nothing is asked for (own)
abbrev pub Reads : {A : Type 0} → (A → Type 0) → Option A → Type 0
Reads {A} Asks read = MatchOption read ((asked : A) → ¬ Asks asked) Asks

-- the number of an option, from 1 to the most, or what it is where the option isn't there
abbrev pub IsNumber : ℕ → ℕ → Option Text → ℕ → Type 0
IsNumber absent most None n = n ≡ absent
IsNumber absent most (Some text) n = IsNumeral 10 (without_leading_plus text)
    × (n ≡ digits_value 10 (without_leading_plus text)) × (1 ≤ n) × (n ≤ most)

-- the number of `--workers`, or 1 where it isn't there
abbrev pub GivesWorkers : List Row → ℕ → Type 0
GivesWorkers rows n = IsNumber 1 16 (one_of (codes "workers") rows) n

-- which limits are named: the profile's where none are
abbrev pub AreLimits : Option Text → Limits → Type 0
AreLimits None limits = limits ≡ profile
AreLimits (Some text) limits = (text ≡ codes "profile") × (limits ≡ profile) ⊎ (text ≡ codes "large") × (limits ≡ large)

abbrev pub GivesLimits : List Row → Limits → Type 0
GivesLimits rows limits = AreLimits (first_of (codes "limits") rows) limits

-- the number of `--budget`, up to what the limits allow, or what they give where it isn't there
abbrev pub GivesBudget : List Row → Limits → ℕ → Type 0
GivesBudget rows limits n = IsNumber limits.default_ticks limits.ticks (one_of (codes "budget") rows) n

-- the limits and the budget
abbrev pub GivesConfiguration : List Row → Configuration → Type 0
GivesConfiguration rows configuration = GivesLimits rows configuration.limits × GivesBudget rows configuration.limits configuration.budget

-- the limits, with the budget that they give
abbrev pub GivesDefault : List Row → Configuration → Type 0
GivesDefault rows configuration = GivesLimits rows configuration.limits × (configuration.budget ≡ configuration.limits.default_ticks)

-- whether an option is the second of two words: it is the first where it isn't there
abbrev pub IsSecond : Text → Text → Option Text → Bool → Type 0
IsSecond first second None is = is ≡ false
IsSecond first second (Some text) is = (text ≡ first) × (is ≡ false) ⊎ (text ≡ second) × (is ≡ true)

-- whether the format is JSON, and not text
abbrev pub IsFormat : Option Text → Bool → Type 0
IsFormat named json = IsSecond (codes "text") (codes "json") named json

abbrev pub GivesFormat : List Row → Bool → Type 0
GivesFormat rows json = IsFormat (first_of (codes "format") rows) json

-- whether replies are shown as numbers, and not as bytes
abbrev pub GivesNumbers : List Row → Bool → Type 0
GivesNumbers rows numbers = IsSecond (codes "bytes") (codes "numbers") (first_of (codes "format") rows) numbers

-- the number of an option, from 1 to the most, where the option is there
abbrev pub IsCount : ℕ → Option Text → Option ℕ → Type 0
IsCount most None count = count ≡ None
IsCount most (Some text) None = ⊥
IsCount most (Some text) (Some n) = IsNumber 0 most (Some text) n

-- the number of `--steps`, where it is there
abbrev pub GivesSteps : List Row → Option ℕ → Type 0
GivesSteps rows count = IsCount 1000000 (one_of (codes "steps") rows) count

-- the number of `--launch`, where it is there
abbrev pub GivesLaunch : List Row → Option ℕ → Type 0
GivesLaunch rows count = IsCount 1000000 (one_of (codes "launch") rows) count

-- the number of `--orders`, or 1,000 where it isn't there
abbrev pub GivesOrders : List Row → ℕ → Type 0
GivesOrders rows n = IsNumber 1000 1000000 (one_of (codes "orders") rows) n

-- the number of `--seconds`, where it is there
abbrev pub GivesSeconds : List Row → Option ℕ → Type 0
GivesSeconds rows count = IsCount 86400 (one_of (codes "seconds") rows) count

-- the number of an option, of 64 bits, or 1 where the option isn't there
abbrev pub IsSeed : Option Text → ℕ → Type 0
IsSeed None n = n ≡ 1
IsSeed (Some text) n = IsNumeral 10 (without_leading_plus text) × (n ≡ digits_value 10 (without_leading_plus text)) × (n < 2 ^ 64)

abbrev pub GivesSeed : List Row → ℕ → Type 0
GivesSeed rows n = IsSeed (one_of (codes "seed") rows) n

-- whether a flag is there
pub record IsFlag (found : Option Text) (given : Bool) : Type 0 where
  pub there : found ≡ Some (codes "true") → given ≡ true
  pub absent : found ≡ Some (codes "false") → given ≡ false
  pub unknown : found ≡ None → given ≡ false

abbrev pub GivesFlag : Text → List Row → Bool → Type 0
GivesFlag name rows given = IsFlag (one_of name rows) given

-- whether a flag's text says that it is there
abbrev pub says_yes : Option Text → Bool
says_yes None = false
says_yes (Some text) = bytes_eq text (codes "true")

-- whether `--widen` is there, which takes text and no schedule file
pub record GivesWiden (rows : List Row) (widen : Bool) : Type 0 where
  pub there : widen ≡ says_yes (first_of (codes "widen") rows)
  pub text : widen ≡ true → GivesFormat rows false
  pub alone : widen ≡ true → first_of (codes "SCHEDULE") rows ≡ None

-- what is wrong with the values of a form: its limits where they are none, or else its format where it is none, or else
-- what `--widen` doesn't take, or else its budget (own)
pub record SaysWrong (rows : List Row) (text : Text) : Type 0 where
  pub limits : ((limits : Limits) → ¬ GivesLimits rows limits) → text ≡ codes "the limits are profile or large"
  pub format : (limits : Limits) → GivesLimits rows limits → ((json : Bool) → ¬ GivesFormat rows json) → text ≡ codes "the format is text or json"
  pub widen : (limits : Limits) (json : Bool) → GivesLimits rows limits → GivesFormat rows json → ((widen : Bool) → ¬ GivesWiden rows widen)
      → text ≡ codes "--widen takes text and no schedule file"
  pub budget : (limits : Limits) (json widen : Bool) → GivesLimits rows limits → GivesFormat rows json → GivesWiden rows widen
      → text ≡ codes "the budget is at most 1000000, and with --limits large at most 1000000000"

-- what is wrong with the values of `run`: its limits where they are none, or else its format where it is none, or else
-- its budget (own)
pub record SaysWrongRun (rows : List Row) (text : Text) : Type 0 where
  pub limits : ((limits : Limits) → ¬ GivesLimits rows limits) → text ≡ codes "the limits are profile or large"
  pub format : (limits : Limits) → GivesLimits rows limits → ((numbers : Bool) → ¬ GivesNumbers rows numbers) → text ≡ codes "the format is bytes or numbers"
  pub budget : (limits : Limits) (numbers : Bool) → GivesLimits rows limits → GivesNumbers rows numbers
      → text ≡ codes "the budget is at most 1000000, and with --limits large at most 1000000000"

-- the name of the form by which this is asked for
abbrev pub form_name : Invocation → Text
form_name (invocation.Run _ _ _ _ _) = codes "run"
form_name (invocation.Check _ _) = codes "check"
form_name (invocation.Dump _ _ _) = codes "dump"
form_name (invocation.Replay _ _ _) = codes "replay"
form_name (invocation.Serve _) = codes "serve"
form_name (invocation.Explain _ _ _) = codes "explain"
form_name (invocation.Version _) = codes "version"
form_name (invocation.Widen _ _ _) = codes "widen"
form_name (invocation.Plain _) = codes "plain"
form_name (invocation.Explore _ _) = codes "explore"

-- the matches of its form give what is asked for: a run by their workers, under their limits and budget, with the lines
-- of its commands or without, and quiet or not; a check or a dump within their limits; a replay under their limits; an
-- explanation of the schedule file, if one is named; a script whose replies are widened, within their limits; a script
-- that is written as a plain one; a script whose launches are tried in other orders (own)
abbrev pub Gives : List Row → Invocation → Type 0
Gives rows (invocation.Run path options numbered numbers silent) =
    (first_of (codes "FILE") rows ≡ Some path.now) × GivesWorkers rows options.workers × GivesConfiguration rows options.configuration
    × GivesFlag (codes "lines") rows numbered × GivesNumbers rows numbers × GivesFlag (codes "quiet") rows silent
Gives rows (invocation.Check path limits) = (first_of (codes "FILE") rows ≡ Some path.now) × GivesLimits rows limits
Gives rows (invocation.Dump path name limits) =
    (first_of (codes "FILE") rows ≡ Some path.now) × (first_of (codes "KERNEL") rows ≡ Some name.now) × GivesLimits rows limits
Gives rows (invocation.Replay script schedule configuration) =
    (first_of (codes "SCRIPT") rows ≡ Some script.now) × (first_of (codes "SCHEDULE") rows ≡ Some schedule.now) × GivesDefault rows configuration
Gives rows (invocation.Serve options) = GivesWorkers rows options.workers × GivesConfiguration rows options.configuration
Gives rows (invocation.Explain script schedule wish) =
    (first_of (codes "SCRIPT") rows ≡ Some script.now) × (first_of (codes "SCHEDULE") rows ≡ option_map (λ s. s.now) schedule)
    × GivesConfiguration rows wish.configuration × GivesFormat rows wish.json × GivesFlag (codes "as-given") rows wish.as_given × GivesFlag (codes "all") rows wish.all
    × GivesSteps rows wish.steps × GivesWiden rows wish.widen
Gives rows (invocation.Version json) = GivesFormat rows json
Gives rows (invocation.Widen script json limits) =
    (first_of (codes "SCRIPT") rows ≡ Some script.now) × GivesFormat rows json × GivesLimits rows limits
Gives rows (invocation.Plain script) = first_of (codes "SCRIPT") rows ≡ Some script.now
Gives rows (invocation.Explore script wish) =
    (first_of (codes "SCRIPT") rows ≡ Some script.now) × GivesLaunch rows wish.launch × GivesOrders rows wish.orders × GivesSeconds rows wish.seconds
    × GivesSeed rows wish.seed × GivesConfiguration rows wish.configuration

-- the form of this name, with these matches, asks for it
abbrev pub AsksBy : Text → List Row → Invocation → Type 0
AsksBy name rows asked = (name ≡ form_name asked) × Gives rows asked

-- the subcommand that was met, with its matches, is the form that is asked for
abbrev pub Holds : Option (Text × List Row) → Invocation → Type 0
Holds None asked = ⊥
Holds (Some (name, rows)) asked = AsksBy name rows asked

-- the forms take the words, whose matches hold what is asked for
abbrev pub AsksFor : List Text → Invocation → Type 0
AsksFor words asked = (fault_of program words ≡ []) × Holds (subcommand_of program words) asked

-- the words ask for nothing
abbrev pub AsksForNothing : List Text → Type 0
AsksForNothing words = (asked : Invocation) → ¬ AsksFor words asked

-- memory ran out, or the words ask for nothing: the error has a kind of the first fault that the forms find in them,
-- or that of a value that is none where they find none (own)
abbrev pub IsRefused : List Text → Error → Type 0
IsRefused words error = (kind_of error ≡ kind.OutOfMemory)
    ⊎ AsksForNothing words × IsAmong (kind_of error) (or_else (fault_of program words) (kind.InvalidValue ∷ []))
