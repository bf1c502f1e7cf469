-- A script whose replies hold for other bytes, in JSON (RFC 8259; the members are this project's own, version 1).
-- Members stand in the order of their names.
use Rattle.std.specs.Prelude.{ℕ, String, Option, None, Some, List, map, codes, string_bytes}
use Rattle.std.specs.declared.alloc.Global.{Global}
use Rattle.serde_json.specs.Data.{Data, null, boolean, number, unsigned, string, array, object, member, no_members}
use Rattle.serde_json.specs.View.{items_of}
use Rattle.explanation.specs.declared.steps.Code.{Code}
use Rattle.wide_sources.specs.Words.{why_word}
use Rattle.wide_sources.specs.declared.data.Deciding.{Deciding}
use Rattle.wide_sources.specs.declared.data.FreeArgument.{FreeArgument}
use Rattle.wide_text.specs.Told.{whole_text}
use Rattle.wide_text.specs.declared.data.FreeBuffer.{FreeBuffer}
use Rattle.wide_text.specs.declared.data.WideLaunch.{WideLaunch}
use Rattle.wide_text.specs.declared.data.WideReport.{WideReport}

abbrev pub number_data : ℕ → Data
number_data n = number (unsigned n)

abbrev pub text_data : String Global → Data
text_data s = string (string_bytes s)

abbrev pub or_null : {A : Type 0} → (A → Data) → Option A → Data
or_null f None = null
or_null f (Some x) = f x

abbrev pub list_data : {A : Type 0} → (A → Data) → List A → Data
list_data f xs = array (items_of (map f xs))

-- what decides: an argument, where it has an index
abbrev pub source_word : Option ℕ → List ℕ
source_word None = codes "buffer"
source_word (Some index) = codes "argument"

abbrev pub code_data : Code → Data
code_data c =
    object (member (codes "column") (number_data c.column) (member (codes "length") (number_data c.length) (member (codes "line") (number_data c.line)
    (member (codes "offset") (number_data c.offset) (member (codes "script_line") (number_data c.script_line) (member (codes "text") (text_data c.text) no_members))))))

abbrev pub deciding_data : Deciding → Data
deciding_data d =
    object (member (codes "file") (or_null text_data d.file) (member (codes "index") (or_null number_data d.index) (member (codes "name") (text_data d.name)
    (member (codes "source") (string (source_word d.index)) (member (codes "spot") (or_null code_data d.code) (member (codes "why") (string (why_word d.why)) no_members))))))

abbrev pub buffer_data : FreeBuffer → Data
buffer_data b = object (member (codes "from") (or_null number_data b.from) (member (codes "name") (text_data b.name) no_members))

abbrev pub argument_data : FreeArgument → Data
argument_data a = object (member (codes "index") (number_data a.index) (member (codes "name") (text_data a.name) no_members))

-- for what the reply to a launch holds
abbrev pub holds_data : WideLaunch → Data
holds_data l =
    object (member (codes "arguments") (list_data argument_data l.arguments.items) (member (codes "buffers") (list_data buffer_data l.buffers.items) no_members))

abbrev pub launch_data : WideLaunch → Data
launch_data l =
    object (member (codes "command") (number_data l.command) (member (codes "deciding") (list_data deciding_data l.deciding.items) (member (codes "holds_for") (holds_data l)
    (member (codes "reply") (text_data l.reply) (member (codes "script_line") (number_data l.script_line) no_members)))))

-- the script as a whole, with its last line of text
abbrev pub script_with : List ℕ → WideReport → Data
script_with text r =
    object (member (codes "clean") (boolean r.clean) (member (codes "free") (list_data number_data r.free.items) (member (codes "reads") (list_data number_data r.reads.items)
    (member (codes "text") (string text) no_members))))

abbrev pub script_data : WideReport → Data
script_data r = script_with (whole_text r.clean r.free.items r.reads.items) r

abbrev pub report_data : WideReport → Data
report_data r =
    object (member (codes "launches") (list_data launch_data r.launches.items) (member (codes "script") (script_data r) (member (codes "version") (number_data 1) no_members)))
