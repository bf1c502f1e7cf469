-- A refusal in JSON (RFC 8259; the members are this project's own, version 3). Members stand in the order of their
-- names.
use Rattle.std.specs.Prelude.{ℕ, Option, None, Some, List, codes, string_bytes, option_copied}
use Rattle.serde_json.specs.Data.{Data, number, unsigned, string, array, object, member, no_members, item, no_items}
use Rattle.build_hints.specs.Refusals.{IsRefusal}
use Rattle.build_hints.specs.declared.faults.Refused.{Refused}
use Rattle.build_hints.specs.declared.refusals.Refusal.{Refusal}
use Rattle.explain_json.specs.Lines.{IsLine}

abbrev pub number_data : ℕ → Data
number_data n = number (unsigned n)

-- the fault, as `clsim check` has it
abbrev pub fault_data : Refusal → Data
fault_data r =
    object (member (codes "kind") (string r.kind.now) (member (codes "name") (string r.name.now) (member (codes "number") (number_data r.number) no_members)))

-- where it lies
abbrev pub spot_data : Refusal → Data
spot_data r =
    object (member (codes "column") (number_data r.column) (member (codes "length") (number_data r.length) (member (codes "line") (number_data r.line)
    (member (codes "offset") (number_data r.offset) (member (codes "script_line") (number_data r.script_line) (member (codes "text") (string (string_bytes r.text)) no_members))))))

-- what to write
abbrev pub hints_data : Option (List ℕ) → Data
hints_data None = array no_items
hints_data (Some hint) = array (item (string hint) no_items)

abbrev pub refusal_data : List ℕ → Refusal → Data
refusal_data name r =
    object (member (codes "fault") (fault_data r) (member (codes "hints") (hints_data (option_copied r.hint)) (member (codes "kind") (string (codes "refusal"))
    (member (codes "script") (string name) (member (codes "spot") (spot_data r) (member (codes "title") (string r.title.now) (member (codes "version") (number_data 3) no_members)))))))

-- a line for the refusal of a fault of a source, which begins at a line of the file that is named
pub record IsRefusedLine (name source : List ℕ) (first_line : ℕ) (fault : Refused) (json : List ℕ) : Type 0 where
  pub refusal : Refusal
  pub is : IsRefusal source first_line fault refusal
  pub line : IsLine (refusal_data name refusal) json
