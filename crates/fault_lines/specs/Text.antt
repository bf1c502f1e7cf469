-- The text of a fault and its schedule.
use Rattle.std.specs.Prelude.{ℕ, ℤ, List, [], ◌∷◌, ◌++◌, codes, decimal}
use Rattle.std.specs.Fmt.{signed_decimal}
use Rattle.std.specs.List.{flat_map}
use Rattle.clmodel.specs.declared.access.AccessKind.{AccessKind}
use Rattle.clmodel.specs.declared.access.Clash.{Clash}
use Rattle.clmodel.specs.declared.access.Clash.TheVariants.{Race, Order}
use Rattle.clmodel.specs.declared.action.Stop.{Stop}
use Rattle.clmodel.specs.declared.action.Stop.TheVariants as stop
use Rattle.clmodel.specs.declared.fault.Fault.{Fault}
use Rattle.clmodel.specs.declared.fault.Fault.TheVariants as fault
use Rattle.clmodel.specs.declared.fault.Location.{Location}
use Rattle.clmodel.specs.declared.fault.Location.TheVariants as location
use Rattle.clmodel.specs.declared.schedule.EventRun.{EventRun}
use Rattle.clmodel.specs.declared.schedule.EventRun.TheVariants as run
use Rattle.byte_io.specs.Pieces.{joined}
pub use Rattle.fault_lines.specs.Words.{class_text, kind_text}

abbrev pub clash_text : Clash → List ℕ
clash_text Race = codes "fault 1 race item "
clash_text Order = codes "fault 2 order item "

abbrev pub location_text : Location → List ℕ
location_text (location.Buffer name) = joined (codes "buffer " ∷ name ∷ [])
location_text (location.Local group name) = joined (codes "local " ∷ decimal group ∷ codes " " ∷ name ∷ [])

abbrev pub later_turn_text : ℕ → List ℕ
later_turn_text turn = joined (codes "," ∷ decimal turn ∷ [])

-- the turns of the loops round a barrier, the outermost loop first
abbrev pub turns_text : List ℕ → List ℕ
turns_text [] = []
turns_text (turn ∷ turns) = joined (codes " turns " ∷ decimal turn ∷ []) ++ flat_map later_turn_text turns

abbrev pub stop_text : Stop → List ℕ
stop_text (stop.At instance) = joined (codes "barrier " ∷ decimal instance.site ∷ []) ++ turns_text instance.turns
stop_text stop.Ended = codes "end"

-- a run of a schedule
abbrev pub run_text : EventRun → List ℕ
run_text (run.Item item count) = joined (decimal item ∷ codes "*" ∷ decimal count ∷ [])
run_text (run.Release group) = joined (codes "r" ∷ decimal group ∷ [])

-- a run that isn't the first one of its schedule, behind a space
abbrev pub later_run_text : EventRun → List ℕ
later_run_text run = codes " " ++ run_text run

-- the runs of a schedule, or that there is none
abbrev pub schedule_text : List EventRun → List ℕ
schedule_text [] = codes "-"
schedule_text (run ∷ runs) = run_text run ++ flat_map later_run_text runs

-- the words in front of a fault's item
abbrev pub fault_words : Fault → List ℕ
fault_words (fault.Conflict clash item kind other_item other_kind location byte) = clash_text clash
fault_words (fault.Divergence item stop other_item other_stop) = codes "fault 3 divergence item "
fault_words (fault.Bounds item kind location element) = codes "fault 4 bounds item "
fault_words (fault.PrivateBounds item array element) = codes "fault 4 bounds item "
fault_words (fault.Unset item kind location byte) = codes "fault 5 unset item "
fault_words (fault.UnsetVariable item variable) = codes "fault 5 unset item "
fault_words (fault.UnsetElement item array element) = codes "fault 5 unset item "
fault_words (fault.DivideByZero item) = codes "fault 6 divide_by_zero item "
fault_words (fault.DivideOverflow item) = codes "fault 7 divide_overflow item "
fault_words (fault.Budget item) = codes "fault 8 budget item "

-- a fault's item, the first one where it has two
abbrev pub fault_item : Fault → ℕ
fault_item (fault.Conflict clash item kind other_item other_kind location byte) = item
fault_item (fault.Divergence item stop other_item other_stop) = item
fault_item (fault.Bounds item kind location element) = item
fault_item (fault.PrivateBounds item array element) = item
fault_item (fault.Unset item kind location byte) = item
fault_item (fault.UnsetVariable item variable) = item
fault_item (fault.UnsetElement item array element) = item
fault_item (fault.DivideByZero item) = item
fault_item (fault.DivideOverflow item) = item
fault_item (fault.Budget item) = item

-- an access of a byte, behind its item
abbrev pub byte_texts : AccessKind → Location → ℕ → List (List ℕ)
byte_texts kind location byte = codes " " ∷ kind_text kind ∷ codes " " ∷ location_text location ∷ codes " byte " ∷ decimal byte ∷ []

-- an access of an element, behind its item
abbrev pub element_texts : AccessKind → Location → ℤ → List (List ℕ)
element_texts kind location element = codes " " ∷ kind_text kind ∷ codes " " ∷ location_text location ∷ codes " element " ∷ signed_decimal element ∷ []

-- an element of a private array, behind the item
abbrev pub private_texts : List ℕ → ℤ → List (List ℕ)
private_texts array element = codes " private " ∷ array ∷ codes " element " ∷ signed_decimal element ∷ []

-- a variable, behind the item
abbrev pub variable_texts : List ℕ → List (List ℕ)
variable_texts variable = codes " variable " ∷ variable ∷ []

-- two accesses, behind the earlier one's item
abbrev pub conflict_texts : AccessKind → ℕ → AccessKind → Location → ℕ → List (List ℕ)
conflict_texts kind other_item other_kind location byte = codes " " ∷ kind_text kind ∷ codes " item " ∷ decimal other_item ∷ byte_texts other_kind location byte

-- two stops, behind the first one's item
abbrev pub divergence_texts : Stop → ℕ → Stop → List (List ℕ)
divergence_texts stop other_item other_stop = codes " " ∷ stop_text stop ∷ codes " item " ∷ decimal other_item ∷ codes " " ∷ stop_text other_stop ∷ []

-- what a fault tells behind its item
abbrev pub fault_details : Fault → List (List ℕ)
fault_details (fault.Conflict clash item kind other_item other_kind location byte) = conflict_texts kind other_item other_kind location byte
fault_details (fault.Divergence item stop other_item other_stop) = divergence_texts stop other_item other_stop
fault_details (fault.Bounds item kind location element) = element_texts kind location element
fault_details (fault.PrivateBounds item array element) = private_texts array element
fault_details (fault.Unset item kind location byte) = byte_texts kind location byte
fault_details (fault.UnsetVariable item variable) = variable_texts variable
fault_details (fault.UnsetElement item array element) = private_texts array element
fault_details (fault.DivideByZero item) = []
fault_details (fault.DivideOverflow item) = []
fault_details (fault.Budget item) = []

-- a fault, its schedule left out
abbrev pub fault_text : Fault → List ℕ
fault_text fault = joined (fault_words fault ∷ decimal (fault_item fault) ∷ fault_details fault)

-- a fault and its schedule, as a line with its line feed
abbrev pub fault_line : Fault → List EventRun → List ℕ
fault_line fault schedule = fault_text fault ++ joined (codes " schedule " ∷ schedule_text schedule ∷ codes "\n" ∷ [])
