-- How seats come, tell, leave and learn: how one view is cut in two, and two are put together. All of it is own: the
-- standard doesn't say how a queue is kept.
use Rattle.std.specs.Prelude.{◌+◌, ◌-◌, []}
use Rattle.host_queue.specs.declared.view.View.{View}
use Rattle.host_queue.specs.Views.{newcomer}

module _ {D C R : Type 0} where
  -- a client comes: the driver lets it in
  abbrev pub host_of : View D C R → View D C R
  host_of v = record v { credit = v.credit - 1; admitted = v.admitted + 1 }

  abbrev pub guest_of : View D C R → View D C R
  guest_of v = newcomer v.start 1 v.admitted []

  -- a note of what a seat knows
  abbrev pub note_of : View D C R → View D C R
  note_of v = record (newcomer v.start 0 0 v.known) { heard_name = v.name; heard_floor = v.floor; heard_tickets = v.tickets; heard_known = v.known }

  -- a client leaves: it draws no more, and its note says how many tickets it drew
  abbrev pub gone : View D C R → View D C R
  gone v = record v { share = 0; count = 0 }

  abbrev pub farewell_of : View D C R → View D C R
  farewell_of v = record (note_of v) { share = v.share; count = v.count }

  abbrev pub told : View D C R → View D C R → View D C R
  told v w = record v { share = v.share + w.share; count = v.count + w.count; heard_name = w.heard_name; heard_floor = w.heard_floor; heard_tickets = w.heard_tickets; heard_known = w.heard_known }

  abbrev pub spent : View D C R
  spent = newcomer [] 0 0 []
