use Rattle.std.specs.Prelude.{string_bytes}
use Rattle.device.specs.Machine.{machine_of}
use Rattle.explaining.proofs.Walking.{faulted_at, refused_within}
use Rattle.explaining.proofs.Writing.{faulted_end, passed_end, refused_end, unbuilt_end}
use Rattle.explaining.proofs.ends.end_text.Goals as goal

pub explain_refused-requires-clause-within : goal.explain_refused-requires-clause-within
explain_refused-requires-clause-within c = refused_within c.args.performed.now.commands.now (machine_of c.args.device.now) c.args.end c.in-Refused.case c.requires.ended c.in-Refused.is

pub fault_text-requires-clause-replied : goal.fault_text-requires-clause-replied
fault_text-requires-clause-replied c = faulted_at c.args.performed.now.commands.now (machine_of c.args.device.now) c.args.end c.in-Faulted.case c.requires.ended c.in-Faulted.is

pub returns-in_ok-from_str-in-Passed-clause-tells : goal.returns-in_ok-from_str-in-Passed-clause-tells
returns-in_ok-from_str-in-Passed-clause-tells c =
    passed_end c.args.performed.now.options c.args.performed.now.given.name.now c.args.performed.now.told c.args.performed.now.commands.now c.args.performed.now.done.now (machine_of c.args.device.now) c.args.end c.in-Passed.ordered _ _ c.in-Passed.is
    c.in_ok-from_str-in-Passed.ensures.ok c.word_of.ensures

pub returns-in_ok-unbuilt_text-in-Unbuilt-clause-tells : goal.returns-in_ok-unbuilt_text-in-Unbuilt-clause-tells
returns-in_ok-unbuilt_text-in-Unbuilt-clause-tells c =
    unbuilt_end c.args.performed.now.options c.args.performed.now.given.name.now c.args.performed.now.told c.args.performed.now.commands.now c.args.performed.now.done.now (machine_of c.args.device.now) c.args.end c.in-Unbuilt.unbuilt _ c.in-Unbuilt.is

pub returns-in_ok-explain_refused-in-Refused-clause-tells : goal.returns-in_ok-explain_refused-in-Refused-clause-tells
returns-in_ok-explain_refused-in-Refused-clause-tells c =
    refused_end c.args.performed.now.options c.args.performed.now.given.name.now c.args.performed.now.told c.args.performed.now.commands.now c.args.performed.now.done.now (machine_of c.args.device.now) c.args.end c.in-Refused.case _ c.in-Refused.is
    c.in_ok-explain_refused-in-Refused.ensures

pub returns-in-Faulted-clause-tells : goal.returns-in-Faulted-clause-tells
returns-in-Faulted-clause-tells c =
    faulted_end c.args.performed.now.options c.args.performed.now.given.name.now c.args.performed.now.told c.args.performed.now.commands.now c.args.performed.now.done.now (machine_of c.args.device.now) c.args.end c.in-Faulted.case string_bytes
    c.fault_text.result c.in-Faulted.is c.fault_text.ensures.tells
