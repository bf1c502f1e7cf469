use Rattle.item_value.proofs.giving.value_of.Goals as goal

pub returns-in-Move : goal.returns-in-Move
returns-in-Move c place counters on after = rw c.in-Move.is (search c.load_variable.ensures)

pub returns-in-AssignConversion : goal.returns-in-AssignConversion
returns-in-AssignConversion c place counters on after = rw c.in-AssignConversion.is (search c.assign.ensures)

pub returns-in-Convert : goal.returns-in-Convert
returns-in-Convert c place counters on after = rw c.in-Convert.is (search c.cast.ensures)

pub returns-in-UsualConversion : goal.returns-in-UsualConversion
returns-in-UsualConversion c place counters on after = rw c.in-UsualConversion.is (search c.to_common_type.ensures)

pub returns-in-Unary : goal.returns-in-Unary
returns-in-Unary c place counters on after = rw c.in-Unary.is (search c.apply_unary.ensures)

pub returns-in-Binary : goal.returns-in-Binary
returns-in-Binary c place counters on after = rw c.in-Binary.is (search c.apply_binary.ensures)

pub returns-in-None : goal.returns-in-None
returns-in-None c place counters on after = rw (c.in-Builtin.is, c.in-None.is) (search c.call_builtin.ensures)

pub returns-in-Some : goal.returns-in-Some
returns-in-Some c place counters on after = rw (c.in-Builtin.is, c.in-Some.is) (search c.call_builtin_of_two.ensures)

pub returns-in-Query : goal.returns-in-Query
returns-in-Query c place counters on after = rw c.in-Query.is (search c.query_work_item.ensures)

pub returns-in-MovePointer : goal.returns-in-MovePointer
returns-in-MovePointer c place counters on after = rw c.in-MovePointer.is (search c.pointer_operand.ensures)

pub returns-in-Offset : goal.returns-in-Offset
returns-in-Offset c place counters on after = rw c.in-Offset.is (search c.move_pointer.ensures)

pub returns-in-PrivateLoad : goal.returns-in-PrivateLoad
returns-in-PrivateLoad c place counters on after = rw c.in-PrivateLoad.is (search c.load_private.ensures)
