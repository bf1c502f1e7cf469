use Rattle.std.proofs.Common.{Bool, sym, subst}
use Rattle.std.proofs.lemmas.Result.{IfOk-weaker}
use Rattle.device.specs.Machine.{kernel_of, machine_of, setup_of}
use Rattle.wide_faults.specs.Faults.{IsFaultAside}
use Rattle.wide_faults.proofs.faults.fault_aside.Goals as goal

pub returns-then-orders : goal.returns-then-orders
returns-then-orders c =
    let m = machine_of c.args.device.now in
    let setup = setup_of m (kernel_of m c.args.kernel.now) c.args.range.now in
    IfOk-weaker c.orders_line.result _ _
    (λ text is fault schedule launches. subst (λ (b : Bool). IsFaultAside b c.args.head.now m setup fault schedule text.items) (sym c.if-orders.true) is) c.orders_line.ensures

pub returns : goal.returns
returns c =
    let m = machine_of c.args.device.now in
    let setup = setup_of m (kernel_of m c.args.kernel.now) c.args.range.now in
    IfOk-weaker c.kernel_aside.result _ _
    (λ text tells fault schedule launches.
    subst (λ (b : Bool). IsFaultAside b c.args.head.now m setup fault schedule text.items) (sym c.if-orders.false) (tells fault schedule (launches c.if-orders.false))) c.kernel_aside.ensures
