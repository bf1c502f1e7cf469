use Rattle.std.proofs.Common.{rules, arith, sym, ap, ◌∙◌, ◌≡◌, get_or, length, [], ◌∷◌}
use Rattle.std.specs.Box.{box_value}
use Rattle.host_queue.proofs.Comings.{starts}
use Rattle.host_queue.proofs.Clients.{driver_first, zeros}
use Rattle.host_queue.proofs.queue.open.Goals as goal

pub vacant-requires : goal.vacant-requires
vacant-requires g c = let w = c.as_slice.ensures in let f = c.in_ok-words.ensures in starts g.D.Machine.step box_value c.of-about.result.value c.as_slice.result.now 4096 (w.len ∙ f.len) (omega arith) (λ i. ap (λ l. get_or l i 0) (w.value ∙ f.items_if_clones_equal (λ y e. e)) ∙ zeros 4128 i)

pub invariant_of-driver : goal.invariant_of-driver
invariant_of-driver g c = let e = ap (λ m. m.0) c.in_ok-table.ensures.4 in record {
  driver = driver_first g.D.Machine.step c.in_ok-table.seat.me.0 c.of-about.result.value c.args.machine e (search rules);
  counted = sym (ap (λ z. length z.known) e);
  short = omega arith;
}

pub returns-clause-clients : goal.returns-clause-clients
returns-clause-clients g c = let a = c.in_ok-list.ensures in let e = ap (λ m. m.0) c.in_ok-table.ensures.4 in let m : c.of-about.result.value ≡ c.args.machine = search rules in
    (a.clients.0, λ k x at. let z = a.clients.1 k x at in (z.0, (z.1.0, z.1.1 ∙ (ap (λ v. v.start) e ∙ ap (λ d. d ∷ []) m), z.1.2, z.1.3)))
