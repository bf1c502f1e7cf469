use Rattle.std.proofs.Common.{rules, arith, sym, ap, ◌∙◌, ◌≡◌, ℕ, ◌+◌, ◌-◌, length, ⊎_elim, [], ◌∷◌, length-append}
use lib.ListN.{get_elem?}
use Rattle.host_queue.proofs.Basics.{at_end}
use Rattle.host_queue.proofs.queue.Driver.admit_all.Goals as goal

pub loop-i-preserved : goal.loop-i-preserved
loop-i-preserved g c = let a = c.admit.ensures in let l = c.loop-i.invariant in let p = c.in_ok-push.ensures in let fresh = c.requires.fresh in let old = l.credit in let many = l.admitted in
    let cr : c.admit.new.self.seat.me.0.credit ≡ c.loop-i.self.seat.me.0.credit - 1 = ap (λ z. z.credit) a.driver.1 in let ad : c.admit.new.self.seat.me.0.admitted ≡ c.loop-i.self.seat.me.0.admitted + 1 = ap (λ z. z.admitted) a.driver.1 in record {
      one = a.driver.0 ∙ l.one;
      machine = a.driver.2 ∙ l.machine;
      start = ap (λ z. z.start) a.driver.1 ∙ l.start;
      known = ap (λ z. z.known) a.driver.1 ∙ l.known;
      share = ap (λ z. z.share) a.driver.1 ∙ l.share;
      credit = (first_of (omega arith, search rules));
      admitted = omega arith;
      long = p.len ∙ ap (λ (z : ℕ). z + 1) l.long;
      size = ap length p.items ∙ (length-append c.loop-i.list.items (c.admit.result ∷ []) ∙ ap (λ (z : ℕ). z + 1) l.size);
      guests = λ k x at. ⊎_elim (λ h. l.guests k x h)
          (λ h. let x = sym h.1 in (
            ap (λ z. z.seat.table_id) x ∙ (a.client.0 ∙ (l.one ∙ c.requires.one)),
            (
              ap (λ z. z.seat.me.0.name) x ∙ (ap (λ z. z.name) a.client.1 ∙ (l.admitted ∙ (sym l.size ∙ sym h.0))),
              ap (λ z. z.seat.me.0.start) x ∙ (ap (λ z. z.start) a.client.1 ∙ l.start),
              ap (λ z. z.seat.me.0.tickets) x ∙ ap (λ z. z.tickets) a.client.1,
              ap (λ z. z.seat.me.0.known) x ∙ ap (λ z. z.known) a.client.1,
            ),
          ))
          (at_end c.loop-i.list.items c.admit.result x k (ap (λ z. get_elem? z k) (sym p.items) ∙ at));
    }
