use Rattle.std.proofs.Common.{rules, arith, sym, refl, ap, ◌∙◌, subst, ◌≡◌, ℕ, ◌+◌, [], ◌∷◌, ◌++◌, length, length-append}
use mathlib.Core.Option.{some-injective}
use lib.ListN.{get_elem?}
use Rattle.atomic_table.proofs.Lists.{at_last}
use Rattle.host_queue.specs.declared.view.Request.TheVariants.{Answered as AnsweredBy}
use Rattle.host_queue.specs.History.{Begins}
use Rattle.host_queue.specs.Views.{held, entry}
use Rattle.host_queue.proofs.Basics.{begins_long}
use Rattle.host_queue.proofs.Clients.{stay_open, some_of, some_gives}
use Rattle.host_queue.proofs.queue.Driver.answer_by.Given.{Over}
use Rattle.host_queue.proofs.queue.Driver.answer_by.Goals as goal
use Rattle.host_queue.proofs.queue.Driver.answer_by.Goals.{In-Ok}

-- the client has one ticket more
one_more : (g : Over) (c : In-Ok g) → length c.submit-submitted.new.self.seat.me.0.tickets ≡ length c.args.client.now.seat.me.0.tickets + 1
one_more g c = ap length c.in-Ok.ensures.ticket.2 ∙ length-append c.args.client.now.seat.me.0.tickets (held c.in-Ok.ticket.number c.in-Ok.ensures.ticket.0 ∷ [])

-- its ticket is the next that the driver answers
is_next : (g : Over) (c : In-Ok g) → c.in-Ok.ticket.number ≡ length c.hear.new.self.seat.me.0.known
is_next g c = let sent = c.in-Ok.ensures in let only = c.requires.only in let f = sent.next in let below = sent.ok.0 in let most = c.hear.ensures.drawn.0 (omega arith) in let least = sent.ok.2 in let many = one_more g c in
    let answered = only.answered in let long = begins_long c.args.self.now.seat.me.0.known c.args.client.now.seat.me.0.known only.known in
    let same : length c.hear.new.self.seat.me.0.known ≡ length c.args.self.now.seat.me.0.known = ap length c.hear.ensures.same.1 in omega arith

pub unwrap-answered-requires : goal.unwrap-answered-requires
unwrap-answered-requires g c = let sent = c.in-Ok.ensures in let old = c.args.client.now.seat.me.0.tickets in let one = held c.in-Ok.ticket.number sent.ticket.0 in
    let is = is_next g (goal.at.unwrap-answered-requires g c).In-Ok in let below = sent.ok.0 in
    some_of c.drive_by.result c.drive_by.ensures.waits
    (λ waits. waits (omega arith) (length old) one (ap (λ l. get_elem? l (length old)) (c.hear.ensures.heard ∙ sent.ticket.2) ∙ at_last old one (length old) refl) is)

pub poll_known-requires-clause-own : goal.poll_known-requires-clause-own
poll_known-requires-clause-own g c = let e = c.hear.ensures.client in stay_open c.submit-submitted.new.self.seat c.hear.new.client.seat e.0 e.1 c.in-Ok.ticket.number c.in-Ok.ensures.open

pub returns : goal.returns
returns g c = let h = (goal.at.returns g c).In-Ok in let many = one_more g h in let is = is_next g h in let only = c.requires.only in let d = c.drive_by.ensures.same in let same = c.hear.ensures.same in
    let told = some_gives c.drive_by.result c.unwrap-answered.result _ c.unwrap-answered.ensures c.drive_by.ensures.some in let x = told.3.0 in let answered = only.answered in let e = c.hear.ensures.client in
    let sent = c.in-Ok.ensures in let n : ℕ = c.in-Ok.ticket.number in let old = c.args.client.now.seat.me.0.tickets in let c0 = sent.ticket.0 in let known = c.hear.new.self.seat.me.0.known in
    let long : length known ≡ length c.args.self.now.seat.me.0.known = ap length same.1 in
    let more : length c.drive_by.new.self.seat.me.0.known ≡ length known + 1 = ap length told.3.1 ∙ length-append known (x ∷ []) in
    let kept : length c.poll_known.new.self.seat.me.0.tickets ≡ length c.submit-submitted.new.self.seat.me.0.tickets = ap length (c.poll_known.ensures.same.0 ∙ e.0) in
    let at_x = subst (λ l. Begins l c.poll_known.new.self.seat.me.0.known) told.2 c.poll_known.ensures.known.1 n x (ap (λ l. get_elem? l n) told.3.1 ∙ at_last known x n (sym is)) in
    let got = c.poll_known.ensures.ok in let same_x = some-injective got.0 x (sym got.1 ∙ at_x) in
    let asked = c.poll_known.ensures.known.0.own (length old) (held n c0) (ap (λ l. get_elem? l (length old)) (e.0 ∙ sent.ticket.2) ∙ at_last old (held n c0) (length old) refl) x at_x in record {
      one = search rules;
      only = record {
        admitted = d.1 ∙ (same.3 ∙ only.admitted);
        share = d.2 ∙ (same.4 ∙ only.share);
        answered = omega arith;
        known = subst (λ l. Begins l c.poll_known.new.self.seat.me.0.known) told.2 c.poll_known.ensures.known.1;
      };
      ok = (
        c0,
        x.reply,
        sent.ticket.1,
        got.2 ∙ ap (λ z. AnsweredBy z.reply) same_x,
        subst (λ z. g.D.Machine.step c.args.self.now.machine z x.reply c.drive_by.new.self.machine) asked (subst (λ m. g.D.Machine.step m x.command x.reply c.drive_by.new.self.machine) same.0 told.3.2),
        told.3.1 ∙ (ap (λ l. l ++ x ∷ []) same.1 ∙ ap (λ z. c.args.self.now.seat.me.0.known ++ entry z x.reply ∷ []) asked),
      );
      room = first_of (omega arith, search rules);
      err = tt;
      others = λ m o. c.poll_known.ensures.others m (λ same. let low = sent.rises o.0 o.1 o.2 in let is = o.3 in let it : m ≡ n = same in omega arith)
          (stay_open c.submit-submitted.new.self.seat c.hear.new.client.seat e.0 e.1 m (c.submit-submitted.ensures.others m o));
      start = search rules;
    }
