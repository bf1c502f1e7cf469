use Rattle.std.proofs.Common.{rules, arith, sym, ap, ◌∙◌, subst, ◌≡◌, ℕ, ◌+◌, ◌<◌, [], ◌∷◌, ◌++◌, length, length-append, Some}
use Rattle.std.specs.Box.{box_value, with_value}
use Rattle.atomic_table.specs.Table.{rest}
use Rattle.host_queue.proofs.Keeps.{takes_at, answers_at}
use Rattle.host_queue.specs.declared.view.Stage.TheVariants.{Idle, Taken}
use Rattle.host_queue.specs.Views.{entry}
use Rattle.host_queue.specs.History.{Begins}
use Rattle.host_queue.proofs.Basics.{begins_more}
use Rattle.host_queue.proofs.Comings.{tells}
use Rattle.host_queue.proofs.Clients.{answered_view, runs_after, driver_after}
use Rattle.host_queue.proofs.Driven.{taken_served, answer_put}
use Rattle.host_queue.proofs.queue.Driver.drive_by.Given.{Over}
use Rattle.host_queue.proofs.queue.Driver.drive_by.Goals as goal
use Rattle.host_queue.proofs.queue.Driver.drive_by.Goals.{After-exchange-2, After-compare_exchange-self, After-split_seat-seat}

-- once the request lies in its slot again, the seat has taken the command that was served
taken : (g : Over) (c : After-exchange-2 g) → c.exchange-2.new.seat.me.0 ≡ record c.args.self.now.seat.me.0 { stage = Taken (c.serve.ensures.0 ∷ []) }
taken g c = taken_served g.D.Machine.step box_value c.args.self.now.seat.me c.compare_exchange.new.seat.me c.exchange.new.seat.me c.exchange-2.new.seat.me _ _ _ c.unwrap-request.result c.serve.ensures.0
    (c.compare_exchange.ensures.2.0 (search rules)) c.unwrap-request.ensures c.exchange.ensures.2 c.exchange.ensures.3 c.exchange-2.ensures.3 (sym c.deref_mut.ensures.value ∙ c.serve.ensures.2)

-- the answer is put
put : (g : Over) (c : After-compare_exchange-self g) → c.exchange-2.new.seat.me.0 ≡ record c.args.self.now.seat.me.0 { stage = Taken (c.serve.ensures.0 ∷ []) }
    → c.compare_exchange-self.new.seat.me.0 ≡ record c.exchange-2.new.seat.me.0 { stage = Idle; known = c.exchange-2.new.seat.me.0.known ++ entry c.serve.ensures.0 c.serve.ensures.1 ∷ [] }
put g c e = (answer_put g.D.Machine.step box_value c.args.self.now.seat.me c.exchange.new.seat.me c.exchange-2.new.seat.me c.compare_exchange-self.new.seat.me _ (with_value c.unwrap-request.result c.serve.new.request)
    c.serve.ensures.0 c.serve.ensures.1 c.args.self.now.counted e c.exchange-2.ensures.3 c.serve.ensures.3 c.compare_exchange-self.ensures.2).0

-- the seat after the call
after : (g : Over) (c : After-split_seat-seat g) → c.exchange-2.new.seat.me.0 ≡ record c.args.self.now.seat.me.0 { stage = Taken (c.serve.ensures.0 ∷ []) }
    → c.compare_exchange-self.new.seat.me.0 ≡ record c.exchange-2.new.seat.me.0 { stage = Idle; known = c.exchange-2.new.seat.me.0.known ++ entry c.serve.ensures.0 c.serve.ensures.1 ∷ [] }
    → c.split_seat-seat.new.seat.me.0 ≡ record c.args.self.now.seat.me.0 { stage = Idle; known = c.args.self.now.seat.me.0.known ++ entry c.serve.ensures.0 c.serve.ensures.1 ∷ [] }
after g c e p = answered_view g.D.Machine.step c.args.self.now.seat.me.0 c.exchange-2.new.seat.me.0 c.compare_exchange-self.new.seat.me.0 c.split_seat-seat.new.seat.me.0 c.serve.ensures.0 c.serve.ensures.1 e p (ap (λ m. m.0) c.split_seat-seat.ensures.2)

pub compare_exchange-requires : goal.compare_exchange-requires
compare_exchange-requires g c = let k = c.args.self.now.driver in let d = k.driving in let words = c.args.queue.now.sized.1 in let slots = c.args.queue.now.sized.0 in
    (search rules, (first_of (omega arith, search rules)), takes_at g.D.Machine.step box_value _ _ _ _ c.args.self.now.count c.args.self.now.counted k.idle (omega arith) (first_of (omega arith, search rules)))

pub exchange-requires : goal.exchange-requires
exchange-requires g c = let hit = c.compare_exchange.ensures.2.0 (search rules) in let is = c.args.self.now.counted in let slots = c.args.queue.now.sized.0 in
    let has = hit.4 ∙ ap (λ (k : ℕ). (k, Some hit.0) ∷ c.args.self.now.seat.me.1) (sym is) in (search rules, (Some hit.0, has ∙ ap (λ cs. (c.args.self.now.count, Some hit.0) ∷ rest cs) (sym has)))

pub compare_exchange-self-requires : goal.compare_exchange-self-requires
compare_exchange-self-requires g c =
    let step = g.D.Machine.step in let was = c.args.self.now.seat.me.0 in let did = c.serve.ensures in let e = taken g ((goal.at.compare_exchange-self-requires g c).After-exchange-2) in
    let k = c.args.self.now.driver in let d = k.driving in let words = c.args.queue.now.sized.1 in let drives : c.exchange-2.new.seat.me.0.driving ≡ was.driving = ap (λ z. z.driving) e in (
      search rules,
      (first_of (omega arith, search rules)),
      answers_at step box_value _ _ _ _ c.args.self.now.count _ did.0 did.1 _ (c.args.self.now.counted ∙ ap length (sym (ap (λ z. z.known) e))) (omega arith)
          (runs_after step was c.exchange-2.new.seat.me.0 c.args.self.now.machine c.serve.new.machine did.0 did.1 k did.4 (ap (λ z. z.start) e) (ap (λ z. z.known) e))
          (ap (λ z. z.stage) e) did.3 (ap (λ m. m.1) c.exchange-2.ensures.3),
    )

pub split_seat-seat-requires : goal.split_seat-seat-requires
split_seat-seat-requires g c =
    let h = goal.at.split_seat-seat-requires g c in let e = taken g h.After-exchange-2 in let p = put g h.After-compare_exchange-self e in
    let k = c.args.self.now.driver in let words = c.args.queue.now.sized.1 in (
      search rules,
      (first_of (omega arith, search rules)),
      tells g.D.Machine.step box_value _ _ _ (ap (λ z. z.stage) p)
          (λ none. ap (λ z. z.count) p ∙ (ap (λ z. z.count) e ∙ k.left (sym (ap (λ z. z.share) p ∙ ap (λ z. z.share) e) ∙ none))),
    )

pub invariant_of-self-2 : goal.invariant_of-self-2
invariant_of-self-2 g c =
    let h = goal.at.invariant_of-self-2 g c in let e = taken g h.After-exchange-2 in let f = after g h.After-split_seat-seat e (put g h.After-compare_exchange-self e) in
    let was = c.args.self.now.seat.me.0 in let did = c.serve.ensures in record {
      driver = driver_after g.D.Machine.step was c.split_seat-seat.new.seat.me.0 c.args.self.now.machine c.serve.new.machine did.0 did.1 c.args.self.now.driver did.4 f;
      counted = ap (λ (j : ℕ). j + 1) c.args.self.now.counted ∙ (sym (length-append was.known (entry did.0 did.1 ∷ [])) ∙ sym (ap length (ap (λ z. z.known) f)));
      short = (let low : c.args.self.now.count < 4096 = search rules in omega arith);
    }

pub returns : goal.returns
returns g c =
    let h = goal.at.returns g c in let e = taken g h.After-exchange-2 in let f = after g h.After-split_seat-seat e (put g h.After-compare_exchange-self e) in let did = c.serve.ensures in
    let was = c.args.self.now.seat.me.0 in let one = entry did.0 did.1 ∷ [] in
    let long : length c.split_seat-seat.new.seat.me.0.known ≡ length was.known + 1 = ap (λ z. length z.known) f ∙ length-append was.known one in record {
      one = search rules;
      some = (
        search rules,
        ap (λ (j : ℕ). j + 1) c.args.self.now.counted,
        ap (λ m. m.0.known) c.split_seat-seat.ensures.4 ∙ sym (ap (λ m. m.0.known) c.split_seat-seat.ensures.2),
        (entry did.0 did.1, ap (λ z. z.known) f, did.4),
      );
      grows = (subst (λ l. Begins was.known l) (sym (ap (λ z. z.known) f)) (begins_more was.known one), omega arith);
      none = tt;
      waits = tt;
      same = (ap (λ z. z.start) f, ap (λ z. z.admitted) f, ap (λ z. z.share) f, ap (λ z. z.count) f);
    }
