use Rattle.std.proofs.Common.{◌≡◌, sym, subst, IfSome, Option, Some, None}
use Rattle.host_queue.specs.declared.queue.Ticket.{Ticket}
use Rattle.host_queue.specs.Clients.{IsOpen}
use Rattle.queue_tests.specs.declared.turns.Five.{Five}
use Rattle.queue_tests.proofs.turns.draw_five.Goals as goal

-- a further fact of a value that may be there
further : {A : Type 0} (P Q : A → Type 0) (o : Option A) → ((a : A) → P a → Q a) → IfSome o P → IfSome o Q
further P Q None f h = h
further P Q (Some a) f h = f a h

abbrev Are : Ticket → Ticket → Ticket → Ticket → Ticket → Five → Type 0
Are zero one two three four f = (f.zero ≡ zero) × (f.one ≡ one) × (f.two ≡ two) × (f.three ≡ three) × (f.four ≡ four)

pub returns-clause-zero : goal.returns-clause-zero
returns-clause-zero g c = let t = c.in_ok-zero.zero in
    let drawn = c.submit-5.ensures.others t.number (c.submit-3.ensures.others t.number c.in_ok-zero.ensures.open) in
    further (Are c.in_ok-zero.zero c.in_ok-one.one c.in_ok-two.two c.in_ok-three.three c.in_ok-four.four) (λ (f : Five). IsOpen c.submit-5.new.client.seat f.zero.number) c.in_turns.result
    (λ f e. subst (λ (x : Ticket). IsOpen c.submit-5.new.client.seat x.number) (sym e.0) drawn) c.in_turns.ensures

pub returns-clause-one : goal.returns-clause-one
returns-clause-one g c = let t = c.in_ok-one.one in
    let drawn = c.submit-4.ensures.others t.number c.in_ok-one.ensures.open in
    further (Are c.in_ok-zero.zero c.in_ok-one.one c.in_ok-two.two c.in_ok-three.three c.in_ok-four.four) (λ (f : Five). IsOpen c.submit-4.new.client.seat f.one.number) c.in_turns.result
    (λ f e. subst (λ (x : Ticket). IsOpen c.submit-4.new.client.seat x.number) (sym e.1) drawn) c.in_turns.ensures

pub returns-clause-two : goal.returns-clause-two
returns-clause-two g c = let t = c.in_ok-two.two in
    let drawn = c.submit-5.ensures.others t.number c.in_ok-two.ensures.open in
    further (Are c.in_ok-zero.zero c.in_ok-one.one c.in_ok-two.two c.in_ok-three.three c.in_ok-four.four) (λ (f : Five). IsOpen c.submit-5.new.client.seat f.two.number) c.in_turns.result
    (λ f e. subst (λ (x : Ticket). IsOpen c.submit-5.new.client.seat x.number) (sym e.2) drawn) c.in_turns.ensures

pub returns-clause-three : goal.returns-clause-three
returns-clause-three g c = let drawn = c.in_ok-three.ensures.open in
    further (Are c.in_ok-zero.zero c.in_ok-one.one c.in_ok-two.two c.in_ok-three.three c.in_ok-four.four) (λ (f : Five). IsOpen c.submit-4.new.client.seat f.three.number) c.in_turns.result
    (λ f e. subst (λ (x : Ticket). IsOpen c.submit-4.new.client.seat x.number) (sym e.3) drawn) c.in_turns.ensures

pub returns-clause-four : goal.returns-clause-four
returns-clause-four g c = let drawn = c.in_ok-four.ensures.open in
    further (Are c.in_ok-zero.zero c.in_ok-one.one c.in_ok-two.two c.in_ok-three.three c.in_ok-four.four) (λ (f : Five). IsOpen c.submit-5.new.client.seat f.four.number) c.in_turns.result
    (λ f e. subst (λ (x : Ticket). IsOpen c.submit-5.new.client.seat x.number) (sym e.4) drawn) c.in_turns.ensures
