-- What the driver's seat knows after each step by which it answers a ticket.
use Rattle.std.proofs.Common.{◌≡◌, ℕ, List, [], ◌∷◌, ◌++◌, length, sym, ap, ◌∙◌, Option, Some, None}
use Rattle.atomic_table.specs.Table.{Me, rest}
use Rattle.host_queue.specs.declared.view.Stage.TheVariants.{Idle, Taken}
use Rattle.host_queue.specs.declared.view.Request.{Request}
use Rattle.host_queue.specs.declared.view.Request.TheVariants.{Asked, Answered}
use Rattle.host_queue.specs.declared.view.View.{View}
use Rattle.host_queue.specs.Views.{entry}
use Rattle.host_queue.proofs.Basics.{some_same, asked_same}
use Rattle.host_queue.proofs.Clients.{same_head, taken_view}

module _ {D C R B : Type 0} (model : D → C → R → D → Type 0) (content : B → Request C R) where
  abbrev V : Type 0
  V = View D C R

  abbrev M : Type 0
  M = Me (Option B) V

  -- the next ticket's request was found, with the command c
  abbrev pub Found : M → M → Type 0
  Found m m' = (b : B) × (c : C) × (content b ≡ Asked c) × (m'.0 ≡ record m.0 { stage = Taken (c ∷ []) }) × (m'.1 ≡ (length m.0.known, Some b) ∷ m.1)

  -- the answer in hand was put, and stands in the history
  abbrev pub Answers : M → M → Type 0
  Answers m m' = (b : B) (c : C) (r : R) (more : List (ℕ × Option B)) → m.0.stage ≡ Taken (c ∷ []) → m.1 ≡ (length m.0.known, Some b) ∷ more → content b ≡ Answered r
      → (m'.0 ≡ record m.0 { stage = Idle; known = m.0.known ++ entry c r ∷ [] }) × (m'.1 ≡ more)

  -- once the request in hand has its answer: the command that was served is the one that was asked
  pub taken_served :
      (m m1 m2 m3 : M) (slot : ℕ) (found put : Option B) (request : B) (command : C) → Found m m1 → found ≡ Some request → m1.1 ≡ (slot, found) ∷ rest m1.1
      → m2 ≡ (m1.0, (slot, None) ∷ rest m1.1) → m3 ≡ (m2.0, (slot, put) ∷ rest m2.1) → content request ≡ Asked command → m3.0 ≡ record m.0 { stage = Taken (command ∷ []) }
  taken_served m m1 m2 m3 slot found put request command hit is carried lent back asked =
      let same = asked_same {R = R} hit.1 command (sym hit.2 ∙ (ap content (sym (some_same _ _ (sym is ∙ same_head _ _ _ _ _ _ _ carried hit.4))) ∙ asked)) in
      taken_view model m.0 m1.0 m2.0 m3.0 hit.1 command hit.3 (ap (λ x. x.0) lent) (ap (λ x. x.0) back) same

  -- the answer is put
  pub answer_put :
      (m m2 m3 m4 : M) (slot : ℕ) (done : B) (command : C) (reply : R) → slot ≡ length m.0.known → m3.0 ≡ record m.0 { stage = Taken (command ∷ []) }
      → m3 ≡ (m2.0, (slot, Some done) ∷ rest m2.1) → content done ≡ Answered reply → Answers m3 m4
      → (m4.0 ≡ record m3.0 { stage = Idle; known = m3.0.known ++ entry command reply ∷ [] }) × (m4.1 ≡ rest m2.1)
  answer_put m m2 m3 m4 slot done command reply counted taken back is put =
      put done command reply (rest m2.1) (ap (λ z. z.stage) taken) (ap (λ x. x.1) back ∙ ap (λ (j : ℕ). (j, Some done) ∷ rest m2.1) (counted ∙ ap length (sym (ap (λ z. z.known) taken)))) is
