use Rattle.std.proofs.Common.{◌≡◌, true, refl, sym, ◌∙◌}
use Rattle.std.proofs.lemmas.Result.{IfOk-weaker}
use Rattle.explain_steps.specs.Bytes.{IsLeft}
use Rattle.explain_steps.specs.Chosen.{gives}
use Rattle.explain_steps.proofs.ByteSets.{added_held, placed_held, ungiven_held}
use Rattle.explain_steps.proofs.bytes.ByteSet.add.Goals as goal

pub returns : goal.returns
returns c =
    let touch = c.args.touch.now in
    let mid = c.place.new.self in
    let given : gives touch.kind ≡ true = sym c.gives.ensures ∙ c.if-not-gives.false in
    IfOk-weaker c.add_bytes.result _ _
    (λ _ keys. λ followed mark later theirs h.
    added_held followed mark later mid (record { places = mid.places; keys = c.add_bytes.new.keys }) touch c.in_ok-place.place theirs given refl c.in_ok-place.ensures.number keys
    (placed_held (IsLeft followed touch later) c.args.self.now mid c.in_ok-place.ensures.same c.in_ok-place.ensures.stay h)) c.add_bytes.ensures

pub returns-then-not-gives : goal.returns-then-not-gives
returns-then-not-gives c =
    λ followed mark later theirs h. ungiven_held followed mark later c.args.self.now c.args.touch.now (sym c.gives.ensures ∙ c.if-not-gives.true) h
