use Rattle.std.proofs.Common.{◌≡◌, ◌∙◌, ◌<◌, ◌^◌, ℕ, sym, ap, subst, arith}
use Rattle.std.specs.Prelude.{unwrap_or, MatchOption}
use Rattle.clmodel.proofs.Steps.{some_inj}
use Rattle.group_traces.specs.Cells.{at_key, key_of, IsOwn, IsNear}
use Rattle.group_traces.specs.Traces.{untouched}
use Rattle.access_list.specs.Keys.{object_number}
use Rattle.group_log.specs.SummarizesByte.{region_at}
use Rattle.group_log.proofs.Taking.{none_stood, all_told, all_clear, all_absorbed}
use Rattle.group_log.proofs.side.Side.look.Goals as goal

pub returns-then-is_at-clause-clear : goal.returns-then-is_at-clause-clear
returns-then-is_at-clause-clear c h byte k d lt =
    let side = c.args.self.now in
    let x = c.args.x.now in
    let number = c.object_number-number.result in
    let small : number < 2 ^ 32 = omega arith in
    let e : x.region ≡ region_at (unwrap_or side.home x.region) number = c.is_at.ensures c.if-is_at.true ∙ ap (region_at (unwrap_or side.home x.region)) (sym c.object_number-number.ensures) in
    none_stood _ (side.stands c.if-self.true)
    (λ s. all_clear side.uniform side.interval side.kept.items side.traces side.home x number s small e c.requires.interval (c.look.ensures.clear h) byte k d lt)

pub returns-then-is_at-clause-told : goal.returns-then-is_at-clause-told
returns-then-is_at-clause-told c h byte z none =
    let side = c.args.self.now in
    let x = c.args.x.now in
    let number = c.object_number-number.result in
    let small : number < 2 ^ 32 = omega arith in
    let e : x.region ≡ region_at (unwrap_or side.home x.region) number = c.is_at.ensures c.if-is_at.true ∙ ap (region_at (unwrap_or side.home x.region)) (sym c.object_number-number.ensures) in
    none_stood _ (side.stands c.if-self.true)
    (λ s. all_told side.uniform side.interval side.kept.items side.traces side.home x number s small e c.requires.interval (c.look.ensures.told h) byte z none)

pub returns-then-is_at-clause-taken : goal.returns-then-is_at-clause-taken
returns-then-is_at-clause-taken c h log takes =
    let side = c.args.self.now in
    let number = c.object_number-number.result in
    let small : number < 2 ^ 32 = omega arith in
    all_absorbed side.traces log c.args.x.now number (takes c.if-self.true) small c.object_number-number.ensures (c.look.ensures.taken h)

pub returns-then-is_at-clause-known : goal.returns-then-is_at-clause-known
returns-then-is_at-clause-known c number is =
    let side = c.args.self.now in
    let x = c.args.x.now in
    let own = c.object_number-number.result in
    let small : own < 2 ^ 32 = omega arith in
    let e : x.region ≡ region_at (unwrap_or side.home x.region) own = c.is_at.ensures c.if-is_at.true ∙ ap (region_at (unwrap_or side.home x.region)) (sym c.object_number-number.ensures) in
    subst (λ n.
    (n ≡ object_number x.region) × (n < 2 ^ 32) × IsNear x × (x.region ≡ region_at (unwrap_or side.home x.region) n)
    × MatchOption c.look.result.place ((b : ℕ) → at_key side.traces (key_of n x.first) b ≡ untouched) (IsOwn side.traces (key_of n x.first))) (some_inj own number is)
    (c.object_number-number.ensures, small, c.is_near.ensures c.if-is_near.true, e, c.look.ensures.place)
