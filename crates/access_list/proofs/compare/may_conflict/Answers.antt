use Rattle.std.proofs.Common.{sym, ◌∙◌, inl, inr, arith}
use Rattle.access_list.proofs.Hits.{ordered, other_region, apart, no_clash, kinds_agree, none_if}
use Rattle.access_list.proofs.compare.may_conflict.Goals as goal

pub returns-then-not-unordered : goal.returns-then-not-unordered
returns-then-not-unordered c h byte = ordered c.args.rule c.args.x.now c.args.y.now byte (sym c.unordered.ensures ∙ c.if-not-unordered.true)

pub returns-then-not-same_region : goal.returns-then-not-same_region
returns-then-not-same_region c h byte = other_region c.args.rule c.args.x.now c.args.y.now byte (sym c.same_region.ensures ∙ c.if-not-same_region.true)

pub returns-then-y-bytes : goal.returns-then-y-bytes
returns-then-y-bytes c h byte = apart c.args.rule c.args.x.now c.args.y.now byte (inl (omega (arith, c.if-y-bytes.true, c.bytes.ensures.value)))

pub returns-then-x-bytes : goal.returns-then-x-bytes
returns-then-x-bytes c h byte = apart c.args.rule c.args.x.now c.args.y.now byte (inr (omega (arith, c.if-x-bytes.true, c.bytes-2.ensures.value)))

pub returns : goal.returns
returns c h byte =
    let x = c.args.x.now in
    let y = c.args.y.now in
    no_clash c.args.rule x y byte (kinds_agree c.args.rule x y byte (sym c.clash.ensures ∙ none_if c.clash.result (sym c.is_some.ensures ∙ h)))
