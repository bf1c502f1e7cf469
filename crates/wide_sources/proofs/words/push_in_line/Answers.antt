use Rattle.std.proofs.Common.{◌≢◌, ℕ, [], ◌∷◌, ◌++◌, ap, sym, ◌∙◌, append_assoc}
use Rattle.std.proofs.lemmas.List.{append-nil}
use Rattle.std.proofs.lemmas.List.Elements.{All-append, All-cons, All-nil}
use Rattle.wide_sources.proofs.words.push_in_line.Goals as goal

-- a byte that is no line feed
abbrev other : ℕ → Type 0
other b = b ≢ 10

pub loop-byte-init : goal.loop-byte-init
loop-byte-init c = ([], All-nil other, sym (append-nil c.args.out.now.items))

pub loop-byte-preserved : goal.loop-byte-preserved
loop-byte-preserved c =
    let so_far = c.loop-byte.invariant in
    let byte = c.in_line.result in (
      so_far.0 ++ byte ∷ [],
      All-append other so_far.0 (byte ∷ []) so_far.1 (All-cons other byte [] c.in_line.ensures (All-nil other)),
      c.in_ok-push.ensures.items ∙ (ap (λ t. t ++ byte ∷ []) so_far.2 ∙ append_assoc c.args.out.now.items so_far.0 (byte ∷ [])),
    )
