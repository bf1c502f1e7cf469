use Rattle.std.proofs.Common.{◌≡◌, ◌≢◌, ◌++◌, ℕ, rules, string_bytes}
use Rattle.std.proofs.lemmas.List.Elements.{All-append, All-same}
use lib.Utf8.{encode}
use Rattle.explain_text.proofs.OneLine.{char_in_line}
use Rattle.explain_text.proofs.lines.one_line.Goals as goal

pub loop-letter-preserved : goal.loop-letter-preserved
loop-letter-preserved c =
    let added : string_bytes c.push.new.self ≡ string_bytes c.loop-letter.line ++ encode c.in_line.result = search rules in
    All-same (λ (b : ℕ). b ≢ 10) _ _ added (All-append (λ (b : ℕ). b ≢ 10) _ _ c.loop-letter.invariant (char_in_line c.in_line.result c.in_line.ensures))
