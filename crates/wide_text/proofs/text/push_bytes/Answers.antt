use Rattle.std.proofs.Common.{◌≡◌, ◌++◌, Bool, false, length, codes, string_bytes, sym, ap, ◌∙◌, append_assoc, if◌then◌else◌}
use Rattle.std.specs.Prelude.{◌==◌}
use Rattle.std.proofs.lemmas.Result.{on_ok_weaker}
use Rattle.wide_text.specs.Told.{lines_text}
use Rattle.wide_text.proofs.text.push_bytes.Goals as goal

pub returns : goal.returns
returns c =
    let free = c.args.free.now in
    let old = string_bytes c.args.out.now in
    let some : (length free == 0) ≡ false = sym c.is_empty.ensures ∙ c.if-is_empty.false in
    on_ok_weaker c.push_lines.result
    (λ added.
    added
    ∙ (ap (λ t. t ++ lines_text free) c.in_ok-push_str.ensures.bytes
    ∙ (append_assoc old (codes "all bytes of ") (lines_text free)
    ∙ ap (λ (b : Bool). old ++ (if b then codes "these bytes alone" else codes "all bytes of " ++ lines_text free)) (sym some))))
    c.push_lines.ensures
