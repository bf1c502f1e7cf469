use Rattle.std.proofs.Common.{◌≡◌, ◌++◌, [], Bool, false, length, codes, string_bytes, sym, ap, ◌∙◌, append_assoc, if◌then◌else◌}
use Rattle.std.specs.Prelude.{◌==◌}
use Rattle.wide_text.specs.Told.{lines_text}
use Rattle.wide_text.proofs.text.push_reads.Goals as goal

pub returns : goal.returns
returns c =
    let reads = c.args.reads.now in
    let old = string_bytes c.args.out.now in
    let told = codes "; the data of " in
    let lines = lines_text reads in
    let may = codes " may differ" in
    let some : (length reads == 0) ≡ false = sym c.is_empty.ensures ∙ c.if-is_empty.false in
    c.in_ok-push_str-2.ensures.bytes
    ∙ (ap (λ t. t ++ may) (c.in_ok-push_lines.ensures ∙ ap (λ t. t ++ lines) c.in_ok-push_str.ensures.bytes)
    ∙ (append_assoc (old ++ told) lines may ∙ (append_assoc old told (lines ++ may) ∙ ap (λ (b : Bool). old ++ (if b then [] else told ++ (lines ++ may))) (sym some))))
