use Rattle.std.proofs.Common.{length, sym, ap, ◌∙◌, arith}
use Rattle.lower_code.specs.Helpers.{body_of}
use Rattle.lower_code.proofs.Rows.{begun}
use Rattle.lower_code.proofs.Short.{body_short}
use Rattle.lower_code.proofs.Tables.{body_length_of}
use Rattle.lower.proofs.known_functions.length_of.Goals as goal

pub returns : goal.returns
returns c level depth site =
    let fs = c.args.helpers.functions.now in
    let f = c.args.function.now in
    let p = c.default.result in
    c.len.ensures ∙ ap length (begun (body_of fs f p.level.0 p.depth p.site) c.new-code.result c.emit_body.new.code c.new-code.ensures c.in_ok-emit_body.ensures.code) ∙ sym (body_length_of fs f p.level.0 p.depth p.site) ∙ body_length_of fs f level depth site

pub len-requires : goal.len-requires
len-requires c =
    let fs = c.args.helpers.functions.now in
    let f = c.args.function.now in
    let p = c.default.result in
    let whole = ap length (begun (body_of fs f p.level.0 p.depth p.site) c.new-code.result c.emit_body.new.code c.new-code.ensures c.in_ok-emit_body.ensures.code) in
    let most = (body_short fs c.args.helpers.widths f p.level.0 p.depth p.site).most in
    let wide = c.requires.wide in
    omega (arith, whole, most, wide)
