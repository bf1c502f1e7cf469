use Rattle.std.proofs.Common.{◌∙◌}
use Rattle.clsim.proofs.WideLemmas.{untold}
use Rattle.clsim.proofs.explain_files.explain_widely.Goals as goal

pub returns-clause-untold : goal.returns-clause-untold
returns-clause-untold g c =
    untold c.args.options c.args.name.now c.in_ok-name.name.items (g.R.Read.rest c.args.reader.now) (g.R.Written.lines c.bytes_of.new.reader) _ _ _ _ c.in_ok-script.script.items c.as_slice.result.now
    c.written-written.result c.in_ok-asides.asides.items c.as_slice-2.result.now c.explain_with.result c.explain_with.ensures.untold (c.in_ok-name.ensures.items_if_clones_equal (λ x y e. e) ∙ c.as_bytes.ensures.value)
    c.in_ok-script.ensures.read c.written-written.ensures c.as_slice.ensures.value c.in_ok-asides.ensures.told c.as_slice-2.ensures.value
