use Rattle.std.proofs.Common.{sym, ◌∙◌, ap}
use Rattle.clsyntax_lex.specs.Lexing.{place, with_text}
use Rattle.clsyntax_lex.proofs.NameLemmas.{texts, texts-insert_key, place-texts, place-with_text}
use Rattle.clsyntax_lex.proofs.names.NameTable.number_of.Goals as goal

pub returns-clause-place : goal.returns-clause-place
returns-clause-place c =
    c.in_ok-number.ensures.index ∙ place-texts c.args.text.now c.self.inside.texts.keys
    ∙ sym (place-with_text c.args.text.now (texts c.self.inside.texts.keys))
    ∙ ap (λ names. place names c.args.text.now) (sym (ap texts c.in_ok-number.ensures.keys ∙ texts-insert_key c.args.text c.self.inside.texts.keys))

pub returns-clause-ok : goal.returns-clause-ok
returns-clause-ok c =
    ap texts c.in_ok-number.ensures.keys ∙ texts-insert_key c.args.text c.self.inside.texts.keys
    ∙ ap (λ names. with_text names c.args.text.now) c.self.view_is
