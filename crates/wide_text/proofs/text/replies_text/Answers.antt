use Rattle.std.proofs.Common.{◌≡◌, ◌+◌, [], ◌∷◌, ◌++◌, List, take, sym, ap, ◌∙◌, subst}
use Rattle.std.proofs.lemmas.List.{take_all, take_more}
use Rattle.host_commands.specs.declared.command.Reply.{Reply}
use Rattle.simfile.specs.Lines.{line}
use Rattle.wide_text.specs.Told.{AreReplies}
use Rattle.wide_text.proofs.Beside.{reply_more}
use Rattle.wide_text.proofs.text.replies_text.Goals as goal

pub loop-number-preserved : goal.loop-number-preserved
loop-number-preserved c =
    let rs = c.args.replies.now in
    let i = c.loop-number.number in
    let r = c.index-replies-number.result in
    let old = c.loop-number.out.items in
    let more : take (i + 1) rs ≡ take i rs ++ r ∷ [] = take_more rs i r c.loop-number-test.true ∙ ap (λ x. take i rs ++ x ∷ []) (sym c.index-replies-number.is) in
    let added = c.in_ok-push_reply.ensures ∙ ap (λ t. old ++ (line r ++ t)) c.as_slice.ensures.value in
    subst (λ (l : List Reply). AreReplies l c.push_reply.new.out.items) (sym more)
    (subst (AreReplies (take i rs ++ r ∷ [])) (sym added) (reply_more (take i rs) r old c.in_ok-text.text.items c.loop-number.invariant c.in_ok-text.ensures))

pub returns : goal.returns
returns c = subst (λ (l : List Reply). AreReplies l c.loop-number.out.items) (take_all c.loop-number.number c.args.replies.now c.loop-number-test.false) c.loop-number.invariant
