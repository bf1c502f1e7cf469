use Rattle.std.proofs.Common.{◌≡◌, ℕ, List, [], ◌++◌, rules, subst}
use Rattle.std.proofs.lemmas.List.{append-nil}
use Rattle.byte_io.specs.Sink.{Puts}
use Rattle.byte_io.proofs.Puts.{puts_then}
use Rattle.cli.specs.Replaying.{answer_line}
use Rattle.cli.proofs.replaying.tell.Goals as goal

pub returns-clause-line : goal.returns-clause-line
returns-clause-line g c =
    let both : Puts (g.W.Write.sink c.args.writer.now) c.flush.result (g.W.Write.sink c.flush.new.self) (c.as_bytes.result.now ++ []) = puts_then _ [] c.flush.result c.in_ok-write.ensures c.flush.ensures.bytes in
    let text : c.as_bytes.result.now ≡ answer_line c.args.yes = search rules in
    subst (λ (t : List ℕ). Puts (g.W.Write.sink c.args.writer.now) c.flush.result (g.W.Write.sink c.flush.new.self) t) text (rw append-nil at both)
