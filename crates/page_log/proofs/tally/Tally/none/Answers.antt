use Rattle.std.proofs.Common.{refl, sym}
use Rattle.std.proofs.lemmas.Bool.{false≢true}
use Rattle.page_log.proofs.Joined.{no_hit}
use Rattle.page_log.proofs.tally.Tally.none.Goals as goal

pub returns : goal.returns
returns c rule x = record { found = sym (no_hit rule x); there = λ e. absurd (false≢true e); new = λ e t. t; compared = refl }
