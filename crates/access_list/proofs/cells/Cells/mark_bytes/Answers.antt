use Rattle.std.specs.Prelude.{slice_index_or}
use Rattle.access_list.specs.Recent.{no_word}
use Rattle.access_list.proofs.Words.{parts_kept}
use Rattle.access_list.proofs.cells.Cells.mark_bytes.Goals as goal

pub returns-clause-kept : goal.returns-clause-kept
returns-clause-kept c =
    record {
      starts = c.split.ensures.kept.starts;
      long = c.split.ensures.kept.long;
      kept = λ p k y byte b d.
          parts_kept c.split.new.self.apart.items c.add.new.apart.items c.add.ensures.kept (slice_index_or c.split.new.self.words.items p no_word) k y byte
          (c.split.ensures.kept.kept p k y byte b d);
    }
