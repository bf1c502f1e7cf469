use Rattle.std.proofs.Common.{◌∙◌, ◌+◌, ◌*◌, ◌/◌, ◌<◌, false, sym, subst}
use Rattle.clmodel.specs.Cells.{byte_count}
use Rattle.shadow.specs.Seen.{mark_of, cell_in, IsMarked}
use Rattle.shadow.proofs.Marking.{marked_over, no_news}
use Rattle.shadow.proofs.pages.Pages.add.Goals as goal

pub returns-then-is_whole-clause-marked : goal.returns-then-is_whole-clause-marked
returns-then-is_whole-clause-marked c =
    let x = c.args.x.now in
    let before = cell_in c.args.self.now.apart.items c.args.self.now.pages.items in
    let old = cell_in c.make_both.new.self.apart.items c.make_both.new.self.pages.items in
    let new = cell_in c.make_both.new.self.apart.items c.mark_words.new.pages.items in
    marked_over before old new (mark_of x) x.first (byte_count x.width) c.mark_words.result c.make_both.ensures.same
    (subst (λ f. IsMarked old new (mark_of x) f (byte_count x.width) c.mark_words.result) (c.is_whole.ensures.aligned c.if-is_whole.true).0
    (subst (λ n. IsMarked old new (mark_of x) (4 * (x.first / 4)) n c.mark_words.result) c.bytes-count.ensures.value (c.mark_words.ensures c.make_both.new.self.apart.items)))

pub returns-then-not-has_news-clause-marked : goal.returns-then-not-has_news-clause-marked
returns-then-not-has_news-clause-marked c =
    let x = c.args.x.now in
    let before = cell_in c.args.self.now.apart.items c.args.self.now.pages.items in
    let old = cell_in c.make_both.new.self.apart.items c.make_both.new.self.pages.items in
    marked_over before old old (mark_of x) x.first (byte_count x.width) false c.make_both.ensures.same
    (no_news old (mark_of x) x.first (byte_count x.width)
    (λ byte low high. c.has_news.ensures c.if-not-has_news.true byte low (subst (λ n. byte < x.first + n) (sym c.bytes-count.ensures.value) high)))

pub returns-clause-marked : goal.returns-clause-marked
returns-clause-marked c =
    let x = c.args.x.now in
    let apart = c.split_words.new.apart.items in
    let after = c.mark_bytes.new.apart.items in
    let pages = c.split_words.new.pages.items in
    let before = cell_in c.args.self.now.apart.items c.args.self.now.pages.items in
    marked_over before (cell_in apart pages) (cell_in after pages) (mark_of x) x.first (byte_count x.width) c.mark_bytes.result
    (λ byte. c.split_words.ensures.same byte ∙ c.make_both.ensures.same byte)
    (subst (λ n. IsMarked (cell_in apart pages) (cell_in after pages) (mark_of x) x.first n c.mark_bytes.result) c.bytes-count.ensures.value
    (subst (λ p. IsMarked (cell_in apart p) (cell_in after p) (mark_of x) x.first c.bytes-count.result c.mark_bytes.result) c.deref.ensures.value c.mark_bytes.ensures))
