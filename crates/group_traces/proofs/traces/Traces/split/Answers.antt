use Rattle.std.proofs.Common.{◌≡◌, nat_eq, length, refl, sym, ap, ◌∙◌, subst}
use Rattle.std.specs.HashMap.{get}
use Rattle.group_traces.specs.Cells.{cell_at, word_at, placed_trace, FitsWith, IsFitting}
use Rattle.group_traces.specs.declared.cell.Apart.{Apart}
use Rattle.group_traces.specs.declared.traces.Traces.{Traces}
use Rattle.group_traces.proofs.Keeping.{own_kept, read_cell, read_word}
use Rattle.group_traces.proofs.Making.{split_same, split_own, split_fits, split_others}
use Rattle.group_traces.proofs.traces.Traces.split.Goals as goal

pub returns-in_err-push-clause-same : goal.returns-in_err-push-clause-same
returns-in_err-push-clause-same c q b =
    let t = c.args.self.now in
    ap (λ l. placed_trace t.cells.items l q b (get nat_eq t.places q)) c.in_err-push.ensures.items

pub returns-in_err-push-clause-own : goal.returns-in_err-push-clause-own
returns-in_err-push-clause-own c key j own =
    let t = c.args.self.now in
    let new : Traces = record t { apart = c.push.new.self } in
    own_kept t new key j (λ q. refl) refl (λ k. refl) own

pub returns-in_err-push-clause-others : goal.returns-in_err-push-clause-others
returns-in_err-push-clause-others c m y f k ne h =
    let t = c.args.self.now in
    subst (λ l. FitsWith l (cell_at t.cells.items c.args.i).key m y f k (word_at (cell_at t.cells.items c.args.i) m)) (sym c.in_err-push.ensures.items) h

pub returns-clause-same : goal.returns-clause-same
returns-clause-same c =
    let t = c.args.self.now in
    let w = c.index-cell.result.now in
    let a : Apart = record { key = w.key; word = c.word_of-n.result; traces = c.bytes-traces.result } in
    let end : length t.apart.items ≡ c.len-at.result = sym (c.len-at.ensures ∙ t.apart.ok.0) in
    let key : w.key ≡ (cell_at t.cells.items c.args.i).key = ap (λ z. z.key) (read_cell t.cells.items c.args.i w c.requires.own.inside c.index-cell.ensures) in
    split_same t c.put.new.self a c.args.i c.word_of-n.result c.len-at.result c.put.ensures.places (ap (λ v. v.items) c.put.ensures.apart ∙ c.in_ok-push.ensures.items) c.put.ensures.cells end key refl c.requires.own
    (λ k small.
    c.bytes-traces.ensures k small
    ∙ read_word t.apart.items c.deref.result.now t.cells.items c.args.i c.word_of-n.result c.word_of-n.result k w c.deref.ensures.value c.requires.own.inside c.index-cell.ensures refl)

pub returns-clause-own : goal.returns-clause-own
returns-clause-own c =
    let t = c.args.self.now in
    let w = c.index-cell.result.now in
    let a : Apart = record { key = w.key; word = c.word_of-n.result; traces = c.bytes-traces.result } in
    let end : length t.apart.items ≡ c.len-at.result = sym (c.len-at.ensures ∙ t.apart.ok.0) in
    let key : w.key ≡ (cell_at t.cells.items c.args.i).key = ap (λ z. z.key) (read_cell t.cells.items c.args.i w c.requires.own.inside c.index-cell.ensures) in
    split_own t c.put.new.self a c.args.i c.word_of-n.result c.len-at.result c.put.ensures.places (ap (λ v. v.items) c.put.ensures.apart ∙ c.in_ok-push.ensures.items) c.put.ensures.cells end key refl

pub returns-clause-fits : goal.returns-clause-fits
returns-clause-fits c y f k =
    let t = c.args.self.now in
    let w = c.index-cell.result.now in
    let a : Apart = record { key = w.key; word = c.word_of-n.result; traces = c.bytes-traces.result } in
    let end : length t.apart.items ≡ c.len-at.result = sym (c.len-at.ensures ∙ t.apart.ok.0) in
    let key : w.key ≡ (cell_at t.cells.items c.args.i).key = ap (λ z. z.key) (read_cell t.cells.items c.args.i w c.requires.own.inside c.index-cell.ensures) in
    subst (λ m. IsFitting c.put.new.self c.args.i m y f k) c.word_of-n.ensures.value
    (split_fits t c.put.new.self a c.args.i c.word_of-n.result c.len-at.result c.put.ensures.places (ap (λ v. v.items) c.put.ensures.apart ∙ c.in_ok-push.ensures.items) c.put.ensures.cells end key refl y f k)

pub returns-clause-others : goal.returns-clause-others
returns-clause-others c m y f k ne =
    let t = c.args.self.now in
    let w = c.index-cell.result.now in
    let a : Apart = record { key = w.key; word = c.word_of-n.result; traces = c.bytes-traces.result } in
    let end : length t.apart.items ≡ c.len-at.result = sym (c.len-at.ensures ∙ t.apart.ok.0) in
    let key : w.key ≡ (cell_at t.cells.items c.args.i).key = ap (λ z. z.key) (read_cell t.cells.items c.args.i w c.requires.own.inside c.index-cell.ensures) in
    split_others t c.put.new.self a c.args.i c.word_of-n.result c.len-at.result c.put.ensures.places (ap (λ v. v.items) c.put.ensures.apart ∙ c.in_ok-push.ensures.items) c.put.ensures.cells end key refl m y f k (λ e. ne (e ∙ c.word_of-n.ensures.value))
