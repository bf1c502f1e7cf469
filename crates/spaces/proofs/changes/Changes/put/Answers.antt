use Rattle.std.proofs.Common.{◌≡◌, ◌+◌, ◌-◌, ◌<◌, ℕ, sym, ◌∙◌, subst, arith}
use Rattle.std.specs.Prelude.{length, slice_get, OnOk, OnErr}
use Rattle.std.proofs.lemmas.Bool.{leb-false}
use Rattle.clmodel.specs.Cells.{byte_count, written}
use Rattle.spaces.specs.Changes.{Changed, with_changes}
use Rattle.spaces.proofs.Changed.{changed_of, are_put, none_put, same_changes}
use Rattle.spaces.proofs.changes.Changes.put.Goals as goal

pub returns-then-is_inside-clause-put : goal.returns-then-is_inside-clause-put
returns-then-is_inside-clause-put c =
    let base = c.args.bytes.now in
    let count = byte_count c.args.width in
    let old = c.self.inside.pages in
    let new = c.change.new.self in
    subst
    (λ (z : Changed). OnOk c.change.result ((byte : ℕ) → byte < length base → slice_get (with_changes base (changed_of new.table new.cells.items)) byte ≡ written (slice_get (with_changes base z)) c.args.at count c.args.value byte))
    c.self.view_is
    (are_put c.change.result base old.table new.table old.cells.items new.cells.items c.args.at count count c.args.value c.change.ensures.changed (omega arith) (λ less. absurd (omega (arith, less))))

pub returns-then-is_inside-clause-same : goal.returns-then-is_inside-clause-same
returns-then-is_inside-clause-same c =
    let base = c.args.bytes.now in
    let old = c.self.inside.pages in
    let new = c.change.new.self in
    subst (λ (z : Changed). OnErr c.change.result (with_changes base (changed_of new.table new.cells.items) ≡ with_changes base z)) c.self.view_is
    (same_changes c.change.result base old.table new.table old.cells.items new.cells.items c.change.ensures.same)

pub returns-then-at-length-clause-put : goal.returns-then-at-length-clause-put
returns-then-at-length-clause-put c = λ byte inside.
    none_put (slice_get (with_changes c.args.bytes.now c.args.self.now)) c.args.at (byte_count c.args.width) c.args.value byte (length c.args.bytes.now) inside c.if-at-length.true

pub returns-clause-put : goal.returns-clause-put
returns-clause-put c =
    let base = c.args.bytes.now in
    let count = byte_count c.args.width in
    let old = c.self.inside.pages in
    let new = c.change_few.new.self in
    let out : length base < c.args.at + c.bytes.result = leb-false (c.args.at + c.bytes.result) (length base) (sym c.is_inside.ensures ∙ c.if-is_inside.false) in
    subst
    (λ (z : Changed). OnOk c.change_few.result ((byte : ℕ) → byte < length base → slice_get (with_changes base (changed_of new.table new.cells.items)) byte ≡ written (slice_get (with_changes base z)) c.args.at count c.args.value byte))
    c.self.view_is
    (are_put c.change_few.result base old.table new.table old.cells.items new.cells.items c.args.at (length base - c.args.at) count c.args.value c.change_few.ensures.changed
    (omega (arith, out, c.bytes.ensures.value)) (λ less. omega (arith, c.if-at-length.false)))

pub returns-clause-same : goal.returns-clause-same
returns-clause-same c =
    let base = c.args.bytes.now in
    let old = c.self.inside.pages in
    let new = c.change_few.new.self in
    subst (λ (z : Changed). OnErr c.change_few.result (with_changes base (changed_of new.table new.cells.items) ≡ with_changes base z)) c.self.view_is
    (same_changes c.change_few.result base old.table new.table old.cells.items new.cells.items c.change_few.ensures.same)
