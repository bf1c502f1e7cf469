use Rattle.std.proofs.Common.{◌+◌, true, false, [], ◌∷◌, ◌++◌, refl, sym, ap, ◌∙◌, subst, inl, inr}
use Rattle.std.specs.Prelude.{is_ok}
use Rattle.access_list.specs.Past.{IsBefore}
use Rattle.access_list.specs.declared.list.ListLog.{ListLog}
use Rattle.access_list.specs.declared.log.Entry.{Entry}
use Rattle.access_list.proofs.Past.{walked, walk_finds, walk_sees, walk_misses, all_pushed, front_pushed, local_before, global_before}
use Rattle.access_list.proofs.list.ListLogAccessLog.note.Goals as goal

pub invariant_of-self-clause-local_made : goal.invariant_of-self-clause-local_made
invariant_of-self-clause-local_made c =
    let l : ListLog = c.args.self.now in
    let P : Entry → Type 0 = IsBefore false (l.local_interval + 1) in
    all_pushed P l.entries.items c.keep.new.log.items c.stamped-entry.result (is_ok c.keep.result) c.keep.ensures.items l.local_made
    (subst P (sym c.stamped-entry.ensures) (local_before c.args.entry.access.region l.global_interval l.local_interval))

pub invariant_of-self-clause-global_made : goal.invariant_of-self-clause-global_made
invariant_of-self-clause-global_made c =
    let l : ListLog = c.args.self.now in
    let P : Entry → Type 0 = IsBefore true (l.global_interval + 1) in
    all_pushed P l.entries.items c.keep.new.log.items c.stamped-entry.result (is_ok c.keep.result) c.keep.ensures.items l.global_made
    (subst P (sym c.stamped-entry.ensures) (global_before c.args.entry.access.region l.global_interval l.local_interval))

pub invariant_of-self-clause-local_past : goal.invariant_of-self-clause-local_past
invariant_of-self-clause-local_past c =
    let l : ListLog = c.args.self.now in
    front_pushed (IsBefore false l.local_interval) l.local_first l.entries.items c.keep.new.log.items c.stamped-entry.result (is_ok c.keep.result)
    c.keep.ensures.items l.local_start l.local_past

pub invariant_of-self-clause-global_past : goal.invariant_of-self-clause-global_past
invariant_of-self-clause-global_past c =
    let l : ListLog = c.args.self.now in
    front_pushed (IsBefore true l.global_interval) l.global_first l.entries.items c.keep.new.log.items c.stamped-entry.result (is_ok c.keep.result)
    c.keep.ensures.items l.global_start l.global_past

pub returns-in_ok-keep-clause-noted : goal.returns-in_ok-keep-clause-noted
returns-in_ok-keep-clause-noted c =
    let l : ListLog = c.args.self.now in
    let w = walked c.first-from.result c.stamped-entry.ensures c.as_slice-log.ensures.value c.first-from.ensures.past in (
      c.hit_from-found.ensures ∙ walk_finds l.uniform w,
      inr (c.in_ok-keep.ensures.items ∙ ap (λ (y : Entry). l.entries.items ++ y ∷ []) c.stamped-entry.ensures),
      refl,
      refl,
      refl,
    )

pub returns-in_ok-keep-clause-once : goal.returns-in_ok-keep-clause-once
returns-in_ok-keep-clause-once c =
    let l : ListLog = c.args.self.now in
    let w = walked c.first-from.result c.stamped-entry.ensures c.as_slice-log.ensures.value c.first-from.ensures.past in
    inr (
      λ t. c.is_there.ensures.new c.if-not-is_there.true (walk_misses w t),
      c.in_ok-keep.ensures.items ∙ ap (λ (y : Entry). l.entries.items ++ y ∷ []) c.stamped-entry.ensures,
    )

pub returns-else-not-is_there-clause-noted : goal.returns-else-not-is_there-clause-noted
returns-else-not-is_there-clause-noted c =
    let l : ListLog = c.args.self.now in
    let w = walked c.first-from.result c.stamped-entry.ensures c.as_slice-log.ensures.value c.first-from.ensures.past in (
      c.hit_from-found.ensures ∙ walk_finds l.uniform w,
      inl (walk_sees w c.as_slice-log.ensures.value (c.is_there.ensures.there c.if-not-is_there.false), refl),
      refl,
      refl,
      refl,
    )

pub returns-else-not-is_there-clause-once : goal.returns-else-not-is_there-clause-once
returns-else-not-is_there-clause-once c =
    let w = walked c.first-from.result c.stamped-entry.ensures c.as_slice-log.ensures.value c.first-from.ensures.past in
    inl (walk_sees w c.as_slice-log.ensures.value (c.is_there.ensures.there c.if-not-is_there.false), refl)
