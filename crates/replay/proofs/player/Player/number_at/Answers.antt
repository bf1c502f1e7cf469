use Rattle.std.proofs.Common.{◌≡◌, ◌+◌, ◌/◌, ◌<◌, ◌≤◌, length, refl, sym, ap, ◌∙◌, subst}
use Rattle.std.proofs.lemmas.Option.{slice_get_read}
use Rattle.clmodel.specs.Cells.{number, size_of}
use Rattle.clmodel.specs.Launch.{bytes_of, group_of, region_of}
use Rattle.clmodel.specs.declared.access.Region.TheVariants as region
use Rattle.launches.specs.Objects.{SpacesHold}
use Rattle.replay.proofs.Playing.{group_there}
use Rattle.replay.proofs.player.Player.number_at.Goals as goal

pub number_at-requires : goal.number_at-requires
number_at-requires g c =
    let p = c.args.self.now in
    let l = c.requires.0 in
    let s = c.requires.2 in
    let at = c.requires.3 in
    let k = c.args.item in
    let n = k / c.group_size.result in
    let x = c.index-group.result.now in
    let e : group_of l k ≡ n = ap (λ size. k / size) (sym (c.group_size.ensures.value ∙ ap (λ z. z.group_size) at.plays)) in
    let below : n < length p.groups.items = group_there l p.groups.items k n at.runnable.grouped at.tells.grouped c.requires.4 e in
    let there = slice_get_read p.groups.items (length p.groups.items) n x refl below c.index-group.ensures in (
      l,
      n,
      s.memory,
      subst (λ z. SpacesHold (λ b. b) l (length l.buffers) region.Buffer z s.memory) (sym c.as_slice.ensures.value) at.tells.buffers_hold,
      (at.tells.each n x there).locals,
      subst (λ z. c.args.first + size_of c.args.operation ≤ bytes_of l (region_of z c.args.object)) e c.requires.5,
    )

pub returns : goal.returns
returns g c = λ l r s at.
    let p = c.args.self.now in
    let k = c.args.item in
    let n = k / c.group_size.result in
    let x = c.index-group.result.now in
    let same = sym c.requires.3.plays ∙ at.plays in
    let e : group_of l k ≡ n = ap (λ size. k / size) (sym (c.group_size.ensures.value ∙ ap (λ z. z.group_size) at.plays)) in
    let under : k < l.items = subst (λ z. k < z.items) same c.requires.4 in
    let inside : c.args.first + size_of c.args.operation ≤ bytes_of l (region_of n c.args.object) =
    subst (λ z. c.args.first + size_of c.args.operation ≤ bytes_of l (region_of z c.args.object)) e
    (subst (λ z. c.args.first + size_of c.args.operation ≤ bytes_of z (region_of (group_of z k) c.args.object)) same c.requires.5) in
    let below : n < length p.groups.items = group_there l p.groups.items k n at.runnable.grouped at.tells.grouped under e in
    let there = slice_get_read p.groups.items (length p.groups.items) n x refl below c.index-group.ensures in
    c.number_at.ensures l n s.memory
    (subst (λ z. SpacesHold (λ b. b) l (length l.buffers) region.Buffer z s.memory) (sym c.as_slice.ensures.value) at.tells.buffers_hold)
    (at.tells.each n x there).locals inside
    ∙ ap (λ z. number (s.memory (region_of z c.args.object)) c.args.first (size_of c.args.operation)) (sym e)
