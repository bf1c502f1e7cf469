use Rattle.std.proofs.Common.{◌≡◌, ℕ, ◌<◌, ◌≤◌, ◌+◌, ◌%◌, List, Vec, Global, length, sym, ◌∙◌, subst, arith}
use Rattle.std.specs.Prelude.{slice_index_or}
use Rattle.std.proofs.lemmas.List.{length-set, get_or_default, get_or-set_same}
use Rattle.clmodel.specs.declared.access.Access.{Access}
use Rattle.access_list.specs.Recent.{Describes, nothing}
use Rattle.access_list.specs.declared.recent.Recent.{Recent}
use Rattle.access_list.proofs.Words.{same_part, place_kept, one_more}
use Rattle.access_list.proofs.word.add.Goals.{then-not-has, else-not-has}
use Rattle.access_list.proofs.word.add.Goals as goal

-- what is kept once an access is added at the bytes before one
abbrev Added : List Recent → ℕ → ℕ → ℕ → Access → List Recent → Type 0
Added old at first end x now =
    (length now ≡ length old)
    × ((k : ℕ) (y : Access) (byte : ℕ) → Describes (slice_index_or old k nothing) y byte → Describes (slice_index_or now k nothing) y byte)
    × ((byte : ℕ) → first ≤ byte → byte < end → Describes (slice_index_or now (at + byte % 4) nothing) x byte)

pub loop-byte-preserved : goal.loop-byte-preserved
loop-byte-preserved c =
    let old = c.args.apart.now.items in
    let now = c.loop-byte.apart.items in
    let byte = c.loop-byte.byte in
    let first = c.args.first in
    let at = c.args.at in
    let p = at + byte % 4 in
    let x = c.args.x.now in
    let kept = c.loop-byte.invariant in
    let inside : p < length now = omega (arith, c.requires.there, kept.0) in
    let was : c.index-kept.result.now ≡ slice_index_or now p nothing = c.index-kept.ensures ∙ get_or_default now p c.index-kept.result.now nothing inside in
    elim c.if-not-has.branch [
      | then-not-has w ↦
          let stays = place_kept now p w.with.result inside
          (λ z e f. subst (λ r. Describes r z e) (same_part w.with.result) (w.with.ensures.kept (λ n. n) z e (subst (λ r. Describes r z e) (sym (same_part c.index-kept.result.now ∙ was)) f))) in
          subst (λ (v : Vec Recent Global). Added old at first (byte + 1) x v.items) (sym w.apart-is) (
            length-set now p w.with.result ∙ kept.0,
            λ k y b d. stays k y b (kept.1 k y b d),
            one_more (λ (b : ℕ). Describes (slice_index_or _ (at + b % 4) nothing) x b) first byte
                (subst (λ r. Describes r x byte) (sym (get_or-set_same now p w.with.result nothing inside))
                (subst (λ r. Describes r x byte) (same_part w.with.result) (w.with.ensures.added (λ n. n) byte (sym c.left_at-left.ensures))))
                (λ b lo hi. stays (at + b % 4) x b (kept.2 b lo hi)),
          )
      | else-not-has w ↦
          subst (λ (v : Vec Recent Global). Added old at first (byte + 1) x v.items) (sym w.apart-is) (
            kept.0,
            kept.1,
            one_more (λ (b : ℕ). Describes (slice_index_or now (at + b % 4) nothing) x b) first byte
                (subst (λ r. Describes r x byte) (same_part c.index-kept.result.now ∙ was) (c.has.ensures w.if-not-has.false (λ n. n) byte (sym c.left_at-left.ensures)))
                kept.2,
          )
    ]
