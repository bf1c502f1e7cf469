-- Why the order of two accesses matters, by their kinds.
use Rattle.std.proofs.Common.{◌≡◌, ◌≢◌, refl, inl, inr, sym, ap, ◌∙◌, subst}
use Rattle.clmodel.specs.declared.access.AccessKind.{AccessKind}
use Rattle.clmodel.specs.declared.access.AccessKind.TheVariants as kind
use Rattle.clmodel.specs.declared.access.Class.{Class}
use Rattle.clmodel.specs.declared.access.Clash.TheVariants as clashes
use Rattle.explanation.specs.declared.reasons.Reason.{Reason}
use Rattle.explanation.specs.declared.reasons.Reason.TheVariants as reason
use Rattle.fault_play.specs.declared.played.Played.{Played}
use Rattle.explain_reasons.specs.Reasons.{AreKinds, Matters, WithStore}

both_stores : (kinds : AccessKind × AccessKind) → AreKinds kind.Store kind.Store kinds → kinds ≡ (kind.Store, kind.Store)
both_stores kinds (inl e) = e
both_stores kinds (inr e) = e

pub with_load : (played : Played) (other : AccessKind) → other ≡ kind.Load → WithStore played other reason.StoreAndLoad
with_load played other is = λ kinds h. (refl, subst (λ (k : AccessKind). AreKinds kind.Store k kinds) is h)

pub with_fetch : (played : Played) (other : AccessKind) → other ≡ kind.Fetch → WithStore played other reason.StoreAndFetch
with_fetch played other is = λ kinds h. (refl, subst (λ (k : AccessKind). AreKinds kind.Store k kinds) is h)

pub with_update : (played : Played) (other : AccessKind) (class : Class) → other ≡ kind.Update class → WithStore played other reason.StoreAndUpdate
with_update played other class is = λ kinds h. (refl, class, subst (λ (k : AccessKind). AreKinds kind.Store k kinds) is h)

pub with_store : (played : Played) (other : AccessKind) (r : Reason) → other ≡ kind.Store → Matters played clashes.Race (kind.Store, kind.Store) r → WithStore played other r
with_store played other r is m =
    λ kinds h. subst (λ (k : AccessKind × AccessKind). Matters played clashes.Race k r) (sym (both_stores kinds (subst (λ (k : AccessKind). AreKinds kind.Store k kinds) is h))) m

-- the store comes first, or second
pub stores_first : (played : Played) (one other : AccessKind) (r : Reason) → one ≡ kind.Store → WithStore played other r → Matters played clashes.Race (one, other) r
stores_first played one other r is with = with (one, other) (inl (ap (λ (k : AccessKind). (k, other)) is))

pub stores_second : (played : Played) (one other : AccessKind) (r : Reason) → other ≡ kind.Store → WithStore played one r → Matters played clashes.Race (one, other) r
stores_second played one other r is with = with (one, other) (inr (ap (λ (k : AccessKind). (one, k)) is))
