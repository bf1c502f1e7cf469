-- A run of groups, joined by itself and then to the groups below it.
use Rattle.std.proofs.Common.{◌≡◌, ℕ, zero, suc, ◌+◌, ◌*◌, ◌<◌, ◌≤◌, false, Option, Some, None, refl, sym, ap, ap₂, ◌∙◌, subst, arith, ⊎_elim, List, [], ◌∷◌, ◌++◌, append_assoc}
use Rattle.std.proofs.lemmas.List.{append-nil}
use Rattle.std.proofs.Math.Path.{fun_ext}
use Rattle.std.specs.Option.{option_map}
use Rattle.clmodel.specs.Cells.{byte_count}
use Rattle.clmodel.specs.Launch.{Launch, group_of, region_of, conflict}
use Rattle.clmodel.specs.Run.{State, Events, initial, start, step, access_of, or_else}
use Rattle.clmodel.specs.Law.{Logged, conflict_on, conflict_from, newest_conflict, conflict_fault}
use Rattle.clmodel.specs.declared.access.Access.{Access}
use Rattle.clmodel.specs.declared.access.Clash.{Clash}
use Rattle.clmodel.specs.declared.access.Conflict as conflict_type
use Rattle.clmodel.specs.declared.access.Object.{Object}
use Rattle.clmodel.specs.declared.access.Region.{Region}
use Rattle.clmodel.specs.declared.schedule.Event.{Event}
use Rattle.clmodel.specs.declared.schedule.Event.TheVariants.{Item, Release}
use Rattle.clmodel.proofs.Steps.{none_some, or_else_none, map_none, map_some, region_for, ItemStep, item_inverse, release_inverse}
use Rattle.clmodel.proofs.Logs.{logged_append}
use Rattle.joining.specs.Group.{RunsIn, plan_of}
use Rattle.joining.specs.Parts.{Part, IsGrouped, IsPart}
use Rattle.joining.specs.Memory.{wrote, joined_memory}
use Rattle.joining.specs.Crossings.{crossing}
use Rattle.joining.specs.Join.{Joined, nothing_yet, join_at, join}
use Rattle.joining.specs.Steps.{HasGroup, IsJoined}
use Rattle.joining.proofs.Grouped.{group_is}
use Rattle.joining.proofs.Words.{Updated}
use Rattle.joining.proofs.Crossings.{on_append, crossing_newest, no_cross}
use Rattle.joining.proofs.Over.{OnlyUpdates, unchanged_step, older_clear, over_start}
use Rattle.joining.proofs.Ride.{Through, ride}
use Rattle.joining.proofs.Joins.{So_far}
use Rattle.joining.proofs.Steps.{so_far, accesses_are_own, accesses_are_lower}
use Rattle.joining_runs.specs.Runs.{IsRunOf, join_run, RunsAreJoined, RunsAreWithin}
use Rattle.joining_runs.proofs.Layers.{Layer, skips, layer_join}
use Rattle.joining_runs.proofs.Threes.{Three, three_joined}

-- a run leaves bytes as they were where it didn't write
abbrev Base : Launch → State → Type 0
Base l s = (p : Region) (byte : ℕ) → wrote s.log p byte ≡ false → s.memory p byte ≡ initial l p byte

base_step : (l : Launch) (s next : State) (e : Event) → step l s e ≡ Some next → Base l s → Base l next
base_step l s next (Item i) h base = subst (Base l) r.gives (λ p byte w.
    unchanged_step s.memory s.log i (region_for l i r.object) r.operation r.first r.value e.interval p byte w ∙ base p byte (older_clear s.log e p byte w))
  where
    r : ItemStep l s i next
    r = item_inverse l s i next h

    e : Access
    e = access_of l s i (region_for l i r.object) r.first r.operation
base_step l s next (Release k) h base = subst (Base l) (release_inverse l s k next h).gives base

base_run : (l : Launch) (g : ℕ) (es : Events) (s end : State) → RunsIn (plan_of l g) s es end → Base l s → Base l end
base_run l g [] s end r base = subst (Base l) r base
base_run l g (e ∷ es) s end r base = base_run l g es r.0 end r.3 (base_step l s r.0 e r.2 base)

-- an access that crosses is reported
abbrev met_by : Launch → List Access → Access → Option conflict_type.Conflict
met_by l lower x = conflict_from (conflict l) x lower x.first (byte_count x.width)

crossed_reports : (l : Launch) (lower log own : List Access) → crossing l lower log ≡ Some own → (report : conflict_type.Conflict) × (newest_conflict l (own ++ lower) ≡ Some report)
crossed_reports l lower [] own h = absurd (none_some own h)
crossed_reports l lower (x ∷ log) own h = go (crossing l lower log) (crossed_reports l lower log own) h
  where
    go : (o : Option (List Access)) → (o ≡ Some own → (report : conflict_type.Conflict) × (newest_conflict l (own ++ lower) ≡ Some report))
        → or_else o (option_map (λ _. x ∷ log) (met_by l lower x)) ≡ Some own → (report : conflict_type.Conflict) × (newest_conflict l (own ++ lower) ≡ Some report)
    go (Some older) further d = further d
    go None further d =
        let m = map_some (λ _. x ∷ log) (met_by l lower x) own d in
        subst (λ z. (report : conflict_type.Conflict) × (newest_conflict l (z ++ lower) ≡ Some report)) m.2 (crossing_newest l lower log x m.0 m.1)

none_crosses : (l : Launch) (u : Joined) (part : Part) (o : Option (List Access)) → crossing l u.log part.end.log ≡ o → (join_at l u part o).report ≡ None → o ≡ None
none_crosses l u part None e h = refl
none_crosses l u part (Some own) e h =
    let r = crossed_reports l u.log part.end.log own e in
    absurd (none_some (conflict_fault l r.0) (sym h ∙ ap (option_map (conflict_fault l)) r.1))

-- the last group of a run
pub record LastOf (l : Launch) (u : Joined) (part : Part) (run : Joined) : Type 0 where
  pub cross : crossing l u.log part.end.log ≡ None
  pub is : run ≡ join_at l u part None
  pub ended : part.stopped ≡ None

last_of : (l : Launch) (u : Joined) (part : Part) (run : Joined) → run ≡ join l u part → run.report ≡ None → LastOf l u part run
last_of l u part run is quiet =
    let cross : crossing l u.log part.end.log ≡ None = none_crosses l u part (crossing l u.log part.end.log) refl (ap (λ j. j.report) (sym is) ∙ quiet) in
    let joined : run ≡ join_at l u part None = is ∙ ap (join_at l u part) cross in
    record { cross = cross; is = joined; ended = ap (λ j. j.report) (sym joined) ∙ quiet }

-- crossings of logs one after another
crossing_back : (l : Launch) (lower own earlier : List Access) → crossing l lower (own ++ earlier) ≡ None → crossing l lower earlier ≡ None
crossing_back l lower [] earlier h = h
crossing_back l lower (x ∷ own) earlier h = crossing_back l lower own earlier (or_else_none (crossing l lower (own ++ earlier)) _ h).0

crossing_front : (l : Launch) (lower own earlier : List Access) → crossing l lower (own ++ earlier) ≡ None → crossing l lower own ≡ None
crossing_front l lower [] earlier h = refl
crossing_front l lower (x ∷ own) earlier h =
    let r = or_else_none (crossing l lower (own ++ earlier)) _ h in
    ap₂ (λ a b. or_else a b) (crossing_front l lower own earlier r.0) (ap (option_map (λ _. x ∷ own)) (map_none _ (met_by l lower x) r.1))

from_own : (judge : Access → Access → ℕ → Option Clash) (x : Access) (own lower : List Access) (byte count : ℕ) → conflict_from judge x lower byte count ≡ None
    → conflict_from judge x (own ++ lower) byte count ≡ conflict_from judge x own byte count
from_own judge x own lower byte zero h = refl
from_own judge x own lower byte (suc count) h =
    let r = or_else_none (conflict_on judge x byte lower) (conflict_from judge x lower (suc byte) count) h in
    ap₂ (λ a b. or_else a b) (on_append judge x byte own lower ∙ ap (λ o. or_else o (conflict_on judge x byte own)) r.0) (from_own judge x own lower (suc byte) count r.1)

crossing_both : (l : Launch) (lower between own : List Access) → crossing l lower own ≡ None → crossing l between own ≡ None → crossing l (between ++ lower) own ≡ None
crossing_both l lower between [] h k = refl
crossing_both l lower between (x ∷ own) h k =
    let r = or_else_none (crossing l lower own) _ h in
    let q = or_else_none (crossing l between own) _ k in
    let low : met_by l lower x ≡ None = map_none _ (met_by l lower x) r.1 in
    let mid : met_by l between x ≡ None = map_none _ (met_by l between x) q.1 in
    ap₂ (λ a b. or_else a b) (crossing_both l lower between own r.0 q.0)
    (ap (option_map (λ _. x ∷ own)) (from_own (conflict l) x between lower x.first (byte_count x.width) low ∙ mid))

-- the accesses of a run
abbrev Within : Launch → ℕ → ℕ → Access → Type 0
Within l first last x = (first ≤ group_of l x.item) × (group_of l x.item < last) × (object : Object) × (x.region ≡ region_of (group_of l x.item) object)

within_last : (l : Launch) (first count : ℕ) (x : Access) → (group_of l x.item ≡ first + count) × (object : Object) × (x.region ≡ region_of (first + count) object) → Within l first (first + suc count) x
within_last l first count x h = (omega (arith, h.0), omega (arith, h.0), h.1, h.2 ∙ ap (λ z. region_of z h.1) (sym h.0))

within_more : (l : Launch) (first count : ℕ) (x : Access) → Within l first (first + count) x → Within l first (first + suc count) x
within_more l first count x h = (h.0, omega (arith, h.1), h.2, h.3)

within : (l : Launch) → IsGrouped l → (first count : ℕ) (run : Joined) → IsRunOf l first count run → (x : Access) → Logged run.log x → Within l first (first + count) x
within l grouped first zero run r x k = absurd (subst (λ j. Logged j.log x) r k)
within l grouped first (suc count) run r x k =
    let e = last_of l r.0 r.1 run r.5 r.6 in
    ⊎_elim
    (λ m. within_last l first count x (accesses_are_own l (first + count) r.1 grouped r.3 r.4 x m))
    (λ m. within_more l first count x (within l grouped first count r.0 r.2 x m))
    (logged_append r.1.end.log r.0.log x (subst (λ j. Logged j.log x) e.is k))

pub runs_are_within : RunsAreWithin
runs_are_within l first count run grouped r x k = within l grouped first count run r x k

-- what is left by a group, and by those joined so far
own_layer : (l : Launch) (g : ℕ) (a : State) (part : Part) → Through l g a a part.events part.end → IsPart l g part → Layer l part.end.log part.end.memory
own_layer l g a part t is =
    record {
      fit = λ x h. (t.2.own x h).1;
      base = base_run l g part.events (start l) part.end is.0 (λ p byte h. refl);
      folds = λ c p n only. let f = t.2.folds c p n only in (f.0, f.1, f.3);
    }

lower_layer : (l : Launch) (g : ℕ) (lower : Joined) → So_far l g lower → Layer l lower.log lower.memory
lower_layer l g lower far =
    record {
      fit = λ x h. (far.ready.lower x (subst (λ z. Logged z x) far.log h)).1;
      base = λ p byte h. ap (λ m. m p byte) far.memory ∙ far.ready.base p byte (ap (λ z. wrote z p byte) (sym far.log) ∙ h);
      folds = λ c p n only.
          let r = far.ready.folds c p n (subst (λ z. OnlyUpdates c z p (n * 4)) far.log only) in
          (r.0, subst (λ m. Updated c r.0 (initial l p) (m p) (n * 4)) (sym far.memory) r.1, ap (λ z. wrote z p (n * 4)) far.log ∙ r.2);
    }

no_layer : (l : Launch) → Layer l [] (initial l)
no_layer l = record { fit = λ x h. absurd h; base = λ p byte h. refl; folds = λ c p n only. ([], (λ k b. refl), refl) }

-- where nothing crosses, the group's run goes through after the groups below
through : (l : Launch) (group : ℕ) (lower : Joined) (part : Part) → IsGrouped l → (far : So_far l group lower) → HasGroup l group → IsPart l group part → crossing l lower.log part.end.log ≡ None
    → Through l group far.a far.a part.events part.end
through l group lower part grouped far there is none = ⊎_elim
    (λ t. t)
    (λ c. absurd (none_some c.2 (sym none ∙ ap (λ z. crossing l z part.end.log) far.log ∙ c.6)))
    (ride l group far.a (group_is l group grouped there) far.ready part.events (start l) far.a part.end (over_start l group far.a far.ready) refl is.0)

-- groups with different numbers
lower_group : (a b first : ℕ) → a < first → first ≤ b → a ≡ b → ⊥
lower_group a b first h k e = omega (arith, h, k, e)

lower_than : (a b first count : ℕ) → a < first → b ≡ first + count → a ≡ b → ⊥
lower_than a b first count h k e = omega (arith, h, k, e)

earlier_than : (a b last : ℕ) → a < last → b ≡ last → a ≡ b → ⊥
earlier_than a b last h k e = omega (arith, h, k, e)

-- what is known of a run beside the groups below it
pub record Joins (l : Launch) (first count : ℕ) (lower run : Joined) : Type 0 where
  pub joined : IsJoined l (first + count) (join_run l lower run)
  pub layer : Layer l run.log run.memory

-- no group
joins_none : (l : Launch) (first : ℕ) (lower : Joined) → IsJoined l first lower → lower.report ≡ None → Joins l first 0 lower (nothing_yet l)
joins_none l first lower h quiet =
    record {
      joined = subst (λ g. IsJoined l g (join_run l lower (nothing_yet l))) same_group (subst (IsJoined l first) (sym same) h);
      layer = no_layer l;
    }
  where
    same_group : first ≡ first + 0
    same_group = omega arith

    same : join_run l lower (nothing_yet l) ≡ lower
    same =
        ap₂ (λ es m. record { events = es; log = lower.log; memory = m; report = None }) (append-nil lower.events)
        (fun_ext (λ p. fun_ext (λ byte. skips (initial l) lower.memory (initial l) lower.log [] p byte refl)))
        ∙ ap (λ r. record { events = lower.events; log = lower.log; memory = lower.memory; report = r }) (sym quiet)

-- one group more
joins_more : (l : Launch) → IsGrouped l → (first count : ℕ) (lower u : Joined) (part : Part) → IsJoined l first lower → IsRunOf l first count u → Joins l first count lower u
    → HasGroup l (first + count) → IsPart l (first + count) part → crossing l lower.log u.log ≡ None → crossing l lower.log part.end.log ≡ None → crossing l u.log part.end.log ≡ None
    → part.stopped ≡ None → Joins l first (suc count) lower (join_at l u part None)
joins_more l grouped first count lower u part h r so there is below beside cross ended =
    record {
      joined = subst (λ g. IsJoined l g (join_run l lower (join_at l u part None))) next (mid, part, so.joined, there, is, same, refl);
      layer = layer_join l u.log part.end.log u.memory part.end.memory so.layer own;
    }
  where
    next : suc (first + count) ≡ first + suc count
    next = omega arith

    mid : Joined
    mid = join_run l lower u

    far : So_far l (first + count) mid
    far = so_far l grouped (first + count) mid so.joined

    none : crossing l (u.log ++ lower.log) part.end.log ≡ None
    none = crossing_both l lower.log u.log part.end.log beside cross

    t : Through l (first + count) far.a far.a part.events part.end
    t = through l (first + count) mid part grouped far there is none

    own : Layer l part.end.log part.end.memory
    own = own_layer l (first + count) far.a part t is

    three : Three l lower.log u.log part.end.log lower.memory u.memory part.end.memory
    three = record {
      one = lower_layer l first lower (so_far l grouped first lower h);
      two = so.layer;
      three = own;
      one_two = record {
        groups = λ x y i j. lower_group (group_of l y.item) (group_of l x.item) first (accesses_are_lower l first lower grouped h y j).0 (within l grouped first count u r x i).0;
        calm = no_cross l lower.log u.log below;
      };
      one_three = record {
        groups = λ x y i j. lower_than (group_of l y.item) (group_of l x.item) first count (accesses_are_lower l first lower grouped h y j).0 (t.2.own x i).0;
        calm = no_cross l lower.log part.end.log beside;
      };
      two_three = record {
        groups = λ x y i j. earlier_than (group_of l y.item) (group_of l x.item) (first + count) (within l grouped first count u r y j).1 (t.2.own x i).0;
        calm = no_cross l u.log part.end.log cross;
      };
    }

    same : join_run l lower (join_at l u part None) ≡ join l mid part
    same =
        ap₂ (λ es log. record { events = es; log = log; memory = joined_memory (initial l) lower.memory lower.log (joined_memory (initial l) u.memory u.log part.end.memory part.end.log) (part.end.log ++ u.log); report = None })
        (sym (append_assoc lower.events u.events part.events)) (append_assoc part.end.log u.log lower.log)
        ∙ ap₂ (λ m o. record { events = (lower.events ++ u.events) ++ part.events; log = part.end.log ++ (u.log ++ lower.log); memory = m; report = o })
        (sym (three_joined l lower.log u.log part.end.log lower.memory u.memory part.end.memory three)) (sym ended)
        ∙ sym (ap (join_at l mid part) none)

joins : (l : Launch) → IsGrouped l → (first count : ℕ) (lower run : Joined) → IsJoined l first lower → IsRunOf l first count run → crossing l lower.log run.log ≡ None
    → Joins l first count lower run
joins l grouped first zero lower run h r none = subst (Joins l first 0 lower) (sym r) (joins_none l first lower h (so_far l grouped first lower h).report)
joins l grouped first (suc count) lower run h r none =
    let e = last_of l r.0 r.1 run r.5 r.6 in
    let whole : crossing l lower.log (r.1.end.log ++ r.0.log) ≡ None = subst (λ j. crossing l lower.log j.log ≡ None) e.is none in
    let below = crossing_back l lower.log r.1.end.log r.0.log whole in
    let beside = crossing_front l lower.log r.1.end.log r.0.log whole in
    subst (Joins l first (suc count) lower) (sym e.is)
    (joins_more l grouped first count lower r.0 r.1 h r.2 (joins l grouped first count lower r.0 h r.2 below) r.3 r.4 below beside e.cross e.ended)

pub runs_are_joined : RunsAreJoined
runs_are_joined l first count lower run grouped h r none = (joins l grouped first count lower run h r none).joined
