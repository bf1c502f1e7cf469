-- Kept accesses tell what the whole list does, once one more is made and once a barrier is passed.
use Rattle.std.proofs.Common.{◌≡◌, ℕ, zero, suc, ◌+◌, Bool, true, false, not, ◌&&◌, ◌==◌, Option, None, Some, List, [], ◌∷◌, ◌++◌, refl, sym, ap, ◌∙◌, subst, inl, inr, arith}
use Rattle.std.specs.Prelude.{All, Ok}
use Rattle.std.specs.Option.{option_map}
use Rattle.std.proofs.lemmas.Bool.{false≢true, and_parts, ne_eqb}
use Rattle.std.proofs.lemmas.List.Elements.{All-head, All-tail}
use Rattle.clmodel.specs.Cells.{byte_count, covers}
use Rattle.clmodel.specs.Launch.{same_region, within_group, conflict_between}
use Rattle.clmodel.specs.Run.{or_else, by_region}
use Rattle.clmodel.specs.declared.access.Access.{Access}
use Rattle.clmodel.specs.declared.access.Region.{Region}
use Rattle.clmodel.specs.declared.access.Region.TheVariants as region
use Rattle.clmodel.specs.declared.access.Rule.{Rule}
use Rattle.clmodel.proofs.Steps.{none_some, map_none}
use Rattle.access_list.specs.Log.{hit_between, hit_on, hit_from, hit, in_buffer, IsThere, IsKept, IsNoted, Log, logged, stamped}
use Rattle.access_list.specs.declared.log.Entry.{Entry}
use Rattle.access_list.specs.declared.log.Hit.{Hit}
use Rattle.access_list.proofs.Past.{one_memory}
use Rattle.group_log.specs.Tells.{Tells, IsTaken, with_last}
use Rattle.group_log.proofs.Covering.{no_conflict, on_push}

-- ---- a list without a conflict

not_hit : (g : Rule) (y z : Entry) (byte : ℕ) → conflict_between g y.access z.access byte ≡ None → hit_between g y z byte ≡ None
not_hit g y z byte h = ap (option_map (λ clash. record { clash = clash; earlier = y; later = z; byte = byte })) h

none_on : (g : Rule) (x : Entry) (byte : ℕ) (log : List Entry) → All (λ (y : Entry). conflict_between g y.access x.access byte ≡ None) log → hit_on g x byte log ≡ None
none_on g x byte [] h = refl
none_on g x byte (y ∷ log) h =
    ap (λ o. or_else o (hit_on g x byte log)) (not_hit g y x byte (All-head (λ (y : Entry). conflict_between g y.access x.access byte ≡ None) y log h))
    ∙ none_on g x byte log (All-tail (λ (y : Entry). conflict_between g y.access x.access byte ≡ None) y log h)

same_from : (g : Rule) (x : Entry) (a b : List Entry) → ((byte : ℕ) → hit_on g x byte a ≡ hit_on g x byte b) → (byte count : ℕ) → hit_from g x a byte count ≡ hit_from g x b byte count
same_from g x a b h byte zero = refl
same_from g x a b h byte (suc count) =
    ap (λ o. or_else o (hit_from g x a (suc byte) count)) (h byte) ∙ ap (or_else (hit_on g x byte b)) (same_from g x a b h (suc byte) count)

pub same_hit : (g : Rule) (x : Entry) (a b : List Entry) → ((byte : ℕ) → hit_on g x byte a ≡ hit_on g x byte b) → hit g x a ≡ hit g x b
unfolding hit
same_hit g x a b h = same_from g x a b h x.access.first (byte_count x.access.width)

nothing : (g : Rule) (x : Entry) (byte count : ℕ) → hit_from g x [] byte count ≡ None
nothing g x byte zero = refl
nothing g x byte (suc count) = nothing g x (suc byte) count

pub none_hit : (g : Rule) (x : Entry) (log : List Entry) → ((byte : ℕ) → All (λ (y : Entry). conflict_between g y.access x.access byte ≡ None) log) → hit g x log ≡ None
unfolding hit
none_hit g x log h = same_from g x log [] (λ byte. none_on g x byte log (h byte)) x.access.first (byte_count x.access.width) ∙ nothing g x x.access.first (byte_count x.access.width)

-- ---- accesses that don't conflict

other_interval : (u : Bool) (x z : Access) (byte : ℕ) → (x.interval ≡ z.interval → ⊥) → conflict_between (within_group u) x z byte ≡ None
other_interval u x z byte ne =
    no_conflict (within_group u) x z byte
    (λ o s. absurd (false≢true (sym (ne_eqb x.interval z.interval ne) ∙ (and_parts (not (x.item == z.item)) (x.interval == z.interval) o).1)))

other_space : (u : Bool) (x z : Access) (byte : ℕ) → (in_buffer x.region ≡ in_buffer z.region → ⊥) → conflict_between (within_group u) x z byte ≡ None
other_space u x z byte ne =
    no_conflict (within_group u) x z byte
    (λ o s. absurd (ne (one_memory x.region z.region (and_parts (same_region x.region z.region) (covers x.first (byte_count x.width) byte) (and_parts (same_region x.region z.region && covers x.first (byte_count x.width) byte) (covers z.first (byte_count z.width) byte) s).0).0)))

-- ---- one access more

first_none : (a b : Option Hit) → or_else a b ≡ None → a ≡ None
first_none None b h = refl
first_none (Some x) b h = absurd (none_some x (sym h))

rest_none : (a b : Option Hit) → or_else a b ≡ None → b ≡ None
rest_none None b h = h
rest_none (Some x) b h = absurd (none_some x (sym h))

-- one that is there doesn't conflict where none does
there_misses : (g : Rule) (x : Access) (z : Entry) (byte : ℕ) (log : List Entry) → IsThere log x → hit_on g z byte log ≡ None → conflict_between g x z.access byte ≡ None
there_misses g x z byte [] t h = elim t [ ]
there_misses g x z byte (y ∷ log) (inl e) h =
    subst (λ (a : Access). conflict_between g a z.access byte ≡ None) e
    (map_none (λ clash. record { clash = clash; earlier = y; later = z; byte = byte }) (conflict_between g y.access z.access byte) (first_none (hit_between g y z byte) (hit_on g z byte log) h))
there_misses g x z byte (y ∷ log) (inr t) h = there_misses g x z byte log t (rest_none (hit_between g y z byte) (hit_on g z byte log) h)

last_none : (a b : Option Hit) → (a ≡ None → b ≡ None) → or_else a b ≡ a
last_none None b h = h refl
last_none (Some x) b h = refl

-- the whole list with an access that tells nothing new
whole_same :
    (u : Bool) (z x : Entry) (byte : ℕ) (whole new : List Entry) → IsKept whole x new → (hit_on (within_group u) z byte whole ≡ None → conflict_between (within_group u) x.access z.access byte ≡ None)
    → hit_on (within_group u) z byte new ≡ hit_on (within_group u) z byte whole
whole_same u z x byte whole new (inl t) h = ap (hit_on (within_group u) z byte) t.1
whole_same u z x byte whole new (inr n) h =
    ap (hit_on (within_group u) z byte) n ∙ on_push (within_group u) z byte whole x
    ∙ last_none (hit_on (within_group u) z byte whole) (hit_between (within_group u) x z byte) (λ e. not_hit (within_group u) x z byte (h e))

-- the kept and the whole list with the same access
both_more :
    (u : Bool) (z x : Entry) (byte : ℕ) (kept whole new : List Entry) → IsKept whole x new → hit_on (within_group u) z byte whole ≡ hit_on (within_group u) z byte kept
    → hit_on (within_group u) z byte new ≡ hit_on (within_group u) z byte (kept ++ x ∷ [])
both_more u z x byte kept whole new (inl t) h =
    ap (hit_on (within_group u) z byte) t.1
    ∙ sym (on_push (within_group u) z byte kept x
    ∙ last_none (hit_on (within_group u) z byte kept) (hit_between (within_group u) x z byte) (λ e. not_hit (within_group u) x z byte (there_misses (within_group u) x.access z byte whole t.0 (h ∙ e)))
    ∙ sym h)
both_more u z x byte kept whole new (inr n) h =
    ap (hit_on (within_group u) z byte) n ∙ on_push (within_group u) z byte whole x ∙ ap (λ o. or_else o (hit_between (within_group u) x z byte)) h ∙ sym (on_push (within_group u) z byte kept x)

pub taken_tells :
    (u b : Bool) (n : ℕ) (kept whole kept2 whole2 : List Entry) (x : Entry) → Tells u b n kept whole → x.access.interval ≡ n → IsTaken u kept x kept2 → IsKept whole x whole2 → Tells u b n kept2 whole2
taken_tells u b n kept whole kept2 whole2 x t i taken k =
    record {
      now = λ z byte s j. go z byte (t.now z byte s j) taken;
      later = λ z byte s lt. whole_same u z x byte whole whole2 k (λ e. other_interval u x.access z.access byte (λ q. omega (arith, q, i, lt))) ∙ t.later z byte s lt;
    }
  where
    go : (z : Entry) (byte : ℕ) → hit_on (within_group u) z byte whole ≡ hit_on (within_group u) z byte kept → IsTaken u kept x kept2
        → hit_on (within_group u) z byte whole2 ≡ hit_on (within_group u) z byte kept2
    go z byte h (inl e) = both_more u z x byte kept whole whole2 k h ∙ ap (hit_on (within_group u) z byte) (sym e)
    go z byte h (inr c) = whole_same u z x byte whole whole2 k (λ e. c.1 byte z (sym h ∙ e)) ∙ h ∙ ap (hit_on (within_group u) z byte) (sym c.0)

pub other_tells : (u b : Bool) (n : ℕ) (kept whole whole2 : List Entry) (x : Entry) → Tells u b n kept whole → (in_buffer x.access.region ≡ b → ⊥) → IsKept whole x whole2 → Tells u b n kept whole2
other_tells u b n kept whole whole2 x t ne k =
    record {
      now = λ z byte s j. whole_same u z x byte whole whole2 k (λ e. other_space u x.access z.access byte (λ q. ne (q ∙ s))) ∙ t.now z byte s j;
      later = λ z byte s lt. whole_same u z x byte whole whole2 k (λ e. other_space u x.access z.access byte (λ q. ne (q ∙ s))) ∙ t.later z byte s lt;
    }

-- ---- a barrier

pub begun_tells : (u b : Bool) (n : ℕ) (kept whole : List Entry) → Tells u b n kept whole → Tells u b (n + 1) [] whole
begun_tells u b n kept whole t =
    record {
      now = λ z byte s j. t.later z byte s (omega (arith, j));
      later = λ z byte s lt. t.later z byte s (omega (arith, lt));
    }

pub tells_none : (u b : Bool) → Tells u b 0 [] []
tells_none u b = record { now = λ z byte s j. refl; later = λ z byte s lt. refl }

-- ---- what is told of an access

pub tells_hit : (u b : Bool) (n : ℕ) (kept whole : List Entry) (x : Entry) → Tells u b n kept whole → in_buffer x.access.region ≡ b → x.access.interval ≡ n
    → hit (within_group u) x kept ≡ hit (within_group u) x whole
tells_hit u b n kept whole x t s j = same_hit (within_group u) x kept whole (λ byte. sym (t.now x byte s j))

-- ---- one access more of a log

-- the interval of an access as it is kept
global_interval : (r : Region) (g l : ℕ) → in_buffer r ≡ true → by_region r g l ≡ g
global_interval (region.Buffer a) g l h = refl
global_interval (region.Local h a) g l e = absurd (false≢true e)

local_interval : (r : Region) (g l : ℕ) → in_buffer r ≡ false → by_region r g l ≡ l
local_interval (region.Buffer a) g l e = absurd (false≢true (sym e))
local_interval (region.Local h a) g l e = refl

pub stamped_global : (log : Log) (e x : Entry) → in_buffer e.access.region ≡ true → x ≡ record e { access = record e.access { interval = log.global_interval } } → x ≡ stamped log e
stamped_global log e x h s = s ∙ ap (λ n. record e { access = record e.access { interval = n } }) (sym (global_interval e.access.region log.global_interval log.local_interval h))

pub stamped_local : (log : Log) (e x : Entry) → in_buffer e.access.region ≡ false → x ≡ record e { access = record e.access { interval = log.local_interval } } → x ≡ stamped log e
stamped_local log e x h s = s ∙ ap (λ n. record e { access = record e.access { interval = n } }) (sym (local_interval e.access.region log.global_interval log.local_interval h))

-- what is told of a new access, of a side of the log
pub told :
    (u b : Bool) (n : ℕ) (kept whole : List Entry) (log : Log) (e x : Entry) (found : Option Hit) → Tells u b n kept whole → found ≡ hit (within_group u) x kept → x ≡ stamped log e
    → in_buffer x.access.region ≡ b → x.access.interval ≡ n → found ≡ hit (within_group u) (stamped log e) whole
told u b n kept whole log e x found t h s r j = h ∙ tells_hit u b n kept whole x t r j ∙ ap (λ z. hit (within_group u) z whole) s

-- a side of the log once room was made and the access was put there
pub noted_tells :
    (u b : Bool) (n : ℕ) (kept whole : List Entry) (x : Entry) (u1 u2 : Bool) (n1 n2 : ℕ) (kept1 kept2 whole2 : List Entry) → Tells u b n kept whole → x.access.interval ≡ n
    → u1 ≡ u → n1 ≡ n → kept1 ≡ kept → u2 ≡ u1 → n2 ≡ n1 → IsTaken u1 kept1 x kept2 → IsKept whole x whole2 → Tells u2 b n2 kept2 whole2
noted_tells u b n kept whole x u1 u2 n1 n2 kept1 kept2 whole2 t j a c d e f taken k =
    subst (λ v. Tells v b n2 kept2 whole2) (sym (e ∙ a))
    (subst (λ m. Tells u b m kept2 whole2) (sym (f ∙ c))
    (taken_tells u b n kept whole kept2 whole2 x t j (subst (λ l. IsTaken u l x kept2) d (subst (λ v. IsTaken v kept1 x kept2) a taken)) k))

pub tells_new : (u b : Bool) (n : ℕ) (kept whole : List Entry) → n ≡ 0 → kept ≡ [] → whole ≡ [] → Tells u b n kept whole
tells_new u b n kept whole e k w = subst (λ m. Tells u b m kept whole) (sym e) (subst (λ l. Tells u b 0 l whole) (sym k) (subst (Tells u b 0 []) (sym w) (tells_none u b)))

-- ---- what is noted of an access

-- logs with the same parts
pub logged_same : (a b : List Entry) (l l2 g g2 : ℕ) (u v : Bool) → a ≡ b → l ≡ l2 → g ≡ g2 → u ≡ v → logged a l g u ≡ logged b l2 g2 v
logged_same a b l l2 g g2 u v p q r s = ap (λ z. logged z l g u) p ∙ ap (λ z. logged b z g u) q ∙ ap (λ z. logged b l2 z u) r ∙ ap (logged b l2 g2) s

-- an access is noted where it is put at the end
pub noted_last : (old new : Log) (e x : Entry) (found : Option Hit) → x ≡ stamped old e → new ≡ with_last old x → found ≡ hit (within_group old.uniform) (stamped old e) old.accesses → IsNoted old e new (Ok found)
noted_last old new e x found s n h = (
  h,
  inr (ap (λ (l : Log). l.accesses) n ∙ ap (λ z. old.accesses ++ z ∷ []) s),
  ap (λ (l : Log). l.local_interval) n,
  ap (λ (l : Log). l.global_interval) n,
  ap (λ (l : Log). l.uniform) n,
)
