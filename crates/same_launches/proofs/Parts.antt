-- Parts of launches that are alike.
use Rattle.std.proofs.Common.{◌≡◌, ℕ, zero, suc, ◌+◌, ◌-◌, ◌*◌, ◌==◌, inl, inr, ℤ, Bool, true, false, not, ◌&&◌, ◌++◌, if◌then◌else◌, Option, None, Some, List, [], ◌∷◌, refl, ap, ap₂, sym, ◌∙◌, subst}
use Rattle.std.specs.Option.{option_map}
use Rattle.clmodel.specs.Cells.{Cells, byte_of, byte_count, covers, joined, number, unset_or, lowest_unset, written, updated_word, fetched, width_of, size_of, reads, found, answer_to, effect}
use Rattle.clmodel.specs.Launch.{Launch, location_of, kind_of, value_of, both_store, left_at, unordered, share, clash, conflict, conflict_between}
use Rattle.clmodel.specs.Run.{stop_of, or_else}
use Rattle.clmodel.specs.Law.{Logged, has_ended, conflict_on, conflict_from, newest_conflict, conflict_fault}
use Rattle.clmodel.specs.declared.access.Access.{Access}
use Rattle.clmodel.specs.declared.access.AccessKind.{AccessKind}
use Rattle.clmodel.specs.declared.access.Class.{Class}
use Rattle.clmodel.specs.declared.access.Clash.{Clash}
use Rattle.clmodel.specs.declared.access.Conflict as conflict_type
use Rattle.clmodel.specs.declared.access.FetchOp.{FetchOp}
use Rattle.clmodel.specs.declared.access.FetchOp.TheVariants as fetch
use Rattle.clmodel.specs.declared.access.Object.{Object}
use Rattle.clmodel.specs.declared.access.Operation.{Operation}
use Rattle.clmodel.specs.declared.access.Operation.TheVariants as operation
use Rattle.clmodel.specs.declared.action.Action.{Action}
use Rattle.clmodel.specs.declared.action.Action.TheVariants as action
use Rattle.clmodel.specs.declared.action.Answer.{Answer}
use Rattle.clmodel.specs.declared.action.Answer.TheVariants.{Value}
use Rattle.clmodel.specs.declared.action.Cause.{Cause}
use Rattle.clmodel.specs.declared.action.Fences.{Fences}
use Rattle.clmodel.specs.declared.action.Instance.{Instance}
use Rattle.clmodel.specs.declared.fault.Fault.{Fault}
use Rattle.clmodel.specs.declared.fault.Fault.TheVariants as fault
use Rattle.clmodel.proofs.Steps.{some_inj, none_some, or_else_map}
use Rattle.same_launches.specs.Alike.{Freedom, is_free, AlikeNumbers, AlikeCells, AlikeFetches, AlikeOperations, AlikeActions, AlikeAnswers, has_free_answer, HadAlike}
use Rattle.same_launches.specs.Verdicts.{on_others}

-- ---- numbers and cells

pub weaker : (free kept : Bool) (m n : ℕ) → AlikeNumbers (free && kept) m n → AlikeNumbers free m n
weaker true kept m n h = tt
weaker false kept m n h = h

-- cells that are alike, byte by byte
abbrev pub AlikeAll : Bool → Cells → Cells → Type 0
AlikeAll free c d = (byte : ℕ) → AlikeCells free (c byte) (d byte)

joined_alike : (free : Bool) (a b c d : Option ℕ) → AlikeCells free a b → AlikeCells free c d → AlikeCells free (joined a c) (joined b d)
joined_alike free None None c d h k = tt
joined_alike free None (Some b) c d h k = absurd h
joined_alike free (Some a) None c d h k = absurd h
joined_alike free (Some a) (Some b) None None h k = tt
joined_alike free (Some a) (Some b) None (Some d) h k = absurd k
joined_alike free (Some a) (Some b) (Some c) None h k = absurd k
joined_alike true (Some a) (Some b) (Some c) (Some d) h k = tt
joined_alike false (Some a) (Some b) (Some c) (Some d) h k = ap₂ (λ x y. x + 256 * y) h k

number_alike : (free : Bool) (c d : Cells) (first count : ℕ) → AlikeAll free c d → AlikeCells free (number c first count) (number d first count)
number_alike true c d first zero h = tt
number_alike false c d first zero h = refl
number_alike free c d first (suc count) h = joined_alike free _ _ _ _ (h first) (number_alike free c d (suc first) count h)

unset_or_same : (free : Bool) (a b : Option ℕ) (byte : ℕ) (rest other : Option ℕ) → AlikeCells free a b → rest ≡ other → unset_or a byte rest ≡ unset_or b byte other
unset_or_same free None None byte rest other h e = refl
unset_or_same free None (Some b) byte rest other h e = absurd h
unset_or_same free (Some a) None byte rest other h e = absurd h
unset_or_same free (Some a) (Some b) byte rest other h e = e

pub unset_same : (free : Bool) (c d : Cells) (first count : ℕ) → AlikeAll free c d → lowest_unset c first count ≡ lowest_unset d first count
unset_same free c d first zero h = refl
unset_same free c d first (suc count) h = unset_or_same free (c first) (d first) first _ _ (h first) (unset_same free c d (suc first) count h)

covered_alike : (free inside : Bool) (m n : ℕ) (c d : Option ℕ) → AlikeNumbers free m n → AlikeCells free c d → AlikeCells free (if inside then Some m else c) (if inside then Some n else d)
covered_alike free true m n c d h k = h
covered_alike free false m n c d h k = k

byte_alike : (free : Bool) (k m n : ℕ) → AlikeNumbers free m n → AlikeNumbers free (byte_of k m) (byte_of k n)
byte_alike true k m n h = tt
byte_alike false k m n h = ap (byte_of k) h

written_alike : (free : Bool) (c d : Cells) (first count m n : ℕ) → AlikeAll free c d → AlikeNumbers free m n → AlikeAll free (written c first count m) (written d first count n)
unfolding written
written_alike free c d first count m n h k byte =
    covered_alike free (covers first count byte) _ _ _ _ (byte_alike free (byte - first) m n k) (h byte)

-- ---- operations

pub same_width : (uniform free : Bool) (f g : Operation) → AlikeOperations uniform free f g → width_of f ≡ width_of g
same_width uniform free (operation.Load a) (operation.Load b) h = h
same_width uniform free (operation.Store a m) (operation.Store b n) h = h.0
same_width uniform free (operation.Update c m) (operation.Update d n) h = refl
same_width uniform free (operation.Fetch c m) (operation.Fetch d n) h = refl
same_width uniform free _ _ h = absurd h

pub same_size : (uniform free : Bool) (f g : Operation) → AlikeOperations uniform free f g → size_of f ≡ size_of g
same_size uniform free f g h = ap byte_count (same_width uniform free f g h)

pub same_kind : (uniform free : Bool) (f g : Operation) → AlikeOperations uniform free f g → kind_of f ≡ kind_of g
same_kind uniform free (operation.Load a) (operation.Load b) h = refl
same_kind uniform free (operation.Store a m) (operation.Store b n) h = refl
same_kind uniform free (operation.Update c m) (operation.Update d n) h = ap kind_update h.0
  where
    kind_update : Class → AccessKind
    kind_update c = kind_of (operation.Update c 0)
same_kind uniform free (operation.Fetch c m) (operation.Fetch d n) h = refl
same_kind uniform free _ _ h = absurd h

pub same_reads : (uniform free : Bool) (f g : Operation) → AlikeOperations uniform free f g → reads f ≡ reads g
same_reads uniform free (operation.Load a) (operation.Load b) h = refl
same_reads uniform free (operation.Store a m) (operation.Store b n) h = refl
same_reads uniform free (operation.Update c m) (operation.Update d n) h = refl
same_reads uniform free (operation.Fetch c m) (operation.Fetch d n) h = refl
same_reads uniform free _ _ h = absurd h

-- in a uniform launch what is kept of a value is the same
kept_number : (uniform free : Bool) (m n : ℕ) → AlikeNumbers (free && not uniform) m n → AlikeNumbers (not uniform) m n
kept_number false free m n h = tt
kept_number true true m n h = h
kept_number true false m n h = h

pub same_value : (uniform free : Bool) (f g : Operation) → AlikeOperations uniform free f g → AlikeNumbers (not uniform) (value_of f) (value_of g)
same_value uniform free (operation.Load a) (operation.Load b) h = self uniform
  where
    self : (u : Bool) → AlikeNumbers (not u) 0 0
    self true = refl
    self false = tt
same_value uniform free (operation.Store a m) (operation.Store b n) h = kept_number uniform free m n h.1
same_value uniform free (operation.Update c m) (operation.Update d n) h = self uniform
  where
    self : (u : Bool) → AlikeNumbers (not u) 0 0
    self true = refl
    self false = tt
same_value uniform free (operation.Fetch c m) (operation.Fetch d n) h = self uniform
  where
    self : (u : Bool) → AlikeNumbers (not u) 0 0
    self true = refl
    self false = tt
same_value uniform free _ _ h = absurd h

-- what is found, where cells are alike
pub record AlikeFound (free : Bool) (g : Operation) (d : Cells) (first x : ℕ) : Type 0 where
  pub number : ℕ
  pub finds : found g d first ≡ Some number
  pub alike : AlikeNumbers free x number

found_some : (free : Bool) (g : Operation) (d : Cells) (first x : ℕ) (o p : Option ℕ) → o ≡ Some x → AlikeCells free o p → found g d first ≡ p → AlikeFound free g d first x
found_some free g d first x None p e h k = absurd (none_some x e)
found_some free g d first x (Some y) None e h k = absurd h
found_some free g d first x (Some y) (Some z) e h k = record { number = z; finds = k; alike = subst (λ v. AlikeNumbers free v z) (some_inj y x e) h }

pub found_alike : (uniform free : Bool) (f g : Operation) (c d : Cells) (first x : ℕ) → AlikeOperations uniform free f g → AlikeAll free c d → found f c first ≡ Some x → AlikeFound free g d first x
found_alike uniform free (operation.Load a) (operation.Load b) c d first x h k e =
    found_some free (operation.Load b) d first x _ _ e (number_alike free c d first (byte_count a) k) (ap (λ z. number d first (byte_count z)) (sym h))
found_alike uniform free (operation.Store a m) (operation.Store b n) c d first x h k e =
    record { number = x; finds = e; alike = self free x }
  where
    self : (u : Bool) (z : ℕ) → AlikeNumbers u z z
    self true z = tt
    self false z = refl
found_alike uniform free (operation.Update a m) (operation.Update b n) c d first x h k e =
    found_some free (operation.Update b n) d first x _ _ e (number_alike free c d first 4 k) refl
found_alike uniform free (operation.Fetch a m) (operation.Fetch b n) c d first x h k e =
    found_some free (operation.Fetch b n) d first x _ _ e (number_alike free c d first 4 k) refl
found_alike uniform free _ _ c d first x h k e = absurd h

fetched_same : (f g : FetchOp) (x y m n : ℕ) → AlikeFetches false f g → x ≡ y → m ≡ n → fetched f x m ≡ fetched g y n
fetched_same (fetch.Class c) (fetch.Class d) x y m n h e k = ap (λ z. updated_word z x m) h ∙ ap₂ (updated_word d) e k
fetched_same fetch.Exchange fetch.Exchange x y m n h e k = k
fetched_same (fetch.CompareExchange c) (fetch.CompareExchange d) x y m n h e k =
    ap (λ z. if x == z then m else x) h ∙ ap₂ (λ u v. if u == d then v else u) e k
fetched_same _ _ x y m n h e k = absurd h

fetched_alike : (free : Bool) (f g : FetchOp) (x y m n : ℕ) → AlikeFetches free f g → AlikeNumbers free x y → AlikeNumbers free m n → AlikeNumbers free (fetched f x m) (fetched g y n)
fetched_alike true f g x y m n h e k = tt
fetched_alike false f g x y m n h e k = fetched_same f g x y m n h e k

updated_alike : (free : Bool) (c d : Class) (x y m n : ℕ) → c ≡ d → AlikeNumbers free x y → AlikeNumbers free m n → AlikeNumbers free (updated_word c x m) (updated_word d y n)
updated_alike true c d x y m n h e k = tt
updated_alike false c d x y m n h e k = ap (λ z. updated_word z x m) h ∙ ap₂ (updated_word d) e k

pub effect_alike : (uniform free : Bool) (f g : Operation) (c d : Cells) (first x y : ℕ) → AlikeOperations uniform free f g → AlikeAll free c d → AlikeNumbers free x y
    → AlikeAll free (effect f x c first) (effect g y d first)
effect_alike uniform free (operation.Load a) (operation.Load b) c d first x y h k e = k
effect_alike uniform free (operation.Store a m) (operation.Store b n) c d first x y h k e =
    subst (λ z. AlikeAll free (written c first (byte_count a) m) (written d first (byte_count z) n)) h.0 (written_alike free c d first (byte_count a) m n k (weaker free (not uniform) m n h.1))
effect_alike uniform free (operation.Update a m) (operation.Update b n) c d first x y h k e =
    written_alike free c d first 4 _ _ k (updated_alike free a b x y m n h.0 e h.1)
effect_alike uniform free (operation.Fetch a m) (operation.Fetch b n) c d first x y h k e =
    written_alike free c d first 4 _ _ k (fetched_alike free a b x y m n h.0 e h.1)
effect_alike uniform free _ _ c d first x y h k e = absurd h

pub answer_alike : (uniform free : Bool) (f g : Operation) (x y : ℕ) → AlikeOperations uniform free f g → AlikeNumbers free x y → AlikeAnswers free (answer_to f x) (answer_to g y)
answer_alike uniform true f g x y h e = tt
answer_alike uniform false (operation.Load a) (operation.Load b) x y h e = ap Value e
answer_alike uniform false (operation.Store a m) (operation.Store b n) x y h e = refl
answer_alike uniform false (operation.Update a m) (operation.Update b n) x y h e = refl
answer_alike uniform false (operation.Fetch a m) (operation.Fetch b n) x y h e = ap Value e
answer_alike uniform false _ _ x y h e = absurd h

-- ---- actions

pub same_end : (w : Freedom) (a b : Action) → AlikeActions w a b → has_ended a ≡ has_ended b
same_end w (action.Access o e f) (action.Access p d g) h = refl
same_end w (action.Barrier i f) (action.Barrier j g) h = refl
same_end w action.End action.End h = refl
same_end w (action.Fault c) (action.Fault d) h = refl
same_end w _ _ h = absurd h

pub same_stop_of : (w : Freedom) (a b : Action) → AlikeActions w a b → stop_of a ≡ stop_of b
same_stop_of w (action.Access o e f) (action.Access p d g) h = refl
same_stop_of w (action.Barrier i f) (action.Barrier j g) h = ap (λ z. stop_of (action.Barrier z f)) h.0
same_stop_of w action.End action.End h = refl
same_stop_of w (action.Fault c) (action.Fault d) h = refl
same_stop_of w _ _ h = absurd h

pub like_access : (w : Freedom) (o : Object) (e : ℤ) (f : Operation) (b : Action) → AlikeActions w (action.Access o e f) b
    → (g : Operation) × (b ≡ action.Access o e g) × AlikeOperations w.uniform (is_free w o) f g
like_access w o e f (action.Access p d g) h = (g, ap₂ (λ x y. action.Access x y g) (sym h.0) (sym h.1), h.2)
like_access w o e f _ h = absurd h

pub like_barrier : (w : Freedom) (i : Instance) (f : Fences) (b : Action) → AlikeActions w (action.Barrier i f) b → b ≡ action.Barrier i f
like_barrier w i f (action.Barrier j g) h = ap₂ action.Barrier (sym h.0) (sym h.1)
like_barrier w i f _ h = absurd h

pub like_fault : (w : Freedom) (c : Cause) (b : Action) → AlikeActions w (action.Fault c) b → b ≡ action.Fault c
like_fault w c (action.Fault d) h = ap action.Fault (sym h)
like_fault w c _ h = absurd h

pub like_end : (w : Freedom) (b : Action) → AlikeActions w action.End b → b ≡ action.End
like_end w action.End h = refl
like_end w _ h = absurd h

-- one more answer
pub had_more : (w : Freedom) (next : List Answer → Action) (xs ys : List Answer) (x y : Answer) → HadAlike w next xs ys → AlikeAnswers (has_free_answer w (next xs)) x y
    → HadAlike w next (xs ++ x ∷ []) (ys ++ y ∷ [])
had_more w next [] [] x y h k = (k, tt)
had_more w next [] (b ∷ ys) x y h k = absurd h
had_more w next (a ∷ xs) [] x y h k = absurd h
had_more w next (a ∷ xs) (b ∷ ys) x y h k = (h.0, had_more w (λ rest. next (a ∷ rest)) xs ys x y h.1 k)

-- ---- accesses of a log

-- two accesses are one but for the value of a store, which is the same in a uniform launch
abbrev pub AlikeAccesses : Freedom → Access → Access → Type 0
AlikeAccesses w x y = (y ≡ record x { value = y.value }) × AlikeNumbers (not w.uniform) x.value y.value

abbrev pub AlikeLogs : Freedom → List Access → List Access → Type 0
AlikeLogs w [] [] = Unit {0}
AlikeLogs w (x ∷ xs) (y ∷ ys) = AlikeAccesses w x y × AlikeLogs w xs ys
AlikeLogs w _ _ = ⊥

pub logged_alike : (w : Freedom) (log other : List Access) (x : Access) → AlikeLogs w log other → Logged log x → (y : Access) × Logged other y × AlikeAccesses w x y
logged_alike w [] other x h k = absurd k
logged_alike w (z ∷ log) [] x h k = absurd h
logged_alike w (z ∷ log) (y ∷ other) x h (inl e) = (y, inl refl, subst (λ v. AlikeAccesses w v y) e h.0)
logged_alike w (z ∷ log) (y ∷ other) x h (inr k) = let r = logged_alike w log other x h.1 k in (r.0, inr r.1, r.2)

no_store : (a b c : Bool) → (a && false && b) ≡ (a && false && c)
no_store true b c = refl
no_store false b c = refl

between_same : (one_group uniform : Bool) (x y : Access) (u v byte : ℕ) → AlikeNumbers (not uniform) x.value u → AlikeNumbers (not uniform) y.value v
    → conflict_between (record { one_group = one_group; uniform = uniform }) x y byte ≡ conflict_between (record { one_group = one_group; uniform = uniform }) (record x { value = u }) (record y { value = v }) byte
unfolding conflict_between
between_same one_group true x y u v byte h k = ap₂ (λ a b. conflict_between (record { one_group = one_group; uniform = true }) (record x { value = a }) (record y { value = b }) byte) h k
between_same one_group false x y u v byte h k =
    ap (λ z. if unordered (record { one_group = one_group; uniform = false }) x y && share x y byte then (if z then None else clash x.kind y.kind) else None)
    (no_store (both_store x.kind y.kind) (left_at x byte == left_at y byte) (left_at (record x { value = u }) byte == left_at (record y { value = v }) byte))

module _ (w : Freedom) (launch : Launch) (buffers : List (List ℕ)) (next : ℕ → List Answer → Action) (uniform : w.uniform ≡ launch.uniform) where
  abbrev pub other : Launch
  other = on_others launch buffers next

  -- how two accesses conflict
  pub conflict_same : (x y z u : Access) (byte : ℕ) → AlikeAccesses w x z → AlikeAccesses w y u → conflict launch x y byte ≡ conflict other z u byte
  unfolding conflict
  conflict_same x y z u byte h k =
      between_same _ launch.uniform x y z.value u.value byte (subst (λ b. AlikeNumbers (not b) x.value z.value) uniform h.1) (subst (λ b. AlikeNumbers (not b) y.value u.value) uniform k.1)
      ∙ ap₂ (λ a b. conflict other a b byte) (sym h.0) (sym k.0)

  -- a conflict as a fault, if there is one
  abbrev pub told : Option conflict_type.Conflict → Option Fault
  told o = option_map (conflict_fault launch) o

  clash_told : (x y z u : Access) (byte : ℕ) (o p : Option Clash) → AlikeAccesses w x z → AlikeAccesses w y u → o ≡ p
      → told (option_map (λ clash. record { earlier = y; later = x; byte = byte; clash = clash }) o) ≡ told (option_map (λ clash. record { earlier = u; later = z; byte = byte; clash = clash }) p)
  clash_told x y z u byte o p h k e =
      ap (λ q. told (option_map (λ clash. record { earlier = y; later = x; byte = byte; clash = clash }) q)) e ∙ moved p
    where
      moved : (p : Option Clash) → told (option_map (λ clash. record { earlier = y; later = x; byte = byte; clash = clash }) p) ≡ told (option_map (λ clash. record { earlier = u; later = z; byte = byte; clash = clash }) p)
      moved None = refl
      moved (Some c) = ap₂ (λ a b. Some (fault.Conflict c b.item b.kind a.item a.kind (location_of launch b.region) byte)) (sym h.0) (sym k.0)

  told_or : (a b c d : Option conflict_type.Conflict) → told a ≡ told b → told c ≡ told d → told (or_else a c) ≡ told (or_else b d)
  told_or a b c d e f = or_else_map (conflict_fault launch) a c ∙ ap₂ or_else e f ∙ sym (or_else_map (conflict_fault launch) b d)

  on_told : (x z : Access) (byte : ℕ) (log others : List Access) → AlikeAccesses w x z → AlikeLogs w log others → told (conflict_on (conflict launch) x byte log) ≡ told (conflict_on (conflict other) z byte others)
  on_told x z byte [] [] h k = refl
  on_told x z byte [] (u ∷ others) h k = absurd k
  on_told x z byte (y ∷ log) [] h k = absurd k
  on_told x z byte (y ∷ log) (u ∷ others) h k =
      told_or _ _ _ _ (on_told x z byte log others h k.1) (clash_told x y z u byte _ _ h k.0 (conflict_same y x u z byte k.0 h))

  from_told : (x z : Access) (log others : List Access) (byte count : ℕ) → AlikeAccesses w x z → AlikeLogs w log others
      → told (conflict_from (conflict launch) x log byte count) ≡ told (conflict_from (conflict other) z others byte count)
  from_told x z log others byte zero h k = refl
  from_told x z log others byte (suc count) h k = told_or _ _ _ _ (on_told x z byte log others h k) (from_told x z log others (suc byte) count h k)

  pub newest_told : (log others : List Access) → AlikeLogs w log others → told (newest_conflict launch log) ≡ told (newest_conflict other others)
  newest_told [] [] k = refl
  newest_told [] (u ∷ others) k = absurd k
  newest_told (x ∷ log) [] k = absurd k
  newest_told (x ∷ log) (z ∷ others) k =
      from_told x z log others x.first (byte_count x.width) k.0 k.1
      ∙ ap₂ (λ a b. told (conflict_from (conflict other) z others a (byte_count b))) (ap (λ y. y.first) (sym k.0.0)) (ap (λ y. y.width) (sym k.0.0))
