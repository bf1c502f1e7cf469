-- Three parts joined: in which order two neighbours are joined makes no difference.
use Rattle.std.proofs.Common.{◌≡◌, ℕ, ◌+◌, ◌-◌, ◌*◌, ◌<◌, Bool, true, false, Some, refl, sym, ap, ap₂, ◌∙◌, subst, arith, ◌⊎◌, ⊎_elim, inl, inr, ◌||◌, List, [], ◌∷◌, ◌++◌, append_assoc}
use Rattle.std.proofs.lemmas.Option.{same_Some}
use Rattle.std.proofs.Math.Path.{fun_ext}
use Rattle.clmodel.specs.Cells.{Cells, number, byte_of, updated_word}
use Rattle.clmodel.specs.Launch.{Launch}
use Rattle.clmodel.specs.Run.{Memory, initial}
use Rattle.clmodel.specs.declared.access.Access.{Access}
use Rattle.clmodel.specs.declared.access.Class.{Class}
use Rattle.clmodel.specs.declared.access.Region.{Region}
use Rattle.clmodel.proofs.CellLaws as laws
use Rattle.clmodel.proofs.CellLaws.{covers_parts, covers_from, written_in}
use Rattle.clmodel.proofs.Logs.{logged_append}
use Rattle.joining.specs.Memory.{wrote, joined_memory}
use Rattle.joining.proofs.Words.{Updated}
use Rattle.joining.proofs.Over.{OnlyStores, OnlyUpdates, some_operand, wrote_append}
use Rattle.joining_runs.proofs.Layers.{Layer, Apart, BothStored, BothUpdated, both, updates_below, updates_above, stores_below, stores_above, skips, alone, stored, joined_word, wrote_both, fit_both}

-- the same operands leave the same bytes
word_same : (c d : Cells) (word : ℕ) → ((k : ℕ) → k < 4 → c (word + k) ≡ d (word + k)) → number c word 4 ≡ number d word 4
word_same c d word same =
    laws.number_frame c d word 4 (λ byte h. let p = (covers_parts word 4 byte h).0 in let q = (covers_parts word 4 byte h).1 in let e : word + (byte - word) ≡ byte = omega arith in subst (λ z. c z ≡ d z) e (same (byte - word) (omega arith)))

same_updated : (c : Class) (vs : List ℕ) (old new other : Cells) (word : ℕ) → Updated c vs old new word → Updated c vs old other word → (k : ℕ) → k < 4 → new (word + k) ≡ other (word + k)
same_updated c [] old new other word u w k b = u k b ∙ sym (w k b)
same_updated c (v ∷ vs) old new other word u w k b =
    let x : u.1 ≡ w.1 = same_Some _ _ (sym u.3 ∙ word_same u.0 w.0 word (same_updated c vs old u.0 w.0 word u.2 w.2) ∙ w.3) in
    let in_it = covers_from word 4 (word + k) (omega arith) (omega (arith, b)) in
    u.4 k b ∙ written_in u.0 word 4 (updated_word c u.1 v) (word + k) in_it
    ∙ ap (λ z. Some (byte_of (word + k - word) (updated_word c z v))) x
    ∙ sym (w.4 k b ∙ written_in w.0 word 4 (updated_word c w.1 v) (word + k) in_it)

-- a word at which all accesses of three logs are updates of one class
pub record OneClass (a b d : List Access) (p : Region) (byte : ℕ) : Type 0 where
  pub c : Class
  pub n : ℕ
  pub k : ℕ
  pub at : byte ≡ n * 4 + k
  pub small : k < 4
  pub first : OnlyUpdates c a p (n * 4)
  pub second : OnlyUpdates c b p (n * 4)
  pub third : OnlyUpdates c d p (n * 4)

-- a byte at which all accesses of three logs are stores
pub record AllStores (a b d : List Access) (p : Region) (byte : ℕ) : Type 0 where
  pub first : OnlyStores a p byte
  pub second : OnlyStores b p byte
  pub third : OnlyStores d p byte

abbrev Settled : List Access → List Access → List Access → Region → ℕ → Type 0
Settled a b d p byte = AllStores a b d p byte ⊎ OneClass a b d p byte

-- three parts, each of other groups, none of whose accesses conflict
pub record Three (l : Launch) (a b d : List Access) (m n o : Memory) : Type 0 where
  pub one : Layer l a m
  pub two : Layer l b n
  pub three : Layer l d o
  pub one_two : Apart l a b
  pub one_three : Apart l a d
  pub two_three : Apart l b d

by_first : (l : Launch) (a b d : List Access) (m n o : Memory) → Three l a b d m n o → (p : Region) (byte : ℕ) → BothStored a b p byte ⊎ BothUpdated a b p byte → Settled a b d p byte
by_first l a b d m n o t p byte (inl s) = inl (record {
  first = stores_below l a b t.one_two p byte s.x s.x_there s.x_is s.x_at;
  second = stores_above l a b t.one_two p byte s.y s.y_there s.y_is s.y_at;
  third = stores_above l b d t.two_three p byte s.x s.x_there s.x_is s.x_at;
})
by_first l a b d m n o t p byte (inr w) = inr (record {
  c = w.c;
  n = w.n;
  k = w.k;
  at = w.at;
  small = w.small;
  first = updates_below l a b t.one_two w.c p w.n w.k w.x w.x_there (t.two.fit w.x w.x_there) w.x_is w.small w.x_at;
  second = updates_above l a b t.one_two w.c p w.n w.k w.y w.y_there (t.one.fit w.y w.y_there) w.y_is w.small w.y_at;
  third = updates_above l b d t.two_three w.c p w.n w.k w.x w.x_there (t.two.fit w.x w.x_there) w.x_is w.small w.x_at;
})

by_ends : (l : Launch) (a b d : List Access) (m n o : Memory) → Three l a b d m n o → (p : Region) (byte : ℕ) → BothStored a d p byte ⊎ BothUpdated a d p byte → Settled a b d p byte
by_ends l a b d m n o t p byte (inl s) = inl (record {
  first = stores_below l a d t.one_three p byte s.x s.x_there s.x_is s.x_at;
  second = stores_below l b d t.two_three p byte s.x s.x_there s.x_is s.x_at;
  third = stores_above l a d t.one_three p byte s.y s.y_there s.y_is s.y_at;
})
by_ends l a b d m n o t p byte (inr w) = inr (record {
  c = w.c;
  n = w.n;
  k = w.k;
  at = w.at;
  small = w.small;
  first = updates_below l a d t.one_three w.c p w.n w.k w.x w.x_there (t.three.fit w.x w.x_there) w.x_is w.small w.x_at;
  second = updates_below l b d t.two_three w.c p w.n w.k w.x w.x_there (t.three.fit w.x w.x_there) w.x_is w.small w.x_at;
  third = updates_above l a d t.one_three w.c p w.n w.k w.y w.y_there (t.one.fit w.y w.y_there) w.y_is w.small w.y_at;
})

by_last : (l : Launch) (a b d : List Access) (m n o : Memory) → Three l a b d m n o → (p : Region) (byte : ℕ) → BothStored b d p byte ⊎ BothUpdated b d p byte → Settled a b d p byte
by_last l a b d m n o t p byte (inl s) = inl (record {
  first = stores_below l a d t.one_three p byte s.x s.x_there s.x_is s.x_at;
  second = stores_below l b d t.two_three p byte s.x s.x_there s.x_is s.x_at;
  third = stores_above l b d t.two_three p byte s.y s.y_there s.y_is s.y_at;
})
by_last l a b d m n o t p byte (inr w) = inr (record {
  c = w.c;
  n = w.n;
  k = w.k;
  at = w.at;
  small = w.small;
  first = updates_below l a d t.one_three w.c p w.n w.k w.x w.x_there (t.three.fit w.x w.x_there) w.x_is w.small w.x_at;
  second = updates_below l b d t.two_three w.c p w.n w.k w.x w.x_there (t.three.fit w.x w.x_there) w.x_is w.small w.x_at;
  third = updates_above l b d t.two_three w.c p w.n w.k w.y w.y_there (t.two.fit w.y w.y_there) w.y_is w.small w.y_at;
})

-- the first two joined before the third, and the last two before the first
abbrev pub left_first : Launch → List Access → List Access → List Access → Memory → Memory → Memory → Memory
left_first l a b d m n o = joined_memory (initial l) (joined_memory (initial l) m a n b) (b ++ a) o d

abbrev pub right_first : Launch → List Access → List Access → List Access → Memory → Memory → Memory → Memory
right_first l a b d m n o = joined_memory (initial l) m a (joined_memory (initial l) n b o d) (d ++ b)

-- a byte of a word that all updated
same_word : (l : Launch) (a b d : List Access) (m n o : Memory) → Three l a b d m n o → (p : Region) (byte : ℕ) → OneClass a b d p byte
    → left_first l a b d m n o p byte ≡ right_first l a b d m n o p byte
same_word l a b d m n o t p byte w = subst (λ z. left_first l a b d m n o p z ≡ right_first l a b d m n o p z) (sym w.at) (same_updated w.c (h.0 ++ (g.0 ++ f.0)) (initial l p) (left_first l a b d m n o p) (right_first l a b d m n o p) (w.n * 4) left right w.k w.small)
  where
    f : (us : List ℕ) × Updated w.c us (initial l p) (m p) (w.n * 4) × (wrote a p (w.n * 4) ≡ some_operand us)
    f = t.one.folds w.c p w.n w.first

    g : (us : List ℕ) × Updated w.c us (initial l p) (n p) (w.n * 4) × (wrote b p (w.n * 4) ≡ some_operand us)
    g = t.two.folds w.c p w.n w.second

    h : (us : List ℕ) × Updated w.c us (initial l p) (o p) (w.n * 4) × (wrote d p (w.n * 4) ≡ some_operand us)
    h = t.three.folds w.c p w.n w.third

    lower : OnlyUpdates w.c (b ++ a) p (w.n * 4)
    lower e i j small at = ⊎_elim (λ q. w.second e q j small at) (λ q. w.first e q j small at) (logged_append b a e i)

    upper : OnlyUpdates w.c (d ++ b) p (w.n * 4)
    upper e i j small at = ⊎_elim (λ q. w.third e q j small at) (λ q. w.second e q j small at) (logged_append d b e i)

    left : Updated w.c (h.0 ++ (g.0 ++ f.0)) (initial l p) (left_first l a b d m n o p) (w.n * 4)
    left = joined_word l w.c p w.n (b ++ a) d (joined_memory (initial l) m a n b) o (g.0 ++ f.0) h.0 (fit_both a b t.one.fit t.two.fit) t.three.fit lower w.third
        (joined_word l w.c p w.n a b m n f.0 g.0 t.one.fit t.two.fit w.first w.second f.1 f.2 g.1 g.2) (wrote_both a b p (w.n * 4) f.0 g.0 f.2 g.2) h.1 h.2

    right : Updated w.c (h.0 ++ (g.0 ++ f.0)) (initial l p) (right_first l a b d m n o p) (w.n * 4)
    right = subst (λ ws. Updated w.c ws (initial l p) (right_first l a b d m n o p) (w.n * 4)) (append_assoc h.0 g.0 f.0)
        (joined_word l w.c p w.n a (d ++ b) m (joined_memory (initial l) n b o d) f.0 (h.0 ++ g.0) t.one.fit (fit_both b d t.two.fit t.three.fit) w.first upper f.1 f.2
        (joined_word l w.c p w.n b d n o g.0 h.0 t.two.fit t.three.fit w.second w.third g.1 g.2 h.1 h.2) (wrote_both b d p (w.n * 4) g.0 h.0 g.2 h.2))

-- a byte at which all stored, the third of them or the second
upper_stores : (b d : List Access) (p : Region) (byte : ℕ) → OnlyStores b p byte → OnlyStores d p byte → OnlyStores (d ++ b) p byte
upper_stores b d p byte two three e i at = ⊎_elim (λ q. three e q at) (λ q. two e q at) (logged_append d b e i)

third_stored : (l : Launch) (a b d : List Access) (m n o : Memory) (p : Region) (byte : ℕ) → AllStores a b d p byte → wrote d p byte ≡ true
    → left_first l a b d m n o p byte ≡ right_first l a b d m n o p byte
third_stored l a b d m n o p byte s h =
    stored (initial l) (joined_memory (initial l) m a n b) o (b ++ a) d p byte s.third h
    ∙ sym (stored (initial l) m (joined_memory (initial l) n b o d) a (d ++ b) p byte (upper_stores b d p byte s.second s.third)
    (wrote_append d b p byte ∙ ap (λ x. x || wrote b p byte) h)
    ∙ stored (initial l) n o b d p byte s.third h)

second_stored : (l : Launch) (a b d : List Access) (m n o : Memory) (p : Region) (byte : ℕ) → AllStores a b d p byte → wrote d p byte ≡ false → wrote b p byte ≡ true
    → left_first l a b d m n o p byte ≡ right_first l a b d m n o p byte
second_stored l a b d m n o p byte s h k =
    skips (initial l) (joined_memory (initial l) m a n b) o (b ++ a) d p byte h ∙ stored (initial l) m n a b p byte s.second k
    ∙ sym (stored (initial l) m (joined_memory (initial l) n b o d) a (d ++ b) p byte (upper_stores b d p byte s.second s.third)
    (wrote_append d b p byte ∙ ap₂ (λ x y. x || y) h k)
    ∙ skips (initial l) n o b d p byte h)

abbrev SameAt : Launch → List Access → List Access → List Access → Memory → Memory → Memory → Region → ℕ → Type 0
SameAt l a b d m n o p byte = left_first l a b d m n o p byte ≡ right_first l a b d m n o p byte

pub three_joined : (l : Launch) (a b d : List Access) (m n o : Memory) → Three l a b d m n o → left_first l a b d m n o ≡ right_first l a b d m n o
three_joined l a b d m n o t = fun_ext (λ p. fun_ext (λ byte. go p byte (wrote a p byte) refl (wrote b p byte) refl (wrote d p byte) refl))
  where
    third : (p : Region) (byte : ℕ) → wrote d p byte ≡ true → Settled a b d p byte → SameAt l a b d m n o p byte
    third p byte h (inl s) = third_stored l a b d m n o p byte s h
    third p byte h (inr w) = same_word l a b d m n o t p byte w

    second : (p : Region) (byte : ℕ) → wrote d p byte ≡ false → wrote b p byte ≡ true → Settled a b d p byte → SameAt l a b d m n o p byte
    second p byte h k (inl s) = second_stored l a b d m n o p byte s h k
    second p byte h k (inr w) = same_word l a b d m n o t p byte w

    go : (p : Region) (byte : ℕ) (x : Bool) → wrote a p byte ≡ x → (y : Bool) → wrote b p byte ≡ y → (z : Bool) → wrote d p byte ≡ z → SameAt l a b d m n o p byte
    go p byte x i false j false k =
        skips (initial l) (joined_memory (initial l) m a n b) o (b ++ a) d p byte k ∙ skips (initial l) m n a b p byte j
        ∙ sym (skips (initial l) m (joined_memory (initial l) n b o d) a (d ++ b) p byte (wrote_append d b p byte ∙ ap₂ (λ u v. u || v) k j))
    go p byte false i true j false k =
        skips (initial l) (joined_memory (initial l) m a n b) o (b ++ a) d p byte k ∙ alone (initial l) m n a b p byte j i
        ∙ sym (alone (initial l) m (joined_memory (initial l) n b o d) a (d ++ b) p byte (wrote_append d b p byte ∙ ap₂ (λ u v. u || v) k j) i
        ∙ skips (initial l) n o b d p byte k)
    go p byte false i false j true k =
        alone (initial l) (joined_memory (initial l) m a n b) o (b ++ a) d p byte k (wrote_append b a p byte ∙ ap₂ (λ u v. u || v) j i)
        ∙ sym (alone (initial l) m (joined_memory (initial l) n b o d) a (d ++ b) p byte (wrote_append d b p byte ∙ ap₂ (λ u v. u || v) k j) i
        ∙ alone (initial l) n o b d p byte k j)
    go p byte true i true j false k = second p byte k j (by_first l a b d m n o t p byte (both l a b t.one_two t.two.fit p byte i j))
    go p byte true i true j true k = third p byte k (by_first l a b d m n o t p byte (both l a b t.one_two t.two.fit p byte i j))
    go p byte true i false j true k = third p byte k (by_ends l a b d m n o t p byte (both l a d t.one_three t.three.fit p byte i k))
    go p byte false i true j true k = third p byte k (by_last l a b d m n o t p byte (both l b d t.two_three t.three.fit p byte j k))
