-- Marks of buffers in a table, and walks along notes.
use Rattle.std.proofs.Common.{◌≡◌, ◌⊎◌, inl, inr, ℕ, ◌+◌, ◌≤◌, Bool, true, false, not, cond, ◌&&◌, ◌||◌, Option, None, Some, is_some, List, [], ◌∷◌, ◌++◌, length, drop, get_or, replicate, refl, ap, sym, ◌∙◌, subst, arith, append_assoc}
use Rattle.std.proofs.lemmas.Bool.{false≢true, and_parts, or_cases, or_right}
use Rattle.std.proofs.lemmas.List.{append-nil, drop-drop, drop_all, get_or-drop}
use Rattle.std.specs.List.{list_any}
use Rattle.std.specs.Map.{set_value}
use Rattle.std.specs.Option.{unwrap_or, option_map}
use Rattle.spaces.specs.Tables.{Table, is, find}
use Rattle.widening.specs.Widened.{is_free_at}
use Rattle.wide_scripts.specs.Notes.{Includes, IsWalk, Taint, are_free, behind, is_free_name, may_pass, may_read, no_taint}
use Rattle.wide_scripts.specs.declared.note.Note.{Note}
use Rattle.wide_scripts.specs.declared.note.Note.TheVariants as note
use lib.Pointwise.{bytes_decides}

-- ---- a table with a value at a name

same_truth : (a b : Bool) → (a ≡ true → b ≡ true) → (b ≡ true → a ≡ true) → a ≡ b
same_truth true b there back = sym (there refl)
same_truth false true there back = back refl
same_truth false false there back = refl

either_way : (x y : List ℕ) → is x y ≡ is y x
either_way x y =
    same_truth (is x y) (is y x) (λ h. (bytes_decides y x).1 (sym ((bytes_decides x y).0 h))) (λ h. (bytes_decides x y).1 (sym ((bytes_decides y x).0 h)))

-- where one of two names is a third, the other is that third exactly where it is the first
as_the_first : (name key other : List ℕ) → is name key ≡ true → is other key ≡ is name other
as_the_first name key other here =
    ap (is other) (sym ((bytes_decides name key).0 here)) ∙ either_way other name

-- and where a name isn't a key, what is that key isn't the name
not_the_first : (name key other : List ℕ) → is name key ≡ false → is other key ≡ true → is name other ≡ false
not_the_first name key other apart here = ap (is name) ((bytes_decides other key).0 here) ∙ apart

pub found_set : {A : Type 0} (table : Table A) (name other : List ℕ) (value : A) → is_some (find table name) ≡ true
    → find (set_value (is name) table value) other ≡ cond (is name other) (Some value) (find table other)
found_set [] name other value there = absurd (false≢true there)
found_set {A} (e ∷ es) name other value there = by (is name e.0) refl there (λ more. found_set es name other value more)
  where
    apart : (b : Bool) → is other e.0 ≡ b → is name e.0 ≡ false → find (set_value (is name) es value) other ≡ cond (is name other) (Some value) (find es other)
        → cond b (Some e.1) (find (set_value (is name) es value) other) ≡ cond (is name other) (Some value) (cond b (Some e.1) (find es other))
    apart true here differs rest = ap (λ t. cond t (Some value) (Some e.1)) (sym (not_the_first name e.0 other differs here))
    apart false here differs rest = rest

    same : (b : Bool) → b ≡ is name other → cond b (Some value) (find es other) ≡ cond (is name other) (Some value) (cond b (Some e.1) (find es other))
    same true is_other = ap (λ t. cond t (Some value) (Some e.1)) is_other
    same false is_other = ap (λ t. cond t (Some value) (find es other)) is_other

    by : (b : Bool) → is name e.0 ≡ b → is_some (cond b (Some e.1) (find es name)) ≡ true
        → (is_some (find es name) ≡ true → find (set_value (is name) es value) other ≡ cond (is name other) (Some value) (find es other))
        → find (cond b ((e.0, value) ∷ es) (e ∷ set_value (is name) es value)) other ≡ cond (is name other) (Some value) (cond (is other e.0) (Some e.1) (find es other))
    by true here more rest = same (is other e.0) (as_the_first name e.0 other here)
    by false differs more rest = apart (is other e.0) refl differs (rest more)

pub found_added : {A : Type 0} (table : Table A) (name other : List ℕ) (value : A) → is_some (find table name) ≡ false
    → find (table ++ (name, value) ∷ []) other ≡ cond (is name other) (Some value) (find table other)
found_added [] name other value none = ap (λ t. cond t (Some value) None) (either_way other name)
found_added {A} (e ∷ es) name other value none = by (is name e.0) refl none (λ more. found_added es name other value more)
  where
    apart : (b : Bool) → is other e.0 ≡ b → is name e.0 ≡ false → find (es ++ (name, value) ∷ []) other ≡ cond (is name other) (Some value) (find es other)
        → cond b (Some e.1) (find (es ++ (name, value) ∷ []) other) ≡ cond (is name other) (Some value) (cond b (Some e.1) (find es other))
    apart true here differs rest = ap (λ t. cond t (Some value) (Some e.1)) (sym (not_the_first name e.0 other differs here))
    apart false here differs rest = rest

    by : (b : Bool) → is name e.0 ≡ b → is_some (cond b (Some e.1) (find es name)) ≡ false
        → (is_some (find es name) ≡ false → find (es ++ (name, value) ∷ []) other ≡ cond (is name other) (Some value) (find es other))
        → cond (is other e.0) (Some e.1) (find (es ++ (name, value) ∷ []) other) ≡ cond (is name other) (Some value) (cond (is other e.0) (Some e.1) (find es other))
    by true here more rest = absurd (false≢true (sym more))
    by false differs more rest = apart (is other e.0) refl differs (rest more)

pub is_some_mapped : {A B : Type 0} (o : Option A) (f : A → B) → is_some (option_map f o) ≡ is_some o
is_some_mapped None f = refl
is_some_mapped (Some a) f = refl

-- ---- marks

pub is_marked : (b : Bool) (before after : Option Bool) → after ≡ cond b (Some true) before → (b || unwrap_or before false) ≡ true → unwrap_or after false ≡ true
is_marked true before after put h = ap (λ o. unwrap_or o false) put
is_marked false before after put h = ap (λ o. unwrap_or o false) put ∙ h

pub is_unmarked : (b : Bool) (before after : Option Bool) → after ≡ cond b (Some false) before → (not b && unwrap_or before false) ≡ true → unwrap_or after false ≡ true
is_unmarked true before after put h = absurd (false≢true h)
is_unmarked false before after put h = ap (λ o. unwrap_or o false) put ∙ h

-- ---- a launch's buffers, one by one

drop_one : (free : List Bool) (i : ℕ) → drop 1 (drop i free) ≡ drop (i + 1) free
drop_one free i = drop-drop 1 i free

first_of : (free : List Bool) (i : ℕ) → is_free_at (drop i free) 0 ≡ is_free_at free i
first_of free i = get_or-drop i free 0 false ∙ ap (λ k. get_or free k false) (omega arith)

pub one_let : (taint : Taint) (names : List (List ℕ)) (free : List Bool) (i : ℕ) (name : List ℕ) → drop i names ≡ name ∷ drop (i + 1) names → (not (taint name) || is_free_at free i) ≡ true
    → are_free taint (drop i names) (drop i free) ≡ are_free taint (drop (i + 1) names) (drop (i + 1) free)
one_let taint names free i name here lets =
    ap (λ ns. are_free taint ns (drop i free)) here
    ∙ ap (λ b. b && are_free taint (drop (i + 1) names) (drop 1 (drop i free))) (ap (λ b. not (taint name) || b) (first_of free i) ∙ lets)
    ∙ ap (are_free taint (drop (i + 1) names)) (drop_one free i)

-- where none has a mark, all may be passed
pub none_bars : (taint : Taint) (names : List (List ℕ)) (free : List Bool) → list_any taint names ≡ false → are_free taint names free ≡ true
none_bars taint [] free none = refl
none_bars taint (name ∷ names) free none = by (taint name) none (λ rest. none_bars taint names (drop 1 free) rest)
  where
    by : (b : Bool) → (b || list_any taint names) ≡ false → (list_any taint names ≡ false → are_free taint names (drop 1 free) ≡ true)
        → ((not b || is_free_at free 0) && are_free taint names (drop 1 free)) ≡ true
    by true none rest = absurd (false≢true (sym none))
    by false none rest = rest none

-- marks that were set before the place of a name, and that of the name
pub one_marked : (names : List (List ℕ)) (free : List Bool) (i : ℕ) (name other : List ℕ) (old new : Taint) → drop i names ≡ name ∷ drop (i + 1) names
    → (old other ≡ true → new other ≡ true) → (is_free_at free i ≡ true → is name other ≡ true → new other ≡ true)
    → (old other ≡ true) ⊎ (is_free_name (drop i names) (drop i free) other ≡ true)
    → (new other ≡ true) ⊎ (is_free_name (drop (i + 1) names) (drop (i + 1) free) other ≡ true)
one_marked names free i name other old new here kept marks (inl had) = inl (kept had)
one_marked names free i name other old new here kept marks (inr rest) =
    by (or_cases (is_free_at (drop i free) 0 && is name other) (is_free_name (drop (i + 1) names) (drop 1 (drop i free)) other)
    (sym (ap (λ ns. is_free_name ns (drop i free) other) here) ∙ rest))
  where
    by : ((is_free_at (drop i free) 0 && is name other) ≡ true) ⊎ (is_free_name (drop (i + 1) names) (drop 1 (drop i free)) other ≡ true)
        → (new other ≡ true) ⊎ (is_free_name (drop (i + 1) names) (drop (i + 1) free) other ≡ true)
    by (inl now) = let both = and_parts (is_free_at (drop i free) 0) (is name other) now in inl (marks (sym (first_of free i) ∙ both.0) both.1)
    by (inr later) = inr (sym (ap (λ f. is_free_name (drop (i + 1) names) f other) (drop_one free i)) ∙ later)

-- behind the last name
pub all_marked : (names : List (List ℕ)) (free : List Bool) (i : ℕ) (other : List ℕ) (old new : Taint) → length names ≤ i → (old other ≡ true → new other ≡ true)
    → (is_free_name names free other ≡ true → (new other ≡ true) ⊎ (is_free_name (drop i names) (drop i free) other ≡ true))
    → (is_free_name names free other || old other) ≡ true → new other ≡ true
all_marked names free i other old new all kept rest h = by (or_cases (is_free_name names free other) (old other) h)
  where
    last : (new other ≡ true) ⊎ (is_free_name (drop i names) (drop i free) other ≡ true) → new other ≡ true
    last (inl had) = had
    last (inr none) = absurd (false≢true (sym (ap (λ ns. is_free_name ns (drop i free) other) (drop_all i names all)) ∙ none))

    by : (is_free_name names free other ≡ true) ⊎ (old other ≡ true) → new other ≡ true
    by (inl freed) = last (rest freed)
    by (inr had) = kept had

pub fewer : (a b m : Bool) → ((a && b) || m) ≡ true → (b || m) ≡ true
fewer true b m h = h
fewer false b m h = or_right b m h

-- ---- walks

-- a walk goes on from here to the end
abbrev pub Goes : (now : Taint) (notes : List Note) (free reads : List Bool) → ℕ → Type 0
Goes now notes free reads i = (rest : List Bool) → IsWalk now (drop i notes) (drop i free) rest → IsWalk no_taint notes free (reads ++ rest)

pub goes_more : (now after : Taint) (notes : List Note) (free reads : List Bool) (i : ℕ) (n : Note) (read : Bool) → drop i notes ≡ n ∷ drop (i + 1) notes → may_pass now n ≡ true
    → read ≡ may_read now n → Includes after (behind (is_free_at free i) n now) → Goes now notes free reads i → Goes after notes free (reads ++ read ∷ []) (i + 1)
goes_more now after notes free reads i n read here pass reading includes goes rest walk =
    subst (IsWalk no_taint notes free) (sym (append_assoc reads (read ∷ []) rest))
    (goes (read ∷ rest)
    (subst (λ ns. IsWalk now ns (drop i free) (read ∷ rest)) (sym here)
    (pass, λ h. reading ∙ h, after, subst (λ b. Includes after (behind b n now)) (sym (first_of free i)) includes, subst (λ f. IsWalk after (drop (i + 1) notes) f rest) (sym (drop_one free i)) walk)))

pub goes_to_end : (now : Taint) (notes : List Note) (free reads : List Bool) (i : ℕ) → length notes ≤ i → Goes now notes free reads i → IsWalk no_taint notes free reads
goes_to_end now notes free reads i all goes =
    subst (IsWalk no_taint notes free) (append-nil reads) (goes [] (subst (λ ns. IsWalk now ns (drop i free) []) (sym (drop_all i notes all)) tt))

none_read : (n : Note) → may_read no_taint n ≡ true → false ≡ true
none_read note.Other h = h
none_read (note.Made buffer) h = h
none_read (note.Put buffer) h = h
none_read (note.Copied source target) h = h
none_read (note.Read buffer) h = h
none_read (note.Launched buffers wide) h = h

no_marks : (names : List (List ℕ)) → list_any no_taint names ≡ false
no_marks [] = refl
no_marks (name ∷ names) = no_marks names

none_passed : (n : Note) → may_pass no_taint n ≡ true
none_passed note.Other = refl
none_passed (note.Made buffer) = refl
none_passed (note.Put buffer) = refl
none_passed (note.Copied source target) = refl
none_passed (note.Read buffer) = refl
none_passed (note.Launched buffers wide) = none_bars no_taint buffers.items wide.buffers.items (no_marks buffers.items)

none_behind : (n : Note) (name : List ℕ) → behind false n no_taint name ≡ true → false ≡ true
none_behind note.Other name h = h
none_behind (note.Made buffer) name h = (and_parts (not (is buffer name)) false h).1
none_behind (note.Put buffer) name h = h
none_behind (note.Copied source target) name h = h
none_behind (note.Read buffer) name h = h
none_behind (note.Launched buffers wide) name h =
    sym (ap (λ b. (b && is_free_name buffers.items wide.buffers.items name) || false) (no_marks buffers.items)) ∙ h

-- where nothing is free, nothing differs
plain : (notes : List Note) → IsWalk no_taint notes [] (replicate (length notes) false)
plain [] = tt
plain (n ∷ ns) = (none_passed n, none_read n, no_taint, none_behind n, plain ns)

pub plain_walk : (notes : List Note) (reads : List Bool) → reads ≡ replicate (length notes) false → IsWalk no_taint notes [] reads
plain_walk notes reads are = subst (IsWalk no_taint notes []) (sym are) (plain notes)
