-- How writes and their failures come one after another.
use Rattle.std.proofs.Common.{◌≡◌, ℕ, ◌+◌, ◌-◌, ◌<◌, ◌≤◌, List, [], ◌∷◌, ◌++◌, length, take, drop, get_or, Option, None, Some, Result, Ok, Err, refl, ap, sym, ◌∙◌, append_assoc, arith, length-drop, subst}
use Rattle.std.proofs.lemmas.List.{append-nil, take_more, take_all, take-append-drop}
use Rattle.std.proofs.lemmas.Grind.{flat_map-append}
use Rattle.std.specs.List.{flat_map}
use Rattle.std.specs.Io.KnownBytes.{Appends, Keeps}
use Rattle.byte_io.specs.Sink.{Sink, Wrote, Stopped, Began, CountsUp, Puts}

-- a part of the bytes was written, and the rest is left
pub record HasPushed (old new : Option (List ℕ)) (bytes rest : List ℕ) : Type 0 where
  pub front : List ℕ
  pub split : bytes ≡ front ++ rest
  pub appended : Appends old new front

pub appends_none : (a : Option (List ℕ)) → Appends a a []
appends_none None = tt
appends_none (Some xs) = sym (append-nil xs)

pub appends_then : (a b c : Option (List ℕ)) (x y : List ℕ) → Appends a b x → Appends b c y → Appends a c (x ++ y)
appends_then None b c x y p q = tt
appends_then (Some xs) None c x y p q = absurd p
appends_then (Some xs) (Some ys) None x y p q = absurd q
appends_then (Some xs) (Some ys) (Some zs) x y p q = q ∙ (ap (λ l. l ++ y) p ∙ append_assoc xs x y)

pub appends_kept : (a b : Option (List ℕ)) → Keeps a b → Appends a b []
appends_kept None b k = tt
appends_kept (Some xs) None k = absurd k
appends_kept (Some xs) (Some ys) k = k ∙ sym (append-nil xs)

pub pushed_none : (a : Option (List ℕ)) (bytes : List ℕ) → HasPushed a a bytes bytes
pushed_none a bytes = record { front = []; split = refl; appended = appends_none a }

pub pushed_all : (a b : Option (List ℕ)) (bytes rest : List ℕ) → HasPushed a b bytes rest → length rest ≡ 0 → Appends a b bytes
pushed_all a b bytes [] p e = let same : bytes ≡ p.front = p.split ∙ append-nil p.front in rw same p.appended
pushed_all a b bytes (x ∷ rest) p e = absurd (omega arith)

pub pushed_more : (a b c : Option (List ℕ)) (bytes rest : List ℕ) (n : ℕ) → HasPushed a b bytes rest → Appends b c (take n rest) → HasPushed a c bytes (drop n rest)
pushed_more a b c bytes rest n p q = record {
  front = p.front ++ take n rest;
  split = p.split ∙ (ap (λ l. p.front ++ l) (sym (take-append-drop n rest)) ∙ sym (append_assoc p.front (take n rest) (drop n rest)));
  appended = appends_then a b c p.front (take n rest) p.appended q;
}

-- the rest as a slice of the bytes gives it
pub pushed_slice : (a b c : Option (List ℕ)) (bytes rest : List ℕ) (n : ℕ) → HasPushed a b bytes rest → Appends b c (take n rest) → HasPushed a c bytes (take (length rest - n) (drop n rest))
pushed_slice a b c bytes rest n p q =
    let fits : length (drop n rest) ≤ length rest - n = omega (arith, length-drop n rest) in
    let same : take (length rest - n) (drop n rest) ≡ drop n rest = take_all (length rest - n) (drop n rest) fits in
    rw same (pushed_more a b c bytes rest n p q)

pub pushed_kept : (a b c : Option (List ℕ)) (bytes rest : List ℕ) → HasPushed a b bytes rest → Keeps b c → HasPushed a c bytes rest
pushed_kept a b c bytes rest p k = record {
  front = p.front;
  split = p.split;
  appended = let all : Appends a c (p.front ++ []) = appends_then a b c p.front [] p.appended (appends_kept b c k) in rw append-nil at all;
}

pub pushed_began : (a b c : Option (List ℕ)) (bytes rest : List ℕ) → HasPushed a b bytes rest → Keeps b c → Began a c bytes
pushed_began a b c bytes rest p k = let q = pushed_kept a b c bytes rest p k in record { part = q.front; more = rest; split = q.split; appended = q.appended }

pub wrote_none : (s : Sink) → Wrote s s []
wrote_none s = record { appended = appends_none s.written; counted = refl }

pub wrote_then : {a b c : Sink} {x y : List ℕ} → Wrote a b x → Wrote b c y → Wrote a c (x ++ y)
wrote_then {a} {b} {c} {x} {y} p q = record { appended = appends_then a.written b.written c.written x y p.appended q.appended; counted = q.counted ∙ p.counted }

pub began_then : (a b c : Option (List ℕ)) (x y : List ℕ) → Appends a b x → Began b c y → Began a c (x ++ y)
began_then a b c x y p q = record {
  part = x ++ q.part;
  more = q.more;
  split = ap (λ l. x ++ l) q.split ∙ sym (append_assoc x q.part q.more);
  appended = appends_then a b c x q.part p q.appended;
}

pub stopped_then : {a b c : Sink} {x y : List ℕ} → Wrote a b x → Stopped b c y → Stopped a c (x ++ y)
stopped_then {a} {b} {c} {x} {y} p q = record {
  began = began_then a.written b.written c.written x y p.appended q.began;
  counted = let up : CountsUp b.failed c.failed = q.counted in rw p.counted at up;
}

pub stopped_more : {a b : Sink} {x : List ℕ} (y : List ℕ) → Stopped a b x → Stopped a b (x ++ y)
stopped_more {a} {b} {x} y p = record {
  began = record {
    part = p.began.part;
    more = p.began.more ++ y;
    split = ap (λ l. l ++ y) p.began.split ∙ append_assoc p.began.part p.began.more y;
    appended = p.began.appended;
  };
  counted = p.counted;
}

-- the texts of a list's items, item by item
pub wrote_more : {A : Type 0} {a b c : Sink} (f : A → List ℕ) (xs : List A) (i : ℕ) (d : A) → i < length xs → Wrote a b (flat_map f (take i xs)) → Wrote b c (f (get_or xs i d)) → Wrote a c (flat_map f (take (i + 1) xs))
wrote_more {A} {a} {b} {c} f xs i d h p q =
    let all : flat_map f (take (i + 1) xs) ≡ flat_map f (take i xs) ++ f (get_or xs i d) =
    ap (flat_map f) (take_more xs i d h) ∙ (flat_map-append f (take i xs) (get_or xs i d ∷ []) ∙ ap (λ l. flat_map f (take i xs) ++ l) (append-nil (f (get_or xs i d)))) in
    rw all (wrote_then p q)

pub stopped_at : {A : Type 0} {a b c : Sink} (f : A → List ℕ) (xs : List A) (i : ℕ) (d : A) → i < length xs → Wrote a b (flat_map f (take i xs)) → Stopped b c (f (get_or xs i d)) → Stopped a c (flat_map f xs)
stopped_at {A} {a} {b} {c} f xs i d h p q =
    let more : flat_map f (take (i + 1) xs) ≡ flat_map f (take i xs) ++ f (get_or xs i d) =
    ap (flat_map f) (take_more xs i d h) ∙ (flat_map-append f (take i xs) (get_or xs i d ∷ []) ∙ ap (λ l. flat_map f (take i xs) ++ l) (append-nil (f (get_or xs i d)))) in
    let all : flat_map f xs ≡ (flat_map f (take i xs) ++ f (get_or xs i d)) ++ flat_map f (drop (i + 1) xs) =
    ap (flat_map f) (sym (take-append-drop (i + 1) xs)) ∙ (flat_map-append f (take (i + 1) xs) (drop (i + 1) xs) ∙ ap (λ l. l ++ flat_map f (drop (i + 1) xs)) more) in
    rw all (stopped_more (flat_map f (drop (i + 1) xs)) (stopped_then p q))

-- a text and then another
pub puts_then : {A E : Type 0} {a b : Sink} {x : List ℕ} (c : Sink) (y : List ℕ) (r : Result A E) → Wrote a b x → Puts b r c y → Puts a r c (x ++ y)
puts_then c y (Ok v) p q = wrote_then p q
puts_then c y (Err e) p q = stopped_then p q

-- the same as the two above, for an item that was read
pub wrote_item : {A : Type 0} {a b c : Sink} (f : A → List ℕ) (xs : List A) (i : ℕ) (x : A) → x ≡ get_or xs i x → i < length xs → Wrote a b (flat_map f (take i xs)) → Wrote b c (f x) → Wrote a c (flat_map f (take (i + 1) xs))
wrote_item {A} {a} {b} {c} f xs i x is h p q = wrote_more f xs i x h p (let P : A → Type 0 = λ y. Wrote b c (f y) in subst P is q)

pub stopped_item : {A : Type 0} {a b c : Sink} (f : A → List ℕ) (xs : List A) (i : ℕ) (x : A) → x ≡ get_or xs i x → i < length xs → Wrote a b (flat_map f (take i xs)) → Stopped b c (f x) → Stopped a c (flat_map f xs)
stopped_item {A} {a} {b} {c} f xs i x is h p q = stopped_at f xs i x h p (let P : A → Type 0 = λ y. Stopped b c (f y) in subst P is q)
