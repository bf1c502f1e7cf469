-- Where the commands that are read stand.
use Rattle.std.proofs.Common.{◌≡◌, ℕ, ◌+◌, ◌-◌, ◌≤◌, zero, suc, List, [], ◌∷◌, ◌++◌, length, take, drop, Option, None, Some, ◌⊎◌, inl, inr, refl, ap, sym, ◌∙◌, subst, arith, append_assoc, length-append}
use Rattle.std.specs.Prelude.{slice_get, slice_range}
use Rattle.std.proofs.Math.Seq.{take-append_seam}
use Rattle.std.proofs.lemmas.List.{length-drop, take-append-drop, take-append-le}
use Rattle.std.proofs.lemmas.List.Folds.{drop_split}
use Rattle.std.proofs.lemmas.Option.{same_Some, slice_get_past, slice_get_within}
use Rattle.host_commands.specs.declared.command.Command.{Command}
use Rattle.simfile.specs.declared.lines.Version.{Version}
use Rattle.simfile.specs.declared.script.CommandPlace.{CommandPlace}
use Rattle.simfile.specs.Places.{AreAt, Locates, StandsAt}
use Rattle.simfile.specs.Reading.{command_at}
use Rattle.simfile.specs.Script.{Begins, head, line_feeds}
use Rattle.simfile.proofs.Grammar.{command_takes}
use Rattle.simfile.proofs.LineLaws.{feeds_append}
use Rattle.simfile.proofs.Scripts.{Fronts, IsAt, heads, reads_fronts}

-- the line feeds in front of a byte, by those in front of an earlier one
pub feeds_between : (bytes : List ℕ) (from at : ℕ) → from ≤ at → line_feeds (take from bytes) + line_feeds (slice_range bytes from at) ≡ line_feeds (take at bytes)
feeds_between bytes from at h =
    let all : (n : ℕ) → line_feeds bytes ≡ line_feeds (take n bytes) + line_feeds (drop n bytes) = λ n. ap line_feeds (sym (take-append-drop n bytes)) ∙ feeds_append (take n bytes) (drop n bytes) in
    let more : line_feeds (drop from bytes) ≡ line_feeds (slice_range bytes from at) + line_feeds (drop at bytes) =
    ap line_feeds (drop_split bytes from at h) ∙ feeds_append (slice_range bytes from at) (drop at bytes) in
    omega (arith, all from, all at, more)

-- the bytes between two places
pub few_between : (bytes : List ℕ) (from at : ℕ) → from ≤ at → at ≤ length bytes → length (slice_range bytes from at) + from ≡ at
few_between bytes from at h k =
    let split = ap length (drop_split bytes from at h) ∙ length-append (slice_range bytes from at) (drop at bytes) in
    omega (arith, split, length-drop from bytes, length-drop at bytes, h, k)

-- the place of a byte is the place of its own byte
pub at_itself : (bytes : List ℕ) (byte : ℕ) (place : CommandPlace) → Locates bytes byte place → Locates bytes place.at place
at_itself bytes byte place h = subst (λ (n : ℕ). Locates bytes n place) (sym h.at) h

-- elements of a list with one more

front_get : {A : Type 0} (xs ys : List A) (k : ℕ) (x : A) → slice_get xs k ≡ Some x → slice_get (xs ++ ys) k ≡ Some x
front_get {A} [] ys k x h =
    let bad : ◌≡◌ {A = Option A} None (Some x) = sym (slice_get_past {X = A} [] k (omega arith)) ∙ h in
    cc
front_get (y ∷ xs) ys zero x h = h
front_get (y ∷ xs) ys (suc k) x h = front_get xs ys k x h

last_get : {A : Type 0} (xs : List A) (x : A) → slice_get (xs ++ x ∷ []) (length xs) ≡ Some x
last_get [] x = refl
last_get (y ∷ xs) x =
    let counted : length (y ∷ xs) ≡ suc (length xs) = omega arith in
    subst (λ n. slice_get (y ∷ xs ++ x ∷ []) n ≡ Some x) (sym counted) (last_get xs x)

one_further : {A : Type 0} (z : A) (xs : List A) (x y : A) (k : ℕ) → (slice_get xs k ≡ Some y) ⊎ (k ≡ length xs) × (y ≡ x) → (slice_get (z ∷ xs) (suc k) ≡ Some y) ⊎ (suc k ≡ length (z ∷ xs)) × (y ≡ x)
one_further z xs x y k (inl e) = inl e
one_further z xs x y k (inr e) = inr (omega (arith, e.0), e.1)

-- an element is one of the earlier ones, or the last
last_or : {A : Type 0} (xs : List A) (x y : A) (k : ℕ) → slice_get (xs ++ x ∷ []) k ≡ Some y → (slice_get xs k ≡ Some y) ⊎ (k ≡ length xs) × (y ≡ x)
last_or [] x y zero h = inr (refl, sym (same_Some x y h))
last_or {A} [] x y (suc k) h =
    let bad : ◌≡◌ {A = Option A} None (Some y) = sym (slice_get_past {X = A} [] k (omega arith)) ∙ h in
    cc
last_or (z ∷ xs) x y zero h = inl h
last_or (z ∷ xs) x y (suc k) h = one_further z xs x y k (last_or xs x y k h)

-- one command more

stays : (bytes : List ℕ) (cs : List Command) (c : Command) (k : ℕ) (place : CommandPlace) → StandsAt bytes cs k place → StandsAt bytes (cs ++ c ∷ []) k place
stays bytes cs c k place h =
    let within = slice_get_within cs k h.command h.is in
    record {
      version = h.version;
      front = h.front;
      text = h.text;
      more = h.more;
      command = h.command;
      split = h.split;
      before = subst (λ (l : List Command). Begins h.version h.front l []) (sym (take-append-le k cs (c ∷ []) (omega (arith, within)))) h.before;
      is = front_get cs (c ∷ []) k h.command h.is;
      told = h.told;
      at = h.at;
      line = h.line;
      source_line = h.source_line;
    }

-- the command that is read next stands where reading has come
stands : (bytes : List ℕ) (v : Version) (cs : List Command) (rest : List ℕ) (c : Command) (others : List ℕ) (place : CommandPlace) → IsAt bytes v cs rest → command_at v rest ≡ Some (c, others)
    → Locates bytes (length bytes - length rest) place → StandsAt bytes (cs ++ c ∷ []) (length cs) place
stands bytes v cs rest c others place at some here =
    let f : Fronts v at.lines cs rest = reads_fronts v at.lines cs rest at.reads in
    let t = command_takes v rest c others some in
    let before : List ℕ = head v ++ f.front in
    let split : bytes ≡ before ++ rest = heads bytes v at.lines at.version ∙ (ap (λ l. head v ++ l) f.split ∙ sym (append_assoc (head v) f.front rest)) in
    let long : length bytes - length rest ≡ length before = omega (arith, ap length split, length-append before rest) in
    let front : take (length bytes - length rest) bytes ≡ before = ap (λ m. take m bytes) long ∙ (ap (λ l. take (length before) l) split ∙ take-append_seam before rest) in
    record {
      version = v;
      front = f.front;
      text = t.0;
      more = others;
      command = c;
      split = split ∙ ap (λ l. before ++ l) t.1;
      before = subst (λ (l : List Command). Begins v f.front l []) (sym (take-append_seam cs (c ∷ []))) f.begins;
      is = last_get cs c;
      told = t.2;
      at = here.at ∙ long;
      line = here.line ∙ ap (λ l. line_feeds l + 1) front;
      source_line = here.source_line;
    }

pub none_at : (bytes : List ℕ) (cs : List Command) (places : List CommandPlace) → cs ≡ [] → places ≡ [] → AreAt bytes cs places
none_at bytes cs places none empty = record {
  count = ap length empty ∙ sym (ap length none);
  each = λ k place h.
      let bad : ◌≡◌ {A = Option CommandPlace} None (Some place) = sym (slice_get_past {X = CommandPlace} [] k (omega arith)) ∙ (ap (λ l. slice_get l k) (sym empty) ∙ h) in
      cc;
}

pub one_more_at : (bytes : List ℕ) (v : Version) (cs : List Command) (places : List CommandPlace) (rest : List ℕ) (c : Command) (others : List ℕ) (place : CommandPlace) → AreAt bytes cs places → IsAt bytes v cs rest
    → command_at v rest ≡ Some (c, others) → Locates bytes (length bytes - length rest) place → AreAt bytes (cs ++ c ∷ []) (places ++ place ∷ [])
one_more_at bytes v cs places rest c others place are at some here = record {
  count = omega (arith, length-append cs (c ∷ []), length-append places (place ∷ []), are.count);
  each = λ k other h. by k other (last_or places place other k h);
} where
  by : (k : ℕ) (other : CommandPlace) → (slice_get places k ≡ Some other) ⊎ (k ≡ length places) × (other ≡ place) → StandsAt bytes (cs ++ c ∷ []) k other
  by k other (inl h) = stays bytes cs c k other (are.each k other h)
  by k other (inr h) =
      let P : ℕ → CommandPlace → Type 0 = λ n p. StandsAt bytes (cs ++ c ∷ []) n p in
      subst (λ (p : CommandPlace). P k p) (sym h.1) (subst (λ (n : ℕ). P n place) (sym (h.0 ∙ are.count)) (stands bytes v cs rest c others place at some here))

-- what is behind a command is no longer than what it stands in front of
pub takes_some : (v : Version) (rest : List ℕ) (c : Command) (others : List ℕ) → command_at v rest ≡ Some (c, others) → length others ≤ length rest
takes_some v rest c others some =
    let t = command_takes v rest c others some in
    omega (arith, ap length t.1, length-append t.0 others)
