-- What lines of version 3 tell is told in one way, and no more of them tells commands where reading stops.
use Rattle.std.proofs.Common.{◌≡◌, ℕ, ◌+◌, ◌-◌, ◌<◌, ◌≤◌, List, [], ◌∷◌, length, drop, Option, None, Some, refl, ap, sym, ◌∙◌, subst, arith, length-drop}
use Rattle.std.specs.Prelude.{option_map}
use Rattle.host_commands.specs.declared.command.Command.{Command}
use Rattle.script_lines.proofs.Grammar.{says_takes, says_again}
use Rattle.script_lines.specs.Plain.{plain}
use Rattle.script_lines.specs.Reading.{says_at}
use Rattle.text_lines.proofs.FieldLaws.{bind_some}
use Rattle.written_scripts.specs.Reading.{told_at, IsStop}
use Rattle.written_scripts.specs.Telling.{told_by, place_of}
use Rattle.written_scripts.specs.Written.{Tells, BeginsWritten, commands_of, IsThird, AreTold, IsBadAmong, IsWritten, IsPlainThird, Turns, IsTextOf}
use Rattle.written_scripts.specs.declared.files.NamedFile.{NamedFile}
use Rattle.written_scripts.specs.declared.places.Turned.{Turned}
use Rattle.written_scripts.specs.declared.places.Turned.TheVariants as turned
use Rattle.written_scripts.specs.declared.places.WrittenPlace.{WrittenPlace}

abbrev pub Told : Type 0
Told = Option (Command × WrittenPlace)

-- what a line tells is what is read of it

pub tells_read : (files : List NamedFile) (number : ℕ) (line : List ℕ) (behind : List (List ℕ)) (told : Told) (taken : ℕ) → Tells files number line behind told taken → told_at files number line behind ≡ Some (told, taken)
unfolding told_at
tells_read files number line behind told taken h = rw (says_again (plain line) h.said h.says, h.makes) (ap (λ (t : Told). Some (t, taken)) (sym h.placed))

pair_parts : {A B : Type 0} (x y : A × B) → Some x ≡ Some y → (x.0 ≡ y.0) × (x.1 ≡ y.1)
pair_parts x y e = let same : x ≡ y = cc in (ap (λ p. p.0) same, ap (λ p. p.1) same)

pub read_tells : (files : List NamedFile) (number : ℕ) (line : List ℕ) (behind : List (List ℕ)) (told : Told) (taken : ℕ) → told_at files number line behind ≡ Some (told, taken) → Tells files number line behind told taken
unfolding told_at
read_tells files number line behind told taken e =
    let s1 = bind_some (says_at (plain line)) _ (told, taken) e in
    let s2 = bind_some (told_by files s1.0 behind) _ (told, taken) s1.2 in
    let same = pair_parts (option_map (λ c. (c, place_of number line s1.0)) s2.0.0, s2.0.1) (told, taken) s2.2 in
    record {
      said = s1.0;
      command = s2.0.0;
      says = says_takes (plain line) s1.0 s1.1;
      makes = s2.1 ∙ ap (λ n. Some (s2.0.0, n)) same.1;
      placed = sym same.0;
    }

-- one line tells one thing

same_told : (files : List NamedFile) (number : ℕ) (line : List ℕ) (behind : List (List ℕ)) (a b : Told) (n m : ℕ) → Tells files number line behind a n → Tells files number line behind b m → (a ≡ b) × (n ≡ m)
same_told files number line behind a b n m h k =
    pair_parts (a, n) (b, m) (sym (tells_read files number line behind a n h) ∙ tells_read files number line behind b m k)

same_step : (files : List NamedFile) (last : ℕ) (lines : List (List ℕ)) (a b : Told) (xs ys : List Told) (rest more : List (List ℕ)) → BeginsWritten files last lines (a ∷ xs) rest → (k : BeginsWritten files last lines (b ∷ ys) more)
    → (a ≡ b) × BeginsWritten files last (drop k.2 k.1) xs rest
same_step files last lines a b xs ys rest more h k =
    let same : h.0 ∷ h.1 ≡ k.0 ∷ k.1 = sym h.3 ∙ k.3 in
    let line : h.0 ≡ k.0 = cc in
    let behind : h.1 ≡ k.1 = cc in
    let P : List (List ℕ) → Type 0 = λ l. Tells files (last - length l) h.0 l a h.2 in
    let Q : List ℕ → Type 0 = λ l. Tells files (last - length k.1) l k.1 a h.2 in
    let one = same_told files (last - length k.1) k.0 k.1 a b h.2 k.2 (subst Q line (subst P behind h.4)) k.4 in
    let R : List (List ℕ) → Type 0 = λ l. BeginsWritten files last (drop h.2 l) xs rest in
    let S : ℕ → Type 0 = λ n. BeginsWritten files last (drop n k.1) xs rest in
    (one.0, subst S one.1 (subst R behind h.5))

pub begins_same : (files : List NamedFile) (last : ℕ) (lines : List (List ℕ)) (xs ys : List Told) → BeginsWritten files last lines xs [] → BeginsWritten files last lines ys [] → xs ≡ ys
begins_same files last lines [] [] h k = refl
begins_same files last lines [] (b ∷ ys) h k = let bad : [] ≡ k.0 ∷ k.1 = sym h ∙ k.3 in absurd (cc)
begins_same files last lines (a ∷ xs) [] h k = let bad : [] ≡ h.0 ∷ h.1 = sym k ∙ h.3 in absurd (cc)
begins_same files last lines (a ∷ xs) (b ∷ ys) h k =
    let s = same_step files last lines a b xs ys [] [] h k in
    ap (λ x. x ∷ xs) s.0 ∙ ap (λ l. b ∷ l) (begins_same files last (drop k.2 k.1) xs ys s.1 k.5)

begins_within : (files : List NamedFile) (last : ℕ) (lines : List (List ℕ)) (ts : List Told) (rest : List (List ℕ)) → BeginsWritten files last lines ts rest → length rest ≤ length lines
begins_within files last lines [] rest h = omega (arith, ap length h)
begins_within files last lines (t ∷ ts) rest h =
    let within = begins_within files last (drop h.2 h.1) ts rest h.5 in
    omega (arith, within, length-drop h.2 h.1, ap length h.3)

pub count_told : (t : Told) (ts : List Told) → length (commands_of (t ∷ ts)) ≡ length (commands_of (t ∷ [])) + length (commands_of ts)
count_told None ts = omega arith
count_told (Some told) ts = omega arith

-- of the same lines no reading goes on where another one stops
pub stops_last : (files : List NamedFile) (last : ℕ) (lines : List (List ℕ)) (xs ys : List Told) (more rest : List (List ℕ)) (n : ℕ) → BeginsWritten files last lines xs more → BeginsWritten files last lines ys rest
    → ((line : List ℕ) (behind : List (List ℕ)) → rest ≡ line ∷ behind → IsStop files (last - length behind) line behind (n + length (commands_of ys))) → n + length (commands_of xs) ≤ 4096 → length rest ≤ length more
stops_last files last lines [] ys more rest n h k stop few =
    let within = begins_within files last lines ys rest k in
    omega (arith, within, ap length h)
stops_last files last lines (a ∷ xs) [] more rest n h k stop few =
    let over : 4096 < n + 0 + length (commands_of (a ∷ [])) = stop h.0 h.1 (sym k ∙ h.3) a h.2 h.4 in
    absurd (omega (arith, over, few, count_told a xs))
stops_last files last lines (a ∷ xs) (b ∷ ys) more rest n h k stop few =
    let s = same_step files last lines a b xs ys more rest h k in
    let one : length (commands_of (a ∷ [])) ≡ length (commands_of (b ∷ [])) = ap (λ t. length (commands_of (t ∷ []))) s.0 in
    let further : n + length (commands_of (b ∷ ys)) ≡ (n + length (commands_of (b ∷ []))) + length (commands_of ys) = omega (arith, count_told b ys) in
    stops_last files last (drop k.2 k.1) xs ys more rest (n + length (commands_of (b ∷ []))) s.1 k.5
    (λ line behind e. let P : ℕ → Type 0 = λ m. IsStop files (last - length behind) line behind m in subst P further (stop line behind e))
    (omega (arith, few, one, count_told a xs))

-- lines that tell commands tell one list of them, and have no bad one

same_commands : (files : List NamedFile) (lines : List (List ℕ)) (cs ds : List Command) (ps qs : List WrittenPlace) → AreTold files lines cs ps → AreTold files lines ds qs → cs ≡ ds
same_commands files lines cs ds ps qs h k =
    h.are ∙ (ap commands_of (begins_same files (length lines + 1) lines h.tolds k.tolds h.begins k.begins) ∙ sym k.are)

not_both : (files : List NamedFile) (lines : List (List ℕ)) (cs : List Command) (ps : List WrittenPlace) (n : ℕ) → AreTold files lines cs ps → IsBadAmong files lines n → ⊥
not_both files lines cs ps n h bad =
    let all : length bad.rest ≤ 0 = bad.longest h.tolds [] h.begins (subst (λ (l : List Command). length l ≤ 4096) h.are h.few) in
    omega (arith, all, bad.some)

same_lines : (script : List ℕ) (lines others : List (List ℕ)) → IsThird script lines → IsThird script others → lines ≡ others
same_lines script lines others h k = let same : h.first ∷ lines ≡ k.first ∷ others = sym h.split ∙ k.split in cc

-- what comes of a script that is written so is a text of these commands
pub turns_only : (files : List NamedFile) (script : List ℕ) (t : Turned) (cs : List Command) → Turns files script t → IsWritten files script cs → IsTextOf cs t
turns_only files script (turned.Plain p) cs h w =
    let k = h.written in
    let P : List (List ℕ) → Type 0 = λ l. AreTold files l h.commands p.places.items in
    let one : AreTold files w.1.lines h.commands p.places.items = subst P (same_lines script k.lines w.1.lines k.third w.1.third) k.told in
    subst (λ (l : List Command). IsPlainThird p.text.items l) (same_commands files w.1.lines h.commands cs p.places.items w.0 one w.1.told) h.text
turns_only files script (turned.BadLine n) cs h w =
    let P : List (List ℕ) → Type 0 = λ l. IsBadAmong files l n in
    not_both files w.1.lines cs w.0 n w.1.told (subst P (same_lines script h.lines w.1.lines h.third w.1.third) h.bad)
turns_only files script turned.Other cs h w = h w.1.lines w.1.third
