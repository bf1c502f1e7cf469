-- The loop over the lines of a script: how far it has come, and where it ends.
use Rattle.std.proofs.Common.{◌≡◌, ℕ, ◌+◌, ◌-◌, ◌<◌, ◌≤◌, zero, suc, List, [], ◌∷◌, ◌++◌, map, length, take, drop, get_or, Bool, true, false, if◌then◌else◌, nat_lt, nat_le, ◌&&◌, Option, None, Some, refl, ap, sym, ◌∙◌, subst, arith, append_assoc, length-append, length-drop}
use Rattle.std.proofs.lemmas.Bool.Decides.{nat_tests}
use Rattle.std.proofs.lemmas.List.{append-nil, length-map}
use Rattle.std.specs.Prelude.{option_map}
use Rattle.clmodel.specs.Setup.{same_text}
use Rattle.script_lines.specs.Plain.{spaced}
use Rattle.script_lines.specs.declared.says.LineSays.{LineSays}
use Rattle.script_lines.specs.declared.says.LineSays.TheVariants as says
use Rattle.text_lines.proofs.FieldLaws.{bind_some, if_some}
use Rattle.host_commands.specs.declared.command.Command.{Command}
use Rattle.host_commands.specs.declared.command.Command.TheVariants as command
use Rattle.simfile.specs.Script.{Begins, IsText, head, line_feeds}
use Rattle.simfile.specs.declared.lines.Version.{Version}
use Rattle.simfile.specs.declared.lines.Version.TheVariants as version
use Rattle.written_scripts.proofs.Runs.{Told, stops_last, read_tells, tells_read}
use Rattle.written_scripts.proofs.Steps.{behind_is, next_shown, within_map}
use Rattle.written_scripts.proofs.TextLaws.{has_text}
use Rattle.written_scripts.specs.Lines.{first_end, lines_text, ended}
use Rattle.written_scripts.specs.Telling.{program_of, of_lines, of_lines_until, of_file, told_by, text_at, place_of}
use Rattle.written_scripts.specs.Texts.{HasText}
use Rattle.written_scripts.specs.Reading.{Adds, Grows, IsStop, IsPlainAmong, told_at}
use Rattle.written_scripts.specs.Written.{Tells, BeginsWritten, commands_of, places_of, IsBadAmong}
use Rattle.written_scripts.specs.declared.files.NamedFile.{NamedFile}
use Rattle.written_scripts.specs.declared.places.PlainScript.{PlainScript}
use Rattle.written_scripts.specs.declared.places.WrittenPlace.{WrittenPlace}

-- lists of what is told, with one more

commands_more : (ts : List Told) (t : Told) → commands_of (ts ++ t ∷ []) ≡ commands_of ts ++ commands_of (t ∷ [])
commands_more [] t = refl
commands_more (None ∷ ts) t = commands_more ts t
commands_more (Some u ∷ ts) t = ap (λ l. u.0 ∷ l) (commands_more ts t)

places_more : (ts : List Told) (t : Told) → places_of (ts ++ t ∷ []) ≡ places_of ts ++ places_of (t ∷ [])
places_more [] t = refl
places_more (None ∷ ts) t = places_more ts t
places_more (Some u ∷ ts) t = ap (λ l. u.1 ∷ l) (places_more ts t)

as_many : (ts : List Told) → length (commands_of ts) ≡ length (places_of ts)
as_many [] = refl
as_many (None ∷ ts) = as_many ts
as_many (Some u ∷ ts) = omega (arith, as_many ts)

begins_more : (files : List NamedFile) (last : ℕ) (lines : List (List ℕ)) (ts : List Told) (line : List ℕ) (behind : List (List ℕ)) (t : Told) (taken : ℕ) → BeginsWritten files last lines ts (line ∷ behind) → Tells files (last - length behind) line behind t taken
    → BeginsWritten files last lines (ts ++ t ∷ []) (drop taken behind)
begins_more files last lines [] line behind t taken h k = (line, behind, taken, h, k, refl)
begins_more files last lines (u ∷ ts) line behind t taken h k = (h.0, h.1, h.2, h.3, h.4, begins_more files last (drop h.2 h.1) ts line behind t taken h.5 k)

-- the text of one command more
text_more : (v : Version) (front : List ℕ) (cs : List Command) (text : List ℕ) (c : Command) → Begins v front cs [] → IsText v text c → Begins v (front ++ text) (cs ++ c ∷ []) []
text_more v front [] text c h k = (text, [], ap (λ l. l ++ text) h ∙ sym (append-nil text), k, refl)
text_more v front (d ∷ cs) text c h k = (h.0, h.1 ++ text, ap (λ l. l ++ text) h.2 ∙ append_assoc h.0 h.1 text, h.3, text_more v h.1 cs text c h.4 k)

-- how far the lines are read: these are told, their text and their places are there, and the lines from `at` on are
-- left
pub record IsAt (files : List NamedFile) (lines : List (List ℕ)) (at : ℕ) (plain : PlainScript) : Type 0 where
  pub tolds : List Told
  pub front : List ℕ
  pub within : at ≤ length lines
  pub begins : BeginsWritten files (length lines + 1) lines tolds (drop at lines)
  pub text : plain.text.items ≡ head version.Three ++ front
  pub texts : Begins version.Three front (commands_of tolds) []
  pub places : plain.places.items ≡ places_of tolds
  pub few : length plain.places.items ≤ 4096

pub starts : (files : List NamedFile) (lines : List (List ℕ)) (plain : PlainScript) → plain.text.items ≡ head version.Three → plain.places.items ≡ [] → IsAt files lines 0 plain
starts files lines plain text none = record {
  tolds = [];
  front = [];
  within = omega arith;
  begins = refl;
  text = text ∙ sym (append-nil (head version.Three));
  texts = refl;
  places = none;
  few = omega (arith, ap length none);
}

pub drop_more : {A : Type 0} (xs : List A) (n m : ℕ) → drop m (drop n xs) ≡ drop (n + m) xs
drop_more xs zero m = let z : m ≡ 0 + m = omega arith in ap (λ k. drop k xs) z
drop_more [] (suc n) m = drop_nothing m ∙ sym (drop_nothing (suc n + m)) where
  drop_nothing : {A : Type 0} (k : ℕ) → ◌≡◌ {A = List A} (drop k []) []
  drop_nothing zero = refl
  drop_nothing (suc k) = refl
drop_more (x ∷ xs) (suc n) m = let z : suc n + m ≡ suc (n + m) = omega arith in drop_more xs n m ∙ ap (λ k. drop k (x ∷ xs)) (sym z)

-- the text and the places with what is told
record Grown (plain : PlainScript) (tolds : List Told) : Type 0 where
  front : List ℕ
  text : plain.text.items ≡ head version.Three ++ front
  texts : Begins version.Three front (commands_of tolds) []
  places : plain.places.items ≡ places_of tolds

grown : (tolds : List Told) (told : Told) (old new : PlainScript) (front : List ℕ) → old.text.items ≡ head version.Three ++ front → Begins version.Three front (commands_of tolds) [] → old.places.items ≡ places_of tolds → Grows told old new → Grown new (tolds ++ told ∷ [])
grown tolds None old new front text texts places h =
    let none : commands_of (tolds ++ None ∷ []) ≡ commands_of tolds = commands_more tolds None ∙ append-nil (commands_of tolds) in
    record {
      front = front;
      text = h.0 ∙ text;
      texts = subst (λ (l : List Command). Begins version.Three front l []) (sym none) texts;
      places = h.1 ∙ (places ∙ sym (places_more tolds None ∙ append-nil (places_of tolds)));
    }
grown tolds (Some told) old new front text texts places h =
    record {
      front = front ++ h.0.0;
      text = h.0.2 ∙ (ap (λ l. l ++ h.0.0) text ∙ append_assoc (head version.Three) front h.0.0);
      texts = subst (λ (l : List Command). Begins version.Three (front ++ h.0.0) l []) (sym (commands_more tolds (Some told))) (text_more version.Three front (commands_of tolds) h.0.0 told.0 texts h.0.1);
      places = h.1 ∙ (ap (λ l. l ++ told.1 ∷ []) places ∙ sym (places_more tolds (Some told)));
    }

-- the line of an index has the number that is two higher
pub number_at : (lines : List (List ℕ)) (at : ℕ) → at < length lines → length lines + 1 - length (drop (at + 1) lines) ≡ at + 2
number_at lines at h = omega (arith, h, length-drop (at + 1) lines)

pub one_more : (files : List NamedFile) (lines : List (List ℕ)) (at : ℕ) (line : List ℕ) (old new : PlainScript) (taken : ℕ) → at < length lines → drop at lines ≡ line ∷ drop (at + 1) lines → IsAt files lines at old → Adds files (at + 2) line (drop (at + 1) lines) old new taken
    → IsAt files lines (at + (1 + taken)) new
one_more files lines at line old new taken h next here adds =
    let behind = drop (at + 1) lines in
    let last = length lines + 1 in
    let P : ℕ → Type 0 = λ n. Tells files n line behind adds.told taken in
    let tells : Tells files (last - length behind) line behind adds.told taken = subst P (sym (number_at lines at h)) adds.tells in
    let Q : List (List ℕ) → Type 0 = λ l. BeginsWritten files last lines here.tolds l in
    let more = begins_more files last lines here.tolds line behind adds.told taken (subst Q next here.begins) tells in
    let R : List (List ℕ) → Type 0 = λ l. BeginsWritten files last lines (here.tolds ++ adds.told ∷ []) l in
    let place : at + 1 + taken ≡ at + (1 + taken) = omega arith in
    let rest : drop taken behind ≡ drop (at + (1 + taken)) lines = drop_more lines (at + 1) taken ∙ ap (λ n. drop n lines) place in
    let g = grown here.tolds adds.told old new here.front here.text here.texts here.places adds.grows in
    record {
      tolds = here.tolds ++ adds.told ∷ [];
      front = g.front;
      within = omega (arith, adds.within, length-drop (at + 1) lines, h);
      begins = subst R rest more;
      text = g.text;
      texts = g.texts;
      places = g.places;
      few = adds.few;
    }

-- all lines are read
pub whole : (files : List NamedFile) (lines : List (List ℕ)) (at : ℕ) (plain : PlainScript) → length lines ≤ at → IsAt files lines at plain → IsPlainAmong files lines plain
whole files lines at plain past here =
    let many : length (commands_of here.tolds) ≤ 4096 = omega (arith, as_many here.tolds, ap length here.places, here.few) in
    let none : drop at lines ≡ [] = nothing (drop at lines) (omega (arith, past, length-drop at lines)) in
    let P : List (List ℕ) → Type 0 = λ l. BeginsWritten files (length lines + 1) lines here.tolds l in
    record {
      commands = commands_of here.tolds;
      text = (here.front, here.text, here.texts, many);
      told = record { tolds = here.tolds; begins = subst P none here.begins; are = refl; at = here.places; few = many };
    } where
      nothing : (l : List (List ℕ)) → length l ≡ 0 → l ≡ []
      nothing [] e = refl
      nothing (x ∷ l) e = absurd (omega (arith, e))

-- no line more is read
pub bad_line : (files : List NamedFile) (lines : List (List ℕ)) (at : ℕ) (line : List ℕ) (plain : PlainScript) → at < length lines → drop at lines ≡ line ∷ drop (at + 1) lines → IsAt files lines at plain → IsStop files (at + 2) line (drop (at + 1) lines) (length plain.places.items)
    → IsBadAmong files lines (at + 2)
bad_line files lines at line plain h next here stop =
    let last = length lines + 1 in
    let rest = drop at lines in
    let behind = drop (at + 1) lines in
    let count : length plain.places.items ≡ 0 + length (commands_of here.tolds) = omega (arith, as_many here.tolds, ap length here.places) in
    let P : ℕ → Type 0 = λ n. IsStop files n line behind (length plain.places.items) in
    let Q : ℕ → Type 0 = λ n. IsStop files (last - length behind) line behind n in
    let there : IsStop files (last - length behind) line behind (0 + length (commands_of here.tolds)) = subst Q count (subst P (sym (number_at lines at h)) stop) in
    let each : (l : List ℕ) (b : List (List ℕ)) → rest ≡ l ∷ b → IsStop files (last - length b) l b (0 + length (commands_of here.tolds)) =
    λ l b e.
    let same : line ∷ behind ≡ l ∷ b = sym next ∙ e in
    let first : line ≡ l = cc in
    let more : behind ≡ b = cc in
    let R : List ℕ → Type 0 = λ x. IsStop files (last - length behind) x behind (0 + length (commands_of here.tolds)) in
    let S : List (List ℕ) → Type 0 = λ x. IsStop files (last - length x) l x (0 + length (commands_of here.tolds)) in
    subst S more (subst R first there) in
    record {
      tolds = here.tolds;
      rest = rest;
      begins = here.begins;
      few = omega (arith, as_many here.tolds, ap length here.places, here.few);
      longest = λ others more k few. stops_last files last lines others here.tolds more rest 0 k here.begins each (omega (arith, few));
      some = omega (arith, h, length-drop at lines);
      is = omega (arith, h, length-drop at lines);
    }

-- a line that tells nothing tells no more than 4,096 commands either
pub stops_here : (files : List NamedFile) (number : ℕ) (line : List ℕ) (behind : List (List ℕ)) (count : ℕ) → told_at files number line behind ≡ None → IsStop files number line behind count
stops_here files number line behind count none told taken h =
    let bad : ◌≡◌ {A = Option (Told × ℕ)} None (Some (told, taken)) = sym none ∙ tells_read files number line behind told taken h in
    absurd (cc)

-- nor does that of one command more, where there are so many
pub stops_full : (files : List NamedFile) (number : ℕ) (line : List ℕ) (behind : List (List ℕ)) (count n : ℕ) (c : Command × WrittenPlace) → told_at files number line behind ≡ Some (Some c, n) → 4096 ≤ count → IsStop files number line behind count
stops_full files number line behind count n c some full told taken h =
    let same : ◌≡◌ {A = Option (Told × ℕ)} (Some (Some c, n)) (Some (told, taken)) = sym some ∙ tells_read files number line behind told taken h in
    let is : Some c ≡ told = first_of (Some c) n told taken same in
    subst (λ (t : Told). 4096 < count + length (commands_of (t ∷ []))) is (omega (arith, full)) where
      first_of : (a : Told) (n : ℕ) (b : Told) (m : ℕ) → ◌≡◌ {A = Option (Told × ℕ)} (Some (a, n)) (Some (b, m)) → a ≡ b
      first_of a n b m e = let pair : ◌≡◌ {A = Told × ℕ} (a, n) (b, m) = cc in ap (λ p. p.0) pair

-- lines are taken that are there

taken_is : (name source : List ℕ) (n : ℕ) (made : Option Command × ℕ) → program_of name source n ≡ Some made → made.1 ≡ n
unfolding program_of
taken_is name source n made e = let s = if_some (nat_lt 0 (line_feeds source) && nat_le (line_feeds source) 65536) (Some (command.Program name source), n) made e in sym (ap (λ p. p.1) s.1)

first_rest : (lines n : ℕ) (o : Option ℕ) → ((m : ℕ) → o ≡ Some m → m < lines) → option_map (λ m. suc m) o ≡ Some n → n < suc lines
first_rest lines n None h e = absurd (cc)
first_rest lines n (Some m) h e = let z : suc m ≡ n = cc in let more = h m refl in omega (arith, z, more)

first_by : (lines n : ℕ) (v : Bool) (o : Option ℕ) → ((m : ℕ) → o ≡ Some m → m < lines) → (if v then Some 0 else option_map (λ m. suc m) o) ≡ Some n → n < suc lines
first_by lines n true o h e = let z : 0 ≡ n = cc in omega (arith, z)
first_by lines n false o h e = first_rest lines n o h e

first_within : (word : List ℕ) (lines : List (List ℕ)) (n : ℕ) → first_end word lines ≡ Some n → n < length lines
first_within word [] n e = absurd (cc)
first_within word (line ∷ lines) n e =
    let less = first_by (length lines) n (same_text (spaced line) word) (first_end word lines) (λ m is. first_within word lines m is) e in
    omega (arith, less)

none_taken : (a : Option Command) (made : Option Command × ℕ) → Some (a, 0) ≡ Some made → made.1 ≡ 0
none_taken a made e = let same : (a, 0) ≡ made = cc in sym (ap (λ p. p.1) same)

le_is : (n m : ℕ) → nat_le n m ≡ true → n ≤ m
le_is n m h = grind (arith, nat_tests)

lines_within : (name : List ℕ) (count : ℕ) (behind : List (List ℕ)) (made : Option Command × ℕ) → of_lines name count behind ≡ Some made → made.1 ≤ length behind
unfolding of_lines
lines_within name count behind made e = by_test (nat_le count (length behind)) refl e where
  by_test : (v : Bool) → nat_le count (length behind) ≡ v → (if v then program_of name (lines_text (take count behind)) count else None) ≡ Some made → made.1 ≤ length behind
  by_test true is f = let t = taken_is name (lines_text (take count behind)) count made f in omega (arith, t, le_is count (length behind) is)
  by_test false is f = absurd (cc)

until_within : (name word : List ℕ) (behind : List (List ℕ)) (made : Option Command × ℕ) → of_lines_until name word behind ≡ Some made → made.1 ≤ length behind
unfolding of_lines_until
until_within name word behind made e =
    let s = bind_some (first_end word behind) _ made e in
    let t = taken_is name (lines_text (take s.0 behind)) (s.0 + 1) made s.2 in
    let w = first_within word behind s.0 s.1 in
    omega (arith, t, w)

file_within : (files : List NamedFile) (name path : List ℕ) (behind : List (List ℕ)) (made : Option Command × ℕ) → of_file files name path ≡ Some made → made.1 ≤ length behind
unfolding of_file
file_within files name path behind made e =
    let s = bind_some (text_at files path) _ made e in
    let t = taken_is name (ended s.0) 0 made s.2 in
    omega (arith, t)

told_within : (files : List NamedFile) (said : LineSays) (behind : List (List ℕ)) (made : Option Command × ℕ) → told_by files said behind ≡ Some made → made.1 ≤ length behind
told_within files says.Nothing behind made e = let t = none_taken None made e in omega (arith, t)
told_within files (says.Command c) behind made e = let t = none_taken (Some c) made e in omega (arith, t)
told_within files (says.ReadNumbers buffer offset kind count) behind made e = let t = none_taken _ made e in omega (arith, t)
told_within files (says.SourceLines name count) behind made e = lines_within name count behind made e
told_within files (says.SourceUntil name word) behind made e = until_within name word behind made e
told_within files (says.SourceFile name path) behind made e = file_within files name path behind made e

-- a line that tells no command adds nothing
pub adds_none : (files : List NamedFile) (number : ℕ) (line : List ℕ) (behind : List (List ℕ)) (plain : PlainScript) (taken : ℕ) → told_at files number line behind ≡ Some (None, taken) → length plain.places.items ≤ 4096 → Adds files number line behind plain plain taken
adds_none files number line behind plain taken read few =
    let t = read_tells files number line behind None taken read in
    record { told = None; tells = t; within = told_within files t.said behind (t.command, taken) t.makes; grows = (refl, refl); few = few }

-- one that tells a command adds its text and its place
pub adds_some : (files : List NamedFile) (number : ℕ) (line : List ℕ) (behind : List (List ℕ)) (old new : PlainScript) (taken : ℕ) (c : Command) (place : WrittenPlace) (text : List ℕ) → told_at files number line behind ≡ Some (Some (c, place), taken) → length old.places.items < 4096
    → IsText version.Three text c → new.text.items ≡ old.text.items ++ text → new.places.items ≡ old.places.items ++ place ∷ [] → Adds files number line behind old new taken
adds_some files number line behind old new taken c place text read room is texts places =
    let t = read_tells files number line behind (Some (c, place)) taken read in
    record {
      told = Some (c, place);
      tells = t;
      within = told_within files t.said behind (t.command, taken) t.makes;
      grows = ((text, is, texts), places);
      few = omega (arith, ap length places, length-append old.places.items (place ∷ []), room);
    }

command_is : (number : ℕ) (line : List ℕ) (said : LineSays) (c : Command) (place : WrittenPlace) (o : Option Command) → ◌≡◌ {A = Told} (Some (c, place)) (option_map (λ d. (d, place_of number line said)) o) → o ≡ Some c
command_is number line said c place None e = absurd (cc)
command_is number line said c place (Some d) e =
    let same : ◌≡◌ {A = Command × WrittenPlace} (c, place) (d, place_of number line said) = cc in
    ap Some (sym (ap (λ p. p.0) same))

-- and it has a text
pub text_of_told : (files : List NamedFile) (number : ℕ) (line : List ℕ) (behind : List (List ℕ)) (taken : ℕ) (c : Command) (place : WrittenPlace) → told_at files number line behind ≡ Some (Some (c, place), taken) → HasText line c
text_of_told files number line behind taken c place read =
    let t = read_tells files number line behind (Some (c, place)) taken read in
    has_text files line t.said behind (t.command, taken) c t.says t.makes (command_is number line t.said c place t.command t.placed)

-- the steps of the loop, of lines that references show

pub bad_shown : {A : Type 0} (f : A → List ℕ) (files : List NamedFile) (xs : List A) (at : ℕ) (d : A) (plain : PlainScript) → at < length xs → IsAt files (map f xs) at plain
    → IsStop files (at + 2) (f (get_or xs at d)) (map f (take (length xs - (at + 1)) (drop (at + 1) xs))) (length plain.places.items) → IsBadAmong files (map f xs) (at + 2)
bad_shown f files xs at d plain h here stop =
    let P : List (List ℕ) → Type 0 = λ l. IsStop files (at + 2) (f (get_or xs at d)) l (length plain.places.items) in
    bad_line files (map f xs) at (f (get_or xs at d)) plain (within_map f xs at h) (next_shown f xs at d h) here (subst P (behind_is f xs (at + 1)) stop)

pub more_shown : {A : Type 0} (f : A → List ℕ) (files : List NamedFile) (xs : List A) (at : ℕ) (d : A) (old new : PlainScript) (taken : ℕ) → at < length xs → IsAt files (map f xs) at old
    → Adds files (at + 2) (f (get_or xs at d)) (map f (take (length xs - (at + 1)) (drop (at + 1) xs))) old new taken → IsAt files (map f xs) (at + (1 + taken)) new
more_shown f files xs at d old new taken h here adds =
    let P : List (List ℕ) → Type 0 = λ l. Adds files (at + 2) (f (get_or xs at d)) l old new taken in
    one_more files (map f xs) at (f (get_or xs at d)) old new taken (within_map f xs at h) (next_shown f xs at d h) here (subst P (behind_is f xs (at + 1)) adds)

pub whole_shown : {A : Type 0} (f : A → List ℕ) (files : List NamedFile) (xs : List A) (at : ℕ) (plain : PlainScript) → length xs ≤ at → IsAt files (map f xs) at plain → IsPlainAmong files (map f xs) plain
whole_shown f files xs at plain past here = whole files (map f xs) at plain (omega (arith, past, length-map xs f)) here
