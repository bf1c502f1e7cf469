-- A run, answer by answer.
use Rattle.std.proofs.Common.{◌≡◌, ℕ, List, [], ◌∷◌, ◌++◌, refl, ap, sym, ◌∙◌, subst, append_assoc}
use Rattle.std.proofs.lemmas.List.{append-nil}
use Rattle.std.proofs.lemmas.Grind.{flat_map-append}
use Rattle.std.specs.List.{fold}
use Rattle.device.specs.Machine.{Machine, Step, opening}
use Rattle.host_commands.specs.declared.command.Command.{Command}
use Rattle.host_commands.specs.declared.command.Reply.{Reply}
use Rattle.cli.specs.declared.session.RunEnd.{RunEnd}
use Rattle.byte_io.specs.Sink.{Sink, Wrote, Stopped}
use Rattle.simfile.specs.Lines.{line, lines}
use Rattle.showing.specs.Shown.{behind, next_line, shown_lines}
use Rattle.showing.specs.declared.lines.Shown.{Shown}
use Rattle.cli.specs.Session.{Plays, one_end, end_of, Answered, Broken}
use Rattle.byte_io.proofs.Puts.{wrote_none, wrote_then, stopped_then}
use Rattle.limits.specs.declared.Configuration.{Configuration}

-- a command was answered: the machine made a step, and the reply's line was written as the first of these shows it
pub record AnswersOne (shows : List Shown) (old : Machine) (command : Command) (new : Machine) (before after : Sink) (end next : RunEnd) : Type 0 where
  pub answer : Reply
  pub step : Step old command answer new
  pub wrote : Wrote before after (next_line shows answer)
  pub counts : next ≡ one_end answer end

-- a write failed at the answer to a command
pub record BreaksOne (shows : List Shown) (old : Machine) (command : Command) (before after : Sink) : Type 0 where
  pub answer : Reply
  pub last : Machine
  pub step : Step old command answer last
  pub stopped : Stopped before after (next_line shows answer)

-- those that are left behind the lines of replies
abbrev pub left_of : List Shown → List Reply → List Shown
left_of shows [] = shows
left_of shows (reply ∷ replies) = left_of (behind shows) replies

-- the commands so far were answered
pub record HasAnswered (shows left : List Shown) (configuration : Configuration) (done : List Command) (now : Machine) (old new : Sink) (end : RunEnd) : Type 0 where
  pub replies : List Reply
  pub plays : Plays (opening configuration) done replies now
  pub wrote : Wrote old new (shown_lines shows replies)
  pub leaves : left ≡ left_of shows replies
  pub counts : end ≡ end_of replies

shown_none : (shows : List Shown) → shown_lines shows [] ≡ []
shown_none [] = refl
shown_none (s ∷ shows) = refl

pub answered_none : (shows : List Shown) (configuration : Configuration) (now : Machine) (s : Sink) → now ≡ opening configuration → HasAnswered shows shows configuration [] now s s (end_of [])
answered_none shows configuration now s e = record {
  replies = [];
  plays = e;
  wrote = subst (λ (l : List ℕ). Wrote s s l) (sym (shown_none shows)) (wrote_none s);
  leaves = refl;
  counts = refl;
}

pub plays_more : (old mid new : Machine) (cs : List Command) (rs : List Reply) (c : Command) (r : Reply) → Plays old cs rs mid → Step mid c r new → Plays old (cs ++ c ∷ []) (rs ++ r ∷ []) new
plays_more old mid new [] [] c r h s = let P : Machine → Type 0 = λ m. Step m c r new in (new, subst P h s, refl)
plays_more old mid new [] (x ∷ rs) c r h s = absurd h
plays_more old mid new (x ∷ cs) [] c r h s = absurd h
plays_more old mid new (x ∷ cs) (y ∷ rs) c r h s = (h.0, h.1, plays_more h.0 mid new cs rs c r h.2 s)

pub lines-more : (rs : List Reply) (r : Reply) → lines (rs ++ r ∷ []) ≡ lines rs ++ line r
lines-more rs r = flat_map-append line rs (r ∷ []) ∙ ap (λ l. lines rs ++ l) (append-nil (line r))

left_none : (rs : List Reply) → left_of [] rs ≡ []
left_none [] = refl
left_none (r ∷ rs) = left_none rs

left_more : (shows : List Shown) (rs : List Reply) (r : Reply) → left_of shows (rs ++ r ∷ []) ≡ behind (left_of shows rs)
left_more shows [] r = refl
left_more shows (x ∷ rs) r = left_more (behind shows) rs r

-- one more line, as the first that is left shows it
shown_more : (shows : List Shown) (rs : List Reply) (r : Reply) → shown_lines shows (rs ++ r ∷ []) ≡ shown_lines shows rs ++ next_line (left_of shows rs) r
shown_more [] rs r = lines-more rs r ∙ ap (λ l. lines rs ++ next_line l r) (sym (left_none rs))
shown_more (s ∷ shows) [] r = ap (λ l. next_line (s ∷ shows) r ++ l) (shown_none shows) ∙ append-nil (next_line (s ∷ shows) r)
shown_more (s ∷ shows) (x ∷ rs) r =
    ap (λ l. next_line (s ∷ shows) x ++ l) (shown_more shows rs r) ∙ sym (append_assoc (next_line (s ∷ shows) x) (shown_lines shows rs) (next_line (left_of shows rs) r))

pub shown_then : (shows : List Shown) {left : List Shown} (rs : List Reply) (r : Reply) → left ≡ left_of shows rs → shown_lines shows rs ++ next_line left r ≡ shown_lines shows (rs ++ r ∷ [])
shown_then shows {left} rs r leaves = ap (λ l. shown_lines shows rs ++ next_line l r) leaves ∙ sym (shown_more shows rs r)

pub fold-more : (rs : List Reply) (r : Reply) (e : RunEnd) → fold (λ end x. one_end x end) e (rs ++ r ∷ []) ≡ one_end r (fold (λ end x. one_end x end) e rs)
fold-more [] r e = refl
fold-more (x ∷ rs) r e = fold-more rs r (one_end x e)

pub answered_more : {shows left : List Shown} {configuration : Configuration} {done : List Command} {now new : Machine} {old mid after : Sink} {end next : RunEnd} (c : Command) (rest : List Shown) → rest ≡ behind left
    → HasAnswered shows left configuration done now old mid end → AnswersOne left now c new mid after end next → HasAnswered shows rest configuration (done ++ c ∷ []) new old after next
answered_more {shows} {left} {configuration} {done} {now} {new} {old} {mid} {after} {end} {next} c rest e h a = record {
  replies = h.replies ++ a.answer ∷ [];
  plays = plays_more (opening configuration) now new done h.replies c a.answer h.plays a.step;
  wrote = subst (λ (l : List ℕ). Wrote old after l) (shown_then shows h.replies a.answer h.leaves) (wrote_then h.wrote a.wrote);
  leaves = e ∙ (ap behind h.leaves ∙ sym (left_more shows h.replies a.answer));
  counts = a.counts ∙ (ap (one_end a.answer) h.counts ∙ sym (fold-more h.replies a.answer (end_of [])));
}

-- nothing more was written
pub answered_still : {shows left : List Shown} {configuration : Configuration} {done : List Command} {now : Machine} {old mid after : Sink} {end : RunEnd} → HasAnswered shows left configuration done now old mid end
    → Wrote mid after [] → HasAnswered shows left configuration done now old after end
answered_still {shows} {left} {configuration} {done} {now} {old} {mid} {after} {end} h w = record {
  replies = h.replies;
  plays = h.plays;
  wrote = subst (λ (l : List ℕ). Wrote old after l) (append-nil (shown_lines shows h.replies)) (wrote_then h.wrote w);
  leaves = h.leaves;
  counts = h.counts;
}

pub broken_at : {shows left : List Shown} {configuration : Configuration} {done : List Command} {now : Machine} {old mid after : Sink} {end : RunEnd} (all more : List Command) (c : Command) → all ≡ done ++ c ∷ more → HasAnswered shows left configuration done now old mid end
    → BreaksOne left now c mid after → Broken shows configuration all old after
broken_at {shows} {left} {configuration} {done} {now} {old} {mid} {after} {end} all more c e h b = record {
  done = done ++ c ∷ [];
  left = more;
  replies = h.replies ++ b.answer ∷ [];
  last = b.last;
  split = e ∙ sym (append_assoc done (c ∷ []) more);
  plays = plays_more (opening configuration) now b.last done h.replies c b.answer h.plays b.step;
  stopped = subst (λ (l : List ℕ). Stopped old after l) (shown_then shows h.replies b.answer h.leaves) (stopped_then h.wrote b.stopped);
}

pub answered_all : {shows left : List Shown} {configuration : Configuration} {done : List Command} {now : Machine} {old mid after : Sink} {end : RunEnd} (all : List Command) → all ≡ done → HasAnswered shows left configuration done now old mid end
    → Wrote mid after [] → after.held ≡ [] → Answered shows configuration all old after end
answered_all {shows} {left} {configuration} {done} {now} {old} {mid} {after} {end} all e h w r = record {
  replies = h.replies;
  last = now;
  plays = rw e h.plays;
  wrote = subst (λ (l : List ℕ). Wrote old after l) (append-nil (shown_lines shows h.replies)) (wrote_then h.wrote w);
  released = r;
  end = h.counts;
}

pub broken_between : {shows left : List Shown} {configuration : Configuration} {done : List Command} {now : Machine} {old mid after : Sink} {end : RunEnd} (all more : List Command) → all ≡ done ++ more → HasAnswered shows left configuration done now old mid end
    → Stopped mid after [] → Broken shows configuration all old after
broken_between {shows} {left} {configuration} {done} {now} {old} {mid} {after} {end} all more e h w = record {
  done = done;
  left = more;
  replies = h.replies;
  last = now;
  split = e;
  plays = h.plays;
  stopped = subst (λ (l : List ℕ). Stopped old after l) (append-nil (shown_lines shows h.replies)) (stopped_then h.wrote w);
}
