-- The lines of a source, one after another.
use Rattle.std.proofs.Common.{◌≡◌, ℕ, ◌+◌, ◌<◌, Bool, true, false, List, [], ◌∷◌, ◌++◌, refl, ap, sym, ◌∙◌, subst, arith, append_assoc}
use Rattle.std.proofs.lemmas.List.{append-nil}
use Rattle.byte_io.specs.Pieces.{joined}
use Rattle.byte_io.specs.Talk.{Event, Heard, Conversation, hearing, Said}
use Rattle.byte_io.proofs.Talks.{said_none, said_then, hearing-append}
use Rattle.simfile.specs.declared.faults.RunFault.{RunFault}
use Rattle.serving.specs.Hearing.{HeardLine, HeardSource, HearFails, NotHeard, NotHeardSource}
use Rattle.simfile.specs.Script.{AreLines, line_feeds}
use Rattle.simfile.proofs.LineLaws.{feeds_append}

pub joined_more : (pieces : List (List ℕ)) (piece : List ℕ) → joined (pieces ++ piece ∷ []) ≡ joined pieces ++ piece
joined_more [] piece = append-nil piece
joined_more (p ∷ pieces) piece = ap (λ l. p ++ l) (joined_more pieces piece) ∙ sym (append_assoc p (joined pieces) piece)

-- one piece more
said_more : {a b c : Conversation} (pieces : List (List ℕ)) (piece : List ℕ) → Said a b (hearing pieces) → Said b c (Heard piece ∷ []) → Said a c (hearing (pieces ++ piece ∷ []))
said_more {a} {b} {c} pieces piece h k = subst (λ (es : List Event). Said a c es) (sym (hearing-append pieces (piece ∷ []))) (said_then h k)

added_more : (before : List ℕ) {mid after : List ℕ} (pieces : List (List ℕ)) (piece : List ℕ) → mid ≡ before ++ joined pieces → after ≡ mid ++ piece → after ≡ before ++ joined (pieces ++ piece ∷ [])
added_more before pieces piece h k = k ∙ (ap (λ l. l ++ piece) h ∙ (append_assoc before (joined pieces) piece ∙ ap (λ l. before ++ l) (sym (joined_more pieces piece))))

pub source_none : (c : Conversation) (before : List ℕ) → HeardSource c c 0 before before true
source_none c before = record { pieces = []; added = sym (append-nil before); said = said_none c; failures = refl; is = (refl, λ some. absurd (omega (arith, some))) }

feeds_more : (pieces : List (List ℕ)) (piece : List ℕ) → line_feeds (joined (pieces ++ piece ∷ [])) ≡ line_feeds (joined pieces) + line_feeds piece
feeds_more pieces piece = ap line_feeds (joined_more pieces piece) ∙ feeds_append (joined pieces) piece

one_feed : (line : List ℕ) → AreLines line 1 → line_feeds line ≡ 1
one_feed line one = let e : line_feeds line ≡ line_feeds one.front + 1 = ap line_feeds one.ends ∙ feeds_append one.front (10 ∷ []) in omega (arith, e, one.count)

lines_more : (text line : List ℕ) (n : ℕ) → line_feeds text ≡ n → AreLines line 1 → AreLines (text ++ line) (n + 1)
lines_more text line n h one = record {
  front = text ++ one.front;
  ends = ap (λ l. text ++ l) one.ends ∙ sym (append_assoc text one.front (10 ∷ []));
  count = omega (arith, feeds_append text one.front, h, one.count);
}

pub source_more : {old now new : Conversation} {n : ℕ} {before mid after : List ℕ} → HeardSource old now n before mid true → HeardLine now new mid after true → HeardSource old new (n + 1) before after true
source_more {n = n} h k = record {
  pieces = h.pieces ++ k.line ∷ [];
  added = added_more _ h.pieces k.line h.added k.added;
  said = said_more h.pieces k.line h.said k.said;
  failures = k.failures ∙ h.failures;
  is = (
    omega (arith, feeds_more h.pieces k.line, h.is.0, one_feed k.line k.is),
    λ some. subst (λ (l : List ℕ). AreLines l (n + 1)) (sym (joined_more h.pieces k.line)) (lines_more (joined h.pieces) k.line n h.is.0 k.is),
  );
}

pub source_cut : {old now new : Conversation} {n : ℕ} (count : ℕ) {before mid after : List ℕ} → n < count → HeardSource old now n before mid true → HeardLine now new mid after false → HeardSource old new count before after false
source_cut {n = n} count less h k = record {
  pieces = h.pieces ++ k.line ∷ [];
  added = added_more _ h.pieces k.line h.added k.added;
  said = said_more h.pieces k.line h.said k.said;
  failures = k.failures ∙ h.failures;
  is = (
    omega (arith, feeds_more h.pieces k.line, h.is.0, k.is, less),
    record { front = h.pieces; last = k.line; is = refl; unended = k.is },
  );
}

pub fails_then : {a b : ℕ} (c : ℕ) (why : RunFault) → b ≡ a → HearFails b c why → HearFails a c why
fails_then c why e h = subst (λ (n : ℕ). HearFails n c why) e h

pub source_fails : {old now : Conversation} {new : Conversation} {n : ℕ} {before mid : List ℕ} (why : RunFault) → HeardSource old now n before mid true → NotHeard now new why → NotHeardSource old new why
source_fails {new = new} why h k = record {
  pieces = h.pieces ++ k.bytes ∷ [];
  said = said_more h.pieces k.bytes h.said k.said;
  fails = fails_then new.failures why h.failures k.fails;
}

pub source_more_by : {old now new : Conversation} {n : ℕ} {before mid after : List ℕ} (w : Bool) → w ≡ true → HeardSource old now n before mid true → HeardLine now new mid after w → HeardSource old new (n + 1) before after true
source_more_by {now = now} {new = new} {mid = mid} {after = after} w e h k = source_more h (subst (λ (v : Bool). HeardLine now new mid after v) e k)

pub source_cut_by : {old now new : Conversation} {n : ℕ} (count : ℕ) {before mid after : List ℕ} (w : Bool) → w ≡ false → n < count → HeardSource old now n before mid true → HeardLine now new mid after w → HeardSource old new count before after false
source_cut_by {now = now} {new = new} count {mid = mid} {after = after} w e less h k = source_cut count less h (subst (λ (v : Bool). HeardLine now new mid after v) e k)
