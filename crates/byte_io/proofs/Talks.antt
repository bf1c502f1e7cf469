-- How the parts of a talk come one after another.
use Rattle.std.proofs.Common.{◌≡◌, ℕ, Option, None, Some, List, [], ◌∷◌, ◌++◌, Result, refl, ap, sym, ◌∙◌, subst, append_assoc}
use Rattle.std.proofs.lemmas.List.{append-nil}
use Rattle.std.proofs.lemmas.Grind.{flat_map-append}
use Rattle.std.specs.Io.KnownBytes.{Consumes}
use Rattle.byte_io.specs.declared.counted.ReadFault.{ReadFault}
use Rattle.byte_io.specs.Pieces.{joined}
use Rattle.byte_io.specs.Sink.{Sink, Wrote}
use Rattle.byte_io.proofs.Puts.{wrote_none, wrote_then}
use Rattle.byte_io.specs.Talk.{Event, Heard, Told, heard_in, told_in, heard, told, hearing, Conversation, Hears, Said}

consumes_none : (a : Option (List ℕ)) → Consumes a a []
consumes_none None = tt
consumes_none (Some xs) = refl

consumes_then : (a b c : Option (List ℕ)) (x y : List ℕ) → Consumes a b x → Consumes b c y → Consumes a c (x ++ y)
consumes_then None b c x y p q = tt
consumes_then (Some xs) None c x y p q = absurd p
consumes_then (Some xs) (Some ys) None x y p q = absurd q
consumes_then (Some xs) (Some ys) (Some zs) x y p q = p ∙ (ap (λ l. x ++ l) q ∙ sym (append_assoc x y zs))

pub heard-append : (es fs : List Event) → heard (es ++ fs) ≡ heard es ++ heard fs
heard-append es fs = flat_map-append heard_in es fs

pub told-append : (es fs : List Event) → told (es ++ fs) ≡ told es ++ told fs
told-append es fs = flat_map-append told_in es fs

pub heard-hearing : (pieces : List (List ℕ)) → heard (hearing pieces) ≡ joined pieces
heard-hearing [] = refl
heard-hearing (piece ∷ pieces) = ap (λ l. piece ++ l) (heard-hearing pieces)

pub told-hearing : (pieces : List (List ℕ)) → told (hearing pieces) ≡ []
told-hearing [] = refl
told-hearing (piece ∷ pieces) = told-hearing pieces

pub hearing-append : (ps qs : List (List ℕ)) → hearing (ps ++ qs) ≡ hearing ps ++ hearing qs
hearing-append [] qs = refl
hearing-append (p ∷ ps) qs = ap (λ l. Heard p ∷ l) (hearing-append ps qs)

pub said_none : (c : Conversation) → Said c c []
said_none c = record { talk = sym (append-nil c.talk); heard = consumes_none c.rest; told = wrote_none c.sink; released = λ h. h }

pub said_then : {a b c : Conversation} {es fs : List Event} → Said a b es → Said b c fs → Said a c (es ++ fs)
said_then {a} {b} {c} {es} {fs} h k = record {
  talk = k.talk ∙ (ap (λ l. l ++ fs) h.talk ∙ append_assoc a.talk es fs);
  heard = rw (heard-append es fs) (consumes_then a.rest b.rest c.rest (heard es) (heard fs) h.heard k.heard);
  told = rw (told-append es fs) (wrote_then h.told k.told);
  released = λ e. k.released (h.released e);
}

-- what hearing says, whether it ended well or not
pub said_heard : {old new : Conversation} {before after : List ℕ} {result : Result ℕ ReadFault} → (h : Hears old new before after result) → Said old new (Heard h.bytes ∷ [])
said_heard {old} {new} h = record {
  talk = h.talk;
  heard = rw append-nil h.taken;
  told = subst (λ (s : Sink). Wrote old.sink s []) (sym h.sink) (wrote_none old.sink);
  released = λ e. ap (λ s. s.held) h.sink ∙ e;
}

-- what telling says, where it ended well
pub said_told : {old new : Conversation} (text : List ℕ) → new.talk ≡ old.talk ++ Told text ∷ [] → Wrote old.sink new.sink text → new.sink.held ≡ [] → new.rest ≡ old.rest → Said old new (Told text ∷ [])
said_told {old} {new} text talk wrote released rest = record {
  talk = talk;
  heard = subst (λ (o : Option (List ℕ)). Consumes old.rest o []) (sym rest) (consumes_none old.rest);
  told = rw append-nil wrote;
  released = λ e. released;
}
