-- Replies with lines beside them, one behind another.
use Rattle.std.proofs.Common.{ℕ, List, [], ◌∷◌, ◌++◌, refl, ap, sym, ◌∙◌, append_assoc}
use Rattle.std.specs.List.{flat_map}
use Rattle.std.proofs.lemmas.Grind.{flat_map-append}
use Rattle.std.proofs.lemmas.List.{append-nil}
use Rattle.std.proofs.lemmas.List.Elements.{All-append, All-cons, All-nil}
use Rattle.host_commands.specs.declared.command.Reply.{Reply}
use Rattle.simfile.specs.Lines.{line}
use Rattle.wide_sources.specs.Words.{IsOneLine}
use Rattle.wide_text.specs.Told.{AreAsides, AreReplies, aside}

pub no_asides : AreAsides []
no_asides = ([], All-nil IsOneLine, refl)

pub aside_more : (text x : List ℕ) → AreAsides text → IsOneLine x → AreAsides (text ++ aside x)
aside_more text x asides one = (
  asides.0 ++ x ∷ [],
  All-append IsOneLine asides.0 (x ∷ []) asides.1 (All-cons IsOneLine x [] one (All-nil IsOneLine)),
  ap (λ t. t ++ aside x) asides.2 ∙ (ap (λ t. flat_map aside asides.0 ++ t) (sym (append-nil (aside x))) ∙ sym (flat_map-append aside asides.0 (x ∷ []))),
)

pub reply_more : (replies : List Reply) (reply : Reply) (text beside : List ℕ) → AreReplies replies text → AreAsides beside → AreReplies (replies ++ reply ∷ []) (text ++ (line reply ++ beside))
reply_more [] reply text beside are asides =
    (beside, [], asides, refl, ap (λ t. t ++ (line reply ++ beside)) are ∙ ap (λ t. line reply ++ t) (sym (append-nil beside)))
reply_more (r ∷ rs) reply text beside are asides = (
  are.0,
  are.1 ++ (line reply ++ beside),
  are.2,
  reply_more rs reply are.1 beside are.3 asides,
  ap (λ t. t ++ (line reply ++ beside)) are.4 ∙ (append_assoc (line r) (are.0 ++ are.1) (line reply ++ beside) ∙ ap (λ t. line r ++ t) (append_assoc are.0 are.1 (line reply ++ beside))),
)
