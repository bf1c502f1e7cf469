-- Scripts that differ in bytes alone, and what their replies have in common (own).
use Rattle.std.specs.Prelude.{◌≡◌, ℕ, Bool, List, [], ◌∷◌, drop}
use Rattle.limits.specs.declared.Configuration.{Configuration}
use Rattle.host_commands.specs.declared.command.Command.{Command}
use Rattle.host_commands.specs.declared.command.Command.TheVariants as command
use Rattle.host_commands.specs.declared.command.Reply.{Reply}
use Rattle.host_commands.specs.declared.command.Reply.TheVariants as reply
use Rattle.device.specs.Machine.{Machine, Answers, opening}
use Rattle.same_launches.specs.Verdicts.{AlikeBytes}
use Rattle.widening.specs.Widened.{is_free_at}

-- the bytes that a write puts into a buffer, or the pattern of a fill (OpenCL 1.2, 5.2.2 and 5.2.3)
abbrev pub data_of : Command → List ℕ
data_of (command.Write name at bytes) = bytes
data_of (command.Fill name at count pattern) = pattern
data_of _ = []

-- a write of other bytes, or a fill by another pattern; each other command is as it was
abbrev pub with_data : Command → List ℕ → Command
with_data (command.Write name at bytes) put = command.Write name at put
with_data (command.Fill name at count pattern) put = command.Fill name at count put
with_data c put = c

-- two commands are one, but for the bytes of a write or the pattern of a fill that is free, which has as many
abbrev pub MayDiffer : Bool → Command → Command → Type 0
MayDiffer free c d = (put : List ℕ) × AlikeBytes free (data_of c) put × (d ≡ with_data c put)

-- two scripts, command by command; those that are free are so by their places
abbrev pub ScriptsDiffer : List Bool → List Command → List Command → Type 0
ScriptsDiffer free [] [] = Unit {0}
ScriptsDiffer free (c ∷ cs) (d ∷ ds) = MayDiffer (is_free_at free 0) c d × ScriptsDiffer (drop 1 free) cs ds
ScriptsDiffer free _ _ = ⊥

-- two replies are one, but for bytes that were read, where these may differ: they are as many
abbrev pub AlikeReply : Bool → Reply → Reply → Type 0
AlikeReply differs (reply.Data xs) (reply.Data ys) = AlikeBytes differs xs ys
AlikeReply differs r s = r ≡ s

-- the replies to two scripts, one by one
abbrev pub AlikeReplies : List Bool → List Reply → List Reply → Type 0
AlikeReplies differs [] [] = Unit {0}
AlikeReplies differs (r ∷ rs) (s ∷ ss) = AlikeReply (is_free_at differs 0) r s × AlikeReplies (drop 1 differs) rs ss
AlikeReplies differs _ _ = ⊥

-- A run of the machine over commands: what each answers, after those before it (3.2.1). None lacks memory, which may
-- come in place of any answer (`Step`).
abbrev pub Runs : Machine → List Command → List Reply → Machine → Type 0
Runs old [] [] new = new ≡ old
Runs old (c ∷ cs) (r ∷ rs) new = (mid : Machine) × Answers old c r mid × Runs mid cs rs new
Runs old _ _ new = ⊥

-- a machine has one run over commands
abbrev pub RunsAreOne : Type 0
RunsAreOne =
    (old : Machine) (commands : List Command) (replies others : List Reply) (new last : Machine) → Runs old commands replies new → Runs old commands others last
    → (replies ≡ others) × (new ≡ last)

-- The replies to a script hold for all bytes of the writes and all patterns of the fills that are free, by their
-- places: with any others, as long, the run over the script of a machine of this configuration, of which there is one
-- (`RunsAreOne`), has the same replies, but for the bytes of those reads that may differ.
abbrev pub IsWideScript : Configuration → (free reads : List Bool) → List Command → List Reply → Type 0
IsWideScript configuration free reads commands replies =
    (others : List Command) → ScriptsDiffer free commands others
    → ∥ ((given : List Reply) × (new : Machine) × Runs (opening configuration) others given new × AlikeReplies reads replies given) ∥₁
