-- Commands that are performed one after another, up to one whose reply is to be explained (own).
use Rattle.std.specs.Prelude.{◌≡◌, ◌||◌, ℕ, Bool, true, false, ⊤, Some, List, [], ◌∷◌, ◌++◌, replicate, take, slice_get}
use Rattle.device.specs.Machine.{Machine, Step}
use Rattle.host_commands.specs.declared.command.Command.{Command}
use Rattle.host_commands.specs.declared.command.Refusal.TheVariants as refusal
use Rattle.host_commands.specs.declared.command.Reply.{Reply}
use Rattle.host_commands.specs.declared.command.Reply.TheVariants as reply
use Rattle.explaining.specs.declared.walks.Walked.{Walked}
use Rattle.explaining.specs.declared.walks.Walked.TheVariants as walked

-- a reply other than the refusal for want of memory
abbrev pub HadMemory : Reply → Type 0
HadMemory r = r ≡ reply.Refused refusal.OutOfMemory → ⊥

-- whether a command was done that has this reply, and not refused
abbrev pub is_done : Reply → Bool
is_done reply.Done = true
is_done (reply.Data bytes) = true
is_done reply.Clean = true
is_done reply.Ordered = true
is_done (reply.Fault f runs) = true
is_done (reply.Refused r) = false

-- The commands lead from a machine to another, and none is refused for want of memory. By its reply each was done, or
-- not.
abbrev pub Leads : Machine → List Command → Machine → List Bool → Type 0
Leads old [] new done = (new ≡ old) × (done ≡ [])
Leads old (c ∷ cs) new done = (mid : Machine) × (r : Reply) × (rest : List Bool) × Step old c r mid × HadMemory r × Leads mid cs new rest × (done ≡ is_done r ∷ rest)

-- whether a reply is neither a fault nor a refusal
abbrev pub goes_on : Reply → Bool
goes_on reply.Done = true
goes_on (reply.Data bytes) = true
goes_on reply.Clean = true
goes_on reply.Ordered = true
goes_on (reply.Fault f runs) = false
goes_on (reply.Refused r) = false

-- the same, and no reply is a fault or a refusal
abbrev pub LeadsCleanly : Machine → List Command → Machine → Type 0
LeadsCleanly old [] new = new ≡ old
LeadsCleanly old (c ∷ cs) new = (mid : Machine) × (r : Reply) × Step old c r mid × HadMemory r × (goes_on r ≡ true) × LeadsCleanly mid cs new

-- whether a reply is `ordered`
abbrev pub is_ordered : Reply → Bool
is_ordered reply.Done = false
is_ordered (reply.Data bytes) = false
is_ordered reply.Clean = false
is_ordered reply.Ordered = true
is_ordered (reply.Fault f runs) = false
is_ordered (reply.Refused r) = false

-- the same, and whether one of the replies is `ordered`
abbrev pub LeadsThrough : Machine → List Command → Machine → Bool → Type 0
LeadsThrough old [] new ordered = (new ≡ old) × (ordered ≡ false)
LeadsThrough old (c ∷ cs) new ordered =
    (mid : Machine) × (r : Reply) × (rest : Bool) × Step old c r mid × HadMemory r × (goes_on r ≡ true) × LeadsThrough mid cs new rest × (ordered ≡ (is_ordered r || rest))

-- a walk ends at the command of a number, since this is the reply to it
abbrev pub EndsAt : ℕ → Reply → Walked → Type 0
EndsAt ticket r (walked.Passed ordered) = ⊥
EndsAt ticket r (walked.Faulted case) = (case.ticket ≡ ticket) × (r ≡ reply.Fault case.fault case.schedule)
EndsAt ticket r (walked.Unbuilt build) = (build.ticket ≡ ticket) × (r ≡ reply.Refused (refusal.BuildFailed build.fault))
EndsAt ticket r (walked.Refused case) = (case.ticket ≡ ticket) × (r ≡ reply.Refused case.refusal)

-- The command of a number gets this reply, after those before it, whose replies are neither faults nor refusals.
pub record IsFirst (old : Machine) (commands : List Command) (new : Machine) (ticket : ℕ) (r : Reply) : Type 0 where
  pub before : Machine
  pub command : Command
  pub at : slice_get commands ticket ≡ Some command
  pub led : LeadsCleanly old (take ticket commands) before
  pub replied : Step before command r new

-- what a walk over commands comes to
abbrev pub WalkedTo : Machine → List Command → Machine → Walked → Type 0
WalkedTo old commands new (walked.Passed ordered) = LeadsThrough old commands new ordered
WalkedTo old commands new (walked.Faulted case) = IsFirst old commands new case.ticket (reply.Fault case.fault case.schedule)
WalkedTo old commands new (walked.Unbuilt build) = IsFirst old commands new build.ticket (reply.Refused (refusal.BuildFailed build.fault))
WalkedTo old commands new (walked.Refused case) = IsFirst old commands new case.ticket (reply.Refused case.refusal)

-- whether each command was done up to the one of a number, which has this reply: those before it were
abbrev pub done_to : ℕ → Reply → List Bool
done_to ticket r = replicate ticket true ++ is_done r ∷ []

-- the same of what a walk ends at
abbrev pub IsNoted : Walked → List Bool → Type 0
IsNoted (walked.Passed ordered) done = ⊤
IsNoted (walked.Faulted case) done = done ≡ done_to case.ticket (reply.Fault case.fault case.schedule)
IsNoted (walked.Unbuilt build) done = done ≡ done_to build.ticket (reply.Refused (refusal.BuildFailed build.fault))
IsNoted (walked.Refused case) done = done ≡ done_to case.ticket (reply.Refused case.refusal)

-- the command of a number gets this reply, behind which a machine is this one
pub record RepliesAt (commands : List Command) (new : Machine) (ticket : ℕ) (r : Reply) : Type 0 where
  pub before : Machine
  pub command : Command
  pub at : slice_get commands ticket ≡ Some command
  pub replied : Step before command r new

-- what a walk ends at is the reply to a command, behind which a machine is this one
abbrev pub StandsBehind : List Command → Machine → Walked → Type 0
StandsBehind commands new (walked.Passed ordered) = ⊤
StandsBehind commands new (walked.Faulted case) = RepliesAt commands new case.ticket (reply.Fault case.fault case.schedule)
StandsBehind commands new (walked.Unbuilt build) = RepliesAt commands new build.ticket (reply.Refused (refusal.BuildFailed build.fault))
StandsBehind commands new (walked.Refused case) = RepliesAt commands new case.ticket (reply.Refused case.refusal)

-- whether a walk ends at a fault or a refusal
abbrev pub is_end : Walked → Bool
is_end (walked.Passed ordered) = false
is_end (walked.Faulted case) = true
is_end (walked.Unbuilt build) = true
is_end (walked.Refused case) = true

-- a reply to commands is a fault or a refusal; it is told by the first
pub record HasEnd (old : Machine) (commands : List Command) : Type 0 where
  pub ticket : ℕ
  pub machine : Machine
  pub answer : Reply
  pub first : IsFirst old commands machine ticket answer
  pub ends : goes_on answer ≡ false

-- commands of which the first ones were done: whether a reply to these is a fault or a refusal; where none is, whether
-- one is `ordered`
abbrev pub IsMet : Machine → List Command → List Command → Machine → Bool → Bool → Type 0
IsMet old commands done new true ordered = HasEnd old commands
IsMet old commands done new false ordered = LeadsThrough old done new ordered
