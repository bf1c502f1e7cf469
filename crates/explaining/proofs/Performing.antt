-- Commands performed one behind another.
use Rattle.std.proofs.Common.{◌≡◌, ◌||◌, ◌+◌, ℕ, suc, Bool, true, false, Some, List, [], ◌∷◌, ◌++◌, length, take, replicate, refl, sym, ap, ◌∙◌, subst, arith}
use Rattle.std.specs.Prelude.{slice_get}
use Rattle.std.proofs.Math.Bool.{or-false, or_assoc}
use Rattle.std.proofs.lemmas.Bool.{false≢true}
use Rattle.std.proofs.lemmas.Grind.{common_steps}
use Rattle.std.proofs.lemmas.List.{replicate_more}
use Rattle.device.specs.Machine.{Machine, Step}
use Rattle.host_commands.specs.declared.command.Command.{Command}
use Rattle.host_commands.specs.declared.command.Refusal.TheVariants as refusal
use Rattle.host_commands.specs.declared.command.Reply.{Reply}
use Rattle.host_commands.specs.declared.command.Reply.TheVariants as reply
use Rattle.explaining.specs.Leading.{EndsAt, HadMemory, IsFirst, IsNoted, Leads, LeadsCleanly, LeadsThrough, WalkedTo, done_to, goes_on, is_done, is_ordered}
use Rattle.explaining.specs.declared.walks.Walked.{Walked}
use Rattle.explaining.specs.declared.walks.Walked.TheVariants as walked

pub leads_more : (old now new : Machine) (done : List Command) (c : Command) (r : Reply) (flags all : List Bool) → Leads old done now flags → Step now c r new → HadMemory r
    → all ≡ flags ++ is_done r ∷ [] → Leads old (done ++ c ∷ []) new all
leads_more old now new [] c r flags all (same, none) step memory noted =
    (new, r, [], subst (λ m. Step m c r new) same step, memory, (refl, refl), noted ∙ ap (λ l. l ++ is_done r ∷ []) none)
leads_more old now new (d ∷ done) c r flags all (mid, s, rest, first, had, more, split) step memory noted =
    (mid, s, rest ++ is_done r ∷ [], first, had, leads_more mid now new done c r rest (rest ++ is_done r ∷ []) more step memory refl, noted ∙ ap (λ l. l ++ is_done r ∷ []) split)

-- whether one of the replies is `ordered` needn't be known
pub cleanly : (old new : Machine) (commands : List Command) (ordered : Bool) → LeadsThrough old commands new ordered → LeadsCleanly old commands new
cleanly old new [] ordered (same, none) = same
cleanly old new (c ∷ cs) ordered (mid, r, rest, step, memory, on, led, split) = (mid, r, step, memory, on, cleanly mid new cs rest led)

pub through_more :
    (old now new : Machine) (done : List Command) (c : Command) (r : Reply) (before after : Bool) → LeadsThrough old done now before → Step now c r new → HadMemory r → goes_on r ≡ true
    → after ≡ (before || is_ordered r) → LeadsThrough old (done ++ c ∷ []) new after
through_more old now new [] c r before after (same, none) step memory on is =
    (new, r, false, subst (λ m. Step m c r new) same step, memory, on, (refl, refl), is ∙ ap (λ b. b || is_ordered r) none ∙ sym (or-false (is_ordered r)))
through_more old now new (d ∷ done) c r before after (mid, s, rest, first, had, went, more, split) step memory on is = (
  mid,
  s,
  rest || is_ordered r,
  first,
  had,
  went,
  through_more mid now new done c r rest (rest || is_ordered r) more step memory on refl,
  is ∙ ap (λ b. b || is_ordered r) split ∙ or_assoc (is_ordered s) rest (is_ordered r),
)

-- the first command behind others
pub get_behind : (done rest : List Command) (c : Command) → slice_get (done ++ c ∷ rest) (length done) ≡ Some c
get_behind [] rest c = refl
get_behind (d ∷ done) rest c =
    let counted : length (d ∷ done) ≡ suc (length done) = omega arith in
    subst (λ n. slice_get (d ∷ done ++ c ∷ rest) n ≡ Some c) (sym counted) (get_behind done rest c)

take_before : (done rest : List Command) → take (length done) (done ++ rest) ≡ done
take_before done rest = grind (arith, common_steps)

-- the first command behind others that led without a fault
pub first_behind :
    (old : Machine) (commands done rest : List Command) (c : Command) (before new : Machine) → commands ≡ done ++ c ∷ rest → LeadsCleanly old done before → (r : Reply)
    → Step before c r new → (ticket : ℕ) → ticket ≡ length done → IsFirst old commands new ticket r
first_behind old commands done rest c before new split led r step ticket counted = record {
  before = before;
  command = c;
  at = ap (λ l. slice_get l ticket) split ∙ ap (λ n. slice_get (done ++ c ∷ rest) n) counted ∙ get_behind done rest c;
  led = subst (λ l. LeadsCleanly old l before) (sym (ap (λ l. take ticket l) split ∙ ap (λ n. take n (done ++ c ∷ rest)) counted ∙ take_before done (c ∷ rest))) led;
  replied = step;
}

-- a walk that ends at a reply
pub walk_ends :
    (old : Machine) (commands done rest : List Command) (c : Command) (before new : Machine) → commands ≡ done ++ c ∷ rest → LeadsCleanly old done before → (r : Reply)
    → Step before c r new → (ticket : ℕ) → ticket ≡ length done → (w : Walked) → EndsAt ticket r w → WalkedTo old commands new w
walk_ends old commands done rest c before new split led r step ticket counted w ends = go w ends
  where
    at : IsFirst old commands new ticket r
    at = first_behind old commands done rest c before new split led r step ticket counted

    go : (w : Walked) → EndsAt ticket r w → WalkedTo old commands new w
    go (walked.Passed ordered) h = absurd h
    go (walked.Faulted case) (same, is) = subst (λ n. IsFirst old commands new n (reply.Fault case.fault case.schedule)) (sym same) (subst (IsFirst old commands new ticket) is at)
    go (walked.Unbuilt build) (same, is) =
        subst (λ n. IsFirst old commands new n (reply.Refused (refusal.BuildFailed build.fault))) (sym same) (subst (IsFirst old commands new ticket) is at)
    go (walked.Refused case) (same, is) = subst (λ n. IsFirst old commands new n (reply.Refused case.refusal)) (sym same) (subst (IsFirst old commands new ticket) is at)

-- a command behind which a walk goes on was done
goes_done : (r : Reply) → goes_on r ≡ true → is_done r ≡ true
goes_done reply.Done on = refl
goes_done (reply.Data bytes) on = refl
goes_done reply.Clean on = refl
goes_done reply.Ordered on = refl
goes_done (reply.Fault f runs) on = refl
goes_done (reply.Refused why) on = absurd (false≢true on)

-- so all those before it were
pub noted_more : (flags all : List Bool) (n m : ℕ) (r : Reply) → flags ≡ replicate n true → all ≡ flags ++ is_done r ∷ [] → goes_on r ≡ true → m ≡ n + 1 → all ≡ replicate m true
noted_more flags all n m r so_far noted on more =
    noted ∙ ap (λ l. l ++ is_done r ∷ []) so_far ∙ ap (λ b. replicate n true ++ b ∷ []) (goes_done r on) ∙ replicate_more n true ∙ ap (λ k. replicate k true) (sym more)

-- what is noted where a walk ends
pub noted_end : (flags all : List Bool) (n ticket : ℕ) (r : Reply) (w : Walked) → flags ≡ replicate n true → all ≡ flags ++ is_done r ∷ [] → ticket ≡ n → EndsAt ticket r w → IsNoted w all
noted_end flags all n ticket r w so_far noted counted ends = go w ends
  where
    here : all ≡ done_to ticket r
    here = noted ∙ ap (λ l. l ++ is_done r ∷ []) so_far ∙ ap (λ k. done_to k r) (sym counted)

    go : (w : Walked) → EndsAt ticket r w → IsNoted w all
    go (walked.Passed ordered) h = absurd h
    go (walked.Faulted case) (same, is) = here ∙ ap (λ k. done_to k r) (sym same) ∙ ap (λ (a : Reply). done_to case.ticket a) is
    go (walked.Unbuilt build) (same, is) = here ∙ ap (λ k. done_to k r) (sym same) ∙ ap (λ (a : Reply). done_to build.ticket a) is
    go (walked.Refused case) (same, is) = here ∙ ap (λ k. done_to k r) (sym same) ∙ ap (λ (a : Reply). done_to case.ticket a) is
