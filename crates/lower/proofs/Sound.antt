-- Code whose jumps and loops are sound wherever it stands.
use Rattle.std.proofs.Common.{◌≡◌, ℕ, zero, suc, ◌+◌, ◌≤◌, Some, List, [], ◌∷◌, ◌++◌, length, slice_get, refl, ap, sym, subst, ◌∙◌, arith}
use Rattle.std.proofs.lemmas.List.{length-append}
use Rattle.std.proofs.lemmas.Option.{slice_get_within}
use Rattle.clmodel.specs.declared.action.Fences.{Fences}
use Rattle.regcode.specs.Listing.{Listing}
use Rattle.regcode.specs.Rules.{loops_at, most_loops, MayGoOn, LeadsInside}
use Rattle.regcode.specs.declared.instruction.Instruction.{Instruction}
use Rattle.regcode.specs.declared.instruction.Instruction.TheVariants as instruction
use Rattle.lower_code.specs.Code.{Exits, past}
use Rattle.code_tables.specs.Tables.{depth_after}
use Rattle.lower.specs.Accepted.{Stays, Flat, Standing, ends, Going, Opens, Sound}

pub leads_at : (L : Listing) (d p q : ℕ) → p ≡ q → MayGoOn L p d → MayGoOn L q d
leads_at L d p q e h = subst (λ n. MayGoOn L n d) e h

pub leads_more : (L : Listing) (p d e : ℕ) → d ≤ e → MayGoOn L p d → MayGoOn L p e
leads_more L p d e more h = let a = h.1 in (h.0, omega (arith, more, a))

pub there : (L : Listing) (at d : ℕ) (i : Instruction) → slice_get L.instructions at ≡ Some i → loops_at L at ≡ d → MayGoOn L at d
there L at d i is e = (slice_get_within L.instructions at i is, omega (arith, e))

pub first_leads : (L : Listing) (at d : ℕ) (code : List Instruction) (end : ℕ) → Standing L at d code → at + length code ≡ end → MayGoOn L end d → MayGoOn L at d
first_leads L at d [] end h e leads = leads_at L d end at (omega (arith, e)) leads
first_leads L at d (i ∷ code) end h e leads = there L at d i h.0 h.1

pub standing_left : (L : Listing) (at d : ℕ) (xs ys : List Instruction) → Standing L at d (xs ++ ys) → Standing L at d xs
standing_left L at d [] ys h = tt
standing_left L at d (x ∷ xs) ys h = (h.0, h.1, standing_left L (at + 1) (depth_after d x) xs ys h.2)

pub standing_right : (L : Listing) (at d : ℕ) (xs ys : List Instruction) (later e : ℕ) → at + length xs ≡ later → ends d xs ≡ e → Standing L at d (xs ++ ys) → Standing L later e ys
standing_right L at d [] ys later e p q h = subst (λ n. Standing L n e ys) (let r : at ≡ later = omega (arith, p) in r) (subst (λ n. Standing L at n ys) q h)
standing_right L at d (x ∷ xs) ys later e p q h = standing_right L (at + 1) (depth_after d x) xs ys later e (omega (arith, p)) q h.2

standing_at : (L : Listing) (at later d : ℕ) (code : List Instruction) → at ≡ later → Standing L at d code → Standing L later d code
standing_at L at later d code e h = subst (λ n. Standing L n d code) e h

pub ends_both : (d : ℕ) (xs ys : List Instruction) → ends d (xs ++ ys) ≡ ends (ends d xs) ys
ends_both d [] ys = refl
ends_both d (x ∷ xs) ys = ends_both (depth_after d x) xs ys

pub going_both : (L : Listing) (at : ℕ) (xs ys : List Instruction) (later : ℕ) → at + length xs ≡ later → Going L at xs → Going L later ys → Going L at (xs ++ ys)
going_both L at [] ys later e a b = subst (λ n. Going L n ys) (let r : later ≡ at = omega (arith, e) in r) b
going_both L at (x ∷ xs) ys later e a b = (a.0, a.1, going_both L (at + 1) xs ys later (omega (arith, e)) a.2 b)

going_at : (L : Listing) (at later : ℕ) (code : List Instruction) → at ≡ later → Going L at code → Going L later code
going_at L at later code e h = subst (λ n. Going L n code) e h

stays_depth : (d : ℕ) (i : Instruction) (n : ℕ) → Stays i n → depth_after d i ≡ d
stays_depth d (instruction.Barrier site depth fences) n h = absurd h
stays_depth d (instruction.Enter depth) n h = absurd h
stays_depth d (instruction.Turn depth) n h = absurd h
stays_depth d (instruction.Back by) n h = absurd h
stays_depth d _ n h = refl

flat_ends : (d : ℕ) (code : List Instruction) → Flat code → ends d code ≡ d
flat_ends d [] h = refl
flat_ends d (i ∷ code) h = ap (λ n. ends n code) (stays_depth d i (length code) h.0) ∙ flat_ends d code h.1

-- what stands inside flat code or behind it
flat_leads : (L : Listing) (at d : ℕ) (code : List Instruction) (end : ℕ) → Flat code → Standing L at d code → at + length code ≡ end → MayGoOn L end d
    → (by : ℕ) → by ≤ length code → MayGoOn L (at + by) d
flat_leads L at d code end flat h e leads zero less = leads_at L d at (at + 0) (omega arith) (first_leads L at d code end h e leads)
flat_leads L at d [] end flat h e leads (suc by) less = absurd (omega (arith, less))
flat_leads L at d (i ∷ code) end flat h e leads (suc by) less =
    leads_at L d (at + 1 + by) (at + suc by) (omega arith)
    (flat_leads L (at + 1) d code end flat.1 (subst (λ n. Standing L (at + 1) n code) (stays_depth d i (length code) flat.0) h.2) (omega (arith, e)) leads by (omega (arith, less)))

stays_inside : (L : Listing) (at d : ℕ) (i : Instruction) (n : ℕ) → Stays i n → loops_at L at ≡ d → ((by : ℕ) → by ≤ n → MayGoOn L (at + 1 + by) d) → MayGoOn L (at + 1) d → LeadsInside L at i
stays_inside L at d (instruction.Jump by) n h e into next = subst (λ k. MayGoOn L (at + 1 + by) k) (sym e) (into by h)
stays_inside L at d (instruction.JumpIfZero register by) n h e into next = (subst (λ k. MayGoOn L (at + 1) k) (sym e) next, subst (λ k. MayGoOn L (at + 1 + by) k) (sym e) (into by h))
stays_inside L at d (instruction.Barrier site depth fences) n h e into next = absurd h
stays_inside L at d (instruction.Enter depth) n h e into next = absurd h
stays_inside L at d (instruction.Turn depth) n h e into next = absurd h
stays_inside L at d (instruction.Back by) n h e into next = absurd h
stays_inside L at d instruction.End n h e into next = tt
stays_inside L at d _ n h e into next = subst (λ k. MayGoOn L (at + 1) k) (sym e) next

flat_goes : (L : Listing) (at d : ℕ) (code : List Instruction) (end : ℕ) → Flat code → Standing L at d code → at + length code ≡ end → MayGoOn L end d → d ≤ most_loops → Going L at code
flat_goes L at d [] end flat h e leads few = tt
flat_goes L at d (i ∷ code) end flat h e leads few =
    let rest = subst (λ n. Standing L (at + 1) n code) (stays_depth d i (length code) flat.0) h.2 in
    let same = h.1 in (
      stays_inside L at d i (length code) flat.0 h.1 (flat_leads L (at + 1) d code end flat.1 rest (omega (arith, e)) leads) (first_leads L (at + 1) d code end rest (omega (arith, e)) leads),
      omega (arith, same, few),
      flat_goes L (at + 1) d code end flat.1 rest (omega (arith, e)) leads few,
    )

pub sound_flat : (n d : ℕ) (exits : Exits) (code : List Instruction) → Flat code → Sound n d exits code
sound_flat n d exits code flat =
    record {
      balanced = flat_ends d code flat;
      goes = λ L at end h e opens limit. flat_goes L at d code end flat h e opens.next (omega (arith, limit));
    }

pub sound_more : (n m d : ℕ) (exits : Exits) (code : List Instruction) → n ≤ m → Sound n d exits code → Sound m d exits code
sound_more n m d exits code more s = record { balanced = s.balanced; goes = λ L at end h e opens limit. s.goes L at end h e opens (omega (arith, more, limit)) }

-- code one after the other, where the first goes on as the second lets it
pub sound_then : (n d : ℕ) (first exits : Exits) (xs ys : List Instruction)
    → ((L : Listing) (middle end : ℕ) → middle + length ys ≡ end → MayGoOn L middle d → Opens L d end exits → Opens L d middle first)
    → Sound n d first xs → Sound n d exits ys → Sound n d exits (xs ++ ys)
sound_then n d first exits xs ys opens_first a b =
    let all = length-append xs ys in
    record {
      balanced = ends_both d xs ys ∙ ap (λ k. ends k ys) a.balanced ∙ b.balanced;
      goes = λ L at end h e opens limit.
          let rest = standing_right L at d xs ys (at + length xs) d refl a.balanced h in
          let length_is : at + length xs + length ys ≡ end = omega (arith, e, all) in
          let middle = first_leads L (at + length xs) d ys end rest length_is opens.next in
          going_both L at xs ys (at + length xs) refl
          (a.goes L at (at + length xs) (standing_left L at d xs ys h) refl (opens_first L (at + length xs) end length_is middle opens) limit)
          (b.goes L (at + length xs) end rest length_is opens limit);
    }

pub opens_past : (d : ℕ) (exits : Exits) (ys : List Instruction) (L : Listing) (middle end : ℕ) → middle + length ys ≡ end → MayGoOn L middle d → Opens L d end exits → Opens L d middle (past (length ys) exits)
opens_past d exits ys L middle end e leads o =
    record {
      next = leads;
      broken = leads_at L d (end + exits.broken) (middle + (length ys + exits.broken)) (omega (arith, e)) o.broken;
      continued = leads_at L d (end + exits.continued) (middle + (length ys + exits.continued)) (omega (arith, e)) o.continued;
      returned = leads_at L d (end + exits.returned) (middle + (length ys + exits.returned)) (omega (arith, e)) o.returned;
    }

pub sound_both : (n d : ℕ) (exits : Exits) (xs ys : List Instruction) → Sound n d (past (length ys) exits) xs → Sound n d exits ys → Sound n d exits (xs ++ ys)
sound_both n d exits xs ys a b = sound_then n d (past (length ys) exits) exits xs ys (opens_past d exits ys) a b

-- a way out
pub sound_exit : (n d : ℕ) (exits : Exits) (by : ℕ) → ((L : Listing) (end : ℕ) → Opens L d end exits → MayGoOn L (end + by) d) → Sound n d exits (instruction.Jump by ∷ [])
sound_exit n d exits by out =
    record {
      balanced = refl;
      goes = λ L at end h e opens limit.
          let same = h.1 in
          (subst (λ k. MayGoOn L (at + 1 + by) k) (sym h.1) (leads_at L d (end + by) (at + 1 + by) (omega (arith, e)) (out L end opens)), omega (arith, same, limit), tt);
    }

pub sound_barrier : (n d : ℕ) (exits : Exits) (site : ℕ) (named : Fences) → Sound n d exits (instruction.Barrier site d named ∷ [])
sound_barrier n d exits site named =
    record {
      balanced = refl;
      goes = λ L at end h e opens limit.
          let same = h.1 in
          ((omega (arith, same), subst (λ k. MayGoOn L (at + 1) k) (sym h.1) (leads_at L d end (at + 1) (omega (arith, e)) opens.next)), omega (arith, same, limit), tt);
    }

-- the last jump of a condition, which goes past the way back
pub sound_test : (n d : ℕ) (exits : Exits) (register : ℕ) → exits.broken ≡ 1 → Sound n d exits (instruction.JumpIfZero register 1 ∷ [])
sound_test n d exits register one =
    record {
      balanced = refl;
      goes = λ L at end h e opens limit.
          let same = h.1 in (
            (
              subst (λ k. MayGoOn L (at + 1) k) (sym h.1) (leads_at L d end (at + 1) (omega (arith, e)) opens.next),
              subst (λ k. MayGoOn L (at + 1 + 1) k) (sym h.1) (leads_at L d (end + exits.broken) (at + 1 + 1) (omega (arith, e, one)) opens.broken),
            ),
            omega (arith, same, limit),
            tt,
          );
    }

-- a jump past code
pub sound_branch : (n d : ℕ) (exits : Exits) (register : ℕ) (chosen : List Instruction) → Sound n d exits chosen → Sound n d exits (instruction.JumpIfZero register (length chosen) ∷ chosen)
sound_branch n d exits register chosen a =
    record {
      balanced = a.balanced;
      goes = λ L at end h e opens limit.
          let same = h.1 in
          let next = first_leads L (at + 1) d chosen end h.2 (omega (arith, e)) opens.next in (
            (
              subst (λ k. MayGoOn L (at + 1) k) (sym h.1) next,
              subst (λ k. MayGoOn L (at + 1 + length chosen) k) (sym h.1) (leads_at L d end (at + 1 + length chosen) (omega (arith, e)) opens.next),
            ),
            omega (arith, same, limit),
            a.goes L (at + 1) end h.2 (omega (arith, e)) opens limit,
          );
    }

-- a jump past code and the jump behind it, that code, and the jump past the second side
pub sound_sides : (n d : ℕ) (exits : Exits) (register : ℕ) (chosen otherwise : List Instruction) → Sound n d (past (length otherwise + 1) exits) chosen → Sound n d exits otherwise
    → Sound n d exits (instruction.JumpIfZero register (length chosen + 1) ∷ (chosen ++ (instruction.Jump (length otherwise) ∷ otherwise)))
sound_sides n d exits register chosen otherwise a b =
    let second : List Instruction = instruction.Jump (length otherwise) ∷ otherwise in
    let all = length-append chosen second in
    record {
      balanced = ends_both d chosen second ∙ ap (λ k. ends k second) a.balanced ∙ b.balanced;
      goes = λ L at end h e opens limit.
          let same = h.1 in
          let jump = at + 1 + length chosen in
          let rest = standing_right L (at + 1) d chosen second jump d refl a.balanced h.2 in
          let to_jump = there L jump d (instruction.Jump (length otherwise)) rest.0 rest.1 in
          let other = first_leads L (jump + 1) d otherwise end rest.2 (omega (arith, e, all)) opens.next in
          let same_jump = rest.1 in
          let length_is : jump + 1 + length otherwise ≡ end = omega (arith, e, all) in (
            (
              subst (λ k. MayGoOn L (at + 1) k) (sym h.1) (first_leads L (at + 1) d chosen jump (standing_left L (at + 1) d chosen second h.2) refl to_jump),
              subst (λ k. MayGoOn L (at + 1 + (length chosen + 1)) k) (sym h.1) (leads_at L d (jump + 1) (at + 1 + (length chosen + 1)) (omega arith) other),
            ),
            omega (arith, same, limit),
            going_both L (at + 1) chosen second jump refl
                (a.goes L (at + 1) jump (standing_left L (at + 1) d chosen second h.2) refl
                (record {
                  next = to_jump;
                  broken = leads_at L d (end + exits.broken) (jump + (length otherwise + 1 + exits.broken)) (omega (arith, length_is)) opens.broken;
                  continued = leads_at L d (end + exits.continued) (jump + (length otherwise + 1 + exits.continued)) (omega (arith, length_is)) opens.continued;
                  returned = leads_at L d (end + exits.returned) (jump + (length otherwise + 1 + exits.returned)) (omega (arith, length_is)) opens.returned;
                }) limit) (
                  subst (λ k. MayGoOn L (jump + 1 + length otherwise) k) (sym rest.1) (leads_at L d end (jump + 1 + length otherwise) (omega (arith, length_is)) opens.next),
                  omega (arith, same_jump, limit),
                  b.goes L (jump + 1) end rest.2 length_is opens limit,
                ),
          );
    }
