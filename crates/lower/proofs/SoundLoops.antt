-- Loops whose body and condition are sound.
use Rattle.std.proofs.Common.{◌≡◌, ℕ, suc, ◌+◌, ◌-◌, ◌≤◌, IsTrue, List, [], ◌∷◌, ◌++◌, length, slice_get, refl, ap, sym, subst, ◌∙◌, arith}
use Rattle.std.proofs.lemmas.List.{length-append}
use Rattle.regcode.specs.Listing.{Listing}
use Rattle.regcode.specs.Rules.{loops_at, most_loops, is_turn, MayGoOn}
use Rattle.regcode.specs.declared.instruction.Instruction.{Instruction}
use Rattle.regcode.specs.declared.instruction.Instruction.TheVariants as instruction
use Rattle.lower_code.specs.Code.{Exits, body_exits, while_code, do_code, turn_code}
use Rattle.lower.specs.Accepted.{Standing, ends, Going, Opens, Sound}
use Rattle.lower.proofs.Sound.{leads_at, leads_more, there, first_leads, standing_left, standing_right, ends_both, going_both}

module _ (n d : ℕ) (exits : Exits) (body condition : List Instruction) (a : Sound n (d + 1) (body_exits (length condition + 1) exits) body) (b : Sound n (d + 1) (body_exits 1 exits) condition) where
  abbrev by : ℕ
  by = length body + length condition + 1

  abbrev way : List Instruction
  way = instruction.Back by ∷ []

  abbrev tail : List Instruction
  tail = condition ++ way

  -- the places of a turn
  module _ (L : Listing) (turn : ℕ) (h : Standing L turn (d + 1) (turn_code d body condition)) where
    body_stands : Standing L (turn + 1) (d + 1) body
    body_stands = standing_left L (turn + 1) (d + 1) body tail h.2

    tail_stands : Standing L (turn + 1 + length body) (d + 1) tail
    tail_stands = standing_right L (turn + 1) (d + 1) body tail (turn + 1 + length body) (d + 1) refl a.balanced h.2

    condition_stands : Standing L (turn + 1 + length body) (d + 1) condition
    condition_stands = standing_left L (turn + 1 + length body) (d + 1) condition way tail_stands

    way_stands : Standing L (turn + 1 + length body + length condition) (d + 1) way
    way_stands = standing_right L (turn + 1 + length body) (d + 1) condition way (turn + 1 + length body + length condition) (d + 1) refl b.balanced tail_stands

    way_leads : MayGoOn L (turn + 1 + length body + length condition) (d + 1)
    way_leads = there L (turn + 1 + length body + length condition) (d + 1) (instruction.Back by) way_stands.0 way_stands.1

    condition_leads : MayGoOn L (turn + 1 + length body) (d + 1)
    condition_leads = first_leads L (turn + 1 + length body) (d + 1) condition (turn + 1 + length body + length condition) condition_stands refl way_leads

    turn_goes : (end : ℕ) → turn + length (turn_code d body condition) ≡ end → Opens L d end exits → d + suc n ≤ most_loops → Going L turn (turn_code d body condition)
    turn_goes end e opens limit =
        let all = length-append body tail in
        let all' = length-append condition way in
        let back = turn + 1 + length body + length condition in
        let whole : back + 1 ≡ end = omega (arith, e, all, all') in
        let here = h.1 in
        let last = way_stands.1 in
        let back_is : back - by ≡ turn = omega arith in (
          (omega (arith, here), first_leads L (turn + 1) (d + 1) body (turn + 1 + length body) body_stands refl condition_leads),
          omega (arith, here, limit),
          going_both L (turn + 1) body tail (turn + 1 + length body) refl
              (a.goes L (turn + 1) (turn + 1 + length body) body_stands refl
              (record {
                next = condition_leads;
                broken = leads_at L (d + 1) end (turn + 1 + length body + (length condition + 1)) (omega (arith, whole)) (leads_more L end d (d + 1) (omega arith) opens.next);
                continued = leads_at L (d + 1) (turn + 1 + length body) (turn + 1 + length body + 0) (omega arith) condition_leads;
                returned = leads_at L (d + 1) (end + exits.returned) (turn + 1 + length body + (length condition + 1 + exits.returned)) (omega (arith, whole)) (leads_more L (end + exits.returned) d (d + 1) (omega arith) opens.returned);
              })
              (omega (arith, limit)))
              (going_both L (turn + 1 + length body) condition way back refl
              (b.goes L (turn + 1 + length body) back condition_stands refl
              (record {
                next = way_leads;
                broken = leads_at L (d + 1) end (back + 1) (omega (arith, whole)) (leads_more L end d (d + 1) (omega arith) opens.next);
                continued = leads_at L (d + 1) back (back + 0) (omega arith) way_leads;
                returned = leads_at L (d + 1) (end + exits.returned) (back + (1 + exits.returned)) (omega (arith, whole)) (leads_more L (end + exits.returned) d (d + 1) (omega arith) opens.returned);
              })
              (omega (arith, limit))) (
                (
                  omega arith,
                  subst (λ p. IsTrue (is_turn (slice_get L.instructions p))) (sym back_is) (subst (λ o. IsTrue (is_turn o)) (sym h.0) refl),
                  subst (λ p. loops_at L p ≤ loops_at L back) (sym back_is) (omega (arith, here, last)),
                ),
                omega (arith, last, limit),
                tt,
              )),
        )

  turn_ends : ends (d + 1) (turn_code d body condition) ≡ d
  turn_ends =
      ends_both (d + 1) body tail ∙ ap (λ k. ends k tail) a.balanced ∙ ends_both (d + 1) condition way ∙ ap (λ k. ends k way) b.balanced ∙ (let r : d + 1 - 1 ≡ d = omega arith in r)

  pub sound_do : Sound (suc n) d exits (do_code d body condition)
  sound_do =
      record {
        balanced = turn_ends;
        goes = λ L at end h e opens limit.
            let same = h.1 in (
              (omega (arith, same), omega (arith, limit), there L (at + 1) (d + 1) (instruction.Turn d) h.2.0 h.2.1),
              omega (arith, same, limit),
              turn_goes L (at + 1) h.2 end (omega (arith, e)) opens limit,
            );
      }

  pub sound_while : Sound (suc n) d exits (while_code d body condition)
  sound_while =
      record {
        balanced = turn_ends;
        goes = λ L at end h e opens limit.
            let same = h.1 in
            let jump = h.2.1 in (
              (omega (arith, same), omega (arith, limit), there L (at + 1) (d + 1) (instruction.Jump (1 + length body)) h.2.0 h.2.1),
              omega (arith, same, limit),
              (
                subst (λ k. MayGoOn L (at + 1 + 1 + (1 + length body)) k) (sym h.2.1)
                    (leads_at L (d + 1) (at + 1 + 1 + 1 + length body) (at + 1 + 1 + (1 + length body)) (omega arith) (condition_leads L (at + 1 + 1) h.2.2)),
                omega (arith, jump, limit),
                turn_goes L (at + 1 + 1) h.2.2 end (omega (arith, e)) opens limit,
              ),
            );
      }
