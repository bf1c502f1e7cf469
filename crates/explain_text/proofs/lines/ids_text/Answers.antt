use Rattle.std.proofs.Common.{◌≡◌, ◌++◌, [], ◌∷◌, List, ℕ, codes, decimal, string_bytes, append_assoc, refl, sym, ap, ◌∙◌}
use Rattle.std.specs.List.{flat_map}
use Rattle.explain_text.specs.Texts.{numbers_text}
use Rattle.explain_text.proofs.lines.ids_text.Goals as goal

append_nil : (xs : List ℕ) → xs ++ [] ≡ xs
append_nil [] = refl
append_nil (x ∷ xs) = ap (λ ys. x ∷ ys) (append_nil xs)

-- four parts that are put behind one another
four : (a b c d : List ℕ) → ((a ++ b) ++ c) ++ d ≡ flat_map (λ part. part) (a ∷ b ∷ c ∷ d ∷ [])
four a b c d = append_assoc (a ++ b) c d ∙ append_assoc a b (c ++ d) ∙ ap (λ x. a ++ (b ++ (c ++ x))) (sym (append_nil d))

pub returns : goal.returns
returns c =
    let global = c.as_str.ensures.value ∙ c.in_ok-global.ensures ∙ ap numbers_text c.as_slice.ensures.value in
    let local = c.as_str-2.ensures.value ∙ c.in_ok-local.ensures ∙ ap numbers_text c.as_slice-2.ensures.value in
    let group = c.as_str-3.ensures.value ∙ c.in_ok-group.ensures ∙ ap numbers_text c.as_slice-3.ensures.value in
    let ids = c.args.ids.now in
    let first : string_bytes c.push_item.new.out ≡ codes "work-item " ++ decimal c.args.item = c.in_ok-push_item.ensures ∙ ap (λ x. x ++ (codes "work-item " ++ decimal c.args.item)) c.new-out.ensures.bytes in
    let second = c.in_ok-push_both.ensures ∙ ap (λ x. x ++ (codes ": global id " ++ c.as_str.result.now)) first ∙ ap (λ x. (codes "work-item " ++ decimal c.args.item) ++ (codes ": global id " ++ x)) global in
    let third = c.in_ok-push_both-2.ensures ∙ ap (λ x. x ++ (codes ", local id " ++ c.as_str-2.result.now)) second
    ∙ ap (λ x. ((codes "work-item " ++ decimal c.args.item) ++ (codes ": global id " ++ numbers_text ids.global.items)) ++ (codes ", local id " ++ x)) local in
    let fourth = c.in_ok-push_both-3.ensures ∙ ap (λ x. x ++ (codes ", group " ++ c.as_str-3.result.now)) third
    ∙ ap (λ x. (((codes "work-item " ++ decimal c.args.item) ++ (codes ": global id " ++ numbers_text ids.global.items)) ++ (codes ", local id " ++ numbers_text ids.local.items)) ++ (codes ", group " ++ x)) group in
    fourth ∙ four (codes "work-item " ++ decimal c.args.item) (codes ": global id " ++ numbers_text ids.global.items) (codes ", local id " ++ numbers_text ids.local.items) (codes ", group " ++ numbers_text ids.group.items)
