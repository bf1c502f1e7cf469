use Rattle.std.proofs.Common.{◌≡◌, ◌++◌, ◌∷◌, [], length, refl, sym, ap, ◌∙◌, subst}
use Rattle.std.specs.Prelude.{slice_index_or}
use Rattle.std.proofs.lemmas.List.{length-set, get_or_append_left, get_or_default}
use Rattle.access_list.specs.Recent.{Describes, in_word, nothing, no_word}
use Rattle.access_list.specs.declared.recent.Recent.{Recent}
use Rattle.access_list.specs.declared.word.ListedWord.{ListedWord}
use Rattle.access_list.specs.declared.word.ListedWord.TheVariants as word
use Rattle.access_list.proofs.Words.{places_kept, word_kept, split_apart}
use Rattle.access_list.proofs.cells.Cells.split.Goals as goal

pub returns-in_ok-extend_from_slice-in-Whole-clause-kept : goal.returns-in_ok-extend_from_slice-in-Whole-clause-kept
returns-in_ok-extend_from_slice-in-Whole-clause-kept c =
    let words = c.args.self.now.words.items in
    let old = c.args.self.now.apart.items in
    let new = c.extend_from_slice.new.self.items in
    let at = c.len-at.result in
    let all = c.in-Whole.all in
    let w : ListedWord = word.Apart at in
    let bytes = c.byte.result ∷ c.byte-in-Whole.result ∷ c.byte-in-Whole-2.result ∷ c.byte-in-Whole-3.result ∷ [] in
    let longer : new ≡ old ++ bytes = c.in_ok-extend_from_slice-in-Whole.ensures.items in
    let end : at ≡ length old = c.len-at.ensures ∙ c.args.self.now.apart.ok.0 in
    record {
      starts = refl;
      long = length-set words c.args.place w;
      kept = word_kept words old new c.args.place w c.requires
          (places_kept old new (λ p l. ap (λ z. slice_index_or z p nothing) longer ∙ get_or_append_left old bytes nothing p l))
          (λ k y byte b d.
          subst (λ (r : Recent). Describes r y byte)
          (sym (split_apart old new all c.byte.result c.byte-in-Whole.result c.byte-in-Whole-2.result c.byte-in-Whole-3.result at k longer end c.byte.ensures c.byte-in-Whole.ensures c.byte-in-Whole-2.ensures c.byte-in-Whole-3.ensures b))
          (subst (λ (v : ListedWord). Describes (in_word old v k) y byte) (get_or_default words c.args.place no_word c.index-word.result.now c.requires ∙ sym c.index-word.ensures ∙ c.in-Whole.is) d));
    }
