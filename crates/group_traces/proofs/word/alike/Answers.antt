use Rattle.std.proofs.Common.{◌≡◌, ℕ, ◌==◌, ◌&&◌, true, false, [], ◌∷◌, get_or, sym, ap, ◌∙◌, eq-eqb}
use Rattle.std.proofs.lemmas.Bool.{ne_eqb}
use Rattle.clmodel.specs.Cells.{byte_of}
use Rattle.shadow.specs.Seen.{one_sort, byte_mark}
use Rattle.shadow.specs.declared.words.WordMark.{WordMark}
use Rattle.shadow.proofs.Meetings.{sort_from}
use Rattle.access_list.specs.Kinds.{kind_number}
use Rattle.group_traces.proofs.Fours.{each_of_four}
use Rattle.group_traces.proofs.KindNumbers.{same_kind}
use Rattle.group_traces.proofs.word.alike.Goals as goal

pub returns-then-not-is_same : goal.returns-then-not-is_same
returns-then-not-is_same c =
    let a : WordMark = c.args.a in
    let b : WordMark = c.args.b in
    let other : (kind_number a.kind == kind_number b.kind) ≡ false = ne_eqb (kind_number a.kind) (kind_number b.kind) (λ e. c.is_same.ensures.other c.if-not-is_same.true (same_kind a.kind b.kind e)) in
    let none : (k : ℕ) → false ≡ one_sort (byte_mark a k) (byte_mark b k) = λ k. sym (ap (λ q. q && ((byte_mark a k).left == (byte_mark b k).left)) other) in
    each_of_four (λ k. get_or (false ∷ false ∷ false ∷ false ∷ []) k false ≡ one_sort (byte_mark a k) (byte_mark b k)) (none 0) (none 1) (none 2) (none 3)

pub returns-then-a-b : goal.returns-then-a-b
returns-then-a-b c =
    let a : WordMark = c.args.a in
    let b : WordMark = c.args.b in
    let all : (k : ℕ) → true ≡ one_sort (byte_mark a k) (byte_mark b k) =
    λ k. sym (sort_from (byte_mark a k) (byte_mark b k) (ap kind_number (c.is_same.ensures.same c.if-not-is_same.false)) (ap (byte_of k) c.if-a-b.true)) in
    each_of_four (λ k. get_or (true ∷ true ∷ true ∷ true ∷ []) k false ≡ one_sort (byte_mark a k) (byte_mark b k)) (all 0) (all 1) (all 2) (all 3)

pub returns : goal.returns
returns c =
    let a : WordMark = c.args.a in
    let b : WordMark = c.args.b in
    let same : (kind_number a.kind == kind_number b.kind) ≡ true = eq-eqb (kind_number a.kind) (kind_number b.kind) (ap kind_number (c.is_same.ensures.same c.if-not-is_same.false)) in
    let sort : (k : ℕ) → ((byte_mark a k).left == (byte_mark b k).left) ≡ one_sort (byte_mark a k) (byte_mark b k) =
    λ k. sym (ap (λ q. q && ((byte_mark a k).left == (byte_mark b k).left)) same) in
    each_of_four
    (λ k. get_or (c.leave_same.result ∷ c.leave_same-2.result ∷ c.leave_same-3.result ∷ c.leave_same-4.result ∷ []) k false ≡ one_sort (byte_mark a k) (byte_mark b k))
    (c.leave_same.ensures ∙ sort 0) (c.leave_same-2.ensures ∙ sort 1) (c.leave_same-3.ensures ∙ sort 2) (c.leave_same-4.ensures ∙ sort 3)
