-- Reading by the machine is reading by the grammar: the same programs, the same first fault, one tree.
use Rattle.std.proofs.Common.{◌≡◌, ℕ, ◌≤◌, List, [], ◌∷◌, ◌++◌, Option, Some, None, Bool, true, false, cond, Result, Ok, Err, refl, sym, ◌∙◌, ap, subst}
use Rattle.std.proofs.lemmas.Bool.{ltb-true, ltb-false, le-ltb}
use Rattle.std.proofs.lemmas.List.{append-nil}
use Rattle.std.specs.Prelude.{nat_lt}
use Rattle.limits.specs.declared.Limits.{Limits}
use Rattle.clmodel.specs.Tree.{Funcs, NoFunc, ThenFunc}
use Rattle.clsyntax_lex.specs.declared.token.Token.{Token}
use Rattle.clsyntax_lex.specs.declared.token.SyntaxFault.{SyntaxFault}
use Rattle.clsyntax_lex.specs.declared.token.SyntaxFault.TheVariants.{TooDeep}
use Rattle.clsyntax_terms.specs.Grammar.{Placed}
use Rattle.clsyntax_terms.specs.Machine.{Frame, InProgram, Mode, Top, State, in_mode, Moved, step, ended_in, ended, begun}
use Rattle.clsyntax.specs.Correct.{tokens, IsNonEmpty, IsWithin, IsFront, IsNone, Succeeds, IsFault, IsOne}
use Rattle.clsyntax.specs.Reading.{at_end, moved, read_from}
use Rattle.clsyntax.proofs.Moves.{Runs, stop, onward, joined}
use Rattle.clsyntax.proofs.Complete.{complete}
use Rattle.clsyntax.proofs.Stands.{in_program}
use Rattle.clsyntax.proofs.Sound.{stay_good, sound}
use Rattle.clsyntax.proofs.Ends.{Done, finishes}
use Rattle.clsyntax_terms.specs.Grammar.{no_functions}

-- what follows doesn't matter
widened : {s t : State} {ps qs : List Placed} (rs : List Placed) → Runs s ps t qs → Runs s (ps ++ rs) t (qs ++ rs)
widened rs stop = stop
widened rs (onward e q) = onward e (widened rs q)

pub behind : {s t u : State} {ps rs : List Placed} → Runs s ps t [] → Runs t rs u [] → Runs s (ps ++ rs) u []
behind {rs = rs} q r = joined (widened rs q) r

-- the state after some tokens of a program
pub record Reaches (limits : Limits) (ps : List Placed) (s : State) : Type 0 where
  pub run : Runs begun ps s []
  pub within : IsWithin limits ps

pub front_of : {ps : List Placed} {s : State} → Runs begun ps s [] → IsFront ps
front_of {ps = ps} {s = s} r =
    let d : Done s = finishes ps [] s (stay_good ps r (in_program no_functions)) in
    record {
      more = d.more;
      functions = ThenFunc d.before d.last;
      program = record { reads = sound (ps ++ d.more) (ThenFunc d.before d.last) (behind r d.run); non_empty = tt };
    }

-- ---- one run for tokens

pub record SameRun (ps qs : List Placed) (s t : State) : Type 0 where
  pub placed : ps ≡ qs
  pub state : s ≡ t

pair_same : {x y : ℕ × State} {m : Moved} → m ≡ Some x → m ≡ Some y → x ≡ y
pair_same e f = cc

pub run_nil : {a s : State} → Runs a [] s [] → a ≡ s
run_nil stop = refl

pub run_cons : {a s : State} {p : Placed} {ps : List Placed} → Runs a (p ∷ ps) s [] → (t : State) × (step a p.token ≡ Some (p.nesting, t)) × Runs t ps s []
run_cons (onward {t = t} e q) = (t, e, q)

one_run : (ps qs : List Placed) (a s t : State) → Runs a ps s [] → Runs a qs t [] → tokens ps ≡ tokens qs → SameRun ps qs s t
one_run [] [] a s t r q e = record { placed = refl; state = sym (run_nil r) ∙ run_nil q }
one_run [] (y ∷ ys) a s t r q e = absurd (let h : [] ≡ y.token ∷ tokens ys = e in cc)
one_run (x ∷ xs) [] a s t r q e = absurd (let h : x.token ∷ tokens xs ≡ [] = e in cc)
one_run (x ∷ xs) (y ∷ ys) a s t r q e =
    let f = run_cons r in
    let g = run_cons q in
    let h : x.token ∷ tokens xs ≡ y.token ∷ tokens ys = e in
    let head : x.token ≡ y.token = cc in
    let rest : tokens xs ≡ tokens ys = cc in
    let both : (x.nesting, f.0) ≡ (y.nesting, g.0) = pair_same f.1 (ap (step a) head ∙ g.1) in
    let there : Runs f.0 ys t [] = (let R : State → Type 0 = λ u. Runs u ys t [] in subst R (sym (ap (λ x. x.1) both)) g.2) in
    let tail : SameRun xs ys s t = one_run xs ys f.0 s t f.2 there rest in
    let same : x ≡ y = (let e0 : x.nesting ≡ y.nesting = ap (λ x. x.0) both in ap (λ n. record { nesting = n; token = x.token }) e0 ∙ ap (λ k. record { nesting = y.nesting; token = k }) head) in
    record { placed = ap (λ z. z ∷ xs) same ∙ ap (λ zs. y ∷ zs) tail.placed; state = tail.state }

-- no run has the tokens of one and then a token at which that run's state doesn't move
stuck : (ps qs : List Placed) (a s t : State) (k : Token) (rest : List Token) → Runs a ps s [] → Runs a qs t [] → step s k ≡ None → tokens qs ≡ (tokens ps ++ k ∷ []) ++ rest → ⊥
stuck [] [] a s t k rest r q n e = let h : [] ≡ k ∷ rest = e in cc
stuck [] (y ∷ ys) a s t k rest r q n e =
    let h : y.token ∷ tokens ys ≡ k ∷ rest = e in
    let head : y.token ≡ k = cc in
    let g = run_cons q in
    let at_k : step a k ≡ Some (y.nesting, g.0) = ap (step a) (sym head) ∙ g.1 in
    let no : step a k ≡ None = (let S : State → Type 0 = λ u. step u k ≡ None in subst S (sym (run_nil r)) n) in
    let clash : None ≡ Some (y.nesting, g.0) = sym no ∙ at_k in cc
stuck (x ∷ xs) [] a s t k rest r q n e = let h : [] ≡ x.token ∷ ((tokens xs ++ k ∷ []) ++ rest) = e in cc
stuck (x ∷ xs) (y ∷ ys) a s t k rest r q n e =
    let f = run_cons r in
    let g = run_cons q in
    let h : y.token ∷ tokens ys ≡ x.token ∷ ((tokens xs ++ k ∷ []) ++ rest) = e in
    let head : x.token ≡ y.token = cc in
    let left : tokens ys ≡ (tokens xs ++ k ∷ []) ++ rest = cc in
    let both : (x.nesting, f.0) ≡ (y.nesting, g.0) = pair_same f.1 (ap (step a) head ∙ g.1) in
    let there : Runs f.0 ys t [] = (let R : State → Type 0 = λ u. Runs u ys t [] in subst R (sym (ap (λ x. x.1) both)) g.2) in
    stuck xs ys f.0 s t k rest f.2 there n left

-- ---- one tree

pub one_program : IsOne
one_program ps qs f g e p q =
    let r : SameRun ps qs (in_mode Top (InProgram f ∷ [])) (in_mode Top (InProgram g ∷ [])) = one_run ps qs begun _ _ (complete p.reads) (complete q.reads) e in
    let frames : InProgram f ∷ [] ≡ InProgram g ∷ [] = ap (λ s. s.frames) r.state in
    let same : f ≡ g = cc in
    (r.placed, same)

-- ---- where the tokens end

ended_of : (f : Funcs) → IsNonEmpty f → ended (in_mode Top (InProgram f ∷ [])) ≡ Some f
ended_of NoFunc h = absurd h
ended_of (ThenFunc fs f) h = refl

pub record EndedIn (m : Mode) (fs : List Frame) (f : Funcs) : Type 0 where
  pub state : in_mode m fs ≡ in_mode Top (InProgram f ∷ [])
  pub non_empty : IsNonEmpty f

pub ended_is : (m : Mode) (fs : List Frame) (f : Funcs) → ended_in m fs ≡ Some f → EndedIn m fs f
ended_is Top (InProgram (ThenFunc gs g) ∷ []) f e =
    let same : ThenFunc gs g ≡ f = cc in
    let P : Funcs → Type 0 = λ x. EndedIn Top (InProgram (ThenFunc gs g) ∷ []) x in
    subst P same (record { state = refl; non_empty = tt })
ended_is m fs f e = absurd (let h : None ≡ Some f = e in cc)

-- ---- what reading gives

abbrev pub Tells : Limits → ℕ → List Token → Result Funcs SyntaxFault → Type 0
Tells limits length ts (Ok f) = Succeeds limits ts f
Tells limits length ts (Err fault) = IsFault limits length ts fault

none_ends : (ps : List Placed) (s : State) → Runs begun ps s [] → ended s ≡ None → IsNone (tokens ps)
none_ends ps s r n = λ qs f e p.
    let o : SameRun qs ps (in_mode Top (InProgram f ∷ [])) s = one_run qs ps begun _ s (complete p.reads) r e in
    let some : Some f ≡ ended s = sym (ended_of f p.non_empty) ∙ ap ended o.state in
    let clash : Some f ≡ None = some ∙ n in cc

at_end_so : (limits : Limits) (length : ℕ) (ps : List Placed) (s : State) → Reaches limits ps s → (o : Option Funcs) → ended s ≡ o → Tells limits length (tokens ps ++ []) (at_end o length)
at_end_so limits length ps s h None e =
    record { placed = ps; rest = []; same = refl; where_ = refl; front = front_of h.run; within = h.within; ends = none_ends ps s h.run e }
at_end_so limits length ps s h (Some f) e =
    let d : EndedIn s.mode s.frames f = ended_is s.mode s.frames f e in
    let R : State → Type 0 = λ u. Runs begun ps u [] in
    record { placed = ps; same = append-nil (tokens ps); program = record { reads = sound ps f (subst R d.state h.run); non_empty = d.non_empty }; within = h.within }

shifted : (ps : List Placed) (p : Placed) (ts : List Token) → tokens (ps ++ p ∷ []) ++ ts ≡ tokens ps ++ p.token ∷ ts
shifted [] p ts = refl
shifted (x ∷ xs) p ts = ap (λ z. x.token ∷ z) (shifted xs p ts)

within_then : (limits : Limits) (ps : List Placed) (p : Placed) → IsWithin limits ps → p.nesting ≤ limits.nesting → IsWithin limits (ps ++ p ∷ [])
within_then limits [] p h l = (l, h)
within_then limits (x ∷ xs) p h l = (h.0, within_then limits xs p h.1 l)

reach_then : (limits : Limits) (ps : List Placed) (s r : State) (p : Placed) → Reaches limits ps s → step s p.token ≡ Some (p.nesting, r) → p.nesting ≤ limits.nesting → Reaches limits (ps ++ p ∷ []) r
reach_then limits ps s r p h e l = record { run = behind h.run (onward e stop); within = within_then limits ps p h.within l }

goes_so : (limits : Limits) (length : ℕ) (t : Token) (ts : List Token) (ps : List Placed) (s : State) → Reaches limits ps s → (x : ℕ × State) → step s t ≡ Some x
    → ((qs : List Placed) (r : State) → Reaches limits qs r → Tells limits length (tokens qs ++ ts) (read_from limits length ts r))
    → (b : Bool) → nat_lt limits.nesting x.0 ≡ b → Tells limits length (tokens ps ++ t ∷ ts) (cond b (Err (TooDeep t.at)) (read_from limits length ts x.1))
goes_so limits length t ts ps s h x e go_on true l =
    let p : Placed = record { nesting = x.0; token = t } in
    record { placed = ps; deep = p; rest = ts; same = refl; where_ = refl; front = front_of (behind h.run (onward {p = p} e stop)); within = h.within; above = ltb-true limits.nesting x.0 l }
goes_so limits length t ts ps s h x e go_on false l =
    let p : Placed = record { nesting = x.0; token = t } in
    let R : List Token → Type 0 = λ us. Tells limits length us (read_from limits length ts x.1) in
    subst R (shifted ps p ts) (go_on (ps ++ p ∷ []) x.1 (reach_then limits ps s x.1 p h e (ltb-false limits.nesting x.0 l)))

moved_so : (limits : Limits) (length : ℕ) (t : Token) (ts : List Token) (ps : List Placed) (s : State) → Reaches limits ps s → (x : Moved) → step s t ≡ x
    → ((qs : List Placed) (r : State) → Reaches limits qs r → Tells limits length (tokens qs ++ ts) (read_from limits length ts r))
    → Tells limits length (tokens ps ++ t ∷ ts) (moved limits x t.at (read_from limits length ts))
moved_so limits length t ts ps s h None e go_on =
    record {
      placed = ps;
      rest = t ∷ ts;
      same = refl;
      where_ = refl;
      front = front_of h.run;
      within = h.within;
      ends = λ qs rest f same p. stuck ps qs begun s _ t rest h.run (complete p.reads) e same;
    }
moved_so limits length t ts ps s h (Some x) e go_on = goes_so limits length t ts ps s h x e go_on (nat_lt limits.nesting x.0) refl

reads_from : (limits : Limits) (length : ℕ) (ts : List Token) (ps : List Placed) (s : State) → Reaches limits ps s → Tells limits length (tokens ps ++ ts) (read_from limits length ts s)
unfolding read_from
reads_from limits length [] ps s h = at_end_so limits length ps s h (ended s) refl
reads_from limits length (t ∷ ts) ps s h = moved_so limits length t ts ps s h (step s t) refl (reads_from limits length ts)

pub reads_so : (limits : Limits) (length : ℕ) (ts : List Token) → Tells limits length ts (read_from limits length ts begun)
reads_so limits length ts = reads_from limits length ts [] begun (record { run = stop; within = tt })

-- ---- what the grammar reads is read

read_run : (limits : Limits) (length : ℕ) (ps : List Placed) (s r : State) → Runs s ps r [] → IsWithin limits ps → read_from limits length (tokens ps) s ≡ at_end (ended r) length
unfolding read_from
read_run limits length [] s r q w = ap (λ u. at_end (ended u) length) (run_nil q)
read_run limits length (p ∷ ps) s r q w =
    let f = run_cons q in
    let rest : read_from limits length (tokens ps) f.0 ≡ at_end (ended r) length = read_run limits length ps f.0 r f.2 w.1 in
    let below : nat_lt limits.nesting p.nesting ≡ false = le-ltb limits.nesting p.nesting w.0 in
    let step_on : moved limits (step s p.token) p.token.at (read_from limits length (tokens ps)) ≡ moved limits (Some (p.nesting, f.0)) p.token.at (read_from limits length (tokens ps)) = ap (λ x. moved limits x p.token.at (read_from limits length (tokens ps))) f.1 in
    step_on ∙ (ap (λ b. cond b (Err (TooDeep p.token.at)) (read_from limits length (tokens ps) f.0)) below ∙ rest)

pub reads_only : (limits : Limits) (length : ℕ) (ts : List Token) (f : Funcs) → Succeeds limits ts f → read_from limits length ts begun ≡ Ok f
reads_only limits length ts f h =
    let run : read_from limits length (tokens h.placed) begun ≡ at_end (ended (in_mode Top (InProgram f ∷ []))) length = read_run limits length h.placed begun _ (complete h.program.reads) h.within in
    ap (λ us. read_from limits length us begun) h.same ∙ (run ∙ ap (λ o. at_end o length) (ended_of f h.program.non_empty))
