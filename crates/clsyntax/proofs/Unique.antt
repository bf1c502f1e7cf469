-- A text has one reading.
use Rattle.std.proofs.Common.{◌≡◌, ℕ, List, [], ◌∷◌, ◌++◌, Option, Some, None, true, false, cond, Result, Ok, Err, refl, sym, ◌∙◌, ap, subst}
use Rattle.std.proofs.lemmas.Bool.{lt-ltb, le-ltb}
use Rattle.std.specs.Prelude.{nat_lt}
use Rattle.limits.specs.declared.Limits.{Limits}
use Rattle.clmodel.specs.Tree.{Funcs, Program}
use Rattle.clmodel.specs.declared.tree.Tree as rust_tree
use Rattle.clsyntax_lex.specs.Tokens.{Text}
use Rattle.clsyntax_lex.specs.declared.token.Token.{Token}
use Rattle.clsyntax_lex.specs.declared.token.SyntaxFault.{SyntaxFault}
use Rattle.clsyntax_lex.specs.declared.token.SyntaxFault.TheVariants.{Unexpected, TooDeep}
use Rattle.clsyntax_terms.specs.Grammar.{Placed}
use Rattle.clsyntax_terms.specs.Machine.{InProgram, Top, State, in_mode, Moved, step, ended, begun}
use Rattle.clsyntax.specs.Correct.{tokens, IsWithin, IsFront, BeginsNone, IsNone, Ends, next_at, IsUnexpected, IsTooDeep, IsFault, IsReading, GivesAs}
use Rattle.clsyntax.specs.Reading.{at_end, moved, read_from}
use Rattle.clsyntax.proofs.Moves.{Runs, stop, onward}
use Rattle.clsyntax.proofs.Complete.{complete}
use Rattle.clsyntax.proofs.Sound.{sound}
use Rattle.clsyntax.proofs.ReadingLaws.{run_nil, run_cons, behind, front_of, EndedIn, ended_is, reads_only}
use Rattle.clsyntax.proofs.Loop.{read_next, read_nothing, unless_memory}

-- a run over some tokens of a longer one
record FrontRun (a : State) (ps rs : List Placed) (u : State) : Type 0 where
  pub between : State
  pub run : Runs a ps between []
  pub rest : Runs between rs u []

split_run : (ps rs : List Placed) (a u : State) → Runs a (ps ++ rs) u [] → FrontRun a ps rs u
split_run [] rs a u r = record { between = a; run = stop; rest = r }
split_run (p ∷ ps) rs a u r =
    let f = run_cons r in
    let g : FrontRun f.0 ps rs u = split_run ps rs f.0 u f.2 in
    record { between = g.between; run = onward f.1 g.run; rest = g.rest }

-- the state after a front of a program
record FrontState (ps : List Placed) : Type 0 where
  pub state : State
  pub run : Runs begun ps state []

front_state : (ps : List Placed) → IsFront ps → FrontState ps
front_state ps h =
    let f = split_run ps h.more begun (in_mode Top (InProgram h.functions ∷ [])) (complete h.program.reads) in
    record { state = f.between; run = f.run }

-- tokens that a run passes within the limit are read so
read_along : (limits : Limits) (n : ℕ) (ps : List Placed) (rest : List Token) (s r : State) → Runs s ps r [] → IsWithin limits ps → read_from limits n (tokens ps ++ rest) s ≡ read_from limits n rest r
read_along limits n [] rest s r q w = ap (λ u. read_from limits n rest u) (run_nil q)
read_along limits n (p ∷ ps) rest s r q w =
    let f = run_cons q in
    let all : List Token = tokens ps ++ rest in
    let on : read_from limits n all f.0 ≡ read_from limits n rest r = read_along limits n ps rest f.0 r f.2 w.1 in
    let below : nat_lt limits.nesting p.nesting ≡ false = le-ltb limits.nesting p.nesting w.0 in
    let here : read_from limits n (p.token ∷ all) s ≡ moved limits (step s p.token) p.token.at (read_from limits n all) = read_next limits n p.token all s in
    let go_on : moved limits (step s p.token) p.token.at (read_from limits n all) ≡ cond (nat_lt limits.nesting p.nesting) (Err (TooDeep p.token.at)) (read_from limits n all f.0) = ap (λ x. moved limits x p.token.at (read_from limits n all)) f.1 in
    here ∙ (go_on ∙ (ap (λ b. cond b (Err (TooDeep p.token.at)) (read_from limits n all f.0)) below ∙ on))

-- where the tokens are no program, the state is no end
not_ended : (ps : List Placed) (s : State) → Runs begun ps s [] → IsNone (tokens ps) → (o : Option Funcs) → ended s ≡ o → ended s ≡ None
not_ended ps s r h None e = e
not_ended ps s r h (Some f) e =
    let d : EndedIn s.mode s.frames f = ended_is s.mode s.frames f e in
    let R : State → Type 0 = λ u. Runs begun ps u [] in
    absurd (h ps f refl (record { reads = sound ps f (subst R d.state r); non_empty = d.non_empty }))

tokens_front : (ps : List Placed) (p : Placed) (more : List Placed) → tokens ((ps ++ p ∷ []) ++ more) ≡ (tokens ps ++ p.token ∷ []) ++ tokens more
tokens_front [] p more = refl
tokens_front (x ∷ xs) p more = ap (λ z. x.token ∷ z) (tokens_front xs p more)

-- where no program begins so, the state doesn't move
not_moved : (ps : List Placed) (s : State) (t : Token) → Runs begun ps s [] → BeginsNone (tokens ps ++ t ∷ []) → (x : Moved) → step s t ≡ x → step s t ≡ None
not_moved ps s t r h None e = e
not_moved ps s t r h (Some x) e =
    let p : Placed = record { nesting = x.0; token = t } in
    let f : IsFront (ps ++ p ∷ []) = front_of (behind r (onward {p = p} e stop)) in
    absurd (h ((ps ++ p ∷ []) ++ f.more) (tokens f.more) f.functions (tokens_front ps p f.more) f.program)

ends_unexpected : (limits : Limits) (n : ℕ) (ps : List Placed) (s : State) (rest : List Token) → Runs begun ps s [] → Ends (tokens ps) rest → read_from limits n rest s ≡ Err (Unexpected (next_at n rest))
ends_unexpected limits n ps s [] r h = read_nothing limits n s ∙ ap (λ o. at_end o n) (not_ended ps s r h (ended s) refl)
ends_unexpected limits n ps s (t ∷ rest) r h = read_next limits n t rest s ∙ ap (λ x. moved limits x t.at (read_from limits n rest)) (not_moved ps s t r h (step s t) refl)

unexpected_read : (limits : Limits) (n : ℕ) (ts : List Token) (at : ℕ) → IsUnexpected limits n ts at → read_from limits n ts begun ≡ Err (Unexpected at)
unexpected_read limits n ts at h =
    let f = front_state h.placed h.front in
    let along : read_from limits n (tokens h.placed ++ h.rest) begun ≡ read_from limits n h.rest f.state = read_along limits n h.placed h.rest begun f.state f.run h.within in
    ap (λ us. read_from limits n us begun) h.same ∙ (along ∙ (ends_unexpected limits n h.placed f.state h.rest f.run h.ends ∙ ap (λ k. Err (Unexpected k)) (sym h.where_)))

too_deep_read : (limits : Limits) (n : ℕ) (ts : List Token) (at : ℕ) → IsTooDeep limits ts at → read_from limits n ts begun ≡ Err (TooDeep at)
too_deep_read limits n ts at h =
    let last : List Placed = h.deep ∷ [] in
    let whole = front_state (h.placed ++ last) h.front in
    let f = split_run h.placed last begun whole.state whole.run in
    let g = run_cons f.rest in
    let all = read_from limits n h.rest in
    let along : read_from limits n (tokens h.placed ++ h.deep.token ∷ h.rest) begun ≡ read_from limits n (h.deep.token ∷ h.rest) f.between = read_along limits n h.placed (h.deep.token ∷ h.rest) begun f.between f.run h.within in
    let here : read_from limits n (h.deep.token ∷ h.rest) f.between ≡ moved limits (step f.between h.deep.token) h.deep.token.at all = read_next limits n h.deep.token h.rest f.between in
    let go_on : moved limits (step f.between h.deep.token) h.deep.token.at all ≡ cond (nat_lt limits.nesting h.deep.nesting) (Err (TooDeep h.deep.token.at)) (all g.0) = ap (λ x. moved limits x h.deep.token.at all) g.1 in
    let deep : nat_lt limits.nesting h.deep.nesting ≡ true = lt-ltb limits.nesting h.deep.nesting h.above in
    let stop_ : cond (nat_lt limits.nesting h.deep.nesting) (Err (TooDeep h.deep.token.at)) (all g.0) ≡ Err (TooDeep h.deep.token.at) = ap (λ b. cond b (Err (TooDeep h.deep.token.at)) (all g.0)) deep in
    ap (λ us. read_from limits n us begun) h.same ∙ (along ∙ (here ∙ (go_on ∙ (stop_ ∙ ap (λ k. Err (TooDeep k)) (sym h.where_)))))

fault_read : (limits : Limits) (n : ℕ) (ts : List Token) (fault : SyntaxFault) → IsFault limits n ts fault → read_from limits n ts begun ≡ Err fault
fault_read limits n ts (Unexpected at) h = unexpected_read limits n ts at h
fault_read limits n ts (TooDeep at) h = too_deep_read limits n ts at h
fault_read limits n ts _ h = absurd h

-- a text has one reading
pub one_reading : (limits : Limits) (text : Text) (a b : Result Program SyntaxFault) → IsReading limits text a → IsReading limits text b → a ≡ b
one_reading limits text (Ok p) (Ok q) h k =
    let f : Ok p.functions ≡ Ok q.functions = sym (reads_only limits text.length text.tokens p.functions h.functions) ∙ reads_only limits text.length text.tokens q.functions k.functions in
    let functions : p.functions ≡ q.functions = cc in
    let names : p.names ≡ q.names = h.names ∙ sym k.names in
    ap Ok (ap (λ x. record { functions = x; names = p.names }) functions ∙ ap (λ x. record { functions = q.functions; names = x }) names)
one_reading limits text (Ok p) (Err fault) h k =
    let clash : Ok p.functions ≡ Err fault = sym (reads_only limits text.length text.tokens p.functions h.functions) ∙ fault_read limits text.length text.tokens fault k in absurd cc
one_reading limits text (Err fault) (Ok q) h k =
    let clash : Err fault ≡ Ok q.functions = sym (fault_read limits text.length text.tokens fault h) ∙ reads_only limits text.length text.tokens q.functions k.functions in absurd cc
one_reading limits text (Err fault) (Err other) h k =
    let f : Err fault ≡ Err other = sym (fault_read limits text.length text.tokens fault h) ∙ fault_read limits text.length text.tokens other k in
    let same : fault ≡ other = cc in ap Err same

-- a consequence of what an answer meets
pub gives_map : (answer : Result rust_tree.Tree SyntaxFault) (P Q : Result Program SyntaxFault → Type 0) → ((s : Result Program SyntaxFault) → P s → Q s) → GivesAs answer P → GivesAs answer Q
gives_map (Ok t) P Q f h = f _ h
gives_map (Err fault) P Q f h = unless_memory fault (P (Err fault)) (Q (Err fault)) (f (Err fault)) h
