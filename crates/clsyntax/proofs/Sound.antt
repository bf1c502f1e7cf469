-- What the machine reads is in the grammar.
use Rattle.std.proofs.Common.{◌≡◌, ℕ, Bool, Option, List, [], ◌∷◌, Some, refl, subst}
use Rattle.clnum.specs.declared.int_type.IntType.{IntType}
use Rattle.clmodel.specs.Tree.{NoStmt, Funcs}
use Rattle.clsyntax_lex.specs.declared.token.TokenKind.{TokenKind}
use Rattle.clsyntax_lex.specs.declared.token.TokenKind.TheVariants as kinds
use Rattle.clsyntax_terms.specs.Grammar.{Placed, put, Head, Program, Reads, no_items, kernel, void, typed, bare_heading, heading, no_functions}
use Rattle.clsyntax_terms.specs.Machine as machine
use Rattle.clsyntax_terms.specs.Machine.{Frame, InItems, InBody, InHead, InProgram, ForParameter, Mode, Operand, ExpressionRead, Named, Opened, CastType, AfterAnd, AndName, CallOpen, Optional, Item, Begin, Aim, BeginName, TargetRead, Ended, Closing, StatementRead, AfterIf, AfterWhile, AfterFor, AfterDo, AfterSpace, AfterConst, AfterElement, AfterTyping, Declared, ArrayNamed, ArrayOpened, ArraySized, ArrayClosed, Top, AfterKernel, AfterReturning, AfterName, HeadOpen, WantParameter, AfterParameter, HeadDone, State, in_mode, Moved, on_typing, on_open_brace, step, begun}
use Rattle.clsyntax.proofs.Moves.{Runs, stop, onward}
use Rattle.clsyntax.proofs.Stands.{AnItem, ABody, AHead, AParameter, AfterOne, AFunction, Stands, in_program, in_head, first, next, after_one, head_read, in_body, in_items, Good, Keeps, Safe, kept}
use Rattle.clsyntax.proofs.SoundExpressions.{safe_operand, safe_have, safe_named, safe_opened, safe_cast_type, safe_after_and, safe_and_name, safe_call_open, safe_optional}
use Rattle.clsyntax.proofs.SoundStatements.{safe_typing, safe_after_space, safe_after_const, safe_after_element, safe_after_typing, safe_declared, safe_array_named, safe_array_opened, safe_array_sized, safe_array_closed, safe_begin, safe_item, safe_initial, safe_final, safe_after_if, safe_after_while, safe_after_for, safe_after_do, safe_aim, safe_begin_name, safe_aimed, safe_ended, safe_closing, safe_did}

safe_top : (fs : List Frame) (kind : TokenKind) → Safe Top fs kind
safe_top fs kinds.Kernel = λ w qs a h. (a, h)
safe_top fs kinds.Void = λ w qs a h. record { from = _; stands = h; reads = void }
safe_top fs (kinds.Type type) = λ w qs a h. record { from = _; stands = h; reads = typed refl }
safe_top fs kinds.SizeT = λ w qs a h. record { from = _; stands = h; reads = typed refl }
safe_top fs _ = λ w qs a. tt

safe_after_kernel : (fs : List Frame) (kind : TokenKind) → Safe AfterKernel fs kind
safe_after_kernel fs kinds.Void = λ w qs a h. record { from = _; stands = h.1; reads = kernel }
safe_after_kernel fs _ = λ w qs a. tt

safe_after_returning : (k : Bool) (r : Option IntType) (fs : List Frame) (kind : TokenKind) → Safe (AfterReturning k r) fs kind
safe_after_returning k r fs (kinds.Name x) = λ w qs a h. h
safe_after_returning k r fs _ = λ w qs a. tt

safe_after_name : (k : Bool) (r : Option IntType) (c x : ℕ) (fs : List Frame) (kind : TokenKind) → Safe (AfterName k r c x) fs kind
safe_after_name k r c x fs kinds.OpenRound = λ w qs a h. in_head h.stands h.reads
safe_after_name k r c x fs _ = λ w qs a. tt

as_parameter : {w qs : List Placed} {fs : List Frame} {u : Bool} → Stands w (AHead u) fs qs → Stands w (AParameter u) fs qs
as_parameter (in_head h r) = first h r

no_parameters : {w qs : List Placed} {fs : List Frame} {u : Bool} {g : ℕ} → Stands w (AHead u) fs (put 1 kinds.CloseRound g ∷ qs) → Stands w ABody fs qs
no_parameters (in_head h r) = head_read h (bare_heading r)

safe_want_parameter : (u : Bool) (fs : List Frame) (kind : TokenKind) → Safe (WantParameter u) fs kind
safe_want_parameter u fs kind = λ w qs a. safe_typing (ForParameter u) fs kind w qs a

safe_head_open : (u : Bool) (fs : List Frame) (kind : TokenKind) → Safe (HeadOpen u) fs kind
safe_head_open u fs kinds.CloseRound = λ w qs a. no_parameters
safe_head_open u fs kind = λ w qs a.
    kept w qs (λ k. Stands w (AParameter u) fs (put k kind a ∷ qs)) (λ k. Stands w (AHead u) fs (put k kind a ∷ qs)) (on_typing (ForParameter u) fs kind) (λ k s. as_parameter s) (safe_typing (ForParameter u) fs kind w qs a)

more_wanted : {w qs : List Placed} {fs : List Frame} {u : Bool} {g : ℕ} → Stands w (AfterOne u) fs (put 1 kinds.Comma g ∷ qs) → Stands w (AParameter u) fs qs
more_wanted (after_one s o r) = next s o r

head_end : {w qs : List Placed} {fs : List Frame} {u : Bool} {g : ℕ} → Stands w (AfterOne u) fs (put 1 kinds.CloseRound g ∷ qs) → Stands w ABody fs qs
head_end (after_one s o r) = head_read s (heading o r)

safe_after_parameter : (u : Bool) (fs : List Frame) (kind : TokenKind) → Safe (AfterParameter u) fs kind
safe_after_parameter u fs kinds.Comma = λ w qs a. more_wanted
safe_after_parameter u fs kinds.CloseRound = λ w qs a. head_end
safe_after_parameter u fs _ = λ w qs a. tt

body_begin : {w qs : List Placed} {fs : List Frame} {h : Head} {a : ℕ} → Stands w ABody (InHead h ∷ fs) (put 0 kinds.OpenBrace a ∷ qs) → Stands w (AnItem 1) (InItems 1 NoStmt ∷ InBody h a ∷ fs) qs
body_begin (head_read s r) = in_items (in_body s r) no_items

safe_open_brace : (fs : List Frame) (w qs : List Placed) (a : ℕ) → Keeps w HeadDone fs (record { kind = kinds.OpenBrace; at = a }) qs (on_open_brace a fs)
safe_open_brace (InHead h ∷ fs) w qs a = body_begin
safe_open_brace _ w qs a = tt

safe_head_done : (fs : List Frame) (kind : TokenKind) → Safe HeadDone fs kind
safe_head_done fs kinds.OpenBrace = safe_open_brace fs
safe_head_done fs _ = λ w qs a. tt

safe : (m : Mode) (fs : List Frame) (kind : TokenKind) → Safe m fs kind
safe (Operand n) fs kind = safe_operand n fs kind
safe (ExpressionRead n from e) fs kind = safe_have n from e fs kind
safe (Named n a x) fs kind = safe_named n a x fs kind
safe (Opened n a) fs kind = safe_opened n a fs kind
safe (CastType n a type) fs kind = safe_cast_type n a type fs kind
safe (AfterAnd n a) fs kind = safe_after_and n a fs kind
safe (AndName n a b x) fs kind = safe_and_name n a b x fs kind
safe (CallOpen n) fs kind = safe_call_open n fs kind
safe (Optional n) fs kind = safe_optional n fs kind
safe (Item n) fs kind = safe_item n fs kind
safe (Begin n) fs kind = safe_begin n fs kind
safe (machine.Initial n) fs kind = safe_initial n fs kind
safe (machine.Final n) fs kind = safe_final n fs kind
safe (Aim n) fs kind = safe_aim n fs kind
safe (BeginName u n a x) fs kind = safe_begin_name u n a x fs kind
safe (TargetRead u n a p) fs kind = safe_aimed u n a p fs kind
safe (Ended n s) fs kind = safe_ended n s fs kind
safe (Closing n s) fs kind = safe_closing n s fs kind
safe (StatementRead s) fs kind = safe_did s fs kind
safe (AfterIf n a) fs kind = safe_after_if n a fs kind
safe (AfterWhile n a) fs kind = safe_after_while n a fs kind
safe (AfterFor n a) fs kind = safe_after_for n a fs kind
safe (AfterDo n a s) fs kind = safe_after_do n a s fs kind
safe (AfterSpace p space) fs kind = safe_after_space p space fs kind
safe (AfterConst p space) fs kind = safe_after_const p space fs kind
safe (AfterElement p space c type) fs kind = safe_after_element p space c type fs kind
safe (AfterTyping p type) fs kind = safe_after_typing p type fs kind
safe (Declared n a type b x) fs kind = safe_declared n a type b x fs kind
safe (ArrayNamed n a u type b x) fs kind = safe_array_named n a u type b x fs kind
safe (ArrayOpened n a u type b x) fs kind = safe_array_opened n a u type b x fs kind
safe (ArraySized n s) fs kind = safe_array_sized n s fs kind
safe (ArrayClosed n s) fs kind = safe_array_closed n s fs kind
safe Top fs kind = safe_top fs kind
safe AfterKernel fs kind = safe_after_kernel fs kind
safe (AfterReturning k r) fs kind = safe_after_returning k r fs kind
safe (AfterName k r a x) fs kind = safe_after_name k r a x fs kind
safe (HeadOpen u) fs kind = safe_head_open u fs kind
safe (WantParameter u) fs kind = safe_want_parameter u fs kind
safe (AfterParameter u) fs kind = safe_after_parameter u fs kind
safe HeadDone fs kind = safe_head_done fs kind

pub stays_good : (w qs : List Placed) (s r : State) (p : Placed) → step s p.token ≡ Some (p.nesting, r) → Good w s (p ∷ qs) → Good w r qs
stays_good w qs s r p e g =
    let K : Moved → Type 0 = λ x. Keeps w s.mode s.frames p.token qs x in
    subst K e (safe s.mode s.frames p.token.kind w qs p.token.at) g

pub stay_good : (w : List Placed) {s r : State} {ps qs : List Placed} → Runs s ps r qs → Good w s ps → Good w r qs
stay_good w stop g = g
stay_good w (onward {s = s} {t = t} {p = p} {ps = ps} e q) g = stay_good w q (stays_good w ps s t p e g)

read_whole : {w qs : List Placed} {done : Funcs} → Stands w AFunction (InProgram done ∷ []) qs → Reads (Program done) w qs
read_whole (in_program r) = r

pub sound : (ps : List Placed) (done : Funcs) → Runs begun ps (in_mode Top (InProgram done ∷ [])) [] → Reads (Program done) ps []
sound ps done r = read_whole (stay_good ps r (in_program no_functions))
