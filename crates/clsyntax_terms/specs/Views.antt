-- What the parser holds, as the machine sees it.
use Rattle.std.specs.Prelude.{◌≡◌, ℕ, Bool, true, false, nat_le, ◌<◌, List, [], ◌∷◌, map, Option, None, Some, Result, is_some, IfOk, Box}
use Rattle.std.specs.declared.alloc.Global.{Global}
use Rattle.std.specs.declared.alloc.AllocError.{AllocError}
use Rattle.clsyntax_lex.specs.declared.token.TokenKind.{TokenKind}
use Rattle.clsyntax_lex.specs.declared.token.TokenKind.TheVariants as kinds
use Rattle.clmodel.specs.declared.tree.Statement as rust_statement
use Rattle.clmodel.specs.declared.tree.Function as rust_function
use Rattle.clmodel.specs.declared.tree.Statement.{Statement}
use Rattle.clmodel.specs.Tree.{term, terms, tree_target, maybe_term, Stmts, NoStmt, stmt, then_stmts, MaybeStmt, Without, With, Funcs, NoFunc, func, then_funcs}
use Rattle.clsyntax_terms.specs.Grammar as grammar
use Rattle.clsyntax_terms.specs.Grammar.{greatest_limit, level}
use Rattle.clsyntax_terms.specs.Machine as machine
use Rattle.clsyntax_terms.specs.Machine.{Moved}
use Rattle.clsyntax_terms.specs.declared.state.Head.{Head}
use Rattle.clsyntax_terms.specs.declared.state.Call.{Call}
use Rattle.clsyntax_terms.specs.declared.state.Prefix.{Prefix}
use Rattle.clsyntax_terms.specs.declared.state.Prefix.TheVariants as prefixes
use Rattle.clsyntax_terms.specs.declared.state.Purpose.{Purpose}
use Rattle.clsyntax_terms.specs.declared.state.Purpose.TheVariants as purposes
use Rattle.clsyntax_terms.specs.declared.state.TypeMode.{TypeMode}
use Rattle.clsyntax_terms.specs.declared.state.TypeMode.TheVariants as types
use Rattle.clsyntax_terms.specs.declared.state.HeadMode.{HeadMode}
use Rattle.clsyntax_terms.specs.declared.state.HeadMode.TheVariants as heads
use Rattle.clsyntax_terms.specs.declared.state.ArrayMode.{ArrayMode}
use Rattle.clsyntax_terms.specs.declared.state.ArrayMode.TheVariants as arrays
use Rattle.clsyntax_terms.specs.declared.state.Frame.{Frame}
use Rattle.clsyntax_terms.specs.declared.state.Frame.TheVariants as frames
use Rattle.clsyntax_terms.specs.declared.state.Frames.{Frames, Empty, Inside'}
use Rattle.clsyntax_terms.specs.declared.state.Mode.{Mode}
use Rattle.clsyntax_terms.specs.declared.state.Mode.TheVariants as modes
use Rattle.clsyntax_terms.specs.declared.state.State.{State}
use Rattle.clsyntax_terms.specs.declared.state.ForPart.{ForPart}
use Rattle.clsyntax_terms.specs.declared.state.ForPart.TheVariants as parts
use Rattle.clsyntax_terms.specs.declared.operators.Folded.{Folded}
use Rattle.clsyntax_terms.specs.declared.state.Stack.{Stack}
use Rattle.clsyntax_terms.specs.declared.state.TokenStep.{TokenStep}
use Rattle.clsyntax_terms.specs.declared.state.TokenStep.TheVariants.{Refused, Deep, To}

abbrev pub stmts_of : List rust_statement.Statement → Stmts
stmts_of ss = then_stmts NoStmt (map stmt ss)

abbrev pub funcs_of : List rust_function.Function → Funcs
funcs_of fs = then_funcs NoFunc (map func fs)

abbrev pub head_of : Head → grammar.Head
head_of h = grammar.head h.is_kernel h.result h.identifier.at h.identifier.name h.parameters.items

abbrev pub prefix : Prefix → grammar.Prefix
prefix (prefixes.Operator operator) = grammar.Operator operator
prefix prefixes.Fetch = grammar.Fetch
prefix (prefixes.Convert type) = grammar.Convert type

abbrev pub maybe_prefix : Option Prefix → Option grammar.Prefix
maybe_prefix None = None
maybe_prefix (Some p) = Some (prefix p)

abbrev pub maybe_statement : Option (Box Statement Global) → MaybeStmt
maybe_statement None = Without
maybe_statement (Some s) = With (stmt s.value)

abbrev pub purpose : Purpose → machine.Purpose
purpose (purposes.Parameter takes_size) = machine.ForParameter takes_size
purpose (purposes.Declaration at nesting) = machine.ForDeclaration at nesting.0

abbrev pub in_call : Call → machine.Frame
in_call c = machine.InCall c.is_statement c.identifier.at c.identifier.name c.nesting.0 (terms c.arguments.items)

abbrev pub frame_of : Frame → machine.Frame
frame_of (frames.After from operator left) = machine.After from operator (term left.value)
frame_of (frames.Before at p) = machine.Before at (prefix p)
frame_of (frames.Conditional from condition) = machine.Conditional from (term condition.value)
frame_of (frames.Chosen from condition chosen) = machine.Chosen from (term condition.value) (term chosen.value)
frame_of (frames.InRound at nesting) = machine.InRound at nesting.0
frame_of (frames.InElement i nesting) = machine.InElement i.at i.name nesting.0
frame_of (frames.InAddress a) = machine.InAddress a.at a.identifier.at a.identifier.name a.nesting.0
frame_of (frames.InCall call) = in_call call
frame_of (frames.InPart n) = machine.InPart n.is_step n.identifier.at n.identifier.name n.nesting.0
frame_of (frames.InBehind is_step at nesting) = machine.InBehind is_step at nesting.0
frame_of (frames.InStep at nesting is_increment) = machine.InStep at nesting.0 is_increment
frame_of (frames.InAssign a) = machine.InAssign a.at a.nesting.0 (tree_target a.target.value) a.operator
frame_of (frames.InDeclare d) = machine.InDeclare d.at d.nesting.0 d.kind d.identifier.at d.identifier.name
frame_of (frames.InReturn at nesting) = machine.InReturn at nesting.0
frame_of (frames.InIf at nesting) = machine.InIf at nesting.0
frame_of (frames.InWhile at nesting) = machine.InWhile at nesting.0
frame_of (frames.InDo at nesting body) = machine.InDo at nesting.0 (stmt body.value)
frame_of (frames.InInitial at) = machine.InInitial at
frame_of (frames.InCondition turns) = machine.InCondition turns.value.at turns.value.nesting.0 (maybe_statement turns.value.initial)
frame_of (frames.InFinal turns) = machine.InFinal turns.value.at (maybe_statement turns.value.initial) (maybe_term turns.value.condition)
frame_of (frames.Then at nesting condition) = machine.Then at nesting.0 (term condition.value)
frame_of (frames.Otherwise at condition chosen) = machine.Otherwise at (term condition.value) (stmt chosen.value)
frame_of (frames.Turns at condition) = machine.Turns at (term condition.value)
frame_of (frames.DoTurns at nesting) = machine.DoTurns at nesting.0
frame_of (frames.ForTurns turns) = machine.ForTurns turns.value.at (maybe_statement turns.value.initial) (maybe_term turns.value.condition) (maybe_statement turns.value.last)
frame_of (frames.InItems nesting body) = machine.InItems nesting.0 (stmts_of body.items)
frame_of (frames.InBlock at nesting) = machine.InBlock at nesting.0
frame_of (frames.InBody head at) = machine.InBody (head_of head) at
frame_of (frames.InHead head) = machine.InHead (head_of head)
frame_of (frames.InProgram functions) = machine.InProgram (funcs_of functions.items)

abbrev pub frames_of : Frames → List machine.Frame
frames_of Empty = []
frames_of (Inside' frame p rest) = frame_of frame ∷ frames_of rest

abbrev pub head_mode_of : HeadMode → machine.Mode
head_mode_of heads.Top = machine.Top
head_mode_of heads.AfterKernel = machine.AfterKernel
head_mode_of (heads.AfterReturning is_kernel result) = machine.AfterReturning is_kernel result
head_mode_of (heads.AfterName is_kernel result i) = machine.AfterName is_kernel result i.at i.name
head_mode_of (heads.HeadOpen takes_size) = machine.HeadOpen takes_size
head_mode_of (heads.WantParameter takes_size) = machine.WantParameter takes_size
head_mode_of (heads.AfterParameter takes_size) = machine.AfterParameter takes_size
head_mode_of heads.HeadDone = machine.HeadDone

abbrev pub type_mode_of : Purpose → TypeMode → machine.Mode
type_mode_of p (types.AfterSpace space) = machine.AfterSpace (purpose p) space
type_mode_of p (types.AfterConst space) = machine.AfterConst (purpose p) space
type_mode_of p (types.AfterElement t) = machine.AfterElement (purpose p) t.space t.is_const t.element
type_mode_of p (types.Whole kind) = machine.AfterTyping (purpose p) kind

abbrev pub array_mode_of : ArrayMode → machine.Mode
array_mode_of (arrays.Named a) = machine.ArrayNamed a.nesting.0 a.at a.is_local a.element a.identifier.at a.identifier.name
array_mode_of (arrays.Opened a) = machine.ArrayOpened a.nesting.0 a.at a.is_local a.element a.identifier.at a.identifier.name
array_mode_of (arrays.Sized nesting statement) = machine.ArraySized nesting.0 (stmt statement.value)
array_mode_of (arrays.Closed nesting statement) = machine.ArrayClosed nesting.0 (stmt statement.value)

abbrev pub mode_of : Mode → machine.Mode
mode_of (modes.Operand nesting) = machine.Operand nesting.0
mode_of (modes.ExpressionRead h) = machine.ExpressionRead h.nesting.0 h.from (term h.value.value)
mode_of (modes.Named nesting i) = machine.Named nesting.0 i.at i.name
mode_of (modes.Opened nesting at) = machine.Opened nesting.0 at
mode_of (modes.CastType c) = machine.CastType c.nesting.0 c.at c.target
mode_of (modes.AfterAnd nesting at) = machine.AfterAnd nesting.0 at
mode_of (modes.AndName a) = machine.AndName a.nesting.0 a.at a.identifier.at a.identifier.name
mode_of (modes.CallOpen nesting) = machine.CallOpen nesting.0
mode_of (modes.Optional nesting) = machine.Optional nesting.0
mode_of (modes.Item nesting) = machine.Item nesting.0
mode_of (modes.Begin nesting) = machine.Begin nesting.0
mode_of (modes.Initial nesting) = machine.Initial nesting.0
mode_of (modes.Final nesting) = machine.Final nesting.0
mode_of (modes.Aim nesting) = machine.Aim nesting.0
mode_of (modes.BeginName n) = machine.BeginName n.is_step n.nesting.0 n.identifier.at n.identifier.name
mode_of (modes.TargetRead a) = machine.TargetRead a.is_step a.nesting.0 a.at (tree_target a.target.value)
mode_of (modes.Ended nesting statement) = machine.Ended nesting.0 (stmt statement.value)
mode_of (modes.Closing nesting statement) = machine.Closing nesting.0 (stmt statement.value)
mode_of (modes.StatementRead statement) = machine.StatementRead (stmt statement.value)
mode_of (modes.AfterIf nesting at) = machine.AfterIf nesting.0 at
mode_of (modes.AfterWhile nesting at) = machine.AfterWhile nesting.0 at
mode_of (modes.AfterFor nesting at) = machine.AfterFor nesting.0 at
mode_of (modes.AfterDo nesting at body) = machine.AfterDo nesting.0 at (stmt body.value)
mode_of (modes.Typing p t) = type_mode_of p t
mode_of (modes.Declared d) = machine.Declared d.nesting.0 d.at d.kind d.identifier.at d.identifier.name
mode_of (modes.Array a) = array_mode_of a
mode_of (modes.Head h) = head_mode_of h

abbrev pub state_of : State → machine.State
state_of s = machine.in_mode (mode_of s.mode) (frames_of s.frames.value)

abbrev pub opened : Stack → List machine.Frame
opened s = frames_of s.frames.value

abbrev pub folded_of : Folded → machine.Folded
folded_of f = machine.folded f.from (term f.value.value) (opened f.stack)

-- which part of a `for` the frame in front reads
abbrev pub part_of : List machine.Frame → ForPart
part_of (machine.InInitial a ∷ fs) = parts.Initial
part_of (machine.InFinal a i c ∷ fs) = parts.Final
part_of _ = parts.Other

-- an expression takes the frame in front, where operators bind at least so tightly
abbrev pub takes_front : ℕ → List machine.Frame → Bool
takes_front k (machine.After b op d ∷ fs) = nat_le k (level op)
takes_front k (machine.Before b p ∷ fs) = true
takes_front k (machine.Chosen b c d ∷ fs) = nat_le k 0
takes_front k _ = false

-- an operand or the type of a cast begins with the token
abbrev pub is_operand : TokenKind → Bool
is_operand (kinds.Type type) = true
is_operand kinds.SizeT = true
is_operand (kinds.Number v) = true
is_operand (kinds.Name x) = true
is_operand kinds.And = true
is_operand kinds.OpenRound = true
is_operand kind = is_some (grammar.prefix_of kind)

-- the frame in front is `*` at a statement's begin
abbrev pub is_behind : List machine.Frame → Bool
is_behind (machine.InBehind is_step a n ∷ fs) = true
is_behind _ = false

-- a move, at a token that is nested too deep on every device
abbrev pub IsDeep : Moved → Type 0
IsDeep None = ⊥
IsDeep (Some x) = greatest_limit < x.0

-- a step is the machine's
abbrev pub IsStep : TokenStep → Moved → Type 0
IsStep Refused m = m ≡ None
IsStep Deep m = IsDeep m
IsStep (To nesting state) m = m ≡ Some (nesting.0, state_of state.value)

-- the step that was made, if memory sufficed
abbrev pub Steps : Result TokenStep AllocError → Moved → Type 0
Steps result m = IfOk result (λ step. IsStep step m)
