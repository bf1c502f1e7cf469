-- The kernel of a name among functions, with one function more.
use Rattle.std.proofs.Common.{◌≡◌, ℕ, ◌+◌, ◌<◌, ◌==◌, ◌&&◌, Bool, true, false, cond, Some, List, [], ◌∷◌, ◌++◌, length, take, get_or, map, refl, ap, sym, ◌∙◌}
use Rattle.std.proofs.lemmas.List.{take_more}
use Rattle.std.proofs.lemmas.Bool.{eqb-true, and_parts}
use Rattle.clmodel.specs.Setup.{kernel_in, functions_before}
use Rattle.clmodel.specs.Tree.{Funcs, Func, func, funcs, then_funcs, NoFunc, ThenFunc}
use Rattle.clmodel.specs.declared.tree.Function.{Function}

pub then_last : (fs : Funcs) (gs : List Function) (g : Function) → then_funcs fs (map func (gs ++ g ∷ [])) ≡ ThenFunc (then_funcs fs (map func gs)) (func g)
then_last fs [] g = refl
then_last fs (f ∷ gs) g = then_last (ThenFunc fs (func f)) gs g

-- the first functions with one more
pub functions_more : (gs : List Function) (i : ℕ) (g : Function) → i < length gs → g ≡ get_or gs i g → funcs (take (i + 1) gs) ≡ ThenFunc (funcs (take i gs)) (func g)
functions_more gs i g below is = ap funcs (take_more gs i g below ∙ ap (λ f. take i gs ++ f ∷ []) (sym is)) ∙ then_last NoFunc (take i gs) g

pub kernel_more : (gs : List Function) (i name : ℕ) (g : Function) (b : Bool) → i < length gs → g ≡ get_or gs i g → (g.is_kernel && (g.name == name)) ≡ b
    → kernel_in (funcs (take (i + 1) gs)) name ≡ cond b (Some (func g)) (kernel_in (funcs (take i gs)) name)
kernel_more gs i name g b h p e =
    ap (λ fs. kernel_in fs name) (functions_more gs i g h p) ∙ ap (λ x. cond x (Some (func g)) (kernel_in (funcs (take i gs)) name)) e

pub before_more : (gs : List Function) (i name : ℕ) (g : Function) (b : Bool) → i < length gs → g ≡ get_or gs i g → (g.is_kernel && (g.name == name)) ≡ b
    → functions_before (funcs (take (i + 1) gs)) name ≡ cond b (funcs (take i gs)) (functions_before (funcs (take i gs)) name)
before_more gs i name g b h p e =
    ap (λ fs. functions_before fs name) (functions_more gs i g h p) ∙ ap (λ x. cond x (funcs (take i gs)) (functions_before (funcs (take i gs)) name)) e

-- a function that is found has the name that was looked for
pub named : (fs : Funcs) (number : ℕ) (f : Func) → kernel_in fs number ≡ Some f → f.name ≡ number
named NoFunc number f h = cc
named (ThenFunc fs g) number f h = by (g.is_kernel && (g.name == number)) refl (named fs number f) h
  where
    by : (b : Bool) → (g.is_kernel && (g.name == number)) ≡ b → (kernel_in fs number ≡ Some f → f.name ≡ number) → cond b (Some g) (kernel_in fs number) ≡ Some f → f.name ≡ number
    by true passes rest found = let same : g ≡ f = cc in ap (λ k. k.name) (sym same) ∙ eqb-true g.name number (and_parts g.is_kernel (g.name == number) passes).1
    by false fails rest found = rest found
