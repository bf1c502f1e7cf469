use Rattle.std.proofs.Common.{◌≡◌, ℕ, ◌<◌, Option, None, Some, IfSome, length, take, ap, sym, ◌∙◌, rules}
use Rattle.std.specs.Option.{option_map}
use Rattle.clmodel.specs.Setup.{kernel_in, functions_before}
use Rattle.clmodel.specs.Tree.{Func, program, func, funcs}
use Rattle.clmodel.specs.declared.lookup.PlacedFunction.{PlacedFunction}
use Rattle.clmodel.specs.declared.tree.Tree.{Tree}
use Rattle.clmodel.proofs.Kernels.{named}
use Rattle.cltypes.specs.Kernels.{IsKernel}
use Rattle.cltypes.proofs.checked.Checked.kernel.Goals as goal

-- what is found by a number has that number as its name
placed_by : (tree : Tree) (number : ℕ) (found : Option PlacedFunction)
    → option_map (λ (x : PlacedFunction). func x.function.now) found ≡ kernel_in (program tree).functions number
    → IfSome found (λ x. funcs (take x.place tree.functions.items) ≡ functions_before (program tree).functions number)
    → IfSome found (λ x. x.place < length tree.functions.items)
    → IfSome found (λ x. IsKernel tree x.place x.function.now)
placed_by tree number None there before within = search rules
placed_by tree number (Some x) there before within =
    let same : x.function.now.name ≡ number = named (program tree).functions number (func x.function.now) (sym there) in
    record {
      there = ap (λ n. kernel_in (program tree).functions n) same ∙ sym there;
      before = before ∙ ap (λ n. functions_before (program tree).functions n) (sym same);
      within = within;
    }

pub returns-clause-placed : goal.returns-clause-placed
returns-clause-placed c = placed_by c.args.self.now.tree c.in_ok-number.number c.kernel.result c.kernel.ensures.kernel c.kernel.ensures.before c.kernel.ensures.within
