-- Programs and kernels as plain data.
use Rattle.std.proofs.Common.{◌≡◌, ℕ, Bool, true, false, cond, List, [], ◌∷◌, Option, None, Some, map, ◌||◌, is_some, refl, ap, sym, ◌∙◌}
use Rattle.std.specs.Option.{option_map}
use Rattle.std.specs.List.{list_any}
use Rattle.std.specs.Map.{lookup, set_value, values_of}
use Rattle.clmodel.specs.Tree.{program}
use Rattle.cltypes.specs.declared.checked.Checked.{Checked}
use Rattle.spaces.specs.Tables.{is, find}
use Rattle.host_commands.specs.Kernels.{KernelState}
use Rattle.device.specs.declared.compiled.CompiledKernel.{CompiledKernel}

-- what is found among values that are seen otherwise is what is found, seen so
pub find_mapped : {K A B : Type 0} (f : A → B) (test : K → Bool) (es : List (K × A)) → lookup test (map (λ e. (e.0, f e.1)) es) ≡ option_map f (lookup test es)
find_mapped f test [] = refl
find_mapped {K} {A} {B} f test (e ∷ es) = by (test e.0) (find_mapped f test es)
  where
    by : (b : Bool) → lookup test (map (λ e. (e.0, f e.1)) es) ≡ option_map f (lookup test es)
        → cond b (Some (f e.1)) (lookup test (map (λ e. (e.0, f e.1)) es)) ≡ option_map f (cond b (Some e.1) (lookup test es))
    by true same = refl
    by false same = same

-- the same of programs
pub find_program : (es : List (List ℕ × Checked)) (name : List ℕ)
    → find (map (λ e. (e.0, program e.1.tree)) es) name ≡ option_map (λ c. program c.tree) (find es name)
find_program es name = find_mapped (λ c. program c.tree) (is name) es

none_from : (o : Option Checked) → is_some (option_map (λ c. program c.tree) o) ≡ false → o ≡ None
none_from None h = refl
none_from (Some c) h = cc

-- a name that no program has
pub free : (es : List (List ℕ × Checked)) (name : List ℕ) → is_some (find (map (λ e. (e.0, program e.1.tree)) es) name) ≡ false → find es name ≡ None
free es name h = none_from (find es name) (ap is_some (sym (find_program es name)) ∙ h)

-- the same of kernels
pub find_kernel : (es : List (List ℕ × CompiledKernel)) (name : List ℕ)
    → find (map (λ e. (e.0, e.1.kernel)) es) name ≡ option_map (λ c. c.kernel) (find es name)
find_kernel es name = find_mapped (λ c. c.kernel) (is name) es

-- the kernel of what is found
pub kernel_seen : {B : Type 0} (now : B → CompiledKernel) (o : Option B) → option_map (λ b. (now b).kernel) o ≡ option_map (λ c. c.kernel) (option_map now o)
kernel_seen now None = refl
kernel_seen now (Some b) = refl

no_kernel_from : (o : Option CompiledKernel) → is_some (option_map (λ c. c.kernel) o) ≡ false → o ≡ None
no_kernel_from None h = refl
no_kernel_from (Some c) h = cc

-- a name that no kernel has
pub free_kernel : (es : List (List ℕ × CompiledKernel)) (name : List ℕ) → is_some (find (map (λ e. (e.0, e.1.kernel)) es) name) ≡ false → find es name ≡ None
free_kernel es name h = no_kernel_from (find es name) (ap is_some (sym (find_kernel es name)) ∙ h)

-- what is put in the place of what is found, seen otherwise
set_mapped : {K A B : Type 0} (f : A → B) (test : K → Bool) (es : List (K × A)) (a : A) → map (λ e. (e.0, f e.1)) (set_value test es a) ≡ set_value test (map (λ e. (e.0, f e.1)) es) (f a)
set_mapped f test [] a = refl
set_mapped {K} {A} {B} f test (e ∷ es) a = by (test e.0) (set_mapped f test es a)
  where
    by : (b : Bool) → map (λ e. (e.0, f e.1)) (set_value test es a) ≡ set_value test (map (λ e. (e.0, f e.1)) es) (f a)
        → map (λ e. (e.0, f e.1)) (cond b ((e.0, a) ∷ es) (e ∷ set_value test es a)) ≡ cond b ((e.0, f a) ∷ map (λ e. (e.0, f e.1)) es) ((e.0, f e.1) ∷ set_value test (map (λ e. (e.0, f e.1)) es) (f a))
    by true same = refl
    by false same = ap (λ l. (e.0, f e.1) ∷ l) same

-- the same of kernels
pub set_kernel : (es : List (List ℕ × CompiledKernel)) (name : List ℕ) (compiled : CompiledKernel)
    → map (λ e. (e.0, e.1.kernel)) (set_value (is name) es compiled) ≡ set_value (is name) (map (λ e. (e.0, e.1.kernel)) es) compiled.kernel
set_kernel es name compiled = set_mapped (λ c. c.kernel) (is name) es compiled

-- a test of kernels, seen otherwise
pub any_kernel : (p : KernelState → Bool) (es : List (List ℕ × CompiledKernel)) → list_any p (values_of (map (λ e. (e.0, e.1.kernel)) es)) ≡ list_any (λ c. p c.kernel) (values_of es)
any_kernel p [] = refl
any_kernel p (e ∷ es) = ap (λ b. p e.1.kernel || b) (any_kernel p es)
