-- A table of sizes up to the limits gives the sizes up to the limits.
use Rattle.std.proofs.Common.{◌≡◌, ℕ, Bool, true, false, nat_eq, cond, List, [], ◌∷◌, ◌++◌, Option, None, Some, is_some, map, refl, sym, ap, ◌∙◌, arith, true≢false}
use Rattle.std.specs.Option.{option_map, option_or}
use Rattle.std.specs.Map.{lookup}
use Rattle.std.proofs.lemmas.Map.Made.{lookup-map_values}
use Rattle.std.proofs.lemmas.Bool.{eqb-true}
use Rattle.clmodel.specs.Tree as tree
use Rattle.clmodel.specs.Tree.{Term, Terms, NoTerm, ThenTerm, Target, Stmt, Stmts, NoStmt, ThenStmt, MaybeStmt, Without, With, MaybeTerm, WithoutTerm, WithTerm, Func, Funcs, ThenFunc}
use Rattle.clmodel.specs.Typing.Sizes as counted
use Rattle.clmodel.specs.Typing.Sizes.{Sizes, nothing, beside, one_node, one_loop, or_nothing, size_in, term_size, terms_size, target_size, condition_size, size, part_size, row_size, sizes_of}
use Rattle.clmodel.specs.Typing.Functions.{size_of}
use Rattle.cltypes.specs.declared.size.Size.{Size}
use Rattle.cltypes.specs.Limits.{capped, plain, plain_entry, IsSummary}

-- two sizes are one where their numbers are
abbrev of : ℕ → ℕ → ℕ → Size
of l b n = record { loops = l; bytes = b; nodes = n }

made : {l m b d n k : ℕ} → l ≡ m → b ≡ d → n ≡ k → of l b n ≡ of m d k
made {l} {m} {b} {d} {n} {k} h i g = ap (λ z. of z b n) h ∙ ap (λ z. of m z n) i ∙ ap (λ z. of m d z) g

-- sizes that are one up to the limits
record Alike (s t : counted.Size) : Type 0 where
  same : capped s ≡ capped t

loops_of : {s t : counted.Size} → Alike s t → (capped s).loops ≡ (capped t).loops
loops_of h = ap (λ z. z.loops) h.same

bytes_of : {s t : counted.Size} → Alike s t → (capped s).bytes ≡ (capped t).bytes
bytes_of h = ap (λ z. z.bytes) h.same

nodes_of : {s t : counted.Size} → Alike s t → (capped s).nodes ≡ (capped t).nodes
nodes_of h = ap (λ z. z.nodes) h.same

equal : (s : counted.Size) → Alike s s
equal s = record { same = refl }

same_beside : {s t q r : counted.Size} → Alike s q → Alike t r → Alike (beside s t) (beside q r)
same_beside h g = record { same = made (omega (arith, loops_of h, loops_of g)) (omega (arith, bytes_of h, bytes_of g)) (omega (arith, nodes_of h, nodes_of g)) }

same_node : {s t : counted.Size} → Alike s t → Alike (one_node s) (one_node t)
same_node h = record { same = made (loops_of h) (bytes_of h) (omega (arith, nodes_of h)) }

same_loop : {s t : counted.Size} → Alike s t → Alike (one_loop s) (one_loop t)
same_loop h = record { same = made (omega (arith, loops_of h)) (bytes_of h) (omega (arith, nodes_of h)) }

pub capped_again : (s : counted.Size) → capped (plain (capped s)) ≡ capped s
capped_again s = made (omega arith) (omega arith) (omega arith)

module _ (A B : Sizes) (same : (x : ℕ) → Alike (size_in A x) (size_in B x)) where
  mutual
    same_term : (e : Term) → Alike (term_size A e) (term_size B e)
    same_term (tree.Number a v) = equal _
    same_term (tree.Variable a x) = equal _
    same_term (tree.Element a x e) = same_node (same_term e)
    same_term (tree.ElementAddress a b x e) = same_node (same_term e)
    same_term (tree.Dereference a e) = same_node (same_term e)
    same_term (tree.Call a x es) = same_node (same_beside (same_terms es) (same x))
    same_term (tree.Unary a op e) = same_node (same_term e)
    same_term (tree.Cast a t e) = same_node (same_term e)
    same_term (tree.Binary a op d e) = same_node (same_beside (same_term d) (same_term e))
    same_term (tree.Choice a e d f) = same_node (same_beside (same_beside (same_term e) (same_term d)) (same_term f))

    same_terms : (es : Terms) → Alike (terms_size A es) (terms_size B es)
    same_terms NoTerm = equal _
    same_terms (ThenTerm es e) = same_beside (same_terms es) (same_term e)

  same_place : (p : Target) → Alike (target_size A p) (target_size B p)
  same_place (tree.TargetVariable a x) = equal _
  same_place (tree.TargetElement a x e) = same_node (same_term e)
  same_place (tree.TargetDereference a e) = same_node (same_term e)

  same_condition : (e : MaybeTerm) → Alike (condition_size A e) (condition_size B e)
  same_condition WithoutTerm = equal _
  same_condition (WithTerm e) = same_term e

  mutual
    same_statement : (s : Stmt) → Alike (size A s) (size B s)
    same_statement (tree.Empty a) = equal _
    same_statement (tree.Block a ss) = same_node (same_row ss)
    same_statement (tree.Declare a k b x) = equal _
    same_statement (tree.DeclareAs a k b x e) = same_node (same_term e)
    same_statement (tree.DeclareArray a is_local t b x d n) = equal _
    same_statement (tree.Assign a p op e) = same_node (same_beside (same_place p) (same_term e))
    same_statement (tree.Step a p is_increment) = same_node (same_place p)
    same_statement (tree.CallOnly a x es) = same_node (same_beside (same_terms es) (same x))
    same_statement (tree.If a e s) = same_node (same_beside (same_term e) (same_statement s))
    same_statement (tree.IfElse a e s r) = same_node (same_beside (same_beside (same_term e) (same_statement s)) (same_statement r))
    same_statement (tree.While a e s) = same_loop (same_beside (same_term e) (same_statement s))
    same_statement (tree.DoWhile a s e) = same_loop (same_beside (same_statement s) (same_term e))
    same_statement (tree.For a first e third s) =
        same_beside (same_part first) (same_loop (same_beside (same_beside (same_condition e) (same_part third)) (same_statement s)))
    same_statement (tree.Break a) = equal _
    same_statement (tree.Continue a) = equal _
    same_statement (tree.Return a) = equal _
    same_statement (tree.ReturnValue a e) = same_node (same_term e)

    same_part : (p : MaybeStmt) → Alike (part_size A p) (part_size B p)
    same_part Without = equal _
    same_part (With s) = same_statement s

    same_row : (ss : Stmts) → Alike (row_size A ss) (row_size B ss)
    same_row NoStmt = equal _
    same_row (ThenStmt ss s) = same_beside (same_row ss) (same_statement s)

-- ---- tables

-- the size that is kept, or that of no node
abbrev kept : Option Size → Size
kept None = capped nothing
kept (Some s) = s

kept_of : (o : Option counted.Size) → capped (or_nothing o) ≡ kept (option_map capped o)
kept_of None = refl
kept_of (Some s) = refl

summed : (table : Sizes) (fs : Funcs) → IsSummary table fs → (x : ℕ) → Alike (size_in table x) (size_in (sizes_of fs) x)
summed table fs h x = record { same = kept_of (lookup (nat_eq x) table) ∙ ap kept (h x) ∙ sym (kept_of (lookup (nat_eq x) (sizes_of fs))) }

pub body_size : (table : Sizes) (fs : Funcs) (f : Func) → IsSummary table fs → capped (row_size table f.body) ≡ capped (size_of fs f)
body_size table fs f h = (same_row table (sizes_of fs) (summed table fs h) f.body).same

-- one more entry, behind the others

or_cond : (b : Bool) (s : counted.Size) (o p : Option counted.Size) → option_or (cond b (Some s) o) p ≡ cond b (Some s) (option_or o p)
or_cond true s o p = refl
or_cond false s o p = refl

lookup_behind : (t : ℕ → Bool) (es : Sizes) (y : ℕ) (s : counted.Size) → lookup t (es ++ (y, s) ∷ []) ≡ option_or (lookup t es) (cond (t y) (Some s) None)
lookup_behind t [] y s = refl
lookup_behind t (e ∷ es) y s = ap (cond (t e.0) (Some e.1)) (lookup_behind t es y s) ∙ sym (or_cond (t e.0) e.1 (lookup t es) (cond (t y) (Some s) None))

map_or : (o p : Option counted.Size) → option_map capped (option_or o p) ≡ option_or (option_map capped o) (option_map capped p)
map_or None p = refl
map_or (Some s) p = refl

same_or : {o p q r : Option Size} → o ≡ q → p ≡ r → option_or o p ≡ option_or q r
same_or {o} {p} {q} {r} h g = ap (λ z. option_or z p) h ∙ ap (option_or q) g

same_one : (b : Bool) (s t : counted.Size) → capped s ≡ capped t → option_map capped (cond b (Some s) None) ≡ option_map capped (cond b (Some t) None)
same_one true s t h = ap Some h
same_one false s t h = refl

pub added : (table : Sizes) (fs : Funcs) (f : Func) (s : Size) → IsSummary table fs → s ≡ capped (size_of fs f)
    → IsSummary (table ++ (f.name, plain s) ∷ []) (ThenFunc fs f)
added table fs f s h e x =
    let t = nat_eq x in
    let full = size_of fs f in
    ap (option_map capped) (lookup_behind t table f.name (plain s))
    ∙ map_or (lookup t table) (cond (t f.name) (Some (plain s)) None)
    ∙ same_or (h x) (same_one (t f.name) (plain s) full (ap (λ z. capped (plain z)) e ∙ capped_again full))
    ∙ sym (map_or (lookup t (sizes_of fs)) (cond (t f.name) (Some full) None))
    ∙ sym (ap (option_map capped) (lookup_behind t (sizes_of fs) f.name full))

-- an entry of a name that is there is never found

some_mapped : (o : Option counted.Size) → is_some (option_map capped o) ≡ is_some o
some_mapped None = refl
some_mapped (Some s) = refl

never_found : (b : Bool) (o : Option counted.Size) (s : counted.Size) → (b ≡ true → is_some (option_map capped o) ≡ true)
    → option_map capped (option_or o (cond b (Some s) None)) ≡ option_map capped o
never_found b (Some s) t g = refl
never_found true None t g = absurd (true≢false (sym (g refl)))
never_found false None t g = refl

pub there : (table : Sizes) (fs : Funcs) (f : Func) → IsSummary table fs → is_some (lookup (nat_eq f.name) table) ≡ true → IsSummary table (ThenFunc fs f)
there table fs f h k x =
    let t = nat_eq x in
    h x
    ∙ sym (ap (option_map capped) (lookup_behind t (sizes_of fs) f.name (size_of fs f))
    ∙ never_found (t f.name) (lookup t (sizes_of fs)) (size_of fs f)
    (λ e. ap is_some (sym (h x)) ∙ some_mapped (lookup t table) ∙ ap (λ y. is_some (lookup (nat_eq y) table)) (eqb-true x f.name e) ∙ k))

-- the entries as they are kept

pub viewed : (es : List (ℕ × Size)) (x : ℕ) (s : Size) → map plain_entry (es ++ (x, s) ∷ []) ≡ map plain_entry es ++ (x, plain s) ∷ []
viewed [] x s = refl
viewed (e ∷ es) x s = ap (λ r. plain_entry e ∷ r) (viewed es x s)

some_plain : (o : Option Size) → is_some (option_map plain o) ≡ is_some o
some_plain None = refl
some_plain (Some s) = refl

pub some_viewed : (t : ℕ → Bool) (es : List (ℕ × Size)) → is_some (lookup t (map plain_entry es)) ≡ is_some (lookup t es)
some_viewed t es = ap is_some (lookup-map_values plain t es) ∙ some_plain (lookup t es)

pub none_of : {A : Type 0} (o : Option A) (b : Bool) → b ≡ is_some o → b ≡ false → o ≡ None
none_of None b e h = refl
none_of (Some a) b e h = absurd (true≢false (sym e ∙ h))
