-- One declaration more.
use Rattle.std.proofs.Common.{◌≡◌, ℕ, ◌+◌, ◌-◌, ◌^◌, ◌<◌, ◌≤◌, min, false, nat_lt, Option, None, Some, List, [], ◌∷◌, ◌++◌, length, take, drop, get_or, map, refl, ap, sym, ◌∙◌, arith}
use Rattle.std.proofs.lemmas.List.{take_more, take-append-drop, map-append, append-nil}
use Rattle.std.proofs.lemmas.List.Sums.{sum_by-append, sum_by-cons}
use Rattle.std.proofs.lemmas.Bool.Decides.{nat_tests}
use Rattle.clmodel.specs.Setup.{LocalObject, declared_object, body_objects, parameter_objects, local_size}
use Rattle.clmodel.specs.Tree.{Stmt, Stmts, stmt, then_stmts, NoStmt, ThenStmt}
use Rattle.clmodel.specs.declared.setup.Argument.{Argument}
use Rattle.clmodel.specs.declared.tree.Parameter.{Parameter}
use Rattle.clmodel.specs.declared.tree.Statement.{Statement}
use Rattle.item_step.specs.Objects.{all_sizes, capped, listed, most_local_bytes}
use Rattle.item_step.proofs.Objects.{object_at, objects_more_at}

then_more : (ss : Stmts) (ts us : List Stmt) → then_stmts ss (ts ++ us) ≡ then_stmts (then_stmts ss ts) us
then_more ss [] us = refl
then_more ss (t ∷ ts) us = then_more (ThenStmt ss t) ts us

-- the local objects that the first statements of a block declare
abbrev pub declared_in : List Statement → List LocalObject
declared_in ss = body_objects (then_stmts NoStmt (map stmt ss))

one_more : (ss : List Statement) (i : ℕ) (s : Statement) → i < length ss → s ≡ get_or ss i s → declared_in (take (i + 1) ss) ≡ declared_in (take i ss) ++ declared_object (stmt s)
one_more ss i s below is =
    ap declared_in (take_more ss i s below ∙ ap (λ t. take i ss ++ t ∷ []) (sym is))
    ∙ ap (λ ts. body_objects (then_stmts NoStmt ts)) (map-append stmt (take i ss) (s ∷ []))
    ∙ ap body_objects (then_more NoStmt (map stmt (take i ss)) (stmt s ∷ []))

names_capped : (objects : List LocalObject) → map (λ o. o.name) (map capped objects) ≡ map (λ o. o.name) objects
names_capped [] = refl
names_capped (o ∷ objects) = ap (λ names. o.name ∷ names) (names_capped objects)

-- the bytes of one object whose bytes can be counted
size_one : (objects : List LocalObject) (n : ℕ) → map (λ o. o.size) (map capped objects) ≡ n ∷ [] → all_sizes objects < 2 ^ 64 - 1 → n ∷ [] ≡ map (λ o. o.size) objects
size_one [] n is h = let e = ap length is in absurd (omega (arith, e))
size_one (o ∷ []) n is h =
    let e : min o.size (2 ^ 64 - 1) ≡ n = ap (λ sizes. get_or sizes 0 0) is in
    let alone : all_sizes (o ∷ []) ≡ 0 + o.size = refl in
    let f : n ≡ o.size = omega (arith, e, h, alone) in
    ap (λ k. k ∷ []) f
size_one (o ∷ p ∷ rest) n is h = let e = ap length is in absurd (omega (arith, e))

-- statements behind others declare no fewer bytes
no_fewer : (ss : Stmts) (ts : List Stmt) → all_sizes (body_objects ss) ≤ all_sizes (body_objects (then_stmts ss ts))
no_fewer ss [] = omega arith
no_fewer ss (t ∷ ts) =
    let more : all_sizes (body_objects (ThenStmt ss t)) ≡ all_sizes (body_objects ss) + all_sizes (declared_object t) = sum_by-append (λ (o : LocalObject). o.size) (body_objects ss) (declared_object t) in
    let rest : all_sizes (body_objects (ThenStmt ss t)) ≤ all_sizes (body_objects (then_stmts (ThenStmt ss t) ts)) = no_fewer (ThenStmt ss t) ts in
    omega (arith, more, rest)

first_sizes : (ss : List Statement) (i : ℕ) → all_sizes (declared_in (take i ss)) ≤ all_sizes (declared_in ss)
first_sizes ss i =
    let whole : all_sizes (declared_in (take i ss ++ drop i ss)) ≡ all_sizes (declared_in ss) = ap (λ l. all_sizes (declared_in l)) (take-append-drop i ss) in
    let parts : all_sizes (declared_in (take i ss ++ drop i ss)) ≡ all_sizes (body_objects (then_stmts (then_stmts NoStmt (map stmt (take i ss))) (map stmt (drop i ss)))) =
    ap (λ l. all_sizes (body_objects (then_stmts NoStmt l))) (map-append stmt (take i ss) (drop i ss))
    ∙ ap (λ b. all_sizes (body_objects b)) (then_more NoStmt (map stmt (take i ss)) (map stmt (drop i ss))) in
    let first : all_sizes (declared_in (take i ss)) ≤ all_sizes (body_objects (then_stmts (then_stmts NoStmt (map stmt (take i ss))) (map stmt (drop i ss)))) = no_fewer (then_stmts NoStmt (map stmt (take i ss))) (map stmt (drop i ss)) in
    omega (arith, whole, parts, first)

-- the bytes that one statement declares are among those of all
sizes_of_one : (ss : List Statement) (i : ℕ) (s : Statement) → i < length ss → s ≡ get_or ss i s → all_sizes (declared_in ss) < 2 ^ 64 - 1 → all_sizes (declared_object (stmt s)) < 2 ^ 64 - 1
sizes_of_one ss i s below there few =
    let sum : all_sizes (declared_in (take (i + 1) ss)) ≡ all_sizes (declared_in (take i ss)) + all_sizes (declared_object (stmt s)) =
    ap all_sizes (one_more ss i s below there) ∙ sum_by-append (λ (o : LocalObject). o.size) (declared_in (take i ss)) (declared_object (stmt s)) in
    let first : all_sizes (declared_in (take (i + 1) ss)) ≤ all_sizes (declared_in ss) = first_sizes ss (i + 1) in
    omega (arith, sum, first, few)

-- a statement that declares an object
pub names_more : (ss : List Statement) (i : ℕ) (s : Statement) (object : ℕ × ℕ) → i < length ss → s ≡ get_or ss i s → listed (Some object) ≡ map capped (declared_object (stmt s))
    → map (λ o. o.name) (declared_in (take i ss)) ++ object.0 ∷ [] ≡ map (λ o. o.name) (declared_in (take (i + 1) ss))
names_more ss i s object below there is =
    ap (λ names. map (λ o. o.name) (declared_in (take i ss)) ++ names) (ap (map (λ o. o.name)) is ∙ names_capped (declared_object (stmt s)))
    ∙ sym (ap (map (λ o. o.name)) (one_more ss i s below there) ∙ map-append (λ o. o.name) (declared_in (take i ss)) (declared_object (stmt s)))

pub sizes_more : (ss : List Statement) (i : ℕ) (s : Statement) (object : ℕ × ℕ) → i < length ss → s ≡ get_or ss i s → listed (Some object) ≡ map capped (declared_object (stmt s)) → all_sizes (declared_in ss) < 2 ^ 64 - 1
    → map (λ o. o.size) (declared_in (take i ss)) ++ object.1 ∷ [] ≡ map (λ o. o.size) (declared_in (take (i + 1) ss))
sizes_more ss i s object below there is few =
    ap (λ sizes. map (λ o. o.size) (declared_in (take i ss)) ++ sizes) (size_one (declared_object (stmt s)) object.1 (sym (ap (map (λ o. o.size)) is)) (sizes_of_one ss i s below there few))
    ∙ sym (ap (map (λ o. o.size)) (one_more ss i s below there) ∙ map-append (λ o. o.size) (declared_in (take i ss)) (declared_object (stmt s)))

empty : (objects : List LocalObject) → [] ≡ map capped objects → [] ≡ objects
empty [] is = refl
empty (o ∷ objects) is = let e = ap length is in absurd (omega (arith, e))

-- a statement that declares none
pub none_more : (ss : List Statement) (i : ℕ) (s : Statement) → i < length ss → s ≡ get_or ss i s → listed None ≡ map capped (declared_object (stmt s)) → declared_in (take i ss) ≡ declared_in (take (i + 1) ss)
none_more ss i s below there is =
    sym (append-nil (declared_in (take i ss)))
    ∙ ap (λ objects. declared_in (take i ss) ++ objects) (empty (declared_object (stmt s)) is)
    ∙ sym (one_more ss i s below there)

clip_one : (x a t u m : ℕ) → min (x + min a m + t) m ≡ min (x + min a m + u) m → min (x + (min a m + t)) m ≡ min (x + (a + u)) m
clip_one x a t u m h = omega (arith, h)

-- a sum that is cut off may be one of sizes that are
capped_sum : (objects : List LocalObject) (x : ℕ) → min (x + all_sizes (map capped objects)) (2 ^ 64 - 1) ≡ min (x + all_sizes objects) (2 ^ 64 - 1)
capped_sum [] x = refl
capped_sum (o ∷ objects) x =
    ap (λ n. min (x + n) (2 ^ 64 - 1)) (sum_by-cons (λ (p : LocalObject). p.size) (capped o) (map capped objects))
    ∙ clip_one x o.size (all_sizes (map capped objects)) (all_sizes objects) (2 ^ 64 - 1) (capped_sum objects (x + min o.size (2 ^ 64 - 1)))
    ∙ ap (λ n. min (x + n) (2 ^ 64 - 1)) (sym (sum_by-cons (λ (p : LocalObject). p.size) o objects))

clip_sum : (n p m : ℕ) → min (min n m + p) m ≡ min (n + p) m
clip_sum n p m = omega arith

-- the bytes of one statement more
pub bytes_more : (ss : List Statement) (i : ℕ) (s : Statement) → i < length ss → s ≡ get_or ss i s
    → min (min (all_sizes (declared_in (take i ss))) (2 ^ 64 - 1) + all_sizes (map capped (declared_object (stmt s)))) (2 ^ 64 - 1)
    ≡ min (all_sizes (declared_in (take (i + 1) ss))) (2 ^ 64 - 1)
bytes_more ss i s below there =
    let x = all_sizes (declared_in (take i ss)) in
    clip_sum x (all_sizes (map capped (declared_object (stmt s)))) (2 ^ 64 - 1)
    ∙ capped_sum (declared_object (stmt s)) x
    ∙ ap (λ n. min n (2 ^ 64 - 1)) (sym (ap all_sizes (one_more ss i s below there) ∙ sum_by-append (λ (o : LocalObject). o.size) (declared_in (take i ss)) (declared_object (stmt s))))

size_alone : (size x : ℕ) → x + size ≡ x + (0 + size)
size_alone size x = omega arith

-- the bytes of one parameter more
pub parameter_more : (ps : List Parameter) (arguments : List (Option Argument)) (i : ℕ) (d : Parameter) → i < length ps
    → min (min (all_sizes (parameter_objects (take i ps) arguments)) (2 ^ 64 - 1) + local_size (get_or arguments i None)) (2 ^ 64 - 1)
    ≡ min (all_sizes (parameter_objects (take (i + 1) ps) arguments)) (2 ^ 64 - 1)
parameter_more ps arguments i d below =
    let x = all_sizes (parameter_objects (take i ps) arguments) in
    let size = local_size (get_or arguments i None) in
    clip_sum x size (2 ^ 64 - 1)
    ∙ ap (λ n. min n (2 ^ 64 - 1)) (size_alone size x)
    ∙ ap (λ n. min n (2 ^ 64 - 1)) (sym (ap all_sizes (objects_more_at ps arguments i d below) ∙ sum_by-append (λ (o : LocalObject). o.size) (parameter_objects (take i ps) arguments) (object_at arguments i (get_or ps i d) ∷ [])))

-- sums that are cut off, against a smaller number
above : (limit p d : ℕ) → limit ≤ most_local_bytes → nat_lt limit (min (min p (2 ^ 64 - 1) + min d (2 ^ 64 - 1)) (2 ^ 64 - 1)) ≡ nat_lt limit (p + d)
above limit p d small = grind (arith, nat_tests, small)

-- the bytes of a kernel's local objects
pub all_above : (limit : ℕ) (parameters declared : List LocalObject) → limit ≤ most_local_bytes
    → nat_lt limit (min (min (all_sizes parameters) (2 ^ 64 - 1) + min (all_sizes declared) (2 ^ 64 - 1)) (2 ^ 64 - 1)) ≡ nat_lt limit (all_sizes (parameters ++ declared))
all_above limit parameters declared small =
    above limit (all_sizes parameters) (all_sizes declared) small ∙ ap (nat_lt limit) (sym (sum_by-append (λ (o : LocalObject). o.size) parameters declared))

-- bytes that aren't above the limit of a device are no more than some device has
pub has_room : (limit bytes : ℕ) → limit ≤ most_local_bytes → nat_lt limit bytes ≡ false → bytes ≤ most_local_bytes
has_room limit bytes small within = grind (arith, nat_tests, small, within)
