-- What is known of functions, for fewer functions and for one more.
use Rattle.std.proofs.Common.{◌≡◌, ℕ, zero, suc, ◌+◌, ◌*◌, ◌<◌, ◌≤◌, ◌^◌, ◌⊎◌, inl, inr, Option, None, Some, IfSome, List, [], ◌∷◌, ◌++◌, length, take, get_or, refl, sym, ap, subst, ◌∙◌, arith}
use Rattle.std.proofs.lemmas.Bool.{cases_lt}
use Rattle.std.proofs.lemmas.List.{get_or_default, get_or-take, take-take, length-take}
use Rattle.std.proofs.Math.Seq.{take-length}
use Rattle.clmodel.specs.Next.{all_sites}
use Rattle.clmodel.specs.declared.tree.Function.{Function}
use Rattle.clmodel.specs.Tree.{func}
use Rattle.clmodel.specs.Typing.Functions.{size_of}
use Rattle.clmodel.specs.Typing.Sizes.{row_size, node_limit}
use Rattle.lower_code.specs.Trees.{all_of}
use Rattle.lower_code.specs.Helpers.{functions_of, inside, body_of, BarriersKnown, BarriersCounted, LengthsKnown, LengthsCounted, NodesCounted, WidthsCounted, AreNarrow, EndsKnown, sizes_in, nodes_in, widths_in, width_of, width_in}
use Rattle.lower_code.specs.declared.known.KnownFunction.{KnownFunction}
use Rattle.lower_code.specs.Room.{FewParameters, FewElements}
use Rattle.lower_code.proofs.Lengths.{function_length}

-- what stands at a place doesn't depend on the default
pub known_at : (ks : List KnownFunction) (i : ℕ) (d e : KnownFunction) → i < length ks → get_or ks i d ≡ get_or ks i e
known_at [] i d e h = absurd (omega arith)
known_at (k ∷ ks) zero d e h = refl
known_at (k ∷ ks) (suc i) d e h = known_at ks i d e (omega arith)

function_at : (fs : List Function) (i : ℕ) (d e : Function) → i < length fs → get_or fs i d ≡ get_or fs i e
function_at [] i d e h = absurd (omega arith)
function_at (f ∷ fs) zero d e h = refl
function_at (f ∷ fs) (suc i) d e h = function_at fs i d e (omega arith)

within : (fs : List Function) (n i : ℕ) → n ≤ length fs → i < length (take n fs) → i < n
within fs n i small h = omega (arith, length-take n fs, h, small)

pub barriers_before : (fs : List Function) (ks : List KnownFunction) (n : ℕ) → n ≤ length fs → BarriersKnown fs ks → BarriersKnown (take n fs) ks
barriers_before fs ks n small h i f k m below there f_is k_is m_is =
    let inner : i < n = within fs n i small below in
    h i f k m (omega (arith, inner, small)) there (f_is ∙ get_or-take n fs i f inner) k_is m_is
    ∙ ap (λ gs. all_sites (inside gs) (all_of f.body.items)) (sym (take-take i n fs (omega (arith, inner))))

pub counted_before : (fs : List Function) (ks : List KnownFunction) (n : ℕ) → n ≤ length fs → BarriersCounted fs ks → BarriersCounted (take n fs) ks
counted_before fs ks n small h i f k below there f_is k_is none =
    let inner : i < n = within fs n i small below in
    subst (λ gs. 2 ^ 32 ≤ all_sites (inside gs) (all_of f.body.items)) (sym (take-take i n fs (omega (arith, inner))))
    (h i f k (omega (arith, inner, small)) there (f_is ∙ get_or-take n fs i f inner) k_is none)

-- the first functions are known if all are, or so many
pub complete_before : (fs : List Function) (ks : List KnownFunction) (n : ℕ) → n ≤ length fs → length fs ≤ length ks → length (take n fs) ≤ length ks
complete_before fs ks n small all = omega (arith, small, all, length-take n fs)

pub lengths_before : (fs : List Function) (ks : List KnownFunction) (n : ℕ) → n ≤ length fs → LengthsKnown fs ks → LengthsKnown (take n fs) ks
lengths_before fs ks n small h i f k m level depth site below there f_is k_is m_is =
    let inner : i < n = within fs n i small below in
    h i f k m level depth site (omega (arith, inner, small)) there (f_is ∙ get_or-take n fs i f inner) k_is m_is
    ∙ ap (λ gs. length (body_of gs f level depth site)) (sym (take-take i n fs (omega (arith, inner))))

pub measured_before : (fs : List Function) (ks : List KnownFunction) (n : ℕ) → n ≤ length fs → LengthsCounted fs ks → LengthsCounted (take n fs) ks
measured_before fs ks n small h i f k m below there f_is k_is m_is none =
    let inner : i < n = within fs n i small below in
    subst (λ gs. node_limit < (size_of (functions_of gs) (func f)).nodes) (sym (take-take i n fs (omega (arith, inner))))
    (h i f k m (omega (arith, inner, small)) there (f_is ∙ get_or-take n fs i f inner) k_is m_is none)

pub nodes_before : (fs : List Function) (n : ℕ) → n ≤ length fs → NodesCounted fs → NodesCounted (take n fs)
nodes_before fs n small h count i f below there f_is =
    let within : count ≤ n = omega (arith, length-take n fs, there, small) in
    let inner : i < n = omega (arith, within, below) in
    let at = h count i f below (omega (arith, within, small)) (f_is ∙ get_or-take n fs i f inner) in
    subst (λ gs. (size_of (functions_of gs) (func f)).nodes ≤ nodes_in (take count (take n fs)) f.name) (sym (take-take i n fs (omega (arith, inner))))
    (subst (λ gs. (size_of (functions_of (take i fs)) (func f)).nodes ≤ nodes_in gs f.name) (sym (take-take count n fs within)) at)

pub widths_before : (fs : List Function) (n : ℕ) → n ≤ length fs → WidthsCounted fs → WidthsCounted (take n fs)
widths_before fs n small h count i f below there f_is =
    let within : count ≤ n = omega (arith, length-take n fs, there, small) in
    let inner : i < n = omega (arith, within, below) in
    let at = h count i f below (omega (arith, within, small)) (f_is ∙ get_or-take n fs i f inner) in
    subst (λ gs. width_of (functions_of gs) (func f) ≤ width_in (take count (take n fs)) f.name) (sym (take-take i n fs (omega (arith, inner))))
    (subst (λ gs. width_of (functions_of (take i fs)) (func f) ≤ width_in gs f.name) (sym (take-take count n fs within)) at)

pub narrow_before : (fs : List Function) (n : ℕ) → n ≤ length fs → AreNarrow fs → AreNarrow (take n fs)
narrow_before fs n small h i f below f_is =
    let inner : i < n = within fs n i small below in
    subst (λ gs. (row_size (widths_in gs) (all_of f.body.items)).nodes ≤ 2 * (row_size (sizes_in gs) (all_of f.body.items)).nodes) (sym (take-take i n fs (omega (arith, inner))))
    (h i f (omega (arith, inner, small)) (f_is ∙ get_or-take n fs i f inner))

pub parameters_before : (fs : List Function) (n : ℕ) → n ≤ length fs → FewParameters fs → FewParameters (take n fs)
parameters_before fs n small h i f below f_is =
    let inner : i < n = within fs n i small below in
    h i f (omega (arith, inner, small)) (f_is ∙ get_or-take n fs i f inner)

pub elements_before : (fs : List Function) (n : ℕ) → n ≤ length fs → FewElements fs → FewElements (take n fs)
elements_before fs n small h i f below f_is =
    let inner : i < n = within fs n i small below in
    h i f (omega (arith, inner, small)) (f_is ∙ get_or-take n fs i f inner)

-- the function that is found by a name has no more nodes than are counted for it
pub nodes_found : (fs : List Function) (i name : ℕ) (f : Function) → NodesCounted fs → i < length fs → f ≡ get_or fs i f → f.name ≡ name
    → (size_of (functions_of (take i fs)) (func f)).nodes ≤ nodes_in fs name
nodes_found fs i name f h below f_is name_is =
    subst (λ gs. (size_of (functions_of (take i fs)) (func f)).nodes ≤ nodes_in gs name) (take-length fs)
    (subst (λ x. (size_of (functions_of (take i fs)) (func f)).nodes ≤ nodes_in (take (length fs) fs) x) name_is (h (length fs) i f below (omega arith) f_is))

-- and no more with the parameters among them
pub widths_found : (fs : List Function) (i name : ℕ) (f : Function) → WidthsCounted fs → i < length fs → f ≡ get_or fs i f → f.name ≡ name
    → width_of (functions_of (take i fs)) (func f) ≤ width_in fs name
widths_found fs i name f h below f_is name_is =
    subst (λ gs. width_of (functions_of (take i fs)) (func f) ≤ width_in gs name) (take-length fs)
    (subst (λ x. width_of (functions_of (take i fs)) (func f) ≤ width_in (take (length fs) fs) x) name_is (h (length fs) i f below (omega arith) f_is))

pub ends_before : (fs : List Function) (es : List ℕ) (n : ℕ) → n ≤ length fs → EndsKnown fs es → EndsKnown (take n fs) es
ends_before fs es n small h i f below f_is =
    let inner : i < n = within fs n i small below in
    h i f (omega (arith, inner, small)) (f_is ∙ get_or-take n fs i f inner)

-- a fact of each of these and of one more
each_more : (P : ℕ → KnownFunction → Type 0) (ks : List KnownFunction) (k : KnownFunction) → ((j : ℕ) (m : KnownFunction) → j < length ks → m ≡ get_or ks j m → P j m) → P (length ks) k
    → (j : ℕ) (m : KnownFunction) → j < length (ks ++ k ∷ []) → m ≡ get_or (ks ++ k ∷ []) j m → P j m
each_more P [] k h last zero m b e = subst (λ x. P zero x) (sym e) last
each_more P [] k h last (suc j) m b e = absurd (omega arith)
each_more P (x ∷ ks) k h last zero m b e = h zero m (omega arith) e
each_more P (x ∷ ks) k h last (suc j) m b e = each_more (λ i y. P (suc i) y) ks k (λ i y c d. h (suc i) y (omega arith) d) last j m (omega arith) e

pub barriers_more : (fs : List Function) (ks : List KnownFunction) (f : Function) (k : KnownFunction) → length ks < length fs → f ≡ get_or fs (length ks) f → BarriersKnown fs ks
    → ((n : ℕ) → k.barriers ≡ Some n → n ≡ all_sites (inside (take (length ks) fs)) (all_of f.body.items)) → BarriersKnown fs (ks ++ k ∷ [])
barriers_more fs ks f k below f_is h this i g m n small there g_is m_is n_is =
    each_more (λ j y. (g : Function) (n : ℕ) → j < length fs → g ≡ get_or fs j g → y.barriers ≡ Some n → n ≡ all_sites (inside (take j fs)) (all_of g.body.items)) ks k
    (λ j y c d g n small g_is n_is. h j g y n small c g_is d n_is)
    (λ g n small g_is n_is. this n n_is ∙ ap (λ x. all_sites (inside (take (length ks) fs)) (all_of x.body.items)) (f_is ∙ function_at fs (length ks) f g below ∙ sym g_is))
    i m there m_is g n small g_is n_is

pub counted_more : (fs : List Function) (ks : List KnownFunction) (f : Function) (k : KnownFunction) → length ks < length fs → f ≡ get_or fs (length ks) f → BarriersCounted fs ks
    → (k.barriers ≡ None → 2 ^ 32 ≤ all_sites (inside (take (length ks) fs)) (all_of f.body.items)) → BarriersCounted fs (ks ++ k ∷ [])
counted_more fs ks f k below f_is h this i g m small there g_is m_is none =
    each_more (λ j y. (g : Function) → j < length fs → g ≡ get_or fs j g → y.barriers ≡ None → 2 ^ 32 ≤ all_sites (inside (take j fs)) (all_of g.body.items)) ks k
    (λ j y c d g small g_is none. h j g y small c g_is d none)
    (λ g small g_is none. subst (λ (x : Function). 2 ^ 32 ≤ all_sites (inside (take (length ks) fs)) (all_of x.body.items)) (f_is ∙ function_at fs (length ks) f g below ∙ sym g_is) (this none))
    i m there m_is g small g_is none

pub lengths_more : (fs : List Function) (ks : List KnownFunction) (f : Function) (k : KnownFunction) → length ks < length fs → f ≡ get_or fs (length ks) f → LengthsKnown fs ks
    → ((n level depth site : ℕ) → k.length ≡ Some n → n ≡ length (body_of (take (length ks) fs) f level depth site)) → LengthsKnown fs (ks ++ k ∷ [])
lengths_more fs ks f k below f_is h this i g m n level depth site small there g_is m_is n_is =
    each_more (λ j y. (g : Function) (n level depth site : ℕ) → j < length fs → g ≡ get_or fs j g → y.length ≡ Some n → n ≡ length (body_of (take j fs) g level depth site)) ks k
    (λ j y c d g n level depth site small g_is n_is. h j g y n level depth site small c g_is d n_is)
    (λ g n level depth site small g_is n_is. this n level depth site n_is ∙ ap (λ x. length (body_of (take (length ks) fs) x level depth site)) (f_is ∙ function_at fs (length ks) f g below ∙ sym g_is))
    i m there m_is g n level depth site small g_is n_is

pub measured_more : (fs : List Function) (ks : List KnownFunction) (f : Function) (k : KnownFunction) → length ks < length fs → f ≡ get_or fs (length ks) f → LengthsCounted fs ks
    → ((n : ℕ) → k.barriers ≡ Some n → k.length ≡ None → node_limit < (size_of (functions_of (take (length ks) fs)) (func f)).nodes) → LengthsCounted fs (ks ++ k ∷ [])
measured_more fs ks f k below f_is h this i g m n small there g_is m_is n_is none =
    each_more (λ j y. (g : Function) (n : ℕ) → j < length fs → g ≡ get_or fs j g → y.barriers ≡ Some n → y.length ≡ None → node_limit < (size_of (functions_of (take j fs)) (func g)).nodes) ks k
    (λ j y c d g n small g_is n_is none. h j g y n small c g_is d n_is none)
    (λ g n small g_is n_is none. subst (λ (x : Function). node_limit < (size_of (functions_of (take (length ks) fs)) (func x)).nodes) (f_is ∙ function_at fs (length ks) f g below ∙ sym g_is) (this n n_is none))
    i m there m_is g n small g_is n_is none

if_some : (o : Option ℕ) (P : ℕ → Type 0) → ((n : ℕ) → o ≡ Some n → P n) → IfSome o P
if_some None P h = tt {0}
if_some (Some n) P h = h n refl

pub barriers_found : (fs : List Function) (ks : List KnownFunction) (i : ℕ) (f : Function) (k d : KnownFunction) → BarriersKnown fs ks → i < length fs → i < length ks → f ≡ get_or fs i f → k ≡ get_or ks i d
    → IfSome k.barriers (λ n. n ≡ all_sites (inside (take i fs)) (all_of f.body.items))
barriers_found fs ks i f k d h below there f_is k_is = if_some k.barriers _ (λ n e. h i f k n below there f_is (k_is ∙ known_at ks i d k there) e)

pub counted_found : (fs : List Function) (ks : List KnownFunction) (i : ℕ) (f : Function) (k d : KnownFunction) → BarriersCounted fs ks → i < length fs → i < length ks → f ≡ get_or fs i f → k ≡ get_or ks i d
    → k.barriers ≡ None → 2 ^ 32 ≤ all_sites (inside (take i fs)) (all_of f.body.items)
counted_found fs ks i f k d h below there f_is k_is = h i f k below there f_is (k_is ∙ known_at ks i d k there)

pub lengths_found : (fs : List Function) (ks : List KnownFunction) (i : ℕ) (f : Function) (k d : KnownFunction) → LengthsKnown fs ks → i < length fs → i < length ks → f ≡ get_or fs i f → k ≡ get_or ks i d
    → IfSome k.length (λ n. (level depth site : ℕ) → n ≡ length (body_of (take i fs) f level depth site))
lengths_found fs ks i f k d h below there f_is k_is = if_some k.length _ (λ n e level depth site. h i f k n level depth site below there f_is (k_is ∙ known_at ks i d k there) e)

-- a function with few barriers and few nodes has a length that is known
pub lengths_there : (fs : List Function) (ks : List KnownFunction) (i : ℕ) (f : Function) (k d : KnownFunction) → BarriersCounted fs ks → LengthsCounted fs ks → i < length fs → i < length ks → f ≡ get_or fs i f → k ≡ get_or ks i d
    → all_sites (inside (take i fs)) (all_of f.body.items) < 2 ^ 32 → (size_of (functions_of (take i fs)) (func f)).nodes ≤ node_limit → k.length ≡ None → ⊥
lengths_there fs ks i f k d counted measured below there f_is k_is few small none = go k.barriers refl
  where
    here : k ≡ get_or ks i k
    here = k_is ∙ known_at ks i d k there

    go : (o : Option ℕ) → k.barriers ≡ o → ⊥
    go None e = let many = counted i f k below there f_is here e in omega (arith, many, few)
    go (Some n) e = let more = measured i f k n below there f_is here e none in omega (arith, more, small)

pub body_length_of : (fs : List Function) (f : Function) (level depth site : ℕ) → length (body_of fs f 0 0 0) ≡ length (body_of fs f level depth site)
body_length_of fs f level depth site = function_length (functions_of fs) (func f) 0 0 0 level depth site

-- what is said of each of the first functions, and of one more
pub one_further : (P : ℕ → Function → Type 0) (fs : List Function) (n : ℕ) (g : Function) → n < length fs → g ≡ get_or fs n g
    → ((i : ℕ) (f : Function) → i < n → i < length fs → f ≡ get_or fs i f → P i f) → P n g
    → (i : ℕ) (f : Function) → i < n + 1 → i < length fs → f ≡ get_or fs i f → P i f
one_further P fs n g below g_is h last i f small there f_is = go (cases_lt i n)
  where
    go : (i < n) ⊎ (n ≤ i) → P i f
    go (inl less) = h i f less there f_is
    go (inr more) =
        let e : i ≡ n = omega (arith, small, more) in
        let same : f ≡ g = f_is ∙ ap (λ m. get_or fs m f) e ∙ get_or_default fs n f g below ∙ sym g_is in
        subst (λ m. P m f) (sym e) (subst (λ x. P n x) (sym same) last)
