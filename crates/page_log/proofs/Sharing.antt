-- Accesses that share no page don't conflict; those that touch one page each share it where they begin in the same.
use Rattle.std.proofs.Common.{◌≡◌, ℕ, ◌+◌, ◌<◌, ◌≤◌, ◌==◌, Bool, true, false, nat_le, ◌&&◌, None, [], ◌∷◌, refl, sym, ap₂, ◌∙◌, arith, eqb-true, eq-eqb}
use Rattle.std.proofs.lemmas.Bool.{false≢true, and_parts, and_from, le-leb, leb-true}
use Rattle.std.specs.Bool.{beq}
use Rattle.clmodel.specs.Cells.{byte_count, covers}
use Rattle.clmodel.specs.Launch.{same_region, share}
use Rattle.clmodel.specs.declared.access.Access.{Access}
use Rattle.clmodel.specs.declared.access.Region.{Region}
use Rattle.clmodel.specs.declared.access.Region.TheVariants as region
use Rattle.clmodel.specs.declared.access.Rule.{Rule}
use Rattle.clmodel.specs.declared.access.Width.{Width}
use Rattle.clmodel.specs.declared.access.Width.TheVariants.{One, Two, Four, Eight}
use Rattle.clmodel.proofs.CellLaws.{covers_parts}
use Rattle.clmodel.proofs.Steps.{decided}
use Rattle.access_list.specs.Log.{hit_on}
use Rattle.access_list.specs.declared.log.Entry.{Entry}
use Rattle.access_list.proofs.Hits.{not_shared, past_over, clear}
use Rattle.page_log.specs.Pages.{first_page, last_page, share_page, IsOnOnePage, page_in, page_of, same_page, begins_in}
use Rattle.page_log.specs.Tally.{hit_with}
use Rattle.page_log.specs.declared.pages.Page.{Page}

-- ---- accesses that share no page

-- what shares a byte shares a page
byte_shared : (x y : Access) (byte : ℕ) → share y x byte ≡ true → share_page x y ≡ true
byte_shared x y byte h =
    let r : ((same_region y.region x.region && covers y.first (byte_count y.width) byte) ≡ true) × (covers x.first (byte_count x.width) byte ≡ true) = and_parts _ _ h in
    let s : (same_region y.region x.region ≡ true) × (covers y.first (byte_count y.width) byte ≡ true) = and_parts _ _ r.0 in
    let a : (y.first ≤ byte) × (byte < y.first + byte_count y.width) = covers_parts y.first (byte_count y.width) byte s.1 in
    let b : (x.first ≤ byte) × (byte < x.first + byte_count x.width) = covers_parts x.first (byte_count x.width) byte r.1 in
    and_from (same_region y.region x.region && nat_le (first_page y) (last_page x)) (nat_le (first_page x) (last_page y))
    (and_from (same_region y.region x.region) (nat_le (first_page y) (last_page x)) s.0 (le-leb (first_page y) (last_page x) (omega (arith, a.0, b.1))))
    (le-leb (first_page x) (last_page y) (omega (arith, b.0, a.1)))

pub apart_none : (g : Rule) (x y : Entry) → share_page x.access y.access ≡ false → hit_with g x y ≡ None
apart_none g x y h = clear g x (y ∷ []) on_byte
  where
    on_byte : (byte : ℕ) → hit_on g x byte (y ∷ []) ≡ None
    on_byte byte =
        past_over g x byte y []
        (decided (share y.access x.access byte)
        (λ t. absurd (false≢true (sym h ∙ byte_shared x.access y.access byte t)))
        (not_shared g y.access x.access byte))

-- ---- an access shares its own pages

own_region : (r : Region) → same_region r r ≡ true
own_region (region.Buffer a) = eq-eqb a a refl
own_region (region.Local g a) = and_from (g == g) (a == a) (eq-eqb g g refl) (eq-eqb a a refl)

some_bytes : (w : Width) → 0 < byte_count w
some_bytes One = omega arith
some_bytes Two = omega arith
some_bytes Four = omega arith
some_bytes Eight = omega arith

pub own_shares : (x : Access) → share_page x x ≡ true
own_shares x =
    let l : nat_le (first_page x) (last_page x) ≡ true = le-leb (first_page x) (last_page x) (omega (arith, some_bytes x.width)) in
    and_from (same_region x.region x.region && nat_le (first_page x) (last_page x)) (nat_le (first_page x) (last_page x))
    (and_from (same_region x.region x.region) (nat_le (first_page x) (last_page x)) (own_region x.region) l)
    l

-- ---- accesses that touch one page each

both_ways : (p q : ℕ) → (nat_le p q && nat_le q p) ≡ (p == q)
both_ways p q = decided (p == q)
    (λ t. and_from (nat_le p q) (nat_le q p) (le-leb p q (omega (arith, eqb-true p q t))) (le-leb q p (omega (arith, eqb-true p q t))) ∙ sym t)
    (λ f. decided (nat_le p q && nat_le q p)
    (λ t. let r : (nat_le p q ≡ true) × (nat_le q p ≡ true) = and_parts (nat_le p q) (nat_le q p) t in
    absurd (false≢true (sym f ∙ eq-eqb p q (omega (arith, leb-true p q r.0, leb-true q p r.1)))))
    (λ g. g ∙ sym f))

same_number : (e : Bool) (p q : ℕ) → (e && nat_le p q && nat_le q p) ≡ (e && (p == q))
same_number false p q = refl
same_number true p q = both_ways p q

and_assoc : (a b c : Bool) → (a && b && c) ≡ (a && (b && c))
and_assoc true b c = refl
and_assoc false b c = refl

in_one_page : (a b : Region) (p q : ℕ) → (same_region a b && nat_le p q && nat_le q p) ≡ same_page (page_in a p) (page_in b q)
in_one_page (region.Buffer a) (region.Buffer b) p q = same_number (a == b) p q
in_one_page (region.Buffer a) (region.Local h b) p q = refl
in_one_page (region.Local g a) (region.Buffer b) p q = refl
in_one_page (region.Local g a) (region.Local h b) p q = same_number ((g == h) && (a == b)) p q ∙ and_assoc (g == h) (a == b) (p == q)

-- those that touch one page each share it where they begin in the same
pub shares_as_begins : (x y : Access) → IsOnOnePage x → IsOnOnePage y → share_page x y ≡ begins_in (page_of x) y
shares_as_begins x y p q =
    ap₂ (λ a b. same_region y.region x.region && nat_le (first_page y) a && nat_le (first_page x) b) p q
    ∙ in_one_page y.region x.region (first_page y) (first_page x)

-- ---- pages

same_flag : (a b : Bool) → beq a b ≡ true → a ≡ b
same_flag true true h = refl
same_flag true false h = absurd (false≢true h)
same_flag false true h = absurd (false≢true h)
same_flag false false h = refl

pub one_page : (a b : Page) → same_page a b ≡ true → a ≡ b
one_page a b h =
    let r : (beq a.is_local b.is_local ≡ true) × (((a.group == b.group) && ((a.number == b.number) && (a.page == b.page))) ≡ true) = and_parts _ _ h in
    let s : ((a.group == b.group) ≡ true) × (((a.number == b.number) && (a.page == b.page)) ≡ true) = and_parts _ _ r.1 in
    let t : ((a.number == b.number) ≡ true) × ((a.page == b.page) ≡ true) = and_parts _ _ s.1 in
    ap₂ (λ (l : Bool) (g : ℕ). record { is_local = l; group = g; number = a.number; page = a.page }) (same_flag a.is_local b.is_local r.0) (eqb-true a.group b.group s.0)
    ∙ ap₂ (λ (n p : ℕ). record { is_local = b.is_local; group = b.group; number = n; page = p }) (eqb-true a.number b.number t.0) (eqb-true a.page b.page t.1)
