-- What comparing an access with others finds (own, on OpenCL 1.2, 3.3.1).
use Rattle.std.specs.Prelude.{◌≡◌, false, Option, None, Some, List, [], ◌∷◌, IsTrue, nat_lt, if◌then◌else◌}
use Rattle.clmodel.specs.declared.access.Rule.{Rule}
use Rattle.access_list.specs.Log.{hit, IsThere}
use Rattle.access_list.specs.declared.log.Entry.{Entry}
use Rattle.access_list.specs.declared.log.Hit.{Hit}
use Rattle.page_log.specs.Pages.{count_on_page}
use Rattle.page_log.specs.declared.tally.Tally.{Tally}

-- of two conflicts of an access, that on the lower byte; on one byte, the first (own in which)
abbrev pub lower_hit : Option Hit → Option Hit → Option Hit
lower_hit None other = other
lower_hit (Some a) None = Some a
lower_hit (Some a) (Some b) = if nat_lt b.byte a.byte then Some b else Some a

-- the conflict of an access with one that is earlier (3.3.1)
abbrev pub hit_with : Rule → Entry → Entry → Option Hit
hit_with rule x earlier = hit rule x (earlier ∷ [])

-- what comparing an access with those of a list on its page finds: their conflict, whether it is there, and how many
-- they are (3.3.1, own)
pub record IsTally (rule : Rule) (x : Entry) (log : List Entry) (t : Tally) : Type 0 where
  pub found : t.found ≡ hit rule x log
  pub there : IsTrue t.is_there → IsThere log x.access
  pub new : t.is_there ≡ false → IsThere log x.access → ⊥
  pub compared : t.compared ≡ count_on_page x.access log
