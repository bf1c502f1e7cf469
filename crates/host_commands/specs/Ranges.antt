-- Which index spaces a launch may have (OpenCL 1.2, 5.8, the errors of clEnqueueNDRangeKernel; how many items there may
-- be is the device's own, table 4.3).
use Rattle.std.specs.Prelude.{◌≡◌, ◌+◌, ◌-◌, ◌%◌, ◌^◌, ◌==◌, Bool, false, not, ◌||◌, nat_lt, length}
use Rattle.std.specs.List.{list_any, zip}
use Rattle.clmodel.specs.Setup.{product, group_items}
use Rattle.clmodel.specs.declared.setup.Range.{Range}
use Rattle.limits.specs.declared.Limits.{Limits}

-- not 1 to 3 dimensions, lists of unequal length, or an offset and a size that pass 2^64 - 1 together
abbrev pub is_bad_dimension : Range → Bool
is_bad_dimension range =
    (length range.global == 0) || nat_lt 3 (length range.global)
    || not (length range.local == length range.global) || not (length range.offset == length range.global)
    || list_any (λ p. nat_lt (2 ^ 64 - 1) (p.0 + p.1)) (zip range.offset range.global)

-- a size 0, a global size that isn't divisible by its local size, or more items a group than the device allows
abbrev pub is_bad_group : Limits → Range → Bool
is_bad_group limits range =
    list_any (λ p. (p.0 == 0) || (p.1 == 0) || not (p.0 % p.1 == 0)) (zip range.global range.local)
    || nat_lt limits.group_items (group_items range)

-- more items than the device allows (own)
abbrev pub is_too_many : Limits → Range → Bool
is_too_many limits range = nat_lt limits.items (product range.global)

-- a range that a launch may have on a device of these limits (5.8)
pub record IsLaunchable (limits : Limits) (range : Range) : Type 0 where
  pub dimensioned : is_bad_dimension range ≡ false
  pub grouped : is_bad_group limits range ≡ false
  pub few : is_too_many limits range ≡ false
