-- The words of accesses, as a fault's line and its explanation have them (own): one for each kind, and for an update
-- that of its class (OpenCL 1.2, section 6.12.11).
use Rattle.std.specs.Prelude.{ℕ, List, codes}
use Rattle.clmodel.specs.declared.access.AccessKind.{AccessKind}
use Rattle.clmodel.specs.declared.access.AccessKind.TheVariants as kind
use Rattle.clmodel.specs.declared.access.Class.{Class}
use Rattle.clmodel.specs.declared.access.Class.TheVariants as class

abbrev pub class_text : Class → List ℕ
class_text class.Add = codes "add"
class_text class.And = codes "and"
class_text class.Or = codes "or"
class_text class.Xor = codes "xor"
class_text class.SignedMin = codes "smin"
class_text class.UnsignedMin = codes "umin"
class_text class.SignedMax = codes "smax"
class_text class.UnsignedMax = codes "umax"

abbrev pub kind_text : AccessKind → List ℕ
kind_text kind.Load = codes "load"
kind_text kind.Store = codes "store"
kind_text (kind.Update of) = class_text of
kind_text kind.Fetch = codes "fetch"
