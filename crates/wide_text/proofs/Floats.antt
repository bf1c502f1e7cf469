-- No number of a report is a float in JSON, so that the writer's text of its value is defined.
use Rattle.std.proofs.Common.{◌≡◌, ℕ, List, [], ◌∷◌, Option, None, Some, map, false, refl}
use Rattle.serde_json.specs.Data.{Data}
use Rattle.serde_json.specs.View.{items_of}
use Rattle.serde_json.specs.Written.{has_float, items_have_float}
use Rattle.wide_sources.specs.declared.data.Deciding.{Deciding}
use Rattle.wide_text.specs.Members.{number_data, text_data, or_null, code_data, deciding_data, buffer_data, argument_data, holds_data, launch_data, script_data, report_data}
use Rattle.wide_text.specs.declared.data.FreeBuffer.{FreeBuffer}
use Rattle.wide_text.specs.declared.data.WideLaunch.{WideLaunch}
use Rattle.wide_text.specs.declared.data.WideReport.{WideReport}

many : {A : Type 0} (f : A → Data) → ((x : A) → has_float (f x) ≡ false) → (xs : List A) → items_have_float (items_of (map f xs)) ≡ false
many f h [] = refl
many f h (x ∷ xs) = rw (h x, many f h xs)

some : {A : Type 0} (f : A → Data) → ((x : A) → has_float (f x) ≡ false) → (o : Option A) → has_float (or_null f o) ≡ false
some f h None = refl
some f h (Some x) = h x

numbers : (xs : List ℕ) → items_have_float (items_of (map number_data xs)) ≡ false
numbers xs = many number_data (λ n. refl) xs

number_or_null : (o : Option ℕ) → has_float (or_null number_data o) ≡ false
number_or_null o = some number_data (λ n. refl) o

deciding_whole : (d : Deciding) → has_float (deciding_data d) ≡ false
deciding_whole d = rw (some text_data (λ s. refl) d.file, number_or_null d.index, some code_data (λ c. refl) d.code)

buffer_whole : (b : FreeBuffer) → has_float (buffer_data b) ≡ false
buffer_whole b = rw (number_or_null b.from)

holds_whole : (l : WideLaunch) → has_float (holds_data l) ≡ false
holds_whole l = rw (many argument_data (λ a. refl) l.arguments.items, many buffer_data buffer_whole l.buffers.items)

launch_whole : (l : WideLaunch) → has_float (launch_data l) ≡ false
launch_whole l = rw (many deciding_data deciding_whole l.deciding.items, holds_whole l)

script_whole : (r : WideReport) → has_float (script_data r) ≡ false
script_whole r = rw (numbers r.free.items, numbers r.reads.items)

pub report_whole : (r : WideReport) → has_float (report_data r) ≡ false
report_whole r = rw (many launch_data launch_whole r.launches.items, script_whole r)
