-- Lines of JSON (RFC 8259).
use Rattle.std.specs.Prelude.{◌≡◌, ℕ, Some, List, [], ◌∷◌, ◌++◌}
use Rattle.serde_json.specs.Data.{Data}
use Rattle.serde_json.specs.Read.{read}
use Rattle.serde_json.specs.Written.{compact_text}
use Rattle.explanation.specs.declared.told.Explanation.{Explanation}
use Rattle.explain_json.specs.Members.{explanation_data}
use Rattle.explain_json.specs.Reasons.{AreReasons}

-- a line with the writer's text of a value, which reads back as this value
pub record IsLine (d : Data) (json : List ℕ) : Type 0 where
  pub is : json ≡ compact_text d ++ 10 ∷ []
  pub reads : read (compact_text d) ≡ Some d

-- the value of an explanation whose source stands in a file of this name, with a sentence for each of its reasons
pub record IsExplanationData (e : Explanation) (source : List ℕ) (d : Data) : Type 0 where
  pub why : Data
  pub reasons : AreReasons e.why.items why
  pub is : d ≡ explanation_data e source why

pub record IsExplanationLine (e : Explanation) (source json : List ℕ) : Type 0 where
  pub value : Data
  pub is : IsExplanationData e source value
  pub line : IsLine value json
