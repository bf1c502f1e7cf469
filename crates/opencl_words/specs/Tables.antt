-- Tables of texts, with what is said of each (own).
use Rattle.std.specs.Prelude.{ℕ, bytes_eq, nat_eq, List, map, find, Option, option_map}
use Rattle.std.specs.Borrow.{Bor}
use Rattle.std.specs.List.{starts_with}

-- texts, and what is said of each
abbrev pub Table : Type 0
Table = List (List ℕ × List ℕ)

-- the rows of a table that holds its texts by reference
abbrev pub rows : List (Bor (List ℕ) × Bor (List ℕ)) → Table
rows table = map (λ row. (row.0.now, row.1.now)) table

-- what the first row of a text says
abbrev pub row_of : Table → List ℕ → Option (List ℕ)
row_of table text = option_map (λ row. row.1) (find (λ row. bytes_eq row.0 text) table)

-- what the first row says with whose text bytes begin
abbrev pub row_in_front : Table → List ℕ → Option (List ℕ)
row_in_front table bytes = option_map (λ row. row.1) (find (λ row. starts_with nat_eq bytes row.0) table)
