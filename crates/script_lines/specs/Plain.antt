-- The plain text of a line of a written script: its words, without its comment and its blanks (own).
use Rattle.std.specs.Prelude.{ℕ, ◌==◌, Bool, ◌||◌, nat_lt, List, [], ◌∷◌, ◌++◌, length, codes}
use Rattle.std.specs.List.{filter, slice_split, join_with_byte, before_first, after_first}

-- a space, a tab, a line feed or a carriage return
abbrev pub is_blank : ℕ → Bool
is_blank b = (b == 32) || (b == 9) || (b == 10) || (b == 13)

-- the words of a text: what stands between its blanks
abbrev pub words_of : List ℕ → List (List ℕ)
words_of text = filter (λ word. nat_lt 0 (length word)) (slice_split is_blank text)

-- these words with a space between each two
abbrev pub spaced : List ℕ → List ℕ
spaced text = join_with_byte 32 (words_of text)

-- a comment goes from the first # of a line to its end
abbrev pub begins_comment : ℕ → Bool
begins_comment b = b == 35

-- the words in front of a line's comment with a space between each two, and a line feed
abbrev pub plain : List ℕ → List ℕ
plain line = spaced (before_first begins_comment line) ++ 10 ∷ []

-- the words of a line's comment with a space between each two: what a launch is called
abbrev pub comment_of : List ℕ → List ℕ
comment_of line = spaced (after_first begins_comment line)

-- the first line of a script of version 3
abbrev pub first_line : List ℕ
first_line = codes "clsim 3\n"
