-- What a line on a failure says.
-- Assumes nothing.
use Rattle.std.specs.Prelude.{List, ℕ, ◌++◌, Option, codes}
use Rattle.std.specs.Io.KnownBytes.{Appends}

-- a line more: what failed, and some words why
abbrev pub TellsFailure : Option (List ℕ) → Option (List ℕ) → List ℕ → Type 0
TellsFailure old new what = (why : List ℕ) × Appends old new (((what ++ codes ": ") ++ why) ++ codes "\n")
