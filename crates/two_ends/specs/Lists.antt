-- Definitions on lists of frames.
use Rattle.std.specs.Prelude.{List, [], ◌∷◌, Option, Some, None}

-- what the later shows, or else what the earlier shows
abbrev pub some_or : {A : Type 0} → Option A → Option A → Option A
some_or (Some last) earlier = Some last
some_or None earlier = earlier

-- what a list shows last, if any member shows something
abbrev pub last_some : {A B : Type 0} → (A → Option B) → List A → Option B
last_some shows [] = None
last_some shows (x ∷ xs) = some_or (last_some shows xs) (shows x)
