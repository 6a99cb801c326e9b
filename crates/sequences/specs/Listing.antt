-- What code keeps while it lists codes.
use Rattle.std.specs.Prelude.{List, ℕ, ◌+◌, ◌≤◌, length}
use Rattle.sequences.specs.declared.Listing.{Listing}
use Rattle.sequences.specs.Marks.{fresh, Listed}

-- there is room for what is to be listed of the codes cs
abbrev pub HasRoom : List ℕ → Listing → Type 0
HasRoom cs s = s.end + length (fresh s.passed cs) ≤ 60

-- the codes cs gone through
abbrev pub ListedIn : List ℕ → Listing → Listing → Type 0
ListedIn cs s t = Listed cs s.passed s.codes s.end t.passed t.codes t.end
