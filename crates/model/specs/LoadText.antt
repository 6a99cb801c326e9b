-- The text of a load's figures (document 02, Note 5), for a class. Generators are indices from 0.
use Rattle.std.specs.Prelude.{List, ◌++◌, map, ℕ, suc, ◌+◌, ◌*◌, get_or}
use Rattle.model.specs.declared.Load.{Load}
use Rattle.model.specs.Lists.{below}
use Rattle.model.specs.Plant.{largest}
use Rattle.model.specs.Text.{ascii, decimal, joined}

-- a generator's watts and a space behind them, as `G2 1200 `
unfoldable pub watts_text : Load → ℕ → List ℕ
watts_text l g = ascii "G" ++ (decimal (suc g) ++ (ascii " " ++ (decimal (get_or l.watts g 0) ++ ascii " ")))

-- "every generator's watts, .. and the watts on dark buses": a line, as `G1 0 G2 1200 G3 0 dark 0`
unfoldable pub figures_line : ℕ → Load → List ℕ
figures_line n l = joined (map (watts_text l) (below n)) ++ (ascii "dark " ++ (decimal l.dark_watts ++ ascii "\n"))

-- room for any: 15 bytes a generator, as `G20 4294967295 `; as many of the dark watts, as `dark 4294967295`, and a line feed
abbrev pub figures_room : ℕ
figures_room = 15 * largest + 16
