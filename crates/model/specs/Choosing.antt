-- Document 01, "Choosing". Buses, generators and breakers are indices from 0.
use Rattle.std.specs.Prelude.{Bool, not, ◌&&◌, ◌||◌, cond, List, [], ◌∷◌, map, ℕ, zero, suc, ltb, eqb}
use Rattle.std.specs.Bool.{beq}
use Rattle.std.proofs.Math.Option.{Option, none, some}
use Prim.Native.Char.{code}
use Rattle.model.specs.declared.Part.{Part}
use Rattle.model.specs.declared.Choice.{Choice}
use Rattle.model.specs.declared.Choice.TheVariants.{Dark, Own, High, Low}
use Rattle.model.specs.declared.BusChoice.{BusChoice}
use Rattle.model.specs.Lists.{below, first, any_of, all_of}
use Rattle.model.specs.Values.{same_part}
use Rattle.model.specs.Plant.{PartHealth, PartCommands, largest, bus_breaker, fit_generator, stuck_open, stuck_closed, connected}
use Rattle.model.specs.Priority.{Path, path_breakers, path_parts, high_rises, paths}

-- part p is on one of the paths ws
unfoldable pub on_paths : ℕ → List Path → Part → Bool
on_paths n ws p = any_of (λ w. any_of (same_part p) (path_parts n w)) ws

-- "its generator is fit, no breaker on it is stuck open"
unfoldable pub usable : ℕ → PartHealth → Path → Bool
usable n H w = fit_generator H w.source && all_of (λ p. not (stuck_open (H.health p))) (path_breakers n w)

-- "counting as closed the stuck-closed breakers and those on this way and on the ways already chosen"
unfoldable pub counted_closed : ℕ → PartHealth → List Path → ℕ → Bool
counted_closed n H ws i = stuck_closed (H.health (bus_breaker i)) || on_paths n ws (bus_breaker i)

-- "no two chosen generators' buses would be joined"
unfoldable pub isolated : ℕ → PartHealth → List Path → Bool
isolated n H ws =
    all_of (λ v. all_of (λ w. eqb v.source w.source || not (connected n (counted_closed n H ws) v.source w.source)) ws) ws

-- "A way is permitted when ..": path w, after the paths ws; "The way's own generator counts as chosen here."
unfoldable pub permitted : ℕ → PartHealth → List Path → Path → Bool
permitted n H ws w = usable n H w && isolated n H (w ∷ ws)

-- "The search over generators and their two ways ends at the first permitted way. A bus with none is dark."
unfoldable pub choose : ℕ → PartHealth → List Path → ℕ → Option Path
choose n H ws b = first (permitted n H ws) (paths n b)

-- "the ways already chosen": one more, or none where the bus is dark
unfoldable pub add_path : Option Path → List Path → List Path
add_path none ws = ws
add_path (some w) ws = w ∷ ws

-- "Buses are served in number order.": the paths chosen for the first k buses, the last first
unfoldable pub chosen : ℕ → PartHealth → ℕ → List Path
chosen n H zero = []
chosen n H (suc k) = let ws = chosen n H k in add_path (choose n H ws k) ws

-- the path of bus b, or none where it is dark
unfoldable pub plan : ℕ → PartHealth → ℕ → Option Path
plan n H b = choose n H (chosen n H b) b

-- "Chosen generators are ordered on and breakers on chosen ways closed; all other parts are ordered off or open, stuck
-- ones too."
unfoldable pub commands : ℕ → PartHealth → PartCommands
commands n H p = on_paths n (chosen n H n) p

-- what a path is called
unfoldable pub choice_of : ℕ → Option Path → Choice
choice_of n none = Dark
choice_of n (some w) =
    cond (eqb w.source w.bus) (Own (suc w.source))
    (cond (beq w.rising (high_rises n w.source w.bus)) (High (suc w.source)) (Low (suc w.source)))

-- "its source and way (`o` own, `h` high, `l` low; `-` alone when dark ..)": a path's generator and letter
unfoldable pub path_values : ℕ → Option Path → ℕ × ℕ
path_values n none = (0, code "-")
path_values n (some w) = (
  suc w.source,
  cond (eqb w.source w.bus) (code "o") (cond (beq w.rising (high_rises n w.source w.bus)) (code "h") (code "l")),
)

-- the generator and the letter of each bus; a bus above n is dark
unfoldable pub plan_values : ℕ → PartHealth → List (ℕ × ℕ)
plan_values n H = map (λ b. cond (ltb b n) (path_values n (plan n H b)) (path_values n none)) (below largest)

-- each bus's choice; "so, always, is a bus above n" dark
unfoldable pub choices : ℕ → PartHealth → List BusChoice
choices n H = map (λ b. record { choice = cond (ltb b n) (choice_of n (plan n H b)) Dark }) (below largest)
