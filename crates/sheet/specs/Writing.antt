-- What writing a command sheet into a lent buffer answers and leaves: refused by 8, or served.
use Rattle.std.specs.Prelude.{◌≡◌, refl, ◌&&◌, List, ◌++◌, map, ℕ, ◌+◌, ◌*◌, ◌≤◌, ◌<◌, drop, Ok, Err}
use Rattle.std.proofs.Math.Path.{sym, ap}
use Rattle.std.proofs.Common.{◌∙◌, arith, lt-ltb, le-ltb}
use Rattle.std.proofs.Math.Bool.{not}
use Rattle.std.proofs.Math.ListN.{length, length-map}
use Rattle.model.specs.declared.Commands.{Commands}
use Rattle.model.specs.declared.BusChoice.{BusChoice}
use Rattle.model.specs.Values.{part_code, Outcome, refusal_of, outcome_number, outcome_of}
use Rattle.model.specs.declared.Refusal.TheVariants.{BufferShort}
use Rattle.model.specs.Plant.{PartHealth, largest, parts}
use Rattle.model.specs.Choosing.{plan, commands, choices}
use Rattle.model.specs.Sheet.{opening, closing, sheet_of, sheet, written}
use Rattle.model.specs.Reports.{commands_of, command_places}
use Rattle.model.specs.Refusals.{first_met, too_short, sheet_refusal}
use Rattle.model.specs.Answers.{buffer_after}
use Rattle.model.specs.Laws.Lists.{keep_ext}
use Rattle.model.specs.Laws.Choosing.{AllInside}
use Rattle.model.specs.Laws.Parts.{parts_at, command_places_lem}
use Rattle.model.specs.Laws.Sheet.{sheet_of_length, closing_by_code}
use Rattle.theory.specs.Proofs.Choosing.{choices_inside}
use Rattle.theory.specs.Theorems.Locality.{Agree, opening_ext}
use Rattle.theory.proofs.Theorems.Closing.{closing_count, sheet_fits}
use Rattle.phases.specs.Codes.{opening_codes}
use Rattle.layout.specs.Layout.{layout, sheet_layout}
use Rattle.sequences.specs.Outward.{named_paths, closing_named}

-- the commands and the choices of a plan: those that some health calls for
abbrev pub Planned : ℕ → Commands → List BusChoice → Type 0
Planned n new cs = (H : PartHealth) × (new ≡ command_places (commands n H)) × (cs ≡ choices n H)

-- the sheet from the old commands to the new, outward along the paths that the choices name
unfoldable pub sheet_by : ℕ → Commands → Commands → List BusChoice → List ℕ
sheet_by n old new cs =
    sheet_of (opening n (commands_of old) (commands_of new)) (closing n (commands_of old) (named_paths n cs))

-- ---- the sheet of a plan

module _ (n : ℕ) (small : n ≤ largest) (old new : Commands) (cs : List BusChoice) (H : PartHealth) (are : new ≡ command_places (commands n H))
    (chosen_are : cs ≡ choices n H) where
  held : Agree n (commands_of new) (commands n H)
  held p r = rw are (command_places_lem (commands n H) p (r.0, omega (arith, r.1)))

  opening_is : opening n (commands_of old) (commands_of new) ≡ opening n (commands_of old) (commands n H)
  opening_is = opening_ext n (commands_of old) (commands_of old) (commands_of new) (commands n H) (λ p r. refl) held

  closing_is : closing n (commands_of old) (named_paths n cs) ≡ closing n (commands_of old) (plan n H)
  closing_is = rw chosen_are (closing_named n H small (commands_of old))

  -- it is the sheet of that health
  pub sheet_is : sheet_by n old new cs ≡ sheet n (commands_of old) H
  unfolding sheet_by sheet
  sheet_is = rw (opening_is, closing_is)

  pub all_inside : AllInside n cs
  all_inside = rw chosen_are (choices_inside n H small)

  -- as many parts close as the closing phase has
  pub closing_counted : length (closing_by_code n (commands_of old) (commands_of new)) ≡ length (closing n (commands_of old) (named_paths n cs))
  unfolding closing_by_code
  closing_counted =
      ap length (keep_ext (λ p. not (commands_of old p) && commands_of new p) (λ p. not (commands_of old p) && commands n H p) (parts n)
      (λ p m. rw (held p (parts_at n p m))))
      ∙ sym (closing_count n H (commands_of old) small)
      ∙ ap length (sym closing_is)

  -- its sizes, and that it fits
  pub sheet_length_lem : {o k : ℕ} → o ≡ length (opening_codes n old new) → k ≡ length (closing_by_code n (commands_of old) (commands_of new))
      → (length (sheet_by n old new cs) ≡ 2 + 2 * (o + k)) × (length (sheet_by n old new cs) ≤ 122)
  unfolding sheet_by
  sheet_length_lem e f = (
    sheet_of_length (opening n (commands_of old) (commands_of new)) (closing n (commands_of old) (named_paths n cs))
        ∙ omega (arith, closing_counted, length-map (opening n (commands_of old) (commands_of new)) part_code),
    omega (arith, ap length sheet_is, sheet_fits n H (commands_of old) small),
  )

-- the sheet, laid out
pub sheet_laid : (n : ℕ) (old new : Commands) (cs : List BusChoice)
    → sheet_by n old new cs ≡ layout (opening_codes n old new) (map part_code (closing n (commands_of old) (named_paths n cs)))
unfolding sheet_by
sheet_laid n old new cs = sheet_layout (opening n (commands_of old) (commands_of new)) (closing n (commands_of old) (named_paths n cs))

-- ---- the buffer

module _ (bytes buffer : List ℕ) where
  -- the outcome of writing a sheet of these bytes, its number, and the buffer after it
  abbrev pub Wrote : Outcome → List ℕ → Type 0
  Wrote o after =
      (o ≡ outcome_of (sheet_refusal (length buffer) bytes))
      × ((outcome_number o ≡ sheet_refusal (length buffer) bytes) × (after ≡ buffer_after bytes buffer))

  pub write_refused : length buffer < length bytes → Wrote (Err BufferShort) buffer
  unfolding outcome_of refusal_of buffer_after sheet_refusal first_met too_short
  write_refused h = rw (lt-ltb (length buffer) (length bytes) h) (refl, (refl, refl))

  -- the sheet at the front, and the bytes behind it
  pub write_served : length bytes ≤ length buffer → (front : List ℕ) (size : ℕ) → front ≡ bytes → size ≡ length bytes
      → Wrote (Ok tt) (front ++ drop size buffer)
  unfolding outcome_of refusal_of buffer_after sheet_refusal first_met too_short written
  write_served h front size e f = rw (le-ltb (length buffer) (length bytes) h, e, f) (refl, (refl, refl))
