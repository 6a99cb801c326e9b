-- `codes::part_of` meets its contract: the codes of a range name the parts of one kind, and no others name a part.
use borrow.Author.Rules.{rules}
use Rattle.codes.specs.Answers.{part_in_range, part_outside}
use Rattle.codes.proofs.part_of.Goals as goal

pub returns-in-0-to-19 : goal.returns-in-0-to-19
returns-in-0-to-19 c = let whole = part_in_range _ _ _ _ c.named_in_ring.ensures (search rules) (search rules) in record { answer = whole.0; values = whole.1 }

pub returns-in-32-to-51 : goal.returns-in-32-to-51
returns-in-32-to-51 c = let whole = part_in_range _ _ _ _ c.named_in_ring-in-32-to-51.ensures (search rules) (search rules) in record { answer = whole.0; values = whole.1 }

pub returns-in-64-to-83 : goal.returns-in-64-to-83
returns-in-64-to-83 c = let whole = part_in_range _ _ _ _ c.named_in_ring-in-64-to-83.ensures (search rules) (search rules) in record { answer = whole.0; values = whole.1 }

pub returns-in_default : goal.returns-in_default
returns-in_default c = let whole = part_outside _ _ (search rules) (search rules) (search rules) in record { answer = whole.0; values = whole.1 }

pub returns-in_default-2 : goal.returns-in_default-2
returns-in_default-2 c = let whole = part_outside _ _ (search rules) (search rules) (search rules) in record { answer = whole.0; values = whole.1 }

pub returns-in_default-3 : goal.returns-in_default-3
returns-in_default-3 c = let whole = part_outside _ _ (search rules) (search rules) (search rules) in record { answer = whole.0; values = whole.1 }
