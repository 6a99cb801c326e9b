-- `rings::with_lock` meets its contract: a lock is stored at a generator alone.
use Rattle.std.proofs.Common.{◌∙◌, rules, false}
use Rattle.rings.specs.Words.{lock_stored, lock_of_other, stored_places}
use Rattle.rings.proofs.with_lock.Goals as goal

pub returns-in-Generator : goal.returns-in-Generator
returns-in-Generator c = lock_stored _ (search rules) _ _ c.in-Generator.is _ _ (c.store.ensures ∙ stored_places false _ _ _ (search rules))

pub returns-in_default : goal.returns-in_default
returns-in_default c = lock_of_other _ (search rules) _ _ c.in_default.not-Generator
