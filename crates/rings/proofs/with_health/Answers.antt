-- `rings::with_health` meets its contract: a health is stored at its part, and no lock altered.
use Rattle.std.proofs.Common.{◌∙◌, rules}
use Rattle.rings.specs.Words.{health_stored, stored_places}
use Rattle.rings.proofs.with_health.Goals as goal

pub returns-in-Generator : goal.returns-in-Generator
returns-in-Generator c =
    rw c.in-Generator.is (health_stored _ (search rules) _ _ _ (c.store.ensures ∙ stored_places 0 _ _ _ (search rules)))

pub returns-in-GeneratorBreaker : goal.returns-in-GeneratorBreaker
returns-in-GeneratorBreaker c =
    rw c.in-GeneratorBreaker.is (health_stored _ (search rules) _ _ _ (c.store-in-GeneratorBreaker.ensures ∙ stored_places 0 _ _ _ (search rules)))

pub returns-in-BusBreaker : goal.returns-in-BusBreaker
returns-in-BusBreaker c =
    rw c.in-BusBreaker.is (health_stored _ (search rules) _ _ _ (c.store-in-BusBreaker.ensures ∙ stored_places 0 _ _ _ (search rules)))
