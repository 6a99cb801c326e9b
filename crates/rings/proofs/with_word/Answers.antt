-- `rings::with_word` meets its contract: a word alters the health or the lock.
use mathlib.Core.Path.{◌≡◌, refl, ap}
use native.Mathlib.Omega.{arith}
use borrow.Author.Rules.{rules}
use Rattle.model.specs.Values.{word_number}
use Rattle.model.specs.declared.Word.{Word}
use Rattle.model.specs.declared.Word.TheVariants.{Fit, StuckOff, StuckOpen, StuckClosed}
use Rattle.std.specs.Prelude.{◌⊎◌, ◌<◌}
use Rattle.std.proofs.Common.{inl, inr}
use Rattle.rings.specs.Words.{first_four, lock_told, health_told}
use Rattle.rings.proofs.with_word.Goals as goal

-- a lock and an unlock
pub returns-in-Lock : goal.returns-in-Lock
returns-in-Lock c = lock_told _ _ _ _ c.in-Lock.is (λ x. refl) (λ l. refl) _ (search rules)

pub returns-in-Unlock : goal.returns-in-Unlock
returns-in-Unlock c = lock_told _ _ _ _ c.in-Unlock.is (λ x. refl) (λ l. refl) _ (search rules)

-- the number of one of the first four words
number_of_four : (w : Word) → (w ≡ Fit) ⊎ ((w ≡ StuckOff) ⊎ ((w ≡ StuckOpen) ⊎ (w ≡ StuckClosed))) → word_number w < 4
number_of_four w (inl e) = first_four _ (inl (ap word_number e))
number_of_four w (inr (inl e)) = first_four _ (inr (inl (ap word_number e)))
number_of_four w (inr (inr (inl e))) = first_four _ (inr (inr (inl (ap word_number e))))
number_of_four w (inr (inr (inr e))) = first_four _ (inr (inr (inr (ap word_number e))))

-- one of the first four words: its number is stored
pub returns-in-Fit : goal.returns-in-Fit
returns-in-Fit c =
    let few = number_of_four _ c.in-Fit.is in
    let number : c.number_of.result ≡ word_number c.args.report.word = search rules in
    health_told _ _ (λ e. omega (arith, few, ap word_number e)) (λ e. omega (arith, few, ap word_number e)) _ number _ (search rules)
