-- "Parts above n are not read.": the answer is that of any other health, locks and commands that agree on the parts of the ring.
use Rattle.std.specs.Prelude.{◌≡◌, Bool, not, ◌&&◌, cond, ℕ, ltb, eqb}
use Rattle.std.proofs.Common.{ap, ltb-true}
use Rattle.model.specs.declared.Health.{Health}
use Rattle.model.specs.declared.Commands.{Commands}
use Rattle.model.specs.declared.Feed.TheVariants.{Dark}
use Rattle.model.specs.Values.{outcome_of}
use Rattle.model.specs.Plant.{PartHealth, parts, health_of_kind, bus_feed}
use Rattle.model.specs.Reports.{health_of, commands_of}
use Rattle.model.specs.Refusals.{health_outside, feeds_refusal}
use Rattle.model.specs.Answers.{feeds_answer}
use Rattle.model.specs.Laws.Tests.{and_right, cond_ext}
use Rattle.model.specs.Laws.Lists.{any_ext}
use Rattle.model.specs.Laws.Parts.{parts_at, places_ext}
use Rattle.theory.specs.Theorems.Locality.{Agree, SameHealth, feed_ext}

-- the refusal, and the whole answer
pub refusal_ext : (n : ℕ) (H K : PartHealth) → SameHealth n H K → feeds_refusal n H ≡ feeds_refusal n K
unfolding feeds_refusal health_outside
refusal_ext n H K same = rw (any_ext (λ p. not (health_of_kind p (H.health p))) (λ p. not (health_of_kind p (K.health p))) (parts n)
    (λ p m. rw (same.health p (parts_at n p m))))

pub answer_ext : (n : ℕ) (h k : Health) (c d : Commands) → SameHealth n (health_of h) (health_of k) → Agree n (commands_of c) (commands_of d)
    → feeds_answer n h c ≡ feeds_answer n k d
unfolding feeds_answer
answer_ext n h k c d same both =
    rw (refusal_ext n (health_of h) (health_of k) same)
    (ap (λ bs. record { outcome = outcome_of (feeds_refusal n (health_of k)); buses = bs })
    (places_ext _ _ (λ b l. ap (λ f. record { feed = f }) (at b (eqb (feeds_refusal n (health_of k)) 0)))))
  where
    at : (b : ℕ) (t : Bool) → cond (t && ltb b n) (bus_feed n (health_of h) (commands_of c) b) Dark
        ≡ cond (t && ltb b n) (bus_feed n (health_of k) (commands_of d) b) Dark
    at b t = cond_ext (t && ltb b n) Dark
        (λ e. feed_ext n (health_of h) (health_of k) (commands_of c) (commands_of d) same both b (ltb-true b n (and_right t (ltb b n) e)))
