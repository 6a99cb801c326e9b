-- What a derived test of equality has told where it holds: the two values are the same.
use Rattle.std.specs.Prelude.{◌≡◌, refl, Bool, true, false, List, [], ◌∷◌, ◌&&◌}
use Rattle.std.proofs.Common.{sym, eqb-true}
use Rattle.std.proofs.Math.Dec.{eqb}
use Rattle.std.specs.Bool.{beq}
use Rattle.std.specs.Cmp.{first_so, second_so}
use Rattle.std.specs.Cmp.Lexicographic.{pointwise, same_text}
use Rattle.model.specs.declared.Health.{Health}
use Rattle.model.specs.declared.Commands.{Commands}
use Rattle.model.specs.declared.Ring.{Ring}
use Rattle.model.specs.Laws.Tests.{contra}

-- two lists that a test compares item by item, where it tells that two items are the same
pub same_items : {A : Type 0} (E : A → A → Bool) → ((x y : A) → E x y ≡ true → x ≡ y) → (xs ys : List A) → pointwise E xs ys ≡ true
    → xs ≡ ys
same_items E same [] [] e = refl
same_items E same [] (y ∷ ys) e = contra e refl
same_items E same (x ∷ xs) [] e = contra e refl
same_items E same (x ∷ xs) (y ∷ ys) e =
    let first = same x y (first_so (E x y) (pointwise E xs ys) e) in
    let rest = same_items E same xs ys (second_so (E x y) (pointwise E xs ys) e) in
    λ i. first i ∷ rest i

same_bool : (x y : Bool) → beq x y ≡ true → x ≡ y
same_bool true true e = refl
same_bool true false e = contra e refl
same_bool false true e = contra e refl
same_bool false false e = refl

same_bools : (xs ys : List Bool) → pointwise beq xs ys ≡ true → xs ≡ ys
same_bools = same_items beq same_bool

abbrev pub health_test : Health → Health → Bool
health_test a b =
    pointwise eqb a.generators b.generators
    && (pointwise eqb a.generator_breakers b.generator_breakers && (pointwise eqb a.bus_breakers b.bus_breakers && pointwise beq a.locked b.locked))

abbrev pub commands_test : Commands → Commands → Bool
commands_test a b =
    pointwise beq a.generators b.generators
    && (pointwise beq a.generator_breakers b.generator_breakers && pointwise beq a.bus_breakers b.bus_breakers)

abbrev pub ring_test : Ring → Ring → Bool
ring_test a b = eqb a.n b.n && (health_test a.health b.health && commands_test a.commands b.commands)

pub same_healths : (a b : Health) → health_test a b ≡ true → a ≡ b
same_healths a b e =
    let rest = second_so (pointwise eqb a.generators b.generators) _ e in
    let last = second_so (pointwise eqb a.generator_breakers b.generator_breakers) _ rest in
    let first = same_text _ _ (sym (first_so _ _ e)) in
    let second = same_text _ _ (sym (first_so _ _ rest)) in
    let third = same_text _ _ (sym (first_so _ _ last)) in
    let locks = same_bools _ _ (second_so (pointwise eqb a.bus_breakers b.bus_breakers) _ last) in
    λ i. record { generators = first i; generator_breakers = second i; bus_breakers = third i; locked = locks i }

pub same_commands : (a b : Commands) → commands_test a b ≡ true → a ≡ b
same_commands a b e =
    let first = same_bools _ _ (first_so _ _ e) in
    let second = same_bools _ _ (first_so _ _ (second_so _ _ e)) in
    let third = same_bools _ _ (second_so _ _ (second_so _ _ e)) in
    λ i. record { generators = first i; generator_breakers = second i; bus_breakers = third i }

pub same_rings : (a b : Ring) → ring_test a b ≡ true → a ≡ b
same_rings a b e =
    let n = eqb-true _ _ (first_so _ _ e) in
    let health = same_healths _ _ (first_so _ _ (second_so _ _ e)) in
    let commands = same_commands _ _ (second_so _ _ (second_so _ _ e)) in
    λ i. record { n = n i; health = health i; commands = commands i }
