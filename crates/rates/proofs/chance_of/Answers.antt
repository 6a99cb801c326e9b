-- `rates::chance_of` meets its contract.
use lib.Ieee.{of_bits, neg, div}
use Rattle.model.specs.Exposure.{chance_of}
use Rattle.rates.specs.Tests.{is_1}
use Rattle.rates.proofs.chance_of.Goals as goal

pub returns-in-Chance : goal.returns-in-Chance
unfolding chance_of
returns-in-Chance c = rw c.in-Chance.is

pub returns-in-MeanHours : goal.returns-in-MeanHours
unfolding chance_of
returns-in-MeanHours c = rw (c.in-MeanHours.is, is_1)

pub returns-in-Unrated : goal.returns-in-Unrated
unfolding chance_of of_bits div neg
returns-in-Unrated c = rw c.in-Unrated.is
