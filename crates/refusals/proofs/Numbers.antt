-- The number of a refusal is not 0.
use Rattle.std.proofs.Common.{◌<◌, arith}
use Rattle.refusals.specs.declared.Refusal.{Refusal}
use Rattle.refusals.specs.Refusals.{number}

pub number_positive : (r : Refusal) → 0 < number r
number_positive r = grind arith
