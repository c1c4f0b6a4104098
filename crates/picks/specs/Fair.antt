-- Which trucks are counted where it is said that picks are fair.
use Rattle.std.specs.Prelude.{Bool, false, ◌&&◌, ℕ, eqb}
use Rattle.picks.specs.declared.Pick.{Pick}
use Rattle.picks.specs.declared.Pick.TheVariants.{Shovel, Refused}

-- whether a pick sends the truck to this shovel by the first word that is tried
abbrev pub sent_by_first : ℕ → Pick → Bool
sent_by_first number (Shovel s k t) = eqb t 1 && eqb s number
sent_by_first number (Refused r) = false
