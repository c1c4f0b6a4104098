-- Picks of changed times from one state: what the functions ask and answer. The contracts of the calls do without.
use Rattle.std.specs.Prelude.{◌≡◌, Bool, true, not, ◌&&◌, List, ℕ, ◌^◌, ◌≤◌, ◌<◌, leb, length, get_or}
use Rattle.tsc.specs.Constants.{widest_width}
use Rattle.ties.specs.Ties.{most_shovels, is_tie, ties, rank, has_rank}
use Rattle.tries.specs.Tries.{ranked}
use Rattle.outcomes.specs.declared.Known.{Known}
use Rattle.outcomes.specs.declared.outcome.Outcome.{Outcome}

-- whether a pick of these times is not refused and goes elsewhere
unfoldable pub elsewhere : Known → List ℕ → List ℕ → Bool
elsewhere known shovels times =
    leb (ties times) (2 ^ known.width) && not (has_rank shovels times (ranked known.width known.words (ties times)).rank known.chosen)

-- what the search asks for: what a pick of the list has found
pub record Listed (known : Known) (shovels times : List ℕ) : Type 0 where
  pub width : known.width ≤ widest_width
  pub paired : length shovels ≡ length times
  pub few : length times ≤ most_shovels
  pub place : known.chosen < length times
  pub chosen : has_rank shovels times (ranked known.width known.words (ties times)).rank known.chosen ≡ true

-- of a list of two or more
abbrev pub Several : Known → List ℕ → List ℕ → Type 0
Several known shovels times = (1 < length times) × Listed known shovels times

-- the ties of a list: how many, whether shovel p is one of them, and how many have a lower number
pub record IsOutcome (shovels times : List ℕ) (p : ℕ) (r : Outcome) : Type 0 where
  pub ties : r.ties ≡ ties times
  pub tie : r.tie ≡ is_tie times p
  pub rank : r.rank ≡ rank shovels times (get_or shovels p 0)
