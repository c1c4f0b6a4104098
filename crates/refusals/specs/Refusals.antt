-- The refusals (document 01, Refusal table; document 02 from 17 on): their numbers, each with its trade word, which of several is told, and answers by number.
use Rattle.std.specs.Prelude.{◌≡◌, Bool, false, cond, List, [], ◌∷◌, ℕ, eqb, Result, Ok, Err}
use Rattle.refusals.specs.declared.Refusal.{Refusal}
use Rattle.refusals.specs.declared.Refusal.TheVariants.{Truncated, OutOfRange, Redundant, TableMissing, TrailingBytes, ConstantTooWide, NotSingleCycle, EvenConstant, PowerParity, WordCount, WordTooWide, LengthMismatch, NoShovel, TooManyShovels, DuplicateShovel, BufferTooSmall, SpanOutOfBounds, TooManyTies, NoSuchChange, MalformedRecord, TruckMismatch, StripTooLong, StripWordTooWide, BitPageTooSmall, OffMap, SingleCycle}

-- the number of a refusal: never 0, which says that nothing is refused
abbrev pub number : Refusal → ℕ
number Truncated = 1  -- short
number OutOfRange = 2  -- range
number Redundant = 3  -- idle
number TableMissing = 4  -- tableless
number TrailingBytes = 5  -- long
number ConstantTooWide = 6  -- wide
number NotSingleCycle = 7  -- broken ring
number EvenConstant = 8  -- even constant
number PowerParity = 9  -- powers
number WordCount = 10  -- word count
number WordTooWide = 11  -- high bits
number LengthMismatch = 12  -- uneven
number NoShovel = 13  -- no shovel
number TooManyShovels = 14  -- crowd
number DuplicateShovel = 15  -- twice
number BufferTooSmall = 16  -- small page
number SpanOutOfBounds = 17  -- span
number TooManyTies = 18  -- too many equals
number NoSuchChange = 19  -- firm
number MalformedRecord = 20  -- torn
number TruckMismatch = 21  -- other truck
number StripTooLong = 22  -- strip too long
number StripWordTooWide = 23  -- strip bits
number BitPageTooSmall = 24  -- bit page
number OffMap = 25  -- off map
number SingleCycle = 26  -- sound ring

-- a refusal and whether its condition holds
pub record Check : Type 0 where
  pub refusal : Refusal
  pub applies : Bool

abbrev pub check : Refusal → Bool → Check
check r b = record { refusal = r; applies = b }

-- each is given exactly under its condition once no earlier check applies; 0 where none applies
unfoldable pub first_of : List Check → ℕ
first_of [] = 0
first_of (c ∷ cs) = cond c.applies (number c.refusal) (first_of cs)

-- no condition of the list holds
unfoldable pub NoneApplies : List Check → Type 0
NoneApplies [] = Unit {0}
NoneApplies (c ∷ cs) = (c.applies ≡ false) × NoneApplies cs

-- the value x where r is 0, else the refusal of number r
abbrev pub answered : {A : Type 0} → ℕ → A → Result A ℕ
answered r x = cond (eqb r 0) (Ok x) (Err r)

-- an answer of the code, with the refusal by its number
abbrev pub numbered : {A : Type 0} → Result A Refusal → Result A ℕ
numbered (Ok x) = Ok x
numbered (Err r) = Err (number r)

-- the number alone: 0 where nothing is refused
abbrev pub told : {A : Type 0} → Result A Refusal → ℕ
told (Ok x) = 0
told (Err r) = number r
