-- Conditions 22 to 24 (document 02, Eight): what is refused of a strip of words whose bits are counted, and of the page for them.
use Rattle.std.specs.Prelude.{not, List, [], ◌∷◌, ℕ, ◌*◌, ◌^◌, ltb, length, get_or}
use Rattle.cycle.specs.Notation.{every}
use Rattle.refusals.specs.Refusals.{Check, check}
use Rattle.refusals.specs.declared.Refusal.TheVariants.{StripTooLong, StripWordTooWide, BitPageTooSmall}

-- the most words of a strip
abbrev pub most_strip_words : ℕ
most_strip_words = 16384

-- of words of n bits and a page of `room` bytes: too many words; a word of 2^n or more; fewer than n bytes for each word
unfoldable pub strip_checks : ℕ → List ℕ → ℕ → List Check
strip_checks n strip room =
    check StripTooLong (ltb most_strip_words (length strip))
    ∷ check StripWordTooWide (not (every (length strip) (λ k. ltb (get_or strip k 0) (2 ^ n))))
    ∷ check BitPageTooSmall (ltb room (n * length strip))
    ∷ []
