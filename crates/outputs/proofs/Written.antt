-- A row of words of the orbit, written over lent words from the front: what holds before number k + 1 of them is written, after it, and at the end.
use mathlib.Core.Path.{◌≡◌, refl, sym, ap, ap₂, ◌∙◌}
use mathlib.Core.List.{List, ◌++◌}
use Prim.Native.Nat.{ℕ, suc, ◌+◌, ◌≤◌, ◌<◌}
use native.Mathlib.Nat.{le_of_eq}
use native.Mathlib.Numerals.{add-one}
use native.Mathlib.Omega.{arith}
use lib.ListN.{length, set, drop}
use lib.Seq.{take_all}
use Rattle.cycle.specs.Notation.{iterate}
use Rattle.tsc.specs.declared.Card.{Card}
use Rattle.tsc.specs.declared.State.{State}
use Rattle.tsc.specs.Coverage.{IsState}
use Rattle.tsc.specs.Step.{orbit}
use Rattle.tsc.specs.Word.{orbit_words}
use Rattle.tsc.proofs.Step.{orbit_in_range}
use Rattle.tsc.proofs.Word.{length-orbit_words, orbit_words_at}
use Rattle.cycle.proofs.Lists.{over, over_suc}
use Rattle.stepping.specs.State.{used, Holds, holding}
use Rattle.stepping.proofs.Holding.{held, holds}
use Rattle.outputs.specs.declared.next.Output.{Output}
use Rattle.outputs.specs.Output.{output}

-- k of count words of the orbit from xs are written over ws, and s is state number k
pub record Written (card : Card) (xs : List ℕ) (count : ℕ) (ws : List ℕ) (k : ℕ) (s : State) (words : List ℕ) : Type 0 where
  pub some : k ≤ count
  pub state : s ≡ holding (orbit card xs k)
  pub written : words ≡ over (orbit_words card xs count) ws k

module _ (card : Card) (xs : List ℕ) (count : ℕ) (ws : List ℕ) (room : count ≤ length ws) where
  pub written_none : (s : State) → s ≡ holding xs → Written card xs count ws 0 s ws
  unfolding iterate
  written_none s e = record { some = omega arith; state = e; written = refl }

  module _ (sx : IsState card xs) (k : ℕ) (s : State) (words : List ℕ) (w : Written card xs count ws k s words) where
    pub written-holds : Holds card s
    written-holds = rw w.state (holds card (orbit card xs k) (orbit_in_range card xs sx k))

    pub written_next : k < count → (o : Output) → o ≡ output card (used card s) → Written card xs count ws (k + 1) o.state (set words k o.word)
    unfolding iterate
    written_next l o e =
        let row = orbit_words card xs count in
        let now : used card s ≡ orbit card xs k = ap (used card) w.state ∙ held card (orbit card xs k) (orbit_in_range card xs sx k) in
        let next = e ∙ ap (output card) now in
        let number : orbit card xs (suc k) ≡ orbit card xs (k + 1) = ap (orbit card xs) (sym (add-one k)) in
        record {
          some = omega arith;
          state = ap (λ (o : Output). o.state) next ∙ ap holding number;
          written =
              ap₂ (λ (l : List ℕ) (v : ℕ). set l k v) w.written (ap (λ (o : Output). o.word) next ∙ sym (orbit_words_at card xs count k l))
              ∙ over_suc row ws k (omega (arith, length-orbit_words card xs count)) (omega arith);
        }

  pub written_all : (k : ℕ) (s : State) (words : List ℕ) → Written card xs count ws k s words → count ≤ k
      → (s ≡ holding (orbit card xs count)) × (words ≡ orbit_words card xs count ++ drop count ws)
  written_all k s words w l =
      let e : k ≡ count = omega (arith, w.some) in
      let row = orbit_words card xs count in (
        w.state ∙ ap (λ (k : ℕ). holding (orbit card xs k)) e,
        w.written ∙ ap (over row ws) e ∙ ap (λ (r : List ℕ). r ++ drop count ws) (take_all count row (le_of_eq (length-orbit_words card xs count))),
      )

-- ---- in a loop that does not have the card: of every card that P holds of

abbrev pub Row : (Card → Type 0) → State → ℕ → List ℕ → ℕ → State → List ℕ → Type 0
Row P start count ws k s words = (card : Card) → P card → Written card (used card start) count ws k s words

module _ (P : Card → Type 0) (start : State) (count : ℕ) (ws : List ℕ) (room : count ≤ length ws) (held : (card : Card) → P card → Holds card start) where
  pub row-none : Row P start count ws 0 start ws
  row-none card p = written_none card (used card start) count ws room start (held card p).1

  module _ (k : ℕ) (s : State) (words : List ℕ) (row : Row P start count ws k s words) where
    pub row-holds : (card : Card) → P card → Holds card s
    row-holds card p = written-holds card (used card start) count ws room (held card p).0 k s words (row card p)

    pub row_next : k < count → (o : Output) → ((card : Card) → P card → o ≡ output card (used card s)) → Row P start count ws (k + 1) o.state (set words k o.word)
    row_next l o e card p = written_next card (used card start) count ws room (held card p).0 k s words (row card p) l o (e card p)

    pub row-all : count ≤ k → (card : Card) → P card → (s ≡ holding (orbit card (used card start) count)) × (words ≡ orbit_words card (used card start) count ++ drop count ws)
    row-all l card p = written_all card (used card start) count ws room k s words (row card p) l
