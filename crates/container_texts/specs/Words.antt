-- The words of a command, those behind the program's name: `run` and a folder.
use Rattle.std.specs.Prelude.{ℕ, ◌≡◌, ◌≢◌, ◌≤◌, ◌+◌, ◌-◌, ◌⊎◌, List, [], ◌∷◌, ◌++◌, length, take, codes}

-- a folder isn't empty, and doesn't begin with a minus sign (2D in hex)
abbrev pub IsFolder : List ℕ → Type 0
IsFolder [] = ⊥
IsFolder (b ∷ bs) = b ≢ 0x2D

-- the words are a whole command
abbrev pub IsCommand : List (List ℕ) → Type 0
IsCommand [] = ⊥
IsCommand (word ∷ []) = ⊥
IsCommand (word ∷ folder ∷ []) = (word ≡ codes "run") × IsFolder folder
IsCommand (word ∷ folder ∷ more ∷ words) = ⊥

-- the words begin a command: with more words behind them, or with none, they are one
abbrev pub BeginsCommand : List (List ℕ) → Type 0
BeginsCommand words = (more : List (List ℕ)) × IsCommand (words ++ more)

-- the least number of words that begin no command; where all begin one and are none yet, the place behind them
pub record IsRefusedAt (words : List (List ℕ)) (place : ℕ) : Type 0 where
  pub counted : 1 ≤ place
  pub before : BeginsCommand (take (place - 1) words)
  pub here : ((place ≤ length words) × (BeginsCommand (take place words) → ⊥)) ⊎ ((place ≡ length words + 1) × (IsCommand words → ⊥))

-- the same by cases, as the words are read: none of them, `run`, or `run` and a folder
abbrev pub IsFront : List (List ℕ) → Type 0
IsFront [] = Unit {0}
IsFront (word ∷ []) = word ≡ codes "run"
IsFront (word ∷ folder ∷ []) = (word ≡ codes "run") × IsFolder folder
IsFront (word ∷ folder ∷ more ∷ words) = ⊥

pub record IsReadTo (words : List (List ℕ)) (place : ℕ) : Type 0 where
  pub counted : 1 ≤ place
  pub before : IsFront (take (place - 1) words)
  pub here : ((place ≤ length words) × (IsFront (take place words) → ⊥)) ⊎ ((place ≡ length words + 1) × (IsCommand words → ⊥))
