-- What stores hold and outputs were sent, and how acts and records change it.
use Rattle.std.specs.Prelude.{ℕ, List, [], ◌∷◌, ◌++◌, Option, Some, None, not, slice_index_or, slice_set}
use Rattle.std.specs.Ordering.{nat_cmp, is_lt}
use Rattle.std.specs.Cmp.Lexicographic.{slice_cmp}
use Rattle.std.specs.List.{find}
use Rattle.std.specs.Coded.{Coded, coded_list, coded_ℕ}
use Rattle.std.specs.FinMap as map
use Rattle.samza_model.specs.declared.messages.Record.{Record}
use Rattle.samza_model.specs.declared.acts.Act.{Act}
use Rattle.samza_model.specs.declared.acts.Act.TheVariants.{Get, Next, Put, Delete, Send}
use Rattle.samza_model.specs.declared.acts.Answer.{Answer}
use Rattle.samza_model.specs.declared.acts.Answer.TheVariants.{Found, Pair, Missing, Noted}

-- a store's content: a finite map from keys, in the order of their bytes, to values
abbrev pub Content : Type 0
Content = map.FinMap (slice_cmp nat_cmp) (List ℕ)

abbrev pub nothing_stored : Content
nothing_stored = map.empty

abbrev pub content_code : Coded Content
content_code = map.code (coded_list coded_ℕ) (coded_list coded_ℕ)

-- the key set to the value, or taken away
abbrev pub updated : Content → List ℕ → Option (List ℕ) → Content
updated c key (Some value) = map.insert c key value
updated c key None = map.remove c key

-- the content that a changelog's records leave, one after another: a record with a value sets its key, one without removes it
abbrev pub replayed : Content → List Record → Content
replayed c [] = c
replayed c (r ∷ rs) = replayed (updated c r.key r.value) rs

-- the fold of a changelog's records
abbrev pub foldrec : List Record → Content
foldrec records = replayed nothing_stored records

-- the pair with the least key that isn't below this one
abbrev pub next_pair : Content → List ℕ → Option (List ℕ × List ℕ)
next_pair c key = find (λ e. not (is_lt (slice_cmp nat_cmp e.0 key))) (map.entries c)

-- the stores in the setup's order, and what each output was sent, oldest first
pub record State : Type 0 where
  pub stores : List Content
  pub sent : List (List Record)

abbrev pub store_at : List Content → ℕ → Content
store_at stores i = slice_index_or stores i nothing_stored

abbrev pub sent_at : List (List Record) → ℕ → List Record
sent_at sent j = slice_index_or sent j []

-- the state after an act
unfoldable pub changed : State → Act → State
changed s (Put store key value) = record { stores = slice_set s.stores store (updated (store_at s.stores store) key (Some value)); sent = s.sent }
changed s (Delete store key) = record { stores = slice_set s.stores store (updated (store_at s.stores store) key None); sent = s.sent }
changed s (Send output body) = record { stores = s.stores; sent = slice_set s.sent output (sent_at s.sent output ++ body ∷ []) }
changed s _ = s

abbrev pub found : Option (List ℕ) → Answer
found (Some value) = Found value
found None = Missing

abbrev pub found_pair : Option (List ℕ × List ℕ) → Answer
found_pair (Some pair) = Pair pair.0 pair.1
found_pair None = Missing

-- what an act is answered
unfoldable pub answer_of : State → Act → Answer
answer_of s (Get store key) = found (map.get (store_at s.stores store) key)
answer_of s (Next store key) = found_pair (next_pair (store_at s.stores store) key)
answer_of s _ = Noted
