-- What a task's events ask for: a commit, and a shutdown.
use Rattle.std.specs.Prelude.{ℕ, ◌+◌, ◌≡◌, ◌||◌, List, [], ◌∷◌, length, Option, Some, None, Bool, true, false, nat_le}
use Rattle.samza_model.specs.declared.messages.Record.{Record}
use Rattle.samza_model.specs.declared.acts.Act.{Act}
use Rattle.samza_model.specs.declared.acts.Act.TheVariants.{Get, Next, Put, Delete, Send, AskCommit, AskShutdown}
use Rattle.samza_model.specs.declared.acts.Answer.{Answer}
use Rattle.samza_model.specs.declared.acts.Answer.TheVariants.{Found, Pair}
use Rattle.samza_model.specs.declared.acts.Scope.{Scope}
use Rattle.samza_model.specs.declared.acts.Scope.TheVariants.{CurrentTask, AllTasks}
use Rattle.samza_model.specs.declared.events.Event.{Event}
use Rattle.samza_model.specs.declared.events.Event.TheVariants.{Deliver, Did, Complete, Failed, WindowDid, WindowEnded}

-- the bytes of the keys and values in an event
abbrev pub value_size : Option (List ℕ) → ℕ
value_size None = 0
value_size (Some v) = length v

abbrev pub record_size : Record → ℕ
record_size r = length r.key + value_size r.value

abbrev pub act_size : Act → ℕ
act_size (Get store key) = length key
act_size (Next store key) = length key
act_size (Put store key value) = length key + length value
act_size (Delete store key) = length key
act_size (Send output body) = record_size body
act_size _ = 0

abbrev pub answer_size : Answer → ℕ
answer_size (Found value) = length value
answer_size (Pair key value) = length key + length value
answer_size _ = 0

abbrev pub event_size : Event → ℕ
event_size (Deliver n p o m t) = record_size m
event_size (Did n i act answer) = act_size act + answer_size answer
event_size (WindowDid i act answer) = act_size act + answer_size answer
event_size _ = 0

abbrev pub size_of : List Event → ℕ
size_of [] = 0
size_of (e ∷ h) = size_of h + event_size e

-- the act of an event
abbrev pub act_in : Event → Option Act
act_in (Did n i act answer) = Some act
act_in (WindowDid i act answer) = Some act
act_in _ = None

-- an act that asks for a commit of its task
abbrev pub asks_here : Option Act → Bool
asks_here (Some (AskCommit CurrentTask)) = true
asks_here _ = false

abbrev pub asks_commit : Event → Bool
asks_commit e = asks_here (act_in e)

abbrev pub is_asked : List Event → Bool
is_asked [] = false
is_asked (e ∷ h) = asks_commit e || is_asked h

-- a journal's bounds: so many events since the last mark, and so many bytes of keys and values in them, ask for the next mark
abbrev pub event_bound : ℕ
event_bound = 131072

abbrev pub byte_bound : ℕ
byte_bound = 8388608

-- the events since a mark ask for the next one
abbrev pub due_by : List Event → Bool
due_by h = is_asked h || nat_le event_bound (length h) || nat_le byte_bound (size_of h)

-- no message was delivered once the events since a mark asked for the next one
abbrev pub IsPrompt : List Event → Type 0
IsPrompt [] = Unit {0}
IsPrompt (Deliver n p o m t ∷ h) = (due_by h ≡ false) × IsPrompt h
IsPrompt (Did n i act answer ∷ h) = IsPrompt h
IsPrompt (Complete n ∷ h) = IsPrompt h
IsPrompt (Failed f ∷ h) = IsPrompt h
IsPrompt (WindowDid i act answer ∷ h) = IsPrompt h
IsPrompt (WindowEnded ∷ h) = IsPrompt h

-- the greater of two scopes of a shutdown: all tasks above the current one
abbrev pub greater_scope : Option Scope → Option Scope → Option Scope
greater_scope (Some AllTasks) b = Some AllTasks
greater_scope a (Some AllTasks) = Some AllTasks
greater_scope None b = b
greater_scope a None = a
greater_scope a b = a

-- the scope of the shutdown that an act asks for
abbrev pub shutdown_of : Option Act → Option Scope
shutdown_of (Some (AskShutdown scope)) = Some scope
shutdown_of _ = None

-- the greatest scope of a shutdown that the events ask for
abbrev pub shutdown_asked : List Event → Option Scope
shutdown_asked [] = None
shutdown_asked (e ∷ h) = greater_scope (shutdown_asked h) (shutdown_of (act_in e))
