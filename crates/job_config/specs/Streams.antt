-- The inputs of a configuration, and the rows of their streams' keys.
use Rattle.std.specs.Prelude.{ℕ, false, ◌==◌, List, map, Option, None, unwrap_or, Result, Ok, Err}
use Rattle.std.specs.Option.{option_or}
use Rattle.std.specs.List.{before_first, after_first}
use Rattle.props_text.specs.Pairs.{Props}
use Rattle.samza_model.specs.declared.setups.OffsetDefault.TheVariants.{Upcoming}
use Rattle.config_values.specs.declared.faults.What.{What}
use Rattle.job_config.specs.declared.config.InputConfig.{InputConfig}
use Rattle.job_config.specs.declared.streams.Stream.{Stream}
use Rattle.job_config.specs.declared.keys.StreamSetting.{StreamSetting}
use Rattle.job_config.specs.declared.keys.StreamSetting.TheVariants.{OwnStart, SystemStart, OwnReset, SystemReset, Bootstrap, Priority}
use Rattle.job_config.specs.Keys.{stream_key}
use Rattle.config_values.specs.Values.{start, own_flag, flag, priority}
use Rattle.job_config.specs.Asking.{Asks, ◌>>=◌, gives, row, each}

-- `system.stream` is cut at the first dot
abbrev pub system_of : List ℕ → List ℕ
system_of name = before_first (λ c. c == 46) name

abbrev pub stream_of : List ℕ → List ℕ
stream_of name = after_first (λ c. c == 46) name

-- a stream before its keys are read
abbrev pub new_stream : List ℕ → Stream
new_stream name = record { system = system_of name; stream = stream_of name; start = None; reset = None; bootstrap = false; priority = 0 }

-- what a value says, put in
abbrev pub on_said : {A B : Type 0} → (A → B) → Result A What → Result B What
on_said f (Ok x) = Ok (f x)
on_said f (Err what) = Err what

-- The stream with what the value of a key says of it. What its own key says goes before what its system's says, which is
-- tested all the same.
abbrev pub stream_said : StreamSetting → Stream → Option (List ℕ) → Result Stream What
stream_said OwnStart s t = on_said (λ own. record s { start = own }) (start t)
stream_said SystemStart s t = on_said (λ of_system. record s { start = option_or s.start of_system }) (start t)
stream_said OwnReset s t = on_said (λ own. record s { reset = own }) (own_flag t)
stream_said SystemReset s t = on_said (λ of_system. record s { reset = option_or s.reset of_system }) (own_flag t)
stream_said Bootstrap s t = on_said (λ bootstrap. record s { bootstrap = bootstrap }) (flag t)
stream_said Priority s t = on_said (λ priority. record s { priority = priority }) (priority 1000000 t)

-- a row of a stream
unfoldable pub stream_row : Props → StreamSetting → Stream → Asks Stream
stream_row p setting s = row p (stream_key setting s.system s.stream) (stream_said setting s)

-- an input; where no key says so, it begins behind its last message, and a kept offset counts
abbrev pub input_config : Stream → InputConfig
input_config s = record { system = s.system; stream = s.stream; fallback = unwrap_or s.start Upcoming; reset = unwrap_or s.reset false; bootstrap = s.bootstrap; priority = s.priority }

-- the rows of the streams' keys, each over all inputs in order of `system.stream`
unfoldable pub stream_rows : Props → List (List ℕ) → Asks (List InputConfig)
stream_rows p names = do
  a ← each (map new_stream names) (stream_row p OwnStart)
  b ← each a (stream_row p SystemStart)
  c ← each b (stream_row p OwnReset)
  d ← each c (stream_row p SystemReset)
  e ← each d (stream_row p Bootstrap)
  f ← each e (stream_row p Priority)
  gives (map input_config f)
