-- A row of a stream is the key with what its value says.
use Rattle.std.proofs.Common.{◌≡◌, ℕ, List, Option, Result, Ok, Err, ap}
use Rattle.std.specs.FinMap.{get}
use Rattle.props_text.specs.Pairs.{Props}
use Rattle.config_values.specs.declared.faults.What.{What}
use Rattle.job_config.specs.declared.rows.RowFault.{RowFault}
use Rattle.job_config.specs.declared.rows.RowFault.TheVariants.{Bad, NoMemory}
use Rattle.job_config.specs.declared.streams.Stream.{Stream}
use Rattle.job_config.specs.declared.keys.StreamSetting.{StreamSetting}
use Rattle.job_config.specs.Keys.{stream_key}
use Rattle.job_config.specs.Asking.{Fault, Asks, on_ok, gives, row_of, row}
use Rattle.job_config.specs.Outcome.{FailsRow}
use Rattle.job_config.specs.Parts.{Puts}
use Rattle.job_config.specs.Streams.{stream_said, stream_row}

row_put : {A : Type 0} (key : List ℕ) (new : A) (put : Result (Unit {0}) What) (said : Result A What) (asked : List (List ℕ)) → Puts new put said
    → row_of key said asked ≡ on_ok (row_of key put asked) (λ _. gives new)
row_put key new (Ok _) said asked puts = ap (λ r. row_of key r asked) puts
row_put key new (Err what) said asked puts = ap (λ r. row_of key r asked) puts

-- a fault of what comes first is one of the whole
pub fails_first : {A B : Type 0} (fault : RowFault) (first : Result (A × List (List ℕ)) Fault) (f : A → Asks B) → FailsRow fault first → FailsRow fault (on_ok first f)
fails_first NoMemory first f fails = tt
fails_first {A = A} (Bad key what) first f fails = ap (λ (r : Result (A × List (List ℕ)) Fault). on_ok r f) fails

-- a row is asked for by putting in what its key's value says
pub stream_row_put : (p : Props) (setting : StreamSetting) (s : Stream) (asked : List (List ℕ)) (key : List ℕ) (text : Option (List ℕ)) (new : Stream) (put : Result (Unit {0}) What)
    → key ≡ stream_key setting s.system s.stream → text ≡ get p key → Puts new put (stream_said setting s text) → stream_row p setting s asked ≡ on_ok (row_of key put asked) (λ _. gives new)
unfolding stream_row row
stream_row_put p setting s asked key text new put is_key is_text puts = rw (← is_key, ← is_text) (row_put key new put (stream_said setting s text) asked puts)
