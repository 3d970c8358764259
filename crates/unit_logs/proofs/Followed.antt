-- What a commit makes of the records of a log, from what it makes of its frames.
use Rattle.std.proofs.Common.{append-nil, ℕ, ◌<◌, ◌⊎◌, inl, inr, List, [], ◌∷◌, ◌++◌, length, Option, Some, sym, ◌∙◌, ap}
use Rattle.samza_model.specs.declared.messages.Record.{Record}
use Rattle.samza_model.specs.declared.checkpoints.Checkpoint.{Checkpoint}
use Rattle.samza_model.specs.declared.setups.Setup.{Setup}
use Rattle.samza_model.specs.Content.{Content, State, sent_at}
use Rattle.samza_model.specs.Checkpoint.{StandsFor}
use Rattle.samza_model.specs.Files.{Image, checkpoint_file, output_file}
use Rattle.samza_model.specs.Restored.{store_file}
use Rattle.unit_logs.specs.Unlogged.{unlogged_at}
use Rattle.samza_model.specs.Logs.{joined, HasLog}
use Rattle.topic_log.proofs.Laws.{joined-append}
use Rattle.unit_logs.specs.Commits.{IsFollowed, IsCommitted, IsUncommitted}

-- records that stand behind those that a log had
pub follows_log : (most : ℕ) (records had : List Record) (before after : List ℕ) → IsFollowed most records before after → HasLog before had → HasLog after (had ++ records)
follows_log most records had before after follows log =
    let f = follows log.frames log.has in
    record {
      frames = log.frames ++ f.0;
      has = f.2;
      records_are =
          ap (λ (l : List Record). l ++ records) log.records_are ∙ ap (λ (l : List Record). joined log.frames ++ l) (sym f.1.whole)
          ∙ sym (joined-append log.frames f.0);
    }

-- behind each output's records stand those that it was sent
pub sends_follow : (s : Setup) (before after : Image) (mark : Option Checkpoint) (next : ℕ) (state : State) (unlogged : List (List Record)) (made : Checkpoint)
    → IsCommitted s before after mark next state unlogged made → (j : ℕ) (had : List Record) → j < length s.outputs → HasLog (before (output_file j)) had
    → HasLog (after (output_file j)) (had ++ sent_at state.sent j)
sends_follow s before after mark next state unlogged made is j had lt log = follows_log _ (sent_at state.sent j) had (before (output_file j)) (after (output_file j)) (is.sends j lt) log

-- each output's records are those that it had, or behind these stand those that it was sent
pub sends_may_follow : (s : Setup) (before after : Image) (mark : Option Checkpoint) (contents : List Content) (unlogged unsent : List (List Record))
    → IsUncommitted s before after mark contents unlogged unsent → (j : ℕ) (had : List Record) → j < length s.outputs → HasLog (before (output_file j)) had
    → HasLog (after (output_file j)) had ⊎ HasLog (after (output_file j)) (had ++ sent_at unsent j)
sends_may_follow s before after mark contents unlogged unsent is j had lt log = elim (is.sends j lt log.frames log.has) [
  | inl same ↦ inl (record { frames = log.frames; has = same; records_are = log.records_are })
  | inr more ↦ inr (record {
    frames = log.frames ++ more.0;
    has = more.2;
    records_are =
        ap (λ (l : List Record). l ++ sent_at unsent j) log.records_are ∙ ap (λ (l : List Record). joined log.frames ++ l) (sym more.1.whole)
        ∙ sym (joined-append log.frames more.0);
  })
]

-- behind each changelog's records stand the changes of its store
pub changes_follow : (s : Setup) (before after : Image) (mark : Option Checkpoint) (next : ℕ) (state : State) (unlogged : List (List Record)) (made : Checkpoint)
    → IsCommitted s before after mark next state unlogged made → (i : ℕ) (had : List Record) → i < length s.stores → HasLog (before (store_file (Some made) i)) had
    → (more : List Record) × HasLog (after (store_file (Some made) i)) (had ++ more)
changes_follow s before after mark next state unlogged made is i had lt log =
    (unlogged_at unlogged i, follows_log _ (unlogged_at unlogged i) had (before (store_file (Some made) i)) (after (store_file (Some made) i)) (is.changes i lt) log)

-- behind the checkpoints' records stands the one of the checkpoint that was made
pub marked_follows : (s : Setup) (before after : Image) (mark : Option Checkpoint) (next : ℕ) (state : State) (unlogged : List (List Record)) (made : Checkpoint)
    → IsCommitted s before after mark next state unlogged made → (had : List Record) → HasLog (before checkpoint_file) had
    → (r : Record) × StandsFor r made × HasLog (after checkpoint_file) (had ++ r ∷ [])
marked_follows s before after mark next state unlogged made is had log =
    let m = is.marked log.frames log.has in (
      m.0,
      m.1,
      record {
        frames = log.frames ++ (m.0 ∷ []) ∷ [];
        has = m.2;
        records_are = ap (λ (l : List Record). l ++ m.0 ∷ []) log.records_are ∙ sym (joined-append log.frames ((m.0 ∷ []) ∷ []));
      },
    )

-- without the next checkpoint, the checkpoints' records are those that they were
pub marked_stays : (s : Setup) (before after : Image) (mark : Option Checkpoint) (contents : List Content) (unlogged unsent : List (List Record))
    → IsUncommitted s before after mark contents unlogged unsent → (had : List Record) → HasLog (before checkpoint_file) had → HasLog (after checkpoint_file) had
marked_stays s before after mark contents unlogged unsent is had log = record { frames = log.frames; has = is.marked log.frames log.has; records_are = log.records_are }

-- and each changelog's begin with those that it had
pub changes_may_follow : (s : Setup) (before after : Image) (mark : Option Checkpoint) (contents : List Content) (unlogged unsent : List (List Record))
    → IsUncommitted s before after mark contents unlogged unsent → (i : ℕ) (had : List Record) → i < length s.stores → HasLog (before (store_file mark i)) had
    → (more : List Record) × HasLog (after (store_file mark i)) (had ++ more)
changes_may_follow s before after mark contents unlogged unsent is i had lt log = elim (is.changes i lt log.frames log.has) [
  | inl same ↦ ([], record { frames = log.frames; has = same; records_are = append-nil had ∙ log.records_are })
  | inr more ↦ (
    unlogged_at unlogged i,
    record {
      frames = log.frames ++ more.0;
      has = more.2;
      records_are =
          ap (λ (l : List Record). l ++ unlogged_at unlogged i) log.records_are ∙ ap (λ (l : List Record). joined log.frames ++ l) (sym more.1.whole)
          ∙ sym (joined-append log.frames more.0);
    },
  )
]
