-- What a core begins with.
use Rattle.std.specs.Prelude.{ℕ, ◌≡◌, ◌<◌, All, List, [], length, map}
use Rattle.samza_model.specs.declared.setups.Setup.{Setup}
use Rattle.samza_model.specs.Content.{sent_at}
use Rattle.kv_store.specs.Tracked.{Tracked, no_keys}
use Rattle.output_log.specs.Outputs.{cleared_at}
use Rattle.core_steps.specs.Cores.{CoreValue}
use Rattle.core_steps.specs.Held.{Held}
use Rattle.core_steps.specs.Lanes.{begun_lane}
use Rattle.core_steps.specs.Times.{begun_times}

-- no store has a dirty key
abbrev pub AreClean : List Tracked → Type 0
AreClean stores = All (λ (t : Tracked). t.dirty ≡ no_keys) stores

-- so many outputs, to which nothing was sent, now or before
pub record AreUnsent (count : ℕ) (h : Held) : Type 0 where
  pub outputs : length h.unsent ≡ count
  pub none : (j : ℕ) → j < count → sent_at h.unsent j ≡ []
  pub none_before : (j : ℕ) → j < count → cleared_at h.cleared j ≡ 0

-- the core has what it was given, with nothing delivered of any input yet
pub record IsGiven (s : Setup) (from upto : List ℕ) (id at : ℕ) (u : CoreValue) : Type 0 where
  pub setup : u.setup ≡ s
  pub starts : u.starts ≡ from
  pub ends : u.ends ≡ upto
  pub lanes : u.lanes ≡ map (begun_lane s.span) from
  pub limit : u.callbacks.limit ≡ s.concurrency
  pub last : u.last ≡ id
  pub times : u.times ≡ begun_times s at
