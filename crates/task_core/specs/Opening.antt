-- When a window may be opened.
use Rattle.std.specs.Prelude.{ℕ, ◌≡◌, ◌<◌, [], length, None}
use Rattle.core_steps.specs.Cores.{CoreValue}

-- nothing failed, no window is open, and nothing is in flight
pub record MayOpen (u : CoreValue) : Type 0 where
  pub sound : u.failed ≡ None
  pub closed : u.window ≡ None
  pub idle : u.callbacks.flights ≡ []

-- so many callbacks are in flight, more than none, and nothing failed
pub record IsBusy (u : CoreValue) (n : ℕ) : Type 0 where
  pub sound : u.failed ≡ None
  pub count : length u.callbacks.flights ≡ n
  pub some : 0 < n
