-- The keys of a store that events set or take away.
use Rattle.std.specs.Prelude.{ℕ, ◌==◌, List, [], ◌∷◌, if◌then◌else◌}
use Rattle.samza_model.specs.declared.acts.Act.{Act}
use Rattle.samza_model.specs.declared.acts.Act.TheVariants.{Put, Delete}
use Rattle.samza_model.specs.declared.events.Event.{Event}
use Rattle.samza_model.specs.declared.events.Event.TheVariants.{Deliver, Did, Complete, Failed, WindowDid, WindowEnded}
use Rattle.kv_store.specs.Tracked.{Keys, no_keys, with_key}

-- a set of keys, with the one that an act sets or takes away in the i-th store
abbrev pub with_act : ℕ → Keys → Act → Keys
with_act i keys (Put store key value) = if store == i then with_key keys key else keys
with_act i keys (Delete store key) = if store == i then with_key keys key else keys
with_act i keys act = keys

-- the keys that these events set or take away in the i-th store
unfoldable pub changed_in : ℕ → List Event → Keys
changed_in i [] = no_keys
changed_in i (Deliver n p o m t ∷ h) = changed_in i h
changed_in i (Did n k act answer ∷ h) = with_act i (changed_in i h) act
changed_in i (Complete n ∷ h) = changed_in i h
changed_in i (Failed f ∷ h) = changed_in i h
changed_in i (WindowDid k act answer ∷ h) = with_act i (changed_in i h) act
changed_in i (WindowEnded ∷ h) = changed_in i h
