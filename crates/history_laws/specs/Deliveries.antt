-- What is said of the messages that were delivered, where there is one input.
use Rattle.std.specs.Prelude.{ℕ, ◌-◌, ◌≡◌, List, length, take, drop, Some}
use Rattle.samza_model.specs.declared.messages.Envelope.{Envelope}
use Rattle.samza_model.specs.declared.messages.Ssp.{Ssp}
use Rattle.samza_model.specs.declared.events.Event.{Event}
use Rattle.samza_model.specs.Events.{deliveries, deliveries_of, ssp_at}
use Rattle.samza_model.specs.Lawful.{Given, IsLawful, part_at, start_at}
use Rattle.samza_model.specs.Partition.{Partition, envelopes}
use Rattle.history_laws.specs.Folds.{delivered}

-- so many messages of a partition with their places, from an offset on
abbrev pub messages_from : Ssp → Partition → ℕ → ℕ → List Envelope
messages_from ssp part offset n = envelopes ssp offset (take n (drop (offset - part.first) part.records))

-- the first so many messages that are the first input's to deliver
abbrev pub first_messages : Given → Partition → ℕ → List Envelope
first_messages k part n = messages_from (ssp_at k.setup 0) part (start_at k 0) n

abbrev pub AreInOrder : Type 0
AreInOrder = (k : Given) (part : Partition) (h : List Event) → length k.starts ≡ 1 → part_at k 0 ≡ Some part
    → IsLawful k h → delivered k.setup h ≡ first_messages k part (deliveries_of 0 h)

abbrev pub AreOfOneInput : Type 0
AreOfOneInput = (k : Given) (h : List Event) → length k.starts ≡ 1 → IsLawful k h → deliveries h ≡ deliveries_of 0 h
