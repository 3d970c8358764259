-- What a unit holds in memory is what its events left to append.
use Rattle.std.proofs.Common.{ℕ, ◌≡◌, ◌<◌, ◌-◌, List, [], ◌∷◌, ◌++◌, length, length-append, take, get_or, refl, sym, ◌∙◌, ap, subst, arith}
use Rattle.std.proofs.lemmas.List.{get_or-map}
use Rattle.std.specs.FinMap as fin
use Rattle.samza_model.specs.declared.messages.Record.{Record}
use Rattle.samza_model.specs.declared.events.Event.{Event}
use Rattle.samza_model.specs.Content.{Content, State, nothing_stored, sent_at, store_at}
use Rattle.samza_model.specs.Events.{newer, state_after}
use Rattle.samza_model.specs.Histories.{History, marked, whole}
use Rattle.samza_model.specs.Lawful.{Given}
use Rattle.kv_store.specs.Tracked.{Keys, Tracked, no_keys, records_of, unlogged_records}
use Rattle.core_steps.specs.Changes.{changed_in}
use Rattle.core_steps.specs.Cores.{IsHeld}
use Rattle.core_steps.specs.Held.{Held, contents_of, state_of, tracked_at}
use Rattle.core_steps.proofs.Laws.{content_at}
use Rattle.unit_logs.specs.Unlogged.{unlogged_at, unlogged_of}
use Rattle.unit_steps.specs.Growing.{LeaveToAppend}
use Rattle.unit_steps.proofs.Marking.{all_sent}

took : {X : Type 0} (xs ys : List X) → take (length xs) (xs ++ ys) ≡ xs
took [] [] = refl
took [] (y ∷ ys) = refl
took (x ∷ xs) ys = ap (λ l. x ∷ l) (took xs ys)

-- the events since the last mark
newer_marked : (t : History) → newer (length (marked t)) (whole t) ≡ t.since
newer_marked t =
    let n : length (whole t) - length (marked t) ≡ length t.since = omega (arith, length-append t.since (marked t)) in
    ap (λ k. take k (whole t)) n ∙ took t.since (marked t)

pub left_is : (k : Given) (t : History) (held : Held) → IsHeld k.state (whole t) (length (marked t)) held → length held.stores ≡ length k.setup.stores → LeaveToAppend k t.since (marked t) (state_of held) (unlogged_of held.stores)
left_is k t held is as_many = record {
  stores = sym is.stores;
  sent = λ j. all_sent k t held is j;
  changes = λ i lt.
      let within : i < length held.stores = omega (arith, lt, as_many) in
      let tracked = tracked_at held.stores i in
      get_or-map unlogged_records held.stores i (record { content = nothing_stored; dirty = no_keys }) [] within
      ∙ ap (λ (c : Content). records_of c (fin.keys tracked.dirty)) (sym (content_at held.stores i within))
      ∙ ap (λ (ks : Keys). records_of (store_at (contents_of held.stores) i) (fin.keys ks)) (is.dirty i within ∙ ap (λ (h : List Event). changed_in i h) (newer_marked t));
}
