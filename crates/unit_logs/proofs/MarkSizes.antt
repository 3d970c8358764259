-- All checkpoints of a setup have as many bytes.
use Rattle.std.proofs.Common.{ℕ, ◌≡◌, ◌+◌, List, [], ◌∷◌, ◌++◌, length, map, refl, sym, ◌∙◌, ap, arith, length-append}
use Rattle.std.specs.List.{flat_map}
use Rattle.std.specs.Int.{to_be_bytes, w16, w32, w64}
use Rattle.samza_model.specs.declared.messages.Record.{Record}
use Rattle.samza_model.specs.declared.checkpoints.Checkpoint.{Checkpoint}
use Rattle.samza_model.specs.declared.checkpoints.InputMark.{InputMark}
use Rattle.samza_model.specs.declared.checkpoints.StoreMark.{StoreMark}
use Rattle.samza_model.specs.declared.setups.Setup.{Setup}
use Rattle.samza_model.specs.Checkpoint.{Spells, input_bytes, store_bytes, name_bytes, checkpoint_value}
use Rattle.samza_model.specs.Frames.{frame_bytes, body_bytes, record_bytes, text_bytes}
use Rattle.samza_model.specs.Logs.{spelled}
use Rattle.samza_model.specs.Restored.{IsNamed, mark_names, marked_place, setup_place}

places_size : List (List ℕ × ℕ) → ℕ
places_size [] = 0
places_size (p ∷ ps) = (1 + length p.0 + 12) + places_size ps

inputs_long : (inputs : List InputMark) → length (flat_map input_bytes inputs) ≡ places_size (map marked_place inputs)
unfolding places_size
inputs_long [] = refl
inputs_long (i ∷ is) =
    omega (arith, length-append (input_bytes i) (flat_map input_bytes is), length-append (name_bytes i.stream ++ to_be_bytes w32 i.partition) (to_be_bytes w64 i.next), length-append (name_bytes i.stream) (to_be_bytes w32 i.partition), inputs_long is)

names_size : List (List ℕ) → ℕ
names_size [] = 0
names_size (n ∷ ns) = (1 + length n + 8) + names_size ns

stores_long : (stores : List StoreMark) → length (flat_map store_bytes stores) ≡ names_size (mark_names stores)
unfolding names_size
stores_long [] = refl
stores_long (t ∷ ts) = omega (arith, length-append (store_bytes t) (flat_map store_bytes ts), length-append (name_bytes t.name) (to_be_bytes w64 t.count), stores_long ts)

value_size : Setup → ℕ
value_size s = 5 + places_size (map setup_place s.inputs) + names_size (map (λ t. t.name) s.stores) + length (flat_map name_bytes s.outputs)

value_long : (s : Setup) (k : Checkpoint) → IsNamed s k → length (checkpoint_value k) ≡ value_size s
unfolding value_size
value_long s k named =
    let inputs : length (flat_map input_bytes k.inputs) ≡ places_size (map setup_place s.inputs) = inputs_long k.inputs ∙ ap places_size named.inputs in
    let stores : length (flat_map store_bytes k.stores) ≡ names_size (map (λ t. t.name) s.stores) = stores_long k.stores ∙ ap names_size named.stores in
    let outputs : length (flat_map name_bytes k.outputs) ≡ length (flat_map name_bytes s.outputs) = ap (λ (o : List (List ℕ)). length (flat_map name_bytes o)) named.outputs in
    let behind_stores = length k.outputs ∷ flat_map name_bytes k.outputs in
    let behind_inputs = length k.stores ∷ (flat_map store_bytes k.stores ++ behind_stores) in
    omega (arith, inputs, stores, outputs, length-append (to_be_bytes w16 (length k.inputs)) (flat_map input_bytes k.inputs ++ behind_inputs), length-append (flat_map input_bytes k.inputs) behind_inputs, length-append (flat_map store_bytes k.stores) behind_stores)

record_long : (s : Setup) (k : Checkpoint) (r : Record) → IsNamed s k → Spells k r → length (record_bytes r) ≡ 16 + value_size s
record_long s k r named spells =
    let key = to_be_bytes w64 k.id in
    let value = checkpoint_value k in
    ap (λ (x : Record). length (record_bytes x)) spells.is ∙ (omega (arith, length-append (text_bytes key) (text_bytes value), length-append (to_be_bytes w32 (length key)) key, length-append (to_be_bytes w32 (length value)) value, value_long s k named))

-- the bytes of a frame of one record, by those of the record
one_long : (r : Record) → length (spelled ((r ∷ []) ∷ [])) ≡ 9 + length (record_bytes r)
one_long r =
    let body = body_bytes (r ∷ []) in
    omega (arith, length-append (0x4F ∷ frame_bytes (r ∷ [])) [], length-append (to_be_bytes w32 (length body)) (to_be_bytes w32 1 ++ body), length-append (to_be_bytes w32 1) body, length-append (record_bytes r) [])

pub marks_long : (s : Setup) (k k' : Checkpoint) (r r' : Record) → IsNamed s k → IsNamed s k' → Spells k r → Spells k' r' → length (spelled ((r ∷ []) ∷ [])) ≡ length (spelled ((r' ∷ []) ∷ []))
marks_long s k k' r r' named named' spells spells' =
    one_long r ∙ ap (λ n. 9 + n) (record_long s k r named spells ∙ sym (record_long s k' r' named' spells')) ∙ sym (one_long r')
