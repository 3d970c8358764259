-- What a task's files restore to is one.
use Rattle.std.proofs.Common.{ℕ, ◌≡◌, ◌<◌, List, [], ◌∷◌, ◌++◌, length, take, Option, Some, None, refl, sym, subst, ap, ◌∙◌, arith, length-append}
use Rattle.std.proofs.lemmas.List.{ext_get_or, same_from_push}
use Rattle.samza_model.specs.declared.messages.Record.{Record}
use Rattle.samza_model.specs.declared.setups.Setup.{Setup}
use Rattle.samza_model.specs.declared.checkpoints.Checkpoint.{Checkpoint}
use Rattle.samza_model.specs.Checkpoint.{Spells}
use Rattle.samza_model.specs.Content.{Content, nothing_stored, foldrec, store_at}
use Rattle.samza_model.specs.Files.{Image, checkpoint_file, changelog_file}
use Rattle.samza_model.specs.Restored.{count_at, EndsWith, HasMark, HoldsContent, IsMarked, Restores}
use Rattle.topic_log.proofs.Laws.{frames_unique, log_unique}
use Rattle.checkpoint_log.proofs.Laws.{spells_one}

-- frames end with one checkpoint
pub ends_one : (frames : List (List Record)) (a b : Checkpoint) → EndsWith frames a → EndsWith frames b → a ≡ b
ends_one frames a b p q =
    let frame : p.last ∷ [] ≡ q.last ∷ [] = (same_from_push p.before q.before (p.last ∷ []) (q.last ∷ []) (sym p.split ∙ q.split)).1 in
    let same : p.last ≡ q.last = cc frame in
    spells_one a b p.last p.spells (subst (λ (r : Record). Spells b r) (sym same) q.spells)

pub none_ends : (frames before : List (List Record)) (last : List Record) → frames ≡ [] → frames ≡ before ++ last ∷ [] → ⊥
none_ends frames before last none split = absurd (omega (arith, ap length none, ap length split, length-append before (last ∷ [])))

pub mark_one : (s : Setup) (frames : List (List Record)) (m m' : Option Checkpoint) → HasMark s frames m → HasMark s frames m' → m ≡ m'
mark_one s frames None None p q = refl
mark_one s frames None (Some k) p q = absurd (none_ends frames q.0.before (q.0.last ∷ []) p q.0.split)
mark_one s frames (Some k) None p q = absurd (none_ends frames p.0.before (p.0.last ∷ []) q p.0.split)
mark_one s frames (Some k) (Some k') p q = ap (λ (x : Checkpoint). Some x) (ends_one frames k k' p.0 q.0)

-- an image has one checkpoint
pub marked_one : (s : Setup) (image : Image) (m m' : Option Checkpoint) → IsMarked s image m → IsMarked s image m' → m ≡ m'
marked_one s image m m' p q =
    let same : p.frames ≡ q.frames = frames_unique (image checkpoint_file) p.frames q.frames p.has q.has in
    mark_one s q.frames m m' (subst (λ (fs : List (List Record)). HasMark s fs m) same p.mark_is) q.mark_is

pub content_one : (bytes : List ℕ) (n : ℕ) (c c' : Content) → HoldsContent bytes n c → HoldsContent bytes n c' → c ≡ c'
content_one bytes n c c' p q = p.content_is ∙ ap (λ (rs : List Record). foldrec (take n rs)) (log_unique bytes p.changes q.changes p.has q.has) ∙ sym q.content_is

-- and restores to one checkpoint and to one content of each store
pub restores_one : (s : Setup) (image : Image) (m m' : Option Checkpoint) (c c' : List Content) → Restores s image m c → Restores s image m' c' → (m ≡ m') × (c ≡ c')
restores_one s image m m' c c' p q =
    let same : m ≡ m' = marked_one s image m m' p.marked q.marked in (
      same,
      ext_get_or nothing_stored c c' (p.as_many ∙ sym q.as_many) (λ i lt.
          let within : i < length s.stores = omega (arith, lt, p.as_many) in
          content_one (image (changelog_file i)) (count_at m' i) (store_at c i) (store_at c' i)
          (subst (λ (k : Option Checkpoint). HoldsContent (image (changelog_file i)) (count_at k i) (store_at c i)) same (p.each_store i within))
          (q.each_store i within)),
    )
