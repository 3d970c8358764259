-- Two causes not to open a task, other than the device and want of memory, are one.
use Rattle.std.proofs.Common.{ℕ, ◌≡◌, ◌≢◌, ◌<◌, ◌⊎◌, List, ◌++◌, ◌∷◌, [], length, Option, Some, None, inl, inr, refl, sym, subst, ap, ◌∙◌, arith}
use Rattle.std.proofs.lemmas.Bool.{cases_lt}
use Rattle.std.proofs.lemmas.List.{same_from_push}
use Rattle.samza_model.specs.declared.messages.Record.{Record}
use Rattle.samza_model.specs.declared.checkpoints.Checkpoint.{Checkpoint}
use Rattle.samza_model.specs.declared.setups.Setup.{Setup}
use Rattle.samza_model.specs.Files.{Image, checkpoint_file, changelog_file, output_file}
use Rattle.samza_model.specs.Logs.{joined, spelled}
use Rattle.samza_model.specs.Partition.{partition_of, end_of}
use Rattle.samza_model.specs.Restored.{count_at, next_at, EndsWith}
use Rattle.topic_log.specs.Damage.{IsDamagedAt}
use Rattle.topic_log.proofs.Laws.{damage_unique, damaged_once, frames_unique, log_unique}
use Rattle.restore_trim.specs.declared.faults.OpenFault.{OpenFault}
use Rattle.restore_trim.specs.declared.faults.OpenFault.TheVariants.{Device, Damaged, Shape, Ahead, Limit, NoMemory}
use Rattle.restore_trim.specs.Refused.{EndsBadly, HasChanges, HasOtherNames, OutputsRefused, RevertPasses, StoresRefused, WhyNoFile, WhyNoMark, WhyNoStore, WhyRefused}
use Rattle.unit_opening.specs.Inputs.{WhyNoInput, input_of}
use Rattle.unit_opening.specs.Refused.{InputRefused, IsPastEnd, WhyNotOpened}
use Rattle.restore_trim.proofs.Shared.{marked_one}
use Rattle.unit_opening.proofs.Exact.{changes_one, has_file, has_input, has_mark, has_store, has_stores, not_refused}

-- a fault that is one of these two is free of a cause
record IsOther (e : OpenFault) : Type 0 where
  device : e ≢ Device
  memory : e ≢ NoMemory

-- bytes that are no log, told as the damage of a file
record IsDamage (input : Option ℕ) (file : ℕ) (bytes : List ℕ) (e : OpenFault) : Type 0 where
  at : ℕ
  damaged : IsDamagedAt bytes at
  is : e ≡ Damaged input file at

one_damage : (input : Option ℕ) (file : ℕ) (bytes : List ℕ) (e e' : OpenFault) → IsDamage input file bytes e → IsDamage input file bytes e' → e ≡ e'
one_damage input file bytes e e' p q = p.is ∙ ap (λ at. Damaged input file at) (damage_unique bytes p.at q.at p.damaged q.damaged) ∙ sym q.is

file_cause : (image : Image) (file : ℕ) (e : OpenFault) → IsOther e → WhyNoFile image file e → IsDamage None file (image file) e
file_cause image file Device other why = absurd (other.device refl)
file_cause image file (Damaged None f at) other why = record { at = at; damaged = why.1.0; is = ap (λ n. Damaged None n at) why.0 }
file_cause image file (Damaged (Some i) f at) other why = absurd why
file_cause image file Shape other why = absurd why
file_cause image file (Ahead i n wanted held) other why = absurd why
file_cause image file Limit other why = absurd why
file_cause image file NoMemory other why = absurd (other.memory refl)

-- there is no checkpoint to be had
data MarkCause (s : Setup) (image : Image) (e : OpenFault) : Type 0 where
  no_log : IsDamage None checkpoint_file (image checkpoint_file) e → MarkCause s image e
  bad_end : (at : ℕ) → EndsBadly image at → e ≡ Damaged None checkpoint_file at → MarkCause s image e
  others : HasOtherNames s image → e ≡ Shape → MarkCause s image e

mark_cause : (s : Setup) (image : Image) (e : OpenFault) → IsOther e → WhyNoMark s image e → MarkCause s image e
mark_cause s image Device other why = absurd (other.device refl)
mark_cause s image (Damaged None f at) other why =
    let is : Damaged None f at ≡ Damaged None checkpoint_file at = ap (λ n. Damaged None n at) why.0 in
    elim why.1 [
      | inl none ↦ no_log (record { at = at; damaged = none.0; is = is })
      | inr bad ↦ bad_end at bad is
    ]
mark_cause s image (Damaged (Some i) f at) other why = absurd why
mark_cause s image Shape other why = others why refl
mark_cause s image (Ahead i n wanted held) other why = absurd why
mark_cause s image Limit other why = absurd why
mark_cause s image NoMemory other why = absurd (other.memory refl)

-- frames end badly at one place
one_end : (image : Image) (m n : ℕ) → EndsBadly image m → EndsBadly image n → m ≡ n
one_end image m n p q =
    let same : p.bad.before ++ p.bad.last ∷ [] ≡ q.bad.before ++ q.bad.last ∷ [] = sym p.bad.split ∙ frames_unique (image checkpoint_file) p.frames q.frames p.has q.has ∙ q.bad.split in
    let front : p.bad.before ≡ q.bad.before = (same_from_push p.bad.before q.bad.before p.bad.last q.bad.last same).0 in
    omega (arith, p.bad.at_is, q.bad.at_is, ap (λ (fs : List (List Record)). length (spelled fs)) front)

bad_or_other : (s : Setup) (image : Image) (at : ℕ) → EndsBadly image at → HasOtherNames s image → ⊥
bad_or_other s image at p q =
    let same : q.frames ≡ p.frames = frames_unique (image checkpoint_file) q.frames p.frames q.has p.has in
    p.bad.bad q.mark (subst (λ (fs : List (List Record)). EndsWith fs q.mark) same q.ends)

module _ (s : Setup) (image : Image) (e e' : OpenFault) where
  one_mark : MarkCause s image e → MarkCause s image e' → e ≡ e'
  one_mark (no_log p) (no_log q) = one_damage None checkpoint_file (image checkpoint_file) e e' p q
  one_mark (no_log p) (bad_end at q is) = absurd (damaged_once (image checkpoint_file) p.at q.frames p.damaged q.has)
  one_mark (no_log p) (others q is) = absurd (damaged_once (image checkpoint_file) p.at q.frames p.damaged q.has)
  one_mark (bad_end at p is) (no_log q) = absurd (damaged_once (image checkpoint_file) q.at p.frames q.damaged p.has)
  one_mark (bad_end at p is) (bad_end at' q is') = is ∙ ap (λ n. Damaged None checkpoint_file n) (one_end image at at' p q) ∙ sym is'
  one_mark (bad_end at p is) (others q is') = absurd (bad_or_other s image at p q)
  one_mark (others p is) (no_log q) = absurd (damaged_once (image checkpoint_file) q.at p.frames q.damaged p.has)
  one_mark (others p is) (bad_end at q is') = absurd (bad_or_other s image at q p)
  one_mark (others p is) (others q is') = is ∙ sym is'

-- a store isn't opened
data StoreCause (image : Image) (store count : ℕ) (e : OpenFault) : Type 0 where
  no_log : IsDamage None (changelog_file store) (image (changelog_file store)) e → StoreCause image store count e
  fewer : (held : ℕ) → HasChanges image store held → held < count → e ≡ Ahead None (Some store) count held → StoreCause image store count e
  full : RevertPasses image store count → e ≡ Limit → StoreCause image store count e

store_cause : (image : Image) (store count : ℕ) (e : OpenFault) → IsOther e → WhyNoStore image store count e → StoreCause image store count e
store_cause image store count Device other why = absurd (other.device refl)
store_cause image store count (Damaged None f at) other why = no_log (record { at = at; damaged = why.1.0; is = ap (λ n. Damaged None n at) why.0 })
store_cause image store count (Damaged (Some i) f at) other why = absurd why
store_cause image store count Shape other why = absurd why
store_cause image store count (Ahead None None wanted held) other why = absurd why
store_cause image store count (Ahead None (Some n) wanted held) other why =
    fewer held why.2 (subst (λ w. held < w) why.1 why.3) (ap (λ k. Ahead None (Some k) wanted held) why.0 ∙ ap (λ w. Ahead None (Some store) w held) why.1)
store_cause image store count (Ahead (Some i) n wanted held) other why = absurd why
store_cause image store count Limit other why = full why refl
store_cause image store count NoMemory other why = absurd (other.memory refl)

module _ (image : Image) (store count : ℕ) (e e' : OpenFault) where
  log_has : IsDamage None (changelog_file store) (image (changelog_file store)) e → (held : ℕ) → HasChanges image store held → ⊥
  log_has p held has = damaged_once (image (changelog_file store)) p.at has.frames p.damaged has.has

  log_has' : IsDamage None (changelog_file store) (image (changelog_file store)) e' → (held : ℕ) → HasChanges image store held → ⊥
  log_has' p held has = damaged_once (image (changelog_file store)) p.at has.frames p.damaged has.has

  -- a changelog has not both fewer records than counted and more
  fewer_or_more : (held : ℕ) → HasChanges image store held → held < count → RevertPasses image store count → ⊥
  fewer_or_more held has lt by =
      let more : HasChanges image store (length (joined by.frames)) = record { frames = by.frames; has = by.has; held_is = refl } in
      absurd (omega (arith, changes_one image store held (length (joined by.frames)) has more, lt, by.more))

  one_store : StoreCause image store count e → StoreCause image store count e' → e ≡ e'
  one_store (no_log p) (no_log q) = one_damage None (changelog_file store) (image (changelog_file store)) e e' p q
  one_store (no_log p) (fewer held has lt is) = absurd (log_has p held has)
  one_store (no_log p) (full by is) = absurd (damaged_once (image (changelog_file store)) p.at by.frames p.damaged by.has)
  one_store (fewer held has lt is) (no_log q) = absurd (log_has' q held has)
  one_store (fewer held has lt is) (fewer held' has' lt' is') = is ∙ ap (λ n. Ahead None (Some store) count n) (changes_one image store held held' has has') ∙ sym is'
  one_store (fewer held has lt is) (full by is') = absurd (fewer_or_more held has lt by)
  one_store (full by is) (no_log q) = absurd (damaged_once (image (changelog_file store)) q.at by.frames q.damaged by.has)
  one_store (full by is) (fewer held has lt is') = absurd (fewer_or_more held has lt by)
  one_store (full by is) (full by' is') = is ∙ sym is'

-- two numbers of which neither is below the other are one
neither : (a b : ℕ) → (a < b → ⊥) → (b < a → ⊥) → a ≡ b
neither a b low high = elim (cases_lt a b) [
  | inl lt ↦ absurd (low lt)
  | inr le ↦ elim (cases_lt b a) [ inl lt ↦ absurd (high lt) | inr ge ↦ omega arith ]
]

-- the store of one refusal isn't below that of another
stores_in_order : (s : Setup) (image : Image) (e e' : OpenFault) → IsOther e → (p : StoresRefused s image e) (q : StoresRefused s image e') → p.why.store < q.why.store → ⊥
stores_in_order s image e e' other p q lt =
    let i = p.why.store in
    let same : p.mark ≡ q.mark = marked_one s image p.mark q.mark p.marked q.marked in
    has_store image i (count_at q.mark i) e other.device other.memory (q.why.before i lt) (subst (λ (k : Option Checkpoint). WhyNoStore image i (count_at k i) e) same p.why.why)

one_stores : (s : Setup) (image : Image) (e e' : OpenFault) → IsOther e → IsOther e' → StoresRefused s image e → StoresRefused s image e' → e ≡ e'
one_stores s image e e' other other' p q =
    let i = q.why.store in
    let marks : p.mark ≡ q.mark = marked_one s image p.mark q.mark p.marked q.marked in
    let same : p.why.store ≡ i = neither p.why.store i (stores_in_order s image e e' other p q) (stores_in_order s image e' e other' q p) in
    let why : WhyNoStore image i (count_at q.mark i) e =
    subst (λ (k : Option Checkpoint). WhyNoStore image i (count_at k i) e) marks (subst (λ n. WhyNoStore image n (count_at p.mark n) e) same p.why.why) in
    one_store image i (count_at q.mark i) e e' (store_cause image i (count_at q.mark i) e other why) (store_cause image i (count_at q.mark i) e' other' q.why.why)

-- the output of one refusal isn't below that of another
outputs_in_order : (s : Setup) (image : Image) (e e' : OpenFault) → IsOther e → (p : OutputsRefused s image e) (q : OutputsRefused s image e') → p.why.output < q.why.output → ⊥
outputs_in_order s image e e' other p q lt =
    let log = q.why.before p.why.output lt in
    has_file image (output_file p.why.output) log.0 e other.device other.memory log.1 p.why.why

one_outputs : (s : Setup) (image : Image) (e e' : OpenFault) → IsOther e → IsOther e' → OutputsRefused s image e → OutputsRefused s image e' → e ≡ e'
one_outputs s image e e' other other' p q =
    let j = q.why.output in
    let same : p.why.output ≡ j = neither p.why.output j (outputs_in_order s image e e' other p q) (outputs_in_order s image e' e other' q p) in
    one_damage None (output_file j) (image (output_file j)) e e'
    (file_cause image (output_file j) e other (subst (λ n. WhyNoFile image (output_file n) e) same p.why.why))
    (file_cause image (output_file j) e' other' q.why.why)

-- the checkpoint comes before the stores, and these before the outputs
module _ (s : Setup) (image : Image) (e e' : OpenFault) (other : IsOther e) where
  mark_first : WhyNoMark s image e → StoresRefused s image e' ⊎ OutputsRefused s image e' → ⊥
  mark_first why (inl q) = has_mark s image q.mark q.marked e other.device other.memory why
  mark_first why (inr q) = has_mark s image q.mark q.marked e other.device other.memory why

  stores_first : StoresRefused s image e → OutputsRefused s image e' → ⊥
  stores_first p q = has_stores s image q.mark e other.device other.memory q.marked q.stores p

one_refusal : (s : Setup) (image : Image) (e e' : OpenFault) → IsOther e → IsOther e' → WhyRefused s image e → WhyRefused s image e' → e ≡ e'
one_refusal s image e e' other other' (inl p) (inl q) = one_mark s image e e' (mark_cause s image e other p) (mark_cause s image e' other' q)
one_refusal s image e e' other other' (inl p) (inr q) = absurd (mark_first s image e e' other p q)
one_refusal s image e e' other other' (inr p) (inl q) = absurd (mark_first s image e' e other' q p)
one_refusal s image e e' other other' (inr (inl p)) (inr (inl q)) = one_stores s image e e' other other' p q
one_refusal s image e e' other other' (inr (inl p)) (inr (inr q)) = absurd (stores_first s image e e' other p q)
one_refusal s image e e' other other' (inr (inr p)) (inr (inl q)) = absurd (stores_first s image e' e other' q p)
one_refusal s image e e' other other' (inr (inr p)) (inr (inr q)) = one_outputs s image e e' other other' p q

module _ (tells told : Type 0) (shown : tells) (read : told) (s : Setup) (image : Image) (bytes : List ℕ) where
  input_cause : (e : OpenFault) → IsOther e → WhyNoInput told bytes (input_of s).ssp.partition e → IsDamage (Some 0) (input_of s).ssp.partition bytes e
  input_cause Device other why = absurd (other.device refl)
  input_cause (Damaged i f at) other why = record {
    at = at;
    damaged = (why.2 read).0;
    is = ap (λ k. Damaged k f at) why.0 ∙ ap (λ n. Damaged (Some 0) n at) why.1;
  }
  input_cause Shape other why = absurd why
  input_cause (Ahead i n wanted held) other why = absurd why
  input_cause Limit other why = absurd why
  input_cause NoMemory other why = absurd (other.memory refl)

  one_past : (e e' : OpenFault) → IsPastEnd tells told s image bytes e → IsPastEnd tells told s image bytes e' → e ≡ e'
  one_past e e' p q =
      let marks : p.mark ≡ q.mark = marked_one s image p.mark q.mark (p.hold shown).restores.marked (q.hold shown).restores.marked in
      let kept : Some p.next ≡ Some q.next = sym p.kept ∙ ap (λ (m : Option Checkpoint). next_at m 0) marks ∙ q.kept in
      let next : p.next ≡ q.next = cc kept in
      let ends : end_of (partition_of p.records) ≡ end_of (partition_of q.records) = ap (λ (rs : List Record). end_of (partition_of rs)) (log_unique bytes p.records q.records (p.read read) (q.read read)) in
      p.fault ∙ ap (λ n. Ahead (Some 0) None n (end_of (partition_of p.records))) next ∙ ap (λ n. Ahead (Some 0) None q.next n) ends ∙ sym q.fault

  -- the input comes before the offset kept of it
  input_first : (e e' : OpenFault) → IsOther e → InputRefused tells told s image bytes e → IsPastEnd tells told s image bytes e' → ⊥
  input_first e e' other p q = has_input told bytes (input_of s).ssp.partition q.records e read other.device other.memory (q.read read) p.why

  one_behind : (e e' : OpenFault) → IsOther e → IsOther e' → InputRefused tells told s image bytes e ⊎ IsPastEnd tells told s image bytes e
      → InputRefused tells told s image bytes e' ⊎ IsPastEnd tells told s image bytes e' → e ≡ e'
  one_behind e e' other other' (inl p) (inl q) = one_damage (Some 0) (input_of s).ssp.partition bytes e e' (input_cause e other p.why) (input_cause e' other' q.why)
  one_behind e e' other other' (inl p) (inr q) = absurd (input_first e e' other p q)
  one_behind e e' other other' (inr p) (inl q) = absurd (input_first e' e other' q p)
  one_behind e e' other other' (inr p) (inr q) = one_past e e' p q

  -- the task's own files come before both
  files_first : (e e' : OpenFault) → IsOther e → WhyRefused s image e → InputRefused tells told s image bytes e' ⊎ IsPastEnd tells told s image bytes e' → ⊥
  files_first e e' other why (inl q) = not_refused s image q.mark e other.device other.memory (q.hold shown) why
  files_first e e' other why (inr q) = not_refused s image q.mark e other.device other.memory (q.hold shown) why

  one_of : (e e' : OpenFault) → IsOther e → IsOther e' → WhyNotOpened tells told s image bytes e → WhyNotOpened tells told s image bytes e' → e ≡ e'
  one_of e e' other other' (inl p) (inl q) = one_refusal s image e e' other other' (p shown) (q shown)
  one_of e e' other other' (inl p) (inr q) = absurd (files_first e e' other (p shown) q)
  one_of e e' other other' (inr p) (inl q) = absurd (files_first e' e other' (q shown) p)
  one_of e e' other other' (inr p) (inr q) = one_behind e e' other other' p q

pub one_cause : (tells told : Type 0) (s : Setup) (image : Image) (bytes : List ℕ) (e e' : OpenFault) → tells → told
    → e ≢ Device → e ≢ NoMemory → e' ≢ Device → e' ≢ NoMemory → WhyNotOpened tells told s image bytes e → WhyNotOpened tells told s image bytes e' → e ≡ e'
one_cause tells told s image bytes e e' shown read device memory device' memory' =
    one_of tells told shown read s image bytes e e' (record { device = device; memory = memory }) (record { device = device'; memory = memory' })
