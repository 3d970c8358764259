-- What has been opened so far.
use Rattle.std.proofs.Common.{ℕ, ◌≡◌, ◌≢◌, ◌≤◌, ◌<◌, ◌+◌, inl, inr, List, [], ◌∷◌, ◌++◌, length, Option, sym, ◌∙◌, subst, arith}
use Rattle.std.proofs.lemmas.Bool.{cases_lt}
use Rattle.samza_model.specs.declared.messages.Record.{Record}
use Rattle.samza_model.specs.declared.checkpoints.Checkpoint.{Checkpoint}
use Rattle.samza_model.specs.Content.{Content}
use Rattle.samza_model.specs.Files.{Image, checkpoint_file, changelog_file, output_file}
use Rattle.disk_model.specs.declared.names.DiskName.{DiskName}
use Rattle.topic_log.specs.declared.logs.Log.{Log}
use Rattle.topic_log.specs.Opened.{file_of, IsOpen}
use Rattle.disk_model.specs.Images.{SameElsewhere}
use Rattle.samza_model.specs.Restored.{count_at}
use Rattle.restore_trim.specs.declared.faults.OpenFault.{OpenFault}
use Rattle.restore_trim.specs.Refused.{StoreOpens, StoresOpen, OutputsHold, WhyNoStore, WhyNoStores, WhyNoFile, WhyNoOutputs}
use Rattle.restore_trim.specs.Standing.{StandsAt, HoldsStore, HoldsStores, HoldsOutputs, SameFrom, SameOutside}
use Rattle.restore_trim.proofs.Logs.{stores_more, outputs_more}
use Rattle.restore_trim.proofs.Openings.{no_store_was, no_file_was, store_opened}

-- the count of faults and the name
pub record Goes {D : Type 0} (faults : D → ℕ) (name : D → DiskName) (old new : D) : Type 0 where
  pub later : faults old ≤ faults new
  pub named : name new ≡ name old

-- the first n stores are opened
pub record StoresSoFar {D : Type 0} (tells : Type 0) (reads : D → Image) (images : D → Image → Type 0) (old new : D) (mark : Option Checkpoint) (n : ℕ) (logs : List Log) (stores : List Content) : Type 0 where
  pub hold : tells → HoldsStores (reads old) (reads new) (images new) mark n logs stores
  pub opens : tells → StoresOpen (reads old) mark n
  pub behind : tells → SameFrom (changelog_file n) (reads old) (reads new)
  pub others : tells → (log : Log) (frames : List (List Record)) → file_of log ≡ checkpoint_file → IsOpen (reads old) (images old) log frames → IsOpen (reads new) (images new) log frames

-- the first n outputs are opened
pub record OutputsSoFar {D : Type 0} (tells : Type 0) (reads : D → Image) (images : D → Image → Type 0) (old new : D) (n : ℕ) (logs : List Log) : Type 0 where
  pub hold : tells → HoldsOutputs (reads old) (reads new) (images new) n logs
  pub elsewhere : tells → SameOutside (output_file 0) n (reads old) (reads new)
  pub others : tells → (log : Log) (frames : List (List Record)) → file_of log < output_file 0 → IsOpen (reads old) (images old) log frames → IsOpen (reads new) (images new) log frames

-- some item of a list that has one
pub item : {A : Type 0} (xs : List A) → 0 < length xs → A
item [] lt = absurd (omega arith)
item (x ∷ xs) lt = x

pub outputs_hold : (before reads : Image) (images : Image → Type 0) (n : ℕ) (logs : List Log) → HoldsOutputs before reads images n logs → OutputsHold before n
outputs_hold before reads images n logs h j lt =
    let some : 0 < length logs = subst (λ k. 0 < k) (sym h.logs_are) (omega arith) in
    let s = h.each j (item logs some) lt in
    (s.frames, s.had)

-- one store more can be opened
one_opens : (image : Image) (mark : Option Checkpoint) (n : ℕ) → StoresOpen image mark n → StoreOpens image n (count_at mark n) → StoresOpen image mark (n + 1)
one_opens image mark n before here i lt = elim (cases_lt i n) [
  | inl l ↦ before i l
  | inr ge ↦
      let e : n ≡ i = omega arith in
      subst (λ (k : ℕ). StoreOpens image k (count_at mark k)) e here
]

module _ {D : Type 0} (tells : Type 0) (reads : D → Image) (images : D → Image → Type 0) (old mid new : D) where
  pub stores_step : (mark : Option Checkpoint) (n : ℕ) (logs : List Log) (stores : List Content) (log : Log) (content : Content)
      → StoresSoFar tells reads images old mid mark n logs stores
      → (tells → HoldsStore (reads mid) (reads new) (images new) (changelog_file n) (count_at mark n) log content)
      → (tells → StoreOpens (reads mid) n (count_at mark n))
      → (tells → SameElsewhere (changelog_file n) (reads mid) (reads new))
      → (tells → (l : Log) (frames : List (List Record)) → file_of l ≢ changelog_file n → IsOpen (reads mid) (images mid) l frames → IsOpen (reads new) (images new) l frames)
      → StoresSoFar tells reads images old new mark (n + 1) (logs ++ log ∷ []) (stores ++ content ∷ [])
  stores_step mark n logs stores log content h one opens same stays = record {
    hold = λ told. stores_more (reads old) (reads mid) (reads new) (images mid) (images new) mark n logs stores log content (h.hold told) (h.behind told) (one told) (stays told);
    opens = λ told. one_opens (reads old) mark n (h.opens told) (store_opened (reads mid) (reads old) n (count_at mark n) (h.behind told (changelog_file n) (omega arith)) (opens told));
    behind = λ told f le. same told f (λ e. absurd (omega (arith, e))) ∙ h.behind told f (omega arith);
    others = λ told l frames zero o. stays told l frames (λ e. absurd (omega (arith, zero, e))) (h.others told l frames zero o);
  }

  pub outputs_step : (n : ℕ) (logs : List Log) (log : Log)
      → OutputsSoFar tells reads images old mid n logs
      → (tells → StandsAt (reads mid) (reads new) (images new) (output_file n) log)
      → (tells → SameElsewhere (output_file n) (reads mid) (reads new))
      → (tells → (l : Log) (frames : List (List Record)) → file_of l ≢ output_file n → IsOpen (reads mid) (images mid) l frames → IsOpen (reads new) (images new) l frames)
      → OutputsSoFar tells reads images old new (n + 1) (logs ++ log ∷ [])
  outputs_step n logs log h one same stays = record {
    hold = λ told. outputs_more (reads old) (reads mid) (reads new) (images mid) (images new) n logs log (h.hold told) (h.elsewhere told (output_file n) (inr (omega arith))) (one told) (stays told);
    elsewhere = λ told f out. elim out [
      | inl low ↦ same told f (λ e. absurd (omega (arith, low, e))) ∙ h.elsewhere told f (inl low)
      | inr high ↦ same told f (λ e. absurd (omega (arith, high, e))) ∙ h.elsewhere told f (inr (omega (arith, high)))
    ];
    others = λ told l frames below o. stays told l frames (λ e. absurd (omega (arith, below, e))) (h.others told l frames below o);
  }

module _ {D : Type 0} (tells : Type 0) (reads : D → Image) (images : D → Image → Type 0) (old mid : D) where
  pub store_refused : (mark : Option Checkpoint) (n i : ℕ) (logs : List Log) (stores : List Content) (e : OpenFault) → i < n
      → StoresSoFar tells reads images old mid mark i logs stores → (tells → WhyNoStore (reads mid) i (count_at mark i) e) → tells → WhyNoStores (reads old) mark n e
  store_refused mark n i logs stores e lt h why told = record {
    store = i;
    within = lt;
    before = h.opens told;
    why = no_store_was (reads mid) (reads old) i (count_at mark i) (h.behind told (changelog_file i) (omega arith)) e (why told);
  }

  pub output_refused : (n j : ℕ) (logs : List Log) (e : OpenFault) → j < n
      → OutputsSoFar tells reads images old mid j logs → (tells → WhyNoFile (reads mid) (output_file j) e) → tells → WhyNoOutputs (reads old) n e
  output_refused n j logs e lt h why told = record {
    output = j;
    within = lt;
    before = outputs_hold (reads old) (reads mid) (images mid) j logs (h.hold told);
    why = no_file_was (reads mid) (reads old) (output_file j) e (h.elsewhere told (output_file j) (inr (omega arith))) (why told);
  }
