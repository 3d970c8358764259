-- The parts of a task that were opened one after another, told of its files as they were before.
use Rattle.std.proofs.Common.{ℕ, ◌≡◌, ◌<◌, ◌≤◌, List, ◌++◌, length, get_or, Option, ◌∙◌, subst, arith}
use Rattle.samza_model.specs.declared.messages.Record.{Record}
use Rattle.samza_model.specs.declared.checkpoints.Checkpoint.{Checkpoint}
use Rattle.samza_model.specs.declared.setups.Setup.{Setup}
use Rattle.samza_model.specs.Content.{Content, store_at}
use Rattle.samza_model.specs.Files.{Image, checkpoint_file, changelog_file, output_file}
use Rattle.samza_model.specs.Logs.{HasFrames}
use Rattle.samza_model.specs.Restored.{count_at, IsMarked}
use Rattle.disk_model.specs.Images.{SameElsewhere}
use Rattle.topic_log.specs.declared.logs.Log.{Log}
use Rattle.topic_log.specs.Opened.{file_of, IsOpen}
use Rattle.restore_trim.specs.declared.faults.OpenFault.{OpenFault}
use Rattle.restore_trim.specs.Refused.{StoresOpen, WhyNoStores, WhyNoOutputs, StoresRefused}
use Rattle.restore_trim.specs.Standing.{IsOpenAt, HoldsMark, HoldsStores, HoldsOutputs, SameFrom}
use Rattle.restore_trim.proofs.Logs.{still_held, stands_was}
use Rattle.restore_trim.proofs.Openings.{no_store_was, no_file_was, store_opened}

-- a log that stays open at its file
pub open_kept : (reads reads' : Image) (images images' : Image → Type 0) (f : ℕ) (log : Log) (frames : List (List Record))
    → ((l : Log) (fs : List (List Record)) → file_of l ≡ f → IsOpen reads images l fs → IsOpen reads' images' l fs)
    → IsOpenAt reads images f log frames → IsOpenAt reads' images' f log frames
open_kept reads reads' images images' f log frames keep o = record { file_is = o.file_is; sound = o.sound; is_open = keep log frames o.file_is o.is_open }

pub marked : (s : Setup) (before reads : Image) (images : Image → Type 0) (log : Log) (mark : Option Checkpoint) → HoldsMark s before reads images log mark → IsMarked s before mark
marked s before reads images log mark h = record { frames = h.frames; has = h.had; mark_is = h.mark_is }

pub opens_were : (r0 r1 : Image) (mark : Option Checkpoint) (n : ℕ) → SameElsewhere checkpoint_file r0 r1 → StoresOpen r1 mark n → StoresOpen r0 mark n
opens_were r0 r1 mark n same h i lt = store_opened r1 r0 i (count_at mark i) (same (changelog_file i) (λ e. absurd (omega (arith, e)))) (h i lt)

pub stores_refused : (s : Setup) (r0 r1 : Image) (i1 : Image → Type 0) (marks : Log) (mark : Option Checkpoint) (e : OpenFault)
    → HoldsMark s r0 r1 i1 marks mark → SameElsewhere checkpoint_file r0 r1 → WhyNoStores r1 mark (length s.stores) e → StoresRefused s r0 e
stores_refused s r0 r1 i1 marks mark e h same why = record {
  mark = mark;
  marked = marked s r0 r1 i1 marks mark h;
  why = record {
    store = why.store;
    within = why.within;
    before = opens_were r0 r1 mark why.store same why.before;
    why = no_store_was r1 r0 why.store (count_at mark why.store) (same (changelog_file why.store) (λ q. absurd (omega (arith, q)))) e why.why;
  };
}

module _ (s : Setup) (r0 r1 r2 : Image) (i1 i2 : Image → Type 0) (marks : Log) (mark : Option Checkpoint) (n : ℕ) (changelogs : List Log) (stores : List Content)
    (few : n ≤ 8) (h : HoldsMark s r0 r1 i1 marks mark) (same : SameElsewhere checkpoint_file r0 r1)
    (hs : HoldsStores r1 r2 i2 mark n changelogs stores) (behind : SameFrom (changelog_file n) r1 r2) where
  output_same : (j : ℕ) → r2 (output_file j) ≡ r0 (output_file j)
  output_same j = behind (output_file j) (omega (arith, few)) ∙ same (output_file j) (λ q. absurd (omega (arith, q)))

  pub outputs_refused : (m : ℕ) (e : OpenFault) → WhyNoOutputs r2 m e → WhyNoOutputs r0 m e
  outputs_refused m e why = record {
    output = why.output;
    within = why.within;
    before = λ j lt. ((why.before j lt).0, subst (λ b. HasFrames b (why.before j lt).0) (output_same j) (why.before j lt).1);
    why = no_file_was r2 r0 (output_file why.output) e (output_same why.output) why.why;
  }

  module _ (r3 : Image) (i3 : Image → Type 0) (m : ℕ) (outputs : List Log) (ho : HoldsOutputs r2 r3 i3 m outputs)
      (keeps : (l : Log) (fs : List (List Record)) → file_of l ≡ checkpoint_file → IsOpen r1 i1 l fs → IsOpen r2 i2 l fs)
      (keeps' : (l : Log) (fs : List (List Record)) → file_of l < output_file 0 → IsOpen r2 i2 l fs → IsOpen r3 i3 l fs) where
    pub mark_whole : HoldsMark s r0 r3 i3 marks mark
    mark_whole = record {
      frames = h.frames;
      had = h.had;
      is_open = open_kept r1 r3 i1 i3 checkpoint_file marks h.frames (λ l fs at o. keeps' l fs (omega (arith, at)) (keeps l fs at o)) h.is_open;
      mark_is = h.mark_is;
    }

    pub stores_whole : HoldsStores r0 r3 i3 mark n changelogs stores
    stores_whole = record {
      logs_are = hs.logs_are;
      stores_are = hs.stores_are;
      each = λ i d lt.
          let file_low : changelog_file i < output_file 0 = omega (arith, few, lt) in
          let log = get_or changelogs i d in
          let s1 = hs.each i d lt in
          still_held r1 r0 r2 r3 i2 i3 (changelog_file i) (count_at mark i) log (store_at stores i)
          (λ fs has. subst (λ b. HasFrames b fs) (same (changelog_file i) (λ q. absurd (omega (arith, q)))) has) s1
          (open_kept r2 r3 i2 i3 (changelog_file i) log (s1.frames ++ s1.reverts) (λ l fs at o. keeps' l fs (omega (arith, at, file_low)) o));
    }

    pub outputs_whole : HoldsOutputs r0 r3 i3 m outputs
    outputs_whole = record {
      logs_are = ho.logs_are;
      each = λ j d lt. stands_was r0 r2 r3 i3 (output_file j) (get_or outputs j d) (output_same j) (ho.each j d lt);
    }
