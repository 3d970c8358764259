-- A log's room, and what passes the limit of its file.
use Rattle.std.proofs.Common.{ℕ, ◌≡◌, ◌≢◌, inr, List, [], ◌∷◌, ◌++◌, length, refl, ap, subst, arith, length-append}
use Rattle.samza_model.specs.declared.messages.Record.{Record}
use Rattle.samza_model.specs.Files.{Image}
use Rattle.samza_model.specs.Frames.{frame_bytes}
use Rattle.samza_model.specs.Logs.{spelled, HasFrames, ReadsAs}
use Rattle.log_frame.specs.Cuts.{IsCut}
use Rattle.log_frame.specs.Frame.{FrameView, AreFrames}
use Rattle.topic_log.specs.declared.logs.Log.{Log}
use Rattle.topic_log.specs.Opened.{size_of}
use Rattle.topic_log.specs.Growth.{HasRoom, LacksRoom, Passes, PassesBy}
use Rattle.topic_log.specs.Steps.{closed_frames}
use Rattle.topic_log.proofs.Laws.{open_reads, frames_unique}
use Rattle.restore_trim.specs.Standing.{IsOpenAt}
use Rattle.restore_trim.proofs.Cutting.{cut_unique}

-- each frame's bytes and one gate
pub frames_long : (frames : List FrameView) (lists : List (List Record)) → AreFrames frames lists → length (closed_frames frames) ≡ length (spelled lists)
frames_long [] [] are = refl
frames_long [] (l ∷ lists) are = absurd are
frames_long (f ∷ frames) [] are = absurd are
frames_long (f ∷ frames) (l ∷ lists) are =
    omega (arith, length-append (f.bytes ++ 0x43 ∷ []) (closed_frames frames), length-append f.bytes (0x43 ∷ []), length-append (0x4F ∷ frame_bytes l) (spelled lists), frames_long frames lists are.1, ap length are.0.bytes_are)

-- frames are some where their lists are
some_lists : (frames : List FrameView) (lists : List (List Record)) → AreFrames frames lists → frames ≢ [] → lists ≢ []
some_lists [] lists are some = absurd (some refl)
some_lists (f ∷ frames) [] are some = absurd are
some_lists (f ∷ frames) (l ∷ lists) are some = λ is. cc

some_of_lists : (frames : List FrameView) (lists : List (List Record)) → AreFrames frames lists → lists ≢ [] → frames ≢ []
some_of_lists [] [] are some = absurd (some refl)
some_of_lists [] (l ∷ lists) are some = absurd are
some_of_lists (f ∷ frames) lists are some = λ is. cc

-- a log that is open at a file
module _ (reads : Image) (images : Image → Type 0) (file : ℕ) (log : Log) (before : List (List Record)) (o : IsOpenAt reads images file log before) where
  -- the file has its frames
  pub open_has : HasFrames (reads file) before
  open_has = inr (subst (λ (f : ℕ). ReadsAs (reads f) before) o.file_is (open_reads reads images log before o.is_open))

  pub lacks_passes : (frames : List FrameView) (lists : List (List Record)) → AreFrames frames lists → LacksRoom (size_of log) frames → Passes (reads file) lists
  lacks_passes frames lists are lacks = record { had = before; has = open_has; some = some_lists frames lists are lacks.some; passes = omega (arith, lacks.passes, o.is_open.extent.gate, frames_long frames lists are) }

  pub has_passes : (frames : List FrameView) (lists : List (List Record)) → AreFrames frames lists → HasRoom (size_of log) frames → Passes (reads file) lists → ⊥
  has_passes frames lists are has by =
      let had = ap (λ (fs : List (List Record)). length (spelled fs)) (frames_unique (reads file) by.had before by.has open_has) in
      let room = has (some_of_lists frames lists are by.some) in
      absurd (omega (arith, room, by.passes, had, o.is_open.extent.gate, frames_long frames lists are))

  pub cut_passes : (most : ℕ) (records : List Record) (frames : List FrameView) (lists : List (List Record)) → IsCut most records lists → AreFrames frames lists
      → HasRoom (size_of log) frames → PassesBy (reads file) most records → ⊥
  cut_passes most records frames lists cut are has by =
      has_passes frames lists are has (subst (λ (ls : List (List Record)). Passes (reads file) ls) (cut_unique most records by.frames lists by.cut cut) by.passes)
