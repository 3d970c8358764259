-- One log more that is open on the disk, and the others stay open.
use Rattle.std.proofs.Common.{ℕ, ◌≡◌, ◌≢◌, ◌<◌, ◌≤◌, ◌+◌, List, [], ◌∷◌, ◌++◌, get_or, Option, sym, ◌∙◌, ap, subst, arith, ⊎_elim}
use Rattle.std.proofs.lemmas.List.{get_or_append_left, get_or_push, length_push}
use Rattle.std.proofs.lemmas.Bool.{cases_lt}
use Rattle.samza_model.specs.declared.messages.Record.{Record}
use Rattle.samza_model.specs.declared.checkpoints.Checkpoint.{Checkpoint}
use Rattle.samza_model.specs.Content.{Content, nothing_stored, store_at}
use Rattle.samza_model.specs.Files.{Image, changelog_file, output_file}
use Rattle.samza_model.specs.Logs.{HasFrames}
use Rattle.samza_model.specs.Restored.{count_at}
use Rattle.topic_log.specs.declared.logs.Log.{Log}
use Rattle.topic_log.specs.Opened.{file_of, IsOpen}
use Rattle.restore_trim.specs.Standing.{IsOpenAt, StandsAt, HoldsStore, HoldsStores, HoldsOutputs, SameFrom}

-- the file had the same frames before, and the log stays open
pub still_held : (before before' reads reads' : Image) (images images' : Image → Type 0) (file count : ℕ) (log : Log) (content : Content)
    → ((fs : List (List Record)) → HasFrames (before file) fs → HasFrames (before' file) fs)
    → (s : HoldsStore before reads images file count log content)
    → (IsOpenAt reads images file log (s.frames ++ s.reverts) → IsOpenAt reads' images' file log (s.frames ++ s.reverts))
    → HoldsStore before' reads' images' file count log content
still_held before before' reads reads' images images' file count log content had s keep = record {
  frames = s.frames;
  had = had s.frames s.had;
  enough = s.enough;
  content_is = s.content_is;
  reverts = s.reverts;
  cut = s.cut;
  is_open = keep s.is_open;
  whole = s.whole;
}

module _ (before reads reads' : Image) (images images' : Image → Type 0) (file : ℕ)
    (stays : (l : Log) (frames : List (List Record)) → file_of l ≢ file → IsOpen reads images l frames → IsOpen reads' images' l frames) where
  open_stays : (f : ℕ) (log : Log) (frames : List (List Record)) → f ≢ file → IsOpenAt reads images f log frames → IsOpenAt reads' images' f log frames
  open_stays f log frames ne o = record { file_is = o.file_is; sound = o.sound; is_open = stays log frames (λ e. ne (sym o.file_is ∙ e)) o.is_open }

  pub stands_on : (f : ℕ) (log : Log) → f ≢ file → StandsAt before reads images f log → StandsAt before reads' images' f log
  stands_on f log ne s = record { frames = s.frames; had = s.had; is_open = open_stays f log s.frames ne s.is_open }

  pub store_stays : (f count : ℕ) (log : Log) (content : Content) → f ≢ file → HoldsStore before reads images f count log content → HoldsStore before reads' images' f count log content
  store_stays f count log content ne s = still_held before before reads reads' images images' f count log content (λ fs h. h) s (open_stays f log (s.frames ++ s.reverts) ne)

pub store_was : (before reads reads' : Image) (images' : Image → Type 0) (file count : ℕ) (log : Log) (content : Content) → reads file ≡ before file
    → HoldsStore reads reads' images' file count log content → HoldsStore before reads' images' file count log content
store_was before reads reads' images' file count log content same s = still_held reads before reads' reads' images' images' file count log content (λ fs h. subst (λ b. HasFrames b fs) same h) s (λ o. o)

pub stands_was : (before reads reads' : Image) (images' : Image → Type 0) (file : ℕ) (log : Log) → reads file ≡ before file
    → StandsAt reads reads' images' file log → StandsAt before reads' images' file log
stands_was before reads reads' images' file log same s = record { frames = s.frames; had = subst (λ b. HasFrames b s.frames) same s.had; is_open = s.is_open }

pub stores_more : (before reads reads' : Image) (images images' : Image → Type 0) (mark : Option Checkpoint) (n : ℕ) (logs : List Log) (stores : List Content) (log : Log) (content : Content)
    → HoldsStores before reads images mark n logs stores → SameFrom (changelog_file n) before reads
    → HoldsStore reads reads' images' (changelog_file n) (count_at mark n) log content
    → ((l : Log) (frames : List (List Record)) → file_of l ≢ changelog_file n → IsOpen reads images l frames → IsOpen reads' images' l frames)
    → HoldsStores before reads' images' mark (n + 1) (logs ++ log ∷ []) (stores ++ content ∷ [])
stores_more before reads reads' images images' mark n logs stores log content h same new stays = record {
  logs_are = length_push logs log ∙ ap (λ k. k + 1) h.logs_are;
  stores_are = length_push stores content ∙ ap (λ k. k + 1) h.stores_are;
  each = λ i d lt. ⊎_elim
      (λ (l : i < n).
      let here : HoldsStore before reads' images' (changelog_file i) (count_at mark i) (get_or logs i d) (store_at stores i) =
      store_stays before reads reads' images images' (changelog_file n) stays (changelog_file i) (count_at mark i) (get_or logs i d) (store_at stores i) (omega arith) (h.each i d l) in
      let one = get_or_append_left logs (log ∷ []) d i (subst (λ k. i < k) (sym h.logs_are) l) in
      let two = get_or_append_left stores (content ∷ []) nothing_stored i (subst (λ k. i < k) (sym h.stores_are) l) in
      subst (λ (x : Log). HoldsStore before reads' images' (changelog_file i) (count_at mark i) x (store_at (stores ++ content ∷ []) i)) (sym one)
      (subst (λ (x : Content). HoldsStore before reads' images' (changelog_file i) (count_at mark i) (get_or logs i d) x) (sym two) here))
      (λ (ge : n ≤ i).
      let e : n ≡ i = omega arith in
      let here : HoldsStore before reads' images' (changelog_file n) (count_at mark n) log content = store_was before reads reads' images' (changelog_file n) (count_at mark n) log content (same (changelog_file n) (omega arith)) new in
      let one = get_or_push logs log d n h.logs_are in
      let two = get_or_push stores content nothing_stored n h.stores_are in
      subst (λ (k : ℕ). HoldsStore before reads' images' (changelog_file k) (count_at mark k) (get_or (logs ++ log ∷ []) k d) (store_at (stores ++ content ∷ []) k)) e
      (subst (λ (x : Log). HoldsStore before reads' images' (changelog_file n) (count_at mark n) x (store_at (stores ++ content ∷ []) n)) (sym one)
      (subst (λ (x : Content). HoldsStore before reads' images' (changelog_file n) (count_at mark n) log x) (sym two) here)))
      (cases_lt i n);
}

pub outputs_more : (before reads reads' : Image) (images images' : Image → Type 0) (n : ℕ) (logs : List Log) (log : Log)
    → HoldsOutputs before reads images n logs → reads (output_file n) ≡ before (output_file n)
    → StandsAt reads reads' images' (output_file n) log
    → ((l : Log) (frames : List (List Record)) → file_of l ≢ output_file n → IsOpen reads images l frames → IsOpen reads' images' l frames)
    → HoldsOutputs before reads' images' (n + 1) (logs ++ log ∷ [])
outputs_more before reads reads' images images' n logs log h same new stays = record {
  logs_are = length_push logs log ∙ ap (λ k. k + 1) h.logs_are;
  each = λ j d lt. ⊎_elim
      (λ (l : j < n).
      let here : StandsAt before reads' images' (output_file j) (get_or logs j d) =
      stands_on before reads reads' images images' (output_file n) stays (output_file j) (get_or logs j d) (omega arith) (h.each j d l) in
      let one = get_or_append_left logs (log ∷ []) d j (subst (λ k. j < k) (sym h.logs_are) l) in
      subst (λ (x : Log). StandsAt before reads' images' (output_file j) x) (sym one) here)
      (λ (ge : n ≤ j).
      let e : n ≡ j = omega arith in
      let here : StandsAt before reads' images' (output_file n) log = stands_was before reads reads' images' (output_file n) log same new in
      let one = get_or_push logs log d n h.logs_are in
      subst (λ (k : ℕ). StandsAt before reads' images' (output_file k) (get_or (logs ++ log ∷ []) k d)) e
      (subst (λ (x : Log). StandsAt before reads' images' (output_file n) x) (sym one) here))
      (cases_lt j n);
}
