-- A changelog of which the first records are counted, and what takes the others back.
use Rattle.std.proofs.Common.{ℕ, ◌≡◌, ◌<◌, ◌≤◌, List, [], ◌++◌, length, sym, ◌∙◌, ap, subst, arith}
use Rattle.std.proofs.lemmas.List.{append-nil, take_all}
use Rattle.samza_model.specs.declared.messages.Record.{Record}
use Rattle.samza_model.specs.Content.{Content, foldrec}
use Rattle.samza_model.specs.Files.{Image, changelog_file}
use Rattle.samza_model.specs.Limits.{frame_batch}
use Rattle.samza_model.specs.Logs.{joined}
use Rattle.kv_store.specs.Tracked.{records_of}
use Rattle.log_frame.specs.Cuts.{IsCut}
use Rattle.log_frame.specs.Frame.{FrameView, AreFrames}
use Rattle.topic_log.specs.declared.logs.Log.{Log}
use Rattle.topic_log.specs.Opened.{count_of, size_of}
use Rattle.topic_log.specs.Growth.{HasRoom, LacksRoom, PassesBy}
use Rattle.topic_log.proofs.Laws.{frames_unique, joined-append}
use Rattle.changelog.specs.Folds.{IsFold, reverts_of}
use Rattle.changelog.proofs.Laws.{foldrec-reverts_of, records_of-fold, reverts_of-none}
use Rattle.restore_trim.specs.Refused.{HasChanges, RevertPasses, StoreOpens}
use Rattle.restore_trim.specs.Standing.{HoldsStore, IsOpenAt}
use Rattle.restore_trim.proofs.Growing.{cut_passes, lacks_passes, open_has}

no_cut : (records : List Record) → records ≡ [] → IsCut frame_batch records []
no_cut records none = record { whole = sym none; each = tt; full = tt }

module _ (reads : Image) (images : Image → Type 0) (store count : ℕ) (log : Log) (frames : List (List Record))
    (o : IsOpenAt reads images (changelog_file store) log frames) (content : Content) (touched : List (List ℕ)) (fold : IsFold count (joined frames) content touched) where
  changes : HasChanges reads store (count_of log)
  changes = record { frames = frames; has = open_has reads images (changelog_file store) log frames o; held_is = o.is_open.extent.count }

  same_frames : (p : RevertPasses reads store count) → p.frames ≡ frames
  same_frames p = frames_unique (reads (changelog_file store)) p.frames frames p.has (open_has reads images (changelog_file store) log frames o)

  -- all records are counted
  module _ (all : count_of log ≡ count) where
    pub counted_holds : (reads' : Image) (images' : Image → Type 0) (log' : Log) → IsOpenAt reads' images' (changelog_file store) log' frames → HoldsStore reads reads' images' (changelog_file store) count log' content
    counted_holds reads' images' log' o' =
        let whole : count ≡ length (joined frames) = sym all ∙ o.is_open.extent.count in
        record {
          frames = frames;
          had = open_has reads images (changelog_file store) log frames o;
          enough = omega (arith, whole);
          content_is = fold.content_is;
          reverts = [];
          cut = no_cut (reverts_of count (joined frames)) (reverts_of-none count (joined frames) (omega (arith, whole)));
          is_open = subst (λ (fs : List (List Record)). IsOpenAt reads' images' (changelog_file store) log' fs) (sym (append-nil frames)) o';
          whole =
              fold.content_is ∙ ap foldrec (take_all count (joined frames) (omega (arith, whole)))
              ∙ ap (λ (fs : List (List Record)). foldrec (joined fs)) (sym (append-nil frames));
        }

    pub counted_opens : StoreOpens reads store count
    counted_opens = record {
      held = count_of log;
      has = changes;
      enough = omega (arith, all);
      room = λ p. absurd (omega (arith, all, o.is_open.extent.count, p.more, ap (λ (fs : List (List Record)). length (joined fs)) (same_frames p)));
    }

  -- there are more
  module _ (enough : count ≤ count_of log) (lists : List (List Record)) (cut : IsCut frame_batch (records_of content touched) lists) where
    cut_is : IsCut frame_batch (reverts_of count (joined frames)) lists
    cut_is = subst (λ (rs : List Record). IsCut frame_batch rs lists) (records_of-fold count (joined frames) content touched fold) cut

    pub taken_back : (reads' : Image) (images' : Image → Type 0) (log' : Log) → IsOpenAt reads' images' (changelog_file store) log' (frames ++ lists) → HoldsStore reads reads' images' (changelog_file store) count log' content
    taken_back reads' images' log' o' = record {
      frames = frames;
      had = open_has reads images (changelog_file store) log frames o;
      enough = omega (arith, enough, o.is_open.extent.count);
      content_is = fold.content_is;
      reverts = lists;
      cut = cut_is;
      is_open = o';
      whole = sym (
          ap foldrec (joined-append frames lists) ∙ ap (λ (rs : List Record). foldrec (joined frames ++ rs)) cut_is.whole
          ∙ foldrec-reverts_of count (joined frames) ∙ sym fold.content_is
          );
    }

    module _ (appended : List FrameView) (are : AreFrames appended lists) where
      pub taken_opens : HasRoom (size_of log) appended → StoreOpens reads store count
      taken_opens room = record {
        held = count_of log;
        has = changes;
        enough = enough;
        room = λ p.
            let same = ap (λ (fs : List (List Record)). reverts_of count (joined fs)) (same_frames p) in
            cut_passes reads images (changelog_file store) log frames o frame_batch (reverts_of count (joined frames)) appended lists cut_is are room
            (subst (λ (rs : List Record). PassesBy (reads (changelog_file store)) frame_batch rs) same p.passes);
      }

      pub lacks_room : count < count_of log → LacksRoom (size_of log) appended → RevertPasses reads store count
      lacks_room more lacks = record {
        frames = frames;
        has = open_has reads images (changelog_file store) log frames o;
        more = omega (arith, more, o.is_open.extent.count);
        passes = record { frames = lists; cut = cut_is; passes = lacks_passes reads images (changelog_file store) log frames o appended lists are lacks };
      }
