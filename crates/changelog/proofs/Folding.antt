-- A changelog that is read batch by batch.
use Rattle.std.proofs.Common.{ℕ, ◌≡◌, ◌≤◌, List, [], ◌∷◌, ◌++◌, length, take, drop, refl, sym, ◌∙◌, ap, subst, arith}
use Rattle.std.specs.List.{AllByRecursion}
use Rattle.samza_model.specs.declared.messages.Record.{Record}
use Rattle.samza_model.specs.Content.{Content}
use Rattle.samza_model.specs.Files.{Image}
use Rattle.samza_model.specs.Limits.{IsWithinLimits}
use Rattle.samza_model.specs.Logs.{joined}
use Rattle.kv_store.specs.Tracked.{AreWithinLimits}
use Rattle.topic_log.specs.declared.batches.Batches.{Batches}
use Rattle.topic_log.specs.declared.logs.Log.{Log}
use Rattle.topic_log.specs.Batches.{AreOf, AreUnread, HasBatches}
use Rattle.topic_log.specs.Moves.{Rests}
use Rattle.topic_log.specs.Opened.{IsOpen}
use Rattle.topic_log.proofs.Laws.{rests_then, joined-push, all_append}
use Rattle.changelog.specs.declared.folds.Fold.{Fold}
use Rattle.changelog.specs.Folds.{IsFold}
use Rattle.changelog.specs.Reading.{HasRead}
use Rattle.changelog.proofs.Reverting.{within-take, within-drop, within-foldrec, short-keys_of}

-- the records are those of the batches that were read
pub record ReadTo (reads : Image) (images : Image → Type 0) (log : Log) (batches : Batches) (frames : List (List Record)) (records : List Record) : Type 0 where
  pub before : List (List Record)
  pub has : HasBatches reads images log batches frames before
  pub records_are : records ≡ joined before

-- what holds before each batch
pub record Folding {D N : Type 0} (tells : Type 0) (reads : D → Image) (number : D → ℕ) (images : D → Image → Type 0) (since : D → ℕ → Image → Type 0) (faults : D → ℕ) (name : D → N) (first now : D) (old log : Log) (batches : Batches) (count : ℕ) (fold : Fold) : Type 0 where
  pub same : log ≡ old
  pub of : AreOf log batches
  pub rests : tells → Rests reads number images since first now
  pub reads_are : tells → reads now ≡ reads first
  pub others : tells → (l : Log) (frames : List (List Record)) → IsOpen (reads first) (images first) l frames → IsOpen (reads now) (images now) l frames
  pub read : List Record
  pub has_read : HasRead count read fold
  pub within : AllByRecursion IsWithinLimits read
  pub so_far : tells → (frames : List (List Record)) → IsOpen (reads first) (images first) old frames → ReadTo (reads now) (images now) log batches frames read
  pub later : faults first ≤ faults now
  pub named : name now ≡ name first

module _ {D N : Type 0} (tells : Type 0) (reads : D → Image) (number : D → ℕ) (images : D → Image → Type 0) (since : D → ℕ → Image → Type 0) (faults : D → ℕ) (name : D → N) (first : D) (old : Log) (count : ℕ) where
  pub folding_none : (log : Log) (batches : Batches) (fold : Fold) → log ≡ old → AreOf log batches → AreUnread batches → HasRead count [] fold → (tells → Rests reads number images since first first)
      → Folding tells reads number images since faults name first first old log batches count fold
  folding_none log batches fold same of unread none rests = record {
    same = same;
    of = of;
    rests = rests;
    reads_are = λ told. refl;
    others = λ told l frames h. h;
    read = [];
    has_read = none;
    within = tt;
    so_far = λ told frames h. record {
      before = [];
      has = record {
        place = record { opened = subst (λ (l : Log). IsOpen (reads first) (images first) l frames) (sym same) h; stands = unread.stands frames };
        shows = unread.shows (reads first log.file);
      };
      records_are = refl;
    };
    later = omega arith;
    named = refl;
  }

  module _ (now : D) (log : Log) (batches : Batches) (fold : Fold) (f : Folding tells reads number images since faults name first now old log batches count fold) where
    pub folding_more : (after : D) (log' : Log) (batches' : Batches) (fold' : Fold) (records : List Record)
        → log' ≡ log
        → AreOf log' batches'
        → (tells → Rests reads number images since now after)
        → (tells → reads after ≡ reads now)
        → (tells → (l : Log) (frames : List (List Record)) → IsOpen (reads now) (images now) l frames → IsOpen (reads after) (images after) l frames)
        → (tells → (frames before : List (List Record)) → HasBatches (reads now) (images now) log batches frames before → HasBatches (reads after) (images after) log' batches' frames (before ++ records ∷ []))
        → ((count : ℕ) (before : List Record) → HasRead count before fold → HasRead count (before ++ records) fold')
        → AllByRecursion IsWithinLimits records
        → faults now ≤ faults after
        → name after ≡ name now
        → Folding tells reads number images since faults name first after old log' batches' count fold'
    folding_more after log' batches' fold' records same of rests reads_are others next has_read limits later named = record {
      same = same ∙ f.same;
      of = of;
      rests = λ told. rests_then reads number images since first now after (f.rests told) (rests told);
      reads_are = λ told. reads_are told ∙ f.reads_are told;
      others = λ told l frames h. others told l frames (f.others told l frames h);
      read = f.read ++ records;
      has_read = has_read count f.read f.has_read;
      within = all_append IsWithinLimits f.read records f.within limits;
      so_far = λ told frames h.
          let at = f.so_far told frames h in
          record {
            before = at.before ++ records ∷ [];
            has = next told frames at.before at.has;
            records_are = ap (λ (rs : List Record). rs ++ records) at.records_are ∙ sym (joined-push at.before records);
          };
      later = omega (arith, f.later, later);
      named = named ∙ f.named;
    }

    module _ (content : Content) (touched : List (List ℕ)) (parts : (count : ℕ) (records : List Record) → HasRead count records fold → IsFold count records content touched) where
      pub folded_all : (told : tells) (frames : List (List Record)) (h : IsOpen (reads first) (images first) old frames) → (f.so_far told frames h).before ≡ frames → IsFold count (joined frames) content touched
      folded_all told frames h none = subst (λ (rs : List Record). IsFold count rs content touched)
          ((f.so_far told frames h).records_are ∙ ap (λ (fs : List (List Record)). joined fs) none) (parts count f.read f.has_read)

      pub folded_within : AreWithinLimits content
      folded_within = subst AreWithinLimits (sym (parts count f.read f.has_read).content_is) (within-foldrec (take count f.read) (within-take count f.read f.within))

      pub folded_short : AllByRecursion (λ key. length key ≤ 1024) touched
      folded_short = subst (AllByRecursion (λ key. length key ≤ 1024)) (sym (parts count f.read f.has_read).touched_are) (short-keys_of (drop count f.read) (within-drop count f.read f.within))
