-- A file that is walked and settled: from its frames to an open log.
use Rattle.std.proofs.Common.{ℕ, ◌≡◌, ◌+◌, ◌≤◌, inl, inr, List, [], ◌∷◌, ◌++◌, length, take, drop, Option, None, refl, sym, ◌∙◌, ap, subst, arith, append_assoc, length-append}
use Rattle.std.proofs.lemmas.List.{drop_all, drop_at, take_at, take_all}
use Rattle.samza_model.specs.declared.messages.Record.{Record}
use Rattle.samza_model.specs.Files.{Image}
use Rattle.samza_model.specs.Frames.{frame_bytes}
use Rattle.samza_model.specs.Logs.{spelled, ReadsAs, HasFrames}
use Rattle.disk_model.specs.Images.{Written, Shortened, TornWrite, TornCut, Only}
use Rattle.topic_log.specs.declared.extents.Place.{Place}
use Rattle.topic_log.specs.declared.extents.Extent.{Extent}
use Rattle.topic_log.specs.declared.logs.Log.{Log}
use Rattle.topic_log.specs.declared.windows.Window.{Window}
use Rattle.topic_log.specs.Damage.{IsDamage, IsDamagedAt}
use Rattle.topic_log.specs.Extents.{IsExtent, IsLastOf}
use Rattle.topic_log.specs.Moves.{Moves, Rests, Same}
use Rattle.topic_log.specs.Opened.{IsLeft, IsOpen, KeepsFrames}
use Rattle.topic_log.specs.Walks.{Shows, IsClosed, HasBatch, Reaches, Finds, IsGate, LacksGate, Settled, Repairs}
use Rattle.topic_log.proofs.Moving.{weaken, then_from, rests_then}
use Rattle.topic_log.proofs.Extending.{Grows, extent_grown}
use Rattle.topic_log.proofs.Spelling.{spelled-push, frames_unique, reads_front}

-- no frame
pub extent_none : (e : Extent) → e.gate ≡ 0 → e.count ≡ 0 → e.last ≡ None → IsExtent e []
extent_none e gate count last = record { frameable = tt; gate = gate; count = count; last = subst (λ (o : Option Place). IsLastOf o []) (sym last) refl }

-- the frames that a walk has passed
pub record WalkedTo (bytes : List ℕ) (extent : Extent) : Type 0 where
  pub frames : List (List Record)
  pub extent_is : IsExtent extent frames
  pub front : bytes ≡ spelled frames ++ drop extent.gate bytes

pub walked_none : (bytes : List ℕ) (e : Extent) → e.gate ≡ 0 → e.count ≡ 0 → e.last ≡ None → WalkedTo bytes e
walked_none bytes e gate count last = record { frames = []; extent_is = extent_none e gate count last; front = ap (λ (n : ℕ). drop n bytes) (sym gate) }

pub walked_more : (bytes : List ℕ) (e f : Extent) (count used : ℕ) → WalkedTo bytes e → HasBatch (drop e.gate bytes) count used → Grows e f used count → WalkedTo bytes f
walked_more bytes e f count used so_far batch grows =
    let rs = batch.frame.records in
    let frames = so_far.frames ++ rs ∷ [] in
    let extent : IsExtent f frames = extent_grown e f used count so_far.frames rs grows so_far.extent_is batch.frame.frameable batch.frame.used_is batch.frame.count_is in
    let split : bytes ≡ spelled frames ++ batch.frame.rest =
    so_far.front ∙ ap (λ (l : List ℕ). spelled so_far.frames ++ l) (batch.split ∙ ap (λ (l : List ℕ). 0x4F ∷ l) batch.frame.parts)
    ∙ sym (append_assoc (spelled so_far.frames) (0x4F ∷ frame_bytes rs) batch.frame.rest)
    ∙ ap (λ (l : List ℕ). l ++ batch.frame.rest) (sym (spelled-push so_far.frames rs)) in
    let behind : drop f.gate bytes ≡ batch.frame.rest = ap (λ (l : List ℕ). drop f.gate l) split ∙ drop_at (spelled frames) batch.frame.rest f.gate (sym extent.gate) in
    record { frames = frames; extent_is = extent; front = split ∙ ap (λ (l : List ℕ). spelled frames ++ l) (sym behind) }

pub walked_done : (bytes : List ℕ) (e : Extent) → WalkedTo bytes e → IsClosed (drop e.gate bytes) → Reaches bytes e
walked_done bytes e so_far shut = record {
  frames = so_far.frames;
  reads = record { gate = shut.gate; behind = shut.behind; split = so_far.front ∙ ap (λ (l : List ℕ). spelled so_far.frames ++ l) shut.split; closed = shut.closed; frameable = so_far.extent_is.frameable };
  extent_is = so_far.extent_is;
}

pub walked_damaged : (bytes : List ℕ) (e : Extent) (at : ℕ) → 2 ≤ length bytes → WalkedTo bytes e → IsDamage (drop e.gate bytes) e.gate at → IsDamagedAt bytes at
walked_damaged bytes e at long so_far damage = record {
  frames = so_far.frames;
  rest = drop e.gate bytes;
  split = so_far.front;
  frameable = so_far.extent_is.frameable;
  long = long;
  here = subst (λ (n : ℕ). IsDamage (drop e.gate bytes) n at) so_far.extent_is.gate damage;
}

-- what holds while a file is walked
pub record Walking {D N : Type 0} (tells : Type 0) (reads : D → Image) (number : D → ℕ) (images : D → Image → Type 0) (since : D → ℕ → Image → Type 0) (faults : D → ℕ) (name : D → N)
    (old new : D) (file size : ℕ) (window : Window) (extent : Extent) : Type 0 where
  pub inside : extent.gate ≤ size
  pub file_is : window.file ≡ file
  pub size_is : window.size ≡ size
  pub shows : tells → Shows window (reads old file)
  pub so_far : tells → WalkedTo (reads old file) extent
  pub rests : tells → Rests reads number images since old new
  pub later : faults old ≤ faults new
  pub same_name : name new ≡ name old

-- a gate is made in a file that lacks one
pub gate_settles : (file gate : ℕ) (old new : Image) → LacksGate (old file) → Written file 0 (0x43 ∷ []) old new → Settled file gate old new
gate_settles file gate old new lacks made =
    let few : length (old file) ≤ 1 = elim lacks [ inl none ↦ omega (arith, ap length none) | inr one ↦ omega (arith, ap length one) ] in
    let made_is : new file ≡ 0x43 ∷ [] = made.here ∙ ap (λ (l : List ℕ). 0x43 ∷ l) (drop_all 1 (old file) few) in
    record {
      short = λ h. record { gate = 0x43; is = made_is; closed = λ e. absurd (omega (arith, e)) };
      left = record {
        none = λ e. made_is;
        opened = λ e. made_is;
        closed = λ g closed e. elim lacks [
          | inl none ↦ absurd (omega (arith, ap length e, ap length none))
          | inr one ↦ let same : g ∷ [] ≡ 0x4F ∷ [] = sym e ∙ one in absurd (closed (cc same))
        ];
        frames = λ h. absurd (omega (arith, few, h));
      };
      elsewhere = made.elsewhere;
    }

pub gate_repairs : (file gate : ℕ) (a b : Image) → length (a file) ≤ 1 → TornWrite file 0 1 a b → Repairs file gate a b
gate_repairs file gate a b few torn = record { short = λ h. omega (arith, torn.no_longer, few); long = λ h. absurd (omega (arith, few, h)); elsewhere = torn.elsewhere }

pub gate_stands : (file gate : ℕ) (old : Image) → IsGate (old file) → Settled file gate old old
gate_stands file gate old is = record {
  short = λ h. is;
  left = record {
    none = λ e. absurd (omega (arith, ap length e, ap length is.is));
    opened = λ e. let same : is.gate ∷ [] ≡ 0x4F ∷ [] = sym is.is ∙ e in absurd (is.closed (cc same));
    closed = λ g closed e. e;
    frames = λ h. absurd (omega (arith, ap length is.is, h));
  };
  elsewhere = λ f other. refl;
}

pub repairs_none : (file gate : ℕ) (a : Image) → Repairs file gate a a
repairs_none file gate a = record { short = λ h. h; long = λ h. refl; elsewhere = λ f other. refl }

pub cut_repairs : (file gate : ℕ) (a b : Image) → TornCut file (gate + 1) a b → Repairs file gate a b
cut_repairs file gate a b torn = record { short = λ h. omega (arith, torn.no_longer, h); long = λ h. torn.before; elsewhere = torn.elsewhere }

-- a file of frames is left so
long_left : (old new : List ℕ) (size : ℕ) → 2 ≤ length old → new ≡ take size old → IsLeft old new size
long_left old new size long is = record {
  none = λ e. absurd (omega (arith, long, ap length e));
  opened = λ e. absurd (omega (arith, long, ap length e));
  closed = λ g closed e. absurd (omega (arith, long, ap length e));
  frames = λ h. is;
}

pub whole_settled : (file gate : ℕ) (old : Image) → 2 ≤ length (old file) → length (old file) ≡ gate + 1 → Settled file gate old old
whole_settled file gate old long is = record {
  short = λ h. absurd (omega (arith, long, h));
  left = long_left (old file) (old file) (gate + 1) long (sym (take_all (gate + 1) (old file) (omega (arith, is))));
  elsewhere = λ f other. refl;
}

pub cut_settled : (file gate : ℕ) (old new : Image) → 2 ≤ length (old file) → Shortened file (gate + 1) old new → Settled file gate old new
cut_settled file gate old new long cut = record {
  short = λ h. absurd (omega (arith, long, h));
  left = long_left (old file) (new file) (gate + 1) long cut.here;
  elsewhere = cut.elsewhere;
}

-- the front of a file whose frames reach so far
reach_front : (bytes : List ℕ) (e : Extent) (h : Reaches bytes e) → take (e.gate + 1) bytes ≡ spelled h.frames ++ h.reads.gate ∷ []
reach_front bytes e h =
    ap (λ (l : List ℕ). take (e.gate + 1) l) (h.reads.split ∙ sym (append_assoc (spelled h.frames) (h.reads.gate ∷ []) h.reads.behind))
    ∙ take_at (spelled h.frames ++ h.reads.gate ∷ []) h.reads.behind (e.gate + 1) (omega (arith, length-append (spelled h.frames) (h.reads.gate ∷ []), h.extent_is.gate))

-- what repairs the file keeps its frames
pub repairs_keep : (file : ℕ) (reads a c : Image) (e : Extent) → a file ≡ reads file → Finds (reads file) e → Repairs file e.gate a c → KeepsFrames file a c
repairs_keep file reads a c e is (inl p) step = record {
  here = λ frames has. inl (step.short (omega (arith, ap length is, p.0)), frames_unique (a file) frames [] has (inl (omega (arith, ap length is, p.0), refl)));
  lost = λ none. absurd (none [] (inl (omega (arith, ap length is, p.0), refl)));
  elsewhere = step.elsewhere;
}
repairs_keep file reads a c e is (inr p) step = record {
  here = λ frames has.
      let h = p.1 in
      let was : ReadsAs (a file) h.frames = subst (λ (l : List ℕ). ReadsAs l h.frames) (sym is) h.reads in
      let same : h.frames ≡ frames = frames_unique (a file) h.frames frames (inr was) has in
      let front : take (e.gate + 1) (c file) ≡ spelled h.frames ++ h.reads.gate ∷ [] =
      step.long (omega (arith, ap length is, p.0)) ∙ ap (λ (l : List ℕ). take (e.gate + 1) l) is ∙ reach_front (reads file) e h in
      subst (λ (fs : List (List Record)). HasFrames (c file) fs) same (inr (reads_front (c file) h.frames h.reads.gate (e.gate + 1) h.reads.frameable h.reads.closed front));
  lost = λ none. absurd (none p.1.frames (inr (subst (λ (l : List ℕ). ReadsAs l p.1.frames) (sym is) p.1.reads)));
  elsewhere = step.elsewhere;
}

pub keeps_none : (file : ℕ) (a : Image) → KeepsFrames file a a
keeps_none file a = record { here = λ frames has. has; lost = λ none. refl; elsewhere = λ f other. refl }

-- a log that was opened
pub record OpensLog (bytes : List ℕ) (reads : Image) (images : Image → Type 0) (log : Log) : Type 0 where
  pub frames : List (List Record)
  pub has : HasFrames bytes frames
  pub opened : IsOpen reads images log frames

pub opens : (file : ℕ) (old new : Image) (images : Image → Type 0) (log : Log) → Finds (old file) log.extent → Settled file log.extent.gate old new → Only file new images → log.file ≡ file → (frames : List (List Record)) × HasFrames (old file) frames × IsOpen new images log frames
opens file old new images log (inl p) settled only same =
    let g = settled.short p.0 in
    ([], inl (p.0, refl), record { gate = g.gate; bytes = ap new same ∙ g.is; closed = g.closed; extent = p.1; durable = subst (λ (f : ℕ). Only f new images) (sym same) only })
opens file old new images log (inr p) settled only same =
    let h = p.1 in (
      h.frames,
      inr h.reads,
      record {
        gate = h.reads.gate;
        bytes = ap new same ∙ settled.left.frames p.0 ∙ reach_front (old file) log.extent h;
        closed = h.reads.closed;
        extent = h.extent_is;
        durable = subst (λ (f : ℕ). Only f new images) (sym same) only;
      },
    )

module _ {D : Type 0} (reads : D → Image) (number : D → ℕ) (images : D → Image → Type 0) (since : D → ℕ → Image → Type 0) where
  pub still_keeps : (old new : D) (file : ℕ) → Moves reads number images since old new Same → Moves reads number images since old new (KeepsFrames file)
  still_keeps old new file run = weaken reads number images since old new Same (KeepsFrames file) run (λ a b now p. subst (λ (d : Image). KeepsFrames file a d) (sym p) (keeps_none file a))

  pub found_keeps : (old mid new : D) (file : ℕ) (e : Extent) → reads mid ≡ reads old → Only file (reads mid) (images mid) → Finds (reads old file) e
      → Moves reads number images since old mid Same → Moves reads number images since mid new (Repairs file e.gate) → Moves reads number images since old new (KeepsFrames file)
  found_keeps old mid new file e still only finds one two =
      then_from reads number images since old mid new Same (Repairs file e.gate) (KeepsFrames file) one two
      (λ a b c was is p q. subst (λ (d : Image). KeepsFrames file d c) p (repairs_keep file (reads old) b c e (only b is ∙ ap (λ (i : Image). i file) still) finds q))
      (λ a b was p. subst (λ (d : Image). KeepsFrames file a d) (sym p) (keeps_none file a))

-- the walk's first gate, and each one more
module _ {D N : Type 0} (tells : Type 0) (reads : D → Image) (number : D → ℕ) (images : D → Image → Type 0) (since : D → ℕ → Image → Type 0) (faults : D → ℕ) (name : D → N) where
  pub walking_none : (old : D) (file size : ℕ) (window : Window) (extent : Extent) → window.file ≡ file → window.size ≡ size → ((bytes : List ℕ) → Shows window bytes)
      → extent.gate ≡ 0 → extent.count ≡ 0 → extent.last ≡ None → (tells → Rests reads number images since old old)
      → Walking tells reads number images since faults name old old file size window extent
  walking_none old file size window extent file_is size_is shows gate count last rests = record {
    inside = omega (arith, gate);
    file_is = file_is;
    size_is = size_is;
    shows = λ told. shows (reads old file);
    so_far = λ told. walked_none (reads old file) extent gate count last;
    rests = rests;
    later = omega arith;
    same_name = refl;
  }

  -- the walked file is as it was
  pub walking_file : (old mid : D) (file size : ℕ) (window : Window) (extent : Extent) → Walking tells reads number images since faults name old mid file size window extent → tells → reads mid window.file ≡ reads old file
  walking_file old mid file size window extent h told = ap (λ (i : Image). i window.file) (h.rests told).reads_are ∙ ap (reads old) h.file_is

  pub walking_more : (old mid new : D) (file size : ℕ) (window window' : Window) (extent extent' : Extent) (count used : ℕ)
      → Walking tells reads number images since faults name old mid file size window extent
      → window'.file ≡ window.file → window'.size ≡ window.size
      → (tells → Shows window' (reads mid window.file))
      → (tells → Rests reads number images since mid new)
      → faults mid ≤ faults new → name new ≡ name mid
      → extent.gate + 1 + used ≤ window.size
      → (tells → HasBatch (drop extent.gate (reads mid window.file)) count used)
      → Grows extent extent' used count
      → Walking tells reads number images since faults name old new file size window' extent'
  walking_more old mid new file size window window' extent extent' count used h same_file same_size shows rests later same within batch grows = record {
    inside = omega (arith, grows.gate, within, h.size_is);
    file_is = same_file ∙ h.file_is;
    size_is = same_size ∙ h.size_is;
    shows = λ told. subst (λ (l : List ℕ). Shows window' l) (walking_file old mid file size window extent h told) (shows told);
    so_far = λ told. walked_more (reads old file) extent extent' count used (h.so_far told) (subst (λ (l : List ℕ). HasBatch (drop extent.gate l) count used) (walking_file old mid file size window extent h told) (batch told)) grows;
    rests = λ told. rests_then reads number images since old mid new (h.rests told) (rests told);
    later = omega (arith, h.later, later);
    same_name = same ∙ h.same_name;
  }
