-- Records that are read one after another.
use Rattle.std.proofs.Common.{◌≡◌, ℕ, ◌+◌, ◌-◌, ◌<◌, ◌≤◌, true, cond, List, [], ◌∷◌, ◌++◌, map, length, drop, ap, sym, ◌∙◌, arith, length-append}
use Rattle.std.specs.Ordering.{nat_cmp}
use Rattle.std.specs.Cmp.Lexicographic.{slice_cmp}
use Rattle.std.specs.BTreeMap.{is_at}
use Rattle.std.specs.FinMap as fin
use Rattle.std.proofs.lemmas.List.{take_all, drop_all, take-append-le, drop-append-le, map-append}
use Rattle.samza_model.specs.declared.messages.Record.{Record}
use Rattle.samza_model.specs.Content.{Content, nothing_stored, updated, foldrec}
use Rattle.kv_store.specs.Tracked.{Keys, set_of}
use Rattle.kv_store.proofs.Laws.{replayed-append, has}
use Rattle.changelog.specs.declared.folds.Fold.{Fold}
use Rattle.changelog.specs.Folds.{IsFold}
use Rattle.changelog.specs.Reading.{HasRead}
use Rattle.changelog.proofs.KeySets.{set_of-push}

abbrev keys_in : List Record → List (List ℕ)
keys_in records = map (λ (r : Record). r.key) records

module _ (count : ℕ) (before : List Record) (r : Record) (old new : Fold) (h : HasRead count before old) where
  -- a counted record is put in
  pub read_counted : 0 < old.left → new.table ≡ updated old.table r.key r.value → new.left ≡ old.left - 1 → new.touched ≡ old.touched → HasRead count (before ++ r ∷ []) new
  read_counted some put less same =
      let left : old.left ≡ count - length before = h.left_is in
      let one : length (before ++ r ∷ []) ≡ length before + 1 = length-append before (r ∷ []) in
      let short : length before ≤ count = omega arith in
      let longer : length (before ++ r ∷ []) ≤ count = omega arith in
      record {
        content_is = put ∙ ap (λ (c : Content). updated c r.key r.value) (h.content_is ∙ ap (λ (rs : List Record). foldrec rs) (take_all count before short))
            ∙ sym (replayed-append nothing_stored before (r ∷ [])) ∙ ap (λ (rs : List Record). foldrec rs) (sym (take_all count (before ++ r ∷ []) longer));
        touched_are = ap (λ s. set_of s.keys) same ∙ h.touched_are
            ∙ ap (λ (rs : List Record). set_of (keys_in rs)) (drop_all count before short ∙ sym (drop_all count (before ++ r ∷ []) longer));
        left_is = omega arith;
      }

  -- of another one the key is touched
  pub read_other : old.left ≡ 0 → new.table ≡ old.table → new.left ≡ old.left → ((q : List ℕ) → has q new.touched.keys ≡ cond (is_at (slice_cmp nat_cmp r.key) q) true (has q old.touched.keys)) → HasRead count (before ++ r ∷ []) new
  read_other none same still added =
      let left : old.left ≡ count - length before = h.left_is in
      let one : length (before ++ r ∷ []) ≡ length before + 1 = length-append before (r ∷ []) in
      let long : count ≤ length before = omega arith in
      record {
        content_is = same ∙ h.content_is ∙ ap (λ (rs : List Record). foldrec rs) (sym (take-append-le count before (r ∷ []) long));
        touched_are = set_of-push old.touched.keys new.touched.keys (keys_in (drop count before)) r.key h.touched_are added
            ∙ ap set_of (sym (map-append (λ (x : Record). x.key) (drop count before) (r ∷ [])) ∙ ap keys_in (sym (drop-append-le count before (r ∷ []) long)));
        left_is = omega arith;
      }

pub fold_of_read : (count : ℕ) (records : List Record) (fold : Fold) (touched : List (List ℕ)) → HasRead count records fold
    → touched ≡ fin.keys (set_of fold.touched.keys) → IsFold count records fold.table touched
fold_of_read count records fold touched h keys = record {
  content_is = h.content_is;
  touched_are = keys ∙ ap (λ (d : Keys). fin.keys d) h.touched_are;
}
