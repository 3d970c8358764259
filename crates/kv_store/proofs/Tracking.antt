-- Changes that are taken back, and the records that bring a changelog up to date.
use Rattle.std.proofs.Common.{◌≡◌, ℕ, ◌≤◌, Bool, true, false, not, cond, ◌||◌, List, [], ◌∷◌, map, length, Option, Some, None, is_some, IfSome, refl, ap, sym, ◌∙◌, subst, true≢false}
use Rattle.std.specs.Option.{option_flatten}
use Rattle.std.specs.Ordering.{nat_cmp}
use Rattle.std.specs.Cmp.Lexicographic.{slice_cmp, nat_list_cmp_total}
use Rattle.std.specs.List.{AllByRecursion}
use Rattle.std.specs.FinMap as fin
use Rattle.std.specs.FinMap.{get-insert, get-remove, contains_key-keys}
use Rattle.samza_model.specs.Content.{Content, nothing_stored, updated, replayed}
use Rattle.samza_model.specs.Limits.{IsWithinLimits}
use Rattle.kv_store.specs.Slots.{Slots, content_of, with_slot}
use Rattle.kv_store.specs.Tracked.{Keys, no_keys, is_in, with_key, unmarked, Tracked, Reversal, with_change, undone, record_now, unlogged_records, AgreesOnClean, AreWithinLimits, IsTracked, IsUndo}
use Rattle.kv_store.proofs.SlotContent.{get-content_of, content_of-with_slot}
use Rattle.kv_store.proofs.KeySets.{same_keys, is_in-with_key, is_in-without_key, is_in-no_keys, has, all_keys}
use Rattle.kv_store.proofs.Updates.{same_key, same_key-itself, equal_from_same_key, same_content, get-updated, updated-updated, updated-get}

-- ---- callers' lemmas
-- a change makes its key dirty, and no other
pub is_in-with_change : (s : Tracked) (k : List ℕ) (w : Option (List ℕ)) (q : List ℕ) → is_in (with_change s k w).dirty q ≡ cond (same_key q k) true (is_in s.dirty q)
is_in-with_change s k w q = is_in-with_key s.dirty k q

-- a content that agrees on the clean keys does so after a change too
pub AgreesOnClean-more : (s : Tracked) (c : Content) (k : List ℕ) (w : Option (List ℕ)) → AgreesOnClean s c → AgreesOnClean (with_change s k w) c
AgreesOnClean-more s c k w h q clean = elim (same_key q k) as (λ b. same_key q k ≡ b → fin.get c q ≡ fin.get (updated s.content k w) q) [
  | true ↦ λ e. absurd (true≢false (sym (is_in-with_key s.dirty k q ∙ ap (λ b. cond b true (is_in s.dirty q)) e) ∙ clean))
  | false ↦ λ e. h q (sym (is_in-with_key s.dirty k q ∙ ap (λ b. cond b true (is_in s.dirty q)) e) ∙ clean)
      ∙ sym (get-updated s.content k w q ∙ ap (λ b. cond b w (fin.get s.content q)) e)
] refl

-- where no key is dirty, only the store's own content agrees
pub AgreesOnClean-flushed : (d c : Content) → AgreesOnClean (record { content = d; dirty = no_keys }) c → c ≡ d
AgreesOnClean-flushed d c h = same_content c d (λ q. h q (is_in-no_keys q))

-- ---- limits
both_limits : (k v : List ℕ) (w : Option (List ℕ)) → length k ≤ 1024 → IfSome w (λ x. length x ≤ 65536) → w ≡ Some v → IsWithinLimits (record { key = k; value = Some v })
both_limits k v w short fits e = record { key = short; value = subst (λ o. IfSome o (λ x. length x ≤ 65536)) e fits }

pub AreWithinLimits-updated : (c : Content) (k : List ℕ) (w : Option (List ℕ)) → AreWithinLimits c → length k ≤ 1024 → IfSome w (λ x. length x ≤ 65536) → AreWithinLimits (updated c k w)
AreWithinLimits-updated c k w old short fits q v e =
    elim (same_key q k) as (λ b. same_key q k ≡ b → cond b w (fin.get c q) ≡ Some v → IsWithinLimits (record { key = q; value = Some v })) [
      | true ↦ λ s f. both_limits q v w (subst (λ x. length x ≤ 1024) (sym (equal_from_same_key q k s)) short) fits f
      | false ↦ λ s f. old q v f
    ] refl (sym (get-updated c k w q) ∙ e)

pub AreWithinLimits-nothing : AreWithinLimits nothing_stored
AreWithinLimits-nothing q v e = absurd (subst (λ o. cond (is_some o) (Unit {0}) ⊥) (sym e ∙ fin.get-empty (slice_cmp nat_cmp) q) tt)

value_within : (c : Content) (k : List ℕ) (o : Option (List ℕ)) → fin.get c k ≡ o → AreWithinLimits c → IfSome o (λ x. length x ≤ 65536)
value_within c k None e h = tt
value_within c k (Some v) e h = (h k v e).value

pub get-within : (c : Content) (k : List ℕ) → AreWithinLimits c → IfSome (fin.get c k) (λ x. length x ≤ 65536)
get-within c k h = value_within c k (fin.get c k) refl h

-- ---- the records
pub unlogged_within : (slots : Slots) (dirty : Keys) → IsTracked slots dirty → AllByRecursion IsWithinLimits (map (record_now (content_of slots)) (fin.keys dirty))
unlogged_within slots dirty t = along (fin.keys dirty) (all_keys (λ q. length q ≤ 1024) dirty t.short)
  where
    along : (ks : List (List ℕ)) → AllByRecursion (λ q. length q ≤ 1024) ks → AllByRecursion IsWithinLimits (map (record_now (content_of slots)) ks)
    along [] h = tt
    along (k ∷ ks) h = (record { key = h.0; value = get-within (content_of slots) k t.within }, along ks h.1)

covered : (a b : Bool) (x y z : Option (List ℕ)) → (a ≡ true → x ≡ y) → cond b y (cond a x z) ≡ cond (a || b) y z
covered true true x y z e = refl
covered true false x y z e = e refl
covered false b x y z e = refl

get-replayed : (d c : Content) (ks : List (List ℕ)) (q : List ℕ) → fin.get (replayed c (map (record_now d) ks)) q ≡ cond (has q ks) (fin.get d q) (fin.get c q)
get-replayed d c [] q = refl
get-replayed d c (k ∷ ks) q = get-replayed d (updated c k (fin.get d k)) ks q
    ∙ ap (cond (has q ks) (fin.get d q)) (get-updated c k (fin.get d k) q)
    ∙ covered (same_key q k) (has q ks) (fin.get d k) (fin.get d q) (fin.get c q) (λ e. ap (fin.get d) (sym (equal_from_same_key q k e)))

pub replayed-unlogged : (s : Tracked) (c : Content) → AgreesOnClean s c → replayed c (unlogged_records s) ≡ s.content
replayed-unlogged s c h = same_content _ _ (λ q. get-replayed s.content c (fin.keys s.dirty) q ∙ ap (λ b. cond b (fin.get s.content q) (fin.get c q)) (sym (contains_key-keys s.dirty q))
    ∙ elim (is_in s.dirty q) as (λ b. is_in s.dirty q ≡ b → cond b (fin.get s.content q) (fin.get c q) ≡ fin.get s.content q) [
      | true ↦ λ e. refl
      | false ↦ λ e. h q e
    ] refl)

-- ---- taking back
is_in-unmarked : (d : Keys) (k q : List ℕ) (u : Bool) → is_in (unmarked d k u) q ≡ cond u (cond (same_key q k) false (is_in d q)) (is_in d q)
is_in-unmarked d k q true = is_in-without_key d k q
is_in-unmarked d k q false = refl

same_both : (e b : Bool) → cond e b b ≡ b
same_both true b = refl
same_both false b = refl

-- a key that was marked, and is unmarked where it was fresh
pub unmarked-with_key : (d : Keys) (k : List ℕ) (fresh : Bool) → fresh ≡ not (is_in d k) → unmarked (with_key d k) k fresh ≡ d
unmarked-with_key d k fresh h = same_keys _ _ (λ q. is_in-unmarked (with_key d k) k q fresh
    ∙ ap (λ b. cond fresh (cond (same_key q k) false b) b) (is_in-with_key d k q)
    ∙ elim (same_key q k) as (λ b. same_key q k ≡ b → cond fresh (cond b false (cond b true (is_in d q))) (cond b true (is_in d q)) ≡ is_in d q) [
      | true ↦ λ e. turn_back fresh (is_in d q) (h ∙ ap (λ x. not (is_in d x)) (sym (equal_from_same_key q k e)))
      | false ↦ λ e. same_both fresh (is_in d q)
    ] refl)
  where
    turn_back : (f b : Bool) → f ≡ not b → cond f false true ≡ b
    turn_back f true e = ap (λ x. cond x false true) e
    turn_back f false e = ap (λ x. cond x false true) e

pub content-taken_back : (c : Content) (k : List ℕ) (v w : Option (List ℕ)) → w ≡ fin.get c k → updated (updated c k v) k w ≡ c
content-taken_back c k v w e = updated-updated c k v w ∙ ap (updated c k) e ∙ updated-get c k

-- ---- what a store keeps
contains-insert : (s : Slots) (k q : List ℕ) (w : Option (List ℕ)) → fin.contains_key (fin.insert s k w) q ≡ cond (same_key q k) true (fin.contains_key s q)
contains-insert s k q w = ap is_some (get-insert nat_list_cmp_total s k w q) ∙ by_test (same_key q k) (fin.get s q)
  where
    by_test : (b : Bool) (x : Option (Option (List ℕ))) → is_some (cond b (Some w) x) ≡ cond b true (is_some x)
    by_test true x = refl
    by_test false x = refl

contains-remove : (s : Slots) (k q : List ℕ) → fin.contains_key (fin.remove s k) q ≡ cond (same_key q k) false (fin.contains_key s q)
contains-remove s k q = ap is_some (get-remove nat_list_cmp_total s k q) ∙ by_test (same_key q k) (fin.get s q)
  where
    by_test : (b : Bool) (x : Option (Option (List ℕ))) → is_some (cond b None x) ≡ cond b false (is_some x)
    by_test true x = refl
    by_test false x = refl

still_held : (b x y : Bool) → (x ≡ true → y ≡ true) → cond b true x ≡ true → cond b true y ≡ true
still_held true x y h e = refl
still_held false x y h e = h e

pub tracked_after_change : (slots : Slots) (dirty : Keys) (k : List ℕ) (w : Option (List ℕ)) → IsTracked slots dirty → length k ≤ 1024 → IfSome w (λ x. length x ≤ 65536)
    → IsTracked (fin.insert slots k w) (with_key dirty k)
tracked_after_change slots dirty k w t short fits = record {
  held = λ q e. contains-insert slots k q w ∙ still_held (same_key q k) _ _ (t.held q) (sym (is_in-with_key dirty k q) ∙ e);
  short = λ q e. elim (same_key q k) as (λ b. same_key q k ≡ b → cond b true (is_in dirty q) ≡ true → length q ≤ 1024) [
    | true ↦ λ s _. subst (λ x. length x ≤ 1024) (sym (equal_from_same_key q k s)) short
    | false ↦ λ s f. t.short q f
  ] refl (sym (is_in-with_key dirty k q) ∙ e);
  within = subst AreWithinLimits (sym (content_of-with_slot slots k (Some w))) (AreWithinLimits-updated (content_of slots) k w t.within short fits);
}

was_in : (u s b : Bool) → cond u (cond s false b) b ≡ true → b ≡ true
was_in true true b e = absurd (true≢false (sym e))
was_in true false b e = e
was_in false s b e = e

still_in : (s b c : Bool) → (b ≡ true → c ≡ true) → cond s false b ≡ true → cond s false c ≡ true
still_in true b c h e = absurd (true≢false (sym e))
still_in false b c h e = h e

held_after_undo : (slots : Slots) (dirty : Keys) (k : List ℕ) (slot : Option (Option (List ℕ))) (u : Bool) → IsTracked slots dirty → (slot ≡ None → u ≡ true)
    → (q : List ℕ) → cond u (cond (same_key q k) false (is_in dirty q)) (is_in dirty q) ≡ true → fin.contains_key (with_slot slots k slot) q ≡ true
held_after_undo slots dirty k (Some w) u t fresh q e = contains-insert slots k q w ∙ still_held (same_key q k) (is_in dirty q) _ (t.held q) (still_one (same_key q k) (was_in u _ _ e))
  where
    still_one : (s : Bool) → is_in dirty q ≡ true → cond s true (is_in dirty q) ≡ true
    still_one true f = refl
    still_one false f = f
held_after_undo slots dirty k None u t fresh q e = contains-remove slots k q
    ∙ still_in (same_key q k) (is_in dirty q) _ (t.held q) (ap (λ x. cond x (cond (same_key q k) false (is_in dirty q)) (is_in dirty q)) (sym (fresh refl)) ∙ e)

pub tracked_after_undo : (slots : Slots) (dirty : Keys) (k : List ℕ) (slot : Option (Option (List ℕ))) (u : Bool) → IsTracked slots dirty → IsUndo k slot u
    → IsTracked (with_slot slots k slot) (unmarked dirty k u)
tracked_after_undo slots dirty k slot u t h = record {
  held = λ q e. held_after_undo slots dirty k slot u t h.fresh q (sym (is_in-unmarked dirty k q u) ∙ e);
  short = λ q e. t.short q (was_in u (same_key q k) _ (sym (is_in-unmarked dirty k q u) ∙ e));
  within = subst AreWithinLimits (sym (content_of-with_slot slots k slot)) (AreWithinLimits-updated (content_of slots) k (option_flatten slot) t.within h.short h.fits);
}

not_dirty : (b : Bool) (o : Option (Option (List ℕ))) → (b ≡ true → is_some o ≡ true) → o ≡ None → not b ≡ true
not_dirty true o h e = absurd (true≢false (sym (h refl) ∙ ap is_some e))
not_dirty false o h e = refl

pub undo_after_change : (slots : Slots) (dirty : Keys) (k : List ℕ) (slot : Option (Option (List ℕ))) (u : Bool) → IsTracked slots dirty → slot ≡ fin.get slots k → u ≡ not (is_in dirty k) → length k ≤ 1024
    → IsUndo k slot u
undo_after_change slots dirty k slot u t had added short = record {
  short = short;
  fits = subst (λ o. IfSome o (λ x. length x ≤ 65536)) (get-content_of slots k ∙ ap option_flatten (sym had)) (get-within (content_of slots) k t.within);
  fresh = λ none. added ∙ not_dirty (is_in dirty k) (fin.get slots k) (t.held k) (sym had ∙ none);
}

pub tracked_at_start : (slots : Slots) → AreWithinLimits (content_of slots) → IsTracked slots no_keys
tracked_at_start slots h = record {
  held = λ q e. absurd (true≢false (sym e ∙ is_in-no_keys q));
  short = λ q e. absurd (true≢false (sym e ∙ is_in-no_keys q));
  within = h;
}

-- ---- what callers see of a store
abbrev pub seen : Slots → Keys → Tracked
seen slots dirty = record { content = content_of slots; dirty = dirty }

module _ (slots : Slots) (dirty : Keys) (t : Tracked) (view : seen slots dirty ≡ t) (k : List ℕ) where
  pub seen-change : (s : Slots) (d : Keys) (w : Option (List ℕ)) → s ≡ fin.insert slots k w → d ≡ with_key dirty k → seen s d ≡ with_change t k w
  seen-change s d w a b = (λ i. seen (a i) (b i))
      ∙ (λ i. record { content = content_of-with_slot slots k (Some w) i; dirty = with_key dirty k }) ∙ ap (λ u. with_change u k w) view

  pub seen-undone : (s : Slots) (d : Keys) (w : Option (List ℕ)) (name : List ℕ) (slot : Option (Option (List ℕ))) (fresh : Bool)
      → s ≡ fin.insert slots k w → d ≡ with_key dirty k → name ≡ k → slot ≡ fin.get slots k → fresh ≡ not (is_in dirty k)
      → undone (seen s d) (record { key = name; value = option_flatten slot; unmarks = fresh }) ≡ t
  seen-undone s d w name slot fresh a b n had f =
      let e : option_flatten slot ≡ fin.get (content_of slots) k = ap option_flatten had ∙ sym (get-content_of slots k) in
      (λ i. undone (seen (a i) (b i)) (record { key = n i; value = option_flatten slot; unmarks = fresh }))
      ∙ (λ i. record { content = updated (content_of-with_slot slots k (Some w) i) k (option_flatten slot); dirty = unmarked-with_key dirty k fresh f i })
      ∙ (λ i. record { content = content-taken_back (content_of slots) k w (option_flatten slot) e i; dirty = dirty }) ∙ view

  pub dirty-failed : (d e : Keys) (name : List ℕ) (fresh : Bool) → d ≡ with_key dirty k → e ≡ unmarked d name fresh → name ≡ k → fresh ≡ not (is_in dirty k) → e ≡ dirty
  dirty-failed d e name fresh b g n f = g ∙ (λ i. unmarked (b i) (n i) fresh) ∙ unmarked-with_key dirty k fresh f

  pub seen-restored : (s : Slots) (d : Keys) (slot : Option (Option (List ℕ))) (unmarks : Bool) (u : Reversal) → s ≡ with_slot slots k slot → d ≡ unmarked dirty k unmarks
      → record { key = k; value = option_flatten slot; unmarks = unmarks } ≡ u → seen s d ≡ undone t u
  seen-restored s d slot unmarks u a b r = (λ i. seen (a i) (b i))
      ∙ (λ i. record { content = content_of-with_slot slots k slot i; dirty = unmarked dirty k unmarks })
      ∙ (λ i. undone (view i) (r i))

pub is_in-marked : (dirty d : Keys) (k name marked : List ℕ) → d ≡ with_key dirty marked → marked ≡ k → name ≡ k → is_in d name ≡ true
is_in-marked dirty d k name marked b m n = (λ i. is_in (b i) (n i)) ∙ (λ i. is_in (with_key dirty (m i)) k)
    ∙ is_in-with_key dirty k k ∙ ap (λ x. cond x true (is_in dirty k)) (same_key-itself k)

pub none_from_not_some : {X : Type 0} (o : Option X) → is_some o ≡ false → o ≡ None
none_from_not_some None e = refl
none_from_not_some (Some x) e = absurd (true≢false e)
