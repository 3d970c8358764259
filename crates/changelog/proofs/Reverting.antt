-- What takes the tail of a changelog back.
use Rattle.std.proofs.Common.{◌≡◌, ℕ, ◌≤◌, Bool, true, false, cond, ◌||◌, List, [], ◌∷◌, ◌++◌, map, length, take, drop, refl, ap, sym, ◌∙◌, subst, arith}
use Rattle.std.specs.List.{AllByRecursion}
use Rattle.std.specs.FinMap as fin
use Rattle.std.proofs.lemmas.List.{take-append-drop, drop_all}
use Rattle.samza_model.specs.declared.messages.Record.{Record}
use Rattle.samza_model.specs.Content.{Content, nothing_stored, updated, replayed, foldrec}
use Rattle.samza_model.specs.Limits.{IsWithinLimits}
use Rattle.kv_store.specs.Tracked.{set_of, AreWithinLimits, records_of}
use Rattle.kv_store.proofs.Laws.{same_key, get-updated, replayed-append, AreWithinLimits-updated, AreWithinLimits-nothing, get-within, replayed-unlogged, has, is_in-set_of}
use Rattle.topic_log.proofs.Laws.{all_front, all_back}
use Rattle.changelog.specs.Folds.{keys_of, reverts_of, IsFold}
use Rattle.changelog.proofs.KeySets.{keys-set_of_none, all_set_of}

or_left : (a b : Bool) → (a || b) ≡ false → a ≡ false
or_left true b e = e
or_left false b e = refl

or_right : (a b : Bool) → (a || b) ≡ false → b ≡ false
or_right true b e = absurd (subst (λ c. cond c (Unit {0}) ⊥) e tt)
or_right false b e = e

abbrev keys_in : List Record → List (List ℕ)
keys_in records = map (λ (r : Record). r.key) records

-- a key that no record has keeps its value
untouched : (c : Content) (rs : List Record) (q : List ℕ) → has q (keys_in rs) ≡ false → fin.get (replayed c rs) q ≡ fin.get c q
untouched c [] q e = refl
untouched c (r ∷ rs) q e = untouched (updated c r.key r.value) rs q (or_right (same_key q r.key) (has q (keys_in rs)) e)
    ∙ get-updated c r.key r.value q ∙ ap (λ b. cond b r.value (fin.get c q)) (or_left (same_key q r.key) (has q (keys_in rs)) e)

pub foldrec-split : (count : ℕ) (records : List Record) → foldrec records ≡ replayed (foldrec (take count records)) (drop count records)
foldrec-split count records = ap (λ (rs : List Record). foldrec rs) (sym (take-append-drop count records)) ∙ replayed-append nothing_stored (take count records) (drop count records)

-- what takes the tail back leads from the content of all to that of the counted ones
pub replayed-reverts_of : (count : ℕ) (records : List Record) → replayed (foldrec records) (reverts_of count records) ≡ foldrec (take count records)
replayed-reverts_of count records = replayed-unlogged (record { content = foldrec (take count records); dirty = set_of (keys_in (drop count records)) }) (foldrec records)
    (λ q clean. ap (λ (c : Content). fin.get c q) (foldrec-split count records)
    ∙ untouched (foldrec (take count records)) (drop count records) q (sym (is_in-set_of (keys_in (drop count records)) q) ∙ clean))

-- so all of them, and these behind them, make the content of the counted ones
pub foldrec-reverts_of : (count : ℕ) (records : List Record) → foldrec (records ++ reverts_of count records) ≡ foldrec (take count records)
foldrec-reverts_of count records = replayed-append nothing_stored records (reverts_of count records) ∙ replayed-reverts_of count records

-- where all are counted no key is touched, and there is nothing to take back
pub keys_of-none : (count : ℕ) (records : List Record) → length records ≤ count → keys_of (drop count records) ≡ []
keys_of-none count records all = ap keys_of (drop_all count records all) ∙ keys-set_of_none

pub reverts_of-none : (count : ℕ) (records : List Record) → length records ≤ count → reverts_of count records ≡ []
reverts_of-none count records all = ap (records_of (foldrec (take count records))) (keys_of-none count records all)

pub reverts_of-all : (records : List Record) → reverts_of (length records) records ≡ []
reverts_of-all records = reverts_of-none (length records) records (omega arith)

-- what a fold gave is what the reverting records are made of
pub records_of-fold : (count : ℕ) (records : List Record) (content : Content) (touched : List (List ℕ)) → IsFold count records content touched → records_of content touched ≡ reverts_of count records
records_of-fold count records content touched f = (λ i. records_of (f.content_is i) (f.touched_are i))

-- the same of the records that were made of what a fold gave
pub replayed-reverted : (count : ℕ) (logged records : List Record) (content : Content) (touched : List (List ℕ)) → records ≡ records_of content touched
    → content ≡ foldrec (take count logged) → touched ≡ keys_of (drop count logged) → replayed (foldrec logged) records ≡ content
replayed-reverted count logged records content touched are content_is touched_are =
    ap (replayed (foldrec logged)) (are ∙ records_of-fold count logged content touched (record { content_is = content_is; touched_are = touched_are }))
    ∙ replayed-reverts_of count logged ∙ sym content_is

-- ---- limits
pub within-replayed : (c : Content) (rs : List Record) → AreWithinLimits c → AllByRecursion IsWithinLimits rs → AreWithinLimits (replayed c rs)
within-replayed c [] old each = old
within-replayed c (r ∷ rs) old each = within-replayed (updated c r.key r.value) rs (AreWithinLimits-updated c r.key r.value old each.0.key each.0.value) each.1

pub within-take : (count : ℕ) (records : List Record) → AllByRecursion IsWithinLimits records → AllByRecursion IsWithinLimits (take count records)
within-take count records each = all_front IsWithinLimits (take count records) (drop count records) (subst (AllByRecursion IsWithinLimits) (sym (take-append-drop count records)) each)

pub within-drop : (count : ℕ) (records : List Record) → AllByRecursion IsWithinLimits records → AllByRecursion IsWithinLimits (drop count records)
within-drop count records each = all_back IsWithinLimits (take count records) (drop count records) (subst (AllByRecursion IsWithinLimits) (sym (take-append-drop count records)) each)

pub within-foldrec : (records : List Record) → AllByRecursion IsWithinLimits records → AreWithinLimits (foldrec records)
within-foldrec records each = within-replayed nothing_stored records AreWithinLimits-nothing each

short_keys : (records : List Record) → AllByRecursion IsWithinLimits records → AllByRecursion (λ key. length key ≤ 1024) (keys_in records)
short_keys [] each = tt
short_keys (r ∷ rs) each = (each.0.key, short_keys rs each.1)

pub short-keys_of : (records : List Record) → AllByRecursion IsWithinLimits records → AllByRecursion (λ key. length key ≤ 1024) (keys_of records)
short-keys_of records each = all_set_of (λ key. length key ≤ 1024) (keys_in records) (short_keys records each)

pub within-records_of : (c : Content) (keys : List (List ℕ)) → AreWithinLimits c → AllByRecursion (λ key. length key ≤ 1024) keys → AllByRecursion IsWithinLimits (records_of c keys)
within-records_of c [] old short = tt
within-records_of c (k ∷ ks) old short = (record { key = short.0; value = get-within c k old }, within-records_of c ks old short.1)

-- the records that take the tail back are as long at most as records may be
pub within-reverts_of : (count : ℕ) (records : List Record) → AllByRecursion IsWithinLimits records → AllByRecursion IsWithinLimits (reverts_of count records)
within-reverts_of count records each = within-records_of (foldrec (take count records)) (keys_of (drop count records))
    (within-foldrec (take count records) (within-take count records each)) (short-keys_of (drop count records) (within-drop count records each))
