-- What the rows of stores and streams keep.
use Rattle.std.proofs.Common.{◌≡◌, ◌+◌, ◌≤◌, ◌<◌, ℕ, max, min, List, [], ◌∷◌, ◌++◌, length, map, get_or, Bool, true, false, cond, not, ◌==◌, ◌&&◌, nat_le, Option, Some, None, Result, Ok, Err, refl, sym, ◌∙◌, ap, subst, arith}
use Rattle.std.proofs.lemmas.Bool.Decides.{nat_tests}
use Rattle.std.proofs.lemmas.List.{length-drop}
use Rattle.std.proofs.lemmas.List.Sums.{prefix_len_stops, split_at_first}
use Rattle.std.specs.List.{AllByRecursion, find, filter_map, cons_option, position_or_len}
use Rattle.std.specs.FinMap as map_of
use Rattle.samza_model.specs.Names.{is_system, is_stream, is_topic}
use Rattle.samza_model.specs.declared.setups.StoreSetup.{StoreSetup}
use Rattle.props_text.specs.Pairs.{Props}
use Rattle.config_values.specs.declared.faults.What.{What}
use Rattle.job_config.specs.declared.config.InputConfig.{InputConfig}
use Rattle.job_config.specs.declared.streams.Stream.{Stream}
use Rattle.job_config.specs.declared.keys.StoreSetting.{StoreSetting}
use Rattle.job_config.specs.declared.keys.StoreSetting.TheVariants.{Factory, Changelog, CacheSize, BatchSize}
use Rattle.job_config.specs.declared.keys.StreamSetting.{StreamSetting}
use Rattle.job_config.specs.declared.keys.StreamSetting.TheVariants.{OwnStart, SystemStart, OwnReset, SystemReset, Bootstrap, Priority}
use Rattle.job_config.specs.declared.keys.Setting.TheVariants.{Stores}
use Rattle.config_values.specs.declared.faults.What.TheVariants.{OutOfRange}
use Rattle.std.specs.Option.{option_or}
use Rattle.job_config.specs.Keys.{text_of, store_key, stream_key}
use Rattle.config_values.specs.Values.{any_text, some_text, size, cut, then_number, start, own_flag, flag, priority}
use Rattle.config_values.specs.Numbers.{number_of}
use Rattle.job_config.specs.Stores.{store_of, is_misnamed, is_no_store_name, unless_misnamed, store_names, new_store, store_row, counted_stores, store_rows}
use Rattle.job_config.specs.Streams.{system_of, stream_of, new_stream, on_said, stream_said, stream_row, input_config, stream_rows}
use Rattle.config_values.specs.Lists.{in_order}
use Rattle.job_config.specs.Asking.{Fault, Asks, ◌>>=◌, gives, row, each, unless}
use Rattle.job_config.specs.Bounds.{AreRising, AreStores, IsStore, input_name, store_name}
use Rattle.job_config.proofs.Rising.{in_order_rises}
use Rattle.job_config.proofs.Topics.{each_in_order}
use Rattle.job_config.proofs.Yields.{through, row_gave, unless_gave, each_all, each_keeps}
use Rattle.job_config.proofs.Within.{priority_most}

and_right : (a b : Bool) → (a && b) ≡ true → b ≡ true
and_right true b is = is
and_right false b is = absurd cc

-- a size is from 1 to its bound, where what it is without a key is
cut_bounds : (most : ℕ) (n : Option ℕ) (x : ℕ) → 1 ≤ most → cut most n ≡ Ok x → (1 ≤ x) × (x ≤ most)
cut_bounds most None x some is = absurd cc
cut_bounds most (Some n) x some is = let same : max 1 (min n most) ≡ x = cc is in (omega (arith, same), omega (arith, same))

number_bounds : (most : ℕ) (r : Result (Option ℕ) What) (x : ℕ) → 1 ≤ most → then_number (cut most) r ≡ Ok x → (1 ≤ x) × (x ≤ most)
number_bounds most (Ok n) x some is = cut_bounds most n x some is
number_bounds most (Err what) x some is = absurd cc

size_bounds : (default most : ℕ) (t : Option (List ℕ)) (x : ℕ) → (1 ≤ default) × (default ≤ most) → size default most t ≡ Ok x → (1 ≤ x) × (x ≤ most)
unfolding size
size_bounds default most None x within is = let same : default ≡ x = cc is in subst (λ n. (1 ≤ n) × (n ≤ most)) same within
size_bounds default most (Some t) x within is = number_bounds most (number_of t) x (omega (arith, within.0, within.1)) is

-- a row of a store leaves it one
pub store_stays : (p : Props) (setting : StoreSetting) (s : StoreSetup) (asked : List (List ℕ)) (r : StoreSetup × List (List ℕ)) → IsStore s → store_row p setting s asked ≡ Ok r → IsStore r.0
unfolding store_row
store_stays p Factory s asked r store is =
    let k = through (row p (store_key Factory s.name) any_text asked) (λ _. gives s) r is in
    let same : (s, k.0.1) ≡ r = cc k.2 in
    subst (λ (z : StoreSetup × List (List ℕ)). IsStore z.0) same store
store_stays p Changelog s asked r store is =
    let k = through (row p (store_key Changelog s.name) some_text asked) (λ _. gives s) r is in
    let same : (s, k.0.1) ≡ r = cc k.2 in
    subst (λ (z : StoreSetup × List (List ℕ)). IsStore z.0) same store
store_stays p CacheSize s asked r store is =
    let k = through (row p (store_key CacheSize s.name) (size s.cache 1000000) asked) (λ cache. gives (record s { cache = cache })) r is in
    let same : (record s { cache = k.0.0 }, k.0.1) ≡ r = cc k.2 in
    subst (λ (z : StoreSetup × List (List ℕ)). IsStore z.0) same
    (record {
      name = store.name;
      cache = size_bounds s.cache 1000000 (map_of.get p (store_key CacheSize s.name)) k.0.0 store.cache (row_gave p (store_key CacheSize s.name) (size s.cache 1000000) asked k.0 k.1);
      batch = store.batch;
    })
store_stays p BatchSize s asked r store is =
    let k = through (row p (store_key BatchSize s.name) (size s.batch 4096) asked) (λ batch. gives (record s { batch = batch })) r is in
    let same : (record s { batch = k.0.0 }, k.0.1) ≡ r = cc k.2 in
    subst (λ (z : StoreSetup × List (List ℕ)). IsStore z.0) same
    (record { name = store.name; cache = store.cache; batch = size_bounds s.batch 4096 (map_of.get p (store_key BatchSize s.name)) k.0.0 store.batch (row_gave p (store_key BatchSize s.name) (size s.batch 4096) asked k.0 k.1) })

-- a row of a store leaves it its name
store_named : (p : Props) (setting : StoreSetting) (s : StoreSetup) (asked : List (List ℕ)) (r : StoreSetup × List (List ℕ)) → store_row p setting s asked ≡ Ok r → store_name r.0 ≡ store_name s
unfolding store_row
store_named p Factory s asked r is =
    let k = through (row p (store_key Factory s.name) any_text asked) (λ _. gives s) r is in
    let same : (s, k.0.1) ≡ r = cc k.2 in
    sym (ap (λ (z : StoreSetup × List (List ℕ)). store_name z.0) same)
store_named p Changelog s asked r is =
    let k = through (row p (store_key Changelog s.name) some_text asked) (λ _. gives s) r is in
    let same : (s, k.0.1) ≡ r = cc k.2 in
    sym (ap (λ (z : StoreSetup × List (List ℕ)). store_name z.0) same)
store_named p CacheSize s asked r is =
    let k = through (row p (store_key CacheSize s.name) (size s.cache 1000000) asked) (λ cache. gives (record s { cache = cache })) r is in
    let same : (record s { cache = k.0.0 }, k.0.1) ≡ r = cc k.2 in
    sym (ap (λ (z : StoreSetup × List (List ℕ)). store_name z.0) same)
store_named p BatchSize s asked r is =
    let k = through (row p (store_key BatchSize s.name) (size s.batch 4096) asked) (λ batch. gives (record s { batch = batch })) r is in
    let same : (record s { batch = k.0.0 }, k.0.1) ≡ r = cc k.2 in
    sym (ap (λ (z : StoreSetup × List (List ℕ)). store_name z.0) same)

rows_named : (p : Props) (setting : StoreSetting) (xs : List StoreSetup) (asked : List (List ℕ)) (r : List StoreSetup × List (List ℕ)) → each xs (store_row p setting) asked ≡ Ok r → map store_name r.0 ≡ map store_name xs
rows_named p setting = each_keeps store_name store_name (store_row p setting) (store_named p setting)

-- the names of stores are spelled as they must be
abbrev IsSystem : List ℕ → Type 0
IsSystem n = is_system n ≡ true

with_named : (o : Option (List ℕ)) (rest : List (List ℕ)) → is_no_store_name o ≡ false → AllByRecursion IsSystem rest → AllByRecursion IsSystem (cons_option o rest)
with_named None rest good all = all
with_named (Some name) rest good all = (by (is_system name) refl good, all)
  where
    by : (b : Bool) → is_system name ≡ b → not b ≡ false → is_system name ≡ true
    by true is good' = is
    by false is good' = absurd cc

all_named : (ks : List (List ℕ)) → find is_misnamed ks ≡ None → AllByRecursion IsSystem (filter_map store_of ks)
all_named [] none = tt
all_named (k ∷ ks) none = by (λ rest. all_named ks rest) (is_misnamed k) refl none
  where
    by : (find is_misnamed ks ≡ None → AllByRecursion IsSystem (filter_map store_of ks)) → (b : Bool) → is_misnamed k ≡ b → cond b (Some k) (find is_misnamed ks) ≡ None
        → AllByRecursion IsSystem (cons_option (store_of k) (filter_map store_of ks))
    by rest true bad none' = absurd cc
    by rest false good none' = with_named (store_of k) (filter_map store_of ks) good (rest none')

names_named : (p : Props) (names : List (List ℕ)) → store_names p ≡ Ok names → AllByRecursion IsSystem names
unfolding store_names in_order
names_named p names is = by (find is_misnamed (map_of.keys p)) refl is
  where
    by : (o : Option (List ℕ)) → find is_misnamed (map_of.keys p) ≡ o → unless_misnamed o (in_order (filter_map store_of (map_of.keys p))) ≡ Ok names → AllByRecursion IsSystem names
    by None none is' =
        let same : in_order (filter_map store_of (map_of.keys p)) ≡ names = cc is' in
        subst (AllByRecursion IsSystem) same (each_in_order IsSystem (filter_map store_of (map_of.keys p)) [] (all_named (map_of.keys p) none) tt)
    by (Some key) bad is' = absurd cc

names_rise : (p : Props) (names : List (List ℕ)) → store_names p ≡ Ok names → AreRising names
unfolding store_names
names_rise p names is = by (find is_misnamed (map_of.keys p)) is
  where
    by : (o : Option (List ℕ)) → unless_misnamed o (in_order (filter_map store_of (map_of.keys p))) ≡ Ok names → AreRising names
    by None is' =
        let same : in_order (filter_map store_of (map_of.keys p)) ≡ names = cc is' in
        subst AreRising same (in_order_rises (filter_map store_of (map_of.keys p)))
    by (Some key) is' = absurd cc

new_named : (names : List (List ℕ)) → map store_name (map new_store names) ≡ names
new_named [] = refl
new_named (n ∷ ns) = ap (λ (xs : List (List ℕ)). n ∷ xs) (new_named ns)

new_are : (names : List (List ℕ)) → AllByRecursion IsSystem names → AllByRecursion IsStore (map new_store names)
new_are [] all = tt
new_are (n ∷ ns) all = (record { name = all.0; cache = (omega arith, omega arith); batch = (omega arith, omega arith) }, new_are ns all.1)

counted_are : (stores found : List StoreSetup) → AllByRecursion IsStore stores → counted_stores stores ≡ Ok found → AreStores found
unfolding counted_stores
counted_are [] found all is = absurd cc
counted_are (s ∷ ss) found all is = by (nat_le (length (s ∷ ss)) 8) refl is
  where
    by : (b : Bool) → nat_le (length (s ∷ ss)) 8 ≡ b → cond {A = Result (List StoreSetup) Fault} b (Ok (s ∷ ss)) (Err (text_of Stores, OutOfRange)) ≡ Ok found → AreStores found
    by true within is' =
        let same : s ∷ ss ≡ found = cc is' in
        subst AreStores same (record { some = omega arith; few = grind (arith, nat_tests, within); each = all })
    by false over is' = absurd cc

counted_same : (stores found : List StoreSetup) → counted_stores stores ≡ Ok found → found ≡ stores
unfolding counted_stores
counted_same [] found is = absurd cc
counted_same (s ∷ ss) found is = by (nat_le (length (s ∷ ss)) 8) is
  where
    by : (b : Bool) → cond {A = Result (List StoreSetup) Fault} b (Ok (s ∷ ss)) (Err (text_of Stores, OutOfRange)) ≡ Ok found → found ≡ s ∷ ss
    by true is' = cc is'
    by false is' = absurd cc

-- the rows of the stores from each place on
abbrev from_counted : Props → List StoreSetup → Asks (List StoreSetup)
from_counted p counted = each counted (store_row p CacheSize) >>= λ cached. each cached (store_row p BatchSize)

abbrev from_kept : Props → List StoreSetup → Asks (List StoreSetup)
from_kept p kept = unless (counted_stores kept) >>= from_counted p

abbrev from_made : Props → List StoreSetup → Asks (List StoreSetup)
from_made p made = each made (store_row p Changelog) >>= from_kept p

abbrev from_names : Props → List (List ℕ) → Asks (List StoreSetup)
from_names p names = each (map new_store names) (store_row p Factory) >>= from_made p

pub stores_are : (p : Props) (asked : List (List ℕ)) (r : List StoreSetup × List (List ℕ)) → store_rows p asked ≡ Ok r → AreStores r.0
unfolding store_rows
stores_are p asked r is =
    let names = through (unless (store_names p) asked) (from_names p) r is in
    let named = names_named p names.0.0 (unless_gave (store_names p) asked names.0 names.1) in
    let made = through (each (map new_store names.0.0) (store_row p Factory) names.0.1) (from_made p) r names.2 in
    let made_are = each_all IsStore IsStore (store_row p Factory) (store_stays p Factory) (map new_store names.0.0) names.0.1 made.0 (new_are names.0.0 named) made.1 in
    let kept = through (each made.0.0 (store_row p Changelog) made.0.1) (from_kept p) r made.2 in
    let kept_are = each_all IsStore IsStore (store_row p Changelog) (store_stays p Changelog) made.0.0 made.0.1 kept.0 made_are.0 kept.1 in
    let counted = through (unless (counted_stores kept.0.0) kept.0.1) (from_counted p) r kept.2 in
    let are = counted_are kept.0.0 counted.0.0 kept_are.0 (unless_gave (counted_stores kept.0.0) kept.0.1 counted.0 counted.1) in
    let cached = through (each counted.0.0 (store_row p CacheSize) counted.0.1) (λ cached. each cached (store_row p BatchSize)) r counted.2 in
    let cached_are = each_all IsStore IsStore (store_row p CacheSize) (store_stays p CacheSize) counted.0.0 counted.0.1 cached.0 are.each cached.1 in
    let last_are = each_all IsStore IsStore (store_row p BatchSize) (store_stays p BatchSize) cached.0.0 cached.0.1 r cached_are.0 cached.2 in
    record { some = omega (arith, are.some, cached_are.1, last_are.1); few = omega (arith, are.few, cached_are.1, last_are.1); each = last_are.0 }

-- the stores have the names of the keys, in order
pub stores_rise : (p : Props) (asked : List (List ℕ)) (r : List StoreSetup × List (List ℕ)) → store_rows p asked ≡ Ok r → AreRising (map store_name r.0)
unfolding store_rows
stores_rise p asked r is =
    let names = through (unless (store_names p) asked) (from_names p) r is in
    let made = through (each (map new_store names.0.0) (store_row p Factory) names.0.1) (from_made p) r names.2 in
    let kept = through (each made.0.0 (store_row p Changelog) made.0.1) (from_kept p) r made.2 in
    let counted = through (unless (counted_stores kept.0.0) kept.0.1) (from_counted p) r kept.2 in
    let cached = through (each counted.0.0 (store_row p CacheSize) counted.0.1) (λ cached. each cached (store_row p BatchSize)) r counted.2 in
    let until_kept = rows_named p Changelog made.0.0 made.0.1 kept.0 kept.1 ∙ rows_named p Factory (map new_store names.0.0) names.0.1 made.0 made.1 ∙ new_named names.0.0 in
    let same = counted_same kept.0.0 counted.0.0 (unless_gave (counted_stores kept.0.0) kept.0.1 counted.0 counted.1) in
    let since_counted = rows_named p BatchSize cached.0.0 cached.0.1 r cached.2 ∙ rows_named p CacheSize counted.0.0 counted.0.1 cached.0 cached.1 in
    subst AreRising (sym (since_counted ∙ ap (map store_name) same ∙ until_kept)) (names_rise p names.0.0 (unless_gave (store_names p) asked names.0 names.1))

-- a stream as `system.stream`
abbrev stream_name : Stream → List ℕ
stream_name s = s.system ++ 46 ∷ s.stream

abbrev HasPriority : Stream → Type 0
HasPriority s = s.priority ≤ 1000000

said_gave : {A B : Type 0} (f : A → B) (said : Result A What) (y : B) → on_said f said ≡ Ok y → (x : A) × (said ≡ Ok x) × (f x ≡ y)
said_gave f (Ok x) y is = (x, refl, cc is)
said_gave f (Err what) y is = absurd cc

-- what a key says of a stream leaves it its name, and a priority within the bound
said_stays : (setting : StreamSetting) (s : Stream) (t : Option (List ℕ)) (r : Stream) → stream_said setting s t ≡ Ok r → stream_name s ≡ stream_name r
said_stays OwnStart s t r is = ap stream_name (said_gave (λ own. record s { start = own }) (start t) r is).2
said_stays SystemStart s t r is = ap stream_name (said_gave (λ of_system. record s { start = option_or s.start of_system }) (start t) r is).2
said_stays OwnReset s t r is = ap stream_name (said_gave (λ own. record s { reset = own }) (own_flag t) r is).2
said_stays SystemReset s t r is = ap stream_name (said_gave (λ of_system. record s { reset = option_or s.reset of_system }) (own_flag t) r is).2
said_stays Bootstrap s t r is = ap stream_name (said_gave (λ bootstrap. record s { bootstrap = bootstrap }) (flag t) r is).2
said_stays Priority s t r is = ap stream_name (said_gave (λ priority. record s { priority = priority }) (priority 1000000 t) r is).2

said_ranks : (setting : StreamSetting) (s : Stream) (t : Option (List ℕ)) (r : Stream) → HasPriority s → stream_said setting s t ≡ Ok r → HasPriority r
said_ranks OwnStart s t r ranks is = subst HasPriority (said_gave (λ own. record s { start = own }) (start t) r is).2 ranks
said_ranks SystemStart s t r ranks is = subst HasPriority (said_gave (λ of_system. record s { start = option_or s.start of_system }) (start t) r is).2 ranks
said_ranks OwnReset s t r ranks is = subst HasPriority (said_gave (λ own. record s { reset = own }) (own_flag t) r is).2 ranks
said_ranks SystemReset s t r ranks is = subst HasPriority (said_gave (λ of_system. record s { reset = option_or s.reset of_system }) (own_flag t) r is).2 ranks
said_ranks Bootstrap s t r ranks is = subst HasPriority (said_gave (λ bootstrap. record s { bootstrap = bootstrap }) (flag t) r is).2 ranks
said_ranks Priority s t r ranks is = let k = said_gave (λ priority. record s { priority = priority }) (priority 1000000 t) r is in subst HasPriority k.2 (priority_most 1000000 t k.0 k.1)

-- so does a row of a stream
stream_stays : (p : Props) (setting : StreamSetting) (s : Stream) (asked : List (List ℕ)) (r : Stream × List (List ℕ)) → stream_row p setting s asked ≡ Ok r → stream_name r.0 ≡ stream_name s
unfolding stream_row
stream_stays p setting s asked r is =
    let key = stream_key setting s.system s.stream in
    sym (said_stays setting s (map_of.get p key) r.0 (row_gave p key (stream_said setting s) asked r is))

stream_ranks : (p : Props) (setting : StreamSetting) (s : Stream) (asked : List (List ℕ)) (r : Stream × List (List ℕ)) → HasPriority s → stream_row p setting s asked ≡ Ok r → HasPriority r.0
unfolding stream_row
stream_ranks p setting s asked r ranks is =
    let key = stream_key setting s.system s.stream in
    said_ranks setting s (map_of.get p key) r.0 ranks (row_gave p key (stream_said setting s) asked r is)

streams_stay : (p : Props) (setting : StreamSetting) (xs : List Stream) (asked : List (List ℕ)) (r : List Stream × List (List ℕ)) → each xs (stream_row p setting) asked ≡ Ok r → map stream_name r.0 ≡ map stream_name xs
streams_stay p setting = each_keeps stream_name stream_name (stream_row p setting) (stream_stays p setting)

rows_rank : (p : Props) (setting : StreamSetting) (xs : List Stream) (asked : List (List ℕ)) (r : List Stream × List (List ℕ)) → AllByRecursion HasPriority xs → each xs (stream_row p setting) asked ≡ Ok r → AllByRecursion HasPriority r.0
rows_rank p setting xs asked r all is = (each_all HasPriority HasPriority (stream_row p setting) (stream_ranks p setting) xs asked r all is).0

new_rank : (names : List (List ℕ)) → AllByRecursion HasPriority (map new_stream names)
new_rank [] = tt
new_rank (n ∷ ns) = (omega arith, new_rank ns)

some_stream : (t : List ℕ) → is_stream t ≡ true → 1 ≤ length t
some_stream [] h = absurd cc
some_stream (c ∷ cs) h = omega arith

-- a stream's name is what stands before its first dot, the dot, and what stands behind
whole : (name : List ℕ) → is_topic name ≡ true → system_of name ++ 46 ∷ stream_of name ≡ name
whole name h =
    let dotted = λ (c : ℕ). c == 46 in
    let k = position_or_len dotted name in
    let some = some_stream (stream_of name) (and_right (is_system (system_of name)) (is_stream (stream_of name)) h) in
    let within : k < length name = omega (arith, some, length-drop (k + 1) name) in
    let is_dot : get_or name k 0 ≡ 46 = grind (arith, nat_tests, prefix_len_stops (λ (c : ℕ). not (c == 46)) name 0 within) in
    ap (λ (c : ℕ). system_of name ++ c ∷ stream_of name) (sym is_dot) ∙ sym (split_at_first dotted name 0 within)

new_names : (names : List (List ℕ)) → AllByRecursion (λ n. is_topic n ≡ true) names → map stream_name (map new_stream names) ≡ names
new_names [] all = refl
new_names (n ∷ ns) all = cc (whole n all.0, new_names ns all.1)

input_names : (streams : List Stream) → map input_name (map input_config streams) ≡ map stream_name streams
input_names [] = refl
input_names (s ∷ ss) = ap (λ (xs : List (List ℕ)). stream_name s ∷ xs) (input_names ss)

input_ranks : (streams : List Stream) → AllByRecursion HasPriority streams → AllByRecursion (λ (i : InputConfig). i.priority ≤ 1000000) (map input_config streams)
input_ranks [] all = tt
input_ranks (s ∷ ss) all = (all.0, input_ranks ss all.1)

-- the rows of the streams from each place on
abbrev from_bootstrap : Props → List Stream → Asks (List InputConfig)
from_bootstrap p e = each e (stream_row p Priority) >>= λ f. gives (map input_config f)

abbrev from_reset : Props → List Stream → Asks (List InputConfig)
from_reset p d = each d (stream_row p Bootstrap) >>= from_bootstrap p

abbrev from_own_reset : Props → List Stream → Asks (List InputConfig)
from_own_reset p c = each c (stream_row p SystemReset) >>= from_reset p

abbrev from_start : Props → List Stream → Asks (List InputConfig)
from_start p b = each b (stream_row p OwnReset) >>= from_own_reset p

abbrev from_own_start : Props → List Stream → Asks (List InputConfig)
from_own_start p a = each a (stream_row p SystemStart) >>= from_start p

-- the inputs have the names that were listed
pub inputs_named : (p : Props) (names asked : List (List ℕ)) (r : List InputConfig × List (List ℕ)) → AllByRecursion (λ n. is_topic n ≡ true) names → stream_rows p names asked ≡ Ok r → map input_name r.0 ≡ names
unfolding stream_rows
inputs_named p names asked r all is =
    let a = through (each (map new_stream names) (stream_row p OwnStart) asked) (from_own_start p) r is in
    let b = through (each a.0.0 (stream_row p SystemStart) a.0.1) (from_start p) r a.2 in
    let c = through (each b.0.0 (stream_row p OwnReset) b.0.1) (from_own_reset p) r b.2 in
    let d = through (each c.0.0 (stream_row p SystemReset) c.0.1) (from_reset p) r c.2 in
    let e = through (each d.0.0 (stream_row p Bootstrap) d.0.1) (from_bootstrap p) r d.2 in
    let f = through (each e.0.0 (stream_row p Priority) e.0.1) (λ f. gives (map input_config f)) r e.2 in
    let same : (map input_config f.0.0, f.0.1) ≡ r = cc f.2 in
    sym (ap (λ (z : List InputConfig × List (List ℕ)). map input_name z.0) same)
    ∙ input_names f.0.0
    ∙ streams_stay p Priority e.0.0 e.0.1 f.0 f.1
    ∙ streams_stay p Bootstrap d.0.0 d.0.1 e.0 e.1
    ∙ streams_stay p SystemReset c.0.0 c.0.1 d.0 d.1
    ∙ streams_stay p OwnReset b.0.0 b.0.1 c.0 c.1
    ∙ streams_stay p SystemStart a.0.0 a.0.1 b.0 b.1
    ∙ streams_stay p OwnStart (map new_stream names) asked a.0 a.1
    ∙ new_names names all

-- the inputs have a priority within its bound
pub inputs_rank : (p : Props) (names asked : List (List ℕ)) (r : List InputConfig × List (List ℕ)) → stream_rows p names asked ≡ Ok r → AllByRecursion (λ (i : InputConfig). i.priority ≤ 1000000) r.0
unfolding stream_rows
inputs_rank p names asked r is =
    let a = through (each (map new_stream names) (stream_row p OwnStart) asked) (from_own_start p) r is in
    let b = through (each a.0.0 (stream_row p SystemStart) a.0.1) (from_start p) r a.2 in
    let c = through (each b.0.0 (stream_row p OwnReset) b.0.1) (from_own_reset p) r b.2 in
    let d = through (each c.0.0 (stream_row p SystemReset) c.0.1) (from_reset p) r c.2 in
    let e = through (each d.0.0 (stream_row p Bootstrap) d.0.1) (from_bootstrap p) r d.2 in
    let f = through (each e.0.0 (stream_row p Priority) e.0.1) (λ f. gives (map input_config f)) r e.2 in
    let same : (map input_config f.0.0, f.0.1) ≡ r = cc f.2 in
    let a_rank = rows_rank p OwnStart (map new_stream names) asked a.0 (new_rank names) a.1 in
    let b_rank = rows_rank p SystemStart a.0.0 a.0.1 b.0 a_rank b.1 in
    let c_rank = rows_rank p OwnReset b.0.0 b.0.1 c.0 b_rank c.1 in
    let d_rank = rows_rank p SystemReset c.0.0 c.0.1 d.0 c_rank d.1 in
    let e_rank = rows_rank p Bootstrap d.0.0 d.0.1 e.0 d_rank e.1 in
    let f_rank = rows_rank p Priority e.0.0 e.0.1 f.0 e_rank f.1 in
    subst (λ (z : List InputConfig × List (List ℕ)). AllByRecursion (λ (i : InputConfig). i.priority ≤ 1000000) z.0) same (input_ranks f.0.0 f_rank)
