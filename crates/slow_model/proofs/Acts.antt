-- What acts are answered and what they leave, where a store isn't there and where nothing changes.
use Rattle.std.proofs.Common.{ℕ, ◌≡◌, ◌≤◌, List, [], length, sym, ◌∙◌, ap, refl}
use Rattle.std.proofs.lemmas.List.{get_or_past, nil_from_length}
use Rattle.std.specs.Prelude.{not}
use Rattle.std.specs.Ordering.{nat_cmp, is_lt}
use Rattle.std.specs.Cmp.Lexicographic.{slice_cmp}
use Rattle.std.specs.FinMap as map
use Rattle.std.specs.FinMap.{get-empty, len-entries, len-empty}
use Rattle.std.specs.List.{find}
use Rattle.samza_model.specs.declared.messages.Record.{Record}
use Rattle.samza_model.specs.declared.acts.Act.{Act}
use Rattle.samza_model.specs.declared.acts.Act.TheVariants.{Get, Next, Put, Delete, Send, AskCommit, AskShutdown, Done, Fail}
use Rattle.samza_model.specs.declared.acts.Answer.TheVariants.{Missing, Noted}
use Rattle.samza_model.specs.Content.{Content, State, changed, answer_of, found, found_pair, next_pair, store_at, nothing_stored}

pub got_past : (stores : List Content) (i : ℕ) (key : List ℕ) → length stores ≤ i → Missing ≡ found (map.get (store_at stores i) key)
got_past stores i key le =
    sym (ap (λ (c : Content). found (map.get c key)) (get_or_past stores i nothing_stored le) ∙ ap found (get-empty (slice_cmp nat_cmp) key))

no_entries : map.entries nothing_stored ≡ []
no_entries = nil_from_length _ (sym (len-entries map.empty) ∙ len-empty (slice_cmp nat_cmp) (List ℕ))

pub next_past : (stores : List Content) (i : ℕ) (key : List ℕ) → length stores ≤ i → Missing ≡ found_pair (next_pair (store_at stores i) key)
next_past stores i key le =
    sym (ap (λ (c : Content). found_pair (next_pair c key)) (get_or_past stores i nothing_stored le)
    ∙ ap (λ (es : List (List ℕ × List ℕ)). found_pair (find (λ e. not (is_lt (slice_cmp nat_cmp e.0 key))) es)) no_entries)

pub noted : (s : State) (act : Act) → ((i : ℕ) (key : List ℕ) → act ≡ Get i key → ⊥) → ((i : ℕ) (key : List ℕ) → act ≡ Next i key → ⊥) → Noted ≡ answer_of s act
unfolding answer_of
noted s (Get i key) no_get no_next = absurd (no_get i key refl)
noted s (Next i key) no_get no_next = absurd (no_next i key refl)
noted s (Put i key value) no_get no_next = refl
noted s (Delete i key) no_get no_next = refl
noted s (Send j body) no_get no_next = refl
noted s (AskCommit scope) no_get no_next = refl
noted s (AskShutdown scope) no_get no_next = refl
noted s Done no_get no_next = refl
noted s (Fail code) no_get no_next = refl

pub unchanged : (s : State) (act : Act) → ((i : ℕ) (key value : List ℕ) → act ≡ Put i key value → ⊥) → ((i : ℕ) (key : List ℕ) → act ≡ Delete i key → ⊥)
    → ((j : ℕ) (body : Record) → act ≡ Send j body → ⊥) → s ≡ changed s act
unfolding changed
unchanged s (Get i key) no_put no_delete no_send = refl
unchanged s (Next i key) no_put no_delete no_send = refl
unchanged s (Put i key value) no_put no_delete no_send = absurd (no_put i key value refl)
unchanged s (Delete i key) no_put no_delete no_send = absurd (no_delete i key refl)
unchanged s (Send j body) no_put no_delete no_send = absurd (no_send j body refl)
unchanged s (AskCommit scope) no_put no_delete no_send = refl
unchanged s (AskShutdown scope) no_put no_delete no_send = refl
unchanged s Done no_put no_delete no_send = refl
unchanged s (Fail code) no_put no_delete no_send = refl
