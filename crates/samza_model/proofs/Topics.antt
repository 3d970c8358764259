-- Names of streams.
use Rattle.std.proofs.Common.{ℕ, ◌≡◌, ◌+◌, ◌==◌, ◌&&◌, List, take, drop, Bool, true, sym, ◌∙◌, ap, drop-drop}
use Rattle.std.specs.List.{position_or_len, before_first, after_first}
use Rattle.samza_model.specs.Names.{is_system, is_stream, is_topic}

-- a name that is cut at its first dot, where the system's name is spelled as it must be, is a topic's if the stream's is
pub topic_then : (name : List ℕ) (dot : ℕ) (system rest : List ℕ) (b : Bool) → dot ≡ position_or_len (λ c. c == 46) name → system ≡ take dot name → rest ≡ drop dot name → is_system system ≡ true
    → b ≡ is_stream (drop 1 rest) → b ≡ is_topic name
topic_then name dot system rest b is_dot is_sys is_rest tested is =
    let s : is_system (before_first (λ c. c == 46) name) ≡ true = ap is_system (ap (λ (k : ℕ). take k name) (sym is_dot) ∙ sym is_sys) ∙ tested in
    let t : is_stream (drop 1 rest) ≡ is_stream (after_first (λ c. c == 46) name) = ap is_stream (ap (drop 1) is_rest ∙ drop-drop 1 dot name ∙ ap (λ (k : ℕ). drop (k + 1) name) is_dot) in
    is ∙ t ∙ sym (ap (λ (x : Bool). x && is_stream (after_first (λ c. c == 46) name)) s)
