-- The steps of the reader, over plain values.
use Rattle.std.proofs.Common.{◌≡◌, ℕ, ◌+◌, Bool, false, ◌==◌, List, [], ◌∷◌, length, Bor, Option, Some, None, Result, Ok, Err, refl, sym, ap, subst, ◌∙◌, option_copied, option_to_list, MatchOption, IfSome, ◌≤◌, arith}
use Rattle.std.proofs.lemmas.Bool.{false≢true, eq-eqb}
use Rattle.std.specs.FinMap.{entries}
use Rattle.props_text.specs.declared.unit.Placed.{Placed}
use Rattle.props_text.specs.declared.join.Joined.{Joined}
use Rattle.props_text.specs.declared.join.Joined.TheVariants.{PassedOver}
use Rattle.props_text.specs.declared.faults.PropsFault.{PropsFault}
use Rattle.props_text.specs.Lines.{natural_lines}
use Rattle.props_text.specs.Logical.{logical_lines}
use Rattle.props_text.specs.Pairs.{Props, pairs_onto, props_of}
use Rattle.props_text.specs.Outcome.{FailsProps}
use Rattle.props_text.specs.Steps.{lines_behind, Puts, PutsLast, Takes, map_entries, entries_read}
use Rattle.props_text.proofs.Puts.{no_lines, fault_entries}

-- the natural lines of what is left of a text, if anything is
abbrev pub lines_left : Option (List ℕ) → List (List ℕ)
lines_left None = []
lines_left (Some rest) = natural_lines rest

-- how much is left of a text: one more than its length, if anything is
abbrev pub size_left : Option (List ℕ) → ℕ
size_left None = 0
size_left (Some rest) = length rest + 1

pub some_line : (b : Bool) (n : ℕ) → b ≡ (n == 0) → b ≡ false → n ≡ 0 → ⊥
some_line b n is e z = false≢true (sym e ∙ is ∙ eq-eqb n 0 z)

pub puts_last : (line : List Placed) (old new : List (List ℕ × List ℕ)) (r : Result (Unit {0}) PropsFault) → Puts line old new r → PutsLast (Some line) old new r
puts_last line old new (Ok u) p = λ m e. let h = p m e in (h.0, h.1, h.2 [] ∙ no_lines h.0)
puts_last line old new (Err fault) p = λ m e. p m e []

pub takes_passed : (joined : Joined) (begun : Option (List Placed)) (n : ℕ) (line : List ℕ) (old : List (List ℕ × List ℕ)) → joined ≡ PassedOver
    → ((ls : List (List ℕ)) → lines_behind joined (n + 1) ls ≡ logical_lines begun n (line ∷ ls)) → Takes begun n line old old (Ok None)
takes_passed joined begun n line old is h = λ m e. (m, e, λ ls. ap (pairs_onto m) (sym (h ls) ∙ ap (λ j. lines_behind j (n + 1) ls) is))

pub takes_whole : (joined : Joined) (begun : Option (List Placed)) (n : ℕ) (line : List ℕ) (whole : List Placed) (old new : List (List ℕ × List ℕ)) (u : Unit {0})
    → ((ls : List (List ℕ)) → lines_behind joined (n + 1) ls ≡ whole ∷ logical_lines None (n + 1) ls)
    → ((ls : List (List ℕ)) → lines_behind joined (n + 1) ls ≡ logical_lines begun n (line ∷ ls)) → Puts whole old new (Ok u) → Takes begun n line old new (Ok None)
takes_whole joined begun n line whole old new u is h p = λ m e. let k = p m e in (k.0, k.1, λ ls. ap (pairs_onto m) (sym (h ls) ∙ is ls) ∙ k.2 (logical_lines None (n + 1) ls))

pub takes_on : (joined : Joined) (begun : Option (List Placed)) (n : ℕ) (line : List ℕ) (longer : List Placed) (old : List (List ℕ × List ℕ))
    → ((ls : List (List ℕ)) → lines_behind joined (n + 1) ls ≡ logical_lines (Some longer) (n + 1) ls)
    → ((ls : List (List ℕ)) → lines_behind joined (n + 1) ls ≡ logical_lines begun n (line ∷ ls)) → Takes begun n line old old (Ok (Some longer))
takes_on joined begun n line longer old is h = λ m e. (m, e, λ ls. ap (pairs_onto m) (sym (h ls) ∙ is ls))

-- a map with these entries that gives, with what is left, what the text says
abbrev pub Reads : List ℕ → Option (List ℕ) → Option (List Placed) → ℕ → List (List ℕ × List ℕ) → Type 0
Reads text rest begun n old = (m : Props) × (entries m ≡ old) × (pairs_onto m (logical_lines begun n (lines_left rest)) ≡ props_of text)

next_left : (left line : List ℕ) (behind : Option (Bor (List ℕ))) → MatchOption behind (natural_lines left ≡ line ∷ []) (λ r. natural_lines left ≡ line ∷ natural_lines r.now)
    → natural_lines left ≡ line ∷ lines_left (option_copied behind)
next_left left line None h = h
next_left left line (Some r) h = h

pub read_more : (text left line : List ℕ) (rest : Option (List ℕ)) (behind : Option (Bor (List ℕ))) (begun after : Option (List Placed)) (n : ℕ) (old new : List (List ℕ × List ℕ))
    → rest ≡ Some left
    → MatchOption behind (natural_lines left ≡ line ∷ []) (λ r. natural_lines left ≡ line ∷ natural_lines r.now)
    → Takes begun n line old new (Ok after) → Reads text rest begun n old → Reads text (option_copied behind) after (n + 1) new
read_more text left line rest behind begun after n old new is lines takes r =
    let k = takes r.0 r.1 in (
      k.0,
      k.1,
      sym (k.2 (lines_left (option_copied behind)))
          ∙ ap (λ ls. pairs_onto r.0 (logical_lines begun n ls)) (sym (next_left left line behind lines) ∙ ap lines_left (sym is))
          ∙ r.2,
    )

pub number_more : (n total : ℕ) (left line : List ℕ) (rest : Option (List ℕ)) (behind : Option (Bor (List ℕ))) → rest ≡ Some left
    → IfSome behind (λ r. length line + length r.now + 1 ≤ length left) → n + size_left rest ≤ total → n + 1 + size_left (option_copied behind) ≤ total
number_more n total left line rest None is shorter h = let e : n + (length left + 1) ≤ total = rw is at h in omega (arith, e)
number_more n total left line rest (Some r) is shorter h = let e : n + (length left + 1) ≤ total = rw is at h in omega (arith, e, shorter)

last_line : (begun : Option (List Placed)) (n : ℕ) → logical_lines begun n [] ≡ option_to_list begun
unfolding logical_lines
last_line begun n = refl

pub read_end : (text : List ℕ) (rest : Option (List ℕ)) (begun : Option (List Placed)) (n : ℕ) (old new : List (List ℕ × List ℕ)) (u : Unit {0})
    → rest ≡ None → PutsLast begun old new (Ok u) → Reads text rest begun n old → entries_read text ≡ Ok new
read_end text rest begun n old new u is puts r =
    let k = puts r.0 r.1 in
    ap map_entries (sym r.2 ∙ ap (λ o. pairs_onto r.0 (logical_lines begun n (lines_left o))) is ∙ ap (pairs_onto r.0) (last_line begun n) ∙ k.2) ∙ ap Ok k.1

along : (fault : PropsFault) (a b : Result Props ℕ) → a ≡ b → FailsProps fault a → FailsProps fault b
along fault a b e h = subst (FailsProps fault) e h

pub read_fails : (text : List ℕ) (rest : Option (List ℕ)) (begun : Option (List Placed)) (n : ℕ) (old : List (List ℕ × List ℕ)) (fault : PropsFault)
    → rest ≡ None → ((m : Props) → entries m ≡ old → FailsProps fault (pairs_onto m (option_to_list begun))) → Reads text rest begun n old → FailsProps fault (entries_read text)
read_fails text rest begun n old fault is puts r =
    fault_entries fault (props_of text) (along fault _ _
    (ap (pairs_onto r.0) (sym (last_line begun n)) ∙ ap (λ o. pairs_onto r.0 (logical_lines begun n (lines_left o))) (sym is) ∙ r.2) (puts r.0 r.1))
