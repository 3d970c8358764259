use Rattle.std.proofs.Common.{ℕ, List, ◌≡◌, ◌∙◌, ◌≤◌, ◌<◌, ◌+◌, ◌++◌, ◌∷◌, [], Some, true, false, length, take, drop, sym, ap, rules, arith}
use Rattle.std.specs.Prelude.{slice_get, filter}
use Rattle.std.proofs.lemmas.List.{take_all}
use Rattle.samza_model.specs.declared.events.Event.{Event}
use Rattle.samza_model.specs.Journals.{belongs}
use Rattle.packed_events.specs.Packed.{head_len, event_head, bytes_of, head_belongs}
use Rattle.packed_events.proofs.Again.{kept_none, at_place, no_bytes, piece_is, kept_one, passed_one, belongs_same, count_is}
use Rattle.packed_events.proofs.packed.Packed.kept.Goals as goal
use Rattle.packed_events.proofs.packed.Packed.kept.Goals.{then-belongs_head+in_ok-push_raw, else-belongs_head}

pub returns-then-is_empty : goal.returns-then-is_empty
returns-then-is_empty c =
    let none : length c.args.numbers.now ≤ 0 = search rules in
    c.new-made.ensures ∙ kept_none c.args.numbers.now c.args.self.now none

pub loop-i-init : goal.loop-i-init
loop-i-init c = record { made_is = c.new-made.ensures; from_is = no_bytes }

pub head_len-requires-clause-within : goal.head_len-requires-clause-within
head_len-requires-clause-within c =
    let lt : c.loop-i.i < length c.self.inside.heads.items = omega (arith, c.loop-i-test.true, c.len-i-end.ensures) in
    let at = at_place c.self.inside.heads.items c.self.inside.bytes.items c.args.self.now c.loop-i.i c.index.result.now c.self.invariant c.self.view_is lt c.index.ensures in
    omega (arith, at.within, c.len.ensures)

pub overflow_add-behind : goal.overflow_add-behind
overflow_add-behind c =
    let lt : c.loop-i.i < length c.self.inside.heads.items = omega (arith, c.loop-i-test.true, c.len-i-end.ensures) in
    let at = at_place c.self.inside.heads.items c.self.inside.bytes.items c.args.self.now c.loop-i.i c.index.result.now c.self.invariant c.self.view_is lt c.index.ensures in
    omega (arith, at.within, c.len.ensures, c.head_len.ensures, c.loop-i.invariant.from_is, c.self.inside.bytes.ok.0)

pub slice_bounds-push_raw-end : goal.slice_bounds-push_raw-end
slice_bounds-push_raw-end c =
    let lt : c.loop-i.i < length c.self.inside.heads.items = omega (arith, c.loop-i-test.true, c.len-i-end.ensures) in
    let at = at_place c.self.inside.heads.items c.self.inside.bytes.items c.args.self.now c.loop-i.i c.index.result.now c.self.invariant c.self.view_is lt c.index.ensures in
    let end : c.loop-i.from + c.head_len.result ≤ length c.as_slice.result.now = omega (arith, at.within, c.head_len.ensures, c.loop-i.invariant.from_is, ap length c.as_slice.ensures.value) in
    search (rules, end)

pub push_raw-requires : goal.push_raw-requires
push_raw-requires c =
    let lt : c.loop-i.i < length c.self.inside.heads.items = omega (arith, c.loop-i-test.true, c.len-i-end.ensures) in
    let at = at_place c.self.inside.heads.items c.self.inside.bytes.items c.args.self.now c.loop-i.i c.index.result.now c.self.invariant c.self.view_is lt c.index.ensures in
    (at.event, at.head, piece_is c.self.inside.bytes.items c.args.self.now c.loop-i.i c.index.result.now at c.loop-i.from c.head_len.result c.as_slice.result.now c.loop-i.invariant.from_is c.head_len.ensures c.as_slice.ensures.value)

pub loop-i-preserved : goal.loop-i-preserved
loop-i-preserved c =
    let lt : c.loop-i.i < length c.self.inside.heads.items = omega (arith, c.loop-i-test.true, c.len-i-end.ensures) in
    let at = at_place c.self.inside.heads.items c.self.inside.bytes.items c.args.self.now c.loop-i.i c.index.result.now c.self.invariant c.self.view_is lt c.index.ensures in
    let same : c.belongs_head.result ≡ belongs c.args.numbers.now at.event = c.belongs_head.ensures ∙ ap (head_belongs c.args.numbers.now) at.head ∙ belongs_same c.args.numbers.now at.event in
    let from : c.loop-i.from + c.head_len.result ≡ length (bytes_of (take (c.loop-i.i + 1) c.args.self.now)) = omega (arith, at.count, c.head_len.ensures, c.loop-i.invariant.from_is) in
    elim c.if-belongs_head.branch [
      | then-belongs_head+in_ok-push_raw w ↦ record {
        made_is = w.made-is ∙ w.in_ok-push_raw.ensures.ok at.event at.head (piece_is c.self.inside.bytes.items c.args.self.now c.loop-i.i c.index.result.now at c.loop-i.from c.head_len.result w.as_slice.result.now c.loop-i.invariant.from_is c.head_len.ensures w.as_slice.ensures.value)
            ∙ ap (λ l. l ++ at.event ∷ []) c.loop-i.invariant.made_is ∙ sym (kept_one (belongs c.args.numbers.now) c.self.inside.bytes.items c.args.self.now c.loop-i.i c.index.result.now at (sym same ∙ w.if-belongs_head.true));
        from_is = from;
      }
      | else-belongs_head w ↦ record {
        made_is = w.made-is ∙ c.loop-i.invariant.made_is ∙ sym (passed_one (belongs c.args.numbers.now) c.self.inside.bytes.items c.args.self.now c.loop-i.i c.index.result.now at (sym same ∙ w.if-belongs_head.false));
        from_is = from;
      }
    ]

pub returns : goal.returns
returns c = c.loop-i.invariant.made_is ∙ ap (filter (belongs c.args.numbers.now)) (take_all c.loop-i.i c.args.self.now (omega (arith, c.loop-i-test.false, c.len-i-end.ensures, count_is c.self.inside.heads.items c.self.inside.bytes.items c.args.self.now c.self.invariant c.self.view_is)))
