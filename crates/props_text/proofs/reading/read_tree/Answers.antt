use Rattle.std.proofs.Common.{arith, refl, sym, ap, ◌∙◌, option_copied}
use Rattle.std.specs.FinMap.{empty}
use Rattle.std.proofs.lemmas.Result.{err_from_is_err_and}
use Rattle.props_text.specs.Sorted.{entries_of}
use Rattle.props_text.proofs.Puts.{entries-none}
use Rattle.props_text.proofs.Takes.{read_more, number_more, read_end, read_fails}
use Rattle.props_text.proofs.reading.read_tree.Goals as goal

pub loop-rest-init : goal.loop-rest-init
loop-rest-init c = record {
  number = omega arith;
  reads = (empty, entries-none ∙ sym (ap entries_of c.new-tree.ensures.empty), refl);
}

pub loop-rest-preserved : goal.loop-rest-preserved
loop-rest-preserved c =
    let is = ap option_copied c.in-Some.is in
    record {
      number = number_more c.loop-rest.number _ c.in-Some.left.now c.split_line.result.0.now _ c.split_line.result.1 is c.split_line.ensures.shorter c.loop-rest.invariant.number;
      reads = read_more c.args.text.now c.in-Some.left.now c.split_line.result.0.now _ c.split_line.result.1 _ _ c.loop-rest.number _ _ is c.split_line.ensures.lines c.in_ok-begun.ensures c.loop-rest.invariant.reads;
    }

pub returns-in_err-put_last : goal.returns-in_err-put_last
returns-in_err-put_last c =
    let p = err_from_is_err_and c.from_residual-in_err-put_last.result c.from_residual-in_err-put_last.ensures.1 in
    rw (p.1, p.2) (read_fails c.args.text.now _ _ c.loop-rest.number _ _ (ap option_copied c.in_default.is) c.in_err-put_last.ensures c.loop-rest.invariant.reads)

pub returns : goal.returns
returns c = read_end c.args.text.now _ _ c.loop-rest.number _ _ _ (ap option_copied c.in_default.is) c.in_ok-put_last.ensures c.loop-rest.invariant.reads
