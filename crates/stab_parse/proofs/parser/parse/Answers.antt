use Rattle.std.proofs.Common.{None, refl}
use Rattle.std.proofs.lemmas.Result.{err_from_is_err_and}
use Rattle.stab_parse.proofs.Ended.{reaches_new, reaches_more, fault_or_memory, reaches_end, tree_fault, tree_parsed}
use Rattle.stab_parse.proofs.parser.parse.Goals as goal

pub loop-token-init : goal.loop-token-init
loop-token-init c =
    reaches_new (record { frames = c.new.result; forms = c.in_ok-forms.forms; functions = c.new-2.result; too_deep = None }) c.new.ensures c.in_ok-forms.ensures.ok c.new-2.ensures refl

pub loop-token-preserved : goal.loop-token-preserved
loop-token-preserved c =
    reaches_more c.args.tokens.now c.loop-token.token-index _ c.loop-token.parser.phase c.advance.new.self.phase c.loop-token.parser.reader c.advance.new.self.reader
    c.loop-token-test.true c.loop-token.invariant c.in_ok-advance.ensures.ok

pub returns-in_err-advance-clause-fault : goal.returns-in_err-advance-clause-fault
returns-in_err-advance-clause-fault c =
    let p = err_from_is_err_and c.from_residual-in_err-advance.result c.from_residual-in_err-advance.ensures.1 in
    rw (p.1, p.2) (fault_or_memory c.args.tokens.now c.loop-token.token-index _ c.loop-token.parser.phase c.loop-token.parser.reader c.in_err-advance.field-0.0
    c.loop-token-test.true c.loop-token.invariant c.in_err-advance.ensures.fault)

pub returns : goal.returns
returns c =
    let whole = reaches_end c.args.tokens.now c.loop-token.token-index c.loop-token.parser.phase c.loop-token.parser.reader c.loop-token-test.false c.loop-token.auto.token-index-end c.loop-token.invariant in
    record {
      parsed = tree_parsed c.args.tokens.now c.loop-token.parser c.tree_of.result whole c.tree_of.ensures.tree;
      fault = tree_fault c.args.tokens.now c.loop-token.parser c.tree_of.result whole c.tree_of.ensures.fault;
    }
