use Rattle.std.proofs.Common.{◌≡◌, None, inr, length}
use Rattle.scope_check.specs.Scope.{own_fault}
use Rattle.scope_check.proofs.Declared.{fault-own, names-next, no-fault}
use Rattle.scope_check.proofs.header.function_names.Goals as goal

pub returns-in-Some-clause-fault : goal.returns-in-Some-clause-fault
returns-in-Some-clause-fault c =
    inr (fault-own c.args.bytes.now c.args.functions.now c.loop-function.function-index c.function-item.result c.loop-function-test.true c.function-item.is
    c.loop-function.names.keys c.written.result c.written.ensures c.loop-function.invariant.fault c.loop-function.invariant.names c.in_ok-is_new.is_new c.in_ok-is_new.ensures.added
    c.in-Some.fault (cc (c.in-Some.is, c.own_fault.ensures, c.len-before.ensures.len)))

pub loop-function-preserved : goal.loop-function-preserved
loop-function-preserved c =
    let none : own_fault c.args.bytes.now (length c.loop-function.names.keys) c.in_ok-is_new.is_new c.function-item.result ≡ None = cc (c.in_default.is, c.own_fault.ensures, c.len-before.ensures.len) in
    record {
      fault = no-fault c.args.bytes.now c.args.functions.now c.loop-function.function-index c.function-item.result c.loop-function-test.true c.function-item.is
          c.loop-function.names.keys c.written.result c.written.ensures c.loop-function.invariant.fault c.loop-function.invariant.names c.in_ok-is_new.is_new c.in_ok-is_new.ensures.added none;
      names = names-next c.args.bytes.now c.args.functions.now c.loop-function.function-index c.function-item.result c.loop-function-test.true c.function-item.is
          c.loop-function.names.keys c.written.result c.written.ensures c.loop-function.invariant.fault c.loop-function.invariant.names c.in_ok-is_new.is_new c.in_ok-is_new.ensures.added none
          c.insert.new.self.keys c.in_ok-is_new.ensures.keys;
    }
