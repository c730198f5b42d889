use Rattle.std.proofs.Common.{map, subst}
use Rattle.stab_types.specs.Given.{IsComputed, type_of}
use Rattle.stab_types.specs.Computed.{block_of}
use Rattle.stab_types.proofs.RowLemmas.{head_arm, head_one}
use Rattle.stab_types.proofs.plain.plain_type.Goals as goal

pub returns-in-Unit : goal.returns-in-Unit
returns-in-Unit c = head_arm c.args.head.now _ c.args.parts.now c.args.types.now c.literal.new.types c.in-Unit.is c.literal.result c.literal.ensures

pub returns-in-Truth : goal.returns-in-Truth
returns-in-Truth c = head_arm c.args.head.now _ c.args.parts.now c.args.types.now c.literal-in-Truth.new.types c.in-Truth.is c.literal-in-Truth.result c.literal-in-Truth.ensures

pub returns-in-Int : goal.returns-in-Int
returns-in-Int c = head_arm c.args.head.now _ c.args.parts.now c.args.types.now c.literal-in-Int.new.types c.in-Int.is c.literal-in-Int.result c.literal-in-Int.ensures

pub returns-in-Text : goal.returns-in-Text
returns-in-Text c = head_arm c.args.head.now _ c.args.parts.now c.args.types.now c.literal-in-Text.new.types c.in-Text.is c.literal-in-Text.result c.literal-in-Text.ensures

pub returns-in-If : goal.returns-in-If
returns-in-If c = head_arm c.args.head.now _ c.args.parts.now c.args.types.now c.branches.new.types c.in-If.is c.branches.result c.branches.ensures

pub returns-in-Two : goal.returns-in-Two
returns-in-Two c = head_arm c.args.head.now _ c.args.parts.now c.args.types.now c.operator.new.types c.in-Two.is c.operator.result c.operator.ensures

pub returns-in-Not : goal.returns-in-Not
returns-in-Not c = head_arm c.args.head.now _ c.args.parts.now c.args.types.now c.unary.new.types c.in-Not.is c.unary.result c.unary.ensures

pub returns-in-Neg : goal.returns-in-Neg
returns-in-Neg c = head_arm c.args.head.now _ c.args.parts.now c.args.types.now c.unary-in-Neg.new.types c.in-Neg.is c.unary-in-Neg.result c.unary-in-Neg.ensures

pub returns-in-Pair : goal.returns-in-Pair
returns-in-Pair c = head_arm c.args.head.now _ c.args.parts.now c.args.types.now c.pair.new.types c.in-Pair.is c.pair.result c.pair.ensures

pub returns-in-NewChan : goal.returns-in-NewChan
returns-in-NewChan c = head_arm c.args.head.now _ c.args.parts.now c.args.types.now c.channel.new.types c.in-NewChan.is c.channel.result c.channel.ensures

pub returns-in-NewRef : goal.returns-in-NewRef
returns-in-NewRef c = head_arm c.args.head.now _ c.args.parts.now c.args.types.now c.reference.new.types c.in-NewRef.is c.reference.result c.reference.ensures

pub returns-in-Set : goal.returns-in-Set
returns-in-Set c = head_arm c.args.head.now _ c.args.parts.now c.args.types.now c.written.new.types c.in-Set.is c.written.result c.written.ensures

pub returns-in-Send : goal.returns-in-Send
returns-in-Send c = head_arm c.args.head.now _ c.args.parts.now c.args.types.now c.handed.new.types c.in-Send.is c.handed.result c.handed.ensures

pub returns-in-Pick : goal.returns-in-Pick
returns-in-Pick c = head_arm c.args.head.now _ c.args.parts.now c.args.types.now c.picked.new.types c.in-Pick.is c.picked.result c.picked.ensures

pub returns-in-Cut : goal.returns-in-Cut
returns-in-Cut c = head_arm c.args.head.now _ c.args.parts.now c.args.types.now c.literal-in-Cut.new.types c.in-Cut.is c.literal-in-Cut.result c.literal-in-Cut.ensures

pub returns-in-Pin : goal.returns-in-Pin
returns-in-Pin c = head_arm c.args.head.now _ c.args.parts.now c.args.types.now c.literal-in-Pin.new.types c.in-Pin.is c.literal-in-Pin.result c.literal-in-Pin.ensures

pub returns-in-Print : goal.returns-in-Print
returns-in-Print c = head_arm c.args.head.now _ c.args.parts.now c.args.types.now c.printed.new.types c.in-Print.is c.printed.result c.printed.ensures

pub returns-in-Probe : goal.returns-in-Probe
returns-in-Probe c = head_arm c.args.head.now _ c.args.parts.now c.args.types.now c.literal-in-Probe.new.types c.in-Probe.is c.literal-in-Probe.result c.literal-in-Probe.ensures

pub returns-in-Attempt : goal.returns-in-Attempt
returns-in-Attempt c = head_arm c.args.head.now _ c.args.parts.now c.args.types.now c.literal-in-Attempt.new.types c.in-Attempt.is c.literal-in-Attempt.result c.literal-in-Attempt.ensures

pub returns-in-Fst : goal.returns-in-Fst
returns-in-Fst c = head_one c.args.head.now _ c.args.parts.now c.args.types.now c.args.types.now c.in-Fst.is c.first.result c.first.ensures

pub returns-in-Snd : goal.returns-in-Snd
returns-in-Snd c = head_one c.args.head.now _ c.args.parts.now c.args.types.now c.args.types.now c.in-Snd.is c.second.result c.second.ensures

pub returns-in-Get : goal.returns-in-Get
returns-in-Get c = head_one c.args.head.now _ c.args.parts.now c.args.types.now c.args.types.now c.in-Get.is c.read.result c.read.ensures

pub returns-in-Recv : goal.returns-in-Recv
returns-in-Recv c = head_one c.args.head.now _ c.args.parts.now c.args.types.now c.args.types.now c.in-Recv.is c.received.result c.received.ensures

pub returns-in-Stabilize : goal.returns-in-Stabilize
returns-in-Stabilize c = head_one c.args.head.now _ c.args.parts.now c.args.types.now c.args.types.now c.in-Stabilize.is c.stabilize.result (c.stabilize.ensures c.args.types.now)

pub returns-in-Block : goal.returns-in-Block
returns-in-Block c =
    head_one c.args.head.now _ c.args.parts.now c.args.types.now c.args.types.now c.in-Block.is c.block.result
    (subst (λ slots. IsComputed c.args.types.now c.args.types.now c.block.result (λ all. block_of slots (map (type_of all) c.args.parts.now))) c.all.ensures (c.block.ensures c.args.types.now c.requires))
