-- What was told where reading stops, and where it goes on.
use Rattle.std.proofs.Common.{sym, subst}
use Rattle.rtrb.specs.Ring.{sent}
use Rattle.number_source.specs.Input.{IsTold, answers_on}
use Rattle.number_source.proofs.Telling.{ended_part, read_byte, tells_failed, tells_last, tells_last_part, tells_no_more, tells_number, where_known}
use Rattle.number_source.proofs.reading.read_input.Goals as goal

pub returns-in_default-clause-part : goal.returns-in_default-clause-part
returns-in_default-clause-part g c = where_known _ _ (λ bytes is. tells_failed _ _ _ _ _ _ c.put.result (c.loop-byte.invariant.tells bytes is) c.put.ensures)

pub returns-then-not-put-clause-part : goal.returns-then-not-put-clause-part
returns-then-not-put-clause-part g c = where_known _ _ (λ bytes is.
    subst (λ q. IsTold (answers_on c.args.line bytes) (sent c.args.out.now.queue) q) (sym c.if-not-put.ensures)
    (tells_no_more _ _ _ (answers_on c.take-answer.new.self) _ _ _ c.in-Ok.byte (c.loop-byte.invariant.tells bytes is) (read_byte _ _ _ _ c.in-Some.ensures.steps c.in-Ok.is) c.take-answer.result c.take-answer.ensures))

pub loop-byte-preserved : goal.loop-byte-preserved
loop-byte-preserved g c = record {
  can_next = tt;
  is_finite = tt;
  tells = λ bytes is. tells_number _ _ _ _ _ _ _ c.in-Ok.byte (c.loop-byte.invariant.tells bytes is) (read_byte _ _ _ _ c.in-Some.ensures.steps c.in-Ok.is) c.take-answer.result c.in-Number.field-0 _ c.take-answer.ensures c.in-Number.is c.if-not-put.ensures;
}

pub returns-in_default-answer : goal.returns-in_default-answer
returns-in_default-answer g c = record {
  all = where_known _ _ (λ bytes is.
      tells_last _ _ _ (answers_on c.take-answer.new.self) _ _ _ c.in-Ok.byte (c.loop-byte.invariant.tells bytes is) (read_byte _ _ _ _ c.in-Some.ensures.steps c.in-Ok.is) c.take-answer.result _ c.put-in_default-answer.result
      c.take-answer.ensures c.in_default-answer.not-Nothing c.in_default-answer.not-Number c.put-in_default-answer.ensures);
  part = where_known _ _ (λ bytes is.
      tells_last_part _ _ _ (answers_on c.take-answer.new.self) _ _ _ c.in-Ok.byte (c.loop-byte.invariant.tells bytes is) (read_byte _ _ _ _ c.in-Some.ensures.steps c.in-Ok.is) c.take-answer.result _ c.put-in_default-answer.result
      c.take-answer.ensures c.in_default-answer.not-Nothing c.in_default-answer.not-Number c.put-in_default-answer.ensures);
}

pub returns-clause-part : goal.returns-clause-part
returns-clause-part g c = where_known _ _ (λ bytes is. ended_part _ _ _ _ _ _ (c.loop-byte.invariant.tells bytes is) c.in-None.ensures.steps c.end_input.ensures.part)
