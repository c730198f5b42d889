-- What was told of the line in which the input ends.
use Rattle.std.proofs.Common.{◌≡◌, ◌∙◌, ◌++◌, ◌∷◌, [], Bool, true, false, List, if◌then◌else◌, ap, sym, append_assoc}
use Rattle.std.proofs.lemmas.Bool.{false≢true}
use Rattle.rtrb.specs.Ring.{sent}
use Rattle.number_source.specs.declared.came.Came.{Came}
use Rattle.number_source.specs.declared.came.Came.TheVariants.{End}
use Rattle.number_source.specs.Input.{IsTold, followed}
use Rattle.number_source.proofs.Telling.{followed_last, told_front, told_nothing, told_whole}
use Rattle.number_source.proofs.reading.end_input.Goals as goal

-- one answer, which was put or not
one_put : (answers old new : List Came) (answer : Came) (result : Bool) → answers ≡ answer ∷ [] → new ≡ (if result then old ++ answer ∷ [] else old) → IsTold answers old new
one_put answers old new answer true are put = told_whole answers old new (put ∙ ap (λ (xs : List Came). old ++ xs) (sym are))
one_put answers old new answer false are put = told_nothing answers old new put

put_whole : (answers old new : List Came) (answer : Came) (result : Bool) → answers ≡ answer ∷ [] → new ≡ (if result then old ++ answer ∷ [] else old)
    → result ≡ true → new ≡ old ++ answers
put_whole answers old new answer true are put _ = put ∙ ap (λ (xs : List Came). old ++ xs) (sym are)
put_whole answers old new answer false are put is = absurd (false≢true is)

-- a second answer, after the first was put
second_put : (answers old mid new : List Came) (first second : Came) (result : Bool) → answers ≡ first ∷ second ∷ [] → mid ≡ old ++ first ∷ []
    → new ≡ (if result then mid ++ second ∷ [] else mid) → IsTold answers old new
second_put answers old mid new first second true are before put = told_whole answers old new
    (put ∙ ap (λ (xs : List Came). xs ++ second ∷ []) before ∙ append_assoc old (first ∷ []) (second ∷ []) ∙ ap (λ (xs : List Came). old ++ xs) (sym are))
second_put answers old mid new first second false are before put = told_front answers old new (first ∷ []) (second ∷ []) are (put ∙ before)

pub returns-in-Nothing-clause-part : goal.returns-in-Nothing-clause-part
returns-in-Nothing-clause-part g c = one_put _ _ _ End c.put.result c.in-Nothing.ensures c.put.ensures

pub returns-then-put-clause-part : goal.returns-then-put-clause-part
returns-then-put-clause-part g c = second_put _ _ (sent c.put-in-Number.new.self.queue) _ c.end-answer.result End c.put-then-put.result (c.end-answer.ensures ∙ ap (λ a. followed a (End ∷ [])) c.in-Number.is ∙ ap (λ (a : Came). a ∷ End ∷ []) (sym c.in-Number.is)) c.if-put.ensures c.put-then-put.ensures

pub returns-else-put-clause-part : goal.returns-else-put-clause-part
returns-else-put-clause-part g c = told_nothing _ _ _ c.if-put.ensures

pub returns-in_default : goal.returns-in_default
returns-in_default g c =
    let are = c.end-answer.ensures ∙ followed_last c.end-answer.result (End ∷ []) c.in_default.not-Nothing c.in_default.not-Number in record {
      all = put_whole _ _ _ c.end-answer.result c.put-in_default.result are c.put-in_default.ensures;
      part = one_put _ _ _ c.end-answer.result c.put-in_default.result are c.put-in_default.ensures;
    }
