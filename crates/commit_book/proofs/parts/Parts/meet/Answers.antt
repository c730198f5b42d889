use Rattle.std.proofs.Common.{rules, ◌≡◌, ℕ, ◌<◌, ◌≤◌, not, nat_eq, [], ◌∷◌, ◌++◌, refl, sym, ap, subst, ◌∙◌}
use Rattle.std.specs.Prelude.{IsSomeAnd}
use Rattle.std.specs.List.{All}
use Rattle.std.specs.FinMap as map
use Rattle.stab_code.specs.Program.{ProgramParts}
use Rattle.comm_graph.specs.declared.node.NodeFor.TheVariants as node
use Rattle.comm_graph.specs.Node.{Node}
use Rattle.step_eval.specs.ControlView.{ControlView}
use Rattle.commit_book.specs.declared.parts.Parts.{Parts}
use Rattle.commit_book.specs.Meetings.{CanMeetAs, partner_in}
use Rattle.commit_book.proofs.Acting.CommCalls.{few_first, few_second, mate_there, own_there, saved_low, store_still, two_apart, exchange_lasts}
use Rattle.commit_book.proofs.Acting.MeetNeeds.{may_meet, partner_may}
use Rattle.commit_book.proofs.Acting.Narrow.{narrow}
use Rattle.commit_book.proofs.Acting.PairNeeds.{meeting_label, nodes_low}
use Rattle.commit_book.proofs.Keeping.SeenAfter.{kept_same}
use Rattle.commit_book.proofs.Acting.SingleActs.{few_at, may_begin}
use Rattle.commit_book.proofs.parts.Parts.meet.Goals as goal

pub plan_meeting-requires-clause-few : goal.plan_meeting-requires-clause-few
plan_meeting-requires-clause-few c =
    few_at c.args.job.now c.args.self.now c.args.lease.now c.args.progress c.requires.may

pub plan_meeting-requires-clause-own : goal.plan_meeting-requires-clause-own
plan_meeting-requires-clause-own c =
    subst (λ (p : ProgramParts). CanMeetAs (nat_eq c.args.meeting.sender.0 c.thread-t.result.0) p c.args.meeting.chan.0 c.end.result.now) (sym (c.deref.ensures ∙ c.program.ensures.value))
    (subst (λ (g : ControlView). CanMeetAs (nat_eq c.args.meeting.sender.0 c.thread-t.result.0) c.args.job.now.program c.args.meeting.chan.0 g) (sym c.end.ensures.end)
    (subst (λ (k : ℕ). CanMeetAs (nat_eq c.args.meeting.sender.0 k) c.args.job.now.program c.args.meeting.chan.0 c.args.progress.end) (sym c.thread-t.ensures) (may_meet c.args.job.now c.args.self.now c.args.lease.now c.args.progress c.requires.may c.requires.meets.offer c.requires.meets.offers c.args.meeting c.requires.meets.meets).own))

pub plan_meeting-requires-clause-partner : goal.plan_meeting-requires-clause-partner
plan_meeting-requires-clause-partner c =
    subst (λ (p : ProgramParts). IsSomeAnd (map.get c.args.self.now.slots.threads (partner_in c.thread-t.result.0 c.args.meeting)) (λ slot. CanMeetAs (not (nat_eq c.args.meeting.sender.0 c.thread-t.result.0)) p c.args.meeting.chan.0 slot.control)) (sym (c.deref.ensures ∙ c.program.ensures.value))
    (subst (λ (k : ℕ). IsSomeAnd (map.get c.args.self.now.slots.threads (partner_in k c.args.meeting)) (λ slot. CanMeetAs (not (nat_eq c.args.meeting.sender.0 k)) c.args.job.now.program c.args.meeting.chan.0 slot.control)) (sym c.thread-t.ensures) (partner_may c.args.job.now c.args.self.now c.args.lease.now c.args.progress c.requires.may c.requires.meets.offer c.requires.meets.offers c.args.meeting c.requires.meets.meets))

pub returns-in_default-clause-back : goal.returns-in_default-clause-back
returns-in_default-clause-back c =
    refl

pub returns-in_default-clause-err : goal.returns-in_default-clause-err
returns-in_default-clause-err c =
    c.in_default.ensures.before

pub returns-in_default-clause-kept : goal.returns-in_default-clause-kept
returns-in_default-clause-kept c =
    kept_same c.args.job.now c.args.self.now c.plan_meeting.new.self c.in_default.ensures.before c.requires.may.kept

pub begin-end-requires : goal.begin-end-requires
begin-end-requires c =
    may_begin c.args.job.now c.args.self.now c.args.lease.now c.args.progress c.requires.may c.plan_meeting.new.self c.in-Ok.ensures.before c.in-Ok.ensures.spare

pub push-q-requires-clause-more : goal.push-q-requires-clause-more
push-q-requires-clause-more c =
    c.begin-end.ensures.more

pub push-q-requires-clause-label : goal.push-q-requires-clause-label
push-q-requires-clause-label c =
    meeting_label c.args.job.now c.args.self.now c.args.lease.now c.args.progress c.requires.may c.requires.meets.offer c.requires.meets.offers c.args.meeting c.requires.meets.meets

pub add-requires-clause-spare : goal.add-requires-clause-spare
add-requires-clause-spare c =
    subst (λ (n : ℕ). 1 ≤ n) (sym (ap (λ (k : Parts). k.graph.spare) c.push-q.ensures.rest ∙ ap (λ (k : Parts). k.graph.spare) c.begin-end.ensures.rest)) c.in-Ok.ensures.node

pub add-requires-clause-above : goal.add-requires-clause-above
add-requires-clause-above c =
    subst (λ ns. All (λ (n : Node). n.number < c.push-q.result.0) ns) (sym (ap (λ (k : Parts). k.graph.nodes) c.push-q.ensures.rest))
    (nodes_low c.args.job.now c.args.self.now c.args.lease.now c.args.progress c.requires.may c.plan_meeting.new.self c.begin-end.new.self c.in-Ok.ensures.before c.begin-end.ensures.history c.begin-end.ensures.rest c.push-q.result c.push-q.ensures.number)

pub go_on-before-requires-clause-there : goal.go_on-before-requires-clause-there
go_on-before-requires-clause-there c =
    let noted : Parts = record c.push-q.new.self { graph = c.add.new.self } in
    let withdrawn : Parts = record noted { offers = c.withdraw.new.self } in
    let noted_rest : noted ≡ record c.begin-end.new.self { history = noted.history; graph = noted.graph } = ap (λ (k : Parts). record k { graph = c.add.new.self }) c.push-q.ensures.rest in
    mate_there c.args.job.now c.args.self.now c.args.lease.now c.args.progress c.requires.may c.requires.meets.offer c.requires.meets.offers c.args.meeting c.requires.meets.meets c.plan_meeting.new.self c.begin-end.new.self noted withdrawn c.in-Ok.ensures.before c.begin-end.ensures.history c.begin-end.ensures.rest noted_rest refl c.partner_of-u.result.0 (c.partner_of-u.ensures ∙ ap (λ (k : ℕ). partner_in k c.args.meeting) c.thread-t.ensures)

pub go_on-before-requires-clause-few : goal.go_on-before-requires-clause-few
go_on-before-requires-clause-few c =
    let noted : Parts = record c.push-q.new.self { graph = c.add.new.self } in
    let withdrawn : Parts = record noted { offers = c.withdraw.new.self } in
    let noted_rest : noted ≡ record c.begin-end.new.self { history = noted.history; graph = noted.graph } = ap (λ (k : Parts). record k { graph = c.add.new.self }) c.push-q.ensures.rest in
    few_first c.args.job.now c.args.self.now c.args.lease.now c.args.progress c.requires.may c.requires.meets.offer c.requires.meets.offers c.args.meeting c.requires.meets.meets c.plan_meeting.new.self c.begin-end.new.self noted withdrawn c.in-Ok.ensures.before c.begin-end.ensures.history c.begin-end.ensures.rest noted_rest refl

pub go_on-requires-clause-there : goal.go_on-requires-clause-there
go_on-requires-clause-there c =
    let noted : Parts = record c.push-q.new.self { graph = c.add.new.self } in
    let withdrawn : Parts = record noted { offers = c.withdraw.new.self } in
    let noted_rest : noted ≡ record c.begin-end.new.self { history = noted.history; graph = noted.graph } = ap (λ (k : Parts). record k { graph = c.add.new.self }) c.push-q.ensures.rest in
    own_there c.args.job.now c.args.self.now c.args.lease.now c.args.progress c.requires.may c.requires.meets.offer c.requires.meets.offers c.args.meeting c.requires.meets.meets c.plan_meeting.new.self c.begin-end.new.self noted withdrawn c.in-Ok.ensures.before c.begin-end.ensures.history c.begin-end.ensures.rest noted_rest refl c.in-Ok.mine c.in-Ok.other c.go_on-before.result c.thread-t.result.0 c.partner_of-u.result.0 c.deref.result.now c.end.result.now (c.deref.ensures ∙ c.program.ensures.value) c.thread-t.ensures c.partner_of-u.ensures c.end.ensures.end c.in-Ok.ensures.met c.go_on-before.new.self c.go_on-before.ensures.before c.go_on-before.ensures.gone

pub go_on-requires-clause-few : goal.go_on-requires-clause-few
go_on-requires-clause-few c =
    let noted : Parts = record c.push-q.new.self { graph = c.add.new.self } in
    let withdrawn : Parts = record noted { offers = c.withdraw.new.self } in
    let noted_rest : noted ≡ record c.begin-end.new.self { history = noted.history; graph = noted.graph } = ap (λ (k : Parts). record k { graph = c.add.new.self }) c.push-q.ensures.rest in
    few_second c.args.job.now c.args.self.now c.args.lease.now c.args.progress c.requires.may c.requires.meets.offer c.requires.meets.offers c.args.meeting c.requires.meets.meets c.plan_meeting.new.self c.begin-end.new.self noted withdrawn c.in-Ok.ensures.before c.begin-end.ensures.history c.begin-end.ensures.rest noted_rest refl c.in-Ok.mine c.in-Ok.other c.go_on-before.result c.thread-t.result.0 c.partner_of-u.result.0 c.deref.result.now c.end.result.now (c.deref.ensures ∙ c.program.ensures.value) c.thread-t.ensures c.partner_of-u.ensures c.end.ensures.end c.in-Ok.ensures.met c.go_on-before.new.self c.go_on-before.ensures.before c.go_on-before.ensures.gone

pub save_both-requires-clause-spare : goal.save_both-requires-clause-spare
save_both-requires-clause-spare c =
    let noted : Parts = record c.push-q.new.self { graph = c.add.new.self } in
    let withdrawn : Parts = record noted { offers = c.withdraw.new.self } in
    let noted_rest : noted ≡ record c.begin-end.new.self { history = noted.history; graph = noted.graph } = ap (λ (k : Parts). record k { graph = c.add.new.self }) c.push-q.ensures.rest in
    subst (λ (n : ℕ). 2 ≤ n) (sym (ap (λ k. k.spare) (store_still c.args.job.now c.args.self.now c.args.lease.now c.args.progress c.requires.may c.requires.meets.offer c.requires.meets.offers c.args.meeting c.requires.meets.meets c.plan_meeting.new.self c.begin-end.new.self noted withdrawn c.in-Ok.ensures.before c.begin-end.ensures.history c.begin-end.ensures.rest noted_rest refl c.in-Ok.mine c.in-Ok.other c.go_on-before.result c.thread-t.result.0 c.partner_of-u.result.0 c.deref.result.now c.end.result.now (c.deref.ensures ∙ c.program.ensures.value) c.thread-t.ensures c.partner_of-u.ensures c.end.ensures.end c.in-Ok.ensures.met c.go_on-before.new.self c.go_on-before.ensures.before c.go_on-before.ensures.gone c.go_on.new.self c.go_on.result c.go_on.ensures.before c.go_on.ensures.gone c.push-q.result c.push-q.ensures.number) ∙ ap (λ (k : Parts). k.store.spare) c.begin-end.ensures.rest)) c.in-Ok.ensures.places

pub save_both-requires-clause-number : goal.save_both-requires-clause-number
save_both-requires-clause-number c =
    narrow c.args.job.now c.args.self.now c.args.lease.now c.args.progress c.requires.may c.plan_meeting.new.self c.begin-end.new.self c.in-Ok.ensures.before c.begin-end.ensures.history c.push-q.result.0 c.push-q.ensures.number

pub save_both-requires-clause-last : goal.save_both-requires-clause-last
save_both-requires-clause-last c =
    let noted : Parts = record c.push-q.new.self { graph = c.add.new.self } in
    let withdrawn : Parts = record noted { offers = c.withdraw.new.self } in
    let noted_rest : noted ≡ record c.begin-end.new.self { history = noted.history; graph = noted.graph } = ap (λ (k : Parts). record k { graph = c.add.new.self }) c.push-q.ensures.rest in
    saved_low c.args.job.now c.args.self.now c.args.lease.now c.args.progress c.requires.may c.requires.meets.offer c.requires.meets.offers c.args.meeting c.requires.meets.meets c.plan_meeting.new.self c.begin-end.new.self noted withdrawn c.in-Ok.ensures.before c.begin-end.ensures.history c.begin-end.ensures.rest noted_rest refl c.in-Ok.mine c.in-Ok.other c.go_on-before.result c.thread-t.result.0 c.partner_of-u.result.0 c.deref.result.now c.end.result.now (c.deref.ensures ∙ c.program.ensures.value) c.thread-t.ensures c.partner_of-u.ensures c.end.ensures.end c.in-Ok.ensures.met c.go_on-before.new.self c.go_on-before.ensures.before c.go_on-before.ensures.gone c.go_on.new.self c.go_on.result c.go_on.ensures.before c.go_on.ensures.gone c.push-q.result c.push-q.ensures.number

pub save_both-requires-clause-apart : goal.save_both-requires-clause-apart
save_both-requires-clause-apart c =
    let noted : Parts = record c.push-q.new.self { graph = c.add.new.self } in
    let withdrawn : Parts = record noted { offers = c.withdraw.new.self } in
    let noted_rest : noted ≡ record c.begin-end.new.self { history = noted.history; graph = noted.graph } = ap (λ (k : Parts). record k { graph = c.add.new.self }) c.push-q.ensures.rest in
    two_apart c.args.job.now c.args.self.now c.args.lease.now c.args.progress c.requires.may c.requires.meets.offer c.requires.meets.offers c.args.meeting c.requires.meets.meets c.plan_meeting.new.self c.begin-end.new.self noted withdrawn c.in-Ok.ensures.before c.begin-end.ensures.history c.begin-end.ensures.rest noted_rest refl c.in-Ok.mine c.in-Ok.other c.go_on-before.result c.thread-t.result.0 c.partner_of-u.result.0 c.deref.result.now c.end.result.now (c.deref.ensures ∙ c.program.ensures.value) c.thread-t.ensures c.partner_of-u.ensures c.end.ensures.end c.in-Ok.ensures.met c.go_on-before.new.self c.go_on-before.ensures.before c.go_on-before.ensures.gone

pub returns : goal.returns
returns c =
    let noted : Parts = record c.push-q.new.self { graph = c.add.new.self } in
    let withdrawn : Parts = record noted { offers = c.withdraw.new.self } in
    let noted_rest : noted ≡ record c.begin-end.new.self { history = noted.history; graph = noted.graph } = ap (λ (k : Parts). record k { graph = c.add.new.self }) c.push-q.ensures.rest in
    let lasts = exchange_lasts c.args.job.now c.args.self.now c.args.lease.now c.args.progress c.requires.may c.requires.meets.offer c.requires.meets.offers c.args.meeting c.requires.meets.meets c.plan_meeting.new.self c.begin-end.new.self noted withdrawn c.in-Ok.ensures.before c.begin-end.ensures.history c.begin-end.ensures.rest noted_rest refl c.in-Ok.mine c.in-Ok.other c.go_on-before.result c.thread-t.result.0 c.partner_of-u.result.0 c.deref.result.now c.end.result.now (c.deref.ensures ∙ c.program.ensures.value) c.thread-t.ensures c.partner_of-u.ensures c.end.ensures.end c.in-Ok.ensures.met c.go_on-before.new.self c.go_on-before.ensures.before c.go_on-before.ensures.gone c.go_on.new.self c.go_on.result c.go_on.ensures.before c.go_on.ensures.gone c.push-q.result c.push-q.ensures.number c.begin-end.result c.begin-end.ensures.end c.thread-t.result c.partner_of-u.result refl refl
    c.push-q.ensures.history (ap (λ k. k.nodes) c.add.ensures ∙ ap (λ (k : Parts). k.graph.nodes ++ record { number = c.push-q.result.0; kind = node.Comm c.args.meeting.sender c.args.meeting.receiver } ∷ []) c.push-q.ensures.rest)
    c.withdraw.ensures.lines c.withdraw.ensures.offers c.save_both.new.self c.save_both.ensures.rest c.save_both.ensures.saved in
    record { done = lasts.0; back = search rules; err = search rules; kept = lasts.1 }
