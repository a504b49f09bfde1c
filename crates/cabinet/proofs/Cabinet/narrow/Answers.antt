use mathlib.Core.Path.{◌≡◌, refl}
use mathlib.Core.List.{[]}
use mathlib.Core.Bool.{true}
use lib.ListN.{get_or}
use Rattle.rules.specs.Acl.{acl_of}
use Rattle.rules.specs.Request.{request_of, hints_of}
use Rattle.rules.specs.Ledger.{Ledger}
use Rattle.rules.specs.Gate.{narrow}
use Rattle.rules.specs.Cabinet.{cabinet_narrow}
use Rattle.gate_decision.specs.Standings.{ledger_of_tables}
use Rattle.gate_charge.specs.Charges.{answer_as}
use Rattle.gate_counts.specs.Carried.{counts_after}
use Rattle.gate.specs.Outcomes.{narrowed_counts, Settles}
use Rattle.gate.proofs.Replacing.{narrow_outcome}
use Rattle.cabinet.specs.declared.Slot.{Slot}
use borrow.Author.Rules.{rules}
use Rattle.cabinet.proofs.Laws.{slot_called, settled_in}
use Rattle.cabinet.proofs.Cabinet.narrow.Goals as goal

pub charge_count-requires : goal.charge_count-requires
unfolding counts_after
charge_count-requires c =
    let a = c.args in
    let s : Slot = get_or a.self.slots c.slot_index-at.result (record { counts = []; loaded = 0; last = 0 }) in
    let l : Ledger = ledger_of_tables c.counts_of-counts.result a.self.counters s.loaded s.last in
    let told : c.is_slot-there.result ≡ true → Settles l (acl_of a.acl.now) (request_of a.req.now).time (narrowed_counts (hints_of a.hints.now)) (answer_as c.reply_in-reply.result) (narrow l a.km0.now a.acl.now a.req.now a.new.now a.hints.now) =
    λ t. (let h = c.reply_in-reply.ensures.reply t in search rules) in
    let settled = settled_in l (acl_of a.acl.now) (request_of a.req.now).time (narrowed_counts (hints_of a.hints.now)) (narrow l a.km0.now a.acl.now a.req.now a.new.now a.hints.now) _ _ refl told c.reply_in-reply.ensures.none in
    (c.counts_of-counts.ensures.1, settled.count_room)

pub hand_back-requires : goal.hand_back-requires
unfolding counts_after
hand_back-requires c =
    let a = c.args in
    let s : Slot = get_or a.self.slots c.slot_index-at.result (record { counts = []; loaded = 0; last = 0 }) in
    let l : Ledger = ledger_of_tables c.counts_of-counts.result a.self.counters s.loaded s.last in
    let told : c.is_slot-there.result ≡ true → Settles l (acl_of a.acl.now) (request_of a.req.now).time (narrowed_counts (hints_of a.hints.now)) (answer_as c.reply_in-reply.result) (narrow l a.km0.now a.acl.now a.req.now a.new.now a.hints.now) =
    λ t. (let h = c.reply_in-reply.ensures.reply t in search rules) in
    let settled = settled_in l (acl_of a.acl.now) (request_of a.req.now).time (narrowed_counts (hints_of a.hints.now)) (narrow l a.km0.now a.acl.now a.req.now a.new.now a.hints.now) _ _ refl told c.reply_in-reply.ensures.none in
    (c.slot_index-at.ensures.0, settled.counters_room)

pub returns : goal.returns
unfolding cabinet_narrow counts_after
returns c =
    let a = c.args in
    let s : Slot = get_or a.self.slots c.slot_index-at.result (record { counts = []; loaded = 0; last = 0 }) in
    let l : Ledger = ledger_of_tables c.counts_of-counts.result a.self.counters s.loaded s.last in
    let told : c.is_slot-there.result ≡ true → Settles l (acl_of a.acl.now) (request_of a.req.now).time (narrowed_counts (hints_of a.hints.now)) (answer_as c.reply_in-reply.result) (narrow l a.km0.now a.acl.now a.req.now a.new.now a.hints.now) =
    λ t. (let h = c.reply_in-reply.ensures.reply t in search rules) in
    let settled = settled_in l (acl_of a.acl.now) (request_of a.req.now).time (narrowed_counts (hints_of a.hints.now)) (narrow l a.km0.now a.acl.now a.req.now a.new.now a.hints.now) _ _ refl told c.reply_in-reply.ensures.none in
    slot_called a.self.slots _ a.self.counters a.slot _ _ (λ (m : Ledger). narrow m a.km0.now a.acl.now a.req.now a.new.now a.hints.now) _ _ c.is_slot-there.ensures c.slot_index-at.ensures.1 c.counts_of-counts.ensures.0
    (narrow_outcome _ _ _ _ _ _ _ _ _ _ _ settled refl c.charge_count.ensures.1 c.carry_counts.ensures c.last_after-after.ensures c.time.ensures) c.hand_back.ensures
