use mathlib.Core.Path.{◌∙◌, ap}
use Rattle.rules.specs.Ledger as rules
use Rattle.run_form.specs.Forms.{form_as}
use Rattle.cabinet.specs.Kept.{cabinet_as}
use Rattle.runs.specs.Judged.{prepared_seen}
use Rattle.cabinet_runs.proofs.Laws.{slot_missing, slot_there}
use borrow.Author.Rules.{rules}
use Rattle.cabinet_runs.proofs.prepared_judged.Goals as goal

pub returns-then-slot-ge-SLOTS : goal.returns-then-slot-ge-SLOTS
returns-then-slot-ge-SLOTS c = c.no_slot.ensures _ ∙ slot_missing _ _ _ _ c.if-slot-ge-SLOTS.true

pub returns : goal.returns
returns c = let a = c.args in
    slot_there (cabinet_as a.cabinet) a.slot a.answers.now _ _ _ c.if-slot-ge-SLOTS.false (c.put_back.ensures _)
    (c.prepared_judged-o.ensures ∙ ap (λ (m : rules.Ledger). prepared_seen m a.asked.now.km0.now a.asked.now.acl.now a.asked.now.seen (form_as a.form) a.asked.now.requests.now a.answers.now) c.slot_ledger.ensures)
