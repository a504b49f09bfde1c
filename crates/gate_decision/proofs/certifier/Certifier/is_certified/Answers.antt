use mathlib.Core.Path.{◌∙◌}
use Rattle.rules.specs.Request.{request_of}
use Rattle.gate_decision.proofs.Laws.{told_again}
use Rattle.gate_decision.proofs.certifier.Certifier.is_certified.Goals as goal
use Rattle.gate_decision.proofs.certifier.Certifier.is_certified.Goals.{in-Some, in_default}

pub invariant_of-self : goal.invariant_of-self
invariant_of-self c = record {
  told = elim c.match-self.branch [
    | in-Some w ↦
        let t = rw w.in-Some.is at c.args.self.now.told in
        w.answer-is ∙ told_again (request_of c.args.self.now.presented.now.req.now) w.in-Some.last.now c.args.group.now _ _ t w.same_bytes.ensures w.if-same_bytes.true
    | in_default w ↦ w.answer-is ∙ w.is_certified-answer.ensures
  ];
}
